-- At each store of a piece the buffers of what it loads are in scope, and the claims by which it does are in force; behind the first nest, the update of the nest is
-- under way, from the claim of the nest before.
use Rattle.std.proofs.Common.{◌≡◌, ℕ, zero, suc, ◌+◌, ◌-◌, ◌*◌, ◌<◌, Bool, true, false, ◌&&◌, ◌||◌, not, List, [], ◌∷◌, ◌++◌, length, map, Some, refl, sym, ap, ◌∙◌, subst}
use Rattle.std.proofs.Common.{inl, inr, ◌⊎◌, arith}
use Rattle.std.specs.Prelude.{◌==◌, if◌then◌else◌, filter, flat_map, slice_get}
use Rattle.std.specs.List.{list_any}
use Rattle.std.proofs.lemmas.Bool.Decides.{nat_tests}
use Rattle.std.proofs.lemmas.Option.{slice_get_within}
use Rattle.lin.specs.declared.span.Span1.{Span1}
use Rattle.lin.specs.declared.scope.Binding.{Binding}
use Rattle.plan.specs.declared.stmt.Places.{Places}
use Rattle.plan.specs.declared.certificate.cert.Claim.{Claim as CodeClaim}
use Rattle.plan.specs.declared.certificate.cert.Need.{Need}
use Rattle.plan.specs.Plan.{Statement, Seq, For, Let, First, Guard, Alloc, Fetch, Store, Publish, Statements, Empty, Then, block}
use Rattle.plan.specs.Lines.{lines, block_lines}
use Rattle.plan.specs.Certificate.Certificate.{Claim}
use Rattle.meaning.specs.Names.{same_name}
use Rattle.soundness.specs.Claims.{changes, block_changes, updates, block_updates, is_update}
use Rattle.soundness.specs.Origins.{Outline}
use Rattle.soundness.specs.Obligations.{Known, Rules, Updating, is_member, places_of, is_left, is_next, follows, nests_of, makes, more_buffers, within, onwards, in_block, in_loop, in_guard}
use Rattle.soundness.proofs.Refines.{eq_refl, eq_true, name_refl}
use Rattle.sched.specs.declared.skeleton.Step.{Step}
use Rattle.sched.specs.declared.skeleton.Step.TheVariants.{Turns, Named, Tested}
use Rattle.sched.specs.Runs.{lines_to}
use Rattle.sched.specs.Skeleton.{NestText}
use Rattle.sched.specs.Stored.{FormulaText, StoredText}
use Rattle.sched.specs.Loading.{Loads}
use Rattle.blocks.specs.Bodies.{step_lines, IsStore, AreNests}
use Rattle.sched.specs.Fetches.{Entry}
use Rattle.blocks.specs.Fetches.{FetchText, with_fetches}
use Rattle.lower.specs.Fetches.{Calls, AreFetched, loads_from}
use Rattle.completeness.specs.Laws.{IsStore as IsStoreLine}
use Rattle.completeness.specs.Owed.{EachLine, EachOf}
use Rattle.completeness.proofs.Standing.{AreLets}

-- ---- lists

either_true : (b d : Bool) → d ≡ true → (b || d) ≡ true
either_true true d e = refl
either_true false d e = e

any_right : {A : Type 0} (f : A → Bool) (xs ys : List A) → list_any f ys ≡ true → list_any f (xs ++ ys) ≡ true
any_right f [] ys h = h
any_right f (x ∷ xs) ys h = either_true (f x) (list_any f (xs ++ ys)) (any_right f xs ys h)

any_left : {A : Type 0} (f : A → Bool) (xs ys : List A) → list_any f xs ≡ true → list_any f (xs ++ ys) ≡ true
any_left f [] ys h = absurd (cc h)
any_left f (x ∷ xs) ys h = of (f x) h (any_left f xs ys)
  where
    of : (b : Bool) → (b || list_any f xs) ≡ true → (list_any f xs ≡ true → list_any f (xs ++ ys) ≡ true) → (b || list_any f (xs ++ ys)) ≡ true
    of true e rest = refl
    of false e rest = rest e

pub any_weaker : {A : Type 0} (f g : A → Bool) → ((x : A) → f x ≡ true → g x ≡ true) → (xs : List A) → list_any f xs ≡ true → list_any g xs ≡ true
any_weaker f g w [] h = absurd (cc h)
any_weaker f g w (x ∷ xs) h = of (f x) refl h (any_weaker f g w xs)
  where
    of : (b : Bool) → f x ≡ b → (b || list_any f xs) ≡ true → (list_any f xs ≡ true → list_any g xs ≡ true) → (g x || list_any g xs) ≡ true
    of true e k rest = ap (λ (t : Bool). t || list_any g xs) (w x e)
    of false e k rest = either_true (g x) (list_any g xs) (rest k)

-- a member that the test keeps is one of what it keeps
pub member_kept : (p : ℕ → Bool) (c : ℕ) → p c ≡ true → (cs : List ℕ) → is_member c cs ≡ true → is_member c (filter p cs) ≡ true
member_kept p c t [] h = absurd (cc h)
member_kept p c t (d ∷ cs) h = of (d == c) refl h (member_kept p c t cs)
  where
    keep : (b : Bool) → is_member c (filter p cs) ≡ true → is_member c (if b then d ∷ filter p cs else filter p cs) ≡ true
    keep true e = either_true (d == c) (is_member c (filter p cs)) e
    keep false e = e

    of : (b : Bool) → (d == c) ≡ b → (b || is_member c cs) ≡ true → (is_member c cs ≡ true → is_member c (filter p cs) ≡ true) →
        is_member c (if p d then d ∷ filter p cs else filter p cs) ≡ true
    of true e k rest =
        ap (λ (b : Bool). is_member c (if b then d ∷ filter p cs else filter p cs)) (ap p (eq_true d c e) ∙ t) ∙ ap (λ (b : Bool). b || is_member c (filter p cs)) e
    of false e k rest = keep (p d) (rest k)

any_flat : {B : Type 0} (f : B → Bool) (g : ℕ → List B) (c : ℕ) → list_any f (g c) ≡ true → (xs : List ℕ) → is_member c xs ≡ true → list_any f (flat_map g xs) ≡ true
any_flat f g c h [] m = absurd (cc m)
any_flat f g c h (x ∷ xs) m = of (x == c) refl m (any_flat f g c h xs)
  where
    of : (b : Bool) → (x == c) ≡ b → (b || is_member c xs) ≡ true → (is_member c xs ≡ true → list_any f (flat_map g xs) ≡ true) → list_any f (g x ++ flat_map g xs) ≡ true
    of true e k rest = any_left f (g x) (flat_map g xs) (ap (λ (y : ℕ). list_any f (g y)) (eq_true x c e) ∙ h)
    of false e k rest = any_right f (g x) (flat_map g xs) (rest k)

any_mapped : {B : Type 0} (f : B → Bool) (g : ℕ → B) (c : ℕ) → f (g c) ≡ true → (xs : List ℕ) → is_member c xs ≡ true → list_any f (map g xs) ≡ true
any_mapped f g c h [] m = absurd (cc m)
any_mapped f g c h (x ∷ xs) m = of (x == c) refl m (any_mapped f g c h xs)
  where
    of : (b : Bool) → (x == c) ≡ b → (b || is_member c xs) ≡ true → (is_member c xs ≡ true → list_any f (map g xs) ≡ true) → (f (g x) || list_any f (map g xs)) ≡ true
    of true e k rest = ap (λ (b : Bool). b || list_any f (map g xs)) (ap (λ (y : ℕ). f (g y)) (eq_true x c e) ∙ h)
    of false e k rest = either_true (f (g x)) (list_any f (map g xs)) (rest k)

pub zero_other : (j : ℕ) → (0 == suc j) ≡ false
zero_other j = grind (arith, nat_tests)

split_last : (j i : ℕ) → j < suc i → (j < i) ⊎ (j ≡ i)
split_last zero zero h = inr refl
split_last zero (suc i) h = inl (omega arith)
split_last (suc j) zero h = absurd (omega (arith, h))
split_last (suc j) (suc i) h = elim (split_last j i (omega (arith, h))) [ inl e ↦ inl (omega (arith, e)) | inr e ↦ inr (ap suc e) ]

-- ---- what is known at a store

module _ (g : StoredText) (fs : List FormulaText) (nests : List NestText) (places : List Places) (fetches : List FetchText) (first : ℕ) where
  -- the number of the first nest's claim
  abbrev pub base : ℕ
  base = first + length fetches

  -- by what the nest of this number loads: what is fetched, and the function itself by the claims of the nests before
  abbrev pub all_loads : ℕ → Loads
  all_loads zero = loads_from first fetches
  all_loads (suc d) = all_loads d ++ (g.subject.name, base + d) ∷ []

  -- the claim of this number is in force, and the fetched buffer in scope
  abbrev pub Loaded : Known → ℕ → FetchText → Type 0
  Loaded known c f = (is_member c known.claims ≡ true) × (places_of known.buffers f.buffer ≡ Some f.places)

  abbrev pub Held : Known → Type 0
  Held known = (j : ℕ) (f : FetchText) → slice_get fetches j ≡ Some f → Loaded known (first + j) f

  abbrev pub HasOwn : Known → Type 0
  HasOwn known = places_of known.buffers 0 ≡ Some places

  -- the update of this nest is under way
  abbrev pub Under : ℕ → Known → Type 0
  Under zero known = Unit {0}
  Under (suc d) known = list_any (λ u. (u.before == base + d) && (u.next == base + suc d)) known.updating ≡ true

  -- the claim of the nest before came into force in this block
  abbrev pub Behind : ℕ → Known → Type 0
  Behind zero known = Unit {0}
  Behind (suc d) known = is_member (base + d) known.own ≡ true

  -- the store is one of this nest, by these loads
  pub record StoreAt (s : Statement) (known : Known) : Type 0 where
    pub definition : ℕ
    pub nest : NestText
    pub loads : Loads
    pub loaded : loads ≡ all_loads definition
    pub stands : slice_get nests definition ≡ Some nest
    pub stores : IsStore g fs loads definition nest s
    pub held : Held known
    pub own : HasOwn known
    pub under : Under definition known

  abbrev pub StoreHere : Statement → ℕ → Known → Type 0
  StoreHere s line known = IsStoreLine s → StoreAt s known

  -- the claim of the nest of this number is of the function's definition, in its own buffer
  abbrev pub IsOwn : ℕ → Claim → Type 0
  IsOwn d c = (c.buffer ≡ 0) × (c.function ≡ g.subject.name) × (c.definition ≡ d)

  not_store : (s : Statement) (line : ℕ) (known : Known) → (IsStoreLine s → ⊥) → StoreHere s line known
  not_store s line known none is = absurd (none is)

  module _ (O : Outline) (R : Rules) (seated : (j : ℕ) (f : FetchText) → slice_get fetches j ≡ Some f → f.buffer ≡ suc j)
      (buffered : (j : ℕ) (f : FetchText) → slice_get fetches j ≡ Some f → (O.claim (first + j)).buffer ≡ f.buffer)
      (claims_own : (d : ℕ) → d < length nests → IsOwn d (O.claim (base + d))) (named_own : O.setting.buffer_function 0 ≡ g.subject.name) where
    -- ---- what changes the own buffer alone

    abbrev Clean : Statement → Type 0
    Clean a = (b : ℕ) → (0 == b) ≡ false → changes a b ≡ false

    abbrev AllClean : Statements → Type 0
    AllClean code = (b : ℕ) → (0 == b) ≡ false → block_changes code b ≡ false

    left : (a : Statement) → Clean a → (j : ℕ) (f : FetchText) → slice_get fetches j ≡ Some f → is_left O R a (first + j) ≡ true
    left a clean j f at = ap (λ (b : ℕ). not (changes a b)) (buffered j f at ∙ seated j f at) ∙ ap not (clean (suc j) (zero_other j))

    store_clean : (ls : Loads) (d : ℕ) (w : NestText) (s : Statement) → IsStore g fs ls d w s → Clean s
    store_clean ls d w (Store b k at e) is = λ q other. ap (λ (c : ℕ). c == q) is.0 ∙ other
    store_clean ls d w (Seq xs) is = absurd is
    store_clean ls d w (For j x kind body) is = absurd is
    store_clean ls d w (Let j pick forms) is = absurd is
    store_clean ls d w (First j x y) is = absurd is
    store_clean ls d w (Guard low high body) is = absurd is
    store_clean ls d w (Alloc b x seats) is = absurd is
    store_clean ls d w (Fetch b x region) is = absurd is
    store_clean ls d w (Publish x) is = absurd is

    steps_clean : (s : Statement) → Clean s → (ts : List Step) → AllClean (lines_to ts (Then s Empty))
    steps_clean s clean [] b other = ap (λ (t : Bool). t || false) (clean b other)
    steps_clean s clean (Turns i x kind ∷ ts) b other = ap (λ (t : Bool). t || false) (steps_clean s clean ts b other)
    steps_clean s clean (Named i pick forms ∷ ts) b other = steps_clean s clean ts b other
    steps_clean s clean (Tested low high ∷ ts) b other = ap (λ (t : Bool). t || false) (steps_clean s clean ts b other)

    -- ---- what is held stays

    looped : (i : ℕ) (x : Span1) (body : Statement) (known : Known) → Clean body → Held known → Held (in_loop O R i x body known)
    looped i x body known clean h j f at = (let k = h j f at in (member_kept (is_left O R body) (first + j) (left body clean j f at) known.claims k.0, k.1))

    onward : (a : Statement) (next : List ℕ) (known : Known) → Clean a → more_buffers O R a known.buffers ≡ known.buffers → Held known → Held (onwards O R a next known)
    onward a next known clean more h j f at =
        let k = h j f at in (
          any_right (λ d. d == first + j) (makes O R a next) (filter (is_left O R a) known.claims) (member_kept (is_left O R a) (first + j) (left a clean j f at) known.claims k.0),
          ap (λ bs. places_of bs f.buffer) more ∙ k.1,
        )

    widened : (d : ℕ) (a : Statement) (next : List ℕ) (known : Known) → Under d known → Under d (within O R a next known)
    widened zero a next known h = tt
    widened (suc d) a next known h = any_right (λ (u : Updating). (u.before == base + d) && (u.next == base + suc d)) (nests_of O R a next known.own) known.updating h

    abbrev Inside : ℕ → Known → Type 0
    Inside d known = Held known × HasOwn known × Under d known

    let_clean : (i : ℕ) (pick : _) (forms : _) → Clean (Let i pick forms)
    let_clean i pick forms b other = refl

    let_under : (d i : ℕ) (pick : _) (forms : _) (next : List ℕ) (known : Known) → Under d known → Under d (onwards O R (Let i pick forms) next known)
    let_under zero i pick forms next known h = tt
    let_under (suc d) i pick forms next known h = h

    loop_under : (d i : ℕ) (x : Span1) (body : Statement) (known : Known) → Under d known → Under d (in_block O R (in_loop O R i x body known))
    loop_under zero i x body known h = tt
    loop_under (suc d) i x body known h = h

    guard_under : (d : ℕ) (low high : _) (known : Known) → Under d known → Under d (in_block O R (in_guard O R low high known))
    guard_under zero low high known h = tt
    guard_under (suc d) low high known h = h

    -- ---- down to a store

    module _ (d : ℕ) (s : Statement) (clean : Clean s) (stores : (line : ℕ) (known : Known) → Inside d known → EachLine O R StoreHere s line known) where
      abbrev code : List Step → Statements
      code ts = lines_to ts (Then s Empty)

      inside_each : (ts : List Step) (line : ℕ) (known : Known) → Inside d known → EachOf O R StoreHere (code ts) line known
      inside_each [] line known h = (
        stores line (within O R s (O.named (line + lines s - 1)) known) (h.0, h.1, widened d s (O.named (line + lines s - 1)) known h.2),
        tt,
      )
      inside_each (Turns i x kind ∷ ts) line known h =
          let body = Seq (code ts) in
          let a = For i x kind body in
          let next = O.named (line + lines a - 1) in
          let inner = within O R a next known in (
            inside_each ts (line + 1) (in_block O R (in_loop O R i x body inner))
                (looped i x body inner (steps_clean s clean ts) h.0, h.1, loop_under d i x body inner (widened d a next known h.2)),
            tt,
          )
      inside_each (Named i pick forms ∷ ts) line known h =
          let next = O.named (line + 1 - 1) in (
            not_store (Let i pick forms) line _ (λ f. f),
            inside_each ts (line + 1) (onwards O R (Let i pick forms) next known)
                (onward (Let i pick forms) next known (let_clean i pick forms) refl h.0, h.1, let_under d i pick forms next known h.2),
          )
      inside_each (Tested low high ∷ ts) line known h =
          let a = Guard low high (Seq (code ts)) in
          let next = O.named (line + lines a - 1) in
          let inner = within O R a next known in (
            inside_each ts (line + 1) (in_block O R (in_guard O R low high inner)) (h.0, h.1, guard_under d low high inner (widened d a next known h.2)),
            tt,
          )

      -- where the last line of the nest names its claim, the update begins with the statement behind its lets
      module _ (below : d < length nests) (updating : (e : ℕ) → d ≡ suc e → (ts : List Step) → block_updates O.setting (code ts) 0 g.subject.name ≡ true) where
        abbrev IsNamed : ℕ → Type 0
        IsNamed line = is_member (base + d) (O.named line) ≡ true

        begun : (a : Statement) (next : List ℕ) (known : Known) (e : ℕ) → e ≡ d → ((j : ℕ) → d ≡ suc j → updates O.setting a 0 g.subject.name ≡ true) → is_member (base + e) next ≡ true →
            Behind e known → Under e (within O R a next known)
        begun a next known zero same u m h = tt
        begun a next known (suc e) same u m h =
            let mine = claims_own (suc e) (subst (λ (n : ℕ). n < length nests) (sym same) below) in
            let theirs = claims_own e (omega (arith, below, same)) in
            let c = base + suc e in
            let b = base + e in
            let own_updates : updates O.setting a (O.claim c).buffer (O.claim c).function ≡ true = (λ i. updates O.setting a (mine.0 i) (mine.1 i)) ∙ u e (sym same) in
            let buffers : ((O.claim b).buffer == (O.claim c).buffer) ≡ true = (λ i. theirs.0 i == mine.0 i) in
            let names : same_name (O.claim b).function (O.claim c).function ≡ true = (λ i. same_name (theirs.1 i) (mine.1 i)) ∙ name_refl g.subject.name in
            let after : is_next (O.claim b).definition (O.claim c).definition ≡ true = (λ i. is_next (theirs.2 i) (mine.2 i)) ∙ eq_refl e in
            let follow : follows O R b c ≡ true = (λ i. (buffers i && names i) && after i) in
            let f = λ (u : Updating). (u.before == b) && (u.next == c) in
            let tests : f (record { before = b; next = c }) ≡ true = (let one = eq_refl b in let two = eq_refl c in λ i. one i && two i) in
            let pairs = any_mapped f (λ (x : ℕ). record { before = x; next = c }) b tests (filter (λ x. follows O R x c) known.own)
            (member_kept (λ x. follows O R x c) b follow known.own h) in
            any_left f (nests_of O R a next known.own) known.updating
            (any_flat f (λ (c : ℕ). map (λ (x : ℕ). record { before = x; next = c }) (filter (λ x. follows O R x c) known.own)) c pairs
            (filter (λ c. updates O.setting a (O.claim c).buffer (O.claim c).function) next)
            (member_kept (λ c. updates O.setting a (O.claim c).buffer (O.claim c).function) c own_updates next m))

        let_behind : (e i : ℕ) (pick : _) (forms : _) (next : List ℕ) (known : Known) → Behind e known → Behind e (onwards O R (Let i pick forms) next known)
        let_behind zero i pick forms next known h = tt
        let_behind (suc e) i pick forms next known h = member_kept (is_left O R (Let i pick forms)) (base + e) refl known.own h

        -- what a block of one statement does, that does
        first_of : (b : Bool) → (b && true) ≡ true → b ≡ true
        first_of true e = refl
        first_of false e = absurd (cc e)

        begin_each : (ts : List Step) (line : ℕ) (known : Known) → Held known → HasOwn known → Behind d known → IsNamed ((line + block_lines (code ts)) - 1) → EachOf O R StoreHere (code ts) line known
        begin_each [] line known h own behind named =
            let count : (line + (lines s + 0)) - 1 ≡ line + lines s - 1 = omega arith in
            let u = begun s (O.named (line + lines s - 1)) known d refl (λ j e. first_of (updates O.setting s 0 g.subject.name) (updating j e [])) (subst IsNamed count named) behind in
            (stores line (within O R s (O.named (line + lines s - 1)) known) (h, own, u), tt)
        begin_each (Turns i x kind ∷ ts) line known h own behind named =
            let body = Seq (code ts) in
            let a = For i x kind body in
            let next = O.named (line + lines a - 1) in
            let inner = within O R a next known in
            let count : (line + (lines a + 0)) - 1 ≡ line + lines a - 1 = omega arith in
            let u = begun a next known d refl (λ j e. updating j e ts) (subst IsNamed count named) behind in (
              inside_each ts (line + 1) (in_block O R (in_loop O R i x body inner)) (looped i x body inner (steps_clean s clean ts) h, own, loop_under d i x body inner u),
              tt,
            )
        begin_each (Named i pick forms ∷ ts) line known h own behind named =
            let next = O.named (line + 1 - 1) in
            let m = block_lines (code ts) in
            let count : (line + (1 + m)) - 1 ≡ ((line + 1) + m) - 1 = omega arith in (
              not_store (Let i pick forms) line _ (λ f. f),
              begin_each ts (line + 1) (onwards O R (Let i pick forms) next known) (onward (Let i pick forms) next known (let_clean i pick forms) refl h) own
                  (let_behind d i pick forms next known behind) (subst IsNamed count named),
            )
        begin_each (Tested low high ∷ ts) line known h own behind named =
            let a = Guard low high (Seq (code ts)) in
            let next = O.named (line + lines a - 1) in
            let inner = within O R a next known in
            let count : (line + (lines a + 0)) - 1 ≡ line + lines a - 1 = omega arith in
            let u = begun a next known d refl (λ j e. updating j e ts) (subst IsNamed count named) behind in
            (inside_each ts (line + 1) (in_block O R (in_guard O R low high inner)) (h, own, guard_under d low high inner u), tt)

    -- ---- behind a nest

    -- what is known behind some statements
    abbrev after : Statements → ℕ → Known → Known
    after Empty line known = known
    after (Then a rest) line known = after rest (line + lines a) (onwards O R a (O.named (line + lines a - 1)) known)

    -- the claim of this number came into force
    abbrev Past : ℕ → Known → Type 0
    Past c known = Held known × HasOwn known × (is_member c known.own ≡ true)

    abbrev IsNamedBy : ℕ → ℕ → Type 0
    IsNamedBy c line = is_member c (O.named line) ≡ true

    one_past : (c : ℕ) (a : Statement) (next : List ℕ) (known : Known) → Clean a → more_buffers O R a known.buffers ≡ known.buffers → makes O R a next ≡ next → Held known → HasOwn known →
        is_member c next ≡ true → Past c (onwards O R a next known)
    one_past c a next known clean more all h own m = (
      onward a next known clean more h,
      ap (λ bs. places_of bs 0) more ∙ own,
      any_left (λ d. d == c) (makes O R a next) (filter (is_left O R a) known.own) (subst (λ (ns : List ℕ). is_member c ns ≡ true) (sym all) m),
    )

    store_past : (c : ℕ) (ls : Loads) (d : ℕ) (w : NestText) (s : Statement) → IsStore g fs ls d w s → (line : ℕ) (known : Known) → Held known → HasOwn known →
        IsNamedBy c ((line + block_lines (Then s Empty)) - 1) → Past c (after (Then s Empty) line known)
    store_past c ls d w (Store b k at e) is line known h own named =
        let count : (line + (1 + 0)) - 1 ≡ line + 1 - 1 = omega arith in
        one_past c (Store b k at e) (O.named (line + 1 - 1)) known (store_clean ls d w (Store b k at e) is) refl refl h own (subst (IsNamedBy c) count named)
    store_past c ls d w (Seq xs) is line known h own named = absurd is
    store_past c ls d w (For j x kind body) is line known h own named = absurd is
    store_past c ls d w (Let j pick forms) is line known h own named = absurd is
    store_past c ls d w (First j x y) is line known h own named = absurd is
    store_past c ls d w (Guard low high body) is line known h own named = absurd is
    store_past c ls d w (Alloc b x seats) is line known h own named = absurd is
    store_past c ls d w (Fetch b x region) is line known h own named = absurd is
    store_past c ls d w (Publish x) is line known h own named = absurd is

    steps_past : (c : ℕ) (ls : Loads) (d : ℕ) (w : NestText) (s : Statement) → IsStore g fs ls d w s → (ts : List Step) (line : ℕ) (known : Known) → Held known → HasOwn known →
        IsNamedBy c ((line + block_lines (lines_to ts (Then s Empty))) - 1) → Past c (after (lines_to ts (Then s Empty)) line known)
    steps_past c ls d w s is [] line known h own named = store_past c ls d w s is line known h own named
    steps_past c ls d w s is (Turns i x kind ∷ ts) line known h own named =
        let a = For i x kind (Seq (lines_to ts (Then s Empty))) in
        let count : (line + (lines a + 0)) - 1 ≡ line + lines a - 1 = omega arith in
        one_past c a (O.named (line + lines a - 1)) known (steps_clean s (store_clean ls d w s is) ts) refl refl h own (subst (IsNamedBy c) count named)
    steps_past c ls d w s is (Named i pick forms ∷ ts) line known h own named =
        let m = block_lines (lines_to ts (Then s Empty)) in
        let count : (line + (1 + m)) - 1 ≡ ((line + 1) + m) - 1 = omega arith in
        steps_past c ls d w s is ts (line + 1) (onwards O R (Let i pick forms) (O.named (line + 1 - 1)) known)
        (onward (Let i pick forms) (O.named (line + 1 - 1)) known (let_clean i pick forms) refl h) own (subst (IsNamedBy c) count named)
    steps_past c ls d w s is (Tested low high ∷ ts) line known h own named =
        let a = Guard low high (Seq (lines_to ts (Then s Empty))) in
        let count : (line + (lines a + 0)) - 1 ≡ line + lines a - 1 = omega arith in
        one_past c a (O.named (line + lines a - 1)) known (steps_clean s (store_clean ls d w s is) ts) refl refl h own (subst (IsNamedBy c) count named)

    -- ---- nests

    joined_each : (xs ys : List Statement) (line : ℕ) (known : Known) → EachOf O R StoreHere (block xs) line known →
        EachOf O R StoreHere (block ys) (line + block_lines (block xs)) (after (block xs) line known) → EachOf O R StoreHere (block (xs ++ ys)) line known
    joined_each [] ys line known h k = (let none : line + 0 ≡ line = omega arith in subst (λ (m : ℕ). EachOf O R StoreHere (block ys) m known) none k)
    joined_each (a ∷ xs) ys line known h k =
        let next : line + (lines a + block_lines (block xs)) ≡ (line + lines a) + block_lines (block xs) = omega arith in
        let later = onwards O R a (O.named (line + lines a - 1)) known in
        (h.0, joined_each xs ys (line + lines a) later h.1 (subst (λ (m : ℕ). EachOf O R StoreHere (block ys) m (after (block xs) (line + lines a) later)) next k))

    store_updates : (ls : Loads) (d : ℕ) (w : NestText) (s : Statement) → IsStore g fs ls (suc d) w s → updates O.setting s 0 g.subject.name ≡ true
    store_updates ls d w (Store b k at e) is =
        let buffer : O.setting.buffer_function b ≡ g.subject.name = ap O.setting.buffer_function is.0 ∙ named_own in
        let name : same_name (O.setting.buffer_function b) g.subject.name ≡ true = ap (λ (x : List ℕ). same_name x g.subject.name) buffer ∙ name_refl g.subject.name in
        let later : is_update k ≡ true = ap is_update is.1 in
        let test : (b == 0) ≡ true = ap (λ (c : ℕ). c == 0) is.0 in
        let both : (same_name (O.setting.buffer_function b) g.subject.name && is_update k) ≡ true = (λ i. name i && later i) in
        ap (λ (t : Bool). if t then same_name (O.setting.buffer_function b) g.subject.name && is_update k else true) test ∙ both
    store_updates ls d w (Seq xs) is = absurd is
    store_updates ls d w (For j x kind body) is = absurd is
    store_updates ls d w (Let j pick forms) is = absurd is
    store_updates ls d w (First j x y) is = absurd is
    store_updates ls d w (Guard low high body) is = absurd is
    store_updates ls d w (Alloc b x seats) is = absurd is
    store_updates ls d w (Fetch b x region) is = absurd is
    store_updates ls d w (Publish x) is = absurd is

    steps_update : (s : Statement) → updates O.setting s 0 g.subject.name ≡ true → (ts : List Step) → block_updates O.setting (lines_to ts (Then s Empty)) 0 g.subject.name ≡ true
    steps_update s u [] = ap (λ (t : Bool). t && true) u
    steps_update s u (Turns i x kind ∷ ts) = ap (λ (t : Bool). t && true) (steps_update s u ts)
    steps_update s u (Named i pick forms ∷ ts) = steps_update s u ts
    steps_update s u (Tested low high ∷ ts) = ap (λ (t : Bool). t && true) (steps_update s u ts)

    one_store : (ms : Loads) (d : ℕ) (w : NestText) (s : Statement) → IsStore g fs ms d w s → ms ≡ all_loads d → slice_get nests d ≡ Some w → (line : ℕ) (known : Known) → Inside d known →
        EachLine O R StoreHere s line known
    one_store ms d w (Store b k at e) is loads stands line known h = λ one. record {
      definition = d;
      nest = w;
      loads = ms;
      loaded = loads;
      stands = stands;
      stores = is;
      held = h.0;
      own = h.1;
      under = h.2;
    }
    one_store ms d w (Seq xs) is loads stands line known h = absurd is
    one_store ms d w (For j x kind body) is loads stands line known h = absurd is
    one_store ms d w (Let j pick forms) is loads stands line known h = absurd is
    one_store ms d w (First j x y) is loads stands line known h = absurd is
    one_store ms d w (Guard low high body) is loads stands line known h = absurd is
    one_store ms d w (Alloc b x seats) is loads stands line known h = absurd is
    one_store ms d w (Fetch b x region) is loads stands line known h = absurd is
    one_store ms d w (Publish x) is loads stands line known h = absurd is

    later_updates : (ls : Loads) (d e : ℕ) (w : NestText) (s : Statement) → IsStore g fs ls d w s → d ≡ suc e → (ts : List Step) →
        block_updates O.setting (lines_to ts (Then s Empty)) 0 g.subject.name ≡ true
    later_updates ls d e w s is same ts = steps_update s (store_updates ls e w s (subst (λ (k : ℕ). IsStore g fs ls k w s) same is)) ts

    -- these are the claims of the nests
    module _ (claims : List CodeClaim) (named_claim : (d : ℕ) (v : CodeClaim) → slice_get claims d ≡ Some v → is_member (base + d) (O.named v.line) ≡ true) (r : List Span1) (claim : ℕ) where
      pub nests_each : (ms : Loads) (m at_line d : ℕ) (ns : List NestText) (xs : List Statement) (cs : List CodeClaim) → AreNests g fs r ms m at_line d ns xs cs → m ≡ base + d → ms ≡ all_loads d →
          ((j : ℕ) (w : NestText) → slice_get ns j ≡ Some w → slice_get nests (d + j) ≡ Some w) → ((j : ℕ) (v : CodeClaim) → slice_get cs j ≡ Some v → slice_get claims (d + j) ≡ Some v) →
          (known : Known) → Held known → HasOwn known → Behind d known → EachOf O R StoreHere (block (xs ++ Publish claim ∷ [])) at_line known
      nests_each ms m at_line d [] xs cs is count loads there mine known h own behind =
          subst (λ (ys : List Statement). EachOf O R StoreHere (block (ys ++ Publish claim ∷ [])) at_line known) (sym is.0) (λ one. absurd one, tt)
      nests_each ms m at_line d (w ∷ ns) xs [] is count loads there mine known h own behind = absurd is
      nests_each ms m at_line d (w ∷ ns) xs (v ∷ cs) is count loads there mine known h own behind =
          let nest = is.here.nest in
          let s = nest.store in
          let none : d + 0 ≡ d = omega arith in
          let stands : slice_get nests d ≡ Some w = ap (slice_get nests) (sym none) ∙ there 0 w refl in
          let below : d < length nests = slice_get_within nests d w stands in
          let clean = store_clean ms d w s nest.stores in
          let named : is_member (base + d) (O.named v.line) ≡ true = named_claim d v (ap (slice_get claims) (sym none) ∙ mine 0 v refl) in
          let named_last : is_member (base + d) (O.named ((at_line + block_lines (lines_to w.steps (Then s Empty))) - 1)) ≡ true =
          ap (λ (code : Statements). is_member (base + d) (O.named ((at_line + block_lines code) - 1))) (sym nest.comes)
          ∙ ap (λ (k : ℕ). is_member (base + d) (O.named k)) (sym is.here.claims.after) ∙ named in
          let here : EachOf O R StoreHere (block is.first) at_line known = subst (λ (code : Statements). EachOf O R StoreHere code at_line known) (sym nest.comes)
          (begin_each d s clean (λ line k i. one_store ms d w s nest.stores loads stands line k i) below (λ e same ts. later_updates ms d e w s nest.stores same ts) w.steps at_line known h own
          behind named_last) in
          let past : Past (base + d) (after (block is.first) at_line known) = subst (λ (code : Statements). Past (base + d) (after code at_line known)) (sym nest.comes)
          (steps_past (base + d) ms d w s nest.stores w.steps at_line known h own named_last) in
          let one : suc d ≡ d + 1 = omega arith in
          let number : m + 1 ≡ base + (d + 1) = omega (arith, count) in
          let more : ms ++ (g.subject.name, m) ∷ [] ≡ all_loads (d + 1) =
          (λ i. loads i ++ (g.subject.name, count i) ∷ []) ∙ ap all_loads one in
          let rest = nests_each (ms ++ (g.subject.name, m) ∷ []) (m + 1) (at_line + block_lines (block is.first)) (d + 1) ns is.others cs is.behind number more
          (λ j y e. let next : d + suc j ≡ (d + 1) + j = omega arith in ap (slice_get nests) (sym next) ∙ there (suc j) y e)
          (λ j y e. let next : d + suc j ≡ (d + 1) + j = omega arith in ap (slice_get claims) (sym next) ∙ mine (suc j) y e) (after (block is.first) at_line known) past.0 past.1
          (subst (λ (e : ℕ). Behind e (after (block is.first) at_line known)) one past.2) in
          let joined = joined_each is.first (is.others ++ Publish claim ∷ []) at_line known here rest in
          let are : xs ++ Publish claim ∷ [] ≡ is.first ++ (is.others ++ Publish claim ∷ []) =
          ap (λ (ys : List Statement). ys ++ Publish claim ∷ []) is.are ∙ joined_twice is.first is.others (Publish claim ∷ []) in
          subst (λ (ys : List Statement). EachOf O R StoreHere (block ys) at_line known) (sym are) joined
        where
          joined_twice : (xs ys zs : List Statement) → (xs ++ ys) ++ zs ≡ xs ++ (ys ++ zs)
          joined_twice [] ys zs = refl
          joined_twice (a ∷ xs) ys zs = (let rest = joined_twice xs ys zs in ap (λ (r : List Statement). a ∷ r) rest)

    -- ---- before the nests

    -- as far as it is fetched
    abbrev HeldTo : ℕ → Known → Type 0
    HeldTo i known = (j : ℕ) (f : FetchText) → j < i → slice_get fetches j ≡ Some f → Loaded known (first + j) f

    other_number : (i j : ℕ) → j < i → (suc i == suc j) ≡ false
    other_number i j less = grind (arith, nat_tests)

    other_buffer : (i j : ℕ) → j < i → (suc j == suc i) ≡ false
    other_buffer i j less = grind (arith, nat_tests)

    -- behind the buffer of this number and its fetch, where the claim of the fetch is named
    module _ (i : ℕ) (t : FetchText) (here : slice_get fetches i ≡ Some t) (at_line : ℕ) (named : is_member (first + i) (O.named (at_line + 1 + 1 - 1)) ≡ true) (known : Known) where
      abbrev one : Known
      one = onwards O R (Alloc t.buffer t.function t.places) (O.named (at_line + 1 - 1)) known

      abbrev two : Known
      two = onwards O R (Fetch t.buffer t.group t.region) (O.named (at_line + 1 + 1 - 1)) one

      buffer : t.buffer ≡ suc i
      buffer = seated i t here

      kept_there : (j : ℕ) (f : FetchText) → j < i → slice_get fetches j ≡ Some f → Loaded known (first + j) f → Loaded two (first + j) f
      kept_there j f less at h =
          let c = first + j in
          let theirs : (O.claim c).buffer ≡ suc j = buffered j f at ∙ seated j f at in
          let test : (t.buffer == (O.claim c).buffer) ≡ false = (λ k. buffer k == theirs k) ∙ other_number i j less in
          let stays : not (t.buffer == (O.claim c).buffer) ≡ true = ap not test in
          let before = any_right (λ d. d == c) (O.named (at_line + 1 - 1)) (filter (is_left O R (Alloc t.buffer t.function t.places)) known.claims)
          (member_kept (is_left O R (Alloc t.buffer t.function t.places)) c stays known.claims h.0) in
          let seats : (f.buffer == t.buffer) ≡ false = (λ k. seated j f at k == buffer k) ∙ other_buffer i j less in (
            any_right (λ d. d == c) (O.named (at_line + 1 + 1 - 1)) (filter (is_left O R (Fetch t.buffer t.group t.region)) one.claims)
                (member_kept (is_left O R (Fetch t.buffer t.group t.region)) c stays one.claims before),
            ap (λ (b : Bool). if b then Some t.places else places_of known.buffers f.buffer) seats ∙ h.1,
          )

      fetched_now : Loaded two (first + i) t
      fetched_now = (
        any_left (λ d. d == first + i) (O.named (at_line + 1 + 1 - 1)) (filter (is_left O R (Fetch t.buffer t.group t.region)) one.claims) named,
        ap (λ (b : Bool). if b then Some t.places else places_of known.buffers t.buffer) (eq_refl t.buffer),
      )

      held_more : HeldTo i known → HeldTo (suc i) two
      held_more h j f less at = of (split_last j i less)
        where
          of : (j < i) ⊎ (j ≡ i) → Loaded two (first + j) f
          of (inl low) = kept_there j f low at (h j f low at)
          of (inr same) =
              let this : Some t ≡ Some f = sym here ∙ ap (slice_get fetches) (sym same) ∙ at in
              let is : t ≡ f = cc this in
              subst (λ (m : ℕ). Loaded two (first + m) f) (sym same) (subst (λ (u : FetchText). Loaded two (first + i) u) is fetched_now)

      own_more : HasOwn known → HasOwn two
      own_more own = (let test : (0 == t.buffer) ≡ false = ap (λ (b : ℕ). 0 == b) buffer ∙ zero_other i in ap (λ (b : Bool). if b then Some t.places else places_of known.buffers 0) test ∙ own)

    pub fetches_each : (calls : Calls) (grid : List Binding) (n b at_line : ℕ) (xs : List (ℕ × Entry)) (ts : List FetchText) (ws : List Need) (cs : List CodeClaim) → AreFetched calls grid n
        b at_line xs ts ws cs →
        (i : ℕ) → ((j : ℕ) (f : FetchText) → slice_get ts j ≡ Some f → slice_get fetches (i + j) ≡ Some f) →
        ((j : ℕ) (v : CodeClaim) → slice_get cs j ≡ Some v → is_member (first + (i + j)) (O.named v.line) ≡ true) → length fetches ≡ i + length ts → (next : ℕ) → next ≡ at_line + 2 * length ts →
        (rest : List Statement) → ((known : Known) → Held known → HasOwn known → EachOf O R StoreHere (block rest) next known) → (known : Known) → HeldTo i known → HasOwn known →
        EachOf O R StoreHere (block (with_fetches ts rest)) at_line known
    fetches_each calls grid n b at_line [] [] [] [] is i there named long next e rest k known h own =
        let same : next ≡ at_line = omega (arith, e) in
        subst (λ (m : ℕ). EachOf O R StoreHere (block rest) m known) same
        (k known (λ j f at. let within : j < length fetches = slice_get_within fetches j f at in h j f (omega (arith, within, long)) at) own)
    fetches_each calls grid n b at_line [] [] [] (v ∷ cs) is i there named long next e rest k known h own = absurd is
    fetches_each calls grid n b at_line [] [] (w ∷ ws) cs is i there named long next e rest k known h own = absurd is
    fetches_each calls grid n b at_line [] (f ∷ ts) ws cs is i there named long next e rest k known h own = absurd is
    fetches_each calls grid n b at_line (x ∷ xs) [] ws cs is i there named long next e rest k known h own = absurd is
    fetches_each calls grid n b at_line (x ∷ xs) (f ∷ ts) [] cs is i there named long next e rest k known h own = absurd is
    fetches_each calls grid n b at_line (x ∷ xs) (f ∷ ts) (w ∷ ws) [] is i there named long next e rest k known h own = absurd is
    fetches_each calls grid n b at_line (x ∷ xs) (f ∷ ts) (w ∷ ws) (v ∷ cs) is i there named long next e rest k known h own =
        let none : i + 0 ≡ i = omega arith in
        let here : slice_get fetches i ≡ Some f = ap (slice_get fetches) (sym none) ∙ there 0 f refl in
        let stands : v.line ≡ at_line + 1 + 1 - 1 = is.0.claimed.after ∙ (let count : at_line + 1 ≡ at_line + 1 + 1 - 1 = omega arith in count) in
        let told : is_member (first + i) (O.named (at_line + 1 + 1 - 1)) ≡ true =
        ap (λ (m : ℕ). is_member (first + m) (O.named (at_line + 1 + 1 - 1))) (sym none) ∙ ap (λ (m : ℕ). is_member (first + (i + 0)) (O.named m)) (sym stands) ∙ named 0 v refl in
        let lines_two : at_line + 2 ≡ at_line + 1 + 1 = omega arith in (
          not_store (Alloc f.buffer f.function f.places) at_line _ (λ f. f),
          (
            not_store (Fetch f.buffer f.group f.region) (at_line + 1) _ (λ f. f),
            fetches_each calls grid n (b + 1) (at_line + 1 + 1) xs ts ws cs (subst (λ (m : ℕ). AreFetched calls grid n (b + 1) m xs ts ws cs) lines_two is.2) (suc i)
                (λ j y q. let after : i + suc j ≡ suc i + j = omega arith in ap (slice_get fetches) (sym after) ∙ there (suc j) y q)
                (λ j y q. let after : i + suc j ≡ suc i + j = omega arith in ap (λ (m : ℕ). is_member (first + m) (O.named y.line)) (sym after) ∙ named (suc j) y q) (omega (arith, long)) next
                (omega (arith, e)) rest k (two i f here at_line told known) (held_more i f here at_line told known h) (own_more i f here at_line told known own),
          ),
        )

    pub lets_at : (ts : List Step) (inner : Statements) (line next : ℕ) → AreLets ts → next ≡ line + step_lines ts → ((known : Known) → EachOf O R StoreHere inner next known) →
        (known : Known) → EachOf O R StoreHere (lines_to ts inner) line known
    lets_at [] inner line next lets e k known = (let same : next ≡ line = omega (arith, e) in subst (λ (m : ℕ). EachOf O R StoreHere inner m known) same (k known))
    lets_at (Turns i x kind ∷ ts) inner line next lets e k known = absurd lets
    lets_at (Named i pick forms ∷ ts) inner line next lets e k known = (not_store (Let i pick forms) line _ (λ f. f), lets_at ts inner (line + 1) next lets (omega (arith, e)) k _)
    lets_at (Tested low high ∷ ts) inner line next lets e k known = absurd lets

    -- the piece's own buffer, before what is fetched
    pub alloc_at : (x : List ℕ) (rest : Statements) (line : ℕ) → ((known : Known) → HeldTo 0 known → HasOwn known → EachOf O R StoreHere rest (line + 1) known) → (known : Known) →
        EachOf O R StoreHere (Then (Alloc 0 x places) rest) line known
    alloc_at x rest line k known =
        (not_store (Alloc 0 x places) line _ (λ f. f), k (onwards O R (Alloc 0 x places) (O.named (line + 1 - 1)) known) (λ j f less at. absurd (omega (arith, less))) refl)
