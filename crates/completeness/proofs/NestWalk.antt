-- A walk over the body of a group to the claims of its nests, each with what is known before its nest.
use Rattle.std.proofs.Common.{◌≡◌, ℕ, suc, ◌+◌, ◌-◌, ◌*◌, ◌<◌, ◌≤◌, Bool, true, false, ◌||◌, List, [], ◌∷◌, ◌++◌, length}
use Rattle.std.proofs.Common.{Some, refl, sym, ap, ◌∙◌, subst, inl, inr, arith}
use Rattle.std.specs.Prelude.{◌==◌, if◌then◌else◌, slice_get, filter}
use Rattle.std.specs.List.{AllByRecursion}
use Rattle.std.proofs.lemmas.Bool.Decides.{nat_tests}
use Rattle.lin.specs.Forms.{Form}
use Rattle.lin.specs.declared.span.Span1.{Span1}
use Rattle.lin.specs.declared.scope.Binding.{Binding}
use Rattle.plan.specs.declared.stmt.Pick.{Pick}
use Rattle.plan.specs.declared.stmt.Places.{Places}
use Rattle.plan.specs.declared.certificate.cert.Claim.{Claim as CodeClaim}
use Rattle.plan.specs.declared.certificate.cert.Need.{Need}
use Rattle.plan.specs.declared.certificate.cert.Window.{Window}
use Rattle.plan.specs.Plan.{Coordinate, Statement, Seq, For, Let, First, Guard, Alloc, Fetch, Store, Publish, Statements, Empty, Then, block}
use Rattle.plan.specs.Lines.{lines, block_lines}
use Rattle.tree.specs.Term.{Term}
use Rattle.soundness.specs.Claims.{In}
use Rattle.soundness.specs.Origins.{Outline}
use Rattle.soundness.specs.Obligations.{Binder, Picked, Known, Rules, is_member, places_of, is_left, onwards}
use Rattle.sched.specs.declared.skeleton.Step.{Step}
use Rattle.sched.specs.declared.skeleton.Step.TheVariants.{Turns, Named, Tested}
use Rattle.sched.specs.Runs.{lines_to}
use Rattle.sched.specs.Skeleton.{NestText}
use Rattle.sched.specs.Stored.{FormulaText, StoredText}
use Rattle.sched.specs.Loading.{Loads}
use Rattle.blocks.specs.Bodies.{step_lines, IsStore, AreNests}
use Rattle.sched.specs.Fetches.{Entry}
use Rattle.blocks.specs.Fetches.{FetchText, Claims, with_fetches}
use Rattle.lower.specs.Fetches.{Calls, AreFetched}
use Rattle.completeness.specs.Owed.{ClaimsOf}
use Rattle.completeness.proofs.Standing.{AreLets}
use Rattle.completeness.proofs.Spots.{has_first}
use Rattle.completeness.proofs.NamedClaims.{nests_range}
use Rattle.completeness.proofs.FetchClaims.{all_members}

-- ---- members

filter_member : (f : ℕ → Bool) (xs : List ℕ) (j : ℕ) → is_member j (filter f xs) ≡ true → is_member j xs ≡ true
filter_member f [] j m = m
filter_member f (x ∷ xs) j m = of (f x) m (λ q. filter_member f xs j q)
  where
    of : (t : Bool) → is_member j (if t then x ∷ filter f xs else filter f xs) ≡ true → (is_member j (filter f xs) ≡ true → is_member j xs ≡ true) → is_member j (x ∷ xs) ≡ true
    of true q rest = inner (x == j) q
      where
        inner : (s : Bool) → (s || is_member j (filter f xs)) ≡ true → (s || is_member j xs) ≡ true
        inner true p = refl
        inner false p = rest p
    of false q rest = inner (x == j)
      where
        inner : (s : Bool) → (s || is_member j xs) ≡ true
        inner true = refl
        inner false = rest q

pub kept_member : (f : ℕ → Bool) → ((x : ℕ) → f x ≡ true) → (xs : List ℕ) (j : ℕ) → is_member j xs ≡ true → is_member j (filter f xs) ≡ true
kept_member f every [] j m = m
kept_member f every (x ∷ xs) j m =
    ap (λ (t : Bool). is_member j (if t then x ∷ filter f xs else filter f xs)) (every x) ∙ inner (x == j) m (λ q. kept_member f every xs j q)
  where
    inner : (s : Bool) → (s || is_member j xs) ≡ true → (is_member j xs ≡ true → is_member j (filter f xs) ≡ true) → (s || is_member j (filter f xs)) ≡ true
    inner true p rest = refl
    inner false p rest = rest p

-- ---- stores

-- the line that a nest comes to
pub record StoreOf (d : ℕ) (s : Statement) : Type 0 where
  pub at : List Coordinate
  pub value : Term
  pub is : s ≡ Store 0 d at value

pub as_store : (g : StoredText) (fs : List FormulaText) (ls : Loads) (d : ℕ) (w : NestText) (s : Statement) → IsStore g fs ls d w s → StoreOf d s
as_store g fs ls d w (Store b k at e) is = (let one = is.0 in let two = is.1 in record { at = at; value = e; is = λ i. Store (one i) (two i) at e })
as_store g fs ls d w (Seq xs) is = absurd is
as_store g fs ls d w (For j x kind body) is = absurd is
as_store g fs ls d w (Let j pick forms) is = absurd is
as_store g fs ls d w (First j x y) is = absurd is
as_store g fs ls d w (Guard low high body) is = absurd is
as_store g fs ls d w (Alloc b x places) is = absurd is
as_store g fs ls d w (Fetch b x region) is = absurd is
as_store g fs ls d w (Publish x) is = absurd is

-- the steps down to a store
abbrev pub down : ℕ → ℕ → List Coordinate → Term → List Step → Statements
down b k at e ts = lines_to ts (Then (Store b k at e) Empty)

down_some : (b k : ℕ) (at : List Coordinate) (e : Term) (ts : List Step) → 1 ≤ block_lines (down b k at e ts)
down_some b k at e [] = omega arith
down_some b k at e (Turns i x kind ∷ ts) = omega arith
down_some b k at e (Named i pick fs ∷ ts) = omega arith
down_some b k at e (Tested low high ∷ ts) = omega arith

-- these are the last of all steps, behind lets
pub record IsRest (all ts : List Step) : Type 0 where
  pub lets : List Step
  pub are : AreLets lets
  pub is : all ≡ lets ++ ts

next_rest : (all ts : List Step) (i : ℕ) (pick : Pick) (fs : List Form) → IsRest all (Named i pick fs ∷ ts) → IsRest all ts
next_rest all ts i pick fs h = record { lets = h.lets ++ Named i pick fs ∷ []; are = more h.lets h.are; is = h.is ∙ again h.lets }
  where
    more : (ls : List Step) → AreLets ls → AreLets (ls ++ Named i pick fs ∷ [])
    more [] a = tt
    more (Turns j x kind ∷ ls) a = absurd a
    more (Named j other gs ∷ ls) a = more ls a
    more (Tested low high ∷ ls) a = absurd a

    again : (ls : List Step) → ls ++ (Named i pick fs ∷ ts) ≡ (ls ++ Named i pick fs ∷ []) ++ ts
    again [] = refl
    again (l ∷ ls) = ap (λ (r : List Step). l ∷ r) (again ls)

-- ---- fetches

pub record FetchedAt (b line : ℕ) (w : CodeClaim) : Type 0 where
  pub place : ℕ
  pub at : w.line ≡ line + 2 * place + 1
  pub buffer : b ≤ w.buffer

pub fetched_at : (calls : Calls) (grid : List Binding) (n b line : ℕ) (xs : List (ℕ × Entry)) (fs : List FetchText) (ws : List Need) (cs : List CodeClaim) →
    AreFetched calls grid n b line xs fs ws cs → (w : CodeClaim) → In w cs → FetchedAt b line w
fetched_at calls grid n b line [] [] [] [] h w m = absurd m
fetched_at calls grid n b line [] [] [] (c ∷ cs) h w m = absurd h
fetched_at calls grid n b line [] [] (v ∷ ws) cs h w m = absurd h
fetched_at calls grid n b line [] (f ∷ fs) ws cs h w m = absurd h
fetched_at calls grid n b line (x ∷ xs) [] ws cs h w m = absurd h
fetched_at calls grid n b line (x ∷ xs) (f ∷ fs) [] cs h w m = absurd h
fetched_at calls grid n b line (x ∷ xs) (f ∷ fs) (v ∷ ws) [] h w m = absurd h
fetched_at calls grid n b line (x ∷ xs) (f ∷ fs) (v ∷ ws) (c ∷ cs) h w (inl e) =
    let after : w.line ≡ line + 1 = ap (λ (c : CodeClaim). c.line) e ∙ h.0.claimed.after in
    let held : w.buffer ≡ b = ap (λ (c : CodeClaim). c.buffer) e ∙ h.0.claimed.buffered in
    record { place = 0; at = omega (arith, after); buffer = omega (arith, held) }
fetched_at calls grid n b line (x ∷ xs) (f ∷ fs) (v ∷ ws) (c ∷ cs) h w (inr m) =
    let rest = fetched_at calls grid n (b + 1) (line + 2) xs fs ws cs h.2 w m in
    let at = rest.at in
    let held = rest.buffer in
    record { place = suc rest.place; at = omega (arith, at); buffer = omega (arith, held) }

pub own_region : (g : StoredText) (fs : List FormulaText) (r : List Span1) (ms : Loads) (m line d : ℕ) (ns : List NestText) (xs : List Statement) (cs : List CodeClaim) →
    AreNests g fs r ms m line d ns xs cs → (w : CodeClaim) → In w cs → w.region ≡ r
own_region g fs r ms m line d [] xs cs is w among = absurd (subst (In w) is.1 among)
own_region g fs r ms m line d (n ∷ ns) xs [] is w among = absurd is
own_region g fs r ms m line d (n ∷ ns) xs (v ∷ cs) is w (inl e) = ap (λ (c : CodeClaim). c.region) e ∙ is.here.claims.over
own_region g fs r ms m line d (n ∷ ns) xs (v ∷ cs) is w (inr among) =
    own_region g fs r (ms ++ (g.subject.name, m) ∷ []) (m + 1) (line + block_lines (block is.first)) (d + 1) ns is.others cs is.behind w among

-- ---- what is known

-- the claim of this number, of these, stands in the lines between these
pub record IsHere (items : List CodeClaim) (base end j : ℕ) : Type 0 where
  pub claim : CodeClaim
  pub at : slice_get items j ≡ Some claim
  pub low : base < claim.line
  pub less : claim.line < end

-- the claims that came into force in the block stand there
pub record Knows (B : List Binder → Type 0) (items : List CodeClaim) (base end : ℕ) (known : Known) : Type 0 where
  pub own : (j : ℕ) → is_member j known.own ≡ true → IsHere items base end j
  pub bound : B known.binders

-- the piece's own buffer has these places
abbrev pub Holds : List Places → Known → Type 0
Holds places known = places_of known.buffers 0 ≡ Some places

-- one of the claims that came into force in the block is of this definition of the group's function, over this region
pub record Follows (items : List CodeClaim) (x : List ℕ) (r : List Span1) (d : ℕ) (known : Known) : Type 0 where
  pub number : ℕ
  pub among : is_member number known.own ≡ true
  pub claim : CodeClaim
  pub at : slice_get items number ≡ Some claim
  pub line : ℕ
  pub claims : Claims line 0 x d r claim

-- one is of the definition before, if there is one
abbrev pub Before : List CodeClaim → List ℕ → List Span1 → ℕ → Known → Type 0
Before items x r d known = (e : ℕ) → d ≡ suc e → Follows items x r e known

-- no claim is named by the line
abbrev pub IsFree : Outline → ℕ → Type 0
IsFree outline line = (j : ℕ) → is_member j (outline.named line) ≡ true → ⊥

-- so of the lets before other steps
abbrev pub LetsFirst : (ℕ → Pick → List Form → Type 0) → List Step → Type 0
LetsFirst L [] = Unit {0}
LetsFirst L (Turns i x kind ∷ ts) = Unit {0}
LetsFirst L (Named i pick fs ∷ ts) = L i pick fs × LetsFirst L ts
LetsFirst L (Tested low high ∷ ts) = Unit {0}

-- what lets bind around what is bound, the innermost first
abbrev pub lets_around : List Step → List Binder → List Binder
lets_around [] bs = bs
lets_around (Turns i x kind ∷ ts) bs = lets_around ts bs
lets_around (Named i pick fs ∷ ts) bs = lets_around ts (Picked i pick fs ∷ bs)
lets_around (Tested low high ∷ ts) bs = lets_around ts bs

-- of the lines from this one on, before another, these are all claims
abbrev pub Lone : List CodeClaim → ℕ → ℕ → List CodeClaim → Type 0
Lone items end line cs = (j : ℕ) (w : CodeClaim) → slice_get items j ≡ Some w → line ≤ w.line → w.line < end → In w cs

-- no claim is named by the lines at which the buffers of what is fetched stand
abbrev pub Evens : Outline → ℕ → List FetchText → Type 0
Evens outline line [] = Unit {0}
Evens outline line (f ∷ fs) = IsFree outline line × Evens outline (line + 2) fs

pub all_even : (outline : Outline) (fs : List FetchText) (line : ℕ) → ((i : ℕ) → i < length fs → IsFree outline (line + 2 * i)) → Evens outline line fs
all_even outline [] line h = tt
all_even outline (f ∷ fs) line h = (
  (let none : line + 2 * 0 ≡ line = omega arith in subst (IsFree outline) none (h 0 (omega arith))),
  all_even outline fs (line + 2) (λ i less. let next : line + 2 * suc i ≡ (line + 2) + 2 * i = omega arith in subst (IsFree outline) next (h (suc i) (omega (arith, less)))),
)

-- ---- claim by claim

-- so of each claim of a line `fetch`; binders of which B is so, and stay so with lets of which L is so
module _ (outline : Outline) (rules : Rules) (P : List Window → ℕ → ℕ → Known → Statement → ℕ → Type 0)
    (fetched : (kept : List Window) (begin last : ℕ) (known : Known) (b h : ℕ) (r : List Span1) (c : ℕ) → P kept begin last known (Fetch b h r) c)
    (B : List Binder → Type 0) (L : ℕ → Pick → List Form → Type 0) (bind : (i : ℕ) (pick : Pick) (fs : List Form) (bs : List Binder) → L i pick fs → B bs → B (Picked i pick fs ∷ bs)) where
  abbrev Each : List Window → Statements → ℕ → Known → Type 0
  Each kept code line known = ClaimsOf outline rules P kept code line known

  abbrev Free : ℕ → Type 0
  Free line = IsFree outline line

  none_named : (Q : ℕ → Type 0) (line : ℕ) → Free line → AllByRecursion Q (outline.named line)
  none_named Q line free = all_members Q (outline.named line) (λ c m. absurd (free c m))

  abbrev Leading : List Step → Type 0
  Leading ts = LetsFirst L ts

  -- what is known behind some statements
  abbrev after : Statements → ℕ → Known → Known
  after Empty line known = known
  after (Then a rest) line known = after rest (line + lines a) (onwards outline rules a (outline.named (line + lines a - 1)) known)

  joined_each : (xs ys : List Statement) (line : ℕ) (known : Known) → Each [] (block xs) line known → Each [] (block ys) (line + block_lines (block xs)) (after (block xs) line known) →
      Each [] (block (xs ++ ys)) line known
  joined_each [] ys line known h k = (let none : line + 0 ≡ line = omega arith in subst (λ (m : ℕ). Each [] (block ys) m known) none k)
  joined_each (a ∷ xs) ys line known h k =
      let next : line + (lines a + block_lines (block xs)) ≡ (line + lines a) + block_lines (block xs) = omega arith in
      let later = onwards outline rules a (outline.named (line + lines a - 1)) known in
      (h.0, h.1, joined_each xs ys (line + lines a) later h.2 (subst (λ (m : ℕ). Each [] (block ys) m (after (block xs) (line + lines a) later)) next k))

  -- ---- inside a nest

  module _ (b k : ℕ) (at : List Coordinate) (e : Term) where
    abbrev code : List Step → Statements
    code ts = down b k at e ts

    inner_each : (ts : List Step) (kept : List Window) (line : ℕ) (known : Known) → ((m : ℕ) → line ≤ m → m < line + block_lines (code ts) → Free m) → Each kept (code ts) line known
    inner_each [] kept line known free = (tt, none_named _ (line + 1 - 1) (free (line + 1 - 1) (omega arith) (omega arith)), tt)
    inner_each (Turns i x kind ∷ ts) kept line known free =
        let n = block_lines (code ts) in (
          inner_each ts _ (line + 1) _ (λ m low less. free m (omega (arith, low)) (omega (arith, less))),
          none_named _ (line + (n + 2) - 1) (free (line + (n + 2) - 1) (omega arith) (omega arith)),
          tt,
        )
    inner_each (Named i pick fs ∷ ts) kept line known free = (
      tt,
      none_named _ (line + 1 - 1) (free (line + 1 - 1) (omega arith) (omega arith)),
      inner_each ts _ (line + 1) _ (λ m low less. free m (omega (arith, low)) (omega (arith, less))),
    )
    inner_each (Tested low high ∷ ts) kept line known free =
        let n = block_lines (code ts) in (
          inner_each ts _ (line + 1) _ (λ m low less. free m (omega (arith, low)) (omega (arith, less))),
          none_named _ (line + (n + 2) - 1) (free (line + (n + 2) - 1) (omega arith) (omega arith)),
          tt,
        )

  -- ---- behind statements, where these are the plan's claims, and a group's lines those between these

  module _ (items : List CodeClaim) (named_is : (j line : ℕ) → is_member j (outline.named line) ≡ true → (w : CodeClaim) × (slice_get items j ≡ Some w) × (w.line ≡ line)) (base end : ℕ)
      (places : List Places) (x : List ℕ) (r : List Span1) where
    abbrev Here : ℕ → Type 0
    Here j = IsHere items base end j

    abbrev Sees : Known → Type 0
    Sees known = Knows B items base end known

    abbrev Has : Known → Type 0
    Has known = Holds places known

    abbrev Comes : ℕ → Known → Type 0
    Comes d known = Follows items x r d known

    abbrev Behind : ℕ → Known → Type 0
    Behind d known = Before items x r d known

    named_here : (line : ℕ) → base < line → line < end → (j : ℕ) → is_member j (outline.named line) ≡ true → Here j
    named_here line low less j m =
        let w = named_is j line m in
        let stands : w.0.line ≡ line = w.2 in
        record { claim = w.0; at = w.1; low = omega (arith, low, stands); less = omega (arith, less, stands) }

    own_more : (next own : List ℕ) (f : ℕ → Bool) → ((j : ℕ) → is_member j next ≡ true → Here j) → ((j : ℕ) → is_member j own ≡ true → Here j) → (j : ℕ) →
        is_member j (next ++ filter f own) ≡ true → Here j
    own_more [] own f h k j m = k j (filter_member f own j m)
    own_more (c ∷ next) own f h k j m =
        of (c == j) m (λ q. h j (ap (λ (t : Bool). t || is_member j next) q)) (λ q. own_more next own f (λ i n. h i (ap (λ (t : Bool). (c == i) || t) n ∙ either (c == i))) k j q)
      where
        either : (t : Bool) → (t || true) ≡ true
        either true = refl
        either false = refl

        of : (t : Bool) → (t || is_member j (next ++ filter f own)) ≡ true → (t ≡ true → Here j) → (is_member j (next ++ filter f own) ≡ true → Here j) → Here j
        of true q one rest = one refl
        of false q one rest = rest q

    no_member : (j : ℕ) → is_member j [] ≡ true → Here j
    no_member j m = absurd (cc m)

    let_knows : (i : ℕ) (pick : Pick) (fs : List Form) (line : ℕ) (known : Known) → L i pick fs → Sees known → Sees (onwards outline rules (Let i pick fs) (outline.named line) known)
    let_knows i pick fs line known l h = record {
      own = λ j m. own_more [] known.own (is_left outline rules (Let i pick fs)) no_member h.own j m;
      bound = bind i pick fs known.binders l h.bound;
    }

    let_follows : (d i : ℕ) (pick : Pick) (fs : List Form) (line : ℕ) (known : Known) → Comes d known → Comes d (onwards outline rules (Let i pick fs) (outline.named line) known)
    let_follows d i pick fs line known h = record {
      number = h.number;
      among = kept_member (is_left outline rules (Let i pick fs)) (λ c. refl) known.own h.number h.among;
      claim = h.claim;
      at = h.at;
      line = h.line;
      claims = h.claims;
    }

    -- behind another statement, whose last line this is
    other_knows : (a : Statement) (line : ℕ) (known new : Known) → base < line → line < end → new.own ≡ outline.named line ++ filter (is_left outline rules a) known.own →
        new.binders ≡ known.binders → Sees known → Sees new
    other_knows a line known new low less own same h = record {
      own = λ j m. own_more (outline.named line) known.own (is_left outline rules a) (named_here line low less) h.own j (subst (λ (cs : List ℕ). is_member j cs ≡ true) own m);
      bound = subst B (sym same) h.bound;
    }

    module _ (b k : ℕ) (at : List Coordinate) (e : Term) where
      after_knows : (ts : List Step) → Leading ts → (line : ℕ) (known : Known) → base < line → line + block_lines (down b k at e ts) ≤ end → Sees known → Sees (after (down b k at e ts) line known)
      after_knows [] lead line known low less h = other_knows (Store b k at e) (line + 1 - 1) known _ (omega (arith, low)) (omega (arith, less)) refl refl h
      after_knows (Turns i y kind ∷ ts) lead line known low less h =
          let n = block_lines (down b k at e ts) in
          other_knows (For i y kind (Seq (down b k at e ts))) (line + (n + 2) - 1) known _ (omega (arith, low)) (omega (arith, less)) refl refl h
      after_knows (Named i pick fs ∷ ts) lead line known low less h =
          after_knows ts lead.1 (line + 1) _ (omega (arith, low)) (omega (arith, less)) (let_knows i pick fs (line + 1 - 1) known lead.0 h)
      after_knows (Tested from to ∷ ts) lead line known low less h =
          let n = block_lines (down b k at e ts) in
          other_knows (Guard from to (Seq (down b k at e ts))) (line + (n + 2) - 1) known _ (omega (arith, low)) (omega (arith, less)) refl refl h

      after_holds : (ts : List Step) (line : ℕ) (known : Known) → Has known → Has (after (down b k at e ts) line known)
      after_holds [] line known h = h
      after_holds (Turns i y kind ∷ ts) line known h = h
      after_holds (Named i pick fs ∷ ts) line known h = after_holds ts (line + 1) _ h
      after_holds (Tested from to ∷ ts) line known h = h

      -- what the last line names came into force in the block
      after_names : (ts : List Step) (line : ℕ) (known : Known) (c : ℕ) → is_member c (outline.named ((line + block_lines (down b k at e ts)) - 1)) ≡ true →
          is_member c (after (down b k at e ts) line known).own ≡ true
      after_names [] line known c named =
          let count : (line + (1 + 0)) - 1 ≡ line + 1 - 1 = omega arith in
          has_first (outline.named (line + 1 - 1)) _ c (subst (λ (m : ℕ). is_member c (outline.named m) ≡ true) count named)
      after_names (Turns i y kind ∷ ts) line known c named =
          let n = lines (For i y kind (Seq (down b k at e ts))) in
          let count : (line + (n + 0)) - 1 ≡ line + n - 1 = omega arith in
          has_first (outline.named (line + n - 1)) _ c (subst (λ (m : ℕ). is_member c (outline.named m) ≡ true) count named)
      after_names (Named i pick fs ∷ ts) line known c named =
          let m = block_lines (down b k at e ts) in
          let count : (line + (1 + m)) - 1 ≡ ((line + 1) + m) - 1 = omega arith in
          after_names ts (line + 1) _ c (subst (λ (m : ℕ). is_member c (outline.named m) ≡ true) count named)
      after_names (Tested from to ∷ ts) line known c named =
          let n = lines (Guard from to (Seq (down b k at e ts))) in
          let count : (line + (n + 0)) - 1 ≡ line + n - 1 = omega arith in
          has_first (outline.named (line + n - 1)) _ c (subst (λ (m : ℕ). is_member c (outline.named m) ≡ true) count named)

      -- the claims of the last line are of the statement behind the first lets
      module _ (d to : ℕ) (all : List Step)
          (here : (ts : List Step) → IsRest all ts → (s : Statement) → Then s Empty ≡ down b k at e ts → (known : Known) → Sees known → Has known → Behind d known → (begin c : ℕ) →
          is_member c (outline.named to) ≡ true → P [] begin to known s c) where
        at_last : (ts : List Step) → IsRest all ts → (s : Statement) → Then s Empty ≡ down b k at e ts → (line last : ℕ) (known : Known) → Sees known → Has known → Behind d known →
            to ≡ last → AllByRecursion (λ c. P [] line last known s c) (outline.named last)
        at_last ts rest s is line last known knows holds before same =
            subst (λ (m : ℕ). AllByRecursion (λ c. P [] line m known s c) (outline.named m)) same
            (all_members _ (outline.named to) (λ c m. here ts rest s is known knows holds before line c m))

        top_each : (ts : List Step) → IsRest all ts → Leading ts → (line : ℕ) (known : Known) → Sees known → Has known → Behind d known →
            to ≡ (line + block_lines (down b k at e ts)) - 1 → ((m : ℕ) → line ≤ m → m < to → Free m) → Each [] (down b k at e ts) line known
        top_each [] rest lead line known knows holds before same free =
            (tt, at_last [] rest (Store b k at e) refl line (line + 1 - 1) known knows holds before (omega (arith, same)), tt)
        top_each (Turns i y kind ∷ ts) rest lead line known knows holds before same free =
            let n = block_lines (down b k at e ts) in (
              inner_each b k at e ts _ (line + 1) _ (λ m low less. free m (omega (arith, low)) (omega (arith, less, same))),
              at_last (Turns i y kind ∷ ts) rest (For i y kind (Seq (down b k at e ts))) refl line (line + (n + 2) - 1) known knows holds before (omega (arith, same)),
              tt,
            )
        top_each (Named i pick fs ∷ ts) rest lead line known knows holds before same free =
            let some = down_some b k at e ts in (
              tt,
              none_named _ (line + 1 - 1) (free (line + 1 - 1) (omega arith) (omega (arith, same, some))),
              top_each ts (next_rest all ts i pick fs rest) lead.1 (line + 1) _ (let_knows i pick fs (line + 1 - 1) known lead.0 knows) holds
                  (λ e q. let_follows e i pick fs (line + 1 - 1) known (before e q)) (omega (arith, same)) (λ m low less. free m (omega (arith, low)) less),
            )
        top_each (Tested from til ∷ ts) rest lead line known knows holds before same free =
            let n = block_lines (down b k at e ts) in (
              inner_each b k at e ts _ (line + 1) _ (λ m low less. free m (omega (arith, low)) (omega (arith, less, same))),
              at_last (Tested from til ∷ ts) rest (Guard from til (Seq (down b k at e ts))) refl line (line + (n + 2) - 1) known knows holds before (omega (arith, same)),
              tt,
            )

    -- ---- nests

    module _ (g : StoredText) (name : g.subject.name ≡ x) (fs : List FormulaText) (claim : ℕ) (all : List NestText) where
      -- so of the claim of each nest
      abbrev pub Fits : Type 0
      Fits = (ms : Loads) (d : ℕ) (w : NestText) (v : CodeClaim) (line : ℕ) → slice_get all d ≡ Some w → Claims line 0 x d r v → (at : List Coordinate) (e : Term) →
          IsStore g fs ms d w (Store 0 d at e) → (ts : List Step) → IsRest w.steps ts → (s : Statement) → Then s Empty ≡ down 0 d at e ts → (known : Known) → Sees known → Has known →
          Behind d known → (begin last c : ℕ) → slice_get items c ≡ Some v → P [] begin last known s c

      pub nests_each : Fits → (ms : Loads) (m at_line d : ℕ) (ns : List NestText) (xs : List Statement) (cs : List CodeClaim) → AreNests g fs r ms m at_line d ns xs cs →
          AllByRecursion (λ n. Leading n.steps) ns → ((j : ℕ) (n : NestText) → slice_get ns j ≡ Some n → slice_get all (d + j) ≡ Some n) → base < at_line →
          at_line + block_lines (block xs) < end → Lone items end at_line cs → ((j : ℕ) (v : CodeClaim) → slice_get cs j ≡ Some v → slice_get items (m + j) ≡ Some v) →
          ((j : ℕ) (v : CodeClaim) → slice_get items j ≡ Some v → is_member j (outline.named v.line) ≡ true) → (known : Known) → Sees known → Has known → Behind d known →
          Each [] (block (xs ++ Publish claim ∷ [])) at_line known
      nests_each fits ms m at_line d [] xs cs is lead shapes low less lone placed names known knows holds before =
          let none : xs ≡ [] = is.0 in
          let lines_none : block_lines (block xs) ≡ 0 = ap (λ (ys : List Statement). block_lines (block ys)) none in
          let free : Free (at_line + 1 - 1) = λ j n. (
          let w = named_is j (at_line + 1 - 1) n in
          let stands : w.0.line ≡ at_line + 1 - 1 = w.2 in
          subst (In w.0) is.1 (lone j w.0 w.1 (omega (arith, stands)) (omega (arith, stands, less, lines_none)))) in
          subst (λ (ys : List Statement). Each [] (block (ys ++ Publish claim ∷ [])) at_line known) (sym none) (tt, none_named _ (at_line + 1 - 1) free, tt)
      nests_each fits ms m at_line d (w ∷ ns) xs [] is lead shapes low less lone placed names known knows holds before = absurd is
      nests_each fits ms m at_line d (w ∷ ns) xs (v ∷ cs) is lead shapes low less lone placed names known knows holds before =
          let nest = is.here.nest in
          let u = as_store g fs ms d w nest.store nest.stores in
          let stores : IsStore g fs ms d w (Store 0 d u.at u.value) = subst (IsStore g fs ms d w) u.is nest.stores in
          let comes : block is.first ≡ down 0 d u.at u.value w.steps = nest.comes ∙ ap (λ (s : Statement). lines_to w.steps (Then s Empty)) u.is in
          let count : ℕ = block_lines (block is.first) in
          let some : 1 ≤ count = subst (λ (code : Statements). 1 ≤ block_lines code) (sym comes) (down_some 0 d u.at u.value w.steps) in
          let to : ℕ = (at_line + count) - 1 in
          let more : block_lines (block xs) ≡ count + block_lines (block is.others) = ap (λ (ys : List Statement). block_lines (block ys)) is.are ∙ both_lines is.first is.others in
          let ends : v.line ≡ to = is.here.claims.after in
          let claims : Claims to 0 x d r v = subst (λ (y : List ℕ). Claims to 0 y d r v) name is.here.claims in
          let shape : slice_get all d ≡ Some w = (let none : d + 0 ≡ d = omega arith in ap (slice_get all) (sym none) ∙ shapes 0 w refl) in
          let later : (j : ℕ) (y : CodeClaim) → slice_get items j ≡ Some y → at_line ≤ y.line → y.line < end → (y.line < at_line + count → y ≡ v) × (at_line + count ≤ y.line → In y cs) =
          λ j y e from til. (λ under. first_of y (lone j y e from til) under, λ over. rest_of y ends some (lone j y e from til) over) in
          let here = top_each 0 d u.at u.value d to w.steps (λ ts rest s e k kk kh kb begin c n.
          (let y = named_is c to n in
          let stands : y.0.line ≡ to = y.2 in
          let one : y.0 ≡ v = (later c y.0 y.1 (omega (arith, stands, some)) (omega (arith, stands, some, less, more))).0 (omega (arith, stands, some)) in
          fits ms d w v to shape claims u.at u.value stores ts rest s e k kk kh kb begin to c (y.1 ∙ ap (λ (z : CodeClaim). Some z) one)))
          w.steps (record { lets = []; are = tt; is = refl }) lead.0 at_line known knows holds before (ap (λ (code : Statements). (at_line + block_lines code) - 1) comes)
          (λ k from under j n. (let y = named_is j k n in
          let stands : y.0.line ≡ k = y.2 in
          let one : y.0 ≡ v = (later j y.0 y.1 (omega (arith, stands, from)) (omega (arith, stands, under, some, less, more))).0 (omega (arith, stands, under, some)) in
          let same : y.0.line ≡ v.line = ap (λ (z : CodeClaim). z.line) one in
          omega (arith, same, stands, ends, under))) in
          let here_first : Each [] (block is.first) at_line known = subst (λ (code : Statements). Each [] code at_line known) (sym comes) here in
          let behind : Known = after (down 0 d u.at u.value w.steps) at_line known in
          let long : block_lines (down 0 d u.at u.value w.steps) ≡ count = ap block_lines (sym comes) in
          let number : slice_get items m ≡ Some v = (let none : m + 0 ≡ m = omega arith in ap (slice_get items) (sym none) ∙ placed 0 v refl) in
          let named : is_member m (outline.named ((at_line + block_lines (down 0 d u.at u.value w.steps)) - 1)) ≡ true =
          subst (λ (k : ℕ). is_member m (outline.named k) ≡ true) (ends ∙ ap (λ (k : ℕ). (at_line + k) - 1) (sym long)) (names m v number) in
          let follows : Comes d behind = record {
            number = m;
            among = after_names 0 d u.at u.value w.steps at_line known m named;
            claim = v;
            at = number;
            line = to;
            claims = claims;
          } in
          let rest = nests_each fits (ms ++ (g.subject.name, m) ∷ []) (m + 1) (at_line + count) (d + 1) ns is.others cs is.behind lead.1
          (λ j n e. let next : d + suc j ≡ (d + 1) + j = omega arith in ap (slice_get all) (sym next) ∙ shapes (suc j) n e) (omega (arith, low)) (omega (arith, less, more))
          (λ j y e from til. (later j y e (omega (arith, from)) til).1 from)
          (λ j y e. let next : m + suc j ≡ (m + 1) + j = omega arith in ap (slice_get items) (sym next) ∙ placed (suc j) y e) names behind
          (after_knows 0 d u.at u.value w.steps lead.0 at_line known low (omega (arith, long, less, more)) knows) (after_holds 0 d u.at u.value w.steps at_line known holds)
          (λ e q. let same : d ≡ e = omega (arith, q) in subst (λ (i : ℕ). Comes i behind) same follows) in
          let joined = joined_each is.first (is.others ++ Publish claim ∷ []) at_line known here_first
          (subst (λ (code : Statements). Each [] (block (is.others ++ Publish claim ∷ [])) (at_line + count) (after code at_line known)) (sym comes) rest) in
          let are : xs ++ Publish claim ∷ [] ≡ is.first ++ (is.others ++ Publish claim ∷ []) =
          ap (λ (ys : List Statement). ys ++ Publish claim ∷ []) is.are ∙ joined_twice is.first is.others (Publish claim ∷ []) in
          subst (λ (ys : List Statement). Each [] (block ys) at_line known) (sym are) joined
        where
          joined_twice : (xs ys zs : List Statement) → (xs ++ ys) ++ zs ≡ xs ++ (ys ++ zs)
          joined_twice [] ys zs = refl
          joined_twice (a ∷ xs) ys zs = (let rest = joined_twice xs ys zs in ap (λ (r : List Statement). a ∷ r) rest)

          both_lines : (xs ys : List Statement) → block_lines (block (xs ++ ys)) ≡ block_lines (block xs) + block_lines (block ys)
          both_lines [] ys = omega arith
          both_lines (a ∷ xs) ys = (let rest = both_lines xs ys in omega (arith, rest))

          first_of : (y : CodeClaim) → In y (v ∷ cs) → y.line < at_line + block_lines (block is.first) → y ≡ v
          first_of y (inl e) under = e
          first_of y (inr n) under =
              let range = (nests_range g fs r (ms ++ (g.subject.name, m) ∷ []) (m + 1) (at_line + block_lines (block is.first)) (d + 1) ns is.others cs is.behind y n).0 in
              absurd (omega (arith, range, under))

          rest_of : (y : CodeClaim) → v.line ≡ (at_line + block_lines (block is.first)) - 1 → 1 ≤ block_lines (block is.first) → In y (v ∷ cs) →
              at_line + block_lines (block is.first) ≤ y.line → In y cs
          rest_of y ends some (inl e) over = (let same : y.line ≡ v.line = ap (λ (z : CodeClaim). z.line) e in absurd (omega (arith, same, ends, some, over)))
          rest_of y ends some (inr n) over = n

    -- ---- the lines before the nests

    -- whatever is known, if it is known of the claims in force
    abbrev pub From : ℕ → Statements → Type 0
    From line code = (known : Known) → Sees known → Each [] code line known

    -- with all lets of a group's head
    pub lets_each : (ts : List Step) (inner : Statements) (line next : ℕ) → AreLets ts → next ≡ line + step_lines ts → ((m : ℕ) → line ≤ m → m < next → Free m) → From next inner →
        (known : Known) → ((j : ℕ) → is_member j known.own ≡ true → Here j) → B (lets_around ts known.binders) → Each [] (lines_to ts inner) line known
    lets_each [] inner line next lets e free k known own bound =
        (let is : next ≡ line = omega (arith, e) in subst (λ (m : ℕ). Each [] inner m known) is (k known (record { own = own; bound = bound })))
    lets_each (Turns i y kind ∷ ts) inner line next lets e free k known own bound = absurd lets
    lets_each (Named i pick fs ∷ ts) inner line next lets e free k known own bound = (
      tt,
      none_named _ (line + 1 - 1) (free (line + 1 - 1) (omega arith) (omega (arith, e))),
      lets_each ts inner (line + 1) next lets (omega (arith, e)) (λ m low less. free m (omega (arith, low)) less) k _
          (λ j m. own_more [] known.own (is_left outline rules (Let i pick fs)) no_member own j m) bound,
    )
    lets_each (Tested low high ∷ ts) inner line next lets e free k known own bound = absurd lets

    -- where each let keeps what is so of the binders
    pub lead_around : (ts : List Step) → AreLets ts → Leading ts → (bs : List Binder) → B bs → B (lets_around ts bs)
    lead_around [] lets lead bs bound = bound
    lead_around (Turns i y kind ∷ ts) lets lead bs bound = absurd lets
    lead_around (Named i pick fs ∷ ts) lets lead bs bound = lead_around ts lets lead.1 (Picked i pick fs ∷ bs) (bind i pick fs bs lead.0 bound)
    lead_around (Tested low high ∷ ts) lets lead bs bound = absurd lets

    -- behind the group's own buffer
    abbrev pub Holding : ℕ → Statements → Type 0
    Holding line code = (known : Known) → Sees known → Has known → Each [] code line known

    pub alloc_each : (f : List ℕ) (rest : Statements) (line : ℕ) → base < line → line < end → Free line → Holding (line + 1) rest → From line (Then (Alloc 0 f places) rest)
    alloc_each f rest line low less free k known knows =
        let same : line ≡ line + 1 - 1 = omega arith in (
          tt,
          none_named _ (line + 1 - 1) (subst Free same free),
          k _ (other_knows (Alloc 0 f places) (line + 1 - 1) known _ (omega (arith, low)) (omega (arith, less)) refl refl knows) refl,
        )

    pub fetches_each : (calls : Calls) (grid : List Binding) (n b line next : ℕ) (ys : List (ℕ × Entry)) (fs : List FetchText) (ws : List Need) (cs : List CodeClaim) →
        AreFetched calls grid n b line ys fs ws cs → 1 ≤ b → base < line → next ≤ end → next ≡ line + 2 * length fs → Evens outline line fs → (rest : List Statement) → Holding next (block rest) →
        Holding line (block (with_fetches fs rest))
    fetches_each calls grid n b line next [] [] [] [] is some low less e free rest k known knows holds =
        let same : next ≡ line = omega (arith, e) in subst (λ (m : ℕ). Each [] (block rest) m known) same (k known knows holds)
    fetches_each calls grid n b line next [] [] [] (v ∷ cs) is some low less e free rest k known knows holds = absurd is
    fetches_each calls grid n b line next [] [] (w ∷ ws) cs is some low less e free rest k known knows holds = absurd is
    fetches_each calls grid n b line next [] (f ∷ fs) ws cs is some low less e free rest k known knows holds = absurd is
    fetches_each calls grid n b line next (y ∷ ys) [] ws cs is some low less e free rest k known knows holds = absurd is
    fetches_each calls grid n b line next (y ∷ ys) (f ∷ fs) [] cs is some low less e free rest k known knows holds = absurd is
    fetches_each calls grid n b line next (y ∷ ys) (f ∷ fs) (w ∷ ws) [] is some low less e free rest k known knows holds = absurd is
    fetches_each calls grid n b line next (y ∷ ys) (f ∷ fs) (w ∷ ws) (v ∷ cs) is some low less e free rest k known knows holds =
        let two : line + 2 ≡ line + 1 + 1 = omega arith in
        let one : line ≡ line + 1 - 1 = omega arith in
        let buffered : f.buffer ≡ b = is.0.buffered in
        let differs : (0 == f.buffer) ≡ false = grind (arith, nat_tests, buffered, some) in
        let held : (if 0 == f.buffer then Some f.places else places_of known.buffers 0) ≡ Some places =
        ap (λ (t : Bool). if t then Some f.places else places_of known.buffers 0) differs ∙ holds in
        let known1 : Known = onwards outline rules (Alloc f.buffer f.function f.places) (outline.named (line + 1 - 1)) known in
        let known2 : Known = onwards outline rules (Fetch f.buffer f.group f.region) (outline.named (line + 1 + 1 - 1)) known1 in
        let first : Sees known1 = other_knows (Alloc f.buffer f.function f.places) (line + 1 - 1) known known1 (omega (arith, low)) (omega (arith, less, e)) refl refl knows in
        let second : Sees known2 = other_knows (Fetch f.buffer f.group f.region) (line + 1 + 1 - 1) known1 known2 (omega (arith, low)) (omega (arith, less, e)) refl refl first in (
          tt,
          none_named _ (line + 1 - 1) (subst Free one free.0),
          (
            tt,
            all_members _ (outline.named (line + 1 + 1 - 1)) (λ c m. fetched _ _ _ _ _ _ _ c),
            fetches_each calls grid n (b + 1) (line + 1 + 1) next ys fs ws cs (subst (λ (m : ℕ). AreFetched calls grid n (b + 1) m ys fs ws cs) two is.2) (omega arith) (omega (arith, low)) less
                (omega (arith, e)) (subst (λ (m : ℕ). Evens outline m fs) two free.1) rest k known2 second held,
          ),
        )
