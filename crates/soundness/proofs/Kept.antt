-- The windows that a loop keeps: what the turn before left of their claims is known until their statements begin.
use Rattle.std.proofs.Common.{◌≡◌, ℕ, zero, suc, ◌+◌, ◌-◌, Bool, true, false, List, [], ◌∷◌, Some, refl, sym, ap, ◌∙◌, subst, inl, inr}
use Rattle.std.specs.Prelude.{ℤ, pos, ◌+ℤ◌, ◌-ℤ◌, ◌==◌, ◌||◌, ◌&&◌, ◌⊎◌, not, if◌then◌else◌, filter, int_le}
use Rattle.std.specs.List.{list_any}
use Rattle.lin.specs.declared.span.Span1.{Span1}
use Rattle.plan.specs.declared.certificate.cert.Window.{Window}
use Rattle.plan.specs.Plan.{Statement, Seq, For, Let, First, Guard, Alloc, Fetch, Store, Publish, Statements, Empty, Then}
use Rattle.plan.specs.declared.stmt.Pick.TheVariants.{Min, Max}
use Rattle.plan.specs.Symbols.{Symbols, bind, rising, clipped, turns, largest, smallest}
use Rattle.plan.specs.Lines.{lines}
use Rattle.soundness.specs.Origins.{Outline, Given, windowed}
use Rattle.soundness.specs.Claims.{In, Fact, Scope, changes, block_changes, is_update, stable, new_fact, onward, left, handed_on, turn_symbols, in_turn}
use Rattle.soundness.specs.Around.{Binder, Ranged, Picked, picked, binds, inside}
use Rattle.soundness.specs.Sliding.{IsTurnBefore}
use Rattle.soundness.specs.Obligations.{Rules, is_member, more_binders, window_of, without, gives, stands_alone, kept_in, kept_of}
use Rattle.soundness.specs.Handed.{IsHandedOn, IsCarried, binders_there}
use Rattle.soundness.proofs.Forms.{is_not}
use Rattle.soundness.proofs.Refines.{and_parts, eq_refl, eq_true}
use Rattle.soundness.proofs.Sound.{or_left, or_right}
use Rattle.soundness.proofs.Written.{in_append_left}
use Rattle.soundness.proofs.Handing.{bind_beside, bind_here, bind_first, first_beside, no_more, onward_has, turns_hand_on}

-- ---- lists

pub in_filtered : {A : Type 0} (test : A → Bool) (x : A) (xs : List A) → In x (filter test xs) → In x xs × (test x ≡ true)
in_filtered test x [] m = absurd m
in_filtered test x (y ∷ ys) m = of (test y) refl m (in_filtered test x ys)
  where
    of : (v : Bool) → test y ≡ v → In x (if v then y ∷ filter test ys else filter test ys) → (In x (filter test ys) → In x ys × (test x ≡ true)) → In x (y ∷ ys) × (test x ≡ true)
    of true t (inl e) rest = (inl e, ap test e ∙ t)
    of true t (inr n) rest = let k = rest n in (inr k.0, k.1)
    of false t n rest = let k = rest n in (inr k.0, k.1)

pub member_of : (d : ℕ) (ds : List ℕ) → In d ds → is_member d ds ≡ true
member_of d [] m = absurd m
member_of d (e ∷ ds) (inl same) = let is : (e == d) ≡ true = ap (λ n. n == d) (sym same) ∙ eq_refl d in rw is refl
member_of d (e ∷ ds) (inr m) = more (e == d) (member_of d ds m)
  where
    more : (v : Bool) → is_member d ds ≡ true → (v || is_member d ds) ≡ true
    more true k = refl
    more false k = k

any_member : {A : Type 0} (test : A → Bool) (x : A) (xs : List A) → In x xs → test x ≡ true → list_any test xs ≡ true
any_member test x [] m e = absurd m
any_member test x (y ∷ ys) (inl same) e = let here : test y ≡ true = ap test (sym same) ∙ e in rw here refl
any_member test x (y ∷ ys) (inr m) e = of (test y) (any_member test x ys m e)
  where
    of : (v : Bool) → list_any test ys ≡ true → (v || list_any test ys) ≡ true
    of true k = refl
    of false k = k

both_true : (a b : Bool) → a ≡ true → b ≡ true → (a && b) ≡ true
both_true a b h k = rw h k

-- ---- the windows of a loop

-- the window of a claim is one of them
pub found : (ws : List Window) (c : ℕ) (w : Window) → window_of ws c ≡ Some w → In w ws × (w.claim ≡ c)
found [] c w e = absurd (cc e)
found (v ∷ ws) c w e = of (v.claim == c) refl e (found ws c w)
  where
    of : (b : Bool) → (v.claim == c) ≡ b → (if b then Some v else window_of ws c) ≡ Some w → (window_of ws c ≡ Some w → In w ws × (w.claim ≡ c)) → In w (v ∷ ws) × (w.claim ≡ c)
    of true h k rest = let same : w ≡ v = cc in (inl same, ap (λ x. x.claim) same ∙ eq_true v.claim c h)
    of false h k rest = let r = rest k in (inr r.0, r.1)

-- without windows no loop keeps one
pub none_kept : (outline : Outline) (rules : Rules) (i : ℕ) (body : Statement) (line : ℕ) → outline.windows ≡ [] → kept_of outline rules i body line ≡ []
none_kept outline rules i (Seq row) line e = ap (filter (λ w. (w.symbol == i) && (not (is_update (outline.claim w.claim).definition) && stands_alone outline i w.claim row line))) e
none_kept outline rules i (For j x kind body) line e = refl
none_kept outline rules i (Let j pick ls) line e = refl
none_kept outline rules i (First j a c) line e = refl
none_kept outline rules i (Guard low high body) line e = refl
none_kept outline rules i (Alloc b f places) line e = refl
none_kept outline rules i (Fetch b g region) line e = refl
none_kept outline rules i (Store b k at v) line e = refl
none_kept outline rules i (Publish c) line e = refl

-- what is known of a window that a loop keeps
pub record IsKept (outline : Outline) (i : ℕ) (row : Statements) (line : ℕ) (w : Window) : Type 0 where
  pub symbol : w.symbol ≡ i
  pub windowed : windowed outline i w.claim ≡ true
  pub pure : is_update (outline.claim w.claim).definition ≡ false
  pub alone : stands_alone outline i w.claim row line ≡ true

pub is_kept : (outline : Outline) (rules : Rules) (i : ℕ) (row : Statements) (line : ℕ) (w : Window) → In w (kept_in outline rules i row line) → IsKept outline i row line w
is_kept outline rules i row line w m =
    let k = in_filtered (λ v. (v.symbol == i) && (not (is_update (outline.claim v.claim).definition) && stands_alone outline i v.claim row line)) w outline.windows m in
    let along = and_parts (w.symbol == i) _ k.1 in
    let rest = and_parts (not (is_update (outline.claim w.claim).definition)) _ along.1 in record {
      symbol = eq_true w.symbol i along.0;
      windowed = any_member (λ v. (v.symbol == i) && (v.claim == w.claim)) w outline.windows k.0 (both_true (w.symbol == i) (w.claim == w.claim) along.0 (eq_refl w.claim));
      pure = is_not (is_update (outline.claim w.claim).definition) rest.0;
      alone = rest.1;
    }

-- ---- a turn begins

module _ (given : Given) (rules : Rules) where
  -- the binders round a claim's statement, inside the loop
  abbrev pub inner_of : ℕ → ℕ → Statements → ℕ → List Binder → List Binder
  inner_of i c row line bs = inside i (binders_there given.outline rules c row line bs)

  begins_handed : (i : ℕ) (body : Statement) (c : ℕ) (inner : List Binder) (sc : Scope) (low z : ℤ) (carried : List Fact) → IsCarried given i inner c sc.symbols low z carried →
      IsHandedOn given i inner c (in_turn given (turn_symbols given sc.symbols i low z) body sc carried)
  begins_handed i body c inner sc low z carried (inl first) = inl (bind_first sc.symbols i z (int_le z low) ∙ no_more low z first)
  begins_handed i body c inner sc low z carried (inr h) =
      inr (
        h.0,
        record { next = h.1 ∙ sym (bind_here sc.symbols i z (int_le z low)); same = λ j e lacks. bind_beside sc.symbols i z (int_le z low) j e ∙ sym (h.2 j e lacks) },
        in_append_left (new_fact given h.0 c) carried (stable given body sc.facts) h.3,
      )

  -- ---- from statement to statement

  -- what stands inside the loop still does where more is bound
  inner_grows : (i c : ℕ) (row : Statements) (line : ℕ) (bs : List Binder) (k : ℕ) → list_any (binds k) (inner_of i c row line bs) ≡ false → list_any (binds k) (inside i bs) ≡ false
  inner_grows i c Empty line bs k h = h
  inner_grows i c (Then a rest) line bs k h = of (is_member c (given.outline.named (line + lines a - 1))) h (inner_grows i c rest (line + lines a) (more_binders given.outline rules a bs) k)
    where
      later : (b : Statement) → list_any (binds k) (inside i (more_binders given.outline rules b bs)) ≡ false → list_any (binds k) (inside i bs) ≡ false
      later (Let j pick ls) e = or_right (k == j) (list_any (binds k) (inside i bs)) e
      later (Seq all) e = e
      later (For j x kind body) e = e
      later (First j x y) e = e
      later (Guard low high body) e = e
      later (Alloc b f places) e = e
      later (Fetch b g region) e = e
      later (Store b n at v) e = e
      later (Publish n) e = e

      of : (v : Bool) → list_any (binds k) (inside i (if v then bs else binders_there given.outline rules c rest (line + lines a) (more_binders given.outline rules a bs))) ≡ false →
          (list_any (binds k) (inner_of i c rest (line + lines a) (more_binders given.outline rules a bs)) ≡ false → list_any (binds k) (inside i (more_binders given.outline rules a bs)) ≡ false) →
          list_any (binds k) (inside i bs) ≡ false
      of true e deeper = e
      of false e deeper = later a (deeper e)

  -- a let of another symbol inside the loop
  let_handed : (i j c : ℕ) (y : ℤ) (inner : List Binder) (s : Symbols) (facts later : List Fact) → (i == j) ≡ false →
      ((k : ℕ) → list_any (binds k) inner ≡ false → (k == j) ≡ false) → ((t : Symbols) → In (new_fact given t c) facts → In (new_fact given t c) later) →
      (s.first i ≡ true) ⊎ ((before : Symbols) × IsTurnBefore i inner before s × In (new_fact given before c) facts) →
      ((bind s j y true).first i ≡ true) ⊎ ((before : Symbols) × IsTurnBefore i inner before (bind s j y true) × In (new_fact given before c) later)
  let_handed i j c y inner s facts later other lacks keeps (inl first) = inl (first_beside s j y i other ∙ first)
  let_handed i j c y inner s facts later other lacks keeps (inr h) =
      inr (
        h.0,
        record { next = h.1.next ∙ sym (bind_beside s j y true i other); same = λ k e none. bind_beside s j y true k (lacks k none) ∙ h.1.same k e none },
        keeps h.0 h.2,
      )

  stays_handed : (i c : ℕ) (inner : List Binder) (s : Symbols) (facts later : List Fact) → ((t : Symbols) → In (new_fact given t c) facts → In (new_fact given t c) later) →
      (s.first i ≡ true) ⊎ ((before : Symbols) × IsTurnBefore i inner before s × In (new_fact given before c) facts) →
      (s.first i ≡ true) ⊎ ((before : Symbols) × IsTurnBefore i inner before s × In (new_fact given before c) later)
  stays_handed i c inner s facts later keeps (inl first) = inl first
  stays_handed i c inner s facts later keeps (inr h) = inr (h.0, h.1, keeps h.0 h.2)

  goes_handed : (i c : ℕ) (a : Statement) (rest : Statements) (line : ℕ) (bs : List Binder) (sc : Scope) → changes a (given.outline.claim c).buffer ≡ false → gives i a ≡ false →
      IsHandedOn given i (inner_of i c rest (line + lines a) (more_binders given.outline rules a bs)) c sc →
      IsHandedOn given i (inner_of i c rest (line + lines a) (more_binders given.outline rules a bs)) c (onward given a line sc)
  goes_handed i c (Let j Min ls) rest line bs sc left other h =
      let a = Let j Min ls in
      let more = Picked j Min ls ∷ bs in
      let_handed i j c (picked Min ls sc.symbols) (inner_of i c rest (line + lines a) more) sc.symbols sc.facts (onward given a line sc).facts other
      (λ k none. or_left (k == j) (list_any (binds k) (inside i bs)) (inner_grows i c rest (line + lines a) more k none)) (λ t m. onward_has given rules i c a line sc t left m) h
  goes_handed i c (Let j Max ls) rest line bs sc left other h =
      let a = Let j Max ls in
      let more = Picked j Max ls ∷ bs in
      let_handed i j c (picked Max ls sc.symbols) (inner_of i c rest (line + lines a) more) sc.symbols sc.facts (onward given a line sc).facts other
      (λ k none. or_left (k == j) (list_any (binds k) (inside i bs)) (inner_grows i c rest (line + lines a) more k none)) (λ t m. onward_has given rules i c a line sc t left m) h
  goes_handed i c (Seq all) rest line bs sc left other h =
      let a = Seq all in
      stays_handed i c (inner_of i c rest (line + lines a) bs) sc.symbols sc.facts (onward given a line sc).facts (λ t m. onward_has given rules i c a line sc t left m) h
  goes_handed i c (For j x kind body) rest line bs sc left other h =
      let a = For j x kind body in
      stays_handed i c (inner_of i c rest (line + lines a) bs) sc.symbols sc.facts (onward given a line sc).facts (λ t m. onward_has given rules i c a line sc t left m) h
  goes_handed i c (First j x y) rest line bs sc left other h =
      let a = First j x y in
      stays_handed i c (inner_of i c rest (line + lines a) bs) sc.symbols sc.facts (onward given a line sc).facts (λ t m. onward_has given rules i c a line sc t left m) h
  goes_handed i c (Guard low high body) rest line bs sc left other h =
      let a = Guard low high body in
      stays_handed i c (inner_of i c rest (line + lines a) bs) sc.symbols sc.facts (onward given a line sc).facts (λ t m. onward_has given rules i c a line sc t left m) h
  goes_handed i c (Alloc b f places) rest line bs sc left other h =
      let a = Alloc b f places in
      stays_handed i c (inner_of i c rest (line + lines a) bs) sc.symbols sc.facts (onward given a line sc).facts (λ t m. onward_has given rules i c a line sc t left m) h
  goes_handed i c (Fetch b g region) rest line bs sc left other h =
      let a = Fetch b g region in
      stays_handed i c (inner_of i c rest (line + lines a) bs) sc.symbols sc.facts (onward given a line sc).facts (λ t m. onward_has given rules i c a line sc t left m) h
  goes_handed i c (Store b n at v) rest line bs sc left other h =
      let a = Store b n at v in
      stays_handed i c (inner_of i c rest (line + lines a) bs) sc.symbols sc.facts (onward given a line sc).facts (λ t m. onward_has given rules i c a line sc t left m) h
  goes_handed i c (Publish n) rest line bs sc left other h =
      let a = Publish n in
      stays_handed i c (inner_of i c rest (line + lines a) bs) sc.symbols sc.facts (onward given a line sc).facts (λ t m. onward_has given rules i c a line sc t left m) h

  -- of each of the windows: its claim's statement is still to come, and what the turn before left of the claim is known
  pub record IsAwaited (w : Window) (row : Statements) (line : ℕ) (bs : List Binder) (sc : Scope) : Type 0 where
    pub alone : stands_alone given.outline w.symbol w.claim row line ≡ true
    pub handed : IsHandedOn given w.symbol (inner_of w.symbol w.claim row line bs) w.claim sc

  abbrev pub AreAwaited : List Window → Statements → ℕ → List Binder → Scope → Type 0
  AreAwaited ws row line bs sc = (w : Window) → In w ws → IsAwaited w row line bs sc

  -- at the claim's statement
  awaited_here : (w : Window) (a : Statement) (rest : Statements) (line : ℕ) (bs : List Binder) (sc : Scope) → is_member w.claim (given.outline.named (line + lines a - 1)) ≡ true →
      IsAwaited w (Then a rest) line bs sc → IsHandedOn given w.symbol (inside w.symbol bs) w.claim sc
  awaited_here w a rest line bs sc named h =
      let later = binders_there given.outline rules w.claim rest (line + lines a) (more_binders given.outline rules a bs) in
      subst (λ (v : Bool). IsHandedOn given w.symbol (inside w.symbol (if v then bs else later)) w.claim sc) named h.handed

  -- and after any other
  awaited_on : (w : Window) (a : Statement) (rest : Statements) (line : ℕ) (bs : List Binder) (sc : Scope) → is_member w.claim (given.outline.named (line + lines a - 1)) ≡ false →
      IsAwaited w (Then a rest) line bs sc → IsAwaited w rest (line + lines a) (more_binders given.outline rules a bs) (onward given a line sc)
  awaited_on w a rest line bs sc unnamed h = of (is_member c named) unnamed h.alone h.handed
    where
      c : ℕ
      c = w.claim

      named : List ℕ
      named = given.outline.named (line + lines a - 1)

      of : (v : Bool) → v ≡ false →
          (if v then not (block_changes rest (given.outline.claim c).buffer)
          else (not (changes a (given.outline.claim c).buffer) && (not (gives w.symbol a) && stands_alone given.outline w.symbol c rest (line + lines a)))) ≡ true →
          IsHandedOn given w.symbol (inside w.symbol (if v then bs else binders_there given.outline rules c rest (line + lines a) (more_binders given.outline rules a bs))) c sc →
          IsAwaited w rest (line + lines a) (more_binders given.outline rules a bs) (onward given a line sc)
      of true e k g = absurd (cc e)
      of false e k g =
          let one = and_parts (not (changes a (given.outline.claim c).buffer)) _ k in
          let two = and_parts (not (gives w.symbol a)) _ one.1 in record {
            alone = two.1;
            handed = goes_handed w.symbol c a rest line bs sc (is_not (changes a (given.outline.claim c).buffer) one.0) (is_not (gives w.symbol a) two.0) g;
          }

  pub claim_handed : (ws : List Window) (a : Statement) (rest : Statements) (line : ℕ) (bs : List Binder) (sc : Scope) → AreAwaited ws (Then a rest) line bs sc →
      (c : ℕ) → In c (given.outline.named (line + lines a - 1)) → (w : Window) → window_of ws c ≡ Some w → IsHandedOn given w.symbol (inside w.symbol bs) c sc
  claim_handed ws a rest line bs sc h c m w e =
      let f = found ws c w e in
      subst (λ d. IsHandedOn given w.symbol (inside w.symbol bs) d sc) f.1
      (awaited_here w a rest line bs sc (ap (λ d. is_member d (given.outline.named (line + lines a - 1))) f.1 ∙ member_of c (given.outline.named (line + lines a - 1)) m) (h w f.0))

  pub rest_awaited : (ws : List Window) (a : Statement) (rest : Statements) (line : ℕ) (bs : List Binder) (sc : Scope) → AreAwaited ws (Then a rest) line bs sc →
      AreAwaited (without (given.outline.named (line + lines a - 1)) ws) rest (line + lines a) (more_binders given.outline rules a bs) (onward given a line sc)
  rest_awaited ws a rest line bs sc h w m =
      let named = given.outline.named (line + lines a - 1) in
      let k = in_filtered (λ v. not (is_member v.claim named)) w ws m in
      awaited_on w a rest line bs sc (is_not (is_member w.claim named) k.1) (h w k.0)

  -- the same where a statement is a loop's body
  abbrev pub AwaitedIn : List Window → Statement → ℕ → List Binder → Scope → Type 0
  AwaitedIn ws (Seq row) line bs sc = AreAwaited ws row line bs sc
  AwaitedIn ws _ line bs sc = Unit {0}

  pub none_awaited : (a : Statement) (line : ℕ) (bs : List Binder) (sc : Scope) → AwaitedIn [] a line bs sc
  none_awaited (Seq row) line bs sc = λ w m. absurd m
  none_awaited (For j x kind body) line bs sc = tt
  none_awaited (Let j pick ls) line bs sc = tt
  none_awaited (First j x y) line bs sc = tt
  none_awaited (Guard low high body) line bs sc = tt
  none_awaited (Alloc b f places) line bs sc = tt
  none_awaited (Fetch b g region) line bs sc = tt
  none_awaited (Store b n at v) line bs sc = tt
  none_awaited (Publish n) line bs sc = tt

  -- ---- from turn to turn

  module _ (i : ℕ) (x : Span1) (bs : List Binder) (sc : Scope) where
    abbrev low : ℤ
    low = largest sc.symbols x.lower

    -- the windows of a body that is a block are carried to the turn of this number
    abbrev pub CarriedIn : Statement → ℕ → ℤ → List Fact → Type 0
    CarriedIn (Seq row) line z facts = (w : Window) → In w (kept_in given.outline rules i row line) → IsCarried given i (inner_of i w.claim row line (Ranged i x ∷ bs)) w.claim sc.symbols low z facts
    CarriedIn _ line z facts = Unit {0}

    -- and so to each of the turns that are still to come, of which this is the first
    pub record AreCarried (body : Statement) (line : ℕ) (facts : List Fact) (zs : List ℤ) : Type 0 where
      pub z : ℤ
      pub count : ℕ
      pub are : zs ≡ rising z count
      pub carried : CarriedIn body line z facts

    pub first_carried : (body : Statement) (line : ℕ) (facts : List Fact) → AreCarried body line facts (turns sc.symbols x)
    first_carried body line facts = record { z = low; count = clipped ((smallest sc.symbols x.upper +ℤ pos 1) -ℤ low); are = refl; carried = of body }
      where
        of : (a : Statement) → CarriedIn a line low facts
        of (Seq row) = λ w m. inl refl
        of (For j y kind b) = tt
        of (Let j pick ls) = tt
        of (First j y a) = tt
        of (Guard l h b) = tt
        of (Alloc b f places) = tt
        of (Fetch b g region) = tt
        of (Store b n at v) = tt
        of (Publish n) = tt

    no_loop_inside : inside i (Ranged i x ∷ bs) ≡ []
    no_loop_inside = let same : (i == i) ≡ true = eq_refl i in rw same refl

    -- in the turn all of them are awaited
    turn_awaited : (body : Statement) (line : ℕ) (z : ℤ) (facts : List Fact) → CarriedIn body line z facts →
        AwaitedIn (kept_of given.outline rules i body line) body line (Ranged i x ∷ bs) (in_turn given (turn_symbols given sc.symbols i low z) body sc facts)
    turn_awaited (Seq row) line z facts h =
        λ w m.
        let k = is_kept given.outline rules i row line w m in
        let turn = in_turn given (turn_symbols given sc.symbols i low z) (Seq row) sc facts in record {
          alone = subst (λ j. stands_alone given.outline j w.claim row line ≡ true) (sym k.symbol) k.alone;
          handed = subst (λ j. IsHandedOn given j (inner_of j w.claim row line (Ranged i x ∷ bs)) w.claim turn) (sym k.symbol)
              (begins_handed i (Seq row) w.claim (inner_of i w.claim row line (Ranged i x ∷ bs)) sc low z facts (h w m));
        }
    turn_awaited (For j y kind b) line z facts h = tt
    turn_awaited (Let j pick ls) line z facts h = tt
    turn_awaited (First j y a) line z facts h = tt
    turn_awaited (Guard l u b) line z facts h = tt
    turn_awaited (Alloc b f places) line z facts h = tt
    turn_awaited (Fetch b g region) line z facts h = tt
    turn_awaited (Store b n at v) line z facts h = tt
    turn_awaited (Publish n) line z facts h = tt

    -- and what it hands on carries them to the next
    turn_carried : (body : Statement) (line : ℕ) (z : ℤ) (facts : List Fact) → CarriedIn body line z facts →
        CarriedIn body line (z +ℤ pos 1) (handed_on given i body (left given body line (in_turn given (turn_symbols given sc.symbols i low z) body sc facts)))
    turn_carried (Seq row) line z facts h =
        λ w m.
        let k = is_kept given.outline rules i row line w m in
        (turns_hand_on given rules i w.claim row line (Ranged i x ∷ bs) sc low z facts k.windowed k.alone no_loop_inside (h w m)).next
    turn_carried (For j y kind b) line z facts h = tt
    turn_carried (Let j pick ls) line z facts h = tt
    turn_carried (First j y a) line z facts h = tt
    turn_carried (Guard l u b) line z facts h = tt
    turn_carried (Alloc b f places) line z facts h = tt
    turn_carried (Fetch b g region) line z facts h = tt
    turn_carried (Store b n at v) line z facts h = tt
    turn_carried (Publish n) line z facts h = tt

    -- the first of the turns that are still to come
    pub record IsTurn (body : Statement) (line : ℕ) (y : ℤ) (rest : List ℤ) (facts : List Fact) : Type 0 where
      pub awaited : AwaitedIn (kept_of given.outline rules i body line) body line (Ranged i x ∷ bs) (in_turn given (turn_symbols given sc.symbols i low y) body sc facts)
      pub next : AreCarried body line (handed_on given i body (left given body line (in_turn given (turn_symbols given sc.symbols i low y) body sc facts))) rest

    pub one_turn : (body : Statement) (line : ℕ) (y : ℤ) (rest : List ℤ) (facts : List Fact) → AreCarried body line facts (y ∷ rest) → IsTurn body line y rest facts
    one_turn body line y rest facts h = of h.count h.are
      where
        of : (n : ℕ) → y ∷ rest ≡ rising h.z n → IsTurn body line y rest facts
        of zero e = absurd (cc e)
        of (suc n) e =
            let same : h.z ≡ y = cc in
            let others : rest ≡ rising (h.z +ℤ pos 1) n = cc in
            let here : CarriedIn body line y facts = subst (λ z. CarriedIn body line z facts) same h.carried in record {
              awaited = turn_awaited body line y facts here;
              next = record { z = y +ℤ pos 1; count = n; are = others ∙ ap (λ z. rising (z +ℤ pos 1) n) same; carried = turn_carried body line y facts here };
            }
