-- Where each step's later turns lead on, the points that the turns visit rise.
use Rattle.std.proofs.Common.{◌≡◌, ℕ, zero, suc, Bool, true, false, List, [], ◌∷◌, ◌++◌, map, Option, Some, None, refl, sym, ap, ◌∙◌, subst, inl, inr, arith}
use Rattle.std.specs.Prelude.{ℤ, pos, ◌+ℤ◌, ◌-ℤ◌, ◌*ℤ◌, ◌≤ℤ◌, ◌<ℤ◌, ◌⊎◌, ◌||◌, ◌&&◌, not, if◌then◌else◌, flat_map, int_le}
use Rattle.std.specs.List.{AllByRecursion, list_any, list_all}
use Rattle.std.proofs.lemmas.Int.{ints, fold-int_max_bounds, fold-int_min_bounds}
use Rattle.std.proofs.lemmas.List.Elements.{recursion_from_All}
use Rattle.numeric.proofs.Ints.{distribute, multiply_order}
use Rattle.lin.specs.Forms.{Form, factor_of, same_form, same_terms}
use Rattle.std.specs.Ordering.{int_eq}
use Rattle.lin.specs.declared.span.Span1.{Span1}
use Rattle.plan.specs.declared.stmt.Pick.TheVariants.{Min, Max}
use Rattle.plan.specs.Symbols.{Symbols, bind, form_value, rising, clipped, largest, smallest, turns}
use Rattle.soundness.specs.Claims.{In}
use Rattle.soundness.specs.Obligations.{Lies, LieIn, exactly, form_has, span_has}
use Rattle.soundness.proofs.Forms.{is_not, turn_lies, map_rec}
use Rattle.soundness.proofs.Refines.{and_parts, number_true}
use Rattle.soundness.proofs.Sound.{or_left, or_right, or_cases}
use Rattle.soundness.proofs.Turns.{in_append, in_flat}
use Rattle.tails.specs.Steps.{Step, Turns, Named, Tested}
use Rattle.tails.specs.Moves.{joined, single, expanded, each_replaced, is_single, is_positive}
use Rattle.tails.specs.Maps.{visited, is_some}
use Rattle.tails.specs.Order.{IsBefore, AreRising, span_over, spans_between, is_still, is_short, is_short_from, moves_on, is_led, is_in_order, before_step, spans_rising, OrderedIsRising}
use Rattle.tails.proofs.Chosen.{and_then_parts, if_parts, some_same, span_parts, all_at}
use Rattle.tails.proofs.Values.{joined_parts, single_part, all_both, rest_of, beside_value, bind_beside, bound_value, all_made, same_terms_sum, int_le_true, times_one}

-- ---- lists that rise

some_in : {A : Type 0} (test : A → Bool) (xs : List A) → list_any test xs ≡ true → (x : A) × In x xs × (test x ≡ true)
some_in test [] h = absurd (cc h)
some_in test (x ∷ xs) h = of (or_cases (test x) (list_any test xs) h) (λ k. some_in test xs k)
  where
    of : (test x ≡ true) ⊎ (list_any test xs ≡ true) → (list_any test xs ≡ true → (y : _) × In y xs × (test y ≡ true)) → (y : _) × In y (x ∷ xs) × (test y ≡ true)
    of (inl e) rest = (x, inl refl, e)
    of (inr e) rest = let k = rest e in (k.0, inr k.1, k.2)

abbrev UpTo : List ℤ → List ℤ → Type 0
UpTo p q = IsBefore p q ⊎ (p ≡ q)

rising_append : (xs ys : List (List ℤ)) → AreRising xs → AreRising ys → ((p q : List ℤ) → In p xs → In q ys → UpTo p q) → AreRising (xs ++ ys)
rising_append [] ys a b up = b
rising_append (x ∷ xs) ys a b up = (
  λ q m. elim (in_append q xs ys m) [ inl n ↦ a.0 q n | inr n ↦ up x q (inl refl) n ],
  rising_append xs ys a.1 b (λ p q m n. up p q (inr m) n),
)

from_low : (n : ℕ) (low z : ℤ) → In z (rising low n) → low ≤ℤ z
from_low zero low z m = absurd m
from_low (suc n) low z (inl e) = omega (arith, ints, e)
from_low (suc n) low z (inr m) = let k = from_low n (low +ℤ pos 1) z m in omega (arith, ints, k)

rising_flat : (g : ℤ → List (List ℤ)) (n : ℕ) (low : ℤ) → ((z : ℤ) → In z (rising low n) → AreRising (g z)) →
    ((z y : ℤ) (p q : List ℤ) → In z (rising low n) → In y (rising low n) → z <ℤ y → In p (g z) → In q (g y) → UpTo p q) → AreRising (flat_map g (rising low n))
rising_flat g zero low each up = tt
rising_flat g (suc n) low each up =
    rising_append (g low) (flat_map g (rising (low +ℤ pos 1) n)) (each low (inl refl))
    (rising_flat g n (low +ℤ pos 1) (λ z m. each z (inr m)) (λ z y p q m k less a b. up z y p q (inr m) (inr k) less a b))
    (λ p q m k.
    let r = in_flat g q (rising (low +ℤ pos 1) n) k in
    let later = from_low n (low +ℤ pos 1) r.0 r.1 in
    up low r.0 p q (inl refl) (inr r.1) (omega (arith, ints, later)) m r.2)

-- ---- between which numbers coordinates are

-- the smallest of some forms is at most each, and the largest at least
min_each : (s : Symbols) (us : List Form) → AllByRecursion (λ u. smallest s us ≤ℤ form_value u s) us
min_each s [] = tt
min_each s (u ∷ us) =
    let k = fold-int_min_bounds (form_value u s) (map (λ m. form_value m s) us) _ refl in
    (k.0, map_rec (λ m. form_value m s) (λ v. smallest s (u ∷ us) ≤ℤ v) us (recursion_from_All (λ v. smallest s (u ∷ us) ≤ℤ v) (map (λ m. form_value m s) us) k.1))

max_each : (s : Symbols) (ls : List Form) → AllByRecursion (λ l. form_value l s ≤ℤ largest s ls) ls
max_each s [] = tt
max_each s (l ∷ ls) =
    let k = fold-int_max_bounds (form_value l s) (map (λ m. form_value m s) ls) _ refl in
    (k.0, map_rec (λ m. form_value m s) (λ v. v ≤ℤ largest s (l ∷ ls)) ls (recursion_from_All (λ v. v ≤ℤ largest s (l ∷ ls)) (map (λ m. form_value m s) ls) k.1))

-- what holds of the values at a number holds of the forms that stand for it
abbrev Opens : (ℤ → Type 0) → Symbols → List Form → ℤ → Type 0
Opens P s ms m = (r c : ℤ) → pos 1 ≤ℤ c → P (r +ℤ c *ℤ m) → AllByRecursion (λ g. P (r +ℤ c *ℤ form_value g s)) ms

opens_low : (q : ℤ) (s : Symbols) (m : ℤ) (ms : List Form) → AllByRecursion (λ g. form_value g s ≤ℤ m) ms → Opens (λ v. v ≤ℤ q) s ms m
opens_low q s m [] all r c sign h = tt
opens_low q s m (g ∷ gs) all r c sign h =
    let scaled = multiply_order c (form_value g s) m (omega (arith, ints, sign)) all.0 in
    (omega (arith, ints, scaled, h), opens_low q s m gs all.1 r c sign h)

opens_high : (q : ℤ) (s : Symbols) (m : ℤ) (ms : List Form) → AllByRecursion (λ g. m ≤ℤ form_value g s) ms → Opens (λ v. q ≤ℤ v) s ms m
opens_high q s m [] all r c sign h = tt
opens_high q s m (g ∷ gs) all r c sign h =
    let scaled = multiply_order c m (form_value g s) (omega (arith, ints, sign)) all.0 in
    (omega (arith, ints, scaled, h), opens_high q s m gs all.1 r c sign h)

module _ (i : ℕ) (s : Symbols) (m : ℤ) (flag : Bool) where
  expanded_on : (P : ℤ → Type 0) (ms : List Form) → Opens P s ms m → (fs gs : List Form) → expanded false (λ a b. false) i ms fs ≡ Some gs →
      AllByRecursion (λ f. P (form_value f (bind s i m flag))) fs → AllByRecursion (λ g. P (form_value g s)) gs
  expanded_on P ms opens [] gs e h = let none : [] ≡ gs = some_same [] gs e in subst (AllByRecursion (λ g. P (form_value g s))) none tt
  expanded_on P ms opens (f ∷ fs) gs e h = of (form_has i f) refl e (λ gs e. expanded_on P ms opens fs gs e h.1)
    where
      of : (v : Bool) → form_has i f ≡ v →
          (if v then (if is_positive (factor_of f.terms i) then joined (each_replaced f i (factor_of f.terms i) ms) (expanded false (λ a b. false) i ms fs) else None)
          else joined (Some (f ∷ [])) (expanded false (λ a b. false) i ms fs)) ≡ Some gs →
          ((gs : List Form) → expanded false (λ a b. false) i ms fs ≡ Some gs → AllByRecursion (λ g. P (form_value g s)) gs) → AllByRecursion (λ g. P (form_value g s)) gs
      of true has e rest =
          let c = factor_of f.terms i in
          let a = if_parts (is_positive c) (joined (each_replaced f i c ms) (expanded false (λ a b. false) i ms fs)) gs e in
          let j = joined_parts (each_replaced f i c ms) (expanded false (λ a b. false) i ms fs) gs a.1 in
          let here : P (rest_of f i s +ℤ c *ℤ m) = subst P (bound_value f i s m flag) h.0 in
          let made = all_made P f i c s ms j.left j.is_left (opens (rest_of f i s) c (int_le_true (pos 1) c a.0) here) in
          subst (AllByRecursion (λ g. P (form_value g s))) (sym j.all) (all_both (λ g. P (form_value g s)) j.left j.right made (rest j.right j.is_right))
      of false lacks e rest =
          let j = joined_parts (Some (f ∷ [])) (expanded false (λ a b. false) i ms fs) gs e in
          let here : P (form_value f s) = subst P (beside_value f i s (bind s i m flag) (bind_beside s i m flag) lacks) h.0 in
          let first : AllByRecursion (λ g. P (form_value g s)) j.left = subst (AllByRecursion (λ g. P (form_value g s))) (some_same (f ∷ []) j.left j.is_left) (here, tt) in
          subst (AllByRecursion (λ g. P (form_value g s))) (sym j.all) (all_both (λ g. P (form_value g s)) j.left j.right first (rest j.right j.is_right))

  span_on : (ls us : List Form) → AllByRecursion (λ l. form_value l s ≤ℤ m) ls → AllByRecursion (λ u. m ≤ℤ form_value u s) us → (y z : Span1) (q : ℤ) →
      span_over i ls us y ≡ Some z → Lies (bind s i m flag) y q → Lies s z q
  span_on ls us low high y z q e lie =
      let b = span_parts (expanded false (λ a b. false) i ls y.lower) (expanded false (λ a b. false) i us y.upper) z e in (
        expanded_on (λ v. v ≤ℤ q) ls (opens_low q s m ls low) y.lower z.lower b.0 lie.0,
        expanded_on (λ v. q ≤ℤ v) us (opens_high q s m us high) y.upper z.upper b.1 lie.1,
      )

  spans_on : (ls us : List Form) → AllByRecursion (λ l. form_value l s ≤ℤ m) ls → AllByRecursion (λ u. m ≤ℤ form_value u s) us → (ys zs : List Span1) (p : List ℤ) →
      spans_between i ls us ys ≡ Some zs → LieIn (bind s i m flag) ys p → LieIn s zs p
  spans_on ls us low high [] zs [] e lie = let none : [] ≡ zs = some_same [] zs e in subst (λ zs. LieIn s zs []) none tt
  spans_on ls us low high [] zs (q ∷ qs) e lie = absurd lie
  spans_on ls us low high (y ∷ ys) zs [] e lie = absurd lie
  spans_on ls us low high (y ∷ ys) zs (q ∷ qs) e lie =
      let j = joined_parts (single (span_over i ls us y)) (spans_between i ls us ys) zs e in
      let o = single_part (span_over i ls us y) j.left j.is_left in
      subst (λ zs. LieIn s zs (q ∷ qs)) (sym (j.all ∙ ap (λ l. l ++ j.right) o.2)) (span_on ls us low high y o.0 q o.1 lie.0, spans_on ls us low high ys j.right qs j.is_right lie.1)

-- ---- points of two turns

-- the same forms have the same value
form_same : (a b : Form) (s : Symbols) → same_form a b ≡ true → form_value a s ≡ form_value b s
form_same a b s h =
    let k = and_parts (int_eq a.constant b.constant) (same_terms a.terms b.terms) h in
    let c : a.constant ≡ b.constant = number_true a.constant b.constant k.0 in
    let t = same_terms_sum a.terms b.terms s.value k.1 in
    omega (arith, ints, c, t)

-- the one form that both ends of a span are
record One (y : Span1) : Type 0 where
  low : Form
  high : Form
  is_low : In low y.lower
  is_high : In high y.upper
  same : same_form high low ≡ true

one_of : (y : Span1) → is_single y ≡ true → One y
one_of y h =
    let u = some_in (λ u. list_any (same_form u) y.lower) y.upper h in
    let l = some_in (same_form u.0) y.lower u.2 in
    record { low = l.0; high = u.0; is_low = l.1; is_high = u.1; same = l.2 }

one_value : (s : Symbols) (y : Span1) (q : ℤ) (one : One y) → Lies s y q → q ≡ form_value one.low s
one_value s y q one lie =
    let a = all_at (λ l. form_value l s ≤ℤ q) one.low y.lower one.is_low lie.0 in
    let b = all_at (λ u. q ≤ℤ form_value u s) one.high y.upper one.is_high lie.1 in
    let c = form_same one.high one.low s one.same in
    omega (arith, ints, a, b, c)

lacks_at : (i : ℕ) (f : Form) (fs : List Form) → In f fs → list_any (form_has i) fs ≡ false → form_has i f ≡ false
lacks_at i f [] m h = absurd m
lacks_at i f (g ∷ gs) (inl e) h = ap (form_has i) e ∙ or_left (form_has i g) (list_any (form_has i) gs) h
lacks_at i f (g ∷ gs) (inr m) h = lacks_at i f gs m (or_right (form_has i g) (list_any (form_has i) gs) h)

module _ (i : ℕ) (s : Symbols) (z y : ℤ) (a b : Bool) where
  still_same : (x : Span1) (p q : ℤ) → is_still i x ≡ true → Lies (bind s i z a) x p → Lies (bind s i y b) x q → p ≡ q
  still_same x p q h lie lie-2 =
      let k = and_parts (is_single x) (not (span_has i x)) h in
      let one = one_of x k.0 in
      let lacks = lacks_at i one.low x.lower one.is_low (or_left (list_any (form_has i) x.lower) (list_any (form_has i) x.upper) (is_not (span_has i x) k.1)) in
      one_value (bind s i z a) x p one lie ∙ beside_value one.low i s (bind s i z a) (bind_beside s i z a) lacks
      ∙ sym (beside_value one.low i s (bind s i y b) (bind_beside s i y b) lacks) ∙ sym (one_value (bind s i y b) x q one lie-2)

  all_still : (xs : List Span1) (p q : List ℤ) → list_all (is_still i) xs ≡ true → LieIn (bind s i z a) xs p → LieIn (bind s i y b) xs q → p ≡ q
  all_still [] [] [] h lie lie-2 = refl
  all_still [] (p ∷ ps) q h lie lie-2 = absurd lie
  all_still [] [] (q ∷ qs) h lie lie-2 = absurd lie-2
  all_still (x ∷ xs) [] q h lie lie-2 = absurd lie
  all_still (x ∷ xs) (p ∷ ps) [] h lie lie-2 = absurd lie-2
  all_still (x ∷ xs) (p ∷ ps) (q ∷ qs) h lie lie-2 =
      let k = and_parts (is_still i x) (list_all (is_still i) xs) h in
      ap (λ v. v ∷ ps) (still_same x p q k.0 lie.0 lie-2.0) ∙ ap (λ vs. q ∷ vs) (all_still xs ps qs k.1 lie.1 lie-2.1)

  -- a later turn's values of a form lie as much higher as its factor says
  apart : (f u : Form) (p q : ℤ) → z <ℤ y → pos 1 ≤ℤ factor_of f.terms i → is_short i f u ≡ true →
      p ≤ℤ form_value u (bind s i z a) → form_value f (bind s i y b) ≤ℤ q → p <ℤ q
  apart f u p q less sign h below above =
      let n = factor_of f.terms i in
      let k = and_parts (same_terms u.terms f.terms) (int_le (u.constant +ℤ pos 1) (f.constant +ℤ n)) h in
      let t = same_terms_sum u.terms f.terms (bind s i z a).value k.0 in
      let c = int_le_true (u.constant +ℤ pos 1) (f.constant +ℤ n) k.1 in
      let first = bound_value f i s z a in
      let second = bound_value f i s y b in
      let scaled = multiply_order n (z +ℤ pos 1) y (omega (arith, ints, sign)) (omega (arith, ints, less)) in
      let spread = distribute n z (pos 1) in
      let one = times_one n in
      let ends : form_value u (bind s i z a) ≡ form_value f (bind s i z a) +ℤ (u.constant -ℤ f.constant) = omega (arith, ints, t) in
      omega (arith, ints, below, above, c, ends, first, second, scaled, spread, one)

  moved_on : (x : Span1) (p q : ℤ) → z <ℤ y → moves_on i x ≡ true → Lies (bind s i z a) x p → Lies (bind s i y b) x q → p <ℤ q
  moved_on x p q less h lie lie-2 =
      let f = some_in (is_short_from i x.upper) x.lower h in
      let k = and_parts (is_positive (factor_of f.0.terms i)) (list_any (is_short i f.0) x.upper) f.2 in
      let u = some_in (is_short i f.0) x.upper k.1 in
      apart f.0 u.0 p q less (int_le_true (pos 1) (factor_of f.0.terms i) k.0) u.2 (all_at (λ u. p ≤ℤ form_value u (bind s i z a)) u.0 x.upper u.1 lie.1)
      (all_at (λ l. form_value l (bind s i y b) ≤ℤ q) f.0 x.lower f.1 lie-2.0)

  led : (xs : List Span1) (p q : List ℤ) → z <ℤ y → is_led i xs ≡ true → LieIn (bind s i z a) xs p → LieIn (bind s i y b) xs q → IsBefore p q
  led [] p q less h lie lie-2 = absurd (cc h)
  led (x ∷ xs) [] q less h lie lie-2 = absurd lie
  led (x ∷ xs) (p ∷ ps) [] less h lie lie-2 = absurd lie-2
  led (x ∷ xs) (p ∷ ps) (q ∷ qs) less h lie lie-2 =
      elim (or_cases (is_led i xs) (list_all (is_still i) xs && moves_on i x) h) [
        | inl e ↦ inl (led xs ps qs less e lie.1 lie-2.1)
        | inr e ↦ let k = and_parts (list_all (is_still i) xs) (moves_on i x) e in inr (all_still xs ps qs k.0 lie.1 lie-2.1, moved_on x p q less k.1 lie.0 lie-2.0)
      ]

-- a loop whose ends are one form has one turn
one_turn : (s : Symbols) (x : Span1) (z y : ℤ) → is_single x ≡ true → Lies s x z → Lies s x y → z ≡ y
one_turn s x z y h lie lie-2 = let one = one_of x h in one_value s x z one lie ∙ sym (one_value s x y one lie-2)

in_order : (i : ℕ) (s : Symbols) (x : Span1) (ys : List Span1) (z y : ℤ) (a b : Bool) (p q : List ℤ) → is_in_order i x ys ≡ true → Lies s x z → Lies s x y → z <ℤ y →
    LieIn (bind s i z a) ys p → LieIn (bind s i y b) ys q → UpTo p q
in_order i s x ys z y a b p q h turn turn-2 less lie lie-2 =
    elim (or_cases (is_single x) (list_all (is_still i) ys || is_led i ys) h) [
      | inl e ↦ let same = one_turn s x z y e turn turn-2 in absurd (omega (arith, ints, same, less))
      | inr e ↦ elim (or_cases (list_all (is_still i) ys) (is_led i ys) e) [
        | inl k ↦ inr (all_still i s z y a b ys p q k lie lie-2)
        | inr k ↦ inl (led i s z y a b ys p q less k lie lie-2)
      ]
    ]

-- ---- all steps

in_if : (v : Bool) (q : List ℤ) (xs : List (List ℤ)) → In q (if v then xs else []) → In q xs
in_if true q xs m = m
in_if false q xs m = absurd m

rising_if : (v : Bool) (xs : List (List ℤ)) → AreRising xs → AreRising (if v then xs else [])
rising_if true xs h = h
rising_if false xs h = tt

exact_lies : (s : Symbols) (fs : List Form) → LieIn s (map exactly fs) (map (λ f. form_value f s) fs)
exact_lies s [] = tt
exact_lies s (f ∷ fs) = (((omega (arith, ints), tt), (omega (arith, ints), tt)), exact_lies s fs)

-- the points rise, and each coordinate lies in its span
abbrev Risen : List Step → List Form → List Span1 → Type 0
Risen steps fs ys = (s : Symbols) → AreRising (visited steps fs s) × ((p : List ℤ) → In p (visited steps fs s) → LieIn s ys p)

loop_risen : (i : ℕ) (x : Span1) (kind : _) (steps : List Step) (fs : List Form) (ys zs : List Span1) → Risen steps fs ys → is_in_order i x ys ≡ true →
    spans_between i x.lower x.upper ys ≡ Some zs → Risen (Turns i x kind ∷ steps) fs zs
loop_risen i x kind steps fs ys zs risen ordered e s =
    let flag : ℤ → Bool = λ z. int_le z (largest s x.lower) in
    let g : ℤ → List (List ℤ) = λ z. visited steps fs (bind s i z (flag z)) in (
      rising_flat g (clipped ((smallest s x.upper +ℤ pos 1) -ℤ largest s x.lower)) (largest s x.lower) (λ z m. (risen (bind s i z (flag z))).0)
          (λ z y p q m k less a b.
          in_order i s x ys z y (flag z) (flag y) p q ordered (turn_lies s x z m) (turn_lies s x y k) less ((risen (bind s i z (flag z))).1 p a) ((risen (bind s i y (flag y))).1 q b)),
      λ p m.
          let r = in_flat g p (turns s x) m in
          let turn = turn_lies s x r.0 r.1 in
          spans_on i s r.0 (flag r.0) x.lower x.upper turn.0 turn.1 ys zs p e ((risen (bind s i r.0 (flag r.0))).1 p r.2),
    )

step_risen : (b : Step) (steps : List Step) (fs : List Form) (ys zs : List Span1) → Risen steps fs ys → before_step b ys ≡ Some zs → Risen (b ∷ steps) fs zs
step_risen (Turns i x kind) steps fs ys zs risen e =
    let a = if_parts (is_in_order i x ys) (spans_between i x.lower x.upper ys) zs e in
    loop_risen i x kind steps fs ys zs risen a.0 a.1
step_risen (Named i Min ls) steps fs ys zs risen e = λ s. (
  (risen (bind s i (smallest s ls) true)).0,
  λ p m. spans_on i s (smallest s ls) true [] ls tt (min_each s ls) ys zs p e ((risen (bind s i (smallest s ls) true)).1 p m),
)
step_risen (Named i Max ls) steps fs ys zs risen e = λ s. (
  (risen (bind s i (largest s ls) true)).0,
  λ p m. spans_on i s (largest s ls) true ls [] (max_each s ls) tt ys zs p e ((risen (bind s i (largest s ls) true)).1 p m),
)
step_risen (Tested low high) steps fs ys zs risen e = λ s. (
  rising_if (int_le (form_value low s) (form_value high s)) (visited steps fs s) (risen s).0,
  λ p m. subst (λ (zs : List Span1). LieIn s zs p) (some_same ys zs e) ((risen s).1 p (in_if (int_le (form_value low s) (form_value high s)) p (visited steps fs s) m)),
)

all_risen : (steps : List Step) (fs : List Form) (zs : List Span1) → spans_rising steps fs ≡ Some zs → Risen steps fs zs
all_risen [] fs zs e = λ s. (
  ((λ q m. absurd m), tt),
  λ p m. elim m [
    | inl is ↦ subst (LieIn s zs) (sym is) (subst (λ (ys : List Span1). LieIn s ys (map (λ f. form_value f s) fs)) (some_same (map exactly fs) zs e) (exact_lies s fs))
    | inr none ↦ absurd none
  ],
)
all_risen (b ∷ steps) fs zs e =
    let a = and_then_parts (before_step b) (spans_rising steps fs) zs e in
    step_risen b steps fs a.0 zs (all_risen steps fs a.0 a.1) a.2

some_then : {A : Type 0} (o : Option A) → is_some o ≡ true → (a : A) × (o ≡ Some a)
some_then None h = absurd (cc h)
some_then (Some a) h = (a, refl)

pub ordered_is_rising : OrderedIsRising
ordered_is_rising steps fs s h = let o = some_then (spans_rising steps fs) h in (all_risen steps fs o.0 o.1 s).0
