-- Values of forms at two turns of one run of a loop, and what windows are.
use Rattle.std.proofs.Common.{◌≡◌, ℕ, Bool, true, false, List, [], ◌∷◌, refl, sym, ap, ◌∙◌, subst, inl, inr, arith}
use Rattle.std.specs.Prelude.{ℤ, pos, ◌+ℤ◌, ◌-ℤ◌, ◌*ℤ◌, ◌≤ℤ◌, ◌<ℤ◌, ◌==◌, ◌||◌, ◌&&◌, ◌⊎◌, not, if◌then◌else◌, int_le}
use Rattle.std.specs.List.{AllByRecursion, list_any, list_all}
use Rattle.std.proofs.lemmas.Int.{ints, by_lt_z}
use Rattle.numeric.proofs.Ints.{distribute, multiply_order}
use Rattle.lin.specs.Forms.{Form, number, factor_of}
use Rattle.lin.specs.Search.{is_empty}
use Rattle.lin.specs.declared.span.Span1.{Span1}
use Rattle.plan.specs.declared.stmt.Pick.TheVariants.{Min, Max}
use Rattle.plan.specs.declared.stmt.Places.TheVariants.{From}
use Rattle.plan.specs.Symbols.{Symbols, bind, form_value, largest, smallest}
use Rattle.soundness.specs.Around.{Binder, Lies, inside, AreTurns}
use Rattle.soundness.specs.Obligations.{Rules, form_has, span_has}
use Rattle.soundness.specs.Shown.{raised, is_seated}
use Rattle.soundness.specs.Nests.Tests.{has_ends, is_short}
use Rattle.soundness.proofs.Forms.{is_not, rec_weaker, turn_lies}
use Rattle.soundness.proofs.Refines.{and_parts, eq_true}
use Rattle.soundness.proofs.Sound.{or_cases, or_left, or_right}
use Rattle.soundness.proofs.Turns.{turns_have}
use Rattle.tails.specs.Steps.{Keeps}
use Rattle.tails.specs.Moves.{is_outer}
use Rattle.tails.proofs.Covering.{all_within}
use Rattle.tails.proofs.Lets.{outer_value, picked_holds}
use Rattle.tails.proofs.Values.{rest_of, split_value, bound_value, beside_value, bind_beside, times_one, int_le_true}
use Rattle.tails.specs.Windows.Spans.{is_rising_form, is_rising, NeverFalls, FitsFold}
use Rattle.tails.specs.Windows.Arms.{is_still}
use Rattle.tails.specs.Windows.Laws.{WindowsAreRight}

-- a member that passes the test
pub any_found : {A : Type 0} (test : A → Bool) (xs : List A) → list_any test xs ≡ true → (x : A) × (test x ≡ true)
any_found test [] h = absurd (cc h)
any_found test (x ∷ xs) h = elim (or_cases (test x) (list_any test xs) h) [ inl k ↦ (x, k) | inr k ↦ any_found test xs k ]

-- ---- two turns

module _ (i : ℕ) (inner : List Binder) (s t : Symbols) (same : AreTurns i inner s t) where
  kept : Keeps inner (bind s i (t.value i) true) t
  kept j h = of (j == i) refl
    where
      of : (v : Bool) → (j == i) ≡ v → t.value j ≡ (if v then t.value i else s.value j)
      of true e = ap t.value (eq_true j i e)
      of false e = same j e h

  later_value : (f : Form) → is_outer inner f ≡ true → form_value f t ≡ rest_of f i s +ℤ factor_of f.terms i *ℤ t.value i
  later_value f h = outer_value inner (bind s i (t.value i) true) t kept f h ∙ bound_value f i s (t.value i) true

  -- at the next turn a form has risen by the symbol's factor
  pub next_value : (f : Form) → is_outer inner f ≡ true → s.value i +ℤ pos 1 ≡ t.value i → form_value f t ≡ form_value f s +ℤ factor_of f.terms i
  next_value f h e =
      let c = factor_of f.terms i in
      let now = later_value f h in
      let before = split_value f i s in
      let up : c *ℤ t.value i ≡ c *ℤ s.value i +ℤ c *ℤ pos 1 = ap (λ z. c *ℤ z) (sym e) ∙ distribute c (s.value i) (pos 1) in
      let one = times_one c in
      omega (arith, ints, now, before, up, one)

  -- one with no negative factor has not fallen
  pub rises : (f : Form) → is_rising_form i inner f ≡ true → s.value i ≤ℤ t.value i → form_value f s ≤ℤ form_value f t
  rises f h order =
      let k = and_parts (int_le (pos 0) (factor_of f.terms i)) (is_outer inner f) h in
      let c = factor_of f.terms i in
      let scaled = multiply_order c (s.value i) (t.value i) (int_le_true (pos 0) c k.0) order in
      let now = later_value f k.1 in
      let before = split_value f i s in
      omega (arith, ints, now, before, scaled)

  -- one without the symbol stands still
  pub still_value : (f : Form) → form_has i f ≡ false → is_outer inner f ≡ true → form_value f t ≡ form_value f s
  still_value f lacks h =
      outer_value inner (bind s i (t.value i) true) t kept f h ∙ beside_value f i s (bind s i (t.value i) true) (bind_beside s i (t.value i) true) lacks

  all_still : (P : ℤ → Type 0) (fs : List Form) → list_any (form_has i) fs ≡ false → list_all (is_outer inner) fs ≡ true → AllByRecursion (λ f. P (form_value f t)) fs →
      AllByRecursion (λ f. P (form_value f s)) fs
  all_still P [] lacks h a = tt
  all_still P (f ∷ fs) lacks h a =
      let k = and_parts (is_outer inner f) (list_all (is_outer inner) fs) h in (
        subst P (still_value f (or_left (form_has i f) (list_any (form_has i) fs) lacks) k.0) a.0,
        all_still P fs (or_right (form_has i f) (list_any (form_has i) fs) lacks) k.1 a.1,
      )

  pub still_lies : (x : Span1) (z : ℤ) → is_still i inner x ≡ true → Lies t x z → Lies s x z
  still_lies x z h lie =
      let a = and_parts (not (span_has i x)) (list_all (is_outer inner) x.lower && list_all (is_outer inner) x.upper) h in
      let b = and_parts (list_all (is_outer inner) x.lower) (list_all (is_outer inner) x.upper) a.1 in
      let lacks = is_not (span_has i x) a.0 in (
        all_still (λ v. v ≤ℤ z) x.lower (or_left (list_any (form_has i) x.lower) (list_any (form_has i) x.upper) lacks) b.0 lie.0,
        all_still (λ v. z ≤ℤ v) x.upper (or_right (list_any (form_has i) x.lower) (list_any (form_has i) x.upper) lacks) b.1 lie.1,
      )

  pub all_rise : (fs : List Form) → list_all (is_rising_form i inner) fs ≡ true → s.value i ≤ℤ t.value i → AllByRecursion (λ f. form_value f s ≤ℤ form_value f t) fs
  all_rise [] h order = tt
  all_rise (f ∷ fs) h order =
      let k = and_parts (is_rising_form i inner f) (list_all (is_rising_form i inner) fs) h in
      (rises f k.0 order, all_rise fs k.1 order)

-- ---- ends

pub between_lies : (s : Symbols) (x : Span1) (z : ℤ) → largest s x.lower ≤ℤ z → z ≤ℤ smallest s x.upper → Lies s x z
between_lies s x z h k = turn_lies s x z (turns_have s x (largest s x.lower) (smallest s x.upper) z refl refl h k)

under_largest : (s : Symbols) (ls : List Form) → AllByRecursion (λ l. form_value l s ≤ℤ largest s ls) ls
under_largest s ls = (between_lies s (record { lower = ls; upper = number (largest s ls) ∷ [] }) (largest s ls) (omega (arith, ints)) (omega (arith, ints))).0

over_smallest : (s : Symbols) (us : List Form) → AllByRecursion (λ u. smallest s us ≤ℤ form_value u s) us
over_smallest s us = (between_lies s (record { lower = number (smallest s us) ∷ []; upper = us }) (smallest s us) (omega (arith, ints)) (omega (arith, ints))).1

both : {A : Type 0} (P Q : A → Type 0) (xs : List A) → AllByRecursion P xs → AllByRecursion Q xs → AllByRecursion (λ x. P x × Q x) xs
both P Q [] h k = tt
both P Q (x ∷ xs) h k = ((h.0, k.0), both P Q xs h.1 k.1)

pub never_falls : (i : ℕ) (inner : List Binder) (x : Span1) (s t : Symbols) → is_rising i inner x ≡ true → AreTurns i inner s t → s.value i ≤ℤ t.value i → NeverFalls x s t
never_falls i inner x s t h same order =
    let a = and_parts (has_ends x) (list_all (is_rising_form i inner) x.lower && list_all (is_rising_form i inner) x.upper) h in
    let e = and_parts _ _ a.0 in
    let b = and_parts (list_all (is_rising_form i inner) x.lower) (list_all (is_rising_form i inner) x.upper) a.1 in
    let lows = all_rise i inner s t same x.lower b.0 order in
    let highs = all_rise i inner s t same x.upper b.1 order in
    record {
      lower =
          picked_holds (λ v. v ≤ℤ largest t x.lower) s Max x.lower (is_not (is_empty x.lower) e.0)
          (rec_weaker (λ l. (form_value l s ≤ℤ form_value l t) × (form_value l t ≤ℤ largest t x.lower)) (λ l. form_value l s ≤ℤ largest t x.lower)
          (λ l p. let m = p.0 in let n = p.1 in omega (arith, ints, m, n)) x.lower (both _ _ x.lower lows (under_largest t x.lower)));
      upper =
          picked_holds (λ v. smallest s x.upper ≤ℤ v) t Min x.upper (is_not (is_empty x.upper) e.1)
          (rec_weaker (λ u. (form_value u s ≤ℤ form_value u t) × (smallest s x.upper ≤ℤ form_value u s)) (λ u. smallest s x.upper ≤ℤ form_value u t)
          (λ u p. let m = p.0 in let n = p.1 in omega (arith, ints, m, n)) x.upper (both _ _ x.upper highs (over_smallest s x.upper)));
    }

-- ---- how many rows

-- a number of a span that is seated from a form on lies within so many numbers from it on
pub within_places : (rules : Rules) (bs : List Binder) (s : Symbols) (ordered : (a b : Form) → rules.at_most bs a b ≡ true → form_value a s ≤ℤ form_value b s) (x : Span1) (l : Form) (n : ℕ) (z : ℤ) →
    is_seated rules bs x (From l n) ≡ true → Lies s x z → (form_value l s ≤ℤ z) × (z <ℤ (form_value l s +ℤ pos n))
within_places rules bs s ordered x l n z h lie =
    let y : Span1 = record { lower = l ∷ []; upper = raised l (pos n -ℤ pos 1) ∷ [] } in
    let k = (all_within rules bs s ordered (x ∷ []) (y ∷ []) (ap (λ v. v && true) h) (z ∷ []) (lie, tt)).0 in
    let low = k.0.0 in
    let high = k.1.0 in
    (low, omega (arith, ints, high))

pub windows_are_right : WindowsAreRight
windows_are_right given rules bs i n x s suited h r = record { rises = λ t same order. never_falls i (inside i bs) x s t a.0 same order; fits = of (or_cases (n == 0) (is_short rules bs x n) a.1) }
  where
    a : (is_rising i (inside i bs) x ≡ true) × (((n == 0) || is_short rules bs x n) ≡ true)
    a = and_parts (is_rising i (inside i bs) x) ((n == 0) || is_short rules bs x n) h

    of : ((n == 0) ≡ true) ⊎ (is_short rules bs x n ≡ true) → FitsFold n x s
    of (inl k) = inl (eq_true n 0 k)
    of (inr k) =
        let l = any_found (λ l. is_seated rules bs x (From l n)) x.lower k in
        inr (by_lt_z (smallest s x.upper) (largest s x.lower)
        (λ empty. omega (arith, ints, empty))
        (λ some.
        let low = within_places rules bs s (λ a b k. suited.ordered bs a b s k r) x l.0 n (largest s x.lower) l.1 (between_lies s x (largest s x.lower) (omega (arith, ints)) some) in
        let high = within_places rules bs s (λ a b k. suited.ordered bs a b s k r) x l.0 n (smallest s x.upper) l.1 (between_lies s x (smallest s x.upper) some (omega (arith, ints))) in
        let start = low.0 in
        let end = high.1 in
        omega (arith, ints, start, end)))
