-- The value after steps counted through all updates.
use Rattle.std.proofs.Common.{◌≡◌, ◌≢◌, ℕ, zero, suc, ◌+◌, ◌-◌, ◌≤◌, ◌<◌, Bool, true, false, List, [], ◌∷◌, Some, take, ℤ, refl, sym, ap, ◌∙◌, subst, zero-add, add_assoc, arith, leb}
use Rattle.std.specs.Prelude.{slice_get, fold}
use Rattle.std.proofs.lemmas.Bool.Decides.{nat_tests}
use Rattle.meaning.specs.Algorithm.{Change, Function}
use Rattle.meaning.specs.Reduction.{size, point, rank}
use Rattle.meaning.specs.Points.{IsIn}
use Rattle.meaning.specs.Value.{Calls, left_side, right_side, pure_value, value_after, value_updated, value_through, value_stepped, value_at_step, steps_of, steps_before, step_at}
use Rattle.meaning.proofs.Cases.{value_set, value_kept}
use Rattle.meaning.proofs.Points.{rank_below, point_of_rank}

test_true : (a b : ℕ) → a ≤ b → leb a b ≡ true
test_true a b h = grind (arith, nat_tests)

test_false : (a b : ℕ) → b < a → leb a b ≡ false
test_false a b h = grind (arith, nat_tests)

some_is : {A : Type 0} (x y : A) → Some x ≡ Some y → x ≡ y
some_is x y e = cc

module _ (calls : Calls) (f : Function) where
  module _ (before : List ℤ → ℤ) (u : Change) (later : List Change) (s : ℕ) where
    choose : Bool → List ℤ → ℤ
    choose b = elim b [ true ↦ value_after calls f before u s | false ↦ value_stepped calls f (value_updated calls f before u) later (s - size u.ranges) ]

    pub stepped_here : s ≤ size u.ranges → value_stepped calls f before (u ∷ later) s ≡ value_after calls f before u s
    unfolding choose
    stepped_here h = ap choose (test_true s (size u.ranges) h)

    pub stepped_past : size u.ranges < s → value_stepped calls f before (u ∷ later) s ≡ value_stepped calls f (value_updated calls f before u) later (s - size u.ranges)
    unfolding choose
    stepped_past h = ap choose (test_false s (size u.ranges) h)

  pub stepped_none : (before : List ℤ → ℤ) (us : List Change) → value_stepped calls f before us 0 ≡ before
  stepped_none before [] = refl
  stepped_none before (u ∷ us) = stepped_here before u us 0 (omega arith)

  pub stepped_on : (before : List ℤ → ℤ) (u : Change) (us : List Change) (m : ℕ) → value_stepped calls f before (u ∷ us) (size u.ranges + m) ≡ value_stepped calls f (value_updated calls f before u) us m
  stepped_on before u us zero =
      let e : size u.ranges + 0 ≡ size u.ranges = omega arith in
      ap (value_stepped calls f before (u ∷ us)) e ∙ stepped_here before u us (size u.ranges) (omega arith) ∙ sym (stepped_none (value_updated calls f before u) us)
  stepped_on before u us (suc m) =
      let e : size u.ranges + suc m - size u.ranges ≡ suc m = omega arith in
      stepped_past before u us (size u.ranges + suc m) (omega arith) ∙ ap (value_stepped calls f (value_updated calls f before u) us) e

  pub stepped_within : (before : List ℤ → ℤ) (us : List Change) (k : ℕ) (u : Change) (n : ℕ) → slice_get us k ≡ Some u → n ≤ size u.ranges →
      value_stepped calls f before us (steps_of (take k us) + n) ≡ value_after calls f (fold (value_updated calls f) before (take k us)) u n
  stepped_within before [] k u n e h = absurd (cc)
  stepped_within before (x ∷ us) zero u n e h =
      let same : x ≡ u = some_is x u e in
      let small : n ≤ size x.ranges = subst (λ (y : Change). n ≤ size y.ranges) (sym same) h in
      ap (value_stepped calls f before (x ∷ us)) (zero-add n) ∙ stepped_here before x us n small ∙ ap (λ (y : Change). value_after calls f before y n) same
  stepped_within before (x ∷ us) (suc k) u n e h =
      ap (value_stepped calls f before (x ∷ us)) (add_assoc (size x.ranges) (steps_of (take k us)) n)
      ∙ stepped_on before x us (steps_of (take k us) + n)
      ∙ stepped_within (value_updated calls f before x) us k u n e h

  pub stepped_through : (before : List ℤ → ℤ) (us : List Change) (k : ℕ) → value_stepped calls f before us (steps_of (take k us)) ≡ fold (value_updated calls f) before (take k us)
  stepped_through before us zero = stepped_none before us
  stepped_through before [] (suc k) = refl
  stepped_through before (u ∷ us) (suc k) = stepped_on before u us (steps_of (take k us)) ∙ stepped_through (value_updated calls f before u) us k

  pub stepped_all : (before : List ℤ → ℤ) (us : List Change) → value_stepped calls f before us (steps_of us) ≡ fold (value_updated calls f) before us
  stepped_all before [] = refl
  stepped_all before (u ∷ us) = stepped_on before u us (steps_of us) ∙ stepped_all (value_updated calls f before u) us

  -- a step at a reduction point
  module _ (k : ℕ) (u : Change) (r p : List ℤ) (e : slice_get f.changes k ≡ Some u) (h : IsIn u.ranges r) where
    n : ℕ
    n = rank u.ranges r

    before_step : value_at_step calls f (step_at f k u r) ≡ value_after calls f (value_through calls f k) u (rank u.ranges r)
    before_step = let b = rank_below u.ranges r h in stepped_within (pure_value calls f) f.changes k u (rank u.ranges r) e (omega arith)

    after_step : value_at_step calls f (step_at f k u r + 1) ≡ value_after calls f (value_through calls f k) u (rank u.ranges r + 1)
    after_step =
        let b = rank_below u.ranges r h in
        ap (value_at_step calls f) (add_assoc (steps_before f k) (rank u.ranges r) 1) ∙ stepped_within (pure_value calls f) f.changes k u (rank u.ranges r + 1) e (omega arith)

    pub step_set : left_side calls f u p r ≡ p → value_at_step calls f (step_at f k u r + 1) p ≡ right_side calls f (value_at_step calls f (step_at f k u r)) u p r
    step_set hit =
        let at = point_of_rank u.ranges r h in
        let hit' : left_side calls f u p (point u.ranges (rank u.ranges r)) ≡ p = ap (left_side calls f u p) at ∙ hit in
        ap (λ (g : List ℤ → ℤ). g p) after_step
        ∙ value_set calls f (value_through calls f k) u (rank u.ranges r) p hit'
        ∙ (λ i. right_side calls f (sym before_step i) u p (at i))

    pub step_kept : left_side calls f u p r ≢ p → value_at_step calls f (step_at f k u r + 1) p ≡ value_at_step calls f (step_at f k u r) p
    step_kept miss =
        let at = point_of_rank u.ranges r h in
        let miss' : left_side calls f u p (point u.ranges (rank u.ranges r)) ≢ p = λ hit. miss (ap (left_side calls f u p) (sym at) ∙ hit) in
        ap (λ (g : List ℤ → ℤ). g p) after_step
        ∙ value_kept calls f (value_through calls f k) u (rank u.ranges r) p miss'
        ∙ ap (λ (g : List ℤ → ℤ). g p) (sym before_step)
