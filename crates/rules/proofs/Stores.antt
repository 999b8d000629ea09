-- The two sides of a store's coordinates, and what an update's store is asked.
use Rattle.std.proofs.Common.{◌≡◌, ℕ, zero, suc, ◌<◌, ◌≤◌, ◌-◌, List, [], ◌∷◌, ◌++◌, length, take, drop, true, false, Option, refl, sym, ap, ◌∙◌, arith, length-drop}
use Rattle.std.specs.Prelude.{◌==◌, ◌&&◌, ◌||◌}
use Rattle.std.specs.List.{list_all}
use Rattle.tree.specs.Term.{Term}
use Rattle.lin.specs.declared.span.Span1.{Span1}
use Rattle.meaning.specs.Algorithm.{Range}
use Rattle.meaning.specs.Names.{same_name}
use Rattle.plan.specs.declared.stmt.Coordinate.{Coordinate as CoordinateHeld}
use Rattle.plan.specs.declared.stmt.Places.{Places}
use Rattle.plan.specs.Plan.{Coordinate, Store}
use Rattle.plan.specs.View.{coordinate_of}
use Rattle.plan.specs.Semantics.Actions.{Setting}
use Rattle.plan.specs.Certificate.Certificate.{Claim}
use Rattle.soundness.specs.Obligations.{Binder, Rules, is_form}
use Rattle.soundness.specs.Nests.Nest.{Loop}
use Rattle.soundness.specs.Nests.Tests.{are_matched, is_ordered, is_filled, is_reduced, is_advanced, is_among, runs_over, left_of, over_of}
use Rattle.rules.specs.Nests.View.{coordinates_of}

pub mapped_length : (cs : List CoordinateHeld) → length (coordinates_of cs) ≡ length cs
mapped_length [] = refl
mapped_length (c ∷ cs) = ap suc (mapped_length cs)

pub mapped_left : (cs : List CoordinateHeld) (n : ℕ) → coordinates_of (take n cs) ≡ take n (coordinates_of cs)
mapped_left [] zero = refl
mapped_left [] (suc n) = refl
mapped_left (c ∷ cs) zero = refl
mapped_left (c ∷ cs) (suc n) = ap (λ (l : List Coordinate). coordinate_of c ∷ l) (mapped_left cs n)

taken_all : (cs : List CoordinateHeld) (n : ℕ) → length cs ≤ n → take n cs ≡ cs
taken_all [] zero h = refl
taken_all [] (suc n) h = refl
taken_all (c ∷ cs) zero h = absurd (omega arith)
taken_all (c ∷ cs) (suc n) h = ap (λ (l : List CoordinateHeld). c ∷ l) (taken_all cs n (omega arith))

pub rest_taken : (cs : List CoordinateHeld) (n : ℕ) → take (length cs - n) (drop n cs) ≡ drop n cs
rest_taken cs n = taken_all (drop n cs) (length cs - n) (omega (arith, length-drop n cs))

pub mapped_over : (cs : List CoordinateHeld) (n : ℕ) → coordinates_of (drop n cs) ≡ drop n (coordinates_of cs)
mapped_over [] zero = refl
mapped_over [] (suc n) = refl
mapped_over (c ∷ cs) zero = refl
mapped_over (c ∷ cs) (suc n) = mapped_over cs n

pub mapped_all : (cs : List CoordinateHeld) (n : ℕ) → length cs ≤ n → take n (coordinates_of cs) ≡ coordinates_of cs
mapped_all [] zero h = refl
mapped_all [] (suc n) h = refl
mapped_all (c ∷ cs) zero h = absurd (omega arith)
mapped_all (c ∷ cs) (suc n) h = ap (λ (l : List Coordinate). coordinate_of c ∷ l) (mapped_all cs n (omega arith))

pub mapped_none : (cs : List CoordinateHeld) (n : ℕ) → length cs ≤ n → drop n (coordinates_of cs) ≡ []
mapped_none [] zero h = refl
mapped_none [] (suc n) h = refl
mapped_none (c ∷ cs) zero h = absurd (omega arith)
mapped_none (c ∷ cs) (suc n) h = mapped_none cs n (omega arith)

pub both_sides : (cs : List Coordinate) (n : ℕ) → take n cs ++ drop n cs ≡ cs
both_sides [] zero = refl
both_sides [] (suc n) = refl
both_sides (c ∷ cs) zero = refl
both_sides (c ∷ cs) (suc n) = ap (λ l. c ∷ l) (both_sides cs n)

module _ (setting : Setting) (rules : Rules) (bs : List Binder) (claim : Claim) (ls : List Loop) where
  -- a store of an update is not one of the pure definition
  pub update_unfilled : (places : List Places) (b k : ℕ) (at : List Coordinate) (e : Term) → 0 < k → is_filled setting rules bs claim places ls (Store b k at e) ≡ false
  update_unfilled places b zero at e h = absurd (omega arith)
  update_unfilled places b (suc k) at e h = refl

  -- what is asked of an update's store
  pub ordered_by : (domain : List ℕ → ℕ → Option (List Range)) (b k : ℕ) (at : List Coordinate) (e : Term) → 0 < k → is_ordered setting rules domain bs claim ls (Store b k at e)
      ≡ ((claim.definition == k) && (same_name (setting.buffer_function b) claim.function
      && (list_all is_form (over_of setting b at) && (are_matched ls (left_of setting b at ++ over_of setting b at)
      && is_reduced rules bs (domain claim.function k) (over_of setting b at) ls))))
  ordered_by domain b zero at e h = absurd (omega arith)
  ordered_by domain b (suc k) at e h = refl

  -- an update's store that is in turn advances where it covers the region
  pub advanced_by : (domain : List ℕ → ℕ → Option (List Range)) (b k : ℕ) (at : List Coordinate) (e : Term) (left over : List Coordinate) (region : List Span1) (loops : List Loop) →
      left ≡ left_of setting b at → over ≡ over_of setting b at → region ≡ claim.region → loops ≡ ls → is_ordered setting rules domain bs claim ls (Store b k at e) ≡ true →
      ((length left == length region) && list_all (λ l. is_among over l || runs_over rules bs left region l) loops)
      ≡ is_advanced setting rules domain bs claim ls (Store b k at e)
  advanced_by domain b k at e left over region loops p q r s ordered =
      (λ i. (length (p i) == length (r i)) && list_all (λ l. is_among (q i) l || runs_over rules bs (p i) (r i) l) (s i))
      ∙ ap (λ x. x && ((length (left_of setting b at) == length claim.region) && list_all (λ l. is_among (over_of setting b at) l || runs_over rules bs (left_of setting b at) claim.region l) ls)) (sym ordered)

  -- a store of the pure definition is not one of an update
  pub pure_unordered : (domain : List ℕ → ℕ → Option (List Range)) (b k : ℕ) (at : List Coordinate) (e : Term) → k ≡ 0 → is_ordered setting rules domain bs claim ls (Store b k at e) ≡ false
  pure_unordered domain b zero at e h = refl
  pure_unordered domain b (suc k) at e h = absurd (omega arith)
