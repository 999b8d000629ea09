-- The value after some points of an update, case by case: the equations that the recursion stands for.
use Rattle.std.specs.Prelude.{◌≡◌, ◌≢◌, ℕ, ◌+◌, List, ℤ}
use Rattle.meaning.specs.Algorithm.{Change, Function}
use Rattle.meaning.specs.Reduction.{point}
use Rattle.meaning.specs.Value.{Calls, left_side, right_side, value_after}

pub record FollowsCases : Type 0 where
  -- before the first point, nothing has changed
  pub first : (calls : Calls) (f : Function) (before : List ℤ → ℤ) (u : Change) (p : List ℤ) → value_after calls f before u 0 p ≡ before p
  -- where the left side is p, the right side, whose own calls give the values so far
  pub set : (calls : Calls) (f : Function) (before : List ℤ → ℤ) (u : Change) (n : ℕ) (p : List ℤ) →
      left_side calls f u p (point u.ranges n) ≡ p → value_after calls f before u (n + 1) p ≡ right_side calls f (value_after calls f before u n) u p (point u.ranges n)
  -- elsewhere nothing changes
  pub kept : (calls : Calls) (f : Function) (before : List ℤ → ℤ) (u : Change) (n : ℕ) (p : List ℤ) →
      left_side calls f u p (point u.ranges n) ≢ p → value_after calls f before u (n + 1) p ≡ value_after calls f before u n p
