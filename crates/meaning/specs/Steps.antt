-- The two forms of a function's value agree: by update and reduction point, and by steps counted through all updates.
use Rattle.std.specs.Prelude.{◌≡◌, ◌≢◌, ℕ, ◌+◌, ◌≤◌, List, length, ℤ, Some, slice_get}
use Rattle.meaning.specs.Algorithm.{Change, Function}
use Rattle.meaning.specs.Reduction.{size}
use Rattle.meaning.specs.Points.{IsIn}
use Rattle.meaning.specs.Value.{Calls, left_side, right_side, pure_value, value_after, value_through, value, value_at_step, steps_before, all_steps, step_at}

pub record StepsAgree : Type 0 where
  -- after no step, the pure value
  pub pure : (calls : Calls) (f : Function) (p : List ℤ) → value_at_step calls f 0 p ≡ pure_value calls f p
  -- after the steps of the first k updates and n more, the value after n points of the next update
  pub within : (calls : Calls) (f : Function) (k : ℕ) (u : Change) (n : ℕ) (p : List ℤ) → slice_get f.changes k ≡ Some u → n ≤ size u.ranges →
      value_at_step calls f (steps_before f k + n) p ≡ value_after calls f (value_through calls f k) u n p
  -- after the steps of the first k updates, the value after these updates
  pub through : (calls : Calls) (f : Function) (k : ℕ) (p : List ℤ) → value_at_step calls f (steps_before f k) p ≡ value_through calls f k p
  -- after all steps, the function's value
  pub last : (calls : Calls) (f : Function) (p : List ℤ) → value_at_step calls f (all_steps f) p ≡ value calls f p
  pub every : (f : Function) → all_steps f ≡ steps_before f (length f.changes)

-- what a step does, at a reduction point r of the k-th update
pub record StepsFollowCases : Type 0 where
  -- where the left side is p, the right side, whose own calls give the values so far
  pub set : (calls : Calls) (f : Function) (k : ℕ) (u : Change) (r p : List ℤ) → slice_get f.changes k ≡ Some u → IsIn u.ranges r →
      left_side calls f u p r ≡ p → value_at_step calls f (step_at f k u r + 1) p ≡ right_side calls f (value_at_step calls f (step_at f k u r)) u p r
  -- elsewhere nothing changes
  pub kept : (calls : Calls) (f : Function) (k : ℕ) (u : Change) (r p : List ℤ) → slice_get f.changes k ≡ Some u → IsIn u.ranges r →
      left_side calls f u p r ≢ p → value_at_step calls f (step_at f k u r + 1) p ≡ value_at_step calls f (step_at f k u r) p
