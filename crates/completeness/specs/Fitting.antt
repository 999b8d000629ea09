-- Plans that are made of schedules that split loops once fit their texts: as far as the form of groups and the numbers of lines go.
use Rattle.std.specs.Prelude.{◌≡◌, ℕ, true, Some, slice_get}
use Rattle.meaning.specs.Algorithm.{Algorithm}
use Rattle.meaning.specs.Conditions.{IsAlgorithm}
use Rattle.plan.specs.Plan.{Plan}
use Rattle.plan.specs.View.{plan_of}
use Rattle.nest.specs.Blocks.Flat.{plan_lines}
use Rattle.nest.specs.Blocks.Shape.{is_canonical}
use Rattle.nest.specs.Blocks.Form.{is_in_form}
use Rattle.nest.specs.Blocks.Numbers.{start, are_numbered}
use Rattle.sched.specs.Schedule.{Schedule}
use Rattle.sched.specs.Legal.{IsLegal}
use Rattle.lower.specs.declared.lowering.Lowered.{Lowered}
use Rattle.sched.specs.Stored.{StoredText}
use Rattle.lower.specs.Stored.{stored_functions}
use Rattle.regions.specs.Faults.{are_whole}
use Rattle.lower.specs.Refused.{AreSmall, AreRegionsKept}
use Rattle.lower.specs.Groups.{AreGroupsMade}
use Rattle.completeness.specs.Laws.{AreSplitOnce}
use Rattle.completeness.specs.Parted.{KeepsInner}

-- each body is a block, each group has the form of groups, and groups, symbols and buffers are numbered in order within their limits: of what a plan's text
-- asks (`nest`'s `fits_plan`), all but what each line says by itself
pub record IsShaped (p : Plan) : Type 0 where
  pub blocks : is_canonical p ≡ true
  pub form : is_in_form p ≡ true
  pub numbered : are_numbered start (plan_lines p) ≡ true

-- no loop that a split of the function makes is split again, and no inner one is parallel
pub record IsSplitOnce (g : StoredText) : Type 0 where
  pub once : AreSplitOnce g.placed.cuts
  pub inners : KeepsInner g.placed.loops g.placed.cuts

-- each stored function is a root function that is computed at no loop, and its loops are split once at most, no inner one parallel: by whatever tails, and in whatever
-- order the loops stand
pub record SplitsOnce (a : Algorithm) (s : Schedule) : Type 0 where
  pub whole : are_whole (stored_functions a s) ≡ true
  pub once : (n : ℕ) (u : StoredText) → slice_get (stored_functions a s) n ≡ Some u → IsSplitOnce u

-- so is the plan that is made of such a schedule
abbrev pub ShapesFit : Type 0
ShapesFit =
    (a : Algorithm) (s : Schedule) (l : Lowered) → IsAlgorithm a → IsLegal a s → AreSmall a s → AreRegionsKept a s → AreGroupsMade a s l → SplitsOnce a s → IsShaped (plan_of l.plan)
