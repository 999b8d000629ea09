-- What steps and the way down to a line are, in memory.
use Rattle.std.specs.Prelude.{List, [], ◌∷◌, map, Option}
use Rattle.plan.specs.Plan.{Statement}
use Rattle.plan.specs.View.{statement_of}
use Rattle.tails.specs.Steps.{Step, Turns, Named, Tested, Spine, past}
use Rattle.tails.specs.declared.descent.Step.{Step as StepHeld}
use Rattle.tails.specs.declared.descent.Step.TheVariants as V
use Rattle.tails.specs.declared.descent.Spine.{Spine as SpineHeld}

abbrev pub step_of : StepHeld → Step
step_of (V.Turns i x kind) = Turns i x.now kind
step_of (V.Named i pick ls) = Named i pick ls.now
step_of (V.Tested low high) = Tested low.now high.now

abbrev pub spine_held : SpineHeld → Spine
spine_held n = record { steps = map step_of n.steps.items; line = statement_of n.line.now }

-- what statements of a block add to the way to a later one
abbrev pub past_all : List Statement → Option Spine → Option Spine
past_all [] later = later
past_all (a ∷ rest) later = past a (past_all rest later)
