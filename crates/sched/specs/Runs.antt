-- What a plan does inside the steps of a skeleton.
use Rattle.std.specs.Prelude.{◌≡◌, List, [], ◌∷◌}
use Rattle.std.specs.List.{flat_map}
use Rattle.plan.specs.Plan.{For, Let, Guard, Seq, Statements, Empty, Then}
use Rattle.plan.specs.Symbols.{Symbols}
use Rattle.plan.specs.Semantics.Actions.{Setting, block_actions}
use Rattle.sched.specs.declared.skeleton.Step.{Step}
use Rattle.sched.specs.declared.skeleton.Step.TheVariants.{Turns, Named, Tested}
use Rattle.sched.specs.Visits.{arrivals}

-- the lines of a plan that come to these: a loop or a guard around what follows it, a let in front of it
abbrev pub lines_to : List Step → Statements → Statements
lines_to [] inner = inner
lines_to (Turns i x kind ∷ steps) inner = Then (For i x kind (Seq (lines_to steps inner))) Empty
lines_to (Named i pick forms ∷ steps) inner = Then (Let i pick forms) (lines_to steps inner)
lines_to (Tested low high ∷ steps) inner = Then (Guard low high (Seq (lines_to steps inner))) Empty

-- a plan does what stands inside the steps once at each of their arrivals, in their order, and nothing else
abbrev pub ArrivalsAreRuns : Type 0
ArrivalsAreRuns =
    (setting : Setting) (steps : List Step) (inner : Statements) (s : Symbols) →
    block_actions setting (lines_to steps inner) s ≡ flat_map (block_actions setting inner) (arrivals steps s)
