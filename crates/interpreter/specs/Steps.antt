-- A run's actions in order, over what memory holds and the numbers given so far.
use Rattle.std.specs.Prelude.{List, [], ◌∷◌, ◌++◌, Option, Some, ℤ}
use Rattle.plan.specs.Semantics.Actions.{Action, Give}
use Rattle.plan.specs.Semantics.Found.{with}
use Rattle.plan.specs.Semantics.Memory.{Memory, read}
use Rattle.plan.specs.Semantics.Run.{Around, act}
use Rattle.tree.specs.declared.value.Value.{Value}

-- what a run has come to
pub record Progress : Type 0 where
  pub memory : Memory Value
  pub given : List ℤ

module _ (around : Around) where
  -- one action; none is a fault
  abbrev pub step : Action → Progress → Option Progress
  step (Give c p) x = with (read x.memory (around.claim_buffer c) p) (λ v. Some (record { memory = x.memory; given = x.given ++ v.number ∷ [] }))
  step a x = with (act around a x.memory) (λ m. Some (record { memory = m; given = x.given }))

  abbrev pub steps : List Action → Progress → Option Progress
  steps [] x = Some x
  steps (a ∷ later) x = with (step a x) (steps later)
