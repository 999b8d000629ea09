-- What a yes gives, which plans get one, and that no refusal comes with one.
use Rattle.std.specs.Prelude.{ℕ}
use Rattle.meaning.specs.Algorithm.{Algorithm}
use Rattle.meaning.specs.Conditions.{IsAlgorithm}
use Rattle.plan.specs.Plan.{Plan}
use Rattle.plan.specs.Certificate.Certificate.{Certificate}
use Rattle.headline.specs.Headline.{Headline}
use Rattle.checked_plan.specs.Ready.Ready.{Ready}
use Rattle.audit.specs.Verdict.Accepted.{IsAccepted}
use Rattle.audit.specs.Verdict.Faults.{IsFault}
use Rattle.audit.specs.Verdict.Plain.{IsPlainPlan}

-- what is accepted may be run
abbrev pub AcceptedIsReady : Type 0
AcceptedIsReady = (a : Algorithm) (p : Plan) (c : Certificate) → IsAlgorithm a → IsAccepted a p c → Ready a p c

-- what is accepted is right: on every input, in every order of steps
abbrev pub AcceptedIsRight : Type 0
AcceptedIsRight = (a : Algorithm) (p : Plan) (c : Certificate) → IsAlgorithm a → IsAccepted a p c → Headline a p c

-- each plan whose lines are in plain form is accepted
abbrev pub PlainIsAccepted : Type 0
PlainIsAccepted = (a : Algorithm) (p : Plan) (c : Certificate) → IsPlainPlan a p c → IsAccepted a p c

-- a plan of which a refusal tells a fault is not accepted
abbrev pub FaultsAreRefusals : Type 0
FaultsAreRefusals = (a : Algorithm) (p : Plan) (c : Certificate) (code line : ℕ) → IsFault a p c code line → ¬ IsAccepted a p c
