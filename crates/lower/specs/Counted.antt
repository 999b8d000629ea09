-- That lines are counted right where functions are computed inside a group's loops.
use Rattle.std.specs.Prelude.{◌≡◌, ℕ, ◌+◌, List}
use Rattle.std.specs.List.{AllByRecursion}
use Rattle.plan.specs.declared.certificate.cert.Claim.{Claim}
use Rattle.plan.specs.declared.certificate.cert.Need.{Need}
use Rattle.plan.specs.declared.certificate.cert.Window.{Window}
use Rattle.plan.specs.Plan.{Statement}
use Rattle.plan.specs.Lines.{lines}
use Rattle.sched.specs.declared.skeleton.Step.{Step}
use Rattle.sched.specs.declared.skeleton.Step.TheVariants.{Named}
use Rattle.sched.specs.Fetches.{Entry}
use Rattle.sched.specs.Placed.{PlacedText}
use Rattle.lower.specs.Placed.{IsMixedBody}

abbrev pub IsLet : Step → Type 0
IsLet (Named i pick forms) = Unit {0}
IsLet _ = ⊥

-- what stands before its nests are lets
abbrev pub HasLets : PlacedText → Type 0
HasLets i = AllByRecursion IsLet i.lets

-- The next group begins behind the lines of the body, as a plan's lines are counted. So the line of each claim is that of the statement behind which it is made.
abbrev pub LinesAreCounted : Type 0
LinesAreCounted =
    (all : List Entry) (n c line next : ℕ) (is : List PlacedText) (e : Entry) (claims : List Claim) (needs : List Need) (windows : List Window) (body : Statement)
    → AllByRecursion HasLets is → IsMixedBody all n c line next is e claims needs windows body → next ≡ line + (lines body + 1)
