-- What a group's outline in memory is.
use Rattle.std.specs.Prelude.{ℕ, Option, Some, None}
use Rattle.std.specs.Borrow.{Bor}
use Rattle.plan.specs.Plan.{Group, Plan}
use Rattle.plan.specs.View.{plan_of, group_of}
use Rattle.plan.specs.declared.certificate.cert.Claim.{Claim as ClaimHeld}
use Rattle.plan.specs.Certificate.Certificate.{Claim, claim_of, Certificate, certificate_of}
use Rattle.plan.specs.Semantics.Setting.{Buffer, allocated}
use Rattle.plan.specs.Semantics.Run.{Source, Input, ByClaim, Unknown}
use Rattle.soundness.specs.Origins.{Outline}
use Rattle.soundness.specs.Given.{outline_of}
use Rattle.soundness.specs.declared.outline.outlined.Outlined.{Outlined}
use Rattle.soundness.specs.declared.outline.source.Source.{Source as SourceHeld}
use Rattle.soundness.specs.declared.outline.source.Source.TheVariants as V

-- the plan, the certificate, the group's number and the group
abbrev pub plan_in : Outlined → Plan
plan_in o = plan_of o.plan.now

abbrev pub certificate_in : Outlined → Certificate
certificate_in o = certificate_of o.cert.now

abbrev pub number_in : Outlined → ℕ
number_in o = o.number

abbrev pub group_in : Outlined → Group
group_in o = group_of o.group.now

-- what the plan and the certificate give for the group
abbrev pub outline_in : Outlined → Outline
outline_in o = outline_of (plan_in o) (certificate_in o) (number_in o) (group_in o)

-- a buffer of the group: what the first line that allocates it says
abbrev pub buffer_in : Outlined → ℕ → Option Buffer
buffer_in o b = allocated (group_in o).body b

-- a claim as such
abbrev pub claim_held : Option (Bor ClaimHeld) → Option Claim
claim_held None = None
claim_held (Some k) = Some (claim_of k.now)

-- what a name in a stored expression means
abbrev pub source_held : SourceHeld → Source
source_held V.Input = Input
source_held (V.ByClaim c) = ByClaim c
source_held V.Unknown = Unknown
