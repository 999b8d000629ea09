-- Which obligations are asked after, and how the first that is not shown is told.
use Rattle.std.specs.Prelude.{ℕ, ◌-◌, ◌^◌, min, Bool, true, false, not, if◌then◌else◌, List, filter, Option, Some, None}
use Rattle.soundness.specs.declared.outline.refusals.code.K.{K}
use Rattle.soundness.specs.declared.outline.refusals.code.K.TheVariants.{K2, K4, K5, K6, K7, K8, K12}
use Rattle.soundness.specs.declared.outline.refusals.code.Flaw.{Flaw}
use Rattle.soundness.specs.Outline.Refusals.Codes.{is_before}
use Rattle.soundness.specs.Obligations.{Rules, Code, Undefined, OutOfBuffer, NotClaimed, NotMade, OutOfOrder, NotHeld, NotTheDefinition, Obligation}
use Rattle.soundness.specs.Shown.{Nests, first_fault}
use Rattle.obligations.specs.declared.context.judge.Part.{Part}
use Rattle.obligations.specs.declared.context.judge.Part.TheVariants.{Lines, Claims, Before}

-- why a plan is refused, as it is told
abbrev pub code_of : Code → K
code_of Undefined = K2
code_of OutOfBuffer = K4
code_of NotClaimed = K5
code_of NotMade = K6
code_of OutOfOrder = K7
code_of NotHeld = K8
code_of NotTheDefinition = K12

-- the code of a statement that does not make its claim
abbrev pub is_of_claims : K → Bool
is_of_claims K6 = true
is_of_claims _ = false

-- whether obligations that are told as a flaw are asked after
abbrev pub is_asked : Part → Flaw → Bool
is_asked Lines f = not (is_of_claims f.code)
is_asked Claims f = is_of_claims f.code
is_asked (Before g) f = is_before f g

-- an obligation as it is told: lines past the greatest number of 32 bits are told as that
abbrev pub flaw_of : Obligation → Flaw
flaw_of o = record { code = code_of o.code; line = min o.line (2 ^ 32 - 1) }

-- the obligations that are asked after
abbrev pub of_part : Part → List Obligation → List Obligation
of_part part os = filter (λ o. is_asked part (flaw_of o)) os

abbrev pub told : Option Obligation → Option Flaw
told None = None
told (Some o) = Some (flaw_of o)

-- the first obligation that is asked after and not shown
unfoldable pub first_unmet : Rules → Nests → Part → List Obligation → Option Flaw
first_unmet rules nests part os = told (first_fault rules nests (of_part part os))

-- what is told of an obligation alone
unfoldable pub unless : Part → K → ℕ → Bool → Option Flaw
unless part k line shown =
    let f : Flaw = record { code = k; line = line } in
    if is_asked part f then (if shown then None else Some f) else None
