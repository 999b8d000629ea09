-- What is told of the lines of certificates.
use Rattle.meaning.specs.Algorithm.{Algorithm}
use Rattle.plan.specs.Plan.{Plan}
use Rattle.plan.specs.Certificate.Certificate.{Certificate}
use Rattle.soundness.specs.Outline.Flaws.{first_of}
use Rattle.validation.specs.Told.{IsTold}
use Rattle.validation.specs.Certificate.Certificate.{flaws_of_certificate}
use Rattle.validation.specs.Certificate.Wrong.{IsUnknownAt, IsWideAt, PassesLimitAt}

-- K2 stands at lines with a name that is unknown or out of scope, and no such line is passed over
abbrev pub UnknownNamesAreTold : Type 0
UnknownNamesAreTold = (a : Algorithm) (p : Plan) (c : Certificate) → IsTold 2 (IsUnknownAt a p c) (first_of (flaws_of_certificate a p c))

-- K3 stands at lines with a form out of its limits, and no such line is passed over
abbrev pub WideFormsAreTold : Type 0
WideFormsAreTold = (a : Algorithm) (p : Plan) (c : Certificate) → IsTold 3 (IsWideAt p c) (first_of (flaws_of_certificate a p c))

-- K14 stands at lines that pass a limit, and no such line is passed over
abbrev pub LimitsAreTold : Type 0
LimitsAreTold = (a : Algorithm) (p : Plan) (c : Certificate) → IsTold 14 (PassesLimitAt p c) (first_of (flaws_of_certificate a p c))
