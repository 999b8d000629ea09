-- When the text of a plan and its certificate is their file.
use Rattle.std.specs.Prelude.{◌≡◌, ◌++◌, true}
use Rattle.plan.specs.Plan.{Plan}
use Rattle.plan.specs.Lines.{certificate_line}
use Rattle.plan.specs.Certificate.Certificate.{Certificate}
use Rattle.spelling.specs.Lines.Lines.{lines_text, are_within}
use Rattle.nest.specs.Notation.{fits_plan, plan_notation}
use Rattle.cert.specs.Notation.{fits_certificate, certificate_lines}
use Rattle.cert.specs.File.File.{IsFileOf}

-- where both fit their texts, and the lines are within the limits of files, the plan's lines with the certificate's behind them are read as these
abbrev pub FilesFit : Type 0
FilesFit =
    (p : Plan) (c : Certificate) → fits_plan p ≡ true → fits_certificate c ≡ true → are_within 1 (plan_notation.lines p) ≡ true
    → are_within (certificate_line p) (certificate_lines c) ≡ true → IsFileOf (lines_text (plan_notation.lines p) ++ lines_text (certificate_lines c)) p c
