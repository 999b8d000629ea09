-- The text of a plan that is made of a schedule that splits loops once, by whatever tails, is a file of this plan.
use Rattle.std.proofs.Common.{◌≡◌, true}
use Rattle.plan.specs.View.{plan_of}
use Rattle.plan.specs.Certificate.Certificate.{certificate_of}
use Rattle.nest.specs.Notation.{fits_plan}
use Rattle.cert.specs.Notation.{fits_certificate}
use Rattle.completeness.specs.OfPlans.{FilesAreOfPlans}
use Rattle.completeness.proofs.NumberCertificates.{certificate_numbered, lines_few}
use Rattle.completeness.proofs.NumberPlans.{plan_numbered}
use Rattle.completeness.proofs.ReadFiles.{file_of_plan}
use Rattle.completeness.proofs.SaidCertificates.{certificates_fit_by_numbers}
use Rattle.completeness.proofs.SaidLines.{plans_fit_by_numbers}
use Rattle.completeness.proofs.SaidPlans.{plans_are_said}
use Rattle.completeness.proofs.Shapes.{shaped}
use Rattle.completeness.proofs.ShortFiles.{short}

pub files_are_of_plans : FilesAreOfPlans
files_are_of_plans a s l well legal small regions groups splits named written =
    let all = splits.whole in
    let kept = (regions all).0 in
    let planned = (regions all).1 in
    let p = plan_of l.plan in
    let c = certificate_of l.certificate in
    let shape = shaped a s l well legal small kept all groups splits.once in
    let said = plans_are_said a s l well legal small regions groups all named written in
    let plan : fits_plan p ≡ true = plans_fit_by_numbers p c shape said (plan_numbered a s l well legal small kept all groups planned splits.once) in
    let certificate : fits_certificate c ≡ true =
    certificates_fit_by_numbers a s l well legal small regions groups all named (certificate_numbered a s l well legal small kept all groups splits.once) in
    file_of_plan p c plan certificate (lines_few a s l well legal small kept all groups splits.once) (short a s l well legal small regions groups splits named written plan certificate)
