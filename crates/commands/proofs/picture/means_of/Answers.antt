use Rattle.std.proofs.Common.{ap, subst, inr}
use Rattle.std.proofs.lemmas.Result.{err_from_is_err_and}
use Rattle.meaning.specs.Algorithm.{Algorithm}
use Rattle.algo.specs.View.{algorithm_of}
use Rattle.checked_plan.specs.View.{certificate_checked, plan_checked}
use Rattle.commands.specs.Means.{stores_checked}
use Rattle.commands.specs.Pictures.{IsTooDear, stores_told}
use Rattle.commands.proofs.picture.means_of.Goals as goal

pub returns-in_err-stays_within-in-File-clause-refused : goal.returns-in_err-stays_within-in-File-clause-refused
returns-in_err-stays_within-in-File-clause-refused g c =
    let p = err_from_is_err_and c.from_residual-in_err-stays_within-in-File.result c.from_residual-in_err-stays_within-in-File.ensures.1 in
    let x = c.in_ok-checked-in-File.checked in
    let accepted = c.in_ok-checked-in-File.ensures.accepted in
    let Dear : Algorithm → Type 0 = λ b. IsTooDear c.in-File.most (stores_told b (plan_checked x) (certificate_checked x)) p.0 in
    let dear : IsTooDear c.in-File.most (stores_checked x) p.0 = rw p.2 c.in_err-stays_within-in-File.ensures.refused in
    let stores = subst Dear (ap algorithm_of c.in_ok-checked-in-File.ensures.algo) dear in
    rw (p.1, c.in-File.is) (inr (record { bytes = accepted.0; plan = x.plan; cert = x.cert; holds = accepted.1; accepted = accepted.2; stores = stores }))
