use Rattle.std.proofs.Common.{rules, ◌≡◌, ◌*◌, ◌∙◌, None, length, ap, sym, arith}
use Rattle.std.proofs.lemmas.List.{length-map}
use Rattle.rayon.proofs.ListFacts.{IfOk-then}
use Rattle.algo.specs.View.{algorithm_of}
use Rattle.plan.specs.View.{plan_of, group_of}
use Rattle.plan.specs.Certificate.Certificate.{certificate_of}
use Rattle.claims.specs.First.{least_from}
use Rattle.claims.proofs.Together.{found_told, group_there}
use Rattle.claims.proofs.tasks.first_fault.Goals as goal

pub returns : goal.returns
returns g c =
    let p = plan_of c.args.plan.now in
    let items = c.args.plan.now.groups.items in
    let tasks : c.in-Some.tasks ≡ 2 * length items = search rules in
    let long = length-map items group_of in
    let whole : c.in-Some.tasks ≡ 2 * length p.groups = omega (arith, tasks, long) in
    IfOk-then c.least_of.result _ _ c.least_of.ensures (λ found h.
    found_told (algorithm_of c.args.algo.now) p (certificate_of c.args.cert.now) c.in-Some.tasks c.in_ok-told.told.items whole c.in_ok-told.ensures found
    (λ k below. group_there items k (omega (arith, below, long)))
    (sym (ap (least_from None) c.deref.ensures.value) ∙ h))
