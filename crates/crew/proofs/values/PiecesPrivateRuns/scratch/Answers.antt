use Rattle.std.proofs.Common.{◌≡◌, List, map, ap, ◌∙◌, subst, arith}
use Rattle.plan.specs.Plan.{Group, Plan}
use Rattle.plan.specs.View.{group_of}
use Rattle.plan.specs.declared.plan.Group.{Group as CodeGroup}
use Rattle.plan.specs.Certificate.Certificate.{Certificate, certificate_of}
use Rattle.checked_plan.specs.View.{plan_checked}
use Rattle.interpreter.specs.Scratches.{IsScratchForAll}
use Rattle.crew.proofs.values.PiecesPrivateRuns.scratch.Goals as goal

pub returns : goal.returns
returns g c =
    let made = c.in_ok-scratch.ensures in
    let x = c.in_ok-scratch.scratch in
    let p = plan_checked c.args.self.now.checked.now in
    let groups : map group_of c.deref.result.now ≡ p.groups = ap (λ (gs : List CodeGroup). map group_of gs) c.deref.ensures.value ∙ ap (λ (z : Plan). z.groups) c.plan-plan.ensures in
    record {
      groups = subst (λ (d : Certificate). IsScratchForAll x d p.groups) c.cert.ensures (subst (λ (gs : List Group). IsScratchForAll x (certificate_of c.cert.result.now) gs) groups made.fits);
      given = λ j lt. (let own = c.requires.0.1 j lt in let room = made.given in omega (arith, own, room));
    }
