use Rattle.std.proofs.Common.{false, List, length, map, ap, refl, ◌∙◌}
use Rattle.std.specs.Option.{option_map}
use Rattle.std.specs.Global.{Vec}
use Rattle.plan.specs.declared.plan.Group.{Group}
use Rattle.sched.specs.declared.roots.Root.{Root}
use Rattle.lower.specs.declared.lowering.Lowered.{Lowered}
use Rattle.sched.specs.Stored.{stored_of}
use Rattle.sched.specs.Regions.{laid_of}
use Rattle.algo.specs.View.{algorithm_of}
use Rattle.lower.specs.Groups.{party_of, rooted}
use Rattle.sched.specs.Groups.{root_of}
use Rattle.lower.proofs.Grouped.{all_found}
use Rattle.lower.proofs.Made.{plan_made}
use Rattle.lower.proofs.lowering.planned.Goals as goal

pub returns-clause-made : goal.returns-clause-made
returns-clause-made c =
    let gs = map stored_of c.args.stored.now in
    let ls = map (option_map laid_of) c.args.laid.now in
    let made : Lowered = record { plan = c.in_ok-plan.plan; certificate = c.in_ok-groups.certificate } in
    let lines = c.in_ok-groups.certificate in
    plan_made (algorithm_of c.args.algo.now) (map root_of c.deref.result.now) lines.claims.items lines.needs.items gs ls c.args.parties.now
    (map party_of c.args.parties.now) made c.in_ok-groups.groups.items lines.own.items
    (c.unlaid.ensures.laid c.in_default.is) c.requires.over (ap (λ (l : List Root). map root_of l) c.deref.ensures.value ∙ c.in_ok-roots.ensures) c.requires.roots c.requires.alone c.in_ok-groups.ensures.made
    c.in_ok-groups.ensures.bodies
    (ap (λ (v : Vec Group). v.items) c.in_ok-plan.ensures.groups) refl refl refl c.in_ok-groups.ensures.windows c.in_ok-plan.ensures.head c.requires.homes
    (all_found (algorithm_of c.args.algo.now) (length (rooted false gs ls)) (rooted false gs ls) c.args.parties.now c.requires.found c.in_ok-groups.ensures.known) c.in_ok-groups.ensures.by
    c.in_ok-groups.ensures.known
