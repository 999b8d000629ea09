use Rattle.std.proofs.Common.{◌≡◌, get_or, Some, sym, ap, ◌∙◌}
use Rattle.sched.specs.declared.nest.Body.{Body}
use Rattle.sched.specs.Placing.{placed_of}
use Rattle.sched.specs.Standing.{standing_of}
use Rattle.sched.specs.Skeleton as spec
use Rattle.sched.proofs.Nests.{nest_next}
use Rattle.sched.proofs.nest.nests_in.Goals as goal

pub loop-body-preserved : goal.loop-body-preserved
loop-body-preserved c =
    let xs = c.args.variables.now in
    let p = placed_of c.args.placed.now in
    let rs = c.args.numbers.now in
    let head = standing_of c.args.head.now in
    let bodies = c.args.bodies.now in
    let i = c.loop-body.body-index in
    let next = c.loop-body.next in
    let d = c.body-item.result in
    let st = standing_of c.nest_in.new.self in
    let one = c.in_ok-nest.nest in
    let stands : spec.nest_in xs p rs (spec.body_of (get_or bodies i d)) (spec.begun next head) ≡ Some st =
    ap (λ (b : Body). spec.nest_in xs p rs (spec.body_of b) (spec.begun next head)) (sym c.body-item.is) ∙ ap (spec.nest_in xs p rs (spec.body_of d)) (sym c.in_ok-standing.ensures) ∙ c.in_ok-nest_in.ensures in
    let seen : spec.nest_seen one ≡ spec.nest_of xs (spec.body_of (get_or bodies i d)) st = c.in_ok-nest.ensures ∙ ap (λ (b : Body). spec.nest_of xs (spec.body_of b) st) c.body-item.is in
    sym (nest_next xs p rs head bodies i d c.loop-body-test.true next st c.loop-body.nests.items one c.push.new.self.items stands seen c.in_ok-push.ensures.items) ∙ c.loop-body.invariant
