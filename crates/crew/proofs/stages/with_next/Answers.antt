use Rattle.std.proofs.Common.{◌≡◌, ◌+◌, ℕ, length, subst, arith}
use Rattle.crew.specs.Stages.{ArePut}
use Rattle.crew.proofs.Staged.{rest_fresh, stage_fresh}
use Rattle.crew.proofs.stages.with_next.Goals as goal

pub with_stage-requires-clause-stage : goal.with_stage-requires-clause-stage
with_stage-requires-clause-stage g c κs within =
    let size = c.split_at_mut-stage.ensures.front_len in
    let stage = c.requires.stage in
    (λ j past lt m there. stage.3 j past (omega (arith, lt, size, stage.0)) m there, omega (arith, size, stage.0, stage.1, stage.2))

pub with_stage-requires-clause-lists : goal.with_stage-requires-clause-lists
with_stage-requires-clause-lists g c κs within =
    stage_fresh g.J.Run.layout c.args.from c.args.lists.now c.split_at_mut-later.result.0.now c.split_at_mut-later.result.1.now c.split_at_mut-stage.result.0.now c.split_at_mut-stage.result.1.now
    c.split_at_mut-later.ensures.value c.split_at_mut-stage.ensures.value c.split_at_mut-later.ensures.front_len c.requires.lists

pub returns-clause-put : goal.returns-clause-put
returns-clause-put g c =
    let stage = c.requires.stage in
    let end : c.args.from + length c.split_at_mut-stage.result.0.now ≡ c.args.to = omega (arith, c.split_at_mut-stage.ensures.front_len, stage.0) in
    subst (λ (n : ℕ). ArePut g.J.Run.layout g.J.Run.values c.with_stage.result n) end c.with_stage.ensures.put

pub returns-clause-lists : goal.returns-clause-lists
returns-clause-lists g c =
    rest_fresh g.J.Run.layout c.args.from c.args.to c.args.lists.now c.split_at_mut-later.result.0.now c.split_at_mut-later.result.1.now c.split_at_mut-stage.result.0.now c.with_stage.new.lists c.split_at_mut-stage.result.1.now
    c.split_at_mut-later.ensures.value c.split_at_mut-stage.ensures.value c.split_at_mut-later.ensures.front_len c.split_at_mut-stage.ensures.front_len c.requires.stage.0 c.with_stage.auto.lists c.requires.lists
