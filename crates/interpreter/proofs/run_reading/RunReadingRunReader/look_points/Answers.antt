use Rattle.std.proofs.Common.{length}
use Rattle.interpreter.specs.Evaluation.Lanes.{lanes_at, number_at}
use Rattle.interpreter.proofs.Aside.{finds_aside}
use Rattle.std.proofs.Common.{refl}
use Rattle.interpreter.proofs.run_reading.RunReadingRunReader.look_points.Goals as goal

pub returns : goal.returns
returns c =
    let out = c.gather.new.out in
    finds_aside c.args.self.now c.args.name.now c.in_ok-source.source c.in_ok-source.source (length out) (λ k. lanes_at (length out) c.args.indices.now c.args.registers.now k) (λ t k. number_at out k) c.gather.result refl c.in_ok-source.ensures c.gather.ensures
