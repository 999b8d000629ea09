use Rattle.std.proofs.Common.{◌∷◌, length}
use Rattle.interpreter.specs.Evaluation.Lanes.{number_at}
use Rattle.interpreter.specs.declared.run_reading.Source.TheVariants.{Input, Buffer}
use Rattle.interpreter.proofs.Aside.{finds_aside}
use Rattle.interpreter.proofs.run_reading.RunReadingRunReader.look_each.Goals as goal

pub returns-in-Input : goal.returns-in-Input
returns-in-Input c =
    let out = c.look_samples.new.out in
    finds_aside c.args.self.now c.args.name.now c.in_ok-source.source Input (length out) (λ k. number_at c.args.out.now k ∷ c.args.others.now) (λ t k. number_at out k) c.look_samples.result c.in-Input.is c.in_ok-source.ensures c.look_samples.ensures

pub returns-in-Buffer : goal.returns-in-Buffer
returns-in-Buffer c =
    let out = c.look_places.new.out in
    finds_aside c.args.self.now c.args.name.now c.in_ok-source.source (Buffer c.in-Buffer.buffer) (length out) (λ k. number_at c.args.out.now k ∷ c.args.others.now) (λ t k. number_at out k) c.look_places.result c.in-Buffer.is c.in_ok-source.ensures c.look_places.ensures
