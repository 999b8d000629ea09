use Rattle.std.proofs.Common.{◌<◌, ℕ, length, ap, ◌∙◌, arith}
use Rattle.std.proofs.lemmas.List.{length-set}
use Rattle.std.specs.Prelude.{slice_set}
use Rattle.report.proofs.Weights.{added_more}
use Rattle.report.proofs.weighing.add_at.Goals as goal

pub loop-place-preserved : goal.loop-place-preserved
loop-place-preserved c =
    let now = c.loop-place.weights in
    let place = c.loop-place.place in
    let long = c.loop-place.invariant.long in
    let lt : place < length now = omega (arith, c.loop-place-test.true, c.requires.to, long) in
    record {
      from = omega (arith, c.loop-place.invariant.from);
      long = length-set now place c.saturating_add.result ∙ long;
      sums = λ m low small g.
          added_more m c.args.weight g low c.args.from place c.args.weights.now now (slice_set now place c.saturating_add.result) small c.loop-place.invariant.from lt
          (ap (λ (n : ℕ). slice_set now place n) c.saturating_add.ensures) (c.loop-place.invariant.sums m low small g);
    }
