use Rattle.std.proofs.Common.{◌≡◌, ◌<◌, [], length, take, arith, subst}
use Rattle.std.specs.Prelude.{All}
use Rattle.std.proofs.lemmas.List.{length-map}
use Rattle.shares.specs.Noted.{line_of, lines_noted}
use Rattle.shares.proofs.Groups.{get_within}
use Rattle.shares.proofs.Passing.{all_more}
use Rattle.shares.proofs.early.count_ahead.Goals as goal

pub loop-place-preserved : goal.loop-place-preserved
loop-place-preserved c =
    let early = c.if-noted-line.false in
    all_more [] c.args.lines.now c.loop-place.place c.index-lines-place.result c.loop-place-test.true c.index-lines-place.is (λ x. x.line < c.args.line) c.loop-place.invariant (omega (arith, early))

pub returns : goal.returns
returns c =
    let held = c.args.lines.now in
    let past = c.loop-place-test.false in
    let end = c.loop-place.auto.place-end in
    let long = length-map held line_of in
    let same : c.loop-place.place ≡ length held = omega (arith, past, end) in
    record {
      some = omega (arith, long);
      ahead = subst (λ n. All (λ x. x.line < c.args.line) (take n (lines_noted held))) same c.loop-place.invariant;
      next = λ x at. (let less = get_within (lines_noted held) (length held) x at in absurd (omega (arith, long, less)));
    }
