use Rattle.std.proofs.Common.{◌<◌, length, arith}
use Rattle.shares.proofs.Marking.{clear_here, marked_more}
use Rattle.shares.proofs.taken.take_bits.Goals as goal

pub returns-in_default-clause-held : goal.returns-in_default-clause-held
returns-in_default-clause-held c _ clear =
    let now = c.loop-place.words in
    let place = c.loop-place.place in
    let less : place < length now = omega (arith, c.loop-place-test.true, c.loop-place.auto.place-end, c.loop-place.auto.words, c.requires.within, c.requires.some) in
    let starts = c.saturating_sub-low.ensures in
    let ends = c.min-high.ensures in
    c.in_default.ensures.none (clear_here c.args.words.now now c.args.first c.args.end place _ _ less starts ends c.loop-place.invariant.marked clear)

pub loop-place-preserved : goal.loop-place-preserved
loop-place-preserved c =
    let now = c.loop-place.words in
    let place = c.loop-place.place in
    let less : place < length now = omega (arith, c.loop-place-test.true, c.loop-place.auto.place-end, c.loop-place.auto.words, c.requires.within, c.requires.some) in
    let starts = c.saturating_sub-low.ensures in
    let ends = c.min-high.ensures in
    let part = c.in-Some.ensures.some in
    let from = c.loop-place.invariant.from in
    record {
      from = omega (arith, from);
      marked = marked_more c.args.words.now now c.args.first c.args.end place _ _ less starts ends c.loop-place.invariant.marked c.in-Some.word part.0 part.1;
    }
