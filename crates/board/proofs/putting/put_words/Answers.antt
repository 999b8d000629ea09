use Rattle.std.proofs.Common.{◌≡◌, ◌+◌, ◌<◌, ℕ, ℤ, List, length, set, arith}
use Rattle.std.specs.Prelude.{slice_index}
use Rattle.board.specs.Kept.{all_bits}
use Rattle.board.specs.Layout.{value_at}
use Rattle.board.specs.Words.{bits_of}
use Rattle.board.proofs.ByCell.{length_all, set_bit}
use Rattle.board.proofs.Sheets.{others_kept, row_set}
use Rattle.board.proofs.putting.put_words.Goals as goal

pub loop-more-preserved : goal.loop-more-preserved
loop-more-preserved g c =
    let V : List ℤ = g.J.Run.values in
    let i : ℕ = c.loop-more.more in
    let bits : List ℕ = c.loop-more.bits_now in
    let samples : List ℕ = c.args.samples.now in
    let v : ℕ = slice_index c.args.values.now (c.args.from + i) in
    let d : ℕ = c.args.first + i in
    let now : List ℕ = all_bits c.args.planes bits samples in
    let after : List ℕ = all_bits c.args.planes (set bits d v) samples in
    let below : d < length bits = omega (arith, c.requires.inside, c.loop-more-test.true, c.loop-more.auto.bits_now) in
    let long = length_all c.args.planes bits samples in
    let room : d < length now = omega (arith, below, long) in
    let is : v ≡ bits_of (value_at V d) = c.requires.row i c.loop-more-test.true in
    let set_is : after ≡ set now d v = set_bit c.args.planes bits samples d v below in
    record {
      put = row_set V now after c.args.first i v room is set_is c.loop-more.invariant.put;
      kept = λ n had. others_kept V now after d v n room is set_is (c.loop-more.invariant.kept n had);
    }
