use Rattle.std.proofs.Common.{◌≡◌, ◌+◌, ◌∙◌, ℕ, ℤ, List, arith, ap}
use Rattle.std.specs.Prelude.{slice_index}
use Rattle.board.specs.CellBits.{bits_in}
use Rattle.board.specs.Kept.{all_bits}
use Rattle.board.specs.Layout.{value_at}
use Rattle.board.specs.Words.{bits_of}
use Rattle.board.proofs.Sheets.{row_joined, row_kept}
use Rattle.board.proofs.putting.put_row.Goals as goal

pub put_alike-done-requires-clause-row : goal.put_alike-done-requires-clause-row
put_alike-done-requires-clause-row g c k lt =
    let V : List ℤ = g.J.Run.values in
    let done : ℕ = c.loop-done.done in
    let from : c.args.from + done + k ≡ c.args.from + (done + k) = omega arith in
    let first : c.args.first + (done + k) ≡ c.args.first + done + k = omega arith in
    ap (λ (n : ℕ). slice_index (bits_in c.args.values) n) from ∙ c.requires.row (done + k) (omega (arith, lt)) ∙ ap (λ (n : ℕ). bits_of (value_at V n)) first

pub loop-done-preserved : goal.loop-done-preserved
loop-done-preserved g c =
    let V : List ℤ = g.J.Run.values in
    let done : ℕ = c.loop-done.done in
    let before : List ℕ = all_bits c.args.planes c.loop-done.bits_now c.loop-done.samples in
    let after : List ℕ = all_bits c.args.planes c.put_alike-done.new.bits_now c.put_alike-done.new.samples in
    record {
      inside = omega (arith, c.put_alike-done.ensures.some, c.loop-done-test.true);
      bits = c.put_alike-done.auto.bits_now ∙ c.loop-done.invariant.bits;
      samples = c.put_alike-done.auto.samples ∙ c.loop-done.invariant.samples;
      put = row_joined V after c.args.first done c.put_alike-done.result (row_kept V before after c.args.first done c.put_alike-done.ensures.more c.loop-done.invariant.put) c.put_alike-done.ensures.put;
      kept = λ n had. c.put_alike-done.ensures.more n (c.loop-done.invariant.kept n had);
    }
