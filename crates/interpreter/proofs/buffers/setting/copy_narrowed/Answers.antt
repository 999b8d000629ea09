use Rattle.std.proofs.Common.{◌≡◌, ◌+◌, ◌++◌, ℕ, length, take, drop, sym, ap, ◌∙◌, arith}
use Rattle.interpreter.specs.Buffers.Marks.{word_in}
use Rattle.interpreter.specs.Buffers.PlaceBits.{low_byte}
use Rattle.interpreter.specs.Buffers.SetRows.{set_row}
use Rattle.interpreter.proofs.SetRows.{row_copied, row_set_same}
use Rattle.interpreter.proofs.buffers.setting.copy_narrowed.Goals as goal

pub returns : goal.returns
returns c =
    let xs = c.args.bytes.now in
    let from = c.args.from.now in
    let place = c.args.place in
    let row = c.narrow_each.new.out in
    let long : length row ≡ length from = omega arith in
    let first : c.split_at_mut-later.result.0.now ≡ take place xs = c.split_at_mut-later.ensures.front in
    let later : c.split_at_mut-row.result.1.now ≡ drop (length row) (drop place xs) =
    c.split_at_mut-row.ensures.back ∙ ap (drop (length from)) c.split_at_mut-later.ensures.back ∙ ap (λ (n : ℕ). drop n (drop place xs)) (sym long) in
    (λ i. first i ++ (row ++ later i)) ∙ row_copied place row xs (omega (arith, long, c.requires))
    ∙ row_set_same (word_in row) (λ k. low_byte (word_in from k)) place xs (length row) c.narrow_each.ensures
    ∙ ap (set_row (λ k. low_byte (word_in from k)) place xs) long
