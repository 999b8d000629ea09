use Rattle.std.proofs.Common.{◌≡◌, ◌+◌, ◌++◌, length, take, drop, ap, ◌∙◌}
use Rattle.interpreter.proofs.SetRows.{row_copied}
use Rattle.interpreter.proofs.buffers.held.copy_row.Goals as goal

pub returns : goal.returns
returns c =
    let xs = c.args.words.now in
    let from = c.args.from.now in
    let place = c.args.place in
    let first : c.split_at_mut-later.result.0.now ≡ take place xs = c.split_at_mut-later.ensures.front in
    let later : c.split_at_mut-row.result.1.now ≡ drop (length from) (drop place xs) = c.split_at_mut-row.ensures.back ∙ ap (drop (length from)) c.split_at_mut-later.ensures.back in
    (λ i. first i ++ (c.copy_from_slice.ensures.after i ++ later i)) ∙ row_copied place from xs c.requires
