use Rattle.std.proofs.Common.{◌∙◌, ℕ, get_or, arith, ap, sym}
use Rattle.std.proofs.lemmas.List.{get_or_past}
use Rattle.board.proofs.ByCell.{get_sample}
use Rattle.board.proofs.kept.bits_of_cell.Goals as goal

pub returns-then-place-samples : goal.returns-then-place-samples
returns-then-place-samples c =
    c.from.ensures ∙ ap (λ (n : ℕ). get_or c.args.samples.now n 0) c.sample_place-place.ensures
    ∙ sym (get_sample c.args.planes c.args.bits.now c.args.samples.now c.args.cell c.if-cell-bits.false c.requires.inside)

pub returns-else-place-samples : goal.returns-else-place-samples
returns-else-place-samples c =
    sym (get_or_past c.args.samples.now c.sample_place-place.result 0 (omega (arith, c.if-place-samples.false))) ∙ ap (λ (n : ℕ). get_or c.args.samples.now n 0) c.sample_place-place.ensures
    ∙ sym (get_sample c.args.planes c.args.bits.now c.args.samples.now c.args.cell c.if-cell-bits.false c.requires.inside)
