use Rattle.std.proofs.Common.{◌≡◌, ◌+◌, ◌<◌, ◌∙◌, ℕ, ℤ, List, length, get_or, arith, ap, sym}
use Rattle.std.specs.Prelude.{slice_index}
use Rattle.board.specs.Layout.{value_at}
use Rattle.board.specs.Seen.{seen_bits, Seen}
use Rattle.board.specs.Words.{bits_of}
use Rattle.board.proofs.ByCell.{get_bits}
use Rattle.board.proofs.Sheets.{row_at}
use Rattle.board.proofs.cells.SheetCells.look_row.Goals as goal

pub returns : goal.returns
returns g c =
    let V : List ℤ = g.J.Run.values in
    let inner = c.self.inside in
    let bits : List ℕ = inner.bits.now in
    let cells : List ℕ = c.args.cells.now in
    let first : ℕ = get_or cells 0 0 in
    let inside = c.in_ok-row.ensures.inside in
    let follow : (k : ℕ) → k < length cells → slice_index cells k ≡ first + k = λ k lt. (let one = c.if-not-follow_each_other.ensures k (omega arith) lt in omega (arith, one)) in
    let had : (k : ℕ) → k < length cells → get_or bits (slice_index cells k) 0 ≡ bits_of (value_at V (slice_index cells k)) = λ k lt.
    (let d : ℕ = slice_index cells k in
    let known = c.requires k lt in
    let here = follow k lt in
    let below : d < length bits = omega (arith, here, inside, lt) in
    sym (get_bits inner.planes bits inner.samples.now d below) ∙ ap (λ (s : Seen). get_or (seen_bits s) d 0) c.self.view_is ∙ known.2 d known.3) in
    row_at V bits cells c.in_ok-row.row.now first c.in_ok-row.ensures.same inside follow had
