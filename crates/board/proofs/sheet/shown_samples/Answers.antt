use Rattle.std.proofs.Common.{◌≡◌, ◌<◌, ◌∙◌, ℕ, ℤ, List, length, arith, ap, subst, sym}
use Rattle.board.specs.Kept.{all_bits, in_planes, no_planes, planes_of, AreBytes, Keeps}
use Rattle.board.specs.Layout.{Layout, pieces_of}
use Rattle.board.specs.Sheets.{HasBits, IsPut}
use Rattle.board.specs.declared.source.Planes.{Planes}
use Rattle.board.proofs.ByCell.{get_bits, sample_shows}
use Rattle.board.proofs.Sheets.{all_put, bits_read}
use Rattle.board.proofs.sheet.shown_samples.Goals as goal

-- where all cells are bits, the list of all bits is theirs
pub read_off-requires-clause-put : goal.read_off-requires-clause-put
read_off-requires-clause-put g c n lt =
    let plan : Layout = g.J.Run.layout in
    let V : List ℤ = g.J.Run.values in
    let bits : List ℕ = c.args.bits.now in
    let bytes : List ℕ = c.args.bytes.items in
    let all : (n : ℕ) → n < plan.cells → HasBits V (all_bits (planes_of c.args.kept) bits bytes) n = all_put plan V _ c.requires.layout.0 c.requires.put in
    let kept = subst (λ k. Keeps plan k (length bits)) c.in-AsBits.is c.requires.kept in
    let size = kept.1 in
    sym (get_bits no_planes bits bytes n (omega (arith, lt, size))) ∙ subst (λ (x : Planes). HasBits V (all_bits x bits bytes) n) (ap planes_of c.in-AsBits.is) (all n lt)

pub returns-in-AsSamples : goal.returns-in-AsSamples
returns-in-AsSamples g c =
    let plan : Layout = g.J.Run.layout in
    let V : List ℤ = g.J.Run.values in
    let x = c.in-AsSamples.field-0 in
    let bits : List ℕ = c.args.bits.now in
    let bytes : List ℕ = c.args.bytes.items in
    let held : AreBytes plan x × (length bits ≡ x.first) = subst (λ k. Keeps plan k (length bits)) c.in-AsSamples.is c.requires.kept in
    let put = subst (λ k. (j : ℕ) → j < pieces_of plan → IsPut plan V (all_bits (planes_of k) bits bytes) j) c.in-AsSamples.is c.requires.put in
    bits_read plan V (all_bits x bits bytes) c.requires.layout.0 c.requires.layout.1 (all_put plan V (all_bits x bits bytes) c.requires.layout.0 put) bytes
    (c.requires.fits ∙ ap (λ k. in_planes (planes_of k)) c.in-AsSamples.is ∙ sym held.0.stand.all)
    (sample_shows plan V x held.0.stand bits bytes held.1)
