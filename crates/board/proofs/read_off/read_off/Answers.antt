use Rattle.std.proofs.Common.{◌≡◌, ◌+◌, ◌*◌, ◌<◌, ℕ, length, arith, sym, ap, subst, ◌∙◌}
use Rattle.std.specs.Prelude.{slice_index}
use Rattle.board.specs.Layout.{Layout, samples_in, shown_cell}
use Rattle.board.specs.Shown.{AreShown, StandInPlanes, Tells}
use Rattle.board.proofs.Closing.{plane_sample, shown_at, shown_count}
use Rattle.board.proofs.Colours.{by_colours}
use Rattle.board.proofs.Sheets.{bits_read, shown_small}
use Rattle.board.proofs.read_off.read_off.Goals as goal

pub all_planes-requires-clause-inside : goal.all_planes-requires-clause-inside
all_planes-requires-clause-inside g c k m in_plane a_colour =
    let plan : Layout = g.J.Run.layout in
    let x = c.in-InPlanes.planes in
    let stand : StandInPlanes plan x = subst (Tells plan) c.in-InPlanes.is c.requires.shown in
    let here = stand.cell k m in_plane a_colour in
    let inside = c.requires.layout.0.shown (k * x.colours + m) (plane_sample plan x stand k m in_plane a_colour) in
    let size = c.requires.full in
    omega (arith, here, inside, size)

pub all_planes-requires-clause-small : goal.all_planes-requires-clause-small
all_planes-requires-clause-small g c k m in_plane a_colour =
    let plan : Layout = g.J.Run.layout in
    let x = c.in-InPlanes.planes in
    let stand : StandInPlanes plan x = subst (Tells plan) c.in-InPlanes.is c.requires.shown in
    subst (λ n. slice_index c.args.bits.now n < 65536) (stand.cell k m in_plane a_colour)
    (shown_small plan g.J.Run.values c.args.bits.now c.requires.layout.0 c.requires.layout.1 c.requires.put (k * x.colours + m) (plane_sample plan x stand k m in_plane a_colour))

pub returns-in-InPlanes : goal.returns-in-InPlanes
returns-in-InPlanes g c =
    let plan : Layout = g.J.Run.layout in
    let x = c.in-InPlanes.planes in
    let stand : StandInPlanes plan x = subst (Tells plan) c.in-InPlanes.is c.requires.shown in
    let samples = c.all_planes.new.samples in
    let P : ℕ → Type 0 = λ n. slice_index samples n ≡ slice_index c.args.bits.now (shown_cell plan n) in
    let each : (k m : ℕ) → k < x.pixels → m < x.colours → P (k * x.colours + m) = λ k m in_plane a_colour.
    c.all_planes.ensures k m in_plane a_colour ∙ ap (slice_index c.args.bits.now) (sym (stand.cell k m in_plane a_colour)) in
    bits_read plan g.J.Run.values c.args.bits.now c.requires.layout.0 c.requires.layout.1 c.requires.put samples (c.all_planes.auto.samples ∙ c.requires.fits)
    (λ n lt. by_colours P x.pixels x.colours n each (subst (λ m. n < m) stand.all lt))

pub listed-requires-clause-fits : goal.listed-requires-clause-fits
listed-requires-clause-fits g c =
    let shown : AreShown g.J.Run.layout c.in-Listed.cells.items = subst (Tells g.J.Run.layout) c.in-Listed.is c.requires.shown in
    c.requires.fits ∙ sym (shown_count g.J.Run.layout c.in-Listed.cells.items shown) ∙ ap length (sym c.as_slice.ensures.value)

pub listed-requires-clause-inside : goal.listed-requires-clause-inside
listed-requires-clause-inside g c k lt =
    let plan : Layout = g.J.Run.layout in
    let shown : AreShown plan c.as_slice.result.now = subst (AreShown plan) (sym c.as_slice.ensures.value) (subst (Tells plan) c.in-Listed.is c.requires.shown) in
    let sample : k < samples_in plan = subst (λ n. k < n) (shown_count plan c.as_slice.result.now shown) lt in
    let here = shown_at plan c.as_slice.result.now k shown sample in
    let inside = c.requires.layout.0.shown k sample in
    let size = c.requires.full in
    omega (arith, here, inside, size)

pub listed-requires-clause-small : goal.listed-requires-clause-small
listed-requires-clause-small g c k lt =
    let plan : Layout = g.J.Run.layout in
    let shown : AreShown plan c.as_slice.result.now = subst (AreShown plan) (sym c.as_slice.ensures.value) (subst (Tells plan) c.in-Listed.is c.requires.shown) in
    let sample : k < samples_in plan = subst (λ n. k < n) (shown_count plan c.as_slice.result.now shown) lt in
    subst (λ n. slice_index c.args.bits.now n < 65536) (sym (shown_at plan c.as_slice.result.now k shown sample))
    (shown_small plan g.J.Run.values c.args.bits.now c.requires.layout.0 c.requires.layout.1 c.requires.put k sample)

pub returns-in-Listed : goal.returns-in-Listed
returns-in-Listed g c =
    let plan : Layout = g.J.Run.layout in
    let shown : AreShown plan c.as_slice.result.now = subst (AreShown plan) (sym c.as_slice.ensures.value) (subst (Tells plan) c.in-Listed.is c.requires.shown) in
    let count = shown_count plan c.as_slice.result.now shown in
    bits_read plan g.J.Run.values c.args.bits.now c.requires.layout.0 c.requires.layout.1 c.requires.put c.listed.new.samples (c.listed.auto.samples ∙ c.requires.fits)
    (λ n lt. c.listed.ensures n (subst (λ m. n < m) (sym count) lt) ∙ ap (slice_index c.args.bits.now) (shown_at plan c.as_slice.result.now n shown lt))
