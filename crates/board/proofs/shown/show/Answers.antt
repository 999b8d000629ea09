use Rattle.std.proofs.Common.{◌≡◌, ◌+◌, ◌*◌, ◌<◌, ℕ, List, length, arith, sym, ap, subst, ◌∙◌}
use Rattle.std.specs.Prelude.{slice_index}
use Rattle.std.specs.Slots.{slots_items}
use Rattle.board.specs.Layout.{Layout, samples_in, shown_cell}
use Rattle.board.specs.Shown.{AreShown, StandInPlanes, Tells}
use Rattle.board.specs.Words.{cell_place}
use Rattle.board.proofs.Closing.{listed_place, plane_place, plane_sample, read_at, read_off, shown_count}
use Rattle.board.proofs.Colours.{by_colours}
use Rattle.board.proofs.shown.show.Goals as goal

pub show_planes-requires-clause-inside : goal.show_planes-requires-clause-inside
show_planes-requires-clause-inside g c k m in_plane a_colour =
    let plan : Layout = g.J.Run.layout in
    let x = c.in-InPlanes.planes in
    let stand : StandInPlanes plan x = subst (Tells plan) c.in-InPlanes.is c.requires.shown in
    let here = plane_place plan x stand k m in_plane a_colour (c.args.base + x.first) (ap (λ (n : ℕ). n + x.first) c.requires.full.2) in
    let read = read_at plan g.J.Run.values (slots_items c.args.closed.now.words) c.requires.layout.0 c.requires.layout.1 c.requires.set (k * x.colours + m) (plane_sample plan x stand k m in_plane a_colour) in
    let inside = read.inside in
    let size = c.requires.full.1 in
    omega (arith, here, inside, size)

pub show_planes-requires-clause-set : goal.show_planes-requires-clause-set
show_planes-requires-clause-set g c k m in_plane a_colour =
    let plan : Layout = g.J.Run.layout in
    let x = c.in-InPlanes.planes in
    let words : List ℕ = slots_items c.args.closed.now.words in
    let stand : StandInPlanes plan x = subst (Tells plan) c.in-InPlanes.is c.requires.shown in
    let here = plane_place plan x stand k m in_plane a_colour (c.args.base + x.first) (ap (λ (n : ℕ). n + x.first) c.requires.full.2) in
    let read = read_at plan g.J.Run.values words c.requires.layout.0 c.requires.layout.1 c.requires.set (k * x.colours + m) (plane_sample plan x stand k m in_plane a_colour) in
    let word = ap (slice_index words) here ∙ read.word in
    let small = read.small in
    (omega (arith, word), omega (arith, word, small))

pub returns-in-InPlanes : goal.returns-in-InPlanes
returns-in-InPlanes g c =
    let plan : Layout = g.J.Run.layout in
    let x = c.in-InPlanes.planes in
    let words : List ℕ = slots_items c.args.closed.now.words in
    let stand : StandInPlanes plan x = subst (Tells plan) c.in-InPlanes.is c.requires.shown in
    let samples = c.show_planes.new.samples in
    let P : ℕ → Type 0 = λ n. slice_index samples n + 1 ≡ slice_index words (cell_place plan (shown_cell plan n)) in
    let each : (k m : ℕ) → k < x.pixels → m < x.colours → P (k * x.colours + m) = λ k m in_plane a_colour.
    c.show_planes.ensures k m in_plane a_colour ∙ ap (slice_index words) (plane_place plan x stand k m in_plane a_colour (c.args.base + x.first) (ap (λ (n : ℕ). n + x.first) c.requires.full.2)) in
    read_off plan g.J.Run.values words c.requires.layout.0 c.requires.layout.1 c.requires.set samples (c.show_planes.auto.samples ∙ c.requires.fits)
    (λ n lt. by_colours P x.pixels x.colours n each (subst (λ m. n < m) stand.all lt))

pub show_listed-requires-clause-fits : goal.show_listed-requires-clause-fits
show_listed-requires-clause-fits g c =
    let shown : AreShown g.J.Run.layout c.in-Listed.cells.items = subst (Tells g.J.Run.layout) c.in-Listed.is c.requires.shown in
    c.requires.fits ∙ sym (shown_count g.J.Run.layout c.in-Listed.cells.items shown) ∙ ap length (sym c.as_slice.ensures.value)

pub show_listed-requires-clause-inside : goal.show_listed-requires-clause-inside
show_listed-requires-clause-inside g c k lt =
    let plan : Layout = g.J.Run.layout in
    let shown : AreShown plan c.as_slice.result.now = subst (AreShown plan) (sym c.as_slice.ensures.value) (subst (Tells plan) c.in-Listed.is c.requires.shown) in
    let sample : k < samples_in plan = subst (λ n. k < n) (shown_count plan c.as_slice.result.now shown) lt in
    let here = listed_place plan c.as_slice.result.now c.args.base k shown c.requires.full.2 sample in
    let inside = (read_at plan g.J.Run.values (slots_items c.args.closed.now.words) c.requires.layout.0 c.requires.layout.1 c.requires.set k sample).inside in
    let size = c.requires.full.1 in
    omega (arith, here, inside, size)

pub show_listed-requires-clause-set : goal.show_listed-requires-clause-set
show_listed-requires-clause-set g c k lt =
    let plan : Layout = g.J.Run.layout in
    let words : List ℕ = slots_items c.args.closed.now.words in
    let shown : AreShown plan c.as_slice.result.now = subst (AreShown plan) (sym c.as_slice.ensures.value) (subst (Tells plan) c.in-Listed.is c.requires.shown) in
    let sample : k < samples_in plan = subst (λ n. k < n) (shown_count plan c.as_slice.result.now shown) lt in
    let here = listed_place plan c.as_slice.result.now c.args.base k shown c.requires.full.2 sample in
    let read = read_at plan g.J.Run.values words c.requires.layout.0 c.requires.layout.1 c.requires.set k sample in
    let word = ap (slice_index words) here ∙ read.word in
    let small = read.small in
    (omega (arith, word), omega (arith, word, small))

pub returns-in-Listed : goal.returns-in-Listed
returns-in-Listed g c =
    let plan : Layout = g.J.Run.layout in
    let words : List ℕ = slots_items c.args.closed.now.words in
    let shown : AreShown plan c.as_slice.result.now = subst (AreShown plan) (sym c.as_slice.ensures.value) (subst (Tells plan) c.in-Listed.is c.requires.shown) in
    let count = shown_count plan c.as_slice.result.now shown in
    read_off plan g.J.Run.values words c.requires.layout.0 c.requires.layout.1 c.requires.set c.show_listed.new.samples (c.show_listed.auto.samples ∙ c.requires.fits)
    (λ n lt. c.show_listed.ensures n (subst (λ m. n < m) (sym count) lt) ∙ ap (slice_index words) (listed_place plan c.as_slice.result.now c.args.base n shown c.requires.full.2 lt))
