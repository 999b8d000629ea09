-- What the words are once the table is closed.
use Rattle.std.proofs.Common.{◌≡◌, ℕ, ◌+◌, ◌*◌, ◌<◌, ◌≤◌, ℤ, List, length, get_or, false, sym, ap, ◌∙◌, subst, ⊎_elim, arith}
use Rattle.std.specs.Prelude.{slice_index, Contains}
use mathlib.Core.Logic.{dite}
use mathlib.Core.Option.{some, some-injective}
use native.Mathlib.Decide.{ℕ_discrete}
use lib.ListN.{get_elem?}
use Rattle.atomic_table.specs.Table.{State, Final, Seen}
use Rattle.board.specs.Layout.{Layout, pieces_of, own_cell, samples_in, shown_cell, value_at, IsSound, ShowsSamples, picture_of}
use Rattle.board.specs.declared.view.View.{View}
use Rattle.board.specs.Shown.{AreShown, HasAll, StandInPlanes}
use Rattle.board.specs.declared.source.Planes.{Planes}
use Rattle.board.specs.Words.{flag, cell, cell_place, word_of}
use Rattle.board.specs.Rule.{IsDrawn, IsFinished, Kept}
use Rattle.board.specs.Views.{IsDone}
use Rattle.board.specs.Seats.{KnowsAll}
use Rattle.meaning.specs.Image.Raster.{natural}
use Rattle.std.proofs.lemmas.List.FromFn.{fill_by_all, get_or-map-range_with_len, length-map-range_with_len}
use Rattle.board.proofs.Parts.{IsParted}
use Rattle.board.proofs.Sums.{sum_two}
use Rattle.board.proofs.Samples.{sample_bits}
use Rattle.board.proofs.Colours.{place_below}

-- where one seat stands for all, all pieces are drawn and it has finished what was drawn, it knows each piece
pub done_knows : (plan : Layout) (values : List ℤ) (words : List ℕ) (views : List View) (id : ℕ) (v : View) → Kept plan values words views → get_elem? views id ≡ some v → v.spent ≡ false → IsDone v
    → KnowsAll plan v
done_knows plan values words views id v r at active done j in_range =
    let g = r.each_view id v at active in
    let all = g.none_left done.drawn in
    by_whom (r.each_drawn j in_range (omega (arith, all, in_range)))
  where
    by_whom : IsDrawn views j → Contains v.known j
    by_whom (k, u, there, alive, has) = dite (ℕ_discrete k id)
        (λ is. done.finished j (subst (λ (x : View). Contains x.drawn j) (some-injective u v (sym there ∙ ap (λ n. get_elem? views n) is ∙ at)) has))
        (λ other.
        let two = sum_two (λ (x : View). x.seats) views k id u v other there at in
        let itself = (r.each_view k u there alive).itself in
        let most = r.whole in
        let mine = done.seats in
        absurd (omega (arith, two, itself, most, mine)))

module _ (plan : Layout) (values : List ℤ) (id : ℕ) (v : View) (items slots : List ℕ) where
  abbrev pub Ended : Type 0
  Ended = Final (Seen (λ (s : State ℕ View). Kept plan values s.words s.views) id v) items slots

  -- where the seat knows all pieces, all flags are set
  pub ended_flags : Ended → v.spent ≡ false → KnowsAll plan v → (j : ℕ) → j < pieces_of plan → slice_index items (1 + j) ≡ 1
  ended_flags (s, seen, same, homes, slots_are) active all j in_range =
      let g = seen.0.each_view id v seen.1 active in
      subst (λ (ws : List ℕ). slice_index ws (1 + j) ≡ 1) same (g.known j (all j in_range)).1

  -- the seat that has done all knows all pieces
  pub ended_done : Ended → v.spent ≡ false → IsDone v → KnowsAll plan v
  ended_done (s, seen, same, homes, slots_are) active done = done_knows plan values s.words s.views id v seen.0 seen.1 active done

  -- where all flags are set, each cell has its value
  pub ended_cells : Ended → IsParted plan → ((j : ℕ) → j < pieces_of plan → slice_index items (1 + j) ≡ 1) → HasAll plan values items
  ended_cells (s, seen, same, homes, slots_are) parted all c in_range =
      let place = parted.covered c in_range in
      let j : ℕ = place.0 in
      let is_one : flag s.words j ≡ 1 = subst (λ (ws : List ℕ). slice_index ws (1 + j) ≡ 1) (sym same) (all j place.2) in
      let set : cell plan s.words (own_cell plan j place.1) ≡ word_of (value_at values (own_cell plan j place.1)) = ⊎_elim
      (λ (unset : flag s.words j ≡ 0). absurd (omega arith))
      (λ (done : IsFinished plan values s.words j). done.1 place.1 place.3 place.3)
      (seen.0.each_flag j place.2) in
      subst (λ (x : List ℕ × ℕ). cell plan x.0 x.1 ≡ word_of (value_at values x.1)) (λ i. (same i, place.4 i)) set

-- the cell of a place of the raster, in the list of the cells that are shown
pub shown_at : (plan : Layout) (shown : List ℕ) (k : ℕ) → AreShown plan shown → k < samples_in plan → slice_index shown k ≡ shown_cell plan k
shown_at plan shown k is lt =
    ap (λ (xs : List ℕ). get_or xs k 0) is ∙ get_or-map-range_with_len (λ n. shown_cell plan n) 0 (samples_in plan) k k 0 lt (omega arith)

-- how many cells are shown
pub shown_count : (plan : Layout) (shown : List ℕ) → AreShown plan shown → length shown ≡ samples_in plan
shown_count plan shown is = ap length is ∙ length-map-range_with_len (λ n. shown_cell plan n) 0 (samples_in plan)

-- the word of a cell that is shown
pub record IsRead (plan : Layout) (values : List ℤ) (words : List ℕ) (n : ℕ) : Type 0 where
  pub word : slice_index words (cell_place plan (shown_cell plan n)) ≡ 1 + natural (value_at values (shown_cell plan n))
  pub small : natural (value_at values (shown_cell plan n)) ≤ 65535
  pub inside : shown_cell plan n < plan.cells

module _ (plan : Layout) (values : List ℤ) (words : List ℕ) (sound : IsSound plan) (right : ShowsSamples plan values) (all : HasAll plan values words) where
  pub read_at : (n : ℕ) → n < samples_in plan → IsRead plan values words n
  read_at n lt =
      let bits = sample_bits plan.frame.ty (value_at values (shown_cell plan n)) sound.shape.ty (right n lt) in
      record { word = all (shown_cell plan n) (sound.shown n lt) ∙ ap (λ (b : ℕ). 1 + b) bits.0; small = bits.1; inside = sound.shown n lt }

  -- samples that are one less than the words of their cells are the picture's
  pub read_off : (samples : List ℕ) → length samples ≡ samples_in plan → ((n : ℕ) → n < samples_in plan → slice_index samples n + 1 ≡ slice_index words (cell_place plan (shown_cell plan n))) →
      samples ≡ (picture_of plan values).samples
  read_off samples long reads = fill_by_all (λ n. natural (value_at values (shown_cell plan n))) samples (samples_in plan) 0 long (λ k lt.
      let one = reads k lt in
      let two = (read_at k lt).word in
      omega (arith, one, two))

-- where a listed cell's word stands
pub listed_place : (plan : Layout) (shown : List ℕ) (base k : ℕ) → AreShown plan shown → base ≡ 1 + pieces_of plan → k < samples_in plan →
    base + slice_index shown k ≡ cell_place plan (shown_cell plan k)
listed_place plan shown base k is at_base lt = let here = shown_at plan shown k is lt in λ i. at_base i + here i

module _ (plan : Layout) (x : Planes) (stand : StandInPlanes plan x) (k c : ℕ) (in_plane : k < x.pixels) (a_colour : c < x.colours) where
  -- a colour of a pixel is one of the samples
  pub plane_sample : k * x.colours + c < samples_in plan
  plane_sample = let below = place_below k c x.pixels x.colours in_plane a_colour in let count = stand.all in omega (arith, below, count)

  -- where its cell's word stands
  pub plane_place : (start : ℕ) → start ≡ 1 + pieces_of plan + x.first → start + c * x.pixels + k ≡ cell_place plan (shown_cell plan (k * x.colours + c))
  plane_place start at_start = let here = stand.cell k c in_plane a_colour in omega (arith, here, at_start)
