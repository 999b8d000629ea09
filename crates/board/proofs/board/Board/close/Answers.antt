use Rattle.std.proofs.Common.{◌≡◌, ◌+◌, ◌<◌, ◌∙◌, ℕ, length, arith, sym, ap, subst}
use Rattle.std.proofs.lemmas.List.{take_at}
use Rattle.std.specs.Prelude.{slice_index}
use Rattle.std.specs.Slots.{slots_items}
use Rattle.board.specs.Layout.{Layout, pieces_of}
use Rattle.board.specs.Seats.{Place, KnowsAll}
use Rattle.board.specs.Views.{IsDone}
use Rattle.board.proofs.Parts.{parted}
use Rattle.board.proofs.Closing.{ended_done, ended_flags, ended_cells}
use Rattle.board.proofs.board.Board.close.Goals as goal

pub free-requires : goal.free-requires
free-requires g c k lt = let none = c.self.invariant.4 in let count = c.close_with-closed.ensures.counts.1 in absurd (omega arith)

pub free-requires-2 : goal.free-requires-2
free-requires-2 g c k lt = let none = c.self.invariant.4 in let count = c.close_with-closed.ensures.counts.1 in absurd (omega arith)

pub returns-in-Some-clause-all_known : goal.returns-in-Some-clause-all_known
returns-in-Some-clause-all_known g c all =
    let plan : Layout = g.J.Run.layout in
    let knows = subst (λ (p : Place). KnowsAll plan p.view) (sym c.seat.view_is) all in
    let pieces : c.len-pieces.result ≡ pieces_of plan = c.len-pieces.ensures ∙ ap length c.self.invariant.0 in
    let first = c.in-Some.ensures.some in
    let below = first.0 in
    absurd (first.1 (ended_flags _ (g.J.Run.values) _ c.seat.inside.seat.me.0 _ _ c.close_with-closed.ensures.values.2 c.seat.invariant.1 knows c.in-Some.piece (omega arith)))

pub returns-in-Some-clause-done : goal.returns-in-Some-clause-done
returns-in-Some-clause-done g c done =
    let plan : Layout = g.J.Run.layout in
    let is_done = subst (λ (p : Place). IsDone p.view) (sym c.seat.view_is) done in
    let ended = c.close_with-closed.ensures.values.2 in
    let knows = ended_done _ (g.J.Run.values) _ c.seat.inside.seat.me.0 _ _ ended c.seat.invariant.1 is_done in
    let pieces : c.len-pieces.result ≡ pieces_of plan = c.len-pieces.ensures ∙ ap length c.self.invariant.0 in
    let first = c.in-Some.ensures.some in
    let below = first.0 in
    absurd (first.1 (ended_flags _ (g.J.Run.values) _ c.seat.inside.seat.me.0 _ _ ended c.seat.invariant.1 knows c.in-Some.piece (omega arith)))

pub show-requires-clause-full : goal.show-requires-clause-full
show-requires-clause-full g c =
    let pieces : c.len-pieces.result ≡ pieces_of g.J.Run.layout = c.len-pieces.ensures ∙ ap length c.self.invariant.0 in
    (c.close_with-closed.ensures.values.0, c.close_with-closed.ensures.counts.0 ∙ c.self.invariant.2, ap (λ (n : ℕ). 1 + n) pieces)

pub show-requires-clause-fits : goal.show-requires-clause-fits
show-requires-clause-fits g c = ap length c.as_mut_slice.ensures.value ∙ c.self.invariant.3

pub show-requires-clause-set : goal.show-requires-clause-set
show-requires-clause-set g c =
    let plan : Layout = g.J.Run.layout in
    let pieces : c.len-pieces.result ≡ pieces_of plan = c.len-pieces.ensures ∙ ap length c.self.invariant.0 in
    let all : (j : ℕ) → j < pieces_of plan → slice_index (slots_items c.close_with-closed.result.words) (1 + j) ≡ 1 = subst (λ n. (j : ℕ) → j < n → slice_index (slots_items c.close_with-closed.result.words) (1 + j) ≡ 1) pieces c.in_default.ensures.none in
    ended_cells _ (g.J.Run.values) _ c.seat.inside.seat.me.0 _ _ c.close_with-closed.ensures.values.2 (parted plan c.self.invariant.1) all

pub returns-clause-picture : goal.returns-clause-picture
returns-clause-picture g c =
    let long : length c.show.new.samples ≡ length c.as_mut_slice.result.now = c.show.auto.samples in
    let room : length c.as_mut_slice.result.now ≡ c.self.inside.samples.len = c.as_mut_slice.ensures.len in
    let samples = take_at c.show.new.samples _ _ (long ∙ room) ∙ c.show.ensures in
    λ i. record { ty = (c.self.invariant.6 i).ty; extents = (c.self.invariant.6 i).extents; samples = samples i }
