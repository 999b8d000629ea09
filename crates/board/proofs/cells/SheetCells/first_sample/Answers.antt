use Rattle.std.proofs.Common.{◌≡◌, ◌<◌, ◌∙◌, ℕ, List, [], inl, inr, length, ap, subst, sym, arith, true≢false}
use Rattle.std.specs.Prelude.{Contains, slice_index, slice_index_or}
use Rattle.std.proofs.lemmas.Bool.{cases_lt}
use Rattle.std.proofs.lemmas.List.Elements.{Contains-get_or}
use Rattle.board.specs.Layout.{Layout, own_of}
use Rattle.board.specs.Seen.{place_of_cell, Seen}
use Rattle.board.proofs.cells.SheetCells.first_sample.Goals as goal

pub sample_place-requires-clause-inside : goal.sample_place-requires-clause-inside
sample_place-requires-clause-inside g c =
    let plan : Layout = g.J.Run.layout in
    let xs : List ℕ = c.get-cells.result.now in
    let own : xs ≡ own_of plan c.args.piece = c.get-cells.ensures ∙ ap (λ (l : List (List ℕ)). slice_index_or l c.args.piece []) c.self.invariant.0 in
    let some : 0 < length xs = elim (cases_lt 0 (length xs)) [
      | inl lt ↦ lt
      | inr past ↦ absurd (true≢false (sym (c.if-is_empty.ensures.1 (omega (arith, past)))))
    ] in
    let in_it : Contains (own_of plan c.args.piece) (slice_index xs 0) = subst (λ (ys : List ℕ). Contains ys (slice_index xs 0)) own (Contains-get_or xs 0 0 some) in
    let below : slice_index xs 0 < plan.cells = c.self.invariant.1.parted.0 c.args.piece (slice_index xs 0) c.requires in_it in
    omega (arith, below, c.cell-cell.ensures, c.if-cell-self.false, c.self.invariant.2)

pub sample_place-requires-clause-few : goal.sample_place-requires-clause-few
sample_place-requires-clause-few g c = let most = c.self.invariant.1.few_cells in omega (arith, most, c.self.invariant.2)

pub returns : goal.returns
returns g c =
    let own : c.get-cells.result.now ≡ own_of g.J.Run.layout c.args.piece = c.get-cells.ensures ∙ ap (λ (l : List (List ℕ)). slice_index_or l c.args.piece []) c.self.invariant.0 in
    let s : Seen = c.args.self.now in
    c.sample_place.ensures ∙ ap (λ (t : Seen). place_of_cell t.planes (length t.bits) c.cell-cell.result) c.self.view_is
    ∙ ap (λ (n : ℕ). place_of_cell s.planes (length s.bits) n) (c.cell-cell.ensures ∙ ap (λ (ys : List ℕ). slice_index ys 0) own)
