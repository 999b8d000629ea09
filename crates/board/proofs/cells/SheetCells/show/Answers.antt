use Rattle.std.proofs.Common.{◌≡◌, ◌<◌, ◌∙◌, ℕ, List, [], length, ap, sym, subst, arith}
use Rattle.std.specs.Prelude.{Contains, slice_index, slice_index_or}
use Rattle.std.proofs.lemmas.Bool.{OnTrue_at, OnTrue_from}
use Rattle.std.proofs.lemmas.List.Elements.{Contains-get_or}
use Rattle.board.specs.Layout.{Layout, own_of}
use Rattle.board.specs.Seen.{IsShown, Seen, StaysShown}
use Rattle.board.specs.Sheets.{bits_at}
use Rattle.board.proofs.InParts.{all_shown}
use Rattle.board.proofs.cells.SheetCells.show.Goals as goal

pub show_in-requires-clause-values : goal.show_in-requires-clause-values
show_in-requires-clause-values g c =
    let own : c.get-cells.result.now ≡ own_of g.J.Run.layout c.args.piece = c.get-cells.ensures ∙ ap (λ (l : List (List ℕ)). slice_index_or l c.args.piece []) c.self.invariant.0 in
    c.requires.bits ∙ ap (bits_at g.J.Run.values) (sym own)

pub show_in-requires-clause-inside : goal.show_in-requires-clause-inside
show_in-requires-clause-inside g c k lt =
    let plan : Layout = g.J.Run.layout in
    let own : c.get-cells.result.now ≡ own_of plan c.args.piece = c.get-cells.ensures ∙ ap (λ (l : List (List ℕ)). slice_index_or l c.args.piece []) c.self.invariant.0 in
    let cell : ℕ = slice_index c.get-cells.result.now k in
    let in_it : Contains (own_of plan c.args.piece) cell = subst (λ (xs : List ℕ). Contains xs cell) own (Contains-get_or c.get-cells.result.now k 0 lt) in
    let below : cell < plan.cells = c.self.invariant.1.parted.0 c.args.piece cell c.requires.piece in_it in
    omega (arith, below, c.self.invariant.2)

pub show_in-requires-clause-short : goal.show_in-requires-clause-short
show_in-requires-clause-short g c = let most = c.self.invariant.1.few_cells in (omega (arith, most, c.self.invariant.2), c.requires.short)

pub returns-clause-shown : goal.returns-clause-shown
returns-clause-shown g c = OnTrue_from c.show_in.result (IsShown g.J.Run.layout g.J.Run.values c.args.self.now c.args.from c.show_in.new.part c.args.piece) (λ yes.
    let plan : Layout = g.J.Run.layout in
    let inner = c.self.inside in
    let own : c.get-cells.result.now ≡ own_of plan c.args.piece = c.get-cells.ensures ∙ ap (λ (l : List (List ℕ)). slice_index_or l c.args.piece []) c.self.invariant.0 in
    let each = OnTrue_at yes c.show_in.ensures.shown in
    subst (λ (s : Seen). IsShown plan g.J.Run.values s c.args.from c.show_in.new.part c.args.piece) c.self.view_is
    (all_shown plan g.J.Run.values (record { planes = inner.planes; bits = inner.bits.now; samples = inner.samples.now }) c.args.from c.show_in.new.part c.args.piece c.get-cells.result.now own each))

pub returns-clause-more : goal.returns-clause-more
returns-clause-more g c =
    subst (λ (s : Seen). StaysShown s.planes (length s.bits) g.J.Run.values c.args.from c.args.part.now c.show_in.new.part) c.self.view_is c.show_in.ensures.more
