use Rattle.std.proofs.Common.{◌≡◌, ◌<◌, ◌∙◌, ℕ, zero, suc, [], length, arith, refl, sym, ap, subst}
use Rattle.std.specs.Prelude.{Contains}
use Rattle.std.proofs.lemmas.Bool.{false≢true}
use Rattle.std.proofs.Props.{props}
use Rattle.std.proofs.Math.Logic.{∥∥₁_elim}
use Rattle.std.proofs.lemmas.List.Elements.{Contains-get_or}
use Rattle.board.specs.Layout.{Layout, own_of, pieces_of}
use Rattle.crew.specs.Opening.Layouts.{layout_of}
use Rattle.acceptance_gates.proofs.seat_tests.seen_by.Goals as goal

some : (n : ℕ) → (n ≡ 0 → ⊥) → 0 < n
some zero none = absurd (none refl)
some (suc n) none = omega arith

pub own-cells-requires : goal.own-cells-requires
own-cells-requires g c =
    let x = c.args.checked.now in
    let j : ℕ = c.in_ok-ticket.ticket.piece in
    let below : j < pieces_of (layout_of x) = subst (λ (l : Layout). j < pieces_of l) c.requires.layout c.in_ok-ticket.ensures.ticket.0 in
    ∥∥₁_elim x.lists (search props) (λ lists.
    subst (λ n. n < length x.pieces.items) (sym c.piece-piece.ensures) (subst (λ n. j < n) ((c.own_is_of_work.ensures x []).pieces ∙ sym (lists []).count) below))

pub look-requires-clause-cell : goal.look-requires-clause-cell
look-requires-clause-cell g c =
    let x = c.args.checked.now in
    let j : ℕ = c.piece-piece.result in
    let own : c.own-cells.result.now ≡ own_of g.J.Run.layout j = c.own-cells.ensures [] ∙ sym ((c.own_is_of_work.ensures x []).own j) ∙ ap (λ (l : Layout). own_of l j) (sym c.requires.layout) in
    let there = Contains-get_or c.own-cells.result.now 0 0 (some (length c.own-cells.result.now) (λ e. false≢true (c.if-is_empty.ensures.1 e))) in
    (j, c.comes_to_know.ensures.known c.if-not-comes_to_know.false, subst (λ xs. Contains xs c.cell.result) own (subst (Contains c.own-cells.result.now) (sym c.cell.ensures) there))
