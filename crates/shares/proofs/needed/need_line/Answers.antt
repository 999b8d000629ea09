use Rattle.std.proofs.Common.{◌≡◌, ◌∙◌, ◌+◌, ◌++◌, [], ℕ, List, map, sym, ap, subst, arith}
use Rattle.std.specs.Prelude.{All, IsTrue, OnOk, ℤ}
use Rattle.std.proofs.lemmas.List.{append-nil}
use Rattle.plan.specs.Plan.{Plan}
use Rattle.plan.specs.Symbols.{points}
use Rattle.plan.specs.View.{plan_of}
use Rattle.plan.specs.declared.certificate.cert.Need.{Need}
use Rattle.plan.specs.Certificate.Cells.{Piece, first_piece, grid_symbols}
use Rattle.lin.specs.declared.span.Span1.{Span1}
use Rattle.shares.specs.Boxes.{IsLimited, IsSmall, is_in_box, rank}
use Rattle.shares.specs.Corners.{IsBetween}
use Rattle.shares.specs.Needed.{need_grid, need_points, need_numbers}
use Rattle.shares.specs.Seats.{piece_of}
use Rattle.shares.proofs.Blocking.{shared_limited}
use Rattle.shares.proofs.Needing.{numbers_some}
use Rattle.shares.proofs.needed.need_line.Goals as goal

no_points : (at xs : List ℕ) (ys zs : List Span1) → xs ≡ at → ys ≡ zs → ((bs : List ℕ) → IsBetween xs xs bs → points (grid_symbols bs) ys ≡ []) → points (grid_symbols at) zs ≡ []
no_points at xs ys zs e f h =
    let same : IsBetween xs xs xs = λ i. (omega arith, omega arith) in
    (λ t. points (grid_symbols (sym e t)) (sym f t)) ∙ h xs same

pub may_have_point-requires-clause-limits : goal.may_have_point-requires-clause-limits
may_have_point-requires-clause-limits c = subst IsLimited (sym c.as_slice.ensures) (shared_limited (plan_of c.args.layout.now.plan.now) c.args.need.now c.requires.need)

pub may_have_point-requires-clause-low : goal.may_have_point-requires-clause-low
may_have_point-requires-clause-low c = subst IsSmall (sym c.as_slice-at.ensures.value) c.requires.at

pub may_have_point-requires-clause-high : goal.may_have_point-requires-clause-high
may_have_point-requires-clause-high c = subst IsSmall (sym c.as_slice-at.ensures.value) c.requires.at

pub returns-then-not-may_have_point-clause-numbers : goal.returns-then-not-may_have_point-clause-numbers
returns-then-not-may_have_point-clause-numbers c =
    let p : Plan = plan_of c.args.layout.now.plan.now in
    let j : Piece = piece_of c.args.seat.now in
    let n : Need = c.args.need.now in
    let old = c.args.needed.now.items in
    let none : need_points j n ≡ [] = no_points j.at c.as_slice-at.result.now c.as_slice.result.now n.region c.as_slice-at.ensures.value c.as_slice.ensures (c.may_have_point.ensures c.if-not-may_have_point.true) in
    let empty : need_numbers p j n ≡ [] = sym (numbers_some p j n c.requires.group) ∙ ap (map (λ q. first_piece p.groups n.needed + rank (need_grid p n) q)) none in
    c.in_ok-row_line.ensures.kept c.if-branch.false ∙ sym (append-nil old) ∙ ap (λ (ns : List ℕ). old ++ ns) (sym empty)

pub returns-then-not-may_have_point-clause-known : goal.returns-then-not-may_have_point-clause-known
returns-then-not-may_have_point-clause-known c _ =
    let p : Plan = plan_of c.args.layout.now.plan.now in
    let j : Piece = piece_of c.args.seat.now in
    let n : Need = c.args.need.now in
    let none : need_points j n ≡ [] = no_points j.at c.as_slice-at.result.now c.as_slice.result.now n.region c.as_slice-at.ensures.value c.as_slice.ensures (c.may_have_point.ensures c.if-not-may_have_point.true) in
    subst (λ (qs : List (List ℤ)). All (λ q. IsTrue (is_in_box (need_grid p n) q)) qs) (sym none) (λ k d less. absurd (omega (arith, less)))

pub returns-clause-numbers : goal.returns-clause-numbers
returns-clause-numbers c =
    let p : Plan = plan_of c.args.layout.now.plan.now in
    let kept = c.in_ok-row_line.ensures.kept c.if-branch.false in
    subst (λ (ms : List ℕ). OnOk c.found_line.result (c.found_line.new.needed.items ≡ ms ++ need_numbers p (piece_of c.args.seat.now) c.args.need.now)) kept c.found_line.ensures.numbers

pub returns-clause-kept : goal.returns-clause-kept
returns-clause-kept c e = c.found_line.ensures.kept e ∙ c.in_ok-row_line.ensures.kept c.if-branch.false
