use Rattle.std.proofs.Common.{◌≡◌, ℕ, ◌+◌, ◌-◌, ◌≤◌, List, take, drop, length, arith, subst, sym}
use Rattle.std.specs.Prelude.{All}
use Rattle.std.proofs.lemmas.List.{take_all, take_rest, length-drop}
use Rattle.orders.specs.Lists.{own_lists}
use Rattle.shares.specs.Served.{IsOwnOf}
use Rattle.shares.proofs.Finding.{found_more}
use Rattle.shares.proofs.found.are_found.Goals as goal

pub loop-found-preserved : goal.loop-found-preserved
loop-found-preserved c =
    let P : ℕ → Type 0 = IsOwnOf (own_lists c.args.pieces.now) c.args.needs.now in
    let cells = c.args.cells.now in
    let found = c.loop-found.found in
    let rest : length (take (length cells - found) (drop found cells)) ≡ length cells - found = subst (λ (xs : List ℕ). length xs ≡ length cells - found) (sym (take_rest cells found)) (length-drop found cells) in
    (omega (arith, rest, c.first_run-count.ensures.within, c.loop-found.invariant.0), found_more P cells found c.first_run-count.result c.loop-found.invariant.1 c.first_run-count.ensures.own)

pub returns : goal.returns
returns c t =
    let P : ℕ → Type 0 = IsOwnOf (own_lists c.args.pieces.now) c.args.needs.now in
    let end : length c.args.cells.now ≤ c.loop-found.found = c.loop-found-test.false in
    subst (All P) (take_all c.loop-found.found c.args.cells.now end) c.loop-found.invariant.1
