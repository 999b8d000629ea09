use Rattle.std.proofs.Common.{ℕ, ◌+◌, ◌/◌, ◌%◌, ◌<◌, ◌≤◌, List, [], ◌∷◌, ◌++◌, get_or, drop, arith, ap, sym, ◌∙◌, subst, append_assoc}
use Rattle.std.specs.Prelude.{All}
use Rattle.std.proofs.lemmas.List.{append-nil}
use Rattle.std.proofs.lemmas.List.Elements.{All-push}
use Rattle.std.proofs.Math.Nat.{div-le_self, mod-le}
use Rattle.plan.specs.Certificate.Cells.{grid_point, piece_count}
use Rattle.shares.proofs.Grids.{point_more, count_more, some_left, div_left, point_end}
use Rattle.shares.proofs.seats.grid_point.Goals as goal

pub nonzero_rem-rest : goal.nonzero_rem-rest
nonzero_rem-rest c =
    let grid = c.args.grid.now in let i = c.loop-count.count-index in let rest = c.loop-count.rest in
    let less = subst (λ (n : ℕ). rest < n) (count_more grid i 0 c.loop-count-test.true) c.loop-count.invariant.below in
    some_left (get_or grid i 0) (piece_count (drop (i + 1) grid)) rest less

pub loop-count-preserved : goal.loop-count-preserved
loop-count-preserved c =
    let grid = c.args.grid.now in let i = c.loop-count.count-index in let rest = c.loop-count.rest in
    let at = c.loop-count.at.items in
    let m = get_or grid i 0 in
    let less = subst (λ (n : ℕ). rest < n) (count_more grid i 0 c.loop-count-test.true) c.loop-count.invariant.below in
    let later = grid_point (drop (i + 1) grid) (rest / m) in
    let Small : List ℕ → Type 0 = λ xs. All (λ x. x ≤ c.args.number) xs in
    let most : rest ≤ c.args.number = c.loop-count.invariant.less in
    let low : rest % m ≤ c.args.number = omega (arith, mod-le rest m, most) in
    let left : rest / m ≤ c.args.number = omega (arith, div-le_self rest m, most) in
    record {
      point = c.loop-count.invariant.point ∙ ap (λ (xs : List ℕ). at ++ xs) (point_more grid i 0 rest c.loop-count-test.true)
          ∙ sym (append_assoc at ((rest % m) ∷ []) later) ∙ ap (λ (xs : List ℕ). xs ++ later) (sym c.in_ok-push.ensures.items);
      below = div_left m (piece_count (drop (i + 1) grid)) rest less;
      small = subst Small (sym c.in_ok-push.ensures.items) (All-push (λ x. x ≤ c.args.number) at (rest % m) c.loop-count.invariant.small low);
      less = left;
    }

pub returns-clause-point : goal.returns-clause-point
returns-clause-point c =
    let grid = c.args.grid.now in let i = c.loop-count.count-index in let rest = c.loop-count.rest in
    let at = c.loop-count.at.items in
    sym (c.loop-count.invariant.point ∙ ap (λ (xs : List ℕ). at ++ xs) (point_end grid i rest c.loop-count-test.false) ∙ append-nil at)
