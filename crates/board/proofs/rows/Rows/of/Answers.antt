use Rattle.std.proofs.Common.{◌≡◌, ◌<◌, ◌∙◌, ℕ, List, [], ◌∷◌, ◌++◌, length, map, take, arith, sym, ap}
use Rattle.std.proofs.lemmas.Grind.{common_steps}
use Rattle.std.proofs.lemmas.List.{take_more, map-append}
use Rattle.board.specs.Layout.{own_of}
use Rattle.board.proofs.rows.Rows.of.Goals as goal

pub loop-piece-preserved : goal.loop-piece-preserved
loop-piece-preserved g c =
    let plan = g.S.Source.layout c.args.source.now in
    let i : ℕ = c.loop-piece.piece in
    let new = c.own.result in
    let same : new.now ≡ own_of plan i = c.own.ensures in
    let in_range : i < length plan.own = omega (arith, c.loop-piece-test.true, c.pieces-pieces.ensures.count) in
    ap (map (λ v. v.now)) c.in_ok-push.ensures.items ∙ map-append (λ v. v.now) c.loop-piece.rows.items (new ∷ [])
    ∙ (λ k. c.loop-piece.invariant k ++ same k ∷ []) ∙ sym (take_more plan.own i [] in_range)

whole : (xs : List (List ℕ)) (n : ℕ) → n ≡ length xs → take n xs ≡ xs
whole xs n e = grind (arith, common_steps)

pub returns : goal.returns
returns g c =
    let plan = g.S.Source.layout c.args.source.now in
    let end : c.loop-piece.piece ≡ length plan.own = omega (arith, c.loop-piece-test.false, c.loop-piece.auto.piece-end, c.pieces-pieces.ensures.count) in
    c.loop-piece.invariant ∙ whole plan.own c.loop-piece.piece end
