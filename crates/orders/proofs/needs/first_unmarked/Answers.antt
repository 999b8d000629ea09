use Rattle.std.proofs.Common.{◌≡◌, ℕ, length, arith, subst, refl}
use Rattle.std.proofs.lemmas.Bool.{false≢true}
use Rattle.orders.specs.Work.{NeedsServe}
use Rattle.orders.specs.Lists.{own_lists, fetched_lists, needs_lists}
use Rattle.orders.proofs.needs.first_unmarked.Goals as goal

pub loop-piece-preserved : goal.loop-piece-preserved
loop-piece-preserved c = (c.if-not-is_served.ensures.answer.0 refl, c.if-not-is_served.ensures.before)

pub returns-then-not-is_served : goal.returns-then-not-is_served
returns-then-not-is_served c = (c.loop-piece-test.true, c.loop-piece.invariant.0, (λ served. false≢true (c.if-not-is_served.ensures.answer.1 served)))

pub returns : goal.returns
returns c =
    let pieces = c.args.pieces.now in
    let P : ℕ → Type 0 = λ n. NeedsServe n (own_lists pieces) (fetched_lists pieces) (needs_lists pieces) in
    let end : c.loop-piece.piece ≡ length pieces = omega (arith, c.loop-piece-test.false, c.loop-piece.auto.piece-end) in
    subst P end c.loop-piece.invariant.0
