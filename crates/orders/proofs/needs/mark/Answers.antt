use Rattle.std.proofs.Common.{◌≡◌, ◌<◌, ℕ, List, length, get_or, refl, arith, subst}
use Rattle.std.proofs.lemmas.List.Elements.{All-get_or}
use Rattle.orders.specs.Claimed.{AreMarked}
use Rattle.orders.proofs.Marking.{mark_start, mark_more, taken}
use Rattle.orders.proofs.needs.mark.Goals as goal

pub loop-needed-init : goal.loop-needed-init
loop-needed-init c = mark_start c.args.marks.now c.args.piece c.requires.before

pub loop-needed-preserved : goal.loop-needed-preserved
loop-needed-preserved c =
    let needs = c.args.needs.now in
    let place = c.loop-needed.needed-index in
    let below : get_or needs place 0 < length c.args.marks.now = All-get_or (λ n. n < length c.args.marks.now) needs place 0 c.loop-needed-test.true c.requires.within in
    mark_more c.loop-needed.marks needs place c.args.piece (get_or needs place 0) c.loop-needed-test.true refl (omega (arith, below, c.loop-needed.auto.marks)) c.loop-needed.invariant

pub returns-clause-marked : goal.returns-clause-marked
returns-clause-marked c =
    let end : c.loop-needed.needed-index ≡ length c.args.needs.now = omega (arith, c.loop-needed-test.false, c.loop-needed.auto.needed-index-end) in
    let P : List ℕ → Type 0 = λ xs. AreMarked c.loop-needed.marks xs c.args.piece in
    subst P (taken c.args.needs.now c.loop-needed.needed-index end) c.loop-needed.invariant.1
