use Rattle.std.proofs.Common.{◌∙◌, ℕ, List, Option, Some, ap, sym, subst, Bor}
use Rattle.std.specs.Prelude.{MatchOption}
use Rattle.plan.specs.declared.certificate.cert.Need.{Need}
use Rattle.shares.specs.Corners.{IsBetween}
use Rattle.shares.specs.Outer.{LiesAt}
use Rattle.shares.proofs.Blocking.{lent_limited}
use Rattle.shares.proofs.Groups.{get_some}
use Rattle.shares.proofs.outer.place_within.Goals as goal

pub lies_in-requires-clause-inner : goal.lies_in-requires-clause-inner
lies_in-requires-clause-inner c = lent_limited c.args.lines.now c.loop-place.place c.index-lines-place.result c.loop-place-test.true c.index-lines-place.is c.requires.lines

pub returns-then-lies_in : goal.returns-then-lies_in
returns-then-lies_in c =
    let ls = c.args.lines.now in
    let k = c.loop-place.place in
    let b : Bor Need = c.index-lines-place.result in
    let Lies : Option (Bor Need) → Type 0 = λ o. MatchOption o ⊥ (λ n. (at : List ℕ) → IsBetween c.args.low.now c.args.high.now at → LiesAt at n.now c.args.need.now) in
    subst Lies (sym (get_some ls k b c.loop-place-test.true ∙ ap (λ (x : Bor Need). Some x) (sym c.index-lines-place.is))) (c.lies_in.ensures c.if-lies_in.true)
