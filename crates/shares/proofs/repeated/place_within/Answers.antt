use Rattle.std.proofs.Common.{◌∙◌, Option, Some, ap, sym, subst, Bor}
use Rattle.std.specs.Prelude.{MatchOption}
use Rattle.plan.specs.declared.certificate.cert.Need.{Need}
use Rattle.shares.specs.Repeated.{LiesIn}
use Rattle.shares.proofs.Groups.{get_some}
use Rattle.shares.proofs.repeated.place_within.Goals as goal

pub returns-then-lies_in : goal.returns-then-lies_in
returns-then-lies_in c =
    let ls = c.args.lines.now in
    let k = c.loop-place.place in
    let b : Bor Need = c.index-lines-place.result in
    let Lies : Option (Bor Need) → Type 0 = λ o. MatchOption o ⊥ (λ n. LiesIn n.now c.args.need.now) in
    subst Lies (sym (get_some ls k b c.loop-place-test.true ∙ ap (λ (x : Bor Need). Some x) (sym c.index-lines-place.is))) (c.lies_in.ensures c.if-lies_in.true)
