use Rattle.std.proofs.Common.{sym, subst}
use Rattle.algo.specs.View.{algorithm_of}
use Rattle.plan.specs.View.{plan_of}
use Rattle.plan.specs.Certificate.Certificate.{certificate_of}
use Rattle.soundness.specs.declared.outline.refusals.code.Flaw.{Flaw}
use Rattle.audit.specs.Refused.{IsEarlyFetch}
use Rattle.audit.specs.Stand.{IsFlaw}
use Rattle.audit.proofs.Told.{fetch_told, lesser_told}
use Rattle.audit.proofs.answer.told_beside_fetches.Goals as goal

pub returns-in-Ok-Some-clause-told : goal.returns-in-Ok-Some-clause-told
returns-in-Ok-Some-clause-told c =
    let a = algorithm_of c.args.algo.now in
    let p = plan_of c.args.plan.now in
    let d = certificate_of c.args.cert.now in
    let IsRight : Flaw → Type 0 = λ f. IsFlaw a p d f in
    let early = c.in-Ok-Some.early in
    let found : IsEarlyFetch p c.args.broken.line early = rw c.in-Ok-Some.field-0-is at c.in-Ok-Some.ensures in
    subst IsRight (sym c.lesser.ensures) (lesser_told IsRight c.args.flaw early c.requires.flaw (fetch_told a p d c.args.broken early c.requires.broken found))
