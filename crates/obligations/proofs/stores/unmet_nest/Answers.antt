use Rattle.std.proofs.Common.{◌≡◌, Bool, Option, sym, ap, ◌∙◌, ◌^◌, ◌-◌, min, subst}
use Rattle.std.specs.Prelude.{IfOk}
use Rattle.soundness.specs.declared.outline.refusals.code.K.TheVariants.{K5}
use Rattle.soundness.specs.declared.outline.refusals.code.Flaw.{Flaw}
use Rattle.soundness.specs.Obligations.{serves}
use Rattle.soundness.specs.Outline.View.{outline_in}
use Rattle.obligations.specs.Asked.{unless}
use Rattle.obligations.specs.Loads.{known_in}
use Rattle.obligations.proofs.Asking.{nest_pure, nest_later}
use Rattle.obligations.proofs.Bound.{any_nests}
use Rattle.obligations.proofs.Unmet.{stops, goes}
use Rattle.obligations.proofs.stores.unmet_nest.Goals as goal

pub returns-then-reads-eq0 : goal.returns-then-reads-eq0
returns-then-reads-eq0 g c =
    let O = outline_in c.args.judge.now.outlined.now in
    let R = g.B.Bounds.rules c.args.judge.now.bounds.now in
    let N = g.T.NestTests.nests c.args.judge.now.tests.now in
    let P = c.args.judge.now.part in
    let r = c.args.reads.now in
    sym (nest_pure O R N P r.line (known_in r) r.buffer r.function.now c.args.places.now r.definition c.if-reads-eq0.true)

pub returns-in-Some : goal.returns-in-Some
returns-in-Some g c =
    let O = outline_in c.args.judge.now.outlined.now in
    let R = g.B.Bounds.rules c.args.judge.now.bounds.now in
    let N = g.T.NestTests.nests c.args.judge.now.tests.now in
    let P = c.args.judge.now.part in
    let r = c.args.reads.now in
    let served = c.is_served-begun.ensures ∙ sym (any_nests (serves O R r.buffer r.function.now r.definition) r.updating.now) in
    let told = c.in-Some.ensures ∙ ap (λ (b : Bool). unless P K5 (min r.line (2 ^ 32 - 1)) b) served in
    sym (nest_later O R N P r.line (known_in r) r.buffer r.function.now c.args.places.now r.definition c.if-reads-eq0.false ∙ stops _ _ c.in-Some.flaw (sym told))

pub returns : goal.returns
returns g c =
    let O = outline_in c.args.judge.now.outlined.now in
    let R = g.B.Bounds.rules c.args.judge.now.bounds.now in
    let N = g.T.NestTests.nests c.args.judge.now.tests.now in
    let P = c.args.judge.now.part in
    let r = c.args.reads.now in
    let served = c.is_served-begun.ensures ∙ sym (any_nests (serves O R r.buffer r.function.now r.definition) r.updating.now) in
    let told = c.in_default.ensures ∙ ap (λ (b : Bool). unless P K5 (min r.line (2 ^ 32 - 1)) b) served in
    let e = nest_later O R N P r.line (known_in r) r.buffer r.function.now c.args.places.now r.definition c.if-reads-eq0.false ∙ goes _ _ (sym told) in
    subst (λ (o : Option Flaw). IfOk c.unmet_claimed.result (λ flaw. flaw ≡ o)) (sym e) c.unmet_claimed.ensures
