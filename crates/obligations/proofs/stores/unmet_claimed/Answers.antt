use Rattle.std.proofs.Common.{[], ◌∷◌, get_or, refl, sym, ◌∙◌}
use Rattle.std.proofs.lemmas.List.{get_or_default}
use Rattle.obligations.specs.declared.context.known.Nest.{Nest}
use Rattle.obligations.specs.Loads.{asked_by_nests}
use Rattle.obligations.proofs.Asking.{nests_step}
use Rattle.soundness.specs.Outline.View.{outline_in}
use Rattle.obligations.proofs.Unmet.{loop_stops, loop_goes, loop_ends}
use Rattle.obligations.proofs.stores.unmet_claimed.Goals as goal

pub returns-in-Some : goal.returns-in-Some
returns-in-Some g c =
    let O = outline_in c.args.judge.now.outlined.now in
    let R = g.B.Bounds.rules c.args.judge.now.bounds.now in
    let N = g.T.NestTests.nests c.args.judge.now.tests.now in
    let P = c.args.judge.now.part in
    let r = c.args.reads.now in
    let places = c.args.places.now in
    let i = c.loop-nest.nest-index in
    let all = r.updating.now in
    let x = get_or all i (record { before = 0; next = 0 }) in
    loop_stops R N P (asked_by_nests O R r places) (λ (u : Nest). asked_by_nests O R r places (u ∷ [])) (nests_step O R r places) all i x c.in-Some.flaw c.loop-nest-test.true (get_or_default all i (record { before = 0; next = 0 }) (get_or all i (record { before = 0; next = 0 })) c.loop-nest-test.true) c.loop-nest.invariant (sym c.in-Some.is ∙ c.in_ok-flaw.ensures)

pub loop-nest-preserved : goal.loop-nest-preserved
loop-nest-preserved g c =
    let O = outline_in c.args.judge.now.outlined.now in
    let R = g.B.Bounds.rules c.args.judge.now.bounds.now in
    let N = g.T.NestTests.nests c.args.judge.now.tests.now in
    let P = c.args.judge.now.part in
    let r = c.args.reads.now in
    let places = c.args.places.now in
    let i = c.loop-nest.nest-index in
    let all = r.updating.now in
    let x = get_or all i (record { before = 0; next = 0 }) in
    loop_goes R N P (asked_by_nests O R r places) (λ (u : Nest). asked_by_nests O R r places (u ∷ [])) (nests_step O R r places) all i x c.loop-nest-test.true (get_or_default all i (record { before = 0; next = 0 }) (get_or all i (record { before = 0; next = 0 })) c.loop-nest-test.true) c.loop-nest.invariant (sym c.in_default.is ∙ c.in_ok-flaw.ensures)

pub returns : goal.returns
returns g c =
    let O = outline_in c.args.judge.now.outlined.now in
    let R = g.B.Bounds.rules c.args.judge.now.bounds.now in
    let N = g.T.NestTests.nests c.args.judge.now.tests.now in
    let P = c.args.judge.now.part in
    let r = c.args.reads.now in
    let places = c.args.places.now in
    let i = c.loop-nest.nest-index in
    let all = r.updating.now in
    loop_ends R N P (asked_by_nests O R r places) (λ (u : Nest). asked_by_nests O R r places (u ∷ [])) (nests_step O R r places) all i refl c.loop-nest-test.false c.loop-nest.invariant
