use Rattle.std.proofs.Common.{ℕ, [], ◌∷◌, get_or, refl, sym, ◌∙◌}
use Rattle.std.proofs.lemmas.List.{get_or_default}
use Rattle.obligations.specs.Around.{asked_by_claims}
use Rattle.obligations.proofs.Asking.{claims_step}
use Rattle.soundness.specs.Outline.View.{outline_in}
use Rattle.obligations.proofs.Unmet.{loop_stops, loop_goes, loop_ends}
use Rattle.obligations.proofs.claiming.unmet_regions.Goals as goal

pub returns-in-Some : goal.returns-in-Some
returns-in-Some g c =
    let O = outline_in c.args.judge.now.outlined.now in
    let R = g.B.Bounds.rules c.args.judge.now.bounds.now in
    let N = g.T.NestTests.nests c.args.judge.now.tests.now in
    let P = c.args.judge.now.part in
    let k = c.args.known.now in
    let n = c.args.claim in
    let i = c.loop-before.before-index in
    let all = c.args.own.now in
    let x = get_or all i 0 in
    loop_stops R N P (asked_by_claims O R k n) (λ (d : ℕ). asked_by_claims O R k n (d ∷ [])) (claims_step O R k n) all i x c.in-Some.flaw c.loop-before-test.true (get_or_default all i 0 (get_or all i 0) c.loop-before-test.true) c.loop-before.invariant (sym c.in-Some.is ∙ c.in_ok-flaw.ensures)

pub loop-before-preserved : goal.loop-before-preserved
loop-before-preserved g c =
    let O = outline_in c.args.judge.now.outlined.now in
    let R = g.B.Bounds.rules c.args.judge.now.bounds.now in
    let N = g.T.NestTests.nests c.args.judge.now.tests.now in
    let P = c.args.judge.now.part in
    let k = c.args.known.now in
    let n = c.args.claim in
    let i = c.loop-before.before-index in
    let all = c.args.own.now in
    let x = get_or all i 0 in
    loop_goes R N P (asked_by_claims O R k n) (λ (d : ℕ). asked_by_claims O R k n (d ∷ [])) (claims_step O R k n) all i x c.loop-before-test.true (get_or_default all i 0 (get_or all i 0) c.loop-before-test.true) c.loop-before.invariant (sym c.in_default.is ∙ c.in_ok-flaw.ensures)

pub returns : goal.returns
returns g c =
    let O = outline_in c.args.judge.now.outlined.now in
    let R = g.B.Bounds.rules c.args.judge.now.bounds.now in
    let N = g.T.NestTests.nests c.args.judge.now.tests.now in
    let P = c.args.judge.now.part in
    let k = c.args.known.now in
    let n = c.args.claim in
    let i = c.loop-before.before-index in
    let all = c.args.own.now in
    loop_ends R N P (asked_by_claims O R k n) (λ (d : ℕ). asked_by_claims O R k n (d ∷ [])) (claims_step O R k n) all i refl c.loop-before-test.false c.loop-before.invariant
