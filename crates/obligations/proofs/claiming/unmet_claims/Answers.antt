use Rattle.std.proofs.Common.{[], get_or, refl, sym, ◌∙◌}
use Rattle.std.specs.Prelude.{flat_map}
use Rattle.std.proofs.lemmas.List.{get_or_default}
use Rattle.plan.specs.View.{statement_of}
use Rattle.soundness.specs.Obligations.{claim_obligations}
use Rattle.obligations.specs.Context.Around.{known_of, windows_of}
use Rattle.soundness.specs.Outline.View.{outline_in}
use Rattle.obligations.proofs.Unmet.{loop_stops, loop_goes, loop_ends}
use Rattle.obligations.proofs.claiming.unmet_claims.Goals as goal

pub returns-in-Some : goal.returns-in-Some
returns-in-Some g c =
    let O = outline_in c.args.judge.now.outlined.now in
    let R = g.B.Bounds.rules c.args.judge.now.bounds.now in
    let N = g.T.NestTests.nests c.args.judge.now.tests.now in
    let P = c.args.judge.now.part in
    let i = c.loop-claim.claim-index in
    let all = c.args.next.now in
    let x = get_or all i 0 in
    loop_stops R N P (flat_map (claim_obligations O R (windows_of c.args.kept.now) c.args.begin c.args.last (known_of c.args.known.now []) (statement_of c.args.stmt.now))) (claim_obligations O R (windows_of c.args.kept.now) c.args.begin c.args.last (known_of c.args.known.now []) (statement_of c.args.stmt.now)) (λ y ys. refl) all i x c.in-Some.flaw c.loop-claim-test.true (get_or_default all i 0 (get_or all i 0) c.loop-claim-test.true) c.loop-claim.invariant (sym c.in-Some.is ∙ c.in_ok-flaw.ensures)

pub loop-claim-preserved : goal.loop-claim-preserved
loop-claim-preserved g c =
    let O = outline_in c.args.judge.now.outlined.now in
    let R = g.B.Bounds.rules c.args.judge.now.bounds.now in
    let N = g.T.NestTests.nests c.args.judge.now.tests.now in
    let P = c.args.judge.now.part in
    let i = c.loop-claim.claim-index in
    let all = c.args.next.now in
    let x = get_or all i 0 in
    loop_goes R N P (flat_map (claim_obligations O R (windows_of c.args.kept.now) c.args.begin c.args.last (known_of c.args.known.now []) (statement_of c.args.stmt.now))) (claim_obligations O R (windows_of c.args.kept.now) c.args.begin c.args.last (known_of c.args.known.now []) (statement_of c.args.stmt.now)) (λ y ys. refl) all i x c.loop-claim-test.true (get_or_default all i 0 (get_or all i 0) c.loop-claim-test.true) c.loop-claim.invariant (sym c.in_default.is ∙ c.in_ok-flaw.ensures)

pub returns : goal.returns
returns g c =
    let O = outline_in c.args.judge.now.outlined.now in
    let R = g.B.Bounds.rules c.args.judge.now.bounds.now in
    let N = g.T.NestTests.nests c.args.judge.now.tests.now in
    let P = c.args.judge.now.part in
    let i = c.loop-claim.claim-index in
    let all = c.args.next.now in
    loop_ends R N P (flat_map (claim_obligations O R (windows_of c.args.kept.now) c.args.begin c.args.last (known_of c.args.known.now []) (statement_of c.args.stmt.now))) (claim_obligations O R (windows_of c.args.kept.now) c.args.begin c.args.last (known_of c.args.known.now []) (statement_of c.args.stmt.now)) (λ y ys. refl) all i refl c.loop-claim-test.false c.loop-claim.invariant
