use Rattle.std.proofs.Common.{List, refl, sym, ◌∙◌}
use Rattle.std.specs.Prelude.{flat_map}
use Rattle.plan.specs.declared.stmt.Coordinate.{Coordinate}
use Rattle.plan.specs.View.{coordinate_of}
use Rattle.soundness.specs.Obligations.{coordinate_loads}
use Rattle.obligations.specs.Loads.{coordinates_of, known_in, may_in, meets_in, names_in}
use Rattle.soundness.specs.Outline.View.{outline_in}
use Rattle.obligations.proofs.Unmet.{loop_stops, loop_goes, loop_ends}
use Rattle.obligations.proofs.stores.unmet_targets.Goals as goal

pub returns-in-Some : goal.returns-in-Some
returns-in-Some g c =
    let O = outline_in c.args.judge.now.outlined.now in
    let R = g.B.Bounds.rules c.args.judge.now.bounds.now in
    let N = g.T.NestTests.nests c.args.judge.now.tests.now in
    let P = c.args.judge.now.part in
    let r = c.args.reads.now in
    let i = c.loop-coordinate.coordinate-index in
    let all = r.at.now in
    let x = c.coordinate-item.result in
    loop_stops R N P (λ (cs : List Coordinate). flat_map (coordinate_loads O R r.line (known_in r) (may_in O R r) (meets_in O R r) (names_in r) c.args.left.now) (coordinates_of cs)) (λ (y : Coordinate). coordinate_loads O R r.line (known_in r) (may_in O R r) (meets_in O R r) (names_in r) c.args.left.now (coordinate_of y)) (λ y ys. refl) all i x c.in-Some.flaw c.loop-coordinate-test.true c.coordinate-item.is c.loop-coordinate.invariant (sym c.in-Some.is ∙ c.in_ok-flaw.ensures)

pub loop-coordinate-preserved : goal.loop-coordinate-preserved
loop-coordinate-preserved g c =
    let O = outline_in c.args.judge.now.outlined.now in
    let R = g.B.Bounds.rules c.args.judge.now.bounds.now in
    let N = g.T.NestTests.nests c.args.judge.now.tests.now in
    let P = c.args.judge.now.part in
    let r = c.args.reads.now in
    let i = c.loop-coordinate.coordinate-index in
    let all = r.at.now in
    let x = c.coordinate-item.result in
    loop_goes R N P (λ (cs : List Coordinate). flat_map (coordinate_loads O R r.line (known_in r) (may_in O R r) (meets_in O R r) (names_in r) c.args.left.now) (coordinates_of cs)) (λ (y : Coordinate). coordinate_loads O R r.line (known_in r) (may_in O R r) (meets_in O R r) (names_in r) c.args.left.now (coordinate_of y)) (λ y ys. refl) all i x c.loop-coordinate-test.true c.coordinate-item.is c.loop-coordinate.invariant (sym c.in_default.is ∙ c.in_ok-flaw.ensures)

pub returns : goal.returns
returns g c =
    let O = outline_in c.args.judge.now.outlined.now in
    let R = g.B.Bounds.rules c.args.judge.now.bounds.now in
    let N = g.T.NestTests.nests c.args.judge.now.tests.now in
    let P = c.args.judge.now.part in
    let r = c.args.reads.now in
    let i = c.loop-coordinate.coordinate-index in
    let all = r.at.now in
    loop_ends R N P (λ (cs : List Coordinate). flat_map (coordinate_loads O R r.line (known_in r) (may_in O R r) (meets_in O R r) (names_in r) c.args.left.now) (coordinates_of cs)) (λ (y : Coordinate). coordinate_loads O R r.line (known_in r) (may_in O R r) (meets_in O R r) (names_in r) c.args.left.now (coordinate_of y)) (λ y ys. refl) all i refl c.loop-coordinate-test.false c.loop-coordinate.invariant
