use Rattle.std.proofs.Common.{◌≡◌, ℕ, List, length, map, subst, arith, Some}
use Rattle.std.specs.Prelude.{slice_get}
use Rattle.plan.specs.Plan.{Plan}
use Rattle.plan.specs.View.{plan_of}
use Rattle.plan.specs.declared.certificate.cert.Need.{Need}
use Rattle.plan.specs.Certificate.Certificate.{certificate_of}
use Rattle.shares.specs.declared.grounds.Ground.{Ground}
use Rattle.shares.specs.Filed.{AreFiled}
use Rattle.shares.specs.FetchLines.{LetsAreNear}
use Rattle.shares.proofs.Filing.{row}
use Rattle.shares.proofs.Totals.{lines_open}
use Rattle.shares.proofs.layout.layout_of.Goals as goal

pub seats_of-requires-clause-grids : goal.seats_of-requires-clause-grids
seats_of-requires-clause-grids c n g x at this =
    (c.in_ok-grounds.ensures.each n g x at (subst (λ (xs : List Ground). slice_get xs n ≡ Some x) c.deref.ensures.value this)).piece_sides

pub refused_line-requires-clause-lines : goal.refused_line-requires-clause-lines
refused_line-requires-clause-lines c = lines_open (plan_of c.args.plan.now) (certificate_of c.args.cert.now) c.requires

pub returns-in-Some-clause-refused : goal.returns-in-Some-clause-refused
returns-in-Some-clause-refused c = rw c.in-Some.is at (c.in_ok-line.ensures (certificate_of c.args.cert.now) c.requires)

pub returns-clause-layout : goal.returns-clause-layout
returns-clause-layout c =
    let p : Plan = plan_of c.args.plan.now in
    let near : LetsAreNear p = rw c.in_default.is at (c.in_ok-line.ensures (certificate_of c.args.cert.now) c.requires) in
    let rows = map row c.in_ok-needs.needs.items in
    let groups = length c.args.plan.now.groups.items in
    let many : c.len.result ≡ groups = (let a = c.len.ensures in let b = c.args.plan.now.groups.ok.0 in omega (arith, a, b)) in
    record {
      shared = c.requires;
      grounds = c.in_ok-grounds.ensures;
      near = near;
      seats = c.in_ok-seats.ensures.pieces;
      small = c.in_ok-seats.ensures.small;
      needs = subst (λ (ns : List Need). AreFiled ns groups rows) c.deref-3.ensures.value (subst (λ (n : ℕ). AreFiled c.deref-3.result.now n rows) many c.in_ok-needs.ensures);
    }
