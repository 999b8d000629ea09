use Rattle.std.proofs.Common.{◌≡◌, ◌+◌, false, map, Option, Some, ap, sym, subst, ◌∙◌, arith}
use Rattle.algo.specs.View.{algorithm_of}
use Rattle.sched.specs.Skeleton.{nest_seen}
use Rattle.sched.specs.Limited.{Gives}
use Rattle.sched.specs.Stored.{formula_of, stored_of}
use Rattle.sched.specs.Around.{head_scope}
use Rattle.sched.specs.Regions.{LaidText, laid_of}
use Rattle.regions.specs.Regions.{add_all_own, region_of, same_region}
use Rattle.regions.proofs.Rounds.{wider}
use Rattle.regions.proofs.regions.+closed_within.Goals as goal

pub returns : goal.returns
returns t c =
    let a = algorithm_of c.args.algo.now in
    let g = stored_of c.args.stored.now in
    let fs = map formula_of c.args.formulas.now in
    let reach = c.args.reach.items in
    let l = laid_of c.args.laid in
    let k = c.in-Some.left in
    let wide = c.add_all_own.new.reach.items in
    let region = c.in_ok-region.region.items in
    let next : c.args.rounds ≡ k + 1 = omega (arith, c.in-Some.ensures) in
    let called : add_all_own a g (head_scope l.skeleton) 0 fs l.skeleton.nests reach ≡ Some wide =
    (λ i. add_all_own a g (sym c.in_ok-outer.ensures i) 0 fs (map nest_seen (sym c.deref.ensures.value i)) reach) ∙ c.in_ok-add_all_own.ensures in
    let bounded : region_of g.subject.is_root wide ≡ Some region = ap (region_of g.subject.is_root) (sym c.deref-2.ensures.value) ∙ c.in_ok-region.ensures in
    let other : same_region l.region region ≡ false =
    (λ i. same_region (sym c.deref-3.ensures.value i) (sym c.deref-4.ensures.value i)) ∙ sym c.is_same.ensures ∙ c.if-is_same.false in
    let is = wider a g fs c.args.rounds reach l k wide region (laid_of c.in_ok-wider.wider) next called bounded other c.in_ok-wider.ensures in
    let P : Option LaidText → Type 0 = λ o. Gives c.closed_within.result laid_of o in
    subst P (sym is) c.closed_within.ensures
