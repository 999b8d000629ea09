use Rattle.std.proofs.Common.{◌≡◌, ℕ, ◌+◌, ◌<◌, take, drop, length, get_or, ap, sym, ◌∙◌, subst, refl, arith, List, Some}
use Rattle.std.specs.Prelude.{slice_get}
use Rattle.algo.specs.View.{algorithm_of}
use Rattle.plan.specs.declared.plan.Group.{Group as GroupHeld}
use Rattle.plan.specs.Plan.{Plan}
use Rattle.plan.specs.View.{plan_of, group_of}
use Rattle.plan.specs.Lists.{list_groups}
use Rattle.plan.specs.Lines.{group_line, group_lines, groups_lines}
use Rattle.plan.proofs.Counts.{more_group_lines, take_groups}
use Rattle.plan.specs.Certificate.Certificate.{certificate_of}
use Rattle.soundness.specs.Outline.Flaws.{first_of, line_told}
use Rattle.validation.specs.declared.stored.lines.GroupLines.{GroupLines}
use Rattle.validation.specs.Groups.Lines.{group_flaws, groups_flaws, on}
use Rattle.validation.proofs.Walk.{first_found, first_none, group_at, groups_step}
use Rattle.validation.proofs.groups.groups.groups_flaw.Goals as goal

-- the line behind a group is the next one's
behind : (p : Plan) (all xs : List GroupHeld) (n : ℕ) (x : GroupHeld) (line next : ℕ) → xs ≡ all → p.groups ≡ list_groups all → n < length xs → x ≡ get_or xs n x → line ≡ line_told (group_line p n)
    → next ≡ on line (group_lines (group_of x)) → next ≡ line_told (group_line p (n + 1))
behind p all xs n x line next e are less is at past =
    let taken : (k : ℕ) → list_groups (take k xs) ≡ take k p.groups = λ k. take_groups xs k ∙ ap (λ (ys : List GroupHeld). take k (list_groups ys)) e ∙ ap (take k) (sym are) in
    let more = more_group_lines xs n x less is in
    let now = ap groups_lines (taken n) in
    let later = ap groups_lines (taken (n + 1)) in
    omega (arith, more, now, later, at, past)

pub returns-then-is_some : goal.returns-then-is_some
returns-then-is_some c =
    let a = algorithm_of c.args.algo.now in
    let p = plan_of c.args.plan.now in
    let d = certificate_of c.args.cert.now in
    let xs = c.args.groups.now in
    let n = c.loop-n.n in
    let x = c.index-groups-n.result in
    let k = c.cells_with-cells.result in
    let j = c.pieces_with-pieces.result in
    let at : slice_get p.groups n ≡ Some (group_of x) = subst (λ (ys : List GroupHeld). slice_get (list_groups ys) n ≡ Some (group_of x)) c.requires.groups (group_at xs n x c.loop-n-test.true c.index-groups-n.is) in
    first_found c.in_ok-flaw.flaw (group_flaws a p d (line_told (group_line p n)) n (group_of x) k j) (groups_flaws a p d (list_groups (drop (n + 1) xs)) (n + 1) k j)
    (sym c.is_some.ensures ∙ c.if-is_some.true) (c.in_ok-flaw.ensures (group_of x) at)
    ∙ ap first_of (sym (groups_step a p d xs n x c.loop-n.cells c.loop-n.pieces k j c.loop-n-test.true c.index-groups-n.is c.cells_with-cells.ensures c.pieces_with-pieces.ensures))
    ∙ c.loop-n.invariant.rest

pub loop-n-preserved : goal.loop-n-preserved
loop-n-preserved c =
    let a = algorithm_of c.args.algo.now in
    let p = plan_of c.args.plan.now in
    let d = certificate_of c.args.cert.now in
    let xs = c.args.groups.now in
    let n = c.loop-n.n in
    let x = c.index-groups-n.result in
    let k = c.cells_with-cells.result in
    let j = c.pieces_with-pieces.result in
    let at : slice_get p.groups n ≡ Some (group_of x) = subst (λ (ys : List GroupHeld). slice_get (list_groups ys) n ≡ Some (group_of x)) c.requires.groups (group_at xs n x c.loop-n-test.true c.index-groups-n.is) in
    record {
      rest = sym (first_none c.in_ok-flaw.flaw (group_flaws a p d (line_told (group_line p n)) n (group_of x) k j) (groups_flaws a p d (list_groups (drop (n + 1) xs)) (n + 1) k j)
          (sym c.is_some.ensures ∙ c.if-is_some.false) (c.in_ok-flaw.ensures (group_of x) at))
          ∙ ap first_of (sym (groups_step a p d xs n x c.loop-n.cells c.loop-n.pieces k j c.loop-n-test.true c.index-groups-n.is c.cells_with-cells.ensures c.pieces_with-pieces.ensures))
          ∙ c.loop-n.invariant.rest;
      begins = behind p c.args.plan.now.groups.items xs n x c.loop-n.line c.lines_from-line.result.behind c.requires.groups refl c.loop-n-test.true c.index-groups-n.is c.loop-n.invariant.begins
          (ap (λ (ls : GroupLines). ls.behind) c.lines_from-line.ensures);
    }
