use Rattle.std.proofs.Common.{◌≡◌, ◌++◌, take, ap, sym, ◌∙◌, subst, Option, Some, List}
use Rattle.std.specs.Prelude.{IfOk, slice_get}
use Rattle.algo.specs.View.{algorithm_of}
use Rattle.plan.specs.declared.plan.Group.{Group as GroupHeld}
use Rattle.plan.specs.Plan.{Group}
use Rattle.plan.specs.Lists.{list_groups}
use Rattle.plan.specs.View.{plan_of}
use Rattle.plan.proofs.Counts.{take_groups}
use Rattle.soundness.specs.Given.{outline_of}
use Rattle.soundness.specs.Outline.Flaws.{Flaw, first_of, told}
use Rattle.soundness.specs.Outline.View.{group_in}
use Rattle.validation.specs.Stored.Definitions.{stored_in}
use Rattle.validation.specs.Groups.Lines.{flaws, group_line_flaws, start}
use Rattle.validation.proofs.groups.groups.numbered_flaw.Goals as goal

same_group : (x : Option Group) (g h : Group) → x ≡ Some g → x ≡ Some h → g ≡ h
same_group x g h e f = let k : Some g ≡ Some h = sym e ∙ f in cc

pub group_flaw-requires : goal.group_flaw-requires
group_flaw-requires c = c.requires.marked ∙ ap (stored_in (algorithm_of c.args.algo.now)) (sym c.in_ok-outlined.ensures.plan)

pub returns : goal.returns
returns c g at =
    let a = algorithm_of c.args.algo.now in
    let n = c.args.number in
    let p = plan_of c.args.plan.now in
    let plan = c.in_ok-outlined.ensures.plan in
    let certificate = c.in_ok-outlined.ensures.certificate in
    let number = c.in_ok-outlined.ensures.number in
    let group : group_in c.in_ok-outlined.outlined ≡ g = same_group (slice_get p.groups n) (group_in c.in_ok-outlined.outlined) g c.in_ok-outlined.ensures.group at in
    let earlier : list_groups (take n c.deref.result.now) ≡ take n p.groups =
    ap (λ (xs : List GroupHeld). list_groups (take n xs)) c.deref.ensures.value ∙ take_groups c.args.plan.now.groups.items n in
    subst (λ (x : Option Flaw). IfOk c.group_flaw.result (λ flaw. told flaw ≡ x))
    (λ i. first_of (group_line_flaws a (c.requires.line i) (earlier i) (group i) c.args.cells c.args.pieces
    ++ flaws a (plan i) (certificate i) (group i) (outline_of (plan i) (certificate i) (number i) (group i)) (group i).body (start (c.requires.line i) (group i))))
    c.group_flaw.ensures
