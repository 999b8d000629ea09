use Rattle.std.proofs.Common.{◌≡◌, ℕ, List, length, map, ap, subst, arith, Vec, Global}
use Rattle.plan.specs.View.{plan_of}
use Rattle.shares.specs.declared.counts.FetchLine.{FetchLine as LineHeld}
use Rattle.shares.specs.Noted.{AreNotedBy}
use Rattle.shares.proofs.Noting.{first_group, noted_last, none_noted}
use Rattle.shares.proofs.counts.noted_groups.Goals as goal

pub loop-number-init : goal.loop-number-init
loop-number-init c =
    let f : Vec LineHeld Global → List LineHeld = λ v. v.items in
    record {
      lists = none_noted (plan_of c.args.plan.now) (map f c.new-made.result.items) (ap (map f) c.new-made.ensures.items);
      begins = first_group (plan_of c.args.plan.now);
    }

pub loop-number-preserved : goal.loop-number-preserved
loop-number-preserved c =
    record {
      lists = noted_last (plan_of c.args.plan.now) c.loop-number.number c.loop-number.made.items c.push.new.self.items c.note_group.new.noted c.new-noted.result.items c.in_ok-push.ensures.items c.new-noted.ensures.items
          c.loop-number.invariant.lists c.in_ok-line.ensures.noted;
      begins = c.in_ok-line.ensures.behind;
    }

pub returns : goal.returns
returns c =
    let f : Vec LineHeld Global → List LineHeld = λ v. v.items in
    let end = c.loop-number.auto.number-end in
    let all = c.len-number-end.ensures in
    let same : c.loop-number.number ≡ length c.args.plan.now.groups.items = omega (arith, end, all, c.loop-number-test.false) in
    subst (λ (n : ℕ). AreNotedBy (plan_of c.args.plan.now) n (map f c.loop-number.made.items)) same c.loop-number.invariant.lists
