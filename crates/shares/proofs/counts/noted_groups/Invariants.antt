use Rattle.std.proofs.Common.{◌≡◌, map, Vec, Global}
use Rattle.plan.specs.Lines.{group_line}
use Rattle.plan.specs.View.{plan_of}
use Rattle.soundness.specs.Outline.Flaws.{line_told}
use Rattle.shares.specs.declared.counts.FetchLine.{FetchLine as LineHeld}
use Rattle.shares.specs.Noted.{AreNotedBy}
use Rattle.shares.proofs.counts.noted_groups.Given as goal

abbrev pub invariant-loop-number : goal.invariant-loop-number
invariant-loop-number l = record {
  lists : AreNotedBy (plan_of l.plan) l.number (map (λ (v : Vec LineHeld Global). v.items) l.made.items);
  begins : l.line ≡ line_told (group_line (plan_of l.plan) l.number);
}
