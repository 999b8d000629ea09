use Rattle.std.proofs.Common.{◌≡◌, drop}
use Rattle.algo.specs.View.{algorithm_of}
use Rattle.plan.specs.View.{plan_of}
use Rattle.plan.specs.Lines.{group_line}
use Rattle.plan.specs.Lists.{list_groups}
use Rattle.plan.specs.Certificate.Certificate.{certificate_of}
use Rattle.soundness.specs.Outline.Flaws.{first_of, line_told}
use Rattle.validation.specs.Groups.Lines.{groups_flaws}
use Rattle.validation.proofs.groups.groups.groups_flaw.Given as goal

abbrev pub invariant-loop-n : goal.invariant-loop-n
invariant-loop-n l = record {
  rest : first_of (groups_flaws (algorithm_of l.algo) (plan_of l.plan) (certificate_of l.cert) (list_groups (drop l.n l.groups)) l.n l.cells l.pieces)
      ≡ first_of (groups_flaws (algorithm_of l.algo) (plan_of l.plan) (certificate_of l.cert) (list_groups l.groups) 0 0 0);
  begins : l.line ≡ line_told (group_line (plan_of l.plan) l.n);
}
