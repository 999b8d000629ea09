-- Plans in plain form are accepted.
use Rattle.soundness.specs.Given.{outline_of}
use Rattle.soundness.specs.Shown.{start}
use Rattle.plan.specs.Lines.{body_line}
use Rattle.rules.specs.Bounding.Laws.{RulesSaySame}
use Rattle.rules.specs.Bounding.Rules.{rules_of}
use Rattle.audit.specs.Verdict.Shown.Plain.{PlainIsShown}
use Rattle.soundness.specs.Binders.View.{grid_binders}
use Rattle.audit.specs.Verdict.Laws.{PlainIsAccepted}

pub plain_accepted : PlainIsShown → RulesSaySame → PlainIsAccepted
plain_accepted shown same a p c is = record {
  head = is.head;
  groups = is.groups;
  widths = is.widths;
  shown = λ n g e. shown (rules_of a p c n) a (outline_of p c n g) (same a p c n) is.windows g.body (body_line p n) (start (grid_binders g.grid)) (is.plain n g e);
  certificate = is.certificate;
  shares = is.shares;
  output = is.output;
}
