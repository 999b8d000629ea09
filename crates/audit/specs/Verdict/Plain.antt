-- Plans in plain form.
use Rattle.std.specs.Prelude.{◌≡◌, ℕ, [], Some, slice_get}
use Rattle.meaning.specs.Algorithm.{Algorithm}
use Rattle.plan.specs.Plan.{Group, Plan}
use Rattle.plan.specs.Lines.{body_line}
use Rattle.plan.specs.Certificate.Certificate.{Certificate}
use Rattle.soundness.specs.Given.{outline_of}
use Rattle.soundness.specs.Shown.{start}
use Rattle.rules.specs.Bounding.Rules.{rules_of}
use Rattle.rules.specs.Widths.Widths.{wide_lines}
use Rattle.validation.specs.Groups.Lines.{flaws_of_groups}
use Rattle.validation.specs.Certificate.Certificate.{flaws_of_certificate}
use Rattle.shares.specs.Has.{HasShares}
use Rattle.audit.specs.Verdict.Shown.Plain.{IsPlain}
use Rattle.soundness.specs.Binders.View.{grid_binders}
use Rattle.audit.specs.Verdict.Shown.Wide.{HasHead, HasOutput}

-- what is asked of a plan that is accepted, with each group's lines in plain form in place of all that they owe, and without windows
pub record IsPlainPlan (a : Algorithm) (p : Plan) (c : Certificate) : Type 0 where
  pub head : HasHead a p
  pub groups : flaws_of_groups a p c ≡ []
  pub widths : (n : ℕ) (g : Group) → slice_get p.groups n ≡ Some g → wide_lines (rules_of a p c n) (grid_binders g.grid) (body_line p n) g.body ≡ []
  pub plain : (n : ℕ) (g : Group) → slice_get p.groups n ≡ Some g → IsPlain (rules_of a p c n) a (outline_of p c n g) g.body (body_line p n) (start (grid_binders g.grid))
  pub windows : c.windows ≡ []
  pub certificate : flaws_of_certificate a p c ≡ []
  pub shares : HasShares p c
  pub output : HasOutput a p
