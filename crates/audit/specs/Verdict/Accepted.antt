-- The yes of the checker of plans, as one definition.
use Rattle.std.specs.Prelude.{◌≡◌, ℕ, [], Some, slice_get}
use Rattle.meaning.specs.Algorithm.{Algorithm}
use Rattle.plan.specs.Plan.{Group, Plan}
use Rattle.plan.specs.Lines.{body_line}
use Rattle.plan.specs.Certificate.Certificate.{Certificate}
use Rattle.rules.specs.Bounding.Rules.{rules_of}
use Rattle.rules.specs.Widths.Widths.{wide_lines}
use Rattle.validation.specs.Groups.Lines.{flaws_of_groups}
use Rattle.validation.specs.Certificate.Certificate.{flaws_of_certificate}
use Rattle.shares.specs.Has.{HasShares}
use Rattle.soundness.specs.Binders.View.{grid_binders}
use Rattle.tails.specs.Windows.Shown.{IsShown}
use Rattle.audit.specs.Verdict.Shown.Wide.{HasHead, HasOutput}

-- what is asked of a plan and its certificate
pub record IsAccepted (a : Algorithm) (p : Plan) (c : Certificate) : Type 0 where
  -- the plan's name, input and output are the algorithm's
  pub head : HasHead a p
  -- no line of a group has a flaw of names, limits or stored expressions
  pub groups : flaws_of_groups a p c ≡ []
  -- each loop's symbol and each store's coordinate is shown to be a small number
  pub widths : (n : ℕ) (g : Group) → slice_get p.groups n ≡ Some g → wide_lines (rules_of a p c n) (grid_binders g.grid) (body_line p n) g.body ≡ []
  -- all that the lines of a group owe is shown by bounds
  pub shown : (n : ℕ) (g : Group) → slice_get p.groups n ≡ Some g → IsShown (rules_of a p c n) a p c n g
  -- no line of the certificate has a flaw of names or limits, and some loop keeps each window
  pub certificate : flaws_of_certificate a p c ≡ []
  -- the pieces part the cells among them and look only at what they need
  pub shares : HasShares p c
  -- the output's group has each point of the output
  pub output : HasOutput a p
