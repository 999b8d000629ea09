-- An accepted plan stays accepted where other loops of it are written out, if those have few turns.
use Rattle.std.specs.Prelude.{◌≡◌, ℕ, [], Some, slice_get}
use Rattle.meaning.specs.Algorithm.{Algorithm}
use Rattle.plan.specs.Plan.{Group, Plan}
use Rattle.plan.specs.Lines.{body_line}
use Rattle.plan.specs.Certificate.Certificate.{Certificate}
use Rattle.rules.specs.Bounding.Rules.{rules_of}
use Rattle.rules.specs.Widths.Widths.{wide_lines}
use Rattle.soundness.specs.Binders.View.{grid_binders}
use Rattle.audit.specs.Verdict.Accepted.{IsAccepted}
use Rattle.audit.specs.Verdict.Kinds.{AreAlike}

-- the limits: each loop's symbol and each store's coordinate is shown to be a small number, and each loop that is written out to have
-- at most 64 turns
abbrev pub HasNoWideLine : Algorithm → Plan → Certificate → Type 0
HasNoWideLine a p c = (n : ℕ) (g : Group) → slice_get p.groups n ≡ Some g → wide_lines (rules_of a p c n) (grid_binders g.grid) (body_line p n) g.body ≡ []

abbrev pub AlikeAreAccepted : Type 0
AlikeAreAccepted = (a : Algorithm) (p q : Plan) (c : Certificate) → AreAlike p q → IsAccepted a p c → HasNoWideLine a q c → IsAccepted a q c
