-- What the lines of a statement owe is shown alike where none of its loops is written out.
use Rattle.std.specs.Prelude.{◌≡◌, ℕ, List, Option}
use Rattle.meaning.specs.Algorithm.{Range}
use Rattle.plan.specs.Plan.{Statement}
use Rattle.soundness.specs.Origins.{Outline}
use Rattle.soundness.specs.Obligations.{Known, Rules, obligations}
use Rattle.soundness.specs.Shown.{all_shown}
use Rattle.tails.specs.Windows.Nests.{slid_nests}
use Rattle.audit.specs.Verdict.Kinds.{rolled}

abbrev pub ShownStays : Type 0
ShownStays =
    (outline : Outline) (rules : Rules) (domain : List ℕ → ℕ → Option (List Range)) (a : Statement) (line : ℕ) (known : Known) →
    all_shown rules (slid_nests outline rules domain) (obligations outline rules a line known)
    ≡ all_shown rules (slid_nests outline rules domain) (obligations outline rules (rolled a) line known)
