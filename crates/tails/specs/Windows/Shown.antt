-- What the lines of a group owe, shown by rules and by the tests of nests over them.
use Rattle.std.specs.Prelude.{◌≡◌, ℕ, true}
use Rattle.meaning.specs.Algorithm.{Algorithm}
use Rattle.plan.specs.Lines.{body_line}
use Rattle.plan.specs.Plan.{Group, Plan}
use Rattle.plan.specs.Certificate.Certificate.{Certificate}
use Rattle.soundness.specs.Given.{outline_of}
use Rattle.soundness.specs.Obligations.{Rules, obligations}
use Rattle.soundness.specs.Shown.{all_shown, start}
use Rattle.soundness.specs.Binders.View.{grid_binders}
use Rattle.soundness.specs.Nests.Laws.{domains_of}
use Rattle.tails.specs.Windows.Nests.{slid_nests}

-- all obligations of a group's lines are shown by rules and by the tests of plain nests, of split ones and of windows over them
abbrev pub IsShown : Rules → Algorithm → Plan → Certificate → ℕ → Group → Type 0
IsShown rules a p c n g =
    all_shown rules (slid_nests (outline_of p c n g) rules (domains_of a))
    (obligations (outline_of p c n g) rules g.body (body_line p n) (start (grid_binders g.grid))) ≡ true
