-- The tests of nests do not look at which loops are written out.
use Rattle.std.specs.Prelude.{◌≡◌, ℕ, List, Option}
use Rattle.meaning.specs.Algorithm.{Range}
use Rattle.plan.specs.declared.stmt.Places.{Places}
use Rattle.plan.specs.declared.certificate.cert.Window.{Window}
use Rattle.plan.specs.Plan.{Statement}
use Rattle.soundness.specs.Origins.{Outline}
use Rattle.soundness.specs.Obligations.{Binder, Rules}
use Rattle.soundness.specs.Shown.{Nests}
use Rattle.tails.specs.Windows.Nests.{slid_nests}
use Rattle.audit.specs.Verdict.Kinds.{rolled}

-- the tests say the same of a statement where none of its loops is written out
pub record SayTheSame (nests : Nests) (a : Statement) : Type 0 where
  pub made : (bs : List Binder) (c : ℕ) (from : Option ℕ) (places : List Places) → nests.is_made bs c from places a ≡ nests.is_made bs c from places (rolled a)
  pub in_turn : (bs : List Binder) (c : ℕ) → nests.is_in_turn bs c a ≡ nests.is_in_turn bs c (rolled a)
  pub slid : (bs : List Binder) (w : Window) (c : ℕ) (places : List Places) → nests.is_slid bs w c places a ≡ nests.is_slid bs w c places (rolled a)
  pub held : (bs : List Binder) (w : Window) (c : ℕ) (places : List Places) → nests.is_held bs w c places a ≡ nests.is_held bs w c places (rolled a)

abbrev pub TestsStay : Type 0
TestsStay = (outline : Outline) (rules : Rules) (domain : List ℕ → ℕ → Option (List Range)) (a : Statement) → SayTheSame (slid_nests outline rules domain) a
