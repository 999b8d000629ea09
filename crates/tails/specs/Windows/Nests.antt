-- The tests that a claim is made in a folded buffer, or along a window, beside the tests of nests.
use Rattle.std.specs.Prelude.{ℕ, ◌||◌, Bool, false, List, Option, Some, None}
use Rattle.meaning.specs.Algorithm.{Range}
use Rattle.plan.specs.declared.stmt.Places.{Places}
use Rattle.plan.specs.Plan.{Statement}
use Rattle.plan.specs.Semantics.Actions.{Setting}
use Rattle.plan.specs.Certificate.Certificate.{Claim}
use Rattle.soundness.specs.Origins.{Outline, Given}
use Rattle.soundness.specs.Obligations.{Binder, Rules, Suited}
use Rattle.soundness.specs.Shown.{Nests, AreRightNests}
use Rattle.soundness.specs.Nests.Laws.{Counts}
use Rattle.tails.specs.Nests.{split_nests}
use Rattle.tails.specs.Windows.Arms.{arm, is_slid, is_held, makes_folded}

-- the claim is made from nothing, in a buffer that may be folded
abbrev pub folded_by : Setting → Rules → List Binder → Claim → Option ℕ → List Places → Statement → Bool
folded_by setting rules bs claim None places a = makes_folded rules bs claim places (arm setting claim a)
folded_by setting rules bs claim (Some k) places a = false

-- tests of nests, and these of what is made in folded buffers and along windows
abbrev pub with_windows : Outline → Rules → Nests → Nests
with_windows outline rules nests = record {
  is_made = λ bs c from places a. nests.is_made bs c from places a || folded_by outline.setting rules bs (outline.claim c) from places a;
  is_in_turn = nests.is_in_turn;
  is_slid = λ bs w c places a. is_slid outline.setting rules bs (outline.claim c) places w a;
  is_held = λ bs w c places a. is_held outline.setting rules bs (outline.claim c) places w a;
}

-- the tests of plain nests, of split ones, of those in folded buffers, and of windows
abbrev pub slid_nests : Outline → Rules → (List ℕ → ℕ → Option (List Range)) → Nests
slid_nests outline rules domain = with_windows outline rules (split_nests outline rules domain)

-- what the tests say yes to is so, whatever the symbols stand for
abbrev pub SlidNestsAreRight : Type 0
SlidNestsAreRight =
    (given : Given) (rules : Rules) (domain : List ℕ → ℕ → Option (List Range)) → Suited given rules → Counts given domain →
    AreRightNests given (slid_nests given.outline rules domain)
