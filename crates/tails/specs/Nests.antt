-- The tests that a nest of split loops makes a claim, or does an update's steps in turn, beside the tests of plain nests.
use Rattle.std.specs.Prelude.{◌≡◌, ℕ, ◌||◌, ◌&&◌, Bool, true, false, List, Option, Some, None}
use Rattle.meaning.specs.Algorithm.{Range}
use Rattle.plan.specs.declared.stmt.Places.{Places}
use Rattle.plan.specs.Plan.{Statement}
use Rattle.plan.specs.Semantics.Actions.{Setting}
use Rattle.plan.specs.Certificate.Certificate.{Claim}
use Rattle.soundness.specs.Origins.{Outline, Given}
use Rattle.soundness.specs.Obligations.{Binder, Rules, Suited}
use Rattle.soundness.specs.Shown.{Nests, AreRightNests}
use Rattle.soundness.specs.Nests.Laws.{Counts}
use Rattle.soundness.specs.Nests.Tests.{plain_nests}
use Rattle.tails.specs.Steps.{Spine, spine_of}
use Rattle.tails.specs.Maps.{covers}
use Rattle.tails.specs.Stored.{Stored, stored_by, has_places}
use Rattle.tails.specs.Updates.{makes_update, is_in_steps}

-- the turns reach the claim's region, and the points have places that are not folded
abbrev pub makes_split : Rules → List Binder → Claim → List Places → Option Stored → Bool
makes_split rules bs claim places None = false
makes_split rules bs claim places (Some n) = has_places false rules bs n places && covers rules bs n.steps n.forms claim.region

-- the claim is made from nothing, or from the definition before it
abbrev pub makes_by : Setting → Rules → (List ℕ → ℕ → Option (List Range)) → List Binder → Claim → Option ℕ → List Places → Option Spine → Bool
makes_by setting rules domain bs claim None places o = makes_split rules bs claim places (stored_by setting claim o)
makes_by setting rules domain bs claim (Some k) places o = makes_update setting rules domain bs claim k o

-- tests of nests, and those of split ones beside them; of what is made along windows these say nothing more
abbrev pub with_split : Outline → Rules → (List ℕ → ℕ → Option (List Range)) → Nests → Nests
with_split outline rules domain nests = record {
  is_made = λ bs c from places a.
      nests.is_made bs c from places a
      || makes_by outline.setting rules domain bs (outline.claim c) from places (spine_of a (outline.claim c).buffer);
  is_in_turn = λ bs c a.
      nests.is_in_turn bs c a
      || is_in_steps outline.setting rules domain bs (outline.claim c) (spine_of a (outline.claim c).buffer);
  is_slid = nests.is_slid;
  is_held = nests.is_held;
}

-- the tests of plain nests and of split ones
abbrev pub split_nests : Outline → Rules → (List ℕ → ℕ → Option (List Range)) → Nests
split_nests outline rules domain = with_split outline rules domain (plain_nests outline rules domain)

-- what the tests say yes to is so, whatever the symbols stand for
abbrev pub SplitNestsAreRight : Type 0
SplitNestsAreRight =
    (given : Given) (rules : Rules) (domain : List ℕ → ℕ → Option (List Range)) → Suited given rules → Counts given domain →
    AreRightNests given (split_nests given.outline rules domain)

-- and they say yes to each nest that the tests of plain nests take
pub record TakesPlain (outline : Outline) (rules : Rules) (domain : List ℕ → ℕ → Option (List Range)) : Type 0 where
  pub made : (bs : List Binder) (c : ℕ) (from : Option ℕ) (places : List Places) (a : Statement) →
      (plain_nests outline rules domain).is_made bs c from places a ≡ true → (split_nests outline rules domain).is_made bs c from places a ≡ true
  pub in_turn : (bs : List Binder) (c : ℕ) (a : Statement) →
      (plain_nests outline rules domain).is_in_turn bs c a ≡ true → (split_nests outline rules domain).is_in_turn bs c a ≡ true

abbrev pub PlainNestsAreTaken : Type 0
PlainNestsAreTaken = (outline : Outline) (rules : Rules) (domain : List ℕ → ℕ → Option (List Range)) → TakesPlain outline rules domain
