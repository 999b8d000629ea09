-- What the rules by bounds promise.
use Rattle.std.specs.Prelude.{◌≡◌, ℕ, List, Some, slice_get}
use Rattle.meaning.specs.Algorithm.{Algorithm}
use Rattle.meaning.specs.Conditions.{IsAlgorithm}
use Rattle.meaning.specs.Functions.{AreSamples}
use Rattle.plan.specs.Plan.{Group, Plan}
use Rattle.plan.specs.Certificate.Certificate.{Certificate}
use Rattle.soundness.specs.Given.{outline_of, given_of}
use Rattle.soundness.specs.Obligations.{Suited}
use Rattle.headline.specs.Sound.{IsOnInput}
use Rattle.soundness.specs.Nests.Plain.{SaysSame}
use Rattle.rules.specs.Bounding.Rules.{rules_of}

-- the rules fit what an algorithm, a plan on its input and a certificate give, where the samples are values of the input's type
abbrev pub RulesAreSuited : Type 0
RulesAreSuited =
    (a : Algorithm) (samples : List ℕ) (p : Plan) (c : Certificate) (n : ℕ) (g : Group) → IsAlgorithm a → AreSamples a samples → IsOnInput a p →
    slice_get p.groups n ≡ Some g → Suited (given_of a samples (outline_of p c n g)) (rules_of a p c n)

-- by these rules a form within the limits is shown to be at most itself
abbrev pub RulesSaySame : Type 0
RulesSaySame = (a : Algorithm) (p : Plan) (c : Certificate) (n : ℕ) → SaysSame (rules_of a p c n)
