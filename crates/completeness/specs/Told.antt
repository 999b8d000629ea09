-- What the checker tells of a plan whose schedule splits loops once at most is a limit.
use Rattle.std.specs.Prelude.{◌≡◌, ◌⊎◌, ℕ, true, List, Some, slice_get}
use Rattle.std.specs.List.{AllByRecursion}
use Rattle.meaning.specs.Algorithm.{Algorithm}
use Rattle.meaning.specs.Conditions.{IsAlgorithm}
use Rattle.algo.specs.Words.{IsNamed}
use Rattle.plan.specs.Plan.{Group, Plan}
use Rattle.plan.specs.View.{plan_of}
use Rattle.plan.specs.Certificate.Certificate.{Certificate, certificate_of}
use Rattle.soundness.specs.Outline.Flaws.{Flaw as TextFlaw, first_of}
use Rattle.soundness.specs.declared.outline.refusals.code.Flaw.{Flaw}
use Rattle.soundness.specs.declared.outline.refusals.code.K.TheVariants.{K14}
use Rattle.headline.specs.Head.{FailsHead}
use Rattle.rules.specs.Bounding.Rules.{rules_of}
use Rattle.tails.specs.Windows.Shown.{IsShown}
use Rattle.shares.specs.declared.answer.SharesError.TheVariants.{Flaw as SharesFlaw}
use Rattle.shares.specs.Made.{ErrorMeans}
use Rattle.validation.specs.Certificate.Certificate.{flaws_of_certificate}
use Rattle.validation.specs.Groups.Lines.{flaws_of_groups}
use Rattle.audit.specs.Verdict.Faults.{HasEachPoint, IsFault}
use Rattle.sched.specs.Schedule.{Schedule}
use Rattle.sched.specs.Legal.{IsLegal}
use Rattle.lower.specs.declared.lowering.Lowered.{Lowered}
use Rattle.sched.specs.Stored.{FormulaText, StoredText}
use Rattle.lower.specs.Stored.{stored_functions}
use Rattle.sched.specs.Regions.{LaidText}
use Rattle.regions.specs.Regions.{laid_functions}
use Rattle.regions.specs.Faults.{are_whole}
use Rattle.lower.specs.Refused.{AreSmall, AreRegionsKept}
use Rattle.lower.specs.Groups.{AreGroupsMade}
use Rattle.completeness.specs.Fitting.{IsSplitOnce, SplitsOnce}
use Rattle.completeness.specs.Laws.{AreLinesTold}
use Rattle.completeness.specs.Simple.{SimpleIndices}
use Rattle.completeness.specs.Filled.{IsNearOrSimple, IsShownElsewhere}

-- each stored function is a root function that is computed at no loop; its loops are split once at most, no inner one parallel, whatever the tails and in
-- whatever order they stand; and each index of its definitions is simple, or the region that is needed of it begins near 0
pub record SplitsPlainly (a : Algorithm) (s : Schedule) : Type 0 where
  pub whole : are_whole (stored_functions a s) ≡ true
  pub once : (n : ℕ) (u : StoredText) → slice_get (stored_functions a s) n ≡ Some u → IsSplitOnce u
  pub near : (n : ℕ) (u : StoredText) → slice_get (stored_functions a s) n ≡ Some u → (fs : List FormulaText) → u.formulas ≡ Some fs →
      (r : LaidText) → slice_get (laid_functions a (stored_functions a s)) n ≡ Some (Some r) → IsNearOrSimple a s n u fs r

-- a core schedule: no function is computed inside a loop, loops are split once at most, no inner one of a split is parallel, and each index of a call or a left
-- side, with the calls of unstored functions put in, is a literal or a variable, plus or minus literals and clamped to literals or not
pub record IsCore (a : Algorithm) (s : Schedule) : Type 0 where
  pub once : SplitsOnce a s
  pub simple : (n : ℕ) (u : StoredText) → slice_get (stored_functions a s) n ≡ Some u → (fs : List FormulaText) → u.formulas ≡ Some fs → SimpleIndices fs

-- each such schedule is one of those
abbrev pub CoreSplitsPlainly : Type 0
CoreSplitsPlainly = (a : Algorithm) (s : Schedule) → IsCore a s → SplitsPlainly a s

-- the group of this number is not the output's, or has each point of it
abbrev pub HasOutputPoints : Algorithm → Plan → Certificate → ℕ → Group → Type 0
HasOutputPoints a p c n g = g.function ≡ a.output → HasEachPoint a p c n

-- all that the checker asks of the plan is so but for limits: the head is the algorithm's (no K1); what is told first of the lines of groups by names, limits
-- and stored expressions is a limit (K14); all that they owe is shown, by the checker's rules and its tests of nests, or is at a line of which a limit is told
-- (no K2, nor K4 to K8), and each line can be told; what is told of the certificate's lines by themselves is a limit, too (no K2, K3, K8, K10), and so is what
-- is told of the pieces' shares (no K9, K10, K11); and the output's group has each point of the output (no K10)
pub record TellsOnlyLimits (a : Algorithm) (p : Plan) (c : Certificate) : Type 0 where
  pub head : (line : ℕ) → ¬ FailsHead a p line
  pub groups : (f : TextFlaw) → first_of (flaws_of_groups a p c) ≡ Some f → f.code ≡ 14
  pub shown : (n : ℕ) (g : Group) → slice_get p.groups n ≡ Some g → IsShown (rules_of a p c n) a p c n g ⊎ IsShownElsewhere a p c n g
  pub lines : AreLinesTold p
  pub certificate : AllByRecursion (λ f. f.code ≡ 14) (flaws_of_certificate a p c)
  pub shares : (f : Flaw) → ErrorMeans p c (SharesFlaw f) → f.code ≡ K14
  pub output : (n : ℕ) (g : Group) → slice_get p.groups n ≡ Some g → HasOutputPoints a p c n g

-- so it is of the plan that is made of such a schedule, where what is named has the name of a text, as in each algorithm that was read
abbrev pub LimitsAloneAreTold : Type 0
LimitsAloneAreTold =
    (a : Algorithm) (s : Schedule) (l : Lowered) → IsAlgorithm a → IsLegal a s → AreSmall a s → AreRegionsKept a s → AreGroupsMade a s l
    → SplitsPlainly a s → IsNamed a → TellsOnlyLimits a (plan_of l.plan) (certificate_of l.certificate)

-- each refusal of the plan that is right, whatever its line, is told as a limit (K14)
abbrev pub TellsLimitsAlone : Algorithm → Plan → Certificate → Type 0
TellsLimitsAlone a p c = (code line : ℕ) → IsFault a p c code line → code ≡ 14

-- so it is, in the checker's own words, of that plan
abbrev pub FaultsAreLimits : Type 0
FaultsAreLimits =
    (a : Algorithm) (s : Schedule) (l : Lowered) → IsAlgorithm a → IsLegal a s → AreSmall a s → AreRegionsKept a s → AreGroupsMade a s l
    → SplitsPlainly a s → IsNamed a → TellsLimitsAlone a (plan_of l.plan) (certificate_of l.certificate)
