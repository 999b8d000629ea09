-- Which rule a function breaks that is computed inside loops: over what its turns need of it, wherever it stands.
-- What crates below need of it stands there: `regions`, `blocks`.
use Rattle.std.specs.Prelude.{ℕ, ◌+◌, nat_lt, nat_le, Bool, true, false, ◌&&◌, if◌then◌else◌, List, [], ◌∷◌, length, take, Option, Some, None, Result, Ok, Err}
use Rattle.meaning.specs.Algorithm.{Algorithm}
use Rattle.meaning.specs.Names.{same_name}
use Rattle.algo.specs.Scoping.Standing.{Written}
use Rattle.sched.specs.declared.error.Rule.{Rule}
use Rattle.sched.specs.declared.region_rule.RegionRule.{RegionRule}
use Rattle.sched.specs.declared.region_rule.RegionRule.TheVariants.{OutsideUse, ShortShift, SmallFold, TooLarge, Unbounded}
use Rattle.sched.specs.Placing.{SubjectText}
use Rattle.sched.specs.RegionRules.{region_number}
use Rattle.sched.specs.Rules.{number_of}
use Rattle.sched.specs.Standing.{◌>>=◌}
use Rattle.blocks.specs.Bounded.{is_bounded}
use Rattle.blocks.specs.declared.legality.Totals.{Totals}
use Rattle.lower.specs.Faults.{no_totals, or_later}
use Rattle.blocks.specs.Faults.{with_laid, fault_within, unless_left, first_laid, other_laid}
use Rattle.regions.specs.Lacking.{lacking}
use Rattle.sched.specs.Placed.{LaterText, PlacedText}
use Rattle.sched.specs.Regions.{LaidText}
use Rattle.sched.specs.Stored.{FormulaText, StoredText}
use Rattle.regions.specs.Uses.{is_used_outside}
use Rattle.regions.specs.Broken.{has_short_turn, leaves_others}
use Rattle.blocks.specs.Broken.{totals_of}

-- L8: in the first turn of its loop, or in each, and in those after the first one, where these make what is new alone
abbrev pub is_later_short : StoredText → Option LaterText → Option Bool
is_later_short g None = Some false
is_later_short g (Some l) = has_short_turn g l.scope l.region

abbrev pub is_short : PlacedText → Option Bool
is_short i = has_short_turn i.function i.scope i.region >>= λ b. if b then Some true else is_later_short i.function i.later

abbrev pub unless_bounded : Bool → Option RegionRule
unless_bounded b = if b then None else Some Unbounded

-- L12 where a bound is missing
abbrev pub or_unbounded : Option (Option RegionRule) → Option RegionRule
or_unbounded None = Some Unbounded
or_unbounded (Some r) = r

module _ (a : Algorithm) where
  -- L12: each index of the input and of the function itself is shown to lie where it may, in both
  abbrev pub is_later_bounded : PlacedText → Option LaterText → Option Bool
  is_later_bounded i None = Some true
  is_later_bounded i (Some l) = is_bounded a i.function l.scope i.region 0 i.formulas l.nests

  abbrev pub are_nests_bounded : PlacedText → Option Bool
  are_nests_bounded i = is_bounded a i.function i.scope i.region 0 i.formulas i.nests >>= λ b. if b then is_later_bounded i i.later else Some false

  abbrev pub is_inner_bounded : PlacedText → Option Bool
  is_inner_bounded i = if i.is_small then are_nests_bounded i else Some false

  -- L9 where it does not fit its folds
  abbrev pub unless_fit : PlacedText → Option (Option RegionRule)
  unless_fit i = if i.fits then (is_inner_bounded i >>= λ b. Some (unless_bounded b)) else Some (Some SmallFold)

  abbrev pub broken_by : PlacedText → Option (Option RegionRule)
  broken_by i = is_short i >>= λ b. if b then Some (Some ShortShift) else unless_fit i

  -- the rule of the lowest number that it breaks there
  abbrev pub fault_at : PlacedText → Option RegionRule
  fault_at i = or_unbounded (broken_by i)

-- ---- wherever it is computed

-- the one of the lower number, the first of two that have the same
abbrev pub lower_of : Option RegionRule → Option RegionRule → Option RegionRule
lower_of None o = o
lower_of (Some r) None = Some r
lower_of (Some r) (Some q) = if nat_lt (region_number q) (region_number r) then Some q else Some r

-- what is computed inside the loops of a group, or the name of a function of which a bound is missing there
abbrev pub Inside : Type 0
Inside = Result (List PlacedText) (List ℕ)

module _ (a : Algorithm) (x : List ℕ) where
  abbrev pub with_fault : PlacedText → Option RegionRule → Option RegionRule
  with_fault i known = if same_name i.function.subject.name x then lower_of known (fault_at a i) else known

  -- with what the function of this name breaks at each place among these
  abbrev pub with_faults : List PlacedText → Option RegionRule → Option RegionRule
  with_faults [] known = known
  with_faults (i ∷ is) known = with_faults is (with_fault i known)

  -- in a group: L12 where it is the one of which a bound is missing
  abbrev pub fault_among : Inside → Option RegionRule → Option RegionRule
  fault_among (Ok is) known = with_faults is known
  fault_among (Err y) known = if same_name y x then lower_of known (Some Unbounded) else known

  -- in all of them
  abbrev pub faults_among : List Inside → Option RegionRule → Option RegionRule
  faults_among [] known = known
  faults_among (i ∷ is) known = faults_among is (fault_among i known)

  abbrev pub fault_inside : List Inside → Option RegionRule
  fault_inside is = faults_among is None

-- what these call, and what that calls
abbrev pub calls_left : Algorithm → List StoredText → Option (Rule × List ℕ) → List Written
calls_left a gs o = lacking a (leaves_others gs o) gs

-- of a root function as `Faults` has it, of another one wherever it is computed
abbrev pub fault_of_kind : Algorithm → List Inside → Totals → StoredText → List FormulaText → LaidText → Option RegionRule
fault_of_kind a inside t g fs l = if g.subject.is_root then fault_within a g fs (with_laid t l) l else fault_inside a g.subject.name inside

module _ (a : Algorithm) (inside : List Inside) (left : List Written) where
  -- without a region L12, but where one of those calls leaves it without one
  abbrev pub fault_over : Totals → StoredText → List FormulaText → Option LaidText → Option RegionRule
  fault_over t g fs None = unless_left g left
  fault_over t g fs (Some l) = fault_of_kind a inside t g fs l

  abbrev pub fault_by : Totals → StoredText → Option (List FormulaText) → Option LaidText → Option RegionRule
  fault_by t g None l = Some TooLarge
  fault_by t g (Some fs) l = fault_over t g fs l

  abbrev pub fault_of : Totals → StoredText → Option LaidText → Option RegionRule
  fault_of t g l = fault_by t g g.formulas l

module _ (a : Algorithm) (all : List StoredText) (inside : List Inside) (left : List Written) where
  -- L6 first, where it is used outside of its loop
  abbrev pub rule_of : Totals → StoredText → Option LaidText → Option RegionRule
  rule_of t g l = if is_used_outside all g then Some OutsideUse else fault_of a inside left t g l

  -- the first of these functions, in the order of declaration, that breaks a rule, and the rule of the lowest number, behind others that have these totals
  abbrev pub first_from : Totals → List StoredText → List (Option LaidText) → Option (RegionRule × List ℕ)
  first_from t [] ls = None
  first_from t (g ∷ gs) ls = or_later g (rule_of t g (first_laid ls)) (first_from (totals_of t g (first_laid ls)) gs (other_laid ls))

-- of all of them over these regions, where these are computed inside, and a rule that asks for no region is broken, or none
abbrev pub first_over : Algorithm → List StoredText → Option (Rule × List ℕ) → List (Option LaidText) → List Inside → Option (RegionRule × List ℕ)
first_over a gs o ls inside = first_from a gs inside (calls_left a gs o) no_totals gs ls

-- ---- beside the rules that ask for no region

-- so many, and one more where this function is stored
abbrev pub with_stored : SubjectText → ℕ → ℕ
with_stored u n = if u.is_stored then n + 1 else n

-- how many stored functions there are up to the one of this name, in the order of declaration
abbrev pub stored_up_to : List SubjectText → List ℕ → ℕ
stored_up_to [] x = 0
stored_up_to (u ∷ us) x = if same_name u.name x then with_stored u 0 else with_stored u (stored_up_to us x)

-- how many of so many are asked: those up to the first function that breaks a rule which asks for no region
abbrev pub asked_count : List SubjectText → ℕ → Option (Rule × List ℕ) → ℕ
asked_count us n None = n
asked_count us n (Some e) = stored_up_to us e.1

-- of that function itself only a rule of a lower number
abbrev pub unless_later : Rule × List ℕ → RegionRule × List ℕ → Option (RegionRule × List ℕ)
unless_later o e = if same_name o.1 e.1 && nat_le (number_of o.0) (region_number e.0) then None else Some e

abbrev pub unless_behind : Option (Rule × List ℕ) → Option (RegionRule × List ℕ) → Option (RegionRule × List ℕ)
unless_behind o None = None
unless_behind None (Some e) = Some e
unless_behind (Some o) (Some e) = unless_later o e

-- What is told by regions, function by function in the order of declaration, the lowest number first: the first function that breaks such a rule, up to the one that breaks a
-- rule which asks for no region, of which itself only one of a lower number counts. These are all functions, of which those are stored.
abbrev pub first_told : Algorithm → List SubjectText → List StoredText → Option (Rule × List ℕ) → List (Option LaidText) → List Inside → Option (RegionRule × List ℕ)
first_told a us gs o ls inside = unless_behind o (first_from a gs inside (calls_left a gs o) no_totals (take (asked_count us (length gs) o) gs) ls)
