-- The first obligation of the lines of a plan's groups that is not shown.
use Rattle.std.specs.Prelude.{◌≡◌, ℕ, ◌-◌, nat_lt, if◌then◌else◌, [], ◌∷◌, Option, Some, None, Result, Ok, Err, List, MatchOption, IfOk, slice_get, length}
use Rattle.meaning.specs.Algorithm.{Algorithm}
use Rattle.plan.specs.Plan.{Group, Plan}
use Rattle.plan.specs.Lines.{body_line}
use Rattle.plan.specs.Certificate.Certificate.{Certificate}
use Rattle.soundness.specs.Given.{outline_of}
use Rattle.soundness.specs.Obligations.{obligations}
use Rattle.soundness.specs.Shown.{start}
use Rattle.soundness.specs.Nests.Laws.{domains_of}
use Rattle.tails.specs.Windows.Nests.{slid_nests}
use Rattle.soundness.specs.Outline.Refusals.Codes.{least}
use Rattle.soundness.specs.declared.outline.refusals.code.Flaw.{Flaw}
use Rattle.algo.specs.View.{algorithm_of}
use Rattle.soundness.specs.Outline.View.{plan_in, certificate_in, number_in, group_in}
use Rattle.rules.specs.Bounding.Rules.{rules_of}
use Rattle.rules.specs.declared.bounding.plan_bounds.PlanBounds.{PlanBounds}
use Rattle.obligations.specs.declared.context.judge.Part.{Part}
use Rattle.obligations.specs.declared.context.judge.Part.TheVariants.{Lines, Claims, Before}
use Rattle.obligations.specs.Asked.{first_unmet}
use Rattle.soundness.specs.Binders.View.{grid_binders}
use Rattle.tails.specs.Windows.Shown.{IsShown}

-- the first obligation of a group's lines, of this part and in the order of its statements, that is not shown
abbrev pub unmet : Algorithm → Plan → Certificate → ℕ → Group → Part → Option Flaw
unmet a p c n g part =
    first_unmet (rules_of a p c n) (slid_nests (outline_of p c n g) (rules_of a p c n) (domains_of a)) part
    (obligations (outline_of p c n g) (rules_of a p c n) g.body (body_line p n) (start (grid_binders g.grid)))

module _ (a : Algorithm) (p : Plan) (c : Certificate) where
  -- all that the lines of each group owe is shown
  abbrev pub AllMet : Type 0
  AllMet = (n : ℕ) (g : Group) → slice_get p.groups n ≡ Some g → IsShown (rules_of a p c n) a p c n g

  -- some part of the group's obligations is told so
  pub record IsUnmetOf (n : ℕ) (g : Group) (f : Flaw) : Type 0 where
    pub part : Part
    pub told : unmet a p c n g part ≡ Some f

  -- and nothing of the group is told before
  pub record IsFirstOf (n : ℕ) (g : Group) (f : Flaw) : Type 0 where
    pub is_unmet : IsUnmetOf n g f
    pub none_before : unmet a p c n g (Before f) ≡ None

  -- an answer for this part of the group's obligations: none where nothing of it is told, or the first of the whole group
  abbrev pub IsFirstIn : ℕ → Group → Part → Option Flaw → Type 0
  IsFirstIn n g part r = MatchOption r (unmet a p c n g part ≡ None) (IsFirstOf n g)

  -- what some group's lines owe is told so, and nothing of any group is told before
  pub record IsFirstUnmet (f : Flaw) : Type 0 where
    pub number : ℕ
    pub group : Group
    pub stands : slice_get p.groups number ≡ Some group
    pub part : Part
    pub first : unmet a p c number group part ≡ Some f
    pub none_before : (m : ℕ) (h : Group) → slice_get p.groups m ≡ Some h → unmet a p c m h (Before f) ≡ None

  -- ---- tasks: the first ask each group for its lines, as many others for its claims

  abbrev pub group_at : ℕ → ℕ
  group_at task = if nat_lt task (length p.groups) then task else task - length p.groups

  abbrev pub part_at : ℕ → Part
  part_at task = if nat_lt task (length p.groups) then Lines else Claims

  -- what a task answers
  abbrev pub TaskSays : {E : Type 0} → ℕ → Result (Option Flaw) E → Type 0
  TaskSays task r = (g : Group) → slice_get p.groups (group_at task) ≡ Some g → IfOk r (IsFirstIn (group_at task) g (part_at task))

-- ---- the group that bounds in memory are of

abbrev pub unmet_in : PlanBounds → Part → Option Flaw
unmet_in b part = let o = b.outlined.now in unmet (algorithm_of b.algo.now) (plan_in o) (certificate_in o) (number_in o) (group_in o) part

abbrev pub IsUnmetInGroup : PlanBounds → Flaw → Type 0
IsUnmetInGroup b f = let o = b.outlined.now in IsUnmetOf (algorithm_of b.algo.now) (plan_in o) (certificate_in o) (number_in o) (group_in o) f

abbrev pub IsFirstInGroup : PlanBounds → Flaw → Type 0
IsFirstInGroup b f = let o = b.outlined.now in IsFirstOf (algorithm_of b.algo.now) (plan_in o) (certificate_in o) (number_in o) (group_in o) f

-- ---- the least of what is told

-- the flaw that is told first of one and those that follow, nothing where one of them is an error
abbrev pub least_from : {E : Type 0} → Option Flaw → List (Result (Option Flaw) E) → Option (Option Flaw)
least_from o [] = Some o
least_from o (Ok x ∷ rs) = least_from (least o x) rs
least_from o (Err e ∷ rs) = None
