-- What the lines of a group owe the checker, of a function whose loops are split once.
use Rattle.std.specs.Prelude.{◌≡◌, ◌⊎◌, ℕ, ◌==◌, ◌||◌, Bool, true, false, List, Some, pos, ◌+ℤ◌, ◌≤ℤ◌, slice_get}
use Rattle.std.specs.List.{AllByRecursion, list_all}
use Rattle.plan.specs.Plan.{Group, Plan, Statement, Seq, For, Let, First, Guard, Alloc, Fetch, Store, Publish, Statements, Empty, Then}
use Rattle.plan.specs.Lines.{body_line}
use Rattle.plan.specs.View.{plan_of}
use Rattle.plan.specs.Certificate.Certificate.{Certificate, certificate_of}
use Rattle.soundness.specs.Given.{outline_of}
use Rattle.soundness.specs.Obligations.{is_member, obligations}
use Rattle.soundness.specs.Shown.{is_shown, start}
use Rattle.soundness.specs.Nests.Laws.{domains_of}
use Rattle.soundness.specs.Binders.View.{grid_binders}
use Rattle.rules.specs.Bounding.Rules.{rules_of}
use Rattle.rules.specs.Widths.Widths.{wide_lines}
use Rattle.tails.specs.Windows.Nests.{slid_nests}
use Rattle.audit.specs.Verdict.Left.{leaves}
use Rattle.meaning.specs.Algorithm.{Algorithm}
use Rattle.meaning.specs.Conditions.{IsAlgorithm}
use Rattle.sched.specs.declared.schedule.Split.{Split}
use Rattle.sched.specs.declared.numbers.Numbers.{Numbers}
use Rattle.sched.specs.Schedule.{Schedule}
use Rattle.sched.specs.Legal.{IsLegal}
use Rattle.sched.specs.Numbers.{numbers_named, loop_numbers, last_number}
use Rattle.sched.specs.Standing.{has_rest}
use Rattle.lower.specs.declared.lowering.Lowered.{Lowered}
use Rattle.sched.specs.Stored.{FormulaText, StoredText}
use Rattle.lower.specs.Stored.{stored_functions}
use Rattle.sched.specs.Regions.{LaidText}
use Rattle.regions.specs.Regions.{laid_functions}
use Rattle.regions.specs.Faults.{are_whole}
use Rattle.lower.specs.Refused.{AreSmall, AreRegionsKept}
use Rattle.lower.specs.Groups.{AreGroupsMade}
use Rattle.completeness.specs.Laws.{AreLinesTold, NamesNoLoad, IsStore}
use Rattle.completeness.specs.Owed.{OweShown, AreGridsFew, AreSymbolsFew, AreClaimsNear}
use Rattle.completeness.specs.Nested.{TakeSplit}
use Rattle.completeness.specs.Stores.{AreHeld, GroupShown, IsNearRegion, IsCloseRegion}
use Rattle.completeness.specs.Simple.{SimpleIndices}
use Rattle.completeness.specs.Placed.{ArePlaced, AreLeftsHeld, AreOwnHeld}
use Rattle.completeness.specs.Blocked.{is_tailed, IsKept}
use Rattle.completeness.specs.Fitting.{IsSplitOnce}

-- where the blocks of a split run past the end of its loop, and no guard keeps them within it, the numbers that they reach are of 32 bits
abbrev pub AreEndsShort : List Numbers → List Split → Type 0
AreEndsShort rs cs =
    AllByRecursion
    (λ c. is_tailed rs c ≡ false → has_rest c (numbers_named rs c.whole).count ≡ true → (last_number (numbers_named rs c.whole) +ℤ pos c.factor) ≤ℤ pos 2147483647) cs

-- the region that is needed of the function begins within 2^15 of 0, as, nearly, its reduction ranges do; or within 2^16, its blocks need no line of their own, and
-- asking for it came to an end, where indices of own calls may leave it; or, wherever it begins, each index of its definitions is simple
abbrev pub IsNearOrSimple : Algorithm → Schedule → ℕ → StoredText → List FormulaText → LaidText → Type 0
IsNearOrSimple a s n u fs r = (IsCloseRegion u r.region ⊎ (IsKept a s n u × IsNearRegion r.region × ArePlaced a u fs r)) ⊎ SimpleIndices fs

abbrev mutual
  -- some line stores into the buffer
  pub stores_to : ℕ → Statement → Bool
  stores_to b (Seq all) = some_stores_to b all
  stores_to b (For i x kind body) = stores_to b body
  stores_to b (Let i pick ls) = false
  stores_to b (First i x y) = stores_to b x || stores_to b y
  stores_to b (Guard low high body) = stores_to b body
  stores_to b (Alloc m f places) = false
  stores_to b (Fetch m g region) = false
  stores_to b (Store m k at e) = m == b
  stores_to b (Publish c) = false

  pub some_stores_to : ℕ → Statements → Bool
  some_stores_to b Empty = false
  some_stores_to b (Then a rest) = stores_to b a || some_stores_to b rest

-- of a group with a number that is not shown to be small: what its lines owe is shown but at such a line, of which that is told (K14); and none of its stores
-- leaves its buffer, of which else what it owes is told before
pub record IsShownElsewhere (a : Algorithm) (p : Plan) (c : Certificate) (n : ℕ) (g : Group) : Type 0 where
  pub shown :
      list_all (λ o. is_shown (rules_of a p c n) (slid_nests (outline_of p c n g) (rules_of a p c n) (domains_of a)) o
      || is_member o.line (wide_lines (rules_of a p c n) (grid_binders g.grid) (body_line p n) g.body))
      (obligations (outline_of p c n g) (rules_of a p c n) g.body (body_line p n) (start (grid_binders g.grid))) ≡ true
  pub stays : (b k : ℕ) → stores_to b g.body ≡ true → leaves b k g.body ≡ false

-- of each function whose loops are split once, whatever the tails, in whatever order, whichever loops are parallel but the inner ones, where what it fetches
-- holds its calls, and each left index that is no variable lies in its dimension, as the indices of its own calls there do: all that the lines of its group owe is
-- shown by the tests of split nests: K2, K4, K5, K6 and K7 are told of none of them
abbrev pub BlockedGroupsOweShown : Type 0
BlockedGroupsOweShown =
    (a : Algorithm) (s : Schedule) (l : Lowered) → IsAlgorithm a → IsLegal a s → AreSmall a s → AreRegionsKept a s → AreGroupsMade a s l
    → are_whole (stored_functions a s) ≡ true → NamesNoLoad a → AreLinesTold (plan_of l.plan) → AreGridsFew (plan_of l.plan) → AreSymbolsFew (plan_of l.plan)
    → AreClaimsNear (certificate_of l.certificate)
    → (n : ℕ) (g : Group) → slice_get (plan_of l.plan).groups n ≡ Some g → (u : StoredText) → slice_get (stored_functions a s) n ≡ Some u → IsSplitOnce u
    → (fs : List FormulaText) → u.formulas ≡ Some fs → (r : LaidText) → slice_get (laid_functions a (stored_functions a s)) n ≡ Some (Some r)
    → AreLeftsHeld a u fs r.region r.skeleton → AreOwnHeld a u fs r.region r.skeleton → AreHeld a (stored_functions a s) n u fs r.skeleton → AreEndsShort (loop_numbers u.subject.variables
    u.placed.cuts r.region) u.placed.cuts
    → GroupShown TakeSplit a (plan_of l.plan) (certificate_of l.certificate) n g

-- so it is, whatever such a function fetches, where its region begins near 0 or its indices are simple; but where blocks run past the numbers of 32 bits what a
-- store owes may not be shown: of its line a limit is told first
abbrev pub NearBlockedGroupsOweShown : Type 0
NearBlockedGroupsOweShown =
    (a : Algorithm) (s : Schedule) (l : Lowered) → IsAlgorithm a → IsLegal a s → AreSmall a s → AreRegionsKept a s → AreGroupsMade a s l
    → are_whole (stored_functions a s) ≡ true → NamesNoLoad a → AreLinesTold (plan_of l.plan) → AreGridsFew (plan_of l.plan) → AreSymbolsFew (plan_of l.plan)
    → AreClaimsNear (certificate_of l.certificate)
    → (n : ℕ) (g : Group) → slice_get (plan_of l.plan).groups n ≡ Some g → (u : StoredText) → slice_get (stored_functions a s) n ≡ Some u → IsSplitOnce u
    → (fs : List FormulaText) → u.formulas ≡ Some fs → (r : LaidText) → slice_get (laid_functions a (stored_functions a s)) n ≡ Some (Some r)
    → IsNearOrSimple a s n u fs r
    → GroupShown TakeSplit a (plan_of l.plan) (certificate_of l.certificate) n g ⊎ IsShownElsewhere a (plan_of l.plan) (certificate_of l.certificate) n g

-- of each function whose loops are split once, whatever the tails and in whatever order the loops stand, whose indices are simple and whose blocks reach numbers
-- of 32 bits where nothing keeps them within their loop: all that the stores of its group owe is shown
abbrev pub StoreLinesOweShown : Type 0
StoreLinesOweShown =
    (a : Algorithm) (s : Schedule) (l : Lowered) → IsAlgorithm a → IsLegal a s → AreSmall a s → AreRegionsKept a s → AreGroupsMade a s l
    → are_whole (stored_functions a s) ≡ true → NamesNoLoad a → AreLinesTold (plan_of l.plan) → AreGridsFew (plan_of l.plan) → AreSymbolsFew (plan_of l.plan)
    → (n : ℕ) (g : Group) → slice_get (plan_of l.plan).groups n ≡ Some g → (u : StoredText) → slice_get (stored_functions a s) n ≡ Some u
    → IsSplitOnce u → (fs : List FormulaText) → u.formulas ≡ Some fs → (r : LaidText) → slice_get (laid_functions a (stored_functions
    a s)) n ≡ Some (Some r)
    → SimpleIndices fs → AreEndsShort (loop_numbers u.subject.variables u.placed.cuts r.region) u.placed.cuts
    → OweShown IsStore a (plan_of l.plan) (certificate_of l.certificate) n g
