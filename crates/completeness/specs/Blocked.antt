-- What the claims of nests owe the checker, of functions whose loops are split once.
use Rattle.std.specs.Prelude.{◌≡◌, ℕ, Bool, true, false, not, ◌&&◌, ◌||◌, if◌then◌else◌, List, [], ◌∷◌, Some, slice_get}
use Rattle.std.specs.List.{AllByRecursion, list_any}
use Rattle.plan.specs.Plan.{Group, Plan}
use Rattle.plan.specs.Lines.{body_line}
use Rattle.plan.specs.View.{plan_of}
use Rattle.plan.specs.Certificate.Certificate.{Certificate, certificate_of}
use Rattle.meaning.specs.Algorithm.{Algorithm}
use Rattle.meaning.specs.Conditions.{IsAlgorithm}
use Rattle.meaning.specs.Names.{same_name}
use Rattle.soundness.specs.Given.{outline_of}
use Rattle.soundness.specs.Obligations.{claim_obligations}
use Rattle.soundness.specs.Shown.{Nests, all_shown, start}
use Rattle.soundness.specs.Binders.View.{grid_binders}
use Rattle.rules.specs.Bounding.Rules.{rules_of}
use Rattle.sched.specs.declared.schedule.Split.{Split}
use Rattle.sched.specs.declared.schedule.Tail.TheVariants.{Guard, Roundup, Shift}
use Rattle.sched.specs.declared.placing.Loop.{Loop}
use Rattle.sched.specs.declared.numbers.Numbers.{Numbers}
use Rattle.sched.specs.Schedule.{Schedule}
use Rattle.sched.specs.Legal.{IsLegal}
use Rattle.sched.specs.Placing.{has_loop, is_parallel}
use Rattle.sched.specs.Numbers.{numbers_named, loop_numbers}
use Rattle.sched.specs.Standing.{has_rest}
use Rattle.lower.specs.declared.lowering.Lowered.{Lowered}
use Rattle.sched.specs.Stored.{StoredText}
use Rattle.lower.specs.Stored.{stored_functions}
use Rattle.sched.specs.Regions.{LaidText}
use Rattle.regions.specs.Regions.{laid_functions}
use Rattle.regions.specs.Faults.{are_whole}
use Rattle.lower.specs.Refused.{AreSmall, AreRegionsKept}
use Rattle.lower.specs.Groups.{AreGroupsMade}
use Rattle.completeness.specs.Laws.{IsFetch, AreSplitOnce}
use Rattle.completeness.specs.Parted.{KeepsInner}
use Rattle.completeness.specs.Fitting.{IsSplitOnce}
use Rattle.completeness.specs.Owed.{EachClaim, AreClaimsNear}
use Rattle.completeness.specs.Nested.{TakeSplit}

-- a guard keeps the numbers of the split loop within it, or its last block is shifted: with `guard` its numbers are no multiple of the factor
abbrev pub is_tailed : List Numbers → Split → Bool
is_tailed rs c = elim c.tail [ Guard ↦ has_rest c (numbers_named rs c.whole).count | Roundup ↦ false | Shift ↦ true ]

-- of loops, the innermost first: that of the first name stands inside of that of the second
abbrev pub stands_inside : List Loop → List ℕ → List ℕ → Bool
stands_inside [] x y = false
stands_inside (l ∷ ls) x y = if same_name l.name x then has_loop ls y else stands_inside ls x y

-- a piece, or the turn of a loop around it, tells which block the split's inner loop walks
abbrev pub is_entered : List Loop → Split → Bool
is_entered ls c = list_any (λ l. is_parallel l && same_name l.name c.outer) ls || stands_inside ls c.inner c.outer

-- the split makes a line of its own in a nest: a guard, where its outer loop stands inside of the inner one, or the let of a shifted block
abbrev pub makes_line : List Loop → List Numbers → Split → Bool
makes_line ls rs c = elim c.tail [ Guard ↦ has_rest c (numbers_named rs c.whole).count && not (is_entered ls c) | Roundup ↦ false | Shift ↦ true ]

-- no loop that a split makes is split again, no inner one is parallel, none is with `shift`, and over the function's region a guard that keeps numbers within
-- the split loop is an upper form of its inner loop
pub record IsKept (a : Algorithm) (s : Schedule) (n : ℕ) (g : StoredText) : Type 0 where
  pub once : AreSplitOnce g.placed.cuts
  pub inners : KeepsInner g.placed.loops g.placed.cuts
  pub filled : (l : LaidText) → slice_get (laid_functions a (stored_functions a s)) n ≡ Some (Some l) →
      AllByRecursion (λ c. makes_line g.placed.loops (loop_numbers g.subject.variables g.placed.cuts l.region) c ≡ false) g.placed.cuts

-- all that the claims of nests owe is shown, where the tests of nests say yes to split nests
abbrev pub BlockedClaimsShown : Algorithm → Plan → Certificate → ℕ → Group → Type 0
BlockedClaimsShown a p c n g =
    let outline = outline_of p c n g in
    let rules = rules_of a p c n in
    EachClaim outline rules (λ kept begin last known s k. ¬ IsFetch s → (nests : Nests) → TakeSplit a p c n g nests →
    all_shown rules nests (claim_obligations outline rules kept begin last known s k) ≡ true) [] g.body (body_line p n) (start (grid_binders g.grid))

-- so it is of each function whose loops are split once, whatever the tails, in whatever order: a coordinate is a form over the grid, a loop's symbol, the first
-- number of a block, which may be a let over the grid or in the nest, and the symbol of a loop over its numbers, or the symbol of a let behind the guard that
-- keeps them
abbrev pub BlockedClaimsOweShown : Type 0
BlockedClaimsOweShown =
    (a : Algorithm) (s : Schedule) (l : Lowered) → IsAlgorithm a → IsLegal a s → AreSmall a s → AreRegionsKept a s → AreGroupsMade a s l
    → are_whole (stored_functions a s) ≡ true → AreClaimsNear (certificate_of l.certificate)
    → (n : ℕ) (g : Group) → slice_get (plan_of l.plan).groups n ≡ Some g → (u : StoredText) → slice_get (stored_functions a s) n ≡ Some u → IsSplitOnce u
    → BlockedClaimsShown a (plan_of l.plan) (certificate_of l.certificate) n g
