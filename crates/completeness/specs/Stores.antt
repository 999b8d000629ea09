-- What the stores of functions owe the checker, and all lines of their groups.
use Rattle.std.specs.Prelude.{◌≡◌, ◌≤◌, ◌⊎◌, ℕ, true, List, Some, IsSome, slice_get}
use Rattle.std.specs.List.{AllByRecursion}
use Rattle.std.specs.Int.RustNames.{unsigned_abs}
use Rattle.meaning.specs.Algorithm.{Algorithm}
use Rattle.plan.specs.Plan.{Group, Plan}
use Rattle.plan.specs.Lines.{body_line}
use Rattle.plan.specs.Certificate.Certificate.{Certificate}
use Rattle.soundness.specs.Given.{outline_of}
use Rattle.soundness.specs.Obligations.{obligations}
use Rattle.soundness.specs.Shown.{Nests, all_shown, start}
use Rattle.soundness.specs.Binders.View.{grid_binders}
use Rattle.rules.specs.Bounding.Rules.{rules_of}
use Rattle.sched.specs.declared.numbers.Extent.{Extent}
use Rattle.sched.specs.Skeleton.{SkeletonText}
use Rattle.sched.specs.Stored.{FormulaText, StoredText}
use Rattle.sched.specs.Around.{grid_scope}
use Rattle.sched.specs.Taken.{SiteText}
use Rattle.regions.specs.Taken.{sites_of, hold_calls, tight}
use Rattle.sched.specs.Bounded.{whole}
use Rattle.lin.specs.declared.scope.Binding.{Binding}
use Rattle.sched.specs.Fetches.{Entry}
use Rattle.lower.specs.Fetches.{is_fetched}
use Rattle.lower.specs.Groups.{roots_over}

-- ---- where what is fetched holds the calls

-- what is fetched of a dimension is shown to hold each call: it is a tight part, which forms over the grid tell and which is shown to; or all numbers of the
-- dimension are
abbrev pub IsHeldPart : List Binding → List SiteText → ℕ → Extent → Type 0
IsHeldPart grid ss d x = IsSome (tight grid ss d x) ⊎ (hold_calls ss d (whole x) ≡ true)

-- so it is in each dimension of what the group of this number fetches of each other function
abbrev pub AreHeld : Algorithm → List StoredText → ℕ → StoredText → List FormulaText → SkeletonText → Type 0
AreHeld a gs n g fs k =
    (h : ℕ) (e : Entry) → slice_get (roots_over a gs) h ≡ Some e → is_fetched fs n h e ≡ true
    → (ss : List SiteText) → sites_of a g fs k e.0.subject.name ≡ Some ss
    → (d : ℕ) (x : Extent) → slice_get e.1.region d ≡ Some x → IsHeldPart (grid_scope k.grid) ss d x

-- ---- all lines of a group

-- all that a group's lines owe is shown, where the tests of nests are such
abbrev pub GroupShown : (Algorithm → Plan → Certificate → ℕ → Group → Nests → Type 0) → Algorithm → Plan → Certificate → ℕ → Group → Type 0
GroupShown AreSuch a p c n g =
    let rules = rules_of a p c n in
    (nests : Nests) → AreSuch a p c n g nests →
    all_shown rules nests (obligations (outline_of p c n g) rules g.body (body_line p n) (start (grid_binders g.grid))) ≡ true

-- ---- where regions begin near 0

-- the first numbers of a region are within 2^16
abbrev pub IsNearRegion : List Extent → Type 0
IsNearRegion es = AllByRecursion (λ x. unsigned_abs x.low ≤ 65536) es

-- nearer: within 2^15; and the ends of the ranges of reduction variables within 49,152
abbrev pub IsCloseRegion : StoredText → List Extent → Type 0
IsCloseRegion u es =
    AllByRecursion (λ x. unsigned_abs x.low ≤ 32768) es
    × AllByRecursion (λ c. AllByRecursion (λ r. (unsigned_abs r.low ≤ 49152) × (unsigned_abs r.high ≤ 49152)) c.ranges) u.changes
