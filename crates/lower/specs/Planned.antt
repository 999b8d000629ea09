-- Whether the lines of a function's group can be written, in whose loops others may be computed: forms over the grid tell what its pieces own and claim, what they own is
-- shown to lie in the region, what each call of another function stays within is found, each store has an index for each variable, and under the names of the plan no form
-- of a nest leaves the limits.
-- What crates below need of it stands there: `blocks`.
use Rattle.std.specs.Prelude.{◌≡◌, ℕ, ◌+◌, ◌==◌, Bool, true, false, if◌then◌else◌, List, [], ◌∷◌, map, Option, Some, None, Result, Ok, Err}
use Rattle.std.specs.Option.{is_some}
use Rattle.lin.specs.Regions.{inside}
use Rattle.meaning.specs.Algorithm.{Algorithm}
use Rattle.sched.specs.declared.numbers.Extent.{Extent}
use Rattle.sched.specs.declared.region_rule.RegionRule.TheVariants.{Unbounded}
use Rattle.sched.specs.Skeleton.{SkeletonText}
use Rattle.blocks.specs.declared.blocks.Dimension.{Dimension}
use Rattle.lower.specs.declared.error.LowerError.{LowerError}
use Rattle.lower.specs.declared.error.LowerError.TheVariants as error
use Rattle.sched.specs.Stored.{StoredText}
use Rattle.sched.specs.Regions.{LaidText}
use Rattle.regions.specs.Regions.{laid_functions}
use Rattle.sched.specs.Fetches.{Entry}
use Rattle.lower.specs.Groups.{has_region, rooted, roots_over}
use Rattle.lower.specs.Broken.{Inside}
use Rattle.regions.specs.Asked.{sites_in}
use Rattle.sched.specs.Placed.{PlacedText}
use Rattle.blocks.specs.Placed.{begun, group_owner, nests_over_grid}
use Rattle.blocks.specs.Blocks.{dimensions_of, claimed_region}
use Rattle.blocks.specs.Planned.{told_dimensions, is_inside, are_stored}

abbrev pub is_owned_by : StoredText → List Extent → Option (List Dimension) → Bool
is_owned_by g region None = false
is_owned_by g region (Some ds) = is_inside g region ds

abbrev pub is_owned : StoredText → List Extent → SkeletonText → Bool
is_owned g region k = is_owned_by g region (told_dimensions g region k)

-- ---- what it fetches

-- what each call of the function of this entry, the group h, stays within is found, also where those that are computed inside call it, where that is another group than n
abbrev pub is_found : Algorithm → Entry → List PlacedText → ℕ → ℕ → Entry → Bool
is_found a e is n h c = if h == n then true else is_some (sites_in a c.0.subject.name e is)

-- those of the groups from h on
abbrev pub are_found : Algorithm → Entry → List PlacedText → ℕ → ℕ → List Entry → Bool
are_found a e is n h [] = true
are_found a e is n h (c ∷ cs) = if is_found a e is n h c then are_found a e is n (h + 1) cs else false

-- ---- nests

-- its nests can be written, with those of the functions that are computed inside: whatever stands before them, since they hang on no number of a line, a buffer or a claim
abbrev pub are_nested : Entry → List PlacedText → Bool
are_nested e [] = are_stored e.0 e.2 0 e.1.skeleton.nests
are_nested e (i ∷ is) =
    is_some (nests_over_grid (i ∷ is) (group_owner e (claimed_region (dimensions_of e.0 e.1.region e.1.skeleton))) e.1.skeleton (begun 0 0 e.1.skeleton))

-- ---- groups

-- what the pieces of the group n of these functions fetch and make, where these are computed inside its loops
abbrev pub is_written : Algorithm → List Entry → ℕ → List PlacedText → Entry → Bool
is_written a all n is e = if are_found a e is n 0 all then are_nested e is else false

-- the group n of these functions
abbrev pub is_planned : Algorithm → List Entry → ℕ → List PlacedText → Entry → Bool
is_planned a all n is e = if is_owned e.0 e.1.region e.1.skeleton then is_written a all n is e else false

-- no name where it is so, else this one
abbrev pub name_unless : Bool → List ℕ → Option (List ℕ)
name_unless true x = None
name_unless false x = Some x

abbrev pub or_later : Option (List ℕ) → Option (List ℕ) → Option (List ℕ)
or_later (Some x) later = Some x
or_later None later = later

-- of a group in whose loops these are computed its own function's; or that of which a bound is missing there
abbrev pub unplanned_at : Algorithm → List Entry → ℕ → Inside → Entry → Option (List ℕ)
unplanned_at a all n (Ok is) e = name_unless (is_planned a all n is e) e.0.subject.name
unplanned_at a all n (Err x) e = Some x

-- that of the first, from the group n on, whose lines can't be written
abbrev pub first_unplanned : Algorithm → List Entry → ℕ → List Inside → List Entry → Option (List ℕ)
first_unplanned a all n (i ∷ inside) (e ∷ es) = or_later (unplanned_at a all n i e) (first_unplanned a all (n + 1) inside es)
first_unplanned a all n [] es = None
first_unplanned a all n (i ∷ inside) [] = None

-- a function has definitions and a region, where it is a root function
abbrev pub is_laid : StoredText → Option LaidText → Bool
is_laid g l = if g.subject.is_root then has_region g.formulas l else true

-- the name of the first that lacks them
abbrev pub first_unlaid : List StoredText → List (Option LaidText) → Option (List ℕ)
first_unlaid [] ls = None
first_unlaid (g ∷ gs) [] = Some g.subject.name
first_unlaid (g ∷ gs) (l ∷ ls) = or_later (name_unless (is_laid g l) g.subject.name) (first_unlaid gs ls)

-- over these regions, where these are computed inside, the name of the first that has none, or else of the first whose group can't be written
abbrev pub unplanned_over : Algorithm → List StoredText → List (Option LaidText) → List Inside → Option (List ℕ)
unplanned_over a gs ls inside = or_later (first_unlaid gs ls) (first_unplanned a (rooted true gs ls) 0 inside (rooted true gs ls))

-- nothing is computed inside these groups
abbrev pub none_inside : List Entry → List Inside
none_inside es = map (λ e. Ok []) es

-- the same of whole functions
abbrev pub unplanned : Algorithm → List StoredText → Option (List ℕ)
unplanned a gs = unplanned_over a gs (laid_functions a gs) (none_inside (roots_over a gs))

-- ---- as it is told

-- L12 of the function of this name, or no refusal where there is none; want of memory aside
abbrev pub TellsOf : {X : Type 0} → Result X LowerError → Option (List ℕ) → Type 0
TellsOf (Ok x) name = name ≡ None
TellsOf (Err error.Memory) name = Unit {0}
TellsOf (Err (error.Schedule e)) name = ⊥
TellsOf (Err (error.Broken r x)) name = (r ≡ Unbounded) × (name ≡ Some x)
