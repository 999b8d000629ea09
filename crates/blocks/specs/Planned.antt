-- Whether the lines of a function's group can be written, in whose loops others may be computed: forms over the grid tell what its pieces own and claim, what they own is
-- shown to lie in the region, what each call of another function stays within is found, each store has an index for each variable, and under the names of the plan no form
-- of a nest leaves the limits.
use Rattle.std.specs.Prelude.{ℕ, ◌+◌, ℤ, pos, Bool, true, false, if◌then◌else◌, List, [], ◌∷◌, ◌++◌, map, Option, Some, None, slice_get}
use Rattle.std.specs.Ordering.{int_eq}
use Rattle.tree.specs.Term.{Term}
use Rattle.lin.specs.Forms.{Form, number, combined}
use Rattle.lin.specs.Regions.{inside}
use Rattle.lin.specs.declared.span.Span1.{Span1}
use Rattle.meaning.specs.Names.{same_name}
use Rattle.sched.specs.declared.schedule.Split.{Split}
use Rattle.sched.specs.declared.schedule.Tail.TheVariants.{Guard, Roundup, Shift}
use Rattle.sched.specs.declared.numbers.Extent.{Extent}
use Rattle.sched.specs.declared.numbers.Numbers.{Numbers}
use Rattle.sched.specs.Numbers.{numbers_named}
use Rattle.sched.specs.Skeleton.{NestText, SkeletonText}
use Rattle.sched.specs.Standing.{◌>>=◌, form_named}
use Rattle.blocks.specs.declared.blocks.Dimension.{Dimension}
use Rattle.sched.specs.Around.{names_with, grid_scope}
use Rattle.sched.specs.Bounded.{whole}
use Rattle.sched.specs.Stored.{FormulaText, StoredText}
use Rattle.sched.specs.Bodies.{first_left, other_lefts}
use Rattle.blocks.specs.Groups.{grid_over}
use Rattle.sched.specs.Blocks.{factor_of, difference}
use Rattle.blocks.specs.Blocks.{block_end, own_last, claim_last, with_last, product, end_of, reach_over, is_guarded, uncut, places_by, whole_dimension, owned_region, lay_over, BlockText}
use Rattle.blocks.specs.Blocks.{PartText, Whole, Run, Scattered, LayText}

-- ---- forms

-- each form so many times, and a number more, behind others; None where one leaves the limits of forms
abbrev pub add_stepped : ℤ → ℤ → List Form → List Form → Option (List Form)
add_stepped low factor [] before = Some before
add_stepped low factor (f ∷ fs) before = combined (number low) factor f >>= λ g. add_stepped low factor fs (before ++ g ∷ [])

-- each form, and another one more
abbrev pub add_moved : Form → List Form → List Form → Option (List Form)
add_moved by [] before = Some before
add_moved by (f ∷ fs) before = combined by (pos 1) f >>= λ g. add_moved by fs (before ++ g ∷ [])

-- a form, if there is one, so many times, and a number more
abbrev pub maybe_stepped : ℤ → ℤ → Option Form → Option (Option Form)
maybe_stepped low factor None = Some None
maybe_stepped low factor (Some f) = combined (number low) factor f >>= λ g. Some (Some g)

-- the sum of two forms, if there are both
abbrev pub maybe_moved : Option Form → Option Form → Option (Option Form)
maybe_moved None o = Some None
maybe_moved (Some by) None = Some None
maybe_moved (Some by) (Some f) = combined by (pos 1) f >>= λ g. Some (Some g)

-- ---- blocks: as `Blocks` has them, where no form leaves the limits

abbrev pub told_start : Split → Numbers → Form → Option Form
told_start c own f = combined (number own.low) (factor_of c) f

abbrev pub told_ends : Split → Numbers → List Form → Option (List Form)
told_ends c own fs = add_stepped (block_end own.low c) (factor_of c) fs []

abbrev pub told_limits : Split → Numbers → Option ℤ → List Form → Option (List Form)
told_limits c own last fs = told_ends c own fs >>= λ es. Some (with_last es last)

-- the further upper ends of a part of one block that begins here: those of the part, those of the blocks, and the last number where that counts
abbrev pub told_inner_limits : Split → Numbers → Form → Option ℤ → List Form → List Form → Option (List Form)
told_inner_limits c own base last inner outer =
    told_ends c own outer >>= λ es. add_moved base inner [] >>= λ ms. Some (with_last (ms ++ es) last)

module _ (l : LayText) where
  -- under `shift` a piece visits from the start of its one block on
  abbrev pub shifted_origin : Split → BlockText → Option Form
  shifted_origin c outer = if int_eq outer.length (pos 1) then form_named l.starts c.whole else None

  abbrev pub told_origin : Split → Numbers → BlockText → Option (Option Form)
  told_origin c own outer = elim c.tail [
    | Guard ↦ maybe_stepped own.low (factor_of c) outer.origin
    | Roundup ↦ maybe_stepped own.low (factor_of c) outer.origin
    | Shift ↦ Some (shifted_origin c outer)
  ]

  abbrev pub told_inner_origin : Split → List Split → Numbers → BlockText → BlockText → Option (Option Form)
  told_inner_origin c cs own outer inner =
      if is_guarded l c cs own then Some None else (told_origin c own outer >>= λ o. maybe_moved o inner.origin)

  abbrev pub told_blocks : Split → List Split → Numbers → BlockText → Option PartText
  told_blocks c cs own outer =
      told_start c own outer.start >>= λ start.
      told_limits c own (own_last c own) outer.own_limits >>= λ owned.
      told_limits c own (claim_last c own) outer.claim_limits >>= λ claimed.
      told_origin c own outer >>= λ origin.
      Some (Run (record {
        start = start;
        length = product (factor_of c) outer.length;
        own_limits = owned;
        claim_limits = claimed;
        origin = origin;
        reach = reach_over c outer (end_of l.numbers c.inner cs);
      }))

  abbrev pub told_within : Split → List Split → Numbers → BlockText → BlockText → Option PartText
  told_within c cs own outer inner =
      told_start c own outer.start >>= λ base.
      combined base (pos 1) inner.start >>= λ start.
      told_inner_limits c own base (own_last c own) inner.own_limits outer.own_limits >>= λ owned.
      told_inner_limits c own base (claim_last c own) inner.claim_limits outer.claim_limits >>= λ claimed.
      told_inner_origin c cs own outer inner >>= λ origin.
      Some (Run (record { start = start; length = inner.length; own_limits = owned; claim_limits = claimed; origin = origin; reach = inner.reach }))

  abbrev pub told_joined : Split → List Split → PartText → PartText → Option PartText
  told_joined c cs Whole Whole = Some Whole
  told_joined c cs (Run outer) Whole = told_blocks c cs (numbers_named l.numbers c.whole) outer
  told_joined c cs (Run outer) (Run inner) =
      if int_eq outer.length (pos 1) then told_within c cs (numbers_named l.numbers c.whole) outer inner else Some Scattered
  told_joined c cs _ _ = Some Scattered

  abbrev pub told_part : List ℕ → List Split → Option PartText
  told_part x [] = Some (uncut l x)
  told_part x (c ∷ cs) =
      if same_name c.whole x then (told_part c.outer cs >>= λ outer. told_part c.inner cs >>= λ inner. told_joined c cs outer inner) else told_part x cs

-- from a form on so many numbers, and at most each of the limits
abbrev pub told_span : Form → ℤ → List Form → Option Span1
told_span start count limits =
    combined (number (difference count (pos 1))) (pos 1) start >>= λ last. Some (record { lower = start ∷ []; upper = last ∷ limits })

module _ (l : LayText) where
  abbrev pub told_block : List ℕ → List Split → BlockText → Option Dimension
  told_block x cs b =
      told_span b.start b.length b.own_limits >>= λ own.
      told_span b.start b.length b.claim_limits >>= λ claim.
      Some (record { own = own; claim = claim; places = places_by l x cs b.reach b.origin })

  abbrev pub told_by : List ℕ → List Split → PartText → Option Dimension
  told_by x cs Whole = Some (whole_dimension l x cs)
  told_by x cs (Run b) = told_block x cs b
  told_by x cs Scattered = Some (whole_dimension l x cs)

  abbrev pub told_dimension : List Split → List ℕ → Option Dimension
  told_dimension cs x = told_part l x cs >>= told_by x cs

  -- those of these variables, behind others
  abbrev pub add_dimensions : List Split → List (List ℕ) → List Dimension → Option (List Dimension)
  add_dimensions cs [] before = Some before
  add_dimensions cs (x ∷ xs) before = told_dimension cs x >>= λ d. add_dimensions cs xs (before ++ d ∷ [])

-- each dimension of a piece of a function over a region; None where a form leaves the limits
abbrev pub told_dimensions : StoredText → List Extent → SkeletonText → Option (List Dimension)
told_dimensions g region k = add_dimensions (lay_over g region k) g.placed.cuts g.subject.variables []

-- ---- what a piece owns

-- it is shown to lie in the region
abbrev pub is_inside : StoredText → List Extent → List Dimension → Bool
is_inside g region ds = inside (grid_scope (grid_over g region)) (owned_region ds) (map whole region)

-- ---- what it stores

-- the skeleton has a form for a coordinate, or the definition a left index
abbrev pub has_index : Option Form → Option Term → Bool
has_index (Some f) i = true
has_index None (Some i) = true
has_index None None = false

abbrev pub have_indices : List (List ℕ) → List (Option Form) → List (Option Term) → Bool
have_indices xs [] lefts = true
have_indices [] (o ∷ os) lefts = false
have_indices (x ∷ xs) (o ∷ os) lefts = if has_index o (first_left lefts) then have_indices xs os (other_lefts lefts) else false

abbrev pub is_stored_by : StoredText → ℕ → NestText → Option FormulaText → Bool
is_stored_by g d n None = false
is_stored_by g d n (Some f) = have_indices (names_with g.variables g.changes d) n.at f.at

-- those of the definitions from this number on
abbrev pub are_stored : StoredText → List FormulaText → ℕ → List NestText → Bool
are_stored g fs d [] = true
are_stored g fs d (n ∷ ns) = if is_stored_by g d n (slice_get fs d) then are_stored g fs (d + 1) ns else false
