-- What of each dimension belongs to a piece: the numbers that it owns, those of which its claims speak, and the places of its buffer. A parallel loop gives each
-- piece a block of numbers; a split that is made around or inside of it makes blocks of blocks, or parts of one.
-- What crates below need of it stands there: `sched`.
use Rattle.std.specs.Prelude.{ℕ, ℤ, pos, ◌+ℤ◌, ◌*ℤ◌, int_lt, Bool, false, ◌&&◌, ◌||◌, if◌then◌else◌, List, [], ◌∷◌, ◌++◌, map, Option, Some, None}
use Rattle.std.specs.List.{list_any}
use Rattle.std.specs.Option.{option_map}
use Rattle.std.specs.Int.{saturate_signed, w64}
use Rattle.std.specs.Ordering.{int_eq}
use Rattle.lin.specs.Forms.{Form, number, plus_multiple}
use Rattle.lin.specs.declared.span.Span1.{Span1}
use Rattle.bounds.specs.Spans.{numbers}
use Rattle.plan.specs.declared.stmt.Places.{Places}
use Rattle.plan.specs.declared.stmt.Places.TheVariants.{From}
use Rattle.meaning.specs.Names.{same_name}
use Rattle.sched.specs.declared.schedule.Split.{Split}
use Rattle.sched.specs.declared.schedule.Tail.TheVariants.{Guard, Roundup, Shift}
use Rattle.sched.specs.declared.placing.Loop.{Loop}
use Rattle.sched.specs.declared.numbers.Extent.{Extent}
use Rattle.sched.specs.declared.numbers.Numbers.{Numbers}
use Rattle.sched.specs.declared.skeleton.Known.{Known}
use Rattle.sched.specs.Placing.{is_parallel}
use Rattle.sched.specs.Numbers.{numbers_named, last_number, loop_numbers}
use Rattle.sched.specs.Standing.{form_named, has_rest}
use Rattle.sched.specs.Skeleton.{SkeletonText}
use Rattle.blocks.specs.declared.blocks.Block.{Block as CodeBlock}
use Rattle.blocks.specs.declared.blocks.Part.{Part as CodePart}
use Rattle.blocks.specs.declared.blocks.Part.TheVariants as part
use Rattle.blocks.specs.declared.blocks.Lay.{Lay}
use Rattle.blocks.specs.declared.blocks.Dimension.{Dimension}
use Rattle.sched.specs.Regions.{count_of}
use Rattle.sched.specs.Stored.{StoredText}
use Rattle.sched.specs.Blocks.{difference, factor_of}

-- ---- numbers

-- sums, differences and products as 64 bits hold them
abbrev pub sum : ℤ → ℤ → ℤ
sum a b = saturate_signed w64 (a +ℤ b)

abbrev pub product : ℤ → ℤ → ℤ
product a b = saturate_signed w64 (a *ℤ b)

-- a number and so many times another
abbrev pub stepped : ℤ → ℤ → ℤ → ℤ
stepped low factor count = sum low (product factor count)

-- a number and so many times a form
abbrev pub multiple_from : ℤ → ℤ → Form → Form
multiple_from low factor f = plus_multiple (number low) factor f

abbrev pub raised : Form → ℤ → Form
raised f by = multiple_from by (pos 1) f

-- the last number of a block from this one on
abbrev pub block_end : ℤ → Split → ℤ
block_end low c = sum low (difference (factor_of c) (pos 1))

-- the last number that is visited of a split loop, where these are those of its outer and its inner loop: `roundup` runs past the end
unfoldable pub split_end : Split → Numbers → ℤ → ℤ → ℤ
split_end c own outer inner = elim c.tail [
  | Guard ↦ last_number own
  | Roundup ↦ sum (stepped own.low (factor_of c) outer) inner
  | Shift ↦ sum (difference (last_number own) (difference (factor_of c) (pos 1))) inner
]

-- the last number of which claims of all of a split loop speak: under `roundup` the end of the last block
unfoldable pub split_claim_end : Split → Numbers → ℤ → ℤ
split_claim_end c own outer = elim c.tail [
  | Guard ↦ last_number own
  | Roundup ↦ sum (stepped own.low (factor_of c) outer) (difference (factor_of c) (pos 1))
  | Shift ↦ last_number own
]

-- of the loop of this name, where these are the splits that are not looked at yet
abbrev pub end_of : List Numbers → List ℕ → List Split → ℤ
end_of rs x [] = last_number (numbers_named rs x)
end_of rs x (c ∷ cs) =
    if same_name c.whole x then split_end c (numbers_named rs x) (end_of rs c.outer cs) (end_of rs c.inner cs) else end_of rs x cs

abbrev pub claim_end_of : List Numbers → List ℕ → List Split → ℤ
claim_end_of rs x [] = last_number (numbers_named rs x)
claim_end_of rs x (c ∷ cs) = if same_name c.whole x then split_claim_end c (numbers_named rs x) (claim_end_of rs c.outer cs) else claim_end_of rs x cs

-- ---- blocks

-- a run of numbers that the grid fixes: its first, how many, the further upper ends of what a piece owns and of what its claims speak of, the first number that a
-- piece visits, where a form over the grid tells it, and how many from there on
pub record BlockText : Type 0 where
  pub start : Form
  pub length : ℤ
  pub own_limits : List Form
  pub claim_limits : List Form
  pub origin : Option Form
  pub reach : ℤ

-- what of a loop's numbers belongs to a piece: all, where no loop in it is parallel, a block, or others
pub data PartText : Type 0 where
  Whole : PartText
  Run : BlockText → PartText
  Scattered : PartText

-- what is known: the numbers of the loops, the loops, their forms over the grid, and those of the first numbers of blocks
pub record LayText : Type 0 where
  pub numbers : List Numbers
  pub loops : List Loop
  pub known : List Known
  pub starts : List Known

-- the last number, where the last block has fewer than the others
abbrev pub own_last : Split → Numbers → Option ℤ
own_last c own = if has_rest c own.count then Some (last_number own) else None

-- claims speak of what `roundup` computes past the end, too
abbrev pub claim_last : Split → Numbers → Option ℤ
claim_last c own = elim c.tail [ Guard ↦ own_last c own | Roundup ↦ None | Shift ↦ own_last c own ]

-- the ends of the blocks that these forms count
abbrev pub all_ends : Split → Numbers → List Form → List Form
all_ends c own forms = map (multiple_from (block_end own.low c) (factor_of c)) forms

abbrev pub with_last : List Form → Option ℤ → List Form
with_last limits None = limits
with_last limits (Some z) = limits ++ number z ∷ []

-- the turn of a parallel loop that is not split
abbrev pub alone_by : Option Form → PartText
alone_by None = Scattered
alone_by (Some f) = Run (record { start = f; length = pos 1; own_limits = []; claim_limits = []; origin = Some f; reach = pos 1 })

-- how many numbers of a split loop a piece visits, where the last of the inner loop is this
abbrev pub reach_over : Split → BlockText → ℤ → ℤ
reach_over c outer inner_end = elim c.tail [
  | Guard ↦ sum (stepped inner_end (factor_of c) (difference outer.reach (pos 1))) (pos 1)
  | Roundup ↦ sum (stepped inner_end (factor_of c) (difference outer.reach (pos 1))) (pos 1)
  | Shift ↦ sum inner_end (pos 1)
]

abbrev pub plus_if : Option Form → Option Form → Option Form
plus_if (Some f) (Some g) = Some (plus_multiple f (pos 1) g)
plus_if (Some f) None = None
plus_if None o = None

-- the further ends of a part of one block that begins so: those of the part, those of the blocks, and the last number
abbrev pub limits_within : Form → List Form → List Form → Option ℤ → List Form
limits_within base inner blocks last = with_last (map (plus_multiple base (pos 1)) inner ++ blocks) last

-- from a form on so many places
abbrev pub places_from : Form → ℤ → Places
places_from origin reach = From origin (count_of reach)

-- from a form on so many numbers, and at most each of the limits
abbrev pub block_span : Form → ℤ → List Form → Span1
block_span start count limits = record { lower = start ∷ []; upper = raised start (difference count (pos 1)) ∷ limits }

module _ (l : LayText) where
  abbrev pub is_parallel_named : List ℕ → Bool
  is_parallel_named x = list_any (λ one. is_parallel one && same_name one.name x) l.loops

  -- a loop that is not split
  abbrev pub uncut : List ℕ → PartText
  uncut x = if is_parallel_named x then alone_by (form_named l.known x) else Whole

  -- where a piece begins to visit a split loop: under `shift` at the start of its one block
  abbrev pub origin_over : Split → Numbers → BlockText → Option Form
  origin_over c own outer = elim c.tail [
    | Guard ↦ option_map (multiple_from own.low (factor_of c)) outer.origin
    | Roundup ↦ option_map (multiple_from own.low (factor_of c)) outer.origin
    | Shift ↦ if int_eq outer.length (pos 1) then form_named l.starts c.whole else None
  ]

  -- whole blocks of a split loop with these numbers, of which the outer one's turns are such a block
  abbrev pub blocks_by : Split → List Split → BlockText → Numbers → BlockText
  blocks_by c cs outer own = record {
    start = multiple_from own.low (factor_of c) outer.start;
    length = product (factor_of c) outer.length;
    own_limits = with_last (all_ends c own outer.own_limits) (own_last c own);
    claim_limits = with_last (all_ends c own outer.claim_limits) (claim_last c own);
    origin = origin_over c own outer;
    reach = reach_over c outer (end_of l.numbers c.inner cs);
  }

  abbrev pub blocks_of : Split → List Split → BlockText → BlockText
  blocks_of c cs outer = blocks_by c cs outer (numbers_named l.numbers c.whole)

  -- more numbers are visited of a loop than it has
  abbrev pub overruns : List ℕ → List Split → Bool
  overruns x cs = int_lt (last_number (numbers_named l.numbers x)) (end_of l.numbers x cs)

  -- a guard keeps the numbers of a split loop within it
  abbrev pub is_guarded : Split → List Split → Numbers → Bool
  is_guarded c cs own = elim c.tail [ Guard ↦ has_rest c own.count || (overruns c.outer cs || overruns c.inner cs) | Roundup ↦ false | Shift ↦ false ]

  -- where a piece begins to visit a part of one block; none behind a guard over the grid, whose let no form tells
  abbrev pub origin_within : Split → List Split → BlockText → BlockText → Option Form
  origin_within c cs outer inner =
      let own = numbers_named l.numbers c.whole in
      if is_guarded c cs own then None else plus_if (origin_over c own outer) inner.origin

  -- a part of one block of a split loop with these numbers
  abbrev pub within_by : Split → List Split → BlockText → BlockText → Numbers → BlockText
  within_by c cs outer inner own =
      let base = multiple_from own.low (factor_of c) outer.start in
      record {
        start = plus_multiple base (pos 1) inner.start;
        length = inner.length;
        own_limits = limits_within base inner.own_limits (all_ends c own outer.own_limits) (own_last c own);
        claim_limits = limits_within base inner.claim_limits (all_ends c own outer.claim_limits) (claim_last c own);
        origin = origin_within c cs outer inner;
        reach = inner.reach;
      }

  abbrev pub block_within : Split → List Split → BlockText → BlockText → BlockText
  block_within c cs outer inner = within_by c cs outer inner (numbers_named l.numbers c.whole)

  -- of a split loop, by what belongs to the piece of its outer and of its inner loop
  abbrev pub joined : Split → List Split → PartText → PartText → PartText
  joined c cs Whole Whole = Whole
  joined c cs (Run outer) Whole = Run (blocks_of c cs outer)
  joined c cs (Run outer) (Run inner) = if int_eq outer.length (pos 1) then Run (block_within c cs outer inner) else Scattered
  joined c cs _ _ = Scattered

  -- of the loop of this name, where these are the splits that are not looked at yet
  abbrev pub part_of : List ℕ → List Split → PartText
  part_of x [] = uncut x
  part_of x (c ∷ cs) = if same_name c.whole x then joined c cs (part_of c.outer cs) (part_of c.inner cs) else part_of x cs

  -- ---- dimensions

  -- places for all numbers that are visited of a loop
  abbrev pub whole_places : List ℕ → List Split → Places
  whole_places x cs =
      let low = (numbers_named l.numbers x).low in
      places_from (number low) (sum (difference (end_of l.numbers x cs) low) (pos 1))

  abbrev pub whole_dimension : List ℕ → List Split → Dimension
  whole_dimension x cs =
      let own = numbers_named l.numbers x in
      record { own = numbers own.low (last_number own); claim = numbers own.low (claim_end_of l.numbers x cs); places = whole_places x cs }

  abbrev pub places_by : List ℕ → List Split → ℤ → Option Form → Places
  places_by x cs reach None = whole_places x cs
  places_by x cs reach (Some origin) = places_from origin reach

  abbrev pub block_dimension : List ℕ → List Split → BlockText → Dimension
  block_dimension x cs b = record {
    own = block_span b.start b.length b.own_limits;
    claim = block_span b.start b.length b.claim_limits;
    places = places_by x cs b.reach b.origin;
  }

  abbrev pub dimension_by : List ℕ → List Split → PartText → Dimension
  dimension_by x cs Whole = whole_dimension x cs
  dimension_by x cs (Run b) = block_dimension x cs b
  dimension_by x cs Scattered = whole_dimension x cs

  abbrev pub dimension_of : List Split → List ℕ → Dimension
  dimension_of cs x = dimension_by x cs (part_of x cs)

-- what is known of a function over a region, by its skeleton
abbrev pub lay_over : StoredText → List Extent → SkeletonText → LayText
lay_over g region k = record { numbers = loop_numbers g.subject.variables g.placed.cuts region; loops = g.placed.loops; known = k.known; starts = k.starts }

-- each dimension of a piece of it
abbrev pub dimensions_of : StoredText → List Extent → SkeletonText → List Dimension
dimensions_of g region k = map (dimension_of (lay_over g region k) g.placed.cuts) g.subject.variables

-- the region that it owns, and that of which its claims speak
abbrev pub owned_region : List Dimension → List Span1
owned_region ds = map (λ d. d.own) ds

abbrev pub claimed_region : List Dimension → List Span1
claimed_region ds = map (λ d. d.claim) ds

abbrev pub own_places : List Dimension → List Places
own_places ds = map (λ d. d.places) ds

-- ---- as memory keeps them

abbrev pub block_seen : CodeBlock → BlockText
block_seen b = record {
  start = b.start;
  length = b.length;
  own_limits = b.own_limits.items;
  claim_limits = b.claim_limits.items;
  origin = b.origin;
  reach = b.reach;
}

abbrev pub part_seen : CodePart → PartText
part_seen part.Whole = Whole
part_seen (part.Block b) = Run (block_seen b)
part_seen part.Scattered = Scattered

abbrev pub lay_seen : Lay → LayText
lay_seen l = record { numbers = l.numbers.now; loops = l.loops.now; known = l.known.now; starts = l.starts.now }
