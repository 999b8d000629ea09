-- How large the parts of a plan are.
use Rattle.std.specs.Prelude.{ℕ, ◌+◌, ◌*◌, ◌&&◌, nat_le, Bool, List, [], ◌∷◌, map}
use Rattle.lin.specs.declared.span.Span1.{Span1}
use Rattle.plan.specs.declared.stmt.Places.{Places}
use Rattle.plan.specs.declared.stmt.Places.TheVariants.{From, Folded}
use Rattle.plan.specs.Plan.{Statement, Seq, For, Let, First, Guard, Alloc, Fetch, Store, Publish, Statements, Empty, Then}
use Rattle.plan.specs.Certificate.Cells.{no_symbols}
use Rattle.headline.specs.Parts.{span_count}
use Rattle.soundness.specs.Outline.Forms.{is_listed}
use Rattle.validation.specs.Stored.Sizes.{counted}

-- so many and so many more
abbrev pub more : ℕ → ℕ → ℕ
more a b = counted (a + b)

abbrev pub product : List ℕ → ℕ
product [] = 1
product (n ∷ ns) = n * product ns

-- how many places there are for one coordinate
abbrev pub place_count : Places → ℕ
place_count (From l n) = n
place_count (Folded n) = n

-- how many places a buffer has
abbrev pub places_count : List Places → ℕ
places_count xs = counted (product (map place_count xs))

-- how many places the buffers have that a statement allocates, each `alloc` line once
abbrev mutual
  pub allotted : Statement → ℕ
  allotted (Seq all) = block_allotted all
  allotted (For i x kind body) = allotted body
  allotted (Let i pick ls) = 0
  allotted (First i a b) = more (allotted a) (allotted b)
  allotted (Guard low high body) = allotted body
  allotted (Alloc b f places) = places_count places
  allotted (Fetch b g region) = 0
  allotted (Store b k at e) = 0
  allotted (Publish c) = 0

  pub block_allotted : Statements → ℕ
  block_allotted Empty = 0
  block_allotted (Then a rest) = more (allotted a) (block_allotted rest)

-- how many symbols a statement binds, by lines `for` and `let`, each line once
abbrev mutual
  pub bound_in : Statement → ℕ
  bound_in (Seq all) = block_bound_in all
  bound_in (For i x kind body) = more 1 (bound_in body)
  bound_in (Let i pick ls) = 1
  bound_in (First i a b) = more (bound_in a) (bound_in b)
  bound_in (Guard low high body) = bound_in body
  bound_in (Alloc b f places) = 0
  bound_in (Fetch b g region) = 0
  bound_in (Store b k at e) = 0
  bound_in (Publish c) = 0

  pub block_bound_in : Statements → ℕ
  block_bound_in Empty = 0
  block_bound_in (Then a rest) = more (bound_in a) (block_bound_in rest)

-- how many buffers a statement allocates, each `alloc` line once
abbrev mutual
  pub held_in : Statement → ℕ
  held_in (Seq all) = block_held_in all
  held_in (For i x kind body) = held_in body
  held_in (Let i pick ls) = 0
  held_in (First i a b) = more (held_in a) (held_in b)
  held_in (Guard low high body) = held_in body
  held_in (Alloc b f places) = 1
  held_in (Fetch b g region) = 0
  held_in (Store b k at e) = 0
  held_in (Publish c) = 0

  pub block_held_in : Statements → ℕ
  block_held_in Empty = 0
  block_held_in (Then a rest) = more (held_in a) (block_held_in rest)

-- how many numbers a span of constants has: from the largest lower one to the smallest upper one
abbrev pub extent_of : Span1 → ℕ
extent_of x = span_count no_symbols x

-- how many points a region of such spans has
abbrev pub cell_count : List Span1 → ℕ
cell_count xs = counted (product (map extent_of xs))

-- one to four forms at each end, and from 1 to 8192 numbers
abbrev pub is_extent : Span1 → Bool
is_extent x = is_listed x.lower && (is_listed x.upper && (nat_le 1 (counted (extent_of x)) && nat_le (counted (extent_of x)) 8192))
