-- The numbers of a function's loops over its region, and how many pieces its parallel loops make.
use Rattle.std.specs.Prelude.{ℕ, ◌-◌, ◌+◌, ◌/◌, ◌==◌, nat_lt, ℤ, pos, ◌+ℤ◌, ◌-ℤ◌, Bool, ◌&&◌, ◌||◌, if◌then◌else◌, List, [], ◌∷◌, ◌++◌, map, filter, find, Option, Some, None}
use Rattle.std.specs.List.{list_any}
use Rattle.meaning.specs.Names.{same_name}
use Rattle.sched.specs.declared.schedule.Split.{Split}
use Rattle.sched.specs.declared.placing.Loop.{Loop}
use Rattle.sched.specs.declared.numbers.Extent.{Extent}
use Rattle.sched.specs.declared.numbers.Numbers.{Numbers}
use Rattle.sched.specs.Placing.{is_parallel, is_shifted}

-- how many blocks of n numbers hold so many
abbrev pub blocks : ℕ → ℕ → ℕ
blocks count n = if (count == 0) || (n == 0) then 0 else (count - 1) / n + 1

abbrev pub numbers_found : List Numbers → List ℕ → Option Numbers
numbers_found rs x = find (λ r. same_name r.name x) rs

-- no numbers where there is no loop of this name
abbrev pub numbers_named : List Numbers → List ℕ → Numbers
numbers_named rs x = elim (numbers_found rs x) [ Some r ↦ r | None ↦ record { name = x; low = pos 0; count = 0 } ]

abbrev pub last_number : Numbers → ℤ
last_number r = r.low +ℤ pos r.count -ℤ pos 1

-- the variables' numbers are the region's
abbrev pub whole_numbers : List (List ℕ) → List Extent → List Numbers
whole_numbers [] es = []
whole_numbers (x ∷ xs) [] = []
whole_numbers (x ∷ xs) (e ∷ es) = record { name = x; low = e.low; count = e.count } ∷ whole_numbers xs es

-- the outer loop of a split counts the blocks, the inner one the numbers of a block
abbrev pub halves : Split → ℕ → List Numbers
halves c count = record { name = c.outer; low = pos 0; count = blocks count c.factor } ∷ record { name = c.inner; low = pos 0; count = c.factor } ∷ []

-- the numbers of all loops, also of those that were split
abbrev pub cut_numbers : List Split → List Numbers → List Numbers
cut_numbers [] rs = rs
cut_numbers (c ∷ cs) rs = cut_numbers cs (rs ++ halves c (numbers_named rs c.whole).count)

-- what loops, also those that were split, run over the region
abbrev pub loop_numbers : List (List ℕ) → List Split → List Extent → List Numbers
loop_numbers variables cuts region = cut_numbers cuts (whole_numbers variables region)

-- ---- the grid

abbrev pub parallel_loops : List Loop → List Loop
parallel_loops ls = filter is_parallel ls

-- how many turns they have
abbrev pub grid_counts : List Numbers → List Loop → List ℕ
grid_counts rs ls = map (λ l. (numbers_named rs l.name).count) ls

-- one piece where no loop is parallel
abbrev pub or_one : List ℕ → List ℕ
or_one [] = 1 ∷ []
or_one (n ∷ ns) = n ∷ ns

-- a piece for each turn of each parallel loop, the innermost first
abbrev pub piece_counts : List Numbers → List Loop → List ℕ
piece_counts rs ls = or_one (grid_counts rs (parallel_loops ls))

-- ---- shifted blocks

-- a split with `shift` of a loop that has fewer numbers than a block
abbrev pub is_too_short : List Numbers → Split → Bool
is_too_short rs c = is_shifted c && nat_lt (numbers_named rs c.whole).count c.factor

abbrev pub has_short_shift : List Numbers → List Split → Bool
has_short_shift rs cuts = list_any (is_too_short rs) cuts
