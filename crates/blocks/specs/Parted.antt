-- The nests of a function that is computed inside loops, where its loops are split: the loops that the schedule left, in its order, with their marks, and behind each of
-- them what its splits put there.
-- What crates below need of it stands there: `sched`.
use Rattle.std.specs.Prelude.{ℕ, ◌+◌, ◌-◌, ◌==◌, ℤ, pos, ◌-ℤ◌, int_rem, Bool, true, false, not, ◌||◌, if◌then◌else◌, List, [], ◌∷◌, ◌++◌, length, find, Option, Some, None, slice_get}
use Rattle.std.specs.List.{list_any}
use Rattle.std.specs.Option.{option_map, is_some}
use Rattle.lin.specs.Forms.{Form, number, combined}
use Rattle.lin.specs.Search.{at_most}
use Rattle.lin.specs.declared.scope.Binding.{Binding}
use Rattle.lin.specs.declared.span.Span1.{Span1}
use Rattle.meaning.specs.Names.{same_name}
use Rattle.plan.specs.declared.stmt.Pick.{Pick}
use Rattle.plan.specs.declared.stmt.Pick.TheVariants.{Min, Max}
use Rattle.sched.specs.declared.schedule.Split.{Split}
use Rattle.sched.specs.declared.numbers.Numbers.{Numbers}
use Rattle.sched.specs.declared.skeleton.Step.{Step}
use Rattle.sched.specs.declared.skeleton.Step.TheVariants.{Named}
use Rattle.sched.specs.Numbers.{numbers_named, loop_numbers}
use Rattle.sched.specs.Skeleton.{BodyText, NestText}
use Rattle.sched.specs.Standing.{◌>>=◌, alone}
use Rattle.sched.specs.declared.ends.Counted.{Counted}
use Rattle.blocks.specs.declared.ends.Facts.{Facts}
use Rattle.sched.specs.declared.ends.Reach.{Reach}
use Rattle.blocks.specs.declared.counting.Blocks.{Blocks}
use Rattle.sched.specs.Stored.{StoredText}
use Rattle.sched.specs.Blocks.{difference}
use Rattle.sched.specs.Demanded.{is_rounding}
use Rattle.sched.specs.Regions.{symbols_from}
use Rattle.sched.specs.Taken.{freed, shortest}
use Rattle.sched.specs.Parted.{FrameText, nest_in, most_of, add_extents, is_telling, told_forms}

abbrev pub is_cut : List Split → List ℕ → Bool
is_cut cs x = list_any (λ c. same_name c.whole x) cs

-- the span by one form on each side where one is shown to be its end
abbrev pub told_span : List Binding → Span1 → Span1
told_span scope s = record { lower = told_forms scope Max s.lower; upper = told_forms scope Min s.upper }

-- so many numbers from the first one on are not shown to end at the last one
abbrev pub varies_from : List Binding → Form → Form → ℤ → Option Bool
varies_from scope low high n = combined (number (difference n (pos 1))) (pos 1) low >>= λ last. Some (not (at_most scope last high))

-- there are not shown to be as many in each turn as the most
abbrev pub varies_in : List Binding → List Form → List Form → ℤ → Option Bool
varies_in scope [] hs n = Some true
varies_in scope (l ∷ []) [] n = Some true
varies_in scope (l ∷ []) (h ∷ []) n = varies_from scope l h n
varies_in scope (l ∷ []) (h ∷ k ∷ hs) n = Some true
varies_in scope (l ∷ k ∷ ls) hs n = Some true

-- so many numbers behind the form none of the others is passed
abbrev pub has_further_from : List Binding → List Form → ℤ → Form → Option Bool
has_further_from scope hs by l = combined (number by) (pos 1) l >>= λ f. Some (is_telling scope Min f hs)

-- the same of each of these forms
abbrev pub have_further : List Binding → List Form → ℤ → List Form → Option Bool
have_further scope hs by [] = Some true
have_further scope hs by (l ∷ ls) = has_further_from scope hs by l >>= λ b. if b then have_further scope hs by ls else Some false

abbrev pub has_further : List Binding → Span1 → ℤ → Option Bool
has_further scope s by = have_further scope s.upper by s.lower

-- the variable's first split with `roundup`, and its factor
abbrev pub rounded_cut : List Split → List ℕ → Option Split
rounded_cut cs x = find (is_rounding cs x) cs

abbrev pub rounding : List Split → List ℕ → Option ℕ
rounding cs x = option_map (λ c. c.factor) (rounded_cut cs x)

-- what is left of a number behind full blocks of so many
abbrev pub rest_of : ℤ → ℕ → ℤ
rest_of z k = if k == 0 then pos 0 else int_rem z (pos k)

-- blocks of so many numbers are shown to be as many in each turn as there are at most
abbrev pub are_even : List Binding → Span1 → Option ℕ → ℤ → Option Bool
are_even scope s None n = Some false
are_even scope s (Some k) n = has_further scope s (difference (difference n (pos 1)) (rest_of (difference n (pos 1)) k))

-- each of these forms is shown to be at most each of the others
abbrev pub are_below : List Binding → List Form → List Form → Bool
are_below scope [] fs = true
are_below scope (l ∷ ls) fs = if is_telling scope Min l fs then are_below scope ls fs else false

-- the forms are shown to be no smaller than what is kept, where that is asked
abbrev pub is_behind : List Binding → Option Span1 → List Form → Bool
is_behind scope None fs = true
is_behind scope (Some kept) fs = are_below scope kept.lower fs

-- ---- the ends of what is needed

-- what tells the first number: one form alone, where that is shown to be no smaller than what is kept; else all of them
abbrev pub lower_of : List Binding → Span1 → Span1 → Option Span1 → List Form
lower_of scope s t kept = if is_behind scope kept t.lower then t.lower else s.lower

-- the last one first
abbrev pub last_first : List Form → List Form
last_first [] = []
last_first (f ∷ fs) = last_first fs ++ f ∷ []

-- the smallest or largest of these as the next symbol, behind lets that begin at this one
abbrev pub let_of : ℕ → Pick → List Form → List Step → Form × List Step
let_of first pick fs lets = (alone (first + length lets), lets ++ Named (first + length lets) pick fs ∷ [])

-- of one form it is that, without a let
abbrev pub one_of : ℕ → Pick → List Form → List Step → Form × List Step
one_of first pick [] lets = let_of first pick [] lets
one_of first pick (f ∷ []) lets = (f, lets)
one_of first pick (f ∷ e ∷ fs) lets = let_of first pick (f ∷ e ∷ fs) lets

-- the first number that loops run over, and the last one
abbrev pub low_of : List Binding → Span1 → Span1 → Option Span1 → List Step → Form × List Step
low_of scope s t kept lets = one_of (length scope) Max (lower_of scope s t kept) lets

abbrev pub last_of : List Binding → Span1 → List Step → Form × List Step
last_of scope t lets = one_of (length scope) Min (last_first t.upper) lets

-- what is known of numbers that end so, of which there are so many at most
abbrev pub facts_of : List Binding → Span1 → Option ℕ → Option Span1 → ℤ → Option Facts
facts_of scope t k kept n =
    varies_in scope t.lower t.upper n >>= λ v. are_even scope t k n >>= λ e. Some (record { varies = v; is_even = e; is_told = is_behind scope kept t.upper })

abbrev pub reach_by : List ℕ → Form → Form → Facts → Reach
reach_by x low last facts = record { name = x; low = low; last = last; varies = facts.varies; is_even = facts.is_even; is_told = facts.is_told }

abbrev pub reach_told : List Binding → List ℕ → Option ℕ → Span1 → Span1 → Option Span1 → ℤ → List Step → Option (Reach × List Step)
reach_told scope x k s t kept n lets =
    let low = low_of scope s t kept lets in
    let last = last_of scope t low.1 in facts_of scope t k kept n >>= λ facts. Some (reach_by x low.0 last.0 facts, last.1)

-- what the loops that the variable's split makes run over, with the lets for it behind others
abbrev pub reach_of : List Binding → List ℕ → Option ℕ → Span1 → Option Span1 → List Step → Option (Reach × List Step)
reach_of scope x k s kept lets = most_of (shortest scope s) >>= λ n. reach_told scope x k s (told_span scope s) kept n lets

-- where blocks are counted, each turn has as many
abbrev pub with_even : Bool → Reach → Reach
with_even b r = record r { is_even = r.is_even || b }

abbrev pub reach_at : List Binding → List Split → Bool → List ℕ → Span1 → Option Span1 → List Step → Option (Option Reach × List Step)
reach_at scope cs b x s kept lets =
    if is_cut cs x then (reach_of scope x (rounding cs x) s kept lets >>= λ r. Some (Some (with_even b r.0), r.1)) else Some (None, lets)

abbrev pub with_reach : Option Reach → List Reach → List Reach
with_reach None rs = rs
with_reach (Some r) rs = r ∷ rs

-- the blocks of a dimension, where they are counted
abbrev pub counted_at : List (Option Blocks) → ℕ → Option Blocks
counted_at bs d = slice_get bs d >>= λ o. o

-- of each variable that is split, from this dimension on
abbrev pub reaches_from : List Binding → List Split → List (Option Blocks) → List Span1 → ℕ → List (List ℕ) → List Span1 → List Step → Option (List Reach × List Step)
reaches_from scope cs bs kept d [] ss lets = Some ([], lets)
reaches_from scope cs bs kept d (x ∷ xs) [] lets = Some ([], lets)
reaches_from scope cs bs kept d (x ∷ xs) (s ∷ ss) lets =
    reach_at scope cs (is_some (counted_at bs d)) x s (slice_get kept d) lets >>= λ first.
    reaches_from scope cs bs kept (d + 1) xs ss first.1 >>= λ rest. Some (with_reach first.0 rest.0, rest.1)

-- the loop over blocks that are counted, and its further upper forms
abbrev pub counted_one : Option Split → Option Blocks → List Counted
counted_one (Some c) (Some b) = record { name = c.outer; further = b.further } ∷ []
counted_one (Some c) None = []
counted_one None o = []

abbrev pub counted_from : List Split → List (Option Blocks) → ℕ → List (List ℕ) → List Counted
counted_from cs bs d [] = []
counted_from cs bs d (x ∷ xs) = counted_one (rounded_cut cs x) (counted_at bs d) ++ counted_from cs bs (d + 1) xs

-- a loop that a split makes has as many numbers in each turn
abbrev pub half_reach : List Numbers → List ℕ → Reach
half_reach ns x = record { name = x; low = number (pos 0); last = number (pos (numbers_named ns x).count -ℤ pos 1); varies = false; is_even = false; is_told = true }

abbrev pub half_reaches : List Numbers → List Split → List Reach
half_reaches ns [] = []
half_reaches ns (c ∷ cs) = half_reach ns c.outer ∷ half_reach ns c.inner ∷ half_reaches ns cs

-- what is kept of the pure definition; of an update it is not asked
abbrev pub kept_of : List Span1 → ℕ → List Span1
kept_of kept d = if d == 0 then kept else []

module _ (g : StoredText) (scope : List Binding) (region : List Span1) (kept : List Span1) (bs : List (Option Blocks)) where
  abbrev pub frame_with : List Numbers → List Reach × List Step → FrameText × List Step
  frame_with ns r = (record { numbers = ns; reaches = r.0 ++ half_reaches ns g.placed.cuts; counted = counted_from g.placed.cuts bs 0 g.subject.variables }, r.1)

  abbrev pub frame_by : ℕ → List Numbers → Option (FrameText × List Step)
  frame_by d ns = reaches_from scope g.placed.cuts bs (kept_of kept d) 0 g.subject.variables region [] >>= λ r. Some (frame_with ns r)

  -- over what the loops of the definition of this number go whose needed region this is, and the lets around its nest
  abbrev pub frame_of : ℕ → Option (FrameText × List Step)
  frame_of d = add_extents scope region [] >>= λ es. frame_by d (loop_numbers g.subject.variables g.placed.cuts es)

  -- its nest
  abbrev pub nest_over : ℕ → BodyText → Option NestText
  nest_over d b = frame_of d >>= λ f. nest_in g region (length scope) f.0 f.1 b

  -- one for each of these definitions, from this number on, in their order
  abbrev pub nests_from : ℕ → List BodyText → Option (List NestText)
  nests_from d [] = Some []
  nests_from d (b ∷ rest) = nest_over d b >>= λ n. nests_from (d + 1) rest >>= λ ns. Some (n ∷ ns)

-- ---- what is kept

-- spans freed of these symbols, behind others
abbrev pub add_freed : List Binding → List ℕ → List Span1 → List Span1 → Option (List Span1)
add_freed scope inner [] before = Some before
add_freed scope inner (s ∷ ss) before = freed scope inner s >>= λ f. add_freed scope inner ss (before ++ f ∷ [])

-- a region in all turns, where so many symbols stand around its buffer
abbrev pub kept_region : ℕ → List Binding → List Span1 → Option (List Span1)
kept_region n scope r = add_freed scope (symbols_from n (length scope - n)) r []
