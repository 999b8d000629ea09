-- The loops of a root function over its region: the grid of its pieces, and for each of its definitions the loops, lets and guards
-- down to its store, and the forms of the store's coordinates.
use Rattle.std.specs.Prelude.{◌≡◌, ℕ, ◌+◌, ◌==◌, ℤ, Bool, true, false, not, ◌&&◌, if◌then◌else◌, List, [], ◌∷◌, ◌++◌, length, map, filter, reverse, Option, Some, None, Result, Ok, Err, Vec}
use Rattle.std.specs.Global.{Global}
use Rattle.std.specs.List.{list_any}
use Rattle.lin.specs.Forms.{Form, number}
use Rattle.lin.specs.declared.span.Span1.{Span1}
use Rattle.plan.specs.declared.stmt.Kind.{Kind}
use Rattle.plan.specs.declared.stmt.Kind.TheVariants.{Serial, Unroll, Vector}
use Rattle.meaning.specs.Algorithm.{Range, Change, Function}
use Rattle.sched.specs.declared.schedule.Split.{Split}
use Rattle.sched.specs.declared.placing.Mark.{Mark}
use Rattle.sched.specs.declared.placing.Mark.TheVariants as mark
use Rattle.sched.specs.declared.placing.Loop.{Loop}
use Rattle.sched.specs.declared.numbers.Extent.{Extent}
use Rattle.sched.specs.declared.numbers.Numbers.{Numbers}
use Rattle.sched.specs.Placing.{PlacedText, is_parallel, is_vectorized}
use Rattle.sched.specs.Subjects.{lacks}
use Rattle.sched.specs.Numbers.{numbers_named, last_number, loop_numbers, parallel_loops, piece_counts}
use Rattle.sched.specs.declared.skeleton.Step.{Step}
use Rattle.sched.specs.declared.skeleton.Step.TheVariants.{Turns}
use Rattle.sched.specs.declared.skeleton.Known.{Known}
use Rattle.sched.specs.declared.skeleton.Within.{Within}
use Rattle.sched.specs.declared.skeleton.Within.TheVariants as within
use Rattle.sched.specs.declared.skeleton.SkeletonError.{SkeletonError}
use Rattle.sched.specs.declared.skeleton.SkeletonError.TheVariants as error
use Rattle.sched.specs.declared.nest.Turning.{Turning}
use Rattle.sched.specs.declared.nest.Body.{Body}
use Rattle.sched.specs.declared.nest.Nest.{Nest}
use Rattle.sched.specs.declared.nest.Skeleton.{Skeleton}
use Rattle.sched.specs.Standing.{◌>>=◌, StandingText, form_named, counted_from, alone, is_now, settle, cuts_by_variable}

-- ---- loops of a nest

abbrev pub kind_of : Option Mark → Kind
kind_of (Some mark.Unrolled) = Unroll
kind_of (Some mark.Vectorized) = Vector
kind_of _ = Serial

abbrev pub span : ℤ → ℤ → List Form → Span1
span low last limits = record { lower = number low ∷ []; upper = number last ∷ limits }

-- a loop over the numbers from low to last
abbrev pub loop_turning : List Numbers → Loop → Turning
loop_turning rs l = let r = numbers_named rs l.name in record { name = l.name; low = r.low; last = last_number r; kind = kind_of l.mark }

-- the loop of a reduction variable
abbrev pub range_turning : Range → Turning
range_turning d = record { name = d.variable; low = d.low; last = d.high; kind = Serial }

-- inside the next loop
abbrev pub enter : List ℕ → StandingText → StandingText
enter x st = is_now x (alone st.next) (record st { bound = st.bound ++ st.next ∷ []; next = st.next + 1; steps = []; limits = [] })

-- outside of it again: the loop stands behind the steps before it, and the steps inside stand in it
abbrev pub leave : List Step → ℕ → Turning → StandingText → StandingText
leave steps s t inside = record inside { steps = steps ++ Turns s (span t.low t.last inside.limits) t.kind ∷ inside.steps; limits = [] }

-- inside a loop of the nest
abbrev pub inside : Kind → Within
inside Serial = within.Nest
inside Unroll = within.Nest
inside Vector = within.Lanes

-- a loop, and inside it what stands by it
abbrev pub turn : List Numbers → List Split → Turning → StandingText → Option StandingText
turn rs cs t st = settle (inside t.kind) rs cs (enter t.name st) >>= λ turned. Some (leave st.steps st.next t turned)

-- each inside the one before
abbrev pub turn_all : List Numbers → List Split → List Turning → StandingText → Option StandingText
turn_all rs cs [] st = Some st
turn_all rs cs (t ∷ ts) st = turn rs cs t st >>= turn_all rs cs ts

-- ---- definitions

abbrev pub is_same : Bool → Bool → Bool
is_same true b = b
is_same false b = not b

-- of a definition: the dimensions that it has no pure variable for, and the loops of its reduction variables, the last outermost
pub record BodyText : Type 0 where
  pub missing : List ℕ
  pub ranges : List Turning

abbrev pub missing_from : Change → ℕ → List (List ℕ) → List ℕ
missing_from u d [] = []
missing_from u d (x ∷ xs) = if lacks x d u then d ∷ missing_from u (d + 1) xs else missing_from u (d + 1) xs

abbrev pub change_body : List (List ℕ) → Change → BodyText
change_body xs u = record { missing = missing_from u 0 xs; ranges = map range_turning u.ranges }

-- the pure definition has all its variables
abbrev pub bodies_in : List (List ℕ) → List Change → List BodyText
bodies_in xs us = record { missing = []; ranges = [] } ∷ map (change_body xs) us

abbrev pub bodies_of : Function → List BodyText
bodies_of f = bodies_in f.variables f.changes

abbrev pub is_missing : BodyText → ℕ → Bool
is_missing b d = list_any (λ e. e == d) b.missing

-- the variables that the definition has, of which the first is this dimension
abbrev pub kept_from : BodyText → ℕ → List (List ℕ) → List (List ℕ)
kept_from b d [] = []
kept_from b d (x ∷ xs) = if is_missing b d then kept_from b (d + 1) xs else x ∷ kept_from b (d + 1) xs

abbrev pub is_in_nest : BodyText → Bool → Loop → Bool
is_in_nest b vectorized l = not (is_parallel l) && not (is_missing b l.dimension) && is_same (is_vectorized l) vectorized

-- the loops of its nest among these
abbrev pub turnings_in : BodyText → Bool → List Numbers → List Loop → List Turning
turnings_in b vectorized rs ls = map (loop_turning rs) (filter (is_in_nest b vectorized) ls)

-- the loops of its nest that are vectorised, or that are not, the outermost first
abbrev pub nest_loops : BodyText → Bool → List Numbers → List Loop → List Turning
nest_loops b vectorized rs ls = turnings_in b vectorized rs (reverse ls)

-- the reduction loops stand inside the pure ones, the last variable outermost, and a vectorised loop inside them
abbrev pub nest_turns : BodyText → List Numbers → List Loop → List Turning
nest_turns b rs ls = nest_loops b false rs ls ++ reverse b.ranges ++ nest_loops b true rs ls

-- the steps down to the store, the outermost first, and its coordinates: None is found by an expression
pub record NestText : Type 0 where
  pub steps : List Step
  pub at : List (Option Form)

-- the coordinates of the variables that the definition has, of which the first is this dimension
abbrev pub variables_at : BodyText → ℕ → List (List ℕ) → List Known → List (Option Form)
variables_at b d [] ks = []
variables_at b d (x ∷ xs) ks = (if is_missing b d then None else form_named ks x) ∷ variables_at b (d + 1) xs ks

abbrev pub ranges_at : List Turning → List Known → List (Option Form)
ranges_at ds ks = map (λ d. form_named ks d.name) ds

-- the same place, with no steps and this symbol next
abbrev pub begun : ℕ → StandingText → StandingText
begun next st = record st { next = next; steps = [] }

abbrev pub nest_in : List (List ℕ) → PlacedText → List Numbers → BodyText → StandingText → Option StandingText
nest_in xs p rs b st =
    let cs = cuts_by_variable p.cuts (kept_from b 0 xs) in
    settle within.Nest rs cs st >>= turn_all rs cs (nest_turns b rs p.loops)

abbrev pub nest_of : List (List ℕ) → BodyText → StandingText → NestText
nest_of xs b st = record { steps = st.steps; at = variables_at b 0 xs st.known ++ ranges_at b.ranges st.known }

-- one behind another: symbols are numbered in the order in which a plan binds them
abbrev pub nests_in : List (List ℕ) → PlacedText → List Numbers → StandingText → List BodyText → ℕ → Option (List NestText)
nests_in xs p rs head [] next = Some []
nests_in xs p rs head (b ∷ bs) next =
    nest_in xs p rs b (begun next head) >>= λ st. nests_in xs p rs head bs st.next >>= λ nests. Some (nest_of xs b st ∷ nests)

-- ---- the whole

-- what of a root function stands in its plan: how many pieces, the lets over the grid, and the nest of each definition; and what stands
-- over the grid: the forms of loops, and those of the first numbers of blocks under the name of the loop that was split
pub record SkeletonText : Type 0 where
  pub grid : List ℕ
  pub head : List Step
  pub nests : List NestText
  pub known : List Known
  pub starts : List Known

-- a symbol for each parallel loop, the innermost first, from this one on
abbrev pub grid_forms : List Numbers → ℕ → List Loop → List Known
grid_forms rs s [] = []
grid_forms rs s (l ∷ ls) = record { name = l.name; form = counted_from (numbers_named rs l.name).low s } ∷ grid_forms rs (s + 1) ls

abbrev pub over_grid : List Numbers → PlacedText → StandingText
over_grid rs p = record { known = grid_forms rs 0 (parallel_loops p.loops); starts = []; bound = []; next = length (piece_counts rs p.loops); steps = []; limits = [] }

-- of a function of these variables and definitions; None where a form leaves the limits
abbrev pub skeleton_in : List (List ℕ) → List BodyText → PlacedText → List Extent → Option SkeletonText
skeleton_in xs bs p region =
    let rs = loop_numbers xs p.cuts region in
    settle within.Grid rs (cuts_by_variable p.cuts xs) (over_grid rs p) >>= λ head.
    nests_in xs p rs head bs head.next >>= λ nests.
    Some (record { grid = piece_counts rs p.loops; head = head.steps; nests = nests; known = head.known; starts = head.starts })

abbrev pub skeleton : Function → PlacedText → List Extent → Option SkeletonText
skeleton f p region = skeleton_in f.variables (bodies_of f) p region

-- ---- what a function that makes them answers

abbrev pub body_of : Body → BodyText
body_of b = record { missing = b.missing.items; ranges = b.ranges.items }

abbrev pub nest_seen : Nest → NestText
nest_seen n = record { steps = n.steps.items; at = n.at.items }

abbrev pub skeleton_seen : Skeleton → SkeletonText
skeleton_seen s = record { grid = s.grid.items; head = s.head.items; nests = map nest_seen s.nests.items; known = s.known.items; starts = s.starts.items }

-- what is told, unless memory ran out
abbrev pub Nests : Result (Vec Nest Global) SkeletonError → Option (List NestText) → Type 0
Nests (Ok v) told = told ≡ Some (map nest_seen v.items)
Nests (Err error.Memory) told = Unit {0}
Nests (Err error.Limit) told = told ≡ None

abbrev pub Stands : Result Skeleton SkeletonError → Option SkeletonText → Type 0
Stands (Ok s) told = told ≡ Some (skeleton_seen s)
Stands (Err error.Memory) told = Unit {0}
Stands (Err error.Limit) told = told ≡ None
