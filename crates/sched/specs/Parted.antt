-- The nests of a function that is computed inside loops, where its loops are split: the loops that the schedule left, in its order, with their marks, and behind each of
-- them what its splits put there.
use Rattle.std.specs.Prelude.{ℕ, ◌+◌, ◌-◌, ◌^◌, nat_lt, ℤ, pos, negsuc, ◌-ℤ◌, Bool, true, false, if◌then◌else◌, List, [], ◌∷◌, ◌++◌, length, map, Option, Some, None, slice_get}
use Rattle.lin.specs.Forms.{Form}
use Rattle.lin.specs.Search.{at_most}
use Rattle.lin.specs.declared.scope.Binding.{Binding}
use Rattle.lin.specs.declared.span.Span1.{Span1}
use Rattle.bounds.specs.Spans.{numbers}
use Rattle.meaning.specs.Names.{same_name}
use Rattle.plan.specs.declared.stmt.Pick.{Pick}
use Rattle.plan.specs.declared.stmt.Pick.TheVariants.{Min, Max}
use Rattle.sched.specs.declared.placing.Loop.{Loop}
use Rattle.sched.specs.declared.schedule.Split.{Split}
use Rattle.sched.specs.declared.schedule.Tail.{Tail}
use Rattle.sched.specs.declared.schedule.Tail.TheVariants as tails
use Rattle.sched.specs.declared.numbers.Extent.{Extent}
use Rattle.sched.specs.declared.numbers.Numbers.{Numbers}
use Rattle.sched.specs.declared.skeleton.Step.{Step}
use Rattle.sched.specs.Numbers.{numbers_named}
use Rattle.sched.specs.Skeleton.{BodyText, NestText, kept_from, nest_of}
use Rattle.sched.specs.Standing.{◌>>=◌, StandingText, cuts_by_variable}
use Rattle.sched.specs.declared.ends.Counted.{Counted}
use Rattle.sched.specs.declared.ends.Frame.{Frame}
use Rattle.sched.specs.declared.ends.Reach.{Reach}
use Rattle.sched.specs.declared.ends.Run.{Run}
use Rattle.sched.specs.Stored.{StoredText}
use Rattle.sched.specs.Demanded.{is_alone}
use Rattle.sched.specs.Taken.{shortest}
use Rattle.sched.specs.Turned.{kind_of, is_run, range_runs}
use Rattle.sched.specs.Settled.{turn_all}

-- ---- what loops run over

-- the most numbers of each loop, also of those that are split; what the splits' loops run over; and further upper forms of loops
pub record FrameText : Type 0 where
  pub numbers : List Numbers
  pub reaches : List Reach
  pub counted : List Counted

-- the loop is a variable's, which no split has taken
abbrev pub is_variable : List (List ℕ) → Loop → Bool
is_variable xs l = elim (slice_get xs l.dimension) [ Some x ↦ same_name x l.name | None ↦ false ]

abbrev pub forms_if : Bool → List Form → List Form
forms_if b fs = if b then fs else []

abbrev pub further_of : List Counted → List ℕ → List Form
further_of [] x = []
further_of (c ∷ cs) x = forms_if (same_name c.name x) c.further ++ further_of cs x

abbrev pub with_further : List Form → Span1 → Span1
with_further fs s = record s { upper = s.upper ++ fs }

-- a loop that a split makes: its numbers from 0 on
abbrev pub half_span : FrameText → List ℕ → Span1
half_span f x = with_further (further_of f.counted x) (numbers (pos 0) (pos (numbers_named f.numbers x).count -ℤ pos 1))

module _ (xs : List (List ℕ)) (region : List Span1) (f : FrameText) where
  -- a variable's runs over what is needed
  abbrev pub span_of : Loop → Option Span1
  span_of l = if is_variable xs l then slice_get region l.dimension else Some (half_span f l.name)

  abbrev pub run_of : Loop → Option Run
  run_of l = span_of l >>= λ s. Some (record { name = l.name; span = s; kind = kind_of l.mark })

  abbrev pub add_run : Bool → Loop → List Run → Option (List Run)
  add_run b l before = if b then (run_of l >>= λ r. Some (before ++ r ∷ [])) else Some before

  -- those of these loops that the definition has and that are vectorised, or are not, the outermost first, behind others
  abbrev pub add_runs : BodyText → Bool → List Loop → List Run → Option (List Run)
  add_runs b lanes [] before = Some before
  add_runs b lanes (l ∷ ls) before = add_runs b lanes ls before >>= add_run (is_run b lanes l) l

  -- all loops of a definition; those of a reduction inside, and a vectorised one inside these
  abbrev pub all_runs : List Loop → BodyText → Option (List Run)
  all_runs ls b = add_runs b false ls [] >>= λ rs. add_runs b true ls (rs ++ range_runs b.ranges)

-- ---- splits

-- a block of one number begins at no smaller number where `shift` moves it back, and ends at no greater one under `roundup`: it is kept as with `guard`
abbrev pub kept_tail : Bool → Tail → Tail
kept_tail b tails.Shift = if b then tails.Guard else tails.Shift
kept_tail b tails.Guard = tails.Guard
kept_tail b tails.Roundup = if b then tails.Guard else tails.Roundup

-- unless its halves are split again
abbrev pub as_kept : List Split → Split → Split
as_kept cs c = record c { tail = kept_tail (is_alone cs c) c.tail }

-- those of the variables that the definition has
abbrev pub body_cuts : StoredText → BodyText → List Split
body_cuts g b = map (as_kept g.placed.cuts) (cuts_by_variable g.placed.cuts (kept_from b 0 g.subject.variables))

-- ---- a nest

-- behind these lets, inside of so many symbols
abbrev pub begun : ℕ → List Step → StandingText
begun s lets = record { known = []; starts = []; bound = []; next = s + length lets; steps = lets; limits = [] }

-- the nest of a definition
abbrev pub nest_in : StoredText → List Span1 → ℕ → FrameText → List Step → BodyText → Option NestText
nest_in g region s f lets b =
    all_runs g.subject.variables region f g.placed.loops b >>= λ rs.
    turn_all f.numbers f.reaches (body_cuts g b) rs (begun s lets) >>= λ st. Some (nest_of g.subject.variables b st)

-- ---- the ends of what is needed

abbrev pub count_of : ℤ → ℕ
count_of (pos n) = if nat_lt n (2 ^ 32) then n else 1
count_of (negsuc n) = 1

abbrev pub most_of : Option (ℕ × ℤ) → Option ℤ
most_of o = o >>= λ b. Some b.1

-- the most numbers that each dimension has in one turn, from 0 on, behind others
abbrev pub add_extents : List Binding → List Span1 → List Extent → Option (List Extent)
add_extents scope [] es = Some es
add_extents scope (x ∷ xs) es = most_of (shortest scope x) >>= λ n. add_extents scope xs (es ++ record { low = pos 0; count = count_of n } ∷ [])

-- ---- ends that bounds tell

-- the form is shown to be at most the other, or at least
abbrev pub is_told_by : List Binding → Pick → Form → Form → Bool
is_told_by scope Min f g = at_most scope f g
is_told_by scope Max f g = at_most scope g f

-- the same of each of these
abbrev pub is_telling : List Binding → Pick → Form → List Form → Bool
is_telling scope pick f [] = true
is_telling scope pick f (g ∷ gs) = if is_told_by scope pick f g then is_telling scope pick f gs else false

-- the first of these alone that is shown to be the smallest or largest of all; all where none is
abbrev pub told_among : List Binding → Pick → List Form → List Form → List Form
told_among scope pick all [] = all
told_among scope pick all (f ∷ fs) = if is_telling scope pick f all then f ∷ [] else told_among scope pick all fs

-- of one form it is that
abbrev pub told_forms : List Binding → Pick → List Form → List Form
told_forms scope pick [] = []
told_forms scope pick (f ∷ []) = f ∷ []
told_forms scope pick (f ∷ e ∷ fs) = told_among scope pick (f ∷ e ∷ fs) (f ∷ e ∷ fs)

-- ---- as memory keeps it

abbrev pub frame_seen : Frame → FrameText
frame_seen f = record { numbers = f.numbers.items; reaches = f.reaches.items; counted = f.counted.items }
