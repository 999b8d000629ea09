-- What stands behind the loops of a function whose loops are split, where it is computed inside loops: the first number of each block, the position in it, and what keeps
-- that within what is needed, each as soon as the loops stand that tell it. The first and the last number of a loop that is split are forms.
use Rattle.std.specs.Prelude.{ℕ, ◌+◌, ◌==◌, nat_lt, pos, negsuc, ◌-ℤ◌, Bool, true, false, not, ◌&&◌, ◌||◌, if◌then◌else◌, List, [], ◌∷◌, ◌++◌, map, find, Option, Some, None}
use Rattle.lin.specs.Forms.{Form, number, combined, without}
use Rattle.lin.specs.declared.span.Span1.{Span1}
use Rattle.meaning.specs.Names.{same_name}
use Rattle.plan.specs.declared.stmt.Kind.{Kind}
use Rattle.plan.specs.declared.stmt.Kind.TheVariants.{Serial, Unroll, Vector}
use Rattle.plan.specs.declared.stmt.Pick.{Pick}
use Rattle.plan.specs.declared.stmt.Pick.TheVariants.{Min, Max}
use Rattle.sched.specs.declared.schedule.Split.{Split}
use Rattle.sched.specs.declared.schedule.Tail.{Tail}
use Rattle.sched.specs.declared.schedule.Tail.TheVariants as tails
use Rattle.sched.specs.declared.numbers.Numbers.{Numbers}
use Rattle.sched.specs.declared.skeleton.Known.{Known}
use Rattle.sched.specs.declared.skeleton.Step.{Step}
use Rattle.sched.specs.declared.skeleton.Step.TheVariants.{Turns, Named, Tested}
use Rattle.sched.specs.Numbers.{numbers_named}
use Rattle.sched.specs.Standing.{◌>>=◌, StandingText, form_named, alone, is_now, starts_at, has_rest, is_overrun, innermost}
use Rattle.sched.specs.declared.ends.Reach.{Reach}
use Rattle.sched.specs.declared.ends.Run.{Run}

-- ---- steps

-- the next symbol is the smaller or the greater of two forms
abbrev pub picks : Pick → Form → Form → StandingText → StandingText
picks pick a b st = record st { next = st.next + 1; steps = st.steps ++ Named st.next pick (a ∷ b ∷ []) ∷ [] }

abbrev pub tests : Form → Form → StandingText → StandingText
tests low high st = record st { steps = st.steps ++ Tested low high ∷ [] }

abbrev pub tests_if : Bool → Form → Form → StandingText → StandingText
tests_if b low high st = if b then tests low high st else st

-- the loop of this symbol goes no further than one more form
abbrev pub limited_span : Bool → Form → Span1 → Span1
limited_span b limit x = if b then record x { upper = x.upper ++ limit ∷ [] } else x

abbrev pub limited : ℕ → Form → Step → Step
limited s limit (Turns i x kind) = Turns i (limited_span (i == s) limit x) kind
limited s limit (Named i pick forms) = Named i pick forms
limited s limit (Tested low high) = Tested low high

-- ---- blocks

abbrev pub is_guard : Tail → Bool
is_guard tails.Guard = true
is_guard tails.Roundup = false
is_guard tails.Shift = false

abbrev pub is_known : List Known → List ℕ → Bool
is_known ks x = elim (form_named ks x) [ Some f ↦ true | None ↦ false ]

-- a block may begin behind the last number: that is tested, but where each turn has as many blocks, or the position is guarded
abbrev pub is_asked : Split → Reach → StandingText → Bool
is_asked c r st = r.varies && not r.is_even && not (is_guard c.tail && is_known st.known c.inner)

-- under `shift` it begins no later than it has room
abbrev pub begin_at : Tail → List ℕ → ℕ → Form → Form → StandingText → Option StandingText
begin_at tails.Shift x n last form st = combined (number (pos 1 -ℤ pos n)) (pos 1) last >>= λ room. Some (starts_at x (alone st.next) (picks Min form room st))
begin_at tails.Guard x n last form st = Some (starts_at x form st)
begin_at tails.Roundup x n last form st = Some (starts_at x form st)

abbrev pub begin_over : Split → Reach → Option Form → StandingText → Option StandingText
begin_over c r None st = Some st
begin_over c r (Some outer) st =
    combined r.low (pos c.factor) outer >>= λ form. begin_at c.tail c.whole c.factor r.last form (tests_if (is_asked c r st) form r.last st)

-- the first number of a block stands as soon as the outer loop does
abbrev pub begin : Split → Reach → StandingText → Option StandingText
begin c r st = if is_known st.starts c.whole then Some st else begin_over c r (form_named st.known c.outer) st

-- ---- positions

abbrev pub keep_by_loop : List ℕ → Reach → Form → Form → ℕ → StandingText → Option StandingText
keep_by_loop x r form told s st = combined r.last (negsuc 0) (without told s) >>= λ limit. Some (is_now x form (record st { steps = map (limited s limit) st.steps }))

-- what a guard says a let behind it tells, and where the last number is not shown to be at least the first one, another
abbrev pub keep_by_let : List ℕ → Reach → Form → StandingText → StandingText
keep_by_let x r form st =
    if r.is_told then is_now x (alone st.next) (picks Min form r.last st) else is_now x (alone (st.next + 1)) (picks Max (alone st.next) r.low (picks Min form r.last st))

-- no let stands in a vectorised loop
abbrev pub keep_by_guard : Bool → List ℕ → Reach → Form → StandingText → StandingText
keep_by_guard lane x r form st = if lane then is_now x form (tests form r.last st) else keep_by_let x r form (tests form r.last st)

abbrev pub keep_by : Bool → List ℕ → Reach → Form → Form → Option ℕ → StandingText → Option StandingText
keep_by lane x r form told None st = Some (keep_by_guard lane x r form st)
keep_by lane x r form told (Some s) st = keep_by_loop x r form told s st

-- a number within the loop that was split: by a further upper form of the innermost loop that it counts once, or by a guard
abbrev pub keep : Bool → List ℕ → Reach → Form → Form → StandingText → Option StandingText
keep lane x r form told st = keep_by lane x r form told (innermost st.bound form) st

-- in one of several blocks of one number the position is the first one
abbrev pub told_form : Split → ℕ → Form → Form → Form
told_form c blocks start form = if (c.factor == 1) && nat_lt 1 blocks then start else form

abbrev pub put_together : Bool → Bool → Split → ℕ → Reach → Form → Form → StandingText → Option StandingText
put_together lane guarded c blocks r start form st = if guarded then keep lane c.whole r form (told_form c blocks start form) st else Some (is_now c.whole form st)

abbrev pub join_over : Bool → Bool → Split → ℕ → Reach → Option Form → Option Form → StandingText → Option StandingText
join_over lane guarded c blocks r None inner st = Some st
join_over lane guarded c blocks r (Some start) None st = Some st
join_over lane guarded c blocks r (Some start) (Some inner) st = combined start (pos 1) inner >>= λ form. put_together lane guarded c blocks r start form st

-- the position stands as soon as the block's first number and the inner loop do
abbrev pub join : Bool → Bool → Split → ℕ → Reach → StandingText → Option StandingText
join lane guarded c blocks r st = if is_known st.known c.whole then Some st else join_over lane guarded c blocks r (form_named st.starts c.whole) (form_named st.known c.inner) st

-- ---- all splits

abbrev pub reach_named : List Reach → List ℕ → Option Reach
reach_named rs x = find (λ r. same_name r.name x) rs

-- a guarded split whose blocks may go past the last number: not in each turn there are as many numbers, the last block is not full, or a loop that the split makes is
-- split again by blocks that run past its end
abbrev pub is_guarded : List Numbers → List Split → Split → Reach → Bool
is_guarded ns cs c r = is_guard c.tail && (r.varies || has_rest c (numbers_named ns c.whole).count || is_overrun ns cs c)

-- ---- loops

abbrev pub enter : Run → StandingText → StandingText
enter r st = is_now r.name (alone st.next) (record st { bound = st.bound ++ st.next ∷ []; next = st.next + 1; steps = st.steps ++ Turns st.next r.span r.kind ∷ [] })

abbrev pub is_lanes : Kind → Bool
is_lanes Serial = false
is_lanes Unroll = false
is_lanes Vector = true

-- whatever stands by a split is named, guarded and put together
abbrev pub settle_by : List Numbers → List Split → Bool → Split → Reach → StandingText → Option StandingText
settle_by ns all lane c r st = begin c r st >>= join lane (is_guarded ns all c r) c (numbers_named ns c.outer).count r

module _ (ns : List Numbers) (hs : List Reach) (all : List Split) where
  abbrev pub settle_one : Bool → Split → StandingText → Option StandingText
  settle_one lane c st = reach_named hs c.whole >>= λ r. settle_by ns all lane c r st

  -- of these splits
  abbrev pub settle : Bool → List Split → StandingText → Option StandingText
  settle lane [] st = Some st
  settle lane (c ∷ cs) st = settle_one lane c st >>= settle lane cs

  -- a loop, and whatever stands with it
  abbrev pub turn : Run → StandingText → Option StandingText
  turn r st = settle (is_lanes r.kind) all (enter r st)

  -- each inside the one before
  abbrev pub turn_all : List Run → StandingText → Option StandingText
  turn_all [] st = Some st
  turn_all (r ∷ rs) st = turn r st >>= turn_all rs
