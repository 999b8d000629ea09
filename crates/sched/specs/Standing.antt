-- What stands at a place of a nest: the forms of loops and of blocks, as soon as the symbols in them are bound.
use Rattle.std.specs.Prelude.{◌≡◌, ℕ, ◌+◌, ◌-◌, ◌%◌, ◌==◌, ℤ, pos, negsuc, ◌+ℤ◌, ◌-ℤ◌, Bool, true, false, not, ◌&&◌, ◌||◌, if◌then◌else◌, List, [], ◌∷◌, ◌++◌, length, find, reverse, slice_get, Option, Some, None, Result, Ok, Err}
use Rattle.std.specs.List.{flat_map, list_any}
use Rattle.std.specs.Option.{option_map}
use Rattle.std.specs.Ordering.{int_eq}
use Rattle.lin.specs.Forms.{Form, number, combined, without}
use Rattle.lin.specs.declared.form.Multiple.{Multiple}
use Rattle.lin.specs.declared.form.LinError.{LinError}
use Rattle.lin.specs.declared.form.LinError.TheVariants as lin_error
use Rattle.plan.specs.declared.stmt.Pick.TheVariants.{Min}
use Rattle.meaning.specs.Names.{same_name, is_among}
use Rattle.sched.specs.declared.schedule.Split.{Split}
use Rattle.sched.specs.declared.schedule.Tail.{Tail}
use Rattle.sched.specs.declared.schedule.Tail.TheVariants as tails
use Rattle.sched.specs.declared.numbers.Numbers.{Numbers}
use Rattle.sched.specs.declared.skeleton.Step.{Step}
use Rattle.sched.specs.declared.skeleton.Step.TheVariants.{Named, Tested}
use Rattle.sched.specs.declared.skeleton.Known.{Known}
use Rattle.sched.specs.declared.skeleton.Standing.{Standing}
use Rattle.sched.specs.declared.skeleton.Within.{Within}
use Rattle.sched.specs.declared.skeleton.Within.TheVariants as within
use Rattle.sched.specs.declared.skeleton.SkeletonError.{SkeletonError}
use Rattle.sched.specs.declared.skeleton.SkeletonError.TheVariants as error
use Rattle.sched.specs.Numbers.{numbers_named, last_number}

-- None where a form leaves the limits
infixl 10 ◌>>=◌
abbrev pub ◌>>=◌ : {A B : Type 0} → Option A → (A → Option B) → Option B
(Some x) >>= f = f x
None >>= f = None

-- ---- what stands at a place of a nest

-- the forms of loops, also of those that were split; those of the first numbers of a split's blocks, under the name of the loop that
-- was split; the symbols of the nest's loops; the next symbol; the steps so far, and further upper forms of the innermost loop
pub record StandingText : Type 0 where
  pub known : List Known
  pub starts : List Known
  pub bound : List ℕ
  pub next : ℕ
  pub steps : List Step
  pub limits : List Form

abbrev pub form_named : List Known → List ℕ → Option Form
form_named ks x = option_map (λ k. k.form) (find (λ k. same_name k.name x) ks)

-- a number and a symbol
abbrev pub counted_from : ℤ → ℕ → Form
counted_from z s = record { constant = z; terms = record { symbol = s; factor = pos 1 } ∷ [] }

abbrev pub alone : ℕ → Form
alone s = counted_from (pos 0) s

abbrev pub is_now : List ℕ → Form → StandingText → StandingText
is_now x form st = record st { known = st.known ++ record { name = x; form = form } ∷ [] }

abbrev pub starts_at : List ℕ → Form → StandingText → StandingText
starts_at x form st = record st { starts = st.starts ++ record { name = x; form = form } ∷ [] }

-- the next symbol is the smaller of a form and a number
abbrev pub name_smaller : Form → ℤ → StandingText → StandingText
name_smaller form z st = record st { next = st.next + 1; steps = st.steps ++ Named st.next Min (form ∷ number z ∷ []) ∷ [] }

abbrev pub test : Form → ℤ → StandingText → StandingText
test form z st = record st { steps = st.steps ++ Tested form (number z) ∷ [] }

-- ---- splits

-- the last number at which a full block begins
abbrev pub room : Numbers → ℕ → ℤ
room r n = last_number r -ℤ pos n +ℤ pos 1

-- under `shift` the block begins no later than it has room
abbrev pub begin_at : Tail → List ℕ → Form → ℤ → StandingText → StandingText
begin_at tails.Shift x form room st = starts_at x (alone st.next) (name_smaller form room st)
begin_at tails.Guard x form room st = starts_at x form st
begin_at tails.Roundup x form room st = starts_at x form st

abbrev pub begin_over : Split → Numbers → Option Form → StandingText → Option StandingText
begin_over c r None st = Some st
begin_over c r (Some outer) st =
    combined (number r.low) (pos c.factor) outer >>= λ form. Some (begin_at c.tail c.whole form (room r c.factor) st)

-- the first number of a block stands as soon as the outer loop does
abbrev pub begin : Split → Numbers → StandingText → Option StandingText
begin c r st = elim (form_named st.starts c.whole) [ Some form ↦ Some st | None ↦ begin_over c r (form_named st.known c.outer) st ]

-- of so many numbers the last block of the split is not full
abbrev pub has_rest : Split → ℕ → Bool
has_rest c count = (c.factor == 0) || not (count % c.factor == 0)

-- the blocks of the split run past the last number of its loop
abbrev pub overruns : List Numbers → Split → Bool
overruns rs c = elim c.tail [ tails.Roundup ↦ has_rest c (numbers_named rs c.whole).count | tails.Guard ↦ false | tails.Shift ↦ false ]

-- the split makes the loop of this name
abbrev pub is_half : Split → List ℕ → Bool
is_half c x = same_name c.outer x || same_name c.inner x

-- a loop that the split makes is split again, by blocks that run past its last number
abbrev pub is_overrun : List Numbers → List Split → Split → Bool
is_overrun rs cs c = list_any (λ d. is_half c d.whole && overruns rs d) cs

-- of these splits a guarded one whose blocks, as its loops run, go past the last number
abbrev pub is_guarded : List Numbers → List Split → Split → Bool
is_guarded rs cs c = elim c.tail [ tails.Guard ↦ has_rest c (numbers_named rs c.whole).count || is_overrun rs cs c | tails.Roundup ↦ false | tails.Shift ↦ false ]

abbrev pub last_term : Form → Option Multiple
last_term form = slice_get form.terms (length form.terms - 1)

abbrev pub is_bound : List ℕ → ℕ → Bool
is_bound bound s = list_any (λ one. one == s) bound

-- the symbol is that of a loop of the nest, and counts once
abbrev pub counted_once : List ℕ → Multiple → Option ℕ
counted_once bound t = if is_bound bound t.symbol && int_eq t.factor (pos 1) then Some t.symbol else None

-- the last symbol of the form is that of a loop of the nest, and counts once
abbrev pub innermost : List ℕ → Form → Option ℕ
innermost bound form = elim (last_term form) [ Some t ↦ counted_once bound t | None ↦ None ]

-- a further upper form of the innermost loop
abbrev pub keep_by_loop : List ℕ → Form → ℤ → ℕ → StandingText → Option StandingText
keep_by_loop x form last s st = combined (number last) (negsuc 0) (without form s) >>= λ limit. Some (is_now x form (record st { limits = st.limits ++ limit ∷ [] }))

-- a guard, and a let behind it that tells bounds what it says
abbrev pub keep_by_guard : List ℕ → Form → ℤ → StandingText → StandingText
keep_by_guard x form last st = is_now x (alone st.next) (name_smaller form last (test form last st))

-- a guard alone
abbrev pub keep_by_test : List ℕ → Form → ℤ → StandingText → StandingText
keep_by_test x form last st = is_now x form (test form last st)

-- a number within the loop that was split: by a further upper form of the innermost loop, or by a guard with a let behind it, but
-- that no let stands in a vectorised loop; over the grid alone neither stands
abbrev pub keep_within : Within → List ℕ → Form → ℤ → StandingText → Option ℕ → Option StandingText
keep_within within.Grid x form last st s = Some st
keep_within within.Nest x form last st (Some s) = keep_by_loop x form last s st
keep_within within.Nest x form last st None = Some (keep_by_guard x form last st)
keep_within within.Lanes x form last st (Some s) = keep_by_loop x form last s st
keep_within within.Lanes x form last st None = Some (keep_by_test x form last st)

-- the position in the loop that was split
abbrev pub put_together : Within → Bool → Split → Numbers → Form → StandingText → Option StandingText
put_together w guarded c r form st =
    if not guarded then Some (is_now c.whole form st) else keep_within w c.whole form (last_number r) st (innermost st.bound form)

abbrev pub join_over : Within → Bool → Split → Numbers → Option Form → Option Form → StandingText → Option StandingText
join_over w guarded c r (Some start) (Some inner) st = combined start (pos 1) inner >>= λ form. put_together w guarded c r form st
join_over w guarded c r _ _ st = Some st

-- the position stands as soon as the block's first number and the inner loop do
abbrev pub join : Within → Bool → Split → Numbers → StandingText → Option StandingText
join w guarded c r st = elim (form_named st.known c.whole) [ Some form ↦ Some st | None ↦ join_over w guarded c r (form_named st.starts c.whole) (form_named st.known c.inner) st ]

-- whatever stands by some of all the splits is named, guarded and put together
abbrev pub settle_some : Within → List Numbers → List Split → List Split → StandingText → Option StandingText
settle_some w rs all [] st = Some st
settle_some w rs all (c ∷ cs) st =
    let r = numbers_named rs c.whole in begin c r st >>= λ begun. join w (is_guarded rs all c) c r begun >>= settle_some w rs all cs

-- and by all of them
abbrev pub settle : Within → List Numbers → List Split → StandingText → Option StandingText
settle w rs cs st = settle_some w rs cs cs st

-- ---- splits, in the order in which what they make stands

-- the splits of these loops and of what these make
abbrev pub cuts_of : List Split → List (List ℕ) → List Split
cuts_of [] names = []
cuts_of (c ∷ cs) names = if is_among names c.whole then c ∷ cuts_of cs (names ++ c.outer ∷ c.inner ∷ []) else cuts_of cs names

-- variable by variable, later splits first, so that a split's own loops come before it
abbrev pub cuts_by_variable : List Split → List (List ℕ) → List Split
cuts_by_variable cs xs = flat_map (λ x. reverse (cuts_of cs (x ∷ []))) xs

-- ---- what a function that builds answers

abbrev pub standing_of : Standing → StandingText
standing_of st = record { known = st.known.items; starts = st.starts.items; bound = st.bound.items; next = st.next; steps = st.steps.items; limits = st.limits.items }

abbrev pub form_refusal : LinError → SkeletonError
form_refusal lin_error.Memory = error.Memory
form_refusal lin_error.Limit = error.Limit

-- what is told, unless memory ran out
abbrev pub Builds : {X : Type 0} → Result X SkeletonError → StandingText → Option StandingText → Type 0
Builds (Ok x) new told = told ≡ Some new
Builds (Err error.Memory) new told = Unit {0}
Builds (Err error.Limit) new told = told ≡ None
