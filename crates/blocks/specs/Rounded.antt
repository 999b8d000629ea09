-- Functions with updates in blocks that run past the end of what is needed: what is named before their nests, over what these go then, and of what their claims speak. An
-- update that calls its own function may read what its blocks make past the end, so that what they make is told: blocks begin at one form, where each turn has as many of
-- them, or lets count them.
use Rattle.std.specs.Prelude.{ℕ, zero, suc, ◌+◌, ◌^◌, nat_lt, ℤ, pos, negsuc, neg_ℤ, int_div, int_le, int_lt, Bool, true, false, not, ◌&&◌, ◌||◌, if◌then◌else◌, List, [], ◌∷◌, ◌++◌}
use Rattle.std.specs.Prelude.{length, Option, Some, None, slice_get}
use Rattle.std.specs.List.{list_any}
use Rattle.std.specs.Int.{saturate_signed, w64}
use Rattle.lin.specs.Forms.{Form, number, combined}
use Rattle.lin.specs.Search.{is_empty, sup_of_difference}
use Rattle.lin.specs.declared.scope.Binding.{Binding}
use Rattle.lin.specs.declared.scope.Binding.TheVariants.{LetMin, LetMax}
use Rattle.lin.specs.declared.span.Span1.{Span1}
use Rattle.meaning.specs.Algorithm.{Algorithm}
use Rattle.meaning.specs.Names.{same_name}
use Rattle.plan.specs.declared.stmt.Pick.{Pick}
use Rattle.plan.specs.declared.stmt.Pick.TheVariants.{Min, Max}
use Rattle.sched.specs.declared.schedule.Split.{Split}
use Rattle.sched.specs.declared.schedule.Tail.{Tail}
use Rattle.sched.specs.declared.schedule.Tail.TheVariants as tails
use Rattle.sched.specs.declared.skeleton.Step.{Step}
use Rattle.sched.specs.declared.skeleton.Step.TheVariants.{Named}
use Rattle.sched.specs.Skeleton.{NestText}
use Rattle.sched.specs.Standing.{◌>>=◌, alone}
use Rattle.blocks.specs.declared.counting.Blocks.{Blocks}
use Rattle.blocks.specs.declared.rounded.Begun.{Begun}
use Rattle.blocks.specs.declared.counting.Names.{Names}
use Rattle.blocks.specs.declared.counting.Rests.{Rests}
use Rattle.blocks.specs.declared.rounded.Run.{Run}
use Rattle.blocks.specs.declared.rounded.Tally.{Tally}
use Rattle.sched.specs.Around.{bind_steps}
use Rattle.blocks.specs.Blocks.{sum, product}
use Rattle.sched.specs.Blocks.{difference}
use Rattle.blocks.specs.Bounded.{is_bounded}
use Rattle.sched.specs.Stored.{FormulaText, StoredText, calls_in}
use Rattle.sched.specs.Taken.{at_least_one, run_of, shortest}
use Rattle.sched.specs.Demanded.{has_split_half, is_alone}
use Rattle.blocks.specs.Parted.{counted_at, has_further, rounding, told_span}
use Rattle.sched.specs.Slid.{is_single}
use Rattle.sched.specs.Windows.{size_below}

-- ---- names

-- what stands around nests, its last symbols those of lets that are named before them
pub record NamesText : Type 0 where
  pub scope : List Binding
  pub lets : List Step

abbrev pub bound_to : Pick → List Form → Binding
bound_to Min fs = LetMin fs
bound_to Max fs = LetMax fs

-- the symbol that is named next
abbrev pub next_name : NamesText → Form
next_name n = alone (length n.scope)

-- it is the smallest or largest of these
abbrev pub name : Pick → List Form → NamesText → NamesText
name pick fs n = record { scope = n.scope ++ bound_to pick fs ∷ []; lets = n.lets ++ Named (length n.scope) pick fs ∷ [] }

abbrev pub name_of_two : Pick → Form → Form → NamesText → NamesText
name_of_two pick f g n = name pick (f ∷ g ∷ []) n

-- ---- blocks that are counted

-- how many numbers are left behind the first block, and behind each of so many others, the last apart; never below 0
pub record RestsText : Type 0 where
  pub firsts : List Form
  pub last : Form
  pub names : NamesText

abbrev pub none_below : Form → NamesText → NamesText
none_below left n = name_of_two Max (number (pos 0)) left n

abbrev pub rests_from : ℤ → ℕ → Form → List Form → NamesText → Option RestsText
rests_from k zero left firsts n = Some (record { firsts = firsts; last = next_name n; names = none_below left n })
rests_from k (suc c) left firsts n =
    combined (number (saturate_signed w64 (neg_ℤ k))) (pos 1) (next_name n) >>= λ rest. rests_from k c rest (firsts ++ next_name n ∷ []) (none_below left n)

-- a sum and these, each at most so much
abbrev pub add_parts : ℤ → List Form → Form → NamesText → Option (Form × NamesText)
add_parts most [] total n = Some (total, n)
add_parts most (f ∷ fs) total n = combined total (pos 1) (next_name n) >>= λ t. add_parts most fs t (name_of_two Min f (number most) n)

-- behind the first block's end so many numbers are needed, and so many more blocks stand: all numbers are up to the end, and the blocks make all up to it
abbrev pub end_of : Form → Form → Form → ℤ → NamesText → Option NamesText
end_of first_end needed further k n =
    combined first_end (pos 1) needed >>= λ a. combined first_end k further >>= λ b. Some (name_of_two Max a b n)

abbrev pub with_block : Form → Form → Blocks → Blocks
with_block further end b = record { further = b.further ++ further ∷ []; ends = b.ends ++ end ∷ [] }

-- the blocks that take these rests
abbrev pub count_rests : Form → ℤ → RestsText → Blocks → Option (Blocks × NamesText)
count_rests first_end k r b =
    add_parts k r.firsts r.last r.names >>= λ needed.
    add_parts (pos 1) r.firsts r.last needed.1 >>= λ further.
    end_of first_end needed.0 further.0 k further.1 >>= λ n. Some (with_block further.0 (next_name further.1) b, n)

abbrev pub count_past : Form → Form → ℤ → ℕ → Blocks → NamesText → Option (Blocks × NamesText)
count_past first_end past k c b n = if is_empty past.terms then Some (b, n) else (rests_from k c past [] n >>= λ r. count_rests first_end k r b)

-- the blocks from a number up to the one that has the last number; of more than so many behind the first one too many are counted
abbrev pub count : Form → ℤ → ℕ → Form → Blocks → NamesText → Option (Blocks × NamesText)
count low k c last b n =
    combined (number (difference k (pos 1))) (pos 1) low >>= λ first_end.
    combined last (negsuc 0) first_end >>= λ past. count_past first_end past k c b n

abbrev pub count_all : Form → ℤ → ℕ → List Form → Blocks → NamesText → Option (Blocks × NamesText)
count_all low k c [] b n = Some (b, n)
count_all low k c (f ∷ fs) b n = count low k c f b n >>= λ r. count_all low k c fs r.0 r.1

-- those of a span from its one lower form on, of which so many may stand behind the first one
abbrev pub counted : Form → ℤ → ℕ → List Form → NamesText → Option (Blocks × NamesText)
counted low k c upper n =
    combined (number (difference (product k (sum (pos c) (pos 1))) (pos 1))) (pos 1) low >>= λ end.
    count_all low k c upper (record { further = []; ends = end ∷ [] }) n

-- ---- dimensions

-- how many more blocks stand behind the first one at most, where there are so many numbers, and the last number of full blocks before the last one
abbrev pub further_of : ℤ → ℤ → ℤ
further_of n k = if int_lt (pos 0) k then int_div (difference n (pos 1)) k else pos 0

abbrev pub tally_by : List Binding → Span1 → ℤ → ℕ × ℤ → Option Tally
tally_by scope t k best =
    has_further scope t (product (further_of best.1 k) k) >>= λ e. Some (record { place = best.0; further = further_of best.1 k; is_even = e })

-- None where a form leaves the limits; Some None where bounds tell no number of them
abbrev pub tally_if : List Binding → Span1 → ℤ → Option (ℕ × ℤ) → Option (Option Tally)
tally_if scope t k None = Some None
tally_if scope t k (Some best) = tally_by scope t k best >>= λ y. Some (Some y)

abbrev pub tally_of : List Binding → Span1 → ℤ → Option (Option Tally)
tally_of scope t k = tally_if scope t k (shortest scope t)

-- the variable's loop is split into loops that are split again
abbrev pub has_split_again : List Split → Option (List ℕ) → Bool
has_split_again cs None = false
has_split_again cs (Some x) = list_any (λ c. same_name c.whole x && has_split_half cs c) cs

abbrev pub is_split_again : StoredText → ℕ → Bool
is_split_again g d = has_split_again g.placed.cuts (slice_get g.subject.variables d)

abbrev pub run_over : Span1 → Run
run_over s = record { span = s; is_moved = false; blocks = None }

abbrev pub moved_run : Span1 → Form → Run
moved_run s low = record { span = record s { lower = low ∷ [] }; is_moved = true; blocks = None }

abbrev pub counted_run : Span1 → Blocks → Run
counted_run s b = record { span = s; is_moved = false; blocks = Some b }

abbrev pub counted_by : Option (Blocks × NamesText) → Span1 → Option (Run × NamesText)
counted_by o s = o >>= λ r. Some (counted_run s r.0, r.1)

abbrev pub count_of : ℤ → ℕ
count_of (pos n) = if nat_lt n (2 ^ 32) then n else 0
count_of (negsuc n) = 0

-- of one lower form they are counted, where not each turn has as many
abbrev pub alone_run : Bool → ℤ → Span1 → Form → List Form → Tally → NamesText → Option (Run × NamesText)
alone_run b k s low upper y n =
    if y.is_even || not b then Some (run_over s, n) else counted_by (counted low k (count_of y.further) upper n) s

abbrev pub moved_if : Bool → Span1 → Option Form → Run
moved_if b s None = run_over s
moved_if b s (Some low) = if b then moved_run s low else run_over s

-- of several they begin at one, where each turn has as many
abbrev pub told_run : Bool → ℤ → Span1 → List Form → List Form → Tally → NamesText → Option (Run × NamesText)
told_run b k s [] upper y n = Some (moved_if y.is_even s (slice_get [] y.place), n)
told_run b k s (low ∷ []) upper y n = alone_run b k s low upper y n
told_run b k s (low ∷ l ∷ ls) upper y n = Some (moved_if y.is_even s (slice_get (low ∷ l ∷ ls) y.place), n)

-- at most three further blocks are counted, and none where the loops that they make are split again
abbrev pub is_counted : StoredText → ℕ → Tally → Bool
is_counted g d y = int_le y.further (pos 3) && not (is_split_again g d)

abbrev pub run_if : StoredText → ℕ → ℤ → Span1 → Span1 → Option Tally → NamesText → Option (Run × NamesText)
run_if g d k s t None n = Some (run_over s, n)
run_if g d k s t (Some y) n = told_run (is_counted g d y) k s t.lower t.upper y n

abbrev pub run_in : StoredText → ℕ → ℤ → Span1 → NamesText → Option (Run × NamesText)
run_in g d k s n = tally_of n.scope (told_span n.scope s) k >>= λ y. run_if g d k s (told_span n.scope s) y n

-- the factor by which the dimension's loop is split with `roundup`, where it is
abbrev pub rounding_of : StoredText → ℕ → Option ℕ
rounding_of g d = slice_get g.subject.variables d >>= rounding g.placed.cuts

abbrev pub run_by : StoredText → ℕ → Span1 → NamesText → Option ℕ → Option (Run × NamesText)
run_by g d s n None = Some (run_over s, n)
run_by g d s n (Some k) = run_in g d (pos k) s n

-- over what the nests go in a dimension, and its blocks, with what is named for it
abbrev pub run_at : StoredText → ℕ → Span1 → NamesText → Option (Run × NamesText)
run_at g d s n = run_by g d s n (rounding_of g d)

-- ---- what is named before nests

pub record BegunText : Type 0 where
  pub lets : List Step
  pub region : List Span1
  pub is_moved : Bool
  pub blocks : List (Option Blocks)

abbrev pub unnamed : List Span1 → BegunText
unnamed region = record { lets = []; region = region; is_moved = false; blocks = [] }

abbrev pub with_run : Run → BegunText → BegunText
with_run r b = record b { region = b.region ++ r.span ∷ []; is_moved = b.is_moved || r.is_moved; blocks = b.blocks ++ r.blocks ∷ [] }

-- of these dimensions, from this one on
abbrev pub runs_from : StoredText → ℕ → List Span1 → NamesText → BegunText → Option (NamesText × BegunText)
runs_from g d [] n b = Some (n, b)
runs_from g d (s ∷ ss) n b = run_at g d s n >>= λ r. runs_from g (d + 1) ss r.1 (with_run r.0 b)

abbrev pub with_lets : List Step → BegunText → BegunText
with_lets lets b = record b { lets = lets }

-- None where a form leaves the limits of forms
abbrev pub named_over : StoredText → List Binding → List Span1 → Option BegunText
named_over g scope region = runs_from g 0 region (record { scope = scope; lets = [] }) (unnamed []) >>= λ r. Some (with_lets r.0.lets r.1)

-- an update of the function calls it
abbrev pub calls_itself : StoredText → List FormulaText → Bool
calls_itself g fs = list_any (λ f. list_any (λ c. same_name c.name g.subject.name) (calls_in f)) fs

abbrev pub is_roundup : Tail → Bool
is_roundup tails.Roundup = true
is_roundup tails.Guard = false
is_roundup tails.Shift = false

-- no update may read what is made past what is needed: the function has none, or none of its loops is split with `roundup` but in blocks of one number
abbrev pub is_plain : StoredText → List FormulaText → Bool
is_plain g fs = is_single fs || not (list_any (λ c. is_roundup c.tail && not (is_alone g.placed.cuts c)) g.placed.cuts)

-- where blocks begin before what is needed, each index is shown to stay where it may
abbrev pub is_allowed : Algorithm → StoredText → List FormulaText → List Binding → List Span1 → BegunText → List NestText → Option Bool
is_allowed a g fs inner region b ns = if b.is_moved then is_bounded a g inner region 0 fs ns else Some true

-- ---- as memory keeps it

abbrev pub names_seen : Names → NamesText
names_seen n = record { scope = n.scope; lets = n.lets.items }

abbrev pub rests_seen : Rests → NamesText → RestsText
rests_seen r n = record { firsts = r.firsts.items; last = r.last; names = n }

abbrev pub begun_seen : Begun → BegunText
begun_seen b = record { lets = b.lets.items; region = b.region; is_moved = b.is_moved; blocks = b.blocks.items }

-- ---- claims

abbrev pub larger : ℤ → ℤ → ℤ
larger a b = if int_lt a b then b else a

-- from a number on so many numbers hold what the nest stores of a dimension, and this many; None where bounds do not tell it
abbrev pub stored_by : Option ℤ → ℤ → Option ℤ
stored_by None most = None
stored_by (Some z) most = Some (larger most (sum z (pos 1)))

abbrev pub stored_in : List Binding → Form → List Step → Option Form → ℤ → Option ℤ
stored_in scope origin steps None most = Some most
stored_in scope origin steps (Some f) most = stored_by (sup_of_difference (bind_steps scope steps) f origin) most

abbrev pub stored_at : List Binding → ℕ → Form → NestText → ℤ → Option ℤ
stored_at scope d origin n most = stored_in scope origin n.steps (slice_get n.at d >>= λ o. o) most

-- the same of each of these
abbrev pub stored_from : List Binding → ℕ → Form → List NestText → ℤ → Option ℤ
stored_from scope d origin [] most = Some most
stored_from scope d origin (n ∷ ns) most = stored_at scope d origin n most >>= λ z. stored_from scope d origin ns z

-- so many numbers, or so many, behind each lower form no upper form is passed
abbrev pub has_either : List Binding → Span1 → ℤ → ℤ → Option Bool
has_either scope t begun last = has_further scope t begun >>= λ b. if b then Some true else has_further scope t last

abbrev pub run_shown : Form → ℤ → Bool → Option (Option Span1)
run_shown low count b = if b then (run_of low count >>= λ s. Some (Some s)) else Some None

abbrev pub run_counted : List Binding → ℕ → Span1 → Form → ℤ → Option ℤ → Option (Option Span1)
run_counted scope k t low most None = Some None
run_counted scope k t low most (Some count) = has_either scope t (difference count (pos k)) (difference most (pos 1)) >>= run_shown low count

module _ (scope : List Binding) (ns : List NestText) (d k : ℕ) where
  abbrev pub run_most : Span1 → Form → Option ℤ → Option (Option Span1)
  run_most t low None = Some None
  run_most t low (Some most) = run_counted scope k t low most (stored_from scope d low ns most)

  -- from the first number to the last that the nests store in blocks of so many numbers, where that is the same in each turn; the ends are told
  abbrev pub run_told : Span1 → List Form → Option (Option Span1)
  run_told t [] = Some None
  run_told t (low ∷ []) = run_most t low (at_least_one (size_below scope low t.upper))
  run_told t (low ∷ l ∷ ls) = Some None

  -- the same of any span
  abbrev pub same_run : Span1 → Option (Option Span1)
  same_run s = run_told (told_span scope s) (told_span scope s).lower

  -- what the blocks of a dimension make; None where no form tells it
  abbrev pub made_by : Span1 → Option Blocks → Option (Option Span1)
  made_by s None = same_run s
  made_by s (Some b) = Some (Some (record { lower = (told_span scope s).lower; upper = b.ends }))

-- the function has no updates
abbrev pub are_few : List NestText → Bool
are_few [] = true
are_few (n ∷ []) = true
are_few (n ∷ m ∷ ns) = false

abbrev pub or_span : Span1 → Option Span1 → Span1
or_span s None = s
or_span s (Some wide) = wide

module _ (g : StoredText) (scope : List Binding) (b : BegunText) (ns : List NestText) where
  abbrev pub wide_by : ℕ → Option ℕ → Option Span1 → Option (Option Span1)
  wide_by d None o = Some None
  wide_by d (Some k) None = Some None
  wide_by d (Some k) (Some s) = if are_few ns then Some None else made_by scope ns d k s (counted_at b.blocks d)

  -- where the dimension is split with `roundup`, and the function has updates
  abbrev pub wide_at : ℕ → Option (Option Span1)
  wide_at d = wide_by d (rounding_of g d) (slice_get b.region d)

  -- from this dimension on, behind others
  abbrev pub add_claims : ℕ → List Span1 → List Span1 → Option (List Span1)
  add_claims d [] before = Some before
  add_claims d (s ∷ ss) before = wide_at d >>= λ o. add_claims (d + 1) ss (before ++ or_span s o ∷ [])

  -- of what the claims of a function speak: what is needed, and where blocks run past the end what its updates set there
  abbrev pub claim_of : List Span1 → Option (List Span1)
  claim_of region = add_claims 0 region []
