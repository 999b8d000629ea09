-- A window of three rows written out, and with one number altered.
use Rattle.std.specs.Prelude.{◌≡◌, ℕ, ◌-◌, ◌^◌, ◌&&◌, Bool, true, false, List, [], ◌∷◌, ℤ, pos, negsuc, codes}
use Rattle.lin.specs.Forms.{Form, number}
use Rattle.lin.specs.declared.form.Multiple.{Multiple}
use Rattle.lin.specs.declared.span.Span1.{Span1}
use Rattle.numeric.specs.declared.ty.Ty.TheVariants.{U8}
use Rattle.tree.specs.Term.{Number}
use Rattle.plan.specs.declared.certificate.cert.Window.{Window}
use Rattle.plan.specs.declared.stmt.Pick.TheVariants.{Min, Max}
use Rattle.plan.specs.declared.stmt.Places.{Places}
use Rattle.plan.specs.declared.stmt.Places.TheVariants.{From, Folded}
use Rattle.plan.specs.Plan.{Statement, First, Guard, Let, Store, Seq, block}
use Rattle.plan.specs.Semantics.Actions.{Setting}
use Rattle.plan.specs.Semantics.Worked.{plus, symbol, constants, is, loop}
use Rattle.plan.specs.Certificate.Certificate.{Claim}
use Rattle.soundness.specs.Around.{Binder, Ranged, Picked, Passed}
use Rattle.soundness.specs.Shown.{raised}
use Rattle.soundness.specs.Binders.View.{grid_binders}
use Rattle.tails.specs.Worked.{bounds_alone, over_two, spans}
use Rattle.tails.specs.Windows.Spans.{is_window}
use Rattle.tails.specs.Windows.Arms.{is_slid, is_held}

-- `k+4*s0+1*s1`: where row k from the turn's own row lies
abbrev pub row : ℤ → Form
row k = over_two k (pos 4) 0 (pos 1) 1

-- the rows that a turn needs: `-1+4*s0+1*s1,-1,0:1+4*s0+1*s1,7`
abbrev pub needed_rows : Span1
needed_rows = spans (row (negsuc 0) ∷ number (negsuc 0) ∷ number (pos 0) ∷ []) (row (pos 1) ∷ number (pos 7) ∷ [])

abbrev pub all_columns : Span1
all_columns = constants (pos 0) (pos 3)

-- f at each column of these rows
abbrev pub rows_of_f : ℕ → ℕ → Span1 → Statement
rows_of_f i j rows = Seq (block (loop i rows (loop j all_columns (
    Store 1 0 (is (codes "x") (symbol j) ∷ is (codes "y") (symbol i) ∷ []) (Number U8 (pos 1)) ∷ []) ∷ []) ∷ []))

-- all needed rows in the first turn of a loop, in later ones those from a let on
abbrev pub slide_over : ℕ → Span1 → Statement
slide_over i first_rows = First i (rows_of_f 3 4 first_rows) (rows_of_f 5 6 (spans (symbol 2 ∷ []) (row (pos 1) ∷ number (pos 7) ∷ [])))

abbrev pub slide : Statement
slide = slide_over 1 needed_rows

-- the later turns' nest stores one row more
abbrev pub slide_past : Statement
slide_past = First 1 (rows_of_f 3 4 needed_rows) (rows_of_f 5 6 (spans (symbol 2 ∷ []) (row (pos 2) ∷ number (pos 8) ∷ [])))

-- round it: the let `s2 min a,b`, four rows a piece and two pieces
abbrev pub around : Form → Form → List Binder
around a b = Picked 2 Min (a ∷ b ∷ []) ∷ Ranged 1 (constants (pos 0) (pos 3)) ∷ grid_binders (2 ∷ [])

abbrev pub from_next : List Binder
from_next = around (row (pos 1)) (number (pos 8))

abbrev pub slide_setting : Setting
slide_setting = record {
  dimensions = λ b. 2;
  buffer_function = λ b. codes "f";
  group_function = λ g. codes "f";
  own = λ s. [];
}

abbrev pub claim_over : List Span1 → Claim
claim_over region = record { line = 21; buffer = 1; function = codes "f"; definition = 0; region = region }

abbrev pub needed : Claim
needed = claim_over (all_columns ∷ needed_rows ∷ [])

-- with a further upper end
abbrev pub ending_at : ℕ → Claim
ending_at n = claim_over (all_columns ∷ spans needed_rows.lower (row (pos 1) ∷ number (pos n) ∷ number (pos 7) ∷ []) ∷ [])

abbrev pub folded : ℕ → List Places
folded n = From (number (pos 0)) 4 ∷ Folded n ∷ []

abbrev pub unfolded : List Places
unfolded = From (number (pos 0)) 4 ∷ From (number (pos 0)) 8 ∷ []

abbrev pub window : ℕ → ℕ → ℕ → Window
window i d n = record { claim = 0; symbol = i; dimension = d; fold = n; span = needed_rows }

-- the claim, and the window
abbrev pub slides : List Binder → ℕ → Statement → Bool
slides bs n a = is_slid slide_setting bounds_alone bs needed (folded n) (window 1 1 n) a

abbrev pub holds : List Binder → ℕ → Window → Statement → Bool
holds bs n w a = is_held slide_setting bounds_alone bs needed (folded n) w a

pub record ThreeRowsSlide : Type 0 where
  pub slid : slides from_next 3 slide ≡ true
  pub held : holds from_next 3 (window 1 1 3) slide ≡ true
  -- with more places
  pub seven_slid : slides from_next 7 slide ≡ true
  pub seven_held : holds from_next 7 (window 1 1 7) slide ≡ true
  -- with two the claim is made, and the window does not hold
  pub two_slid : slides from_next 2 slide ≡ true
  pub two_held : holds from_next 2 (window 1 1 2) slide ≡ false
  -- the fold is that of the buffer
  pub window_alone : holds from_next 3 (window 1 1 7) slide ≡ false
  pub buffer_alone : holds from_next 7 (window 1 1 3) slide ≡ false
  pub no_fold : holds from_next 3 (window 1 1 0) slide ≡ false
  -- a row is left out
  pub from_two : slides (around (row (pos 2)) (number (pos 9))) 3 slide ≡ false
  -- or made again
  pub from_zero_slid : slides (around (row (pos 0)) (number (pos 7))) 3 slide ≡ true
  pub from_zero_held : holds (around (row (pos 0)) (number (pos 7))) 3 (window 1 1 3) slide ≡ true
  -- the first turn leaves a row out
  pub first_lacks : slides from_next 3 (slide_over 1 (spans (row (pos 0) ∷ []) (row (pos 1) ∷ number (pos 7) ∷ []))) ≡ false
  -- another loop, another dimension
  pub other_loop : slides from_next 3 (slide_over 0 needed_rows) ≡ false
  pub other_window : holds from_next 3 (window 0 1 3) slide ≡ false
  pub other_dimension : holds from_next 3 (window 1 0 3) slide ≡ false
  pub no_dimension : holds from_next 3 (window 1 2 3) slide ≡ false
  -- a buffer that is not folded
  pub unfolded_slid : is_slid slide_setting bounds_alone from_next needed unfolded (window 1 1 0) slide ≡ true
  pub unfolded_held : is_held slide_setting bounds_alone from_next needed unfolded (window 1 1 0) slide ≡ true
  pub unfolded_three : is_held slide_setting bounds_alone from_next needed unfolded (window 1 1 3) slide ≡ false
  -- a nest that stores past the rows
  pub past_slid : slides from_next 3 slide_past ≡ true
  pub past_three : holds from_next 3 (window 1 1 3) slide_past ≡ false
  pub past_four : holds from_next 4 (window 1 1 4) slide_past ≡ true
  -- an end at the limit of constants: the row above it is past that
  pub at_limit : is_slid slide_setting bounds_alone from_next (ending_at (2 ^ 40 - 1)) (folded 3) (window 1 1 3) slide ≡ true
  pub past_limit : is_slid slide_setting bounds_alone from_next (ending_at (2 ^ 40)) (folded 3) (window 1 1 3) slide ≡ false
  -- rows that are told by the let
  pub by_let : is_held slide_setting bounds_alone from_next (claim_over (all_columns ∷ spans (plus (negsuc 1) (pos 1) 2 ∷ []) (symbol 2 ∷ []) ∷ []))
      (folded 3) (window 1 1 3) slide ≡ false

-- ---- nests of split loops, in loops that are split

-- f where the forms are
abbrev pub store_f : Form → Form → Statement
store_f x y = Store 1 0 (is (codes "x") x ∷ is (codes "y") y ∷ []) (Number U8 (pos 1))

-- so many times a symbol
abbrev pub times : ℤ → ℕ → Multiple
times k i = record { symbol = i; factor = k }

-- the column of a block's number: `4*s4+1*s5`
abbrev pub column : Form
column = over_two (pos 0) (pos 4) 4 (pos 1) 5

-- f at ten columns of these rows, the columns split by four: the last block ends with the columns, or is whole, or begins sooner
abbrev pub end_guarded : Span1 → Statement
end_guarded rows = Seq (block (loop 3 rows (loop 4 (constants (pos 0) (pos 2)) (
    loop 5 (spans (number (pos 0) ∷ []) (number (pos 3) ∷ plus (pos 9) (negsuc 3) 4 ∷ [])) (store_f column (symbol 3) ∷ []) ∷ []) ∷ []) ∷ []))

abbrev pub rounded_up : Span1 → Statement
rounded_up rows = Seq (block (loop 3 rows (loop 4 (constants (pos 0) (pos 2)) (
    loop 5 (constants (pos 0) (pos 3)) (store_f column (symbol 3) ∷ []) ∷ []) ∷ []) ∷ []))

abbrev pub shifted : Span1 → Statement
shifted rows = Seq (block (loop 3 rows (loop 4 (constants (pos 0) (pos 2)) (
    Let 5 Min (plus (pos 0) (pos 4) 4 ∷ number (pos 6) ∷ []) ∷ loop 6 (constants (pos 0) (pos 3)) (
    store_f (over_two (pos 0) (pos 1) 5 (pos 1) 6) (symbol 3) ∷ []) ∷ []) ∷ []) ∷ []))

-- behind a guard, the inner loop outside
abbrev pub inner_outside : Span1 → Statement
inner_outside rows = Seq (block (loop 3 rows (loop 4 (constants (pos 0) (pos 3)) (loop 5 (constants (pos 0) (pos 2)) (
    Guard (over_two (pos 0) (pos 1) 4 (pos 4) 5) (number (pos 9)) (Seq (block (
    Let 6 Min (over_two (pos 0) (pos 1) 4 (pos 4) 5 ∷ number (pos 9) ∷ []) ∷ store_f (symbol 6) (symbol 3) ∷ []))) ∷ []) ∷ []) ∷ []) ∷ []))

-- the rows split by two, from a let for the first of them on
abbrev pub rows_split : List Form → List Form → Statement
rows_split lower upper = Seq (block (Let 3 Max lower ∷ loop 4 (constants (pos 0) (pos 1)) (
    loop 5 (spans (number (pos 0) ∷ []) (number (pos 1) ∷ upper)) (loop 6 (constants (pos 0) (pos 9)) (
    store_f (symbol 6) (record { constant = pos 0; terms = times (pos 1) 3 ∷ times (pos 2) 4 ∷ times (pos 1) 5 ∷ [] })
    ∷ []) ∷ []) ∷ []) ∷ []))

-- `k-1*s3-2*s4`, and with rows of the turn
abbrev pub less_begun : ℤ → Form
less_begun k = record { constant = k; terms = times (negsuc 0) 3 ∷ times (negsuc 1) 4 ∷ [] }

abbrev pub row_less_begun : ℤ → Form
row_less_begun k = record { constant = k; terms = times (pos 4) 0 ∷ times (pos 1) 1 ∷ times (negsuc 0) 3 ∷ times (negsuc 1) 4 ∷ [] }

abbrev pub new_rows : Span1
new_rows = spans (symbol 2 ∷ []) (row (pos 1) ∷ number (pos 7) ∷ [])

abbrev pub by_arms : (Span1 → Statement) → Statement
by_arms nest = First 1 (nest needed_rows) (nest new_rows)

abbrev pub ten_columns : Claim
ten_columns = claim_over (constants (pos 0) (pos 9) ∷ needed_rows ∷ [])

-- so many columns of places
abbrev pub in_columns : ℕ → List Places
in_columns n = From (number (pos 0)) n ∷ Folded 3 ∷ []

abbrev pub slides_over : ℕ → Statement → Bool
slides_over n a =
    is_slid slide_setting bounds_alone from_next ten_columns (in_columns n) (window 1 1 3) a
    && is_held slide_setting bounds_alone from_next ten_columns (in_columns n) (window 1 1 3) a

-- ---- loops that are split, round a window

-- the claim of three rows round one, and whether it is made along a window of this loop by nests of these rows
abbrev pub three_round : Form → ℤ → ℤ → Span1
three_round own k n = spans (raised own k ∷ []) (raised own n ∷ [])

abbrev pub slides_round : List Binder → ℕ → Form → Form → Bool
slides_round bs i own new =
    let rows = three_round own (negsuc 0) (pos 1) in
    let claim = claim_over (all_columns ∷ rows ∷ []) in
    let line : Window = record { claim = 0; symbol = i; dimension = 1; fold = 3; span = rows } in
    let a = First i (rows_of_f 6 7 rows) (rows_of_f 6 7 (spans (new ∷ []) rows.upper)) in
    is_slid slide_setting bounds_alone bs claim (folded 3) line a && is_held slide_setting bounds_alone bs claim (folded 3) line a

-- `4*s0+1*s1`, the outer loop s0 and the inner s1, either way round
abbrev pub outer_first : List Binder
outer_first = Ranged 1 (constants (pos 0) (pos 3)) ∷ Ranged 0 (constants (pos 0) (pos 1)) ∷ []

abbrev pub inner_first : List Binder
inner_first = Ranged 0 (constants (pos 0) (pos 1)) ∷ Ranged 1 (constants (pos 0) (pos 3)) ∷ []

-- a block that begins at a let: `1*s1+1*s2` with `let s1 min 4*s0,5`
abbrev pub from_let : List Binder
from_let = Ranged 2 (constants (pos 0) (pos 3)) ∷ Picked 1 Min (plus (pos 0) (pos 4) 0 ∷ number (pos 5) ∷ []) ∷ Ranged 0 (constants (pos 0) (pos 2)) ∷ []

-- rows behind a guard and its let: `guard 4*s0+1*s1<=8`, `let s2 min 4*s0+1*s1,8`
abbrev pub guarded_row : List Binder
guarded_row =
    Picked 2 Min (over_two (pos 0) (pos 4) 0 (pos 1) 1 ∷ number (pos 8) ∷ []) ∷ Passed (over_two (pos 0) (pos 4) 0 (pos 1) 1) (number (pos 8))
    ∷ Ranged 1 (constants (pos 0) (pos 3)) ∷ Ranged 0 (constants (pos 0) (pos 2)) ∷ []

-- ---- functions that slide inside others

-- in each of the rows of f another function's rows are made first, which slide along them, and in each of its rows a third's
abbrev pub other_rows : ℕ → ℕ → ℕ → Statement
other_rows b i j = loop i (three_round (symbol 3) (negsuc 0) (pos 1)) (loop j all_columns (
    Store b 0 (is (codes "x") (symbol j) ∷ is (codes "y") (symbol i) ∷ []) (Number U8 (pos 2)) ∷ []) ∷ [])

abbrev pub chained : Span1 → Statement
chained rows = Seq (block (loop 3 rows (
    Let 4 Min (plus (pos 1) (pos 1) 3 ∷ number (pos 8) ∷ []) ∷ First 3 (other_rows 2 6 7) (First 6 (other_rows 3 6 7) (other_rows 2 6 7))
    ∷ loop 5 (constants (pos 0) (pos 9)) (store_f (symbol 5) (symbol 3) ∷ []) ∷ []) ∷ []))

-- the function inside: round its statement are the loop over the rows of f and what is round f
abbrev pub inside_f : List Binder
inside_f = Picked 4 Min (plus (pos 1) (pos 1) 3 ∷ number (pos 8) ∷ []) ∷ Ranged 3 new_rows ∷ from_next

pub record SplitRowsSlide : Type 0 where
  -- nests of split loops
  pub with_guard : slides_over 10 (by_arms end_guarded) ≡ true
  pub with_roundup : slides_over 12 (by_arms rounded_up) ≡ true
  pub with_shift : slides_over 10 (by_arms shifted) ≡ true
  pub with_inner_outside : slides_over 10 (by_arms inner_outside) ≡ true
  pub with_rows_split :
      slides_over 10 (First 1 (rows_split needed_rows.lower (row_less_begun (pos 1) ∷ less_begun (pos 7) ∷ [])) (end_guarded new_rows)) ≡ true
  -- a column without a place
  pub no_place : slides_over 10 (by_arms rounded_up) ≡ false
  -- along the inner loop of a split, and along the outer one where it stands inside: there all rows are new
  pub along_inner : slides_round outer_first 1 (row (pos 0)) (row (pos 1)) ≡ true
  pub along_outer : slides_round inner_first 0 (row (pos 0)) (row (negsuc 0)) ≡ true
  pub along_outer_lacks : slides_round inner_first 0 (row (pos 0)) (row (pos 0)) ≡ false
  -- not with the other loop between
  pub past_outer : slides_round inner_first 1 (row (pos 0)) (row (pos 1)) ≡ false
  pub past_inner : slides_round outer_first 0 (row (pos 0)) (row (negsuc 0)) ≡ false
  -- in a block that begins at a let
  pub in_block : slides_round from_let 2 (over_two (pos 0) (pos 1) 1 (pos 1) 2) (over_two (pos 1) (pos 1) 1 (pos 1) 2) ≡ true
  -- not along the loop that the let is over, and not behind the guard's let
  pub over_block : slides_round from_let 0 (over_two (pos 0) (pos 1) 1 (pos 1) 2) (over_two (negsuc 0) (pos 1) 1 (pos 1) 2) ≡ false
  pub behind_guard : slides_round guarded_row 1 (symbol 2) (plus (pos 1) (pos 1) 2) ≡ false
  -- with other functions that slide inside
  pub with_chain : slides_over 10 (by_arms chained) ≡ true
  pub in_chain : slides_round inside_f 3 (symbol 3) (plus (pos 1) (pos 1) 3) ≡ true

-- ---- spans

abbrev pub is_window_of : ℕ → Form → Form → Bool
is_window_of n l u = is_window bounds_alone from_next 1 n (spans (l ∷ []) (u ∷ []))

pub record SpansAreWindows : Type 0 where
  pub three : is_window_of 3 (row (pos 0)) (row (pos 2)) ≡ true
  pub not_two : is_window_of 2 (row (pos 0)) (row (pos 2)) ≡ false
  pub any_number : is_window_of 0 (row (pos 0)) (row (pos 2)) ≡ true
  -- an end that falls as the loop's turns rise
  pub falls : is_window_of 0 (over_two (pos 0) (pos 4) 0 (negsuc 0) 1) (row (pos 2)) ≡ false
  pub upper_falls : is_window_of 0 (row (pos 0)) (over_two (pos 9) (pos 4) 0 (negsuc 0) 1) ≡ false
  -- an end that stands still
  pub still : is_window_of 9 (number (pos 0)) (number (pos 8)) ≡ true
  -- a let over the turns
  pub with_let : is_window_of 3 (symbol 2) (plus (pos 2) (pos 1) 2) ≡ false
  -- three rows in the first turn alone
  pub grows : is_window_of 3 (number (pos 0)) (plus (pos 2) (pos 1) 1) ≡ false
