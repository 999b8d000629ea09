-- The rule of a board's table: what holds of its words and of all seats' views between any two steps.
use Rattle.std.specs.Prelude.{◌≡◌, ℕ, ◌+◌, ◌<◌, ◌≤◌, true, false, ◌⊎◌, ℤ, List, length, slice_index, Contains, Some, sum_by}
use mathlib.Core.Option.{some}
use lib.ListN.{get_elem?}
use Rattle.board.specs.Layout.{Layout, pieces_of, own_of, value_at}
use Rattle.board.specs.declared.view.View.{View}
use Rattle.board.specs.Words.{word_count, counter, flag, cell, own_word, word_of}
use Rattle.board.specs.Views.{Knows, next_after, seats_in}

module _ (plan : Layout) (values : List ℤ) (words : List ℕ) where
  -- the cell holds its value
  abbrev pub IsSet : ℕ → Type 0
  IsSet c = cell plan words c ≡ word_of (value_at values c)

  -- the own cells of piece j before the n-th are set
  abbrev pub AreSet : ℕ → ℕ → Type 0
  AreSet j n = (i : ℕ) → i < n → i < length (own_of plan j) → own_word plan words j i ≡ word_of (value_at values (slice_index (own_of plan j) i))

  -- those from the n-th on are 0
  abbrev pub AreUnset : ℕ → ℕ → Type 0
  AreUnset j n = (i : ℕ) → n ≤ i → i < length (own_of plan j) → own_word plan words j i ≡ 0

  -- a set flag means that all own cells of the piece are set
  abbrev pub IsFinished : ℕ → Type 0
  IsFinished j = (flag words j ≡ 1) × AreSet j (length (own_of plan j))

  -- nothing was done for the piece
  abbrev pub IsUntouched : ℕ → Type 0
  IsUntouched j = (flag words j ≡ 0) × AreUnset j 0

  -- the piece was drawn and is not finished, and this many of its own cells are set
  pub record IsBegun (j puts : ℕ) : Type 0 where
    pub unfinished : flag words j ≡ 0
    pub before : AreSet j puts
    pub after : AreUnset j puts

  -- what a seat with this view may rely on
  pub record Grounds (v : View) : Type 0 where
    -- the flags of the pieces that it knows are set
    pub known : (j : ℕ) → Knows v j → (j < pieces_of plan) × (flag words j ≡ 1)
    -- its piece drawn last is below the counter, and is finished if the view knows it, else begun
    pub last : (j : ℕ) → v.last ≡ Some j → (j < pieces_of plan) × (j < counter words) × (Knows v j ⊎ IsBegun j v.puts)
    -- where a draw of it found none, all are drawn
    pub none_left : v.none_left ≡ true → pieces_of plan ≤ counter words
    -- while it may still split off 63 seats, it has drawn all that is drawn
    pub in_order : v.allowance ≡ 63 → v.none_left ≡ false → counter words ≡ next_after v.last
    -- it stands for itself, besides those that it may still split off
    pub itself : v.allowance < v.seats

-- the seat has drawn piece j last, and has not finished it
abbrev pub IsAtWork : List ℕ → View → ℕ → Type 0
IsAtWork words v j = (v.spent ≡ false) × (v.last ≡ Some j) × (flag words j ≡ 0)

-- all seats together: those still to be split off, and those that may draw
abbrev pub seats_of : List View → ℕ
seats_of views = sum_by seats_in views

-- how many seats all views stand for
abbrev pub all_seats : List View → ℕ
all_seats views = sum_by (λ v. v.seats) views

-- some seat, or one joined to it, has drawn piece j
abbrev pub IsDrawn : List View → ℕ → Type 0
IsDrawn views j = (seat : ℕ) × (v : View) × (get_elem? views seat ≡ some v) × (v.spent ≡ false) × Contains v.drawn j

-- The rule. A view that `join` left is spent, and says nothing
pub record Kept (plan : Layout) (values : List ℤ) (words : List ℕ) (views : List View) : Type 0 where
  pub size : length words ≡ word_count plan
  -- a cell's word is 0, or one more than its value's bits
  pub each_cell : (c : ℕ) → c < plan.cells → (cell plan words c ≡ 0) ⊎ IsSet plan values words c
  pub each_flag : (j : ℕ) → j < pieces_of plan → (flag words j ≡ 0) ⊎ IsFinished plan values words j
  pub undrawn : (j : ℕ) → j < pieces_of plan → counter words ≤ j → IsUntouched plan values words j
  pub each_view : (seat : ℕ) (v : View) → get_elem? views seat ≡ some v → v.spent ≡ false → Grounds plan values words v
  -- no two seats are at work on one piece
  pub apart : (one two : ℕ) (v w : View) (j : ℕ) → get_elem? views one ≡ some v → get_elem? views two ≡ some w → IsAtWork words v j → IsAtWork words w j → one ≡ two
  pub seats_left : seats_of views ≤ 64
  pub draws_left : counter words + seats_of views ≤ pieces_of plan + 64
  pub each_drawn : (j : ℕ) → j < pieces_of plan → j < counter words → IsDrawn views j
  pub whole : all_seats views ≤ 64

-- The step met a table that keeps the rule, in which the seat had this view, and P held of its words
abbrev pub AtStep : Layout → List ℤ → View → (List ℕ → Type 0) → Type 0
AtStep plan values v P = (words : List ℕ) × (views : List View) × (seat : ℕ) × Kept plan values words views × (get_elem? views seat ≡ some v) × P words
