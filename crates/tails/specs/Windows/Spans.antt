-- Windows: spans along a loop of which neither end falls, and which are short enough for the places of a buffer.
use Rattle.std.specs.Prelude.{◌≡◌, ℕ, ◌==◌, ◌||◌, ◌&&◌, Bool, if◌then◌else◌, List, pos, ◌+ℤ◌, ◌-ℤ◌, ◌≤ℤ◌, int_le, ◌⊎◌}
use Rattle.std.specs.List.{list_any, list_all}
use Rattle.lin.specs.Forms.{Form, factor_of}
use Rattle.lin.specs.declared.span.Span1.{Span1}
use Rattle.plan.specs.Symbols.{Symbols, largest, smallest}
use Rattle.soundness.specs.Around.{Binder, is_loop, inside, AreTurns}
use Rattle.soundness.specs.Obligations.{Rules}
use Rattle.soundness.specs.Nests.Tests.{has_ends, is_short}
use Rattle.tails.specs.Moves.{is_outer}

-- what is bound inside the loop of the symbol where these have the loop, else others
abbrev pub inside_or : ℕ → List Binder → List Binder → List Binder
inside_or i bs others = if list_any (is_loop i) bs then inside i bs else others

-- ---- the test

-- no less as the symbol rises, and of no symbol that is bound inside its loop
abbrev pub is_rising_form : ℕ → List Binder → Form → Bool
is_rising_form i inner f = int_le (pos 0) (factor_of f.terms i) && is_outer inner f

abbrev pub is_rising : ℕ → List Binder → Span1 → Bool
is_rising i inner x = has_ends x && (list_all (is_rising_form i inner) x.lower && list_all (is_rising_form i inner) x.upper)

-- neither end falls along the loop, and there are at most so many rows; any number of them for 0
abbrev pub is_window : Rules → List Binder → ℕ → ℕ → Span1 → Bool
is_window rules bs i n x = is_rising i (inside i bs) x && ((n == 0) || is_short rules bs x n)

-- ---- what it means

-- at a later turn neither end lies below
pub record NeverFalls (x : Span1) (s t : Symbols) : Type 0 where
  pub lower : largest s x.lower ≤ℤ largest t x.lower
  pub upper : smallest s x.upper ≤ℤ smallest t x.upper

-- at most as many rows as the fold has places, if it is folded
abbrev pub FitsFold : ℕ → Span1 → Symbols → Type 0
FitsFold n x s = (n ≡ 0) ⊎ (((smallest s x.upper +ℤ pos 1) -ℤ largest s x.lower) ≤ℤ pos n)

-- the rows of a span, from its lower to its upper end at each turn of the loop
pub record IsWindow (bs : List Binder) (i n : ℕ) (x : Span1) (s : Symbols) : Type 0 where
  pub rises : (t : Symbols) → AreTurns i (inside i bs) s t → s.value i ≤ℤ t.value i → NeverFalls x s t
  pub fits : FitsFold n x s
