-- Which expressions have a text in a plan that is read as that expression.
use Rattle.std.specs.Prelude.{ℕ, ◌+◌, ◌-◌, ◌==◌, if◌then◌else◌, Bool, true, false, not, ◌&&◌, ◌||◌, nat_lt, ℤ, int_le, pos, List, [], ◌∷◌, length, drop}
use Rattle.std.specs.List.{list_all}
use Rattle.numeric.specs.declared.ty.Ty.{Ty}
use Rattle.numeric.specs.Wrap.{greatest}
use Rattle.tree.specs.Token.Spelling.{is_digit}
use Rattle.tree.specs.Term.{Term, Number, Name, Call, Minus, Binary, Clamp, Cast, Choice, Terms, End, More, Test, Compares, Fails, Both, Either}
use Rattle.spelling.specs.Words.Fitting.{is_name}
use Rattle.spelling.specs.Words.Reading.{begins, has_large_number}

-- how many brackets may be open at once
abbrev pub max_brackets : ℕ
max_brackets = 256

-- a number from 0 on that is in its type, which is how a text writes one
abbrev pub is_literal : Ty → ℤ → Bool
is_literal t n = int_le (pos 0) n && int_le n (greatest t)

-- digits without a leading zero, or a 0 alone
abbrev pub is_numeral : List ℕ → Bool
is_numeral digits = nat_lt 0 (length digits) && list_all is_digit digits && (length digits == 1 || not (begins 48 digits))

-- `@` and the number of a claim, of at most 63 bits
abbrev pub is_load : List ℕ → Bool
is_load name = begins 64 name && is_numeral (drop 1 name) && not (has_large_number name)

-- what can be called: the input or a function by its name, or a claim
abbrev pub is_called : List ℕ → Bool
is_called name = is_name name || is_load name

-- one more bracket may be opened, and what stands in it fits in those that are left
abbrev pub inside : ℕ → (ℕ → Bool) → Bool
inside brackets fits = nat_lt 0 brackets && fits (brackets - 1)

abbrev mutual
  -- each literal, name and load can be written, and no more than so many brackets are open at once
  pub fits_within : Term → ℕ → Bool
  fits_within (Number t n) brackets = is_literal t n
  fits_within (Name name) brackets = is_name name
  fits_within (Call name at) brackets = is_called name && inside brackets (λ k. fits_row at k)
  fits_within (Minus a) brackets = inside brackets (λ k. fits_within a k)
  fits_within (Binary op a b) brackets = inside brackets (λ k. fits_within a k && fits_within b k)
  fits_within (Clamp a l h) brackets = inside brackets (λ k. fits_within a k && fits_within l k && fits_within h k)
  fits_within (Cast t a) brackets = inside brackets (λ k. fits_within a k)
  fits_within (Choice c a b) brackets = inside brackets (λ k. test_fits c k && fits_within a k && fits_within b k)

  pub test_fits : Test → ℕ → Bool
  test_fits (Compares by a b) brackets = fits_within a brackets && fits_within b brackets
  test_fits (Fails c) brackets = inside brackets (λ k. test_fits c k)
  test_fits (Both c d) brackets = inside brackets (λ k. test_fits c k && test_fits d k)
  test_fits (Either c d) brackets = inside brackets (λ k. test_fits c k && test_fits d k)

  -- one index or more
  pub fits_row : Terms → ℕ → Bool
  fits_row End brackets = false
  fits_row (More a rest) brackets = fits_within a brackets && all_fit rest brackets

  pub all_fit : Terms → ℕ → Bool
  all_fit End brackets = true
  all_fit (More a rest) brackets = fits_within a brackets && all_fit rest brackets

-- the expression can be written and read again
abbrev pub fits_term : Term → Bool
fits_term t = fits_within t max_brackets

-- ---- texts with too many brackets

-- a bracket that opens or closes
abbrev pub opens : ℕ → Bool
opens b = b == 40 || b == 91

abbrev pub closes : ℕ → Bool
closes b = b == 41 || b == 93

-- how many brackets are open after a byte, of so many before it
abbrev pub open_after : ℕ → ℕ → ℕ
open_after before b = if opens b then before + 1 else (if closes b then before - 1 else before)

-- more brackets than may be are open somewhere
abbrev pub is_deep_after : ℕ → List ℕ → Bool
is_deep_after before [] = false
is_deep_after before (b ∷ bs) = nat_lt max_brackets (open_after before b) || is_deep_after (open_after before b) bs

abbrev pub has_deep_brackets : List ℕ → Bool
has_deep_brackets text = is_deep_after 0 text
