-- A size at the front, by the number with a sign at the front.
use Rattle.std.proofs.Common.{◌≡◌, ℕ, true, false, List, [], ◌∷◌, refl, arith}
use Rattle.std.specs.Prelude.{pos}
use Rattle.std.proofs.lemmas.Bool.Decides.{nat_tests}
use Rattle.tree.specs.Token.Spelling.{is_digit}
use Rattle.spelling.specs.Words.Reading.{begins, digits_from, number_from}
use Rattle.spelling.specs.Sizes.Sizes.{size_from}

minus_no_digit : (b : ℕ) → begins 45 (b ∷ []) ≡ true → is_digit b ≡ false
minus_no_digit b h = grind (arith, nat_tests)

-- behind no digit there is no number
pub size_behind_minus : (text : List ℕ) → begins 45 text ≡ true → size_from text ≡ (0, text)
unfolding size_from digits_from
size_behind_minus [] h = absurd cc
size_behind_minus (b ∷ text) h = rw (minus_no_digit b h) refl

pub size_of_number : (text : List ℕ) → begins 45 text ≡ false → (number_from text).0 ≡ pos (size_from text).0
unfolding size_from number_from
size_of_number text h = rw h refl

pub rest_of_number : (text : List ℕ) → begins 45 text ≡ false → (number_from text).1 ≡ (size_from text).1
unfolding size_from number_from
rest_of_number text h = rw h refl
