-- Runs of bytes, and the tests that tell what stands at the front.
use Rattle.std.proofs.Common.{◌≡◌, ℕ, ◌<◌, ◌^◌, Bool, true, false, ◌&&◌, ◌||◌, List, [], ◌∷◌, ◌++◌, length, refl, arith}
use Rattle.std.specs.Prelude.{slice_index, ◌==◌}
use Rattle.std.specs.List.{prefix_len, list_all}
use Rattle.std.specs.Fmt.{decimal}
use Rattle.std.specs.Char.{digit_value}
use Rattle.std.specs.Str.Parse.{AllDigits}
use Rattle.std.proofs.lemmas.Bool.Decides.{nat_tests}
use Rattle.std.proofs.lemmas.Fmt.{decimal_is_IsNumeral}
use Rattle.std.proofs.lemmas.Str.Parse.{digit_from_value}
use Rattle.tree.specs.Token.Spelling.{is_digit}
use Rattle.spelling.specs.Words.Reading.{Stops, is_form_byte}

pub both : (a b : Bool) → (a && b) ≡ true → (a ≡ true) × (b ≡ true)
both true b h = (refl, h)
both false b h = absurd cc

pub neither : (a b : Bool) → (a || b) ≡ false → (a ≡ false) × (b ≡ false)
neither true b h = absurd cc
neither false b h = (refl, h)

run_ends : (p : ℕ → Bool) (rest : List ℕ) → Stops p rest → prefix_len p rest ≡ 0
run_ends p [] h = refl
run_ends p (b ∷ rest) h = rw h refl

-- bytes that pass are the longest run at the front, if what follows stops it
pub run_is : (p : ℕ → Bool) (bytes rest : List ℕ) → list_all p bytes ≡ true → Stops p rest → prefix_len p (bytes ++ rest) ≡ length bytes
run_is p [] rest all h = run_ends p rest h
run_is p (b ∷ bytes) rest all h =
    let one = both (p b) (list_all p bytes) all in
    rw (one.0, run_is p bytes rest one.1 h) (omega arith)

digit_is : (d : ℕ) → digit_value d < 10 → is_digit d ≡ true
digit_is d h = let r = digit_from_value d h in grind (arith, nat_tests)

digits_pass : (ds : List ℕ) → AllDigits 10 ds → list_all is_digit ds ≡ true
digits_pass [] h = refl
digits_pass (d ∷ ds) h = rw (digit_is d h.0, digits_pass ds h.1) refl

pub decimal_passes : (n : ℕ) → n < 2 ^ 64 → list_all is_digit (decimal n) ≡ true
decimal_passes n lt = digits_pass (decimal n) (decimal_is_IsNumeral n lt).0.1

digit_first : (ds rest : List ℕ) → 0 < length ds → list_all is_digit ds ≡ true → is_digit (slice_index (ds ++ rest) 0) ≡ true
digit_first [] rest some all = absurd (omega arith)
digit_first (d ∷ ds) rest some all = (both (is_digit d) (list_all is_digit ds) all).0

pub decimal_first : (n : ℕ) (rest : List ℕ) → n < 2 ^ 64 → is_digit (slice_index (decimal n ++ rest) 0) ≡ true
decimal_first n rest lt = digit_first (decimal n) rest (decimal_is_IsNumeral n lt).0.0 (decimal_passes n lt)

-- a digit, and a byte of a form, is not another byte
pub digit_no_minus : (b : ℕ) → is_digit b ≡ true → (b == 45) ≡ false
digit_no_minus b h = grind (arith, nat_tests)

pub digit_of_form : (b : ℕ) → is_digit b ≡ true → is_form_byte b ≡ true
digit_of_form b h = rw h refl

pub form_byte_not_bracket : (b : ℕ) → is_form_byte b ≡ true → (b == 93) ≡ false
form_byte_not_bracket b h = grind (arith, nat_tests)

pub form_byte_some : (bytes : List ℕ) → is_form_byte (slice_index (bytes ++ []) 0) ≡ true → 0 < length bytes
form_byte_some [] h = absurd cc
form_byte_some (b ∷ bytes) h = omega arith
