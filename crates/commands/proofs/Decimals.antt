-- Which bytes in front spell a worker's number, and which begin none.
use Rattle.std.proofs.Common.{◌≡◌, ℕ, zero, suc, ◌+◌, ◌-◌, ◌*◌, ◌/◌, ◌%◌, ◌≤◌, ◌<◌, ◌^◌, Bool, true, false, List, [], ◌∷◌, ◌++◌, length, get_or, refl, sym, ap, ◌∙◌, subst, append_assoc, arith}
use Rattle.std.specs.Char.{digit_value}
use Rattle.std.specs.List.{list_all}
use Rattle.std.specs.Int.{IsInRange}
use Rattle.std.specs.Str.Parse.{digits_value, digits_value_after}
use Rattle.std.proofs.lemmas.Fmt.{decimal_digit, decimal_step, decimal_is_IsNumeral, first_decimal}
use Rattle.std.proofs.lemmas.Str.{digit_value_digit}
use Rattle.tree.specs.Token.Spelling.{is_digit}
use Rattle.spelling.specs.Words.Spelling.{count_text}
use Rattle.spelling.proofs.Decimals.{value_grows}
use Rattle.spelling.proofs.Runs.{both, decimal_passes}
use Rattle.commands.specs.Order.Numbers.{BeginsNone, Spells}

wide : (n : ℕ) → n < 64 → n < 2 ^ 64
wide n lt = omega arith

pub spells_byte : (b : ℕ) → IsInRange 48 57 b → Spells (b ∷ []) (b - 48)
spells_byte b range =
    let byte : 48 + (b - 48) ≡ b = omega (arith, range.0) in
    (omega (arith, range.1), decimal_digit (b - 48) (omega (arith, range.1)) ∙ ap (λ a. a ∷ []) byte)

pub spells_longer : (n d : ℕ) → 0 < n → d < 10 → 10 * n + d < 64 → Spells (count_text n ++ (48 + d) ∷ []) (10 * n + d)
spells_longer n d some digit lt =
    let tens : (10 * n + d) / 10 ≡ n = omega arith in
    let ones : (10 * n + d) % 10 ≡ d = omega arith in
    let cut : count_text (10 * n + d) ≡ count_text ((10 * n + d) / 10) ++ (48 + (10 * n + d) % 10) ∷ [] = decimal_step (10 * n + d) (omega arith) (wide (10 * n + d) lt) in
    (lt, cut ∙ rw (tens, ones) refl)

value_on : (value : ℕ) (front rest : List ℕ) → digits_value_after 10 value (front ++ rest) ≡ digits_value_after 10 (digits_value_after 10 value front) rest
value_on value [] rest = refl
value_on value (b ∷ front) rest = value_on (value * 10 + digit_value b) front rest

digit_is : (d : ℕ) → d < 10 → digit_value (48 + d) ≡ d
digit_is d lt =
    let range : IsInRange 48 57 (48 + d) = (omega arith, omega arith) in
    omega (arith, digit_value_digit (48 + d) range)

-- too large
pub none_large : (n d : ℕ) → n < 64 → d < 10 → 64 ≤ 10 * n + d → BeginsNone (count_text n ++ (48 + d) ∷ [])
none_large n d low digit large worker more lt same =
    let own : digits_value 10 (count_text worker) ≡ worker = (decimal_is_IsNumeral worker (wide worker lt)).1 in
    let front : digits_value 10 (count_text n) ≡ n = (decimal_is_IsNumeral n (wide n low)).1 in
    let apart : count_text worker ≡ count_text n ++ ((48 + d) ∷ more) = same ∙ append_assoc (count_text n) ((48 + d) ∷ []) more in
    let value : worker ≡ digits_value_after 10 (digits_value 10 (count_text n)) ((48 + d) ∷ more) = sym own ∙ ap (digits_value 10) apart ∙ value_on 0 (count_text n) ((48 + d) ∷ more) in
    let after : worker ≡ digits_value_after 10 (n * 10 + digit_value (48 + d)) more = value ∙ ap (λ v. digits_value_after 10 (v * 10 + digit_value (48 + d)) more) front in
    absurd (omega (arith, value_grows (n * 10 + digit_value (48 + d)) more, digit_is d digit))

-- a digit after a leading zero
none_after_zero : (d : ℕ) → BeginsNone ((48 ∷ []) ++ (48 + d) ∷ [])
none_after_zero d zero more lt same =
    let lengths : 1 ≡ suc (suc (length more)) = sym (ap length (decimal_digit 0 (omega arith))) ∙ ap length same in
    absurd (omega arith)
none_after_zero d (suc worker) more lt same =
    let first : 48 < get_or (count_text (suc worker)) 0 0 = first_decimal (suc worker) (omega arith) (wide (suc worker) lt) in
    let begins : get_or (count_text (suc worker)) 0 0 ≡ 48 = ap (λ bytes. get_or bytes 0 0) same in
    absurd (omega arith)

pub none_padded : (n d : ℕ) → n < 1 → BeginsNone (count_text n ++ (48 + d) ∷ [])
none_padded zero d lt = subst (λ bytes. BeginsNone (bytes ++ (48 + d) ∷ [])) (sym (decimal_digit 0 (omega arith))) (none_after_zero d)
none_padded (suc n) d lt = absurd (omega arith)

last_passes : (p : ℕ → Bool) (front : List ℕ) (b : ℕ) (more : List ℕ) → list_all p ((front ++ b ∷ []) ++ more) ≡ true → p b ≡ true
last_passes p [] b more h = (both (p b) (list_all p more) h).0
last_passes p (c ∷ front) b more h = last_passes p front b more (both (p c) (list_all p ((front ++ b ∷ []) ++ more)) h).1

-- a byte that is no digit
pub none_other : (front : List ℕ) (b : ℕ) → is_digit b ≡ false → BeginsNone (front ++ b ∷ [])
none_other front b other worker more lt same =
    let digits : list_all is_digit ((front ++ b ∷ []) ++ more) ≡ true = subst (λ z. list_all is_digit z ≡ true) same (decimal_passes worker (wide worker lt)) in
    let digit : is_digit b ≡ true = last_passes is_digit front b more digits in
    absurd cc
