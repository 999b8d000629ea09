-- Reading a decimal number from the left.
use Rattle.std.proofs.Common.{◌≡◌, ℕ, suc, ◌+◌, ◌-◌, ◌*◌, ◌≤◌, ◌<◌, Bool, true, List, [], ◌∷◌, length, get_or, take, drop, drop-cons, sym, ap, ◌∙◌, arith}
use Rattle.std.specs.List.{prefix_len}
use Rattle.std.specs.Int.{IsInRange}
use Rattle.std.specs.Char.{digit_value}
use Rattle.std.specs.Str.Parse.{digits_value_after}
use Rattle.std.proofs.lemmas.Bool.Decides.{nat_tests}
use Rattle.std.proofs.lemmas.List.Sums.{prefix_len_passes, prefix_len_is}
use Rattle.std.proofs.lemmas.List.Folds.{length-prefix_len}
use Rattle.std.proofs.lemmas.List.{get_or-take}
use Rattle.std.proofs.lemmas.Str.{digit_value_digit}
use Rattle.tree.specs.Token.Spelling.{is_digit}

digit_range : (b : ℕ) → is_digit b ≡ true → IsInRange 48 57 b
digit_range b h = grind (arith, nat_tests)

pub digit_at : (ds : List ℕ) (i : ℕ) → prefix_len is_digit ds ≡ length ds → i < length ds → IsInRange 48 57 (get_or ds i 0)
digit_at ds i all lt = digit_range (get_or ds i 0) (prefix_len_passes is_digit ds i 0 (omega arith))

pub value_step : (ds : List ℕ) (i v total : ℕ) → prefix_len is_digit ds ≡ length ds → i < length ds → digits_value_after 10 v (drop i ds) ≡ total → digits_value_after 10 (10 * v + (get_or ds i 0 - 48)) (drop (i + 1) ds) ≡ total
value_step ds i v total all lt so_far =
    let d = get_or ds i 0 in
    let cut : drop i ds ≡ d ∷ drop (suc i) ds = drop-cons ds i 0 lt in
    let range = digit_at ds i all lt in
    let digit : digit_value d + 48 ≡ d = digit_value_digit d range in
    let value : v * 10 + digit_value d ≡ 10 * v + (d - 48) = omega arith in
    let before : digits_value_after 10 (v * 10 + digit_value d) (drop (suc i) ds) ≡ total = ap (digits_value_after 10 v) (sym cut) ∙ so_far in
    let next : i + 1 ≡ suc i = omega arith in
    rw (next, ← value) before

pub value_grows : (n : ℕ) (ds : List ℕ) → n ≤ digits_value_after 10 n ds
value_grows n [] = omega arith
value_grows n (d ∷ ds) = omega (arith, value_grows (n * 10 + digit_value d) ds)

-- the longest front that passes passes whole
pub whole_front : (p : ℕ → Bool) (xs : List ℕ) → prefix_len p (take (prefix_len p xs) xs) ≡ length (take (prefix_len p xs) xs)
whole_front p xs =
    let n = prefix_len p xs in
    let len : length (take n xs) ≡ n = length-prefix_len p xs in
    let passes : prefix_len p (take n xs) ≡ n = prefix_len_is p (take n xs) n 0 (omega arith)
    (λ k lt. ap p (get_or-take n xs k 0 lt) ∙ prefix_len_passes p xs k 0 lt) (λ lt. absurd (omega arith)) in
    passes ∙ sym len
