-- The number of samples that a text spells, and the number that is parsed of it.
use Rattle.std.proofs.Common.{◌≡◌, ◌∙◌, ℕ, ◌^◌, ◌<◌, ◌&&◌, List, true, false, Option, None, Some, Result, Ok, Err, sym, subst, ap, refl, arith, nat_lt}
use Rattle.std.proofs.lemmas.Bool.{and_parts, cond_both, ltb-true, lt-ltb}
use Rattle.std.proofs.lemmas.Fmt.{decimal_is_IsNumeral, parse-decimal}
use Rattle.std.proofs.lemmas.Slice.Eq.{bytes_eq-Decides}
use Rattle.std.specs.Str.{bytes_eq}
use Rattle.std.specs.Str.Parse.{digits_value, ParsesUnsigned}
use Rattle.spelling.specs.Words.Spelling.{count_text}
use Rattle.commands.specs.Limit.{side_of, side_spelled}

wide : (n : ℕ) → n < 2 ^ 32 → n < 2 ^ 64
wide n lt = omega (arith, lt)

pub spelled : (n : ℕ) (text : List ℕ) → n < 2 ^ 32 → bytes_eq (count_text n) text ≡ true → Some n ≡ side_spelled text
unfolding side_spelled
spelled n text small same =
    let is : count_text n ≡ text = (bytes_eq-Decides (count_text n) text).0 same in
    let value : digits_value 10 text ≡ n = ap (digits_value 10) (sym is) ∙ (decimal_is_IsNumeral n (wide n small)).1 in
    let here : side_of n text ≡ Some n = rw (lt-ltb n (2 ^ 32) small, same) refl in
    sym (ap (λ m. side_of m text) value ∙ here)

-- nothing is spelled where what is parsed has other digits
pub not_spelled : {E : Type 0} (text : List ℕ) (r : Result ℕ E) → ParsesUnsigned 32 10 text r → ((n : ℕ) → r ≡ Ok n → bytes_eq (count_text n) text ≡ false)
    → None ≡ side_spelled text
unfolding side_spelled
not_spelled text r parses other =
    let m : ℕ = digits_value 10 text in
    let IsNone : Option ℕ → Type 0 = λ o. None ≡ o in
    cond_both (nat_lt m (2 ^ 32) && bytes_eq (count_text m) text) (Some m) None IsNone
    (λ e.
    let both = and_parts (nat_lt m (2 ^ 32)) (bytes_eq (count_text m) text) e in
    let small : m < 2 ^ 32 = ltb-true m (2 ^ 32) both.0 in
    let is : text ≡ count_text m = sym ((bytes_eq-Decides (count_text m) text).0 both.1) in
    let parsed : r ≡ Ok m = parse-decimal 32 m text r small (wide m small) is parses in
    absurd (cc (sym both.1 ∙ other m parsed)))
    (λ e. refl)

-- what is parsed is below 2^64
pub parsed_small : {E : Type 0} (text : List ℕ) (r : Result ℕ E) (n : ℕ) → ParsesUnsigned 32 10 text r → r ≡ Ok n → n < 2 ^ 32
parsed_small text (Ok x) n parses is =
    let same : x ≡ n = cc in
    let small = parses.0.1 in
    let value = parses.1 in
    omega arith
parsed_small text (Err e) n parses is = absurd (cc is)

pub not_that : {E : Type 0} (text : List ℕ) (r : Result ℕ E) (n : ℕ) → ParsesUnsigned 32 10 text r → r ≡ Ok n → bytes_eq (count_text n) text ≡ false → None ≡ side_spelled text
not_that text r n parses is other =
    not_spelled text r parses (λ m e. let same : n ≡ m = cc (sym is ∙ e) in subst (λ k. bytes_eq (count_text k) text ≡ false) same other)

pub none_parsed : {E : Type 0} (text : List ℕ) (r : Result ℕ E) (e : E) → ParsesUnsigned 32 10 text r → r ≡ Err e → None ≡ side_spelled text
none_parsed text r e parses is = not_spelled text r parses (λ m f. absurd (cc (sym is ∙ f)))
