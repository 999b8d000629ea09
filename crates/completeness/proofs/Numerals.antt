-- The name of a load tells its claim.
use Rattle.std.proofs.Common.{◌≡◌, ℕ, zero, suc, ◌+◌, ◌-◌, ◌*◌, ◌^◌, ◌/◌, ◌%◌, ◌<◌, ◌≤◌, Bool, true, false, List, [], ◌∷◌, Some, None, refl, sym, ap, ◌∙◌, subst, arith}
use Rattle.std.specs.Prelude.{◌==◌, ◌&&◌, not, nat_lt, if◌then◌else◌}
use Rattle.std.specs.List.{list_all}
use Rattle.std.specs.Fmt.{decimal, digit_glyph, digits_onto}
use Rattle.std.proofs.lemmas.Bool.Decides.{nat_tests}
use Rattle.std.proofs.lemmas.Fmt.{decimal_digit}
use Rattle.std.proofs.DigitsParse.{digits_onto-nil}
use Rattle.plan.specs.Claimed.{is_digit, is_numeral, digits_after, claim_of}

-- so many digits are enough
abbrev Fits : ℕ → ℕ → Type 0
Fits zero n = n ≡ 0
Fits (suc k) n = Fits k (n / 10)

none_fits : (k n : ℕ) → n ≡ 0 → Fits k n
none_fits zero n e = e
none_fits (suc k) n e = none_fits k (n / 10) (omega (arith, e))

fits_more : (k j n : ℕ) → Fits k n → Fits (k + j) n
fits_more zero j n h = subst (λ (i : ℕ). Fits i n) (let same : j ≡ 0 + j = omega arith in same) (none_fits j n h)
fits_more (suc k) j n h = subst (λ (i : ℕ). Fits i n) (let same : suc (k + j) ≡ suc k + j = omega arith in same) (fits_more k j (n / 10) h)

-- as many numbers as so many digits write
abbrev tens : ℕ → ℕ
tens zero = 1
tens (suc k) = 10 * tens k

fits_below : (k n : ℕ) → n < tens k → Fits k n
fits_below zero n less = omega (arith, less)
fits_below (suc k) n less = fits_below k (n / 10) (omega (arith, less))

glyph_is : (d : ℕ) → d < 10 → digit_glyph false d ≡ 48 + d
glyph_is d less = let test : nat_lt d 10 ≡ true = grind (arith, nat_tests) in ap (λ (b : Bool). if b then 48 + d else 87 + d) test

digit_is : (d : ℕ) → d < 10 → is_digit (48 + d) ≡ true
digit_is d less = grind (arith, nat_tests)

after_digits : (k n : ℕ) (acc : List ℕ) → Fits k n → digits_after 0 (digits_onto k 10 false n acc) ≡ digits_after n acc
after_digits zero n acc h = ap (λ (m : ℕ). digits_after m acc) (sym h)
after_digits (suc k) n acc h = of (n / 10 == 0) refl (after_digits k (n / 10) (g ∷ acc) h)
  where
    g : ℕ
    g = digit_glyph false (n % 10)

    is : g ≡ 48 + n % 10
    is = glyph_is (n % 10) (omega arith)

    of : (b : Bool) → (n / 10 == 0) ≡ b → digits_after 0 (digits_onto k 10 false (n / 10) (g ∷ acc)) ≡ digits_after (n / 10) (g ∷ acc) →
        digits_after 0 (if b then g ∷ acc else digits_onto k 10 false (n / 10) (g ∷ acc)) ≡ digits_after n acc
    of true e rest =
        let none : n / 10 ≡ 0 = grind (arith, nat_tests, e) in
        let here = is in
        let same : 10 * 0 + (g - 48) ≡ n = omega (arith, none, here) in
        ap (λ (m : ℕ). digits_after m acc) same
    of false e rest =
        let here = is in
        let same : 10 * (n / 10) + (g - 48) ≡ n = omega (arith, here) in
        rest ∙ ap (λ (m : ℕ). digits_after m acc) same

-- digits of which the first is no 0
record IsLead (ds : List ℕ) : Type 0 where
  first : ℕ
  others : List ℕ
  is : ds ≡ first ∷ others
  digit : is_digit first ≡ true
  some : (first == 48) ≡ false
  digits : list_all is_digit others ≡ true

lead_onto : (k n : ℕ) (acc : List ℕ) → Fits k n → 1 ≤ n → list_all is_digit acc ≡ true → IsLead (digits_onto k 10 false n acc)
lead_onto zero n acc h some all = absurd (omega (arith, h, some))
lead_onto (suc k) n acc h some all = of (n / 10 == 0) refl (λ more. lead_onto k (n / 10) (g ∷ acc) h more both)
  where
    g : ℕ
    g = digit_glyph false (n % 10)

    is : g ≡ 48 + n % 10
    is = glyph_is (n % 10) (omega arith)

    one : is_digit g ≡ true
    one = ap is_digit is ∙ digit_is (n % 10) (omega arith)

    both : list_all is_digit (g ∷ acc) ≡ true
    both = ap (λ (b : Bool). b && list_all is_digit acc) one ∙ all

    of : (b : Bool) → (n / 10 == 0) ≡ b → (1 ≤ n / 10 → IsLead (digits_onto k 10 false (n / 10) (g ∷ acc))) → IsLead (if b then g ∷ acc else digits_onto k 10 false (n / 10) (g ∷ acc))
    of true e rest =
        let none : n / 10 ≡ 0 = grind (arith, nat_tests, e) in
        let here = is in
        let differs : (g ≡ 48 → ⊥) = λ q. omega (arith, q, here, none, some) in
        record { first = g; others = acc; is = refl; digit = one; some = grind (arith, nat_tests); digits = all }
    of false e rest = let more : 1 ≤ n / 10 = grind (arith, nat_tests, e) in rest more

numeral_is : (ds : List ℕ) → IsLead ds → is_numeral ds ≡ true
numeral_is ds h = subst (λ (xs : List ℕ). is_numeral xs ≡ true) (sym h.is) (of h.others h.digits)
  where
    of : (others : List ℕ) → list_all is_digit others ≡ true → is_numeral (h.first ∷ others) ≡ true
    of [] all = h.digit
    of (e ∷ es) all =
        ap (λ (b : Bool). b && not (h.first == 48) && list_all is_digit (e ∷ es)) h.digit ∙ ap (λ (b : Bool). not b && list_all is_digit (e ∷ es)) h.some ∙ all

decimal_onto : (n : ℕ) → decimal n ≡ digits_onto 64 10 false n []
decimal_onto n = sym (digits_onto-nil 10 false n)

pub load_tells : (n : ℕ) → n < 2 ^ 64 → claim_of (64 ∷ decimal n) ≡ Some n
load_tells n few = of (n == 0) refl
  where
    enough : tens 20 ≡ 100000000000000000000
    enough = refl

    fits : Fits 64 n
    fits = fits_more 20 44 n (fits_below 20 n (let all = enough in omega (arith, few, all)))

    value : digits_after 0 (decimal n) ≡ n
    value = ap (digits_after 0) (decimal_onto n) ∙ after_digits 64 n [] fits

    of : (b : Bool) → (n == 0) ≡ b → claim_of (64 ∷ decimal n) ≡ Some n
    of true e =
        let none : n ≡ 0 = grind (arith, nat_tests, e) in
        subst (λ (m : ℕ). claim_of (64 ∷ decimal m) ≡ Some m) (sym none) (ap (λ (ds : List ℕ). claim_of (64 ∷ ds)) (decimal_digit 0 (omega arith)))
    of false e =
        let some : 1 ≤ n = grind (arith, nat_tests, e) in
        let numeral : is_numeral (decimal n) ≡ true = ap is_numeral (decimal_onto n) ∙ numeral_is (digits_onto 64 10 false n []) (lead_onto 64 n [] fits some refl) in
        ap (λ (b : Bool). if b then Some (digits_after 0 (decimal n)) else None) numeral ∙ ap (λ (m : ℕ). Some m) value
