-- Numbers that digits write, as far as memory can hold them.
use Rattle.std.proofs.Common.{◌≡◌, ℕ, ◌+◌, ◌-◌, ◌*◌, ◌^◌, ◌<◌, ◌≤◌, min, List, [], ◌∷◌, ◌++◌, take, drop, length, get_or, Bool, true, false, refl, sym, ap, ◌∙◌, arith, Some}
use Rattle.std.specs.Prelude.{nat_lt, ◌==◌, ◌&&◌, not, if◌then◌else◌}
use Rattle.std.proofs.lemmas.Grind.{common_steps}
use Rattle.std.proofs.lemmas.List.{take_more}
use Rattle.std.proofs.lemmas.Bool.Decides.{nat_tests}
use Rattle.plan.specs.Claimed.{digits_after, is_digit, is_numeral}
use Rattle.std.specs.List.{list_all}
use Rattle.plan.specs.Semantics.Run.{ByClaim, Unknown, claim_source}

rest_of : {A : Type 0} (x : A) (xs : List A) → take (length (x ∷ xs) - 1) (drop 1 (x ∷ xs)) ≡ xs
rest_of x xs = grind (arith, common_steps)

digits_after-push : (n : ℕ) (ds : List ℕ) (d : ℕ) → digits_after n (ds ++ d ∷ []) ≡ 10 * digits_after n ds + (d - 48)
digits_after-push n [] d = refl
digits_after-push n (x ∷ ds) d = digits_after-push (10 * n + (x - 48)) ds d

capped_step : (m k n r s : ℕ) → s ≡ min (min m (2 ^ 64 - 1) * 10) (2 ^ 64 - 1) → r ≡ min (s + k) (2 ^ 64 - 1) → n ≡ 10 * m + k → r ≡ min n (2 ^ 64 - 1)
capped_step m k n r s e f g = omega arith

-- one digit more
pub digit_more : (ds : List ℕ) (i d v s r : ℕ) → i < length ds → d ≡ get_or ds i 0 → v ≡ min (digits_after 0 (take i ds)) (2 ^ 64 - 1)
    → s ≡ min (v * 10) (2 ^ 64 - 1) → r ≡ min (s + (d - 48)) (2 ^ 64 - 1) → r ≡ min (digits_after 0 (take (i + 1) ds)) (2 ^ 64 - 1)
digit_more ds i d v s r lt is so_far e f =
    capped_step (digits_after 0 (take i ds)) (d - 48) (digits_after 0 (take (i + 1) ds)) r s
    (e ∙ ap (λ (w : ℕ). min (w * 10) (2 ^ 64 - 1)) so_far) f
    (ap (digits_after 0) (take_more ds i 0 lt ∙ ap (λ (y : ℕ). take i ds ++ y ∷ []) (sym is)) ∙ digits_after-push 0 (take i ds) d)

-- among fewer than 2^64 claims a number so capped means what the number does
pub capped_source : (count n m : ℕ) → count < 2 ^ 64 → m ≡ min n (2 ^ 64 - 1) → claim_source count (Some m) ≡ claim_source count (Some n)
capped_source count n m few is = by (nat_lt n count) refl
  where
    by : (t : Bool) → nat_lt n count ≡ t → claim_source count (Some m) ≡ claim_source count (Some n)
    by true e = let le : n < count = grind (arith, nat_tests) in let same : m ≡ n = omega arith in ap (λ (k : ℕ). claim_source count (Some k)) same
    by false e =
        let le : count ≤ n = grind (arith, nat_tests) in
        let more : count ≤ m = omega arith in
        let f : nat_lt m count ≡ false = grind (arith, nat_tests) in
        ap (λ (t : Bool). if t then ByClaim m else Unknown) f ∙ ap (λ (t : Bool). if t then ByClaim n else Unknown) (sym e)

-- a numeral of two digits or more
pub numeral_long : (ds : List ℕ) (r : Bool) → 2 ≤ length ds → (is_digit (get_or ds 0 0) && not (get_or ds 0 0 == 48)) ≡ true → r ≡ list_all is_digit (take (length ds - 1) (drop 1 ds)) → r ≡ is_numeral ds
numeral_long [] r h e f = absurd (omega arith)
numeral_long (d ∷ []) r h e f = absurd (omega arith)
numeral_long (d ∷ x ∷ ds) r h e f = f ∙ ap (list_all is_digit) (rest_of d (x ∷ ds)) ∙ ap (λ (b : Bool). b && list_all is_digit (x ∷ ds)) (sym e)

pub numeral_not : (ds : List ℕ) → 2 ≤ length ds → (is_digit (get_or ds 0 0) && not (get_or ds 0 0 == 48)) ≡ false → false ≡ is_numeral ds
numeral_not [] h e = absurd (omega arith)
numeral_not (d ∷ []) h e = absurd (omega arith)
numeral_not (d ∷ x ∷ ds) h e = ap (λ (b : Bool). b && list_all is_digit (x ∷ ds)) (sym e)
