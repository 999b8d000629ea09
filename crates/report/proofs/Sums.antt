-- Counts that stop at a limit.
use Rattle.std.proofs.Common.{◌≡◌, ℕ, zero, suc, ◌+◌, ◌*◌, ◌^◌, ◌-◌, ◌<◌, ◌≤◌, min, sym, ap, ◌∙◌, arith, inl, inr}
use Rattle.std.proofs.Math.Nat.{mul_comm}
use Rattle.std.proofs.lemmas.Bool.{cases_lt}
use Rattle.report.specs.Costs.{capped, up_to}

pub capped_sum : (a b c : ℕ) → c ≡ a + b → min (capped a + capped b) (2 ^ 64 - 1) ≡ capped c
capped_sum a b c e = omega arith

pub capped_small : (n : ℕ) → capped n < 2 ^ 64
capped_small n = omega arith

pub capped_most : (n total : ℕ) → n ≤ total → capped n ≤ total
capped_most n total h = omega arith

pub capped_is : (n : ℕ) → n < 2 ^ 64 → capped n ≡ n
capped_is n small = omega arith

-- a number of 64 bits that goes as far as the greatest does
pub whole_is : (n k : ℕ) → n < 2 ^ 64 → up_to (2 ^ 64 - 1) n ≡ up_to (2 ^ 64 - 1) k → n ≡ capped k
whole_is n k small h = omega arith

-- two numbers that are the same as far as a limit, added
pub both_up_to : (m a b c d : ℕ) → up_to m a ≡ up_to m c → up_to m b ≡ up_to m d → up_to m (a + b) ≡ up_to m (c + d)
both_up_to m a b c d e f = omega arith

-- a number that stops at the greatest goes as far as a lower limit as the whole one does
pub lower_limit : (m n k : ℕ) → m < 2 ^ 64 → n ≡ capped k → up_to m n ≡ up_to m k
lower_limit m n k h e = omega arith

-- a sum that has stopped, and what is left
pub added : (m total more a b whole n : ℕ) → m < 2 ^ 64 → up_to m more ≡ up_to m a → n ≡ min (total + more) (2 ^ 64 - 1) →
    up_to m (total + (a + b)) ≡ up_to m whole → up_to m (n + b) ≡ up_to m whole
added m total more a b whole n small e f h = omega arith

-- what is enough is enough whatever is left
pub enough_is : (m total rest whole : ℕ) → m ≤ total → up_to m (total + rest) ≡ up_to m whole → up_to m total ≡ up_to m whole
enough_is m total rest whole le h = omega arith

-- one number more, of a sum that has stopped
pub more_before : (m total more a b n : ℕ) → m < 2 ^ 64 → up_to m total ≡ up_to m a → up_to m more ≡ up_to m b → n ≡ min (total + more) (2 ^ 64 - 1) → up_to m n ≡ up_to m (a + b)
more_before m total more a b n small e f h = omega arith

-- enough of a sum is enough of the whole
pub enough_before : (m total part whole : ℕ) → m ≤ total → part ≤ whole → up_to m total ≡ up_to m part → up_to m total ≡ up_to m whole
enough_before m total part whole le most h = omega arith

-- nothing is left
pub none_left : (m total rest whole : ℕ) → rest ≡ 0 → up_to m (total + rest) ≡ up_to m whole → up_to m total ≡ up_to m whole
none_left m total rest whole e h = omega arith

at_least : (m c : ℕ) → m ≤ m * suc c
at_least m c = let e : m * suc c ≡ suc c * m = mul_comm m (suc c) in omega (arith, e)

min_below : (n m : ℕ) → n ≤ m → min n m ≡ n
min_below n m h = omega arith

min_above : (n m : ℕ) → m ≤ n → min n m ≡ m
min_above n m h = omega arith

-- a product that has stopped at the greatest number goes on as the whole one does
pub saturated : (p c m : ℕ) → min (min p m * c) m ≡ min (p * c) m
saturated p c m = elim (cases_lt p m) [ inl l ↦ ap (λ x. min (x * c) m) (min_below p m (omega (arith, l))) | inr h ↦ above c h ]
  where
    above : (c : ℕ) → m ≤ p → min (min p m * c) m ≡ min (p * c) m
    above zero h = omega arith
    above (suc c) h =
        ap (λ x. min (x * suc c) m) (min_above p m h)
        ∙ min_above (m * suc c) m (at_least m c)
        ∙ sym (min_above (p * suc c) m (omega (arith, at_least p c, h)))

-- both factors may have stopped
pub saturated_both : (p q m : ℕ) → min (min p m * min q m) m ≡ min (p * q) m
saturated_both p q m =
    saturated p (min q m) m
    ∙ ap (λ x. min x m) (mul_comm p (min q m))
    ∙ saturated q p m
    ∙ ap (λ x. min x m) (mul_comm q p)

pub saturated_front : (p c m : ℕ) → min (min p m * c) m ≡ min (c * p) m
saturated_front p c m = saturated p c m ∙ ap (λ x. min x m) (mul_comm p c)
