-- Products that stop at the greatest number.
use Rattle.std.proofs.Common.{◌≡◌, ℕ, zero, suc, ◌+◌, ◌*◌, ◌≤◌, ◌<◌, min, List, [], ◌∷◌, ◌++◌, map, take, length, get_or, sym, ap, ◌∙◌, arith, inl, inr}
use Rattle.std.proofs.Math.Nat.{mul_comm}
use Rattle.std.proofs.lemmas.Bool.{cases_lt}
use Rattle.std.proofs.lemmas.List.{take_more, map-append}
use Rattle.validation.specs.Groups.Sizes.{product}

at_least : (m c : ℕ) → m ≤ m * suc c
at_least m c = let e : m * suc c ≡ suc c * m = mul_comm m (suc c) in omega (arith, e)

min_below : (n m : ℕ) → n ≤ m → min n m ≡ n
min_below n m h = omega arith

min_above : (n m : ℕ) → m ≤ n → min n m ≡ m
min_above n m h = omega arith

-- a product that has stopped at the greatest number goes on as the whole one does
pub saturated : (p c m : ℕ) → min (min p m * c) m ≡ min (p * c) m
saturated p c m = elim (cases_lt p m) [ inl l ↦ ap (λ x. min (x * c) m) (min_below p m (omega (arith, l))) | inr h ↦ above c h ]
  where
    above : (c : ℕ) → m ≤ p → min (min p m * c) m ≡ min (p * c) m
    above zero h = omega arith
    above (suc c) h =
        ap (λ x. min (x * suc c) m) (min_above p m h)
        ∙ min_above (m * suc c) m (at_least m c)
        ∙ sym (min_above (p * suc c) m (omega (arith, at_least p c, h)))

pub both_saturated : (p c m : ℕ) → min (min p m * min c m) m ≡ min (p * c) m
both_saturated p c m =
    saturated p (min c m) m
    ∙ ap (λ x. min x m) (mul_comm p (min c m))
    ∙ saturated c p m
    ∙ ap (λ x. min x m) (mul_comm c p)

product-more : (xs : List ℕ) (n : ℕ) → product (xs ++ n ∷ []) ≡ product xs * n
product-more [] n = omega arith
product-more (x ∷ xs) n = ap (λ v. x * v) (product-more xs n) ∙ mul_three x (product xs) n
  where
    mul_three : (a b c : ℕ) → a * (b * c) ≡ a * b * c
    mul_three a b c = grind arith

-- one factor more
pub product_next : {X : Type 0} (f : X → ℕ) (xs : List X) (i : ℕ) (d : X) → i < length xs → product (map f (take (i + 1) xs)) ≡ product (map f (take i xs)) * f (get_or xs i d)
product_next f xs i d l =
    ap (λ v. product (map f v)) (take_more xs i d l)
    ∙ ap product (map-append f (take i xs) (get_or xs i d ∷ []))
    ∙ product-more (map f (take i xs)) (f (get_or xs i d))
