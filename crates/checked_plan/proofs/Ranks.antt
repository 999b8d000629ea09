-- The rank of a point, coordinate by coordinate from the last.
use Rattle.std.proofs.Common.{◌≡◌, ℕ, zero, suc, ◌+◌, ◌-◌, ◌*◌, ◌<◌, ◌≤◌, List, [], ◌∷◌, length, get_or, drop, arith, ap, refl, ◌∙◌}
use Rattle.std.specs.Prelude.{ℤ, pos, ◌-ℤ◌}
use Rattle.std.proofs.Math.Nat.{mul-le-mul_left, mul-add, mul-one}
use Rattle.plan.specs.Symbols.{clipped}
use Rattle.checked_plan.specs.Output.Axes.{HasNumber, IsOn, point_count, rank_of}
use Rattle.checked_plan.specs.declared.output.axis.Axis.{Axis}

abbrev pub none : Axis
none = record { low = pos 0; count = 0 }

pub same_length : (xs : List Axis) (zs : List ℤ) → IsOn xs zs → length zs ≡ length xs
same_length [] [] h = refl
same_length [] (z ∷ zs) h = absurd h
same_length (x ∷ xs) [] h = absurd h
same_length (x ∷ xs) (z ∷ zs) h = ap suc (same_length xs zs h.1)

pub number_at : (xs : List Axis) (zs : List ℤ) (k : ℕ) → IsOn xs zs → k < length xs → HasNumber (get_or xs k none) (get_or zs k (pos 0))
number_at [] zs k h less = absurd (omega (arith, less))
number_at (x ∷ xs) [] k h less = absurd h
number_at (x ∷ xs) (z ∷ zs) zero h less = h.0
number_at (x ∷ xs) (z ∷ zs) (suc k) h less = number_at xs zs k h.1 (omega (arith, less))

pub rank_more : (xs : List Axis) (zs : List ℤ) (k : ℕ) → IsOn xs zs → k < length xs →
    rank_of (drop k xs) (drop k zs) ≡ clipped (get_or zs k (pos 0) -ℤ (get_or xs k none).low) + (get_or xs k none).count * rank_of (drop (suc k) xs) (drop (suc k) zs)
rank_more [] zs k h less = absurd (omega (arith, less))
rank_more (x ∷ xs) [] k h less = absurd h
rank_more (x ∷ xs) (z ∷ zs) zero h less = refl
rank_more (x ∷ xs) (z ∷ zs) (suc k) h less = rank_more xs zs k h.1 (omega (arith, less))

-- one coordinate more, counted from the last
pub rank_step : (xs : List Axis) (zs : List ℤ) (p : ℕ) → IsOn xs zs → 0 < p → p ≤ length xs →
    rank_of (drop (p - 1) xs) (drop (p - 1) zs) ≡ clipped (get_or zs (p - 1) (pos 0) -ℤ (get_or xs (p - 1) none).low) + (get_or xs (p - 1) none).count * rank_of (drop p xs) (drop p zs)
rank_step xs zs p h some within =
    let e : suc (p - 1) ≡ p = omega (arith, some) in
    rank_more xs zs (p - 1) h (omega (arith, some, within))
    ∙ ap (λ (n : ℕ). clipped (get_or zs (p - 1) (pos 0) -ℤ (get_or xs (p - 1) none).low) + (get_or xs (p - 1) none).count * rank_of (drop n xs) (drop n zs)) e

digit_below : (d c r n : ℕ) → d < c → r < n → d + c * r < c * n
digit_below d c r n less below =
    let step : c * (r + 1) ≤ c * n = mul-le-mul_left c (omega (arith, below)) in
    let split : c * (r + 1) ≡ c * r + c = mul-add c r 1 ∙ ap (λ (x : ℕ). c * r + x) (mul-one c) in
    omega (arith, step, split, less)

pub rank_below : (xs : List Axis) (zs : List ℤ) → IsOn xs zs → rank_of xs zs < point_count xs
rank_below [] [] h = omega arith
rank_below [] (z ∷ zs) h = absurd h
rank_below (x ∷ xs) [] h = absurd h
rank_below (x ∷ xs) (z ∷ zs) h = digit_below (clipped (z -ℤ x.low)) x.count (rank_of xs zs) (point_count xs) h.0.below (rank_below xs zs h.1)

fewer : (d c n m : ℕ) → d < c → c * n ≤ m → n ≤ m
fewer d zero n m less few = absurd (omega (arith, less))
fewer d (suc c) n m less few = omega (arith, few)

pub rank_small : (xs : List Axis) (zs : List ℤ) (m k : ℕ) → IsOn xs zs → point_count xs ≤ m → 1 ≤ m → rank_of (drop k xs) (drop k zs) < m
rank_small xs zs m zero h few some = let r = rank_below xs zs h in omega (arith, r, few)
rank_small [] [] m (suc k) h few some = omega (arith, some)
rank_small [] (z ∷ zs) m (suc k) h few some = absurd h
rank_small (x ∷ xs) [] m (suc k) h few some = absurd h
rank_small (x ∷ xs) (z ∷ zs) m (suc k) h few some = rank_small xs zs m k h.1 (fewer (clipped (z -ℤ x.low)) x.count (point_count xs) m h.0.below few) some
