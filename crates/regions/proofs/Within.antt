-- Ends within the limits.
use Rattle.std.proofs.Common.{◌≡◌, ℕ, ◌+◌, Bool, true, false, ◌&&◌, refl, arith}
use Rattle.std.proofs.lemmas.Int.{ints}
use Rattle.std.specs.Prelude.{ℤ, pos, negsuc, ◌+ℤ◌, ◌-ℤ◌, ◌≤ℤ◌, int_le}
use Rattle.regions.specs.declared.regions.Ends.{Ends}
use Rattle.regions.specs.Regions.{is_i32, are_within}
use Rattle.sched.specs.Regions.{count_of}

both : (a b : Bool) → (a && b) ≡ true → (a ≡ true) × (b ≡ true)
both true b h = (refl, h)
both false b h = cc

pub i32_bounds : (z : ℤ) → is_i32 z ≡ true → (negsuc 2147483647 ≤ℤ z) × (z ≤ℤ pos 2147483647)
i32_bounds z h =
    let b = both (int_le (negsuc 2147483647) z) (int_le z (pos 2147483647)) h in
    (omega (arith, ints, b.0), omega (arith, ints, b.1))

pub low_fits : (e : Ends) → are_within e ≡ true → (negsuc 2147483647 ≤ℤ e.low) × (e.low ≤ℤ pos 2147483647)
low_fits e h =
    let b = both (is_i32 e.low && is_i32 e.high) (int_le e.low e.high && int_le (e.high -ℤ e.low) (pos 2147483647)) h in
    i32_bounds e.low (both (is_i32 e.low) (is_i32 e.high) b.0).0

pub high_fits : (e : Ends) → are_within e ≡ true → (negsuc 2147483647 ≤ℤ e.high) × (e.high ≤ℤ pos 2147483647)
high_fits e h =
    let b = both (is_i32 e.low && is_i32 e.high) (int_le e.low e.high && int_le (e.high -ℤ e.low) (pos 2147483647)) h in
    i32_bounds e.high (both (is_i32 e.low) (is_i32 e.high) b.0).1

pub distance_fits : (e : Ends) → are_within e ≡ true → (pos 0 ≤ℤ (e.high -ℤ e.low)) × ((e.high -ℤ e.low) ≤ℤ pos 2147483647)
distance_fits e h =
    let b = both (is_i32 e.low && is_i32 e.high) (int_le e.low e.high && int_le (e.high -ℤ e.low) (pos 2147483647)) h in
    let c = both (int_le e.low e.high) (int_le (e.high -ℤ e.low) (pos 2147483647)) b.1 in
    (omega (arith, ints, c.0), omega (arith, ints, c.1))

pub counted : (z : ℤ) (n : ℕ) → z ≡ pos n → count_of (z +ℤ pos 1) ≡ n + 1
counted z n h = rw (h) refl
