-- A value of a type is told by its 32 bits.
use Rattle.std.proofs.Common.{◌≡◌, ℕ, ◌-◌, ◌≤◌, ℤ, pos, negsuc, sym, ap, ◌∙◌, arith}
use Rattle.std.proofs.lemmas.Int.{ints}
use Rattle.numeric.specs.declared.ty.Ty.{Ty}
use Rattle.numeric.specs.declared.ty.Ty.TheVariants.{U8, U16, U32, I8, I16, I32}
use Rattle.numeric.specs.Wrap.{wrap, IsOf, WrapsTo}
use Rattle.numeric.proofs.Wraps.{wraps_only, wrap_of_value}
use Rattle.meaning.specs.Image.Raster.{natural}
use Rattle.board.specs.Words.{bits_of}

-- the bits of a number from 0 on are the number
bits_above : (n : ℕ) → n ≤ 4294967295 → bits_of (pos n) ≡ n
bits_above n h = ap natural (wrap_of_value U32 (pos n) (record { from = omega (arith, ints); to = omega (arith, ints, h) }))

-- those of a number below 0 are 2^32 more
bits_below : (n : ℕ) → n ≤ 2147483647 → bits_of (negsuc n) ≡ 4294967295 - n
bits_below n h =
    let w : ℤ = pos (4294967295 - n) in
    let same : w ≡ wrap U32 (negsuc n) = wraps_only U32 (negsuc n) w (record {
      within = record { from = omega (arith, ints); to = omega (arith, ints, h) };
      turns = negsuc 0;
      congruent = omega (arith, ints, h);
    }) in
    ap natural (sym same)

above : (t : Ty) (n : ℕ) → n ≤ 4294967295 → IsOf t (pos n) → wrap t (pos (bits_of (pos n))) ≡ pos n
above t n few h = ap (λ (m : ℕ). wrap t (pos m)) (bits_above n few) ∙ wrap_of_value t (pos n) h

-- these bits are as many turns of the type above the number
below : (t : Ty) (n : ℕ) → n ≤ 2147483647 → IsOf t (negsuc n) → WrapsTo t (pos (4294967295 - n)) (negsuc n) → wrap t (pos (bits_of (negsuc n))) ≡ negsuc n
below t n few h to = ap (λ (m : ℕ). wrap t (pos m)) (bits_below n few) ∙ sym (wraps_only t (pos (4294967295 - n)) (negsuc n) to)

pub value_of_bits : (t : Ty) (z : ℤ) → IsOf t z → wrap t (pos (bits_of z)) ≡ z
value_of_bits U8 (pos n) h = let to = h.to in above U8 n (omega (arith, ints, to)) h
value_of_bits U16 (pos n) h = let to = h.to in above U16 n (omega (arith, ints, to)) h
value_of_bits U32 (pos n) h = let to = h.to in above U32 n (omega (arith, ints, to)) h
value_of_bits I8 (pos n) h = let to = h.to in above I8 n (omega (arith, ints, to)) h
value_of_bits I16 (pos n) h = let to = h.to in above I16 n (omega (arith, ints, to)) h
value_of_bits I32 (pos n) h = let to = h.to in above I32 n (omega (arith, ints, to)) h
value_of_bits U8 (negsuc n) h = let from = h.from in absurd (omega (arith, ints, from))
value_of_bits U16 (negsuc n) h = let from = h.from in absurd (omega (arith, ints, from))
value_of_bits U32 (negsuc n) h = let from = h.from in absurd (omega (arith, ints, from))
value_of_bits I8 (negsuc n) h =
    let from = h.from in
    let few : n ≤ 127 = omega (arith, ints, from) in
    below I8 n (omega (arith, few)) h (record { within = h; turns = pos 16777216; congruent = omega (arith, ints, few) })
value_of_bits I16 (negsuc n) h =
    let from = h.from in
    let few : n ≤ 32767 = omega (arith, ints, from) in
    below I16 n (omega (arith, few)) h (record { within = h; turns = pos 65536; congruent = omega (arith, ints, few) })
value_of_bits I32 (negsuc n) h =
    let from = h.from in
    let few : n ≤ 2147483647 = omega (arith, ints, from) in
    below I32 n few h (record { within = h; turns = pos 1; congruent = omega (arith, ints, few) })
