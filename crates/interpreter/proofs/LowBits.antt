-- The low bits of numbers, and the numbers that are read from them.
use Rattle.std.proofs.Common.{◌≡◌, ◌-◌, ◌%◌, ◌^◌, ◌<◌, ◌∷◌, ◌++◌, ◌∙◌, [], refl, sym, ap, arith, Bool, false, true, ℕ, ℤ, List, map, pos, negsuc, if◌then◌else◌}
use Rattle.std.specs.Int.{int_rem_euclid}
use Rattle.std.proofs.lemmas.Int.{ints}
use Rattle.std.proofs.lemmas.List.{map-append}
use Rattle.std.proofs.lemmas.Simd.{map-map}
use Rattle.numeric.specs.declared.ty.Ty.{Ty}
use Rattle.numeric.specs.declared.ty.Ty.TheVariants.{U8, U32}
use Rattle.numeric.specs.Wrap.{wrap, lowered, IsOf}
use Rattle.numeric.proofs.Wraps.{wrap_of_value, wraps_to}
use Rattle.meaning.specs.Image.Raster.{natural}
use Rattle.interpreter.specs.LowBits.{low_bits, numbers_read}
use Rattle.interpreter.proofs.Words.{wrap_of_word}

-- a word is that of the low bits of a number where it is its remainder
pub low_bits_are : (z : ℤ) (w : ℕ) → w < 2 ^ 32 → pos w ≡ int_rem_euclid z (pos (2 ^ 32)) → w ≡ low_bits z
low_bits_are z w lt e =
    let value : IsOf U32 (pos w) = record { from = omega (arith, ints); to = omega (arith, ints, lt) } in
    ap natural (sym (wrap_of_value U32 (pos w) value) ∙ wrap_of_word U32 z w e)

-- the low bits of a number are its remainder
pub low_bits_is : (z : ℤ) → pos (low_bits z) ≡ int_rem_euclid z (pos (2 ^ 32))
low_bits_is (pos a) = ap pos (sym (low_bits_are (pos a) (a % 2 ^ 32) (omega arith) refl))
low_bits_is (negsuc a) = ap pos (sym (low_bits_are (negsuc a) (2 ^ 32 - 1 - a % 2 ^ 32) (omega arith) refl))

-- one more number, and its low bits
pub one_kept : (bits : List ℕ) (zs new : List ℤ) (z : ℤ) (w : ℕ) → bits ≡ map low_bits zs → w ≡ low_bits z → new ≡ zs ++ z ∷ [] → bits ++ w ∷ [] ≡ map low_bits new
one_kept bits zs new z w k e is = (λ i. k i ++ e i ∷ []) ∙ sym (ap (map low_bits) is ∙ map-append low_bits zs (z ∷ []))

-- a number of a type is read from its low bits
pub read_again : (t : Ty) (z : ℤ) → IsOf t z → wrap t (pos (low_bits z)) ≡ z
read_again t z of = wrap_of_word t z (low_bits z) (low_bits_is z) ∙ wrap_of_value t z of

-- numbers of a type are read from their low bits
pub read_all : (t : Ty) (ws : List ℕ) → map (λ v. wrap t (pos v)) (map (λ w. low_bits (wrap t (pos w))) ws) ≡ map (λ w. wrap t (pos w)) ws
read_all t [] = refl
read_all t (w ∷ ws) = λ i. read_again t (wrap t (pos w)) (wraps_to t (pos w)).within i ∷ read_all t ws i

-- more numbers of the type that the others are read as
pub more_read : (apart : Bool) (ty t : Ty) (bits new ws : List ℕ) (wides : List ℤ) → apart ≡ false → ty ≡ t → new ≡ bits ++ map (λ w. low_bits (wrap t (pos w))) ws →
    numbers_read apart ty new wides ≡ numbers_read apart ty bits wides ++ map (λ w. wrap t (pos w)) ws
more_read apart ty t bits new ws wides off same is =
    (λ i. numbers_read (off i) (same i) (is i) wides)
    ∙ map-append (λ v. wrap t (pos v)) bits (map (λ w. low_bits (wrap t (pos w))) ws)
    ∙ ap (λ (zs : List ℤ). map (λ v. wrap t (pos v)) bits ++ zs) (read_all t ws)
    ∙ sym (λ i. numbers_read (off i) (same i) bits wides ++ map (λ w. wrap t (pos w)) ws)

-- more numbers, and their low bits
pub more_kept : (t : Ty) (bits new ws : List ℕ) (zs all : List ℤ) → bits ≡ map low_bits zs → new ≡ bits ++ map (λ w. low_bits (wrap t (pos w))) ws → all ≡ zs ++ map (λ w. wrap t (pos w)) ws
    → new ≡ map low_bits all
more_kept t bits new ws zs all k is more =
    is
    ∙ (λ i. k i ++ sym (map-map low_bits (λ w. wrap t (pos w)) ws) i)
    ∙ sym (ap (map low_bits) more ∙ map-append low_bits zs (map (λ w. wrap t (pos w)) ws))

-- a byte is the low bits of the number of u8 that it is
pub byte_read : (b : ℕ) → b < 2 ^ 8 → low_bits (wrap U8 (pos b)) ≡ b
byte_read b lt =
    let value : IsOf U8 (pos b) = record { from = omega (arith, ints); to = omega (arith, ints, lt) } in
    ap low_bits (wrap_of_value U8 (pos b) value) ∙ sym (low_bits_are (pos b) b (omega (arith, lt)) (ap pos (omega (arith, lt))))

-- bytes are the low bits of the numbers of u8 that they are
pub bytes_given : (narrow : Bool) (bytes : List ℕ) (others all : List ℤ) → narrow ≡ true → (if narrow then map (λ w. wrap U8 (pos w)) bytes else others) ≡ all → map (λ w. low_bits (wrap U8
    (pos w))) bytes ≡ bytes →
    bytes ≡ map low_bits all
bytes_given narrow bytes others all on is seen =
    sym seen
    ∙ sym (map-map low_bits (λ w. wrap U8 (pos w)) bytes)
    ∙ ap (map low_bits) (sym (ap (λ (b : Bool). if b then map (λ w. wrap U8 (pos w)) bytes else others) on) ∙ is)

-- the lowest byte of a word is the same number of u8
low_byte_same : (w : ℕ) → wrap U8 (pos (w % 2 ^ 8)) ≡ wrap U8 (pos w)
low_byte_same w =
    let rest : (w % 2 ^ 8) % 2 ^ 8 ≡ w % 2 ^ 8 = omega arith in
    ap (λ (r : ℕ). lowered U8 (pos r)) rest

low_bytes_same : (ws : List ℕ) → map (λ b. wrap U8 (pos b)) (map (λ w. w % 2 ^ 8) ws) ≡ map (λ w. wrap U8 (pos w)) ws
low_bytes_same [] = refl
low_bytes_same (w ∷ ws) = λ i. low_byte_same w i ∷ low_bytes_same ws i

-- more numbers of u8 behind those that bytes are, by the lowest bytes of the words that they are
pub low_bytes_taken : (narrow : Bool) (t : Ty) (bytes new ws : List ℕ) (others : List ℤ) → narrow ≡ true → t ≡ U8 → new ≡ bytes ++ map (λ w. w % 2 ^ 8) ws →
    (if narrow then map (λ w. wrap U8 (pos w)) new else others) ≡ (if narrow then map (λ w. wrap U8 (pos w)) bytes else others) ++ map (λ w. wrap t (pos w)) ws
low_bytes_taken narrow t bytes new ws others on u is =
    let f : ℕ → ℤ = λ w. wrap U8 (pos w) in
    ap (λ (b : Bool). if b then map f new else others) on
    ∙ ap (map f) is
    ∙ map-append f bytes (map (λ w. w % 2 ^ 8) ws)
    ∙ ap (λ (zs : List ℤ). map f bytes ++ zs) (low_bytes_same ws ∙ ap (λ (x : Ty). map (λ w. wrap x (pos w)) ws) (sym u))
    ∙ sym (ap (λ (b : Bool). (if b then map f bytes else others) ++ map (λ w. wrap t (pos w)) ws) on)
