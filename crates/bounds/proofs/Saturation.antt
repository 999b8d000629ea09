-- A number past 64 bits is a value of no type, nor is the nearest number of 64 bits.
use Rattle.std.proofs.Common.{◌≡◌, Bool, true, false, arith, refl, sym, ap, ◌∙◌, ℤ, pos, negsuc, ◌≤ℤ◌, w64}
use Rattle.std.specs.Prelude.{int_le, int_lt, ◌&&◌, if◌then◌else◌}
use Rattle.std.specs.Int.{int_max, int_min, saturate_signed}
use Rattle.std.proofs.lemmas.Int.{ints, clamps}
use Rattle.numeric.specs.declared.ty.Ty.{Ty}
use Rattle.numeric.specs.declared.ty.Ty.TheVariants.{U8, U16, U32, I8, I16, I32}
use Rattle.numeric.specs.Wrap.{least, greatest}
use Rattle.lin.specs.declared.span.Span1.{Span1}
use Rattle.bounds.specs.Spans.{numbers, range_of, are_of, between, smallest_of, largest_of}

-- the number of 64 bits that is nearest
abbrev pub nearest : ℤ → ℤ
nearest z = saturate_signed w64 z

small : (t : Ty) → (negsuc 2147483647 ≤ℤ least t) × (greatest t ≤ℤ pos 4294967295)
small U8 = (omega (arith, ints), omega (arith, ints))
small U16 = (omega (arith, ints), omega (arith, ints))
small U32 = (omega (arith, ints), omega (arith, ints))
small I8 = (omega (arith, ints), omega (arith, ints))
small I16 = (omega (arith, ints), omega (arith, ints))
small I32 = (omega (arith, ints), omega (arith, ints))

nearest_of_small : (z : ℤ) → negsuc 2147483647 ≤ℤ z → z ≤ℤ pos 4294967295 → nearest z ≡ z
nearest_of_small (pos n) a b = ap pos (omega (arith, ints, a, b))
nearest_of_small (negsuc n) a b = ap negsuc (omega (arith, ints, a, b))

nearest_order : (p q : ℤ) → p ≤ℤ q → nearest p ≤ℤ nearest q
nearest_order (pos m) (pos n) h = omega (arith, ints, h)
nearest_order (pos m) (negsuc n) h = omega (arith, ints, h)
nearest_order (negsuc m) (pos n) h = omega (arith, ints, h)
nearest_order (negsuc m) (negsuc n) h = omega (arith, ints, h)

min_nearest : (p q : ℤ) → int_min (nearest p) (nearest q) ≡ nearest (int_min p q)
min_nearest p q = by (int_lt q p) refl
  where
    by : (b : Bool) → int_lt q p ≡ b → int_min (nearest p) (nearest q) ≡ nearest (int_min p q)
    by true e =
        let m : int_min p q ≡ q = omega (arith, ints, clamps, e) in
        let s : int_min (nearest p) (nearest q) ≡ nearest q = omega (arith, ints, clamps, nearest_order q p (omega (arith, ints, e))) in
        s ∙ ap nearest (sym m)
    by false e =
        let m : int_min p q ≡ p = omega (arith, ints, clamps, e) in
        let s : int_min (nearest p) (nearest q) ≡ nearest p = omega (arith, ints, clamps, nearest_order p q (omega (arith, ints, e))) in
        s ∙ ap nearest (sym m)

max_nearest : (p q : ℤ) → int_max (nearest p) (nearest q) ≡ nearest (int_max p q)
max_nearest p q = by (int_lt q p) refl
  where
    by : (b : Bool) → int_lt q p ≡ b → int_max (nearest p) (nearest q) ≡ nearest (int_max p q)
    by true e =
        let m : int_max p q ≡ p = omega (arith, ints, clamps, e) in
        let s : int_max (nearest p) (nearest q) ≡ nearest p = omega (arith, ints, clamps, nearest_order q p (omega (arith, ints, e))) in
        s ∙ ap nearest (sym m)
    by false e =
        let m : int_max p q ≡ q = omega (arith, ints, clamps, e) in
        let s : int_max (nearest p) (nearest q) ≡ nearest q = omega (arith, ints, clamps, nearest_order p q (omega (arith, ints, e))) in
        s ∙ ap nearest (sym m)

small_nearest : (z : ℤ) → negsuc 2147483647 ≤ℤ nearest z → nearest z ≤ℤ pos 4294967295 → nearest z ≡ z
small_nearest (pos n) a b = ap pos (omega (arith, ints, a, b))
small_nearest (negsuc n) a b = ap negsuc (omega (arith, ints, a, b))

same_test : (a b : Bool) → (a ≡ true → b ≡ true) → (b ≡ true → a ≡ true) → a ≡ b
same_test true b f g = sym (f refl)
same_test false true f g = g refl
same_test false false f g = refl

both : (a b : Bool) → (a && b) ≡ true → (a ≡ true) × (b ≡ true)
both true b h = (refl, h)
both false b h = cc

-- two ends that are values of the type, or whose nearest numbers are, are these numbers
kept_ends : (t : Ty) (low high : ℤ) → low ≤ℤ high → are_of t (record { low = low; high = high }) ≡ true → (nearest low ≡ low) × (nearest high ≡ high)
kept_ends t low high h e =
    let b = both (int_le (least t) low) (int_le high (greatest t)) e in let s = small t in
    (nearest_of_small low (omega (arith, ints, b.0, s.0)) (omega (arith, ints, b.1, s.1, h)), nearest_of_small high (omega (arith, ints, b.0, s.0, h)) (omega (arith, ints, b.1, s.1)))

nearest_ends : (t : Ty) (low high : ℤ) → low ≤ℤ high → are_of t (record { low = nearest low; high = nearest high }) ≡ true → (nearest low ≡ low) × (nearest high ≡ high)
nearest_ends t low high h e =
    let b = both (int_le (least t) (nearest low)) (int_le (nearest high) (greatest t)) e in let s = small t in let o = nearest_order low high h in
    (small_nearest low (omega (arith, ints, b.0, s.0)) (omega (arith, ints, b.1, s.1, o)), small_nearest high (omega (arith, ints, b.0, s.0, o)) (omega (arith, ints, b.1, s.1)))

chosen : (a b : Bool) (s t u : Span1) → a ≡ b → (b ≡ true → s ≡ t) → (if a then s else u) ≡ (if b then t else u)
chosen true true s t u e f = f refl
chosen false false s t u e f = refl
chosen true false s t u e f = cc
chosen false true s t u e f = cc

pub between_nearest : (ty : Ty) (low high : ℤ) → low ≤ℤ high → between ty (record { low = nearest low; high = nearest high }) ≡ between ty (record { low = low; high = high })
unfolding between
between_nearest ty low high h = chosen (are_of ty (record { low = nearest low; high = nearest high })) (are_of ty (record { low = low; high = high })) _ _ (range_of ty)
    (same_test _ _
    (λ e. let k = nearest_ends ty low high h e in let first = sym k.0 in let last = sym k.1 in (λ i. are_of ty (record { low = first i; high = last i })) ∙ e)
    (λ e. let k = kept_ends ty low high h e in (λ i. are_of ty (record { low = k.0 i; high = k.1 i })) ∙ e))
    (λ e. let k = kept_ends ty low high h e in λ i. numbers (k.0 i) (k.1 i))

pub product_between : (ty : Ty) (p q r s : ℤ)
    → between ty (record { low = smallest_of (nearest p) (nearest q) (nearest r) (nearest s); high = largest_of (nearest p) (nearest q) (nearest r) (nearest s) })
    ≡ between ty (record { low = smallest_of p q r s; high = largest_of p q r s })
product_between ty p q r s =
    rw (min_nearest p q, min_nearest r s, min_nearest (int_min p q) (int_min r s), max_nearest p q, max_nearest r s, max_nearest (int_max p q) (int_max r s))
    (between_nearest ty (smallest_of p q r s) (largest_of p q r s) (omega (arith, ints, clamps)))
