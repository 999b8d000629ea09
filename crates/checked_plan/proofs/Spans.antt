-- What the code computes of a span and of a coordinate.
use Rattle.std.proofs.Common.{◌≡◌, ℕ, zero, suc, ◌+◌, ◌<◌, ◌≤◌, ◌^◌, List, [], ◌∷◌, ◌++◌, length, take, get_or, arith, ap, refl, sym, ◌∙◌, subst, lit<, FitsSigned, Fits, w32, w64, to_z, of_z}
use Rattle.std.specs.Prelude.{ℤ, pos, negsuc, ◌+ℤ◌, ◌-ℤ◌, ◌≤ℤ◌}
use Rattle.std.proofs.lemmas.Int.{ints}
use Rattle.lin.specs.Forms.{IsWithin}
use Rattle.lin.specs.declared.span.Span1.{Span1}
use Rattle.lin.proofs.Machine.{within_fits}
use Rattle.plan.specs.Symbols.{clipped, largest, rising, smallest, turns}
use Rattle.plan.specs.Certificate.Cells.{no_symbols}
use Rattle.checked_plan.specs.declared.output.axis.Axis.{Axis}
use Rattle.checked_plan.specs.Output.Axes.{HasNumber, axis_of, axes_of}
use Rattle.checked_plan.specs.Ready.Ready.{low_end, high_end, IsSmallSpan}
use lib.Dec.{T}
use lib.Signed.{non_neg}
use lib.IntN.{nat_abs}

pub length-rising : (z : ℤ) (n : ℕ) → length (rising z n) ≡ n
length-rising z zero = refl
length-rising z (suc n) = ap suc (length-rising (z +ℤ pos 1) n)

clipped_some : (z : ℤ) → 1 ≤ clipped z → z ≡ pos (clipped z)
clipped_some (pos n) h = refl
clipped_some (negsuc n) h = absurd (omega (arith, h))

clipped_is : (z : ℤ) → pos 0 ≤ℤ z → z ≡ pos (clipped z)
clipped_is (pos n) h = refl
clipped_is (negsuc n) h = absurd (omega (arith, ints))

-- ---- the coordinate of a span

-- the code's count
abbrev pub counted : ℤ → ℤ → ℤ
counted low high = to_z w64 (of_z w64 (to_z w64 (of_z w64 (to_z w64 (of_z w64 high) -ℤ to_z w64 (of_z w64 low))) +ℤ pos 1))

counted_is : (low high : ℤ) (n : ℕ) → IsWithin (2 ^ 40) low → IsWithin (2 ^ 40) high → (high +ℤ pos 1) -ℤ low ≡ pos n → counted low high ≡ pos n
counted_is low high n l h e =
    let a : to_z w64 (of_z w64 low) ≡ low = omega (arith, ints, l) in
    let b : to_z w64 (of_z w64 high) ≡ high = omega (arith, ints, h) in
    let c : to_z w64 (of_z w64 (high -ℤ low)) ≡ high -ℤ low = omega (arith, ints, l, h) in
    let d : to_z w64 (of_z w64 ((high -ℤ low) +ℤ pos 1)) ≡ pos n = omega (arith, ints, l, h, e) in
    rw (a, b, c) d

-- the ends that the code reads
pub record AreEnds (x : Span1) (low high : ℤ) : Type 0 where
  pub low_is : low ≡ low_end x
  pub high_is : high ≡ high_end x

pub count_is : (x : Span1) (low high : ℤ) → IsSmallSpan x → AreEnds x low high → counted low high ≡ pos (length (turns no_symbols x))
count_is x low high s e =
    let l : low ≡ largest no_symbols x.lower = e.low_is in
    let u : high ≡ smallest no_symbols x.upper = e.high_is in
    let width : ℤ = (high +ℤ pos 1) -ℤ low in
    let n : length (turns no_symbols x) ≡ clipped width =
    length-rising (largest no_symbols x.lower) (clipped ((smallest no_symbols x.upper +ℤ pos 1) -ℤ largest no_symbols x.lower))
    ∙ ap (λ (z : ℤ). clipped ((z +ℤ pos 1) -ℤ largest no_symbols x.lower)) (sym u) ∙ ap (λ (z : ℤ). clipped ((high +ℤ pos 1) -ℤ z)) (sym l) in
    let is : width ≡ pos (clipped width) = clipped_some width (subst (λ (k : ℕ). 1 ≤ k) n s.some) in
    counted_is low high (length (turns no_symbols x)) (subst (IsWithin (2 ^ 40)) (sym e.low_is) s.low) (subst (IsWithin (2 ^ 40)) (sym e.high_is) s.high) (is ∙ ap (λ (k : ℕ). pos k) (sym n))

pub count_fits : (x : Span1) (low high : ℤ) → IsSmallSpan x → AreEnds x low high → T (non_neg (counted low high)) × Fits w32 (nat_abs (counted low high))
count_fits x low high s e =
    let few = s.few in
    subst (λ (z : ℤ). T (non_neg z) × Fits w32 (nat_abs z)) (sym (count_is x low high s e)) (tt, omega (arith, few))

pub axis_is : (x : Span1) (low high : ℤ) → IsSmallSpan x → AreEnds x low high → ◌≡◌ {A = Axis} (record { low = to_z w64 (of_z w64 low); count = nat_abs (counted low high) }) (axis_of x)
axis_is x low high s e =
    let near : IsWithin (2 ^ 40) low = subst (IsWithin (2 ^ 40)) (sym e.low_is) s.low in
    let a : to_z w64 (of_z w64 low) ≡ largest no_symbols x.lower = (let b : to_z w64 (of_z w64 low) ≡ low = omega (arith, ints, near) in b) ∙ e.low_is in
    let n : nat_abs (counted low high) ≡ length (turns no_symbols x) = ap nat_abs (count_is x low high s e) in
    λ i. record { low = a i; count = n i }

pub one_more : (xs : List Span1) (k : ℕ) (x : Span1) → x ≡ get_or xs k x → k < length xs → axes_of (take (k + 1) xs) ≡ axes_of (take k xs) ++ axis_of x ∷ []
one_more xs k x e less =
    let one : suc k ≡ k + 1 = omega arith in
    ap (λ (n : ℕ). axes_of (take n xs)) (sym one) ∙ more xs k x e less
  where
    more : (xs : List Span1) (k : ℕ) (x : Span1) → x ≡ get_or xs k x → k < length xs → axes_of (take (suc k) xs) ≡ axes_of (take k xs) ++ axis_of x ∷ []
    more [] k x e less = absurd (omega (arith, less))
    more (y ∷ xs) zero x e less = ap (λ (z : Span1). axis_of z ∷ []) (sym e)
    more (y ∷ xs) (suc k) x e less = ap (λ (zs : List Axis). axis_of y ∷ zs) (more xs k x e (omega (arith, less)))

-- ---- a number's distance from the low end

abbrev pub distance : Axis → ℤ → ℤ
distance x z = to_z w64 (of_z w64 z) -ℤ to_z w64 (of_z w64 x.low)

distance_is : (x : Axis) (z : ℤ) → HasNumber x z → distance x z ≡ pos (clipped (z -ℤ x.low))
distance_is x z h =
    let near = h.near in let below = h.below in let short = h.short in let low = h.low in
    let d : z -ℤ x.low ≡ pos (clipped (z -ℤ x.low)) = clipped_is (z -ℤ x.low) (omega (arith, ints, low)) in
    let a : to_z w64 (of_z w64 x.low) ≡ x.low = omega (arith, ints, near) in
    let b : to_z w64 (of_z w64 z) ≡ z = omega (arith, ints, near, below, short, d) in
    rw (a, b) d

pub distance_fits : (x : Axis) (z : ℤ) → HasNumber x z → FitsSigned w64 (distance x z)
distance_fits x z h =
    let below = h.below in let short = h.short in
    subst (FitsSigned w64) (sym (distance_is x z h)) (within_fits (2 ^ 40) (pos (clipped (z -ℤ x.low))) (omega (arith, below, short)) (lit< tt))

bits_is : (n : ℕ) → n ≤ 8192 → to_z w64 (of_z w64 (pos n)) ≡ pos n
bits_is n h = omega (arith, ints, h)

pub digit_bits : (x : Axis) (z : ℤ) → HasNumber x z → to_z w64 (of_z w64 (distance x z)) ≡ pos (clipped (z -ℤ x.low))
digit_bits x z h =
    let below = h.below in let short = h.short in
    ap (λ (y : ℤ). to_z w64 (of_z w64 y)) (distance_is x z h) ∙ bits_is (clipped (z -ℤ x.low)) (omega (arith, below, short))

pub digit_fits : (x : Axis) (z : ℤ) → HasNumber x z → T (non_neg (to_z w64 (of_z w64 (distance x z)))) × Fits w32 (nat_abs (to_z w64 (of_z w64 (distance x z))))
digit_fits x z h =
    let below = h.below in let short = h.short in
    subst (λ (y : ℤ). T (non_neg y) × Fits w32 (nat_abs y)) (sym (digit_bits x z h)) (tt, omega (arith, below, short))

pub digit_is : (x : Axis) (z : ℤ) → HasNumber x z → nat_abs (to_z w64 (of_z w64 (distance x z))) ≡ clipped (z -ℤ x.low)
digit_is x z h = ap nat_abs (digit_bits x z h)
