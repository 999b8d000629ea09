-- Extents of spans whose ends are constants.
use Rattle.std.proofs.Common.{◌≡◌, ℕ, ◌+◌, ◌-◌, ◌^◌, min, refl, sym, ap, ◌∙◌, arith}
use Rattle.std.specs.Prelude.{ℤ, pos, negsuc, ◌+ℤ◌, ◌-ℤ◌, ◌≤ℤ◌, ◌<ℤ◌}
use Rattle.std.proofs.lemmas.Int.{ints}
use Rattle.lin.specs.declared.span.Span1.{Span1}
use Rattle.plan.specs.Symbols.{clipped, largest, smallest}
use Rattle.plan.specs.Certificate.Cells.{no_symbols}
use Rattle.validation.specs.Groups.Sizes.{extent_of}
use Rattle.validation.specs.Stored.Sizes.{counted}
use lib.IntN.{nat_abs}

-- the extent, by the constants of the ends
extent_by : (x : Span1) (low high : ℤ) → low ≡ largest no_symbols x.lower → high ≡ smallest no_symbols x.upper → extent_of x ≡ clipped ((high +ℤ pos 1) -ℤ low)
extent_by x low high p q = λ i. clipped ((sym q i +ℤ pos 1) -ℤ sym p i)

clipped_abs : (z : ℤ) → pos 0 ≤ℤ z → nat_abs z ≡ clipped z
clipped_abs (pos n) h = refl
clipped_abs (negsuc n) h = absurd (omega (arith, ints))

clipped_none : (z : ℤ) → z ≤ℤ pos 0 → clipped z ≡ 0
clipped_none (pos n) h = omega (arith, ints)
clipped_none (negsuc n) h = refl

abs_more : (low high : ℤ) → low ≤ℤ high → nat_abs (high -ℤ low) + 1 ≡ nat_abs ((high +ℤ pos 1) -ℤ low)
abs_more low high h = omega (arith, ints)

pub no_extent : (x : Span1) (low high : ℤ) → low ≡ largest no_symbols x.lower → high ≡ smallest no_symbols x.upper → high <ℤ low → 0 ≡ counted (extent_of x)
no_extent x low high p q h = sym (ap counted (extent_by x low high p q ∙ clipped_none ((high +ℤ pos 1) -ℤ low) (omega (arith, ints, h))))

pub some_extent : (x : Span1) (low high : ℤ) (r : ℕ) → low ≡ largest no_symbols x.lower → high ≡ smallest no_symbols x.upper → low ≤ℤ high
    → r ≡ min (nat_abs (high -ℤ low) + 1) (2 ^ 64 - 1) → r ≡ counted (extent_of x)
some_extent x low high r p q h e =
    e
    ∙ ap counted (abs_more low high h ∙ clipped_abs ((high +ℤ pos 1) -ℤ low) (omega (arith, ints, h)) ∙ sym (extent_by x low high p q))
