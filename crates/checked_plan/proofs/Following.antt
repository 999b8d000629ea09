-- Coordinates that count from 0.
use Rattle.std.proofs.Common.{◌≡◌, ℕ, ◌+◌, ◌*◌, ◌<◌, Bool, true, List, [], ◌∷◌, arith, ap, refl, nat_lt, ltb-true}
use Rattle.std.specs.Prelude.{ℤ, pos, negsuc, ◌+ℤ◌, ◌-ℤ◌, ◌&&◌, int_le, int_lt}
use Rattle.std.proofs.lemmas.Int.{ints}
use Rattle.meaning.specs.Image.Raster.{is_within}
use Rattle.plan.specs.Symbols.{clipped}
use Rattle.soundness.proofs.Refines.{and_parts}
use Rattle.checked_plan.specs.Output.Axes.{from_zero, is_on, rank_of}
use Rattle.checked_plan.specs.Output.Cells.{points_before}
use Rattle.checked_plan.proofs.Regions.{is_le, is_lt}

-- a point on the extents is on the coordinates that count from 0, and as many points come before it
pub record Counts (extents : List ℕ) (at : List ℤ) : Type 0 where
  pub on : is_on (from_zero extents) at ≡ true
  pub rank : rank_of (from_zero extents) at ≡ points_before extents at

first_on : (e n : ℕ) (b : Bool) → n < e → b ≡ true → (int_le (pos 0) (pos n) && int_lt (pos n) (pos 0 +ℤ pos e) && b) ≡ true
first_on e n b h k = rw (is_le (pos 0) (pos n) (omega (arith, ints)), is_lt (pos n) (pos 0 +ℤ pos e) (omega (arith, ints, h)), k) refl

from_low : (n : ℕ) → clipped (pos n -ℤ pos 0) ≡ n
from_low n = let same : pos n -ℤ pos 0 ≡ pos n = omega (arith, ints) in ap clipped same

pub counts : (extents : List ℕ) (at : List ℤ) → is_within extents at ≡ true → Counts extents at
counts [] [] h = record { on = refl; rank = refl }
counts [] (pos n ∷ zs) h = absurd (cc h)
counts [] (negsuc n ∷ zs) h = absurd (cc h)
counts (e ∷ es) [] h = absurd (cc h)
counts (e ∷ es) (negsuc n ∷ zs) h = absurd (cc h)
counts (e ∷ es) (pos n ∷ zs) h =
    let parts = and_parts (nat_lt n e) (is_within es zs) h in
    let rest = counts es zs parts.1 in
    record {
      on = first_on e n (is_on (from_zero es) zs) (ltb-true n e parts.0) rest.on;
      rank = (λ i. from_low n i + e * rest.rank i);
    }
