-- From machine numbers to whole numbers.
use Rattle.std.proofs.Common.{◌≡◌, ℕ, zero, suc, ◌+◌, ◌*◌, ◌<◌, ◌^◌, List, [], ◌∷◌, length, get_or, arith, refl}
use Rattle.std.specs.Prelude.{ℤ, ◌+ℤ◌, ◌*ℤ◌}
use Rattle.std.proofs.lemmas.Int.{ints, to_z-of_z, unsigned_abs-mul}
use Rattle.lin.specs.Forms.{IsWithin}
use mir.Val.{to_z, of_z, SFits}
use mir.Syntax.{w64}

pub get_or-any : {X : Type 0} (xs : List X) (p : ℕ) (d e : X) → p < length xs → get_or xs p d ≡ get_or xs p e
get_or-any [] p d e h = absurd (omega arith)
get_or-any (x ∷ xs) zero d e h = refl
get_or-any (x ∷ xs) (suc p) d e h = get_or-any xs p d e (omega arith)

pub within_fits : (m : ℕ) (z : ℤ) → IsWithin m z → m < 2 ^ 63 → SFits w64 z
within_fits m z h l = omega (arith, ints)

pub product_within : (m n : ℕ) (a b : ℤ) → IsWithin m a → IsWithin n b → IsWithin (m * n) (a *ℤ b)
product_within m n a b h k = rw (unsigned_abs-mul a b) (grind arith)

pub sum_within : (m n : ℕ) (a b : ℤ) → IsWithin m a → IsWithin n b → IsWithin (m + n) (a +ℤ b)
sum_within m n a b h k = omega (arith, ints)

pub product_bits : (a b : ℤ) → SFits w64 a → SFits w64 b → SFits w64 (a *ℤ b) → to_z w64 (of_z w64 (to_z w64 (of_z w64 a) *ℤ to_z w64 (of_z w64 b))) ≡ a *ℤ b
product_bits a b fa fb fab = rw (to_z-of_z w64 a fa, to_z-of_z w64 b fb) (to_z-of_z w64 (a *ℤ b) fab)
