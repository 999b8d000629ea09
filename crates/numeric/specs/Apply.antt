-- What the operators give.
use Rattle.std.specs.Prelude.{◌≡◌, zero, suc, ℤ, pos, negsuc, ◌+ℤ◌, ◌-ℤ◌, ◌*ℤ◌, ◌≤ℤ◌, ◌<◌, Bool, not, int_lt, int_le, unsigned_abs}
use Rattle.std.specs.Ordering.{int_eq}
use Rattle.std.specs.Int.{int_max, int_min, int_div_euclid, int_rem_euclid}
use Rattle.numeric.specs.declared.ty.Ty.{Ty}
use Rattle.numeric.specs.declared.op.Op.{Op}
use Rattle.numeric.specs.declared.op.Op.TheVariants.{Add, Sub, Mul, Div, Rem, Min, Max}
use Rattle.numeric.specs.declared.op.Comparison.{Comparison}
use Rattle.numeric.specs.declared.op.Comparison.TheVariants.{Less, AtMost, Greater, AtLeast, Equal, Different}
use Rattle.numeric.specs.Wrap.{wrap}

-- the quotient whose remainder is not negative, and 0 for a divisor of 0
abbrev pub quotient : ℤ → ℤ → ℤ
quotient a (pos zero) = pos 0
quotient a (pos (suc b)) = int_div_euclid a (pos (suc b))
quotient a (negsuc b) = int_div_euclid a (negsuc b)

-- that remainder, and 0 for a divisor of 0
abbrev pub remainder : ℤ → ℤ → ℤ
remainder a (pos zero) = pos 0
remainder a (pos (suc b)) = int_rem_euclid a (pos (suc b))
remainder a (negsuc b) = int_rem_euclid a (negsuc b)

-- the exact result, before it is wrapped
abbrev pub exact : Op → ℤ → ℤ → ℤ
exact Add a b = a +ℤ b
exact Sub a b = a -ℤ b
exact Mul a b = a *ℤ b
exact Div a b = quotient a b
exact Rem a b = remainder a b
exact Min a b = int_min a b
exact Max a b = int_max a b

-- the type of the result, where both operands have the type t
abbrev pub result_type : Op → Ty → Ty
result_type op t = t

-- the exact result, wrapped to the result's type
abbrev pub apply : Op → Ty → ℤ → ℤ → ℤ
apply op t a b = wrap (result_type op t) (exact op a b)

-- whether a comparison holds
abbrev pub compare : Comparison → ℤ → ℤ → Bool
compare Less a b = int_lt a b
compare AtMost a b = int_le a b
compare Greater a b = int_lt b a
compare AtLeast a b = int_le b a
compare Equal a b = int_eq a b
compare Different a b = not (int_eq a b)

-- q and r are the quotient and the remainder of a by b
pub record Divides (a b q r : ℤ) : Type 0 where
  pub whole : a ≡ b *ℤ q +ℤ r
  pub from : pos 0 ≤ℤ r
  pub below : unsigned_abs r < unsigned_abs b
