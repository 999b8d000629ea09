-- Worked examples of the types and operators.
use Rattle.std.specs.Prelude.{◌≡◌, ℤ, pos, negsuc}
use Rattle.numeric.specs.declared.ty.Ty.{Ty}
use Rattle.numeric.specs.declared.ty.Ty.TheVariants.{U8, U16, U32, I8, I16, I32}
use Rattle.numeric.specs.declared.op.Op.TheVariants.{Add, Mul, Div, Rem}
use Rattle.numeric.specs.Wrap.{wrap, least, greatest}
use Rattle.numeric.specs.Apply.{apply}

-- quotient and remainder as i32
abbrev pub Divide : ℤ → ℤ → ℤ → ℤ → Type 0
Divide a b q r = (apply Div I32 a b ≡ q) × (apply Rem I32 a b ≡ r)

-- -7 by 2, 7 by -2, -7 by -2, 5 by 0, and the least value by -1
abbrev pub Quotients : Type 0
Quotients =
    Divide (negsuc 6) (pos 2) (negsuc 3) (pos 1)
    × Divide (pos 7) (negsuc 1) (negsuc 2) (pos 1)
    × Divide (negsuc 6) (negsuc 1) (pos 4) (pos 1)
    × Divide (pos 5) (pos 0) (pos 0) (pos 0)
    × Divide (negsuc 2147483647) (negsuc 0) (negsuc 2147483647) (pos 0)

-- 200 + 100 as u8, 200 cast to i8, the greatest u32 by itself, and the greatest i32 plus 1
abbrev pub Wraps : Type 0
Wraps = (apply Add U8 (pos 200) (pos 100) ≡ pos 44)
    × (wrap I8 (pos 200) ≡ negsuc 55)
    × (apply Mul U32 (pos 4294967295) (pos 4294967295) ≡ pos 1)
    × (apply Add I32 (pos 2147483647) (pos 1) ≡ negsuc 2147483647)

-- the least and the greatest value
abbrev pub Lies : Ty → ℤ → ℤ → Type 0
Lies t from to = (least t ≡ from) × (greatest t ≡ to)

abbrev pub Ends : Type 0
Ends =
    Lies U8 (pos 0) (pos 255)
    × Lies U16 (pos 0) (pos 65535)
    × Lies U32 (pos 0) (pos 4294967295)
    × Lies I8 (negsuc 127) (pos 127)
    × Lies I16 (negsuc 32767) (pos 32767)
    × Lies I32 (negsuc 2147483647) (pos 2147483647)
