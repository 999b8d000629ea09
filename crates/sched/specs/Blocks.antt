-- What of each dimension belongs to a piece: the numbers that it owns, those of which its claims speak, and the places of its buffer. A parallel loop gives each
-- piece a block of numbers; a split that is made around or inside of it makes blocks of blocks, or parts of one.
use Rattle.std.specs.Prelude.{ℤ, pos, ◌-ℤ◌}
use Rattle.std.specs.Int.{saturate_signed, w64}
use Rattle.sched.specs.declared.schedule.Split.{Split}

abbrev pub difference : ℤ → ℤ → ℤ
difference a b = saturate_signed w64 (a -ℤ b)

abbrev pub factor_of : Split → ℤ
factor_of c = pos c.factor
