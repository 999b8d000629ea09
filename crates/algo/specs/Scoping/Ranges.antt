-- Ranges by their ends alone.
use Rattle.std.specs.Prelude.{[], ℤ}
use Rattle.meaning.specs.Algorithm.{Range}

-- the least and the greatest value of a range's variable
abbrev pub ends : Range → ℤ × ℤ
ends d = (d.low, d.high)

-- a range whose variable has no name
abbrev pub unnamed : ℤ × ℤ → Range
unnamed e = record { variable = []; low = e.0; high = e.1 }
