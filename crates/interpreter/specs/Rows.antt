-- Lists of numbers in memory that was taken before.
use Rattle.std.specs.Prelude.{ℕ, ℤ, List}

-- the numbers, and for how many there is room
pub record Listed : Type 0 where
  pub items : List ℤ
  pub room : ℕ

abbrev pub listed : List ℤ → ℕ → Listed
listed zs room = record { items = zs; room = room }
