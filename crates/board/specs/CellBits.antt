-- The bits of values, as a piece gives them.
use Rattle.std.specs.Prelude.{ℕ, List}
use Rattle.board.specs.declared.cell_bits.CellBits.{CellBits}
use Rattle.board.specs.declared.cell_bits.CellBits.TheVariants.{Bytes, Words}

-- the bits, however they are kept
abbrev pub bits_in : CellBits → List ℕ
bits_in (Bytes bytes) = bytes.now
bits_in (Words words) = words.now
