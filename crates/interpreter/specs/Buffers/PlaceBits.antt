-- The low bits of the numbers of places.
use Rattle.std.specs.Prelude.{ℕ, ◌%◌, ◌^◌, List}
use Rattle.interpreter.specs.declared.buffers.place_bits.PlaceBits.{PlaceBits}
use Rattle.interpreter.specs.declared.buffers.place_bits.PlaceSize.{PlaceSize}
use Rattle.interpreter.specs.declared.buffers.place_bits.PlaceSize.TheVariants.{Byte, Word}

-- the list of the size that is in use
abbrev pub sized : PlaceSize → List ℕ → List ℕ → List ℕ
sized Byte bytes words = bytes
sized Word bytes words = words

-- the low bits of the numbers, however they are kept
abbrev pub bits_of : PlaceBits → List ℕ
bits_of b = sized b.size b.bytes.items b.words.items

-- the lowest 8 bits of a word
abbrev pub low_byte : ℕ → ℕ
low_byte w = w % 2 ^ 8
