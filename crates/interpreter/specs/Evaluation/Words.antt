-- Words: numbers of registers, in 32 bits each.
use Rattle.std.specs.Prelude.{◌≡◌, ℕ, ◌==◌, List, Bool, not, ℤ, pos, slice_index_or}
use Rattle.numeric.specs.declared.ty.Ty.{Ty}
use Rattle.numeric.specs.Wrap.{wrap}

-- what a register has for a turn
abbrev pub bits_at : List ℕ → ℕ → ℕ
bits_at ws k = slice_index_or ws k 0

-- the number of a type that it is: the one of that type that differs from it by a multiple of the type's modulus
abbrev pub word_at : Ty → List ℕ → ℕ → ℤ
word_at t ws k = wrap t (pos (bits_at ws k))

-- whether a word of a mask says yes
abbrev pub says_yes : ℕ → Bool
says_yes w = not (w == 0)

-- whether a mask says yes at a turn
abbrev pub mask_at : List ℕ → ℕ → Bool
mask_at ws k = says_yes (bits_at ws k)
