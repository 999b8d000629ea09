-- Where the words of a board's table stand. Word 0 counts the draws, a flag for each piece follows, and then a word for each cell.
use Rattle.std.specs.Prelude.{ℕ, ◌+◌, ℤ, List, slice_index}
use Rattle.numeric.specs.declared.ty.Ty.TheVariants.{U32}
use Rattle.numeric.specs.Wrap.{wrap}
use Rattle.meaning.specs.Image.Raster.{natural}
use Rattle.board.specs.Layout.{Layout, pieces_of, own_cell}

abbrev pub word_count : Layout → ℕ
word_count plan = 1 + pieces_of plan + plan.cells

abbrev pub flag_place : ℕ → ℕ
flag_place j = 1 + j

abbrev pub cell_place : Layout → ℕ → ℕ
cell_place plan c = 1 + pieces_of plan + c

-- how many draws there were
abbrev pub counter : List ℕ → ℕ
counter words = slice_index words 0

-- the flag of piece j: 1 once the piece is finished
abbrev pub flag : List ℕ → ℕ → ℕ
flag words j = slice_index words (flag_place j)

abbrev pub cell : Layout → List ℕ → ℕ → ℕ
cell plan words c = slice_index words (cell_place plan c)

-- the word of the i-th own cell of piece j
abbrev pub own_word : Layout → List ℕ → ℕ → ℕ → ℕ
own_word plan words j i = cell plan words (own_cell plan j i)

-- the 32 bits of a value: what it is modulo 2^32
abbrev pub bits_of : ℤ → ℕ
bits_of value = natural (wrap U32 value)

-- the word of a cell that holds this value: one more than its bits
abbrev pub word_of : ℤ → ℕ
word_of value = 1 + bits_of value
