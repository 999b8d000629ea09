-- What places hold, by a list of marks, a list of the low bits of their numbers, and a list of the numbers that do not fit their types.
use Rattle.std.specs.Prelude.{ℕ, zero, suc, ◌+◌, List, [], ◌∷◌, drop, Option, Some, None, ℤ, pos, slice_index_or, slice_set}
use Rattle.numeric.specs.declared.ty.Ty.{Ty}
use Rattle.numeric.specs.declared.ty.Ty.TheVariants.{U8, U16, U32, I8, I16, I32}
use Rattle.numeric.specs.Wrap.{wrap}
use Rattle.tree.specs.declared.value.Value.{Value}
use Rattle.tree.specs.Meaning.{typed}
use Rattle.interpreter.specs.Evaluation.Lanes.{number_at}
use Rattle.interpreter.specs.Evaluation.Lending.{lent}
use Rattle.interpreter.specs.declared.buffers.held.Held.{Held}
use Rattle.interpreter.specs.declared.buffers.marks.Mark.{Mark}
use Rattle.interpreter.specs.declared.buffers.marks.Mark.TheVariants as mark
use Rattle.interpreter.specs.declared.evaluation.lanes.Number.{Number}

-- the mark of a place whose number stands in its word
abbrev pub narrow_mark : Ty → Mark
narrow_mark U8 = mark.U8
narrow_mark U16 = mark.U16
narrow_mark U32 = mark.U32
narrow_mark I8 = mark.I8
narrow_mark I16 = mark.I16
narrow_mark I32 = mark.I32

-- the mark of a place whose number does not fit its type, and stands apart
abbrev pub wide_mark : Ty → Mark
wide_mark U8 = mark.WideU8
wide_mark U16 = mark.WideU16
wide_mark U32 = mark.WideU32
wide_mark I8 = mark.WideI8
wide_mark I16 = mark.WideI16
wide_mark I32 = mark.WideI32

-- the value of the type whose low bits a word has
abbrev pub in_word : Ty → ℕ → Option Value
in_word t w = Some (typed t (wrap t (pos w)))

-- the value of the type with a number of any size
abbrev pub apart : Ty → ℤ → Option Value
apart t z = Some (typed t z)

-- what a place of this mark holds, whose word is this and for which this number stands apart
abbrev pub held_by : Mark → ℕ → ℤ → Option Value
held_by mark.Unset w z = None
held_by mark.U8 w z = in_word U8 w
held_by mark.U16 w z = in_word U16 w
held_by mark.U32 w z = in_word U32 w
held_by mark.I8 w z = in_word I8 w
held_by mark.I16 w z = in_word I16 w
held_by mark.I32 w z = in_word I32 w
held_by mark.WideU8 w z = apart U8 z
held_by mark.WideU16 w z = apart U16 z
held_by mark.WideU32 w z = apart U32 z
held_by mark.WideI8 w z = apart I8 z
held_by mark.WideI16 w z = apart I16 z
held_by mark.WideI32 w z = apart I32 z

-- the word of a place, 0 behind the last
abbrev pub word_in : List ℕ → ℕ → ℕ
word_in ws k = slice_index_or ws k 0

-- what places of these marks and words hold, for which these numbers stand apart
abbrev pub held_places : List Mark → List ℕ → List Number → List (Option Value)
held_places [] ws zs = []
held_places (m ∷ ms) ws zs = held_by m (word_in ws 0) (number_at zs 0) ∷ held_places ms (drop 1 ws) (drop 1 zs)

-- what places side by side hold
abbrev pub places_held : Held → List (Option Value)
places_held h = held_places h.marks.now (lent h.numbers) h.wides.now

-- places after so many values were set, one after another, from the place of this number on
abbrev pub row_held : (ℕ → Value) → ℕ → List (Option Value) → ℕ → List (Option Value)
row_held values place h zero = h
row_held values place h (suc k) = slice_set (row_held values place h k) (place + k) (Some (values k))

-- the values of a type whose low bits words have
abbrev pub word_values : Ty → List ℕ → ℕ → Value
word_values t ws k = typed t (wrap t (pos (word_in ws k)))
