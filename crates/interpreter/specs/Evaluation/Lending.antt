-- Rows of numbers that a reader lends, and the numbers that they make for the turns of a run.
use Rattle.std.specs.Prelude.{◌≡◌, ℕ, ◌<◌, ◌++◌, List, replicate, Option, Some, None, ℤ, pos, slice_index_or}
use Rattle.numeric.specs.declared.ty.Ty.{Ty}
use Rattle.numeric.specs.declared.op.Op.TheVariants.{Mul}
use Rattle.numeric.specs.Apply.{apply}
use Rattle.numeric.specs.Wrap.{wrap}
use Rattle.tree.specs.declared.value.Value.{Value}
use Rattle.tree.specs.Meaning.{typed}
use Rattle.interpreter.specs.declared.evaluation.lanes.Number.{Number}
use Rattle.interpreter.specs.declared.evaluation.lent_row.LentNumbers.{LentNumbers}
use Rattle.interpreter.specs.declared.evaluation.lent_row.LentNumbers.TheVariants.{Words, Bytes}
use Rattle.interpreter.specs.declared.evaluation.lent_row.LentOperand.{LentOperand}
use Rattle.interpreter.specs.declared.evaluation.lent_row.LentTerm.{LentTerm}

-- the numbers, however they are kept
abbrev pub lent : LentNumbers → List ℕ
lent (Words words) = words.now
lent (Bytes bytes) = bytes.now

-- the bits for a turn: one number's at the first turns, then those that are lent, and another number's at all turns behind them
abbrev pub lent_bits : LentOperand → ℕ → ℕ
lent_bits o k = slice_index_or (replicate o.before o.low ++ lent o.numbers) k o.high

-- at each of so many turns, this is found
abbrev pub FindsLent : ℕ → LentOperand → (ℕ → Option Value) → Type 0
FindsLent n o f = (k : ℕ) → k < n → f k ≡ Some (typed o.ty (wrap o.ty (pos (lent_bits o k))))

-- a number of the type, as many times as a factor says, if there is one
abbrev pub times_factor : Ty → Option Number → ℤ → ℤ
times_factor t None z = z
times_factor t (Some w) z = apply Mul t w.value z

-- the number of the type for a turn
abbrev pub lent_number : Ty → LentTerm → ℕ → ℤ
lent_number t x k = times_factor t x.factor (wrap t (pos (lent_bits x.operand k)))

-- at each of so many turns, this is found
abbrev pub FindsTerm : ℕ → LentTerm → (ℕ → Option Value) → Type 0
FindsTerm n x f = (k : ℕ) → k < n → f k ≡ Some (typed x.operand.ty (lent_number x.operand.ty x k))
