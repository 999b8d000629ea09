-- Second operands that are lent: a term, or a sum or a difference of two operands, perhaps as many times as a factor says.
use Rattle.std.specs.Prelude.{ℕ, ◌≤◌, ◌+◌, length, pos}
use Rattle.numeric.specs.declared.ty.Ty.{Ty}
use Rattle.numeric.specs.Wrap.{wrap}
use Rattle.tree.specs.declared.value.Value.{Value}
use Rattle.tree.specs.Meaning.{applied, typed}
use Rattle.interpreter.specs.declared.evaluation.lent_row.LentOperand.{LentOperand}
use Rattle.interpreter.specs.declared.evaluation.lent_seconds.LentPair.{LentPair}
use Rattle.interpreter.specs.declared.evaluation.lent_seconds.LentSecond.{LentSecond}
use Rattle.interpreter.specs.declared.evaluation.lent_seconds.LentSecond.TheVariants.{Term, Multiple}
use Rattle.interpreter.specs.Evaluation.Lending.{lent, lent_bits, lent_number}
use Rattle.interpreter.specs.Evaluation.Multiples.{multiplied_value}

-- the value for a turn
abbrev pub operand_value : LentOperand → ℕ → Value
operand_value o k = typed o.ty (wrap o.ty (pos (lent_bits o k)))

abbrev pub pair_value : LentPair → ℕ → Value
pair_value p k = applied p.op (operand_value p.left k) (operand_value p.right k)

-- and where a term's numbers are of the type
abbrev pub second_value : Ty → LentSecond → ℕ → Value
second_value t (Term x) k = typed t (lent_number t x k)
second_value t (Multiple x) k = multiplied_value x.factor (pair_value x.pair k)

-- what is lent lies within so many turns
abbrev pub IsWithin : ℕ → LentOperand → Type 0
IsWithin n o = o.before + length (lent o.numbers) ≤ n

pub record PairIsWithin (n : ℕ) (p : LentPair) : Type 0 where
  pub left : IsWithin n p.left
  pub right : IsWithin n p.right

abbrev pub SecondIsWithin : ℕ → LentSecond → Type 0
SecondIsWithin n (Term x) = IsWithin n x.operand
SecondIsWithin n (Multiple x) = PairIsWithin n x.pair
