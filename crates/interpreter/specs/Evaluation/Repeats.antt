-- An operator's second operand that repeats its first.
use Rattle.numeric.specs.declared.op.Op.TheVariants.{Sub}
use Rattle.tree.specs.Term.{Term, Binary, Minus, Number}
use Rattle.tree.specs.Meaning.{applied, negated}
use Rattle.tree.specs.declared.value.Value.{Value}
use Rattle.interpreter.specs.declared.evaluation.repeats.Repeat.{Repeat}
use Rattle.interpreter.specs.declared.evaluation.repeats.Repeat.TheVariants.{Same, Opposite, Complement}

-- the second operand, by the first
abbrev pub repeated : Repeat → Term → Term
repeated Same e = e
repeated Opposite e = Minus e
repeated (Complement v) e = Binary Sub (Number v.ty v.number) e

-- and its value
abbrev pub repeated_value : Repeat → Value → Value
repeated_value Same v = v
repeated_value Opposite v = negated v
repeated_value (Complement w) v = applied Sub w v
