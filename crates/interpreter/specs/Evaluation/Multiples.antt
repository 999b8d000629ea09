-- Values as many times as a factor says.
use Rattle.std.specs.Prelude.{Option, Some, None}
use Rattle.numeric.specs.declared.op.Op.TheVariants.{Mul}
use Rattle.tree.specs.Meaning.{applied}
use Rattle.tree.specs.declared.value.Value.{Value}

-- a value, as many times as the factor says, if there is one
abbrev pub multiplied_value : Option Value → Value → Value
multiplied_value None v = v
multiplied_value (Some w) v = applied Mul w v
