use Rattle.std.proofs.Common.{◌≡◌, ◌++◌, false, length}
use Rattle.std.specs.Prelude.{string_bytes}
use Rattle.printer.specs.Spacing.{text_of}
use Rattle.printer.proofs.text.text_of.Given as goal

abbrev pub invariant-loop-rest : goal.invariant-loop-rest
invariant-loop-rest l = string_bytes l.text ++ text_of l.operand l.rest ≡ text_of false l.tokens

abbrev pub decreases-loop-rest : goal.decreases-loop-rest
decreases-loop-rest l = length l.rest
