use Rattle.std.proofs.Common.{length}
use Rattle.interpreter.proofs.line_codes.+code_at.Given as goal

abbrev pub decreases-code_at : goal.decreases-code_at
decreases-code_at l = length l.codes.now
