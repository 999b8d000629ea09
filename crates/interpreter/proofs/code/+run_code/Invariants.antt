use Rattle.std.proofs.Common.{◌+◌, ◌*◌, max}
use Rattle.interpreter.proofs.code.Code.TheLaws.{the_size}
use Rattle.interpreter.proofs.code.+run_code.Given as goal

abbrev pub decreases-run_code : goal.decreases-run_code
decreases-run_code l = 4 * goal.size-run_code l

abbrev pub decreases-run_operand : goal.decreases-run_operand
decreases-run_operand l = 4 * goal.size-run_operand l + 1

abbrev pub decreases-run_binary : goal.decreases-run_binary
decreases-run_binary l = 4 * max (the_size l.left.now) (the_size l.right.now) + 2

abbrev pub decreases-run_clamp : goal.decreases-run_clamp
decreases-run_clamp l = 4 * max (the_size l.value.now) (max (the_size l.low.now) (the_size l.high.now)) + 2

abbrev pub decreases-run_select : goal.decreases-run_select
decreases-run_select l = 4 * max (goal.size-run_select l) (max (the_size l.yes.now) (the_size l.no.now)) + 2

abbrev pub decreases-run_test : goal.decreases-run_test
decreases-run_test l = 4 * goal.size-run_test l + 1

abbrev pub decreases-run_call : goal.decreases-run_call
decreases-run_call l = 4 * goal.size-run_call l + 2

abbrev pub decreases-run_indices : goal.decreases-run_indices
decreases-run_indices l = 4 * goal.size-run_indices l + 1
