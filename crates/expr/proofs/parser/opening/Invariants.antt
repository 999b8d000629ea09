use Rattle.std.proofs.Common.{◌≡◌, ◌+◌, drop}
use Rattle.std.specs.List.{prefix_len}
use Rattle.expr.specs.Brackets.{is_opening}
use Rattle.expr.proofs.parser.opening.Given as goal

abbrev pub invariant-loop-i : goal.invariant-loop-i
invariant-loop-i l = prefix_len (λ x. is_opening x.token) l.tokens ≡ l.i + prefix_len (λ x. is_opening x.token) (drop l.i l.tokens)
