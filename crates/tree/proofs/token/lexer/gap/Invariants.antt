use Rattle.std.proofs.Common.{◌≡◌, ◌+◌, drop}
use Rattle.tree.specs.Token.Lexical.{gap, gap_from}
use Rattle.tree.proofs.token.lexer.gap.Given as goal

abbrev pub invariant-loop-i : goal.invariant-loop-i
invariant-loop-i l = gap l.bytes ≡ l.i + gap_from l.in_comment (drop l.i l.bytes)
