use Rattle.std.proofs.Common.{◌-◌, length}
use Rattle.tree.proofs.Lexemes.{Kept}
use Rattle.tree.proofs.token.lexer.scan.Given as goal

abbrev pub invariant-loop-at : goal.invariant-loop-at
invariant-loop-at l = Kept l.text l.at l.found.items

abbrev pub decreases-loop-at : goal.decreases-loop-at
decreases-loop-at l = length l.text - l.at
