use Rattle.std.proofs.Common.{◌≡◌, ◌++◌, take}
use Rattle.tree.specs.Term.{list_terms, indices}
use Rattle.printer.specs.Tokens.{row_tokens}
use Rattle.printer.proofs.expressions.+put.Given as goal

abbrev pub invariant-put_row-loop-i : goal.invariant-put_row-loop-i
invariant-put_row-loop-i l = l.tokens.items ≡ l.fn.tokens.items ++ row_tokens (indices (list_terms (take l.i l.at)))
