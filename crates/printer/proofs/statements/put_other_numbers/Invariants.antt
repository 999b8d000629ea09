use Rattle.std.proofs.Common.{◌≡◌, ◌++◌, map, take}
use Rattle.std.specs.List.{flat_map}
use Rattle.printer.specs.Tokens.{behind_comma, one_number}
use Rattle.printer.proofs.statements.put_other_numbers.Given as goal

abbrev pub invariant-loop-number : goal.invariant-loop-number
invariant-loop-number l = l.tokens.items ≡ l.fn.tokens.items ++ flat_map (behind_comma one_number) (take l.number-index l.numbers)
