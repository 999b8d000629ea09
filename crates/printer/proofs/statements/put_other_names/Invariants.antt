use Rattle.std.proofs.Common.{◌≡◌, ◌++◌, map, take}
use Rattle.std.specs.List.{flat_map}
use Rattle.algo.specs.Parts.{names_of}
use Rattle.printer.specs.Tokens.{behind_comma, one_name}
use Rattle.printer.proofs.statements.put_other_names.Given as goal

abbrev pub invariant-loop-name : goal.invariant-loop-name
invariant-loop-name l = l.tokens.items ≡ l.fn.tokens.items ++ flat_map (behind_comma one_name) (names_of (take l.name-index l.names))
