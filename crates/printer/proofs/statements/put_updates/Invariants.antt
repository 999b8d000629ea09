use Rattle.std.proofs.Common.{◌≡◌, ◌++◌, map, take}
use Rattle.std.specs.List.{flat_map}
use Rattle.algo.specs.Parts.{change_of}
use Rattle.printer.specs.Tokens.{change_tokens}
use Rattle.printer.proofs.statements.put_updates.Given as goal

abbrev pub invariant-loop-update : goal.invariant-loop-update
invariant-loop-update l = l.tokens.items ≡ l.fn.tokens.items ++ flat_map (change_tokens l.name) (map change_of (take l.update-index l.updates))
