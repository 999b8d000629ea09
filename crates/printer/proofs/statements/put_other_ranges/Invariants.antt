use Rattle.std.proofs.Common.{◌≡◌, ◌++◌, map, take}
use Rattle.std.specs.List.{flat_map}
use Rattle.algo.specs.Parts.{range_of}
use Rattle.printer.specs.Tokens.{behind_comma, range_tokens}
use Rattle.printer.proofs.statements.put_other_ranges.Given as goal

abbrev pub invariant-loop-range : goal.invariant-loop-range
invariant-loop-range l = l.tokens.items ≡ l.fn.tokens.items ++ flat_map (behind_comma range_tokens) (map range_of (take l.range-index l.ranges))
