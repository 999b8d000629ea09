use Rattle.std.proofs.Common.{◌≡◌, ◌++◌, replicate, string_bytes}
use Rattle.report.proofs.table.put_gap.Given as goal

abbrev pub invariant-loop : goal.invariant-loop
invariant-loop l = string_bytes l.table ≡ string_bytes l.initial.table ++ replicate l.counter 32
