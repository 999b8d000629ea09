use Rattle.std.proofs.Common.{drop}
use Rattle.audit.proofs.Blocks.{IsRest}
use Rattle.audit.proofs.leaving.+finding.Given as goal

abbrev pub invariant-store_among-loop-stmt : goal.invariant-store_among-loop-stmt
invariant-store_among-loop-stmt l = IsRest l.line l.begun l.begin l.all (drop l.stmt-index l.all)
