use Rattle.std.proofs.Common.{◌≡◌, drop}
use Rattle.std.specs.List.{list_all}
use Rattle.audit.specs.Verdict.Left.{is_left}
use Rattle.audit.proofs.leaving.are_left.Given as goal

abbrev pub invariant-loop-dimension : goal.invariant-loop-dimension
invariant-loop-dimension l = list_all is_left (drop l.dimension-index l.places) ≡ list_all is_left l.places
