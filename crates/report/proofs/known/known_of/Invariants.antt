use Rattle.std.proofs.Common.{◌≡◌, take}
use Rattle.report.specs.Known.{known_of}
use Rattle.report.proofs.known.known_of.Given as goal

abbrev pub invariant-loop-binding : goal.invariant-loop-binding
invariant-loop-binding l = l.found ≡ known_of (take l.binding-index l.known) l.symbol
