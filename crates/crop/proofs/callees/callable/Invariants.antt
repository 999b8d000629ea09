use Rattle.std.proofs.Common.{◌≡◌, drop, take}
use Rattle.meaning.specs.Conditions.{callable}
use Rattle.algo.specs.View.{algorithm_of}
use Rattle.crop.proofs.callees.callable.Given as goal

-- what is left calls the same by the name
abbrev pub invariant-loop-number : goal.invariant-loop-number
invariant-loop-number l =
    callable (algorithm_of l.algo) (drop l.number (take l.count (algorithm_of l.algo).functions)) l.name
    ≡ callable (algorithm_of l.algo) (take l.count (algorithm_of l.algo).functions) l.name
