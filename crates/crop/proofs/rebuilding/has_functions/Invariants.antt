use Rattle.std.proofs.Common.{◌≡◌, map, take}
use Rattle.algo.specs.Parts.{function_of}
use Rattle.algo.specs.View.{algorithm_of}
use Rattle.crop.proofs.rebuilding.has_functions.Given as goal

-- the functions before are the same
abbrev pub invariant-loop-number : goal.invariant-loop-number
invariant-loop-number l = take l.number (algorithm_of l.read).functions ≡ map function_of (take l.number l.functions)
