use Rattle.std.proofs.Common.{◌≡◌, take}
use Rattle.algo.specs.Parts.{names_of}
use Rattle.crop.proofs.cutting.names_copied.Given as goal

abbrev pub invariant-loop-name : goal.invariant-loop-name
invariant-loop-name l = names_of l.copied.items ≡ names_of (take l.name-index l.names)
