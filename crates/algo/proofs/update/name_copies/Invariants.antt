use Rattle.std.proofs.Common.{◌≡◌, take, vec_len}
use Rattle.algo.specs.Parts.{names_of}
use Rattle.algo.proofs.update.name_copies.Given as goal

abbrev pub invariant-loop-name : goal.invariant-loop-name
invariant-loop-name l = (names_of l.copies.items ≡ names_of (take l.name-index l.names)) × (vec_len l.copies ≡ l.name-index)
