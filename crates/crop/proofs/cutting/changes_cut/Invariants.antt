use Rattle.std.proofs.Common.{◌≡◌, map, take}
use Rattle.algo.specs.Parts.{change_of}
use Rattle.crop.specs.Piece.{change_in}
use Rattle.crop.proofs.cutting.changes_cut.Given as goal

abbrev pub invariant-loop-update : goal.invariant-loop-update
invariant-loop-update l = map change_of l.made.items ≡ map (change_in l.piece) (map change_of (take l.update-index l.updates))
