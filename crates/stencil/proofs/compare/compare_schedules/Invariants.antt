use Rattle.std.proofs.Common.{◌≡◌, All, false, map, take}
use Rattle.algo.specs.View.{algorithm_of}
use Rattle.stencil.specs.Compares.{IsLegalFile}
use Rattle.commands.specs.Files.{SameFiles}
use Rattle.stencil.proofs.compare.compare_schedules.Given as goal

abbrev pub invariant-loop-name : goal.invariant-loop-name
invariant-loop-name g l =
    (l.differs ≡ false) × SameFiles (g.F.Files.contents l.fn.files) (g.F.Files.contents l.files)
    × All (IsLegalFile (g.F.Files.contents l.fn.files) (algorithm_of l.baseline.algo.now)) (take l.name-index (map (λ name. name.now) l.names))
