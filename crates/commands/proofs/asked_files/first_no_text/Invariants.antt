use Rattle.commands.specs.Files.{SameFiles}
use Rattle.commands.proofs.asked_files.first_no_text.Given as goal

abbrev pub invariant-loop-name : goal.invariant-loop-name
invariant-loop-name g l = SameFiles (g.F.Files.contents l.fn.files) (g.F.Files.contents l.files)
