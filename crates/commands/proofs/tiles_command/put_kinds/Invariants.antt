use Rattle.std.proofs.Common.{map}
use Rattle.std.specs.Prelude.{string_bytes}
use Rattle.commands.proofs.Tiled.{ArePutUpTo}
use Rattle.commands.proofs.tiles_command.put_kinds.Given as goal

abbrev pub invariant-loop-kind : goal.invariant-loop-kind
invariant-loop-kind g l = ArePutUpTo (g.F.Files.contents l.fn.files) (g.F.Files.contents l.files) l.folder (map string_bytes l.kinds) l.kind
