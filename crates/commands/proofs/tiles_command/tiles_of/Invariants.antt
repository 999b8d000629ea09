use Rattle.crop.specs.Scene.{scene_of}
use Rattle.commands.specs.Tilings.{AreFirst}
use Rattle.commands.proofs.tiles_command.tiles_of.Given as goal

abbrev pub invariant-loop-number : goal.invariant-loop-number
invariant-loop-number l = AreFirst (scene_of l.scene) l.tiling l.number l.tiles
