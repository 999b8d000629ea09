use Rattle.std.proofs.Common.{refl}
use Rattle.algo.specs.View.{algorithm_of}
use Rattle.crop.specs.Scene.{scene_of}
use Rattle.crop.specs.View.{cut_of}
use Rattle.crop.proofs.Sides.{rising_parts}
use Rattle.crop.proofs.Tiled.{rising_tile, tile_is}
use Rattle.crop.proofs.cropping.tile_inside.Goals as goal

pub closed_tile-requires-clause-part : goal.closed_tile-requires-clause-part
closed_tile-requires-clause-part c = rising_parts (scene_of c.args.scene.now).input_extents c.in_ok-cut.cut.asked.items c.in_ok-cut.cut.part.items c.in_ok-cut.ensures.parts

pub closed_tile-requires-clause-tile : goal.closed_tile-requires-clause-tile
closed_tile-requires-clause-tile c =
    rising_tile (scene_of c.args.scene.now) c.args.rect c.in_ok-cut.cut.tile.items c.is_scene.ensures c.requires c.in_ok-cut.ensures.tile

pub returns-clause-tile : goal.returns-clause-tile
returns-clause-tile c =
    tile_is (scene_of c.args.scene.now) (algorithm_of c.algo.result.now) (cut_of c.in_ok-cut.cut) c.args.rect (algorithm_of c.in_ok-tile.tile) c.in_ok-cut.cut.part.items
    c.algo.ensures c.is_scene.ensures c.requires c.in_ok-cut.ensures.tile c.in_ok-cut.ensures.parts
    c.in_ok-tile.ensures.kept c.in_ok-tile.ensures.cut refl
