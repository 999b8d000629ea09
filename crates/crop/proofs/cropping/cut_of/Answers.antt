use Rattle.std.proofs.Common.{sym, subst}
use Rattle.crop.specs.Inside.{AreSmall}
use Rattle.crop.specs.Scene.{scene_of}
use Rattle.crop.proofs.Sides.{extents_small, small_rect}
use Rattle.crop.proofs.cropping.cut_of.Goals as goal

pub tile_of-requires-clause-rect : goal.tile_of-requires-clause-rect
tile_of-requires-clause-rect c =
    let es = (scene_of c.args.scene.now).output_extents in
    small_rect es c.args.rect c.requires (extents_small es c.is_scene.ensures.output_extents)

pub tile_of-requires-clause-extents : goal.tile_of-requires-clause-extents
tile_of-requires-clause-extents c = subst AreSmall (sym c.output_extents.ensures) (extents_small (scene_of c.args.scene.now).output_extents c.is_scene.ensures.output_extents)

pub part_of-requires : goal.part_of-requires
part_of-requires c = subst AreSmall (sym c.input_extents-2.ensures) (extents_small (scene_of c.args.scene.now).input_extents c.is_scene.ensures.input_extents)
