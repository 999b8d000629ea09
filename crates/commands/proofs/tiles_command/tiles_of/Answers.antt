use Rattle.std.proofs.Common.{◌<◌, subst, sym}
use Rattle.crop.specs.Inside.{IsInside}
use Rattle.crop.specs.Scene.{scene_of}
use Rattle.commands.proofs.Tiled.{first_next}
use Rattle.commands.proofs.tiles_command.tiles_of.Goals as goal

pub add_tile-requires : goal.add_tile-requires
add_tile-requires c =
    let a = scene_of c.args.scene.now in
    let known = subst (λ n. c.loop-number.number < n) c.count-number-end.ensures c.loop-number-test.true in
    subst (IsInside a.output_extents) (sym c.rect.ensures) (c.requires.inside c.loop-number.number known)

pub loop-number-preserved : goal.loop-number-preserved
loop-number-preserved c =
    first_next (scene_of c.args.scene.now) c.args.tiling c.loop-number.number c.rect.result _ _ c.rect.ensures c.loop-number.invariant c.in_ok-add_tile.ensures.added
