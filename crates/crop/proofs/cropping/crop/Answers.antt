use Rattle.std.proofs.Common.{◌≡◌, ℕ, List, true, subst, rules}
use Rattle.algo.specs.View.{algorithm_of}
use Rattle.crop.specs.Inside.{IsInside}
use Rattle.crop.specs.Scene.{scene_of}
use Rattle.crop.proofs.Mosaic.{cut_pictures}
use Rattle.crop.proofs.cropping.crop.Goals as goal

pub tile_inside-requires : goal.tile_inside-requires
tile_inside-requires c =
    let yes : c.is_inside.result ≡ true = search rules in
    let P : List ℕ → Type 0 = λ es. IsInside es c.args.rect in
    subst P c.output_extents.ensures (c.is_inside.ensures.0 yes)

pub returns-clause-pictures : goal.returns-clause-pictures
returns-clause-pictures c =
    cut_pictures c.tile_inside.result (λ r. algorithm_of r.0) (λ r. r.1.items) (scene_of c.args.scene.now) c.args.rect c.is_scene.ensures c.tile_inside.ensures.tile
