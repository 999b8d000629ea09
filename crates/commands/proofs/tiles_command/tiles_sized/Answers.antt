use Rattle.std.proofs.Common.{◌≡◌, ◌∙◌, ap, sym, inl, inr, refl, ℕ, List, Option, Some}
use Rattle.std.proofs.lemmas.Result.{IfErr-weaker, IfOk-weaker}
use Rattle.crop.specs.Scene.{scene_of}
use Rattle.crop.specs.Tiling.{tiling_of}
use Rattle.crop.specs.declared.tiling.Tiling.{Tiling}
use Rattle.commands.proofs.Cropped.{all_inside}
use Rattle.commands.specs.Crops.{IsPastLimit}
use Rattle.commands.specs.Tilings.{AreTiles, IsCutInto, IsUntiled}
use Rattle.commands.proofs.tiles_command.tiles_sized.Goals as goal

pub returns-in_default-clause-refused : goal.returns-in_default-clause-refused
returns-in_default-clause-refused c =
    let sized : List ℕ → Option Tiling = λ es. tiling_of es c.args.width c.args.height in
    inr (refl, ap sized (sym c.output_extents.ensures) ∙ sym c.new.ensures.tiles ∙ c.in_default.is)

pub tiles_of-requires-clause-inside : goal.tiles_of-requires-clause-inside
tiles_of-requires-clause-inside c =
    let a = scene_of c.args.scene.now in
    let sized : List ℕ → Option Tiling = λ es. tiling_of es c.args.width c.args.height in
    let is : sized a.output_extents ≡ Some c.in-Some.tiling = ap sized (sym c.output_extents.ensures) ∙ sym c.in-Some.ensures.tiles in
    let mosaic = c.tiles_are_mosaic.ensures a c.args.width c.args.height c.in-Some.tiling c.is_scene.ensures is in
    all_inside a.output_extents c.args.width c.args.height c.in-Some.tiling is mosaic.partition

pub returns-clause-tiles : goal.returns-clause-tiles
returns-clause-tiles c =
    let a = scene_of c.args.scene.now in
    let t = c.in-Some.tiling in
    let sized : List ℕ → Option Tiling = λ es. tiling_of es c.args.width c.args.height in
    let is : sized a.output_extents ≡ Some t = ap sized (sym c.output_extents.ensures) ∙ sym c.in-Some.ensures.tiles in
    IfOk-weaker c.tiles_of.result (AreTiles a t) (IsCutInto a c.args.width c.args.height) (λ tiles all. record {
      tiling = t;
      is_tiling = is;
      mosaic = c.tiles_are_mosaic.ensures a c.args.width c.args.height t c.is_scene.ensures is;
      all = all;
    }) c.tiles_of.ensures.tiles

pub returns-clause-refused : goal.returns-clause-refused
returns-clause-refused c = IfErr-weaker c.tiles_of.result IsPastLimit (IsUntiled (scene_of c.args.scene.now) c.args.width c.args.height) (λ fault h. inl h) c.tiles_of.ensures.refused
