use Rattle.std.proofs.Common.{◌∙◌, ap, refl, string_bytes, ◌++◌}
use Rattle.std.proofs.lemmas.Result.{err_from_is_err_and}
use Rattle.crop.specs.Scene.{scene_of}
use Rattle.commands.specs.Crops.{IsPastLimit}
use Rattle.commands.specs.Tilings.{line_told}
use Rattle.commands.proofs.Cropped.{past_limit}
use Rattle.commands.proofs.Ways.{told}
use Rattle.commands.proofs.tiles_command.add_tile.Goals as goal

pub returns-in_err-tile-clause-refused : goal.returns-in_err-tile-clause-refused
returns-in_err-tile-clause-refused c =
    let p = err_from_is_err_and c.from_residual.result c.from_residual.ensures.1 in
    told IsPastLimit c.from_residual.result p.0 _ p.1 p.2 (past_limit (scene_of c.args.scene.now) c.args.rect _ c.requires c.in_err-tile.ensures.refused)

pub returns-clause-added : goal.returns-clause-added
returns-clause-added c =
    let h = c.in_ok-tile.ensures.tile in record {
      line = record { rect = c.args.rect; part = h.part; kind = c.in_ok-kind.kind };
      is_line = record { text = string_bytes c.in_ok-tile.tile.text; same = refl; kind = c.in_ok-kind.ensures.kind; tile = h.text };
      list = c.in_ok-put_line.ensures ∙ ap (λ part. string_bytes c.args.tiles.now.list ++ line_told c.args.rect part c.in_ok-kind.kind) h.told;
      kinds = c.in_ok-kind.ensures.kept;
    }
