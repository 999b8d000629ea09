use Rattle.std.proofs.Common.{arith}
use Rattle.std.proofs.lemmas.List.{length-map}
use Rattle.std.specs.Prelude.{option_map}
use Rattle.crop.specs.View.{kept_of}
use Rattle.crop.proofs.cropping.read_tile.Goals as goal

pub functions_cut-requires : goal.functions_cut-requires
functions_cut-requires c =
    let each = c.requires.each in
    omega (arith, each, length-map c.args.cut.now.kept.items (option_map kept_of))
