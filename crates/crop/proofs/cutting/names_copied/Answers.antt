use Rattle.std.proofs.Common.{◌≡◌, ap, ◌∙◌, rules}
use Rattle.std.specs.Prelude.{string_bytes}
use Rattle.algo.specs.Parts.{names_of}
use Rattle.crop.proofs.Steps.{more_mapped}
use Rattle.crop.proofs.cutting.names_copied.Goals as goal

pub loop-name-preserved : goal.loop-name-preserved
loop-name-preserved c =
    let same : string_bytes c.in_ok-clone.field-0 ≡ string_bytes c.name-item.result = search rules in
    ap names_of c.in_ok-push.ensures.items
    ∙ more_mapped string_bytes string_bytes c.loop-name.copied.items c.args.names.now c.loop-name.name-index c.in_ok-clone.field-0 c.name-item.result
    c.loop-name-test.true c.name-item.is same c.loop-name.invariant
