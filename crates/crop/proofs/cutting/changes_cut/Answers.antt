use Rattle.std.proofs.Common.{map, ap, ◌∙◌}
use Rattle.algo.specs.Parts.{change_of}
use Rattle.crop.specs.Piece.{change_in}
use Rattle.crop.proofs.Steps.{more_twice}
use Rattle.crop.proofs.cutting.changes_cut.Goals as goal

pub loop-update-preserved : goal.loop-update-preserved
loop-update-preserved c =
    ap (map change_of) c.in_ok-push.ensures.items
    ∙ more_twice change_of (change_in c.args.piece.now) change_of c.loop-update.made.items c.args.updates.now c.loop-update.update-index c.in_ok-change_cut.field-0 c.update-item.result
    c.loop-update-test.true c.update-item.is c.in_ok-change_cut.ensures c.loop-update.invariant
