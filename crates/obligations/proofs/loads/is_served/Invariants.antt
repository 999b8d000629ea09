use Rattle.std.proofs.Common.{◌≡◌, false, take}
use Rattle.std.specs.Prelude.{◌==◌, ◌&&◌}
use Rattle.std.specs.List.{list_any}
use Rattle.soundness.specs.Obligations.{serves}
use Rattle.soundness.specs.Outline.View.{outline_in}
use Rattle.obligations.specs.Context.Around.{nest_of}
use Rattle.obligations.proofs.loads.is_served.Given as goal

abbrev pub invariant-loop-nest : goal.invariant-loop-nest
invariant-loop-nest g l = list_any (λ u. (u.before == l.claim) && serves (outline_in l.judge.outlined.now) (g.B.Bounds.rules l.judge.bounds.now) l.reads.buffer l.reads.function.now l.reads.definition (nest_of u)) (take l.nest-index l.reads.updating.now) ≡ false
