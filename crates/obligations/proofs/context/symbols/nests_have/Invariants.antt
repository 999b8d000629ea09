use Rattle.std.proofs.Common.{◌≡◌, false, take}
use Rattle.std.specs.Prelude.{◌||◌}
use Rattle.std.specs.List.{list_any}
use Rattle.soundness.specs.Obligations.{span_has, region_of}
use Rattle.soundness.specs.Outline.View.{outline_in}
use Rattle.obligations.proofs.context.symbols.nests_have.Given as goal

abbrev pub invariant-loop-nest : goal.invariant-loop-nest
invariant-loop-nest g l = list_any (λ u. list_any (span_has l.symbol) (region_of (outline_in l.judge.outlined.now) (g.B.Bounds.rules l.judge.bounds.now) u.before) || list_any (span_has l.symbol) (region_of (outline_in l.judge.outlined.now) (g.B.Bounds.rules l.judge.bounds.now) u.next)) (take l.nest-index l.nests) ≡ false
