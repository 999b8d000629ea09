use Rattle.std.proofs.Common.{◌≡◌, length}
use Rattle.crew.specs.Stages.{AreFresh}
use Rattle.crew.proofs.stages.lists_for.Given as goal

abbrev pub invariant-loop-piece : goal.invariant-loop-piece
invariant-loop-piece g l = record { long : length l.lists.items ≡ l.piece; lists : AreFresh g.J.Run.layout 0 l.lists.items }
