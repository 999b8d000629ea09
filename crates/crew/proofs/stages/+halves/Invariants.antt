use Rattle.std.proofs.Common.{◌+◌, ◌*◌, ◌-◌, length}
use Rattle.crew.proofs.stages.+halves.Given as goal

abbrev pub decreases-work_together : goal.decreases-work_together
decreases-work_together g l = 4 * length l.desks.now

abbrev pub decreases-work_halves : goal.decreases-work_halves
decreases-work_halves g l = 4 * (length l.some_desks.now + length l.other_desks.now) - 1

abbrev pub decreases-work_halves-front : goal.decreases-work_halves-front
decreases-work_halves-front g l = 4 * length l.some_desks.now + 1

abbrev pub decreases-work_halves-back : goal.decreases-work_halves-back
decreases-work_halves-back g l = 4 * length l.other_desks.now + 1
