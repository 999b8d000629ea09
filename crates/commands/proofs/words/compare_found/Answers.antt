use Rattle.std.proofs.Common.{sym}
use Rattle.commands.proofs.Named.{compare_as, nothing_to_compare}
use Rattle.commands.proofs.words.compare_found.Goals as goal

pub returns-in-None : goal.returns-in-None
returns-in-None c = rw (compare_as _, ← c.in-None.ensures) (sym (nothing_to_compare _ _ _))

pub returns-in_ok-schedules-in-Some : goal.returns-in_ok-schedules-in-Some
returns-in_ok-schedules-in-Some c = rw (compare_as _, ← c.in-Some.ensures, ← c.in_ok-schedules-in-Some.ensures.items) c.comparison_found.ensures
