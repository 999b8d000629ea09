use Rattle.std.proofs.Common.{◌<◌, All, subst, sym}
use Rattle.commands.proofs.draw_command.crew_after.Goals as goal

pub replay-requires-clause-workers : goal.replay-requires-clause-workers
replay-requires-clause-workers g c = subst (λ workers. All (λ worker. worker < 64) workers) (sym c.as_slice.ensures.value) c.in_ok-order.ensures.order.2.known
