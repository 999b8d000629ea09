use Rattle.std.proofs.Common.{◌∙◌, ap}
use Rattle.board.specs.Seats.{task}
use Rattle.crew.proofs.Filling.{no_puts}
use Rattle.crew.proofs.worker.complete.Goals as goal

pub loop-place-init : goal.loop-place-init
loop-place-init g c = record { seat = no_puts c.args.seat.now (c.requires.ticket.1.1 ∙ c.requires.fresh); ticket = ap (λ n. task c.args.ticket.piece n) c.requires.fresh; held = c.requires.ticket }
