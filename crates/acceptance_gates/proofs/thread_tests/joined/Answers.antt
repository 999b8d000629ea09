use Rattle.std.proofs.Common.{◌≡◌, ◌∙◌, Some, ap}
use Rattle.std.proofs.lemmas.List.Elements.{All-pop}
use Rattle.atomic_table.specs.Seated.{TableId}
use Rattle.board.specs.Seats.{Place}
use Rattle.board.specs.Views.{IsIdle}
use Rattle.acceptance_gates.specs.declared.worker.Worker.{Worker}
use Rattle.acceptance_gates.proofs.thread_tests.joined.Goals as goal

-- its seat is of this board and has no piece to finish
abbrev IsBack : TableId → Worker → Type 0
IsBack table w = (w.seat.board ≡ table) × IsIdle w.seat.view

pub join-requires-clause-board : goal.join-requires-clause-board
join-requires-clause-board g c =
    let one = All-pop (IsBack c.args.board.now) c.args.workers.items c.pop.new.self.items (Some c.in_ok-last.last) c.in_ok-last.ensures.items c.requires in
    let two = All-pop (IsBack c.args.board.now) c.pop.new.self.items c.pop-2.new.self.items (Some c.in_ok-first.first) c.in_ok-first.ensures.items one.0 in
    (one.1.0, two.1.0)

pub join-requires-clause-idle : goal.join-requires-clause-idle
join-requires-clause-idle g c =
    let one = All-pop (IsBack c.args.board.now) c.args.workers.items c.pop.new.self.items (Some c.in_ok-last.last) c.in_ok-last.ensures.items c.requires in
    let two = All-pop (IsBack c.args.board.now) c.pop.new.self.items c.pop-2.new.self.items (Some c.in_ok-first.first) c.in_ok-first.ensures.items one.0 in
    (one.1.1, two.1.1)

pub returns : goal.returns
returns g c =
    let one = All-pop (IsBack c.args.board.now) c.args.workers.items c.pop.new.self.items (Some c.in_ok-last.last) c.in_ok-last.ensures.items c.requires in
    ap (λ (p : Place). p.board) c.join.ensures ∙ one.1.0
