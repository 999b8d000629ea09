use Rattle.std.proofs.Common.{◌++◌, [], ◌∷◌, ap, sym, ◌∙◌, subst, arith}
use Rattle.std.specs.Prelude.{All}
use Rattle.std.proofs.lemmas.List.Elements.{All-push, All-same}
use Rattle.atomic_table.specs.Seated.{TableId}
use Rattle.board.specs.Layout.{pieces_of}
use Rattle.board.specs.Seats.{Place}
use Rattle.board.specs.Views.{HasFinished, IsIdle}
use Rattle.crew.specs.Workers.{seats_held, IsReady}
use Rattle.crew.specs.declared.workers.Worker.{Worker}
use Rattle.crew.proofs.Joining.{held_push, none_drawn}
use Rattle.crew.proofs.workers.hire.Goals as goal

pub loop-first-preserved : goal.loop-first-preserved
loop-first-preserved g c =
    let had = c.loop-first.invariant in
    let made = c.in-Ok.ensures.ok in
    let Fit : Worker → Type 0 = IsReady c.args.first.board (g.P.PrivateRuns.plan c.args.runs.now) (pieces_of g.J.Run.layout) (g.P.PrivateRuns.suffices c.args.runs.now) in
    let worker : Worker = record { seat = c.in-Ok.seat; desk = c.in_ok-desk.desk } in
    let fit : Fit worker = record {
      board = ap (λ (s : Place). s.board) made.0 ∙ had.board;
      idle = subst (λ (s : Place). IsIdle s.view) (sym made.0) had.idle;
      finished = subst (λ (s : Place). HasFinished s.view) (sym made.0) (none_drawn c.loop-first.first.view);
      scratch = c.in_ok-desk.ensures.scratch;
      room = c.in_ok-desk.ensures.room;
    } in
    record {
      board = ap (λ (s : Place). s.board) made.1 ∙ had.board;
      idle = subst (λ (s : Place). IsIdle s.view) (sym made.1) had.idle;
      finished = subst (λ (s : Place). HasFinished s.view) (sym made.1) had.finished;
      seats = omega (arith, ap (λ (s : Place). s.view.seats) made.1, ap (λ (s : Place). s.view.allowance) made.1, had.seats, had.allowance, c.loop-first-test.true, c.requires.count.1, c.len.ensures);
      held = omega (arith, ap seats_held c.in_ok-push.ensures.items, held_push c.loop-first.workers.items worker, ap (λ (s : Place). s.view.seats) made.0, had.held, c.in_ok-push.ensures.len);
      allowance = omega (arith, ap (λ (s : Place). s.view.allowance) made.1, had.allowance, c.in_ok-push.ensures.len, c.loop-first-test.true, c.requires.count.1, c.len.ensures);
      few = omega (arith, c.in_ok-push.ensures.len, c.loop-first-test.true, c.len.ensures);
      ready = All-same Fit c.push.new.self.items (c.loop-first.workers.items ++ worker ∷ []) c.in_ok-push.ensures.items (All-push Fit c.loop-first.workers.items worker had.ready fit);
    }

pub returns-clause-ready : goal.returns-clause-ready
returns-clause-ready g c =
    let had = c.loop-first.invariant in
    let Fit : TableId → Worker → Type 0 = λ t. IsReady t (g.P.PrivateRuns.plan c.args.runs.now) (pieces_of g.J.Run.layout) (g.P.PrivateRuns.suffices c.args.runs.now) in
    let worker : Worker = record { seat = c.loop-first.first; desk = c.in_ok-desk-2.desk } in
    let fit : Fit c.args.first.board worker = record {
      board = had.board;
      idle = had.idle;
      finished = had.finished;
      scratch = c.in_ok-desk-2.ensures.scratch;
      room = c.in_ok-desk-2.ensures.room;
    } in
    let all : All (Fit c.args.first.board) c.push-2.new.self.items =
    All-same (Fit c.args.first.board) c.push-2.new.self.items (c.loop-first.workers.items ++ worker ∷ []) c.in_ok-push-2.ensures.items (All-push (Fit c.args.first.board) c.loop-first.workers.items worker had.ready fit) in
    subst (λ (t : TableId). All (Fit t) c.push-2.new.self.items) (ap (λ (s : Place). s.board) c.requires.seat) all

pub returns-clause-seats : goal.returns-clause-seats
returns-clause-seats g c =
    let had = c.loop-first.invariant in
    let worker : Worker = record { seat = c.loop-first.first; desk = c.in_ok-desk-2.desk } in
    omega (arith, ap seats_held c.in_ok-push-2.ensures.items, held_push c.loop-first.workers.items worker, had.seats, had.held, had.allowance)
