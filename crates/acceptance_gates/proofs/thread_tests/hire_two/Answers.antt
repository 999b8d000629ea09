use Rattle.std.proofs.Common.{◌≡◌, ◌∙◌, ◌++◌, List, [], ◌∷◌, sym, ap, subst}
use Rattle.std.specs.Prelude.{All}
use Rattle.std.proofs.lemmas.List.Elements.{All-nil, All-push, All-same}
use Rattle.atomic_table.specs.Seated.{TableId}
use Rattle.board.specs.Layout.{Layout}
use Rattle.board.specs.Seats.{Place}
use Rattle.board.specs.Views.{IsIdle}
use Rattle.crew.specs.Crews.{IsDeskFor}
use Rattle.crew.specs.declared.values.Pieces.{Pieces}
use Rattle.acceptance_gates.specs.declared.worker.Worker.{Worker}
use Rattle.acceptance_gates.proofs.thread_tests.hire_two.Goals as goal

-- its seat is of this board and has no piece to finish, and its desk has all the memory that it takes
abbrev IsReady : TableId → Layout → Pieces → Worker → Type 0
IsReady table layout p w = (w.seat.board ≡ table) × (IsIdle w.seat.view × IsDeskFor layout p w.desk)

pub returns : goal.returns
returns g c =
    let made = c.in-Ok.ensures.ok in
    let Fit : Worker → Type 0 = IsReady c.args.board.now g.J.Run.layout c.args.pieces.now in
    let one : Worker = record { seat = c.in-Ok.second; desk = c.desk_of-one.result } in
    let two : Worker = record { seat = c.seat.new.seat; desk = c.desk_of-two.result } in
    let fit_one : Fit one = (ap (λ (s : Place). s.board) made.0 ∙ c.requires.board, (subst (λ (s : Place). IsIdle s.view) (sym made.0) c.requires.idle, c.desk_of-one.ensures)) in
    let fit_two : Fit two = (ap (λ (s : Place). s.board) made.1 ∙ c.requires.board, (subst (λ (s : Place). IsIdle s.view) (sym made.1) c.requires.idle, c.desk_of-two.ensures)) in
    let none : List Worker = c.new-workers.result.items in
    let pushed : All Fit (none ++ one ∷ []) = All-push Fit none one (All-same Fit none [] c.new-workers.ensures.items (All-nil Fit)) fit_one in
    let first : All Fit c.hire.new.workers.items = All-same Fit c.hire.new.workers.items (none ++ one ∷ []) c.hire.ensures pushed in
    All-same Fit c.hire-2.new.workers.items (c.hire.new.workers.items ++ two ∷ []) c.hire-2.ensures (All-push Fit c.hire.new.workers.items two first fit_two)
