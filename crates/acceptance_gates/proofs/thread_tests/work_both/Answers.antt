use Rattle.std.proofs.Common.{◌≡◌, sym, subst, arith}
use contract.Lifetimes.{Lfts}
use denote.Ref.{NamedLft}
use denote.Param.{param}
use denote.Exit.{no}
use denote.Param.Send.{IsSend, IsSync, arg_send, param_send, sendable}
use Rattle.std.proofs.Crossing.{crosses}
use Rattle.board.proofs.seat.BoardSeat.TheSendSync as seat
use Rattle.crew.proofs.Shared.{desk_field_send}
use Rattle.acceptance_gates.specs.contracts.worker.Worker as Worker
use Rattle.acceptance_gates.specs.contracts.thread_tests.work_both.{J-row, P-row, R-row, G-row}
use Rattle.atomic_table.specs.Seated.{TableId}
use Rattle.board.specs.Layout.{Layout}
use Rattle.board.specs.Views.{IsIdle}
use Rattle.crew.specs.declared.values.Pieces.{Pieces}
use Rattle.crew.specs.Crews.{IsDeskFor}
use Rattle.acceptance_gates.specs.declared.worker.Worker.{Worker as WorkerSeen}
use Rattle.acceptance_gates.proofs.thread_tests.work_both.Given.{Over}
use Rattle.acceptance_gates.proofs.thread_tests.work_both.Lts.{impl_arg-0-0, impl_arg-0-1, impl_arg-0-2, impl_arg-0-3}
use Rattle.acceptance_gates.proofs.thread_tests.work_both.Goals as goal

-- its seat is of this board and has no piece to finish, and its desk has all the memory that it takes
abbrev IsReady : TableId → Layout → Pieces → WorkerSeen → Type 0
IsReady table layout p w = (w.seat.board ≡ table) × (IsIdle w.seat.view × IsDeskFor layout p w.desk)

-- its seat is of this board and has no piece to finish
abbrev IsBack : TableId → WorkerSeen → Type 0
IsBack table w = (w.seat.board ≡ table) × IsIdle w.seat.view

-- Workers may be sent to threads.
worker_send : (κ : NamedLft) → IsSend (Worker.the_row κ)
worker_send κ = search (sendable, crosses, seat.the_send, desk_field_send) depth 40 fits 100000

sent_run : (g : Over) (κs : Lfts 11) → IsSend (J-row g.row.J g.row.P g.row.R g.row.G) → IsSend (param 0 (impl_arg-0-0 g.row.J g.row.P g.row.R g.row.G g.J.laws g.P.laws g.R.laws g.G.laws g.J.Run g.J.Run-dict g.P.Held g.P.Held-dict g.R.Threads g.R.Threads-dict g.R.Wait g.R.Wait-dict g.G.Gate g.G.Gate-dict κs))
sent_run g κs h = param_send 0 _ (arg_send _ no _ h)

shared_run : (g : Over) (κs : Lfts 11) → IsSync (J-row g.row.J g.row.P g.row.R g.row.G) → IsSync (param 0 (impl_arg-0-0 g.row.J g.row.P g.row.R g.row.G g.J.laws g.P.laws g.R.laws g.G.laws g.J.Run g.J.Run-dict g.P.Held g.P.Held-dict g.R.Threads g.R.Threads-dict g.R.Wait g.R.Wait-dict g.G.Gate g.G.Gate-dict κs))
shared_run g κs h = search (sendable, crosses, h) depth 20

shared_pieces : (g : Over) (κs : Lfts 11) → IsSync (P-row g.row.J g.row.P g.row.R g.row.G) → IsSync (param 1 (impl_arg-0-1 g.row.J g.row.P g.row.R g.row.G g.J.laws g.P.laws g.R.laws g.G.laws g.J.Run g.J.Run-dict g.P.Held g.P.Held-dict g.R.Threads g.R.Threads-dict g.R.Wait g.R.Wait-dict g.G.Gate g.G.Gate-dict κs))
shared_pieces g κs h = search (sendable, crosses, h) depth 20

shared_runtime : (g : Over) (κs : Lfts 11) → IsSync (R-row g.row.J g.row.P g.row.R g.row.G) → IsSync (param 2 (impl_arg-0-2 g.row.J g.row.P g.row.R g.row.G g.J.laws g.P.laws g.R.laws g.G.laws g.J.Run g.J.Run-dict g.P.Held g.P.Held-dict g.R.Threads g.R.Threads-dict g.R.Wait g.R.Wait-dict g.G.Gate g.G.Gate-dict κs))
shared_runtime g κs h = search (sendable, crosses, h) depth 20

shared_gate : (g : Over) (κs : Lfts 11) → IsSync (G-row g.row.J g.row.P g.row.R g.row.G) → IsSync (param 3 (impl_arg-0-3 g.row.J g.row.P g.row.R g.row.G g.J.laws g.P.laws g.R.laws g.G.laws g.J.Run g.J.Run-dict g.P.Held g.P.Held-dict g.R.Threads g.R.Threads-dict g.R.Wait g.R.Wait-dict g.G.Gate g.G.Gate-dict κs))
shared_gate g κs h = search (sendable, crosses, h) depth 20

pub for_each_mut-requires-send-T : goal.for_each_mut-requires-send-T
for_each_mut-requires-send-T g c κs within = search (sendable, crosses, worker_send) depth 20

pub for_each_mut-requires-clause-accepts : goal.for_each_mut-requires-clause-accepts
for_each_mut-requires-clause-accepts g c = λ κs within i p lt e. (
  (c.requires.pieces, subst (IsReady c.args.board.now g.J.Run.layout (g.P.Held.held c.args.shared.now)) (sym e) (c.requires.ready i p.now lt)),
  (
    sent_run g κs c.type_bounds.send-J,
    shared_run g κs c.type_bounds.sync-J,
    shared_pieces g κs c.type_bounds.sync-P,
    shared_runtime g κs c.type_bounds.sync-R,
    shared_gate g κs c.type_bounds.sync-G,
  ),
)

pub returns-clause-back : goal.returns-clause-back
returns-clause-back g c = λ k d lt.
    let at = (c.for_each_mut.ensures k d (omega (arith, lt))).1 in
    subst (IsBack c.args.board.now) at.left at.call
