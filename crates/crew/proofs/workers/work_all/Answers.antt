use Rattle.std.proofs.Common.{◌∙◌, ap, sym, subst, arith}
use contract.Lifetimes.{Lfts}
use denote.Param.{param}
use denote.Exit.{no}
use denote.Param.Send.{IsSend, IsSync, arg_send, param_send, sendable}
use Rattle.std.proofs.Crossing.{crosses}
use Rattle.board.specs.Layout.{pieces_of}
use Rattle.crew.specs.contracts.workers.work_all.{J-row, P-row, R-row, G-row}
use Rattle.crew.proofs.Shared.{worker_send}
use Rattle.crew.specs.Workers.{HasDrawnAll, IsReady}
use Rattle.crew.specs.declared.workers.Worker.{Worker}
use Rattle.crew.proofs.Joining.{same_held}
use Rattle.crew.proofs.workers.work_all.Given.{Over}
use Rattle.crew.proofs.workers.work_all.Lts.{impl_arg-0-0, impl_arg-0-1, impl_arg-0-2, impl_arg-0-3}
use Rattle.crew.proofs.workers.work_all.Goals as goal

sent_run : (g : Over) (κs : Lfts 11) → IsSend (J-row g.row.J g.row.P g.row.R g.row.G) → IsSend (param 0 (impl_arg-0-0 g.row.J g.row.P g.row.R g.row.G g.J.laws g.P.laws g.R.laws g.G.laws g.J.Run g.J.Run-dict g.P.PrivateRuns g.P.PrivateRuns-dict g.R.Threads g.R.Threads-dict g.R.Wait g.R.Wait-dict g.G.Gate g.G.Gate-dict κs))
sent_run g κs h = param_send 0 _ (arg_send _ no _ h)

shared_run : (g : Over) (κs : Lfts 11) → IsSync (J-row g.row.J g.row.P g.row.R g.row.G) → IsSync (param 0 (impl_arg-0-0 g.row.J g.row.P g.row.R g.row.G g.J.laws g.P.laws g.R.laws g.G.laws g.J.Run g.J.Run-dict g.P.PrivateRuns g.P.PrivateRuns-dict g.R.Threads g.R.Threads-dict g.R.Wait g.R.Wait-dict g.G.Gate g.G.Gate-dict κs))
shared_run g κs h = search (sendable, crosses, h) depth 20

shared_pieces : (g : Over) (κs : Lfts 11) → IsSync (P-row g.row.J g.row.P g.row.R g.row.G) → IsSync (param 1 (impl_arg-0-1 g.row.J g.row.P g.row.R g.row.G g.J.laws g.P.laws g.R.laws g.G.laws g.J.Run g.J.Run-dict g.P.PrivateRuns g.P.PrivateRuns-dict g.R.Threads g.R.Threads-dict g.R.Wait g.R.Wait-dict g.G.Gate g.G.Gate-dict κs))
shared_pieces g κs h = search (sendable, crosses, h) depth 20

shared_runtime : (g : Over) (κs : Lfts 11) → IsSync (R-row g.row.J g.row.P g.row.R g.row.G) → IsSync (param 2 (impl_arg-0-2 g.row.J g.row.P g.row.R g.row.G g.J.laws g.P.laws g.R.laws g.G.laws g.J.Run g.J.Run-dict g.P.PrivateRuns g.P.PrivateRuns-dict g.R.Threads g.R.Threads-dict g.R.Wait g.R.Wait-dict g.G.Gate g.G.Gate-dict κs))
shared_runtime g κs h = search (sendable, crosses, h) depth 20

shared_gate : (g : Over) (κs : Lfts 11) → IsSync (G-row g.row.J g.row.P g.row.R g.row.G) → IsSync (param 3 (impl_arg-0-3 g.row.J g.row.P g.row.R g.row.G g.J.laws g.P.laws g.R.laws g.G.laws g.J.Run g.J.Run-dict g.P.PrivateRuns g.P.PrivateRuns-dict g.R.Threads g.R.Threads-dict g.R.Wait g.R.Wait-dict g.G.Gate g.G.Gate-dict κs))
shared_gate g κs h = search (sendable, crosses, h) depth 20

pub for_each_mut-requires-send-T : goal.for_each_mut-requires-send-T
for_each_mut-requires-send-T g c κs within = search (sendable, crosses, worker_send) depth 20

pub for_each_mut-requires-clause-accepts : goal.for_each_mut-requires-clause-accepts
for_each_mut-requires-clause-accepts g c = λ κs within i p lt e. (
  (c.requires.runs, subst (IsReady c.args.board.now (g.P.PrivateRuns.plan c.args.runs.now) (pieces_of g.J.Run.layout) (g.P.PrivateRuns.suffices c.args.runs.now)) (sym e) (c.requires.ready i p.now lt)),
  (
    sent_run g κs c.type_bounds.send-J,
    shared_run g κs c.type_bounds.sync-J,
    shared_pieces g κs c.type_bounds.sync-P,
    shared_runtime g κs c.type_bounds.sync-R,
    shared_gate g κs c.type_bounds.sync-G,
  ),
)

pub returns-clause-drawn : goal.returns-clause-drawn
returns-clause-drawn g c = λ k d lt.
    let at = (c.for_each_mut.ensures k d (omega (arith, lt))).1 in
    subst (HasDrawnAll c.args.board.now) at.left at.call.0

pub returns-clause-seats : goal.returns-clause-seats
returns-clause-seats g c = same_held c.for_each_mut.new.s c.args.workers.now c.for_each_mut.auto.s (λ k d lt.
    let at = (c.for_each_mut.ensures k d (omega (arith, lt))).1 in
    sym (ap (λ (w : Worker). w.seat.view.seats) at.left) ∙ at.call.1 ∙ ap (λ (w : Worker). w.seat.view.seats) at.argument_is)
