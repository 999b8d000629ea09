use Rattle.std.proofs.Common.{arith}
use denote.Param.Send.{IsSync, sendable}
use Rattle.std.proofs.Crossing.{crosses}
use Rattle.crew.proofs.Shared.{as_parameter_in_stages, checked_sync, inputs_sync}
use Rattle.crew.proofs.stages.filled_in_stages.Lts.{arg-2-0, arg-2-1, arg-2-2, arg-2-3}
use Rattle.crew.proofs.stages.filled_in_stages.Goals as goal

pub with_next-sheet-requires-sync-P : goal.with_next-sheet-requires-sync-P
with_next-sheet-requires-sync-P g c κs within =
    let pieces : IsSync (arg-2-1 g.row.J g.row.R g.row.G g.J.laws g.R.laws g.G.laws g.J.Run g.J.Run-dict g.R.Threads g.R.Threads-dict g.R.Wait g.R.Wait-dict g.G.Gate g.G.Gate-dict κs) =
    search (sendable, crosses, checked_sync, inputs_sync) depth 20 in
    as_parameter_in_stages (arg-2-0 g.row.J g.row.R g.row.G g.J.laws g.R.laws g.G.laws g.J.Run g.J.Run-dict g.R.Threads g.R.Threads-dict g.R.Wait g.R.Wait-dict g.G.Gate g.G.Gate-dict κs)
    (arg-2-1 g.row.J g.row.R g.row.G g.J.laws g.R.laws g.G.laws g.J.Run g.J.Run-dict g.R.Threads g.R.Threads-dict g.R.Wait g.R.Wait-dict g.G.Gate g.G.Gate-dict κs)
    (arg-2-2 g.row.J g.row.R g.row.G g.J.laws g.R.laws g.G.laws g.J.Run g.J.Run-dict g.R.Threads g.R.Threads-dict g.R.Wait g.R.Wait-dict g.G.Gate g.G.Gate-dict κs)
    (arg-2-3 g.row.J g.row.R g.row.G g.J.laws g.R.laws g.G.laws g.J.Run g.J.Run-dict g.R.Threads g.R.Threads-dict g.R.Wait g.R.Wait-dict g.G.Gate g.G.Gate-dict κs) pieces

pub returns : goal.returns
returns g c j lt = c.loop-from.invariant.put j (omega (arith, lt, c.loop-from-test.false, c.pieces-count.ensures.count))
