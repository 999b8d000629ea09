use denote.Param.Send.{IsSync, sendable}
use Rattle.std.proofs.Crossing.{crosses}
use Rattle.crew.proofs.Shared.{as_parameter, checked_sync, inputs_sync}
use Rattle.crew.proofs.prepared.work_on.Lts.{arg-1-0, arg-1-1, arg-1-2, arg-1-3}
use Rattle.crew.proofs.prepared.work_on.Goals as goal

pub work_all-requires-sync-P : goal.work_all-requires-sync-P
work_all-requires-sync-P g c κs within =
    let pieces : IsSync (arg-1-1 g.row.J g.row.R g.row.G g.J.laws g.R.laws g.G.laws g.J.Run g.J.Run-dict g.R.Threads g.R.Threads-dict g.R.Wait g.R.Wait-dict g.G.Gate g.G.Gate-dict κs) = search (sendable, crosses, checked_sync, inputs_sync) depth 20 in
    as_parameter (arg-1-0 g.row.J g.row.R g.row.G g.J.laws g.R.laws g.G.laws g.J.Run g.J.Run-dict g.R.Threads g.R.Threads-dict g.R.Wait g.R.Wait-dict g.G.Gate g.G.Gate-dict κs)
    (arg-1-1 g.row.J g.row.R g.row.G g.J.laws g.R.laws g.G.laws g.J.Run g.J.Run-dict g.R.Threads g.R.Threads-dict g.R.Wait g.R.Wait-dict g.G.Gate g.G.Gate-dict κs)
    (arg-1-2 g.row.J g.row.R g.row.G g.J.laws g.R.laws g.G.laws g.J.Run g.J.Run-dict g.R.Threads g.R.Threads-dict g.R.Wait g.R.Wait-dict g.G.Gate g.G.Gate-dict κs)
    (arg-1-3 g.row.J g.row.R g.row.G g.J.laws g.R.laws g.G.laws g.J.Run g.J.Run-dict g.R.Threads g.R.Threads-dict g.R.Wait g.R.Wait-dict g.G.Gate g.G.Gate-dict κs) pieces
