use denote.RattleType.{RattleType}
use denote.Param.Send.{IsSync, sendable}
use Rattle.std.proofs.Crossing.{crosses}
use Rattle.crew.proofs.Shared.{checked_sync, inputs_sync}
use Rattle.acceptance_gates.specs.contracts.thread_tests.work_both.{P-row}
use Rattle.acceptance_gates.proofs.thread_tests.work_pieces.Lts.{arg-0-0, arg-0-1, arg-0-2, arg-0-3}
use Rattle.acceptance_gates.proofs.thread_tests.work_pieces.Goals as goal

-- What is shared among workers may be a value of a type parameter.
as_parameter : (a b c d : RattleType) → IsSync b → IsSync (P-row a b c d)
as_parameter a b c d y = search (sendable, crosses, y) depth 20

pub work_both-requires-sync-P : goal.work_both-requires-sync-P
work_both-requires-sync-P g c κs within =
    let shared : RattleType = arg-0-1 g.row.J g.row.R g.row.G g.J.laws g.R.laws g.G.laws g.J.Run g.J.Run-dict g.R.Threads g.R.Threads-dict g.R.Wait g.R.Wait-dict g.G.Gate g.G.Gate-dict κs in
    let pieces : IsSync shared = search (sendable, crosses, checked_sync, inputs_sync) depth 20 in
    as_parameter (arg-0-0 g.row.J g.row.R g.row.G g.J.laws g.R.laws g.G.laws g.J.Run g.J.Run-dict g.R.Threads g.R.Threads-dict g.R.Wait g.R.Wait-dict g.G.Gate g.G.Gate-dict κs)
    (arg-0-1 g.row.J g.row.R g.row.G g.J.laws g.R.laws g.G.laws g.J.Run g.J.Run-dict g.R.Threads g.R.Threads-dict g.R.Wait g.R.Wait-dict g.G.Gate g.G.Gate-dict κs)
    (arg-0-2 g.row.J g.row.R g.row.G g.J.laws g.R.laws g.G.laws g.J.Run g.J.Run-dict g.R.Threads g.R.Threads-dict g.R.Wait g.R.Wait-dict g.G.Gate g.G.Gate-dict κs)
    (arg-0-3 g.row.J g.row.R g.row.G g.J.laws g.R.laws g.G.laws g.J.Run g.J.Run-dict g.R.Threads g.R.Threads-dict g.R.Wait g.R.Wait-dict g.G.Gate g.G.Gate-dict κs) pieces
