use Rattle.std.proofs.Common.{◌≡◌, ◌<◌, ◌^◌, ℕ, length, sym, subst, rules}
use Rattle.std.specs.Prelude.{slice_get}
use Rattle.std.proofs.lemmas.Result.{IfOk-weaker}
use Rattle.plan.specs.Plan.{Plan}
use Rattle.plan.specs.Certificate.Cells.{pieces}
use Rattle.plan.specs.View.{group_of}
use Rattle.checked_plan.specs.View.{certificate_checked, plan_checked}
use Rattle.report.specs.Costs.{capped, up_to}
use Rattle.report.specs.Deeds.{deeds_in}
use Rattle.report.specs.Grid.{IsPieceTally}
use Rattle.report.proofs.Pieces.{counts_by, piece_here}
use Rattle.report.proofs.Sums.{capped_is}
use Rattle.report.proofs.costs.count_in_piece.Goals as goal

pub place_of-place-requires : goal.place_of-place-requires
place_of-place-requires c = subst (λ (p : Plan). c.args.piece < length (pieces p)) (sym c.plan-plan.ensures) c.requires

pub returns : goal.returns
returns c =
    let x = c.args.checked.now in
    let d = c.args.deed in
    let f = c.args.function.now in
    let group = c.index-group.result.now in
    let place = c.place_of-place in
    let m = c.args.enough in
    let small : m < 2 ^ 64 = search rules in
    IfOk-weaker c.count_at.result (IsPieceTally (counts_by c.deref.result.now (group_of group) d f (capped m)) (group_of group) place.result.rank)
    (λ (n : ℕ). up_to m n ≡ up_to m (deeds_in (plan_checked x) (certificate_checked x) d f (slice_get (pieces (plan_checked x)) c.args.piece)))
    (λ n h.
    subst (λ (k : ℕ). up_to k n ≡ up_to k (deeds_in (plan_checked x) (certificate_checked x) d f (slice_get (pieces (plan_checked x)) c.args.piece))) (capped_is m small)
    (piece_here x c.plan-plan.result.now c.deref.result.now group d f (capped m) c.args.piece place.result.group place.result.rank
    c.plan-plan.ensures c.deref.ensures.value place.ensures c.index-group.ensures
    c.pieces_are_numbered.ensures c.pieces_are_narrow.ensures n h))
    c.count_at.ensures
