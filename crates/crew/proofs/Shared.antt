-- A checked plan, its cells and an input may be shared among threads.
use denote.Ref.{NamedLft}
use denote.RattleType.{RattleType}
use denote.Param.Send.{IsSend, IsSync, sendable}
use Rattle.std.proofs.Crossing.{crosses}
use Rattle.numeric.proofs.op.Comparison.TheSendSync as comparison
use Rattle.numeric.proofs.op.Op.TheSendSync as op
use Rattle.numeric.proofs.ty.Ty.TheSendSync as ty
use Rattle.tree.proofs.token.span.Span.TheSendSync as bytes
use Rattle.tree.proofs.expr.Cond.TheLaws.TheKnot as expression
use Rattle.tree.specs.contracts.expr.Expr as Expr
use Rattle.lin.proofs.form.Lin.TheSendSync as form
use Rattle.lin.proofs.forms.Forms.TheSendSync as forms
use Rattle.lin.proofs.span.Region.TheSendSync as region
use Rattle.lin.proofs.span.Span1.TheSendSync as span
use Rattle.plan.proofs.plan.Declaration.TheSendSync as declaration
use Rattle.plan.proofs.stmt.Kind.TheSendSync as kind
use Rattle.plan.proofs.stmt.Pick.TheSendSync as pick
use Rattle.plan.proofs.stmt.Places.TheSendSync as places
use Rattle.plan.proofs.stmt.Stmt.TheLaws.TheKnot as statement
use Rattle.plan.specs.contracts.plan.Group as Group
use Rattle.plan.specs.contracts.plan.Plan as Plan
use Rattle.plan.specs.contracts.stmt.Stmt as Stmt
use Rattle.plan.proofs.certificate.cert.Cert.TheSendSync as cert
use Rattle.plan.specs.contracts.certificate.cert.Cert as Cert
use Rattle.algo.specs.contracts.inputs.Inputs as Inputs
use Rattle.algo.specs.contracts.algorithm.Algo as Algo
use Rattle.algo.specs.contracts.function.Function as Function
use Rattle.algo.specs.contracts.function.Update as Update
use Rattle.algo.proofs.function.Range.TheSendSync as range
use Rattle.orders.specs.contracts.lists.Piece as Piece
use Rattle.checked_plan.specs.contracts.checked.Checked as Checked
use Rattle.checked_plan.specs.contracts.output.plan_cells.GroupCells as GroupCells
use Rattle.checked_plan.specs.contracts.output.plan_cells.PlanCells as PlanCells
use Rattle.interpreter.proofs.Crossing.{scratch_field_send}
use Rattle.piece.specs.contracts.cells.LookedCells as LookedCells
use Rattle.board.proofs.seat.BoardSeat.TheSendSync as seat
use Rattle.crew.specs.contracts.values.Desk as Desk
use Rattle.crew.specs.contracts.workers.Worker as Worker
use Rattle.crew.specs.contracts.workers.work_all.{P-row}
use Rattle.crew.specs.contracts.stages.with_next.{P-row as P-row-in_stages}

expr_field_sync : IsSync (Expr.the_field).row
expr_field_sync = search (
  sendable,
  crosses,
  comparison.the_field_sync,
  op.the_field_sync,
  ty.the_field_sync,
  bytes.the_field_sync,
  expression.crosses,
) depth 20 fits 100000

stmt_field_sync : IsSync (Stmt.the_field).row
stmt_field_sync = search (
  sendable,
  crosses,
  expr_field_sync,
  form.the_sync,
  forms.the_sync,
  region.the_sync,
  span.the_field_sync,
  kind.the_field_sync,
  pick.the_field_sync,
  places.the_field_sync,
  statement.crosses,
) depth 20 fits 100000

pub group_sync : IsSync Group.the_row
group_sync = search (sendable, crosses, region.the_sync, stmt_field_sync) depth 20 fits 100000

pub plan_sync : IsSync Plan.the_row
plan_sync = search (sendable, crosses, declaration.the_field_sync, group_sync) depth 20 fits 100000

pub cert_sync : IsSync Cert.the_row
cert_sync = cert.the_sync

pub inputs_sync : IsSync Inputs.the_row
inputs_sync = search (sendable, crosses) depth 40

update_sync : IsSync Update.the_row
update_sync = search (sendable, crosses, range.the_field_sync, expr_field_sync) depth 20 fits 100000

function_sync : IsSync Function.the_row
function_sync = search (sendable, crosses, ty.the_field_sync, expr_field_sync, update_sync) depth 20 fits 100000

pub algo_sync : IsSync Algo.the_row
algo_sync = search (sendable, crosses, function_sync) depth 30 fits 100000

pub piece_sync : IsSync Piece.the_row
piece_sync = search (sendable, crosses) depth 20 fits 100000

plan_field_sync : IsSync (Plan.the_field).row
plan_field_sync = search (sendable, crosses, declaration.the_field_sync, group_sync) depth 20 fits 100000

pub checked_sync : (κ : NamedLft) → IsSync (Checked.the_row κ)
checked_sync κ = search (sendable, crosses, algo_sync, plan_field_sync, cert.the_field_sync, piece_sync) depth 40 fits 100000

cells_of_group_sync : IsSync GroupCells.the_row
cells_of_group_sync = search (sendable, crosses) depth 20 fits 100000

pub cells_sync : (κ : NamedLft) → IsSync (PlanCells.the_row κ)
cells_sync κ = search (sendable, crosses, checked_sync, cells_of_group_sync) depth 30 fits 100000

looked_field_send : (κ : NamedLft) → IsSend (LookedCells.the_field κ).row
looked_field_send κ = search (sendable, crosses, cells_sync) depth 40 fits 100000

pub desk_send : (κ : NamedLft) → IsSend (Desk.the_row κ)
desk_send κ = search (sendable, crosses, scratch_field_send, looked_field_send) depth 40 fits 100000

pub desk_field_send : (κ : NamedLft) → IsSend (Desk.the_field κ).row
desk_field_send κ = search (sendable, crosses, scratch_field_send, looked_field_send) depth 40 fits 100000

pub worker_send : (κ : NamedLft) → IsSend (Worker.the_row κ)
worker_send κ = search (sendable, crosses, seat.the_send, desk_field_send) depth 40 fits 100000

-- as a value of a type parameter
pub as_parameter : (a b c d : RattleType) → IsSync b → IsSync (P-row a b c d)
as_parameter a b c d y = search (sendable, crosses, y) depth 20

pub as_parameter_in_stages : (a b c d : RattleType) → IsSync b → IsSync (P-row-in_stages a b c d)
as_parameter_in_stages a b c d y = search (sendable, crosses, y) depth 20
