-- What is asked after may be shared among threads.
use denote.Ref.{NamedLft}
use denote.Param.Send.{IsSync, sendable}
use Rattle.std.proofs.Crossing.{crosses}
use Rattle.numeric.proofs.op.Comparison.TheSendSync as comparison
use Rattle.numeric.proofs.op.Op.TheSendSync as op
use Rattle.numeric.proofs.ty.Ty.TheSendSync as ty
use Rattle.tree.proofs.token.span.Span.TheSendSync as bytes
use Rattle.tree.proofs.expr.Cond.TheLaws.TheKnot as expression
use Rattle.tree.specs.contracts.expr.Expr as Expr
use Rattle.lin.proofs.form.Lin.TheSendSync as form
use Rattle.lin.proofs.forms.Forms.TheSendSync as forms
use Rattle.lin.proofs.span.Region.TheSendSync as region
use Rattle.lin.proofs.span.Span1.TheSendSync as span
use Rattle.plan.proofs.plan.Declaration.TheSendSync as declaration
use Rattle.plan.proofs.stmt.Kind.TheSendSync as kind
use Rattle.plan.proofs.stmt.Pick.TheSendSync as pick
use Rattle.plan.proofs.stmt.Places.TheSendSync as places
use Rattle.plan.proofs.stmt.Stmt.TheLaws.TheKnot as statement
use Rattle.plan.specs.contracts.plan.Group as Group
use Rattle.plan.specs.contracts.plan.Plan as Plan
use Rattle.plan.specs.contracts.stmt.Stmt as Stmt
use Rattle.plan.proofs.certificate.cert.Cert.TheSendSync as cert
use Rattle.plan.specs.contracts.certificate.cert.Cert as Cert
use Rattle.algo.specs.contracts.algorithm.Algo as Algo
use Rattle.algo.specs.contracts.function.Function as Function
use Rattle.algo.specs.contracts.function.Update as Update
use Rattle.algo.proofs.function.Range.TheSendSync as range
use Rattle.claims.specs.contracts.group.Asked as Asked

expr_field_sync : IsSync (Expr.the_field).row
expr_field_sync = search (
  sendable,
  crosses,
  comparison.the_field_sync,
  op.the_field_sync,
  ty.the_field_sync,
  bytes.the_field_sync,
  expression.crosses,
) depth 20 fits 100000

stmt_field_sync : IsSync (Stmt.the_field).row
stmt_field_sync = search (
  sendable,
  crosses,
  expr_field_sync,
  form.the_sync,
  forms.the_sync,
  region.the_sync,
  span.the_field_sync,
  kind.the_field_sync,
  pick.the_field_sync,
  places.the_field_sync,
  statement.crosses,
) depth 20 fits 100000

group_sync : IsSync Group.the_row
group_sync = search (sendable, crosses, region.the_sync, stmt_field_sync) depth 20 fits 100000

pub plan_sync : IsSync Plan.the_row
plan_sync = search (sendable, crosses, declaration.the_field_sync, group_sync) depth 20 fits 100000

pub cert_sync : IsSync Cert.the_row
cert_sync = cert.the_sync

update_sync : IsSync Update.the_row
update_sync = search (sendable, crosses, range.the_field_sync, expr_field_sync) depth 20 fits 100000

function_sync : IsSync Function.the_row
function_sync = search (sendable, crosses, ty.the_field_sync, expr_field_sync, update_sync) depth 20 fits 100000

pub algo_sync : IsSync Algo.the_row
algo_sync = search (sendable, crosses, function_sync) depth 30 fits 100000

pub asked_sync : (κ : NamedLft) → IsSync (Asked.the_row κ)
asked_sync κ = search (sendable, crosses, algo_sync, plan_sync, cert_sync) depth 30 fits 100000
