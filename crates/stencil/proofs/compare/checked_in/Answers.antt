use Rattle.std.proofs.Common.{inl, inr}
use Rattle.std.proofs.lemmas.Result.{IfErr-weaker, err_from_is_err_and, on_ok_weaker}
use Rattle.sched.specs.View.{schedule_of}
use Rattle.commands.proofs.Ways.{told}
use Rattle.stencil.proofs.compare.checked_in.Goals as goal

pub returns-in_err-sched-clause-refused : goal.returns-in_err-sched-clause-refused
returns-in_err-sched-clause-refused g c =
    let e = c.in_err-sched.field-0.0 in
    let p = err_from_is_err_and c.from_residual.result c.from_residual.ensures.1 in
    told _ c.from_residual.result p.0 e p.1 p.2 (inr (inl c.in_err-sched.ensures.refused))

pub returns-clause-legal : goal.returns-clause-legal
returns-clause-legal g c =
    on_ok_weaker c.compile_checked.result (λ legal. (schedule_of c.in_ok-sched.sched, c.in_ok-sched.ensures.said, legal)) c.compile_checked.ensures.legal

pub returns-clause-refused : goal.returns-clause-refused
returns-clause-refused g c =
    IfErr-weaker c.compile_checked.result _ _ (λ fault h. inr (inr (schedule_of c.in_ok-sched.sched, c.in_ok-sched.ensures.said, h))) c.compile_checked.ensures.refused
