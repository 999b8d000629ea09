use Rattle.std.proofs.Common.{inr, List, ℕ}
use Rattle.std.proofs.lemmas.Result.{IfErr-weaker, IfOk-weaker, err_from_is_err_and}
use Rattle.meaning.specs.Algorithm.{Algorithm}
use Rattle.algo.specs.View.{algorithm_of}
use Rattle.sched.specs.Schedule.{Schedule}
use Rattle.sched.specs.View.{schedule_of}
use Rattle.stencil.specs.Compiling.{IsCompiledPlan, IsNotCompiled, IsUnaccepted}
use Rattle.commands.specs.Pipeline.PlanFiles.{IsAccepted}
use Rattle.stencil.proofs.Limited.{is_compiled, is_refused, text_of_plan, unwritten}
use Rattle.stencil.proofs.compiling.compile_checked.Goals as goal

pub returns-in_err-file-clause-refused : goal.returns-in_err-file-clause-refused
returns-in_err-file-clause-refused g c =
    let a : Algorithm = algorithm_of c.args.algo.now in
    let s : Schedule = schedule_of c.args.sched.now in
    let p = err_from_is_err_and c.from_residual.result c.from_residual.ensures.1 in
    let refused : IsNotCompiled a s p.0 = rw p.2 (unwritten a s _ c.in_err-file.ensures.refused) in
    rw p.1 refused

pub returns-clause-refused : goal.returns-clause-refused
returns-clause-refused g c =
    let a : Algorithm = algorithm_of c.args.algo.now in
    let s : Schedule = schedule_of c.args.sched.now in
    let text : List ℕ = c.as_str.result.now in
    let made = text_of_plan a s text _ c.as_str.ensures.value c.in_ok-file.ensures.made in
    IfErr-weaker c.accept.result (IsUnaccepted a text) (IsNotCompiled a s) (λ fault unaccepted. inr (inr (is_refused a s text fault made unaccepted))) c.accept.ensures.refused

pub returns-clause-of_schedule : goal.returns-clause-of_schedule
returns-clause-of_schedule g c =
    let a : Algorithm = algorithm_of c.args.algo.now in
    let s : Schedule = schedule_of c.args.sched.now in
    let text : List ℕ = c.as_str.result.now in
    let made = text_of_plan a s text _ c.as_str.ensures.value c.in_ok-file.ensures.made in
    IfOk-weaker c.accept.result (λ checked. IsAccepted a text checked.plan checked.cert) (λ checked. IsCompiledPlan a s checked.plan checked.cert)
    (λ checked accepted. is_compiled a s text checked.plan checked.cert made accepted) c.accept.ensures.read
