use Rattle.std.proofs.Common.{inr, subst, List, ℕ}
use Rattle.std.proofs.lemmas.Result.{err_from_is_err_and}
use Rattle.meaning.specs.Algorithm.{Algorithm}
use Rattle.algo.specs.View.{algorithm_of}
use Rattle.sched.specs.Schedule.{Schedule}
use Rattle.sched.specs.View.{schedule_of}
use Rattle.stencil.specs.Compiling.{IsNotCompiled, IsUnaccepted}
use Rattle.commands.specs.Pipeline.PlanFiles.{HasPlan}
use Rattle.stencil.proofs.Limited.{is_refused, text_of_plan, unwritten}
use Rattle.stencil.proofs.compiling.compile.Goals as goal

pub returns-in_err-file-clause-refused : goal.returns-in_err-file-clause-refused
returns-in_err-file-clause-refused g c =
    let a : Algorithm = algorithm_of c.args.algo.now in
    let s : Schedule = schedule_of c.args.sched.now in
    let p = err_from_is_err_and c.from_residual.result c.from_residual.ensures.1 in
    let refused : IsNotCompiled a s p.0 = rw p.2 (unwritten a s _ c.in_err-file.ensures.refused) in
    rw p.1 refused

pub returns-in_err-accept-clause-refused : goal.returns-in_err-accept-clause-refused
returns-in_err-accept-clause-refused g c =
    let a : Algorithm = algorithm_of c.args.algo.now in
    let s : Schedule = schedule_of c.args.sched.now in
    let text : List ℕ = c.as_str.result.now in
    let p = err_from_is_err_and c.from_residual-in_err-accept.result c.from_residual-in_err-accept.ensures.1 in
    let refused : IsUnaccepted a text p.0 = rw p.2 c.in_err-accept.ensures.refused in
    rw p.1 (inr (inr (is_refused a s text p.0 (text_of_plan a s text _ c.as_str.ensures.value c.in_ok-file.ensures.made) refused)))

pub returns-clause-accepted : goal.returns-clause-accepted
returns-clause-accepted g c =
    let Plans : List ℕ → Type 0 = λ text. HasPlan (algorithm_of c.args.algo.now) text in
    subst Plans c.as_str.ensures.value c.in_ok-accept.ensures.accepted
