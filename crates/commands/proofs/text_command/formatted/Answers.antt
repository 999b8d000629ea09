use Rattle.std.proofs.Common.{inl, inr}
use Rattle.std.proofs.lemmas.Result.{IfErr-weaker, IfOk-weaker, err_from_is_err_and}
use Rattle.algo.specs.View.{algorithm_of}
use Rattle.commands.proofs.Ways.{told}
use Rattle.commands.proofs.text_command.formatted.Goals as goal

pub returns-in_err-algo-clause-refused : goal.returns-in_err-algo-clause-refused
returns-in_err-algo-clause-refused c =
    let e = c.in_err-algo.field-0.0 in
    let p = err_from_is_err_and c.from_residual.result c.from_residual.ensures.1 in
    told _ c.from_residual.result p.0 e p.1 p.2 (inl c.in_err-algo.ensures.refused)

pub returns-clause-formatted : goal.returns-clause-formatted
returns-clause-formatted c =
    IfOk-weaker c.canonical.result _ _ (λ text h. (algorithm_of c.in_ok-algo.algo, c.in_ok-algo.ensures.said, h)) c.canonical.ensures.canonical

pub returns-clause-refused : goal.returns-clause-refused
returns-clause-refused c =
    IfErr-weaker c.canonical.result _ _ (λ fault h. inr (algorithm_of c.in_ok-algo.algo, c.in_ok-algo.ensures.said, h)) c.canonical.ensures.refused
