use Rattle.std.proofs.lemmas.Result.{IfErr-weaker, err_from_is_err_and, on_ok_weaker}
use Rattle.stencil.proofs.Comparisons.{compare_unread}
use Rattle.commands.proofs.Kept.{same_then}
use Rattle.commands.proofs.Ways.{told}
use Rattle.stencil.proofs.compare.compare_command.Goals as goal

pub returns-in_err-algo-clause-refused : goal.returns-in_err-algo-clause-refused
returns-in_err-algo-clause-refused g c =
    let e = c.in_err-algo.field-0.0 in
    let p = err_from_is_err_and c.from_residual.result c.from_residual.ensures.1 in
    told _ c.from_residual.result p.0 e p.1 p.2 (compare_unread _ _ e c.in_err-algo.ensures.refused)

pub returns-clause-done : goal.returns-clause-done
returns-clause-done g c =
    let before = g.F.Files.contents c.args.files.now in
    on_ok_weaker c.compare_of.result (λ h. h before c.algorithm_file.ensures.same c.in_ok-algo.ensures.said) c.compare_of.ensures.done

pub returns-clause-refused : goal.returns-clause-refused
returns-clause-refused g c =
    let before = g.F.Files.contents c.args.files.now in
    IfErr-weaker c.compare_of.result _ _ (λ fault h. h before c.algorithm_file.ensures.same c.in_ok-algo.ensures.said) c.compare_of.ensures.refused

pub returns-clause-same : goal.returns-clause-same
returns-clause-same g c = same_then _ _ _ c.algorithm_file.ensures.same c.compare_of.ensures.same
