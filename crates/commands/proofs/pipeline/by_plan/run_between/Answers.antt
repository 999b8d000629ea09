use Rattle.std.proofs.lemmas.Result.{IfErr-weaker, err_from_is_err_and, on_ok_weaker}
use Rattle.commands.specs.Pipeline.Pictures.{IsRefused}
use Rattle.commands.proofs.Between.{text_refused}
use Rattle.commands.proofs.Ways.{told}
use Rattle.commands.proofs.pipeline.by_plan.run_between.Goals as goal

pub returns-in_err-algo-clause-refused : goal.returns-in_err-algo-clause-refused
returns-in_err-algo-clause-refused g c =
    let text = c.args.text.now in
    let file = c.args.file.now in
    let read = g.S.Source.remaining c.args.source.now in
    let held = g.K.Sink.contents c.args.sink.now in
    let e = c.in_err-algo.field-0.0 in
    let p = err_from_is_err_and c.from_residual.result c.from_residual.ensures.1 in
    told (IsRefused text file read read held held) c.from_residual.result p.0 e p.1 p.2 (text_refused text read held file e c.in_err-algo.ensures.refused)

pub returns-clause-done : goal.returns-clause-done
returns-clause-done g c =
    on_ok_weaker c.run_file.result (λ h. h c.args.text.now c.in_ok-algo.ensures.said) c.run_file.ensures.done

pub returns-clause-refused : goal.returns-clause-refused
returns-clause-refused g c =
    IfErr-weaker c.run_file.result _ _ (λ fault h. h c.args.text.now c.in_ok-algo.ensures.said) c.run_file.ensures.refused
