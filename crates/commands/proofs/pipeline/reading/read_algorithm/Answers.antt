use Rattle.std.proofs.lemmas.Result.{err_from_is_err_and}
use Rattle.commands.specs.Pipeline.Faults.{text_fault}
use Rattle.commands.specs.Pipeline.Texts.{IsTextRefused}
use Rattle.commands.proofs.Ways.{algorithm_refused, told}
use Rattle.commands.proofs.pipeline.reading.read_algorithm.Goals as goal

pub returns-in_err-read-clause-refused : goal.returns-in_err-read-clause-refused
returns-in_err-read-clause-refused c =
    let text = c.args.text.now in
    let e = c.in_err-read.field-0.0 in
    let p = err_from_is_err_and c.from_residual.result c.from_residual.ensures.1 in
    told (IsTextRefused text) c.from_residual.result p.0 (text_fault e) p.1 p.2 (algorithm_refused text e c.in_err-read.ensures.refused c.in_err-read.ensures.only)
