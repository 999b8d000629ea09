use Rattle.std.proofs.Common.{◌∙◌, ◌∷◌, [], Err, subst, decimal}
use Rattle.std.proofs.lemmas.Result.{err_from_is_err_and}
use Rattle.std.specs.Io.KnownBytes.{Appends}
use Rattle.pnm.specs.Source.{Sends}
use Rattle.pnm.proofs.writer.send_number.Goals as goal
use Rattle.pnm.proofs.Sending.{sends_first, sends_both, sends_failed}

pub returns-in_err-send-clause-bytes : goal.returns-in_err-send-clause-bytes
returns-in_err-send-clause-bytes g c =
    let old = g.S.Sink.contents c.args.sink.now in
    let new = g.S.Sink.contents c.send.new.self in
    let text = c.as_bytes.ensures.value ∙ c.format.ensures.text in
    let p = err_from_is_err_and c.from_residual.result c.from_residual.ensures.1 in
    let first = subst (λ xs. Sends old new xs (Err c.in_err-send.field-0.0)) text c.in_err-send.ensures.bytes in
    sends_failed old new _ c.from_residual.result p.0 c.in_err-send.field-0.0 p.1 p.2 (sends_first old new (decimal c.args.number) (c.args.after ∷ []) c.in_err-send.field-0.0 first)

pub returns-clause-bytes : goal.returns-clause-bytes
returns-clause-bytes g c =
    let old = g.S.Sink.contents c.args.sink.now in
    let mid = g.S.Sink.contents c.send.new.self in
    let new = g.S.Sink.contents c.send-2.new.self in
    let text = c.as_bytes.ensures.value ∙ c.format.ensures.text in
    let first = subst (λ xs. Appends old mid xs) text c.in_ok-send.ensures.bytes in
    sends_both old mid new (decimal c.args.number) (c.args.after ∷ []) c.send-2.result first c.send-2.ensures.bytes
