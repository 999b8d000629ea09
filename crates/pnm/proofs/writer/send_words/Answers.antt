use Rattle.std.proofs.Common.{Err, subst}
use Rattle.std.specs.List.{flat_map}
use Rattle.std.proofs.lemmas.Result.{err_from_is_err_and}
use Rattle.pnm.specs.Source.{Sends}
use Rattle.pnm.specs.Text.{sample_bytes}
use Rattle.pnm.proofs.Sending.{sends_failed, sends_part}
use Rattle.pnm.proofs.writer.send_words.Goals as goal

pub returns-in_err-send_part-clause-bytes : goal.returns-in_err-send_part-clause-bytes
returns-in_err-send_part-clause-bytes g c =
    let old = g.S.Sink.contents c.args.sink.now in
    let mid = g.S.Sink.contents c.loop-rest.sink in
    let new = g.S.Sink.contents c.send_part.new.sink in
    let p = err_from_is_err_and c.from_residual.result c.from_residual.ensures.1 in
    let part = subst (λ xs. Sends mid new (flat_map (sample_bytes c.args.ty) xs) (Err c.in_err-send_part.field-0.0)) c.split_at.ensures.front c.in_err-send_part.ensures.bytes in
    sends_failed old new _ c.from_residual.result p.0 c.in_err-send_part.field-0.0 p.1 p.2
    (sends_part (sample_bytes c.args.ty) old mid new c.args.samples.now c.loop-rest.rest.now c.min.result c.in_err-send_part.field-0.0 c.loop-rest.invariant.0 part)
