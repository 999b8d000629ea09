use Rattle.std.proofs.Common.{◌∙◌}
use Rattle.std.specs.List.{flat_map}
use Rattle.std.proofs.lemmas.Result.{err_from_is_err_and}
use Rattle.numeric.specs.declared.ty.Ty.TheVariants.{U16}
use Rattle.pnm.specs.Text.{sample_bytes}
use Rattle.pnm.proofs.Sending.{has_sent_wide, sends_failed, sends_wide, still_so}
use Rattle.pnm.proofs.writer.send_wide.Goals as goal

pub returns-in_err-send-clause-bytes : goal.returns-in_err-send-clause-bytes
returns-in_err-send-clause-bytes g c =
    let old = g.S.Sink.contents c.args.sink.now in
    let mid = g.S.Sink.contents c.loop-sample.sink in
    let new = g.S.Sink.contents c.send.new.self in
    let i = c.loop-sample.sample-index in
    let p = err_from_is_err_and c.from_residual.result c.from_residual.ensures.1 in
    sends_failed old new (flat_map (sample_bytes U16) c.args.samples.now) c.from_residual.result p.0 c.in_err-send.field-0.0 p.1 p.2
    (sends_wide old mid new c.args.samples.now i c.in_err-send.field-0.0 c.loop-sample-test.true (c.type_inv.samples i).fits c.loop-sample.invariant.0 c.in_err-send.ensures.bytes)

pub loop-sample-preserved : goal.loop-sample-preserved
loop-sample-preserved g c =
    let old = g.S.Sink.contents c.args.sink.now in
    let mid = g.S.Sink.contents c.loop-sample.sink in
    let new = g.S.Sink.contents c.send.new.self in
    let i = c.loop-sample.sample-index in (
      has_sent_wide old mid new c.args.samples.now i c.loop-sample-test.true (c.type_inv.samples i).fits c.loop-sample.invariant.0 c.in_ok-send.ensures.bytes,
      still_so _ _ _ c.in_ok-send.ensures.failure c.loop-sample.invariant.1,
      c.in_ok-send.ensures.same ∙ c.loop-sample.invariant.2,
    )
