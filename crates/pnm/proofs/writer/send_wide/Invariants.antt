use Rattle.std.proofs.Common.{◌≡◌, drop}
use Rattle.numeric.specs.declared.ty.Ty.TheVariants.{U16}
use Rattle.pnm.specs.Text.{sample_bytes}
use Rattle.pnm.proofs.Sending.{HasSentSamples}
use Rattle.pnm.proofs.writer.send_wide.Given as goal

abbrev pub invariant-loop-sample : goal.invariant-loop-sample
invariant-loop-sample g l =
    HasSentSamples (sample_bytes U16) (g.S.Sink.contents l.fn.sink) (g.S.Sink.contents l.sink) l.samples (drop l.sample-index l.samples)
    × (g.S.Sink.has_failed l.sink ≡ g.S.Sink.has_failed l.fn.sink)
    × (g.S.Sink.identity l.sink ≡ g.S.Sink.identity l.fn.sink)
