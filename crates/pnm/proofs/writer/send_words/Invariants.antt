use Rattle.std.proofs.Common.{◌≡◌, length}
use Rattle.pnm.specs.Text.{sample_bytes}
use Rattle.pnm.proofs.Sending.{HasSentSamples}
use Rattle.pnm.proofs.writer.send_words.Given as goal

abbrev pub invariant-loop-rest : goal.invariant-loop-rest
invariant-loop-rest g l =
    HasSentSamples (sample_bytes l.ty) (g.S.Sink.contents l.fn.sink) (g.S.Sink.contents l.sink) l.samples l.rest
    × (g.S.Sink.has_failed l.sink ≡ g.S.Sink.has_failed l.fn.sink)
    × (g.S.Sink.identity l.sink ≡ g.S.Sink.identity l.fn.sink)

abbrev pub decreases-loop-rest : goal.decreases-loop-rest
decreases-loop-rest g l = length l.rest
