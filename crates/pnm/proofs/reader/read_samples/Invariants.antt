use Rattle.std.proofs.Common.{◌≡◌, false}
use Rattle.pnm.proofs.ByteByByte.{HasRead}
use Rattle.pnm.proofs.reader.read_samples.Given as goal

abbrev pub invariant-loop-turn : goal.invariant-loop-turn
invariant-loop-turn g l =
    HasRead l.wanted (g.S.Source.remaining l.fn.source) (g.S.Source.remaining l.source) l.turn l.state l.samples.items
    × (g.S.Source.has_failed l.source ≡ false)
    × (g.S.Source.identity l.source ≡ g.S.Source.identity l.fn.source)
