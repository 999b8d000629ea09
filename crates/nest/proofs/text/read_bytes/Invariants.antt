use Rattle.std.proofs.Common.{length}
use Rattle.nest.specs.Reader.{state_of}
use Rattle.nest.proofs.Exits.{Reading}
use Rattle.nest.proofs.text.read_bytes.Given as goal

abbrev pub invariant-loop-line : goal.invariant-loop-line
invariant-loop-line l = Reading l.text l.rest l.number (state_of l.reader)

abbrev pub decreases-loop-line : goal.decreases-loop-line
decreases-loop-line l = length l.rest
