use Rattle.meaning.proofs.Greatest.{IsGreatest}
use Rattle.meaning.proofs.image.samples.greatest.Given as goal

abbrev pub invariant-loop-sample : goal.invariant-loop-sample
invariant-loop-sample l = IsGreatest l.samples l.sample-index l.most
