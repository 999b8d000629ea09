use Rattle.crew.specs.Private.{fetched_of}
use Rattle.crew.proofs.Most.{IsLeastBefore, IsMostBefore}
use Rattle.crew.proofs.counts.most_fetched.Given as goal

abbrev pub invariant-loop-piece : goal.invariant-loop-piece
invariant-loop-piece l = record { most : IsMostBefore (fetched_of l.checked) l.piece l.most; least : IsLeastBefore (fetched_of l.checked) l.piece l.most }
