use Rattle.std.proofs.Common.{◌≡◌, drop, map}
use Rattle.meaning.specs.Names.{is_among}
use Rattle.sched.proofs.names.is_among.Given as goal

abbrev pub invariant-loop-other : goal.invariant-loop-other
invariant-loop-other l = is_among (map (λ x. x.now) l.names) l.name ≡ is_among (map (λ x. x.now) (drop l.other-index l.names)) l.name
