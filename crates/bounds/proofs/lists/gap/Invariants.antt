use Rattle.std.proofs.Common.{◌≡◌, drop}
use Rattle.std.specs.Prelude.{map, fold}
use Rattle.lin.specs.Search.{smaller}
use Rattle.bounds.specs.Lists.{distance, gap}
use Rattle.bounds.proofs.lists.gap.Given as goal

abbrev pub invariant-loop-other : goal.invariant-loop-other
invariant-loop-other l = gap l.scope l.upper l.form l.others ≡ fold smaller l.least (map (λ other. distance l.scope l.upper l.form other) (drop l.other-index l.others))
