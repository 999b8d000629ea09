use Rattle.std.proofs.Common.{◌≡◌, drop, map}
use Rattle.meaning.specs.Names.{is_among}
use Rattle.crop.proofs.callees.is_variable.Given as goal

abbrev pub invariant-loop-variable : goal.invariant-loop-variable
invariant-loop-variable l = is_among (map (λ x. x.now) l.variables) l.name ≡ is_among (map (λ x. x.now) (drop l.variable-index l.variables)) l.name
