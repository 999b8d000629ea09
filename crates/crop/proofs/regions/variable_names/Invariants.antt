use Rattle.std.proofs.Common.{◌≡◌, take, map}
use Rattle.algo.specs.Parts.{names_of}
use Rattle.crop.proofs.regions.variable_names.Given as goal

abbrev pub invariant-loop-variable : goal.invariant-loop-variable
invariant-loop-variable l = map (λ x. x.now) l.names.items ≡ names_of (take l.variable-index l.variables)
