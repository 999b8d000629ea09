use Rattle.std.proofs.Common.{◌≡◌, map, drop}
use Rattle.bounds.specs.Interval.{span_named}
use Rattle.bounds.proofs.expression.coordinate.Given as goal

-- what is left has the same span of the name
abbrev pub invariant-loop-place : goal.invariant-loop-place
invariant-loop-place l = span_named (map (λ x. x.now) (drop l.place l.vars)) (drop l.place l.region) l.name ≡ span_named (map (λ x. x.now) l.vars) l.region l.name
