use Rattle.std.proofs.Common.{◌≡◌, ◌++◌, drop, map}
use Rattle.sched.specs.Around.{form_span}
use Rattle.sched.proofs.scopes.form_spans.Given as goal

abbrev pub invariant-loop-form : goal.invariant-loop-form
invariant-loop-form l = l.spans ++ map form_span (drop l.form-index l.at) ≡ map form_span l.at
