use Rattle.std.proofs.Common.{◌≡◌, drop}
use Rattle.sched.specs.Standing.{form_named}
use Rattle.sched.proofs.skeleton.form_named.Given as goal

abbrev pub invariant-loop-one : goal.invariant-loop-one
invariant-loop-one l = form_named (drop l.one-index l.known) l.name ≡ form_named l.known l.name
