use Rattle.std.proofs.Common.{◌≡◌, ◌++◌, ◌-◌, length, replicate}
use Rattle.lin.specs.declared.scope.Binding.TheVariants.{Loop}
use Rattle.sched.specs.Around.{anything}
use Rattle.sched.proofs.scopes.skip_to.Given as goal

abbrev pub invariant-loop-missing : goal.invariant-loop-missing
invariant-loop-missing l =
    l.scope ++ replicate (l.symbol - l.missing) (Loop anything) ≡ l.initial.scope ++ replicate (l.symbol - length l.initial.scope) (Loop anything)
