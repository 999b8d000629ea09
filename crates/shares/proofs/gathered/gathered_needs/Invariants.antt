use Rattle.std.proofs.Common.{◌≡◌, ℕ, Some, length}
use Rattle.std.specs.Prelude.{slice_get}
use Rattle.plan.specs.View.{plan_of}
use Rattle.shares.specs.declared.gathered.GroupNeeds.{GroupNeeds}
use Rattle.shares.specs.Filed.{needs_in}
use Rattle.shares.specs.Gathered.{IsGathered}
use Rattle.shares.proofs.gathered.gathered_needs.Given as goal

abbrev pub invariant-loop-group : goal.invariant-loop-group
invariant-loop-group l = record {
  count : length l.made.items ≡ l.group;
  each : (g : ℕ) (x : GroupNeeds) → slice_get l.made.items g ≡ Some x → IsGathered (plan_of l.layout.plan.now) g (needs_in l.lines g) x;
}
