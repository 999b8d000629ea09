use Rattle.std.proofs.Common.{◌≡◌, drop, map}
use Rattle.std.specs.Prelude.{fold, flat_map}
use Rattle.algo.specs.Parts.{names_of, change_of}
use Rattle.algo.specs.View.{algorithm_of}
use Rattle.bounds.specs.Projection.Unions.{with_region}
use Rattle.crop.specs.Inference.Needed.{update_regions, needed_outside}
use Rattle.crop.proofs.inference.definitions.with_function.Given as goal

-- what is found with the updates that are left is what is needed
abbrev pub invariant-loop-update : goal.invariant-loop-update
invariant-loop-update l =
    fold (with_region l.sought.scope.now) l.found (flat_map (update_regions l.sought.scope.now l.sought.inner.now (algorithm_of l.algo) l.function l.sought.callee.now l.region (names_of l.defined.variables.items)) (map change_of (drop l.update-index l.defined.updates.items)))
    ≡ needed_outside l.sought.scope.now l.sought.inner.now (algorithm_of l.algo) l.function l.sought.callee.now l.region
