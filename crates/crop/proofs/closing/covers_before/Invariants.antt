use Rattle.std.proofs.Common.{◌≡◌, ◌<◌, ℕ, [], Some}
use Rattle.std.specs.Prelude.{slice_get}
use Rattle.meaning.specs.Algorithm.{Function}
use Rattle.algo.specs.View.{algorithm_of}
use Rattle.crop.specs.Inference.Needed.{needed}
use Rattle.crop.specs.Cutting.{region_named, IsCovered}
use Rattle.crop.specs.View.{cut_of}
use Rattle.crop.proofs.closing.covers_before.Given as goal

-- what is needed of the functions before is asked for
abbrev pub invariant-loop-callee : goal.invariant-loop-callee
invariant-loop-callee l =
    (k : ℕ) (f : Function) → k < l.callee → slice_get (algorithm_of l.algo).functions k ≡ Some f
    → IsCovered (region_named (algorithm_of l.algo) (cut_of l.cut) f.name) (needed [] (algorithm_of l.algo) l.number f.name l.region)
