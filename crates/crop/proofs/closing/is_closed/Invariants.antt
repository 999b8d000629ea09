use Rattle.std.proofs.Common.{◌≡◌, ◌<◌, ℕ, Some}
use Rattle.std.specs.Prelude.{slice_get}
use Rattle.meaning.specs.Algorithm.{Function}
use Rattle.algo.specs.View.{algorithm_of}
use Rattle.crop.specs.Cutting.{Kept, IsClosedAt}
use Rattle.crop.specs.View.{cut_of}
use Rattle.crop.proofs.closing.is_closed.Given as goal

-- the functions before are closed, where they are kept
abbrev pub invariant-loop-number : goal.invariant-loop-number
invariant-loop-number l =
    (k : ℕ) (f : Function) (one : Kept) → k < l.number → slice_get (algorithm_of l.algo).functions k ≡ Some f → slice_get (cut_of l.cut).kept k ≡ Some (Some one)
    → IsClosedAt (algorithm_of l.algo) (cut_of l.cut) k f one
