use Rattle.std.proofs.Common.{◌≡◌, ℕ, length, true, Some, rules}
use Rattle.std.specs.Prelude.{IsTrue, slice_get}
use Rattle.meaning.specs.Algorithm.{Function}
use Rattle.algo.specs.View.{algorithm_of}
use Rattle.crop.specs.Cutting.{Kept, IsClosedAt}
use Rattle.crop.specs.Rebuilt.{IsKept}
use Rattle.crop.specs.View.{cut_of}
use Rattle.crop.proofs.Closed.{if_ok_two}
use Rattle.crop.proofs.closing.is_kept.Goals as goal

pub returns : goal.returns
returns c =
    let a = algorithm_of c.args.algo.now in
    let cut = cut_of c.args.cut.now in
    let yes : c.keeps_tile.result ≡ true = search rules in
    if_ok_two c.is_closed.result (λ y. IsTrue y → length cut.kept ≡ length a.functions)
    (λ y. IsTrue y → (k : ℕ) (f : Function) (one : Kept) → slice_get a.functions k ≡ Some f → slice_get cut.kept k ≡ Some (Some one) → IsClosedAt a cut k f one)
    (λ y. IsTrue y → IsKept a cut) (λ y e k t. record { each = e t; output = c.keeps_tile.ensures yes; closed = k t })
    c.is_closed.ensures.each c.is_closed.ensures.closed
