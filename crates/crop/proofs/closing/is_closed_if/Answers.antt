use Rattle.std.proofs.Common.{◌≡◌, ◌∙◌, Some, sym, ap, subst}
use Rattle.std.specs.Prelude.{IsTrue, option_map, slice_get}
use Rattle.meaning.specs.Algorithm.{Function}
use Rattle.algo.specs.View.{algorithm_of}
use Rattle.crop.specs.Cutting.{Kept, IsClosedAt}
use Rattle.crop.specs.View.{kept_of, cut_of}
use Rattle.crop.proofs.Closed.{same_some, if_ok}
use Rattle.crop.proofs.closing.is_closed_if.Goals as goal

pub returns-in-Some : goal.returns-in-Some
returns-in-Some c =
    let a = algorithm_of c.args.algo.now in
    let cut = cut_of c.args.cut.now in
    let n = c.args.number in
    if_ok c.is_closed_at.result (λ y. IsTrue y → (f : Function) → slice_get a.functions n ≡ Some f → IsClosedAt a cut n f (kept_of c.in-Some.kept))
    (λ y. IsTrue y → (f : Function) (one : Kept) → slice_get a.functions n ≡ Some f → option_map kept_of c.args.kept.now ≡ Some one → IsClosedAt a cut n f one)
    (λ y h t f one e g. subst (λ (k : Kept). IsClosedAt a cut n f k) (same_some (ap (option_map kept_of) (sym c.in-Some.is) ∙ g)) (h t f e))
    c.is_closed_at.ensures
