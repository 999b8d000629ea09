-- The picture of a run that has not begun.
use Rattle.std.proofs.Common.{◌≡◌, ◌∙◌, List, ℤ, sym}
use Rattle.algo.specs.declared.inputs.Inputs.{Inputs}
use Rattle.algo.specs.View.{picture_said, samples_of, IsFor}
use Rattle.board.specs.Layout.{Layout, picture_of}
use Rattle.checked_plan.specs.declared.checked.Checked.{Checked}
use Rattle.checked_plan.specs.View.{algorithm_checked}
use Rattle.crew.specs.Opening.Laws.{PicturesAreSaid}
use Rattle.crew.specs.Opening.Layouts.{layout_of, values_of}
use Rattle.crew.specs.Prepared.{said_of}
use Rattle.crew.specs.declared.values.Pieces.{Pieces}

pub said_here : (layout : Layout) (values : List ℤ) (x : Checked) (i : Inputs) (p : Pieces) → PicturesAreSaid → layout ≡ layout_of x → values ≡ values_of x i
    → IsFor x.algo.now i → p.checked.now ≡ x → p.inputs.now ≡ i → picture_of layout values ≡ said_of p
said_here layout values x i p said here there input plan image =
    (λ k. picture_of (here k) (there k)) ∙ said x i input ∙ sym (λ k. picture_said (algorithm_checked (plan k)) (samples_of (image k)))
