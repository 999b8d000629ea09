use Rattle.std.proofs.Common.{◌≡◌, IfOk, inl, subst, sym}
use Rattle.std.proofs.lemmas.Result.{IfErr-weaker}
use Rattle.meaning.specs.Image.View.{image_of}
use Rattle.algo.specs.declared.algorithm.Algo.{Algo}
use Rattle.algo.specs.View.{algorithm_of, picture_said, samples_of, IsFor}
use Rattle.commands.proofs.Kept.{on_ok}
use Rattle.stencil.proofs.compare.first_picture.Goals as goal

pub first_of-requires-clause-inputs : goal.first_of-requires-clause-inputs
first_of-requires-clause-inputs g c κs within =
    let For : Algo → Type 0 = λ algo. IsFor algo c.args.inputs.now in
    subst For (sym c.in_ok-checked.ensures.checked) c.requires.inputs

pub returns-clause-picture : goal.returns-clause-picture
returns-clause-picture g c =
    let Said : Algo → Type 0 = λ algo. IfOk c.first_of.result (λ image. image_of image ≡ picture_said (algorithm_of algo) (samples_of c.args.inputs.now)) in
    subst Said c.in_ok-checked.ensures.checked c.first_of.ensures.picture

pub returns-clause-legal : goal.returns-clause-legal
returns-clause-legal g c =
    on_ok _ c.first_of.result c.in_ok-checked.ensures.legal

pub returns-clause-refused : goal.returns-clause-refused
returns-clause-refused g c =
    IfErr-weaker c.first_of.result _ _ (λ fault h. inl h) c.first_of.ensures.refused
