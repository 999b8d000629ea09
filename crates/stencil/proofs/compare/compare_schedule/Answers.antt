use Rattle.std.proofs.Common.{◌∙◌, ap, inl, subst, sym}
use Rattle.std.proofs.lemmas.Result.{IfErr-weaker}
use Rattle.meaning.specs.Image.View.{Picture}
use Rattle.algo.specs.declared.algorithm.Algo.{Algo}
use Rattle.algo.specs.View.{algorithm_of, picture_said, samples_of, IsFor}
use Rattle.commands.proofs.Kept.{on_ok}
use Rattle.stencil.proofs.compare.compare_schedule.Goals as goal

pub compare_checked-requires-clause-inputs : goal.compare_checked-requires-clause-inputs
compare_checked-requires-clause-inputs g c κs within =
    let For : Algo → Type 0 = λ algo. IsFor algo c.args.baseline.now.inputs.now in
    subst For (sym c.in_ok-checked.ensures.checked) c.requires.inputs

pub compare_checked-requires-clause-picture : goal.compare_checked-requires-clause-picture
compare_checked-requires-clause-picture g c κs within =
    let Said : Algo → Picture = λ algo. picture_said (algorithm_of algo) (samples_of c.args.baseline.now.inputs.now) in
    c.requires.picture ∙ sym (ap Said c.in_ok-checked.ensures.checked)

pub returns-clause-legal : goal.returns-clause-legal
returns-clause-legal g c =
    on_ok _ c.compare_checked.result c.in_ok-checked.ensures.legal

pub returns-clause-refused : goal.returns-clause-refused
returns-clause-refused g c =
    IfErr-weaker c.compare_checked.result _ _ (λ fault h. inl h) c.compare_checked.ensures.refused
