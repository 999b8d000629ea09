use Rattle.std.proofs.Common.{ap, inl, subst}
use Rattle.std.specs.Prelude.{IfOk}
use Rattle.std.proofs.lemmas.Result.{IfErr-weaker, err_from_is_err_and}
use Rattle.meaning.specs.Algorithm.{Algorithm}
use Rattle.algo.specs.View.{algorithm_of}
use Rattle.commands.proofs.Kept.{same_then}
use Rattle.commands.proofs.Sourced.{drawing_by, plan_of_file, undrawn_before}
use Rattle.commands.proofs.Ways.{told}
use Rattle.commands.specs.Asked.{draw_asked}
use Rattle.commands.specs.Draws.{IsDrawingFile}
use Rattle.commands.proofs.draw_command.drawing_of.Goals as goal

pub returns-in_err-checked-clause-refused : goal.returns-in_err-checked-clause-refused
returns-in_err-checked-clause-refused g c =
    let e = c.in_err-checked.field-0.0 in
    let p = err_from_is_err_and c.from_residual.result c.from_residual.ensures.1 in
    told _ c.from_residual.result p.0 e p.1 p.2 (inl c.in_err-checked.ensures.refused)

pub returns-clause-same : goal.returns-clause-same
returns-clause-same g c = same_then _ _ _ c.plan_in.ensures.same c.drawn.ensures.same

pub returns-clause-drawn : goal.returns-clause-drawn
returns-clause-drawn g c =
    let planned = plan_of_file _ _ _ c.in_ok-checked.checked c.in_ok-checked.ensures.accepted in
    let Drawn : Algorithm → Type 0 = λ x. IfOk c.drawn.result (λ file. IsDrawingFile x file.items) in
    drawing_by _ _ (draw_asked c.args.request.now) _ c.drawn.result c.plan_in.ensures.same planned c.drawn.ensures.ordered
    (subst Drawn (ap algorithm_of c.in_ok-checked.ensures.algo) c.drawn.ensures.drawn)

pub returns-clause-refused : goal.returns-clause-refused
returns-clause-refused g c =
    let planned = plan_of_file _ _ _ c.in_ok-checked.checked c.in_ok-checked.ensures.accepted in
    IfErr-weaker c.drawn.result _ _ (λ fault h. undrawn_before _ _ (draw_asked c.args.request.now) _ fault c.plan_in.ensures.same planned h) c.drawn.ensures.refused
