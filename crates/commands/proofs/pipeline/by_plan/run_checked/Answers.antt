use Rattle.std.proofs.Common.{Err, Ok, refl, subst}
use Rattle.std.proofs.lemmas.Result.{err_from_is_err_and}
use Rattle.meaning.specs.Algorithm.{Algorithm}
use Rattle.meaning.specs.Image.View.{image_of}
use Rattle.algo.specs.Parts.{input_frame}
use Rattle.algo.specs.View.{samples_of}
use Rattle.checked_plan.specs.View.{algorithm_checked}
use Rattle.pnm.specs.declared.error.PnmError.TheVariants.{Device}
use Rattle.pnm.specs.Reading.{wanted_of}
use Rattle.pnm.specs.Source.{ReadsFile}
use Rattle.commands.specs.declared.pipeline.fault.Fault.TheVariants.{Image}
use Rattle.commands.specs.Pipeline.Faults.{image_fault}
use Rattle.commands.specs.Pipeline.Pictures.{IsRefusedByPlan}
use Rattle.commands.specs.Pipeline.Texts.{IsImageRefused}
use Rattle.commands.proofs.Between.{image_refused, no_memory, picture_done, writer_failed}
use Rattle.commands.proofs.Failures.{first_alone, handed_on, none_failed}
use Rattle.commands.proofs.Ways.{told}
use Rattle.commands.proofs.pipeline.by_plan.run_checked.Goals as goal

pub returns-in_err-inputs-clause-refused : goal.returns-in_err-inputs-clause-refused
returns-in_err-inputs-clause-refused g c =
    let a = algorithm_checked c.args.checked.now in
    let read = g.S.Source.remaining c.args.source.now in
    let left = g.S.Source.remaining c.inputs_from.new.source in
    let held = g.K.Sink.contents c.args.sink.now in
    let e = c.in_err-inputs.field-0.0 in
    let p = err_from_is_err_and c.from_residual.result c.from_residual.ensures.1 in
    let Refused : Algorithm → Type 0 = λ x. IsImageRefused (input_frame x) read left e in
    let refused = subst Refused c.algo.ensures c.in_err-inputs.ensures.refused in
    told (IsRefusedByPlan a read left held held) c.from_residual.result p.0 e p.1 p.2
    (λ file plan text said. image_refused text file a said plan read left held e refused)

pub returns-in_err-image-clause-refused : goal.returns-in_err-image-clause-refused
returns-in_err-image-clause-refused g c =
    let a = algorithm_checked c.args.checked.now in
    let read = g.S.Source.remaining c.args.source.now in
    let left = g.S.Source.remaining c.inputs_from.new.source in
    let held = g.K.Sink.contents c.args.sink.now in
    let samples = samples_of c.in_ok-inputs.inputs in
    let Reads : Algorithm → Type 0 = λ x. ReadsFile (wanted_of (input_frame x)) read left samples in
    let reads = subst Reads c.algo.ensures c.in_ok-inputs.ensures.file in
    let e = c.in_err-image.field-0.0 in
    let p = err_from_is_err_and c.from_residual-in_err-image.result c.from_residual-in_err-image.ensures.1 in
    told (IsRefusedByPlan a read left held held) c.from_residual-in_err-image.result p.0 e p.1 p.2
    (λ file plan text said. no_memory text file a said plan read left held samples reads e c.in_err-image.ensures.refused)

pub returns-in_err-write_to-clause-refused : goal.returns-in_err-write_to-clause-refused
returns-in_err-write_to-clause-refused g c =
    let a = algorithm_checked c.args.checked.now in
    let read = g.S.Source.remaining c.args.source.now in
    let left = g.S.Source.remaining c.inputs_from.new.source in
    let held = g.K.Sink.contents c.args.sink.now in
    let holds = g.K.Sink.contents c.write_to.new.sink in
    let samples = samples_of c.in_ok-inputs.inputs in
    let Reads : Algorithm → Type 0 = λ x. ReadsFile (wanted_of (input_frame x)) read left samples in
    let reads = subst Reads c.algo.ensures c.in_ok-inputs.ensures.file in
    let e = c.in_err-write_to.field-0.0 in
    let p = err_from_is_err_and c.from_residual-in_err-write_to.result c.from_residual-in_err-write_to.ensures.1 in
    told (IsRefusedByPlan a read left held holds) c.from_residual-in_err-write_to.result p.0 (image_fault e) p.1 p.2
    (λ file plan text said. writer_failed text file a said plan read left held samples reads holds (image_of c.in_ok-image.image) c.in_ok-image.ensures.picture e c.in_err-write_to.ensures.bytes)

pub returns-clause-done : goal.returns-clause-done
returns-clause-done g c =
    let a = algorithm_checked c.args.checked.now in
    let read = g.S.Source.remaining c.args.source.now in
    let left = g.S.Source.remaining c.inputs_from.new.source in
    let held = g.K.Sink.contents c.args.sink.now in
    let holds = g.K.Sink.contents c.write_to.new.sink in
    let samples = samples_of c.in_ok-inputs.inputs in
    let Reads : Algorithm → Type 0 = λ x. ReadsFile (wanted_of (input_frame x)) read left samples in
    let reads = subst Reads c.algo.ensures c.in_ok-inputs.ensures.file in
    λ file plan text said. picture_done text file a said plan read left held samples reads holds (image_of c.in_ok-image.image) c.in_ok-image.ensures.picture
    c.in_ok-write_to.ensures.bytes

pub returns-in_err-inputs-clause-failed : goal.returns-in_err-inputs-clause-failed
returns-in_err-inputs-clause-failed g c = λ h.
    let p = err_from_is_err_and c.from_residual.result c.from_residual.ensures.1 in
    let source = first_alone _ (g.K.Sink.has_failed c.args.sink.now) c.requires.sink h in
    handed_on (Err c.in_err-inputs.field-0.0) c.from_residual.result c.in_err-inputs.field-0.0 p.0 (Image Device) refl p.1 p.2 (c.in_err-inputs.ensures.failed source)

pub returns-clause-failed : goal.returns-clause-failed
returns-clause-failed g c = λ h.
    none_failed _ _ _ (g.K.Sink.has_failed c.args.sink.now) (Ok c.in_ok-inputs.inputs) c.in_ok-inputs.inputs (Image Device) refl c.in_ok-inputs.ensures.failed
    c.in_ok-write_to.ensures.failure c.requires.sink h
