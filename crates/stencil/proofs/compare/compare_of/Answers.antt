use Rattle.std.proofs.lemmas.Result.{IfErr-weaker, err_from_is_err_and, on_ok_weaker}
use Rattle.algo.specs.View.{algorithm_of, samples_of}
use Rattle.stencil.specs.Compares.{IsCompareRefusedBy}
use Rattle.commands.specs.Asked.{compare_asked}
use Rattle.stencil.proofs.Comparisons.{all_compared, image_unread, one_refused}
use Rattle.commands.proofs.Kept.{same_then}
use Rattle.commands.proofs.Sourced.{image_before}
use Rattle.commands.proofs.Ways.{told}
use Rattle.stencil.proofs.compare.compare_of.Goals as goal

pub returns-in_err-inputs-clause-refused : goal.returns-in_err-inputs-clause-refused
returns-in_err-inputs-clause-refused g c =
    let now = g.F.Files.contents c.args.files.now in
    let asked = compare_asked c.args.request.now in
    let a = algorithm_of c.args.algo.now in
    let e = c.in_err-inputs.field-0.0 in
    let p = err_from_is_err_and c.from_residual.result c.from_residual.ensures.1 in
    told (IsCompareRefusedBy now asked a) c.from_residual.result p.0 e p.1 p.2
    (λ files same said. image_unread files asked a said now same e c.in_err-inputs.ensures.refused)

pub returns-clause-done : goal.returns-clause-done
returns-clause-done g c =
    let old = g.F.Files.contents c.args.files.now in
    let now = g.F.Files.contents c.image_file.new.files in
    let asked = compare_asked c.args.request.now in
    let a = algorithm_of c.args.algo.now in
    let samples = samples_of c.in_ok-inputs.inputs in
    on_ok_weaker c.compare_by.result
    (λ legal files same said.
    let image = image_before files old asked.input a samples same c.in_ok-inputs.ensures.read in
    all_compared files now asked a said.0 image.0 samples (same_then files old now same c.image_file.ensures.same) said.1 said.2 image.1 image.2 legal)
    c.compare_by.ensures.legal

pub returns-clause-refused : goal.returns-clause-refused
returns-clause-refused g c =
    let old = g.F.Files.contents c.args.files.now in
    let now = g.F.Files.contents c.image_file.new.files in
    let asked = compare_asked c.args.request.now in
    let a = algorithm_of c.args.algo.now in
    let samples = samples_of c.in_ok-inputs.inputs in
    IfErr-weaker c.compare_by.result _ _
    (λ fault h files same said.
    let image = image_before files old asked.input a samples same c.in_ok-inputs.ensures.read in
    one_refused files now asked a said.0 image.0 samples (same_then files old now same c.image_file.ensures.same) said.1 said.2 image.1 image.2 fault h)
    c.compare_by.ensures.refused

pub returns-clause-same : goal.returns-clause-same
returns-clause-same g c = same_then _ _ _ c.image_file.ensures.same c.compare_by.ensures.same
