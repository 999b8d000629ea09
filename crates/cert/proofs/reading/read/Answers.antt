use Rattle.std.proofs.Common.{sym, ◌∙◌}
use Rattle.std.proofs.lemmas.Result.{err_from_is_err_and}
use Rattle.plan.specs.Certificate.Certificate.{certificate_of}
use Rattle.cert.specs.Lines.{line_of}
use Rattle.cert.proofs.Tests.{apart}
use Rattle.cert.proofs.Turns.{one_more, refused_line, whole_text, ended_early}
use Rattle.cert.proofs.reading.read.Goals as goal

pub returns-in_err-line-clause-refused : goal.returns-in_err-line-clause-refused
returns-in_err-line-clause-refused c =
    let p = err_from_is_err_and c.from_residual.result c.from_residual.ensures.1 in
    rw (p.1, p.2) (refused_line c.args.first_line c.args.text.now c.loop-bytes.rest.now c.loop-bytes.number c.loop-bytes.last (certificate_of c.loop-bytes.certificate) c.loop-bytes.invariant
    c.in-Some.bytes.now c.in-Some.after.now c.in_err-line.field-0.0 c.in-Some.ensures.spelled c.in-Some.ensures.line c.in_err-line.ensures.wrong)

pub loop-bytes-preserved : goal.loop-bytes-preserved
loop-bytes-preserved c =
    let more = one_more c.args.first_line c.args.text.now c.loop-bytes.rest.now c.loop-bytes.number c.loop-bytes.last (certificate_of c.loop-bytes.certificate) c.loop-bytes.invariant
    c.in-Some.bytes.now c.in-Some.after.now (line_of c.in_ok-line.line) c.in-Some.ensures.spelled c.in_ok-line.ensures.found in
    rw (c.mark-last.ensures, c.in_ok-add.ensures) more

pub returns-then-is_whole-clause-said : goal.returns-then-is_whole-clause-said
returns-then-is_whole-clause-said c =
    let whole = c.is_whole.ensures.0 c.if-is_whole.true in
    whole_text c.args.first_line c.args.text.now c.loop-bytes.rest.now c.loop-bytes.number c.loop-bytes.last (certificate_of c.loop-bytes.certificate) c.loop-bytes.invariant whole.0 whole.1

pub returns-else-is_whole-clause-refused : goal.returns-else-is_whole-clause-refused
returns-else-is_whole-clause-refused c =
    ended_early c.args.first_line c.args.text.now c.loop-bytes.rest.now c.loop-bytes.number c.loop-bytes.last (certificate_of c.loop-bytes.certificate) c.loop-bytes.invariant
    c.in_default.ensures.none (λ empty ended. apart (sym (c.is_whole.ensures.1 (ended, empty)) ∙ c.if-is_whole.false))
