use Rattle.std.proofs.Common.{◌≡◌, true, sym, ap, ◌∙◌}
use Rattle.cert.specs.Lines.{line_of}
use Rattle.cert.specs.Reading.{line_from}
use Rattle.cert.specs.Order.{is_next}
use Rattle.cert.proofs.Tests.{next_parts, apart}
use Rattle.cert.proofs.Again.{line_again}
use Rattle.cert.proofs.reading.next_line.Goals as goal

pub returns-else-branch-clause-none : goal.returns-else-branch-clause-none
returns-else-branch-clause-none c = λ line next.
    let p = next_parts c.args.last c.args.bytes.now line next in
    let same : line_of c.in_ok-line.line ≡ line = c.in_ok-line.ensures ∙ ap line_from p.spelled ∙ line_again line p.fit in
    let yes : is_next c.args.last c.args.bytes.now (line_of c.in_ok-line.line) ≡ true = ap (is_next c.args.last c.args.bytes.now) same ∙ next in
    apart (sym yes ∙ sym c.in_ok-is_next.ensures ∙ c.if-branch.false)
