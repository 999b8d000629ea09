use Rattle.std.proofs.Common.{arith, refl, inl, inr}
use Rattle.shares.proofs.answer.too_many_needed.Goals as goal

pub returns-in-Ok-Ok : goal.returns-in-Ok-Ok
returns-in-Ok-Ok c =
    let begun = c.certificate_line.ensures in
    let line = c.need_line-line.ensures in
    let passes = rw c.in-Ok-Ok.field-0-is at c.in-Ok-Ok.ensures.place in
    inr (refl, inr (c.in-Ok-Ok.place, passes, omega (arith, begun, line)))
