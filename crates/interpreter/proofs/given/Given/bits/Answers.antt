use Rattle.std.proofs.Common.{◌∙◌, ap}
use Rattle.interpreter.specs.LowBits.{numbers_of}
use Rattle.interpreter.specs.Rows.{Listed}
use Rattle.interpreter.proofs.LowBits.{bytes_given}
use Rattle.interpreter.proofs.given.Given.bits.Goals as goal

pub returns-then-self : goal.returns-then-self
returns-then-self c =
    let x = c.self.inside.numbers in
    c.as_slice-bytes.ensures.value
    ∙ bytes_given x.in_bytes x.bytes.items (numbers_of x.words) c.args.self.now.items c.if-self.true (ap (λ (r : Listed). r.items) c.self.view_is) (search (
      c.see_bytes.ensures,
      c.as_slice-bytes.ensures.value,
    ))
