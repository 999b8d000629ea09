use Rattle.std.proofs.Common.{◌≡◌, false, arith}
use Rattle.std.specs.Int.{IsInRange}
use Rattle.std.proofs.lemmas.Bool.Decides.{nat_tests}
use Rattle.tree.specs.Token.Spelling.{is_digit}
use Rattle.commands.specs.Order.Numbers.{digits_of}
use Rattle.commands.proofs.Decimals.{none_other, spells_byte}
use Rattle.commands.proofs.order.number.with_byte.Goals as goal

pub returns-then-not-is_ascii_digit : goal.returns-then-not-is_ascii_digit
returns-then-not-is_ascii_digit c =
    let other : is_digit c.args.byte ≡ false = grind (arith, nat_tests, c.if-not-is_ascii_digit.ensures.cases) in
    none_other (digits_of c.args.number) c.args.byte other

pub returns-in-None : goal.returns-in-None
returns-in-None c =
    let range : IsInRange 48 57 c.args.byte = c.if-not-is_ascii_digit.ensures.cases in
    rw (c.in-None.is) (spells_byte c.args.byte range)
