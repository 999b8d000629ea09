use Rattle.std.proofs.Common.{◌≡◌, arith, bit_and}
use Rattle.std.proofs.lemmas.Bool.Decides.{nat_tests}
use Rattle.shares.proofs.Marking.{clear_part, part_clear, part_set}
use Rattle.shares.proofs.taken.with_part.Goals as goal

pub returns-then-word-part-ne0-clause-none : goal.returns-then-word-part-ne0-clause-none
returns-then-word-part-ne0-clause-none c clear =
    let ends = c.ones-part.ensures in
    let none : bit_and c.args.word c.ones-part.result ≡ 0 = part_clear c.args.word c.ones-part.result c.args.low c.args.high ends.inside ends.below ends.above clear in
    let some = c.if-word-part-ne0.true in grind (arith, nat_tests)

pub returns-clause-some : goal.returns-clause-some
returns-clause-some c =
    let ends = c.ones-part.ensures in
    let some = c.if-word-part-ne0.false in
    let none : bit_and c.args.word c.ones-part.result ≡ 0 = grind (arith, nat_tests) in (
      clear_part c.args.word c.ones-part.result c.args.low c.args.high ends.inside ends.below ends.above none,
      part_set c.args.word c.ones-part.result c.args.low c.args.high ends.inside ends.below ends.above,
    )
