use Rattle.std.proofs.Common.{◌≡◌, ◌+◌, ◌*◌, ◌≤◌, drop, arith}
use Rattle.std.specs.Str.Parse.{digits_value, digits_value_after}
use Rattle.std.proofs.lemmas.Bool.{le-ltb}
use Rattle.spelling.proofs.Decimals.{digit_at, value_step, value_grows}
use Rattle.spelling.proofs.words.numbers.decimal.Goals as goal

pub overflow_sub-digit : goal.overflow_sub-digit
overflow_sub-digit c = (digit_at c.args.digits.now c.loop-digit.digit-index c.requires.digits c.loop-digit-test.true).0

pub returns-then-next-from : goal.returns-then-next-from
returns-then-next-from c =
    let ds = c.args.digits.now in
    let i = c.loop-digit.digit-index in
    let next = 10 * c.from.result + c.from-in-loop-digit.result in
    let same : digits_value_after 10 next (drop (i + 1) ds) ≡ digits_value 10 ds =
    rw (c.from.ensures, c.from-in-loop-digit.ensures) (value_step ds i c.loop-digit.value (digits_value 10 ds) c.requires.digits c.loop-digit-test.true c.loop-digit.invariant.so_far) in
    let large : c.args.bound ≤ digits_value 10 ds = omega (arith, value_grows next (drop (i + 1) ds), c.from-in-loop-digit-2.ensures) in
    rw (le-ltb (digits_value 10 ds) c.args.bound large)

pub loop-digit-preserved : goal.loop-digit-preserved
loop-digit-preserved c =
    let ds = c.args.digits.now in
    record {
      below = omega (arith, c.from-in-loop-digit-2.ensures);
      so_far = rw (c.from.ensures, c.from-in-loop-digit.ensures) (value_step ds c.loop-digit.digit-index c.loop-digit.value (digits_value 10 ds) c.requires.digits c.loop-digit-test.true c.loop-digit.invariant.so_far);
    }
