use Rattle.std.proofs.Common.{◌≡◌, ◌+◌, ◌*◌, ◌-◌, ◌≤◌, ◌^◌, drop, get_or, arith}
use Rattle.std.specs.Str.Parse.{digits_value, digits_value_after}
use Rattle.std.proofs.lemmas.Bool.{le-ltb}
use Rattle.tree.proofs.Decimals.{digit_at, value_step, value_grows}
use Rattle.tree.proofs.token.lexer.decimal.Goals as goal

pub overflow_sub-digit : goal.overflow_sub-digit
overflow_sub-digit c = (digit_at c.args.digits.now c.loop-digit.digit-index c.requires c.loop-digit-test.true).0

pub returns-then-value-from : goal.returns-then-value-from
returns-then-value-from c =
    let ds = c.args.digits.now in
    let i = c.loop-digit.digit-index in
    let v = c.loop-digit.value in
    let next = 10 * v + (get_or ds i 0 - 48) in
    let same : digits_value_after 10 next (drop (i + 1) ds) ≡ digits_value 10 ds = value_step ds i v (digits_value 10 ds) c.requires c.loop-digit-test.true c.loop-digit.invariant.so_far in
    let large : 2 ^ 32 ≤ digits_value 10 ds = omega (arith, value_grows next (drop (i + 1) ds)) in
    rw (le-ltb (digits_value 10 ds) (2 ^ 32) large)

pub loop-digit-preserved : goal.loop-digit-preserved
loop-digit-preserved c = record {
  small = omega arith;
  so_far = rw c.from.ensures (value_step c.args.digits.now c.loop-digit.digit-index c.loop-digit.value (digits_value 10 c.args.digits.now) c.requires c.loop-digit-test.true c.loop-digit.invariant.so_far);
}
