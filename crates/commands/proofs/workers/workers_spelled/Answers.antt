use Rattle.std.proofs.Common.{◌∙◌, sym, arith}
use Rattle.commands.proofs.Crews.{found_here, found_on, from_first, none_found}
use Rattle.commands.proofs.workers.workers_spelled.Goals as goal

pub loop-number-init : goal.loop-number-init
loop-number-init c = from_first c.args.text.now

pub returns-then-is_spelled : goal.returns-then-is_spelled
returns-then-is_spelled c =
    sym (c.loop-number.invariant ∙ found_here c.args.text.now c.loop-number.number (omega (arith, c.loop-number-test.true)) (sym c.is_spelled.ensures ∙ c.if-is_spelled.true))

pub loop-number-preserved : goal.loop-number-preserved
loop-number-preserved c =
    c.loop-number.invariant ∙ found_on c.args.text.now c.loop-number.number (omega (arith, c.loop-number-test.true)) (sym c.is_spelled.ensures ∙ c.if-is_spelled.false)

pub returns : goal.returns
returns c = sym (c.loop-number.invariant ∙ none_found c.args.text.now c.loop-number.number (omega (arith, c.loop-number-test.false)) (omega (arith, c.loop-number.auto)))
