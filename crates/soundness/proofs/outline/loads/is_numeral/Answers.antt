use Rattle.std.proofs.Common.{sym, ◌∙◌, arith}
use Rattle.std.proofs.lemmas.Bool.{ltb-false}
use Rattle.soundness.proofs.OfOutline.Numerals.{numeral_long, numeral_not}
use Rattle.soundness.proofs.outline.loads.is_numeral.Goals as goal

pub returns-then-is_leading : goal.returns-then-is_leading
returns-then-is_leading c = numeral_long c.args.digits.now c.are_digits.result (omega (arith, ltb-false)) (sym c.is_leading.ensures ∙ c.if-is_leading.true) c.are_digits.ensures

pub returns-else-is_leading : goal.returns-else-is_leading
returns-else-is_leading c = c.if-is_leading.false ∙ numeral_not c.args.digits.now (omega (arith, ltb-false)) (sym c.is_leading.ensures ∙ c.if-is_leading.false)
