use Rattle.std.proofs.Common.{◌+ℤ◌, ◌∙◌, arith}
use Rattle.std.proofs.lemmas.Int.{ints}
use Rattle.crop.proofs.Rules.{wide_bits, both_well, both_ill}
use Rattle.crop.proofs.plans.both_fit.Goals as goal

pub returns-then-fits : goal.returns-then-fits
returns-then-fits c =
    let a = c.args in
    let first = wide_bits (wide_bits c.from.result +ℤ wide_bits a.c) in
    let second = wide_bits (wide_bits c.from-2.result +ℤ wide_bits a.c) in
    both_well c.fits.result c.fits-then-fits.result first second a.c a.low a.high c.fits.ensures c.if-fits.true (omega (arith, ints)) c.fits-then-fits.ensures (omega (arith, ints))

pub returns-else-fits : goal.returns-else-fits
returns-else-fits c =
    let a = c.args in
    let first = wide_bits (wide_bits c.from.result +ℤ wide_bits a.c) in
    c.if-fits.false ∙ both_ill c.fits.result first a.c a.low a.high c.fits.ensures c.if-fits.false (omega (arith, ints))
