use Rattle.std.proofs.Common.{◌≡◌, ◌+ℤ◌, ◌-ℤ◌, ◌∙◌, arith, rules}
use Rattle.std.proofs.lemmas.Int.{ints, to_z-of_z}
use Rattle.numeric.specs.declared.ty.Ty.TheVariants.{I32}
use Rattle.numeric.specs.Wrap.{wrap}
use Rattle.crop.proofs.Rules.{wide_bits, wrap_told}
use Rattle.crop.proofs.numbers.with_difference.Goals as goal
use mir.Syntax.{w32}

pub returns : goal.returns
returns c =
    let exact = c.args.c +ℤ (c.args.first -ℤ c.args.second) in
    let sum = wide_bits (wide_bits c.from.result +ℤ wide_bits (wide_bits c.from-2.result -ℤ wide_bits c.from-3.result)) in
    let told : c.wrapped.result ≡ wrap I32 exact = wrap_told c.wrapped.result sum exact c.wrapped.ensures (omega (arith, ints)) in
    to_z-of_z w32 c.wrapped.result (search rules) ∙ told
