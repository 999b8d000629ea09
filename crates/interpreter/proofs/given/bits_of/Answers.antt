use Rattle.std.proofs.Common.{◌^◌, ◌<◌, ◌∙◌, ap, rules, pos, w64, SFits}
use Rattle.std.specs.Int.{int_rem_euclid}
use Rattle.std.proofs.lemmas.Int.{to_z-of_z}
use Rattle.interpreter.proofs.LowBits.{low_bits_are}
use Rattle.interpreter.proofs.given.bits_of.Goals as goal

pub returns : goal.returns
returns c =
    let z = c.args.number in
    let fits : SFits w64 z = search rules in
    let small : c.low_word.result < 2 ^ 32 = search rules in
    low_bits_are z c.low_word.result small (c.low_word.ensures.bits ∙ ap (λ y. int_rem_euclid y (pos (2 ^ 32))) (to_z-of_z w64 z fits))
