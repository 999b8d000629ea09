use Rattle.std.proofs.Common.{◌≡◌, ◌-◌, ◌*◌, ◌^◌, ◌%◌, ◌∙◌, ap, arith, ℕ, pos, bit_and}
use Rattle.std.proofs.lemmas.Nat.{and_mask}
use lib.Pow.{shl_exact}
use Rattle.numeric.specs.Wrap.{wrap}
use Rattle.interpreter.proofs.Powers.{rest_kept}
use Rattle.interpreter.proofs.evaluation.powers.low_bits_of.Goals as goal

pub returns : goal.returns
returns c = λ t le.
    let w = c.args.word in
    let e = c.args.exponent in
    let few = c.requires in
    let whole : (1 * 2 ^ e) % 2 ^ 32 ≡ 1 * 2 ^ e = shl_exact 1 e 32 (omega arith) (omega (arith, few)) in
    let once : (1 * 2 ^ e) % 2 ^ 32 ≡ 2 ^ e = omega (arith, whole) in
    ap (λ (n : ℕ). wrap t (pos (bit_and w (n - 1)))) once ∙ ap (λ (n : ℕ). wrap t (pos n)) (and_mask w e) ∙ rest_kept t w e le
