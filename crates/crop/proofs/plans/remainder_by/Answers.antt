use Rattle.std.proofs.Common.{◌≡◌, sym, ◌∙◌, pos, ◌-ℤ◌, neg_ℤ, arith, rules}
use Rattle.std.proofs.lemmas.Int.{ints, to_z-of_z}
use Rattle.numeric.specs.declared.op.Op.TheVariants.{Rem}
use Rattle.tree.specs.Term.{Binary}
use Rattle.crop.specs.Moving.{against, both_fit, multiple_in, plain_moved, plus}
use Rattle.crop.proofs.Rules.{wide_bits, wrap_told, low_told, high_told, remainder_low, remainder_ill, remainder_well}
use Rattle.crop.proofs.plans.remainder_by.Goals as goal
use mir.Syntax.{w32}

pub returns-then-divisor-le0 : goal.returns-then-divisor-le0
returns-then-divisor-le0 c =
    let number = to_z-of_z w32 c.args.c c.ranges.c in
    let low = low_told c.args.divisor _ c.if-divisor-le0.true (to_z-of_z w32 c.args.divisor c.ranges.divisor) in
    λ a b f g. c.plain.ensures Rem a b f g ∙ (λ i. plain_moved Rem (number i) f g) ∙ remainder_low c.args.c c.args.first c.args.ends b f g c.args.divisor low

pub returns-then-not-divides_well : goal.returns-then-not-divides_well
returns-then-not-divides_well c =
    let number = to_z-of_z w32 c.args.c c.ranges.c in
    let d = to_z-of_z w32 c.args.divisor c.ranges.divisor in
    let n = to_z-of_z w32 c.args.first c.ranges.first in
    let test = sym c.divides_well.ensures ∙ c.if-not-divides_well.true in
    let ill = (λ i. both_fit (neg_ℤ (multiple_in (sym d i) (sym n i))) c.args.ends.low c.args.ends.high) ∙ test in
    λ a b f g.
    c.plain-then-not-divides_well.ensures Rem a b f g ∙ (λ i. plain_moved Rem (number i) f g) ∙ remainder_ill c.args.c c.args.first c.args.ends b f g c.args.divisor ill

pub returns : goal.returns
returns c =
    let s = c.args in
    let d = to_z-of_z w32 s.divisor c.ranges.divisor in
    let n = to_z-of_z w32 s.first c.ranges.first in
    let high = high_told s.divisor _ c.if-divisor-le0.false d in
    let test = sym c.divides_well.ensures ∙ c.if-not-divides_well.false in
    let well = (λ i. both_fit (neg_ℤ (multiple_in (sym d i) (sym n i))) s.ends.low s.ends.high) ∙ test in
    let near = c.multiple_in.ensures.near in
    let is : c.multiple_in.result ≡ multiple_in s.divisor s.first = c.multiple_in.ensures.value ∙ (λ i. multiple_in (d i) (n i)) in
    let told : c.wrapped.result ≡ against (multiple_in s.divisor s.first) =
    wrap_told c.wrapped.result (wide_bits (pos 0 -ℤ wide_bits c.multiple_in.result)) (neg_ℤ (multiple_in s.divisor s.first))
    c.wrapped.ensures (omega (arith, ints, near.0, near.1, is)) in
    let taken = to_z-of_z w32 c.wrapped.result (search rules) ∙ told in
    let more = to_z-of_z w32 s.c c.ranges.c in
    λ a b f g. (λ i. plus (Binary Rem (f (taken i)) b) (more i)) ∙ remainder_well s.c s.first s.ends b f g s.divisor high well
