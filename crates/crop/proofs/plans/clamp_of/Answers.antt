use Rattle.std.proofs.Common.{sym, ◌∙◌, pos, ◌+ℤ◌, arith, rules}
use Rattle.std.proofs.lemmas.Int.{ints, to_z-of_z}
use Rattle.tree.specs.Term.{Clamp}
use Rattle.crop.specs.Moving.{literal, plus}
use Rattle.crop.proofs.Rules.{wide_bits, kept32, fit_told, told_test, told_number, told_none, clamp_ill, clamp_low, clamp_high, clamp_well}
use Rattle.crop.proofs.plans.clamp_of.Goals as goal
use mir.Val.{SFits}
use mir.Syntax.{w32}

pub returns-then-not-both_fit : goal.returns-then-not-both_fit
returns-then-not-both_fit c =
    let low : SFits w32 c.args.ends.low = search rules in
    let high : SFits w32 c.args.ends.high = search rules in
    let test =
    fit_told c.both_fit.result _ _ _ c.args.c c.args.ends.low c.args.ends.high c.both_fit.ensures (omega (arith, ints))
    (to_z-of_z w32 c.args.ends.low low) (to_z-of_z w32 c.args.ends.high high) in
    let number = to_z-of_z w32 c.args.c c.ranges.c in
    let l = to_z-of_z w32 c.args.low c.ranges.low in
    let h = to_z-of_z w32 c.args.high c.ranges.high in
    λ x y f g k.
    c.clamp_behind.ensures x y f g k ∙ (λ i. plus (Clamp (f (pos 0)) (literal (l i)) (literal (h i))) (number i))
    ∙ clamp_ill c.args.c c.args.low c.args.high c.args.ends f (sym test ∙ c.if-not-both_fit.true)

pub returns-in-Some-small : goal.returns-in-Some-small
returns-in-Some-small c =
    let low : SFits w32 c.args.ends.low = search rules in
    let high : SFits w32 c.args.ends.high = search rules in
    let test =
    fit_told c.both_fit.result _ _ _ c.args.c c.args.ends.low c.args.ends.high c.both_fit.ensures (omega (arith, ints))
    (to_z-of_z w32 c.args.ends.low low) (to_z-of_z w32 c.args.ends.high high) in
    let number = to_z-of_z w32 c.args.c c.ranges.c in
    let first = wide_bits (wide_bits c.from.result +ℤ wide_bits c.from-by.result) in
    let second = wide_bits (wide_bits c.from-in-Some.result +ℤ wide_bits c.from-by.result) in
    let from_fits = told_test c.in-Some.from first (c.args.low +ℤ c.args.c) c.in-Some.ensures (omega (arith, ints)) in
    let to_fits = told_test c.in-Some-small.to second (c.args.high +ℤ c.args.c) c.in-Some-small.ensures (omega (arith, ints)) in
    let from = kept32 c.in-Some.from _ (search rules) (told_number c.in-Some.from first (c.args.low +ℤ c.args.c) c.in-Some.ensures (omega (arith, ints))) in
    let to = kept32 c.in-Some-small.to _ (search rules) (told_number c.in-Some-small.to second (c.args.high +ℤ c.args.c) c.in-Some-small.ensures (omega (arith, ints))) in
    λ x y f g k.
    (λ i. Clamp (f (number i)) (literal (from i)) (literal (to i)))
    ∙ clamp_well c.args.c c.args.low c.args.high c.args.ends f (sym test ∙ c.if-not-both_fit.false) from_fits to_fits

pub returns-in-None-small : goal.returns-in-None-small
returns-in-None-small c =
    let low : SFits w32 c.args.ends.low = search rules in
    let high : SFits w32 c.args.ends.high = search rules in
    let test =
    fit_told c.both_fit.result _ _ _ c.args.c c.args.ends.low c.args.ends.high c.both_fit.ensures (omega (arith, ints))
    (to_z-of_z w32 c.args.ends.low low) (to_z-of_z w32 c.args.ends.high high) in
    let number = to_z-of_z w32 c.args.c c.ranges.c in
    let l = to_z-of_z w32 c.args.low c.ranges.low in
    let h = to_z-of_z w32 c.args.high c.ranges.high in
    let first = wide_bits (wide_bits c.from.result +ℤ wide_bits c.from-by.result) in
    let second = wide_bits (wide_bits c.from-in-Some.result +ℤ wide_bits c.from-by.result) in
    let from_fits = told_test c.in-Some.from first (c.args.low +ℤ c.args.c) c.in-Some.ensures (omega (arith, ints)) in
    let far = told_none second (c.args.high +ℤ c.args.c) c.in-None-small.ensures (omega (arith, ints)) in
    λ x y f g k.
    c.clamp_behind-in-None-small.ensures x y f g k ∙ (λ i. plus (Clamp (f (pos 0)) (literal (l i)) (literal (h i))) (number i))
    ∙ clamp_high c.args.c c.args.low c.args.high c.args.ends f (sym test ∙ c.if-not-both_fit.false) from_fits far

pub returns-in-None : goal.returns-in-None
returns-in-None c =
    let low : SFits w32 c.args.ends.low = search rules in
    let high : SFits w32 c.args.ends.high = search rules in
    let test =
    fit_told c.both_fit.result _ _ _ c.args.c c.args.ends.low c.args.ends.high c.both_fit.ensures (omega (arith, ints))
    (to_z-of_z w32 c.args.ends.low low) (to_z-of_z w32 c.args.ends.high high) in
    let number = to_z-of_z w32 c.args.c c.ranges.c in
    let l = to_z-of_z w32 c.args.low c.ranges.low in
    let h = to_z-of_z w32 c.args.high c.ranges.high in
    let first = wide_bits (wide_bits c.from.result +ℤ wide_bits c.from-by.result) in
    let far = told_none first (c.args.low +ℤ c.args.c) c.in-None.ensures (omega (arith, ints)) in
    λ x y f g k.
    c.clamp_behind-in-None.ensures x y f g k ∙ (λ i. plus (Clamp (f (pos 0)) (literal (l i)) (literal (h i))) (number i))
    ∙ clamp_low c.args.c c.args.low c.args.high c.args.ends f (sym test ∙ c.if-not-both_fit.false) far
