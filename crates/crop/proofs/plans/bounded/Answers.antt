use Rattle.std.proofs.Common.{sym, ◌∙◌, pos, ◌+ℤ◌, arith, rules}
use Rattle.std.proofs.lemmas.Int.{ints, to_z-of_z}
use Rattle.tree.specs.Term.{Binary}
use Rattle.crop.specs.Moving.{literal, plus}
use Rattle.crop.proofs.Rules.{wide_bits, kept32, fit_told, told_test, told_number, told_none, bounded_ill, bounded_far, bounded_well}
use Rattle.crop.proofs.plans.bounded.Goals as goal
use mir.Val.{SFits}
use mir.Syntax.{w32}

pub returns-then-not-both_fit : goal.returns-then-not-both_fit
returns-then-not-both_fit c =
    let low : SFits w32 c.args.ends.low = search rules in
    let high : SFits w32 c.args.ends.high = search rules in
    let test =
    fit_told c.both_fit.result _ _ _ c.args.c c.args.ends.low c.args.ends.high c.both_fit.ensures (omega (arith, ints))
    (to_z-of_z w32 c.args.ends.low low) (to_z-of_z w32 c.args.ends.high high) in
    let number = to_z-of_z w32 c.args.c c.ranges.c in
    let bound = to_z-of_z w32 c.args.bound c.ranges.bound in
    λ op a b f g.
    c.bound_behind.ensures op a b f g ∙ (λ i. plus (Binary op (f (pos 0)) (literal (bound i))) (number i))
    ∙ bounded_ill op c.args.c c.args.bound c.args.ends f (sym test ∙ c.if-not-both_fit.true)

pub returns-in-Some : goal.returns-in-Some
returns-in-Some c =
    let low : SFits w32 c.args.ends.low = search rules in
    let high : SFits w32 c.args.ends.high = search rules in
    let test =
    fit_told c.both_fit.result _ _ _ c.args.c c.args.ends.low c.args.ends.high c.both_fit.ensures (omega (arith, ints))
    (to_z-of_z w32 c.args.ends.low low) (to_z-of_z w32 c.args.ends.high high) in
    let added = wide_bits (wide_bits c.from-2.result +ℤ wide_bits c.from-3.result) in
    let sum = c.args.bound +ℤ c.args.c in
    let fits = told_test c.in-Some.number added sum c.in-Some.ensures (omega (arith, ints)) in
    let number = kept32 c.in-Some.number sum (search rules) (told_number c.in-Some.number added sum c.in-Some.ensures (omega (arith, ints))) in
    let more = to_z-of_z w32 c.args.c c.ranges.c in
    λ op a b f g.
    (λ i. Binary op (f (more i)) (literal (number i))) ∙ bounded_well op c.args.c c.args.bound c.args.ends f (sym test ∙ c.if-not-both_fit.false) fits

pub returns-in-None : goal.returns-in-None
returns-in-None c =
    let low : SFits w32 c.args.ends.low = search rules in
    let high : SFits w32 c.args.ends.high = search rules in
    let test =
    fit_told c.both_fit.result _ _ _ c.args.c c.args.ends.low c.args.ends.high c.both_fit.ensures (omega (arith, ints))
    (to_z-of_z w32 c.args.ends.low low) (to_z-of_z w32 c.args.ends.high high) in
    let added = wide_bits (wide_bits c.from-2.result +ℤ wide_bits c.from-3.result) in
    let far = told_none added (c.args.bound +ℤ c.args.c) c.in-None.ensures (omega (arith, ints)) in
    let number = to_z-of_z w32 c.args.c c.ranges.c in
    let bound = to_z-of_z w32 c.args.bound c.ranges.bound in
    λ op a b f g.
    c.bound_behind-in-None.ensures op a b f g ∙ (λ i. plus (Binary op (f (pos 0)) (literal (bound i))) (number i))
    ∙ bounded_far op c.args.c c.args.bound c.args.ends f (sym test ∙ c.if-not-both_fit.false) far
