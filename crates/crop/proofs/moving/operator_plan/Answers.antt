use Rattle.std.proofs.Common.{sym, ◌∙◌, rules, w32, SFits}
use Rattle.std.proofs.lemmas.Int.{to_z-of_z}
use Rattle.numeric.specs.declared.op.Op.TheVariants.{Add, Sub, Mul, Div, Rem, Min, Max}
use Rattle.tree.specs.Term.{term_of}
use Rattle.crop.specs.Moving.{sum_moved, difference_moved, product_moved, quotient_moved, remainder_moved, least_moved, greatest_moved}
use Rattle.crop.specs.Plan.{operator_of, operator_with}
use Rattle.crop.specs.View.{move_of}
use Rattle.crop.proofs.Rules.{given_i32, given_other}
use Rattle.crop.proofs.moving.operator_plan.Goals as goal

pub returns-then-not-is_i32 : goal.returns-then-not-is_i32
returns-then-not-is_i32 c =
    let a = term_of c.args.left.now in
    let b = term_of c.args.right.now in
    λ f g. c.plain.ensures c.args.op a b f g ∙ given_other (move_of c.args.mover.now) c.args.op c.args.c a b f g (sym c.is_i32.ensures ∙ c.if-not-is_i32.true)

pub returns-in-Add : goal.returns-in-Add
returns-in-Add c =
    let m = move_of c.args.mover.now in
    let a = term_of c.args.left.now in
    let b = term_of c.args.right.now in
    let kept = to_z-of_z w32 c.args.c c.ranges.c in
    let first_fits : SFits w32 c.constant-first.result = search rules in
    let first = to_z-of_z w32 c.constant-first.result first_fits ∙ c.constant-first.ensures in
    let second_fits : SFits w32 c.constant-second.result = search rules in
    let second = to_z-of_z w32 c.constant-second.result second_fits ∙ c.constant-second.ensures in
    λ f g.
    (λ i. operator_of c.sum_plan.result (c.in-Add.is i) a b f g) ∙ c.sum_plan.ensures a b f g
    ∙ (λ i. sum_moved (kept i) (c.number_in-other.ensures i) (c.number_in-one.ensures i) (first i) (second i) f g)
    ∙ given_i32 m Add c.args.c a b f g (sym c.is_i32.ensures ∙ c.if-not-is_i32.false) ∙ (λ i. operator_with m (sym c.in-Add.is i) c.args.c a b f g)

pub returns-in-Sub : goal.returns-in-Sub
returns-in-Sub c =
    let m = move_of c.args.mover.now in
    let a = term_of c.args.left.now in
    let b = term_of c.args.right.now in
    let kept = to_z-of_z w32 c.args.c c.ranges.c in
    let first_fits : SFits w32 c.constant-first.result = search rules in
    let first = to_z-of_z w32 c.constant-first.result first_fits ∙ c.constant-first.ensures in
    let second_fits : SFits w32 c.constant-second.result = search rules in
    let second = to_z-of_z w32 c.constant-second.result second_fits ∙ c.constant-second.ensures in
    λ f g.
    (λ i. operator_of c.difference_plan.result (c.in-Sub.is i) a b f g) ∙ c.difference_plan.ensures a b f g
    ∙ (λ i. difference_moved (kept i) (c.number_in-other.ensures i) (c.number_in-one.ensures i) (first i) (second i) f g)
    ∙ given_i32 m Sub c.args.c a b f g (sym c.is_i32.ensures ∙ c.if-not-is_i32.false) ∙ (λ i. operator_with m (sym c.in-Sub.is i) c.args.c a b f g)

pub returns-in-Mul : goal.returns-in-Mul
returns-in-Mul c =
    let m = move_of c.args.mover.now in
    let a = term_of c.args.left.now in
    let b = term_of c.args.right.now in
    let kept = to_z-of_z w32 c.args.c c.ranges.c in
    let first_fits : SFits w32 c.constant-first.result = search rules in
    let first = to_z-of_z w32 c.constant-first.result first_fits ∙ c.constant-first.ensures in
    let second_fits : SFits w32 c.constant-second.result = search rules in
    let second = to_z-of_z w32 c.constant-second.result second_fits ∙ c.constant-second.ensures in
    λ f g.
    (λ i. operator_of c.product_plan.result (c.in-Mul.is i) a b f g) ∙ c.product_plan.ensures a b f g
    ∙ (λ i. product_moved (kept i) (c.number_in-other.ensures i) (c.number_in-one.ensures i) (first i) (second i) a b f g)
    ∙ given_i32 m Mul c.args.c a b f g (sym c.is_i32.ensures ∙ c.if-not-is_i32.false) ∙ (λ i. operator_with m (sym c.in-Mul.is i) c.args.c a b f g)

pub returns-in_ok-ends-in-Div : goal.returns-in_ok-ends-in-Div
returns-in_ok-ends-in-Div c =
    let m = move_of c.args.mover.now in
    let a = term_of c.args.left.now in
    let b = term_of c.args.right.now in
    let kept = to_z-of_z w32 c.args.c c.ranges.c in
    let first_fits : SFits w32 c.constant-first.result = search rules in
    let first = to_z-of_z w32 c.constant-first.result first_fits ∙ c.constant-first.ensures in
    λ f g.
    (λ i. operator_of c.quotient_plan.result (c.in-Div.is i) a b f g) ∙ c.quotient_plan.ensures a b f g
    ∙ (λ i. quotient_moved (kept i) (c.number_in-other.ensures i) (c.in_ok-ends-in-Div.ensures i) (first i) b f g)
    ∙ given_i32 m Div c.args.c a b f g (sym c.is_i32.ensures ∙ c.if-not-is_i32.false) ∙ (λ i. operator_with m (sym c.in-Div.is i) c.args.c a b f g)

pub returns-in_ok-ends-in-Rem : goal.returns-in_ok-ends-in-Rem
returns-in_ok-ends-in-Rem c =
    let m = move_of c.args.mover.now in
    let a = term_of c.args.left.now in
    let b = term_of c.args.right.now in
    let kept = to_z-of_z w32 c.args.c c.ranges.c in
    let first_fits : SFits w32 c.constant-first.result = search rules in
    let first = to_z-of_z w32 c.constant-first.result first_fits ∙ c.constant-first.ensures in
    λ f g.
    (λ i. operator_of c.remainder_plan.result (c.in-Rem.is i) a b f g) ∙ c.remainder_plan.ensures a b f g
    ∙ (λ i. remainder_moved (kept i) (c.number_in-other.ensures i) (c.in_ok-ends-in-Rem.ensures i) (first i) b f g)
    ∙ given_i32 m Rem c.args.c a b f g (sym c.is_i32.ensures ∙ c.if-not-is_i32.false) ∙ (λ i. operator_with m (sym c.in-Rem.is i) c.args.c a b f g)

pub returns-in_ok-ends-in-Min : goal.returns-in_ok-ends-in-Min
returns-in_ok-ends-in-Min c =
    let m = move_of c.args.mover.now in
    let a = term_of c.args.left.now in
    let b = term_of c.args.right.now in
    let kept = to_z-of_z w32 c.args.c c.ranges.c in
    λ f g.
    (λ i. operator_of c.least_plan.result (c.in-Min.is i) a b f g) ∙ c.least_plan.ensures a b f g
    ∙ (λ i. least_moved (kept i) (c.number_in-other.ensures i) (c.in_ok-ends-in-Min.ensures i) f g)
    ∙ given_i32 m Min c.args.c a b f g (sym c.is_i32.ensures ∙ c.if-not-is_i32.false) ∙ (λ i. operator_with m (sym c.in-Min.is i) c.args.c a b f g)

pub returns-in_ok-ends-in-Max : goal.returns-in_ok-ends-in-Max
returns-in_ok-ends-in-Max c =
    let m = move_of c.args.mover.now in
    let a = term_of c.args.left.now in
    let b = term_of c.args.right.now in
    let kept = to_z-of_z w32 c.args.c c.ranges.c in
    λ f g.
    (λ i. operator_of c.greatest_plan.result (c.in-Max.is i) a b f g) ∙ c.greatest_plan.ensures a b f g
    ∙ (λ i. greatest_moved (kept i) (c.number_in-other.ensures i) (c.in_ok-ends-in-Max.ensures i) f g)
    ∙ given_i32 m Max c.args.c a b f g (sym c.is_i32.ensures ∙ c.if-not-is_i32.false) ∙ (λ i. operator_with m (sym c.in-Max.is i) c.args.c a b f g)
