use Rattle.std.proofs.Common.{◌≡◌, ◌+◌, ℤ, ap, sym, subst, ◌∙◌, length, arith, rules, w32, SFits}
use Rattle.std.specs.Prelude.{IfOk, string_bytes}
use Rattle.std.proofs.lemmas.Int.{to_z-of_z}
use Rattle.std.proofs.lemmas.List.{length_push}
use Rattle.tree.specs.declared.expr.Cond.{Cond}
use Rattle.tree.specs.Term.{Term, Test, term_of, test_of, list_terms, indices, Call, Minus, Binary, Clamp, Compares}
use Rattle.tree.proofs.Rows.{term_of-call}
use Rattle.crop.specs.Moving.{moved, test_moved, number_in, plus, negated_moved, clamp_moved, compare_moved}
use Rattle.crop.specs.Plan.{coordinate_against, operator_of, operator_with}
use Rattle.crop.specs.View.{move_of}
use Rattle.crop.proofs.Steps.{more_moved, call_made, call_nodes, index_within}
use Rattle.crop.proofs.moving.+moving.Goals as goal

pub moved-call_moved-requires : goal.moved-call_moved-requires
moved-call_moved-requires t c = omega (arith, call_nodes c.in-Call.name c.in-Call.at c.in-Call.span c.deref.result.now c.args.expr.now c.in-Call.is c.deref.ensures.value)

pub moved-returns-in-Call : goal.moved-returns-in-Call
moved-returns-in-Call t c =
    let m = move_of c.args.mover.now in
    let kept = to_z-of_z w32 c.args.c c.ranges.c in
    let node = sym (term_of-call c.in-Call.name c.in-Call.at c.in-Call.span) in
    let same = (λ i. Call (string_bytes c.in-Call.name) (indices (list_terms (c.deref.ensures.value i)))) ∙ node ∙ ap term_of (sym c.in-Call.is) in
    subst (λ (x : Term). IfOk c.call_moved.result (λ e. term_of e ≡ x)) (λ i. moved m (kept i) (same i)) c.call_moved.ensures

pub moved-returns-in-Negate : goal.moved-returns-in-Negate
moved-returns-in-Negate t c =
    let m = move_of c.args.mover.now in
    let a = term_of c.deref-in-Negate.result.now in
    let kept = to_z-of_z w32 c.args.c c.ranges.c in
    let same : Minus a ≡ term_of c.args.expr.now = search rules in
    let whole = (λ i. negated_moved (kept i) ((c.number_in.ensures ∙ ap number_in (sym same)) i) (λ d. moved m d a)) ∙ ap (moved m c.args.c) same in
    subst (λ (x : Term). IfOk c.negated_moved.result (λ e. term_of e ≡ x)) whole c.negated_moved.ensures

pub moved-returns-in-Binary : goal.moved-returns-in-Binary
moved-returns-in-Binary t c =
    let m = move_of c.args.mover.now in
    let kept = to_z-of_z w32 c.args.c c.ranges.c in
    let same : Binary c.in-Binary.op (term_of c.deref-in-Binary.result.now) (term_of c.deref-in-Binary-2.result.now) ≡ term_of c.args.expr.now = search rules in
    subst (λ (x : Term). IfOk c.operator_moved.result (λ e. term_of e ≡ x)) (λ i. moved m (kept i) (same i)) c.operator_moved.ensures

pub moved-returns-in-Clamp : goal.moved-returns-in-Clamp
moved-returns-in-Clamp t c =
    let m = move_of c.args.mover.now in
    let kept = to_z-of_z w32 c.args.c c.ranges.c in
    let same : Clamp (term_of c.deref-in-Clamp.result.now) (term_of c.deref-in-Clamp-2.result.now) (term_of c.deref-in-Clamp-3.result.now) ≡ term_of c.args.expr.now = search rules in
    subst (λ (x : Term). IfOk c.clamp_moved.result (λ e. term_of e ≡ x)) (λ i. moved m (kept i) (same i)) c.clamp_moved.ensures

pub operator_moved-returns-in-Left : goal.operator_moved-returns-in-Left
operator_moved-returns-in-Left t c =
    let m = move_of c.args.mover.now in
    let a = term_of c.args.left.now in
    let b = term_of c.args.right.now in
    let f = λ (d : ℤ). moved m d a in
    let g = λ (d : ℤ). moved m d b in
    let fits : SFits w32 c.in-Left.c = search rules in
    let kept = to_z-of_z w32 c.args.c c.ranges.c in
    let plan =
    ap f (to_z-of_z w32 c.in-Left.c fits) ∙ sym (ap (λ p. operator_of p c.args.op a b f g) c.in-Left.is) ∙ c.in_ok-c.ensures f g ∙ (λ i. operator_with m c.args.op (kept i) a b f g) in
    subst (λ (x : Term). IfOk c.moved.result (λ e. term_of e ≡ x)) plan c.moved.ensures

pub operator_moved-returns-in-Right : goal.operator_moved-returns-in-Right
operator_moved-returns-in-Right t c =
    let m = move_of c.args.mover.now in
    let a = term_of c.args.left.now in
    let b = term_of c.args.right.now in
    let f = λ (d : ℤ). moved m d a in
    let g = λ (d : ℤ). moved m d b in
    let fits : SFits w32 c.in-Right.c = search rules in
    let kept = to_z-of_z w32 c.args.c c.ranges.c in
    let plan =
    ap g (to_z-of_z w32 c.in-Right.c fits) ∙ sym (ap (λ p. operator_of p c.args.op a b f g) c.in-Right.is) ∙ c.in_ok-c.ensures f g ∙ (λ i. operator_with m c.args.op (kept i) a b f g) in
    subst (λ (x : Term). IfOk c.moved-in-Right.result (λ e. term_of e ≡ x)) plan c.moved-in-Right.ensures

pub operator_moved-returns-in_ok-right-in-Both : goal.operator_moved-returns-in_ok-right-in-Both
operator_moved-returns-in_ok-right-in-Both t c =
    let m = move_of c.args.mover.now in
    let a = term_of c.args.left.now in
    let b = term_of c.args.right.now in
    let f = λ (d : ℤ). moved m d a in
    let g = λ (d : ℤ). moved m d b in
    let fits : SFits w32 c.in-Both.more = search rules in
    let more = to_z-of_z w32 c.in-Both.more fits in
    let kept = to_z-of_z w32 c.args.c c.ranges.c in
    let made = c.binary.ensures ∙ (λ i. Binary c.args.op (c.in_ok-left-in-Both.ensures i) (c.in_ok-right-in-Both.ensures i)) in
    let plan = (λ i. plus (made i) (more i)) ∙ sym (ap (λ p. operator_of p c.args.op a b f g) c.in-Both.is) ∙ c.in_ok-c.ensures f g ∙ (λ i. operator_with m c.args.op (kept i) a b f g) in
    subst (λ (x : Term). IfOk c.plus.result (λ e. term_of e ≡ x)) plan c.plus.ensures

pub clamp_moved-returns : goal.clamp_moved-returns
clamp_moved-returns t c =
    let m = move_of c.args.mover.now in
    let a = term_of c.args.value.now in
    let l = term_of c.args.low.now in
    let h = term_of c.args.high.now in
    let f = λ (d : ℤ). moved m d a in
    let g = λ (d : ℤ). moved m d l in
    let k = λ (d : ℤ). moved m d h in
    let p = c.clamp_plan-plan.result in
    let value_fits : SFits w32 p.value = search rules in
    let more_fits : SFits w32 p.more = search rules in
    let value = c.in_ok-value.ensures ∙ ap f (to_z-of_z w32 p.value value_fits) in
    let more = to_z-of_z w32 p.more more_fits in
    let kept = to_z-of_z w32 c.args.c c.ranges.c in
    let made = c.clamp.ensures ∙ (λ i. Clamp (value i) (c.in_ok-low.ensures i) (c.in_ok-high.ensures i)) in
    let plan =
    (λ i. plus (made i) (more i)) ∙ c.clamp_plan-plan.ensures l h f g k
    ∙ (λ i. clamp_moved (kept i) (c.number_in.ensures i) (c.number_in-2.ensures i) (c.in_ok-ends.ensures i) f g k) in
    subst (λ (x : Term). IfOk c.plus.result (λ e. term_of e ≡ x)) plan c.plus.ensures

pub call_moved-returns : goal.call_moved-returns
call_moved-returns t c =
    let m = move_of c.args.mover.now in
    let name = string_bytes c.args.name.now in
    let own : c.as_slice.result.now ≡ m.origins name = search rules in
    let made = term_of c.in_ok-call.field-0 in
    let kept = to_z-of_z w32 c.args.c c.ranges.c in
    subst (λ (x : Term). IfOk c.plus.result (λ e. term_of e ≡ x))
    (ap (plus made) kept ∙ call_made m name (list_terms c.args.at.now) c.as_slice.result.now (list_terms c.in_ok-at.at.items) made c.args.c c.in_ok-call.ensures c.in_ok-at.ensures own)
    c.plus.ensures

pub all_moved-moved-requires : goal.all_moved-moved-requires
all_moved-moved-requires t c = omega (arith, index_within (move_of c.args.mover.now) c.args.at.now c.loop-index.index-index c.index-item.result c.loop-index-test.true c.index-item.is)

pub all_moved-loop-index-preserved : goal.all_moved-loop-index-preserved
all_moved-loop-index-preserved t c =
    let m = move_of c.args.mover.now in
    let long : c.len.result ≡ length c.loop-index.made.items = search rules in
    let fits : SFits w32 c.coordinate_against-c.result = search rules in
    let same = c.in_ok-moved.ensures ∙ ap (λ (d : ℤ). moved m d (term_of c.index-item.result)) (to_z-of_z w32 c.coordinate_against-c.result fits) in
    record {
      terms =
          ap list_terms c.in_ok-push.ensures.items
          ∙ more_moved m c.args.origin.now c.loop-index.made.items c.args.at.now c.loop-index.index-index c.in_ok-moved.field-0 c.index-item.result c.coordinate_against-c.result c.loop-index-test.true
          c.index-item.is (c.coordinate_against-c.ensures ∙ ap (coordinate_against c.args.origin.now) long) same c.loop-index.invariant.count c.loop-index.invariant.terms;
      count = ap length c.in_ok-push.ensures.items ∙ length_push c.loop-index.made.items c.in_ok-moved.field-0 ∙ ap (λ n. n + 1) c.loop-index.invariant.count;
    }

pub test_moved-returns-in_ok-compare_moved-in-Compare : goal.test_moved-returns-in_ok-compare_moved-in-Compare
test_moved-returns-in_ok-compare_moved-in-Compare t c =
    let same = c.in_ok-compare_moved-in-Compare.ensures ∙ ap (λ (x : Cond). test_moved (move_of c.args.mover.now) (test_of x)) (sym c.in-Compare.is) in
    subst (λ (x : Test). IfOk c.boxed_test.result (λ v. test_of v.value ≡ x)) same c.boxed_test.ensures

pub compare_moved-returns : goal.compare_moved-returns
compare_moved-returns t c =
    let m = move_of c.args.mover.now in
    let a = term_of c.args.left.now in
    let b = term_of c.args.right.now in
    let f = λ (d : ℤ). moved m d a in
    let g = λ (d : ℤ). moved m d b in
    let p = c.compare_plan-plan.result in
    let fits : SFits w32 p.left = search rules in
    let left = c.in_ok-left.ensures ∙ ap f (to_z-of_z w32 p.left fits) in
    (λ i. Compares c.args.by (left i) (c.in_ok-right.ensures i)) ∙ c.compare_plan-plan.ensures c.args.by b f g
    ∙ (λ i. compare_moved c.args.by (c.number_in.ensures i) (c.in_ok-ends.ensures i) f g)
