use Rattle.std.proofs.Common.{◌≡◌, ◌+◌, ◌≤◌, ◌++◌, ◌∷◌, [], ℤ, List, Bool, Some, None, length, map, take, drop, rules, sym, ap, ◌∙◌, subst, arith, SFits, w64}
use Rattle.std.specs.Bool.{MatchBool}
use Rattle.std.specs.Int.{int_max, int_min}
use Rattle.std.specs.Prelude.{string_bytes, if◌then◌else◌}
use Rattle.std.proofs.lemmas.Int.{to_z-of_z}
use Rattle.meaning.specs.Names.{bound}
use Rattle.numeric.specs.Apply.{apply, compare}
use Rattle.plan.specs.declared.stmt.Coordinate.{Coordinate}
use Rattle.plan.specs.Semantics.Found.{all_found, found, test_found, with}
use Rattle.tree.specs.Meaning.{applied, clamped, typed}
use Rattle.interpreter.specs.Codes.{term_in, terms_in, test_in}
use Rattle.interpreter.specs.declared.code.Codes.{Codes}
use Rattle.interpreter.specs.Evaluation.Indices.{indices_in}
use Rattle.interpreter.specs.Pieces.{found_in}
use Rattle.interpreter.specs.Rows.{Listed}
use Rattle.interpreter.proofs.Codes.{front_stays, number_behind, one_more_found, told}
use Rattle.interpreter.proofs.code.+run_code.Goals as goal

pub run_binary-run_operand-requires-2 : goal.run_binary-run_operand-requires-2
run_binary-run_operand-requires-2 t c =
    let k = indices_in (term_in c.args.right.now) in
    let room : length c.run_operand.new.stack.items + k ≤ c.run_operand.new.stack.room =
    subst (λ (r : Listed). length r.items + k ≤ r.room) (sym c.run_operand.ensures.stack) (omega (arith, c.requires.room)) in
    (search rules, (c.requires.ready, (c.requires.right, room)))

pub run_binary-returns-clause-value : goal.run_binary-returns-clause-value
run_binary-returns-clause-value t c =
    let r = c.args.reading.now in
    let variables = bound (map (λ (x : Coordinate). string_bytes x.variable) r.coordinates.now) r.numbers.now in
    let f = found variables (found_in r.piece.now r.memory.now) in
    let op = c.args.op in
    let ty = c.in_ok-ty.ty in
    let n = c.applied_number-number.result in
    let a = c.run_operand.new.out in
    let b = c.run_operand-2.new.out in
    let g : SFits w64 a = search rules in
    let h : SFits w64 b = search rules in
    let k : SFits w64 n = search rules in
    let left = told c.run_operand.result ty a (f (term_in c.args.left.now)) c.in_ok-ty.was c.run_operand.ensures.value in
    let right = told c.run_operand-2.result c.in_ok-run_operand.field-0 b (f (term_in c.args.right.now)) c.in_ok-run_operand.was c.run_operand-2.ensures.value in
    let number = to_z-of_z w64 n k ∙ c.applied_number-number.ensures ∙ (λ i. apply op ty (to_z-of_z w64 a g i) (to_z-of_z w64 b h i)) in
    c.put.ensures ∙ (λ i. Some (typed (c.result_type.ensures i) (number i))) ∙ sym (λ i. with (left i) (λ x. with (right i) (λ y. Some (applied op x y))))

pub run_clamp-run_operand-requires-2 : goal.run_clamp-run_operand-requires-2
run_clamp-run_operand-requires-2 t c =
    let k = indices_in (term_in c.args.low.now) in
    let room : length c.run_operand.new.stack.items + k ≤ c.run_operand.new.stack.room =
    subst (λ (r : Listed). length r.items + k ≤ r.room) (sym c.run_operand.ensures.stack) (omega (arith, c.requires.room)) in
    (search rules, (c.requires.ready, (c.requires.low, room)))

pub run_clamp-run_operand-requires-3 : goal.run_clamp-run_operand-requires-3
run_clamp-run_operand-requires-3 t c =
    let k = indices_in (term_in c.args.high.now) in
    let room : length c.run_operand-2.new.stack.items + k ≤ c.run_operand-2.new.stack.room =
    subst (λ (r : Listed). length r.items + k ≤ r.room) (sym (c.run_operand-2.ensures.stack ∙ c.run_operand.ensures.stack)) (omega (arith, c.requires.room)) in
    (search rules, (c.requires.ready, (c.requires.high, room)))

pub run_clamp-returns-clause-value : goal.run_clamp-returns-clause-value
run_clamp-returns-clause-value t c =
    let r = c.args.reading.now in
    let variables = bound (map (λ (x : Coordinate). string_bytes x.variable) r.coordinates.now) r.numbers.now in
    let f = found variables (found_in r.piece.now r.memory.now) in
    let ty = c.in_ok-ty.ty in
    let n = c.max-number.result in
    let m = c.min.result in
    let a = c.run_operand.new.out in
    let b = c.run_operand-2.new.out in
    let d = c.run_operand-3.new.out in
    let fa : SFits w64 a = search rules in
    let fb : SFits w64 b = search rules in
    let fd : SFits w64 d = search rules in
    let fm : SFits w64 m = search rules in
    let fn' : SFits w64 n = search rules in
    let value = told c.run_operand.result ty a (f (term_in c.args.value.now)) c.in_ok-ty.was c.run_operand.ensures.value in
    let low = told c.run_operand-2.result c.in_ok-run_operand.field-0 b (f (term_in c.args.low.now)) c.in_ok-run_operand.was c.run_operand-2.ensures.value in
    let high = told c.run_operand-3.result (c.in_ok-run_operand-2).field-0 d (f (term_in c.args.high.now)) (c.in_ok-run_operand-2).was c.run_operand-3.ensures.value in
    let least = to_z-of_z w64 m fm ∙ c.min.ensures.value ∙ (λ i. int_min (to_z-of_z w64 a fa i) (to_z-of_z w64 d fd i)) in
    let number = to_z-of_z w64 n fn' ∙ c.max-number.ensures.value ∙ (λ i. int_max (least i) (to_z-of_z w64 b fb i)) in
    c.put.ensures ∙ (λ i. Some (typed ty (number i))) ∙ sym (λ i. with (value i) (λ x. with (low i) (λ y. with (high i) (λ z. Some (clamped x y z)))))

pub run_indices-returns-in-Some-clause-before : goal.run_indices-returns-in-Some-clause-before
run_indices-returns-in-Some-clause-before t c =
    let z = c.run_operand.new.out in
    let fits : SFits w64 z = search rules in
    let old = c.args.stack.now.items in
    let new = c.run_indices.new.stack.items in
    let pushed : c.push.new.self.items ≡ old ++ z ∷ [] =
    ap (λ (r : Listed). r.items) c.push.ensures ∙ (λ i. (c.run_operand.ensures.stack i).items ++ to_z-of_z w64 z fits i ∷ []) in
    front_stays old new z (subst (λ (l : List ℤ). take (length l) new ≡ l) pushed c.run_indices.ensures.before)

pub run_indices-returns-in-Some-clause-found : goal.run_indices-returns-in-Some-clause-found
run_indices-returns-in-Some-clause-found t c =
    let z = c.run_operand.new.out in
    let fits : SFits w64 z = search rules in
    let old = c.args.stack.now.items in
    let new = c.run_indices.new.stack.items in
    let pushed : c.push.new.self.items ≡ old ++ z ∷ [] =
    ap (λ (r : Listed). r.items) c.push.ensures ∙ (λ i. (c.run_operand.ensures.stack i).items ++ to_z-of_z w64 z fits i ∷ []) in
    let behind = number_behind old new z (subst (λ (l : List ℤ). take (length l) new ≡ l) pushed c.run_indices.ensures.before) in
    let r = c.args.reading.now in
    let variables = bound (map (λ (x : Coordinate). string_bytes x.variable) r.coordinates.now) r.numbers.now in
    let look = found_in r.piece.now r.memory.now in
    let first = c.in-One.first in
    let rest = c.in-One.rest.value in
    let here = told c.run_operand.result c.in-Some.field-0 z (found variables look (term_in first)) c.in-Some.is c.run_operand.ensures.value in
    let all = all_found variables look (terms_in rest) in
    let F : Codes → List ℤ → Type 0 = λ e l. MatchBool c.run_indices.result (all_found variables look (terms_in e) ≡ Some (drop (length l) new)) (all_found variables look (terms_in e) ≡ None) in
    one_more_found c.run_indices.result (all_found variables look (terms_in c.args.at.now)) all (found variables look (term_in first)) (typed c.in-Some.field-0 z)
    (drop (length (old ++ z ∷ [])) new) (drop (length old) new)
    (ap (λ (e : Codes). all_found variables look (terms_in e)) c.in-One.is) here behind
    (subst (λ (e : Codes). F e (old ++ z ∷ [])) c.deref.ensures (subst (F c.deref.result.now) pushed c.run_indices.ensures.found))

pub run_select-run_operand-requires : goal.run_select-run_operand-requires
run_select-run_operand-requires t c =
    let k = indices_in (term_in c.args.yes.now) in
    let room : length c.run_test.new.stack.items + k ≤ c.run_test.new.stack.room =
    subst (λ (r : Listed). length r.items + k ≤ r.room) (sym c.run_test.ensures.stack) (omega (arith, c.requires.room)) in
    (search rules, (c.requires.ready, (c.requires.yes, room)))

pub run_select-run_operand-requires-2 : goal.run_select-run_operand-requires-2
run_select-run_operand-requires-2 t c =
    let k = indices_in (term_in c.args.no.now) in
    let room : length c.run_operand.new.stack.items + k ≤ c.run_operand.new.stack.room =
    subst (λ (r : Listed). length r.items + k ≤ r.room) (sym (c.run_operand.ensures.stack ∙ c.run_test.ensures.stack)) (omega (arith, c.requires.room)) in
    (search rules, (c.requires.ready, (c.requires.no, room)))

pub run_select-returns-else-chosen-clause-value : goal.run_select-returns-else-chosen-clause-value
run_select-returns-else-chosen-clause-value t c =
    let r = c.args.reading.now in
    let variables = bound (map (λ (x : Coordinate). string_bytes x.variable) r.coordinates.now) r.numbers.now in
    let look = found_in r.piece.now r.memory.now in
    let f = found variables look in
    let ty = c.in_ok-ty.ty in
    let other = c.in_ok-other_ty.other_ty in
    let a = c.run_operand.new.out in
    let b = c.run_operand-2.new.out in
    let fits : SFits w64 b = search rules in
    let chosen : test_found variables look (test_in c.args.cond.now) ≡ Some c.in_ok-chosen.chosen = sym c.run_test.ensures.value ∙ c.in_ok-chosen.was in
    let yes = told c.run_operand.result ty a (f (term_in c.args.yes.now)) c.in_ok-ty.was c.run_operand.ensures.value in
    let no = told c.run_operand-2.result other b (f (term_in c.args.no.now)) c.in_ok-other_ty.was c.run_operand-2.ensures.value in
    c.put.ensures ∙ (λ i. Some (typed other (to_z-of_z w64 b fits i))) ∙ ap (λ (t : Bool). Some (if t then typed ty a else typed other b)) (sym c.if-chosen.false)
    ∙ sym (λ i. with (chosen i) (λ t. with (yes i) (λ x. with (no i) (λ y. Some (if t then x else y)))))

pub run_test-returns-in_ok-run_operand-in-Compare-2-clause-value : goal.run_test-returns-in_ok-run_operand-in-Compare-2-clause-value
run_test-returns-in_ok-run_operand-in-Compare-2-clause-value t c =
    let r = c.args.reading.now in
    let variables = bound (map (λ (x : Coordinate). string_bytes x.variable) r.coordinates.now) r.numbers.now in
    let look = found_in r.piece.now r.memory.now in
    let f = found variables look in
    let by = c.in-Compare.by in
    let a = c.run_operand.new.out in
    let b = c.run_operand-in-Compare.new.out in
    let g : SFits w64 a = search rules in
    let h : SFits w64 b = search rules in
    let left = told c.run_operand.result c.in_ok-run_operand-in-Compare.field-0 a (f (term_in c.in-Compare.left)) c.in_ok-run_operand-in-Compare.was c.run_operand.ensures.value in
    let right = told c.run_operand-in-Compare.result (c.in_ok-run_operand-in-Compare-2).field-0 b (f (term_in c.in-Compare.right)) (c.in_ok-run_operand-in-Compare-2).was
    c.run_operand-in-Compare.ensures.value in
    let is = c.compare.ensures ∙ (λ i. compare by (to_z-of_z w64 a g i) (to_z-of_z w64 b h i)) in
    (λ i. Some (is i)) ∙ sym (λ i. with (left i) (λ x. with (right i) (λ y. Some (compare by x.number y.number)))) ∙ ap (λ e. test_found variables look (test_in e)) (sym c.in-Compare.is)
