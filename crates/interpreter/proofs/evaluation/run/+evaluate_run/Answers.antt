use Rattle.std.proofs.Common.{◌≡◌, ℕ, ◌+◌, ◌*◌, ◌<◌, List, ℤ, length, length-set, take, drop, slice_set, Option, Some, refl, sym, ap, ◌∙◌, rules, arith}
use Rattle.std.proofs.lemmas.List.{take_all}
use Rattle.plan.specs.Semantics.Memory.{Memory}
use Rattle.plan.specs.Semantics.Found.{found, with, all_found}
use Rattle.tree.specs.declared.expr.Expr.{Expr}
use Rattle.tree.specs.declared.value.Value.{Value}
use Rattle.tree.specs.Meaning.{typed}
use Rattle.tree.specs.Term.{term_of, list_terms, indices, Minus, Cast}
use Rattle.interpreter.specs.Evaluation.Lanes.{found_as, lane, lane_number, lanes_at}
use Rattle.interpreter.specs.Evaluation.Words.{word_at}
use Rattle.interpreter.proofs.FoundRuns.{found_minus, found_cast, found_call, if_some}
use Rattle.interpreter.proofs.Indices.{one_more}
use Rattle.interpreter.proofs.InRegisters.{lanes_more}
use Rattle.interpreter.proofs.evaluation.run.+evaluate_run.Goals as goal

pub evaluate_run-returns-in_ok-ty-in-Negate : goal.evaluate_run-returns-in_ok-ty-in-Negate
evaluate_run-returns-in_ok-ty-in-Negate g t c = λ m ok k lt.
    let vs = g.R.RunReader.variables c.args.reader.now k in
    let look = g.R.RunReader.look c.args.reader.now m in
    let same : c.deref-in-Negate.result.now ≡ c.in-Negate.value.value = search rules in
    ap (λ (e : Expr). found vs look (term_of e)) c.in-Negate.is
    ∙ ap (λ (e : Expr). found vs look (Minus (term_of e))) (sym same)
    ∙ found_minus vs look (term_of c.deref-in-Negate.result.now) (lane c.in_ok-value-in-Negate.value c.operand_run.new.out k) (c.in_ok-value-in-Negate.ensures.value m ok k (omega arith))
    ∙ ap (λ (v : Value). Some v) (sym (c.in_ok-ty-in-Negate.ensures k lt))

pub cast_run-returns-in_ok-ty-in-Call : goal.cast_run-returns-in_ok-ty-in-Call
cast_run-returns-in_ok-ty-in-Call g t c = λ m ok k lt.
    let vs = g.R.RunReader.variables c.args.reader.now k in
    let look = g.R.RunReader.look c.args.reader.now m in
    let ty = c.args.ty in
    let called : (n : List ℕ) (l : List Expr) → Option Value = λ n l. found_as (Some ty) (with (all_found vs look (indices (list_terms l))) (λ zs. look n zs)) in
    ap (λ (e : Expr). found vs look (Cast ty (term_of e))) c.in-Call.is
    ∙ ap (found_as (Some ty)) (found_call vs look c.in-Call.name c.in-Call.at c.in-Call.span)
    ∙ (λ i. called (sym c.as_str.ensures.value i) (sym c.deref.ensures.value i))
    ∙ c.in_ok-ty-in-Call.ensures m ok k lt

pub cast_run-returns-in_ok-wrap_lanes-in_default : goal.cast_run-returns-in_ok-wrap_lanes-in_default
cast_run-returns-in_ok-wrap_lanes-in_default g t c = λ m ok k lt.
    let vs = g.R.RunReader.variables c.args.reader.now k in
    let look = g.R.RunReader.look c.args.reader.now m in
    found_cast vs look c.args.ty (term_of c.args.expr.now) (lane c.in_ok-value-in_default.value c.operand_run.new.out k) (c.in_ok-value-in_default.ensures.value m ok k (omega arith))
    ∙ ap (λ (z : ℤ). Some (typed c.args.ty z)) (sym (c.in_ok-wrap_lanes-in_default.ensures k lt))

pub evaluate_run-returns-in_ok-ty-in-Call : goal.evaluate_run-returns-in_ok-ty-in-Call
evaluate_run-returns-in_ok-ty-in-Call g t c = λ m ok k lt.
    let vs = g.R.RunReader.variables c.args.reader.now k in
    let look = g.R.RunReader.look c.args.reader.now m in
    let called : (n : List ℕ) (l : List Expr) → Option Value = λ n l. with (all_found vs look (indices (list_terms l))) (λ zs. look n zs) in
    ap (λ (e : Expr). found vs look (term_of e)) c.in-Call.is
    ∙ found_call vs look c.in-Call.name c.in-Call.at c.in-Call.span
    ∙ (λ i. called (sym c.as_str.ensures.value i) (sym c.deref.ensures.value i))
    ∙ c.in_ok-ty-in-Call.ensures m ok k lt

pub call_run-loop-i-preserved : goal.call_run-loop-i-preserved
call_run-loop-i-preserved g t c =
    let l = c.loop-i in
    let at = c.args.at.now in
    let n = length c.usual_call.new.out in
    let x = c.in_ok-lanes.field-0 in
    let new = c.index_run.new.registers in
    let long : l.i < length l.lanes = omega (arith, l.invariant.four) in
    record {
      four = length-set l.lanes l.i x ∙ l.invariant.four;
      found = λ m ok k lt.
          one_more (g.R.RunReader.variables c.args.reader.now k) (g.R.RunReader.look c.args.reader.now m) at l.i c.index-at-i.result (lanes_at n (take l.i l.lanes) l.rest k)
          (lanes_at n (take (l.i + 1) (slice_set l.lanes l.i x)) new k) (lane x (drop (l.i * n) new) k) (lane_number x (drop (l.i * n) new) k) c.loop-i-test.true c.index-at-i.is
          (l.invariant.found m ok k lt) (c.in_ok-lanes.ensures.value m ok k lt) (lanes_more n k l.i l.lanes x l.rest new long lt c.index_run.ensures.before) refl;
    }

pub call_run-returns : goal.call_run-returns
call_run-returns g t c =
    let l = c.loop-i in
    let r = c.args.reader.now in
    let name = c.args.name.now in
    let at = c.args.at.now in
    let out = c.look_run.new.out in
    let i : l.i ≡ length at = omega arith in
    let same : length c.usual_call.new.out ≡ length out = omega arith in
    if_some c.look_run.result
    (λ u. (m : Memory Value) → g.R.RunReader.agrees r m → (k : ℕ) → k < length out → found_as c.args.cast (g.R.RunReader.look r m name (lanes_at (length out) (take (length at) l.lanes) l.rest k)) ≡ Some (typed u (word_at u out k))) _
    (λ u h m ok k lt.
    ap (λ (o : Option (List ℤ)). found_as c.args.cast (with {B = Value} o (λ zs. g.R.RunReader.look r m name zs)))
    (ap (λ (e : List Expr). all_found (g.R.RunReader.variables r k) (g.R.RunReader.look r m) (indices (list_terms e))) (sym (take_all l.i at (omega (arith, i))))
    ∙ l.invariant.found m ok k (omega arith) ∙ (λ j. Some (lanes_at (same j) (take (i j) l.lanes) l.rest k)))
    ∙ h m ok k lt)
    c.look_run.ensures
