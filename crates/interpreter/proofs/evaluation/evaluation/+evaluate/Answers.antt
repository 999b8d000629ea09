use Rattle.std.proofs.Common.{◌≡◌, ℕ, ◌+◌, ◌<◌, ◌≤◌, length, length-append, List, [], ◌∷◌, ◌++◌, append_assoc, subst, rules, refl, sym, ap, ◌∙◌, arith, ℤ, w64, SFits, to_z, of_z}
use Rattle.std.proofs.lemmas.Int.{to_z-of_z}
use Rattle.std.proofs.lemmas.List.{append-nil}
use Rattle.plan.specs.Semantics.Found.{found, with, all_found}
use Rattle.tree.specs.Term.{term_of, list_terms, indices}
use Rattle.tree.specs.declared.expr.Expr.{Expr}
use Rattle.tree.specs.declared.expr.Cond.TheViews.{the_lemmas}
use Rattle.interpreter.specs.Evaluation.Indices.{indices_in, indices_in_all}
use Rattle.interpreter.specs.Rows.{Listed}
use Rattle.interpreter.proofs.Indices.{found-call, left, left_all, left_more, missing, one_more, room-call}
use Rattle.interpreter.proofs.evaluation.evaluation.+evaluate.Goals as goal

pub evaluate-call-requires : goal.evaluate-call-requires
evaluate-call-requires g t c κs within =
    let e : indices_in (term_of c.args.expr.now) ≡ indices_in_all (indices (list_terms c.deref.result.now)) =
    ap (λ (x : Expr). indices_in (term_of x)) c.in-Call.is ∙ room-call c.in-Call.name c.in-Call.at c.in-Call.span ∙ ap (λ (l : List Expr). indices_in_all (indices (list_terms l))) (sym c.deref.ensures.value) in
    let room : length c.args.stack.now.items + indices_in_all (indices (list_terms c.deref.result.now)) ≤ c.args.stack.now.room =
    subst (λ (n : ℕ). length c.args.stack.now.items + n ≤ c.args.stack.now.room) e c.requires.room in
    (search (rules, the_lemmas), (search rules, room))

pub evaluate-returns-in-Call-clause-value : goal.evaluate-returns-in-Call-clause-value
evaluate-returns-in-Call-clause-value g t c =
    let vs = g.R.Reader.variables c.args.reader.now in
    let look = g.R.Reader.look c.args.reader.now in
    let is = ap (λ e. found vs look (term_of e)) c.in-Call.is ∙ found-call vs look c.in-Call.name c.in-Call.at c.in-Call.span in
    c.call.ensures.value ∙ (λ i. with (all_found vs look (indices (list_terms (c.deref.ensures.value i)))) (λ zs. look (c.as_str-in-Call.ensures.value i) zs)) ∙ sym is

pub numbers-loop-index-init : goal.numbers-loop-index-init
numbers-loop-index-init g t c =
    let all = left_all c.args.at.now in
    record {
      room = omega (arith, all, c.requires.room);
      behind = record { more = []; items = sym (append-nil c.args.stack.now.items); room = refl; found = refl };
    }

pub numbers-operand-requires : goal.numbers-operand-requires
numbers-operand-requires g t c κs within =
    let more = left_more c.args.at.now c.loop-index.index-index c.index-item.result c.loop-index-test.true c.index-item.is in
    (first_of (search (rules, the_lemmas), omega arith), (search rules, omega (arith, more, c.loop-index.invariant.room)))

pub numbers-returns-in_default-clause-found : goal.numbers-returns-in_default-clause-found
numbers-returns-in_default-clause-found g t c =
    let vs = g.R.Reader.variables c.args.reader.now in
    let look = g.R.Reader.look c.args.reader.now in
    missing vs look c.args.at.now c.loop-index.index-index c.index-item.result c.loop-index-test.true c.index-item.is (sym c.operand.ensures.value ∙ c.in_default.is)

pub numbers-push-requires : goal.numbers-push-requires
numbers-push-requires g t c =
    let more = left_more c.args.at.now c.loop-index.index-index c.index-item.result c.loop-index-test.true c.index-item.is in
    subst (λ (r : Listed). length r.items < r.room) (sym c.operand.ensures.stack) (omega (arith, more, c.loop-index.invariant.room))

pub numbers-loop-index-preserved : goal.numbers-loop-index-preserved
numbers-loop-index-preserved g t c =
    let vs = g.R.Reader.variables c.args.reader.now in
    let look = g.R.Reader.look c.args.reader.now in
    let at = c.args.at.now in
    let i = c.loop-index.index-index in
    let e = c.index-item.result in
    let l = c.loop-index in
    let h = l.invariant.behind in
    let v = c.in-Some.value in
    let fits : SFits w64 v.number = search rules in
    let n : ℤ = to_z w64 (of_z w64 v.number) in
    let more = left_more at i e c.loop-index-test.true c.index-item.is in
    let pushed : c.push.new.self ≡ record { items = l.stack.items ++ n ∷ []; room = l.stack.room } =
    c.push.ensures ∙ ap (λ (r : Listed). record { items = r.items ++ n ∷ []; room = r.room }) c.operand.ensures.stack in
    let long = length-append l.stack.items (n ∷ []) in
    record {
      room = subst (λ (r : Listed). length r.items + left at (i + 1) ≤ r.room) (sym pushed) (omega (arith, more, long, l.invariant.room));
      behind = record {
        more = h.more ++ n ∷ [];
        items = ap (λ (r : Listed). r.items) pushed ∙ ap (λ (q : List ℤ). q ++ n ∷ []) h.items ∙ append_assoc c.args.stack.now.items h.more (n ∷ []);
        room = ap (λ (r : Listed). r.room) pushed ∙ h.room;
        found = one_more vs look at i e h.more (h.more ++ n ∷ []) v n c.loop-index-test.true c.index-item.is h.found (sym c.operand.ensures.value ∙ c.in-Some.is) refl (to_z-of_z w64 v.number fits);
      };
    }
