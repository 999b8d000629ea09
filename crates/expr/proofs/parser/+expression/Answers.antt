use Rattle.std.proofs.Common.{◌≡◌, ◌+◌, ◌-◌, ◌++◌, List, Err, ◌∷◌, [], take, drop, suc, length, length-append, refl, sym, ap, subst, ◌∙◌, inl, inr, arith, rules}
use Rattle.std.proofs.lemmas.Result.{err_from_is_err_and, IfOk-weaker}
use Rattle.tree.specs.declared.token.token.Symbol.TheVariants as symbol
use Rattle.expr.specs.Places.{Part, Stands, TestStands, AreOpening, FrontAt}
use Rattle.tree.specs.declared.token.token.Token.TheVariants as token
use Rattle.tree.specs.declared.token.token.Word.TheVariants as word
use Rattle.numeric.specs.declared.op.Op.TheVariants as op
use Rattle.expr.proofs.Fronts.{item_at, extreme_at, both_are, test_front, then_at, node_at, test_at, front_of, in_brackets, symbol_at, separates_comma, separates_end, opened, opened_all, one_more_index, last_index, no_index}
use Rattle.tree.specs.Token.Cursor.{kinds}
use Rattle.tree.specs.Term.{term_of, list_terms}
use Rattle.expr.specs.Parsing.{part, operand_level, within, chained}
use Rattle.expr.proofs.Turns.{join_ends, join_stops, join_too_large, join_goes_on, join_is_done, join_has_more, index_stops, bracket_stops, bracket_ends, index_goes_on, too_many, bracket_refused, bracket_closed, all_are_closed}
use Rattle.expr.proofs.Openings.{unary_read, unary_stops}
use Rattle.tree.specs.declared.token.token.Token.{Token}
use Rattle.tree.specs.Term.{Term}
use Rattle.tree.specs.declared.expr.Expr.{Expr}
use Rattle.std.proofs.lemmas.List.{length-map}
use Rattle.expr.specs.declared.error.Refusal.TheVariants.{TooLarge}
use Rattle.expr.specs.declared.parser.Level.{Level}
use Rattle.expr.specs.declared.parser.Level.TheVariants as level
use Rattle.expr.proofs.parser.+expression.Goals as goal

part_none : (l : Level) (ts : List Token) → part l (within 512 0) ts ≡ Err TooLarge
unfolding within
part_none level.Sum ts = refl
part_none level.Product ts = refl
part_none level.Unary ts = refl

one_more : (old new : List Expr) (a : Term) → list_terms new ≡ list_terms old ++ a ∷ [] → length new ≡ length old + 1
one_more old new a h = sym (length-map new term_of) ∙ ap length h ∙ length-append (list_terms old) (a ∷ []) ∙ ap (λ n. n + 1) (length-map old term_of)

pub close-returns-in_err-next-clause-read : goal.close-returns-in_err-next-clause-read
close-returns-in_err-next-clause-read t c =
    let p = err_from_is_err_and c.from_residual.result c.from_residual.ensures.1 in
    rw (p.1, p.2) (bracket_refused 512 c.args.below (within 512 c.args.below) (length c.args.brackets.now) c.loop-i.i (term_of c.loop-i.value.expr) (kinds c.loop-i.rest.now) _ c.loop-i.invariant.read c.in_err-next.field-0.0 c.loop-i-test.true c.in_err-next.ensures.read)

pub close-loop-i-preserved : goal.close-loop-i-preserved
close-loop-i-preserved t c = record {
  read = bracket_closed 512 c.args.below (within 512 c.args.below) (length c.args.brackets.now) c.loop-i.i (term_of c.loop-i.value.expr) (kinds c.loop-i.rest.now) _ c.loop-i.invariant.read (term_of c.in_ok-next.next.expr) (kinds c.in_ok-next.after.now) c.loop-i-test.true c.in_ok-next.ensures.read;
  placed = λ ls all h. c.in_ok-next.ensures.placed (drop (length c.args.brackets.now - c.loop-i.i) c.args.brackets.now ++ ls) (drop (length c.args.brackets.now - (c.loop-i.i + 1)) c.args.brackets.now ++ ls) (opened c.args.brackets.now ls c.loop-i.i c.index-brackets-brackets.result c.loop-i-test.true all) (c.loop-i.invariant.placed ls all h);
}

pub close-returns-clause-read : goal.close-returns-clause-read
close-returns-clause-read t c =
    all_are_closed 512 c.args.below (within 512 c.args.below) (length c.args.brackets.now) c.loop-i.i (term_of c.loop-i.value.expr) (kinds c.loop-i.rest.now) _ c.loop-i.invariant.read c.loop-i-test.false

pub condition-returns-then-levels-eq0-clause-read : goal.condition-returns-then-levels-eq0-clause-read
unfolding within
condition-returns-then-levels-eq0-clause-read t c = rw c.if-levels-eq0.true refl

pub condition-returns-clause-read : goal.condition-returns-clause-read
unfolding within
condition-returns-clause-read t c = let n : c.args.levels ≡ suc (c.args.levels - 1) = omega arith in rw n c.test.ensures.read

pub part-returns-then-levels-eq0-clause-read : goal.part-returns-then-levels-eq0-clause-read
part-returns-then-levels-eq0-clause-read t c = rw c.if-levels-eq0.true (part_none c.args.level (kinds c.args.tokens.now))

pub part-returns-in-Sum-clause-read : goal.part-returns-in-Sum-clause-read
unfolding within
part-returns-in-Sum-clause-read t c = let n : c.args.levels ≡ suc (c.args.levels - 1) = omega arith in rw (c.in-Sum.is, n) c.sum.ensures.read

pub part-returns-in-Product-clause-read : goal.part-returns-in-Product-clause-read
unfolding within
part-returns-in-Product-clause-read t c = let n : c.args.levels ≡ suc (c.args.levels - 1) = omega arith in rw (c.in-Product.is, n) c.product.ensures.read

pub part-returns-in-Unary-clause-read : goal.part-returns-in-Unary-clause-read
unfolding within
part-returns-in-Unary-clause-read t c = let n : c.args.levels ≡ suc (c.args.levels - 1) = omega arith in rw (c.in-Unary.is, n) c.unary.ensures.read

pub indices-returns-in_err-index-clause-read : goal.indices-returns-in_err-index-clause-read
indices-returns-in_err-index-clause-read t c =
    let p = err_from_is_err_and c.from_residual.result c.from_residual.ensures.1 in
    rw (p.1, p.2) (index_stops (within 512 c.args.below).sum 512 c.loop.counter (list_terms c.loop.found.items.items) (kinds c.loop.rest.now) _ c.loop.invariant.read c.in_err-index.field-0.0 c.loop-test.true c.in_err-index.ensures.read)

pub indices-returns-in_err-end-clause-read : goal.indices-returns-in_err-end-clause-read
indices-returns-in_err-end-clause-read t c =
    let p = err_from_is_err_and c.from_residual-in_err-end.result c.from_residual-in_err-end.ensures.1 in
    rw (p.1, p.2) (bracket_stops (within 512 c.args.below).sum 512 c.loop.counter (list_terms c.loop.found.items.items) (kinds c.loop.rest.now) _ c.loop.invariant.read c.in_err-end.field-0.0 (term_of c.in_ok-index.index.expr) (kinds c.in_ok-index.next.now) c.loop-test.true c.in_ok-index.ensures.read c.in_default.ensures.kinds c.in_err-end.ensures.read)

pub indices-returns-in_default-clause-read : goal.indices-returns-in_default-clause-read
indices-returns-in_default-clause-read t c =
    rw c.in_ok-found.ensures.read (bracket_ends (within 512 c.args.below).sum 512 c.loop.counter (list_terms c.loop.found.items.items) (kinds c.loop.rest.now) _ c.loop.invariant.read (term_of c.in_ok-index.index.expr) (kinds c.in_ok-index.next.now) (kinds c.in_ok-end.next.now) c.loop-test.true c.in_ok-index.ensures.read c.in_default.ensures.kinds c.in_ok-end.ensures.read)

pub indices-loop-preserved : goal.indices-loop-preserved
indices-loop-preserved t c = record {
  count = one_more c.loop.found.items.items c.in_ok-found.found.items.items (term_of c.in_ok-index.index.expr) c.in_ok-found.ensures.read ∙ ap (λ n. n + 1) c.loop.invariant.count;
  read = rw c.in_ok-found.ensures.read (index_goes_on (within 512 c.args.below).sum 512 c.loop.counter (list_terms c.loop.found.items.items) (kinds c.loop.rest.now) _ c.loop.invariant.read (term_of c.in_ok-index.index.expr) (kinds c.in_ok-index.next.now) (kinds c.in-Some.next.now) c.loop-test.true c.in_ok-index.ensures.read c.in-Some.ensures.kinds);
  placed = one_more_index c.loop.found.items.items c.in_ok-found.found.items.items c.in_ok-index.index.expr c.args.tokens.now c.loop.rest.now c.in-Some.next.now c.in_ok-found.ensures.items c.loop.invariant.placed
      (front_of (then_at c.in_ok-index.ensures.placed (separates_comma (symbol_at symbol.Comma c.in_ok-index.next.now c.in-Some.next.now _ c.in-Some.ensures.kinds c.in-Some.ensures.rest))));
}

pub indices-returns-clause-read : goal.indices-returns-clause-read
indices-returns-clause-read t c = too_many (within 512 c.args.below).sum 512 c.loop.counter (list_terms c.loop.found.items.items) (kinds c.loop.rest.now) _ c.loop.invariant.read c.loop-test.false

pub join-returns-in_default-clause-read : goal.join-returns-in_default-clause-read
unfolding chained
join-returns-in_default-clause-read t c = join_ends 512 c.args.below c.args.level (part (operand_level c.args.level) (within 512 c.args.below)) c.args.below c.loop.counter (term_of c.loop.left.expr) (kinds c.loop.rest.now) _ c.loop.invariant.read c.loop-test.true c.in_default.ensures.read

pub join-returns-in_err-right-clause-read : goal.join-returns-in_err-right-clause-read
unfolding chained
join-returns-in_err-right-clause-read t c =
    let p = err_from_is_err_and c.from_residual.result c.from_residual.ensures.1 in
    rw (p.1, p.2) (join_stops 512 c.args.below c.args.level (part (operand_level c.args.level) (within 512 c.args.below)) c.args.below c.loop.counter (term_of c.loop.left.expr) (kinds c.loop.rest.now) _ c.loop.invariant.read c.in_err-right.field-0.0 c.in-Some.op (kinds c.in-Some.next.now) c.loop-test.true c.in-Some.ensures.read (rw c.operand_level.ensures at c.in_err-right.ensures.read))

pub join-returns-in_err-left-clause-read : goal.join-returns-in_err-left-clause-read
unfolding chained
join-returns-in_err-left-clause-read t c =
    let p = err_from_is_err_and c.from_residual-in_err-left.result c.from_residual-in_err-left.ensures.1 in
    rw (p.1, p.2) (join_too_large 512 c.args.below c.args.level (part (operand_level c.args.level) (within 512 c.args.below)) c.args.below c.loop.counter (term_of c.loop.left.expr) (kinds c.loop.rest.now) _ c.loop.invariant.read c.in_err-left.field-0.0 c.in-Some.op (kinds c.in-Some.next.now) (kinds c.in_ok-right.next.now) (term_of c.in_ok-right.right.expr) c.loop-test.true c.in-Some.ensures.read (rw c.operand_level.ensures at c.in_ok-right.ensures.read) c.in_err-left.ensures.read)

pub join-loop-preserved : goal.join-loop-preserved
join-loop-preserved t c = record {
  read = join_goes_on 512 c.args.below c.args.level (part (operand_level c.args.level) (within 512 c.args.below)) c.args.below c.loop.counter (term_of c.loop.left.expr) (kinds c.loop.rest.now) _ c.loop.invariant.read c.in-Some.op (kinds c.in-Some.next.now) (kinds c.in_ok-right.next.now) (term_of c.in_ok-right.right.expr) (term_of c.in_ok-left.left.expr) c.loop-test.true c.in-Some.ensures.read (rw c.operand_level.ensures at c.in_ok-right.ensures.read) c.in_ok-left.ensures.read;
  placed = λ ls h. node_at (Stands c.in_ok-left.left.expr) c.in_ok-left.left.extent c.through-span.result c.in_ok-left.ensures.at c.through-span.ensures (λ xs k o. c.in_ok-left.ensures.stands xs k (inl o))
      (then_at (c.loop.invariant.placed ls h) (then_at c.in-Some.ensures.placed c.in_ok-right.ensures.placed));
}

pub join-returns-in-None-clause-read : goal.join-returns-in-None-clause-read
unfolding chained
join-returns-in-None-clause-read t c = join_is_done 512 c.args.below c.args.level (part (operand_level c.args.level) (within 512 c.args.below)) c.args.below c.loop.counter (term_of c.loop.left.expr) (kinds c.loop.rest.now) _ c.loop.invariant.read c.loop-test.false c.in-None.ensures.read

pub join-returns-in-Some-operator_at-clause-read : goal.join-returns-in-Some-operator_at-clause-read
unfolding chained
join-returns-in-Some-operator_at-clause-read t c =
    let p = c.in-Some-operator_at.field-0 in
    join_has_more 512 c.args.below c.args.level (part (operand_level c.args.level) (within 512 c.args.below)) c.args.below c.loop.counter (term_of c.loop.left.expr) (kinds c.loop.rest.now) _ c.loop.invariant.read (p.0, kinds p.1.now) c.loop-test.false c.in-Some-operator_at.ensures.read

pub unary-returns-in_err-first-clause-read : goal.unary-returns-in_err-first-clause-read
unary-returns-in_err-first-clause-read t c =
    let p = err_from_is_err_and c.from_residual.result c.from_residual.ensures.1 in
    rw (p.1, p.2) (unary_stops 512 c.args.below (within 512 c.args.below) c.args.tokens.now c.split_at.result.1.now c.opening.result c.in_err-first.field-0.0 c.opening.ensures.count c.split_at.ensures.back c.in_err-first.ensures.read)

pub unary-returns-clause-read : goal.unary-returns-clause-read
unary-returns-clause-read t c =
    let e = unary_read 512 c.args.below (within 512 c.args.below) c.args.tokens.now c.split_at.result.0.now c.split_at.result.1.now c.opening.result (term_of c.in_ok-first.first.expr) (kinds c.in_ok-first.rest.now) c.opening.ensures.count c.split_at.ensures.front_len c.split_at.ensures.back c.in_ok-first.ensures.read in
    let h = c.split_at.ensures in
    rw e c.close.ensures.read

pub cast-returns-clause-placed : goal.cast-returns-clause-placed
cast-returns-clause-placed t c ls h =
    node_at (Stands c.in_ok-cast.cast.expr) c.in_ok-cast.cast.extent c.through.result c.in_ok-cast.ensures.at c.through.ensures c.in_ok-cast.ensures.stands
    (then_at h (then_at c.in_ok-rest.ensures.placed (then_at c.in_ok-value.ensures.placed c.in_ok-end.ensures.placed)))

pub negation-returns-clause-placed : goal.negation-returns-clause-placed
negation-returns-clause-placed t c ls h =
    node_at (Stands c.in_ok-negate.field-0.expr) c.in_ok-negate.field-0.extent c.through-span.result c.in_ok-negate.ensures.at c.through-span.ensures c.in_ok-negate.ensures.stands (then_at h c.in_ok-value.ensures.placed)

pub pair-returns-clause-placed : goal.pair-returns-clause-placed
pair-returns-clause-placed t c ls h =
    node_at (Stands c.in_ok-both.both.expr) c.in_ok-both.both.extent c.through.result c.in_ok-both.ensures.at c.through.ensures (λ xs k o. c.in_ok-both.ensures.stands xs k (inr o))
    (then_at h (then_at c.in_ok-rest.ensures.placed (then_at c.in_ok-left.ensures.placed (then_at c.in_ok-rest-2.ensures.placed (then_at c.in_ok-right.ensures.placed c.in_ok-end.ensures.placed)))))

pub clamp-returns-clause-placed : goal.clamp-returns-clause-placed
clamp-returns-clause-placed t c ls h =
    node_at (Stands c.in_ok-clamped.clamped.expr) c.in_ok-clamped.clamped.extent c.through.result c.in_ok-clamped.ensures.at c.through.ensures c.in_ok-clamped.ensures.stands
    (then_at h (then_at c.in_ok-rest.ensures.placed (then_at c.in_ok-value.ensures.placed (then_at c.in_ok-rest-2.ensures.placed (then_at c.in_ok-low.ensures.placed (then_at c.in_ok-rest-3.ensures.placed (then_at c.in_ok-high.ensures.placed c.in_ok-end.ensures.placed)))))))

pub select-returns-clause-placed : goal.select-returns-clause-placed
select-returns-clause-placed t c ls h =
    node_at (Stands c.in_ok-choice.choice.expr) c.in_ok-choice.choice.extent c.through.result c.in_ok-choice.ensures.at c.through.ensures c.in_ok-choice.ensures.stands
    (then_at h (then_at c.in_ok-rest.ensures.placed (then_at (test_front c.in_ok-cond.cond.cond c.in_ok-cond.ensures.placed) (then_at c.in_ok-rest-2.ensures.placed (then_at c.in_ok-yes.ensures.placed (then_at c.in_ok-rest-3.ensures.placed (then_at c.in_ok-no.ensures.placed c.in_ok-end.ensures.placed)))))))

pub named-returns-in_ok-call-in-Some-clause-placed : goal.named-returns-in_ok-call-in-Some-clause-placed
named-returns-in_ok-call-in-Some-clause-placed t c ls h =
    let bracket = symbol_at symbol.LeftBracket c.args.tokens.now c.in-Some.rest.now _ c.in-Some.ensures.kinds c.in-Some.ensures.rest in
    node_at (Stands c.in_ok-call-in-Some.call.expr) c.in_ok-call-in-Some.call.extent c.through.result c.in_ok-call-in-Some.ensures.at c.through.ensures c.in_ok-call-in-Some.ensures.stands (then_at h (then_at bracket c.in_ok-found-in-Some.ensures.placed))

pub enclosed-returns-clause-placed : goal.enclosed-returns-clause-placed
enclosed-returns-clause-placed t c ls vs o h =
    in_brackets c.through-value.result c.through-value.ensures (then_at o (then_at (c.in_ok-sum.ensures.placed ls (c.in_ok-product.ensures.placed ls h)) c.in_ok-end.ensures.placed))

pub indices-returns-in_default-clause-placed : goal.indices-returns-in_default-clause-placed
indices-returns-in_default-clause-placed t c =
    last_index c.loop.found.items.items c.in_ok-found.found.items.items c.in_ok-index.index.expr _ c.args.tokens.now c.loop.rest.now c.in_ok-end.next.now c.in_ok-found.ensures.items c.loop.invariant.placed
    (then_at c.in_ok-index.ensures.placed (separates_end c.in_ok-end.ensures.placed))

pub compared-returns-clause-placed : goal.compared-returns-clause-placed
compared-returns-clause-placed t c =
    test_at (TestStands c.in_ok-compare.field-0.cond) _ refl c.in_ok-compare.ensures.stands (then_at c.in_ok-left.ensures.placed (then_at c.in_ok-by.ensures.placed c.in_ok-right.ensures.placed))

pub denied-returns-clause-placed : goal.denied-returns-clause-placed
denied-returns-clause-placed t c ls h =
    test_at (TestStands c.in_ok-denied.denied.cond) c.through.result c.through.ensures c.in_ok-denied.ensures.stands (then_at h (then_at c.in_ok-rest.ensures.placed (then_at (test_front c.in_ok-cond.cond.cond c.in_ok-cond.ensures.placed) c.in_ok-end.ensures.placed)))

pub combined-returns-clause-placed : goal.combined-returns-clause-placed
combined-returns-clause-placed t c ls h =
    test_at (TestStands c.in_ok-both.both.cond) c.through.result c.through.ensures c.in_ok-both.ensures.stands (then_at h (then_at c.in_ok-rest.ensures.placed (then_at (test_front c.in_ok-first.first.cond c.in_ok-first.ensures.placed) (then_at c.in_ok-rest-2.ensures.placed (then_at (test_front c.in_ok-second.second.cond c.in_ok-second.ensures.placed) c.in_ok-end.ensures.placed)))))

pub unary-returns-clause-placed : goal.unary-returns-clause-placed
unary-returns-clause-placed t c =
    let split = c.split_at.ensures in
    let all : AreOpening c.split_at.result.0.now = opened_all c.args.tokens.now c.split_at.result.0.now c.opening.result c.opening.ensures.count split.front in
    let whole : c.split_at.result.0.now ++ c.split_at.result.1.now ≡ c.args.tokens.now = both_are c.opening.result c.args.tokens.now c.split_at.result.0.now c.split_at.result.1.now split.front split.back in
    IfOk-weaker c.close.result _ _ (λ r more. subst (λ xs. FrontAt (Part (Stands r.0.expr)) r.0.extent xs r.1.now) whole (more c.split_at.result.1.now all c.in_ok-first.ensures.placed)) c.close.ensures.placed

pub bare-returns-in-Symbol-Minus-clause-placed : goal.bare-returns-in-Symbol-Minus-clause-placed
bare-returns-in-Symbol-Minus-clause-placed t c =
    IfOk-weaker c.negation.result _ _ (λ r more. more c.args.tokens.now (item_at (token.Symbol symbol.Minus) c.args.tokens.now c.first-item.result c.in-len1-up.len_at_least c.first-item.is (search rules))) c.negation.ensures.placed

pub bare-returns-in_ok-number-in-Number-clause-placed : goal.bare-returns-in_ok-number-in-Number-clause-placed
bare-returns-in_ok-number-in-Number-clause-placed t c =
    node_at (Stands c.in_ok-number-in-Number.field-0.expr) c.in_ok-number-in-Number.field-0.extent _ c.in_ok-number-in-Number.ensures.at refl c.in_ok-number-in-Number.ensures.stands (item_at (token.Number c.in-Number.literal) c.args.tokens.now c.first-item.result c.in-len1-up.len_at_least c.first-item.is c.in-Number.is)

pub bare-returns-in-Name-clause-placed : goal.bare-returns-in-Name-clause-placed
bare-returns-in-Name-clause-placed t c =
    IfOk-weaker c.named.result _ _ (λ r more. more c.args.tokens.now (item_at (token.Name c.in-Name.name) c.args.tokens.now c.first-item.result c.in-len1-up.len_at_least c.first-item.is c.in-Name.is)) c.named.ensures.placed

pub bare-returns-in-Type-clause-placed : goal.bare-returns-in-Type-clause-placed
bare-returns-in-Type-clause-placed t c =
    IfOk-weaker c.cast.result _ _ (λ r more. more c.args.tokens.now (item_at (token.Type c.in-Type.ty) c.args.tokens.now c.first-item.result c.in-len1-up.len_at_least c.first-item.is c.in-Type.is)) c.cast.ensures.placed

pub bare-returns-in-Word-Min-clause-placed : goal.bare-returns-in-Word-Min-clause-placed
bare-returns-in-Word-Min-clause-placed t c =
    IfOk-weaker c.pair.result _ _ (λ r more. more c.args.tokens.now (extreme_at word.Min op.Min refl (item_at (token.Word word.Min) c.args.tokens.now c.first-item.result c.in-len1-up.len_at_least c.first-item.is (search rules)))) c.pair.ensures.placed

pub bare-returns-in-Word-Max-clause-placed : goal.bare-returns-in-Word-Max-clause-placed
bare-returns-in-Word-Max-clause-placed t c =
    IfOk-weaker c.pair-in-Word-Max.result _ _ (λ r more. more c.args.tokens.now (extreme_at word.Max op.Max refl (item_at (token.Word word.Max) c.args.tokens.now c.first-item.result c.in-len1-up.len_at_least c.first-item.is (search rules)))) c.pair-in-Word-Max.ensures.placed

pub bare-returns-in-Word-Clamp-clause-placed : goal.bare-returns-in-Word-Clamp-clause-placed
bare-returns-in-Word-Clamp-clause-placed t c =
    IfOk-weaker c.clamp.result _ _ (λ r more. more c.args.tokens.now (item_at (token.Word word.Clamp) c.args.tokens.now c.first-item.result c.in-len1-up.len_at_least c.first-item.is (search rules))) c.clamp.ensures.placed

pub bare-returns-in-Word-Select-clause-placed : goal.bare-returns-in-Word-Select-clause-placed
bare-returns-in-Word-Select-clause-placed t c =
    IfOk-weaker c.select.result _ _ (λ r more. more c.args.tokens.now (item_at (token.Word word.Select) c.args.tokens.now c.first-item.result c.in-len1-up.len_at_least c.first-item.is (search rules))) c.select.ensures.placed

pub test-returns-in-Word-Not-clause-placed : goal.test-returns-in-Word-Not-clause-placed
test-returns-in-Word-Not-clause-placed t c =
    IfOk-weaker c.denied.result _ _ (λ r more. more c.args.tokens.now (item_at (token.Word word.Not) c.args.tokens.now c.first-item.result c.in-len1-up.len_at_least c.first-item.is (search rules))) c.denied.ensures.placed

pub test-returns-in-Word-All-clause-placed : goal.test-returns-in-Word-All-clause-placed
test-returns-in-Word-All-clause-placed t c =
    IfOk-weaker c.combined.result _ _ (λ r more. more c.args.tokens.now (item_at (token.Word word.All) c.args.tokens.now c.first-item.result c.in-len1-up.len_at_least c.first-item.is (search rules))) c.combined.ensures.placed

pub test-returns-in-Word-Any-clause-placed : goal.test-returns-in-Word-Any-clause-placed
test-returns-in-Word-Any-clause-placed t c =
    IfOk-weaker c.combined-in-Word-Any.result _ _ (λ r more. more c.args.tokens.now (item_at (token.Word word.Any) c.args.tokens.now c.first-item.result c.in-len1-up.len_at_least c.first-item.is (search rules))) c.combined-in-Word-Any.ensures.placed
