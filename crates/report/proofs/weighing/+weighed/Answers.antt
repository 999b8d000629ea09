use Rattle.std.proofs.Common.{◌≡◌, ◌+◌, ◌<◌, ◌≤◌, length, replicate, w64, SFits, ◌^◌, ◌∷◌, ◌++◌, [], ℕ, List, refl, sym, ap, ◌∙◌, subst, arith, rules, ◌≤ℤ◌, ◌<ℤ◌}
use Rattle.plan.specs.declared.stmt.Stmt.{Stmt}
use Rattle.plan.specs.Lists.{list_statements}
use Rattle.plan.specs.Plan.{Seq, Statement, block}
use Rattle.plan.specs.View.{statement_of}
use Rattle.plan.proofs.Rows.{statement_of-seq}
use Rattle.report.specs.Subject.{counted_of}
use Rattle.report.specs.Weighing.{all_weighed, ArePassedOn, IsHandedBy, IsWeighedTally, Weighed}
use Rattle.report.proofs.Handing.{first_weighed, guard_weighed, guarded_none, later_weighed, few_is, inner_weighed, long_weighed, loop_weighed, not_so, one_of, passed_at, numbers_hold}
use Rattle.report.proofs.Handing.{numbers_long, weighed_push, sum_done, sum_more}
use Rattle.report.proofs.Lines.{found_weaker, from_end, read_le, read_lt}
use Rattle.report.proofs.Nothing.{none_counts}
use Rattle.report.proofs.Passing.{none_weighed, turns_weighed}
use Rattle.report.proofs.Tallies.{allows_more, turn_allowed, turns_binding}
use Rattle.std.proofs.lemmas.Int.{to_z-of_z}
use Rattle.std.specs.Prelude.{int_le, slice_get, slice_set, IfSome}
use Rattle.plan.specs.Symbols.{bind}
use Rattle.report.specs.Known.{AllowsAll}
use Rattle.report.specs.declared.weighing.Handed.{Handed}
use Rattle.report.specs.declared.known.Binding.{Binding}
use Rattle.report.specs.Ranges.{numbers}
use Rattle.report.proofs.Pieces.{some_is}
use Rattle.report.proofs.Places.{from, from_more}
use Rattle.report.proofs.Sums.{capped_small}
use Rattle.report.proofs.weighing.+weighed.Goals as goal

pub weighed-returns-in-Seq : goal.weighed-returns-in-Seq
weighed-returns-in-Seq t c =
    let x = counted_of c.args.subject.now in
    let known = c.args.known.now in
    let ws = all_weighed c.args.weighings.now in
    let is : Seq (block (list_statements c.deref.result.now)) ≡ statement_of c.args.stmt.now =
    ap (λ (l : List Stmt). Seq (block (list_statements l))) c.deref.ensures.value ∙ sym (statement_of-seq c.in-Seq.all) ∙ ap statement_of (sym c.in-Seq.is) in
    found_weaker c.weighed_block.result (λ n h. subst (λ (a : Statement). IsWeighedTally x known ws a n) is h) c.weighed_block.ensures

pub weighed-returns-then-not-binding : goal.weighed-returns-then-not-binding
weighed-returns-then-not-binding t c =
    let x = counted_of c.args.subject.now in
    let known = c.args.known.now in
    let ws = all_weighed c.args.weighings.now in
    let k = c.in-First in
    found_weaker c.weighed_line.result (λ n h.
    subst (λ (a : Stmt). IsWeighedTally x known ws (statement_of a) n) (sym k.is)
    (first_weighed x known ws k.symbol c.known_of-binding.result (statement_of k.first.value) (statement_of k.later.value) n
    c.known_of-binding.ensures (not_so c.known_of-binding.result.later c.if-not-binding.true)
    (subst (λ (b : Stmt). IsWeighedTally x known ws (statement_of b) n) c.deref-then-not-binding.ensures h)))
    c.weighed_line.ensures

pub weighed-returns-then-not-binding-2 : goal.weighed-returns-then-not-binding-2
weighed-returns-then-not-binding-2 t c =
    let x = counted_of c.args.subject.now in
    let known = c.args.known.now in
    let ws = all_weighed c.args.weighings.now in
    let k = c.in-First in
    found_weaker c.weighed_line-then-not-binding-2.result (λ n h.
    subst (λ (a : Stmt). IsWeighedTally x known ws (statement_of a) n) (sym k.is)
    (later_weighed x known ws k.symbol c.known_of-binding.result (statement_of k.first.value) (statement_of k.later.value) n
    c.known_of-binding.ensures (not_so c.known_of-binding.result.first c.if-not-binding-2.true)
    (subst (λ (b : Stmt). IsWeighedTally x known ws (statement_of b) n) c.deref-then-not-binding-2.ensures h)))
    c.weighed_line-then-not-binding-2.ensures

pub weighed_line-returns-else-counts : goal.weighed_line-returns-else-counts
weighed_line-returns-else-counts t c =
    let x = counted_of c.args.subject.now in
    let a = statement_of c.args.stmt.now in
    none_weighed x c.args.known.now (all_weighed c.args.weighings.now) a (none_counts x a (sym c.counts.ensures ∙ c.if-counts.false))

pub weighed_block-loop-stmt-preserved : goal.weighed_block-loop-stmt-preserved
weighed_block-loop-stmt-preserved t c =
    let x = counted_of c.args.subject.now in
    let ws = all_weighed c.args.weighings.now in
    let all = c.args.all.now in
    let here = c.loop-stmt.here.items in
    let a = statement_of c.stmt-item.result in
    let one = subst (λ (l : List Binding). IsWeighedTally x l ws a c.in-Some.more) c.deref.ensures.value
    (some_is (IsWeighedTally x c.deref.result.now ws a) c.in_ok-more.field-0 c.in-Some.more c.in-Some.is c.in_ok-more.ensures) in
    let small : x.enough < 2 ^ 64 = capped_small c.args.subject.now.enough in
    sum_more x c.args.known.now here c.known_behind.new.known.items ws (block (list_statements all)) (from all (c.loop-stmt.stmt-index + 1)) (from all c.loop-stmt.stmt-index) a
    c.loop-stmt.total c.in-Some.more c.saturating_add-total.result small (from_more all c.loop-stmt.stmt-index c.stmt-item.result c.loop-stmt-test.true c.stmt-item.is)
    c.loop-stmt.invariant one c.saturating_add-total.ensures c.in_ok-known_behind.ensures.allows (c.is_renamed.ensures c.if-is_renamed.false)

pub weighed_block-returns : goal.weighed_block-returns
weighed_block-returns t c =
    let all = c.args.all.now in
    sum_done (counted_of c.args.subject.now) c.args.known.now c.loop-stmt.here.items (all_weighed c.args.weighings.now) (block (list_statements all))
    (from all c.loop-stmt.stmt-index) c.loop-stmt.total
    (from_end all c.loop-stmt.stmt-index (omega (arith, c.loop-stmt-test.false))) c.loop-stmt.invariant

pub weighed_guarded-returns-then-low-high : goal.weighed_guarded-returns-then-low-high
weighed_guarded-returns-then-low-high t c =
    let x = counted_of c.args.subject.now in
    let l = c.range_of-low.result in
    let h = c.range_of-high.result in
    let le : l.high ≤ℤ h.low = read_le l.high h.low (search rules) (search rules) c.if-low-high.true in
    found_weaker c.weighed.result (λ n k. guard_weighed x c.args.known.now (all_weighed c.args.weighings.now) c.args.low.now c.args.high.now l h (statement_of c.args.body.now) n
    c.range_of-low.ensures.holds c.range_of-high.ensures.holds le k) c.weighed.ensures

pub weighed_guarded-returns-then-low-high-2 : goal.weighed_guarded-returns-then-low-high-2
weighed_guarded-returns-then-low-high-2 t c =
    let x = counted_of c.args.subject.now in
    let l = c.range_of-low.result in
    let h = c.range_of-high.result in
    let lt : h.high <ℤ l.low = read_lt h.high l.low (search rules) (search rules) c.if-low-high-2.true in
    guarded_none x c.args.known.now (all_weighed c.args.weighings.now) c.args.low.now c.args.high.now l h (statement_of c.args.body.now) c.range_of-low.ensures.holds c.range_of-high.ensures.holds lt

pub weighed_inner-returns : goal.weighed_inner-returns
weighed_inner-returns t c = λ kind.
    let x = counted_of c.args.subject.now in
    let known = c.args.known.now in
    let span = c.args.span.now in
    let all = c.args.weighings.now in
    let ws = all_weighed all in
    let j = c.args.symbol in
    let body = statement_of c.args.body.now in
    let p = c.in-Some.passed in
    let fits : SFits w64 p.low = search rules in
    let small : x.enough < 2 ^ 64 = capped_small c.args.subject.now.enough in
    let made : Weighed = record { symbol = j; low = p.low; weights = p.weights.items } in
    let lt : p.place < length all = one_of (λ (q : Handed). q.place < length all) c.in_ok-passed.field-0 p c.in-Some.is c.in_ok-passed.ensures.place in
    let less : p.place < length ws = omega (arith, lt, long_weighed all) in
    let pass = one_of (λ (q : Handed). IfSome (slice_get all q.place) (λ w. IsHandedBy known span w q)) c.in_ok-passed.field-0 p c.in-Some.is c.in_ok-passed.ensures.passed in
    let here = c.deref-2.ensures.value ∙ c.in_ok-here.ensures in
    let more = ap all_weighed c.deref-3.ensures.value
    ∙ c.in_ok-more.ensures
    ∙ (λ i. slice_set ws p.place (record { symbol = j; low = to_z-of_z w64 p.low fits i; weights = c.deref.ensures.value i })) in
    found_weaker c.weighed.result (λ n h.
    inner_weighed x known c.deref-2.result.now ws p.place made made j span kind body n less refl c.requires
    (passed_at all p.place made (λ (w : Weighed). ArePassedOn known span w p.low p.weights.items) lt pass x.enough small)
    (λ s z f a k. subst (λ (i : ℕ). AllowsAll c.deref-2.result.now (bind s i z f)) c.any_value.ensures.symbol
    (allows_more known c.deref-2.result.now c.any_value.result s z f here a (c.any_value.ensures.allows z f k)))
    (subst (λ (l : List Weighed). IsWeighedTally x c.deref-2.result.now l body n) more h))
    c.weighed.ensures

pub weighed_loop-returns-in-Some : goal.weighed_loop-returns-in-Some
weighed_loop-returns-in-Some t c = λ kind.
    let x = counted_of c.args.subject.now in
    found_weaker c.weighed_turns.result (λ n h.
    loop_weighed x c.args.known.now (all_weighed c.args.weighings.now) c.args.symbol c.args.span.now kind (statement_of c.args.body.now) c.in-Some.range c.all_turns-turns.result n
    c.all_turns-turns.ensures c.in-Some.ensures.holds h) c.weighed_turns.ensures

pub weighed_turns-returns : goal.weighed_turns-returns
weighed_turns-returns t c =
    let x = counted_of c.args.subject.now in
    let known = c.args.known.now in
    let ws = all_weighed c.args.weighings.now in
    let turns = c.args.turns in
    let body = statement_of c.args.body.now in
    let fits : SFits w64 turns.range.low = search rules in
    let w : Weighed = record { symbol = turns.symbol; low = turns.range.low; weights = c.in_ok-weights.weights.items } in
    let few : c.count_of-count.result ≤ 8192 = omega (arith, c.if-count-gt-MOST_VALUES.false) in
    let count = few_is (length (numbers turns.range)) c.count_of-count.result c.count_of-count.ensures few in
    let ones = c.in_ok-weights.ensures ∙ ap (λ (n : ℕ). replicate n 1) count in
    let here = c.deref.ensures.value ∙ c.in_ok-here.ensures ∙ ap (λ (b : Binding). known ++ b ∷ []) c.binding_of.ensures in
    let more = ap all_weighed (c.deref-2.ensures.value ∙ c.in_ok-push.ensures.items) ∙ weighed_push c.in_ok-more.more.items _
    ∙ (λ j. c.in_ok-more.ensures j ++ record { symbol = turns.symbol; low = to_z-of_z w64 turns.range.low fits j; weights = c.in_ok-weights.weights.items } ∷ []) in
    found_weaker c.weighed.result (λ n h.
    turns_weighed x known c.deref.result.now ws w body turns n refl refl ones (numbers_long turns.range) c.requires
    (λ s z a k. allows_more known c.deref.result.now (turns_binding turns) s z (int_le z turns.start) here a (turn_allowed turns z k)) (numbers_hold turns.range)
    (subst (λ (l : List Weighed). IsWeighedTally x c.deref.result.now l body n) more h))
    c.weighed.ensures
