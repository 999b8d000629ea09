use Rattle.std.proofs.Common.{◌≡◌, ◌+◌, ◌<◌, ◌^◌, List, ◌++◌, ◌∷◌, [], refl, sym, ap, subst, ◌∙◌, arith, rules, ℤ, pos, ◌+ℤ◌, ◌<ℤ◌, ◌≤ℤ◌, w64, SFits, to_z, of_z}
use Rattle.std.proofs.lemmas.Int.{ints, to_z-of_z}
use Rattle.std.proofs.Math.Facts.{sfits_to_z}
use Rattle.lin.specs.declared.span.Span1.{Span1}
use Rattle.plan.specs.declared.stmt.Stmt.{Stmt}
use Rattle.plan.specs.Lists.{list_statements}
use Rattle.plan.specs.Plan.{Statement, Seq, block}
use Rattle.plan.specs.View.{statement_of}
use Rattle.plan.proofs.Rows.{statement_of-seq}
use Rattle.report.specs.declared.known.Binding.{Binding}
use Rattle.report.specs.declared.counting.Turns.{Turns}
use Rattle.report.specs.Counting.{IsPointCount, IsTally, IsTurnsTally}
use Rattle.report.specs.Subject.{counted_of}
use Rattle.report.proofs.Handing.{turns_alone}
use Rattle.report.proofs.Lines.{block_is, fetch_tally, found_weaker, from_end, guard_none, guard_tally, loop_tally, none_tally, some_weaker, fewer_turns, half_read, less_read, low_bits}
use Rattle.report.proofs.Lines.{nearer, next_read, read_le, read_lt, read_over, same_read}
use Rattle.report.proofs.Pieces.{some_is}
use Rattle.report.proofs.Places.{from, from_more}
use Rattle.report.proofs.Nothing.{none_counts}
use Rattle.report.proofs.Sums.{capped_most, capped_small}
use Rattle.report.proofs.Tallies.{alike, block_done, block_enough, block_more, IsTurnsSum, part, turns_done, turns_enough, turns_more}
use Rattle.report.proofs.counting.+count.Goals as goal

pub count-returns-in-Seq-clause-holds : goal.count-returns-in-Seq-clause-holds
count-returns-in-Seq-clause-holds t c =
    let x = counted_of c.args.subject.now in
    let known = c.args.known.now in
    let is : Seq (block (list_statements c.deref.result.now)) ≡ statement_of c.args.stmt.now =
    ap (λ (l : List Stmt). Seq (block (list_statements l))) c.deref.ensures.value ∙ sym (statement_of-seq c.in-Seq.all) ∙ ap statement_of (sym c.in-Seq.is) in
    found_weaker c.count_block.result (λ n h. subst (λ (a : Statement). IsTally x known a n) is (block_is x known (block (list_statements c.deref.result.now)) n h)) c.count_block.ensures.holds

pub count-returns-in-Some-clause-holds : goal.count-returns-in-Some-clause-holds
count-returns-in-Some-clause-holds t c =
    let x = counted_of c.args.subject.now in
    let known = c.args.known.now in
    let k = c.in-For in
    found_weaker c.count_turns.result (λ n h.
    subst (λ (a : Stmt). IsTally x known (statement_of a) n) (sym k.is)
    (loop_tally x known k.symbol k.span k.kind (statement_of k.body.value) c.in-Some.range c.all_turns.result n c.all_turns.ensures c.in-Some.ensures.holds
    (subst (λ (b : Stmt). IsTurnsTally x known (statement_of b) c.all_turns.result n) c.deref-in-Some.ensures h)))
    c.count_turns.ensures.holds

pub count-returns-then-low-high-clause-holds : goal.count-returns-then-low-high-clause-holds
count-returns-then-low-high-clause-holds t c =
    let x = counted_of c.args.subject.now in
    let known = c.args.known.now in
    let k = c.in-Guard in
    let le : c.range_of-low.result.high ≤ℤ c.range_of-high.result.low = read_le c.range_of-low.result.high c.range_of-high.result.low (search rules) (search rules) c.if-low-high.true in
    found_weaker c.count-then-low-high.result (λ n h.
    subst (λ (a : Stmt). IsTally x known (statement_of a) n) (sym k.is)
    (guard_tally x known k.low k.high c.range_of-low.result c.range_of-high.result (statement_of k.body.value) n c.range_of-low.ensures.holds c.range_of-high.ensures.holds le
    (subst (λ (b : Stmt). IsTally x known (statement_of b) n) c.deref-then-low-high.ensures h)))
    c.count-then-low-high.ensures.holds

pub count-returns-then-low-high-2-clause-holds : goal.count-returns-then-low-high-2-clause-holds
count-returns-then-low-high-2-clause-holds t c =
    let x = counted_of c.args.subject.now in
    let known = c.args.known.now in
    let k = c.in-Guard in
    let lt : c.range_of-high.result.high <ℤ c.range_of-low.result.low = read_lt c.range_of-high.result.high c.range_of-low.result.low (search rules) (search rules) c.if-low-high-2.true in
    subst (λ (a : Stmt). IsTally x known (statement_of a) 0) (sym k.is)
    (guard_none x known k.low k.high c.range_of-low.result c.range_of-high.result (statement_of k.body.value) c.range_of-low.ensures.holds c.range_of-high.ensures.holds lt)

pub count-returns-then-counts_group-clause-holds : goal.count-returns-then-counts_group-clause-holds
count-returns-then-counts_group-clause-holds t c =
    let x = counted_of c.args.subject.now in
    let known = c.args.known.now in
    let k = c.in-Fetch in
    let small : x.enough < 2 ^ 64 = capped_small c.args.subject.now.enough in
    some_weaker c.points_in.result (λ n h.
    subst (λ (a : Stmt). IsTally x known (statement_of a) n) (sym k.is)
    (fetch_tally x known k.buffer k.group k.region n small (sym c.counts_group.ensures ∙ c.if-counts_group.true)
    (subst (λ (r : List Span1). IsPointCount known r n) c.as_slice.ensures h)))
    c.points_in.ensures.holds

pub count_line-returns-else-counts-clause-holds : goal.count_line-returns-else-counts-clause-holds
count_line-returns-else-counts-clause-holds t c =
    let x = counted_of c.args.subject.now in
    let a = statement_of c.args.stmt.now in
    none_tally x c.args.known.now a (none_counts x a (sym c.counts.ensures ∙ c.if-counts.false))

pub count_alike-returns-in-Some-clause-holds : goal.count_alike-returns-in-Some-clause-holds
count_alike-returns-in-Some-clause-holds t c =
    let x = counted_of c.args.subject.now in
    let known = c.args.known.now in
    let a = statement_of c.args.body.now in
    let here = c.deref.result.now in
    let made = c.deref.ensures.value ∙ c.in_ok-together.ensures ∙ ap (λ (b : Binding). known ++ b ∷ []) c.binding_of.ensures in
    let small : x.enough < 2 ^ 64 = capped_small c.args.subject.now.enough in
    alike x known here a c.args.turns c.in-Some.each c.count_of.result c.saturating_mul.result small made
    (some_is (IsTally x here a) c.in_ok-each.field-0 c.in-Some.each c.in-Some.is c.in_ok-each.ensures.holds) c.count_of.ensures c.saturating_mul.ensures

pub count_alike-returns-clause-holds : goal.count_alike-returns-clause-holds
count_alike-returns-clause-holds t c =
    found_weaker c.weighed_turns.result (λ n h. turns_alone (counted_of c.args.subject.now) c.args.known.now (statement_of c.args.body.now) c.args.turns n h) c.weighed_turns.ensures

pub count_block-loop-stmt-preserved : goal.count_block-loop-stmt-preserved
count_block-loop-stmt-preserved t c =
    let x = counted_of c.args.subject.now in
    let all = c.args.all.now in
    let here = c.loop-stmt.here.items in
    let a = statement_of c.stmt-item.result in
    let one = subst (λ (l : List Binding). IsTally x l a c.in-Some.more) c.deref.ensures.value
    (some_is (IsTally x c.deref.result.now a) c.in_ok-more.field-0 c.in-Some.more c.in-Some.is c.in_ok-more.ensures.holds) in
    let small : x.enough < 2 ^ 64 = capped_small c.args.subject.now.enough in
    record {
      total = block_more x c.args.known.now here c.known_behind.new.known.items (block (list_statements all)) (from all (c.loop-stmt.stmt-index + 1)) (from all c.loop-stmt.stmt-index) a
          c.loop-stmt.total c.in-Some.more c.saturating_add-total.result small (from_more all c.loop-stmt.stmt-index c.stmt-item.result c.loop-stmt-test.true c.stmt-item.is)
          c.loop-stmt.invariant.total one c.saturating_add-total.ensures c.in_ok-known_behind.ensures.allows;
      settled = λ settled. c.in_ok-known_behind.ensures.settled (c.loop-stmt.invariant.settled settled);
    }

pub count_block-returns-clause-holds : goal.count_block-returns-clause-holds
count_block-returns-clause-holds t c =
    let x = counted_of c.args.subject.now in
    let all = c.args.all.now in
    block_done x c.args.known.now c.loop-stmt.here.items (block (list_statements all)) (from all c.loop-stmt.stmt-index) c.loop-stmt.total
    (from_end all c.loop-stmt.stmt-index (omega (arith, c.loop-stmt-test.false))) c.loop-stmt.invariant.total

pub count_block-returns-then-subject-total-clause-holds : goal.count_block-returns-then-subject-total-clause-holds
count_block-returns-then-subject-total-clause-holds t c =
    let all = c.args.all.now in
    block_enough (counted_of c.args.subject.now) c.args.known.now c.loop-stmt.here.items (block (list_statements all)) (from all c.loop-stmt.stmt-index) c.loop-stmt.total
    (capped_most c.args.subject.now.enough c.loop-stmt.total (omega (arith, c.if-subject-total.true))) c.loop-stmt.invariant.total

pub count_turns-returns-then-subject-total-clause-holds : goal.count_turns-returns-then-subject-total-clause-holds
count_turns-returns-then-subject-total-clause-holds t c =
    turns_enough (counted_of c.args.subject.now) c.args.known.now (statement_of c.args.body.now) c.args.turns (to_z w64 c.loop-low.low-bits) c.loop-low.total
    (capped_most c.args.subject.now.enough c.loop-low.total (omega (arith, c.if-subject-total.true))) c.loop-low.invariant.total

pub count_turns-returns-then-high-turns-clause-holds : goal.count_turns-returns-then-high-turns-clause-holds
count_turns-returns-then-high-turns-clause-holds t c =
    let x = counted_of c.args.subject.now in
    let known = c.args.known.now in
    let a = statement_of c.args.body.now in
    let turns = c.args.turns in
    let low = to_z w64 c.loop-low.low-bits in
    let high = c.reached-high.result in
    let high_fits : SFits w64 high = search rules in
    let last_fits : SFits w64 turns.range.high = search rules in
    let to : high ≤ℤ turns.range.high = subst (λ (z : ℤ). high ≤ℤ z) (to_z-of_z w64 turns.range.high last_fits) c.reached-high.ensures.last in
    let tried : IsTurnsTally x known a (part turns low (to_z w64 (of_z w64 high))) c.in-Some.more = subst (λ (u : Turns). IsTurnsTally x known a u c.in-Some.more) c.part_of.ensures
    (some_is (IsTurnsTally x known a c.part_of.result) c.in_ok-more.field-0 c.in-Some.more c.in-Some.is c.in_ok-more.ensures.holds) in
    let small : x.enough < 2 ^ 64 = capped_small c.args.subject.now.enough in
    let one = subst (λ (z : ℤ). IsTurnsTally x known a (part turns low z) c.in-Some.more) (to_z-of_z w64 high high_fits) tried in
    let more = turns_more x known a turns low high c.loop-low.total c.in-Some.more c.saturating_add-total.result small
    c.loop-low.invariant.low c.reached-high.ensures.from to c.loop-low.invariant.total one c.saturating_add-total.ensures in
    let end : high ≡ turns.range.high = same_read high turns.range.high high_fits last_fits c.if-high-turns.true in
    turns_done x known a turns (high +ℤ pos 1) c.saturating_add-total.result (omega (arith, ints, end)) more

pub count_turns-loop-low-smaller-in-Some : goal.count_turns-loop-low-smaller-in-Some
count_turns-loop-low-smaller-in-Some t c =
    let last = c.args.turns.range.high in
    let high = c.reached-high.result in
    let high_fits : SFits w64 high = search rules in
    let last_fits : SFits w64 last = search rules in
    let farther_fits : SFits w64 c.farther-reach.result = search rules in
    let to : high ≤ℤ last = subst (λ (z : ℤ). high ≤ℤ z) (to_z-of_z w64 last last_fits) c.reached-high.ensures.last in
    let lt : high <ℤ last = less_read high last to (λ e. c.if-high-turns.false (ap (of_z w64) e)) in
    fewer_turns last (to_z w64 c.loop-low.low-bits) high (to_z w64 c.loop-low.reach-bits) _ _ c.reached-high.ensures.from
    to (next_read high last high_fits last_fits lt) (subst (SFits w64) (sym (to_z-of_z w64 c.farther-reach.result farther_fits)) farther_fits)

pub count_turns-loop-low-preserved-in-Some : goal.count_turns-loop-low-preserved-in-Some
count_turns-loop-low-preserved-in-Some t c =
    let x = counted_of c.args.subject.now in
    let known = c.args.known.now in
    let a = statement_of c.args.body.now in
    let turns = c.args.turns in
    let last = turns.range.high in
    let low = to_z w64 c.loop-low.low-bits in
    let high = c.reached-high.result in
    let high_fits : SFits w64 high = search rules in
    let last_fits : SFits w64 last = search rules in
    let farther_fits : SFits w64 c.farther-reach.result = search rules in
    let to : high ≤ℤ last = subst (λ (z : ℤ). high ≤ℤ z) (to_z-of_z w64 last last_fits) c.reached-high.ensures.last in
    let lt : high <ℤ last = less_read high last to (λ e. c.if-high-turns.false (ap (of_z w64) e)) in
    let next = next_read high last high_fits last_fits lt in
    let tried : IsTurnsTally x known a (part turns low (to_z w64 (of_z w64 high))) c.in-Some.more = subst (λ (u : Turns). IsTurnsTally x known a u c.in-Some.more) c.part_of.ensures
    (some_is (IsTurnsTally x known a c.part_of.result) c.in_ok-more.field-0 c.in-Some.more c.in-Some.is c.in_ok-more.ensures.holds) in
    let small : x.enough < 2 ^ 64 = capped_small c.args.subject.now.enough in
    let one = subst (λ (z : ℤ). IsTurnsTally x known a (part turns low z) c.in-Some.more) (to_z-of_z w64 high high_fits) tried in
    let more = turns_more x known a turns low high c.loop-low.total c.in-Some.more c.saturating_add-total.result small
    c.loop-low.invariant.low c.reached-high.ensures.from to c.loop-low.invariant.total one c.saturating_add-total.ensures in
    let behind : turns.range.low ≤ℤ (high +ℤ pos 1) = omega (arith, ints, c.loop-low.invariant.low, c.reached-high.ensures.from) in
    record {
      low = subst (λ (z : ℤ). turns.range.low ≤ℤ z) (sym next) behind;
      reach = subst (λ (z : ℤ). pos 0 ≤ℤ z) (sym (to_z-of_z w64 c.farther-reach.result farther_fits)) c.farther-reach.ensures;
      total = subst (λ (z : ℤ). IsTurnsSum x known a turns z c.saturating_add-total.result) (sym next) more;
    }

pub count_turns-loop-low-smaller : goal.count_turns-loop-low-smaller
count_turns-loop-low-smaller t c =
    let low = to_z w64 c.loop-low.low-bits in
    let reach = to_z w64 c.loop-low.reach-bits in
    let high = c.reached-high.result in
    let high_fits : SFits w64 high = search rules in
    let low_small : c.loop-low.low-bits < 2 ^ 64 = search rules in
    let reach_small : c.loop-low.reach-bits < 2 ^ 64 = search rules in
    let after : low ≤ℤ high = c.reached-high.ensures.from in
    let near : high ≤ℤ (low +ℤ reach) = c.reached-high.ensures.near in
    let lt : low <ℤ high = less_read low high after (λ e. c.if-low-high.false (low_bits c.loop-low.low-bits low high low_small refl e)) in
    let half = half_read low high reach high_fits (sfits_to_z (record { fits = reach_small })) lt near in
    nearer _ _ _ half.from half.to

pub count_turns-loop-low-preserved : goal.count_turns-loop-low-preserved
count_turns-loop-low-preserved t c =
    let low = to_z w64 c.loop-low.low-bits in
    let reach = to_z w64 c.loop-low.reach-bits in
    let high = c.reached-high.result in
    let high_fits : SFits w64 high = search rules in
    let low_small : c.loop-low.low-bits < 2 ^ 64 = search rules in
    let reach_small : c.loop-low.reach-bits < 2 ^ 64 = search rules in
    let after : low ≤ℤ high = c.reached-high.ensures.from in
    let near : high ≤ℤ (low +ℤ reach) = c.reached-high.ensures.near in
    let lt : low <ℤ high = less_read low high after (λ e. c.if-low-high.false (low_bits c.loop-low.low-bits low high low_small refl e)) in
    let half = half_read low high reach high_fits (sfits_to_z (record { fits = reach_small })) lt near in
    record {
      low = c.loop-low.invariant.low;
      reach = half.from;
      total = c.loop-low.invariant.total;
    }

pub count_turns-returns-clause-holds : goal.count_turns-returns-clause-holds
count_turns-returns-clause-holds t c =
    let low = to_z w64 c.loop-low.low-bits in
    turns_done (counted_of c.args.subject.now) c.args.known.now (statement_of c.args.body.now) c.args.turns low c.loop-low.total
    (read_over low c.args.turns.range.high (search rules) c.loop-low-test.false) c.loop-low.invariant.total
