use Rattle.std.proofs.Common.{ℕ, ℤ, ◌+◌, ◌-◌, ◌<◌, pos, sym, ap, ◌∙◌, rules, arith, w64, SFits}
use Rattle.std.specs.Prelude.{◌+ℤ◌, ◌≤ℤ◌}
use Rattle.std.proofs.lemmas.Int.{ints, to_z-of_z}
use Rattle.interpreter.proofs.ClampedRamps.{low_end, high_end, between_ends, IsOneMore, one_more_within, one_more_reached}
use Rattle.interpreter.proofs.evaluation.looking.bends_of.Goals as goal

pub returns-clause-order : goal.returns-clause-order
returns-clause-order c =
    let b : ℕ = c.in_ok-before.before in
    let m : ℕ = c.in_ok-reached.reached in
    let later : b < m = omega arith in
    let h : IsOneMore m c.args.count c.one_turn_more.result = record { more = c.one_turn_more.ensures.more; all = c.one_turn_more.ensures.all } in
    let w = one_more_within m c.args.count c.one_turn_more.result h c.in_ok-reached.ensures.most in
    let from = w.0 in
    (omega (arith, later, from), w.1)

pub returns-clause-low : goal.returns-clause-low
returns-clause-low c = λ k lt.
    let r = c.args.ramp in
    let n : ℕ = c.in_ok-before.before in
    let z : ℤ = c.in_ok-start.start in
    let f : SFits w64 r.first.value = search rules in
    let l : SFits w64 r.low.value = search rules in
    let fits : SFits w64 z = search rules in
    let most = c.in_ok-reached.ensures.most in
    low_end r.first.value _ r.low.value _ r.high.value z n k (to_z-of_z w64 r.first.value f) (to_z-of_z w64 r.low.value l) lt (c.in_ok-before.ensures.below (n - 1) (omega (arith, lt)))
    (c.in_ok-before.ensures.above n (omega arith) (omega (arith, most))) c.in_ok-start.ensures
    ∙ sym (to_z-of_z w64 z fits)

pub returns-clause-rising : goal.returns-clause-rising
returns-clause-rising c = λ k lt.
    let r = c.args.ramp in
    let n : ℕ = c.in_ok-before.before in
    let m : ℕ = c.in_ok-reached.reached in
    let z : ℤ = c.in_ok-start.start in
    let f : SFits w64 r.first.value = search rules in
    let l : SFits w64 r.low.value = search rules in
    let g : SFits w64 r.high.value = search rules in
    let fits : SFits w64 z = search rules in
    let later : n < m = omega arith in
    let h : IsOneMore m c.args.count c.one_turn_more.result = record { more = c.one_turn_more.ensures.more; all = c.one_turn_more.ensures.all } in
    let w = one_more_within m c.args.count c.one_turn_more.result h c.in_ok-reached.ensures.most in
    let most = w.1 in
    let next = w.2 in
    between_ends r.first.value _ r.low.value _ r.high.value _ z n k m (to_z-of_z w64 r.first.value f) (to_z-of_z w64 r.low.value l) (to_z-of_z w64 r.high.value g)
    (c.in_ok-before.ensures.above (n + k) (omega arith) (omega (arith, lt, most))) (omega (arith, later))
    (c.in_ok-reached.ensures.below (m - 1) (omega (arith, later))) (omega (arith, lt, next)) c.in_ok-start.ensures
    ∙ ap (λ (y : ℤ). y +ℤ pos k) (sym (to_z-of_z w64 z fits))

pub returns-clause-high : goal.returns-clause-high
returns-clause-high c = λ k last from lt is.
    let r = c.args.ramp in
    let n : ℕ = c.in_ok-before.before in
    let m : ℕ = c.in_ok-reached.reached in
    let z : ℤ = c.in_ok-start.start in
    let f : SFits w64 r.first.value = search rules in
    let g : SFits w64 r.high.value = search rules in
    let fits : SFits w64 z = search rules in
    let later : n < m = omega arith in
    let order : r.low.value ≤ℤ r.high.value = search (arith, ints, c.if-ramp.false) in
    let h : IsOneMore m c.args.count c.one_turn_more.result = record { more = c.one_turn_more.ensures.more; all = c.one_turn_more.ensures.all } in
    let e = one_more_reached m c.args.count c.one_turn_more.result k h from lt in
    let less = e.0 in
    let after = e.1 in
    high_end r.first.value _ r.low.value r.high.value _ z n last m k (to_z-of_z w64 r.first.value f) (to_z-of_z w64 r.high.value g) order (omega (arith, later))
    (c.in_ok-reached.ensures.below (m - 1) (omega (arith, later)))
    (c.in_ok-reached.ensures.above m (omega arith) less) (c.in_ok-reached.ensures.above k (omega (arith, after, from)) lt) (omega (arith, is, after)) c.in_ok-start.ensures
    ∙ ap (λ (y : ℤ). y +ℤ pos last) (sym (to_z-of_z w64 z fits))
