use Rattle.std.proofs.Common.{◌≡◌, ◌+◌, ◌*◌, ◌<◌, ◌∷◌, ◌++◌, [], ℕ, ℤ, pos, ◌+ℤ◌, List, length, take, sym, ap, ◌∙◌, subst, arith, rules, w64, SFits, to_z, Vec, Global}
use Rattle.std.proofs.lemmas.Int.{ints, to_z-of_z}
use Rattle.std.proofs.lemmas.List.{take_more}
use Rattle.std.specs.Prelude.{sum_by}
use Rattle.report.specs.Costs.{up_to}
use Rattle.report.specs.Ranges.{numbers, HoldsEnds}
use Rattle.report.specs.Weighing.{weighted, ArePassed}
use Rattle.report.proofs.Handing.{few_taken, numbers_inside, one_of, passed_begun, passed_more, passed_none, refilled, turns_numbers}
use Rattle.report.proofs.Weights.{weighted_zeros}
use Rattle.report.proofs.weighing.weights_over.Goals as goal
use Rattle.report.proofs.weighing.weights_over.Goals.{then-weight-ne0+in_ok-ends+in-Some+else-not-add_to, else-weight-ne0}

pub loop-place-init : goal.loop-place-init
loop-place-init c =
    let low = c.args.weighing.now.low in
    let fits : SFits w64 low = search rules in
    let none : low ≡ low +ℤ pos 0 = omega (arith, ints) in
    record {
      value = to_z-of_z w64 low fits ∙ none;
      passed = λ m small.
          passed_begun m c.args.known.now c.args.span.now c.args.weighing.now.symbol low c.args.hull.low c.in_ok-weights.weights.items
          (λ g. ap (weighted g c.args.hull.low) c.in_ok-weights.ensures ∙ weighted_zeros g c.args.hull.low c.count_of.result);
    }

pub loop-place-preserved : goal.loop-place-preserved
loop-place-preserved c =
    let known = c.args.known.now in
    let span = c.args.span.now in
    let symbol = c.args.weighing.now.symbol in
    let low = c.args.weighing.now.low in
    let first = c.args.hull.low in
    let ws = c.args.weighing.now.weights.items in
    let place = c.loop-place.place in
    let weight = c.index-weight.result.now in
    let lt : place < length ws = omega (arith, c.loop-place-test.true, c.len-place-end.ensures, c.args.weighing.now.weights.ok.0) in
    let taken : take (place + 1) ws ≡ take place ws ++ weight ∷ [] = take_more ws place weight lt ∙ ap (λ (y : ℕ). take place ws ++ y ∷ []) (sym c.index-weight.ensures) in
    let few : length (take place ws) ≡ place = few_taken ws place (omega (arith, lt)) in
    let here : to_z w64 c.loop-place.value-bits ≡ low +ℤ pos (length (take place ws)) = omega (arith, ints, c.loop-place.invariant.value, few) in
    let first_fits : SFits w64 first = search rules in
    let next = c.in-Some-checked_add.next in
    let is : next ≡ to_z w64 c.loop-place.value-bits +ℤ pos 1 = c.in-Some-checked_add.ensures.1 in
    let fits : SFits w64 next = subst (SFits w64) (sym is) c.in-Some-checked_add.ensures.0 in
    let at : next ≡ c.args.weighing.now.low +ℤ pos (c.loop-place.place + 1) = omega (arith, ints, is, c.loop-place.invariant.value) in
    record {
      value = to_z-of_z w64 next fits ∙ at;
      passed = λ m small. elim c.if-weight-ne0.branch [
        | then-weight-ne0+in_ok-ends+in-Some+else-not-add_to w ↦
            let ends = w.in-Some.ends in
            let new_long : length w.add_to.new.weights ≡ c.loop-place.weights.len = omega (arith, w.add_to.auto.weights, w.deref_mut.ensures.len) in
            let old_long : length c.loop-place.weights.items ≡ c.loop-place.weights.len = omega (arith, c.loop-place.weights.ok.0) in
            let low_fits : SFits w64 ends.low = search rules in
            let high_fits : SFits w64 ends.high = search rules in
            let value = to_z w64 c.loop-place.value-bits in
            subst (λ (l : List ℕ). ArePassed m known span symbol low l first c.if-weight-ne0.weights.items) (sym taken)
            (passed_more m known span symbol low first (take place ws) c.loop-place.weights.items c.if-weight-ne0.weights.items weight value (numbers ends) here
            (numbers_inside ends low_fits high_fits)
            (λ s allows is narrow. turns_numbers s span ends (one_of (HoldsEnds s span) w.in_ok-ends.field-0 ends w.in-Some.is (w.in_ok-ends.ensures s allows is narrow)))
            (λ g.
            ap (λ (l : List ℕ). up_to m (weighted g first l))
            (ap (λ (v : Vec ℕ Global). v.items) w.weights-is ∙ refilled w.add_to.new.weights c.loop-place.weights.items c.loop-place.weights.len new_long old_long)
            ∙ subst (λ (z : ℤ). up_to m (weighted g z w.add_to.new.weights) ≡ up_to m (weighted g z w.deref_mut.result.now + weight * sum_by g (numbers ends))) (to_z-of_z w64 first first_fits)
            (w.add_to.ensures w.if-not-add_to.false m small g)
            ∙ ap (λ (l : List ℕ). up_to m (weighted g first l + weight * sum_by g (numbers ends))) w.deref_mut.ensures.value)
            (c.loop-place.invariant.passed m small))
        | else-weight-ne0 w ↦
            let same : c.if-weight-ne0.weights.items ≡ c.loop-place.weights.items = ap (λ (v : Vec ℕ Global). v.items) w.weights-is in
            subst (λ (l : List ℕ). ArePassed m known span symbol low l first c.if-weight-ne0.weights.items) (sym taken)
            (subst (ArePassed m known span symbol low (take place ws ++ weight ∷ []) first) (sym same)
            (passed_none m known span symbol low first (take place ws) c.loop-place.weights.items weight w.if-weight-ne0.false (c.loop-place.invariant.passed m small)))
      ];
    }
