use Rattle.std.proofs.Common.{◌≡◌, ◌<◌, length, sym, ap, ◌∙◌, arith, rules, w64, SFits, to_z, of_z}
use Rattle.std.specs.Prelude.{slice_set}
use Rattle.std.proofs.lemmas.Grind.{get_or-set_at}
use Rattle.std.proofs.lemmas.Int.{to_z-of_z}
use Rattle.std.proofs.lemmas.List.{get_or-set_other}
use Rattle.report.specs.Weighing.{all_weighed, weighed_of, Weighed}
use Rattle.report.proofs.Handing.{long_weighed, replaced_all, replaced_more, weighed_at}
use Rattle.report.proofs.weighing.replaced.Goals as goal
use Rattle.report.proofs.weighing.replaced.Goals.{then-number-place+in_ok-made, else-number-place+in_ok-made-2}

pub loop-number-preserved : goal.loop-number-preserved
loop-number-preserved c =
    let ws = c.args.weighings.now in
    let new : Weighed = record { symbol = c.args.symbol; low = to_z w64 (of_z w64 c.args.low); weights = c.args.weights.now } in
    replaced_more ws c.loop-number.more.items c.push.new.self.items c.loop-number.number c.args.place new c.if-number-place.made
    c.loop-number-test.true c.in_ok-push.ensures.items c.loop-number.invariant
    (elim c.if-number-place.branch [
      | then-number-place+in_ok-made w ↦
          let same : c.loop-number.number ≡ c.args.place = w.if-number-place.true in
          let less : c.args.place < length (all_weighed ws) = omega (arith, same, c.loop-number-test.true, long_weighed ws) in
          ap weighed_of w.made-is ∙ w.in_ok-made.ensures ∙ sym (get_or-set_at (all_weighed ws) c.args.place c.loop-number.number new new same less)
      | else-number-place+in_ok-made-2 w ↦
          let item = c.index-weighings-number.result in
          let fits : SFits w64 item.low = search rules in
          ap weighed_of w.made-is
          ∙ w.in_ok-made-2.ensures
          ∙ (λ j. record { symbol = item.symbol; low = to_z-of_z w64 item.low fits j; weights = w.deref.ensures.value j })
          ∙ sym (get_or-set_other (all_weighed ws) c.args.place c.loop-number.number new new w.if-number-place.false
          ∙ weighed_at ws c.loop-number.number item new c.loop-number-test.true ∙ ap weighed_of (sym c.index-weighings-number.is))
    ])

pub returns : goal.returns
returns c =
    let fits : SFits w64 c.args.low = search rules in
    let long : length c.args.weighings.now ≡ c.loop-number.number = omega (arith, c.loop-number-test.false, c.loop-number.auto.number-end) in
    replaced_all c.args.weighings.now c.loop-number.more.items c.loop-number.number c.args.place _ long c.loop-number.invariant
    ∙ (λ j. slice_set (all_weighed c.args.weighings.now) c.args.place (record { symbol = c.args.symbol; low = to_z-of_z w64 c.args.low fits j; weights = c.args.weights.now }))
