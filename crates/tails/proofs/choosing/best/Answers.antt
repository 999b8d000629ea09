use Rattle.std.proofs.Common.{◌≡◌, ◌∙◌, ◌+◌, ◌-◌, ◌<◌, Some, length, sym, ap, arith}
use Rattle.std.specs.Option.{option_map}
use Rattle.tails.specs.Held.{others_of}
use Rattle.tails.specs.Ready.{ready_of, ready_with}
use Rattle.tails.proofs.Picking.{best_none, best_some}
use Rattle.tails.proofs.choosing.best.Goals.{in-Some, in_default}
use Rattle.tails.proofs.choosing.best.Goals as goal

pub loop-k-preserved : goal.loop-k-preserved
loop-k-preserved c =
    let xs = c.args.steps.now in
    let ys = c.args.spans.now in
    let k = c.loop-k.k in
    let place = length xs - 1 - k in
    let others = others_of c.others_of.result in
    let later = option_map (ready_of xs) c.loop-k.found in
    let at : place < length xs = omega arith in
    let now : place ≡ length xs - (k + 1) = omega arith in
    let before : place + 1 ≡ length xs - k = omega arith in
    elim c.match-ready.branch [
      | in-Some w ↦ (
          let one = w.in-Some.one in
          let its : one.place ≡ place = w.in-Some.ensures.place in
          record {
            value = ap (option_map (ready_of xs)) w.found-is
                ∙ best_some ys xs place (length xs - (k + 1)) (length xs - k) c.index-steps-place.result others one later (Some (ready_of xs w.preferred.result)) at c.index-steps-place.is now before
                c.others_of.ensures its w.in-Some.ensures.value c.loop-k.invariant.value (w.preferred.ensures.value xs);
            known = rw w.found-is (w.preferred.ensures.known (length xs) (omega arith) c.loop-k.invariant.known);
          })
      | in_default w ↦ record {
        value = ap (option_map (ready_of xs)) w.found-is
            ∙ best_none ys xs place (length xs - (k + 1)) (length xs - k) c.index-steps-place.result others later at c.index-steps-place.is now before
            c.others_of.ensures (ap (option_map (ready_with others)) (sym w.in_default.is) ∙ c.ready.ensures.value) c.loop-k.invariant.value;
        known = rw w.found-is c.loop-k.invariant.known;
      }
    ]
