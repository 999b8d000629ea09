use Rattle.std.proofs.Common.{◌≡◌, ◌∷◌, ◌+◌, ◌<◌, ℤ, List, drop, pos, refl, ap, ◌∙◌, arith, rules, w64, SFits}
use Rattle.std.specs.Prelude.{◌+ℤ◌, ◌≤ℤ◌}
use Rattle.std.proofs.lemmas.Bool.{ltb-false}
use Rattle.std.proofs.lemmas.Int.{ints, to_z-of_z}
use Rattle.interpreter.specs.Buffers.Blocks.{memory_of}
use Rattle.interpreter.specs.Pieces.{around}
use Rattle.interpreter.specs.RowVisits.{row_takes}
use Rattle.interpreter.specs.States.{progress_of}
use Rattle.interpreter.specs.Steps.{Progress, steps}
use Rattle.interpreter.proofs.Pointwise.{keeps_more}
use Rattle.interpreter.proofs.RowVisits.{taken_next}
use Rattle.interpreter.proofs.row_visits.fetch_places.Goals as goal

pub loop-turn-preserved : goal.loop-turn-preserved
loop-turn-preserved g c =
    let l = c.loop-turn in
    let cell = g.C.Cells.cell c.args.cells.now in
    let f = c.args.function.now in
    let old = c.args.state.now in
    let others : List ℤ = drop 1 old.point.items in
    let low = c.args.numbers.low in
    let high = c.args.numbers.high in
    let z : ℤ = low +ℤ pos l.turn in
    let lt : l.turn < c.args.count = omega (arith, ltb-false) in
    let counted = c.requires.count in
    let fits : SFits w64 c.behind.result.low = search rules in
    let front : c.as_slice.result.now ≡ z ∷ others =
    c.as_slice.ensures ∙ c.set.ensures.from ∙ (λ i. (to_z-of_z w64 c.behind.result.low fits ∙ c.behind.ensures.low) i ∷ l.invariant.kept.from i) in
    let to : z ≤ℤ high = omega (arith, ints, lt, counted) in
    let next : z +ℤ pos 1 ≡ low +ℤ pos (l.turn + 1) = omega (arith, ints) in
    let new : Progress = record { memory = memory_of c.put.new.self; given = l.state.given.items } in
    record {
      large = record {
        space = (λ i. record { limits = c.put.ensures.limits i; numbers = l.state.numbers.room; point = c.set.ensures.room i; stack = l.state.stack.room }) ∙ l.invariant.large.space;
        given = l.invariant.large.given;
      };
      kept = keeps_more 0 old.point l.state.point c.set.new.self c.set.new.self _ l.invariant.kept c.set.ensures.from c.set.ensures.count (record { from = refl; count = refl });
      places = λ i n h. c.put.ensures.places i n (l.invariant.places i n h);
      spots = λ b p s k h. c.put.ensures.spots b p s k (l.invariant.spots b p s k h);
      run = λ x b here.
          taken_next x cell b f others z high c.as_slice.result.now c.cell-value.result new (progress_of l.state)
          (steps (around x cell) (row_takes b f others low high) (progress_of old)) to (l.invariant.run x b here) front c.cell-value.ensures
          (c.put.ensures.set b (z ∷ others) (l.invariant.spots b (z ∷ others) c.args.spot l.turn (here l.turn lt))) refl
          ∙ ap (λ (y : ℤ). steps (around x cell) (row_takes b f others y high) new) next;
    }
