use Rattle.std.proofs.Common.{◌∷◌, ◌++◌, [], pos, get_or, sym, ◌∙◌, arith, rules}
use Rattle.std.proofs.lemmas.Int.{to_z-of_z}
use Rattle.std.proofs.lemmas.List.{take_more}
use Rattle.steps.proofs.desk.tell.Goals as goal
use mir.Syntax.{w64}
use mir.Val.{SFits}

pub loop-value-preserved : goal.loop-value-preserved
loop-value-preserved c =
    let values = c.args.values.now in
    let i = c.loop-value.value-index in
    let value = get_or values i (pos 0) in
    let fits : SFits w64 value = search rules in
    record {
      cells = c.push.ensures.same.0 ∙ c.loop-value.invariant.cells;
      piece = c.push.ensures.same.1 ∙ c.loop-value.invariant.piece;
      looked = c.push.ensures.looked ∙ (λ j. c.loop-value.invariant.looked j ++ to_z-of_z w64 value fits j ∷ []) ∙ sym (take_more values i (pos 0) (omega (arith, c.loop-value-test.true)));
      room = c.push.ensures.room ∙ c.loop-value.invariant.room;
    }
