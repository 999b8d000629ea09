use Rattle.std.proofs.Common.{[], sym, ◌∙◌}
use Rattle.crew.proofs.Private.{Laws, pieces_give}
use Rattle.crew.proofs.values.Pieces.of.Goals as goal

pub returns-clause-ready : goal.returns-clause-ready
returns-clause-ready g c =
    let laws : Laws = record {
      own = c.own_is_of_work.ensures;
      works = c.works_are_sound.ensures;
      values = c.values_are_targets.ensures;
      runs = c.runs_give_values.ensures;
      work = c.runs_are_the_work.ensures;
      narrow = c.pieces_are_narrow.ensures;
      numbered = c.cells_are_numbered.ensures;
    } in
    pieces_give laws c.args.checked.now c.args.inputs.now g.J.Run.layout g.J.Run.values c.most_own.result c.requires.input c.requires.layout c.requires.values c.most_own.ensures
    (sym c.pieces-count.ensures.count ∙ c.pieces-count.ensures.work [] ∙ sym (c.own_is_of_work.ensures c.args.checked.now []).pieces)
