use Rattle.std.proofs.Common.{◌≡◌, Option, Some, None, subst, slice_index_or}
use Rattle.std.specs.Prelude.{IfSome}
use Rattle.tree.specs.Meaning.{typed}
use Rattle.interpreter.specs.Buffers.Marks.{held_places}
use Rattle.interpreter.specs.declared.evaluation.lanes.Number.{Number}
use Rattle.interpreter.proofs.buffers.held.numbers_in.Goals as goal

pub returns-clause-first : goal.returns-clause-first
returns-clause-first g c = λ zs.
    let P : Number → Type 0 = λ n. slice_index_or (held_places c.args.marks.now c.args.words.now zs) c.args.first None ≡ Some (typed g.W.Width.ty n.value) in
    subst (λ (o : Option Number). IfSome o P) c.in_ok-left.was (c.number_in.ensures zs)

pub returns-clause-second : goal.returns-clause-second
returns-clause-second g c = λ zs.
    let P : Number → Type 0 = λ n. slice_index_or (held_places c.args.marks.now c.args.words.now zs) c.args.second None ≡ Some (typed g.W.Width.ty n.value) in
    subst (λ (o : Option Number). IfSome o P) c.in_ok-right.was (c.number_in-2.ensures zs)
