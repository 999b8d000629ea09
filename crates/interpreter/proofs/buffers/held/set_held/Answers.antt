use Rattle.std.proofs.Common.{ℤ, Some, ap, ◌∙◌, rules, slice_set, w64, SFits, to_z, of_z}
use Rattle.std.proofs.lemmas.Int.{to_z-of_z}
use Rattle.numeric.proofs.Wraps.{wrap_of_value}
use Rattle.tree.specs.Meaning.{typed}
use Rattle.interpreter.specs.Buffers.Marks.{held_places}
use Rattle.interpreter.proofs.buffers.held.set_held.Goals as goal

pub returns-then-fits-clause-set : goal.returns-then-fits-clause-set
returns-then-fits-clause-set c =
    let v = c.args.value in
    let h = held_places c.args.marks.now c.args.words.now c.args.wides.now.items in
    let f : SFits w64 v.number = search rules in
    c.set_word.ensures c.args.wides.now.items
    ∙ ap (λ (z : ℤ). slice_set h c.args.place (Some (typed v.ty z))) (wrap_of_value v.ty (to_z w64 (of_z w64 v.number)) c.if-fits.ensures ∙ to_z-of_z w64 v.number f)
