use Rattle.std.proofs.Common.{ℤ, List, Option, Some, ap, ◌∙◌, arith, rules, slice_set, w64, SFits, to_z, of_z}
use Rattle.std.proofs.lemmas.Int.{to_z-of_z}
use Rattle.tree.specs.declared.value.Value.{Value}
use Rattle.tree.specs.Meaning.{typed}
use Rattle.interpreter.specs.Buffers.Marks.{held_places}
use Rattle.interpreter.proofs.HeldPlaces.{held_apart, held_same}
use Rattle.interpreter.proofs.buffers.held.set_apart.Goals as goal

pub returns-clause-set : goal.returns-clause-set
returns-clause-set c = λ ws.
    let ms = c.args.marks.now in
    let zs = c.args.wides.now.items in
    let long = c.lengthen.new.wides.items in
    let n = c.args.place in
    let v = c.args.value in
    let f : SFits w64 v.number = search rules in
    let z : ℤ = to_z w64 (of_z w64 v.number) in
    (λ i. held_places (slice_set ms n (c.wide_mark.ensures i)) ws (slice_set long n (record { value = z })))
    ∙ held_apart ms ws long n v.ty (record { value = z }) (omega (arith, c.requires.marks, c.lengthen.ensures.count))
    ∙ ap (λ (h : List (Option Value)). slice_set h n (Some (typed v.ty z))) (held_same ms ws long zs c.lengthen.ensures.same)
    ∙ ap (λ (y : ℤ). slice_set (held_places ms ws zs) n (Some (typed v.ty y))) (to_z-of_z w64 v.number f)
