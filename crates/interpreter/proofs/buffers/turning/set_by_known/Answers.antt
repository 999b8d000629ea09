use Rattle.std.proofs.Common.{◌≡◌, ℤ, List, Option, Some, None, sym, subst, ap, ◌∙◌, rules, slice_index_or, slice_set, w64, SFits, to_z, of_z}
use Rattle.std.specs.Prelude.{IfSome}
use Rattle.std.specs.Int.{int_wrap}
use Rattle.std.proofs.lemmas.Int.{to_z-of_z}
use Rattle.numeric.specs.Wrap.{wrap}
use Rattle.numeric.specs.Apply.{exact}
use Rattle.numeric.proofs.Wraps.{wrap-int_wrap}
use Rattle.tree.specs.declared.value.Value.{Value}
use Rattle.tree.specs.Meaning.{applied, typed}
use Rattle.plan.specs.Semantics.Found.{with}
use Rattle.interpreter.specs.Buffers.Marks.{held_places}
use Rattle.interpreter.specs.declared.evaluation.lanes.Number.{Number}
use Rattle.interpreter.proofs.buffers.turning.set_by_known.Goals as goal

pub returns-in-Some-clause-turned : goal.returns-in-Some-clause-turned
returns-in-Some-clause-turned g c =
    let zs = c.args.wides.now.items in
    let h : List (Option Value) = held_places c.args.marks.now c.args.words.now zs in
    let t = g.W.Width.ty in
    let op = c.args.op in
    let a : ℤ = c.in-Some.first.value in
    let b : ℤ = c.args.number.value in
    let r : ℤ = c.low_bits-bits.result in
    let f : SFits w64 r = search rules in
    let d : SFits w64 a = search rules in
    let k : SFits w64 b = search rules in
    let P : Number → Type 0 = λ n. slice_index_or h c.args.own None ≡ Some (typed t n.value) in
    let found : slice_index_or h c.args.own None ≡ Some (typed t a) = subst (λ (o : Option Number). IfSome o P) c.in-Some.is (c.number_in.ensures zs) in
    let bits : to_z w64 (of_z w64 r) ≡ int_wrap w64 (exact op a b) =
    to_z-of_z w64 r f ∙ c.low_bits-bits.ensures ∙ (λ i. int_wrap w64 (exact (sym c.requires.op i) (to_z-of_z w64 a d i) (to_z-of_z w64 b k i))) in
    let is : wrap t (to_z w64 (of_z w64 r)) ≡ wrap t (exact op a b) = ap (wrap t) bits ∙ wrap-int_wrap t (exact op a b) in
    ap (λ (l : List (Option Value)). Some l) (c.put_wrapped.ensures zs ∙ ap (λ (z : ℤ). slice_set h c.args.point (Some (typed t z))) is)
    ∙ sym (ap (λ (o : Option Value). with (with o (λ x. Some (applied op x (typed c.args.ty b)))) (λ v. Some (slice_set h c.args.point (Some v)))) found)
