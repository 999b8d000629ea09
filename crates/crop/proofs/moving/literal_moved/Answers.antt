use Rattle.std.proofs.Common.{◌≡◌, ap, sym, subst, ◌∙◌, ◌+ℤ◌, rules, w32, w64, SFits}
use Rattle.std.specs.Prelude.{IfOk}
use Rattle.std.proofs.lemmas.Int.{to_z-of_z}
use Rattle.numeric.specs.declared.ty.Ty.TheVariants.{I32}
use Rattle.numeric.specs.Wrap.{wrap}
use Rattle.tree.specs.Term.{Term, term_of}
use Rattle.crop.specs.Moving.{literal}
use Rattle.crop.specs.Plan.{literal_with}
use Rattle.crop.proofs.moving.literal_moved.Goals as goal

pub returns-in-I32 : goal.returns-in-I32
returns-in-I32 c =
    let kept = to_z-of_z w32 c.args.c c.ranges.c in
    let wrapped_fits : SFits w32 c.wrapped.result = search rules in
    let wrapped = to_z-of_z w32 c.wrapped.result wrapped_fits ∙ c.wrapped.ensures ∙ ap (wrap I32) (to_z-of_z w64 c.args.number c.ranges.number) in
    let added_fits : SFits w32 c.added.result = search rules in
    let number = to_z-of_z w32 c.added.result added_fits ∙ c.added.ensures ∙ (λ i. wrap I32 (wrapped i +ℤ kept i)) in
    subst (λ (x : Term). IfOk c.literal.result (λ e. term_of e ≡ x)) (ap literal number ∙ (λ i. literal_with c.args.c (sym c.in-I32.is i) c.args.number)) c.literal.ensures
