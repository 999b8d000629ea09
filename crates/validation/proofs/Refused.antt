-- What is too large to be put in is no small expression.
use Rattle.std.proofs.Common.{◌≡◌, List, Bool, true, false, refl, sym, ap, ◌∙◌, subst, Err}
use Rattle.std.specs.Prelude.{◌&&◌, not}
use Rattle.tree.specs.Term.{Term}
use Rattle.meaning.specs.Algorithm.{Algorithm}
use Rattle.plan.specs.Plan.{Plan}
use Rattle.soundness.specs.Origins.{Outline}
use Rattle.meaning.specs.Inlining.PutIn.{put_in, calls_updates}
use Rattle.subst.specs.Limits.{IsWithin}
use Rattle.subst.specs.declared.error.SubstError.TheVariants.{TooLarge}
use Rattle.subst.specs.PutIn.{PutsIn}
use Rattle.validation.specs.Stored.Sizes.{is_small}
use Rattle.validation.specs.Stored.Definitions.{stored_in}
use Rattle.validation.specs.Stored.Alike.{same_term}
use Rattle.validation.specs.Stored.Stored.{as_read, is_put_in}
use Rattle.validation.proofs.Kept.{small_read}
use Rattle.validation.proofs.Same.{term_is}

differs : (e d : Term) → IsWithin e → ¬ IsWithin d → (b : Bool) → same_term e d ≡ b → same_term e d ≡ false
differs e d small large true h = absurd (large (subst IsWithin (term_is e d h) small))
differs e d small large false h = h

and_false : (b : Bool) → (b && false) ≡ false
and_false true = refl
and_false false = refl

pub too_large : (a : Algorithm) (p : Plan) (o : Outline) (d e : Term) (stored : List Bool) → stored ≡ stored_in a p → is_small e ≡ true → PutsIn a stored d (Err TooLarge) → false ≡ is_put_in a p o d e
too_large a p o d e stored marked small refused =
    let large : ¬ IsWithin (put_in a (stored_in a p) d) = subst (λ (s : List Bool). ¬ IsWithin (put_in a s d)) marked refused.1 in
    let x = as_read o e in
    let y = put_in a (stored_in a p) d in
    sym (and_false (not (calls_updates a (stored_in a p) d))) ∙ sym (ap (λ (b : Bool). not (calls_updates a (stored_in a p) d) && b) (differs x y (small_read o e small) large (same_term x y) refl))
