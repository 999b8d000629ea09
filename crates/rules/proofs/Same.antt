-- Forms, spans and what is known of symbols that are told to be the same are.
use Rattle.std.proofs.Common.{◌≡◌, true, List, [], ◌∷◌, refl}
use Rattle.std.specs.Prelude.{◌==◌, ◌&&◌}
use Rattle.std.specs.Ordering.{int_eq}
use Rattle.lin.specs.Forms.{Form, same_form, same_terms}
use Rattle.lin.specs.declared.form.Multiple.{Multiple}
use Rattle.soundness.proofs.Refines.{eq_true, and_parts, number_true}

same_terms_are : (ts us : List Multiple) → same_terms ts us ≡ true → ts ≡ us
same_terms_are [] [] h = refl
same_terms_are [] (u ∷ us) h = absurd (cc h)
same_terms_are (t ∷ ts) [] h = absurd (cc h)
same_terms_are (t ∷ ts) (u ∷ us) h =
    let a = and_parts ((t.symbol == u.symbol) && int_eq t.factor u.factor) (same_terms ts us) h in
    let b = and_parts (t.symbol == u.symbol) (int_eq t.factor u.factor) a.0 in
    let symbols : t.symbol ≡ u.symbol = eq_true t.symbol u.symbol b.0 in
    let factors : t.factor ≡ u.factor = number_true t.factor u.factor b.1 in
    let rest : ts ≡ us = same_terms_are ts us a.1 in
    λ i. record { symbol = symbols i; factor = factors i } ∷ rest i

pub same_form_is : (f g : Form) → same_form f g ≡ true → f ≡ g
same_form_is f g h =
    let a = and_parts (int_eq f.constant g.constant) (same_terms f.terms g.terms) h in
    let constants : f.constant ≡ g.constant = number_true f.constant g.constant a.0 in
    let terms : f.terms ≡ g.terms = same_terms_are f.terms g.terms a.1 in
    λ i. record { constant = constants i; terms = terms i }
