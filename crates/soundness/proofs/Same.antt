-- A form is shown to be at most itself.
use Rattle.std.proofs.Common.{◌≡◌, ℕ, zero, suc, true, false, List, [], ◌∷◌, length, Some, None, refl, ap, ◌∙◌, arith}
use Rattle.std.specs.Prelude.{ℤ, pos, negsuc, ◌+ℤ◌, ◌*ℤ◌, ◌==◌, ◌&&◌, if◌then◌else◌, nat_lt, nat_le, option_and_then}
use Rattle.std.proofs.lemmas.Bool.Decides.{nat_tests}
use Rattle.std.proofs.lemmas.Int.{ints}
use Rattle.lin.specs.Forms.{Form, number, is_zero, in_front, plus_term, plus_terms, plus_multiple, is_within_limits, are_within_limits, combined}
use Rattle.lin.specs.Search.{least, replacements, sup, is_at_most_zero}
use Rattle.lin.specs.declared.form.Multiple.{Multiple}
use Rattle.lin.specs.declared.scope.Binding.{Binding}
use Rattle.soundness.proofs.Refines.{eq_refl}
use Rattle.soundness.specs.Nests.Plain.{FormsAreAtMostThemselves}

not_below : (n : ℕ) → nat_lt n n ≡ false
not_below n = grind (arith, nat_tests)

nothing_left : (z : ℤ) → z +ℤ negsuc 0 *ℤ z ≡ pos 0
nothing_left z = omega (arith, ints)

term_gone : (t : Multiple) (ts : List Multiple) → plus_term (t ∷ ts) (record { symbol = t.symbol; factor = negsuc 0 *ℤ t.factor }) ≡ ts
term_gone t ts =
    let m : Multiple = record { symbol = t.symbol; factor = negsuc 0 *ℤ t.factor } in
    let sum : Multiple = record { symbol = t.symbol; factor = t.factor +ℤ negsuc 0 *ℤ t.factor } in
    ap (λ v. if v then t ∷ plus_term ts m else (if t.symbol == t.symbol then in_front sum ts else in_front m (t ∷ ts))) (not_below t.symbol)
    ∙ ap (λ v. if v then in_front sum ts else in_front m (t ∷ ts)) (eq_refl t.symbol)
    ∙ ap (λ z. if is_zero z then ts else record { symbol = t.symbol; factor = z } ∷ ts) (nothing_left t.factor)

terms_gone : (ts : List Multiple) → plus_terms ts (negsuc 0) ts ≡ []
terms_gone [] = refl
terms_gone (t ∷ ts) = ap (λ us. plus_terms us (negsuc 0) ts) (term_gone t ts) ∙ terms_gone ts

difference : (f : Form) → plus_multiple f (negsuc 0) f ≡ number (pos 0)
difference f = λ i. record { constant = nothing_left f.constant i; terms = terms_gone f.terms i }

none_replaced : (scope : List Binding) (n : ℕ) → replacements scope n (number (pos 0)) ≡ 0
none_replaced scope zero = refl
none_replaced scope (suc n) = none_replaced scope n

zero_least : (scope : List Binding) (n : ℕ) → least scope n (number (pos 0)) ≡ Some (pos 0)
zero_least scope zero = refl
zero_least scope (suc n) = zero_least scope n

zero_sup : (scope : List Binding) → sup scope (number (pos 0)) ≡ Some (pos 0)
zero_sup scope =
    ap (λ n. if is_within_limits (number (pos 0)) && nat_le n 4096 then least scope (length scope) (number (pos 0)) else None) (none_replaced scope (length scope))
    ∙ zero_least scope (length scope)

pub forms_at_most_themselves : FormsAreAtMostThemselves
forms_at_most_themselves scope f h =
    let within : are_within_limits f (negsuc 0) f ≡ true =
    ap (λ v. (v && v) && is_within_limits (plus_multiple f (negsuc 0) f)) h ∙ ap is_within_limits (difference f) in
    let all : combined f (negsuc 0) f ≡ Some (number (pos 0)) =
    ap (λ v. if v then Some (plus_multiple f (negsuc 0) f) else None) within ∙ ap Some (difference f) in
    ap (λ o. is_at_most_zero (option_and_then (λ d. sup scope d) o)) all ∙ ap is_at_most_zero (zero_sup scope)
