-- A form within the limits is shown to be at most itself, and a number to be at most one that is not below it.
use Rattle.std.proofs.Common.{◌≡◌, ℕ, zero, suc, ◌≤◌, ◌^◌, true, false, List, [], ◌∷◌, length, Option, Some, None, refl, ap, ◌∙◌, arith}
use Rattle.std.specs.Prelude.{ℤ, pos, negsuc, ◌+ℤ◌, ◌*ℤ◌, ◌≤ℤ◌, ◌==◌, ◌&&◌, if◌then◌else◌, nat_lt, nat_le, option_and_then}
use Rattle.std.specs.Int.RustNames.{unsigned_abs}
use Rattle.std.proofs.lemmas.Bool.Decides.{nat_tests}
use Rattle.std.proofs.lemmas.Int.{ints}
use Rattle.lin.specs.Forms.{Form, number, is_zero, in_front, plus_term, plus_terms, plus_multiple, is_within_limits, combined}
use Rattle.lin.specs.Search.{least, replacements, sup, is_at_most_zero, at_most}
use Rattle.lin.specs.declared.form.Multiple.{Multiple}
use Rattle.lin.specs.declared.scope.Binding.{Binding}
use Rattle.lin.proofs.Limits.{combined-made}
use Rattle.soundness.proofs.Refines.{eq_refl}
use Rattle.completeness.proofs.GridScope.{number_limited}

-- ---- numbers

pub least_number : (scope : List Binding) (n : ℕ) (z : ℤ) → least scope n (number z) ≡ Some z
least_number scope zero z = refl
least_number scope (suc n) z = least_number scope n z

pub no_replacements : (scope : List Binding) (n : ℕ) (z : ℤ) → replacements scope n (number z) ≡ 0
no_replacements scope zero z = refl
no_replacements scope (suc n) z = no_replacements scope n z

number_found : (scope : List Binding) (z : ℤ) → is_within_limits (number z) ≡ true → sup scope (number z) ≡ Some z
number_found scope z limited =
    ap (λ v. if v && nat_le (replacements scope (length scope) (number z)) 4096 then least scope (length scope) (number z) else None) limited
    ∙ ap (λ (n : ℕ). if nat_le n 4096 then least scope (length scope) (number z) else None) (no_replacements scope (length scope) z)
    ∙ least_number scope (length scope) z

pub found_below : (scope : List Binding) (f g d : Form) (z : ℤ) → combined f (negsuc 0) g ≡ Some d → sup scope d ≡ Some z → is_at_most_zero (Some z) ≡ true → at_most scope f g ≡ true
found_below scope f g d z made found below =
    ap (λ (o : Option Form). is_at_most_zero (option_and_then (λ d. sup scope d) o)) made ∙ ap is_at_most_zero found ∙ below

-- ---- a form less itself

not_below : (n : ℕ) → nat_lt n n ≡ false
not_below n = grind (arith, nat_tests)

nothing_left : (z : ℤ) → z +ℤ negsuc 0 *ℤ z ≡ pos 0
nothing_left z = omega (arith, ints)

pub term_gone : (t : Multiple) (ts : List Multiple) → plus_term (t ∷ ts) (record { symbol = t.symbol; factor = negsuc 0 *ℤ t.factor }) ≡ ts
term_gone t ts =
    let m : Multiple = record { symbol = t.symbol; factor = negsuc 0 *ℤ t.factor } in
    let sum : Multiple = record { symbol = t.symbol; factor = t.factor +ℤ negsuc 0 *ℤ t.factor } in
    ap (λ v. if v then t ∷ plus_term ts m else (if t.symbol == t.symbol then in_front sum ts else in_front m (t ∷ ts))) (not_below t.symbol)
    ∙ ap (λ v. if v then in_front sum ts else in_front m (t ∷ ts)) (eq_refl t.symbol)
    ∙ ap (λ z. if is_zero z then ts else record { symbol = t.symbol; factor = z } ∷ ts) (nothing_left t.factor)

terms_gone : (ts : List Multiple) → plus_terms ts (negsuc 0) ts ≡ []
terms_gone [] = refl
terms_gone (t ∷ ts) = ap (λ us. plus_terms us (negsuc 0) ts) (term_gone t ts) ∙ terms_gone ts

less_itself : (f : Form) → plus_multiple f (negsuc 0) f ≡ number (pos 0)
less_itself f = λ i. record { constant = nothing_left f.constant i; terms = terms_gone f.terms i }

pub form_self : (scope : List Binding) (f : Form) → is_within_limits f ≡ true → at_most scope f f ≡ true
form_self scope f limited =
    let is = less_itself f in
    let made : combined f (negsuc 0) f ≡ Some (number (pos 0)) = combined-made f f (negsuc 0) limited limited (ap is_within_limits is) ∙ ap (λ (d : Form). Some d) is in
    found_below scope f f (number (pos 0)) (pos 0) made (number_found scope (pos 0) refl) refl

-- ---- the order of numbers

pub still : (z : ℤ) → z ≤ℤ pos 0 → is_at_most_zero (Some z) ≡ true
still (pos zero) h = refl
still (pos (suc n)) h = absurd (omega (arith, ints, h))
still (negsuc n) h = refl

pub number_below : (scope : List Binding) (y z : ℤ) → y ≤ℤ z → unsigned_abs y ≤ 2 ^ 39 → unsigned_abs z ≤ 2 ^ 39 → at_most scope (number y) (number z) ≡ true
number_below scope y z le low high =
    let d : ℤ = y +ℤ negsuc 0 *ℤ z in
    let near : unsigned_abs d ≤ 2 ^ 40 = omega (arith, ints, low, high) in
    let made : combined (number y) (negsuc 0) (number z) ≡ Some (number d) =
    combined-made (number y) (number z) (negsuc 0) (number_limited y (omega (arith, low))) (number_limited z (omega (arith, high))) (number_limited d near) in
    found_below scope (number y) (number z) (number d) d made (number_found scope d (number_limited d near)) (still d (omega (arith, ints, le)))
