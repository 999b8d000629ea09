-- Forms with another constant, and forms outside the limits.
use Rattle.std.proofs.Common.{◌≡◌, ◌≢◌, ℕ, zero, suc, ◌<◌, Bool, true, false, List, [], ◌∷◌, length, take, get_or, refl, ap, ◌∙◌, arith}
use Rattle.std.specs.Prelude.{pos, negsuc, ◌-ℤ◌, ◌&&◌, ◌||◌, All, option_and_then}
use Rattle.std.specs.List.{AllByRecursion, list_any}
use Rattle.std.proofs.lemmas.List.Elements.{All-nil, All-cons}
use Rattle.lin.specs.Forms.{Form, IsCanonical, is_within_limits}
use Rattle.lin.specs.Regions.{span_inside}
use Rattle.lin.specs.Search.{sup, is_at_most_zero, at_most}
use Rattle.lin.specs.declared.form.Multiple.{Multiple}
use Rattle.lin.specs.declared.scope.Binding.{Binding}
use Rattle.lin.specs.declared.span.Span1.{Span1}
use Rattle.lin.proofs.Limits.{combined-second}
use Rattle.meaning.specs.Algorithm.{Algorithm}
use Rattle.plan.specs.declared.stmt.Places.{Places}
use Rattle.plan.specs.declared.stmt.Places.TheVariants.{From, Folded}
use Rattle.plan.specs.Plan.{Plan}
use Rattle.plan.specs.Certificate.Certificate.{Certificate}
use Rattle.soundness.specs.Obligations.{Binder}
use Rattle.soundness.specs.Shown.{raised, is_seated}
use Rattle.rules.specs.Bounding.Rules.{rules_of}
use Rattle.rules.specs.Bounding.Scopes.{scope_of}
use Rattle.rules.specs.Bounding.Seats.{seats, is_seated_in}

-- one of a list has what all have
one_has : (P : Multiple → Type 0) (ts : List Multiple) (k : ℕ) (d : Multiple) → AllByRecursion P ts → k < length ts → P (get_or ts k d)
one_has P [] k d h lt = absurd (omega (arith, lt))
one_has P (x ∷ xs) zero d h lt = h.0
one_has P (x ∷ xs) (suc k) d h lt = one_has P xs k d h.1 (omega (arith, lt))

-- the symbols before a term's are below it, and its factor is not 0
pub terms_rise : (ts : List Multiple) (k : ℕ) (d : Multiple) → IsCanonical ts → k < length ts → All (λ u. u.symbol < (get_or ts k d).symbol) (take k ts)
terms_rise [] k d h lt = absurd (omega (arith, lt))
terms_rise (x ∷ xs) zero d h lt = All-nil (λ u. u.symbol < x.symbol)
terms_rise (x ∷ xs) (suc k) d h lt =
    All-cons (λ u. u.symbol < (get_or xs k d).symbol) x (take k xs) (one_has (λ u. x.symbol < u.symbol) xs k d h.1 (omega (arith, lt))) (terms_rise xs k d h.2 (omega (arith, lt)))

pub factor_is : (ts : List Multiple) (k : ℕ) (d : Multiple) → IsCanonical ts → k < length ts → (get_or ts k d).factor ≢ pos 0
factor_is [] k d h lt = absurd (omega (arith, lt))
factor_is (x ∷ xs) zero d h lt = h.0
factor_is (x ∷ xs) (suc k) d h lt = factor_is xs k d h.2 (omega (arith, lt))

-- ---- forms outside the limits

and_false : (a : Bool) → (a && false) ≡ false
and_false true = refl
and_false false = refl

-- nothing is shown to be at most a form outside the limits
never_below : (scope : List Binding) (u f : Form) → is_within_limits f ≡ false → at_most scope u f ≡ false
never_below scope u f h = ap (λ o. is_at_most_zero (option_and_then (λ d. sup scope d) o)) (combined-second u f (negsuc 0) h)

none_below : (scope : List Binding) (us : List Form) (f : Form) → is_within_limits f ≡ false → list_any (λ u. at_most scope u f) us ≡ false
none_below scope [] f h = refl
none_below scope (u ∷ us) f h = ap (λ b. b || list_any (λ x. at_most scope x f) us) (never_below scope u f h) ∙ none_below scope us f h

pub never_seated : (scope : List Binding) (x : Span1) (l : Form) (n : ℕ) → is_within_limits (raised l (pos n -ℤ pos 1)) ≡ false → span_inside scope x (seats l n) ≡ false
never_seated scope x l n h =
    let upper : list_any (λ u. at_most scope u (raised l (pos n -ℤ pos 1))) x.upper ≡ false = none_below scope x.upper (raised l (pos n -ℤ pos 1)) h in
    ap (λ v. (list_any (λ m. at_most scope l m) x.lower && true) && (v && true)) upper ∙ and_false (list_any (λ m. at_most scope l m) x.lower && true)

-- the same test, as claims state it
pub seated_same : (a : Algorithm) (p : Plan) (c : Certificate) (n : ℕ) (bs : List Binder) (x : Span1) (places : Places) → is_seated_in (scope_of bs) x places ≡ is_seated (rules_of a p c n) bs x places
seated_same a p c n bs x (From l m) = refl
seated_same a p c n bs x (Folded m) = refl
