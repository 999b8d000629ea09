-- Values found by numbers, one more at a time.
use Rattle.std.proofs.Common.{◌≡◌, ℕ, Bool, true, false, List, [], ◌∷◌, ◌++◌, length, Option, Some, None, refl, sym, ap, ◌∙◌}
use Rattle.std.specs.Map.{lookup}
use Rattle.std.specs.Prelude.{nat_eq, ℤ, ◌==◌, if◌then◌else◌, slice_get}
use Rattle.headline.specs.Parts.{first_value}
use Rattle.piece.specs.Found.{first_found, number_or_zero, or_else, value_for}

-- where nothing was looked at nothing is found
pub none_found : (n : ℕ) (ms : List ℕ) → first_found n ms [] ≡ None
none_found n [] = refl
none_found n (m ∷ ms) = refl

-- in an index of no entries nothing is found either
pub none_yet : (n : ℕ) (entries : List (ℕ × ℤ)) (ms : List ℕ) (vs : List ℤ) → entries ≡ [] → vs ≡ [] → lookup (nat_eq n) entries ≡ first_found n ms vs
none_yet n entries ms vs empty none = ap (λ (es : List (ℕ × ℤ)). lookup (nat_eq n) es) empty ∙ sym (ap (λ (xs : List ℤ). first_found n ms xs) none ∙ none_found n ms)

-- one value more, of the number that stands there, if one does
pub found_next : (n : ℕ) (ms : List ℕ) (vs : List ℤ) (v : ℤ) → first_found n ms (vs ++ v ∷ []) ≡ or_else (first_found n ms vs) (value_for (slice_get ms (length vs)) n v)
found_next n [] vs v = refl
found_next n (x ∷ xs) [] v = ap (λ (o : Option ℤ). if x == n then Some v else o) (none_found n xs)
found_next n (x ∷ xs) (w ∷ ws) v = of (x == n) (found_next n xs ws v)
  where
    of : (b : Bool) → first_found n xs (ws ++ v ∷ []) ≡ or_else (first_found n xs ws) (value_for (slice_get xs (length ws)) n v) →
        (if b then Some w else first_found n xs (ws ++ v ∷ [])) ≡ or_else (if b then Some w else first_found n xs ws) (value_for (slice_get xs (length ws)) n v)
    of true rest = refl
    of false rest = rest

-- what is found is the first value
pub value_found : (n : ℕ) (ms : List ℕ) (vs : List ℤ) → number_or_zero (first_found n ms vs) ≡ first_value n ms vs
value_found n [] vs = refl
value_found n (m ∷ ms) [] = refl
value_found n (m ∷ ms) (v ∷ vs) = of (m == n) (value_found n ms vs)
  where
    of : (b : Bool) → number_or_zero (first_found n ms vs) ≡ first_value n ms vs → number_or_zero (if b then Some v else first_found n ms vs) ≡ (if b then v else first_value n ms vs)
    of true rest = refl
    of false rest = rest
