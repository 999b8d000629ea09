-- Lists of which each element says the same, so far.
use Rattle.std.proofs.Common.{◌≡◌, ◌<◌, ◌+◌, ◌∷◌, ◌++◌, ℕ, suc, List, [], length, take, get_or, Some, sym, ap, ◌∙◌, arith}
use Rattle.std.specs.Prelude.{map, slice_get}
use Rattle.std.proofs.lemmas.List.{map-append, take_more}
use Rattle.meaning.proofs.Calls.{take_one_more}

more_of : {A B : Type 0} (f : A → B) (xs : List A) (i : ℕ) (x : A) → i < length xs → x ≡ get_or xs i x → map f (take (i + 1) xs) ≡ map f (take i xs) ++ f x ∷ []
more_of f xs i x lt is = ap (map f) (take_more xs i x lt) ∙ (λ j. map f (take i xs ++ sym is j ∷ [])) ∙ map-append f (take i xs) (x ∷ [])

-- one element more of two lists
pub more_same : {A B : Type 0} (f : A → B) (xs ys : List A) (i : ℕ) (x y : A) → i < length xs → i < length ys → x ≡ get_or xs i x → y ≡ get_or ys i y → f x ≡ f y
    → map f (take i xs) ≡ map f (take i ys) → map f (take (i + 1) xs) ≡ map f (take (i + 1) ys)
more_same f xs ys i x y l m is at same so_far = more_of f xs i x l is ∙ (λ j. so_far j ++ same j ∷ []) ∙ sym (more_of f ys i y m at)

-- one element more of a list that is made of another
pub next_made : {A B : Type 0} (f : A → B) (ys : List B) (xs : List A) (i : ℕ) (x : A) → i < length xs → x ≡ get_or xs i x → slice_get ys i ≡ Some (f x) → take i ys ≡ map f (take i xs)
    → take (i + 1) ys ≡ map f (take (i + 1) xs)
next_made f ys xs i x lt is at so_far =
    let next : i + 1 ≡ suc i = omega arith in
    ap (λ n. take n ys) next ∙ take_one_more ys i (f x) at ∙ (λ j. so_far j ++ f x ∷ []) ∙ sym (more_of f xs i x lt is)
