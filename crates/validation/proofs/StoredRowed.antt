-- Coordinates, beside other lists.
use Rattle.std.proofs.Common.{◌≡◌, ℕ, zero, suc, ◌<◌, List, [], ◌∷◌, length, take, drop, map, get_or, Bool, true, false, refl, sym, ap, ◌∙◌, arith}
use Rattle.std.specs.Prelude.{◌&&◌}
use Rattle.std.specs.List.{list_all}
use Rattle.std.proofs.lemmas.List.{take-map, drop-map}
use Rattle.soundness.proofs.Refines.{and_parts}
use Rattle.plan.specs.Plan.{Coordinate}
use Rattle.tree.specs.Term.{Term}
use Rattle.meaning.specs.Names.{same_name}
use Rattle.meaning.specs.Algorithm.{Algorithm}
use Rattle.plan.specs.Plan.{Plan}
use Rattle.soundness.specs.Origins.{Outline}
use Rattle.validation.specs.Stored.Stored.{are_for, are_left, is_left}

and_none : (b : Bool) → false ≡ (b && false)
and_none true = refl
and_none false = refl

-- lists of different lengths do not go with each other
pub uneven_names : (cs : List Coordinate) (vs : List (List ℕ)) → ¬ (length cs ≡ length vs) → false ≡ are_for cs vs
uneven_names [] [] h = absurd (h refl)
uneven_names [] (v ∷ vs) h = refl
uneven_names (c ∷ cs) [] h = refl
uneven_names (c ∷ cs) (v ∷ vs) h = and_none (same_name c.variable v) ∙ ap (λ k. same_name c.variable v && k) (uneven_names cs vs (λ e. h (ap suc e)))

pub uneven_left : (a : Algorithm) (p : Plan) (o : Outline) (vs : List (List ℕ)) (ds : List Term) (cs : List Coordinate) → ¬ ((length vs ≡ length ds) × (length ds ≡ length cs)) → false ≡ are_left a p o vs ds cs
uneven_left a p o [] [] [] h = absurd (h (refl, refl))
uneven_left a p o [] [] (c ∷ cs) h = refl
uneven_left a p o [] (d ∷ ds) [] h = refl
uneven_left a p o [] (d ∷ ds) (c ∷ cs) h = refl
uneven_left a p o (v ∷ vs) [] [] h = refl
uneven_left a p o (v ∷ vs) [] (c ∷ cs) h = refl
uneven_left a p o (v ∷ vs) (d ∷ ds) [] h = refl
uneven_left a p o (v ∷ vs) (d ∷ ds) (c ∷ cs) h =
    and_none (is_left a p o v d c.index) ∙ ap (λ k. is_left a p o v d c.index && k) (uneven_left a p o vs ds cs (λ e. h (ap suc e.0, ap suc e.1)))

-- the first so many coordinates, and the others
pub first_mapped : {A B : Type 0} (f : A → B) (xs ys : List A) (n m : ℕ) → ys ≡ take n xs → n ≡ m → map f ys ≡ take m (map f xs)
first_mapped f xs ys n m is e = ap (map f) is ∙ sym (take-map f n xs) ∙ ap (λ k. take k (map f xs)) e

pub rest_mapped : {A B : Type 0} (f : A → B) (xs ys : List A) (n m : ℕ) → ys ≡ drop n xs → n ≡ m → map f ys ≡ drop m (map f xs)
rest_mapped f xs ys n m is e = ap (map f) is ∙ sym (drop-map f n xs) ∙ ap (λ k. drop k (map f xs)) e

-- what holds of all holds of each, and of parts
pub all_at : {A B : Type 0} (p : B → Bool) (f : A → B) (xs : List A) (i : ℕ) (x : A) → i < length xs → x ≡ get_or xs i x → list_all p (map f xs) ≡ true → p (f x) ≡ true
all_at p f [] i x h is all = absurd (omega (arith, h))
all_at p f (y ∷ ys) zero x h is all = ap (λ z. p (f z)) is ∙ (and_parts (p (f y)) (list_all p (map f ys)) all).0
all_at p f (y ∷ ys) (suc i) x h is all = all_at p f ys i x (omega (arith, h)) is (and_parts (p (f y)) (list_all p (map f ys)) all).1

pub all_take : {A B : Type 0} (p : B → Bool) (f : A → B) (xs : List A) (n : ℕ) → list_all p (map f xs) ≡ true → list_all p (map f (take n xs)) ≡ true
all_take p f [] zero h = refl
all_take p f [] (suc n) h = refl
all_take p f (x ∷ xs) zero h = refl
all_take p f (x ∷ xs) (suc n) h = let k = and_parts (p (f x)) (list_all p (map f xs)) h in ap (λ b. b && list_all p (map f (take n xs))) k.0 ∙ all_take p f xs n k.1
