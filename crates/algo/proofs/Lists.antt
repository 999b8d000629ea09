-- Facts of each element of a list, one by one.
use Rattle.std.proofs.Common.{◌≡◌, ℕ, ◌+◌, ◌*◌, ◌<◌, ◌≤◌, List, [], ◌∷◌, ◌++◌, map, take, drop, length, get_or, All, sym, ap, subst, ◌∙◌, arith, add-one}
use Rattle.std.proofs.lemmas.List.{take_more, map-append, get_or-map, length-map}
use Rattle.std.proofs.lemmas.List.Elements.{All-push}
use Rattle.std.proofs.Math.Seq.{drop-cons}
use Rattle.meaning.specs.Algorithm.{Range}
use Rattle.meaning.specs.Reduction.{size, width}

module _ {A B : Type 0} (P : B → Type 0) (f : A → B) where
  -- what holds of the first i holds of one more
  pub All-one_more : (xs : List A) (i : ℕ) (x : A) → x ≡ get_or xs i x → i < length xs → All P (map f (take i xs)) → P (f x) → All P (map f (take (i + 1) xs))
  All-one_more xs i x is lt h p =
      let e : take (i + 1) xs ≡ take i xs ++ x ∷ [] = take_more xs i x lt ∙ ap (λ y. take i xs ++ y ∷ []) (sym is) in
      let m : map f (take (i + 1) xs) ≡ map f (take i xs) ++ f x ∷ [] = ap (map f) e ∙ map-append f (take i xs) (x ∷ []) in
      subst (λ (ys : List B). All P ys) (sym m) (All-push P (map f (take i xs)) (f x) h p)

  -- and what holds of all holds of the i-th
  pub All-at : (xs : List A) (i : ℕ) (x : A) → x ≡ get_or xs i x → i < length xs → All P (map f xs) → P (f x)
  All-at xs i x is lt h =
      let same : get_or (map f xs) i (f x) ≡ f x = get_or-map f xs i x (f x) lt ∙ ap f (sym is) in
      subst P same (h i (f x) (let n : length (map f xs) ≡ length xs = length-map xs f in omega arith))

-- the points of the ranges from the i-th on
pub size-drop : {A : Type 0} (f : A → Range) (xs : List A) (i : ℕ) (x : A) → x ≡ get_or xs i x → i < length xs → size (map f (drop i xs)) ≡ width (f x) * size (map f (drop (i + 1) xs))
size-drop f xs i x is lt =
    let e : drop i xs ≡ x ∷ drop (i + 1) xs = drop-cons xs i x lt ∙ (λ j. sym is j ∷ drop (sym (add-one i) j) xs) in
    ap (λ ys. size (map f ys)) e

-- there is a point
pub size_positive : (ds : List Range) → 1 ≤ size ds
size_positive [] = omega arith
size_positive (d ∷ ds) = let h : 1 ≤ size ds = size_positive ds in grind arith
