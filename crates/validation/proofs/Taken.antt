-- Lists taken one by one.
use Rattle.std.proofs.Common.{◌≡◌, ℕ, zero, suc, ◌+◌, List, [], ◌∷◌, ◌++◌, take, Option, Some, None, ap, ◌∙◌, arith}
use Rattle.std.specs.Prelude.{slice_get}

none_is : {A : Type 0} (x : A) (e : None ≡ Some x) → ⊥
none_is x e = cc

the_first : {A : Type 0} (x y : A) (xs : List A) → Some y ≡ Some x → y ∷ xs ≡ x ∷ xs
the_first {A} x y xs e = ap or_y e
  where
    or_y : Option A → List A
    or_y None = y ∷ xs
    or_y (Some z) = z ∷ xs

taken : {A : Type 0} (xs : List A) (n : ℕ) (x : A) → slice_get xs n ≡ Some x → take (suc n) xs ≡ take n xs ++ x ∷ []
taken [] n x e = absurd (none_is x e)
taken (y ∷ ys) zero x e = the_first x y [] e
taken {A} (y ∷ ys) (suc n) x e = ap (λ (zs : List A). y ∷ zs) (taken ys n x e)

-- one element more
pub take_get : {A : Type 0} (xs : List A) (n : ℕ) (x : A) → slice_get xs n ≡ Some x → take (n + 1) xs ≡ take n xs ++ x ∷ []
take_get {A} xs n x e = let s : n + 1 ≡ suc n = omega arith in ap (λ (k : ℕ). take k xs) s ∙ taken xs n x e
