-- The first so many numbers at a turn of a run.
use Rattle.std.proofs.Common.{◌≡◌, ℕ, zero, suc, List, [], ◌∷◌, take, refl, ap, ℤ, pos}
use Rattle.std.specs.Prelude.{◌+ℤ◌, ◌-ℤ◌, ◌*ℤ◌}
use Rattle.interpreter.specs.Runs.{numbers_at}

-- they are those of the first so many coordinates
pub numbers_taken : (n : ℕ) (xs ys : List ℤ) (k : ℕ) → numbers_at (take n xs) (take n ys) k ≡ take n (numbers_at xs ys k)
numbers_taken zero xs ys k = refl
numbers_taken (suc n) [] ys k = refl
numbers_taken (suc n) (x ∷ xs) [] k = ap (λ (l : List ℤ). x ∷ l) (only n xs)
  where
    only : (m : ℕ) (zs : List ℤ) → numbers_at (take m zs) [] k ≡ take m (numbers_at zs [] k)
    only zero zs = refl
    only (suc m) [] = refl
    only (suc m) (z ∷ zs) = ap (λ (l : List ℤ). z ∷ l) (only m zs)
numbers_taken (suc n) (x ∷ xs) (y ∷ ys) k = ap (λ (l : List ℤ). (x +ℤ (y -ℤ x) *ℤ pos k) ∷ l) (numbers_taken n xs ys k)
