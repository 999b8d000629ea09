-- Lemmas on lists.
use Rattle.std.proofs.Common.{◌≡◌, ℕ, zero, suc, ◌≤◌, List, [], ◌∷◌, length, drop, arith, refl}

pub drop_all : {X : Type 0} (xs : List X) (p : ℕ) → length xs ≤ p → drop p xs ≡ []
drop_all [] zero h = refl
drop_all [] (suc p) h = refl
drop_all (x ∷ xs) zero h = absurd (omega arith)
drop_all (x ∷ xs) (suc p) h = drop_all xs p (omega arith)
