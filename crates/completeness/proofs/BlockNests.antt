-- Lists: of what is stored, and their lengths.
use Rattle.std.proofs.Common.{◌≡◌, ℕ, zero, suc, ◌+◌, List, [], ◌∷◌, ◌++◌, length, take, drop}
use Rattle.std.proofs.Common.{Option, Some, None, refl, ap, arith}
use Rattle.std.specs.Prelude.{IsSomeAnd}
use Rattle.sched.specs.Stored.{FormulaText}

pub stored_there : {P : FormulaText → Type 0} (o : Option FormulaText) → IsSomeAnd o P → (x : FormulaText) × (o ≡ Some x) × P x
stored_there None h = absurd h
stored_there (Some x) h = (x, refl, h)

pub take_all : {A : Type 0} (m : ℕ) (xs : List A) → length xs ≡ m → (take m xs ≡ xs) × (drop m xs ≡ [])
take_all zero [] e = (refl, refl)
take_all zero (x ∷ xs) e = absurd (omega (arith, e))
take_all (suc m) [] e = absurd (omega (arith, e))
take_all (suc m) (x ∷ xs) e = (let r = take_all m xs (omega (arith, e)) in (ap (λ (ys : List _). x ∷ ys) r.0, r.1))

pub length_append : {A : Type 0} (xs ys : List A) → length (xs ++ ys) ≡ length xs + length ys
length_append [] ys = omega arith
length_append (x ∷ xs) ys = (let rest = length_append xs ys in omega (arith, rest))
