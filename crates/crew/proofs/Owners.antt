-- Which of some pieces owns a cell.
use Rattle.std.proofs.Common.{ℕ, List, [], ◌∷◌, refl, subst, inl, inr}
use Rattle.std.specs.Prelude.{Contains, ◌⊎◌}
use mathlib.Core.Logic.{dite}
use native.Mathlib.Decide.{ℕ_discrete}
use Rattle.soundness.specs.Claims.{In}
use Rattle.headline.proofs.Members.{contains_of, in_of}

-- whether a number is in a list
member : (xs : List ℕ) (c : ℕ) → In c xs ⊎ (In c xs → ⊥)
member [] c = inr (λ m. m)
member (x ∷ xs) c = dite (ℕ_discrete c x) (λ e. inl (inl e)) (λ other. elim (member xs c) [
  | inl m ↦ inl (inr m)
  | inr none ↦ inr (λ m. elim m [ inl e ↦ other e | inr k ↦ none k ])
])

-- one of these pieces has the number in its list, or none has
owner : (ms : List ℕ) (own : ℕ → List ℕ) (c : ℕ) → ((m : ℕ) × In m ms × In c (own m)) ⊎ ((m : ℕ) → In m ms → In c (own m) → ⊥)
owner [] own c = inr (λ m there. absurd there)
owner (j ∷ js) own c = elim (member (own j) c) [
  | inl here ↦ inl (j, inl refl, here)
  | inr missing ↦ elim (owner js own c) [
    | inl o ↦ inl (o.0, inr o.1, o.2)
    | inr none ↦ inr (λ m there k. elim there [
      | inl e ↦ missing (subst (λ (i : ℕ). In c (own i)) e k)
      | inr later ↦ none m later k
    ])
  ]
]

-- where it cannot be that none of them has the number, one has
pub owner_of : (ms : List ℕ) (own : ℕ → List ℕ) (c : ℕ) → (((m : ℕ) × Contains ms m × Contains (own m) c → ⊥) → ⊥) → (m : ℕ) × Contains ms m × Contains (own m) c
owner_of ms own c some = elim (owner ms own c) [
  | inl o ↦ (o.0, contains_of ms o.0 o.1, contains_of (own o.0) c o.2)
  | inr none ↦ absurd (some (λ o. none o.0 (in_of ms o.0 o.1) (in_of (own o.0) c o.2)))
]
