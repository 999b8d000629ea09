-- Lists of what each piece and each cell has, by number.
use Rattle.std.proofs.Common.{◌≡◌, ℕ, zero, suc, ◌<◌, List, [], ◌∷◌, pos, refl, inl, inr, arith, subst}
use Rattle.std.specs.Prelude.{map, Contains, slice_get, slice_index_or, ◌⊎◌}
use Rattle.std.proofs.lemmas.Bool.{cases_lt}
use mathlib.Core.Logic.{dite}
use native.Mathlib.Decide.{ℕ_discrete}
use Rattle.plan.specs.Certificate.Cells.{Cell, Piece}
use Rattle.meaning.specs.Algorithm.{Algorithm}
use Rattle.plan.specs.Plan.{Plan}
use Rattle.soundness.specs.Claims.{In}
use Rattle.headline.proofs.Members.{contains_of, in_of}
use Rattle.headline.specs.Work.{of_piece, cell_value, value_or_zero}

-- the list of the n-th piece
pub row_at : (f : Piece → List ℕ) (xs : List Piece) (n : ℕ) → slice_index_or (map f xs) n [] ≡ of_piece (slice_get xs n) [] f
row_at f [] n = refl
row_at f (x ∷ xs) zero = refl
row_at f (x ∷ xs) (suc n) = row_at f xs n

-- the value of the n-th cell
pub cell_at : (a : Algorithm) (p : Plan) (samples : List ℕ) (xs : List Cell) (n : ℕ) →
    slice_index_or (map (λ c. (cell_value a p samples c).number) xs) n (pos 0) ≡ value_or_zero a p samples (slice_get xs n)
cell_at a p samples [] n = refl
cell_at a p samples (x ∷ xs) zero = refl
cell_at a p samples (x ∷ xs) (suc n) = cell_at a p samples xs n

-- ---- who owns a cell

-- whether a number is in a list
member : (xs : List ℕ) (c : ℕ) → In c xs ⊎ (In c xs → ⊥)
member [] c = inr (λ m. m)
member (x ∷ xs) c = dite (ℕ_discrete c x) (λ e. inl (inl e)) (λ other. elim (member xs c) [
  | inl m ↦ inl (inr m)
  | inr none ↦ inr (λ m. elim m [ inl e ↦ other e | inr k ↦ none k ])
])

-- one of the first n lists has the number, or none has
owner : (n : ℕ) (own : ℕ → List ℕ) (c : ℕ) → ((j : ℕ) × (j < n) × In c (own j)) ⊎ ((j : ℕ) → j < n → In c (own j) → ⊥)
owner zero own c = inr (λ j lt m. omega (arith, lt))
owner (suc n) own c = elim (owner n own c) [
  | inl o ↦ inl (o.0, let lt = o.1 in omega (arith, lt), o.2)
  | inr none ↦ elim (member (own n) c) [
    | inl m ↦ inl (n, omega arith, m)
    | inr missing ↦ inr (λ j lt m. elim (cases_lt j n) [
      | inl below ↦ none j below m
      | inr from ↦ let same : j ≡ n = omega (arith, lt, from) in missing (subst (λ k. In c (own k)) same m)
    ])
  ]
]

-- where it cannot be that no list has the number, one has
pub owner_of : (n : ℕ) (own : ℕ → List ℕ) (c : ℕ) → (((j : ℕ) × (j < n) × Contains (own j) c → ⊥) → ⊥) → (j : ℕ) × (j < n) × Contains (own j) c
owner_of n own c some = elim (owner n own c) [
  | inl o ↦ (o.0, o.1, contains_of (own o.0) c o.2)
  | inr none ↦ absurd (some (λ o. none o.0 o.1 (in_of (own o.0) c o.2)))
]
