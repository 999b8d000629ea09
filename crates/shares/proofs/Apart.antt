-- Pieces that part the cells, and one more that is apart from them.
use Rattle.std.proofs.Common.{◌≡◌, ℕ, ◌+◌, ◌<◌, ◌≤◌, List, length, arith, sym, subst, inl, inr}
use Rattle.std.specs.Prelude.{All, Contains, slice_index}
use Rattle.std.proofs.lemmas.Bool.{cases_lt}
use Rattle.std.proofs.lemmas.List.Elements.{All-contains}
use Rattle.plan.specs.Plan.{Plan}
use Rattle.plan.specs.Certificate.Certificate.{Certificate}
use Rattle.plan.specs.Certificate.Cells.{cells, pieces}
use Rattle.orders.specs.Work.{OwnIsInTable, OwnIsApart, OwnIsParted}
use Rattle.shares.specs.Layout.{own_list}
use Rattle.shares.specs.Faults.{IsApart}

-- no cell of piece n stands in another place of its own list or of one of the earlier pieces'
abbrev pub IsApartIn : (ℕ → List ℕ) → ℕ → Type 0
IsApartIn own n = (j a b : ℕ) → j < n + 1 → a < length (own n) → b < length (own j) → slice_index (own n) a ≡ slice_index (own j) b → (n ≡ j) × (a ≡ b)

module _ (own : ℕ → List ℕ) (n count : ℕ) where
  same_from : (i : ℕ) → i < n + 1 → n ≤ i → i ≡ n
  same_from i a b = omega (arith, a, b)

  in_table : OwnIsInTable n count own → All (λ k. k < count) (own n) → OwnIsInTable (n + 1) count own
  in_table before here i cell less has = elim (cases_lt i n) [
    | inl low ↦ before i cell low has
    | inr from ↦ All-contains (λ k. k < count) (own n) cell here (subst (λ (k : ℕ). Contains (own k) cell) (same_from i less from) has)
  ]

  this_apart : IsApartIn own n → (i j a b : ℕ) → i ≡ n → j < n + 1 → a < length (own i) → b < length (own j) → slice_index (own i) a ≡ slice_index (own j) b → (i ≡ j) × (a ≡ b)
  this_apart apart i j a b is less a_in b_in same =
      subst (λ (k : ℕ). a < length (own k) → slice_index (own k) a ≡ slice_index (own j) b → (k ≡ j) × (a ≡ b)) (sym is)
      (λ a_here here. apart j a b less a_here b_in here) a_in same

  all_apart : OwnIsApart n own → IsApartIn own n → OwnIsApart (n + 1) own
  all_apart before apart i j a b i_in j_in a_in b_in same = elim (cases_lt i n) [
    | inr from ↦ this_apart apart i j a b (same_from i i_in from) j_in a_in b_in same
    | inl low ↦ elim (cases_lt j n) [
      | inl below ↦ before i j a b low below a_in b_in same
      | inr from ↦ (let e = this_apart apart j i b a (same_from j j_in from) i_in b_in a_in (sym same) in (sym e.0, sym e.1))
    ]
  ]

  pub parted_next : OwnIsParted n count own → All (λ k. k < count) (own n) → IsApartIn own n → OwnIsParted (n + 1) count own
  parted_next before here apart = (in_table before.0 here, all_apart before.1 apart)

pub parted_more : (p : Plan) (c : Certificate) (n : ℕ) → n < length (pieces p) → OwnIsParted n (length (cells p)) (own_list p c) → All (λ k. k < length (cells p)) (own_list p c n) → IsApart p c n → OwnIsParted (n + 1) (length (cells p)) (own_list p c)
parted_more p c n within before here apart = parted_next (own_list p c) n (length (cells p)) before here (λ j a b less. apart j a b (omega (arith, less, within)))
