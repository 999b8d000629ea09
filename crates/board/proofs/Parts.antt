-- A sound layout, by places in the lists.
use Rattle.std.proofs.Common.{◌≡◌, ℕ, zero, suc, ◌^◌, ◌<◌, ◌≤◌, List, [], ◌∷◌, length, get_or, inl, inr, arith}
use Rattle.std.proofs.lemmas.Bool.{cases_lt}
use Rattle.std.proofs.lemmas.List.Elements.{Contains-get_or}
use Rattle.orders.proofs.Claiming.{place_of}
use Rattle.board.specs.Layout.{Layout, pieces_of, own_of, own_cell, IsSound}

-- each cell is the own cell of one piece, at one place
pub record IsParted (plan : Layout) : Type 0 where
  pub few_pieces : pieces_of plan ≤ 2 ^ 20
  pub few_cells : plan.cells ≤ 2 ^ 24
  pub in_range : (j i : ℕ) → i < length (own_of plan j) → own_cell plan j i < plan.cells
  pub once : (j i k m : ℕ) → i < length (own_of plan j) → m < length (own_of plan k) → own_cell plan j i ≡ own_cell plan k m → (j ≡ k) × (i ≡ m)
  pub covered : (c : ℕ) → c < plan.cells → (j : ℕ) × (i : ℕ) × (j < pieces_of plan) × (i < length (own_of plan j)) × (own_cell plan j i ≡ c)

nothing_past : (rows : List (List ℕ)) (j i : ℕ) → length rows ≤ j → i < length (get_or rows j []) → ⊥
nothing_past [] j i past lt = omega arith
nothing_past (row ∷ rows) zero i past lt = omega arith
nothing_past (row ∷ rows) (suc j) i past lt = nothing_past rows j i (omega arith) lt

-- a piece with an own cell is one of the pieces
piece_in : (plan : Layout) (j i : ℕ) → i < length (own_of plan j) → j < pieces_of plan
piece_in plan j i lt = elim (cases_lt j (pieces_of plan)) [ inl in_range ↦ in_range | inr past ↦ absurd (nothing_past plan.own j i past lt) ]

pub parted : (plan : Layout) → IsSound plan → IsParted plan
parted plan sound = record {
  few_pieces = sound.few_pieces;
  few_cells = sound.few_cells;
  in_range = λ j i lt. sound.parted.0 j (own_cell plan j i) (piece_in plan j i lt) (Contains-get_or (own_of plan j) i 0 lt);
  once = λ j i k m j_lt k_lt same. sound.parted.1 j k i m (piece_in plan j i j_lt) (piece_in plan k m k_lt) j_lt k_lt same;
  covered = λ c lt.
      let owner = sound.whole c lt in
      let place = place_of (own_of plan owner.0) c owner.2 in
      (owner.0, place.0, owner.1, place.1, place.2);
}
