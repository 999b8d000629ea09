-- What stands on a sheet once the pieces are put in their order.
use Rattle.std.proofs.Common.{◌≡◌, ℕ, ◌+◌, ◌<◌, ℤ, List, inl, inr, sym, subst, arith}
use Rattle.std.proofs.lemmas.Bool.{cases_lt}
use Rattle.board.specs.Layout.{Layout}
use Rattle.board.specs.Sheets.{IsPut}

-- each piece before the next is put, once one more is
pub one_piece_more : (plan : Layout) (values : List ℤ) (old new : List ℕ) (piece : ℕ) → ((j : ℕ) → j < piece → IsPut plan values old j)
    → ((j : ℕ) → IsPut plan values old j → IsPut plan values new j) → IsPut plan values new piece → (j : ℕ) → j < piece + 1 → IsPut plan values new j
one_piece_more plan values old new piece before more put j lt = elim (cases_lt j piece) [
  | inl earlier ↦ more j (before j earlier)
  | inr past ↦ let same : j ≡ piece = omega (arith, past, lt) in subst (λ (n : ℕ). IsPut plan values new n) (sym same) put
]
