-- What is wrong with the shares of pieces.
use Rattle.std.specs.Prelude.{◌≡◌, ℕ, ◌<◌, length, slice_index}
use Rattle.plan.specs.Plan.{Plan}
use Rattle.plan.specs.Certificate.Certificate.{Certificate}
use Rattle.plan.specs.Certificate.Cells.{pieces}
use Rattle.shares.specs.Layout.{own_list}

-- no own cell of the piece stands in another place of its own list or in another piece's
abbrev pub IsApart : Plan → Certificate → ℕ → Type 0
IsApart p c i = (j a b : ℕ) → j < length (pieces p) → a < length (own_list p c i) → b < length (own_list p c j) →
    slice_index (own_list p c i) a ≡ slice_index (own_list p c j) b → (i ≡ j) × (a ≡ b)
