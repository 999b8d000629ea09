-- Between which numbers forms lie over a box of grid points.
use Rattle.std.specs.Prelude.{◌≡◌, ℕ, ◌≤◌, Bool, if◌then◌else◌, List, [], ◌∷◌, ℤ, pos, ◌+ℤ◌, ◌*ℤ◌, int_le, slice_index_or}
use Rattle.lin.specs.Forms.{Form}
use Rattle.lin.specs.declared.form.Multiple.{Multiple}
use Rattle.plan.specs.Certificate.Cells.{grid_value}

-- each coordinate of a grid point lies between those of two others, where one that a point has not counts as 0
abbrev pub IsBetween : (low high at : List ℕ) → Type 0
IsBetween low high at = (i : ℕ) → (slice_index_or low i 0 ≤ slice_index_or at i 0) × (slice_index_or at i 0 ≤ slice_index_or high i 0)

-- what a multiple's symbol is at the one corner where its factor is not negative, else at the other
abbrev pub end_value : (up down : List ℕ) → Multiple → ℤ
end_value up down t = grid_value (if int_le (pos 0) t.factor then up else down) t.symbol

abbrev pub corner_sum : (up down : List ℕ) → List Multiple → ℤ
corner_sum up down [] = pos 0
corner_sum up down (t ∷ ts) = t.factor *ℤ end_value up down t +ℤ corner_sum up down ts

-- the greatest that a form can be over the box that has its greatest coordinates at the first corner and its least at the second,
-- and the least that it can be where these change places
abbrev pub corner_value : (up down : List ℕ) → Form → ℤ
corner_value up down f = f.constant +ℤ corner_sum up down f.terms
