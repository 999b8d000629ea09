-- Places side by side that are given other elements.
use Rattle.std.specs.Prelude.{ℕ, zero, suc, ◌+◌, List, slice_set}

-- so many of them from one on, one after another
abbrev pub set_row : {A : Type 0} → (ℕ → A) → ℕ → List A → ℕ → List A
set_row f place xs zero = xs
set_row f place xs (suc k) = slice_set (set_row f place xs k) (place + k) (f k)
