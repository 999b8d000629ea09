-- How much upper ends pass lower ends at most over a box of grid points.
use Rattle.std.specs.Prelude.{◌≡◌, ℕ, ◌+◌, ◌≤◌, ◌^◌, List, drop, length, ℤ, ◌+ℤ◌, ◌-ℤ◌, ◌*ℤ◌, ◌≤ℤ◌}
use Rattle.lin.specs.Forms.{Form, IsWithin, sum_of}
use Rattle.lin.specs.declared.form.Multiple.{Multiple}
use Rattle.plan.specs.Symbols.{form_value}
use Rattle.plan.specs.Certificate.Cells.{grid_symbols}
use Rattle.shares.specs.declared.gaps.Lead.{Lead}
use Rattle.shares.specs.Corners.{IsBetween}

-- a multiple that comes to what the first ones of two lists come to, of which the second is taken away
pub record Leads (us ls : List Multiple) (d : Lead) : Type 0 where
  pub value : (v : ℕ → ℤ) → (sum_of us v -ℤ sum_of ls v) ≡ (d.term.factor *ℤ v d.term.symbol +ℤ (sum_of (drop d.upper us) v -ℤ sum_of (drop d.lower ls) v))
  pub small : IsWithin (2 ^ 21) d.term.factor
  pub some : 1 ≤ d.upper + d.lower
  pub upper : d.upper ≤ length us
  pub lower : d.lower ≤ length ls

-- some multiples less others pass a number at no grid point between two
abbrev pub AreBelow : (low high : List ℕ) → (us ls : List Multiple) → ℤ → Type 0
AreBelow low high us ls z = (at : List ℕ) → IsBetween low high at → (sum_of us (grid_symbols at).value -ℤ sum_of ls (grid_symbols at).value) ≤ℤ z

-- a form less another passes a number at no grid point between two
abbrev pub IsGapBelow : (low high : List ℕ) → (u l : Form) → ℤ → Type 0
IsGapBelow low high u l z = (at : List ℕ) → IsBetween low high at → (form_value u (grid_symbols at) -ℤ form_value l (grid_symbols at)) ≤ℤ z
