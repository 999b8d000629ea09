use Rattle.std.proofs.Common.{ℕ, List, take}
use Rattle.std.specs.Prelude.{All, ◌≤ℤ◌}
use Rattle.plan.specs.Symbols.{form_value, largest}
use Rattle.plan.specs.Certificate.Cells.{grid_symbols}
use Rattle.shares.specs.Corners.{IsBetween}
use Rattle.shares.proofs.outer.starts_in.Given as goal

abbrev pub invariant-loop-form : goal.invariant-loop-form
invariant-loop-form l = (at : List ℕ) → IsBetween l.low l.high at → All (λ f. form_value f (grid_symbols at) ≤ℤ largest (grid_symbols at) l.inner) (take l.form-index l.outer)
