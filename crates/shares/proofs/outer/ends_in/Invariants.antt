use Rattle.std.proofs.Common.{ℕ, List, take}
use Rattle.std.specs.Prelude.{All, ◌≤ℤ◌}
use Rattle.plan.specs.Symbols.{form_value, smallest}
use Rattle.plan.specs.Certificate.Cells.{grid_symbols}
use Rattle.shares.specs.Corners.{IsBetween}
use Rattle.shares.proofs.outer.ends_in.Given as goal

abbrev pub invariant-loop-form : goal.invariant-loop-form
invariant-loop-form l = (at : List ℕ) → IsBetween l.low l.high at → All (λ f. smallest (grid_symbols at) l.inner ≤ℤ form_value f (grid_symbols at)) (take l.form-index l.outer)
