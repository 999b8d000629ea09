-- What it means that the flaws of one kind are told.
use Rattle.std.specs.Prelude.{◌≡◌, ℕ, ◌-◌, ◌^◌, ◌<◌, ◌≤◌, Option, Some, MatchOption}
use Rattle.soundness.specs.Outline.Flaws.{Flaw}

-- a flaw that is told no later than one of this code at this line: at an earlier line, or at that line with this code or a lower
-- one, where the line 2^32 - 1 stands for each from there on
pub record IsNoLater (f : Flaw) (code line : ℕ) : Type 0 where
  pub before : f.line ≤ line
  pub lower : line < 2 ^ 32 - 1 → f.line ≡ line → f.code ≤ code

-- What this code says of a line is so where the first flaw has the code and the line; and where it is so of a line, there is a
-- first flaw, which is told no later.
pub record IsTold (code : ℕ) (IsSo : ℕ → Type 0) (first : Option Flaw) : Type 0 where
  pub meant : (line : ℕ) → first ≡ Some (record { code = code; line = line }) → IsSo line
  pub found : (line : ℕ) → IsSo line → MatchOption first ⊥ (λ f. IsNoLater f code line)
