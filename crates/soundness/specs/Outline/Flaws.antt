-- What is wrong with lines of a text, and the first of it.
use Rattle.std.specs.Prelude.{ℕ, ◌-◌, ◌^◌, min, List, [], ◌∷◌, Bool, true, false, Option, Some, None}
use Rattle.soundness.specs.Outline.Refusals.Codes.{number_of}
use Rattle.soundness.specs.declared.outline.refusals.code.Flaw.{Flaw as FlawHeld}

-- the number of a code, and the line
pub record Flaw : Type 0 where
  pub code : ℕ
  pub line : ℕ

-- a flaw with this code at the line, where what is asked there is not so
abbrev pub unless : Bool → ℕ → ℕ → List Flaw
unless true code line = []
unless false code line = record { code = code; line = line } ∷ []

-- a line as it is told: lines past the greatest u32 count as that
abbrev pub line_told : ℕ → ℕ
line_told line = min line (2 ^ 32 - 1)

-- the first flaw as it is told
abbrev pub first_of : List Flaw → Option Flaw
first_of [] = None
first_of (f ∷ fs) = Some (record { code = f.code; line = line_told f.line })

-- the flaw, if there is one, that this one in memory tells
abbrev pub told : Option FlawHeld → Option Flaw
told None = None
told (Some f) = Some (record { code = number_of f.code; line = f.line })
