-- What is wrong with a line that has a region.
use Rattle.std.specs.Prelude.{ℕ, ◌+◌, Bool, List, [], ◌∷◌, ◌++◌, Option, Some, None}
use Rattle.soundness.specs.Outline.Refusals.Codes.{number_of}
use Rattle.soundness.specs.declared.outline.refusals.code.K.{K}
use Rattle.soundness.specs.Outline.Flaws.{Flaw, unless, line_told}

-- K2 where what the line names is not known, K3 where its forms are not within the limits, K14 where its spans have not one
-- to four forms at each end
abbrev pub line_flaws : Bool → Bool → Bool → ℕ → List Flaw
line_flaws known small listed line = unless known 2 line ++ (unless small 3 line ++ unless listed 14 line)

-- the same of a line of a window: besides, K8 where it is not used
abbrev pub window_line_flaws : Bool → Bool → Bool → Bool → ℕ → List Flaw
window_line_flaws known small used listed line = unless known 2 line ++ (unless small 3 line ++ (unless used 8 line ++ unless listed 14 line))

-- what is wrong with each line, where lines are counted from i on
abbrev pub each_line : {A : Type 0} → (ℕ → A → List Flaw) → ℕ → List A → List Flaw
each_line f i [] = []
each_line f i (x ∷ xs) = f i x ++ each_line f (i + 1) xs

-- the flaw of this code at the line, as it is told
abbrev pub told_at : Option K → ℕ → Option Flaw
told_at None line = None
told_at (Some k) line = Some (record { code = number_of k; line = line_told line })
