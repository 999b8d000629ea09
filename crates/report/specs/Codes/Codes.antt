-- The codes of refusals.
use Rattle.std.specs.Prelude.{ℕ, Bool, ◌||◌, List, [], ◌∷◌, codes}
use Rattle.std.specs.Str.{bytes_eq}
use Rattle.std.specs.List.{list_any}

-- of algorithms
abbrev pub of_algorithms : List (List ℕ)
of_algorithms =
    codes "E1" ∷ codes "E2" ∷ codes "E3" ∷ codes "E4" ∷ codes "A1" ∷ codes "A2" ∷ codes "A3" ∷ codes "A4" ∷ codes "A5" ∷ codes "A6" ∷ codes "A7" ∷ codes "P1" ∷ []

-- of schedules
abbrev pub of_schedules : List (List ℕ)
of_schedules =
    codes "L1" ∷ codes "L2" ∷ codes "L3" ∷ codes "L4" ∷ codes "L5" ∷ codes "L6" ∷ codes "L7" ∷ codes "L8" ∷ codes "L9" ∷ codes "L10" ∷ codes "L11" ∷ codes "L12" ∷ []

-- of plan files
abbrev pub of_plans : List (List ℕ)
of_plans =
    codes "N1" ∷ codes "N2" ∷ codes "K1" ∷ codes "K2" ∷ codes "K3" ∷ codes "K4" ∷ codes "K5" ∷ codes "K6" ∷ codes "K7" ∷ codes "K8" ∷ codes "K9" ∷ codes "K10" ∷ codes "K11" ∷ codes "K12" ∷ codes "K13" ∷ codes "K14" ∷ []

-- of tiles
abbrev pub of_tiles : List (List ℕ)
of_tiles = codes "C1" ∷ codes "C2" ∷ []

-- of images and orders, and of the run
abbrev pub of_images : List (List ℕ)
of_images =
    codes "G1" ∷ codes "G2" ∷ codes "G3" ∷ codes "G4" ∷ codes "G5" ∷ codes "G6" ∷ codes "G7" ∷ codes "O1" ∷ codes "M0" ∷ codes "U1" ∷ []

-- whether a text is one of these codes
abbrev pub is_among : List (List ℕ) → List ℕ → Bool
is_among known code = list_any (bytes_eq code) known

-- whether a text is the code of a refusal
abbrev pub is_code : List ℕ → Bool
is_code code = is_among of_algorithms code || (is_among of_schedules code || (is_among of_plans code || (is_among of_tiles code || is_among of_images code)))
