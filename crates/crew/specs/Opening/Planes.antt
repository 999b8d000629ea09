-- Where the cells of a picture stand whose points are counted like its extents.
use Rattle.std.specs.Prelude.{ℕ, ◌*◌, List, [], ◌∷◌}
use Rattle.board.specs.declared.source.Planes.{Planes}

-- the planes of a picture of these extents, whose cells follow each other from this number on: one plane where it is grey
abbrev pub planes_from : ℕ → List ℕ → Planes
planes_from first (w ∷ []) = record { first = first; colours = 1; pixels = w }
planes_from first (w ∷ h ∷ []) = record { first = first; colours = 1; pixels = w * h }
planes_from first (w ∷ h ∷ c ∷ []) = record { first = first; colours = c; pixels = w * h }
planes_from first _ = record { first = first; colours = 1; pixels = 0 }
