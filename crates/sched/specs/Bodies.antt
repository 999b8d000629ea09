-- What a piece of a whole function does: the lets over the grid, its buffer, what it fetches, then for each definition the loops, lets and
-- guards of the skeleton down to its store, of the definition's value with each call as a load; and its claims.
use Rattle.std.specs.Prelude.{List, [], ◌∷◌, Option, None}
use Rattle.tree.specs.Term.{Term}

-- ---- stores

-- the left index of the first variable, and those of the others
abbrev pub first_left : List (Option Term) → Option Term
first_left [] = None
first_left (a ∷ rest) = a

abbrev pub other_lefts : List (Option Term) → List (Option Term)
other_lefts [] = []
other_lefts (a ∷ rest) = rest
