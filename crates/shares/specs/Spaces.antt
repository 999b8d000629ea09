-- Points that are numbered: those of a box, from a first number on.
use Rattle.std.specs.Prelude.{ℕ, ◌+◌, ◌≤◌, ◌^◌, List, map, All, IsTrue, ℤ}
use Rattle.shares.specs.declared.spaces.Space.{Space}
use Rattle.shares.specs.Boxes.{is_in_box, rank, point_count}
use Rattle.shares.specs.Walked.{IsExtent}

-- its sides are small where it has a point, and its numbers are
pub record IsSpace (x : Space) : Type 0 where
  pub sides : All (λ s. 1 ≤ s.count) x.sides.items → All IsExtent x.sides.items
  pub few : x.first + point_count x.sides.items ≤ 2 ^ 24

-- the numbers of points
abbrev pub numbers_in : Space → List (List ℤ) → List ℕ
numbers_in x qs = map (λ q. x.first + rank x.sides.items q) qs

-- whether the space has all of the points
abbrev pub HasAll : Space → List (List ℤ) → Type 0
HasAll x qs = All (λ q. IsTrue (is_in_box x.sides.items q)) qs
