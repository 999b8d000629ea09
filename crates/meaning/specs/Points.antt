-- What the list of a reduction domain's points is: each point within the ranges once, in the order that compares the last variable first.
use Rattle.std.specs.Prelude.{◌≡◌, ℕ, ◌<◌, List, [], ◌∷◌, length, ℤ, ◌≤ℤ◌, ◌<ℤ◌, slice_get, Some, ◌⊎◌, ⊤}
use Rattle.meaning.specs.Algorithm.{Range}
use Rattle.meaning.specs.Reduction.{size, point, points, rank}

-- no range ends before it begins
abbrev pub AreRanges : List Range → Type 0
AreRanges [] = ⊤
AreRanges (d ∷ ds) = (d.low ≤ℤ d.high) × AreRanges ds

-- each coordinate lies in its range
abbrev pub IsIn : List Range → List ℤ → Type 0
IsIn [] [] = ⊤
IsIn (d ∷ ds) (z ∷ zs) = (d.low ≤ℤ z) × (z ≤ℤ d.high) × IsIn ds zs
IsIn _ _ = ⊥

-- p comes before q: of the coordinates that differ, the last is smaller
abbrev pub IsBefore : List ℤ → List ℤ → Type 0
IsBefore (y ∷ ys) (z ∷ zs) = IsBefore ys zs ⊎ ((ys ≡ zs) × (y <ℤ z))
IsBefore _ _ = ⊥

-- the point stands at this place of the list
abbrev pub StandsAt : List (List ℤ) → ℕ → List ℤ → Type 0
StandsAt ps n p = slice_get ps n ≡ Some p

pub record PointsAreTheDomain : Type 0 where
  -- each point of the list lies within the ranges
  pub within : (ds : List Range) (n : ℕ) (p : List ℤ) → AreRanges ds → StandsAt (points ds) n p → IsIn ds p
  -- each point within the ranges stands in the list, as many places from its begin as its rank says
  pub found : (ds : List Range) (p : List ℤ) → IsIn ds p → StandsAt (points ds) (rank ds p) p
  -- and nowhere else
  pub once : (ds : List Range) (m n : ℕ) (p : List ℤ) → StandsAt (points ds) m p → StandsAt (points ds) n p → m ≡ n
  -- each comes before those that stand after it
  pub rises : (ds : List Range) (m n : ℕ) (p q : List ℤ) → StandsAt (points ds) m p → StandsAt (points ds) n q → m < n → IsBefore p q

-- the n-th point and its rank belong to each other
pub record PointsAreCounted : Type 0 where
  pub stands : (ds : List Range) (n : ℕ) → n < size ds → StandsAt (points ds) n (point ds n)
  pub number : (ds : List Range) → length (points ds) ≡ size ds
  pub point_of_rank : (ds : List Range) (p : List ℤ) → IsIn ds p → point ds (rank ds p) ≡ p
  pub rank_below : (ds : List Range) (p : List ℤ) → IsIn ds p → rank ds p < size ds
  pub rank_of_point : (ds : List Range) (n : ℕ) → n < size ds → rank ds (point ds n) ≡ n
