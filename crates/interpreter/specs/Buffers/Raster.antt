-- Where the places of a buffer stand in a row: in raster order, the first coordinate fastest.
use Rattle.std.specs.Prelude.{◌≡◌, ℕ, ◌+◌, ◌*◌, ◌<◌, nat_lt, if◌then◌else◌, List, [], ◌∷◌, Option, Some, None, ℤ}
use Rattle.plan.specs.Rooms.{Room, Straight, Wrapped, place}

-- how many places one coordinate has
abbrev pub room_count : Room → ℕ
room_count (Straight origin n) = n
room_count (Wrapped n) = n

-- how many places there are in all
abbrev pub place_count : List Room → ℕ
place_count [] = 1
place_count (r ∷ rs) = place_count rs * room_count r

-- the number of a place, where its part for the first coordinate is one of so many, and the later parts have this number
abbrev pub number_from : ℕ → ℕ → Option ℕ → Option ℕ
number_from count k None = None
number_from count k (Some n) = if nat_lt k count then Some (n * count + k) else None

-- the number of a place in raster order, unless the rooms have no such place
abbrev pub place_number : List Room → List ℕ → Option ℕ
place_number [] [] = Some 0
place_number [] (k ∷ ks) = None
place_number (r ∷ rs) [] = None
place_number (r ∷ rs) (k ∷ ks) = number_from (room_count r) k (place_number rs ks)

-- the point lies at the place with this number
pub record LiesAt (rooms : List Room) (p : List ℤ) (n : ℕ) : Type 0 where
  pub at : List ℕ
  pub lies : place rooms p ≡ Some at
  pub numbered : place_number rooms at ≡ Some n
  pub counted : n < place_count rooms
