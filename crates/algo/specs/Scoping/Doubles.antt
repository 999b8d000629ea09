-- The first name of a list that stood in it before.
use Rattle.std.specs.Prelude.{◌≡◌, ℕ, List, take, IsTrue, Some, slice_get}
use Rattle.meaning.specs.Names.{is_among}
use Rattle.meaning.specs.Conditions.{AreDistinct}

-- the name at this place stands at an earlier one too, and the names before it are distinct
pub record IsFirstDouble (names : List (List ℕ)) (i : ℕ) : Type 0 where
  pub name : List ℕ
  pub stands : slice_get names i ≡ Some name
  pub before : IsTrue (is_among (take i names) name)
  pub distinct : AreDistinct (take i names)
