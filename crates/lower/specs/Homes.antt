-- Where functions that are computed inside a group's loops are computed and stored: at which places of which nests.
-- What crates below need of it stands there: `regions`.
use Rattle.std.specs.Prelude.{◌≡◌, ℕ, List, [], ◌∷◌, Option, Some, None, slice_get}
use Rattle.std.specs.List.{AllByRecursion}
use Rattle.sched.specs.declared.schedule.Home.{Home}
use Rattle.sched.specs.Fetches.{Entry}
use Rattle.regions.specs.Uses.{first_home}
use Rattle.sched.specs.Placed.{PlacedText}
use Rattle.regions.specs.Homes.{HostText, host_at, spot_in, store_spot}

-- ---- a placed function

-- where these are computed inside the group's loops, this one is one of those functions: it is computed at its first loop, in some nest of the function whose loop
-- that is, and stored at the loop of its first `store_at`
pub record IsAtHome (e : Entry) (es : List Entry) (is : List PlacedText) (i : PlacedText) : Type 0 where
  pub number : ℕ
  pub entry : Entry
  pub among : slice_get es number ≡ Some entry
  pub function : i.function ≡ entry.0
  pub formulas : i.formulas ≡ entry.2
  pub home : Home
  pub homes : first_home entry.0.placed.homes ≡ Some home
  pub host : HostText
  pub hosted : host_at e is i.home.host ≡ Some host
  pub named : host.function.subject.name ≡ home.function
  pub definition : ℕ
  pub at : spot_in i.home.host host definition home.turn ≡ Some i.home
  pub stored : i.store ≡ store_spot host entry.0.placed.stores i.home

-- each of some, where others are computed there too
abbrev pub AreAt : Entry → List Entry → List PlacedText → List PlacedText → Type 0
AreAt e es is js = AllByRecursion (IsAtHome e es is) js

abbrev pub AreAtHome : Entry → List Entry → List PlacedText → Type 0
AreAtHome e es is = AreAt e es is is

-- of each group
abbrev pub AreAllAtHome : List Entry → List Entry → List (List PlacedText) → Type 0
AreAllAtHome [] es placed = Unit {0}
AreAllAtHome (e ∷ rest) es [] = ⊥
AreAllAtHome (e ∷ rest) es (is ∷ placed) = AreAtHome e es is × AreAllAtHome rest es placed

-- ---- as memory keeps them

abbrev pub put_before : {A : Type 0} → Option A → List A → List A
put_before None xs = xs
put_before (Some x) xs = x ∷ xs
