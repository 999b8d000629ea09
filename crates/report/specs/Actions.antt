-- What all pieces of a plan do, and how often they store and fetch a function's cells.
use Rattle.std.specs.Prelude.{ℕ, Bool, false, List, [], Option, Some, None, count_by, flat_map, slice_get}
use Rattle.meaning.specs.Names.{same_name}
use Rattle.plan.specs.Plan.{Group, Plan}
use Rattle.plan.specs.Certificate.Certificate.{Certificate}
use Rattle.plan.specs.Certificate.Cells.{Piece, grid_symbols, pieces}
use Rattle.plan.specs.Semantics.Actions.{Action, Allot, Take, Put, Change, Give, actions}
use Rattle.plan.specs.Semantics.Setting.{setting_of}

abbrev pub group_actions : Plan → Certificate → Piece → Option Group → List Action
group_actions p c x None = []
group_actions p c x (Some g) = actions (setting_of p c x.group g) g.body (grid_symbols x.at)

-- what a piece does
abbrev pub piece_actions : Plan → Certificate → Piece → List Action
piece_actions p c x = group_actions p c x (slice_get p.groups x.group)

-- what all pieces of the plan do
abbrev pub all_actions : Plan → Certificate → List Action
all_actions p c = flat_map (piece_actions p c) (pieces p)

-- whether the action gives a place of a buffer of the function a value
abbrev pub is_store_of : List ℕ → Action → Bool
is_store_of f (Allot b rooms) = false
is_store_of f (Take b g at) = false
is_store_of f (Put b g names at e) = same_name g f
is_store_of f (Change b g k names at over e) = same_name g f
is_store_of f (Give c at) = false

-- whether it sets a cell of the function that another piece has computed
abbrev pub is_fetch_of : List ℕ → Action → Bool
is_fetch_of f (Allot b rooms) = false
is_fetch_of f (Take b g at) = same_name g f
is_fetch_of f (Put b g names at e) = false
is_fetch_of f (Change b g k names at over e) = false
is_fetch_of f (Give c at) = false

-- how many stores of the function the pieces make, over all its definitions
abbrev pub stores : Plan → Certificate → List ℕ → ℕ
stores p c f = count_by (is_store_of f) (all_actions p c)

-- how many cells of the function the pieces fetch
abbrev pub fetches : Plan → Certificate → List ℕ → ℕ
fetches p c f = count_by (is_fetch_of f) (all_actions p c)
