-- What a plan costs, told for each stored function in the order of the algorithm.
use Rattle.std.specs.Prelude.{ℕ, ◌-◌, ◌^◌, Bool, List, if◌then◌else◌, filter, map, min, sum_by}
use Rattle.std.specs.List.{list_any}
use Rattle.meaning.specs.Algorithm.{Algorithm}
use Rattle.meaning.specs.Names.{same_name}
use Rattle.plan.specs.Plan.{Plan}
use Rattle.plan.specs.Certificate.Certificate.{Certificate}
use Rattle.plan.specs.Certificate.Cells.{group_pieces}
use Rattle.report.specs.Actions.{fetches, stores}
use Rattle.report.specs.Memory.{has_function, private_cells}

-- a number, but the limit where it is more
abbrev pub up_to : ℕ → ℕ → ℕ
up_to limit n = min n limit

-- the limit of what is told: the greatest number of 64 bits
abbrev pub capped : ℕ → ℕ
capped = up_to (2 ^ 64 - 1)

-- how many pieces the function's group has, none where it has no group
abbrev pub pieces_of : Plan → List ℕ → ℕ
pieces_of p f = sum_by group_pieces (filter (λ g. same_name g.function f) p.groups)

-- whether the plan has a group or a buffer of the function
abbrev pub is_stored : Plan → List ℕ → Bool
is_stored p f = list_any (has_function f) p.groups

-- what one function costs
pub record Row : Type 0 where
  pub name : List ℕ
  pub stores : ℕ
  pub private : ℕ
  pub fetched : ℕ
  pub pieces : ℕ

abbrev pub row : Plan → Certificate → List ℕ → Row
row p c f = record {
  name = f;
  stores = capped (stores p c f);
  private = capped (private_cells p f);
  fetched = capped (fetches p c f);
  pieces = capped (pieces_of p f);
}

-- what the plan costs
abbrev pub rows : Algorithm → Plan → Certificate → List Row
rows a p c = map (row p c) (filter (is_stored p) (map (λ f. f.name) a.functions))

-- how many stores a function adds to those of the others, none where it is not told
abbrev pub row_stores : Plan → Certificate → List ℕ → ℕ
row_stores p c f = if is_stored p f then capped (stores p c f) else 0

-- how many stores the functions of these rows have together
abbrev pub all_stores : List Row → ℕ
all_stores rows = capped (sum_by (λ r. r.stores) rows)
