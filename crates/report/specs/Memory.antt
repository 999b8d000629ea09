-- The buffers of a plan, each line that allocates one counted once.
use Rattle.std.specs.Prelude.{ℕ, ◌*◌, ◌||◌, Bool, List, [], ◌∷◌, ◌++◌, filter, flat_map, sum_by}
use Rattle.std.specs.List.{list_any}
use Rattle.meaning.specs.Names.{same_name}
use Rattle.plan.specs.declared.stmt.Places.{Places}
use Rattle.plan.specs.declared.stmt.Places.TheVariants.{From, Folded}
use Rattle.plan.specs.Plan.{Statement, Seq, For, Let, First, Guard, Alloc, Fetch, Store, Publish, Statements, Empty, Then, Group, Plan}
use Rattle.plan.specs.Semantics.Setting.{Buffer}

-- the buffers that the lines of a statement allocate, in their order
abbrev mutual
  pub buffers : Statement → List Buffer
  buffers (Seq all) = block_buffers all
  buffers (For i x kind body) = buffers body
  buffers (Let i pick forms) = []
  buffers (First i a b) = buffers a ++ buffers b
  buffers (Guard low high body) = buffers body
  buffers (Alloc b f places) = record { function = f; places = places } ∷ []
  buffers (Fetch b g region) = []
  buffers (Store b k at e) = []
  buffers (Publish c) = []

  pub block_buffers : Statements → List Buffer
  block_buffers Empty = []
  block_buffers (Then a rest) = buffers a ++ block_buffers rest

abbrev pub group_buffers : Group → List Buffer
group_buffers g = buffers g.body

-- whether the group is the function's, or has a buffer of it
abbrev pub has_function : List ℕ → Group → Bool
has_function f g = same_name g.function f || list_any (λ b. same_name b.function f) (group_buffers g)

-- the buffers of all groups
abbrev pub all_buffers : Plan → List Buffer
all_buffers p = flat_map group_buffers p.groups

abbrev pub count_in : Places → ℕ
count_in (From l n) = n
count_in (Folded n) = n

-- how many places a buffer has
abbrev pub place_count : List Places → ℕ
place_count [] = 1
place_count (p ∷ ps) = place_count ps * count_in p

-- how many places these buffers have of the function, in all
abbrev pub places_of : List ℕ → List Buffer → ℕ
places_of f bs = sum_by (λ b. place_count b.places) (filter (λ b. same_name b.function f) bs)

-- the private cells of the function's buffers
abbrev pub private_cells : Plan → List ℕ → ℕ
private_cells p f = places_of f (all_buffers p)
