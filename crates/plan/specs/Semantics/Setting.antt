-- What the lines of a group refer to, and what its pieces find around them, told by the plan, the certificate and the input.
use Rattle.std.specs.Prelude.{ℕ, ◌==◌, if◌then◌else◌, List, [], ◌∷◌, length, Option, Some, None, ℤ, slice_get}
use Rattle.tree.specs.declared.value.Value.{Value}
use Rattle.tree.specs.Meaning.{typed}
use Rattle.meaning.specs.Image.Raster.{is_within, sample}
use Rattle.plan.specs.declared.stmt.Places.{Places}
use Rattle.plan.specs.Plan.{Statement, Seq, For, Let, First, Guard, Alloc, Fetch, Store, Publish, Statements, Empty, Then, Group, Plan}
use Rattle.plan.specs.Symbols.{Symbols}
use Rattle.plan.specs.Certificate.Certificate.{Claim, Certificate}
use Rattle.plan.specs.Certificate.Cells.{own_points, grid_symbols}
use Rattle.plan.specs.Semantics.Actions.{Setting}
use Rattle.plan.specs.Semantics.Run.{Around, source_of, private_run}

-- a buffer's function and places
pub record Buffer : Type 0 where
  pub function : List ℕ
  pub places : List Places

abbrev pub or_else : {A : Type 0} → Option A → Option A → Option A
or_else None b = b
or_else (Some a) b = Some a

-- what the first line that allocates the buffer says of it
abbrev mutual
  pub allocated : Statement → ℕ → Option Buffer
  allocated (Seq all) b = block_allocated all b
  allocated (For i x kind body) b = allocated body b
  allocated (Let i pick forms) b = None
  allocated (First i a c) b = or_else (allocated a b) (allocated c b)
  allocated (Guard low high body) b = allocated body b
  allocated (Alloc c f places) b = if c == b then Some (record { function = f; places = places }) else None
  allocated (Fetch c g region) b = None
  allocated (Store c k at e) b = None
  allocated (Publish c) b = None

  pub block_allocated : Statements → ℕ → Option Buffer
  block_allocated Empty b = None
  block_allocated (Then a rest) b = or_else (allocated a b) (block_allocated rest b)

abbrev pub function_in : Option Buffer → List ℕ
function_in None = []
function_in (Some b) = b.function

abbrev pub dimensions_in : Option Buffer → ℕ
dimensions_in None = 0
dimensions_in (Some b) = length b.places

abbrev pub group_name : Option Group → List ℕ
group_name None = []
group_name (Some g) = g.function

abbrev pub setting_of : Plan → Certificate → ℕ → Group → Setting
setting_of p c number g = record {
  group_function = λ h. group_name (slice_get p.groups h);
  buffer_function = λ b. function_in (allocated g.body b);
  dimensions = λ b. dimensions_in (allocated g.body b);
  own = λ s. own_points g c number s;
}

abbrev pub buffer_in : Option Claim → ℕ
buffer_in None = 0
buffer_in (Some c) = c.buffer

-- the input has these samples, and `cell` gives the cells that the piece looked at
abbrev pub around_of : Plan → Certificate → List ℕ → (List ℕ → List ℤ → Value) → Around
around_of p c samples cell = record {
  source = source_of p.input.name (length c.claims);
  sample = λ at. if is_within p.input.extents at then Some (typed p.input.ty (sample p.input.extents samples at)) else None;
  cell = cell;
  claim_buffer = λ k. buffer_in (slice_get c.claims k);
}

-- the private run of the piece of a group at a grid point: the values of its own cells, or a fault
abbrev pub piece_run : Plan → Certificate → List ℕ → (List ℕ → List ℤ → Value) → ℕ → Group → List ℕ → Option (List Value)
piece_run p c samples cell number g at = private_run (around_of p c samples cell) (setting_of p c number g) g.body (grid_symbols at)
