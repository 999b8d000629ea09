-- The work that a plan with its certificate is for a crew, and the value that each cell has to get.
use Rattle.std.specs.Prelude.{ℕ, ◌==◌, ◌&&◌, if◌then◌else◌, Bool, false, List, [], ◌∷◌, map, filter, length, Option, Some, None, ℤ, pos, slice_get}
use Rattle.std.specs.List.{list_any, range_with_len}
use Rattle.numeric.specs.declared.ty.Ty.{Ty}
use Rattle.tree.specs.declared.value.Value.{Value}
use Rattle.tree.specs.Meaning.{typed}
use Rattle.meaning.specs.Algorithm.{Function, Algorithm}
use Rattle.meaning.specs.Names.{same_name, same_point}
use Rattle.meaning.specs.Value.{Calls, calls_of}
use Rattle.plan.specs.Plan.{Group, Plan}
use Rattle.plan.specs.Certificate.Certificate.{Certificate}
use Rattle.plan.specs.Certificate.Cells.{grid_symbols, own_points, needed, Cell, cell, Piece, cells, pieces}
use Rattle.plan.specs.Semantics.Setting.{group_name, piece_run}
use Rattle.soundness.specs.Given.{function_named}
use Rattle.orders.specs.Work.{Work}
use Rattle.headline.specs.Fetched.{fetched_cells}
use Rattle.headline.specs.Numbers.{cell_number}

-- ---- values of cells

-- the function of a cell's group
abbrev pub cell_function : Plan → Cell → List ℕ
cell_function p x = group_name (slice_get p.groups x.group)

-- the algorithm's value of a cell: that of its function at its point
abbrev pub cell_value : Algorithm → Plan → List ℕ → Cell → Value
cell_value a p samples x = calls_of a samples (cell_function p x) x.point

abbrev pub value_or_zero : Algorithm → Plan → List ℕ → Option Cell → ℤ
value_or_zero a p samples None = pos 0
value_or_zero a p samples (Some x) = (cell_value a p samples x).number

-- the right value of each cell, by its number
abbrev pub target : Algorithm → Plan → List ℕ → ℕ → ℤ
target a p samples n = value_or_zero a p samples (slice_get (cells p) n)

-- ---- a piece's cells and needs

abbrev pub group_own : Option Group → Certificate → Piece → List Cell
group_own None c j = []
group_own (Some g) c j = map (cell j.group) (own_points g c j.group (grid_symbols j.at))

-- the cells that a piece owns, in their order
abbrev pub own_cells : Plan → Certificate → Piece → List Cell
own_cells p c j = group_own (slice_get p.groups j.group) c j

abbrev pub group_fetched : Option Group → Piece → List Cell
group_fetched None j = []
group_fetched (Some g) j = fetched_cells g.body (grid_symbols j.at)

-- the cells that a piece fetches, in their order
abbrev pub cells_fetched : Plan → Piece → List Cell
cells_fetched p j = group_fetched (slice_get p.groups j.group) j

-- whether piece j needs piece x: some `need` line of j's group has x's group and grid point
abbrev pub needs_piece : Certificate → Piece → Piece → Bool
needs_piece c j x = list_any (λ y. (y.group == x.group) && same_point y.point (map pos x.at)) (needed c j.group (grid_symbols j.at))

abbrev pub needs_this : Certificate → Piece → Option Piece → Bool
needs_this c j None = false
needs_this c j (Some x) = needs_piece c j x

-- the numbers of the pieces that a piece needs, rising, each once
abbrev pub needed_pieces : Plan → Certificate → Piece → List ℕ
needed_pieces p c j = filter (λ i. needs_this c j (slice_get (pieces p) i)) (range_with_len 0 (length (pieces p)))

-- ---- the private run

abbrev pub type_or_input : Algorithm → Option Function → Ty
type_or_input a None = a.input_ty
type_or_input a (Some f) = f.ty

-- the type of what a call by name answers
abbrev pub type_named : Algorithm → List ℕ → Ty
type_named a name = type_or_input a (function_named a.functions name)

-- what is known of a function at a point by these values of these cells: the first that is the function's at the point, and 0
-- where there is none
abbrev pub looked_value : Algorithm → Plan → List Cell → List ℤ → Calls
looked_value a p (x ∷ xs) (v ∷ vs) name q =
    if same_name (cell_function p x) name && same_point x.point q then typed (type_named a name) v else looked_value a p xs vs name q
looked_value a p _ _ name q = typed (type_named a name) (pos 0)

abbrev pub numbers : Option (List Value) → Option (List ℤ)
numbers None = None
numbers (Some vs) = Some (map (λ v. v.number) vs)

abbrev pub group_run : Algorithm → Plan → Certificate → List ℕ → Calls → Piece → Option Group → Option (List ℤ)
group_run a p c samples cell j None = None
group_run a p c samples cell j (Some g) = numbers (piece_run p c samples cell j.group g j.at)

-- what a piece's private run gives where its fetched cells have these values
abbrev pub run_on : Algorithm → Plan → Certificate → List ℕ → Piece → List ℤ → Option (List ℤ)
run_on a p c samples j looked = group_run a p c samples (looked_value a p (cells_fetched p j) looked) j (slice_get p.groups j.group)

-- ---- the work

-- what the piece of this number gives, or this where there is none
abbrev pub of_piece : {A : Type 0} → Option Piece → A → (Piece → A) → A
of_piece None other f = other
of_piece (Some j) other f = f j

-- pieces and cells by their numbers
abbrev pub work_of : Algorithm → Plan → Certificate → List ℕ → Work
work_of a p c samples = record {
  pieces = length (pieces p);
  cells = length (cells p);
  own = λ n. of_piece (slice_get (pieces p) n) [] (λ j. map (cell_number p) (own_cells p c j));
  fetched = λ n. of_piece (slice_get (pieces p) n) [] (λ j. map (cell_number p) (cells_fetched p j));
  needs = λ n. of_piece (slice_get (pieces p) n) [] (needed_pieces p c);
  private_run = λ n looked. of_piece (slice_get (pieces p) n) None (λ j. run_on a p c samples j looked);
}
