-- The turns of a run, which are taken together: the numbers of a store's coordinates at each, and the memory that each finds.
use Rattle.std.specs.Prelude.{◌≡◌, ◌≢◌, ◌<◌, ℕ, List, [], ◌∷◌, map, Some, ℤ, pos, ◌+ℤ◌, ◌-ℤ◌, ◌*ℤ◌, Bool, true, false, int_le, string_bytes}
use Rattle.std.specs.List.{list_all}
use Rattle.tree.specs.declared.value.Value.{Value}
use Rattle.plan.specs.declared.stmt.Coordinate.{Coordinate}
use Rattle.plan.specs.Plan.{Index, At, Found}
use Rattle.plan.specs.View.{coordinate_of}
use Rattle.plan.specs.Symbols.{Symbols, bind}
use Rattle.plan.specs.Semantics.Actions.{Action, stored}
use Rattle.plan.specs.Semantics.Found.{found}
use Rattle.plan.specs.Semantics.Memory.{Memory}
use Rattle.plan.specs.Semantics.Run.{look}
use Rattle.meaning.specs.Names.{bound}
use Rattle.numeric.specs.declared.ty.Ty.{Ty}
use Rattle.tree.specs.Term.{Term}
use Rattle.tree.specs.Meaning.{typed}
use Rattle.interpreter.specs.Evaluation.Words.{word_at}
use Rattle.interpreter.specs.Pieces.{around, no_cells, setting}
use Rattle.interpreter.specs.Targets.{known_number}
use Rattle.interpreter.specs.declared.piece.Piece.{Piece}

-- how many turns are taken together at most, and of an update
abbrev pub longest_run : ℕ
longest_run = 1024

abbrev pub longest_update : ℕ
longest_update = 512

-- the numbers at a turn, by those of the first turn and of the second: each rises by as much with each turn
abbrev pub numbers_at : List ℤ → List ℤ → ℕ → List ℤ
numbers_at [] ys k = []
numbers_at (x ∷ xs) [] k = x ∷ numbers_at xs [] k
numbers_at (x ∷ xs) (y ∷ ys) k = (x +ℤ (y -ℤ x) *ℤ pos k) ∷ numbers_at xs ys k

-- a memory that differs from another in one buffer at most
pub record IsBut (b : ℕ) (m n : Memory Value) : Type 0 where
  pub rooms : (c : ℕ) → c ≢ b → n.rooms c ≡ m.rooms c
  pub held : (c : ℕ) → c ≢ b → n.held c ≡ m.held c

-- whether a coordinate is known by a form
abbrev pub is_form : Index → Bool
is_form (At l) = true
is_form (Found e) = false

abbrev pub are_forms : List Coordinate → Bool
are_forms cs = list_all (λ c. is_form (coordinate_of c).index) cs

-- ---- the turns of a store's loop, of which one begins the loop

-- what a store does at a turn
abbrev pub store_at : Piece → ℕ → List Coordinate → Term → Symbols → ℕ → ℤ → ℕ → ℤ → List Action
store_at x b cs e s i begin d z = stored (setting x) b d (map coordinate_of cs) e (bind s i z (int_le z begin)) ∷ []

-- the numbers of the coordinates at a turn
abbrev pub numbers_of : List Coordinate → Symbols → ℕ → ℤ → ℤ → List ℤ
numbers_of cs s i begin z = map (known_number (bind s i z (int_le z begin))) cs

-- At so many turns from this one on, the expression has the numbers that the words of a register are, whatever the buffer that is stored to holds.
abbrev pub FindsTurns : Piece → ℕ → List Coordinate → Term → Symbols → ℕ → ℤ → ℤ → Memory Value → ℕ → Ty → List ℕ → Type 0
FindsTurns x b cs e s i begin low memory n t ws =
    (m : Memory Value) → IsBut b memory m → (k : ℕ) → k < n →
    found (bound (map (λ c. string_bytes c.variable) cs) (numbers_of cs s i begin (low +ℤ pos k))) (look (around x no_cells) m) e ≡ Some (typed t (word_at t ws k))
