-- Updates at the turns of a run: what registers hold for all turns, and what is left to each turn.
use Rattle.std.specs.Prelude.{◌≡◌, ◌<◌, ◌≤◌, ◌-◌, ℕ, zero, suc, List, [], ◌∷◌, drop, take, length, map, Option, Some, None, ℤ, pos, ◌+ℤ◌, ◌-ℤ◌, ◌*ℤ◌, string_bytes}
use Rattle.tree.specs.declared.value.Value.{Value}
use Rattle.tree.specs.Meaning.{typed, applied}
use Rattle.tree.specs.Term.{Term, indices, list_terms}
use Rattle.tree.specs.declared.expr.Expr.{Expr}
use Rattle.meaning.specs.Names.{bound}
use Rattle.plan.specs.declared.stmt.Coordinate.{Coordinate}
use Rattle.plan.specs.Plan.{Index, At, Found}
use Rattle.plan.specs.View.{coordinate_of}
use Rattle.plan.specs.Symbols.{Symbols}
use Rattle.plan.specs.Semantics.Found.{with, found, all_found}
use Rattle.plan.specs.Semantics.Memory.{Memory, read, write}
use Rattle.plan.specs.Semantics.Run.{look}
use Rattle.interpreter.specs.Evaluation.Lanes.{number_at}
use Rattle.interpreter.specs.Pieces.{around, no_cells}
use Rattle.interpreter.specs.Runs.{numbers_at, numbers_of, IsBut}
use Rattle.interpreter.specs.Steps.{Progress}
use Rattle.interpreter.specs.declared.evaluation.lanes.Number.{Number}
use Rattle.interpreter.specs.declared.piece.Piece.{Piece}
use Rattle.interpreter.specs.declared.update_reading.Bound.{Bound}
use Rattle.interpreter.specs.declared.update_reading.Bound.TheVariants.{Steps, Column}
use Rattle.interpreter.specs.declared.update_reading.UpdateReading.{UpdateReading}
use Rattle.interpreter.specs.declared.updates.Operand.{Operand}
use Rattle.interpreter.specs.declared.updates.Operand.TheVariants.{Known, Own}
use Rattle.interpreter.specs.declared.updates.Operation.{Operation}
use Rattle.interpreter.specs.declared.updates.Update.{Update}

-- the numbers at a turn of so many registers, each of so many numbers, one behind the other
abbrev pub columns_at : ℕ → ℕ → List Number → ℕ → List ℤ
columns_at n zero zs k = []
columns_at n (suc w) zs k = number_at zs k ∷ columns_at n w (drop n zs) k

-- ---- a store's coordinates

-- the number of a coordinate that is known to be this as far as a form tells it. One that is not among the first so many is not found by an expression.
abbrev pub place_number : (List ℕ → ℤ) → (List ℕ → List ℤ → Option Value) → ℕ → Index → ℤ → Option ℤ
place_number vs look p (At l) z = Some z
place_number vs look zero (Found e) z = Some z
place_number vs look (suc p) (Found e) z = with (found vs look e) (λ v. Some v.number)

-- the numbers of all coordinates, of which the first so many are the point's
abbrev pub place_numbers : (List ℕ → ℤ) → (List ℕ → List ℤ → Option Value) → ℕ → List Coordinate → List ℤ → Option (List ℤ)
place_numbers vs look p [] zs = Some []
place_numbers vs look p (c ∷ cs) [] = None
place_numbers vs look p (c ∷ cs) (z ∷ zs) = with (place_number vs look p (coordinate_of c).index z) (λ y. with (place_numbers vs look (p - 1) cs zs) (λ ys. Some (y ∷ ys)))

-- ---- operands

-- how many registers an operand has
abbrev pub registers_of : Operand → ℕ
registers_of (Known t) = 1
registers_of (Own w) = w

-- a point has four coordinates at most
abbrev pub IsShort : Operand → Type 0
IsShort (Known t) = Unit {0}
IsShort (Own w) = w ≤ 4

-- what an operand has at a turn, in this memory
abbrev pub operand_at : ℕ → Operand → List Number → Memory Value → ℕ → ℕ → Option Value
operand_at n (Known t) zs m b k = Some (typed t (number_at zs k))
operand_at n (Own w) zs m b k = read m b (columns_at n w zs k)

-- and an operation on two of them, of which the second's registers lie so many numbers behind the first's
abbrev pub operation_at : ℕ → Operation → List Number → Memory Value → ℕ → ℕ → Option Value
operation_at n o zs m b k = with (operand_at n o.left zs m b k) (λ x. with (operand_at n o.right (drop o.width zs) m b k) (λ y. Some (applied o.op x y)))

-- the operands are short
pub record IsOperation (o : Operation) : Type 0 where
  pub left : IsShort o.left
  pub right : IsShort o.right

-- a call of the buffer, with these indices
abbrev pub IsOwnCall : Piece → ℕ → Term → List Expr → Type 0
IsOwnCall x b e at = (vs : List ℕ → ℤ) (m : Memory Value) → found vs (look (around x no_cells) m) e ≡ with (all_found vs (look (around x no_cells) m) (indices (list_terms at))) (λ zs. read m b zs)

-- The number of a coordinate that is the first one as far as a form tells it, and for which a register has the second one. The latter is looked at only where an expression finds the coordinate.
abbrev pub update_number : ℕ → Index → ℤ → ℤ → ℤ
update_number zero (At l) z y = z
update_number (suc p) (At l) z y = z
update_number zero (Found e) z y = z
update_number (suc p) (Found e) z y = y

-- and of all coordinates
abbrev pub update_numbers : ℕ → List Coordinate → List ℤ → List ℤ → List ℤ
update_numbers p [] zs ys = []
update_numbers p (c ∷ cs) [] ys = []
update_numbers p (c ∷ cs) (z ∷ zs) [] = []
update_numbers p (c ∷ cs) (z ∷ zs) (y ∷ ys) = update_number p (coordinate_of c).index z y ∷ update_numbers (p - 1) cs zs ys

-- what a variable stands for at a turn
abbrev pub bound_number : Bound → ℕ → ℤ
bound_number (Steps x y) k = x +ℤ (y -ℤ x) *ℤ pos k
bound_number (Column c) k = number_at c.now k

-- the numbers that variables stand for at a turn
abbrev pub variables_at : UpdateReading → ℕ → List ℕ → ℤ
variables_at r k =
    bound (map (λ c. string_bytes c.variable) r.reading.coordinates.now)
    (update_numbers r.size r.reading.coordinates.now (numbers_at r.reading.first.now r.reading.second.now k) (columns_at r.count (length r.reading.coordinates.now) r.columns.now k))

-- a value set at a point
abbrev pub sets_or_none : ℕ → Progress → List ℤ → Value → Option Progress
sets_or_none b x p v = with (write x.memory b p v) (λ m. Some (record { memory = m; given = x.given }))

-- ---- a store that is an update

-- at a turn, where memory holds this, the coordinates have these numbers, of which those of the point are in the first registers, and the expression has the operation's value
pub record FindsTurn (variables : List ℕ → ℤ) (known : List ℤ) (b size n : ℕ) (cs : List Coordinate) (e : Term) (look : List ℕ → List ℤ → Option Value) (u : Update) (zs : List Number) (m : Memory Value) (k : ℕ) : Type 0 where
  pub numbers : List ℤ
  pub place : place_numbers variables look size cs known ≡ Some numbers
  pub point : take size numbers ≡ columns_at n size zs k
  pub value : found (bound (map (λ c. string_bytes c.variable) cs) numbers) look e ≡ operation_at n u.operation (drop u.start zs) m b k

-- the first coordinates are a point, and there are not more of them than coordinates
pub record IsPoint (size count : ℕ) : Type 0 where
  pub short : size ≤ 4
  pub within : size ≤ count

-- At so many turns from this one on, the registers hold what is known of the update, whatever the buffer that is stored to holds.
pub record FindsUpdate (x : Piece) (b size : ℕ) (cs : List Coordinate) (e : Term) (s : Symbols) (i : ℕ) (begin low : ℤ) (memory : Memory Value) (n : ℕ) (u : Update) (zs : List Number) : Type 0 where
  pub point : IsPoint size (length cs)
  pub operation : IsOperation u.operation
  pub turns : (m : Memory Value) → IsBut b memory m → (k : ℕ) → k < n →
      FindsTurn (bound (map (λ c. string_bytes c.variable) cs) (numbers_of cs s i begin (low +ℤ pos k))) (numbers_of cs s i begin (low +ℤ pos k)) b size n cs e (look (around x no_cells) m) u zs m k
