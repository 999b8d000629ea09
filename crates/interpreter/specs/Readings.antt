-- What an expression is at a store's coordinates.
use Rattle.std.specs.Prelude.{ℕ, ℤ, Bool, List, map, Option, string_bytes}
use Rattle.meaning.specs.Names.{bound}
use Rattle.plan.specs.Semantics.Found.{found, test_found, all_found}
use Rattle.tree.specs.Term.{Term, Terms, Test}
use Rattle.tree.specs.declared.value.Value.{Value}
use Rattle.interpreter.specs.Pieces.{found_in}
use Rattle.interpreter.specs.declared.reading.Reading.{Reading}

-- the names of the coordinates
abbrev pub names_in : Reading → List (List ℕ)
names_in r = map (λ c. string_bytes c.variable) r.coordinates.now

-- the value of an expression, if it has one
abbrev pub value_in : Reading → Term → Option Value
value_in r = found (bound (names_in r) r.numbers.now) (found_in r.piece.now r.memory.now)

-- whether a condition holds, if its parts have values
abbrev pub holds_in : Reading → Test → Option Bool
holds_in r = test_found (bound (names_in r) r.numbers.now) (found_in r.piece.now r.memory.now)

-- the numbers of the indices of a call, if they have values
abbrev pub numbers_of_indices : Reading → Terms → Option (List ℤ)
numbers_of_indices r = all_found (bound (names_in r) r.numbers.now) (found_in r.piece.now r.memory.now)
