-- Calls of functions that are not stored, with their definitions put in.
use Rattle.std.specs.Prelude.{ℕ, List, [], ◌∷◌, Bool, true, false, ◌&&◌, ◌||◌, not, Option, Some, None, is_some, if◌then◌else◌}
use Rattle.tree.specs.Term.{Term, Number, Name, Call, Minus, Binary, Clamp, Cast, Choice, Terms, End, More, Test, Compares, Fails, Both, Either}
use Rattle.tree.specs.Substitution.{substituted, with_calls}
use Rattle.tree.specs.Typing.{type_of}
use Rattle.meaning.specs.Algorithm.{Change, Function, Algorithm}
use Rattle.meaning.specs.Names.{same_name}
use Rattle.meaning.specs.Conditions.{callable}

-- what stands for a call, by its name and its indices
abbrev pub Replacement : Type 0
Replacement = List ℕ → Terms → Term

-- the index at the place of a variable
abbrev pub index_for : List (List ℕ) → Terms → List ℕ → Option Term
index_for (x ∷ xs) (More a rest) name = elim (same_name x name) [ true ↦ Some a | false ↦ index_for xs rest name ]
index_for _ _ name = None

-- a step for each of these functions, in order, that is not marked as stored
abbrev pub over_unstored : {A : Type 0} → (A → Function → A) → A → List Function → List Bool → A
over_unstored step before [] _ = before
over_unstored step before (f ∷ fs) [] = before
over_unstored step before (f ∷ fs) (true ∷ stored) = over_unstored step before fs stored
over_unstored step before (f ∷ fs) (false ∷ stored) = over_unstored step (step before f) fs stored

-- calls of f become its pure definition, with the indices put in for its variables; calls in the definition are replaced as before
abbrev pub with_definition : Replacement → Function → Replacement
with_definition before f name at = elim (same_name f.name name) [ true ↦ substituted (index_for f.variables at) (with_calls before f.value) | false ↦ before name at ]

-- the same for each of these functions that is not stored
abbrev pub with_definitions : Replacement → List Function → List Bool → Replacement
with_definitions = over_unstored with_definition

-- the expression with each call of a function that is not stored replaced by its definition
abbrev pub put_in : Algorithm → List Bool → Term → Term
put_in a stored e = with_calls (with_definitions Call a.functions stored) e

-- whether a call in the expression has a name that passes the test
module _ (test : List ℕ → Bool) where
  abbrev mutual
    pub calls_some : Term → Bool
    calls_some (Number t n) = false
    calls_some (Name name) = false
    calls_some (Call name at) = test name || all_call_some at
    calls_some (Minus a) = calls_some a
    calls_some (Binary op a b) = calls_some a || calls_some b
    calls_some (Clamp a l h) = calls_some a || (calls_some l || calls_some h)
    calls_some (Cast t a) = calls_some a
    calls_some (Choice c a b) = test_calls_some c || (calls_some a || calls_some b)

    pub test_calls_some : Test → Bool
    test_calls_some (Compares by a b) = calls_some a || calls_some b
    test_calls_some (Fails c) = test_calls_some c
    test_calls_some (Both c d) = test_calls_some c || test_calls_some d
    test_calls_some (Either c d) = test_calls_some c || test_calls_some d

    pub all_call_some : Terms → Bool
    all_call_some End = false
    all_call_some (More a rest) = calls_some a || all_call_some rest

abbrev pub has_updates : List Change → Bool
has_updates [] = false
has_updates (u ∷ us) = true

-- whether a call by the name comes to a function with updates: f itself, or what its pure definition comes to
abbrev pub with_updates : (List ℕ → Bool) → Function → List ℕ → Bool
with_updates before f name = elim (same_name f.name name) [ true ↦ has_updates f.changes || calls_some before f.value | false ↦ before name ]

-- whether a call by the name, put in, comes to a function that has updates and is not stored
abbrev pub comes_to_updates : List Function → List Bool → List ℕ → Bool
comes_to_updates = over_unstored with_updates (λ name. false)

-- whether an expression does
abbrev pub calls_updates : Algorithm → List Bool → Term → Bool
calls_updates a stored e = calls_some (comes_to_updates a.functions stored) e

-- whether an expression has a type over all that can be called, whatever its variables
abbrev pub is_typed_anywhere : Algorithm → Term → Bool
is_typed_anywhere a e = is_some (type_of (λ name. true) (callable a a.functions) e)

-- the calls can be put in
abbrev pub is_possible : Algorithm → List Bool → Term → Bool
is_possible a stored e = is_typed_anywhere a e && not (calls_updates a stored e)

-- the expression with the calls put in where they can be; any other stays
abbrev pub put_in_where_possible : Algorithm → List Bool → Term → Term
put_in_where_possible a stored e = if is_possible a stored e then put_in a stored e else e
