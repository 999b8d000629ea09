-- What stands for calls by a list of bodies, the last first.
use Rattle.std.specs.Prelude.{◌≡◌, ℕ, List, [], ◌∷◌, ◌||◌, Bool, true, false, Option, Some, None, Result, reverse, string_bytes}
use Rattle.tree.specs.Term.{Term, Call, Terms}
use Rattle.tree.specs.Substitution.{substituted, with_calls}
use Rattle.meaning.specs.Algorithm.{Function}
use Rattle.meaning.specs.Names.{same_name}
use Rattle.algo.specs.Parts.{function_of, functions_of}
use Rattle.algo.specs.declared.function.Function.{Function as Entry}
use Rattle.std.specs.declared.string.String.{String}
use Rattle.std.specs.Global.{Global}
use Rattle.meaning.specs.Inlining.PutIn.{Replacement, index_for, with_definition, with_definitions, with_updates, comes_to_updates, has_updates, calls_some}
use Rattle.subst.specs.declared.bodies.Body.{Body}
use Rattle.subst.specs.declared.error.SubstError.{SubstError}
use Rattle.subst.specs.declared.built.Built.{Built}
use Rattle.subst.specs.Built.{Makes, Holds}
use Rattle.subst.specs.Filled.{AreHeld}

-- the function that a body is of
abbrev pub of_body : Body → Function
of_body b = function_of (b.name.now, b.function.now)

-- the first body of the name
abbrev pub found_in : List Body → List ℕ → Option Body
found_in [] name = None
found_in (b ∷ earlier) name = elim (same_name (string_bytes b.name.now) name) [ true ↦ Some b | false ↦ found_in earlier name ]

-- what stands for calls, and which names come to updates
abbrev pub stands_in : List Body → Replacement
stands_in [] = Call
stands_in (b ∷ earlier) = with_definition (stands_in earlier) (of_body b)

abbrev pub marked_in : List Body → List ℕ → Bool
marked_in [] = λ name. false
marked_in (b ∷ earlier) = with_updates (marked_in earlier) (of_body b)

-- each body holds its function's definition, over the bodies before it, and whether it comes to updates
abbrev pub AreBodiesIn : List Body → Type 0
AreBodiesIn [] = Unit {0}
AreBodiesIn (b ∷ earlier) =
    Holds (with_calls (stands_in earlier) (of_body b).value) b.value
    × (b.updates ≡ (has_updates (of_body b).changes || calls_some (marked_in earlier) (of_body b).value))
    × AreBodiesIn earlier

abbrev pub found : List Body → List ℕ → Option Body
found bodies = found_in (reverse bodies)

abbrev pub stands : List Body → Replacement
stands bodies = stands_in (reverse bodies)

abbrev pub marked : List Body → List ℕ → Bool
marked bodies = marked_in (reverse bodies)

abbrev pub AreBodies : List Body → Type 0
AreBodies bodies = AreBodiesIn (reverse bodies)

-- the body of f, over the bodies before it
pub record IsBodyOf (before : List Body) (f : Function) (b : Body) : Type 0 where
  pub of : of_body b ≡ f
  pub value : Holds (with_calls (stands before) f.value) b.value
  pub updates : b.updates ≡ (has_updates f.changes || calls_some (marked before) f.value)

-- for whichever definition the body and whichever indices these hold, the definition with them put in is made, or it was refused
pub record FillsBody (b : Body) (at : List (Option Built)) (result : Result Built SubstError) : Type 0 where
  pub made : (e : Term) (held : Terms) → Holds e b.value → AreHeld held at → Makes (substituted (index_for (of_body b).variables held) e) result

-- the bodies of those of these functions that are not stored
pub record IsTableOf (entries : List (String Global × Entry)) (stored : List Bool) (bodies : List Body) : Type 0 where
  pub kept : AreBodies bodies
  pub calls : (name : List ℕ) (at : Terms) → stands bodies name at ≡ with_definitions Call (functions_of entries) stored name at
  pub updates : (name : List ℕ) → marked bodies name ≡ comes_to_updates (functions_of entries) stored name
