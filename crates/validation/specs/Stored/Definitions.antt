-- Functions and definitions that the lines of a plan name.
use Rattle.std.specs.Prelude.{ℕ, zero, suc, ◌==◌, ◌||◌, Bool, false, List, map, length, Option, Some, None, slice_get}
use Rattle.std.specs.List.{list_any}
use Rattle.std.specs.Option.{option_map}
use Rattle.tree.specs.Term.{Term, term_of}
use Rattle.meaning.specs.Algorithm.{Change, Function, Algorithm}
use Rattle.meaning.specs.Names.{same_name}
use Rattle.meaning.specs.Conditions.{function_named}
use Rattle.algo.specs.declared.function.Function.{Function as FunctionHeld}
use Rattle.algo.specs.Parts.{names_of, change_of}
use Rattle.plan.specs.Plan.{Statement, Seq, For, Let, First, Guard, Alloc, Fetch, Store, Publish, Statements, Empty, Then, Group, Plan}
use Rattle.validation.specs.declared.stored.defined.Defined.{Defined}
use Rattle.validation.specs.declared.stored.defined.Defined.TheVariants as held

-- a function without its name
pub record Parts : Type 0 where
  pub variables : List (List ℕ)
  pub value : Term
  pub changes : List Change

abbrev pub parts_of : Function → Parts
parts_of f = record { variables = f.variables; value = f.value; changes = f.changes }

-- the function of this name
abbrev pub parts_named : Algorithm → List ℕ → Option Parts
parts_named a name = option_map parts_of (function_named a.functions name)

-- a definition: the pure one of a function, or one of its updates
pub data Definition : Type 0 where
  Pure : Parts → Definition
  Step : Parts → Change → Definition

-- definition 0 is the pure one, and the updates follow from 1 on
abbrev pub definition_in : Option Parts → ℕ → Option Definition
definition_in None k = None
definition_in (Some f) zero = Some (Pure f)
definition_in (Some f) (suc i) = option_map (Step f) (slice_get f.changes i)

-- the function is known, with so many variables
abbrev pub has_variables : Option Parts → ℕ → Bool
has_variables None n = false
has_variables (Some f) n = length f.variables == n

-- the function of a definition
abbrev pub function_in : Definition → Parts
function_in (Pure f) = f
function_in (Step f u) = f

-- a function and a definition in memory
abbrev pub parts_held : FunctionHeld → Parts
parts_held f = record { variables = names_of f.variables.items; value = term_of f.value; changes = map change_of f.updates.items }

abbrev pub definition_held : Defined → Definition
definition_held (held.Pure f) = Pure (parts_held f.now)
definition_held (held.Update f u) = Step (parts_held f.now) (change_of u.now)

-- whether a line of the statement allocates a buffer of the function of this name
module _ (name : List ℕ) where
  abbrev mutual
    pub allots : Statement → Bool
    allots (Seq all) = block_allots all
    allots (For i x kind body) = allots body
    allots (Let i pick ls) = false
    allots (First i a b) = allots a || allots b
    allots (Guard low high body) = allots body
    allots (Alloc b f places) = same_name f name
    allots (Fetch b g region) = false
    allots (Store b k at e) = false
    allots (Publish c) = false

    pub block_allots : Statements → Bool
    block_allots Empty = false
    block_allots (Then a rest) = allots a || block_allots rest

  -- a function is stored where a group is of it or an `alloc` line is
  abbrev pub group_stores : Group → Bool
  group_stores g = same_name g.function name || allots g.body

  abbrev pub is_stored : Plan → Bool
  is_stored p = list_any group_stores p.groups

-- which functions of the algorithm are stored
abbrev pub stored_in : Algorithm → Plan → List Bool
stored_in a p = map (λ f. is_stored f.name p) a.functions
