-- What is asked of a line `store`.
use Rattle.std.specs.Prelude.{ℕ, ◌==◌, ◌&&◌, nat_lt, not, Bool, true, false, List, [], ◌∷◌, map, take, drop, length}
use Rattle.std.specs.List.{list_all, list_any}
use Rattle.tree.specs.Term.{Term, Number, Name, Call, Minus, Binary, Clamp, Cast, Choice, Terms, End, More, Test, Compares, Fails, Both, Either}
use Rattle.tree.specs.Substitution.{with_calls}
use Rattle.tree.specs.Typing.{index_count}
use Rattle.lin.specs.Forms.{is_within_limits}
use Rattle.meaning.specs.Algorithm.{Algorithm}
use Rattle.meaning.specs.Names.{same_name}
use Rattle.meaning.specs.Conditions.{is_variable}
use Rattle.plan.specs.Plan.{Index, At, Found, Coordinate, Plan}
use Rattle.plan.specs.Semantics.Run.{Source, Input, ByClaim, Unknown}
use Rattle.soundness.specs.Origins.{Outline}
use Rattle.soundness.specs.Obligations.{is_form}
use Rattle.meaning.specs.Inlining.PutIn.{put_in, calls_updates}
use Rattle.soundness.specs.Outline.Forms.{is_over}
use Rattle.validation.specs.Stored.Sizes.{is_small}
use Rattle.validation.specs.Stored.Definitions.{parts_named, Definition, Pure, Step, has_variables, stored_in}
use Rattle.validation.specs.Stored.Alike.{same_term}
use Rattle.validation.specs.declared.stored.lines.GroupLines.{GroupLines}

-- ---- names

-- the coordinates are for these variables, in their order
abbrev pub are_for : List Coordinate → List (List ℕ) → Bool
are_for [] [] = true
are_for (c ∷ cs) (v ∷ vs) = same_name c.variable v && are_for cs vs
are_for _ _ = false

-- the coordinates are for the definition's variables: the function's, then the update's reduction variables
abbrev pub has_names : Definition → List Coordinate → Bool
has_names (Pure f) at = are_for at f.variables
has_names (Step f u) at = are_for (take (length f.variables) at) f.variables && are_for (drop (length f.variables) at) (map (λ d. d.variable) u.ranges)

-- one of the coordinates is for this variable
abbrev pub is_named : List Coordinate → List ℕ → Bool
is_named at name = list_any (λ c. same_name c.variable name) at

-- each variable of an expression passes a test, and each call, by its name and its number of indices, another
module _ (variable : List ℕ → Bool) (call : List ℕ → ℕ → Bool) where
  abbrev mutual
    pub is_known : Term → Bool
    is_known (Number t n) = true
    is_known (Name name) = variable name
    is_known (Call name at) = call name (index_count at) && are_known at
    is_known (Minus a) = is_known a
    is_known (Binary op a b) = is_known a && is_known b
    is_known (Clamp a l h) = is_known a && (is_known l && is_known h)
    is_known (Cast t a) = is_known a
    is_known (Choice c a b) = is_known_test c && (is_known a && is_known b)

    pub is_known_test : Test → Bool
    is_known_test (Compares by a b) = is_known a && is_known b
    is_known_test (Fails c) = is_known_test c
    is_known_test (Both c d) = is_known_test c && is_known_test d
    is_known_test (Either c d) = is_known_test c && is_known_test d

    pub are_known : Terms → Bool
    are_known End = true
    are_known (More a rest) = is_known a && are_known rest

-- ---- each coordinate

-- the form's symbols are among these
abbrev pub index_is_over : List ℕ → Index → Bool
index_is_over symbols (At l) = is_over symbols l
index_is_over symbols (Found e) = true

-- the form is within the limits of linear forms
abbrev pub index_is_within : Index → Bool
index_is_within (At l) = is_within_limits l
index_is_within (Found e) = true

-- the expression is small
abbrev pub index_is_small : Index → Bool
index_is_small (At l) = true
index_is_small (Found e) = is_small e

-- variables and calls of the expression pass their tests
abbrev pub index_is_known : (List ℕ → Bool) → (List ℕ → ℕ → Bool) → Index → Bool
index_is_known variable call (At l) = true
index_is_known variable call (Found e) = is_known variable call e

-- ---- loads

-- the name by which a load is read: that of its claim's function
abbrev pub name_read : Outline → Source → List ℕ → List ℕ
name_read outline Input name = name
name_read outline (ByClaim c) name = (outline.claim c).function
name_read outline Unknown name = name

abbrev pub call_read : Outline → List ℕ → Terms → Term
call_read outline name at = Call (name_read outline (outline.source name) name) at

-- an expression with each load read as a call of its claim's function
abbrev pub as_read : Outline → Term → Term
as_read outline e = with_calls (call_read outline) e

-- the line is one of these behind the line `group`
abbrev pub has_line : GroupLines → ℕ → Bool
has_line group line = nat_lt group.first line && nat_lt line group.behind

module _ (a : Algorithm) (p : Plan) (group : GroupLines) (outline : Outline) where
  -- what a call of this name and so many indices goes to is known: the input, or a claim of the group and of a known function
  abbrev pub source_takes : Source → ℕ → Bool
  source_takes Input n = length p.input.extents == n
  source_takes (ByClaim c) n = has_line group (outline.claim c).line && has_variables (parts_named a (outline.claim c).function) n
  source_takes Unknown n = false

  abbrev pub is_call : List ℕ → ℕ → Bool
  is_call name n = source_takes (outline.source name) n

module _ (a : Algorithm) (p : Plan) (outline : Outline) where
  -- ---- the definition

  -- read so, the expression is another with the calls of unstored functions put in, none of which has updates
  abbrev pub is_put_in : Term → Term → Bool
  is_put_in d e = not (calls_updates a (stored_in a p) d) && same_term (as_read outline e) (put_in a (stored_in a p) d)

  -- a coordinate is given as the left index asks: by a form where that is the variable alone, else by the index
  abbrev pub is_left : List ℕ → Term → Index → Bool
  is_left v d (At l) = is_variable v d
  is_left v d (Found e) = not (is_variable v d) && is_put_in d e

  abbrev pub are_left : List (List ℕ) → List Term → List Coordinate → Bool
  are_left [] [] [] = true
  are_left (v ∷ vs) (d ∷ ds) (c ∷ cs) = is_left v d c.index && are_left vs ds cs
  are_left _ _ _ = false

  -- the store is of the definition
  abbrev pub is_defined : Definition → List Coordinate → Term → Bool
  is_defined (Pure f) at e = list_all is_form at && is_put_in f.value e
  is_defined (Step f u) at e =
      are_left f.variables u.at (take (length f.variables) at) && (list_all is_form (drop (length f.variables) at) && is_put_in u.value e)
