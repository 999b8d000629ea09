-- What an algorithm text says, statement by statement.
use Rattle.std.specs.Prelude.{◌≡◌, ℕ, List, [], ◌∷◌, ◌++◌, map, fold, take, Some, slice_get, All}
use Rattle.std.specs.List.{flat_map}
use Rattle.tree.specs.Term.{Term}
use Rattle.meaning.specs.Algorithm.{Range, Change, Function, Algorithm}
use Rattle.meaning.specs.Conditions.{IsSmall, IsAlgorithm}
use Rattle.expr.specs.Statements.Text.{InputText, DomainText, FunctionText, UpdateText, StatementText, function, update, FileText, bound_value}

abbrev pub range_said : DomainText → Range
range_said d = record { variable = d.variable; low = bound_value d.low; high = bound_value d.high }

-- the names of reduction variables
abbrev pub domain_names : List DomainText → List (List ℕ)
domain_names = map (λ d. d.variable)

abbrev pub change_said : UpdateText Term → Change
change_said s = record { ranges = map range_said s.domains; at = s.at; value = s.value }

-- a function without updates
abbrev pub function_said : FunctionText Term → Function
function_said s = record { name = s.name; ty = s.ty; variables = s.variables; value = s.value; changes = [] }

-- the functions with one more update of the last of them
abbrev pub with_update : List Function → Change → List Function
with_update [] u = []
with_update (f ∷ []) u = record f { changes = f.changes ++ u ∷ [] } ∷ []
with_update (f ∷ g ∷ fs) u = f ∷ with_update (g ∷ fs) u

-- the functions after one more statement: a function is new, an update belongs to the last function
abbrev pub after_statement : List Function → StatementText Term → List Function
after_statement fs (function s) = fs ++ function_said s ∷ []
after_statement fs (update s) = with_update fs (change_said s)

-- the functions that statements say, in their order
abbrev pub functions_said : List (StatementText Term) → List Function
functions_said = fold after_statement []

-- the algorithm that has this input alone
abbrev pub input_said : InputText → Algorithm
input_said s = record {
  name = [];
  input = s.name;
  input_ty = s.ty;
  input_extents = s.extents;
  functions = [];
  output = [];
  output_extents = [];
}

abbrev pub says : FileText Term → Algorithm
says file = record {
  name = file.name;
  input = file.input.name;
  input_ty = file.input.ty;
  input_extents = file.input.extents;
  functions = functions_said file.statements;
  output = file.output.name;
  output_extents = file.output.extents;
}

-- the last of the functions has this name
abbrev pub IsLast : List Function → List ℕ → Type 0
IsLast [] name = ⊥
IsLast (f ∷ []) name = f.name ≡ name
IsLast (f ∷ g ∷ fs) name = IsLast (g ∷ fs) name

-- an update names the last function
abbrev pub FollowsFunction : List Function → StatementText Term → Type 0
FollowsFunction fs (function s) = Unit {0}
FollowsFunction fs (update s) = IsLast fs s.name

-- each statement comes after the functions that those before it say
abbrev pub FollowFunctions : List (StatementText Term) → Type 0
FollowFunctions statements = (k : ℕ) (s : StatementText Term) → slice_get statements k ≡ Some s → FollowsFunction (functions_said (take k statements)) s

-- the text stands for a well-formed algorithm: what it says is one, and each update names the function before it
pub record IsWellFormed (file : FileText Term) : Type 0 where
  pub updates : FollowFunctions file.statements
  pub algorithm : IsAlgorithm (says file)

-- the name that a statement declares, if it does
abbrev pub name_declared : StatementText Term → List (List ℕ)
name_declared (function s) = s.name ∷ []
name_declared (update s) = []

-- the names of the input and of all functions of the text
abbrev pub names_declared : FileText Term → List (List ℕ)
names_declared file = file.input.name ∷ flat_map name_declared file.statements

-- the expressions of a statement are within their limits
abbrev pub HasSmallExpressions : StatementText Term → Type 0
HasSmallExpressions (function s) = IsSmall s.value
HasSmallExpressions (update s) = All IsSmall s.at × IsSmall s.value
