-- What an algorithm text says, statement by statement, without the places of its parts. E is what stands for an expression.
use Rattle.std.specs.Prelude.{ℕ, Bool, true, false, List, map, ℤ, pos, neg_ℤ}
use Rattle.numeric.specs.declared.ty.Ty.{Ty}

-- a number, which is negative behind a sign
pub record BoundText : Type 0 where
  pub negative : Bool
  pub number : ℕ

-- a reduction variable and its range
pub record DomainText : Type 0 where
  pub variable : List ℕ
  pub low : BoundText
  pub high : BoundText

pub record InputText : Type 0 where
  pub name : List ℕ
  pub ty : Ty
  pub extents : List ℕ

pub record FunctionText (E : Type 0) : Type 0 where
  pub name : List ℕ
  pub ty : Ty
  pub variables : List (List ℕ)
  pub value : E

-- an update, which has no domain where it has no `over`
pub record UpdateText (E : Type 0) : Type 0 where
  pub name : List ℕ
  pub domains : List DomainText
  pub at : List E
  pub value : E

pub data StatementText (E : Type 0) : Type 0 where
  function : FunctionText E → StatementText E
  update : UpdateText E → StatementText E

pub record OutputText : Type 0 where
  pub name : List ℕ
  pub extents : List ℕ

pub record FileText (E : Type 0) : Type 0 where
  pub name : List ℕ
  pub input : InputText
  pub statements : List (StatementText E)
  pub output : OutputText

-- the number of a bound
abbrev pub signed : Bool → ℕ → ℤ
signed true n = neg_ℤ (pos n)
signed false n = pos n

abbrev pub bound_value : BoundText → ℤ
bound_value b = signed b.negative b.number

-- ---- the same with other expressions

abbrev pub function_with : {E F : Type 0} → (E → F) → FunctionText E → FunctionText F
function_with f s = record { name = s.name; ty = s.ty; variables = s.variables; value = f s.value }

abbrev pub update_with : {E F : Type 0} → (E → F) → UpdateText E → UpdateText F
update_with f s = record { name = s.name; domains = s.domains; at = map f s.at; value = f s.value }

abbrev pub statement_with : {E F : Type 0} → (E → F) → StatementText E → StatementText F
statement_with f (function s) = function (function_with f s)
statement_with f (update s) = update (update_with f s)

abbrev pub file_with : {E F : Type 0} → (E → F) → FileText E → FileText F
file_with f s = record { name = s.name; input = s.input; statements = map (statement_with f) s.statements; output = s.output }
