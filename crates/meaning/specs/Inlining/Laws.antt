-- To put calls in keeps the value and the type.
use Rattle.std.specs.Prelude.{◌≡◌, ◌≢◌, ℕ, List, [], All, Bool, true, false, Some, ℤ, slice_get}
use Rattle.numeric.specs.declared.ty.Ty.{Ty}
use Rattle.numeric.specs.declared.ty.Ty.TheVariants.{I32}
use Rattle.tree.specs.Term.{Term}
use Rattle.tree.specs.Meaning.{value_of}
use Rattle.tree.specs.Typing.{type_of}
use Rattle.tree.specs.Uses.{EachCall}
use Rattle.meaning.specs.Algorithm.{Change, Function, Algorithm}
use Rattle.meaning.specs.Names.{is_among}
use Rattle.meaning.specs.Conditions.{IsAlgorithm, callable, function_named, names_in}
use Rattle.meaning.specs.Functions.{IsAt}
use Rattle.meaning.specs.Value.{Calls, with_name, calls_of}
use Rattle.meaning.specs.Inlining.PutIn.{put_in, comes_to_updates, calls_updates, put_in_where_possible}

-- an expression of the type over all that can be called, where `known` tells the names of variables
abbrev pub HasType : Algorithm → (List ℕ → Bool) → Ty → Term → Type 0
HasType a known t e = type_of known (callable a a.functions) e ≡ Some t

-- with the calls put in, the expression has the value that it had
abbrev pub KeepsItsValue : Algorithm → List Bool → Calls → Term → Type 0
KeepsItsValue a stored calls e = (variables : List ℕ → ℤ) → value_of variables calls (put_in a stored e) ≡ value_of variables calls e

-- and so where they are put in only if they can be
abbrev pub KeepsItsValueAnyhow : Algorithm → List Bool → Calls → Term → Type 0
KeepsItsValueAnyhow a stored calls e = (variables : List ℕ → ℤ) → value_of variables calls (put_in_where_possible a stored e) ≡ value_of variables calls e

-- its calls come to no function that has updates and is not stored
abbrev pub TakesNoUpdates : Algorithm → List Bool → Term → Type 0
TakesNoUpdates a stored e = calls_updates a stored e ≡ false

-- a typed expression keeps its value under every input
abbrev pub PutInKeepsTheValue : Type 0
PutInKeepsTheValue =
    (a : Algorithm) (stored : List Bool) (samples : List ℕ) (known : List ℕ → Bool) (t : Ty) (e : Term)
    → IsAlgorithm a → HasType a known t e → TakesNoUpdates a stored e → KeepsItsValue a stored (calls_of a samples) e

-- an expression of an update keeps its value and has its type, over all that can be called
pub record KeepsItsSide (a : Algorithm) (stored : List Bool) (calls : Calls) (names : List (List ℕ)) (t : Ty) (e : Term) : Type 0 where
  pub keeps : TakesNoUpdates a stored e → KeepsItsValue a stored calls e
  pub anyhow : KeepsItsValueAnyhow a stored calls e
  pub has_type : HasType a (is_among names) t e
  pub of_type : (variables : List ℕ → ℤ) → (value_of variables calls e).ty ≡ t

-- the right side of an update of f, and each index of its left side
pub record KeepsItsSides (a : Algorithm) (stored : List Bool) (calls : Calls) (f : Function) (u : Change) : Type 0 where
  pub right : KeepsItsSide a stored calls (names_in f u) f.ty u.value
  pub left : All (KeepsItsSide a stored calls (names_in f u) I32) u.at

-- in updates, calls of the function itself answer any values so far
abbrev pub UpdatesKeepTheirSides : Type 0
UpdatesKeepTheirSides =
    (a : Algorithm) (stored : List Bool) (samples : List ℕ) (k : ℕ) (f : Function) (i : ℕ) (u : Change) (values : List ℤ → ℤ)
    → IsAlgorithm a → IsAt a k f → slice_get f.changes i ≡ Some u
    → KeepsItsSides a stored (with_name (calls_of a samples) f.name f.ty values) f u

-- a typed expression keeps its type
abbrev pub PutInKeepsTheType : Type 0
PutInKeepsTheType =
    (a : Algorithm) (stored : List Bool) (known : List ℕ → Bool) (t : Ty) (e : Term)
    → IsAlgorithm a → HasType a known t e → HasType a known t (put_in a stored e)

-- no function that is not stored has the name
abbrev pub StaysCalled : Algorithm → List Bool → List ℕ → Type 0
StaysCalled a stored name = (k : ℕ) (f : Function) → slice_get a.functions k ≡ Some f → slice_get stored k ≡ Some false → f.name ≢ name

-- which calls stay, and which go
pub record CallsThatStay : Type 0 where
  -- an expression without calls of functions that are not stored stays as it is
  pub whole : (a : Algorithm) (stored : List Bool) (e : Term) → EachCall (λ name at. StaysCalled a stored name) e → put_in a stored e ≡ e
  -- calls of the input and of stored functions are such calls
  pub input : (a : Algorithm) (stored : List Bool) → IsAlgorithm a → StaysCalled a stored a.input
  pub stored : (a : Algorithm) (stored : List Bool) (k : ℕ) (f : Function) → IsAlgorithm a → IsAt a k f → slice_get stored k ≡ Some true → StaysCalled a stored f.name
  -- where the calls are put in, no other calls are left
  pub left : (a : Algorithm) (stored : List Bool) (e : Term) → IsAlgorithm a → EachCall (λ name at. StaysCalled a stored name) (put_in a stored e)

-- a function's pure definition with the calls put in, over the function's variables
pub record PureDefinitions : Type 0 where
  pub value : (a : Algorithm) (stored : List Bool) (samples : List ℕ) (k : ℕ) (f : Function) → IsAlgorithm a → IsAt a k f → TakesNoUpdates a stored f.value →
      KeepsItsValue a stored (calls_of a samples) f.value
  pub type : (a : Algorithm) (stored : List Bool) (k : ℕ) (f : Function) → IsAlgorithm a → IsAt a k f → HasType a (is_among f.variables) f.ty (put_in a stored f.value)

-- what is put in does not change a value, and a definition has its function's type: functions by their names
pub record KeepsValues (a : Algorithm) (samples : List ℕ) (put_in : Term → Term) : Type 0 where
  pub value : (variables : List ℕ → ℤ) (e : Term) → value_of variables (calls_of a samples) (put_in e) ≡ value_of variables (calls_of a samples) e
  pub of_type : (name : List ℕ) (f : Function) (variables : List ℕ → ℤ) → function_named a.functions name ≡ Some f → (value_of variables (calls_of a samples) f.value).ty ≡ f.ty
  -- nor in an update, whatever the function's calls of itself answer
  pub right_value : (name : List ℕ) (f : Function) (i : ℕ) (u : Change) (values : List ℤ → ℤ) (variables : List ℕ → ℤ) → function_named a.functions name ≡ Some f → slice_get f.changes i ≡ Some u →
      value_of variables (with_name (calls_of a samples) f.name f.ty values) (put_in u.value) ≡ value_of variables (with_name (calls_of a samples) f.name f.ty values) u.value
  pub right_type : (name : List ℕ) (f : Function) (i : ℕ) (u : Change) (values : List ℤ → ℤ) (variables : List ℕ → ℤ) → function_named a.functions name ≡ Some f → slice_get f.changes i ≡ Some u →
      (value_of variables (with_name (calls_of a samples) f.name f.ty values) u.value).ty ≡ f.ty
  pub left_value : (name : List ℕ) (f : Function) (i : ℕ) (u : Change) (values : List ℤ → ℤ) (variables : List ℕ → ℤ) → function_named a.functions name ≡ Some f → slice_get f.changes i ≡ Some u →
      All (λ d. value_of variables (with_name (calls_of a samples) f.name f.ty values) (put_in d) ≡ value_of variables (with_name (calls_of a samples) f.name f.ty values) d) u.at

-- all expressions keep their values where calls are put in only if they can be
pub record PutInWherePossible : Type 0 where
  pub keeps : (a : Algorithm) (stored : List Bool) (samples : List ℕ) → IsAlgorithm a → KeepsValues a samples (put_in_where_possible a stored)
  pub possible : (a : Algorithm) (stored : List Bool) (known : List ℕ → Bool) (t : Ty) (e : Term) → HasType a known t e → TakesNoUpdates a stored e →
      put_in_where_possible a stored e ≡ put_in a stored e
  pub definition : (a : Algorithm) (stored : List Bool) (name : List ℕ) (f : Function) → IsAlgorithm a → function_named a.functions name ≡ Some f → TakesNoUpdates a stored f.value →
      put_in_where_possible a stored f.value ≡ put_in a stored f.value

-- a function that is not stored has no updates
abbrev pub MayPutIn : Algorithm → List Bool → Type 0
MayPutIn a stored = (k : ℕ) (f : Function) → slice_get a.functions k ≡ Some f → slice_get stored k ≡ Some false → f.changes ≡ []

-- which calls come to updates
pub record CallsOfUpdates : Type 0 where
  -- none, where no function has updates that is not stored
  pub none : (a : Algorithm) (stored : List Bool) (e : Term) → MayPutIn a stored → TakesNoUpdates a stored e
  -- a call of a function that has updates and is not stored does
  pub own : (a : Algorithm) (stored : List Bool) (k : ℕ) (f : Function) → IsAlgorithm a → IsAt a k f → slice_get stored k ≡ Some false → f.changes ≢ [] →
      comes_to_updates a.functions stored f.name ≡ true
  -- and so does one of a function that is not stored, where its definition does
  pub through : (a : Algorithm) (stored : List Bool) (k : ℕ) (f : Function) → IsAlgorithm a → IsAt a k f → slice_get stored k ≡ Some false → calls_updates a stored f.value ≡ true →
      comes_to_updates a.functions stored f.name ≡ true
