-- Laws of the value and the type of expressions.
use Rattle.std.specs.Prelude.{◌≡◌, ℕ, List, All, Bool, IsTrue, ◌↔◌, IsSome, Option, Some, ℤ, ◌<ℤ◌, ◌≤◌, length}
use Rattle.std.specs.List.{AllPass}
use Rattle.numeric.specs.declared.ty.Ty.{Ty}
use Rattle.numeric.specs.declared.ty.Ty.TheVariants.{I32}
use Rattle.tree.specs.declared.value.Value.{Value}
use Rattle.tree.specs.Term.{Term, Terms}
use Rattle.tree.specs.Meaning.{value_of, numbers_of, clamped}
use Rattle.tree.specs.Uses.{Asked, asked, variables_of, calls_made, EachCall}
use Rattle.tree.specs.Names.{TakesCall, IsIndex, IsValueOf, AreAsTold}
use Rattle.tree.specs.Typing.{type_of, are_indices, answer_type, index_count, only_if, HasFewIndices}
use Rattle.tree.specs.Substitution.{put_in, substituted, updated, with_calls, all_with_calls}

-- two ways to answer agree on what is asked
abbrev pub AnswersAlike : (List ℕ → List ℤ → Value) → (List ℕ → List ℤ → Value) → Asked → Type 0
AnswersAlike answers others c = answers c.name c.at ≡ others c.name c.at

-- what an expression gives and asks is the same twice
pub record SameUse (variables : List ℕ → ℤ) (answers : List ℕ → List ℤ → Value) (others : List ℕ → ℤ) (otherwise : List ℕ → List ℤ → Value) (a : Term) : Type 0 where
  pub value : value_of variables answers a ≡ value_of others otherwise a
  pub calls : calls_made variables answers a ≡ calls_made others otherwise a

-- the value of an expression, and which calls it makes, depend on answers only through the answers to the calls that it makes
abbrev pub ValueFollowsCalls : Type 0
ValueFollowsCalls =
    (variables : List ℕ → ℤ) (answers others : List ℕ → List ℤ → Value) (a : Term)
    → All (AnswersAlike answers others) (calls_made variables answers a)
    → SameUse variables answers variables others a

-- and on variables only through those that occur in it
abbrev pub ValueFollowsVariables : Type 0
ValueFollowsVariables =
    (variables others : List ℕ → ℤ) (answers : List ℕ → List ℤ → Value) (a : Term)
    → All (λ name. variables name ≡ others name) (variables_of a)
    → SameUse variables answers others answers a

-- the calls that an expression makes are those that stand in it, at the values of their indices: a test
-- passes for each of the first exactly where it passes for each of the second
abbrev pub CallsAreThoseThatStand : Type 0
CallsAreThoseThatStand =
    (test : Asked → Bool) (variables : List ℕ → ℤ) (answers : List ℕ → List ℤ → Value) (a : Term)
    → AllPass test (calls_made variables answers a) ↔ EachCall (λ name at. IsTrue (test (asked name (numbers_of variables answers at)))) a

-- the value of an expression with others put in for variables is its value at their numbers
abbrev pub SubstitutionIsUpdate : Type 0
SubstitutionIsUpdate =
    (variables : List ℕ → ℤ) (answers : List ℕ → List ℤ → Value) (map : List ℕ → Option Term) (a : Term)
    → ((name : List ℕ) (u : Term) → map name ≡ Some u → (value_of variables answers u).ty ≡ I32)
    → value_of variables answers (substituted map a) ≡ value_of (updated variables answers map) answers a

-- a replacement has, by `answers`, the value that the call has by `others` at the same indices
abbrev pub HasTheCallsValue : (List ℕ → ℤ) → (List ℕ → List ℤ → Value) → (List ℕ → List ℤ → Value) → (List ℕ → Terms → Term) → List ℕ → Terms → Type 0
HasTheCallsValue variables answers others replacement name at = value_of variables answers (replacement name at) ≡ others name (numbers_of variables answers at)

-- an expression whose calls are replaced has, by `answers`, the value that it had by `others`, where each
-- replacement has the value that the call had
abbrev pub ReplacedCallsKeepTheValue : Type 0
ReplacedCallsKeepTheValue =
    (variables : List ℕ → ℤ) (answers others : List ℕ → List ℤ → Value) (replacement : List ℕ → Terms → Term) (a : Term)
    → EachCall (λ name at. HasTheCallsValue variables answers others replacement name (all_with_calls replacement at)) a
    → value_of variables answers (with_calls replacement a) ≡ value_of variables others a

-- a value clamped between ends that are crossed is the lower one
abbrev pub CrossedClampIsLow : Type 0
CrossedClampIsLow = (a l h : Value) → h.number <ℤ l.number → (clamped a l h).number ≡ l.number

-- the call names something that can be called, and gives it as many indices as it takes, each an i32
pub record CanBeAsked (functions : List ℕ → Option (Ty × ℕ)) (c : Asked) : Type 0 where
  pub known : TakesCall (functions c.name) (length c.at)
  pub indices : All IsIndex c.at

-- what an expression of a type does: its value is one of the type, and it makes only calls that can be made
pub record DoesAsTyped (functions : List ℕ → Option (Ty × ℕ)) (variables : List ℕ → ℤ) (answers : List ℕ → List ℤ → Value) (t : Ty) (a : Term) : Type 0 where
  pub value : IsValueOf t (value_of variables answers a)
  pub calls : All (CanBeAsked functions) (calls_made variables answers a)

abbrev pub TypesHold : Type 0
TypesHold =
    (known : List ℕ → Bool) (functions : List ℕ → Option (Ty × ℕ)) (variables : List ℕ → ℤ) (answers : List ℕ → List ℤ → Value)
    → AreAsTold known functions variables answers
    → (a : Term) (t : Ty) → type_of known functions a ≡ Some t
    → DoesAsTyped functions variables answers t a

-- in an expression that has a type no call has more than four indices, where nothing takes more
abbrev pub TypedCallsHaveFewIndices : Type 0
TypedCallsHaveFewIndices =
    (known : List ℕ → Bool) (functions : List ℕ → Option (Ty × ℕ))
    → ((name : List ℕ) (count : ℕ) → TakesCall (functions name) count → count ≤ 4)
    → (a : Term) → IsSome (type_of known functions a) → HasFewIndices a

-- an expression keeps its type where what is put in for a variable is an i32 exactly where the variable was known
abbrev pub SubstitutionKeepsTheType : Type 0
SubstitutionKeepsTheType =
    (known before : List ℕ → Bool) (functions : List ℕ → Option (Ty × ℕ)) (map : List ℕ → Option Term)
    → ((name : List ℕ) → type_of known functions (put_in (map name) name) ≡ only_if (before name) (Some I32))
    → (a : Term) → type_of known functions (substituted map a) ≡ type_of before functions a

-- a replacement has, by `functions`, the type that the call has by `before`
abbrev pub HasTheCallsType : (List ℕ → Bool) → (List ℕ → Option (Ty × ℕ)) → (List ℕ → Option (Ty × ℕ)) → (List ℕ → Terms → Term) → List ℕ → Terms → Type 0
HasTheCallsType known functions before replacement name at =
    type_of known functions (replacement name at) ≡ only_if (are_indices known functions at) (answer_type (before name) (index_count at))

-- an expression keeps its type where each call is replaced by an expression that has the call's type
abbrev pub ReplacedCallsKeepTheType : Type 0
ReplacedCallsKeepTheType =
    (known : List ℕ → Bool) (functions before : List ℕ → Option (Ty × ℕ)) (replacement : List ℕ → Terms → Term) (a : Term)
    → EachCall (λ name at. HasTheCallsType known functions before replacement name (all_with_calls replacement at)) a
    → type_of known functions (with_calls replacement a) ≡ type_of known before a
