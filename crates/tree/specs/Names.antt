-- What a trait of names and values asks and gives.
use Rattle.std.specs.Prelude.{◌≡◌, ℕ, List, ℤ, Bool, IsTrue, Option, Some, None, ⊤, length, All}
use Rattle.numeric.specs.declared.ty.Ty.{Ty}
use Rattle.numeric.specs.declared.ty.Ty.TheVariants.{I32}
use Rattle.numeric.specs.Wrap.{IsOf}
use Rattle.tree.specs.declared.value.Value.{Value}

-- it is a value of the type of indices
abbrev pub IsIndex : ℤ → Type 0
IsIndex z = IsOf I32 z

-- it can be called with this many indices
abbrev pub TakesCall : Option (Ty × ℕ) → ℕ → Type 0
TakesCall None count = ⊥
TakesCall (Some f) count = f.1 ≡ count

-- the answer is a value of its type
abbrev pub AnswersWithin : Option (Ty × ℕ) → ℤ → Type 0
AnswersWithin None z = ⊤
AnswersWithin (Some f) z = IsOf f.0 z

-- the type of what is called
abbrev pub called_type : Option (Ty × ℕ) → Ty
called_type None = I32
called_type (Some f) = f.0

-- the answers of calls, each with its function's type
abbrev pub typed_answers : (List ℕ → Option (Ty × ℕ)) → (List ℕ → List ℤ → ℤ) → List ℕ → List ℤ → Value
typed_answers functions answers name at = record { ty = called_type (functions name); number = answers name at }

-- a value of the type
pub record IsValueOf (t : Ty) (v : Value) : Type 0 where
  pub ty : v.ty ≡ t
  pub within : IsOf t v.number

-- the numbers of `variables` and the values of `answers` are what `known` and `functions` tell of them
pub record AreAsTold (known : List ℕ → Bool) (functions : List ℕ → Option (Ty × ℕ)) (variables : List ℕ → ℤ) (answers : List ℕ → List ℤ → Value) : Type 0 where
  pub variables_within : (name : List ℕ) → IsTrue (known name) → IsIndex (variables name)
  pub answers_within : (name : List ℕ) (at : List ℤ) → TakesCall (functions name) (length at) → All IsIndex at → IsValueOf (called_type (functions name)) (answers name at)
