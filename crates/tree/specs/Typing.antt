-- The type of an expression, if it has one.
use Rattle.std.specs.Prelude.{ℕ, ◌+◌, ◌==◌, List, Bool, true, false, ◌&&◌, Option, Some, None, is_some, if◌then◌else◌, ℤ, int_le, IsTrue, ◌≤◌, ◌≡◌, ⊤}
use Rattle.numeric.specs.declared.ty.Ty.{Ty}
use Rattle.numeric.specs.declared.ty.Ty.TheVariants.{U8, U16, U32, I8, I16, I32}
use Rattle.numeric.specs.Wrap.{least, greatest, IsOf}
use Rattle.numeric.specs.declared.op.Op.{Op}
use Rattle.numeric.specs.Apply.{result_type}
use Rattle.tree.specs.Uses.{EachCall}
use Rattle.tree.specs.Names.{TakesCall, called_type}
use Rattle.tree.specs.Term.{Term, Number, Name, Call, Minus, Binary, Clamp, Cast, Choice, Terms, End, More, Test, Compares, Fails, Both, Either}

-- whether z is a value of the type
abbrev pub is_of : Ty → ℤ → Bool
is_of t z = int_le (least t) z && int_le z (greatest t)

abbrev pub same_type : Ty → Ty → Bool
same_type U8 U8 = true
same_type U16 U16 = true
same_type U32 U32 = true
same_type I8 I8 = true
same_type I16 I16 = true
same_type I32 I32 = true
same_type _ _ = false

-- the type of both, if they have one
abbrev pub common : Option Ty → Option Ty → Option Ty
common (Some t) (Some u) = if same_type t u then Some t else None
common _ _ = None

abbrev pub only_if : Bool → Option Ty → Option Ty
only_if b o = if b then o else None

-- the type of a cast of an expression to t
abbrev pub cast_type : Ty → Option Ty → Option Ty
cast_type t o = only_if (is_some o) (Some t)

-- the type of an operator's result on operands of one type
abbrev pub operator_type : Op → Option Ty → Option Ty
operator_type op None = None
operator_type op (Some t) = Some (result_type op t)

abbrev pub is_index : Option Ty → Bool
is_index (Some I32) = true
is_index _ = false

-- the type that a function answers with, where it takes this number of indices
abbrev pub answer_type : Option (Ty × ℕ) → ℕ → Option Ty
answer_type None count = None
answer_type (Some f) count = only_if (f.1 == count) (Some f.0)

abbrev pub index_count : Terms → ℕ
index_count End = 0
index_count (More a rest) = 1 + index_count rest

-- `variables` tells the names of variables, `functions` what can be called: its type and its number of indices
module _ (variables : List ℕ → Bool) (functions : List ℕ → Option (Ty × ℕ)) where
  abbrev mutual
    pub type_of : Term → Option Ty
    type_of (Number t n) = only_if (is_of t n) (Some t)
    type_of (Name name) = only_if (variables name) (Some I32)
    type_of (Call name at) = only_if (are_indices at) (answer_type (functions name) (index_count at))
    type_of (Minus a) = type_of a
    type_of (Binary op a b) = operator_type op (common (type_of a) (type_of b))
    type_of (Clamp a l h) = common (type_of a) (common (type_of l) (type_of h))
    type_of (Cast t a) = cast_type t (type_of a)
    type_of (Choice c a b) = only_if (is_typed c) (common (type_of a) (type_of b))

    -- a condition compares expressions of one type
    pub is_typed : Test → Bool
    is_typed (Compares by a b) = is_some (common (type_of a) (type_of b))
    is_typed (Fails c) = is_typed c
    is_typed (Both c d) = is_typed c && is_typed d
    is_typed (Either c d) = is_typed c && is_typed d

    -- each index is an i32
    pub are_indices : Terms → Bool
    are_indices End = true
    are_indices (More a rest) = is_index (type_of a) && are_indices rest

  -- each expression has a type
  abbrev pub are_typed : Terms → Bool
  are_typed End = true
  are_typed (More a rest) = is_some (type_of a) && are_typed rest

-- the type of an expression that has one, by its shape alone
module _ (functions : List ℕ → Option (Ty × ℕ)) where
  abbrev pub shape_type : Term → Ty
  shape_type (Number t n) = t
  shape_type (Name name) = I32
  shape_type (Call name at) = called_type (functions name)
  shape_type (Minus a) = shape_type a
  shape_type (Binary op a b) = result_type op (shape_type a)
  shape_type (Clamp a l h) = shape_type a
  shape_type (Cast t a) = t
  shape_type (Choice c a b) = shape_type a

-- the same facts as `type_of` tests, part by part, and no call has more than four indices
module _ (variables : List ℕ → Bool) (functions : List ℕ → Option (Ty × ℕ)) where
  abbrev mutual
    pub CanEvaluate : Term → Type 0
    CanEvaluate (Number t n) = IsOf t n
    CanEvaluate (Name name) = IsTrue (variables name)
    CanEvaluate (Call name at) = TakesCall (functions name) (index_count at) × (index_count at ≤ 4) × AreEvaluable at
    CanEvaluate (Minus a) = CanEvaluate a
    CanEvaluate (Binary op a b) = CanEvaluate a × CanEvaluate b × (shape_type functions a ≡ shape_type functions b)
    CanEvaluate (Clamp a l h) =
        CanEvaluate a × CanEvaluate l × CanEvaluate h × (shape_type functions a ≡ shape_type functions l) × (shape_type functions a ≡ shape_type functions h)
    CanEvaluate (Cast t a) = CanEvaluate a
    CanEvaluate (Choice c a b) = CanDecide c × CanEvaluate a × CanEvaluate b × (shape_type functions a ≡ shape_type functions b)

    pub CanDecide : Test → Type 0
    CanDecide (Compares by a b) = CanEvaluate a × CanEvaluate b × (shape_type functions a ≡ shape_type functions b)
    CanDecide (Fails c) = CanDecide c
    CanDecide (Both c d) = CanDecide c × CanDecide d
    CanDecide (Either c d) = CanDecide c × CanDecide d

    pub AreEvaluable : Terms → Type 0
    AreEvaluable End = ⊤
    AreEvaluable (More a rest) = CanEvaluate a × (shape_type functions a ≡ I32) × AreEvaluable rest

-- no call has more than four indices
abbrev pub HasFewIndices : Term → Type 0
HasFewIndices = EachCall (λ name at. index_count at ≤ 4)
