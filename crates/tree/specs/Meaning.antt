-- The value of an expression.
use Rattle.std.specs.Prelude.{ℕ, List, [], ◌∷◌, Bool, not, ◌&&◌, ◌||◌, if◌then◌else◌, ℤ, neg_ℤ}
use Rattle.std.specs.Int.{int_min, int_max}
use Rattle.numeric.specs.declared.ty.Ty.{Ty}
use Rattle.numeric.specs.declared.ty.Ty.TheVariants.{I32}
use Rattle.numeric.specs.declared.op.Op.{Op}
use Rattle.numeric.specs.Wrap.{wrap}
use Rattle.numeric.specs.Apply.{apply, compare, result_type}
use Rattle.tree.specs.declared.value.Value.{Value}
use Rattle.tree.specs.Term.{Term, Number, Name, Call, Minus, Binary, Clamp, Cast, Choice, Terms, End, More, Test, Compares, Fails, Both, Either}

-- a number with its type
abbrev pub typed : Ty → ℤ → Value
typed t n = record { ty = t; number = n }

abbrev pub negated : Value → Value
negated a = typed a.ty (wrap a.ty (neg_ℤ a.number))

abbrev pub applied : Op → Value → Value → Value
applied op a b = typed (result_type op a.ty) (apply op a.ty a.number b.number)

abbrev pub clamped : Value → Value → Value → Value
clamped a l h = typed a.ty (int_max (int_min a.number h.number) l.number)

-- `variables` gives each variable's number, `answers` what a call answers at its indices
module _ (variables : List ℕ → ℤ) (answers : List ℕ → List ℤ → Value) where
  abbrev mutual
    pub value_of : Term → Value
    value_of (Number t n) = typed t n
    value_of (Name name) = typed I32 (variables name)
    value_of (Call name at) = answers name (numbers_of at)
    value_of (Minus a) = negated (value_of a)
    value_of (Binary op a b) = applied op (value_of a) (value_of b)
    value_of (Clamp a l h) = clamped (value_of a) (value_of l) (value_of h)
    value_of (Cast t a) = typed t (wrap t (value_of a).number)
    value_of (Choice c a b) = if holds c then value_of a else value_of b

    pub holds : Test → Bool
    holds (Compares by a b) = compare by (value_of a).number (value_of b).number
    holds (Fails c) = not (holds c)
    holds (Both c d) = holds c && holds d
    holds (Either c d) = holds c || holds d

    pub numbers_of : Terms → List ℤ
    numbers_of End = []
    numbers_of (More a rest) = (value_of a).number ∷ numbers_of rest
