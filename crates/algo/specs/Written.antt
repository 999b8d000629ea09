-- Which expressions an algorithm has: those that a text can say.
use Rattle.std.specs.Prelude.{ℕ, List, All, ℤ, pos, ◌≤ℤ◌}
use Rattle.numeric.specs.declared.ty.Ty.{Ty}
use Rattle.numeric.specs.Wrap.{greatest}
use Rattle.tree.specs.Term.{Term, Number, Name, Call, Minus, Binary, Clamp, Cast, Choice, Terms, End, More, Test, Compares, Fails, Both, Either}
use Rattle.meaning.specs.Algorithm.{Change, Function, Algorithm}
use Rattle.algo.specs.Words.{IsName}

-- a number from 0 on that is in its type
pub record IsLiteral (t : Ty) (n : ℤ) : Type 0 where
  pub from : pos 0 ≤ℤ n
  pub to : n ≤ℤ greatest t

-- each literal is one, each variable is a name, and each call is by one of these names and has an index
module _ (IsCalled : List ℕ → Type 0) where
  abbrev mutual
    pub IsWrittenBy : Term → Type 0
    IsWrittenBy (Number t n) = IsLiteral t n
    IsWrittenBy (Name x) = IsName x
    IsWrittenBy (Call x at) = IsCalled x × AreIndicesWrittenBy at
    IsWrittenBy (Minus a) = IsWrittenBy a
    IsWrittenBy (Binary op a b) = IsWrittenBy a × IsWrittenBy b
    IsWrittenBy (Clamp a l h) = IsWrittenBy a × IsWrittenBy l × IsWrittenBy h
    IsWrittenBy (Cast t a) = IsWrittenBy a
    IsWrittenBy (Choice c a b) = IsTestWrittenBy c × IsWrittenBy a × IsWrittenBy b

    pub IsTestWrittenBy : Test → Type 0
    IsTestWrittenBy (Compares by a b) = IsWrittenBy a × IsWrittenBy b
    IsTestWrittenBy (Fails c) = IsTestWrittenBy c
    IsTestWrittenBy (Both c d) = IsTestWrittenBy c × IsTestWrittenBy d
    IsTestWrittenBy (Either c d) = IsTestWrittenBy c × IsTestWrittenBy d

    pub AreIndicesWrittenBy : Terms → Type 0
    AreIndicesWrittenBy End = ⊥
    AreIndicesWrittenBy (More a rest) = IsWrittenBy a × AreWrittenBy rest

    pub AreWrittenBy : Terms → Type 0
    AreWrittenBy End = Unit {0}
    AreWrittenBy (More a rest) = IsWrittenBy a × AreWrittenBy rest

-- a text says the expression, in which what is called has a name
abbrev pub IsWritten : Term → Type 0
IsWritten = IsWrittenBy IsName

-- both sides of an update
pub record IsChangeWritten (u : Change) : Type 0 where
  pub left : All IsWritten u.at
  pub right : IsWritten u.value

-- all definitions of a function
pub record IsFunctionWritten (f : Function) : Type 0 where
  pub pure : IsWritten f.value
  pub changes : All IsChangeWritten f.changes

-- all expressions of an algorithm
abbrev pub AreExpressionsWritten : Algorithm → Type 0
AreExpressionsWritten a = All IsFunctionWritten a.functions
