-- What an expression uses: the variables that occur in it and the calls that it makes.
use Rattle.std.specs.Prelude.{ℕ, List, [], ◌∷◌, ◌++◌, ℤ, ⊤}
use Rattle.tree.specs.declared.value.Value.{Value}
use Rattle.tree.specs.Term.{Term, Number, Name, Call, Minus, Binary, Clamp, Cast, Choice, Terms, End, More, Test, Compares, Fails, Both, Either}
use Rattle.tree.specs.Meaning.{numbers_of}

abbrev mutual
  -- the names of the variables that occur in an expression, in its order, each as often as it stands
  pub variables_of : Term → List (List ℕ)
  variables_of (Number t n) = []
  variables_of (Name name) = name ∷ []
  variables_of (Call name at) = variables_of_all at
  variables_of (Minus a) = variables_of a
  variables_of (Binary op a b) = variables_of a ++ variables_of b
  variables_of (Clamp a l h) = variables_of a ++ variables_of l ++ variables_of h
  variables_of (Cast t a) = variables_of a
  variables_of (Choice c a b) = variables_of_test c ++ variables_of a ++ variables_of b

  pub variables_of_test : Test → List (List ℕ)
  variables_of_test (Compares by a b) = variables_of a ++ variables_of b
  variables_of_test (Fails c) = variables_of_test c
  variables_of_test (Both c d) = variables_of_test c ++ variables_of_test d
  variables_of_test (Either c d) = variables_of_test c ++ variables_of_test d

  pub variables_of_all : Terms → List (List ℕ)
  variables_of_all End = []
  variables_of_all (More a rest) = variables_of a ++ variables_of_all rest

-- a call that is made: of what, at which indices
pub record Asked : Type 0 where
  pub name : List ℕ
  pub at : List ℤ

abbrev pub asked : List ℕ → List ℤ → Asked
asked n zs = record { name = n; at = zs }

-- the calls that an expression makes, in the order of its text: both arms of each choice, its
-- condition, the indices of calls, and each call after the calls in its indices
module _ (variables : List ℕ → ℤ) (answers : List ℕ → List ℤ → Value) where
  abbrev mutual
    pub calls_made : Term → List Asked
    calls_made (Number t n) = []
    calls_made (Name name) = []
    calls_made (Call name at) = calls_made_by_all at ++ asked name (numbers_of variables answers at) ∷ []
    calls_made (Minus a) = calls_made a
    calls_made (Binary op a b) = calls_made a ++ calls_made b
    calls_made (Clamp a l h) = calls_made a ++ calls_made l ++ calls_made h
    calls_made (Cast t a) = calls_made a
    calls_made (Choice c a b) = calls_made_by_test c ++ calls_made a ++ calls_made b

    pub calls_made_by_test : Test → List Asked
    calls_made_by_test (Compares by a b) = calls_made a ++ calls_made b
    calls_made_by_test (Fails c) = calls_made_by_test c
    calls_made_by_test (Both c d) = calls_made_by_test c ++ calls_made_by_test d
    calls_made_by_test (Either c d) = calls_made_by_test c ++ calls_made_by_test d

    pub calls_made_by_all : Terms → List Asked
    calls_made_by_all End = []
    calls_made_by_all (More a rest) = calls_made a ++ calls_made_by_all rest

-- P holds of the name and the indices of each call that stands in the expression
module _ (P : List ℕ → Terms → Type 0) where
  abbrev mutual
    pub EachCall : Term → Type 0
    EachCall (Number t n) = ⊤
    EachCall (Name name) = ⊤
    EachCall (Call name at) = P name at × EachCallOfAll at
    EachCall (Minus a) = EachCall a
    EachCall (Binary op a b) = EachCall a × EachCall b
    EachCall (Clamp a l h) = EachCall a × EachCall l × EachCall h
    EachCall (Cast t a) = EachCall a
    EachCall (Choice c a b) = EachCallOfTest c × EachCall a × EachCall b

    pub EachCallOfTest : Test → Type 0
    EachCallOfTest (Compares by a b) = EachCall a × EachCall b
    EachCallOfTest (Fails c) = EachCallOfTest c
    EachCallOfTest (Both c d) = EachCallOfTest c × EachCallOfTest d
    EachCallOfTest (Either c d) = EachCallOfTest c × EachCallOfTest d

    pub EachCallOfAll : Terms → Type 0
    EachCallOfAll End = ⊤
    EachCallOfAll (More a rest) = EachCall a × EachCallOfAll rest
