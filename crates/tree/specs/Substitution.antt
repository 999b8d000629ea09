-- Expressions put in for variables and for calls.
use Rattle.std.specs.Prelude.{ℕ, List, Option, Some, None, ℤ}
use Rattle.tree.specs.declared.value.Value.{Value}
use Rattle.tree.specs.Term.{Term, Number, Name, Call, Minus, Binary, Clamp, Cast, Choice, Terms, End, More, Test, Compares, Fails, Both, Either}
use Rattle.tree.specs.Meaning.{value_of}

-- what stands for a variable: what is put in, or the variable itself
abbrev pub put_in : Option Term → List ℕ → Term
put_in None name = Name name
put_in (Some a) name = a

-- each variable that `map` has an expression for is replaced by it
module _ (map : List ℕ → Option Term) where
  abbrev mutual
    pub substituted : Term → Term
    substituted (Number t n) = Number t n
    substituted (Name name) = put_in (map name) name
    substituted (Call name at) = Call name (all_substituted at)
    substituted (Minus a) = Minus (substituted a)
    substituted (Binary op a b) = Binary op (substituted a) (substituted b)
    substituted (Clamp a l h) = Clamp (substituted a) (substituted l) (substituted h)
    substituted (Cast t a) = Cast t (substituted a)
    substituted (Choice c a b) = Choice (test_substituted c) (substituted a) (substituted b)

    pub test_substituted : Test → Test
    test_substituted (Compares by a b) = Compares by (substituted a) (substituted b)
    test_substituted (Fails c) = Fails (test_substituted c)
    test_substituted (Both c d) = Both (test_substituted c) (test_substituted d)
    test_substituted (Either c d) = Either (test_substituted c) (test_substituted d)

    pub all_substituted : Terms → Terms
    all_substituted End = End
    all_substituted (More a rest) = More (substituted a) (all_substituted rest)

-- a variable's number after it: that of what is put in, or its own
abbrev pub number_put_in : (List ℕ → ℤ) → (List ℕ → List ℤ → Value) → Option Term → List ℕ → ℤ
number_put_in variables answers None name = variables name
number_put_in variables answers (Some a) name = (value_of variables answers a).number

-- the variables, those that `map` has an expression for with its number
abbrev pub updated : (List ℕ → ℤ) → (List ℕ → List ℤ → Value) → (List ℕ → Option Term) → List ℕ → ℤ
updated variables answers map name = number_put_in variables answers (map name) name

-- each call is replaced by what `replacement` gives at its name and its indices, in which calls are replaced before
module _ (replacement : List ℕ → Terms → Term) where
  abbrev mutual
    pub with_calls : Term → Term
    with_calls (Number t n) = Number t n
    with_calls (Name name) = Name name
    with_calls (Call name at) = replacement name (all_with_calls at)
    with_calls (Minus a) = Minus (with_calls a)
    with_calls (Binary op a b) = Binary op (with_calls a) (with_calls b)
    with_calls (Clamp a l h) = Clamp (with_calls a) (with_calls l) (with_calls h)
    with_calls (Cast t a) = Cast t (with_calls a)
    with_calls (Choice c a b) = Choice (test_with_calls c) (with_calls a) (with_calls b)

    pub test_with_calls : Test → Test
    test_with_calls (Compares by a b) = Compares by (with_calls a) (with_calls b)
    test_with_calls (Fails c) = Fails (test_with_calls c)
    test_with_calls (Both c d) = Both (test_with_calls c) (test_with_calls d)
    test_with_calls (Either c d) = Either (test_with_calls c) (test_with_calls d)

    pub all_with_calls : Terms → Terms
    all_with_calls End = End
    all_with_calls (More a rest) = More (with_calls a) (all_with_calls rest)
