-- The variables and the calls of an expression, each at its place in the text.
use Rattle.std.specs.Prelude.{◌≡◌, ℕ, ◌+◌, min, List, [], ◌∷◌, ◌++◌, length, Bool, false, not, Option, Contains, string_bytes, find}
use Rattle.std.specs.Option.{option_map}
use Rattle.tree.specs.declared.token.span.Span.{Span}
use Rattle.tree.specs.declared.expr.Expr.{Expr, Literal, Variable, Call', Negate', Binary', Clamp', Cast', Select', Row_of-Expr, end_of-Expr, more_of-Expr}
use Rattle.tree.specs.declared.expr.Cond.{Cond, Compare, Not', All', Any'}
use Rattle.tree.specs.Term.{Term, Number, Name, Call, Minus, Binary, Clamp, Cast, Choice, Terms, End, More, Test, Compares, Fails, Both, Either, terms_of}
use Rattle.algo.specs.declared.scoping.calls.CallPlace.{CallPlace}

-- a call as it is written: of what, at which indices
pub record Written : Type 0 where
  pub name : List ℕ
  pub at : Terms

abbrev pub written : List ℕ → Terms → Written
written n as' = record { name = n; at = as' }

abbrev mutual
  -- the variables that occur in an expression, in its order, each with its place
  pub placed_variables : Expr → List (List ℕ × Span)
  placed_variables (Literal t n s) = []
  placed_variables (Variable name s) = (string_bytes name, s) ∷ []
  placed_variables (Call' name shape at s) = placed_variables_of_all at
  placed_variables (Negate' p a s) = placed_variables a
  placed_variables (Binary' op p a q b s) = placed_variables a ++ placed_variables b
  placed_variables (Clamp' p a q l r h s) = placed_variables a ++ placed_variables l ++ placed_variables h
  placed_variables (Cast' t p a s) = placed_variables a
  placed_variables (Select' p c q a r b s) = placed_variables_of_test c ++ placed_variables a ++ placed_variables b

  pub placed_variables_of_all : {n : _} → Row_of-Expr n → List (List ℕ × Span)
  placed_variables_of_all end_of-Expr = []
  placed_variables_of_all (more_of-Expr a rest) = placed_variables a ++ placed_variables_of_all rest

  pub placed_variables_of_test : Cond → List (List ℕ × Span)
  placed_variables_of_test (Compare by a b s) = placed_variables a ++ placed_variables b
  placed_variables_of_test (Not' p c s) = placed_variables_of_test c
  placed_variables_of_test (All' p c q d s) = placed_variables_of_test c ++ placed_variables_of_test d
  placed_variables_of_test (Any' p c q d s) = placed_variables_of_test c ++ placed_variables_of_test d

-- the same of a list
abbrev pub list_variables : List Expr → List (List ℕ × Span)
list_variables [] = []
list_variables (a ∷ rest) = placed_variables a ++ list_variables rest

abbrev mutual
  -- the calls that stand in an expression, in the order of its text, each with its place: a call before the calls in its indices
  pub placed_calls : Expr → List (Written × Span)
  placed_calls (Literal t n s) = []
  placed_calls (Variable name s) = []
  placed_calls (Call' name shape at s) = (written (string_bytes name) (terms_of at), s) ∷ placed_calls_of_all at
  placed_calls (Negate' p a s) = placed_calls a
  placed_calls (Binary' op p a q b s) = placed_calls a ++ placed_calls b
  placed_calls (Clamp' p a q l r h s) = placed_calls a ++ placed_calls l ++ placed_calls h
  placed_calls (Cast' t p a s) = placed_calls a
  placed_calls (Select' p c q a r b s) = placed_calls_of_test c ++ placed_calls a ++ placed_calls b

  pub placed_calls_of_all : {n : _} → Row_of-Expr n → List (Written × Span)
  placed_calls_of_all end_of-Expr = []
  placed_calls_of_all (more_of-Expr a rest) = placed_calls a ++ placed_calls_of_all rest

  pub placed_calls_of_test : Cond → List (Written × Span)
  placed_calls_of_test (Compare by a b s) = placed_calls a ++ placed_calls b
  placed_calls_of_test (Not' p c s) = placed_calls_of_test c
  placed_calls_of_test (All' p c q d s) = placed_calls_of_test c ++ placed_calls_of_test d
  placed_calls_of_test (Any' p c q d s) = placed_calls_of_test c ++ placed_calls_of_test d

-- the same of a list
abbrev pub list_calls : List Expr → List (Written × Span)
list_calls [] = []
list_calls (a ∷ rest) = placed_calls a ++ list_calls rest

abbrev mutual
  -- the calls that stand in an expression, without their places
  pub calls_of : Term → List Written
  calls_of (Number t n) = []
  calls_of (Name name) = []
  calls_of (Call name at) = written name at ∷ calls_of_all at
  calls_of (Minus a) = calls_of a
  calls_of (Binary op a b) = calls_of a ++ calls_of b
  calls_of (Clamp a l h) = calls_of a ++ calls_of l ++ calls_of h
  calls_of (Cast t a) = calls_of a
  calls_of (Choice c a b) = calls_of_test c ++ calls_of a ++ calls_of b

  pub calls_of_test : Test → List Written
  calls_of_test (Compares by a b) = calls_of a ++ calls_of b
  calls_of_test (Fails c) = calls_of_test c
  calls_of_test (Both c d) = calls_of_test c ++ calls_of_test d
  calls_of_test (Either c d) = calls_of_test c ++ calls_of_test d

  pub calls_of_all : Terms → List Written
  calls_of_all End = []
  calls_of_all (More a rest) = calls_of a ++ calls_of_all rest

-- the first of what stands at places that a test refuses
abbrev pub first_refused : {X : Type 0} → (X → Bool) → List (X × Span) → Option (X × Span)
first_refused accepted xs = find (λ p. not (accepted p.0)) xs

-- the place of the first variable that a test refuses
abbrev pub refused_variable : (List ℕ → Bool) → Expr → Option Span
refused_variable accepted e = option_map (λ p. p.1) (first_refused accepted (placed_variables e))

-- whether a test of names and indices accepts a call
abbrev pub accepts : (List ℕ → Terms → Bool) → Written → Bool
accepts accepted c = accepted c.name c.at

-- the first bytes of a place, as many as a name has, and no more than the place has
abbrev pub name_place : List ℕ → Span → Span
name_place name s = record { start = s.start; end = min (s.start + length name) s.end }

-- the place of a call, and of its name
abbrev pub call_place : Written × Span → CallPlace
call_place c = record { call = c.1; name = name_place c.0.name c.1 }

-- the place of the first call that a test refuses
abbrev pub refused_call : (List ℕ → Terms → Bool) → Expr → Option CallPlace
refused_call accepted e = option_map call_place (first_refused (accepts accepted) (placed_calls e))

-- a variable that the test refuses stands at this place of the expression
pub record RefusedVariableAt (accepted : List ℕ → Bool) (e : Expr) (s : Span) : Type 0 where
  pub name : List ℕ
  pub stands : Contains (placed_variables e) (name, s)
  pub refused : accepted name ≡ false

-- a call that the test refuses stands at this place of the expression
pub record RefusedCallAt (accepted : List ℕ → Terms → Bool) (e : Expr) (p : CallPlace) : Type 0 where
  pub name : List ℕ
  pub at : Terms
  pub stands : Contains (placed_calls e) (written name at, p.call)
  pub named : p.name ≡ name_place name p.call
  pub refused : accepted name at ≡ false
