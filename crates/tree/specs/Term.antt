-- Expressions as such: what a tree says, without where its parts are stored and where in the text they stand.
use Rattle.std.specs.Prelude.{ℕ, List, [], ◌∷◌, map, ℤ, string_bytes}
use Rattle.numeric.specs.declared.ty.Ty.{Ty}
use Rattle.numeric.specs.declared.op.Op.{Op}
use Rattle.numeric.specs.declared.op.Comparison.{Comparison}
use Rattle.tree.specs.declared.expr.Expr.{Expr, Literal, Variable, Call', Negate', Binary', Clamp', Cast', Select', Row_of-Expr, end_of-Expr, more_of-Expr}
use Rattle.tree.specs.declared.expr.Cond.{Cond, Compare, Not', All', Any'}

mutual
  pub data Term : Type 0 where
    Number : Ty → ℤ → Term
    Name : List ℕ → Term
    Call : List ℕ → Terms → Term
    Minus : Term → Term
    Binary : Op → Term → Term → Term
    Clamp : Term → Term → Term → Term
    Cast : Ty → Term → Term
    Choice : Test → Term → Term → Term

  pub data Terms : Type 0 where
    End : Terms
    More : Term → Terms → Terms

  pub data Test : Type 0 where
    Compares : Comparison → Term → Term → Test
    Fails : Test → Test
    Both : Test → Test → Test
    Either : Test → Test → Test

abbrev mutual
  pub term_of : Expr → Term
  term_of (Literal t n s) = Number t n
  term_of (Variable name s) = Name (string_bytes name)
  term_of (Call' name shape at s) = Call (string_bytes name) (terms_of at)
  term_of (Negate' p a s) = Minus (term_of a)
  term_of (Binary' op p a q b s) = Binary op (term_of a) (term_of b)
  term_of (Clamp' p a q l r h s) = Clamp (term_of a) (term_of l) (term_of h)
  term_of (Cast' t p a s) = Cast t (term_of a)
  term_of (Select' p c q a r b s) = Choice (test_of c) (term_of a) (term_of b)

  pub terms_of : {n : _} → Row_of-Expr n → Terms
  terms_of end_of-Expr = End
  terms_of (more_of-Expr a rest) = More (term_of a) (terms_of rest)

  pub test_of : Cond → Test
  test_of (Compare by a b s) = Compares by (term_of a) (term_of b)
  test_of (Not' p c s) = Fails (test_of c)
  test_of (All' p c q d s) = Both (test_of c) (test_of d)
  test_of (Any' p c q d s) = Either (test_of c) (test_of d)

-- the same of a list
abbrev pub list_terms : List Expr → List Term
list_terms = map term_of

-- a list of terms as the indices of a call
abbrev pub indices : List Term → Terms
indices [] = End
indices (a ∷ rest) = More a (indices rest)
