-- Where in the text the parts of an expression stand, and where its types do not fit.
use Rattle.std.specs.Prelude.{ℕ, List, [], ◌∷◌, ◌++◌, Bool, true, ◌&&◌, Option, None, is_some, string_bytes}
use Rattle.numeric.specs.declared.ty.Ty.{Ty}
use Rattle.tree.specs.declared.token.span.Span.{Span}
use Rattle.tree.specs.declared.expr.Expr.{Expr, Literal, Variable, Call', Negate', Binary', Clamp', Cast', Select', Row_of-Expr, end_of-Expr, more_of-Expr}
use Rattle.tree.specs.declared.expr.Cond.{Cond, Compare, Not', All', Any'}
use Rattle.tree.specs.Term.{term_of, terms_of, test_of, Number, Name, Call, Minus, Binary, Clamp, Cast, Choice}
use Rattle.tree.specs.Typing.{type_of, is_typed, are_typed, common}

-- the place of an expression
abbrev pub span_of : Expr → Span
span_of (Literal t n s) = s
span_of (Variable name s) = s
span_of (Call' name shape at s) = s
span_of (Negate' p a s) = s
span_of (Binary' op p a q b s) = s
span_of (Clamp' p a q l r h s) = s
span_of (Cast' t p a s) = s
span_of (Select' p c q a r b s) = s

-- the place of a condition
abbrev pub test_span : Cond → Span
test_span (Compare by a b s) = s
test_span (Not' p c s) = s
test_span (All' p c q d s) = s
test_span (Any' p c q d s) = s

abbrev mutual
  -- the places of all nodes, each before those of its parts
  pub spans_of : Expr → List Span
  spans_of (Literal t n s) = s ∷ []
  spans_of (Variable name s) = s ∷ []
  spans_of (Call' name shape at s) = s ∷ spans_of_all at
  spans_of (Negate' p a s) = s ∷ spans_of a
  spans_of (Binary' op p a q b s) = s ∷ (spans_of a ++ spans_of b)
  spans_of (Clamp' p a q l r h s) = s ∷ (spans_of a ++ spans_of l ++ spans_of h)
  spans_of (Cast' t p a s) = s ∷ spans_of a
  spans_of (Select' p c q a r b s) = s ∷ (spans_of_test c ++ spans_of a ++ spans_of b)

  pub spans_of_all : {n : _} → Row_of-Expr n → List Span
  spans_of_all end_of-Expr = []
  spans_of_all (more_of-Expr a rest) = spans_of a ++ spans_of_all rest

  pub spans_of_test : Cond → List Span
  spans_of_test (Compare by a b s) = s ∷ (spans_of a ++ spans_of b)
  spans_of_test (Not' p c s) = s ∷ spans_of_test c
  spans_of_test (All' p c q d s) = s ∷ (spans_of_test c ++ spans_of_test d)
  spans_of_test (Any' p c q d s) = s ∷ (spans_of_test c ++ spans_of_test d)

-- the places of the nodes of several expressions
abbrev pub list_spans : List Expr → List Span
list_spans [] = []
list_spans (a ∷ rest) = spans_of a ++ list_spans rest

-- the place of a node whose parts have types and which has none, and nothing for any other node
abbrev pub misfit : Bool → Option Ty → Span → List Span
misfit true None s = s ∷ []
misfit _ _ s = []

-- `variables` tells the names of variables, `functions` what can be called: its type and its number of indices
module _ (variables : List ℕ → Bool) (functions : List ℕ → Option (Ty × ℕ)) where
  abbrev has_type : Expr → Bool
  has_type a = is_some (type_of variables functions (term_of a))

  abbrev mutual
    -- the places of all nodes whose parts have types and which have none themselves, in the order of the text
    pub misfits : Expr → List Span
    misfits (Literal t n s) = misfit true (type_of variables functions (Number t n)) s
    misfits (Variable name s) = misfit true (type_of variables functions (Name (string_bytes name))) s
    misfits (Call' name shape at s) = misfits_of_all at ++ misfit (are_typed variables functions (terms_of at)) (type_of variables functions (Call (string_bytes name) (terms_of at))) s
    misfits (Negate' p a s) = misfits a ++ misfit (has_type a) (type_of variables functions (Minus (term_of a))) s
    misfits (Binary' op p a q b s) =
        misfits a ++ misfits b ++ misfit (has_type a && has_type b) (type_of variables functions (Binary op (term_of a) (term_of b))) s
    misfits (Clamp' p a q l r h s) =
        misfits a ++ misfits l ++ misfits h
        ++ misfit (has_type a && has_type l && has_type h) (type_of variables functions (Clamp (term_of a) (term_of l) (term_of h))) s
    misfits (Cast' t p a s) = misfits a ++ misfit (has_type a) (type_of variables functions (Cast t (term_of a))) s
    misfits (Select' p c q a r b s) =
        misfits_of_test c ++ misfits a ++ misfits b
        ++ misfit (is_typed variables functions (test_of c) && has_type a && has_type b) (type_of variables functions (Choice (test_of c) (term_of a) (term_of b))) s

    pub misfits_of_all : {n : _} → Row_of-Expr n → List Span
    misfits_of_all end_of-Expr = []
    misfits_of_all (more_of-Expr a rest) = misfits a ++ misfits_of_all rest

    -- of a condition, whose comparisons are misfits where they compare two types
    pub misfits_of_test : Cond → List Span
    misfits_of_test (Compare by a b s) =
        misfits a ++ misfits b ++ misfit (has_type a && has_type b) (common (type_of variables functions (term_of a)) (type_of variables functions (term_of b))) s
    misfits_of_test (Not' p c s) = misfits_of_test c
    misfits_of_test (All' p c q d s) = misfits_of_test c ++ misfits_of_test d
    misfits_of_test (Any' p c q d s) = misfits_of_test c ++ misfits_of_test d

  -- the same of a list
  abbrev pub list_misfits : List Expr → List Span
  list_misfits [] = []
  list_misfits (a ∷ rest) = misfits a ++ list_misfits rest
