-- Laws of what stands in expressions.
use Rattle.std.specs.Prelude.{◌≡◌, ℕ, List, map, Bool, IsTrue, Option, Some, ◌↔◌}
use Rattle.std.specs.List.{AllPass}
use Rattle.numeric.specs.declared.ty.Ty.{Ty}
use Rattle.tree.specs.declared.expr.Expr.{Expr}
use Rattle.tree.specs.Term.{Term, Terms, term_of}
use Rattle.tree.specs.Typing.{type_of}
use Rattle.tree.specs.Uses.{variables_of, EachCall}
use Rattle.meaning.specs.Algorithm.{Range}
use Rattle.meaning.specs.Conditions.{IsExpression, IsSmall}
use Rattle.meaning.specs.Names.{is_among}
use Rattle.meaning.specs.Reduction.{size}
use Rattle.algo.specs.Scoping.Standing.{placed_variables, placed_calls, calls_of, accepts}
use Rattle.algo.specs.Scoping.Ranges.{ends, unnamed}

-- without their places the variables at places are those that occur in the expression
abbrev pub PlacesAreOfVariables : Type 0
PlacesAreOfVariables = (e : Expr) → map (λ p. p.0) (placed_variables e) ≡ variables_of (term_of e)

-- without their places the calls at places are those that stand in the expression
abbrev pub PlacesAreOfCalls : Type 0
PlacesAreOfCalls = (e : Expr) → map (λ p. p.0) (placed_calls e) ≡ calls_of (term_of e)

-- a test passes for each call that stands in an expression exactly where it passes for each of the list
abbrev pub EachCallIsListed : Type 0
EachCallIsListed = (test : List ℕ → Terms → Bool) (a : Term) → AllPass (accepts test) (calls_of a) ↔ EachCall (λ name at. IsTrue (test name at)) a

-- an expression that has a type, over these variables and over what can be called, and that is small keeps all conditions on expressions
abbrev pub TypedIsExpression : Type 0
TypedIsExpression =
    (variables : List (List ℕ)) (calls : List ℕ → Option (Ty × ℕ)) (t : Ty) (e : Term)
    → type_of (is_among variables) calls e ≡ Some t → IsSmall e → IsExpression variables calls t e

-- the number of points needs no names
abbrev pub SizeNeedsNoNames : Type 0
SizeNeedsNoNames = (ds : List Range) → size (map unnamed (map ends ds)) ≡ size ds
