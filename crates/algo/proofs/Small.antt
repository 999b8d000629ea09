-- The limits of expressions, as the reading of the form has them and as an algorithm keeps them.
use Rattle.std.proofs.Common.{List, [], ◌∷◌, All}
use Rattle.std.specs.List.{AllByRecursion}
use Rattle.std.proofs.lemmas.List.Elements.{All-from_recursion}
use Rattle.tree.specs.Term.{Term}
use Rattle.meaning.specs.Conditions.{IsSmall}
use Rattle.expr.specs.Text.{IsSmall as IsSmallTerm}
use Rattle.expr.specs.Statements.Text.{StatementText, function, update}
use Rattle.expr.specs.Statements.Grammar.{IsSmallStatement}
use Rattle.algo.specs.Saying.{HasSmallExpressions}

small : (e : Term) → IsSmallTerm e → IsSmall e
small e h = record { nodes = h.few; levels = h.shallow }

each : {A : Type 0} (P Q : A → Type 0) → ((x : A) → P x → Q x) → (xs : List A) → AllByRecursion P xs → AllByRecursion Q xs
each P Q f [] h = h
each P Q f (x ∷ xs) h = (f x h.0, each P Q f xs h.1)

statement : (s : StatementText Term) → IsSmallStatement s → HasSmallExpressions s
statement (function s) h = small s.value h
statement (update s) h = (All-from_recursion IsSmall s.at (each IsSmallTerm IsSmall small s.at h.0), small s.value h.1)

pub all_small : (ss : List (StatementText Term)) → AllByRecursion IsSmallStatement ss → All HasSmallExpressions ss
all_small ss h = All-from_recursion HasSmallExpressions ss (each IsSmallStatement HasSmallExpressions statement ss h)
