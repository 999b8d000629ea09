use Rattle.std.proofs.Common.{◌≡◌, ◌∙◌, ◌++◌, ◌∷◌, [], List, subst, sym, ap}
use Rattle.std.specs.declared.string.String.{String}
use Rattle.std.specs.Global.{Global}
use Rattle.std.proofs.lemmas.List.{map-append}
use Rattle.meaning.specs.Conditions.{IsSmall}
use Rattle.expr.specs.declared.statements.statement.Statement.{Statement}
use Rattle.expr.specs.Statements.View.{statement_text, function_text}
use Rattle.algo.specs.declared.error.Code.{Code}
use Rattle.algo.specs.declared.error.Code.TheVariants.{Name, Limit}
use Rattle.algo.specs.declared.function.Function.{Function}
use Rattle.algo.specs.Parts.{names_of, functions_of, function_of}
use Rattle.algo.specs.Context.{only_input, AreFunctions}
use Rattle.algo.specs.Saying.{function_said, HasSmallExpressions}
use Rattle.algo.specs.Keeping.{KeepsFunction}
use Rattle.algo.proofs.Kept.{functions_pushed, function_kept}
use Rattle.algo.proofs.statement.read_statement.Goals as goal

pub returns-in_ok-push-in-Function-clause-functions : goal.returns-in_ok-push-in-Function-clause-functions
returns-in_ok-push-in-Function-clause-functions c =
    let s = function_text c.in-Function.statement in
    let a = only_input c.args.input.now in
    let declared = names_of c.args.declared.now in
    let fs = functions_of c.args.functions.now.items in
    let keeps : (code : Code) → KeepsFunction a declared fs code s =
    subst (λ (l : List (String Global × Function)). (code : Code) → KeepsFunction a declared (functions_of l) code s) c.as_slice.ensures.value c.in_ok-entry-in-Function.ensures.kept in
    let small : IsSmall s.value = subst (λ (st : Statement). HasSmallExpressions (statement_text st)) c.in-Function.is c.requires.small in
    let e : functions_of c.push.new.self.items ≡ fs ++ function_said s ∷ [] =
    ap functions_of c.in_ok-push-in-Function.ensures.items ∙ map-append function_of c.args.functions.now.items (c.in_ok-entry-in-Function.entry ∷ []) ∙ ap (λ f. fs ++ f ∷ []) c.in_ok-entry-in-Function.ensures.said in
    subst (AreFunctions a) (sym e) (functions_pushed a fs (function_said s) c.requires.functions (keeps Limit).room (keeps Name).new (function_kept a declared fs s keeps small))
