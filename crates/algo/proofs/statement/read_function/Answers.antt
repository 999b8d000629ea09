use Rattle.std.proofs.Common.{◌≡◌, ◌∙◌, ℕ, List, Some, map, subst, ap}
use Rattle.tree.specs.Typing.{type_of}
use Rattle.meaning.specs.Names.{is_among}
use Rattle.meaning.specs.Conditions.{callable}
use Rattle.expr.specs.Statements.View.{function_text, named_text}
use Rattle.algo.specs.Parts.{names_of, functions_of}
use Rattle.algo.specs.Context.{only_input}
use Rattle.algo.proofs.Kept.{function_keeps}
use Rattle.algo.proofs.statement.read_function.Goals as goal

pub returns-clause-kept : goal.returns-clause-kept
returns-clause-kept c =
    let a = only_input c.args.context.now.input.now in
    let before = functions_of c.args.context.now.functions.now in
    let s = function_text c.args.statement.now in
    let e = c.in_ok-check_function.ensures.kept in
    let n : names_of c.deref-2.result.now ≡ s.variables = ap names_of c.deref-2.ensures.value ∙ c.in_ok-variables.ensures.names ∙ ap (map named_text) c.deref.ensures.value in
    function_keeps a (names_of c.args.context.now.declared.now) before s e.0 e.1 e.2
    (subst (λ (vs : List (List ℕ)). type_of (is_among vs) (callable a before) s.value ≡ Some s.ty) n e.3) e.4
