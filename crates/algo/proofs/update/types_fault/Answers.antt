use Rattle.std.proofs.Common.{◌≡◌, ℕ, List, All, Some, inl, inr, subst, sym}
use Rattle.numeric.specs.declared.ty.Ty.TheVariants.{I32}
use Rattle.tree.specs.declared.expr.Expr.{Expr}
use Rattle.tree.specs.Term.{list_terms}
use Rattle.tree.specs.Typing.{type_of}
use Rattle.meaning.specs.Names.{is_among}
use Rattle.meaning.specs.Conditions.{callable}
use Rattle.expr.specs.Statements.View.{update_text}
use Rattle.algo.specs.Parts.{names_of, function_of, functions_of}
use Rattle.algo.specs.Context.{only_input}
use Rattle.algo.specs.Keeping.{names_for}
use Rattle.algo.specs.Faults.{BadTypeAt, InOneAt}
use Rattle.algo.proofs.update.types_fault.Goals as goal

pub returns-in-Err-clause-kept : goal.returns-in-Err-clause-kept
returns-in-Err-clause-kept c = λ h.
    let calls = callable (only_input c.args.context.now.input.now) (functions_of c.args.before.now) in
    let names = names_for (function_of c.args.own.now) (update_text c.args.statement.now) in
    let left = subst (λ (es : List Expr). All (λ e. type_of (is_among names) calls e ≡ Some I32) (list_terms es)) (sym c.deref.ensures.value) h.left in
    c.in-Err.ensures.typed (subst (λ (vs : List (List ℕ)). All (λ e. type_of (is_among vs) calls e ≡ Some I32) (list_terms c.deref.result.now)) (sym c.requires) left)

pub returns-in-Err-clause-place : goal.returns-in-Err-clause-place
returns-in-Err-clause-place c =
    let calls = callable (only_input c.args.context.now.input.now) (functions_of c.args.before.now) in
    let at = c.in-Err.span in
    let left = subst (λ (es : List Expr). InOneAt (BadTypeAt (is_among (names_of c.args.variables.now)) calls I32) es at) c.deref.ensures.value c.in-Err.ensures.place in
    inl (subst (λ (vs : List (List ℕ)). InOneAt (BadTypeAt (is_among vs) calls I32) c.args.statement.now.at.items at) c.requires left)

pub returns-in-Err-typed-clause-place : goal.returns-in-Err-typed-clause-place
returns-in-Err-typed-clause-place c =
    let calls = callable (only_input c.args.context.now.input.now) (functions_of c.args.context.now.functions.now) in
    let own = function_of c.args.own.now in
    inr (subst (λ (vs : List (List ℕ)). BadTypeAt (is_among vs) calls own.ty c.args.statement.now.value c.in-Err-typed.span) c.requires c.in-Err-typed.ensures.place)
