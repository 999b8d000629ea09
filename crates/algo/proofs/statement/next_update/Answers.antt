use Rattle.std.proofs.Common.{◌≡◌, ℕ, ◌∙◌, ◌++◌, ◌∷◌, [], List, subst, sym, ap}
use Rattle.std.proofs.lemmas.List.{map-append}
use Rattle.meaning.specs.Algorithm as said
use Rattle.expr.specs.Statements.View.{update_text, named_text}
use Rattle.algo.specs.declared.error.Code.{Code}
use Rattle.algo.specs.declared.error.Code.TheVariants.{Name}
use Rattle.algo.specs.Parts.{names_of, functions_of, function_of}
use Rattle.algo.specs.Context.{only_input, AreFunctions}
use Rattle.algo.specs.Saying.{change_said, with_update, IsLast}
use Rattle.algo.specs.Keeping.{KeepsUpdate, KeepsUpdateOver}
use Rattle.algo.proofs.Kept.{update_kept, functions_updated, last_is, with_update-last}
use Rattle.algo.proofs.statement.next_update.Goals as goal

is_last : (before : List said.Function) (f : said.Function) (name : List ℕ) → f.name ≡ name → IsLast (before ++ f ∷ []) name
is_last [] f name e = e
is_last (g ∷ []) f name e = e
is_last (g ∷ h ∷ fs) f name e = is_last (h ∷ fs) f name e

pub read_update-requires : goal.read_update-requires
read_update-requires c =
    let a = only_input c.args.context.now.input.now in
    let before = functions_of c.in-Some.before.now in
    let f = function_of c.in-Some.own.now in
    let whole : functions_of c.args.context.now.functions.now ≡ before ++ f ∷ [] = ap functions_of c.in-Some.ensures.cases.0 ∙ map-append function_of c.in-Some.before.now (c.in-Some.own.now ∷ []) in
    (last_is a before f (subst (AreFunctions a) whole c.requires.functions)).names

pub returns-in-Ok-clause-functions : goal.returns-in-Ok-clause-functions
returns-in-Ok-clause-functions c =
    let a = only_input c.args.context.now.input.now in
    let declared = names_of c.args.context.now.declared.now in
    let before = functions_of c.in-Some.before.now in
    let f = function_of c.in-Some.own.now in
    let s = update_text c.args.statement.now in
    let whole : functions_of c.args.context.now.functions.now ≡ before ++ f ∷ [] = ap functions_of c.in-Some.ensures.cases.0 ∙ map-append function_of c.in-Some.before.now (c.in-Some.own.now ∷ []) in
    let old : AreFunctions a (before ++ f ∷ []) = subst (AreFunctions a) whole c.requires.functions in
    let keeps : (code : Code) → KeepsUpdate a declared before f code s = subst (λ (fs : List said.Function). (code : Code) → KeepsUpdateOver a declared before f fs code s) whole c.in-Ok.ensures.kept in
    let path = ap (λ fs. with_update fs (change_said s)) whole ∙ with_update-last before f (change_said s) in
    subst (AreFunctions a) (sym path) (functions_updated a before f (change_said s) old (update_kept a declared before f s keeps c.requires.small.0 c.requires.small.1 (last_is a before f old)))

pub returns-in-Ok-clause-follows : goal.returns-in-Ok-clause-follows
returns-in-Ok-clause-follows c =
    let before = functions_of c.in-Some.before.now in
    let f = function_of c.in-Some.own.now in
    let whole : functions_of c.args.context.now.functions.now ≡ before ++ f ∷ [] = ap functions_of c.in-Some.ensures.cases.0 ∙ map-append function_of c.in-Some.before.now (c.in-Some.own.now ∷ []) in
    subst (λ (fs : List said.Function). IsLast fs (named_text c.args.statement.now.name)) (sym whole) (is_last before f (named_text c.args.statement.now.name) (c.in-Ok.ensures.kept Name).named)
