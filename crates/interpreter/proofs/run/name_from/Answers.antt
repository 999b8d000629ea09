use Rattle.std.proofs.Common.{ap, sym, ◌∙◌, refl, rules, w64, SFits}
use Rattle.std.proofs.lemmas.Int.{to_z-of_z}
use Rattle.plan.specs.declared.stmt.Stmt.{Stmt}
use Rattle.plan.specs.View.{statement_of}
use Rattle.plan.specs.Semantics.Actions.{after}
use Rattle.interpreter.specs.Bindings.{symbols_of}
use Rattle.interpreter.proofs.Bindings.{named_after}
use Rattle.interpreter.proofs.run.name_from.Goals as goal

pub returns-clause-value : goal.returns-clause-value
returns-clause-value c =
    let old = c.args.symbols.now in
    let v = c.named_value-value.result in
    let fits : SFits w64 v = search rules in
    named_after old c.bind.new.self _ c.in-Let.symbol c.in-Let.pick c.in-Let.forms c.bind.ensures refl (to_z-of_z w64 v fits ∙ c.named_value-value.ensures) refl
    ∙ ap (λ (a : Stmt). after (statement_of a) (symbols_of old)) (sym c.in-Let.is)
