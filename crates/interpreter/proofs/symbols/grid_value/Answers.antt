use Rattle.std.proofs.Common.{sym, ◌∙◌, rules, w64, SFits}
use Rattle.std.proofs.lemmas.Int.{to_z-of_z}
use Rattle.interpreter.proofs.Bindings.{grid_value_some, grid_value_none}
use Rattle.interpreter.proofs.symbols.grid_value.Goals as goal

pub returns-in-Some : goal.returns-in-Some
returns-in-Some c =
    let fits : SFits w64 c.from.result = search rules in
    to_z-of_z w64 c.from.result fits ∙ c.from.ensures ∙ sym (grid_value_some c.args.at.now c.args.symbol c.in-Some.number (sym c.in-Some.ensures))

pub returns-in-None : goal.returns-in-None
returns-in-None c = sym (grid_value_none c.args.at.now c.args.symbol (sym c.in-None.ensures))
