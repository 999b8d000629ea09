use Rattle.std.proofs.Common.{sym, ◌∙◌, ◌^◌, pos, subst}
use Rattle.lin.specs.Forms.{IsWithin}
use Rattle.shares.proofs.Values.{grid_value_some, grid_value_none, value_small, number_is}
use Rattle.shares.proofs.forms.grid_value.Goals as goal

pub returns-in-Some-clause-value : goal.returns-in-Some-clause-value
returns-in-Some-clause-value c =
    let e = grid_value_some c.args.at.now c.args.symbol c.in-Some.number (sym c.in-Some.ensures) in
    let small : IsWithin (2 ^ 20) (pos c.in-Some.number) = subst (IsWithin (2 ^ 20)) e (value_small c.args.at.now c.args.symbol c.requires) in
    number_is c.in-Some.number small ∙ sym e

pub returns-in-None-clause-value : goal.returns-in-None-clause-value
returns-in-None-clause-value c = sym (grid_value_none c.args.at.now c.args.symbol (sym c.in-None.ensures))
