use Rattle.std.proofs.Common.{◌≡◌, ap, sym, ◌∙◌, Some, None, reverse}
use Rattle.std.specs.Option.{option_copied}
use Rattle.subst.specs.Table.{found}
use Rattle.subst.proofs.Tables.{some_body, no_body}
use Rattle.subst.proofs.updates.comes_to_updates.Goals as goal

pub returns-in-Some : goal.returns-in-Some
returns-in-Some c =
    let is : found c.args.bodies.now c.args.name.now ≡ Some c.in-Some.body.now = sym c.body_of_name.ensures ∙ ap option_copied c.in-Some.is in
    sym (some_body (reverse c.args.bodies.now) c.args.name.now c.in-Some.body.now c.requires is).updates

pub returns-in-None : goal.returns-in-None
returns-in-None c =
    let is : found c.args.bodies.now c.args.name.now ≡ None = sym c.body_of_name.ensures ∙ ap option_copied c.in-None.is in
    sym (no_body (reverse c.args.bodies.now) c.args.name.now is).updates
