use Rattle.commands.proofs.Tiled.{kind_found, kinds_kept}
use Rattle.commands.proofs.tiles_command.kind_of.Goals as goal

pub returns-clause-kind : goal.returns-clause-kind
returns-clause-kind c =
    let stored = c.in-Ok.ensures.stored in
    kind_found _ c.in-Ok.kind c.args.text stored.0 stored.1 stored.2

pub returns-clause-kept : goal.returns-clause-kept
returns-clause-kept c = kinds_kept _ _ c.args.text _ c.in-Ok.ensures.keys
