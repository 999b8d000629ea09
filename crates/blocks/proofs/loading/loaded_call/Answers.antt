use Rattle.std.proofs.Common.{map, refl}
use Rattle.tree.specs.declared.expr.Cond.TheViews.{Call}
use Rattle.blocks.specs.Loading.{load_of}
use Rattle.sched.specs.Loading.{loaded_name}
use Rattle.blocks.proofs.Loads.{call_made}
use Rattle.blocks.proofs.loading.loaded_call.Goals as goal

pub returns : goal.returns
returns c =
    let name = c.in_ok-loaded_name.field-0 in
    call_made (Call name c.args.at c.args.span) name c.args.at c.args.span (loaded_name (map load_of c.args.loads.now) c.args.name.now) refl c.in_ok-loaded_name.ensures
