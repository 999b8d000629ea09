use Rattle.std.proofs.Common.{map}
use Rattle.std.proofs.lemmas.Result.{IfOk-weaker}
use Rattle.sched.specs.Loading.{as_load}
use Rattle.blocks.specs.Loading.{load_of}
use Rattle.blocks.proofs.Loads.{call_loaded}
use Rattle.blocks.proofs.loading.+load.Goals as goal

pub loaded-returns-in_ok-at-in-Call : goal.loaded-returns-in_ok-at-in-Call
loaded-returns-in_ok-at-in-Call t c =
    let put = as_load (map load_of c.args.loads.now) in
    IfOk-weaker c.loaded_call.result _ _ (λ made h. call_loaded put c.args.expr.now made c.in-Call.name c.in-Call.at c.in-Call.span c.deref.result.now c.in_ok-at-in-Call.at.items c.as_str.result.now
    c.in-Call.is c.deref.ensures.value c.as_str.ensures.value c.in_ok-at-in-Call.ensures h) c.loaded_call.ensures
