use Rattle.std.proofs.Common.{inr}
use Rattle.std.proofs.lemmas.Result.{IfErr-weaker}
use Rattle.commands.proofs.Kept.{done_then, on_ok}
use Rattle.stencil.proofs.program.increment.Goals as goal

pub returns-clause-refused : goal.returns-clause-refused
returns-clause-refused g c =
    IfErr-weaker c.flush.result _ _ (λ fault h. inr (h, done_then _ _ _ _ _ _ _ c.in_ok-run_over.ensures.done c.flush.ensures.bytes)) c.flush.ensures.device

pub returns-clause-done : goal.returns-clause-done
returns-clause-done g c = on_ok _ c.flush.result (done_then _ _ _ _ _ _ _ c.in_ok-run_over.ensures.done c.flush.ensures.bytes)
