use Rattle.commands.specs.Asked.{asked_by}
use Rattle.stencil.proofs.Explained.{ended_then}
use Rattle.stencil.proofs.program.carry_out.Goals as goal

pub returns : goal.returns
returns g c = record {
  outcome = c.command-outcome.result;
  ends = ended_then g.F.Files.contents (asked_by c.args.request.now) _ _ _ c.command-outcome.result c.command-outcome.ensures c.explain.ensures.done c.explain.ensures.same;
  answer = c.answer-status.ensures;
}
