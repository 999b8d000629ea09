use Rattle.std.proofs.Common.{◌∙◌}
use Rattle.audit.specs.Verdict.Left.{leaves}
use Rattle.audit.proofs.Blocks.{at_seq}
use Rattle.audit.proofs.leaving.+leaving.Goals as goal

pub leaves-returns-in-Seq : goal.leaves-returns-in-Seq
leaves-returns-in-Seq t c =
    c.leaves_all.ensures ∙ at_seq (leaves c.args.target.now.buffer c.args.target.now.coordinates) c.in-Seq.all c.deref.result.now c.args.stmt.now c.deref.ensures.value c.in-Seq.is
