use Rattle.audit.proofs.Blocks.{found_seq}
use Rattle.audit.proofs.leaving.+finding.Goals as goal

pub store_in-returns-in-Seq : goal.store_in-returns-in-Seq
store_in-returns-in-Seq t c =
    found_seq c.args.line c.args.begun c.in-Seq.all c.deref.result.now c.args.stmt.now c.deref.ensures.value c.in-Seq.is c.store_among.result c.store_among.ensures
