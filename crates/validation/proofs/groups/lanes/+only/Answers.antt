use Rattle.std.proofs.Common.{◌∙◌}
use Rattle.validation.specs.Groups.Lanes.{only}
use Rattle.validation.proofs.Lanes.{not_one}
use Rattle.validation.proofs.Rows.{at_seq}
use Rattle.validation.proofs.groups.lanes.+only.Goals as goal

pub only-returns-in-Seq : goal.only-returns-in-Seq
only-returns-in-Seq t c = c.only_in.ensures ∙ at_seq only c.in-Seq.all c.deref.result.now c.args.stmt.now c.deref.ensures.value c.in-Seq.is

pub only_in-returns-in-len2-up : goal.only_in-returns-in-len2-up
only_in-returns-in-len2-up t c = not_one c.args.all.now c.in-len2-up.len_at_least
