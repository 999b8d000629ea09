-- What stored definitions call, where the lines of groups have no flaw.
use Rattle.soundness.specs.Given.{outline_of}
use Rattle.validation.specs.Groups.Lines.{start}
use Rattle.validation.proofs.Flawless.{group_fine, body_fine}
use Rattle.validation.proofs.Free.{is_free}
use Rattle.audit.specs.Verdict.Clear.{GroupsAreFree}

pub groups_free : GroupsAreFree
groups_free a p c h n g at =
    let f = group_fine a p c h n g at in
    is_free a p (outline_of p c n g) c g g.body (start f.line g) (body_fine a p c n g f)
