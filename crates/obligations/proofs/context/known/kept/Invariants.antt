use Rattle.std.proofs.Common.{◌≡◌, take}
use Rattle.std.specs.Prelude.{not, filter}
use Rattle.soundness.specs.Obligations.{is_member}
use Rattle.soundness.specs.Outline.View.{outline_in}
use Rattle.obligations.proofs.context.known.kept.Given as goal

abbrev pub invariant-loop-claim : goal.invariant-loop-claim
invariant-loop-claim g l = l.left.items ≡ filter (λ c. not (is_member ((outline_in l.judge.outlined.now).claim c).buffer l.changed)) (take l.claim-index l.claims)
