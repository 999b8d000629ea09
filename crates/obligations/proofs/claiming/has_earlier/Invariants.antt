use Rattle.std.proofs.Common.{◌≡◌, false, take}
use Rattle.std.specs.List.{list_any}
use Rattle.soundness.specs.Obligations.{follows}
use Rattle.soundness.specs.Outline.View.{outline_in}
use Rattle.obligations.proofs.claiming.has_earlier.Given as goal

abbrev pub invariant-loop-before : goal.invariant-loop-before
invariant-loop-before g l = list_any (λ d. follows (outline_in l.judge.outlined.now) (g.B.Bounds.rules l.judge.bounds.now) d l.claim) (take l.before-index l.own) ≡ false
