use Rattle.std.proofs.Common.{◌≡◌, false, take}
use Rattle.std.specs.List.{list_any}
use Rattle.soundness.specs.Obligations.{span_has, region_of}
use Rattle.soundness.specs.Outline.View.{outline_in}
use Rattle.obligations.proofs.context.symbols.claims_have.Given as goal

abbrev pub invariant-loop-claim : goal.invariant-loop-claim
invariant-loop-claim g l = list_any (λ c. list_any (span_has l.symbol) (region_of (outline_in l.judge.outlined.now) (g.B.Bounds.rules l.judge.bounds.now) c)) (take l.claim-index l.claims) ≡ false
