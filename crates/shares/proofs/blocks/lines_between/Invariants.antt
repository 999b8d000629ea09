use Rattle.std.proofs.Common.{map, take, Bor}
use Rattle.plan.specs.declared.certificate.cert.Need.{Need}
use Rattle.shares.specs.Blocks.{AreThoseBetween, LinesAreLimited}
use Rattle.shares.proofs.blocks.lines_between.Given as goal

abbrev pub invariant-loop-need : goal.invariant-loop-need
invariant-loop-need l = record {
  those : AreThoseBetween l.low l.high (map (λ (n : Bor Need). n.now) l.kept.items) (map (λ (n : Bor Need). n.now) (take l.need-index l.lines));
  limits : LinesAreLimited (map (λ (n : Bor Need). n.now) l.kept.items);
}
