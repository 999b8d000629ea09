use Rattle.std.proofs.Common.{◌++◌, ℕ, drop, map, Bor}
use Rattle.std.specs.Prelude.{Contains, ◌↔◌}
use Rattle.plan.specs.View.{plan_of}
use Rattle.plan.specs.declared.certificate.cert.Need.{Need}
use Rattle.shares.specs.Seats.{piece_of}
use Rattle.shares.specs.Needed.{all_numbers, NeedsAreInside}
use Rattle.shares.proofs.needed.named_by.Given as goal

abbrev pub invariant-loop-need : goal.invariant-loop-need
invariant-loop-need l = record {
  members : (i : ℕ) → Contains (l.needed.items ++ all_numbers (plan_of l.layout.plan.now) (piece_of l.seat) (drop l.need-index (map (λ (n : Bor Need). n.now) l.lines))) i ↔ Contains (all_numbers (plan_of l.layout.plan.now) (piece_of l.seat) (map (λ (n : Bor Need). n.now) l.lines)) i;
  known : NeedsAreInside (plan_of l.layout.plan.now) (piece_of l.seat) (drop l.need-index (map (λ (n : Bor Need). n.now) l.lines)) ↔ NeedsAreInside (plan_of l.layout.plan.now) (piece_of l.seat) (map (λ (n : Bor Need). n.now) l.lines);
}
