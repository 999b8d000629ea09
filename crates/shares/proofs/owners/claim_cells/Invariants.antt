use Rattle.std.proofs.Common.{◌≡◌, ℕ, List}
use Rattle.orders.specs.Claimed.{IsClaimed}
use Rattle.shares.proofs.owners.claim_cells.Given as goal

abbrev pub invariant-loop-place : goal.invariant-loop-place
invariant-loop-place l = (own : ℕ → List ℕ) → own l.piece ≡ l.cells → IsClaimed own l.initial.owners l.piece 0 → IsClaimed own l.owners l.piece l.place
