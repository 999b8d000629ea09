use Rattle.std.proofs.Common.{◌≡◌, ◌+◌, drop}
use Rattle.soundness.specs.Obligations.{first_window}
use Rattle.claims.proofs.group_bounds.first_window.Given as goal

-- the place is so many further than among what is left
abbrev pub invariant-loop-number : goal.invariant-loop-number
invariant-loop-number l = first_window l.windows l.claim ≡ l.number + first_window (drop l.number l.windows) l.claim
