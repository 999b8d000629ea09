use Rattle.std.proofs.Common.{◌≡◌, ◌++◌, map, drop}
use Rattle.plan.specs.Certificate.Certificate.{claim_of}
use Rattle.soundness.specs.Given.{named_from}
use Rattle.soundness.proofs.outline.outlined.claims_at.Given as goal

-- those found and those from here on are all
abbrev pub invariant-loop-number : goal.invariant-loop-number
invariant-loop-number l = l.found.items ++ named_from l.number (map claim_of (drop l.number l.claims)) l.line ≡ named_from 0 (map claim_of l.claims) l.line
