use Rattle.std.proofs.Common.{◌≡◌, ◌++◌, take, map}
use Rattle.std.specs.Prelude.{string_bytes}
use Rattle.plan.specs.Certificate.Certificate.{claim_of}
use Rattle.cert.specs.Lines.{claim_lines}
use Rattle.cert.specs.Notation.{text_of}
use Rattle.cert.proofs.writing.put_claims.Given as goal

abbrev pub invariant-loop-number : goal.invariant-loop-number
invariant-loop-number l = string_bytes l.text ≡ string_bytes l.fn.text ++ text_of (claim_lines 0 (map claim_of (take l.number l.claims)))
