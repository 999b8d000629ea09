use Rattle.std.proofs.Common.{◌≡◌, ◌^◌, drop}
use Rattle.audit.specs.Verdict.Left.{factors_fit}
use Rattle.audit.proofs.leaving.factors_fit.Given as goal

abbrev pub invariant-loop-term : goal.invariant-loop-term
invariant-loop-term l = factors_fit l.left (drop l.term-index l.terms) ≡ factors_fit (2 ^ 9) l.terms
