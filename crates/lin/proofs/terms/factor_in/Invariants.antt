use Rattle.std.proofs.Common.{◌≡◌, drop}
use Rattle.lin.specs.Forms.{factor_of, IsCanonical}
use Rattle.lin.proofs.terms.factor_in.Given as goal

abbrev pub invariant-loop-term : goal.invariant-loop-term
invariant-loop-term l = record {
  passed : factor_of l.terms l.symbol ≡ factor_of (drop l.term-index l.terms) l.symbol;
  canonical : IsCanonical (drop l.term-index l.terms);
}
