use Rattle.std.proofs.Common.{◌≡◌, ◌∷◌, arith}
use Rattle.shares.proofs.Gapped.{difference_bits, leads_both, leads_lower, negated_bits}
use Rattle.shares.proofs.gaps.leading_of.Goals as goal

pub returns-then-symbol-first : goal.returns-then-symbol-first
returns-then-symbol-first c us ls =
    let first = c.args.first.now in
    let second = c.args.second.now in
    leads_lower second _ (first ∷ us) ls c.requires.second (negated_bits second.factor c.requires.second)

pub returns : goal.returns
returns c us ls =
    let first = c.args.first.now in
    let second = c.args.second.now in
    let same : first.symbol ≡ second.symbol = omega (arith, c.if-first-symbol.false, c.if-symbol-first.false) in
    leads_both first second _ us ls c.requires.first c.requires.second same (difference_bits first.factor second.factor c.requires.first c.requires.second)
