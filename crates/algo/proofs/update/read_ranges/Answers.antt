use Rattle.std.proofs.Common.{inl, refl, subst, sym}
use Rattle.algo.specs.Faults.{Tells, OnlyLimit, DomainLimitAt}
use Rattle.algo.proofs.Placed.{item_at}
use Rattle.algo.proofs.update.read_ranges.Goals as goal

pub returns-in-len4-up-clause-place : goal.returns-in-len4-up-clause-place
returns-in-len4-up-clause-place c =
    let fourth = c.fourth-item.result in
    subst (Tells (OnlyLimit (DomainLimitAt c.args.domains.now c.args.word))) (sym c.limit.ensures)
    (inl (fourth, item_at c.args.domains.now 3 fourth c.fourth-item.is c.in-len4-up.len_at_least, refl))
