use Rattle.std.proofs.Common.{List, sym, subst}
use Rattle.lin.specs.Forms.{Form}
use Rattle.plan.specs.Symbols.{smallest}
use Rattle.interpreter.specs.Narrow.{FormsAreNarrow}
use Rattle.report.specs.Ranges.{Holds}
use Rattle.report.proofs.Ends.{whole_min}
use Rattle.report.proofs.ranges.smallest.Goals as goal

pub returns-in-len1-up-clause-holds : goal.returns-in-len1-up-clause-holds
returns-in-len1-up-clause-holds c = λ s allows narrow.
    let e = c.as_slice.ensures in
    subst (λ (l : List Form). Holds c.smaller_of.result (smallest s l)) e
    (whole_min s c.as_slice.result.now c.first-item.result c.range_of.result c.smaller_of.result c.in-len1-up.len_at_least c.first-item.is (subst (FormsAreNarrow s) (sym e) narrow)
    (c.range_of.ensures.holds s allows) (λ z h k. c.smaller_of.ensures.holds s z allows h k))
