use Rattle.std.proofs.Common.{List, sym, subst}
use Rattle.lin.specs.Forms.{Form}
use Rattle.plan.specs.Symbols.{largest}
use Rattle.interpreter.specs.Narrow.{FormsAreNarrow}
use Rattle.report.specs.Ranges.{Holds}
use Rattle.report.proofs.Ends.{whole_max}
use Rattle.report.proofs.ranges.largest.Goals as goal

pub returns-in-len1-up-clause-holds : goal.returns-in-len1-up-clause-holds
returns-in-len1-up-clause-holds c = λ s allows narrow.
    let e = c.as_slice.ensures in
    subst (λ (l : List Form). Holds c.larger_of.result (largest s l)) e
    (whole_max s c.as_slice.result.now c.first-item.result c.range_of.result c.larger_of.result c.in-len1-up.len_at_least c.first-item.is (subst (FormsAreNarrow s) (sym e) narrow)
    (c.range_of.ensures.holds s allows) (λ z h k. c.larger_of.ensures.holds s z allows h k))
