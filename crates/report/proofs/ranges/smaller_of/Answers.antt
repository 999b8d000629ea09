use Rattle.report.proofs.Ends.{next_min, one_min}
use Rattle.report.proofs.ranges.smaller_of.Goals as goal

pub loop-form-preserved : goal.loop-form-preserved
loop-form-preserved c =
    let i = c.loop-form.invariant in
    record {
      holds = λ s z allows narrow first.
          next_min s z c.args.forms.now c.loop-form.form-index c.form-item.result c.loop-form.found c.range_of.result _ c.loop-form-test.true c.form-item.is c.smaller-found.ensures narrow
          (i.holds s z allows narrow first) (c.range_of.ensures.holds s allows);
      one = λ settled first. one_min c.loop-form.found c.range_of.result _ c.smaller-found.ensures (i.one settled first) (c.range_of.ensures.one settled);
    }
