use Rattle.std.proofs.Common.{◌≡◌, ◌∙◌, get_or, pos}
use Rattle.std.proofs.lemmas.List.{get_or_default}
use Rattle.bounds.specs.Spans.{numbers}
use Rattle.crop.specs.declared.cut.Stretch.{Stretch}
use Rattle.crop.proofs.Steps.{more_spans}
use Rattle.crop.proofs.regions.region_of.Goals as goal

pub loop-stretch-preserved : goal.loop-stretch-preserved
loop-stretch-preserved c =
    let es = c.args.stretches.now in
    let i = c.loop-stretch.stretch-index in
    let none : Stretch = record { low = pos 0; high = pos 0 } in
    let x = get_or es i none in
    let is : c.in_ok-span_of.field-0 ≡ numbers x.low x.high = c.in_ok-span_of.ensures in
    c.in_ok-push.ensures.ok ∙ more_spans c.loop-stretch.region es i x c.in_ok-span_of.field-0 c.loop-stretch-test.true (get_or_default es i none x c.loop-stretch-test.true) is c.loop-stretch.invariant
