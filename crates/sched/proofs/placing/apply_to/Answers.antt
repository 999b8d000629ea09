use Rattle.std.proofs.Common.{get_or, map, ap, sym, ◌∙◌, arith}
use Rattle.sched.specs.View.{directive_of, scheduled_of}
use Rattle.sched.specs.Placing.{all_in, subject_of, placed_of}
use Rattle.sched.proofs.Placings.{placed_so, refused_so}
use Rattle.sched.proofs.placing.apply_to.Goals as goal

pub returns-in-Ok : goal.returns-in-Ok
returns-in-Ok c =
    let subject = c.index-subjects-number in
    let placed = c.index-placed-number in
    let directives = map directive_of c.args.scheduled.now.directives.items in
    let read = get_or c.args.placed.now c.in-Some.number placed.result in
    let same = ap (λ ds. all_in (subject_of subject.result) (map directive_of ds) (placed_of read)) (sym c.deref.ensures.value) in
    let told = ap (λ p. all_in (subject_of subject.result) directives (placed_of p)) placed.is ∙ same ∙ c.in-Ok.ensures in
    placed_so c.args.subjects.now (scheduled_of c.args.scheduled.now) c.args.placed.now c.in-Some.number subject.result placed.result c.in-Some.ensures
    (omega (arith, c.if-number-subjects.false)) subject.is (omega (arith, c.if-number-placed.false)) placed.is c.apply_all.new.placed told

pub returns-in-Err-Broken : goal.returns-in-Err-Broken
returns-in-Err-Broken c =
    let arm = c.in-Err-Broken in
    let subject = c.index-subjects-number in
    let placed = c.index-placed-number in
    let directives = map directive_of c.args.scheduled.now.directives.items in
    let read = get_or c.args.placed.now c.in-Some.number placed.result in
    let same = ap (λ ds. all_in (subject_of subject.result) (map directive_of ds) (placed_of read)) (sym c.deref.ensures.value) in
    let refused = rw arm.field-0-is at arm.ensures in
    let told = ap (λ p. all_in (subject_of subject.result) directives (placed_of p)) placed.is ∙ same ∙ refused in
    refused_so c.args.subjects.now (scheduled_of c.args.scheduled.now) c.args.placed.now c.in-Some.number subject.result placed.result c.in-Some.ensures
    (omega (arith, c.if-number-subjects.false)) subject.is (omega (arith, c.if-number-placed.false)) placed.is arm.rule told
