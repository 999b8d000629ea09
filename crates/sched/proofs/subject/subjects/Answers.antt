use Rattle.std.proofs.Common.{sym}
use Rattle.algo.specs.View.{algorithm_of}
use Rattle.sched.specs.View.{schedule_of}
use Rattle.sched.proofs.Functions.{Entry, entry_here, entry_later, subject_pushed}
use Rattle.sched.proofs.subject.subjects.Goals as goal

pub subject-requires : goal.subject-requires
subject-requires c =
    let e : Entry = (c.in-Some.name.now, c.in-Some.function.now) in
    record { all = c.requires; own = entry_here c.funcs-functions.result.now.entries c.loop-k.k e (sym c.in-Some.ensures.entry) c.loop-k.invariant.named }

pub loop-k-preserved : goal.loop-k-preserved
loop-k-preserved c =
    let entries = c.funcs-functions.result.now.entries in
    let e : Entry = (c.in-Some.name.now, c.in-Some.function.now) in
    record {
      named = entry_later entries c.loop-k.k e (sym c.in-Some.ensures.entry) c.loop-k.invariant.named;
      left = subject_pushed (algorithm_of c.args.algo.now) (schedule_of c.args.sched.now) entries c.loop-k.k e (sym c.in-Some.ensures.entry) c.loop-k.found.items c.in_ok-one-in-Some.one c.push.new.self.items _ c.in_ok-one-in-Some.ensures c.in_ok-push-in-Some.ensures.items c.loop-k.invariant.left;
    }
