use Rattle.algo.specs.View.{algorithm_of}
use Rattle.sched.specs.View.{schedule_of}
use Rattle.stencil.proofs.compiling.lowered.Goals as goal

pub returns-in-Ok-clause-made : goal.returns-in-Ok-clause-made
returns-in-Ok-clause-made c = record {
  legal = c.in-Ok.ensures.legal;
  small = c.in-Ok.ensures.small;
  regions = c.in-Ok.ensures.regions;
  uses = c.in-Ok.ensures.uses;
  groups = c.in-Ok.ensures.groups;
  own_lines = c.own_lines_stand.ensures (algorithm_of c.args.algo.now) (schedule_of c.args.sched.now) c.in-Ok.lowered c.in-Ok.ensures.groups;
  shares = c.whole_plans_are_shared.ensures (algorithm_of c.args.algo.now) (schedule_of c.args.sched.now) c.in-Ok.lowered c.is_well_formed.ensures c.in-Ok.ensures.legal
      c.in-Ok.ensures.small c.in-Ok.ensures.regions c.in-Ok.ensures.groups;
  limits = λ splits. c.faults_are_limits.ensures (algorithm_of c.args.algo.now) (schedule_of c.args.sched.now) c.in-Ok.lowered c.is_well_formed.ensures c.in-Ok.ensures.legal
      c.in-Ok.ensures.small c.in-Ok.ensures.regions c.in-Ok.ensures.groups splits c.is_read.ensures.named;
  file = λ splits. c.files_are_of_plans.ensures (algorithm_of c.args.algo.now) (schedule_of c.args.sched.now) c.in-Ok.lowered c.is_well_formed.ensures c.in-Ok.ensures.legal
      c.in-Ok.ensures.small c.in-Ok.ensures.regions c.in-Ok.ensures.groups splits c.is_read.ensures.named c.is_read.ensures.written;
  stores = λ whole small. c.stores_are_small.ensures (algorithm_of c.args.algo.now) (schedule_of c.args.sched.now) c.in-Ok.lowered c.is_well_formed.ensures c.in-Ok.ensures.legal
      c.in-Ok.ensures.small c.in-Ok.ensures.regions c.in-Ok.ensures.groups whole small;
}

pub returns-in-Err-clause-refused : goal.returns-in-Err-clause-refused
returns-in-Err-clause-refused c = record { error = c.in-Err.error; refused = c.in-Err.ensures.refused; is = c.refused.ensures }
