use Rattle.algo.specs.View.{algorithm_of}
use Rattle.sched.specs.View.{schedule_of}
use Rattle.sched.proofs.Ending.{followed_told}
use Rattle.sched.proofs.subject.followed.Goals as goal

pub returns : goal.returns
returns c =
    let told = followed_told (algorithm_of c.args.algo.now) (schedule_of c.args.sched.now) c.is_well_formed.ensures.names c.arranged.result c.arranged.ensures in
    record { fault = told.0; loops = told.1; subjects = told.2; refused = told.3; unfollowed = told.4 }
