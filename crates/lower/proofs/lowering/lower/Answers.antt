use Rattle.std.proofs.Common.{◌≡◌, map}
use Rattle.algo.specs.View.{algorithm_of}
use Rattle.sched.specs.View.{schedule_of}
use Rattle.sched.specs.Placing.{subject_of, placed_of}
use Rattle.blocks.specs.Stored.{stored_of_all}
use Rattle.lower.specs.Stored.{stored_functions}
use Rattle.lower.proofs.Told.{stored_told}
use Rattle.lower.proofs.lowering.lower.Goals as goal

pub returns-clause-small : goal.returns-clause-small
returns-clause-small c =
    let a = algorithm_of c.args.algo.now in
    let s = schedule_of c.args.sched.now in
    let p = c.in_ok-placement.placement in
    let found = c.in_ok-placement.ensures in
    let stored = stored_of_all a (map subject_of p.subjects.items) (map placed_of p.functions.items) in
    let same : stored ≡ stored_functions a s = (λ i. stored_of_all a (found.subjects i) (found.loops i)) in
    (stored_told a s p.fault (map subject_of p.subjects.items) stored found.fault found.subjects same c.plan_placed.result c.plan_placed.ensures).small

pub returns-clause-regions : goal.returns-clause-regions
returns-clause-regions c =
    let a = algorithm_of c.args.algo.now in
    let s = schedule_of c.args.sched.now in
    let p = c.in_ok-placement.placement in
    let found = c.in_ok-placement.ensures in
    let stored = stored_of_all a (map subject_of p.subjects.items) (map placed_of p.functions.items) in
    let same : stored ≡ stored_functions a s = (λ i. stored_of_all a (found.subjects i) (found.loops i)) in
    (stored_told a s p.fault (map subject_of p.subjects.items) stored found.fault found.subjects same c.plan_placed.result c.plan_placed.ensures).regions

pub returns-clause-uses : goal.returns-clause-uses
returns-clause-uses c =
    let a = algorithm_of c.args.algo.now in
    let s = schedule_of c.args.sched.now in
    let p = c.in_ok-placement.placement in
    let found = c.in_ok-placement.ensures in
    let stored = stored_of_all a (map subject_of p.subjects.items) (map placed_of p.functions.items) in
    let same : stored ≡ stored_functions a s = (λ i. stored_of_all a (found.subjects i) (found.loops i)) in
    (stored_told a s p.fault (map subject_of p.subjects.items) stored found.fault found.subjects same c.plan_placed.result c.plan_placed.ensures).uses

pub returns-clause-groups : goal.returns-clause-groups
returns-clause-groups c =
    let a = algorithm_of c.args.algo.now in
    let s = schedule_of c.args.sched.now in
    let p = c.in_ok-placement.placement in
    let found = c.in_ok-placement.ensures in
    let stored = stored_of_all a (map subject_of p.subjects.items) (map placed_of p.functions.items) in
    let same : stored ≡ stored_functions a s = (λ i. stored_of_all a (found.subjects i) (found.loops i)) in
    (stored_told a s p.fault (map subject_of p.subjects.items) stored found.fault found.subjects same c.plan_placed.result c.plan_placed.ensures).groups

pub returns-clause-legal : goal.returns-clause-legal
returns-clause-legal c =
    let a = algorithm_of c.args.algo.now in
    let s = schedule_of c.args.sched.now in
    let p = c.in_ok-placement.placement in
    let found = c.in_ok-placement.ensures in
    let stored = stored_of_all a (map subject_of p.subjects.items) (map placed_of p.functions.items) in
    let same : stored ≡ stored_functions a s = (λ i. stored_of_all a (found.subjects i) (found.loops i)) in
    (stored_told a s p.fault (map subject_of p.subjects.items) stored found.fault found.subjects same c.plan_placed.result c.plan_placed.ensures).legal

pub returns-clause-refused : goal.returns-clause-refused
returns-clause-refused c =
    let a = algorithm_of c.args.algo.now in
    let s = schedule_of c.args.sched.now in
    let p = c.in_ok-placement.placement in
    let found = c.in_ok-placement.ensures in
    let stored = stored_of_all a (map subject_of p.subjects.items) (map placed_of p.functions.items) in
    let same : stored ≡ stored_functions a s = (λ i. stored_of_all a (found.subjects i) (found.loops i)) in
    (stored_told a s p.fault (map subject_of p.subjects.items) stored found.fault found.subjects same c.plan_placed.result c.plan_placed.ensures).refused
