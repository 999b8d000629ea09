use Rattle.std.proofs.Common.{◌∷◌, [], length, ap, arith}
use Rattle.std.proofs.lemmas.List.{length-append}
use Rattle.crew.specs.Stages.{IsDesk}
use Rattle.crew.proofs.Staged.{pushed}
use Rattle.crew.proofs.stages.desks_for.Goals as goal

pub loop-alloc-preserved : goal.loop-alloc-preserved
loop-alloc-preserved g c =
    let had = c.loop-alloc.invariant in
    let long = length-append c.loop-alloc.desks.items (c.in_ok-desk.desk ∷ []) in
    let more = ap length c.in_ok-push.ensures.items in
    record {
      most = omega (arith, long, more, c.loop-alloc-test.true, c.loop-alloc.desks.ok.0);
      ready = pushed (λ _ y. IsDesk g.J.Run.layout (g.P.PrivateRuns.plan c.args.runs.now) (g.P.PrivateRuns.suffices c.args.runs.now) y) c.loop-alloc.desks.items c.push.new.self.items c.in_ok-desk.desk
          c.in_ok-push.ensures.items had.ready (record { scratch = c.in_ok-desk.ensures.scratch; looked = c.in_ok-desk.ensures.room });
    }
