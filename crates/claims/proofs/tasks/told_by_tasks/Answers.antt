use Rattle.std.proofs.Common.{◌≡◌, ◌*◌, ◌<◌, length, sym, ◌∙◌, arith}
use Rattle.std.proofs.Crossing.{crosses}
use denote.Param.Send.{sendable}
use Rattle.algo.specs.View.{algorithm_of}
use Rattle.plan.specs.View.{plan_of}
use Rattle.plan.specs.Certificate.Certificate.{certificate_of}
use Rattle.rayon.specs.Numbers.{nat_range}
use Rattle.rayon.proofs.ListFacts.{IfOk-then}
use Rattle.rayon.proofs.ToStd.{nat_range-All}
use Rattle.claims.proofs.Shared.{asked_sync}
use Rattle.claims.proofs.Together.{said_alike}
use Rattle.claims.proofs.tasks.told_by_tasks.Goals as goal

pub map-requires-send-F : goal.map-requires-send-F
map-requires-send-F g c κs within = search (sendable, crosses, asked_sync) depth 40 fits 100000

pub map-requires-sync-F : goal.map-requires-sync-F
map-requires-sync-F g c κs within = search (sendable, crosses, asked_sync) depth 40 fits 100000

pub collect-requires-send-Self : goal.collect-requires-send-Self
collect-requires-send-Self g c κs within = search (sendable, crosses, asked_sync) depth 40 fits 100000

pub collect-requires-clause-ready : goal.collect-requires-clause-ready
collect-requires-clause-ready g c κs within =
    let ends = c.into_par_iter.ensures in
    let whole = c.requires in
    let inside = nat_range-All (λ i. i < 2 * length c.args.asked.plan.now.groups.items) 0 c.args.tasks (λ i low high. omega (arith, high, whole)) in
    rw (c.map.ensures.base, c.map.ensures.f, c.with_min_len.ensures.base, ends.0, ends.1) (λ k d lt. (inside k d lt, λ y p. tt))

pub returns : goal.returns
returns g c =
    let ends = c.into_par_iter.ensures in
    let asked = c.args.asked in
    let f = c.map.result.f.0.now in
    let is = c.map.ensures.f in
    let base = c.map.ensures.base in
    let inner = c.with_min_len.ensures.base in
    IfOk-then c.collect.result _ _ c.collect.ensures (λ v h.
    let numbers : h.1.0 ≡ nat_range 0 c.args.tasks =
    h.1.1 ∙ (λ i. nat_range (base i).base.start (base i).base.end) ∙ (λ i. nat_range (inner i).start (inner i).end) ∙ (λ i. nat_range (ends.0 i) (ends.1 i)) in
    said_alike (algorithm_of f.algo.now) (algorithm_of asked.algo.now) (plan_of f.plan.now) (plan_of asked.plan.now) (certificate_of f.cert.now) (certificate_of asked.cert.now)
    (λ i. algorithm_of (is i).0.now.algo.now) (λ i. plan_of (is i).0.now.plan.now) (λ i. certificate_of (is i).0.now.cert.now)
    h.1.0 (nat_range 0 c.args.tasks) h.0 v.items numbers (sym h.2) h.1.2)
