-- A statement writes the point of its line at each assignment that its steps allow.
use Rattle.std.proofs.Common.{map, subst}
use Rattle.plan.specs.Semantics.Actions.{actions}
use Rattle.tails.specs.Steps.{binder, binds}
use Rattle.tails.specs.Laws.{AssignmentsAreWritten, point_at}
use Rattle.tails.proofs.Spines.{IsWay, IsWayOf, way}
use Rattle.tails.proofs.Storing.{line_pure, line_stores}
use Rattle.tails.proofs.Walk.{any_reverse, respects_forward, walk}

pub assignments_are_written : AssignmentsAreWritten
assignments_are_written setting claim a n fs s t spine forms scoped allowed kept =
    let b = claim.buffer in
    let f = claim.function in
    let w : IsWay setting b f n (actions setting a) = subst (λ o. IsWayOf setting b f o (actions setting a)) spine (way setting b f a) in
    let line = line_stores setting claim n.line fs w.own (line_pure setting claim n.line fs forms) in
    w.writes fs line.writes s (point_at fs t)
    (walk n.steps fs s t scoped (respects_forward (map binder n.steps) t allowed) (λ i k. kept i (any_reverse (binds i) (map binder n.steps) k)))
