use Rattle.std.proofs.Common.{◌≡◌, ℕ, ◌+◌, [], map, sym, subst}
use Rattle.plan.specs.Plan.{Statement}
use Rattle.plan.specs.View.{statement_of}
use Rattle.plan.specs.Lists.{list_statements}
use Rattle.algo.specs.View.{algorithm_of}
use Rattle.blocks.specs.Bodies.{body}
use Rattle.sched.specs.Placed.{inner_seen}
use Rattle.lower.specs.Groups.{MixedMade}
use Rattle.sched.specs.Groups.{root_of}
use Rattle.lower.proofs.Claimed.{done}
use Rattle.lower.proofs.Grouped.{group_by}
use Rattle.lower.proofs.grouping.group_of.Goals as goal

pub returns-clause-by : goal.returns-clause-by
returns-clause-by c =
    let a = algorithm_of c.args.algo.now in
    let all = map root_of c.args.roots.now in
    let n = c.args.beginning.number in
    let first = c.args.beginning.claim in
    let line = c.args.beginning.line in
    let e = root_of c.args.root.now in
    let old = c.args.certificate.now in
    let new = c.body_of.new.certificate in
    let last = c.in_ok-body.body in
    let b = body (list_statements last.statements.items) in
    let next = c.in_ok-line_behind.field-0 in
    let p = c.in_ok-group_with.field-0 in
    let lined : next ≡ last.line + 1 = c.in_ok-line_behind.ensures in
    let is : statement_of p.body ≡ b = c.in_ok-group_with.ensures.does in
    group_by a all n first line next c.args.inners.now e p old new
    (λ alone. done a all n first line e last.line next old.claims.items new.claims.items old.needs.items new.needs.items (statement_of p.body) b (c.args.inners.now ≡ []) is lined
    c.in_ok-body.ensures.made alone)
    c.in_ok-body.ensures.windows
    (λ some. subst (λ (q : ℕ). MixedMade all n first line q (map inner_seen c.args.inners.now) e old new (statement_of p.body)) (sym lined)
    (subst (λ (s : Statement). MixedMade all n first line (last.line + 1) (map inner_seen c.args.inners.now) e old new s) (sym is) (c.in_ok-body.ensures.mixed some)))
