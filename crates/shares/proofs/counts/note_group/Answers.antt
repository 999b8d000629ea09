use Rattle.std.proofs.Common.{◌≡◌, ◌∙◌, ◌+◌, ◌++◌, [], length, map, take, ap, sym, arith, Some}
use Rattle.plan.specs.Plan.{Group, Plan}
use Rattle.plan.specs.declared.plan.Group.{Group as CodeGroup}
use Rattle.plan.specs.Lines.{body_line, groups_lines}
use Rattle.plan.specs.View.{plan_of, group_of}
use Rattle.plan.proofs.Counts.{more_group_lines, take_groups}
use Rattle.soundness.specs.Outline.Flaws.{line_told}
use Rattle.shares.specs.FetchLines.{fetch_lines}
use Rattle.shares.specs.Noted.{lines_noted, told_line}
use Rattle.shares.proofs.Groups.{get_mapped, some_same}
use Rattle.shares.proofs.counts.note_group.Goals as goal

pub returns-clause-noted : goal.returns-clause-noted
returns-clause-noted c g at =
    let p : Plan = plan_of c.args.plan.now in
    let n = c.args.number in
    let d = c.index.result.now in
    let here = get_mapped group_of c.args.plan.now.groups.items n d c.requires.number ∙ ap (λ (x : CodeGroup). Some (group_of x)) (sym c.index.ensures) in
    let same : group_of d ≡ g = some_same (group_of d) g (sym here ∙ at) in
    let begun : c.saturating_add-begun.result ≡ line_told (body_line p n) = (let a = c.requires.line in let b = c.saturating_add-begun.ensures in omega (arith, a, b)) in
    c.in_ok-note_fetches.ensures (body_line p n) begun
    ∙ ap (λ (h : Group). lines_noted c.args.noted.now.items ++ map told_line (fetch_lines n [] h.body (body_line p n))) same

pub returns-clause-behind : goal.returns-clause-behind
returns-clause-behind c =
    let xs = c.args.plan.now.groups.items in
    let n = c.args.number in
    let more = more_group_lines xs n c.index.result.now c.requires.number c.index.ensures in
    let now = ap groups_lines (take_groups xs n) in
    let next = ap groups_lines (take_groups xs (n + 1)) in
    let first = c.requires.line in
    let begun = c.saturating_add-begun.ensures in
    let count = c.line_count.ensures in
    let behind = c.saturating_add.ensures in
    omega (arith, more, now, next, first, begun, count, behind)
