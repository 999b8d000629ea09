use Rattle.std.proofs.Common.{◌≡◌, ◌∙◌, ◌+◌, ◌++◌, ◌<◌, ◌≤◌, List, [], length, get_or, map, drop, ap, sym, arith, append_assoc}
use Rattle.std.proofs.lemmas.List.{length-map, map-append}
use Rattle.plan.specs.Plan.{Group, Plan}
use Rattle.plan.specs.Lines.{body_line}
use Rattle.plan.specs.View.{plan_of, group_of}
use Rattle.shares.specs.declared.counts.FetchLine.{FetchLine as LineHeld}
use Rattle.shares.specs.FetchLines.{FetchLine, fetch_lines, fetch_lines_from}
use Rattle.shares.specs.Noted.{lines_noted, told_line}
use Rattle.shares.proofs.Groups.{get_some}
use Rattle.shares.proofs.Noting.{first_group, from_first, last_group, next_group, no_group, with_nothing}
use Rattle.shares.proofs.counts.fetch_lines.Goals as goal

pub loop-number-init : goal.loop-number-init
loop-number-init c =
    let p : Plan = plan_of c.args.plan.now in
    record {
      lines = ap (λ (xs : List LineHeld). lines_noted xs ++ map told_line (fetch_lines_from p 0 (drop 0 p.groups))) c.new-noted.ensures.items
          ∙ ap (λ (gs : List Group). map told_line (fetch_lines_from p 0 gs)) (from_first p.groups);
      begins = first_group p;
    }

pub loop-number-preserved : goal.loop-number-preserved
loop-number-preserved c =
    let p : Plan = plan_of c.args.plan.now in
    let n = c.loop-number.number in
    let less : n < length c.args.plan.now.groups.items = (let test = c.loop-number-test.true in let all = c.len-number-end.ensures in omega (arith, test, all)) in
    let long = length-map c.args.plan.now.groups.items group_of in
    let here : n < length p.groups = omega (arith, less, long) in
    let old = lines_noted c.loop-number.noted.items in
    let line = fetch_lines n [] (get_or p.groups n no_group).body (body_line p n) in
    let later = fetch_lines_from p (n + 1) (drop (n + 1) p.groups) in
    let next : fetch_lines_from p n (drop n p.groups) ≡ line ++ later = next_group p p.groups n n no_group here in
    let noted = c.in_ok-line.ensures.noted (get_or p.groups n no_group) (get_some p.groups n no_group here) in
    record {
      lines = ap (λ (ns : List FetchLine). ns ++ map told_line later) noted ∙ append_assoc old (map told_line line) (map told_line later)
          ∙ ap (λ (ns : List FetchLine). old ++ ns) (sym (map-append told_line line later)) ∙ ap (λ (zs : List FetchLine). old ++ map told_line zs) (sym next)
          ∙ c.loop-number.invariant.lines;
      begins = c.in_ok-line.ensures.behind;
    }

pub returns : goal.returns
returns c =
    let p : Plan = plan_of c.args.plan.now in
    let n = c.loop-number.number in
    let end = c.loop-number.auto.number-end in
    let all = c.len-number-end.ensures in
    let long = length-map c.args.plan.now.groups.items group_of in
    let past : length p.groups ≤ n = omega (arith, end, all, long, c.loop-number-test.false) in
    let old = lines_noted c.loop-number.noted.items in
    with_nothing old ∙ ap (λ (xs : List FetchLine). old ++ map told_line xs) (sym (last_group p p.groups n n past)) ∙ c.loop-number.invariant.lines
