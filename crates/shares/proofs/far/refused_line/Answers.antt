use Rattle.std.proofs.Common.{◌≡◌, ◌∙◌, ◌≤◌, ◌^◌, List, length, map, take, ap, sym, subst, arith, inl, inr}
use Rattle.std.specs.Prelude.{All}
use Rattle.std.proofs.lemmas.List.{length-map, length-take-le}
use Rattle.plan.specs.Plan.{Plan}
use Rattle.plan.specs.View.{plan_of}
use Rattle.plan.specs.Certificate.Cells.{Piece}
use Rattle.shares.specs.declared.counts.FetchLine.{FetchLine as LineHeld}
use Rattle.shares.specs.FetchLines.{IsFirstFar, IsFirstPast, LineIsNear, fetched_by_lines, plan_fetch_lines}
use Rattle.shares.specs.Noted.{line_of, lines_noted, told_line}
use Rattle.shares.specs.Seats.{pieces_of}
use Rattle.shares.proofs.Groups.{get_within}
use Rattle.shares.proofs.Passing.{all_near, far_fetch, firsts_counted, firsts_limited, firsts_near, limited_noted, near_first, passes, past_first}
use Rattle.shares.proofs.Rising.{seats_rise}
use Rattle.shares.proofs.far.refused_line.Goals as goal

pub far_place-requires-clause-rising : goal.far_place-requires-clause-rising
far_place-requires-clause-rising c = seats_rise 0 (plan_of c.args.plan.now).groups c.args.seats.now c.requires.seats

pub far_place-requires-clause-limits : goal.far_place-requires-clause-limits
far_place-requires-clause-limits c =
    let p : Plan = plan_of c.args.plan.now in
    let held = c.deref.result.now in
    let all : lines_noted held ≡ map told_line (plan_fetch_lines p) = ap lines_noted c.deref.ensures.value ∙ c.in_ok-lines.ensures in
    limited_noted p held all c.requires.lines

-- none is far
pub returns-in_default : goal.returns-in_default
returns-in_default c _ _ =
    let p : Plan = plan_of c.args.plan.now in
    let held = c.deref.result.now in
    let js : List Piece = pieces_of c.args.seats.now in
    let all : lines_noted held ≡ map told_line (plan_fetch_lines p) = ap lines_noted c.deref.ensures.value ∙ c.in_ok-lines.ensures in
    let near : All (LineIsNear js) (lines_noted held) = rw c.in_default.is at c.in_ok-far.ensures in
    subst (λ (ps : List Piece). All (LineIsNear ps) (plan_fetch_lines p)) c.requires.seats (all_near p held all js near)

pub slice_bounds-passing_place-end : goal.slice_bounds-passing_place-end
slice_bounds-passing_place-end c =
    let held = c.deref.result.now in
    let first : IsFirstFar (pieces_of c.args.seats.now) (lines_noted held) c.in-Some.far = rw c.in-Some.is at c.in_ok-far.ensures in
    let within = get_within (lines_noted held) c.in-Some.far first.line first.stands in
    let long = length-map held line_of in
    let same = ap length (c.deref.ensures.value ∙ sym c.deref-2.ensures.value) in
    sym (length-take-le c.in-Some.far c.deref-2.result.now (omega (arith, within, long, same)))

pub passing_place-requires-clause-rising : goal.passing_place-requires-clause-rising
passing_place-requires-clause-rising c = seats_rise 0 (plan_of c.args.plan.now).groups c.args.seats.now c.requires.seats

pub passing_place-requires-clause-limits : goal.passing_place-requires-clause-limits
passing_place-requires-clause-limits c =
    let p : Plan = plan_of c.args.plan.now in
    let held = c.deref-2.result.now in
    let all : lines_noted held ≡ map told_line (plan_fetch_lines p) = ap lines_noted c.deref-2.ensures.value ∙ c.in_ok-lines.ensures in
    firsts_limited (pieces_of c.args.seats.now) held c.in-Some.far (limited_noted p held all c.requires.lines)

pub passing_place-requires-clause-near : goal.passing_place-requires-clause-near
passing_place-requires-clause-near c =
    let held = c.deref-2.result.now in
    let js : List Piece = pieces_of c.args.seats.now in
    let Far : List LineHeld → Type 0 = λ ls. IsFirstFar js (lines_noted ls) c.in-Some.far in
    let first : Far c.deref.result.now = rw c.in-Some.is at c.in_ok-far.ensures in
    let here : Far held = subst Far (c.deref.ensures.value ∙ sym c.deref-2.ensures.value) first in
    firsts_near js held c.in-Some.far here.near

-- an earlier line passes the limit
pub returns-in-Some-2 : goal.returns-in-Some-2
returns-in-Some-2 c d shared =
    let p : Plan = plan_of c.args.plan.now in
    let held = c.in_ok-lines.lines.items in
    let js : List Piece = pieces_of c.args.seats.now in
    let far = c.in-Some.far in
    let k = c.in-Some-2.past in
    let Far : List LineHeld → Type 0 = λ ls. IsFirstFar js (lines_noted ls) far in
    let told : Far c.deref.result.now = rw c.in-Some.is at c.in_ok-far.ensures in
    let first : Far held = subst Far c.deref.ensures.value told in
    let Past : List LineHeld → Type 0 = λ ls. IsFirstPast js (lines_noted (take far ls)) k in
    let found : Past c.deref-2.result.now = rw c.in-Some-2.is at c.in_ok-past.ensures in
    let past : Past held = subst Past c.deref-2.ensures.value found in
    inr (passes p held c.in_ok-lines.ensures js c.requires.seats k c.index.result.now c.index.ensures d shared (near_first js held far k past first.near) (past_first js held far k past))

pub index-requires-in-None : goal.index-requires-in-None
index-requires-in-None c =
    let held = c.deref.result.now in
    let first : IsFirstFar (pieces_of c.args.seats.now) (lines_noted held) c.in-Some.far = rw c.in-Some.is at c.in_ok-far.ensures in
    let within = get_within (lines_noted held) c.in-Some.far first.line first.stands in
    let long = length-map held line_of in
    let same = ap length c.deref.ensures.value in
    let ok = c.in_ok-lines.lines.ok.0 in
    omega (arith, within, long, same, ok)

-- none does
pub returns : goal.returns
returns c d shared =
    let p : Plan = plan_of c.args.plan.now in
    let held = c.in_ok-lines.lines.items in
    let js : List Piece = pieces_of c.args.seats.now in
    let far = c.in-Some.far in
    let Far : List LineHeld → Type 0 = λ ls. IsFirstFar js (lines_noted ls) far in
    let told : Far c.deref.result.now = rw c.in-Some.is at c.in_ok-far.ensures in
    let first : Far held = subst Far c.deref.ensures.value told in
    let Few : List LineHeld → Type 0 = λ ls. fetched_by_lines js (lines_noted (take far ls)) ≤ 2 ^ 26 in
    let few : Few c.deref-2.result.now = rw c.in-None.is at c.in_ok-past.ensures in
    inl (far_fetch p held c.in_ok-lines.ensures js c.requires.seats far c.index-in-None.result.now c.index-in-None.ensures first (firsts_counted js held far (subst Few c.deref-2.ensures.value few)))
