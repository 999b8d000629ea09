use Rattle.std.proofs.Common.{◌≡◌, ◌∙◌, List, map, take, ap, sym, subst, refl, arith}
use Rattle.std.specs.Prelude.{All}
use Rattle.std.proofs.lemmas.List.Elements.{All-take}
use Rattle.plan.specs.Plan.{Plan}
use Rattle.plan.specs.View.{plan_of}
use Rattle.plan.specs.Certificate.Certificate.{Certificate, certificate_of}
use Rattle.plan.specs.Certificate.Cells.{Piece, pieces}
use Rattle.shares.specs.declared.counts.FetchLine.{FetchLine as LineHeld}
use Rattle.shares.specs.FetchLines.{IsFirstPast, LineIsNear, fetched_by_lines, plan_fetch_lines}
use Rattle.shares.specs.Noted.{lines_noted, told_line}
use Rattle.shares.specs.Seats.{AreSmall, pieces_of}
use Rattle.shares.proofs.Passing.{few_fetched, limited_noted, near_noted, passes}
use Rattle.shares.proofs.Rising.{seats_rise}
use Rattle.shares.proofs.Totals.{lines_open}
use Rattle.shares.proofs.counts.fetch_flaw.Goals as goal

pub passing_place-requires-clause-rising : goal.passing_place-requires-clause-rising
passing_place-requires-clause-rising c =
    let x = c.args.layout.now in
    seats_rise 0 (plan_of x.plan.now).groups c.deref-2.result.now (ap pieces_of c.deref-2.ensures.value ∙ c.requires.seats)

pub passing_place-requires-clause-limits : goal.passing_place-requires-clause-limits
passing_place-requires-clause-limits c =
    let x = c.args.layout.now in
    let p : Plan = plan_of x.plan.now in
    let held = c.deref.result.now in
    let all : lines_noted held ≡ map told_line (plan_fetch_lines p) = ap lines_noted c.deref.ensures.value ∙ c.in_ok-lines.ensures in
    limited_noted p held all (lines_open p (certificate_of x.cert.now) c.requires.shared)

pub passing_place-requires-clause-near : goal.passing_place-requires-clause-near
passing_place-requires-clause-near c =
    let x = c.args.layout.now in
    let p : Plan = plan_of x.plan.now in
    let held = c.deref.result.now in
    let all : lines_noted held ≡ map told_line (plan_fetch_lines p) = ap lines_noted c.deref.ensures.value ∙ c.in_ok-lines.ensures in
    let js : List Piece = pieces_of c.deref-2.result.now in
    let same : js ≡ pieces p = ap pieces_of c.deref-2.ensures.value ∙ c.requires.seats in
    near_noted p held all js (subst (λ (ps : List Piece). All (LineIsNear ps) (plan_fetch_lines p)) (sym same) c.requires.near)

pub passing_place-requires-clause-small : goal.passing_place-requires-clause-small
passing_place-requires-clause-small c = subst AreSmall (sym c.deref-2.ensures.value) c.requires.small

pub returns-in-Some : goal.returns-in-Some
returns-in-Some c =
    let x = c.args.layout.now in
    let p : Plan = plan_of x.plan.now in
    let cert : Certificate = certificate_of x.cert.now in
    let held = c.in_ok-lines.lines.items in
    let js : List Piece = pieces_of c.deref-2.result.now in
    let same : js ≡ pieces p = ap pieces_of c.deref-2.ensures.value ∙ c.requires.seats in
    let k = c.in-Some.place in
    let Past : List LineHeld → Type 0 = λ ls. IsFirstPast js (lines_noted ls) k in
    let past : Past c.deref.result.now = rw c.in-Some.is at c.in_ok-place.ensures in
    let of_pieces : All (LineIsNear js) (plan_fetch_lines p) = subst (λ (ps : List Piece). All (LineIsNear ps) (plan_fetch_lines p)) (sym same) c.requires.near in
    let near : All (LineIsNear js) (take k (lines_noted held)) = All-take (LineIsNear js) k (lines_noted held) (near_noted p held c.in_ok-lines.ensures js of_pieces) in
    (refl, passes p held c.in_ok-lines.ensures js same k c.index.result.now c.index.ensures cert c.requires.shared near (subst Past c.deref.ensures.value past))

pub returns : goal.returns
returns c =
    let x = c.args.layout.now in
    let p : Plan = plan_of x.plan.now in
    let held = c.deref.result.now in
    let all : lines_noted held ≡ map told_line (plan_fetch_lines p) = ap lines_noted c.deref.ensures.value ∙ c.in_ok-lines.ensures in
    let js : List Piece = pieces_of c.deref-2.result.now in
    let same : js ≡ pieces p = ap pieces_of c.deref-2.ensures.value ∙ c.requires.seats in
    let few = rw c.in-None.is at c.in_ok-place.ensures in
    let of_plan = ap (λ (ps : List Piece). fetched_by_lines ps (lines_noted held)) same in
    few_fetched p held all (certificate_of x.cert.now) c.requires.shared (omega (arith, few, of_plan))
