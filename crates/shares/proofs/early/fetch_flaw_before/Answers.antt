use Rattle.std.proofs.Common.{◌≡◌, ◌<◌, ◌∙◌, ℕ, List, length, take, ap, sym, subst, arith}
use Rattle.std.specs.Prelude.{All}
use Rattle.std.proofs.lemmas.List.{length-map}
use Rattle.plan.specs.Plan.{Plan}
use Rattle.plan.specs.View.{group_of, plan_of}
use Rattle.plan.specs.Certificate.Cells.{Piece, pieces_from}
use Rattle.shares.specs.declared.counts.FetchLine.{FetchLine as LineHeld}
use Rattle.shares.specs.Early.{AreRead, IsFirstWrong, IsGroupCount, StandAhead}
use Rattle.shares.specs.FetchLines.{LineIsLimited}
use Rattle.shares.specs.Noted.{lines_noted}
use Rattle.shares.specs.Seats.{pieces_of}
use Rattle.shares.proofs.Ahead.{below, few_pieces, limited, of_groups, told_stand, told_wrong, within}
use Rattle.shares.proofs.Rising.{seats_rise}
use Rattle.shares.proofs.early.fetch_flaw_before.Goals as goal

pub group_count-groups-requires : goal.group_count-groups-requires
group_count-groups-requires c =
    let p : Plan = plan_of c.args.plan.now in
    let held = c.in_ok-lines.lines.items in
    let line = c.args.line in
    let count = c.count_ahead-count.result in
    let stand : StandAhead (lines_noted held) line count = subst (λ (ls : List LineHeld). StandAhead (lines_noted ls) line count) c.deref.ensures.value c.count_ahead-count.ensures in
    let len = c.len.ensures in
    let ok = c.args.plan.now.groups.ok.0 in
    let long = length-map c.args.plan.now.groups.items group_of in
    let all : c.len.result ≡ length p.groups = omega (arith, len, ok, long) in
    subst (λ (ls : List LineHeld). All (λ x. x.group < c.len.result) (lines_noted (take count ls))) (sym c.deref-2.ensures.value)
    (subst (λ (n : ℕ). All (λ x. x.group < n) (lines_noted (take count held))) (sym all) (of_groups p held c.in_ok-lines.ensures line count stand))

pub first_seats-requires-clause-few : goal.first_seats-requires-clause-few
first_seats-requires-clause-few c =
    let p : Plan = plan_of c.args.plan.now in
    let held = c.in_ok-lines.lines.items in
    let line = c.args.line in
    let count = c.count_ahead-count.result in
    let stand : StandAhead (lines_noted held) line count = subst (λ (ls : List LineHeld). StandAhead (lines_noted ls) line count) c.deref.ensures.value c.count_ahead-count.ensures in
    let groups = c.group_count-groups.result in
    let counted : IsGroupCount (lines_noted (take count held)) groups =
    subst (λ (ls : List LineHeld). IsGroupCount (lines_noted (take count ls)) groups) c.deref-2.ensures.value c.group_count-groups.ensures.count in
    counted.few p.groups (few_pieces p held c.in_ok-lines.ensures line count stand c.requires)

pub wrong_place-requires-clause-rising : goal.wrong_place-requires-clause-rising
wrong_place-requires-clause-rising c =
    let p : Plan = plan_of c.args.plan.now in
    seats_rise 0 (take c.group_count-groups.result p.groups) c.deref-4.result.now (ap pieces_of c.deref-4.ensures.value ∙ c.in_ok-seats.ensures.pieces)

pub wrong_place-requires-clause-limits : goal.wrong_place-requires-clause-limits
wrong_place-requires-clause-limits c =
    let p : Plan = plan_of c.args.plan.now in
    let held = c.in_ok-lines.lines.items in
    let line = c.args.line in
    let count = c.count_ahead-count.result in
    let stand : StandAhead (lines_noted held) line count = subst (λ (ls : List LineHeld). StandAhead (lines_noted ls) line count) c.deref.ensures.value c.count_ahead-count.ensures in
    subst (λ (ls : List LineHeld). All LineIsLimited (lines_noted (take count ls))) (sym c.deref-3.ensures.value) (limited p held c.in_ok-lines.ensures line count stand c.requires)

pub index-requires : goal.index-requires
index-requires c =
    let p : Plan = plan_of c.args.plan.now in
    let held = c.in_ok-lines.lines.items in
    let line = c.args.line in
    let count = c.count_ahead-count.result in
    let stand : StandAhead (lines_noted held) line count = subst (λ (ls : List LineHeld). StandAhead (lines_noted ls) line count) c.deref.ensures.value c.count_ahead-count.ensures in
    let groups = c.group_count-groups.result in
    let counted : IsGroupCount (lines_noted (take count held)) groups =
    subst (λ (ls : List LineHeld). IsGroupCount (lines_noted (take count ls)) groups) c.deref-2.ensures.value c.group_count-groups.ensures.count in
    let js : List Piece = pieces_from 0 (take groups p.groups) in
    let same : pieces_of c.deref-4.result.now ≡ js = ap pieces_of c.deref-4.ensures.value ∙ c.in_ok-seats.ensures.pieces in
    let place = c.in-Some.place in
    let told : IsFirstWrong (pieces_of c.deref-4.result.now) (lines_noted (take count c.deref-3.result.now)) place = rw c.in-Some.is at c.in_ok-place.ensures in
    let wrong : IsFirstWrong js (lines_noted (take count held)) place =
    subst (λ (ps : List Piece). IsFirstWrong ps (lines_noted (take count held)) place) same
    (subst (λ (ls : List LineHeld). IsFirstWrong (pieces_of c.deref-4.result.now) (lines_noted (take count ls)) place) c.deref-3.ensures.value told) in
    let less = below p held c.in_ok-lines.ensures line count stand js place wrong in
    let some = within p held c.in_ok-lines.ensures line count stand in
    let ok = c.in_ok-lines.lines.ok.0 in
    omega (arith, less, some, ok)

pub returns-in-Some : goal.returns-in-Some
returns-in-Some c =
    let p : Plan = plan_of c.args.plan.now in
    let held = c.in_ok-lines.lines.items in
    let line = c.args.line in
    let count = c.count_ahead-count.result in
    let stand : StandAhead (lines_noted held) line count = subst (λ (ls : List LineHeld). StandAhead (lines_noted ls) line count) c.deref.ensures.value c.count_ahead-count.ensures in
    let groups = c.group_count-groups.result in
    let counted : IsGroupCount (lines_noted (take count held)) groups =
    subst (λ (ls : List LineHeld). IsGroupCount (lines_noted (take count ls)) groups) c.deref-2.ensures.value c.group_count-groups.ensures.count in
    let js : List Piece = pieces_from 0 (take groups p.groups) in
    let same : pieces_of c.deref-4.result.now ≡ js = ap pieces_of c.deref-4.ensures.value ∙ c.in_ok-seats.ensures.pieces in
    let place = c.in-Some.place in
    let told : IsFirstWrong (pieces_of c.deref-4.result.now) (lines_noted (take count c.deref-3.result.now)) place = rw c.in-Some.is at c.in_ok-place.ensures in
    let wrong : IsFirstWrong js (lines_noted (take count held)) place =
    subst (λ (ps : List Piece). IsFirstWrong ps (lines_noted (take count held)) place) same
    (subst (λ (ls : List LineHeld). IsFirstWrong (pieces_of c.deref-4.result.now) (lines_noted (take count ls)) place) c.deref-3.ensures.value told) in
    told_wrong p held c.in_ok-lines.ensures line count stand groups counted place c.index.result.now c.index.ensures wrong

pub returns : goal.returns
returns c =
    let p : Plan = plan_of c.args.plan.now in
    let held = c.in_ok-lines.lines.items in
    let line = c.args.line in
    let count = c.count_ahead-count.result in
    let stand : StandAhead (lines_noted held) line count = subst (λ (ls : List LineHeld). StandAhead (lines_noted ls) line count) c.deref.ensures.value c.count_ahead-count.ensures in
    let groups = c.group_count-groups.result in
    let counted : IsGroupCount (lines_noted (take count held)) groups =
    subst (λ (ls : List LineHeld). IsGroupCount (lines_noted (take count ls)) groups) c.deref-2.ensures.value c.group_count-groups.ensures.count in
    let js : List Piece = pieces_from 0 (take groups p.groups) in
    let same : pieces_of c.deref-4.result.now ≡ js = ap pieces_of c.deref-4.ensures.value ∙ c.in_ok-seats.ensures.pieces in
    let told : AreRead (pieces_of c.deref-4.result.now) (lines_noted (take count c.deref-3.result.now)) = rw c.in-None.is at c.in_ok-place.ensures in
    let read : AreRead js (lines_noted (take count held)) =
    subst (λ (ps : List Piece). AreRead ps (lines_noted (take count held))) same
    (subst (λ (ls : List LineHeld). AreRead (pieces_of c.deref-4.result.now) (lines_noted (take count ls))) c.deref-3.ensures.value told) in
    told_stand p held c.in_ok-lines.ensures line count stand groups counted read
