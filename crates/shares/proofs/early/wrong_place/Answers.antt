use Rattle.std.proofs.Common.{◌≤◌, ◌^◌, ℕ, take, sym, subst}
use Rattle.std.specs.Prelude.{All}
use Rattle.shares.specs.FetchLines.{IsFirstPast, LineIsNear, fetched_by_lines}
use Rattle.shares.specs.Noted.{lines_noted}
use Rattle.shares.specs.Seats.{pieces_of}
use Rattle.shares.proofs.Ahead.{firsts_are_near, wrong_far, wrong_past}
use Rattle.shares.proofs.Passing.{firsts_limited}
use Rattle.shares.proofs.early.wrong_place.Goals as goal

pub passing_place-requires-clause-limits : goal.passing_place-requires-clause-limits
passing_place-requires-clause-limits c = firsts_limited (pieces_of c.args.seats.now) c.args.lines.now c.until-end.result c.requires.limits

pub passing_place-requires-clause-near : goal.passing_place-requires-clause-near
passing_place-requires-clause-near c =
    let js = pieces_of c.args.seats.now in
    let held = c.args.lines.now in
    subst (λ (n : ℕ). All (LineIsNear js) (lines_noted (take n held))) (sym c.until-end.ensures) (firsts_are_near js held c.in_ok-far.far c.in_ok-far.ensures)

-- a line passes the limit
pub returns-in-Some : goal.returns-in-Some
returns-in-Some c =
    let js = pieces_of c.args.seats.now in
    let held = c.args.lines.now in
    let k = c.in-Some.past in
    let Past : ℕ → Type 0 = λ n. IsFirstPast js (lines_noted (take n held)) k in
    let past : Past c.until-end.result = rw c.in-Some.is at c.in_ok-past.ensures in
    wrong_past js held c.in_ok-far.far c.in_ok-far.ensures k (subst Past c.until-end.ensures past)

-- none does
pub returns-in-None : goal.returns-in-None
returns-in-None c =
    let js = pieces_of c.args.seats.now in
    let held = c.args.lines.now in
    let Few : ℕ → Type 0 = λ n. fetched_by_lines js (lines_noted (take n held)) ≤ 2 ^ 26 in
    let few : Few c.until-end.result = rw c.in-None.is at c.in_ok-past.ensures in
    wrong_far js held c.in_ok-far.far c.in_ok-far.ensures (subst Few c.until-end.ensures few)
