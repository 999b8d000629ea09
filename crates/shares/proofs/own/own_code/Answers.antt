use Rattle.std.proofs.Common.{◌≡◌, ◌∙◌, ◌+◌, ◌<◌, ◌≤◌, ℕ, List, length, arith, ap, sym, subst, Option, Some, None, inl, inr}
use Rattle.std.specs.Prelude.{IsTrue, IsFalse, slice_get}
use Rattle.std.proofs.lemmas.List.{length-map}
use Rattle.plan.specs.Plan.{Plan}
use Rattle.plan.specs.View.{plan_of}
use Rattle.plan.specs.Certificate.Certificate.{Certificate, certificate_of}
use Rattle.plan.specs.Certificate.Cells.{first_cell, pieces}
use Rattle.orders.specs.Claimed.{IsClaimedBy}
use Rattle.shares.specs.Made.{HasGap, Leaves, Overlaps}
use Rattle.shares.specs.Owned.{GroupIsInside, own_in}
use Rattle.shares.specs.Seats.{piece_of}
use Rattle.shares.proofs.Codes.{HasRow, row_of, lowest_ten, none_overlaps, none_leaves}
use Rattle.shares.proofs.Having.{cells_within}
use Rattle.shares.proofs.Owning.{ends_of, gap_found, gap_none}
use Rattle.shares.proofs.own.own_code.Goals as goal

pub returns-then-not-inside : goal.returns-then-not-inside
returns-then-not-inside c =
    let x = c.args.layout.now in
    let p : Plan = plan_of x.plan.now in
    let cert : Certificate = certificate_of x.cert.now in
    let n = c.args.group in
    let seats = x.seats.items in
    let many : length seats ≡ length (pieces p) = sym (length-map seats piece_of) ∙ ap length c.requires.layout.seats in
    let owners = c.owned_in.new.owners in
    let held : IsClaimedBy (own_in p cert n) owners (length seats) = rw c.in-Some.is at c.in_ok-inside.ensures.claimed in
    let claimed : IsClaimedBy (own_in p cert n) owners (length (pieces p)) = subst (λ (k : ℕ). IsClaimedBy (own_in p cert n) owners k) many held in
    let apart : ¬ Overlaps p cert n = none_overlaps p cert c.requires.layout.shared n owners claimed in
    let leaves : IsFalse c.in-Some.inside → Leaves p cert n = rw c.in-Some.is at c.in_ok-inside.ensures.leaves in
    lowest_ten p cert n apart (inl (leaves c.if-not-inside.true))

pub overflow_cast-some : goal.overflow_cast-some
overflow_cast-some c =
    let x = c.args.layout.now in
    let p : Plan = plan_of x.plan.now in
    let cert : Certificate = certificate_of x.cert.now in
    let n = c.args.group in
    let d = c.index.result.now in
    let row : HasRow p n d.cells.first c.most_points-some.result = row_of x c.requires.layout n d c.requires.group c.index.ensures c.deref.result.now c.most_points-some.result c.deref.ensures.value c.most_points-some.ensures in
    let few = row.few in
    omega (arith, few)

pub has_gap-requires : goal.has_gap-requires
has_gap-requires c =
    let x = c.args.layout.now in
    let p : Plan = plan_of x.plan.now in
    let cert : Certificate = certificate_of x.cert.now in
    let n = c.args.group in
    let d = c.index.result.now in
    let row : HasRow p n d.cells.first c.most_points-some.result = row_of x c.requires.layout n d c.requires.group c.index.ensures c.deref.result.now c.most_points-some.result c.deref.ensures.value c.most_points-some.ensures in
    let few = row.few in
    omega (arith, few)

pub returns-then-has_gap : goal.returns-then-has_gap
returns-then-has_gap c =
    let x = c.args.layout.now in
    let p : Plan = plan_of x.plan.now in
    let cert : Certificate = certificate_of x.cert.now in
    let n = c.args.group in
    let seats = x.seats.items in
    let many : length seats ≡ length (pieces p) = sym (length-map seats piece_of) ∙ ap length c.requires.layout.seats in
    let owners = c.owned_in.new.owners in
    let held : IsClaimedBy (own_in p cert n) owners (length seats) = rw c.in-Some.is at c.in_ok-inside.ensures.claimed in
    let claimed : IsClaimedBy (own_in p cert n) owners (length (pieces p)) = subst (λ (k : ℕ). IsClaimedBy (own_in p cert n) owners k) many held in
    let apart : ¬ Overlaps p cert n = none_overlaps p cert c.requires.layout.shared n owners claimed in
    let d = c.index.result.now in
    let row : HasRow p n d.cells.first c.most_points-some.result = row_of x c.requires.layout n d c.requires.group c.index.ensures c.deref.result.now c.most_points-some.result c.deref.ensures.value c.most_points-some.ensures in
    let gap = c.has_gap.ensures.gap c.if-has_gap.true in
    let first = row.from in
    let end = row.to in
    let low = gap.1 in
    let high = gap.2 in
    lowest_ten p cert n apart (inr (gap_found p cert (ends_of p cert c.requires.layout.shared) n gap.0 owners claimed gap.3 (omega (arith, low, first)) (omega (arith, high, end))))

pub code_of_parted-requires-clause-parted : goal.code_of_parted-requires-clause-parted
code_of_parted-requires-clause-parted c =
    let x = c.args.layout.now in
    let p : Plan = plan_of x.plan.now in
    let cert : Certificate = certificate_of x.cert.now in
    let n = c.args.group in
    let seats = x.seats.items in
    let many : length seats ≡ length (pieces p) = sym (length-map seats piece_of) ∙ ap length c.requires.layout.seats in
    let owners = c.owned_in.new.owners in
    let held : IsClaimedBy (own_in p cert n) owners (length seats) = rw c.in-Some.is at c.in_ok-inside.ensures.claimed in
    let claimed : IsClaimedBy (own_in p cert n) owners (length (pieces p)) = subst (λ (k : ℕ). IsClaimedBy (own_in p cert n) owners k) many held in
    let apart : ¬ Overlaps p cert n = none_overlaps p cert c.requires.layout.shared n owners claimed in
    let d = c.index.result.now in
    let row : HasRow p n d.cells.first c.most_points-some.result = row_of x c.requires.layout n d c.requires.group c.index.ensures c.deref.result.now c.most_points-some.result c.deref.ensures.value c.most_points-some.ensures in
    let stays : IsTrue c.in-Some.inside → GroupIsInside p cert n = rw c.in-Some.is at c.in_ok-inside.ensures.inside in
    let inside : ¬ Leaves p cert n = none_leaves p cert n (stays c.if-not-inside.false) in
    let long : length owners ≡ length c.args.owners.now = c.owned_in.auto.owners in
    let first = row.from in
    let end = row.to in
    let all = c.requires.count in
    let most = cells_within 0 p.groups (n + 1) in
    let whole : ¬ HasGap p cert n = gap_none p cert (ends_of p cert c.requires.layout.shared) n owners claimed (omega (arith, long, all, most))
    (λ y low high. c.has_gap.ensures.none c.if-has_gap.false y (omega (arith, low, first)) (omega (arith, high, end))) in
    record { apart = apart; inside = inside; whole = whole }
