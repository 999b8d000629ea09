use Rattle.std.proofs.Common.{◌≡◌, ◌∙◌, ◌<◌, ◌+◌, ℕ, List, length, arith, ap, refl, sym, subst, Option}
use Rattle.std.specs.Prelude.{All}
use Rattle.std.proofs.lemmas.Bool.{false≢true}
use Rattle.std.proofs.lemmas.List.{length-map}
use Rattle.plan.specs.Plan.{Plan}
use Rattle.plan.specs.View.{plan_of}
use Rattle.plan.specs.Certificate.Certificate.{Certificate, certificate_of}
use Rattle.plan.specs.Certificate.Cells.{cells, pieces}
use Rattle.orders.specs.Work.{OwnIsParted}
use Rattle.shares.specs.Owned.{own_in}
use Rattle.shares.specs.Seats.{piece_of}
use Rattle.shares.proofs.Owning.{claimed_skip, of_group, not_of_group, overlaps, own_same}
use Rattle.shares.proofs.own.claim_own.Goals as goal

pub returns-then-index-group-clause-claimed : goal.returns-then-index-group-clause-claimed
returns-then-index-group-clause-claimed c =
    let x = c.args.layout.now in
    let p : Plan = plan_of x.plan.now in
    let cert : Certificate = certificate_of x.cert.now in
    let n = c.args.group in
    claimed_skip p cert n c.args.owners.now c.args.piece c.requires.claimed (not_of_group x c.requires.layout c.args.piece c.index.result.now c.requires.piece c.index.ensures n c.if-index-group.true)

pub returns-then-index-group-clause-inside : goal.returns-then-index-group-clause-inside
returns-then-index-group-clause-inside c _ is =
    let x = c.args.layout.now in
    let p : Plan = plan_of x.plan.now in
    let cert : Certificate = certificate_of x.cert.now in
    let n = c.args.group in
    absurd (not_of_group x c.requires.layout c.args.piece c.index.result.now c.requires.piece c.index.ensures n c.if-index-group.true is)

pub returns-then-not-claim_cells-clause-overlap : goal.returns-then-not-claim_cells-clause-overlap
returns-then-not-claim_cells-clause-overlap c =
    let x = c.args.layout.now in
    let p : Plan = plan_of x.plan.now in
    let cert : Certificate = certificate_of x.cert.now in
    let n = c.args.group in
    let seats = x.seats.items in
    let many : length seats ≡ length (pieces p) = sym (length-map seats piece_of) ∙ ap length c.requires.layout.seats in
    let within = c.requires.piece in
    let is = of_group x c.requires.layout c.args.piece c.index.result.now within c.index.ensures n c.if-index-group.false in
    let e : own_in p cert n c.args.piece ≡ c.in_ok-own.own.cells = own_same p cert n c.args.piece is ∙ sym c.in_ok-own.ensures.numbers in
    let Within : List ℕ → Type 0 = λ xs. All (λ k. k < length (cells p)) xs in
    overlaps p cert n c.args.owners.now c.args.piece (length (cells p)) (omega (arith, within, many)) is c.requires.claimed c.requires.count (subst Within c.in_ok-own.ensures.numbers c.in_ok-own.ensures.within)
    (λ parted. c.claim_cells.ensures.fault (own_in p cert n) e c.requires.claimed c.if-not-claim_cells.true (subst (λ (k : ℕ). OwnIsParted (c.args.piece + 1) k (own_in p cert n)) (sym c.requires.count) parted))

pub returns-clause-claimed : goal.returns-clause-claimed
returns-clause-claimed c =
    let x = c.args.layout.now in
    let p : Plan = plan_of x.plan.now in
    let cert : Certificate = certificate_of x.cert.now in
    let n = c.args.group in
    let is = of_group x c.requires.layout c.args.piece c.index.result.now c.requires.piece c.index.ensures n c.if-index-group.false in
    let e : own_in p cert n c.args.piece ≡ c.in_ok-own.own.cells = own_same p cert n c.args.piece is ∙ sym c.in_ok-own.ensures.numbers in
    c.claim_cells.ensures.claimed (own_in p cert n) e c.requires.claimed c.if-not-claim_cells.false

pub returns-clause-inside : goal.returns-clause-inside
returns-clause-inside c whole _ = c.in_ok-own.ensures.whole.0 whole

pub returns-clause-leaves : goal.returns-clause-leaves
returns-clause-leaves c outside =
    let x = c.args.layout.now in
    let p : Plan = plan_of x.plan.now in
    let cert : Certificate = certificate_of x.cert.now in
    let n = c.args.group in
    let is = of_group x c.requires.layout c.args.piece c.index.result.now c.requires.piece c.index.ensures n c.if-index-group.false in
    (c.args.piece, is, λ inside. false≢true (sym outside ∙ c.in_ok-own.ensures.whole.1 inside))
