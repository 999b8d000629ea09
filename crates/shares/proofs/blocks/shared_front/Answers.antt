use Rattle.std.proofs.Common.{◌≡◌, ◌≤◌, ◌∙◌, length, sym, subst, take, arith}
use Rattle.std.specs.Prelude.{All}
use Rattle.std.proofs.lemmas.Bool.{false≢true}
use Rattle.shares.specs.declared.seats.Seat.{Seat}
use Rattle.shares.proofs.Blocking.{all_more, all_none, all_front, front_fails}
use Rattle.shares.proofs.Groups.{get_within}
use Rattle.shares.proofs.blocks.shared_front.Goals as goal

pub loop-place-init : goal.loop-place-init
loop-place-init c = all_none (λ (x : Seat). (x.group ≡ c.args.group) × (length x.at.items ≤ c.args.count))

pub loop-place-preserved : goal.loop-place-preserved
loop-place-preserved c =
    let P : Seat → Type 0 = λ x. (x.group ≡ c.args.group) × (length x.at.items ≤ c.args.count) in
    all_more P P (λ x h. h) c.args.seats.now c.loop-place.place c.index-seats-place.result c.loop-place-test.true c.index-seats-place.is c.loop-place.invariant (c.is_of.ensures.0 c.if-not-is_of.false)

pub returns-clause-all : goal.returns-clause-all
returns-clause-all c =
    let P : Seat → Type 0 = λ x. (x.group ≡ c.args.group) × (length x.at.items ≤ c.args.count) in
    all_front P c.args.seats.now c.loop-place.place c.loop-place-test.false c.loop-place.invariant

pub returns-clause-some : goal.returns-clause-some
returns-clause-some c s at group few = let less = get_within c.args.seats.now 0 s at in omega (arith, less)

pub returns-then-not-is_of-clause-some : goal.returns-then-not-is_of-clause-some
returns-then-not-is_of-clause-some c s at group few =
    let P : Seat → Type 0 = λ x. (x.group ≡ c.args.group) × (length x.at.items ≤ c.args.count) in
    front_fails P c.args.seats.now c.loop-place.place c.index-seats-place.result s c.index-seats-place.is at (group, few) (λ h. false≢true (sym c.if-not-is_of.true ∙ c.is_of.ensures.1 h))
