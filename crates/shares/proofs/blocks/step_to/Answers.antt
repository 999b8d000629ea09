use Rattle.std.proofs.Common.{◌≡◌, ◌≤◌, ◌<◌, ℕ, List, Some, length, map, sym, subst, arith, Bor}
use Rattle.std.specs.Prelude.{slice_get}
use Rattle.plan.specs.View.{plan_of}
use Rattle.plan.specs.declared.certificate.cert.Need.{Need}
use Rattle.shares.specs.declared.seats.Seat.{Seat}
use Rattle.shares.specs.Blocks.{IsBlockFrom}
use Rattle.shares.specs.Seats.{AreSmall}
use Rattle.shares.proofs.Blocking.{get_is, lines_limited, walk_limited}
use Rattle.shares.proofs.Seated.{group_listed}
use Rattle.shares.proofs.blocks.step_to.Goals as goal

pub renew_large-requires-clause-small : goal.renew_large-requires-clause-small
renew_large-requires-clause-small c = subst AreSmall (sym c.as_slice-seats.ensures.value) c.requires.layout.small

pub renew_large-requires-clause-group : goal.renew_large-requires-clause-group
renew_large-requires-clause-group c s at =
    let x = c.args.layout.now in
    let n = c.args.piece in
    let here : slice_get x.seats.items n ≡ Some s = subst (λ (xs : List Seat). slice_get xs n ≡ Some s) c.as_slice-seats.ensures.value at in
    let listed = group_listed x c.requires.layout n s c.requires.piece (get_is x.seats.items n s here) in
    let count = c.requires.gathered.count in
    omega (arith, listed, count)

pub renew_large-requires-clause-limits : goal.renew_large-requires-clause-limits
renew_large-requires-clause-limits c g y at =
    lines_limited (plan_of c.args.layout.now.plan.now) g (map (λ (n : Bor Need). n.now) y.moving.items) (c.requires.gathered.each g y at)

pub renew_large-requires-clause-block : goal.renew_large-requires-clause-block
renew_large-requires-clause-block c =
    subst (λ (xs : List Seat). IsBlockFrom xs c.args.gathered.now.items c.args.piece c.args.walk.now.large) (sym c.as_slice-seats.ensures.value) c.requires.walk.large

pub renew_within-requires-clause-small : goal.renew_within-requires-clause-small
renew_within-requires-clause-small c = subst AreSmall (sym c.as_slice-seats.ensures.value) c.requires.layout.small

pub renew_within-requires-2-clause-small : goal.renew_within-requires-2-clause-small
renew_within-requires-2-clause-small c = subst AreSmall (sym c.as_slice-seats.ensures.value) c.requires.layout.small

pub renew_within-requires-3-clause-small : goal.renew_within-requires-3-clause-small
renew_within-requires-3-clause-small c = subst AreSmall (sym c.as_slice-seats.ensures.value) c.requires.layout.small

pub renew_within-requires-clause-limits : goal.renew_within-requires-clause-limits
renew_within-requires-clause-limits c =
    let x = c.args.layout.now in
    let n = c.args.piece in
    let have = c.requires.gathered in
    let within : (s : Seat) → slice_get x.seats.items n ≡ Some s → s.group < length c.args.gathered.now.items = λ s at.
    let listed = group_listed x c.requires.layout n s c.requires.piece (get_is x.seats.items n s at) in
    let count = have.count in
    omega (arith, listed, count) in
    let gs = c.args.gathered.now.items in
    let same = c.as_slice-seats.ensures.value in
    let S = c.as_slice-seats.result.now in
    let large : IsBlockFrom S gs n c.renew_large.new.block = c.in_ok-renew_large.ensures.block in
    walk_limited (plan_of x.plan.now) (length x.plan.now.groups.items) x.seats.items gs n c.renew_large.new.block have c.requires.piece within c.in_ok-renew_large.ensures.some
    (subst (λ (xs : List Seat). IsBlockFrom xs gs n c.renew_large.new.block) same large)

pub renew_within-requires-2-clause-limits : goal.renew_within-requires-2-clause-limits
renew_within-requires-2-clause-limits c =
    let x = c.args.layout.now in
    let n = c.args.piece in
    let have = c.requires.gathered in
    let within : (s : Seat) → slice_get x.seats.items n ≡ Some s → s.group < length c.args.gathered.now.items = λ s at.
    let listed = group_listed x c.requires.layout n s c.requires.piece (get_is x.seats.items n s at) in
    let count = have.count in
    omega (arith, listed, count) in
    let gs = c.args.gathered.now.items in
    let same = c.as_slice-seats.ensures.value in
    let S = c.as_slice-seats.result.now in
    let large : IsBlockFrom S gs n c.renew_large.new.block = c.in_ok-renew_large.ensures.block in
    let middle : IsBlockFrom S gs n c.renew_within.new.block =
    c.in_ok-renew_within.ensures.block gs large (subst (λ (xs : List Seat). IsBlockFrom xs gs n c.args.walk.now.middle) (sym same) c.requires.walk.middle) in
    walk_limited (plan_of x.plan.now) (length x.plan.now.groups.items) x.seats.items gs n c.renew_within.new.block have c.requires.piece within c.in_ok-renew_within.ensures.some
    (subst (λ (xs : List Seat). IsBlockFrom xs gs n c.renew_within.new.block) same middle)

pub renew_within-requires-3-clause-limits : goal.renew_within-requires-3-clause-limits
renew_within-requires-3-clause-limits c =
    let x = c.args.layout.now in
    let n = c.args.piece in
    let have = c.requires.gathered in
    let within : (s : Seat) → slice_get x.seats.items n ≡ Some s → s.group < length c.args.gathered.now.items = λ s at.
    let listed = group_listed x c.requires.layout n s c.requires.piece (get_is x.seats.items n s at) in
    let count = have.count in
    omega (arith, listed, count) in
    let gs = c.args.gathered.now.items in
    let same = c.as_slice-seats.ensures.value in
    let S = c.as_slice-seats.result.now in
    let large : IsBlockFrom S gs n c.renew_large.new.block = c.in_ok-renew_large.ensures.block in
    let middle : IsBlockFrom S gs n c.renew_within.new.block =
    c.in_ok-renew_within.ensures.block gs large (subst (λ (xs : List Seat). IsBlockFrom xs gs n c.args.walk.now.middle) (sym same) c.requires.walk.middle) in
    let lesser : IsBlockFrom S gs n c.renew_within-2.new.block =
    c.in_ok-renew_within-2.ensures.block gs middle (subst (λ (xs : List Seat). IsBlockFrom xs gs n c.args.walk.now.lesser) (sym same) c.requires.walk.lesser) in
    walk_limited (plan_of x.plan.now) (length x.plan.now.groups.items) x.seats.items gs n c.renew_within-2.new.block have c.requires.piece within c.in_ok-renew_within-2.ensures.some
    (subst (λ (xs : List Seat). IsBlockFrom xs gs n c.renew_within-2.new.block) same lesser)

pub returns-clause-walk : goal.returns-clause-walk
returns-clause-walk c =
    let n = c.args.piece in
    let gs = c.args.gathered.now.items in
    let same = c.as_slice-seats.ensures.value in
    let S = c.as_slice-seats.result.now in
    let large : IsBlockFrom S gs n c.renew_large.new.block = c.in_ok-renew_large.ensures.block in
    let middle : IsBlockFrom S gs n c.renew_within.new.block =
    c.in_ok-renew_within.ensures.block gs large (subst (λ (xs : List Seat). IsBlockFrom xs gs n c.args.walk.now.middle) (sym same) c.requires.walk.middle) in
    let lesser : IsBlockFrom S gs n c.renew_within-2.new.block =
    c.in_ok-renew_within-2.ensures.block gs middle (subst (λ (xs : List Seat). IsBlockFrom xs gs n c.args.walk.now.lesser) (sym same) c.requires.walk.lesser) in
    let small : IsBlockFrom S gs n c.renew_within-3.new.block =
    c.in_ok-renew_within-3.ensures.block gs lesser (subst (λ (xs : List Seat). IsBlockFrom xs gs n c.args.walk.now.small) (sym same) c.requires.walk.small) in
    record {
      large = subst (λ (xs : List Seat). IsBlockFrom xs gs n c.renew_large.new.block) same large;
      middle = subst (λ (xs : List Seat). IsBlockFrom xs gs n c.renew_within.new.block) same middle;
      lesser = subst (λ (xs : List Seat). IsBlockFrom xs gs n c.renew_within-2.new.block) same lesser;
      small = subst (λ (xs : List Seat). IsBlockFrom xs gs n c.renew_within-3.new.block) same small;
    }

pub returns-clause-moving : goal.returns-clause-moving
returns-clause-moving c =
    let n = c.args.piece in
    let gs = c.args.gathered.now.items in
    let same = c.as_slice-seats.ensures.value in
    let S = c.as_slice-seats.result.now in
    let large : IsBlockFrom S gs n c.renew_large.new.block = c.in_ok-renew_large.ensures.block in
    let middle : IsBlockFrom S gs n c.renew_within.new.block =
    c.in_ok-renew_within.ensures.block gs large (subst (λ (xs : List Seat). IsBlockFrom xs gs n c.args.walk.now.middle) (sym same) c.requires.walk.middle) in
    let lesser : IsBlockFrom S gs n c.renew_within-2.new.block =
    c.in_ok-renew_within-2.ensures.block gs middle (subst (λ (xs : List Seat). IsBlockFrom xs gs n c.args.walk.now.lesser) (sym same) c.requires.walk.lesser) in
    let small : IsBlockFrom S gs n c.renew_within-3.new.block =
    c.in_ok-renew_within-3.ensures.block gs lesser (subst (λ (xs : List Seat). IsBlockFrom xs gs n c.args.walk.now.small) (sym same) c.requires.walk.small) in
    subst (λ (xs : List Seat). IsBlockFrom xs gs n c.renew_within-3.new.block) same small n (omega arith) c.in_ok-renew_within-3.ensures.some
