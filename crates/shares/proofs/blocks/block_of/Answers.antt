use Rattle.std.proofs.Common.{◌≡◌, ◌∙◌, ◌+◌, ◌-◌, ◌≤◌, ◌<◌, ℕ, List, length, map, take, drop, ap, refl, sym, get_or, arith, Bor}
use Rattle.plan.specs.declared.certificate.cert.Need.{Need}
use Rattle.shares.specs.Blocks.{AreThoseAt}
use Rattle.shares.specs.Boxes.{IsSmall}
use Rattle.shares.specs.declared.seats.Seat.{Seat}
use Rattle.shares.proofs.Blocking.{all_on, all_part, first_front, get_of, of_window, window_long}
use Rattle.shares.proofs.Groups.{get_some, some_same}
use Rattle.shares.proofs.blocks.block_of.Goals as goal

pub lines_of-requires-clause-small : goal.lines_of-requires-clause-small
lines_of-requires-clause-small c =
    let w = (c.args.first + c.min.result) - c.args.first in
    all_part (λ (x : Seat). IsSmall x.at.items) c.args.seats.now c.args.first w c.shared_front-long.result c.requires.small

pub lines_of-requires-clause-long : goal.lines_of-requires-clause-long
lines_of-requires-clause-long c =
    let xs = c.args.seats.now in
    let first = c.args.first in
    let w = (first + c.min.result) - first in
    let group = (get_or xs first c.index-seats-first.result).group in
    let count = c.len-count.result in
    all_on (λ (x : Seat). (x.group ≡ group) × (length x.at.items ≤ count)) (λ (x : Seat). length x.at.items ≤ count) (take c.shared_front-long.result (take w (drop first xs))) (λ x h. h.1) c.shared_front-long.ensures.all

pub returns-clause-block : goal.returns-clause-block
returns-clause-block c k s f from to at here =
    let g : Bor Need → Need = λ n. n.now in
    let xs = c.args.seats.now in
    let first = c.args.first in
    let w = (first + c.min.result) - first in
    let long = c.shared_front-long.result in
    let within = c.shared_front-long.ensures.within in
    let most = window_long xs first w in
    let fits : long ≤ w = omega (arith, within, most) in
    let one : Seat = get_or xs first c.index-seats-first.result in
    let of_group = of_window (λ (x : Seat). (x.group ≡ one.group) × (length x.at.items ≤ c.len-count.result)) xs first w long k s c.shared_front-long.ensures.all at from to fits in
    let those = of_window (λ (x : Seat). AreThoseAt x.at.items (map g c.in_ok-moving.moving.items) (map g c.args.lines.now)) xs first w long k s c.in_ok-moving.ensures at from to fits in
    (of_group.0 ∙ ap (λ (x : Seat). x.group) (get_of xs first f c.index-seats-first.result here), those)

pub returns-clause-some : goal.returns-clause-some
returns-clause-some c =
    let xs = c.args.seats.now in
    let first = c.args.first in
    let w = (first + c.min.result) - first in
    let m = c.min.ensures in
    let less = c.requires.first in
    let some = c.requires.most in
    let one : Seat = get_or xs first c.index-seats-first.result in
    let two : Seat = get_or xs first c.index-seats-first-2.result in
    let same : two ≡ one = some_same two one (sym (get_some xs first c.index-seats-first-2.result less) ∙ get_some xs first c.index-seats-first.result less) in
    let a = c.len-count.ensures in
    let b = c.index-seats-first-2.result.at.ok.0 in
    let d = two.at.ok.0 in
    let lent = ap (λ (x : Seat). x.at.len) c.index-seats-first-2.is in
    let long = ap (λ (x : Seat). length x.at.items) same in
    let is = c.shared_front-long.ensures.some one (first_front xs first w c.index-seats-first.result less (omega (arith, m, less, some))) refl (omega (arith, a, b, d, lent, long)) in
    omega (arith, is)

pub returns-clause-most : goal.returns-clause-most
returns-clause-most c =
    let within = c.shared_front-long.ensures.within in
    let most = window_long c.args.seats.now c.args.first ((c.args.first + c.min.result) - c.args.first) in
    let m = c.min.ensures in
    omega (arith, within, most, m)
