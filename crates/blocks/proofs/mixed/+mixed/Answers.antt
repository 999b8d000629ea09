use Rattle.std.proofs.Common.{rules, ◌≡◌, ◌+◌, List, length, map, Some, None, Err, refl, sym, ap, subst, ◌∙◌, arith}
use Rattle.std.specs.Prelude.{slice_get}
use Rattle.std.specs.Option.{option_map}
use Rattle.std.proofs.lemmas.Option.{slice_get_read}
use Rattle.plan.specs.Lists.{list_statements}
use Rattle.blocks.specs.declared.parts.Seat.{Seat}
use Rattle.sched.specs.Renamed.{last_value, value_in}
use Rattle.blocks.specs.Renamed.{pair_of}
use Rattle.blocks.specs.Placed.{computed, function_at, functions_at, let_count, numbers_down, seat_of, so_far}
use Rattle.sched.specs.Placed.{inner_seen, later_seen}
use Rattle.blocks.proofs.Nested.{functions_first, functions_stop, functions_stop_later, computed_all, computed_sliding, lets_behind}
use Rattle.blocks.proofs.Stops.{same_gives, stops}
use Rattle.blocks.proofs.mixed.+mixed.Goals as goal

pub computed-returns-in-None : goal.computed-returns-in-None
computed-returns-in-None t c =
    let deep = c.args.deep in
    let below = c.in-Some-checked_sub.below in
    let n = c.args.number in
    let b = c.in-Some-last_seat.buffer in
    let next : deep ≡ below + 1 = omega (arith, c.in-Some-checked_sub.ensures) in
    let seated : value_in (map seat_of c.args.body.now.seats.items) n ≡ Some b =
    subst (λ (l : List Seat). last_value None (map seat_of l) n ≡ Some b) c.deref.ensures.value (sym c.in-Some-last_seat.ensures) in
    same_gives c.all_turns.result _ _ _
    (computed_all deep below (map inner_seen c.args.inners.now) n b (inner_seen c.args.inner.now) (map pair_of c.args.names.now) (so_far c.args.body.now) next seated
    (ap (option_map later_seen) c.in-None.is)) c.all_turns.ensures

pub computed-returns-in-Some-later : goal.computed-returns-in-Some-later
computed-returns-in-Some-later t c =
    let deep = c.args.deep in
    let below = c.in-Some-checked_sub.below in
    let n = c.args.number in
    let b = c.in-Some-last_seat.buffer in
    let l = later_seen c.in-Some-later.later in
    let next : deep ≡ below + 1 = omega (arith, c.in-Some-checked_sub.ensures) in
    let seated : value_in (map seat_of c.args.body.now.seats.items) n ≡ Some b =
    subst (λ (s : List Seat). last_value None (map seat_of s) n ≡ Some b) c.deref.ensures.value (sym c.in-Some-last_seat.ensures) in
    same_gives c.sliding_turns.result _ _ _
    (computed_sliding deep below (map inner_seen c.args.inners.now) n b (inner_seen c.args.inner.now) l (map pair_of c.args.names.now) (so_far c.args.body.now) next seated
    (ap (option_map later_seen) c.in-Some-later.is)) c.sliding_turns.ensures

pub functions_at-returns : goal.functions_at-returns
functions_at-returns t c =
    let inners = c.args.inners.now in
    let last = c.in-Some-checked_sub.last in
    let i = c.in-Some-get.inner.now in
    let next : c.args.count ≡ last + 1 = omega (arith, c.in-Some-checked_sub.ensures) in
    let is : slice_get inners last ≡ Some i = slice_get_read inners (length inners) last i refl c.in-Some-get.ensures.lookup.3.0 c.in-Some-get.ensures.lookup.1 in
    functions_first (computed c.args.deep (map inner_seen inners)) inners c.args.spot (map pair_of c.args.names.now) c.args.count last i (so_far c.args.body.now)
    (so_far c.function_at.new.body) (so_far c.functions_at.new.body) c.in_ok-first.first.items c.in_ok-others.others.items c.append.new.self.items next is c.in_ok-first.ensures
    c.in_ok-others.ensures c.in_ok-append.ensures.items

pub functions_at-returns-in_err-first : goal.functions_at-returns-in_err-first
functions_at-returns-in_err-first t c =
    let inners = c.args.inners.now in
    let make = computed c.args.deep (map inner_seen inners) in
    let last = c.in-Some-checked_sub.last in
    let i = c.in-Some-get.inner.now in
    let m = map pair_of c.args.names.now in
    let e = c.in_err-first.field-0.0 in
    let stop : c.from_residual.result ≡ Err e = search rules in
    let next : c.args.count ≡ last + 1 = omega (arith, c.in-Some-checked_sub.ensures) in
    let is : slice_get inners last ≡ Some i = slice_get_read inners (length inners) last i refl c.in-Some-get.ensures.lookup.3.0 c.in-Some-get.ensures.lookup.1 in
    stops c.from_residual.result e _ _ (function_at make c.args.spot m last (inner_seen i) (so_far c.args.body.now))
    (functions_at make (map inner_seen inners) c.args.spot m (numbers_down c.args.count) (so_far c.args.body.now)) stop
    (functions_stop make inners c.args.spot m c.args.count last i (so_far c.args.body.now) next is) c.in_err-first.ensures

pub functions_at-returns-in_err-others : goal.functions_at-returns-in_err-others
functions_at-returns-in_err-others t c =
    let inners = c.args.inners.now in
    let make = computed c.args.deep (map inner_seen inners) in
    let last = c.in-Some-checked_sub.last in
    let i = c.in-Some-get.inner.now in
    let m = map pair_of c.args.names.now in
    let e = c.in_err-others.field-0.0 in
    let one = so_far c.function_at.new.body in
    let stop : c.from_residual-in_err-others.result ≡ Err e = search rules in
    let next : c.args.count ≡ last + 1 = omega (arith, c.in-Some-checked_sub.ensures) in
    let is : slice_get inners last ≡ Some i = slice_get_read inners (length inners) last i refl c.in-Some-get.ensures.lookup.3.0 c.in-Some-get.ensures.lookup.1 in
    stops c.from_residual-in_err-others.result e _ _ (functions_at make (map inner_seen inners) c.args.spot m (numbers_down last) one)
    (functions_at make (map inner_seen inners) c.args.spot m (numbers_down c.args.count) (so_far c.args.body.now)) stop
    (functions_stop_later make inners c.args.spot m c.args.count last i (so_far c.args.body.now) one (list_statements c.in_ok-first.first.items) next is c.in_ok-first.ensures)
    c.in_err-others.ensures

pub arm-returns-in_default-get : goal.arm-returns-in_default-get
arm-returns-in_default-get t c =
    let same : c.in_ok-count.count ≡ let_count c.deref-2.result.now = c.in_ok-count.ensures ∙ ap let_count (c.deref.ensures.value ∙ sym c.deref-2.ensures.value) in
    lets_behind c.deref-2.result.now c.in_ok-count.count same c.in_default-get.ensures.lookup.0
