use Rattle.std.proofs.Common.{rules, ◌≡◌, ◌+◌, length, map, Some, Err, refl, arith}
use Rattle.std.specs.Prelude.{slice_get}
use Rattle.std.proofs.lemmas.Option.{slice_get_read}
use Rattle.plan.specs.Lists.{list_statements}
use Rattle.blocks.specs.Renamed.{pair_of}
use Rattle.blocks.specs.Placed.{buffer_at, buffers_at, numbers_down, so_far}
use Rattle.sched.specs.Placed.{inner_seen}
use Rattle.blocks.proofs.Nested.{buffers_first, buffers_stop, buffers_stop_later}
use Rattle.blocks.proofs.Stops.{stops}
use Rattle.blocks.proofs.parts.+buffers_at.Goals as goal

pub returns : goal.returns
returns t c =
    let inners = c.args.inners.now in
    let last = c.in-Some.last in
    let i = c.in-Some-get.inner.now in
    let next : c.args.count ≡ last + 1 = omega (arith, c.in-Some.ensures) in
    let is : slice_get inners last ≡ Some i = slice_get_read inners (length inners) last i refl c.in-Some-get.ensures.lookup.3.0 c.in-Some-get.ensures.lookup.1 in
    buffers_first inners c.args.spot (map pair_of c.args.names.now) c.args.count last i (so_far c.args.body.now) (so_far c.buffer_at.new.body) (so_far c.buffers_at.new.body)
    c.in_ok-first.first.items c.in_ok-others.others.items c.append.new.self.items next is c.in_ok-first.ensures c.in_ok-others.ensures c.in_ok-append.ensures.items

pub returns-in_err-first : goal.returns-in_err-first
returns-in_err-first t c =
    let inners = c.args.inners.now in
    let last = c.in-Some.last in
    let i = c.in-Some-get.inner.now in
    let m = map pair_of c.args.names.now in
    let e = c.in_err-first.field-0.0 in
    let stop : c.from_residual.result ≡ Err e = search rules in
    let next : c.args.count ≡ last + 1 = omega (arith, c.in-Some.ensures) in
    let is : slice_get inners last ≡ Some i = slice_get_read inners (length inners) last i refl c.in-Some-get.ensures.lookup.3.0 c.in-Some-get.ensures.lookup.1 in
    stops c.from_residual.result e _ _ (buffer_at c.args.spot m last (inner_seen i) (so_far c.args.body.now))
    (buffers_at (map inner_seen inners) c.args.spot m (numbers_down c.args.count) (so_far c.args.body.now)) stop
    (buffers_stop inners c.args.spot m c.args.count last i (so_far c.args.body.now) next is) c.in_err-first.ensures

pub returns-in_err-others : goal.returns-in_err-others
returns-in_err-others t c =
    let inners = c.args.inners.now in
    let last = c.in-Some.last in
    let i = c.in-Some-get.inner.now in
    let m = map pair_of c.args.names.now in
    let e = c.in_err-others.field-0.0 in
    let one = so_far c.buffer_at.new.body in
    let stop : c.from_residual-in_err-others.result ≡ Err e = search rules in
    let next : c.args.count ≡ last + 1 = omega (arith, c.in-Some.ensures) in
    let is : slice_get inners last ≡ Some i = slice_get_read inners (length inners) last i refl c.in-Some-get.ensures.lookup.3.0 c.in-Some-get.ensures.lookup.1 in
    stops c.from_residual-in_err-others.result e _ _ (buffers_at (map inner_seen inners) c.args.spot m (numbers_down last) one)
    (buffers_at (map inner_seen inners) c.args.spot m (numbers_down c.args.count) (so_far c.args.body.now)) stop
    (buffers_stop_later inners c.args.spot m c.args.count last i (so_far c.args.body.now) one (list_statements c.in_ok-first.first.items) next is c.in_ok-first.ensures) c.in_err-others.ensures
