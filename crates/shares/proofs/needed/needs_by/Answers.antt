use Rattle.std.proofs.Common.{◌≡◌, ◌∙◌, ◌++◌, ℕ, List, map, sym, ap, subst, length, arith, Bor, Err}
use Rattle.std.specs.Prelude.{Contains, ◌↔◌}
use Rattle.plan.specs.Plan.{Plan}
use Rattle.plan.specs.View.{plan_of}
use Rattle.plan.specs.declared.certificate.cert.Need.{Need}
use Rattle.plan.specs.Certificate.Certificate.{certificate_of}
use Rattle.shares.specs.Counts.{with_lines}
use Rattle.shares.specs.Seats.{piece_of}
use Rattle.shares.specs.Needed.{all_numbers, NeedsAreInside}
use Rattle.shares.specs.Layout.{needs_list}
use Rattle.shares.proofs.Counting.{need_stops}
use Rattle.shares.proofs.Gathering.{joined, inside_here, lines_here, list_here, needs_within}
use Rattle.shares.proofs.Seated.{seat_small}
use Rattle.shares.proofs.needed.needs_by.Goals as goal

pub index-own_lines-requires : goal.index-own_lines-requires
index-own_lines-requires c =
    let less = needs_within c.args.layout.now c.requires.layout c.args.lines.now c.args.piece c.index-seat.result.now c.requires.piece c.index-seat.ensures c.args.gathered.now.items c.requires.gathered in
    omega (arith, less, c.args.gathered.now.ok.0)

pub named_by-requires-clause-lines : goal.named_by-requires-clause-lines
named_by-requires-clause-lines c =
    let f : Bor Need → Need = λ n. n.now in
    lines_here c.args.layout.now c.requires.layout c.args.lines.now c.args.piece c.index-seat.result.now c.requires.piece c.index-seat.ensures c.args.gathered.now.items c.requires.gathered c.index-own_lines.result.now
    c.index-own_lines.ensures (map f c.args.moving.now) c.requires.moving

pub named_by-requires-clause-at : goal.named_by-requires-clause-at
named_by-requires-clause-at c = seat_small c.args.layout.now c.requires.layout c.args.piece c.index-seat.result.now c.requires.piece c.index-seat.ensures

pub returns-in-Err-clause-stop : goal.returns-in-Err-clause-stop
returns-in-Err-clause-stop c =
    let x = c.args.layout.now in
    let p : Plan = plan_of x.plan.now in
    let s = c.index-seat.result.now in
    let y = c.index-own_lines.result.now in
    let f : Bor Need → Need = λ n. n.now in
    let inside = inside_here x c.requires.layout c.args.lines.now c.args.piece s c.requires.piece c.index-seat.ensures c.args.gathered.now.items c.requires.gathered y c.index-own_lines.ensures (map f c.args.moving.now) c.requires.moving in
    need_stops p (with_lines (certificate_of x.cert.now) c.args.lines.now) c.args.piece c.args.room c.in-Err.stop
    (λ e all. c.named_by.ensures.unserved (c.in-Err.is ∙ ap Err e) (inside.1 all))
    (λ e. c.named_by.ensures.room (c.in-Err.is ∙ ap Err e))

pub returns-then-as_slice-room-clause-stop : goal.returns-then-as_slice-room-clause-stop
returns-then-as_slice-room-clause-stop c =
    let x = c.args.layout.now in
    let p : Plan = plan_of x.plan.now in
    let ns = c.args.lines.now in
    let s = c.index-seat.result.now in
    let y = c.index-own_lines.result.now in
    let f : Bor Need → Need = λ n. n.now in
    let ms = map f c.args.moving.now in
    let inside = (inside_here x c.requires.layout ns c.args.piece s c.requires.piece c.index-seat.ensures c.args.gathered.now.items c.requires.gathered y c.index-own_lines.ensures ms c.requires.moving).0 c.in-Ok.ensures.known in
    let now = c.settle.new.numbers.items in
    let named = c.in-Ok.needed.items in
    let all = all_numbers p (piece_of s) ms in
    let pushed : c.push_all.new.numbers.items ≡ named ++ y.numbers.items = c.in_ok-push_all.ensures ∙ ap (λ (ms : List ℕ). named ++ ms) c.deref.ensures.value in
    let settled : (i : ℕ) → Contains now i ↔ Contains (named ++ y.numbers.items) i = λ i. subst (λ (ms : List ℕ). Contains now i ↔ Contains ms i) pushed (c.in_ok-settle.ensures.members i) in
    let list : now ≡ needs_list p (with_lines (certificate_of x.cert.now) ns) c.args.piece =
    list_here x c.requires.layout ns c.args.piece s c.requires.piece c.index-seat.ensures c.args.gathered.now.items c.requires.gathered y c.index-own_lines.ensures ms c.requires.moving c.requires.lines inside now c.in_ok-settle.ensures.rises
    (joined now named y.numbers.items all settled c.in-Ok.ensures.members) in
    let long = ap length list in
    let slice = ap length c.as_slice.ensures.value in
    omega (arith, c.if-as_slice-room.true, long, slice)

pub returns-clause-list : goal.returns-clause-list
returns-clause-list c =
    let x = c.args.layout.now in
    let p : Plan = plan_of x.plan.now in
    let ns = c.args.lines.now in
    let s = c.index-seat.result.now in
    let y = c.index-own_lines.result.now in
    let f : Bor Need → Need = λ n. n.now in
    let ms = map f c.args.moving.now in
    let inside = (inside_here x c.requires.layout ns c.args.piece s c.requires.piece c.index-seat.ensures c.args.gathered.now.items c.requires.gathered y c.index-own_lines.ensures ms c.requires.moving).0 c.in-Ok.ensures.known in
    let now = c.settle.new.numbers.items in
    let named = c.in-Ok.needed.items in
    let all = all_numbers p (piece_of s) ms in
    let pushed : c.push_all.new.numbers.items ≡ named ++ y.numbers.items = c.in_ok-push_all.ensures ∙ ap (λ (ms : List ℕ). named ++ ms) c.deref.ensures.value in
    let settled : (i : ℕ) → Contains now i ↔ Contains (named ++ y.numbers.items) i = λ i. subst (λ (ms : List ℕ). Contains now i ↔ Contains ms i) pushed (c.in_ok-settle.ensures.members i) in
    list_here x c.requires.layout ns c.args.piece s c.requires.piece c.index-seat.ensures c.args.gathered.now.items c.requires.gathered y c.index-own_lines.ensures ms c.requires.moving c.requires.lines inside now c.in_ok-settle.ensures.rises
    (joined now named y.numbers.items all settled c.in-Ok.ensures.members)

pub returns-clause-known : goal.returns-clause-known
returns-clause-known c =
    let x = c.args.layout.now in
    let s = c.index-seat.result.now in
    let y = c.index-own_lines.result.now in
    let f : Bor Need → Need = λ n. n.now in
    (inside_here x c.requires.layout c.args.lines.now c.args.piece s c.requires.piece c.index-seat.ensures c.args.gathered.now.items c.requires.gathered y c.index-own_lines.ensures (map f c.args.moving.now) c.requires.moving).0 c.in-Ok.ensures.known
