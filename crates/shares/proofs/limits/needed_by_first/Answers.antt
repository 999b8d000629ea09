use Rattle.std.proofs.Common.{◌≡◌, ◌∙◌, ◌+◌, ◌<◌, ℕ, zero, suc, List, [], ◌∷◌, length, map, take, sym, ap, subst, arith, Bor, Vec, Global}
use Rattle.std.specs.Prelude.{All}
use Rattle.std.specs.List.{AllByRecursion}
use Rattle.std.proofs.lemmas.List.{length-map}
use Rattle.std.proofs.lemmas.List.Elements.{recursion_from_All, All-from_recursion}
use Rattle.plan.specs.Plan.{Plan}
use Rattle.plan.specs.View.{plan_of}
use Rattle.plan.specs.declared.certificate.cert.Need.{Need}
use Rattle.plan.specs.Certificate.Certificate.{Certificate, certificate_of}
use Rattle.plan.specs.Certificate.Cells.{pieces}
use Rattle.shares.specs.Counts.{with_lines, with_needs}
use Rattle.shares.specs.Filed.{AreFiled}
use Rattle.shares.specs.Has.{NeedsPieces}
use Rattle.shares.specs.Layout.{needs_list}
use Rattle.shares.specs.Seats.{piece_of}
use Rattle.shares.specs.Shared.{NeedIsShared}
use Rattle.shares.specs.Stops.{NeedStops}
use Rattle.shares.specs.Blocks.{StandFor}
use Rattle.shares.proofs.Blocking.{walk_later}
use Rattle.shares.proofs.Gathering.{have_lines}
use Rattle.shares.proofs.Counting.{needed_least, needed_next}
use Rattle.shares.proofs.Filing.{row}
use Rattle.shares.proofs.Prefixes.{unserved_taken}
use Rattle.shares.proofs.limits.needed_by_first.Goals as goal

pub gathered_needs-requires-clause-filed : goal.gathered_needs-requires-clause-filed
gathered_needs-requires-clause-filed c =
    let a = c.len.ensures in
    let b = c.args.layout.now.plan.now.groups.ok.0 in
    let same : c.len.result ≡ length c.args.layout.now.plan.now.groups.items = omega (arith, a, b) in
    let lines = take c.args.count c.deref.result.now in
    subst (λ (ls : List (Vec (Bor Need) Global)). AreFiled lines (length c.args.layout.now.plan.now.groups.items) (map row ls)) (sym c.deref-2.ensures.value)
    (subst (λ (n : ℕ). AreFiled lines n (map row c.in_ok-filed.filed.items)) same c.in_ok-filed.ensures)

pub step_to-requires-clause-gathered : goal.step_to-requires-clause-gathered
step_to-requires-clause-gathered c =
    have_lines (plan_of c.args.layout.now.plan.now) (take c.args.count c.deref.result.now) (length c.args.layout.now.plan.now.groups.items) c.in_ok-gathered.gathered.items c.in_ok-gathered.ensures

each_first : (P : Need → Type 0) (ns : List Need) (n : ℕ) → AllByRecursion P ns → AllByRecursion P (take n ns)
each_first P [] zero h = tt
each_first P [] (suc n) h = tt
each_first P (x ∷ xs) zero h = tt
each_first P (x ∷ xs) (suc n) h = (h.0, each_first P xs n h.1)

all_first : (P : Need → Type 0) (ns : List Need) (n : ℕ) → All P ns → All P (take n ns)
all_first P ns n h = All-from_recursion P (take n ns) (each_first P ns n (recursion_from_All P ns h))

pub loop-piece-init : goal.loop-piece-init
loop-piece-init c = record {
  room = omega arith;
  walk = c.new_walk-walk.ensures c.args.layout.now.seats.items c.in_ok-gathered.gathered.items 0;
}

pub needs_by-requires-clause-lines : goal.needs_by-requires-clause-lines
needs_by-requires-clause-lines c =
    let x = c.args.layout.now in
    subst (λ (ns : List Need). All (NeedIsShared (plan_of x.plan.now)) (take c.args.count ns)) (sym c.deref.ensures.value)
    (all_first (NeedIsShared (plan_of x.plan.now)) x.cert.now.needs.items c.args.count c.requires.layout.shared.needs)

pub needs_by-requires-clause-moving : goal.needs_by-requires-clause-moving
needs_by-requires-clause-moving c =
    subst (λ (ls : List (Bor Need)). StandFor c.args.layout.now.seats.items c.in_ok-gathered.gathered.items c.loop-piece.piece (map (λ n. n.now) ls)) (sym c.deref-in-loop-piece.ensures.value) c.in_ok-step_to.ensures.moving

pub loop-piece-preserved : goal.loop-piece-preserved
loop-piece-preserved c =
    let p : Plan = plan_of c.args.layout.now.plan.now in
    let cert : Certificate = certificate_of c.args.layout.now.cert.now in
    let n = c.loop-piece.piece in
    let list : c.in-Ok.needs.items ≡ needs_list p (with_needs cert c.args.count) n =
    subst (λ (ns : List Need). c.in-Ok.needs.items ≡ needs_list p (with_lines cert (take c.args.count ns)) n) c.deref.ensures.value c.in-Ok.ensures.list in
    let long = ap length list in
    let slice = ap length c.as_slice.ensures.value in
    let more = needed_next p (with_needs cert c.args.count) n in
    let before = c.loop-piece.invariant.room in
    let few = c.in-Ok.ensures.few in
    record {
      room = omega (arith, long, slice, more, before, few);
      walk = walk_later c.args.layout.now.seats.items c.in_ok-gathered.gathered.items n (n + 1) c.step_to.new.walk (omega arith) c.in_ok-step_to.ensures.walk;
    }

pub returns-in-Err-Large-clause-needed : goal.returns-in-Err-Large-clause-needed
returns-in-Err-Large-clause-needed c =
    let x = c.args.layout.now in
    let p : Plan = plan_of x.plan.now in
    let cert : Certificate = certificate_of x.cert.now in
    let n = c.loop-piece.piece in
    let seats = x.seats.items in
    let many : length seats ≡ length (pieces p) = sym (length-map seats piece_of) ∙ ap length c.requires.layout.seats in
    let all = c.len-piece-end.ensures in
    let less : n < length (pieces p) = (let test = c.loop-piece-test.true in omega (arith, test, all, many)) in
    let past : c.loop-piece.room < length (needs_list p (with_needs cert c.args.count) n) =
    subst (λ (ns : List Need). c.loop-piece.room < length (needs_list p (with_lines cert (take c.args.count ns)) n)) c.deref.ensures.value
    (subst (NeedStops p (with_lines cert (take c.args.count c.deref.result.now)) n c.loop-piece.room) c.in-Err-Large.field-0-is c.in-Err-Large.ensures.stop) in
    let least = needed_least p (with_needs cert c.args.count) n (length (pieces p)) less in
    let before = c.loop-piece.invariant.room in
    omega (arith, past, least, before)

pub returns-in-Err-Unserved-clause-unserved : goal.returns-in-Err-Unserved-clause-unserved
returns-in-Err-Unserved-clause-unserved c =
    let x = c.args.layout.now in
    let p : Plan = plan_of x.plan.now in
    let cert : Certificate = certificate_of x.cert.now in
    let n = c.loop-piece.piece in
    let all = c.len-piece-end.ensures in
    let less : n < length x.seats.items = (let test = c.loop-piece-test.true in omega (arith, test, all)) in
    let not : ¬ NeedsPieces p (with_needs cert c.args.count) n =
    subst (λ (ns : List Need). ¬ NeedsPieces p (with_lines cert (take c.args.count ns)) n) c.deref.ensures.value
    (subst (NeedStops p (with_lines cert (take c.args.count c.deref.result.now)) n c.loop-piece.room) c.in-Err-Unserved.field-0-is c.in-Err-Unserved.ensures.stop) in
    (less, unserved_taken p cert c.args.count n not)
