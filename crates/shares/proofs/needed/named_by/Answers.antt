use Rattle.std.proofs.Common.{◌≡◌, ◌∙◌, ◌+◌, ◌++◌, ◌<◌, ℕ, List, map, sym, ap, subst, length, arith, drop, append_assoc, get_or, Bor}
use Rattle.std.specs.Prelude.{Contains}
use Rattle.std.proofs.lemmas.List.{append-nil, length-map}
use Rattle.std.proofs.lemmas.List.Elements.{All-nil}
use Rattle.plan.specs.Plan.{Plan}
use Rattle.plan.specs.View.{plan_of}
use Rattle.plan.specs.declared.certificate.cert.Need.{Need}
use Rattle.plan.specs.Certificate.Cells.{Piece}
use Rattle.shares.specs.Seats.{piece_of}
use Rattle.shares.specs.Shared.{NeedIsShared}
use Rattle.shares.specs.Needed.{need_numbers, all_numbers, NeedIsInside, NeedsAreInside}
use Rattle.shares.specs.declared.stop.Stop.TheVariants.{Unserved, Large}
use Rattle.shares.proofs.Counting.{err_kept}
use Rattle.shares.proofs.Needing.{same_front, next_needs, next_inside, inside_split, lent_at, no_needs}
use Rattle.shares.proofs.needed.named_by.Goals as goal

pub loop-need-init : goal.loop-need-init
loop-need-init c =
    let f : Bor Need → Need = λ n. n.now in
    let none = c.new-needed.ensures.items in
    let all = all_numbers (plan_of c.args.layout.now.plan.now) (piece_of c.args.seat.now) (map f c.args.lines.now) in
    let e = ap (λ (xs : List ℕ). xs ++ all) none in
    record {
      members = λ i. let Has : List ℕ → Type 0 = λ xs. Contains xs i in ((λ m. subst Has e m), (λ m. subst Has (sym e) m));
      known = ((λ h. h), (λ h. h));
    }

pub need_line-requires-clause-need : goal.need_line-requires-clause-need
need_line-requires-clause-need c =
    let x = c.args.layout.now in
    let p : Plan = plan_of x.plan.now in
    let j : Piece = piece_of c.args.seat.now in
    let f : Bor Need → Need = λ n. n.now in
    let ls = c.args.lines.now in
    let ns = map f ls in
    let k = c.loop-need.need-index in
    let d : Bor Need = c.need-item.result in
    let long = length-map ls f in
    let less : k < length ns = omega (arith, c.loop-need-test.true, long) in
    let is : d.now ≡ get_or ns k d.now = ap f c.need-item.is ∙ sym (lent_at ls k d) in
    subst (NeedIsShared p) (sym is) (c.requires.lines k d.now less).1

pub need_line-requires-clause-group : goal.need_line-requires-clause-group
need_line-requires-clause-group c =
    let x = c.args.layout.now in
    let p : Plan = plan_of x.plan.now in
    let j : Piece = piece_of c.args.seat.now in
    let f : Bor Need → Need = λ n. n.now in
    let ls = c.args.lines.now in
    let ns = map f ls in
    let k = c.loop-need.need-index in
    let d : Bor Need = c.need-item.result in
    let long = length-map ls f in
    let less : k < length ns = omega (arith, c.loop-need-test.true, long) in
    let is : d.now ≡ get_or ns k d.now = ap f c.need-item.is ∙ sym (lent_at ls k d) in
    subst (λ (n : Need). n.group ≡ c.args.seat.now.group) (sym is) (c.requires.lines k d.now less).0

pub loop-need-preserved : goal.loop-need-preserved
loop-need-preserved c =
    let x = c.args.layout.now in
    let p : Plan = plan_of x.plan.now in
    let j : Piece = piece_of c.args.seat.now in
    let f : Bor Need → Need = λ n. n.now in
    let ls = c.args.lines.now in
    let ns = map f ls in
    let k = c.loop-need.need-index in
    let d : Bor Need = c.need-item.result in
    let long = length-map ls f in
    let less : k < length ns = omega (arith, c.loop-need-test.true, long) in
    let is : d.now ≡ get_or ns k d.now = ap f c.need-item.is ∙ sym (lent_at ls k d) in
    let old = c.loop-need.needed.items in
    let N = need_numbers p j d.now in
    let L = all_numbers p j (drop (k + 1) ns) in
    let next : all_numbers p j (drop k ns) ≡ N ++ L = next_needs p j ns k d.now less ∙ ap (λ (n : Need). need_numbers p j n ++ L) (sym is) in
    let e : (old ++ N) ++ L ≡ old ++ all_numbers p j (drop k ns) = append_assoc old N L ∙ ap (λ (ms : List ℕ). old ++ ms) (sym next) in
    let known = c.loop-need.invariant.known in
    record {
      members = λ i.
          let front = same_front c.settle_doubled.new.numbers.items c.need_line.new.needed.items L c.in_ok-settled.ensures i in
          let before = c.loop-need.invariant.members i in
          let Has : List ℕ → Type 0 = λ xs. Contains xs i in
          let path = ap (λ (ms : List ℕ). ms ++ L) c.in_ok-need_line.ensures.numbers ∙ e in
          ((λ m. before.0 (subst Has path (front.0 m))), (λ m. front.1 (subst Has (sym path) (before.1 m))));
      known = (
        (λ later. known.0 (next_inside p j ns k d.now less (subst (NeedIsInside p j) is c.in_ok-need_line.ensures.known) later)),
        (λ all. (inside_split p j ns k d.now less (known.1 all)).1),
      );
    }

pub returns-in_err-need_line-clause-unserved : goal.returns-in_err-need_line-clause-unserved
returns-in_err-need_line-clause-unserved c e all =
    let x = c.args.layout.now in
    let p : Plan = plan_of x.plan.now in
    let j : Piece = piece_of c.args.seat.now in
    let f : Bor Need → Need = λ n. n.now in
    let ls = c.args.lines.now in
    let ns = map f ls in
    let k = c.loop-need.need-index in
    let d : Bor Need = c.need-item.result in
    let long = length-map ls f in
    let less : k < length ns = omega (arith, c.loop-need-test.true, long) in
    let is : d.now ≡ get_or ns k d.now = ap f c.need-item.is ∙ sym (lent_at ls k d) in
    let here = (inside_split p j ns k d.now less (c.loop-need.invariant.known.1 all)).0 in
    c.need_line.ensures.unserved (err_kept c.from_residual.result c.need_line.result c.in_err-need_line.field-0.0 Unserved c.from_residual.ensures.1 c.in_err-need_line.was e) (subst (NeedIsInside p j) (sym is) here)

pub returns-in_err-need_line-clause-room : goal.returns-in_err-need_line-clause-room
returns-in_err-need_line-clause-room c e = c.need_line.ensures.room (err_kept c.from_residual.result c.need_line.result c.in_err-need_line.field-0.0 Large c.from_residual.ensures.1 c.in_err-need_line.was e)

pub returns-clause-members : goal.returns-clause-members
returns-clause-members c i =
    let x = c.args.layout.now in
    let p : Plan = plan_of x.plan.now in
    let j : Piece = piece_of c.args.seat.now in
    let f : Bor Need → Need = λ n. n.now in
    let ns = map f c.args.lines.now in
    let k = c.loop-need.need-index in
    let now = c.loop-need.needed.items in
    let long = length-map c.args.lines.now f in
    let none = no_needs ns k (omega (arith, c.loop-need-test.false, c.loop-need.auto.need-index-end, long)) in
    let e = ap (λ (ms : List Need). now ++ all_numbers p j ms) none ∙ append-nil now in
    let here = c.loop-need.invariant.members i in
    let Has : List ℕ → Type 0 = λ xs. Contains xs i in
    ((λ m. here.0 (subst Has (sym e) m)), (λ m. subst Has e (here.1 m)))

pub returns-clause-known : goal.returns-clause-known
returns-clause-known c =
    let p : Plan = plan_of c.args.layout.now.plan.now in
    let j : Piece = piece_of c.args.seat.now in
    let f : Bor Need → Need = λ n. n.now in
    let ns = map f c.args.lines.now in
    let k = c.loop-need.need-index in
    let long = length-map c.args.lines.now f in
    let none = no_needs ns k (omega (arith, c.loop-need-test.false, c.loop-need.auto.need-index-end, long)) in
    c.loop-need.invariant.known.0 (subst (NeedsAreInside p j) (sym none) (All-nil (NeedIsInside p j)))
