use Rattle.std.proofs.Common.{◌≡◌, ◌+◌, ◌<◌, ◌∙◌, ◌∷◌, [], ℕ, List, Bool, false, replicate, length-append, sym, ap, subst, length, arith, Some, inl, inr}
use Rattle.std.specs.Prelude.{All, slice_get}
use Rattle.std.proofs.lemmas.Bool.{cases_lt}
use Rattle.std.proofs.lemmas.List.{length-map, length-replicate}
use Rattle.plan.specs.View.{plan_of}
use Rattle.plan.specs.Certificate.Certificate.{certificate_of}
use Rattle.plan.specs.Certificate.Cells.{cells, pieces}
use Rattle.orders.specs.Work.{OwnIsParted}
use Rattle.orders.specs.declared.lists.Piece.{Piece}
use Rattle.shares.specs.Seats.{piece_of}
use Rattle.shares.specs.Layout.{OwnIsInside, own_list}
use Rattle.shares.specs.Taken.{AreTaken, free_count}
use Rattle.shares.proofs.Owning.{both_true}
use Rattle.shares.proofs.Apart.{parted_more}
use Rattle.shares.proofs.Groups.{push_each}
use Rattle.shares.proofs.Taking.{taken_none, taken_parted, taken_whole, taken_gap, free_start, none_over, some_over}
use Rattle.shares.proofs.owners.owners_of.Goals as goal

abbrev HasOwn : (ℕ → List ℕ) → List Piece → Type 0
HasOwn own ps = (m : ℕ) (x : Piece) → slice_get ps m ≡ Some x → x.own ≡ own m

pub loop-piece-init : goal.loop-piece-init
loop-piece-init c =
    let p = plan_of c.args.layout.now.plan.now in let cert = certificate_of c.args.layout.now.cert.now in
    let own = own_list p cert in
    let is : c.in_ok-taken.taken ≡ replicate c.args.count false = c.in_ok-taken.ensures in
    let none = c.in_ok-pieces.ensures.items in
    record {
      taken = subst (λ (bs : List Bool). AreTaken own bs 0 0) (sym is) (taken_none own c.args.count);
      long = ap length is ∙ length-replicate c.args.count false;
      free = ap free_count is ∙ free_start c.args.count;
      count = ap length none;
      own = subst (HasOwn own) (sym none) (λ n x at. absurd (cc at));
      inside = λ _ i less. absurd (omega (arith, less));
    }

pub returns-then-not-take_cells-clause-overlap : goal.returns-then-not-take_cells-clause-overlap
returns-then-not-take_cells-clause-overlap c =
    let p = plan_of c.args.layout.now.plan.now in let cert = certificate_of c.args.layout.now.cert.now in
    let own = own_list p cert in
    let n = c.loop-piece.piece in
    let taken = c.loop-piece.taken in
    let ready = c.requires.layout in
    let less : n < length c.args.layout.now.seats.items = omega (arith, c.loop-piece-test.true, c.len-piece-end.ensures, c.args.layout.now.seats.ok.0) in
    let many : length c.args.layout.now.seats.items ≡ length (pieces p) = sym (length-map c.args.layout.now.seats.items piece_of) ∙ ap length ready.seats in
    let e : own n ≡ c.in_ok-own.own.cells = sym c.in_ok-own.ensures.numbers in
    let before = c.loop-piece.invariant.taken in
    let Parted : ℕ → Type 0 = λ k. OwnIsParted (n + 1) k own in
    let Within : List ℕ → Type 0 = λ xs. All (λ k. k < length (cells p)) xs in
    let all : length taken ≡ length (cells p) = c.loop-piece.invariant.long ∙ c.requires.count in
    let parted = taken_parted own taken n (length (cells p)) c.loop-piece.invariant.taken all in
    let here : Within (own n) = subst Within c.in_ok-own.ensures.numbers c.in_ok-own.ensures.within in
    (less, λ apart. c.take_cells.ensures.fault own n e before c.if-not-take_cells.true (subst Parted (sym all) (parted_more p cert n (omega (arith, less, many)) parted here apart)))

pub loop-piece-preserved : goal.loop-piece-preserved
loop-piece-preserved c =
    let p = plan_of c.args.layout.now.plan.now in let cert = certificate_of c.args.layout.now.cert.now in
    let own = own_list p cert in
    let n = c.loop-piece.piece in
    let taken = c.loop-piece.taken in
    let new = c.take_cells.new.self in
    let e : own n ≡ c.in_ok-own.own.cells = sym c.in_ok-own.ensures.numbers in
    let before = c.loop-piece.invariant.taken in
    let made = c.in_ok-push_own.ensures in
    let old = c.loop-piece.pieces.items in
    let taking = c.if-not-take_cells.false in
    let fell = c.take_cells.ensures.count taking in
    let was = c.loop-piece.invariant.free in
    let len = c.len-in-loop-piece.ensures.count in
    let more = length-append old (made.0 ∷ []) in
    let long = ap length made.1 in
    let count = c.loop-piece.invariant.count in
    let here : made.0.own ≡ own (length old) = made.2 ∙ c.in_ok-own.ensures.numbers ∙ ap own (sym count) in
    record {
      taken = c.take_cells.ensures.taken own n e before taking;
      long = c.take_cells.ensures.length ∙ c.loop-piece.invariant.long;
      free = omega (arith, fell, was, len);
      count = omega (arith, more, long, count);
      own = subst (HasOwn own) (sym made.1) (push_each (λ m x. x.own ≡ own m) old made.0 c.loop-piece.invariant.own here);
      inside = λ yes i less.
          let both = both_true c.loop-piece.inside c.in_ok-own.own.whole yes in
          elim (cases_lt i n) [
            | inl low ↦ c.loop-piece.invariant.inside both.0 i low
            | inr from ↦ (let this : n ≡ i = omega (arith, less, from) in subst (OwnIsInside p cert) this (c.in_ok-own.ensures.whole.0 both.1))
          ];
    }

pub returns-clause-owned : goal.returns-clause-owned
returns-clause-owned c =
    let p = plan_of c.args.layout.now.plan.now in let cert = certificate_of c.args.layout.now.cert.now in
    let seats = c.args.layout.now.seats.items in
    let taken = c.loop-piece.taken in
    let many : length seats ≡ length (pieces p) = sym (length-map seats piece_of) ∙ ap length c.requires.layout.seats in
    let end : c.loop-piece.piece ≡ length (pieces p) = omega (arith, many, c.loop-piece-test.false, c.loop-piece.auto.piece-end, c.len-piece-end.ensures, c.args.layout.now.seats.ok.0) in
    let own = own_list p cert in
    let all : AreTaken own taken (length (pieces p)) 0 = subst (λ (k : ℕ). AreTaken own taken k 0) end c.loop-piece.invariant.taken in
    let long : length taken ≡ length (cells p) = c.loop-piece.invariant.long ∙ c.requires.count in
    let free = c.loop-piece.invariant.free in
    record {
      own = record { count = c.loop-piece.invariant.count ∙ end; each = c.loop-piece.invariant.own };
      parted = taken_parted own taken (length (pieces p)) (length (cells p)) all long;
      whole = λ none. taken_whole own taken (length (pieces p)) (length (cells p)) all long (free ∙ none_over c.loop-piece.free none);
      gap = λ some. let y = taken_gap own taken (length (pieces p)) (length (cells p)) all long (let some = some_over c.loop-piece.free some in omega (arith, free, some)) in (y.0, (y.1, y.2));
      inside = λ yes i less. c.loop-piece.invariant.inside yes i (omega (arith, less, end));
    }
