use Rattle.std.proofs.Common.{◌≡◌, ◌∙◌, ◌+◌, ◌≤◌, ◌^◌, ◌∷◌, [], ℕ, List, Some, length, length-append, ap, arith, get_or, subst, sym}
use Rattle.std.specs.Prelude.{All, slice_get}
use Rattle.shares.specs.Blocks.{AreHighs}
use Rattle.shares.specs.Boxes.{IsSmall}
use Rattle.shares.specs.declared.seats.Seat.{Seat}
use Rattle.shares.proofs.Blocking.{all_last, all_none, get_last}
use Rattle.shares.proofs.blocks.highs.Goals as goal

pub loop-place-init : goal.loop-place-init
loop-place-init c =
    let none = sym c.new-high.ensures.items in
    record {
      highs = subst (AreHighs c.args.seats.now) none (λ i v e. absurd (cc e));
      small = subst IsSmall none (all_none (λ (x : ℕ). x ≤ 2 ^ 20));
      long = ap length c.new-high.ensures.items;
    }

pub loop-place-preserved : goal.loop-place-preserved
loop-place-preserved c =
    let xs = c.args.seats.now in
    let old = c.loop-place.high.items in
    let v = c.greatest_at.result in
    let pushed = c.in_ok-push.ensures.items in
    let Highs : ℕ → ℕ → Type 0 = λ i w. All (λ (x : Seat). get_or x.at.items i 0 ≤ w) xs in
    record {
      highs = subst (AreHighs xs) (sym pushed) (get_last old v Highs c.loop-place.invariant.highs (subst (λ (i : ℕ). Highs i v) (sym c.loop-place.invariant.long) c.greatest_at.ensures.greatest));
      small = subst IsSmall (sym pushed) (all_last (λ (x : ℕ). x ≤ 2 ^ 20) old v c.loop-place.invariant.small c.greatest_at.ensures.small);
      long = ap length pushed ∙ length-append old (v ∷ []) ∙ ap (λ (n : ℕ). n + 1) c.loop-place.invariant.long;
    }

pub returns-clause-long : goal.returns-clause-long
returns-clause-long c =
    let long = c.loop-place.invariant.long in
    let end = c.loop-place.auto.place-end in
    let past = c.loop-place-test.false in
    omega (arith, long, end, past)
