use Rattle.std.proofs.Common.{◌≡◌, ◌∙◌, ◌+◌, ◌≤◌, ◌^◌, ◌∷◌, [], ℕ, List, Some, length, length-append, ap, arith, get_or, subst, sym}
use Rattle.std.specs.Prelude.{All, slice_get}
use Rattle.shares.specs.Blocks.{AreLows}
use Rattle.shares.specs.Boxes.{IsSmall}
use Rattle.shares.specs.declared.seats.Seat.{Seat}
use Rattle.shares.proofs.Blocking.{all_last, all_none, get_last}
use Rattle.shares.proofs.blocks.lows.Goals as goal

pub loop-place-init : goal.loop-place-init
loop-place-init c =
    let none = sym c.new-low.ensures.items in
    record {
      lows = subst (AreLows c.args.seats.now) none (λ i v e. absurd (cc e));
      small = subst IsSmall none (all_none (λ (x : ℕ). x ≤ 2 ^ 20));
      long = ap length c.new-low.ensures.items;
    }

pub loop-place-preserved : goal.loop-place-preserved
loop-place-preserved c =
    let xs = c.args.seats.now in
    let old = c.loop-place.low.items in
    let v = c.least_at.result in
    let pushed = c.in_ok-push.ensures.items in
    let Lows : ℕ → ℕ → Type 0 = λ i w. All (λ (x : Seat). w ≤ get_or x.at.items i 0) xs in
    record {
      lows = subst (AreLows xs) (sym pushed) (get_last old v Lows c.loop-place.invariant.lows (subst (λ (i : ℕ). Lows i v) (sym c.loop-place.invariant.long) c.least_at.ensures.least));
      small = subst IsSmall (sym pushed) (all_last (λ (x : ℕ). x ≤ 2 ^ 20) old v c.loop-place.invariant.small c.least_at.ensures.small);
      long = ap length pushed ∙ length-append old (v ∷ []) ∙ ap (λ (n : ℕ). n + 1) c.loop-place.invariant.long;
    }
