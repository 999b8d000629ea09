use Rattle.std.proofs.Common.{◌≡◌, ℕ, ◌+◌, ◌-◌, ◌*◌, ◌<◌, ◌≤◌, ◌^◌, List, length, drop, get_or, arith, ap, sym, ◌∙◌, w64, to_z, of_z}
use Rattle.std.specs.Prelude.{ℤ, pos, ◌-ℤ◌}
use Rattle.std.proofs.Props.{props}
use Rattle.std.proofs.Math.Logic.{∥∥₁_elim}
use Rattle.plan.specs.Symbols.{clipped}
use Rattle.checked_plan.specs.declared.output.axis.Axis.{Axis}
use Rattle.checked_plan.specs.Output.Axes.{HasNumber, IsOn, point_count, rank_of}
use Rattle.checked_plan.proofs.Ranks.{none, same_length, number_at, rank_step, rank_small}
use Rattle.checked_plan.proofs.Spans.{distance, distance_fits, digit_fits, digit_is}
use Rattle.checked_plan.proofs.output.axis.rank_of.Goals as goal
use lib.IntN.{nat_abs}

-- the code's next number, and that it is small
record IsNext (xs : List Axis) (zs : List ℤ) (p rank : ℕ) : Type 0 where
  is : nat_abs (to_z w64 (of_z w64 (distance (get_or xs (p - 1) none) (get_or zs (p - 1) (pos 0))))) + (get_or xs (p - 1) none).count * rank ≡ rank_of (drop (p - 1) xs) (drop (p - 1) zs)
  small : rank_of (drop (p - 1) xs) (drop (p - 1) zs) < 2 ^ 24

next_is : (xs : List Axis) (zs : List ℤ) (p rank : ℕ) → IsOn xs zs → 0 < p → p ≤ length xs → rank ≡ rank_of (drop p xs) (drop p zs) → point_count xs ≤ 2 ^ 24 → IsNext xs zs p rank
next_is xs zs p rank on some within e few =
    let x = get_or xs (p - 1) none in let z = get_or zs (p - 1) (pos 0) in
    let here : HasNumber x z = number_at xs zs (p - 1) on (omega (arith, some, within)) in
    record {
      is = ap (λ (n : ℕ). n + x.count * rank) (digit_is x z here) ∙ ap (λ (n : ℕ). clipped (z -ℤ x.low) + x.count * n) e ∙ sym (rank_step xs zs p on some within);
      small = rank_small xs zs (2 ^ 24) (p - 1) on few (omega arith);
    }

pub bounds-at-place : goal.bounds-at-place
bounds-at-place c =
    let some = c.loop-place-test.true in let within = c.loop-place.auto.place in
    ∥∥₁_elim c.requires.on (hlevel props) (λ on. let n = same_length c.args.axes.now c.args.at.now on in omega (arith, n, some, within))

pub overflow_sub-rank : goal.overflow_sub-rank
overflow_sub-rank c =
    let some = c.loop-place-test.true in let within = c.loop-place.auto.place in
    let p = c.loop-place.place in
    ∥∥₁_elim c.requires.on (hlevel props) (λ on. distance_fits (get_or c.args.axes.now (p - 1) none) (get_or c.args.at.now (p - 1) (pos 0)) (number_at c.args.axes.now c.args.at.now (p - 1) on (omega (arith, some, within))))

pub overflow_cast-rank : goal.overflow_cast-rank
overflow_cast-rank c =
    let some = c.loop-place-test.true in let within = c.loop-place.auto.place in
    let p = c.loop-place.place in
    ∥∥₁_elim c.requires.on (hlevel props) (λ on. digit_fits (get_or c.args.axes.now (p - 1) none) (get_or c.args.at.now (p - 1) (pos 0)) (number_at c.args.axes.now c.args.at.now (p - 1) on (omega (arith, some, within))))

pub overflow_mul-rank : goal.overflow_mul-rank
overflow_mul-rank c =
    ∥∥₁_elim c.requires.on (hlevel props) (λ on.
    let n = next_is c.args.axes.now c.args.at.now c.loop-place.place c.loop-place.rank on c.loop-place-test.true c.loop-place.auto.place c.loop-place.invariant c.requires.few in
    let is = n.is in let small = n.small in
    omega (arith, is, small))

pub overflow_add-rank : goal.overflow_add-rank
overflow_add-rank c =
    ∥∥₁_elim c.requires.on (hlevel props) (λ on.
    let n = next_is c.args.axes.now c.args.at.now c.loop-place.place c.loop-place.rank on c.loop-place-test.true c.loop-place.auto.place c.loop-place.invariant c.requires.few in
    let is = n.is in let small = n.small in
    omega (arith, is, small))

pub loop-place-preserved : goal.loop-place-preserved
loop-place-preserved c =
    ∥∥₁_elim c.requires.on (hlevel props) (λ on.
    (next_is c.args.axes.now c.args.at.now c.loop-place.place c.loop-place.rank on c.loop-place-test.true c.loop-place.auto.place c.loop-place.invariant c.requires.few).is)
