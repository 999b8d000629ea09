use Rattle.std.proofs.Common.{◌≡◌, ℤ, ◌+ℤ◌, ◌-ℤ◌, pos, ◌∙◌, arith}
use Rattle.std.specs.Int.{int_max, int_min}
use Rattle.std.proofs.lemmas.Int.{ints, clamps}
use Rattle.crop.specs.Moving.{clamp_to}
use Rattle.crop.proofs.Rules.{bits, wide_bits, from_ill, from_well}
use Rattle.crop.proofs.plans.number_from.Goals as goal
use mir.Val.{SFits}
use mir.Syntax.{w32}

-- the width of the ends, as it is computed
width_is : (low high l h : ℤ) → SFits w32 low → SFits w32 high → l ≡ bits low → h ≡ bits high
    → wide_bits (wide_bits (wide_bits h -ℤ wide_bits l) +ℤ pos 1) ≡ high -ℤ low +ℤ pos 1
width_is low high l h f g p q = omega (arith, ints)

-- a number at most one outside the ends is computed with no wrap
near_kept : (n low high l most : ℤ) → SFits w32 n → SFits w32 low → SFits w32 high → l ≡ bits low → most ≡ clamp_to (low -ℤ pos 1) (high +ℤ pos 1) n
    → wide_bits (wide_bits most -ℤ wide_bits l) ≡ clamp_to (low -ℤ pos 1) (high +ℤ pos 1) n -ℤ low
near_kept n low high l most fn fl fh pl e = omega (arith, ints, clamps)

-- the number or the nearer end, as it is computed
near_is : (n low high x l h least most : ℤ) → SFits w32 n → SFits w32 low → SFits w32 high → x ≡ bits n → l ≡ bits low → h ≡ bits high
    → least ≡ int_min (wide_bits x) (wide_bits (wide_bits h +ℤ pos 1)) → most ≡ int_max (wide_bits least) (wide_bits (wide_bits l -ℤ pos 1))
    → wide_bits (wide_bits most -ℤ wide_bits l) ≡ clamp_to (low -ℤ pos 1) (high +ℤ pos 1) n -ℤ low
near_is n low high x l h least most fn fl fh px pl ph e f =
    let p : wide_bits x ≡ n = omega (arith, ints) in
    let q : wide_bits (wide_bits h +ℤ pos 1) ≡ high +ℤ pos 1 = omega (arith, ints) in
    let r : wide_bits (wide_bits l -ℤ pos 1) ≡ low -ℤ pos 1 = omega (arith, ints) in
    let first : least ≡ int_min n (high +ℤ pos 1) = e ∙ (λ i. int_min (p i) (q i)) in
    let kept : wide_bits least ≡ least = omega (arith, ints, clamps, first) in
    let second : most ≡ clamp_to (low -ℤ pos 1) (high +ℤ pos 1) n = f ∙ (λ i. int_max ((kept ∙ first) i) (r i)) in
    near_kept n low high l most fn fl fh pl second

pub returns-then-not-fits : goal.returns-then-not-fits
returns-then-not-fits c =
    let width = wide_bits (wide_bits (wide_bits c.from-high.result -ℤ wide_bits c.from-low.result) +ℤ pos 1) in
    from_ill c.fits.result width c.args.number c.args.low c.args.high c.fits.ensures c.if-not-fits.true (omega (arith, ints))

pub overflow_sub-max : goal.overflow_sub-max
overflow_sub-max c = omega (arith, ints, clamps, c.min.ensures.value, c.max.ensures.value)

pub returns : goal.returns
returns c =
    let a = c.args in
    let l = c.from-low in
    let h = c.from-high in
    let width = wide_bits (wide_bits (wide_bits h.result -ℤ wide_bits l.result) +ℤ pos 1) in
    let near = wide_bits (wide_bits c.max.result -ℤ wide_bits l.result) in
    let p = width_is a.low a.high l.result h.result c.ranges.low c.ranges.high l.ensures h.ensures in
    let q =
    near_is a.number a.low a.high c.from.result l.result h.result c.min.result c.max.result
    c.ranges.number c.ranges.low c.ranges.high c.from.ensures l.ensures h.ensures c.min.ensures.value c.max.ensures.value in
    from_well c.fits.result c.small.result width near a.number a.low a.high c.fits.ensures c.if-not-fits.false p c.small.ensures q
