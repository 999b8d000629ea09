-- The numbers of a loop's turns, and sums over them.
use Rattle.std.proofs.Common.{◌≡◌, ℕ, zero, suc, ◌+◌, ◌*◌, ◌^◌, ◌-◌, ◌≤◌, min, false, List, [], ◌∷◌, ◌++◌, length, take, drop, map, flat_map, get_or, length-append, refl, sym, ap, ◌∙◌}
use Rattle.std.proofs.Common.{arith, ℤ, pos, negsuc, ◌+ℤ◌, ◌-ℤ◌, ◌≤ℤ◌, ◌<ℤ◌}
use Rattle.std.specs.Prelude.{sum_by, int_lt}
use Rattle.std.proofs.lemmas.Bool.{ltb-false}
use Rattle.lin.specs.declared.span.Span1.{Span1}
use Rattle.interpreter.proofs.Summing.{rest_of}
use Rattle.report.specs.declared.ranges.Range.{Range}
use Rattle.report.specs.Ranges.{numbers, HoldsEnds}
use Rattle.std.proofs.lemmas.Int.{ints}
use Rattle.std.proofs.lemmas.List.Sums.{sum_by-cons}
use Rattle.std.proofs.Math.Nat.{mul_comm}
use Rattle.plan.specs.Symbols.{Symbols, rising, clipped, points, turns}
use Rattle.interpreter.specs.Visits.{between}
use Rattle.report.specs.Costs.{capped, up_to}
use Rattle.report.proofs.Sums.{both_up_to, saturated, saturated_both}
use lib.IntN.{nat_abs}

pub length-rising : (n : ℕ) (low : ℤ) → length (rising low n) ≡ n
length-rising zero low = refl
length-rising (suc n) low = ap suc (length-rising n (low +ℤ pos 1))

rising-append : (a b : ℕ) (low : ℤ) → rising low (a + b) ≡ rising low a ++ rising (low +ℤ pos a) b
rising-append zero b low =
    let e : low ≡ low +ℤ pos 0 = omega (arith, ints) in
    let f : 0 + b ≡ b = omega arith in
    ap (rising low) f ∙ ap (λ (z : ℤ). rising z b) e
rising-append (suc a) b low =
    let e : low +ℤ pos 1 +ℤ pos a ≡ low +ℤ pos (suc a) = omega (arith, ints) in
    let f : suc a + b ≡ suc (a + b) = omega arith in
    ap (rising low) f
    ∙ ap (λ (l : List ℤ). low ∷ l) (rising-append a b (low +ℤ pos 1) ∙ ap (λ (z : ℤ). rising (low +ℤ pos 1) a ++ rising z b) e)

-- the numbers in two parts
pub between_parts : (low m high : ℤ) → low ≤ℤ m → m ≤ℤ high → between low high ≡ between low m ++ between (m +ℤ pos 1) high
between_parts low m high h k =
    let a : ℕ = nat_abs ((m +ℤ pos 1) -ℤ low) in
    let b : ℕ = nat_abs (high -ℤ m) in
    let e : (high +ℤ pos 1) -ℤ low ≡ pos (a + b) = omega (arith, ints) in
    let f : (m +ℤ pos 1) -ℤ low ≡ pos a = omega (arith, ints) in
    let g : (high +ℤ pos 1) -ℤ (m +ℤ pos 1) ≡ pos b = omega (arith, ints) in
    let i : low +ℤ pos a ≡ m +ℤ pos 1 = omega (arith, ints) in
    ap (λ (d : ℤ). rising low (clipped d)) e
    ∙ rising-append a b low
    ∙ ap (λ (z : ℤ). rising low a ++ rising z b) i
    ∙ ap (λ (d : ℤ). rising low (clipped d) ++ rising (m +ℤ pos 1) b) (sym f)
    ∙ ap (λ (d : ℤ). between low m ++ rising (m +ℤ pos 1) (clipped d)) (sym g)

-- the sum of terms that come to the same as far as a limit
rising_alike : (m : ℕ) (f : ℤ → ℕ) (each : ℕ) (n : ℕ) (low : ℤ) → ((z : ℤ) → low ≤ℤ z → z <ℤ (low +ℤ pos n) → up_to m each ≡ up_to m (f z)) → up_to m (sum_by f (rising low n)) ≡ up_to m (n * each)
rising_alike m f each zero low h = let e : 0 * each ≡ 0 = omega arith in ap (up_to m) (sym e)
rising_alike m f each (suc n) low h =
    let e : suc n * each ≡ each + n * each = omega arith in
    ap (up_to m) (sum_by-cons f low (rising (low +ℤ pos 1) n))
    ∙ both_up_to m (f low) (sum_by f (rising (low +ℤ pos 1) n)) each (n * each) (sym (h low (omega (arith, ints)) (omega (arith, ints))))
    (rising_alike m f each n (low +ℤ pos 1) (λ z a b. h z (omega (arith, ints)) (omega (arith, ints))))
    ∙ ap (up_to m) (sym e)

last : (low high z d : ℤ) → d ≡ (high +ℤ pos 1) -ℤ low → low ≤ℤ z → z <ℤ (low +ℤ pos (clipped d)) → z ≤ℤ high
last low high z (pos k) e a b = omega (arith, ints)
last low high z (negsuc k) e a b = omega (arith, ints)

pub between_alike : (m : ℕ) (f : ℤ → ℕ) (each : ℕ) (low high : ℤ) → ((z : ℤ) → low ≤ℤ z → z ≤ℤ high → up_to m each ≡ up_to m (f z))
    → up_to m (sum_by f (between low high)) ≡ up_to m (length (between low high) * each)
between_alike m f each low high h =
    let n : ℕ = clipped ((high +ℤ pos 1) -ℤ low) in
    rising_alike m f each n low (λ z a b. h z a (last low high z ((high +ℤ pos 1) -ℤ low) refl a b))
    ∙ ap (λ (k : ℕ). up_to m (k * each)) (sym (length-rising n low))

-- a count that stopped, times another
pub multiplied : (each n : ℕ) → min (each * capped n) (2 ^ 64 - 1) ≡ capped (n * each)
multiplied each n =
    ap (λ (m : ℕ). min m (2 ^ 64 - 1)) (mul_comm each (capped n)) ∙ saturated n each (2 ^ 64 - 1)

pub lt_false : (x y : ℤ) → int_lt x y ≡ false → y ≤ℤ x
lt_false (pos a) (pos b) e = omega (arith, ints, ltb-false a b e)
lt_false (pos a) (negsuc b) e = omega (arith, ints)
lt_false (negsuc a) (pos b) e = absurd (cc)
lt_false (negsuc a) (negsuc b) e = omega (arith, ints, ltb-false b a e)

-- how many numbers lie between two
pub gap_counted : (r : Range) (high low : ℤ) (d total : ℕ) → high ≡ r.high → low ≡ r.low → int_lt high low ≡ false → d ≡ nat_abs (high -ℤ low) → total ≡ min (d + 1) (2 ^ 64 - 1) →
    total ≡ capped (length (numbers r))
gap_counted r high low d total eh el le ed et =
    let h : low ≤ℤ high = lt_false high low le in
    let e : (r.high +ℤ pos 1) -ℤ r.low ≡ pos (d + 1) = omega (arith, ints) in
    et ∙ ap capped (sym (length-rising (clipped ((r.high +ℤ pos 1) -ℤ r.low)) r.low ∙ ap clipped e))

-- ---- points

length-map : (f : ℤ → List ℤ) (zs : List ℤ) → length (map f zs) ≡ length zs
length-map f [] = refl
length-map f (z ∷ zs) = ap suc (length-map f zs)

each_longer : (zs : List ℤ) (ps : List (List ℤ)) → length (flat_map (λ p. map (λ z. z ∷ p) zs) ps) ≡ length ps * length zs
each_longer zs [] = let e : 0 * length zs ≡ 0 = omega arith in sym e
each_longer zs (p ∷ ps) =
    let e : suc (length ps) * length zs ≡ length zs + length ps * length zs = omega arith in
    length-append (map (λ z. z ∷ p) zs) (flat_map (λ q. map (λ z. z ∷ q) zs) ps)
    ∙ (λ j. length-map (λ z. z ∷ p) zs j + each_longer zs ps j)
    ∙ sym e

-- the points of one coordinate more
pub points_first : (s : Symbols) (region : List Span1) (x : Span1) (r : Range) (n m total : ℕ) → 1 ≤ length region → x ≡ get_or region 0 x → HoldsEnds s x r
    → n ≡ capped (length (points s (take (length region - 1) (drop 1 region)))) → m ≡ capped (length (numbers r)) → total ≡ min (n * m) (2 ^ 64 - 1) → total ≡ capped (length (points s region))
points_first s [] x r n m total some is ends en em et = absurd (omega arith)
points_first s (y ∷ ys) x r n m total some is ends en em et =
    let rest : take (length (y ∷ ys) - 1) (drop 1 (y ∷ ys)) ≡ ys = rest_of y ys in
    let f : x ≡ y = is in
    let same : numbers r ≡ turns s y = (λ j. between (sym ends.low j) (sym ends.high j)) ∙ ap (turns s) f in
    et
    ∙ (λ j. min ((en ∙ ap (λ (l : List Span1). capped (length (points s l))) rest) j * (em ∙ ap (λ (l : List ℤ). capped (length l)) same) j) (2 ^ 64 - 1))
    ∙ saturated_both (length (points s ys)) (length (turns s y)) (2 ^ 64 - 1)
    ∙ ap capped (sym (each_longer (turns s y) (points s ys)))
