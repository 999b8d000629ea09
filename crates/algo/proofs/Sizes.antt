-- The number of a reduction domain's points.
use Rattle.std.proofs.Common.{◌≡◌, ◌+◌, ◌*◌, ◌<◌, ◌≤◌, ℕ, suc, List, [], ◌∷◌, length, map, drop, drop-cons, get_or, ℤ, refl, ap, sym, ◌∙◌, arith}
use Rattle.std.proofs.Math.Nat.{mul_assoc}
use Rattle.std.proofs.Math.Nat.{mul-le-mul_left}
use Rattle.meaning.specs.Algorithm.{Range}
use Rattle.meaning.specs.Reduction.{size, width}
use Rattle.meaning.proofs.Points.{size_is_positive}
use Rattle.algo.specs.Scoping.Ranges.{ends, unnamed}

-- it needs no names
pub size-ends : (ds : List Range) → size (map unnamed (map ends ds)) ≡ size ds
size-ends [] = refl
size-ends (d ∷ ds) = ap (λ n. width d * n) (size-ends ds)

abbrev points_of : List (ℤ × ℤ) → ℕ
points_of rs = size (map unnamed rs)

size-split : (rs : List (ℤ × ℤ)) (i : ℕ) (d : ℤ × ℤ) → i < length rs → points_of (drop i rs) ≡ width (unnamed (get_or rs i d)) * points_of (drop (i + 1) rs)
size-split rs i d lt =
    let next : suc i ≡ i + 1 = omega arith in
    ap points_of (drop-cons rs i d lt) ∙ ap (λ j. width (unnamed (get_or rs i d)) * points_of (drop j rs)) next

-- the points of the ranges so far, times those of the rest, are all
pub size-more : (rs : List (ℤ × ℤ)) (i : ℕ) (d : ℤ × ℤ) (points more : ℕ) → i < length rs → more ≡ points * width (unnamed (get_or rs i d))
    → points * points_of (drop i rs) ≡ points_of rs → more * points_of (drop (i + 1) rs) ≡ points_of rs
size-more rs i d points more lt product so_far =
    let rest = points_of (drop (i + 1) rs) in
    ap (λ n. n * rest) product ∙ mul_assoc points (width (unnamed (get_or rs i d))) rest ∙ ap (λ n. points * n) (sym (size-split rs i d lt)) ∙ so_far

too_many : (n rest total bound limit : ℕ) → n * rest ≡ total → 0 < rest → (n < bound → ⊥) → limit < bound → total ≤ limit → ⊥
too_many n rest total bound limit product some big small h =
    let least : n * 1 ≤ n * rest = mul-le-mul_left n (let one : 1 ≤ rest = omega (arith, some) in one) in
    big (omega (arith, least, product, small, h))

-- points above a bound are above each limit below the bound, whatever ranges follow
pub size-above : (rs : List (ℤ × ℤ)) (i : ℕ) (d : ℤ × ℤ) (points bound limit : ℕ) → i < length rs → (points * width (unnamed (get_or rs i d)) < bound → ⊥) → limit < bound
    → points * points_of (drop i rs) ≡ points_of rs → points_of rs ≤ limit → ⊥
size-above rs i d points bound limit lt big small so_far h =
    too_many (points * width (unnamed (get_or rs i d))) (points_of (drop (i + 1) rs)) (points_of rs) bound limit
    (size-more rs i d points (points * width (unnamed (get_or rs i d))) lt refl so_far) (size_is_positive (map unnamed (drop (i + 1) rs))) big small h
