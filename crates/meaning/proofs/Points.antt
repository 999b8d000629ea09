-- The points of a reduction domain and their ranks.
use Rattle.std.proofs.Common.{◌≡◌, ℕ, suc, ◌+◌, ◌*◌, ◌/◌, ◌%◌, ◌<◌, ◌≤◌, List, [], ◌∷◌, length, Some, refl, sym, ap, ◌∙◌, inl, inr, ◌⊎◌, arith}
use Rattle.std.specs.Prelude.{ℤ, pos, ◌+ℤ◌, ◌-ℤ◌, ◌≤ℤ◌, unsigned_abs}
use Rattle.std.proofs.Math.Nat.{mod-lt, div-lt_iff_lt-mul, div-add-mod, mul-le-mul_left}
use Rattle.std.proofs.lemmas.Nat.{mod-mul-add, div-mul-add}
use Rattle.std.proofs.Math.Decide.{dec_le}
use Rattle.std.proofs.lemmas.Int.{ints}
use Rattle.std.proofs.lemmas.Option.{slice_get-get_or, slice_get_within}
use Rattle.std.proofs.lemmas.List.FromFn.{get_or-map-range_with_len, length-map-range_with_len}
use Rattle.numeric.proofs.Numbers.{signed}
use Rattle.meaning.specs.Algorithm.{Range}
use Rattle.meaning.specs.Reduction.{width, size, point, points, rank}
use Rattle.meaning.specs.Points.{AreRanges, IsIn, IsBefore, StandsAt}

pub size_is_positive : (ds : List Range) → 0 < size ds
size_is_positive [] = omega arith
size_is_positive (d ∷ ds) = omega (arith, mul-le-mul_left (width d) (size_is_positive ds))

-- a number below a product has its quotient below the other factor
quotient_below : (n w m : ℕ) → 0 < w → n < w * m → n / w < m
quotient_below n w m some h = (div-lt_iff_lt-mul {k = w} {x = n} {y = m} some).1 (omega arith)

-- sums and distances of whole numbers
abs_of_sum : (z : ℤ) (n : ℕ) → unsigned_abs ((z +ℤ pos n) -ℤ z) ≡ n
abs_of_sum z n = let e : (z +ℤ pos n) -ℤ z ≡ pos n = omega (arith, signed) in ap unsigned_abs e

back_to : (low z : ℤ) → low ≤ℤ z → low +ℤ pos (unsigned_abs (z -ℤ low)) ≡ z
back_to low z h = omega (arith, ints)

distance_inside : (d : Range) (z : ℤ) → d.low ≤ℤ z → z ≤ℤ d.high → unsigned_abs (z -ℤ d.low) < width d
distance_inside d z h k = omega (arith, ints)

up_to : (d : Range) (n : ℕ) → d.low ≤ℤ d.high → n < width d → (d.low +ℤ pos n) ≤ℤ d.high
up_to d n h k = omega (arith, ints)

pub rank_of_point : (ds : List Range) (n : ℕ) → n < size ds → rank ds (point ds n) ≡ n
rank_of_point [] n h = omega arith
rank_of_point (d ∷ ds) n h =
    let w = width d in
    let some : 0 < w = omega arith in
    let rest = rank_of_point ds (n / w) (quotient_below n w (size ds) some h) in
    let back : unsigned_abs ((d.low +ℤ pos (n % w)) -ℤ d.low) ≡ n % w = abs_of_sum d.low (n % w) in
    let whole = div-add-mod n w in
    let inner = ap (λ x. w * x) rest in
    omega arith

pub rank_below : (ds : List Range) (p : List ℤ) → IsIn ds p → rank ds p < size ds
rank_below [] [] h = omega arith
rank_below [] (z ∷ zs) h = elim h [ ]
rank_below (d ∷ ds) [] h = elim h [ ]
rank_below (d ∷ ds) (z ∷ zs) h =
    let w = width d in
    let rest = rank_below ds zs h.2 in
    let inside : unsigned_abs (z -ℤ d.low) < w = distance_inside d z h.0 h.1 in
    let room : w * (rank ds zs + 1) ≤ w * size ds = mul-le-mul_left w (omega arith) in
    omega arith

pub point_of_rank : (ds : List Range) (p : List ℤ) → IsIn ds p → point ds (rank ds p) ≡ p
point_of_rank [] [] h = refl
point_of_rank [] (z ∷ zs) h = elim h [ ]
point_of_rank (d ∷ ds) [] h = elim h [ ]
point_of_rank (d ∷ ds) (z ∷ zs) h =
    let w = width d in
    let a = unsigned_abs (z -ℤ d.low) in
    let r = rank ds zs in
    let inside : a < w = distance_inside d z h.0 h.1 in
    let low : (a + w * r) % w ≡ a = ap (λ x. x % w) (omega arith) ∙ mod-mul-add r w a inside in
    let high : (a + w * r) / w ≡ r = ap (λ x. x / w) (omega arith) ∙ div-mul-add r w a inside in
    let first : d.low +ℤ pos a ≡ z = back_to d.low z h.0 in
    ap (λ x. (d.low +ℤ pos x) ∷ point ds ((a + w * r) / w)) low ∙ ap (λ x. (d.low +ℤ pos a) ∷ point ds x) high ∙ (λ i. first i ∷ point_of_rank ds zs h.2 i)

pub point_within : (ds : List Range) (n : ℕ) → AreRanges ds → IsIn ds (point ds n)
point_within [] n h = tt
point_within (d ∷ ds) n h =
    let w = width d in
    let small : n % w < w = mod-lt n (omega arith) in
    (omega (arith, signed), up_to d (n % w) h.0 small, point_within ds (n / w) h.1)

lt_or_le : (a b : ℕ) → (a < b) ⊎ (b ≤ a)
lt_or_le a b = elim (dec_le b a) [ yes h ↦ inr h | no h ↦ inl (omega arith) ]

same_quotient : (m n a b w r s : ℕ) → w * a + r ≡ m → w * b + s ≡ n → s < w → m < n → b ≤ a → a ≡ b
same_quotient m n a b w r s e f h k l = elim (lt_or_le b a) [
  | inl more ↦ let room : w * suc b ≤ w * a = mul-le-mul_left w more in absurd (omega (arith, room))
  | inr less ↦ omega arith
]

-- a later point comes after
pub point_rises : (ds : List Range) (m n : ℕ) → m < n → n < size ds → IsBefore (point ds m) (point ds n)
point_rises [] m n h k = absurd (omega arith)
point_rises (d ∷ ds) m n h k =
    let w = width d in
    let some : 0 < w = omega arith in
    let em = div-add-mod m w in
    let en = div-add-mod n w in
    let sm = mod-lt m some in
    let sn = mod-lt n some in
    let below = quotient_below n w (size ds) some k in
    elim (lt_or_le (m / w) (n / w)) as (λ _. IsBefore (point (d ∷ ds) m) (point (d ∷ ds) n)) [
      | inl less ↦ inl (point_rises ds (m / w) (n / w) less below)
      | inr more ↦
          let same : m / w ≡ n / w = same_quotient m n (m / w) (n / w) w (m % w) (n % w) em en sn h more in
          let smaller : m % w < n % w = omega (arith, ap (λ x. w * x) same) in
          inr (ap (point ds) same, omega (arith, ints))
    ]

pub points_number : (ds : List Range) → length (points ds) ≡ size ds
points_number ds = length-map-range_with_len (point ds) 0 (size ds)

pub points_stand : (ds : List Range) (n : ℕ) → n < size ds → StandsAt (points ds) n (point ds n)
points_stand ds n h =
    slice_get-get_or (points ds) n (point ds n) (omega (arith, points_number ds))
    ∙ ap Some (get_or-map-range_with_len (point ds) 0 (size ds) n n (point ds n) h (omega arith))

-- what stands at a place is that point
pub stands_within : (ds : List Range) (n : ℕ) (p : List ℤ) → StandsAt (points ds) n p → (n < size ds) × (point ds n ≡ p)
stands_within ds n p h =
    let inside : n < size ds = omega (arith, points_number ds, slice_get_within (points ds) n p h) in
    let e : Some (point ds n) ≡ Some p = sym (points_stand ds n inside) ∙ h in
    (inside, cc)
