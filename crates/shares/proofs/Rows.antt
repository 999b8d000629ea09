-- Rows of numbers, and the points that two boxes share.
use Rattle.std.proofs.Common.{◌≡◌, ℕ, zero, suc, ◌+◌, ◌*◌, ◌<◌, ◌≤◌, ◌^◌, List, [], ◌∷◌, ◌++◌, length, get_or, drop, arith, ap, refl, sym, ◌∙◌, subst, inl, inr, add-one, drop-cons}
use Rattle.std.specs.Prelude.{ℤ, pos, negsuc, ◌+ℤ◌, ◌-ℤ◌, ◌≤ℤ◌, All, flat_map}
use Rattle.std.specs.List.{range_with_len, AllByRecursion}
use Rattle.std.proofs.lemmas.Bool.{cases_lt}
use Rattle.std.specs.Int.{int_max, int_min}
use Rattle.std.proofs.lemmas.Int.{ints, clamps}
use Rattle.std.proofs.lemmas.List.Elements.{All-nil, All-cons, All-head, All-tail, All-append}
use Rattle.std.proofs.Math.Nat.{mul-le-mul_left, mul-add, mul-one, mul_assoc, mul_comm}
use Rattle.std.proofs.lemmas.List.FromFn.{length-range_with_len}
use Rattle.std.proofs.Common.{length-append, min}
use Rattle.lin.specs.Forms.{IsWithin}
use Rattle.shares.specs.declared.boxes.Side.{Side}
use Rattle.shares.specs.Boxes.{point_count}
use Rattle.shares.specs.Walked.{common, IsNear, IsExtent, shared_cells}
use Rattle.plan.specs.Symbols.{clipped}
use Rattle.shares.proofs.Values.{clipped_abs, clipped_none}
use mir.Val.{to_z, of_z, Fits}
use lib.Dec.{T}
use lib.Signed.{non_neg}
use mir.Syntax.{w64}
use lib.IntN.{nat_abs}

pub range_more : (a n : ℕ) → range_with_len a (suc n) ≡ range_with_len a n ++ (a + n) ∷ []
range_more a zero = ap (λ (x : ℕ). x ∷ []) (let e : a ≡ a + 0 = omega arith in e)
range_more a (suc n) = ap (λ (xs : List ℕ). a ∷ xs) (range_more (a + 1) n ∙ ap (λ (x : ℕ). range_with_len (a + 1) n ++ x ∷ []) (let e : a + 1 + n ≡ a + suc n = omega arith in e))

-- ---- sides

pub end_is : (low : ℤ) (count : ℕ) → IsWithin (2 ^ 44) low → count ≤ 2 ^ 45 + 1 →
    (to_z w64 (of_z w64 (to_z w64 (of_z w64 low) +ℤ to_z w64 count)) ≡ low +ℤ pos count)
end_is low count w l = omega (arith, ints)

pub low_is : (low : ℤ) → IsWithin (2 ^ 44) low → to_z w64 (of_z w64 low) ≡ low
low_is low w = omega (arith, ints)

-- what lies between the largest lower and the smallest upper end
pub record Ends (o r : Side) (low end : ℤ) : Type 0 where
  pub low_is : low ≡ int_max o.low r.low
  pub end_is : end ≡ int_min (o.low +ℤ pos o.count) (r.low +ℤ pos r.count)

pub common_is : (o r : Side) (low end : ℤ) → Ends o r low end → record { low = low; count = clipped (end -ℤ low) } ≡ common o r
common_is o r low end e = rw (e.low_is, e.end_is) refl

near_low : (o r : Side) (low end : ℤ) → IsNear o → IsExtent r → Ends o r low end → IsWithin (2 ^ 46) low × IsWithin (2 ^ 46) end
near_low o r low end near extent e = (omega (arith, ints, clamps, e.low_is, near.0, extent.0), omega (arith, ints, clamps, e.end_is, near.0, near.1, extent.0, extent.1))

pub some_common : (o r : Side) (low end : ℤ) → IsNear o → IsExtent r → Ends o r low end → low ≤ℤ end →
    record { low = to_z w64 (of_z w64 low); count = nat_abs (to_z w64 (of_z w64 (to_z w64 (of_z w64 end) -ℤ to_z w64 (of_z w64 low)))) } ≡ common o r
some_common o r low end near extent e le =
    let w = near_low o r low end near extent e in
    let a : to_z w64 (of_z w64 low) ≡ low = omega (arith, ints, w.0) in
    let b : to_z w64 (of_z w64 (to_z w64 (of_z w64 end) -ℤ to_z w64 (of_z w64 low))) ≡ end -ℤ low = omega (arith, ints, w.0, w.1) in
    rw (b, a, clipped_abs (end -ℤ low) (omega (arith, ints))) (common_is o r low end e)

pub no_common : (o r : Side) (low end : ℤ) → IsNear o → IsExtent r → Ends o r low end → end ≤ℤ low →
    record { low = to_z w64 (of_z w64 low); count = 0 } ≡ common o r
no_common o r low end near extent e le =
    let w = near_low o r low end near extent e in
    let a : to_z w64 (of_z w64 low) ≡ low = omega (arith, ints, w.0) in
    rw (a, clipped_none (end -ℤ low) (omega (arith, ints))) (common_is o r low end e)

pub gap_fits : (o r : Side) (low end : ℤ) → IsNear o → IsExtent r → Ends o r low end → low ≤ℤ end →
    T (non_neg (to_z w64 (of_z w64 (to_z w64 (of_z w64 end) -ℤ to_z w64 (of_z w64 low))))) × Fits w64 (nat_abs (to_z w64 (of_z w64 (to_z w64 (of_z w64 end) -ℤ to_z w64 (of_z w64 low)))))
gap_fits o r low end near extent e le =
    let w = near_low o r low end near extent e in
    let b : to_z w64 (of_z w64 (to_z w64 (of_z w64 end) -ℤ to_z w64 (of_z w64 low))) ≡ end -ℤ low = omega (arith, ints, w.0, w.1) in
    (rw b (omega (arith, ints)), rw b (omega (arith, ints, w.0, w.1)))

-- ---- rows

clipped_some : (z : ℤ) → 1 ≤ clipped z → pos (clipped z) ≡ z
clipped_some (pos n) h = refl
clipped_some (negsuc n) h = absurd (omega arith)

common_end : (low end limit : ℤ) → end ≤ℤ limit → 1 ≤ clipped (end -ℤ low) → (low +ℤ pos (clipped (end -ℤ low))) ≤ℤ limit
common_end low end limit le some = rw (clipped_some (end -ℤ low) some) (omega (arith, ints))

-- a side's share of another lies in it
pub common_lies : (o r : Side) → (r.low ≤ℤ (common o r).low) × (1 ≤ (common o r).count → ((common o r).low +ℤ pos (common o r).count) ≤ℤ (r.low +ℤ pos r.count))
common_lies o r = (omega (arith, ints, clamps), λ some. common_end (int_max o.low r.low) (int_min (o.low +ℤ pos o.count) (r.low +ℤ pos r.count)) (r.low +ℤ pos r.count) (omega (arith, ints, clamps)) some)

pub common_within : (o r : Side) → IsExtent r → (r.low ≤ℤ (common o r).low) × (1 ≤ (common o r).count → ((common o r).low +ℤ pos (common o r).count) ≤ℤ (r.low +ℤ pos r.count))
common_within o r extent = common_lies o r

pub offset_is : (part r : Side) → IsExtent r → r.low ≤ℤ part.low → (part.low +ℤ pos part.count) ≤ℤ (r.low +ℤ pos r.count) →
    nat_abs (to_z w64 (of_z w64 (to_z w64 (of_z w64 part.low) -ℤ to_z w64 (of_z w64 r.low)))) ≡ clipped (part.low -ℤ r.low)
offset_is part r extent low high =
    let a : to_z w64 (of_z w64 (to_z w64 (of_z w64 part.low) -ℤ to_z w64 (of_z w64 r.low))) ≡ part.low -ℤ r.low = omega (arith, ints, extent.0, extent.1) in
    rw a (clipped_abs (part.low -ℤ r.low) (omega (arith, ints)))

pub no_rows : (f : ℕ → ℕ) (xs : List ℕ) → flat_map (λ m. range_with_len (f m) 0) xs ≡ []
no_rows f [] = refl
no_rows f (x ∷ xs) = no_rows f xs

pub shared_more : (own region : List Side) (i : ℕ) (d : Side) → i < length own → i < length region →
    shared_cells (drop i own) (drop i region) ≡ flat_map (λ m. range_with_len (clipped ((common (get_or own i d) (get_or region i d)).low -ℤ (get_or region i d).low) + (get_or region i d).count * m) (common (get_or own i d) (get_or region i d)).count) (shared_cells (drop (i + 1) own) (drop (i + 1) region))
shared_more own region i d a b = rw (drop-cons own i d a, drop-cons region i d b, add-one) refl

pub count_more : (region : List Side) (i : ℕ) (d : Side) → i < length region → point_count (drop i region) ≡ (get_or region i d).count * point_count (drop (i + 1) region)
count_more region i d a = rw (drop-cons region i d a, add-one) refl

pub shared_none : (own region : List Side) (i : ℕ) (d : Side) → i < length own → i < length region → (common (get_or own i d) (get_or region i d)).count ≡ 0 →
    shared_cells (drop i own) (drop i region) ≡ []
shared_none own region i d a b none =
    let o = get_or own i d in let r = get_or region i d in
    let f : ℕ → ℕ = λ m. clipped ((common o r).low -ℤ r.low) + r.count * m in
    let rest = shared_cells (drop (i + 1) own) (drop (i + 1) region) in
    shared_more own region i d a b ∙ ap (λ (n : ℕ). flat_map (λ m. range_with_len (f m) n) rest) none ∙ no_rows f rest

range_below : (a n limit : ℕ) → a + n ≤ limit → All (λ k. k < limit) (range_with_len a n)
range_below a zero limit h = All-nil (λ k. k < limit)
range_below a (suc n) limit h = All-cons (λ k. k < limit) a (range_with_len (a + 1) n) (omega arith) (range_below (a + 1) n limit (omega arith))

rows_below_by : (offset n width C : ℕ) (rows : List ℕ) → offset + n ≤ width → All (λ m. m < C) rows → All (λ k. k < width * C) (flat_map (λ m. range_with_len (offset + width * m) n) rows)
rows_below_by offset n width C [] h all = All-nil (λ k. k < width * C)
rows_below_by offset n width C (m ∷ rows) h all =
    let first : m < C = All-head (λ m. m < C) m rows all in
    let product : width * (m + 1) ≤ width * C = mul-le-mul_left width (let le : m + 1 ≤ C = omega arith in le) in
    let split : width * (m + 1) ≡ width * m + width = mul-add width m 1 ∙ ap (λ (x : ℕ). width * m + x) (mul-one width) in
    All-append (λ k. k < width * C) (range_with_len (offset + width * m) n) (flat_map (λ m. range_with_len (offset + width * m) n) rows)
    (range_below (offset + width * m) n (width * C) (omega arith)) (rows_below_by offset n width C rows h (All-tail (λ m. m < C) m rows all))

part_of : (z : ℤ) (n m : ℕ) → pos 0 ≤ℤ z → (z +ℤ pos n) ≤ℤ pos m → clipped z + n ≤ m
part_of (pos k) n m low high = omega (arith, ints)
part_of (negsuc k) n m low high = absurd (omega (arith, ints))

pub part_within : (part r : Side) → r.low ≤ℤ part.low → (part.low +ℤ pos part.count) ≤ℤ (r.low +ℤ pos r.count) → clipped (part.low -ℤ r.low) + part.count ≤ r.count
part_within part r low high = part_of (part.low -ℤ r.low) part.count r.count (omega (arith, ints)) (omega (arith, ints))

-- the numbers that a box's first side and some numbers of its other coordinates make
pub rows_below : (part r : Side) (C : ℕ) (rows : List ℕ) → r.low ≤ℤ part.low → (part.low +ℤ pos part.count) ≤ℤ (r.low +ℤ pos r.count) → All (λ m. m < C) rows →
    All (λ k. k < r.count * C) (flat_map (λ m. range_with_len (clipped (part.low -ℤ r.low) + r.count * m) part.count) rows)
rows_below part r C rows low high all = rows_below_by (clipped (part.low -ℤ r.low)) part.count r.count C rows (part_within part r low high) all

-- all shared cells are cells of the region
pub shared_below : (own region : List Side) → All (λ k. k < point_count region) (shared_cells own region)
shared_below [] [] = All-cons (λ k. k < 1) 0 [] (omega arith) (All-nil (λ k. k < 1))
shared_below [] (r ∷ rs) = All-nil (λ k. k < point_count (r ∷ rs))
shared_below (o ∷ os) [] = All-nil (λ k. k < point_count [])
shared_below (o ∷ os) (r ∷ rs) =
    let c = common o r in
    let f : ℕ → ℕ = λ m. clipped (c.low -ℤ r.low) + r.count * m in
    let rows = shared_cells os rs in
    let Whole : List ℕ → Type 0 = λ xs. All (λ k. k < r.count * point_count rs) xs in
    elim (cases_lt 0 c.count) [
      | inl some ↦ rows_below c r (point_count rs) rows (common_lies o r).0 ((common_lies o r).1 (omega arith)) (shared_below os rs)
      | inr none ↦ (let zero : c.count ≡ 0 = omega arith in
          subst Whole (sym (ap (λ (n : ℕ). flat_map (λ m. range_with_len (f m) n) rows) zero ∙ no_rows f rows)) (All-nil (λ k. k < r.count * point_count rs)))
    ]

-- a box whose extents are positive has a point
pub some_points : (xs : List Side) → AllByRecursion (λ x. 1 ≤ x.count) xs → 1 ≤ point_count xs
some_points [] h = omega arith
some_points (x ∷ xs) h =
    let rest = some_points xs h.1 in
    let product : x.count * 1 ≤ x.count * point_count xs = mul-le-mul_left x.count rest in
    let one : x.count * 1 ≡ x.count = mul-one x.count in
    let first : 1 ≤ x.count = h.0 in
    omega arith

-- one factor more stays below
pub factor_below : (n x rest limit : ℕ) → 1 ≤ rest → n * (x * rest) ≤ limit → n * x ≤ limit
factor_below n x rest limit some h =
    let product : (n * x) * 1 ≤ (n * x) * rest = mul-le-mul_left (n * x) some in
    let one : (n * x) * 1 ≡ n * x = mul-one (n * x) in
    let regroup : (n * x) * rest ≡ n * (x * rest) = mul_assoc n x rest in
    omega arith

rows_length : (f : ℕ → ℕ) (n : ℕ) (rows : List ℕ) → length (flat_map (λ m. range_with_len (f m) n) rows) ≡ n * length rows
rows_length f n [] = omega arith
rows_length f n (m ∷ rows) =
    let rest = rows_length f n rows in
    let row = length-range_with_len (f m) n in
    let both = length-append (range_with_len (f m) n) (flat_map (λ m. range_with_len (f m) n) rows) in
    let split : n * (length rows + 1) ≡ n * length rows + n = mul-add n (length rows) 1 ∙ ap (λ (x : ℕ). n * length rows + x) (mul-one n) in
    both ∙ (let e : length (range_with_len (f m) n) + length (flat_map (λ m. range_with_len (f m) n) rows) ≡ n * (length rows + 1) = omega arith in e)
    ∙ ap (λ (x : ℕ). n * x) (let one : length rows + 1 ≡ suc (length rows) = omega arith in one)

pub common_few : (o r : Side) → (common o r).count ≤ r.count
common_few o r = elim (cases_lt 0 (common o r).count) [
  | inl some ↦ (let h = part_within (common o r) r (common_lies o r).0 ((common_lies o r).1 (omega arith)) in omega arith)
  | inr none ↦ omega arith
]

-- there are at most as many shared cells as the region has
pub shared_few : (own region : List Side) → length (shared_cells own region) ≤ point_count region
shared_few [] [] = omega arith
shared_few [] (r ∷ rs) = omega arith
shared_few (o ∷ os) [] = omega arith
shared_few (o ∷ os) (r ∷ rs) =
    let n = (common o r).count in
    let rows = shared_cells os rs in
    let C = point_count rs in
    let e : length (shared_cells (o ∷ os) (r ∷ rs)) ≡ n * length rows = rows_length (λ m. clipped ((common o r).low -ℤ r.low) + r.count * m) n rows in
    let one : n * length rows ≤ n * C = mul-le-mul_left n (shared_few os rs) in
    let two : C * n ≤ C * r.count = mul-le-mul_left C (common_few o r) in
    let left : n * C ≡ C * n = mul_comm n C in
    let right : C * r.count ≡ r.count * C = mul_comm C r.count in
    omega arith

-- a product that stops at a limit
pub capped_more : (a rest limit : ℕ) → min (min a limit * rest) limit ≡ min (a * rest) limit
capped_more a zero limit = let e : min a limit * 0 ≡ 0 = omega arith in let f : a * 0 ≡ 0 = omega arith in omega arith
capped_more a (suc rest) limit = elim (cases_lt a limit) [
  | inl less ↦ (let e : min a limit ≡ a = omega arith in ap (λ (x : ℕ). min (x * suc rest) limit) e)
  | inr past ↦ (
      let e : min a limit ≡ limit = omega arith in
      let first : limit * 1 ≤ limit * suc rest = mul-le-mul_left limit (let le : 1 ≤ suc rest = omega arith in le) in
      let second : a * 1 ≤ a * suc rest = mul-le-mul_left a (let le : 1 ≤ suc rest = omega arith in le) in
      let one : limit * 1 ≡ limit = mul-one limit in
      let two : a * 1 ≡ a = mul-one a in
      ap (λ (x : ℕ). min (x * suc rest) limit) e ∙ (let g : min (limit * suc rest) limit ≡ min (a * suc rest) limit = omega arith in g))
]

-- after the last side
pub count_done : (xs : List Side) (i : ℕ) → length xs ≤ i → point_count (drop i xs) ≡ 1
count_done [] zero h = refl
count_done [] (suc i) h = refl
count_done (x ∷ xs) zero h = absurd (omega arith)
count_done (x ∷ xs) (suc i) h = count_done xs i (omega arith)

-- where numbers are shared the other has some
pub share_some : (o r c : Side) → c ≡ common o r → (c.count ≡ 0 → ⊥) → 1 ≤ r.count
share_some o r c e some =
    let few : (common o r).count ≤ r.count = common_few o r in
    let same : c.count ≡ (common o r).count = ap (λ (x : Side). x.count) e in
    elim (cases_lt 0 c.count) [
      | inl less ↦ omega (arith, few, same, less)
      | inr none ↦ absurd (some (omega (arith, none)))
    ]

pub rest_few : (xs : List Side) (i : ℕ) (d : Side) (limit : ℕ) → i < length xs → 1 ≤ (get_or xs i d).count → point_count (drop i xs) ≤ limit → point_count (drop (i + 1) xs) ≤ limit
rest_few xs i d limit less some h =
    let rest = point_count (drop (i + 1) xs) in
    let e = count_more xs i d less in
    let product : rest * 1 ≤ rest * (get_or xs i d).count = mul-le-mul_left rest some in
    let one : rest * 1 ≡ rest = mul-one rest in
    let turned : rest * (get_or xs i d).count ≡ (get_or xs i d).count * rest = mul_comm rest (get_or xs i d).count in
    omega (arith, e, product, one, turned, h)
