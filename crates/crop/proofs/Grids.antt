-- Rectangles of an output lie in it, and each sample in one of them.
use Rattle.std.proofs.Common.{◌≡◌, ◌∙◌, ap, sym, subst, ℕ, suc, ◌+◌, ◌-◌, ◌*◌, ◌/◌, ◌%◌, ◌^◌, ◌<◌, ◌≤◌, zero, arith}
use Rattle.std.proofs.Math.Nat.{div-eq_of_lt-le, div-lt_iff_lt-mul, div-mul-le_self, le-mul_of_pos_right, lt-div-mul-add, mod-lt, mul-le-mul_right, mul_comm}
use Rattle.std.proofs.lemmas.Nat.{div-add-mod', div-mul-add, mod-mul-add, mul-le}
use Rattle.crop.specs.declared.tiling.Tiling.{Tiling}
use Rattle.crop.specs.Tiling.{IsInside, IsOfOne, IsPartition, IsTiling, IsWithin, columns, rect_in, rows, side_count, side_length}

-- there are no more tiles than samples
pub count_le : (e t : ℕ) → 0 < t → side_count e t ≤ e
count_le e t some =
    let wide : e ≤ e * t = le-mul_of_pos_right e some in
    let below : (e + t) - 1 < suc e * t = omega (arith, wide, some) in
    omega (arith, (div-lt_iff_lt-mul some).1 below)

-- a tile begins on the side
pub from_lt : (e t p : ℕ) → 0 < t → p < side_count e t → p * t < e
from_lt e t p some lt =
    let all : side_count e t * t ≤ (e + t) - 1 = div-mul-le_self ((e + t) - 1) t in
    let own : suc p * t ≤ side_count e t * t = mul-le-mul_right t (omega (arith, lt)) in
    omega (arith, all, own, some)

-- the tile in which a sample lies is one of them
pub place_lt : (e t x : ℕ) → 0 < t → x < e → x / t < side_count e t
place_lt e t x some lt =
    let past : (e + t) - 1 < side_count e t * t + t = lt-div-mul-add some in
    let below : x < side_count e t * t = omega (arith, past, lt, some) in
    (div-lt_iff_lt-mul some).1 below

-- a tile that begins on the side has samples, and ends on it
length_some : (e t f : ℕ) → 0 < t → f < e → 0 < side_length e t f
length_some e t f some lt = omega (arith, some, lt)

length_ends : (e t f : ℕ) → f < e → f + side_length e t f ≤ e
length_ends e t f lt = omega (arith, lt)

-- a sample that is not past a tile's length, nor past the side, is not past the tile
length_holds : (e t f x : ℕ) → x < e → x < f + t → x < f + side_length e t f
length_holds e t f x lt near = omega (arith, lt, near)

length_le : (e t f : ℕ) → side_length e t f ≤ t
length_le e t f = omega arith

-- the place of the tile in which a sample lies
place_is : (e t p x : ℕ) → p * t ≤ x → x < p * t + side_length e t (p * t) → x / t ≡ p
place_is e t p x from to = div-eq_of_lt-le t from (omega (arith, length_le e t (p * t), to))

column_lt : (C R n : ℕ) → n < C * R → n % C < C
column_lt zero R n lt = absurd (omega (arith, lt))
column_lt (suc C) R n lt = mod-lt n (omega arith)

row_lt : (C R n : ℕ) → n < C * R → n / C < R
row_lt zero R n lt = absurd (omega (arith, lt))
row_lt (suc C) R n lt = (div-lt_iff_lt-mul (omega arith)).1 (subst (λ m. n < m) (mul_comm (suc C) R) lt)

inside : (t : Tiling) (c r : ℕ) → IsTiling t → c < columns t → r < rows t → IsInside t (rect_in t c r)
inside t c r h column row =
    let x = from_lt t.width t.tile_width c h.wide column in
    let y = from_lt t.height t.tile_height r h.high row in record {
      wide = length_some t.width t.tile_width (c * t.tile_width) h.wide x;
      high = length_some t.height t.tile_height (r * t.tile_height) h.high y;
      right = length_ends t.width t.tile_width (c * t.tile_width) x;
      below = length_ends t.height t.tile_height (r * t.tile_height) y;
    }

holds : (t : Tiling) (x y : ℕ) → IsTiling t → x < t.width → y < t.height → IsWithin (rect_in t (x / t.tile_width) (y / t.tile_height)) x y
holds t x y h wide high = record {
  left = div-mul-le_self x t.tile_width;
  right = length_holds t.width t.tile_width (x / t.tile_width * t.tile_width) x wide (lt-div-mul-add h.wide);
  above = div-mul-le_self y t.tile_height;
  below = length_holds t.height t.tile_height (y / t.tile_height * t.tile_height) y high (lt-div-mul-add h.high);
}

number_lt : (C R c r : ℕ) → c < C → r < R → r * C + c < C * R
number_lt C R c r column row =
    let rows_le : suc r * C ≤ R * C = mul-le-mul_right C (omega (arith, row)) in
    let turned : R * C ≡ C * R = mul_comm R C in
    omega (arith, rows_le, turned, column)

of_one : (t : Tiling) (x y : ℕ) → IsTiling t → x < t.width → y < t.height → IsOfOne t x y
of_one t x y h wide high =
    let C : ℕ = columns t in
    let c : ℕ = x / t.tile_width in
    let r : ℕ = y / t.tile_height in
    let column : c < C = place_lt t.width t.tile_width x h.wide wide in
    let row : r < rows t = place_lt t.height t.tile_height y h.high high in
    let own_column : (r * C + c) % C ≡ c = mod-mul-add r C c column in
    let own_row : (r * C + c) / C ≡ r = div-mul-add r C c column in record {
      number = r * C + c;
      known = number_lt C (rows t) c r column row;
      within = rw (own_column, own_row) (holds t x y h wide high);
      alone = λ other known within.
          let c_is : c ≡ other % C = place_is t.width t.tile_width (other % C) x within.left within.right in
          let r_is : r ≡ other / C = place_is t.height t.tile_height (other / C) y within.above within.below in
          sym (ap (λ n. n * C + c) r_is ∙ ap (λ n. other / C * C + n) c_is ∙ div-add-mod' other C);
    }

pub partition : (t : Tiling) → IsTiling t → IsPartition t
partition t h = record {
  inside = λ number known. inside t (number % columns t) (number / columns t) h (column_lt (columns t) (rows t) number known) (row_lt (columns t) (rows t) number known);
  each = λ x y wide high. of_one t x y h wide high;
}

-- so many tiles are a number of 64 bits
pub count_fits : (w h c r : ℕ) → w < 2 ^ 32 → h < 2 ^ 32 → c ≤ w → r ≤ h → c * r < 2 ^ 64
count_fits w h c r wide high columns_le rows_le =
    let product : c * r ≤ 4294967295 * 4294967295 = mul-le c r 4294967295 4294967295 (omega (arith, wide, columns_le)) (omega (arith, high, rows_le)) in
    omega (arith, product)
