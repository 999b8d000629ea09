-- Points of the extents and places of the raster are one to one.
use Rattle.std.proofs.Common.{◌≡◌, ℕ, zero, suc, ◌+◌, ◌*◌, ◌/◌, ◌%◌, ◌<◌, ◌≤◌, refl, sym, subst, ap, ◌∙◌, arith, Bool, true, false, ◌&&◌, List, [], ◌∷◌, ℤ, pos, negsuc, nat_lt, slice_index}
use Rattle.std.proofs.Math.Nat.{div-lt_iff_lt-mul, mod-lt, mul-le-mul_right}
use Rattle.std.proofs.lemmas.Nat.{div-mul-add, mod-mul-add, div-add-mod'}
use Rattle.std.proofs.lemmas.Bool.{lt-ltb, ltb-true}
use Rattle.meaning.specs.Image.Raster.{is_within, place, sample, sample_count, raster_point, HasRaster}
use Rattle.meaning.specs.Image.Laws.{RasterIsOrder, SampleIsAtPlace}

-- both sides of a conjunction hold
both : (a b : Bool) → a && b ≡ true → (a ≡ true) × (b ≡ true)
both true b h = (refl, h)
both false b h = cc

-- a factor of a product that is more than some number is not 0
some_of_product : (n a b : ℕ) → n < a * b → (0 < a) × (0 < b)
some_of_product n zero b h = absurd (omega arith)
some_of_product n (suc a) zero h = absurd (omega arith)
some_of_product n (suc a) (suc b) h = (omega arith, omega arith)

-- the quotient of a number below a product
below_product : (n a b : ℕ) → n < a * b → n / b < a
below_product n a b h = (div-lt_iff_lt-mul (some_of_product n a b h).1).1 h

rest_below : (n a b : ℕ) → n < a * b → n % b < b
rest_below n a b h = mod-lt n (some_of_product n a b h).1

-- rows of b: what stands at y, x lies below the product
row_below : (y x a b : ℕ) → y < a → x < b → y * b + x < a * b
row_below y x a b h g = let far : suc y * b ≤ a * b = mul-le-mul_right b (omega arith) in omega arith

pub on_extents : (extents : List ℕ) (n : ℕ) → HasRaster extents → n < sample_count extents → is_within extents (raster_point extents n) ≡ true
on_extents [] n r h = absurd r
on_extents (w ∷ []) n r h = let x = lt-ltb n w (omega arith) in rw x refl
on_extents (w ∷ v ∷ []) n r h =
    let f : n < v * w = omega arith in
    let x = lt-ltb (n % w) w (rest_below n v w f) in
    let y = lt-ltb (n / w) v (below_product n v w f) in
    rw (x, y) refl
on_extents (w ∷ v ∷ c ∷ []) n r h =
    let f : n < (v * w) * c = omega arith in
    let m = n / c in
    let g : m < v * w = below_product n (v * w) c f in
    let x = lt-ltb (m % w) w (rest_below m v w g) in
    let y = lt-ltb (m / w) v (below_product m v w g) in
    let z = lt-ltb (n % c) c (rest_below n (v * w) c f) in
    rw (x, y, z) refl
on_extents (w ∷ v ∷ c ∷ d ∷ es) n r h = absurd r

pub place_of_point : (extents : List ℕ) (n : ℕ) → HasRaster extents → n < sample_count extents → place extents (raster_point extents n) ≡ n
place_of_point [] n r h = absurd r
place_of_point (w ∷ []) n r h = refl
place_of_point (w ∷ v ∷ []) n r h = div-add-mod' n w
place_of_point (w ∷ v ∷ c ∷ []) n r h = ap (λ k. k * c + n % c) (div-add-mod' (n / c) w) ∙ div-add-mod' n c
place_of_point (w ∷ v ∷ c ∷ d ∷ es) n r h = absurd r

-- a point on the extents has a coordinate for each of them
within_end : (p : List ℤ) → is_within [] p ≡ true → p ≡ []
within_end [] h = refl
within_end (pos x ∷ ps) h = cc
within_end (negsuc x ∷ ps) h = cc

within_more : (w : ℕ) (es : List ℕ) (p : List ℤ) → is_within (w ∷ es) p ≡ true → (n : ℕ) × (ps : List ℤ) × (p ≡ pos n ∷ ps) × (n < w) × (is_within es ps ≡ true)
within_more w es [] h = cc
within_more w es (pos n ∷ ps) h = let b = both (nat_lt n w) (is_within es ps) h in (n, ps, refl, ltb-true n w b.0, b.1)
within_more w es (negsuc n ∷ ps) h = cc

-- what holds of each point on the extents
pub record On (extents : List ℕ) (p : List ℤ) : Type 0 where
  pub in_raster : place extents p < sample_count extents
  pub back : raster_point extents (place extents p) ≡ p

on_one : (w x : ℕ) → x < w → On (w ∷ []) (pos x ∷ [])
on_one w x h = record { in_raster = omega arith; back = refl }

on_two : (w v x y : ℕ) → x < w → y < v → On (w ∷ v ∷ []) (pos x ∷ pos y ∷ [])
on_two w v x y h g =
    let below = row_below y x v w g h in
    record { in_raster = omega arith; back = rw (mod-mul-add y w x h, div-mul-add y w x h) refl }

on_three : (w v c x y z : ℕ) → x < w → y < v → z < c → On (w ∷ v ∷ c ∷ []) (pos x ∷ pos y ∷ pos z ∷ [])
on_three w v c x y z h g f =
    let m = y * w + x in
    let below = row_below m z (v * w) c (row_below y x v w g h) f in
    let pixel = div-mul-add m c z f in
    record {
      in_raster = omega arith;
      back = rw (mod-mul-add m c z f, div-mul-add m c z f, mod-mul-add y w x h, div-mul-add y w x h) refl;
    }

pub on_raster : (extents : List ℕ) (p : List ℤ) → HasRaster extents → is_within extents p ≡ true → On extents p
on_raster [] p r h = absurd r
on_raster (w ∷ []) p r h =
    let a = within_more w [] p h in
    let whole : p ≡ pos a.0 ∷ [] = a.2 ∙ ap (λ ps. pos a.0 ∷ ps) (within_end a.1 a.4) in
    subst (On (w ∷ [])) (sym whole) (on_one w a.0 a.3)
on_raster (w ∷ v ∷ []) p r h =
    let a = within_more w (v ∷ []) p h in
    let b = within_more v [] a.1 a.4 in
    let whole : p ≡ pos a.0 ∷ pos b.0 ∷ [] = a.2 ∙ ap (λ ps. pos a.0 ∷ ps) (b.2 ∙ ap (λ ps. pos b.0 ∷ ps) (within_end b.1 b.4)) in
    subst (On (w ∷ v ∷ [])) (sym whole) (on_two w v a.0 b.0 a.3 b.3)
on_raster (w ∷ v ∷ c ∷ []) p r h =
    let a = within_more w (v ∷ c ∷ []) p h in
    let b = within_more v (c ∷ []) a.1 a.4 in
    let d = within_more c [] b.1 b.4 in
    let whole : p ≡ pos a.0 ∷ pos b.0 ∷ pos d.0 ∷ [] =
    a.2 ∙ ap (λ ps. pos a.0 ∷ ps) (b.2 ∙ ap (λ ps. pos b.0 ∷ ps) (d.2 ∙ ap (λ ps. pos d.0 ∷ ps) (within_end d.1 d.4))) in
    subst (On (w ∷ v ∷ c ∷ [])) (sym whole) (on_three w v c a.0 b.0 d.0 a.3 b.3 d.3)
on_raster (w ∷ v ∷ c ∷ d ∷ es) p r h = absurd r

pub raster_is_order : RasterIsOrder
raster_is_order = record {
  on_extents = on_extents;
  in_raster = λ es p r h. (on_raster es p r h).in_raster;
  point_of_place = λ es p r h. (on_raster es p r h).back;
  place_of_point = place_of_point;
}

sample_on : (extents samples : List ℕ) (p : List ℤ) → is_within extents p ≡ true → sample extents samples p ≡ pos (slice_index samples (place extents p))
sample_on es samples p h = rw h refl

sample_off : (extents samples : List ℕ) (p : List ℤ) → is_within extents p ≡ false → sample extents samples p ≡ pos 0
sample_off es samples p h = rw h refl

pub sample_is_at_place : SampleIsAtPlace
sample_is_at_place = record {
  on_extents = sample_on;
  off_extents = sample_off;
  at_point = λ es samples n r h. sample_on es samples (raster_point es n) (on_extents es n r h) ∙ ap (λ k. pos (slice_index samples k)) (place_of_point es n r h);
}
