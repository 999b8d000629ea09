-- The samples of a part of an image.
use Rattle.std.proofs.Common.{◌≡◌, ℕ, zero, suc, ◌≤◌, ◌<◌, List, [], ◌∷◌, length, Bool, true, false, ◌&&◌, ℤ, pos, negsuc, neg_ℤ, ◌+ℤ◌, ◌-ℤ◌, ◌≤ℤ◌, ◌<ℤ◌, refl, sym, ap, ◌∙◌, subst, arith, ◌⊎◌, inl, inr, zero-add, if◌then◌else◌}
use Rattle.std.specs.Prelude.{nat_lt, slice_index}
use Rattle.std.specs.List.{AllByRecursion}
use Rattle.std.proofs.lemmas.Int.{ints}
use Rattle.std.proofs.lemmas.Bool.{false≢true}
use Rattle.std.proofs.lemmas.Bool.Decides.{nat_tests}
use Rattle.std.proofs.lemmas.List.FromFn.{get_or-map-range_with_len}
use Rattle.numeric.specs.declared.ty.Ty.TheVariants.{I32}
use Rattle.numeric.specs.Wrap.{IsOf}
use Rattle.numeric.proofs.Wraps.{wrap_of_value}
use Rattle.meaning.specs.Image.View.{AreExtents}
use Rattle.meaning.specs.Image.Raster.{is_within, natural, place, sample, sample_count, raster_point, HasRaster}
use Rattle.meaning.proofs.Places.{on_raster}
use Rattle.crop.specs.declared.cut.Stretch.{Stretch}
use Rattle.crop.specs.Moving.{shifted, against, moved_point}
use Rattle.crop.specs.Cutting.{lows, extent_of, extents_of, cut_samples, IsInBox, IsPart, AreParts, IsTile, AreTiles}
use Rattle.crop.proofs.Rings.{same, sum, wrapped, wraps_alike}
use Rattle.crop.proofs.Points.{Coordinates, unmoved, back_point, some_bool}
use Rattle.crop.proofs.Expressions.{bool_same}
use Rattle.tree.proofs.Typed.{both_true}

pub has_raster : (es : List ℕ) → AreExtents es → HasRaster es
has_raster [] h = absurd h
has_raster (w ∷ []) h = tt
has_raster (w ∷ v ∷ []) h = tt
has_raster (w ∷ v ∷ c ∷ []) h = tt
has_raster (w ∷ v ∷ c ∷ d ∷ es) h = absurd h

nat_order : (m n : ℕ) → (m ≤ n) ⊎ (n < m)
nat_order zero n = inl (omega arith)
nat_order (suc m) zero = inr (omega arith)
nat_order (suc m) (suc n) = elim (nat_order m n) [ inl h ↦ inl (omega (arith, h)) | inr h ↦ inr (omega (arith, h)) ]

-- ---- one coordinate
abbrev one : ℕ → ℤ → Bool
one e (pos p) = nat_lt p e
one e (negsuc p) = false

one_more : (e : ℕ) (es : List ℕ) (z : ℤ) (zs : List ℤ) → is_within (e ∷ es) (z ∷ zs) ≡ one e z && is_within es zs
one_more e es (pos p) zs = refl
one_more e es (negsuc p) zs = refl

less_true : (p e : ℕ) → p < e → nat_lt p e ≡ true
less_true p e h = grind (arith, nat_tests)

true_less : (p e : ℕ) → nat_lt p e ≡ true → p < e
true_less p e h = grind (arith, nat_tests)

one_true : (e : ℕ) (z : ℤ) → pos 0 ≤ℤ z → z <ℤ pos e → one e z ≡ true
one_true e (pos p) h k = less_true p e (omega (arith, ints, k))
one_true e (negsuc p) h k = absurd (omega (arith, ints, h))

true_one : (e : ℕ) (z : ℤ) → one e z ≡ true → (pos 0 ≤ℤ z) × (z <ℤ pos e)
true_one e (pos p) h = let l = true_less p e h in (omega (arith, ints), omega (arith, ints, l))
true_one e (negsuc p) h = absurd (false≢true h)

less_one : (o z : ℤ) → IsOf I32 (z -ℤ o) → shifted (against o) z ≡ z -ℤ o
less_one o z h =
    let e : z -ℤ o ≡ z +ℤ neg_ℤ o = omega (arith, ints) in
    wraps_alike (z +ℤ against o) (z -ℤ o) (z +ℤ neg_ℤ o) (z -ℤ o) (sum z z (against o) (neg_ℤ o) (same z) (wrapped (neg_ℤ o))) (same (z -ℤ o)) (sym e) ∙ wrap_of_value I32 (z -ℤ o) h

order : (a b : ℤ) → (a ≤ℤ b) ⊎ (b <ℤ a)
order (pos m) (pos n) = elim (nat_order m n) [ inl h ↦ inl (omega (arith, ints, h)) | inr h ↦ inr (omega (arith, ints, h)) ]
order (pos m) (negsuc n) = inr (omega (arith, ints))
order (negsuc m) (pos n) = inl (omega (arith, ints))
order (negsuc m) (negsuc n) = elim (nat_order n m) [ inl h ↦ inl (omega (arith, ints, h)) | inr h ↦ inr (omega (arith, ints, h)) ]

-- a coordinate is on the part exactly where it was on the image
one_part : (n : ℕ) (x p : Stretch) (z : ℤ) → IsPart n x p → IsOf I32 z → x.low ≤ℤ z → z ≤ℤ x.high → one (extent_of p) (shifted (against p.low) z) ≡ one n z
one_part n x p z h i a b =
    let from = h.from in let rises = h.rises in let to = h.to in
    let c = i.from in let d = i.to in
    let first : (z <ℤ pos 0) → p.low ≡ pos 0 = λ l. h.first (omega (arith, ints, a, l)) in
    let small : IsOf I32 (z -ℤ p.low) = elim (order (pos 0) z) [
      | inl l ↦ elim (order z (pos n -ℤ pos 1)) [
        | inl m ↦ let k = (h.holds z a b l m).0 in record { from = omega (arith, ints, k, c, d); to = omega (arith, ints, from, c, d) }
        | inr m ↦ record { from = omega (arith, ints, rises, to, m, c, d); to = omega (arith, ints, from, c, d) }
      ]
      | inr l ↦ let e = first l in record { from = omega (arith, ints, c, e); to = omega (arith, ints, from, c, d) }
    ] in
    ap (one (extent_of p)) (less_one p.low z small) ∙ bool_same (one (extent_of p) (z -ℤ p.low)) (one n z)
    (λ t. let u = true_one (extent_of p) (z -ℤ p.low) t in let u0 = u.0 in let u1 = u.1 in one_true n z (omega (arith, ints, from, u0)) (omega (arith, ints, rises, to, u1)))
    (λ t. let u = true_one n z t in let u0 = u.0 in let u1 = u.1 in let k = h.holds z a b u0 (omega (arith, ints, u1)) in let k0 = k.0 in let k1 = k.1 in
    one_true (extent_of p) (z -ℤ p.low) (omega (arith, ints, k0)) (omega (arith, ints, k1, rises)))

within_part : (es : List ℕ) (xs ps : List Stretch) (at : List ℤ) → AreParts es xs ps → Coordinates at → IsInBox xs at → is_within (extents_of ps) (unmoved (lows ps) at) ≡ is_within es at
within_part [] [] [] [] h c q = refl
within_part [] [] [] (z ∷ zs) h c q = absurd q
within_part [] [] (p ∷ ps) at h c q = absurd h
within_part [] (x ∷ xs) ps at h c q = absurd h
within_part (n ∷ ns) [] ps at h c q = absurd h
within_part (n ∷ ns) (x ∷ xs) [] at h c q = absurd h
within_part (n ∷ ns) (x ∷ xs) (p ∷ ps) [] h c q = absurd q
within_part (n ∷ ns) (x ∷ xs) (p ∷ ps) (z ∷ zs) h c q =
    one_more (extent_of p) (extents_of ps) (shifted (against p.low) z) (unmoved (lows ps) zs)
    ∙ (λ i. one_part n x p z h.0 c.0 q.0 q.1 i && within_part ns xs ps zs h.1 c.1 q.2 i) ∙ sym (one_more n ns z zs)

-- as many dimensions
pub raster_of : (es fs : List ℕ) → length fs ≡ length es → HasRaster es → HasRaster fs
raster_of [] fs l r = absurd r
raster_of (w ∷ es) [] l r = absurd (omega (arith, l))
raster_of (w ∷ []) (x ∷ []) l r = tt
raster_of (w ∷ []) (x ∷ y ∷ fs) l r = absurd (omega (arith, l))
raster_of (w ∷ v ∷ es) (x ∷ []) l r = absurd (omega (arith, l))
raster_of (w ∷ v ∷ []) (x ∷ y ∷ []) l r = tt
raster_of (w ∷ v ∷ []) (x ∷ y ∷ z ∷ fs) l r = absurd (omega (arith, l))
raster_of (w ∷ v ∷ c ∷ es) (x ∷ y ∷ []) l r = absurd (omega (arith, l))
raster_of (w ∷ v ∷ c ∷ []) (x ∷ y ∷ z ∷ []) l r = tt
raster_of (w ∷ v ∷ c ∷ []) (x ∷ y ∷ z ∷ o ∷ fs) l r = absurd (omega (arith, l))
raster_of (w ∷ v ∷ c ∷ d ∷ es) fs l r = absurd r

part_length : (es : List ℕ) (xs ps : List Stretch) → AreParts es xs ps → length (extents_of ps) ≡ length es
part_length [] [] [] h = refl
part_length [] [] (p ∷ ps) h = absurd h
part_length [] (x ∷ xs) ps h = absurd h
part_length (n ∷ ns) [] ps h = absurd h
part_length (n ∷ ns) (x ∷ xs) [] h = absurd h
part_length (n ∷ ns) (x ∷ xs) (p ∷ ps) h = ap suc (part_length ns xs ps h.1)

tile_length : (es : List ℕ) (ts : List Stretch) → AreTiles es ts → length (extents_of ts) ≡ length es
tile_length [] [] h = refl
tile_length [] (t ∷ ts) h = absurd h
tile_length (n ∷ ns) [] h = absurd h
tile_length (n ∷ ns) (t ∷ ts) h = ap suc (tile_length ns ts h.1)

raster_part : (es : List ℕ) (xs ps : List Stretch) → AreParts es xs ps → HasRaster es → HasRaster (extents_of ps)
raster_part es xs ps h r = raster_of es (extents_of ps) (part_length es xs ps h) r

natural_sample : (es samples : List ℕ) (p : List ℤ) → pos (natural (sample es samples p)) ≡ sample es samples p
natural_sample es samples p = elim (is_within es p) as (λ (b : Bool). pos (natural (if b then pos (slice_index samples (place es p)) else pos 0)) ≡ (if b then pos (slice_index samples (place es
    p)) else pos 0)) [ true ↦ refl | false ↦ refl ]

pub sample_at : (es samples : List ℕ) (p : List ℤ) (b : Bool) → is_within es p ≡ b → sample es samples p ≡ (if b then pos (slice_index samples (place es p)) else pos 0)
sample_at es samples p b e = ap (λ c. if c then pos (slice_index samples (place es p)) else pos 0) e

-- a sample of the part is that of the image
pub cut_sample : (es : List ℕ) (xs ps : List Stretch) (samples : List ℕ) (at : List ℤ) → HasRaster es → AreParts es xs ps → Coordinates at → IsInBox xs at
    → sample (extents_of ps) (cut_samples es samples ps) (unmoved (lows ps) at) ≡ sample es samples at
cut_sample es xs ps samples at r h c q =
    let e = within_part es xs ps at h c q in
    elim (some_bool (is_within es at)) [
      | inl t ↦
          let p' = unmoved (lows ps) at in
          let on = on_raster (extents_of ps) p' (raster_part es xs ps h r) (e ∙ t) in
          let g : ℕ → ℕ = λ n. natural (sample es samples (moved_point (lows ps) (raster_point (extents_of ps) n))) in
          let n = place (extents_of ps) p' in
          let found : slice_index (cut_samples es samples ps) n ≡ g n = get_or-map-range_with_len g 0 (sample_count (extents_of ps)) n n 0 on.in_raster (zero-add n) in
          let there : moved_point (lows ps) (raster_point (extents_of ps) n) ≡ at = ap (moved_point (lows ps)) on.back ∙ back_point (lows ps) at c in
          sample_at (extents_of ps) (cut_samples es samples ps) p' true (e ∙ t) ∙ ap pos found ∙ ap (λ x. pos (natural (sample es samples x))) there ∙ natural_sample es samples at
      | inr t ↦ sample_at (extents_of ps) (cut_samples es samples ps) (unmoved (lows ps) at) false (e ∙ t) ∙ sym (sample_at es samples at false t)
    ]

-- ---- the tile
small_pos : (z : ℤ) (n : ℕ) → n ≤ 16777216 → pos 0 ≤ℤ z → z <ℤ pos n → IsOf I32 z
small_pos z n h a b = record { from = omega (arith, ints, a); to = omega (arith, ints, b, h) }

-- a point of the tile, put where it stands in the whole picture
pub record Put (es : List ℕ) (ts : List Stretch) (p : List ℤ) : Type 0 where
  pub on : is_within es (moved_point (lows ts) p) ≡ true
  pub point : Coordinates (moved_point (lows ts) p)
  pub back : unmoved (lows ts) (moved_point (lows ts) p) ≡ p
  pub inside : IsInBox ts (moved_point (lows ts) p)

put_one : (n : ℕ) (t : Stretch) (z : ℤ) → n ≤ 16777216 → IsTile n t → pos 0 ≤ℤ z → z <ℤ pos (extent_of t)
    → (shifted t.low z ≡ z +ℤ t.low) × (pos 0 ≤ℤ (z +ℤ t.low)) × ((z +ℤ t.low) <ℤ pos n) × ((z +ℤ t.low) ≤ℤ t.high)
put_one n t z few h a b =
    let from = h.from in let rises = h.rises in let to = h.to in
    let i : IsOf I32 (z +ℤ t.low) = record { from = omega (arith, ints, a, from); to = omega (arith, ints, b, rises, to, few) } in
    (wrap_of_value I32 (z +ℤ t.low) i, omega (arith, ints, a, from), omega (arith, ints, b, rises, to), omega (arith, ints, b, rises))

pub put_there : (es : List ℕ) (ts : List Stretch) (p : List ℤ) → AllByRecursion (λ n. n ≤ 16777216) es → AreTiles es ts → is_within (extents_of ts) p ≡ true → Put es ts p
put_there [] [] [] few h e = record { on = refl; point = tt; back = refl; inside = tt }
put_there [] [] (z ∷ zs) few h e = absurd (false≢true e)
put_there [] (t ∷ ts) p few h e = absurd h
put_there (n ∷ ns) [] p few h e = absurd h
put_there (n ∷ ns) (t ∷ ts) [] few h e = absurd (false≢true e)
put_there (n ∷ ns) (t ∷ ts) (z ∷ zs) all h e =
    let b = both_true (one (extent_of t) z) (is_within (extents_of ts) zs) (sym (one_more (extent_of t) (extents_of ts) z zs) ∙ e) in
    let u = true_one (extent_of t) z b.0 in
    let here = put_one n t z all.0 h.0 u.0 u.1 in
    let rest = put_there ns ts zs all.1 h.1 b.1 in
    let a0 = here.1 in let a1 = here.2 in let a2 = here.3 in
    let few = all.0 in let low = h.0.from in let u0 = u.0 in
    let iz : IsOf I32 z = record { from = omega (arith, ints, u0); to = omega (arith, ints, a1, few, low) } in
    let is : IsOf I32 (z +ℤ t.low) = small_pos (z +ℤ t.low) n few a0 a1 in
    let away : (z +ℤ t.low) -ℤ t.low ≡ z = omega (arith, ints) in
    record {
      on = one_more n ns (shifted t.low z) (moved_point (lows ts) zs) ∙ (λ i. one n (here.0 i) && rest.on i) ∙ ap (λ x. x && true) (one_true n (z +ℤ t.low) a0 a1);
      point = (subst (IsOf I32) (sym here.0) is, rest.point);
      back = λ i. (ap (shifted (against t.low)) here.0 ∙ less_one t.low (z +ℤ t.low) (subst (IsOf I32) (sym away) iz) ∙ away) i ∷ rest.back i;
      inside = (subst (λ x. t.low ≤ℤ x) (sym here.0) (omega (arith, ints, u0)), subst (λ x. x ≤ℤ t.high) (sym here.0) a2, rest.inside);
    }

pub raster_tile : (es : List ℕ) (ts : List Stretch) → AreTiles es ts → HasRaster es → HasRaster (extents_of ts)
raster_tile es ts h r = raster_of es (extents_of ts) (tile_length es ts h) r
