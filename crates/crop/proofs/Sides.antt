-- Boxes: tiles within an output, and parts of an input.
use Rattle.std.proofs.Common.{◌≡◌, ◌<◌, ◌≤◌, ◌+◌, ◌∷◌, ◌++◌, ℕ, List, [], length, take, get_or, Bool, true, false, if◌then◌else◌, inl, inr, refl, sym, subst, arith}
use Rattle.std.specs.Prelude.{map, nat_le}
use Rattle.std.proofs.lemmas.List.{take_more}
use Rattle.std.proofs.lemmas.Int.{ints}
use Rattle.std.proofs.lemmas.Bool.Decides.{leb_tells}
use Rattle.meaning.specs.Image.View.{IsExtent, AreExtents}
use Rattle.crop.specs.declared.cropping.Rect.{Rect}
use Rattle.crop.specs.declared.cut.Stretch.{Stretch}
use Rattle.crop.specs.Cutting.{IsPart, AreParts, IsTile, AreTiles}
use Rattle.crop.specs.Tile.{stretch_from, channels_whole, box_of}
use Rattle.crop.specs.Inside.{IsWithin, IsInside, IsSmallRect, IsSmall, AreSmall, AreRising}
use Rattle.crop.specs.Narrow.{narrow_extent}

-- ---- parts of an input
more_parts : (ns : List ℕ) (xs ps : List Stretch) (n : ℕ) (x p : Stretch) → AreParts ns xs ps → IsPart n x p → AreParts (ns ++ n ∷ []) (xs ++ x ∷ []) (ps ++ p ∷ [])
more_parts [] [] [] n x p h one = (one, tt)
more_parts [] [] (q ∷ ps) n x p h one = absurd h
more_parts [] (y ∷ xs) [] n x p h one = absurd h
more_parts [] (y ∷ xs) (q ∷ ps) n x p h one = absurd h
more_parts (m ∷ ns) [] [] n x p h one = absurd h
more_parts (m ∷ ns) [] (q ∷ ps) n x p h one = absurd h
more_parts (m ∷ ns) (y ∷ xs) [] n x p h one = absurd h
more_parts (m ∷ ns) (y ∷ xs) (q ∷ ps) n x p h one = (h.0, more_parts ns xs ps n x p h.1 one)

-- one dimension more
pub next_part : (ns : List ℕ) (xs ps : List Stretch) (i n : ℕ) (x p : Stretch) → i < length ns → i < length xs → AreParts (take i ns) (take i xs) ps → IsPart (get_or ns i n) (get_or xs i x) p
    → AreParts (take (i + 1) ns) (take (i + 1) xs) (ps ++ p ∷ [])
next_part ns xs ps i n x p l m so_far one =
    let P : List ℕ → Type 0 = λ l. AreParts l (take (i + 1) xs) (ps ++ p ∷ []) in
    let Q : List Stretch → Type 0 = λ l. AreParts (take i ns ++ get_or ns i n ∷ []) l (ps ++ p ∷ []) in
    subst P (sym (take_more ns i n l)) (subst Q (sym (take_more xs i x m)) (more_parts (take i ns) (take i xs) ps (get_or ns i n) (get_or xs i x) p so_far one))

pub rising_parts : (ns : List ℕ) (xs ps : List Stretch) → AreParts ns xs ps → AreRising ps
rising_parts [] [] [] h = tt
rising_parts [] [] (q ∷ ps) h = absurd h
rising_parts [] (y ∷ xs) [] h = absurd h
rising_parts [] (y ∷ xs) (q ∷ ps) h = absurd h
rising_parts (m ∷ ns) [] [] h = absurd h
rising_parts (m ∷ ns) [] (q ∷ ps) h = absurd h
rising_parts (m ∷ ns) (y ∷ xs) [] h = absurd h
rising_parts (m ∷ ns) (y ∷ xs) (q ∷ ps) h = ((h.0.from, h.0.rises), rising_parts ns xs ps h.1)

-- ---- the extents of a scene
extent_narrow : (n : ℕ) (b : Bool) → IsExtent (if b then 1 else n) → (b ≡ true → n ≤ 16777216) → 1 ≤ n → (n ≤ 16777216)
extent_narrow n true h small some = small refl
extent_narrow n false h small some = let few = h.1 in omega (arith, few)

pub extent_small : (n : ℕ) → IsExtent (narrow_extent n) → IsSmall n
extent_small n h = elim (leb_tells n 8192) [
  | inl t ↦
      let k : IsExtent n = subst (λ (b : Bool). IsExtent (if b then n else (if nat_le n 16777216 then 1 else n))) t.0 h in
      let few = k.1 in
      (k.0, omega (arith, few))
  | inr t ↦
      let many = t.1 in
      let k : IsExtent (if nat_le n 16777216 then 1 else n) = subst (λ (b : Bool). IsExtent (if b then n else (if nat_le n 16777216 then 1 else n))) t.0 h in
      (omega (arith, many), extent_narrow n (nat_le n 16777216) k (λ e. elim (leb_tells n 16777216) [ inl u ↦ u.1 | inr u ↦ absurd (cc (e, u.0)) ]) (omega (arith, many)))
]

pub extents_small : (es : List ℕ) → AreExtents (map narrow_extent es) → AreSmall es
extents_small [] h = absurd h
extents_small (w ∷ []) h = (extent_small w h, tt)
extents_small (w ∷ v ∷ []) h = (extent_small w h.0, (extent_small v h.1, tt))
extents_small (w ∷ v ∷ c ∷ []) h =
    let three : IsExtent 3 = (omega arith, omega arith) in
    (extent_small w h.0, (extent_small v h.1, (extent_small c (subst IsExtent (sym h.2) three), tt)))
extents_small (w ∷ v ∷ c ∷ d ∷ es) h = absurd h

-- ---- tiles of an output
side : (n x c : ℕ) → IsWithin x c n → IsTile n (stretch_from x c)
side n x c h =
    let some = h.0 in
    let fits = h.1 in
    record { from = omega (arith, ints); rises = omega (arith, ints, some); to = omega (arith, ints, fits) }

channels : (cs : List ℕ) → AreSmall cs → AreTiles cs (channels_whole cs)
channels [] s = tt
channels (c ∷ cs) s = (side c 0 c (s.0.0, omega arith), channels cs s.1)

-- a rectangle inside is a tile
pub box_tiles : (es : List ℕ) (rect : Rect) → IsInside es rect → AreSmall es → AreTiles es (box_of es rect)
box_tiles [] rect h s = absurd h
box_tiles (w ∷ []) rect h s = (side w rect.x rect.width h.0, tt)
box_tiles (w ∷ v ∷ cs) rect h s = (side w rect.x rect.width h.0, (side v rect.y rect.height h.1, channels cs s.1.1))

pub rising_tiles : (es : List ℕ) (ts : List Stretch) → AreTiles es ts → AreRising ts
rising_tiles [] [] h = tt
rising_tiles [] (t ∷ ts) h = absurd h
rising_tiles (n ∷ ns) [] h = absurd h
rising_tiles (n ∷ ns) (t ∷ ts) h = ((h.0.from, h.0.rises), rising_tiles ns ts h.1)

pub small_rect : (es : List ℕ) (rect : Rect) → IsInside es rect → AreSmall es → IsSmallRect rect
small_rect [] rect h s = absurd h
small_rect (w ∷ []) rect h s =
    let fits = h.0.1 in
    let few = s.0.1 in
    let top = h.1 in
    let one = h.2 in
    ((h.0.0, omega (arith, fits, few)), (omega (arith, one), omega (arith, top, one)))
small_rect (w ∷ v ∷ cs) rect h s =
    let fits = h.0.1 in
    let few = s.0.1 in
    let high = h.1.1 in
    let less = s.1.0.1 in
    ((h.0.0, omega (arith, fits, few)), (h.1.0, omega (arith, high, less)))
