-- Places by their numbers: found for the points of a run a coordinate after another, and read and written by them.
use Rattle.std.proofs.Common.{◌≡◌, ℕ, ◌+◌, ◌-◌, ◌<◌, ◌≤◌, List, [], ◌∷◌, length, map, drop, take, get_or, position, Some, None, refl, sym, ap, subst, ◌∙◌, arith, ℤ, slice_set, below_more}
use Rattle.std.specs.Prelude.{◌==◌, ◌&&◌, slice_get, slice_index_or}
use Rattle.std.proofs.lemmas.Grind.{common_steps}
use Rattle.std.proofs.lemmas.List.{get_or-set_other, get_or-set_same}
use Rattle.plan.specs.Rooms.{place}
use Rattle.plan.specs.Semantics.Memory.{held_at}
use Rattle.interpreter.specs.Buffers.Blocks.{Block, held_by_number, held_in}
use Rattle.interpreter.specs.Buffers.Raster.{LiesAt}
use Rattle.interpreter.specs.Buffers.Rooms.{room_of}
use Rattle.interpreter.specs.Buffers.Spots.{HasPlace, IsSpot}
use Rattle.interpreter.specs.Evaluation.Lanes.{number_at}
use Rattle.interpreter.specs.PlaceNumbers.{place_at, IsOneMore, OperandStands, StandsAt, UpdateStands}
use Rattle.interpreter.specs.Updates.{columns_at}
use Rattle.interpreter.specs.declared.buffers.room.Room.{Room as CodeRoom}
use Rattle.interpreter.specs.declared.buffers.spot.Spot.{Spot}
use Rattle.interpreter.specs.declared.evaluation.lanes.Number.{Number}
use Rattle.interpreter.specs.declared.updates.Operand.{Operand}
use Rattle.interpreter.specs.declared.updates.Operand.TheVariants.{Known, Own}
use Rattle.interpreter.specs.declared.updates.Update.{Update}
use Rattle.interpreter.proofs.Places.{lies_more}

-- ---- loops over numbers of places

-- the first so many are as they have to be, the later ones as before
pub record PlacesBelow (P : ℕ → ℕ → Type 0) (n : ℕ) (old new : List ℕ) : Type 0 where
  pub done : (k : ℕ) → k < n → P k (place_at new k)
  pub later : (k : ℕ) → n ≤ k → place_at new k ≡ place_at old k
  pub long : length new ≡ length old

pub places_begin : (P : ℕ → ℕ → Type 0) (old : List ℕ) → PlacesBelow P 0 old old
places_begin P old = record { done = λ k h. absurd (omega arith); later = λ k h. refl; long = refl }

pub places_next : (P : ℕ → ℕ → Type 0) (n : ℕ) (old new : List ℕ) (w : ℕ) → n < length new → PlacesBelow P n old new → P n w → length (slice_set new n w) ≡ length new →
    PlacesBelow P (n + 1) old (slice_set new n w)
places_next P n old new w lt h is long = record {
  done = below_more (λ k. P k (place_at (slice_set new n w) k)) n
      (λ k less. subst (P k) (sym (get_or-set_other new n k w 0 (omega arith))) (h.done k less))
      (subst (P n) (sym (get_or-set_same new n w 0 lt)) is);
  later = λ k more. get_or-set_other new n k w 0 (omega arith) ∙ h.later k (omega arith);
  long = long ∙ h.long;
}

-- ---- the places of points

-- the point of no coordinates
pub lies_first_place : (rooms : List CodeRoom) (n k place : ℕ) (zs : List Number) → length rooms < 1 → place ≡ 0 → LiesAt (map room_of rooms) (columns_at n (length rooms) zs k) place
lies_first_place [] n k place zs h e = subst (λ (m : ℕ). LiesAt [] [] m) (sym e) (record { at = []; lies = refl; numbered = refl; counted = omega arith })
lies_first_place (r ∷ rs) n k place zs h e = absurd (omega arith)

rest_of : {A : Type 0} (x : A) (xs : List A) → take (length (x ∷ xs) - 1) (drop 1 (x ∷ xs)) ≡ xs
rest_of x xs = grind (arith, common_steps)

-- and a point with one more
pub lies_column : (rooms : List CodeRoom) (d : CodeRoom) (n k later place : ℕ) (zs behind : List Number) → 1 ≤ length rooms → behind ≡ drop n zs →
    IsOneMore (room_of (get_or rooms 0 d)) (number_at zs k) later place →
    LiesAt (map room_of (take (length rooms - 1) (drop 1 rooms))) (columns_at n (length (take (length rooms - 1) (drop 1 rooms))) behind k) later →
    LiesAt (map room_of rooms) (columns_at n (length rooms) zs k) place
lies_column [] d n k later place zs behind some same h l = absurd (omega arith)
lies_column (r ∷ rs) d n k later place zs behind some same h l =
    let L : ℕ → Type 0 = λ m. LiesAt (map room_of (r ∷ rs)) (number_at zs k ∷ columns_at n (length rs) (drop n zs) k) m in
    let M : List CodeRoom → List Number → Type 0 = λ xs ys. LiesAt (map room_of xs) (columns_at n (length xs) ys k) later in
    let lies : M rs (drop n zs) = subst (λ (xs : List CodeRoom). M xs (drop n zs)) (rest_of r rs) (subst (M (take (length (r ∷ rs) - 1) (drop 1 (r ∷ rs)))) same l) in
    subst L (sym h.number) (lies_more (room_of r) (map room_of rs) (number_at zs k) (columns_at n (length rs) (drop n zs) k) h.first later h.is lies)

-- the point of one coordinate
pub lies_only_column : (rooms : List CodeRoom) (d : CodeRoom) (n k place : ℕ) (zs : List Number) → length rooms ≡ 1 →
    IsOneMore (room_of (get_or rooms 0 d)) (number_at zs k) 0 place → LiesAt (map room_of rooms) (columns_at n (length rooms) zs k) place
lies_only_column [] d n k place zs one h = absurd (omega (arith, one))
lies_only_column (r ∷ []) d n k place zs one h =
    let L : ℕ → Type 0 = λ m. LiesAt (map room_of (r ∷ [])) (number_at zs k ∷ columns_at n 0 (drop n zs) k) m in
    subst L (sym h.number) (lies_more (room_of r) [] (number_at zs k) [] h.first 0 h.is (lies_first_place [] n k 0 (drop n zs) (omega arith) refl))
lies_only_column (r ∷ s ∷ rs) d n k place zs one h = absurd (omega (arith, one))

-- what a buffer has at a point that lies at this number
pub held_lies : (block : Block) (p : List ℤ) (n : ℕ) → LiesAt block.rooms p n → held_at (held_in block) (place block.rooms p) ≡ slice_index_or block.places n None
held_lies block p n h = ap (held_at (held_in block)) h.lies ∙ ap (held_by_number block.places) h.numbered

-- ---- the spots of points

pub stands_in : (blocks : List Block) (b i n : ℕ) (block : Block) (p : List ℤ) → position (λ block. block.used && (b == block.number)) blocks ≡ Some i →
    slice_get blocks i ≡ Some block → LiesAt block.rooms p n → n < length block.places → StandsAt blocks b p i n
stands_in blocks b i n block p first there lies inside =
    let none : n ≡ n + 0 = omega arith in
    record {
      spot = record { first = first; block = block; there = there; lies = subst (LiesAt block.rooms p) none lies };
      inside = record { block = block; there = there; inside = inside };
    }

-- ---- what stays when places are set

pub stands_kept : (old new : List Block) (b i n : ℕ) (p : List ℤ) → ((j m : ℕ) → HasPlace old j m → HasPlace new j m) →
    ((c : ℕ) (q : List ℤ) (s : Spot) (l : ℕ) → IsSpot old c q s l → IsSpot new c q s l) →
    StandsAt old b p i n → StandsAt new b p i n
stands_kept old new b i n p places spots h = record { spot = spots b p (record { buffer = i; place = n }) 0 h.spot; inside = places i n h.inside }

operand_kept : (old new : List Block) (b n i : ℕ) (o : Operand) (zs : List Number) (ns : List ℕ) (k : ℕ) → ((j m : ℕ) → HasPlace old j m → HasPlace new j m) →
    ((c : ℕ) (q : List ℤ) (s : Spot) (l : ℕ) → IsSpot old c q s l → IsSpot new c q s l) → OperandStands old b n i o zs ns k → OperandStands new b n i o zs ns k
operand_kept old new b n i (Known t) zs ns k places spots h = h
operand_kept old new b n i (Own w) zs ns k places spots h = stands_kept old new b i (place_at ns k) (columns_at n w zs k) places spots h

pub update_kept : (old new : List Block) (b size n i : ℕ) (u : Update) (zs : List Number) (point left right : List ℕ) (k : ℕ) → ((j m : ℕ) → HasPlace old j m → HasPlace new j m) →
    ((c : ℕ) (q : List ℤ) (s : Spot) (l : ℕ) → IsSpot old c q s l → IsSpot new c q s l) → UpdateStands old b size n i u zs point left right k → UpdateStands new b size n i u zs point left right k
update_kept old new b size n i u zs point left right k places spots h = record {
  point = stands_kept old new b i (place_at point k) (columns_at n size zs k) places spots h.point;
  operation = record {
    left = operand_kept old new b n i u.operation.left (drop u.start zs) left k places spots h.operation.left;
    right = operand_kept old new b n i u.operation.right (drop u.operation.width (drop u.start zs)) right k places spots h.operation.right;
  };
}
