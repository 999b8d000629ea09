-- Where points lie in memory, and what stays there when a place is set.
use Rattle.std.proofs.Common.{◌≡◌, ℕ, zero, suc, ◌+◌, ◌-◌, ◌<◌, ◌≤◌, List, [], ◌∷◌, length, take, drop, get_or, set, position, Option, Some, None, Bool, true, false, refl, sym, subst, ap, ◌∙◌, arith, ℤ, pos}
use Rattle.std.specs.Prelude.{◌+ℤ◌, ◌-ℤ◌, ◌*ℤ◌, ◌==◌, ◌&&◌, nat_lt, slice_get, if◌then◌else◌}
use Rattle.std.specs.Bool.{Decides, OnTrue}
use Rattle.std.proofs.Math.IntN.{zero-*ℤ, *ℤ-one, *ℤ_comm}
use Rattle.std.proofs.lemmas.Grind.{common_steps}
use Rattle.std.proofs.lemmas.Int.{ints}
use Rattle.std.proofs.lemmas.List.{length-set}
use Rattle.std.proofs.lemmas.List.Folds.{position_or_len-set}
use Rattle.std.proofs.lemmas.Option.{none-some}
use Rattle.tree.specs.declared.value.Value.{Value}
use Rattle.plan.specs.Rooms.{Room}
use Rattle.plan.specs.Semantics.Found.{with}
use Rattle.plan.specs.Semantics.Memory.{Memory, write}
use Rattle.interpreter.specs.Buffers.Blocks.{Block}
use Rattle.interpreter.specs.Buffers.Raster.{LiesAt}
use Rattle.interpreter.specs.Buffers.Spots.{set_all, HasPlace, IsSpot}
use Rattle.interpreter.specs.Runs.{numbers_at}
use Rattle.interpreter.specs.declared.buffers.spot.Spot.{Spot}

-- ---- points that rise by one

-- what a test that decides says where it passes
pub sound_test : (b : Bool) (P : Type 0) → Decides b P → OnTrue b P
sound_test true P h = h.0 refl
sound_test false P h = tt

-- numbers that stay
same_numbers : (xs : List ℤ) (k : ℕ) → numbers_at xs xs k ≡ xs
same_numbers [] k = refl
same_numbers (x ∷ xs) k =
    let none : x -ℤ x ≡ pos 0 = omega (arith, ints) in
    let zero_times = zero-*ℤ (pos k) in
    let same : x +ℤ pos 0 *ℤ pos k ≡ x = omega (arith, ints, zero_times) in
    λ i. (ap (λ (d : ℤ). x +ℤ d *ℤ pos k) none ∙ same) i ∷ same_numbers xs k i

-- numbers of which the first rises by one
risen : (x : ℤ) (xs : List ℤ) (k : ℕ) → numbers_at (x ∷ xs) ((x +ℤ pos 1) ∷ xs) k ≡ (x +ℤ pos k) ∷ xs
unfolding lib.IntN.one
risen x xs k =
    let step : (x +ℤ pos 1) -ℤ x ≡ pos 1 = omega (arith, ints) in
    let one_times : pos 1 *ℤ pos k ≡ pos k = *ℤ_comm (pos 1) (pos k) ∙ *ℤ-one (pos k) in
    let first : x +ℤ ((x +ℤ pos 1) -ℤ x) *ℤ pos k ≡ x +ℤ pos k = ap (λ (d : ℤ). x +ℤ d *ℤ pos k) step ∙ ap (λ (d : ℤ). x +ℤ d) one_times in
    λ i. first i ∷ same_numbers xs k i

pub numbers_risen : (first second others : List ℤ) (x : ℤ) (k : ℕ) → first ≡ x ∷ others → second ≡ (x +ℤ pos 1) ∷ others → numbers_at first second k ≡ (x +ℤ pos k) ∷ others
numbers_risen first second others x k is next = (λ i. numbers_at (is i) (next i) k) ∙ risen x others k

rest_of : {A : Type 0} (x : A) (xs : List A) → take (length (x ∷ xs) - 1) (drop 1 (x ∷ xs)) ≡ xs
rest_of x xs = grind (arith, common_steps)

-- a list by its first element
pub by_first : {A : Type 0} (xs : List A) (d : A) → 1 ≤ length xs → xs ≡ get_or xs 0 d ∷ take (length xs - 1) (drop 1 xs)
by_first [] d some = absurd (omega arith)
by_first (x ∷ xs) d some = ap (λ ys. x ∷ ys) (sym (rest_of x xs))

-- what the later numbers are, if the first one is one more than another
pub next_number : (ys zs : List ℤ) (x : ℤ) → 1 ≤ length ys → get_or ys 0 (pos 0) ≡ x +ℤ pos 1 → (b : Bool) → OnTrue b (take (length ys - 1) (drop 1 ys) ≡ zs) → OnTrue b (ys ≡ (x +ℤ pos 1) ∷ zs)
next_number ys zs x some up false h = h
next_number ys zs x some up true h = by_first ys (pos 0) some ∙ (λ i. up i ∷ h i)

-- points that come one by one behind the first one of some that lie side by side
pub lies_from : (rooms : List Room) (origin first : ℤ) (start all skipped count place k : ℕ) (zs : List ℤ) → ((j : ℕ) → j < all → LiesAt rooms ((origin +ℤ pos j) ∷ zs) (start + j))
    → first ≡ origin +ℤ pos skipped → skipped + count ≤ all → place ≡ start + skipped → k < count → LiesAt rooms ((first +ℤ pos k) ∷ zs) (place + k)
lies_from rooms origin first start all skipped count place k zs lies is few at lt =
    let z : origin +ℤ pos (skipped + k) ≡ first +ℤ pos k = omega (arith, ints, is) in
    let n : start + (skipped + k) ≡ place + k = omega (arith, at) in
    subst (λ (y : ℤ). LiesAt rooms (y ∷ zs) (place + k)) z (subst (λ (m : ℕ). LiesAt rooms ((origin +ℤ pos (skipped + k)) ∷ zs) m) n (lies (skipped + k) (omega (arith, few, lt))))

-- ---- what stays when a place is set

-- the buffer at a position, with the rooms and as many places as before
record IsKept (blocks : List Block) (j : ℕ) (x : Block) : Type 0 where
  block : Block
  there : slice_get blocks j ≡ Some block
  rooms : block.rooms ≡ x.rooms
  count : length block.places ≡ length x.places

kept_at : (xs : List Block) (i j : ℕ) (new d x : Block) → new.rooms ≡ (get_or xs i d).rooms → length new.places ≡ length (get_or xs i d).places → slice_get xs j ≡ Some x → IsKept (set xs i new) j x
kept_at [] i j new d x r c h = absurd (none-some x h)
kept_at (z ∷ zs) zero zero new d x r c h =
    let e : z ≡ x = cc in
    record { block = new; there = refl; rooms = r ∙ ap (λ block. Block.rooms block) e; count = c ∙ ap (λ block. length (Block.places block)) e }
kept_at (z ∷ zs) zero (suc j) new d x r c h = record { block = x; there = h; rooms = refl; count = refl }
kept_at (z ∷ zs) (suc i) zero new d x r c h = record { block = x; there = h; rooms = refl; count = refl }
kept_at (z ∷ zs) (suc i) (suc j) new d x r c h =
    let later = kept_at zs i j new d x r c h in
    record { block = later.block; there = later.there; rooms = later.rooms; count = later.count }

pub place_kept : (blocks : List Block) (i : ℕ) (new d : Block) → new.rooms ≡ (get_or blocks i d).rooms → length new.places ≡ length (get_or blocks i d).places → (j n : ℕ) →
    HasPlace blocks j n → HasPlace (set blocks i new) j n
place_kept blocks i new d r c j n h =
    let kept = kept_at blocks i j new d h.block r c h.there in
    record { block = kept.block; there = kept.there; inside = subst (λ (m : ℕ). n < m) (sym kept.count) h.inside }

same_position : (p : Block → Bool) (blocks : List Block) (i : ℕ) (new d : Block) → p new ≡ p (get_or blocks i d) → position p (set blocks i new) ≡ position p blocks
same_position p blocks i new d e =
    let at = position_or_len-set p blocks i new d e in
    let long = length-set blocks i new in
    λ t. if nat_lt (at t) (long t) then Some (at t) else None

pub spot_kept : (blocks : List Block) (i : ℕ) (new d : Block) → new.number ≡ (get_or blocks i d).number → new.used ≡ (get_or blocks i d).used → new.rooms ≡ (get_or blocks i d).rooms
    → length new.places ≡ length (get_or blocks i d).places → (b : ℕ) (p : List ℤ) (s : Spot) (k : ℕ) → IsSpot blocks b p s k → IsSpot (set blocks i new) b p s k
spot_kept blocks i new d number used r c b p s k h =
    let kept = kept_at blocks i s.buffer new d h.block r c h.there in
    record {
      first = same_position (λ block. block.used && (b == block.number)) blocks i new d (λ t. used t && (b == number t)) ∙ h.first;
      block = kept.block;
      there = kept.there;
      lies = subst (λ (rs : List Room). LiesAt rs p (s.place + k)) (sym kept.rooms) h.lies;
    }

-- one value more
pub set_more : (m x y : Memory Value) (b : ℕ) (points : ℕ → List ℤ) (values : ℕ → Value) (n : ℕ) → set_all m b points values n ≡ Some x → write x b (points n) (values n) ≡ Some y →
    set_all m b points values (n + 1) ≡ Some y
set_more m x y b points values n h g =
    let more : n + 1 ≡ suc n = omega arith in
    ap (set_all m b points values) more ∙ ap (λ (o : Option (Memory Value)). with o (λ z. write z b (points n) (values n))) h ∙ g

-- a position where there is a buffer
pub there_less : (xs : List Block) (i : ℕ) (x : Block) → slice_get xs i ≡ Some x → i < length xs
there_less [] i x h = absurd (none-some x h)
there_less (y ∷ ys) zero x h = omega arith
there_less (y ∷ ys) (suc i) x h = let less = there_less ys i x h in omega (arith, less)
