-- The places of a buffer and their numbers are one to one.
use Rattle.std.proofs.Common.{◌≡◌, ℕ, ◌+◌, ◌*◌, ◌<◌, ◌≤◌, refl, sym, subst, ap, ◌∙◌, arith, List, [], ◌∷◌, Option, Some, None, ℤ, pos, negsuc, ◌-ℤ◌, nat_lt, map, take, drop, length, get_or, ◌-◌}
use Rattle.std.specs.Int.{int_rem_euclid}
use Rattle.std.proofs.lemmas.Bool.{lt-ltb, ltb-true}
use Rattle.std.proofs.lemmas.Nat.{mul-add-lt, same_from_place}
use Rattle.std.proofs.lemmas.Option.{none-some, cond_some}
use Rattle.std.proofs.Math.Nat.{mul_comm}
use Rattle.std.proofs.lemmas.Grind.{common_steps}
use Rattle.interpreter.specs.declared.buffers.room.Room.{Room as CodeRoom}
use Rattle.interpreter.specs.Buffers.Rooms.{room_of}
use Rattle.plan.specs.Rooms.{Room, Straight, Wrapped, below, seat, place}
use Rattle.interpreter.specs.Buffers.Raster.{room_count, place_count, place_number, number_from, LiesAt}

below_less : (n : ℕ) (z : ℤ) (k : ℕ) → below n z ≡ Some k → k < n
below_less n (pos j) k e = let h = cond_some (nat_lt j n) j k e in subst (λ i. i < n) h.1 (ltb-true j n h.0)
below_less n (negsuc j) k e = absurd (none-some k e)

-- a place of a coordinate is one of so many
seat_less : (r : Room) (z : ℤ) (k : ℕ) → seat r z ≡ Some k → k < room_count r
seat_less (Straight origin n) z k e = below_less n (z -ℤ origin) k e
seat_less (Wrapped n) z k e = below_less n (int_rem_euclid z (pos n)) k e

number_less : (n many k count : ℕ) → n < many → k < count → n * count + k < many * count
number_less n many k count h g = subst (λ m. n * count + k < m) (mul_comm count many) (mul-add-lt n count k many h g)

-- one coordinate more
pub lies_more : (r : Room) (rs : List Room) (z : ℤ) (zs : List ℤ) (k n : ℕ) → seat r z ≡ Some k → LiesAt rs zs n → LiesAt (r ∷ rs) (z ∷ zs) (n * room_count r + k)
lies_more r rs z zs k n e h =
    let lies = h.lies in
    let numbered = h.numbered in
    let less = seat_less r z k e in
    let test = lt-ltb k (room_count r) less in
    record {
      at = k ∷ h.at;
      lies = rw (e, lies) refl;
      numbered = rw (numbered, test) refl;
      counted = number_less n (place_count rs) k (room_count r) h.counted less;
    }

rest_of : {A : Type 0} (x : A) (xs : List A) → take (length (x ∷ xs) - 1) (drop 1 (x ∷ xs)) ≡ xs
rest_of x xs = grind (arith, common_steps)

-- a point of one coordinate more
pub lies_first : (rooms : List CodeRoom) (at : List ℤ) (d : CodeRoom) (e : ℤ) (k n count : ℕ) → 1 ≤ length rooms → 1 ≤ length at → seat (room_of (get_or rooms 0 d)) (get_or at 0 e) ≡ Some k → count ≡ room_count (room_of (get_or rooms 0 d)) → LiesAt (map room_of (take (length rooms - 1) (drop 1 rooms))) (take (length at - 1) (drop 1 at)) n → LiesAt (map room_of rooms) at (n * count + k)
lies_first [] at d e k n count h g s c l = absurd (omega arith)
lies_first (r ∷ rs) [] d e k n count h g s c l = absurd (omega arith)
lies_first (r ∷ rs) (z ∷ zs) d e k n count h g s c l =
    let P : List CodeRoom → Type 0 = λ xs. LiesAt (map room_of xs) zs n in
    let Q : List ℤ → Type 0 = λ xs. LiesAt (map room_of (take (length (r ∷ rs) - 1) (drop 1 (r ∷ rs)))) xs n in
    let R : ℕ → Type 0 = λ m. LiesAt (map room_of (r ∷ rs)) (z ∷ zs) (n * m + k) in
    subst R (sym c) (lies_more (room_of r) (map room_of rs) z zs k n s (subst P (rest_of r rs) (subst Q (rest_of z zs) l)))

-- a point of too few coordinates
pub place_short : (rooms : List CodeRoom) (at : List ℤ) → 1 ≤ length rooms → length at < 1 → place (map room_of rooms) at ≡ None
place_short [] at h g = absurd (omega arith)
place_short (r ∷ rs) [] h g = refl
place_short (r ∷ rs) (z ∷ zs) h g = absurd (omega arith)

from_parts : (count k n : ℕ) (o : Option ℕ) → number_from count k o ≡ Some n → (m : ℕ) × (o ≡ Some m) × (k < count) × (m * count + k ≡ n)
from_parts count k n None e = absurd (none-some n e)
from_parts count k n (Some m) e = let h = cond_some (nat_lt k count) (m * count + k) n e in (m, refl, ltb-true k count h.0, h.1)

-- no two places have one number
pub same_number : (rs : List Room) (q at : List ℕ) (n : ℕ) → place_number rs q ≡ Some n → place_number rs at ≡ Some n → q ≡ at
same_number [] [] [] n e f = refl
same_number [] [] (j ∷ js) n e f = absurd (none-some n f)
same_number [] (k ∷ ks) at n e f = absurd (none-some n e)
same_number (r ∷ rs) [] at n e f = absurd (none-some n e)
same_number (r ∷ rs) (k ∷ ks) [] n e f = absurd (none-some n f)
same_number (r ∷ rs) (k ∷ ks) (j ∷ js) n e f =
    let x = from_parts (room_count r) k n (place_number rs ks) e in
    let y = from_parts (room_count r) j n (place_number rs js) f in
    let same = same_from_place x.0 k y.0 j (room_count r) x.2 y.2 (x.3 ∙ sym y.3) in
    let first = same.1 in
    let later = same_number rs ks js x.0 x.1 (y.1 ∙ ap Some (sym same.0)) in
    cc
