-- Rows: what lies at points that differ in the first coordinate alone.
use Rattle.std.proofs.Common.{◌≡◌, ℕ, zero, suc, ◌+◌, ◌*◌, ◌-◌, ◌<◌, ◌≤◌, List, [], ◌∷◌, length, take, drop, get_or, Option, Some, None, option_map, Bool, true, false, refl, sym, subst, ap, ◌∙◌, arith, ℤ, pos, negsuc}
use Rattle.std.specs.Prelude.{◌+ℤ◌, ◌-ℤ◌, ◌&&◌, nat_lt, slice_get, slice_index, if◌then◌else◌}
use Rattle.std.proofs.lemmas.Bool.{lt-ltb, and_from, cond-true}
use Rattle.std.proofs.lemmas.Int.{ints}
use Rattle.std.proofs.lemmas.Option.{none-some, get_or_from_slice_get, slice_get-get_or}
use Rattle.numeric.specs.declared.ty.Ty.{Ty}
use Rattle.tree.specs.declared.value.Value.{Value}
use Rattle.tree.specs.Meaning.{typed}
use Rattle.plan.specs.Rooms.{Room, Straight, below, seat, place}
use Rattle.plan.specs.Semantics.Memory.{held_at}
use Rattle.interpreter.specs.Buffers.Blocks.{held_by_number}
use Rattle.interpreter.specs.Buffers.Raster.{place_number, LiesAt}
use Rattle.interpreter.specs.Scanlines.{along, input_at, sample_along}
use Rattle.interpreter.specs.declared.buffers.room.Room.{Room as CodeRoom}
use Rattle.std.proofs.lemmas.Grind.{common_steps}
use Rattle.std.proofs.Math.Nat.{le-mul_of_pos_right}
use Rattle.interpreter.proofs.Places.{lies_more}

-- ---- elements side by side

get_drop : {A : Type 0} (xs : List A) (s k : ℕ) → slice_get (drop s xs) k ≡ slice_get xs (s + k)
get_drop xs zero k = let e : k ≡ 0 + k = omega arith in ap (slice_get xs) e
get_drop [] (suc s) k = refl
get_drop (x ∷ xs) (suc s) k = let e : suc (s + k) ≡ suc s + k = omega arith in get_drop xs s k ∙ ap (slice_get (x ∷ xs)) e

get_take : {A : Type 0} (xs : List A) (c k : ℕ) (x : A) → slice_get (take c xs) k ≡ Some x → slice_get xs k ≡ Some x
get_take xs zero k x h = absurd (none-some x h)
get_take [] (suc c) k x h = absurd (none-some x h)
get_take (y ∷ ys) (suc c) zero x h = h
get_take (y ∷ ys) (suc c) (suc k) x h = get_take ys c k x h

taken_less : {A : Type 0} (xs : List A) (c k : ℕ) (x : A) → slice_get (take c xs) k ≡ Some x → k < c
taken_less xs zero k x h = absurd (none-some x h)
taken_less [] (suc c) k x h = absurd (none-some x h)
taken_less (y ∷ ys) (suc c) zero x h = omega arith
taken_less (y ∷ ys) (suc c) (suc k) x h = let less = taken_less ys c k x h in omega arith

-- an element of some that stand side by side is one of all
pub along_window : {A : Type 0} (xs : List A) (start count k : ℕ) (x : A) → along (take count (drop start xs)) (pos k) ≡ Some x → along xs (pos (start + k)) ≡ Some x
along_window xs start count k x h = sym (get_drop xs start k) ∙ get_take (drop start xs) count k x h

-- ---- places of a buffer

rest_of : {A : Type 0} (x : A) (xs : List A) → take (length (x ∷ xs) - 1) (drop 1 (x ∷ xs)) ≡ xs
rest_of x xs = grind (arith, common_steps)

-- the first of some places, and the later ones
pub first_room : (rooms : List CodeRoom) (d : CodeRoom) → 1 ≤ length rooms → rooms ≡ get_or rooms 0 d ∷ take (length rooms - 1) (drop 1 rooms)
first_room [] d some = absurd (omega arith)
first_room (r ∷ rs) d some = ap (λ (xs : List CodeRoom). r ∷ xs) (sym (rest_of r rs))

pub straight_lies : (origin o : ℤ) (count k n start : ℕ) (rs : List Room) (zs : List ℤ) → o ≡ origin → k < count → start ≡ n * count → LiesAt rs zs n → LiesAt (Straight origin count ∷ rs) ((o +ℤ pos k) ∷ zs) (start + k)
straight_lies origin o count k n start rs zs same lt is h =
    let z = o +ℤ pos k in
    let f : z -ℤ origin ≡ pos k = omega (arith, ints, same) in
    let e : seat (Straight origin count) z ≡ Some k = ap (below count) f ∙ cond-true (nat_lt k count) (Some k) None (lt-ltb k count lt) in
    let P : ℕ → Type 0 = λ m. LiesAt (Straight origin count ∷ rs) (z ∷ zs) (m + k) in
    subst P (sym is) (lies_more (Straight origin count) rs z zs k n e h)

-- what some places of each of so many coordinates are, if the product is small
pub factor_small : (m n b : ℕ) → 0 < n → m * n < b → m < b
factor_small m n b some lt = by (m * n) (le-mul_of_pos_right m some) lt
  where
    by : (p : ℕ) → m ≤ p → p < b → m < b
    by p h g = omega arith

abbrev held_of : List Room → List (Option Value) → List ℕ → Option Value
held_of rs places at = held_by_number places (place_number rs at)

-- what is held in a row of places is held at the point
pub scan_held : (rs : List Room) (places : List (Option Value)) (origin : ℤ) (start count : ℕ) (zs : List ℤ) → ((k : ℕ) → k < count → LiesAt rs ((origin +ℤ pos k) ∷ zs) (start + k))
    → (z : ℤ) (v : Value) → along (take count (drop start places)) (z -ℤ origin) ≡ Some (Some v) → held_at (λ at. held_by_number places (place_number rs at)) (place rs (z ∷ zs)) ≡ Some v
scan_held rs places origin start count zs lies z v h = by (z -ℤ origin) refl h
  where
    by : (w : ℤ) → w ≡ z -ℤ origin → along (take count (drop start places)) w ≡ Some (Some v) → held_at (held_of rs places) (place rs (z ∷ zs)) ≡ Some v
    by (negsuc k) e g = absurd (none-some (Some v) g)
    by (pos k) e g =
        let here = lies k (taken_less (drop start places) count k (Some v) g) in
        let is : origin +ℤ pos k ≡ z = omega (arith, ints, e) in
        let there : place rs (z ∷ zs) ≡ Some here.at = ap (λ (y : ℤ). place rs (y ∷ zs)) (sym is) ∙ here.lies in
        ap (held_at (held_of rs places)) there ∙ ap (held_by_number places) here.numbered ∙ get_or_from_slice_get places (start + k) (Some v) None (along_window places start count k (Some v) g)

-- ---- samples

pub within_both : (t : Ty) (b : Bool) (m : ℤ) → b ≡ true → (if b then Some (typed t (if b then m else pos 0)) else None) ≡ Some (typed t m)
within_both t true m h = refl
within_both t false m h = absurd (cc)

pub record IsSample (w start : ℕ) (samples : List ℕ) (z n : ℤ) : Type 0 where
  pub at : ℕ
  pub is : z ≡ pos at
  pub less : at < w
  pub number : pos (slice_index samples (start + at)) ≡ n

pub sample_there : (w start : ℕ) (samples : List ℕ) (z n : ℤ) → sample_along (take w (drop start samples)) z ≡ Some n → IsSample w start samples z n
sample_there w start samples (negsuc k) n h = absurd (none-some n h)
sample_there w start samples (pos k) n h = by (slice_get (take w (drop start samples)) k) refl h
  where
    by : (o : Option ℕ) → slice_get (take w (drop start samples)) k ≡ o → option_map (λ (m : ℕ). pos m) o ≡ Some n → IsSample w start samples (pos k) n
    by None e g = absurd (none-some n g)
    by (Some m) e g =
        let same : pos m ≡ n = cc in
        record {
          at = k;
          is = refl;
          less = taken_less (drop start samples) w k m e;
          number = ap (λ (i : ℕ). pos i) (get_or_from_slice_get samples (start + k) m 0 (along_window samples start w k m e)) ∙ same;
        }

-- the samples of an image of one row
pub first_row : (t : Ty) (w : ℕ) (samples : List ℕ) (z n : ℤ) → sample_along (take w (drop 0 samples)) z ≡ Some n → input_at t (w ∷ []) samples (z ∷ []) ≡ Some (typed t n)
first_row t w samples z n h =
    let x = sample_there w 0 samples z n h in
    let within : (nat_lt x.at w && true) ≡ true = and_from (nat_lt x.at w) true (lt-ltb x.at w x.less) refl in
    let same : x.at ≡ 0 + x.at = omega arith in
    ap (λ (y : ℤ). input_at t (w ∷ []) samples (y ∷ [])) x.is
    ∙ within_both t (nat_lt x.at w && true) (pos (slice_index samples x.at)) within
    ∙ ap (λ (i : ℕ). Some (typed t (pos (slice_index samples i)))) same ∙ ap (λ (y : ℤ). Some (typed t y)) x.number

-- and of a row of an image of two dimensions
pub later_row : (t : Ty) (w h y : ℕ) (samples : List ℕ) (z n : ℤ) → y < h → sample_along (take w (drop (y * w) samples)) z ≡ Some n → input_at t (w ∷ h ∷ []) samples (z ∷ pos y ∷ []) ≡ Some (typed t n)
later_row t w h y samples z n lt g =
    let x = sample_there w (y * w) samples z n g in
    let b : Bool = nat_lt x.at w && (nat_lt y h && true) in
    let within : b ≡ true = and_from (nat_lt x.at w) (nat_lt y h && true) (lt-ltb x.at w x.less) (and_from (nat_lt y h) true (lt-ltb y h lt) refl) in
    ap (λ (a : ℤ). input_at t (w ∷ h ∷ []) samples (a ∷ pos y ∷ [])) x.is
    ∙ within_both t b (pos (slice_index samples (y * w + x.at))) within
    ∙ ap (λ (a : ℤ). Some (typed t a)) x.number

-- a sample of some that stand side by side is one of the row
pub sample_window : (row : List ℕ) (start count k : ℕ) → length (take count (drop start row)) ≡ count → k < count → sample_along row (pos (start + k)) ≡ Some (pos (slice_index (take count (drop start row)) k))
sample_window row start count k long lt =
    let w = take count (drop start row) in
    let there : slice_get w k ≡ Some (slice_index w k) = slice_get-get_or w k 0 (omega (arith, long)) in
    ap (option_map (λ (m : ℕ). pos m)) (along_window row start count k (slice_index w k) there)

-- ---- lists of a few elements

pub no_items : {A : Type 0} (xs : List A) → length xs < 1 → xs ≡ []
no_items [] h = refl
no_items (x ∷ xs) h = absurd (omega arith)

pub only_one : {A : Type 0} (xs : List A) (d : A) → 1 ≤ length xs → length xs < 2 → xs ≡ get_or xs 0 d ∷ []
only_one [] d from to = absurd (omega arith)
only_one (x ∷ []) d from to = refl
only_one (x ∷ y ∷ ys) d from to = absurd (omega arith)

pub only_two : {A : Type 0} (xs : List A) (d : A) → 2 ≤ length xs → length xs < 3 → xs ≡ get_or xs 0 d ∷ get_or xs 1 d ∷ []
only_two [] d from to = absurd (omega arith)
only_two (x ∷ []) d from to = absurd (omega arith)
only_two (x ∷ y ∷ []) d from to = refl
only_two (x ∷ y ∷ z ∷ zs) d from to = absurd (omega arith)

-- an element of some that stand side by side, by its place among all
pub window_along : {A : Type 0} (xs ys : List A) (start count k : ℕ) (z : ℤ) (x : A) → ys ≡ take count (drop start xs) → z ≡ pos (start + k) → along ys (pos k) ≡ Some x → along xs z ≡ Some x
window_along xs ys start count k z x same is h =
    ap (along xs) is ∙ along_window xs start count k x (ap (λ l. along l (pos k)) (sym same) ∙ h)

-- and the sample there
pub sample_row : (samples row : List ℕ) (start count k : ℕ) → row ≡ take count (drop start samples) → length row ≡ count → k < count → sample_along samples (pos (start + k)) ≡ Some (pos (slice_index row k))
sample_row samples row start count k same long lt =
    sample_window samples start count k (ap length (sym same) ∙ long) lt ∙ ap (λ (r : List ℕ). Some (pos (slice_index r k))) (sym same)
