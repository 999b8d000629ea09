-- What places hold by lists of marks, words and numbers that stand apart: one of them, one that is set, and those that lie side by side.
use Rattle.std.proofs.Common.{◌≡◌, ℕ, zero, suc, ◌+◌, ◌<◌, ◌≤◌, List, [], ◌∷◌, length, take, drop, replicate, Option, Some, None, refl, sym, ap, ◌∙◌, arith, ℤ, pos}
use Rattle.std.specs.Prelude.{slice_get, slice_index_or, slice_set}
use Rattle.std.proofs.lemmas.Option.{get_or_from_slice_get, none-some}
use Rattle.numeric.specs.declared.ty.Ty.{Ty}
use Rattle.numeric.specs.declared.ty.Ty.TheVariants.{U8, U16, U32, I8, I16, I32}
use Rattle.numeric.specs.Wrap.{wrap}
use Rattle.tree.specs.declared.value.Value.{Value}
use Rattle.tree.specs.Meaning.{typed}
use Rattle.interpreter.specs.Buffers.Marks.{apart, held_by, held_places, in_word, narrow_mark, row_held, wide_mark, word_in}
use Rattle.interpreter.specs.Evaluation.Lanes.{number_at}
use Rattle.interpreter.specs.declared.buffers.marks.Mark.{Mark}
use Rattle.interpreter.specs.declared.buffers.marks.Mark.TheVariants.{Unset}
use Rattle.interpreter.specs.declared.evaluation.lanes.Number.{Number}

-- ---- marks

pub narrow_held : (t : Ty) (w : ℕ) (z : ℤ) → held_by (narrow_mark t) w z ≡ in_word t w
narrow_held U8 w z = refl
narrow_held U16 w z = refl
narrow_held U32 w z = refl
narrow_held I8 w z = refl
narrow_held I16 w z = refl
narrow_held I32 w z = refl

pub wide_held : (t : Ty) (w : ℕ) (z : ℤ) → held_by (wide_mark t) w z ≡ apart t z
wide_held U8 w z = refl
wide_held U16 w z = refl
wide_held U32 w z = refl
wide_held I8 w z = refl
wide_held I16 w z = refl
wide_held I32 w z = refl

-- ---- one place

pub held_length : (ms : List Mark) (ws : List ℕ) (zs : List Number) → length (held_places ms ws zs) ≡ length ms
held_length [] ws zs = refl
held_length (m ∷ ms) ws zs = ap (λ (n : ℕ). suc n) (held_length ms (drop 1 ws) (drop 1 zs))

number_behind : (zs : List Number) (k : ℕ) → number_at (drop 1 zs) k ≡ number_at zs (suc k)
number_behind [] k = refl
number_behind (z ∷ zs) k = refl

word_behind : (ws : List ℕ) (k : ℕ) → word_in (drop 1 ws) k ≡ word_in ws (suc k)
word_behind [] k = refl
word_behind (w ∷ ws) k = refl

pub held_get : (ms : List Mark) (ws : List ℕ) (zs : List Number) (i : ℕ) → slice_index_or (held_places ms ws zs) i None ≡ held_by (slice_index_or ms i Unset) (word_in ws i) (number_at zs i)
held_get [] ws zs i = refl
held_get (m ∷ ms) ws zs zero = refl
held_get (m ∷ ms) ws zs (suc i) =
    held_get ms (drop 1 ws) (drop 1 zs) i ∙ (λ j. held_by (slice_index_or ms i Unset) (word_behind ws i j) (number_behind zs i j))

-- a place set to the value whose low bits a word has
pub held_word : (ms : List Mark) (ws : List ℕ) (zs : List Number) (i : ℕ) (t : Ty) (w : ℕ) → i < length ws →
    held_places (slice_set ms i (narrow_mark t)) (slice_set ws i w) zs ≡ slice_set (held_places ms ws zs) i (in_word t w)
held_word [] ws zs i t w lt = refl
held_word (n ∷ ms) [] zs i t w lt = absurd (omega (arith, lt))
held_word (n ∷ ms) (y ∷ ws) zs zero t w lt = ap (λ (o : Option Value). o ∷ held_places ms ws (drop 1 zs)) (narrow_held t w (number_at zs 0))
held_word (n ∷ ms) (y ∷ ws) zs (suc i) t w lt =
    ap (λ (l : List (Option Value)). held_by n y (number_at zs 0) ∷ l) (held_word ms ws (drop 1 zs) i t w (omega (arith, lt)))

-- a place set to a value whose number stands apart
pub held_apart : (ms : List Mark) (ws : List ℕ) (zs : List Number) (i : ℕ) (t : Ty) (z : Number) → i < length zs →
    held_places (slice_set ms i (wide_mark t)) ws (slice_set zs i z) ≡ slice_set (held_places ms ws zs) i (apart t z.value)
held_apart [] ws zs i t z lt = refl
held_apart (n ∷ ms) ws [] i t z lt = absurd (omega (arith, lt))
held_apart (n ∷ ms) ws (y ∷ zs) zero t z lt = ap (λ (o : Option Value). o ∷ held_places ms (drop 1 ws) zs) (wide_held t (word_in ws 0) z.value)
held_apart (n ∷ ms) ws (y ∷ zs) (suc i) t z lt =
    ap (λ (l : List (Option Value)). held_by n (word_in ws 0) y.value ∷ l) (held_apart ms (drop 1 ws) zs i t z (omega (arith, lt)))

-- the same numbers stand apart for each place
pub held_same : (ms : List Mark) (ws : List ℕ) (zs ys : List Number) → ((k : ℕ) → number_at zs k ≡ number_at ys k) → held_places ms ws zs ≡ held_places ms ws ys
held_same [] ws zs ys h = refl
held_same (m ∷ ms) ws zs ys h =
    let rest = held_same ms (drop 1 ws) (drop 1 zs) (drop 1 ys) (λ k. number_behind zs k ∙ h (suc k) ∙ sym (number_behind ys k)) in
    λ i. held_by m (word_in ws 0) (h 0 i) ∷ rest i

-- ---- places side by side

drop_one : {A : Type 0} (xs : List A) (s : ℕ) → drop (suc s) xs ≡ drop s (drop 1 xs)
drop_one [] zero = refl
drop_one [] (suc s) = refl
drop_one (x ∷ xs) s = refl

held_drop : (ms : List Mark) (ws : List ℕ) (zs : List Number) (s : ℕ) → held_places (drop s ms) (drop s ws) (drop s zs) ≡ drop s (held_places ms ws zs)
held_drop ms ws zs zero = refl
held_drop [] ws zs (suc s) = refl
held_drop (m ∷ ms) ws zs (suc s) =
    (λ i. held_places (drop s ms) (drop_one ws s i) (drop_one zs s i)) ∙ held_drop ms (drop 1 ws) (drop 1 zs) s

abbrev none : List ℕ
none = []

take_none : (c : ℕ) → take c none ≡ none
take_none zero = refl
take_none (suc c) = refl

held_take : (ms : List Mark) (ws : List ℕ) (zs : List Number) (c : ℕ) → held_places (take c ms) (take c ws) zs ≡ take c (held_places ms ws zs)
held_take ms ws zs zero = refl
held_take [] ws zs (suc c) = refl
held_take (m ∷ ms) [] zs (suc c) =
    ap (λ (l : List (Option Value)). held_by m 0 (number_at zs 0) ∷ l)
    (ap (λ (ws : List ℕ). held_places (take c ms) ws (drop 1 zs)) (sym (take_none c)) ∙ held_take ms [] (drop 1 zs) c)
held_take (m ∷ ms) (w ∷ ws) zs (suc c) = ap (λ (l : List (Option Value)). held_by m w (number_at zs 0) ∷ l) (held_take ms ws (drop 1 zs) c)

pub window_held : (ms : List Mark) (ws : List ℕ) (zs : List Number) (s c : ℕ) →
    held_places (take c (drop s ms)) (take c (drop s ws)) (drop s zs) ≡ take c (drop s (held_places ms ws zs))
window_held ms ws zs s c = held_take (drop s ms) (drop s ws) (drop s zs) c ∙ ap (take c) (held_drop ms ws zs s)

-- ---- places of which none is set

pub held_unset : (n : ℕ) (ws : List ℕ) (zs : List Number) → held_places (replicate n Unset) ws zs ≡ replicate n None
held_unset zero ws zs = refl
held_unset (suc n) ws zs = ap (λ (l : List (Option Value)). None ∷ l) (held_unset n (drop 1 ws) (drop 1 zs))

-- ---- what the code finds by them

-- there is nothing behind the last place
pub held_outside : (ms : List Mark) (ws : List ℕ) (zs : List Number) (i : ℕ) → length ms ≤ i → slice_index_or (held_places ms ws zs) i None ≡ None
held_outside [] ws zs i le = refl
held_outside (m ∷ ms) ws zs zero le = absurd (omega (arith, le))
held_outside (m ∷ ms) ws zs (suc i) le = held_outside ms (drop 1 ws) (drop 1 zs) i (omega (arith, le))

-- a place that is set
pub get_held : (l : List (Option Value)) (i : ℕ) (v : Value) → slice_index_or l i None ≡ Some v → slice_get l i ≡ Some (Some v)
get_held [] i v h = absurd (none-some v h)
get_held (x ∷ l) zero v h = ap (λ (o : Option Value). Some o) h
get_held (x ∷ l) (suc i) v h = get_held l i v h

-- a place whose mark says this type
pub marked_held : (ms : List Mark) (ws : List ℕ) (zs : List Number) (i : ℕ) (t : Ty) → slice_index_or ms i Unset ≡ narrow_mark t →
    slice_index_or (held_places ms ws zs) i None ≡ in_word t (word_in ws i)
marked_held ms ws zs i t there =
    held_get ms ws zs i
    ∙ ap (λ (n : Mark). held_by n (word_in ws i) (number_at zs i)) there
    ∙ narrow_held t (word_in ws i) (number_at zs i)

-- and the same at a place of a list
pub marked_along : (ms : List Mark) (ws : List ℕ) (zs : List Number) (i : ℕ) (t : Ty) (z : ℤ) → slice_get ms i ≡ Some (narrow_mark t) → z ≡ wrap t (pos (word_in ws i)) →
    slice_get (held_places ms ws zs) i ≡ Some (Some (typed t z))
marked_along ms ws zs i t z there number =
    get_held (held_places ms ws zs) i (typed t z)
    (marked_held ms ws zs i t (get_or_from_slice_get ms i (narrow_mark t) Unset there) ∙ ap (λ (y : ℤ). Some (typed t y)) (sym number))

-- ---- places set one after another

pub row_same : (f g : ℕ → Value) (place : ℕ) (h : List (Option Value)) (n : ℕ) → ((k : ℕ) → k < n → f k ≡ g k) → row_held f place h n ≡ row_held g place h n
row_same f g place h zero e = refl
row_same f g place h (suc n) e = λ i. slice_set (row_same f g place h n (λ k lt. e k (omega (arith, lt))) i) (place + n) (Some (e n (omega arith) i))
