-- Places side by side that are given other elements together, and what they hold then.
use Rattle.std.proofs.Common.{◌≡◌, ℕ, zero, suc, ◌+◌, ◌-◌, ◌<◌, ◌≤◌, List, [], ◌∷◌, ◌++◌, length, length-set, take, drop, Option, refl, sym, ap, ◌∙◌, append_assoc, arith, pos, slice_set}
use Rattle.std.proofs.Math.Seq.{drop-cons, take-suc}
use Rattle.std.proofs.lemmas.List.{length-drop, length-take-le, set-append_right, take-append-drop, take_all}
use Rattle.numeric.specs.declared.ty.Ty.{Ty}
use Rattle.numeric.specs.declared.ty.Ty.TheVariants.{U8}
use Rattle.numeric.specs.Wrap.{wrap}
use Rattle.tree.specs.declared.value.Value.{Value}
use Rattle.tree.specs.Meaning.{typed}
use Rattle.interpreter.specs.Buffers.Marks.{held_places, in_word, narrow_mark, row_held, word_in, word_values}
use Rattle.interpreter.specs.Buffers.PlaceBits.{low_byte}
use Rattle.interpreter.specs.Buffers.SetRows.{set_row}
use Rattle.interpreter.specs.declared.buffers.marks.Mark.{Mark}
use Rattle.interpreter.specs.declared.buffers.marks.Mark.TheVariants as mark
use Rattle.interpreter.specs.declared.evaluation.lanes.Number.{Number}
use Rattle.interpreter.proofs.HeldPlaces.{held_word, row_same}
use Rattle.interpreter.proofs.Words.{wrap_of_byte}

row_length : {A : Type 0} (f : ℕ → A) (place : ℕ) (xs : List A) (n : ℕ) → length (set_row f place xs n) ≡ length xs
row_length f place xs zero = refl
row_length f place xs (suc n) = length-set (set_row f place xs n) (place + n) (f n) ∙ row_length f place xs n

pub row_set_same : {A : Type 0} (f g : ℕ → A) (place : ℕ) (xs : List A) (n : ℕ) → ((k : ℕ) → k < n → f k ≡ g k) → set_row f place xs n ≡ set_row g place xs n
row_set_same f g place xs zero e = refl
row_set_same f g place xs (suc n) e = λ i. slice_set (row_set_same f g place xs n (λ k lt. e k (omega (arith, lt))) i) (place + n) (e n (omega arith) i)

-- places of one mark, and the low bits of their numbers: they hold the values that these are
pub row_marked_by : (t : Ty) (f : ℕ → ℕ) (place : ℕ) (ms : List Mark) (ws : List ℕ) (zs : List Number) (n : ℕ) → place + n ≤ length ws →
    held_places (set_row (λ k. narrow_mark t) place ms n) (set_row f place ws n) zs ≡ row_held (λ k. typed t (wrap t (pos (f k)))) place (held_places ms ws zs) n
row_marked_by t f place ms ws zs zero le = refl
row_marked_by t f place ms ws zs (suc n) le =
    let long = row_length f place ws n in
    held_word (set_row (λ k. narrow_mark t) place ms n) (set_row f place ws n) zs (place + n) t (f n) (omega (arith, le, long))
    ∙ ap (λ (l : List (Option Value)). slice_set l (place + n) (in_word t (f n))) (row_marked_by t f place ms ws zs n (omega (arith, le)))

-- places of one mark, and their words: they hold the values that the words are
pub row_marked : (t : Ty) (from : List ℕ) (place : ℕ) (ms : List Mark) (ws : List ℕ) (zs : List Number) (n : ℕ) → place + n ≤ length ws →
    held_places (set_row (λ k. narrow_mark t) place ms n) (set_row (word_in from) place ws n) zs ≡ row_held (word_values t from) place (held_places ms ws zs) n
row_marked t from = row_marked_by t (word_in from)

-- places of values of `u8`, and the lowest 8 bits of words: they hold the values that the words are
pub row_of_bytes : (from : List ℕ) (place : ℕ) (ms : List Mark) (bs : List ℕ) (zs : List Number) (n : ℕ) → place + n ≤ length bs →
    held_places (set_row (λ k. mark.U8) place ms n) (set_row (λ k. low_byte (word_in from k)) place bs n) zs ≡ row_held (word_values U8 from) place (held_places ms bs zs) n
row_of_bytes from place ms bs zs n le =
    row_marked_by U8 (λ k. low_byte (word_in from k)) place ms bs zs n le
    ∙ row_same (λ k. typed U8 (wrap U8 (pos (low_byte (word_in from k))))) (word_values U8 from) place (held_places ms bs zs) n
    (λ k lt. ap (typed U8) (wrap_of_byte (word_in from k)))

-- the first so many words of a list in place of as many others
abbrev spliced : ℕ → List ℕ → List ℕ → ℕ → List ℕ
spliced place from xs k = take place xs ++ (take k from ++ drop k (drop place xs))

one_spliced : (place k : ℕ) (from xs : List ℕ) → k < length from → place + length from ≤ length xs → slice_set (spliced place from xs k) (place + k) (word_in from k) ≡ spliced place from xs (suc k)
one_spliced place k from xs lt le =
    let a = take place xs in
    let b = take k from in
    let y = word_in from k in
    let later = drop place xs in
    let r = drop (suc k) later in
    let a_long : length a ≡ place = length-take-le place xs (omega (arith, le)) in
    let b_long : length b ≡ k = length-take-le k from (omega (arith, lt)) in
    let there : k < length later = omega (arith, lt, le, length-drop place xs) in
    let behind : place + k - place ≡ k = omega arith in
    let none : k - k ≡ 0 = omega arith in
    set-append_right a (b ++ drop k later) place (place + k) y a_long (omega arith)
    ∙ ap (λ (i : ℕ). a ++ slice_set (b ++ drop k later) i y) behind
    ∙ ap (λ (l : List ℕ). a ++ slice_set (b ++ l) k y) (drop-cons later k 0 there)
    ∙ ap (λ (l : List ℕ). a ++ l) (set-append_right b (word_in later k ∷ r) k k y b_long (omega arith) ∙ ap (λ (i : ℕ). b ++ slice_set (word_in later k ∷ r) i y) none)
    ∙ ap (λ (l : List ℕ). a ++ l) (sym (append_assoc b (y ∷ []) r) ∙ ap (λ (l : List ℕ). l ++ r) (sym (take-suc from k 0 lt)))

row_spliced : (place : ℕ) (from xs : List ℕ) → place + length from ≤ length xs → (k : ℕ) → k ≤ length from → spliced place from xs k ≡ set_row (word_in from) place xs k
row_spliced place from xs le zero less = take-append-drop place xs
row_spliced place from xs le (suc k) less =
    sym (one_spliced place k from xs (omega (arith, less)) le) ∙ ap (λ (l : List ℕ). slice_set l (place + k) (word_in from k)) (row_spliced place from xs le k (omega (arith, less)))

-- a list of words copied in, from one on
pub row_copied : (place : ℕ) (from xs : List ℕ) → place + length from ≤ length xs → take place xs ++ (from ++ drop (length from) (drop place xs)) ≡ set_row (word_in from) place xs (length from)
row_copied place from xs le =
    let whole : take (length from) from ≡ from = take_all (length from) from (omega arith) in
    ap (λ (l : List ℕ). take place xs ++ (l ++ drop (length from) (drop place xs))) (sym whole) ∙ row_spliced place from xs le (length from) (omega arith)
