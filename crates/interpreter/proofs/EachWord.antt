-- Loops over a register that put in one word after another, and what words are numbers of.
use Rattle.std.proofs.Common.{◌≡◌, ℕ, ◌+◌, ◌<◌, ◌≤◌, List, length, refl, sym, ap, subst, ◌∙◌, arith, ℤ, pos, slice_set, below_more}
use Rattle.std.specs.Prelude.{◌≤ℤ◌, Bool, true, false, if◌then◌else◌}
use Rattle.std.specs.Int.{int_max, int_min}
use Rattle.std.proofs.lemmas.Int.{ints, clamps}
use Rattle.std.proofs.lemmas.List.{get_or-set_other, get_or-set_same}
use Rattle.numeric.specs.declared.ty.Ty.{Ty}
use Rattle.numeric.specs.declared.ty.Ty.TheVariants.{U8, U16, U32, I8, I16, I32}
use Rattle.numeric.specs.Wrap.{greatest, least, wrap, IsOf}
use Rattle.numeric.proofs.Wraps.{wraps_to, wrap_of_value}
use Rattle.tree.specs.Meaning.{typed}
use Rattle.interpreter.specs.Evaluation.Words.{bits_at}

-- the first so many words are as they have to be, the later ones as before
pub record WordsBelow (P : ℕ → ℕ → Type 0) (n : ℕ) (old new : List ℕ) : Type 0 where
  pub done : (k : ℕ) → k < n → P k (bits_at new k)
  pub later : (k : ℕ) → n ≤ k → bits_at new k ≡ bits_at old k

pub words_begin : (P : ℕ → ℕ → Type 0) (old : List ℕ) → WordsBelow P 0 old old
words_begin P old = record { done = λ k h. absurd (omega arith); later = λ k h. refl }

pub words_next : (P : ℕ → ℕ → Type 0) (n : ℕ) (old new : List ℕ) (w : ℕ) → n < length new → WordsBelow P n old new → P n w → WordsBelow P (n + 1) old (slice_set new n w)
words_next P n old new w lt h is = record {
  done = below_more (λ k. P k (bits_at (slice_set new n w) k)) n
      (λ k less. subst (P k) (sym (get_or-set_other new n k w 0 (omega arith))) (h.done k less))
      (subst (P n) (sym (get_or-set_same new n w 0 lt)) is);
  later = λ k more. get_or-set_other new n k w 0 (omega arith) ∙ h.later k (omega arith);
}

-- what a number wraps to wraps to itself
pub wrap_twice : (t : Ty) (z : ℤ) → wrap t (wrap t z) ≡ wrap t z
wrap_twice t z = wrap_of_value t (wrap t z) (wraps_to t z).within

-- a number of a type between two others of it
pub clamped_is_of : (t : Ty) (a b c : ℤ) → IsOf t a → IsOf t b → IsOf t c → IsOf t (int_max (int_min a c) b)
clamped_is_of t a b c h k l = record {
  from = (let f = h.from in let g = k.from in let e = l.from in omega (arith, ints, clamps, f, g, e));
  to = (let f = h.to in let g = k.to in let e = l.to in omega (arith, ints, clamps, f, g, e));
}

-- the value that a chosen word is, by those of the words that it is chosen of
pub chosen_value : (b : Bool) (t s u : Ty) (x y w : ℕ) (p q : ℤ) → t ≡ s → u ≡ t → w ≡ (if b then x else y) → wrap s (pos x) ≡ p → wrap t (pos y) ≡ q →
    typed t (wrap t (pos w)) ≡ (if b then typed s p else typed u q)
chosen_value true t s u x y w p q is other chosen first second =
    ap (λ (v : ℕ). typed t (wrap t (pos v))) chosen ∙ ap (λ (r : Ty). typed r (wrap r (pos x))) is ∙ ap (typed s) first
chosen_value false t s u x y w p q is other chosen first second =
    ap (λ (v : ℕ). typed t (wrap t (pos v))) chosen ∙ (λ i. typed (sym other i) (second i))

not_below : (t : Ty) (n : ℕ) → least t ≤ℤ pos n
not_below U8 n = omega (arith, ints)
not_below U16 n = omega (arith, ints)
not_below U32 n = omega (arith, ints)
not_below I8 n = omega (arith, ints)
not_below I16 n = omega (arith, ints)
not_below I32 n = omega (arith, ints)

-- a number without a sign that is not above one of the type is the number of its own bits
pub small_of : (t : Ty) (n m : ℕ) → n ≤ m → pos m ≤ℤ greatest t → wrap t (pos n) ≡ pos n
small_of t n m le to = wrap_of_value t (pos n) (record { from = not_below t n; to = omega (arith, ints, le, to) })
