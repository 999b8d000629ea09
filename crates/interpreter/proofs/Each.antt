-- Loops over a register that put in one number after another.
use Rattle.std.proofs.Common.{◌≡◌, ◌≢◌, ℕ, ◌+◌, ◌<◌, ◌≤◌, List, length, refl, sym, ap, subst, ◌∙◌, arith, ℤ, pos, slice_set, below_more}
use Rattle.std.proofs.lemmas.List.{get_or-set_other, get_or-set_same}
use Rattle.interpreter.specs.declared.evaluation.lanes.Number.{Number}
use Rattle.interpreter.specs.Evaluation.Lanes.{number_at}

-- the first so many numbers are these, the later ones as before
pub record EachBelow (g : ℕ → ℤ) (n : ℕ) (old new : List Number) : Type 0 where
  pub done : (k : ℕ) → k < n → number_at new k ≡ g k
  pub later : (k : ℕ) → n ≤ k → number_at new k ≡ number_at old k

pub each_begin : (g : ℕ → ℤ) (old : List Number) → EachBelow g 0 old old
each_begin g old = record { done = λ k h. absurd (omega arith); later = λ k h. refl }

pub set_same : (l : List Number) (n : ℕ) (w : Number) → n < length l → number_at (slice_set l n w) n ≡ w.value
set_same l n w lt = ap (λ (x : Number). x.value) (get_or-set_same l n w (record { value = pos 0 }) lt)

pub set_other : (l : List Number) (n k : ℕ) (w : Number) → k ≢ n → number_at (slice_set l n w) k ≡ number_at l k
set_other l n k w ne = ap (λ (x : Number). x.value) (get_or-set_other l n k w (record { value = pos 0 }) ne)

pub each_next : (g : ℕ → ℤ) (n : ℕ) (old new : List Number) (w : Number) → n < length new → EachBelow g n old new → w.value ≡ g n → EachBelow g (n + 1) old (slice_set new n w)
each_next g n old new w lt h is = record {
  done = below_more (λ k. number_at (slice_set new n w) k ≡ g k) n (λ k less. set_other new n k w (omega arith) ∙ h.done k less) (set_same new n w lt ∙ is);
  later = λ k more. set_other new n k w (omega arith) ∙ h.later k (omega arith);
}

-- the first so many numbers of a register are as they have to be, the later ones as before
pub record HoldsBelow (P : ℕ → ℤ → Type 0) (n : ℕ) (old new : List Number) : Type 0 where
  pub done : (k : ℕ) → k < n → P k (number_at new k)
  pub later : (k : ℕ) → n ≤ k → number_at new k ≡ number_at old k

pub holds_begin : (P : ℕ → ℤ → Type 0) (old : List Number) → HoldsBelow P 0 old old
holds_begin P old = record { done = λ k h. absurd (omega arith); later = λ k h. refl }

pub holds_next : (P : ℕ → ℤ → Type 0) (n : ℕ) (old new : List Number) (w : Number) → n < length new → HoldsBelow P n old new → P n w.value → HoldsBelow P (n + 1) old (slice_set new n w)
holds_next P n old new w lt h is = record {
  done = below_more (λ k. P k (number_at (slice_set new n w) k)) n
      (λ k less. subst (P k) (sym (set_other new n k w (omega arith))) (h.done k less))
      (subst (P n) (sym (set_same new n w lt)) is);
  later = λ k more. set_other new n k w (omega arith) ∙ h.later k (omega arith);
}
