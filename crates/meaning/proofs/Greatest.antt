-- The greatest of some samples.
use Rattle.std.proofs.Common.{◌≡◌, ◌⊎◌, ℕ, ◌+◌, ◌<◌, ◌≤◌, List, length, subst, sym, ◌∙◌, inl, inr, arith}
use Rattle.std.specs.Prelude.{◌↔◌, slice_index_or}
use Rattle.std.proofs.lemmas.Bool.{cases_lt}
use Rattle.std.proofs.lemmas.List.{get_or_default}

-- of the first so many samples each is at most a number exactly where this one is
abbrev pub IsGreatest : List ℕ → ℕ → ℕ → Type 0
IsGreatest xs n most = (m : ℕ) → (most ≤ m) ↔ ((k d : ℕ) → k < n → slice_index_or xs k d ≤ m)

-- of one more it is the greater of it and the next one
pub greatest_next : (xs : List ℕ) (n most x top : ℕ) → n < length xs → x ≡ slice_index_or xs n 0 → most ≤ top → x ≤ top → (most ≡ top) ⊎ (x ≡ top)
    → IsGreatest xs n most → IsGreatest xs (n + 1) top
greatest_next xs n most x top within is more over one known m = (λ le k d less. each le k d less, λ all. least all)
  where
    here : (k d : ℕ) → k ≡ n → slice_index_or xs k d ≡ x
    here k d e = subst (λ (j : ℕ). slice_index_or xs j d ≡ x) (sym e) (get_or_default xs n d 0 within ∙ sym is)

    each : top ≤ m → (k d : ℕ) → k < n + 1 → slice_index_or xs k d ≤ m
    each le k d less = elim (cases_lt k n) [
      | inl before ↦ (known m).0 (omega (arith, le, more)) k d before
      | inr from ↦ let e : k ≡ n = omega (arith, less, from) in let found = here k d e in omega (arith, found, le, over)
    ]

    least : ((k d : ℕ) → k < n + 1 → slice_index_or xs k d ≤ m) → top ≤ m
    least all = elim one [
      | inl e ↦ let le = (known m).1 (λ k d less. all k d (omega (arith, less))) in omega (arith, le, e)
      | inr e ↦ let le = all n 0 (omega arith) in omega (arith, le, e, is)
    ]
