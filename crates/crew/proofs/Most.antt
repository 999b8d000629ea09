-- The longest of some lists.
use Rattle.std.proofs.Common.{◌≡◌, ℕ, ◌+◌, ◌≤◌, ◌<◌, List, length, inl, inr, sym, subst, arith}
use Rattle.std.proofs.lemmas.Bool.{cases_lt}

-- none of the lists before this one is longer
abbrev pub IsMostBefore : (ℕ → List ℕ) → ℕ → ℕ → Type 0
IsMostBefore lists count most = (j : ℕ) → j < count → length (lists j) ≤ most

pub one_list_more : (lists : ℕ → List ℕ) (i most new : ℕ) (list : List ℕ) → IsMostBefore lists i most → lists i ≡ list → most ≤ new → length list ≤ new → IsMostBefore lists (i + 1) new
one_list_more lists i most new list before is le here j lt = elim (cases_lt j i) [
  | inl earlier ↦ let h : length (lists j) ≤ most = before j earlier in omega (arith, h, le)
  | inr later ↦
      let this : length (lists i) ≤ new = subst (λ (xs : List ℕ). length xs ≤ new) (sym is) here in
      let same : i ≡ j = omega (arith, lt, later) in
      subst (λ (k : ℕ). length (lists k) ≤ new) same this
]

pub all_lists : (lists : ℕ → List ℕ) (i count end most : ℕ) → count ≡ end → end ≤ i → IsMostBefore lists i most → IsMostBefore lists count most
all_lists lists i count end most is past before j lt = before j (omega (arith, lt, is, past))

-- the longest so far is no longer than what none of all lists is longer than
abbrev pub IsLeastBefore : (ℕ → List ℕ) → ℕ → ℕ → Type 0
IsLeastBefore lists count most = (n : ℕ) → IsMostBefore lists count n → most ≤ n
