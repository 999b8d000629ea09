-- Values found by numbers in a list that rises.
use Rattle.std.proofs.Common.{◌≡◌, ℕ, zero, suc, ◌+◌, ◌-◌, ◌≤◌, ◌<◌, Bool, true, false, List, [], ◌∷◌, length, take, drop, get_or, Some, None, refl, sym, ap, subst, ◌∙◌, arith, inl, inr, ℤ, slice_get}
use Rattle.std.specs.Prelude.{◌==◌, if◌then◌else◌, Result, Ok, Err}
use Rattle.std.specs.Ordering.{nat_cmp}
use Rattle.std.specs.Result.{MatchResult}
use Rattle.std.proofs.lemmas.Bool.{cases_lt}
use Rattle.std.proofs.lemmas.Option.{get_or_from_slice_get, slice_get_within}
use Rattle.meaning.proofs.Calls.{get_take}
use Rattle.std.specs.List.Sorted.{IsBinarySearchResult, IsStrictlyIncreasing}
use Rattle.std.proofs.lemmas.List.Sorted.{searched}
use Rattle.std.proofs.lemmas.Bool.{eqb-false, eqb-true}
use Rattle.piece.specs.Found.{first_found}

-- each number is that much more than an earlier one, or even more
pub rises : (xs : List ℕ) → IsStrictlyIncreasing xs → (i d : ℕ) → i + d < length xs → get_or xs i 0 + d ≤ get_or xs (i + d) 0
rises xs up i zero lt = (let same : i + 0 ≡ i = omega arith in let e = ap (λ (j : ℕ). get_or xs j 0) same in omega (arith, e))
rises xs up i (suc d) lt = (
    let next : i + suc d ≡ (i + d) + 1 = omega arith in
    let last : (i + d) + 1 < length xs = omega (arith, lt, next) in
    let before : get_or xs i 0 + d ≤ get_or xs (i + d) 0 = rises xs up i d (omega (arith, last)) in
    let step : get_or xs (i + d) 0 < get_or xs ((i + d) + 1) 0 = up (i + d) last in
    let e = ap (λ (j : ℕ). get_or xs j 0) next in
    omega (arith, before, step, e))

-- a number is no more than a later one
pub no_less : (xs : List ℕ) → IsStrictlyIncreasing xs → (i j : ℕ) → i ≤ j → j < length xs → get_or xs i 0 ≤ get_or xs j 0
no_less xs up i j le lt =
    let same : i + (j - i) ≡ j = omega (arith, le) in
    let h = rises xs up i (j - i) (omega (arith, same, lt)) in
    let e = ap (λ (k : ℕ). get_or xs k 0) same in
    omega (arith, h, e)

rest_rises : (x : ℕ) (xs : List ℕ) → IsStrictlyIncreasing (x ∷ xs) → IsStrictlyIncreasing xs
rest_rises x xs up k lt =
    let same : suc k + 1 ≡ suc (k + 1) = omega arith in
    subst (λ (j : ℕ). get_or (x ∷ xs) (suc k) 0 < get_or (x ∷ xs) j 0) same (up (suc k) (omega (arith, lt)))

first_is_less : (m : ℕ) (ms : List ℕ) → IsStrictlyIncreasing (m ∷ ms) → (i : ℕ) → i < length ms → m < get_or ms i 0
first_is_less m ms up i lt =
    let at : 0 + suc i ≡ suc i = omega arith in
    let h : m + suc i ≤ get_or (m ∷ ms) (0 + suc i) 0 = rises (m ∷ ms) up 0 (suc i) (omega (arith, lt)) in
    let e : get_or (m ∷ ms) (0 + suc i) 0 ≡ get_or ms i 0 = ap (λ (j : ℕ). get_or (m ∷ ms) j 0) at in
    omega (arith, h, e)

-- in a rising list a number is found at its place
pub found_there : (n : ℕ) (ms : List ℕ) (vs : List ℤ) → IsStrictlyIncreasing ms → (i : ℕ) → i < length ms → get_or ms i 0 ≡ n → first_found n ms vs ≡ slice_get vs i
found_there n [] vs up i lt is = absurd (omega (arith, lt))
found_there n (m ∷ ms) [] up i lt is = refl
found_there n (m ∷ ms) (v ∷ vs) up zero lt is = of (m == n) refl
  where
    of : (b : Bool) → (m == n) ≡ b → (if b then Some v else first_found n ms vs) ≡ Some v
    of true e = refl
    of false e = absurd (eqb-false m n e is)
found_there n (m ∷ ms) (v ∷ vs) up (suc i) lt is = of (m == n) refl (found_there n ms vs (rest_rises m ms up) i (omega (arith, lt)) is)
  where
    of : (b : Bool) → (m == n) ≡ b → first_found n ms vs ≡ slice_get vs i → (if b then Some v else first_found n ms vs) ≡ slice_get vs i
    of true e rest = absurd (let h = first_is_less m ms up i (omega (arith, lt)) in let same = eqb-true m n e in omega (arith, h, same, is))
    of false e rest = rest

-- and one without a place is not
pub not_found : (n : ℕ) (ms : List ℕ) (vs : List ℤ) → ((k : ℕ) → k < length ms → get_or ms k 0 ≡ n → ⊥) → first_found n ms vs ≡ None
not_found n [] vs none = refl
not_found n (m ∷ ms) [] none = refl
not_found n (m ∷ ms) (v ∷ vs) none = of (m == n) refl (not_found n ms vs (λ k lt. none (suc k) (omega (arith, lt))))
  where
    of : (b : Bool) → (m == n) ≡ b → first_found n ms vs ≡ None → (if b then Some v else first_found n ms vs) ≡ None
    of true e rest = absurd (none 0 (omega arith) (eqb-true m n e))
    of false e rest = rest

-- what a search tells of the value
module _ (n : ℕ) (ms : List ℕ) (vs : List ℤ) (up : IsStrictlyIncreasing ms) (r : Result ℕ ℕ) (search : IsBinarySearchResult (λ y. nat_cmp y n) ms r) where
  abbrev Told : Result ℕ ℕ → Type 0
  Told s = MatchResult s (λ i. (i < length ms) × (get_or ms i 0 ≡ n)) (λ i. (i ≤ length ms) × ((k : ℕ) → k < i → get_or ms k 0 < n) × ((k : ℕ) → i ≤ k → k < length ms → n < get_or ms k 0))

  told : Told r
  told = searched ms n r search (no_less ms up)

  pub searched_there : (i : ℕ) → r ≡ Ok i → first_found n ms vs ≡ slice_get vs i
  searched_there i is = let at : Told (Ok i) = subst Told is told in found_there n ms vs up i at.0 at.1

  pub told_at_ok : (i : ℕ) → r ≡ Ok i → get_or ms i 0 ≡ n
  told_at_ok i is = let at : Told (Ok i) = subst Told is told in at.1

  pub searched_nowhere : (i : ℕ) → r ≡ Err i → first_found n ms vs ≡ None
  searched_nowhere i is =
      let at : Told (Err i) = subst Told is told in
      not_found n ms vs (λ k lt e. elim (cases_lt k i) [ inl l ↦ (let h = at.1 k l in omega (arith, h, e)) | inr ge ↦ (let h = at.2 k ge lt in omega (arith, h, e)) ])

-- ---- numbers side by side

get_drop : {A : Type 0} (xs : List A) (s k : ℕ) → slice_get (drop s xs) k ≡ slice_get xs (s + k)
get_drop xs zero k = let e : k ≡ 0 + k = omega arith in ap (slice_get xs) e
get_drop [] (suc s) k = refl
get_drop (x ∷ xs) (suc s) k = let e : suc (s + k) ≡ suc s + k = omega arith in get_drop xs s k ∙ ap (slice_get (x ∷ xs)) e

-- the number so many places behind another is that much more, so each between them is as much more as it stands behind
pub side_by_side : (xs : List ℕ) → IsStrictlyIncreasing xs → (i m n : ℕ) → get_or xs i 0 ≡ n → slice_get xs (i + m) ≡ Some (n + m) → (k : ℕ) → k ≤ m → (i + k < length xs) × (get_or xs (i + k) 0 ≡ n + k)
side_by_side xs up i m n first last k le =
    let long : i + m < length xs = slice_get_within xs (i + m) (n + m) last in
    let end : get_or xs (i + m) 0 ≡ n + m = get_or_from_slice_get xs (i + m) (n + m) 0 last in
    let at : (i + k) + (m - k) ≡ i + m = omega (arith, le) in
    let below = rises xs up i k (omega (arith, long, le)) in
    let above = rises xs up (i + k) (m - k) (omega (arith, at, long)) in
    let same = ap (λ (j : ℕ). get_or xs j 0) at in
    (omega (arith, long, le), omega (arith, first, below, above, same, end, le))

-- where the places from one on have values, these are found by the numbers that stand there
pub found_in_row : (xs : List ℕ) (vs : List ℤ) → IsStrictlyIncreasing xs → (i m n : ℕ) → get_or xs i 0 ≡ n → slice_get xs (i + m) ≡ Some (n + m) → (row : List ℤ) → row ≡ take (m + 1) (drop i vs) →
    (k : ℕ) → k ≤ m → first_found (n + k) xs vs ≡ slice_get row k
found_in_row xs vs up i m n first last row is k le =
    let there = side_by_side xs up i m n first last k le in
    found_there (n + k) xs vs up (i + k) there.0 there.1
    ∙ sym (ap (λ (zs : List ℤ). slice_get zs k) is ∙ get_take (drop i vs) (m + 1) k (omega (arith, le)) ∙ get_drop vs i k)

-- the same after a search
pub searched_row : (n : ℕ) (ms : List ℕ) (vs : List ℤ) → IsStrictlyIncreasing ms → (r : Result ℕ ℕ) → IsBinarySearchResult (λ y. nat_cmp y n) ms r → (i : ℕ) → r ≡ Ok i → (m last : ℕ) → last ≡ n + m →
    slice_get ms (i + m) ≡ Some last → (row : List ℤ) → row ≡ take (m + 1) (drop i vs) → (k : ℕ) → n + k ≤ last → first_found (n + k) ms vs ≡ slice_get row k
searched_row n ms vs up r by i at m last is end row same k le =
    let there = told_at_ok n ms vs up r by i at in
    found_in_row ms vs up i m n there (end ∙ ap (λ (l : ℕ). Some l) is) row same k (omega (arith, le, is))
