-- Rising numbers.
use Rattle.std.proofs.Common.{◌≡◌, ℕ, zero, suc, ◌+◌, [], ◌∷◌, ◌++◌, ap, ◌∙◌, arith, List}
use Rattle.std.specs.List.{range_with_len}

numbers_more : (a n j : ℕ) → a + n ≡ j → range_with_len a (suc n) ≡ range_with_len a n ++ j ∷ []
numbers_more a zero j e = let f : a ≡ j = omega arith in ap (λ (k : ℕ). k ∷ []) f
numbers_more a (suc n) j e = ap (λ (xs : List ℕ). a ∷ xs) (numbers_more (a + 1) n j (omega arith))

-- one number more
pub range_more : (n : ℕ) → range_with_len 0 (n + 1) ≡ range_with_len 0 n ++ n ∷ []
range_more n = let e : n + 1 ≡ suc n = omega arith in ap (range_with_len 0) e ∙ numbers_more 0 n n (omega arith)
