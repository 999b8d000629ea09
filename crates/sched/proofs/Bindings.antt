-- The symbols that no line binds.
use Rattle.std.proofs.Common.{◌≡◌, ℕ, ◌+◌, ◌-◌, ◌<◌, ◌≤◌, List, [], ◌∷◌, ◌++◌, suc, replicate, refl, sym, ap, ◌∙◌, append_assoc, append-nil, arith}

left_is : (n i : ℕ) → i < n → n - i ≡ suc (n - (i + 1))
left_is n i lt = omega arith

none_left : (n i : ℕ) → n ≤ i → n - i ≡ 0
none_left n i le = omega arith

missing_is : {A : Type 0} (x : A) (n i : ℕ) → i < n → replicate (n - i) x ≡ x ∷ replicate (n - (i + 1)) x
missing_is x n i lt = rw (left_is n i lt) refl

-- one more
pub missing_next : {A : Type 0} (x : A) (xs : List A) (n i : ℕ) → i < n → (xs ++ x ∷ []) ++ replicate (n - (i + 1)) x ≡ xs ++ replicate (n - i) x
missing_next x xs n i lt = append_assoc xs (x ∷ []) (replicate (n - (i + 1)) x) ∙ ap (λ ys. xs ++ ys) (sym (missing_is x n i lt))

no_more : {A : Type 0} (x : A) (xs : List A) (k : ℕ) → k ≡ 0 → xs ++ replicate k x ≡ xs
no_more x xs k e = rw (e) (append-nil xs)

-- no more
pub missing_none : {A : Type 0} (x : A) (xs : List A) (n i : ℕ) → n ≤ i → xs ++ replicate (n - i) x ≡ xs
missing_none x xs n i le = no_more x xs (n - i) (none_left n i le)
