-- What a kernel leaves at each place.
use Rattle.std.specs.Prelude.{◌≡◌, ℕ, ◌<◌, ℤ, neg_ℤ, List, length, slice_index_or}
use Rattle.numeric.specs.declared.ty.Ty.{Ty}
use Rattle.numeric.specs.Wrap.{wrap}

-- the number that a value with a sign is
abbrev pub itself : ℤ → ℤ
itself z = z

-- the negation of a number, wrapped to the type
abbrev pub negation : Ty → ℤ → ℤ
negation t z = wrap t (neg_ℤ z)

-- at each place below n lies the operator of the values of `a` and `b` there, as numbers
abbrev pub AppliesBelow : {A : Type 0} → ℕ → (A → ℤ) → (ℤ → ℤ → ℤ) → List A → List A → List A → Type 0
AppliesBelow {A = A} n value op a b out =
    (k : ℕ) (d : A) → k < n → value (slice_index_or out k d) ≡ op (value (slice_index_or a k d)) (value (slice_index_or b k d))

-- at each place of `out` lies the operator of the values of `a` and `b` there, as numbers
abbrev pub Applies : {A : Type 0} → (A → ℤ) → (ℤ → ℤ → ℤ) → List A → List A → List A → Type 0
Applies value op a b out = AppliesBelow (length out) value op a b out

-- at each place of `out` lies what the value of `a` there changes to
abbrev pub Changes : {A : Type 0} → (A → ℤ) → (ℤ → ℤ) → List A → List A → Type 0
Changes {A = A} value change a out = (k : ℕ) (d : A) → k < length out → value (slice_index_or out k d) ≡ change (value (slice_index_or a k d))
