-- What a kernel leaves at each place.
use Rattle.std.specs.Prelude.{◌≡◌, ℕ, ◌<◌, ℤ, Bool, false, not, List, length, slice_index, slice_index_or, if◌then◌else◌}

-- the number that a value with a sign is
abbrev pub itself : ℤ → ℤ
itself z = z

-- at each place of `out` lies what the comparison of the values of `a` and `b` there says
abbrev pub Compares : {A : Type 0} → (A → ℤ) → (ℤ → ℤ → Bool) → List A → List A → List Bool → Type 0
Compares {A = A} value by a b out = (k : ℕ) (d : A) → k < length out → slice_index_or out k false ≡ by (value (slice_index_or a k d)) (value (slice_index_or b k d))

-- at each place of `out` lies what the connective makes of the answers of `a` and `b` there
abbrev pub Connects : (Bool → Bool → Bool) → List Bool → List Bool → List Bool → Type 0
Connects by a b out = (k : ℕ) → k < length out → slice_index_or out k false ≡ by (slice_index_or a k false) (slice_index_or b k false)

-- at each place of `out` lies the other answer than that of `a`
abbrev pub Turns : List Bool → List Bool → Type 0
Turns a out = (k : ℕ) → k < length out → slice_index_or out k false ≡ not (slice_index_or a k false)

-- at each place of `out` lies the element of `first` there where the mask holds, else that of `second`
abbrev pub Selects : {A : Type 0} → List Bool → List A → List A → List A → Type 0
Selects {A = A} mask first second out =
    (k : ℕ) (d : A) → k < length out → slice_index_or out k d ≡ (if slice_index_or mask k false then slice_index_or first k d else slice_index_or second k d)

-- at each place of `out` lies the value of `from` there, changed
abbrev pub Casts : {A B : Type 0} → (A → ℤ) → (B → ℤ) → (ℤ → ℤ) → List A → List B → Type 0
Casts {A = A} {B = B} value new change from out =
    (k : ℕ) (d : A) (e : B) → k < length out → new (slice_index_or out k e) ≡ change (value (slice_index_or from k d))

-- each index lies below n
abbrev pub AreWithin : List ℕ → ℕ → Type 0
AreWithin at n = (k : ℕ) → k < length at → slice_index at k < n

-- at each place of `out` lies the element of the source at the index there
abbrev pub Gathers : {A : Type 0} → List A → List ℕ → List A → Type 0
Gathers {A = A} source at out = (k : ℕ) (d : A) → k < length out → slice_index_or out k d ≡ slice_index_or source (slice_index at k) d
