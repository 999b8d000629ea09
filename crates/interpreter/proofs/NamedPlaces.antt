-- The number that a name stands for, by the place of the first coordinate of that name.
use Rattle.std.proofs.Common.{◌≡◌, ℕ, zero, suc, ◌+◌, ◌<◌, List, [], ◌∷◌, length, map, get_or, refl, ap, sym, ◌∙◌, arith, Bool, true, false, ℤ, pos}
use Rattle.std.specs.Prelude.{string_bytes}
use Rattle.meaning.specs.Names.{bound, same_name}
use Rattle.plan.specs.declared.stmt.Coordinate.{Coordinate}
use Rattle.interpreter.specs.Runs.{numbers_at}
use Rattle.interpreter.proofs.Moving.{moved}

abbrev names_of : List Coordinate → List (List ℕ)
names_of cs = map (λ c. string_bytes c.variable) cs

-- no coordinate before this place has the name
abbrev pub IsBefore : List Coordinate → List ℕ → ℕ → Type 0
IsBefore cs name i = (j : ℕ) → j < i → (c : Coordinate) → c ≡ get_or cs j c → false ≡ same_name (string_bytes c.variable) name

-- and one more has not
pub before_more : (cs : List Coordinate) (name : List ℕ) (i : ℕ) (c : Coordinate) → i < length cs → IsBefore cs name i → c ≡ get_or cs i c →
    false ≡ same_name (string_bytes c.variable) name → IsBefore cs name (i + 1)
before_more [] name i c lt h is other j less y at = absurd (omega arith)
before_more (x ∷ cs) name zero c lt h is other zero less y at = other ∙ ap (λ (z : Coordinate). same_name (string_bytes z.variable) name) (is ∙ sym at)
before_more (x ∷ cs) name zero c lt h is other (suc j) less y at = absurd (omega arith)
before_more (x ∷ cs) name (suc i) c lt h is other zero less y at = h 0 (omega arith) y at
before_more (x ∷ cs) name (suc i) c lt h is other (suc j) less y at = before_more cs name i c (omega arith) (λ m l z e. h (suc m) (omega arith) z e) is other j (omega arith) y at

pub number_named : (cs : List Coordinate) (zs : List ℤ) (name : List ℕ) (i : ℕ) (c : Coordinate) → IsBefore cs name i → i < length cs → c ≡ get_or cs i c →
    true ≡ same_name (string_bytes c.variable) name → bound (names_of cs) zs name ≡ get_or zs i (pos 0)
number_named [] zs name i c h lt is same = absurd (omega arith)
number_named (x ∷ cs) [] name i c h lt is same = refl
number_named (x ∷ cs) (z ∷ zs) name zero c h lt is same =
    ap (λ (y : Coordinate). elim (same_name (string_bytes y.variable) name) [ true ↦ z | false ↦ bound (names_of cs) zs name ]) (sym is)
    ∙ ap (λ (b : Bool). elim b [ true ↦ z | false ↦ bound (names_of cs) zs name ]) (sym same)
number_named (x ∷ cs) (z ∷ zs) name (suc i) c h lt is same =
    ap (λ (b : Bool). elim b [ true ↦ z | false ↦ bound (names_of cs) zs name ]) (sym (h 0 (omega arith) x refl))
    ∙ number_named cs zs name i c (λ j less y at. h (suc j) (omega arith) y at) (omega arith) is same

-- what numbers that rise alike from turn to turn are at a place
pub number_moved : (xs ys : List ℤ) (i k : ℕ) → i < length xs → i < length ys → get_or (numbers_at xs ys k) i (pos 0) ≡ moved (get_or xs i (pos 0)) (get_or ys i (pos 0)) k
number_moved [] ys i k h g = absurd (omega arith)
number_moved (x ∷ xs) [] i k h g = absurd (omega arith)
number_moved (x ∷ xs) (y ∷ ys) zero k h g = refl
number_moved (x ∷ xs) (y ∷ ys) (suc i) k h g = number_moved xs ys i k (omega arith) (omega arith)
