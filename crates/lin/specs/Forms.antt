-- Linear forms: a constant and multiples of symbols.
use Rattle.std.specs.Prelude.{◌≢◌, ℕ, zero, suc, ◌≤◌, ◌<◌, ◌^◌, ℤ, pos, negsuc, ◌+ℤ◌, ◌*ℤ◌, Bool, true, false, ◌&&◌, if◌then◌else◌, List, [], ◌∷◌, length, filter, nat_lt, nat_le, ◌==◌, not, Option, Some, None}
use Rattle.std.specs.List.{AllByRecursion, list_all}
use Rattle.std.specs.Cmp.Lexicographic.{pointwise}
use Rattle.std.specs.Ordering.{int_eq}
use Rattle.std.specs.Int.RustNames.{unsigned_abs}
use Rattle.lin.specs.declared.form.Multiple.{Multiple}

-- a whole number and multiples of symbols, which stand for whole numbers
pub record Form : Type 0 where
  pub constant : ℤ
  pub terms : List Multiple

-- the form that is a number
abbrev pub number : ℤ → Form
number z = record { constant = z; terms = [] }

-- what multiples come to where a symbol has the value that the assignment gives it
abbrev pub sum_of : List Multiple → (ℕ → ℤ) → ℤ
sum_of [] v = pos 0
sum_of (t ∷ ts) v = t.factor *ℤ v t.symbol +ℤ sum_of ts v

-- the whole number that a form is under an assignment
abbrev pub value_of : Form → (ℕ → ℤ) → ℤ
value_of form v = form.constant +ℤ sum_of form.terms v

abbrev pub is_zero : ℤ → Bool
is_zero (pos zero) = true
is_zero (pos (suc n)) = false
is_zero (negsuc n) = false

-- the symbols rise, and no factor is 0
abbrev pub IsCanonical : List Multiple → Type 0
IsCanonical [] = Unit {0}
IsCanonical (t ∷ ts) = (t.factor ≢ pos 0) × AllByRecursion (λ u. t.symbol < u.symbol) ts × IsCanonical ts

-- the factor of a symbol, 0 where it has no term
abbrev pub factor_of : List Multiple → ℕ → ℤ
factor_of [] s = pos 0
factor_of (t ∷ ts) s = (if t.symbol == s then t.factor else pos 0) +ℤ factor_of ts s

-- a term before others, left out where its factor is 0
abbrev pub in_front : Multiple → List Multiple → List Multiple
in_front t ts = if is_zero t.factor then ts else t ∷ ts

-- terms by rising symbol and one term more
abbrev pub plus_term : List Multiple → Multiple → List Multiple
plus_term [] t = in_front t []
plus_term (x ∷ xs) t =
    if nat_lt x.symbol t.symbol then x ∷ plus_term xs t
    else (if x.symbol == t.symbol then in_front (record { symbol = t.symbol; factor = x.factor +ℤ t.factor }) xs
    else in_front t (x ∷ xs))

-- terms and a multiple of others
abbrev pub plus_terms : List Multiple → ℤ → List Multiple → List Multiple
plus_terms ts k [] = ts
plus_terms ts k (u ∷ us) = plus_terms (plus_term ts (record { symbol = u.symbol; factor = k *ℤ u.factor })) k us

-- a form and a multiple of another, whatever the limits
abbrev pub plus_multiple : Form → ℤ → Form → Form
plus_multiple a k b = record { constant = a.constant +ℤ k *ℤ b.constant; terms = plus_terms a.terms k b.terms }

-- a form less its term of a symbol
abbrev pub without : Form → ℕ → Form
without form s = record { constant = form.constant; terms = filter (λ t. not (t.symbol == s)) form.terms }

abbrev pub IsWithin : ℕ → ℤ → Type 0
IsWithin m z = unsigned_abs z ≤ m

abbrev pub AreWithin : ℕ → List Multiple → Type 0
AreWithin m ts = AllByRecursion (λ t. IsWithin m t.factor) ts

-- at most 8 terms, factors within 2^20 and a constant within 2^40
abbrev pub is_within_limits : Form → Bool
is_within_limits form =
    nat_le (length form.terms) 8
    && list_all (λ t. nat_le (unsigned_abs t.factor) (2 ^ 20)) form.terms
    && nat_le (unsigned_abs form.constant) (2 ^ 40)

-- whether a form, another and the sum of the one and a multiple of the other are all within the limits
abbrev pub are_within_limits : Form → ℤ → Form → Bool
are_within_limits a k b = (is_within_limits a && is_within_limits b) && is_within_limits (plus_multiple a k b)

-- a form and a multiple of another, None where one of the three is outside the limits
abbrev pub combined : Form → ℤ → Form → Option Form
combined a k b = if are_within_limits a k b then Some (plus_multiple a k b) else None

-- whether two lists of terms, and two forms, are the same
abbrev pub same_terms : List Multiple → List Multiple → Bool
same_terms = pointwise (λ x y. (x.symbol == y.symbol) && int_eq x.factor y.factor)

abbrev pub same_form : Form → Form → Bool
same_form a b = int_eq a.constant b.constant && same_terms a.terms b.terms
