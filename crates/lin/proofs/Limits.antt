-- What the test of the limits says.
use Rattle.std.proofs.Common.{◌≡◌, ℕ, ◌≤◌, ◌^◌, List, [], ◌∷◌, length, Bool, true, false, ◌&&◌, arith, refl, sym}
use Rattle.std.specs.Prelude.{ℤ, ◌+ℤ◌, ◌*ℤ◌, Option, Some, None, IsTrue, IfOk, Result, Ok, Err, nat_le, filter, not, ◌==◌, if◌then◌else◌}
use Rattle.std.specs.List.{list_all}
use Rattle.std.specs.Int.RustNames.{unsigned_abs}
use Rattle.std.proofs.lemmas.Bool.Decides.{nat_tests}
use Rattle.lin.specs.declared.form.Multiple.{Multiple}
use Rattle.lin.specs.Forms.{Form, is_within_limits, are_within_limits, combined, plus_multiple, plus_terms, without, AreWithin, IsWithin}
use Rattle.lin.proofs.TermLemmas.{bool_cases}

pub both_true : (a b : Bool) → IsTrue (a && b) → IsTrue a × IsTrue b
both_true true b h = (refl, h)
both_true false b h = cc

pub le_true : (m n : ℕ) → IsTrue (nat_le m n) → m ≤ n
le_true m n h = grind (arith, nat_tests)

small_terms : (ts : List Multiple) → IsTrue (list_all (λ t. nat_le (unsigned_abs t.factor) (2 ^ 20)) ts) → AreWithin (2 ^ 20) ts
small_terms [] h = tt
small_terms (t ∷ ts) h = let p = both_true _ _ h in (le_true _ _ p.0, small_terms ts p.1)

pub within_limits-terms : (form : Form) → IsTrue (is_within_limits form) → AreWithin (2 ^ 20) form.terms
within_limits-terms form h = small_terms form.terms (both_true _ _ (both_true _ _ h).0).1

pub within_limits-constant : (form : Form) → IsTrue (is_within_limits form) → IsWithin (2 ^ 40) form.constant
within_limits-constant form h = le_true _ _ (both_true _ _ h).1

pub within_limits-few : (form : Form) → IsTrue (is_within_limits form) → length form.terms ≤ 8
within_limits-few form h = le_true _ _ (both_true _ _ (both_true _ _ h).0).0

le_test : (m n : ℕ) → m ≤ n → IsTrue (nat_le m n)
le_test m n h = grind (arith, nat_tests)

both_hold : (a b : Bool) → IsTrue a → IsTrue b → IsTrue (a && b)
both_hold true b h k = k
both_hold false b h k = cc

filter-few : (test : Multiple → Bool) (ts : List Multiple) → length (filter test ts) ≤ length ts
filter-few test [] = omega arith
filter-few test (t ∷ ts) =
    let P : Bool → Type 0 = λ b. length (if b then t ∷ filter test ts else filter test ts) ≤ length (t ∷ ts) in
    let rest = filter-few test ts in
    bool_cases P (test t) (λ kept. omega (arith, rest)) (λ left_out. omega (arith, rest))

filter-list_all : (test small : Multiple → Bool) (ts : List Multiple) → IsTrue (list_all small ts) → IsTrue (list_all small (filter test ts))
filter-list_all test small [] h = h
filter-list_all test small (t ∷ ts) h =
    let p = both_true _ _ h in
    let rest = filter-list_all test small ts p.1 in
    let P : Bool → Type 0 = λ b. IsTrue (list_all small (if b then t ∷ filter test ts else filter test ts)) in
    bool_cases P (test t) (λ kept. both_hold _ _ p.0 rest) (λ left_out. rest)

pub within_limits-without : (form : Form) (s : ℕ) → IsTrue (is_within_limits form) → IsTrue (is_within_limits (without form s))
within_limits-without form s h =
    let p = both_true _ _ h in
    let q = both_true _ _ p.0 in
    let few : length (filter (λ t. not (t.symbol == s)) form.terms) ≤ 8 = omega (arith, le_true (length form.terms) 8 q.0, filter-few (λ t. not (t.symbol == s)) form.terms) in
    both_hold _ _ (both_hold _ _ (le_test (length (filter (λ t. not (t.symbol == s)) form.terms)) 8 few) (filter-list_all (λ t. not (t.symbol == s)) (λ t. nat_le (unsigned_abs t.factor) (2 ^ 20)) form.terms q.1)) p.1

pub if_ok : {T E : Type 0} (r : Result T E) (P Q : T → Type 0) → ((x : T) → P x → Q x) → IfOk r P → IfOk r Q
if_ok (Ok x) P Q f h = f x h
if_ok (Err e) P Q f h = tt

-- ---- when a form and a multiple of another are within the limits
if_second : {A : Type 0} (x y z : Bool) (s : Option A) → y ≡ false → (if (x && y) && z then s else None) ≡ None
if_second true y z s h = rw h refl
if_second false y z s h = refl

if_third : {A : Type 0} (x z : Bool) (s : Option A) → z ≡ false → (if x && z then s else None) ≡ None
if_third true z s h = rw h refl
if_third false z s h = refl

pub combined-made : (a b : Form) (k : ℤ) → IsTrue (is_within_limits a) → IsTrue (is_within_limits b) → IsTrue (is_within_limits (plus_multiple a k b)) → combined a k b ≡ Some (plus_multiple a k b)
combined-made a b k ha hb hs = rw (ha, hb, hs) refl

pub combined-first : (a b : Form) (k : ℤ) → is_within_limits a ≡ false → combined a k b ≡ None
combined-first a b k h = rw h refl

pub combined-second : (a b : Form) (k : ℤ) → is_within_limits b ≡ false → combined a k b ≡ None
combined-second a b k h = if_second (is_within_limits a) (is_within_limits b) (is_within_limits (plus_multiple a k b)) (Some (plus_multiple a k b)) h

pub combined-outside : (a b : Form) (k : ℤ) → is_within_limits (plus_multiple a k b) ≡ false → combined a k b ≡ None
combined-outside a b k h = if_third (is_within_limits a && is_within_limits b) (is_within_limits (plus_multiple a k b)) (Some (plus_multiple a k b)) h

-- what is made is the sum, and all three are within the limits
pub record IsMade (a : Form) (k : ℤ) (b sum : Form) : Type 0 where
  pub is : sum ≡ plus_multiple a k b
  pub within : IsTrue (is_within_limits sum)
  pub first : IsTrue (is_within_limits a)
  pub second : IsTrue (is_within_limits b)

some_is : (x y : Form) → Some x ≡ Some y → x ≡ y
some_is x y e = cc

made_by : (a : Form) (k : ℤ) (b sum : Form) (t : Bool) → are_within_limits a k b ≡ t → (if t then Some (plus_multiple a k b) else None) ≡ Some sum → IsMade a k b sum
made_by a k b sum true h e =
    let is = some_is (plus_multiple a k b) sum e in
    let outer = both_true (is_within_limits a && is_within_limits b) (is_within_limits (plus_multiple a k b)) h in
    let inner = both_true (is_within_limits a) (is_within_limits b) outer.0 in
    record { is = sym is; within = rw (sym is) outer.1; first = inner.0; second = inner.1 }
made_by a k b sum false h e = cc

pub combined-means : (a : Form) (k : ℤ) (b sum : Form) → combined a k b ≡ Some sum → IsMade a k b sum
combined-means a k b sum e = made_by a k b sum (are_within_limits a k b) refl e

false_by : (b : Bool) → (IsTrue b → ⊥) → b ≡ false
false_by true h = absurd (h refl)
false_by false h = refl

-- a sum with a factor or a constant that is too large is outside the limits
pub combined-large : (a b : Form) (k : ℤ) → (AreWithin (2 ^ 20) (plus_terms a.terms k b.terms) → ⊥) → combined a k b ≡ None
combined-large a b k h = combined-outside a b k (false_by _ (λ w. h (within_limits-terms (plus_multiple a k b) w)))

pub combined-far : (a b : Form) (k : ℤ) → (IsWithin (2 ^ 40) (a.constant +ℤ k *ℤ b.constant) → ⊥) → combined a k b ≡ None
combined-far a b k h = combined-outside a b k (false_by _ (λ w. h (within_limits-constant (plus_multiple a k b) w)))
