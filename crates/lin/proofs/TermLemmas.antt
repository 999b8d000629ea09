-- Lemmas on terms.
use Rattle.std.proofs.Common.{◌≡◌, ℕ, zero, suc, ◌+◌, ◌<◌, ◌≤◌, ◌^◌, List, [], ◌∷◌, ◌++◌, length, take, drop, get_or, subst, arith, ap, refl, sym, ◌∙◌, Bool, true, false, nat_lt, nat_eq}
use Rattle.std.proofs.Math.IntN.{zero-*ℤ, *ℤ-zero, *ℤ-one}
use Rattle.std.specs.Prelude.{ℤ, pos, negsuc, ◌+ℤ◌, ◌*ℤ◌, ◌==◌, filter, not, if◌then◌else◌}
use Rattle.std.specs.List.{AllByRecursion, insert, remove}
use Rattle.std.proofs.lemmas.List.Elements.{All-from_recursion}
use Rattle.std.proofs.lemmas.Int.{ints, unsigned_abs-mul}
use Rattle.std.proofs.Math.Nat.{mul-le-mul_left}
use Rattle.std.specs.Int.RustNames.{unsigned_abs}
use Rattle.std.proofs.lemmas.Bool.Decides.{nat_tests}
use Rattle.lin.specs.Forms.{Form, factor_of, plus_term, plus_terms, plus_multiple, is_zero, in_front, sum_of, value_of, IsCanonical, AreWithin, IsWithin}
use Rattle.lin.specs.declared.form.Multiple.{Multiple}
use Rattle.numeric.proofs.Ints.{distribute, distribute_right, multiple_assoc}

pub is_zero-other : (z : ℤ) → (z ≡ pos 0 → ⊥) → is_zero z ≡ false
is_zero-other (pos zero) h = absurd (h refl)
is_zero-other (pos (suc n)) h = refl
is_zero-other (negsuc n) h = refl

pub plus_term-put : (ts : List Multiple) (p : ℕ) (x t : Multiple) → p < length ts → x ≡ get_or ts p x → x.symbol ≡ t.symbol → (x.factor +ℤ t.factor ≡ pos 0 → ⊥)
    → insert (remove ts p) p (record { symbol = t.symbol; factor = x.factor +ℤ t.factor }) ≡ take p ts ++ plus_term (drop p ts) t
plus_term-put [] p x t h e s n = absurd (omega arith)
plus_term-put (z ∷ zs) zero x t h e s n =
    let no_zero : is_zero (x.factor +ℤ t.factor) ≡ false = is_zero-other (x.factor +ℤ t.factor) n in
    let symbols : z.symbol ≡ t.symbol = ap (λ (u : Multiple). u.symbol) (sym e) ∙ s in
    let same : nat_eq z.symbol t.symbol ≡ true = grind (arith, nat_tests) in
    let below : nat_lt z.symbol t.symbol ≡ false = grind (arith, nat_tests) in
    rw (below, same, ← e, no_zero) refl
plus_term-put (z ∷ zs) (suc p) x t h e s n = ap (λ (r : List Multiple). z ∷ r) (plus_term-put zs p x t (omega arith) e s n)

pub plus_term-out : (ts : List Multiple) (p : ℕ) (x t : Multiple) → p < length ts → x ≡ get_or ts p x → x.symbol ≡ t.symbol → x.factor +ℤ t.factor ≡ pos 0
    → remove ts p ≡ take p ts ++ plus_term (drop p ts) t
plus_term-out [] p x t h e s n = absurd (omega arith)
plus_term-out (z ∷ zs) zero x t h e s n =
    let symbols : z.symbol ≡ t.symbol = ap (λ (u : Multiple). u.symbol) (sym e) ∙ s in
    let same : nat_eq z.symbol t.symbol ≡ true = grind (arith, nat_tests) in
    let below : nat_lt z.symbol t.symbol ≡ false = grind (arith, nat_tests) in
    rw (below, same, ← e, n) refl
plus_term-out (z ∷ zs) (suc p) x t h e s n = ap (λ (r : List Multiple). z ∷ r) (plus_term-out zs p x t (omega arith) e s n)

pub element_within : (m : ℕ) (ts : List Multiple) (p : ℕ) (x : Multiple) → AreWithin m ts → p < length ts → x ≡ get_or ts p x → IsWithin m x.factor
element_within m ts p x h l e =
    let P : Multiple → Type 0 = λ t. IsWithin m t.factor in
    subst P (sym e) (All-from_recursion P ts h p x l)

-- a fact about a choice, from the fact about each side
pub either_way : {A : Type 0} (Q : A → Type 0) (b : Bool) (x y : A) → (b ≡ true → Q x) → (b ≡ false → Q y) → Q (if b then x else y)
either_way Q true x y if_true if_false = if_true refl
either_way Q false x y if_true if_false = if_false refl

pub bool_cases : (P : Bool → Type 0) (b : Bool) → (b ≡ true → P true) → (b ≡ false → P false) → P b
bool_cases P true if_true if_false = if_true refl
bool_cases P false if_true if_false = if_false refl

pub is_zero-means : (z : ℤ) → is_zero z ≡ true → z ≡ pos 0
is_zero-means (pos zero) h = refl
is_zero-means (pos (suc n)) h = cc
is_zero-means (negsuc n) h = cc

pub is_zero-not : (z : ℤ) → is_zero z ≡ false → z ≡ pos 0 → ⊥
is_zero-not (pos zero) h e = cc
is_zero-not (pos (suc n)) h e = omega (arith, ints)
is_zero-not (negsuc n) h e = omega (arith, ints)

pub all_weaker : {X : Type 0} (P Q : X → Type 0) → ((x : X) → P x → Q x) → (xs : List X) → AllByRecursion P xs → AllByRecursion Q xs
all_weaker P Q f [] a = tt
all_weaker P Q f (x ∷ xs) a = (f x a.0, all_weaker P Q f xs a.1)

pub in_front-all : (Q : Multiple → Type 0) (t : Multiple) (xs : List Multiple) → Q t → AllByRecursion Q xs → AllByRecursion Q (in_front t xs)
in_front-all Q t xs q a = either_way (λ (r : List Multiple). AllByRecursion Q r) (is_zero t.factor) xs (t ∷ xs) (λ z. a) (λ z. (q, a))

pub filter-all : {X : Type 0} (P : X → Type 0) (test : X → Bool) (xs : List X) → AllByRecursion P xs → AllByRecursion P (filter test xs)
filter-all P test [] a = tt
filter-all {X = X} P test (x ∷ xs) a = either_way (λ (r : List X). AllByRecursion P r) (test x) _ _ (λ kept. (a.0, filter-all P test xs a.1)) (λ left_out. filter-all P test xs a.1)

-- what plus_term keeps of a fact about each term
pub plus_term-all : (P Q : Multiple → Type 0) → ((x : Multiple) → P x → Q x) → (t : Multiple) → Q t → ((x : Multiple) → P x → Q (record { symbol = t.symbol; factor = x.factor +ℤ t.factor }))
    → (ts : List Multiple) → AllByRecursion P ts → AllByRecursion Q (plus_term ts t)
plus_term-all P Q f t q both [] a = in_front-all Q t [] q tt
plus_term-all P Q f t q both (x ∷ xs) a =
    either_way (λ (r : List Multiple). AllByRecursion Q r) (nat_lt x.symbol t.symbol) _ _
    (λ below. (f x a.0, plus_term-all P Q f t q both xs a.1))
    (λ not_below. either_way (λ (r : List Multiple). AllByRecursion Q r) (nat_eq x.symbol t.symbol) _ _
    (λ same. in_front-all Q _ xs (both x a.0) (all_weaker P Q f xs a.1))
    (λ above. in_front-all Q t (x ∷ xs) q (all_weaker P Q f (x ∷ xs) a)))

pub plus_term-within : (m n : ℕ) (ts : List Multiple) (t : Multiple) → AreWithin m ts → IsWithin n t.factor → AreWithin (m + n) (plus_term ts t)
plus_term-within m n ts t a b =
    plus_term-all (λ (u : Multiple). IsWithin m u.factor) (λ (u : Multiple). IsWithin (m + n) u.factor)
    (λ u h. omega arith) t (omega arith) (λ u h. omega (arith, ints)) ts a

pub in_front-sum : (t : Multiple) (xs : List Multiple) (v : ℕ → ℤ) → sum_of (in_front t xs) v ≡ t.factor *ℤ v t.symbol +ℤ sum_of xs v
in_front-sum t xs v =
    either_way (λ (r : List Multiple). sum_of r v ≡ t.factor *ℤ v t.symbol +ℤ sum_of xs v) (is_zero t.factor) xs (t ∷ xs)
    (λ z. rw (is_zero-means t.factor z, zero-*ℤ) (omega (arith, ints))) (λ z. refl)

pub sum_of-plus_term : (ts : List Multiple) (t : Multiple) (v : ℕ → ℤ) → sum_of (plus_term ts t) v ≡ sum_of ts v +ℤ t.factor *ℤ v t.symbol
sum_of-plus_term [] t v = omega (arith, ints, in_front-sum t [] v)
sum_of-plus_term (x ∷ xs) t v =
    either_way (λ (r : List Multiple). sum_of r v ≡ x.factor *ℤ v x.symbol +ℤ sum_of xs v +ℤ t.factor *ℤ v t.symbol) (nat_lt x.symbol t.symbol) _ _
    (λ below. omega (arith, ints, sum_of-plus_term xs t v))
    (λ not_below. either_way (λ (r : List Multiple). sum_of r v ≡ x.factor *ℤ v x.symbol +ℤ sum_of xs v +ℤ t.factor *ℤ v t.symbol) (nat_eq x.symbol t.symbol) _ _
    (λ same. let s : x.symbol ≡ t.symbol = grind (arith, nat_tests) in
    rw s (omega (arith, ints, in_front-sum (record { symbol = t.symbol; factor = x.factor +ℤ t.factor }) xs v, distribute_right x.factor t.factor (v t.symbol))))
    (λ above. omega (arith, ints, in_front-sum t (x ∷ xs) v)))

pub in_front-canonical : (t : Multiple) (xs : List Multiple) → IsCanonical xs → AllByRecursion (λ u. t.symbol < u.symbol) xs → IsCanonical (in_front t xs)
in_front-canonical t xs h a = either_way (λ (r : List Multiple). IsCanonical r) (is_zero t.factor) xs (t ∷ xs) (λ z. h) (λ z. (is_zero-not t.factor z, a, h))

pub plus_term-canonical : (ts : List Multiple) (t : Multiple) → IsCanonical ts → IsCanonical (plus_term ts t)
plus_term-canonical [] t h = in_front-canonical t [] tt tt
plus_term-canonical (x ∷ xs) t h =
    either_way (λ (r : List Multiple). IsCanonical r) (nat_lt x.symbol t.symbol) _ _
    (λ below. let lt : x.symbol < t.symbol = grind (arith, nat_tests) in
    (h.0, plus_term-all (λ (u : Multiple). x.symbol < u.symbol) (λ (u : Multiple). x.symbol < u.symbol) (λ u g. g) t lt (λ u g. lt) xs h.1, plus_term-canonical xs t h.2))
    (λ not_below. either_way (λ (r : List Multiple). IsCanonical r) (nat_eq x.symbol t.symbol) _ _
    (λ same. let s : x.symbol ≡ t.symbol = grind (arith, nat_tests) in
    in_front-canonical _ xs h.2 (let P : ℕ → Type 0 = λ n. AllByRecursion (λ u. n < u.symbol) xs in subst P s h.1))
    (λ above. let lt : t.symbol < x.symbol = grind (arith, nat_tests) in
    in_front-canonical t (x ∷ xs) h (lt, all_weaker (λ (u : Multiple). x.symbol < u.symbol) (λ (u : Multiple). t.symbol < u.symbol) (λ u g. omega arith) xs h.1)))

pub plus_terms-canonical : (ts : List Multiple) (k : ℤ) (us : List Multiple) → IsCanonical ts → IsCanonical (plus_terms ts k us)
plus_terms-canonical ts k [] h = h
plus_terms-canonical ts k (u ∷ us) h = plus_terms-canonical (plus_term ts (record { symbol = u.symbol; factor = k *ℤ u.factor })) k us (plus_term-canonical ts _ h)

pub sum_of-plus_terms : (ts : List Multiple) (k : ℤ) (us : List Multiple) (v : ℕ → ℤ) → sum_of (plus_terms ts k us) v ≡ sum_of ts v +ℤ k *ℤ sum_of us v
sum_of-plus_terms ts k [] v = rw *ℤ-zero (omega (arith, ints))
sum_of-plus_terms ts k (u ∷ us) v =
    omega (
      arith,
      ints,
      sum_of-plus_terms (plus_term ts (record { symbol = u.symbol; factor = k *ℤ u.factor })) k us v,
      sum_of-plus_term ts (record { symbol = u.symbol; factor = k *ℤ u.factor }) v,
      distribute k (u.factor *ℤ v u.symbol) (sum_of us v),
      multiple_assoc k u.factor (v u.symbol),
    )

pub value_of-plus_multiple : (a : Form) (k : ℤ) (b : Form) (v : ℕ → ℤ) → value_of (plus_multiple a k b) v ≡ value_of a v +ℤ k *ℤ value_of b v
value_of-plus_multiple a k b v = omega (arith, ints, sum_of-plus_terms a.terms k b.terms v, distribute k b.constant (sum_of b.terms v))

-- ---- forms over symbols, without one of them
pub filter-canonical : (test : Multiple → Bool) (ts : List Multiple) → IsCanonical ts → IsCanonical (filter test ts)
filter-canonical test [] h = tt
filter-canonical test (t ∷ ts) h =
    either_way (λ (r : List Multiple). IsCanonical r) (test t) _ _
    (λ kept. (h.0, filter-all (λ (u : Multiple). t.symbol < u.symbol) test ts h.1, filter-canonical test ts h.2))
    (λ left_out. filter-canonical test ts h.2)

pub sum_of-without : (s : ℕ) (ts : List Multiple) (v : ℕ → ℤ) → sum_of ts v ≡ sum_of (filter (λ t. not (t.symbol == s)) ts) v +ℤ factor_of ts s *ℤ v s
sum_of-without s [] v = omega (arith, ints, zero-*ℤ (v s))
sum_of-without s (t ∷ ts) v =
    let P : Bool → Type 0 = λ b. t.factor *ℤ v t.symbol +ℤ sum_of ts v ≡ sum_of (if not b then t ∷ filter (λ u. not (u.symbol == s)) ts else filter (λ u. not (u.symbol == s)) ts) v +ℤ ((if b then t.factor else pos 0) +ℤ factor_of ts s) *ℤ v s in
    let rest = sum_of-without s ts v in
    bool_cases P (nat_eq t.symbol s)
    (λ same. let e : t.symbol ≡ s = grind (arith, nat_tests) in rw e (omega (arith, ints, rest, distribute_right t.factor (factor_of ts s) (v s))))
    (λ other. omega (arith, ints, rest, distribute_right (pos 0) (factor_of ts s) (v s), zero-*ℤ (v s)))

-- ---- the factor of a symbol in canonical terms
pub factor_of-above : (s : ℕ) (ts : List Multiple) → AllByRecursion (λ u. s < u.symbol) ts → factor_of ts s ≡ pos 0
factor_of-above s [] a = refl
factor_of-above s (t ∷ ts) a =
    let other : nat_eq t.symbol s ≡ false = (let lt : s < t.symbol = a.0 in grind (arith, nat_tests)) in
    rw other (omega (arith, ints, factor_of-above s ts a.1))

pub factor_of-found : (ts : List Multiple) (p : ℕ) (t : Multiple) (s : ℕ) → p < length ts → t ≡ get_or ts p t → t.symbol ≡ s → IsCanonical (drop p ts) → factor_of (drop p ts) s ≡ t.factor
factor_of-found [] p t s l e same h = absurd (omega arith)
factor_of-found (u ∷ ts) zero t s l e same h =
    let symbols : u.symbol ≡ s = ap (λ (w : Multiple). w.symbol) (sym e) ∙ same in
    let equal : nat_eq u.symbol s ≡ true = grind (arith, nat_tests) in
    let P : ℕ → Type 0 = λ n. AllByRecursion (λ w. n < w.symbol) ts in
    rw (equal, ← e) (omega (arith, ints, factor_of-above s ts (subst P symbols h.1)))
factor_of-found (u ∷ ts) (suc p) t s l e same h = factor_of-found ts p t s (omega arith) e same h

pub factor_of-passed : (ts : List Multiple) (p : ℕ) (t : Multiple) (s : ℕ) → p < length ts → t ≡ get_or ts p t → (t.symbol ≡ s → ⊥) → IsCanonical (drop p ts)
    → (factor_of (drop p ts) s ≡ factor_of (drop (suc p) ts) s) × IsCanonical (drop (suc p) ts)
factor_of-passed [] p t s l e other h = absurd (omega arith)
factor_of-passed (u ∷ ts) zero t s l e other h =
    let ne : u.symbol ≡ s → ⊥ = λ q. other (ap (λ (w : Multiple). w.symbol) e ∙ q) in
    let test : nat_eq u.symbol s ≡ false = grind (arith, nat_tests) in
    (rw test (omega (arith, ints)), h.2)
factor_of-passed (u ∷ ts) (suc p) t s l e other h = factor_of-passed ts p t s (omega arith) e other h

pub element_within_or : (m : ℕ) (ts : List Multiple) (p : ℕ) (d : Multiple) → AreWithin m ts → p < length ts → IsWithin m (get_or ts p d).factor
element_within_or m ts p d h l = All-from_recursion (λ (t : Multiple). IsWithin m t.factor) ts h p d l

pub factor_of-within : (m : ℕ) (ts : List Multiple) (s : ℕ) → IsCanonical ts → AreWithin m ts → IsWithin m (factor_of ts s)
factor_of-within m [] s h a = omega arith
factor_of-within m (t ∷ ts) s h a =
    let P : Bool → Type 0 = λ b. IsWithin m ((if b then t.factor else pos 0) +ℤ factor_of ts s) in
    bool_cases P (nat_eq t.symbol s)
    (λ same. let e : t.symbol ≡ s = grind (arith, nat_tests) in
    let Above : ℕ → Type 0 = λ n. AllByRecursion (λ w. n < w.symbol) ts in
    let none = factor_of-above s ts (subst Above e h.1) in
    omega (arith, ints, none, a.0))
    (λ other. omega (arith, ints, factor_of-within m ts s h.2 a.1))

-- ---- the factor of a symbol in a sum
factor_of-is_sum : (ts : List Multiple) (s : ℕ) → factor_of ts s ≡ sum_of ts (λ n. if n == s then pos 1 else pos 0)
factor_of-is_sum [] s = refl
factor_of-is_sum (t ∷ ts) s =
    let P : Bool → Type 0 = λ b. (if b then t.factor else pos 0) +ℤ factor_of ts s ≡ t.factor *ℤ (if b then pos 1 else pos 0) +ℤ sum_of ts (λ n. if n == s then pos 1 else pos 0) in
    let rest = factor_of-is_sum ts s in
    bool_cases P (nat_eq t.symbol s)
    (λ same. omega (arith, ints, *ℤ-one t.factor, rest))
    (λ other. omega (arith, ints, *ℤ-zero t.factor, rest))

factor_of-plus_terms : (ts : List Multiple) (k : ℤ) (us : List Multiple) (s : ℕ) → factor_of (plus_terms ts k us) s ≡ factor_of ts s +ℤ k *ℤ factor_of us s
factor_of-plus_terms ts k us s =
    rw (factor_of-is_sum (plus_terms ts k us) s, factor_of-is_sum ts s, factor_of-is_sum us s) (sum_of-plus_terms ts k us (λ n. if n == s then pos 1 else pos 0))

positive_abs : (z : ℤ) → (z ≡ pos 0 → ⊥) → 1 ≤ unsigned_abs z
positive_abs (pos zero) h = absurd (h refl)
positive_abs (pos (suc n)) h = omega (arith, ints)
positive_abs (negsuc n) h = omega (arith, ints)

factor_within : (m : ℕ) (k f : ℤ) → (f ≡ pos 0 → ⊥) → IsWithin m (k *ℤ f) → IsWithin m k
factor_within m k f h w =
    let product = unsigned_abs-mul k f in
    let grows = mul-le-mul_left (unsigned_abs k) (positive_abs f h) in
    omega (arith, product, grows, w)

-- a multiplier above 2^21 makes a factor too large, where there is a term to be multiplied
pub too_large : (ts us : List Multiple) (k : ℤ) → IsCanonical ts → IsCanonical us → AreWithin (2 ^ 20) ts → (us ≡ [] → ⊥) → (IsWithin (2 ^ 21) k → ⊥)
    → AreWithin (2 ^ 20) (plus_terms ts k us) → ⊥
too_large ts [] k ct cu wt ne big w = ne refl
too_large ts (u ∷ us) k ct cu wt ne big w =
    let law = factor_of-plus_terms ts k (u ∷ us) u.symbol in
    let own = factor_of-found (u ∷ us) 0 u u.symbol (omega arith) refl refl cu in
    let before = factor_of-within (2 ^ 20) ts u.symbol ct wt in
    let after = factor_of-within (2 ^ 20) (plus_terms ts k (u ∷ us)) u.symbol (plus_terms-canonical ts k (u ∷ us) ct) w in
    let law' = rw own at law in
    big (factor_within (2 ^ 21) k u.factor cu.0 (omega (arith, ints, law', before, after)))

-- ---- a term behind others
above-append : (n : ℕ) (xs : List Multiple) (t : Multiple) → AllByRecursion (λ u. n < u.symbol) xs → n < t.symbol → AllByRecursion (λ u. n < u.symbol) (xs ++ t ∷ [])
above-append n [] t a h = (h, tt)
above-append n (x ∷ xs) t a h = (a.0, above-append n xs t a.1 h)

pub canonical-push : (ts : List Multiple) (t : Multiple) → IsCanonical ts → AllByRecursion (λ u. u.symbol < t.symbol) ts → (t.factor ≡ pos 0 → ⊥) → IsCanonical (ts ++ t ∷ [])
canonical-push [] t h a ne = (ne, tt, tt)
canonical-push (x ∷ xs) t h a ne = (h.0, above-append x.symbol xs t h.1 a.0, canonical-push xs t h.2 a.1 ne)

-- ---- the value under two assignments
pub sum_of-same : (ts : List Multiple) (v w : ℕ → ℤ) → AllByRecursion (λ t. v t.symbol ≡ w t.symbol) ts → sum_of ts v ≡ sum_of ts w
sum_of-same [] v w h = refl
sum_of-same (t ∷ ts) v w h = rw (h.0, sum_of-same ts v w h.1) refl
