-- Forms whose values are told: they stay where other symbols are bound, and what the sum of two of them comes to.
use Rattle.std.proofs.Common.{◌≡◌, ℕ, suc, ◌-◌, ◌<◌, ◌≤◌, Bool, true, false, not, ◌&&◌, List, [], ◌∷◌, length, slice_get, Option, Some, None, refl, sym, ap, ◌∙◌, subst, ⊎_elim, arith}
use Rattle.std.specs.Prelude.{ℤ, pos, negsuc, ◌+ℤ◌, ◌*ℤ◌, ◌≤ℤ◌, ◌<ℤ◌, ◌==◌, ◌||◌, if◌then◌else◌, filter}
use Rattle.std.specs.List.{AllByRecursion, list_any}
use Rattle.std.specs.Ordering.{int_eq}
use Rattle.std.proofs.lemmas.Int.{ints}
use Rattle.std.proofs.lemmas.Bool.{cases_lt}
use Rattle.std.proofs.lemmas.Bool.Decides.{Decides-int_eq, nat_tests}
use Rattle.std.proofs.Math.IntN.{*ℤ-one, *ℤ-zero, one}
use Rattle.numeric.proofs.Ints.{multiply_order}
use Rattle.lin.specs.Forms.{Form, number, sum_of, factor_of, IsCanonical, plus_term, plus_terms, plus_multiple, without, combined}
use Rattle.lin.specs.declared.form.Multiple.{Multiple}
use Rattle.lin.proofs.TermLemmas.{bool_cases, all_weaker, plus_term-all, plus_terms-canonical, sum_of-plus_terms, value_of-plus_multiple, sum_of-without, sum_of-same}
use Rattle.lin.proofs.Limits.{combined-means}
use Rattle.plan.specs.Symbols.{Symbols, bind, form_value}
use Rattle.sched.specs.Standing.{counted_from, alone, last_term, is_bound, counted_once, innermost}
use Rattle.sched.proofs.Leading.{number_is}

-- ---- symbols

-- the symbols below n stand for the same
abbrev pub Keeps : ℕ → Symbols → Symbols → Type 0
Keeps n s t = (i : ℕ) → i < n → t.value i ≡ s.value i

pub keeps_on : (n m : ℕ) (s t u : Symbols) → Keeps n s t → Keeps m t u → n ≤ m → Keeps n s u
keeps_on n m s t u h k le i lt = k i (omega (arith, lt, le)) ∙ h i lt

pub bind_here : (s : Symbols) (i : ℕ) (z : ℤ) (b : Bool) → (bind s i z b).value i ≡ z
bind_here s i z b = let same : (i == i) ≡ true = grind (arith, nat_tests) in rw same refl

pub bind_keeps : (s : Symbols) (n : ℕ) (z : ℤ) (b : Bool) → Keeps n s (bind s n z b)
bind_keeps s n z b i lt = let other : (i == n) ≡ false = grind (arith, nat_tests) in rw other refl

kept_sum : (ts : List Multiple) (n : ℕ) (s t : Symbols) → Keeps n s t → AllByRecursion (λ u. u.symbol < n) ts → sum_of ts t.value ≡ sum_of ts s.value
kept_sum ts n s t k a = sum_of-same ts t.value s.value (all_weaker (λ u. u.symbol < n) (λ u. t.value u.symbol ≡ s.value u.symbol) (λ u h. k u.symbol h) ts a)

pub kept_value : (f : Form) (n : ℕ) (s t : Symbols) → Keeps n s t → AllByRecursion (λ u. u.symbol < n) f.terms → form_value f t ≡ form_value f s
kept_value f n s t k a = ap (λ v. f.constant +ℤ v) (kept_sum f.terms n s t k a)

-- ---- forms that are told

-- the form comes to z; its symbols are below n and rise, and their factors are positive
pub record IsTold (n : ℕ) (s : Symbols) (z : ℤ) (form : Form) : Type 0 where
  pub value : form_value form s ≡ z
  pub outer : AllByRecursion (λ t. t.symbol < n) form.terms
  pub rising : IsCanonical form.terms
  pub positive : AllByRecursion (λ t. pos 0 <ℤ t.factor) form.terms

pub told_on : (n m : ℕ) (s t : Symbols) (z : ℤ) (f : Form) → IsTold n s z f → Keeps n s t → n ≤ m → IsTold m t z f
told_on n m s t z f h k le = record {
  value = kept_value f n s t k h.outer ∙ h.value;
  outer = all_weaker (λ u. u.symbol < n) (λ u. u.symbol < m) (λ u l. omega (arith, l, le)) f.terms h.outer;
  rising = h.rising;
  positive = h.positive;
}

one_times : (v : ℤ) → pos 1 *ℤ v ≡ v
one_times v = omega (arith, ints)

pub told_number : (n : ℕ) (s : Symbols) (z : ℤ) → IsTold n s z (number z)
told_number n s z = record { value = number_is z s; outer = tt; rising = tt; positive = tt }

pub told_counted : (n i : ℕ) (s : Symbols) (z y : ℤ) → i < n → z +ℤ s.value i ≡ y → IsTold n s y (counted_from z i)
told_counted n i s z y lt e = record {
  value = (let k = one_times (s.value i) in omega (arith, ints, e, k));
  outer = (lt, tt);
  rising = (λ h. omega (arith, ints, h), tt, tt);
  positive = (omega (arith, ints), tt);
}

pub told_alone : (n i : ℕ) (s : Symbols) (y : ℤ) → i < n → s.value i ≡ y → IsTold n s y (alone i)
told_alone n i s y lt e = told_counted n i s (pos 0) y lt (omega (arith, ints, e))

-- ---- sums

-- what holds of all terms of both holds of those of the sum
plus_terms_all : (P : Multiple → Type 0) (k : ℤ) → ((x t : Multiple) → P x → P t → P (record { symbol = t.symbol; factor = x.factor +ℤ t.factor })) →
    (ts us : List Multiple) → AllByRecursion P ts → AllByRecursion (λ u. P (record { symbol = u.symbol; factor = k *ℤ u.factor })) us → AllByRecursion P (plus_terms ts k us)
plus_terms_all P k both ts [] a b = a
plus_terms_all P k both ts (u ∷ us) a b =
    let t : Multiple = record { symbol = u.symbol; factor = k *ℤ u.factor } in
    plus_terms_all P k both (plus_term ts t) us (plus_term-all P P (λ x h. h) t b.0 (λ x h. both x t h b.0) ts a) b.1

times_one : (k : ℤ) → k *ℤ pos 1 ≡ k
unfolding one
times_one k = *ℤ-one k

positive_product : (k f : ℤ) → pos 0 <ℤ k → pos 0 <ℤ f → pos 0 <ℤ (k *ℤ f)
positive_product k f h g =
    let scaled = multiply_order k (pos 1) f (omega (arith, ints, h)) (omega (arith, ints, g)) in
    let same = times_one k in
    omega (arith, ints, scaled, same, h)

told_made : (n : ℕ) (s : Symbols) (y z : ℤ) (a b : Form) (k : ℤ) → pos 0 <ℤ k → IsTold n s y a → IsTold n s z b → IsTold n s (y +ℤ k *ℤ z) (plus_multiple a k b)
told_made n s y z a b k some h g = record {
  value = value_of-plus_multiple a k b s.value ∙ ap (λ v. v +ℤ k *ℤ form_value b s) h.value ∙ ap (λ v. y +ℤ k *ℤ v) g.value;
  outer = plus_terms_all (λ t. t.symbol < n) k (λ x t l m. m) a.terms b.terms h.outer g.outer;
  rising = plus_terms-canonical a.terms k b.terms h.rising;
  positive = plus_terms_all (λ t. pos 0 <ℤ t.factor) k (λ x t l m. omega (arith, ints, l, m)) a.terms b.terms h.positive
      (all_weaker (λ t. pos 0 <ℤ t.factor) (λ t. pos 0 <ℤ (k *ℤ t.factor)) (λ t l. positive_product k t.factor some l) b.terms g.positive);
}

pub told_sum : (n : ℕ) (s : Symbols) (y z : ℤ) (a b c : Form) (k : ℤ) → pos 0 <ℤ k → combined a k b ≡ Some c → IsTold n s y a → IsTold n s z b → IsTold n s (y +ℤ k *ℤ z) c
told_sum n s y z a b c k some e h g = subst (IsTold n s (y +ℤ k *ℤ z)) (sym (combined-means a k b c e).is) (told_made n s y z a b k some h g)

-- ---- forms that name a symbol from some on

abbrev pub IsNew : ℕ → Form → Type 0
IsNew n f = (i : ℕ) × (n ≤ i) × (pos 0 <ℤ factor_of f.terms i)

factor_of-is_sum : (ts : List Multiple) (s : ℕ) → factor_of ts s ≡ sum_of ts (λ n. if n == s then pos 1 else pos 0)
factor_of-is_sum [] s = refl
factor_of-is_sum (t ∷ ts) s =
    let P : Bool → Type 0 = λ b. (if b then t.factor else pos 0) +ℤ factor_of ts s ≡ t.factor *ℤ (if b then pos 1 else pos 0) +ℤ sum_of ts (λ n. if n == s then pos 1 else pos 0) in
    let rest = factor_of-is_sum ts s in
    bool_cases P (t.symbol == s)
    (λ same. omega (arith, ints, times_one t.factor, rest))
    (λ other. omega (arith, ints, *ℤ-zero t.factor, rest))

factor_of-sum : (ts : List Multiple) (k : ℤ) (us : List Multiple) (s : ℕ) → factor_of (plus_terms ts k us) s ≡ factor_of ts s +ℤ k *ℤ factor_of us s
factor_of-sum ts k us s =
    rw (factor_of-is_sum (plus_terms ts k us) s, factor_of-is_sum ts s, factor_of-is_sum us s) (sum_of-plus_terms ts k us (λ n. if n == s then pos 1 else pos 0))

factor_of-least : (ts : List Multiple) (i : ℕ) → AllByRecursion (λ t. pos 0 <ℤ t.factor) ts → pos 0 ≤ℤ factor_of ts i
factor_of-least [] i a = omega (arith, ints)
factor_of-least (t ∷ ts) i a =
    let P : Bool → Type 0 = λ b. pos 0 ≤ℤ ((if b then t.factor else pos 0) +ℤ factor_of ts i) in
    let rest = factor_of-least ts i a.1 in
    let one = a.0 in
    bool_cases P (t.symbol == i) (λ same. omega (arith, ints, rest, one)) (λ other. omega (arith, ints, rest))

made_factor : (a b c : Form) (k : ℤ) (i : ℕ) → combined a k b ≡ Some c → factor_of c.terms i ≡ factor_of a.terms i +ℤ k *ℤ factor_of b.terms i
made_factor a b c k i e = ap (λ (f : Form). factor_of f.terms i) (combined-means a k b c e).is ∙ factor_of-sum a.terms k b.terms i

module _ (n : ℕ) (a b c : Form) (k : ℤ) (some : pos 0 <ℤ k) (e : combined a k b ≡ Some c) (first : AllByRecursion (λ t. pos 0 <ℤ t.factor) a.terms)
    (second : AllByRecursion (λ t. pos 0 <ℤ t.factor) b.terms) where
  pub new_first : IsNew n a → IsNew n c
  new_first h =
      let sum = made_factor a b c k h.0 e in
      let scaled = multiply_order k (pos 0) (factor_of b.terms h.0) (omega (arith, ints, some)) (factor_of-least b.terms h.0 second) in
      let none : k *ℤ pos 0 ≡ pos 0 = *ℤ-zero k in
      let here = h.2 in
      (h.0, h.1, omega (arith, ints, sum, scaled, none, here))

  pub new_second : IsNew n b → IsNew n c
  new_second h =
      let sum = made_factor a b c k h.0 e in
      let least = factor_of-least a.terms h.0 first in
      let scaled = positive_product k (factor_of b.terms h.0) some h.2 in
      (h.0, h.1, omega (arith, ints, sum, scaled, least))

pub new_alone : (n i : ℕ) → n ≤ i → IsNew n (alone i)
new_alone n i le = let same : (i == i) ≡ true = grind (arith, nat_tests) in (i, le, rw same (omega (arith, ints)))

-- ---- the last symbol

pub record IsLast (ts : List Multiple) (t : Multiple) : Type 0 where
  pub highest : AllByRecursion (λ u. u.symbol ≤ t.symbol) ts
  pub factor : factor_of ts t.symbol ≡ t.factor

some_is : (x y : Multiple) → Some x ≡ Some y → x ≡ y
some_is x y e = cc

last_more : (x y : Multiple) (zs : List Multiple) (t : Multiple) → x.symbol < y.symbol → IsLast (y ∷ zs) t → IsLast (x ∷ y ∷ zs) t
last_more x y zs t lt h =
    let le = h.highest.0 in
    let other : (x.symbol == t.symbol) ≡ false = grind (arith, nat_tests) in
    let rest = h.factor in
    record { highest = (omega (arith, lt, le), h.highest); factor = rw other (omega (arith, ints, rest)) }

last_alone : (x t : Multiple) → x ≡ t → IsLast (x ∷ []) t
last_alone x t e =
    let same : (t.symbol == t.symbol) ≡ true = grind (arith, nat_tests) in
    subst (λ y. IsLast (y ∷ []) t) (sym e) (record { highest = (omega arith, tt); factor = rw same (omega (arith, ints)) })

last_is : (ts : List Multiple) (t : Multiple) → slice_get ts (length ts - 1) ≡ Some t → IsCanonical ts → IsLast ts t
last_is [] t e h = absurd (cc e)
last_is (x ∷ []) t e h = last_alone x t (some_is x t e)
last_is (x ∷ y ∷ zs) t e h =
    let longer : length (x ∷ y ∷ zs) - 1 ≡ suc (length zs) = omega arith in
    let shorter : length (y ∷ zs) - 1 ≡ length zs = omega arith in
    let here : slice_get (y ∷ zs) (length zs) ≡ Some t = sym (ap (slice_get (x ∷ y ∷ zs)) longer) ∙ e in
    last_more x y zs t h.1.0 (last_is (y ∷ zs) t (ap (slice_get (y ∷ zs)) shorter ∙ here) h.2)

above_none : (ts : List Multiple) (m i : ℕ) → AllByRecursion (λ u. u.symbol ≤ m) ts → m < i → factor_of ts i ≡ pos 0
above_none [] m i a lt = refl
above_none (t ∷ ts) m i a lt =
    let le = a.0 in
    let other : (t.symbol == i) ≡ false = grind (arith, nat_tests) in
    rw other (omega (arith, ints, above_none ts m i a.1 lt))

bound_below : (bound : List ℕ) (m i : ℕ) → AllByRecursion (λ j. j ≤ m) bound → is_bound bound i ≡ true → i ≤ m
bound_below [] m i a e = absurd (cc e)
bound_below (j ∷ js) m i a e = of (j == i) refl e (λ k. bound_below js m i a.1 k)
  where
    of : (v : Bool) → (j == i) ≡ v → (v || list_any (λ one. one == i) js) ≡ true → (list_any (λ one. one == i) js ≡ true → i ≤ m) → i ≤ m
    of true h k rest = let le = a.0 in let same : j ≡ i = grind (arith, nat_tests) in omega (arith, le, same)
    of false h k rest = rest k

-- the innermost symbol of a form is that of this loop
pub record IsInnermost (n : ℕ) (f : Form) (i : ℕ) : Type 0 where
  pub is : i ≡ n
  pub once : factor_of f.terms i ≡ pos 1
  pub highest : AllByRecursion (λ u. u.symbol ≤ i) f.terms

counted_means : (bound : List ℕ) (t : Multiple) (i : ℕ) → counted_once bound t ≡ Some i → (is_bound bound t.symbol ≡ true) × (t.factor ≡ pos 1) × (t.symbol ≡ i)
counted_means bound t i e = of (is_bound bound t.symbol) (int_eq t.factor (pos 1)) refl refl e
  where
    of : (u v : Bool) → is_bound bound t.symbol ≡ u → int_eq t.factor (pos 1) ≡ v → (if u && v then Some t.symbol else None) ≡ Some i →
        (is_bound bound t.symbol ≡ true) × (t.factor ≡ pos 1) × (t.symbol ≡ i)
    of true true h k e = (h, grind (arith, nat_tests, Decides-int_eq t.factor (pos 1)), cc)
    of true false h k e = absurd (cc e)
    of false v h k e = absurd (cc e)

from_new : (n : ℕ) (f : Form) (m : ℕ) → IsNew n f → AllByRecursion (λ u. u.symbol ≤ m) f.terms → n ≤ m
from_new n f m new a = ⊎_elim
    (λ lt. let none = above_none f.terms m new.0 a (let le = new.1 in omega (arith, lt, le)) in let some = new.2 in absurd (omega (arith, ints, none, some)))
    (λ le. le) (cases_lt m n)

last_of : (n : ℕ) (bound : List ℕ) (f : Form) (i : ℕ) (t : Multiple) → IsNew n f → AllByRecursion (λ j. j ≤ n) bound → IsLast f.terms t → is_bound bound t.symbol ≡ true → t.factor ≡ pos 1 →
    t.symbol ≡ i → IsInnermost n f i
last_of n bound f i t new a last counted one is =
    let below = bound_below bound n t.symbol a counted in
    let above = from_new n f t.symbol new last.highest in
    subst (IsInnermost n f) is (record { is = omega (arith, below, above); once = last.factor ∙ one; highest = last.highest })

pub innermost_is : (n : ℕ) (bound : List ℕ) (f : Form) (i : ℕ) → IsCanonical f.terms → IsNew n f → AllByRecursion (λ j. j ≤ n) bound → innermost bound f ≡ Some i → IsInnermost n f i
innermost_is n bound f i rising new a e = of (last_term f) refl e
  where
    of : (o : Option Multiple) → last_term f ≡ o → (elim o [ Some t ↦ counted_once bound t | None ↦ None ]) ≡ Some i → IsInnermost n f i
    of None h e = absurd (cc e)
    of (Some t) h e = let k = counted_means bound t i e in last_of n bound f i t new a (last_is f.terms t h rising) k.0 k.1 k.2

-- no symbol is that of a loop where there are no loops
pub innermost_none : (f : Form) (i : ℕ) → innermost [] f ≡ Some i → ⊥
innermost_none f i e = of (last_term f) e
  where
    of : (o : Option Multiple) → (elim o [ Some t ↦ counted_once [] t | None ↦ None ]) ≡ Some i → ⊥
    of None e = cc e
    of (Some t) e = cc e

-- ---- what is left below a number

less_all : (i : ℕ) (ts : List Multiple) → AllByRecursion (λ u. u.symbol ≤ i) ts → AllByRecursion (λ u. u.symbol < i) (filter (λ t. not (t.symbol == i)) ts)
less_all i [] a = tt
less_all i (t ∷ ts) a = of (t.symbol == i) refl (less_all i ts a.1)
  where
    of : (v : Bool) → (t.symbol == i) ≡ v → AllByRecursion (λ u. u.symbol < i) (filter (λ t. not (t.symbol == i)) ts) →
        AllByRecursion (λ u. u.symbol < i) (if not v then t ∷ filter (λ t. not (t.symbol == i)) ts else filter (λ t. not (t.symbol == i)) ts)
    of true e rest = rest
    of false e rest = ((let le = a.0 in grind (arith, nat_tests)), rest)

-- a further upper form of a loop: its number n is at most that, as long as the form is at most the last number; and it names outer symbols alone
pub record IsLimit (n : ℕ) (z : ℤ) (s : Symbols) (limit : Form) : Type 0 where
  pub most : z ≤ℤ form_value limit s
  pub outer : AllByRecursion (λ t. t.symbol < n) limit.terms

pub limit_on : (n m : ℕ) (z : ℤ) (s t : Symbols) (l : Form) → Keeps m s t → n ≤ m → IsLimit n z s l → IsLimit n z t l
limit_on n m z s t l k le h = record {
  most = (let same = kept_value l m s t k (all_weaker (λ u. u.symbol < n) (λ u. u.symbol < m) (λ u g. omega (arith, g, le)) l.terms h.outer) in let most = h.most in omega (arith, ints, same, most));
  outer = h.outer;
}

minus_one : (v : ℤ) → negsuc 0 *ℤ v +ℤ v ≡ pos 0
minus_one v = omega (arith, ints)

-- what the limit of a form comes to
pub limit_value : (n : ℕ) (s : Symbols) (f limit : Form) (last : ℤ) (i : ℕ) → IsInnermost n f i → combined (number last) (negsuc 0) (without f i) ≡ Some limit →
    (form_value limit s +ℤ form_value f s) ≡ last +ℤ s.value n
limit_value n s f limit last i inner e =
    let parts : form_value f s ≡ form_value (without f i) s +ℤ factor_of f.terms i *ℤ s.value i = (let k = sum_of-without i f.terms s.value in omega (arith, ints, k)) in
    let once : factor_of f.terms i *ℤ s.value i ≡ s.value n = ap (λ k. k *ℤ s.value i) inner.once ∙ one_times (s.value i) ∙ ap s.value inner.is in
    let sum = ap (λ g. form_value g s) (combined-means (number last) (negsuc 0) (without f i) limit e).is ∙ value_of-plus_multiple (number last) (negsuc 0) (without f i) s.value in
    let end = number_is last s in
    let less = minus_one (form_value (without f i) s) in
    omega (arith, ints, parts, once, sum, end, less)

pub limit_outer : (n : ℕ) (f limit : Form) (last : ℤ) (i : ℕ) → IsInnermost n f i → combined (number last) (negsuc 0) (without f i) ≡ Some limit → AllByRecursion (λ t. t.symbol < n) limit.terms
limit_outer n f limit last i inner e =
    subst (λ (g : Form). AllByRecursion (λ t. t.symbol < n) g.terms) (sym (combined-means (number last) (negsuc 0) (without f i) limit e).is)
    (plus_terms_all (λ t. t.symbol < n) (negsuc 0) (λ x t l m. m) [] (without f i).terms tt
    (subst (λ m. AllByRecursion (λ u. u.symbol < m) (without f i).terms) inner.is (less_all i f.terms inner.highest)))

pub limit_of : (n : ℕ) (s : Symbols) (f limit : Form) (y last : ℤ) (i : ℕ) → form_value f s ≡ y → y ≤ℤ last → IsInnermost n f i →
    combined (number last) (negsuc 0) (without f i) ≡ Some limit → IsLimit n (s.value n) s limit
limit_of n s f limit y last i value most inner e =
    record { most = (let k = limit_value n s f limit last i inner e in omega (arith, ints, k, value, most)); outer = limit_outer n f limit last i inner e }
