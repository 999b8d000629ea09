-- Values of forms where another form stands in a symbol's place, and where one symbol more is bound.
use Rattle.std.proofs.Common.{◌≡◌, ℕ, ◌<◌, Bool, true, false, List, [], ◌∷◌, ◌++◌, Option, Some, None, refl, sym, ap, ◌∙◌, subst, arith}
use Rattle.std.specs.Prelude.{ℤ, pos, negsuc, ◌+ℤ◌, ◌*ℤ◌, ◌≤ℤ◌, ◌<ℤ◌, ◌==◌, ◌&&◌, not, if◌then◌else◌, filter, int_le}
use Rattle.std.specs.List.{AllByRecursion, list_any, list_all}
use Rattle.std.specs.Int.{int_div_euclid, int_rem_euclid}
use Rattle.std.proofs.lemmas.Int.{ints, by_lt_z}
use Rattle.std.proofs.Math.IntN.{*ℤ-one, one}
use Rattle.std.proofs.lemmas.Nat.{mod_below}
use Rattle.numeric.proofs.Ints.{distribute, multiply_order}
use Rattle.numeric.proofs.Numbers.{division}
use Rattle.lin.specs.Forms.{Form, sum_of, value_of, factor_of, without, combined, same_terms}
use Rattle.lin.specs.Search.{replaced}
use Rattle.lin.specs.declared.form.Multiple.{Multiple}
use Rattle.lin.proofs.TermLemmas.{sum_of-without, value_of-plus_multiple}
use Rattle.lin.proofs.Limits.{combined-means}
use Rattle.plan.specs.Symbols.{Symbols, bind, form_value}
use Rattle.soundness.specs.Obligations.{form_has}
use Rattle.std.specs.Ordering.{int_eq}
use Rattle.soundness.proofs.Refines.{eq_refl, eq_true, and_parts, number_true}
use Rattle.soundness.proofs.Sound.{or_left, or_right}
use Rattle.tails.specs.Moves.{joined, single, not_naming, each_replaced}

-- ---- whole numbers

rem_low : (z : ℤ) (n : ℕ) → 0 < n → pos 0 ≤ℤ int_rem_euclid z (pos n)
rem_low (pos a) n h = omega (arith, ints)
rem_low (negsuc a) n h = omega (arith, ints)

rem_high : (z : ℤ) (n : ℕ) → 0 < n → int_rem_euclid z (pos n) <ℤ pos n
rem_high (pos a) n h = let k = mod_below a n h in omega (arith, ints, k)
rem_high (negsuc a) n h = omega (arith, ints, h)

-- the block of n numbers that a number is in
pub block_of : (n y : ℤ) → pos 1 ≤ℤ n → (k : ℤ) × ((n *ℤ k) ≤ℤ y) × (y <ℤ (n *ℤ k +ℤ n))
block_of (pos n) y h =
    let some : 0 < n = omega (arith, ints, h) in
    let parts = division y n some in
    let low = rem_low y n some in
    let high = rem_high y n some in
    (int_div_euclid y (pos n), omega (arith, ints, parts, low), omega (arith, ints, parts, high))
block_of (negsuc n) y h = absurd (omega (arith, ints, h))

pub times_one : (n : ℤ) → n *ℤ pos 1 ≡ n
unfolding one
times_one n = *ℤ-one n

-- a block that begins at or before another's end begins no later
pub blocks_rise : (n l k : ℤ) → pos 1 ≤ℤ n → (n *ℤ l) <ℤ (n *ℤ k +ℤ n) → l ≤ℤ k
blocks_rise n l k h less = by_lt_z k l
    (λ after.
    let scaled = multiply_order n (k +ℤ pos 1) l (omega (arith, ints, h)) (omega (arith, ints, after)) in
    let spread = distribute n k (pos 1) in
    let same : n *ℤ pos 1 ≡ n = times_one n in
    absurd (omega (arith, ints, scaled, spread, same, less)))
    (λ other. other)

-- ---- lists that are there

-- two lists and the one of both
pub record Parts {A : Type 0} (a b : Option (List A)) (zs : List A) : Type 0 where
  pub left : List A
  pub right : List A
  pub is_left : a ≡ Some left
  pub is_right : b ≡ Some right
  pub all : zs ≡ left ++ right

pub joined_parts : {A : Type 0} (a b : Option (List A)) (zs : List A) → joined a b ≡ Some zs → Parts a b zs
joined_parts None b zs e = absurd (cc e)
joined_parts (Some xs) None zs e = absurd (cc e)
joined_parts (Some xs) (Some ys) zs e = record { left = xs; right = ys; is_left = refl; is_right = refl; all = cc }

pub single_part : {A : Type 0} (a : Option A) (zs : List A) → single a ≡ Some zs → (x : A) × (a ≡ Some x) × (zs ≡ x ∷ [])
single_part None zs e = absurd (cc e)
single_part (Some x) zs e = (x, refl, cc)

pub all_both : {A : Type 0} (P : A → Type 0) (xs ys : List A) → AllByRecursion P xs → AllByRecursion P ys → AllByRecursion P (xs ++ ys)
all_both P [] ys h k = k
all_both P (x ∷ xs) ys h k = (h.0, all_both P xs ys h.1 k)

-- what holds of those that pass a test and of those that do not holds of all
pub all_parts : {A : Type 0} (P : A → Type 0) (test : A → Bool) (xs : List A) → AllByRecursion P (filter test xs) → AllByRecursion P (filter (λ x. not (test x)) xs) → AllByRecursion P xs
all_parts P test [] h k = tt
all_parts P test (x ∷ xs) h k = of (test x) (all_parts P test xs) h k
  where
    of : (v : Bool) → (AllByRecursion P (filter test xs) → AllByRecursion P (filter (λ y. not (test y)) xs) → AllByRecursion P xs) → AllByRecursion P (if v then x ∷ filter test xs else filter test xs) → AllByRecursion P (if not v then x ∷ filter (λ y. not (test y)) xs else filter (λ y. not (test y)) xs) → AllByRecursion P (x ∷ xs)
    of true rest a b = (a.0, rest a.1 b)
    of false rest a b = (b.0, rest a b.1)

-- those that pass a test pass it
pub all_pass : {A : Type 0} (P : A → Type 0) (test : A → Bool) (xs : List A) → AllByRecursion P xs → AllByRecursion (λ x. (test x ≡ true) × P x) (filter test xs)
all_pass P test [] h = tt
all_pass P test (x ∷ xs) h = of (test x) refl (all_pass P test xs h.1)
  where
    of : (v : Bool) → test x ≡ v → AllByRecursion (λ y. (test y ≡ true) × P y) (filter test xs) → AllByRecursion (λ y. (test y ≡ true) × P y) (if v then x ∷ filter test xs else filter test xs)
    of true e rest = ((e, h.0), rest)
    of false e rest = rest

pub all_of : {A : Type 0} (test : A → Bool) (xs : List A) → list_all test xs ≡ true → AllByRecursion (λ x. test x ≡ true) xs
all_of test [] h = tt
all_of test (x ∷ xs) h = let k = and_parts (test x) (list_all test xs) h in (k.0, all_of test xs k.1)

pub all_unit : {A : Type 0} (xs : List A) → AllByRecursion (λ x. Unit {0}) xs
all_unit [] = tt
all_unit (x ∷ xs) = (tt, all_unit xs)

pub all_two : {A : Type 0} (P Q R : A → Type 0) → ((x : A) → P x → Q x → R x) → (xs : List A) → AllByRecursion P xs → AllByRecursion Q xs → AllByRecursion R xs
all_two P Q R f [] h k = tt
all_two P Q R f (x ∷ xs) h k = (f x h.0 k.0, all_two P Q R f xs h.1 k.1)

-- ---- a form in a symbol's place

pub made_value : (a b c : Form) (k : ℤ) (v : ℕ → ℤ) → combined a k b ≡ Some c → value_of c v ≡ value_of a v +ℤ k *ℤ value_of b v
made_value a b c k v e = ap (λ f. value_of f v) (combined-means a k b c e).is ∙ value_of-plus_multiple a k b v

-- the value of the other terms
abbrev pub rest_of : Form → ℕ → Symbols → ℤ
rest_of f i s = value_of (without f i) s.value

pub split_value : (f : Form) (i : ℕ) (s : Symbols) → form_value f s ≡ rest_of f i s +ℤ factor_of f.terms i *ℤ s.value i
split_value f i s = let k = sum_of-without i f.terms s.value in omega (arith, ints, k)

-- two assignments that differ at most at the symbol
abbrev pub Beside : ℕ → Symbols → Symbols → Type 0
Beside i s t = (j : ℕ) → (j == i) ≡ false → t.value j ≡ s.value j

beside_sum : (i : ℕ) (s t : Symbols) (ts : List Multiple) → Beside i s t → sum_of (filter (λ t. not (t.symbol == i)) ts) t.value ≡ sum_of (filter (λ t. not (t.symbol == i)) ts) s.value
beside_sum i s t [] h = refl
beside_sum i s t (x ∷ xs) h = of (x.symbol == i) refl (beside_sum i s t xs h)
  where
    of : (w : Bool) → (x.symbol == i) ≡ w → sum_of (filter (λ t. not (t.symbol == i)) xs) t.value ≡ sum_of (filter (λ t. not (t.symbol == i)) xs) s.value →
        sum_of (if not w then x ∷ filter (λ t. not (t.symbol == i)) xs else filter (λ t. not (t.symbol == i)) xs) t.value ≡ sum_of (if not w then x ∷ filter (λ t. not (t.symbol == i)) xs else filter (λ t. not (t.symbol == i)) xs) s.value
    of true e rest = rest
    of false e rest = ap (λ v. x.factor *ℤ v +ℤ sum_of (filter (λ t. not (t.symbol == i)) xs) t.value) (h x.symbol e) ∙ ap (λ r. x.factor *ℤ s.value x.symbol +ℤ r) rest

pub beside_rest : (f : Form) (i : ℕ) (s t : Symbols) → Beside i s t → rest_of f i t ≡ rest_of f i s
beside_rest f i s t h = ap (λ v. f.constant +ℤ v) (beside_sum i s t f.terms h)

beside_terms : (i : ℕ) (s t : Symbols) (ts : List Multiple) → Beside i s t → list_any (λ t. t.symbol == i) ts ≡ false → sum_of ts t.value ≡ sum_of ts s.value
beside_terms i s t [] h lacks = refl
beside_terms i s t (x ∷ xs) h lacks =
    ap (λ v. x.factor *ℤ v +ℤ sum_of xs t.value) (h x.symbol (or_left (x.symbol == i) (list_any (λ t. t.symbol == i) xs) lacks))
    ∙ ap (λ r. x.factor *ℤ s.value x.symbol +ℤ r) (beside_terms i s t xs h (or_right (x.symbol == i) (list_any (λ t. t.symbol == i) xs) lacks))

-- a form that does not name it has one value
pub beside_value : (f : Form) (i : ℕ) (s t : Symbols) → Beside i s t → form_has i f ≡ false → form_value f t ≡ form_value f s
beside_value f i s t h lacks = ap (λ v. f.constant +ℤ v) (beside_terms i s t f.terms h lacks)

pub bind_beside : (s : Symbols) (i : ℕ) (z : ℤ) (b : Bool) → Beside i s (bind s i z b)
bind_beside s i z b j h = rw h refl

pub bind_here : (s : Symbols) (i : ℕ) (z : ℤ) (b : Bool) → (bind s i z b).value i ≡ z
bind_here s i z b = let same : (i == i) ≡ true = eq_refl i in rw same refl

-- the value with the symbol bound
pub bound_value : (f : Form) (i : ℕ) (s : Symbols) (z : ℤ) (b : Bool) → form_value f (bind s i z b) ≡ rest_of f i s +ℤ factor_of f.terms i *ℤ z
bound_value f i s z b =
    split_value f i (bind s i z b) ∙ ap (λ r. r +ℤ factor_of f.terms i *ℤ (bind s i z b).value i) (beside_rest f i s (bind s i z b) (bind_beside s i z b))
    ∙ ap (λ y. rest_of f i s +ℤ factor_of f.terms i *ℤ y) (bind_here s i z b)

pub replaced_value : (f g r : Form) (i : ℕ) (c : ℤ) (s : Symbols) → replaced f i c g ≡ Some r → form_value r s ≡ rest_of f i s +ℤ c *ℤ form_value g s
replaced_value f g r i c s e = made_value (without f i) g r c s.value e

module _ (P : ℤ → Type 0) (f : Form) (i : ℕ) (c : ℤ) (s : Symbols) where
  -- what holds of the forms that are made holds of the values that they stand for, and the other way round
  pub made_all : (gs rs : List Form) → each_replaced f i c gs ≡ Some rs → AllByRecursion (λ r. P (form_value r s)) rs → AllByRecursion (λ g. P (rest_of f i s +ℤ c *ℤ form_value g s)) gs
  made_all [] rs e h = tt
  made_all (g ∷ gs) rs e h =
      let j = joined_parts (single (replaced f i c g)) (each_replaced f i c gs) rs e in
      let o = single_part (replaced f i c g) j.left j.is_left in
      let k : AllByRecursion (λ r. P (form_value r s)) (o.0 ∷ j.right) = subst (AllByRecursion (λ r. P (form_value r s))) (j.all ∙ ap (λ l. l ++ j.right) o.2) h in
      (subst P (replaced_value f g o.0 i c s o.1) k.0, made_all gs j.right j.is_right k.1)

  pub all_made : (gs rs : List Form) → each_replaced f i c gs ≡ Some rs → AllByRecursion (λ g. P (rest_of f i s +ℤ c *ℤ form_value g s)) gs → AllByRecursion (λ r. P (form_value r s)) rs
  all_made [] rs e h = let none : [] ≡ rs = cc in subst (AllByRecursion (λ r. P (form_value r s))) none tt
  all_made (g ∷ gs) rs e h =
      let j = joined_parts (single (replaced f i c g)) (each_replaced f i c gs) rs e in
      let o = single_part (replaced f i c g) j.left j.is_left in
      let k : AllByRecursion (λ r. P (form_value r s)) (o.0 ∷ j.right) = (subst P (sym (replaced_value f g o.0 i c s o.1)) h.0, all_made gs j.right j.is_right h.1) in
      subst (AllByRecursion (λ r. P (form_value r s))) (sym (j.all ∙ ap (λ l. l ++ j.right) o.2)) k

beside_each : (P : ℤ → Type 0) (f : Form) (i : ℕ) (c : ℤ) (s t : Symbols) → Beside i s t → (gs : List Form) → list_any (form_has i) gs ≡ false →
    AllByRecursion (λ g. P (rest_of f i s +ℤ c *ℤ form_value g s)) gs → AllByRecursion (λ g. P (rest_of f i t +ℤ c *ℤ form_value g t)) gs
beside_each P f i c s t h [] lacks k = tt
beside_each P f i c s t h (g ∷ gs) lacks k = (
  subst P
      (ap (λ r. r +ℤ c *ℤ form_value g s) (sym (beside_rest f i s t h))
      ∙ ap (λ v. rest_of f i t +ℤ c *ℤ v) (sym (beside_value g i s t h (or_left (form_has i g) (list_any (form_has i) gs) lacks)))) k.0,
  beside_each P f i c s t h gs (or_right (form_has i g) (list_any (form_has i) gs) lacks) k.1,
)

-- the forms that are made do not name the symbol
pub made_beside : (P : ℤ → Type 0) (f : Form) (i : ℕ) (c : ℤ) (s t : Symbols) → Beside i s t → (gs rs : List Form) → list_any (form_has i) gs ≡ false → each_replaced f i c gs ≡ Some rs →
    AllByRecursion (λ r. P (form_value r s)) rs → AllByRecursion (λ r. P (form_value r t)) rs
made_beside P f i c s t h gs rs lacks e k = all_made P f i c t gs rs e (beside_each P f i c s t h gs lacks (made_all P f i c s gs rs e k))

-- forms of a list that do not name the symbol
pub others_beside : (P : ℤ → Type 0) (i : ℕ) (s t : Symbols) → Beside i s t → (fs : List Form) → AllByRecursion (λ f. P (form_value f s)) (not_naming i fs) → AllByRecursion (λ f. P (form_value f t)) (not_naming i fs)
others_beside P i s t h [] k = tt
others_beside P i s t h (f ∷ fs) k = of (form_has i f) refl (others_beside P i s t h fs) k
  where
    of : (w : Bool) → form_has i f ≡ w → (AllByRecursion (λ f. P (form_value f s)) (not_naming i fs) → AllByRecursion (λ f. P (form_value f t)) (not_naming i fs)) →
        AllByRecursion (λ f. P (form_value f s)) (if not w then f ∷ not_naming i fs else not_naming i fs) →
        AllByRecursion (λ f. P (form_value f t)) (if not w then f ∷ not_naming i fs else not_naming i fs)
    of true e rest k = rest k
    of false e rest k = (subst P (sym (beside_value f i s t h e)) k.0, rest k.1)

-- forms with the same terms differ by their constants
pub same_terms_sum : (ts us : List Multiple) (v : ℕ → ℤ) → same_terms ts us ≡ true → sum_of ts v ≡ sum_of us v
same_terms_sum [] [] v h = refl
same_terms_sum [] (u ∷ us) v h = absurd (cc h)
same_terms_sum (t ∷ ts) [] v h = absurd (cc h)
same_terms_sum (t ∷ ts) (u ∷ us) v h =
    let a = and_parts ((t.symbol == u.symbol) && int_eq t.factor u.factor) (same_terms ts us) h in
    let b = and_parts (t.symbol == u.symbol) (int_eq t.factor u.factor) a.0 in
    let symbols : t.symbol ≡ u.symbol = eq_true t.symbol u.symbol b.0 in
    let factors : t.factor ≡ u.factor = number_true t.factor u.factor b.1 in
    ap (λ c. c *ℤ v t.symbol +ℤ sum_of ts v) factors ∙ ap (λ j. u.factor *ℤ v j +ℤ sum_of ts v) symbols ∙ ap (λ r. u.factor *ℤ v u.symbol +ℤ r) (same_terms_sum ts us v a.1)

pub int_le_true : (a b : ℤ) → int_le a b ≡ true → a ≤ℤ b
int_le_true a b h = grind (ints, arith)
