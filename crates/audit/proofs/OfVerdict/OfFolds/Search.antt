-- Bounds of forms whose constants are small: where a form is less by so much, so is its bound.
use Rattle.std.proofs.Common.{◌≡◌, ◌≢◌, ℕ, zero, suc, ◌+◌, ◌-◌, ◌*◌, ◌≤◌, ◌<◌, ◌^◌, Bool, true, false, List, [], ◌∷◌, map, length, Option, Some, None, refl, sym, ap, ◌∙◌, subst, arith, mul-le-mul}
use Rattle.std.specs.Prelude.{ℤ, pos, negsuc, ◌+ℤ◌, ◌-ℤ◌, ◌*ℤ◌, ◌≤ℤ◌, ◌&&◌, if◌then◌else◌, nat_le, nat_lt, not, fold, IsTrue, option_and_then, slice_get, ◌==◌}
use Rattle.std.specs.List.{AllByRecursion, list_all}
use Rattle.std.specs.Option.{option_map_or}
use Rattle.std.specs.Int.{int_min, int_max}
use Rattle.std.specs.Int.RustNames.{unsigned_abs}
use Rattle.std.proofs.lemmas.Bool.{leb-true, ltb-true, le-leb}
use Rattle.std.proofs.lemmas.Int.{ints, clamps, unsigned_abs-mul}
use Rattle.lin.specs.Forms.{Form, IsCanonical, combined, factor_of, is_within_limits, is_zero, plus_multiple, plus_terms, without}
use Rattle.lin.specs.Search.{any_may_be, at_most, candidates, is_at_most_zero, is_empty, least, pick, replaced, replacements, result_at, sup, that_counts, total, total_at}
use Rattle.lin.specs.declared.form.Multiple.{Multiple}
use Rattle.lin.specs.declared.scope.Binding.{Binding}
use Rattle.lin.proofs.Limits.{combined-means, within_limits-terms}
use Rattle.lin.proofs.TermLemmas.{factor_of-within, filter-canonical, plus_terms-canonical}
use Rattle.rules.specs.Bounding.Scopes.{most_symbols}
use Rattle.audit.specs.Verdict.Folds.{symbols_rise, is_small_form, together, IsLittle}

both_parts : (v w : Bool) → (v && w) ≡ true → (v ≡ true) × (w ≡ true)
both_parts true w h = (refl, h)
both_parts false w h = absurd (cc h)

-- ---- numbers

-- less by so much
abbrev down : ℕ → Option ℤ → Option ℤ
down k None = None
down k (Some z) = Some (z -ℤ pos k)

abbrev less : ℕ → Form → Form
less k f = record { constant = f.constant -ℤ pos k; terms = f.terms }

abbrev if_less : ℕ → Option Form → Option Form
if_less k None = None
if_less k (Some f) = Some (less k f)

min_less : (x y : ℤ) (k : ℕ) → int_min (x -ℤ pos k) (y -ℤ pos k) ≡ int_min x y -ℤ pos k
min_less x y k = omega (arith, ints, clamps)

max_less : (x y : ℤ) (k : ℕ) → int_max (x -ℤ pos k) (y -ℤ pos k) ≡ int_max x y -ℤ pos k
max_less x y k = omega (arith, ints, clamps)

pick_less : (k : ℕ) (b : Bool) (x y : Option ℤ) → pick b (down k x) (down k y) ≡ down k (pick b x y)
pick_less k true None y = refl
pick_less k true (Some x) None = refl
pick_less k true (Some x) (Some y) = ap Some (max_less x y k)
pick_less k false None None = refl
pick_less k false None (Some y) = refl
pick_less k false (Some x) None = refl
pick_less k false (Some x) (Some y) = ap Some (min_less x y k)

fold_less : (k : ℕ) (b : Bool) (x : Option ℤ) (xs : List (Option ℤ)) → fold (pick b) (down k x) (map (down k) xs) ≡ down k (fold (pick b) x xs)
fold_less k b x [] = refl
fold_less k b x (y ∷ ys) = (λ j. fold (pick b) (pick_less k b x y j) (map (down k) ys)) ∙ fold_less k b (pick b x y) ys

counts_less : (k : ℕ) (b : Bool) (xs : List (Option ℤ)) → that_counts b (map (down k) xs) ≡ down k (that_counts b xs)
counts_less k b [] = refl
counts_less k b (x ∷ xs) = fold_less k b x xs

still : (z : ℤ) → z ≤ℤ pos 0 → is_at_most_zero (Some z) ≡ true
still (pos zero) h = refl
still (pos (suc n)) h = absurd (omega (arith, ints, h))
still (negsuc n) h = refl

zero_less : (k : ℕ) (o : Option ℤ) → is_at_most_zero o ≡ true → is_at_most_zero (down k o) ≡ true
zero_less k None h = absurd (cc h)
zero_less k (Some (pos (suc n))) h = absurd (cc h)
zero_less k (Some (pos zero)) h = still (pos zero -ℤ pos k) (omega (arith, ints))
zero_less k (Some (negsuc n)) h = still (negsuc n -ℤ pos k) (omega (arith, ints))

-- ---- limits

le_true : (m n : ℕ) → m ≤ n → nat_le m n ≡ true
le_true m n h = le-leb m n h

-- constants within the limit change nothing of the others
limits_same : (ts : List Multiple) (y z : ℤ) → unsigned_abs y ≤ 2 ^ 40 → unsigned_abs z ≤ 2 ^ 40 →
    is_within_limits (record { constant = y; terms = ts }) ≡ is_within_limits (record { constant = z; terms = ts })
limits_same ts y z h k =
    let e = le_true (unsigned_abs y) (2 ^ 40) h ∙ sym (le_true (unsigned_abs z) (2 ^ 40) k) in
    λ j. nat_le (length ts) 8 && list_all (λ (t : Multiple). nat_le (unsigned_abs t.factor) (2 ^ 20)) ts && e j

if_same : (k : ℕ) (v : Bool) (f g : Form) → g ≡ less k f → (if v then Some g else None) ≡ if_less k (if v then Some f else None)
if_same k true f g e = ap Some e
if_same k false f g e = refl

combined_less : (k : ℕ) (w : Form) (c : ℤ) (o : Form) → unsigned_abs w.constant + k ≤ 2 ^ 40 → unsigned_abs (w.constant +ℤ c *ℤ o.constant) + k ≤ 2 ^ 40 →
    combined (less k w) c o ≡ if_less k (combined w c o)
combined_less k w c o h i =
    let x = c *ℤ o.constant in
    let made : (w.constant -ℤ pos k) +ℤ x ≡ (w.constant +ℤ x) -ℤ pos k = moved w.constant x k in
    let first = limits_same w.terms (w.constant -ℤ pos k) w.constant (near w.constant k h) (at_least w.constant k h) in
    let sum = ap (λ (z : ℤ). is_within_limits (record { constant = z; terms = plus_terms w.terms c o.terms })) made
    ∙ limits_same (plus_terms w.terms c o.terms) ((w.constant +ℤ x) -ℤ pos k) (w.constant +ℤ x) (near (w.constant +ℤ x) k i) (at_least (w.constant +ℤ x) k i) in
    (λ j. if (first j && is_within_limits o) && sum j then Some (plus_multiple (less k w) c o) else None)
    ∙ if_same k ((is_within_limits w && is_within_limits o) && is_within_limits (plus_multiple w c o)) (plus_multiple w c o) (plus_multiple (less k w) c o)
    (λ j. record { constant = made j; terms = plus_terms w.terms c o.terms })
  where
    moved : (y x : ℤ) (k : ℕ) → (y -ℤ pos k) +ℤ x ≡ (y +ℤ x) -ℤ pos k
    moved y x k = omega (arith, ints)

    near : (y : ℤ) (k : ℕ) → unsigned_abs y + k ≤ 2 ^ 40 → unsigned_abs (y -ℤ pos k) ≤ 2 ^ 40
    near y k h = omega (arith, ints, h)

    at_least : (y : ℤ) (k : ℕ) → unsigned_abs y + k ≤ 2 ^ 40 → unsigned_abs y ≤ 2 ^ 40
    at_least y k h = omega (arith, h)

-- ---- what the search meets

-- a form that it meets where so many symbols are left, each of which moves the constant by at most 2^20 times what is allowed of it
record IsMet (most : ℕ → ℕ) (k n : ℕ) (f : Form) : Type 0 where
  canonical : IsCanonical f.terms
  within : IsTrue (is_within_limits f)
  near : unsigned_abs f.constant + k + 2 ^ 20 * together most n ≤ 2 ^ 40

abbrev IfMet : (ℕ → ℕ) → ℕ → ℕ → Option Form → Type 0
IfMet most k n None = Unit {0}
IfMet most k n (Some f) = IsMet most k n f

-- the forms that may stand in a symbol's place are small
abbrev pub AreSmall : ℕ → List Form → Type 0
AreSmall most fs = AllByRecursion (λ (f : Form). unsigned_abs f.constant ≤ most) fs

abbrev pub IsSmallScope : (ℕ → ℕ) → List Binding → Type 0
IsSmallScope most scope = (n : ℕ) (b : Binding) (c : ℤ) → slice_get scope n ≡ Some b → AreSmall (most n) (candidates b c)

product : (c z : ℤ) (most : ℕ) → unsigned_abs c ≤ 2 ^ 20 → unsigned_abs z ≤ most → unsigned_abs (c *ℤ z) ≤ 2 ^ 20 * most
product c z most h i = subst (λ (m : ℕ). m ≤ 2 ^ 20 * most) (sym (unsigned_abs-mul c z)) (mul-le-mul h i)

factor_near : (most : ℕ → ℕ) (k n : ℕ) (f : Form) (i : ℕ) → IsMet most k n f → unsigned_abs (factor_of f.terms i) ≤ 2 ^ 20
factor_near most k n f i met = factor_of-within (2 ^ 20) f.terms i met.canonical (within_limits-terms f met.within)

sum_near : (y x : ℤ) (k all own : ℕ) → unsigned_abs y + k + 2 ^ 20 * (all + own) ≤ 2 ^ 40 → unsigned_abs x ≤ 2 ^ 20 * own →
    unsigned_abs (y +ℤ x) + k + 2 ^ 20 * all ≤ 2 ^ 40
sum_near y x k all own h i = let e : unsigned_abs (y +ℤ x) ≤ unsigned_abs y + unsigned_abs x = omega (arith, ints) in omega (arith, h, i, e)

less_near : (y k all own : ℕ) → y + k + 2 ^ 20 * (all + own) ≤ 2 ^ 40 → y + k + 2 ^ 20 * all ≤ 2 ^ 40
less_near y k all own h = omega (arith, h)

fewer : (most : ℕ → ℕ) (k n : ℕ) (f : Form) → IsMet most k (suc n) f → IsMet most k n f
fewer most k n f met =
    record { canonical = met.canonical; within = met.within; near = less_near (unsigned_abs f.constant) k (together most n) (most n) met.near }

-- what is left of it for the constant alone
alone : (y k all : ℕ) → y + k + all ≤ 2 ^ 40 → y + k ≤ 2 ^ 40
alone y k all h = omega (arith, h)

-- what is allowed of more symbols is no less
rises_by : (most : ℕ → ℕ) (d n m : ℕ) → m ≡ d + n → together most n ≤ together most m
rises_by most zero n m e =
    let same : n ≡ m = omega (arith, e) in
    let le : together most n ≤ together most n = omega arith in
    subst (λ (j : ℕ). together most n ≤ together most j) same le
rises_by most (suc d) n m e =
    let same : suc (d + n) ≡ m = omega (arith, e) in
    let less : together most n ≤ together most (d + n) = rises_by most d n (d + n) refl in
    subst (λ (j : ℕ). together most n ≤ together most j) same (onwards (together most n) (together most (d + n)) (most (d + n)) less)
  where
    onwards : (a b c : ℕ) → a ≤ b → a ≤ b + c
    onwards a b c h = omega (arith, h)

rises_to : (most : ℕ → ℕ) (n m : ℕ) → n ≤ m → together most n ≤ together most m
rises_to most n m le = let e : m ≡ (m - n) + n = omega (arith, le) in rises_by most (m - n) n m e

-- 4095 for each of 256 symbols
alike : (c n : ℕ) → together (λ i. c) n ≡ n * c
alike c zero = let e : 0 * c ≡ 0 = omega arith in sym e
alike c (suc n) = let e : n * c + c ≡ suc n * c = omega arith in ap (λ (m : ℕ). m + c) (alike c n) ∙ e

pub alike_little : IsLittle (λ i. 4095)
alike_little = let le : 256 * 4095 ≤ 2 ^ 20 - 8 = omega arith in subst (λ (m : ℕ). m ≤ 2 ^ 20 - 8) (sym (alike 4095 256)) le

module _ (most : ℕ → ℕ) (k n : ℕ) (f o : Form) (met : IsMet most k (suc n) f) (small : unsigned_abs o.constant ≤ most n) where
  abbrev c : ℤ
  c = factor_of f.terms n

  moved_by : unsigned_abs (c *ℤ o.constant) ≤ 2 ^ 20 * most n
  moved_by = product c o.constant (most n) (factor_near most k (suc n) f n met) small

  near_sum : unsigned_abs (f.constant +ℤ c *ℤ o.constant) + k + 2 ^ 20 * together most n ≤ 2 ^ 40
  near_sum = sum_near f.constant (c *ℤ o.constant) k (together most n) (most n) met.near moved_by

  next_is_met : (made : Option Form) → replaced f n c o ≡ made → IfMet most k n made
  next_is_met None e = tt
  next_is_met (Some next) e =
      let made = combined-means (without f n) c o next e in
      record {
        canonical = subst (λ (g : Form). IsCanonical g.terms) (sym made.is)
            (plus_terms-canonical (without f n).terms c o.terms (filter-canonical (λ t. not (t.symbol == n)) f.terms met.canonical));
        within = made.within;
        near = subst (λ (g : Form). unsigned_abs g.constant + k + 2 ^ 20 * together most n ≤ 2 ^ 40) (sym made.is) near_sum;
      }

  replaced_less : replaced (less k f) n c o ≡ if_less k (replaced f n c o)
  replaced_less =
      combined_less k (without f n) c o (alone (unsigned_abs f.constant) k (2 ^ 20 * together most (suc n)) met.near)
      (alone (unsigned_abs (f.constant +ℤ c *ℤ o.constant)) k (2 ^ 20 * together most n) near_sum)

-- ---- the search

if_down : (k : ℕ) (v : Bool) (x y a b : Option ℤ) → x ≡ down k a → y ≡ down k b → (if v then x else y) ≡ down k (if v then a else b)
if_down k true x y a b e f = e
if_down k false x y a b e f = f

number_less : (k : ℕ) (z : ℤ) (v : Bool) → (if v then Some (z -ℤ pos k) else None) ≡ down k (if v then Some z else None)
number_less k z true = refl
number_less k z false = refl

module _ (most : ℕ → ℕ) (scope : List Binding) (small : IsSmallScope most scope) (k : ℕ) where
  bound_less : (n : ℕ) (o : Option Form) → IfMet most k n o → ((g : Form) → IsMet most k n g → least scope n (less k g) ≡ down k (least scope n g)) →
      option_and_then (λ next. least scope n next) (if_less k o) ≡ down k (option_and_then (λ next. least scope n next) o)
  bound_less n None met ih = refl
  bound_less n (Some g) met ih = ih g met

  branches_less : (n : ℕ) (f : Form) → IsMet most k (suc n) f → ((g : Form) → IsMet most k n g → least scope n (less k g) ≡ down k (least scope n g)) → (fs : List Form) → AreSmall (most n) fs →
      map (λ other. option_and_then (λ next. least scope n next) (replaced (less k f) n (factor_of f.terms n) other)) fs
      ≡ map (down k) (map (λ other. option_and_then (λ next. least scope n next) (replaced f n (factor_of f.terms n) other)) fs)
  branches_less n f met ih [] all = refl
  branches_less n f met ih (o ∷ os) all =
      let made = replaced f n (factor_of f.terms n) o in
      let one = ap (option_and_then (λ next. least scope n next)) (replaced_less most k n f o met all.0) ∙ bound_less n made (next_is_met most k n f o met all.0 made refl) ih in
      λ j. one j ∷ branches_less n f met ih os all.1 j

  result_less : (n : ℕ) (f : Form) → IsMet most k (suc n) f → ((g : Form) → IsMet most k n g → least scope n (less k g) ≡ down k (least scope n g)) → (o : Option Binding) → slice_get scope n ≡ o →
      result_at o (factor_of f.terms n) (λ other. option_and_then (λ next. least scope n next) (replaced (less k f) n (factor_of f.terms n) other))
      ≡ down k (result_at o (factor_of f.terms n) (λ other. option_and_then (λ next. least scope n next) (replaced f n (factor_of f.terms n) other)))
  result_less n f met ih None e = refl
  result_less n f met ih (Some b) e =
      let c = factor_of f.terms n in
      ap (that_counts (any_may_be b c)) (branches_less n f met ih (candidates b c) (small n b c e))
      ∙ counts_less k (any_may_be b c) (map (λ other. option_and_then (λ next. least scope n next) (replaced f n c other)) (candidates b c))

  least_less : (n : ℕ) (f : Form) → IsMet most k n f → least scope n (less k f) ≡ down k (least scope n f)
  least_less zero f met = number_less k f.constant (is_empty f.terms)
  least_less (suc n) f met =
      let c = factor_of f.terms n in
      if_down k (is_zero c) (least scope n (less k f))
      (result_at (slice_get scope n) c (λ other. option_and_then (λ next. least scope n next) (replaced (less k f) n c other)))
      (least scope n f) (result_at (slice_get scope n) c (λ other. option_and_then (λ next. least scope n next) (replaced f n c other)))
      (least_less n f (fewer most k n f met)) (result_less n f met (λ g good. least_less n g good) (slice_get scope n) refl)

  -- ---- how many replacements there are

  cost_less : (n : ℕ) (o : Option Form) → IfMet most k n o → ((g : Form) → IsMet most k n g → replacements scope n (less k g) ≡ replacements scope n g) →
      option_map_or (λ next. replacements scope n next) (if_less k o) 0 ≡ option_map_or (λ next. replacements scope n next) o 0
  cost_less n None met ih = refl
  cost_less n (Some g) met ih = ih g met

  costs_less : (n : ℕ) (f : Form) → IsMet most k (suc n) f → ((g : Form) → IsMet most k n g → replacements scope n (less k g) ≡ replacements scope n g) → (fs : List Form) → AreSmall (most n) fs →
      total (λ other. suc (option_map_or (λ next. replacements scope n next) (replaced (less k f) n (factor_of f.terms n) other) 0)) fs
      ≡ total (λ other. suc (option_map_or (λ next. replacements scope n next) (replaced f n (factor_of f.terms n) other) 0)) fs
  costs_less n f met ih [] all = refl
  costs_less n f met ih (o ∷ os) all =
      let made = replaced f n (factor_of f.terms n) o in
      let one = ap (λ (m : Option Form). option_map_or (λ next. replacements scope n next) m 0) (replaced_less most k n f o met all.0)
      ∙ cost_less n made (next_is_met most k n f o met all.0 made refl) ih in
      λ j. suc (one j) + costs_less n f met ih os all.1 j

  total_less : (n : ℕ) (f : Form) → IsMet most k (suc n) f → ((g : Form) → IsMet most k n g → replacements scope n (less k g) ≡ replacements scope n g) → (o : Option Binding) → slice_get scope n ≡ o →
      total_at o (factor_of f.terms n) (λ other. suc (option_map_or (λ next. replacements scope n next) (replaced (less k f) n (factor_of f.terms n) other) 0))
      ≡ total_at o (factor_of f.terms n) (λ other. suc (option_map_or (λ next. replacements scope n next) (replaced f n (factor_of f.terms n) other) 0))
  total_less n f met ih None e = refl
  total_less n f met ih (Some b) e = costs_less n f met ih (candidates b (factor_of f.terms n)) (small n b (factor_of f.terms n) e)

  replacements_less : (n : ℕ) (f : Form) → IsMet most k n f → replacements scope n (less k f) ≡ replacements scope n f
  replacements_less zero f met = refl
  replacements_less (suc n) f met =
      let one = replacements_less n f (fewer most k n f met) in
      let two = total_less n f met (λ g good. replacements_less n g good) (slice_get scope n) refl in
      λ j. if is_zero (factor_of f.terms n) then one j else two j

  sup_less : (f : Form) → IsMet most k (length scope) f → sup scope (less k f) ≡ down k (sup scope f)
  sup_less f met =
      let near = alone (unsigned_abs f.constant) k (2 ^ 20 * together most (length scope)) met.near in
      let within = limits_same f.terms (f.constant -ℤ pos k) f.constant (omega (arith, ints, near)) (omega (arith, near)) in
      (λ j. if within j && nat_le (replacements_less (length scope) f met j) 4096 then least_less (length scope) f met j else None)
      ∙ if_none (is_within_limits f && nat_le (replacements scope (length scope) f) 4096) (least scope (length scope) f)
    where
      if_none : (v : Bool) (o : Option ℤ) → (if v then down k o else None) ≡ down k (if v then o else None)
      if_none true o = refl
      if_none false o = refl

-- ---- small forms

not_zero : (z : ℤ) → not (is_zero z) ≡ true → z ≢ pos 0
not_zero z h e = let no : false ≡ true = sym (ap (λ (z : ℤ). not (is_zero z)) e) ∙ h in absurd (cc no)

all_below : (s : ℕ) (ts : List Multiple) → list_all (λ (u : Multiple). nat_lt s u.symbol) ts ≡ true → AllByRecursion (λ (u : Multiple). s < u.symbol) ts
all_below s [] h = tt
all_below s (t ∷ ts) h =
    let parts = both_parts (nat_lt s t.symbol) (list_all (λ (u : Multiple). nat_lt s u.symbol) ts) h in (ltb-true s t.symbol parts.0, all_below s ts parts.1)

canonical : (ts : List Multiple) → symbols_rise ts ≡ true → IsCanonical ts
canonical [] h = tt
canonical (t ∷ ts) h =
    let below = list_all (λ (u : Multiple). nat_lt t.symbol u.symbol) ts in
    let parts = both_parts (not (is_zero t.factor)) (below && symbols_rise ts) h in
    let rest = both_parts below (symbols_rise ts) parts.1 in
    (not_zero t.factor parts.0, all_below t.symbol ts rest.0, canonical ts rest.1)

-- so many numbers from a form on, and more
module _ (most : ℕ → ℕ) (little : IsLittle most) (scope : List Binding) (small : IsSmallScope most scope) (few : length scope ≤ most_symbols) (a l : Form) (n k : ℕ)
    (first : is_small_form a ≡ true) (second : is_small_form l ≡ true) (room : n + k ≤ 2 ^ 22) where
  abbrev last : ℕ → Form
  last m = record { constant = l.constant +ℤ (pos m -ℤ pos 1); terms = l.terms }

  abbrev minus : ℤ
  minus = negsuc 0

  upper_near : unsigned_abs a.constant ≤ 2 ^ 20
  upper_near = leb-true (unsigned_abs a.constant) (2 ^ 20) (both_parts (symbols_rise a.terms) (nat_le (unsigned_abs a.constant) (2 ^ 20)) first).1

  lower_near : unsigned_abs l.constant ≤ 2 ^ 20
  lower_near = leb-true (unsigned_abs l.constant) (2 ^ 20) (both_parts (symbols_rise l.terms) (nat_le (unsigned_abs l.constant) (2 ^ 20)) second).1

  difference : (y z : ℤ) (n k : ℕ) → y +ℤ negsuc 0 *ℤ (z +ℤ (pos (n + k) -ℤ pos 1)) ≡ (y +ℤ negsuc 0 *ℤ (z +ℤ (pos n -ℤ pos 1))) -ℤ pos k
  difference y z n k = omega (arith, ints)

  near_difference : (y z : ℤ) (n k : ℕ) → unsigned_abs y ≤ 2 ^ 20 → unsigned_abs z ≤ 2 ^ 20 → n + k ≤ 2 ^ 22 → unsigned_abs (y +ℤ negsuc 0 *ℤ (z +ℤ (pos n -ℤ pos 1))) + k ≤ 2 ^ 23
  near_difference y z n k h i m = omega (arith, ints, h, i, m)

  near_last : (z : ℤ) (n : ℕ) → unsigned_abs z ≤ 2 ^ 20 → n ≤ 2 ^ 22 → unsigned_abs (z +ℤ (pos n -ℤ pos 1)) ≤ 2 ^ 40
  near_last z n h m = omega (arith, ints, h, m)

  combined_last : combined a minus (last (n + k)) ≡ if_less k (combined a minus (last n))
  combined_last =
      let e = difference a.constant l.constant n k in
      let near = near_difference a.constant l.constant n k upper_near lower_near room in
      let y = a.constant +ℤ minus *ℤ (last n).constant in
      let one = limits_same l.terms (last (n + k)).constant (last n).constant (near_last l.constant (n + k) lower_near room) (near_last l.constant n lower_near (omega (arith, room))) in
      let two = ap (λ (z : ℤ). is_within_limits (record { constant = z; terms = plus_terms a.terms minus l.terms })) e
      ∙ limits_same (plus_terms a.terms minus l.terms) (y -ℤ pos k) y (omega (arith, ints, near)) (omega (arith, near)) in
      (λ j. if (is_within_limits a && one j) && two j then Some (plus_multiple a minus (last (n + k))) else None)
      ∙ if_same k ((is_within_limits a && is_within_limits (last n)) && is_within_limits (plus_multiple a minus (last n))) (plus_multiple a minus (last n)) (plus_multiple a minus (last (n + k)))
      (λ j. record { constant = e j; terms = plus_terms a.terms minus l.terms })

  met_first : (o : Option Form) → combined a minus (last n) ≡ o → IfMet most k (length scope) o
  met_first None e = tt
  met_first (Some d) e =
      let made = combined-means a minus (last n) d e in
      let near = near_difference a.constant l.constant n k upper_near lower_near room in
      record {
        canonical = subst (λ (g : Form). IsCanonical g.terms) (sym made.is)
            (plus_terms-canonical a.terms minus l.terms (canonical a.terms (both_parts (symbols_rise a.terms) (nat_le (unsigned_abs a.constant) (2 ^ 20)) first).0));
        within = made.within;
        near = subst (λ (g : Form). unsigned_abs g.constant + k + 2 ^ 20 * together most (length scope) ≤ 2 ^ 40) (sym made.is)
            (all_near (unsigned_abs (a.constant +ℤ minus *ℤ (last n).constant)) k (together most (length scope)) (together most most_symbols) near
            (rises_to most (length scope) most_symbols few) little);
      }
    where
      all_near : (x k own all : ℕ) → x + k ≤ 2 ^ 23 → own ≤ all → all ≤ 2 ^ 20 - 8 → x + k + 2 ^ 20 * own ≤ 2 ^ 40
      all_near x k own all h i j = omega (arith, h, i, j)

  shown_last : (o : Option Form) → IfMet most k (length scope) o → is_at_most_zero (option_and_then (λ d. sup scope d) o) ≡ true →
      is_at_most_zero (option_and_then (λ d. sup scope d) (if_less k o)) ≡ true
  shown_last None met h = h
  shown_last (Some d) met h = ap is_at_most_zero (sup_less most scope small k d met) ∙ zero_less k (sup scope d) h

  pub at_most_last : at_most scope a (last n) ≡ true → at_most scope a (last (n + k)) ≡ true
  at_most_last h =
      let o = combined a minus (last n) in
      ap (λ (o : Option Form). is_at_most_zero (option_and_then (λ d. sup scope d) o)) combined_last ∙ shown_last o (met_first o refl) h
