-- Forms, spans and regions between two corners of a box of grid points.
use Rattle.std.proofs.Common.{◌≡◌, ℕ, zero, suc, ◌+◌, ◌-◌, ◌*◌, ◌<◌, ◌≤◌, ◌^◌, List, [], ◌∷◌, ◌++◌, length, take, drop, map, fold, get_or, ap, refl, sym, ◌∙◌, subst, arith, Bool, true, false, cond, T}
use Rattle.std.specs.Prelude.{ℤ, pos, negsuc, ◌+ℤ◌, ◌-ℤ◌, ◌*ℤ◌, ◌≤ℤ◌, ◌<ℤ◌, int_le, ◌==◌, if◌then◌else◌, IsTrue, flat_map}
use Rattle.std.specs.Int.{int_max, int_min}
use Rattle.std.specs.List.{AllByRecursion}
use Rattle.std.proofs.lemmas.Bool.{leb-false}
use Rattle.std.proofs.lemmas.Bool.Decides.{nat_tests}
use Rattle.std.proofs.lemmas.Int.{ints, clamps}
use Rattle.lin.specs.Forms.{Form, sum_of, AreWithin, IsWithin, is_within_limits}
use Rattle.lin.specs.declared.form.Multiple.{Multiple}
use Rattle.lin.specs.declared.span.Span1.{Span1}
use Rattle.lin.proofs.Limits.{within_limits-terms, within_limits-constant, within_limits-few}
use Rattle.lin.proofs.Machine.{product_within, sum_within}
use Rattle.numeric.proofs.Ints.{multiply_order, multiply_order_negative}
use Rattle.plan.specs.Symbols.{Symbols, clipped, form_value, largest, points, rising, smallest, turns}
use Rattle.plan.specs.Certificate.Cells.{grid_value, grid_symbols}
use Rattle.shares.specs.Boxes.{IsSmall}
use Rattle.shares.specs.Corners.{IsBetween, corner_sum, corner_value, end_value}
use Rattle.shares.proofs.Summing.{rest_of}
use Rattle.shares.proofs.Values.{value_small}

-- ---- sizes

end_small : (up down : List ℕ) (t : Multiple) → IsSmall up → IsSmall down → IsWithin (2 ^ 20) (end_value up down t)
end_small up down t h k = of (int_le (pos 0) t.factor)
  where
    of : (b : Bool) → IsWithin (2 ^ 20) (grid_value (if b then up else down) t.symbol)
    of true = value_small up t.symbol h
    of false = value_small down t.symbol k

corner_sum_small : (up down : List ℕ) (ts : List Multiple) → IsSmall up → IsSmall down → AreWithin (2 ^ 20) ts → IsWithin (length ts * 2 ^ 40) (corner_sum up down ts)
corner_sum_small up down [] h k l = omega arith
corner_sum_small up down (t ∷ ts) h k l =
    let product : IsWithin (2 ^ 40) (t.factor *ℤ end_value up down t) = product_within (2 ^ 20) (2 ^ 20) t.factor (end_value up down t) l.0 (end_small up down t h k) in
    let whole = sum_within (2 ^ 40) (length ts * 2 ^ 40) (t.factor *ℤ end_value up down t) (corner_sum up down ts) product (corner_sum_small up down ts h k l.1) in
    omega (arith, whole)

pub corner_small : (up down : List ℕ) (f : Form) → IsSmall up → IsSmall down → IsTrue (is_within_limits f) → IsWithin (2 ^ 44) (corner_value up down f)
corner_small up down f h k l =
    let sum = corner_sum_small up down f.terms h k (within_limits-terms f l) in
    let few = within_limits-few f l in
    let whole = sum_within (2 ^ 40) (length f.terms * 2 ^ 40) f.constant (corner_sum up down f.terms) (within_limits-constant f l) sum in
    omega (arith, whole, few)

pub corner_first : (up down : List ℕ) (ts : List Multiple) (d : Multiple) → 1 ≤ length ts →
    corner_sum up down ts ≡ (get_or ts 0 d).factor *ℤ end_value up down (get_or ts 0 d) +ℤ corner_sum up down (take (length ts - 1) (drop 1 ts))
corner_first up down [] d h = absurd (omega (arith, h))
corner_first up down (t ∷ ts) d h = ap (λ (us : List Multiple). t.factor *ℤ end_value up down t +ℤ corner_sum up down us) (sym (rest_of t ts))

-- ---- bounds of a form

number_value : (at : List ℕ) (i : ℕ) → grid_value at i ≡ pos (get_or at i 0)
number_value [] i = refl
number_value (x ∷ xs) zero = refl
number_value (x ∷ xs) (suc i) = number_value xs i

value_le : (a b : List ℕ) (i : ℕ) → get_or a i 0 ≤ get_or b i 0 → grid_value a i ≤ℤ grid_value b i
value_le a b i h = rw (number_value a i, number_value b i) (omega (arith, ints, h))

sum_mono : (a b c d : ℤ) → a ≤ℤ b → c ≤ℤ d → (a +ℤ c) ≤ℤ (b +ℤ d)
sum_mono a b c d h k = omega (arith, ints, h, k)

chain : (a b c : ℤ) → a ≤ℤ b → b ≤ℤ c → a ≤ℤ c
chain a b c h k = omega (arith, ints, h, k)

is_so : (t : Bool) → T t → t ≡ true
is_so true h = refl
is_so false h = absurd h

zero_le : (n : ℕ) → int_le (pos 0) (pos n) ≡ true
zero_le n = let h : pos 0 ≤ℤ pos n = omega (arith, ints) in is_so (int_le (pos 0) (pos n)) h.le

pub le_false : (x y : ℤ) → int_le x y ≡ false → y <ℤ x
le_false (pos a) (pos b) e = omega (arith, ints, leb-false a b e)
le_false (pos a) (negsuc b) e = omega (arith, ints)
le_false (negsuc a) (pos b) e = absurd (cc)
le_false (negsuc a) (negsuc b) e = omega (arith, ints, leb-false b a e)

module _ (low high at : List ℕ) (between : IsBetween low high at) where
  -- of one multiple
  pub end_above : (f : ℤ) (i : ℕ) → (f *ℤ grid_value at i) ≤ℤ (f *ℤ grid_value (if int_le (pos 0) f then high else low) i)
  end_above (pos n) i =
      subst (λ (b : Bool). (pos n *ℤ grid_value at i) ≤ℤ (pos n *ℤ grid_value (if b then high else low) i)) (sym (zero_le n))
      (multiply_order (pos n) (grid_value at i) (grid_value high i) (omega (arith, ints)) (value_le at high i (between i).1))
  end_above (negsuc n) i = multiply_order_negative (negsuc n) (grid_value low i) (grid_value at i) (omega (arith, ints)) (value_le low at i (between i).0)

  end_below : (f : ℤ) (i : ℕ) → (f *ℤ grid_value (if int_le (pos 0) f then low else high) i) ≤ℤ (f *ℤ grid_value at i)
  end_below (pos n) i =
      subst (λ (b : Bool). (pos n *ℤ grid_value (if b then low else high) i) ≤ℤ (pos n *ℤ grid_value at i)) (sym (zero_le n))
      (multiply_order (pos n) (grid_value low i) (grid_value at i) (omega (arith, ints)) (value_le low at i (between i).0))
  end_below (negsuc n) i = multiply_order_negative (negsuc n) (grid_value at i) (grid_value high i) (omega (arith, ints)) (value_le at high i (between i).1)

  abbrev S : Symbols
  S = grid_symbols at

  sum_above : (ts : List Multiple) → sum_of ts S.value ≤ℤ corner_sum high low ts
  sum_above [] = omega (arith, ints)
  sum_above (t ∷ ts) = sum_mono (t.factor *ℤ grid_value at t.symbol) (t.factor *ℤ end_value high low t) (sum_of ts S.value) (corner_sum high low ts) (end_above t.factor t.symbol) (sum_above ts)

  sum_below : (ts : List Multiple) → corner_sum low high ts ≤ℤ sum_of ts S.value
  sum_below [] = omega (arith, ints)
  sum_below (t ∷ ts) = sum_mono (t.factor *ℤ end_value low high t) (t.factor *ℤ grid_value at t.symbol) (corner_sum low high ts) (sum_of ts S.value) (end_below t.factor t.symbol) (sum_below ts)

  form_above : (f : Form) → form_value f S ≤ℤ corner_value high low f
  form_above f = sum_mono f.constant f.constant (sum_of f.terms S.value) (corner_sum high low f.terms) (omega (arith, ints)) (sum_above f.terms)

  form_below : (f : Form) → corner_value low high f ≤ℤ form_value f S
  form_below f = sum_mono f.constant f.constant (corner_sum low high f.terms) (sum_of f.terms S.value) (omega (arith, ints)) (sum_below f.terms)

-- ---- the largest and the smallest of forms

module _ (s : Symbols) where
  fold_max_least : (a b : ℤ) → a ≤ℤ b → (fs : List Form) → a ≤ℤ fold int_max b (map (λ m. form_value m s) fs)
  fold_max_least a b h [] = h
  fold_max_least a b h (f ∷ fs) = fold_max_least a (int_max b (form_value f s)) (let v = form_value f s in omega (arith, ints, clamps, h)) fs

  fold_max_has : (b : ℤ) (fs : List Form) (k : ℕ) (d : Form) → k < length fs → form_value (get_or fs k d) s ≤ℤ fold int_max b (map (λ m. form_value m s) fs)
  fold_max_has b [] k d less = absurd (omega (arith, less))
  fold_max_has b (f ∷ fs) zero d less = fold_max_least (form_value f s) (int_max b (form_value f s)) (omega (arith, ints, clamps)) fs
  fold_max_has b (f ∷ fs) (suc k) d less = fold_max_has (int_max b (form_value f s)) fs k d (omega (arith, less))

  fold_min_most : (a b : ℤ) → b ≤ℤ a → (fs : List Form) → fold int_min b (map (λ m. form_value m s) fs) ≤ℤ a
  fold_min_most a b h [] = h
  fold_min_most a b h (f ∷ fs) = fold_min_most a (int_min b (form_value f s)) (let v = form_value f s in omega (arith, ints, clamps, h)) fs

  fold_min_has : (b : ℤ) (fs : List Form) (k : ℕ) (d : Form) → k < length fs → fold int_min b (map (λ m. form_value m s) fs) ≤ℤ form_value (get_or fs k d) s
  fold_min_has b [] k d less = absurd (omega (arith, less))
  fold_min_has b (f ∷ fs) zero d less = fold_min_most (form_value f s) (int_min b (form_value f s)) (omega (arith, ints, clamps)) fs
  fold_min_has b (f ∷ fs) (suc k) d less = fold_min_has (int_min b (form_value f s)) fs k d (omega (arith, less))

  pub largest_has : (fs : List Form) (k : ℕ) (d : Form) → k < length fs → form_value (get_or fs k d) s ≤ℤ largest s fs
  largest_has [] k d less = absurd (omega (arith, less))
  largest_has (f ∷ fs) zero d less = fold_max_least (form_value f s) (form_value f s) (omega (arith, ints)) fs
  largest_has (f ∷ fs) (suc k) d less = fold_max_has (form_value f s) fs k d (omega (arith, less))

  pub smallest_has : (fs : List Form) (k : ℕ) (d : Form) → k < length fs → smallest s fs ≤ℤ form_value (get_or fs k d) s
  smallest_has [] k d less = absurd (omega (arith, less))
  smallest_has (f ∷ fs) zero d less = fold_min_most (form_value f s) (form_value f s) (omega (arith, ints)) fs
  smallest_has (f ∷ fs) (suc k) d less = fold_min_has (form_value f s) fs k d (omega (arith, less))

max_most : (a b c : ℤ) → a ≤ℤ c → b ≤ℤ c → int_max a b ≤ℤ c
max_most a b c h k = omega (arith, ints, clamps, h, k)

min_least : (a b c : ℤ) → c ≤ℤ a → c ≤ℤ b → c ≤ℤ int_min a b
min_least a b c h k = omega (arith, ints, clamps, h, k)

module _ (s : Symbols) (z : ℤ) where
  fold_max_most : (b : ℤ) (fs : List Form) → b ≤ℤ z → AllByRecursion (λ f. form_value f s ≤ℤ z) fs → fold int_max b (map (λ m. form_value m s) fs) ≤ℤ z
  fold_max_most b [] h every = h
  fold_max_most b (f ∷ fs) h every = fold_max_most (int_max b (form_value f s)) fs (max_most b (form_value f s) z h every.0) every.1

  fold_min_least : (b : ℤ) (fs : List Form) → z ≤ℤ b → AllByRecursion (λ f. z ≤ℤ form_value f s) fs → z ≤ℤ fold int_min b (map (λ m. form_value m s) fs)
  fold_min_least b [] h every = h
  fold_min_least b (f ∷ fs) h every = fold_min_least (int_min b (form_value f s)) fs (min_least b (form_value f s) z h every.0) every.1

  -- of some forms none of which is more, or less, than a number
  pub largest_most : (fs : List Form) → 0 < length fs → AllByRecursion (λ f. form_value f s ≤ℤ z) fs → largest s fs ≤ℤ z
  largest_most [] some every = absurd (omega (arith, some))
  largest_most (f ∷ fs) some every = fold_max_most (form_value f s) fs every.0 every.1

  pub smallest_least : (fs : List Form) → 0 < length fs → AllByRecursion (λ f. z ≤ℤ form_value f s) fs → z ≤ℤ smallest s fs
  smallest_least [] some every = absurd (omega (arith, some))
  smallest_least (f ∷ fs) some every = fold_min_least (form_value f s) fs every.0 every.1

zero_if : (n : ℕ) (b : Bool) → b ≡ (n == 0) → b ≡ true → n ≡ 0
zero_if n b e is = let none : (n == 0) ≡ true = sym e ∙ is in grind (arith, nat_tests)

-- of none and none
largest_of_none : (s : Symbols) (fs gs : List Form) → length gs ≡ 0 → length fs ≡ 0 → largest s gs ≤ℤ largest s fs
largest_of_none s [] [] e f = omega (arith, ints)
largest_of_none s (x ∷ fs) [] e f = absurd (omega (arith, f))
largest_of_none s fs (g ∷ gs) e f = absurd (omega (arith, e))

smallest_of_none : (s : Symbols) (fs gs : List Form) → length gs ≡ 0 → length fs ≡ 0 → smallest s fs ≤ℤ smallest s gs
smallest_of_none s [] [] e f = omega (arith, ints)
smallest_of_none s (x ∷ fs) [] e f = absurd (omega (arith, f))
smallest_of_none s fs (g ∷ gs) e f = absurd (omega (arith, e))

pub largest_none : (s : Symbols) (fs gs : List Form) (b d : Bool) → b ≡ (length gs == 0) → b ≡ true → d ≡ (length fs == 0) → d ≡ true → largest s gs ≤ℤ largest s fs
largest_none s fs gs b d e is f also = largest_of_none s fs gs (zero_if (length gs) b e is) (zero_if (length fs) d f also)

pub smallest_none : (s : Symbols) (fs gs : List Form) (b d : Bool) → b ≡ (length gs == 0) → b ≡ true → d ≡ (length fs == 0) → d ≡ true → smallest s fs ≤ℤ smallest s gs
smallest_none s fs gs b d e is f also = smallest_of_none s fs gs (zero_if (length gs) b e is) (zero_if (length fs) d f also)

pub some_forms : (fs : List Form) (b : Bool) → b ≡ (length fs == 0) → b ≡ false → 0 < length fs
some_forms [] b e f = absurd (cc (sym e ∙ f))
some_forms (g ∷ fs) b e f = omega arith

abbrev pub IsLow : (low high : List ℕ) (fs : List Form) → ℤ → Type 0
IsLow low high fs z = (at : List ℕ) → IsBetween low high at → z ≤ℤ largest (grid_symbols at) fs

abbrev pub IsHigh : (low high : List ℕ) (fs : List Form) → ℤ → Type 0
IsHigh low high fs z = (at : List ℕ) → IsBetween low high at → smallest (grid_symbols at) fs ≤ℤ z

module _ (low high : List ℕ) (fs : List Form) where
  pub low_one : (k : ℕ) (d : Form) → k < length fs → d ≡ get_or fs k d → (z : ℤ) → z ≡ corner_value low high d → IsLow low high fs z
  low_one k d less is z e at between =
      let s = grid_symbols at in
      let below : corner_value low high d ≤ℤ form_value d s = form_below low high at between d in
      let has : form_value d s ≤ℤ largest s fs = subst (λ (f : Form). form_value f s ≤ℤ largest s fs) (sym is) (largest_has s fs k d less) in
      subst (λ (y : ℤ). y ≤ℤ largest s fs) (sym e) (chain (corner_value low high d) (form_value d s) (largest s fs) below has)

  pub high_one : (k : ℕ) (d : Form) → k < length fs → d ≡ get_or fs k d → (z : ℤ) → z ≡ corner_value high low d → IsHigh low high fs z
  high_one k d less is z e at between =
      let s = grid_symbols at in
      let above : form_value d s ≤ℤ corner_value high low d = form_above low high at between d in
      let has : smallest s fs ≤ℤ form_value d s = subst (λ (f : Form). smallest s fs ≤ℤ form_value f s) (sym is) (smallest_has s fs k d less) in
      subst (λ (y : ℤ). smallest s fs ≤ℤ y) (sym e) (chain (smallest s fs) (form_value d s) (corner_value high low d) has above)

  pub low_more : (a b z : ℤ) → z ≡ int_max a b → IsLow low high fs a → IsLow low high fs b → IsLow low high fs z
  low_more a b z e h k at between = subst (λ (y : ℤ). y ≤ℤ largest (grid_symbols at) fs) (sym e) (max_most a b (largest (grid_symbols at) fs) (h at between) (k at between))

  pub high_more : (a b z : ℤ) → z ≡ int_min a b → IsHigh low high fs a → IsHigh low high fs b → IsHigh low high fs z
  high_more a b z e h k at between = subst (λ (y : ℤ). smallest (grid_symbols at) fs ≤ℤ y) (sym e) (min_least a b (smallest (grid_symbols at) fs) (h at between) (k at between))

pub low_none : (low high : List ℕ) (fs : List Form) → length fs ≡ 0 → IsLow low high fs (pos 0)
low_none low high [] e at between = omega (arith, ints)
low_none low high (f ∷ fs) e at between = absurd (omega (arith, e))

pub high_none : (low high : List ℕ) (fs : List Form) → length fs ≡ 0 → IsHigh low high fs (pos 0)
high_none low high [] e at between = omega (arith, ints)
high_none low high (f ∷ fs) e at between = absurd (omega (arith, e))

-- ---- spans and regions without a point

pub no_turn : (a b : ℤ) → b <ℤ a → clipped ((b +ℤ pos 1) -ℤ a) ≡ 0
no_turn a b h = of ((b +ℤ pos 1) -ℤ a) refl
  where
    of : (d : ℤ) → d ≡ (b +ℤ pos 1) -ℤ a → clipped d ≡ 0
    of (pos n) e = omega (arith, ints, h, e)
    of (negsuc n) e = refl

pub no_number : (low high : List ℕ) (x : Span1) (a b : ℤ) → b <ℤ a → IsLow low high x.lower a → IsHigh low high x.upper b → (at : List ℕ) → IsBetween low high at → turns (grid_symbols at) x ≡ []
no_number low high x a b past h k at between =
    let s = grid_symbols at in
    let l = h at between in
    let u = k at between in
    ap (rising (largest s x.lower)) (no_turn (largest s x.lower) (smallest s x.upper) (omega (arith, ints, past, l, u)))

empty_rows : (zs : List ℤ) (qs : List (List ℤ)) → zs ≡ [] → flat_map (λ p. map (λ z. z ∷ p) zs) qs ≡ []
empty_rows zs [] e = refl
empty_rows zs (q ∷ qs) e = (λ i. map (λ z. z ∷ q) (e i) ++ flat_map (λ p. map (λ z. z ∷ p) zs) qs) ∙ empty_rows zs qs e

no_rows : (zs : List ℤ) (qs : List (List ℤ)) → qs ≡ [] → flat_map (λ p. map (λ z. z ∷ p) zs) qs ≡ []
no_rows zs qs e = ap (λ (rs : List (List ℤ)). flat_map (λ p. map (λ z. z ∷ p) zs) rs) e

pub no_point : (s : Symbols) (xs : List Span1) (k : ℕ) (d : Span1) → k < length xs → d ≡ get_or xs k d → turns s d ≡ [] → points s xs ≡ []
no_point s [] k d less is none = absurd (omega (arith, less))
no_point s (x ∷ xs) zero d less is none = empty_rows (turns s x) (points s xs) (ap (turns s) (sym is) ∙ none)
no_point s (x ∷ xs) (suc k) d less is none = no_rows (turns s x) (points s xs) (no_point s xs k d (omega (arith, less)) is none)

pub points_behind : (s : Symbols) (xs : List Span1) (k : ℕ) → points s (drop k xs) ≡ [] → points s xs ≡ []
points_behind s xs zero none = none
points_behind s [] (suc k) none = none
points_behind s (x ∷ xs) (suc k) none = no_rows (turns s x) (points s xs) (points_behind s xs k none)
