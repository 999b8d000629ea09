-- Spans without a let, and under a guard.
use Rattle.std.proofs.Common.{◌≡◌, ℕ, Bool, true, false, List, [], ◌∷◌, ◌++◌, map, Option, Some, None, refl, sym, ap, ◌∙◌, subst, arith}
use Rattle.std.specs.Prelude.{ℤ, pos, negsuc, ◌+ℤ◌, ◌-ℤ◌, ◌*ℤ◌, ◌≤ℤ◌, ◌||◌, not, if◌then◌else◌, fold, option_and_then}
use Rattle.std.specs.List.{AllByRecursion, list_any, list_all}
use Rattle.std.specs.Int.{int_max, int_min}
use Rattle.std.proofs.lemmas.Int.{ints, clamps, by_lt_z, fold-int_max_bounds, fold-int_min_bounds}
use Rattle.numeric.proofs.Ints.{multiply_order}
use Rattle.lin.specs.Forms.{Form, factor_of, combined, sum_of}
use Rattle.lin.specs.Search.{is_empty}
use Rattle.lin.specs.declared.form.Multiple.{Multiple}
use Rattle.lin.specs.declared.span.Span1.{Span1}
use Rattle.plan.specs.declared.stmt.Pick.{Pick}
use Rattle.plan.specs.declared.stmt.Pick.TheVariants.{Min, Max}
use Rattle.plan.specs.Symbols.{Symbols, bind, form_value, largest, smallest}
use Rattle.soundness.specs.Obligations.{Binder, form_has, LieIn, picked}
use Rattle.soundness.proofs.Forms.{rec_map, rec_left, rec_right, is_not}
use Rattle.soundness.proofs.Refines.{and_parts}
use Rattle.tails.specs.Steps.{binds, Keeps}
use Rattle.tails.specs.Moves.{single, joined, each_replaced, is_positive, span_from, is_outer, first_some, below, above, expanded, opened, if_outer, last_under, with_last, bounded}
use Rattle.tails.proofs.Chosen.{and_then_parts, map_parts, if_parts, some_same, span_parts, first_some_parts, all_at}
use Rattle.tails.proofs.Values.{Beside, joined_parts, single_part, all_both, rest_of, split_value, beside_value, bind_beside, bound_value, made_all, all_made, made_beside, made_value, int_le_true}

-- ---- the smallest and the largest of forms

min_case : (P : ℤ → Type 0) (a b : ℤ) → P a → P b → P (int_min a b)
min_case P a b h k = by_lt_z a b
    (λ l. let same : a ≡ int_min a b = omega (arith, ints, clamps, l) in subst P same h)
    (λ l. let same : b ≡ int_min a b = omega (arith, ints, clamps, l) in subst P same k)

max_case : (P : ℤ → Type 0) (a b : ℤ) → P a → P b → P (int_max a b)
max_case P a b h k = by_lt_z a b
    (λ l. let same : b ≡ int_max a b = omega (arith, ints, clamps, l) in subst P same k)
    (λ l. let same : a ≡ int_max a b = omega (arith, ints, clamps, l) in subst P same h)

fold_min : (P : ℤ → Type 0) (x : ℤ) (xs : List ℤ) → P x → AllByRecursion P xs → P (fold int_min x xs)
fold_min P x [] h k = h
fold_min P x (y ∷ ys) h k = fold_min P (int_min x y) ys (min_case P x y h k.0) k.1

fold_max : (P : ℤ → Type 0) (x : ℤ) (xs : List ℤ) → P x → AllByRecursion P xs → P (fold int_max x xs)
fold_max P x [] h k = h
fold_max P x (y ∷ ys) h k = fold_max P (int_max x y) ys (max_case P x y h k.0) k.1

-- what holds of all the forms' numbers holds of the one that is picked
pub picked_holds : (P : ℤ → Type 0) (s : Symbols) (pick : Pick) (ls : List Form) → is_empty ls ≡ false → AllByRecursion (λ l. P (form_value l s)) ls → P (picked pick ls s)
picked_holds P s pick [] lacks h = absurd (cc lacks)
picked_holds P s Min (l ∷ ls) lacks h = fold_min P (form_value l s) (map (λ m. form_value m s) ls) h.0 (rec_map (λ m. form_value m s) P ls h.1)
picked_holds P s Max (l ∷ ls) lacks h = fold_max P (form_value l s) (map (λ m. form_value m s) ls) h.0 (rec_map (λ m. form_value m s) P ls h.1)

min_first : (s : Symbols) (l : Form) (ls : List Form) → smallest s (l ∷ ls) ≤ℤ form_value l s
min_first s l ls = (fold-int_min_bounds (form_value l s) (map (λ m. form_value m s) ls) _ refl).0

max_first : (s : Symbols) (l : Form) (ls : List Form) → form_value l s ≤ℤ largest s (l ∷ ls)
max_first s l ls = (fold-int_max_bounds (form_value l s) (map (λ m. form_value m s) ls) _ refl).0

-- what holds of the members, in a form with a positive factor, holds of the number that is picked
abbrev pub Closes : (ℤ → Type 0) → Symbols → List Form → ℤ → Type 0
Closes P s ms m = (r c : ℤ) → pos 1 ≤ℤ c → AllByRecursion (λ g. P (r +ℤ c *ℤ form_value g s)) ms → P (r +ℤ c *ℤ m)

closes_below : (exact : Bool) (shows : Form → Form → Bool) (z : ℤ) (s : Symbols) (pick : Pick) (ls : List Form) → is_empty ls ≡ false → Closes (λ v. v ≤ℤ z) s (below exact shows pick ls) (picked pick ls s)
closes_below exact shows z s pick [] lacks r c sign h = absurd (cc lacks)
closes_below exact shows z s Min (l ∷ ls) lacks r c sign h =
    let first = min_first s l ls in
    let scaled = multiply_order c (smallest s (l ∷ ls)) (form_value l s) (omega (arith, ints, sign)) first in
    let here = h.0 in
    omega (arith, ints, scaled, here)
closes_below exact shows z s Max (l ∷ ls) lacks r c sign h = picked_holds (λ v. (r +ℤ c *ℤ v) ≤ℤ z) s Max (l ∷ ls) lacks h

closes_above : (exact : Bool) (shows : Form → Form → Bool) (z : ℤ) (s : Symbols) (pick : Pick) (ls : List Form) → is_empty ls ≡ false → Closes (λ v. z ≤ℤ v) s (above exact shows pick ls) (picked pick ls s)
closes_above exact shows z s pick [] lacks r c sign h = absurd (cc lacks)
closes_above exact shows z s Max (l ∷ ls) lacks r c sign h =
    let first = max_first s l ls in
    let scaled = multiply_order c (form_value l s) (largest s (l ∷ ls)) (omega (arith, ints, sign)) first in
    let here = h.0 in
    omega (arith, ints, scaled, here)
closes_above exact shows z s Min (l ∷ ls) lacks r c sign h = picked_holds (λ v. z ≤ℤ (r +ℤ c *ℤ v)) s Min (l ∷ ls) lacks h

-- ---- a let

module _ (exact : Bool) (shows : Form → Form → Bool) (i : ℕ) where
  pub expanded_back : (P : ℤ → Type 0) (s : Symbols) (m : ℤ) (ms : List Form) → Closes P s ms m → (fs gs : List Form) → expanded exact shows i ms fs ≡ Some gs → AllByRecursion (λ g. P (form_value g s)) gs →
      AllByRecursion (λ f. P (form_value f (bind s i m true))) fs
  expanded_back P s m ms closes [] gs e h = tt
  expanded_back P s m ms closes (f ∷ fs) gs e h = of (form_has i f) refl e (λ gs e h. expanded_back P s m ms closes fs gs e h)
    where
      of : (v : Bool) → form_has i f ≡ v →
          (if v then (if is_positive (factor_of f.terms i) then joined (each_replaced f i (factor_of f.terms i) ms) (expanded exact shows i ms fs) else None) else joined (Some (f ∷ [])) (expanded exact shows i ms fs)) ≡ Some gs →
          ((gs : List Form) → expanded exact shows i ms fs ≡ Some gs → AllByRecursion (λ g. P (form_value g s)) gs → AllByRecursion (λ f. P (form_value f (bind s i m true))) fs) →
          AllByRecursion (λ f. P (form_value f (bind s i m true))) (f ∷ fs)
      of true has e rest =
          let c = factor_of f.terms i in
          let a = if_parts (is_positive c) (joined (each_replaced f i c ms) (expanded exact shows i ms fs)) gs e in
          let j = joined_parts (each_replaced f i c ms) (expanded exact shows i ms fs) gs a.1 in
          let all : AllByRecursion (λ g. P (form_value g s)) (j.left ++ j.right) = subst (AllByRecursion (λ g. P (form_value g s))) j.all h in
          let here = closes (rest_of f i s) c (int_le_true (pos 1) c a.0) (made_all P f i c s ms j.left j.is_left (rec_left (λ g. P (form_value g s)) j.left j.right all)) in
          (subst P (sym (bound_value f i s m true)) here, rest j.right j.is_right (rec_right (λ g. P (form_value g s)) j.left j.right all))
      of false lacks e rest =
          let j = joined_parts (Some (f ∷ [])) (expanded exact shows i ms fs) gs e in
          let all : AllByRecursion (λ g. P (form_value g s)) ((f ∷ []) ++ j.right) = subst (AllByRecursion (λ g. P (form_value g s))) (j.all ∙ ap (λ l. l ++ j.right) (sym (some_same (f ∷ []) j.left j.is_left))) h in
          (subst P (sym (beside_value f i s (bind s i m true) (bind_beside s i m true) lacks)) all.0, rest j.right j.is_right all.1)

  pub let_met : (s : Symbols) (pick : Pick) (ls : List Form) → is_empty ls ≡ false → (ys zs : List Span1) (p : List ℤ) → opened exact shows i pick ls ys ≡ Some zs → LieIn s zs p → LieIn (bind s i (picked pick ls s) true) ys p
  let_met s pick ls lacks [] zs [] e lie = tt
  let_met s pick ls lacks [] zs (q ∷ qs) e lie = let none : [] ≡ zs = some_same [] zs e in absurd (subst (λ zs. LieIn s zs (q ∷ qs)) (sym none) lie)
  let_met s pick ls lacks (y ∷ ys) zs p e lie = of p lie (λ zs p e lie. let_met s pick ls lacks ys zs p e lie)
    where
      of : (p : List ℤ) → LieIn s zs p → ((zs : List Span1) (p : List ℤ) → opened exact shows i pick ls ys ≡ Some zs → LieIn s zs p → LieIn (bind s i (picked pick ls s) true) ys p) → LieIn (bind s i (picked pick ls s) true) (y ∷ ys) p
      of p lie rest =
          let lows = expanded exact shows i (below exact shows pick ls) y.lower in
          let highs = expanded exact shows i (above exact shows pick ls) y.upper in
          let j = joined_parts (single (span_from lows highs)) (opened exact shows i pick ls ys) zs e in
          let o = single_part (span_from lows highs) j.left j.is_left in
          let b = span_parts lows highs o.0 o.1 in
          on p o.0 j.right b.0 b.1 j.is_right (subst (λ zs. LieIn s zs p) (j.all ∙ ap (λ l. l ++ j.right) o.2) lie) rest
        where
          on : (p : List ℤ) (z : Span1) (zs : List Span1) → expanded exact shows i (below exact shows pick ls) y.lower ≡ Some z.lower → expanded exact shows i (above exact shows pick ls) y.upper ≡ Some z.upper →
              opened exact shows i pick ls ys ≡ Some zs → LieIn s (z ∷ zs) p →
              ((zs : List Span1) (p : List ℤ) → opened exact shows i pick ls ys ≡ Some zs → LieIn s zs p → LieIn (bind s i (picked pick ls s) true) ys p) → LieIn (bind s i (picked pick ls s) true) (y ∷ ys) p
          on [] z zs low high e lie rest = absurd lie
          on (q ∷ qs) z zs low high e lie rest = (
            (
              expanded_back (λ v. v ≤ℤ q) s (picked pick ls s) (below exact shows pick ls) (closes_below exact shows q s pick ls lacks) y.lower z.lower low lie.0.0,
              expanded_back (λ v. q ≤ℤ v) s (picked pick ls s) (above exact shows pick ls) (closes_above exact shows q s pick ls lacks) y.upper z.upper high lie.0.1,
            ),
            rest zs qs e lie.1,
          )

-- ---- a let of one form

pub one_below : (exact : Bool) (shows : Form → Form → Bool) (pick : Pick) (l : Form) → below exact shows pick (l ∷ []) ≡ l ∷ []
one_below exact shows Min l = refl
one_below exact shows Max l = refl

pub one_above : (exact : Bool) (shows : Form → Form → Bool) (pick : Pick) (l : Form) → above exact shows pick (l ∷ []) ≡ l ∷ []
one_above exact shows Min l = refl
one_above exact shows Max l = refl

pub one_picked : (pick : Pick) (l : Form) (s : Symbols) → picked pick (l ∷ []) s ≡ form_value l s
one_picked Min l s = refl
one_picked Max l s = refl

module _ (exact : Bool) (shows : Form → Form → Bool) (i : ℕ) where
  -- what holds of a form at the name's number holds of it with the form in the name's place
  pub expanded_on : (P : ℤ → Type 0) (s : Symbols) (l : Form) → s.value i ≡ form_value l s → (fs gs : List Form) → expanded exact shows i (l ∷ []) fs ≡ Some gs → AllByRecursion (λ f. P (form_value f s)) fs →
      AllByRecursion (λ g. P (form_value g s)) gs
  expanded_on P s l is [] gs e h = subst (AllByRecursion (λ g. P (form_value g s))) (some_same [] gs e) tt
  expanded_on P s l is (f ∷ fs) gs e h = of (form_has i f) refl e (λ gs e. expanded_on P s l is fs gs e h.1)
    where
      of : (v : Bool) → form_has i f ≡ v →
          (if v then (if is_positive (factor_of f.terms i) then joined (each_replaced f i (factor_of f.terms i) (l ∷ [])) (expanded exact shows i (l ∷ []) fs) else None) else joined (Some (f ∷ [])) (expanded exact shows i (l ∷ []) fs)) ≡ Some gs →
          ((gs : List Form) → expanded exact shows i (l ∷ []) fs ≡ Some gs → AllByRecursion (λ g. P (form_value g s)) gs) → AllByRecursion (λ g. P (form_value g s)) gs
      of true has e rest =
          let c = factor_of f.terms i in
          let a = if_parts (is_positive c) (joined (each_replaced f i c (l ∷ [])) (expanded exact shows i (l ∷ []) fs)) gs e in
          let j = joined_parts (each_replaced f i c (l ∷ [])) (expanded exact shows i (l ∷ []) fs) gs a.1 in
          let there : form_value f s ≡ rest_of f i s +ℤ c *ℤ form_value l s = split_value f i s ∙ ap (λ z. rest_of f i s +ℤ c *ℤ z) is in
          let here = all_made P f i c s (l ∷ []) j.left j.is_left (subst P there h.0, tt) in
          subst (AllByRecursion (λ g. P (form_value g s))) (sym j.all) (all_both (λ g. P (form_value g s)) j.left j.right here (rest j.right j.is_right))
      of false lacks e rest =
          let j = joined_parts (Some (f ∷ [])) (expanded exact shows i (l ∷ []) fs) gs e in
          let here : AllByRecursion (λ g. P (form_value g s)) j.left = subst (AllByRecursion (λ g. P (form_value g s))) (some_same (f ∷ []) j.left j.is_left) (h.0, tt) in
          subst (AllByRecursion (λ g. P (form_value g s))) (sym j.all) (all_both (λ g. P (form_value g s)) j.left j.right here (rest j.right j.is_right))

  -- the forms that are made do not name it
  pub expanded_beside : (P : ℤ → Type 0) (s t : Symbols) → Beside i s t → (ms : List Form) → list_any (form_has i) ms ≡ false → (fs gs : List Form) → expanded exact shows i ms fs ≡ Some gs → AllByRecursion (λ g. P (form_value g s)) gs →
      AllByRecursion (λ g. P (form_value g t)) gs
  expanded_beside P s t b ms lacks [] gs e h = subst (AllByRecursion (λ g. P (form_value g t))) (some_same [] gs e) tt
  expanded_beside P s t b ms lacks (f ∷ fs) gs e h = of (form_has i f) refl e (λ gs e h. expanded_beside P s t b ms lacks fs gs e h)
    where
      of : (v : Bool) → form_has i f ≡ v →
          (if v then (if is_positive (factor_of f.terms i) then joined (each_replaced f i (factor_of f.terms i) ms) (expanded exact shows i ms fs) else None) else joined (Some (f ∷ [])) (expanded exact shows i ms fs)) ≡ Some gs →
          ((gs : List Form) → expanded exact shows i ms fs ≡ Some gs → AllByRecursion (λ g. P (form_value g s)) gs → AllByRecursion (λ g. P (form_value g t)) gs) → AllByRecursion (λ g. P (form_value g t)) gs
      of true has e rest =
          let c = factor_of f.terms i in
          let a = if_parts (is_positive c) (joined (each_replaced f i c ms) (expanded exact shows i ms fs)) gs e in
          let j = joined_parts (each_replaced f i c ms) (expanded exact shows i ms fs) gs a.1 in
          let all : AllByRecursion (λ g. P (form_value g s)) (j.left ++ j.right) = subst (AllByRecursion (λ g. P (form_value g s))) j.all h in
          let here = made_beside P f i c s t b ms j.left lacks j.is_left (rec_left (λ g. P (form_value g s)) j.left j.right all) in
          subst (AllByRecursion (λ g. P (form_value g t))) (sym j.all)
          (all_both (λ g. P (form_value g t)) j.left j.right here (rest j.right j.is_right (rec_right (λ g. P (form_value g s)) j.left j.right all)))
      of false without e rest =
          let j = joined_parts (Some (f ∷ [])) (expanded exact shows i ms fs) gs e in
          let one = some_same (f ∷ []) j.left j.is_left in
          let all : AllByRecursion (λ g. P (form_value g s)) ((f ∷ []) ++ j.right) = subst (AllByRecursion (λ g. P (form_value g s))) (j.all ∙ ap (λ l. l ++ j.right) (sym one)) h in
          let here : AllByRecursion (λ g. P (form_value g t)) j.left = subst (AllByRecursion (λ g. P (form_value g t))) one (subst P (sym (beside_value f i s t b without)) all.0, tt) in
          subst (AllByRecursion (λ g. P (form_value g t))) (sym j.all) (all_both (λ g. P (form_value g t)) j.left j.right here (rest j.right j.is_right all.1))

  -- the first span without the name, and the others
  record Opened (pick : Pick) (ls : List Form) (y : Span1) (ys zs : List Span1) : Type 0 where
    pub first : Span1
    pub more : List Span1
    pub low : expanded exact shows i (below exact shows pick ls) y.lower ≡ Some first.lower
    pub high : expanded exact shows i (above exact shows pick ls) y.upper ≡ Some first.upper
    pub rest : opened exact shows i pick ls ys ≡ Some more
    pub all : zs ≡ first ∷ more

  opened_parts : (pick : Pick) (ls : List Form) (y : Span1) (ys zs : List Span1) → opened exact shows i pick ls (y ∷ ys) ≡ Some zs → Opened pick ls y ys zs
  opened_parts pick ls y ys zs e =
      let lows = expanded exact shows i (below exact shows pick ls) y.lower in
      let highs = expanded exact shows i (above exact shows pick ls) y.upper in
      let j = joined_parts (single (span_from lows highs)) (opened exact shows i pick ls ys) zs e in
      let o = single_part (span_from lows highs) j.left j.is_left in
      let b = span_parts lows highs o.0 o.1 in
      record { first = o.0; more = j.right; low = b.0; high = b.1; rest = j.is_right; all = j.all ∙ ap (λ l. l ++ j.right) o.2 }

  pub opened_on : (s : Symbols) (pick : Pick) (l : Form) → s.value i ≡ form_value l s → (ys zs : List Span1) (p : List ℤ) → opened exact shows i pick (l ∷ []) ys ≡ Some zs → LieIn s ys p → LieIn s zs p
  opened_on s pick l is [] zs p e lie = subst (λ zs. LieIn s zs p) (some_same [] zs e) lie
  opened_on s pick l is (y ∷ ys) zs [] e lie = absurd lie
  opened_on s pick l is (y ∷ ys) zs (q ∷ qs) e lie =
      let o = opened_parts pick (l ∷ []) y ys zs e in
      let low = subst (λ ms. expanded exact shows i ms y.lower ≡ Some o.first.lower) (one_below exact shows pick l) o.low in
      let high = subst (λ ms. expanded exact shows i ms y.upper ≡ Some o.first.upper) (one_above exact shows pick l) o.high in
      subst (λ zs. LieIn s zs (q ∷ qs)) (sym o.all)
      ((expanded_on (λ v. v ≤ℤ q) s l is y.lower o.first.lower low lie.0.0, expanded_on (λ v. q ≤ℤ v) s l is y.upper o.first.upper high lie.0.1), opened_on s pick l is ys o.more qs o.rest lie.1)

  pub opened_beside : (s t : Symbols) → Beside i s t → (pick : Pick) (l : Form) → form_has i l ≡ false → (ys zs : List Span1) (p : List ℤ) → opened exact shows i pick (l ∷ []) ys ≡ Some zs → LieIn s zs p → LieIn t zs p
  opened_beside s t b pick l lacks [] zs p e lie =
      let none : [] ≡ zs = some_same [] zs e in
      subst (λ zs. LieIn t zs p) none (empty p (subst (λ zs. LieIn s zs p) (sym none) lie))
    where
      empty : (p : List ℤ) → LieIn s [] p → LieIn t [] p
      empty [] h = tt
      empty (q ∷ qs) h = absurd h
  opened_beside s t b pick l lacks (y ∷ ys) zs p e lie =
      let o = opened_parts pick (l ∷ []) y ys zs e in
      let none : list_any (form_has i) (l ∷ []) ≡ false = ap (λ v. v || false) lacks in
      let low = subst (λ ms. expanded exact shows i ms y.lower ≡ Some o.first.lower) (one_below exact shows pick l) o.low in
      let high = subst (λ ms. expanded exact shows i ms y.upper ≡ Some o.first.upper) (one_above exact shows pick l) o.high in
      subst (λ zs. LieIn t zs p) (sym o.all) (on p o.first o.more none low high (subst (λ zs. LieIn s zs p) o.all lie) (λ qs lie. opened_beside s t b pick l lacks ys o.more qs o.rest lie))
    where
      on : (p : List ℤ) (z : Span1) (more : List Span1) → list_any (form_has i) (l ∷ []) ≡ false → expanded exact shows i (l ∷ []) y.lower ≡ Some z.lower → expanded exact shows i (l ∷ []) y.upper ≡ Some z.upper →
          LieIn s (z ∷ more) p → ((qs : List ℤ) → LieIn s more qs → LieIn t more qs) → LieIn t (z ∷ more) p
      on [] z more none low high lie rest = absurd lie
      on (q ∷ qs) z more none low high lie rest =
          ((expanded_beside (λ v. v ≤ℤ q) s t b (l ∷ []) none y.lower z.lower low lie.0.0, expanded_beside (λ v. q ≤ℤ v) s t b (l ∷ []) none y.upper z.upper high lie.0.1), rest qs lie.1)

-- ---- a guard

-- a form of outer symbols keeps its number
pub outer_value : (bs : List Binder) (s t : Symbols) → Keeps bs s t → (f : Form) → is_outer bs f ≡ true → form_value f t ≡ form_value f s
outer_value bs s t keeps f h = ap (λ v. f.constant +ℤ v) (sums f.terms h)
  where
    sums : (ts : List Multiple) → list_all (λ t. not (list_any (binds t.symbol) bs)) ts ≡ true → sum_of ts t.value ≡ sum_of ts s.value
    sums [] h = refl
    sums (x ∷ xs) h =
        let k = and_parts (not (list_any (binds x.symbol) bs)) (list_all (λ t. not (list_any (binds t.symbol) bs)) xs) h in
        ap (λ v. x.factor *ℤ v +ℤ sum_of xs t.value) (keeps x.symbol (is_not (list_any (binds x.symbol) bs) k.0))
        ∙ ap (λ r. x.factor *ℤ s.value x.symbol +ℤ r) (sums xs k.1)

module _ (exact : Bool) (shows : Form → Form → Bool) (others : List Binder) (low high : Form) where
  last_is : (t : Symbols) (l u : Form) → last_under exact shows others low high l ≡ Some u → form_value u t ≡ (form_value l t -ℤ form_value low t) +ℤ form_value high t
  last_is t l u e =
      let a = and_then_parts (λ d. option_and_then (if_outer exact shows others) (combined d (pos 1) high)) (combined l (negsuc 0) low) u e in
      let b = and_then_parts (if_outer exact shows others) (combined a.0 (pos 1) high) u a.2 in
      let c = if_parts (is_outer others b.0) (Some b.0) u b.2 in
      let same : b.0 ≡ u = some_same b.0 u c.1 in
      let first = made_value l low a.0 (negsuc 0) t.value a.1 in
      let second = made_value a.0 high b.0 (pos 1) t.value b.1 in
      ap (λ f. form_value f t) (sym same) ∙ omega (arith, ints, first, second)

  pub guard_met : (t : Symbols) (ys zs : List Span1) (p : List ℤ) → bounded exact shows others low high ys ≡ Some zs → LieIn t zs p → LieIn t ys p × (form_value low t ≤ℤ form_value high t)
  guard_met t [] zs p e lie = absurd (cc e)
  guard_met t (y ∷ ys) zs p e lie = of (first_some (last_under exact shows others low high) y.lower) refl e (λ zs p e lie. guard_met t ys zs p e lie)
    where
      of : (o : Option Form) → first_some (last_under exact shows others low high) y.lower ≡ o → with_last exact shows y ys o (bounded exact shows others low high ys) ≡ Some zs →
          ((zs : List Span1) (p : List ℤ) → bounded exact shows others low high ys ≡ Some zs → LieIn t zs p → LieIn t ys p × (form_value low t ≤ℤ form_value high t)) →
          LieIn t (y ∷ ys) p × (form_value low t ≤ℤ form_value high t)
      of None is e rest =
          let m = map_parts (λ zs. y ∷ zs) (bounded exact shows others low high ys) zs e in
          on p m.0 m.1 (subst (λ zs. LieIn t zs p) (sym m.2) lie)
        where
          on : (p : List ℤ) (zs : List Span1) → bounded exact shows others low high ys ≡ Some zs → LieIn t (y ∷ zs) p → LieIn t (y ∷ ys) p × (form_value low t ≤ℤ form_value high t)
          on [] zs e lie = absurd lie
          on (q ∷ qs) zs e lie = let r = rest zs qs e lie.1 in ((lie.0, r.0), r.1)
      of (Some u) is e rest =
          let same : record { lower = y.lower; upper = y.upper ++ u ∷ [] } ∷ ys ≡ zs = some_same (record { lower = y.lower; upper = y.upper ++ u ∷ [] } ∷ ys) zs e in
          on p (subst (λ zs. LieIn t zs p) (sym same) lie)
        where
          on : (p : List ℤ) → LieIn t (record { lower = y.lower; upper = y.upper ++ u ∷ [] } ∷ ys) p → LieIn t (y ∷ ys) p × (form_value low t ≤ℤ form_value high t)
          on [] lie = absurd lie
          on (q ∷ qs) lie =
              let f = first_some_parts (last_under exact shows others low high) y.lower u is in
              let begins : form_value f.0 t ≤ℤ q = all_at (λ l. form_value l t ≤ℤ q) f.0 y.lower f.1 lie.0.0 in
              let ends : q ≤ℤ form_value u t = (rec_right (λ u. q ≤ℤ form_value u t) y.upper (u ∷ []) lie.0.1).0 in
              let is_last = last_is t f.0 u f.2 in
              (((lie.0.0, rec_left (λ u. q ≤ℤ form_value u t) y.upper (u ∷ []) lie.0.1), lie.1), omega (arith, ints, begins, ends, is_last))
