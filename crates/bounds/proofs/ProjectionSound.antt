-- Projected spans and regions, and unions of regions, hold what they are to hold.
use Rattle.std.proofs.Common.{◌≡◌, ℕ, List, [], ◌∷◌, Bool, true, false, arith, refl, sym, subst}
use Rattle.std.specs.Prelude.{ℤ, pos, negsuc, ◌-ℤ◌, Option, Some, None, option_and_then}
use Rattle.std.specs.List.{AllByRecursion}
use Rattle.std.proofs.lemmas.Int.{ints}
use Rattle.std.proofs.lemmas.List.Elements.{recursion_from_All, All-from_recursion}
use Rattle.lin.specs.Forms.{Form, number, value_of, plus_multiple}
use Rattle.lin.specs.Spans.{HoldsIn, IsInRegion}
use Rattle.lin.specs.declared.form.Multiple.{Multiple}
use Rattle.lin.specs.declared.scope.Binding.{Binding}
use Rattle.lin.specs.declared.span.Span1.{Span1}
use Rattle.lin.proofs.TermLemmas.{all_weaker, sum_of-same, value_of-plus_multiple}
use Rattle.lin.proofs.Limits.{combined-means}
use Rattle.bounds.specs.Spans.{span_of, multiples}
use Rattle.bounds.proofs.ListSound.{AllIn, all_in_some, kept-all, all_combined-all}
use Rattle.bounds.proofs.SpanSound.{Low, High}
use Rattle.bounds.specs.Projection.Unions.{in_front}
use Rattle.bounds.specs.Projection.Elimination.{is_inner, eliminated}
use Rattle.bounds.specs.Projection.Projection.{negated, form_bounds, side_bounds, projected_span, projected}
use Rattle.bounds.specs.Projection.Sound.{AgreeOutside, IsOuterSpan, IsOuter, HoldsSpan, HoldsRegion}
use Rattle.bounds.proofs.Soundness.{fold_of-all, eliminated-above}
use Rattle.bounds.proofs.Names.{Outer, outer_terms, sum-outer, eliminated-outer}

-- ---- negations
abbrev IsZero : Form → Type 0
IsZero f = f ≡ number (pos 0)

-- what holds of each form's negation holds of the negations that are made
negations-all : (Q R : Form → Type 0) → ((g : Form) → Q g → R (plus_multiple (number (pos 0)) (negsuc 0) g)) → (forms : List Form) → AllByRecursion Q forms → AllIn R (multiples (negsuc 0) forms)
negations-all Q R h forms a = kept-all R _ (all_combined-all IsZero Q R (negsuc 0)
    (λ f g e q. let P : Form → Type 0 = λ x. R (plus_multiple x (negsuc 0) g) in subst P (sym e) (h g q)) (number (pos 0) ∷ []) forms (refl, tt) a)

negation-value : (f : Form) (v : ℕ → ℤ) → value_of (plus_multiple (number (pos 0)) (negsuc 0) f) v ≡ pos 0 -ℤ value_of f v
negation-value f v = omega (arith, ints, value_of-plus_multiple (number (pos 0)) (negsuc 0) f v)

negated-value : (f n : Form) (v : ℕ → ℤ) → negated f ≡ Some n → value_of n v ≡ pos 0 -ℤ value_of f v
negated-value f n v e =
    let P : Form → Type 0 = λ x. value_of x v ≡ pos 0 -ℤ value_of f v in
    subst P (sym (combined-means (number (pos 0)) (negsuc 0) f n e).is) (negation-value f v)

-- the lists that are found, one after the other
then-all : (P R : Form → Type 0) (found : Option (List Form)) (g : List Form → Option (List Form)) → AllIn P found → ((forms : List Form) → AllByRecursion P forms → AllIn R (g forms)) → AllIn R (option_and_then g found)
then-all P R None g a h = λ forms e. cc
then-all P R (Some forms) g a h = h forms (a forms refl)

of_negation : (R : Form → Type 0) (found : Option Form) (g : Form → Option (List Form)) → ((n : Form) → found ≡ Some n → AllIn R (g n)) → AllIn R (option_and_then g found)
of_negation R None g h = λ forms e. cc
of_negation R (Some n) g h = h n refl

-- ---- one side
module _ (scope : List Binding) (inner : List ℕ) where
  module _ (v : ℕ → ℤ) (r : HoldsIn scope v) where
    lower-holds : (z : ℤ) (f : Form) → Low v z f → AllIn (Low v z) (form_bounds scope inner false f)
    lower-holds z f h =
        then-all (High v (pos 0 -ℤ z)) (Low v z) (option_and_then (λ n. eliminated scope inner n) (negated f)) (λ bounds. multiples (negsuc 0) bounds)
        (of_negation (High v (pos 0 -ℤ z)) (negated f) (λ n. eliminated scope inner n)
        (λ n e. let value = negated-value f n v e in eliminated-above scope v r inner n (pos 0 -ℤ z) (omega (arith, ints, value, h))))
        (λ bounds a. negations-all (High v (pos 0 -ℤ z)) (Low v z) (λ g q. let value = negation-value g v in omega (arith, ints, value, q)) bounds a)

    lowers-hold : (z : ℤ) (fs : List Form) → AllByRecursion (Low v z) fs → AllIn (Low v z) (side_bounds scope inner false fs)
    lowers-hold z fs a = fold_of-all scope (Low v z) (form_bounds scope inner false) (Some []) fs (all_in_some (Low v z) [] tt)
        (all_weaker (Low v z) (λ (f : Form). AllIn (Low v z) (form_bounds scope inner false f)) (λ f h. lower-holds z f h) fs a)

    uppers-hold : (z : ℤ) (fs : List Form) → AllByRecursion (High v z) fs → AllIn (High v z) (side_bounds scope inner true fs)
    uppers-hold z fs a = fold_of-all scope (High v z) (form_bounds scope inner true) (Some []) fs (all_in_some (High v z) [] tt)
        (all_weaker (High v z) (λ (f : Form). AllIn (High v z) (form_bounds scope inner true f)) (λ f h. eliminated-above scope v r inner f z h) fs a)

  form-outer : (upper : Bool) (f : Form) → AllIn (Outer inner) (form_bounds scope inner upper f)
  form-outer true f = eliminated-outer inner scope f
  form-outer false f =
      then-all (Outer inner) (Outer inner) (option_and_then (λ n. eliminated scope inner n) (negated f)) (λ bounds. multiples (negsuc 0) bounds)
      (of_negation (Outer inner) (negated f) (λ n. eliminated scope inner n) (λ n e. eliminated-outer inner scope n))
      (λ bounds a. negations-all (Outer inner) (Outer inner) (λ g q. sum-outer inner (negsuc 0) (number (pos 0)) g refl q) bounds a)

  each : (upper : Bool) (fs : List Form) → AllByRecursion (λ f. AllIn (Outer inner) (form_bounds scope inner upper f)) fs
  each upper [] = tt
  each upper (f ∷ fs) = (form-outer upper f, each upper fs)

  side-outer : (upper : Bool) (fs : List Form) → AllIn (Outer inner) (side_bounds scope inner upper fs)
  side-outer upper fs = fold_of-all scope (Outer inner) (form_bounds scope inner upper) (Some []) fs (all_in_some (Outer inner) [] tt) (each upper fs)

  -- ---- a span
  -- of a span that is there both sides are
  some_span : (x y : Span1) → Some x ≡ Some y → x ≡ y
  some_span x y e = cc

  span-all : (P Q : Form → Type 0) (lower upper : Option (List Form)) (s : Span1) → AllIn P lower → AllIn Q upper → span_of lower upper ≡ Some s → AllByRecursion P s.lower × AllByRecursion Q s.upper
  span-all P Q None upper s a b e = cc
  span-all P Q (Some lower) None s a b e = cc
  span-all P Q (Some lower) (Some upper) s a b e =
      let R : Span1 → Type 0 = λ t. AllByRecursion P t.lower × AllByRecursion Q t.upper in
      subst R (some_span (record { lower = lower; upper = upper }) s e) (a lower refl, b upper refl)

  -- a form that names no inner symbol has one value where the others agree
  same_value : (v w : ℕ → ℤ) → AgreeOutside inner v w → (f : Form) → Outer inner f → value_of f v ≡ value_of f w
  same_value v w agree f h =
      let same = sum_of-same f.terms v w (all_weaker (λ (t : Multiple). is_inner inner t.symbol ≡ false) (λ (t : Multiple). v t.symbol ≡ w t.symbol) (λ t out. agree t.symbol out) f.terms (outer_terms inner f.terms h)) in
      omega (arith, ints, same)

  lows : (v w : ℕ → ℤ) → AgreeOutside inner v w → (z : ℤ) (fs : List Form) → AllByRecursion (Low v z) fs → AllByRecursion (Outer inner) fs → AllByRecursion (Low w z) fs
  lows v w agree z [] a o = tt
  lows v w agree z (f ∷ fs) a o = ((let same = same_value v w agree f o.0 in let h = a.0 in omega (arith, ints, same, h)), lows v w agree z fs a.1 o.1)

  highs : (v w : ℕ → ℤ) → AgreeOutside inner v w → (z : ℤ) (fs : List Form) → AllByRecursion (High v z) fs → AllByRecursion (Outer inner) fs → AllByRecursion (High w z) fs
  highs v w agree z [] a o = tt
  highs v w agree z (f ∷ fs) a o = ((let same = same_value v w agree f o.0 in let h = a.0 in omega (arith, ints, same, h)), highs v w agree z fs a.1 o.1)

  pub span-outer : (s found : Span1) → projected_span scope inner s ≡ Some found → IsOuterSpan inner found
  span-outer s found e =
      let o = span-all (Outer inner) (Outer inner) (side_bounds scope inner false s.lower) (side_bounds scope inner true s.upper) found (side-outer false s.lower) (side-outer true s.upper) e in
      (All-from_recursion (Outer inner) found.lower o.0, All-from_recursion (Outer inner) found.upper o.1)

  pub span-holds : (s found : Span1) → projected_span scope inner s ≡ Some found → HoldsSpan scope inner s found
  span-holds s found e = λ v w z r agree lies.
      let o = span-all (Outer inner) (Outer inner) (side_bounds scope inner false s.lower) (side_bounds scope inner true s.upper) found (side-outer false s.lower) (side-outer true s.upper) e in
      let a = span-all (Low v z) (High v z) (side_bounds scope inner false s.lower) (side_bounds scope inner true s.upper) found
      (lowers-hold v r z s.lower (recursion_from_All (Low v z) s.lower lies.0)) (uppers-hold v r z s.upper (recursion_from_All (High v z) s.upper lies.1)) e in
      (All-from_recursion (Low w z) found.lower (lows v w agree z found.lower a.0 o.0), All-from_recursion (High w z) found.upper (highs v w agree z found.upper a.1 o.1))

  -- ---- a region
  some_region : (x y : List Span1) → Some x ≡ Some y → x ≡ y
  some_region x y e = cc

  -- a region that is there has a span that is there in front
  front-all : (P : List Span1 → Type 0) (s : Option Span1) (ss : Option (List Span1)) (found : List Span1) → ((t : Span1) (ts : List Span1) → s ≡ Some t → ss ≡ Some ts → P (t ∷ ts)) → in_front s ss ≡ Some found → P found
  front-all P None ss found h e = cc
  front-all P (Some t) None found h e = cc
  front-all P (Some t) (Some ts) found h e = subst P (some_region (t ∷ ts) found e) (h t ts refl refl)

  outers : (region found : List Span1) → projected scope inner region ≡ Some found → AllByRecursion (IsOuterSpan inner) found
  outers [] found e = let P : List Span1 → Type 0 = λ x. AllByRecursion (IsOuterSpan inner) x in subst P (some_region [] found e) tt
  outers (s ∷ ss) found e = front-all (λ x. AllByRecursion (IsOuterSpan inner) x) (projected_span scope inner s) (projected scope inner ss) found (λ t ts a b. (span-outer s t a, outers ss ts b)) e

  pub region-outer : (region found : List Span1) → projected scope inner region ≡ Some found → IsOuter inner found
  region-outer region found e = All-from_recursion (IsOuterSpan inner) found (outers region found e)

  holds_at : (v w : ℕ → ℤ) → HoldsIn scope v → AgreeOutside inner v w → (region found : List Span1) (p : List ℤ) → projected scope inner region ≡ Some found → IsInRegion region v p → IsInRegion found w p
  holds_at v w r agree [] found [] e lies = let P : List Span1 → Type 0 = λ x. IsInRegion x w [] in subst P (some_region [] found e) tt
  holds_at v w r agree [] found (z ∷ zs) e lies = absurd lies
  holds_at v w r agree (s ∷ ss) found [] e lies = absurd lies
  holds_at v w r agree (s ∷ ss) found (z ∷ zs) e lies =
      front-all (λ x. IsInRegion x w (z ∷ zs)) (projected_span scope inner s) (projected scope inner ss) found
      (λ t ts a b. (span-holds s t a v w z r agree lies.0, holds_at v w r agree ss ts zs b lies.1)) e

  pub region-holds : (region found : List Span1) → projected scope inner region ≡ Some found → HoldsRegion scope inner region found
  region-holds region found e = λ v w p r agree lies. holds_at v w r agree region found p e lies
