-- The forms that bounds find are canonical: their symbols rise, and no factor is 0.
use Rattle.std.proofs.Common.{◌≡◌, ℕ, zero, suc, Bool, true, false, ◌||◌, List, [], ◌∷◌, ◌++◌, map, Option, Some, None, refl, sym, subst}
use Rattle.std.specs.Prelude.{ℤ, pos, negsuc, nat_eq, option_map, option_to_list, option_and_then, if◌then◌else◌}
use Rattle.std.specs.List.{AllByRecursion}
use Rattle.std.specs.Cmp.Lexicographic.{pointwise}
use Rattle.numeric.specs.declared.ty.Ty.{Ty}
use Rattle.numeric.specs.declared.ty.Ty.TheVariants.{I32}
use Rattle.numeric.specs.declared.op.Op.{Op}
use Rattle.numeric.specs.declared.op.Op.TheVariants.{Add, Sub, Mul, Div, Rem, Min, Max}
use Rattle.numeric.specs.Apply.{result_type}
use Rattle.tree.specs.Term.{Term, Number, Name, Call, Minus, Binary, Clamp, Cast, Choice}
use Rattle.tree.specs.Names.{called_type}
use Rattle.tree.specs.Typing.{shape_type}
use Rattle.lin.specs.Forms.{Form, number, combined, IsCanonical}
use Rattle.lin.specs.Search.{is_empty}
use Rattle.lin.specs.declared.scope.Binding.{Binding}
use Rattle.lin.specs.declared.span.Span1.{Span1}
use Rattle.lin.proofs.TermLemmas.{plus_terms-canonical}
use Rattle.lin.proofs.Limits.{combined-means}
use Rattle.bounds.specs.Lists.{checked, kept, all_combined, moved, gap, all_moved, union}
use Rattle.bounds.specs.Spans.{span_of, numbers, range_of, exactly, ends_of, are_of, stay, fitted}
use Rattle.bounds.specs.Spans.{between, sum_of, difference_of, multiples, multiple_of, product_ends, ends_product, product_of}
use Rattle.bounds.specs.Spans.{ends_quotient, quotient_of, remainder_of, or_range, joined, minimum_of, maximum_of, choice_of, binary_of}
use Rattle.bounds.specs.declared.ends.Ends.{Ends}
use Rattle.bounds.specs.Interval.{span_named, coordinate_of, literal_of, interval}
use Rattle.bounds.specs.Interval.{both as both_spans}
use Rattle.bounds.specs.Projection.Elimination.{eliminated}
use Rattle.bounds.specs.Projection.Projection.{negated, form_bounds, side_bounds, projected_span}
use Rattle.bounds.proofs.ListSound.{AllIn, Made, all_in_some, all-append, kept-all, checked-all, all_combined-all}
use Rattle.bounds.proofs.Soundness.{fold_of-all}

some_span : (s t : Span1) → Some s ≡ Some t → s ≡ t
some_span s t e = cc

abbrev pub Rises : Form → Type 0
Rises f = IsCanonical f.terms

abbrev pub AllRise : List Form → Type 0
AllRise fs = AllByRecursion Rises fs

abbrev pub SpanRises : Span1 → Type 0
SpanRises s = AllRise s.lower × AllRise s.upper

abbrev pub FindsRising : Option Span1 → Type 0
FindsRising o = (s : Span1) → o ≡ Some s → SpanRises s

-- ---- forms

pub combined_rises : (a : Form) (k : ℤ) (b : Form) → Rises a → Made Rises (combined a k b)
combined_rises a k b h = λ f e. subst Rises (sym (combined-means a k b f e).is) (plus_terms-canonical a.terms k b.terms h)

-- ---- lists of forms

moved_rises : (upper : Bool) (f : Form) (o : Option ℤ) → Rises f → AllByRecursion (λ m. Made Rises m) (option_to_list (option_map (moved upper f) o))
moved_rises true f None h = tt
moved_rises true f (Some d) h = (combined_rises f (pos 1) (number d) h, tt)
moved_rises false f None h = tt
moved_rises false f (Some d) h = (combined_rises f (negsuc 0) (number d) h, tt)

module _ (scope : List Binding) where
  all_moved_rise : (upper : Bool) (fs others : List Form) → AllRise fs → AllByRecursion (λ m. Made Rises m) (all_moved scope upper fs others)
  all_moved_rise upper [] others h = tt
  all_moved_rise upper (f ∷ fs) others h =
      all-append (λ m. Made Rises m) (option_to_list (option_map (moved upper f) (gap scope upper f others))) (all_moved scope upper fs others)
      (moved_rises upper f (gap scope upper f others) h.0) (all_moved_rise upper fs others h.1)

  pub union_rises : (upper : Bool) (fs gs : List Form) → AllRise fs → AllRise gs → AllIn Rises (union scope upper fs gs)
  union_rises upper fs gs h k =
      kept-all Rises (all_moved scope upper fs gs ++ all_moved scope upper gs fs)
      (all-append (λ m. Made Rises m) (all_moved scope upper fs gs) (all_moved scope upper gs fs) (all_moved_rise upper fs gs h) (all_moved_rise upper gs fs k))

pub joined_rises : (fs gs : List Form) → AllRise fs → AllRise gs → AllIn Rises (joined fs gs)
joined_rises fs gs h k = kept-all Rises (map checked (fs ++ gs)) (checked-all Rises (fs ++ gs) (all-append Rises fs gs h k))

abbrev Whatever : Form → Type 0
Whatever f = Unit {0}

whatever : (fs : List Form) → AllByRecursion Whatever fs
whatever [] = tt
whatever (f ∷ fs) = (tt, whatever fs)

sums_rise : (fs : List Form) (k : ℤ) (gs : List Form) → AllRise fs → AllIn Rises (kept (all_combined fs k gs))
sums_rise fs k gs h =
    kept-all Rises (all_combined fs k gs) (all_combined-all Rises Whatever Rises k (λ a b x y. plus_terms-canonical a.terms k b.terms x) fs gs h (whatever gs))

multiples_rise : (k : ℤ) (fs : List Form) → AllIn Rises (multiples k fs)
multiples_rise k fs = sums_rise (number (pos 0) ∷ []) k fs (tt, tt)

-- ---- spans

span_rises : (lower upper : Option (List Form)) → AllIn Rises lower → AllIn Rises upper → FindsRising (span_of lower upper)
span_rises None upper h k = λ s e. absurd (cc e)
span_rises (Some ls) None h k = λ s e. absurd (cc e)
span_rises (Some ls) (Some us) h k = λ s e. subst SpanRises (some_span (record { lower = ls; upper = us }) s e) (h ls refl, k us refl)

here_rises : (s : Span1) → SpanRises s → FindsRising (Some s)
here_rises s h = λ t e. subst SpanRises (some_span s t e) h

mapped_rises : (f : Span1 → Span1) → ((s : Span1) → SpanRises s → SpanRises (f s)) → (o : Option Span1) → FindsRising o → FindsRising (option_map f o)
mapped_rises f keeps None h = λ s e. absurd (cc e)
mapped_rises f keeps (Some t) h = here_rises (f t) (keeps t (h t refl))

exactly_rises : (z : ℤ) → FindsRising (exactly z)
exactly_rises z =
    let one = kept-all Rises (checked (number z) ∷ []) (checked-all Rises (number z ∷ []) (tt, tt)) in
    span_rises (kept (checked (number z) ∷ [])) (kept (checked (number z) ∷ [])) one one

or_range_rises : (ty : Ty) (s : Span1) → SpanRises s → SpanRises (or_range ty s)
or_range_rises ty s h = of (is_empty s.lower || is_empty s.upper)
  where
    of : (b : Bool) → SpanRises (if b then range_of ty else s)
    of true = ((tt, tt), (tt, tt))
    of false = h

between_rises : (ty : Ty) (e : Ends) → SpanRises (between ty e)
unfolding between
between_rises ty e = of (are_of ty e)
  where
    of : (b : Bool) → SpanRises (if b then numbers e.low e.high else range_of ty)
    of true = ((tt, tt), (tt, tt))
    of false = ((tt, tt), (tt, tt))

product_rises : (ty : Ty) (a b : Option Ends) → SpanRises (ends_product ty a b)
product_rises ty None b = ((tt, tt), (tt, tt))
product_rises ty (Some a) None = ((tt, tt), (tt, tt))
product_rises ty (Some a) (Some b) = between_rises ty (product_ends a b)

quotient_ends_rises : (ty : Ty) (c : ℤ) (a : Option Ends) → SpanRises (ends_quotient ty c a)
quotient_ends_rises ty c None = ((tt, tt), (tt, tt))
quotient_ends_rises ty c (Some a) = between_rises ty _

remainder_rises : (ty : Ty) (o : Option ℤ) → SpanRises (remainder_of ty o)
remainder_rises ty None = ((tt, tt), (tt, tt))
remainder_rises ty (Some (pos zero)) = ((tt, tt), (tt, tt))
remainder_rises ty (Some (pos (suc n))) = ((tt, tt), (tt, tt))
remainder_rises ty (Some (negsuc n)) = ((tt, tt), (tt, tt))

module _ (scope : List Binding) where
  fitted_rises : (ty : Ty) (s : Span1) → SpanRises s → SpanRises (fitted scope ty s)
  fitted_rises ty s h = of (stay ty (ends_of scope s))
    where
      of : (b : Bool) → SpanRises (if b then s else range_of ty)
      of true = h
      of false = ((tt, tt), (tt, tt))

  sum_rises : (ty : Ty) (a b : Span1) → SpanRises a → FindsRising (sum_of scope ty a b)
  sum_rises ty a b h =
      mapped_rises (fitted scope ty) (fitted_rises ty) (span_of (kept (all_combined a.lower (pos 1) b.lower)) (kept (all_combined a.upper (pos 1) b.upper)))
      (span_rises (kept (all_combined a.lower (pos 1) b.lower)) (kept (all_combined a.upper (pos 1) b.upper)) (sums_rise a.lower (pos 1) b.lower h.0) (sums_rise a.upper (pos 1) b.upper h.1))

  difference_rises : (ty : Ty) (a b : Span1) → SpanRises a → FindsRising (difference_of scope ty a b)
  difference_rises ty a b h =
      mapped_rises (fitted scope ty) (fitted_rises ty) (span_of (kept (all_combined a.lower (negsuc 0) b.upper)) (kept (all_combined a.upper (negsuc 0) b.lower)))
      (span_rises (kept (all_combined a.lower (negsuc 0) b.upper)) (kept (all_combined a.upper (negsuc 0) b.lower)) (sums_rise a.lower (negsuc 0) b.upper h.0)
      (sums_rise a.upper (negsuc 0) b.lower h.1))

  multiple_rises : (ty : Ty) (k : ℤ) (s : Span1) → FindsRising (multiple_of scope ty k s)
  multiple_rises ty (pos n) s =
      mapped_rises (fitted scope ty) (fitted_rises ty) (span_of (multiples (pos n) s.lower) (multiples (pos n) s.upper))
      (span_rises (multiples (pos n) s.lower) (multiples (pos n) s.upper) (multiples_rise (pos n) s.lower) (multiples_rise (pos n) s.upper))
  multiple_rises ty (negsuc n) s =
      mapped_rises (fitted scope ty) (fitted_rises ty) (span_of (multiples (negsuc n) s.upper) (multiples (negsuc n) s.lower))
      (span_rises (multiples (negsuc n) s.upper) (multiples (negsuc n) s.lower) (multiples_rise (negsuc n) s.upper) (multiples_rise (negsuc n) s.lower))

  product_of_rises : (ty : Ty) (first second : Option ℤ) (a b : Span1) → FindsRising (product_of scope ty first second a b)
  product_of_rises ty (Some k) second a b = multiple_rises ty k b
  product_of_rises ty None (Some k) a b = multiple_rises ty k a
  product_of_rises ty None None a b = here_rises (ends_product ty (ends_of scope a) (ends_of scope b)) (product_rises ty (ends_of scope a) (ends_of scope b))

  quotient_rises : (ty : Ty) (o : Option ℤ) (a : Span1) → SpanRises (quotient_of scope ty o a)
  quotient_rises ty None a = ((tt, tt), (tt, tt))
  quotient_rises ty (Some (pos zero)) a = ((tt, tt), (tt, tt))
  quotient_rises ty (Some (pos (suc n))) a = quotient_ends_rises ty (pos (suc n)) (ends_of scope a)
  quotient_rises ty (Some (negsuc n)) a = ((tt, tt), (tt, tt))

  minimum_rises : (ty : Ty) (a b : Span1) → SpanRises a → SpanRises b → FindsRising (minimum_of scope ty a b)
  minimum_rises ty a b h k =
      mapped_rises (or_range ty) (or_range_rises ty) (span_of (union scope false a.lower b.lower) (joined a.upper b.upper))
      (span_rises (union scope false a.lower b.lower) (joined a.upper b.upper) (union_rises scope false a.lower b.lower h.0 k.0) (joined_rises a.upper b.upper h.1 k.1))

  maximum_rises : (ty : Ty) (a b : Span1) → SpanRises a → SpanRises b → FindsRising (maximum_of scope ty a b)
  maximum_rises ty a b h k =
      mapped_rises (or_range ty) (or_range_rises ty) (span_of (joined a.lower b.lower) (union scope true a.upper b.upper))
      (span_rises (joined a.lower b.lower) (union scope true a.upper b.upper) (joined_rises a.lower b.lower h.0 k.0) (union_rises scope true a.upper b.upper h.1 k.1))

  pub choice_rises : (ty : Ty) (a b : Span1) → SpanRises a → SpanRises b → FindsRising (choice_of scope ty a b)
  choice_rises ty a b h k =
      mapped_rises (or_range ty) (or_range_rises ty) (span_of (union scope false a.lower b.lower) (union scope true a.upper b.upper))
      (span_rises (union scope false a.lower b.lower) (union scope true a.upper b.upper) (union_rises scope false a.lower b.lower h.0 k.0) (union_rises scope true a.upper b.upper h.1 k.1))

  binary_rises : (op : Op) (ty : Ty) (first second : Option ℤ) (a b : Span1) → SpanRises a → SpanRises b → FindsRising (binary_of scope op ty first second a b)
  binary_rises Add ty first second a b h k = sum_rises ty a b h
  binary_rises Sub ty first second a b h k = difference_rises ty a b h
  binary_rises Mul ty first second a b h k = product_of_rises ty first second a b
  binary_rises Div ty first second a b h k = here_rises (quotient_of scope ty second a) (quotient_rises ty second a)
  binary_rises Rem ty first second a b h k = here_rises (remainder_of ty second) (remainder_rises ty second)
  binary_rises Min ty first second a b h k = minimum_rises ty a b h k
  binary_rises Max ty first second a b h k = maximum_rises ty a b h k

-- ---- intervals

both_rise : (a b : Option Span1) (f : Span1 → Span1 → Option Span1) → FindsRising a → FindsRising b → ((s t : Span1) → SpanRises s → SpanRises t → FindsRising (f s t)) → FindsRising (both_spans a b f)
both_rise None b f h k g = λ s e. absurd (cc e)
both_rise (Some s) None f h k g = λ t e. absurd (cc e)
both_rise (Some s) (Some t) f h k g = g s t (h s refl) (k t refl)

named_rises : (xs : List (List ℕ)) (ss : List Span1) (x : List ℕ) → AllByRecursion SpanRises ss → FindsRising (span_named xs ss x)
named_rises [] ss x h = λ s e. absurd (cc e)
named_rises (y ∷ xs) [] x h = λ s e. absurd (cc e)
named_rises (y ∷ xs) (t ∷ ss) x h = of (pointwise nat_eq y x) (named_rises xs ss x h.1)
  where
    of : (b : Bool) → FindsRising (span_named xs ss x) → FindsRising (if b then Some t else span_named xs ss x)
    of true k = here_rises t h.0
    of false k = k

coordinate_rises : (o : Option Span1) → FindsRising o → FindsRising (coordinate_of o)
coordinate_rises None h = here_rises (range_of I32) ((tt, tt), (tt, tt))
coordinate_rises (Some s) h =
    let g = h s refl in
    span_rises (kept (map checked s.lower)) (kept (map checked s.upper)) (kept-all Rises (map checked s.lower) (checked-all Rises s.lower g.0))
    (kept-all Rises (map checked s.upper) (checked-all Rises s.upper g.1))

module _ (scope : List Binding) (functions : List ℕ → Option (Ty × ℕ)) (names : List (List ℕ)) (region : List Span1) (rising : AllByRecursion SpanRises region) where
  abbrev found : Term → Option Span1
  found e = interval scope functions names region e

  pub interval_rises : (e : Term) → FindsRising (interval scope functions names region e)
  interval_rises (Number t n) = exactly_rises n
  interval_rises (Name name) = coordinate_rises (span_named names region name) (named_rises names region name rising)
  interval_rises (Call name at) = here_rises (range_of (called_type (functions name))) ((tt, tt), (tt, tt))
  interval_rises (Minus a) =
      both_rise (exactly (pos 0)) (found a) (λ zero s. difference_of scope (shape_type functions a) zero s) (exactly_rises (pos 0)) (interval_rises a)
      (λ s t h k. difference_rises scope (shape_type functions a) s t h)
  interval_rises (Binary op a b) =
      both_rise (found a) (found b) (λ s t. binary_of scope op (result_type op (shape_type functions a)) (literal_of a) (literal_of b) s t) (interval_rises a) (interval_rises b)
      (binary_rises scope op (result_type op (shape_type functions a)) (literal_of a) (literal_of b))
  interval_rises (Clamp a l h) =
      both_rise (both_spans (found a) (found h) (λ s t. minimum_of scope (shape_type functions a) s t)) (found l) (λ s t. maximum_of scope (shape_type functions a) s t)
      (both_rise (found a) (found h) (λ s t. minimum_of scope (shape_type functions a) s t) (interval_rises a) (interval_rises h) (minimum_rises scope (shape_type functions a)))
      (interval_rises l) (maximum_rises scope (shape_type functions a))
  interval_rises (Cast t a) = mapped_rises (fitted scope t) (fitted_rises scope t) (found a) (interval_rises a)
  interval_rises (Choice c a b) =
      both_rise (found a) (found b) (λ s t. choice_of scope (shape_type functions a) s t) (interval_rises a) (interval_rises b) (choice_rises scope (shape_type functions a))

-- ---- the lower forms of projections, and of unions of spans

abbrev pub LowRises : Span1 → Type 0
LowRises s = AllRise s.lower

module _ (scope : List Binding) (inner : List ℕ) where
  bounds_rise : (f : Form) → AllIn Rises (form_bounds scope inner false f)
  bounds_rise f = of (option_and_then (λ n. eliminated scope inner n) (negated f))
    where
      of : (o : Option (List Form)) → AllIn Rises (option_and_then (λ bounds. multiples (negsuc 0) bounds) o)
      of None = λ fs e. absurd (cc e)
      of (Some bounds) = multiples_rise (negsuc 0) bounds

  pub each_rise : (fs : List Form) → AllByRecursion (λ f. AllIn Rises (form_bounds scope inner false f)) fs
  each_rise [] = tt
  each_rise (f ∷ fs) = (bounds_rise f, each_rise fs)

  pub projected_rises : (s t : Span1) → projected_span scope inner s ≡ Some t → LowRises t
  projected_rises s t e =
      of (side_bounds scope inner false s.lower) (side_bounds scope inner true s.upper)
      (fold_of-all scope Rises (form_bounds scope inner false) (Some []) s.lower (all_in_some Rises [] tt) (each_rise s.lower)) e
    where
      of : (lower upper : Option (List Form)) → AllIn Rises lower → span_of lower upper ≡ Some t → LowRises t
      of None upper h q = absurd (cc q)
      of (Some ls) None h q = absurd (cc q)
      of (Some ls) (Some us) h q = subst LowRises (some_span (record { lower = ls; upper = us }) t q) (h ls refl)

pub choice_low : (scope : List Binding) (ty : Ty) (a b s : Span1) → LowRises a → LowRises b → choice_of scope ty a b ≡ Some s → LowRises s
choice_low scope ty a b s h k e = of (union scope false a.lower b.lower) (union scope true a.upper b.upper) (union_rises scope false a.lower b.lower h k) e
  where
    ranged : (t : Span1) → LowRises t → LowRises (or_range ty t)
    ranged t g = by (is_empty t.lower || is_empty t.upper)
      where
        by : (b : Bool) → LowRises (if b then range_of ty else t)
        by true = (tt, tt)
        by false = g

    of : (lower upper : Option (List Form)) → AllIn Rises lower → option_map (or_range ty) (span_of lower upper) ≡ Some s → LowRises s
    of None upper g q = absurd (cc q)
    of (Some ls) None g q = absurd (cc q)
    of (Some ls) (Some us) g q =
        subst LowRises (some_span (or_range ty (record { lower = ls; upper = us })) s q) (ranged (record { lower = ls; upper = us }) (g ls refl))
