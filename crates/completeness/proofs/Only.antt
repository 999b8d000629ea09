-- What bounds find of expressions and spans names no symbol but those that it is given.
use Rattle.std.proofs.Common.{◌≡◌, ℕ, zero, suc, Bool, true, false, ◌||◌, List, [], ◌∷◌, ◌++◌, length, map, Option, Some, None, refl, sym, subst}
use Rattle.std.specs.Prelude.{ℤ, pos, negsuc, ◌*ℤ◌, not, ◌==◌, nat_eq, nat_le, fold, option_map, option_to_list, option_and_then, if◌then◌else◌, slice_get}
use Rattle.std.specs.List.{AllByRecursion}
use Rattle.std.specs.Cmp.Lexicographic.{pointwise}
use Rattle.numeric.specs.declared.ty.Ty.{Ty}
use Rattle.numeric.specs.declared.ty.Ty.TheVariants.{I32}
use Rattle.numeric.specs.declared.op.Op.{Op}
use Rattle.numeric.specs.declared.op.Op.TheVariants.{Add, Sub, Mul, Div, Rem, Min, Max}
use Rattle.numeric.specs.Apply.{result_type}
use Rattle.tree.specs.Term.{Term, Number, Name, Call, Minus, Binary, Clamp, Cast, Choice}
use Rattle.tree.specs.Names.{called_type}
use Rattle.tree.specs.Typing.{shape_type}
use Rattle.lin.specs.Forms.{Form, number, factor_of, is_within_limits, without, plus_term, plus_terms, plus_multiple, combined}
use Rattle.lin.specs.Search.{candidates, any_may_be, replaced, is_empty}
use Rattle.lin.specs.declared.form.Multiple.{Multiple}
use Rattle.lin.specs.declared.scope.Binding.{Binding}
use Rattle.lin.specs.declared.scope.Binding.TheVariants.{Loop, LetMin, LetMax}
use Rattle.lin.specs.declared.span.Span1.{Span1}
use Rattle.lin.proofs.TermLemmas.{either_way, filter-all, plus_term-all}
use Rattle.lin.proofs.Limits.{combined-means}
use Rattle.bounds.specs.Lists.{checked, kept, all_combined, moved, gap, all_moved, union}
use Rattle.bounds.specs.Spans.{span_of, numbers, range_of, exactly, ends_of, are_of, stay, fitted}
use Rattle.bounds.specs.Spans.{between, sum_of, difference_of, multiples, multiple_of, product_ends, ends_product, product_of}
use Rattle.bounds.specs.Spans.{ends_quotient, quotient_of, remainder_of, or_range, joined, minimum_of, maximum_of, choice_of, binary_of}
use Rattle.bounds.specs.declared.ends.Ends.{Ends}
use Rattle.bounds.specs.Interval.{span_named, coordinate_of, literal_of, interval}
use Rattle.bounds.specs.Interval.{both as both_spans}
use Rattle.bounds.specs.Projection.Elimination.{names_inner, bounds_itself, is_eliminated, both, that_count, bounds_at, bounds_below, replacements_below, eliminated}
use Rattle.bounds.specs.Projection.Projection.{negated, form_bounds, side_bounds, projected_span}
use Rattle.bounds.proofs.ListSound.{AllIn, Made, all_in_some, all-append, kept-all, checked-all, all_combined-all}
use Rattle.bounds.proofs.Soundness.{both_of-all, fold_of-all}

some_span : (s t : Span1) → Some s ≡ Some t → s ≡ t
some_span s t e = cc

module _ (P : ℕ → Type 0) where
  -- a form names only symbols of which this is so
  abbrev pub Only : Form → Type 0
  Only f = AllByRecursion (λ t. P t.symbol) f.terms

  abbrev pub AreOnly : List Form → Type 0
  AreOnly fs = AllByRecursion Only fs

  abbrev pub SpanOnly : Span1 → Type 0
  SpanOnly s = AreOnly s.lower × AreOnly s.upper

  abbrev pub FindsOnly : Option Span1 → Type 0
  FindsOnly o = (s : Span1) → o ≡ Some s → SpanOnly s

  -- ---- forms

  only_terms : (k : ℤ) (ts us : List Multiple) → AllByRecursion (λ t. P t.symbol) ts → AllByRecursion (λ t. P t.symbol) us → AllByRecursion (λ t. P t.symbol) (plus_terms ts k us)
  only_terms k ts [] a b = a
  only_terms k ts (u ∷ us) a b =
      only_terms k (plus_term ts (record { symbol = u.symbol; factor = k *ℤ u.factor })) us
      (plus_term-all (λ t. P t.symbol) (λ t. P t.symbol) (λ x h. h) (record { symbol = u.symbol; factor = k *ℤ u.factor }) b.0 (λ x h. b.0) ts a) b.1

  pub only_plus : (a : Form) (k : ℤ) (b : Form) → Only a → Only b → Only (plus_multiple a k b)
  only_plus a k b = only_terms k a.terms b.terms

  pub only_combined : (a : Form) (k : ℤ) (b : Form) → Only a → Only b → Made Only (combined a k b)
  only_combined a k b g h = λ f e. subst Only (sym (combined-means a k b f e).is) (only_plus a k b g h)

  -- ---- lists of forms

  moved_only : (upper : Bool) (f : Form) (o : Option ℤ) → Only f → AllByRecursion (λ m. Made Only m) (option_to_list (option_map (moved upper f) o))
  moved_only true f None h = tt
  moved_only true f (Some d) h = (only_combined f (pos 1) (number d) h tt, tt)
  moved_only false f None h = tt
  moved_only false f (Some d) h = (only_combined f (negsuc 0) (number d) h tt, tt)

  module _ (scope : List Binding) where
    all_moved_only : (upper : Bool) (fs others : List Form) → AreOnly fs → AllByRecursion (λ m. Made Only m) (all_moved scope upper fs others)
    all_moved_only upper [] others h = tt
    all_moved_only upper (f ∷ fs) others h =
        all-append (λ m. Made Only m) (option_to_list (option_map (moved upper f) (gap scope upper f others))) (all_moved scope upper fs others)
        (moved_only upper f (gap scope upper f others) h.0) (all_moved_only upper fs others h.1)

    union_only : (upper : Bool) (fs gs : List Form) → AreOnly fs → AreOnly gs → AllIn Only (union scope upper fs gs)
    union_only upper fs gs h k =
        kept-all Only (all_moved scope upper fs gs ++ all_moved scope upper gs fs)
        (all-append (λ m. Made Only m) (all_moved scope upper fs gs) (all_moved scope upper gs fs) (all_moved_only upper fs gs h) (all_moved_only upper gs fs k))

  joined_only : (fs gs : List Form) → AreOnly fs → AreOnly gs → AllIn Only (joined fs gs)
  joined_only fs gs h k = kept-all Only (map checked (fs ++ gs)) (checked-all Only (fs ++ gs) (all-append Only fs gs h k))

  sums_only : (fs : List Form) (k : ℤ) (gs : List Form) → AreOnly fs → AreOnly gs → AllIn Only (kept (all_combined fs k gs))
  sums_only fs k gs h j = kept-all Only (all_combined fs k gs) (all_combined-all Only Only Only k (λ a b x y. only_plus a k b x y) fs gs h j)

  multiples_only : (k : ℤ) (fs : List Form) → AreOnly fs → AllIn Only (multiples k fs)
  multiples_only k fs h = sums_only (number (pos 0) ∷ []) k fs (tt, tt) h

  -- ---- spans

  span_only : (lower upper : Option (List Form)) → AllIn Only lower → AllIn Only upper → FindsOnly (span_of lower upper)
  span_only None upper h k = λ s e. absurd (cc e)
  span_only (Some ls) None h k = λ s e. absurd (cc e)
  span_only (Some ls) (Some us) h k = λ s e. subst SpanOnly (some_span (record { lower = ls; upper = us }) s e) (h ls refl, k us refl)

  here_only : (s : Span1) → SpanOnly s → FindsOnly (Some s)
  here_only s h = λ t e. subst SpanOnly (some_span s t e) h

  mapped_only : (f : Span1 → Span1) → ((s : Span1) → SpanOnly s → SpanOnly (f s)) → (o : Option Span1) → FindsOnly o → FindsOnly (option_map f o)
  mapped_only f keeps None h = λ s e. absurd (cc e)
  mapped_only f keeps (Some t) h = here_only (f t) (keeps t (h t refl))

  exactly_only : (z : ℤ) → FindsOnly (exactly z)
  exactly_only z =
      let one = kept-all Only (checked (number z) ∷ []) (checked-all Only (number z ∷ []) (tt, tt)) in
      span_only (kept (checked (number z) ∷ [])) (kept (checked (number z) ∷ [])) one one

  or_range_only : (ty : Ty) (s : Span1) → SpanOnly s → SpanOnly (or_range ty s)
  or_range_only ty s h = of (is_empty s.lower || is_empty s.upper)
    where
      of : (b : Bool) → SpanOnly (if b then range_of ty else s)
      of true = ((tt, tt), (tt, tt))
      of false = h

  between_only : (ty : Ty) (e : Ends) → SpanOnly (between ty e)
  unfolding between
  between_only ty e = of (are_of ty e)
    where
      of : (b : Bool) → SpanOnly (if b then numbers e.low e.high else range_of ty)
      of true = ((tt, tt), (tt, tt))
      of false = ((tt, tt), (tt, tt))

  product_only : (ty : Ty) (a b : Option Ends) → SpanOnly (ends_product ty a b)
  product_only ty None b = ((tt, tt), (tt, tt))
  product_only ty (Some a) None = ((tt, tt), (tt, tt))
  product_only ty (Some a) (Some b) = between_only ty (product_ends a b)

  quotient_ends_only : (ty : Ty) (c : ℤ) (a : Option Ends) → SpanOnly (ends_quotient ty c a)
  quotient_ends_only ty c None = ((tt, tt), (tt, tt))
  quotient_ends_only ty c (Some a) = between_only ty _

  remainder_only : (ty : Ty) (o : Option ℤ) → SpanOnly (remainder_of ty o)
  remainder_only ty None = ((tt, tt), (tt, tt))
  remainder_only ty (Some (pos zero)) = ((tt, tt), (tt, tt))
  remainder_only ty (Some (pos (suc n))) = ((tt, tt), (tt, tt))
  remainder_only ty (Some (negsuc n)) = ((tt, tt), (tt, tt))

  module _ (scope : List Binding) where
    fitted_only : (ty : Ty) (s : Span1) → SpanOnly s → SpanOnly (fitted scope ty s)
    fitted_only ty s h = of (stay ty (ends_of scope s))
      where
        of : (b : Bool) → SpanOnly (if b then s else range_of ty)
        of true = h
        of false = ((tt, tt), (tt, tt))

    sum_only : (ty : Ty) (a b : Span1) → SpanOnly a → SpanOnly b → FindsOnly (sum_of scope ty a b)
    sum_only ty a b h k =
        mapped_only (fitted scope ty) (fitted_only ty) (span_of (kept (all_combined a.lower (pos 1) b.lower)) (kept (all_combined a.upper (pos 1) b.upper)))
        (span_only (kept (all_combined a.lower (pos 1) b.lower)) (kept (all_combined a.upper (pos 1) b.upper)) (sums_only a.lower (pos 1) b.lower h.0 k.0) (sums_only a.upper (pos 1) b.upper h.1 k.1))

    difference_only : (ty : Ty) (a b : Span1) → SpanOnly a → SpanOnly b → FindsOnly (difference_of scope ty a b)
    difference_only ty a b h k =
        mapped_only (fitted scope ty) (fitted_only ty) (span_of (kept (all_combined a.lower (negsuc 0) b.upper)) (kept (all_combined a.upper (negsuc 0) b.lower)))
        (span_only (kept (all_combined a.lower (negsuc 0) b.upper)) (kept (all_combined a.upper (negsuc 0) b.lower)) (sums_only a.lower (negsuc 0) b.upper h.0 k.1)
        (sums_only a.upper (negsuc 0) b.lower h.1 k.0))

    multiple_only : (ty : Ty) (k : ℤ) (s : Span1) → SpanOnly s → FindsOnly (multiple_of scope ty k s)
    multiple_only ty (pos n) s h =
        mapped_only (fitted scope ty) (fitted_only ty) (span_of (multiples (pos n) s.lower) (multiples (pos n) s.upper))
        (span_only (multiples (pos n) s.lower) (multiples (pos n) s.upper) (multiples_only (pos n) s.lower h.0) (multiples_only (pos n) s.upper h.1))
    multiple_only ty (negsuc n) s h =
        mapped_only (fitted scope ty) (fitted_only ty) (span_of (multiples (negsuc n) s.upper) (multiples (negsuc n) s.lower))
        (span_only (multiples (negsuc n) s.upper) (multiples (negsuc n) s.lower) (multiples_only (negsuc n) s.upper h.1) (multiples_only (negsuc n) s.lower h.0))

    product_of_only : (ty : Ty) (first second : Option ℤ) (a b : Span1) → SpanOnly a → SpanOnly b → FindsOnly (product_of scope ty first second a b)
    product_of_only ty (Some k) second a b h j = multiple_only ty k b j
    product_of_only ty None (Some k) a b h j = multiple_only ty k a h
    product_of_only ty None None a b h j = here_only (ends_product ty (ends_of scope a) (ends_of scope b)) (product_only ty (ends_of scope a) (ends_of scope b))

    quotient_only : (ty : Ty) (o : Option ℤ) (a : Span1) → SpanOnly (quotient_of scope ty o a)
    quotient_only ty None a = ((tt, tt), (tt, tt))
    quotient_only ty (Some (pos zero)) a = ((tt, tt), (tt, tt))
    quotient_only ty (Some (pos (suc n))) a = quotient_ends_only ty (pos (suc n)) (ends_of scope a)
    quotient_only ty (Some (negsuc n)) a = ((tt, tt), (tt, tt))

    minimum_only : (ty : Ty) (a b : Span1) → SpanOnly a → SpanOnly b → FindsOnly (minimum_of scope ty a b)
    minimum_only ty a b h k =
        mapped_only (or_range ty) (or_range_only ty) (span_of (union scope false a.lower b.lower) (joined a.upper b.upper))
        (span_only (union scope false a.lower b.lower) (joined a.upper b.upper) (union_only scope false a.lower b.lower h.0 k.0) (joined_only a.upper b.upper h.1 k.1))

    maximum_only : (ty : Ty) (a b : Span1) → SpanOnly a → SpanOnly b → FindsOnly (maximum_of scope ty a b)
    maximum_only ty a b h k =
        mapped_only (or_range ty) (or_range_only ty) (span_of (joined a.lower b.lower) (union scope true a.upper b.upper))
        (span_only (joined a.lower b.lower) (union scope true a.upper b.upper) (joined_only a.lower b.lower h.0 k.0) (union_only scope true a.upper b.upper h.1 k.1))

    pub choice_only : (ty : Ty) (a b : Span1) → SpanOnly a → SpanOnly b → FindsOnly (choice_of scope ty a b)
    choice_only ty a b h k =
        mapped_only (or_range ty) (or_range_only ty) (span_of (union scope false a.lower b.lower) (union scope true a.upper b.upper))
        (span_only (union scope false a.lower b.lower) (union scope true a.upper b.upper) (union_only scope false a.lower b.lower h.0 k.0) (union_only scope true a.upper b.upper h.1 k.1))

    binary_only : (op : Op) (ty : Ty) (first second : Option ℤ) (a b : Span1) → SpanOnly a → SpanOnly b → FindsOnly (binary_of scope op ty first second a b)
    binary_only Add ty first second a b h k = sum_only ty a b h k
    binary_only Sub ty first second a b h k = difference_only ty a b h k
    binary_only Mul ty first second a b h k = product_of_only ty first second a b h k
    binary_only Div ty first second a b h k = here_only (quotient_of scope ty second a) (quotient_only ty second a)
    binary_only Rem ty first second a b h k = here_only (remainder_of ty second) (remainder_only ty second)
    binary_only Min ty first second a b h k = minimum_only ty a b h k
    binary_only Max ty first second a b h k = maximum_only ty a b h k

  -- ---- intervals

  both_only : (a b : Option Span1) (f : Span1 → Span1 → Option Span1) → FindsOnly a → FindsOnly b → ((s t : Span1) → SpanOnly s → SpanOnly t → FindsOnly (f s t)) → FindsOnly (both_spans a b f)
  both_only None b f h k g = λ s e. absurd (cc e)
  both_only (Some s) None f h k g = λ t e. absurd (cc e)
  both_only (Some s) (Some t) f h k g = g s t (h s refl) (k t refl)

  named_only : (xs : List (List ℕ)) (ss : List Span1) (x : List ℕ) → AllByRecursion SpanOnly ss → FindsOnly (span_named xs ss x)
  named_only [] ss x h = λ s e. absurd (cc e)
  named_only (y ∷ xs) [] x h = λ s e. absurd (cc e)
  named_only (y ∷ xs) (t ∷ ss) x h = of (pointwise nat_eq y x) (named_only xs ss x h.1)
    where
      of : (b : Bool) → FindsOnly (span_named xs ss x) → FindsOnly (if b then Some t else span_named xs ss x)
      of true k = here_only t h.0
      of false k = k

  coordinate_only : (o : Option Span1) → FindsOnly o → FindsOnly (coordinate_of o)
  coordinate_only None h = here_only (range_of I32) ((tt, tt), (tt, tt))
  coordinate_only (Some s) h =
      let g = h s refl in
      span_only (kept (map checked s.lower)) (kept (map checked s.upper)) (kept-all Only (map checked s.lower) (checked-all Only s.lower g.0))
      (kept-all Only (map checked s.upper) (checked-all Only s.upper g.1))

  module _ (scope : List Binding) (functions : List ℕ → Option (Ty × ℕ)) (names : List (List ℕ)) (region : List Span1) (only : AllByRecursion SpanOnly region) where
    abbrev found : Term → Option Span1
    found e = interval scope functions names region e

    pub interval_only : (e : Term) → FindsOnly (interval scope functions names region e)
    interval_only (Number t n) = exactly_only n
    interval_only (Name name) = coordinate_only (span_named names region name) (named_only names region name only)
    interval_only (Call name at) = here_only (range_of (called_type (functions name))) ((tt, tt), (tt, tt))
    interval_only (Minus a) =
        both_only (exactly (pos 0)) (found a) (λ zero s. difference_of scope (shape_type functions a) zero s) (exactly_only (pos 0)) (interval_only a) (difference_only scope (shape_type functions a))
    interval_only (Binary op a b) =
        both_only (found a) (found b) (λ s t. binary_of scope op (result_type op (shape_type functions a)) (literal_of a) (literal_of b) s t) (interval_only a) (interval_only b)
        (binary_only scope op (result_type op (shape_type functions a)) (literal_of a) (literal_of b))
    interval_only (Clamp a l h) =
        both_only (both_spans (found a) (found h) (λ s t. minimum_of scope (shape_type functions a) s t)) (found l) (λ s t. maximum_of scope (shape_type functions a) s t)
        (both_only (found a) (found h) (λ s t. minimum_of scope (shape_type functions a) s t) (interval_only a) (interval_only h) (minimum_only scope (shape_type functions a)))
        (interval_only l) (maximum_only scope (shape_type functions a))
    interval_only (Cast t a) = mapped_only (fitted scope t) (fitted_only scope t) (found a) (interval_only a)
    interval_only (Choice c a b) =
        both_only (found a) (found b) (λ s t. choice_of scope (shape_type functions a) s t) (interval_only a) (interval_only b) (choice_only scope (shape_type functions a))

  -- ---- projections

  -- what is known of a symbol names only these
  abbrev pub BindsOnly : Binding → Type 0
  BindsOnly (Loop span) = SpanOnly span
  BindsOnly (LetMin forms) = AreOnly forms
  BindsOnly (LetMax forms) = AreOnly forms

  candidates_only : (b : Binding) (c : ℤ) → BindsOnly b → AreOnly (candidates b c)
  candidates_only (Loop span) (pos n) h = h.1
  candidates_only (Loop span) (negsuc n) h = h.0
  candidates_only (LetMin forms) c h = h
  candidates_only (LetMax forms) c h = h

  module _ (scope : List Binding) where
    both_lists : (largest : Bool) (a b : Option (List Form)) → AllIn Only a → AllIn Only b → AllIn Only (both scope largest a b)
    both_lists false a b h k = both_of-all scope Only a b h k
    both_lists true None b h k = λ fs e. absurd (cc e)
    both_lists true (Some a) None h k = λ fs e. absurd (cc e)
    both_lists true (Some a) (Some b) h k = union_only scope true a b (h a refl) (k b refl)

    fold_lists : (largest : Bool) (g : Form → Option (List Form)) (a : Option (List Form)) (fs : List Form) → AllIn Only a → AllByRecursion (λ f. AllIn Only (g f)) fs →
        AllIn Only (fold (both scope largest) a (map g fs))
    fold_lists largest g a [] h k = h
    fold_lists largest g a (f ∷ fs) h k = fold_lists largest g (both scope largest a (g f)) fs (both_lists largest a (g f) h k.0) k.1

    count_lists : (largest : Bool) (g : Form → Option (List Form)) (fs : List Form) → AllByRecursion (λ f. AllIn Only (g f)) fs → AllIn Only (that_count scope largest (map g fs))
    count_lists largest g [] h = all_in_some Only [] tt
    count_lists largest g (f ∷ fs) h = fold_lists largest g (g f) fs h.0 h.1

    each_list : (g : Form → Option (List Form)) → ((f : Form) → Only f → AllIn Only (g f)) → (fs : List Form) → AreOnly fs → AllByRecursion (λ f. AllIn Only (g f)) fs
    each_list g h [] a = tt
    each_list g h (f ∷ fs) a = (h f a.0, each_list g h fs a.1)

    module _ (binds : (n : ℕ) (b : Binding) → slice_get scope n ≡ Some b → BindsOnly b) (inner : List ℕ) where
      at_only : (n : ℕ) (o : Option Binding) (c : ℤ) (g : Form → Option (List Form)) → slice_get scope n ≡ o → ((f : Form) → Only f → AllIn Only (g f)) → AllIn Only (bounds_at scope o c g)
      at_only n None c g e h = all_in_some Only [] tt
      at_only n (Some b) c g e h = count_lists (any_may_be b c) g (candidates b c) (each_list g h (candidates b c) (candidates_only b c (binds n b e)))

      chained_only : (made : Option Form) (g : Form → Option (List Form)) → Made Only made → ((f : Form) → Only f → AllIn Only (g f)) → AllIn Only (option_and_then g made)
      chained_only None g m h = λ fs e. absurd (cc e)
      chained_only (Some f) g m h = h f (m f refl)

      without_only : (f : Form) (n : ℕ) → Only f → Only (without f n)
      without_only f n h = filter-all (λ t. P t.symbol) (λ t. not (t.symbol == n)) f.terms h

      below_only : (n : ℕ) (f : Form) → Only f → AllIn Only (bounds_below scope inner n f)
      below_only zero f h = all_in_some Only (bounds_itself inner f) (either_way AreOnly (names_inner inner f) [] (f ∷ []) (λ t. tt) (λ t. (h, tt)))
      below_only (suc n) f h =
          either_way (λ (o : Option (List Form)). AllIn Only o) (is_eliminated inner n (factor_of f.terms n)) _ _
          (λ some. at_only n (slice_get scope n) (factor_of f.terms n) _ refl
          (λ other k. chained_only (replaced f n (factor_of f.terms n) other) (λ next. bounds_below scope inner n next)
          (only_combined (without f n) (factor_of f.terms n) other (without_only f n h) k) (λ next j. below_only n next j)))
          (λ none. below_only n f h)

      eliminated_only : (f : Form) → Only f → AllIn Only (eliminated scope inner f)
      eliminated_only f h =
          either_way (λ (o : Option (List Form)). AllIn Only o) (is_within_limits f) _ None
          (λ within. either_way (λ (o : Option (List Form)). AllIn Only o) (nat_le (replacements_below scope inner (length scope) f) 4096) _ (Some [])
          (λ few. below_only (length scope) f h) (λ many. all_in_some Only [] tt))
          (λ outside. λ fs e. absurd (cc e))

      lists_only : (o : Option (List Form)) (g : List Form → Option (List Form)) → AllIn Only o → ((fs : List Form) → AreOnly fs → AllIn Only (g fs)) → AllIn Only (option_and_then g o)
      lists_only None g m h = λ fs e. absurd (cc e)
      lists_only (Some fs) g m h = h fs (m fs refl)

      bounds_only : (upper : Bool) (f : Form) → Only f → AllIn Only (form_bounds scope inner upper f)
      bounds_only true f h = eliminated_only f h
      bounds_only false f h =
          lists_only (option_and_then (λ n. eliminated scope inner n) (negated f)) (λ bounds. multiples (negsuc 0) bounds)
          (chained_only (negated f) (λ n. eliminated scope inner n) (only_combined (number (pos 0)) (negsuc 0) f tt h) eliminated_only)
          (multiples_only (negsuc 0))

      side_only : (upper : Bool) (fs : List Form) → AreOnly fs → AllIn Only (side_bounds scope inner upper fs)
      side_only upper fs h = fold_of-all scope Only (form_bounds scope inner upper) (Some []) fs (all_in_some Only [] tt) (each_list (form_bounds scope inner upper) (bounds_only upper) fs h)

      pub projected_only : (s : Span1) → SpanOnly s → FindsOnly (projected_span scope inner s)
      projected_only s h = span_only (side_bounds scope inner false s.lower) (side_bounds scope inner true s.upper) (side_only false s.lower h.0) (side_only true s.upper h.1)
