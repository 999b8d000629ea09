-- What an index stays within that only shifts a variable by literals and clamps it to literals: each form has the multiples of a form of a coordinate, or none.
use Rattle.std.proofs.Common.{◌≡◌, ℕ, Bool, true, false, ◌&&◌, ◌||◌, List, [], ◌∷◌, ◌++◌, map, Option, Some, None, refl, sym, ap, subst}
use Rattle.std.specs.Prelude.{ℤ, pos, negsuc, nat_eq, option_map, option_to_list, if◌then◌else◌}
use Rattle.std.specs.List.{AllByRecursion}
use Rattle.std.specs.Cmp.Lexicographic.{pointwise}
use Rattle.numeric.specs.declared.ty.Ty.{Ty}
use Rattle.numeric.specs.declared.ty.Ty.TheVariants.{I32}
use Rattle.numeric.specs.declared.op.Op.{Op}
use Rattle.numeric.specs.declared.op.Op.TheVariants.{Add, Sub, Mul, Div, Rem, Min, Max}
use Rattle.numeric.specs.Apply.{result_type}
use Rattle.tree.specs.Term.{Term, Number, Name, Call, Minus, Binary, Clamp, Cast, Choice}
use Rattle.tree.specs.Typing.{shape_type}
use Rattle.lin.specs.Forms.{Form, number, plus_terms, plus_multiple, combined}
use Rattle.lin.specs.Search.{is_empty}
use Rattle.lin.specs.declared.form.Multiple.{Multiple}
use Rattle.lin.specs.declared.scope.Binding.{Binding}
use Rattle.lin.specs.declared.span.Span1.{Span1}
use Rattle.lin.proofs.Limits.{combined-means}
use Rattle.bounds.specs.Lists.{checked, kept, all_combined, moved, gap, all_moved, union}
use Rattle.bounds.specs.Spans.{span_of, range_of, exactly, ends_of, stay, fitted, sum_of, difference_of, or_range, joined, minimum_of, maximum_of, binary_of}
use Rattle.bounds.specs.Interval.{span_named, coordinate_of, literal_of, interval, both}
use Rattle.bounds.proofs.ListSound.{AllIn, Made, all-append, kept-all, checked-all, all_combined-all}
use Rattle.soundness.proofs.Refines.{and_parts}
use Rattle.completeness.specs.Simple.{is_literal, is_shift, is_simple}

some_span : (s t : Span1) → Some s ≡ Some t → s ≡ t
some_span s t e = cc

-- a number, without multiples
abbrev IsNumber : Form → Type 0
IsNumber f = f.terms ≡ []

abbrev AreNumbers : Span1 → Type 0
AreNumbers s = AllByRecursion IsNumber s.lower × AllByRecursion IsNumber s.upper

-- of these multiples something is so, and of none
module _ (P : List Multiple → Type 0) (nothing : P []) where
  abbrev pub Keeps : Form → Type 0
  Keeps f = P f.terms

  abbrev AreKept : List Form → Type 0
  AreKept fs = AllByRecursion Keeps fs

  abbrev pub SpanKeeps : Span1 → Type 0
  SpanKeeps s = AreKept s.lower × AreKept s.upper

  abbrev pub FindsKept : Option Span1 → Type 0
  FindsKept o = (s : Span1) → o ≡ Some s → SpanKeeps s

  -- ---- forms

  -- a number more, or some times a number more
  with_number : (a : Form) (k : ℤ) (b : Form) → Keeps a → IsNumber b → Keeps (plus_multiple a k b)
  with_number a k b h e = subst P (sym (ap (plus_terms a.terms k) e)) h

  combined_kept : (a : Form) (k : ℤ) (b : Form) → Keeps a → IsNumber b → Made Keeps (combined a k b)
  combined_kept a k b h e = λ f q. subst Keeps (sym (combined-means a k b f q).is) (with_number a k b h e)

  numbers_kept : (fs : List Form) → AllByRecursion IsNumber fs → AreKept fs
  numbers_kept [] h = tt
  numbers_kept (f ∷ fs) h = (subst P (sym h.0) nothing, numbers_kept fs h.1)

  -- ---- lists of forms

  moved_kept : (upper : Bool) (f : Form) (o : Option ℤ) → Keeps f → AllByRecursion (λ m. Made Keeps m) (option_to_list (option_map (moved upper f) o))
  moved_kept true f None h = tt
  moved_kept true f (Some d) h = (combined_kept f (pos 1) (number d) h refl, tt)
  moved_kept false f None h = tt
  moved_kept false f (Some d) h = (combined_kept f (negsuc 0) (number d) h refl, tt)

  module _ (scope : List Binding) where
    all_moved_kept : (upper : Bool) (fs others : List Form) → AreKept fs → AllByRecursion (λ m. Made Keeps m) (all_moved scope upper fs others)
    all_moved_kept upper [] others h = tt
    all_moved_kept upper (f ∷ fs) others h =
        all-append (λ m. Made Keeps m) (option_to_list (option_map (moved upper f) (gap scope upper f others))) (all_moved scope upper fs others)
        (moved_kept upper f (gap scope upper f others) h.0) (all_moved_kept upper fs others h.1)

    union_kept : (upper : Bool) (fs gs : List Form) → AreKept fs → AreKept gs → AllIn Keeps (union scope upper fs gs)
    union_kept upper fs gs h k =
        kept-all Keeps (all_moved scope upper fs gs ++ all_moved scope upper gs fs)
        (all-append (λ m. Made Keeps m) (all_moved scope upper fs gs) (all_moved scope upper gs fs) (all_moved_kept upper fs gs h) (all_moved_kept upper gs fs k))

  joined_kept : (fs gs : List Form) → AreKept fs → AreKept gs → AllIn Keeps (joined fs gs)
  joined_kept fs gs h k = kept-all Keeps (map checked (fs ++ gs)) (checked-all Keeps (fs ++ gs) (all-append Keeps fs gs h k))

  sums_kept : (fs : List Form) (k : ℤ) (gs : List Form) → AreKept fs → AllByRecursion IsNumber gs → AllIn Keeps (kept (all_combined fs k gs))
  sums_kept fs k gs h j = kept-all Keeps (all_combined fs k gs) (all_combined-all Keeps IsNumber Keeps k (λ a b x y. with_number a k b x y) fs gs h j)

  -- ---- spans

  span_kept : (lower upper : Option (List Form)) → AllIn Keeps lower → AllIn Keeps upper → FindsKept (span_of lower upper)
  span_kept None upper h k = λ s e. absurd (cc e)
  span_kept (Some ls) None h k = λ s e. absurd (cc e)
  span_kept (Some ls) (Some us) h k = λ s e. subst SpanKeeps (some_span (record { lower = ls; upper = us }) s e) (h ls refl, k us refl)

  here_kept : (s : Span1) → SpanKeeps s → FindsKept (Some s)
  here_kept s h = λ t e. subst SpanKeeps (some_span s t e) h

  mapped_kept : (f : Span1 → Span1) → ((s : Span1) → SpanKeeps s → SpanKeeps (f s)) → (o : Option Span1) → FindsKept o → FindsKept (option_map f o)
  mapped_kept f keeps None h = λ s e. absurd (cc e)
  mapped_kept f keeps (Some t) h = here_kept (f t) (keeps t (h t refl))

  range_kept : (ty : Ty) → SpanKeeps (range_of ty)
  range_kept ty = ((nothing, tt), (nothing, tt))

  or_range_kept : (ty : Ty) (s : Span1) → SpanKeeps s → SpanKeeps (or_range ty s)
  or_range_kept ty s h = of (is_empty s.lower || is_empty s.upper)
    where
      of : (b : Bool) → SpanKeeps (if b then range_of ty else s)
      of true = range_kept ty
      of false = h

  module _ (scope : List Binding) where
    fitted_kept : (ty : Ty) (s : Span1) → SpanKeeps s → SpanKeeps (fitted scope ty s)
    fitted_kept ty s h = of (stay ty (ends_of scope s))
      where
        of : (b : Bool) → SpanKeeps (if b then s else range_of ty)
        of true = h
        of false = range_kept ty

    sum_kept : (ty : Ty) (a b : Span1) → SpanKeeps a → AreNumbers b → FindsKept (sum_of scope ty a b)
    sum_kept ty a b h k =
        mapped_kept (fitted scope ty) (fitted_kept ty) (span_of (kept (all_combined a.lower (pos 1) b.lower)) (kept (all_combined a.upper (pos 1) b.upper)))
        (span_kept (kept (all_combined a.lower (pos 1) b.lower)) (kept (all_combined a.upper (pos 1) b.upper)) (sums_kept a.lower (pos 1) b.lower h.0 k.0) (sums_kept a.upper (pos 1) b.upper h.1 k.1))

    difference_kept : (ty : Ty) (a b : Span1) → SpanKeeps a → AreNumbers b → FindsKept (difference_of scope ty a b)
    difference_kept ty a b h k =
        mapped_kept (fitted scope ty) (fitted_kept ty) (span_of (kept (all_combined a.lower (negsuc 0) b.upper)) (kept (all_combined a.upper (negsuc 0) b.lower)))
        (span_kept (kept (all_combined a.lower (negsuc 0) b.upper)) (kept (all_combined a.upper (negsuc 0) b.lower)) (sums_kept a.lower (negsuc 0) b.upper h.0 k.1)
        (sums_kept a.upper (negsuc 0) b.lower h.1 k.0))

    shift_kept : (op : Op) → is_shift op ≡ true → (ty : Ty) (first second : Option ℤ) (a b : Span1) → SpanKeeps a → AreNumbers b → FindsKept (binary_of scope op ty first second a b)
    shift_kept Add e ty first second a b h k = sum_kept ty a b h k
    shift_kept Sub e ty first second a b h k = difference_kept ty a b h k
    shift_kept Mul e ty first second a b h k = absurd (cc e)
    shift_kept Div e ty first second a b h k = absurd (cc e)
    shift_kept Rem e ty first second a b h k = absurd (cc e)
    shift_kept Min e ty first second a b h k = absurd (cc e)
    shift_kept Max e ty first second a b h k = absurd (cc e)

    minimum_kept : (ty : Ty) (a b : Span1) → SpanKeeps a → SpanKeeps b → FindsKept (minimum_of scope ty a b)
    minimum_kept ty a b h k =
        mapped_kept (or_range ty) (or_range_kept ty) (span_of (union scope false a.lower b.lower) (joined a.upper b.upper))
        (span_kept (union scope false a.lower b.lower) (joined a.upper b.upper) (union_kept scope false a.lower b.lower h.0 k.0) (joined_kept a.upper b.upper h.1 k.1))

    maximum_kept : (ty : Ty) (a b : Span1) → SpanKeeps a → SpanKeeps b → FindsKept (maximum_of scope ty a b)
    maximum_kept ty a b h k =
        mapped_kept (or_range ty) (or_range_kept ty) (span_of (joined a.lower b.lower) (union scope true a.upper b.upper))
        (span_kept (joined a.lower b.lower) (union scope true a.upper b.upper) (joined_kept a.lower b.lower h.0 k.0) (union_kept scope true a.upper b.upper h.1 k.1))

  -- ---- intervals

  both_kept : (Q : Span1 → Type 0) (a b : Option Span1) (f : Span1 → Span1 → Option Span1) → FindsKept a → ((s : Span1) → b ≡ Some s → Q s) →
      ((s t : Span1) → SpanKeeps s → Q t → FindsKept (f s t)) → FindsKept (both a b f)
  both_kept Q None b f h k g = λ s e. absurd (cc e)
  both_kept Q (Some s) None f h k g = λ t e. absurd (cc e)
  both_kept Q (Some s) (Some t) f h k g = g s t (h s refl) (k t refl)

  named_kept : (xs : List (List ℕ)) (ss : List Span1) (x : List ℕ) → AllByRecursion SpanKeeps ss → FindsKept (span_named xs ss x)
  named_kept [] ss x h = λ s e. absurd (cc e)
  named_kept (y ∷ xs) [] x h = λ s e. absurd (cc e)
  named_kept (y ∷ xs) (t ∷ ss) x h = of (pointwise nat_eq y x) (named_kept xs ss x h.1)
    where
      of : (b : Bool) → FindsKept (span_named xs ss x) → FindsKept (if b then Some t else span_named xs ss x)
      of true k = here_kept t h.0
      of false k = k

  coordinate_kept : (o : Option Span1) → FindsKept o → FindsKept (coordinate_of o)
  coordinate_kept None h = here_kept (range_of I32) (range_kept I32)
  coordinate_kept (Some s) h =
      let g = h s refl in
      span_kept (kept (map checked s.lower)) (kept (map checked s.upper)) (kept-all Keeps (map checked s.lower) (checked-all Keeps s.lower g.0))
      (kept-all Keeps (map checked s.upper) (checked-all Keeps s.upper g.1))

  number_found : (z : ℤ) (s : Span1) → exactly z ≡ Some s → AreNumbers s
  number_found z s e = of (kept (checked (number z) ∷ [])) one (kept (checked (number z) ∷ [])) one e
    where
      one : AllIn IsNumber (kept (checked (number z) ∷ []))
      one = kept-all IsNumber (checked (number z) ∷ []) (checked-all IsNumber (number z ∷ []) (refl, tt))

      of : (a : Option (List Form)) → AllIn IsNumber a → (b : Option (List Form)) → AllIn IsNumber b → span_of a b ≡ Some s → AreNumbers s
      of None h b k q = absurd (cc q)
      of (Some ls) h None k q = absurd (cc q)
      of (Some ls) h (Some us) k q = subst AreNumbers (some_span (record { lower = ls; upper = us }) s q) (h ls refl, k us refl)

  module _ (scope : List Binding) (functions : List ℕ → Option (Ty × ℕ)) (names : List (List ℕ)) (region : List Span1) (kept_all : AllByRecursion SpanKeeps region) where
    abbrev found : Term → Option Span1
    found e = interval scope functions names region e

    literal_found : (e : Term) → is_literal e ≡ true → (s : Span1) → interval scope functions names region e ≡ Some s → AreNumbers s
    literal_found (Number t n) h s q = number_found n s q
    literal_found (Name x) h s q = absurd (cc h)
    literal_found (Call name at) h s q = absurd (cc h)
    literal_found (Minus a) h s q = absurd (cc h)
    literal_found (Binary op a b) h s q = absurd (cc h)
    literal_found (Clamp a l u) h s q = absurd (cc h)
    literal_found (Cast t a) h s q = absurd (cc h)
    literal_found (Choice c a b) h s q = absurd (cc h)

    literal_kept : (e : Term) → is_literal e ≡ true → FindsKept (interval scope functions names region e)
    literal_kept e h = λ s q. (let k = literal_found e h s q in (numbers_kept s.lower k.0, numbers_kept s.upper k.1))

    pub simple_kept : (e : Term) → is_simple e ≡ true → FindsKept (interval scope functions names region e)
    simple_kept (Number t n) h = literal_kept (Number t n) refl
    simple_kept (Name name) h = coordinate_kept (span_named names region name) (named_kept names region name kept_all)
    simple_kept (Call name at) h = absurd (cc h)
    simple_kept (Minus a) h = absurd (cc h)
    simple_kept (Binary op a b) h =
        let p = and_parts (is_shift op) (is_literal b && is_simple a) h in
        let q = and_parts (is_literal b) (is_simple a) p.1 in
        both_kept AreNumbers (found a) (found b) (λ s t. binary_of scope op (result_type op (shape_type functions a)) (literal_of a) (literal_of b) s t) (simple_kept a q.1) (literal_found b q.0)
        (λ s t x y. shift_kept scope op p.0 (result_type op (shape_type functions a)) (literal_of a) (literal_of b) s t x y)
    simple_kept (Clamp a l u) h =
        let p = and_parts (is_literal l && is_literal u) (is_simple a) h in
        let q = and_parts (is_literal l) (is_literal u) p.0 in
        both_kept SpanKeeps (both (found a) (found u) (λ s t. minimum_of scope (shape_type functions a) s t)) (found l) (λ s t. maximum_of scope (shape_type functions a) s t)
        (both_kept SpanKeeps (found a) (found u) (λ s t. minimum_of scope (shape_type functions a) s t) (simple_kept a p.1) (literal_kept u q.1)
        (λ s t x y. minimum_kept scope (shape_type functions a) s t x y)) (literal_kept l q.0) (λ s t x y. maximum_kept scope (shape_type functions a) s t x y)
    simple_kept (Cast t a) h = absurd (cc h)
    simple_kept (Choice c a b) h = absurd (cc h)
