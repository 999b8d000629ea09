-- What bounds find of expressions, and of spans that they free of inner symbols, is within the limits of forms, whatever they are given.
use Rattle.std.proofs.Common.{◌≡◌, ℕ, zero, suc, ◌≤◌, Bool, true, false, ◌&&◌, ◌||◌, List, [], ◌∷◌, ◌++◌, map, Option, Some, None, refl, subst, arith}
use Rattle.std.specs.Prelude.{ℤ, pos, negsuc, ◌-ℤ◌, ◌*ℤ◌, ◌≤ℤ◌, int_le, nat_le, fold, option_map, option_to_list, if◌then◌else◌}
use Rattle.std.specs.List.{AllByRecursion}
use Rattle.std.specs.Int.{int_min}
use Rattle.std.specs.Int.RustNames.{unsigned_abs}
use Rattle.std.proofs.Math.Nat.{div-le_self}
use Rattle.std.proofs.lemmas.Int.{ints, clamps}
use Rattle.std.proofs.lemmas.Bool.Decides.{nat_tests}
use Rattle.numeric.specs.declared.ty.Ty.{Ty}
use Rattle.numeric.specs.declared.ty.Ty.TheVariants.{U8, U16, U32, I8, I16, I32}
use Rattle.numeric.specs.declared.op.Op.{Op}
use Rattle.numeric.specs.declared.op.Op.TheVariants.{Add, Sub, Mul, Div, Rem, Min, Max}
use Rattle.numeric.specs.Wrap.{least, greatest}
use Rattle.numeric.specs.Apply.{quotient, result_type}
use Rattle.tree.specs.Term.{Term, Number, Name, Call, Minus, Binary, Clamp, Cast, Choice}
use Rattle.tree.specs.Names.{called_type}
use Rattle.tree.specs.Typing.{shape_type}
use Rattle.lin.specs.Forms.{Form, number, is_within_limits, combined, IsWithin}
use Rattle.lin.specs.Search.{sup, sup_of_difference, smaller, is_empty}
use Rattle.lin.specs.declared.scope.Binding.{Binding}
use Rattle.lin.specs.declared.span.Span1.{Span1}
use Rattle.lin.proofs.TermLemmas.{either_way}
use Rattle.lin.proofs.Limits.{combined-means}
use Rattle.lin.proofs.Soundness.{difference-small, sup-small}
use Rattle.bounds.specs.Lists.{checked, with_made, kept, all_combined, moved, gap, all_moved, union}
use Rattle.bounds.specs.Spans.{span_of, numbers, range_of, exactly, depth, highest, both_ends, ends_of, are_of, stay, fitted}
use Rattle.bounds.specs.Spans.{between, sum_of, difference_of, multiples, multiple_of, smallest_of, largest_of, product_ends, ends_product, product_of}
use Rattle.bounds.specs.Spans.{ends_quotient, quotient_of, remainder_of, or_range, joined, minimum_of, maximum_of, choice_of, binary_of}
use Rattle.bounds.specs.declared.ends.Ends.{Ends}
use Rattle.bounds.specs.Interval.{span_named, coordinate_of, literal_of, interval}
use Rattle.bounds.specs.Interval.{both as both_spans}
use Rattle.bounds.specs.Projection.Elimination.{both}
use Rattle.bounds.specs.Projection.Projection.{form_bounds, side_bounds, projected_span}
use Rattle.bounds.proofs.ListSound.{AllIn, Made, all_in_some, all-append, kept-all}
use Rattle.completeness.proofs.Limited.{Limited, AreLimited}

abbrev pub SpanLimited : Span1 → Type 0
SpanLimited s = AreLimited s.lower × AreLimited s.upper

abbrev pub FindsLimited : Option Span1 → Type 0
FindsLimited o = (s : Span1) → o ≡ Some s → SpanLimited s

some_span : (s t : Span1) → Some s ≡ Some t → s ≡ t
some_span s t e = cc

some_form : (f g : Form) → Some f ≡ Some g → f ≡ g
some_form f g e = cc

-- ---- lists of forms

abbrev AreMade : List (Option Form) → Type 0
AreMade ms = AllByRecursion (λ m. Made Limited m) ms

combined_made : (a : Form) (k : ℤ) (b : Form) → Made Limited (combined a k b)
combined_made a k b = λ f e. (combined-means a k b f e).within

checked_made : (f : Form) → Made Limited (checked f)
checked_made f = either_way (λ (m : Option Form). Made Limited m) (is_within_limits f) (Some f) None (λ t. λ g e. subst Limited (some_form f g e) t) (λ t. λ g e. absurd (cc e))

copies_made : (fs : List Form) → AreMade (map checked fs)
copies_made [] = tt
copies_made (f ∷ fs) = (checked_made f, copies_made fs)

row_made : (a : Form) (k : ℤ) (bs : List Form) → AreMade (map (λ b. combined a k b) bs)
row_made a k [] = tt
row_made a k (b ∷ bs) = (combined_made a k b, row_made a k bs)

sums_made : (fs : List Form) (k : ℤ) (gs : List Form) → AreMade (all_combined fs k gs)
sums_made [] k gs = tt
sums_made (f ∷ fs) k gs = all-append (λ m. Made Limited m) (map (λ b. combined f k b) gs) (all_combined fs k gs) (row_made f k gs) (sums_made fs k gs)

moved_made : (upper : Bool) (f : Form) (o : Option ℤ) → AreMade (option_to_list (option_map (moved upper f) o))
moved_made true f None = tt
moved_made true f (Some d) = (combined_made f (pos 1) (number d), tt)
moved_made false f None = tt
moved_made false f (Some d) = (combined_made f (negsuc 0) (number d), tt)

all_moved_made : (scope : List Binding) (upper : Bool) (fs others : List Form) → AreMade (all_moved scope upper fs others)
all_moved_made scope upper [] others = tt
all_moved_made scope upper (f ∷ fs) others =
    all-append (λ m. Made Limited m) (option_to_list (option_map (moved upper f) (gap scope upper f others))) (all_moved scope upper fs others) (moved_made upper f (gap scope upper f others))
    (all_moved_made scope upper fs others)

union_limited : (scope : List Binding) (upper : Bool) (fs gs : List Form) → AllIn Limited (union scope upper fs gs)
union_limited scope upper fs gs =
    kept-all Limited (all_moved scope upper fs gs ++ all_moved scope upper gs fs)
    (all-append (λ m. Made Limited m) (all_moved scope upper fs gs) (all_moved scope upper gs fs) (all_moved_made scope upper fs gs) (all_moved_made scope upper gs fs))

copies_limited : (fs : List Form) → AllIn Limited (kept (map checked fs))
copies_limited fs = kept-all Limited (map checked fs) (copies_made fs)

joined_limited : (fs gs : List Form) → AllIn Limited (joined fs gs)
joined_limited fs gs = copies_limited (fs ++ gs)

sums_limited : (fs : List Form) (k : ℤ) (gs : List Form) → AllIn Limited (kept (all_combined fs k gs))
sums_limited fs k gs = kept-all Limited (all_combined fs k gs) (sums_made fs k gs)

multiples_limited : (k : ℤ) (fs : List Form) → AllIn Limited (multiples k fs)
multiples_limited k fs = sums_limited (number (pos 0) ∷ []) k fs

-- ---- spans

span_limited : (lower upper : Option (List Form)) → AllIn Limited lower → AllIn Limited upper → FindsLimited (span_of lower upper)
span_limited None upper h k = λ s e. absurd (cc e)
span_limited (Some ls) None h k = λ s e. absurd (cc e)
span_limited (Some ls) (Some us) h k = λ s e. subst SpanLimited (some_span (record { lower = ls; upper = us }) s e) (h ls refl, k us refl)

here_limited : (s : Span1) → SpanLimited s → FindsLimited (Some s)
here_limited s h = λ t e. subst SpanLimited (some_span s t e) h

mapped_limited : (f : Span1 → Span1) → ((s : Span1) → SpanLimited s → SpanLimited (f s)) → (o : Option Span1) → FindsLimited o → FindsLimited (option_map f o)
mapped_limited f keeps None h = λ s e. absurd (cc e)
mapped_limited f keeps (Some t) h = here_limited (f t) (keeps t (h t refl))

exactly_limited : (z : ℤ) → FindsLimited (exactly z)
exactly_limited z = (let one = copies_limited (number z ∷ []) in span_limited (kept (checked (number z) ∷ [])) (kept (checked (number z) ∷ [])) one one)

-- ---- numbers

-- numbers of 40 bits
abbrev IsMiddling : ℤ → Type 0
IsMiddling z = (negsuc 1099511627775 ≤ℤ z) × (z ≤ℤ pos 1099511627776)

abs_limited : (z : ℤ) → unsigned_abs z ≤ 1099511627776 → Limited (number z)
abs_limited z le = of (unsigned_abs z) le
  where
    of : (n : ℕ) → n ≤ 1099511627776 → nat_le n 1099511627776 ≡ true
    of n le = grind (arith, nat_tests)

middling_abs : (z : ℤ) → IsMiddling z → unsigned_abs z ≤ 1099511627776
middling_abs (pos n) h = (let most = h.1 in omega (arith, ints, most))
middling_abs (negsuc n) h = (let least = h.0 in omega (arith, ints, least))

middling_limited : (z : ℤ) → IsMiddling z → Limited (number z)
middling_limited z h = abs_limited z (middling_abs z h)

numbers_limited : (low high : ℤ) → IsMiddling low → IsMiddling high → SpanLimited (numbers low high)
numbers_limited low high h k = ((middling_limited low h, tt), (middling_limited high k, tt))

-- where the values of a type lie
record IsTypeSmall (ty : Ty) : Type 0 where
  from : negsuc 2147483647 ≤ℤ least ty
  least_low : least ty ≤ℤ pos 0
  greatest_high : pos 0 ≤ℤ greatest ty
  to : greatest ty ≤ℤ pos 4294967295

type_small : (ty : Ty) → IsTypeSmall ty
type_small U8 = record { from = omega (arith, ints); least_low = omega (arith, ints); greatest_high = omega (arith, ints); to = omega (arith, ints) }
type_small U16 = record { from = omega (arith, ints); least_low = omega (arith, ints); greatest_high = omega (arith, ints); to = omega (arith, ints) }
type_small U32 = record { from = omega (arith, ints); least_low = omega (arith, ints); greatest_high = omega (arith, ints); to = omega (arith, ints) }
type_small I8 = record { from = omega (arith, ints); least_low = omega (arith, ints); greatest_high = omega (arith, ints); to = omega (arith, ints) }
type_small I16 = record { from = omega (arith, ints); least_low = omega (arith, ints); greatest_high = omega (arith, ints); to = omega (arith, ints) }
type_small I32 = record { from = omega (arith, ints); least_low = omega (arith, ints); greatest_high = omega (arith, ints); to = omega (arith, ints) }

least_middling : (ty : Ty) → IsMiddling (least ty)
least_middling ty = (let t = type_small ty in let a = t.from in let b = t.least_low in (omega (arith, ints, a), omega (arith, ints, b)))

greatest_middling : (ty : Ty) → IsMiddling (greatest ty)
greatest_middling ty = (let t = type_small ty in let a = t.greatest_high in let b = t.to in (omega (arith, ints, a), omega (arith, ints, b)))

range_limited : (ty : Ty) → SpanLimited (range_of ty)
range_limited ty = numbers_limited (least ty) (greatest ty) (least_middling ty) (greatest_middling ty)

or_range_limited : (ty : Ty) (s : Span1) → SpanLimited s → SpanLimited (or_range ty s)
or_range_limited ty s h = either_way SpanLimited (is_empty s.lower || is_empty s.upper) (range_of ty) s (λ t. range_limited ty) (λ t. h)

both_true : (a b : Bool) → (a && b) ≡ true → (a ≡ true) × (b ≡ true)
both_true true b h = (refl, h)
both_true false b h = absurd (cc h)

-- from one number to another of the type, where these are middling if they are of it
between_limited : (ty : Ty) (e : Ends) → (least ty ≤ℤ e.low → e.high ≤ℤ greatest ty → (e.low ≤ℤ pos 1099511627776) × (negsuc 1099511627775 ≤ℤ e.high)) → SpanLimited (between ty e)
unfolding between
between_limited ty e near =
    either_way SpanLimited (are_of ty e) (numbers e.low e.high) (range_of ty)
    (λ t.
    let b = both_true (int_le (least ty) e.low) (int_le e.high (greatest ty)) t in
    let first = b.0 in
    let last = b.1 in
    let low : least ty ≤ℤ e.low = omega (arith, ints, first) in
    let high : e.high ≤ℤ greatest ty = omega (arith, ints, last) in
    let n = near low high in
    let most = n.0 in
    let fewest = n.1 in
    let s = type_small ty in
    let from = s.from in
    let to = s.to in
    numbers_limited e.low e.high (omega (arith, ints, low, from), omega (arith, ints, most)) (omega (arith, ints, fewest), omega (arith, ints, high, to)))
    (λ t. range_limited ty)

least_of_four : (w x y z : ℤ) → smallest_of w x y z ≤ℤ largest_of w x y z
least_of_four w x y z = omega (arith, ints, clamps)

product_limited : (ty : Ty) (a b : Option Ends) → SpanLimited (ends_product ty a b)
product_limited ty None b = range_limited ty
product_limited ty (Some a) None = range_limited ty
product_limited ty (Some a) (Some b) =
    between_limited ty (product_ends a b)
    (λ low high.
    let order = least_of_four (a.low *ℤ b.low) (a.low *ℤ b.high) (a.high *ℤ b.low) (a.high *ℤ b.high) in
    let s = type_small ty in
    let from = s.from in
    let to = s.to in
    near (product_ends a b).low (product_ends a b).high (least ty) (greatest ty) order low high from to)
  where
    near : (p q l g : ℤ) → p ≤ℤ q → l ≤ℤ p → q ≤ℤ g → negsuc 2147483647 ≤ℤ l → g ≤ℤ pos 4294967295 → (p ≤ℤ pos 1099511627776) × (negsuc 1099511627775 ≤ℤ q)
    near p q l g order low high from to = (omega (arith, ints, order, high, to), omega (arith, ints, order, low, from))

-- ends of 40 bits
abbrev AreMiddling : Option Ends → Type 0
AreMiddling o = (e : Ends) → o ≡ Some e → IsWithin 1099511627776 e.low × IsWithin 1099511627776 e.high

quotient_near : (a : ℤ) (n : ℕ) → IsWithin 1099511627776 a → IsMiddling (quotient a (pos (suc n)))
quotient_near (pos m) n h = (omega (arith, ints), (let most = div-le_self m (suc n) in omega (arith, ints, most, h)))
quotient_near (negsuc m) n h = ((let most = div-le_self m (suc n) in omega (arith, ints, most, h)), omega (arith, ints))

quotient_ends_limited : (ty : Ty) (n : ℕ) (a : Option Ends) → AreMiddling a → SpanLimited (ends_quotient ty (pos (suc n)) a)
quotient_ends_limited ty n None h = range_limited ty
quotient_ends_limited ty n (Some a) h =
    let k = h a refl in
    between_limited ty (record { low = quotient a.low (pos (suc n)); high = quotient a.high (pos (suc n)) })
    (λ low high. ((quotient_near a.low n k.0).1, (quotient_near a.high n k.1).0))

remainder_limited : (ty : Ty) (o : Option ℤ) → ((n : ℤ) → o ≡ Some n → Limited (number n)) → SpanLimited (remainder_of ty o)
remainder_limited ty None h = range_limited ty
remainder_limited ty (Some (pos zero)) h = range_limited ty
remainder_limited ty (Some (pos (suc n))) h = (((middling_limited (pos 0) (omega (arith, ints), omega (arith, ints))), tt), (less n (h (pos (suc n)) refl), tt))
  where
    less : (n : ℕ) → nat_le (suc n) 1099511627776 ≡ true → nat_le n 1099511627776 ≡ true
    less n h = grind (arith, nat_tests)
remainder_limited ty (Some (negsuc n)) h = range_limited ty

-- ---- constant ends

abbrev IsNear : Option ℤ → Type 0
IsNear o = (m : ℤ) → o ≡ Some m → IsWithin 1099511627776 m

smaller_near : (a b : Option ℤ) → IsNear a → IsNear b → IsNear (smaller a b)
smaller_near None b h k = k
smaller_near (Some x) None h k = h
smaller_near (Some x) (Some y) h k = λ m e. (let p : int_min x y ≡ m = cc e in let one = h x refl in let two = k y refl in omega (arith, ints, clamps, p, one, two))

fold_near : (f : Form → Option ℤ) → ((g : Form) → IsNear (f g)) → (a : Option ℤ) (fs : List Form) → IsNear a → IsNear (fold smaller a (map f fs))
fold_near f h a [] k = k
fold_near f h a (g ∷ gs) k = fold_near f h (smaller a (f g)) gs (smaller_near a (f g) k (h g))

ends_near : (below high : Option ℤ) → IsNear below → IsNear high → AreMiddling (both_ends below high)
ends_near None high h k = λ e q. absurd (cc q)
ends_near (Some x) None h k = λ e q. absurd (cc q)
ends_near (Some x) (Some y) h k = λ e q.
    let low : pos 0 -ℤ x ≡ e.low = cc q in
    let up : y ≡ e.high = cc q in
    let one = h x refl in
    let two = k y refl in
    (omega (arith, ints, low, one), omega (arith, ints, up, two))

module _ (scope : List Binding) where
  ends_middling : (s : Span1) → AreMiddling (ends_of scope s)
  ends_middling s =
      ends_near (depth scope s.lower) (highest scope s.upper)
      (fold_near (λ f. sup_of_difference scope (number (pos 0)) f) (λ g. difference-small scope (number (pos 0)) g) None s.lower (λ m e. absurd (cc e)))
      (fold_near (λ f. sup scope f) (λ g. sup-small scope g) None s.upper (λ m e. absurd (cc e)))

  -- ---- operators

  fitted_limited : (ty : Ty) (s : Span1) → SpanLimited s → SpanLimited (fitted scope ty s)
  fitted_limited ty s h = either_way SpanLimited (stay ty (ends_of scope s)) s (range_of ty) (λ t. h) (λ t. range_limited ty)

  sum_limited : (ty : Ty) (a b : Span1) → FindsLimited (sum_of scope ty a b)
  sum_limited ty a b =
      mapped_limited (fitted scope ty) (fitted_limited ty) (span_of (kept (all_combined a.lower (pos 1) b.lower)) (kept (all_combined a.upper (pos 1) b.upper)))
      (span_limited (kept (all_combined a.lower (pos 1) b.lower)) (kept (all_combined a.upper (pos 1) b.upper)) (sums_limited a.lower (pos 1) b.lower) (sums_limited a.upper (pos 1) b.upper))

  difference_limited : (ty : Ty) (a b : Span1) → FindsLimited (difference_of scope ty a b)
  difference_limited ty a b =
      mapped_limited (fitted scope ty) (fitted_limited ty) (span_of (kept (all_combined a.lower (negsuc 0) b.upper)) (kept (all_combined a.upper (negsuc 0) b.lower)))
      (span_limited (kept (all_combined a.lower (negsuc 0) b.upper)) (kept (all_combined a.upper (negsuc 0) b.lower)) (sums_limited a.lower (negsuc 0) b.upper)
      (sums_limited a.upper (negsuc 0) b.lower))

  multiple_limited : (ty : Ty) (k : ℤ) (s : Span1) → FindsLimited (multiple_of scope ty k s)
  multiple_limited ty (pos n) s =
      mapped_limited (fitted scope ty) (fitted_limited ty) (span_of (multiples (pos n) s.lower) (multiples (pos n) s.upper))
      (span_limited (multiples (pos n) s.lower) (multiples (pos n) s.upper) (multiples_limited (pos n) s.lower) (multiples_limited (pos n) s.upper))
  multiple_limited ty (negsuc n) s =
      mapped_limited (fitted scope ty) (fitted_limited ty) (span_of (multiples (negsuc n) s.upper) (multiples (negsuc n) s.lower))
      (span_limited (multiples (negsuc n) s.upper) (multiples (negsuc n) s.lower) (multiples_limited (negsuc n) s.upper) (multiples_limited (negsuc n) s.lower))

  product_of_limited : (ty : Ty) (first second : Option ℤ) (a b : Span1) → FindsLimited (product_of scope ty first second a b)
  product_of_limited ty (Some k) second a b = multiple_limited ty k b
  product_of_limited ty None (Some k) a b = multiple_limited ty k a
  product_of_limited ty None None a b = here_limited (ends_product ty (ends_of scope a) (ends_of scope b)) (product_limited ty (ends_of scope a) (ends_of scope b))

  quotient_limited : (ty : Ty) (o : Option ℤ) (a : Span1) → SpanLimited (quotient_of scope ty o a)
  quotient_limited ty None a = range_limited ty
  quotient_limited ty (Some (pos zero)) a = range_limited ty
  quotient_limited ty (Some (pos (suc n))) a = quotient_ends_limited ty n (ends_of scope a) (ends_middling a)
  quotient_limited ty (Some (negsuc n)) a = range_limited ty

  minimum_limited : (ty : Ty) (a b : Span1) → FindsLimited (minimum_of scope ty a b)
  minimum_limited ty a b =
      mapped_limited (or_range ty) (or_range_limited ty) (span_of (union scope false a.lower b.lower) (joined a.upper b.upper))
      (span_limited (union scope false a.lower b.lower) (joined a.upper b.upper) (union_limited scope false a.lower b.lower) (joined_limited a.upper b.upper))

  maximum_limited : (ty : Ty) (a b : Span1) → FindsLimited (maximum_of scope ty a b)
  maximum_limited ty a b =
      mapped_limited (or_range ty) (or_range_limited ty) (span_of (joined a.lower b.lower) (union scope true a.upper b.upper))
      (span_limited (joined a.lower b.lower) (union scope true a.upper b.upper) (joined_limited a.lower b.lower) (union_limited scope true a.upper b.upper))

  pub choice_limited : (ty : Ty) (a b : Span1) → FindsLimited (choice_of scope ty a b)
  choice_limited ty a b =
      mapped_limited (or_range ty) (or_range_limited ty) (span_of (union scope false a.lower b.lower) (union scope true a.upper b.upper))
      (span_limited (union scope false a.lower b.lower) (union scope true a.upper b.upper) (union_limited scope false a.lower b.lower) (union_limited scope true a.upper b.upper))

  binary_limited : (op : Op) (ty : Ty) (first second : Option ℤ) (a b : Span1) → ((n : ℤ) → second ≡ Some n → Limited (number n)) → FindsLimited (binary_of scope op ty first second a b)
  binary_limited Add ty first second a b h = sum_limited ty a b
  binary_limited Sub ty first second a b h = difference_limited ty a b
  binary_limited Mul ty first second a b h = product_of_limited ty first second a b
  binary_limited Div ty first second a b h = here_limited (quotient_of scope ty second a) (quotient_limited ty second a)
  binary_limited Rem ty first second a b h = here_limited (remainder_of ty second) (remainder_limited ty second h)
  binary_limited Min ty first second a b h = minimum_limited ty a b
  binary_limited Max ty first second a b h = maximum_limited ty a b

-- ---- intervals

both_limited : (a b : Option Span1) (f : Span1 → Span1 → Option Span1) → ((s t : Span1) → b ≡ Some t → FindsLimited (f s t)) → FindsLimited (both_spans a b f)
both_limited None b f g = λ s e. absurd (cc e)
both_limited (Some s) None f g = λ t e. absurd (cc e)
both_limited (Some s) (Some t) f g = g s t refl

coordinate_limited : (o : Option Span1) → FindsLimited (coordinate_of o)
coordinate_limited None = here_limited (range_of I32) (range_limited I32)
coordinate_limited (Some s) = span_limited (kept (map checked s.lower)) (kept (map checked s.upper)) (copies_limited s.lower) (copies_limited s.upper)

-- a number that is found is within the limits
exactly_within : (z : ℤ) (t : Span1) → exactly z ≡ Some t → Limited (number z)
exactly_within z t e = of (is_within_limits (number z)) refl e
  where
    once : Bool → Option (List Form)
    once b = with_made (Some []) (if b then Some (number z) else None)

    of : (b : Bool) → is_within_limits (number z) ≡ b → span_of (once b) (once b) ≡ Some t → is_within_limits (number z) ≡ true
    of true is q = is
    of false is q = absurd (cc q)

module _ (scope : List Binding) (functions : List ℕ → Option (Ty × ℕ)) (names : List (List ℕ)) (region : List Span1) where
  abbrev found : Term → Option Span1
  found e = interval scope functions names region e

  literal_limited : (e : Term) (t : Span1) → found e ≡ Some t → (n : ℤ) → literal_of e ≡ Some n → Limited (number n)
  literal_limited (Number ty z) t e n q = (let same : z ≡ n = cc q in subst (λ (m : ℤ). Limited (number m)) same (exactly_within z t e))
  literal_limited (Name x) t e n q = absurd (cc q)
  literal_limited (Call x at) t e n q = absurd (cc q)
  literal_limited (Minus a) t e n q = absurd (cc q)
  literal_limited (Binary op a b) t e n q = absurd (cc q)
  literal_limited (Clamp a l h) t e n q = absurd (cc q)
  literal_limited (Cast ty a) t e n q = absurd (cc q)
  literal_limited (Choice c a b) t e n q = absurd (cc q)

  pub interval_limited : (e : Term) → FindsLimited (found e)
  interval_limited (Number t n) = exactly_limited n
  interval_limited (Name name) = coordinate_limited (span_named names region name)
  interval_limited (Call name at) = here_limited (range_of (called_type (functions name))) (range_limited (called_type (functions name)))
  interval_limited (Minus a) =
      both_limited (exactly (pos 0)) (found a) (λ zero s. difference_of scope (shape_type functions a) zero s) (λ s t e. difference_limited scope (shape_type functions a) s t)
  interval_limited (Binary op a b) =
      let ty = result_type op (shape_type functions a) in
      both_limited (found a) (found b) (λ s t. binary_of scope op ty (literal_of a) (literal_of b) s t)
      (λ s t e. binary_limited scope op ty (literal_of a) (literal_of b) s t (literal_limited b t e))
  interval_limited (Clamp a l h) =
      let ty = shape_type functions a in
      both_limited (both_spans (found a) (found h) (λ s t. minimum_of scope ty s t)) (found l) (λ s t. maximum_of scope ty s t) (λ s t e. maximum_limited scope ty s t)
  interval_limited (Cast t a) = mapped_limited (fitted scope t) (fitted_limited scope t) (found a) (interval_limited a)
  interval_limited (Choice c a b) = both_limited (found a) (found b) (λ s t. choice_of scope (shape_type functions a) s t) (λ s t e. choice_limited scope (shape_type functions a) s t)

-- ---- projections

module _ (scope : List Binding) where
  lists_limited : (a b : Option (List Form)) → AllIn Limited (both scope false a b)
  lists_limited None b = λ fs e. absurd (cc e)
  lists_limited (Some a) None = λ fs e. absurd (cc e)
  lists_limited (Some a) (Some b) = joined_limited a b

  fold_limited : (a : Option (List Form)) (bs : List (Option (List Form))) → AllIn Limited a → AllIn Limited (fold (both scope false) a bs)
  fold_limited a [] h = h
  fold_limited a (b ∷ bs) h = fold_limited (both scope false a b) bs (lists_limited a b)

  pub projected_limited : (inner : List ℕ) (s : Span1) → FindsLimited (projected_span scope inner s)
  projected_limited inner s =
      span_limited (side_bounds scope inner false s.lower) (side_bounds scope inner true s.upper)
      (fold_limited (Some []) (map (form_bounds scope inner false) s.lower) (all_in_some Limited [] tt))
      (fold_limited (Some []) (map (form_bounds scope inner true) s.upper) (all_in_some Limited [] tt))
