-- What bounds find of expressions does not depend on the numbers of symbols, where the symbols that stand in what is known of coordinates are those of loops over numbers, one behind another.
use Rattle.std.proofs.Common.{◌≡◌, ℕ, zero, suc, ◌+◌, ◌-◌, ◌<◌, ◌≤◌, Bool, true, false, ◌&&◌, ◌||◌, not, List, [], ◌∷◌, ◌++◌, length, map, Option, Some, None, refl, sym, ap, ◌∙◌, arith}
use Rattle.std.specs.Prelude.{ℤ, pos, negsuc, ◌+ℤ◌, ◌*ℤ◌, ◌==◌, nat_lt, nat_le, nat_eq, fold, filter, option_map, option_to_list, option_and_then, if◌then◌else◌, slice_get}
use Rattle.std.specs.List.{list_any, list_all}
use Rattle.std.specs.Option.{option_map_or}
use Rattle.std.specs.Cmp.Lexicographic.{pointwise}
use Rattle.std.specs.Int.RustNames.{unsigned_abs}
use Rattle.std.specs.Ordering.{int_eq}
use Rattle.std.specs.Int.{int_max}
use Rattle.std.proofs.lemmas.Bool.Decides.{nat_tests}
use Rattle.std.proofs.lemmas.List.{length-map}
use Rattle.numeric.specs.declared.ty.Ty.{Ty}
use Rattle.numeric.specs.declared.op.Op.{Op}
use Rattle.numeric.specs.declared.op.Op.TheVariants.{Add, Sub, Mul, Div, Rem, Min, Max}
use Rattle.numeric.specs.Apply.{result_type}
use Rattle.tree.specs.Term.{Term, Number, Name, Call, Minus, Binary, Clamp, Cast, Choice}
use Rattle.tree.specs.Typing.{shape_type}
use Rattle.lin.specs.Forms.{Form, number, is_zero, factor_of, in_front, plus_term, plus_terms, plus_multiple, without, is_within_limits, combined, same_terms, same_form}
use Rattle.lin.specs.Search.{smaller, is_empty, number_of, replaced, result_at, total_at, least, replacements, sup, sup_of_difference}
use Rattle.lin.specs.declared.form.Multiple.{Multiple}
use Rattle.lin.specs.declared.scope.Binding.{Binding}
use Rattle.lin.specs.declared.scope.Binding.TheVariants.{Loop}
use Rattle.lin.specs.declared.span.Span1.{Span1}
use Rattle.bounds.specs.Lists.{checked, with_new, with_made, kept, all_combined, distance, gap, moved, all_moved, union}
use Rattle.bounds.specs.Spans.{span_of, numbers, range_of, exactly, highest, depth, both_ends, ends_of, stay, fitted, sum_of, difference_of, multiples, multiple_of, ends_product, product_of}
use Rattle.bounds.specs.Spans.{ends_quotient, quotient_of, remainder_of, or_range, joined, minimum_of, maximum_of, choice_of, binary_of, between, are_of, product_ends}
use Rattle.bounds.specs.declared.ends.Ends.{Ends}
use Rattle.bounds.specs.Interval.{span_named, coordinate_of, literal_of, both, interval}
use Rattle.bounds.specs.Projection.Elimination.{is_inner, names_inner, bounds_itself, bounds_at, bounds_below, replacements_below, eliminated, both as both_bounds}
use Rattle.bounds.specs.Projection.Projection.{negated, form_bounds, side_bounds, projected_span}
use Rattle.sched.specs.Standing.{◌>>=◌}
use Rattle.regions.specs.Regions.{number_of as lone_number, greater, less as less_of, greatest_number, least_number, ends_between, ends_of as freed_ends}
use Rattle.sched.specs.Regions.{symbols_from}
use Rattle.completeness.proofs.PureScopes.{map_both}

-- ---- forms

module _ (m b far : ℕ) (behind : b + m ≤ far) where
  abbrev placed : Bool → ℕ → ℕ
  placed t s = if t then b + s else far + s

  -- the first symbols one behind another from a symbol on, and others far behind
  abbrev pub turned : ℕ → ℕ
  turned s = placed (nat_lt s m) s

  order_turned : (x y : ℕ) → nat_lt (turned x) (turned y) ≡ nat_lt x y
  order_turned x y = of (nat_lt x m) refl (nat_lt y m) refl
    where
      of : (s : Bool) → nat_lt x m ≡ s → (t : Bool) → nat_lt y m ≡ t → nat_lt (placed s x) (placed t y) ≡ nat_lt x y
      of true e true k = grind (arith, nat_tests)
      of true e false k = grind (arith, nat_tests, e, k, behind)
      of false e true k = grind (arith, nat_tests, e, k, behind)
      of false e false k = grind (arith, nat_tests)

  same_turned : (x y : ℕ) → (turned x == turned y) ≡ (x == y)
  same_turned x y = of (nat_lt x m) refl (nat_lt y m) refl
    where
      of : (s : Bool) → nat_lt x m ≡ s → (t : Bool) → nat_lt y m ≡ t → (placed s x == placed t y) ≡ (x == y)
      of true e true k = grind (arith, nat_tests)
      of true e false k = grind (arith, nat_tests, e, k, behind)
      of false e true k = grind (arith, nat_tests, e, k, behind)
      of false e false k = grind (arith, nat_tests)

  abbrev up : Multiple → Multiple
  up t = record { symbol = turned t.symbol; factor = t.factor }

  abbrev pub ren : Form → Form
  ren f = record { constant = f.constant; terms = map up f.terms }

  front_up : (t : Multiple) (ts : List Multiple) → in_front (up t) (map up ts) ≡ map up (in_front t ts)
  front_up t ts = of (is_zero t.factor)
    where
      of : (v : Bool) → (if v then map up ts else up t ∷ map up ts) ≡ map up (if v then ts else t ∷ ts)
      of true = refl
      of false = refl

  plus_term_up : (xs : List Multiple) (t : Multiple) → plus_term (map up xs) (up t) ≡ map up (plus_term xs t)
  plus_term_up [] t = front_up t []
  plus_term_up (x ∷ xs) t =
      (λ i. if order_turned x.symbol t.symbol i then up x ∷ plus_term_up xs t i
      else (if same_turned x.symbol t.symbol i then front_up (record { symbol = t.symbol; factor = x.factor +ℤ t.factor }) xs i else front_up t (x ∷ xs) i))
      ∙ of (nat_lt x.symbol t.symbol) (x.symbol == t.symbol)
    where
      one : List Multiple
      one = in_front (record { symbol = t.symbol; factor = x.factor +ℤ t.factor }) xs

      of : (v w : Bool) → (if v then up x ∷ map up (plus_term xs t) else (if w then map up one else map up (in_front t (x ∷ xs))))
          ≡ map up (if v then x ∷ plus_term xs t else (if w then one else in_front t (x ∷ xs)))
      of true w = refl
      of false true = refl
      of false false = refl

  plus_terms_up : (ts : List Multiple) (k : ℤ) (us : List Multiple) → plus_terms (map up ts) k (map up us) ≡ map up (plus_terms ts k us)
  plus_terms_up ts k [] = refl
  plus_terms_up ts k (u ∷ us) =
      ap (λ (xs : List Multiple). plus_terms xs k (map up us)) (plus_term_up ts (record { symbol = u.symbol; factor = k *ℤ u.factor }))
      ∙ plus_terms_up (plus_term ts (record { symbol = u.symbol; factor = k *ℤ u.factor })) k us

  plus_ren : (f : Form) (k : ℤ) (g : Form) → plus_multiple (ren f) k (ren g) ≡ ren (plus_multiple f k g)
  plus_ren f k g = λ i. record { constant = f.constant +ℤ k *ℤ g.constant; terms = plus_terms_up f.terms k g.terms i }

  factors_up : (p : ℤ → Bool) (ts : List Multiple) → list_all (λ (t : Multiple). p t.factor) (map up ts) ≡ list_all (λ (t : Multiple). p t.factor) ts
  factors_up p [] = refl
  factors_up p (t ∷ ts) = ap (λ (v : Bool). p t.factor && v) (factors_up p ts)

  limits_ren : (f : Form) → is_within_limits (ren f) ≡ is_within_limits f
  limits_ren f =
      (λ i. nat_le (length-map f.terms up i) 8 && factors_up (λ (z : ℤ). nat_le (unsigned_abs z) 1048576) f.terms i && nat_le (unsigned_abs f.constant) 1099511627776)

  abbrev pub formed : Option Form → Option Form
  formed o = option_map ren o

  combined_ren : (f : Form) (k : ℤ) (g : Form) → combined (ren f) k (ren g) ≡ formed (combined f k g)
  combined_ren f k g =
      (λ i. if (limits_ren f i && limits_ren g i) && is_within_limits (plus_ren f k g i) then Some (plus_ren f k g i) else None)
      ∙ ap (λ (v : Bool). if (is_within_limits f && is_within_limits g) && v then Some (ren (plus_multiple f k g)) else None) (limits_ren (plus_multiple f k g))
      ∙ of ((is_within_limits f && is_within_limits g) && is_within_limits (plus_multiple f k g))
    where
      of : (v : Bool) → (if v then Some (ren (plus_multiple f k g)) else None) ≡ formed (if v then Some (plus_multiple f k g) else None)
      of true = refl
      of false = refl

  factor_ren : (ts : List Multiple) (n : ℕ) → factor_of (map up ts) (turned n) ≡ factor_of ts n
  factor_ren [] n = refl
  factor_ren (t ∷ ts) n = λ i. (if same_turned t.symbol n i then t.factor else pos 0) +ℤ factor_ren ts n i

  -- of another symbol
  factor_none : (ts : List Multiple) (i : ℕ) → ((s : ℕ) → (turned s == i) ≡ false) → factor_of (map up ts) i ≡ pos 0
  factor_none [] i none = refl
  factor_none (t ∷ ts) i none = (λ j. (if none t.symbol j then t.factor else pos 0) +ℤ factor_none ts i none j)

  without_ren : (f : Form) (n : ℕ) → without (ren f) (turned n) ≡ ren (without f n)
  without_ren f n = λ i. record { constant = f.constant; terms = of f.terms i }
    where
      of : (ts : List Multiple) → filter (λ (t : Multiple). not (t.symbol == turned n)) (map up ts) ≡ map up (filter (λ (t : Multiple). not (t.symbol == n)) ts)
      of [] = refl
      of (t ∷ ts) =
          (λ i. if not (same_turned t.symbol n i) then up t ∷ of ts i else of ts i) ∙ by (not (t.symbol == n))
        where
          rest : List Multiple
          rest = filter (λ (t : Multiple). not (t.symbol == n)) ts

          by : (v : Bool) → (if v then up t ∷ map up rest else map up rest) ≡ map up (if v then t ∷ rest else rest)
          by true = refl
          by false = refl

  replaced_ren : (f : Form) (n : ℕ) (c : ℤ) (g : Form) → replaced (ren f) (turned n) c (ren g) ≡ formed (replaced f n c g)
  replaced_ren f n c g = ap (λ (w : Form). combined w c (ren g)) (without_ren f n) ∙ combined_ren (without f n) c g

  number_ren : (f : Form) → number_of (ren f) ≡ number_of f
  number_ren f = ap (λ (v : Bool). if v then Some f.constant else None) (of f.terms)
    where
      of : (ts : List Multiple) → is_empty (map up ts) ≡ is_empty ts
      of [] = refl
      of (t ∷ ts) = refl

  same_ren : (f g : Form) → same_form (ren f) (ren g) ≡ same_form f g
  same_ren f g = ap (λ (v : Bool). int_eq f.constant g.constant && v) (of f.terms g.terms)
    where
      of : (ts us : List Multiple) → same_terms (map up ts) (map up us) ≡ same_terms ts us
      of [] [] = refl
      of [] (u ∷ us) = refl
      of (t ∷ ts) [] = refl
      of (t ∷ ts) (u ∷ us) = λ i. (same_turned t.symbol u.symbol i && int_eq t.factor u.factor) && of ts us i

  -- ---- lists of forms

  abbrev pub listed : Option (List Form) → Option (List Form)
  listed o = option_map (map ren) o

  checked_ren : (f : Form) → checked (ren f) ≡ formed (checked f)
  checked_ren f = ap (λ (v : Bool). if v then Some (ren f) else None) (limits_ren f) ∙ of (is_within_limits f)
    where
      of : (v : Bool) → (if v then Some (ren f) else None) ≡ formed (if v then Some f else None)
      of true = refl
      of false = refl

  all_checked : (fs : List Form) → map checked (map ren fs) ≡ map formed (map checked fs)
  all_checked [] = refl
  all_checked (f ∷ fs) = λ i. checked_ren f i ∷ all_checked fs i

  any_same : (f : Form) (fs : List Form) → list_any (λ (g : Form). same_form g (ren f)) (map ren fs) ≡ list_any (λ (g : Form). same_form g f) fs
  any_same f [] = refl
  any_same f (g ∷ fs) = λ i. same_ren g f i || any_same f fs i

  with_new_ren : (fs : List Form) (f : Form) → with_new (map ren fs) (ren f) ≡ map ren (with_new fs f)
  with_new_ren fs f =
      (λ i. if nat_lt (length-map fs ren i) 4 && not (any_same f fs i) then sym (map_both ren fs (f ∷ [])) i else map ren fs)
      ∙ of (nat_lt (length fs) 4 && not (list_any (λ (g : Form). same_form g f) fs))
    where
      of : (v : Bool) → (if v then map ren (fs ++ f ∷ []) else map ren fs) ≡ map ren (if v then fs ++ f ∷ [] else fs)
      of true = refl
      of false = refl

  with_made_ren : (acc : Option (List Form)) (o : Option Form) → with_made (listed acc) (formed o) ≡ listed (with_made acc o)
  with_made_ren None o = refl
  with_made_ren (Some fs) None = refl
  with_made_ren (Some fs) (Some f) = ap (λ (gs : List Form). Some gs) (with_new_ren fs f)

  fold_ren : (acc : Option (List Form)) (os : List (Option Form)) → fold with_made (listed acc) (map formed os) ≡ listed (fold with_made acc os)
  fold_ren acc [] = refl
  fold_ren acc (o ∷ os) = ap (λ (a : Option (List Form)). fold with_made a (map formed os)) (with_made_ren acc o) ∙ fold_ren (with_made acc o) os

  kept_ren : (os : List (Option Form)) → kept (map formed os) ≡ listed (kept os)
  kept_ren os = fold_ren (Some []) os

  one_combined : (f : Form) (k : ℤ) (gs : List Form) → map (λ (g : Form). combined (ren f) k g) (map ren gs) ≡ map formed (map (λ (g : Form). combined f k g) gs)
  one_combined f k [] = refl
  one_combined f k (g ∷ gs) = λ i. combined_ren f k g i ∷ one_combined f k gs i

  all_combined_ren : (fs : List Form) (k : ℤ) (gs : List Form) → all_combined (map ren fs) k (map ren gs) ≡ map formed (all_combined fs k gs)
  all_combined_ren [] k gs = refl
  all_combined_ren (f ∷ fs) k gs =
      (λ i. one_combined f k gs i ++ all_combined_ren fs k gs i) ∙ sym (map_both formed (map (λ (g : Form). combined f k g) gs) (all_combined fs k gs))

  joined_ren : (fs gs : List Form) → joined (map ren fs) (map ren gs) ≡ listed (joined fs gs)
  joined_ren fs gs = ap (λ (xs : List Form). kept (map checked xs)) (sym (map_both ren fs gs)) ∙ ap kept (all_checked (fs ++ gs)) ∙ kept_ren (map checked (fs ++ gs))

  multiples_ren : (k : ℤ) (fs : List Form) → multiples k (map ren fs) ≡ listed (multiples k fs)
  multiples_ren k fs = ap kept (all_combined_ren (number (pos 0) ∷ []) k fs) ∙ kept_ren (all_combined (number (pos 0) ∷ []) k fs)

  moved_ren : (upper : Bool) (f : Form) (d : ℤ) → moved upper (ren f) d ≡ formed (moved upper f d)
  moved_ren true f d = combined_ren f (pos 1) (number d)
  moved_ren false f d = combined_ren f (negsuc 0) (number d)

  -- ---- spans

  abbrev pub spanned : Span1 → Span1
  spanned s = record { lower = map ren s.lower; upper = map ren s.upper }

  abbrev pub spans_of : Option Span1 → Option Span1
  spans_of o = option_map spanned o

  span_ren : (ls us : Option (List Form)) → span_of (listed ls) (listed us) ≡ spans_of (span_of ls us)
  span_ren None us = refl
  span_ren (Some ls) None = refl
  span_ren (Some ls) (Some us) = refl

  exactly_ren : (z : ℤ) → spans_of (exactly z) ≡ exactly z
  exactly_ren z =
      let one : kept (checked (number z) ∷ []) ≡ listed (kept (checked (number z) ∷ [])) = ap (λ (o : Option Form). kept (o ∷ [])) (checked_ren (number z)) ∙ kept_ren (checked (number z) ∷ []) in
      sym ((λ i. span_of (one i) (one i)) ∙ span_ren (kept (checked (number z) ∷ [])) (kept (checked (number z) ∷ [])))

  empty_ren : (fs : List Form) → is_empty (map ren fs) ≡ is_empty fs
  empty_ren [] = refl
  empty_ren (f ∷ fs) = refl

  or_range_ren : (ty : Ty) (s : Span1) → or_range ty (spanned s) ≡ spanned (or_range ty s)
  or_range_ren ty s = (λ i. if empty_ren s.lower i || empty_ren s.upper i then range_of ty else spanned s) ∙ of (is_empty s.lower || is_empty s.upper)
    where
      of : (v : Bool) → (if v then range_of ty else spanned s) ≡ spanned (if v then range_of ty else s)
      of true = refl
      of false = refl

  mapped_ren : (f g : Span1 → Span1) → ((s : Span1) → f (spanned s) ≡ spanned (g s)) → (o : Option Span1) → option_map f (spans_of o) ≡ spans_of (option_map g o)
  mapped_ren f g each None = refl
  mapped_ren f g each (Some s) = ap (λ (t : Span1). Some t) (each s)

  both_ren : (x y : Option Span1) (f g : Span1 → Span1 → Option Span1) → ((s t : Span1) → f (spanned s) (spanned t) ≡ spans_of (g s t)) → both (spans_of x) (spans_of y) f ≡ spans_of (both x y g)
  both_ren None y f g each = refl
  both_ren (Some s) None f g each = refl
  both_ren (Some s) (Some t) f g each = each s t

  named_ren : (xs : List (List ℕ)) (ss : List Span1) (x : List ℕ) → span_named xs (map spanned ss) x ≡ spans_of (span_named xs ss x)
  named_ren [] ss x = refl
  named_ren (y ∷ xs) [] x = refl
  named_ren (y ∷ xs) (s ∷ ss) x = ap (λ (o : Option Span1). if pointwise nat_eq y x then Some (spanned s) else o) (named_ren xs ss x) ∙ of (pointwise nat_eq y x)
    where
      of : (v : Bool) → (if v then Some (spanned s) else spans_of (span_named xs ss x)) ≡ spans_of (if v then Some s else span_named xs ss x)
      of true = refl
      of false = refl

  coordinate_ren : (o : Option Span1) → coordinate_of (spans_of o) ≡ spans_of (coordinate_of o)
  coordinate_ren None = refl
  coordinate_ren (Some s) =
      (λ i. span_of (kept (all_checked s.lower i)) (kept (all_checked s.upper i))) ∙ (λ i. span_of (kept_ren (map checked s.lower) i) (kept_ren (map checked s.upper) i))
      ∙ span_ren (kept (map checked s.lower)) (kept (map checked s.upper))

  -- ---- the search

  low_and : (v : Bool) → (v && false) ≡ false
  low_and true = refl
  low_and false = refl

  module _ (scope small : List Binding) (long : length scope ≡ far) (few : length small ≡ m) (there : (j : ℕ) → j < m → slice_get scope (b + j) ≡ slice_get small j)
      (loops : (j : ℕ) (x : Binding) → slice_get small j ≡ Some x → (low : ℤ) × (last : ℤ) × (x ≡ Loop (numbers low last))) where
    turned_first : (j : ℕ) → j < m → turned j ≡ b + j
    turned_first j less = (let test : nat_lt j m ≡ true = grind (arith, nat_tests) in ap (λ (v : Bool). placed v j) test)

    none_below : (i : ℕ) → i < b → (s : ℕ) → (turned s == i) ≡ false
    none_below i less s = of (nat_lt s m) refl
      where
        of : (v : Bool) → nat_lt s m ≡ v → (placed v s == i) ≡ false
        of true e = grind (arith, nat_tests, less)
        of false e = grind (arith, nat_tests, less, behind)

    none_between : (i : ℕ) → b + m ≤ i → i < far → (s : ℕ) → (turned s == i) ≡ false
    none_between i low less s = of (nat_lt s m) refl
      where
        of : (v : Bool) → nat_lt s m ≡ v → (placed v s == i) ≡ false
        of true e = grind (arith, nat_tests, e, low)
        of false e = grind (arith, nat_tests, less)

    -- what is found of one candidate
    found_ren : {A : Type 0} (g h : Form → Option A) → ((f : Form) → g (ren f) ≡ h f) → (o : Option Form) → option_and_then g (formed o) ≡ option_and_then h o
    found_ren g h each None = refl
    found_ren g h each (Some f) = each f

    least_low : (i : ℕ) → i ≤ b → (f : Form) → least scope i (ren f) ≡ number_of f
    least_low zero le f = number_ren f
    least_low (suc i) le f =
        ap (λ (z : ℤ). if is_zero z then least scope i (ren f) else result_at (slice_get scope i) z (λ other. option_and_then (λ next. least scope i next) (replaced (ren f) i z other)))
        (factor_none f.terms i (none_below i (omega (arith, le)))) ∙ least_low i (omega (arith, le)) f

    -- one symbol of the small scope
    module _ (k : ℕ) (less : k < m) where
      at_k : slice_get scope (b + k) ≡ slice_get small k
      at_k = there k less

      step_least : ((f : Form) → least scope (b + k) (ren f) ≡ least small k f) → (f : Form) → least scope (suc (b + k)) (ren f) ≡ least small (suc k) f
      step_least rest f =
          let q = turned_first k less in
          (λ i. whole (sym q i) (factor_of (map up f.terms) (sym q i))) ∙ ap (whole (turned k)) (factor_ren f.terms k) ∙ of (is_zero z) refl
        where
          z : ℤ
          z = factor_of f.terms k

          found : ℕ → ℤ → Form → Option ℤ
          found i c other = option_and_then (λ next. least scope (b + k) next) (replaced (ren f) i c other)

          found_small : Form → Option ℤ
          found_small other = option_and_then (λ next. least small k next) (replaced f k z other)

          whole : ℕ → ℤ → Option ℤ
          whole i c = if is_zero c then least scope (b + k) (ren f) else result_at (slice_get scope (b + k)) c (found i c)

          one : (e : ℤ) → found (turned k) z (number e) ≡ found_small (number e)
          one e = ap (λ (o : Option Form). option_and_then (λ next. least scope (b + k) next) o) (replaced_ren f k z (number e))
              ∙ found_ren (λ next. least scope (b + k) next) (λ next. least small k next) rest (replaced f k z (number e))

          by_loop : (low last c : ℤ) → (g h : Form → Option ℤ) → ((e : ℤ) → g (number e) ≡ h (number e)) → result_at (Some (Loop (numbers low last))) c g ≡ result_at (Some (Loop (numbers
              low last))) c h
          by_loop low last (pos n) g h each = each last
          by_loop low last (negsuc n) g h each = each low

          at_one : (o : Option Binding) → slice_get small k ≡ o → result_at o z (found (turned k) z) ≡ result_at o z found_small
          at_one None e = refl
          at_one (Some x) e =
              let l = loops k x e in
              ap (λ (y : Binding). result_at (Some y) z (found (turned k) z)) l.2 ∙ by_loop l.0 l.1 z (found (turned k) z) found_small one ∙ ap (λ (y : Binding). result_at (Some y) z
              found_small) (sym l.2)

          of : (v : Bool) → is_zero z ≡ v → (if v then least scope (b + k) (ren f) else result_at (slice_get scope (b + k)) z (found (turned k) z))
              ≡ (if v then least small k f else result_at (slice_get small k) z found_small)
          of true e = rest f
          of false e = ap (λ (o : Option Binding). result_at o z (found (turned k) z)) at_k ∙ at_one (slice_get small k) refl

      step_counts : ((f : Form) → replacements scope (b + k) (ren f) ≡ replacements small k f) → (f : Form) → replacements scope (suc (b + k)) (ren f) ≡ replacements small (suc k) f
      step_counts rest f =
          let q = turned_first k less in
          (λ i. whole (sym q i) (factor_of (map up f.terms) (sym q i))) ∙ ap (whole (turned k)) (factor_ren f.terms k) ∙ of (is_zero z) refl
        where
          z : ℤ
          z = factor_of f.terms k

          cost : ℕ → ℤ → Form → ℕ
          cost i c other = suc (option_map_or (λ next. replacements scope (b + k) next) (replaced (ren f) i c other) 0)

          cost_small : Form → ℕ
          cost_small other = suc (option_map_or (λ next. replacements small k next) (replaced f k z other) 0)

          whole : ℕ → ℤ → ℕ
          whole i c = if is_zero c then replacements scope (b + k) (ren f) else total_at (slice_get scope (b + k)) c (cost i c)

          counted : (o : Option Form) → option_map_or (λ next. replacements scope (b + k) next) (formed o) 0 ≡ option_map_or (λ next. replacements small k next) o 0
          counted None = refl
          counted (Some g) = rest g

          one : (e : ℤ) → cost (turned k) z (number e) ≡ cost_small (number e)
          one e = ap (λ (o : Option Form). suc (option_map_or (λ next. replacements scope (b + k) next) o 0)) (replaced_ren f k z (number e)) ∙ ap suc (counted (replaced f k z (number e)))

          by_loop : (low last c : ℤ) → (g h : Form → ℕ) → ((e : ℤ) → g (number e) ≡ h (number e)) → total_at (Some (Loop (numbers low last))) c g ≡ total_at (Some (Loop (numbers low last))) c h
          by_loop low last (pos n) g h each = ap (λ (p : ℕ). p + 0) (each last)
          by_loop low last (negsuc n) g h each = ap (λ (p : ℕ). p + 0) (each low)

          at_one : (o : Option Binding) → slice_get small k ≡ o → total_at o z (cost (turned k) z) ≡ total_at o z cost_small
          at_one None e = refl
          at_one (Some x) e =
              let l = loops k x e in
              ap (λ (y : Binding). total_at (Some y) z (cost (turned k) z)) l.2 ∙ by_loop l.0 l.1 z (cost (turned k) z) cost_small one ∙ ap (λ (y : Binding). total_at (Some y) z cost_small) (sym l.2)

          of : (v : Bool) → is_zero z ≡ v → (if v then replacements scope (b + k) (ren f) else total_at (slice_get scope (b + k)) z (cost (turned k) z))
              ≡ (if v then replacements small k f else total_at (slice_get small k) z cost_small)
          of true e = rest f
          of false e = ap (λ (o : Option Binding). total_at o z (cost (turned k) z)) at_k ∙ at_one (slice_get small k) refl

    next_place : (k : ℕ) → b + suc k ≡ suc (b + k)
    next_place k = omega arith

    least_mid : (n : ℕ) → n ≤ m → (f : Form) → least scope (b + n) (ren f) ≡ least small n f
    least_mid zero le f = (let none : b + 0 ≡ b = omega arith in ap (λ (i : ℕ). least scope i (ren f)) none ∙ least_low b (omega arith) f)
    least_mid (suc k) le f = ap (λ (i : ℕ). least scope i (ren f)) (next_place k) ∙ step_least k (omega (arith, le)) (least_mid k (omega (arith, le))) f

    counts_low : (i : ℕ) → i ≤ b → (f : Form) → replacements scope i (ren f) ≡ 0
    counts_low zero le f = refl
    counts_low (suc i) le f =
        ap (λ (z : ℤ). if is_zero z then replacements scope i (ren f) else total_at (slice_get scope i) z (λ other. suc (option_map_or (λ next. replacements scope i next) (replaced (ren f)
        i z other) 0)))
        (factor_none f.terms i (none_below i (omega (arith, le)))) ∙ counts_low i (omega (arith, le)) f

    counts_mid : (n : ℕ) → n ≤ m → (f : Form) → replacements scope (b + n) (ren f) ≡ replacements small n f
    counts_mid zero le f = (let none : b + 0 ≡ b = omega arith in ap (λ (i : ℕ). replacements scope i (ren f)) none ∙ counts_low b (omega arith) f)
    counts_mid (suc k) le f = ap (λ (i : ℕ). replacements scope i (ren f)) (next_place k) ∙ step_counts k (omega (arith, le)) (counts_mid k (omega (arith, le))) f

    least_top : (e : ℕ) → (b + m) + e ≤ far → (f : Form) → least scope ((b + m) + e) (ren f) ≡ least small m f
    least_top zero le f = (let none : (b + m) + 0 ≡ b + m = omega arith in ap (λ (i : ℕ). least scope i (ren f)) none ∙ least_mid m (omega arith) f)
    least_top (suc e) le f =
        let i : ℕ = (b + m) + e in
        let next : (b + m) + suc e ≡ suc i = omega arith in
        ap (λ (j : ℕ). least scope j (ren f)) next
        ∙ ap (λ (z : ℤ). if is_zero z then least scope i (ren f) else result_at (slice_get scope i) z (λ other. option_and_then (λ next. least scope i next) (replaced (ren f) i z other)))
        (factor_none f.terms i (none_between i (omega arith) (omega (arith, le)))) ∙ least_top e (omega (arith, le)) f

    counts_top : (e : ℕ) → (b + m) + e ≤ far → (f : Form) → replacements scope ((b + m) + e) (ren f) ≡ replacements small m f
    counts_top zero le f = (let none : (b + m) + 0 ≡ b + m = omega arith in ap (λ (i : ℕ). replacements scope i (ren f)) none ∙ counts_mid m (omega arith) f)
    counts_top (suc e) le f =
        let i : ℕ = (b + m) + e in
        let next : (b + m) + suc e ≡ suc i = omega arith in
        ap (λ (j : ℕ). replacements scope j (ren f)) next
        ∙ ap (λ (z : ℤ). if is_zero z then replacements scope i (ren f) else total_at (slice_get scope i) z (λ other. suc (option_map_or (λ next. replacements scope i next) (replaced (ren
        f) i z other) 0)))
        (factor_none f.terms i (none_between i (omega arith) (omega (arith, le)))) ∙ counts_top e (omega (arith, le)) f

    all_symbols : length scope ≡ (b + m) + (far - (b + m))
    all_symbols = omega (arith, long, behind)

    sup_ren : (f : Form) → sup scope (ren f) ≡ sup small f
    sup_ren f =
        let within : (b + m) + (far - (b + m)) ≤ far = omega (arith, behind) in
        let found = ap (λ (n : ℕ). least scope n (ren f)) all_symbols ∙ least_top (far - (b + m)) within f ∙ ap (λ (n : ℕ). least small n f) (sym few) in
        let counted = ap (λ (n : ℕ). replacements scope n (ren f)) all_symbols ∙ counts_top (far - (b + m)) within f ∙ ap (λ (n : ℕ). replacements small n f) (sym few) in
        λ i. if limits_ren f i && nat_le (counted i) 4096 then found i else None

    over_ren : (f g : Form) → sup_of_difference scope (ren f) (ren g) ≡ sup_of_difference small f g
    over_ren f g = ap (λ (o : Option Form). option_and_then (λ d. sup scope d) o) (combined_ren f (negsuc 0) g) ∙ found_ren (λ d. sup scope d) (λ d. sup small d) sup_ren (combined f (negsuc 0) g)

    -- ---- what needs the search

    gap_ren : (upper : Bool) (f : Form) (others : List Form) → gap scope upper (ren f) (map ren others) ≡ gap small upper f others
    gap_ren upper f others = ap (fold smaller None) (of upper others)
      where
        of : (upper : Bool) (others : List Form) → map (λ (o : Form). distance scope upper (ren f) o) (map ren others) ≡ map (λ (o : Form). distance small upper f o) others
        of upper [] = refl
        of true (o ∷ others) = (λ i. option_map (λ d. int_max (pos 0) d) (over_ren o f i) ∷ of true others i)
        of false (o ∷ others) = (λ i. option_map (λ d. int_max (pos 0) d) (over_ren f o i) ∷ of false others i)

    all_moved_ren : (upper : Bool) (fs others : List Form) → all_moved scope upper (map ren fs) (map ren others) ≡ map formed (all_moved small upper fs others)
    all_moved_ren upper [] others = refl
    all_moved_ren upper (f ∷ fs) others =
        (λ i. option_to_list (option_map (moved upper (ren f)) (gap_ren upper f others i)) ++ all_moved_ren upper fs others i)
        ∙ ap (λ (os : List (Option Form)). os ++ map formed (all_moved small upper fs others)) (of (gap small upper f others))
        ∙ sym (map_both formed (option_to_list (option_map (moved upper f) (gap small upper f others))) (all_moved small upper fs others))
      where
        of : (o : Option ℤ) → option_to_list (option_map (moved upper (ren f)) o) ≡ map formed (option_to_list (option_map (moved upper f) o))
        of None = refl
        of (Some d) = ap (λ (o : Option Form). o ∷ []) (moved_ren upper f d)

    union_ren : (upper : Bool) (fs gs : List Form) → union scope upper (map ren fs) (map ren gs) ≡ listed (union small upper fs gs)
    union_ren upper fs gs =
        (λ i. kept (all_moved_ren upper fs gs i ++ all_moved_ren upper gs fs i)) ∙ ap kept (sym (map_both formed (all_moved small upper fs gs) (all_moved small upper gs fs)))
        ∙ kept_ren (all_moved small upper fs gs ++ all_moved small upper gs fs)

    highest_ren : (fs : List Form) → highest scope (map ren fs) ≡ highest small fs
    highest_ren fs = ap (fold smaller None) (of fs)
      where
        of : (fs : List Form) → map (λ f. sup scope f) (map ren fs) ≡ map (λ f. sup small f) fs
        of [] = refl
        of (f ∷ fs) = λ i. sup_ren f i ∷ of fs i

    depth_ren : (fs : List Form) → depth scope (map ren fs) ≡ depth small fs
    depth_ren fs = ap (fold smaller None) (of fs)
      where
        of : (fs : List Form) → map (λ f. sup_of_difference scope (number (pos 0)) f) (map ren fs) ≡ map (λ f. sup_of_difference small (number (pos 0)) f) fs
        of [] = refl
        of (f ∷ fs) = λ i. over_ren (number (pos 0)) f i ∷ of fs i

    ends_ren : (s : Span1) → ends_of scope (spanned s) ≡ ends_of small s
    ends_ren s = λ i. both_ends (depth_ren s.lower i) (highest_ren s.upper i)

    fitted_ren : (ty : Ty) (s : Span1) → fitted scope ty (spanned s) ≡ spanned (fitted small ty s)
    fitted_ren ty s = ap (λ (e : Option Ends). if stay ty e then spanned s else range_of ty) (ends_ren s) ∙ of (stay ty (ends_of small s))
      where
        of : (v : Bool) → (if v then spanned s else range_of ty) ≡ spanned (if v then s else range_of ty)
        of true = refl
        of false = refl

    sides_ren : (ty : Ty) (ls us ls' us' : Option (List Form)) → ls' ≡ listed ls → us' ≡ listed us → option_map (fitted scope ty) (span_of ls' us') ≡ spans_of (option_map (fitted small ty)
        (span_of ls us))
    sides_ren ty ls us ls' us' p q = (λ i. option_map (fitted scope ty) (span_of (p i) (q i))) ∙ ap (option_map (fitted scope ty)) (span_ren ls us)
        ∙ mapped_ren (fitted scope ty) (fitted small ty) (fitted_ren ty) (span_of ls us)

    ranged_ren : (ty : Ty) (ls us ls' us' : Option (List Form)) → ls' ≡ listed ls → us' ≡ listed us → option_map (or_range ty) (span_of ls' us') ≡ spans_of (option_map (or_range ty) (span_of ls us))
    ranged_ren ty ls us ls' us' p q = (λ i. option_map (or_range ty) (span_of (p i) (q i))) ∙ ap (option_map (or_range ty)) (span_ren ls us)
        ∙ mapped_ren (or_range ty) (or_range ty) (or_range_ren ty) (span_of ls us)

    sums_ren : (fs : List Form) (k : ℤ) (gs : List Form) → kept (all_combined (map ren fs) k (map ren gs)) ≡ listed (kept (all_combined fs k gs))
    sums_ren fs k gs = ap kept (all_combined_ren fs k gs) ∙ kept_ren (all_combined fs k gs)

    difference_ren : (ty : Ty) (s t : Span1) → difference_of scope ty (spanned s) (spanned t) ≡ spans_of (difference_of small ty s t)
    difference_ren ty s t =
        sides_ren ty (kept (all_combined s.lower (negsuc 0) t.upper)) (kept (all_combined s.upper (negsuc 0) t.lower)) _ _ (sums_ren s.lower (negsuc 0) t.upper) (sums_ren s.upper (negsuc 0) t.lower)

    sum_ren : (ty : Ty) (s t : Span1) → sum_of scope ty (spanned s) (spanned t) ≡ spans_of (sum_of small ty s t)
    sum_ren ty s t = sides_ren ty (kept (all_combined s.lower (pos 1) t.lower)) (kept (all_combined s.upper (pos 1) t.upper)) _ _ (sums_ren s.lower (pos 1) t.lower) (sums_ren s.upper (pos 1) t.upper)

    multiple_ren : (ty : Ty) (k : ℤ) (s : Span1) → multiple_of scope ty k (spanned s) ≡ spans_of (multiple_of small ty k s)
    multiple_ren ty (pos n) s = sides_ren ty (multiples (pos n) s.lower) (multiples (pos n) s.upper) _ _ (multiples_ren (pos n) s.lower) (multiples_ren (pos n) s.upper)
    multiple_ren ty (negsuc n) s = sides_ren ty (multiples (negsuc n) s.upper) (multiples (negsuc n) s.lower) _ _ (multiples_ren (negsuc n) s.upper) (multiples_ren (negsuc n) s.lower)

    between_ren : (ty : Ty) (e : Ends) → spanned (between ty e) ≡ between ty e
    unfolding between
    between_ren ty e = of (are_of ty e)
      where
        of : (v : Bool) → spanned (if v then numbers e.low e.high else range_of ty) ≡ (if v then numbers e.low e.high else range_of ty)
        of true = refl
        of false = refl

    product_ren : (ty : Ty) (p q : Option ℤ) (s t : Span1) → product_of scope ty p q (spanned s) (spanned t) ≡ spans_of (product_of small ty p q s t)
    product_ren ty (Some k) q s t = multiple_ren ty k t
    product_ren ty None (Some k) s t = multiple_ren ty k s
    product_ren ty None None s t = (λ i. Some (ends_product ty (ends_ren s i) (ends_ren t i))) ∙ of (ends_of small s) (ends_of small t)
      where
        of : (a c : Option Ends) → Some (ends_product ty a c) ≡ spans_of (Some (ends_product ty a c))
        of None c = refl
        of (Some a) None = refl
        of (Some a) (Some c) = ap (λ (x : Span1). Some x) (sym (between_ren ty (product_ends a c)))

    quotient_ren : (ty : Ty) (q : Option ℤ) (s : Span1) → quotient_of scope ty q (spanned s) ≡ spanned (quotient_of small ty q s)
    quotient_ren ty None s = refl
    quotient_ren ty (Some (pos zero)) s = refl
    quotient_ren ty (Some (negsuc n)) s = refl
    quotient_ren ty (Some (pos (suc n))) s = ap (ends_quotient ty (pos (suc n))) (ends_ren s) ∙ of (ends_of small s)
      where
        of : (e : Option Ends) → ends_quotient ty (pos (suc n)) e ≡ spanned (ends_quotient ty (pos (suc n)) e)
        of None = refl
        of (Some e) = sym (between_ren ty _)

    remainder_ren : (ty : Ty) (q : Option ℤ) → remainder_of ty q ≡ spanned (remainder_of ty q)
    remainder_ren ty None = refl
    remainder_ren ty (Some (pos zero)) = refl
    remainder_ren ty (Some (negsuc n)) = refl
    remainder_ren ty (Some (pos (suc n))) = refl

    minimum_ren : (ty : Ty) (s t : Span1) → minimum_of scope ty (spanned s) (spanned t) ≡ spans_of (minimum_of small ty s t)
    minimum_ren ty s t = ranged_ren ty (union small false s.lower t.lower) (joined s.upper t.upper) _ _ (union_ren false s.lower t.lower) (joined_ren s.upper t.upper)

    maximum_ren : (ty : Ty) (s t : Span1) → maximum_of scope ty (spanned s) (spanned t) ≡ spans_of (maximum_of small ty s t)
    maximum_ren ty s t = ranged_ren ty (joined s.lower t.lower) (union small true s.upper t.upper) _ _ (joined_ren s.lower t.lower) (union_ren true s.upper t.upper)

    choice_ren : (ty : Ty) (s t : Span1) → choice_of scope ty (spanned s) (spanned t) ≡ spans_of (choice_of small ty s t)
    choice_ren ty s t = ranged_ren ty (union small false s.lower t.lower) (union small true s.upper t.upper) _ _ (union_ren false s.lower t.lower) (union_ren true s.upper t.upper)

    binary_ren : (op : Op) (ty : Ty) (p q : Option ℤ) (s t : Span1) → binary_of scope op ty p q (spanned s) (spanned t) ≡ spans_of (binary_of small op ty p q s t)
    binary_ren Add ty p q s t = sum_ren ty s t
    binary_ren Sub ty p q s t = difference_ren ty s t
    binary_ren Mul ty p q s t = product_ren ty p q s t
    binary_ren Div ty p q s t = ap (λ (x : Span1). Some x) (quotient_ren ty q s)
    binary_ren Rem ty p q s t = ap (λ (x : Span1). Some x) (remainder_ren ty q)
    binary_ren Min ty p q s t = minimum_ren ty s t
    binary_ren Max ty p q s t = maximum_ren ty s t

    -- ---- expressions

    module _ (functions : List ℕ → Option (Ty × ℕ)) (names : List (List ℕ)) (region : List Span1) where
      pub interval_ren : (e : Term) → interval scope functions names (map spanned region) e ≡ spans_of (interval small functions names region e)
      interval_ren (Number t n) = sym (exactly_ren n)
      interval_ren (Name x) = ap coordinate_of (named_ren names region x) ∙ coordinate_ren (span_named names region x)
      interval_ren (Call x at) = refl
      interval_ren (Minus a) =
          let ty = shape_type functions a in
          (λ i. both (sym (exactly_ren (pos 0)) i) (interval_ren a i) (λ z s. difference_of scope ty z s))
          ∙ both_ren (exactly (pos 0)) (interval small functions names region a) (λ z s. difference_of scope ty z s) (λ z s. difference_of small ty z s) (λ z s. difference_ren ty z s)
      interval_ren (Binary op a c) =
          let ty = result_type op (shape_type functions a) in
          (λ i. both (interval_ren a i) (interval_ren c i) (λ s t. binary_of scope op ty (literal_of a) (literal_of c) s t))
          ∙ both_ren (interval small functions names region a) (interval small functions names region c) (λ s t. binary_of scope op ty (literal_of a) (literal_of c) s t)
          (λ s t. binary_of small op ty (literal_of a) (literal_of c) s t) (λ s t. binary_ren op ty (literal_of a) (literal_of c) s t)
      interval_ren (Clamp a l h) =
          let ty = shape_type functions a in
          let inner = (λ i. both (interval_ren a i) (interval_ren h i) (λ s t. minimum_of scope ty s t))
          ∙ both_ren (interval small functions names region a) (interval small functions names region h) (λ s t. minimum_of scope ty s t) (λ s t. minimum_of small ty s t) (λ s t.
          minimum_ren ty s t) in
          (λ i. both (inner i) (interval_ren l i) (λ s t. maximum_of scope ty s t))
          ∙ both_ren (both (interval small functions names region a) (interval small functions names region h) (λ s t. minimum_of small ty s t)) (interval small functions names region l)
          (λ s t. maximum_of scope ty s t) (λ s t. maximum_of small ty s t) (λ s t. maximum_ren ty s t)
      interval_ren (Cast t a) = ap (option_map (fitted scope t)) (interval_ren a) ∙ mapped_ren (fitted scope t) (fitted small t) (fitted_ren t) (interval small functions names region a)
      interval_ren (Choice c a d) =
          let ty = shape_type functions a in
          (λ i. both (interval_ren a i) (interval_ren d i) (λ s t. choice_of scope ty s t))
          ∙ both_ren (interval small functions names region a) (interval small functions names region d) (λ s t. choice_of scope ty s t) (λ s t. choice_of small ty s t) (λ s t. choice_ren ty s t)

    -- ---- forms freed of all symbols

    abbrev S : List ℕ
    S = symbols_from 0 (length scope)

    abbrev T : List ℕ
    T = symbols_from 0 (length small)

    in_all : (s n i : ℕ) → s ≤ i → i < s + n → is_inner (symbols_from s n) i ≡ true
    in_all s zero i low less = absurd (omega (arith, low, less))
    in_all s (suc n) i low less = of (s == i) refl (λ q. in_all (s + 1) n i (omega (arith, low, q)) (omega (arith, less)))
      where
        of : (v : Bool) → (s == i) ≡ v → (s < i → is_inner (symbols_from (s + 1) n) i ≡ true) → (v || is_inner (symbols_from (s + 1) n) i) ≡ true
        of true e rest = refl
        of false e rest = rest (grind (arith, nat_tests, e, low))

    out_all : (s n i : ℕ) → s + n ≤ i → is_inner (symbols_from s n) i ≡ false
    out_all s zero i low = refl
    out_all s (suc n) i low =
        let differs : (s == i) ≡ false = grind (arith, nat_tests, low) in
        ap (λ (v : Bool). v || is_inner (symbols_from (s + 1) n) i) differs ∙ out_all (s + 1) n i (omega (arith, low))

    in_S : (i : ℕ) → i < far → is_inner S i ≡ true
    in_S i less = in_all 0 (length scope) i (omega arith) (omega (arith, less, long))

    in_T : (i : ℕ) → i < m → is_inner T i ≡ true
    in_T i less = in_all 0 (length small) i (omega arith) (omega (arith, less, few))

    inner_turned : (s : ℕ) → is_inner S (turned s) ≡ is_inner T s
    inner_turned s = of (nat_lt s m) refl
      where
        of : (v : Bool) → nat_lt s m ≡ v → is_inner S (placed v s) ≡ is_inner T s
        of true e = (let less : s < m = grind (arith, nat_tests, e) in in_S (b + s) (omega (arith, less, behind)) ∙ sym (in_T s less))
        of false e =
            let more : m ≤ s = grind (arith, nat_tests, e) in
            out_all 0 (length scope) (far + s) (omega (arith, long)) ∙ sym (out_all 0 (length small) s (omega (arith, few, more)))

    names_ren : (ts : List Multiple) → list_any (λ (t : Multiple). is_inner S t.symbol) (map up ts) ≡ list_any (λ (t : Multiple). is_inner T t.symbol) ts
    names_ren [] = refl
    names_ren (t ∷ ts) = λ i. inner_turned t.symbol i || names_ren ts i

    itself_ren : (f : Form) → bounds_itself S (ren f) ≡ map ren (bounds_itself T f)
    itself_ren f = ap (λ (v : Bool). if v then [] else ren f ∷ []) (names_ren f.terms) ∙ of (names_inner T f)
      where
        of : (v : Bool) → (if v then [] else ren f ∷ []) ≡ map ren (if v then [] else f ∷ [])
        of true = refl
        of false = refl

    abbrev found_at : ℕ → ℕ → ℤ → Form → Form → Option (List Form)
    found_at n i c f other = option_and_then (λ next. bounds_below scope S n next) (replaced f i c other)

    abbrev walked : ℕ → ℕ → Form → ℤ → Option (List Form)
    walked n i f c = if is_inner S i && not (is_zero c) then bounds_at scope (slice_get scope i) c (found_at n i c f) else bounds_below scope S n f

    abbrev cost_at : ℕ → ℕ → ℤ → Form → Form → ℕ
    cost_at n i c f other = suc (option_map_or (λ next. replacements_below scope S n next) (replaced f i c other) 0)

    abbrev counted_at : ℕ → ℕ → Form → ℤ → ℕ
    counted_at n i f c = if is_inner S i && not (is_zero c) then total_at (slice_get scope i) c (cost_at n i c f) else replacements_below scope S n f

    -- a symbol that the form lacks is passed
    pass_bounds : (n : ℕ) (f : Form) → ((s : ℕ) → (turned s == n) ≡ false) → bounds_below scope S (suc n) (ren f) ≡ bounds_below scope S n (ren f)
    pass_bounds n f none =
        ap (walked n n (ren f)) (factor_none f.terms n none)
        ∙ ap (λ (v : Bool). if v then bounds_at scope (slice_get scope n) (pos 0) (found_at n n (pos 0) (ren f)) else bounds_below scope S n (ren f)) (low_and (is_inner S n))

    pass_counts : (n : ℕ) (f : Form) → ((s : ℕ) → (turned s == n) ≡ false) → replacements_below scope S (suc n) (ren f) ≡ replacements_below scope S n (ren f)
    pass_counts n f none =
        ap (counted_at n n (ren f)) (factor_none f.terms n none)
        ∙ ap (λ (v : Bool). if v then total_at (slice_get scope n) (pos 0) (cost_at n n (pos 0) (ren f)) else replacements_below scope S n (ren f)) (low_and (is_inner S n))

    bounds_low : (i : ℕ) → i ≤ b → (f : Form) → bounds_below scope S i (ren f) ≡ listed (bounds_below small T 0 f)
    bounds_low zero le f = ap (λ (fs : List Form). Some fs) (itself_ren f)
    bounds_low (suc i) le f = pass_bounds i f (none_below i (omega (arith, le))) ∙ bounds_low i (omega (arith, le)) f

    freed_counts_low : (i : ℕ) → i ≤ b → (f : Form) → replacements_below scope S i (ren f) ≡ 0
    freed_counts_low zero le f = refl
    freed_counts_low (suc i) le f = pass_counts i f (none_below i (omega (arith, le))) ∙ freed_counts_low i (omega (arith, le)) f

    module _ (k : ℕ) (less : k < m) where
      tests_same : (z : ℤ) → (is_inner S (b + k) && not (is_zero z)) ≡ (is_inner T k && not (is_zero z))
      tests_same z = λ i. (in_S (b + k) (omega (arith, less, behind)) ∙ sym (in_T k less)) i && not (is_zero z)

      bound_turned : slice_get scope (turned k) ≡ slice_get small k
      bound_turned = ap (slice_get scope) (turned_first k less) ∙ there k less

      step_bounds : ((f : Form) → bounds_below scope S (b + k) (ren f) ≡ listed (bounds_below small T k f)) → (f : Form) →
          bounds_below scope S (suc (b + k)) (ren f) ≡ listed (bounds_below small T (suc k) f)
      step_bounds rest f =
          let q = turned_first k less in
          (λ i. walked (b + k) (sym q i) (ren f) (factor_of (map up f.terms) (sym q i))) ∙ ap (walked (b + k) (turned k) (ren f)) (factor_ren f.terms k)
          ∙ ap (λ (v : Bool). if v then bounds_at scope (slice_get scope (turned k)) z (found_at (b + k) (turned k) z (ren f)) else bounds_below scope S (b + k) (ren f))
          (ap (λ (i : ℕ). is_inner S i && not (is_zero z)) q ∙ tests_same z) ∙ of (is_inner T k && not (is_zero z))
        where
          z : ℤ
          z = factor_of f.terms k

          found_small : Form → Option (List Form)
          found_small other = option_and_then (λ next. bounds_below small T k next) (replaced f k z other)

          then_listed : (o : Option Form) → option_and_then (λ next. bounds_below scope S (b + k) next) (formed o) ≡ listed (option_and_then (λ next. bounds_below small T k next) o)
          then_listed None = refl
          then_listed (Some g) = rest g

          one : (e : ℤ) → found_at (b + k) (turned k) z (ren f) (number e) ≡ listed (found_small (number e))
          one e = ap (λ (o : Option Form). option_and_then (λ next. bounds_below scope S (b + k) next) o) (replaced_ren f k z (number e)) ∙ then_listed (replaced f k z (number e))

          by_loop : (low last c : ℤ) (g h : Form → Option (List Form)) → ((e : ℤ) → g (number e) ≡ listed (h (number e))) →
              bounds_at scope (Some (Loop (numbers low last))) c g ≡ listed (bounds_at small (Some (Loop (numbers low last))) c h)
          by_loop low last (pos n) g h each = each last
          by_loop low last (negsuc n) g h each = each low

          at_one : (o : Option Binding) → slice_get small k ≡ o → bounds_at scope o z (found_at (b + k) (turned k) z (ren f)) ≡ listed (bounds_at small o z found_small)
          at_one None e = refl
          at_one (Some x) e =
              let l = loops k x e in
              ap (λ (y : Binding). bounds_at scope (Some y) z (found_at (b + k) (turned k) z (ren f))) l.2 ∙ by_loop l.0 l.1 z (found_at (b + k) (turned k) z (ren f)) found_small one
              ∙ ap (λ (y : Binding). listed (bounds_at small (Some y) z found_small)) (sym l.2)

          of : (v : Bool) → (if v then bounds_at scope (slice_get scope (turned k)) z (found_at (b + k) (turned k) z (ren f)) else bounds_below scope S (b + k) (ren f))
              ≡ listed (if v then bounds_at small (slice_get small k) z found_small else bounds_below small T k f)
          of true = ap (λ (o : Option Binding). bounds_at scope o z (found_at (b + k) (turned k) z (ren f))) bound_turned ∙ at_one (slice_get small k) refl
          of false = rest f

      step_freed : ((f : Form) → replacements_below scope S (b + k) (ren f) ≡ replacements_below small T k f) → (f : Form) →
          replacements_below scope S (suc (b + k)) (ren f) ≡ replacements_below small T (suc k) f
      step_freed rest f =
          let q = turned_first k less in
          (λ i. counted_at (b + k) (sym q i) (ren f) (factor_of (map up f.terms) (sym q i))) ∙ ap (counted_at (b + k) (turned k) (ren f)) (factor_ren f.terms k)
          ∙ ap (λ (v : Bool). if v then total_at (slice_get scope (turned k)) z (cost_at (b + k) (turned k) z (ren f)) else replacements_below scope S (b + k) (ren f))
          (ap (λ (i : ℕ). is_inner S i && not (is_zero z)) q ∙ tests_same z) ∙ of (is_inner T k && not (is_zero z))
        where
          z : ℤ
          z = factor_of f.terms k

          cost_small : Form → ℕ
          cost_small other = suc (option_map_or (λ next. replacements_below small T k next) (replaced f k z other) 0)

          counted : (o : Option Form) → option_map_or (λ next. replacements_below scope S (b + k) next) (formed o) 0 ≡ option_map_or (λ next. replacements_below small T k next) o 0
          counted None = refl
          counted (Some g) = rest g

          one : (e : ℤ) → cost_at (b + k) (turned k) z (ren f) (number e) ≡ cost_small (number e)
          one e = ap (λ (o : Option Form). suc (option_map_or (λ next. replacements_below scope S (b + k) next) o 0)) (replaced_ren f k z (number e)) ∙ ap suc (counted (replaced f k z (number e)))

          by_loop : (low last c : ℤ) (g h : Form → ℕ) → ((e : ℤ) → g (number e) ≡ h (number e)) → total_at (Some (Loop (numbers low last))) c g ≡ total_at (Some (Loop (numbers low last))) c h
          by_loop low last (pos n) g h each = ap (λ (p : ℕ). p + 0) (each last)
          by_loop low last (negsuc n) g h each = ap (λ (p : ℕ). p + 0) (each low)

          at_one : (o : Option Binding) → slice_get small k ≡ o → total_at o z (cost_at (b + k) (turned k) z (ren f)) ≡ total_at o z cost_small
          at_one None e = refl
          at_one (Some x) e =
              let l = loops k x e in
              ap (λ (y : Binding). total_at (Some y) z (cost_at (b + k) (turned k) z (ren f))) l.2 ∙ by_loop l.0 l.1 z (cost_at (b + k) (turned k) z (ren f)) cost_small one
              ∙ ap (λ (y : Binding). total_at (Some y) z cost_small) (sym l.2)

          of : (v : Bool) → (if v then total_at (slice_get scope (turned k)) z (cost_at (b + k) (turned k) z (ren f)) else replacements_below scope S (b + k) (ren f))
              ≡ (if v then total_at (slice_get small k) z cost_small else replacements_below small T k f)
          of true = ap (λ (o : Option Binding). total_at o z (cost_at (b + k) (turned k) z (ren f))) bound_turned ∙ at_one (slice_get small k) refl
          of false = rest f

    bounds_mid : (n : ℕ) → n ≤ m → (f : Form) → bounds_below scope S (b + n) (ren f) ≡ listed (bounds_below small T n f)
    bounds_mid zero le f = (let none : b + 0 ≡ b = omega arith in ap (λ (i : ℕ). bounds_below scope S i (ren f)) none ∙ bounds_low b (omega arith) f)
    bounds_mid (suc k) le f = ap (λ (i : ℕ). bounds_below scope S i (ren f)) (next_place k) ∙ step_bounds k (omega (arith, le)) (bounds_mid k (omega (arith, le))) f

    freed_counts_mid : (n : ℕ) → n ≤ m → (f : Form) → replacements_below scope S (b + n) (ren f) ≡ replacements_below small T n f
    freed_counts_mid zero le f = (let none : b + 0 ≡ b = omega arith in ap (λ (i : ℕ). replacements_below scope S i (ren f)) none ∙ freed_counts_low b (omega arith) f)
    freed_counts_mid (suc k) le f = ap (λ (i : ℕ). replacements_below scope S i (ren f)) (next_place k) ∙ step_freed k (omega (arith, le)) (freed_counts_mid k (omega (arith, le))) f

    bounds_top : (e : ℕ) → (b + m) + e ≤ far → (f : Form) → bounds_below scope S ((b + m) + e) (ren f) ≡ listed (bounds_below small T m f)
    bounds_top zero le f = (let none : (b + m) + 0 ≡ b + m = omega arith in ap (λ (i : ℕ). bounds_below scope S i (ren f)) none ∙ bounds_mid m (omega arith) f)
    bounds_top (suc e) le f =
        let next : (b + m) + suc e ≡ suc ((b + m) + e) = omega arith in
        ap (λ (j : ℕ). bounds_below scope S j (ren f)) next ∙ pass_bounds ((b + m) + e) f (none_between ((b + m) + e) (omega arith) (omega (arith, le))) ∙ bounds_top e (omega (arith, le)) f

    freed_counts_top : (e : ℕ) → (b + m) + e ≤ far → (f : Form) → replacements_below scope S ((b + m) + e) (ren f) ≡ replacements_below small T m f
    freed_counts_top zero le f = (let none : (b + m) + 0 ≡ b + m = omega arith in ap (λ (i : ℕ). replacements_below scope S i (ren f)) none ∙ freed_counts_mid m (omega arith) f)
    freed_counts_top (suc e) le f =
        let next : (b + m) + suc e ≡ suc ((b + m) + e) = omega arith in
        ap (λ (j : ℕ). replacements_below scope S j (ren f)) next ∙ pass_counts ((b + m) + e) f (none_between ((b + m) + e) (omega arith) (omega (arith, le))) ∙ freed_counts_top e (omega
        (arith, le)) f

    freed_ren : (f : Form) → eliminated scope S (ren f) ≡ listed (eliminated small T f)
    freed_ren f =
        let within : (b + m) + (far - (b + m)) ≤ far = omega (arith, behind) in
        let found = ap (λ (n : ℕ). bounds_below scope S n (ren f)) all_symbols ∙ bounds_top (far - (b + m)) within f ∙ ap (λ (n : ℕ). listed (bounds_below small T n f)) (sym few) in
        let counted = ap (λ (n : ℕ). replacements_below scope S n (ren f)) all_symbols ∙ freed_counts_top (far - (b + m)) within f ∙ ap (λ (n : ℕ). replacements_below small T n f) (sym few) in
        (λ i. if limits_ren f i then (if nat_le (counted i) 4096 then found i else Some []) else None) ∙ of (is_within_limits f) (nat_le (replacements_below small T (length small) f) 4096)
      where
        of : (v w : Bool) → (if v then (if w then listed (bounds_below small T (length small) f) else Some []) else None) ≡ listed (if v then (if w then bounds_below small T (length small)
            f else Some []) else None)
        of false w = refl
        of true true = refl
        of true false = refl

    form_ren : (upper : Bool) (f : Form) → form_bounds scope S upper (ren f) ≡ listed (form_bounds small T upper f)
    form_ren true f = freed_ren f
    form_ren false f = ap (λ (o : Option Form). option_and_then (λ bounds. multiples (negsuc 0) bounds) (option_and_then (λ n. eliminated scope S n) o)) (combined_ren (number (pos 0)) (negsuc 0) f)
        ∙ of (negated f)
      where
        by : (o : Option (List Form)) → option_and_then (λ bounds. multiples (negsuc 0) bounds) (listed o) ≡ listed (option_and_then (λ bounds. multiples (negsuc 0) bounds) o)
        by None = refl
        by (Some fs) = multiples_ren (negsuc 0) fs

        of : (o : Option Form) → option_and_then (λ bounds. multiples (negsuc 0) bounds) (option_and_then (λ n. eliminated scope S n) (formed o))
            ≡ listed (option_and_then (λ bounds. multiples (negsuc 0) bounds) (option_and_then (λ n. eliminated small T n) o))
        of None = refl
        of (Some g) = ap (λ (o : Option (List Form)). option_and_then (λ bounds. multiples (negsuc 0) bounds) o) (freed_ren g) ∙ by (eliminated small T g)

    side_fold : (acc : Option (List Form)) (os : List (Option (List Form))) → fold (both_bounds scope false) (listed acc) (map listed os) ≡ listed (fold (both_bounds small false) acc os)
    side_fold acc [] = refl
    side_fold acc (o ∷ os) = ap (λ (a : Option (List Form)). fold (both_bounds scope false) a (map listed os)) (of acc o) ∙ side_fold (both_bounds small false acc o) os
      where
        of : (p q : Option (List Form)) → both_bounds scope false (listed p) (listed q) ≡ listed (both_bounds small false p q)
        of None q = refl
        of (Some fs) None = refl
        of (Some fs) (Some gs) = joined_ren fs gs

    side_ren : (upper : Bool) (fs : List Form) → side_bounds scope S upper (map ren fs) ≡ listed (side_bounds small T upper fs)
    side_ren upper fs = ap (fold (both_bounds scope false) (Some [])) (of fs) ∙ side_fold (Some []) (map (form_bounds small T upper) fs)
      where
        of : (fs : List Form) → map (form_bounds scope S upper) (map ren fs) ≡ map listed (map (form_bounds small T upper) fs)
        of [] = refl
        of (f ∷ fs) = λ i. form_ren upper f i ∷ of fs i

    projected_ren : (s : Span1) → projected_span scope S (spanned s) ≡ spans_of (projected_span small T s)
    projected_ren s = (λ i. span_of (side_ren false s.lower i) (side_ren true s.upper i)) ∙ span_ren (side_bounds small T false s.lower) (side_bounds small T true s.upper)

    alone_ren : (f : Form) → lone_number (ren f) ≡ lone_number f
    alone_ren f = of f.terms
      where
        of : (ts : List Multiple) → lone_number (record { constant = f.constant; terms = map up ts }) ≡ lone_number (record { constant = f.constant; terms = ts })
        of [] = refl
        of (t ∷ ts) = refl

    greatest_ren : (fs : List Form) → greatest_number (map ren fs) ≡ greatest_number fs
    greatest_ren [] = refl
    greatest_ren (f ∷ fs) = λ i. greater (alone_ren f i) (greatest_ren fs i)

    least_of_ren : (fs : List Form) → least_number (map ren fs) ≡ least_number fs
    least_of_ren [] = refl
    least_of_ren (f ∷ fs) = λ i. less_of (alone_ren f i) (least_of_ren fs i)

    -- the ends of a span once it is freed of all symbols
    pub freed_ends_ren : (s : Span1) → freed_ends scope (spanned s) ≡ freed_ends small s
    freed_ends_ren s =
        ap (λ (o : Option Span1). o >>= λ p. ends_between (greatest_number p.lower) (least_number p.upper)) (projected_ren s) ∙ of (projected_span small T s)
      where
        of : (o : Option Span1) → (spans_of o >>= λ p. ends_between (greatest_number p.lower) (least_number p.upper)) ≡ (o >>= λ p. ends_between (greatest_number p.lower) (least_number p.upper))
        of None = refl
        of (Some p) = λ i. ends_between (greatest_ren p.lower i) (least_of_ren p.upper i)
