-- What a piece fetches is told by the grid's symbols alone, and lies between numbers of the fetched function's region.
use Rattle.std.proofs.Common.{◌≡◌, ℕ, zero, suc, ◌+◌, ◌-◌, ◌≤◌, Bool, true, false, ◌&&◌, ◌||◌, not, List, [], ◌∷◌, ◌++◌, length, Option, Some, None, refl, sym, ap, ◌∙◌, subst, arith}
use Rattle.std.specs.Prelude.{ℤ, pos, negsuc, ◌+ℤ◌, ◌-ℤ◌, ◌≤ℤ◌, int_lt, nat_lt, ◌==◌, option_map, option_to_list, replicate, if◌then◌else◌, slice_get}
use Rattle.std.specs.List.{AllByRecursion, list_any}
use Rattle.std.proofs.lemmas.Int.{ints}
use Rattle.std.proofs.lemmas.List.{length-append, length-map, length-replicate}
use Rattle.std.proofs.lemmas.List.Elements.{recursion_from_All}
use Rattle.numeric.specs.declared.ty.Ty.{Ty}
use Rattle.numeric.specs.declared.ty.Ty.TheVariants.{I32}
use Rattle.lin.specs.Forms.{Form, number}
use Rattle.lin.specs.Search.{is_empty}
use Rattle.lin.specs.declared.form.Multiple.{Multiple}
use Rattle.lin.specs.declared.scope.Binding.{Binding}
use Rattle.lin.specs.declared.scope.Binding.TheVariants.{Loop, LetMin, LetMax}
use Rattle.lin.specs.declared.span.Span1.{Span1}
use Rattle.lin.proofs.TermLemmas.{all_weaker}
use Rattle.bounds.specs.Lists.{moved, gap, all_moved, union}
use Rattle.bounds.specs.Spans.{span_of, range_of, or_range, choice_of}
use Rattle.bounds.specs.Projection.Elimination.{is_inner}
use Rattle.bounds.proofs.ListSound.{AllIn, Made, all-append, kept-all}
use Rattle.bounds.proofs.Names.{Outer, combined-outer}
use Rattle.bounds.proofs.ProjectionSound.{span-outer}
use Rattle.plan.specs.declared.stmt.Pick.TheVariants.{Min, Max}
use Rattle.plan.specs.declared.stmt.Places.TheVariants.{From}
use Rattle.meaning.specs.Algorithm.{Algorithm}
use Rattle.sched.specs.declared.numbers.Extent.{Extent}
use Rattle.sched.specs.declared.skeleton.Step.{Step}
use Rattle.sched.specs.declared.skeleton.Step.TheVariants.{Turns, Named, Tested}
use Rattle.sched.specs.Skeleton.{NestText, SkeletonText}
use Rattle.sched.specs.Order.{Ordered}
use Rattle.sched.specs.Standing.{◌>>=◌}
use Rattle.regions.specs.declared.fetching.Part.{Part}
use Rattle.sched.specs.Stored.{FormulaText, StoredText, calls_in}
use Rattle.sched.specs.Around.{AroundText, anything, skip_to, bind, bind_step, bind_steps, grid_symbol, grid_scope, head_scope, left_around, coordinates_behind, around}
use Rattle.sched.specs.Bounded.{whole}
use Rattle.sched.specs.Regions.{symbols_from}
use Rattle.sched.specs.Taken.{SiteText, freed, shortest, run_of, places_count}
use Rattle.regions.specs.Taken.{add_calls, with_site, add_site, add_asked, add_sites, sites_of, either, with_call, with_calls, with_sites, needed_span, is_number, add_symbolic}
use Rattle.regions.specs.Taken.{greatest_from, least_from, cut, or_all, is_shown, shown, seated, needed_part, tight, part_of, taken_region}
use Rattle.blocks.proofs.Laying.{bound, same}

-- ---- forms without some symbols

module _ (inner : List ℕ) where
  abbrev pub OuterSpan : Span1 → Type 0
  OuterSpan s = AllByRecursion (Outer inner) s.lower × AllByRecursion (Outer inner) s.upper

  moved_outer : (upper : Bool) (f : Form) (o : Option ℤ) → Outer inner f → AllByRecursion (λ m. Made (Outer inner) m) (option_to_list (option_map (moved upper f) o))
  moved_outer true f None h = tt
  moved_outer true f (Some d) h = (combined-outer inner (pos 1) f (number d) h refl, tt)
  moved_outer false f None h = tt
  moved_outer false f (Some d) h = (combined-outer inner (negsuc 0) f (number d) h refl, tt)

  all_moved_outer : (scope : List Binding) (upper : Bool) (fs others : List Form) → AllByRecursion (Outer inner) fs → AllByRecursion (λ m. Made (Outer inner) m) (all_moved scope upper fs others)
  all_moved_outer scope upper [] others h = tt
  all_moved_outer scope upper (f ∷ fs) others h =
      all-append (λ m. Made (Outer inner) m) (option_to_list (option_map (moved upper f) (gap scope upper f others))) (all_moved scope upper fs others)
      (moved_outer upper f (gap scope upper f others) h.0) (all_moved_outer scope upper fs others h.1)

  union_outer : (scope : List Binding) (upper : Bool) (fs gs : List Form) → AllByRecursion (Outer inner) fs → AllByRecursion (Outer inner) gs → AllIn (Outer inner) (union scope upper fs gs)
  union_outer scope upper fs gs h k =
      kept-all (Outer inner) (all_moved scope upper fs gs ++ all_moved scope upper gs fs)
      (all-append (λ m. Made (Outer inner) m) (all_moved scope upper fs gs) (all_moved scope upper gs fs) (all_moved_outer scope upper fs gs h) (all_moved_outer scope upper gs fs k))

  span_outer : (lower upper : Option (List Form)) (s : Span1) → AllIn (Outer inner) lower → AllIn (Outer inner) upper → span_of lower upper ≡ Some s → OuterSpan s
  span_outer None upper s h k e = absurd (cc e)
  span_outer (Some ls) None s h k e = absurd (cc e)
  span_outer (Some ls) (Some us) s h k e = subst OuterSpan (same (record { lower = ls; upper = us }) s e) (h ls refl, k us refl)

  range_outer : (ty : Ty) (s : Span1) → OuterSpan s → OuterSpan (or_range ty s)
  range_outer ty s h = of (is_empty s.lower || is_empty s.upper)
    where
      of : (b : Bool) → OuterSpan (if b then range_of ty else s)
      of true = ((refl, tt), (refl, tt))
      of false = h

  choice_outer : (scope : List Binding) (ty : Ty) (a b s : Span1) → OuterSpan a → OuterSpan b → choice_of scope ty a b ≡ Some s → OuterSpan s
  choice_outer scope ty a b s h k e = of (span_of (union scope false a.lower b.lower) (union scope true a.upper b.upper)) refl e
    where
      of : (o : Option Span1) → span_of (union scope false a.lower b.lower) (union scope true a.upper b.upper) ≡ o → option_map (or_range ty) o ≡ Some s → OuterSpan s
      of None q r = absurd (cc r)
      of (Some t) q r =
          subst OuterSpan (same (or_range ty t) s r)
          (range_outer ty t (span_outer (union scope false a.lower b.lower) (union scope true a.upper b.upper) t (union_outer scope false a.lower b.lower h.0 k.0)
          (union_outer scope true a.upper b.upper h.1 k.1) q))

  abbrev OuterIf : Option Span1 → Type 0
  OuterIf o = elim o [ Some s ↦ OuterSpan s | None ↦ Unit {0} ]

  either_outer : (grid : List Binding) (known : Option Span1) (f s : Span1) → OuterIf known → OuterSpan f → either grid known f ≡ Some s → OuterSpan s
  either_outer grid None f s h k e = subst OuterSpan (same f s e) k
  either_outer grid (Some t) f s h k e = choice_outer grid I32 t f s h k e

  symbolic_outer : (kept fs : List Form) → AllByRecursion (Outer inner) kept → AllByRecursion (Outer inner) fs → AllByRecursion (Outer inner) (add_symbolic kept fs)
  symbolic_outer kept [] h k = h
  symbolic_outer kept (f ∷ fs) h k = of (not (is_number f) && nat_lt (length kept) 3) (symbolic_outer kept fs h k.1)
      (symbolic_outer (kept ++ f ∷ []) fs (all-append (Outer inner) kept (f ∷ []) h (k.0, tt)) k.1)
    where
      of : (b : Bool) → AllByRecursion (Outer inner) (add_symbolic kept fs) → AllByRecursion (Outer inner) (add_symbolic (kept ++ f ∷ []) fs) →
          AllByRecursion (Outer inner) (if b then add_symbolic (kept ++ f ∷ []) fs else add_symbolic kept fs)
      of true a b = b
      of false a b = a

  cut_outer : (s : Span1) (e : Extent) → OuterSpan s → OuterSpan (cut s e)
  cut_outer s e h = (
    all-append (Outer inner) (add_symbolic [] s.lower) (number (greatest_from s.lower e.low) ∷ []) (symbolic_outer [] s.lower tt h.0) (refl, tt),
    all-append (Outer inner) (add_symbolic [] s.upper) (number (least_from s.upper (e.low +ℤ pos e.count -ℤ pos 1)) ∷ []) (symbolic_outer [] s.upper tt h.1) (refl, tt),
  )

-- ---- symbols from one on

neither : (a b : Bool) → (a || b) ≡ false → (a ≡ false) × (b ≡ false)
neither true b h = absurd (cc h)
neither false b h = (refl, h)

nor : (a b : Bool) → a ≡ false → b ≡ false → (a || b) ≡ false
nor true b h k = absurd (cc h)
nor false b h k = k

fewer : (m c d x : ℕ) → c ≤ d → is_inner (symbols_from m d) x ≡ false → is_inner (symbols_from m c) x ≡ false
fewer m zero d x le h = refl
fewer m (suc c) zero x le h = absurd (omega (arith, le))
fewer m (suc c) (suc d) x le h =
    let parts = neither (m == x) (is_inner (symbols_from (m + 1) d) x) h in
    nor (m == x) (is_inner (symbols_from (m + 1) c) x) parts.0 (fewer (m + 1) c d x (omega (arith, le)) parts.1)

fewer_terms : (m c d : ℕ) (ts : List Multiple) → c ≤ d → list_any (λ t. is_inner (symbols_from m d) t.symbol) ts ≡ false → list_any (λ t. is_inner (symbols_from m c) t.symbol) ts ≡ false
fewer_terms m c d [] le h = refl
fewer_terms m c d (t ∷ ts) le h =
    let parts = neither (is_inner (symbols_from m d) t.symbol) (list_any (λ t. is_inner (symbols_from m d) t.symbol) ts) h in
    nor (is_inner (symbols_from m c) t.symbol) (list_any (λ t. is_inner (symbols_from m c) t.symbol) ts) (fewer m c d t.symbol le parts.0) (fewer_terms m c d ts le parts.1)

none_named : (ts : List Multiple) → list_any (λ t. is_inner [] t.symbol) ts ≡ false
none_named [] = refl
none_named (t ∷ ts) = none_named ts

all_none : (fs : List Form) → AllByRecursion (Outer []) fs
all_none [] = tt
all_none (f ∷ fs) = (none_named f.terms, all_none fs)

module _ (m c : ℕ) where
  abbrev inner : List ℕ
  inner = symbols_from m c

  freed_outer : (scope : List Binding) (d : ℕ) (s f : Span1) → c ≤ d → freed scope (symbols_from m d) s ≡ Some f → OuterSpan (symbols_from m c) f
  freed_outer scope zero s f le e =
      let none : c ≡ 0 = omega (arith, le) in
      subst (λ (n : ℕ). OuterSpan (symbols_from m n) f) (sym none) (all_none f.lower, all_none f.upper)
  freed_outer scope (suc d) s f le e =
      let o = span-outer scope (symbols_from m (suc d)) s f e in (
        all_weaker (Outer (symbols_from m (suc d))) (Outer (symbols_from m c)) (λ g k. fewer_terms m c (suc d) g.terms le k) f.lower (recursion_from_All (Outer (symbols_from m (suc d))) f.lower o.0),
        all_weaker (Outer (symbols_from m (suc d))) (Outer (symbols_from m c)) (λ g k. fewer_terms m c (suc d) g.terms le k) f.upper (recursion_from_All (Outer (symbols_from m (suc d))) f.upper o.1),
      )

  module _ (grid : List Binding) (long : length grid ≡ m) where
    call_outer : (scope : List Binding) (k d : ℕ) (cl : List Span1) (known o : Option Span1) → c ≤ k → OuterIf inner known → with_call grid scope (symbols_from m k) d cl known ≡ Some o →
        OuterIf inner o
    call_outer scope k d cl known o le h e =
        let b = bound (slice_get cl d) (λ s. freed scope (symbols_from m k) s >>= λ f. either grid known f >>= λ u. Some (Some u)) o e in
        let x = bound (freed scope (symbols_from m k) b.value) (λ f. either grid known f >>= λ u. Some (Some u)) o b.comes in
        let y = bound (either grid known x.value) (λ u. Some (Some u)) o x.comes in
        subst (λ (p : Option Span1). OuterIf inner p) (same (Some y.value) o y.comes) (either_outer inner grid known x.value y.value h (freed_outer scope k b.value x.value le x.is) y.is)

    calls_outer : (scope : List Binding) (k d : ℕ) (cls : List (List Span1)) (known o : Option Span1) → c ≤ k → OuterIf inner known →
        with_calls grid scope (symbols_from m k) d cls known ≡ Some o → OuterIf inner o
    calls_outer scope k d [] known o le h e = subst (λ (p : Option Span1). OuterIf inner p) (same known o e) h
    calls_outer scope k d (cl ∷ cls) known o le h e =
        let b = bound (with_call grid scope (symbols_from m k) d cl known) (with_calls grid scope (symbols_from m k) d cls) o e in
        calls_outer scope k d cls b.value o le (call_outer scope k d cl known b.value le h b.is) b.comes

    sites_outer : (d : ℕ) (ss : List SiteText) (known o : Option Span1) → AllByRecursion (λ t. m + c ≤ length t.scope) ss → OuterIf inner known → with_sites grid d ss known ≡ Some o → OuterIf inner o
    sites_outer d [] known o a h e = subst (λ (p : Option Span1). OuterIf inner p) (same known o e) h
    sites_outer d (t ∷ ss) known o a h e =
        let b = bound (with_calls grid t.scope (symbols_from (length grid) (length t.scope - length grid)) d t.calls known) (with_sites grid d ss) o e in
        let le : c ≤ length t.scope - m = (let k = a.0 in omega (arith, k)) in
        let counted : with_calls grid t.scope (symbols_from m (length t.scope - m)) d t.calls known ≡ Some b.value =
        ap (λ (n : ℕ). with_calls grid t.scope (symbols_from n (length t.scope - n)) d t.calls known) (sym long) ∙ b.is in
        sites_outer d ss b.value o a.1 (calls_outer t.scope (length t.scope - m) d t.calls known b.value le h counted) b.comes

    needed_outer : (d : ℕ) (ss : List SiteText) (s : Span1) → AllByRecursion (λ t. m + c ≤ length t.scope) ss → needed_span grid ss d ≡ Some s → OuterSpan inner s
    needed_outer d ss s a e =
        let b = bound (with_sites grid d ss None) (λ o. o) s e in
        let h : OuterIf inner b.value = sites_outer d ss None b.value a tt b.is in
        subst (λ (p : Option Span1). OuterIf inner p) b.comes h

    whole_outer : (e : Extent) → OuterSpan inner (whole e)
    whole_outer e = ((refl, tt), (refl, tt))

-- ---- a part is all of a dimension, or what is needed, cut to the region

data IsPart (grid : List Binding) (ss : List SiteText) (d : ℕ) (e : Extent) (s : Span1) : Type 0 where
  all : s ≡ whole e → IsPart grid ss d e s
  some : (t : Span1) → needed_span grid ss d ≡ Some t → s ≡ cut t e → IsPart grid ss d e s

seated_span : (grid : List Binding) (ss : List SiteText) (d : ℕ) (s : Span1) (p : Part) → seated grid ss d s ≡ Some p → p.span ≡ s
seated_span grid ss d s p h =
    let b = bound (shortest grid s) (λ b. slice_get s.lower b.0 >>= λ origin. run_of origin b.1 >>= λ seats. shown grid ss d s origin b.1 seats) p h in
    let x = bound (slice_get s.lower b.value.0) (λ origin. run_of origin b.value.1 >>= λ seats. shown grid ss d s origin b.value.1 seats) p b.comes in
    let y = bound (run_of x.value b.value.1) (λ seats. shown grid ss d s x.value b.value.1 seats) p x.comes in
    of x.value b.value.1 (is_shown grid ss d s y.value) y.comes
  where
    of : (origin : Form) (n : ℤ) (w : Bool) → (if w then Some (record { span = s; places = From origin (places_count n) }) else None) ≡ Some p → p.span ≡ s
    of origin n true q = sym (ap (λ (z : Part). z.span) (same (record { span = s; places = From origin (places_count n) }) p q))
    of origin n false q = absurd (cc q)

part_is : (grid : List Binding) (ss : List SiteText) (d : ℕ) (e : Extent) → IsPart grid ss d e (part_of grid ss d e).span
part_is grid ss d e = of (tight grid ss d e) refl
  where
    of : (o : Option Part) → tight grid ss d e ≡ o → IsPart grid ss d e (or_all e o).span
    of None q = all refl
    of (Some p) q =
        let b = bound (needed_part grid ss d e) (seated grid ss d) p q in
        let x = bound (needed_span grid ss d) (λ s. Some (cut s e)) b.value b.is in
        some x.value x.is (seated_span grid ss d b.value p b.comes ∙ sym (same (cut x.value e) b.value x.comes))

-- ---- no symbol but the grid's

pub taken_outer : (m c : ℕ) (grid : List Binding) (ss : List SiteText) → length grid ≡ m → AllByRecursion (λ t. m + c ≤ length t.scope) ss → (d : ℕ) (es : List Extent) →
    AllByRecursion (OuterSpan (symbols_from m c)) (taken_region grid ss d es)
taken_outer m c grid ss long a d [] = tt
taken_outer m c grid ss long a d (e ∷ es) = (of (part_of grid ss d e).span (part_is grid ss d e), taken_outer m c grid ss long a (d + 1) es)
  where
    of : (s : Span1) → IsPart grid ss d e s → OuterSpan (symbols_from m c) s
    of s (all is) = subst (OuterSpan (symbols_from m c)) (sym is) (whole_outer m c grid long e)
    of s (some t needed is) = subst (OuterSpan (symbols_from m c)) (sym is) (cut_outer (symbols_from m c) t e (needed_outer m c grid long d ss t a needed))

-- ---- between numbers

-- a number stands among the forms
pub record HasNumber (fs : List Form) (z : ℤ) : Type 0 where
  pub place : ℕ
  pub at : slice_get fs place ≡ Some (number z)

-- numbers of the dimension stand at both ends
pub record IsBetween (e : Extent) (s : Span1) : Type 0 where
  pub low : ℤ
  pub high : ℤ
  pub from : HasNumber s.lower low
  pub to : HasNumber s.upper high
  pub above : e.low ≤ℤ low
  pub below : high ≤ℤ (e.low +ℤ pos e.count -ℤ pos 1)

last_number : (fs : List Form) (z : ℤ) → HasNumber (fs ++ number z ∷ []) z
last_number [] z = record { place = 0; at = refl }
last_number (f ∷ fs) z = let h = last_number fs z in record { place = suc h.place; at = h.at }

greatest_above : (fs : List Form) (z : ℤ) → z ≤ℤ greatest_from fs z
greatest_above [] z = omega (arith, ints)
greatest_above (f ∷ fs) z = of (is_number f && int_lt z f.constant) refl (greatest_above fs f.constant) (greatest_above fs z)
  where
    of : (b : Bool) → (is_number f && int_lt z f.constant) ≡ b → f.constant ≤ℤ greatest_from fs f.constant → z ≤ℤ greatest_from fs z → z ≤ℤ greatest_from fs (if b then f.constant else z)
    of true e h k = let less : z ≤ℤ f.constant = above (is_number f) (int_lt z f.constant) refl e in omega (arith, ints, less, h)
      where
        above : (b d : Bool) → int_lt z f.constant ≡ d → (b && d) ≡ true → z ≤ℤ f.constant
        above true true q r = grind (arith, ints)
        above true false q r = absurd (cc r)
        above false d q r = absurd (cc r)
    of false e h k = k

least_below : (fs : List Form) (z : ℤ) → least_from fs z ≤ℤ z
least_below [] z = omega (arith, ints)
least_below (f ∷ fs) z = of (is_number f && int_lt f.constant z) refl (least_below fs f.constant) (least_below fs z)
  where
    of : (b : Bool) → (is_number f && int_lt f.constant z) ≡ b → least_from fs f.constant ≤ℤ f.constant → least_from fs z ≤ℤ z → least_from fs (if b then f.constant else z) ≤ℤ z
    of true e h k = let less : f.constant ≤ℤ z = above (is_number f) (int_lt f.constant z) refl e in omega (arith, ints, less, h)
      where
        above : (b d : Bool) → int_lt f.constant z ≡ d → (b && d) ≡ true → f.constant ≤ℤ z
        above true true q r = grind (arith, ints)
        above true false q r = absurd (cc r)
        above false d q r = absurd (cc r)
    of false e h k = k

part_between : (grid : List Binding) (ss : List SiteText) (d : ℕ) (e : Extent) (s : Span1) → IsPart grid ss d e s → IsBetween e s
part_between grid ss d e s (all is) =
    subst (IsBetween e) (sym is) (record {
      low = e.low;
      high = e.low +ℤ pos e.count -ℤ pos 1;
      from = record { place = 0; at = refl };
      to = record { place = 0; at = refl };
      above = omega (arith, ints);
      below = omega (arith, ints);
    })
part_between grid ss d e s (some t needed is) =
    subst (IsBetween e) (sym is) (record {
      low = greatest_from t.lower e.low;
      high = least_from t.upper (e.low +ℤ pos e.count -ℤ pos 1);
      from = last_number (add_symbolic [] t.lower) (greatest_from t.lower e.low);
      to = last_number (add_symbolic [] t.upper) (least_from t.upper (e.low +ℤ pos e.count -ℤ pos 1));
      above = greatest_above t.lower e.low;
      below = least_below t.upper (e.low +ℤ pos e.count -ℤ pos 1);
    })

-- in each dimension
abbrev pub AreBetween : List Extent → List Span1 → Type 0
AreBetween [] [] = Unit {0}
AreBetween [] (s ∷ ss) = ⊥
AreBetween (e ∷ es) [] = ⊥
AreBetween (e ∷ es) (s ∷ ss) = IsBetween e s × AreBetween es ss

pub taken_between : (grid : List Binding) (ss : List SiteText) (d : ℕ) (es : List Extent) → AreBetween es (taken_region grid ss d es)
taken_between grid ss d [] = tt
taken_between grid ss d (e ∷ es) = (part_between grid ss d e (part_of grid ss d e).span (part_is grid ss d e), taken_between grid ss (d + 1) es)

-- ---- how many symbols stand around calls

skip_long : (scope : List Binding) (s : ℕ) → length scope ≤ length (skip_to scope s)
skip_long scope s = let all = length-append scope (replicate (s - length scope) (Loop anything)) in omega (arith, all)

step_long : (scope : List Binding) (t : Step) → length scope ≤ length (bind_step scope t)
step_long scope (Turns s span kind) = let h = skip_long scope s in let all = length-append (skip_to scope s) (Loop span ∷ []) in omega (arith, h, all)
step_long scope (Named s Min forms) = let h = skip_long scope s in let all = length-append (skip_to scope s) (LetMin forms ∷ []) in omega (arith, h, all)
step_long scope (Named s Max forms) = let h = skip_long scope s in let all = length-append (skip_to scope s) (LetMax forms ∷ []) in omega (arith, h, all)
step_long scope (Tested low high) = omega arith

steps_long : (scope : List Binding) (ts : List Step) → length scope ≤ length (bind_steps scope ts)
steps_long scope [] = omega arith
steps_long scope (t ∷ ts) = let one = step_long scope t in let rest = steps_long (bind_step scope t) ts in omega (arith, one, rest)

-- the symbols of a head follow those of the grid
skip_none : (scope : List Binding) (s : ℕ) → s ≡ length scope → length (skip_to scope s) ≡ length scope
skip_none scope s e =
    let all = length-append scope (replicate (s - length scope) (Loop anything)) in
    let many = length-replicate (s - length scope) (Loop anything) in
    omega (arith, all, many, e)

head_counted : (scope : List Binding) (steps : List Step) (n m : ℕ) → length scope ≡ n → Ordered n steps m → length (bind_steps scope steps) ≡ m
head_counted scope [] n m long h = long ∙ h
head_counted scope (Turns i x kind ∷ ss) n m long h =
    let skipped = skip_none scope i (h.0 ∙ sym long) in
    let all = length-append (skip_to scope i) (Loop x ∷ []) in
    head_counted (bind scope i (Loop x)) ss (n + 1) m (omega (arith, all, skipped, long)) h.2
head_counted scope (Named i Min fs ∷ ss) n m long h =
    let skipped = skip_none scope i (h.0 ∙ sym long) in
    let all = length-append (skip_to scope i) (LetMin fs ∷ []) in
    head_counted (bind scope i (LetMin fs)) ss (n + 1) m (omega (arith, all, skipped, long)) h.3
head_counted scope (Named i Max fs ∷ ss) n m long h = absurd (cc h.1)
head_counted scope (Tested low high ∷ ss) n m long h = head_counted scope ss n m long h

pub head_long : (k : SkeletonText) (m : ℕ) → Ordered (length k.grid) k.head m → length (head_scope k) ≡ m
head_long k m h = head_counted (grid_scope k.grid) k.head (length k.grid) m (length-map k.grid grid_symbol) h

-- the scope of each place
abbrev IsLong : ℕ → List SiteText → Type 0
IsLong n ss = AllByRecursion (λ t. n ≤ length t.scope) ss

site_long : (n : ℕ) (scope : List Binding) (cs : List (List Span1)) (before : List SiteText) → n ≤ length scope → IsLong n before → IsLong n (with_site scope cs before)
site_long n scope [] before le h = h
site_long n scope (c ∷ cs) before le h = all-append (λ t. n ≤ length t.scope) before (record { scope = scope; calls = c ∷ cs } ∷ []) h (le, tt)

module _ (a : Algorithm) (g : StoredText) (outer : List Binding) (x : List ℕ) where
  one_long : (d : ℕ) (f : FormulaText) (n : NestText) (before ss : List SiteText) → IsLong (length outer) before → add_site a g outer x d f n before ≡ Some ss → IsLong (length outer) ss
  one_long d f n before ss h e =
      let b = bound (around a g outer n f d) (λ r. add_calls a r x (calls_in f) [] >>= λ cs. Some (with_site r.scope cs before)) ss e in
      let y = bound (add_calls a b.value x (calls_in f) []) (λ cs. Some (with_site b.value.scope cs before)) ss b.comes in
      let z = bound (coordinates_behind a (left_around g outer n d) f [] 0 n.at) (λ cs. Some (record (left_around g outer n d) { coordinates = cs })) b.value b.is in
      let scope : bind_steps outer n.steps ≡ b.value.scope = ap (λ (r : AroundText). r.scope) (same (record (left_around g outer n d) { coordinates = z.value }) b.value z.comes) in
      let le : length outer ≤ length b.value.scope = subst (λ (s : List Binding). length outer ≤ length s) scope (steps_long outer n.steps) in
      subst (IsLong (length outer)) (same (with_site b.value.scope y.value before) ss y.comes) (site_long (length outer) b.value.scope y.value before le h)

  all_long : (d : ℕ) (fs : List FormulaText) (ns : List NestText) (before ss : List SiteText) → IsLong (length outer) before → add_sites a g outer None x d fs ns before ≡ Some ss →
      IsLong (length outer) ss
  all_long d fs [] before ss h e = subst (IsLong (length outer)) (same before ss e) h
  all_long d [] (n ∷ ns) before ss h e = subst (IsLong (length outer)) (same before ss e) h
  all_long d (f ∷ fs) (n ∷ ns) before ss h e =
      let b = bound (add_asked a g outer None x d f n before) (add_sites a g outer None x (d + 1) fs ns) ss e in
      all_long (d + 1) fs ns b.value ss (one_long d f n before b.value h b.is) b.comes

pub sites_long : (a : Algorithm) (g : StoredText) (fs : List FormulaText) (k : SkeletonText) (x : List ℕ) (ss : List SiteText) → sites_of a g fs k x ≡ Some ss → IsLong (length (head_scope k)) ss
sites_long a g fs k x ss e = all_long a g (head_scope k) x 0 fs k.nests [] ss tt e
