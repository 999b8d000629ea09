-- The forms of what is fetched are canonical, the upper ones as well as the lower, and there are one to four of each.
use Rattle.std.proofs.Common.{◌≡◌, ℕ, zero, suc, ◌+◌, ◌-◌, ◌<◌, ◌≤◌, Bool, true, false, ◌&&◌, not, List, [], ◌∷◌, ◌++◌, length, map, Option, Some, None, refl, ap, subst, arith}
use Rattle.std.specs.Prelude.{ℤ, pos, ◌==◌, ◌+ℤ◌, ◌-ℤ◌, nat_le, nat_lt, fold, if◌then◌else◌, option_and_then, slice_get}
use Rattle.std.specs.List.{AllByRecursion}
use Rattle.std.proofs.lemmas.Bool.Decides.{nat_tests}
use Rattle.std.proofs.lemmas.List.{length-append}
use Rattle.numeric.specs.declared.ty.Ty.TheVariants.{I32}
use Rattle.plan.specs.declared.stmt.Places.TheVariants.{From}
use Rattle.lin.specs.Forms.{Form, number, without, factor_of, is_within_limits}
use Rattle.lin.specs.Search.{candidates, any_may_be, replaced}
use Rattle.lin.specs.declared.scope.Binding.{Binding}
use Rattle.lin.specs.declared.span.Span1.{Span1}
use Rattle.lin.proofs.TermLemmas.{filter-canonical}
use Rattle.bounds.specs.Spans.{span_of}
use Rattle.bounds.specs.Projection.Elimination.{is_eliminated, names_inner, both, that_count, bounds_at, bounds_below, replacements_below, eliminated}
use Rattle.bounds.specs.Projection.Projection.{form_bounds, side_bounds, projected_span}
use Rattle.bounds.proofs.ListSound.{AllIn, all_in_some, all-append}
use Rattle.bounds.proofs.Soundness.{fold_of-all}
use Rattle.meaning.specs.Algorithm.{Algorithm}
use Rattle.headline.proofs.Members.{got}
use Rattle.sched.specs.declared.numbers.Extent.{Extent}
use Rattle.sched.specs.Placing.{PlacedText}
use Rattle.sched.specs.Standing.{◌>>=◌}
use Rattle.sched.specs.Skeleton.{BodyText, SkeletonText, skeleton_in}
use Rattle.completeness.proofs.TakenSites.{Part}
use Rattle.sched.specs.Stored.{FormulaText, StoredText}
use Rattle.sched.specs.Bounded.{whole}
use Rattle.sched.specs.Regions.{symbols_from}
use Rattle.sched.specs.Taken.{SiteText, freed}
use Rattle.regions.specs.Taken.{sites_of, either, with_call, with_calls, with_sites, needed_span, is_number, add_symbolic, greatest_from, least_from, cut}
use Rattle.regions.specs.Taken.{needed_part, shown, is_shown, seated, tight, or_all, part_of, taken_region}
use Rattle.sched.specs.Taken.{places_count, shortest, run_of}
use Rattle.blocks.proofs.Laying.{bound, same}
use Rattle.completeness.proofs.Rising.{Rises, AllRise, SpanRises, combined_rises, union_rises, joined_rises, choice_rises, each_rise}
use Rattle.completeness.proofs.RisingForms.{SiteRises, all_rise, symbolic_low}
use Rattle.completeness.proofs.RisingSteps.{nests_rise}

-- ---- forms freed of symbols

module _ (scope : List Binding) where
  both_rise_lists : (largest : Bool) (a b : Option (List Form)) → AllIn Rises a → AllIn Rises b → AllIn Rises (both scope largest a b)
  both_rise_lists largest None b h k = λ fs e. absurd (cc e)
  both_rise_lists largest (Some a) None h k = λ fs e. absurd (cc e)
  both_rise_lists true (Some a) (Some b) h k = union_rises scope true a b (h a refl) (k b refl)
  both_rise_lists false (Some a) (Some b) h k = joined_rises a b (h a refl) (k b refl)

  fold_rises : (largest : Bool) (g : Form → Option (List Form)) → ((f : Form) → AllIn Rises (g f)) → (a : Option (List Form)) (fs : List Form) → AllIn Rises a →
      AllIn Rises (fold (both scope largest) a (map g fs))
  fold_rises largest g h a [] k = k
  fold_rises largest g h a (f ∷ fs) k = fold_rises largest g h (both scope largest a (g f)) fs (both_rise_lists largest a (g f) k (h f))

  count_rises : (largest : Bool) (g : Form → Option (List Form)) → ((f : Form) → AllIn Rises (g f)) → (fs : List Form) → AllIn Rises (that_count scope largest (map g fs))
  count_rises largest g h [] = all_in_some Rises [] tt
  count_rises largest g h (f ∷ fs) = fold_rises largest g h (g f) fs (h f)

  at_rises : (o : Option Binding) (c : ℤ) (g : Form → Option (List Form)) → ((f : Form) → AllIn Rises (g f)) → AllIn Rises (bounds_at scope o c g)
  at_rises None c g h = all_in_some Rises [] tt
  at_rises (Some b) c g h = count_rises (any_may_be b c) g h (candidates b c)

  module _ (inner : List ℕ) where
    below_rises : (n : ℕ) (f : Form) → Rises f → AllIn Rises (bounds_below scope inner n f)
    below_rises zero f h = of (names_inner inner f)
      where
        of : (b : Bool) → AllIn Rises (Some (if b then [] else f ∷ []))
        of true = all_in_some Rises [] tt
        of false = all_in_some Rises (f ∷ []) (h, tt)
    below_rises (suc n) f h = of (is_eliminated inner n (factor_of f.terms n)) (λ next k. below_rises n next k)
      where
        made : ((next : Form) → Rises next → AllIn Rises (bounds_below scope inner n next)) → (c : ℤ) (other : Form) →
            AllIn Rises (option_and_then (λ next. bounds_below scope inner n next) (replaced f n c other))
        made rest c other = by (replaced f n c other) refl
          where
            by : (o : Option Form) → replaced f n c other ≡ o → AllIn Rises (option_and_then (λ next. bounds_below scope inner n next) o)
            by None e = λ fs q. absurd (cc q)
            by (Some next) e = rest next (combined_rises (without f n) c other (filter-canonical (λ t. not (t.symbol == n)) f.terms h) next e)

        of : (b : Bool) → ((next : Form) → Rises next → AllIn Rises (bounds_below scope inner n next)) → AllIn Rises (if b then bounds_at scope (slice_get scope n) (factor_of f.terms n)
            (λ other. option_and_then (λ next. bounds_below scope inner n next) (replaced f n (factor_of f.terms n) other)) else bounds_below scope inner n f)
        of true rest = at_rises (slice_get scope n) (factor_of f.terms n) _ (made rest (factor_of f.terms n))
        of false rest = rest f h

    eliminated_rises : (f : Form) → Rises f → AllIn Rises (eliminated scope inner f)
    eliminated_rises f h = of (is_within_limits f) (nat_le (replacements_below scope inner (length scope) f) 4096)
      where
        of : (a b : Bool) → AllIn Rises (if a then (if b then bounds_below scope inner (length scope) f else Some []) else None)
        of true true = below_rises (length scope) f h
        of true false = all_in_some Rises [] tt
        of false b = λ fs e. absurd (cc e)

    each_upper : (fs : List Form) → AllRise fs → AllByRecursion (λ f. AllIn Rises (form_bounds scope inner true f)) fs
    each_upper [] h = tt
    each_upper (f ∷ fs) h = (eliminated_rises f h.0, each_upper fs h.1)

    projected_span_rises : (s t : Span1) → SpanRises s → projected_span scope inner s ≡ Some t → SpanRises t
    projected_span_rises s t h e =
        of (side_bounds scope inner false s.lower) (side_bounds scope inner true s.upper)
        (fold_of-all scope Rises (form_bounds scope inner false) (Some []) s.lower (all_in_some Rises [] tt) (each_rise scope inner s.lower))
        (fold_of-all scope Rises (form_bounds scope inner true) (Some []) s.upper (all_in_some Rises [] tt) (each_upper s.upper h.1)) e
      where
        of : (lower upper : Option (List Form)) → AllIn Rises lower → AllIn Rises upper → span_of lower upper ≡ Some t → SpanRises t
        of None upper h k q = absurd (cc q)
        of (Some ls) None h k q = absurd (cc q)
        of (Some ls) (Some us) h k q = subst SpanRises (same (record { lower = ls; upper = us }) t q) (h ls refl, k us refl)

-- ---- what calls need

abbrev RisesIfThere : Option Span1 → Type 0
RisesIfThere o = elim o [ Some s ↦ SpanRises s | None ↦ Unit {0} ]

module _ (grid : List Binding) where
  freed_rises : (scope : List Binding) (is : List ℕ) (s f : Span1) → SpanRises s → freed scope is s ≡ Some f → SpanRises f
  freed_rises scope [] s f h e = subst SpanRises (same s f e) h
  freed_rises scope (i ∷ is) s f h e = projected_span_rises scope (i ∷ is) s f h e

  either_rises : (known : Option Span1) (f s : Span1) → RisesIfThere known → SpanRises f → either grid known f ≡ Some s → SpanRises s
  either_rises None f s h k e = subst SpanRises (same f s e) k
  either_rises (Some t) f s h k e = choice_rises grid I32 t f h k s e

  one_call_rises : (scope : List Binding) (inner : List ℕ) (d : ℕ) (cl : List Span1) (known o : Option Span1) → AllByRecursion SpanRises cl → RisesIfThere known →
      with_call grid scope inner d cl known ≡ Some o → RisesIfThere o
  one_call_rises scope inner d cl known o rising h e =
      let b = bound (slice_get cl d) (λ s. freed scope inner s >>= λ f. either grid known f >>= λ u. Some (Some u)) o e in
      let x = bound (freed scope inner b.value) (λ f. either grid known f >>= λ u. Some (Some u)) o b.comes in
      let y = bound (either grid known x.value) (λ u. Some (Some u)) o x.comes in
      let one = got SpanRises cl d b.value rising b.is in
      subst (λ (p : Option Span1). RisesIfThere p) (same (Some y.value) o y.comes) (either_rises known x.value y.value h (freed_rises scope inner b.value x.value one x.is) y.is)

  all_calls_rise : (scope : List Binding) (inner : List ℕ) (d : ℕ) (cls : List (List Span1)) (known o : Option Span1) → AllByRecursion (AllByRecursion SpanRises) cls → RisesIfThere known →
      with_calls grid scope inner d cls known ≡ Some o → RisesIfThere o
  all_calls_rise scope inner d [] known o rising h e = subst (λ (p : Option Span1). RisesIfThere p) (same known o e) h
  all_calls_rise scope inner d (cl ∷ cls) known o rising h e =
      let b = bound (with_call grid scope inner d cl known) (with_calls grid scope inner d cls) o e in
      all_calls_rise scope inner d cls b.value o rising.1 (one_call_rises scope inner d cl known b.value rising.0 h b.is) b.comes

  sites_rise : (d : ℕ) (ss : List SiteText) (known o : Option Span1) → AllByRecursion SiteRises ss → RisesIfThere known → with_sites grid d ss known ≡ Some o → RisesIfThere o
  sites_rise d [] known o a h e = subst (λ (p : Option Span1). RisesIfThere p) (same known o e) h
  sites_rise d (t ∷ ss) known o a h e =
      let inner = symbols_from (length grid) (length t.scope - length grid) in
      let b = bound (with_calls grid t.scope inner d t.calls known) (with_sites grid d ss) o e in
      sites_rise d ss b.value o a.1 (all_calls_rise t.scope inner d t.calls known b.value a.0 h b.is) b.comes

  pub needed_rises : (d : ℕ) (ss : List SiteText) (s : Span1) → AllByRecursion SiteRises ss → needed_span grid ss d ≡ Some s → SpanRises s
  needed_rises d ss s a e =
      let b = bound (with_sites grid d ss None) (λ o. o) s e in
      subst (λ (p : Option Span1). RisesIfThere p) b.comes (sites_rise d ss None b.value a tt b.is)

-- ---- cut to a region

-- canonical forms on both sides, one to four of each
pub record IsTextSpan (s : Span1) : Type 0 where
  pub rises : SpanRises s
  pub lower_some : 1 ≤ length s.lower
  pub lower_few : length s.lower ≤ 4
  pub upper_some : 1 ≤ length s.upper
  pub upper_few : length s.upper ≤ 4

symbolic_few : (kept fs : List Form) → length kept ≤ 3 → length (add_symbolic kept fs) ≤ 3
symbolic_few kept [] h = h
symbolic_few kept (f ∷ fs) h = of (not (is_number f)) (nat_lt (length kept) 3) refl (symbolic_few kept fs h) (λ k. symbolic_few (kept ++ f ∷ []) fs k)
  where
    of : (a b : Bool) → nat_lt (length kept) 3 ≡ b → length (add_symbolic kept fs) ≤ 3 → (length (kept ++ f ∷ []) ≤ 3 → length (add_symbolic (kept ++ f ∷ []) fs) ≤ 3) →
        length (if a && b then add_symbolic (kept ++ f ∷ []) fs else add_symbolic kept fs) ≤ 3
    of true true e left put =
        let one = length-append kept (f ∷ []) in
        let less : length kept < 3 = grind (arith, nat_tests, e) in
        put (omega (arith, one, less))
    of true false e left put = left
    of false b e left put = left

pub cut_text : (s : Span1) (e : Extent) → SpanRises s → IsTextSpan (cut s e)
cut_text s e h =
    let low : List Form = add_symbolic [] s.lower in
    let high : List Form = add_symbolic [] s.upper in
    let low_few = symbolic_few [] s.lower (omega arith) in
    let high_few = symbolic_few [] s.upper (omega arith) in
    let low_long = length-append low (number (greatest_from s.lower e.low) ∷ []) in
    let high_long = length-append high (number (least_from s.upper (e.low +ℤ pos e.count -ℤ pos 1)) ∷ []) in
    record {
      rises = (
        all-append Rises low (number (greatest_from s.lower e.low) ∷ []) (symbolic_low [] s.lower tt h.0) (tt, tt),
        all-append Rises high (number (least_from s.upper (e.low +ℤ pos e.count -ℤ pos 1)) ∷ []) (symbolic_low [] s.upper tt h.1) (tt, tt),
      );
      lower_some = omega (arith, low_long);
      lower_few = omega (arith, low_long, low_few);
      upper_some = omega (arith, high_long);
      upper_few = omega (arith, high_long, high_few);
    }

pub whole_text : (e : Extent) → IsTextSpan (whole e)
whole_text e = record { rises = ((tt, tt), (tt, tt)); lower_some = omega arith; lower_few = omega arith; upper_some = omega arith; upper_few = omega arith }

-- ---- what is fetched

-- a part's span is that of which it is shown
pub shown_is : (grid : List Binding) (ss : List SiteText) (d : ℕ) (s : Span1) (origin : Form) (n : ℤ) (seats : Span1) (part : Part) → shown grid ss d s origin n seats ≡ Some part → s ≡ part.span
shown_is grid ss d s origin n seats part e = of (is_shown grid ss d s seats) e
  where
    of : (b : Bool) → (if b then Some (record { span = s; places = From origin (places_count n) }) else None) ≡ Some part → s ≡ part.span
    of true q = ap (λ (p : Part). p.span) (same (record { span = s; places = From origin (places_count n) }) part q)
    of false q = absurd (cc q)

module _ (a : Algorithm) (g : StoredText) (fs : List FormulaText) (xs : List (List ℕ)) (bs : List BodyText) (p : PlacedText) (region : List Extent) (k : SkeletonText)
    (laid : skeleton_in xs bs p region ≡ Some k) (x : List ℕ) (ss : List SiteText) (found : sites_of a g fs k x ≡ Some ss) (grid : List Binding) where
  sites : AllByRecursion SiteRises ss
  sites = all_rise k a g x 0 fs k.nests [] ss (nests_rise xs bs p region k laid) tt found

  part_text : (d : ℕ) (e : Extent) → IsTextSpan (part_of grid ss d e).span
  part_text d e = of (tight grid ss d e) refl
    where
      of : (o : Option _) → tight grid ss d e ≡ o → IsTextSpan (or_all e o).span
      of None q = whole_text e
      of (Some part) q =
          let b = bound (needed_part grid ss d e) (seated grid ss d) part q in
          let z = bound (needed_span grid ss d) (λ s. Some (cut s e)) b.value b.is in
          let y = bound (shortest grid b.value) (λ n. slice_get b.value.lower n.0 >>= λ origin. run_of origin n.1 >>= λ seats. shown grid ss d b.value origin n.1 seats) part b.comes in
          let w = bound (slice_get b.value.lower y.value.0) (λ origin. run_of origin y.value.1 >>= λ seats. shown grid ss d b.value origin y.value.1 seats) part y.comes in
          let v = bound (run_of w.value y.value.1) (λ seats. shown grid ss d b.value w.value y.value.1 seats) part w.comes in
          let text : IsTextSpan b.value = subst IsTextSpan (same (cut z.value e) b.value z.comes) (cut_text z.value e (needed_rises grid d ss z.value sites z.is)) in
          subst IsTextSpan (shown_is grid ss d b.value w.value y.value.1 v.value part v.comes) text

  pub taken_text : (d : ℕ) (es : List Extent) → AllByRecursion IsTextSpan (taken_region grid ss d es)
  taken_text d [] = tt
  taken_text d (e ∷ es) = (part_text d e, taken_text (d + 1) es)
