-- What a piece fetches is told by forms within the limits.
use Rattle.std.proofs.Common.{◌≡◌, ℕ, ◌+◌, ◌-◌, ◌^◌, Bool, true, false, ◌&&◌, not, List, [], ◌∷◌, ◌++◌, length, Option, Some, None, refl, subst, arith}
use Rattle.std.specs.Prelude.{ℤ, pos, ◌+ℤ◌, ◌-ℤ◌, int_lt, nat_le, nat_lt, if◌then◌else◌, slice_get}
use Rattle.std.specs.List.{AllByRecursion, list_all}
use Rattle.std.specs.Int.RustNames.{unsigned_abs}
use Rattle.std.proofs.lemmas.Int.{ints}
use Rattle.numeric.specs.declared.ty.Ty.TheVariants.{I32}
use Rattle.tree.specs.Term.{Terms, End, More}
use Rattle.lin.specs.Forms.{Form, number}
use Rattle.lin.specs.declared.scope.Binding.{Binding}
use Rattle.lin.specs.declared.span.Span1.{Span1}
use Rattle.lin.proofs.TermLemmas.{either_way}
use Rattle.bounds.proofs.ListSound.{all-append}
use Rattle.plan.specs.declared.stmt.Places.{Places}
use Rattle.plan.specs.declared.stmt.Places.TheVariants.{From, Folded}
use Rattle.meaning.specs.Algorithm.{Algorithm}
use Rattle.meaning.specs.Names.{same_name}
use Rattle.headline.proofs.Members.{got}
use Rattle.algo.specs.Scoping.Standing.{Written}
use Rattle.sched.specs.declared.numbers.Extent.{Extent}
use Rattle.sched.specs.Skeleton.{NestText, SkeletonText}
use Rattle.sched.specs.Standing.{◌>>=◌}
use Rattle.sched.specs.Called.{called}
use Rattle.sched.specs.Stored.{FormulaText, StoredText, calls_in}
use Rattle.sched.specs.Around.{AroundText, head_scope, interval_in, around}
use Rattle.sched.specs.Bounded.{whole}
use Rattle.lower.specs.Owning.{IsExtent}
use Rattle.sched.specs.Regions.{symbols_from}
use Rattle.sched.specs.Taken.{SiteText, freed}
use Rattle.regions.specs.Taken.{add_spans, add_call, add_calls, with_site, add_site, add_asked, add_sites, sites_of, either, with_call, with_calls, with_sites, needed_span}
use Rattle.regions.specs.Taken.{is_number, add_symbolic, greatest_from, least_from, cut, or_all, is_shown, shown, seated, needed_part, tight, part_of}
use Rattle.sched.specs.Taken.{shortest, run_of, places_count}
use Rattle.regions.specs.Taken.{taken_region, taken_places}
use Rattle.blocks.proofs.Laying.{bound, same}
use Rattle.completeness.proofs.Limited.{Limited, AreLimited, IsSmall, number_limited}
use Rattle.completeness.proofs.Bounding.{SpanLimited, interval_limited, choice_limited, projected_limited}

-- a dimension of what is fetched, with its places
abbrev Given : (A B : Type 0) → (A → Option B) → Type 0
Given A B f = B

abbrev Part : Type 0
Part = Given _ _ (λ s. seated [] [] 0 s)

-- ---- calls

abbrev pub CallsLimited : List (List Span1) → Type 0
CallsLimited cs = AllByRecursion (AllByRecursion SpanLimited) cs

module _ (a : Algorithm) (r : AroundText) where
  spans_limited : (es : Terms) (before ss : List Span1) → AllByRecursion SpanLimited before → add_spans a r es before ≡ Some ss → AllByRecursion SpanLimited ss
  spans_limited End before ss h q = subst (AllByRecursion SpanLimited) (same before ss q) h
  spans_limited (More e es) before ss h q =
      let b = bound (interval_in a r e) (λ s. add_spans a r es (before ++ s ∷ [])) ss q in
      let here = interval_limited r.scope (called a) r.variables r.coordinates e b.value b.is in
      spans_limited es (before ++ b.value ∷ []) ss (all-append SpanLimited before (b.value ∷ []) h (here, tt)) b.comes

  call_limited : (x : List ℕ) (c : Written) (before cs : List (List Span1)) → CallsLimited before → add_call a r x c before ≡ Some cs → CallsLimited cs
  call_limited x c before cs h q = of (same_name c.name x) q
    where
      of : (b : Bool) → (if b then (add_spans a r c.at [] >>= λ ss. Some (before ++ ss ∷ [])) else Some before) ≡ Some cs → CallsLimited cs
      of true k =
          let b = bound (add_spans a r c.at []) (λ ss. Some (before ++ ss ∷ [])) cs k in
          subst CallsLimited (same (before ++ b.value ∷ []) cs b.comes) (all-append (AllByRecursion SpanLimited) before (b.value ∷ []) h (spans_limited c.at [] b.value tt b.is, tt))
      of false k = subst CallsLimited (same before cs k) h

  calls_limited : (x : List ℕ) (ws : List Written) (before cs : List (List Span1)) → CallsLimited before → add_calls a r x ws before ≡ Some cs → CallsLimited cs
  calls_limited x [] before cs h q = subst CallsLimited (same before cs q) h
  calls_limited x (w ∷ ws) before cs h q =
      let b = bound (add_call a r x w before) (add_calls a r x ws) cs q in calls_limited x ws b.value cs (call_limited x w before b.value h b.is) b.comes

abbrev pub SiteLimited : SiteText → Type 0
SiteLimited t = CallsLimited t.calls

site_limited : (scope : List Binding) (cs : List (List Span1)) (before : List SiteText) → CallsLimited cs → AllByRecursion SiteLimited before → AllByRecursion SiteLimited (with_site scope cs before)
site_limited scope [] before k h = h
site_limited scope (c ∷ cs) before k h = all-append SiteLimited before (record { scope = scope; calls = c ∷ cs } ∷ []) h (k, tt)

module _ (a : Algorithm) (g : StoredText) (outer : List Binding) (x : List ℕ) where
  pub one_limited : (d : ℕ) (f : FormulaText) (n : NestText) (before ss : List SiteText) → AllByRecursion SiteLimited before → add_site a g outer x d f n before ≡ Some ss →
      AllByRecursion SiteLimited ss
  one_limited d f n before ss h e =
      let b = bound (around a g outer n f d) (λ r. add_calls a r x (calls_in f) [] >>= λ cs. Some (with_site r.scope cs before)) ss e in
      let y = bound (add_calls a b.value x (calls_in f) []) (λ cs. Some (with_site b.value.scope cs before)) ss b.comes in
      let calls = calls_limited a b.value x (calls_in f) [] y.value tt y.is in
      subst (AllByRecursion SiteLimited) (same (with_site b.value.scope y.value before) ss y.comes) (site_limited b.value.scope y.value before calls h)

  all_limited : (d : ℕ) (fs : List FormulaText) (ns : List NestText) (before ss : List SiteText) → AllByRecursion SiteLimited before → add_sites a g outer None x d fs ns before ≡ Some ss →
      AllByRecursion SiteLimited ss
  all_limited d fs [] before ss h e = subst (AllByRecursion SiteLimited) (same before ss e) h
  all_limited d [] (n ∷ ns) before ss h e = subst (AllByRecursion SiteLimited) (same before ss e) h
  all_limited d (f ∷ fs) (n ∷ ns) before ss h e =
      let b = bound (add_asked a g outer None x d f n before) (add_sites a g outer None x (d + 1) fs ns) ss e in
      all_limited (d + 1) fs ns b.value ss (one_limited d f n before b.value h b.is) b.comes

sites_limited : (a : Algorithm) (g : StoredText) (fs : List FormulaText) (k : SkeletonText) (x : List ℕ) (ss : List SiteText) → sites_of a g fs k x ≡ Some ss → AllByRecursion SiteLimited ss
sites_limited a g fs k x ss e = all_limited a g (head_scope k) x 0 fs k.nests [] ss tt e

-- ---- numbers

pub whole_limited : (e : Extent) → IsExtent e → SpanLimited (whole e)
whole_limited e h =
    let from = h.from in
    let to = h.to in
    let few = h.few in
    let low : IsSmall e.low = (omega (arith, ints, from), omega (arith, ints, to)) in
    let high : IsSmall (e.low +ℤ pos e.count -ℤ pos 1) = (omega (arith, ints, from, few), omega (arith, ints, to, few)) in
    ((number_limited e.low low, tt), (number_limited (e.low +ℤ pos e.count -ℤ pos 1) high, tt))

third : (a b c : Bool) → (a && b && c) ≡ true → c ≡ true
third true true c h = h
third true false c h = absurd (cc h)
third false b c h = absurd (cc h)

constant_limited : (f : Form) → Limited f → Limited (number f.constant)
constant_limited f h = third (nat_le (length f.terms) 8) (list_all (λ t. nat_le (unsigned_abs t.factor) (2 ^ 20)) f.terms) (nat_le (unsigned_abs f.constant) (2 ^ 40)) h

greatest_limited : (fs : List Form) (z : ℤ) → AreLimited fs → Limited (number z) → Limited (number (greatest_from fs z))
greatest_limited [] z h k = k
greatest_limited (f ∷ fs) z h k =
    greatest_limited fs (if is_number f && int_lt z f.constant then f.constant else z) h.1
    (either_way (λ (w : ℤ). Limited (number w)) (is_number f && int_lt z f.constant) f.constant z (λ t. constant_limited f h.0) (λ t. k))

least_limited : (fs : List Form) (z : ℤ) → AreLimited fs → Limited (number z) → Limited (number (least_from fs z))
least_limited [] z h k = k
least_limited (f ∷ fs) z h k =
    least_limited fs (if is_number f && int_lt f.constant z then f.constant else z) h.1
    (either_way (λ (w : ℤ). Limited (number w)) (is_number f && int_lt f.constant z) f.constant z (λ t. constant_limited f h.0) (λ t. k))

symbolic_limited : (kept fs : List Form) → AreLimited kept → AreLimited fs → AreLimited (add_symbolic kept fs)
symbolic_limited kept [] h k = h
symbolic_limited kept (f ∷ fs) h k =
    either_way AreLimited (not (is_number f) && nat_lt (length kept) 3) (add_symbolic (kept ++ f ∷ []) fs) (add_symbolic kept fs)
    (λ t. symbolic_limited (kept ++ f ∷ []) fs (all-append Limited kept (f ∷ []) h (k.0, tt)) k.1) (λ t. symbolic_limited kept fs h k.1)

cut_limited : (s : Span1) (e : Extent) → IsExtent e → SpanLimited s → SpanLimited (cut s e)
cut_limited s e extent h =
    let ends = whole_limited e extent in (
      all-append Limited (add_symbolic [] s.lower) (number (greatest_from s.lower e.low) ∷ []) (symbolic_limited [] s.lower tt h.0) (greatest_limited s.lower e.low h.0 ends.0.0, tt),
      all-append Limited (add_symbolic [] s.upper) (number (least_from s.upper (e.low +ℤ pos e.count -ℤ pos 1)) ∷ []) (symbolic_limited [] s.upper tt h.1)
          (least_limited s.upper (e.low +ℤ pos e.count -ℤ pos 1) h.1 ends.1.0, tt),
    )

-- ---- what is needed

pub freed_limited : (scope : List Binding) (inner : List ℕ) (s f : Span1) → SpanLimited s → freed scope inner s ≡ Some f → SpanLimited f
freed_limited scope [] s f h e = subst SpanLimited (same s f e) h
freed_limited scope (i ∷ is) s f h e = projected_limited scope (i ∷ is) s f e

abbrev KnownIf : Option Span1 → Type 0
KnownIf o = elim o [ Some s ↦ SpanLimited s | None ↦ Unit {0} ]

module _ (grid : List Binding) where
  either_limited : (known : Option Span1) (f s : Span1) → SpanLimited f → either grid known f ≡ Some s → SpanLimited s
  either_limited None f s k e = subst SpanLimited (same f s e) k
  either_limited (Some t) f s k e = choice_limited grid I32 t f s e

  call_needed : (scope : List Binding) (inner : List ℕ) (d : ℕ) (cl : List Span1) (known o : Option Span1) → AllByRecursion SpanLimited cl → with_call grid scope inner d cl known ≡ Some o → KnownIf o
  call_needed scope inner d cl known o h e =
      let b = bound (slice_get cl d) (λ s. freed scope inner s >>= λ f. either grid known f >>= λ u. Some (Some u)) o e in
      let x = bound (freed scope inner b.value) (λ f. either grid known f >>= λ u. Some (Some u)) o b.comes in
      let y = bound (either grid known x.value) (λ u. Some (Some u)) o x.comes in
      let called = got SpanLimited cl d b.value h b.is in
      subst (λ (p : Option Span1). KnownIf p) (same (Some y.value) o y.comes) (either_limited known x.value y.value (freed_limited scope inner b.value x.value called x.is) y.is)

  calls_needed : (scope : List Binding) (inner : List ℕ) (d : ℕ) (cls : List (List Span1)) (known o : Option Span1) → CallsLimited cls → KnownIf known →
      with_calls grid scope inner d cls known ≡ Some o → KnownIf o
  calls_needed scope inner d [] known o a h e = subst (λ (p : Option Span1). KnownIf p) (same known o e) h
  calls_needed scope inner d (cl ∷ cls) known o a h e =
      let b = bound (with_call grid scope inner d cl known) (with_calls grid scope inner d cls) o e in
      calls_needed scope inner d cls b.value o a.1 (call_needed scope inner d cl known b.value a.0 b.is) b.comes

  sites_needed : (d : ℕ) (ss : List SiteText) (known o : Option Span1) → AllByRecursion SiteLimited ss → KnownIf known → with_sites grid d ss known ≡ Some o → KnownIf o
  sites_needed d [] known o a h e = subst (λ (p : Option Span1). KnownIf p) (same known o e) h
  sites_needed d (t ∷ ss) known o a h e =
      let inner = symbols_from (length grid) (length t.scope - length grid) in
      let b = bound (with_calls grid t.scope inner d t.calls known) (with_sites grid d ss) o e in
      sites_needed d ss b.value o a.1 (calls_needed t.scope inner d t.calls known b.value a.0 h b.is) b.comes

  pub span_needed : (d : ℕ) (ss : List SiteText) (s : Span1) → AllByRecursion SiteLimited ss → needed_span grid ss d ≡ Some s → SpanLimited s
  span_needed d ss s a e =
      let b = bound (with_sites grid d ss None) (λ o. o) s e in
      let h : KnownIf b.value = sites_needed d ss None b.value a tt b.is in
      subst (λ (p : Option Span1). KnownIf p) b.comes h

  seated_limited : (ss : List SiteText) (d : ℕ) (s : Span1) (p : Part) → SpanLimited s → seated grid ss d s ≡ Some p → SpanLimited p.span
  seated_limited ss d s p limited h =
      let b = bound (shortest grid s) (λ b. slice_get s.lower b.0 >>= λ origin. run_of origin b.1 >>= λ seats. shown grid ss d s origin b.1 seats) p h in
      let x = bound (slice_get s.lower b.value.0) (λ origin. run_of origin b.value.1 >>= λ seats. shown grid ss d s origin b.value.1 seats) p b.comes in
      let y = bound (run_of x.value b.value.1) (λ seats. shown grid ss d s x.value b.value.1 seats) p x.comes in
      of x.value b.value.1 (is_shown grid ss d s y.value) y.comes
    where
      of : (origin : Form) (n : ℤ) (w : Bool) → (if w then Some (record { span = s; places = From origin (places_count n) }) else None) ≡ Some p → SpanLimited p.span
      of origin n true q = subst (λ (z : Part). SpanLimited z.span) (same (record { span = s; places = From origin (places_count n) }) p q) limited
      of origin n false q = absurd (cc q)

  part_limited : (ss : List SiteText) (d : ℕ) (e : Extent) → IsExtent e → AllByRecursion SiteLimited ss → SpanLimited (part_of grid ss d e).span
  part_limited ss d e extent a = of (tight grid ss d e) refl
    where
      of : (o : Option Part) → tight grid ss d e ≡ o → SpanLimited (or_all e o).span
      of None q = whole_limited e extent
      of (Some p) q =
          let b = bound (needed_part grid ss d e) (seated grid ss d) p q in
          let x = bound (needed_span grid ss d) (λ s. Some (cut s e)) b.value b.is in
          seated_limited ss d b.value p (subst SpanLimited (same (cut x.value e) b.value x.comes) (cut_limited x.value e extent (span_needed d ss x.value a x.is))) b.comes

  region_limited : (ss : List SiteText) (d : ℕ) (es : List Extent) → AllByRecursion IsExtent es → AllByRecursion SiteLimited ss → AllByRecursion SpanLimited (taken_region grid ss d es)
  region_limited ss d [] extents a = tt
  region_limited ss d (e ∷ es) extents a = (part_limited ss d e extents.0 a, region_limited ss (d + 1) es extents.1 a)

-- ---- places

-- the origin of places is within the limits
abbrev pub PlaceLimited : Places → Type 0
PlaceLimited (From f n) = Limited f
PlaceLimited (Folded n) = Unit {0}

form_at : (fs : List Form) (k : ℕ) (f : Form) → AreLimited fs → slice_get fs k ≡ Some f → Limited f
form_at fs k f h e = got Limited fs k f h e

module _ (grid : List Binding) where
  seats_limited : (ss : List SiteText) (d : ℕ) (s : Span1) (p : Part) → SpanLimited s → seated grid ss d s ≡ Some p → PlaceLimited p.places
  seats_limited ss d s p limited h =
      let b = bound (shortest grid s) (λ b. slice_get s.lower b.0 >>= λ origin. run_of origin b.1 >>= λ seats. shown grid ss d s origin b.1 seats) p h in
      let x = bound (slice_get s.lower b.value.0) (λ origin. run_of origin b.value.1 >>= λ seats. shown grid ss d s origin b.value.1 seats) p b.comes in
      let y = bound (run_of x.value b.value.1) (λ seats. shown grid ss d s x.value b.value.1 seats) p x.comes in
      of x.value b.value.1 (is_shown grid ss d s y.value) (form_at s.lower b.value.0 x.value limited.0 x.is) y.comes
    where
      of : (origin : Form) (n : ℤ) (w : Bool) → Limited origin → (if w then Some (record { span = s; places = From origin (places_count n) }) else None) ≡ Some p → PlaceLimited p.places
      of origin n true told q = subst (λ (z : Part). PlaceLimited z.places) (same (record { span = s; places = From origin (places_count n) }) p q) told
      of origin n false told q = absurd (cc q)

  part_seats : (ss : List SiteText) (d : ℕ) (e : Extent) → IsExtent e → AllByRecursion SiteLimited ss → PlaceLimited (part_of grid ss d e).places
  part_seats ss d e extent a = of (tight grid ss d e) refl
    where
      of : (o : Option Part) → tight grid ss d e ≡ o → PlaceLimited (or_all e o).places
      of None q = (whole_limited e extent).0.0
      of (Some p) q =
          let b = bound (needed_part grid ss d e) (seated grid ss d) p q in
          let x = bound (needed_span grid ss d) (λ s. Some (cut s e)) b.value b.is in
          let limited = cut_limited x.value e extent (span_needed grid d ss x.value a x.is) in
          seats_limited ss d b.value p (subst SpanLimited (same (cut x.value e) b.value x.comes) limited) b.comes

  places_limited : (ss : List SiteText) (d : ℕ) (es : List Extent) → AllByRecursion IsExtent es → AllByRecursion SiteLimited ss → AllByRecursion PlaceLimited (taken_places grid ss d es)
  places_limited ss d [] extents a = tt
  places_limited ss d (e ∷ es) extents a = (part_seats ss d e extents.0 a, places_limited ss (d + 1) es extents.1 a)

pub seated_within : (a : Algorithm) (g : StoredText) (fs : List FormulaText) (k : SkeletonText) (x : List ℕ) (ss : List SiteText) → sites_of a g fs k x ≡ Some ss → (grid : List Binding) (d : ℕ)
    (es : List Extent) → AllByRecursion IsExtent es → AllByRecursion PlaceLimited (taken_places grid ss d es)
seated_within a g fs k x ss e grid d es extents = places_limited grid ss d es extents (sites_limited a g fs k x ss e)

pub taken_limited : (a : Algorithm) (g : StoredText) (fs : List FormulaText) (k : SkeletonText) (x : List ℕ) (ss : List SiteText) → sites_of a g fs k x ≡ Some ss → (grid : List Binding) (d : ℕ)
    (es : List Extent) → AllByRecursion IsExtent es → AllByRecursion SpanLimited (taken_region grid ss d es)
taken_limited a g fs k x ss e grid d es extents = region_limited grid ss d es extents (sites_limited a g fs k x ss e)
