-- The lower forms of what calls need of another function are canonical.
use Rattle.std.proofs.Common.{◌≡◌, ℕ, ◌+◌, ◌-◌, Bool, true, false, ◌&&◌, not, List, [], ◌∷◌, ◌++◌, length, map, Option, Some, None, subst}
use Rattle.std.specs.Prelude.{nat_lt, if◌then◌else◌, slice_get}
use Rattle.std.specs.List.{AllByRecursion}
use Rattle.numeric.specs.declared.ty.Ty.TheVariants.{I32}
use Rattle.tree.specs.Term.{Term, Terms, End, More}
use Rattle.lin.specs.Forms.{Form, number}
use Rattle.lin.specs.declared.scope.Binding.{Binding}
use Rattle.lin.specs.declared.span.Span1.{Span1}
use Rattle.bounds.specs.Spans.{range_of}
use Rattle.bounds.proofs.ListSound.{all-append}
use Rattle.meaning.specs.Algorithm.{Algorithm}
use Rattle.meaning.specs.Names.{same_name}
use Rattle.algo.specs.Scoping.Standing.{Written}
use Rattle.headline.proofs.Members.{got}
use Rattle.sched.specs.declared.numbers.Extent.{Extent}
use Rattle.sched.specs.Placing.{PlacedText}
use Rattle.sched.specs.Standing.{◌>>=◌}
use Rattle.sched.specs.Skeleton.{BodyText, NestText, SkeletonText}
use Rattle.sched.specs.Skeleton.{skeleton_in}
use Rattle.sched.specs.Called.{called}
use Rattle.sched.specs.Stored.{FormulaText, StoredText, calls_in, left_at}
use Rattle.sched.specs.Around.{AroundText, form_span, coordinate_span, coordinates_behind, interval_in, left_around, around, head_scope}
use Rattle.sched.specs.Regions.{symbols_from}
use Rattle.sched.specs.Taken.{SiteText}
use Rattle.regions.specs.Taken.{add_spans, add_call, add_calls, with_site, add_site, add_asked, add_sites}
use Rattle.regions.specs.Taken.{sites_of, either, with_call, with_calls, with_sites, needed_span, is_number, add_symbolic, greatest_from, cut}
use Rattle.sched.specs.Taken.{freed}
use Rattle.blocks.proofs.Laying.{bound, same}
use Rattle.completeness.proofs.Rising.{Rises, AllRise, SpanRises, LowRises, interval_rises, projected_rises, choice_low}
use Rattle.completeness.proofs.RisingSteps.{RisesIf, NestRises, nests_rise}

-- ---- calls

forms_rise : (os : List (Option Form)) → AllByRecursion RisesIf os → AllByRecursion SpanRises (map form_span os)
forms_rise [] h = tt
forms_rise (None ∷ os) h = (((tt, tt), (tt, tt)), forms_rise os h.1)
forms_rise (Some f ∷ os) h = (((h.0, tt), (h.0, tt)), forms_rise os h.1)

module _ (a : Algorithm) (r : AroundText) (rising : AllByRecursion SpanRises r.coordinates) where
  index_rises : (e : Term) (s : Span1) → interval_in a r e ≡ Some s → SpanRises s
  index_rises e s q = interval_rises r.scope (called a) r.variables r.coordinates rising e s q

  coordinate_rises : (o : Option Form) (i : Option Term) (s : Span1) → RisesIf o → coordinate_span a r o i ≡ Some s → SpanRises s
  coordinate_rises (Some f) i s h q = subst SpanRises (same _ s q) ((h, tt), (h, tt))
  coordinate_rises None (Some e) s h q = index_rises e s q
  coordinate_rises None None s h q = subst SpanRises (same (range_of I32) s q) ((tt, tt), (tt, tt))

  coordinates_rise : (f : FormulaText) (before : List Span1) (d : ℕ) (os : List (Option Form)) (cs : List Span1) → AllByRecursion SpanRises before → AllByRecursion RisesIf os →
      coordinates_behind a r f before d os ≡ Some cs → AllByRecursion SpanRises cs
  coordinates_rise f before d [] cs h k q = subst (AllByRecursion SpanRises) (same before cs q) h
  coordinates_rise f before d (o ∷ os) cs h k q =
      let b = bound (coordinate_span a r o (left_at f d)) (λ s. coordinates_behind a r f (before ++ s ∷ []) (d + 1) os) cs q in
      coordinates_rise f (before ++ b.value ∷ []) (d + 1) os cs (all-append SpanRises before (b.value ∷ []) h (coordinate_rises o (left_at f d) b.value k.0 b.is, tt)) k.1 b.comes

  spans_rise : (es : Terms) (before ss : List Span1) → AllByRecursion SpanRises before → add_spans a r es before ≡ Some ss → AllByRecursion SpanRises ss
  spans_rise End before ss h q = subst (AllByRecursion SpanRises) (same before ss q) h
  spans_rise (More e es) before ss h q =
      let b = bound (interval_in a r e) (λ s. add_spans a r es (before ++ s ∷ [])) ss q in
      spans_rise es (before ++ b.value ∷ []) ss (all-append SpanRises before (b.value ∷ []) h (index_rises e b.value b.is, tt)) b.comes

  abbrev CallsRise : List (List Span1) → Type 0
  CallsRise cs = AllByRecursion (AllByRecursion SpanRises) cs

  call_rises : (x : List ℕ) (c : Written) (before cs : List (List Span1)) → CallsRise before → add_call a r x c before ≡ Some cs → CallsRise cs
  call_rises x c before cs h q = of (same_name c.name x) q
    where
      of : (b : Bool) → (if b then (add_spans a r c.at [] >>= λ ss. Some (before ++ ss ∷ [])) else Some before) ≡ Some cs → CallsRise cs
      of true k =
          let b = bound (add_spans a r c.at []) (λ ss. Some (before ++ ss ∷ [])) cs k in
          subst CallsRise (same (before ++ b.value ∷ []) cs b.comes) (all-append (AllByRecursion SpanRises) before (b.value ∷ []) h (spans_rise c.at [] b.value tt b.is, tt))
      of false k = subst CallsRise (same before cs k) h

  calls_rise : (x : List ℕ) (ws : List Written) (before cs : List (List Span1)) → CallsRise before → add_calls a r x ws before ≡ Some cs → CallsRise cs
  calls_rise x [] before cs h q = subst CallsRise (same before cs q) h
  calls_rise x (w ∷ ws) before cs h q =
      let b = bound (add_call a r x w before) (add_calls a r x ws) cs q in calls_rise x ws b.value cs (call_rises x w before b.value h b.is) b.comes

-- ---- where the calls stand

abbrev pub SiteRises : SiteText → Type 0
SiteRises t = AllByRecursion (AllByRecursion SpanRises) t.calls

site_rises : (scope : List Binding) (cs : List (List Span1)) (before : List SiteText) → AllByRecursion (AllByRecursion SpanRises) cs → AllByRecursion SiteRises before →
    AllByRecursion SiteRises (with_site scope cs before)
site_rises scope [] before k h = h
site_rises scope (c ∷ cs) before k h = all-append SiteRises before (record { scope = scope; calls = c ∷ cs } ∷ []) h (k, tt)

module _ (k : SkeletonText) (a : Algorithm) (g : StoredText) (x : List ℕ) where
  one_rises : (d : ℕ) (f : FormulaText) (n : NestText) (before ss : List SiteText) → NestRises n → AllByRecursion SiteRises before → add_site a g (head_scope k) x d f n before ≡ Some ss →
      AllByRecursion SiteRises ss
  one_rises d f n before ss good h e =
      let outer = head_scope k in
      let b = bound (around a g outer n f d) (λ r. add_calls a r x (calls_in f) [] >>= λ cs. Some (with_site r.scope cs before)) ss e in
      let y = bound (add_calls a b.value x (calls_in f) []) (λ cs. Some (with_site b.value.scope cs before)) ss b.comes in
      let z = bound (coordinates_behind a (left_around g outer n d) f [] 0 n.at) (λ cs. Some (record (left_around g outer n d) { coordinates = cs })) b.value b.is in
      let stands : record (left_around g outer n d) { coordinates = z.value } ≡ b.value = same (record (left_around g outer n d) { coordinates = z.value }) b.value z.comes in
      let coordinates = coordinates_rise a (left_around g outer n d) (forms_rise n.at good) f [] 0 n.at z.value tt good z.is in
      let known : AllByRecursion SpanRises b.value.coordinates = subst (λ (r : AroundText). AllByRecursion SpanRises r.coordinates) stands coordinates in
      let calls = calls_rise a b.value known x (calls_in f) [] y.value tt y.is in
      subst (AllByRecursion SiteRises) (same (with_site b.value.scope y.value before) ss y.comes) (site_rises b.value.scope y.value before calls h)

  pub all_rise : (d : ℕ) (fs : List FormulaText) (ns : List NestText) (before ss : List SiteText) → AllByRecursion NestRises ns → AllByRecursion SiteRises before →
      add_sites a g (head_scope k) None x d fs ns before ≡ Some ss → AllByRecursion SiteRises ss
  all_rise d fs [] before ss good h e = subst (AllByRecursion SiteRises) (same before ss e) h
  all_rise d [] (n ∷ ns) before ss good h e = subst (AllByRecursion SiteRises) (same before ss e) h
  all_rise d (f ∷ fs) (n ∷ ns) before ss good h e =
      let b = bound (add_asked a g (head_scope k) None x d f n before) (add_sites a g (head_scope k) None x (d + 1) fs ns) ss e in
      all_rise (d + 1) fs ns b.value ss good.1 (one_rises d f n before b.value good.0 h b.is) b.comes

-- ---- what they need

module _ (grid : List Binding) where
  abbrev LowIf : Option Span1 → Type 0
  LowIf o = elim o [ Some s ↦ LowRises s | None ↦ Unit {0} ]

  freed_low : (scope : List Binding) (is : List ℕ) (s f : Span1) → SpanRises s → freed scope is s ≡ Some f → LowRises f
  freed_low scope [] s f h e = subst LowRises (same s f e) h.0
  freed_low scope (i ∷ is) s f h e = projected_rises scope (i ∷ is) s f e

  either_low : (known : Option Span1) (f s : Span1) → LowIf known → LowRises f → either grid known f ≡ Some s → LowRises s
  either_low None f s h k e = subst LowRises (same f s e) k
  either_low (Some t) f s h k e = choice_low grid I32 t f s h k e

  call_low : (scope : List Binding) (inner : List ℕ) (d : ℕ) (cl : List Span1) (known o : Option Span1) → AllByRecursion SpanRises cl → LowIf known →
      with_call grid scope inner d cl known ≡ Some o → LowIf o
  call_low scope inner d cl known o rising h e =
      let b = bound (slice_get cl d) (λ s. freed scope inner s >>= λ f. either grid known f >>= λ u. Some (Some u)) o e in
      let x = bound (freed scope inner b.value) (λ f. either grid known f >>= λ u. Some (Some u)) o b.comes in
      let y = bound (either grid known x.value) (λ u. Some (Some u)) o x.comes in
      let one = got SpanRises cl d b.value rising b.is in
      subst (λ (p : Option Span1). LowIf p) (same (Some y.value) o y.comes) (either_low known x.value y.value h (freed_low scope inner b.value x.value one x.is) y.is)

  calls_low : (scope : List Binding) (inner : List ℕ) (d : ℕ) (cls : List (List Span1)) (known o : Option Span1) → AllByRecursion (AllByRecursion SpanRises) cls → LowIf known →
      with_calls grid scope inner d cls known ≡ Some o → LowIf o
  calls_low scope inner d [] known o rising h e = subst (λ (p : Option Span1). LowIf p) (same known o e) h
  calls_low scope inner d (cl ∷ cls) known o rising h e =
      let b = bound (with_call grid scope inner d cl known) (with_calls grid scope inner d cls) o e in
      calls_low scope inner d cls b.value o rising.1 (call_low scope inner d cl known b.value rising.0 h b.is) b.comes

  sites_low : (d : ℕ) (ss : List SiteText) (known o : Option Span1) → AllByRecursion SiteRises ss → LowIf known → with_sites grid d ss known ≡ Some o → LowIf o
  sites_low d [] known o a h e = subst (λ (p : Option Span1). LowIf p) (same known o e) h
  sites_low d (t ∷ ss) known o a h e =
      let inner = symbols_from (length grid) (length t.scope - length grid) in
      let b = bound (with_calls grid t.scope inner d t.calls known) (with_sites grid d ss) o e in
      sites_low d ss b.value o a.1 (calls_low t.scope inner d t.calls known b.value a.0 h b.is) b.comes

  needed_low : (d : ℕ) (ss : List SiteText) (s : Span1) → AllByRecursion SiteRises ss → needed_span grid ss d ≡ Some s → LowRises s
  needed_low d ss s a e =
      let b = bound (with_sites grid d ss None) (λ o. o) s e in
      let h : LowIf b.value = sites_low d ss None b.value a tt b.is in
      subst (λ (p : Option Span1). LowIf p) b.comes h

pub symbolic_low : (kept fs : List Form) → AllRise kept → AllRise fs → AllRise (add_symbolic kept fs)
symbolic_low kept [] h k = h
symbolic_low kept (f ∷ fs) h k = of (not (is_number f) && nat_lt (length kept) 3) (symbolic_low kept fs h k.1) (symbolic_low (kept ++ f ∷ []) fs (all-append Rises kept (f ∷ []) h (k.0, tt)) k.1)
  where
    of : (b : Bool) → AllRise (add_symbolic kept fs) → AllRise (add_symbolic (kept ++ f ∷ []) fs) → AllRise (if b then add_symbolic (kept ++ f ∷ []) fs else add_symbolic kept fs)
    of true a b = b
    of false a b = a

-- the lower forms of what calls need of a dimension, cut to a region, are canonical
pub cut_low : (a : Algorithm) (g : StoredText) (fs : List FormulaText) (xs : List (List ℕ)) (bs : List BodyText) (p : PlacedText) (region : List Extent) (k : SkeletonText) →
    skeleton_in xs bs p region ≡ Some k → (x : List ℕ) (ss : List SiteText) → sites_of a g fs k x ≡ Some ss → (grid : List Binding) (d : ℕ) (s : Span1) (e : Extent) →
    needed_span grid ss d ≡ Some s → LowRises (cut s e)
cut_low a g fs xs bs p region k laid x ss found grid d s e needed =
    let sites = all_rise k a g x 0 fs k.nests [] ss (nests_rise xs bs p region k laid) tt found in
    all-append Rises (add_symbolic [] s.lower) (number (greatest_from s.lower e.low) ∷ []) (symbolic_low [] s.lower tt (needed_low grid d ss s sites needed)) (tt, tt)
