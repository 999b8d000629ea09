-- What is fetched of a function holds each call of the first definition, dimension by dimension, and so do the places of its buffer, where the part is tight.
use Rattle.std.proofs.Common.{◌≡◌, ℕ, zero, suc, ◌+◌, Bool, true, false, ◌&&◌, List, [], ◌∷◌, ◌++◌, length, Option, Some, None, refl, sym, ap, ◌∙◌, subst, inl, inr, ◌⊎◌, arith}
use Rattle.std.specs.Prelude.{ℤ, pos, ◌+ℤ◌, is_some, ◌-ℤ◌, ◌≤ℤ◌, if◌then◌else◌, slice_get}
use Rattle.std.specs.List.{AllByRecursion}
use Rattle.std.proofs.lemmas.Int.{ints}
use Rattle.lin.specs.Forms.{Form, number, combined}
use Rattle.lin.specs.Regions.{span_inside}
use Rattle.lin.specs.declared.scope.Binding.{Binding}
use Rattle.lin.specs.declared.span.Span1.{Span1}
use Rattle.lin.proofs.Limits.{combined-means}
use Rattle.lin.proofs.Limits.{within_limits-constant}
use Rattle.plan.specs.declared.stmt.Places.TheVariants.{From}
use Rattle.meaning.specs.Algorithm.{Algorithm}
use Rattle.meaning.specs.Names.{same_name}
use Rattle.soundness.specs.Obligations.{Binder, Rules}
use Rattle.soundness.specs.Shown.{raised, is_within, are_within, is_seated, are_seated}
use Rattle.soundness.proofs.Refines.{name_refl}
use Rattle.algo.specs.Scoping.Standing.{Written}
use Rattle.rules.specs.Bounding.Scopes.{scope_of}
use Rattle.rules.specs.Bounding.Seats.{seats}
use Rattle.sched.specs.declared.numbers.Extent.{Extent}
use Rattle.sched.specs.Skeleton.{NestText}
use Rattle.sched.specs.Standing.{◌>>=◌}
use Rattle.sched.specs.Stored.{FormulaText, StoredText, calls_in}
use Rattle.sched.specs.Around.{AroundText, around}
use Rattle.sched.specs.Blocks.{difference}
use Rattle.sched.specs.Taken.{SiteText, shortest, run_of}
use Rattle.regions.specs.Taken.{add_spans, add_call, add_calls, with_site, add_site, add_sites, needed_span, cut, holds_call, holds_calls, hold_calls}
use Rattle.sched.specs.Taken.{places_count}
use Rattle.regions.specs.Taken.{all_of, or_all, is_shown, shown, seated, needed_part, tight, part_of, taken_region, taken_places}
use Rattle.blocks.proofs.Laying.{bound, same}
use Rattle.sched.specs.Bounded.{whole}
use Rattle.completeness.specs.Stores.{IsHeldPart}
use Rattle.completeness.proofs.Rising.{Rises, AllRise, LowRises}
use Rattle.completeness.proofs.Seating.{plus_number, counted_is, one_less, shortest_many}

-- a dimension of what is fetched, with its places
abbrev Given : (A B : Type 0) → (A → Option B) → Type 0
Given A B f = B

abbrev pub Part : Type 0
Part = Given _ _ (λ s. seated [] [] 0 s)

-- ---- lists

abbrev pub Has : {A : Type 0} → A → List A → Type 0
Has x [] = ⊥
Has x (y ∷ ys) = (x ≡ y) ⊎ Has x ys

has_first : {A : Type 0} (x : A) (xs ys : List A) → Has x xs → Has x (xs ++ ys)
has_first x [] ys h = absurd h
has_first x (z ∷ xs) ys (inl e) = inl e
has_first x (z ∷ xs) ys (inr h) = inr (has_first x xs ys h)

pub has_last : {A : Type 0} (x : A) (xs : List A) → Has x (xs ++ x ∷ [])
has_last x [] = inl refl
has_last x (z ∷ xs) = inr (has_last x xs)

-- ---- calls

module _ (a : Algorithm) (r : AroundText) (x : List ℕ) where
  -- the call's indices are among what is found
  abbrev pub IsFound : List (List Span1) → Written → Type 0
  IsFound out c = (ss : List Span1) × (add_spans a r c.at [] ≡ Some ss) × Has ss out

  pub add_all : (cs : List Written) (before out : List (List Span1)) → add_calls a r x cs before ≡ Some out →
      AllByRecursion (λ c. same_name c.name x ≡ true → IsFound out c) cs × ((ss : List Span1) → Has ss before → Has ss out)
  add_all [] before out e = (tt, λ ss h. subst (λ (o : List (List Span1)). Has ss o) (same before out e) h)
  add_all (c ∷ cs) before out e =
      let b = bound (add_call a r x c before) (add_calls a r x cs) out e in
      let rest = add_all cs b.value out b.comes in
      let here = of b.value (same_name c.name x) refl b.is in
      (((λ s. (let k = here.0 s in (k.0, k.1, rest.1 k.0 k.2))), rest.0), (λ ss h. rest.1 ss (here.1 ss h)))
    where
      of : (value : List (List Span1)) (v : Bool) → same_name c.name x ≡ v → (if v then (add_spans a r c.at [] >>= λ ss. Some (before ++ ss ∷ [])) else Some before) ≡ Some value →
          (same_name c.name x ≡ true → IsFound value c) × ((ss : List Span1) → Has ss before → Has ss value)
      of value true s q =
          let d = bound (add_spans a r c.at []) (λ ss. Some (before ++ ss ∷ [])) value q in
          let is = same (before ++ d.value ∷ []) value d.comes in (
            (λ t. (d.value, d.is, subst (λ (o : List (List Span1)). Has d.value o) is (has_last d.value before))),
            (λ ss h. subst (λ (o : List (List Span1)). Has ss o) is (has_first ss before (d.value ∷ []) h)),
          )
      of value false s q = ((λ t. absurd (cc (s, t))), (λ ss h. subst (λ (o : List (List Span1)). Has ss o) (same before value q) h))

-- whatever function is asked for
pub each_found : (a : Algorithm) (r : AroundText) (all cs : List Written) →
    ((x : List ℕ) (out : List (List Span1)) → add_calls a r x all [] ≡ Some out → AllByRecursion (λ c. same_name c.name x ≡ true → IsFound a r x out c) cs) →
    AllByRecursion (λ c. (out : List (List Span1)) → add_calls a r c.name all [] ≡ Some out → IsFound a r c.name out c) cs
each_found a r all [] h = tt
each_found a r all (c ∷ cs) h = ((λ out e. (h c.name out e).0 (name_refl c.name)), each_found a r all cs (λ x out e. (h x out e).1))

-- ---- sites

with_kept : (scope : List Binding) (cs : List (List Span1)) (t : SiteText) (before : List SiteText) → Has t before → Has t (with_site scope cs before)
with_kept scope [] t before h = h
with_kept scope (c ∷ cs) t before h = has_first t before (record { scope = scope; calls = c ∷ cs } ∷ []) h

module _ (a : Algorithm) (g : StoredText) (outer : List Binding) (x : List ℕ) where
  pub sites_kept : (d : ℕ) (fs : List FormulaText) (ns : List NestText) (t : SiteText) (before out : List SiteText) → add_sites a g outer None x d fs ns before ≡ Some out → Has t before → Has t out
  sites_kept d fs [] t before out e h = subst (λ (o : List SiteText). Has t o) (same before out e) h
  sites_kept d [] (n ∷ ns) t before out e h = subst (λ (o : List SiteText). Has t o) (same before out e) h
  sites_kept d (f ∷ fs) (n ∷ ns) t before out e h =
      let b = bound (add_site a g outer x d f n before) (add_sites a g outer None x (d + 1) fs ns) out e in
      let r = bound (around a g outer n f d) (λ r. add_calls a r x (calls_in f) [] >>= λ cs. Some (with_site r.scope cs before)) b.value b.is in
      let c = bound (add_calls a r.value x (calls_in f) []) (λ cs. Some (with_site r.value.scope cs before)) b.value r.comes in
      let is = same (with_site r.value.scope c.value before) b.value c.comes in
      sites_kept (d + 1) fs ns t b.value out b.comes (subst (λ (o : List SiteText). Has t o) is (with_kept r.value.scope c.value t before h))

-- ---- what holds all calls holds each

calls_hold : (scope : List Binding) (d : ℕ) (s : Span1) (cs : List (List Span1)) (ss : List Span1) → holds_calls scope d s cs ≡ true → Has ss cs → holds_call scope d s ss ≡ true
calls_hold scope d s [] ss h k = absurd k
calls_hold scope d s (c ∷ cs) ss h k = of (holds_call scope d s c) refl h k (λ q later. calls_hold scope d s cs ss q later)
  where
    of : (v : Bool) → holds_call scope d s c ≡ v → (if v then holds_calls scope d s cs else false) ≡ true → (ss ≡ c) ⊎ Has ss cs →
        (holds_calls scope d s cs ≡ true → Has ss cs → holds_call scope d s ss ≡ true) → holds_call scope d s ss ≡ true
    of true e q (inl is) rest = ap (holds_call scope d s) is ∙ e
    of true e q (inr later) rest = rest q later
    of false e q m rest = absurd (cc q)

pub sites_hold : (sites : List SiteText) (d : ℕ) (s : Span1) (t : SiteText) (ss : List Span1) → hold_calls sites d s ≡ true → Has t sites → Has ss t.calls → holds_call t.scope d s ss ≡ true
sites_hold [] d s t ss h m k = absurd m
sites_hold (u ∷ sites) d s t ss h m k = of (holds_calls u.scope d s u.calls) refl h m (λ q later. sites_hold sites d s t ss q later k)
  where
    of : (v : Bool) → holds_calls u.scope d s u.calls ≡ v → (if v then hold_calls sites d s else false) ≡ true → (t ≡ u) ⊎ Has t sites →
        (hold_calls sites d s ≡ true → Has t sites → holds_call t.scope d s ss ≡ true) → holds_call t.scope d s ss ≡ true
    of true e q (inl is) rest = calls_hold t.scope d s t.calls ss (ap (λ (y : SiteText). holds_calls y.scope d s y.calls) is ∙ e) k
    of true e q (inr later) rest = rest q later
    of false e q m rest = absurd (cc q)

pub call_inside : (scope : List Binding) (d : ℕ) (s x : Span1) (ss : List Span1) → slice_get ss d ≡ Some x → holds_call scope d s ss ≡ true → span_inside scope x s ≡ true
call_inside scope d s x ss at h = sym (ap (λ (o : Option Span1). elim o [ Some called ↦ span_inside scope called s | None ↦ false ]) at) ∙ h

-- ---- tight parts

module _ (grid : List Binding) (sites : List SiteText) where
  -- the part and the numbers that have places hold all calls
  pub record HoldsCalls (d : ℕ) (p : Part) : Type 0 where
    pub span : hold_calls sites d p.span ≡ true
    pub origin : Form
    pub count : ℕ
    pub places : p.places ≡ From origin count
    pub seats_hold : hold_calls sites d (seats origin count) ≡ true

  pub tight_holds : (d : ℕ) (e : Extent) (p : Part) → tight grid sites d e ≡ Some p → ((s : Span1) → needed_span grid sites d ≡ Some s → LowRises (cut s e)) → HoldsCalls d p
  tight_holds d e p q rising =
      let b = bound (needed_part grid sites d e) (seated grid sites d) p q in
      let z = bound (needed_span grid sites d) (λ s. Some (cut s e)) b.value b.is in
      let low : LowRises b.value = subst LowRises (same (cut z.value e) b.value z.comes) (rising z.value z.is) in
      let s = b.value in
      let c = bound (shortest grid s) (λ b. slice_get s.lower b.0 >>= λ origin. run_of origin b.1 >>= λ seats. shown grid sites d s origin b.1 seats) p b.comes in
      let f = bound (slice_get s.lower c.value.0) (λ origin. run_of origin c.value.1 >>= λ seats. shown grid sites d s origin c.value.1 seats) p c.comes in
      let w = bound (run_of f.value c.value.1) (λ seats. shown grid sites d s f.value c.value.1 seats) p f.comes in
      let many : pos 1 ≤ℤ c.value.1 = shortest_many grid s.upper 0 s.lower None (λ r i. absurd (cc i)) c.value c.is in
      by s w.value f.value c.value.1 many (rise_at s.lower c.value.0 f.value low f.is) w.is (is_shown grid sites d s w.value) refl w.comes
    where
      rise_at : (fs : List Form) (k : ℕ) (f : Form) → AllRise fs → slice_get fs k ≡ Some f → Rises f
      rise_at [] k f a i = absurd (cc i)
      rise_at (g ∷ fs) zero f a i = subst Rises (same g f i) a.0
      rise_at (g ∷ fs) (suc k) f a i = rise_at fs k f a.1 i

      two : (a b c : Bool) → (if a then (if b then c else false) else false) ≡ true → (a ≡ true) × (b ≡ true)
      two true true c h = (refl, refl)
      two true false c h = absurd (cc h)
      two false b c h = absurd (cc h)

      run_is : (s : Span1) (origin : Form) (n : ℤ) → pos 1 ≤ℤ n → Rises origin → run_of origin n ≡ Some s → s ≡ seats origin (places_count n)
      run_is s origin n many rising run =
          let b = bound (combined (number (difference n (pos 1))) (pos 1) origin) (λ last. Some (record { lower = origin ∷ []; upper = last ∷ [] })) s run in
          let means = combined-means (number (difference n (pos 1))) (pos 1) origin b.value b.is in
          let less = one_less n many (within_limits-constant (number (difference n (pos 1))) means.first) in
          let count : n -ℤ pos 1 ≡ pos (places_count n) -ℤ pos 1 = ap (λ (z : ℤ). z -ℤ pos 1) (sym (counted_is n many)) in
          let last : b.value ≡ raised origin (pos (places_count n) -ℤ pos 1) =
          means.is ∙ plus_number (difference n (pos 1)) origin rising ∙ ap (raised origin) (less ∙ count) in
          sym (same (record { lower = origin ∷ []; upper = b.value ∷ [] }) s b.comes) ∙ ap (λ (f : Form). record { lower = origin ∷ []; upper = f ∷ [] }) last

      by : (s t : Span1) (origin : Form) (n : ℤ) → pos 1 ≤ℤ n → Rises origin → run_of origin n ≡ Some t → (v : Bool) → is_shown grid sites d s t ≡ v →
          (if v then Some (record { span = s; places = From origin (places_count n) }) else None) ≡ Some p → HoldsCalls d p
      by s t origin n many rising run true right i =
          let is = same (record { span = s; places = From origin (places_count n) }) p i in
          let h = two (hold_calls sites d s) (hold_calls sites d t) (span_inside grid s t) right in
          record {
            span = ap (λ (q : Part). hold_calls sites d q.span) (sym is) ∙ h.0;
            origin = origin;
            count = places_count n;
            places = ap (λ (q : Part). q.places) (sym is);
            seats_hold = ap (hold_calls sites d) (sym (run_is t origin n many rising run)) ∙ h.1;
          }
      by s t origin n many rising run false wrong i = absurd (cc i)

-- ---- all dimensions of a call

-- the part of each dimension is tight
module _ (grid : List Binding) (sites : List SiteText) (scope : List Binding) (all_spans : List Span1) where
  abbrev IsHeld : ℕ → Extent → Type 0
  IsHeld d e =
      (holds_call scope d (part_of grid sites d e).span all_spans ≡ true)
      × ((origin : Form) × (count : ℕ) × ((part_of grid sites d e).places ≡ From origin count) × (holds_call scope d (seats origin count) all_spans ≡ true))

  abbrev pub AreHeld : ℕ → List Extent → Type 0
  AreHeld d [] = Unit {0}
  AreHeld d (e ∷ es) = IsHeld d e × AreHeld (d + 1) es

  module _ (R : Rules) (bs : List Binder) (scope_is : scope_of bs ≡ scope) (within_is : (x y : Span1) → is_within R bs x y ≡ span_inside (scope_of bs) x y) where
    pub region_within : (d : ℕ) (es : List Extent) (ss : List Span1) → ((i : ℕ) → slice_get all_spans (d + i) ≡ slice_get ss i) → length ss ≡ length es → AreHeld d es →
        are_within R bs ss (taken_region grid sites d es) ≡ true
    region_within d [] [] there long h = refl
    region_within d [] (s ∷ ss) there long h = absurd (omega (arith, long))
    region_within d (e ∷ es) [] there long h = absurd (omega (arith, long))
    region_within d (e ∷ es) (s ∷ ss) there long h =
        let none : d ≡ d + 0 = omega arith in
        let at : slice_get all_spans d ≡ Some s = ap (slice_get all_spans) none ∙ there 0 in
        let inside = call_inside scope d (part_of grid sites d e).span s all_spans at h.0.0 in
        let here = within_is s (part_of grid sites d e).span ∙ ap (λ (c : List Binding). span_inside c s (part_of grid sites d e).span) scope_is ∙ inside in
        let rest = region_within (d + 1) es ss (λ i. let next : (d + 1) + i ≡ d + suc i = omega arith in ap (slice_get all_spans) next ∙ there (suc i)) (omega (arith, long)) h.1 in
        λ i. here i && rest i

    pub places_seat : (d : ℕ) (es : List Extent) (ss : List Span1) → ((i : ℕ) → slice_get all_spans (d + i) ≡ slice_get ss i) → length ss ≡ length es → AreHeld d es →
        are_seated R bs ss (taken_places grid sites d es) ≡ true
    places_seat d [] [] there long h = refl
    places_seat d [] (s ∷ ss) there long h = absurd (omega (arith, long))
    places_seat d (e ∷ es) [] there long h = absurd (omega (arith, long))
    places_seat d (e ∷ es) (s ∷ ss) there long h =
        let none : d ≡ d + 0 = omega arith in
        let at : slice_get all_spans d ≡ Some s = ap (slice_get all_spans) none ∙ there 0 in
        let o = h.0.1 in
        let inside = call_inside scope d (seats o.0 o.1) s all_spans at o.3 in
        let here : is_seated R bs s (part_of grid sites d e).places ≡ true =
        ap (is_seated R bs s) o.2 ∙ within_is s (seats o.0 o.1) ∙ ap (λ (c : List Binding). span_inside c s (seats o.0 o.1)) scope_is ∙ inside in
        let rest = places_seat (d + 1) es ss (λ i. let next : (d + 1) + i ≡ d + suc i = omega arith in ap (slice_get all_spans) next ∙ there (suc i)) (omega (arith, long)) h.1 in
        λ i. here i && rest i

-- where each part is held
module _ (grid : List Binding) (sites : List SiteText) (t : SiteText) (ss : List Span1) (has : Has t sites) (holds : Has ss t.calls)
    (rising : (d : ℕ) (s : Span1) (e : Extent) → needed_span grid sites d ≡ Some s → LowRises (cut s e)) where
  all_seats : (e : Extent) → seats (number e.low) e.count ≡ whole e
  all_seats e = (let last : e.low +ℤ (pos e.count -ℤ pos 1) ≡ e.low +ℤ pos e.count -ℤ pos 1 = omega (arith, ints) in λ i. record { lower = number e.low ∷ []; upper = number (last i) ∷ [] })

  abbrev IsGood : ℕ → Extent → Type 0
  IsGood d e =
      (holds_call t.scope d (part_of grid sites d e).span ss ≡ true)
      × ((origin : Form) × (count : ℕ) × ((part_of grid sites d e).places ≡ From origin count) × (holds_call t.scope d (seats origin count) ss ≡ true))

  pub all_held : (d : ℕ) (es : List Extent) → ((i : ℕ) (e : Extent) → slice_get es i ≡ Some e → IsHeldPart grid sites (d + i) e) → AreHeld grid sites t.scope ss d es
  all_held d [] parts = tt
  all_held d (e ∷ es) parts =
      let none : d + 0 ≡ d = omega arith in
      let here = of (tight grid sites d e) refl (subst (λ (m : ℕ). IsHeldPart grid sites m e) none (parts 0 e refl)) in
      (here, all_held (d + 1) es (λ i x at. let next : d + suc i ≡ (d + 1) + i = omega arith in subst (λ (m : ℕ). IsHeldPart grid sites m x) next (parts (suc i) x at)))
    where
      all_good : tight grid sites d e ≡ None → hold_calls sites d (whole e) ≡ true → IsGood d e
      all_good q held =
          let part : part_of grid sites d e ≡ all_of e = ap (or_all e) q in
          let call = sites_hold sites d (whole e) t ss held has holds in (
            ap (λ (y : Part). holds_call t.scope d y.span ss) part ∙ call,
            (number e.low, e.count, ap (λ (y : Part). y.places) part, ap (λ (x : Span1). holds_call t.scope d x ss) (all_seats e) ∙ call),
          )

      of : (o : Option Part) → tight grid sites d e ≡ o → IsHeldPart grid sites d e → IsGood d e
      of None q (inl some) = absurd (cc (some, ap is_some q))
      of None q (inr held) = all_good q held
      of (Some p) q held =
          let k = tight_holds grid sites d e p q (λ s z. rising d s e z) in
          let part : part_of grid sites d e ≡ p = ap (or_all e) q in (
            ap (λ (y : Part). holds_call t.scope d y.span ss) part ∙ sites_hold sites d p.span t ss k.span has holds,
            (k.origin, k.count, ap (λ (y : Part). y.places) part ∙ k.places, sites_hold sites d (seats k.origin k.count) t ss k.seats_hold has holds),
          )
