-- What a piece fetches of a function holds each point that its own function calls of that one.
use Rattle.std.proofs.Common.{◌≡◌, ◌≤◌, ℕ, zero, suc, ◌+◌, Bool, true, false, List, [], ◌∷◌, ◌++◌, length, map, Option, Some, None, refl, sym, ap, subst, ◌∙◌, append_assoc, append-nil}
use Rattle.std.proofs.Common.{arith}
use Rattle.std.proofs.lemmas.Bool.{lt-ltb}
use Rattle.std.proofs.lemmas.Int.{ints}
use Rattle.std.specs.Prelude.{ℤ, pos, negsuc, ◌+ℤ◌, ◌-ℤ◌, ◌*ℤ◌, ◌≤ℤ◌, ◌^◌, ◌-◌, min, int_le, int_lt, IsSome, if◌then◌else◌, slice_get}
use Rattle.std.specs.Int.{saturate_signed, w64}
use Rattle.tree.specs.declared.value.Value.{Value}
use Rattle.tree.specs.Term.{Terms, End, More}
use Rattle.tree.specs.Meaning.{value_of, numbers_of}
use Rattle.tree.specs.Names.{AreAsTold}
use Rattle.lin.specs.Forms.{Form, number, combined, value_of as form_value}
use Rattle.lin.specs.Regions.{span_inside}
use Rattle.lin.specs.Spans.{HoldsIn, IsInSpan, IsInRegion}
use Rattle.lin.specs.declared.scope.Binding.{Binding}
use Rattle.lin.specs.declared.span.Span1.{Span1}
use Rattle.lin.proofs.Limits.{combined-means}
use Rattle.lin.proofs.RegionLemmas.{span_inside-means}
use Rattle.lin.proofs.TermLemmas.{value_of-plus_multiple}
use Rattle.bounds.proofs.IntervalSound.{contains}
use Rattle.meaning.specs.Algorithm.{Algorithm}
use Rattle.meaning.specs.Names.{same_name}
use Rattle.algo.specs.Scoping.Standing.{Written}
use Rattle.sched.specs.declared.numbers.Extent.{Extent}
use Rattle.sched.specs.Skeleton.{NestText}
use Rattle.sched.specs.Standing.{◌>>=◌}
use Rattle.plan.specs.Symbols.{Symbols}
use Rattle.plan.specs.Rooms.{Straight, below, joined, place, room, seat}
use Rattle.plan.specs.declared.stmt.Places.TheVariants.{From}
use Rattle.regions.specs.declared.fetching.Part.{Part}
use Rattle.sched.specs.Called.{called}
use Rattle.sched.specs.Blocks.{difference}
use Rattle.sched.specs.Windows.{size_below}
use Rattle.sched.specs.Stored.{FormulaText, StoredText, calls_in}
use Rattle.sched.specs.Around.{AroundText, interval_in, around, grid_scope, head_scope}
use Rattle.sched.specs.Regions.{LaidText}
use Rattle.sched.specs.Bounded.{whole}
use Rattle.sched.specs.Taken.{SiteText, at_least_one, shorter, shortest_from, shortest, run_of, places_count}
use Rattle.regions.specs.Taken.{sites_of, add_spans, add_call, add_calls, add_site, add_asked, add_sites, with_site, holds_call, holds_calls, hold_calls, is_shown, shown, seated}
use Rattle.regions.specs.Taken.{needed_part, tight, part_of, or_all, taken_places, taken_region}
use Rattle.lower.specs.Held.{AreTyped, CallsAt, FetchesHavePlaces, FetchesHoldCalls}
use Rattle.blocks.proofs.Laying.{Bound, bound, same}
use Rattle.lower.proofs.Reached.{none_is, regions_hold}

-- ---- lists

get_before : {A : Type 0} (xs ys : List A) (k : ℕ) (x : A) → slice_get xs k ≡ Some x → slice_get (xs ++ ys) k ≡ Some x
get_before [] ys k x h = absurd (no h)
  where
    no : None ≡ Some x → ⊥
    no q = cc
get_before (y ∷ xs) ys zero x h = h
get_before (y ∷ xs) ys (suc k) x h = get_before xs ys k x h

get_last : {A : Type 0} (xs : List A) (x : A) → slice_get (xs ++ x ∷ []) (length xs) ≡ Some x
get_last [] x = refl
get_last (y ∷ xs) x = get_last xs x

-- the second list is the first with more behind it
record Extends {A : Type 0} (xs ys : List A) : Type 0 where
  rest : List A
  is : ys ≡ xs ++ rest

unchanged : {A : Type 0} (xs ys : List A) → Some xs ≡ Some ys → Extends xs ys
unchanged xs ys e = record { rest = []; is = sym (same xs ys e) ∙ sym (append-nil xs) }

one_more : {A : Type 0} (xs : List A) (x : A) (ys : List A) → Some (xs ++ x ∷ []) ≡ Some ys → Extends xs ys
one_more xs x ys e = record { rest = x ∷ []; is = sym (same (xs ++ x ∷ []) ys e) }

further : {A : Type 0} (xs ys zs : List A) → Extends xs ys → Extends ys zs → Extends xs zs
further {A} xs ys zs e f = record {
  rest = e.rest ++ f.rest;
  is = f.is ∙ ap (λ (l : List A). l ++ f.rest) e.is ∙ append_assoc xs e.rest f.rest;
}

still_there : {A : Type 0} (xs ys : List A) (k : ℕ) (x : A) → Extends xs ys → slice_get xs k ≡ Some x → slice_get ys k ≡ Some x
still_there {A} xs ys k x e h = subst (λ (l : List A). slice_get l k ≡ Some x) (sym e.is) (get_before xs e.rest k x h)

-- ---- points

region_push : (ss : List Span1) (s : Span1) (v : ℕ → ℤ) (p : List ℤ) (z : ℤ) → IsInRegion ss v p → IsInSpan s v z → IsInRegion (ss ++ s ∷ []) v (p ++ z ∷ [])
region_push [] s v [] z h i = (i, tt)
region_push [] s v (y ∷ p) z h i = absurd h
region_push (t ∷ ss) s v [] z h i = absurd h
region_push (t ∷ ss) s v (y ∷ p) z h i = (h.0, region_push ss s v p z h.1 i)

-- the span of a coordinate
record SpanAt (ss : List Span1) (d : ℕ) (v : ℕ → ℤ) (z : ℤ) : Type 0 where
  span : Span1
  is : slice_get ss d ≡ Some span
  lies : IsInSpan span v z

coordinate_lies : (ss : List Span1) (v : ℕ → ℤ) (p : List ℤ) (d : ℕ) (z : ℤ) → IsInRegion ss v p → slice_get p d ≡ Some z → SpanAt ss d v z
coordinate_lies ss v [] d z h at = absurd (no at)
  where
    no : None ≡ Some z → ⊥
    no q = cc
coordinate_lies [] v (y ∷ p) d z h at = absurd h
coordinate_lies (s ∷ ss) v (y ∷ p) zero z h at = record { span = s; is = refl; lies = subst (λ (q : ℤ). IsInSpan s v q) (same y z at) h.0 }
coordinate_lies (s ∷ ss) v (y ∷ p) (suc d) z h at = let r = coordinate_lies ss v p d z h.1 at in record { span = r.span; is = r.is; lies = r.lies }

extent_lies : (es : List Extent) (v : ℕ → ℤ) (p : List ℤ) (d : ℕ) (e : Extent) (z : ℤ) → IsInRegion (map whole es) v p → slice_get es d ≡ Some e → slice_get p d ≡ Some z → IsInSpan (whole e) v z
extent_lies [] v p d e z h there at = absurd (no there)
  where
    no : None ≡ Some e → ⊥
    no q = cc
extent_lies (x ∷ es) v [] d e z h there at = absurd h
extent_lies (x ∷ es) v (y ∷ p) zero e z h there at =
    subst (λ (q : Extent). IsInSpan (whole q) v z) (same x e there) (subst (λ (q : ℤ). IsInSpan (whole x) v q) (same y z at) h.0)
extent_lies (x ∷ es) v (y ∷ p) (suc d) e z h there at = extent_lies es v p d e z h.1 there at

-- ---- the calls that are found

-- one of the calls has spans that hold the point, over a scope that the symbols fit
record Site (ss : List SiteText) (v : ℕ → ℤ) (p : List ℤ) : Type 0 where
  place : ℕ
  site : SiteText
  number : ℕ
  spans : List Span1
  is : slice_get ss place ≡ Some site
  call : slice_get site.calls number ≡ Some spans
  fits : HoldsIn site.scope v
  lies : IsInRegion spans v p

site_stays : (ss ts : List SiteText) (v : ℕ → ℤ) (p : List ℤ) → Extends ss ts → Site ss v p → Site ts v p
site_stays ss ts v p e s = record {
  place = s.place;
  site = s.site;
  number = s.number;
  spans = s.spans;
  is = still_there ss ts s.place s.site e s.is;
  call = s.call;
  fits = s.fits;
  lies = s.lies;
}

with_site_extends : (scope : List Binding) (cs : List (List Span1)) (before out : List SiteText) → Some (with_site scope cs before) ≡ Some out → Extends before out
with_site_extends scope [] before out e = unchanged before out e
with_site_extends scope (c ∷ cs) before out e = one_more before (record { scope = scope; calls = c ∷ cs }) out e

-- calls that were found are a site
record CallIn (cs : List (List Span1)) (v : ℕ → ℤ) (p : List ℤ) : Type 0 where
  number : ℕ
  spans : List Span1
  is : slice_get cs number ≡ Some spans
  lies : IsInRegion spans v p

site_of_calls : (scope : List Binding) (cs : List (List Span1)) (before out : List SiteText) (v : ℕ → ℤ) (p : List ℤ) → HoldsIn scope v → CallIn cs v p
    → Some (with_site scope cs before) ≡ Some out → Site out v p
site_of_calls scope [] before out v p fits c e = absurd (no c.is)
  where
    no : None ≡ Some c.spans → ⊥
    no q = cc
site_of_calls scope (x ∷ cs) before out v p fits c e =
    let site : SiteText = record { scope = scope; calls = x ∷ cs } in
    record {
      place = length before;
      site = site;
      number = c.number;
      spans = c.spans;
      is = subst (λ (l : List SiteText). slice_get l (length before) ≡ Some site) (same (before ++ site ∷ []) out e) (get_last before site);
      call = c.is;
      fits = fits;
      lies = c.lies;
    }

module _ (a : Algorithm) (r : AroundText) where
  call_extends : (x : List ℕ) (c : Written) (before out : List (List Span1)) → add_call a r x c before ≡ Some out → Extends before out
  call_extends x c before out h = by (same_name c.name x) h
    where
      by : (b : Bool) → (if b then (add_spans a r c.at [] >>= λ ss. Some (before ++ ss ∷ [])) else Some before) ≡ Some out → Extends before out
      by true q = let s = bound (add_spans a r c.at []) (λ ss. Some (before ++ ss ∷ [])) out q in one_more before s.value out s.comes
      by false q = unchanged before out q

  calls_extend : (x : List ℕ) (cs : List Written) (before out : List (List Span1)) → add_calls a r x cs before ≡ Some out → Extends before out
  calls_extend x [] before out h = unchanged before out h
  calls_extend x (c ∷ cs) before out h =
      let b = bound (add_call a r x c before) (add_calls a r x cs) out h in
      further before b.value out (call_extends x c before b.value b.is) (calls_extend x cs b.value out b.comes)

  module _ (v : ℕ → ℤ) (variables : List ℕ → Bool) (numbers : List ℕ → ℤ) (answers : List ℕ → List ℤ → Value)
      (told : AreAsTold variables (called a) numbers answers) (fits : HoldsIn r.scope v) (within : IsInRegion r.coordinates v (map numbers r.variables)) where
    spans_hold : (es : Terms) (before out : List Span1) (q : List ℤ) → AreTyped variables (called a) es → IsInRegion before v q → add_spans a r es before ≡ Some out
        → IsInRegion out v (q ++ numbers_of numbers answers es)
    spans_hold End before out q typed i h =
        subst (λ (l : List ℤ). IsInRegion out v l) (sym (append-nil q)) (subst (λ (l : List Span1). IsInRegion l v q) (same before out h) i)
    spans_hold (More e es) before out q typed i h =
        let z : ℤ = (value_of numbers answers e).number in
        let b = bound (interval_in a r e) (λ s. add_spans a r es (before ++ s ∷ [])) out h in
        let lies : IsInSpan b.value v z = contains r.scope variables (called a) r.variables r.coordinates e b.value b.is typed.0 v numbers answers fits told within in
        subst (λ (l : List ℤ). IsInRegion out v l) (append_assoc q (z ∷ []) (numbers_of numbers answers es))
        (spans_hold es (before ++ b.value ∷ []) out (q ++ z ∷ []) typed.1 (region_push before b.value v q z i lies) b.comes)

    call_found : (x : List ℕ) (c : Written) (before out : List (List Span1)) → same_name c.name x ≡ true → AreTyped variables (called a) c.at → add_call a r x c before ≡ Some out
        → CallIn out v (numbers_of numbers answers c.at)
    call_found x c before out named typed h =
        let found : (add_spans a r c.at [] >>= λ ss. Some (before ++ ss ∷ [])) ≡ Some out =
        sym (ap (λ (t : Bool). if t then (add_spans a r c.at [] >>= λ ss. Some (before ++ ss ∷ [])) else Some before) named) ∙ h in
        let s = bound (add_spans a r c.at []) (λ ss. Some (before ++ ss ∷ [])) out found in
        record {
          number = length before;
          spans = s.value;
          is = subst (λ (l : List (List Span1)). slice_get l (length before) ≡ Some s.value) (same (before ++ s.value ∷ []) out s.comes) (get_last before s.value);
          lies = spans_hold c.at [] s.value [] typed tt s.is;
        }

    calls_found : (x : List ℕ) (cs : List Written) (before out : List (List Span1)) → add_calls a r x cs before ≡ Some out → (place : ℕ) (c : Written) → slice_get cs place ≡ Some c
        → same_name c.name x ≡ true → AreTyped variables (called a) c.at → CallIn out v (numbers_of numbers answers c.at)
    calls_found x [] before out h place c there named typed = absurd (no there)
      where
        no : None ≡ Some c → ⊥
        no q = cc
    calls_found x (y ∷ cs) before out h zero c there named typed =
        let b = bound (add_call a r x y before) (add_calls a r x cs) out h in
        let of_it : add_call a r x c before ≡ Some b.value = subst (λ (q : Written). add_call a r x q before ≡ Some b.value) (same y c there) b.is in
        let f = call_found x c before b.value named typed of_it in
        record { number = f.number; spans = f.spans; is = still_there b.value out f.number f.spans (calls_extend x cs b.value out b.comes) f.is; lies = f.lies }
    calls_found x (y ∷ cs) before out h (suc place) c there named typed =
        let b = bound (add_call a r x y before) (add_calls a r x cs) out h in calls_found x cs b.value out b.comes place c there named typed

module _ (a : Algorithm) (u : StoredText) (outer : List Binding) (x : List ℕ) where
  site_extends : (d : ℕ) (f : FormulaText) (n : NestText) (before out : List SiteText) → add_site a u outer x d f n before ≡ Some out → Extends before out
  site_extends d f n before out h =
      let b = bound (around a u outer n f d) (λ r. add_calls a r x (calls_in f) [] >>= λ cs. Some (with_site r.scope cs before)) out h in
      let c = bound (add_calls a b.value x (calls_in f) []) (λ cs. Some (with_site b.value.scope cs before)) out b.comes in
      with_site_extends b.value.scope c.value before out c.comes

  sites_extend : (d : ℕ) (fs : List FormulaText) (ns : List NestText) (before out : List SiteText) → add_sites a u outer None x d fs ns before ≡ Some out → Extends before out
  sites_extend d fs [] before out h = unchanged before out h
  sites_extend d [] (n ∷ ns) before out h = unchanged before out h
  sites_extend d (f ∷ fs) (n ∷ ns) before out h =
      let b = bound (add_asked a u outer None x d f n before) (add_sites a u outer None x (d + 1) fs ns) out h in
      further before b.value out (site_extends d f n before b.value b.is) (sites_extend (d + 1) fs ns b.value out b.comes)

module _ (a : Algorithm) (u : StoredText) (l : LaidText) (x : List ℕ) (v : ℕ → ℤ) (p : List ℤ) (c : CallsAt a u l x v p) where
  abbrev outer : List Binding
  outer = head_scope l.skeleton

  site_found : (d : ℕ) (before out : List SiteText) → d ≡ c.number → add_site a u outer x d c.formula c.nest before ≡ Some out → Site out v p
  site_found d before out is h =
      let R : Option AroundText → Option (List SiteText) = λ o. o >>= λ r. add_calls a r x (calls_in c.formula) [] >>= λ cs. Some (with_site r.scope cs before) in
      let known : around a u outer c.nest c.formula d ≡ Some c.standing = subst (λ (n : ℕ). around a u outer c.nest c.formula n ≡ Some c.standing) (sym is) c.stands in
      let here : R (Some c.standing) ≡ Some out = sym (ap R known) ∙ h in
      let b = bound (add_calls a c.standing x (calls_in c.formula) []) (λ cs. Some (with_site c.standing.scope cs before)) out here in
      let found = calls_found a c.standing v c.variables c.numbers c.answers c.told c.fits c.within x (calls_in c.formula) [] b.value b.is c.place c.call c.there c.named c.typed in
      site_of_calls c.standing.scope b.value before out v p c.fits (subst (λ (q : List ℤ). CallIn b.value v q) (sym c.point) found) b.comes

  sites_found : (d m : ℕ) (fs : List FormulaText) (ns : List NestText) (before out : List SiteText) → d + m ≡ c.number → slice_get fs m ≡ Some c.formula → slice_get ns m ≡ Some c.nest
      → add_sites a u outer None x d fs ns before ≡ Some out → Site out v p
  sites_found d m fs [] before out is formula nest h = absurd (no nest)
    where
      no : None ≡ Some c.nest → ⊥
      no q = cc
  sites_found d m [] (n ∷ ns) before out is formula nest h = absurd (no formula)
    where
      no : None ≡ Some c.formula → ⊥
      no q = cc
  sites_found d zero (f ∷ fs) (n ∷ ns) before out is formula nest h =
      let b = bound (add_asked a u outer None x d f n before) (add_sites a u outer None x (d + 1) fs ns) out h in
      let of_it : add_site a u outer x d c.formula c.nest before ≡ Some b.value =
      subst (λ (q : FormulaText). add_site a u outer x d q c.nest before ≡ Some b.value) (same f c.formula formula)
      (subst (λ (q : NestText). add_site a u outer x d f q before ≡ Some b.value) (same n c.nest nest) b.is) in
      site_stays b.value out v p (sites_extend a u outer x (d + 1) fs ns b.value out b.comes) (site_found d before b.value (omega (arith, is)) of_it)
  sites_found d (suc m) (f ∷ fs) (n ∷ ns) before out is formula nest h =
      let b = bound (add_asked a u outer None x d f n before) (add_sites a u outer None x (d + 1) fs ns) out h in
      sites_found (d + 1) m fs ns b.value out (omega (arith, is)) formula nest b.comes

-- ---- what is fetched holds them

no_part : (q : Part) → None ≡ Some q → ⊥
no_part q h = cc

true_branch : (b c : Bool) → (if b then c else false) ≡ true → (b ≡ true) × (c ≡ true)
true_branch true c h = (refl, h)
true_branch false c h = absurd (no h)
  where
    no : false ≡ true → ⊥
    no q = cc

holds_one : (scope : List Binding) (d : ℕ) (s : Span1) (cs : List (List Span1)) (n : ℕ) (c : List Span1) → slice_get cs n ≡ Some c → holds_calls scope d s cs ≡ true → holds_call scope d s c ≡ true
holds_one scope d s [] n c there h = absurd (no there)
  where
    no : None ≡ Some c → ⊥
    no q = cc
holds_one scope d s (y ∷ cs) zero c there h =
    subst (λ (q : List Span1). holds_call scope d s q ≡ true) (same y c there) (true_branch (holds_call scope d s y) (holds_calls scope d s cs) h).0
holds_one scope d s (y ∷ cs) (suc n) c there h = holds_one scope d s cs n c there (true_branch (holds_call scope d s y) (holds_calls scope d s cs) h).1

hold_one : (ss : List SiteText) (d : ℕ) (s : Span1) (n : ℕ) (t : SiteText) → slice_get ss n ≡ Some t → hold_calls ss d s ≡ true → holds_calls t.scope d s t.calls ≡ true
hold_one [] d s n t there h = absurd (no there)
  where
    no : None ≡ Some t → ⊥
    no q = cc
hold_one (y ∷ ss) d s zero t there h =
    subst (λ (q : SiteText). holds_calls q.scope d s q.calls ≡ true) (same y t there) (true_branch (holds_calls y.scope d s y.calls) (hold_calls ss d s) h).0
hold_one (y ∷ ss) d s (suc n) t there h = hold_one ss d s n t there (true_branch (holds_calls y.scope d s y.calls) (hold_calls ss d s) h).1

called_in : (scope : List Binding) (d : ℕ) (s : Span1) (c : List Span1) (q : Span1) → slice_get c d ≡ Some q → holds_call scope d s c ≡ true → span_inside scope q s ≡ true
called_in scope d s c q there h = sym (ap (λ (o : Option Span1). elim o [ Some called ↦ span_inside scope called s | None ↦ false ]) there) ∙ h

shown_holds : (ss : List SiteText) (v : ℕ → ℤ) (p : List ℤ) (d : ℕ) (z : ℤ) (s : Span1) → Site ss v p → slice_get p d ≡ Some z → hold_calls ss d s ≡ true → IsInSpan s v z
shown_holds ss v p d z s t at h =
    let c = coordinate_lies t.spans v p d z t.lies at in
    let inside = called_in t.site.scope d s t.spans c.span c.is (holds_one t.site.scope d s t.site.calls t.number t.spans t.call (hold_one ss d s t.place t.site t.is h)) in
    span_inside-means t.site.scope c.span s inside v t.fits z c.lies

module _ (grid : List Binding) (ss : List SiteText) (v : ℕ → ℤ) (p : List ℤ) (t : Site ss v p) where
  part_holds : (d : ℕ) (e : Extent) (z : ℤ) (o : Option Part) → tight grid ss d e ≡ o → slice_get p d ≡ Some z → IsInSpan (whole e) v z → IsInSpan (or_all e o).span v z
  part_holds d e z None h at lies = lies
  part_holds d e z (Some q) h at lies =
      let b = bound (needed_part grid ss d e) (seated grid ss d) q h in
      let s : Span1 = b.value in
      let c = bound (shortest grid s) (λ b. slice_get s.lower b.0 >>= λ origin. run_of origin b.1 >>= λ seats. shown grid ss d s origin b.1 seats) q b.comes in
      let f = bound (slice_get s.lower c.value.0) (λ origin. run_of origin c.value.1 >>= λ seats. shown grid ss d s origin c.value.1 seats) q c.comes in
      let w = bound (run_of f.value c.value.1) (λ seats. shown grid ss d s f.value c.value.1 seats) q f.comes in
      by s w.value f.value c.value.1 (is_shown grid ss d s w.value) refl w.comes
    where
      by : (s seats : Span1) (origin : Form) (n : ℤ) (b : Bool) → is_shown grid ss d s seats ≡ b
          → (if b then Some (record { span = s; places = From origin (places_count n) }) else None) ≡ Some q → IsInSpan q.span v z
      by s seats origin n true right e =
          let held : hold_calls ss d s ≡ true = (true_branch (hold_calls ss d s) (if hold_calls ss d seats then span_inside grid s seats else false) right).0 in
          subst (λ (x : Part). IsInSpan x.span v z) (same (record { span = s; places = From origin (places_count n) }) q e) (shown_holds ss v p d z s t at held)
      by s seats origin n false wrong e = absurd (no_part q e)

  taken_holds : (d : ℕ) (es : List Extent) (q : List ℤ) → length q ≡ length es
      → ((k n : ℕ) (e : Extent) (z : ℤ) → n ≡ d + k → slice_get es k ≡ Some e → slice_get q k ≡ Some z → IsInSpan (part_of grid ss n e).span v z) → IsInRegion (taken_region grid ss d es) v q
  taken_holds d [] [] n h = tt
  taken_holds d [] (z ∷ q) n h = absurd (omega (arith, n))
  taken_holds d (e ∷ es) [] n h = absurd (omega (arith, n))
  taken_holds d (e ∷ es) (z ∷ q) n h =
      (h 0 d e z (omega arith) refl refl, taken_holds (d + 1) es q (omega (arith, n)) (λ k m x y i there at. h (suc k) m x y (omega (arith, i)) there at))

pub fetches_hold : FetchesHoldCalls
fetches_hold a gs i j g u l m x y lt fs ss defined found v p c many =
    let within : IsInRegion (map whole l.region) v p = regions_hold a gs i j g u l m x y lt v p c many in
    let formulas : fs ≡ c.formulas = same fs c.formulas (sym defined ∙ c.defined) in
    let all : sites_of a u c.formulas m.skeleton g.subject.name ≡ Some ss = subst (λ (q : List FormulaText). sites_of a u q m.skeleton g.subject.name ≡ Some ss) formulas found in
    let t = sites_found a u m g.subject.name v p c 0 c.number c.formulas m.skeleton.nests [] ss (omega arith) c.is c.nested all in
    let grid = grid_scope m.skeleton.grid in
    taken_holds grid ss v p t 0 l.region p many (λ k n e z is there at.
    let here : n ≡ k = omega (arith, is) in
    part_holds grid ss v p t n e z (tight grid ss n e) refl (subst (λ (d : ℕ). slice_get p d ≡ Some z) (sym here) at) (extent_lies l.region v p k e z within there at))

-- ---- places

no_best : (q : ℕ × ℤ) → None ≡ Some q → ⊥
no_best q h = cc

-- there is at least one number
some_numbers : (o : Option ℤ) (n : ℤ) → at_least_one o ≡ Some n → pos 1 ≤ℤ n
some_numbers None n h = absurd (none_is n h)
some_numbers (Some z) n h = subst (λ (q : ℤ). pos 1 ≤ℤ q) (same (if int_le z (pos 1) then pos 1 else z) n h) (by (int_le z (pos 1)) refl)
  where
    by : (b : Bool) → int_le z (pos 1) ≡ b → pos 1 ≤ℤ (if b then pos 1 else z)
    by true e = omega (arith, ints)
    by false e = omega (arith, ints, e)

abbrev IsMany : Option (ℕ × ℤ) → Type 0
IsMany o = (q : ℕ × ℤ) → o ≡ Some q → pos 1 ≤ℤ q.1

shorter_many : (p : ℕ) (o : Option ℤ) (best : Option (ℕ × ℤ)) → ((n : ℤ) → o ≡ Some n → pos 1 ≤ℤ n) → IsMany best → IsMany (shorter p o best)
shorter_many p None best ho hb = hb
shorter_many p (Some n) None ho hb = λ q e. subst (λ (x : ℕ × ℤ). pos 1 ≤ℤ x.1) (same (p, n) q e) (ho n refl)
shorter_many p (Some n) (Some b) ho hb = by (int_lt n b.1)
  where
    by : (t : Bool) → IsMany (if t then Some (p, n) else Some b)
    by true = λ q e. subst (λ (x : ℕ × ℤ). pos 1 ≤ℤ x.1) (same (p, n) q e) (ho n refl)
    by false = hb

shortest_many : (grid : List Binding) (uppers : List Form) (p : ℕ) (fs : List Form) (best : Option (ℕ × ℤ)) → IsMany best → IsMany (shortest_from grid uppers p fs best)
shortest_many grid uppers p [] best h = h
shortest_many grid uppers p (f ∷ fs) best h =
    shortest_many grid uppers (p + 1) fs (shorter p (at_least_one (size_below grid f uppers)) best)
    (shorter_many p (at_least_one (size_below grid f uppers)) best (λ n e. some_numbers (size_below grid f uppers) n e) h)

min_le : (m n : ℕ) → min m n ≤ m
min_le m n = omega arith

-- one less than a number from 1 up
one_less : (n : ℤ) → pos 1 ≤ℤ n → difference n (pos 1) ≤ℤ (n -ℤ pos 1)
one_less n h = by (n -ℤ pos 1) refl
  where
    by : (y : ℤ) → n -ℤ pos 1 ≡ y → saturate_signed w64 y ≤ℤ y
    by (pos k) e = let le = min_le k (2 ^ 63 - 1) in omega (arith, ints, le)
    by (negsuc k) e = absurd (omega (arith, ints, e, h))

seated_below : (origin z : ℤ) (n : ℕ) → origin ≤ℤ z → z ≤ℤ ((origin +ℤ pos n) -ℤ pos 1) → IsSome (seat (Straight origin n) z)
seated_below origin z n low high = by (z -ℤ origin) refl
  where
    by : (y : ℤ) → z -ℤ origin ≡ y → IsSome (below n y)
    by (pos k) e = subst (λ (b : Bool). IsSome (if b then Some k else None)) (sym (lt-ltb k n (omega (arith, ints, e, high)))) refl
    by (negsuc k) e = absurd (omega (arith, ints, e, low))

counted_is : (n : ℤ) → pos 1 ≤ℤ n → pos (places_count n) ≡ n
counted_is (pos n) h = refl
counted_is (negsuc n) h = absurd (omega (arith, ints, h))

places_joined : (o : Option ℕ) (rest : Option (List ℕ)) → IsSome o → IsSome rest → IsSome (joined o rest)
places_joined None rest h i = cc
places_joined (Some k) None h i = cc
places_joined (Some k) (Some ks) h i = refl

module _ (grid : List Binding) (ss : List SiteText) (s : Symbols) (p : List ℤ) (t : Site ss s.value p) where
  part_seats : (d : ℕ) (e : Extent) (z : ℤ) (o : Option Part) → tight grid ss d e ≡ o → slice_get p d ≡ Some z → IsInSpan (whole e) s.value z → IsSome (seat (room s (or_all e o).places) z)
  part_seats d e z None h at lies =
      let low : form_value (number e.low) s.value ≤ℤ z = lies.0 0 (number e.low) (omega arith) in
      let high : z ≤ℤ form_value (number (e.low +ℤ pos e.count -ℤ pos 1)) s.value = lies.1 0 (number (e.low +ℤ pos e.count -ℤ pos 1)) (omega arith) in
      seated_below (form_value (number e.low) s.value) z e.count low (omega (arith, ints, high))
  part_seats d e z (Some q) h at lies =
      let b = bound (needed_part grid ss d e) (seated grid ss d) q h in
      let x : Span1 = b.value in
      let c = bound (shortest grid x) (λ b. slice_get x.lower b.0 >>= λ origin. run_of origin b.1 >>= λ seats. shown grid ss d x origin b.1 seats) q b.comes in
      let f = bound (slice_get x.lower c.value.0) (λ origin. run_of origin c.value.1 >>= λ seats. shown grid ss d x origin c.value.1 seats) q c.comes in
      let w = bound (run_of f.value c.value.1) (λ seats. shown grid ss d x f.value c.value.1 seats) q f.comes in
      let many : pos 1 ≤ℤ c.value.1 = shortest_many grid x.upper 0 x.lower None (λ r i. absurd (no_best r i)) c.value c.is in
      by x w.value f.value c.value.1 many (bound (combined (number (difference c.value.1 (pos 1))) (pos 1) f.value) (λ last. Some (record { lower = f.value ∷ []; upper = last ∷ [] })) w.value w.is)
      (is_shown grid ss d x w.value) refl w.comes
    where
      by : (x seats : Span1) (origin : Form) (n : ℤ) → pos 1 ≤ℤ n
          → Bound (combined (number (difference n (pos 1))) (pos 1) origin) (λ last. Some (record { lower = origin ∷ []; upper = last ∷ [] })) seats → (b : Bool) → is_shown grid ss d x seats ≡ b
          → (if b then Some (record { span = x; places = From origin (places_count n) }) else None) ≡ Some q → IsSome (seat (room s q.places) z)
      by x seats origin n many run true right e =
          let rest = (true_branch (hold_calls ss d x) (if hold_calls ss d seats then span_inside grid x seats else false) right).1 in
          let held : hold_calls ss d seats ≡ true = (true_branch (hold_calls ss d seats) (span_inside grid x seats) rest).0 in
          let last : Form = run.value in
          let is : record { lower = origin ∷ []; upper = last ∷ [] } ≡ seats = same (record { lower = origin ∷ []; upper = last ∷ [] }) seats run.comes in
          let lies : IsInSpan (record { lower = origin ∷ []; upper = last ∷ [] }) s.value z = subst (λ (y : Span1). IsInSpan y s.value z) (sym is) (shown_holds ss s.value p d z seats t at held) in
          let low : form_value origin s.value ≤ℤ z = lies.0 0 origin (omega arith) in
          let high : z ≤ℤ form_value last s.value = lies.1 0 last (omega arith) in
          let sum : form_value last s.value ≡ form_value (number (difference n (pos 1))) s.value +ℤ pos 1 *ℤ form_value origin s.value =
          ap (λ (y : Form). form_value y s.value) (combined-means (number (difference n (pos 1))) (pos 1) origin last run.is).is
          ∙ value_of-plus_multiple (number (difference n (pos 1))) (pos 1) origin s.value in
          let less = one_less n many in
          let count = counted_is n many in
          subst (λ (y : Part). IsSome (seat (room s y.places) z)) (same (record { span = x; places = From origin (places_count n) }) q e)
          (seated_below (form_value origin s.value) z (places_count n) low (omega (arith, ints, high, sum, less, count)))
      by x seats origin n many run false wrong e = absurd (no_part q e)

  taken_seats : (d : ℕ) (es : List Extent) (q : List ℤ) → length q ≡ length es
      → ((k n : ℕ) (e : Extent) (z : ℤ) → n ≡ d + k → slice_get es k ≡ Some e → slice_get q k ≡ Some z → IsSome (seat (room s (part_of grid ss n e).places) z))
      → IsSome (place (map (room s) (taken_places grid ss d es)) q)
  taken_seats d [] [] n h = refl
  taken_seats d [] (z ∷ q) n h = absurd (omega (arith, n))
  taken_seats d (e ∷ es) [] n h = absurd (omega (arith, n))
  taken_seats d (e ∷ es) (z ∷ q) n h =
      places_joined (seat (room s (part_of grid ss d e).places) z) (place (map (room s) (taken_places grid ss (d + 1) es)) q) (h 0 d e z (omega arith) refl refl)
      (taken_seats (d + 1) es q (omega (arith, n)) (λ k m x y i there at. h (suc k) m x y (omega (arith, i)) there at))

pub fetches_seat : FetchesHavePlaces
fetches_seat a gs i j g u l m x y lt fs ss defined found s p c many =
    let within : IsInRegion (map whole l.region) s.value p = regions_hold a gs i j g u l m x y lt s.value p c many in
    let formulas : fs ≡ c.formulas = same fs c.formulas (sym defined ∙ c.defined) in
    let all : sites_of a u c.formulas m.skeleton g.subject.name ≡ Some ss = subst (λ (q : List FormulaText). sites_of a u q m.skeleton g.subject.name ≡ Some ss) formulas found in
    let t = sites_found a u m g.subject.name s.value p c 0 c.number c.formulas m.skeleton.nests [] ss (omega arith) c.is c.nested all in
    let grid = grid_scope m.skeleton.grid in
    taken_seats grid ss s p t 0 l.region p many (λ k n e z is there at.
    let here : n ≡ k = omega (arith, is) in
    part_seats grid ss s p t n e z (tight grid ss n e) refl (subst (λ (d : ℕ). slice_get p d ≡ Some z) (sym here) at) (extent_lies l.region s.value p k e z within there at))
