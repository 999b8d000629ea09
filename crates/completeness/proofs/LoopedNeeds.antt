-- What is needed of a function that is computed inside loops has forms within the limits, and so has what it holds.
use Rattle.std.proofs.Common.{◌≡◌, ℕ, ◌+◌, Bool, true, false, not, List, [], ◌∷◌, ◌++◌, Option, Some, None, refl, sym, subst}
use Rattle.std.specs.Prelude.{◌==◌, if◌then◌else◌, slice_get, length}
use Rattle.std.specs.List.{AllByRecursion}
use Rattle.lin.specs.declared.scope.Binding.{Binding}
use Rattle.lin.specs.declared.span.Span1.{Span1}
use Rattle.lin.specs.Search.{is_empty}
use Rattle.bounds.proofs.ListSound.{all-append}
use Rattle.headline.proofs.Members.{got}
use Rattle.meaning.specs.Algorithm.{Algorithm}
use Rattle.sched.specs.declared.numbers.Extent.{Extent}
use Rattle.sched.specs.Skeleton.{NestText}
use Rattle.sched.specs.Standing.{◌>>=◌}
use Rattle.sched.specs.declared.hosts.Spot.{Spot}
use Rattle.sched.specs.Stored.{FormulaText, StoredText}
use Rattle.sched.specs.Bounded.{whole}
use Rattle.lower.specs.Owning.{IsExtent}
use Rattle.sched.specs.Taken.{SiteText, freed}
use Rattle.regions.specs.Taken.{is_asked, add_site, add_asked, add_sites, needed_span}
use Rattle.sched.specs.Fetches.{Entry}
use Rattle.sched.specs.Placed.{LaterText, PlacedText}
use Rattle.regions.specs.Homes.{host_at}
use Rattle.regions.specs.Demanded.{scope_over, stands_inside, add_later, add_inner, add_if, add_inside, sites_at, is_scattered, needed_dimension, add_needed, needed_region}
use Rattle.sched.specs.Demanded.{is_rounded}
use Rattle.regions.specs.Slid.{TrackText, is_open, rises, new_from, are_joined, joined, over_loop, with_span, is_split, if_told, freed_region, held_region, is_repeated}
use Rattle.sched.specs.Slid.{is_single}
use Rattle.lower.specs.Slid.{may_hold}
use Rattle.lower.specs.Slid.{if_held, held_along}
use Rattle.lower.specs.Slid.{HoldsBy, Holds}
use Rattle.blocks.proofs.Laying.{bound, same}
use Rattle.completeness.proofs.Bounding.{SpanLimited}
use Rattle.completeness.proofs.Needed.{SiteLimited, one_limited, freed_limited, span_needed, whole_limited}
use Rattle.completeness.proofs.LoopedLimited.{AreSpans}

abbrev pub SitesLimited : List SiteText → Type 0
SitesLimited ss = AllByRecursion SiteLimited ss

-- ---- calls

-- of whichever definitions
pub asked_limited : (a : Algorithm) (g : StoredText) (outer : List Binding) (only : Option ℕ) (x : List ℕ) (d : ℕ) (fs : List FormulaText) (ns : List NestText) (before ss : List SiteText) →
    SitesLimited before → add_sites a g outer only x d fs ns before ≡ Some ss → SitesLimited ss
asked_limited a g outer only x d fs [] before ss h e = subst SitesLimited (same before ss e) h
asked_limited a g outer only x d [] (n ∷ ns) before ss h e = subst SitesLimited (same before ss e) h
asked_limited a g outer only x d (f ∷ fs) (n ∷ ns) before ss h e =
    let b = bound (add_asked a g outer only x d f n before) (add_sites a g outer only x (d + 1) fs ns) ss e in
    asked_limited a g outer only x (d + 1) fs ns b.value ss (of (is_asked only d) b.value b.is) b.comes
  where
    of : (b : Bool) (us : List SiteText) → (if b then add_site a g outer x d f n before else Some before) ≡ Some us → SitesLimited us
    of true us k = one_limited a g outer x d f n before us h k
    of false us k = subst SitesLimited (same before us k) h

module _ (a : Algorithm) (x : List ℕ) where
  later_limited : (g : StoredText) (fs : List FormulaText) (o : Option LaterText) (before ss : List SiteText) → SitesLimited before → add_later a x g fs o before ≡ Some ss → SitesLimited ss
  later_limited g fs None before ss h e = subst SitesLimited (same before ss e) h
  later_limited g fs (Some l) before ss h e = of (is_rounded g l.dimension) e
    where
      of : (b : Bool) → (if b then add_sites a g l.scope None x 0 fs l.nests before else Some before) ≡ Some ss → SitesLimited ss
      of true k = asked_limited a g l.scope None x 0 fs l.nests before ss h k
      of false k = subst SitesLimited (same before ss k) h

  pub inner_limited : (i : PlacedText) (before ss : List SiteText) → SitesLimited before → add_inner a x i before ≡ Some ss → SitesLimited ss
  inner_limited i before ss h e =
      let b = bound (add_sites a i.function i.scope None x 0 i.formulas i.nests before) (add_later a x i.function i.formulas i.later) ss e in
      later_limited i.function i.formulas i.later b.value ss (asked_limited a i.function i.scope None x 0 i.formulas i.nests before b.value h b.is) b.comes

  inside_limited : (is : List PlacedText) (s : Spot) (n : ℕ) (js : List PlacedText) (before ss : List SiteText) → SitesLimited before → add_inside a x is s n js before ≡ Some ss → SitesLimited ss
  inside_limited is s n [] before ss h e = subst SitesLimited (same before ss e) h
  inside_limited is s n (i ∷ js) before ss h e =
      let b = bound (add_if a x (stands_inside is s (length is) n) i before) (add_inside a x is s (n + 1) js) ss e in
      inside_limited is s (n + 1) js b.value ss (of (stands_inside is s (length is) n) b.value b.is) b.comes
    where
      of : (b : Bool) (us : List SiteText) → add_if a x b i before ≡ Some us → SitesLimited us
      of true us k = inner_limited i before us h k
      of false us k = subst SitesLimited (same before us k) h

-- the calls at a place
pub place_limited : (a : Algorithm) (e : Entry) (is : List PlacedText) (s : Spot) (x : List ℕ) (ss : List SiteText) → sites_at a e is s x ≡ Some ss → SitesLimited ss
place_limited a e is s x ss q =
    let t = bound (host_at e is s.host) (λ t. add_sites a t.function (scope_over e is s.host) s.definition x 0 t.formulas t.nests [] >>= add_inside a x is s 0 is) ss q in
    let b = bound (add_sites a t.value.function (scope_over e is s.host) s.definition x 0 t.value.formulas t.value.nests []) (add_inside a x is s 0 is) ss t.comes in
    inside_limited a x is s 0 is b.value ss (asked_limited a t.value.function (scope_over e is s.host) s.definition x 0 t.value.formulas t.value.nests [] b.value tt b.is) b.comes

-- ---- what they need

module _ (scope : List Binding) (ss : List SiteText) (sites : SitesLimited ss) (g : StoredText) where
  needed_limited : (d : ℕ) (es : List Extent) (before r : List Span1) → AllByRecursion IsExtent es → AreSpans before → add_needed scope ss g d es before ≡ Some r → AreSpans r
  needed_limited d [] before r extents h e = subst AreSpans (same before r e) h
  needed_limited d (x ∷ es) before r extents h e =
      let b = bound (needed_dimension scope ss g d x) (λ s. add_needed scope ss g (d + 1) es (before ++ s ∷ [])) r e in
      needed_limited (d + 1) es (before ++ b.value ∷ []) r extents.1 (all-append SpanLimited before (b.value ∷ []) h (of (is_scattered g d) b.value b.is, tt)) b.comes
    where
      of : (b : Bool) (s : Span1) → (if b then Some (whole x) else needed_span scope ss d) ≡ Some s → SpanLimited s
      of true s k = subst SpanLimited (same (whole x) s k) (whole_limited x extents.0)
      of false s k = span_needed scope d ss s sites k

  -- over this region
  pub region_limited : (es : List Extent) (r : List Span1) → AllByRecursion IsExtent es → needed_region scope ss g es ≡ Some r → AreSpans r
  region_limited es r extents e = needed_limited 0 es [] r extents tt e

-- ---- what is held

span_with : (d : ℕ) (s : Span1) (p : ℕ) (r : List Span1) → SpanLimited s → AreSpans r → AreSpans (with_span d s p r)
span_with d s p [] h k = tt
span_with d s p (x ∷ xs) h k = (of (p == d), span_with d s (p + 1) xs h k.1)
  where
    of : (b : Bool) → SpanLimited (if b then s else x)
    of true = h
    of false = k.0

module _ (scope : List Binding) (t : TrackText) where
  loop_limited : (x s : Span1) → SpanLimited x → over_loop scope t x ≡ Some (Some s) → SpanLimited s
  loop_limited x s h e =
      let b = bound (freed scope t.lets x) (λ held. if is_open held then Some None else (if rises t held then joined scope t x held else Some None)) (Some s) e in
      first (is_open b.value) b.value (freed_limited scope t.lets x b.value h b.is) b.comes
    where
      of_joined : (held : Span1) → SpanLimited held → joined scope t x held ≡ Some (Some s) → SpanLimited s
      of_joined held k q =
          let n = bound (new_from t.symbol held) (λ new. Some (if are_joined scope t new x.lower then Some held else None)) (Some s) q in
          let is = same (if are_joined scope t n.value x.lower then Some held else None) (Some s) n.comes in
          of (are_joined scope t n.value x.lower) is
        where
          of : (b : Bool) → (if b then Some held else None) ≡ Some s → SpanLimited s
          of true r = subst SpanLimited (same held s r) k
          of false r = absurd (cc r)

      second : (b : Bool) (held : Span1) → SpanLimited held → (if b then joined scope t x held else Some None) ≡ Some (Some s) → SpanLimited s
      second true held k q = of_joined held k q
      second false held k q = absurd (cc q)

      first : (b : Bool) (held : Span1) → SpanLimited held → (if b then Some None else (if rises t held then joined scope t x held else Some None)) ≡ Some (Some s) → SpanLimited s
      first true held k q = absurd (cc q)
      first false held k q = second (rises t held) held k q

module _ (g : StoredText) (fs : List FormulaText) (scope : List Binding) where
  told_if : (o : Option (Option Span1)) (s : Span1) → if_told o ≡ Some s → o ≡ Some (Some s)
  told_if None s e = absurd (cc e)
  told_if (Some (Some x)) s e = (let is : x ≡ s = same x s e in λ i. Some (Some (is i)))
  told_if (Some None) s e = absurd (cc e)

  freed_held : (t : TrackText) (d : ℕ) (r h : List Span1) → AreSpans r → freed_region g scope t d r ≡ Some h → AreSpans h
  freed_held t d r h limits e =
      let x = bound (slice_get r d) (λ x. if is_split g d then None else (if_told (over_loop scope t x) >>= λ s. Some (with_span d s 0 r))) h e in
      of (is_split g d) x.value (got SpanLimited r d x.value limits x.is) x.comes
    where
      of : (b : Bool) (x : Span1) → SpanLimited x → (if b then None else (if_told (over_loop scope t x) >>= λ s. Some (with_span d s 0 r))) ≡ Some h → AreSpans h
      of true x k q = absurd (cc q)
      of false x k q =
          let s = bound (if_told (over_loop scope t x)) (λ s. Some (with_span d s 0 r)) h q in
          subst AreSpans (same (with_span d s.value 0 r) h s.comes) (span_with d s.value 0 r (loop_limited scope t x s.value k (told_if (over_loop scope t x) s.value s.is)) limits)

  region_held : (t : TrackText) (d : ℕ) (r h : List Span1) → AreSpans r → held_region g fs scope t d r ≡ Some h → AreSpans h
  region_held t d r h limits e = guarded t.is_guarded e
    where
      bare : (b : Bool) → (if b then Some r else freed_region g scope t d r) ≡ Some h → AreSpans h
      bare true q = subst AreSpans (same r h q) limits
      bare false q = freed_held t d r h limits q

      single : (b : Bool) → (if not b then None else (if is_empty t.lets then Some r else freed_region g scope t d r)) ≡ Some h → AreSpans h
      single true q = bare (is_empty t.lets) q
      single false q = absurd (cc q)

      guarded : (b : Bool) → (if b then None else (if not (is_single fs) then None else (if is_empty t.lets then Some r else freed_region g scope t d r))) ≡ Some h → AreSpans h
      guarded true q = absurd (cc q)
      guarded false q = single (is_single fs) q

  along_limited : (es : List Entry) (r : List Span1) (x : TrackText × ℕ) (h : List Span1) → AreSpans r → held_along es g fs scope r x ≡ Some h → AreSpans h
  along_limited es r x h limits e = of (is_repeated scope x.0) e
    where
      held : (b : Bool) (k : List Span1) → AreSpans k → (if b then Some k else None) ≡ Some h → AreSpans h
      held true k m q = subst AreSpans (same k h q) m
      held false k m q = absurd (cc q)

      of : (b : Bool) → (if b then (held_region g fs scope x.0 x.1 r >>= if_held es g fs scope r x.0 x.1) else None) ≡ Some h → AreSpans h
      of true q =
          let k = bound (held_region g fs scope x.0 x.1 r) (if_held es g fs scope r x.0 x.1) h q in
          held (may_hold es g scope k.value x.0 x.1) k.value (region_held x.0 x.1 r k.value limits k.is) k.comes
      of false q = absurd (cc q)

  by_limited : (es : List Entry) (n : ℕ) (x : TrackText × ℕ) (r : List Span1) (o : Option (List Span1)) (held : List Span1) (later : Option LaterText) → AreSpans r →
      held_along es g fs scope r x ≡ o → HoldsBy g fs n x scope r o held later → AreSpans held
  by_limited es n x r None held later limits e h = subst AreSpans (sym h.is) limits
  by_limited es n x r (Some k) held later limits e h = subst AreSpans (sym h.is) (along_limited es r x k limits e)

  pub held_limited : (es : List Entry) (n : ℕ) (r : List Span1) (o : Option (TrackText × ℕ)) (held : List Span1) (later : Option LaterText) → AreSpans r →
      Holds es g fs n scope r o held later → AreSpans held
  held_limited es n r None held later limits h = subst AreSpans (sym h.is) limits
  held_limited es n r (Some x) held later limits h = by_limited es n x r (held_along es g fs scope r x) held later limits refl h
