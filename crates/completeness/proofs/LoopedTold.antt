-- The region of each function that is computed inside loops has forms within the limits, also where guarded splits tell it.
use Rattle.std.proofs.Common.{◌≡◌, ℕ, ◌+◌, Bool, true, false, List, [], ◌∷◌, ◌++◌, map, Option, Some, None, refl, subst}
use Rattle.std.specs.Prelude.{if◌then◌else◌, length}
use Rattle.std.specs.List.{AllByRecursion}
use Rattle.lin.specs.Regions.{span_inside}
use Rattle.lin.specs.declared.scope.Binding.{Binding}
use Rattle.lin.specs.declared.span.Span1.{Span1}
use Rattle.bounds.proofs.ListSound.{all-append}
use Rattle.meaning.specs.Algorithm.{Algorithm}
use Rattle.sched.specs.declared.numbers.Extent.{Extent}
use Rattle.sched.specs.Skeleton.{NestText}
use Rattle.sched.specs.Standing.{◌>>=◌}
use Rattle.sched.specs.declared.hosts.Spot.{Spot}
use Rattle.sched.specs.Stored.{FormulaText, StoredText}
use Rattle.sched.specs.Bounded.{whole}
use Rattle.lower.specs.Owning.{IsExtent}
use Rattle.sched.specs.Taken.{SiteText}
use Rattle.regions.specs.Taken.{add_sites}
use Rattle.sched.specs.Fetches.{Entry}
use Rattle.sched.specs.Placed.{LaterText, PlacedText}
use Rattle.regions.specs.Homes.{host_at}
use Rattle.regions.specs.Demanded.{scope_at, scope_over, stands_inside, needed_region, are_inside, better, add_better}
use Rattle.sched.specs.Demanded.{is_rounded}
use Rattle.regions.specs.Guarded.{told_nests, region_over, add_told_sites, add_told_later, add_told_inner, add_told_if, add_told_inside, told_sites_at, with_told}
use Rattle.lower.specs.Guarded.{told_region, kept}
use Rattle.lower.specs.Guarded.{kept_or_told, needed_at}
use Rattle.lower.specs.Slid.{sliding_at}
use Rattle.lower.specs.Computed.{IsComputed}
use Rattle.blocks.proofs.Laying.{bound, same}
use Rattle.completeness.proofs.Bounding.{SpanLimited}
use Rattle.completeness.proofs.LoopedLimited.{AreSpans}
use Rattle.completeness.proofs.LoopedNeeds.{SitesLimited, asked_limited, place_limited, region_limited, held_limited}

-- ---- calls, as guarded splits tell them

module _ (a : Algorithm) (x : List ℕ) (from : ℕ) where
  told_limited : (g : StoredText) (fs : List FormulaText) (scope : List Binding) (region : List Span1) (only : Option ℕ) (ns : List NestText) (before ss : List SiteText) → SitesLimited before →
      add_told_sites a x from g fs scope region only ns before ≡ Some ss → SitesLimited ss
  told_limited g fs scope region only ns before ss h e =
      let ms = bound (told_nests g scope region from ns) (λ ms. add_sites a g scope only x 0 fs ms before) ss e in asked_limited a g scope only x 0 fs ms.value before ss h ms.comes

  later_limited : (i : PlacedText) (o : Option LaterText) (before ss : List SiteText) → SitesLimited before → add_told_later a x from i o before ≡ Some ss → SitesLimited ss
  later_limited i None before ss h e = subst SitesLimited (same before ss e) h
  later_limited i (Some l) before ss h e = of (is_rounded i.function l.dimension) e
    where
      of : (b : Bool) → (if b then add_told_sites a x from i.function i.formulas l.scope i.region None l.nests before else Some before) ≡ Some ss → SitesLimited ss
      of true k = told_limited i.function i.formulas l.scope i.region None l.nests before ss h k
      of false k = subst SitesLimited (same before ss k) h

  inside_limited : (is : List PlacedText) (s : Spot) (n : ℕ) (js : List PlacedText) (before ss : List SiteText) → SitesLimited before → add_told_inside a x from is s n js before ≡ Some ss →
      SitesLimited ss
  inside_limited is s n [] before ss h e = subst SitesLimited (same before ss e) h
  inside_limited is s n (i ∷ js) before ss h e =
      let b = bound (add_told_if a x from (stands_inside is s (length is) n) i before) (add_told_inside a x from is s (n + 1) js) ss e in
      inside_limited is s (n + 1) js b.value ss (of (stands_inside is s (length is) n) b.value b.is) b.comes
    where
      of : (b : Bool) (us : List SiteText) → add_told_if a x from b i before ≡ Some us → SitesLimited us
      of true us k =
          let b = bound (add_told_sites a x from i.function i.formulas i.scope i.region None i.nests before) (add_told_later a x from i i.later) us k in
          later_limited i i.later b.value us (told_limited i.function i.formulas i.scope i.region None i.nests before b.value h b.is) b.comes
      of false us k = subst SitesLimited (same before us k) h

  at_limited : (e : Entry) (is : List PlacedText) (s : Spot) (ss : List SiteText) → told_sites_at a x from e is s ≡ Some ss → SitesLimited ss
  at_limited e is s ss q =
      let t = bound (host_at e is s.host)
      (λ t. add_told_sites a x from t.function t.formulas (scope_over e is s.host) (region_over e is s.host) s.definition t.nests [] >>= add_told_inside a x from is s 0 is) ss q in
      let b = bound (add_told_sites a x from t.value.function t.value.formulas (scope_over e is s.host) (region_over e is s.host) s.definition t.value.nests []) (add_told_inside a x from is
      s 0 is) ss t.comes in
      inside_limited is s 0 is b.value ss (told_limited t.value.function t.value.formulas (scope_over e is s.host) (region_over e is s.host) s.definition t.value.nests [] b.value tt b.is) b.comes

-- ---- what is needed

module _ (scope : List Binding) where
  better_limited : (s t w : Span1) → SpanLimited s → SpanLimited t → SpanLimited (better scope s t w)
  better_limited s t w h k = of (span_inside scope s w) (span_inside scope t w)
    where
      of : (b c : Bool) → SpanLimited (if b then s else (if c then t else s))
      of true c = h
      of false true = k
      of false false = h

  add_limited : (ss ts ws before : List Span1) → AreSpans ss → AreSpans ts → AreSpans before → AreSpans (add_better scope ss ts ws before)
  add_limited [] ts ws before h k b = b
  add_limited (s ∷ ss) [] ws before h k b = b
  add_limited (s ∷ ss) (t ∷ ts) [] before h k b = b
  add_limited (s ∷ ss) (t ∷ ts) (w ∷ ws) before h k b =
      add_limited ss ts ws (before ++ better scope s t w ∷ []) h.1 k.1 (all-append SpanLimited before (better scope s t w ∷ []) b (better_limited s t w h.0 k.0, tt))

  abbrev IfLimited : Option (List Span1) → Type 0
  IfLimited o = (r : List Span1) → o ≡ Some r → AreSpans r

  with_limited : (q : List Span1) (o : Option (List Span1)) (ws : List Span1) → AreSpans q → IfLimited o → AreSpans (with_told scope q o ws)
  with_limited q None ws h k = h
  with_limited q (Some ts) ws h k = add_limited q ts ws [] h (k ts refl) tt

  kept_limited : (ws : List Span1) (q told : Option (List Span1)) (r : List Span1) → IfLimited q → IfLimited told → kept_or_told scope ws q told ≡ Some r → AreSpans r
  kept_limited ws None told r h k e = k r e
  kept_limited ws (Some q) told r h k e = subst AreSpans (same (kept scope ws q told) r e) (of (are_inside scope q ws))
    where
      of : (b : Bool) → AreSpans (if b then q else with_told scope q told ws)
      of true = h q refl
      of false = with_limited q told ws (h q refl) k

pub inner_within : (a : Algorithm) (e : Entry) (es : List Entry) (is : List PlacedText) (c : Entry) (i : PlacedText) → AllByRecursion IsExtent c.1.region → IsComputed a e es is c i → AreSpans i.region
inner_within a e es is c i extents h =
    let scope = scope_at e is i.home in
    let sites = place_limited a e is i.home c.0.subject.name h.sites h.called in
    let told : IfLimited scope (told_region a e is i.home scope c.0 c.1.region) =
    λ r q.
    let t = bound (told_sites_at a c.0.subject.name (length scope) e is i.home) (λ ts. needed_region scope ts c.0 c.1.region) r q in
    region_limited scope t.value (at_limited a c.0.subject.name (length scope) e is i.home t.value t.is) c.0 c.1.region r extents t.comes in
    let needed = kept_limited scope (map whole c.1.region) (needed_region scope h.sites c.0 c.1.region) (told_region a e is i.home scope c.0 c.1.region) h.region
    (λ r q. region_limited scope h.sites sites c.0 c.1.region r extents q) told h.needed in
    held_limited c.0 c.2 scope es (length (scope_at e is i.store)) h.region (sliding_at e is c.0 i.home i.store h.region) i.region i.later needed h.holds
