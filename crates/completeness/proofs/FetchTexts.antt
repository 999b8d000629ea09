-- What pieces fetch has a text: the regions, and the places of buffers.
use Rattle.std.proofs.Common.{◌≡◌, ℕ, ◌+◌, ◌<◌, ◌≤◌, ◌^◌, Bool, true, false, ◌&&◌, List, [], ◌∷◌, length, Option, Some, None, refl, sym, ap, ◌∙◌, subst, arith}
use Rattle.std.specs.Prelude.{ℤ, pos, negsuc, ◌-ℤ◌, nat_le, if◌then◌else◌, slice_get}
use Rattle.std.specs.List.{AllByRecursion}
use Rattle.std.specs.Int.RustNames.{unsigned_abs}
use Rattle.std.proofs.lemmas.Bool.Decides.{nat_tests}
use Rattle.std.proofs.lemmas.Int.{ints}
use Rattle.lin.specs.Forms.{Form, number, combined, plus_multiple, is_within_limits}
use Rattle.lin.specs.declared.scope.Binding.{Binding}
use Rattle.lin.specs.declared.span.Span1.{Span1}
use Rattle.lin.proofs.TermLemmas.{all_weaker}
use Rattle.meaning.specs.Algorithm.{Algorithm}
use Rattle.meaning.specs.Conditions.{IsAlgorithm}
use Rattle.plan.specs.declared.plan.Group.{Group as CodeGroup}
use Rattle.plan.specs.declared.certificate.cert.Claim.{Claim as CodeClaim}
use Rattle.plan.specs.declared.certificate.cert.Need.{Need}
use Rattle.plan.specs.declared.stmt.Places.TheVariants.{From}
use Rattle.headline.proofs.Members.{got}
use Rattle.sched.specs.declared.numbers.Extent.{Extent}
use Rattle.sched.specs.Schedule.{Schedule}
use Rattle.sched.specs.Legal.{IsLegal}
use Rattle.sched.specs.Standing.{◌>>=◌}
use Rattle.sched.specs.Skeleton.{BodyText}
use Rattle.spelling.specs.Words.Fitting.{fits_region}
use Rattle.lower.specs.declared.lowering.Lowered.{Lowered}
use Rattle.sched.specs.Stored.{StoredText}
use Rattle.lower.specs.Stored.{stored_functions, has_large}
use Rattle.sched.specs.Around.{grid_scope}
use Rattle.regions.specs.Faults.{are_whole}
use Rattle.lower.specs.Faults.{region_fault}
use Rattle.regions.specs.Regions.{bodies_from}
use Rattle.lower.specs.Owning.{IsExtent}
use Rattle.sched.specs.Blocks.{difference}
use Rattle.sched.specs.Taken.{SiteText, shortest, run_of, places_count}
use Rattle.regions.specs.Taken.{sites_of, cut, needed_part, needed_span, is_shown, shown, seated, tight, or_all, part_of, taken_region, taken_places}
use Rattle.sched.specs.Fetches.{Entry}
use Rattle.blocks.specs.Fetches.{FetchText}
use Rattle.lower.specs.Fetches.{IsPart, fetched_groups}
use Rattle.lower.specs.Groups.{HasBody, HasGroups}
use Rattle.blocks.proofs.Laying.{bound, same}
use Rattle.lower.proofs.Dividing.{nearest, nearest_of_small, nearest_order}
use Rattle.completeness.proofs.Bodies.{other_at}
use Rattle.completeness.proofs.Bounding.{SpanLimited}
use Rattle.completeness.proofs.FetchForms.{entry_extents}
use Rattle.completeness.proofs.Needed.{taken_limited}
use Rattle.completeness.proofs.Only.{Only, SpanOnly}
use Rattle.completeness.proofs.OwnTexts.{IsGoodPlace}
use Rattle.completeness.proofs.Rising.{Rises}
use Rattle.completeness.proofs.RisingForms.{SiteRises, all_rise}
use Rattle.completeness.proofs.RisingSteps.{nests_rise}
use Rattle.completeness.proofs.RisingSpans.{IsTextSpan, needed_rises, cut_text, shown_is, taken_text}
use Rattle.completeness.proofs.Served.{roots}
use Rattle.completeness.proofs.Sited.{PlaceOnly, taken_over, seats_over}
use Rattle.sched.proofs.Arriving.{skeletal}
use Rattle.completeness.proofs.Standing.{names_own}
use Rattle.completeness.proofs.TakenSites.{Part}
use Rattle.completeness.proofs.TextForms.{AreBelow, AreOver, region_fits}

-- ---- regions

below_more : (m : ℕ) → m ≤ 1000 → (f : Form) → Only (λ s. s < m) f → AreBelow 1000 f.terms
below_more m le f h = all_weaker (λ t. t.symbol < m) (λ t. t.symbol < 1000) (λ t k. omega (arith, le, k)) f.terms h

pub span_below : (m : ℕ) → m ≤ 1000 → (s : Span1) → SpanOnly (λ i. i < m) s → AreOver s.lower × AreOver s.upper
span_below m le s h =
    (all_weaker (Only (λ i. i < m)) (λ f. AreBelow 1000 f.terms) (below_more m le) s.lower h.0, all_weaker (Only (λ i. i < m)) (λ f. AreBelow 1000 f.terms) (below_more m le) s.upper h.1)

-- ---- places

-- a run of numbers that is made is short
short_count : (n : ℕ) → unsigned_abs (difference (pos n) (pos 1)) ≤ 2 ^ 40 → n < 2 ^ 62
short_count n h = of (nat_le n (2 ^ 42)) refl
  where
    few : nat_le n (2 ^ 42) ≡ true → n ≤ 2 ^ 42
    few e = grind (arith, nat_tests, e)

    many : nat_le n (2 ^ 42) ≡ false → 2 ^ 42 < n
    many e = grind (arith, nat_tests, e)

    of : (b : Bool) → nat_le n (2 ^ 42) ≡ b → n < 2 ^ 62
    of true e = (let less = few e in omega (arith, less))
    of false e =
        let more = many e in
        let up = nearest_order (pos (2 ^ 41)) (pos n -ℤ pos 1) (omega (arith, ints, more)) in
        let same_far : nearest (pos (2 ^ 41)) ≡ pos (2 ^ 41) = nearest_of_small (pos (2 ^ 41)) (omega (arith, ints)) (omega (arith, ints)) in
        absurd (omega (arith, ints, up, same_far, h))

short_run : (n : ℤ) → unsigned_abs (difference n (pos 1)) ≤ 2 ^ 40 → places_count n < 2 ^ 62
short_run (pos n) h = short_count n h
short_run (negsuc n) h = few
  where
    few : 1 < 2 ^ 62
    few = omega arith

-- what `run_of` makes has its number within the limits
run_small : (origin : Form) (n : ℤ) (seats : Span1) → run_of origin n ≡ Some seats → unsigned_abs (difference n (pos 1)) ≤ 2 ^ 40
run_small origin n seats e =
    let b = bound (combined (number (difference n (pos 1))) (pos 1) origin) (λ last. Some (record { lower = origin ∷ []; upper = last ∷ [] })) seats e in
    of (is_within_limits (number (difference n (pos 1)))) refl b.is
  where
    number_near : (z : ℤ) → is_within_limits (number z) ≡ true → unsigned_abs z ≤ 2 ^ 40
    number_near z k = grind (arith, nat_tests, k)

    of : (v : Bool) → is_within_limits (number (difference n (pos 1))) ≡ v → {last : Form} → combined (number (difference n (pos 1))) (pos 1) origin ≡ Some last →
        unsigned_abs (difference n (pos 1)) ≤ 2 ^ 40
    of true k q = number_near (difference n (pos 1)) k
    of false k {last} q = absurd (no (sym (ap (λ (v : Bool). if (v && is_within_limits origin) && is_within_limits (plus_multiple (number (difference n (pos 1))) (pos 1) origin)
        then Some (plus_multiple (number (difference n (pos 1))) (pos 1) origin) else None) k) ∙ q))
      where
        no : None ≡ Some last → ⊥
        no r = cc r

module _ (grid : List Binding) (ss : List SiteText) (sites : AllByRecursion SiteRises ss) (m : ℕ) (le : m ≤ 1000) where
  seat_good : (d : ℕ) (e : Extent) → IsExtent e → PlaceOnly (λ s. s < m) (part_of grid ss d e).places → IsGoodPlace (part_of grid ss d e).places
  seat_good d e extent = of (tight grid ss d e) refl
    where
      good : (origin : Form) (n : ℤ) (p : Part) (v : Bool) → Rises origin → places_count n < 2 ^ 62 →
          (if v then Some (record { span = p.span; places = From origin (places_count n) }) else None) ≡ Some p →
          PlaceOnly (λ s. s < m) p.places → IsGoodPlace p.places
      good origin n p true h k q only =
          let is : From origin (places_count n) ≡ p.places = ap (λ (y : Part). y.places) (same (record { span = p.span; places = From origin (places_count n) }) p q) in
          let here : PlaceOnly (λ s. s < m) (From origin (places_count n)) = subst (PlaceOnly (λ s. s < m)) (sym is) only in
          subst IsGoodPlace is ((h, below_more m le origin here), k)
      good origin n p false h k q only = absurd (no q)
        where
          no : None ≡ Some p → ⊥
          no r = cc r

      of : (o : Option Part) → tight grid ss d e ≡ o → PlaceOnly (λ s. s < m) (or_all e o).places → IsGoodPlace (or_all e o).places
      of None q only = (let few = extent.few in ((tt, tt), omega (arith, few)))
      of (Some part) q only =
          let b = bound (needed_part grid ss d e) (seated grid ss d) part q in
          let z = bound (needed_span grid ss d) (λ s. Some (cut s e)) b.value b.is in
          let y = bound (shortest grid b.value) (λ n. slice_get b.value.lower n.0 >>= λ origin. run_of origin n.1 >>= λ seats. shown grid ss d b.value origin n.1 seats) part b.comes in
          let w = bound (slice_get b.value.lower y.value.0) (λ origin. run_of origin y.value.1 >>= λ seats. shown grid ss d b.value origin y.value.1 seats) part y.comes in
          let v = bound (run_of w.value y.value.1) (λ seats. shown grid ss d b.value w.value y.value.1 seats) part w.comes in
          let text : IsTextSpan b.value = subst IsTextSpan (same (cut z.value e) b.value z.comes) (cut_text z.value e (needed_rises grid d ss z.value sites z.is)) in
          let rises : Rises w.value = got Rises b.value.lower y.value.0 w.value text.rises.0 w.is in
          let span = shown_is grid ss d b.value w.value y.value.1 v.value part v.comes in
          good w.value y.value.1 part (is_shown grid ss d b.value v.value) rises (short_run y.value.1 (run_small w.value y.value.1 v.value v.is))
          (ap (λ (s : Span1). if is_shown grid ss d b.value v.value then Some (record { span = s; places = From w.value (places_count y.value.1) }) else None) (sym span) ∙ v.comes) only

  seats_good : (d : ℕ) (es : List Extent) → AllByRecursion IsExtent es → AllByRecursion (PlaceOnly (λ s. s < m)) (taken_places grid ss d es) → AllByRecursion IsGoodPlace (taken_places grid ss d es)
  seats_good d [] extents only = tt
  seats_good d (e ∷ es) extents only = (seat_good d e extents.0 only.0, seats_good (d + 1) es extents.1 only.1)

module _ (a : Algorithm) (sch : Schedule) (l : Lowered) (well : IsAlgorithm a) (legal : IsLegal a sch) (small : has_large (stored_functions a sch) ≡ false)
    (kept : region_fault a (stored_functions a sch) ≡ None) (all : are_whole (stored_functions a sch) ≡ true) (groups : HasGroups a (stored_functions a sch) l) where
  abbrev entries : List Entry
  entries = roots a sch l well legal small kept all groups

  module _ (n first line : ℕ) (g : StoredText) (q : CodeGroup) (claims : List CodeClaim) (needs : List Need) (h : HasBody a entries n first line g q claims needs)
      (few : length h.skeleton.grid ≤ 10) where
    abbrev grid : List Binding
    grid = grid_scope h.skeleton.grid

    abbrev bodies : List BodyText
    bodies = bodies_from g.changes 0 g.subject.reductions h.formulas

    pub region_has_text : (j : ℕ) (x : ℕ × Entry) → slice_get (fetched_groups h.formulas n 0 entries) j ≡ Some x → (f : FetchText) → IsPart (sites_of a g h.formulas h.skeleton) grid x.1 f →
        fits_region f.region ≡ true
    region_has_text j x listed f part =
        let name = x.1.0.subject.name in
        let es : List Extent = x.1.1.region in
        let ss : List SiteText = part.taken.sites in
        let found = part.taken.called in
        let other = other_at h.formulas n 0 entries j x listed in
        let extents = entry_extents a sch l well legal small kept all groups other.place x.1 other.at in
        let order = skeletal g.subject.variables bodies g.placed h.extents h.skeleton h.laid in
        let names = names_own g.subject.variables bodies g.placed h.extents h.skeleton h.laid in
        let text = taken_text a g h.formulas g.subject.variables bodies g.placed h.extents h.skeleton h.laid name ss found grid 0 es in
        let limited = taken_limited a g h.formulas h.skeleton name ss found grid 0 es extents in
        let only = taken_over a g h.formulas h.skeleton name ss order names found 0 es in
        let over = all_weaker (SpanOnly (λ s. s < length h.skeleton.grid)) (λ s. AreOver s.lower × AreOver s.upper) (span_below (length h.skeleton.grid) (omega (arith, few)))
        (taken_region grid ss 0 es) only in
        let bounded = all_weaker SpanLimited (λ (s : Span1). AllByRecursion (λ f. is_within_limits f ≡ true) s.lower × AllByRecursion (λ f. is_within_limits f ≡ true) s.upper) (λ s k. k)
        (taken_region grid ss 0 es) limited in
        subst (λ (region : List Span1). fits_region region ≡ true) (sym part.taken.region) (region_fits (taken_region grid ss 0 es) text bounded over)

    pub places_have_text : (j : ℕ) (x : ℕ × Entry) → slice_get (fetched_groups h.formulas n 0 entries) j ≡ Some x → (f : FetchText) → IsPart (sites_of a g h.formulas h.skeleton) grid x.1 f →
        AllByRecursion IsGoodPlace f.places
    places_have_text j x listed f part =
        let name = x.1.0.subject.name in
        let es : List Extent = x.1.1.region in
        let ss : List SiteText = part.taken.sites in
        let found = part.taken.called in
        let other = other_at h.formulas n 0 entries j x listed in
        let extents = entry_extents a sch l well legal small kept all groups other.place x.1 other.at in
        let order = skeletal g.subject.variables bodies g.placed h.extents h.skeleton h.laid in
        let names = names_own g.subject.variables bodies g.placed h.extents h.skeleton h.laid in
        let sites = all_rise h.skeleton a g name 0 h.formulas h.skeleton.nests [] ss (nests_rise g.subject.variables bodies g.placed h.extents h.skeleton h.laid) tt found in
        let only = seats_over a g h.formulas h.skeleton name ss order names found 0 es in
        subst (AllByRecursion IsGoodPlace) (sym part.taken.places) (seats_good grid ss sites (length h.skeleton.grid) (omega (arith, few)) 0 es extents only)
