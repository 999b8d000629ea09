-- What pieces own, and what their claims speak of, has a text, in plans whose loops are split once, by whatever tails.
use Rattle.std.proofs.Common.{◌≡◌, ℕ, ◌<◌, true, List, [], ◌∷◌, length, Some, None, false, arith}
use Rattle.std.specs.Prelude.{slice_get}
use Rattle.std.specs.List.{AllByRecursion}
use Rattle.lin.specs.declared.span.Span1.{Span1}
use Rattle.lin.proofs.TermLemmas.{all_weaker}
use Rattle.meaning.specs.Algorithm.{Algorithm}
use Rattle.meaning.specs.Conditions.{IsAlgorithm}
use Rattle.plan.specs.declared.plan.Group.{Group as CodeGroup}
use Rattle.spelling.specs.Words.Fitting.{fits_region}
use Rattle.sched.specs.Schedule.{Schedule}
use Rattle.sched.specs.Legal.{IsLegal}
use Rattle.sched.specs.declared.skeleton.Known.{Known}
use Rattle.sched.specs.Skeleton.{SkeletonText}
use Rattle.lower.specs.declared.lowering.Lowered.{Lowered}
use Rattle.sched.specs.Stored.{StoredText}
use Rattle.lower.specs.Stored.{stored_functions, has_large}
use Rattle.regions.specs.Faults.{are_whole}
use Rattle.lower.specs.Faults.{region_fault}
use Rattle.blocks.specs.Blocks.{dimensions_of, owned_region, claimed_region, own_places}
use Rattle.lower.specs.Groups.{HasGroups}
use Rattle.completeness.specs.Owed.{IsNearSpan, IsWithinSpan}
use Rattle.completeness.specs.Fitting.{IsSplitOnce}
use Rattle.completeness.proofs.FewLines.{rises_to, stood}
use Rattle.completeness.proofs.FewLoops.{IsShort}
use Rattle.completeness.proofs.NearClaims.{span_within, group_near}
use Rattle.completeness.proofs.NumberLines.{over_below}
use Rattle.completeness.proofs.Only.{Only}
use Rattle.completeness.proofs.OwnTexts.{IsGoodForm, IsGood, IsGoodPlace, own_said, region_said, places_said}
use Rattle.completeness.proofs.Rising.{Rises}
use Rattle.completeness.proofs.RisingSpans.{IsTextSpan}
use Rattle.completeness.proofs.Served.{made_at}
use Rattle.completeness.proofs.Standing.{OverGrid}
use Rattle.completeness.proofs.TextForms.{AreOver, region_fits}

pub spans_fit : (ss : List Span1) → AllByRecursion IsGood ss → AllByRecursion IsWithinSpan ss → fits_region ss ≡ true
spans_fit ss good within =
    region_fits ss (all_weaker IsGood IsTextSpan (λ s h. h.0) ss good) within (all_weaker IsGood (λ s. AreOver s.lower × AreOver s.upper) (λ s h. (h.1, h.2)) ss good)

-- the first numbers of blocks over the grid
starts_good : {names : List Known} {k : SkeletonText} → IsShort names k → AllByRecursion (λ u. IsGoodForm u.form) k.starts
starts_good {names} {k} h = each k.starts h.starts h.own.starts
  where
    below : (s : ℕ) → OverGrid k s → s < 1000
    below s there =
        let grid = h.grid in
        let symbols = h.few_symbols in
        let next = rises_to (length k.grid) h.own.next k.head h.own.rises in
        over_below k h.grid h.own.next h.own.rises (omega (arith, grid, symbols, next)) s there

    each : (us : List Known) → AllByRecursion (λ u. Rises u.form) us → AllByRecursion (λ u. Only (OverGrid k) u.form) us → AllByRecursion (λ u. IsGoodForm u.form) us
    each [] rises only = tt
    each (u ∷ us) rises only =
        ((rises.0, all_weaker (λ t. OverGrid k t.symbol) (λ t. t.symbol < 1000) (λ t q. below t.symbol q) u.form.terms only.0), each us rises.1 only.1)

module _ (a : Algorithm) (sch : Schedule) (l : Lowered) (well : IsAlgorithm a) (legal : IsLegal a sch) (small : has_large (stored_functions a sch) ≡ false)
    (kept : region_fault a (stored_functions a sch) ≡ None) (all : are_whole (stored_functions a sch) ≡ true) (groups : HasGroups a (stored_functions a sch) l)
    (once : (n : ℕ) (u : StoredText) → slice_get (stored_functions a sch) n ≡ Some u → IsSplitOnce u) where
  -- of a group's own claims, of what its pieces own, and the places of its buffer
  pub group_texts : (n : ℕ) (q : CodeGroup) (there : slice_get l.plan.groups.items n ≡ Some q) → let me = made_at a sch l well legal small kept all groups n q there in
      (fits_region (claimed_region (dimensions_of me.stored me.laid.region me.laid.skeleton)) ≡ true)
      × (fits_region (owned_region (dimensions_of me.stored me.laid.region me.laid.skeleton)) ≡ true)
      × AllByRecursion IsGoodPlace (own_places (dimensions_of me.stored me.laid.region me.laid.skeleton))
  group_texts n q there =
      let me = made_at a sch l well legal small kept all groups n q there in
      let mine = once n me.stored me.is in
      let r = stood a sch l well legal small kept all groups once n q there in
      let starts = starts_good r.short in
      let near = group_near a sch l well legal small kept all groups once n q there in
      let claimed = own_said me.stored me.laid.region me.laid.skeleton me.laid_by r.narrow mine.once mine.inners starts r.short.known in
      let owned = region_said me.stored me.laid.region me.laid.skeleton me.laid_by r.narrow mine.once mine.inners starts r.short.known in
      let places = places_said me.stored me.laid.region me.laid.skeleton me.laid_by r.narrow mine.once mine.inners starts r.short.known in (
        spans_fit (claimed_region (dimensions_of me.stored me.laid.region me.laid.skeleton)) claimed
            (all_weaker IsNearSpan IsWithinSpan span_within (claimed_region (dimensions_of me.stored me.laid.region me.laid.skeleton)) near.0),
        spans_fit (owned_region (dimensions_of me.stored me.laid.region me.laid.skeleton)) owned
            (all_weaker IsNearSpan IsWithinSpan span_within (owned_region (dimensions_of me.stored me.laid.region me.laid.skeleton)) near.1),
        places,
      )
