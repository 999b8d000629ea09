-- What of the skeletons of groups has a text, in plans whose loops are split once, by whatever tails.
use Rattle.std.proofs.Common.{◌≡◌, ℕ, true, List, Some, None, false, sym, ◌∙◌, subst}
use Rattle.std.specs.Prelude.{slice_get}
use Rattle.std.specs.List.{AllByRecursion}
use Rattle.meaning.specs.Algorithm.{Algorithm}
use Rattle.meaning.specs.Conditions.{IsAlgorithm}
use Rattle.plan.specs.declared.plan.Group.{Group as CodeGroup}
use Rattle.plan.specs.declared.certificate.cert.Claim.{Claim as CodeClaim}
use Rattle.plan.specs.declared.certificate.cert.Need.{Need}
use Rattle.spelling.specs.Words.Fitting.{fits_region}
use Rattle.sched.specs.Schedule.{Schedule}
use Rattle.sched.specs.Legal.{IsLegal}
use Rattle.sched.specs.declared.numbers.Extent.{Extent}
use Rattle.sched.specs.Numbers.{loop_numbers, parallel_loops}
use Rattle.sched.specs.Skeleton.{SkeletonText, grid_forms}
use Rattle.sched.specs.declared.skeleton.Known.{Known}
use Rattle.lower.specs.declared.lowering.Lowered.{Lowered}
use Rattle.sched.specs.Stored.{StoredText}
use Rattle.lower.specs.Stored.{stored_functions, has_large}
use Rattle.regions.specs.Faults.{are_whole}
use Rattle.lower.specs.Faults.{region_fault}
use Rattle.blocks.specs.Blocks.{dimensions_of, claimed_region, own_places}
use Rattle.sched.specs.Fetches.{Entry}
use Rattle.lower.specs.Groups.{HasBody, HasGroups}
use Rattle.completeness.specs.Fitting.{IsSplitOnce}
use Rattle.completeness.proofs.FewLines.{stood}
use Rattle.completeness.proofs.FewLoops.{IsShort}
use Rattle.completeness.proofs.GroupTexts.{group_texts}
use Rattle.completeness.proofs.OwnTexts.{IsGoodPlace}
use Rattle.completeness.proofs.Owned.{some_same, same_extents, same_skeleton}
use Rattle.completeness.proofs.Served.{roots, made_at}

-- few steps; the region of its own claims, and the places of its own buffer
pub record IsStoodText (u : StoredText) (es : List Extent) (k : SkeletonText) : Type 0 where
  pub names : List Known
  pub short : IsShort names k
  pub claimed : fits_region (claimed_region (dimensions_of u es k)) ≡ true
  pub places : AllByRecursion IsGoodPlace (own_places (dimensions_of u es k))

module _ (a : Algorithm) (sch : Schedule) (l : Lowered) (well : IsAlgorithm a) (legal : IsLegal a sch) (small : has_large (stored_functions a sch) ≡ false)
    (kept : region_fault a (stored_functions a sch) ≡ None) (all : are_whole (stored_functions a sch) ≡ true) (groups : HasGroups a (stored_functions a sch) l)
    (once : (n : ℕ) (u : StoredText) → slice_get (stored_functions a sch) n ≡ Some u → IsSplitOnce u) where
  abbrev entries : List Entry
  entries = roots a sch l well legal small kept all groups

  made_text : (n : ℕ) (q : CodeGroup) (there : slice_get l.plan.groups.items n ≡ Some q) →
      let me = made_at a sch l well legal small kept all groups n q there in IsStoodText me.stored me.laid.region me.laid.skeleton
  made_text n q there =
      let me = made_at a sch l well legal small kept all groups n q there in
      let r = stood a sch l well legal small kept all groups once n q there in
      let texts = group_texts a sch l well legal small kept all groups once n q there in
      record {
        names = grid_forms (loop_numbers me.stored.subject.variables me.stored.placed.cuts me.laid.region) 0 (parallel_loops me.stored.placed.loops);
        short = r.short;
        claimed = texts.0;
        places = texts.2;
      }

  -- of each body of a group
  pub stood_text : (i : ℕ) (u : StoredText) (q : CodeGroup) → slice_get (stored_functions a sch) i ≡ Some u → slice_get l.plan.groups.items i ≡ Some q → (n first line : ℕ)
      (claims : List CodeClaim) (needs : List Need) (h : HasBody a entries n first line u q claims needs) → IsStoodText u h.extents h.skeleton
  stood_text i u q at theirs n first line claims needs h =
      let me = made_at a sch l well legal small kept all groups i q theirs in
      let stored : me.stored ≡ u = some_same me.stored u (sym me.is ∙ at) in
      let extents : me.laid.region ≡ h.extents = same_extents a sch l well legal small kept all groups i q me.laid h.extents theirs me.found h.region in
      let skeleton : me.laid.skeleton ≡ h.skeleton =
      same_skeleton a sch l well legal small kept all groups i u me.laid h.formulas h.extents h.skeleton at me.found h.defined extents h.laid in
      subst (λ (y : SkeletonText). IsStoodText u h.extents y) skeleton
      (subst (λ (es : List Extent). IsStoodText u es me.laid.skeleton) extents
      (subst (λ (y : StoredText). IsStoodText y me.laid.region me.laid.skeleton) stored (made_text i q theirs)))
