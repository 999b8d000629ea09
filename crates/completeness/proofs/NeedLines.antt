-- What a need line names is known: the pieces of another group, told by symbols of its own group's grid.
use Rattle.std.proofs.Common.{◌≡◌, ℕ, suc, ◌+◌, ◌<◌, Bool, true, false, List, [], ◌∷◌, length, map, Option, Some, None, refl, sym, ap, ◌∙◌, subst, arith}
use Rattle.std.specs.Prelude.{◌==◌, ◌&&◌, if◌then◌else◌, slice_get}
use Rattle.std.specs.List.{AllByRecursion}
use Rattle.lin.specs.declared.span.Span1.{Span1}
use Rattle.plan.specs.declared.plan.Group.{Group as CodeGroup}
use Rattle.plan.specs.declared.certificate.cert.Need.{Need}
use Rattle.plan.specs.Plan.{Group}
use Rattle.plan.specs.View.{group_of, plan_of}
use Rattle.meaning.specs.Algorithm.{Algorithm}
use Rattle.meaning.specs.Conditions.{IsAlgorithm}
use Rattle.soundness.specs.Claims.{In}
use Rattle.soundness.specs.Outline.Forms.{spans_are_over, grid_symbols}
use Rattle.soundness.proofs.Refines.{eq_refl}
use Rattle.sched.specs.Schedule.{Schedule}
use Rattle.sched.specs.declared.numbers.Extent.{Extent}
use Rattle.sched.specs.declared.numbers.Numbers.{Numbers}
use Rattle.sched.specs.declared.placing.Loop.{Loop}
use Rattle.sched.specs.Placing.{is_parallel}
use Rattle.sched.specs.Numbers.{loop_numbers, parallel_loops, grid_counts, or_one}
use Rattle.sched.specs.Legal.{IsLegal}
use Rattle.sched.specs.Skeleton.{SkeletonText}
use Rattle.sched.proofs.Arriving.{skeletal}
use Rattle.headline.proofs.Lists.{at_map}
use Rattle.validation.specs.Certificate.Certificate.{is_need_of, need_is_known}
use Rattle.lower.specs.declared.lowering.Lowered.{Lowered}
use Rattle.sched.specs.Stored.{StoredText}
use Rattle.lower.specs.Stored.{stored_functions, has_large}
use Rattle.regions.specs.Regions.{bodies_from, skeleton_of}
use Rattle.sched.specs.Around.{grid_scope}
use Rattle.regions.specs.Faults.{are_whole}
use Rattle.lower.specs.Faults.{region_fault}
use Rattle.regions.specs.Taken.{sites_of}
use Rattle.regions.specs.Needs.{loops_needed, turns_needed, first_count, other_counts, or_one_piece, pieces_needed}
use Rattle.lower.specs.Fetches.{fetched_groups}
use Rattle.lower.specs.Groups.{HasGroups}
use Rattle.lower.specs.Owning.{IsLaidBy}
use Rattle.lower.proofs.Grids.{head_of}
use Rattle.completeness.proofs.Only.{SpanOnly}
use Rattle.completeness.proofs.Standing.{names_own}
use Rattle.completeness.proofs.Sited.{taken_over, pieces_only}
use Rattle.completeness.proofs.Gridded.{spans_over}
use Rattle.completeness.proofs.Bodies.{need_of, need_at}
use Rattle.completeness.proofs.Owned.{same_extents, same_skeleton}
use Rattle.completeness.proofs.Served.{roots, made_at, IsNeeding, needing}

some_same : {A : Type 0} (x y : A) → Some x ≡ Some y → x ≡ y
some_same x y e = cc e

-- ---- as many spans as parallel loops

counts_long : (rs : List Numbers) (ls : List Loop) → length (grid_counts rs ls) ≡ length ls
counts_long rs [] = refl
counts_long rs (l ∷ ls) = ap suc (counts_long rs ls)

one_long : (ss : List Span1) (ns : List ℕ) → length ss ≡ length ns → length (or_one_piece ss) ≡ length (or_one ns)
one_long [] [] e = refl
one_long [] (n ∷ ns) e = absurd (omega (arith, e))
one_long (s ∷ ss) [] e = absurd (omega (arith, e))
one_long (s ∷ ss) (n ∷ ns) e = e

module _ (g : StoredText) (region : List Extent) (taken : List Span1) where
  loops_long : (ls : List Loop) (counts : List ℕ) → length (loops_needed g region taken ls counts) ≡ length (parallel_loops ls)
  loops_long [] counts = refl
  loops_long (l ∷ ls) counts = of (is_parallel l) (loops_long ls (other_counts counts)) (loops_long ls counts)
    where
      of : (b : Bool) → length (loops_needed g region taken ls (other_counts counts)) ≡ length (parallel_loops ls) → length (loops_needed g region taken ls counts) ≡ length (parallel_loops ls) →
          length (if b then turns_needed g region taken l (first_count counts) ∷ loops_needed g region taken ls (other_counts counts) else loops_needed g region taken ls counts)
          ≡ length (if b then l ∷ parallel_loops ls else parallel_loops ls)
      of true h k = ap suc h
      of false h k = k

  pieces_long : (k : SkeletonText) → IsLaidBy g region k → length (pieces_needed g region k.grid taken) ≡ length k.grid
  pieces_long k laid =
      let rs = loop_numbers g.subject.variables g.placed.cuts region in
      let ls = parallel_loops g.placed.loops in
      let head = head_of g.subject.variables (bodies_from g.changes 0 g.subject.reductions laid.formulas) g.placed region k laid.laid in
      one_long (loops_needed g region taken g.placed.loops k.grid) (grid_counts rs ls) (loops_long g.placed.loops k.grid ∙ sym (counts_long rs ls)) ∙ sym (ap length head.grid)

-- ---- need lines

module _ (a : Algorithm) (sch : Schedule) (l : Lowered) (well : IsAlgorithm a) (legal : IsLegal a sch) (small : has_large (stored_functions a sch) ≡ false)
    (kept : region_fault a (stored_functions a sch) ≡ None) (all : are_whole (stored_functions a sch) ≡ true) (groups : HasGroups a (stored_functions a sch) l) where
  abbrev stored : List StoredText
  stored = stored_functions a sch

  abbrev made : List CodeGroup
  made = l.plan.groups.items

  -- the line's group has this grid
  record IsOfGroup (w : Need) : Type 0 where
    place : ℕ
    group : CodeGroup
    grid : List ℕ
    at : slice_get made place ≡ Some group
    is : group.grid.items ≡ grid
    needs : IsNeeding a sch l well legal small kept all groups place w
    over : AllByRecursion (SpanOnly (λ s. s < length grid)) needs.taken

  of_group : (w : Need) → In w l.certificate.needs.items → IsOfGroup w
  of_group w m =
      let o = need_of a (roots a sch l well legal small kept all groups) 0 0 4 stored made l.certificate.claims.items l.certificate.needs.items (groups.bodies all) w m in
      let n = 0 + o.place in
      let counted : 0 + o.place ≡ o.place = omega arith in
      let g = o.stored in
      let fs = o.body.formulas in
      let k = o.body.skeleton in
      let body = o.body.body in
      let r = need_at (sites_of a g fs k) (grid_scope k.grid) n 1 _ (fetched_groups fs n 0 (roots a sch l well legal small kept all groups)) body.fetches
      o.own_needs body.fetched body.fetching w o.among in
      let x = needing a sch l well legal small kept all groups n g (ap (slice_get stored) counted ∙ o.at) fs k o.body.defined o.own_needs r.0 r.1 in
      let me = made_at a sch l well legal small kept all groups o.place o.group o.there in
      let same : me.stored ≡ g = some_same me.stored g (sym me.is ∙ o.at) in
      let defined : me.stored.formulas ≡ Some fs = ap (λ (u : StoredText). u.formulas) same ∙ o.body.defined in
      let laid : skeleton_of me.stored fs o.body.extents ≡ Some k = ap (λ (u : StoredText). skeleton_of u fs o.body.extents) same ∙ o.body.laid in
      let extents = same_extents a sch l well legal small kept all groups o.place o.group me.laid o.body.extents o.there me.found o.body.region in
      let skeleton = same_skeleton a sch l well legal small kept all groups o.place me.stored me.laid fs o.body.extents k me.is me.found defined extents laid in
      let order = skeletal g.subject.variables (bodies_from g.changes 0 g.subject.reductions fs) g.placed o.body.extents k o.body.laid in
      let names = names_own g.subject.variables (bodies_from g.changes 0 g.subject.reductions fs) g.placed o.body.extents k o.body.laid in
      let taken = r.1.part.taken in
      let only = taken_over a g fs k r.1.group.1.0.subject.name taken.sites order names taken.called 0 r.1.group.1.1.region in
      let over : AllByRecursion (SpanOnly (λ s. s < length k.grid)) x.0.taken = subst (AllByRecursion (SpanOnly (λ s. s < length k.grid))) (sym (x.2 ∙ taken.region)) only in
      let here : IsOfGroup r.1.need = record {
        place = n;
        group = o.group;
        grid = k.grid;
        at = ap (slice_get made) counted ∙ o.there;
        is = me.grid ∙ ap (λ (s : SkeletonText). s.grid) skeleton;
        needs = x.0;
        over = over;
      } in
      subst IsOfGroup r.2 here

  pub need_known : (w : Need) → In w l.certificate.needs.items → need_is_known (plan_of l.plan).groups w ≡ true
  need_known w m =
      let x = of_group w m in
      let y = x.needs in
      let u = y.made in
      let own : slice_get (map group_of made) w.group ≡ Some (group_of x.group) = ap (slice_get (map group_of made)) y.by ∙ at_map group_of made x.place x.group x.at in
      let other : slice_get (map group_of made) w.needed ≡ Some (group_of y.group) = ap (slice_get (map group_of made)) y.of ∙ at_map group_of made y.h y.group y.at_h in
      let only = pieces_only (λ s. s < length x.grid) u.stored u.laid.region y.taken x.over u.laid.skeleton.grid in
      let told : spans_are_over (grid_symbols (length x.grid)) w.region ≡ true =
      ap (spans_are_over (grid_symbols (length x.grid))) y.region ∙ spans_over (length x.grid) (pieces_needed u.stored u.laid.region u.laid.skeleton.grid y.taken) only in
      let over : spans_are_over (grid_symbols (length x.group.grid.items)) w.region ≡ true = ap (λ (ns : List ℕ). spans_are_over (grid_symbols (length ns)) w.region) x.is ∙ told in
      let long : length w.region ≡ length y.group.grid.items = ap length y.region ∙ pieces_long u.stored u.laid.region y.taken u.laid.skeleton u.laid_by ∙ sym (ap length u.grid) in
      let test : (length w.region == length y.group.grid.items) ≡ true = ap (λ (n : ℕ). n == length y.group.grid.items) long ∙ eq_refl (length y.group.grid.items) in
      ap (λ (o : Option Group). is_need_of o (slice_get (map group_of made) w.needed) w.region) own
      ∙ ap (λ (o : Option Group). is_need_of (Some (group_of x.group)) o w.region) other
      ∙ ap (λ (b : Bool). b && spans_are_over (grid_symbols (length x.group.grid.items)) w.region) test ∙ over
