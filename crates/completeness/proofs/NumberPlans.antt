-- The numbers in the lines of a plan have a text, where its loops are split once, by whatever tails.
use Rattle.std.proofs.Common.{◌≡◌, ℕ, suc, ◌+◌, ◌^◌, true, false, List, [], ◌∷◌, length, map, Some, None, refl, sym, ap, ◌∙◌, subst, arith}
use Rattle.std.specs.Prelude.{nat_lt, slice_get}
use Rattle.std.specs.List.{AllByRecursion}
use Rattle.std.proofs.lemmas.Option.{slice_get_within}
use Rattle.meaning.specs.Algorithm.{Algorithm}
use Rattle.meaning.specs.Conditions.{IsAlgorithm}
use Rattle.meaning.specs.Image.View.{AreExtents}
use Rattle.plan.specs.declared.plan.Group.{Group as CodeGroup}
use Rattle.plan.specs.declared.certificate.cert.Claim.{Claim as CodeClaim}
use Rattle.plan.specs.Plan.{Group}
use Rattle.plan.specs.View.{group_of, plan_of, statement_of}
use Rattle.spelling.specs.Words.Fitting.{fits_region}
use Rattle.spelling.specs.Sizes.Sizes.{fits_sizes}
use Rattle.nest.specs.Blocks.Flat.{statement_lines, group_lines, groups_lines, plan_lines}
use Rattle.headline.proofs.Lists.{from_map}
use Rattle.sched.specs.Schedule.{Schedule}
use Rattle.sched.specs.Legal.{IsLegal}
use Rattle.sched.specs.declared.numbers.Extent.{Extent}
use Rattle.sched.specs.Numbers.{loop_numbers, parallel_loops, grid_counts, or_one}
use Rattle.lower.specs.declared.lowering.Lowered.{Lowered}
use Rattle.sched.specs.Stored.{StoredText}
use Rattle.lower.specs.Stored.{stored_functions, has_large}
use Rattle.blocks.specs.Stored.{flags}
use Rattle.sched.specs.Bounded.{whole}
use Rattle.regions.specs.Faults.{are_whole}
use Rattle.lower.specs.Faults.{region_fault}
use Rattle.lower.specs.Planned.{unplanned}
use Rattle.lower.specs.Owning.{IsExtent}
use Rattle.sched.specs.Fetches.{Entry}
use Rattle.lower.specs.Groups.{HasBody, HasGroups}
use Rattle.lower.proofs.Owners as owners
use Rattle.completeness.specs.Fitting.{IsSplitOnce}
use Rattle.completeness.proofs.Counts.{functions_few}
use Rattle.completeness.proofs.GridCounts.{IsShort, grid_few}
use Rattle.completeness.proofs.Laid.{subjects, found}
use Rattle.completeness.proofs.LimitedLines.{text, extents_are}
use Rattle.completeness.proofs.Needed.{whole_limited}
use Rattle.completeness.proofs.Bounding.{SpanLimited}
use Rattle.completeness.proofs.NumberBodies.{body_numbered}
use Rattle.completeness.proofs.NumberLines.{both, less, Numbered, joined}
use Rattle.completeness.proofs.RisingSpans.{IsTextSpan, whole_text}
use Rattle.completeness.proofs.Served.{roots, made_at}
use Rattle.completeness.proofs.TextForms.{AreOver, region_fits}
use Rattle.completeness.proofs.Unlike.{placed_body}

-- ---- lists of numbers

sizes_fit : (ns : List ℕ) → AllByRecursion IsShort ns → fits_sizes ns ≡ true
sizes_fit [] h = refl
sizes_fit (n ∷ ns) h = (let short = h.0 in both _ _ (less n (2 ^ 63) (omega (arith, short))) (sizes_fit ns h.1))

extents_fit : (ns : List ℕ) → AreExtents ns → fits_sizes ns ≡ true
extents_fit [] h = absurd h
extents_fit (w ∷ []) h = (let wide = h.1 in sizes_fit (w ∷ []) (omega (arith, wide), tt))
extents_fit (w ∷ t ∷ []) h = (let wide = h.0.1 in let tall = h.1.1 in sizes_fit (w ∷ t ∷ []) (omega (arith, wide), (omega (arith, tall), tt)))
extents_fit (w ∷ t ∷ c ∷ []) h =
    let wide = h.0.1 in
    let tall = h.1.1 in
    let three = h.2 in
    sizes_fit (w ∷ t ∷ c ∷ []) (omega (arith, wide), (omega (arith, tall), (omega (arith, three), tt)))
extents_fit (w ∷ t ∷ c ∷ d ∷ ns) h = absurd h

-- ---- lines `group`

region_text : (es : List Extent) → AllByRecursion IsExtent es → fits_region (map whole es) ≡ true
region_text es h = region_fits (map whole es) (texts es) (limits es h) (overs es)
  where
    texts : (es : List Extent) → AllByRecursion IsTextSpan (map whole es)
    texts [] = tt
    texts (e ∷ es) = (whole_text e, texts es)

    limits : (es : List Extent) → AllByRecursion IsExtent es → AllByRecursion SpanLimited (map whole es)
    limits [] h = tt
    limits (e ∷ es) h = (whole_limited e h.0, limits es h.1)

    overs : (es : List Extent) → AllByRecursion (λ s. AreOver s.lower × AreOver s.upper) (map whole es)
    overs [] = tt
    overs (e ∷ es) = (((tt, tt), (tt, tt)), overs es)

some_counts : (ns : List ℕ) → nat_lt 0 (length (or_one ns)) ≡ true
some_counts [] = refl
some_counts (n ∷ ns) = less 0 (suc (length ns)) (omega arith)

-- groups with few numbers before them
groups_numbered : (n : ℕ) (gs : List Group) → ((i : ℕ) (g : Group) → slice_get gs i ≡ Some g → Numbered (group_lines (n + i) g)) → Numbered (groups_lines n gs)
groups_numbered n [] each = refl
groups_numbered n (g ∷ gs) each =
    let none : n + 0 ≡ n = omega arith in
    let here : Numbered (group_lines n g) = subst (λ (i : ℕ). Numbered (group_lines i g)) none (each 0 g refl) in
    joined (group_lines n g) (groups_lines (n + 1) gs) here
    (groups_numbered (n + 1) gs (λ i u at. let next : n + suc i ≡ (n + 1) + i = omega arith in subst (λ (j : ℕ). Numbered (group_lines j u)) next (each (suc i) u at)))

module _ (a : Algorithm) (sch : Schedule) (l : Lowered) (well : IsAlgorithm a) (legal : IsLegal a sch) (small : has_large (stored_functions a sch) ≡ false)
    (kept : region_fault a (stored_functions a sch) ≡ None) (all : are_whole (stored_functions a sch) ≡ true) (groups : HasGroups a (stored_functions a sch) l)
    (planned : unplanned a (stored_functions a sch) ≡ None) (once : (n : ℕ) (u : StoredText) → slice_get (stored_functions a sch) n ≡ Some u → IsSplitOnce u) where
  abbrev entries : List Entry
  entries = roots a sch l well legal small kept all groups

  abbrev claims_made : List CodeClaim
  claims_made = l.certificate.claims.items

  body_lines : (n : ℕ) (q : CodeGroup) → slice_get l.plan.groups.items n ≡ Some q → Numbered (statement_lines (statement_of q.body))
  body_lines n q theirs =
      let me = made_at a sch l well legal small kept all groups n q theirs in
      let w = found a sch (flags (subjects a sch)) me.stored a.functions n me.is in
      let b = placed_body a entries claims_made 0 0 4 (stored_functions a sch) l.plan.groups.items claims_made l.certificate.needs.items (groups.bodies all)
      (λ j v e. let none : 0 + j ≡ j = omega arith in ap (slice_get claims_made) none ∙ e) n me.stored q me.is theirs in
      let counted : 0 + n ≡ n = omega arith in
      let said_text = text a sch l well legal small kept all groups w.function in
      let there : slice_get (stored_functions a sch) n ≡ Some said_text = me.is ∙ ap (λ (u : StoredText). Some u) w.is in
      let body = subst (λ (u : StoredText). HasBody a entries n b.first_claim b.line u q b.claims b.needs) w.is
      (subst (λ (i : ℕ). HasBody a entries i b.first_claim b.line me.stored q b.claims b.needs) counted b.body) in
      body_numbered a sch l well legal small kept all groups planned once n q w.place w.function w.at there b.first_claim b.line b.claims b.needs theirs body b.numbered

  group_numbered : (n : ℕ) (q : CodeGroup) → slice_get l.plan.groups.items n ≡ Some q → Numbered (group_lines n (group_of q))
  group_numbered n q theirs =
      let me = made_at a sch l well legal small kept all groups n q theirs in
      let place = slice_get_within (stored_functions a sch) n me.stored me.is in
      let most = functions_few a sch l well legal small kept all groups in
      let extents = extents_are a sch l well legal small kept all groups n q theirs me.laid.region me.region in
      let region : fits_region q.region ≡ true = ap fits_region me.region ∙ region_text me.laid.region extents in
      let head = owners.head me.stored me.laid.region me.laid.skeleton me.laid_by in
      let counts : List ℕ = grid_counts (loop_numbers me.stored.subject.variables me.stored.placed.cuts me.laid.region) (parallel_loops me.stored.placed.loops) in
      let some : nat_lt 0 (length q.grid.items) ≡ true = ap (λ (ns : List ℕ). nat_lt 0 (length ns)) (me.grid ∙ head.grid) ∙ some_counts counts in
      let sizes : fits_sizes q.grid.items ≡ true = ap fits_sizes me.grid ∙ sizes_fit me.laid.skeleton.grid (grid_few me.stored me.laid.region me.laid.skeleton me.laid_by) in
      let number : nat_lt n (2 ^ 32) ≡ true = less n (2 ^ 32) (omega (arith, place, most)) in
      both _ _ (both _ _ (both _ _ (both _ _ number region) some) sizes) (body_lines n q theirs)

  pub plan_numbered : Numbered (plan_lines (plan_of l.plan))
  plan_numbered =
      let input : fits_sizes l.plan.input.extents.items ≡ true = ap fits_sizes groups.head.input.extents ∙ extents_fit a.input_extents well.input_extents in
      let output : fits_sizes l.plan.output.extents.items ≡ true = ap fits_sizes groups.head.output.extents ∙ extents_fit a.output_extents well.output_extents in
      let each = groups_numbered 0 (plan_of l.plan).groups (λ i g at.
      let x = from_map group_of l.plan.groups.items i g at in
      let none : i ≡ 0 + i = omega arith in
      subst (λ (j : ℕ). Numbered (group_lines j g)) none (subst (λ (u : Group). Numbered (group_lines i u)) (sym x.2) (group_numbered i x.0 x.1))) in
      both _ _ input (both _ _ output each)
