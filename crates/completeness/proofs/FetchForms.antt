-- The forms of the lines `fetch` of whole functions are within the limits of forms.
use Rattle.std.proofs.Common.{◌≡◌, ℕ, suc, ◌+◌, true, false, List, [], ◌∷◌, ◌++◌, Some, None, refl, sym, ap, ◌∙◌, subst, arith}
use Rattle.std.specs.Prelude.{slice_get}
use Rattle.std.specs.List.{AllByRecursion}
use Rattle.lin.specs.declared.span.Span1.{Span1}
use Rattle.lin.specs.declared.scope.Binding.{Binding}
use Rattle.plan.specs.declared.plan.Group.{Group as CodeGroup}
use Rattle.plan.specs.declared.certificate.cert.Claim.{Claim as CodeClaim}
use Rattle.plan.specs.declared.certificate.cert.Need.{Need}
use Rattle.plan.specs.Plan.{Statement, Seq, For, Let, First, Guard, Alloc, Fetch, Store, Publish, Statements, Empty, Then, Group, Plan, block}
use Rattle.plan.specs.View.{group_of, plan_of, statement_of}
use Rattle.plan.specs.Lines.{block_lines, group_line}
use Rattle.meaning.specs.Algorithm.{Algorithm}
use Rattle.meaning.specs.Conditions.{IsAlgorithm}
use Rattle.soundness.specs.Outline.Flaws.{line_told}
use Rattle.headline.proofs.Lists.{from_map}
use Rattle.sched.specs.declared.skeleton.Step.{Step}
use Rattle.sched.specs.declared.skeleton.Step.TheVariants.{Turns, Named, Tested}
use Rattle.sched.specs.Schedule.{Schedule}
use Rattle.sched.specs.Legal.{IsLegal}
use Rattle.sched.specs.Runs.{lines_to}
use Rattle.sched.specs.Skeleton.{NestText}
use Rattle.validation.specs.Wide.{SpanIsWide, RegionIsWide}
use Rattle.validation.specs.Groups.Lines.{Here, start}
use Rattle.validation.specs.Groups.Inside.{Inside}
use Rattle.validation.specs.Groups.Wrong.{HasWide}
use Rattle.lower.specs.declared.lowering.Lowered.{Lowered}
use Rattle.sched.specs.Stored.{FormulaText, StoredText}
use Rattle.lower.specs.Stored.{stored_functions, has_large}
use Rattle.regions.specs.Faults.{are_whole}
use Rattle.lower.specs.Faults.{region_fault}
use Rattle.sched.specs.Around.{grid_scope}
use Rattle.lower.specs.Owning.{IsExtent}
use Rattle.regions.specs.Taken.{sites_of, taken_region}
use Rattle.sched.specs.Loading.{Loads}
use Rattle.blocks.specs.Blocks.{dimensions_of, own_places}
use Rattle.lower.specs.Bodies.{last_claim}
use Rattle.blocks.specs.Bodies.{IsStore, AreNests}
use Rattle.sched.specs.Fetches.{Entry}
use Rattle.blocks.specs.Fetches.{FetchText, with_fetches}
use Rattle.lower.specs.Fetches.{IsPart, AreFetched, fetched_groups}
use Rattle.lower.specs.Groups.{HasBody, HasGroups}
use Rattle.lower.proofs.Extents.{region_is}
use Rattle.completeness.specs.Laws.{IsFetch, IsWideInside, FetchFormsAreWithin}
use Rattle.completeness.proofs.Bodies.{other_at, entry_at}
use Rattle.completeness.proofs.Served.{ls as regions_found, roots, ready, made_at}
use Rattle.completeness.proofs.Unlike.{Clear, ClearAll, none_inside, joined_clear, placed_body}
use Rattle.completeness.proofs.Scoped.{any_none}
use Rattle.completeness.proofs.Bounding.{SpanLimited}
use Rattle.completeness.proofs.Needed.{taken_limited}
use Rattle.completeness.proofs.LimitedLines.{span_not_wide}

abbrev P : Statement → Type 0
P s = IsFetch s × HasWide s

steps_clear : (ss : List Step) (inner : Statements) → ClearAll P inner → ClearAll P (lines_to ss inner)
steps_clear [] inner k = k
steps_clear (Turns i x kind ∷ ss) inner k = (((λ w. w.0), steps_clear ss inner k), tt)
steps_clear (Named i pick fs ∷ ss) inner k = ((λ w. w.0), steps_clear ss inner k)
steps_clear (Tested low high ∷ ss) inner k = (((λ w. w.0), steps_clear ss inner k), tt)

store_clear : (g : StoredText) (fs : List FormulaText) (ms : Loads) (d : ℕ) (w : NestText) (s : Statement) → IsStore g fs ms d w s → ClearAll P (Then s Empty)
store_clear g fs ms d w (Store b k cs e) is = ((λ w. w.0), tt)
store_clear g fs ms d w (Seq xs) is = absurd is
store_clear g fs ms d w (For j x kind body) is = absurd is
store_clear g fs ms d w (Let j pick forms) is = absurd is
store_clear g fs ms d w (First j x y) is = absurd is
store_clear g fs ms d w (Guard low high body) is = absurd is
store_clear g fs ms d w (Alloc b x places) is = absurd is
store_clear g fs ms d w (Fetch b x region) is = absurd is
store_clear g fs ms d w (Publish x) is = absurd is

nests_clear : (g : StoredText) (fs : List FormulaText) (r : List Span1) (ms : Loads) (m at_line d : ℕ) (ns : List NestText) (xs : List Statement) (cs : List CodeClaim) →
    AreNests g fs r ms m at_line d ns xs cs → ClearAll P (block xs)
nests_clear g fs r ms m at_line d [] xs cs is = subst (λ (ys : List Statement). ClearAll P (block ys)) (sym is.0) tt
nests_clear g fs r ms m at_line d (w ∷ ns) xs [] is = absurd is
nests_clear g fs r ms m at_line d (w ∷ ns) xs (v ∷ cs) is =
    let nest = is.here.nest in
    let here : ClearAll P (block is.first) = subst (ClearAll P) (sym nest.comes) (steps_clear w.steps (Then nest.store Empty) (store_clear g fs ms d w nest.store nest.stores)) in
    let rest = nests_clear g fs r (ms ++ (g.subject.name, m) ∷ []) (m + 1) (at_line + block_lines (block is.first)) (d + 1) ns is.others cs is.behind in
    subst (λ (ys : List Statement). ClearAll P (block ys)) (sym is.are) (joined_clear P is.first is.others here rest)

abbrev NotWide : FetchText → Type 0
NotWide f = RegionIsWide f.region → ⊥

fetches_clear : (fs : List FetchText) (rest : List Statement) → AllByRecursion NotWide fs → ClearAll P (block rest) → ClearAll P (block (with_fetches fs rest))
fetches_clear [] rest h k = k
fetches_clear (f ∷ fs) rest h k = ((λ w. w.0), ((λ w. h.0 w.1), fetches_clear fs rest h.1 k))

region_not_wide : (ss : List Span1) → AllByRecursion SpanLimited ss → RegionIsWide ss → ⊥
region_not_wide ss h w = any_none SpanLimited SpanIsWide (λ x k v. span_not_wide x k.0 k.1 v) ss h w

-- ---- groups

module _ (a : Algorithm) (sch : Schedule) (l : Lowered) (well : IsAlgorithm a) (legal : IsLegal a sch) (small : has_large (stored_functions a sch) ≡ false)
    (kept : region_fault a (stored_functions a sch) ≡ None) (all : are_whole (stored_functions a sch) ≡ true) (groups : HasGroups a (stored_functions a sch) l) where
  abbrev p : Plan
  p = plan_of l.plan

  abbrev entries : List Entry
  entries = roots a sch l well legal small kept all groups

  -- the region of each of the groups
  pub entry_extents : (place : ℕ) (e : Entry) → slice_get entries place ≡ Some e → AllByRecursion IsExtent e.1.region
  entry_extents place e at =
      let entry = entry_at (stored_functions a sch) (regions_found a sch l well legal small kept all groups) all (ready a sch l well legal small kept all groups) place e at in
      (region_is a (stored_functions a sch) place e.0 e.1 entry.is entry.laid).extents

  module _ (n first line : ℕ) (g : StoredText) (q : CodeGroup) (claims : List CodeClaim) (needs : List Need) (h : HasBody a entries n first line g q claims needs) where
    abbrev grid : List Binding
    grid = grid_scope h.skeleton.grid

    abbrev listed_groups : List (ℕ × Entry)
    listed_groups = fetched_groups h.formulas n 0 entries

    one_fits : (j : ℕ) (x : ℕ × Entry) → slice_get listed_groups j ≡ Some x → (f : FetchText) → IsPart (sites_of a g h.formulas h.skeleton) grid x.1 f → NotWide f
    one_fits j x listed f part wide =
        let other = other_at h.formulas n 0 entries j x listed in
        let extents = entry_extents other.place x.1 other.at in
        let limited = taken_limited a g h.formulas h.skeleton x.1.0.subject.name part.taken.sites part.taken.called grid 0 x.1.1.region extents in
        region_not_wide (taken_region grid part.taken.sites 0 x.1.1.region) limited (subst RegionIsWide part.taken.region wide)

    all_fit : (d b own_line : ℕ) (xs : List (ℕ × Entry)) (ts : List FetchText) (ws : List Need) (cs : List CodeClaim) →
        AreFetched (sites_of a g h.formulas h.skeleton) grid n b own_line xs ts ws cs → ((j : ℕ) (x : ℕ × Entry) → slice_get xs j ≡ Some x → slice_get listed_groups (d + j) ≡ Some x) →
        AllByRecursion NotWide ts
    all_fit d b own_line [] [] [] [] is listed = tt
    all_fit d b own_line [] [] [] (w ∷ cs) is listed = absurd is
    all_fit d b own_line [] [] (w ∷ ws) cs is listed = absurd is
    all_fit d b own_line [] (f ∷ ts) ws cs is listed = absurd is
    all_fit d b own_line (x ∷ xs) [] ws cs is listed = absurd is
    all_fit d b own_line (x ∷ xs) (f ∷ ts) [] cs is listed = absurd is
    all_fit d b own_line (x ∷ xs) (f ∷ ts) (w ∷ ws) [] is listed = absurd is
    all_fit d b own_line (x ∷ xs) (f ∷ ts) (w ∷ ws) (v ∷ cs) is listed = (
      one_fits (d + 0) x (listed 0 x refl) f is.1,
      all_fit (d + 1) (b + 1) (own_line + 2) xs ts ws cs is.2 (λ j y e. let next : d + suc j ≡ (d + 1) + j = omega arith in ap (slice_get listed_groups) (sym next) ∙ listed (suc j) y e),
    )

    body_clear : Clear P (statement_of q.body)
    body_clear =
        let b = h.body in
        let publish : List Statement = Publish (last_claim first b.fetches h.skeleton) ∷ [] in
        let nests = nests_clear g h.formulas _ _ _ _ 0 h.skeleton.nests b.nests b.own b.nested in
        let every = all_fit 0 1 _ listed_groups b.fetches needs b.fetched b.fetching (λ j x e. let none : 0 + j ≡ j = omega arith in ap (slice_get listed_groups) none ∙ e) in
        let inner = fetches_clear b.fetches (b.nests ++ publish) every (joined_clear P b.nests publish nests ((λ w. w.0), tt)) in
        subst (Clear P) (sym b.with.is)
        (steps_clear h.skeleton.head (block (Alloc 0 g.subject.name (own_places (dimensions_of g h.extents h.skeleton)) ∷ with_fetches b.fetches (b.nests ++ publish))) ((λ w. w.0), inner))

  none_at : (line : ℕ) → IsWideInside IsFetch p line → ⊥
  none_at line h =
      let x = from_map group_of l.plan.groups.items h.number h.group h.there in
      let q = x.0 in
      let me = made_at a sch l well legal small kept all groups h.number q x.1 in
      let b = placed_body a entries l.certificate.claims.items 0 0 4 (stored_functions a sch) l.plan.groups.items l.certificate.claims.items l.certificate.needs.items (groups.bodies all)
      (λ j v e. let none : 0 + j ≡ j = omega arith in ap (slice_get l.certificate.claims.items) none ∙ e) h.number me.stored q me.is x.1 in
      let clear = body_clear (0 + h.number) b.first_claim b.line me.stored q b.claims b.needs b.body in
      let begun : Group → Here = λ u. start (line_told (group_line p h.number)) u in
      let stands = subst (λ (u : Group). Inside (λ s here. (line_told here.line ≡ line) × P s) u.body (begun u)) x.2 h.stands in
      none_inside P line (statement_of q.body) clear (begun (group_of q)) stands

pub within : FetchFormsAreWithin
within a s l well legal small regions groups all line h = none_at a s l well legal small (regions all).0 all groups line h
