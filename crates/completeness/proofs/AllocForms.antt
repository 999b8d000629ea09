-- The origins of the lines `alloc` of whole functions are within the limits of forms; so no form of a line of a group is out of them.
use Rattle.std.proofs.Common.{◌≡◌, ℕ, zero, suc, ◌+◌, true, false, List, [], ◌∷◌, ◌++◌, Some, None, refl, sym, ap, ◌∙◌, subst, inl, inr, arith}
use Rattle.std.specs.Prelude.{slice_get}
use Rattle.std.specs.List.{AllByRecursion, Any}
use Rattle.lin.specs.declared.span.Span1.{Span1}
use Rattle.lin.specs.declared.scope.Binding.{Binding}
use Rattle.plan.specs.declared.plan.Group.{Group as CodeGroup}
use Rattle.plan.specs.declared.stmt.Places.{Places}
use Rattle.plan.specs.declared.stmt.Places.TheVariants.{From, Folded}
use Rattle.plan.specs.declared.certificate.cert.Claim.{Claim as CodeClaim}
use Rattle.plan.specs.declared.certificate.cert.Need.{Need}
use Rattle.plan.specs.Plan.{Statement, Seq, For, Let, First, Guard, Alloc, Fetch, Store, Publish, Statements, Empty, Then, Group, Plan, block}
use Rattle.plan.specs.View.{group_of, plan_of, statement_of}
use Rattle.plan.specs.Lines.{block_lines, group_line}
use Rattle.meaning.specs.Algorithm.{Function, Algorithm}
use Rattle.meaning.specs.Conditions.{IsAlgorithm}
use Rattle.soundness.specs.Outline.Flaws.{line_told}
use Rattle.headline.proofs.Lists.{from_map}
use Rattle.sched.specs.declared.skeleton.Step.{Step}
use Rattle.sched.specs.declared.skeleton.Step.TheVariants.{Turns, Named, Tested}
use Rattle.sched.specs.Schedule.{Schedule}
use Rattle.sched.specs.Legal.{IsLegal, said, loops_after}
use Rattle.sched.specs.Runs.{lines_to}
use Rattle.sched.specs.Skeleton.{NestText}
use Rattle.validation.specs.Groups.Lines.{Here, start}
use Rattle.validation.specs.Groups.Inside.{Inside, StandsIn}
use Rattle.validation.specs.Groups.Wrong.{OriginIsWide, HasWide}
use Rattle.lower.specs.declared.lowering.Lowered.{Lowered}
use Rattle.sched.specs.Stored.{FormulaText, StoredText}
use Rattle.lower.specs.Stored.{stored_functions, has_large}
use Rattle.blocks.specs.Stored.{flags}
use Rattle.regions.specs.Faults.{are_whole}
use Rattle.lower.specs.Faults.{region_fault}
use Rattle.blocks.specs.Planned.{told_dimensions}
use Rattle.lower.specs.Planned.{unplanned}
use Rattle.sched.specs.Around.{grid_scope}
use Rattle.regions.specs.Taken.{sites_of, taken_places}
use Rattle.sched.specs.Loading.{Loads}
use Rattle.blocks.specs.Blocks.{dimensions_of, own_places}
use Rattle.lower.specs.Bodies.{last_claim}
use Rattle.blocks.specs.Bodies.{IsStore, AreNests}
use Rattle.sched.specs.Fetches.{Entry}
use Rattle.blocks.specs.Fetches.{FetchText, with_fetches}
use Rattle.lower.specs.Fetches.{IsPart, AreFetched, fetched_groups}
use Rattle.lower.specs.Groups.{HasBody, HasGroups}
use Rattle.completeness.specs.Laws.{IsNestLine, IsAlloc, IsFetch, IsWideInside, AllocFormsAreWithin, FormsAreWithin}
use Rattle.completeness.proofs.Laid.{subjects, found}
use Rattle.completeness.proofs.Bodies.{other_at, entry_at, entry_there}
use Rattle.completeness.proofs.Served.{ls as regions_found, roots, ready, made_at}
use Rattle.completeness.proofs.Limited.{first_limited}
use Rattle.completeness.proofs.Unlike.{Clear, ClearAll, none_inside, joined_clear, placed_body}
use Rattle.completeness.proofs.Scoped.{any_none}
use Rattle.completeness.proofs.KnownLines.{of_kind}
use Rattle.completeness.proofs.Needed.{PlaceLimited, seated_within}
use Rattle.completeness.proofs.OwnPlaces.{own_limited, dimensions_told}
use Rattle.completeness.proofs.Owned.{same_extents, same_skeleton}
use Rattle.completeness.proofs.LimitedLines.{not_wide, extents_are, text, has_names, limited, begin_within}
use Rattle.completeness.proofs.LimitedLines.{within as nests_within}
use Rattle.completeness.proofs.FetchForms.{entry_extents}
use Rattle.completeness.proofs.FetchForms.{within as fetches_within}

abbrev P : Statement → Type 0
P s = IsAlloc s × HasWide s

steps_clear : (ss : List Step) (inner : Statements) → ClearAll P inner → ClearAll P (lines_to ss inner)
steps_clear [] inner k = k
steps_clear (Turns i x kind ∷ ss) inner k = (((λ w. w.0), steps_clear ss inner k), tt)
steps_clear (Named i pick fs ∷ ss) inner k = ((λ w. w.0), steps_clear ss inner k)
steps_clear (Tested low high ∷ ss) inner k = (((λ w. w.0), steps_clear ss inner k), tt)

store_clear : (g : StoredText) (fs : List FormulaText) (ms : Loads) (d : ℕ) (w : NestText) (s : Statement) → IsStore g fs ms d w s → ClearAll P (Then s Empty)
store_clear g fs ms d w (Store b k cs e) is = ((λ w. w.0), tt)
store_clear g fs ms d w (Seq xs) is = absurd is
store_clear g fs ms d w (For j x kind body) is = absurd is
store_clear g fs ms d w (Let j pick forms) is = absurd is
store_clear g fs ms d w (First j x y) is = absurd is
store_clear g fs ms d w (Guard low high body) is = absurd is
store_clear g fs ms d w (Alloc b x places) is = absurd is
store_clear g fs ms d w (Fetch b x region) is = absurd is
store_clear g fs ms d w (Publish x) is = absurd is

nests_clear : (g : StoredText) (fs : List FormulaText) (r : List Span1) (ms : Loads) (m at_line d : ℕ) (ns : List NestText) (xs : List Statement) (cs : List CodeClaim) →
    AreNests g fs r ms m at_line d ns xs cs → ClearAll P (block xs)
nests_clear g fs r ms m at_line d [] xs cs is = subst (λ (ys : List Statement). ClearAll P (block ys)) (sym is.0) tt
nests_clear g fs r ms m at_line d (w ∷ ns) xs [] is = absurd is
nests_clear g fs r ms m at_line d (w ∷ ns) xs (v ∷ cs) is =
    let nest = is.here.nest in
    let here : ClearAll P (block is.first) = subst (ClearAll P) (sym nest.comes) (steps_clear w.steps (Then nest.store Empty) (store_clear g fs ms d w nest.store nest.stores)) in
    let rest = nests_clear g fs r (ms ++ (g.subject.name, m) ∷ []) (m + 1) (at_line + block_lines (block is.first)) (d + 1) ns is.others cs is.behind in
    subst (λ (ys : List Statement). ClearAll P (block ys)) (sym is.are) (joined_clear P is.first is.others here rest)

place_not_wide : (x : Places) → PlaceLimited x → OriginIsWide x → ⊥
place_not_wide (From f n) h w = not_wide f h w
place_not_wide (Folded n) h w = w

places_not_wide : (ps : List Places) → AllByRecursion PlaceLimited ps → Any OriginIsWide ps → ⊥
places_not_wide ps h w = any_none PlaceLimited OriginIsWide place_not_wide ps h w

abbrev NotWide : FetchText → Type 0
NotWide f = Any OriginIsWide f.places → ⊥

fetches_clear : (fs : List FetchText) (rest : List Statement) → AllByRecursion NotWide fs → ClearAll P (block rest) → ClearAll P (block (with_fetches fs rest))
fetches_clear [] rest h k = k
fetches_clear (f ∷ fs) rest h k = ((λ w. h.0 w.1), ((λ w. w.0), fetches_clear fs rest h.1 k))

-- ---- groups

module _ (a : Algorithm) (sch : Schedule) (l : Lowered) (well : IsAlgorithm a) (legal : IsLegal a sch) (small : has_large (stored_functions a sch) ≡ false)
    (kept : region_fault a (stored_functions a sch) ≡ None) (all : are_whole (stored_functions a sch) ≡ true) (groups : HasGroups a (stored_functions a sch) l)
    (planned : unplanned a (stored_functions a sch) ≡ None) where
  abbrev p : Plan
  p = plan_of l.plan

  abbrev entries : List Entry
  entries = roots a sch l well legal small kept all groups

  abbrev T : Function → StoredText
  T f = text a sch l well legal small kept all groups f

  module _ (n first line : ℕ) (g : StoredText) (q : CodeGroup) (claims : List CodeClaim) (needs : List Need) (h : HasBody a entries n first line g q claims needs) where
    abbrev grid : List Binding
    grid = grid_scope h.skeleton.grid

    abbrev listed_groups : List (ℕ × Entry)
    listed_groups = fetched_groups h.formulas n 0 entries

    one_fits : (j : ℕ) (x : ℕ × Entry) → slice_get listed_groups j ≡ Some x → (f : FetchText) → IsPart (sites_of a g h.formulas h.skeleton) grid x.1 f → NotWide f
    one_fits j x listed f part wide =
        let other = other_at h.formulas n 0 entries j x listed in
        let extents = entry_extents a sch l well legal small kept all groups other.place x.1 other.at in
        let seats = seated_within a g h.formulas h.skeleton x.1.0.subject.name part.taken.sites part.taken.called grid 0 x.1.1.region extents in
        places_not_wide (taken_places grid part.taken.sites 0 x.1.1.region) seats (subst (λ (ps : List Places). Any OriginIsWide ps) part.taken.places wide)

    all_fit : (d b own_line : ℕ) (xs : List (ℕ × Entry)) (ts : List FetchText) (ws : List Need) (cs : List CodeClaim) →
        AreFetched (sites_of a g h.formulas h.skeleton) grid n b own_line xs ts ws cs → ((j : ℕ) (x : ℕ × Entry) → slice_get xs j ≡ Some x → slice_get listed_groups (d + j) ≡ Some x) →
        AllByRecursion NotWide ts
    all_fit d b own_line [] [] [] [] is listed = tt
    all_fit d b own_line [] [] [] (w ∷ cs) is listed = absurd is
    all_fit d b own_line [] [] (w ∷ ws) cs is listed = absurd is
    all_fit d b own_line [] (f ∷ ts) ws cs is listed = absurd is
    all_fit d b own_line (x ∷ xs) [] ws cs is listed = absurd is
    all_fit d b own_line (x ∷ xs) (f ∷ ts) [] cs is listed = absurd is
    all_fit d b own_line (x ∷ xs) (f ∷ ts) (w ∷ ws) [] is listed = absurd is
    all_fit d b own_line (x ∷ xs) (f ∷ ts) (w ∷ ws) (v ∷ cs) is listed = (
      one_fits (d + 0) x (listed 0 x refl) f is.1,
      all_fit (d + 1) (b + 1) (own_line + 2) xs ts ws cs is.2 (λ j y e. let next : d + suc j ≡ (d + 1) + j = omega arith in ap (slice_get listed_groups) (sym next) ∙ listed (suc j) y e),
    )

    body_clear : AllByRecursion PlaceLimited (own_places (dimensions_of g h.extents h.skeleton)) → Clear P (statement_of q.body)
    body_clear own =
        let b = h.body in
        let publish : List Statement = Publish (last_claim first b.fetches h.skeleton) ∷ [] in
        let nests = nests_clear g h.formulas _ _ _ _ 0 h.skeleton.nests b.nests b.own b.nested in
        let every = all_fit 0 1 _ listed_groups b.fetches needs b.fetched b.fetching (λ j x e. let none : 0 + j ≡ j = omega arith in ap (slice_get listed_groups) none ∙ e) in
        let inner = fetches_clear b.fetches (b.nests ++ publish) every (joined_clear P b.nests publish nests ((λ w. w.0), tt)) in
        let places : List Places = own_places (dimensions_of g h.extents h.skeleton) in
        subst (Clear P) (sym b.with.is)
        (steps_clear h.skeleton.head (block (Alloc 0 g.subject.name places ∷ with_fetches b.fetches (b.nests ++ publish))) ((λ w. places_not_wide places own w.1), inner))

  module _ (n : ℕ) (q : CodeGroup) (place : ℕ) (f : Function) (at : slice_get a.functions place ≡ Some f) (there : slice_get (stored_functions a sch) n ≡ Some (T f)) (first line : ℕ)
      (claims : List CodeClaim) (needs : List Need) (theirs : slice_get l.plan.groups.items n ≡ Some q) (h : HasBody a entries n first line (T f) q claims needs) where
    pub own_places_limited : AllByRecursion PlaceLimited (own_places (dimensions_of (T f) h.extents h.skeleton))
    own_places_limited =
        let named = has_names a sch l well legal small kept all groups n q place f at there first line claims needs theirs h in
        let forms = limited a sch l well legal small kept all groups n q place f at there first line claims needs theirs h in
        let stored = stored_functions a sch in
        let regions = regions_found a sch l well legal small kept all groups in
        let formed = ready a sch l well legal small kept all groups in
        let found = entry_there stored regions all formed n (T f) there in
        let e = found.0 in
        let entry = entry_at stored regions all formed n e found.1 in
        let told = dimensions_told a stored regions planned n e found.1 in
        let extents : e.1.region ≡ h.extents = same_extents a sch l well legal small kept all groups n q e.1 h.extents theirs entry.laid h.region in
        let skeleton : e.1.skeleton ≡ h.skeleton =
        same_skeleton a sch l well legal small kept all groups n (T f) e.1 h.formulas h.extents h.skeleton there entry.laid h.defined extents h.laid in
        let over : told_dimensions e.0 e.1.region e.1.skeleton ≡ told_dimensions (T f) h.extents h.skeleton = (λ i. told_dimensions (found.2 i) (extents i) (skeleton i)) in
        let sizes = extents_are a sch l well legal small kept all groups n q theirs h.extents h.region in
        own_limited (T f) h.extents h.skeleton told.0 (sym over ∙ told.1) forms.known forms.starts (first_limited f.variables (loops_after (said sch) f).cuts h.extents named.factors sizes)

    all_clear : Clear P (statement_of q.body)
    all_clear = body_clear n first line (T f) q claims needs h own_places_limited

  none_at : (line : ℕ) → IsWideInside IsAlloc p line → ⊥
  none_at line h =
      let x = from_map group_of l.plan.groups.items h.number h.group h.there in
      let q = x.0 in
      let me = made_at a sch l well legal small kept all groups h.number q x.1 in
      let w = found a sch (flags (subjects a sch)) me.stored a.functions h.number me.is in
      let b = placed_body a entries l.certificate.claims.items 0 0 4 (stored_functions a sch) l.plan.groups.items l.certificate.claims.items l.certificate.needs.items (groups.bodies all)
      (λ j v e. let none : 0 + j ≡ j = omega arith in ap (slice_get l.certificate.claims.items) none ∙ e) h.number me.stored q me.is x.1 in
      let counted : 0 + h.number ≡ h.number = omega arith in
      let there : slice_get (stored_functions a sch) h.number ≡ Some (T w.function) = me.is ∙ ap (λ (u : StoredText). Some u) w.is in
      let body = subst (λ (u : StoredText). HasBody a entries h.number b.first_claim b.line u q b.claims b.needs) w.is
      (subst (λ (i : ℕ). HasBody a entries i b.first_claim b.line me.stored q b.claims b.needs) counted b.body) in
      let clear = all_clear h.number q w.place w.function w.at there b.first_claim b.line b.claims b.needs x.1 body in
      let begun : Group → Here = λ u. start (line_told (group_line p h.number)) u in
      let stands = subst (λ (u : Group). Inside (λ s here. (line_told here.line ≡ line) × P s) u.body (begun u)) x.2 h.stands in
      none_inside P line (statement_of q.body) clear (begun (group_of q)) stands

pub within : AllocFormsAreWithin
within a s l well legal small regions groups all line h = none_at a s l well legal small (regions all).0 all groups (regions all).1 line h

-- ---- all lines

abbrev IsOf : ℕ → Statement → Type 0
IsOf zero = IsNestLine
IsOf (suc zero) = IsAlloc
IsOf (suc (suc k)) = IsFetch

module _ (line : ℕ) where
  abbrev At : Statement → Here → Type 0
  At s here = (line_told here.line ≡ line) × HasWide s

  abbrev AtKind : ℕ → Statement → Here → Type 0
  AtKind k s here = (line_told here.line ≡ line) × (IsOf k s × HasWide s)

  kind_of : (s : Statement) (here : Here) → At s here → (k : ℕ) × AtKind k s here
  kind_of (Seq all) here h = absurd h.1
  kind_of (For i x kind body) here h = (0, (h.0, (inl tt, h.1)))
  kind_of (Let i pick forms) here h = (0, (h.0, (inl tt, h.1)))
  kind_of (First i x y) here h = (0, (h.0, (inl tt, h.1)))
  kind_of (Guard low high body) here h = (0, (h.0, (inl tt, h.1)))
  kind_of (Alloc b f places) here h = (1, (h.0, (tt, h.1)))
  kind_of (Fetch b u region) here h = (2, (h.0, (tt, h.1)))
  kind_of (Store b k at e) here h = (0, (h.0, (inr tt, h.1)))
  kind_of (Publish k) here h = absurd h.1

some_kind : (p : Plan) (line : ℕ) → StandsIn p (λ n g s here. HasWide s) line → (k : ℕ) × IsWideInside (IsOf k) p line
some_kind p line h =
    let r = of_kind (At line) (AtKind line) (kind_of line) h.group.body _ h.stands in
    (r.0, record { number = h.number; group = h.group; there = h.there; stands = r.1 })

pub all_within : FormsAreWithin
all_within a s l well legal small regions groups all line (inl h) = begin_within a s l well legal small regions groups all line h
all_within a s l well legal small regions groups all line (inr h) = of r.0 r.1
  where
    r : (k : ℕ) × IsWideInside (IsOf k) (plan_of l.plan) line
    r = some_kind (plan_of l.plan) line h

    of : (k : ℕ) → IsWideInside (IsOf k) (plan_of l.plan) line → ⊥
    of zero k = nests_within a s l well legal small regions groups all line k
    of (suc zero) k = within a s l well legal small regions groups all line k
    of (suc (suc j)) k = fetches_within a s l well legal small regions groups all line k
