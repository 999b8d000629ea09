-- The forms of lines `group` of whole functions, and of their loops, lets, guards and stores, are within the limits of forms.
use Rattle.std.proofs.Common.{◌≡◌, ℕ, zero, suc, ◌+◌, Bool, true, false, List, [], ◌∷◌, ◌++◌, map, Option, Some, None, refl, sym, ap, ◌∙◌, subst, inl, inr, ◌⊎◌, arith}
use Rattle.std.specs.Prelude.{slice_get, IsSomeAnd}
use Rattle.std.specs.List.{AllByRecursion, Any}
use Rattle.std.proofs.lemmas.List.Elements.{recursion_from_All}
use Rattle.tree.specs.Term.{Term}
use Rattle.lin.specs.Forms.{Form}
use Rattle.lin.specs.declared.span.Span1.{Span1}
use Rattle.plan.specs.declared.plan.Group.{Group as CodeGroup}
use Rattle.plan.specs.declared.certificate.cert.Claim.{Claim as CodeClaim}
use Rattle.plan.specs.declared.certificate.cert.Need.{Need}
use Rattle.plan.specs.Plan.{Index, At, Found, Coordinate, Statement, Seq, For, Let, First, Guard, Alloc, Fetch, Store, Publish, Statements, Empty, Then, Group, Plan, block}
use Rattle.plan.specs.View.{group_of, plan_of, statement_of}
use Rattle.plan.specs.Lines.{block_lines, group_line}
use Rattle.meaning.specs.Algorithm.{Change, Function, Algorithm}
use Rattle.meaning.specs.Conditions.{IsRange, IsAlgorithm}
use Rattle.meaning.proofs.Back.{update_is}
use Rattle.soundness.specs.Outline.Flaws.{line_told}
use Rattle.headline.proofs.Lists.{from_map}
use Rattle.sched.specs.declared.numbers.Extent.{Extent}
use Rattle.sched.specs.declared.skeleton.Step.{Step}
use Rattle.sched.specs.declared.skeleton.Step.TheVariants.{Turns, Named, Tested}
use Rattle.sched.specs.Schedule.{Schedule}
use Rattle.sched.specs.Legal.{IsLegal, said, loops_after}
use Rattle.sched.specs.Placing.{PlacedText}
use Rattle.sched.specs.Subjects.{subject_said, reductions_of}
use Rattle.sched.specs.Runs.{lines_to}
use Rattle.sched.specs.Skeleton.{NestText}
use Rattle.validation.specs.Wide.{IsWide, SpanIsWide, RegionIsWide}
use Rattle.validation.specs.Groups.Lines.{Here, start}
use Rattle.validation.specs.Groups.Inside.{Inside, Begins}
use Rattle.validation.specs.Groups.Wrong.{IndexIsWide, HasWide}
use Rattle.validation.proofs.Wide.{wide_form}
use Rattle.lower.specs.declared.lowering.Lowered.{Lowered}
use Rattle.sched.specs.Stored.{FormulaText, StoredText}
use Rattle.blocks.specs.Stored.{stored_by, flags}
use Rattle.lower.specs.Stored.{stored_functions, has_large}
use Rattle.regions.specs.Regions.{bodies_from}
use Rattle.sched.specs.Bounded.{whole}
use Rattle.lower.specs.Owning.{IsExtent}
use Rattle.regions.specs.Faults.{are_whole}
use Rattle.lower.specs.Faults.{region_fault}
use Rattle.sched.specs.Around.{ranges_of, names_with}
use Rattle.sched.specs.Loading.{Loads}
use Rattle.blocks.specs.Blocks.{dimensions_of, own_places}
use Rattle.sched.specs.Bodies.{first_left, other_lefts}
use Rattle.blocks.specs.Bodies.{IsIndex, AreCoordinates, IsStore, AreNests}
use Rattle.lower.specs.Bodies.{last_claim}
use Rattle.sched.specs.Fetches.{Entry}
use Rattle.blocks.specs.Fetches.{FetchText, with_fetches}
use Rattle.lower.specs.Groups.{HasBody, HasGroups}
use Rattle.lower.proofs.Extents.{region_is}
use Rattle.completeness.specs.Laws.{IsNestLine, IsWideInside, GroupFormsAreWithin, NestFormsAreWithin}
use Rattle.completeness.proofs.Laid.{subjects, found, arranged}
use Rattle.completeness.proofs.Owned.{same_extents}
use Rattle.completeness.proofs.Served.{roots, made_at}
use Rattle.completeness.proofs.Unlike.{Clear, ClearAll, none_inside, joined_clear, placed_body}
use Rattle.completeness.proofs.Scoped.{any_none}
use Rattle.completeness.proofs.Halves.{IsNamed, named}
use Rattle.completeness.proofs.Limited.{Limited, AreLimited, LimitedIf, StepIs, IsNestLimited, IsLimited, bodies_small, skeleton_limited}
use Rattle.completeness.proofs.Needed.{whole_limited}

-- ---- lists of forms

pub not_wide : (f : Form) → Limited f → IsWide f → ⊥
not_wide f h w = (let clash : true ≡ false = sym h ∙ wide_form f w in cc clash)

pub none_wide : (fs : List Form) → AreLimited fs → Any IsWide fs → ⊥
none_wide fs h w = any_none Limited IsWide not_wide fs h w

pub span_not_wide : (x : Span1) → AreLimited x.lower → AreLimited x.upper → SpanIsWide x → ⊥
span_not_wide x h k (inl w) = none_wide x.lower h w
span_not_wide x h k (inr w) = none_wide x.upper k w

-- ---- lines `group`

extent_not_wide : (e : Extent) → IsExtent e → SpanIsWide (whole e) → ⊥
extent_not_wide e h w = (let ends = whole_limited e h in span_not_wide (whole e) ends.0 ends.1 w)

pub region_not_wide : (es : List Extent) → AllByRecursion IsExtent es → RegionIsWide (map whole es) → ⊥
region_not_wide es h w = any_none (λ x. SpanIsWide x → ⊥) SpanIsWide (λ x p r. p r) (map whole es) (each es h) w
  where
    each : (es : List Extent) → AllByRecursion IsExtent es → AllByRecursion (λ x. SpanIsWide x → ⊥) (map whole es)
    each [] h = tt
    each (e ∷ es) h = (extent_not_wide e h.0, each es h.1)

-- ---- steps and stores

abbrev pub P : Statement → Type 0
P s = IsNestLine s × HasWide s

neither : ⊥ ⊎ ⊥ → ⊥
neither (inl x) = x
neither (inr x) = x

pub steps_clear : (ss : List Step) (inner : Statements) → AllByRecursion StepIs ss → ClearAll P inner → ClearAll P (lines_to ss inner)
steps_clear [] inner h k = k
steps_clear (Turns i x kind ∷ ss) inner h k = (((λ w. span_not_wide x h.0.0 h.0.1 w.1), steps_clear ss inner h.1 k), tt)
steps_clear (Named i pick fs ∷ ss) inner h k = ((λ w. none_wide fs h.0.0 w.1), steps_clear ss inner h.1 k)
steps_clear (Tested low high ∷ ss) inner h k = ((wide, steps_clear ss inner h.1 k), tt)
  where
    wide : P (Guard low high (Seq (lines_to ss inner))) → ⊥
    wide (one, inl w) = not_wide low h.0.0 w
    wide (one, inr w) = not_wide high h.0.1 w

module _ (ms : Loads) where
  index_not_wide : (o : Option Form) (left : Option Term) (i : Index) → LimitedIf o → IsIndex ms o left i → IndexIsWide i → ⊥
  index_not_wide (Some f) left (At g) h e w = not_wide f h (subst IsWide e w)
  index_not_wide (Some f) left (Found e) h q w = w
  index_not_wide None left (At g) h e w = absurd e
  index_not_wide None left (Found e) h q w = w

  indices_not_wide : (xs : List (List ℕ)) (os : List (Option Form)) (lefts : List (Option Term)) (cs : List Coordinate) → AreCoordinates ms xs os lefts cs → AllByRecursion LimitedIf os →
      AllByRecursion (λ x. IndexIsWide x.index → ⊥) cs
  indices_not_wide xs [] lefts [] h limited = tt
  indices_not_wide xs [] lefts (c ∷ cs) h limited = absurd h
  indices_not_wide [] (o ∷ os) lefts cs h limited = absurd h
  indices_not_wide (x ∷ xs) (o ∷ os) lefts [] h limited = absurd h
  indices_not_wide (x ∷ xs) (o ∷ os) lefts (c ∷ cs) h limited = (index_not_wide o (first_left lefts) c.index limited.0 h.1, indices_not_wide xs os (other_lefts lefts) cs h.2 limited.1)

store_clear : (g : StoredText) (fs : List FormulaText) (ms : Loads) (d : ℕ) (w : NestText) → AllByRecursion LimitedIf w.at → (s : Statement) → IsStore g fs ms d w s → ClearAll P (Then s Empty)
store_clear g fs ms d w limited (Store b k cs e) is =
    let u = some_of (slice_get fs d) is.2 in
    let clear = indices_not_wide ms (names_with g.variables g.changes d) w.at u.0.at cs u.1.at limited in
    ((λ wide. any_none (λ x. IndexIsWide x.index → ⊥) (λ x. IndexIsWide x.index) (λ x p r. p r) cs clear wide.1), tt)
  where
    some_of : {R : FormulaText → Type 0} (o : Option FormulaText) → IsSomeAnd o R → (x : FormulaText) × R x
    some_of None h = absurd h
    some_of (Some x) h = (x, h)
store_clear g fs ms d w limited (Seq xs) is = absurd is
store_clear g fs ms d w limited (For j x kind body) is = absurd is
store_clear g fs ms d w limited (Let j pick forms) is = absurd is
store_clear g fs ms d w limited (First j x y) is = absurd is
store_clear g fs ms d w limited (Guard low high body) is = absurd is
store_clear g fs ms d w limited (Alloc b x places) is = absurd is
store_clear g fs ms d w limited (Fetch b x region) is = absurd is
store_clear g fs ms d w limited (Publish x) is = absurd is

pub nests_clear : (g : StoredText) (fs : List FormulaText) (r : List Span1) (ms : Loads) (m at_line d : ℕ) (ns : List NestText) (xs : List Statement) (cs : List CodeClaim) →
    AreNests g fs r ms m at_line d ns xs cs → AllByRecursion IsNestLimited ns → ClearAll P (block xs)
nests_clear g fs r ms m at_line d [] xs cs is limited = subst (λ (ys : List Statement). ClearAll P (block ys)) (sym is.0) tt
nests_clear g fs r ms m at_line d (w ∷ ns) xs [] is limited = absurd is
nests_clear g fs r ms m at_line d (w ∷ ns) xs (v ∷ cs) is limited =
    let nest = is.here.nest in
    let here : ClearAll P (block is.first) = subst (ClearAll P) (sym nest.comes)
    (steps_clear w.steps (Then nest.store Empty) limited.0.steps (store_clear g fs ms d w limited.0.at nest.store nest.stores)) in
    let rest = nests_clear g fs r (ms ++ (g.subject.name, m) ∷ []) (m + 1) (at_line + block_lines (block is.first)) (d + 1) ns is.others cs is.behind limited.1 in
    subst (λ (ys : List Statement). ClearAll P (block ys)) (sym is.are) (joined_clear P is.first is.others here rest)

pub fetches_clear : (fs : List FetchText) (rest : List Statement) → ClearAll P (block rest) → ClearAll P (block (with_fetches fs rest))
fetches_clear [] rest h = h
fetches_clear (f ∷ fs) rest h = ((λ w. neither w.0), ((λ w. neither w.0), fetches_clear fs rest h))

-- ---- groups

module _ (a : Algorithm) (sch : Schedule) (l : Lowered) (well : IsAlgorithm a) (legal : IsLegal a sch) (small : has_large (stored_functions a sch) ≡ false)
    (kept : region_fault a (stored_functions a sch) ≡ None) (all : are_whole (stored_functions a sch) ≡ true) (groups : HasGroups a (stored_functions a sch) l) where
  abbrev p : Plan
  p = plan_of l.plan

  abbrev st : List Bool
  st = flags (subjects a sch)

  abbrev entries : List Entry
  entries = roots a sch l well legal small kept all groups

  abbrev pub text : Function → StoredText
  text f = stored_by a st f.variables f.value f.changes (subject_said a sch f) (loops_after (said sch) f)

  -- the region that the loops run over
  pub extents_are : (n : ℕ) (q : CodeGroup) → slice_get l.plan.groups.items n ≡ Some q → (es : List Extent) → q.region ≡ map whole es → AllByRecursion IsExtent es
  extents_are n q theirs es region =
      let me = made_at a sch l well legal small kept all groups n q theirs in
      let is = region_is a (stored_functions a sch) n me.stored me.laid me.is me.found in
      subst (AllByRecursion IsExtent) (same_extents a sch l well legal small kept all groups n q me.laid es theirs me.found region) is.extents

  module _ (n : ℕ) (q : CodeGroup) (place : ℕ) (f : Function) (at : slice_get a.functions place ≡ Some f) (there : slice_get (stored_functions a sch) n ≡ Some (text f)) (first line : ℕ)
      (claims : List CodeClaim) (needs : List Need) (theirs : slice_get l.plan.groups.items n ≡ Some q) (h : HasBody a entries n first line (text f) q claims needs) where
    abbrev placed : PlacedText
    placed = loops_after (said sch) f

    pub has_names : IsNamed (loops_after (said sch) f)
    has_names = (let r = arranged a sch well legal n (text f) there in named (subject_said a sch f) r.directives placed r.placed)

    ranges : (k : ℕ) → AllByRecursion IsRange (ranges_of f.changes k)
    ranges zero = tt
    ranges (suc i) = of (slice_get f.changes i) refl
      where
        of : (o : Option Change) → slice_get f.changes i ≡ o → AllByRecursion IsRange (elim o [ Some u ↦ u.ranges | None ↦ [] ])
        of None e = tt
        of (Some u) e = recursion_from_All IsRange u.ranges (update_is a place f well at i u e).domain.ranges

    pub limited : IsLimited h.skeleton
    limited =
        skeleton_limited f.variables (bodies_from f.changes 0 (reductions_of f.changes) h.formulas) placed h.extents h.skeleton has_names.factors (extents_are n q theirs h.extents h.region)
        (bodies_small f.changes ranges 0 (reductions_of f.changes) h.formulas) h.laid

    body_clear : Clear P (statement_of q.body)
    body_clear =
        let b = h.body in
        let publish : List Statement = Publish (last_claim first b.fetches h.skeleton) ∷ [] in
        let nests = nests_clear (text f) h.formulas _ _ _ _ 0 h.skeleton.nests b.nests b.own b.nested limited.nests in
        let inner = fetches_clear b.fetches (b.nests ++ publish) (joined_clear P b.nests publish nests ((λ w. neither w.0), tt)) in
        subst (Clear P) (sym b.with.is)
        (steps_clear h.skeleton.head (block (Alloc 0 f.name (own_places (dimensions_of (text f) h.extents h.skeleton)) ∷ with_fetches b.fetches (b.nests ++ publish))) limited.head
        ((λ w. neither w.0), inner))

  none_at : (line : ℕ) → IsWideInside IsNestLine p line → ⊥
  none_at line h =
      let x = from_map group_of l.plan.groups.items h.number h.group h.there in
      let q = x.0 in
      let me = made_at a sch l well legal small kept all groups h.number q x.1 in
      let w = found a sch st me.stored a.functions h.number me.is in
      let b = placed_body a entries l.certificate.claims.items 0 0 4 (stored_functions a sch) l.plan.groups.items l.certificate.claims.items l.certificate.needs.items (groups.bodies all)
      (λ j v e. let none : 0 + j ≡ j = omega arith in ap (slice_get l.certificate.claims.items) none ∙ e) h.number me.stored q me.is x.1 in
      let counted : 0 + h.number ≡ h.number = omega arith in
      let there : slice_get (stored_functions a sch) h.number ≡ Some (text w.function) = me.is ∙ ap (λ (u : StoredText). Some u) w.is in
      let body = subst (λ (u : StoredText). HasBody a entries h.number b.first_claim b.line u q b.claims b.needs) w.is
      (subst (λ (i : ℕ). HasBody a entries i b.first_claim b.line me.stored q b.claims b.needs) counted b.body) in
      let clear = body_clear h.number q w.place w.function w.at there b.first_claim b.line b.claims b.needs x.1 body in
      let begun : Group → Here = λ u. start (line_told (group_line p h.number)) u in
      let stands = subst (λ (u : Group). Inside (λ s here. (line_told here.line ≡ line) × P s) u.body (begun u)) x.2 h.stands in
      none_inside P line (statement_of q.body) clear (begun (group_of q)) stands

  none_begins : (line : ℕ) → Begins p (λ n g. RegionIsWide g.region) line → ⊥
  none_begins line h =
      let x = from_map group_of l.plan.groups.items h.number h.group h.there in
      let q = x.0 in
      let me = made_at a sch l well legal small kept all groups h.number q x.1 in
      let so : RegionIsWide q.region = subst (λ (u : Group). RegionIsWide u.region) x.2 h.so in
      region_not_wide me.laid.region (extents_are h.number q x.1 me.laid.region me.region) (subst RegionIsWide me.region so)

pub within : NestFormsAreWithin
within a s l well legal small regions groups all line h = none_at a s l well legal small (regions all).0 all groups line h

pub begin_within : GroupFormsAreWithin
begin_within a s l well legal small regions groups all line h = none_begins a s l well legal small (regions all).0 all groups line h
