-- What the lines `alloc` of whole functions name is known and in scope.
use Rattle.std.proofs.Common.{◌≡◌, ℕ, suc, ◌+◌, ◌<◌, true, false, List, [], ◌∷◌, ◌++◌, length, Option, Some, None, refl, sym, ap, ◌∙◌, subst, inl, inr, ◌⊎◌, arith}
use Rattle.std.specs.Prelude.{slice_get, MatchOption}
use Rattle.std.specs.List.{AllByRecursion, Any}
use Rattle.std.specs.Option.{option_map}
use Rattle.lin.specs.declared.span.Span1.{Span1}
use Rattle.lin.specs.declared.scope.Binding.{Binding}
use Rattle.plan.specs.declared.plan.Group.{Group as CodeGroup}
use Rattle.plan.specs.declared.stmt.Places.{Places}
use Rattle.plan.specs.declared.stmt.Places.TheVariants.{From, Folded}
use Rattle.plan.specs.declared.certificate.cert.Claim.{Claim as CodeClaim}
use Rattle.plan.specs.declared.certificate.cert.Need.{Need}
use Rattle.plan.specs.Plan.{Statement, Seq, For, Let, First, Guard, Alloc, Fetch, Store, Publish, Statements, Empty, Then, Group, Plan, block}
use Rattle.plan.specs.View.{group_of, plan_of, statement_of}
use Rattle.plan.specs.Lines.{block_lines, group_line}
use Rattle.plan.specs.Certificate.Certificate.{Certificate, certificate_of}
use Rattle.meaning.specs.Algorithm.{Function, Algorithm}
use Rattle.meaning.specs.Conditions.{IsAlgorithm}
use Rattle.soundness.specs.Given.{outline_of}
use Rattle.soundness.specs.Outline.Forms.{grid_symbols}
use Rattle.soundness.specs.Outline.Flaws.{line_told}
use Rattle.headline.proofs.Lists.{from_map}
use Rattle.sched.specs.Schedule.{Schedule}
use Rattle.sched.specs.Legal.{IsLegal}
use Rattle.sched.specs.declared.numbers.Extent.{Extent}
use Rattle.sched.specs.declared.skeleton.Step.{Step}
use Rattle.sched.specs.declared.skeleton.Step.TheVariants.{Turns, Named, Tested}
use Rattle.sched.specs.Runs.{lines_to}
use Rattle.sched.specs.Skeleton.{NestText, SkeletonText}
use Rattle.sched.proofs.Arriving.{skeletal}
use Rattle.validation.specs.Stored.Definitions.{Parts, parts_of, parts_named}
use Rattle.validation.specs.Groups.Lines.{Here, in_loop, inside, before, symbols_after, after, is_empty, start}
use Rattle.validation.specs.Groups.Inside.{Inside, InsideOne, StandsIn}
use Rattle.validation.specs.Groups.Wrong.{LacksVariables, OriginNamesOther, NamesUnknown}
use Rattle.lower.specs.declared.lowering.Lowered.{Lowered}
use Rattle.sched.specs.Stored.{FormulaText, StoredText}
use Rattle.lower.specs.Stored.{stored_functions, has_large}
use Rattle.regions.specs.Faults.{are_whole}
use Rattle.lower.specs.Faults.{region_fault}
use Rattle.sched.specs.Regions.{LaidText}
use Rattle.regions.specs.Regions.{bodies_from}
use Rattle.sched.specs.Around.{grid_scope}
use Rattle.sched.specs.Taken.{SiteText}
use Rattle.regions.specs.Taken.{sites_of, taken_places}
use Rattle.sched.specs.Loading.{Loads}
use Rattle.blocks.specs.Blocks.{lay_over, dimensions_of, own_places}
use Rattle.blocks.specs.Bodies.{first_lines, IsStore, AreNests}
use Rattle.lower.specs.Bodies.{last_claim}
use Rattle.sched.specs.Fetches.{Entry}
use Rattle.blocks.specs.Fetches.{FetchText, with_fetches}
use Rattle.lower.specs.Fetches.{IsFetched, IsPart, AreFetched, fetched_groups}
use Rattle.lower.specs.Groups.{HasBody, HasGroups}
use Rattle.completeness.specs.Laws.{IsAlloc, AllocLinesAreKnown}
use Rattle.completeness.proofs.Standing.{With, OverGrid, names_own}
use Rattle.completeness.proofs.Standing.{Here as Bound}
use Rattle.completeness.proofs.Origins.{places_only, places_long}
use Rattle.completeness.proofs.Sited.{PlaceOnly, seats_over}
use Rattle.completeness.proofs.Bodies.{other_at, entry_at}
use Rattle.completeness.proofs.Owned.{each}
use Rattle.completeness.proofs.Output.{group_at}
use Rattle.completeness.proofs.Served.{ls as regions_found, roots, ready, made_at}
use Rattle.completeness.proofs.Spots.{Has}
use Rattle.completeness.proofs.Leaves.{more_has}
use Rattle.completeness.proofs.ClaimLines.{known_stored}
use Rattle.completeness.proofs.Unlike.{placed_body}
use Rattle.completeness.proofs.Scoped.{any_none, form_none, grid_begins, own_grid}

-- ---- by the symbols and buffers in scope alone

-- of each allocation in the statement this is not so, where these symbols are in scope
module _ (F : List ℕ → List Places → List ℕ → Type 0) where
  abbrev mutual
    Fits : Statement → List ℕ → Type 0
    Fits (Seq all) ss = FitAll all ss
    Fits (For i x kind body) ss = Fits body (ss ++ i ∷ [])
    Fits (Let i pick forms) ss = Unit {0}
    Fits (First i a b) ss = ⊥
    Fits (Guard low high body) ss = Fits body ss
    Fits (Alloc b f places) ss = ¬ F f places ss
    Fits (Fetch b g region) ss = Unit {0}
    Fits (Store b k at e) ss = Unit {0}
    Fits (Publish k) ss = Unit {0}

    FitAll : Statements → List ℕ → Type 0
    FitAll Empty ss = Unit {0}
    FitAll (Then a rest) ss = Fits a ss × FitAll rest (symbols_after a ss)

  joined_fit : (xs ys : List Statement) (ss : List ℕ) → FitAll (block xs) ss → ((us : List ℕ) → FitAll (block ys) us) → FitAll (block (xs ++ ys)) ss
  joined_fit [] ys ss h k = k ss
  joined_fit (a ∷ xs) ys ss h k = (h.0, joined_fit xs ys (symbols_after a ss) h.1 k)

  steps_fit : (P : ℕ → Type 0) (ts : List Step) (inner : Statements) → ((us : List ℕ) → ((s : ℕ) → Bound P ts s → Has us s) → FitAll inner us) → (ss : List ℕ) →
      ((s : ℕ) → P s → Has ss s) → FitAll (lines_to ts inner) ss
  steps_fit P [] inner k ss h = k ss none
    where
      none : (s : ℕ) → Bound P [] s → Has ss s
      none s (inl p) = h s p
      none s (inr b) = absurd b
  steps_fit P (Turns i x kind ∷ ts) inner k ss h = (steps_fit (With P i) ts inner (λ us u. k us (λ s b. u s (past s b))) (ss ++ i ∷ []) (more_has P ss i h), tt)
    where
      past : (s : ℕ) → Bound P (Turns i x kind ∷ ts) s → Bound (With P i) ts s
      past s (inl p) = inl (inl p)
      past s (inr (inl e)) = inl (inr e)
      past s (inr (inr b)) = inr b
  steps_fit P (Named i pick fs ∷ ts) inner k ss h = (tt, steps_fit (With P i) ts inner (λ us u. k us (λ s b. u s (past s b))) (ss ++ i ∷ []) (more_has P ss i h))
    where
      past : (s : ℕ) → Bound P (Named i pick fs ∷ ts) s → Bound (With P i) ts s
      past s (inl p) = inl (inl p)
      past s (inr (inl e)) = inl (inr e)
      past s (inr (inr b)) = inr b
  steps_fit P (Tested low high ∷ ts) inner k ss h = (steps_fit P ts inner (λ us u. k us (λ s b. u s (past s b))) ss h, tt)
    where
      past : (s : ℕ) → Bound P (Tested low high ∷ ts) s → Bound P ts s
      past s (inl p) = inl p
      past s (inr b) = inr b

  store_fit : (g : StoredText) (fs : List FormulaText) (ls : Loads) (d : ℕ) (w : NestText) (s : Statement) → IsStore g fs ls d w s → (ss : List ℕ) → FitAll (Then s Empty) ss
  store_fit g fs ls d w (Store b k at e) is ss = (tt, tt)
  store_fit g fs ls d w (Seq xs) is ss = absurd is
  store_fit g fs ls d w (For j x kind body) is ss = absurd is
  store_fit g fs ls d w (Let j pick forms) is ss = absurd is
  store_fit g fs ls d w (First j x y) is ss = absurd is
  store_fit g fs ls d w (Guard low high body) is ss = absurd is
  store_fit g fs ls d w (Alloc b x places) is ss = absurd is
  store_fit g fs ls d w (Fetch b x region) is ss = absurd is
  store_fit g fs ls d w (Publish x) is ss = absurd is

  nests_fit : (g : StoredText) (fs : List FormulaText) (r : List Span1) (claim : ℕ) (ms : Loads) (m line d : ℕ) (ns : List NestText) (xs : List Statement) (cs : List CodeClaim) →
      AreNests g fs r ms m line d ns xs cs → (ss : List ℕ) → FitAll (block (xs ++ Publish claim ∷ [])) ss
  nests_fit g fs r claim ms m line d [] xs cs is ss = subst (λ (ys : List Statement). FitAll (block (ys ++ Publish claim ∷ [])) ss) (sym is.0) (tt, tt)
  nests_fit g fs r claim ms m line d (w ∷ ns) xs [] is ss = absurd is
  nests_fit g fs r claim ms m line d (w ∷ ns) xs (v ∷ cs) is ss =
      let nest = is.here.nest in
      let here : FitAll (block is.first) ss = subst (λ (code : Statements). FitAll code ss) (sym nest.comes)
      (steps_fit (λ s. ⊥) w.steps (Then nest.store Empty) (λ us h. store_fit g fs ms d w nest.store nest.stores us) ss (λ s b. absurd b)) in
      let joined = joined_fit is.first (is.others ++ Publish claim ∷ []) ss here
      (nests_fit g fs r claim (ms ++ (g.subject.name, m) ∷ []) (m + 1) (line + block_lines (block is.first)) (d + 1) ns is.others cs is.behind) in
      let are : xs ++ Publish claim ∷ [] ≡ is.first ++ (is.others ++ Publish claim ∷ []) =
      ap (λ (ys : List Statement). ys ++ Publish claim ∷ []) is.are ∙ joined_twice is.first is.others (Publish claim ∷ []) in
      subst (λ (ys : List Statement). FitAll (block ys) ss) (sym are) joined
    where
      joined_twice : (xs ys zs : List Statement) → (xs ++ ys) ++ zs ≡ xs ++ (ys ++ zs)
      joined_twice [] ys zs = refl
      joined_twice (a ∷ xs) ys zs = (let rest = joined_twice xs ys zs in ap (λ (r : List Statement). a ∷ r) rest)

  -- for what is fetched, where so many symbols are in scope
  module _ (count : ℕ) where
    abbrev Based : List ℕ → Type 0
    Based ss = (s : ℕ) → s < count → Has ss s

    abbrev FitsOne : FetchText → Type 0
    FitsOne f = (ss : List ℕ) → Based ss → F f.function f.places ss → ⊥

    fetches_fit : (fs : List FetchText) (rest : List Statement) → AllByRecursion FitsOne fs → ((us : List ℕ) → FitAll (block rest) us) → (ss : List ℕ) → Based ss →
        FitAll (block (with_fetches fs rest)) ss
    fetches_fit [] rest h k ss based = k ss
    fetches_fit (f ∷ fs) rest h k ss based = (h.0 ss based, (tt, fetches_fit fs rest h.1 k ss based))

-- what the checker finds wrong with an allocation
abbrev Wrong : Algorithm → List ℕ → List Places → List ℕ → Type 0
Wrong a f places ss = LacksVariables a f (length places) ⊎ Any (OriginNamesOther ss) places

module _ (a : Algorithm) (p : Plan) (c : Certificate) (n : ℕ) (g : Group) (line : ℕ) where
  abbrev Flawed : Statement → Here → Type 0
  Flawed s here = (line_told here.line ≡ line) × (IsAlloc s × NamesUnknown a p c g (outline_of p c n g) s here)

  mutual
    none_inside : (s : Statement) (here : Here) → Fits (Wrong a) s here.symbols → Inside Flawed s here → ⊥
    none_inside (Seq all) here h k = none_in_all all here h k
    none_inside (For i x kind body) here h (inl k) = k.1.0
    none_inside (For i x kind body) here h (inr k) = none_inside body (in_loop i here) h k
    none_inside (Let i pick forms) here h k = k.1.0
    none_inside (First i b d) here h k = h
    none_inside (Guard low high body) here h (inl k) = k.1.0
    none_inside (Guard low high body) here h (inr k) = none_inside body (inside here) h k
    none_inside (Alloc b f places) here h k = h k.1.1
    none_inside (Fetch b u region) here h k = k.1.0
    none_inside (Store b q at e) here h k = k.1.0
    none_inside (Publish q) here h k = k.1.0

    none_in_all : (all : Statements) (here : Here) → FitAll (Wrong a) all here.symbols → InsideOne Flawed all here → ⊥
    none_in_all Empty here h k = k
    none_in_all (Then s rest) here h (inl k) = none_inside s (before (is_empty rest) here) h.0 k
    none_in_all (Then s rest) here h (inr k) = none_in_all rest (after s here) h.1 k

-- the places of a known function, over symbols in scope
origins_none : (P : ℕ → Type 0) (ss : List ℕ) (has : (s : ℕ) → P s → Has ss s) (x : Places) → PlaceOnly P x → OriginNamesOther ss x → ⊥
origins_none P ss has (From f n) h k = form_none P ss has f h k
origins_none P ss has (Folded n) h k = k

right : (a : Algorithm) (name : List ℕ) (u : Function) (places : List Places) (P : ℕ → Type 0) (ss : List ℕ) → parts_named a name ≡ Some (parts_of u) → length u.variables ≡ length places →
    AllByRecursion (PlaceOnly P) places → ((s : ℕ) → P s → Has ss s) → Wrong a name places ss → ⊥
right a name u places P ss parts long only has (inl lacks) =
    (subst (λ (o : Option Parts). MatchOption o (Unit {0}) (λ u. ¬ (length u.variables ≡ length places))) parts lacks) long
right a name u places P ss parts long only has (inr other) = any_none (PlaceOnly P) (OriginNamesOther ss) (λ x q o. origins_none P ss has x q o) places only other

some_same : {A : Type 0} (x y : A) → Some x ≡ Some y → x ≡ y
some_same x y e = cc e

seats_long : (grid : List Binding) (ss : List SiteText) (d : ℕ) (es : List Extent) → length (taken_places grid ss d es) ≡ length es
seats_long grid ss d [] = refl
seats_long grid ss d (e ∷ es) = ap suc (seats_long grid ss (d + 1) es)

-- ---- groups

module _ (a : Algorithm) (sch : Schedule) (l : Lowered) (well : IsAlgorithm a) (legal : IsLegal a sch) (small : has_large (stored_functions a sch) ≡ false)
    (kept : region_fault a (stored_functions a sch) ≡ None) (all : are_whole (stored_functions a sch) ≡ true) (groups : HasGroups a (stored_functions a sch) l) where
  abbrev entries : List Entry
  entries = roots a sch l well legal small kept all groups

  abbrev stored : List StoredText
  stored = stored_functions a sch

  abbrev made : List CodeGroup
  made = l.plan.groups.items

  module _ (n c line : ℕ) (g : StoredText) (p : CodeGroup) (claims : List CodeClaim) (needs : List Need) (at : slice_get stored n ≡ Some g) (there : slice_get made n ≡ Some p)
      (h : HasBody a entries n c line g p claims needs) where
    abbrev k : SkeletonText
    k = h.skeleton

    abbrev fs : List FormulaText
    fs = h.formulas

    abbrev rest : List Statement
    rest = h.body.nests ++ Publish (last_claim c h.body.fetches k) ∷ []

    abbrev places : List Places
    places = own_places (dimensions_of g h.extents k)

    abbrev code : Statements
    code = lines_to k.head (block (Alloc 0 g.subject.name places ∷ with_fetches h.body.fetches rest))

    abbrev listed_groups : List (ℕ × Entry)
    listed_groups = fetched_groups fs n 0 entries

    fit_one : (j : ℕ) (x : ℕ × Entry) → slice_get listed_groups j ≡ Some x → (f : FetchText) (w : Need) (claim : CodeClaim) (b own_line : ℕ) → IsFetched n b own_line x.0 x.1 f w claim →
        IsPart (sites_of a g fs k) (grid_scope k.grid) x.1 f → FitsOne (Wrong a) (length k.grid) f
    fit_one j x listed f w claim b own_line is part ss based wrong =
        let e = x.1 in
        let other = other_at fs n 0 entries j x listed in
        let entry = entry_at stored (regions_found a sch l well legal small kept all groups) all (ready a sch l well legal small kept all groups) other.place e other.at in
        let there_group = group_at stored made (each a sch l well legal small kept all groups) other.place e.0 entry.is in
        let v = made_at a sch l well legal small kept all groups other.place there_group.group there_group.at in
        let v_stored : v.stored ≡ e.0 = some_same v.stored e.0 (sym v.is ∙ entry.is) in
        let v_laid : v.laid ≡ e.1 = some_same v.laid e.1 (some_same (Some v.laid) (Some e.1) (sym v.found ∙ entry.laid)) in
        let known = known_stored a sch well other.place e.0 entry.is in
        let parts : parts_named a f.function ≡ Some (parts_of known.function) =
        ap (parts_named a) is.named ∙ ap (λ (o : Option Function). option_map parts_of o) known.named in
        let seats : f.places ≡ taken_places (grid_scope k.grid) part.taken.sites 0 e.1.region = part.taken.places in
        let long : length e.1.region ≡ length e.0.subject.variables =
        ap (λ (x : LaidText). length x.region) (sym v_laid) ∙ v.laid_by.long ∙ ap (λ (u : StoredText). length u.subject.variables) v_stored in
        let all_long : length known.function.variables ≡ length f.places =
        sym (ap length seats ∙ seats_long (grid_scope k.grid) part.taken.sites 0 e.1.region ∙ long ∙ known.variables) in
        let bodies = bodies_from g.changes 0 g.subject.reductions fs in
        let order = skeletal g.subject.variables bodies g.placed h.extents k h.laid in
        let names = names_own g.subject.variables bodies g.placed h.extents k h.laid in
        let only : AllByRecursion (PlaceOnly (λ s. s < length k.grid)) f.places =
        subst (AllByRecursion (PlaceOnly (λ s. s < length k.grid))) (sym seats) (seats_over a g fs k e.0.subject.name part.taken.sites order names part.taken.called 0 e.1.region) in
        right a f.function known.function f.places (λ s. s < length k.grid) ss parts all_long only based wrong

    own_fits : (ss : List ℕ) → ((s : ℕ) → OverGrid k s → Has ss s) → Wrong a g.subject.name places ss → ⊥
    own_fits ss has wrong =
        let bodies = bodies_from g.changes 0 g.subject.reductions fs in
        let names = names_own g.subject.variables bodies g.placed h.extents k h.laid in
        let known = known_stored a sch well n g at in
        let parts : parts_named a g.subject.name ≡ Some (parts_of known.function) = ap (λ (o : Option Function). option_map parts_of o) known.named in
        let long : length known.function.variables ≡ length places = sym known.variables ∙ sym (places_long (lay_over g h.extents k) g.placed.cuts g.subject.variables) in
        right a g.subject.name known.function places (OverGrid k) ss parts long (places_only (OverGrid k) (lay_over g h.extents k) names.known names.starts g.placed.cuts g.subject.variables) has wrong

    all_fit : (d b own_line : ℕ) (xs : List (ℕ × Entry)) (ts : List FetchText) (ws : List Need) (cs : List CodeClaim) →
        AreFetched (sites_of a g fs k) (grid_scope k.grid) n b own_line xs ts ws cs → ((j : ℕ) (x : ℕ × Entry) → slice_get xs j ≡ Some x → slice_get listed_groups (d + j) ≡ Some x) →
        AllByRecursion (FitsOne (Wrong a) (length k.grid)) ts
    all_fit d b own_line [] [] [] [] is listed = tt
    all_fit d b own_line [] [] [] (w ∷ cs) is listed = absurd is
    all_fit d b own_line [] [] (w ∷ ws) cs is listed = absurd is
    all_fit d b own_line [] (f ∷ ts) ws cs is listed = absurd is
    all_fit d b own_line (x ∷ xs) [] ws cs is listed = absurd is
    all_fit d b own_line (x ∷ xs) (f ∷ ts) [] cs is listed = absurd is
    all_fit d b own_line (x ∷ xs) (f ∷ ts) (w ∷ ws) [] is listed = absurd is
    all_fit d b own_line (x ∷ xs) (f ∷ ts) (w ∷ ws) (v ∷ cs) is listed = (
      fit_one (d + 0) x (listed 0 x refl) f w v b own_line is.0 is.1,
      all_fit (d + 1) (b + 1) (own_line + 2) xs ts ws cs is.2 (λ j y e. let next : d + suc j ≡ (d + 1) + j = omega arith in ap (slice_get listed_groups) (sym next) ∙ listed (suc j) y e),
    )

    body_fits : Fits (Wrong a) (statement_of p.body) (grid_symbols (length p.grid.items))
    body_fits =
        let b = h.body in
        let claim = last_claim c b.fetches k in
        let every = all_fit 0 1 (line + first_lines k) listed_groups b.fetches needs b.fetched b.fetching (λ j x e. let none : 0 + j ≡ j = omega arith in ap (slice_get listed_groups) none ∙ e) in
        let inner : (us : List ℕ) → ((s : ℕ) → OverGrid k s → Has us s) → FitAll (Wrong a) (block (Alloc 0 g.subject.name places ∷ with_fetches b.fetches rest)) us =
        λ us has. (
          own_fits us has,
          fetches_fit (Wrong a) (length k.grid) b.fetches rest every (nests_fit (Wrong a) g fs _ claim _ _ _ 0 k.nests b.nests b.own b.nested) us
              (λ s less. has s (inl less)),
        ) in
        let fits : FitAll (Wrong a) code (grid_symbols (length k.grid)) = steps_fit (Wrong a) (λ s. s < length k.grid) k.head
        (block (Alloc 0 g.subject.name places ∷ with_fetches b.fetches rest)) inner (grid_symbols (length k.grid)) (grid_begins (length k.grid)).has in
        subst (λ (s : Statement). Fits (Wrong a) s (grid_symbols (length p.grid.items))) (sym b.with.is)
        (subst (λ (counts : List ℕ). FitAll (Wrong a) code (grid_symbols (length counts)))
        (sym (own_grid a sch l well legal small kept all groups n c line g p claims needs at there h)) fits)

  none_at : (line : ℕ) → StandsIn (plan_of l.plan) (λ n g s here. IsAlloc s × NamesUnknown a (plan_of l.plan) (certificate_of l.certificate) g
      (outline_of (plan_of l.plan) (certificate_of l.certificate) n g) s here) line → ⊥
  none_at line h =
      let p = plan_of l.plan in
      let c = certificate_of l.certificate in
      let x = from_map group_of made h.number h.group h.there in
      let q = x.0 in
      let me = made_at a sch l well legal small kept all groups h.number q x.1 in
      let b = placed_body a entries l.certificate.claims.items 0 0 4 stored made l.certificate.claims.items l.certificate.needs.items (groups.bodies all)
      (λ j v e. let none : 0 + j ≡ j = omega arith in ap (slice_get l.certificate.claims.items) none ∙ e) h.number me.stored q me.is x.1 in
      let counted : 0 + h.number ≡ h.number = omega arith in
      let body = subst (λ (i : ℕ). HasBody a entries i b.first_claim b.line me.stored q b.claims b.needs) counted b.body in
      let clear = body_fits h.number b.first_claim b.line me.stored q b.claims b.needs me.is x.1 body in
      let first : Group → Here = λ u. start (line_told (group_line p h.number)) u in
      let stands = subst (λ (u : Group). Inside (λ s here. (line_told here.line ≡ line) × (IsAlloc s × NamesUnknown a p c u (outline_of p c h.number u) s here)) u.body (first u)) x.2 h.stands in
      none_inside a p c h.number (group_of q) line (statement_of q.body) (first (group_of q)) clear stands

pub known : AllocLinesAreKnown
known a s l well legal small regions groups all line h = none_at a s l well legal small (regions all).0 all groups line h
