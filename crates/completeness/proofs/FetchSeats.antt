-- What the lines `fetch` of whole functions owe is shown: each point of a fetch's region has a place in its buffer.
use Rattle.std.proofs.Common.{◌≡◌, ℕ, suc, ◌+◌, ◌<◌, ◌≤◌, Bool, true, false, ◌&&◌, List, [], ◌∷◌, ◌++◌, length, Option, Some, None, refl, sym, ap, ◌∙◌, subst, arith}
use Rattle.std.specs.Prelude.{if◌then◌else◌, slice_get}
use Rattle.std.specs.List.{AllByRecursion}
use Rattle.lin.specs.declared.span.Span1.{Span1}
use Rattle.plan.specs.declared.plan.Group.{Group as CodeGroup}
use Rattle.plan.specs.declared.stmt.Places.{Places}
use Rattle.plan.specs.declared.stmt.Places.TheVariants.{From, Folded}
use Rattle.plan.specs.declared.certificate.cert.Claim.{Claim as CodeClaim}
use Rattle.plan.specs.declared.certificate.cert.Need.{Need}
use Rattle.plan.specs.Plan.{Statement, Seq, For, Let, First, Guard, Alloc, Fetch, Store, Publish, Statements, Empty, Then, Group, Plan, block}
use Rattle.plan.specs.View.{group_of, plan_of, statement_of}
use Rattle.plan.specs.Lines.{block_lines, body_line}
use Rattle.plan.specs.Certificate.Certificate.{Certificate, certificate_of}
use Rattle.meaning.specs.Algorithm.{Algorithm}
use Rattle.meaning.specs.Conditions.{IsAlgorithm}
use Rattle.soundness.specs.Origins.{Outline}
use Rattle.soundness.specs.Given.{outline_of}
use Rattle.soundness.specs.Obligations.{Binder, Known, Rules, places_of, seated, obligations}
use Rattle.soundness.specs.Shown.{Nests, is_seated, are_seated, shows, all_shown, start}
use Rattle.soundness.specs.Binders.View.{grid_binders}
use Rattle.soundness.proofs.Refines.{eq_refl}
use Rattle.rules.specs.Bounding.Rules.{rules_of}
use Rattle.rules.specs.Bounding.Scopes.{most_symbols, scope_of}
use Rattle.rules.specs.Bounding.Seats.{is_seated_in}
use Rattle.headline.proofs.Lists.{at_map, from_map}
use Rattle.sched.specs.Schedule.{Schedule}
use Rattle.sched.specs.Legal.{IsLegal}
use Rattle.sched.specs.declared.numbers.Extent.{Extent}
use Rattle.sched.specs.declared.skeleton.Step.{Step}
use Rattle.sched.specs.declared.skeleton.Step.TheVariants.{Turns, Named, Tested}
use Rattle.sched.specs.Runs.{lines_to}
use Rattle.sched.specs.Skeleton.{NestText, SkeletonText}
use Rattle.sched.proofs.Arriving.{skeletal}
use Rattle.lower.specs.declared.lowering.Lowered.{Lowered}
use Rattle.sched.specs.Stored.{FormulaText, StoredText}
use Rattle.lower.specs.Stored.{stored_functions, has_large}
use Rattle.regions.specs.Faults.{are_whole}
use Rattle.lower.specs.Faults.{region_fault}
use Rattle.sched.specs.Regions.{LaidText}
use Rattle.regions.specs.Regions.{bodies_from}
use Rattle.sched.specs.Around.{grid_scope}
use Rattle.lower.specs.Owning.{IsExtent}
use Rattle.sched.specs.Taken.{SiteText}
use Rattle.regions.specs.Taken.{sites_of, needed_span, cut, part_of, taken_region, taken_places}
use Rattle.sched.specs.Loading.{Loads}
use Rattle.blocks.specs.Blocks.{dimensions_of, own_places}
use Rattle.blocks.specs.Bodies.{first_lines, IsStore, AreNests}
use Rattle.lower.specs.Bodies.{last_claim}
use Rattle.sched.specs.Fetches.{Entry}
use Rattle.blocks.specs.Fetches.{FetchText, with_fetches}
use Rattle.lower.specs.Fetches.{IsFetched, IsPart, AreFetched, fetched_groups}
use Rattle.lower.specs.Groups.{HasBody, HasGroups}
use Rattle.completeness.specs.Laws.{IsFetch}
use Rattle.completeness.specs.Owed.{EachLine, EachOf, OweShown, AreGridsFew, FetchLinesOweShown}
use Rattle.completeness.proofs.Only.{SpanOnly}
use Rattle.completeness.proofs.Standing.{AreLets, Rises, NamesOwn, names_own}
use Rattle.completeness.proofs.Sited.{PlaceOnly, taken_over, seats_over}
use Rattle.completeness.proofs.Bodies.{other_at, entry_at}
use Rattle.completeness.proofs.Owned.{each, some_same}
use Rattle.completeness.proofs.Output.{group_at}
use Rattle.completeness.proofs.Served.{ls as regions_found, roots, ready, made_at}
use Rattle.completeness.proofs.Unlike.{placed_body}
use Rattle.completeness.proofs.Scoped.{own_grid}
use Rattle.completeness.proofs.Rising.{LowRises}
use Rattle.completeness.proofs.RisingForms.{cut_low}
use Rattle.completeness.proofs.GridCounts.{IsShort, grid_few}
use Rattle.completeness.proofs.GridScope.{TellsGrid, grid_tells, let_tells}
use Rattle.completeness.proofs.Seating.{part_seated}

-- ---- line by line

module _ (outline : Outline) (rules : Rules) (P : Statement → ℕ → Known → Type 0) (other : (s : Statement) (line : ℕ) (known : Known) → (IsFetch s → ⊥) → P s line known) where
  abbrev Each : Statements → ℕ → Known → Type 0
  Each code line known = EachOf outline rules P code line known

  abbrev AllWays : Statements → Type 0
  AllWays code = (line : ℕ) (known : Known) → Each code line known

  joined_each : (xs ys : List Statement) (line : ℕ) (known : Known) → Each (block xs) line known → AllWays (block ys) → Each (block (xs ++ ys)) line known
  joined_each [] ys line known h k = k line known
  joined_each (a ∷ xs) ys line known h k = (h.0, joined_each xs ys _ _ h.1 k)

  steps_each : (ts : List Step) (inner : Statements) → AllWays inner → AllWays (lines_to ts inner)
  steps_each [] inner k line known = k line known
  steps_each (Turns i x kind ∷ ts) inner k line known = (steps_each ts inner k _ _, tt)
  steps_each (Named i pick fs ∷ ts) inner k line known = (other (Let i pick fs) _ _ (λ f. f), steps_each ts inner k _ _)
  steps_each (Tested low high ∷ ts) inner k line known = (steps_each ts inner k _ _, tt)

  store_each : (g : StoredText) (fs : List FormulaText) (ls : Loads) (d : ℕ) (w : NestText) (s : Statement) → IsStore g fs ls d w s → AllWays (Then s Empty)
  store_each g fs ls d w (Store b k at e) is line known = (other (Store b k at e) _ _ (λ f. f), tt)
  store_each g fs ls d w (Seq xs) is line known = absurd is
  store_each g fs ls d w (For j x kind body) is line known = absurd is
  store_each g fs ls d w (Let j pick forms) is line known = absurd is
  store_each g fs ls d w (First j x y) is line known = absurd is
  store_each g fs ls d w (Guard low high body) is line known = absurd is
  store_each g fs ls d w (Alloc b x places) is line known = absurd is
  store_each g fs ls d w (Fetch b x region) is line known = absurd is
  store_each g fs ls d w (Publish x) is line known = absurd is

  nests_each : (g : StoredText) (fs : List FormulaText) (r : List Span1) (claim : ℕ) (ms : Loads) (m at_line d : ℕ) (ns : List NestText) (xs : List Statement) (cs : List CodeClaim) →
      AreNests g fs r ms m at_line d ns xs cs → AllWays (block (xs ++ Publish claim ∷ []))
  nests_each g fs r claim ms m at_line d [] xs cs is line known =
      subst (λ (ys : List Statement). Each (block (ys ++ Publish claim ∷ [])) line known) (sym is.0) (other (Publish claim) _ _ (λ f. f), tt)
  nests_each g fs r claim ms m at_line d (w ∷ ns) xs [] is line known = absurd is
  nests_each g fs r claim ms m at_line d (w ∷ ns) xs (v ∷ cs) is line known =
      let nest = is.here.nest in
      let here : Each (block is.first) line known = subst (λ (code : Statements). Each code line known) (sym nest.comes)
      (steps_each w.steps (Then nest.store Empty) (store_each g fs ms d w nest.store nest.stores) line known) in
      let joined = joined_each is.first (is.others ++ Publish claim ∷ []) line known here
      (nests_each g fs r claim (ms ++ (g.subject.name, m) ∷ []) (m + 1) (at_line + block_lines (block is.first)) (d + 1) ns is.others cs is.behind) in
      let are : xs ++ Publish claim ∷ [] ≡ is.first ++ (is.others ++ Publish claim ∷ []) =
      ap (λ (ys : List Statement). ys ++ Publish claim ∷ []) is.are ∙ joined_twice is.first is.others (Publish claim ∷ []) in
      subst (λ (ys : List Statement). Each (block ys) line known) (sym are) joined
    where
      joined_twice : (xs ys zs : List Statement) → (xs ++ ys) ++ zs ≡ xs ++ (ys ++ zs)
      joined_twice [] ys zs = refl
      joined_twice (a ∷ xs) ys zs = (let rest = joined_twice xs ys zs in ap (λ (r : List Statement). a ∷ r) rest)

  -- ---- where the binders tell of a grid

  module _ (grid : List ℕ) where
    abbrev Over : Statements → Type 0
    Over code = (line : ℕ) (known : Known) → TellsGrid grid known.binders → Each code line known

    lets_each : (ts : List Step) (n next : ℕ) (inner : Statements) → AreLets ts → Rises n ts next → length grid ≤ n → Over inner → Over (lines_to ts inner)
    lets_each [] n next inner lets rises le k line known tells = k line known tells
    lets_each (Turns i x kind ∷ ts) n next inner lets rises le k line known tells = absurd lets
    lets_each (Named i pick fs ∷ ts) n next inner lets rises le k line known tells =
        let first = rises.0 in (
          other (Let i pick fs) _ _ (λ f. f),
          lets_each ts (n + 1) next inner lets rises.1 (omega (arith, le)) k _ _ (let_tells grid known.binders i pick fs (omega (arith, le, first)) tells),
        )
    lets_each (Tested low high ∷ ts) n next inner lets rises le k line known tells = absurd lets

    alloc_each : (x : List ℕ) (places : List Places) (rest : Statements) → Over rest → Over (Then (Alloc 0 x places) rest)
    alloc_each x places rest k line known tells = (other (Alloc 0 x places) _ _ (λ f. f), k _ _ tells)

    abbrev FitsOne : FetchText → Type 0
    FitsOne f = (line : ℕ) (known : Known) → places_of known.buffers f.buffer ≡ Some f.places → TellsGrid grid known.binders → P (Fetch f.buffer f.group f.region) line known

    fetches_each : (fs : List FetchText) (rest : List Statement) → AllByRecursion FitsOne fs → AllWays (block rest) → Over (block (with_fetches fs rest))
    fetches_each [] rest h k line known tells = k line known
    fetches_each (f ∷ fs) rest h k line known tells = (
      other (Alloc f.buffer f.function f.places) _ _ (λ f. f),
      (
        h.0 _ _ (ap (λ (b : Bool). if b then Some f.places else places_of known.buffers f.buffer) (eq_refl f.buffer)) tells,
        fetches_each fs rest h.1 k _ _ tells,
      ),
    )

-- ---- places

seated_same : (a : Algorithm) (p : Plan) (c : Certificate) (n : ℕ) (bs : List Binder) (x : Span1) (places : Places) → is_seated_in (scope_of bs) x places ≡ is_seated (rules_of a p c n) bs x places
seated_same a p c n bs x (From l m) = refl
seated_same a p c n bs x (Folded m) = refl

module _ (a : Algorithm) (p : Plan) (c : Certificate) (n : ℕ) (grid : List ℕ) (few : length grid ≤ most_symbols) (bs : List Binder) (tells : TellsGrid grid bs) (ss : List SiteText)
    (rising : (d : ℕ) (s : Span1) (e : Extent) → needed_span (grid_scope grid) ss d ≡ Some s → LowRises (cut s e)) where
  pub taken_seated : (d : ℕ) (es : List Extent) → AllByRecursion IsExtent es → AllByRecursion (SpanOnly (λ s. s < length grid)) (taken_region (grid_scope grid) ss d es) →
      AllByRecursion (PlaceOnly (λ s. s < length grid)) (taken_places (grid_scope grid) ss d es) →
      are_seated (rules_of a p c n) bs (taken_region (grid_scope grid) ss d es) (taken_places (grid_scope grid) ss d es) ≡ true
  taken_seated d [] h over seats = refl
  taken_seated d (e ∷ es) h over seats =
      let here = part_seated grid few bs tells ss d e h.0 over.0 seats.0 (λ s found. rising d s e found) in
      let first = sym (seated_same a p c n bs (part_of (grid_scope grid) ss d e).span (part_of (grid_scope grid) ss d e).places) ∙ here in
      let rest = taken_seated (d + 1) es h.1 over.1 seats.1 in
      λ i. first i && rest i

-- ---- groups

module _ (a : Algorithm) (sch : Schedule) (l : Lowered) (well : IsAlgorithm a) (legal : IsLegal a sch) (small : has_large (stored_functions a sch) ≡ false)
    (kept : region_fault a (stored_functions a sch) ≡ None) (all : are_whole (stored_functions a sch) ≡ true) (groups : HasGroups a (stored_functions a sch) l)
    (few : AreGridsFew (plan_of l.plan)) where
  abbrev entries : List Entry
  entries = roots a sch l well legal small kept all groups

  abbrev stored : List StoredText
  stored = stored_functions a sch

  abbrev made : List CodeGroup
  made = l.plan.groups.items

  abbrev plan : Plan
  plan = plan_of l.plan

  abbrev cert : Certificate
  cert = certificate_of l.certificate

  module _ (n c line : ℕ) (g : StoredText) (p : CodeGroup) (claims : List CodeClaim) (needs : List Need) (at : slice_get stored n ≡ Some g) (there : slice_get made n ≡ Some p)
      (h : HasBody a entries n c line g p claims needs) (short : AllByRecursion IsShort h.skeleton.grid) (narrow : length h.skeleton.grid ≤ most_symbols) where
    abbrev k : SkeletonText
    k = h.skeleton

    abbrev fs : List FormulaText
    fs = h.formulas

    abbrev rest : List Statement
    rest = h.body.nests ++ Publish (last_claim c h.body.fetches k) ∷ []

    abbrev places : List Places
    places = own_places (dimensions_of g h.extents k)

    abbrev code : Statements
    code = lines_to k.head (block (Alloc 0 g.subject.name places ∷ with_fetches h.body.fetches rest))

    abbrev listed_groups : List (ℕ × Entry)
    listed_groups = fetched_groups fs n 0 entries

    abbrev O : Outline
    O = outline_of plan cert n (group_of p)

    abbrev R : Rules
    R = rules_of a plan cert n

    abbrev Shown : Statement → ℕ → Known → Type 0
    Shown s at_line known = IsFetch s → (nests : Nests) → all_shown R nests (obligations O R s at_line known) ≡ true

    not_fetch : (s : Statement) (at_line : ℕ) (known : Known) → (IsFetch s → ⊥) → Shown s at_line known
    not_fetch s at_line known none is = absurd (none is)

    names : NamesOwn k
    names = names_own g.subject.variables (bodies_from g.changes 0 g.subject.reductions fs) g.placed h.extents k h.laid

    fit_one : (j : ℕ) (x : ℕ × Entry) → slice_get listed_groups j ≡ Some x → (f : FetchText) (w : Need) (claim : CodeClaim) (b own_line : ℕ) → IsFetched n b own_line x.0 x.1 f w claim →
        IsPart (sites_of a g fs k) (grid_scope k.grid) x.1 f → FitsOne O R Shown not_fetch k.grid f
    fit_one j x listed f w claim b own_line is part at_line known held tells fetch nests =
        let e = x.1 in
        let other = other_at fs n 0 entries j x listed in
        let entry = entry_at stored (regions_found a sch l well legal small kept all groups) all (ready a sch l well legal small kept all groups) other.place e other.at in
        let there_group = group_at stored made (each a sch l well legal small kept all groups) other.place e.0 entry.is in
        let v = made_at a sch l well legal small kept all groups other.place there_group.group there_group.at in
        let v_laid : v.laid ≡ e.1 = some_same v.laid e.1 (some_same (Some v.laid) (Some e.1) (sym v.found ∙ entry.laid)) in
        let extents : AllByRecursion IsExtent e.1.region = subst (λ (x : LaidText). AllByRecursion IsExtent x.region) v_laid v.laid_by.extents in
        let bodies = bodies_from g.changes 0 g.subject.reductions fs in
        let order = skeletal g.subject.variables bodies g.placed h.extents k h.laid in
        let ss = part.taken.sites in
        let over = taken_over a g fs k e.0.subject.name ss order names part.taken.called 0 e.1.region in
        let seats = seats_over a g fs k e.0.subject.name ss order names part.taken.called 0 e.1.region in
        let test = taken_seated a plan cert n k.grid narrow known.binders tells ss
        (λ d s e needed. cut_low a g fs g.subject.variables bodies g.placed h.extents k h.laid x.1.0.subject.name ss part.taken.called (grid_scope k.grid) d s e needed)
        0 e.1.region extents over seats in
        let shown : are_seated R known.binders f.region f.places ≡ true = (λ i. are_seated R known.binders (part.taken.region i) (part.taken.places i)) ∙ test in
        ap (λ (o : Option (List Places)). shows R nests known.binders (seated O R o f.region) && true) held ∙ ap (λ (b : Bool). b && true) shown

    all_fit : (d b own_line : ℕ) (xs : List (ℕ × Entry)) (ts : List FetchText) (ws : List Need) (cs : List CodeClaim) →
        AreFetched (sites_of a g fs k) (grid_scope k.grid) n b own_line xs ts ws cs → ((j : ℕ) (x : ℕ × Entry) → slice_get xs j ≡ Some x → slice_get listed_groups (d + j) ≡ Some x) →
        AllByRecursion (FitsOne O R Shown not_fetch k.grid) ts
    all_fit d b own_line [] [] [] [] is listed = tt
    all_fit d b own_line [] [] [] (w ∷ cs) is listed = absurd is
    all_fit d b own_line [] [] (w ∷ ws) cs is listed = absurd is
    all_fit d b own_line [] (f ∷ ts) ws cs is listed = absurd is
    all_fit d b own_line (x ∷ xs) [] ws cs is listed = absurd is
    all_fit d b own_line (x ∷ xs) (f ∷ ts) [] cs is listed = absurd is
    all_fit d b own_line (x ∷ xs) (f ∷ ts) (w ∷ ws) [] is listed = absurd is
    all_fit d b own_line (x ∷ xs) (f ∷ ts) (w ∷ ws) (v ∷ cs) is listed = (
      fit_one (d + 0) x (listed 0 x refl) f w v b own_line is.0 is.1,
      all_fit (d + 1) (b + 1) (own_line + 2) xs ts ws cs is.2 (λ j y e. let next : d + suc j ≡ (d + 1) + j = omega arith in ap (slice_get listed_groups) (sym next) ∙ listed (suc j) y e),
    )

    body_shown : EachLine O R Shown (statement_of p.body) (body_line plan n) (start (grid_binders p.grid.items))
    body_shown =
        let b = h.body in
        let claim = last_claim c b.fetches k in
        let every = all_fit 0 1 (line + first_lines k) listed_groups b.fetches needs b.fetched b.fetching (λ j x e. let none : 0 + j ≡ j = omega arith in ap (slice_get listed_groups) none ∙ e) in
        let inner : Over O R Shown not_fetch k.grid (block (Alloc 0 g.subject.name places ∷ with_fetches b.fetches rest)) =
        alloc_each O R Shown not_fetch k.grid g.subject.name places (block (with_fetches b.fetches rest))
        (fetches_each O R Shown not_fetch k.grid b.fetches rest every (nests_each O R Shown not_fetch g fs _ claim _ _ _ 0 k.nests b.nests b.own b.nested)) in
        let tells : TellsGrid k.grid (grid_binders k.grid) = grid_tells k.grid short in
        let shown : EachOf O R Shown code (body_line plan n) (start (grid_binders k.grid)) =
        lets_each O R Shown not_fetch k.grid k.head (length k.grid) names.next (block (Alloc 0 g.subject.name places ∷ with_fetches b.fetches rest)) names.lets names.rises (omega arith)
        inner _ _ tells in
        subst (λ (s : Statement). EachLine O R Shown s (body_line plan n) (start (grid_binders p.grid.items))) (sym b.with.is)
        (subst (λ (counts : List ℕ). EachOf O R Shown code (body_line plan n) (start (grid_binders counts)))
        (sym (own_grid a sch l well legal small kept all groups n c line g p claims needs at there h)) shown)

  shown_at : (n : ℕ) (q : CodeGroup) → slice_get made n ≡ Some q → OweShown IsFetch a plan cert n (group_of q)
  shown_at n q there =
      let me = made_at a sch l well legal small kept all groups n q there in
      let b = placed_body a entries l.certificate.claims.items 0 0 4 stored made l.certificate.claims.items l.certificate.needs.items (groups.bodies all)
      (λ j v e. let none : 0 + j ≡ j = omega arith in ap (slice_get l.certificate.claims.items) none ∙ e) n me.stored q me.is there in
      let counted : 0 + n ≡ n = omega arith in
      let body = subst (λ (i : ℕ). HasBody a entries i b.first_claim b.line me.stored q b.claims b.needs) counted b.body in
      let grid : q.grid.items ≡ body.skeleton.grid = own_grid a sch l well legal small kept all groups n b.first_claim b.line me.stored q b.claims b.needs me.is there body in
      let short : AllByRecursion IsShort body.skeleton.grid = subst (AllByRecursion IsShort) (sym me.grid ∙ grid) (grid_few me.stored me.laid.region me.laid.skeleton me.laid_by) in
      let narrow : length body.skeleton.grid ≤ most_symbols =
      subst (λ (ns : List ℕ). length ns ≤ most_symbols) grid (few n (group_of q) (at_map group_of made n q there)) in
      body_shown n b.first_claim b.line me.stored q b.claims b.needs me.is there body short narrow

pub shown : FetchLinesOweShown
shown a s l well legal small regions groups all few n g at =
    let x = from_map group_of l.plan.groups.items n g at in
    subst (λ (u : Group). OweShown IsFetch a (plan_of l.plan) (certificate_of l.certificate) n u) (sym x.2) (shown_at a s l well legal small (regions all).0 all groups few n x.0 x.1)
