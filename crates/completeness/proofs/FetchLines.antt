-- What the lines `fetch` of whole functions name is known and in scope.
use Rattle.std.proofs.Common.{◌≡◌, ℕ, suc, ◌+◌, ◌<◌, ◌≤◌, true, false, List, [], ◌∷◌, ◌++◌, length, map, Option, Some, None, refl, sym, ap, ◌∙◌, subst, inl, inr, ◌⊎◌, arith}
use Rattle.std.specs.Prelude.{slice_get, Contains, MatchOption}
use Rattle.std.specs.List.{AllByRecursion}
use Rattle.std.specs.Option.{option_map}
use Rattle.std.proofs.lemmas.Option.{slice_get_within}
use Rattle.lin.specs.declared.span.Span1.{Span1}
use Rattle.lin.specs.declared.scope.Binding.{Binding}
use Rattle.plan.specs.declared.plan.Group.{Group as CodeGroup}
use Rattle.plan.specs.declared.stmt.Places.{Places}
use Rattle.plan.specs.declared.certificate.cert.Claim.{Claim as CodeClaim}
use Rattle.plan.specs.declared.certificate.cert.Need.{Need}
use Rattle.plan.specs.Plan.{Statement, Seq, For, Let, First, Guard, Alloc, Fetch, Store, Publish, Statements, Empty, Then, Group, Plan, block}
use Rattle.plan.specs.View.{group_of, plan_of, statement_of}
use Rattle.plan.specs.Lines.{block_lines, group_line}
use Rattle.plan.specs.Certificate.Certificate.{Certificate, certificate_of}
use Rattle.plan.specs.Semantics.Setting.{allocated, function_in, group_name}
use Rattle.meaning.specs.Algorithm.{Function, Algorithm}
use Rattle.meaning.specs.Conditions.{IsAlgorithm}
use Rattle.soundness.specs.Claims.{In}
use Rattle.soundness.specs.Given.{outline_of}
use Rattle.soundness.specs.Outline.Forms.{grid_symbols}
use Rattle.soundness.specs.Outline.Flaws.{line_told}
use Rattle.headline.proofs.Lists.{at_map, from_map}
use Rattle.sched.specs.Schedule.{Schedule}
use Rattle.sched.specs.Legal.{IsLegal}
use Rattle.sched.specs.declared.numbers.Extent.{Extent}
use Rattle.sched.specs.declared.skeleton.Step.{Step}
use Rattle.sched.specs.declared.skeleton.Step.TheVariants.{Turns, Named, Tested}
use Rattle.sched.specs.Runs.{lines_to}
use Rattle.sched.specs.Skeleton.{NestText, SkeletonText}
use Rattle.sched.proofs.Arriving.{skeletal}
use Rattle.validation.specs.Stored.Definitions.{Parts, parts_of, parts_named}
use Rattle.validation.specs.Wide.{SpanNamesOther, RegionNamesOther}
use Rattle.validation.specs.Groups.Lines.{Here, in_loop, inside, before, symbols_after, buffers_after, after, is_empty, start}
use Rattle.validation.specs.Groups.Inside.{Inside, InsideOne, StandsIn}
use Rattle.validation.specs.Groups.Wrong.{LacksVariables, NamesUnknown}
use Rattle.validation.proofs.Wide.{contains_is}
use Rattle.lower.specs.declared.lowering.Lowered.{Lowered}
use Rattle.sched.specs.Stored.{FormulaText, StoredText}
use Rattle.lower.specs.Stored.{stored_functions, has_large}
use Rattle.regions.specs.Faults.{are_whole}
use Rattle.lower.specs.Faults.{region_fault}
use Rattle.sched.specs.Regions.{LaidText}
use Rattle.regions.specs.Regions.{bodies_from}
use Rattle.sched.specs.Around.{grid_scope}
use Rattle.sched.specs.Taken.{SiteText}
use Rattle.regions.specs.Taken.{sites_of, taken_region}
use Rattle.sched.specs.Loading.{Loads}
use Rattle.blocks.specs.Blocks.{dimensions_of, own_places}
use Rattle.blocks.specs.Bodies.{first_lines, IsStore, AreNests}
use Rattle.lower.specs.Bodies.{last_claim}
use Rattle.sched.specs.Fetches.{Entry}
use Rattle.blocks.specs.Fetches.{FetchText, with_fetches}
use Rattle.lower.specs.Fetches.{IsFetched, IsPart, AreFetched, fetched_groups}
use Rattle.lower.specs.Groups.{HasBody, HasGroups}
use Rattle.completeness.specs.Laws.{IsFetch, FetchLinesAreKnown}
use Rattle.completeness.proofs.Only.{SpanOnly}
use Rattle.completeness.proofs.Standing.{AreLets, names_own}
use Rattle.completeness.proofs.Sited.{taken_over}
use Rattle.completeness.proofs.Bodies.{other_at, entry_at}
use Rattle.completeness.proofs.Owned.{each}
use Rattle.completeness.proofs.Output.{group_at}
use Rattle.completeness.proofs.Served.{ls as regions_found, roots, ready, made_at}
use Rattle.completeness.proofs.Spots.{Has, has_first, has_last, fetch_has}
use Rattle.completeness.proofs.ClaimLines.{known_stored}
use Rattle.completeness.proofs.Unlike.{placed_body}
use Rattle.completeness.proofs.Scoped.{any_none, span_none, grid_begins, own_grid}

-- ---- by the symbols and buffers in scope alone

-- of each fetch in the statement this is not so, where these symbols and buffers are in scope
module _ (F : ℕ → ℕ → List Span1 → List ℕ → List ℕ → Type 0) where
  abbrev mutual
    Fits : Statement → List ℕ → List ℕ → Type 0
    Fits (Seq all) ss bs = FitAll all ss bs
    Fits (For i x kind body) ss bs = Fits body (ss ++ i ∷ []) bs
    Fits (Let i pick forms) ss bs = Unit {0}
    Fits (First i a b) ss bs = ⊥
    Fits (Guard low high body) ss bs = Fits body ss bs
    Fits (Alloc b f places) ss bs = Unit {0}
    Fits (Fetch b g region) ss bs = ¬ F b g region ss bs
    Fits (Store b k at e) ss bs = Unit {0}
    Fits (Publish k) ss bs = Unit {0}

    FitAll : Statements → List ℕ → List ℕ → Type 0
    FitAll Empty ss bs = Unit {0}
    FitAll (Then a rest) ss bs = Fits a ss bs × FitAll rest (symbols_after a ss) (buffers_after a bs)

  joined_fit : (xs ys : List Statement) (ss bs : List ℕ) → FitAll (block xs) ss bs → ((us vs : List ℕ) → FitAll (block ys) us vs) → FitAll (block (xs ++ ys)) ss bs
  joined_fit [] ys ss bs h k = k ss bs
  joined_fit (a ∷ xs) ys ss bs h k = (h.0, joined_fit xs ys (symbols_after a ss) (buffers_after a bs) h.1 k)

  steps_fit : (Base : List ℕ → Type 0) → ((ss : List ℕ) (i : ℕ) → Base ss → Base (ss ++ i ∷ [])) → (ts : List Step) (inner : Statements) →
      ((us vs : List ℕ) → Base us → FitAll inner us vs) → (ss bs : List ℕ) → Base ss → FitAll (lines_to ts inner) ss bs
  steps_fit Base more [] inner k ss bs h = k ss bs h
  steps_fit Base more (Turns i x kind ∷ ts) inner k ss bs h = (steps_fit Base more ts inner k (ss ++ i ∷ []) bs (more ss i h), tt)
  steps_fit Base more (Named i pick fs ∷ ts) inner k ss bs h = (tt, steps_fit Base more ts inner k (ss ++ i ∷ []) bs (more ss i h))
  steps_fit Base more (Tested low high ∷ ts) inner k ss bs h = (steps_fit Base more ts inner k ss bs h, tt)

  store_fit : (g : StoredText) (fs : List FormulaText) (ls : Loads) (d : ℕ) (w : NestText) (s : Statement) → IsStore g fs ls d w s → (ss bs : List ℕ) → FitAll (Then s Empty) ss bs
  store_fit g fs ls d w (Store b k at e) is ss bs = (tt, tt)
  store_fit g fs ls d w (Seq xs) is ss bs = absurd is
  store_fit g fs ls d w (For j x kind body) is ss bs = absurd is
  store_fit g fs ls d w (Let j pick forms) is ss bs = absurd is
  store_fit g fs ls d w (First j x y) is ss bs = absurd is
  store_fit g fs ls d w (Guard low high body) is ss bs = absurd is
  store_fit g fs ls d w (Alloc b x places) is ss bs = absurd is
  store_fit g fs ls d w (Fetch b x region) is ss bs = absurd is
  store_fit g fs ls d w (Publish x) is ss bs = absurd is

  nests_fit : (g : StoredText) (fs : List FormulaText) (r : List Span1) (claim : ℕ) (ms : Loads) (m line d : ℕ) (ns : List NestText) (xs : List Statement) (cs : List CodeClaim) →
      AreNests g fs r ms m line d ns xs cs → (ss bs : List ℕ) → FitAll (block (xs ++ Publish claim ∷ [])) ss bs
  nests_fit g fs r claim ms m line d [] xs cs is ss bs = subst (λ (ys : List Statement). FitAll (block (ys ++ Publish claim ∷ [])) ss bs) (sym is.0) (tt, tt)
  nests_fit g fs r claim ms m line d (w ∷ ns) xs [] is ss bs = absurd is
  nests_fit g fs r claim ms m line d (w ∷ ns) xs (v ∷ cs) is ss bs =
      let nest = is.here.nest in
      let here : FitAll (block is.first) ss bs = subst (λ (code : Statements). FitAll code ss bs) (sym nest.comes)
      (steps_fit (λ ss. Unit {0}) (λ ss i h. tt) w.steps (Then nest.store Empty) (λ us vs h. store_fit g fs ms d w nest.store nest.stores us vs) ss bs tt) in
      let joined = joined_fit is.first (is.others ++ Publish claim ∷ []) ss bs here
      (nests_fit g fs r claim (ms ++ (g.subject.name, m) ∷ []) (m + 1) (line + block_lines (block is.first)) (d + 1) ns is.others cs is.behind) in
      let are : xs ++ Publish claim ∷ [] ≡ is.first ++ (is.others ++ Publish claim ∷ []) =
      ap (λ (ys : List Statement). ys ++ Publish claim ∷ []) is.are ∙ joined_twice is.first is.others (Publish claim ∷ []) in
      subst (λ (ys : List Statement). FitAll (block ys) ss bs) (sym are) joined
    where
      joined_twice : (xs ys zs : List Statement) → (xs ++ ys) ++ zs ≡ xs ++ (ys ++ zs)
      joined_twice [] ys zs = refl
      joined_twice (a ∷ xs) ys zs = (let rest = joined_twice xs ys zs in ap (λ (r : List Statement). a ∷ r) rest)

  -- what is fetched, where so many symbols are in scope
  module _ (count : ℕ) where
    abbrev Based : List ℕ → Type 0
    Based ss = (s : ℕ) → s < count → Has ss s

    abbrev FitsOne : FetchText → Type 0
    FitsOne f = (ss bs : List ℕ) → Based ss → Has bs f.buffer → F f.buffer f.group f.region ss bs → ⊥

    fetches_fit : (fs : List FetchText) (rest : List Statement) → AllByRecursion FitsOne fs → ((us vs : List ℕ) → FitAll (block rest) us vs) → (ss bs : List ℕ) → Based ss →
        FitAll (block (with_fetches fs rest)) ss bs
    fetches_fit [] rest h k ss bs based = k ss bs
    fetches_fit (f ∷ fs) rest h k ss bs based =
        (tt, (h.0 ss (bs ++ f.buffer ∷ []) based (has_last bs f.buffer), fetches_fit fs rest h.1 k ss (bs ++ f.buffer ∷ []) based))

module _ (a : Algorithm) (p : Plan) (c : Certificate) (n : ℕ) (g : Group) where
  -- what the checker finds wrong with a fetch
  abbrev Wrong : ℕ → ℕ → List Span1 → List ℕ → List ℕ → Type 0
  Wrong b h region ss bs =
      let setting = (outline_of p c n g).setting in
      ¬ Contains bs b ⊎ ((length p.groups ≤ h) ⊎ (¬ (setting.group_function h ≡ setting.buffer_function b)
      ⊎ (LacksVariables a (setting.group_function h) (length region) ⊎ RegionNamesOther ss region)))

  module _ (line : ℕ) where
    abbrev Flawed : Statement → Here → Type 0
    Flawed s here = (line_told here.line ≡ line) × (IsFetch s × NamesUnknown a p c g (outline_of p c n g) s here)

    mutual
      none_inside : (s : Statement) (here : Here) → Fits Wrong s here.symbols here.buffers → Inside Flawed s here → ⊥
      none_inside (Seq all) here h k = none_in_all all here h k
      none_inside (For i x kind body) here h (inl k) = k.1.0
      none_inside (For i x kind body) here h (inr k) = none_inside body (in_loop i here) h k
      none_inside (Let i pick forms) here h k = k.1.0
      none_inside (First i b d) here h k = h
      none_inside (Guard low high body) here h (inl k) = k.1.0
      none_inside (Guard low high body) here h (inr k) = none_inside body (inside here) h k
      none_inside (Alloc b f places) here h k = k.1.0
      none_inside (Fetch b u region) here h k = h k.1.1
      none_inside (Store b q at e) here h k = k.1.0
      none_inside (Publish q) here h k = k.1.0

      none_in_all : (all : Statements) (here : Here) → FitAll Wrong all here.symbols here.buffers → InsideOne Flawed all here → ⊥
      none_in_all Empty here h k = k
      none_in_all (Then s rest) here h (inl k) = none_inside s (before (is_empty rest) here) h.0 k
      none_in_all (Then s rest) here h (inr k) = none_in_all rest (after s here) h.1 k

some_same : {A : Type 0} (x y : A) → Some x ≡ Some y → x ≡ y
some_same x y e = cc e

taken_long : (grid : List Binding) (ss : List SiteText) (d : ℕ) (es : List Extent) → length (taken_region grid ss d es) ≡ length es
taken_long grid ss d [] = refl
taken_long grid ss d (e ∷ es) = ap suc (taken_long grid ss (d + 1) es)

-- ---- groups

module _ (a : Algorithm) (sch : Schedule) (l : Lowered) (well : IsAlgorithm a) (legal : IsLegal a sch) (small : has_large (stored_functions a sch) ≡ false)
    (kept : region_fault a (stored_functions a sch) ≡ None) (all : are_whole (stored_functions a sch) ≡ true) (groups : HasGroups a (stored_functions a sch) l) where
  abbrev entries : List Entry
  entries = roots a sch l well legal small kept all groups

  abbrev stored : List StoredText
  stored = stored_functions a sch

  abbrev made : List CodeGroup
  made = l.plan.groups.items

  module _ (n c line : ℕ) (g : StoredText) (p : CodeGroup) (claims : List CodeClaim) (needs : List Need) (at : slice_get stored n ≡ Some g) (there : slice_get made n ≡ Some p)
      (h : HasBody a entries n c line g p claims needs) where
    abbrev k : SkeletonText
    k = h.skeleton

    abbrev fs : List FormulaText
    fs = h.formulas

    abbrev rest : List Statement
    rest = h.body.nests ++ Publish (last_claim c h.body.fetches k) ∷ []

    abbrev places : List Places
    places = own_places (dimensions_of g h.extents k)

    abbrev code : Statements
    code = lines_to k.head (block (Alloc 0 g.subject.name places ∷ with_fetches h.body.fetches rest))

    abbrev listed_groups : List (ℕ × Entry)
    listed_groups = fetched_groups fs n 0 entries

    abbrev Bad : ℕ → ℕ → List Span1 → List ℕ → List ℕ → Type 0
    Bad = Wrong a (plan_of l.plan) (certificate_of l.certificate) n (group_of p)

    lets : AreLets k.head
    lets = (names_own g.subject.variables (bodies_from g.changes 0 g.subject.reductions fs) g.placed h.extents k h.laid).lets

    fit_one : (j : ℕ) (x : ℕ × Entry) → slice_get listed_groups j ≡ Some x → (f : FetchText) (w : Need) (claim : CodeClaim) (b own_line : ℕ) → IsFetched n b own_line x.0 x.1 f w claim →
        IsPart (sites_of a g fs k) (grid_scope k.grid) x.1 f → In claim h.body.fetched → FitsOne Bad (length k.grid) f
    fit_one j x listed f w claim b own_line is part among ss bs based held wrong =
        let e = x.1 in
        let other = other_at fs n 0 entries j x listed in
        let entry = entry_at stored (regions_found a sch l well legal small kept all groups) all (ready a sch l well legal small kept all groups) other.place e other.at in
        let there_group = group_at stored made (each a sch l well legal small kept all groups) other.place e.0 entry.is in
        let v = made_at a sch l well legal small kept all groups other.place there_group.group there_group.at in
        let v_stored : v.stored ≡ e.0 = some_same v.stored e.0 (sym v.is ∙ entry.is) in
        let v_laid : v.laid ≡ e.1 = some_same v.laid e.1 (some_same (Some v.laid) (Some e.1) (sym v.found ∙ entry.laid)) in
        let known = known_stored a sch well other.place e.0 entry.is in
        let number = other.numbered in
        let group_is : f.group ≡ other.place = is.grouped ∙ omega (arith, number) in
        let found : slice_get (map group_of made) f.group ≡ Some (group_of there_group.group) =
        ap (slice_get (map group_of made)) group_is ∙ at_map group_of made other.place there_group.group there_group.at in
        let group_function : group_name (slice_get (map group_of made) f.group) ≡ e.0.subject.name = ap group_name found ∙ there_group.is.named in
        let o = fetch_has (sites_of a g fs k) (grid_scope k.grid) n rest k.head g.subject.name places (line + first_lines k) listed_groups h.body.fetches needs h.body.fetched lets h.body.fetching
        claim among in
        let buffer_function : function_in (allocated (statement_of p.body) f.buffer) ≡ e.0.subject.name =
        ap (λ (s : Statement). function_in (allocated s f.buffer)) h.body.with.is
        ∙ ap (λ (i : ℕ). function_in (allocated (Seq code) i)) (is.buffered ∙ sym is.claimed.buffered) ∙ ap function_in o.is ∙ o.named ∙ is.claimed.named in
        let parts : parts_named a (group_name (slice_get (map group_of made) f.group)) ≡ Some (parts_of known.function) =
        ap (parts_named a) group_function ∙ ap (λ (o : Option Function). option_map parts_of o) known.named in
        let region : f.region ≡ taken_region (grid_scope k.grid) part.taken.sites 0 e.1.region = part.taken.region in
        let long : length e.1.region ≡ length e.0.subject.variables =
        ap (λ (x : LaidText). length x.region) (sym v_laid) ∙ v.laid_by.long ∙ ap (λ (u : StoredText). length u.subject.variables) v_stored in
        let all_long : length known.function.variables ≡ length f.region =
        sym (ap length region ∙ taken_long (grid_scope k.grid) part.taken.sites 0 e.1.region ∙ long ∙ known.variables) in
        let bodies = bodies_from g.changes 0 g.subject.reductions fs in
        let order = skeletal g.subject.variables bodies g.placed h.extents k h.laid in
        let names = names_own g.subject.variables bodies g.placed h.extents k h.laid in
        let only : AllByRecursion (SpanOnly (λ s. s < length k.grid)) f.region =
        subst (AllByRecursion (SpanOnly (λ s. s < length k.grid))) (sym region) (taken_over a g fs k e.0.subject.name part.taken.sites order names part.taken.called 0 e.1.region) in
        of (group_function ∙ sym buffer_function) (slice_get_within (map group_of made) f.group (group_of there_group.group) found) known.function parts all_long only wrong
      where
        of : group_name (slice_get (map group_of made) f.group) ≡ function_in (allocated (statement_of p.body) f.buffer) → f.group < length (map group_of made) → (u : Function) →
            parts_named a (group_name (slice_get (map group_of made) f.group)) ≡ Some (parts_of u) → length u.variables ≡ length f.region →
            AllByRecursion (SpanOnly (λ s. s < length k.grid)) f.region → Bad f.buffer f.group f.region ss bs → ⊥
        of same within u parts long only (inl lacks) = lacks (contains_is bs f.buffer held)
        of same within u parts long only (inr (inl late)) = omega (arith, late, within)
        of same within u parts long only (inr (inr (inl differ))) = differ same
        of same within u parts long only (inr (inr (inr (inl lacks)))) =
            (subst (λ (o : Option Parts). MatchOption o (Unit {0}) (λ u. ¬ (length u.variables ≡ length f.region))) parts lacks) long
        of same within u parts long only (inr (inr (inr (inr names)))) =
            any_none (SpanOnly (λ s. s < length k.grid)) (SpanNamesOther ss) (λ x q o. span_none (λ s. s < length k.grid) ss based x q o) f.region only names

    all_fit : (d b own_line : ℕ) (xs : List (ℕ × Entry)) (ts : List FetchText) (ws : List Need) (cs : List CodeClaim) →
        AreFetched (sites_of a g fs k) (grid_scope k.grid) n b own_line xs ts ws cs → ((j : ℕ) (x : ℕ × Entry) → slice_get xs j ≡ Some x → slice_get listed_groups (d + j) ≡ Some x) →
        ((claim : CodeClaim) → In claim cs → In claim h.body.fetched) → AllByRecursion (FitsOne Bad (length k.grid)) ts
    all_fit d b own_line [] [] [] [] is listed among = tt
    all_fit d b own_line [] [] [] (w ∷ cs) is listed among = absurd is
    all_fit d b own_line [] [] (w ∷ ws) cs is listed among = absurd is
    all_fit d b own_line [] (f ∷ ts) ws cs is listed among = absurd is
    all_fit d b own_line (x ∷ xs) [] ws cs is listed among = absurd is
    all_fit d b own_line (x ∷ xs) (f ∷ ts) [] cs is listed among = absurd is
    all_fit d b own_line (x ∷ xs) (f ∷ ts) (w ∷ ws) [] is listed among = absurd is
    all_fit d b own_line (x ∷ xs) (f ∷ ts) (w ∷ ws) (v ∷ cs) is listed among = (
      fit_one (d + 0) x (listed 0 x refl) f w v b own_line is.0 is.1 (among v (inl refl)),
      all_fit (d + 1) (b + 1) (own_line + 2) xs ts ws cs is.2 (λ j y e. let next : d + suc j ≡ (d + 1) + j = omega arith in ap (slice_get listed_groups) (sym next) ∙ listed (suc j) y e)
          (λ claim m. among claim (inr m)),
    )

    body_fits : Fits Bad (statement_of p.body) (grid_symbols (length p.grid.items)) []
    body_fits =
        let b = h.body in
        let claim = last_claim c b.fetches k in
        let Base : List ℕ → Type 0 = λ ss. ((s : ℕ) → s < length k.grid → Has ss s) in
        let every = all_fit 0 1 (line + first_lines k) listed_groups b.fetches needs b.fetched b.fetching
        (λ j x e. let none : 0 + j ≡ j = omega arith in ap (slice_get listed_groups) none ∙ e) (λ claim m. m) in
        let inner : (us vs : List ℕ) → Base us → FitAll Bad (block (Alloc 0 g.subject.name places ∷ with_fetches b.fetches rest)) us vs =
        λ us vs based. (tt, fetches_fit Bad (length k.grid) b.fetches rest every (nests_fit Bad g fs _ claim _ _ _ 0 k.nests b.nests b.own b.nested) us (vs ++ 0 ∷ []) based) in
        let fits : FitAll Bad code (grid_symbols (length k.grid)) [] = steps_fit Bad Base (λ ss i h s less. has_first ss (i ∷ []) s (h s less)) k.head
        (block (Alloc 0 g.subject.name places ∷ with_fetches b.fetches rest)) inner (grid_symbols (length k.grid)) [] (grid_begins (length k.grid)).has in
        subst (λ (s : Statement). Fits Bad s (grid_symbols (length p.grid.items)) []) (sym b.with.is)
        (subst (λ (counts : List ℕ). FitAll Bad code (grid_symbols (length counts)) [])
        (sym (own_grid a sch l well legal small kept all groups n c line g p claims needs at there h)) fits)

  none_at : (line : ℕ) → StandsIn (plan_of l.plan) (λ n g s here. IsFetch s × NamesUnknown a (plan_of l.plan) (certificate_of l.certificate) g
      (outline_of (plan_of l.plan) (certificate_of l.certificate) n g) s here) line → ⊥
  none_at line h =
      let p = plan_of l.plan in
      let c = certificate_of l.certificate in
      let x = from_map group_of made h.number h.group h.there in
      let q = x.0 in
      let me = made_at a sch l well legal small kept all groups h.number q x.1 in
      let b = placed_body a entries l.certificate.claims.items 0 0 4 stored made l.certificate.claims.items l.certificate.needs.items (groups.bodies all)
      (λ j v e. let none : 0 + j ≡ j = omega arith in ap (slice_get l.certificate.claims.items) none ∙ e) h.number me.stored q me.is x.1 in
      let counted : 0 + h.number ≡ h.number = omega arith in
      let body = subst (λ (i : ℕ). HasBody a entries i b.first_claim b.line me.stored q b.claims b.needs) counted b.body in
      let clear = body_fits h.number b.first_claim b.line me.stored q b.claims b.needs me.is x.1 body in
      let first : Group → Here = λ u. start (line_told (group_line p h.number)) u in
      let stands = subst (λ (u : Group). Inside (λ s here. (line_told here.line ≡ line) × (IsFetch s × NamesUnknown a p c u (outline_of p c h.number u) s here)) u.body (first u)) x.2 h.stands in
      none_inside a p c h.number (group_of q) line (statement_of q.body) (first (group_of q)) clear stands

pub known : FetchLinesAreKnown
known a s l well legal small regions groups all line h = none_at a s l well legal small (regions all).0 all groups line h
