-- No line of whole functions stores something else than its definition.
use Rattle.std.proofs.Common.{◌≡◌, ℕ, ◌<◌, zero, suc, ◌+◌, Bool, true, false, List, [], ◌∷◌, ◌^◌}
use Rattle.std.proofs.Common.{◌++◌, length, map, take, Option, Some, None, refl, sym, ap, ◌∙◌, subst, inl, inr, arith}
use Rattle.std.specs.Prelude.{slice_get, IsSomeAnd, MatchOption}
use Rattle.std.specs.Option.{option_map}
use Rattle.lin.specs.declared.span.Span1.{Span1}
use Rattle.lin.specs.declared.scope.Binding.{Binding}
use Rattle.plan.specs.declared.plan.Group.{Group as CodeGroup}
use Rattle.plan.specs.declared.certificate.cert.Claim.{Claim as CodeClaim}
use Rattle.plan.specs.declared.certificate.cert.Need.{Need}
use Rattle.plan.specs.Plan.{Statement, Seq, For, Let, First, Guard, Alloc, Fetch, Store, Publish, Statements, Empty, Then, Group, Plan, block}
use Rattle.plan.specs.View.{group_of, plan_of, statement_of}
use Rattle.plan.specs.Lines.{block_lines, groups_lines, group_line}
use Rattle.plan.specs.Certificate.Certificate.{Certificate, certificate_of}
use Rattle.plan.specs.Semantics.Setting.{allocated, function_in}
use Rattle.meaning.specs.Algorithm.{Function, Algorithm}
use Rattle.meaning.specs.Conditions.{IsAlgorithm}
use Rattle.soundness.specs.Given.{outline_of}
use Rattle.soundness.specs.Outline.Flaws.{line_told}
use Rattle.headline.proofs.Lists.{from_map}
use Rattle.sched.specs.Schedule.{Schedule}
use Rattle.sched.specs.Legal.{IsLegal, said, loops_after}
use Rattle.sched.specs.Subjects.{subject_said, reductions_of}
use Rattle.sched.specs.declared.skeleton.Step.{Step}
use Rattle.sched.specs.declared.skeleton.Step.TheVariants.{Turns, Named, Tested}
use Rattle.sched.specs.Runs.{lines_to}
use Rattle.sched.specs.Skeleton.{NestText, SkeletonText}
use Rattle.validation.specs.Groups.Lines.{Here, in_loop, inside, in_later, before, after, is_empty, start}
use Rattle.validation.specs.Groups.Inside.{Inside, InsideOne}
use Rattle.validation.specs.Groups.Wrong.{IsDefinition, StoresAnother, IsNotDefinitionAt}
use Rattle.validation.specs.Stored.Definitions.{parts_of, parts_named, definition_in, stored_in}
use Rattle.lower.specs.declared.lowering.Lowered.{Lowered}
use Rattle.sched.specs.Stored.{FormulaText, StoredText}
use Rattle.blocks.specs.Stored.{stored_by, flags}
use Rattle.lower.specs.Stored.{stored_functions, has_large}
use Rattle.regions.specs.Faults.{are_whole}
use Rattle.lower.specs.Faults.{region_fault}
use Rattle.regions.specs.Regions.{bodies_from}
use Rattle.sched.specs.Around.{grid_scope}
use Rattle.regions.specs.Taken.{sites_of}
use Rattle.sched.specs.Loading.{Loads}
use Rattle.blocks.specs.Bodies.{first_lines, IsStore, AreNests}
use Rattle.lower.specs.Bodies.{last_claim}
use Rattle.sched.specs.Fetches.{Entry}
use Rattle.blocks.specs.Fetches.{FetchText, with_fetches}
use Rattle.lower.specs.Fetches.{Calls, AreFetched, fetched_groups, loads_from}
use Rattle.lower.specs.Groups.{HasBody, line_behind, HaveBodies, HasGroups}
use Rattle.completeness.specs.Laws.{NamesNoLoad, DefinitionsAreStored}
use Rattle.completeness.proofs.Standing.{AreLets, names_own, nest_shape}
use Rattle.completeness.proofs.Laid.{subjects, found}
use Rattle.completeness.proofs.Served.{roots, made_at}
use Rattle.completeness.proofs.Spots.{own_allotted}
use Rattle.completeness.proofs.ClaimLines.{named_here}
use Rattle.completeness.proofs.ReadBack.{IsClaimOf, AreClaims}
use Rattle.completeness.proofs.Marks.{marks}
use Rattle.completeness.proofs.Counts.{few_claims}
use Rattle.completeness.proofs.Defined.{of_definition}

-- ---- none stands in a body

module _ (P : Statement → Type 0) where
  abbrev mutual
    pub Clear : Statement → Type 0
    Clear (Seq all) = ClearAll all
    Clear (For i x kind body) = ¬ P (For i x kind body) × Clear body
    Clear (Let i pick forms) = ¬ P (Let i pick forms)
    Clear (First i a b) = ¬ P (First i a b) × Clear a × Clear b
    Clear (Guard low high body) = ¬ P (Guard low high body) × Clear body
    Clear (Alloc b f places) = ¬ P (Alloc b f places)
    Clear (Fetch b g region) = ¬ P (Fetch b g region)
    Clear (Store b k at e) = ¬ P (Store b k at e)
    Clear (Publish k) = ¬ P (Publish k)

    pub ClearAll : Statements → Type 0
    ClearAll Empty = Unit {0}
    ClearAll (Then a rest) = Clear a × ClearAll rest

  abbrev pub At : ℕ → Statement → Here → Type 0
  At line s here = (line_told here.line ≡ line) × P s

  mutual
    pub none_inside : (line : ℕ) (s : Statement) → Clear s → (here : Here) → Inside (At line) s here → ⊥
    none_inside line (Seq all) h here k = none_in_all line all h here k
    none_inside line (For i x kind body) h here (inl k) = h.0 k.1
    none_inside line (For i x kind body) h here (inr k) = none_inside line body h.1 (in_loop i here) k
    none_inside line (Let i pick forms) h here k = h k.1
    none_inside line (First i a b) h here (inl k) = h.0 k.1
    none_inside line (First i a b) h here (inr (inl k)) = none_inside line a h.1 (inside here) k
    none_inside line (First i a b) h here (inr (inr k)) = none_inside line b h.2 (in_later a here) k
    none_inside line (Guard low high body) h here (inl k) = h.0 k.1
    none_inside line (Guard low high body) h here (inr k) = none_inside line body h.1 (inside here) k
    none_inside line (Alloc b f places) h here k = h k.1
    none_inside line (Fetch b g region) h here k = h k.1
    none_inside line (Store b q at e) h here k = h k.1
    none_inside line (Publish q) h here k = h k.1

    none_in_all : (line : ℕ) (all : Statements) → ClearAll all → (here : Here) → InsideOne (At line) all here → ⊥
    none_in_all line Empty h here k = k
    none_in_all line (Then a rest) h here (inl k) = none_inside line a h.0 (before (is_empty rest) here) k
    none_in_all line (Then a rest) h here (inr k) = none_in_all line rest h.1 (after a here) k

  pub joined_clear : (xs ys : List Statement) → ClearAll (block xs) → ClearAll (block ys) → ClearAll (block (xs ++ ys))
  joined_clear [] ys h k = k
  joined_clear (a ∷ xs) ys h k = (h.0, joined_clear xs ys h.1 k)

-- ---- bodies, with the numbers of their claims

module _ (a : Algorithm) (all : List Entry) (full : List CodeClaim) where
  -- these are the claims from this number on
  abbrev pub Numbered : ℕ → List CodeClaim → Type 0
  Numbered c claims = (j : ℕ) (w : CodeClaim) → slice_get claims j ≡ Some w → slice_get full (c + j) ≡ Some w

  pub get_first : {A : Type 0} (xs ys : List A) (j : ℕ) (x : A) → slice_get xs j ≡ Some x → slice_get (xs ++ ys) j ≡ Some x
  get_first [] ys j x e = absurd (cc e)
  get_first (y ∷ xs) ys zero x e = e
  get_first (y ∷ xs) ys (suc j) x e = get_first xs ys j x e

  pub get_second : {A : Type 0} (xs ys : List A) (j : ℕ) → slice_get (xs ++ ys) (length xs + j) ≡ slice_get ys j
  get_second [] ys j = (let none : 0 + j ≡ j = omega arith in ap (slice_get ys) none)
  get_second (y ∷ xs) ys j = (let next : suc (length xs) + j ≡ suc (length xs + j) = omega arith in ap (slice_get (y ∷ (xs ++ ys))) next ∙ get_second xs ys j)

  pub first_numbered : (c : ℕ) (claims own other : List CodeClaim) → claims ≡ own ++ other → Numbered c claims → Numbered c own
  first_numbered c claims own other e h j w at = h j w (ap (λ (ws : List CodeClaim). slice_get ws j) e ∙ get_first own other j w at)

  pub second_numbered : (c : ℕ) (claims own other : List CodeClaim) → claims ≡ own ++ other → Numbered c claims → Numbered (c + length own) other
  second_numbered c claims own other e h j w at =
      let place : c + (length own + j) ≡ (c + length own) + j = omega arith in
      ap (slice_get full) (sym place) ∙ h (length own + j) w (ap (λ (ws : List CodeClaim). slice_get ws (length own + j)) e ∙ get_second own other j ∙ at)

  -- the group's line comes behind so many lines
  pub record PlacedBody (n lines_before : ℕ) (g : StoredText) (p : CodeGroup) : Type 0 where
    pub first_claim : ℕ
    pub line : ℕ
    pub lined : line ≡ lines_before
    pub claims : List CodeClaim
    pub needs : List Need
    pub body : HasBody a all n first_claim line g p claims needs
    pub numbered : Numbered first_claim claims

  pub placed_body : (n c line : ℕ) (gs : List StoredText) (ps : List CodeGroup) (claims : List CodeClaim) (needs : List Need) → HaveBodies a all n c line gs ps claims needs → Numbered c claims →
      (i : ℕ) (g : StoredText) (p : CodeGroup) → slice_get gs i ≡ Some g → slice_get ps i ≡ Some p → PlacedBody (n + i) (line + groups_lines (take i (map group_of ps))) g p
  placed_body n c line [] ps claims needs h m i g p at there = absurd (cc at)
  placed_body n c line (u ∷ gs) [] claims needs h m i g p at there = absurd h
  placed_body n c line (u ∷ gs) (q ∷ ps) claims needs h m zero g p at there =
      let one : u ≡ g = cc at in
      let two : q ≡ p = cc there in
      let none : n ≡ n + 0 = omega arith in
      let before : line ≡ line + 0 = omega arith in
      subst (λ (m : ℕ). PlacedBody m (line + 0) g p) none (subst (λ (w : StoredText). PlacedBody n (line + 0) w p) one (subst (λ (w : CodeGroup). PlacedBody n (line + 0) u w) two (record {
        first_claim = c;
        line = line;
        lined = before;
        claims = h.own_claims;
        needs = h.own_needs;
        body = h.here;
        numbered = first_numbered c claims h.own_claims h.other_claims h.claimed m;
      })))
  placed_body n c line (u ∷ gs) (q ∷ ps) claims needs h m (suc i) g p at there =
      let next : (n + 1) + i ≡ n + suc i = omega arith in
      let behind : line_behind line q + groups_lines (take i (map group_of ps)) ≡ line + groups_lines (take (suc i) (map group_of (q ∷ ps))) = omega arith in
      let rest = placed_body (n + 1) (c + length h.own_claims) (line_behind line q) gs ps h.other_claims h.other_needs h.behind
      (second_numbered c claims h.own_claims h.other_claims h.claimed m) i g p at there in
      subst (λ (m : ℕ). PlacedBody (n + suc i) m g p) behind (subst (λ (m : ℕ). PlacedBody m (line_behind line q + groups_lines (take i (map group_of ps))) g p) next rest)

  -- ---- loads of what is fetched

  pub fetched_loads : (calls : Calls) (grid : List Binding) (n b line : ℕ) (xs : List (ℕ × Entry)) (fs : List FetchText) (ws : List Need) (cs : List CodeClaim) →
      AreFetched calls grid n b line xs fs ws cs → (c : ℕ) → Numbered c cs → AreClaims full (loads_from c fs) × (length cs ≡ length fs)
  fetched_loads calls grid n b line [] [] [] [] h c m = (tt, refl)
  fetched_loads calls grid n b line [] [] [] (w ∷ cs) h c m = absurd h
  fetched_loads calls grid n b line [] [] (w ∷ ws) cs h c m = absurd h
  fetched_loads calls grid n b line [] (f ∷ fs) ws cs h c m = absurd h
  fetched_loads calls grid n b line (x ∷ xs) [] ws cs h c m = absurd h
  fetched_loads calls grid n b line (x ∷ xs) (f ∷ fs) [] cs h c m = absurd h
  fetched_loads calls grid n b line (x ∷ xs) (f ∷ fs) (w ∷ ws) [] h c m = absurd h
  fetched_loads calls grid n b line (x ∷ xs) (f ∷ fs) (w ∷ ws) (k ∷ cs) h c m =
      let none : c + 0 ≡ c = omega arith in
      let rest = fetched_loads calls grid n (b + 1) (line + 2) xs fs ws cs h.2 (c + 1)
      (λ j v at. let next : c + suc j ≡ (c + 1) + j = omega arith in ap (slice_get full) (sym next) ∙ m (suc j) v at) in
      (((k, ap (slice_get full) (sym none) ∙ m 0 k refl, h.0.claimed.named ∙ sym h.0.named), rest.0), ap suc rest.1)

  pub all_claims : (xs ys : Loads) → AreClaims full xs → AreClaims full ys → AreClaims full (xs ++ ys)
  all_claims [] ys h k = k
  all_claims (x ∷ xs) ys h k = (h.0, all_claims xs ys h.1 k)

-- ---- stores

pub both_match : {A : Type 0} (P : A → Type 0) (o : Option A) → MatchOption o ⊥ P → MatchOption o ⊥ (λ x. ¬ P x) → ⊥
both_match P None h k = h
both_match P (Some x) h k = k h

some_and : {A : Type 0} (P : A → Type 0) (o : Option A) → IsSomeAnd o P → (x : A) × (o ≡ Some x) × P x
some_and P None h = absurd h
some_and P (Some x) h = (x, refl, h)

module _ (a : Algorithm) (sch : Schedule) (l : Lowered) (well : IsAlgorithm a) (free : NamesNoLoad a) (input : (plan_of l.plan).input.name ≡ a.input)
    (few : length l.certificate.claims.items < 2 ^ 64) (marked : stored_in a (plan_of l.plan) ≡ flags (subjects a sch)) (entries : List Entry) where
  abbrev items : List CodeClaim
  items = l.certificate.claims.items

  abbrev p : Plan
  p = plan_of l.plan

  abbrev c : Certificate
  c = certificate_of l.certificate

  abbrev st : List Bool
  st = flags (subjects a sch)

  abbrev text : Function → StoredText
  text f = stored_by a st f.variables f.value f.changes (subject_said a sch f) (loops_after (said sch) f)

  module _ (i : ℕ) (q : CodeGroup) (place : ℕ) (f : Function) (at : slice_get a.functions place ≡ Some f) (n first line : ℕ) (claims : List CodeClaim) (needs : List Need)
      (h : HasBody a entries n first line (text f) q claims needs) (numbered : Numbered a entries items first claims) where
    abbrev Another : Statement → Type 0
    Another s = StoresAnother a p (outline_of p c i (group_of q)) s

    abbrev fs : List FormulaText
    fs = h.formulas

    abbrev k : SkeletonText
    k = h.skeleton

    abbrev names : List (List ℕ)
    names = reductions_of f.changes

    lets : AreLets k.head
    lets = (names_own f.variables (bodies_from f.changes 0 names fs) (loops_after (said sch) f) h.extents k h.laid).lets

    -- the piece's own buffer is the function's
    own_buffer : function_in (allocated (statement_of q.body) 0) ≡ f.name
    own_buffer =
        let w = own_allotted k.head f.name _ (block (with_fetches h.body.fetches (h.body.nests ++ Publish _ ∷ []))) lets in
        ap (λ (s : Statement). function_in (allocated s 0)) h.body.with.is ∙ ap function_in w.is ∙ w.named

    store_clear : (ms : Loads) → AreClaims items ms → (d : ℕ) (w : NestText) → slice_get k.nests d ≡ Some w → (s : Statement) → IsStore (text f) fs ms d w s → Clear Another s
    store_clear ms loads d w there (Store b kk cs e) is = λ other.
        let u = some_and _ (slice_get fs d) is.2 in
        let shape = nest_shape f.variables (bodies_from f.changes 0 names fs) (loops_after (said sch) f) h.extents k h.laid d w there in
        let right = of_definition a well free p c i (group_of q) input items refl few st
        marked ms loads place f at fs h.defined names d w shape cs e
        u.0 u.1 u.2 in
        let parts : parts_named a f.name ≡ Some (parts_of f) = ap (λ (o : Option Function). option_map parts_of o) (named_here a well place f at) in
        let wrong = subst (λ (m : ℕ). MatchOption (definition_in (parts_named a (function_in (allocated (statement_of q.body) b))) m) ⊥
        (λ D. ¬ IsDefinition a p (outline_of p c i (group_of q)) D cs e)) is.1 other.2 in
        let wrong_own = subst (λ (m : ℕ). MatchOption (definition_in (parts_named a (function_in (allocated (statement_of q.body) m))) d) ⊥
        (λ D. ¬ IsDefinition a p (outline_of p c i (group_of q)) D cs e)) is.0 wrong in
        let wrong_named = subst (λ (x : List ℕ). MatchOption (definition_in (parts_named a x) d) ⊥ (λ D. ¬ IsDefinition a p (outline_of p c i (group_of q)) D cs e)) own_buffer wrong_own in
        let wrong_here = subst (λ (o : Option _). MatchOption (definition_in o d) ⊥ (λ D. ¬ IsDefinition a p (outline_of p c i (group_of q)) D cs e)) parts wrong_named in
        both_match (λ D. IsDefinition a p (outline_of p c i (group_of q)) D cs e) (definition_in (Some (parts_of f)) d) right wrong_here
    store_clear ms loads d w there (Seq xs) is = absurd is
    store_clear ms loads d w there (For j x kind body) is = absurd is
    store_clear ms loads d w there (Let j pick forms) is = absurd is
    store_clear ms loads d w there (First j x y) is = absurd is
    store_clear ms loads d w there (Guard low high body) is = absurd is
    store_clear ms loads d w there (Alloc b x places) is = absurd is
    store_clear ms loads d w there (Fetch b x region) is = absurd is
    store_clear ms loads d w there (Publish x) is = absurd is

    steps_clear : (ss : List Step) (inner : Statements) → ClearAll Another inner → ClearAll Another (lines_to ss inner)
    steps_clear [] inner x = x
    steps_clear (Turns j span kind ∷ ss) inner x = ((λ e. e, steps_clear ss inner x), tt)
    steps_clear (Named j pick forms ∷ ss) inner x = (λ e. e, steps_clear ss inner x)
    steps_clear (Tested low high ∷ ss) inner x = ((λ e. e, steps_clear ss inner x), tt)

    nests_clear : (r : List Span1) (ms : Loads) (m at_line d : ℕ) (ns : List NestText) (xs : List Statement) (cs : List CodeClaim) →
        AreNests (text f) fs r ms m at_line d ns xs cs → AreClaims items ms →
        Numbered a entries items m cs → ((j : ℕ) (w : NestText) → slice_get ns j ≡ Some w → slice_get k.nests (d + j) ≡ Some w) → ClearAll Another (block xs)
    nests_clear r ms m at_line d [] xs cs is loads count there = subst (λ (ys : List Statement). ClearAll Another (block ys)) (sym is.0) tt
    nests_clear r ms m at_line d (w ∷ ns) xs [] is loads count there = absurd is
    nests_clear r ms m at_line d (w ∷ ns) xs (v ∷ cs) is loads count there =
        let nest = is.here.nest in
        let none : d + 0 ≡ d = omega arith in
        let zero_claim : m + 0 ≡ m = omega arith in
        let store = store_clear ms loads d w (ap (slice_get k.nests) (sym none) ∙ there 0 w refl) nest.store nest.stores in
        let here : ClearAll Another (block is.first) = subst (ClearAll Another) (sym nest.comes) (steps_clear w.steps (Then nest.store Empty) (store, tt)) in
        let own : IsClaimOf items f.name m = (v, ap (slice_get items) (sym zero_claim) ∙ count 0 v refl, is.here.claims.named) in
        let rest = nests_clear r (ms ++ (f.name, m) ∷ []) (m + 1) (at_line + block_lines (block is.first)) (d + 1) ns is.others cs is.behind
        (all_claims a entries items ms ((f.name, m) ∷ []) loads (own, tt))
        (λ j y e. let next : m + suc j ≡ (m + 1) + j = omega arith in ap (slice_get items) (sym next) ∙ count (suc j) y e)
        (λ j y e. let next : d + suc j ≡ (d + 1) + j = omega arith in ap (slice_get k.nests) (sym next) ∙ there (suc j) y e) in
        subst (λ (ys : List Statement). ClearAll Another (block ys)) (sym is.are) (joined_clear Another is.first is.others here rest)

    fetches_clear : (xs : List FetchText) (rest : List Statement) → ClearAll Another (block rest) → ClearAll Another (block (with_fetches xs rest))
    fetches_clear [] rest x = x
    fetches_clear (y ∷ xs) rest x = (λ e. e, (λ e. e, fetches_clear xs rest x))

    pub body_clear : Clear Another (statement_of q.body)
    body_clear =
        let b = h.body in
        let before_own = first_numbered a entries items first claims b.fetched b.own b.claimed numbered in
        let loads = fetched_loads a entries items (sites_of a (text f) fs k) (grid_scope k.grid) n 1 (line + first_lines k) (fetched_groups fs n 0 entries)
        b.fetches needs b.fetched b.fetching first before_own in
        let own_numbered = second_numbered a entries items first claims b.fetched b.own b.claimed numbered in
        let count : Numbered a entries items (first + length b.fetches) b.own = subst (λ (m : ℕ). Numbered a entries items (first + m) b.own) loads.1 own_numbered in
        let nests = nests_clear _ (loads_from first b.fetches) (first + length b.fetches) _ 0 k.nests b.nests b.own b.nested loads.0 count
        (λ j w e. let none : 0 + j ≡ j = omega arith in ap (slice_get k.nests) none ∙ e) in
        let inner = fetches_clear b.fetches (b.nests ++ Publish (last_claim first b.fetches k) ∷ []) (joined_clear Another b.nests (Publish (last_claim first b.fetches k) ∷ []) nests (λ e. e, tt)) in
        subst (Clear Another) (sym b.with.is) (steps_clear k.head (block (Alloc 0 f.name _ ∷ with_fetches b.fetches (b.nests ++ Publish (last_claim first b.fetches k) ∷ []))) (λ e. e, inner))

module _ (a : Algorithm) (sch : Schedule) (l : Lowered) (well : IsAlgorithm a) (legal : IsLegal a sch) (small : has_large (stored_functions a sch) ≡ false)
    (kept : region_fault a (stored_functions a sch) ≡ None) (all : are_whole (stored_functions a sch) ≡ true) (groups : HasGroups a (stored_functions a sch) l)
    (free : NamesNoLoad a) where
  none_at : (line : ℕ) → IsNotDefinitionAt a (plan_of l.plan) (certificate_of l.certificate) line → ⊥
  none_at line h =
      let entries = roots a sch l well legal small kept all groups in
      let items = l.certificate.claims.items in
      let p = plan_of l.plan in
      let c = certificate_of l.certificate in
      let x = from_map group_of l.plan.groups.items h.number h.group h.there in
      let q = x.0 in
      let me = made_at a sch l well legal small kept all groups h.number q x.1 in
      let w = found a sch (flags (subjects a sch)) me.stored a.functions h.number me.is in
      let b = placed_body a entries items 0 0 4 (stored_functions a sch) l.plan.groups.items items l.certificate.needs.items (groups.bodies all)
      (λ j v e. let none : 0 + j ≡ j = omega arith in ap (slice_get items) none ∙ e) h.number me.stored q me.is x.1 in
      let body = subst (λ (u : StoredText). HasBody a entries (0 + h.number) b.first_claim b.line u q b.claims b.needs) w.is b.body in
      let clear = body_clear a sch l well free groups.head.input.named (let few = few_claims a sch l well legal small kept all groups in omega (arith, few)) (marks a sch l well legal small
      kept all groups) entries
      h.number q w.place w.function w.at (0 + h.number) b.first_claim b.line b.claims b.needs body b.numbered in
      let first : Group → Here = λ u. start (line_told (group_line p h.number)) u in
      let stands = subst (λ (u : Group). Inside (λ s here. (line_told here.line ≡ line) × StoresAnother a p (outline_of p c h.number u) s) u.body (first u)) x.2 h.stands in
      none_inside (λ s. StoresAnother a p (outline_of p c h.number (group_of q)) s) line (statement_of q.body) clear (first (group_of q)) stands

pub stored : DefinitionsAreStored
stored a s l well legal small regions groups free all line h = none_at a s l well legal small (regions all).0 all groups free line h
