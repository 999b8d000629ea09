-- At each store of a group the own buffer is in scope, and what the checker's binders tell of the symbols is what was known of them when the definition's calls were bounded.
use Rattle.std.proofs.Common.{◌≡◌, ℕ, zero, suc, ◌+◌, ◌-◌, ◌<◌, ◌≤◌, Bool, true, false, List, [], ◌∷◌, ◌++◌, Some, None}
use Rattle.std.proofs.Common.{refl, sym, ap, ◌∙◌, subst, arith}
use Rattle.std.specs.Prelude.{◌==◌, if◌then◌else◌, slice_get}
use Rattle.lin.specs.declared.scope.Binding.{Binding}
use Rattle.lin.specs.declared.scope.Binding.TheVariants.{Loop as LoopBinding}
use Rattle.lin.specs.declared.span.Span1.{Span1}
use Rattle.plan.specs.declared.plan.Group.{Group as CodeGroup}
use Rattle.plan.specs.declared.stmt.Places.{Places}
use Rattle.plan.specs.declared.certificate.cert.Claim.{Claim as CodeClaim}
use Rattle.plan.specs.declared.certificate.cert.Need.{Need}
use Rattle.plan.specs.Plan.{Statement, Seq, For, Let, First, Guard, Alloc, Fetch, Store, Publish, Statements, Empty, Then, Plan, block}
use Rattle.plan.specs.View.{group_of, plan_of, statement_of}
use Rattle.plan.specs.Lines.{lines, block_lines, body_line}
use Rattle.plan.specs.Certificate.Certificate.{Certificate, certificate_of}
use Rattle.meaning.specs.Algorithm.{Function, Algorithm}
use Rattle.meaning.specs.Conditions.{IsAlgorithm}
use Rattle.soundness.specs.Origins.{Outline}
use Rattle.soundness.specs.Given.{outline_of}
use Rattle.soundness.specs.Obligations.{Known, Rules, places_of, more_buffers, within, onwards, in_block, in_loop, in_guard}
use Rattle.soundness.specs.Shown.{start}
use Rattle.soundness.specs.Binders.View.{grid_binders}
use Rattle.rules.specs.Bounding.Rules.{rules_of}
use Rattle.rules.specs.Bounding.Scopes.{most_symbols, picked_binding, symbol_count}
use Rattle.sched.specs.Schedule.{Schedule}
use Rattle.sched.specs.Legal.{IsLegal, said, loops_after}
use Rattle.sched.specs.Subjects.{subject_said, reductions_of}
use Rattle.sched.specs.Runs.{lines_to}
use Rattle.sched.specs.declared.skeleton.Step.{Step}
use Rattle.sched.specs.declared.skeleton.Step.TheVariants.{Turns, Named, Tested}
use Rattle.sched.specs.Skeleton.{NestText, SkeletonText}
use Rattle.lower.specs.declared.lowering.Lowered.{Lowered}
use Rattle.sched.specs.Stored.{FormulaText, StoredText}
use Rattle.blocks.specs.Stored.{stored_by, flags}
use Rattle.lower.specs.Stored.{stored_functions, has_large}
use Rattle.regions.specs.Faults.{are_whole}
use Rattle.lower.specs.Faults.{region_fault}
use Rattle.regions.specs.Regions.{bodies_from}
use Rattle.lower.specs.Owning.{IsLaidBy}
use Rattle.sched.specs.Loading.{Loads}
use Rattle.blocks.specs.Blocks.{dimensions_of, own_places}
use Rattle.lower.specs.Bodies.{last_claim}
use Rattle.blocks.specs.Bodies.{IsStore, AreNests}
use Rattle.sched.specs.Fetches.{Entry}
use Rattle.blocks.specs.Fetches.{FetchText, with_fetches}
use Rattle.lower.specs.Fetches.{Calls, AreFetched}
use Rattle.lower.specs.Groups.{HasBody, HasGroups}
use Rattle.completeness.specs.Laws.{IsStore as IsStoreLine}
use Rattle.completeness.specs.Owed.{EachLine, EachOf, BindBelow, AllBindBelow, AreSymbolsFew}
use Rattle.completeness.proofs.Standing.{AreLets, Rises, NestsRise, NamesOwn, names_own}
use Rattle.completeness.proofs.Laid.{subjects}
use Rattle.completeness.proofs.Served.{roots}
use Rattle.completeness.proofs.InForce.{zero_other}
use Rattle.std.proofs.Common.{length}
use Rattle.std.specs.List.{AllByRecursion}
use Rattle.lin.specs.Forms.{Form}
use Rattle.lin.proofs.TermLemmas.{all_weaker}
use Rattle.plan.specs.declared.stmt.Pick.{Pick}
use Rattle.plan.specs.declared.stmt.Pick.TheVariants.{Min, Max}
use Rattle.soundness.specs.Obligations.{Binder, Picked, more_binders}
use Rattle.rules.specs.Bounding.Scopes.{scope_of}
use Rattle.sched.specs.Around.{bind, bind_step, bind_steps, grid_scope, head_scope}
use Rattle.completeness.proofs.Limited.{StepIs, IsChoice, IsNestLimited, IsLimited}
use Rattle.completeness.proofs.GridCounts.{IsShort}
use Rattle.completeness.proofs.PureScopes.{loop_scope, let_more, grid_is, count_from}
use Rattle.completeness.proofs.NestWalk.{LetsFirst}

-- ---- what the binders at a store tell

-- this is known of the symbols, and none is bound from the one on
abbrev IsTold : List Binding → ℕ → List Binder → Type 0
IsTold scope n bs = (scope_of bs ≡ scope) × (symbol_count bs ≤ n)

let_scope : (scope : List Binding) (n i : ℕ) (pick : Pick) (fs : List Form) (bs : List Binder) → i ≡ n → i < most_symbols → IsChoice fs → IsTold scope n bs →
    IsTold (bind_step scope (Named i pick fs)) (n + 1) (Picked i pick fs ∷ bs)
let_scope scope n i pick fs bs first few some told = (
  let_more bs i pick fs (let count = told.1 in omega (arith, count, first)) few ∙ ap (λ (sc : List Binding). bind sc i (picked_binding pick fs)) told.0 ∙ picked_step scope i pick fs some,
  (let count = told.1 in omega (arith, count, first)),
)
  where
    picked_step : (scope : List Binding) (i : ℕ) (pick : Pick) (fs : List Form) → IsChoice fs → bind scope i (picked_binding pick fs) ≡ bind_step scope (Named i pick fs)
    picked_step scope i pick [] some = absurd some
    picked_step scope i Min (f ∷ fs) some = refl
    picked_step scope i Max (f ∷ fs) some = refl

rises_more : (n m : ℕ) (ts : List Step) → Rises n ts m → n ≤ m
rises_more n m [] r = omega (arith, r)
rises_more n m (Turns i x kind ∷ ts) r = (let more = rises_more (n + 1) m ts r.1 in omega (arith, more))
rises_more n m (Named i pick fs ∷ ts) r = (let more = rises_more (n + 1) m ts r.1 in omega (arith, more))
rises_more n m (Tested low high ∷ ts) r = rises_more n m ts r

module _ (g : StoredText) (fs : List FormulaText) (nests : List NestText) (places : List Places) (head : List Binding) where
  abbrev HasOwn : Known → Type 0
  HasOwn known = places_of known.buffers 0 ≡ Some places

  pub record BoundAt (s : Statement) (known : Known) : Type 0 where
    pub definition : ℕ
    pub nest : NestText
    pub loads : Loads
    pub stands : slice_get nests definition ≡ Some nest
    pub stores : IsStore g fs loads definition nest s
    pub own : HasOwn known
    pub scoped : scope_of known.binders ≡ bind_steps head nest.steps

  abbrev pub BoundHere : Statement → ℕ → Known → Type 0
  BoundHere s line known = IsStoreLine s → BoundAt s known

  module _ (O : Outline) (R : Rules) where
    -- ---- down to a store

    module _ (s : Statement) where
      abbrev code : List Step → Statements
      code ts = lines_to ts (Then s Empty)

      steps_bound : (ts : List Step) (n m : ℕ) → Rises n ts m → AllBindBelow most_symbols (code ts) → AllByRecursion StepIs ts → (scope : List Binding) (line : ℕ) (known : Known) → HasOwn known →
          IsTold scope n known.binders → ((line : ℕ) (known : Known) → HasOwn known → scope_of known.binders ≡ bind_steps scope ts → EachLine O R BoundHere s line known) →
          EachOf O R BoundHere (code ts) line known
      steps_bound [] n m r few limits scope line known own told k = (k line (within O R s (O.named (line + lines s - 1)) known) own told.0, tt)
      steps_bound (Turns j y kind ∷ ts) n m r few limits scope line known own told k =
          let body = Seq (code ts) in
          let a = For j y kind body in
          let inner = in_block O R (in_loop O R j y body (within O R a (O.named (line + lines a - 1)) known)) in (
            steps_bound ts (n + 1) m r.1 few.0.1 limits.1 (bind scope j (LoopBinding y)) (line + 1) inner own
                (loop_scope scope n j y known.binders r.0 few.0.0 limits.0.0 limits.0.1 told.0 told.1) k,
            tt,
          )
      steps_bound (Named j pick forms ∷ ts) n m r few limits scope line known own told k =
          let next = onwards O R (Let j pick forms) (O.named (line + 1 - 1)) known in (
            λ one. absurd one,
            steps_bound ts (n + 1) m r.1 few.1 limits.1 (bind_step scope (Named j pick forms)) (line + 1) next own
                (let_scope scope n j pick forms known.binders r.0 few.0 limits.0.1 told) k,
          )
      steps_bound (Tested low high ∷ ts) n m r few limits scope line known own told k =
          let a = Guard low high (Seq (code ts)) in
          let inner = in_block O R (in_guard O R low high (within O R a (O.named (line + lines a - 1)) known)) in
          (steps_bound ts n m r few.0 limits.1 scope (line + 1) inner own told k, tt)

    -- ---- nests one behind another

    -- no statement allots a buffer or gives a symbol a number
    abbrev Keep : Statements → Type 0
    Keep Empty = Unit {0}
    Keep (Then a rest) = (((known : Known) → more_buffers O R a known.buffers ≡ known.buffers) × ((bs : List Binder) → more_binders O R a bs ≡ bs)) × Keep rest

    steps_keep : (s : Statement) → Keep (Then s Empty) → (ts : List Step) → LetsFirst (λ i pick fs. ⊥) ts → Keep (lines_to ts (Then s Empty))
    steps_keep s k [] bare = k
    steps_keep s k (Turns i x kind ∷ ts) bare = ((λ known. refl, λ bs. refl), tt)
    steps_keep s k (Named i pick forms ∷ ts) bare = absurd bare.0
    steps_keep s k (Tested low high ∷ ts) bare = ((λ known. refl, λ bs. refl), tt)

    -- where these are known of the symbols before this one
    abbrev AllOwn : ℕ → Statements → Type 0
    AllOwn next all = (line : ℕ) (known : Known) → HasOwn known → IsTold head next known.binders → EachOf O R BoundHere all line known

    joined_own : (next : ℕ) (xs ys : List Statement) (line : ℕ) (known : Known) → EachOf O R BoundHere (block xs) line known → Keep (block xs) → HasOwn known → IsTold head next known.binders →
        AllOwn next (block ys) → EachOf O R BoundHere (block (xs ++ ys)) line known
    joined_own next [] ys line known h keep own told k = k line known own told
    joined_own next (a ∷ xs) ys line known h keep own told k = (
      h.0,
      joined_own next xs ys (line + lines a) (onwards O R a (O.named (line + lines a - 1)) known) h.1 keep.1 (ap (λ bs. places_of bs 0) (keep.0.0 known) ∙ own)
          (subst (IsTold head next) (sym (keep.0.1 known.binders)) told) k,
    )

    bind_parts : (xs ys : List Statement) → AllBindBelow most_symbols (block (xs ++ ys)) → AllBindBelow most_symbols (block xs) × AllBindBelow most_symbols (block ys)
    bind_parts [] ys h = (tt, h)
    bind_parts (a ∷ xs) ys h = (let r = bind_parts xs ys h.1 in ((h.0, r.0), r.1))

    one_store : (ms : Loads) (d : ℕ) (w : NestText) (s : Statement) → IsStore g fs ms d w s → slice_get nests d ≡ Some w →
        ((line : ℕ) (known : Known) → HasOwn known → scope_of known.binders ≡ bind_steps head w.steps → EachLine O R BoundHere s line known) × Keep (Then s Empty)
    one_store ms d w (Store b k at e) is stands = (
      λ line known own scoped one. record { definition = d; nest = w; loads = ms; stands = stands; stores = is; own = own; scoped = scoped },
      ((λ known. refl, λ bs. refl), tt),
    )
    one_store ms d w (Seq xs) is stands = absurd is
    one_store ms d w (For j x kind body) is stands = absurd is
    one_store ms d w (Let j pick forms) is stands = absurd is
    one_store ms d w (First j x y) is stands = absurd is
    one_store ms d w (Guard low high body) is stands = absurd is
    one_store ms d w (Alloc b x seats) is stands = absurd is
    one_store ms d w (Fetch b x region) is stands = absurd is
    one_store ms d w (Publish x) is stands = absurd is

    nests_own : (r : List Span1) (claim : ℕ) (ms : Loads) (m at_line d next : ℕ) (ns : List NestText) (xs : List Statement) (cs : List CodeClaim) → AreNests g fs r ms m at_line d ns xs cs →
        NestsRise next ns → AllByRecursion (λ (w : NestText). AllByRecursion StepIs w.steps) ns → AllByRecursion (λ (w : NestText). LetsFirst (λ i pick fs. ⊥) w.steps) ns →
        ((j : ℕ) (w : NestText) → slice_get ns j ≡ Some w → slice_get nests (d + j) ≡ Some w) → AllBindBelow most_symbols (block (xs ++ Publish claim ∷ [])) →
        AllOwn next (block (xs ++ Publish claim ∷ []))
    nests_own r claim ms m at_line d next [] xs cs is up limits bare there few line known own told =
        subst (λ (ys : List Statement). EachOf O R BoundHere (block (ys ++ Publish claim ∷ [])) line known) (sym is.0) (λ one. absurd one, tt)
    nests_own r claim ms m at_line d next (w ∷ ns) xs [] is up limits bare there few line known own told = absurd is
    nests_own r claim ms m at_line d next (w ∷ ns) xs (v ∷ cs) is up limits bare there few line known own told =
        let nest = is.here.nest in
        let none : d + 0 ≡ d = omega arith in
        let stands : slice_get nests d ≡ Some w = ap (slice_get nests) (sym none) ∙ there 0 w refl in
        let store = one_store ms d w nest.store nest.stores stands in
        let are : xs ++ Publish claim ∷ [] ≡ is.first ++ (is.others ++ Publish claim ∷ []) =
        ap (λ (ys : List Statement). ys ++ Publish claim ∷ []) is.are ∙ joined_twice is.first is.others (Publish claim ∷ []) in
        let parts = bind_parts is.first (is.others ++ Publish claim ∷ []) (subst (λ (ys : List Statement). AllBindBelow most_symbols (block ys)) are few) in
        let low : AllBindBelow most_symbols (lines_to w.steps (Then nest.store Empty)) = subst (λ (all : Statements). AllBindBelow most_symbols all) nest.comes parts.0 in
        let here : EachOf O R BoundHere (block is.first) line known = subst (λ (all : Statements). EachOf O R BoundHere all line known) (sym nest.comes)
        (steps_bound nest.store w.steps next up.0 up.1 low limits.0 head line known own told store.0) in
        let keep : Keep (block is.first) = subst Keep (sym nest.comes) (steps_keep nest.store store.1 w.steps bare.0) in
        let more = rises_more next up.0 w.steps up.1 in
        let rest = nests_own r claim (ms ++ (g.subject.name, m) ∷ []) (m + 1) (at_line + block_lines (block is.first)) (d + 1) up.0 ns is.others cs is.behind up.2 limits.1 bare.1
        (λ j y e. let after : d + suc j ≡ (d + 1) + j = omega arith in ap (slice_get nests) (sym after) ∙ there (suc j) y e) parts.1 in
        let later : AllOwn next (block (is.others ++ Publish claim ∷ [])) = λ line known own told. rest line known own (told.0, (let count = told.1 in omega (arith, count, more))) in
        subst (λ (ys : List Statement). EachOf O R BoundHere (block ys) line known) (sym are) (joined_own next is.first (is.others ++ Publish claim ∷ []) line known here keep own told later)
      where
        joined_twice : (xs ys zs : List Statement) → (xs ++ ys) ++ zs ≡ xs ++ (ys ++ zs)
        joined_twice [] ys zs = refl
        joined_twice (a ∷ xs) ys zs = (let rest = joined_twice xs ys zs in ap (λ (r : List Statement). a ∷ r) rest)

    -- ---- before the nests

    fetches_own : (calls : Calls) (grid : List Binding) (n b at_line : ℕ) (xs : List (ℕ × Entry)) (ts : List FetchText) (ws : List Need) (cs : List CodeClaim) → AreFetched calls grid n b
        at_line xs ts ws cs → 1 ≤ b → (next : ℕ) (rest : List Statement) → AllBindBelow most_symbols (block (with_fetches ts rest)) → (AllBindBelow most_symbols (block rest) → AllOwn next
        (block rest)) →
        AllOwn next (block (with_fetches ts rest))
    fetches_own calls grid n b at_line [] [] [] [] is some next rest few k line known own told = k few line known own told
    fetches_own calls grid n b at_line [] [] [] (v ∷ cs) is some next rest few k line known own told = absurd is
    fetches_own calls grid n b at_line [] [] (w ∷ ws) cs is some next rest few k line known own told = absurd is
    fetches_own calls grid n b at_line [] (f ∷ ts) ws cs is some next rest few k line known own told = absurd is
    fetches_own calls grid n b at_line (x ∷ xs) [] ws cs is some next rest few k line known own told = absurd is
    fetches_own calls grid n b at_line (x ∷ xs) (f ∷ ts) [] cs is some next rest few k line known own told = absurd is
    fetches_own calls grid n b at_line (x ∷ xs) (f ∷ ts) (w ∷ ws) [] is some next rest few k line known own told = absurd is
    fetches_own calls grid n b at_line (x ∷ xs) (f ∷ ts) (w ∷ ws) (v ∷ cs) is some next rest few k line known own told =
        let buffer = is.0.buffered in
        let test : (0 == f.buffer) ≡ false = zero_less f.buffer (omega (arith, some, buffer)) in
        let seats = ap (λ (b : Bool). if b then Some f.places else places_of known.buffers 0) test ∙ own in
        (λ one. absurd one, (λ one. absurd one, fetches_own calls grid n (b + 1) (at_line + 2) xs ts ws cs is.2 (omega arith) next rest few.1.1 k _ _ seats told))
      where
        zero_less : (b : ℕ) → 1 ≤ b → (0 == b) ≡ false
        zero_less zero h = absurd (omega (arith, h))
        zero_less (suc b) h = zero_other b

    lets_own : (ts : List Step) (n next : ℕ) (inner : Statements) → AreLets ts → Rises n ts next → AllByRecursion StepIs ts → AllBindBelow most_symbols (lines_to ts inner) → (scope : List Binding) →
        (AllBindBelow most_symbols inner → (line : ℕ) (known : Known) → IsTold (bind_steps scope ts) next known.binders → EachOf O R BoundHere inner line known) → (line : ℕ) (known : Known) →
        IsTold scope n known.binders → EachOf O R BoundHere (lines_to ts inner) line known
    lets_own [] n next inner lets rises limits few scope k line known told = k few line known (told.0, (let count = told.1 in omega (arith, count, rises)))
    lets_own (Turns i x kind ∷ ts) n next inner lets rises limits few scope k line known told = absurd lets
    lets_own (Named i pick forms ∷ ts) n next inner lets rises limits few scope k line known told = (
      λ one. absurd one,
      lets_own ts (n + 1) next inner lets rises.1 limits.1 few.1 (bind_step scope (Named i pick forms)) k _ _ (let_scope scope n i pick forms known.binders rises.0 few.0 limits.0.1 told),
    )
    lets_own (Tested low high ∷ ts) n next inner lets rises limits few scope k line known told = absurd lets

-- ---- groups

module _ (a : Algorithm) (sch : Schedule) (l : Lowered) (well : IsAlgorithm a) (legal : IsLegal a sch) (small : has_large (stored_functions a sch) ≡ false)
    (kept : region_fault a (stored_functions a sch) ≡ None) (all : are_whole (stored_functions a sch) ≡ true) (groups : HasGroups a (stored_functions a sch) l)
    (few : AreSymbolsFew (plan_of l.plan)) where
  abbrev entries : List Entry
  entries = roots a sch l well legal small kept all groups

  abbrev marks : List Bool
  marks = flags (subjects a sch)

  abbrev text : Function → StoredText
  text f = stored_by a marks f.variables f.value f.changes (subject_said a sch f) (loops_after (said sch) f)

  abbrev plan : Plan
  plan = plan_of l.plan

  abbrev cert : Certificate
  cert = certificate_of l.certificate

  module _ (n : ℕ) (q : CodeGroup) (f : Function) (first line : ℕ) (claims : List CodeClaim) (needs : List Need) (h : HasBody a entries n first line (text f) q claims needs)
      (laid : IsLaidBy (text f) h.extents h.skeleton) (limits : IsLimited h.skeleton) (grid : q.grid.items ≡ h.skeleton.grid) (short : AllByRecursion IsShort h.skeleton.grid)
      (narrow : length h.skeleton.grid ≤ most_symbols) (bare : AllByRecursion (λ (w : NestText). LetsFirst (λ i pick fs. ⊥) w.steps) h.skeleton.nests)
      (few_here : BindBelow most_symbols (statement_of q.body)) where
    abbrev k : SkeletonText
    k = h.skeleton

    abbrev fs : List FormulaText
    fs = h.formulas

    abbrev g : StoredText
    g = text f

    abbrev own : List Places
    own = own_places (dimensions_of g h.extents k)

    abbrev O : Outline
    O = outline_of plan cert n (group_of q)

    abbrev R : Rules
    R = rules_of a plan cert n

    abbrev rest : List Statement
    rest = h.body.nests ++ Publish (last_claim first h.body.fetches k) ∷ []

    names : NamesOwn k
    names = names_own f.variables (bodies_from f.changes 0 (reductions_of f.changes) fs) g.placed h.extents k h.laid

    abbrev Here : Statement → ℕ → Known → Type 0
    Here s line known = BoundHere g fs k.nests own (head_scope k) s line known

    steps_limited : AllByRecursion (λ (w : NestText). AllByRecursion StepIs w.steps) k.nests
    steps_limited = all_weaker IsNestLimited (λ (w : NestText). AllByRecursion StepIs w.steps) (λ w h. h.steps) k.nests limits.nests

    pub body_bound : EachLine O R Here (statement_of q.body) (body_line plan n) (start (grid_binders q.grid.items))
    body_bound =
        let b = h.body in
        let claim = last_claim first b.fetches k in
        let none : (j : ℕ) (w : NestText) → slice_get k.nests j ≡ Some w → slice_get k.nests (0 + j) ≡ Some w = λ j w e. let zero_first : 0 + j ≡ j = omega arith in ap (slice_get k.nests)
        zero_first ∙ e in
        let nests : AllBindBelow most_symbols (block rest) → (line : ℕ) (known : Known) → places_of known.buffers 0 ≡ Some own → IsTold (head_scope k) names.next known.binders →
        EachOf O R Here (block rest) line known =
        λ low. nests_own g fs k.nests own (head_scope k) O R _ claim _ _ _ 0 names.next k.nests b.nests b.own b.nested names.nests_rise steps_limited bare none low in
        let inner : AllBindBelow most_symbols (block (Alloc 0 f.name own ∷ with_fetches b.fetches rest)) → (line : ℕ) (known : Known) → IsTold (head_scope k) names.next known.binders →
        EachOf O R Here (block (Alloc 0 f.name own ∷ with_fetches b.fetches rest)) line known =
        λ low line known told. (
          λ one. absurd one,
          fetches_own g fs k.nests own (head_scope k) O R _ _ n 1 _ _ b.fetches needs b.fetched b.fetching (omega arith) names.next rest low.1 nests (line + 1)
              (onwards O R (Alloc 0 f.name own) (O.named (line + 1 - 1)) known) refl told,
        ) in
        let low : AllBindBelow most_symbols (lines_to k.head (block (Alloc 0 f.name own ∷ with_fetches b.fetches rest))) = subst (BindBelow most_symbols) b.with.is few_here in
        let count = count_from 0 k.grid in
        let bound_here = lets_own g fs k.nests own (head_scope k) O R k.head (length k.grid) names.next (block (Alloc 0 f.name own ∷ with_fetches b.fetches rest)) names.lets names.rises
        limits.head low (grid_scope k.grid) inner (body_line plan n) (start (grid_binders k.grid)) (grid_is k.grid short narrow, omega (arith, count)) in
        subst (λ (s : Statement). EachLine O R Here s (body_line plan n) (start (grid_binders q.grid.items))) (sym b.with.is)
        (subst (λ (counts : List ℕ). EachOf O R Here (lines_to k.head (block (Alloc 0 f.name own ∷ with_fetches b.fetches rest))) (body_line plan n) (start (grid_binders counts))) (sym
        grid) bound_here)
