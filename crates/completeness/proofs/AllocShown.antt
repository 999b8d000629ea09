-- What the lines `alloc` of whole functions owe is shown: their buffers are not in scope.
use Rattle.std.proofs.Common.{◌≡◌, ℕ, ◌+◌, ◌<◌, ◌≤◌, Bool, true, false, ◌&&◌, List, [], ◌∷◌, ◌++◌, Option, Some, None, refl, sym, ap, ◌∙◌, subst, arith}
use Rattle.std.specs.Prelude.{◌==◌, if◌then◌else◌, slice_get}
use Rattle.std.specs.List.{AllByRecursion}
use Rattle.std.proofs.lemmas.Bool.Decides.{nat_tests}
use Rattle.lin.specs.declared.span.Span1.{Span1}
use Rattle.lin.specs.declared.scope.Binding.{Binding}
use Rattle.plan.specs.declared.plan.Group.{Group as CodeGroup}
use Rattle.plan.specs.declared.stmt.Places.{Places}
use Rattle.plan.specs.declared.certificate.cert.Claim.{Claim as CodeClaim}
use Rattle.plan.specs.declared.certificate.cert.Need.{Need}
use Rattle.plan.specs.Plan.{Statement, Seq, For, Let, First, Guard, Alloc, Fetch, Store, Publish, Statements, Empty, Then, Group, Plan, block}
use Rattle.plan.specs.View.{group_of, plan_of, statement_of}
use Rattle.plan.specs.Lines.{block_lines, body_line}
use Rattle.plan.specs.Certificate.Certificate.{Certificate, certificate_of}
use Rattle.meaning.specs.Algorithm.{Algorithm}
use Rattle.meaning.specs.Conditions.{IsAlgorithm}
use Rattle.soundness.specs.Origins.{Outline}
use Rattle.soundness.specs.Given.{outline_of}
use Rattle.soundness.specs.Obligations.{Buffer, Known, Rules, places_of, is_free, obligations}
use Rattle.soundness.specs.Shown.{Nests, all_shown, start}
use Rattle.soundness.specs.Binders.View.{grid_binders}
use Rattle.rules.specs.Bounding.Rules.{rules_of}
use Rattle.headline.proofs.Lists.{from_map}
use Rattle.sched.specs.Schedule.{Schedule}
use Rattle.sched.specs.Legal.{IsLegal}
use Rattle.sched.specs.declared.skeleton.Step.{Step}
use Rattle.sched.specs.declared.skeleton.Step.TheVariants.{Turns, Named, Tested}
use Rattle.sched.specs.Runs.{lines_to}
use Rattle.sched.specs.Skeleton.{NestText, SkeletonText}
use Rattle.lower.specs.declared.lowering.Lowered.{Lowered}
use Rattle.sched.specs.Stored.{FormulaText, StoredText}
use Rattle.lower.specs.Stored.{stored_functions, has_large}
use Rattle.regions.specs.Faults.{are_whole}
use Rattle.lower.specs.Faults.{region_fault}
use Rattle.regions.specs.Regions.{bodies_from}
use Rattle.sched.specs.Around.{grid_scope}
use Rattle.regions.specs.Taken.{sites_of}
use Rattle.sched.specs.Loading.{Loads}
use Rattle.blocks.specs.Blocks.{dimensions_of, own_places}
use Rattle.blocks.specs.Bodies.{first_lines, IsStore, AreNests}
use Rattle.lower.specs.Bodies.{last_claim}
use Rattle.sched.specs.Fetches.{Entry}
use Rattle.blocks.specs.Fetches.{FetchText, with_fetches}
use Rattle.lower.specs.Fetches.{Calls, AreFetched, fetched_groups}
use Rattle.lower.specs.Groups.{HasBody, HasGroups}
use Rattle.completeness.specs.Laws.{IsAlloc}
use Rattle.completeness.specs.Owed.{EachLine, EachOf, OweShown, AllocLinesOweShown}
use Rattle.completeness.proofs.Standing.{AreLets, NamesOwn, names_own}
use Rattle.completeness.proofs.Served.{roots, made_at}
use Rattle.completeness.proofs.Unlike.{placed_body}

-- ---- buffers

-- all of them have smaller numbers
abbrev AreBelow : ℕ → List Buffer → Type 0
AreBelow b xs = AllByRecursion (λ x. x.name < b) xs

none_there : (b : ℕ) (xs : List Buffer) → AreBelow b xs → places_of xs b ≡ None
none_there b [] h = refl
none_there b (x ∷ xs) h =
    let less = h.0 in
    let differs : (b == x.name) ≡ false = grind (arith, nat_tests) in
    ap (λ (t : Bool). if t then Some x.places else places_of xs b) differs ∙ none_there b xs h.1

below_more : (b c : ℕ) (xs : List Buffer) → b ≤ c → AreBelow b xs → AreBelow c xs
below_more b c [] le h = tt
below_more b c (x ∷ xs) le h = (let less = h.0 in omega (arith, less, le), below_more b c xs le h.1)

-- ---- line by line

module _ (outline : Outline) (rules : Rules) (P : Statement → ℕ → Known → Type 0) (other : (s : Statement) (line : ℕ) (known : Known) → (IsAlloc s → ⊥) → P s line known)
    (free : (b : ℕ) (x : List ℕ) (places : List Places) (line : ℕ) (known : Known) → AreBelow b known.buffers → P (Alloc b x places) line known) where
  abbrev Each : Statements → ℕ → Known → Type 0
  Each code line known = EachOf outline rules P code line known

  abbrev AllWays : Statements → Type 0
  AllWays code = (line : ℕ) (known : Known) → Each code line known

  joined_each : (xs ys : List Statement) (line : ℕ) (known : Known) → Each (block xs) line known → AllWays (block ys) → Each (block (xs ++ ys)) line known
  joined_each [] ys line known h k = k line known
  joined_each (a ∷ xs) ys line known h k = (h.0, joined_each xs ys _ _ h.1 k)

  steps_each : (ts : List Step) (inner : Statements) → AllWays inner → AllWays (lines_to ts inner)
  steps_each [] inner k line known = k line known
  steps_each (Turns i x kind ∷ ts) inner k line known = (steps_each ts inner k _ _, tt)
  steps_each (Named i pick fs ∷ ts) inner k line known = (other (Let i pick fs) _ _ (λ f. f), steps_each ts inner k _ _)
  steps_each (Tested low high ∷ ts) inner k line known = (steps_each ts inner k _ _, tt)

  store_each : (g : StoredText) (fs : List FormulaText) (ls : Loads) (d : ℕ) (w : NestText) (s : Statement) → IsStore g fs ls d w s → AllWays (Then s Empty)
  store_each g fs ls d w (Store b k at e) is line known = (other (Store b k at e) _ _ (λ f. f), tt)
  store_each g fs ls d w (Seq xs) is line known = absurd is
  store_each g fs ls d w (For j x kind body) is line known = absurd is
  store_each g fs ls d w (Let j pick forms) is line known = absurd is
  store_each g fs ls d w (First j x y) is line known = absurd is
  store_each g fs ls d w (Guard low high body) is line known = absurd is
  store_each g fs ls d w (Alloc b x places) is line known = absurd is
  store_each g fs ls d w (Fetch b x region) is line known = absurd is
  store_each g fs ls d w (Publish x) is line known = absurd is

  nests_each : (g : StoredText) (fs : List FormulaText) (r : List Span1) (claim : ℕ) (ms : Loads) (m at_line d : ℕ) (ns : List NestText) (xs : List Statement) (cs : List CodeClaim) →
      AreNests g fs r ms m at_line d ns xs cs → AllWays (block (xs ++ Publish claim ∷ []))
  nests_each g fs r claim ms m at_line d [] xs cs is line known =
      subst (λ (ys : List Statement). Each (block (ys ++ Publish claim ∷ [])) line known) (sym is.0) (other (Publish claim) _ _ (λ f. f), tt)
  nests_each g fs r claim ms m at_line d (w ∷ ns) xs [] is line known = absurd is
  nests_each g fs r claim ms m at_line d (w ∷ ns) xs (v ∷ cs) is line known =
      let nest = is.here.nest in
      let here : Each (block is.first) line known = subst (λ (code : Statements). Each code line known) (sym nest.comes)
      (steps_each w.steps (Then nest.store Empty) (store_each g fs ms d w nest.store nest.stores) line known) in
      let joined = joined_each is.first (is.others ++ Publish claim ∷ []) line known here
      (nests_each g fs r claim (ms ++ (g.subject.name, m) ∷ []) (m + 1) (at_line + block_lines (block is.first)) (d + 1) ns is.others cs is.behind) in
      let are : xs ++ Publish claim ∷ [] ≡ is.first ++ (is.others ++ Publish claim ∷ []) =
      ap (λ (ys : List Statement). ys ++ Publish claim ∷ []) is.are ∙ joined_twice is.first is.others (Publish claim ∷ []) in
      subst (λ (ys : List Statement). Each (block ys) line known) (sym are) joined
    where
      joined_twice : (xs ys zs : List Statement) → (xs ++ ys) ++ zs ≡ xs ++ (ys ++ zs)
      joined_twice [] ys zs = refl
      joined_twice (a ∷ xs) ys zs = (let rest = joined_twice xs ys zs in ap (λ (r : List Statement). a ∷ r) rest)

  -- ---- where all buffers in scope have smaller numbers

  abbrev Under : ℕ → Statements → Type 0
  Under b code = (line : ℕ) (known : Known) → AreBelow b known.buffers → Each code line known

  lets_each : (ts : List Step) (b : ℕ) (inner : Statements) → AreLets ts → Under b inner → Under b (lines_to ts inner)
  lets_each [] b inner lets k line known below = k line known below
  lets_each (Turns i x kind ∷ ts) b inner lets k line known below = absurd lets
  lets_each (Named i pick fs ∷ ts) b inner lets k line known below = (other (Let i pick fs) _ _ (λ f. f), lets_each ts b inner lets k _ _ below)
  lets_each (Tested low high ∷ ts) b inner lets k line known below = absurd lets

  alloc_each : (b : ℕ) (x : List ℕ) (places : List Places) (rest : Statements) → Under (b + 1) rest → Under b (Then (Alloc b x places) rest)
  alloc_each b x places rest k line known below = (free b x places _ _ below, k _ _ (omega arith, below_more b (b + 1) known.buffers (omega arith) below))

  fetches_each : (calls : Calls) (grid : List Binding) (n b at_line : ℕ) (xs : List (ℕ × Entry)) (fs : List FetchText) (ws : List Need) (cs : List CodeClaim) →
      AreFetched calls grid n b at_line xs fs ws cs → (rest : List Statement) → AllWays (block rest) → Under b (block (with_fetches fs rest))
  fetches_each calls grid n b at_line [] [] [] [] is rest k line known below = k line known
  fetches_each calls grid n b at_line [] [] [] (v ∷ cs) is rest k line known below = absurd is
  fetches_each calls grid n b at_line [] [] (w ∷ ws) cs is rest k line known below = absurd is
  fetches_each calls grid n b at_line [] (f ∷ fs) ws cs is rest k line known below = absurd is
  fetches_each calls grid n b at_line (x ∷ xs) [] ws cs is rest k line known below = absurd is
  fetches_each calls grid n b at_line (x ∷ xs) (f ∷ fs) [] cs is rest k line known below = absurd is
  fetches_each calls grid n b at_line (x ∷ xs) (f ∷ fs) (w ∷ ws) [] is rest k line known below = absurd is
  fetches_each calls grid n b at_line (x ∷ xs) (f ∷ fs) (w ∷ ws) (v ∷ cs) is rest k line known below =
      let named : f.buffer ≡ b = is.0.buffered in (
        free f.buffer f.function f.places _ _ (below_more b f.buffer known.buffers (omega (arith, named)) below),
        (
          other (Fetch f.buffer f.group f.region) _ _ (λ f. f),
          fetches_each calls grid n (b + 1) (at_line + 2) xs fs ws cs is.2 rest k _ _ (omega (arith, named), below_more b (b + 1) known.buffers (omega arith) below),
        ),
      )

-- ---- groups

module _ (a : Algorithm) (sch : Schedule) (l : Lowered) (well : IsAlgorithm a) (legal : IsLegal a sch) (small : has_large (stored_functions a sch) ≡ false)
    (kept : region_fault a (stored_functions a sch) ≡ None) (all : are_whole (stored_functions a sch) ≡ true) (groups : HasGroups a (stored_functions a sch) l) where
  abbrev entries : List Entry
  entries = roots a sch l well legal small kept all groups

  abbrev stored : List StoredText
  stored = stored_functions a sch

  abbrev made : List CodeGroup
  made = l.plan.groups.items

  abbrev plan : Plan
  plan = plan_of l.plan

  abbrev cert : Certificate
  cert = certificate_of l.certificate

  module _ (n c line : ℕ) (g : StoredText) (p : CodeGroup) (claims : List CodeClaim) (needs : List Need) (h : HasBody a entries n c line g p claims needs) where
    abbrev k : SkeletonText
    k = h.skeleton

    abbrev fs : List FormulaText
    fs = h.formulas

    abbrev rest : List Statement
    rest = h.body.nests ++ Publish (last_claim c h.body.fetches k) ∷ []

    abbrev places : List Places
    places = own_places (dimensions_of g h.extents k)

    abbrev O : Outline
    O = outline_of plan cert n (group_of p)

    abbrev R : Rules
    R = rules_of a plan cert n

    abbrev Shown : Statement → ℕ → Known → Type 0
    Shown s at_line known = IsAlloc s → (nests : Nests) → all_shown R nests (obligations O R s at_line known) ≡ true

    not_alloc : (s : Statement) (at_line : ℕ) (known : Known) → (IsAlloc s → ⊥) → Shown s at_line known
    not_alloc s at_line known none is = absurd (none is)

    free_shown : (b : ℕ) (x : List ℕ) (seats : List Places) (at_line : ℕ) (known : Known) → AreBelow b known.buffers → Shown (Alloc b x seats) at_line known
    free_shown b x seats at_line known below is nests = ap (λ (o : Option (List Places)). is_free o && true) (none_there b known.buffers below)

    body_shown : EachLine O R Shown (statement_of p.body) (body_line plan n) (start (grid_binders p.grid.items))
    body_shown =
        let b = h.body in
        let claim = last_claim c b.fetches k in
        let names : NamesOwn k = names_own g.subject.variables (bodies_from g.changes 0 g.subject.reductions fs) g.placed h.extents k h.laid in
        let nests = nests_each O R Shown not_alloc free_shown g fs _ claim _ _ _ 0 k.nests b.nests b.own b.nested in
        let fetches : Under O R Shown not_alloc free_shown 1 (block (with_fetches b.fetches rest)) =
        fetches_each O R Shown not_alloc free_shown (sites_of a g fs k) (grid_scope k.grid) n 1 (line + first_lines k) (fetched_groups fs n 0 entries) b.fetches needs b.fetched
        b.fetching rest nests in
        let inner : Under O R Shown not_alloc free_shown 0 (block (Alloc 0 g.subject.name places ∷ with_fetches b.fetches rest)) =
        alloc_each O R Shown not_alloc free_shown 0 g.subject.name places (block (with_fetches b.fetches rest)) fetches in
        let shown = lets_each O R Shown not_alloc free_shown k.head 0 (block (Alloc 0 g.subject.name places ∷ with_fetches b.fetches rest)) names.lets inner
        (body_line plan n) (start (grid_binders p.grid.items)) tt in
        subst (λ (s : Statement). EachLine O R Shown s (body_line plan n) (start (grid_binders p.grid.items))) (sym b.with.is) shown

  shown_at : (n : ℕ) (q : CodeGroup) → slice_get made n ≡ Some q → OweShown IsAlloc a plan cert n (group_of q)
  shown_at n q there =
      let me = made_at a sch l well legal small kept all groups n q there in
      let b = placed_body a entries l.certificate.claims.items 0 0 4 stored made l.certificate.claims.items l.certificate.needs.items (groups.bodies all)
      (λ j v e. let none : 0 + j ≡ j = omega arith in ap (slice_get l.certificate.claims.items) none ∙ e) n me.stored q me.is there in
      let counted : 0 + n ≡ n = omega arith in
      let body = subst (λ (i : ℕ). HasBody a entries i b.first_claim b.line me.stored q b.claims b.needs) counted b.body in
      body_shown n b.first_claim b.line me.stored q b.claims b.needs body

pub shown : AllocLinesOweShown
shown a s l well legal small regions groups all asked n g at =
    let x = from_map group_of l.plan.groups.items n g at in
    subst (λ (u : Group). OweShown IsAlloc a (plan_of l.plan) (certificate_of l.certificate) n u) (sym x.2) (shown_at a s l well legal small (regions all).0 all groups n x.0 x.1)
