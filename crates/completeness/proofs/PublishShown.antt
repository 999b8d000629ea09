-- What the lines `publish` of whole functions owe is shown: the claim of the last definition is in force there, and the own region lies in its region.
use Rattle.std.proofs.Common.{◌≡◌, ℕ, zero, suc, ◌+◌, ◌-◌, ◌*◌, ◌≤◌, Bool, true, false, ◌&&◌, ◌||◌, List, [], ◌∷◌, ◌++◌, length, map, Some, None, refl, sym, ap, ◌∙◌, subst, arith}
use Rattle.std.specs.Prelude.{◌==◌, if◌then◌else◌, slice_get}
use Rattle.std.specs.List.{AllByRecursion}
use Rattle.std.proofs.lemmas.Bool.Decides.{nat_tests}
use Rattle.lin.specs.Regions.{span_inside}
use Rattle.lin.specs.declared.span.Span1.{Span1}
use Rattle.plan.specs.declared.plan.Group.{Group as CodeGroup}
use Rattle.plan.specs.declared.stmt.Places.{Places}
use Rattle.plan.specs.declared.certificate.cert.Claim.{Claim as CodeClaim}
use Rattle.plan.specs.declared.certificate.cert.Need.{Need}
use Rattle.plan.specs.Plan.{Statement, Seq, For, Let, First, Guard, Alloc, Fetch, Store, Publish, Statements, Empty, Then, Group, Plan, block}
use Rattle.plan.specs.View.{group_of, plan_of, statement_of}
use Rattle.plan.specs.Lines.{lines, block_lines, body_line}
use Rattle.plan.specs.Certificate.Cells.{own_region}
use Rattle.plan.specs.Certificate.Certificate.{Claim, Certificate, certificate_of, claim_of}
use Rattle.meaning.specs.Algorithm.{Function, Algorithm}
use Rattle.meaning.specs.Conditions.{IsAlgorithm}
use Rattle.meaning.specs.Conditions as algorithm
use Rattle.meaning.specs.Names.{same_name}
use Rattle.soundness.specs.Origins.{Outline}
use Rattle.soundness.specs.Given.{function_named, claim_or_none, named_from, outline_of}
use Rattle.soundness.specs.Obligations.{Binder, Known, Rules, is_member, is_usable, onwards, obligations}
use Rattle.soundness.specs.Shown.{Nests, are_within, all_shown, start}
use Rattle.soundness.specs.Binders.View.{grid_binders}
use Rattle.rules.specs.Bounding.Called.{update_count}
use Rattle.rules.specs.Bounding.Rules.{or_nowhere, rules_of}
use Rattle.rules.specs.Bounding.Scopes.{scope_of}
use Rattle.headline.proofs.Lists.{at_map, from_map}
use Rattle.sched.specs.Schedule.{Schedule}
use Rattle.sched.specs.Legal.{IsLegal}
use Rattle.sched.specs.declared.schedule.Split.{Split}
use Rattle.sched.specs.declared.numbers.Extent.{Extent}
use Rattle.sched.specs.declared.numbers.Numbers.{Numbers}
use Rattle.sched.specs.declared.skeleton.Step.{Step}
use Rattle.sched.specs.declared.skeleton.Step.TheVariants.{Turns, Named, Tested}
use Rattle.sched.specs.Numbers.{numbers_named}
use Rattle.sched.specs.Runs.{lines_to}
use Rattle.sched.specs.Skeleton.{NestText, SkeletonText}
use Rattle.lower.specs.declared.lowering.Lowered.{Lowered}
use Rattle.sched.specs.Stored.{FormulaText, StoredText}
use Rattle.lower.specs.Stored.{stored_functions, has_large}
use Rattle.regions.specs.Faults.{are_whole}
use Rattle.lower.specs.Faults.{region_fault}
use Rattle.regions.specs.Regions.{bodies_from}
use Rattle.sched.specs.Around.{grid_scope}
use Rattle.lower.specs.Owning.{IsExtent, IsLaidBy}
use Rattle.regions.specs.Taken.{sites_of}
use Rattle.sched.specs.Loading.{Loads}
use Rattle.blocks.specs.Blocks.{LayText, lay_over, dimension_of, dimensions_of, owned_region, claimed_region, own_places}
use Rattle.blocks.specs.Bodies.{step_lines, first_lines, IsStore, AreNests}
use Rattle.lower.specs.Bodies.{last_claim}
use Rattle.sched.specs.Fetches.{Entry}
use Rattle.blocks.specs.Fetches.{FetchText, Claims, with_fetches}
use Rattle.lower.specs.Fetches.{fetched_groups, loads_from}
use Rattle.lower.specs.Groups.{HasBody, HasGroups}
use Rattle.lower.proofs.Blocking.{CutFits, IsSmall}
use Rattle.lower.proofs.Covering.{NumbersAre}
use Rattle.lower.proofs.Owners as owners
use Rattle.completeness.specs.Laws.{IsPublish}
use Rattle.completeness.specs.Owed.{EachLine, EachOf, OweShown, IsNearSpan, AreClaimsNear, PublishLinesOweShown}
use Rattle.completeness.proofs.Standing.{AreLets, NamesOwn, names_own, nests_long}
use Rattle.completeness.proofs.Owned.{same_extents, same_skeleton}
use Rattle.completeness.proofs.Served.{roots, made_at}
use Rattle.completeness.proofs.Spots.{has_first}
use Rattle.completeness.proofs.ClaimLines.{known_stored}
use Rattle.completeness.proofs.Counts.{fetches_claim, bodies_many}
use Rattle.completeness.proofs.Unlike.{get_second, placed_body}
use Rattle.completeness.proofs.ClaimEnds.{AreSome}
use Rattle.completeness.proofs.OwnClaimed.{dimension_inside}

-- ---- the claims of a statement

pub named_has : (m : ℕ) (cs : List Claim) (j : ℕ) (v : Claim) (line : ℕ) → slice_get cs j ≡ Some v → v.line ≡ line → is_member (m + j) (named_from m cs line) ≡ true
named_has m [] j v line at is = absurd (cc at)
named_has m (c ∷ cs) zero v line at is =
    let one : c ≡ v = cc at in
    let here : c.line ≡ line = ap (λ (k : Claim). k.line) one ∙ is in
    let test : (c.line == line) ≡ true = grind (arith, nat_tests) in
    let same : (m == m + 0) ≡ true = grind (arith, nat_tests) in
    ap (λ (b : Bool). is_member (m + 0) (if b then m ∷ named_from (suc m) cs line else named_from (suc m) cs line)) test
    ∙ ap (λ (b : Bool). b || is_member (m + 0) (named_from (suc m) cs line)) same
named_has m (c ∷ cs) (suc j) v line at is = of (c.line == line)
    (let next : suc m + j ≡ m + suc j = omega arith in ap (λ (i : ℕ). is_member i (named_from (suc m) cs line)) (sym next) ∙ named_has (suc m) cs j v line at is)
  where
    of : (b : Bool) → is_member (m + suc j) (named_from (suc m) cs line) ≡ true → is_member (m + suc j) (if b then m ∷ named_from (suc m) cs line else named_from (suc m) cs line) ≡ true
    of true rest = ap (λ (b : Bool). (m == m + suc j) || b) rest ∙ either (m == m + suc j)
      where
        either : (b : Bool) → (b || true) ≡ true
        either true = refl
        either false = refl
    of false rest = rest

-- ---- line by line

module _ (outline : Outline) (rules : Rules) (P : Statement → ℕ → Known → Type 0) (other : (s : Statement) (line : ℕ) (known : Known) → (IsPublish s → ⊥) → P s line known) where
  abbrev Each : Statements → ℕ → Known → Type 0
  Each code line known = EachOf outline rules P code line known

  -- what is known behind some statements
  abbrev after : Statements → ℕ → Known → Known
  after Empty line known = known
  after (Then a rest) line known = after rest (line + lines a) (onwards outline rules a (outline.named (line + lines a - 1)) known)

  joined_each : (xs ys : List Statement) (line : ℕ) (known : Known) → Each (block xs) line known → Each (block ys) (line + block_lines (block xs)) (after (block xs) line known) →
      Each (block (xs ++ ys)) line known
  joined_each [] ys line known h k = (let none : line + 0 ≡ line = omega arith in subst (λ (m : ℕ). Each (block ys) m known) none k)
  joined_each (a ∷ xs) ys line known h k =
      let next : line + (lines a + block_lines (block xs)) ≡ (line + lines a) + block_lines (block xs) = omega arith in
      let later = onwards outline rules a (outline.named (line + lines a - 1)) known in
      (h.0, joined_each xs ys (line + lines a) later h.1 (subst (λ (m : ℕ). Each (block ys) m (after (block xs) (line + lines a) later)) next k))

  abbrev AllWays : Statements → Type 0
  AllWays code = (line : ℕ) (known : Known) → Each code line known

  -- at this line, whatever is known
  abbrev AtLine : ℕ → Statements → Type 0
  AtLine line code = (known : Known) → Each code line known

  steps_each : (ts : List Step) (inner : Statements) → AllWays inner → AllWays (lines_to ts inner)
  steps_each [] inner k line known = k line known
  steps_each (Turns i x kind ∷ ts) inner k line known = (steps_each ts inner k _ _, tt)
  steps_each (Named i pick fs ∷ ts) inner k line known = (other (Let i pick fs) _ _ (λ f. f), steps_each ts inner k _ _)
  steps_each (Tested low high ∷ ts) inner k line known = (steps_each ts inner k _ _, tt)

  store_each : (g : StoredText) (fs : List FormulaText) (ls : Loads) (d : ℕ) (w : NestText) (s : Statement) → IsStore g fs ls d w s → AllWays (Then s Empty)
  store_each g fs ls d w (Store b k at e) is line known = (other (Store b k at e) _ _ (λ f. f), tt)
  store_each g fs ls d w (Seq xs) is line known = absurd is
  store_each g fs ls d w (For j x kind body) is line known = absurd is
  store_each g fs ls d w (Let j pick forms) is line known = absurd is
  store_each g fs ls d w (First j x y) is line known = absurd is
  store_each g fs ls d w (Guard low high body) is line known = absurd is
  store_each g fs ls d w (Alloc b x places) is line known = absurd is
  store_each g fs ls d w (Fetch b x region) is line known = absurd is
  store_each g fs ls d w (Publish x) is line known = absurd is

  -- what the last line of the steps names is in force behind them
  module _ (c : ℕ) where
    abbrev InForce : Known → Type 0
    InForce known = is_member c known.claims ≡ true

    abbrev IsNamed : ℕ → Type 0
    IsNamed line = is_member c (outline.named line) ≡ true

    store_forces : (g : StoredText) (fs : List FormulaText) (ls : Loads) (d : ℕ) (w : NestText) (s : Statement) → IsStore g fs ls d w s → (line : ℕ) (known : Known) →
        IsNamed ((line + block_lines (Then s Empty)) - 1) → InForce (after (Then s Empty) line known)
    store_forces g fs ls d w (Store b k at e) is line known named =
        let count : (line + (1 + 0)) - 1 ≡ line + 1 - 1 = omega arith in
        has_first (outline.named (line + 1 - 1)) _ c (subst IsNamed count named)
    store_forces g fs ls d w (Seq xs) is line known named = absurd is
    store_forces g fs ls d w (For j x kind body) is line known named = absurd is
    store_forces g fs ls d w (Let j pick forms) is line known named = absurd is
    store_forces g fs ls d w (First j x y) is line known named = absurd is
    store_forces g fs ls d w (Guard low high body) is line known named = absurd is
    store_forces g fs ls d w (Alloc b x places) is line known named = absurd is
    store_forces g fs ls d w (Fetch b x region) is line known named = absurd is
    store_forces g fs ls d w (Publish x) is line known named = absurd is

    steps_force : (g : StoredText) (fs : List FormulaText) (ls : Loads) (d : ℕ) (w : NestText) (s : Statement) → IsStore g fs ls d w s → (ts : List Step) (line : ℕ) (known : Known) →
        IsNamed ((line + block_lines (lines_to ts (Then s Empty))) - 1) → InForce (after (lines_to ts (Then s Empty)) line known)
    steps_force g fs ls d w s is [] line known named = store_forces g fs ls d w s is line known named
    steps_force g fs ls d w s is (Turns i x kind ∷ ts) line known named =
        let n = lines (For i x kind (Seq (lines_to ts (Then s Empty)))) in
        let count : (line + (n + 0)) - 1 ≡ line + n - 1 = omega arith in
        has_first (outline.named (line + n - 1)) _ c (subst IsNamed count named)
    steps_force g fs ls d w s is (Named i pick fs' ∷ ts) line known named =
        let m = block_lines (lines_to ts (Then s Empty)) in
        let count : (line + (1 + m)) - 1 ≡ ((line + 1) + m) - 1 = omega arith in
        steps_force g fs ls d w s is ts (line + 1) _ (subst IsNamed count named)
    steps_force g fs ls d w s is (Tested low high ∷ ts) line known named =
        let n = lines (Guard low high (Seq (lines_to ts (Then s Empty)))) in
        let count : (line + (n + 0)) - 1 ≡ line + n - 1 = omega arith in
        has_first (outline.named (line + n - 1)) _ c (subst IsNamed count named)

  -- ---- nests

  -- these are the plan's claims; this is the one of the last nest, of the definition before which there are so many
  module _ (items : List CodeClaim) (names : (j : ℕ) (v : CodeClaim) → slice_get items j ≡ Some v → is_member j (outline.named v.line) ≡ true)
      (g : StoredText) (fs : List FormulaText) (r : List Span1) (claim total : ℕ)
      (published : (d : ℕ) (v : CodeClaim) (at_line : ℕ) → suc d ≡ total → slice_get items claim ≡ Some v → Claims at_line 0 g.subject.name d r v →
      (line : ℕ) (known : Known) → is_member claim known.claims ≡ true → P (Publish claim) line known) where
    nests_at : (ms : Loads) (m at_line d : ℕ) (ns : List NestText) (xs : List Statement) (cs : List CodeClaim) → AreNests g fs r ms m at_line d ns xs cs → 1 ≤ length ns →
        d + length ns ≡ total → claim + 1 ≡ m + length ns → ((j : ℕ) (v : CodeClaim) → slice_get cs j ≡ Some v → slice_get items (m + j) ≡ Some v) → AtLine at_line (block (xs ++ Publish claim ∷ []))
    nests_at ms m at_line d [] xs cs is some count number placed known = absurd (omega (arith, some))
    nests_at ms m at_line d (w ∷ ns) xs [] is some count number placed known = absurd is
    nests_at ms m at_line d (w ∷ []) xs (v ∷ cs) is some count number placed known =
        let nest = is.here.nest in
        let here : Each (block is.first) at_line known = subst (λ (code : Statements). Each code at_line known) (sym nest.comes)
        (steps_each w.steps (Then nest.store Empty) (store_each g fs ms d w nest.store nest.stores) at_line known) in
        let same : claim ≡ m + 0 = omega (arith, number) in
        let at : slice_get items claim ≡ Some v = ap (slice_get items) same ∙ placed 0 v refl in
        let named : is_member claim (outline.named v.line) ≡ true = names claim v at in
        let named_last : is_member claim (outline.named ((at_line + block_lines (lines_to w.steps (Then nest.store Empty))) - 1)) ≡ true =
        ap (λ (code : Statements). is_member claim (outline.named ((at_line + block_lines code) - 1))) (sym nest.comes)
        ∙ ap (λ (k : ℕ). is_member claim (outline.named k)) (sym is.here.claims.after) ∙ named in
        let force : is_member claim (after (block is.first) at_line known).claims ≡ true =
        ap (λ (code : Statements). is_member claim (after code at_line known).claims) nest.comes
        ∙ steps_force claim g fs ms d w nest.store nest.stores w.steps at_line known named_last in
        let last = published d v _ (omega (arith, count)) at is.here.claims (at_line + block_lines (block is.first)) _ force in
        let joined = joined_each is.first (Publish claim ∷ []) at_line known here (last, tt) in
        let are : xs ++ Publish claim ∷ [] ≡ is.first ++ Publish claim ∷ [] =
        ap (λ (ys : List Statement). ys ++ Publish claim ∷ []) (is.are ∙ ap (λ (ys : List Statement). is.first ++ ys) is.behind.0 ∙ none is.first) in
        subst (λ (ys : List Statement). Each (block ys) at_line known) (sym are) joined
      where
        none : (xs : List Statement) → xs ++ [] ≡ xs
        none [] = refl
        none (a ∷ xs) = (let rest = none xs in ap (λ (ys : List Statement). a ∷ ys) rest)
    nests_at ms m at_line d (w ∷ u ∷ ns) xs (v ∷ cs) is some count number placed known =
        let nest = is.here.nest in
        let here : Each (block is.first) at_line known = subst (λ (code : Statements). Each code at_line known) (sym nest.comes)
        (steps_each w.steps (Then nest.store Empty) (store_each g fs ms d w nest.store nest.stores) at_line known) in
        let rest : AtLine (at_line + block_lines (block is.first)) (block (is.others ++ Publish claim ∷ [])) =
        nests_at (ms ++ (g.subject.name, m) ∷ []) (m + 1) (at_line + block_lines (block is.first)) (d + 1) (u ∷ ns) is.others cs is.behind (omega arith) (omega (arith, count)) (omega (arith, number))
        (λ j v e. let next : m + suc j ≡ (m + 1) + j = omega arith in ap (slice_get items) (sym next) ∙ placed (suc j) v e) in
        let joined = joined_each is.first (is.others ++ Publish claim ∷ []) at_line known here (rest (after (block is.first) at_line known)) in
        let are : xs ++ Publish claim ∷ [] ≡ is.first ++ (is.others ++ Publish claim ∷ []) =
        ap (λ (ys : List Statement). ys ++ Publish claim ∷ []) is.are ∙ joined_twice is.first is.others (Publish claim ∷ []) in
        subst (λ (ys : List Statement). Each (block ys) at_line known) (sym are) joined
      where
        joined_twice : (xs ys zs : List Statement) → (xs ++ ys) ++ zs ≡ xs ++ (ys ++ zs)
        joined_twice [] ys zs = refl
        joined_twice (a ∷ xs) ys zs = (let rest = joined_twice xs ys zs in ap (λ (r : List Statement). a ∷ r) rest)

  -- ---- before the nests

  lets_at : (ts : List Step) (inner : Statements) (line next : ℕ) → AreLets ts → next ≡ line + step_lines ts → AtLine next inner → AtLine line (lines_to ts inner)
  lets_at [] inner line next lets e k known = (let same : next ≡ line = omega (arith, e) in subst (λ (m : ℕ). Each inner m known) same (k known))
  lets_at (Turns i x kind ∷ ts) inner line next lets e k known = absurd lets
  lets_at (Named i pick fs ∷ ts) inner line next lets e k known = (other (Let i pick fs) _ _ (λ f. f), lets_at ts inner (line + 1) next lets (omega (arith, e)) k _)
  lets_at (Tested low high ∷ ts) inner line next lets e k known = absurd lets

  fetches_at : (fs : List FetchText) (rest : List Statement) (line next : ℕ) → next ≡ line + 2 * length fs → AtLine next (block rest) → AtLine line (block (with_fetches fs rest))
  fetches_at [] rest line next e k known = (let same : next ≡ line = omega (arith, e) in subst (λ (m : ℕ). Each (block rest) m known) same (k known))
  fetches_at (f ∷ fs) rest line next e k known = (
    other (Alloc f.buffer f.function f.places) _ _ (λ f. f),
    (other (Fetch f.buffer f.group f.region) _ _ (λ f. f), fetches_at fs rest (line + 1 + 1) next (omega (arith, e)) k _),
  )

  alloc_at : (x : List ℕ) (places : List Places) (rest : Statements) (line : ℕ) → AtLine (line + 1) rest → AtLine line (Then (Alloc 0 x places) rest)
  alloc_at x places rest line k known = (other (Alloc 0 x places) _ _ (λ f. f), k _)

-- ---- regions

module _ (a : Algorithm) (p : Plan) (c : Certificate) (n : ℕ) (bs : List Binder) (l : LayText) (cs : List Split) (cuts : AllByRecursion (CutFits l.numbers) cs) where
  regions_inside : (xs : List (List ℕ)) → AllByRecursion (λ x. AreSome (numbers_named l.numbers x)) xs → AllByRecursion IsNearSpan (claimed_region (map (dimension_of l cs) xs)) →
      are_within (rules_of a p c n) bs (owned_region (map (dimension_of l cs) xs)) (claimed_region (map (dimension_of l cs) xs)) ≡ true
  regions_inside [] h near = refl
  regions_inside (x ∷ xs) h near =
      let here : span_inside (scope_of bs) (dimension_of l cs x).own (dimension_of l cs x).claim ≡ true = dimension_inside l (scope_of bs) cs cuts x h.0 near.0 in
      let rest = regions_inside xs h.1 near.1 in
      λ i. here i && rest i

some_numbers : (rs : List Numbers) (xs : List (List ℕ)) (es : List Extent) → NumbersAre rs xs es → AllByRecursion IsExtent es → AllByRecursion (λ x. IsSmall (numbers_named rs x)) xs →
    AllByRecursion (λ x. AreSome (numbers_named rs x)) xs
some_numbers rs [] [] h k s = tt
some_numbers rs [] (e ∷ es) h k s = absurd h
some_numbers rs (x ∷ xs) [] h k s = absurd h
some_numbers rs (x ∷ xs) (e ∷ es) h k s =
    let count : (numbers_named rs x).count ≡ e.count = ap (λ (r : Numbers). r.count) h.0 in
    let some = k.0.some in
    (record { small = s.0; some = omega (arith, count, some) }, some_numbers rs xs es h.1 k.1 s.1)

-- ---- names

pub named_alike : (fs : List Function) (x : List ℕ) → function_named fs x ≡ algorithm.function_named fs x
named_alike [] x = refl
named_alike (f ∷ fs) x = of (same_name f.name x) (named_alike fs x)
  where
    of : (b : Bool) → function_named fs x ≡ algorithm.function_named fs x →
        (if b then Some f else function_named fs x) ≡ (elim b [ true ↦ Some f | false ↦ algorithm.function_named fs x ])
    of true h = refl
    of false h = h

-- ---- groups

module _ (a : Algorithm) (sch : Schedule) (l : Lowered) (well : IsAlgorithm a) (legal : IsLegal a sch) (small : has_large (stored_functions a sch) ≡ false)
    (kept : region_fault a (stored_functions a sch) ≡ None) (all : are_whole (stored_functions a sch) ≡ true) (groups : HasGroups a (stored_functions a sch) l)
    (near : AreClaimsNear (certificate_of l.certificate)) where
  abbrev entries : List Entry
  entries = roots a sch l well legal small kept all groups

  abbrev stored : List StoredText
  stored = stored_functions a sch

  abbrev made : List CodeGroup
  made = l.plan.groups.items

  abbrev items : List CodeClaim
  items = l.certificate.claims.items

  abbrev plan : Plan
  plan = plan_of l.plan

  abbrev cert : Certificate
  cert = certificate_of l.certificate

  module _ (n first line : ℕ) (g : StoredText) (p : CodeGroup) (claims : List CodeClaim) (needs : List Need) (at : slice_get stored n ≡ Some g) (there : slice_get made n ≡ Some p)
      (h : HasBody a entries n first line g p claims needs) (lined : body_line plan n ≡ line + 1) (laid : IsLaidBy g h.extents h.skeleton)
      (owned : own_region cert.own n ≡ Some (owned_region (dimensions_of g h.extents h.skeleton)))
      (placed : (j : ℕ) (v : CodeClaim) → slice_get claims j ≡ Some v → slice_get items (first + j) ≡ Some v) where
    abbrev k : SkeletonText
    k = h.skeleton

    abbrev fs : List FormulaText
    fs = h.formulas

    abbrev claim : ℕ
    claim = last_claim first h.body.fetches k

    abbrev rest : List Statement
    rest = h.body.nests ++ Publish claim ∷ []

    abbrev places : List Places
    places = own_places (dimensions_of g h.extents k)

    abbrev code : Statements
    code = lines_to k.head (block (Alloc 0 g.subject.name places ∷ with_fetches h.body.fetches rest))

    abbrev region : List Span1
    region = claimed_region (dimensions_of g h.extents k)

    abbrev O : Outline
    O = outline_of plan cert n (group_of p)

    abbrev R : Rules
    R = rules_of a plan cert n

    abbrev Shown : Statement → ℕ → Known → Type 0
    Shown s at_line known = IsPublish s → (nests : Nests) → all_shown R nests (obligations O R s at_line known) ≡ true

    not_publish : (s : Statement) (at_line : ℕ) (known : Known) → (IsPublish s → ⊥) → Shown s at_line known
    not_publish s at_line known none is = absurd (none is)

    claim_at : (j : ℕ) (v : CodeClaim) → slice_get items j ≡ Some v → slice_get cert.claims j ≡ Some (claim_of v)
    claim_at j v e = at_map claim_of items j v e

    named : (j : ℕ) (v : CodeClaim) → slice_get items j ≡ Some v → is_member j (O.named v.line) ≡ true
    named j v e = (let none : 0 + j ≡ j = omega arith in sym (ap (λ (i : ℕ). is_member i (O.named v.line)) none) ∙ named_has 0 cert.claims j (claim_of v) v.line (claim_at j v e) refl)

    published : (d : ℕ) (v : CodeClaim) (after_line : ℕ) → suc d ≡ length k.nests → slice_get items claim ≡ Some v → Claims after_line 0 g.subject.name d region v →
        (at_line : ℕ) (known : Known) → is_member claim known.claims ≡ true → Shown (Publish claim) at_line known
    published d v after_line count found says at_line known force is nests =
        let stands = claim_at claim v found in
        let claim_is : O.claim claim ≡ claim_of v = ap claim_or_none stands in
        let well_known = known_stored a sch well n g at in
        let formulas = well_known.formulas fs h.defined in
        let bodies = bodies_many g.changes 0 g.subject.reductions fs in
        let long = nests_long g.subject.variables (bodies_from g.changes 0 g.subject.reductions fs) g.placed h.extents k h.laid in
        let name : (O.claim claim).function ≡ g.subject.name = ap (λ (x : Claim). x.function) claim_is ∙ says.named in
        let last : R.last (O.claim claim).function ≡ length well_known.function.changes =
        ap R.last name ∙ ap update_count (named_alike a.functions g.subject.name ∙ well_known.named) in
        let definition : (O.claim claim).definition ≡ d = ap (λ (x : Claim). x.definition) claim_is ∙ says.defined in
        let same : (O.claim claim).definition ≡ R.last (O.claim claim).function = omega (arith, definition, last, count, formulas, bodies, long) in
        let test : ((O.claim claim).definition == R.last (O.claim claim).function) ≡ true = grind (arith, nat_tests) in
        let usable : is_usable O R known claim ≡ true = ap (λ (b : Bool). b && ((O.claim claim).definition == R.last (O.claim claim).function)) force ∙ test in
        let over : (O.claim claim).region ≡ region = ap (λ (x : Claim). x.region) claim_is ∙ says.over in
        let lay = lay_over g h.extents k in
        let some = some_numbers lay.numbers g.subject.variables h.extents (owners.numbers g h.extents k laid) laid.extents (owners.small g h.extents k laid) in
        let told : AllByRecursion IsNearSpan region = subst (AllByRecursion IsNearSpan) says.over ((near claim (claim_of v) stands).1 says.buffered) in
        let inside = regions_inside a plan cert n known.binders lay g.placed.cuts (owners.cuts g h.extents k laid) g.subject.variables some told in
        let own : R.own ≡ owned_region (dimensions_of g h.extents k) = ap or_nowhere owned in
        let within : are_within R known.binders R.own (O.claim claim).region ≡ true = (λ i. are_within R known.binders (own i) (over i)) ∙ inside in
        λ i. usable i && (within i && true)

    body_shown : EachLine O R Shown (statement_of p.body) (body_line plan n) (start (grid_binders p.grid.items))
    body_shown =
        let b = h.body in
        let well_known = known_stored a sch well n g at in
        let formulas = well_known.formulas fs h.defined in
        let bodies = bodies_many g.changes 0 g.subject.reductions fs in
        let long = nests_long g.subject.variables (bodies_from g.changes 0 g.subject.reductions fs) g.placed h.extents k h.laid in
        let fetched = fetches_claim (sites_of a g fs k) (grid_scope k.grid) n 1 (line + first_lines k) (fetched_groups fs n 0 entries) b.fetches needs b.fetched b.fetching in
        let own_placed : (j : ℕ) (v : CodeClaim) → slice_get b.own j ≡ Some v → slice_get items ((first + length b.fetches) + j) ≡ Some v =
        λ j v e.
        let next : first + (length b.fetched + j) ≡ (first + length b.fetches) + j = omega (arith, fetched) in
        sym (ap (slice_get items) next)
        ∙ placed (length b.fetched + j) v (ap (λ (ws : List CodeClaim). slice_get ws (length b.fetched + j)) b.claimed ∙ get_second a entries items b.fetched b.own j ∙ e) in
        let nests_line : ℕ = line + first_lines k + 2 * length b.fetches in
        let nests : AtLine O R Shown not_publish nests_line (block rest) =
        nests_at O R Shown not_publish items named g fs region claim (length k.nests) published (loads_from first b.fetches) (first + length b.fetches) nests_line 0 k.nests b.nests b.own b.nested
        (omega (arith, formulas, bodies, long)) (omega arith) (omega (arith, formulas, bodies, long)) own_placed in
        let names : NamesOwn k = names_own g.subject.variables (bodies_from g.changes 0 g.subject.reductions fs) g.placed h.extents k h.laid in
        let fetches : AtLine O R Shown not_publish (line + first_lines k) (block (with_fetches b.fetches rest)) =
        fetches_at O R Shown not_publish b.fetches rest (line + first_lines k) nests_line refl nests in
        let second : line + first_lines k ≡ ((line + 1) + step_lines k.head) + 1 = omega arith in
        let inner : AtLine O R Shown not_publish ((line + 1) + step_lines k.head) (block (Alloc 0 g.subject.name places ∷ with_fetches b.fetches rest)) =
        alloc_at O R Shown not_publish g.subject.name places (block (with_fetches b.fetches rest)) ((line + 1) + step_lines k.head)
        (subst (λ (m : ℕ). AtLine O R Shown not_publish m (block (with_fetches b.fetches rest))) second fetches) in
        let shown : AtLine O R Shown not_publish (line + 1) code =
        lets_at O R Shown not_publish k.head (block (Alloc 0 g.subject.name places ∷ with_fetches b.fetches rest)) (line + 1) ((line + 1) + step_lines k.head) names.lets refl inner in
        subst (λ (s : Statement). EachLine O R Shown s (body_line plan n) (start (grid_binders p.grid.items))) (sym b.with.is)
        (subst (λ (m : ℕ). EachOf O R Shown code m (start (grid_binders p.grid.items))) (sym lined) (shown (start (grid_binders p.grid.items))))

  shown_at : (n : ℕ) (q : CodeGroup) → slice_get made n ≡ Some q → OweShown IsPublish a plan cert n (group_of q)
  shown_at n q there =
      let me = made_at a sch l well legal small kept all groups n q there in
      let b = placed_body a entries items 0 0 4 stored made items l.certificate.needs.items (groups.bodies all) (λ j v e. let none : 0 + j ≡ j = omega arith in ap (slice_get items) none ∙ e) n
      me.stored q me.is there in
      let counted : 0 + n ≡ n = omega arith in
      let body = subst (λ (i : ℕ). HasBody a entries i b.first_claim b.line me.stored q b.claims b.needs) counted b.body in
      let lined = b.lined in
      let begins : body_line plan n ≡ b.line + 1 = omega (arith, lined) in
      let extents : me.laid.region ≡ body.extents = same_extents a sch l well legal small kept all groups n q me.laid body.extents there me.found body.region in
      let skeleton : me.laid.skeleton ≡ body.skeleton =
      same_skeleton a sch l well legal small kept all groups n me.stored me.laid body.formulas body.extents body.skeleton me.is me.found body.defined extents body.laid in
      let laid : IsLaidBy me.stored body.extents body.skeleton =
      subst (λ (k : SkeletonText). IsLaidBy me.stored body.extents k) skeleton (subst (λ (es : List Extent). IsLaidBy me.stored es me.laid.skeleton) extents me.laid_by) in
      let dimensions : dimensions_of me.stored me.laid.region me.laid.skeleton ≡ dimensions_of me.stored body.extents body.skeleton = λ i. dimensions_of me.stored (extents i) (skeleton i) in
      let owned : own_region cert.own n ≡ Some (owned_region (dimensions_of me.stored body.extents body.skeleton)) =
      me.told ∙ ap (λ (xs : List Span1). Some xs) (me.owned ∙ ap owned_region dimensions) in
      body_shown n b.first_claim b.line me.stored q b.claims b.needs me.is there body begins laid owned b.numbered

pub shown : PublishLinesOweShown
shown a s l well legal small regions groups all near n g at =
    let x = from_map group_of l.plan.groups.items n g at in
    subst (λ (u : Group). OweShown IsPublish a (plan_of l.plan) (certificate_of l.certificate) n u) (sym x.2) (shown_at a s l well legal small (regions all).0 all groups near n x.0 x.1)
