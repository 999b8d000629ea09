-- What the loops and lets of whole functions owe is shown: their symbols are not in scope.
use Rattle.std.proofs.Common.{◌≡◌, ℕ, zero, suc, ◌+◌, ◌<◌, ◌≤◌, true, false, None, List, [], ◌∷◌, ◌++◌, length, Some, refl, sym, ap, ◌∙◌, subst, inl, inr, ◌⊎◌, arith}
use Rattle.std.specs.Prelude.{slice_get}
use Rattle.std.specs.List.{AllByRecursion}
use Rattle.lin.specs.declared.span.Span1.{Span1}
use Rattle.lin.proofs.TermLemmas.{all_weaker}
use Rattle.plan.specs.declared.plan.Group.{Group as CodeGroup}
use Rattle.plan.specs.declared.stmt.Places.{Places}
use Rattle.plan.specs.declared.stmt.Places.TheVariants.{From, Folded}
use Rattle.plan.specs.declared.certificate.cert.Claim.{Claim as CodeClaim}
use Rattle.plan.specs.declared.certificate.cert.Need.{Need}
use Rattle.plan.specs.Plan.{Statement, Seq, For, Let, First, Guard, Alloc, Fetch, Store, Publish, Statements, Empty, Then, Group, Plan, block}
use Rattle.plan.specs.View.{group_of, plan_of, statement_of}
use Rattle.plan.specs.Lines.{lines, block_lines, body_line}
use Rattle.plan.specs.Certificate.Certificate.{Claim, Certificate, certificate_of, claim_of}
use Rattle.meaning.specs.Algorithm.{Algorithm}
use Rattle.meaning.specs.Conditions.{IsAlgorithm}
use Rattle.soundness.specs.Claims.{In}
use Rattle.soundness.specs.Origins.{Outline}
use Rattle.soundness.specs.Given.{claim_or_none, outline_of}
use Rattle.soundness.specs.Obligations.{Rules, is_member}
use Rattle.soundness.specs.Shown.{start}
use Rattle.soundness.specs.Binders.View.{grid_from, grid_binders}
use Rattle.rules.specs.Bounding.Rules.{rules_of}
use Rattle.bounds.proofs.ListSound.{all-append}
use Rattle.headline.proofs.Lists.{at_map, from_map}
use Rattle.headline.proofs.Regions.{at_in}
use Rattle.sched.specs.Schedule.{Schedule}
use Rattle.sched.specs.Legal.{IsLegal}
use Rattle.sched.specs.declared.numbers.Extent.{Extent}
use Rattle.sched.specs.declared.skeleton.Step.{Step}
use Rattle.sched.specs.declared.skeleton.Step.TheVariants.{Turns, Named, Tested}
use Rattle.sched.specs.Order.{Ordered, BindsBehind, BindInOrder}
use Rattle.sched.specs.Runs.{lines_to}
use Rattle.sched.specs.Skeleton.{NestText, SkeletonText}
use Rattle.sched.proofs.Arriving.{skeletal}
use Rattle.lower.specs.declared.lowering.Lowered.{Lowered}
use Rattle.sched.specs.Stored.{FormulaText, StoredText}
use Rattle.lower.specs.Stored.{stored_functions, has_large}
use Rattle.regions.specs.Faults.{are_whole}
use Rattle.lower.specs.Faults.{region_fault}
use Rattle.regions.specs.Regions.{bodies_from}
use Rattle.sched.specs.Around.{grid_scope}
use Rattle.lower.specs.Owning.{IsLaidBy}
use Rattle.regions.specs.Taken.{sites_of}
use Rattle.sched.specs.Loading.{Loads}
use Rattle.blocks.specs.Blocks.{lay_over, dimensions_of, claimed_region, own_places}
use Rattle.lower.specs.Bodies.{last_claim}
use Rattle.blocks.specs.Bodies.{IsStore, AreNests}
use Rattle.sched.specs.Fetches.{Entry}
use Rattle.blocks.specs.Fetches.{FetchText, with_fetches}
use Rattle.lower.specs.Fetches.{AreFetched, fetched_groups}
use Rattle.lower.specs.Groups.{HasBody, HasGroups}
use Rattle.completeness.specs.Laws.{IsStep}
use Rattle.completeness.specs.Owed.{EachOwn, OwnOf, OwnShown, StepsOweShown}
use Rattle.completeness.proofs.Only.{SpanOnly}
use Rattle.completeness.proofs.Standing.{With, StepsOver, Rises, NestsRise, OverGrid, NamesOwn, names_own, form_weaker, are_weaker}
use Rattle.completeness.proofs.Standing.{Here as Bound}
use Rattle.completeness.proofs.Sited.{PlaceOnly, taken_over, seats_over}
use Rattle.completeness.proofs.Gridded.{claimed_over}
use Rattle.completeness.proofs.Origins.{places_only}
use Rattle.completeness.proofs.Owned.{same_extents, same_skeleton}
use Rattle.completeness.proofs.Served.{roots, made_at}
use Rattle.completeness.proofs.Scoped.{outer_span, rises_up, own_grid}
use Rattle.completeness.proofs.NamedClaims.{member_named, in_either, alone_body}
use Rattle.completeness.proofs.FetchClaims.{all_members}
use Rattle.completeness.proofs.Fresh.{Less, BinderLow, Told, IsBelow, behind, FreshAll, Shown, all_of}

-- ---- steps

past_turns : (P : ℕ → Type 0) (i : ℕ) (x : Span1) (kind : _) (ts : List Step) (s : ℕ) → Bound P (Turns i x kind ∷ ts) s → Bound (With P i) ts s
past_turns P i x kind ts s (inl p) = inl (inl p)
past_turns P i x kind ts s (inr (inl e)) = inl (inr e)
past_turns P i x kind ts s (inr (inr b)) = inr b

past_named : (P : ℕ → Type 0) (i : ℕ) (pick : _) (fs : _) (ts : List Step) (s : ℕ) → Bound P (Named i pick fs ∷ ts) s → Bound (With P i) ts s
past_named P i pick fs ts s (inl p) = inl (inl p)
past_named P i pick fs ts s (inr (inl e)) = inl (inr e)
past_named P i pick fs ts s (inr (inr b)) = inr b

past_tested : (P : ℕ → Type 0) (low high : _) (ts : List Step) (s : ℕ) → Bound P (Tested low high ∷ ts) s → Bound P ts s
past_tested P low high ts s (inl p) = inl p
past_tested P low high ts s (inr b) = inr b

none_bound : (P : ℕ → Type 0) (u : ℕ) → ((s : ℕ) → P s → s < u) → (s : ℕ) → Bound P [] s → s < u
none_bound P u h s (inl p) = h s p
none_bound P u h s (inr b) = absurd b

with_below : (P : ℕ → Type 0) (u i : ℕ) → u ≤ i → ((s : ℕ) → P s → s < u) → (s : ℕ) → With P i s → s < i + 1
with_below P u i le h s (inl p) = (let low = h s p in omega (arith, low, le))
with_below P u i le h s (inr e) = omega (arith, e)

-- the symbols of the steps rise from n to before m, and u is at most that; inside them are those that they bind
steps_fresh : (P : ℕ → Type 0) (n m from to u : ℕ) (ts : List Step) → Rises n ts m → Ordered from ts to → StepsOver P ts → u ≤ n → ((s : ℕ) → P s → s < u) → (inner : Statements) →
    ((w : ℕ) → w ≤ m → ((s : ℕ) → Bound P ts s → s < w) → FreshAll w inner) → FreshAll u (lines_to ts inner)
steps_fresh P n m from to u [] r o v le low inner k = k u (omega (arith, r, le)) (none_bound P u low)
steps_fresh P n m from to u (Turns i x kind ∷ ts) r o v le low inner k =
    let at = r.0 in
    let here : u ≤ i = omega (arith, at, le) in
    let names : (s : ℕ) → P s → Less i s = λ s p. (let less = low s p in omega (arith, less, here)) in
    let so : SpanOnly P x = outer_span P from to i ts o.0 o.2 x o.1 v.0 in
    let within : SpanOnly (Less i) x = (are_weaker P (Less i) names x.lower so.0, are_weaker P (Less i) names x.upper so.1) in
    let inside : FreshAll (i + 1) (lines_to ts inner) =
    steps_fresh (With P i) (n + 1) m (from + 1) to (i + 1) ts r.1 o.2 v.1 (omega (arith, at)) (with_below P u i here low) inner
    (λ w less h. k w less (λ s b. h s (past_turns P i x kind ts s b))) in
    (omega arith, (here, within, inside), tt)
steps_fresh P n m from to u (Named i pick fs ∷ ts) r o v le low inner k =
    let at = r.0 in
    let here : u ≤ i = omega (arith, at, le) in
    let names : (s : ℕ) → P s → Less i s = λ s p. (let less = low s p in omega (arith, less, here)) in
    let rest : FreshAll (i + 1) (lines_to ts inner) =
    steps_fresh (With P i) (n + 1) m (from + 1) to (i + 1) ts r.1 o.3 v.1 (omega (arith, at)) (with_below P u i here low) inner
    (λ w less h. k w less (λ s b. h s (past_named P i pick fs ts s b))) in
    (omega arith, (here, are_weaker P (Less i) names fs v.0), rest)
steps_fresh P n m from to u (Tested first last ∷ ts) r o v le low inner k =
    let inside : FreshAll u (lines_to ts inner) =
    steps_fresh P n m from to u ts r o v.2 le low inner (λ w less h. k w less (λ s b. h s (past_tested P first last ts s b))) in
    (omega arith, (form_weaker P (Less u) low first v.0, form_weaker P (Less u) low last v.1, inside), tt)

-- the next symbol behind statements
abbrev past : ℕ → Statements → ℕ
past u Empty = u
past u (Then a rest) = past (behind u a) rest

joined_fresh : (xs ys : List Statement) (u : ℕ) → FreshAll u (block xs) → FreshAll (past u (block xs)) (block ys) → FreshAll u (block (xs ++ ys))
joined_fresh [] ys u h k = k
joined_fresh (a ∷ xs) ys u h k = (h.0, h.1, joined_fresh xs ys (behind u a) h.2 k)

steps_past : (n m u : ℕ) (ts : List Step) → Rises n ts m → u ≤ n → (inner : Statements) → ((w : ℕ) → past w inner ≡ w) → (u ≤ past u (lines_to ts inner)) × (past u (lines_to ts inner) ≤ m)
steps_past n m u [] r le inner same = (let e = same u in (omega (arith, e), omega (arith, e, le, r)))
steps_past n m u (Turns i x kind ∷ ts) r le inner same = (let up = rises_up (n + 1) m ts r.1 in (omega arith, omega (arith, le, up)))
steps_past n m u (Named i pick fs ∷ ts) r le inner same =
    let at = r.0 in
    let rest = steps_past (n + 1) m (i + 1) ts r.1 (omega (arith, at)) inner same in
    let low = rest.0 in
    (omega (arith, low, at, le), rest.1)
steps_past n m u (Tested low high ∷ ts) r le inner same = (let up = rises_up n m ts r in (omega arith, omega (arith, le, up)))

-- ---- stores and nests

module _ (g : StoredText) (fs : List FormulaText) (ls : Loads) (d : ℕ) (n : NestText) where
  store_fresh : (s : Statement) → IsStore g fs ls d n s → (w : ℕ) → FreshAll w (Then s Empty) × (past w (Then s Empty) ≡ w)
  store_fresh (Store b k at e) is w = ((omega arith, tt, tt), refl)
  store_fresh (Seq xs) is w = absurd is
  store_fresh (For j x kind body) is w = absurd is
  store_fresh (Let j pick forms) is w = absurd is
  store_fresh (First j x y) is w = absurd is
  store_fresh (Guard low high body) is w = absurd is
  store_fresh (Alloc b x places) is w = absurd is
  store_fresh (Fetch b x region) is w = absurd is
  store_fresh (Publish x) is w = absurd is

-- the places of each of these name only symbols before this one
abbrev AllSeated : ℕ → List FetchText → Type 0
AllSeated u fs = AllByRecursion (λ f. AllByRecursion (PlaceOnly (Less u)) f.places) fs

fetches_fresh : (fs : List FetchText) (rest : List Statement) (u : ℕ) → AllSeated u fs → FreshAll u (block rest) → FreshAll u (block (with_fetches fs rest))
fetches_fresh [] rest u h k = k
fetches_fresh (f ∷ fs) rest u h k = (omega arith, h.0, (omega arith, tt, fetches_fresh fs rest u h.1 k))

places_weaker : (P R : ℕ → Type 0) → ((s : ℕ) → P s → R s) → (ps : List Places) → AllByRecursion (PlaceOnly P) ps → AllByRecursion (PlaceOnly R) ps
places_weaker P R w ps h = all_weaker (PlaceOnly P) (PlaceOnly R) one ps h
  where
    one : (p : Places) → PlaceOnly P p → PlaceOnly R p
    one (From f n) k = form_weaker P R w f k
    one (Folded n) k = tt

module _ (g : StoredText) (fs : List FormulaText) (k : SkeletonText) (Q : ℕ → Type 0) (least : ℕ) (order : (i : ℕ) (n : NestText) → slice_get k.nests i ≡ Some n → BindsBehind least n)
    (over : (i : ℕ) (n : NestText) → slice_get k.nests i ≡ Some n → StepsOver Q n.steps) (r : List Span1) (claim : ℕ) where
  nests_fresh : (ms : Loads) (m at_line d next : ℕ) (ns : List NestText) (xs : List Statement) (cs : List CodeClaim) → AreNests g fs r ms m at_line d ns xs cs → NestsRise next ns →
      ((j : ℕ) (w : NestText) → slice_get ns j ≡ Some w → slice_get k.nests (d + j) ≡ Some w) → (u : ℕ) → u ≤ next → ((s : ℕ) → Q s → s < u) → FreshAll u (block (xs ++ Publish claim ∷ []))
  nests_fresh ms m at_line d next [] xs cs is up there u le low =
      subst (λ (ys : List Statement). FreshAll u (block (ys ++ Publish claim ∷ []))) (sym is.0) (omega arith, tt, tt)
  nests_fresh ms m at_line d next (w ∷ ns) xs [] is up there u le low = absurd is
  nests_fresh ms m at_line d next (w ∷ ns) xs (v ∷ cs) is up there u le low =
      let nest = is.here.nest in
      let none : d + 0 ≡ d = omega arith in
      let at = ap (slice_get k.nests) (sym none) ∙ there 0 w refl in
      let o = order d w at in
      let store : (v : ℕ) → FreshAll v (Then nest.store Empty) × (past v (Then nest.store Empty) ≡ v) = store_fresh g fs ms d w nest.store nest.stores in
      let here : FreshAll u (block is.first) = subst (λ (code : Statements). FreshAll u code) (sym nest.comes)
      (steps_fresh Q next up.0 o.from o.to u w.steps up.1 o.steps (over d w at) le low (Then nest.store Empty) (λ v less h. (store v).0)) in
      let p : (u ≤ past u (block is.first)) × (past u (block is.first) ≤ up.0) =
      subst (λ (code : Statements). (u ≤ past u code) × (past u code ≤ up.0)) (sym nest.comes) (steps_past next up.0 u w.steps up.1 le (Then nest.store Empty) (λ v. (store v).1)) in
      let more = p.0 in
      let rest = nests_fresh (ms ++ (g.subject.name, m) ∷ []) (m + 1) (at_line + block_lines (block is.first)) (d + 1) up.0 ns is.others cs is.behind up.2
      (λ j y e. let next : d + suc j ≡ (d + 1) + j = omega arith in ap (slice_get k.nests) (sym next) ∙ there (suc j) y e) (past u (block is.first)) p.1
      (λ s q. let less = low s q in omega (arith, less, more)) in
      let joined = joined_fresh is.first (is.others ++ Publish claim ∷ []) u here rest in
      let are : xs ++ Publish claim ∷ [] ≡ is.first ++ (is.others ++ Publish claim ∷ []) =
      ap (λ (ys : List Statement). ys ++ Publish claim ∷ []) is.are ∙ joined_twice is.first is.others (Publish claim ∷ []) in
      subst (λ (ys : List Statement). FreshAll u (block ys)) (sym are) joined
    where
      joined_twice : (xs ys zs : List Statement) → (xs ++ ys) ++ zs ≡ xs ++ (ys ++ zs)
      joined_twice [] ys zs = refl
      joined_twice (a ∷ xs) ys zs = (let rest = joined_twice xs ys zs in ap (λ (r : List Statement). a ∷ r) rest)

-- ---- the symbols of a grid

grid_low : (i : ℕ) (ns : List ℕ) (m : ℕ) → i + length ns ≤ m → AllByRecursion (BinderLow m) (grid_from i ns)
grid_low i [] m le = tt
grid_low i (n ∷ ns) m le = all-append (BinderLow m) (grid_from (i + 1) ns) _ (grid_low (i + 1) ns m (omega (arith, le))) ((omega (arith, le), ((tt, tt), (tt, tt))), tt)

-- ---- groups

module _ (a : Algorithm) (sch : Schedule) (l : Lowered) (well : IsAlgorithm a) (legal : IsLegal a sch) (small : has_large (stored_functions a sch) ≡ false)
    (kept : region_fault a (stored_functions a sch) ≡ None) (all : are_whole (stored_functions a sch) ≡ true) (groups : HasGroups a (stored_functions a sch) l) where
  abbrev entries : List Entry
  entries = roots a sch l well legal small kept all groups

  abbrev stored : List StoredText
  stored = stored_functions a sch

  abbrev made : List CodeGroup
  made = l.plan.groups.items

  abbrev items : List CodeClaim
  items = l.certificate.claims.items

  abbrev plan : Plan
  plan = plan_of l.plan

  abbrev cert : Certificate
  cert = certificate_of l.certificate

  module _ (n first line : ℕ) (g : StoredText) (p : CodeGroup) (claims : List CodeClaim) (needs : List Need) (at : slice_get stored n ≡ Some g) (there : slice_get made n ≡ Some p)
      (h : HasBody a entries n first line g p claims needs) (lined : body_line plan n ≡ line + 1) (laid : IsLaidBy g h.extents h.skeleton)
      (alone_here : (j : ℕ) (w : CodeClaim) → slice_get items j ≡ Some w → line < w.line → w.line < line + (lines (statement_of p.body) + 1) → In w claims) where
    abbrev k : SkeletonText
    k = h.skeleton

    abbrev fs : List FormulaText
    fs = h.formulas

    abbrev claim : ℕ
    claim = last_claim first h.body.fetches k

    abbrev rest : List Statement
    rest = h.body.nests ++ Publish claim ∷ []

    abbrev places : List Places
    places = own_places (dimensions_of g h.extents k)

    abbrev O : Outline
    O = outline_of plan cert n (group_of p)

    abbrev R : Rules
    R = rules_of a plan cert n

    names : NamesOwn k
    names = names_own g.subject.variables (bodies_from g.changes 0 g.subject.reductions fs) g.placed h.extents k h.laid

    order : BindInOrder k
    order = skeletal g.subject.variables (bodies_from g.changes 0 g.subject.reductions fs) g.placed h.extents k h.laid

    abbrev OverIt : List Span1 → Type 0
    OverIt xs = AllByRecursion (SpanOnly (Less (length k.grid))) xs

    -- ---- claims

    fetched_told : (b own_line : ℕ) (xs : List (ℕ × Entry)) (ts : List FetchText) (ws : List Need) (cs : List CodeClaim) →
        AreFetched (sites_of a g fs k) (grid_scope k.grid) n b own_line xs ts ws cs → (w : CodeClaim) → In w cs → OverIt w.region
    fetched_told b own_line [] [] [] [] is w among = absurd among
    fetched_told b own_line [] [] [] (v ∷ cs) is w among = absurd is
    fetched_told b own_line [] [] (u ∷ ws) cs is w among = absurd is
    fetched_told b own_line [] (f ∷ ts) ws cs is w among = absurd is
    fetched_told b own_line (x ∷ xs) [] ws cs is w among = absurd is
    fetched_told b own_line (x ∷ xs) (f ∷ ts) [] cs is w among = absurd is
    fetched_told b own_line (x ∷ xs) (f ∷ ts) (u ∷ ws) [] is w among = absurd is
    fetched_told b own_line (x ∷ xs) (f ∷ ts) (u ∷ ws) (v ∷ cs) is w (inl e) =
        let e1 = x.1 in
        let taken = is.1.taken in
        let over : w.region ≡ _ = ap (λ (c : CodeClaim). c.region) e ∙ is.0.claimed.over ∙ taken.region in
        subst OverIt (sym over) (taken_over a g fs k e1.0.subject.name taken.sites order names taken.called 0 e1.1.region)
    fetched_told b own_line (x ∷ xs) (f ∷ ts) (u ∷ ws) (v ∷ cs) is w (inr among) = fetched_told (b + 1) (own_line + 2) xs ts ws cs is.2 w among

    own_told : (r : List Span1) (ms : Loads) (m at_line d : ℕ) (ns : List NestText) (xs : List Statement) (cs : List CodeClaim) → AreNests g fs r ms m at_line d ns xs cs → (w : CodeClaim) →
        In w cs → w.region ≡ r
    own_told r ms m at_line d [] xs cs is w among = absurd (subst (In w) is.1 among)
    own_told r ms m at_line d (u ∷ ns) xs [] is w among = absurd is
    own_told r ms m at_line d (u ∷ ns) xs (v ∷ cs) is w (inl e) = ap (λ (c : CodeClaim). c.region) e ∙ is.here.claims.over
    own_told r ms m at_line d (u ∷ ns) xs (v ∷ cs) is w (inr among) =
        own_told r (ms ++ (g.subject.name, m) ∷ []) (m + 1) (at_line + block_lines (block is.first)) (d + 1) ns is.others cs is.behind w among

    claim_told : (w : CodeClaim) → In w claims → OverIt w.region
    claim_told w m = of (in_either w h.body.fetched h.body.own (subst (In w) h.body.claimed m))
      where
        of : In w h.body.fetched ⊎ In w h.body.own → OverIt w.region
        of (inl x) = fetched_told 1 _ (fetched_groups fs n 0 entries) h.body.fetches needs h.body.fetched h.body.fetching w x
        of (inr x) =
            let over = own_told (claimed_region (dimensions_of g h.extents k)) _ _ _ 0 k.nests h.body.nests h.body.own h.body.nested w x in
            subst OverIt (sym over) (claimed_over g h.extents k laid)

    named_told : (at_line : ℕ) → line < at_line → at_line < line + (lines (statement_of p.body) + 1) → AllByRecursion (Told O (length k.grid)) (O.named at_line)
    named_told at_line low less = all_members (Told O (length k.grid)) (O.named at_line) one
      where
        one : (j : ℕ) → is_member j (O.named at_line) ≡ true → Told O (length k.grid) j
        one j m =
            let r = member_named 0 cert.claims at_line j m in
            let x = from_map claim_of items r.place r.claim r.at in
            let number = r.numbered in
            let is : r.place ≡ j = omega (arith, number) in
            let found : slice_get items j ≡ Some x.0 = sym (ap (slice_get items) is) ∙ x.1 in
            let stands : x.0.line ≡ at_line = ap (λ (c : Claim). c.line) (sym x.2) ∙ r.stands in
            let told = claim_told x.0 (alone_here j x.0 found (omega (arith, low, stands)) (omega (arith, less, stands))) in
            let claim_is : O.claim j ≡ claim_of x.0 = ap claim_or_none (at_map claim_of items j x.0 found) in
            subst (λ (c : Claim). OverIt c.region) (sym claim_is) told

    -- ---- the body

    all_seated : (b own_line : ℕ) (xs : List (ℕ × Entry)) (ts : List FetchText) (ws : List Need) (cs : List CodeClaim) →
        AreFetched (sites_of a g fs k) (grid_scope k.grid) n b own_line xs ts ws cs → (u : ℕ) → length k.grid ≤ u → AllSeated u ts
    all_seated b own_line [] [] [] [] is u le = tt
    all_seated b own_line [] [] [] (v ∷ cs) is u le = absurd is
    all_seated b own_line [] [] (w ∷ ws) cs is u le = absurd is
    all_seated b own_line [] (f ∷ ts) ws cs is u le = absurd is
    all_seated b own_line (x ∷ xs) [] ws cs is u le = absurd is
    all_seated b own_line (x ∷ xs) (f ∷ ts) [] cs is u le = absurd is
    all_seated b own_line (x ∷ xs) (f ∷ ts) (w ∷ ws) [] is u le = absurd is
    all_seated b own_line (x ∷ xs) (f ∷ ts) (w ∷ ws) (v ∷ cs) is u le =
        let e = x.1 in
        let taken = is.1.taken in
        let seats = seats_over a g fs k e.0.subject.name taken.sites order names taken.called 0 e.1.region in
        let wide = places_weaker (Less (length k.grid)) (Less u) (λ s less. omega (arith, less, le)) _ seats in
        (subst (AllByRecursion (PlaceOnly (Less u))) (sym taken.places) wide, all_seated (b + 1) (own_line + 2) xs ts ws cs is.2 u le)

    abbrev inner : Statements
    inner = block (Alloc 0 g.subject.name places ∷ with_fetches h.body.fetches rest)

    inner_fresh : (u : ℕ) → u ≤ names.next → ((s : ℕ) → OverGrid k s → s < u) → FreshAll u inner
    inner_fresh u le low =
        let b = h.body in
        let grid : length k.grid ≤ u = grid_under (length k.grid) (λ s less. low s (inl less)) in (
          omega arith,
          places_weaker (OverGrid k) (Less u) low places (places_only (OverGrid k) (lay_over g h.extents k) names.known names.starts g.placed.cuts g.subject.variables),
          fetches_fresh b.fetches rest u (all_seated 1 _ (fetched_groups fs n 0 entries) b.fetches needs b.fetched b.fetching u grid)
              (nests_fresh g fs k (OverGrid k) order.next order.nests names.steps_over _ claim _ _ _ 0 names.next k.nests b.nests b.own b.nested names.nests_rise
              (λ j w e. let none : 0 + j ≡ j = omega arith in ap (slice_get k.nests) none ∙ e) u le low),
        )
      where
        grid_under : (m : ℕ) → ((s : ℕ) → s < m → s < u) → m ≤ u
        grid_under zero f = omega arith
        grid_under (suc m) f = (let less = f m (omega arith) in omega (arith, less))

    abbrev code : Statements
    code = lines_to k.head inner

    body_fresh : FreshAll (length k.grid) code
    body_fresh =
        steps_fresh (λ s. s < length k.grid) (length k.grid) names.next (length k.grid) order.next (length k.grid) k.head names.rises order.head names.over (omega arith) (λ s p. p)
        inner (λ w le low. inner_fresh w le low)

    body_shown : EachOwn O R (Shown O R (length k.grid)) (statement_of p.body) (body_line plan n) (start (grid_binders p.grid.items))
    body_shown =
        let begin : IsBelow O (length k.grid) (length k.grid) (start (grid_binders k.grid)) =
        record { over = omega arith; binders = grid_low 0 k.grid (length k.grid) (omega arith); buffers = tt; claims = tt; own = tt; updating = tt } in
        let count : lines (statement_of p.body) ≡ block_lines code = ap lines h.body.with.is in
        let shown : OwnOf O R (Shown O R (length k.grid)) code (line + 1) (start (grid_binders k.grid)) =
        all_of O R (length k.grid) line (line + (lines (statement_of p.body) + 1)) named_told code (length k.grid) (line + 1) (start (grid_binders k.grid)) body_fresh begin
        (omega arith) (omega (arith, count)) in
        subst (λ (s : Statement). EachOwn O R (Shown O R (length k.grid)) s (body_line plan n) (start (grid_binders p.grid.items))) (sym h.body.with.is)
        (subst (λ (m : ℕ). OwnOf O R (Shown O R (length k.grid)) code m (start (grid_binders p.grid.items))) (sym lined)
        (subst (λ (counts : List ℕ). OwnOf O R (Shown O R (length k.grid)) code (line + 1) (start (grid_binders counts)))
        (sym (own_grid a sch l well legal small kept all groups n first line g p claims needs at there h)) shown))

  shown_at : (n : ℕ) (q : CodeGroup) → slice_get made n ≡ Some q → OwnShown IsStep a plan cert n (group_of q)
  shown_at n q there =
      let me = made_at a sch l well legal small kept all groups n q there in
      let r = alone_body a entries items 0 0 4 stored made items l.certificate.needs.items (groups.bodies all)
      (λ j v e. let none : 0 + j ≡ j = omega arith in ap (slice_get items) none ∙ e) n me.stored q me.is there in
      let b = r.placed in
      let counted : 0 + n ≡ n = omega arith in
      let body = subst (λ (i : ℕ). HasBody a entries i b.first_claim b.line me.stored q b.claims b.needs) counted b.body in
      let lined = b.lined in
      let begins : body_line plan n ≡ b.line + 1 = omega (arith, lined) in
      let extents : me.laid.region ≡ body.extents = same_extents a sch l well legal small kept all groups n q me.laid body.extents there me.found body.region in
      let skeleton : me.laid.skeleton ≡ body.skeleton =
      same_skeleton a sch l well legal small kept all groups n me.stored me.laid body.formulas body.extents body.skeleton me.is me.found body.defined extents body.laid in
      let laid : IsLaidBy me.stored body.extents body.skeleton =
      subst (λ (k : SkeletonText). IsLaidBy me.stored body.extents k) skeleton (subst (λ (es : List Extent). IsLaidBy me.stored es me.laid.skeleton) extents me.laid_by) in
      let own : (j : ℕ) (w : CodeClaim) → slice_get items j ≡ Some w → b.line < w.line → w.line < b.line + (lines (statement_of q.body) + 1) → In w b.claims =
      λ j w e low less. let x = r.alone j w e (omega (arith, lined, low)) (omega (arith, lined, less)) in at_in b.claims x.0 w x.2 in
      body_shown n b.first_claim b.line me.stored q b.claims b.needs me.is there body begins laid own

pub shown : StepsOweShown
shown a s l well legal small regions groups all asked n g at =
    let x = from_map group_of l.plan.groups.items n g at in
    subst (λ (u : Group). OwnShown IsStep a (plan_of l.plan) (certificate_of l.certificate) n u) (sym x.2) (shown_at a s l well legal small (regions all).0 all groups n x.0 x.1)
