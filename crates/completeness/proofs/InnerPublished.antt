-- Each group of whatever plan `lower` makes publishes by the last of its claims, which is of its own function and stands behind its last nest.
use Rattle.std.proofs.Common.{◌≡◌, ℕ, suc, ◌+◌, ◌-◌, ◌*◌, ◌<◌, ◌≤◌, true, List, [], ◌∷◌, ◌++◌, length, map, take, Option, Some, refl, sym, ap, ◌∙◌, subst, inl, inr, ◌⊎◌, arith}
use Rattle.std.specs.Prelude.{string_bytes, slice_get, MatchOption}
use Rattle.std.proofs.lemmas.List.{length-map}
use Rattle.lin.specs.declared.span.Span1.{Span1}
use Rattle.plan.specs.declared.plan.Group.{Group as CodeGroup}
use Rattle.plan.specs.declared.certificate.cert.Claim.{Claim as CodeClaim}
use Rattle.plan.specs.declared.certificate.cert.Need.{Need}
use Rattle.plan.specs.declared.certificate.cert.Window.{Window}
use Rattle.plan.specs.declared.stmt.Places.{Places}
use Rattle.plan.specs.Plan.{Statement, Seq, For, Let, First, Guard, Alloc, Fetch, Store, Publish, Statements, Empty, Then, Group, Plan, block}
use Rattle.plan.specs.View.{group_of, plan_of, statement_of}
use Rattle.plan.specs.Lines.{lines, block_lines, groups_lines, group_line}
use Rattle.plan.specs.Certificate.Certificate.{Claim, Certificate, claim_of, certificate_of}
use Rattle.meaning.specs.Algorithm.{Algorithm}
use Rattle.meaning.specs.Conditions.{IsAlgorithm}
use Rattle.soundness.specs.Given.{outline_of}
use Rattle.soundness.specs.Outline.Flaws.{line_told}
use Rattle.headline.proofs.Lists.{from_map, at_map}
use Rattle.sched.specs.Schedule.{Schedule}
use Rattle.sched.specs.declared.skeleton.Step.{Step}
use Rattle.sched.specs.declared.skeleton.Step.TheVariants.{Turns, Named, Tested}
use Rattle.sched.specs.Runs.{lines_to}
use Rattle.sched.specs.Skeleton.{NestText, SkeletonText}
use Rattle.validation.specs.declared.stored.lines.GroupLines.{GroupLines}
use Rattle.validation.specs.Groups.Lines.{Here, in_loop, inside, in_later, before, after, is_empty, lines_from, start}
use Rattle.validation.specs.Groups.Inside.{Inside, InsideOne, StandsIn}
use Rattle.validation.specs.Groups.Wrong.{IsOutside, NamesUnknown}
use Rattle.lower.specs.declared.lowering.Lowered.{Lowered}
use Rattle.sched.specs.Stored.{FormulaText, StoredText}
use Rattle.lower.specs.Stored.{stored_functions}
use Rattle.regions.specs.Regions.{bodies_from, skeleton_of}
use Rattle.sched.specs.Loading.{Loads}
use Rattle.blocks.specs.Blocks.{dimensions_of, claimed_region, own_places}
use Rattle.blocks.specs.Bodies.{IsStore, AreNests, IsBodyWith, step_lines, first_lines}
use Rattle.lower.specs.Bodies.{last_claim}
use Rattle.sched.specs.Fetches.{Entry}
use Rattle.blocks.specs.Fetches.{FetchText, with_fetches}
use Rattle.lower.specs.Fetches.{loads_from}
use Rattle.sched.specs.Placed.{PlacedText}
use Rattle.lower.specs.Placed.{AreFetchedBy, IsMixedBody, with_fetched}
use Rattle.blocks.specs.Placed.{begun, names_over, group_owner, group_nests}
use Rattle.lower.specs.Groups.{rooted, HasGroups, IsBodyBy, line_behind}
use Rattle.completeness.specs.Laws.{IsPublish, AreLinesTold}
use Rattle.completeness.specs.Inside.{LastLinesAreKnown}
use Rattle.completeness.proofs.Standing.{nests_long}
use Rattle.completeness.proofs.ClaimLines.{known_stored}
use Rattle.completeness.proofs.Counts.{fetches_claim, nests_claim, bodies_many}
use Rattle.completeness.proofs.LinesTold.{not_outside}
use Rattle.completeness.proofs.Unlike.{Clear, ClearAll, At, none_inside, joined_clear, Numbered, get_second}
use Rattle.completeness.proofs.Walked.{AreSteps, group_done}
use Rattle.completeness.proofs.WalkedLines.{joined_lines, AreCounted, Counted, counted_each, group_last}
use Rattle.completeness.proofs.InnerLets.{IsNamed}
use Rattle.completeness.proofs.InnerShapes.{IsInner}
use Rattle.completeness.proofs.InnerBodies.{over_region, every_step, IsBodyAt, lined_found}
use Rattle.completeness.proofs.InnerStored.{IsGroupAt, group_by, known_inside, gs}

-- ---- lines

lines_to_long : (ss : List Step) (inner : Statements) → block_lines (lines_to ss inner) ≡ step_lines ss + block_lines inner
lines_to_long [] inner = omega arith
lines_to_long (Turns i x kind ∷ ss) inner = (let rest = lines_to_long ss inner in omega (arith, rest))
lines_to_long (Named i pick fs ∷ ss) inner = (let rest = lines_to_long ss inner in omega (arith, rest))
lines_to_long (Tested low high ∷ ss) inner = (let rest = lines_to_long ss inner in omega (arith, rest))

fetches_long : (fs : List FetchText) (rest : List Statement) → block_lines (block (with_fetches fs rest)) ≡ 2 * length fs + block_lines (block rest)
fetches_long [] rest = omega arith
fetches_long (f ∷ fs) rest = (let more = fetches_long fs rest in omega (arith, more))

body_long : (g : StoredText) (k : SkeletonText) (places : List Places) (fs : List FetchText) (nests : List Statement) (claim : ℕ) (body : Statement) → IsBodyWith g k places fs nests claim body →
    lines body ≡ step_lines k.head + (1 + (2 * length fs + (block_lines (block nests) + 1)))
body_long g k places fs nests claim body with =
    let rest = nests ++ Publish claim ∷ [] in
    let one = lines_to_long k.head (block (Alloc 0 g.subject.name places ∷ with_fetches fs rest)) in
    let two = fetches_long fs rest in
    let three = joined_lines nests (Publish claim ∷ []) in
    let is = ap lines with.is in
    omega (arith, one, two, three, is)

-- ---- the last claim of a group

-- by the claim of this number the group publishes, which is of this function and stands at a line behind the group's
pub record IsPublished (full : List CodeClaim) (x : List ℕ) (line long number : ℕ) : Type 0 where
  pub claim : CodeClaim
  pub at : slice_get full number ≡ Some claim
  pub named : string_bytes claim.function ≡ x
  pub low : line < claim.line
  pub high : claim.line < line + long

record IsLastOf (g : StoredText) (cs : List CodeClaim) (line : ℕ) : Type 0 where
  front : List CodeClaim
  last : CodeClaim
  are : cs ≡ front ++ last ∷ []
  named : string_bytes last.function ≡ g.subject.name
  stands : last.line ≡ line - 1

own_last : (g : StoredText) (fs : List FormulaText) (r : List Span1) (ms : Loads) (c line d : ℕ) (n : NestText) (ns : List NestText) (xs : List Statement) (cs : List CodeClaim) →
    AreNests g fs r ms c line d (n ∷ ns) xs cs → IsLastOf g cs (line + block_lines (block xs))
own_last g fs r ms c line d n ns xs [] h = absurd h
own_last g fs r ms c line d n [] xs (v ∷ cs) h =
    let none : h.others ≡ [] = h.behind.0 in
    let whole : block_lines (block xs) ≡ block_lines (block h.first) =
    ap (λ (ys : List Statement). block_lines (block ys)) h.are ∙ joined_lines h.first h.others ∙ ap (λ (ys : List Statement). block_lines (block h.first) + block_lines (block ys)) none ∙
    nothing (block_lines (block h.first)) in
    record {
      front = [];
      last = v;
      are = ap (λ (ws : List CodeClaim). v ∷ ws) h.behind.1;
      named = h.here.claims.named;
      stands = h.here.claims.after ∙ ap (λ (m : ℕ). (line + m) - 1) (sym whole);
    }
  where
    nothing : (m : ℕ) → m + 0 ≡ m
    nothing m = omega arith
own_last g fs r ms c line d n (k ∷ ns) xs (v ∷ cs) h =
    let rest = own_last g fs r (ms ++ (g.subject.name, c) ∷ []) (c + 1) (line + block_lines (block h.first)) (d + 1) k ns h.others cs h.behind in
    let whole : block_lines (block xs) ≡ block_lines (block h.first) + block_lines (block h.others) = ap (λ (ys : List Statement). block_lines (block ys)) h.are ∙ joined_lines h.first h.others in
    let same : (line + block_lines (block h.first)) + block_lines (block h.others) ≡ line + block_lines (block xs) = omega (arith, whole) in
    record {
      front = v ∷ rest.front;
      last = rest.last;
      are = ap (λ (ws : List CodeClaim). v ∷ ws) rest.are;
      named = rest.named;
      stands = rest.stands ∙ ap (λ (m : ℕ). m - 1) same;
    }

last_at : {A : Type 0} (xs : List A) (x : A) → slice_get (xs ++ x ∷ []) (length xs) ≡ Some x
last_at [] x = refl
last_at (y ∷ xs) x = last_at xs x

last_long : {A : Type 0} (xs : List A) (x : A) → length (xs ++ x ∷ []) ≡ length xs + 1
last_long [] x = omega arith
last_long (y ∷ xs) x = (let rest = last_long xs x in omega (arith, rest))

record IsSome {A : Type 0} (xs : List A) : Type 0 where
  first : A
  others : List A
  is : xs ≡ first ∷ others

some_of : {A : Type 0} (xs : List A) → 1 ≤ length xs → IsSome xs
some_of [] le = absurd (omega (arith, le))
some_of (x ∷ xs) le = record { first = x; others = xs; is = refl }

joined_long : {A : Type 0} (xs ys : List A) → length (xs ++ ys) ≡ length xs + length ys
joined_long [] ys = omega arith
joined_long (x ∷ xs) ys = (let rest = joined_long xs ys in omega (arith, rest))

by_fetched : (n b line : ℕ) (xs : List (ℕ × Entry)) (fs : List FetchText) (ws : List Need) (cs : List CodeClaim) → AreFetchedBy n b line xs fs ws cs → length cs ≡ length fs
by_fetched n b line [] [] [] [] h = refl
by_fetched n b line [] [] [] (c ∷ cs) h = absurd h
by_fetched n b line [] [] (w ∷ ws) cs h = absurd h
by_fetched n b line [] (f ∷ fs) ws cs h = absurd h
by_fetched n b line (x ∷ xs) [] ws cs h = absurd h
by_fetched n b line (x ∷ xs) (f ∷ fs) [] cs h = absurd h
by_fetched n b line (x ∷ xs) (f ∷ fs) (w ∷ ws) [] h = absurd h
by_fetched n b line (x ∷ xs) (f ∷ fs) (w ∷ ws) (c ∷ cs) h = ap suc (by_fetched n (b + 1) (line + 2) xs fs ws cs h.1)

-- ---- no other line publishes

module _ (P : Statement → Type 0) (only : (s : Statement) → P s → IsPublish s) where
  steps_clear : (ss : List Step) (inner : Statements) → ClearAll P inner → ClearAll P (lines_to ss inner)
  steps_clear [] inner x = x
  steps_clear (Turns i x kind ∷ ss) inner h = ((λ e. only (For i x kind (Seq (lines_to ss inner))) e, steps_clear ss inner h), tt)
  steps_clear (Named i pick fs ∷ ss) inner h = (λ e. only (Let i pick fs) e, steps_clear ss inner h)
  steps_clear (Tested low high ∷ ss) inner h = ((λ e. only (Guard low high (Seq (lines_to ss inner))) e, steps_clear ss inner h), tt)

  fetches_clear : (fs : List FetchText) (rest : List Statement) → ClearAll P (block rest) → ClearAll P (block (with_fetches fs rest))
  fetches_clear [] rest h = h
  fetches_clear (f ∷ fs) rest h = (λ e. only (Alloc f.buffer f.function f.places) e, (λ e. only (Fetch f.buffer f.group f.region) e, fetches_clear fs rest h))

  store_clear : (g : StoredText) (fs : List FormulaText) (ms : Loads) (d : ℕ) (w : NestText) (s : Statement) → IsStore g fs ms d w s → Clear P s
  store_clear g fs ms d w (Store b k at e) h = λ q. only (Store b k at e) q
  store_clear g fs ms d w (Seq all) h = absurd h
  store_clear g fs ms d w (For i x kind body) h = absurd h
  store_clear g fs ms d w (Let i pick forms) h = absurd h
  store_clear g fs ms d w (First i a b) h = absurd h
  store_clear g fs ms d w (Guard low high body) h = absurd h
  store_clear g fs ms d w (Alloc b f places) h = absurd h
  store_clear g fs ms d w (Fetch b f region) h = absurd h
  store_clear g fs ms d w (Publish c) h = absurd h

  nests_clear : (g : StoredText) (fs : List FormulaText) (r : List Span1) (ms : Loads) (c line d : ℕ) (ns : List NestText) (xs : List Statement) (cs : List CodeClaim) →
      AreNests g fs r ms c line d ns xs cs → ClearAll P (block xs)
  nests_clear g fs r ms c line d [] xs cs h = subst (λ (ys : List Statement). ClearAll P (block ys)) (sym h.0) tt
  nests_clear g fs r ms c line d (w ∷ ns) xs [] h = absurd h
  nests_clear g fs r ms c line d (w ∷ ns) xs (v ∷ cs) h =
      let nest = h.here.nest in
      let here : ClearAll P (block h.first) = subst (ClearAll P) (sym nest.comes) (steps_clear w.steps (Then nest.store Empty) (store_clear g fs ms d w nest.store nest.stores, tt)) in
      let rest = nests_clear g fs r (ms ++ (g.subject.name, c) ∷ []) (c + 1) (line + block_lines (block h.first)) (d + 1) ns h.others cs h.behind in
      subst (λ (ys : List Statement). ClearAll P (block ys)) (sym h.are) (joined_clear P h.first h.others here rest)

  body_clear : (g : StoredText) (k : SkeletonText) (places : List Places) (fs : List FetchText) (nests : List Statement) (claim : ℕ) (body : Statement) → IsBodyWith g k places fs nests claim body →
      ClearAll P (block nests) → ¬ P (Publish claim) → Clear P body
  body_clear g k places fs nests claim body with h last =
      subst (Clear P) (sym with.is) (steps_clear k.head (block (Alloc 0 g.subject.name places ∷ with_fetches fs (nests ++ Publish claim ∷ [])))
      (λ e. only (Alloc 0 g.subject.name places) e, fetches_clear fs (nests ++ Publish claim ∷ []) (joined_clear P nests (Publish claim ∷ []) h (last, tt))))

-- ---- of a line inside the group

module _ (a : Algorithm) (p : Plan) (c : Certificate) (n : ℕ) (g : Group) (G : GroupLines) (line : ℕ) where
  abbrev Flawed : Statement → Here → Type 0
  Flawed s here = (line_told here.line ≡ line) × (IsPublish s × NamesUnknown a p c g (outline_of p c n g) s here)

  abbrev Bad : Statement → Type 0
  Bad (Publish k) = MatchOption (slice_get c.claims k) (Unit {0}) (λ x. IsOutside G x.line ⊎ ¬ (x.function ≡ g.function))
  Bad _ = ⊥

  only : (s : Statement) → Bad s → IsPublish s
  only (Publish k) h = tt
  only (Seq all) h = absurd h
  only (For i x kind body) h = absurd h
  only (Let i pick forms) h = absurd h
  only (First i x y) h = absurd h
  only (Guard low high body) h = absurd h
  only (Alloc b f places) h = absurd h
  only (Fetch b h region) k = absurd k
  only (Store b k at e) h = absurd h

  mutual
    bad_inside : (s : Statement) (here : Here) → here.group ≡ G → Inside Flawed s here → Inside (At Bad line) s here
    bad_inside (Seq all) here e k = bad_in_all all here e k
    bad_inside (For i x kind body) here e (inl k) = absurd k.1.0
    bad_inside (For i x kind body) here e (inr k) = inr (bad_inside body (in_loop i here) e k)
    bad_inside (Let i pick forms) here e k = absurd k.1.0
    bad_inside (First i b d) here e (inl k) = absurd k.1.0
    bad_inside (First i b d) here e (inr (inl k)) = inr (inl (bad_inside b (inside here) e k))
    bad_inside (First i b d) here e (inr (inr k)) = inr (inr (bad_inside d (in_later b here) e k))
    bad_inside (Guard low high body) here e (inl k) = absurd k.1.0
    bad_inside (Guard low high body) here e (inr k) = inr (bad_inside body (inside here) e k)
    bad_inside (Alloc b f places) here e k = absurd k.1.0
    bad_inside (Fetch b u region) here e k = absurd k.1.0
    bad_inside (Store b q at d) here e k = absurd k.1.0
    bad_inside (Publish q) here e k =
        (k.0, subst (λ (u : GroupLines). MatchOption (slice_get c.claims q) (Unit {0}) (λ x. IsOutside u x.line ⊎ ¬ (x.function ≡ g.function))) e k.1.1)

    bad_in_all : (all : Statements) (here : Here) → here.group ≡ G → InsideOne Flawed all here → InsideOne (At Bad line) all here
    bad_in_all Empty here e k = k
    bad_in_all (Then s rest) here e (inl k) = inl (bad_inside s (before (is_empty rest) here) e k)
    bad_in_all (Then s rest) here e (inr k) = inr (bad_in_all rest (after s here) e k)

module _ (a : Algorithm) (sch : Schedule) (l : Lowered) (well : IsAlgorithm a) (groups : HasGroups a (stored_functions a sch) l) where
  abbrev p : Plan
  p = plan_of l.plan

  abbrev c : Certificate
  c = certificate_of l.certificate

  abbrev items : List CodeClaim
  items = l.certificate.claims.items

  abbrev entries : List Entry
  entries = rooted true (gs a sch l well groups) groups.placed.regions

  abbrev all_placed : List (List PlacedText)
  all_placed = groups.placed.inside.placed

  -- where functions are computed inside the loops of a group, lines and claims are counted
  counted_so : (P : Statement → Type 0) (only_so : (s : Statement) → P s → IsPublish s) (e : Entry) (q : CodeGroup) (inners : List PlacedText) →
      ((j : ℕ) (i : PlacedText) → slice_get inners j ≡ Some i → IsInner (gs a sch l well groups) i) → (n first line next : ℕ) (claims : List CodeClaim) (needs : List Need) (windows : List Window)
      (b : IsMixedBody entries n first line next inners e claims needs windows (statement_of q.body)) →
      AreCounted P only_so (with_fetched b.fetches b.lines_of b.fetched (begun first line e.1.skeleton)) b.nests b.done
  counted_so P only_so e q inners known n first line next claims needs windows b =
      let steps : (j : ℕ) (i : PlacedText) → slice_get inners j ≡ Some i → AreSteps (λ f s. Unit {0}) IsNamed i =
      λ j i at. record { lets = (known j i at).lets; nests = λ d w at. every_step [] w.steps; later = λ l e d w at. every_step [] w.steps } in
      group_done inners (λ f s. Unit {0}) IsNamed (λ o ns. Unit {0}) (Counted P only_so) (counted_each P only_so inners) steps (length inners)
      (group_owner e (claimed_region (dimensions_of e.0 e.1.region e.1.skeleton))) e.1.skeleton.nests tt
      (λ d w at. every_step [] w.steps) (names_over e.1.skeleton) (with_fetched b.fetches b.lines_of b.fetched (begun first line e.1.skeleton)) b.done b.nests b.made

  -- the next group has the line behind all of these
  next_line : (j : ℕ) (e : Entry) (us : List PlacedText) (q : CodeGroup) → slice_get entries j ≡ Some e → slice_get all_placed j ≡ Some us → (m first line next : ℕ) (claims : List CodeClaim)
      (needs : List Need) (windows : List Window) → IsBodyBy a entries m first line next us e q claims needs windows → next ≡ line_behind line q
  next_line j e [] q at inside m first line next claims needs windows w = w.1
  next_line j e (i ∷ is) q at inside m first line next claims needs windows b =
      let known = known_inside a sch l well groups j e (i ∷ is) at inside in
      let counted = counted_so IsPublish (λ s h. h) e q (i ∷ is) known m first line next claims needs windows b in
      let body = body_long e.0 e.1.skeleton (own_places (dimensions_of e.0 e.1.region e.1.skeleton)) b.fetches b.nests (b.done.claim - 1) (statement_of q.body) b.with in
      let line_is = counted.line in
      let behind = b.behind in
      omega (arith, behind, line_is, body)

  -- the line behind a group
  module _ (h : ℕ) (q : CodeGroup) (g : IsGroupAt a sch l well groups h q) (P : Statement → Type 0) (only_so : (s : Statement) → P s → IsPublish s) where
    abbrev e : Entry
    e = g.body.entry

    abbrev k : SkeletonText
    k = e.1.skeleton

    laid : skeleton_of e.0 e.2 e.1.region ≡ Some k
    laid = over_region true (gs a sch l well groups) groups.placed.regions h e groups.placed.around g.body.at

    some_nests : 1 ≤ length k.nests
    some_nests =
        let known = known_stored a sch well g.stored.place e.0 g.stored.at in
        let formulas = known.formulas e.2 g.stored.defined in
        let many = nests_long e.0.subject.variables (bodies_from e.0.changes 0 e.0.subject.reductions e.2) e.0.placed e.1.region k laid in
        let bodies = bodies_many e.0.changes 0 e.0.subject.reductions e.2 in
        omega (arith, formulas, many, bodies)

    -- what a body that publishes is: how long, by which claim, and that no other line of it publishes
    record IsEnd (first line next : ℕ) : Type 0 where
      number : ℕ
      behind : next ≡ line + (lines (statement_of q.body) + 1)
      published : IsPublished items e.0.subject.name line (lines (statement_of q.body) + 1) number
      clear : ¬ P (Publish number) → Clear P (statement_of q.body)

    whole_end : (n first line next : ℕ) (claims : List CodeClaim) (needs : List Need) (windows : List Window) → IsBodyBy a entries n first line next [] e q claims needs windows →
        Numbered a entries items first claims → IsEnd first line next
    whole_end n first line next claims needs windows w numbered =
        let b = w.0 in
        let ns = some_of k.nests some_nests in
        let nested = subst (λ (us : List NestText). AreNests e.0 e.2 (claimed_region (dimensions_of e.0 e.1.region k)) (loads_from first b.fetches) (first + length b.fetches) (line +
        first_lines k + 2 * length b.fetches) 0 us b.nests b.own)
        ns.is b.nested in
        let last = own_last e.0 e.2 (claimed_region (dimensions_of e.0 e.1.region k)) (loads_from first b.fetches) (first + length b.fetches) (line + first_lines k + 2 * length b.fetches) 0
        ns.first ns.others b.nests b.own nested in
        let long = fetches_claim _ _ n 1 _ _ b.fetches needs b.fetched b.fetching in
        let body = body_long e.0 k (own_places (dimensions_of e.0 e.1.region k)) b.fetches b.nests (last_claim first b.fetches k) (statement_of q.body) b.with in
        let nests = nests_claim e.0 e.2 _ _ _ _ 0 k.nests b.nests b.own b.nested in
        let count = ap length last.are ∙ last_long last.front last.last in
        let place : slice_get claims (length b.fetched + length last.front) ≡ Some last.last =
        ap (λ (ws : List CodeClaim). slice_get ws (length b.fetched + length last.front)) b.claimed ∙ get_second a entries items b.fetched b.own (length last.front)
        ∙ ap (λ (ws : List CodeClaim). slice_get ws (length last.front)) last.are ∙ last_at last.front last.last in
        let number : first + (length b.fetched + length last.front) ≡ last_claim first b.fetches k = omega (arith, long, nests, count) in
        let stands = last.stands in
        record {
          number = last_claim first b.fetches k;
          behind = w.1;
          published = record {
            claim = last.last;
            at = ap (slice_get items) (sym number) ∙ numbered (length b.fetched + length last.front) last.last place;
            named = last.named;
            low = omega (arith, stands);
            high = omega (arith, stands, body);
          };
          clear = body_clear P only_so e.0 k (own_places (dimensions_of e.0 e.1.region k)) b.fetches b.nests (last_claim first b.fetches k) (statement_of q.body) b.with
              (nests_clear P only_so e.0 e.2 _ _ _ _ 0 k.nests b.nests b.own b.nested);
        }

    mixed_end : (inners : List PlacedText) → ((j : ℕ) (i : PlacedText) → slice_get inners j ≡ Some i → IsInner (gs a sch l well groups) i) → (n first line next : ℕ) (claims : List CodeClaim)
        (needs : List Need) (windows : List Window) → IsMixedBody entries n first line next inners e claims needs windows (statement_of q.body) → Numbered a entries items first claims →
        IsEnd first line next
    mixed_end inners known n first line next claims needs windows b numbered =
        let s0 = with_fetched b.fetches b.lines_of b.fetched (begun first line k) in
        let o = group_owner e (claimed_region (dimensions_of e.0 e.1.region k)) in
        let counted = counted_so P only_so e q inners known n first line next claims needs windows b in
        let ns = some_of k.nests some_nests in
        let last = group_last (length inners) inners o ns.first ns.others (names_over k) s0 b.done b.nests
        (subst (λ (us : List NestText). group_nests (length inners) inners o us (names_over k) s0 ≡ Some (b.nests, b.done)) ns.is b.made) in
        let claim = b.done.claim - 1 in
        let body = body_long e.0 k (own_places (dimensions_of e.0 e.1.region k)) b.fetches b.nests claim (statement_of q.body) b.with in
        let line_is = counted.line in
        let claims_are = counted.counted in
        let mapped = length-map b.fetched claim_of in
        let many = by_fetched n 1 (line + first_lines k) _ b.fetches b.lines_of b.fetched b.fetching in
        let grown = ap length counted.grown ∙ joined_long (map claim_of b.fetched) counted.more in
        let total = ap length last.are ∙ last_long last.before last.last in
        let number : first + length last.before ≡ claim = omega (arith, claims_are, mapped, many, grown, total) in
        let v = from_map claim_of claims (length last.before) last.last (ap (λ (ws : List Claim). slice_get ws (length last.before)) (b.claimed ∙ last.are) ∙ last_at last.before last.last) in
        let same_line : v.0.line ≡ b.done.line - 1 = ap (λ (u : Claim). u.line) (sym v.2) ∙ last.line in
        let behind = b.behind in
        record {
          number = claim;
          behind = omega (arith, behind, line_is, body);
          published = record {
            claim = v.0;
            at = ap (slice_get items) (sym number) ∙ numbered (length last.before) v.0 v.1;
            named = ap (λ (u : Claim). u.function) (sym v.2) ∙ last.named;
            low = omega (arith, same_line, line_is);
            high = omega (arith, same_line, line_is, body);
          };
          clear = body_clear P only_so e.0 k (own_places (dimensions_of e.0 e.1.region k)) b.fetches b.nests claim (statement_of q.body) b.with counted.clear;
        }

    group_end : IsEnd g.body.first g.body.line g.body.next
    group_end = of g.body.inners g.body.body g.inside
      where
        of : (inners : List PlacedText) → IsBodyBy a entries (0 + h) g.body.first g.body.line g.body.next inners e q g.body.claims g.body.needs g.body.windows →
            ((j : ℕ) (i : PlacedText) → slice_get inners j ≡ Some i → IsInner (gs a sch l well groups) i) → IsEnd g.body.first g.body.line g.body.next
        of [] b inside = whole_end (0 + h) g.body.first g.body.line g.body.next g.body.claims g.body.needs g.body.windows b g.body.numbered
        of (i ∷ is) b inside = mixed_end (i ∷ is) inside (0 + h) g.body.first g.body.line g.body.next g.body.claims g.body.needs g.body.windows b g.body.numbered

  none_at : AreLinesTold p → (line : ℕ) → StandsIn p (λ n g s here. IsPublish s × NamesUnknown a p c g (outline_of p c n g) s here) line → ⊥
  none_at told line h =
      let x = from_map group_of l.plan.groups.items h.number h.group h.there in
      let q = x.0 in
      let r = lined_found a entries items 0 0 4 all_placed entries l.plan.groups.items items l.certificate.needs.items l.certificate.windows.items groups.placed.inside.bodies
      (λ j v e. let none : 0 + j ≡ j = omega arith in ap (slice_get items) none ∙ e) next_line h.number q x.1 in
      let made = group_by a sch l well groups h.number q x.1 r.0 in
      let g = made.0 in
      let G : GroupLines = lines_from (line_told (group_line p h.number)) (group_of q) in
      let first : Group → Here = λ u. start (line_told (group_line p h.number)) u in
      let stands = subst (λ (u : Group). Inside (λ s here. (line_told here.line ≡ line) × (IsPublish s × NamesUnknown a p c u (outline_of p c h.number u) s here)) u.body (first u)) x.2 h.stands in
      let bad = bad_inside a p c h.number (group_of q) G line (statement_of q.body) (first (group_of q)) refl stands in
      let end = group_end h.number q g (Bad a p c h.number (group_of q) G line) (only a p c h.number (group_of q) G line) in
      let there : slice_get p.groups h.number ≡ Some (group_of q) = h.there ∙ ap (λ (u : Group). Some u) x.2 in
      let w = end.published in
      let claim : slice_get c.claims end.number ≡ Some (claim_of w.claim) = at_map claim_of items end.number w.claim w.at in
      let line_is : g.body.line ≡ 4 + groups_lines (take h.number (map group_of l.plan.groups.items)) = ap (λ (b : IsBodyAt a entries items 0 h.number all_placed entries q). b.line) made.1 ∙ r.1 in
      let low = w.low in
      let high = w.high in
      let not_out = not_outside p h.number (group_of q) there told w.claim.line (omega (arith, line_is, low)) (omega (arith, line_is, high)) in
      let right = right_claim (lines_from (line_told (group_line p h.number)) (group_of q)) w.claim q (w.named ∙ sym g.over.named) not_out in
      none_inside (Bad a p c h.number (group_of q) G line) line (statement_of q.body)
      (end.clear (λ wrong. right (subst (λ (o : Option Claim). MatchOption o (Unit {0}) (λ x. IsOutside G x.line ⊎ ¬ (x.function ≡ string_bytes q.function))) claim wrong)))
      (first (group_of q)) bad
    where
      right_claim : (G : GroupLines) (w : CodeClaim) (q : CodeGroup) → string_bytes w.function ≡ string_bytes q.function → (IsOutside G w.line → ⊥) →
          IsOutside G w.line ⊎ ¬ (string_bytes w.function ≡ string_bytes q.function) → ⊥
      right_claim G w q same not_out (inl out) = not_out out
      right_claim G w q same not_out (inr differs) = differs same

pub known : LastLinesAreKnown
known a s l well legal groups told line h = none_at a s l well groups told line h
