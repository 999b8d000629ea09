-- No line of whatever plan `lower` makes stores something else than its definition, where each function that the schedule stores is stored in the plan.
use Rattle.std.proofs.Common.{◌≡◌, ℕ, ◌<◌, suc, ◌+◌, Bool, true, false, ◌||◌, List, [], ◌∷◌, ◌++◌, length, map, Some, refl, sym, ap, ◌∙◌, subst, arith, ◌^◌}
use Rattle.std.specs.Prelude.{◌-◌, string_bytes, slice_get}
use Rattle.std.specs.List.{AllByRecursion}
use Rattle.std.proofs.lemmas.List.{length-map}
use Rattle.plan.specs.declared.plan.Group.{Group as CodeGroup}
use Rattle.plan.specs.declared.certificate.cert.Claim.{Claim as CodeClaim}
use Rattle.plan.specs.declared.certificate.cert.Need.{Need}
use Rattle.plan.specs.declared.certificate.cert.Window.{Window}
use Rattle.plan.specs.Plan.{Statement, Alloc, Publish, Statements, Group, Plan, block}
use Rattle.plan.specs.View.{group_of, plan_of, statement_of}
use Rattle.plan.specs.Lines.{group_line}
use Rattle.plan.specs.Certificate.Certificate.{Claim, Certificate, claim_of, certificate_of}
use Rattle.plan.specs.Semantics.Setting.{allocated, function_in}
use Rattle.meaning.specs.Algorithm.{Function, Algorithm}
use Rattle.meaning.specs.Names.{same_name}
use Rattle.meaning.specs.Conditions.{IsAlgorithm}
use Rattle.soundness.specs.Given.{outline_of}
use Rattle.soundness.specs.Outline.Flaws.{line_told}
use Rattle.soundness.proofs.Refines.{name_true}
use Rattle.headline.proofs.Lists.{at_map, from_map, at_left}
use Rattle.sched.specs.Schedule.{Schedule}
use Rattle.sched.specs.Subjects.{subject_said}
use Rattle.sched.specs.Placing.{SubjectText}
use Rattle.sched.specs.declared.skeleton.Step.{Step}
use Rattle.sched.specs.declared.skeleton.Step.TheVariants.{Turns, Named, Tested}
use Rattle.sched.specs.Runs.{lines_to}
use Rattle.validation.specs.Groups.Lines.{Here, start}
use Rattle.validation.specs.Groups.Inside.{Inside}
use Rattle.validation.specs.Groups.Wrong.{StoresAnother, IsNotDefinitionAt}
use Rattle.validation.specs.Stored.Definitions.{allots, group_stores, is_stored, stored_in}
use Rattle.lower.specs.declared.lowering.Lowered.{Lowered}
use Rattle.sched.specs.Stored.{StoredText}
use Rattle.lower.specs.Stored.{stored_functions}
use Rattle.blocks.specs.Stored.{flags}
use Rattle.regions.specs.Regions.{bodies_from, skeleton_of}
use Rattle.blocks.specs.Blocks.{dimensions_of, claimed_region}
use Rattle.sched.specs.Fetches.{Entry}
use Rattle.blocks.specs.Fetches.{FetchText, with_fetches}
use Rattle.lower.specs.Fetches.{loads_from}
use Rattle.sched.specs.Placed.{PlacedText}
use Rattle.lower.specs.Placed.{AreFetchedBy, IsMixedBody, with_fetched, picked, numbered}
use Rattle.blocks.specs.Placed.{begun, names_over, group_owner}
use Rattle.lower.specs.Computed.{AreAllFound}
use Rattle.lower.specs.Groups.{rooted, HasBody, HasGroups, IsBodyBy}
use Rattle.blocks.specs.Groups.{IsOver}
use Rattle.completeness.specs.Laws.{NamesNoLoad}
use Rattle.completeness.specs.Inside.{AreAllStored, AllDefinitionsAreStored}
use Rattle.completeness.proofs.Laid.{subjects, found}
use Rattle.completeness.proofs.Standing.{nest_shape, Rises}
use Rattle.sched.specs.Order.{Ordered}
use Rattle.sched.proofs.Arriving.{skeletal}
use Rattle.completeness.proofs.Marks.{marked, any_at, both_ways}
use Rattle.completeness.proofs.Unlike.{Clear, ClearAll, none_inside, joined_clear, Numbered, body_clear}
use Rattle.completeness.proofs.Seats.{Allots, Agrees, AgreeAll, agree_first, allots_of, body_agrees}
use Rattle.completeness.proofs.Walked.{group_done}
use Rattle.completeness.proofs.WalkedStores as stores
use Rattle.completeness.proofs.WalkedStores.{IsOwner, Right, right_each}
use Rattle.completeness.proofs.InnerShapes.{IsEntryOf, entry_of, HaveShapes, IsInner, inners_at}
use Rattle.completeness.proofs.InnerBodies.{over_region, made_of, IsBodyAt, body_found, IsStoredName, every_step, all_steps, body_allots}

-- steps in order bind symbols one by one
pub ordered_rise : (n m : ℕ) (ss : List Step) → Ordered n ss m → Rises n ss m
ordered_rise n m [] h = h
ordered_rise n m (Turns i x kind ∷ ss) h = (h.0, ordered_rise (n + 1) m ss h.2)
ordered_rise n m (Named i pick fs ∷ ss) h = (h.0, ordered_rise (n + 1) m ss h.3)
ordered_rise n m (Tested low high ∷ ss) h = ordered_rise n m ss h

-- ---- the body's own lines

module _ (T : ℕ → List ℕ) where
  agree_lines : (ss : List Step) (inner : Statements) → AgreeAll T (lines_to ss inner) → AgreeAll T inner
  agree_lines [] inner h = h
  agree_lines (Turns i x kind ∷ ss) inner h = agree_lines ss inner h.0
  agree_lines (Named i pick fs ∷ ss) inner h = agree_lines ss inner h.1
  agree_lines (Tested low high ∷ ss) inner h = agree_lines ss inner h.0

  agree_fetches : (fs : List FetchText) (rest : List Statement) → AgreeAll T (block (with_fetches fs rest)) → AgreeAll T (block rest)
  agree_fetches [] rest h = h
  agree_fetches (f ∷ fs) rest h = agree_fetches fs rest h.1.1

module _ (a : Algorithm) (sch : Schedule) (l : Lowered) (well : IsAlgorithm a) (groups : HasGroups a (stored_functions a sch) l) where
  abbrev pub gs : List StoredText
  gs = stored_functions a sch

  abbrev ps : List CodeGroup
  ps = l.plan.groups.items

  abbrev items : List CodeClaim
  items = l.certificate.claims.items

  abbrev p : Plan
  p = plan_of l.plan

  abbrev c : Certificate
  c = certificate_of l.certificate

  abbrev st : List Bool
  st = flags (subjects a sch)

  abbrev entries : List Entry
  entries = rooted true gs groups.placed.regions

  abbrev others : List Entry
  others = rooted false gs groups.placed.regions

  abbrev placed : List (List PlacedText)
  placed = groups.placed.inside.placed

  among : (k : ℕ) (e : Entry) → slice_get entries k ≡ Some e → IsEntryOf gs e
  among k e at = entry_of true gs groups.placed.regions k e at

  -- ---- groups

  -- which functions are computed inside the loops of each group
  pub all_found : AreAllFound a (length others) entries others placed
  all_found = groups.placed.inside.stand.found

  -- what is computed inside the loops of a group
  pub known_inside : (h : ℕ) (e : Entry) (us : List PlacedText) → slice_get entries h ≡ Some e → slice_get placed h ≡ Some us → (k : ℕ) (i : PlacedText) → slice_get us k ≡ Some i → IsInner gs i
  known_inside h e us at inside =
      inners_at a gs (length others) entries others placed (λ k c t. entry_of false gs groups.placed.regions k c t) all_found h e us at inside

  -- the group of a number: its entry, and its body with the functions inside its loops
  pub record IsGroupAt (h : ℕ) (q : CodeGroup) : Type 0 where
    pub body : IsBodyAt a entries items 0 h placed entries q
    pub stored : IsEntryOf gs body.entry
    pub over : IsOver body.entry q
    pub inside : (k : ℕ) (i : PlacedText) → slice_get body.inners k ≡ Some i → IsInner gs i

  pub group_by : (h : ℕ) (q : CodeGroup) → slice_get ps h ≡ Some q → (b : IsBodyAt a entries items 0 h placed entries q) → (g : IsGroupAt h q) × (g.body ≡ b)
  group_by h q at b =
      let m = made_of entries 0 ps l.certificate.own.items groups.placed.over h q at in
      let same_entry : m.entry ≡ b.entry = cc (m.at, b.at) in (
        record {
          body = b;
          stored = among h b.entry b.at;
          over = subst (λ (e : Entry). IsOver e q) same_entry m.over;
          inside = known_inside h b.entry b.inners b.at b.inside;
        },
        refl,
      )

  pub group_there : (h : ℕ) (q : CodeGroup) → slice_get ps h ≡ Some q → IsGroupAt h q
  group_there h q at =
      (group_by h q at (body_found a entries items 0 0 4 placed entries ps items l.certificate.needs.items l.certificate.windows.items groups.placed.inside.bodies
      (λ j v e. let none : 0 + j ≡ j = omega arith in ap (slice_get items) none ∙ e) h q at)).0

  allots_at : (h : ℕ) (q : CodeGroup) → IsGroupAt h q → (m : ℕ) × Allots (IsStoredName gs) 0 (statement_of q.body) m
  allots_at h q g =
      body_allots a gs entries among (0 + h) g.body.first g.body.line g.body.next g.body.inners g.body.entry q g.body.claims g.body.needs g.body.windows g.stored g.inside g.body.body

  -- ---- marks

  -- a stored function of this name is this function
  of_stored : (k : ℕ) (f : Function) → slice_get a.functions k ≡ Some f → IsStoredName gs f.name → (subject_said a sch f).is_stored ≡ true
  of_stored k f at s =
      let n = s.0 in
      let u = s.1 in
      let w = found a sch st u a.functions n s.2 in
      let same_names : w.function.name ≡ f.name = sym (ap (λ (v : StoredText). v.subject.name) w.is) ∙ s.3 in
      let one = at_map (λ (f : Function). f.name) a.functions w.place w.function w.at ∙ ap (λ (x : List ℕ). Some x) same_names in
      let two = at_map (λ (f : Function). f.name) a.functions k f at in
      let next : suc w.place ≡ suc k = well.names (suc w.place) (suc k) f.name one two in
      let place : w.place ≡ k = omega (arith, next) in
      let same : w.function ≡ f = cc (w.at, ap (slice_get a.functions) place, at) in
      ap (λ (h : Function). (subject_said a sch h).is_stored) (sym same) ∙ sym (ap (λ (v : StoredText). v.subject.is_stored) w.is) ∙ marked a sch st a.functions n u s.2

  by_group : (k : ℕ) (f : Function) → slice_get a.functions k ≡ Some f → is_stored f.name p ≡ true → (subject_said a sch f).is_stored ≡ true
  by_group k f at h =
      let x = any_at (group_stores f.name) p.groups h in
      let y = from_map group_of ps x.0 x.1 x.2 in
      let told : group_stores f.name (group_of y.0) ≡ true = ap (group_stores f.name) (sym y.2) ∙ x.3 in
      of_stored k f at (of y.0 (group_there x.0 y.0 y.1) (same_name (string_bytes y.0.function) f.name) refl told)
    where
      of : (q : CodeGroup) → {h : ℕ} → IsGroupAt h q → (v : Bool) → same_name (string_bytes q.function) f.name ≡ v → (v || allots f.name (statement_of q.body)) ≡ true → IsStoredName gs f.name
      of q {h} g true t e = (g.stored.place, g.body.entry.0, g.stored.at, sym g.over.named ∙ name_true (string_bytes q.function) f.name t)
      of q {h} g false t e = (let w = allots_at h q g in allots_of (IsStoredName gs) f.name 0 (statement_of q.body) w.0 w.1 e)

  pub marks : AreAllStored a sch p → stored_in a p ≡ st
  marks all = of a.functions (λ k f at. both_ways (is_stored f.name p) (subject_said a sch f).is_stored (by_group k f at) (all k f at))
    where
      of : (fs : List Function) → ((k : ℕ) (f : Function) → slice_get fs k ≡ Some f → is_stored f.name p ≡ (subject_said a sch f).is_stored) →
          map (λ (f : Function). is_stored f.name p) fs ≡ map (λ (u : SubjectText). u.is_stored) (map (subject_said a sch) fs)
      of [] h = refl
      of (f ∷ fs) h = (λ i. h 0 f refl i ∷ of fs (λ k g e. h (suc k) g e) i)

  -- ---- stores

  module _ (free : NamesNoLoad a) (few : length items < 2 ^ 64) (marked_so : stored_in a p ≡ st) (h : ℕ) (q : CodeGroup) where
    abbrev input : p.input.name ≡ a.input
    input = groups.head.input.named

    abbrev Another : Statement → Type 0
    Another s = StoresAnother a p (outline_of p c h (group_of q)) s

    steps_clear : (ss : List Step) (inner : Statements) → ClearAll Another inner → ClearAll Another (lines_to ss inner)
    steps_clear [] inner x = x
    steps_clear (Turns j span kind ∷ ss) inner x = ((λ e. e, steps_clear ss inner x), tt)
    steps_clear (Named j pick forms ∷ ss) inner x = (λ e. e, steps_clear ss inner x)
    steps_clear (Tested low high ∷ ss) inner x = ((λ e. e, steps_clear ss inner x), tt)

    fetches_clear : (xs : List FetchText) (rest : List Statement) → ClearAll Another (block rest) → ClearAll Another (block (with_fetches xs rest))
    fetches_clear [] rest x = x
    fetches_clear (y ∷ xs) rest x = (λ e. e, (λ e. e, fetches_clear xs rest x))

    -- loads of what is fetched
    loads_by : (n b line : ℕ) (xs : List (ℕ × Entry)) (fs : List FetchText) (ws : List Need) (cs : List CodeClaim) → AreFetchedBy n b line xs fs ws cs → (m : ℕ) →
        ((j : ℕ) (w : Claim) → slice_get (map claim_of cs) j ≡ Some w → slice_get c.claims (m + j) ≡ Some w) → AllByRecursion (λ x. stores.IsClaimIn a sch l well free input few marked_so h
        q 0 [] x.0 x.1) (loads_from m fs)
        × (length cs ≡ length fs)
    loads_by n b line [] [] [] [] k m at = (tt, refl)
    loads_by n b line [] [] [] (v ∷ cs) k m at = absurd k
    loads_by n b line [] [] (w ∷ ws) cs k m at = absurd k
    loads_by n b line [] (f ∷ fs) ws cs k m at = absurd k
    loads_by n b line (x ∷ xs) [] ws cs k m at = absurd k
    loads_by n b line (x ∷ xs) (f ∷ fs) [] cs k m at = absurd k
    loads_by n b line (x ∷ xs) (f ∷ fs) (w ∷ ws) [] k m at = absurd k
    loads_by n b line (x ∷ xs) (f ∷ fs) (w ∷ ws) (v ∷ cs) k m at =
        let none : m + 0 ≡ m = omega arith in
        let rest = loads_by n (b + 1) (line + 2) xs fs ws cs k.1 (m + 1) (λ j y e. let next : m + suc j ≡ (m + 1) + j = omega arith in ap (slice_get c.claims) (sym next) ∙ at (suc j) y e) in
        (((claim_of v, ap (slice_get c.claims) (sym none) ∙ at 0 (claim_of v) refl, k.0.claimed.named ∙ sym k.0.named), rest.0), ap suc rest.1)

    -- a group in whose loops none is computed
    whole_clear : (e : Entry) → IsEntryOf gs e → IsOver e q → skeleton_of e.0 e.2 e.1.region ≡ Some e.1.skeleton → (n first line next : ℕ) (claims : List CodeClaim) (needs : List Need)
        (windows : List Window) →
        IsBodyBy a entries n first line next [] e q claims needs windows → Numbered a entries items first claims → Clear Another (statement_of q.body)
    whole_clear e stored over laid n first line next claims needs windows b numbered_so =
        let w = found a sch st e.0 a.functions stored.place stored.at in
        let body : HasBody a entries n first line e.0 q claims needs = record {
          formulas = e.2;
          extents = e.1.region;
          skeleton = e.1.skeleton;
          defined = stored.defined;
          region = over.region;
          laid = laid;
          body = b.0;
        } in
        body_clear a sch l well free input few marked_so entries h q w.place w.function w.at n first line claims needs
        (subst (λ (u : StoredText). HasBody a entries n first line u q claims needs) w.is body) numbered_so

    own_shapes : (e : Entry) → skeleton_of e.0 e.2 e.1.region ≡ Some e.1.skeleton → HaveShapes e.0 e.2 e.1.skeleton.nests
    own_shapes e laid d w at =
        let bodies = bodies_from e.0.changes 0 e.0.subject.reductions e.2 in
        let order = (skeletal e.0.subject.variables bodies e.0.placed e.1.region e.1.skeleton laid).nests d w at in
        record {
          shape = nest_shape e.0.subject.variables bodies e.0.placed e.1.region e.1.skeleton laid d w at;
          from = order.from;
          to = order.to;
          rises = ordered_rise order.from order.to w.steps order.steps;
        }

    -- a group in whose loops some are
    mixed_clear : (e : Entry) → IsEntryOf gs e → skeleton_of e.0 e.2 e.1.region ≡ Some e.1.skeleton → (inners : List PlacedText) → ((k : ℕ) (i : PlacedText) → slice_get inners k ≡ Some i →
        IsInner gs i) →
        (m : ℕ) → Allots (IsStoredName gs) 0 (statement_of q.body) m → (n first line next : ℕ) (claims : List CodeClaim) (needs : List Need) (windows : List Window) →
        IsMixedBody entries n first line next inners e claims needs windows (statement_of q.body) → Numbered a entries items first claims → Clear Another (statement_of q.body)
    mixed_clear e stored laid inners inside m allotted n first line next claims needs windows b numbered_so =
        let k = e.1.skeleton in
        let o = group_owner e (claimed_region (dimensions_of e.0 e.1.region k)) in
        let s0 = with_fetched b.fetches b.lines_of b.fetched (begun first line k) in
        let agrees = subst (Agrees T) b.with.is (body_agrees (IsStoredName gs) 0 (statement_of q.body) m allotted) in
        let own = agree_lines T k.head (block (Alloc 0 e.0.subject.name _ ∷ with_fetches b.fetches (b.nests ++ Publish (b.done.claim - 1) ∷ []))) agrees in
        let nests = agree_first T b.nests (Publish (b.done.claim - 1) ∷ []) (agree_fetches T b.fetches (b.nests ++ Publish (b.done.claim - 1) ∷ []) own.1) in
        let owns : IsOwner a sch l well free input few marked_so h q first inners o k.nests = record {
          seat = own.0;
          place = stored.place;
          at = stored.at;
          defined = stored.defined;
          shapes = own_shapes e laid;
        } in
        let right = group_done inners (λ f x. Unit {0}) (λ x. Unit {0}) (IsOwner a sch l well free input few marked_so h q first inners) (Right a sch l well free input few marked_so h q first inners)
        (right_each a sch l well free input few marked_so h q first inners inside) (λ j u at. all_steps u) (length inners) o k.nests owns (λ d w at. every_step [] w.steps) (names_over k) s0
        b.done b.nests b.made
        tt nests in
        let all_numbered : (j : ℕ) (w : Claim) → slice_get b.done.claims j ≡ Some w → slice_get c.claims (first + j) ≡ Some w = λ j w at.
        let v = from_map claim_of claims j w (ap (λ (ws : List Claim). slice_get ws j) b.claimed ∙ at) in
        at_map claim_of items (first + j) v.0 (numbered_so j v.0 v.1) ∙ ap (λ (u : Claim). Some u) (sym v.2) in
        let fetched = loads_by n 1 _ (picked b.called (numbered 0 entries)) b.fetches b.lines_of b.fetched b.fetching first
        (λ j w at. all_numbered j w (ap (λ (ws : List Claim). slice_get ws j) right.grown ∙ at_left (map claim_of b.fetched) right.more j w at)) in
        let mapped = length-map b.fetched claim_of in
        let many = fetched.1 in
        let counted : first + length b.fetches ≡ first + length (map claim_of b.fetched) = omega (arith, mapped, many) in
        let clear = (right.clear counted all_numbered fetched.0).1 in
        let body = fetches_clear b.fetches (b.nests ++ Publish (b.done.claim - 1) ∷ []) (joined_clear Another b.nests (Publish (b.done.claim - 1) ∷ []) clear (λ x. x, tt)) in
        subst (Clear Another) (sym b.with.is) (steps_clear k.head (block (Alloc 0 e.0.subject.name _ ∷ with_fetches b.fetches (b.nests ++ Publish (b.done.claim - 1) ∷ []))) (λ x. x, body))
      where
        T : ℕ → List ℕ
        T b = function_in (allocated (statement_of q.body) b)

    group_clear : IsGroupAt h q → Clear Another (statement_of q.body)
    group_clear g =
        let b = g.body in
        let laid = over_region true gs groups.placed.regions h b.entry groups.placed.around b.at in
        let w = allots_at h q g in
        of b.inners b.body g.inside laid w.0 w.1
      where
        of : (inners : List PlacedText) → IsBodyBy a entries (0 + h) g.body.first g.body.line g.body.next inners g.body.entry q g.body.claims g.body.needs g.body.windows →
            ((k : ℕ) (i : PlacedText) → slice_get inners k ≡ Some i → IsInner gs i) → skeleton_of g.body.entry.0 g.body.entry.2 g.body.entry.1.region ≡ Some g.body.entry.1.skeleton →
            (m : ℕ) → Allots (IsStoredName gs) 0 (statement_of q.body) m → Clear Another (statement_of q.body)
        of [] b inside laid m allotted =
            whole_clear g.body.entry g.stored g.over laid (0 + h) g.body.first g.body.line g.body.next g.body.claims g.body.needs g.body.windows b g.body.numbered
        of (i ∷ is) b inside laid m allotted =
            mixed_clear g.body.entry g.stored laid (i ∷ is) inside m allotted (0 + h) g.body.first g.body.line g.body.next g.body.claims g.body.needs g.body.windows b g.body.numbered

  none_at : NamesNoLoad a → AreAllStored a sch p → length items < 2 ^ 64 → (line : ℕ) → IsNotDefinitionAt a p c line → ⊥
  none_at free all few line h =
      let x = from_map group_of ps h.number h.group h.there in
      let q = x.0 in
      let clear = group_clear free few (marks all) h.number q (group_there h.number q x.1) in
      let first : Group → Here = λ u. start (line_told (group_line p h.number)) u in
      let stands = subst (λ (u : Group). Inside (λ s here. (line_told here.line ≡ line) × StoresAnother a p (outline_of p c h.number u) s) u.body (first u)) x.2 h.stands in
      none_inside (λ s. StoresAnother a p (outline_of p c h.number (group_of q)) s) line (statement_of q.body) clear (first (group_of q)) stands

pub stored : AllDefinitionsAreStored
stored a s l well legal groups free all few line h =
    none_at a s l well groups free all (let long = length-map l.certificate.claims.items claim_of in omega (arith, long, few)) line h
