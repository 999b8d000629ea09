-- All that the claims of nests owe is shown, of functions whose loops are split once, with any tail, in any order.
use Rattle.std.proofs.Common.{◌≡◌, ℕ, zero, suc, ◌+◌, ◌-◌, ◌<◌, ◌≤◌, Bool, true, false, ◌&&◌, ◌||◌, List, [], ◌∷◌, length, map}
use Rattle.std.proofs.Common.{Some, None, refl, sym, ap, ◌∙◌, subst, inl, inr, ◌⊎◌, arith}
use Rattle.std.specs.Prelude.{ℤ, if◌then◌else◌, slice_get}
use Rattle.std.specs.List.{AllByRecursion}
use Rattle.tree.specs.Term.{Term}
use Rattle.lin.specs.Forms.{Form}
use Rattle.lin.specs.declared.span.Span1.{Span1}
use Rattle.plan.specs.declared.plan.Group.{Group as CodeGroup}
use Rattle.plan.specs.declared.stmt.Pick.{Pick}
use Rattle.plan.specs.declared.stmt.Places.{Places}
use Rattle.plan.specs.declared.certificate.cert.Claim.{Claim as CodeClaim}
use Rattle.plan.specs.declared.certificate.cert.Need.{Need}
use Rattle.plan.specs.declared.certificate.cert.Window.{Window}
use Rattle.plan.specs.Plan.{Coordinate, Statement, Store, Empty, Then, Group, Plan}
use Rattle.plan.specs.View.{group_of, plan_of, statement_of}
use Rattle.plan.specs.Lines.{lines, body_line}
use Rattle.plan.specs.Certificate.Certificate.{Claim, Certificate, certificate_of}
use Rattle.meaning.specs.Algorithm.{Algorithm}
use Rattle.meaning.specs.Conditions.{IsAlgorithm}
use Rattle.meaning.specs.Names.{same_name}
use Rattle.soundness.specs.Claims.{In, updates}
use Rattle.soundness.specs.Origins.{Outline}
use Rattle.soundness.specs.Given.{outline_of}
use Rattle.soundness.specs.Obligations.{Binder, Known as KnownHere, Rules, goes_on, claim_obligations}
use Rattle.soundness.specs.Shown.{Nests, all_shown, start}
use Rattle.soundness.specs.Binders.View.{grid_binders}
use Rattle.soundness.specs.Nests.Laws.{domains_of}
use Rattle.soundness.specs.Nests.Tests.{plain_nests}
use Rattle.soundness.proofs.Refines.{name_refl}
use Rattle.rules.specs.Bounding.Rules.{rules_of}
use Rattle.headline.proofs.Lists.{from_map}
use Rattle.headline.proofs.Regions.{at_in}
use Rattle.sched.specs.Schedule.{Schedule}
use Rattle.sched.specs.Legal.{IsLegal}
use Rattle.sched.specs.declared.schedule.Split.{Split}
use Rattle.sched.specs.declared.placing.Loop.{Loop as NestLoop}
use Rattle.sched.specs.declared.numbers.Extent.{Extent}
use Rattle.sched.specs.declared.numbers.Numbers.{Numbers}
use Rattle.sched.specs.declared.skeleton.Known.{Known}
use Rattle.sched.specs.declared.skeleton.Step.{Step}
use Rattle.sched.specs.declared.nest.Turning.{Turning}
use Rattle.sched.specs.Numbers.{numbers_named, last_number, loop_numbers, parallel_loops, piece_counts}
use Rattle.sched.specs.Skeleton.{BodyText, NestText, SkeletonText, nest_turns, grid_forms}
use Rattle.tails.specs.Steps.{spine_of}
use Rattle.tails.specs.Nests.{makes_by}
use Rattle.lower.specs.declared.lowering.Lowered.{Lowered}
use Rattle.sched.specs.Stored.{FormulaText, StoredText}
use Rattle.lower.specs.Stored.{stored_functions, has_large}
use Rattle.regions.specs.Faults.{are_whole}
use Rattle.lower.specs.Faults.{region_fault}
use Rattle.regions.specs.Regions.{bodies_from}
use Rattle.lower.specs.Owning.{IsLaidBy}
use Rattle.sched.specs.Loading.{Loads}
use Rattle.blocks.specs.Blocks.{LayText, lay_over, dimension_of}
use Rattle.blocks.specs.Blocks.{dimensions_of, claimed_region, own_places}
use Rattle.blocks.specs.Bodies.{IsStore}
use Rattle.sched.specs.Fetches.{Entry as Fetched}
use Rattle.blocks.specs.Fetches.{Claims}
use Rattle.lower.specs.Groups.{HasBody, HasGroups}
use Rattle.completeness.specs.Laws.{IsFetch, AreSplitOnce}
use Rattle.completeness.specs.Parted.{KeepsInner}
use Rattle.completeness.specs.Owed.{EachClaim, AreClaimsNear}
use Rattle.completeness.specs.Nested.{SayYes, TakeSplit}
use Rattle.completeness.proofs.Halves.{AreOthers}
use Rattle.completeness.proofs.Lanes.{AreOnce}
use Rattle.completeness.proofs.Owned.{some_same, same_extents, same_skeleton}
use Rattle.meaning.specs.Algorithm.{Range}
use Rattle.soundness.specs.Obligations.{is_next}
use Rattle.sched.specs.Skeleton.{range_turning}
use Rattle.tails.specs.Updates.{is_in_steps}
use Rattle.soundness.proofs.Refines.{eq_refl}
use Rattle.completeness.proofs.UpdateTurns.{known_update, ranges_turned}
use Rattle.completeness.proofs.BlockRanges.{reduced_in}
use Rattle.completeness.proofs.BlockNests.{stored_there}
use Rattle.completeness.proofs.TailLaw as pure_of
use Rattle.completeness.proofs.TailUpdates as update_of
use Rattle.blocks.specs.Stored.{flags}
use Rattle.completeness.proofs.Laid.{subjects, found}
use Rattle.completeness.proofs.Defined.{other_put}
use Rattle.completeness.specs.Fitting.{IsSplitOnce}
use Rattle.completeness.specs.Blocked.{BlockedClaimsOweShown}
use Rattle.sched.specs.Numbers.{is_too_short}
use Rattle.completeness.proofs.TailSteps.{Line, Pair, line_steps, steps_of}
use Rattle.completeness.proofs.TailTurns.{keeps_rest, Entry, entry_steps, IsEntry, IsPair, IsBlock}
use Rattle.completeness.proofs.TailSkeletons.{AreTails}
use Rattle.completeness.proofs.Served.{roots}
use Rattle.completeness.proofs.TailShapes as shape_of
use Rattle.soundness.specs.Obligations.{Binder}
use Rattle.completeness.proofs.TailLines.{always}
use Rattle.completeness.proofs.PureNests.{all_slices}
use Rattle.completeness.proofs.TailNests as nest_of
use Rattle.completeness.proofs.NestWalk.{down, IsRest, Holds, LetsFirst}
use Rattle.completeness.proofs.ClaimedNests.{claim_is, own_buffer, near_shown, updating, body_around}
use Rattle.completeness.proofs.Served.{made_at}
use Rattle.completeness.proofs.NamedClaims.{alone_body}
use Rattle.completeness.proofs.LoopMoves.{true_end}
use Rattle.completeness.proofs.TailLines.{lines_of, spine_is, first_steps}
use Rattle.completeness.proofs.ShortShifts.{long_shifts, updates_unshifted}
use Rattle.completeness.specs.Blocked.{BlockedClaimsShown}

some_long : {A : Type 0} (xs : List A) (i : ℕ) (x : A) → slice_get xs i ≡ Some x → 1 ≤ length xs
some_long [] i x e = absurd (cc e)
some_long (y ∷ ys) i x e = omega arith

-- a function with a further formula has an update
some_changes : (a : Algorithm) (sch : Schedule) (n : ℕ) (g : StoredText) → slice_get (stored_functions a sch) n ≡ Some g → (fs : List FormulaText) → g.formulas ≡ Some fs → (i : ℕ) (u : FormulaText) →
    slice_get fs (suc i) ≡ Some u → 1 ≤ length g.changes
some_changes a sch n g at fs defined i u there =
    let w = found a sch (flags (subjects a sch)) g a.functions n at in
    let f = w.function in
    let o = other_put a (flags (subjects a sch)) f.variables f.value f.changes fs i u (ap (λ (v : StoredText). v.formulas) (sym w.is) ∙ defined) there in
    subst (λ (v : StoredText). 1 ≤ length v.changes) (sym w.is) (some_long f.changes i o.change o.at)

-- ---- groups

module _ (a : Algorithm) (sch : Schedule) (l : Lowered) (well : IsAlgorithm a) (legal : IsLegal a sch) (small : has_large (stored_functions a sch) ≡ false)
    (kept : region_fault a (stored_functions a sch) ≡ None) (all : are_whole (stored_functions a sch) ≡ true) (groups : HasGroups a (stored_functions a sch) l) where
  abbrev pub entries : List Fetched
  entries = roots a sch l well legal small kept all groups

  abbrev pub stored : List StoredText
  stored = stored_functions a sch

  abbrev pub made_groups : List CodeGroup
  made_groups = l.plan.groups.items

  abbrev pub items : List CodeClaim
  items = l.certificate.claims.items

  abbrev pub plan : Plan
  plan = plan_of l.plan

  abbrev pub cert : Certificate
  cert = certificate_of l.certificate

  module _ (n first line : ℕ) (g : StoredText) (p : CodeGroup) (claims : List CodeClaim) (needs : List Need) (at : slice_get stored n ≡ Some g) (there : slice_get made_groups n ≡ Some p)
      (h : HasBody a entries n first line g p claims needs) (lined : body_line plan n ≡ line + 1)
      (placed : (j : ℕ) (v : CodeClaim) → slice_get claims j ≡ Some v → slice_get items (first + j) ≡ Some v)
      (alone_here : (j : ℕ) (w : CodeClaim) → slice_get items j ≡ Some w → line < w.line → w.line < line + (lines (statement_of p.body) + 1) → In w claims)
      (laid : IsLaidBy g h.extents h.skeleton) (split_alone : AreSplitOnce g.placed.cuts) (keeps : KeepsInner g.placed.loops g.placed.cuts)
      (long : AllByRecursion (λ c. is_too_short (loop_numbers g.subject.variables g.placed.cuts h.extents) c ≡ false) g.placed.cuts) where
    abbrev pub k : SkeletonText
    k = h.skeleton

    abbrev pub fs : List FormulaText
    fs = h.formulas

    abbrev pub xs : List (List ℕ)
    xs = g.subject.variables

    abbrev pub ls : List NestLoop
    ls = g.placed.loops

    abbrev pub cuts : List Split
    cuts = g.placed.cuts

    abbrev pub rs : List Numbers
    rs = loop_numbers g.subject.variables g.placed.cuts h.extents

    abbrev pub bs : List BodyText
    bs = bodies_from g.changes 0 g.subject.reductions fs

    abbrev pub O : Outline
    O = outline_of plan cert n (group_of p)

    abbrev pub R : Rules
    R = rules_of a plan cert n

    abbrev pub places : List Places
    places = own_places (dimensions_of g h.extents k)

    abbrev pub region : List Span1
    region = claimed_region (dimensions_of g h.extents k)

    abbrev pub low : List ℕ → ℤ
    low x = (numbers_named rs x).low

    abbrev pub last : List ℕ → ℤ
    last x = last_number (numbers_named rs x)

    abbrev pub lay : LayText
    lay = lay_over g h.extents k

    abbrev pub grid : List Known
    grid = grid_forms rs 0 (parallel_loops ls)

    abbrev pub place : List ℕ → Places
    place x = (dimension_of lay cuts x).places

    abbrev pub others : AreOthers cuts
    others = shape_of.others a sch l well legal small kept all groups n first line g p claims needs at there h lined placed alone_here laid split_alone keeps long

    abbrev pub once : AreOnce cuts
    once = shape_of.once a sch l well legal small kept all groups n first line g p claims needs at there h lined placed alone_here laid split_alone keeps long

    abbrev pub shape : AreTails xs bs g.placed others once rs k
    shape = shape_of.shape a sch l well legal small kept all groups n first line g p claims needs at there h lined placed alone_here laid split_alone keeps long

    -- ---- the law

    abbrev NoLet : ℕ → Pick → List Form → Type 0
    NoLet i pick forms = ⊥

    abbrev OverGrids : List Binder → Type 0
    OverGrids bs = bs ≡ shape_of.around a sch l well legal small kept all groups n first line g p claims needs at there h lined placed alone_here laid split_alone keeps long

    updates_agree : (i : ℕ) (w : NestText) → slice_get k.nests (suc i) ≡ Some w → (ms : Loads) (cs : List Coordinate) (e : Term) → IsStore g fs ms (suc i) w (Store 0 (suc i) cs e) →
        (part : List Step) → IsRest w.steps part → (s : Statement) → Then s Empty ≡ down 0 (suc i) cs e part → (c : ℕ) (v : CodeClaim) (at_line : ℕ) → slice_get items c ≡ Some v →
        Claims at_line 0 g.subject.name (suc i) region v → (known : KnownHere) → OverGrids known.binders → (nests : Nests) → TakeSplit a plan cert n (group_of p) nests → SayYes O R nests known s c
    updates_agree i w stands ms cs e stores part rest s comes c v at_line found_at_c says known binders nests takes =
        let f = stored_there (slice_get fs (suc i)) stores.2 in
        let of_update = known_update a sch well n g at fs h.defined i f.0 f.1 in
        let ds : List Range = of_update.change.ranges in
        let q = shape.nests (suc i) w stands in
        let reduced : (r : Range) → In r ds → In r.variable g.subject.reductions =
        λ r m. subst (In r.variable) (sym of_update.reductions) (reduced_in g.changes i r (subst (In r) (sym of_update.ranges) m)) in
        let ranged : q.body.ranges ≡ map range_turning ds =
        ranges_turned g.changes fs (suc i) q.body (ap (λ (names : List (List ℕ)). slice_get (bodies_from g.changes 0 names fs) (suc i)) (sym of_update.reductions) ∙ q.at)
        ∙ ap (map range_turning) of_update.ranges in
        let unshifted = updates_unshifted a sch legal n g at (some_changes a sch n g at fs h.defined i f.0 f.1) in
        let lim = nest_of.lim a sch l well legal small kept all groups n first line g p claims needs at there h lined placed alone_here laid split_alone keeps long (suc i) w stands ds
        reduced of_update.names of_update.within ranged always (λ j e at_j k. refl) in
        let kinds = nest_of.kinds a sch l well legal small kept all groups n first line g p claims needs at there h lined placed alone_here laid split_alone keeps long (suc i) w stands ds
        reduced of_update.names of_update.within ranged always (λ j e at_j k. refl) in
        let ts = nest_of.ts a sch l well legal small kept all groups n first line g p claims needs at there h lined placed alone_here laid split_alone keeps long (suc i) w stands ds reduced
        of_update.names of_update.within ranged always (λ j e at_j k. refl) in
        let lead = nest_of.first_loop a sch l well legal small kept all groups n first line g p claims needs at there h lined placed alone_here laid split_alone keeps long (suc i) w stands
        ds reduced of_update.names of_update.within ranged always (λ j e at_j k. refl) (suc i) cs e in
        let all_steps = nest_of.steps_so a sch l well legal small kept all groups n first line g p claims needs at there h lined placed alone_here laid split_alone keeps long (suc i) w
        stands ds reduced of_update.names of_update.within ranged always (λ j e at_j k. refl) in
        let code : Then s Empty ≡ down 0 (suc i) cs e (steps_of kinds lim q.next ts) = comes ∙ ap (down 0 (suc i) cs e) (first_steps kinds lim (suc i) cs e q.next ts lead w.steps part
        all_steps rest) in
        let is = claim_is a sch l well legal small kept all groups n first line g p claims needs at there h lined placed alone_here c v found_at_c in
        let buffered : (O.claim c).buffer ≡ 0 = ap (λ (x : Claim). x.buffer) is ∙ says.buffered in
        let name : (O.claim c).function ≡ g.subject.name = ap (λ (x : Claim). x.function) is ∙ says.named in
        let defined : (O.claim c).definition ≡ suc i = ap (λ (x : Claim). x.definition) is ∙ says.defined in
        let over : (O.claim c).region ≡ region = ap (λ (x : Claim). x.region) is ∙ says.over in
        let buffer = own_buffer a sch l well legal small kept all groups n first line g p claims needs at there h lined placed alone_here in
        let named_so : same_name (O.setting.buffer_function 0) (O.claim c).function ≡ true = (λ j. same_name (buffer j) (name j)) ∙ name_refl g.subject.name in
        let changed : updates O.setting s (O.claim c).buffer (O.claim c).function ≡ true = updating O R nests (suc i) c cs e buffered defined named_so part s comes in
        let one_less : (O.claim c).definition - 1 ≡ i = omega (arith, defined) in
        let goes : goes_on O R s c ≡ Some i = ap (λ (t : Bool). if t then Some ((O.claim c).definition - 1) else None) changed ∙ ap (λ (m : ℕ). Some m) one_less in
        let spine : spine_of s (O.claim c).buffer ≡ Some (record { steps = lines_of kinds lim q.next ts; line = Store 0 (suc i) cs e }) =
        ap (spine_of s) buffered ∙ spine_is kinds lim (suc i) cs e q.next ts lead s code in
        let turn = update_of.stepped a sch l well legal small kept all groups n first line g p claims needs at there h lined placed alone_here laid split_alone keeps long i w stands ds
        reduced of_update.names of_update.within ranged unshifted ms cs e stores of_update.domain (O.claim c) defined named_so name over in
        let wide = update_of.spread a sch l well legal small kept all groups n first line g p claims needs at there h lined placed alone_here laid split_alone keeps long i w stands ds
        reduced of_update.names of_update.within ranged unshifted ms cs e stores of_update.domain (O.claim c) defined named_so name over in
        let after : is_next i (O.claim c).definition ≡ true = ap (is_next i) defined ∙ eq_refl i in (
          (λ seats held.
              let made : makes_by O.setting R (domains_of a) known.binders (O.claim c) (goes_on O R s c) seats (spine_of s (O.claim c).buffer) ≡ true =
              (λ j. makes_by O.setting R (domains_of a) (binders j) (O.claim c) (goes j) seats (spine j)) ∙ (λ j. after j && (turn j && wide j)) in
              takes.0 known.binders c (goes_on O R s c) seats s
              (ap (λ (b : Bool). (plain_nests O R (domains_of a)).is_made known.binders c (goes_on O R s c) seats s || b) made
              ∙ true_end ((plain_nests O R (domains_of a)).is_made known.binders c (goes_on O R s c) seats s))),
          (λ m.
              let in_steps : is_in_steps O.setting R (domains_of a) known.binders (O.claim c) (spine_of s (O.claim c).buffer) ≡ true =
              (λ j. is_in_steps O.setting R (domains_of a) (binders j) (O.claim c) (spine j)) ∙ turn in
              takes.1 known.binders c s
              (ap (λ (b : Bool). (plain_nests O R (domains_of a)).is_in_turn known.binders c s || b) in_steps
              ∙ true_end ((plain_nests O R (domains_of a)).is_in_turn known.binders c s))),
        )

    -- no nest begins with a let
    bare_nests : AllByRecursion (λ w. LetsFirst NoLet w.steps) k.nests
    bare_nests = all_slices (λ w. LetsFirst NoLet w.steps) k.nests (λ d w e. (let u = shape.nests d w e in subst (LetsFirst NoLet) (sym u.steps) (of u.entries u.next (nest_turns u.body rs
        ls) (u.each 0))))
      where
        of : (es : List Entry) (m : ℕ) (us : List Turning) →
            ((e : Entry) → slice_get es 0 ≡ Some e → IsEntry cuts others once rs grid (length (piece_counts rs ls)) k.head m es us 0 e) → LetsFirst NoLet (entry_steps m es)
        of [] m us each = tt
        of (e ∷ es) m us each = by (each e refl)
          where
            by : IsEntry cuts others once rs grid (length (piece_counts rs ls)) k.head m (e ∷ es) us 0 e → LetsFirst NoLet (line_steps e.line m e.turning e.limits (entry_steps (m + 1) es))
            by (inl r) = subst (λ (v : Line). LetsFirst NoLet (line_steps v m e.turning e.limits (entry_steps (m + 1) es))) (sym r.line) tt
            by (inr r) = behind r.kind
              where
                behind : IsBlock cuts others once rs grid (length (piece_counts rs ls)) k.head m (e ∷ es) us 0 e r.split
                    ⊎ ((keeps_rest rs r.split ≡ true) × (form : Form) × (p : IsPair cuts others once rs grid (length (piece_counts rs ls)) k.head m (e ∷ es) r.split form) × (0 ≡ p.outer_at + 1)
                    × (e.line ≡ Pair form (last_number (numbers_named rs r.split.whole)))) → LetsFirst NoLet (line_steps e.line m e.turning e.limits (entry_steps (m + 1) es))
                behind (inl x) = (let place = x.behind in absurd (omega (arith, place)))
                behind (inr (rests, f, x, place, is)) = absurd (omega (arith, place))

    yes : (d : ℕ) (ms : Loads) (w : NestText) (v : CodeClaim) (at_line : ℕ) → slice_get k.nests d ≡ Some w → Claims at_line 0 g.subject.name d region v → (cs : List Coordinate) (e : Term) →
        IsStore g fs ms d w (Store 0 d cs e) → (part : List Step) → IsRest w.steps part → (s : Statement) → Then s Empty ≡ down 0 d cs e part → (known : KnownHere) →
        OverGrids known.binders → Holds places known → (c : ℕ) → slice_get items c ≡ Some v → (nests : Nests) → TakeSplit a plan cert n (group_of p) nests →
        SayYes O R nests known s c
    yes zero ms w v at_line stands says cs e stores part rest s comes known binders holds c found_at_c nests takes =
        pure_of.yes_first a sch l well legal small kept all groups n first line g p claims needs at there h lined placed alone_here laid split_alone keeps long ms w v at_line stands says
        cs e stores part rest s comes known binders holds c found_at_c nests takes
    yes (suc i) ms w v at_line stands says cs e stores part rest s comes known binders holds c found_at_c nests takes =
        updates_agree i w stands ms cs e stores part rest s comes c v at_line found_at_c says known binders nests takes

    abbrev Shown : List Window → ℕ → ℕ → KnownHere → Statement → ℕ → Type 0
    Shown windows begin last known s c = (IsFetch s → ⊥) → (nests : Nests) → TakeSplit a plan cert n (group_of p) nests →
        all_shown R nests (claim_obligations O R windows begin last known s c) ≡ true

    blocked_shown : AreClaimsNear cert → EachClaim O R Shown [] (statement_of p.body) (body_line plan n) (start (grid_binders p.grid.items))
    blocked_shown near =
        body_around a sch l well legal small kept all groups n first line g p claims needs at there h lined placed alone_here Shown
        (λ windows begin last known b h r c not_fetch. absurd (not_fetch tt)) OverGrids NoLet (λ i pick forms bs x y. absurd x)
        (λ ms d w v at_line stands says cs e stores part rest s comes known knows holds before begin last c found_at_c not_fetch nests takes.
        near_shown a sch l well legal small kept all groups n first line g p claims needs at there h lined placed alone_here near d c v at_line found_at_c says cs e part s comes known knows.own
        holds before begin last not_fetch nests (yes d ms w v at_line stands says cs e stores part rest s comes known knows.bound holds c found_at_c nests takes))
        bare_nests (shape_of.around_is a sch l well legal small kept all groups n first line g p claims needs at there h lined placed alone_here laid split_alone keeps long)

    -- the tests of nests say yes to each
    abbrev Yes : List Window → ℕ → ℕ → KnownHere → Statement → ℕ → Type 0
    Yes windows begin last known s c = (IsFetch s → ⊥) → (nests : Nests) → TakeSplit a plan cert n (group_of p) nests → SayYes O R nests known s c

    yes_each : EachClaim O R Yes [] (statement_of p.body) (body_line plan n) (start (grid_binders p.grid.items))
    yes_each =
        body_around a sch l well legal small kept all groups n first line g p claims needs at there h lined placed alone_here Yes
        (λ windows begin last known b h r c not_fetch. absurd (not_fetch tt)) OverGrids NoLet (λ i pick forms bs x y. absurd x)
        (λ ms d w v at_line stands says cs e stores part rest s comes known knows holds before begin last c found_at_c not_fetch nests takes.
        yes d ms w v at_line stands says cs e stores part rest s comes known knows.bound holds c found_at_c nests takes)
        bare_nests (shape_of.around_is a sch l well legal small kept all groups n first line g p claims needs at there h lined placed alone_here laid split_alone keeps long)

  -- the tests of nests say yes to each claim of a nest of such a function
  pub yes_at : (n : ℕ) (q : CodeGroup) → slice_get made_groups n ≡ Some q → (u : StoredText) → slice_get stored n ≡ Some u → IsSplitOnce u →
      EachClaim (outline_of plan cert n (group_of q)) (rules_of a plan cert n)
      (λ kept begin last known s c. (IsFetch s → ⊥) → (nests : Nests) → TakeSplit a plan cert n (group_of q) nests →
      SayYes (outline_of plan cert n (group_of q)) (rules_of a plan cert n) nests known s c)
      [] (group_of q).body (body_line plan n) (start (grid_binders (group_of q).grid))
  yes_at n q there u at once_only =
      let me = made_at a sch l well legal small kept all groups n q there in
      let r = alone_body a entries items 0 0 4 stored made_groups items l.certificate.needs.items (groups.bodies all)
      (λ j v e. let none : 0 + j ≡ j = omega arith in ap (slice_get items) none ∙ e) n me.stored q me.is there in
      let b = r.placed in
      let counted : 0 + n ≡ n = omega arith in
      let body = subst (λ (i : ℕ). HasBody a entries i b.first_claim b.line me.stored q b.claims b.needs) counted b.body in
      let lined = b.lined in
      let begins : body_line plan n ≡ b.line + 1 = omega (arith, lined) in
      let own : (j : ℕ) (w : CodeClaim) → slice_get items j ≡ Some w → b.line < w.line → w.line < b.line + (lines (statement_of q.body) + 1) → In w b.claims =
      λ j w e low less. let x = r.alone j w e (omega (arith, lined, low)) (omega (arith, lined, less)) in at_in b.claims x.0 w x.2 in
      let extents : me.laid.region ≡ body.extents = same_extents a sch l well legal small kept all groups n q me.laid body.extents there me.found body.region in
      let skeleton : me.laid.skeleton ≡ body.skeleton =
      same_skeleton a sch l well legal small kept all groups n me.stored me.laid body.formulas body.extents body.skeleton me.is me.found body.defined extents body.laid in
      let laid : IsLaidBy me.stored body.extents body.skeleton =
      subst (λ (k : SkeletonText). IsLaidBy me.stored body.extents k) skeleton (subst (λ (es : List Extent). IsLaidBy me.stored es me.laid.skeleton) extents me.laid_by) in
      let same_stored : u ≡ me.stored = some_same u me.stored (sym at ∙ me.is) in
      let mine : IsSplitOnce me.stored = subst IsSplitOnce same_stored once_only in
      let long : AllByRecursion (λ c. is_too_short (loop_numbers me.stored.subject.variables me.stored.placed.cuts body.extents) c ≡ false) me.stored.placed.cuts =
      subst (λ (es : List Extent). AllByRecursion (λ c. is_too_short (loop_numbers me.stored.subject.variables me.stored.placed.cuts es) c ≡ false) me.stored.placed.cuts) extents
      (long_shifts a sch kept n me.stored me.laid me.is me.found) in
      yes_each n b.first_claim b.line me.stored q b.claims b.needs me.is there body begins b.numbered own laid mine.once mine.inners long

  module _ (near : AreClaimsNear cert) where
    blocked_at : (n : ℕ) (q : CodeGroup) → slice_get made_groups n ≡ Some q → (u : StoredText) → slice_get stored n ≡ Some u → IsSplitOnce u → BlockedClaimsShown a plan cert n (group_of q)
    blocked_at n q there u at once_only =
        let me = made_at a sch l well legal small kept all groups n q there in
        let r = alone_body a entries items 0 0 4 stored made_groups items l.certificate.needs.items (groups.bodies all)
        (λ j v e. let none : 0 + j ≡ j = omega arith in ap (slice_get items) none ∙ e) n me.stored q me.is there in
        let b = r.placed in
        let counted : 0 + n ≡ n = omega arith in
        let body = subst (λ (i : ℕ). HasBody a entries i b.first_claim b.line me.stored q b.claims b.needs) counted b.body in
        let lined = b.lined in
        let begins : body_line plan n ≡ b.line + 1 = omega (arith, lined) in
        let own : (j : ℕ) (w : CodeClaim) → slice_get items j ≡ Some w → b.line < w.line → w.line < b.line + (lines (statement_of q.body) + 1) → In w b.claims =
        λ j w e low less. let x = r.alone j w e (omega (arith, lined, low)) (omega (arith, lined, less)) in at_in b.claims x.0 w x.2 in
        let extents : me.laid.region ≡ body.extents = same_extents a sch l well legal small kept all groups n q me.laid body.extents there me.found body.region in
        let skeleton : me.laid.skeleton ≡ body.skeleton =
        same_skeleton a sch l well legal small kept all groups n me.stored me.laid body.formulas body.extents body.skeleton me.is me.found body.defined extents body.laid in
        let laid : IsLaidBy me.stored body.extents body.skeleton =
        subst (λ (k : SkeletonText). IsLaidBy me.stored body.extents k) skeleton (subst (λ (es : List Extent). IsLaidBy me.stored es me.laid.skeleton) extents me.laid_by) in
        let same_stored : u ≡ me.stored = some_same u me.stored (sym at ∙ me.is) in
        let mine : IsSplitOnce me.stored = subst IsSplitOnce same_stored once_only in
        let long : AllByRecursion (λ c. is_too_short (loop_numbers me.stored.subject.variables me.stored.placed.cuts body.extents) c ≡ false) me.stored.placed.cuts =
        subst (λ (es : List Extent). AllByRecursion (λ c. is_too_short (loop_numbers me.stored.subject.variables me.stored.placed.cuts es) c ≡ false) me.stored.placed.cuts) extents
        (long_shifts a sch kept n me.stored me.laid me.is me.found) in
        blocked_shown n b.first_claim b.line me.stored q b.claims b.needs me.is there body begins b.numbered own laid mine.once mine.inners long near

pub shown : BlockedClaimsOweShown
shown a s l well legal small regions groups all near n g at u there once_only =
    let x = from_map group_of l.plan.groups.items n g at in
    subst (λ (v : Group). BlockedClaimsShown a (plan_of l.plan) (certificate_of l.certificate) n v) (sym x.2)
    (blocked_at a s l well legal small (regions all).0 all groups near n x.0 x.1 u there once_only)
