-- The nests of a function whose loops are split once, with any tail, in any order: their loops and lets, and that each variable's coordinate is as the tests of nests ask.
use Rattle.std.proofs.Common.{◌≡◌, ℕ, suc, ◌+◌, ◌-◌, ◌<◌, ◌≤◌, ◌^◌, Bool, true, false, List, [], ◌∷◌, ◌++◌, length, map, take}
use Rattle.std.proofs.Common.{Option, Some, None, refl, sym, ap, ◌∙◌, subst, inl, inr, ◌⊎◌, arith}
use Rattle.std.specs.Prelude.{ℤ, pos, ◌==◌, if◌then◌else◌, slice_get}
use Rattle.std.specs.List.{AllByRecursion}
use Rattle.std.specs.Int.RustNames.{unsigned_abs}
use Rattle.std.proofs.lemmas.Int.{ints}
use Rattle.std.proofs.lemmas.Bool.Decides.{nat_tests}
use Rattle.tree.specs.Term.{Term}
use Rattle.lin.specs.Forms.{Form, number, combined}
use Rattle.lin.specs.declared.span.Span1.{Span1}
use Rattle.plan.specs.declared.plan.Group.{Group as CodeGroup}
use Rattle.plan.specs.declared.stmt.Places.{Places}
use Rattle.plan.specs.declared.certificate.cert.Claim.{Claim as CodeClaim}
use Rattle.plan.specs.declared.certificate.cert.Need.{Need}
use Rattle.plan.specs.Plan.{At, Coordinate, Plan}
use Rattle.plan.specs.View.{plan_of, statement_of}
use Rattle.plan.specs.Lines.{lines, body_line}
use Rattle.plan.specs.Certificate.Certificate.{Certificate, certificate_of}
use Rattle.meaning.specs.Algorithm.{Algorithm}
use Rattle.meaning.specs.Conditions.{IsAlgorithm}
use Rattle.meaning.specs.Names.{same_name}
use Rattle.soundness.specs.Claims.{In}
use Rattle.soundness.specs.Obligations.{Rules, has_form, is_form}
use Rattle.soundness.specs.Shown.{start}
use Rattle.soundness.specs.Binders.View.{grid_binders}
use Rattle.soundness.proofs.Refines.{name_refl, eq_true, name_true}
use Rattle.rules.specs.Bounding.Rules.{rules_of}
use Rattle.headline.proofs.Lists.{from_map}
use Rattle.headline.proofs.Regions.{at_in}
use Rattle.sched.specs.Schedule.{Schedule}
use Rattle.sched.specs.Legal.{IsLegal}
use Rattle.sched.specs.declared.schedule.Split.{Split}
use Rattle.sched.specs.declared.placing.Loop.{Loop as NestLoop}
use Rattle.sched.specs.declared.numbers.Numbers.{Numbers}
use Rattle.sched.specs.declared.skeleton.Known.{Known}
use Rattle.sched.specs.declared.skeleton.Step.{Step}
use Rattle.sched.specs.declared.nest.Turning.{Turning}
use Rattle.sched.specs.Numbers.{numbers_named, last_number, loop_numbers, parallel_loops, piece_counts}
use Rattle.sched.specs.Placing.{is_parallel}
use Rattle.sched.specs.Standing.{form_named, counted_from, alone, cuts_by_variable}
use Rattle.sched.specs.Skeleton.{BodyText, NestText, SkeletonText, loop_turning, is_missing, nest_turns, variables_at, ranges_at, grid_forms, kept_from}
use Rattle.sched.proofs.Standings.{Stands, found_all}
use Rattle.sched.proofs.Rooting.{IsHeld}
use Rattle.tails.specs.Apart.{index_form, form_of}
use Rattle.lower.specs.declared.lowering.Lowered.{Lowered}
use Rattle.sched.specs.Stored.{FormulaText, StoredText}
use Rattle.lower.specs.Stored.{stored_functions, has_large}
use Rattle.regions.specs.Faults.{are_whole}
use Rattle.lower.specs.Faults.{region_fault}
use Rattle.regions.specs.Regions.{bodies_from}
use Rattle.lower.specs.Owning.{IsLaidBy}
use Rattle.sched.specs.Loading.{Loads}
use Rattle.blocks.specs.Blocks.{LayText, lay_over, dimension_of}
use Rattle.blocks.specs.Bodies.{IsIndex, AreCoordinates}
use Rattle.sched.specs.Bodies.{first_left, other_lefts}
use Rattle.sched.specs.Fetches.{Entry as Fetched}
use Rattle.lower.specs.Groups.{HasBody, HasGroups}
use Rattle.lower.proofs.Blocking.{IsSmall, CutFits}
use Rattle.lower.proofs.Owners as owners
use Rattle.completeness.specs.Laws.{AreSplitOnce}
use Rattle.completeness.specs.Parted.{KeepsInner}
use Rattle.completeness.proofs.Halves.{AreOthers, inner_outer}
use Rattle.completeness.proofs.Lanes.{AreOnce}
use Rattle.completeness.proofs.PlainTurns.{hits, itself, turn_name, one_if, hits_some}
use Rattle.completeness.proofs.PureNests.{all_in, loop_name, index_at}
use Rattle.completeness.proofs.GridTurns.{grid_some}
use Rattle.completeness.proofs.BlockSums.{pair_is}
use Rattle.completeness.proofs.GridCounts.{IsShort}
use Rattle.completeness.proofs.GuardSums.{left_over}
use Rattle.completeness.proofs.BlockFacts.{loops_held, in_all_cuts, serial_none, parallel_some}
use Rattle.meaning.specs.Algorithm.{Range}
use Rattle.meaning.specs.Conditions.{AreDistinct, IsRange}
use Rattle.sched.specs.Skeleton.{range_turning}
use Rattle.tails.specs.Updates.{forms_in, at_forms}
use Rattle.sched.specs.Around.{range_names}
use Rattle.headline.proofs.Lists.{at_left}
use Rattle.completeness.proofs.PlainTurns.{found_at, found_some, found_there}
use Rattle.completeness.proofs.UpdateTurns.{range_name}
use Rattle.completeness.proofs.BlockRanges.{kept_once, kept_index, kept_among, IsLoopTurn, IsRangeTurn}
use Rattle.completeness.proofs.BlockRanges.{loop_there, range_there}
use Rattle.completeness.proofs.TailGroups as group
use Rattle.std.specs.Prelude.{negsuc, nat_lt}
use Rattle.lin.specs.Forms.{without, is_within_limits}
use Rattle.lin.proofs.Limits.{combined-means}
use Rattle.headline.proofs.Lists.{at_map}
use Rattle.sched.specs.Placing.{is_shifted}
use Rattle.sched.specs.Standing.{room}
use Rattle.sched.specs.Numbers.{is_too_short}
use Rattle.completeness.proofs.Halves.{by_whole}
use Rattle.completeness.proofs.Searched.{one_of}
use Rattle.completeness.proofs.GuardSums.{left_is}
use Rattle.completeness.proofs.BlockSums.{multiple, pair, two_of, start_is}
use Rattle.completeness.proofs.SplitTests.{grid_spelled}
use Rattle.completeness.proofs.BlockNames.{LeafOf, IsTurnOf, IsNestTurn, turn_of}
use Rattle.completeness.proofs.TailSteps.{Line, Loop, Block, Pair, is_loop, line_steps, steps_of}
use Rattle.completeness.proofs.TailTurns.{keeps_rest, Entry, let_of, entry_steps, Leaf, IsBegun, IsLimited, Kept, Right, IsLet, IsEntry, IsLimit, IsPair, IsBlock}
use Rattle.completeness.proofs.TailTurns.{not_shifted}
use Rattle.plan.specs.declared.stmt.Pick.TheVariants.{Min}
use Rattle.sched.specs.declared.skeleton.Step.TheVariants.{Named}
use Rattle.std.proofs.Common.{zero, suc}
use Rattle.completeness.proofs.HeadSeats.{HeadLet, around_from}
use Rattle.rules.specs.Bounding.Scopes.{most_symbols}
use Rattle.soundness.specs.Obligations.{Binder}
use Rattle.completeness.proofs.TailSkeletons.{IsTailNest, AreTails}
use Rattle.completeness.proofs.TailDims.{end_of_all, all_of}
use Rattle.bounds.specs.Spans.{numbers}
use Rattle.plan.specs.declared.stmt.Places.TheVariants.{From}
use Rattle.completeness.proofs.TailNames.{IsKeptBy, IsLetOf, IsPairLet, IsBlockLet, factor, owner, tops, owner_there, HasPlain, plain_grid, plain_loop, plain_block, plain_split}
use Rattle.completeness.proofs.TailNames.{plain_pair, plain_shift, plain_head}
use Rattle.completeness.proofs.Served.{roots}
use Rattle.completeness.proofs.TailShapes as shape_of
use Rattle.std.specs.Prelude.{take}
use Rattle.completeness.proofs.PureNests.{all_slices}
use Rattle.completeness.proofs.UpdateTests.{ReadsIf, none_index}
use Rattle.completeness.proofs.BlockNames as old
use Rattle.completeness.proofs.Courses.{begin_of}
use Rattle.completeness.proofs.TailSums.{course, AreSums, Each, sum_forms, LinesFit}
use Rattle.completeness.proofs.TailTests.{IsClaimed, AreLow}
use Rattle.completeness.proofs.TailLines.{LoopFirst}
use Rattle.completeness.proofs.TailNames.{lines_fit, are_low}

-- what each symbol of a nest is of, and the further upper forms of its loop
abbrev pub turnings : List Entry → List Turning
turnings es = map (λ e. e.turning) es

abbrev pub line_of : ℕ → List Entry → ℕ → Line
line_of n es s = elim (slice_get es (s - n)) [ Some e ↦ e.line | None ↦ Loop ]

abbrev pub limits_of : ℕ → List Entry → ℕ → List Form
limits_of n es s = elim (slice_get es (s - n)) [ Some e ↦ e.limits | None ↦ [] ]

pub line_there : (n : ℕ) (es : List Entry) (j : ℕ) (e : Entry) → slice_get es j ≡ Some e → (line_of n es (n + j) ≡ e.line) × (limits_of n es (n + j) ≡ e.limits)
line_there n es j e at =
    let place : (n + j) - n ≡ j = omega arith in
    let there : slice_get es ((n + j) - n) ≡ Some e = ap (slice_get es) place ∙ at in
    (ap (λ (o : Option Entry). elim o [ Some e ↦ e.line | None ↦ Loop ]) there, ap (λ (o : Option Entry). elim o [ Some e ↦ e.limits | None ↦ [] ]) there)

-- the steps of entries are those of their loops and lets
pub steps_are : (line : ℕ → Line) (lim : ℕ → List Form) (n : ℕ) (es : List Entry) → ((j : ℕ) (e : Entry) → slice_get es j ≡ Some e → (line (n + j) ≡ e.line) × (lim (n + j) ≡ e.limits)) →
    entry_steps n es ≡ steps_of line lim n (turnings es)
steps_are line lim n [] h = refl
steps_are line lim n (e ∷ es) h =
    let none : n + 0 ≡ n = omega arith in
    let here = h 0 e refl in
    let line_is : line n ≡ e.line = ap line (sym none) ∙ here.0 in
    let limits : lim n ≡ e.limits = ap lim (sym none) ∙ here.1 in
    let rest = steps_are line lim (n + 1) es (λ j f q. let next : (n + 1) + j ≡ n + suc j = omega arith in let r = h (suc j) f q in (ap line next ∙ r.0, ap lim next ∙ r.1)) in
    λ i. line_steps (sym line_is i) n e.turning (sym limits i) (rest i)

not_both : {b : Bool} → b ≡ true → b ≡ false → ⊥
not_both e q = (let clash : true ≡ false = sym e ∙ q in cc clash)

-- ---- groups

module _ (a : Algorithm) (sch : Schedule) (l : Lowered) (well : IsAlgorithm a) (legal : IsLegal a sch) (small : has_large (stored_functions a sch) ≡ false)
    (kept : region_fault a (stored_functions a sch) ≡ None) (all : are_whole (stored_functions a sch) ≡ true) (groups : HasGroups a (stored_functions a sch) l) where
  abbrev pub entries : List Fetched
  entries = roots a sch l well legal small kept all groups

  abbrev pub stored : List StoredText
  stored = stored_functions a sch

  abbrev pub made_groups : List CodeGroup
  made_groups = l.plan.groups.items

  abbrev pub items : List CodeClaim
  items = l.certificate.claims.items

  abbrev pub plan : Plan
  plan = plan_of l.plan

  abbrev pub cert : Certificate
  cert = certificate_of l.certificate

  module _ (n first line : ℕ) (g : StoredText) (p : CodeGroup) (claims : List CodeClaim) (needs : List Need) (at : slice_get stored n ≡ Some g) (there : slice_get made_groups n ≡ Some p)
      (h : HasBody a entries n first line g p claims needs) (lined : body_line plan n ≡ line + 1)
      (placed : (j : ℕ) (v : CodeClaim) → slice_get claims j ≡ Some v → slice_get items (first + j) ≡ Some v)
      (alone_here : (j : ℕ) (w : CodeClaim) → slice_get items j ≡ Some w → line < w.line → w.line < line + (lines (statement_of p.body) + 1) → In w claims)
      (laid : IsLaidBy g h.extents h.skeleton) (split_alone : AreSplitOnce g.placed.cuts) (keeps : KeepsInner g.placed.loops g.placed.cuts)
      (long : AllByRecursion (λ c. is_too_short (loop_numbers g.subject.variables g.placed.cuts h.extents) c ≡ false) g.placed.cuts) where
    abbrev pub k : SkeletonText
    k = h.skeleton

    abbrev pub fs : List FormulaText
    fs = h.formulas

    abbrev pub xs : List (List ℕ)
    xs = g.subject.variables

    abbrev pub ls : List NestLoop
    ls = g.placed.loops

    abbrev pub cuts : List Split
    cuts = g.placed.cuts

    abbrev pub rs : List Numbers
    rs = loop_numbers g.subject.variables g.placed.cuts h.extents

    abbrev pub bs : List BodyText
    bs = bodies_from g.changes 0 g.subject.reductions fs

    abbrev pub R : Rules
    R = rules_of a plan cert n

    abbrev pub low : List ℕ → ℤ
    low x = (numbers_named rs x).low

    abbrev pub last : List ℕ → ℤ
    last x = last_number (numbers_named rs x)

    abbrev pub num : List ℕ → Numbers
    num x = numbers_named rs x

    abbrev pub lay : LayText
    lay = lay_over g h.extents k

    abbrev pub grid : List Known
    grid = grid_forms rs 0 (parallel_loops ls)

    abbrev pub claim : List ℕ → Span1
    claim x = (dimension_of lay cuts x).claim

    abbrev pub place : List ℕ → Places
    place x = (dimension_of lay cuts x).places

    abbrev pub others : AreOthers cuts
    others = shape_of.others a sch l well legal small kept all groups n first line g p claims needs at there h lined placed alone_here laid split_alone keeps long

    abbrev pub once : AreOnce cuts
    once = shape_of.once a sch l well legal small kept all groups n first line g p claims needs at there h lined placed alone_here laid split_alone keeps long

    abbrev pub halves : (c : Split) → In c cuts → (x : List ℕ) → In x xs → (x ≡ c.outer → ⊥) × (x ≡ c.inner → ⊥)
    halves = shape_of.halves a sch l well legal small kept all groups n first line g p claims needs at there h lined placed alone_here laid split_alone keeps long

    abbrev pub outers : (c d : Split) → In c cuts → In d cuts → c.outer ≡ d.outer → c ≡ d
    outers = shape_of.outers a sch l well legal small kept all groups n first line g p claims needs at there h lined placed alone_here laid split_alone keeps long

    abbrev pub gone : (c : Split) → In c cuts → (o : NestLoop) → In o ls → c.whole ≡ o.name → ⊥
    gone = shape_of.gone a sch l well legal small kept all groups n first line g p claims needs at there h lined placed alone_here laid split_alone keeps long

    abbrev pub wholes : (c : Split) → In c cuts → In c.whole xs
    wholes = shape_of.wholes a sch l well legal small kept all groups n first line g p claims needs at there h lined placed alone_here laid split_alone keeps long

    abbrev pub fits : (c : Split) → In c cuts → CutFits rs c
    fits = shape_of.fits a sch l well legal small kept all groups n first line g p claims needs at there h lined placed alone_here laid split_alone keeps long

    abbrev pub single : (y : List ℕ) → hits loop_name y ls ≤ 1
    single = shape_of.single a sch l well legal small kept all groups n first line g p claims needs at there h lined placed alone_here laid split_alone keeps long

    abbrev pub inners : (c : Split) → In c cuts → form_named grid c.inner ≡ None
    inners = shape_of.inners a sch l well legal small kept all groups n first line g p claims needs at there h lined placed alone_here laid split_alone keeps long

    abbrev pub shape : AreTails xs bs g.placed others once rs k
    shape = shape_of.shape a sch l well legal small kept all groups n first line g p claims needs at there h lined placed alone_here laid split_alone keeps long

    abbrev pub NumbersFit : List ℕ → Type 0
    NumbersFit = shape_of.NumbersFit a sch l well legal small kept all groups n first line g p claims needs at there h lined placed alone_here laid split_alone keeps long

    abbrev pub fit_of : (x : List ℕ) → In x xs → NumbersFit x
    fit_of = shape_of.fit_of a sch l well legal small kept all groups n first line g p claims needs at there h lined placed alone_here laid split_alone keeps long

    abbrev pub sized : (c : Split) → In c cuts → IsSmall (num c.whole) × (0 < (num c.whole).count)
    sized = shape_of.sized a sch l well legal small kept all groups n first line g p claims needs at there h lined placed alone_here laid split_alone keeps long

    abbrev pub shorts : AllByRecursion IsShort k.grid
    shorts = shape_of.shorts a sch l well legal small kept all groups n first line g p claims needs at there h lined placed alone_here laid split_alone keeps long

    abbrev pub near_named : (y : List ℕ) → LeafOf xs ls cuts rs others once halves outers gone y → (unsigned_abs (low y) ≤ 2 ^ 36) × (unsigned_abs (last y) ≤ 2 ^ 36)
    near_named = shape_of.near_named a sch l well legal small kept all groups n first line g p claims needs at there h lined placed alone_here laid split_alone keeps long

    abbrev pub loop_leaf : (o : NestLoop) → In o ls → (x : List ℕ) × (slice_get xs o.dimension ≡ Some x) × ((x ≡ o.name) ⊎ ((c : Split) × In c cuts × (c.whole ≡ x) × ((o.name ≡ c.outer) ⊎
        (o.name ≡ c.inner))))
    loop_leaf = shape_of.loop_leaf a sch l well legal small kept all groups n first line g p claims needs at there h lined placed alone_here laid split_alone keeps long

    -- ---- a nest

    module _ (d : ℕ) (w : NestText) (stands : slice_get k.nests d ≡ Some w) (ds : List Range) (reduced : (e : Range) → In e ds → In e.variable g.subject.reductions)
        (distinct : AreDistinct (xs ++ range_names ds)) (within : AllByRecursion IsRange ds) (ranged : (shape.nests d w stands).body.ranges ≡ map range_turning ds) (keep : ℕ → Bool)
        (keeps_turns : (j : ℕ) (e : Entry) → slice_get (shape.nests d w stands).entries j ≡ Some e → ((o : NestLoop) × In o ls × (o.name ≡ e.turning.name)) ⊎ (is_loop e.line ≡ false) →
        keep ((shape.nests d w stands).next + j) ≡ true) where
      abbrev pub q : IsTailNest xs bs g.placed others once rs grid (length (piece_counts rs ls)) k.head d w
      q = shape.nests d w stands

      abbrev pub b : BodyText
      b = q.body

      abbrev pub m0 : ℕ
      m0 = q.next

      abbrev pub es : List Entry
      es = q.entries

      abbrev pub us : List Turning
      us = nest_turns b rs ls

      abbrev pub ts : List Turning
      ts = turnings es

      abbrev pub kinds : ℕ → Line
      kinds = line_of m0 es

      abbrev pub lim : ℕ → List Form
      lim = limits_of m0 es

      abbrev head : List Step
      head = k.head

      abbrev Fact : ℕ → Entry → Type 0
      Fact j e = IsEntry cuts others once rs grid (length (piece_counts rs ls)) k.head m0 es us j e

      pub entry_of : (j : ℕ) (t : Turning) → slice_get ts j ≡ Some t → (e : Entry) × (slice_get es j ≡ Some e) × (t ≡ e.turning)
      entry_of j t at = from_map (λ (e : Entry). e.turning) es j t at

      turning_at : (j : ℕ) (e : Entry) → slice_get es j ≡ Some e → slice_get ts j ≡ Some e.turning
      turning_at j e at = at_map (λ (e : Entry). e.turning) es j e at

      pub line_at : (j : ℕ) (e : Entry) → slice_get es j ≡ Some e → kinds (m0 + j) ≡ e.line
      line_at j e at = (line_there m0 es j e at).0

      pub limits_at : (j : ℕ) (e : Entry) → slice_get es j ≡ Some e → lim (m0 + j) ≡ e.limits
      limits_at j e at = (line_there m0 es j e at).1

      loop_at : (j : ℕ) (e : Entry) → slice_get es j ≡ Some e → is_loop e.line ≡ true → is_loop (kinds (m0 + j)) ≡ true
      loop_at j e at loop = ap is_loop (line_at j e at) ∙ loop

      pub turns_of : (j : ℕ) (t : Turning) → slice_get us j ≡ Some t → IsNestTurn xs ls cuts rs others once halves outers gone grid t
      turns_of j t e = shape_of.turns a sch l well legal small kept all groups n first line g p claims needs at there h lined placed alone_here laid split_alone keeps long b ds
          reduced distinct within ranged j t e

      -- an entry that is a loop is one of the nest's
      pub turn_at : (j : ℕ) (t : Turning) → slice_get ts j ≡ Some t → is_loop (kinds (m0 + j)) ≡ true → (i : ℕ) × (slice_get us i ≡ Some t)
      turn_at j t at loop =
          let r = entry_of j t at in
          of r.0 r.2 (ap is_loop (sym (line_at j r.0 r.1)) ∙ loop) (q.each j r.0 r.1)
        where
          of : (e : Entry) → t ≡ e.turning → is_loop e.line ≡ true → Fact j e → (i : ℕ) × (slice_get us i ≡ Some t)
          of e is l (inl k) = (k.place, k.there ∙ ap (λ (u : Turning). Some u) (sym is))
          of e is l (inr k) = absurd (by k.kind)
            where
              by : IsBlock cuts others once rs grid (length (piece_counts rs ls)) head m0 es us j e k.split
                  ⊎ ((keeps_rest rs k.split ≡ true) × (form : Form) × (p : IsPair cuts others once rs grid (length (piece_counts rs ls)) head m0 es k.split form) × (j ≡ p.outer_at + 1)
                  × (e.line ≡ Pair form (last_number (numbers_named rs k.split.whole)))) → ⊥
              by (inl r) = not_both l (ap is_loop r.line)
              by (inr r) = not_both l (ap is_loop r.4)

      pub turns : (j : ℕ) (t : Turning) → slice_get ts j ≡ Some t → is_loop (kinds (m0 + j)) ≡ true → IsNestTurn xs ls cuts rs others once halves outers gone grid t
      turns j t at loop = (let r = turn_at j t at loop in turns_of r.0 t r.1)

      -- every other entry is a let
      let_at : (j : ℕ) (e : Entry) → slice_get es j ≡ Some e → is_loop e.line ≡ false → IsLet cuts others once rs grid (length (piece_counts rs ls)) k.head m0 es us j e
      let_at j e at not_loop = of (q.each j e at)
        where
          of : Fact j e → IsLet cuts others once rs grid (length (piece_counts rs ls)) k.head m0 es us j e
          of (inl r) = absurd (not_both r.loop not_loop)
          of (inr r) = r

      -- the forms of lets
      block_form : (c : Split) → In c cuts → (s : ℕ) (f : Form) → combined (number (low c.whole)) (pos c.factor) (alone s) ≡ Some f → f ≡ one_of (low c.whole) (pos c.factor) s
      block_form c m s f e = (combined-means (number (low c.whole)) (pos c.factor) (alone s) f e).is ∙ start_is (low c.whole) c.factor s (fits c m).some

      pair_form : (c : Split) → In c cuts → (o i : ℕ) → i < o → (start f : Form) → combined (number (low c.whole)) (pos c.factor) (alone (m0 + o)) ≡ Some start →
          combined start (pos 1) (alone (m0 + i)) ≡ Some f → f ≡ pair (low c.whole) (m0 + o) (pos c.factor) (m0 + i)
      pair_form c m o i less start f one two =
          let differ : (m0 + o == m0 + i) ≡ false = grind (arith, nat_tests, less) in
          (pair_is (low c.whole) c.factor (m0 + o) (fits c m).some (m0 + i) start f differ one two).0

      pub lets : (j : ℕ) (t : Turning) → slice_get ts j ≡ Some t → is_loop (kinds (m0 + j)) ≡ false →
          (r : IsLetOf xs ls cuts rs others once halves outers gone m0 ts kinds j t)
          × (IsPairLet xs ls cuts rs others once halves outers gone m0 ts kinds j t r ⊎ IsBlockLet xs ls cuts rs others once halves outers gone m0 ts kinds j t r)
          × (lim (m0 + j) ≡ []) × (keep (m0 + j) ≡ true)
      lets j t at not_loop = by (let_at j e r.1 (ap is_loop (sym (line_at j e r.1)) ∙ not_loop))
        where
          r : (e : Entry) × (slice_get es j ≡ Some e) × (t ≡ e.turning)
          r = entry_of j t at

          e : Entry
          e = r.0

          bare_kept : IsLet cuts others once rs grid (length (piece_counts rs ls)) k.head m0 es us j (entry_of j t at).0 → (lim (m0 + j) ≡ []) × (keep (m0 + j) ≡ true)
          bare_kept l = (limits_at j e r.1 ∙ l.bare, keeps_turns j e r.1 (inr (ap is_loop (sym (line_at j e r.1)) ∙ not_loop)))

          by : IsLet cuts others once rs grid (length (piece_counts rs ls)) k.head m0 es us j (entry_of j t at).0 →
              (r : IsLetOf xs ls cuts rs others once halves outers gone m0 ts kinds j t)
              × (IsPairLet xs ls cuts rs others once halves outers gone m0 ts kinds j t r ⊎ IsBlockLet xs ls cuts rs others once halves outers gone m0 ts kinds j t r)
              × (lim (m0 + j) ≡ []) × (keep (m0 + j) ≡ true)
          by l = of l.kind
            where
              c : Split
              c = l.split

              turning : t ≡ let_of rs l.split
              turning = r.2 ∙ l.turning

              made : (o : ℕ) (v : Entry) → slice_get es o ≡ Some v → is_loop v.line ≡ true → v.turning.name ≡ c.outer → o < j → IsLetOf xs ls cuts rs others once halves outers gone m0 ts kinds j t
              made o v there loop name less = record {
                split = c;
                among = l.among;
                name = ap (λ (u : Turning). u.name) turning;
                from = ap (λ (u : Turning). u.low) turning;
                to = ap (λ (u : Turning). u.last) turning;
                outer_at = o;
                outer = v.turning;
                outer_there = turning_at o v there;
                outer_loop = loop_at o v there loop;
                outer_name = name;
                behind = less;
              }

              of : IsBlock cuts others once rs grid (length (piece_counts rs ls)) k.head m0 es us j (entry_of j t at).0 l.split
                  ⊎ ((keeps_rest rs l.split ≡ true) × (form : Form) × (p : IsPair cuts others once rs grid (length (piece_counts rs ls)) k.head m0 es l.split form) × (j ≡ p.outer_at + 1)
                  × ((entry_of j t at).0.line ≡ Pair form (last_number (numbers_named rs l.split.whole)))) →
                  (r : IsLetOf xs ls cuts rs others once halves outers gone m0 ts kinds j t)
                  × (IsPairLet xs ls cuts rs others once halves outers gone m0 ts kinds j t r ⊎ IsBlockLet xs ls cuts rs others once halves outers gone m0 ts kinds j t r)
                  × (lim (m0 + j) ≡ []) × (keep (m0 + j) ≡ true)
              of (inl x) =
                  let place = x.behind in
                  let form = block_form c l.among (m0 + x.outer_at) x.form x.begins in (
                    made x.outer_at x.outer x.outer_there x.outer_loop x.outer_name (omega (arith, place)),
                    inr (record { shifted = x.shifted; is = line_at j e r.1 ∙ x.line ∙ ap (λ (f : Form). Block f (room (num c.whole) c.factor)) form }),
                    (bare_kept l).0,
                    (bare_kept l).1,
                  )
              of (inr (rests, f, x, place, is)) =
                  let less = x.before in
                  let form = pair_form c l.among x.outer_at x.inner_at x.before x.start f x.begins x.sum in (
                    made x.outer_at x.outer x.outer_there x.outer_loop x.outer_name (omega (arith, place)),
                    inl (record {
                      rests = rests;
                      inner_at = x.inner_at;
                      inner = x.inner.turning;
                      inner_there = turning_at x.inner_at x.inner x.inner_there;
                      inner_loop = loop_at x.inner_at x.inner x.inner_there x.inner_loop;
                      inner_name = x.inner_name;
                      before = x.before;
                      is = line_at j e r.1 ∙ is ∙ ap (λ (f : Form). Pair f (last c.whole)) form;
                    }),
                    (bare_kept l).0,
                    (bare_kept l).1,
                  )

      pub keeps_loops : (j : ℕ) (t : Turning) → slice_get ts j ≡ Some t → is_loop (kinds (m0 + j)) ≡ true → IsTurnOf xs ls cuts rs others once halves outers gone grid t → keep (m0 + j) ≡ true
      keeps_loops j t at loop o = (let r = entry_of j t at in keeps_turns j r.0 r.1 (inl (o.loop, o.there, o.name ∙ ap (λ (u : Turning). u.name) r.2)))

      pub same_places : (i j : ℕ) (t u : Turning) → slice_get ts i ≡ Some t → slice_get ts j ≡ Some u → t.name ≡ u.name → i ≡ j
      same_places i j t u at there name =
          let x = entry_of i t at in
          let y = entry_of j u there in
          q.once_each i j x.0 y.0 x.1 y.1 (sym (ap (λ (v : Turning). v.name) x.2) ∙ name ∙ ap (λ (v : Turning). v.name) y.2)

      pub over_names : (y : List ℕ) (f : Form) → form_named grid y ≡ Some f → (s : ℕ) × (f ≡ counted_from (low y) s) × (s < m0) × ((o : NestLoop) × In o ls × (o.name ≡ y))
      over_names y f e =
          let r = group.grids a sch l well legal small kept all groups n first line g p claims needs at there h lined placed alone_here laid split_alone keeps long y f e in
          let less = r.2 in
          let least = q.low in
          (r.0, r.1, omega (arith, less, least), r.3)

      grid_symbol : (c : Split) → In c cuts → (f : Form) → form_named grid c.outer ≡ Some f → (s : ℕ) × (f ≡ counted_from (pos 0) s) × (s < length (piece_counts rs ls))
      grid_symbol c m f e = group.outers_there a sch l well legal small kept all groups n first line g p claims needs at there h lined placed alone_here laid split_alone keeps long c m f e

      -- what is left up to the last number of a split loop, over the symbol of the outer loop
      left_so : (c : Split) → In c cuts → (j : ℕ) (f : Form) (l : IsLimit cuts others once rs grid (length (piece_counts rs ls)) k.head m0 es j c f) → (s : ℕ) → l.outer ≡ counted_from (pos 0) s →
          s < m0 + j → f ≡ left_over (last c.whole) (low c.whole) (pos c.factor) s
      left_so c m j f l s is less =
          let fit : CutFits rs c = fits c m in
          let differ : (s == m0 + j) ≡ false = grind (arith, nat_tests, less) in
          let first : nat_lt s (m0 + j) ≡ true = grind (arith, nat_tests, less) in
          let begins = ap (combined (number (low c.whole)) (pos c.factor)) (sym is) ∙ l.begins in
          let form = pair_is (low c.whole) c.factor s fit.some (m0 + j) l.start l.form differ begins l.sum in
          let size_is : c.factor ≡ suc (c.factor - 1) = (let wide = fit.some in omega (arith, wide)) in
          let two : l.form ≡ two_of (low c.whole) (pos (suc (c.factor - 1))) s (pos 1) (m0 + j) =
          form.0 ∙ (λ i. record {
            constant = low c.whole;
            terms = if first i then multiple s (pos (size_is i)) ∷ multiple (m0 + j) (pos 1) ∷ [] else multiple (m0 + j) (pos 1) ∷ multiple s (pos (size_is i)) ∷ [];
          }) in
          left_is (last c.whole) (low c.whole) (c.factor - 1) s (m0 + j) less f (ap (λ (g : Form). combined (number (last c.whole)) (negsuc 0) (without g (m0 + j))) (sym two) ∙ l.less)
          ∙ (λ i. left_over (last c.whole) (low c.whole) (pos (sym size_is i)) s)

      kept_by : (c : Split) → In c cuts → (j : ℕ) (f : Form) → IsLimit cuts others once rs grid (length (piece_counts rs ls)) k.head m0 es j c f →
          IsKeptBy xs ls cuts rs others once halves outers gone m0 ts kinds c (m0 + j) f
      kept_by c m j f l = of l.by_outer
        where
          not_over : (o : ℕ) (v : Turning) → slice_get ts o ≡ Some v → v.name ≡ c.outer → form_named grid c.outer ≡ Some l.outer → ⊥
          not_over o v at_o name over = by (is_loop (kinds (m0 + o))) refl
            where
              by : (b : Bool) → is_loop (kinds (m0 + o)) ≡ b → ⊥
              by true loop =
                  let own : form_named grid v.name ≡ None = elim (turns o v at_o loop) [ inl x ↦ x.own | inr x ↦ x.own ] in
                  let clash : Some l.outer ≡ None = sym over ∙ ap (form_named grid) (sym name) ∙ own in
                  cc clash
              by false loop = (let r = (lets o v at_o loop).0 in (once r.split c r.among m).0 (sym r.name ∙ name))

          of : (form_named grid c.outer ≡ Some l.outer)
              ⊎ ((o : ℕ) × (v : Entry) × (slice_get es o ≡ Some v) × (is_loop v.line ≡ true) × (v.turning.name ≡ c.outer) × (l.outer ≡ alone (m0 + o)) × (o < j)) →
              IsKeptBy xs ls cuts rs others once halves outers gone m0 ts kinds c (m0 + j) f
          of (inl over) =
              let r = grid_symbol c m l.outer over in
              let less = r.2 in
              let least = q.low in
              let before : r.0 < m0 + j = omega (arith, less, least) in
              record { symbol = r.0; before = before; is = left_so c m j f l r.0 r.1 before; nest = λ low o v at_o name. not_over o v at_o name over; whose = inl (omega (arith, less, least)) }
          of (inr (o, v, there, loop, name, is, less)) =
              let before : m0 + o < m0 + j = omega (arith, less) in
              record {
                symbol = m0 + o;
                before = before;
                is = left_so c m j f l (m0 + o) is before;
                nest = λ low p u at_p named. absurd (omega (arith, low));
                whose = inr (o, v.turning, turning_at o v there, loop_at o v there loop, name, refl);
              }

      -- the further upper forms
      pub bounded : (j : ℕ) (t : Turning) → slice_get ts j ≡ Some t → (lim (m0 + j) ≡ [])
          ⊎ ((c : Split) × In c cuts × (keeps_rest rs c ≡ true) × (t.name ≡ c.inner) × (is_loop (kinds (m0 + j)) ≡ true) × (f : Form)
          × IsKeptBy xs ls cuts rs others once halves outers gone m0 ts kinds c (m0 + j) f × (is_within_limits f ≡ true) × (lim (m0 + j) ≡ f ∷ []))
      bounded j t at = of (q.each j e r.1)
        where
          r : (e : Entry) × (slice_get es j ≡ Some e) × (t ≡ e.turning)
          r = entry_of j t at

          e : Entry
          e = r.0

          of : Fact j (entry_of j t at).0 → (lim (m0 + j) ≡ [])
              ⊎ ((c : Split) × In c cuts × (keeps_rest rs c ≡ true) × (t.name ≡ c.inner) × (is_loop (kinds (m0 + j)) ≡ true) × (f : Form)
              × IsKeptBy xs ls cuts rs others once halves outers gone m0 ts kinds c (m0 + j) f × (is_within_limits f ≡ true) × (lim (m0 + j) ≡ f ∷ []))
          of (inr x) = inl (limits_at j e r.1 ∙ x.bare)
          of (inl x) = by x.limits
            where
              by : (e.limits ≡ []) ⊎ ((c : Split) × In c cuts × (keeps_rest rs c ≡ true) × (e.turning.name ≡ c.inner) × (f : Form)
                  × IsLimit cuts others once rs grid (length (piece_counts rs ls)) k.head m0 es j c f × (e.limits ≡ f ∷ [])) → (lim (m0 + j) ≡ [])
                  ⊎ ((c : Split) × In c cuts × (keeps_rest rs c ≡ true) × (t.name ≡ c.inner) × (is_loop (kinds (m0 + j)) ≡ true) × (f : Form)
                  × IsKeptBy xs ls cuts rs others once halves outers gone m0 ts kinds c (m0 + j) f × (is_within_limits f ≡ true) × (lim (m0 + j) ≡ f ∷ []))
              by (inl none) = inl (limits_at j e r.1 ∙ none)
              by (inr (c, m, rests, name, f, l, is)) =
                  inr (
                    c,
                    m,
                    rests,
                    ap (λ (u : Turning). u.name) r.2 ∙ name,
                    loop_at j e r.1 x.loop,
                    f,
                    kept_by c m j f l,
                    (combined-means (number (last c.whole)) (negsuc 0) (without l.form (m0 + j)) f l.less).within,
                    limits_at j e r.1 ∙ is,
                  )

      -- ---- what each symbol is

      pub near : (j : ℕ) (t : Turning) → slice_get ts j ≡ Some t → (unsigned_abs t.low ≤ 2 ^ 36) × (unsigned_abs t.last ≤ 2 ^ 36)
      near j t at_j = of (is_loop (kinds (m0 + j))) refl
        where
          whole_near : (c : Split) → In c cuts → (unsigned_abs (low c.whole) ≤ 2 ^ 36) × (unsigned_abs (last c.whole) ≤ 2 ^ 36)
          whole_near c m =
              let fit = fit_of c.whole (wholes c m) in
              let from = fit.0.from in
              let to = fit.0.to in
              let few = fit.0.few in
              let some = fit.1 in
              (omega (arith, ints, from, to), omega (arith, ints, from, to, few, some))

          of : (v : Bool) → is_loop (kinds (m0 + j)) ≡ v → (unsigned_abs t.low ≤ 2 ^ 36) × (unsigned_abs t.last ≤ 2 ^ 36)
          of true loop = (let r = turn_at j t at_j loop in shape_of.near a sch l well legal small kept all groups n first line g p claims needs at there h lined placed alone_here laid
              split_alone keeps long b ds reduced distinct within ranged r.0 t r.1)
          of false e =
              let r = (lets j t at_j e).0 in
              let ends = whole_near r.split r.among in
              (subst (λ (z : ℤ). unsigned_abs z ≤ 2 ^ 36) (sym r.from) ends.0, subst (λ (z : ℤ). unsigned_abs z ≤ 2 ^ 36) (sym r.to) ends.1)

      abbrev pub heads : List HeadLet
      heads = (shape_of.head_lets a sch l well legal small kept all groups n first line g p claims needs at there h lined placed alone_here laid split_alone keeps long).lets

      pub few_heads : length k.grid + length heads ≤ m0
      few_heads = (let is = ap length shape.grid in let least = q.low in let many = (shape_of.head_lets a sch l well legal small kept all groups n first line g p claims needs at there h
          lined placed alone_here laid split_alone keeps long).long in omega (arith, is, least, many))

      pub short_heads : length k.grid + length heads ≤ most_symbols
      short_heads =
          let is = ap length shape.grid in
          let pieces = group.few_pieces a sch l well legal small kept all groups n first line g p claims needs at there h lined placed alone_here laid split_alone keeps long in
          let many = (shape_of.head_lets a sch l well legal small kept all groups n first line g p claims needs at there h lined placed alone_here laid split_alone keeps long).long in
          let few = shape_of.few_head a sch l well legal small kept all groups n first line g p claims needs at there h lined placed alone_here laid split_alone keeps long in
          omega (arith, is, pieces, many, few)

      abbrev pub around : List Binder
      around = around_from (length k.grid) heads (grid_binders k.grid)

      abbrev pub factor_at : ℕ → ℤ
      factor_at = factor xs ls cuts rs others once halves outers gone grid m0 ts kinds lim keep turns lets keeps_loops same_places over_names inners fits sized bounded

      abbrev pub tops_at : ℕ → List Form
      tops_at = tops xs ls cuts rs others once halves outers gone grid m0 ts kinds lim keep turns lets keeps_loops same_places over_names inners fits sized bounded

      abbrev pub owner_at : ℕ → List ℕ
      owner_at = owner xs ls cuts rs others once halves outers gone grid m0 ts kinds lim keep turns lets keeps_loops same_places over_names inners fits sized bounded

      abbrev pub Plain : List ℕ → Form → Type 0
      Plain x f = HasPlain xs ls cuts rs others once halves outers gone grid m0 ts kinds lim keep turns lets keeps_loops same_places over_names inners fits sized bounded R refl k.grid heads
          few_heads short_heads shorts near (grid_spelled 0 k.grid) claim place x f

      abbrev pub RightHere : List ℕ → Form → Type 0
      RightHere y f = Right cuts others once rs grid (length (piece_counts rs ls)) head m0 es y f

      -- a loop of the nest that has no reduction variable's name is not parallel
      pub serial_at : (j : ℕ) (t : Turning) → slice_get ts j ≡ Some t → is_loop (kinds (m0 + j)) ≡ true → (y : List ℕ) → t.name ≡ y → ((e : Range) → In e ds → e.variable ≡ y → ⊥) →
          hits loop_name y (parallel_loops ls) ≡ 0
      serial_at j t at_j loop y name no_range = (let r = turn_at j t at_j loop in of (shape_of.part a sch l well legal small kept all groups n first line g p claims needs at there h lined
          placed alone_here laid split_alone keeps long b ds reduced distinct within ranged r.0 t r.1))
        where
          of : IsLoopTurn b rs ls ds ranged t ⊎ IsRangeTurn b rs ls ds ranged t → hits loop_name y (parallel_loops ls) ≡ 0
          of (inl (o, mo, serial, has, is)) =
              let own : o.name ≡ y = ap (λ (v : Turning). v.name) (sym is) ∙ name in
              subst (λ (z : List ℕ). hits loop_name z (parallel_loops ls) ≡ 0) own (serial_none o ls mo serial (single o.name))
          of (inr (d, m, is)) = absurd (no_range d m (ap (λ (v : Turning). v.name) (sym is) ∙ name))

      -- ---- each variable's form

      alone_made : (s : ℕ) → combined (number (pos 0)) (pos 1) (alone s) ≡ Some (alone s)
      alone_made s = refl

      pub has_plain : (x : List ℕ) → In x xs → (f : Form) → form_named q.known x ≡ Some f → Plain x f
      has_plain x m f e = of (found_all RightHere q.known x f q.right e)
        where
          of : RightHere x f → Plain x f
          of (inl (inl over)) =
              let r = group.grids a sch l well legal small kept all groups n first line g p claims needs at there h lined placed alone_here laid split_alone keeps long x f over in
              let less = r.2 in
              let least = q.low in
              let is = ap length shape.grid in
              let named_so : form_named grid x ≡ Some (counted_from (low x) r.0) = over ∙ ap (λ (u : Form). Some u) r.1 in
              let d = group.dim_grid a sch l well legal small kept all groups n first line g p claims needs at there h lined placed alone_here laid split_alone keeps long x r.0 named_so r.3 in
              plain_grid xs ls cuts rs others once halves outers gone grid m0 ts kinds lim keep turns lets keeps_loops same_places over_names inners fits sized bounded R refl k.grid heads
              few_heads short_heads shorts near (grid_spelled 0 k.grid) claim place x f over r.0 r.1 (omega (arith, less, least)) (omega (arith, less, is)) r.3 (near_named x (inl m)).0 d.0 d.1
          of (inl (inr (j, v, there_v, loop, name, is))) =
              let at_j = turning_at j v there_v in
              let looping = loop_at j v there_v loop in
              let o = turn_of xs ls cuts rs others once halves outers gone grid v.turning x m name (turns j v.turning at_j looping) in
              let none = serial_at j v.turning at_j looping x name (λ e me s. shape_of.range_apart a sch l well legal small kept all groups n first line g p claims needs at there h lined
              placed alone_here laid split_alone keeps long b ds reduced distinct within ranged e me x m s) in
              let d = group.dim_loop a sch l well legal small kept all groups n first line g p claims needs at there h lined placed alone_here laid split_alone keeps long x m none
              (o.loop, o.there, o.name ∙ name) in
              subst (Plain x) (sym is)
              (plain_loop xs ls cuts rs others once halves outers gone grid m0 ts kinds lim keep turns lets keeps_loops same_places over_names inners fits sized bounded R refl k.grid heads
              few_heads short_heads shorts near (grid_spelled 0 k.grid) claim place x m j v.turning at_j looping name d.0 d.1)
          of (inr u) = subst (λ (y : List ℕ). Plain y f) u.is (inner_of u.by_inner)
            where
              c : Split
              c = u.split

              fit : NumbersFit c.whole
              fit = fit_of c.whole (wholes c u.there)

              inner_of : Leaf cuts others once rs grid (length (piece_counts rs ls)) head m0 es c.inner u.inner → Plain c.whole f
              inner_of (inl over) = (let clash : Some u.inner ≡ None = sym over ∙ inners c u.there in absurd (cc clash))
              inner_of (inr (i, v, there_i, loop_i, name, inner_is)) = outer_of u.by_outer
                where
                  t : Turning
                  t = v.turning

                  at_i : slice_get ts i ≡ Some v.turning
                  at_i = turning_at i v there_i

                  looping : is_loop (kinds (m0 + i)) ≡ true
                  looping = loop_at i v there_i loop_i

                  sum_so : combined u.start (pos 1) (alone (m0 + i)) ≡ Some u.form
                  sum_so = ap (combined u.start (pos 1)) (sym inner_is) ∙ u.sum

                  -- a further upper form of the inner loop, over this symbol
                  limit_at : (s : ℕ) → u.outer ≡ counted_from (pos 0) s → (l : IsLimited cuts others once rs grid (length (piece_counts rs ls)) head m0 es u.split u.form f) →
                      ((o : Form) → (form_named grid c.outer ≡ Some o)
                      ⊎ ((p : ℕ) × (w : Entry) × (slice_get es p ≡ Some w) × (is_loop w.line ≡ true) × (w.turning.name ≡ c.outer) × (o ≡ alone (m0 + p)) × (p < i)) → o ≡ counted_from (pos 0) s) →
                      s < m0 + i → lim (m0 + i) ≡ left_over (last c.whole) (low c.whole) (pos c.factor) s ∷ []
                  limit_at s is l same before =
                      let place : l.place ≡ i = q.once_each l.place i l.entry v l.there there_i (l.name ∙ sym name) in
                      let limit : IsLimit cuts others once rs grid (length (piece_counts rs ls)) head m0 es i c l.limit =
                      subst (λ (p : ℕ). IsLimit cuts others once rs grid (length (piece_counts rs ls)) head m0 es p c l.limit) place l.is_limit in
                      let left = left_so c u.there i l.limit limit s (same limit.outer limit.by_outer) before in
                      ap (λ (p : ℕ). lim (m0 + p)) (sym place) ∙ limits_at l.place l.entry l.there ∙ l.limits ∙ ap (λ (g : Form). g ∷ []) left

                  outer_of : Leaf cuts others once rs grid (length (piece_counts rs ls)) head m0 es c.outer u.outer → Plain c.whole f
                  outer_of (inl over) = begun_of u.begun
                    where
                      r : (s : ℕ) × (u.outer ≡ counted_from (pos 0) s) × (s < length (piece_counts rs ls))
                      r = grid_symbol c u.there u.outer over

                      named_so : form_named grid c.outer ≡ Some (counted_from (pos 0) r.0)
                      named_so = over ∙ ap (λ (w : Form). Some w) r.1

                      below : r.0 < m0
                      below = (let less = r.2 in let least = q.low in omega (arith, less, least))

                      inside : r.0 < length k.grid
                      inside = (let less = r.2 in let is = ap length shape.grid in omega (arith, less, is))

                      differ : (r.0 == m0 + i) ≡ false
                      differ = (let less = below in grind (arith, nat_tests, less))

                      same_outer : (o : Form) → (form_named grid c.outer ≡ Some o)
                          ⊎ ((p : ℕ) × (w : Entry) × (slice_get es p ≡ Some w) × (is_loop w.line ≡ true) × (w.turning.name ≡ c.outer) × (o ≡ alone (m0 + p)) × (p < i)) → o ≡ counted_from (pos 0) r.0
                      same_outer o (inl k) = (let is : Some o ≡ Some u.outer = sym k ∙ over in let forms : o ≡ u.outer = cc is in forms ∙ r.1)
                      same_outer o (inr (p, w, there_p, loop_p, p_name, p_is, less)) =
                          absurd (not_grid p w.turning (turning_at p w there_p) (loop_at p w there_p loop_p) p_name)
                        where
                          not_grid : (p : ℕ) (w : Turning) → slice_get ts p ≡ Some w → is_loop (kinds (m0 + p)) ≡ true → w.name ≡ c.outer → ⊥
                          not_grid p w at_p loop_p p_name =
                              let own : form_named grid w.name ≡ None = elim (turns p w at_p loop_p) [ inl x ↦ x.own | inr x ↦ x.own ] in
                              let clash : Some u.outer ≡ None = sym over ∙ ap (form_named grid) (sym p_name) ∙ own in
                              cc clash

                      plain_here : is_shifted c ≡ false → u.start ≡ u.first → Plain c.whole f
                      plain_here plain_c start_so = kept_of u.kept
                        where
                          begins : combined (number (low c.whole)) (pos c.factor) (counted_from (pos 0) r.0) ≡ Some u.start
                          begins = ap (combined (number (low c.whole)) (pos c.factor)) (sym r.1) ∙ u.begins ∙ ap (λ (g : Form). Some g) (sym start_so)

                          made : (f' : Form) → f' ≡ u.form → (keeps_rest rs c ≡ true → lim (m0 + i) ≡ left_over (last c.whole) (low c.whole) (pos c.factor) r.0 ∷ []) → Plain c.whole f'
                          made f' is limit =
                              let form = pair_is (low c.whole) c.factor r.0 (fits c u.there).some (m0 + i) u.start u.form differ begins sum_so in
                              let d = group.dim_block a sch l well legal small kept all groups n first line g p claims needs at there h lined placed alone_here laid split_alone keeps long c
                              u.there plain_c r.0 named_so in
                              plain_block xs ls cuts rs others once halves outers gone grid m0 ts kinds lim keep turns lets keeps_loops same_places over_names inners fits sized bounded R refl
                              k.grid heads few_heads short_heads shorts near (grid_spelled 0 k.grid) claim place c u.there (wholes c u.there) fit.0 fit.1 i t at_i looping name plain_c r.0
                              inside below named_so f' (is ∙ form.0) form.1 limit d.0 d.1

                          kept_of : Kept cuts others once rs grid (length (piece_counts rs ls)) head m0 es u.split u.form f → Plain c.whole f
                          kept_of (inl (free, is)) = made f is (λ rests. absurd (not_both rests free))
                          kept_of (inr (inl l)) = made f l.is (λ rests. limit_at r.0 r.1 l same_outer (let less = below in omega (arith, less)))
                          kept_of (inr (inr p)) =
                              absurd (let own : form_named grid p.pair.outer.turning.name ≡ None = elim (turns p.pair.outer_at p.pair.outer.turning (turning_at p.pair.outer_at p.pair.outer
                              p.pair.outer_there)
                              (loop_at p.pair.outer_at p.pair.outer p.pair.outer_there p.pair.outer_loop)) [ inl x ↦ x.own | inr x ↦ x.own ] in
                              let clash : Some u.outer ≡ None = sym over ∙ ap (form_named grid) (sym p.pair.outer_name) ∙ own in cc clash)

                      -- the first number of a shifted block is a let over the grid
                      head_here : is_shifted c ≡ true → (j : ℕ) → slice_get k.head j ≡ Some (Named (length (piece_counts rs ls) + j) Min (u.first ∷ number (room (num c.whole) c.factor) ∷ [])) →
                          u.start ≡ alone (length (piece_counts rs ls) + j) → Plain c.whole f
                      head_here shifted j head_at start_is' = kept_of u.kept
                        where
                          first_so : u.first ≡ one_of (low c.whole) (pos c.factor) r.0
                          first_so = block_form c u.there r.0 u.first (ap (combined (number (low c.whole)) (pos c.factor)) (sym r.1) ∙ u.begins)

                          head_so : slice_get k.head j ≡ Some (Named (length (piece_counts rs ls) + j) Min (one_of (low c.whole) (pos c.factor) r.0 ∷ number (room (num c.whole) c.factor) ∷ []))
                          head_so = head_at ∙ ap (λ (q : Form). Some (Named (length (piece_counts rs ls) + j) Min (q ∷ number (room (num c.whole) c.factor) ∷ []))) first_so

                          start_there : form_named k.starts c.whole ≡ Some (alone (length (piece_counts rs ls) + j))
                          start_there = shape_of.head_start a sch l well legal small kept all groups n first line g p claims needs at there h lined placed alone_here laid split_alone keeps
                              long c u.there r.0 named_so j (room (num c.whole) c.factor) head_so

                          let_there : slice_get heads j ≡ Some (record { form = one_of (low c.whole) (pos c.factor) r.0; room = room (num c.whole) c.factor })
                          let_there = (shape_of.head_lets a sch l well legal small kept all groups n first line g p claims needs at there h lined placed alone_here laid split_alone keeps
                              long).there j (record { form = one_of (low c.whole) (pos c.factor) r.0; room = room (num c.whole) c.factor }) head_so

                          count_is : length (piece_counts rs ls) ≡ length k.grid
                          count_is = sym (ap length shape.grid)

                          symbol_near : length (piece_counts rs ls) + j < m0
                          symbol_near = (let inside_head = slice_less k.head j (Named (length (piece_counts rs ls) + j) Min (u.first ∷ number (room (num c.whole) c.factor) ∷ [])) head_at in
                              let least = q.low in
                              omega (arith, inside_head, least))
                            where
                              slice_less : (ss : List Step) (j : ℕ) (s : Step) → slice_get ss j ≡ Some s → j < length ss
                              slice_less [] j s e = absurd (cc e)
                              slice_less (y ∷ ss) zero s e = omega arith
                              slice_less (y ∷ ss) (suc j) s e = (let rest = slice_less ss j s e in omega (arith, rest))

                          apart : (length (piece_counts rs ls) + j == m0 + i) ≡ false
                          apart = (let less = symbol_near in grind (arith, nat_tests, less))

                          made : (f' : Form) → f' ≡ u.form → Plain c.whole f'
                          made f' is =
                              let begins = alone_made (length (piece_counts rs ls) + j) in
                              let form = pair_is (pos 0) 1 (length (piece_counts rs ls) + j) (omega arith) (m0 + i) u.start u.form apart (begins ∙ ap (λ (g : Form). Some g) (sym start_is')) sum_so in
                              let d = group.dim_head a sch l well legal small kept all groups n first line g p claims needs at there h lined placed alone_here laid split_alone keeps long c
                              u.there shifted r.0 named_so (alone (length (piece_counts rs ls) + j)) start_there in
                              plain_head xs ls cuts rs others once halves outers gone grid m0 ts kinds lim keep turns lets keeps_loops same_places over_names inners fits sized bounded R refl
                              k.grid heads few_heads short_heads shorts near (grid_spelled 0 k.grid) claim place c u.there (wholes c u.there) fit.0 fit.1 i t at_i looping name shifted r.0
                              inside below named_so (shape_of.counted_at a sch l well legal small kept all groups n first line g p claims needs at there h lined placed alone_here laid
                              split_alone keeps long c.outer r.0 named_so) j let_there f' (is ∙ form.0 ∙ ap (λ (s : ℕ). pair (pos 0) (s + j) (pos 1) (m0 + i)) count_is) d.0 (d.1 ∙ ap (λ
                              (s : ℕ). From (alone (s + j)) c.factor) count_is)

                          kept_of : Kept cuts others once rs grid (length (piece_counts rs ls)) head m0 es u.split u.form f → Plain c.whole f
                          kept_of (inl (free, is)) = made f is
                          kept_of (inr (inl l)) = absurd (not_both shifted (not_shifted rs c l.keeps))
                          kept_of (inr (inr l)) = absurd (not_both shifted (not_shifted rs c l.keeps))

                      begun_of : IsBegun cuts others once rs grid (length (piece_counts rs ls)) head m0 es u.split u.first u.start → Plain c.whole f
                      begun_of (inl (plain_c, start_so)) = plain_here plain_c start_so
                      begun_of (inr (shifted, s, inl (j, head_at, s_is), start_is')) = head_here shifted j head_at (start_is' ∙ ap alone s_is)
                      begun_of (inr (shifted, s, inr (b_at, let_there, s_is), start_is')) =
                          let block : Entry = record { turning = let_of rs u.split; line = Block u.first (room (num u.split.whole) u.split.factor); limits = [] } in
                          let r' = (lets b_at (let_of rs u.split) (turning_at b_at block let_there) (ap is_loop (line_at b_at block let_there))).0 in
                          let same : r'.split ≡ c = by_whole cuts others r'.split c r'.among u.there (sym r'.name) in
                          let own : form_named grid r'.outer.name ≡ None = elim (turns r'.outer_at r'.outer r'.outer_there r'.outer_loop) [ inl x ↦ x.own | inr x ↦ x.own ] in
                          let clash : Some u.outer ≡ None = sym over ∙ ap (λ (d : Split). form_named grid d.outer) (sym same) ∙ ap (form_named grid) (sym r'.outer_name) ∙ own in
                          absurd (cc clash)
                  outer_of (inr (o, w, there_o, loop_o, outer_name, outer_is)) = begun_of u.begun
                    where
                      at_o : slice_get ts o ≡ Some w.turning
                      at_o = turning_at o w there_o

                      turning_o : is_loop (kinds (m0 + o)) ≡ true
                      turning_o = loop_at o w there_o loop_o

                      none : hits loop_name c.outer (parallel_loops ls) ≡ 0
                      none = serial_at o w.turning at_o turning_o c.outer outer_name (λ e me s. shape_of.range_half a sch l well legal small kept all groups n first line g p claims needs at
                          there h lined placed alone_here laid split_alone keeps long b ds reduced distinct within ranged e me c u.there (inl s))

                      differ : (m0 + o == m0 + i) ≡ false
                      differ = by (m0 + o == m0 + i) refl
                        where
                          by : (e : Bool) → (m0 + o == m0 + i) ≡ e → (m0 + o == m0 + i) ≡ false
                          by false e = e
                          by true e =
                              let sums = eq_true (m0 + o) (m0 + i) e in
                              let place_so : o ≡ i = omega (arith, sums) in
                              let some : Some w ≡ Some v = sym there_o ∙ ap (slice_get es) place_so ∙ there_i in
                              let same_entry : w ≡ v = cc some in
                              absurd (inner_outer cuts others c c u.there u.there (sym name ∙ ap (λ (x : Entry). x.turning.name) (sym same_entry) ∙ outer_name))

                      first_so : combined (number (low c.whole)) (pos c.factor) (alone (m0 + o)) ≡ Some u.first
                      first_so = ap (combined (number (low c.whole)) (pos c.factor)) (sym outer_is) ∙ u.begins

                      same_outer : (g : Form) → (form_named grid c.outer ≡ Some g)
                          ⊎ ((p : ℕ) × (x : Entry) × (slice_get es p ≡ Some x) × (is_loop x.line ≡ true) × (x.turning.name ≡ c.outer) × (g ≡ alone (m0 + p)) × (p < i)) → (g ≡ alone (m0 + o)) × (o < i)
                      same_outer g (inl k) =
                          let own : form_named grid w.turning.name ≡ None = elim (turns o w.turning at_o turning_o) [ inl x ↦ x.own | inr x ↦ x.own ] in
                          let clash : Some g ≡ None = sym k ∙ ap (form_named grid) (sym outer_name) ∙ own in
                          absurd (cc clash)
                      same_outer g (inr (p, x, there_p, loop_p, p_name, p_is, less)) =
                          let place : p ≡ o = q.once_each p o x w there_p there_o (p_name ∙ sym outer_name) in
                          (p_is ∙ ap (λ (r : ℕ). alone (m0 + r)) place, omega (arith, place, less))

                      dims_here : (claim c.whole ≡ numbers (low c.whole) (end_of_all rs c (fits c u.there) (fit_of c.whole (wholes c u.there)).0 (fit_of c.whole (wholes c u.there)).1))
                          × (place c.whole ≡ From (number (low c.whole)) (all_of rs c (fits c u.there) (fit_of c.whole (wholes c u.there)).0 (fit_of c.whole (wholes c u.there)).1))
                      dims_here = group.dim_split a sch l well legal small kept all groups n first line g p claims needs at there h lined placed alone_here laid split_alone keeps long c u.there none

                      begun_of : IsBegun cuts others once rs grid (length (piece_counts rs ls)) head m0 es u.split u.first u.start → Plain c.whole f
                      begun_of (inl (plain_c, start_is')) = kept_of u.kept
                        where
                          form : (u.form ≡ pair (low c.whole) (m0 + o) (pos c.factor) (m0 + i)) × (is_within_limits (pair (low c.whole) (m0 + o) (pos c.factor) (m0 + i)) ≡ true)
                          form =
                              let r = pair_is (low c.whole) c.factor (m0 + o) (fits c u.there).some (m0 + i) u.start u.form differ (first_so ∙ ap (λ (g : Form). Some g) (sym start_is')) sum_so in
                              (r.0, r.1)

                          made : (f' : Form) → f' ≡ u.form → (keeps_rest rs c ≡ true → (o < i) × (lim (m0 + i) ≡ left_over (last c.whole) (low c.whole) (pos c.factor) (m0 + o) ∷ [])) →
                              Plain c.whole f'
                          made f' is limit =
                              plain_split xs ls cuts rs others once halves outers gone grid m0 ts kinds lim keep turns lets keeps_loops same_places over_names inners fits sized bounded R
                              refl k.grid heads few_heads short_heads shorts near (grid_spelled 0 k.grid) claim place c u.there (wholes c u.there) fit.0 fit.1 i t at_i looping name o w.turning
                              at_o turning_o outer_name plain_c f' (is ∙ form.0) form.1 limit dims_here.0 dims_here.1

                          kept_of : Kept cuts others once rs grid (length (piece_counts rs ls)) head m0 es u.split u.form f → Plain c.whole f
                          kept_of (inl (free, is)) = made f is (λ rests. absurd (not_both rests free))
                          kept_of (inr (inl l)) = made f l.is (λ rests. (let first = (before_it l).1 in (first, limit_at (m0 + o) outer_is l (λ g h. (same_outer g h).0) (omega (arith, first)))))
                            where
                              before_it : (l : IsLimited cuts others once rs grid (length (piece_counts rs ls)) head m0 es u.split u.form f) → (Form × (o < i))
                              before_it l =
                                  let place : l.place ≡ i = q.once_each l.place i l.entry v l.there there_i (l.name ∙ sym name) in
                                  let limit : IsLimit cuts others once rs grid (length (piece_counts rs ls)) head m0 es i c l.limit =
                                  subst (λ (p : ℕ). IsLimit cuts others once rs grid (length (piece_counts rs ls)) head m0 es p c l.limit) place l.is_limit in
                                  (limit.outer, (same_outer limit.outer limit.by_outer).1)
                          kept_of (inr (inr p)) =
                              let outer_place : p.pair.outer_at ≡ o = q.once_each p.pair.outer_at o p.pair.outer w p.pair.outer_there there_o (p.pair.outer_name ∙ sym outer_name) in
                              let inner_place : p.pair.inner_at ≡ i = q.once_each p.pair.inner_at i p.pair.inner v p.pair.inner_there there_i (p.pair.inner_name ∙ sym name) in
                              let less = p.pair.before in
                              subst (Plain c.whole) (sym p.is)
                              (plain_pair xs ls cuts rs others once halves outers gone grid m0 ts kinds lim keep turns lets keeps_loops same_places over_names inners fits sized bounded R
                              refl k.grid heads few_heads short_heads shorts near (grid_spelled 0 k.grid) claim place c u.there (wholes c u.there) fit.0 fit.1 i t at_i looping name o w.turning
                              at_o turning_o outer_name p.keeps (omega (arith, outer_place, inner_place, less)) (p.pair.outer_at + 1) (let_of rs u.split) (turning_at (p.pair.outer_at + 1) (record {
                                turning = let_of rs u.split;
                                line = Pair u.form (last_number (num u.split.whole));
                                limits = [];
                              }) p.there) refl (omega (arith, outer_place)) (line_at (p.pair.outer_at + 1) (record {
                                turning = let_of rs u.split;
                                line = Pair u.form (last_number (num u.split.whole));
                                limits = [];
                              }) p.there ∙ ap (λ (g : Form). Pair g (last c.whole)) form.0) form.1 dims_here.0 dims_here.1)
                      begun_of (inr (shifted, s, inl (j, head_at, s_is), start_is')) =
                          let r' = shape_of.head_there a sch l well legal small kept all groups n first line g p claims needs at there h lined placed alone_here laid split_alone keeps long
                          j (Named (length (piece_counts rs ls) + j) Min (u.first ∷ number (room (num c.whole) c.factor) ∷ [])) head_at in
                          let first_form = block_form c u.there (m0 + o) u.first first_so in
                          let symbols : m0 + o ≡ r'.symbol = ap (λ (f' : Form). shape_of.symbol_of a sch l well legal small kept all groups n first line g p claims needs at there h lined
                          placed alone_here laid split_alone keeps long f') (sym first_form) ∙ ap (λ (q : Step). shape_of.step_symbol a sch l well legal small kept all groups n first
                          line g p claims needs at there h lined placed alone_here laid split_alone keeps long q) r'.is in
                          let less = r'.less in
                          let least = q.low in
                          absurd (omega (arith, symbols, less, least))
                      begun_of (inr (shifted, s, inr (b_at, let_there, s_is), start_is')) = kept_of u.kept
                        where
                          block : Entry
                          block = record { turning = let_of rs u.split; line = Block u.first (room (num u.split.whole) u.split.factor); limits = [] }

                          let_so : is_loop (kinds (m0 + b_at)) ≡ false
                          let_so = ap is_loop (line_at b_at block let_there)

                          apart : (m0 + b_at == m0 + i) ≡ false
                          apart = by (m0 + b_at == m0 + i) refl
                            where
                              by : (e : Bool) → (m0 + b_at == m0 + i) ≡ e → (m0 + b_at == m0 + i) ≡ false
                              by false e = e
                              by true e = absurd (not_both (ap (λ (r : ℕ). is_loop (kinds r)) (eq_true (m0 + b_at) (m0 + i) e) ∙ looping) let_so)

                          outer_before : o < b_at
                          outer_before =
                              let r = (lets b_at (let_of rs u.split) (turning_at b_at block let_there) let_so).0 in
                              let same : r.split ≡ c = by_whole cuts others r.split c r.among u.there (sym r.name) in
                              let place : r.outer_at ≡ o = same_places r.outer_at o r.outer w.turning r.outer_there at_o (r.outer_name ∙ ap (λ (x : Split). x.outer) same ∙ sym outer_name) in
                              let less = r.behind in
                              omega (arith, place, less)

                          made : (f' : Form) → f' ≡ u.form → Plain c.whole f'
                          made f' is =
                              let begins = alone_made (m0 + b_at) in
                              let start_so : u.start ≡ alone (m0 + b_at) = start_is' ∙ ap alone s_is in
                              let form = pair_is (pos 0) 1 (m0 + b_at) (omega arith) (m0 + i) u.start u.form apart (begins ∙ ap (λ (g : Form). Some g) (sym start_so)) sum_so in
                              plain_shift xs ls cuts rs others once halves outers gone grid m0 ts kinds lim keep turns lets keeps_loops same_places over_names inners fits sized bounded R
                              refl k.grid heads few_heads short_heads shorts near (grid_spelled 0 k.grid) claim place c u.there (wholes c u.there) fit.0 fit.1 i t at_i looping name o w.turning
                              at_o turning_o outer_name shifted (group.enough a sch l well legal small kept all groups n first line g p claims needs at there h lined placed alone_here laid
                              split_alone keeps long c u.there shifted) b_at (let_of rs u.split) (turning_at b_at block let_there) let_so refl outer_before
                              (line_at b_at block let_there ∙ ap (λ (g : Form). Block g (room (num u.split.whole) u.split.factor)) (block_form c u.there (m0 + o) u.first first_so)) f' (is ∙
                              form.0) dims_here.0 dims_here.1

                          kept_of : Kept cuts others once rs grid (length (piece_counts rs ls)) head m0 es u.split u.form f → Plain c.whole f
                          kept_of (inl (free, is)) = made f is
                          kept_of (inr (inl l)) = absurd (not_both shifted (not_shifted rs c l.keeps))
                          kept_of (inr (inr l)) = absurd (not_both shifted (not_shifted rs c l.keeps))

      -- ---- the variables that the update keeps

      abbrev pub kept_names : List (List ℕ)
      kept_names = kept_from b 0 xs

      entered_all : AllByRecursion (λ t. Stands q.known t.name) us
      entered_all = all_slices (λ t. Stands q.known t.name) us (λ j t e. q.entered j t e)

      pub variable_index : (x : List ℕ) → In x kept_names → (j : ℕ) × (slice_get xs j ≡ Some x) × (is_missing b j ≡ false)
      variable_index x m = (let r = kept_index b 0 xs x m in let none : 0 + r.0 ≡ r.0 = omega arith in (r.0, r.1, ap (is_missing b) (sym none) ∙ r.2))

      pub same_index : (d j : ℕ) (x : List ℕ) → slice_get xs d ≡ Some x → slice_get xs j ≡ Some x → d ≡ j
      same_index d j x e f = distinct d j x (at_left xs (range_names ds) d x e) (at_left xs (range_names ds) j x f)

      pub not_missing : (o : NestLoop) (mo : In o ls) (x : List ℕ) → In x kept_names → (loop_leaf o mo).0 ≡ x → is_missing b o.dimension ≡ false
      not_missing o mo x m e =
          let v = variable_index x m in
          let at_o : slice_get xs o.dimension ≡ Some x = (loop_leaf o mo).1 ∙ ap (λ (y : List ℕ). Some y) e in
          ap (is_missing b) (same_index o.dimension v.0 x at_o v.1) ∙ v.2

      pub own_variable : (o : NestLoop) (mo : In o ls) (x : List ℕ) → In x xs → o.name ≡ x → (loop_leaf o mo).0 ≡ x
      own_variable o mo x mx e = elim (loop_leaf o mo).2 [
        | inl s ↦ s ∙ e
        | inr (c, mc, whole, inl s) ↦ absurd ((halves c mc x mx).0 (sym e ∙ s))
        | inr (c, mc, whole, inr s) ↦ absurd ((halves c mc x mx).1 (sym e ∙ s))
      ]

      pub half_variable : (o : NestLoop) (mo : In o ls) (c : Split) → In c cuts → (o.name ≡ c.outer) ⊎ (o.name ≡ c.inner) → (loop_leaf o mo).0 ≡ c.whole
      half_variable o mo c mc half = of (loop_leaf o mo).2 half
        where
          v : List ℕ
          v = (loop_leaf o mo).0

          mv : In v xs
          mv = at_in xs o.dimension v (loop_leaf o mo).1

          of : (v ≡ o.name) ⊎ ((d : Split) × In d cuts × (d.whole ≡ v) × ((o.name ≡ d.outer) ⊎ (o.name ≡ d.inner))) → (o.name ≡ c.outer) ⊎ (o.name ≡ c.inner) → v ≡ c.whole
          of (inl s) (inl r) = absurd ((halves c mc v mv).0 (s ∙ r))
          of (inl s) (inr r) = absurd ((halves c mc v mv).1 (s ∙ r))
          of (inr (d, md, whole, other)) r =
              sym whole ∙ sym (old.owner_half xs ls cuts rs others once halves outers gone d md o.name other) ∙ old.owner_half xs ls cuts rs others once halves outers gone c mc o.name r

      pub owner_is : (o : NestLoop) (mo : In o ls) → old.owner_named xs ls cuts rs others once halves outers gone o.name ≡ (loop_leaf o mo).0
      owner_is o mo = of (loop_leaf o mo).2
        where
          v : List ℕ
          v = (loop_leaf o mo).0

          of : (v ≡ o.name) ⊎ ((d : Split) × In d cuts × (d.whole ≡ v) × ((o.name ≡ d.outer) ⊎ (o.name ≡ d.inner))) → old.owner_named xs ls cuts rs others once halves outers gone o.name ≡ v
          of (inl s) =
              ap (old.owner_named xs ls cuts rs others once halves outers gone) (sym s)
              ∙ old.owner_self xs ls cuts rs others once halves outers gone v (at_in xs o.dimension v (loop_leaf o mo).1)
          of (inr (d, md, whole, other)) = old.owner_half xs ls cuts rs others once halves outers gone d md o.name other ∙ whole

      pub loop_stands : (o : NestLoop) → In o ls → is_missing b o.dimension ≡ false → Stands q.known o.name
      loop_stands o m has = of (is_parallel o) refl
        where
          of : (v : Bool) → is_parallel o ≡ v → Stands q.known o.name
          of true e = (let r = grid_some rs o.name 0 (parallel_loops ls) (parallel_some o ls m e) in q.over o.name (counted_from (low o.name) r.0, r.1))
          of false e = all_in (λ t. Stands q.known t.name) us (loop_turning rs o) entered_all (loop_there b rs ls ds ranged o m e has)

      pub stands_kept : (x : List ℕ) → In x kept_names → Stands q.known x
      stands_kept x m = of (all_in (IsHeld ls cuts) xs x (owners.arranged g h.extents k laid).variables mx)
        where
          mx : In x xs
          mx = kept_among b 0 xs x m

          of : IsHeld ls cuts x → Stands q.known x
          of (inl (o, mo, name)) = subst (Stands q.known) name (loop_stands o mo (not_missing o mo x m (own_variable o mo x mx name)))
          of (inr (c, mc, is)) =
              let halves_there = loops_held cuts once ls cuts (λ d r. r) (owners.arranged g h.extents k laid).held c mc in
              let among : In c (cuts_by_variable cuts kept_names) = in_all_cuts c cuts kept_names mc (subst (λ (y : List ℕ). In y kept_names) (sym is) m) in
              let one = halves_there.0 in
              let two = halves_there.1 in
              subst (Stands q.known) is
              (all_in (λ d. Stands q.known d.outer → Stands q.known d.inner → Stands q.known d.whole) (cuts_by_variable cuts kept_names) c q.closed among
              (subst (Stands q.known) one.2 (loop_stands one.0 one.1 (not_missing one.0 one.1 x m (half_variable one.0 one.1 c mc (inl one.2) ∙ is))))
              (subst (Stands q.known) two.2 (loop_stands two.0 two.1 (not_missing two.0 two.1 x m (half_variable two.0 two.1 c mc (inr two.2) ∙ is)))))

      pub record FoundHere (x : List ℕ) : Type 0 where
        pub form : Form
        pub is : form_named q.known x ≡ Some form
        pub plain : Plain x form

      pub found_kept : (x : List ℕ) → In x kept_names → FoundHere x
      found_kept x m = (let s = stands_kept x m in record { form = s.0; is = s.1; plain = has_plain x (kept_among b 0 xs x m) s.0 s.1 })

      abbrev pub sums : (ys : List (List ℕ)) → ((x : List ℕ) → In x ys → In x kept_names) → AreSums factor_at m0 ts owner_at kinds lim tops_at keep ys
      sums [] sub = tt
      sums (y ∷ ys) sub = ((found_kept y (sub y (inl refl))).plain.sum, sums ys (λ x m. sub x (inr m)))

      pub claimed_all : (ys : List (List ℕ)) (sub : (x : List ℕ) → In x ys → In x kept_names) →
          Each factor_at m0 ts owner_at kinds lim tops_at keep (IsClaimed factor_at m0 ts owner_at kinds lim tops_at keep R around claim) ys (sums ys sub)
      claimed_all [] sub = tt
      claimed_all (y ∷ ys) sub = ((found_kept y (sub y (inl refl))).plain.claimed, claimed_all ys (λ x m. sub x (inr m)))

      abbrev pub forms_of : (ys : List (List ℕ)) → ((x : List ℕ) → In x ys → In x kept_names) → List Form
      forms_of ys sub = sum_forms factor_at m0 ts owner_at kinds lim tops_at keep ys (sums ys sub)

      -- the left coordinates that are forms
      pub reads : (ms : Loads) (d : ℕ) (ys : List (List ℕ)) (sub : (x : List ℕ) → In x (kept_from b d ys) → In x kept_names) (tail : List (Option Form)) (names : List (List ℕ))
          (lefts : List (Option Term)) (cs : List Coordinate) → AreCoordinates ms names (variables_at b d ys q.known ++ tail) lefts cs →
          (forms_in (take (length ys) cs) ≡ forms_of (kept_from b d ys) sub) × (at_forms (take (length ys) cs) (map claim ys) ≡ map claim (kept_from b d ys))
      reads ms d [] sub tail names lefts cs are = (refl, refl)
      reads ms d (y ∷ ys) sub tail [] lefts cs are = absurd are
      reads ms d (y ∷ ys) sub tail (z ∷ names) lefts [] are = absurd are
      reads ms d (y ∷ ys) sub tail (z ∷ names) lefts (c ∷ cs) are =
          of (is_missing b d) sub are.1 (λ sub'. reads ms (d + 1) ys sub' tail names (other_lefts lefts) cs are.2)
        where
          others_kept : List (List ℕ)
          others_kept = kept_from b (d + 1) ys

          of : (t : Bool) (sub : (x : List ℕ) → In x (if t then kept_from b (d + 1) ys else y ∷ kept_from b (d + 1) ys) → In x kept_names) →
              IsIndex ms (if t then None else form_named q.known y) (first_left lefts) c.index →
              ((sub' : (x : List ℕ) → In x (kept_from b (d + 1) ys) → In x kept_names) →
              (forms_in (take (length ys) cs) ≡ forms_of (kept_from b (d + 1) ys) sub') × (at_forms (take (length ys) cs) (map claim ys) ≡ map claim (kept_from b (d + 1) ys))) →
              (forms_in (c ∷ take (length ys) cs) ≡ forms_of (if t then kept_from b (d + 1) ys else y ∷ kept_from b (d + 1) ys) sub)
              × (at_forms (c ∷ take (length ys) cs) (claim y ∷ map claim ys) ≡ map claim (if t then kept_from b (d + 1) ys else y ∷ kept_from b (d + 1) ys))
          of true sub index rest =
              let r = rest sub in
              let none = none_index ms (first_left lefts) c.index index in
              let no_form : is_form c ≡ false = ap has_form none.1 in (
                ap (λ (v : Bool). if v then form_of c ∷ forms_in (take (length ys) cs) else forms_in (take (length ys) cs)) no_form ∙ r.0,
                ap (λ (v : Bool). if v then claim y ∷ at_forms (take (length ys) cs) (map claim ys) else at_forms (take (length ys) cs) (map claim ys)) no_form ∙ r.1,
              )
          of false sub index rest =
              let f = found_kept y (sub y (inl refl)) in
              let r = rest (λ x m. sub x (inr m)) in
              let index_is : c.index ≡ At f.form = index_at ms (form_named q.known y) (first_left lefts) c.index f.form f.is index in
              let yes : is_form c ≡ true = ap has_form index_is in
              let here : form_of c ≡ begin_of (course factor_at m0 ts owner_at kinds lim tops_at keep y f.plain.sum) = ap index_form index_is ∙ sym f.plain.is in
              let more = r.0 in (
                ap (λ (v : Bool). if v then form_of c ∷ forms_in (take (length ys) cs) else forms_in (take (length ys) cs)) yes ∙ (λ j. here j ∷ more j),
                ap (λ (v : Bool). if v then claim y ∷ at_forms (take (length ys) cs) (map claim ys) else at_forms (take (length ys) cs) (map claim ys)) yes
                    ∙ ap (λ (ss : List Span1). claim y ∷ ss) r.1,
              )

      -- ---- the coordinates of the reduction variables

      -- each name is that of one entry
      pub turns_alone : (y : List ℕ) → hits turn_name y ts ≤ 1
      turns_alone y = of ts same_places
        where
          none_at : (vs : List Turning) (y : List ℕ) → ((j : ℕ) (t : Turning) → slice_get vs j ≡ Some t → t.name ≡ y → ⊥) → hits turn_name y vs ≡ 0
          none_at [] y none = refl
          none_at (v ∷ vs) y none = by (same_name v.name y) refl (none_at vs y (λ j t e. none (suc j) t e))
            where
              by : (r : Bool) → same_name v.name y ≡ r → hits turn_name y vs ≡ 0 → one_if r + hits turn_name y vs ≡ 0
              by true s rest = absurd (none 0 v refl (name_true v.name y s))
              by false s rest = omega (arith, rest)

          of : (vs : List Turning) → ((i j : ℕ) (t u : Turning) → slice_get vs i ≡ Some t → slice_get vs j ≡ Some u → t.name ≡ u.name → i ≡ j) → hits turn_name y vs ≤ 1
          of [] alike = omega arith
          of (v ∷ vs) alike = by (same_name v.name y) refl (of vs (λ i j t u e f s. let next = alike (suc i) (suc j) t u e f s in omega (arith, next)))
            where
              by : (r : Bool) → same_name v.name y ≡ r → hits turn_name y vs ≤ 1 → one_if r + hits turn_name y vs ≤ 1
              by true s rest =
                  let none = none_at vs y (λ j t e k. let clash = alike 0 (suc j) v t refl e (name_true v.name y s ∙ sym k) in omega (arith, clash)) in
                  omega (arith, none)
              by false s rest = omega (arith, rest)

      pub range_known : (e : Range) → In e ds → (j : ℕ) × (found_at ts e.variable ≡ Some j) × (form_named q.known e.variable ≡ Some (alone (m0 + j)))
      range_known e m =
          let s : Stands q.known e.variable = all_in (λ t. Stands q.known t.name) us (range_turning e) entered_all (range_there b rs ls ds ranged e m) in
          of s.0 s.1 (found_all RightHere q.known e.variable s.0 q.right s.1)
        where
          of : (f : Form) → form_named q.known e.variable ≡ Some f → RightHere e.variable f →
              (j : ℕ) × (found_at ts e.variable ≡ Some j) × (form_named q.known e.variable ≡ Some (alone (m0 + j)))
          of f is (inl (inl over)) = (let clash : Some f ≡ None = sym over ∙ shape_of.range_own a sch l well legal small kept all groups n first line g p claims needs at there h lined
              placed alone_here laid split_alone keeps long b ds reduced distinct within ranged e m in absurd (cc clash))
          of f is (inl (inr (j, v, at_j, loop, name, alone_is))) =
              let t_at = turning_at j v at_j in
              let some : 1 ≤ hits turn_name e.variable ts = subst (λ (y : List ℕ). 1 ≤ hits turn_name y ts) name (hits_some turn_name v.turning ts (at_in ts j v.turning t_at)) in
              let r = found_some ts e.variable some in
              let place = found_there ts e.variable r.0 j v.turning (turns_alone e.variable) r.1 t_at (ap (λ (y : List ℕ). same_name y e.variable) name ∙ name_refl e.variable) in
              (j, r.1 ∙ ap (λ (o : ℕ). Some o) place, is ∙ ap (λ (u : Form). Some u) alone_is)
          of f is (inr u) = absurd (shape_of.range_apart a sch l well legal small kept all groups n first line g p claims needs at there h lined placed alone_here laid split_alone keeps
              long b ds reduced distinct within ranged e m u.split.whole (wholes u.split u.there) (sym u.is))

      pub reads_over : (ms : Loads) (more : List Range) → ((e : Range) → In e more → In e ds) → (names : List (List ℕ)) (lefts : List (Option Term)) (cs : List Coordinate) →
          AreCoordinates ms names (ranges_at (map range_turning more) q.known) lefts cs → ReadsIf m0 ts cs (map range_name more)
      reads_over ms [] sub names lefts [] are = tt
      reads_over ms [] sub names lefts (c ∷ cs) are = absurd are
      reads_over ms (e ∷ more) sub [] lefts cs are = absurd are
      reads_over ms (e ∷ more) sub (y ∷ names) lefts [] are = absurd are
      reads_over ms (e ∷ more) sub (y ∷ names) lefts (c ∷ cs) are =
          let r = range_known e (sub e (inl refl)) in (
            (r.0, r.1, index_at ms (form_named q.known e.variable) (first_left lefts) c.index (alone (m0 + r.0)) r.2 are.1),
            reads_over ms more (λ d m. sub d (inr m)) names (other_lefts lefts) cs are.2,
          )

      pub near_forty : (j : ℕ) (t : Turning) → slice_get ts j ≡ Some t → (unsigned_abs t.low ≤ 2 ^ 40) × (unsigned_abs t.last ≤ 2 ^ 40)
      near_forty j t e = (let r = near j t e in let one = r.0 in let two = r.1 in (omega (arith, one), omega (arith, two)))

      -- a loop of the nest that is no reduction's is of one of the variables that are kept, and so is a let
      pub loops_once : ((j : ℕ) (t : Turning) → slice_get ts j ≡ Some t → is_loop (kinds (m0 + j)) ≡ true → (i : ℕ) → IsRangeTurn b rs ls ds ranged t → keep (m0 + j) ≡ false) → (j : ℕ) (t : Turning) →
          slice_get ts j ≡ Some t → keep (m0 + j) ≡ true → is_loop (kinds (m0 + j)) ≡ true → hits itself (owner_at j) kept_names ≡ 1
      loops_once out j t at_j in_nest loop = (let r = turn_at j t at_j loop in of (shape_of.part a sch l well legal small kept all groups n first line g p claims needs at there h lined
          placed alone_here laid split_alone keeps long b ds reduced distinct within ranged r.0 t r.1))
        where
          of : IsLoopTurn b rs ls ds ranged t ⊎ IsRangeTurn b rs ls ds ranged t → hits itself (owner_at j) kept_names ≡ 1
          of (inr r) = absurd (not_both in_nest (out j t at_j loop 0 r))
          of (inl (o, mo, serial, has, is)) =
              let v = loop_leaf o mo in
              let owner_so : owner_at j ≡ v.0 =
              owner_there xs ls cuts rs others once halves outers gone grid m0 ts kinds lim keep turns lets keeps_loops same_places over_names inners fits sized bounded j t at_j ∙ ap (λ (u
              : Turning). old.owner_named xs ls cuts rs others once halves outers gone u.name) is ∙ owner_is o mo in
              ap (λ (y : List ℕ). hits itself y kept_names) owner_so ∙ kept_once b xs o.dimension v.0 v.1 has (group.names_apart a sch l well legal small kept all groups n first line g p
              claims needs at there h lined placed alone_here laid split_alone keeps long v.0)

      pub lets_once : (j : ℕ) (t : Turning) → slice_get ts j ≡ Some t → is_loop (kinds (m0 + j)) ≡ false → hits itself t.name kept_names ≡ 1
      lets_once j t at_j e =
          let r = (lets j t at_j e).0 in
          let u = turn_at r.outer_at r.outer r.outer_there r.outer_loop in
          of r (shape_of.part a sch l well legal small kept all groups n first line g p claims needs at there h lined placed alone_here laid split_alone keeps long b ds reduced
          distinct within ranged u.0 r.outer u.1)
        where
          of : (r : IsLetOf xs ls cuts rs others once halves outers gone m0 ts kinds j t) → IsLoopTurn b rs ls ds ranged r.outer ⊎ IsRangeTurn b rs ls ds ranged r.outer → hits itself t.name
              kept_names ≡ 1
          of r (inr (d', m, is)) =
              absurd (shape_of.range_half a sch l well legal small kept all groups n first line g p claims needs at there h lined placed alone_here laid split_alone keeps long b ds
              reduced distinct within ranged d' m r.split r.among (inl (ap (λ (v : Turning). v.name) (sym is) ∙ r.outer_name)))
          of r (inl (o, mo, serial, has, is)) =
              let v = loop_leaf o mo in
              let whole : v.0 ≡ r.split.whole = half_variable o mo r.split r.among (inl (ap (λ (u : Turning). u.name) (sym is) ∙ r.outer_name)) in
              ap (λ (y : List ℕ). hits itself y kept_names) (r.name ∙ sym whole) ∙ kept_once b xs o.dimension v.0 v.1 has (group.names_apart a sch l well legal small kept all groups n first
              line g p claims needs at there h lined placed alone_here laid split_alone keeps long v.0)

      pub fit_lines : ((j : ℕ) (t : Turning) → slice_get ts j ≡ Some t → is_loop (kinds (m0 + j)) ≡ true → (i : ℕ) → IsRangeTurn b rs ls ds ranged t → keep (m0 + j) ≡ false) →
          LinesFit factor_at m0 ts owner_at kinds lim tops_at keep kept_names
      fit_lines out = lines_fit xs ls cuts rs others once halves outers gone grid m0 ts kinds lim keep turns lets keeps_loops same_places over_names inners fits sized bounded kept_names
          (loops_once out) lets_once near_forty

      pub low_lines : AreLow factor_at m0 ts owner_at kinds lim tops_at keep
      low_lines = are_low xs ls cuts rs others once halves outers gone grid m0 ts kinds lim keep turns lets keeps_loops same_places over_names inners fits sized bounded

      -- the first entry is a loop
      pub first_loop : (d' : ℕ) (cs : List Coordinate) (e : Term) → LoopFirst kinds lim d' cs e m0 ts
      first_loop d' cs e0 = of ts refl
        where
          of : (vs : List Turning) → ts ≡ vs → LoopFirst kinds lim d' cs e0 m0 vs
          of [] e = tt
          of (v ∷ vs) e = by (is_loop (kinds (m0 + 0))) refl
            where
              at_0 : slice_get ts 0 ≡ Some v
              at_0 = ap (λ (vs : List Turning). slice_get vs 0) e

              here : m0 + 0 ≡ m0
              here = omega arith

              by : (r : Bool) → is_loop (kinds (m0 + 0)) ≡ r → kinds m0 ≡ Loop
              by true l = ap kinds (sym here) ∙ only (kinds (m0 + 0)) l
                where
                  only : (l : Line) → is_loop l ≡ true → l ≡ Loop
                  only Loop q = refl
                  only (Block f z) q = absurd (cc q)
                  only (Pair f z) q = absurd (cc q)
              by false l = (let r = (lets 0 v at_0 l).0 in let less = r.behind in absurd (omega (arith, less)))

      pub steps_so : w.steps ≡ steps_of kinds lim m0 ts
      steps_so = q.steps ∙ steps_are kinds lim m0 es (λ j e at_j. (line_at j e at_j, limits_at j e at_j))
