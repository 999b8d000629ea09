-- The names, numbers and dimensions of functions whose loops are split once, with any tail, in any order, and their skeletons.
use Rattle.std.proofs.Common.{◌≡◌, ℕ, zero, suc, ◌+◌, ◌*◌, ◌<◌, ◌≤◌, ◌^◌, Bool, true, false, ◌||◌, List, [], ◌∷◌, ◌++◌, length, map}
use Rattle.std.proofs.Common.{Option, Some, None, refl, sym, ap, ◌∙◌, subst, inl, inr, ◌⊎◌, arith}
use Rattle.std.specs.Prelude.{ℤ, pos, ◌+ℤ◌, ◌-ℤ◌, ◌*ℤ◌, if◌then◌else◌, slice_get}
use Rattle.std.specs.List.{AllByRecursion}
use Rattle.std.specs.Int.RustNames.{unsigned_abs}
use Rattle.std.proofs.lemmas.Int.{ints}
use Rattle.std.proofs.Math.Nat.{mul-suc}
use Rattle.bounds.specs.Spans.{numbers}
use Rattle.lin.specs.Forms.{Form, number}
use Rattle.lin.specs.declared.span.Span1.{Span1}
use Rattle.plan.specs.declared.plan.Group.{Group as CodeGroup}
use Rattle.plan.specs.declared.stmt.Places.{Places}
use Rattle.plan.specs.declared.stmt.Places.TheVariants.{From}
use Rattle.plan.specs.declared.certificate.cert.Claim.{Claim as CodeClaim}
use Rattle.plan.specs.declared.certificate.cert.Need.{Need}
use Rattle.plan.specs.Plan.{Statement, Alloc, Publish, Then, Plan, block}
use Rattle.plan.specs.View.{group_of, plan_of, statement_of}
use Rattle.plan.specs.Lines.{lines, body_line}
use Rattle.plan.specs.Semantics.Setting.{allocated, dimensions_in}
use Rattle.plan.specs.Certificate.Certificate.{Certificate, certificate_of}
use Rattle.meaning.specs.Algorithm.{Algorithm}
use Rattle.meaning.specs.Conditions.{IsAlgorithm}
use Rattle.meaning.specs.Names.{same_name}
use Rattle.soundness.specs.Claims.{In}
use Rattle.soundness.specs.Origins.{Outline}
use Rattle.soundness.specs.Given.{outline_of}
use Rattle.soundness.specs.Obligations.{exactly}
use Rattle.soundness.proofs.Refines.{name_refl, name_true}
use Rattle.headline.proofs.Regions.{at_in}
use Rattle.sched.specs.Schedule.{Schedule}
use Rattle.sched.specs.Legal.{IsLegal}
use Rattle.sched.specs.declared.schedule.Split.{Split}
use Rattle.sched.specs.declared.placing.Loop.{Loop}
use Rattle.sched.specs.declared.numbers.Extent.{Extent}
use Rattle.sched.specs.declared.numbers.Numbers.{Numbers}
use Rattle.sched.specs.declared.skeleton.Known.{Known}
use Rattle.sched.specs.declared.nest.Turning.{Turning}
use Rattle.sched.specs.Numbers.{numbers_named, last_number, loop_numbers, parallel_loops, piece_counts}
use Rattle.sched.specs.Placing.{is_parallel, has_loop}
use Rattle.sched.specs.Standing.{form_named, counted_from}
use Rattle.sched.specs.Skeleton.{BodyText, NestText, SkeletonText, nest_turns, grid_forms}
use Rattle.lower.specs.declared.lowering.Lowered.{Lowered}
use Rattle.sched.specs.Stored.{FormulaText, StoredText}
use Rattle.blocks.specs.Stored.{flags}
use Rattle.lower.specs.Stored.{stored_functions, has_large}
use Rattle.regions.specs.Faults.{are_whole}
use Rattle.lower.specs.Faults.{region_fault}
use Rattle.sched.specs.Regions.{count_of}
use Rattle.regions.specs.Regions.{bodies_from}
use Rattle.lower.specs.Owning.{IsExtent, IsLaidBy}
use Rattle.blocks.specs.Blocks.{LayText, Whole, Run, sum, multiple_from, is_parallel_named, alone_by, uncut, joined, lay_over, dimension_by, dimension_of}
use Rattle.sched.specs.Blocks.{difference}
use Rattle.blocks.specs.Blocks.{part_of, places_from, dimensions_of, claimed_region, own_places, BlockText, blocks_by}
use Rattle.lower.specs.Bodies.{last_claim}
use Rattle.sched.specs.Fetches.{Entry}
use Rattle.blocks.specs.Fetches.{with_fetches}
use Rattle.lower.specs.Groups.{HasBody, HasGroups}
use Rattle.lower.proofs.Blocking.{IsSmall, CutFits}
use Rattle.lower.proofs.Covering.{NumbersAre}
use Rattle.lower.proofs.Dividing.{nearest, nearest_of_small}
use Rattle.lower.proofs.Directed.{IsLeaf, AreMade}
use Rattle.lower.proofs.Grids.{parallel_named}
use Rattle.lower.proofs.Owners as owners
use Rattle.completeness.specs.Laws.{AreSplitOnce}
use Rattle.completeness.specs.Parted.{KeepsInner}
use Rattle.completeness.specs.Blocked.{is_tailed}
use Rattle.completeness.proofs.Standing.{names_own}
use Rattle.completeness.proofs.Laid.{subjects, found}
use Rattle.completeness.proofs.Halves.{AreOthers, IsNamed, named}
use Rattle.completeness.proofs.Lanes.{AreOnce}
use Rattle.completeness.proofs.VectorLines.{split_once}
use Rattle.completeness.proofs.Served.{roots}
use Rattle.completeness.proofs.Spots.{lets_allot}
use Rattle.completeness.proofs.Origins.{places_long}
use Rattle.completeness.proofs.PlainNests.{grid_named}
use Rattle.completeness.proofs.NestWalk.{LetsFirst}
use Rattle.completeness.proofs.PlainTurns.{hits, hits_once, itself, turn_name, one_if, hits_some}
use Rattle.completeness.proofs.PureNests.{all_in, loop_name, hits_named, all_slices}
use Rattle.completeness.proofs.UpdateTurns.{hits_fewer}
use Rattle.completeness.proofs.GridTurns.{grid_none, OverGrid, NotOverGrid, either_name}
use Rattle.completeness.proofs.Searched.{one_of}
use Rattle.completeness.proofs.BlockFacts.{halves_new, outers_apart, wholes_are, end_leaf, parallel_found, serial_none, inners_serial}
use Rattle.completeness.proofs.BlockNames.{LeafOf}
use Rattle.completeness.proofs.BlockDims.{top, part_uncut, end_uncut, claim_uncut, cut_once}
use Rattle.completeness.proofs.TailDims.{shift_places, end_of_all, all_of, kept_cap, counted, outer_low, outer_last, inner_low, inner_last, few_numbers, end_is, claim_is as block_claim_is}
use Rattle.completeness.proofs.TailDims.{block_claim}
use Rattle.completeness.proofs.TailDims.{shift_places, block_places}
use Rattle.completeness.proofs.TailSteps.{Line, Loop as LoopLine, Block as BlockLine, Pair as PairLine, is_loop}
use Rattle.completeness.proofs.TailTurns.{Entry as TailEntry, entry_steps, is_shifted, keeps_rest, IsPair, IsBlock, IsEntry}
use Rattle.completeness.proofs.TailSkeletons.{AreNamed, IsTailNest, AreTails, skeleton_tails}
use Rattle.completeness.proofs.BlockRanges.{IsLoopTurn, IsRangeTurn, parts, turns_once}
use Rattle.completeness.proofs.BlockLoops.{in_names, in_all, names_apart as range_names_apart}
use Rattle.completeness.proofs.BlockFacts.{made_new, among_end, names_in}
use Rattle.completeness.proofs.Defined.{body_missing, HasMissing}
use Rattle.completeness.proofs.UpdateTurns.{known_update, ranges_turned}
use Rattle.completeness.proofs.PlainTurns.{hits_append, found_some, found_there}
use Rattle.completeness.proofs.Halves.{IsInner, lanes_inner}
use Rattle.completeness.proofs.Laid.{none_twice}
use Rattle.soundness.proofs.Refines.{name_refl, name_true}
use Rattle.meaning.specs.Algorithm.{Range}
use Rattle.meaning.specs.Conditions.{AreDistinct, IsRange}
use Rattle.meaning.specs.Names.{is_among}
use Rattle.sched.specs.Skeleton.{range_turning, kind_of}
use Rattle.sched.specs.Subjects.{reductions_of}
use Rattle.sched.specs.Placing.{is_vectorized}
use Rattle.sched.specs.declared.placing.Mark.{Mark}
use Rattle.sched.specs.declared.placing.Mark.TheVariants as mark
use Rattle.plan.specs.declared.stmt.Kind.TheVariants.{Vector}
use Rattle.sched.specs.Around.{range_names, ranges_of}
use Rattle.std.proofs.Common.{append-nil, zero, suc}

-- ---- groups

module _ (a : Algorithm) (sch : Schedule) (l : Lowered) (well : IsAlgorithm a) (legal : IsLegal a sch) (small : has_large (stored_functions a sch) ≡ false)
    (kept : region_fault a (stored_functions a sch) ≡ None) (all : are_whole (stored_functions a sch) ≡ true) (groups : HasGroups a (stored_functions a sch) l) where
  abbrev entries : List Entry
  entries = roots a sch l well legal small kept all groups

  abbrev stored : List StoredText
  stored = stored_functions a sch

  abbrev made_groups : List CodeGroup
  made_groups = l.plan.groups.items

  abbrev items : List CodeClaim
  items = l.certificate.claims.items

  abbrev plan : Plan
  plan = plan_of l.plan

  abbrev cert : Certificate
  cert = certificate_of l.certificate

  module _ (n first line : ℕ) (g : StoredText) (p : CodeGroup) (claims : List CodeClaim) (needs : List Need) (at : slice_get stored n ≡ Some g) (there : slice_get made_groups n ≡ Some p)
      (h : HasBody a entries n first line g p claims needs) (lined : body_line plan n ≡ line + 1)
      (placed : (j : ℕ) (v : CodeClaim) → slice_get claims j ≡ Some v → slice_get items (first + j) ≡ Some v)
      (alone_here : (j : ℕ) (w : CodeClaim) → slice_get items j ≡ Some w → line < w.line → w.line < line + (lines (statement_of p.body) + 1) → In w claims)
      (laid : IsLaidBy g h.extents h.skeleton) (split_alone : AreSplitOnce g.placed.cuts) (keeps : KeepsInner g.placed.loops g.placed.cuts) where
    abbrev k : SkeletonText
    k = h.skeleton

    abbrev fs : List FormulaText
    fs = h.formulas

    abbrev xs : List (List ℕ)
    xs = g.subject.variables

    abbrev ls : List Loop
    ls = g.placed.loops

    abbrev cuts : List Split
    cuts = g.placed.cuts

    abbrev rs : List Numbers
    rs = loop_numbers g.subject.variables g.placed.cuts h.extents

    abbrev bs : List BodyText
    bs = bodies_from g.changes 0 g.subject.reductions fs

    abbrev O : Outline
    O = outline_of plan cert n (group_of p)

    abbrev places : List Places
    places = own_places (dimensions_of g h.extents k)

    abbrev region : List Span1
    region = claimed_region (dimensions_of g h.extents k)

    abbrev low : List ℕ → ℤ
    low x = (numbers_named rs x).low

    abbrev last : List ℕ → ℤ
    last x = last_number (numbers_named rs x)

    abbrev num : List ℕ → Numbers
    num x = numbers_named rs x

    abbrev count : List ℕ → ℕ
    count x = (num x).count

    abbrev lay : LayText
    lay = lay_over g h.extents k

    abbrev grid : List Known
    grid = grid_forms rs 0 (parallel_loops ls)

    abbrev claim : List ℕ → Span1
    claim x = (dimension_of lay cuts x).claim

    abbrev place : List ℕ → Places
    place x = (dimension_of lay cuts x).places

    -- ---- loops and splits

    pub is_named : IsNamed g.placed
    is_named = named g.subject laid.directives g.placed laid.placed

    abbrev pub others : AreOthers cuts
    others = is_named.apart

    abbrev pub once : AreOnce cuts
    once = split_once cuts split_alone

    pub made_so : AreMade xs (xs ++ g.subject.reductions) cuts
    made_so = (owners.directed g h.extents k laid).made

    abbrev pub halves : (c : Split) → In c cuts → (x : List ℕ) → In x xs → (x ≡ c.outer → ⊥) × (x ≡ c.inner → ⊥)
    halves c m x q = halves_new cuts xs g.subject.reductions made_so c m x q

    abbrev pub outers : (c d : Split) → In c cuts → In d cuts → c.outer ≡ d.outer → c ≡ d
    outers c d m q e = outers_apart cuts xs (xs ++ g.subject.reductions) made_so c d m q e

    abbrev pub gone : (c : Split) → In c cuts → (o : Loop) → In o ls → c.whole ≡ o.name → ⊥
    gone c m o q = all_in (λ o. c.whole ≡ o.name → ⊥) ls o (all_in (λ c. AllByRecursion (λ o. c.whole ≡ o.name → ⊥) ls) cuts c (owners.arranged g h.extents k laid).gone m) q

    pub wholes : (c : Split) → In c cuts → In c.whole xs
    wholes c m = wholes_are cuts once xs (xs ++ g.subject.reductions) made_so c m

    abbrev pub fits : (c : Split) → In c cuts → CutFits rs c
    fits c m = all_in (CutFits rs) cuts c (owners.cuts g h.extents k laid) m

    pub single : (y : List ℕ) → hits loop_name y ls ≤ 1
    single y =
        let one = hits_named y ls in
        let two = hits_once (map loop_name ls) y (owners.directed g h.extents k laid).single in
        omega (arith, one, two)

    pub single_over : (y : List ℕ) → hits loop_name y (parallel_loops ls) ≤ 1
    single_over y = (let one = single y in let two = hits_fewer is_parallel y ls in omega (arith, one, two))

    abbrev pub inners : (c : Split) → In c cuts → form_named grid c.inner ≡ None
    inners c m = grid_none rs c.inner 0 (parallel_loops ls) (inners_serial ls cuts keeps c m)

    pub leaf_of : (o : Loop) → In o ls → LeafOf xs ls cuts rs others once halves outers gone o.name
    leaf_of o m =
        let leaf : IsLeaf xs cuts o = all_in (IsLeaf xs cuts) ls o (owners.directed g h.extents k laid).leaves m in
        end_leaf cuts once xs cuts (λ d q. q) leaf.variable o.name (at_in xs o.dimension leaf.variable leaf.of) leaf.end

    -- ---- numbers

    abbrev NumbersFit : List ℕ → Type 0
    NumbersFit x = IsSmall (num x) × (0 < (num x).count)

    numbers_fit : AllByRecursion NumbersFit xs
    numbers_fit = of xs h.extents (owners.numbers g h.extents k laid) laid.extents
      where
        of : (ys : List (List ℕ)) (es : List Extent) → NumbersAre rs ys es → AllByRecursion IsExtent es → AllByRecursion NumbersFit ys
        of [] es q r = tt
        of (y ∷ ys) [] q r = absurd q
        of (y ∷ ys) (e ∷ es) q r = (
          subst (λ (z : Numbers). IsSmall z × (0 < z.count)) (sym q.0) (record { from = r.0.from; to = r.0.to; few = r.0.few }, r.0.some),
          of ys es q.1 r.1,
        )

    pub fit_of : (x : List ℕ) → In x xs → NumbersFit x
    fit_of x m = all_in NumbersFit xs x numbers_fit m

    -- the numbers of each loop are near
    pub near_named : (y : List ℕ) → LeafOf xs ls cuts rs others once halves outers gone y → (unsigned_abs (low y) ≤ 2 ^ 36) × (unsigned_abs (last y) ≤ 2 ^ 36)
    near_named y (inl m) =
        let fit = fit_of y m in
        let from = fit.0.from in
        let to = fit.0.to in
        let few_numbers_here = fit.0.few in
        let some = fit.1 in
        (omega (arith, ints, from, to), omega (arith, ints, from, to, few_numbers_here, some))
    near_named y (inr (c, m, inl e)) =
        let fit = fit_of c.whole (wholes c m) in
        let begins = ap low e ∙ outer_low rs c (fits c m) fit.0 fit.1 in
        let ends = ap last e ∙ outer_last rs c (fits c m) fit.0 fit.1 in
        let few_here = few_numbers rs c (fits c m) fit.0 fit.1 in
        let wide = (fits c m).some in
        let most = at_most_times (top (count c.whole) c.factor) c.factor wide in
        (omega (arith, ints, begins), omega (arith, ints, ends, few_here, most))
      where
        at_most_times : (b d : ℕ) → 0 < d → b ≤ b * d
        at_most_times b zero some = absurd (omega (arith, some))
        at_most_times b (suc d) some = (let is = mul-suc b d in omega (arith, is))
    near_named y (inr (c, m, inr e)) =
        let fit = fit_of c.whole (wholes c m) in
        let begins = ap low e ∙ inner_low rs c (fits c m) fit.0 fit.1 in
        let ends = ap last e ∙ inner_last rs c (fits c m) fit.0 fit.1 in
        let wide = (fits c m).few in
        let some = (fits c m).some in
        (omega (arith, ints, begins), omega (arith, ints, ends, wide, some))

    pub dims : O.setting.dimensions 0 ≡ length xs
    dims =
        let lets = (names_own xs bs g.placed h.extents k h.laid).lets in
        ap (λ (s : Statement). dimensions_in (allocated s 0)) h.body.with.is
        ∙ ap dimensions_in (lets_allot k.head (Then (Alloc 0 g.subject.name places) (block (with_fetches h.body.fetches (h.body.nests ++ Publish (last_claim first h.body.fetches k) ∷ [])))) 0 lets)
        ∙ places_long lay cuts xs

    -- ---- what names stand for over the grid

    pub grids : (y : List ℕ) (f : Form) → form_named grid y ≡ Some f →
        (s : ℕ) × (f ≡ counted_from (low y) s) × (s < length (piece_counts rs ls)) × ((o : Loop) × In o ls × (o.name ≡ y))
    grids y f e = of (hits loop_name y (parallel_loops ls)) refl (either_name rs ls y)
      where
        of : (m : ℕ) → hits loop_name y (parallel_loops ls) ≡ m → OverGrid rs ls y ⊎ NotOverGrid rs ls y →
            (s : ℕ) × (f ≡ counted_from (low y) s) × (s < length (piece_counts rs ls)) × ((o : Loop) × In o ls × (o.name ≡ y))
        of zero q w = (let clash : Some f ≡ None = sym e ∙ grid_none rs y 0 (parallel_loops ls) q in absurd (cc clash))
        of (suc m) q (inr w) = (let clash : Some f ≡ None = sym e ∙ w.named in absurd (cc clash))
        of (suc m) q (inl w) = (w.symbol, cc (sym e ∙ w.named), w.low, parallel_found y ls (omega (arith, q)))

    pub outers_there : (c : Split) → In c cuts → (f : Form) → form_named grid c.outer ≡ Some f → (s : ℕ) × (f ≡ counted_from (pos 0) s) × (s < length (piece_counts rs ls))
    outers_there c m f e =
        let r = grids c.outer f e in
        let fit = fit_of c.whole (wholes c m) in
        let zero_low : low c.outer ≡ pos 0 = outer_low rs c (fits c m) fit.0 fit.1 in
        (r.0, r.1 ∙ ap (λ (z : ℤ). counted_from z r.0) zero_low, r.2)

    -- ---- the loops of nests

    module _ (d : ℕ) (b : BodyText) (body_at : slice_get bs d ≡ Some b) where
      abbrev pub ranges : List Range
      ranges = ranges_of g.changes d

      pub formula_here : HasMissing g.changes 0 fs d b
      formula_here = body_missing g.changes 0 g.subject.reductions fs d b body_at

      reductions_are : g.subject.reductions ≡ reductions_of g.changes
      reductions_are =
          let v = found a sch (flags (subjects a sch)) g a.functions n at in
          ap (λ (y : StoredText). y.subject.reductions) v.is ∙ sym (ap (λ (y : StoredText). reductions_of y.changes) v.is)

      pub ranges_are : b.ranges ≡ map range_turning ranges
      ranges_are = ranges_turned g.changes fs d b (ap (λ (names : List (List ℕ)). slice_get (bodies_from g.changes 0 names fs) d) (sym reductions_are) ∙ body_at)

      ranged_at : (j : ℕ) (u : FormulaText) → slice_get fs j ≡ Some u → AreDistinct (xs ++ range_names (ranges_of g.changes j)) × AllByRecursion IsRange (ranges_of g.changes j)
      ranged_at zero u e =
          let fn = found a sch (flags (subjects a sch)) g a.functions n at in (
            subst (λ (u : StoredText). AreDistinct (u.subject.variables ++ [])) (sym fn.is)
                (subst AreDistinct (sym (append-nil fn.function.variables)) (well.functions fn.place fn.function fn.at).names),
            tt,
          )
      ranged_at (suc i) u e =
          let v = known_update a sch well n g at fs h.defined i u e in
          (subst (λ (ds : List Range). AreDistinct (xs ++ range_names ds)) (sym v.ranges) v.names, subst (AllByRecursion IsRange) (sym v.ranges) v.within)

      pub distinct_here : AreDistinct (xs ++ range_names ranges)
      distinct_here = (ranged_at d formula_here.formula formula_here.at).0

      pub within_here : AllByRecursion IsRange ranges
      within_here = (ranged_at d formula_here.formula formula_here.at).1

      -- no reduction variable has the name of another loop
      pub reduction_apart : (x y : List ℕ) → In x (range_names ranges) → LeafOf xs ls cuts rs others once halves outers gone y → x ≡ y → ⊥
      reduction_apart x y m (inl q) e = range_names_apart xs (range_names ranges) distinct_here y x q m e
      reduction_apart x y m (inr (c, q, half)) e =
          let among : is_among g.subject.reductions x ≡ true =
          ap (λ (names : List (List ℕ)). is_among names x) reductions_are ∙ names_in (reductions_of g.changes) x (in_all g.changes d x m) in
          let new = made_new cuts xs (xs ++ g.subject.reductions) made_so x (among_end xs g.subject.reductions x among) c q in
          elim half [ inl o ↦ new.0 (e ∙ o) | inr i ↦ new.1 (e ∙ i) ]

      -- each is a loop of the function that is not parallel, or a reduction variable's
      pub part_of_turn : (j : ℕ) (t : Turning) → slice_get (nest_turns b rs ls) j ≡ Some t → IsLoopTurn b rs ls ranges ranges_are t ⊎ IsRangeTurn b rs ls ranges ranges_are t
      part_of_turn j t e = parts b rs ls ranges ranges_are j t e

      -- of one that has the name of a loop or of a half
      pub leaf_turn : (j : ℕ) (t : Turning) → slice_get (nest_turns b rs ls) j ≡ Some t → (y : List ℕ) → t.name ≡ y → LeafOf xs ls cuts rs others once halves outers gone y →
          (t.low ≡ low y) × (t.last ≡ last y) × ((o : Loop) × In o ls × (o.name ≡ y)) × (hits loop_name y (parallel_loops ls) ≡ 0)
      leaf_turn j t e y name leaf = elim (part_of_turn j t e) [
        | inl (o, m, serial, has, is) ↦
            (let named_so : o.name ≡ y = ap (λ (z : Turning). z.name) (sym is) ∙ name in (
              ap (λ (z : Turning). z.low) is ∙ ap low named_so,
              ap (λ (z : Turning). z.last) is ∙ ap (λ (z : List ℕ). last_number (numbers_named rs z)) named_so,
              (o, m, named_so),
              subst (λ (z : List ℕ). hits loop_name z (parallel_loops ls) ≡ 0) named_so (serial_none o ls m serial (single o.name)),
            ))
        | inr (r, m, is) ↦ absurd (reduction_apart r.variable y (in_names ranges r m) leaf (ap (λ (z : Turning). z.name) (sym is) ∙ name))
      ]

      -- no two have one name
      away : (y : List ℕ) → 1 ≤ hits itself y (range_names ranges) → hits loop_name y ls ≡ 0
      away y some = of (hits loop_name y ls) refl
        where
          there_in : (zs : List (List ℕ)) → 1 ≤ hits itself y zs → In y zs
          there_in [] q = absurd (omega (arith, q))
          there_in (z ∷ zs) q = by (same_name z y) refl q (λ r. there_in zs r)
            where
              by : (v : Bool) → same_name z y ≡ v → 1 ≤ one_if v + hits itself y zs → (1 ≤ hits itself y zs → In y zs) → In y (z ∷ zs)
              by true e r rest = inl (sym (name_true z y e))
              by false e r rest = inr (rest (omega (arith, r)))

          loop_in : (os : List Loop) → 1 ≤ hits loop_name y os → (o : Loop) × In o os × (o.name ≡ y)
          loop_in [] q = absurd (omega (arith, q))
          loop_in (o ∷ os) q = by (same_name o.name y) refl q (λ r. loop_in os r)
            where
              by : (v : Bool) → same_name o.name y ≡ v → 1 ≤ one_if v + hits loop_name y os → (1 ≤ hits loop_name y os → (p : Loop) × In p os × (p.name ≡ y)) → (p : Loop) × In p (o ∷ os) ×
                  (p.name ≡ y)
              by true e r rest = (o, inl refl, name_true o.name y e)
              by false e r rest = (let found_one = rest (omega (arith, r)) in (found_one.0, inr found_one.1, found_one.2))

          of : (m : ℕ) → hits loop_name y ls ≡ m → hits loop_name y ls ≡ 0
          of zero e = e
          of (suc m) e =
              let o = loop_in ls (omega (arith, e)) in
              absurd (reduction_apart y o.0.name (there_in (range_names ranges) some) (leaf_of o.0 o.1) (sym o.2))

      range_single : (y : List ℕ) → hits itself y (range_names ranges) ≤ 1
      range_single y =
          let all_once = hits_once (xs ++ range_names ranges) y (none_twice (xs ++ range_names ranges) distinct_here) in
          let sum = hits_append itself y xs (range_names ranges) in
          omega (arith, all_once, sum)

      pub unique_here : (i j : ℕ) (t u : Turning) → slice_get (nest_turns b rs ls) i ≡ Some t → slice_get (nest_turns b rs ls) j ≡ Some u → t.name ≡ u.name → i ≡ j
      unique_here i j t u at_t at_u e =
          let ts = nest_turns b rs ls in
          let once_each = turns_once b rs ls ranges ranges_are single range_single away in
          let r = found_some ts t.name (hits_some turn_name t ts (at_in ts i t at_t)) in
          let one = found_there ts t.name r.0 i t (once_each t.name) r.1 at_t (name_refl t.name) in
          let two = found_there ts t.name r.0 j u (once_each t.name) r.1 at_u (ap (λ (y : List ℕ). same_name y t.name) (sym e) ∙ name_refl t.name) in
          sym one ∙ two

      pub named_here : AreNamed cuts grid (nest_turns b rs ls)
      named_here = record {
        unique = unique_here;
        apart = λ j t e c m name. elim (part_of_turn j t e) [
          | inl (o, q, serial, has, is) ↦ gone c m o q (sym name ∙ ap (λ (z : Turning). z.name) is)
          | inr (r, q, is) ↦ reduction_apart r.variable c.whole (in_names ranges r q) (inl (wholes c m)) (ap (λ (z : Turning). z.name) (sym is) ∙ name)
        ];
        off_grid = λ j t e. elim (part_of_turn j t e) [
          | inl (o, q, serial, has, is) ↦
              (ap (λ (z : Turning). form_named grid z.name) is ∙ grid_none rs o.name 0 (parallel_loops ls) (serial_none o ls q serial (single o.name)))
          | inr (r, q, is) ↦
              (ap (λ (z : Turning). form_named grid z.name) is ∙ no_grid_range r q (form_named grid r.variable) refl)
        ];
        lanes = λ j t e vector. elim (part_of_turn j t e) [
          | inl (o, q, serial, has, is) ↦
              (subst (λ (z : List ℕ). IsInner cuts z) (ap (λ (z : Turning). z.name) (sym is)) (lanes_inner g.placed is_named o q (vector_loop o (ap (λ (z : Turning). z.kind) (sym is) ∙ vector))))
          | inr (r, q, is) ↦ absurd (cc (sym (ap (λ (z : Turning). z.kind) is) ∙ vector))
        ];
      }
        where
          no_grid_range : (r : Range) → In r ranges → (o : Option Form) → form_named grid r.variable ≡ o → form_named grid r.variable ≡ None
          no_grid_range r q None e = e
          no_grid_range r q (Some f) e =
              let o = (grids r.variable f e).3 in
              absurd (reduction_apart r.variable o.0.name (in_names ranges r q) (leaf_of o.0 o.1) (sym o.2))

          vector_loop : (o : Loop) → kind_of o.mark ≡ Vector → is_vectorized o ≡ true
          vector_loop o e = of o.mark e
            where
              of : (m : Option Mark) → kind_of m ≡ Vector → (elim m [ Some mark.Vectorized ↦ true | _ ↦ false ]) ≡ true
              of (Some mark.Vectorized) q = refl
              of (Some mark.Unrolled) q = absurd (cc q)
              of (Some mark.Parallel) q = absurd (cc q)
              of None q = absurd (cc q)

    pub shape : AreTails xs bs g.placed others once rs k
    shape = skeleton_tails xs bs g.placed h.extents k others once single_over inners (λ c m. (fits c m).some) outers outers_there named_here h.laid

    -- each nest begins with a loop
    pub bare_nests : AllByRecursion (λ w. LetsFirst (λ i pick fs. ⊥) w.steps) k.nests
    bare_nests = all_slices (λ w. LetsFirst (λ i pick fs. ⊥) w.steps) k.nests (λ d w e. (let u = shape.nests d w e in subst (LetsFirst (λ i pick fs. ⊥)) (sym u.steps) (bare_entries d w e)))
      where
        bare_entries : (d : ℕ) (w : NestText) (e : slice_get k.nests d ≡ Some w) → LetsFirst (λ i pick fs. ⊥) (entry_steps (shape.nests d w e).next (shape.nests d w e).entries)
        bare_entries d w e = of (shape.nests d w e).entries (λ x q. (shape.nests d w e).each 0 x q)
          where
            u : IsTailNest xs bs g.placed others once rs grid (length (piece_counts rs ls)) k.head d w
            u = shape.nests d w e

            line_bare : (l : Line) (t : Turning) (fs : List Form) (rest : List TailEntry) → is_loop l ≡ true → LetsFirst (λ i pick fs. ⊥) (entry_steps u.next (record {
              turning = t;
              line =
                  l;
              limits = fs;
            } ∷ rest))
            line_bare LoopLine t fs rest q = tt
            line_bare (BlockLine f z) t fs rest q = absurd (cc q)
            line_bare (PairLine f z) t fs rest q = absurd (cc q)

            of : (es : List TailEntry) → ((x : TailEntry) → slice_get es 0 ≡ Some x → IsEntry cuts others once rs grid (length (piece_counts rs ls)) k.head u.next u.entries (nest_turns
                u.body rs ls) 0 x) →
                LetsFirst (λ i pick fs. ⊥) (entry_steps u.next es)
            of [] f = tt
            of (x ∷ es) f = by (f x refl)
              where
                by : IsEntry cuts others once rs grid (length (piece_counts rs ls)) k.head u.next u.entries (nest_turns u.body rs ls) 0 x → LetsFirst (λ i pick fs. ⊥) (entry_steps u.next (x ∷ es))
                by (inl t) = line_bare x.line x.turning x.limits es t.loop
                by (inr l) = kind l.kind
                  where
                    kind : IsBlock cuts others once rs grid (length (piece_counts rs ls)) k.head u.next u.entries (nest_turns u.body rs ls) 0 x l.split
                        ⊎ ((keeps_rest rs l.split ≡ true) × (form : Form) × (p : IsPair cuts others once rs grid (length (piece_counts rs ls)) k.head u.next u.entries l.split form)
                        × (0 ≡ p.outer_at + 1) × (x.line ≡ PairLine form (last_number (numbers_named rs l.split.whole)))) → LetsFirst (λ i pick fs. ⊥) (entry_steps u.next (x ∷ es))
                    kind (inl b) = (let place = b.behind in absurd (omega (arith, place)))
                    kind (inr q) = (let place = q.3 in absurd (omega (arith, place)))

    is_over : (x : List ℕ) (f : Form) → form_named grid x ≡ Some f → is_parallel_named lay x ≡ true
    is_over x f e = parallel_named ls x ∙ grid_named rs x 0 (parallel_loops ls) f e

    known_same : (x : List ℕ) → form_named k.known x ≡ form_named grid x
    known_same x = ap (λ (ks : List Known). form_named ks x) shape.known

    uncut_grid : (x : List ℕ) (f : Form) → form_named grid x ≡ Some f → uncut lay x ≡ alone_by (Some f)
    uncut_grid x f e =
        let parallel = is_over x f e in
        let named_so = known_same x ∙ e in
        λ j. if parallel j then alone_by (named_so j) else Whole

    -- of a loop that is not parallel, all numbers or none
    uncut_serial : (x : List ℕ) → hits loop_name x (parallel_loops ls) ≡ 0 → uncut lay x ≡ Whole
    uncut_serial x none = ap (λ (b : Bool). if b then alone_by (form_named k.known x) else Whole) (parallel_named ls x ∙ no_loop (parallel_loops ls) none)
      where
        no_loop : (ms : List Loop) → hits loop_name x ms ≡ 0 → has_loop ms x ≡ false
        no_loop [] q = refl
        no_loop (o ∷ ms) q = of (same_name o.name x) q (λ r. no_loop ms r)
          where
            of : (b : Bool) → one_if b + hits loop_name x ms ≡ 0 → (hits loop_name x ms ≡ 0 → has_loop ms x ≡ false) → (b || has_loop ms x) ≡ false
            of true r rest = absurd (omega (arith, r))
            of false r rest = rest (omega (arith, r))

    -- ---- dimensions

    not_split : (x : List ℕ) → ((o : Loop) × In o ls × (o.name ≡ x)) → (d : Split) → In d cuts → d.whole ≡ x → ⊥
    not_split x o d m e = gone d m o.0 o.1 (e ∙ sym o.2)

    pub dim_grid : (x : List ℕ) (s : ℕ) → form_named grid x ≡ Some (counted_from (low x) s) → ((o : Loop) × In o ls × (o.name ≡ x)) →
        (claim x ≡ exactly (counted_from (low x) s)) × (place x ≡ From (counted_from (low x) s) 1)
    dim_grid x s e o =
        let f : Form = counted_from (low x) s in
        let is : part_of lay x cuts ≡ alone_by (Some f) = part_uncut lay cuts x (not_split x o) ∙ uncut_grid x f e in
        let none : difference (pos 1) (pos 1) ≡ pos 0 = nearest_of_small (pos 1 -ℤ pos 1) (omega (arith, ints)) (omega (arith, ints)) in
        let same_low : pos 0 +ℤ pos 1 *ℤ low x ≡ low x = omega (arith, ints) in
        let up : multiple_from (difference (pos 1) (pos 1)) (pos 1) f ≡ f = ap (λ (z : ℤ). multiple_from z (pos 1) f) none ∙ (λ j. counted_from (same_low j) s) in
        (ap (λ (q : _). (dimension_by lay x cuts q).claim) is ∙ (λ j. record { lower = f ∷ []; upper = up j ∷ [] }), ap (λ (q : _). (dimension_by lay x cuts q).places) is)

    pub dim_loop : (x : List ℕ) → In x xs → hits loop_name x (parallel_loops ls) ≡ 0 → ((o : Loop) × In o ls × (o.name ≡ x)) →
        (claim x ≡ numbers (low x) (last x)) × (place x ≡ From (number (low x)) (count x))
    dim_loop x m none o =
        let is : part_of lay x cuts ≡ Whole = part_uncut lay cuts x (not_split x o) ∙ uncut_serial x none in
        let ends = claim_uncut lay cuts x (not_split x o) in
        let end = end_uncut lay cuts x (not_split x o) in
        let fit = fit_of x m in (
          ap (λ (q : _). (dimension_by lay x cuts q).claim) is ∙ ap (λ (z : ℤ). numbers (low x) z) ends,
          ap (λ (q : _). (dimension_by lay x cuts q).places) is ∙ ap (λ (z : ℤ). places_from (number (low x)) (sum (difference z (low x)) (pos 1))) end
              ∙ ap (λ (w : ℤ). From (number (low x)) (count_of w)) (as_many (low x) (count x) fit.0.few fit.1),
        )
      where
        as_many : (z : ℤ) (c : ℕ) → c < 4294967296 → 0 < c → sum (difference (z +ℤ pos c -ℤ pos 1) z) (pos 1) ≡ pos c
        as_many z c few some =
            let y : ℤ = z +ℤ pos c -ℤ pos 1 -ℤ z in
            let one : nearest y ≡ y = nearest_of_small y (omega (arith, ints, some)) (omega (arith, ints, few)) in
            ap (λ (w : ℤ). nearest (w +ℤ pos 1)) one ∙ ap nearest (back z c) ∙ nearest_of_small (pos c) (omega (arith, ints)) (omega (arith, ints, few))
          where
            back : (z : ℤ) (c : ℕ) → ((z +ℤ pos c -ℤ pos 1 -ℤ z) +ℤ pos 1) ≡ pos c
            back z c = omega (arith, ints)

    -- of a split loop whose outer loop is parallel: a block
    pub dim_block : (c : Split) (m : In c cuts) (s : ℕ) → form_named grid c.outer ≡ Some (counted_from (pos 0) s) → is_shifted c ≡ false →
        (claim c.whole ≡ record {
          lower = one_of (low c.whole) (pos c.factor) s ∷ [];
          upper = one_of ((pos c.factor -ℤ pos 1) +ℤ low c.whole) (pos c.factor) s
              ∷ kept_cap rs c (fits c m) (fit_of c.whole (wholes c m)).0 (fit_of c.whole (wholes c m)).1;
        })
        × (place c.whole ≡ From (one_of (low c.whole) (pos c.factor) s) c.factor)
    dim_block c m s e plain =
        let fit = fit_of c.whole (wholes c m) in
        let o = cut_once lay cuts others once c m in
        let outer = uncut_grid c.outer (counted_from (pos 0) s) e in
        let inner = uncut_serial c.inner (inners_serial ls cuts keeps c m) in
        let is : part_of lay c.whole cuts ≡ Run (block_text c m s o.rest) = o.part ∙ (λ j. joined lay c o.rest (outer j) (inner j)) in (
          ap (λ (q : _). (dimension_by lay c.whole cuts q).claim) is ∙ block_claim rs c (fits c m) fit.0 fit.1 plain lay refl s o.rest o.inner_end,
          ap (λ (q : _). (dimension_by lay c.whole cuts q).places) is ∙ block_places rs c (fits c m) fit.0 fit.1 plain lay refl s o.rest o.inner_end c.whole cuts,
        )
      where
        block_text : (c : Split) → In c cuts → ℕ → List Split → BlockText
        block_text c m s rest =
            blocks_by lay c rest (record { start = counted_from (pos 0) s; length = pos 1; own_limits = []; claim_limits = []; origin = Some (counted_from (pos 0) s); reach = pos 1 }) (num c.whole)

    -- of such a one with `shift`: a block that begins where its let says
    pub dim_shift : (c : Split) (m : In c cuts) (s : ℕ) → form_named grid c.outer ≡ Some (counted_from (pos 0) s) → is_shifted c ≡ true → (f : Form) → form_named k.starts c.whole ≡ Some f →
        place c.whole ≡ From f c.factor
    dim_shift c m s e shifted f start =
        let fit = fit_of c.whole (wholes c m) in
        let o = cut_once lay cuts others once c m in
        let outer = uncut_grid c.outer (counted_from (pos 0) s) e in
        let inner = uncut_serial c.inner (inners_serial ls cuts keeps c m) in
        let is : part_of lay c.whole cuts ≡ Run (block_text c m s o.rest) = o.part ∙ (λ j. joined lay c o.rest (outer j) (inner j)) in
        ap (λ (q : _). (dimension_by lay c.whole cuts q).places) is ∙ shift_places rs c (fits c m) fit.0 fit.1 shifted lay refl s o.rest o.inner_end f start c.whole cuts
      where
        block_text : (c : Split) → In c cuts → ℕ → List Split → BlockText
        block_text c m s rest =
            blocks_by lay c rest (record { start = counted_from (pos 0) s; length = pos 1; own_limits = []; claim_limits = []; origin = Some (counted_from (pos 0) s); reach = pos 1 }) (num c.whole)

    -- of one whose loops are both in the nest: all numbers
    pub dim_split : (c : Split) (m : In c cuts) → hits loop_name c.outer (parallel_loops ls) ≡ 0 →
        (claim c.whole ≡ numbers (low c.whole) (end_of_all rs c (fits c m) (fit_of c.whole (wholes c m)).0 (fit_of c.whole (wholes c m)).1))
        × (place c.whole ≡ From (number (low c.whole)) (all_of rs c (fits c m) (fit_of c.whole (wholes c m)).0 (fit_of c.whole (wholes c m)).1))
    dim_split c m none =
        let fit = fit_of c.whole (wholes c m) in
        let o = cut_once lay cuts others once c m in
        let outer = uncut_serial c.outer none in
        let inner = uncut_serial c.inner (inners_serial ls cuts keeps c m) in
        let is : part_of lay c.whole cuts ≡ Whole = o.part ∙ (λ j. joined lay c o.rest (outer j) (inner j)) in
        let ends = o.claim ∙ block_claim_is rs c (fits c m) fit.0 fit.1 in
        let end = o.end ∙ end_is rs c (fits c m) fit.0 fit.1 in
        let counts = counted rs c (fits c m) fit.0 fit.1 in (
          ap (λ (q : _). (dimension_by lay c.whole cuts q).claim) is ∙ ap (λ (z : ℤ). numbers (low c.whole) z) ends,
          ap (λ (q : _). (dimension_by lay c.whole cuts q).places) is ∙ ap (λ (z : ℤ). places_from (number (low c.whole)) (sum (difference z (low c.whole)) (pos 1))) (end ∙ sym counts)
              ∙ ap (λ (w : ℤ). From (number (low c.whole)) (count_of w))
              (as_many (low c.whole) (all_of rs c (fits c m) fit.0 fit.1) (few_of c m (is_tailed rs c)) (some_of c m (is_tailed rs c))),
        )
      where
        few_of : (c : Split) (m : In c cuts) (b : Bool) → (if b then (num c.whole).count else top (count c.whole) c.factor * c.factor + c.factor) ≤ 2 ^ 33
        few_of c m true = (let few = (fit_of c.whole (wholes c m)).0.few in omega (arith, few))
        few_of c m false =
            let fit = fit_of c.whole (wholes c m) in
            let few = few_numbers rs c (fits c m) fit.0 fit.1 in
            let wide = (fits c m).few in
            omega (arith, few, wide)

        some_of : (c : Split) (m : In c cuts) (b : Bool) → 0 < (if b then (num c.whole).count else top (count c.whole) c.factor * c.factor + c.factor)
        some_of c m true = (fit_of c.whole (wholes c m)).1
        some_of c m false = (let some = (fits c m).some in omega (arith, some))

        as_many : (z : ℤ) (p : ℕ) → p ≤ 2 ^ 33 → 0 < p → sum (difference ((pos p -ℤ pos 1) +ℤ z) z) (pos 1) ≡ pos p
        as_many z p few some =
            let y : ℤ = (pos p -ℤ pos 1) +ℤ z -ℤ z in
            let one : nearest y ≡ y = nearest_of_small y (omega (arith, ints, some)) (omega (arith, ints, few)) in
            ap (λ (w : ℤ). nearest (w +ℤ pos 1)) one ∙ ap nearest (back z p) ∙ nearest_of_small (pos p) (omega (arith, ints)) (omega (arith, ints, few))
          where
            back : (z : ℤ) (p : ℕ) → (((pos p -ℤ pos 1) +ℤ z -ℤ z) +ℤ pos 1) ≡ pos p
            back z p = omega (arith, ints)

    pub own_places_are : places ≡ map place xs
    own_places_are = of xs
      where
        of : (ys : List (List ℕ)) → own_places (map (dimension_of lay cuts) ys) ≡ map place ys
        of [] = refl
        of (y ∷ ys) = ap (λ (ps : List Places). place y ∷ ps) (of ys)

    pub own_claim_is : region ≡ map claim xs
    own_claim_is = of xs
      where
        of : (ys : List (List ℕ)) → claimed_region (map (dimension_of lay cuts) ys) ≡ map claim ys
        of [] = refl
        of (y ∷ ys) = ap (λ (ps : List Span1). claim y ∷ ps) (of ys)
