-- What is so of a group whose function's loops are split once: its loops, its splits, and what belongs to a piece of each dimension.
use Rattle.std.proofs.Common.{◌≡◌, ℕ, zero, suc, ◌+◌, ◌*◌, ◌<◌, ◌≤◌, ◌^◌, Bool, true, false, ◌&&◌, ◌||◌, List, [], ◌∷◌, ◌++◌, length, map}
use Rattle.std.proofs.Common.{Some, None, refl, sym, ap, ◌∙◌, subst, inl, inr, ◌⊎◌, arith}
use Rattle.std.specs.Prelude.{nat_lt, ℤ, pos, ◌+ℤ◌, ◌-ℤ◌, ◌*ℤ◌, if◌then◌else◌, slice_get}
use Rattle.std.specs.List.{AllByRecursion}
use Rattle.std.specs.Int.RustNames.{unsigned_abs}
use Rattle.std.proofs.lemmas.Int.{ints}
use Rattle.std.proofs.lemmas.Bool.Decides.{nat_tests}
use Rattle.std.proofs.lemmas.List.{length-map}
use Rattle.std.proofs.Math.Nat.{mul-suc}
use Rattle.bounds.specs.Spans.{numbers}
use Rattle.lin.specs.Forms.{Form, number}
use Rattle.lin.specs.declared.span.Span1.{Span1}
use Rattle.plan.specs.declared.plan.Group.{Group as CodeGroup}
use Rattle.plan.specs.declared.stmt.Kind.TheVariants.{Serial}
use Rattle.plan.specs.declared.stmt.Places.{Places}
use Rattle.plan.specs.declared.stmt.Places.TheVariants.{From}
use Rattle.plan.specs.declared.certificate.cert.Claim.{Claim as CodeClaim}
use Rattle.plan.specs.declared.certificate.cert.Need.{Need}
use Rattle.plan.specs.Plan.{Statement, Alloc, Publish, Then, Plan, block}
use Rattle.plan.specs.View.{group_of, plan_of, statement_of}
use Rattle.plan.specs.Lines.{lines, body_line}
use Rattle.plan.specs.Semantics.Setting.{allocated, dimensions_in}
use Rattle.plan.specs.Certificate.Certificate.{Certificate, certificate_of}
use Rattle.meaning.specs.Algorithm.{Algorithm}
use Rattle.meaning.specs.Conditions.{IsAlgorithm}
use Rattle.meaning.specs.Names.{same_name}
use Rattle.soundness.specs.Claims.{In}
use Rattle.soundness.specs.Origins.{Outline}
use Rattle.soundness.specs.Given.{outline_of}
use Rattle.soundness.specs.Obligations.{exactly}
use Rattle.soundness.proofs.Refines.{name_true}
use Rattle.headline.proofs.Regions.{at_in}
use Rattle.sched.specs.Schedule.{Schedule}
use Rattle.sched.specs.Legal.{IsLegal}
use Rattle.sched.specs.declared.schedule.Split.{Split}
use Rattle.sched.specs.declared.placing.Loop.{Loop}
use Rattle.sched.specs.declared.numbers.Extent.{Extent}
use Rattle.sched.specs.declared.numbers.Numbers.{Numbers}
use Rattle.sched.specs.declared.skeleton.Known.{Known}
use Rattle.sched.specs.declared.nest.Turning.{Turning}
use Rattle.sched.specs.Numbers.{numbers_named, last_number, loop_numbers, parallel_loops, grid_counts, or_one, piece_counts}
use Rattle.sched.specs.Placing.{is_parallel, has_loop}
use Rattle.sched.specs.Standing.{form_named, counted_from, has_rest}
use Rattle.sched.specs.Skeleton.{BodyText, SkeletonText, loop_turning, grid_forms}
use Rattle.sched.proofs.Leading.{in_left, in_right}
use Rattle.lower.specs.declared.lowering.Lowered.{Lowered}
use Rattle.sched.specs.Stored.{FormulaText, StoredText}
use Rattle.blocks.specs.Stored.{flags}
use Rattle.lower.specs.Stored.{stored_functions, has_large}
use Rattle.regions.specs.Faults.{are_whole}
use Rattle.lower.specs.Faults.{region_fault}
use Rattle.sched.specs.Regions.{count_of}
use Rattle.regions.specs.Regions.{missing_from, body_by, bodies_from}
use Rattle.lower.specs.Owning.{IsExtent, IsLaidBy}
use Rattle.blocks.specs.Blocks.{LayText, Whole, Run, sum, multiple_from, is_parallel_named, alone_by, uncut, joined, lay_over, dimension_by, dimension_of}
use Rattle.sched.specs.Blocks.{difference}
use Rattle.blocks.specs.Blocks.{part_of, places_from, dimensions_of, claimed_region, own_places, BlockText, blocks_by}
use Rattle.lower.specs.Bodies.{last_claim}
use Rattle.sched.specs.Fetches.{Entry}
use Rattle.blocks.specs.Fetches.{with_fetches}
use Rattle.lower.specs.Groups.{HasBody, HasGroups}
use Rattle.lower.proofs.Blocking.{IsSmall, CutFits}
use Rattle.lower.proofs.Covering.{NumbersAre}
use Rattle.lower.proofs.Dividing.{nearest, nearest_of_small}
use Rattle.lower.proofs.Directed.{IsLeaf, AreMade}
use Rattle.lower.proofs.Grids.{parallel_named}
use Rattle.lower.proofs.Owners as owners
use Rattle.completeness.specs.Laws.{AreSplitOnce}
use Rattle.completeness.specs.Parted.{KeepsInner}
use Rattle.completeness.specs.Blocked.{is_tailed}
use Rattle.completeness.proofs.Standing.{names_own}
use Rattle.completeness.proofs.Laid.{subjects, found}
use Rattle.completeness.proofs.Halves.{AreOthers, IsNamed, named, IsOther}
use Rattle.completeness.proofs.Lanes.{AreOnce}
use Rattle.completeness.proofs.VectorLines.{split_once}
use Rattle.completeness.proofs.Served.{roots}
use Rattle.completeness.proofs.Spots.{lets_allot}
use Rattle.completeness.proofs.Origins.{places_long}
use Rattle.completeness.proofs.PlainNests.{grid_named}
use Rattle.completeness.proofs.PlainTurns.{hits, hits_once, itself, turn_name, one_if}
use Rattle.completeness.proofs.PureNests.{all_from, all_in, none_missing, first_put, loop_name, hits_named, hits_turned, at_most_all, all_once}
use Rattle.completeness.proofs.UpdateTurns.{hits_fewer, all_mapped, all_filtered}
use Rattle.completeness.proofs.GridTurns.{grid_none, OverGrid, NotOverGrid, either_name}
use Rattle.completeness.proofs.Searched.{one_of}
use Rattle.completeness.proofs.GridCounts.{IsShort, grid_few}
use Rattle.completeness.proofs.BlockFacts.{halves_new, outers_apart, wholes_are, end_leaf, parallel_found, inners_serial}
use Rattle.completeness.proofs.BlockNames.{LeafOf}
use Rattle.completeness.proofs.BlockNests.{length_append}
use Rattle.completeness.proofs.BlockDims.{top, part_uncut, end_uncut, claim_uncut, cut_once, apart_name}
use Rattle.completeness.proofs.TailTurns.{is_shifted}
use Rattle.completeness.proofs.TailSkeletons.{known_over}
use Rattle.sched.specs.Numbers.{is_too_short}
use Rattle.completeness.proofs.TailDims.{end_of_all, all_of, kept_cap, counted, outer_low, outer_last, inner_low, inner_last, few_numbers, end_is, claim_is as block_claim_is, block_claim}
use Rattle.completeness.proofs.TailDims.{shift_claim, shift_places}
use Rattle.completeness.proofs.TailDims.{block_places}

-- ---- groups

module _ (a : Algorithm) (sch : Schedule) (l : Lowered) (well : IsAlgorithm a) (legal : IsLegal a sch) (small : has_large (stored_functions a sch) ≡ false)
    (kept : region_fault a (stored_functions a sch) ≡ None) (all : are_whole (stored_functions a sch) ≡ true) (groups : HasGroups a (stored_functions a sch) l) where
  abbrev pub entries : List Entry
  entries = roots a sch l well legal small kept all groups

  abbrev pub stored : List StoredText
  stored = stored_functions a sch

  abbrev pub made_groups : List CodeGroup
  made_groups = l.plan.groups.items

  abbrev pub items : List CodeClaim
  items = l.certificate.claims.items

  abbrev pub plan : Plan
  plan = plan_of l.plan

  abbrev pub cert : Certificate
  cert = certificate_of l.certificate

  module _ (n first line : ℕ) (g : StoredText) (p : CodeGroup) (claims : List CodeClaim) (needs : List Need) (at : slice_get stored n ≡ Some g) (there : slice_get made_groups n ≡ Some p)
      (h : HasBody a entries n first line g p claims needs) (lined : body_line plan n ≡ line + 1)
      (placed : (j : ℕ) (v : CodeClaim) → slice_get claims j ≡ Some v → slice_get items (first + j) ≡ Some v)
      (alone_here : (j : ℕ) (w : CodeClaim) → slice_get items j ≡ Some w → line < w.line → w.line < line + (lines (statement_of p.body) + 1) → In w claims)
      (laid : IsLaidBy g h.extents h.skeleton) (split_alone : AreSplitOnce g.placed.cuts) (keeps : KeepsInner g.placed.loops g.placed.cuts)
      (long : AllByRecursion (λ c. is_too_short (loop_numbers g.subject.variables g.placed.cuts h.extents) c ≡ false) g.placed.cuts) where
    abbrev pub k : SkeletonText
    k = h.skeleton

    abbrev pub fs : List FormulaText
    fs = h.formulas

    abbrev pub xs : List (List ℕ)
    xs = g.subject.variables

    abbrev pub ls : List Loop
    ls = g.placed.loops

    abbrev pub cuts : List Split
    cuts = g.placed.cuts

    abbrev pub rs : List Numbers
    rs = loop_numbers g.subject.variables g.placed.cuts h.extents

    abbrev pub bs : List BodyText
    bs = bodies_from g.changes 0 g.subject.reductions fs

    abbrev pub O : Outline
    O = outline_of plan cert n (group_of p)

    abbrev pub places : List Places
    places = own_places (dimensions_of g h.extents k)

    abbrev pub region : List Span1
    region = claimed_region (dimensions_of g h.extents k)

    abbrev pub low : List ℕ → ℤ
    low x = (numbers_named rs x).low

    abbrev pub last : List ℕ → ℤ
    last x = last_number (numbers_named rs x)

    abbrev pub num : List ℕ → Numbers
    num x = numbers_named rs x

    abbrev pub count : List ℕ → ℕ
    count x = (num x).count

    abbrev pub lay : LayText
    lay = lay_over g h.extents k

    abbrev pub grid : List Known
    grid = grid_forms rs 0 (parallel_loops ls)

    abbrev pub claim : List ℕ → Span1
    claim x = (dimension_of lay cuts x).claim

    abbrev pub place : List ℕ → Places
    place x = (dimension_of lay cuts x).places

    -- ---- loops and splits

    pub is_named : IsNamed g.placed
    is_named = named g.subject laid.directives g.placed laid.placed

    abbrev pub others : AreOthers cuts
    others = is_named.apart

    abbrev pub once : AreOnce cuts
    once = split_once cuts split_alone

    pub made_so : AreMade xs (xs ++ g.subject.reductions) cuts
    made_so = (owners.directed g h.extents k laid).made

    -- a shifted split has as many numbers as a block
    pub enough : (c : Split) → In c cuts → is_shifted c ≡ true → c.factor ≤ (numbers_named rs c.whole).count
    enough c m e = of (nat_lt (num' c).count c.factor) refl (all_in (λ c. is_too_short rs c ≡ false) cuts c long m)
      where
        num' : Split → Numbers
        num' c = numbers_named rs c.whole

        of : (b : Bool) → nat_lt (num' c).count c.factor ≡ b → (is_shifted c && nat_lt (num' c).count c.factor) ≡ false → c.factor ≤ (num' c).count
        of false q r = grind (arith, nat_tests, q)
        of true q r = (let clash : true ≡ false = sym (λ j. e j && q j) ∙ r in absurd (cc clash))

    abbrev pub halves : (c : Split) → In c cuts → (x : List ℕ) → In x xs → (x ≡ c.outer → ⊥) × (x ≡ c.inner → ⊥)
    halves c m x q = halves_new cuts xs g.subject.reductions made_so c m x q

    abbrev pub outers : (c d : Split) → In c cuts → In d cuts → c.outer ≡ d.outer → c ≡ d
    outers c d m q e = outers_apart cuts xs (xs ++ g.subject.reductions) made_so c d m q e

    abbrev pub gone : (c : Split) → In c cuts → (o : Loop) → In o ls → c.whole ≡ o.name → ⊥
    gone c m o q = all_in (λ o. c.whole ≡ o.name → ⊥) ls o (all_in (λ c. AllByRecursion (λ o. c.whole ≡ o.name → ⊥) ls) cuts c (owners.arranged g h.extents k laid).gone m) q

    pub wholes : (c : Split) → In c cuts → In c.whole xs
    wholes c m = wholes_are cuts once xs (xs ++ g.subject.reductions) made_so c m

    abbrev pub fits : (c : Split) → In c cuts → CutFits rs c
    fits c m = all_in (CutFits rs) cuts c (owners.cuts g h.extents k laid) m

    pub single : (y : List ℕ) → hits loop_name y ls ≤ 1
    single y =
        let one = hits_named y ls in
        let two = hits_once (map loop_name ls) y (owners.directed g h.extents k laid).single in
        omega (arith, one, two)

    pub single_over : (y : List ℕ) → hits loop_name y (parallel_loops ls) ≤ 1
    single_over y = (let one = single y in let two = hits_fewer is_parallel y ls in omega (arith, one, two))

    abbrev pub inners : (c : Split) → In c cuts → form_named grid c.inner ≡ None
    inners c m = grid_none rs c.inner 0 (parallel_loops ls) (inners_serial ls cuts keeps c m)

    pub leaf_of : (o : Loop) → In o ls → LeafOf xs ls cuts rs others once halves outers gone o.name
    leaf_of o m =
        let leaf : IsLeaf xs cuts o = all_in (IsLeaf xs cuts) ls o (owners.directed g h.extents k laid).leaves m in
        end_leaf cuts once xs cuts (λ d q. q) leaf.variable o.name (at_in xs o.dimension leaf.variable leaf.of) leaf.end

    -- ---- numbers

    abbrev pub NumbersFit : List ℕ → Type 0
    NumbersFit x = IsSmall (num x) × (0 < (num x).count)

    numbers_fit : AllByRecursion NumbersFit xs
    numbers_fit = of xs h.extents (owners.numbers g h.extents k laid) laid.extents
      where
        of : (ys : List (List ℕ)) (es : List Extent) → NumbersAre rs ys es → AllByRecursion IsExtent es → AllByRecursion NumbersFit ys
        of [] es q r = tt
        of (y ∷ ys) [] q r = absurd q
        of (y ∷ ys) (e ∷ es) q r = (
          subst (λ (z : Numbers). IsSmall z × (0 < z.count)) (sym q.0) (record { from = r.0.from; to = r.0.to; few = r.0.few }, r.0.some),
          of ys es q.1 r.1,
        )

    pub fit_of : (x : List ℕ) → In x xs → NumbersFit x
    fit_of x m = all_in NumbersFit xs x numbers_fit m

    -- the numbers of each loop are near
    pub near_named : (y : List ℕ) → LeafOf xs ls cuts rs others once halves outers gone y → (unsigned_abs (low y) ≤ 2 ^ 36) × (unsigned_abs (last y) ≤ 2 ^ 36)
    near_named y (inl m) =
        let fit = fit_of y m in
        let from = fit.0.from in
        let to = fit.0.to in
        let few_numbers_here = fit.0.few in
        let some = fit.1 in
        (omega (arith, ints, from, to), omega (arith, ints, from, to, few_numbers_here, some))
    near_named y (inr (c, m, inl e)) =
        let fit = fit_of c.whole (wholes c m) in
        let begins = ap low e ∙ outer_low rs c (fits c m) fit.0 fit.1 in
        let ends = ap last e ∙ outer_last rs c (fits c m) fit.0 fit.1 in
        let few_here = few_numbers rs c (fits c m) fit.0 fit.1 in
        let wide = (fits c m).some in
        let most = at_most_times (top (count c.whole) c.factor) c.factor wide in
        (omega (arith, ints, begins), omega (arith, ints, ends, few_here, most))
      where
        at_most_times : (b d : ℕ) → 0 < d → b ≤ b * d
        at_most_times b zero some = absurd (omega (arith, some))
        at_most_times b (suc d) some = (let is = mul-suc b d in omega (arith, is))
    near_named y (inr (c, m, inr e)) =
        let fit = fit_of c.whole (wholes c m) in
        let begins = ap low e ∙ inner_low rs c (fits c m) fit.0 fit.1 in
        let ends = ap last e ∙ inner_last rs c (fits c m) fit.0 fit.1 in
        let wide = (fits c m).few in
        let some = (fits c m).some in
        (omega (arith, ints, begins), omega (arith, ints, ends, wide, some))

    pub dims : O.setting.dimensions 0 ≡ length xs
    dims =
        let lets = (names_own xs bs g.placed h.extents k h.laid).lets in
        ap (λ (s : Statement). dimensions_in (allocated s 0)) h.body.with.is
        ∙ ap dimensions_in (lets_allot k.head (Then (Alloc 0 g.subject.name places) (block (with_fetches h.body.fetches (h.body.nests ++ Publish (last_claim first h.body.fetches k) ∷ [])))) 0 lets)
        ∙ places_long lay cuts xs

    -- few variables, so few splits and few loops
    pub narrow : length xs ≤ 3
    narrow =
        let w = found a sch (flags (subjects a sch)) g a.functions n at in
        let few = (well.functions w.place w.function w.at).few in
        let long : length xs ≡ length w.function.variables = ap (λ (u : StoredText). length u.subject.variables) w.is in
        omega (arith, few, long)

    abbrev pub leaf_names : List (List ℕ)
    leaf_names = xs ++ (map (λ c. c.outer) cuts ++ map (λ c. c.inner) cuts)

    pub few_cuts : length cuts ≤ 3
    few_cuts =
        let ts : List Turning = map turn_of cuts in
        let one = at_most_all xs ts (all_mapped turn_of (λ t. In t.name xs) cuts (all_from (λ c. In c.whole xs) cuts wholes)) in
        let two = all_once xs ts (λ y. wholes_once cuts others y) in
        let three = narrow in
        let long = length-map cuts turn_of in
        omega (arith, one, two, three, long)
      where
        turn_of : Split → Turning
        turn_of c = record { name = c.whole; low = pos 0; last = pos 0; kind = Serial }

        wholes_once : (cs : List Split) → AreOthers cs → (y : List ℕ) → hits turn_name y (map turn_of cs) ≤ 1
        wholes_once [] o y = omega arith
        wholes_once (c ∷ cs) o y = of (same_name c.whole y) refl (wholes_once cs o.2 y)
          where
            none : (ds : List Split) → AllByRecursion (IsOther c) ds → c.whole ≡ y → hits turn_name y (map turn_of ds) ≡ 0
            none [] q e = refl
            none (d ∷ ds) q e =
                let differ : same_name d.whole y ≡ false = apart_name d.whole y (λ s. q.0.whole (e ∙ sym s)) in
                let counts = ap one_if differ in
                let rest = none ds q.1 e in
                omega (arith, counts, rest)

            of : (b : Bool) → same_name c.whole y ≡ b → hits turn_name y (map turn_of cs) ≤ 1 → one_if b + hits turn_name y (map turn_of cs) ≤ 1
            of true e rest = (let zero_more = none cs o.1 (name_true c.whole y e) in omega (arith, zero_more))
            of false e rest = omega (arith, rest)

    pub leaf_among : (y : List ℕ) → LeafOf xs ls cuts rs others once halves outers gone y → In y leaf_names
    leaf_among y (inl m) = in_left y xs (map (λ c. c.outer) cuts ++ map (λ c. c.inner) cuts) m
    leaf_among y (inr (c, m, inl e)) =
        in_right y xs (map (λ c. c.outer) cuts ++ map (λ c. c.inner) cuts)
        (in_left y (map (λ c. c.outer) cuts) (map (λ c. c.inner) cuts) (subst (λ (z : List ℕ). In z (map (λ (c : Split). c.outer) cuts)) (sym e) (in_map (λ c. c.outer) c cuts m)))
      where
        in_map : (f : Split → List ℕ) (c : Split) (cs : List Split) → In c cs → In (f c) (map f cs)
        in_map f c [] m = absurd m
        in_map f c (d ∷ cs) (inl e) = inl (ap f e)
        in_map f c (d ∷ cs) (inr m) = inr (in_map f c cs m)
    leaf_among y (inr (c, m, inr e)) =
        in_right y xs (map (λ c. c.outer) cuts ++ map (λ c. c.inner) cuts)
        (in_right y (map (λ c. c.outer) cuts) (map (λ c. c.inner) cuts) (subst (λ (z : List ℕ). In z (map (λ (c : Split). c.inner) cuts)) (sym e) (in_map (λ c. c.inner) c cuts m)))
      where
        in_map : (f : Split → List ℕ) (c : Split) (cs : List Split) → In c cs → In (f c) (map f cs)
        in_map f c [] m = absurd m
        in_map f c (d ∷ cs) (inl e) = inl (ap f e)
        in_map f c (d ∷ cs) (inr m) = inr (in_map f c cs m)

    pub few_names : length leaf_names ≤ 9
    few_names =
        let one = length_append xs (map (λ (c : Split). c.outer) cuts ++ map (λ (c : Split). c.inner) cuts) in
        let two = length_append (map (λ (c : Split). c.outer) cuts) (map (λ (c : Split). c.inner) cuts) in
        let three = length-map cuts (λ (c : Split). c.outer) in
        let four = length-map cuts (λ (c : Split). c.inner) in
        let five = narrow in
        let six = few_cuts in
        omega (arith, one, two, three, four, five, six)

    pub few_loops : (ts : List Turning) → AllByRecursion (λ t. In t.name leaf_names) ts → ((y : List ℕ) → hits turn_name y ts ≤ 1) → length ts ≤ 9
    few_loops ts among each = (let one = at_most_all leaf_names ts among in let two = all_once leaf_names ts each in let three = few_names in omega (arith, one, two, three))

    pub few_pieces : length (piece_counts rs ls) ≤ 10
    few_pieces =
        let ts : List Turning = map (loop_turning rs) (parallel_loops ls) in
        let among : AllByRecursion (λ t. In t.name leaf_names) ts =
        all_mapped (loop_turning rs) (λ t. In t.name leaf_names) (parallel_loops ls)
        (all_filtered is_parallel (λ o. In o ls) (λ o. In o.name leaf_names) (λ o e m. leaf_among o.name (leaf_of o m)) ls (all_from (λ o. In o ls) ls (λ o m. m))) in
        let one = few_loops ts among (λ y. let m = hits_turned rs y (parallel_loops ls) in let s = single_over y in omega (arith, m, s)) in
        let long = length-map (parallel_loops ls) (loop_turning rs) in
        let two = of (parallel_loops ls) in
        omega (arith, one, long, two)
      where
        of : (ms : List Loop) → length (or_one (grid_counts rs ms)) ≤ 1 + length ms
        of [] = omega arith
        of (m ∷ ms) = (let many = length-map ms (λ (o : Loop). (numbers_named rs o.name).count) in omega (arith, many))

    pub names_apart : (y : List ℕ) → hits itself y xs ≤ 1
    names_apart y = hits_once xs y laid.variables

    -- ---- what names stand for over the grid

    pub grids : (y : List ℕ) (f : Form) → form_named grid y ≡ Some f →
        (s : ℕ) × (f ≡ counted_from (low y) s) × (s < length (piece_counts rs ls)) × ((o : Loop) × In o ls × (o.name ≡ y))
    grids y f e = of (hits loop_name y (parallel_loops ls)) refl (either_name rs ls y)
      where
        of : (m : ℕ) → hits loop_name y (parallel_loops ls) ≡ m → OverGrid rs ls y ⊎ NotOverGrid rs ls y →
            (s : ℕ) × (f ≡ counted_from (low y) s) × (s < length (piece_counts rs ls)) × ((o : Loop) × In o ls × (o.name ≡ y))
        of zero q w = (let clash : Some f ≡ None = sym e ∙ grid_none rs y 0 (parallel_loops ls) q in absurd (cc clash))
        of (suc m) q (inr w) = (let clash : Some f ≡ None = sym e ∙ w.named in absurd (cc clash))
        of (suc m) q (inl w) = (w.symbol, cc (sym e ∙ w.named), w.low, parallel_found y ls (omega (arith, q)))

    pub outers_there : (c : Split) → In c cuts → (f : Form) → form_named grid c.outer ≡ Some f → (s : ℕ) × (f ≡ counted_from (pos 0) s) × (s < length (piece_counts rs ls))
    outers_there c m f e =
        let r = grids c.outer f e in
        let fit = fit_of c.whole (wholes c m) in
        let zero_low : low c.outer ≡ pos 0 = outer_low rs c (fits c m) fit.0 fit.1 in
        (r.0, r.1 ∙ ap (λ (z : ℤ). counted_from z r.0) zero_low, r.2)

    abbrev pub sized : (c : Split) → In c cuts → IsSmall (num c.whole) × (0 < (num c.whole).count)
    sized c m = fit_of c.whole (wholes c m)

    pub shorts : AllByRecursion IsShort k.grid
    shorts = grid_few g h.extents k laid

    -- what stands over the grid is the loops' forms
    pub known_grid : k.known ≡ grid
    known_grid = known_over xs bs g.placed h.extents k others once single_over inners h.laid

    pub is_over : (x : List ℕ) (f : Form) → form_named grid x ≡ Some f → is_parallel_named lay x ≡ true
    is_over x f e = parallel_named ls x ∙ grid_named rs x 0 (parallel_loops ls) f e

    pub known_same : (x : List ℕ) → form_named k.known x ≡ form_named grid x
    known_same x = ap (λ (ks : List Known). form_named ks x) known_grid

    pub uncut_grid : (x : List ℕ) (f : Form) → form_named grid x ≡ Some f → uncut lay x ≡ alone_by (Some f)
    uncut_grid x f e =
        let parallel = is_over x f e in
        let named_so = known_same x ∙ e in
        λ j. if parallel j then alone_by (named_so j) else Whole

    -- of a loop that is not parallel, all numbers or none
    pub uncut_serial : (x : List ℕ) → hits loop_name x (parallel_loops ls) ≡ 0 → uncut lay x ≡ Whole
    uncut_serial x none = ap (λ (b : Bool). if b then alone_by (form_named k.known x) else Whole) (parallel_named ls x ∙ no_loop (parallel_loops ls) none)
      where
        no_loop : (ms : List Loop) → hits loop_name x ms ≡ 0 → has_loop ms x ≡ false
        no_loop [] q = refl
        no_loop (o ∷ ms) q = of (same_name o.name x) q (λ r. no_loop ms r)
          where
            of : (b : Bool) → one_if b + hits loop_name x ms ≡ 0 → (hits loop_name x ms ≡ 0 → has_loop ms x ≡ false) → (b || has_loop ms x) ≡ false
            of true r rest = absurd (omega (arith, r))
            of false r rest = rest (omega (arith, r))

    -- ---- dimensions

    not_split : (x : List ℕ) → ((o : Loop) × In o ls × (o.name ≡ x)) → (d : Split) → In d cuts → d.whole ≡ x → ⊥
    not_split x o d m e = gone d m o.0 o.1 (e ∙ sym o.2)

    pub dim_grid : (x : List ℕ) (s : ℕ) → form_named grid x ≡ Some (counted_from (low x) s) → ((o : Loop) × In o ls × (o.name ≡ x)) →
        (claim x ≡ exactly (counted_from (low x) s)) × (place x ≡ From (counted_from (low x) s) 1)
    dim_grid x s e o =
        let f : Form = counted_from (low x) s in
        let is : part_of lay x cuts ≡ alone_by (Some f) = part_uncut lay cuts x (not_split x o) ∙ uncut_grid x f e in
        let none : difference (pos 1) (pos 1) ≡ pos 0 = nearest_of_small (pos 1 -ℤ pos 1) (omega (arith, ints)) (omega (arith, ints)) in
        let same_low : pos 0 +ℤ pos 1 *ℤ low x ≡ low x = omega (arith, ints) in
        let up : multiple_from (difference (pos 1) (pos 1)) (pos 1) f ≡ f = ap (λ (z : ℤ). multiple_from z (pos 1) f) none ∙ (λ j. counted_from (same_low j) s) in
        (ap (λ (q : _). (dimension_by lay x cuts q).claim) is ∙ (λ j. record { lower = f ∷ []; upper = up j ∷ [] }), ap (λ (q : _). (dimension_by lay x cuts q).places) is)

    pub dim_loop : (x : List ℕ) → In x xs → hits loop_name x (parallel_loops ls) ≡ 0 → ((o : Loop) × In o ls × (o.name ≡ x)) →
        (claim x ≡ numbers (low x) (last x)) × (place x ≡ From (number (low x)) (count x))
    dim_loop x m none o =
        let is : part_of lay x cuts ≡ Whole = part_uncut lay cuts x (not_split x o) ∙ uncut_serial x none in
        let ends = claim_uncut lay cuts x (not_split x o) in
        let end = end_uncut lay cuts x (not_split x o) in
        let fit = fit_of x m in (
          ap (λ (q : _). (dimension_by lay x cuts q).claim) is ∙ ap (λ (z : ℤ). numbers (low x) z) ends,
          ap (λ (q : _). (dimension_by lay x cuts q).places) is ∙ ap (λ (z : ℤ). places_from (number (low x)) (sum (difference z (low x)) (pos 1))) end
              ∙ ap (λ (w : ℤ). From (number (low x)) (count_of w)) (as_many (low x) (count x) fit.0.few fit.1),
        )
      where
        as_many : (z : ℤ) (c : ℕ) → c < 4294967296 → 0 < c → sum (difference (z +ℤ pos c -ℤ pos 1) z) (pos 1) ≡ pos c
        as_many z c few some =
            let y : ℤ = z +ℤ pos c -ℤ pos 1 -ℤ z in
            let one : nearest y ≡ y = nearest_of_small y (omega (arith, ints, some)) (omega (arith, ints, few)) in
            ap (λ (w : ℤ). nearest (w +ℤ pos 1)) one ∙ ap nearest (back z c) ∙ nearest_of_small (pos c) (omega (arith, ints)) (omega (arith, ints, few))
          where
            back : (z : ℤ) (c : ℕ) → ((z +ℤ pos c -ℤ pos 1 -ℤ z) +ℤ pos 1) ≡ pos c
            back z c = omega (arith, ints)

    abbrev block_text : (c : Split) → In c cuts → ℕ → List Split → BlockText
    block_text c m s rest =
        blocks_by lay c rest (record { start = counted_from (pos 0) s; length = pos 1; own_limits = []; claim_limits = []; origin = Some (counted_from (pos 0) s); reach = pos 1 }) (num c.whole)

    -- of a split loop whose outer loop is parallel: a block
    pub dim_block : (c : Split) (m : In c cuts) → is_shifted c ≡ false → (s : ℕ) → form_named grid c.outer ≡ Some (counted_from (pos 0) s) →
        (claim c.whole ≡ record {
          lower = one_of (low c.whole) (pos c.factor) s ∷ [];
          upper = one_of ((pos c.factor -ℤ pos 1) +ℤ low c.whole) (pos c.factor) s
              ∷ kept_cap rs c (fits c m) (fit_of c.whole (wholes c m)).0 (fit_of c.whole (wholes c m)).1;
        })
        × (place c.whole ≡ From (one_of (low c.whole) (pos c.factor) s) c.factor)
    dim_block c m unshifted s e =
        let fit = fit_of c.whole (wholes c m) in
        let o = cut_once lay cuts others once c m in
        let outer = uncut_grid c.outer (counted_from (pos 0) s) e in
        let inner = uncut_serial c.inner (inners_serial ls cuts keeps c m) in
        let is : part_of lay c.whole cuts ≡ Run (block_text c m s o.rest) = o.part ∙ (λ j. joined lay c o.rest (outer j) (inner j)) in (
          ap (λ (q : _). (dimension_by lay c.whole cuts q).claim) is ∙ block_claim rs c (fits c m) fit.0 fit.1 unshifted lay refl s o.rest o.inner_end,
          ap (λ (q : _). (dimension_by lay c.whole cuts q).places) is ∙ block_places rs c (fits c m) fit.0 fit.1 unshifted lay refl s o.rest o.inner_end c.whole cuts,
        )

    -- or one whose first number is a let
    pub dim_head : (c : Split) (m : In c cuts) → is_shifted c ≡ true → (s : ℕ) → form_named grid c.outer ≡ Some (counted_from (pos 0) s) → (f : Form) → form_named k.starts c.whole ≡ Some f →
        (claim c.whole ≡ record {
          lower = one_of (low c.whole) (pos c.factor) s ∷ [];
          upper = one_of ((pos c.factor -ℤ pos 1) +ℤ low c.whole) (pos c.factor) s ∷ (if has_rest c (num c.whole).count then number (last c.whole) ∷ [] else []);
        })
        × (place c.whole ≡ From f c.factor)
    dim_head c m shifted s e f start =
        let fit = fit_of c.whole (wholes c m) in
        let o = cut_once lay cuts others once c m in
        let outer = uncut_grid c.outer (counted_from (pos 0) s) e in
        let inner = uncut_serial c.inner (inners_serial ls cuts keeps c m) in
        let is : part_of lay c.whole cuts ≡ Run (block_text c m s o.rest) = o.part ∙ (λ j. joined lay c o.rest (outer j) (inner j)) in (
          ap (λ (q : _). (dimension_by lay c.whole cuts q).claim) is ∙ shift_claim rs c (fits c m) fit.0 fit.1 shifted lay refl s o.rest o.inner_end,
          ap (λ (q : _). (dimension_by lay c.whole cuts q).places) is ∙ shift_places rs c (fits c m) fit.0 fit.1 shifted lay refl s o.rest o.inner_end f start c.whole cuts,
        )

    -- of one whose loops are both in the nest: all numbers
    pub dim_split : (c : Split) (m : In c cuts) → hits loop_name c.outer (parallel_loops ls) ≡ 0 →
        (claim c.whole ≡ numbers (low c.whole) (end_of_all rs c (fits c m) (fit_of c.whole (wholes c m)).0 (fit_of c.whole (wholes c m)).1))
        × (place c.whole ≡ From (number (low c.whole)) (all_of rs c (fits c m) (fit_of c.whole (wholes c m)).0 (fit_of c.whole (wholes c m)).1))
    dim_split c m none =
        let fit = fit_of c.whole (wholes c m) in
        let o = cut_once lay cuts others once c m in
        let outer = uncut_serial c.outer none in
        let inner = uncut_serial c.inner (inners_serial ls cuts keeps c m) in
        let is : part_of lay c.whole cuts ≡ Whole = o.part ∙ (λ j. joined lay c o.rest (outer j) (inner j)) in
        let ends = o.claim ∙ block_claim_is rs c (fits c m) fit.0 fit.1 in
        let end = o.end ∙ end_is rs c (fits c m) fit.0 fit.1 in
        let counts = counted rs c (fits c m) fit.0 fit.1 in (
          ap (λ (q : _). (dimension_by lay c.whole cuts q).claim) is ∙ ap (λ (z : ℤ). numbers (low c.whole) z) ends,
          ap (λ (q : _). (dimension_by lay c.whole cuts q).places) is ∙ ap (λ (z : ℤ). places_from (number (low c.whole)) (sum (difference z (low c.whole)) (pos 1))) (end ∙ sym counts)
              ∙ ap (λ (w : ℤ). From (number (low c.whole)) (count_of w))
              (as_many (low c.whole) (all_of rs c (fits c m) fit.0 fit.1) (few_of c m (is_tailed rs c)) (some_of c m (is_tailed rs c))),
        )
      where
        few_of : (c : Split) (m : In c cuts) (b : Bool) → (if b then (num c.whole).count else top (count c.whole) c.factor * c.factor + c.factor) ≤ 2 ^ 33
        few_of c m true = (let few = (fit_of c.whole (wholes c m)).0.few in omega (arith, few))
        few_of c m false =
            let fit = fit_of c.whole (wholes c m) in
            let few = few_numbers rs c (fits c m) fit.0 fit.1 in
            let wide = (fits c m).few in
            omega (arith, few, wide)

        some_of : (c : Split) (m : In c cuts) (b : Bool) → 0 < (if b then (num c.whole).count else top (count c.whole) c.factor * c.factor + c.factor)
        some_of c m true = (fit_of c.whole (wholes c m)).1
        some_of c m false = (let some = (fits c m).some in omega (arith, some))

        as_many : (z : ℤ) (p : ℕ) → p ≤ 2 ^ 33 → 0 < p → sum (difference ((pos p -ℤ pos 1) +ℤ z) z) (pos 1) ≡ pos p
        as_many z p few some =
            let y : ℤ = (pos p -ℤ pos 1) +ℤ z -ℤ z in
            let one : nearest y ≡ y = nearest_of_small y (omega (arith, ints, some)) (omega (arith, ints, few)) in
            ap (λ (w : ℤ). nearest (w +ℤ pos 1)) one ∙ ap nearest (back z p) ∙ nearest_of_small (pos p) (omega (arith, ints)) (omega (arith, ints, few))
          where
            back : (z : ℤ) (p : ℕ) → (((pos p -ℤ pos 1) +ℤ z -ℤ z) +ℤ pos 1) ≡ pos p
            back z p = omega (arith, ints)

    pub own_places_are : places ≡ map place xs
    own_places_are = of xs
      where
        of : (ys : List (List ℕ)) → own_places (map (dimension_of lay cuts) ys) ≡ map place ys
        of [] = refl
        of (y ∷ ys) = ap (λ (ps : List Places). place y ∷ ps) (of ys)

    pub own_claim_is : region ≡ map claim xs
    own_claim_is = of xs
      where
        of : (ys : List (List ℕ)) → claimed_region (map (dimension_of lay cuts) ys) ≡ map claim ys
        of [] = refl
        of (y ∷ ys) = ap (λ (ps : List Span1). claim y ∷ ps) (of ys)

    -- ---- of the pure definition

    first_body : (b : BodyText) → slice_get bs 0 ≡ Some b → (b.missing ≡ []) × (b.ranges ≡ [])
    first_body b e =
        let fn = found a sch (flags (subjects a sch)) g a.functions n at in
        let v = fn.function in
        let f = first_put a (flags (subjects a sch)) v.variables v.value v.changes fs (ap (λ (u : StoredText). u.formulas) (sym fn.is) ∙ h.defined) in
        let is : body_by [] g.subject.reductions f.first ≡ b = cc (ap (λ (us : List FormulaText). slice_get (bodies_from g.changes 0 g.subject.reductions us) 0) (sym f.are) ∙ e) in
        (ap (λ (c : BodyText). c.missing) (sym is) ∙ ap (missing_from 0) f.at ∙ none_missing 0 v.variables, ap (λ (c : BodyText). c.ranges) (sym is))

    pub bare_ranges : (b : BodyText) → slice_get bs 0 ≡ Some b → b.ranges ≡ []
    bare_ranges b e = (first_body b e).1

    pub none_missing_first : (b : BodyText) → slice_get bs 0 ≡ Some b → b.missing ≡ []
    none_missing_first b e = (first_body b e).0
