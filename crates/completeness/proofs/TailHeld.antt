-- What is fetched for functions whose loops are split once, with any tail, in any order, holds their calls, where all their indices are simple or their regions begin near 0.
use Rattle.std.proofs.Common.{◌≡◌, ℕ, zero, suc, ◌+◌, ◌-◌, ◌*◌, ◌<◌, ◌≤◌, true, false, List, [], ◌∷◌, length, map, Option, Some, None, refl, sym, ap, ◌∙◌, subst, inl, inr, ◌⊎◌, arith}
use Rattle.std.specs.Prelude.{ℤ, pos, ◌+ℤ◌, ◌-ℤ◌, slice_get}
use Rattle.std.specs.List.{AllByRecursion}
use Rattle.std.proofs.lemmas.Int.{ints}
use Rattle.std.proofs.Math.Nat.{mul-suc}
use Rattle.std.proofs.lemmas.List.{length-map}
use Rattle.tree.specs.Names.{IsIndex}
use Rattle.lin.specs.Forms.{Form}
use Rattle.lin.specs.declared.scope.Binding.{Binding}
use Rattle.lin.specs.declared.scope.Binding.TheVariants.{LetMin}
use Rattle.std.specs.Int.RustNames.{unsigned_abs}
use Rattle.headline.proofs.Members.{got}
use Rattle.lin.proofs.TermLemmas.{all_weaker}
use Rattle.bounds.proofs.ListSound.{all-append}
use Rattle.plan.specs.declared.plan.Group.{Group as CodeGroup}
use Rattle.plan.specs.declared.certificate.cert.Claim.{Claim as CodeClaim}
use Rattle.plan.specs.declared.certificate.cert.Need.{Need}
use Rattle.plan.specs.Plan.{Plan}
use Rattle.plan.specs.View.{plan_of, statement_of}
use Rattle.plan.specs.Lines.{lines, body_line}
use Rattle.meaning.specs.Algorithm.{Change, Algorithm}
use Rattle.meaning.specs.Conditions.{IsAlgorithm}
use Rattle.soundness.specs.Claims.{In}
use Rattle.headline.proofs.Lists.{at_map}
use Rattle.headline.proofs.Regions.{at_in}
use Rattle.sched.specs.Schedule.{Schedule}
use Rattle.sched.specs.Legal.{IsLegal}
use Rattle.sched.specs.declared.schedule.Split.{Split}
use Rattle.sched.specs.declared.placing.Loop.{Loop}
use Rattle.sched.specs.declared.numbers.Extent.{Extent}
use Rattle.sched.specs.declared.numbers.Numbers.{Numbers}
use Rattle.sched.specs.declared.skeleton.Known.{Known}
use Rattle.sched.specs.declared.nest.Turning.{Turning}
use Rattle.sched.specs.Numbers.{numbers_named, loop_numbers, parallel_loops, grid_counts, piece_counts, last_number, or_one, is_too_short}
use Rattle.sched.specs.Placing.{is_parallel}
use Rattle.sched.specs.Standing.{form_named, counted_from}
use Rattle.sched.specs.Skeleton.{BodyText, NestText, SkeletonText, range_turning, loop_turning, nest_turns, variables_at, ranges_at, grid_forms}
use Rattle.lower.specs.declared.lowering.Lowered.{Lowered}
use Rattle.sched.specs.Stored.{FormulaText, StoredText, calls_in}
use Rattle.lower.specs.Stored.{stored_functions, has_large}
use Rattle.regions.specs.Faults.{are_whole}
use Rattle.lower.specs.Faults.{region_fault}
use Rattle.sched.specs.Around.{bind_steps, grid_symbol, grid_scope, head_scope, range_names, ranges_of, AroundText, around}
use Rattle.lower.specs.Owning.{IsExtent, IsLaidBy}
use Rattle.sched.specs.Regions.{LaidText}
use Rattle.regions.specs.Regions.{bodies_from, skeleton_of, laid_functions}
use Rattle.lower.specs.Groups.{HasBody, HasGroups}
use Rattle.lower.proofs.Blocking.{IsSmall, CutFits}
use Rattle.lower.proofs.Covering.{NumbersAre}
use Rattle.blocks.proofs.Laying.{same}
use Rattle.lower.proofs.Owners as owners
use Rattle.completeness.specs.Laws.{AreSplitOnce}
use Rattle.completeness.specs.Parted.{KeepsInner}
use Rattle.completeness.specs.Stores.{IsCloseRegion, IsNearRegion, AreHeld}
use Rattle.completeness.specs.Blocked.{makes_line}
use Rattle.completeness.specs.Filled.{IsNearOrSimple}
use Rattle.completeness.proofs.BareNests.{bare_shift, rest_tailed, in_order}
use Rattle.completeness.proofs.BlockOrder.{bodies_ordered}
use Rattle.completeness.specs.Simple.{has_simple_indices, SimpleIndices}
use Rattle.completeness.specs.Placed.{ArePlaced, AreLeftsHeld, AreOwnHeld}
use Rattle.completeness.proofs.RangeLoops.{AreNewNames}
use Rattle.completeness.proofs.LeftHeld.{lefts_held, owns_held, owns_few, AreCallsFew}
use Rattle.completeness.proofs.Owned.{some_same, same_extents, same_skeleton}
use Rattle.completeness.proofs.Served.{roots, made_at}
use Rattle.completeness.proofs.NamedClaims.{alone_body}
use Rattle.completeness.proofs.Halves.{AreOthers}
use Rattle.completeness.proofs.Lanes.{AreOnce}
use Rattle.completeness.proofs.PureNests.{all_in, all_from, all_get}
use Rattle.completeness.proofs.UpdateTurns.{all_mapped, all_filtered}
use Rattle.completeness.proofs.Boxes.{AreBoxes, ArePlain, weight_at, span_light}
use Rattle.completeness.proofs.FirstNumbers.{firsts, number_at, index_near}
use Rattle.completeness.proofs.NearBoxes.{turn_box, IsFew, IsBoxTurn, IsTurn as IsSizedTurn, box_turn, regions_few, AreFewNumbers, turn_few, IsCount}
use Rattle.completeness.proofs.RangedBoxes.{turns_all}
use Rattle.completeness.proofs.HeldNear.{IsFormed, IsIndexed, held_near, ranges_box}
use Rattle.completeness.proofs.BlockDims.{top, top_low, blocks_top}
use Rattle.std.proofs.lemmas.Option.{slice_get_within}
use Rattle.plan.specs.declared.stmt.Pick.TheVariants.{Min}
use Rattle.sched.specs.declared.skeleton.Step.{Step}
use Rattle.sched.specs.declared.skeleton.Step.TheVariants.{Named}
use Rattle.completeness.proofs.Standing.{Rises, names_own}
use Rattle.completeness.proofs.PlainNests.{grid_place}
use Rattle.completeness.proofs.StoreBounds.{steps_keep}
use Rattle.completeness.proofs.StepsThere.{let_tells, step_there, steps_long, entries_rise, entry_tells, entry_told}
use Rattle.completeness.proofs.TailSteps.{Pair, is_loop}
use Rattle.completeness.proofs.TailTurns.{Entry, entry_steps, is_shifted, keeps_rest, Right, IsTurn, IsBlock, IsPair, IsLet, IsEntry}
use Rattle.completeness.proofs.TailSkeletons.{IsTailNest, AreTails}
use Rattle.completeness.proofs.StoreShapes as shapes_of
use Rattle.completeness.proofs.BlockNear.{few_calls_light, IsLightIf, variables_so, ranges_so, kept_light, lefts_light, simple_light, simple_few, few_calls_few}
use Rattle.completeness.proofs.TailNear.{all_plain, all_near, all_close, IsGood, store_boxes, right_good}
use Rattle.completeness.proofs.StoreTails.{lets_count, room_for}
use Rattle.completeness.proofs.ShortShifts.{long_shifts}

or_one_counts : (ks : List ℕ) → AllByRecursion IsCount ks → AllByRecursion IsCount (or_one ks)
or_one_counts [] h = ((omega arith, omega arith), tt)
or_one_counts (k ∷ ks) h = h

-- the numbers of a loop go no farther than this
abbrev IsCloseTurn : Turning → Type 0
IsCloseTurn t = (unsigned_abs t.low ≤ 49152) × (unsigned_abs t.last ≤ 49152)

turn_close : (rs : List Numbers) (o : Loop) → AreFewNumbers (numbers_named rs o.name) → unsigned_abs (numbers_named rs o.name).low ≤ 32768 → IsCloseTurn (loop_turning rs o)
turn_close rs o few close = of (numbers_named rs o.name) close few.some few.few
  where
    of : (r : Numbers) → unsigned_abs r.low ≤ 32768 → 0 < r.count → r.count ≤ 8192 → (unsigned_abs r.low ≤ 49152) × (unsigned_abs (r.low +ℤ pos r.count -ℤ pos 1) ≤ 49152)
    of r near some few = (omega (arith, near), omega (arith, ints, near, some, few))

ranges_close : (us : List Change) (d : ℕ) → AllByRecursion (λ c. AllByRecursion (λ r. (unsigned_abs r.low ≤ 49152) × (unsigned_abs r.high ≤ 49152)) c.ranges) us →
    AllByRecursion IsCloseTurn (map range_turning (ranges_of us d))
ranges_close us zero h = tt
ranges_close us (suc i) h = of (slice_get us i) refl
  where
    of : (o : Option Change) → slice_get us i ≡ o → AllByRecursion IsCloseTurn (map range_turning (elim o [ Some u ↦ u.ranges | None ↦ [] ]))
    of None e = tt
    of (Some u) e =
        all_mapped range_turning IsCloseTurn u.ranges (got (λ (c : Change). AllByRecursion (λ r. (unsigned_abs r.low ≤ 49152) × (unsigned_abs r.high ≤ 49152)) c.ranges) us i u h e)

-- ---- groups

module _ (a : Algorithm) (sch : Schedule) (l : Lowered) (well : IsAlgorithm a) (legal : IsLegal a sch) (small : has_large (stored_functions a sch) ≡ false)
    (kept : region_fault a (stored_functions a sch) ≡ None) (all : are_whole (stored_functions a sch) ≡ true) (groups : HasGroups a (stored_functions a sch) l) where
  abbrev gs : List StoredText
  gs = stored_functions a sch

  abbrev items : List CodeClaim
  items = l.certificate.claims.items

  abbrev plan : Plan
  plan = plan_of l.plan

  module _ (n first line : ℕ) (g : StoredText) (p : CodeGroup) (claims : List CodeClaim) (needs : List Need) (at : slice_get gs n ≡ Some g) (there : slice_get l.plan.groups.items n ≡ Some p)
      (h : HasBody a (roots a sch l well legal small kept all groups) n first line g p claims needs) (lined : body_line plan n ≡ line + 1)
      (placed : (j : ℕ) (v : CodeClaim) → slice_get claims j ≡ Some v → slice_get items (first + j) ≡ Some v)
      (alone_here : (j : ℕ) (w : CodeClaim) → slice_get items j ≡ Some w → line < w.line → w.line < line + (lines (statement_of p.body) + 1) → In w claims)
      (laid : IsLaidBy g h.extents h.skeleton) (split_alone : AreSplitOnce g.placed.cuts) (keeps : KeepsInner g.placed.loops g.placed.cuts)
      (roomy_all : AllByRecursion (λ c. is_too_short (loop_numbers g.subject.variables g.placed.cuts h.extents) c ≡ false) g.placed.cuts)
      (few : AllByRecursion IsFew h.extents) where
    abbrev k : SkeletonText
    k = h.skeleton

    abbrev fs : List FormulaText
    fs = h.formulas

    abbrev xs : List (List ℕ)
    xs = g.subject.variables

    abbrev ls : List Loop
    ls = g.placed.loops

    abbrev cuts : List Split
    cuts = g.placed.cuts

    abbrev rs : List Numbers
    rs = loop_numbers xs cuts h.extents

    abbrev bs : List BodyText
    bs = bodies_from g.changes 0 g.subject.reductions fs

    abbrev over_grid : List Known
    over_grid = grid_forms rs 0 (parallel_loops ls)

    abbrev base : ℕ
    base = length (piece_counts rs ls)

    abbrev count : List ℕ → ℕ
    count x = (numbers_named rs x).count

    abbrev low : List ℕ → ℤ
    low x = (numbers_named rs x).low

    abbrev others : AreOthers cuts
    others = shapes_of.others a sch l well legal small kept all groups n first line g p claims needs at there h lined placed alone_here laid split_alone keeps

    abbrev once : AreOnce cuts
    once = shapes_of.once a sch l well legal small kept all groups n first line g p claims needs at there h lined placed alone_here laid split_alone keeps

    fits : (c : Split) → In c cuts → CutFits rs c
    fits c m = shapes_of.fits a sch l well legal small kept all groups n first line g p claims needs at there h lined placed alone_here laid split_alone keeps c m

    wholes : (c : Split) → In c cuts → In c.whole xs
    wholes c m = shapes_of.wholes a sch l well legal small kept all groups n first line g p claims needs at there h lined placed alone_here laid split_alone keeps c m

    fit_of : (x : List ℕ) → In x xs → IsSmall (numbers_named rs x) × (0 < (numbers_named rs x).count)
    fit_of x m = shapes_of.fit_of a sch l well legal small kept all groups n first line g p claims needs at there h lined placed alone_here laid split_alone keeps x m

    abbrev shape_here : AreTails xs bs g.placed others once rs k
    shape_here = shapes_of.shape a sch l well legal small kept all groups n first line g p claims needs at there h lined placed alone_here laid split_alone keeps

    -- ---- loops run over few numbers

    numbers_few : AllByRecursion (λ x. AreFewNumbers (numbers_named rs x)) xs
    numbers_few = of xs h.extents (owners.numbers g h.extents k laid) laid.extents few
      where
        of : (ys : List (List ℕ)) (es : List Extent) → NumbersAre rs ys es → AllByRecursion IsExtent es → AllByRecursion IsFew es → AllByRecursion (λ x. AreFewNumbers (numbers_named rs x)) ys
        of [] es q r m = tt
        of (y ∷ ys) [] q r m = absurd q
        of (y ∷ ys) (e ∷ es) q r m = (subst AreFewNumbers (sym q.0) (record { from = r.0.from; to = r.0.to; some = r.0.some; few = m.0 }), of ys es q.1 r.1 m.1)

    whole_few : (x : List ℕ) → In x xs → AreFewNumbers (numbers_named rs x)
    whole_few x m = all_in (λ x. AreFewNumbers (numbers_named rs x)) xs x numbers_few m

    -- the number of the last block
    few_blocks : (c : Split) → In c cuts → top (numbers_named rs c.whole).count c.factor + 1 ≤ 8192
    few_blocks c m =
        let whole = whole_few c.whole (wholes c m) in
        let some = whole.some in
        let most = whole.few in
        let wide = (fits c m).some in
        let less = top_low (numbers_named rs c.whole).count c.factor some wide in
        let times = at_most_times (top (numbers_named rs c.whole).count c.factor) c.factor wide in
        sums (numbers_named rs c.whole).count (top (numbers_named rs c.whole).count c.factor) (top (numbers_named rs c.whole).count c.factor * c.factor) some most less times
      where
        at_most_times : (b d : ℕ) → 0 < d → b ≤ b * d
        at_most_times b zero some = absurd (omega (arith, some))
        at_most_times b (suc d) some = (let is = mul-suc b d in omega (arith, is))

        sums : (n t u : ℕ) → 0 < n → n ≤ 8192 → u ≤ n - 1 → t ≤ u → t + 1 ≤ 8192
        sums n t u some most less le = omega (arith, some, most, less, le)

    abbrev LeafName : List ℕ → Type 0
    LeafName y = In y xs ⊎ ((c : Split) × In c cuts × ((y ≡ c.outer) ⊎ (y ≡ c.inner)))

    leaf_few : (y : List ℕ) → LeafName y → AreFewNumbers (numbers_named rs y)
    leaf_few y (inl m) = whole_few y m
    leaf_few y (inr (c, m, inl e)) =
        let whole = whole_few c.whole (wholes c m) in
        let some = whole.some in
        let wide = (fits c m).some in
        let are = blocks_top (numbers_named rs c.whole).count c.factor some wide in
        let less_top = few_blocks c m in
        subst (λ (z : List ℕ). AreFewNumbers (numbers_named rs z)) (sym e)
        (subst AreFewNumbers (sym (fits c m).outer) (record { from = omega (arith, ints); to = omega (arith, ints); some = omega (arith, are); few = omega (arith, are, less_top) }))
    leaf_few y (inr (c, m, inr e)) =
        let wide = (fits c m).few in
        let some = (fits c m).some in
        subst (λ (z : List ℕ). AreFewNumbers (numbers_named rs z)) (sym e)
        (subst AreFewNumbers (sym (fits c m).inner) (record { from = omega (arith, ints); to = omega (arith, ints); some = omega (arith, some); few = omega (arith, wide) }))

    loop_leaf : (o : Loop) → In o ls → LeafName o.name
    loop_leaf o m = shapes_of.leaf_of a sch l well legal small kept all groups n first line g p claims needs at there h lined placed alone_here laid split_alone keeps o m

    loops_few : AllByRecursion (λ o. AreFewNumbers (numbers_named rs o.name)) ls
    loops_few = all_from (λ o. AreFewNumbers (numbers_named rs o.name)) ls (λ o m. leaf_few o.name (loop_leaf o m))

    loop_few : (o : Loop) → In o ls → AreFewNumbers (numbers_named rs o.name)
    loop_few o m = all_in (λ o. AreFewNumbers (numbers_named rs o.name)) ls o loops_few m

    counts_few : AllByRecursion IsCount (grid_counts rs (parallel_loops ls))
    counts_few =
        all_mapped (λ o. (numbers_named rs o.name).count) IsCount (parallel_loops ls)
        (all_filtered is_parallel (λ o. AreFewNumbers (numbers_named rs o.name)) (λ o. IsCount (numbers_named rs o.name).count) (λ o e q. (q.some, q.few)) ls loops_few)

    -- a full block has room
    roomy : (c : Split) → In c cuts → is_shifted c ≡ true → c.factor ≤ (numbers_named rs c.whole).count
    roomy c m e = room_for rs c e (all_in (λ c. is_too_short rs c ≡ false) cuts c roomy_all m)

    abbrev Close : List ℕ → Type 0
    Close x = unsigned_abs (numbers_named rs x).low ≤ 32768

    wholes_close : AllByRecursion (λ e. unsigned_abs e.low ≤ 32768) h.extents → (x : List ℕ) → In x xs → Close x
    wholes_close near x m = all_in Close xs x (of xs h.extents (owners.numbers g h.extents k laid) near) m
      where
        of : (ys : List (List ℕ)) (es : List Extent) → NumbersAre rs ys es → AllByRecursion (λ e. unsigned_abs e.low ≤ 32768) es → AllByRecursion Close ys
        of [] es q r = tt
        of (y ∷ ys) [] q r = absurd q
        of (y ∷ ys) (e ∷ es) q r = (subst (λ (z : Numbers). unsigned_abs z.low ≤ 32768) (sym q.0) r.0, of ys es q.1 r.1)

    close_loops : AllByRecursion (λ e. unsigned_abs e.low ≤ 32768) h.extents → AllByRecursion (λ o. IsCloseTurn (loop_turning rs o)) ls
    close_loops near = all_from (λ o. IsCloseTurn (loop_turning rs o)) ls (λ o m. turn_close rs o (loop_few o m) (leaf_close o.name (loop_leaf o m)))
      where
        leaf_close : (y : List ℕ) → LeafName y → Close y
        leaf_close y (inl m) = wholes_close near y m
        leaf_close y (inr (c, m, inl e)) = subst Close (sym e) (subst (λ (z : Numbers). unsigned_abs z.low ≤ 32768) (sym (fits c m).outer) (omega arith))
        leaf_close y (inr (c, m, inr e)) = subst Close (sym e) (subst (λ (z : Numbers). unsigned_abs z.low ≤ 32768) (sym (fits c m).inner) (omega arith))

    -- the same, farther, where no split makes a line of its own
    abbrev IsFilled : Type 0
    IsFilled = AllByRecursion (λ c. makes_line ls rs c ≡ false) cuts

    near_loops : IsNearRegion h.extents → AllByRecursion (λ o. IsBoxTurn (loop_turning rs o)) ls
    near_loops near = all_from (λ o. IsBoxTurn (loop_turning rs o)) ls (λ o m. turn_box rs o (loop_few o m) (leaf_near o.name (loop_leaf o m)))
      where
        wholes_near : (ys : List (List ℕ)) (es : List Extent) → NumbersAre rs ys es → IsNearRegion es → AllByRecursion (λ y. unsigned_abs (numbers_named rs y).low ≤ 65536) ys
        wholes_near [] es q r = tt
        wholes_near (y ∷ ys) [] q r = absurd q
        wholes_near (y ∷ ys) (e ∷ es) q r = (subst (λ (z : Numbers). unsigned_abs z.low ≤ 65536) (sym q.0) r.0, wholes_near ys es q.1 r.1)

        leaf_near : (y : List ℕ) → LeafName y → unsigned_abs (numbers_named rs y).low ≤ 65536
        leaf_near y (inl m) = all_in (λ y. unsigned_abs (numbers_named rs y).low ≤ 65536) xs y (wholes_near xs h.extents (owners.numbers g h.extents k laid) near) m
        leaf_near y (inr (c, m, inl e)) =
            subst (λ (z : List ℕ). unsigned_abs (numbers_named rs z).low ≤ 65536) (sym e) (subst (λ (z : Numbers). unsigned_abs z.low ≤ 65536) (sym (fits c m).outer) (omega arith))
        leaf_near y (inr (c, m, inr e)) =
            subst (λ (z : List ℕ). unsigned_abs (numbers_named rs z).low ≤ 65536) (sym e) (subst (λ (z : Numbers). unsigned_abs z.low ≤ 65536) (sym (fits c m).inner) (omega arith))

    no_shift : IsFilled → (c : Split) → In c cuts → is_shifted c ≡ true → ⊥
    no_shift filled c m e = bare_shift ls rs c (all_in (λ c. makes_line ls rs c ≡ false) cuts c filled m) e

    no_head : IsFilled → (j : ℕ) (step : Step) → slice_get k.head j ≡ Some step → ⊥
    no_head filled j step e = (let r = shape_here.heads j step e in no_shift filled r.split r.among r.shifted)

    -- ---- a nest

    module _ (d : ℕ) (w : NestText) (stands : slice_get k.nests d ≡ Some w) where
      abbrev q : IsTailNest xs bs g.placed others once rs over_grid base k.head d w
      q = shape_here.nests d w stands

      abbrev ts : List Turning
      ts = nest_turns q.body rs ls

      abbrev es : List Entry
      es = q.entries

      abbrev scope : List Binding
      scope = bind_steps (head_scope k) w.steps

      turn_of : (j : ℕ) (e : Entry) → slice_get es j ≡ Some e → is_loop e.line ≡ true →
          IsTurn cuts others once rs over_grid base k.head q.next es ts j e
      turn_of j e at_e loop = of (q.each j e at_e)
        where
          no_let : IsLet cuts others once rs over_grid base k.head q.next es ts j e → ⊥
          no_let t = elim t.kind [
            | inl b ↦ (let clash : true ≡ false = sym loop ∙ ap is_loop b.line in cc clash)
            | inr r ↦ (let clash : true ≡ false = sym loop ∙ ap is_loop r.4 in cc clash)
          ]

          of : IsEntry cuts others once rs over_grid base k.head q.next es ts j e →
              IsTurn cuts others once rs over_grid base k.head q.next es ts j e
          of (inl t) = t
          of (inr t) = absurd (no_let t)

      rises_head : Rises (length k.grid) k.head (names_own xs bs g.placed h.extents k h.laid).next
      rises_head = (names_own xs bs g.placed h.extents k h.laid).rises

      many : length k.grid ≡ base
      many = ap length shape_here.grid

      head_end : (names_own xs bs g.placed h.extents k h.laid).next ≡ base + length k.head
      head_end = (let count = lets_count (length k.grid) _ k.head (names_own xs bs g.placed h.extents k h.laid).lets rises_head in let same_base = many in omega (arith, count, same_base))

      grid_long : length (grid_scope k.grid) ≡ length k.grid
      grid_long = length-map k.grid grid_symbol

      head_long : length (head_scope k) ≤ q.next
      head_long =
          let long = grid_long in
          let most = steps_long (length k.grid) (names_own xs bs g.placed h.extents k h.laid).next k.head rises_head (grid_scope k.grid) (omega (arith, long)) in
          let end = head_end in
          let least = q.low in
          omega (arith, most, end, least)

      -- what stands around the nest stands at its store
      around_there : (i : ℕ) (b : Binding) → slice_get (head_scope k) i ≡ Some b → slice_get scope i ≡ Some b
      around_there i b e =
          let less = slice_get_within (head_scope k) i b e in
          steps_keep (head_scope k) w.steps i less ∙ e

      head_there : (j i : ℕ) (gs : List Form) → slice_get k.head j ≡ Some (Named i Min gs) → slice_get scope i ≡ Some (LetMin gs)
      head_there j i gs e =
          let long = grid_long in
          around_there i (LetMin gs)
          (step_there (length k.grid) (names_own xs bs g.placed h.extents k h.laid).next k.head rises_head (grid_scope k.grid) (omega (arith, long)) i (LetMin gs) (let_tells k.head j i gs e))

      entry_there : (j : ℕ) (e : Entry) → slice_get es j ≡ Some e → slice_get scope (q.next + j) ≡ Some (entry_told e)
      entry_there j e at_e =
          ap (λ (ss : List Step). slice_get (bind_steps (head_scope k) ss) (q.next + j)) q.steps
          ∙ step_there q.next (q.next + length es) (entry_steps q.next es) (entries_rise q.next es) (head_scope k) head_long (q.next + j) (entry_told e) (entry_tells q.next es j e at_e)

      grid_there : (y : List ℕ) (c : Form) → form_named over_grid y ≡ Some c →
          (s : ℕ) × (c ≡ counted_from (low y) s) × (slice_get scope s ≡ Some (grid_symbol (count y))) × (s < base) × (s < q.next)
      grid_there y c named =
          let r = grid_place rs y 0 (parallel_loops ls) c named in
          let j = r.0 in
          let none : 0 + j ≡ j = omega arith in
          let in_grid : slice_get k.grid j ≡ Some (count y) =
          ap (λ (ns : List ℕ). slice_get ns j) shape_here.grid ∙ or_one_at (grid_counts rs (parallel_loops ls)) j (count y) r.2 in
          let in_scope : slice_get (grid_scope k.grid) j ≡ Some (grid_symbol (count y)) = at_map grid_symbol k.grid j (count y) in_grid in
          let within : j < length (grid_scope k.grid) = slice_get_within (grid_scope k.grid) j (grid_symbol (count y)) in_scope in
          let less = slice_get_within k.grid j (count y) in_grid in
          let same_base = many in
          let least = q.low in (
            j,
            r.1 ∙ ap (counted_from (low y)) none,
            around_there j (grid_symbol (count y)) (steps_keep (grid_scope k.grid) k.head j within ∙ in_scope),
            omega (arith, less, same_base),
            omega (arith, less, same_base, least),
          )
        where
          or_one_at : (ns : List ℕ) (j m : ℕ) → slice_get ns j ≡ Some m → slice_get (or_one ns) j ≡ Some m
          or_one_at [] j m e = absurd (cc e)
          or_one_at (n ∷ ns) j m e = e

      off_at : (j : ℕ) (e : Entry) → slice_get es j ≡ Some e → is_loop e.line ≡ true → form_named over_grid e.turning.name ≡ None
      off_at j e at_e loop = (let t = turn_of j e at_e loop in (shapes_of.named_here a sch l well legal small kept all groups n first line g p claims needs at there h lined placed
          alone_here laid split_alone keeps d q.body q.at).off_grid t.place e.turning t.there)

      numbers_at : (j : ℕ) (e : Entry) → slice_get es j ≡ Some e → is_loop e.line ≡ true → (y : List ℕ) → e.turning.name ≡ y → LeafName y → (e.turning.low ≡ low y) × (e.turning.last ≡
          last_number (numbers_named rs y))
      numbers_at j e at_e loop y name leaf =
          let t = turn_of j e at_e loop in
          let z = shapes_of.leaf_turn a sch l well legal small kept all groups n first line g p claims needs at there h lined placed alone_here laid split_alone keeps d q.body q.at t.place
          e.turning t.there y name leaf in
          (z.0, z.1)

      grid_leaf : (y : List ℕ) (c : Form) → form_named over_grid y ≡ Some c → AreFewNumbers (numbers_named rs y)
      grid_leaf y c over =
          let o = (shapes_of.grids a sch l well legal small kept all groups n first line g p claims needs at there h lined placed alone_here laid split_alone keeps y c over).3 in
          subst (λ (x : List ℕ). AreFewNumbers (numbers_named rs x)) o.2 (loop_few o.0 o.1)

      module _ (ranges : AllByRecursion IsBoxTurn q.body.ranges) where
        abbrev unique_at : (j i : ℕ) (e f : Entry) → slice_get es j ≡ Some e → slice_get es i ≡ Some f → is_loop e.line ≡ true → is_loop f.line ≡ true → e.turning.name ≡ f.turning.name → j ≡ i
        unique_at = λ j i e f at_e at_f le lf name. q.once_each j i e f at_e at_f name

        abbrev inners : (c : Split) → In c cuts → form_named over_grid c.inner ≡ None
        inners = λ c m. shapes_of.inners a sch l well legal small kept all groups n first line g p claims needs at there h lined placed alone_here laid split_alone keeps c m

        behind : base + length k.head ≤ q.next
        behind = (let end = head_end in let least = q.low in omega (arith, end, least))

        turns_here : AllByRecursion IsSizedTurn ts
        turns_here =
            turns_all IsSizedTurn rs ls (all_weaker (λ o. AreFewNumbers (numbers_named rs o.name)) (λ o. IsSizedTurn (loop_turning rs o)) (λ o h. turn_few rs o h) ls loops_few) q.body
            (all_weaker IsBoxTurn IsSizedTurn box_turn q.body.ranges ranges)

        sized_at : (j : ℕ) (e : Entry) → slice_get es j ≡ Some e → is_loop e.line ≡ true → IsSizedTurn e.turning
        sized_at j e at_e loop = (let t = turn_of j e at_e loop in all_get IsSizedTurn ts t.place e.turning turns_here t.there)

        counts_here : AllByRecursion IsCount k.grid
        counts_here = subst (AllByRecursion IsCount) (sym shape_here.grid) (or_one_counts (grid_counts rs (parallel_loops ls)) counts_few)

        scope_is : scope ≡ bind_steps (bind_steps (grid_scope k.grid) k.head) (entry_steps q.next es)
        scope_is = ap (bind_steps (head_scope k)) q.steps

        abbrev IsGoodHere : Form → Type 0
        IsGoodHere = IsGood cuts others once rs over_grid base xs fits wholes fit_of whole_few roomy inners k.head q.next es ts q.each unique_at off_at numbers_at sized_at shape_here.heads behind
            k.grid counts_here scope scope_is grid_there grid_leaf head_there entry_there

        boxes_here : AreBoxes scope
        boxes_here = store_boxes cuts others once rs over_grid base xs fits wholes fit_of whole_few roomy inners k.head q.next es ts q.each unique_at off_at numbers_at sized_at shape_here.heads behind
            k.grid counts_here scope scope_is grid_there grid_leaf head_there entry_there

        known_good : AllByRecursion (λ k. IsGoodHere k.form) q.known
        known_good = of q.known q.right
          where
            of : (ks : List Known) → AllByRecursion (λ x. Right cuts others once rs over_grid base k.head q.next es x.name x.form) ks → AllByRecursion (λ x. IsGoodHere x.form) ks
            of [] r = tt
            of (x ∷ ks) r = (
              right_good cuts others once rs over_grid base xs fits wholes fit_of whole_few roomy inners k.head q.next es ts q.each unique_at off_at numbers_at sized_at shape_here.heads behind
                  k.grid counts_here scope scope_is grid_there grid_leaf head_there entry_there x.name x.form r.0,
              of ks r.1,
            )

        -- what is so of none and of each such form is so of each coordinate
        coordinates_all : (Q : Option Form → Type 0) → Q None → ((f : Form) → IsGoodHere f → Q (Some f)) → AllByRecursion Q w.at
        coordinates_all Q none each =
            let known_so = all_weaker (λ k. IsGoodHere k.form) (λ k. Q (Some k.form)) (λ k h. each k.form h) q.known known_good in
            subst (AllByRecursion Q) (sym q.forms)
            (all-append Q (variables_at q.body 0 xs q.known) (ranges_at q.body.ranges q.known) (variables_so Q none q.known known_so q.body 0 xs) (ranges_so Q none q.known known_so q.body.ranges))

        all_index : AllByRecursion IsIndex (map (number_at (firsts scope)) w.at)
        all_index = all_mapped (number_at (firsts scope)) IsIndex w.at (coordinates_all (λ o. IsIndex (number_at (firsts scope) o)) (index_near (pos 0) (omega arith)) (λ f h. h.index))

        all_light : AllByRecursion (IsLightIf scope) w.at
        all_light = coordinates_all (IsLightIf scope) tt (λ f h. h.light)

        -- how far the symbols go, where the region begins near 0
        weights_here : IsCloseRegion g h.extents → (i : ℕ) → weight_at scope i ≤ 49152
        weights_here close =
            all_close cuts others once rs over_grid base xs fits wholes fit_of whole_few roomy inners k.head q.next es ts q.each unique_at off_at numbers_at sized_at shape_here.heads behind k.grid
            counts_here scope scope_is grid_there grid_leaf head_there entry_there (λ c m. wholes_close close.0 c.whole (wholes c m)) turns_close
          where
            ranges_here : AllByRecursion IsCloseTurn q.body.ranges
            ranges_here = subst (AllByRecursion IsCloseTurn) (sym (shapes_of.ranges_are a sch l well legal small kept all groups n first line g p claims needs at there h lined placed
                alone_here laid split_alone keeps d q.body q.at)) (ranges_close g.changes d close.1)

            turns_close : (j : ℕ) (e : Entry) → slice_get es j ≡ Some e → is_loop e.line ≡ true → IsCloseTurn e.turning
            turns_close j e at_e loop =
                let t = turn_of j e at_e loop in
                all_get IsCloseTurn ts t.place e.turning (turns_all IsCloseTurn rs ls (close_loops close.0) q.body ranges_here) t.there

        -- where no split makes a line of its own there is no let
        no_let : IsFilled → (j : ℕ) (e : Entry) → slice_get es j ≡ Some e → IsLet cuts others once rs over_grid base k.head q.next es ts j e → ⊥
        no_let filled j e at_e let_here = of let_here.kind
          where
            c : Split
            c = let_here.split

            of : IsBlock cuts others once rs over_grid base k.head q.next es ts j e c
                ⊎ ((keeps_rest rs c ≡ true) × (form : Form) × (p : IsPair cuts others once rs over_grid base k.head q.next es c form) × (j ≡ p.outer_at + 1)
                × (e.line ≡ Pair form (last_number (numbers_named rs c.whole)))) → ⊥
            of (inl b) = no_shift filled c let_here.among b.shifted
            of (inr (rest, form, two, place, line_is)) =
                let inner = turn_of two.inner_at two.inner two.inner_there two.inner_loop in
                let outer = turn_of two.outer_at two.outer two.outer_there two.outer_loop in
                let named = shapes_of.named_here a sch l well legal small kept all groups n first line g p claims needs at there h lined placed alone_here laid split_alone keeps d q.body q.at in
                let ordered = bodies_ordered a sch legal n g at h.extents k laid (λ c m. all_in (λ c. makes_line ls rs c ≡ false) cuts c filled m) fs d q.body q.at in
                let less = ordered.order c let_here.among (rest_tailed rs c rest) inner.place outer.place two.inner.turning two.outer.turning inner.there two.inner_name outer.there two.outer_name in
                let more = in_order cuts others once rs over_grid base ts es q.woven named.unique named.apart two.inner_at two.outer_at two.inner two.outer two.inner_there two.outer_there two.before
                inner.place outer.place inner.there outer.there in
                omega (arith, less, more)

        plain_so : IsFilled → ArePlain scope
        plain_so filled =
            all_plain cuts others once rs over_grid base xs fits wholes fit_of whole_few roomy inners k.head q.next es ts q.each unique_at off_at numbers_at sized_at shape_here.heads behind k.grid
            counts_here scope scope_is grid_there grid_leaf head_there entry_there (no_let filled) (no_head filled)

        near_so : IsFilled → IsNearRegion h.extents → (i : ℕ) → weight_at scope i ≤ 73728
        near_so filled near =
            all_near cuts others once rs over_grid base xs fits wholes fit_of whole_few roomy inners k.head q.next es ts q.each unique_at off_at numbers_at sized_at shape_here.heads behind k.grid
            counts_here scope scope_is grid_there grid_leaf head_there entry_there (no_let filled) (no_head filled) turns_near
          where
            turns_near : (j : ℕ) (e : Entry) → slice_get es j ≡ Some e → is_loop e.line ≡ true → (unsigned_abs e.turning.low ≤ 73728) × (unsigned_abs e.turning.last ≤ 73728)
            turns_near j e at_e loop =
                let t = turn_of j e at_e loop in
                let z = all_get IsBoxTurn ts t.place e.turning (turns_all IsBoxTurn rs ls (near_loops near) q.body ranges) t.there in
                (z.0, z.1)

    simple_at : SimpleIndices fs → (d : ℕ) (f : FormulaText) → slice_get fs d ≡ Some f → has_simple_indices f ≡ true
    simple_at simple d f e = all_get (λ (y : FormulaText). has_simple_indices y ≡ true) fs d f simple e

    abbrev IsLightly : Type 0
    IsLightly = SimpleIndices fs ⊎ (IsCloseRegion g h.extents ⊎ (IsFilled × IsNearRegion h.extents))

    boxed_here : IsLightly → (d : ℕ) (w : NestText) → slice_get k.nests d ≡ Some w →
        ((b : BodyText) → slice_get bs d ≡ Some b → AllByRecursion IsBoxTurn b.ranges) → IsIndexed a g fs k d w
    boxed_here (inl simple) d w stands ranges =
        let v = shape_here.nests d w stands in
        let here = ranges v.body v.at in
        let light = all_light d w stands here in
        record {
          boxes = boxes_here d w stands here;
          indices = all_index d w stands here;
          light = λ f e. simple_light a g (head_scope k) w f d (simple_at simple d f e) light;
          lefts = λ f e j t at_j s found. kept_light (bind_steps (head_scope k) w.steps) s (lefts_light a g (head_scope k) w f d (simple_at simple d f e) light j t at_j s found);
        }
    boxed_here (inr (inl close)) d w stands ranges =
        let v = shape_here.nests d w stands in
        let here = ranges v.body v.at in
        let few_so = weights_here d w stands here close in
        let more : (i : ℕ) → weight_at (bind_steps (head_scope k) w.steps) i ≤ 73728 = λ i. let less = few_so i in omega (arith, less) in
        record {
          boxes = boxes_here d w stands here;
          indices = all_index d w stands here;
          light = λ f e. few_calls_light a g (head_scope k) w f d more (inr few_so);
          lefts = λ f e j t at_j s found. span_light (bind_steps (head_scope k) w.steps) more (inr few_so) s;
        }
    boxed_here (inr (inr near)) d w stands ranges =
        let v = shape_here.nests d w stands in
        let here = ranges v.body v.at in
        let few_so = near_so d w stands here near.0 near.1 in
        let plain = plain_so d w stands here near.0 in
        record {
          boxes = boxes_here d w stands here;
          indices = all_index d w stands here;
          light = λ f e. few_calls_light a g (head_scope k) w f d few_so (inl plain);
          lefts = λ f e j t at_j s found. span_light (bind_steps (head_scope k) w.steps) few_so (inl plain) s;
        }

    -- the forms of what indices of calls stay within go not far
    calls_few : SimpleIndices fs ⊎ IsCloseRegion g h.extents → (d : ℕ) (f : FormulaText) (w : NestText) → slice_get fs d ≡ Some f → slice_get k.nests d ≡ Some w →
        ((b : BodyText) → slice_get bs d ≡ Some b → AllByRecursion IsBoxTurn b.ranges) → (r : AroundText) → around a g (head_scope k) w f d ≡ Some r → AreCallsFew a r (calls_in f)
    calls_few (inl simple) d f w at_f stands ranges r stands_r =
        let v = shape_here.nests d w stands in
        simple_few a g (head_scope k) w f d (simple_at simple d f at_f) (all_light d w stands (ranges v.body v.at)) r stands_r
    calls_few (inr close) d f w at_f stands ranges r stands_r =
        let v = shape_here.nests d w stands in
        let few_so = weights_here d w stands (ranges v.body v.at) close in
        few_calls_few a g (head_scope k) w f d (λ i. let less = few_so i in omega (arith, less)) few_so r stands_r

    formed_here : (d : ℕ) (w : NestText) → slice_get k.nests d ≡ Some w → IsFormed xs bs d w
    formed_here d w stands = (let v = shape_here.nests d w stands in record { body = v.body; at = v.at; known = v.known; forms = v.forms })

    -- reduction variables have names of their own
    new_names : (d : ℕ) (w : NestText) → slice_get k.nests d ≡ Some w → AreNewNames g.placed (range_names (ranges_of g.changes d))
    new_names d w stands = record {
      loops = λ x m o n e. apart x o.name m (loop_leaf o n) e;
      wholes = λ x m c n e. apart x c.whole m (inl (wholes c n)) e;
      outers = λ x m c n e. apart x c.outer m (inr (c, n, inl refl)) e;
      inners = λ x m c n e. apart x c.inner m (inr (c, n, inr refl)) e;
    }
      where
        apart : (x y : List ℕ) → In x (range_names (ranges_of g.changes d)) → LeafName y → x ≡ y → ⊥
        apart x y m leaf e =
            let v = shape_here.nests d w stands in
            shapes_of.reduction_apart a sch l well legal small kept all groups n first line g p claims needs at there h lined placed alone_here laid split_alone keeps d v.body v.at x y m leaf e

    -- so what is fetched holds the calls
    held_here : IsLightly → (m : LaidText) → slice_get (laid_functions a gs) n ≡ Some (Some m) → m.skeleton ≡ k → skeleton_of g fs m.region ≡ Some
        m.skeleton → g.formulas ≡ Some fs → (SimpleIndices fs ⊎ IsCloseRegion g h.extents) ⊎ ArePlaced a g fs m →
        AreHeld a gs n g fs m.skeleton × AreLeftsHeld a g fs m.region m.skeleton × AreOwnHeld a g fs m.region m.skeleton
    held_here simple m found_there same_skeleton_so over defined own_by =
        let forms : (d : ℕ) (w : NestText) → slice_get m.skeleton.nests d ≡ Some w → IsFormed xs bs d w =
        λ d w stands. formed_here d w (ap (λ (y : SkeletonText). slice_get y.nests d) (sym same_skeleton_so) ∙ stands) in
        let boxes : (d : ℕ) (w : NestText) → slice_get m.skeleton.nests d ≡ Some w → ((b : BodyText) → slice_get bs d ≡ Some b → AllByRecursion IsBoxTurn b.ranges) →
        IsIndexed a g fs m.skeleton d w =
        λ d w stands ranges. subst (λ (y : SkeletonText). IsIndexed a g fs y d w) (sym same_skeleton_so)
        (boxed_here simple d w (ap (λ (y : SkeletonText). slice_get y.nests d) (sym same_skeleton_so) ∙ stands) ranges) in
        let names : (d : ℕ) (w : NestText) → slice_get m.skeleton.nests d ≡ Some w → AreNewNames g.placed (range_names (ranges_of g.changes d)) =
        λ d w stands. new_names d w (ap (λ (y : SkeletonText). slice_get y.nests d) (sym same_skeleton_so) ∙ stands) in (
          held_near a sch l well legal small kept all groups n g at fs defined m found_there over forms boxes,
          lefts_held a sch l well legal small kept all groups n g at fs defined m found_there over forms boxes others once names,
          elim own_by [
            | inl light ↦
                owns_few a sch l well legal small kept all groups n g at fs defined m found_there over forms boxes others once names
                (λ d f w r at_f at_w stands_r.
                let here : slice_get k.nests d ≡ Some w = ap (λ (y : SkeletonText). slice_get y.nests d) (sym same_skeleton_so) ∙ at_w in
                calls_few light d f w at_f here
                (ranges_box a sch l well legal small kept all groups n g at fs defined m found_there over forms boxes d f w at_f at_w) r
                (ap (λ (y : SkeletonText). around a g (head_scope y) w f d) (sym same_skeleton_so) ∙ stands_r))
            | inr settled ↦ owns_held a sch l well legal small kept all groups n g at fs defined m found_there over forms boxes others once names settled
          ],
        )

  -- of a group of the plan
  pub tailed_held : (n : ℕ) (q : CodeGroup) → slice_get l.plan.groups.items n ≡ Some q → (u : StoredText) → slice_get gs n ≡ Some u → AreSplitOnce u.placed.cuts → KeepsInner u.placed.loops
      u.placed.cuts → (fs : List FormulaText) →
      u.formulas ≡ Some fs → (m : LaidText) → slice_get (laid_functions a gs) n ≡ Some (Some m) → IsNearOrSimple a sch n u fs m →
      AreHeld a gs n u fs m.skeleton × AreLeftsHeld a u fs m.region m.skeleton × AreOwnHeld a u fs m.region m.skeleton
  tailed_held n q theirs u at once_only inners_only fs defined m found_there simple =
      let me = made_at a sch l well legal small kept all groups n q theirs in
      let r = alone_body a (roots a sch l well legal small kept all groups) items 0 0 4 gs l.plan.groups.items items l.certificate.needs.items (groups.bodies all)
      (λ j v e. let none : 0 + j ≡ j = omega arith in ap (slice_get items) none ∙ e) n me.stored q me.is theirs in
      let b = r.placed in
      let counted : 0 + n ≡ n = omega arith in
      let body = subst (λ (i : ℕ). HasBody a (roots a sch l well legal small kept all groups) i b.first_claim b.line me.stored q b.claims b.needs) counted b.body in
      let lined = b.lined in
      let begins : body_line plan n ≡ b.line + 1 = omega (arith, lined) in
      let own : (j : ℕ) (w : CodeClaim) → slice_get items j ≡ Some w → b.line < w.line → w.line < b.line + (lines (statement_of q.body) + 1) → In w b.claims =
      λ j w e low less. let x = r.alone j w e (omega (arith, lined, low)) (omega (arith, lined, less)) in at_in b.claims x.0 w x.2 in
      let extents : me.laid.region ≡ body.extents = same_extents a sch l well legal small kept all groups n q me.laid body.extents theirs me.found body.region in
      let skeleton : me.laid.skeleton ≡ body.skeleton =
      same_skeleton a sch l well legal small kept all groups n me.stored me.laid body.formulas body.extents body.skeleton me.is me.found body.defined extents body.laid in
      let laid : IsLaidBy me.stored body.extents body.skeleton =
      subst (λ (k : SkeletonText). IsLaidBy me.stored body.extents k) skeleton (subst (λ (es : List Extent). IsLaidBy me.stored es me.laid.skeleton) extents me.laid_by) in
      let stored : me.stored ≡ u = some_same me.stored u (sym me.is ∙ at) in
      let region : me.laid ≡ m = some_same me.laid m (some_same (Some me.laid) (Some m) (sym me.found ∙ found_there)) in
      let formulas : body.formulas ≡ fs = same body.formulas fs (sym body.defined ∙ ap (λ (y : StoredText). y.formulas) stored ∙ defined) in
      let once_here : AreSplitOnce me.stored.placed.cuts = subst (λ (y : StoredText). AreSplitOnce y.placed.cuts) (sym stored) once_only in
      let inners_here : KeepsInner me.stored.placed.loops me.stored.placed.cuts = subst (λ (y : StoredText). KeepsInner y.placed.loops y.placed.cuts) (sym stored) inners_only in
      let roomy : AllByRecursion (λ c. is_too_short (loop_numbers me.stored.subject.variables me.stored.placed.cuts body.extents) c ≡ false) me.stored.placed.cuts =
      subst (λ (es : List Extent). AllByRecursion (λ c. is_too_short (loop_numbers me.stored.subject.variables me.stored.placed.cuts es) c ≡ false) me.stored.placed.cuts) extents
      (long_shifts a sch kept n me.stored me.laid me.is me.found) in
      let near_here : IsNearOrSimple a sch n me.stored body.formulas me.laid =
      subst (λ (y : LaidText). IsNearOrSimple a sch n me.stored body.formulas y) (sym region)
      (subst (λ (vs : List FormulaText). IsNearOrSimple a sch n me.stored vs m) (sym formulas) (subst (λ (y : StoredText). IsNearOrSimple a sch n y fs m) (sym stored) simple)) in
      let own_by : (SimpleIndices body.formulas ⊎ IsCloseRegion me.stored body.extents) ⊎ ArePlaced a me.stored body.formulas me.laid =
      elim near_here [
        | inl (inl close) ↦ inl (inr (subst (IsCloseRegion me.stored) extents close))
        | inl (inr kept) ↦ inr kept.2
        | inr is ↦ inl (inl is)
      ] in
      let simple_here : SimpleIndices body.formulas ⊎ (IsCloseRegion me.stored body.extents
      ⊎ (AllByRecursion (λ c. makes_line me.stored.placed.loops (loop_numbers me.stored.subject.variables me.stored.placed.cuts body.extents) c ≡ false) me.stored.placed.cuts
      × IsNearRegion body.extents)) =
      elim near_here [
        | inl (inl close) ↦ inr (inl (subst (IsCloseRegion me.stored) extents close))
        | inl (inr kept) ↦
            inr (inr (
              subst (λ (es : List Extent). AllByRecursion (λ c. makes_line me.stored.placed.loops (loop_numbers me.stored.subject.variables me.stored.placed.cuts es) c ≡ false)
                  me.stored.placed.cuts) extents (kept.0.filled me.laid me.found),
              subst IsNearRegion extents kept.1,
            ))
        | inr is ↦ inl is
      ] in
      let few_here : AllByRecursion IsFew body.extents = subst (AllByRecursion IsFew) extents (regions_few a gs n me.laid all me.found) in
      let over : skeleton_of me.stored body.formulas me.laid.region ≡ Some me.laid.skeleton =
      subst (λ (vs : List FormulaText). skeleton_of me.stored vs me.laid.region ≡ Some me.laid.skeleton)
      (same me.formulas body.formulas (sym me.defined ∙ body.defined)) me.over in
      let here = held_here n b.first_claim b.line me.stored q b.claims b.needs me.is theirs body begins b.numbered own laid once_here inners_here roomy few_here simple_here
      me.laid me.found skeleton over body.defined own_by in
      let held_there : AreHeld a gs n u fs m.skeleton =
      subst (λ (y : LaidText). AreHeld a gs n u fs y.skeleton) region
      (subst (λ (vs : List FormulaText). AreHeld a gs n u vs me.laid.skeleton) formulas (subst (λ (y : StoredText). AreHeld a gs n y body.formulas me.laid.skeleton) stored here.0)) in
      let lefts_there : AreLeftsHeld a u fs m.region m.skeleton =
      subst (λ (y : LaidText). AreLeftsHeld a u fs y.region y.skeleton) region
      (subst (λ (vs : List FormulaText). AreLeftsHeld a u vs me.laid.region me.laid.skeleton) formulas
      (subst (λ (y : StoredText). AreLeftsHeld a y body.formulas me.laid.region me.laid.skeleton) stored here.1)) in
      let own_there : AreOwnHeld a u fs m.region m.skeleton =
      subst (λ (y : LaidText). AreOwnHeld a u fs y.region y.skeleton) region
      (subst (λ (vs : List FormulaText). AreOwnHeld a u vs me.laid.region me.laid.skeleton) formulas
      (subst (λ (y : StoredText). AreOwnHeld a y body.formulas me.laid.region me.laid.skeleton) stored here.2)) in
      (held_there, lefts_there, own_there)
