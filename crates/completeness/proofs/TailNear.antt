-- Around the stores of functions whose loops are split once, with any tail, in any order, each symbol is of a loop over numbers or a let of such loops; at the first numbers of all of them
-- each coordinate is
-- a number of 32 bits, and none is heavy: over the entries of a nest, by what is known of their symbols.
use Rattle.std.proofs.Common.{◌≡◌, ℕ, suc, ◌+◌, ◌-◌, ◌*◌, ◌<◌, ◌≤◌, ◌^◌, Bool, true, false, List, [], ◌∷◌, length, Option, Some, None, refl, sym, ap, ◌∙◌, subst, inl, inr, ◌⊎◌, arith}
use Rattle.std.specs.Prelude.{ℤ, pos, negsuc, ◌+ℤ◌, ◌-ℤ◌, ◌*ℤ◌, ◌≤ℤ◌, ◌==◌, nat_lt, if◌then◌else◌, slice_get}
use Rattle.std.specs.List.{AllByRecursion}
use Rattle.std.specs.Int.RustNames.{unsigned_abs}
use Rattle.std.proofs.lemmas.Bool.Decides.{nat_tests}
use Rattle.std.proofs.lemmas.Int.{ints}
use Rattle.std.proofs.Math.Nat.{mul-le-mul_right}
use Rattle.tree.specs.Names.{IsIndex}
use Rattle.lin.specs.Forms.{Form, number, combined, without, value_of as form_value}
use Rattle.lin.specs.declared.form.Multiple.{Multiple}
use Rattle.lin.specs.declared.scope.Binding.{Binding}
use Rattle.lin.specs.declared.scope.Binding.TheVariants.{Loop as Bound, LetMin}
use Rattle.lin.specs.declared.span.Span1.{Span1}
use Rattle.lin.proofs.Limits.{combined-means}
use Rattle.bounds.specs.Spans.{numbers}
use Rattle.plan.specs.declared.stmt.Pick.TheVariants.{Min, Max}
use Rattle.soundness.specs.Claims.{In}
use Rattle.soundness.proofs.Refines.{eq_true}
use Rattle.headline.proofs.Members.{got}
use Rattle.sched.specs.declared.schedule.Split.{Split}
use Rattle.sched.specs.declared.numbers.Numbers.{Numbers}
use Rattle.sched.specs.declared.nest.Turning.{Turning}
use Rattle.sched.specs.declared.skeleton.Known.{Known}
use Rattle.sched.specs.declared.skeleton.Step.{Step}
use Rattle.sched.specs.declared.skeleton.Step.TheVariants.{Turns, Named, Tested}
use Rattle.sched.specs.Numbers.{numbers_named, last_number}
use Rattle.sched.specs.Standing.{form_named, alone, counted_from, room}
use Rattle.sched.specs.Skeleton.{span}
use Rattle.sched.specs.Around.{grid_symbol, grid_scope, bind_steps}
use Rattle.lower.proofs.Blocking.{IsSmall, CutFits}
use Rattle.completeness.proofs.Halves.{AreOthers, by_inner, inner_outer}
use Rattle.completeness.proofs.Lanes.{AreOnce}
use Rattle.completeness.proofs.BlockDims.{top, top_low}
use Rattle.completeness.proofs.BlockSums.{pair, pair_is, multiple, two_of, start_is}
use Rattle.completeness.proofs.BlockNear.{pair_either, pair_value, IsLightList}
use Rattle.completeness.proofs.Boxes.{IsPlain, ArePlain, IsCapped, IsLet, IsBox, AreBoxes, weight_of, weight_at, weight, both_under}
use Rattle.completeness.proofs.FirstNumbers.{first_of, firsts}
use Rattle.completeness.proofs.GuardSums.{left_is}
use Rattle.completeness.proofs.NearBoxes.{IsTurn as IsSizedTurn, AreFewNumbers, IsCount, count_box, count_weight}
use Rattle.completeness.proofs.Searched.{one_of}
use Rattle.completeness.proofs.StepsThere.{Tells, all_told, line_told, entry_told, entries_told}
use Rattle.std.proofs.lemmas.Option.{slice_get_within}
use Rattle.completeness.proofs.TailSteps.{Line, Loop as LoopLine, Block, Pair, is_loop}
use Rattle.completeness.proofs.TailTurns.{IsLet as IsLetEntry, Entry, entry_steps, is_shifted, keeps_rest, not_shifted, Leaf, LeafBefore, LetAt, IsBegun, IsLimit, IsPair, Kept, Right}
use Rattle.completeness.proofs.TailTurns.{IsBlock, IsEntry}
use Rattle.completeness.proofs.TailSkeletons.{IsHead}
use Rattle.completeness.proofs.TailReady.{outer_low, outer_last, inner_low, inner_last}

module _ (cuts : List Split) (others : AreOthers cuts) (once : AreOnce cuts) (rs : List Numbers) (grid : List Known) (base : ℕ) (xs : List (List ℕ)) (fits : (c : Split) → In c cuts → CutFits rs c)
    (wholes : (c : Split) → In c cuts → In c.whole xs) (fit_of : (x : List ℕ) → In x xs → IsSmall (numbers_named rs x) × (0 < (numbers_named rs x).count))
    (whole_few : (x : List ℕ) → In x xs → AreFewNumbers (numbers_named rs x)) (roomy : (c : Split) → In c cuts → is_shifted c ≡ true → c.factor ≤ (numbers_named rs c.whole).count)
    (inners : (c : Split) → In c cuts → form_named grid c.inner ≡ None) where
  abbrev low : List ℕ → ℤ
  low x = (numbers_named rs x).low

  abbrev count : List ℕ → ℕ
  count x = (numbers_named rs x).count

  abbrev last : List ℕ → ℤ
  last x = last_number (numbers_named rs x)

  abbrev pub LeafName : List ℕ → Type 0
  LeafName y = In y xs ⊎ ((c : Split) × In c cuts × ((y ≡ c.outer) ⊎ (y ≡ c.inner)))

  whole_fit : (c : Split) → In c cuts → IsSmall (numbers_named rs c.whole) × (0 < (numbers_named rs c.whole).count)
  whole_fit c m = fit_of c.whole (wholes c m)

  -- the number of the last block, and all numbers before it
  module _ (c : Split) (m : In c cuts) where
    abbrev tops : ℕ
    tops = top (count c.whole) c.factor

    times_low : tops * c.factor ≤ 8191
    times_low = (let whole = whole_few c.whole (wholes c m) in let most = whole.few in let some = whole.some in let less = top_low (count c.whole) c.factor some (fits c m).some in omega
        (arith, most, some, less))

  module _ (head : List Step) (n : ℕ) (es : List Entry) (ts : List Turning) (entries : (j : ℕ) (e : Entry) → slice_get es j ≡ Some e → IsEntry cuts others once rs grid base head n es ts j e)
      (unique : (j k : ℕ) (e f : Entry) → slice_get es j ≡ Some e → slice_get es k ≡ Some f → is_loop e.line ≡ true → is_loop f.line ≡ true → e.turning.name ≡ f.turning.name → j ≡ k)
      (off_grid : (j : ℕ) (e : Entry) → slice_get es j ≡ Some e → is_loop e.line ≡ true → form_named grid e.turning.name ≡ None)
      (turns : (j : ℕ) (e : Entry) → slice_get es j ≡ Some e → is_loop e.line ≡ true → (y : List ℕ) → e.turning.name ≡ y → LeafName y → (e.turning.low ≡ low y) × (e.turning.last ≡ last y))
      (turn_here : (j : ℕ) (e : Entry) → slice_get es j ≡ Some e → is_loop e.line ≡ true → IsSizedTurn e.turning)
      (heads : (j : ℕ) (step : Step) → slice_get head j ≡ Some step → IsHead cuts others once rs grid base (base + j) step) (behind : base + length head ≤ n) (counts : List ℕ)
      (grid_few : AllByRecursion IsCount counts) (scope : List Binding) (scope_is : scope ≡ bind_steps (bind_steps (grid_scope counts) head) (entry_steps n es))
      (grid_there : (y : List ℕ) (c : Form) → form_named grid y ≡ Some c →
      (s : ℕ) × (c ≡ counted_from (low y) s) × (slice_get scope s ≡ Some (grid_symbol (count y))) × (s < base) × (s < n)) (leaf_few : (y : List ℕ) (c : Form) → form_named grid y ≡ Some c →
      AreFewNumbers (numbers_named rs y))
      (head_there : (j i : ℕ) (fs : List Form) → slice_get head j ≡ Some (Named i Min fs) → slice_get scope i ≡ Some (LetMin fs))
      (entry_there : (j : ℕ) (e : Entry) → slice_get es j ≡ Some e → slice_get scope (n + j) ≡ Some (entry_told e)) where
    abbrev LeafHere : List ℕ → Form → Type 0
    LeafHere = Leaf cuts others once rs grid base head n es

    abbrev EntryHere : ℕ → Entry → Type 0
    EntryHere = IsEntry cuts others once rs grid base head n es ts

    abbrev v : ℕ → ℤ
    v = firsts scope

    -- ---- loops

    loop_told : (e : Entry) → is_loop e.line ≡ true → entry_told e ≡ Bound (span e.turning.low e.turning.last e.limits)
    loop_told e is = of e.line is
      where
        of : (l : Line) → is_loop l ≡ true → entry_told (record { turning = e.turning; line = l; limits = e.limits }) ≡ Bound (span e.turning.low e.turning.last e.limits)
        of LoopLine q = refl
        of (Block f z) q = absurd (cc q)
        of (Pair f z) q = absurd (cc q)

    loop_there : (j : ℕ) (e : Entry) → slice_get es j ≡ Some e → is_loop e.line ≡ true → slice_get scope (n + j) ≡ Some (Bound (span e.turning.low e.turning.last e.limits))
    loop_there j e at is = entry_there j e at ∙ ap (λ (b : Binding). Some b) (loop_told e is)

    limited_by : (j : ℕ) (e : Entry) → slice_get es j ≡ Some e → (e.limits ≡ []) ⊎ ((c : Split) × In c cuts × (keeps_rest rs c ≡ true) × (e.turning.name ≡ c.inner) × (f : Form)
        × IsLimit cuts others once rs grid base head n es j c f × (e.limits ≡ f ∷ []))
    limited_by j e at = of (entries j e at)
      where
        of : EntryHere j e → (e.limits ≡ []) ⊎ ((c : Split) × In c cuts × (keeps_rest rs c ≡ true) × (e.turning.name ≡ c.inner) × (f : Form) × IsLimit cuts others once rs grid base head n es j c f ×
            (e.limits ≡ f ∷ []))
        of (inl t) = t.limits
        of (inr l) = inl l.bare

    -- the outer loop of a split, whose symbol counts its blocks from 0
    outer_entry : (c : Split) (m : In c cuts) (o : ℕ) (w : Entry) → slice_get es o ≡ Some w → is_loop w.line ≡ true → w.turning.name ≡ c.outer →
        slice_get scope (n + o) ≡ Some (Bound (numbers (pos 0) (pos (tops c m))))
    outer_entry c m o w at_w loop name =
        let y = turns o w at_w loop c.outer name (inr (c, m, inl refl)) in
        let begins : w.turning.low ≡ pos 0 = y.0 ∙ outer_low rs c (fits c m) (whole_fit c m) in
        let stops : w.turning.last ≡ pos (tops c m) = y.1 ∙ outer_last rs c (fits c m) (whole_fit c m) in
        let none : w.limits ≡ [] = elim (limited_by o w at_w) [
          | inl none ↦ none
          | inr (b, mb, k, inner, f, limit, is) ↦ absurd (inner_outer cuts others b c mb m (sym inner ∙ name))
        ] in
        loop_there o w at_w loop ∙ (λ j. Some (Bound (span (begins j) (stops j) (none j))))

    outer_grid : (c : Split) (m : In c cuts) (outer : Form) → form_named grid c.outer ≡ Some outer →
        (s : ℕ) × (outer ≡ alone s) × (slice_get scope s ≡ Some (Bound (numbers (pos 0) (pos (tops c m))))) × (s < base) × (s < n)
    outer_grid c m outer over =
        let r = grid_there c.outer outer over in
        let zero_low : low c.outer ≡ pos 0 = outer_low rs c (fits c m) (whole_fit c m) in
        let last_is : pos (count c.outer) -ℤ pos 1 ≡ pos (tops c m) = last_from (low c.outer) (count c.outer) (tops c m) zero_low (outer_last rs c (fits c m) (whole_fit c m)) in
        (r.0, r.1 ∙ ap (λ (y : ℤ). counted_from y r.0) zero_low, r.2 ∙ ap (λ (y : ℤ). Some (Bound (numbers (pos 0) y))) last_is, r.3, r.4)
      where
        last_from : (z : ℤ) (n t : ℕ) → z ≡ pos 0 → (z +ℤ pos n -ℤ pos 1) ≡ pos t → pos n -ℤ pos 1 ≡ pos t
        last_from z n t h e = omega (arith, ints, h, e)

    abbrev Before : (c : Split) → ℕ → Type 0
    Before c s = (s < n) ⊎ ((o : ℕ) × (w : Entry) × (slice_get es o ≡ Some w) × (is_loop w.line ≡ true) × (w.turning.name ≡ c.outer) × (s ≡ n + o))

    outer_told : (c : Split) (m : In c cuts) (outer : Form) → LeafHere c.outer outer →
        (s : ℕ) × (outer ≡ alone s) × (slice_get scope s ≡ Some (Bound (numbers (pos 0) (pos (tops c m))))) × Before c s
    outer_told c m outer (inl over) = (let r = outer_grid c m outer over in (r.0, r.1, r.2, inl r.4))
    outer_told c m outer (inr (o, w, at_w, loop, name, is)) = (n + o, is, outer_entry c m o w at_w loop name, inr (o, w, at_w, loop, name, refl))

    -- the symbols of both loops differ
    symbols_differ : (c : Split) (m : In c cuts) (s : ℕ) → Before c s → (i : ℕ) (e : Entry) → slice_get es i ≡ Some e → e.turning.name ≡ c.inner → (s == n + i) ≡ false
    symbols_differ c m s (inl less) i e at_e name = (let under : s < n + i = omega (arith, less) in grind (arith, nat_tests, under))
    symbols_differ c m s (inr (o, w, at_w, loop, outer_name, is)) i e at_e name = of (s == n + i) refl
      where
        of : (b : Bool) → (s == n + i) ≡ b → (s == n + i) ≡ false
        of false q = q
        of true q =
            let sums = eq_true s (n + i) q in
            let place_so : o ≡ i = omega (arith, sums, is) in
            let some : Some w ≡ Some e = sym at_w ∙ ap (slice_get es) place_so ∙ at_e in
            let same_entry : w ≡ e = cc some in
            absurd (inner_outer cuts others c c m m (sym name ∙ ap (λ (x : Entry). x.turning.name) (sym same_entry) ∙ outer_name))

    inner_numbers : (c : Split) (m : In c cuts) (i : ℕ) (e : Entry) → slice_get es i ≡ Some e → is_loop e.line ≡ true → e.turning.name ≡ c.inner →
        (e.turning.low ≡ pos 0) × (e.turning.last ≡ pos (c.factor - 1))
    inner_numbers c m i e at_e loop name =
        let y = turns i e at_e loop c.inner name (inr (c, m, inr refl)) in
        (y.0 ∙ inner_low rs c (fits c m) (whole_fit c m), y.1 ∙ inner_last rs c (fits c m) (whole_fit c m))

    -- ---- a guarded split's inner loop

    capped : (j : ℕ) (e : Entry) → slice_get es j ≡ Some e → is_loop e.line ≡ true → (c : Split) (m : In c cuts) → e.turning.name ≡ c.inner → (f : Form) →
        IsLimit cuts others once rs grid base head n es j c f → e.limits ≡ f ∷ [] → IsCapped scope (span e.turning.low e.turning.last e.limits)
    capped j e at_e loop c m name f limit is = of limit.by_outer
      where
        whole : AreFewNumbers (numbers_named rs c.whole)
        whole = whole_few c.whole (wholes c m)

        size : ℕ
        size = c.factor - 1

        made : (s : ℕ) → limit.outer ≡ alone s → s < n + j → slice_get scope s ≡ Some (Bound (numbers (pos 0) (pos (tops c m)))) → IsCapped scope (span e.turning.low e.turning.last e.limits)
        made s form_is before there_s =
            let some = (fits c m).some in
            let wide = (fits c m).few in
            let size_so : c.factor ≡ suc size = omega (arith, some) in
            let symbols : (s == n + j) ≡ false = grind (arith, nat_tests, before) in
            let begins_so = ap (combined (number (low c.whole)) (pos c.factor)) (sym form_is) ∙ limit.begins in
            let form = pair_is (low c.whole) c.factor s some (n + j) limit.start limit.form symbols begins_so limit.sum in
            let behind_s : nat_lt s (n + j) ≡ true = grind (arith, nat_tests, before) in
            let two : limit.form ≡ two_of (low c.whole) (pos (suc size)) s (pos 1) (n + j) =
            form.0 ∙ ap (λ (z : ℕ). pair (low c.whole) s (pos z) (n + j)) size_so
            ∙ (λ k. record {
              constant = low c.whole;
              terms = if behind_s k then multiple s (pos (suc size)) ∷ multiple (n + j) (pos 1) ∷ [] else multiple (n + j) (pos 1) ∷ multiple s (pos (suc size)) ∷ [];
            }) in
            let left = left_is (last c.whole) (low c.whole) size s (n + j) before f
            (ap (λ (w : Form). combined (number (last c.whole)) (negsuc 0) (without w (n + j))) (sym two) ∙ limit.less) in
            let few_count = whole.few in
            let some_count = whole.some in
            let times = times_low c m in
            let times_so : tops c m * suc size ≡ tops c m * c.factor = ap (λ (z : ℕ). tops c m * z) (sym size_so) in
            let rest : last c.whole +ℤ negsuc 0 *ℤ low c.whole ≡ pos (count c.whole - 1) = of_last (low c.whole) (count c.whole) some_count in
            let turned : negsuc 0 *ℤ pos (suc size) ≡ negsuc size = omega (arith, ints) in
            let form_so : f ≡ record { constant = pos (count c.whole - 1); terms = record { symbol = s; factor = negsuc size } ∷ [] } =
            left ∙ (λ i. record { constant = rest i; terms = record { symbol = s; factor = turned i } ∷ [] }) in
            let limits_so = is ∙ ap (λ (z : Form). z ∷ []) form_so in
            let ends = inner_numbers c m j e at_e loop name in
            record {
              last = size;
              most = count c.whole - 1;
              factor = size;
              symbol = s;
              top = tops c m;
              outer = there_s;
              is = (λ i. span (ends.0 i) (ends.1 i) (limits_so i));
              few = omega (arith, wide, size_so);
              light = omega (arith, few_count, some_count, times, times_so);
            }
          where
            of_last : (z : ℤ) (n : ℕ) → 0 < n → ((z +ℤ pos n -ℤ pos 1) +ℤ negsuc 0 *ℤ z) ≡ pos (n - 1)
            of_last z n some = omega (arith, ints, some)

        of : LeafBefore cuts others once rs grid base head n es j c.outer limit.outer → IsCapped scope (span e.turning.low e.turning.last e.limits)
        of (inl over) = (let r = outer_grid c m limit.outer over in let less = r.4 in made r.0 r.1 (omega (arith, less)) r.2)
        of (inr (o, w, at_w, w_loop, w_name, form_is, less)) = made (n + o) form_is (omega (arith, less)) (outer_entry c m o w at_w w_loop w_name)

    -- ---- lets

    weight_there : (s t : ℕ) → slice_get scope s ≡ Some (Bound (numbers (pos 0) (pos t))) → weight_at scope s ≤ t
    weight_there s t there = subst (λ (b : Option Binding). weight_of b ≤ t) (sym there) (both_under 0 t t (omega arith) (omega arith))

    -- of blocks
    block_light : (c : Split) (m : In c cuts) (s : ℕ) → slice_get scope s ≡ Some (Bound (numbers (pos 0) (pos (tops c m)))) → weight_at scope s * c.factor ≤ 8191
    block_light c m s there = (let most = mul-le-mul_right c.factor (weight_there s (tops c m) there) in let times = times_low c m in omega (arith, most, times))

    near_last : (z : ℤ) (k : ℕ) → 0 < k → k ≤ 8192 → (z ≤ℤ (z +ℤ pos k -ℤ pos 1)) × (unsigned_abs (z +ℤ pos k -ℤ pos 1) ≤ unsigned_abs z + 16384)
    near_last z k some few = (omega (arith, ints, some), omega (arith, ints, some, few))

    near_room : (z : ℤ) (k w : ℕ) → 0 < w → w ≤ k → k ≤ 8192 → (z ≤ℤ (z +ℤ pos k -ℤ pos 1 -ℤ pos w +ℤ pos 1)) × (unsigned_abs (z +ℤ pos k -ℤ pos 1 -ℤ pos w +ℤ pos 1) ≤ unsigned_abs z + 16384)
    near_room z k w wide some few = (omega (arith, ints, wide, some), omega (arith, ints, wide, some, few))

    -- the first number of a shifted block
    block_let : (c : Split) (m : In c cuts) → is_shifted c ≡ true → (s : ℕ) → slice_get scope s ≡ Some (Bound (numbers (pos 0) (pos (tops c m)))) → (form : Form) →
        combined (number (low c.whole)) (pos c.factor) (alone s) ≡ Some form → IsLet scope (form ∷ number (room (numbers_named rs c.whole) c.factor) ∷ [])
    block_let c m shifts s there form begins =
        let is : form ≡ one_of (low c.whole) (pos c.factor) s =
        (combined-means (number (low c.whole)) (pos c.factor) (alone s) form begins).is ∙ start_is (low c.whole) c.factor s (fits c m).some in
        let light = block_light c m s there in
        let ends = near_room (low c.whole) (count c.whole) c.factor (fits c m).some (roomy c m shifts) (whole_few c.whole (wholes c m)).few in
        subst (λ (f : Form). IsLet scope (f ∷ number (room (numbers_named rs c.whole) c.factor) ∷ [])) (sym is) (record {
          form = one_of (low c.whole) (pos c.factor) s;
          last = room (numbers_named rs c.whole) c.factor;
          is = refl;
          over = ((numbers (pos 0) (pos (tops c m)), there, refl), tt);
          light = omega (arith, light);
          near = ends.1;
          least = ends.0;
        })

    -- a position behind a guard
    pair_let : (c : Split) (m : In c cuts) (s i : ℕ) (e : Entry) → slice_get es i ≡ Some e → is_loop e.line ≡ true → e.turning.name ≡ c.inner → Before c s →
        slice_get scope s ≡ Some (Bound (numbers (pos 0) (pos (tops c m)))) → (start form : Form) → combined (number (low c.whole)) (pos c.factor) (alone s) ≡ Some start →
        combined start (pos 1) (alone (n + i)) ≡ Some form → e.limits ≡ [] → IsLet scope (form ∷ number (last c.whole) ∷ [])
    pair_let c m s i e at_e loop name before there start form begins sum none =
        let numbers_here = inner_numbers c m i e at_e loop name in
        let there_i : slice_get scope (n + i) ≡ Some (Bound (numbers (pos 0) (pos (c.factor - 1)))) =
        loop_there i e at_e loop ∙ (λ j. Some (Bound (span (numbers_here.0 j) (numbers_here.1 j) (none j)))) in
        let is = (pair_is (low c.whole) c.factor s (fits c m).some (n + i) start form (symbols_differ c m s before i e at_e name) begins sum).0 in
        let light = block_light c m s there in
        let inner_light = weight_there (n + i) (c.factor - 1) there_i in
        let wide = (fits c m).few in
        let ends = near_last (low c.whole) (count c.whole) (whole_few c.whole (wholes c m)).some (whole_few c.whole (wholes c m)).few in
        subst (λ (f : Form). IsLet scope (f ∷ number (last c.whole) ∷ [])) (sym is) (record {
          form = pair (low c.whole) s (pos c.factor) (n + i);
          last = last c.whole;
          is = refl;
          over = pair_either (low c.whole) s c.factor (n + i) (AllByRecursion (λ (t : Multiple). (x : Span1) × (slice_get scope t.symbol ≡ Some (Bound x)) × (x.lower ≡ number (pos 0) ∷ [])))
              ((numbers (pos 0) (pos (tops c m)), there, refl), ((numbers (pos 0) (pos (c.factor - 1)), there_i, refl), tt))
              ((numbers (pos 0) (pos (c.factor - 1)), there_i, refl), ((numbers (pos 0) (pos (tops c m)), there, refl), tt));
          light = pair_either (low c.whole) s c.factor (n + i) (λ us. weight scope us ≤ 16384) (omega (arith, light, inner_light, wide)) (omega (arith, light, inner_light, wide));
          near = ends.1;
          least = ends.0;
        })

    -- no limit where the outer loop stands inside of the inner one
    none_pair : (c : Split) (m : In c cuts) (form : Form) (p : IsPair cuts others once rs grid base head n es c form) → p.inner.limits ≡ []
    none_pair c m form p = of (limited_by p.inner_at p.inner p.inner_there)
      where
        of : (p.inner.limits ≡ []) ⊎ ((c' : Split) × In c' cuts × (keeps_rest rs c' ≡ true) × (p.inner.turning.name ≡ c'.inner) × (g : Form)
            × IsLimit cuts others once rs grid base head n es p.inner_at c' g × (p.inner.limits ≡ g ∷ [])) → p.inner.limits ≡ []
        of (inl none) = none
        of (inr (c', m', keeps, named, g, limit, is)) = by limit.by_outer
          where
            same_split : c' ≡ c
            same_split = by_inner cuts others c' c m' m (sym named ∙ p.inner_name)

            by : LeafBefore cuts others once rs grid base head n es p.inner_at c'.outer limit.outer → p.inner.limits ≡ []
            by (inl over) =
                let clash : Some limit.outer ≡ None = sym (ap (λ (b : Split). form_named grid b.outer) (sym same_split) ∙ over) ∙ ap (form_named grid) (sym p.outer_name)
                ∙ off_grid p.outer_at p.outer p.outer_there p.outer_loop in
                absurd (cc clash)
            by (inr (j, x, at_x, x_loop, x_name, form_is, less)) =
                let same_place : j ≡ p.outer_at = unique j p.outer_at x p.outer at_x p.outer_there x_loop p.outer_loop (x_name ∙ ap (λ (b : Split). b.outer) same_split ∙ sym p.outer_name) in
                let before = p.before in
                absurd (omega (arith, less, before, same_place))

    -- ---- all symbols

    -- what is known of an entry's symbol
    entry_box : (j : ℕ) (e : Entry) → slice_get es j ≡ Some e → IsBox scope (entry_told e)
    entry_box j e at_e = of (entries j e at_e)
      where
        of : EntryHere j e → IsBox scope (entry_told e)
        of (inl t) = subst (IsBox scope) (sym (loop_told e t.loop)) (by t.limits)
          where
            by : (e.limits ≡ []) ⊎ ((c : Split) × In c cuts × (keeps_rest rs c ≡ true) × (e.turning.name ≡ c.inner) × (f : Form) × IsLimit cuts others once rs grid base head n es j c f ×
                (e.limits ≡ f ∷ [])) → IsBox scope (Bound (span e.turning.low e.turning.last e.limits))
            by (inl none) =
                inr (inl (e.turning.low, e.turning.last, (λ i. span e.turning.low e.turning.last (none i)), (turn_here j e at_e t.loop).some))
            by (inr (c, m, keeps, name, f, limit, is)) = inr (inr (capped j e at_e t.loop c m name f limit is))
        of (inr l) = by l.kind
          where
            c : Split
            c = l.split

            by : IsBlock cuts others once rs grid base head n es ts j e c
                ⊎ ((keeps_rest rs c ≡ true) × (form : Form) × (p : IsPair cuts others once rs grid base head n es c form) × (j ≡ p.outer_at + 1) × (e.line ≡ Pair form (last c.whole))) →
                IsBox scope (entry_told e)
            by (inl b) =
                subst (λ (w : Line). IsBox scope (line_told w e.turning e.limits)) (sym b.line)
                (block_let c l.among b.shifted (n + b.outer_at) (outer_entry c l.among b.outer_at b.outer b.outer_there b.outer_loop b.outer_name) b.form b.begins)
            by (inr (keeps, form, p, place, line)) =
                subst (λ (w : Line). IsBox scope (line_told w e.turning e.limits)) (sym line)
                (pair_let c l.among (n + p.outer_at) p.inner_at p.inner p.inner_there p.inner_loop p.inner_name (inr (p.outer_at, p.outer, p.outer_there, p.outer_loop, p.outer_name, refl))
                (outer_entry c l.among p.outer_at p.outer p.outer_there p.outer_loop p.outer_name) p.start form p.begins p.sum (none_pair c l.among form p))

    -- and of a let over the grid
    head_box : (j : ℕ) (step : Step) → slice_get head j ≡ Some step → (s : ℕ) (b : Binding) → Tells s b (step ∷ []) → IsBox scope b
    head_box j step at_j s b tells = of (heads j step at_j)
      where
        of : IsHead cuts others once rs grid base (base + j) step → IsBox scope b
        of h =
            let c = h.split in
            let r = outer_grid c h.among h.outer h.by_outer in
            let begins = ap (combined (number (low c.whole)) (pos c.factor)) (sym r.1) ∙ h.begins in
            let told = subst (λ (t : Step). Tells s b (t ∷ [])) h.is tells in
            elim told [ inl k ↦ subst (IsBox scope) k.1 (block_let c h.among h.shifted r.0 r.2 h.form begins) | inr k ↦ absurd k ]

    -- all numbers of symbols are of 33 bits
    abbrev IsFar : Binding → Type 0
    IsFar b = weight_of (Some b) ≤ 2 ^ 33

    low_far : (c : Split) → In c cuts → unsigned_abs (low c.whole) ≤ 2 ^ 32
    low_far c m = (let fit = whole_few c.whole (wholes c m) in let from = fit.from in let to = fit.to in omega (arith, ints, from, to))

    first_constant : (c : Split) (m : In c cuts) (s : ℕ) (form : Form) → combined (number (low c.whole)) (pos c.factor) (alone s) ≡ Some form → form.constant ≡ low c.whole
    first_constant c m s form begins =
        ap (λ (f : Form). f.constant) ((combined-means (number (low c.whole)) (pos c.factor) (alone s) form begins).is ∙ start_is (low c.whole) c.factor s (fits c m).some)

    pair_constant : (c : Split) (m : In c cuts) (form : Form) (p : IsPair cuts others once rs grid base head n es c form) → form.constant ≡ low c.whole
    pair_constant c m form p =
        ap (λ (f : Form). f.constant) (pair_is (low c.whole) c.factor (n + p.outer_at) (fits c m).some (n + p.inner_at) p.start form
        (symbols_differ c m (n + p.outer_at) (inr (p.outer_at, p.outer, p.outer_there, p.outer_loop, p.outer_name, refl)) p.inner_at p.inner p.inner_there p.inner_name) p.begins p.sum).0

    let_far : (c : Split) (m : In c cuts) (form : Form) (z : ℤ) → form.constant ≡ low c.whole → IsFar (LetMin (form ∷ number z ∷ []))
    let_far c m form z is = (let far = low_far c m in subst (λ (y : ℤ). unsigned_abs y + 16384 ≤ 2 ^ 33) (sym is) (omega (arith, far)))

    entry_far : (j : ℕ) (e : Entry) → slice_get es j ≡ Some e → IsFar (entry_told e)
    entry_far j e at_e = of (entries j e at_e)
      where
        of : EntryHere j e → IsFar (entry_told e)
        of (inl t) = subst IsFar (sym (loop_told e t.loop)) (by t.limits)
          where
            by : (e.limits ≡ []) ⊎ ((c : Split) × In c cuts × (keeps_rest rs c ≡ true) × (e.turning.name ≡ c.inner) × (f : Form) × IsLimit cuts others once rs grid base head n es j c f ×
                (e.limits ≡ f ∷ [])) → IsFar (Bound (span e.turning.low e.turning.last e.limits))
            by (inl none) =
                let turn = turn_here j e at_e t.loop in
                let from = turn.from in
                let to = turn.to in
                let most = turn.last in
                subst (λ (fs : List Form). IsFar (Bound (span e.turning.low e.turning.last fs))) (sym none)
                (both_under (unsigned_abs e.turning.low) (unsigned_abs e.turning.last) (2 ^ 33) (first_far e.turning.low from to) (omega (arith, most)))
              where
                first_far : (z : ℤ) → negsuc 2147483647 ≤ℤ z → z ≤ℤ pos 2147483647 → unsigned_abs z ≤ 2 ^ 33
                first_far z h k = omega (arith, ints, h, k)
            by (inr (c, m, keeps, name, f, limit, is)) =
                subst (λ (x : Span1). IsFar (Bound x)) (sym (capped j e at_e t.loop c m name f limit is).is) (omega arith)
        of (inr l) = by l.kind
          where
            c : Split
            c = l.split

            by : IsBlock cuts others once rs grid base head n es ts j e c
                ⊎ ((keeps_rest rs c ≡ true) × (form : Form) × (p : IsPair cuts others once rs grid base head n es c form) × (j ≡ p.outer_at + 1) × (e.line ≡ Pair form (last c.whole))) →
                IsFar (entry_told e)
            by (inl b) =
                subst (λ (w : Line). IsFar (line_told w e.turning e.limits)) (sym b.line)
                (let_far c l.among b.form (room (numbers_named rs c.whole) c.factor) (first_constant c l.among (n + b.outer_at) b.form b.begins))
            by (inr (keeps, form, p, place, line)) =
                subst (λ (w : Line). IsFar (line_told w e.turning e.limits)) (sym line) (let_far c l.among form (last c.whole) (pair_constant c l.among form p))

    head_far : (j : ℕ) (step : Step) → slice_get head j ≡ Some step → (s : ℕ) (b : Binding) → Tells s b (step ∷ []) → IsFar b
    head_far j step at_j s b tells = of (heads j step at_j)
      where
        of : IsHead cuts others once rs grid base (base + j) step → IsFar b
        of h =
            let c = h.split in
            let r = outer_grid c h.among h.outer h.by_outer in
            let begins = ap (combined (number (low c.whole)) (pos c.factor)) (sym r.1) ∙ h.begins in
            let told = subst (λ (t : Step). Tells s b (t ∷ [])) h.is tells in
            elim told [
              | inl k ↦ subst IsFar k.1 (let_far c h.among h.form (room (numbers_named rs c.whole) c.factor) (first_constant c h.among r.0 h.form begins))
              | inr k ↦ absurd k
            ]

    -- what is so of grid symbols, of such of which nothing is known, of lets over the grid and of entries is so of all
    module _ (P : Binding → Type 0) (none : P (Bound (record { lower = []; upper = [] }))) (over : (k : ℕ) → IsCount k → P (grid_symbol k))
        (lets : (j : ℕ) (step : Step) → slice_get head j ≡ Some step → (s : ℕ) (b : Binding) → Tells s b (step ∷ []) → P b)
        (each : (j : ℕ) (e : Entry) → slice_get es j ≡ Some e → P (entry_told e)) where
      grid_all : (ks : List ℕ) → AllByRecursion IsCount ks → AllByRecursion P (grid_scope ks)
      grid_all [] h = tt
      grid_all (k ∷ ks) h = (over k h.0, grid_all ks h.1)

      of_head : (ss : List Step) → ((j : ℕ) (step : Step) → slice_get ss j ≡ Some step → (s : ℕ) (b : Binding) → Tells s b (step ∷ []) → P b) → (s : ℕ) (b : Binding) → Tells s b ss → P b
      of_head [] f s b t = absurd t
      of_head (Turns i x kind ∷ ss) f s b (inl k) = f 0 (Turns i x kind) refl s b (inl k)
      of_head (Turns i x kind ∷ ss) f s b (inr t) = of_head ss (λ j step q. f (suc j) step q) s b t
      of_head (Named i Min fs ∷ ss) f s b (inl k) = f 0 (Named i Min fs) refl s b (inl k)
      of_head (Named i Min fs ∷ ss) f s b (inr t) = of_head ss (λ j step q. f (suc j) step q) s b t
      of_head (Named i Max fs ∷ ss) f s b (inl k) = f 0 (Named i Max fs) refl s b (inl k)
      of_head (Named i Max fs ∷ ss) f s b (inr t) = of_head ss (λ j step q. f (suc j) step q) s b t
      of_head (Tested l h ∷ ss) f s b t = of_head ss (λ j step q. f (suc j) step q) s b t

      all_symbols : AllByRecursion P scope
      all_symbols =
          subst (AllByRecursion P) (sym scope_is)
          (all_told P none (entry_steps n es) (bind_steps (grid_scope counts) head) (all_told P none head (grid_scope counts) (grid_all counts grid_few) (of_head head lets))
          (λ s b t. (let r = entries_told n es s b t in subst P r.3 (each r.0 r.1 r.2))))

    pub store_boxes : AreBoxes scope
    store_boxes i b e = got (IsBox scope) scope i b (all_symbols (IsBox scope) (inl refl) (count_box scope) head_box entry_box) e

    all_far : (i : ℕ) → weight_at scope i ≤ 2 ^ 33
    all_far i = of (slice_get scope i) refl
      where
        of : (o : Option Binding) → slice_get scope i ≡ o → weight_of o ≤ 2 ^ 33
        of None e = omega arith
        of (Some b) e = got IsFar scope i b (all_symbols IsFar (omega arith) (λ k c. (let most = count_weight k c in omega (arith, most))) head_far entry_far) e

    -- where loops and splits begin near 0 no symbol goes far
    module _ (whole_close : (c : Split) → In c cuts → unsigned_abs (low c.whole) ≤ 32768)
        (turn_close : (j : ℕ) (e : Entry) → slice_get es j ≡ Some e → is_loop e.line ≡ true → (unsigned_abs e.turning.low ≤ 49152) × (unsigned_abs e.turning.last ≤ 49152)) where
      abbrev IsClose : Binding → Type 0
      IsClose b = weight_of (Some b) ≤ 49152

      let_close : (c : Split) (m : In c cuts) (form : Form) (z : ℤ) → form.constant ≡ low c.whole → IsClose (LetMin (form ∷ number z ∷ []))
      let_close c m form z is = (let close = whole_close c m in subst (λ (y : ℤ). unsigned_abs y + 16384 ≤ 49152) (sym is) (omega (arith, close)))

      entry_close : (j : ℕ) (e : Entry) → slice_get es j ≡ Some e → IsClose (entry_told e)
      entry_close j e at_e = of (entries j e at_e)
        where
          of : EntryHere j e → IsClose (entry_told e)
          of (inl t) = subst IsClose (sym (loop_told e t.loop)) (by t.limits)
            where
              by : (e.limits ≡ []) ⊎ ((c : Split) × In c cuts × (keeps_rest rs c ≡ true) × (e.turning.name ≡ c.inner) × (f : Form) × IsLimit cuts others once rs grid base head n es j c f ×
                  (e.limits ≡ f ∷ [])) → IsClose (Bound (span e.turning.low e.turning.last e.limits))
              by (inl none) =
                  let turn = turn_close j e at_e t.loop in
                  subst (λ (fs : List Form). IsClose (Bound (span e.turning.low e.turning.last fs))) (sym none)
                  (both_under (unsigned_abs e.turning.low) (unsigned_abs e.turning.last) 49152 turn.0 turn.1)
              by (inr (c, m, keeps, name, f, limit, is)) =
                  subst (λ (x : Span1). IsClose (Bound x)) (sym (capped j e at_e t.loop c m name f limit is).is) (omega arith)
          of (inr l) = by l.kind
            where
              c : Split
              c = l.split

              by : IsBlock cuts others once rs grid base head n es ts j e c
                  ⊎ ((keeps_rest rs c ≡ true) × (form : Form) × (p : IsPair cuts others once rs grid base head n es c form) × (j ≡ p.outer_at + 1) × (e.line ≡ Pair form (last c.whole))) →
                  IsClose (entry_told e)
              by (inl b) =
                  subst (λ (w : Line). IsClose (line_told w e.turning e.limits)) (sym b.line)
                  (let_close c l.among b.form (room (numbers_named rs c.whole) c.factor) (first_constant c l.among (n + b.outer_at) b.form b.begins))
              by (inr (keeps, form, p, place, line)) =
                  subst (λ (w : Line). IsClose (line_told w e.turning e.limits)) (sym line) (let_close c l.among form (last c.whole) (pair_constant c l.among form p))

      head_close : (j : ℕ) (step : Step) → slice_get head j ≡ Some step → (s : ℕ) (b : Binding) → Tells s b (step ∷ []) → IsClose b
      head_close j step at_j s b tells = of (heads j step at_j)
        where
          of : IsHead cuts others once rs grid base (base + j) step → IsClose b
          of h =
              let c = h.split in
              let r = outer_grid c h.among h.outer h.by_outer in
              let begins = ap (combined (number (low c.whole)) (pos c.factor)) (sym r.1) ∙ h.begins in
              let told = subst (λ (t : Step). Tells s b (t ∷ [])) h.is tells in
              elim told [
                | inl k ↦ subst IsClose k.1 (let_close c h.among h.form (room (numbers_named rs c.whole) c.factor) (first_constant c h.among r.0 h.form begins))
                | inr k ↦ absurd k
              ]

      pub all_close : (i : ℕ) → weight_at scope i ≤ 49152
      all_close i = of (slice_get scope i) refl
        where
          of : (o : Option Binding) → slice_get scope i ≡ o → weight_of o ≤ 49152
          of None e = omega arith
          of (Some b) e = got IsClose scope i b (all_symbols IsClose (omega arith) (λ k c. (let most = count_weight k c in omega (arith, most))) head_close entry_close) e

    -- where there are no lets all symbols are of loops, and near where these are
    module _ (no_let : (j : ℕ) (e : Entry) → slice_get es j ≡ Some e → IsLetEntry cuts others once rs grid base head n es ts j e → ⊥) (no_head : (j : ℕ) (step : Step) → slice_get head j ≡
        Some step → ⊥) where
      pub all_plain : ArePlain scope
      all_plain i b e = got IsPlain scope i b (all_symbols IsPlain tt (λ k c. tt) (λ j step at_j s b tells. absurd (no_head j step at_j)) entry_plain) e
        where
          entry_plain : (j : ℕ) (e : Entry) → slice_get es j ≡ Some e → IsPlain (entry_told e)
          entry_plain j e at_e = of (entries j e at_e)
            where
              of : EntryHere j e → IsPlain (entry_told e)
              of (inl t) = subst IsPlain (sym (loop_told e t.loop)) tt
              of (inr l) = absurd (no_let j e at_e l)

      module _ (turn_near : (j : ℕ) (e : Entry) → slice_get es j ≡ Some e → is_loop e.line ≡ true → (unsigned_abs e.turning.low ≤ 73728) × (unsigned_abs e.turning.last ≤ 73728)) where
        abbrev IsNear : Binding → Type 0
        IsNear b = weight_of (Some b) ≤ 73728

        entry_near : (j : ℕ) (e : Entry) → slice_get es j ≡ Some e → IsNear (entry_told e)
        entry_near j e at_e = of (entries j e at_e)
          where
            of : EntryHere j e → IsNear (entry_told e)
            of (inr l) = absurd (no_let j e at_e l)
            of (inl t) = subst IsNear (sym (loop_told e t.loop)) (by t.limits)
              where
                by : (e.limits ≡ []) ⊎ ((c : Split) × In c cuts × (keeps_rest rs c ≡ true) × (e.turning.name ≡ c.inner) × (f : Form) × IsLimit cuts others once rs grid base head n es j c f ×
                    (e.limits ≡ f ∷ [])) → IsNear (Bound (span e.turning.low e.turning.last e.limits))
                by (inl none) =
                    let turn = turn_near j e at_e t.loop in
                    subst (λ (fs : List Form). IsNear (Bound (span e.turning.low e.turning.last fs))) (sym none)
                    (both_under (unsigned_abs e.turning.low) (unsigned_abs e.turning.last) 73728 turn.0 turn.1)
                by (inr (c, m, keeps, name, f, limit, is)) =
                    subst (λ (x : Span1). IsNear (Bound x)) (sym (capped j e at_e t.loop c m name f limit is).is) (omega arith)

        pub all_near : (i : ℕ) → weight_at scope i ≤ 73728
        all_near i = of (slice_get scope i) refl
          where
            of : (o : Option Binding) → slice_get scope i ≡ o → weight_of o ≤ 73728
            of None e = omega arith
            of (Some b) e =
                got IsNear scope i b (all_symbols IsNear (omega arith) (λ k c. (let most = count_weight k c in omega (arith, most))) (λ j step at_j s b tells. absurd (no_head j step at_j))
                entry_near) e

    -- ---- positions at the first numbers

    pub record IsGood (f : Form) : Type 0 where
      pub index : IsIndex (form_value f v)
      pub light : IsLightList scope f.terms

    good_by : (f : Form) (z : ℤ) → form_value f v ≡ z → negsuc 2147483647 ≤ℤ z → z ≤ℤ pos 2147483647 → IsLightList scope f.terms → IsGood f
    good_by f z is from to light = record { index = subst IsIndex (sym is) (record { from = omega (arith, ints, from); to = omega (arith, ints, to) }); light = light }

    counted_good : (z : ℤ) (s : ℕ) (y : ℤ) → v s ≡ y → negsuc 2147483647 ≤ℤ (z +ℤ y) → (z +ℤ y) ≤ℤ pos 2147483647 → IsGood (counted_from z s)
    counted_good z s y is from to =
        let most = all_far s in
        good_by (counted_from z s) (z +ℤ y) ((λ j. z +ℤ (pos 1 *ℤ is j +ℤ pos 0)) ∙ once_more y) from to (omega (arith, most))
      where
        once_more : (y : ℤ) → z +ℤ (pos 1 *ℤ y +ℤ pos 0) ≡ z +ℤ y
        once_more y = omega (arith, ints)

    -- the first number of a loop is that of its span, of a let its form's
    loop_first : (j : ℕ) (e : Entry) → slice_get es j ≡ Some e → is_loop e.line ≡ true → v (n + j) ≡ e.turning.low
    loop_first j e at_e loop = ap first_of (loop_there j e at_e loop)

    leaf_good : (y : List ℕ) (f : Form) → LeafHere y f → IsGood f
    leaf_good y f (inl over) =
        let r = grid_there y f over in
        let few_here = leaf_few y f over in
        subst IsGood (sym r.1) (counted_good (low y) r.0 (pos 0) (ap first_of r.2) (more (low y) few_here.from) (less (low y) few_here.to))
      where
        more : (z : ℤ) → negsuc 2147483647 ≤ℤ z → negsuc 2147483647 ≤ℤ (z +ℤ pos 0)
        more z h = omega (arith, ints, h)

        less : (z : ℤ) → z ≤ℤ pos 2147483647 → (z +ℤ pos 0) ≤ℤ pos 2147483647
        less z h = omega (arith, ints, h)
    leaf_good y f (inr (i, e, at_e, loop, name, is)) =
        let turn = turn_here i e at_e loop in
        subst IsGood (sym is) (counted_good (pos 0) (n + i) e.turning.low (loop_first i e at_e loop) (more e.turning.low turn.from) (less e.turning.low turn.to))
      where
        more : (z : ℤ) → negsuc 2147483647 ≤ℤ z → negsuc 2147483647 ≤ℤ (pos 0 +ℤ z)
        more z h = omega (arith, ints, h)

        less : (z : ℤ) → z ≤ℤ pos 2147483647 → (pos 0 +ℤ z) ≤ℤ pos 2147483647
        less z h = omega (arith, ints, h)

    pair_weight : (z : ℤ) (s c m : ℕ) → c ≤ 1024 → weight_at scope s * c ≤ 2 ^ 34 → IsLightList scope (pair z s (pos c) m).terms
    pair_weight z s c m wide first =
        let second = all_far m in
        pair_either z s c m (λ us. weight scope us ≤ 2 ^ 38 + 2 ^ 37 + 2 ^ 36) (omega (arith, first, second)) (omega (arith, first, second))

    whole_from : (c : Split) → In c cuts → negsuc 2147483647 ≤ℤ low c.whole
    whole_from c m = (whole_few c.whole (wholes c m)).from

    whole_to : (c : Split) → In c cuts → low c.whole ≤ℤ pos 2147483647
    whole_to c m = (whole_few c.whole (wholes c m)).to

    pub right_good : (y : List ℕ) (f : Form) → Right cuts others once rs grid base head n es y f → IsGood f
    right_good y f (inl leaf) = leaf_good y f leaf
    right_good y f (inr u) = inner_of u.by_inner
      where
        c : Split
        c = u.split

        m : In c cuts
        m = u.there

        outer_is : (s : ℕ) × (u.outer ≡ alone s) × (slice_get scope s ≡ Some (Bound (numbers (pos 0) (pos (tops c m))))) × Before c s
        outer_is = outer_told c m u.outer u.by_outer

        begins_so : combined (number (low c.whole)) (pos c.factor) (alone outer_is.0) ≡ Some u.first
        begins_so = ap (combined (number (low c.whole)) (pos c.factor)) (sym outer_is.1) ∙ u.begins

        inner_of : LeafHere c.inner u.inner → IsGood f
        inner_of (inl over) = (let clash : Some u.inner ≡ None = sym over ∙ inners c m in absurd (cc clash))
        inner_of (inr (i, e, there_e, loop, name, inner_form)) = begun_of u.begun
          where
            sum_so : combined u.start (pos 1) (alone (n + i)) ≡ Some u.form
            sum_so = ap (combined u.start (pos 1)) (sym inner_form) ∙ u.sum

            zero_inner : v (n + i) ≡ pos 0
            zero_inner = loop_first i e there_e loop ∙ (inner_numbers c m i e there_e loop name).0

            begun_of : IsBegun cuts others once rs grid base head n es c u.first u.start → IsGood f
            begun_of (inl (plain, start_so)) = kept_of u.kept
              where
                form_so : u.form ≡ pair (low c.whole) outer_is.0 (pos c.factor) (n + i)
                form_so =
                    let both = pair_is (low c.whole) c.factor outer_is.0 (fits c m).some (n + i) u.first u.form (symbols_differ c m outer_is.0 outer_is.3 i e there_e name) begins_so
                    (ap (λ (g : Form). combined g (pos 1) (alone (n + i))) (sym start_so) ∙ sum_so) in
                    both.0

                form_good : IsGood u.form
                form_good =
                    let light = block_light c m outer_is.0 outer_is.2 in
                    subst IsGood (sym form_so)
                    (good_by (pair (low c.whole) outer_is.0 (pos c.factor) (n + i)) (low c.whole)
                    (pair_value (low c.whole) outer_is.0 c.factor (n + i) v (ap first_of outer_is.2) zero_inner) (whole_from c m) (whole_to c m)
                    (pair_weight (low c.whole) outer_is.0 c.factor (n + i) (fits c m).few (omega (arith, light))))

                kept_of : Kept cuts others once rs grid base head n es c u.form f → IsGood f
                kept_of (inl (free, is)) = subst IsGood (sym is) form_good
                kept_of (inr (inl l)) = subst IsGood (sym l.is) form_good
                kept_of (inr (inr p)) =
                    let value : v (n + (p.pair.outer_at + 1)) ≡ low c.whole = ap first_of (entry_there (p.pair.outer_at + 1) _ p.there) ∙ pair_constant c m u.form p.pair in
                    subst IsGood (sym p.is) (counted_good (pos 0) (n + (p.pair.outer_at + 1)) (low c.whole) value (more (low c.whole) (whole_from c m)) (less (low c.whole) (whole_to c m)))
                  where
                    more : (z : ℤ) → negsuc 2147483647 ≤ℤ z → negsuc 2147483647 ≤ℤ (pos 0 +ℤ z)
                    more z h = omega (arith, ints, h)

                    less : (z : ℤ) → z ≤ℤ pos 2147483647 → (pos 0 +ℤ z) ≤ℤ pos 2147483647
                    less z h = omega (arith, ints, h)
            begun_of (inr (shifts, s, at, start_so)) = kept_of u.kept
              where
                sum_block : combined (alone s) (pos 1) (alone (n + i)) ≡ Some u.form
                sum_block = ap (λ (g : Form). combined g (pos 1) (alone (n + i))) (sym start_so) ∙ sum_so

                let_there : LetAt cuts others once rs grid base head n es c u.first s →
                    (slice_get scope s ≡ Some (LetMin (u.first ∷ number (room (numbers_named rs c.whole) c.factor) ∷ []))) × ((s == n + i) ≡ false)
                let_there (inl (j, at_j, symbol)) =
                    let short = slice_get_within head j _ at_j in
                    let less : s < n + i = omega (arith, short, symbol, behind) in
                    (ap (slice_get scope) symbol ∙ head_there j (base + j) (u.first ∷ number (room (numbers_named rs c.whole) c.factor) ∷ []) at_j, grind (arith, nat_tests, less))
                let_there (inr (j, at_j, symbol)) = (ap (slice_get scope) symbol ∙ entry_there j _ at_j, differ (j == i) refl)
                  where
                    differ : (b : Bool) → (j == i) ≡ b → (s == n + i) ≡ false
                    differ false w = grind (arith, nat_tests, w, symbol)
                    differ true w =
                        let place = eq_true j i w in
                        let some = sym at_j ∙ ap (slice_get es) place ∙ there_e in
                        let clash : false ≡ true = ap (λ (o : Option Entry). elim o [ Some x ↦ is_loop x.line | None ↦ false ]) some ∙ loop in
                        absurd (cc clash)

                form_good : IsGood u.form
                form_good =
                    let t = let_there at in
                    let form_block = (pair_is (pos 0) 1 s (omega arith) (n + i) (alone s) u.form t.1 refl sum_block).0 in
                    let value : v s ≡ low c.whole = ap first_of t.0 ∙ first_constant c m outer_is.0 u.first begins_so in
                    let most = all_far s in
                    let times : weight_at scope s * 1 ≤ 2 ^ 34 = omega (arith, most) in
                    subst IsGood (sym form_block)
                    (good_by (pair (pos 0) s (pos 1) (n + i)) (low c.whole) (block_value s (n + i) (low c.whole) value zero_inner) (whole_from c m) (whole_to c m)
                    (pair_weight (pos 0) s 1 (n + i) (omega arith) times))
                  where
                    block_value : (s j : ℕ) (z : ℤ) → v s ≡ z → v j ≡ pos 0 → form_value (pair (pos 0) s (pos 1) j) v ≡ z
                    block_value s j z first second =
                        pair_either (pos 0) s 1 j (λ us. form_value (record { constant = pos 0; terms = us }) v ≡ z)
                        ((λ k. pos 0 +ℤ (pos 1 *ℤ first k +ℤ (pos 1 *ℤ second k +ℤ pos 0))) ∙ one z) ((λ k. pos 0 +ℤ (pos 1 *ℤ second k +ℤ (pos 1 *ℤ first k +ℤ pos 0))) ∙ two z)
                      where
                        one : (z : ℤ) → pos 0 +ℤ (pos 1 *ℤ z +ℤ (pos 1 *ℤ pos 0 +ℤ pos 0)) ≡ z
                        one z = omega (arith, ints)

                        two : (z : ℤ) → pos 0 +ℤ (pos 1 *ℤ pos 0 +ℤ (pos 1 *ℤ z +ℤ pos 0)) ≡ z
                        two z = omega (arith, ints)

                kept_of : Kept cuts others once rs grid base head n es c u.form f → IsGood f
                kept_of (inl (free, is)) = subst IsGood (sym is) form_good
                kept_of (inr (inl l)) = (let clash : true ≡ false = sym shifts ∙ not_shifted rs c l.keeps in absurd (cc clash))
                kept_of (inr (inr p)) = (let clash : true ≡ false = sym shifts ∙ not_shifted rs c p.keeps in absurd (cc clash))
