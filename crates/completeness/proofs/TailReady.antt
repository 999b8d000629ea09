-- At the stores of functions whose loops are split once, with any tail, in any order, each coordinate is a number of 32 bits, has a place and, of updates, lies in the claims' region: over the
-- entries of a nest, by what the scope tells of their symbols.
use Rattle.std.proofs.Common.{◌≡◌, ℕ, suc, ◌+◌, ◌-◌, ◌*◌, ◌<◌, ◌≤◌, ◌^◌, Bool, true, false, ◌&&◌, ◌||◌, List, [], ◌∷◌, length, Some, None, refl, sym, ap, ◌∙◌, subst, inl, inr, ◌⊎◌, arith}
use Rattle.std.specs.Prelude.{ℤ, pos, negsuc, ◌+ℤ◌, ◌-ℤ◌, ◌≤ℤ◌, ◌==◌, if◌then◌else◌, nat_lt, slice_get}
use Rattle.std.specs.Int.RustNames.{unsigned_abs}
use Rattle.std.proofs.lemmas.Bool.Decides.{nat_tests}
use Rattle.std.proofs.lemmas.Int.{ints}
use Rattle.std.proofs.lemmas.Option.{slice_get_within}
use Rattle.std.proofs.Math.Nat.{mul-suc}
use Rattle.lin.specs.Forms.{Form, number, combined, without, is_within_limits}
use Rattle.lin.specs.Search.{at_most}
use Rattle.lin.specs.declared.scope.Binding.{Binding}
use Rattle.lin.specs.declared.scope.Binding.TheVariants.{Loop as Bound, LetMin}
use Rattle.lin.specs.declared.span.Span1.{Span1}
use Rattle.bounds.specs.Spans.{numbers}
use Rattle.plan.specs.declared.stmt.Pick.TheVariants.{Min}
use Rattle.plan.specs.declared.stmt.Places.{Places}
use Rattle.plan.specs.declared.stmt.Places.TheVariants.{From}
use Rattle.soundness.specs.Claims.{In}
use Rattle.soundness.specs.Obligations.{Known as KnownHere, Rules, exactly}
use Rattle.soundness.specs.Shown.{raised, is_seated, is_within}
use Rattle.soundness.proofs.Refines.{eq_true}
use Rattle.rules.specs.Bounding.Rules.{is_index_span, rules_of}
use Rattle.rules.specs.Bounding.Scopes.{scope_of}
use Rattle.sched.specs.declared.schedule.Split.{Split}
use Rattle.sched.specs.declared.schedule.Tail.{Tail}
use Rattle.sched.specs.declared.schedule.Tail.TheVariants.{Guard, Roundup, Shift}
use Rattle.plan.specs.Plan.{Plan}
use Rattle.plan.specs.Certificate.Certificate.{Certificate}
use Rattle.meaning.specs.Algorithm.{Algorithm}
use Rattle.sched.specs.declared.placing.Loop.{Loop}
use Rattle.sched.specs.declared.numbers.Numbers.{Numbers}
use Rattle.sched.specs.declared.nest.Turning.{Turning}
use Rattle.sched.specs.declared.skeleton.Known.{Known}
use Rattle.sched.specs.declared.skeleton.Step.{Step}
use Rattle.sched.specs.declared.skeleton.Step.TheVariants.{Named}
use Rattle.sched.specs.Numbers.{numbers_named, parallel_loops, last_number}
use Rattle.sched.specs.Standing.{form_named, alone, counted_from, has_rest, room}
use Rattle.sched.specs.Skeleton.{span}
use Rattle.sched.specs.Around.{grid_symbol}
use Rattle.lower.proofs.Blocking.{IsSmall, CutFits}
use Rattle.completeness.specs.Blocked.{is_tailed}
use Rattle.completeness.proofs.Halves.{AreOthers, by_whole, by_inner, inner_outer}
use Rattle.completeness.proofs.Lanes.{AreOnce}
use Rattle.completeness.proofs.LoopMoves.{other_way}
use Rattle.lin.proofs.Limits.{combined-means}
use Rattle.completeness.proofs.PureNests.{loop_name}
use Rattle.completeness.proofs.PlainTurns.{hits}
use Rattle.completeness.proofs.BlockDims.{top, blocks_top, top_low}
use Rattle.completeness.proofs.BlockSums.{pair, pair_is, multiple, two_of, start_is}
use Rattle.completeness.proofs.BlockInside.{pair_inside, pair_bounds, kept_under, kept_inside}
use Rattle.completeness.proofs.BlockBounds.{two_above, block_above, block_below}
use Rattle.completeness.proofs.BlockLets.{kept_let_under, kept_let_over, kept_let_inside, shifted_under, shifted_over, shifted_inside, shifted_from, shifted_to}
use Rattle.completeness.proofs.GuardSums.{left_over, left_is, kept_below}
use Rattle.completeness.proofs.PlainBounds.{loop_above, loop_below}
use Rattle.completeness.proofs.Searched.{one_of, up_limited}
use Rattle.completeness.proofs.SelfBounds.{form_self}
use Rattle.completeness.proofs.StoreBounds.{symbol_inside, counted_inside}
use Rattle.completeness.proofs.PlacedStores.{IsRightForm}
use Rattle.completeness.proofs.StepsThere.{entry_told}
use Rattle.completeness.proofs.TailSteps.{Line, Loop as LoopLine, Block, Pair, is_loop}
use Rattle.completeness.proofs.TailTurns.{Entry, let_of, is_shifted, keeps_rest, not_shifted, Leaf, LeafBefore, LetAt, IsBegun, IsLimit, IsPair, IsPaired, Kept, IsWhole, Right, IsBlock, IsEntry}

-- a split keeps the numbers within its loop, by a guard or by a shift
pub kept_or_shifted : (rs : List Numbers) (c : Split) → is_shifted c ≡ false → keeps_rest rs c ≡ is_tailed rs c
kept_or_shifted rs c e = of c.tail e
  where
    of : (t : Tail) → (elim t [ Guard ↦ false | Roundup ↦ false | Shift ↦ true ]) ≡ false →
        ◌≡◌ {A = Bool} (elim t [ Guard ↦ has_rest c (numbers_named rs c.whole).count | Roundup ↦ false | Shift ↦ false ])
        (elim t [ Guard ↦ has_rest c (numbers_named rs c.whole).count | Roundup ↦ false | Shift ↦ true ])
    of Guard q = refl
    of Roundup q = refl
    of Shift q = absurd (cc q)

pub shifted_tailed : (rs : List Numbers) (c : Split) → is_shifted c ≡ true → is_tailed rs c ≡ true
shifted_tailed rs c e = of c.tail e
  where
    of : (t : Tail) → (elim t [ Guard ↦ false | Roundup ↦ false | Shift ↦ true ]) ≡ true → (elim t [ Guard ↦ has_rest c (numbers_named rs c.whole).count | Roundup ↦ false | Shift ↦ true ]) ≡ true
    of Guard q = absurd (cc q)
    of Roundup q = absurd (cc q)
    of Shift q = refl

-- ---- the numbers of a split

module _ (rs : List Numbers) (c : Split) (fits : CutFits rs c) (fit : IsSmall (numbers_named rs c.whole) × (0 < (numbers_named rs c.whole).count)) where
  abbrev pub own : Numbers
  own = numbers_named rs c.whole

  abbrev pub size : ℕ
  size = c.factor - 1

  abbrev pub tops : ℕ
  tops = top own.count c.factor

  abbrev pub last_one : ℤ
  last_one = last_number own

  pub size_is : c.factor ≡ suc size
  size_is = (let some = fits.some in omega (arith, some))

  pub outer_low : (numbers_named rs c.outer).low ≡ pos 0
  outer_low = ap (λ (r : Numbers). r.low) fits.outer

  pub outer_last : last_number (numbers_named rs c.outer) ≡ pos tops
  outer_last = (let are = blocks_top own.count c.factor fit.1 fits.some in ap last_number fits.outer ∙ omega (arith, ints, are))

  pub inner_low : (numbers_named rs c.inner).low ≡ pos 0
  inner_low = ap (λ (r : Numbers). r.low) fits.inner

  pub inner_last : last_number (numbers_named rs c.inner) ≡ pos size
  inner_last = (let is = size_is in ap last_number fits.inner ∙ omega (arith, ints, is))

  pub low_here : unsigned_abs own.low ≤ 2 ^ 36
  low_here = (let from = fit.0.from in let to = fit.0.to in omega (arith, ints, from, to))

  pub last_here : unsigned_abs last_one ≤ 2 ^ 36
  last_here = (let from = fit.0.from in let to = fit.0.to in let few_count = fit.0.few in omega (arith, ints, from, to, few_count))

  pub size_few : suc size ≤ 1024
  size_few = (let wide = fits.few in let is = size_is in omega (arith, wide, is))

  pub few_numbers : tops * c.factor ≤ 2 ^ 32
  few_numbers = (let low = top_low own.count c.factor fit.1 fits.some in let few = fit.0.few in omega (arith, low, few))

  pub all_few : tops * suc size ≤ 2 ^ 32
  all_few = (let is = size_is in subst (λ (z : ℕ). tops * z ≤ 2 ^ 32) is few_numbers)

  pub tops_few : tops ≤ 2 ^ 32
  tops_few = (let all_of = all_few in let less = at_most_times tops size in omega (arith, all_of, less))
    where
      at_most_times : (b d : ℕ) → b ≤ b * suc d
      at_most_times b d = (let is = mul-suc b d in omega (arith, is))

  -- the last number of the last block
  abbrev pub blocks_end : ℤ
  blocks_end = own.low +ℤ (pos (tops * c.factor) +ℤ (pos c.factor -ℤ pos 1))

  reaches : own.low ≤ℤ last_one
  reaches = (let some = fit.1 in of own.low own.count some)
    where
      of : (z : ℤ) (n : ℕ) → 0 < n → z ≤ℤ (z +ℤ pos n -ℤ pos 1)
      of z n h = omega (arith, ints, h)

  -- where a full block has room
  room_near : unsigned_abs (room own c.factor) ≤ 2 ^ 36
  room_near =
      let from = fit.0.from in
      let to = fit.0.to in
      let few_count = fit.0.few in
      let wide = fits.few in
      of own.low own.count c.factor from to few_count wide
    where
      of : (z : ℤ) (n w : ℕ) → negsuc 2147483647 ≤ℤ z → z ≤ℤ pos 2147483647 → n < 4294967296 → w ≤ 1024 → unsigned_abs (z +ℤ pos n -ℤ pos 1 -ℤ pos w +ℤ pos 1) ≤ 2 ^ 36
      of z n w h k q r = omega (arith, ints, h, k, q, r)

  room_last : room own c.factor +ℤ pos size ≡ last_one
  room_last = (let is = size_is in of own.low own.count c.factor size is)
    where
      of : (z : ℤ) (n w m : ℕ) → w ≡ suc m → (z +ℤ pos n -ℤ pos 1 -ℤ pos w +ℤ pos 1) +ℤ pos m ≡ z +ℤ pos n -ℤ pos 1
      of z n w m e = omega (arith, ints, e)

  has_room : c.factor ≤ own.count → own.low ≤ℤ room own c.factor
  has_room le = of own.low own.count c.factor le
    where
      of : (z : ℤ) (n w : ℕ) → w ≤ n → z ≤ℤ (z +ℤ pos n -ℤ pos 1 -ℤ pos w +ℤ pos 1)
      of z n w h = omega (arith, ints, h)

  -- where none keeps them, all numbers of blocks are of 32 bits
  module _ (ended : last_one ≤ℤ pos 2147483647) (early : has_rest c own.count ≡ true → (last_one +ℤ pos c.factor) ≤ℤ pos 2147483647) (full : has_rest c own.count ≡ false → last_one ≡ blocks_end) where
    pub blocks_ended : blocks_end ≤ℤ pos 2147483647
    blocks_ended = of (has_rest c own.count) refl
      where
        of : (b : Bool) → has_rest c own.count ≡ b → blocks_end ≤ℤ pos 2147483647
        of false e = subst (λ (z : ℤ). z ≤ℤ pos 2147483647) (full e) ended
        of true e = by own.low own.count (tops * c.factor) c.factor fit.1 (top_low own.count c.factor fit.1 fits.some) (early e)
          where
            by : (z : ℤ) (n p w : ℕ) → 0 < n → p ≤ n - 1 → (z +ℤ pos n -ℤ pos 1 +ℤ pos w) ≤ℤ pos 2147483647 → (z +ℤ (pos p +ℤ (pos w -ℤ pos 1))) ≤ℤ pos 2147483647
            by z n p w some le h = omega (arith, ints, some, le, h)

-- ---- a nest

module _ (cuts : List Split) (others : AreOthers cuts) (once : AreOnce cuts) (rs : List Numbers) (grid : List Known) (base : ℕ) (xs : List (List ℕ)) (ls : List Loop)
    (fits : (c : Split) → In c cuts → CutFits rs c) (wholes : (c : Split) → In c cuts → In c.whole xs)
    (fit_of : (x : List ℕ) → In x xs → IsSmall (numbers_named rs x) × (0 < (numbers_named rs x).count)) (ended : (x : List ℕ) → In x xs → last_number (numbers_named rs x) ≤ℤ pos 2147483647)
    (Early : Type 0) (blocks_kept : Early → (c : Split) (m : In c cuts) → is_tailed rs c ≡ false → blocks_end rs c (fits c m) (fit_of c.whole (wholes c m)) ≤ℤ pos 2147483647)
    (roomy : (c : Split) → In c cuts → is_shifted c ≡ true → c.factor ≤ (numbers_named rs c.whole).count) (algorithm : Algorithm) (plan_here : Plan) (cert : Certificate) (number_here : ℕ)
    (place_named : List ℕ → Places) (claim_named : List ℕ → Span1)
    (inners : (c : Split) → In c cuts → form_named grid c.inner ≡ None) (halves : (c : Split) → In c cuts → (x : List ℕ) → In x xs → x ≡ c.inner → ⊥) where
  abbrev pub R : Rules
  R = rules_of algorithm plan_here cert number_here

  abbrev pub low : List ℕ → ℤ
  low x = (numbers_named rs x).low

  abbrev pub count : List ℕ → ℕ
  count x = (numbers_named rs x).count

  abbrev pub last : List ℕ → ℤ
  last x = last_number (numbers_named rs x)

  abbrev pub LeafName : List ℕ → Type 0
  LeafName y = In y xs ⊎ ((c : Split) × In c cuts × ((y ≡ c.outer) ⊎ (y ≡ c.inner)))

  abbrev pub Around : List ℕ → Type 0
  Around x = (o : Loop) × In o ls × (o.name ≡ x)

  pub whole_fit : (c : Split) → In c cuts → IsSmall (numbers_named rs c.whole) × (0 < (numbers_named rs c.whole).count)
  whole_fit c m = fit_of c.whole (wholes c m)

  module _ (head : List Step) (n : ℕ) (es : List Entry) (ts : List Turning) (entries : (j : ℕ) (e : Entry) → slice_get es j ≡ Some e → IsEntry cuts others once rs grid base head n es ts j e)
      (unique : (j k : ℕ) (e f : Entry) → slice_get es j ≡ Some e → slice_get es k ≡ Some f → is_loop e.line ≡ true → is_loop f.line ≡ true → e.turning.name ≡ f.turning.name → j ≡ k)
      (off_grid : (j : ℕ) (e : Entry) → slice_get es j ≡ Some e → is_loop e.line ≡ true → form_named grid e.turning.name ≡ None)
      (turns : (j : ℕ) (e : Entry) → slice_get es j ≡ Some e → is_loop e.line ≡ true → (y : List ℕ) → e.turning.name ≡ y → LeafName y →
      (e.turning.low ≡ low y) × (e.turning.last ≡ last y) × Around y × (hits loop_name y (parallel_loops ls) ≡ 0))
      (near : (x : List ℕ) → LeafName x → (unsigned_abs (low x) ≤ 2 ^ 36) × (unsigned_abs (last x) ≤ 2 ^ 36))
      (dim_grid : (x : List ℕ) (s : ℕ) → form_named grid x ≡ Some (counted_from (low x) s) →
      (claim_named x ≡ exactly (counted_from (low x) s)) × (place_named x ≡ From (counted_from (low x) s) 1))
      (dim_loop : (x : List ℕ) → In x xs → hits loop_name x (parallel_loops ls) ≡ 0 → Around x → (claim_named x ≡ numbers (low x) (last x)) × (place_named x ≡ From (number (low x)) (count x)))
      (dim_block : (c : Split) (m : In c cuts) (s : ℕ) → form_named grid c.outer ≡ Some (counted_from (pos 0) s) → is_shifted c ≡ false →
      (claim_named c.whole ≡ record {
        lower = one_of (low c.whole) (pos c.factor) s ∷ [];
        upper = one_of ((pos c.factor -ℤ pos 1) +ℤ low c.whole) (pos c.factor) s ∷ (if is_tailed rs c then number (last c.whole) ∷ [] else []);
      }) × (place_named c.whole ≡ From (one_of (low c.whole) (pos c.factor) s) c.factor))
      (dim_shift : (y : List ℕ) (f : Form) (u : IsWhole cuts others once rs grid base head n es y f) → is_shifted u.split ≡ true → (outer : Form) → form_named grid u.split.outer ≡ Some outer →
      place_named u.split.whole ≡ From u.start u.split.factor)
      (dim_split : (c : Split) (m : In c cuts) → hits loop_name c.outer (parallel_loops ls) ≡ 0 →
      (claim_named c.whole ≡ numbers (low c.whole) (if is_tailed rs c then last c.whole else blocks_end rs c (fits c m) (whole_fit c m)))
      × (place_named c.whole ≡ From (number (low c.whole)) (if is_tailed rs c then count c.whole else tops rs c (fits c m) (whole_fit c m) * c.factor + c.factor)))
      (head_over : (y : List ℕ) (f : Form) (u : IsWhole cuts others once rs grid base head n es y f) (j i : ℕ) (z : ℤ) → slice_get head j ≡ Some (Named i Min (u.first ∷ number z ∷ [])) →
      (g : Form) × (form_named grid u.split.outer ≡ Some g))
      (d : ℕ) (pure : (c : Split) → In c cuts → is_shifted c ≡ true → d ≡ 0)
      (known : KnownHere)
      (grid_there : (y : List ℕ) (c : Form) → form_named grid y ≡ Some c →
      (s : ℕ) × (c ≡ counted_from (low y) s) × (slice_get (scope_of known.binders) s ≡ Some (grid_symbol (count y))) × (s < base) × (s < n))
      (head_there : (j i : ℕ) (fs : List Form) → slice_get head j ≡ Some (Named i Min fs) → slice_get (scope_of known.binders) i ≡ Some (LetMin fs)) (behind : base + length head ≤ n)
      (entry_there : (j : ℕ) (e : Entry) → slice_get es j ≡ Some e → slice_get (scope_of known.binders) (n + j) ≡ Some (entry_told e)) where
    abbrev scope : List Binding
    scope = scope_of known.binders

    abbrev IsRight : List ℕ → Form → Type 0
    IsRight x f = IsRightForm Early R known place_named claim_named d x f

    abbrev LeafHere : List ℕ → Form → Type 0
    LeafHere = Leaf cuts others once rs grid base head n es

    abbrev WholeHere : List ℕ → Form → Type 0
    WholeHere = IsWhole cuts others once rs grid base head n es

    abbrev EntryHere : ℕ → Entry → Type 0
    EntryHere = IsEntry cuts others once rs grid base head n es ts

    -- ---- symbols

    loop_told : (e : Entry) → is_loop e.line ≡ true → entry_told e ≡ Bound (span e.turning.low e.turning.last e.limits)
    loop_told e is = of e.line is
      where
        of : (l : Line) → is_loop l ≡ true → entry_told (record { turning = e.turning; line = l; limits = e.limits }) ≡ Bound (span e.turning.low e.turning.last e.limits)
        of LoopLine q = refl
        of (Block f z) q = absurd (cc q)
        of (Pair f z) q = absurd (cc q)

    loop_there : (j : ℕ) (e : Entry) → slice_get es j ≡ Some e → is_loop e.line ≡ true →
        (slice_get scope (n + j) ≡ Some (Bound (span e.turning.low e.turning.last e.limits))) × (n + j < length scope)
    loop_there j e at is =
        let here = entry_there j e at ∙ ap (λ (b : Binding). Some b) (loop_told e is) in
        (here, slice_get_within scope (n + j) (Bound (span e.turning.low e.turning.last e.limits)) here)

    -- further upper forms are those of guarded splits' inner loops
    limited_by : (j : ℕ) (e : Entry) → slice_get es j ≡ Some e → is_loop e.line ≡ true → (e.limits ≡ []) ⊎ ((c : Split) × In c cuts × (keeps_rest rs c ≡ true) × (e.turning.name ≡ c.inner) ×
        (f : Form) × IsLimit cuts others once rs grid base head n es j c f × (e.limits ≡ f ∷ []))
    limited_by j e at loop = of (entries j e at)
      where
        of : EntryHere j e → (e.limits ≡ []) ⊎ ((c : Split) × In c cuts × (keeps_rest rs c ≡ true) × (e.turning.name ≡ c.inner) × (f : Form)
            × IsLimit cuts others once rs grid base head n es j c f × (e.limits ≡ f ∷ []))
        of (inl t) = t.limits
        of (inr l) = inl l.bare

    unlimited : (j : ℕ) (e : Entry) → slice_get es j ≡ Some e → is_loop e.line ≡ true → ((c : Split) → In c cuts → e.turning.name ≡ c.inner → ⊥) → e.limits ≡ []
    unlimited j e at loop none = elim (limited_by j e at loop) [ inl bare ↦ bare | inr (c, m, k, name, f, limit, is) ↦ absurd (none c m name) ]

    plain_there : (j : ℕ) (e : Entry) → slice_get es j ≡ Some e → is_loop e.line ≡ true → e.limits ≡ [] → slice_get scope (n + j) ≡ Some (Bound (span e.turning.low e.turning.last []))
    plain_there j e at loop none = (loop_there j e at loop).0 ∙ ap (λ (fs : List Form). Some (Bound (span e.turning.low e.turning.last fs))) none

    -- ---- places and regions

    seat_by : (f l u : Form) (m : ℕ) → raised l (pos m -ℤ pos 1) ≡ u → at_most scope l f ≡ true → at_most scope f u ≡ true → is_seated R known.binders (exactly f) (From l m) ≡ true
    seat_by f l u m e one two =
        let up : at_most scope f (raised l (pos m -ℤ pos 1)) ≡ true = ap (at_most scope f) e ∙ two in
        λ j. ((one j || false) && true) && ((up j || false) && true)

    within_one : (f l u : Form) → at_most scope l f ≡ true → at_most scope f u ≡ true → is_within R known.binders (exactly f) (record { lower = l ∷ []; upper = u ∷ [] }) ≡ true
    within_one f l u one two = λ j. ((one j || false) && true) && ((two j || false) && true)

    within_two : (f l u v : Form) → at_most scope l f ≡ true → at_most scope f u ≡ true → at_most scope f v ≡ true →
        is_within R known.binders (exactly f) (record { lower = l ∷ []; upper = u ∷ v ∷ [] }) ≡ true
    within_two f l u v one two three = λ j. ((one j || false) && true) && ((two j || false) && ((three j || false) && true))

    -- ---- loops that are not split

    right_grid : (x : List ℕ) → In x xs → (c : Form) → form_named grid x ≡ Some c → IsRight x c
    right_grid x m c over =
        let fit = fit_of x m in
        let r = grid_there x c over in
        let inside_r = slice_get_within scope r.0 (grid_symbol (count x)) r.2 in
        let from = fit.0.from in
        let to = fit.0.to in
        let few_numbers_here = fit.0.few in
        let ends = ended x m in
        let near : unsigned_abs (pos (count x) -ℤ pos 1) ≤ 2 ^ 38 = omega (arith, ints, few_numbers_here) in
        let low_near : unsigned_abs (low x) ≤ 2 ^ 38 = omega (arith, ints, from, to) in
        let zero_near : unsigned_abs (pos 0) ≤ 2 ^ 38 = omega (arith, ints) in
        let begins : negsuc 2147483647 ≤ℤ (low x +ℤ pos 0) = omega (arith, ints, from) in
        let last_is : (low x +ℤ (pos (count x) -ℤ pos 1)) ≤ℤ pos 2147483647 = upper_last (low x) (count x) ends in
        let named_so : form_named grid x ≡ Some (counted_from (low x) r.0) = over ∙ ap (λ (u : Form). Some u) r.1 in
        let dims_here = dim_grid x r.0 named_so in
        let limited_form : is_within_limits (counted_from (low x) r.0) ≡ true = up_limited (low x) r.0 (omega (arith, low_near)) in
        let self : at_most scope (counted_from (low x) r.0) (counted_from (low x) r.0) ≡ true = form_self scope (counted_from (low x) r.0) limited_form in
        let zero_more : low x +ℤ (pos 1 -ℤ pos 1) ≡ low x = omega (arith, ints) in
        let up : raised (counted_from (low x) r.0) (pos 1 -ℤ pos 1) ≡ counted_from (low x) r.0 = (λ j. counted_from (zero_more j) r.0) in
        subst (IsRight x) (sym r.1) (record {
          inside = λ early. counted_inside scope r.0 (numbers (pos 0) (pos (count x) -ℤ pos 1)) (low x) (pos 0) (pos (count x) -ℤ pos 1) inside_r r.2 refl refl begins last_is low_near zero_near near;
          seated = ap (is_seated R known.binders (exactly (counted_from (low x) r.0))) dims_here.1
              ∙ seat_by (counted_from (low x) r.0) (counted_from (low x) r.0) (counted_from (low x) r.0) 1 up self self;
          within = λ update. ap (is_within R known.binders (exactly (counted_from (low x) r.0))) dims_here.0 ∙ (λ j. ((self j || false) && true) && ((self j || false) && true));
          kept = limited_form;
        })
      where
        upper_last : (low : ℤ) (count : ℕ) → (low +ℤ pos count -ℤ pos 1) ≤ℤ pos 2147483647 → (low +ℤ (pos count -ℤ pos 1)) ≤ℤ pos 2147483647
        upper_last low count h = omega (arith, ints, h)

    right_loop : (x : List ℕ) → In x xs → (j : ℕ) (e : Entry) → slice_get es j ≡ Some e → is_loop e.line ≡ true → e.turning.name ≡ x → IsRight x (alone (n + j))
    right_loop x m j e at_e loop name =
        let fit = fit_of x m in
        let y = turns j e at_e loop x name (inl m) in
        let from = fit.0.from in
        let to = fit.0.to in
        let few_numbers_here = fit.0.few in
        let ends = ended x m in
        let ends_near = near x (inl m) in
        let low_near = ends_near.0 in
        let last_near = ends_near.1 in
        let t : Turning = e.turning in
        let none = unlimited j e at_e loop (λ c k q. halves c k x m (sym name ∙ q)) in
        let there = plain_there j e at_e loop none in
        let less = slice_get_within scope (n + j) (Bound (span t.low t.last [])) there in
        let dims_here = dim_loop x m y.3 y.2 in
        let last_is : last x ≡ low x +ℤ (pos (count x) -ℤ pos 1) = regrouped (low x) (count x) in
        let numbers_there : slice_get scope (n + j) ≡ Some (Bound (span (low x) (last x) [])) = there ∙ (λ i. Some (Bound (span (y.0 i) (y.1 i) []))) in
        let over = loop_above scope (n + j) (low x) (last x) (omega (arith, low_near)) (omega (arith, last_near)) numbers_there less in
        let under = loop_below scope (n + j) (low x) (last x) (omega (arith, low_near)) (omega (arith, last_near)) numbers_there less in
        record {
          inside = λ early. symbol_inside scope (n + j) (span (low x) (last x) []) (low x) (last x) less numbers_there refl refl from to ends (omega (arith, last_near));
          seated = ap (is_seated R known.binders (exactly (alone (n + j)))) dims_here.1
              ∙ seat_by (alone (n + j)) (number (low x)) (number (last x)) (count x) (ap number (sym last_is)) over under;
          within = λ update. ap (is_within R known.binders (exactly (alone (n + j)))) dims_here.0 ∙ within_one (alone (n + j)) (number (low x)) (number (last x)) over under;
          kept = up_limited (pos 0) (n + j) (omega arith);
        }
      where
        regrouped : (z : ℤ) (n : ℕ) → (z +ℤ pos n -ℤ pos 1) ≡ z +ℤ (pos n -ℤ pos 1)
        regrouped z n = omega (arith, ints)

    -- ---- splits

    module _ (c : Split) (m : In c cuts) where
      abbrev z : ℤ
      z = low c.whole

      abbrev k : ℕ
      k = c.factor - 1

      abbrev q : ℕ
      q = top (count c.whole) c.factor

      abbrev end : ℤ
      end = last c.whole

      abbrev whole_end : ℤ
      whole_end = blocks_end rs c (fits c m) (whole_fit c m)

      size_so : c.factor ≡ suc k
      size_so = size_is rs c (fits c m) (whole_fit c m)

      k_few : suc k ≤ 1024
      k_few = size_few rs c (fits c m) (whole_fit c m)

      q_few : q ≤ 2 ^ 32
      q_few = tops_few rs c (fits c m) (whole_fit c m)

      all_few_here : q * suc k ≤ 2 ^ 32
      all_few_here = all_few rs c (fits c m) (whole_fit c m)

      z_near : unsigned_abs z ≤ 2 ^ 36
      z_near = low_here rs c (fits c m) (whole_fit c m)

      end_near : unsigned_abs end ≤ 2 ^ 36
      end_near = last_here rs c (fits c m) (whole_fit c m)

      from_here : negsuc 2147483647 ≤ℤ z
      from_here = (whole_fit c m).0.from

      to_here : z ≤ℤ pos 2147483647
      to_here = (whole_fit c m).0.to

      end_here : end ≤ℤ pos 2147483647
      end_here = ended c.whole (wholes c m)

      -- the outer loop's symbol counts its blocks from 0
      abbrev blocks_span : Span1
      blocks_span = numbers (pos 0) (pos q)

      abbrev OuterAt : ℕ → Type 0
      OuterAt s =
          ((form_named grid c.outer ≡ Some (alone s)) × (s < base) × (s < n))
          ⊎ ((o : ℕ) × (v : Entry) × (slice_get es o ≡ Some v) × (is_loop v.line ≡ true) × (v.turning.name ≡ c.outer) × (s ≡ n + o))

      -- an entry of the outer loop
      outer_entry : (o : ℕ) (v : Entry) → slice_get es o ≡ Some v → is_loop v.line ≡ true → v.turning.name ≡ c.outer →
          (slice_get scope (n + o) ≡ Some (Bound blocks_span)) × (hits loop_name c.outer (parallel_loops ls) ≡ 0)
      outer_entry o v at_v loop name =
          let y = turns o v at_v loop c.outer name (inr (c, m, inl refl)) in
          let begins : v.turning.low ≡ pos 0 = y.0 ∙ outer_low rs c (fits c m) (whole_fit c m) in
          let stops : v.turning.last ≡ pos q = y.1 ∙ outer_last rs c (fits c m) (whole_fit c m) in
          let none = unlimited o v at_v loop (λ b mb e. inner_outer cuts others b c mb m (sym e ∙ name)) in
          (plain_there o v at_v loop none ∙ (λ j. Some (Bound (span (begins j) (stops j) []))), y.3)

      outer_told : (outer : Form) → LeafHere c.outer outer → (s : ℕ) × (outer ≡ alone s) × (slice_get scope s ≡ Some (Bound blocks_span)) × OuterAt s
      outer_told outer (inl over) =
          let r = grid_there c.outer outer over in
          let zero_low : low c.outer ≡ pos 0 = outer_low rs c (fits c m) (whole_fit c m) in
          let stops = outer_last rs c (fits c m) (whole_fit c m) in
          let last_is : pos (count c.outer) -ℤ pos 1 ≡ pos q = last_from (low c.outer) (count c.outer) q zero_low stops in
          let is : outer ≡ alone r.0 = r.1 ∙ ap (λ (y : ℤ). counted_from y r.0) zero_low in
          (r.0, is, r.2 ∙ ap (λ (y : ℤ). Some (Bound (numbers (pos 0) y))) last_is, inl (over ∙ ap (λ (f : Form). Some f) is, r.3, r.4))
        where
          last_from : (z : ℤ) (n t : ℕ) → z ≡ pos 0 → (z +ℤ pos n -ℤ pos 1) ≡ pos t → pos n -ℤ pos 1 ≡ pos t
          last_from z n t h e = omega (arith, ints, h, e)
      outer_told outer (inr (o, v, at_v, loop, name, is)) = (n + o, is, (outer_entry o v at_v loop name).0, inr (o, v, at_v, loop, name, refl))

      -- no loop of the nest has the outer loop's name where the grid has it
      over_apart : {A : Type 0} (g : Form) → form_named grid c.outer ≡ Some g → (o : ℕ) (v : Entry) → slice_get es o ≡ Some v → is_loop v.line ≡ true → v.turning.name ≡ c.outer → A
      over_apart g over o v at_v loop name =
          let clash : Some g ≡ None = sym over ∙ ap (form_named grid) (sym name) ∙ off_grid o v at_v loop in
          absurd (cc clash)

      -- with this inner loop
      module _ (i : ℕ) (e : Entry) (there_e : slice_get es i ≡ Some e) (loop : is_loop e.line ≡ true) (name : e.turning.name ≡ c.inner) where
        inner_turn : (e.turning.low ≡ pos 0) × (e.turning.last ≡ pos k)
        inner_turn =
            let y = turns i e there_e loop c.inner name (inr (c, m, inr refl)) in
            (y.0 ∙ inner_low rs c (fits c m) (whole_fit c m), y.1 ∙ inner_last rs c (fits c m) (whole_fit c m))

        abbrev here : Span1
        here = span e.turning.low e.turning.last e.limits

        there_here : (slice_get scope (n + i) ≡ Some (Bound here)) × (n + i < length scope)
        there_here = loop_there i e there_e loop

        lower_here : here.lower ≡ number (pos 0) ∷ []
        lower_here = ap (λ (y : ℤ). number y ∷ []) inner_turn.0

        upper_bare : e.limits ≡ [] → here.upper ≡ number (pos k) ∷ []
        upper_bare none = (let last_is = inner_turn.1 in λ j. number (last_is j) ∷ none j)

        upper_kept : (s : ℕ) → e.limits ≡ left_over end z (pos c.factor) s ∷ [] → here.upper ≡ number (pos k) ∷ left_over end z (pos (suc k)) s ∷ []
        upper_kept s limits =
            let last_is = inner_turn.1 in
            let is = limits ∙ ap (λ (y : ℕ). left_over end z (pos y) s ∷ []) size_so in
            λ j. number (last_is j) ∷ is j

        -- the two loops have not one symbol
        symbols_differ : (s : ℕ) → OuterAt s → (s == n + i) ≡ false
        symbols_differ s (inl over) = (let less = over.2 in grind (arith, nat_tests, less))
        symbols_differ s (inr (o, v, at_v, v_loop, v_name, is)) = of (s == n + i) refl
          where
            of : (b : Bool) → (s == n + i) ≡ b → (s == n + i) ≡ false
            of false w = w
            of true w =
                let sums = eq_true s (n + i) w in
                let place_so : o ≡ i = omega (arith, sums, is) in
                let some : Some v ≡ Some e = sym at_v ∙ ap (slice_get es) place_so ∙ there_e in
                let same_entry : v ≡ e = cc some in
                absurd (inner_outer cuts others c c m m (sym name ∙ ap (λ (x : Entry). x.turning.name) (sym same_entry) ∙ v_name))

        abbrev at_pair : ℕ → Form
        at_pair s = pair z s (pos c.factor) (n + i)

        pair_suc : (s : ℕ) → at_pair s ≡ pair z s (pos (suc k)) (n + i)
        pair_suc s = (let is = size_so in ap (λ (y : ℕ). pair z s (pos y) (n + i)) is)

        pair_two : (s : ℕ) → s < n + i → at_pair s ≡ two_of z (pos (suc k)) s (pos 1) (n + i)
        pair_two s less =
            let behind : nat_lt s (n + i) ≡ true = grind (arith, nat_tests, less) in
            pair_suc s ∙ (λ j. record {
              constant = z;
              terms = if behind j then multiple s (pos (suc k)) ∷ multiple (n + i) (pos 1) ∷ [] else multiple (n + i) (pos 1) ∷ multiple s (pos (suc k)) ∷ [];
            })

        -- what both come to
        pair_made : (s : ℕ) → OuterAt s → (start form : Form) → combined (number z) (pos c.factor) (alone s) ≡ Some start → combined start (pos 1) (alone (n + i)) ≡ Some form →
            (form ≡ at_pair s) × (is_within_limits (at_pair s) ≡ true)
        pair_made s told start form begins sums = pair_is z c.factor s (fits c m).some (n + i) start form (symbols_differ s told) begins sums

        module _ (s : ℕ) (told : OuterAt s) (there_s : slice_get scope s ≡ Some (Bound blocks_span)) (within : is_within_limits (at_pair s) ≡ true) where
          inside_s : s < length scope
          inside_s = slice_get_within scope s (Bound blocks_span) there_s

          differ : (s == n + i) ≡ false
          differ = symbols_differ s told

          abbrev first : Form
          first = one_of z (pos c.factor) s

          abbrev block_last : Form
          block_last = one_of ((pos c.factor -ℤ pos 1) +ℤ z) (pos c.factor) s

          one_less : pos c.factor -ℤ pos 1 ≡ pos k
          one_less = (let is = size_so in omega (arith, ints, is))

          up : raised first (pos c.factor -ℤ pos 1) ≡ raised first (pos k)
          up = ap (raised first) one_less

          swapped : raised first (pos k) ≡ block_last
          swapped = (λ j. one_of (around z (pos k) j) (pos c.factor) s) ∙ ap (λ (y : ℤ). one_of (y +ℤ z) (pos c.factor) s) (sym one_less)
            where
              around : (z y : ℤ) → (z +ℤ y) ≡ y +ℤ z
              around z y = omega (arith, ints)

          -- the first number of a block is at most the position
          block_over : s < n + i → at_most scope first (at_pair s) ≡ true
          block_over less =
              let is = size_so in
              ap (at_most scope first) (pair_two s less)
              ∙ ap (λ (y : ℕ). at_most scope (one_of z (pos y) s) (two_of z (pos (suc k)) s (pos 1) (n + i))) is
              ∙ block_above scope s (n + i) less there_here.1 k k_few here there_here.0 z z_near lower_here

          -- ---- where nothing keeps the blocks

          module _ (bare : is_tailed rs c ≡ false) (none : e.limits ≡ []) where
            whole_end_is : (z +ℤ (pos (q * suc k) +ℤ pos k)) ≡ whole_end
            whole_end_is = (let is = size_so in of z q c.factor k is)
              where
                of : (z : ℤ) (q w m : ℕ) → w ≡ suc m → (z +ℤ (pos (q * suc m) +ℤ pos m)) ≡ z +ℤ (pos (q * w) +ℤ (pos w -ℤ pos 1))
                of z q w m d = by z (q * suc m) (q * w) w m (ap (λ (y : ℕ). q * y) (sym d)) d
                  where
                    by : (z : ℤ) (a b w m : ℕ) → a ≡ b → w ≡ suc m → (z +ℤ (pos a +ℤ pos m)) ≡ z +ℤ (pos b +ℤ (pos w -ℤ pos 1))
                    by z a b w m p d = omega (arith, ints, p, d)

            ends : Early → (z +ℤ (pos (q * suc k) +ℤ pos k)) ≤ℤ pos 2147483647
            ends early = subst (λ (y : ℤ). y ≤ℤ pos 2147483647) (sym whole_end_is) (blocks_kept early c m bare)

            bare_inside : Early → is_index_span scope (exactly (at_pair s)) ≡ true
            bare_inside early =
                ap (λ (f : Form). is_index_span scope (exactly f)) (pair_suc s)
                ∙ pair_inside scope s (n + i) differ inside_s there_here.1 blocks_span here there_s there_here.0 q k k_few q_few all_few_here refl refl lower_here (upper_bare none) z from_here to_here
                (ends early)

            bare_bounds : (at_most scope (number z) (at_pair s) ≡ true) × (at_most scope (at_pair s) (number whole_end) ≡ true)
            bare_bounds =
                let is = whole_end_is in
                let few_all = all_few_here in
                let small_size = k_few in
                let near_end : unsigned_abs whole_end ≤ 2 ^ 37 = subst (λ (y : ℤ). unsigned_abs y ≤ 2 ^ 37) is (near_at z (q * suc k) k z_near few_all small_size) in
                let both = pair_bounds scope s (n + i) differ inside_s there_here.1 blocks_span here there_s there_here.0 q k k_few q_few all_few_here refl refl lower_here (upper_bare none) z
                from_here to_here whole_end near_end (itself (z +ℤ (pos (q * suc k) +ℤ pos k)) whole_end is) in
                (ap (at_most scope (number z)) (pair_suc s) ∙ both.0, ap (λ (f : Form). at_most scope f (number whole_end)) (pair_suc s) ∙ both.1)
              where
                near_at : (z : ℤ) (p m : ℕ) → unsigned_abs z ≤ 2 ^ 36 → p ≤ 2 ^ 32 → suc m ≤ 1024 → unsigned_abs (z +ℤ (pos p +ℤ pos m)) ≤ 2 ^ 37
                near_at z p m h k g = omega (arith, ints, h, k, g)

                itself : (z y : ℤ) → z ≡ y → z ≤ℤ y
                itself z y e = omega (arith, ints, e)

            bare_block : s < n + i → at_most scope (at_pair s) (raised first (pos k)) ≡ true
            bare_block less =
                let is = size_so in
                ap (λ (f : Form). at_most scope f (raised first (pos k))) (pair_two s less)
                ∙ ap (λ (y : ℕ). at_most scope (two_of z (pos (suc k)) s (pos 1) (n + i)) (raised (one_of z (pos y) s) (pos k))) is
                ∙ block_below scope s (n + i) less there_here.1 k k_few here there_here.0 z z_near (upper_bare none)

            right_bare : is_shifted c ≡ false → IsRight c.whole (at_pair s)
            right_bare plain = of told
              where
                of : OuterAt s → IsRight c.whole (at_pair s)
                of (inl over) =
                    let less = over.2 in
                    let under : s < n + i = omega (arith, less) in
                    let dims_here = dim_block c m s over.0 plain in
                    let over_first = block_over under in
                    let below = bare_block under in
                    let claim_so = dims_here.0 ∙ ap (λ (b : Bool). record { lower = first ∷ []; upper = block_last ∷ (if b then number end ∷ [] else []) }) bare in
                    record {
                      inside = bare_inside;
                      seated = ap (is_seated R known.binders (exactly (at_pair s))) dims_here.1 ∙ seat_by (at_pair s) first (raised first (pos k)) c.factor up over_first below;
                      within = λ update. ap (is_within R known.binders (exactly (at_pair s))) claim_so
                          ∙ within_one (at_pair s) first block_last over_first (ap (at_most scope (at_pair s)) (sym swapped) ∙ below);
                      kept = within;
                    }
                of (inr (o, v, at_v, v_loop, v_name, is)) =
                    let dims_here = dim_split c m (outer_entry o v at_v v_loop v_name).1 in
                    let both = bare_bounds in
                    let end_is_so : z +ℤ (pos (q * c.factor + c.factor) -ℤ pos 1) ≡ whole_end = regrouped z (q * c.factor) c.factor in
                    let claim_so = dims_here.0 ∙ ap (λ (b : Bool). numbers z (if b then end else whole_end)) bare in
                    let place_so = dims_here.1 ∙ ap (λ (b : Bool). From (number z) (if b then count c.whole else q * c.factor + c.factor)) bare in
                    record {
                      inside = bare_inside;
                      seated = ap (is_seated R known.binders (exactly (at_pair s))) place_so
                          ∙ seat_by (at_pair s) (number z) (number whole_end) (q * c.factor + c.factor) (ap number end_is_so) both.0 both.1;
                      within = λ update. ap (is_within R known.binders (exactly (at_pair s))) claim_so ∙ within_one (at_pair s) (number z) (number whole_end) both.0 both.1;
                      kept = within;
                    }
                  where
                    regrouped : (z : ℤ) (p w : ℕ) → (z +ℤ (pos (p + w) -ℤ pos 1)) ≡ z +ℤ (pos p +ℤ (pos w -ℤ pos 1))
                    regrouped z p w = omega (arith, ints)

          -- ---- where a further upper form of the inner loop does

          module _ (guarded : is_tailed rs c ≡ true) (plain : is_shifted c ≡ false) (less : s < n + i) (limits : e.limits ≡ left_over end z (pos c.factor) s ∷ []) where
            guard_inside : is_index_span scope (exactly (at_pair s)) ≡ true
            guard_inside =
                ap (λ (f : Form). is_index_span scope (exactly f)) (pair_two s less)
                ∙ kept_inside scope s (n + i) less there_here.1 q k k_few q_few all_few_here blocks_span here there_s there_here.0 z end refl refl lower_here (upper_kept s limits) from_here to_here
                end_near end_here

            guard_under : at_most scope (at_pair s) (number end) ≡ true
            guard_under =
                let near_end = end_near in
                ap (λ (f : Form). at_most scope f (number end)) (pair_two s less)
                ∙ kept_under scope s (n + i) less there_here.1 q k k_few q_few all_few_here blocks_span here there_s there_here.0 z end refl refl lower_here (upper_kept s limits) from_here to_here
                end_near end (omega (arith, near_end)) (itself end)
              where
                itself : (z : ℤ) → z ≤ℤ z
                itself z = omega (arith, ints)

            guard_over : at_most scope (number z) (at_pair s) ≡ true
            guard_over =
                ap (at_most scope (number z)) (pair_two s less)
                ∙ two_above scope s (n + i) less there_here.1 k 0 k_few (omega arith) blocks_span here there_s there_here.0 z z_near refl lower_here

            guard_block : at_most scope (at_pair s) (raised first (pos k)) ≡ true
            guard_block =
                let is = size_so in
                ap (λ (f : Form). at_most scope f (raised first (pos k))) (pair_two s less)
                ∙ ap (λ (y : ℕ). at_most scope (two_of z (pos (suc k)) s (pos 1) (n + i)) (raised (one_of z (pos y) s) (pos k))) is
                ∙ kept_below scope s (n + i) less there_here.1 k k_few blocks_span here there_s there_here.0 z end z_near end_near refl (upper_kept s limits)

            right_guarded : IsRight c.whole (at_pair s)
            right_guarded = of told
              where
                of : OuterAt s → IsRight c.whole (at_pair s)
                of (inl over) =
                    let dims_here = dim_block c m s over.0 plain in
                    let over_first = block_over less in
                    let below = guard_block in
                    let claim_so = dims_here.0 ∙ ap (λ (b : Bool). record { lower = first ∷ []; upper = block_last ∷ (if b then number end ∷ [] else []) }) guarded in
                    record {
                      inside = λ early. guard_inside;
                      seated = ap (is_seated R known.binders (exactly (at_pair s))) dims_here.1 ∙ seat_by (at_pair s) first (raised first (pos k)) c.factor up over_first below;
                      within = λ update. ap (is_within R known.binders (exactly (at_pair s))) claim_so
                          ∙ within_two (at_pair s) first block_last (number end) over_first (ap (at_most scope (at_pair s)) (sym swapped) ∙ below) guard_under;
                      kept = within;
                    }
                of (inr (o, v, at_v, v_loop, v_name, is)) =
                    let dims_here = dim_split c m (outer_entry o v at_v v_loop v_name).1 in
                    let last_so : z +ℤ (pos (count c.whole) -ℤ pos 1) ≡ end = regrouped z (count c.whole) in
                    let claim_so = dims_here.0 ∙ ap (λ (b : Bool). numbers z (if b then end else whole_end)) guarded in
                    let place_so = dims_here.1 ∙ ap (λ (b : Bool). From (number z) (if b then count c.whole else q * c.factor + c.factor)) guarded in
                    record {
                      inside = λ early. guard_inside;
                      seated = ap (is_seated R known.binders (exactly (at_pair s))) place_so ∙ seat_by (at_pair s) (number z) (number end) (count c.whole) (ap number last_so) guard_over guard_under;
                      within = λ update. ap (is_within R known.binders (exactly (at_pair s))) claim_so ∙ within_one (at_pair s) (number z) (number end) guard_over guard_under;
                      kept = within;
                    }
                  where
                    regrouped : (z : ℤ) (n : ℕ) → (z +ℤ (pos n -ℤ pos 1)) ≡ z +ℤ pos n -ℤ pos 1
                    regrouped z n = omega (arith, ints)

        -- ---- where a guard and a let behind it do

        module _ (form f : Form) (p : IsPaired cuts others once rs grid base head n es c form f) where
          abbrev o : ℕ
          o = p.pair.outer_at

          same_inner : p.pair.inner_at ≡ i
          same_inner = unique p.pair.inner_at i p.pair.inner e p.pair.inner_there there_e p.pair.inner_loop loop (p.pair.inner_name ∙ sym name)

          told_pair : OuterAt (n + o)
          told_pair = inr (o, p.pair.outer, p.pair.outer_there, p.pair.outer_loop, p.pair.outer_name, refl)

          none_pair : e.limits ≡ []
          none_pair = of (limited_by i e there_e loop)
            where
              before : i < o
              before = (let less = p.pair.before in let same_place = same_inner in omega (arith, less, same_place))

              of : (e.limits ≡ []) ⊎ ((c' : Split) × In c' cuts × (keeps_rest rs c' ≡ true) × (e.turning.name ≡ c'.inner) × (g : Form) × IsLimit cuts others once rs grid base head n es i c' g ×
                  (e.limits ≡ g ∷ [])) → e.limits ≡ []
              of (inl none) = none
              of (inr (c', m', keeps, named, g, limit, is)) = by limit.by_outer
                where
                  same_split : c' ≡ c
                  same_split = by_inner cuts others c' c m' m (sym named ∙ name)

                  by : LeafBefore cuts others once rs grid base head n es i c'.outer limit.outer → e.limits ≡ []
                  by (inl over) = over_apart limit.outer (ap (λ (b : Split). form_named grid b.outer) (sym same_split) ∙ over) o p.pair.outer p.pair.outer_there p.pair.outer_loop p.pair.outer_name
                  by (inr (j, x, at_x, x_loop, x_name, form_is, less)) =
                      let same_place : j ≡ o = unique j o x p.pair.outer at_x p.pair.outer_there x_loop p.pair.outer_loop
                      (x_name ∙ ap (λ (b : Split). b.outer) same_split ∙ sym p.pair.outer_name) in
                      absurd (omega (arith, less, before, same_place))

          pair_form : (form ≡ at_pair (n + o)) × (is_within_limits (at_pair (n + o)) ≡ true)
          pair_form = pair_made (n + o) told_pair p.pair.start form p.pair.begins (ap (λ (y : ℕ). combined p.pair.start (pos 1) (alone (n + y))) (sym same_inner) ∙ p.pair.sum)

          abbrev at_let : ℕ
          at_let = n + (o + 1)

          let_there : slice_get scope at_let ≡ Some (LetMin (pair z (n + o) (pos (suc k)) (n + i) ∷ number end ∷ []))
          let_there = entry_there (o + 1) _ p.there ∙ ap (λ (g : Form). Some (LetMin (g ∷ number end ∷ []))) (pair_form.0 ∙ pair_suc (n + o))

          inside_let : at_let < length scope
          inside_let = slice_get_within scope at_let (LetMin (pair z (n + o) (pos (suc k)) (n + i) ∷ number end ∷ [])) let_there

          outer_there : slice_get scope (n + o) ≡ Some (Bound blocks_span)
          outer_there = (outer_entry o p.pair.outer p.pair.outer_there p.pair.outer_loop p.pair.outer_name).0

          inner_before : n + i < at_let
          inner_before = (let less = p.pair.before in let same_place = same_inner in omega (arith, less, same_place))

          let_over_here : at_most scope (number z) (alone at_let) ≡ true
          let_over_here =
              let near_z = z_near in
              kept_let_over scope at_let inside_let (n + o) (n + i) (symbols_differ (n + o) told_pair) (omega arith) inner_before k q k_few q_few all_few_here blocks_span here outer_there there_here.0
              refl refl lower_here (upper_bare none_pair) z end z_near end_near let_there z (omega (arith, near_z)) (itself z) (reaches rs c (fits c m) (whole_fit c m))
            where
              itself : (z : ℤ) → z ≤ℤ z
              itself z = omega (arith, ints)

          let_under_here : at_most scope (alone at_let) (number end) ≡ true
          let_under_here =
              let near_end = end_near in
              kept_let_under scope at_let inside_let (n + o) (n + i) (symbols_differ (n + o) told_pair) (omega arith) inner_before k q k_few q_few all_few_here blocks_span here outer_there
              there_here.0
              refl refl lower_here (upper_bare none_pair) z end z_near end_near let_there end (omega (arith, near_end)) (itself end)
            where
              itself : (z : ℤ) → z ≤ℤ z
              itself z = omega (arith, ints)

          right_paired : IsRight c.whole f
          right_paired =
              let plain = not_shifted rs c p.keeps in
              let guarded : is_tailed rs c ≡ true = sym (kept_or_shifted rs c plain) ∙ p.keeps in
              let dims_here = dim_split c m (outer_entry o p.pair.outer p.pair.outer_there p.pair.outer_loop p.pair.outer_name).1 in
              let last_so : z +ℤ (pos (count c.whole) -ℤ pos 1) ≡ end = regrouped z (count c.whole) in
              let claim_so = dims_here.0 ∙ ap (λ (b : Bool). numbers z (if b then end else whole_end)) guarded in
              let place_so = dims_here.1 ∙ ap (λ (b : Bool). From (number z) (if b then count c.whole else q * c.factor + c.factor)) guarded in
              subst (IsRight c.whole) (sym p.is) (record {
                inside = λ early. kept_let_inside scope at_let inside_let (n + o) (n + i) (symbols_differ (n + o) told_pair) (omega arith) inner_before k q k_few q_few all_few_here
                    blocks_span here outer_there
                    there_here.0 refl refl lower_here (upper_bare none_pair) z end z_near end_near let_there from_here (reaches rs c (fits c m) (whole_fit c m)) end_here;
                seated = ap (is_seated R known.binders (exactly (alone at_let))) place_so
                    ∙ seat_by (alone at_let) (number z) (number end) (count c.whole) (ap number last_so) let_over_here let_under_here;
                within = λ update. ap (is_within R known.binders (exactly (alone at_let))) claim_so ∙ within_one (alone at_let) (number z) (number end) let_over_here let_under_here;
                kept = up_limited (pos 0) at_let (omega arith);
              })
            where
              regrouped : (z : ℤ) (n : ℕ) → (z +ℤ (pos n -ℤ pos 1)) ≡ z +ℤ pos n -ℤ pos 1
              regrouped z n = omega (arith, ints)

        -- ---- where the last block is shifted

        module _ (shifts : is_shifted c ≡ true) (s p : ℕ) (told : OuterAt s) (there_s : slice_get scope s ≡ Some (Bound blocks_span)) (apart : (p == n + i) ≡ false) (before : s < p)
            (there_p : slice_get scope p ≡ Some (LetMin (one_of z (pos c.factor) s ∷ number (room (numbers_named rs c.whole) c.factor) ∷ []))) where
          abbrev r : ℤ
          r = room (numbers_named rs c.whole) c.factor

          r_near : unsigned_abs r ≤ 2 ^ 36
          r_near = room_near rs c (fits c m) (whole_fit c m)

          r_last : r +ℤ pos k ≡ end
          r_last = room_last rs c (fits c m) (whole_fit c m)

          has_room_here : z ≤ℤ r
          has_room_here = has_room rs c (fits c m) (whole_fit c m) (roomy c m shifts)

          shift_there : slice_get scope p ≡ Some (LetMin (one_of z (pos (suc k)) s ∷ number r ∷ []))
          shift_there = there_p ∙ ap (λ (y : ℕ). Some (LetMin (one_of z (pos y) s ∷ number r ∷ []))) size_so

          inside_p : p < length scope
          inside_p = slice_get_within scope p (LetMin (one_of z (pos (suc k)) s ∷ number r ∷ [])) shift_there

          none_shift : e.limits ≡ []
          none_shift = elim (limited_by i e there_e loop) [
            | inl none ↦ none
            | inr (c', m', keeps, named, g, limit, is) ↦
                (let same_split : c' ≡ c = by_inner cuts others c' c m' m (sym named ∙ name) in
                let clash : true ≡ false = sym shifts ∙ not_shifted rs c (ap (keeps_rest rs) (sym same_split) ∙ keeps) in
                absurd (cc clash))
          ]

          differs : (n + i == s) ≡ false
          differs = other_way s (n + i) (symbols_differ s told)

          abbrev at_shift : Form
          at_shift = pair (pos 0) p (pos 1) (n + i)

          itself : (z y : ℤ) → z ≡ y → z ≤ℤ y
          itself z y e = omega (arith, ints, e)

          shift_over : at_most scope (number z) at_shift ≡ true
          shift_over =
              let near_z = z_near in
              shifted_over scope p (n + i) s apart differs inside_p there_here.1 before k q k_few q_few all_few_here blocks_span here there_s there_here.0 refl refl lower_here (upper_bare
              none_shift) z r
              z_near r_near shift_there z (omega (arith, near_z)) (itself z z refl) has_room_here

          shift_under : at_most scope at_shift (number end) ≡ true
          shift_under =
              let near_end = end_near in
              shifted_under scope p (n + i) s apart differs inside_p there_here.1 before k q k_few q_few all_few_here blocks_span here there_s there_here.0 refl refl lower_here (upper_bare
              none_shift) z r
              z_near r_near shift_there end (omega (arith, near_end)) (itself (r +ℤ pos k) end r_last)

          shift_inside : is_index_span scope (exactly at_shift) ≡ true
          shift_inside =
              let from = from_here in
              let le = has_room_here in
              shifted_inside scope p (n + i) s apart differs inside_p there_here.1 before k q k_few q_few all_few_here blocks_span here there_s there_here.0 refl refl lower_here (upper_bare
              none_shift) z r
              z_near r_near shift_there from_here to_here (both from le) (subst (λ (y : ℤ). y ≤ℤ pos 2147483647) (sym r_last) end_here)
            where
              both : {z r : ℤ} → negsuc 2147483647 ≤ℤ z → z ≤ℤ r → negsuc 2147483647 ≤ℤ r
              both h g = omega (arith, ints, h, g)

          shift_from : at_most scope (alone p) at_shift ≡ true
          shift_from =
              shifted_from scope p (n + i) s apart differs inside_p there_here.1 before k q k_few q_few all_few_here blocks_span here there_s there_here.0 refl refl lower_here (upper_bare
              none_shift) z r
              z_near r_near shift_there

          shift_to : at_most scope at_shift (raised (alone p) (pos k)) ≡ true
          shift_to =
              shifted_to scope p (n + i) s apart differs inside_p there_here.1 before k q k_few q_few all_few_here blocks_span here there_s there_here.0 refl refl lower_here (upper_bare
              none_shift) z r
              z_near r_near shift_there

          -- over the grid its places begin with the block
          seated_shift : ((outer : Form) → form_named grid c.outer ≡ Some outer → place_named c.whole ≡ From (alone p) c.factor) → is_seated R known.binders (exactly at_shift) (place_named
              c.whole) ≡ true
          seated_shift placed = of told
            where
              of : OuterAt s → is_seated R known.binders (exactly at_shift) (place_named c.whole) ≡ true
              of (inl over) =
                  let is = size_so in
                  let one : pos c.factor -ℤ pos 1 ≡ pos k = omega (arith, ints, is) in
                  ap (is_seated R known.binders (exactly at_shift)) (placed (alone s) over.0)
                  ∙ seat_by at_shift (alone p) (raised (alone p) (pos k)) c.factor (ap (raised (alone p)) one) shift_from shift_to
              of (inr (o, v, at_v, v_loop, v_name, is)) =
                  let dims_here = dim_split c m (outer_entry o v at_v v_loop v_name).1 in
                  let last_so : z +ℤ (pos (count c.whole) -ℤ pos 1) ≡ end = regrouped z (count c.whole) in
                  let place_so = dims_here.1 ∙ ap (λ (b : Bool). From (number z) (if b then count c.whole else q * c.factor + c.factor)) (shifted_tailed rs c shifts) in
                  ap (is_seated R known.binders (exactly at_shift)) place_so ∙ seat_by at_shift (number z) (number end) (count c.whole) (ap number last_so) shift_over shift_under
                where
                  regrouped : (z : ℤ) (n : ℕ) → (z +ℤ (pos n -ℤ pos 1)) ≡ z +ℤ pos n -ℤ pos 1
                  regrouped z n = omega (arith, ints)

          right_shifted : ((outer : Form) → form_named grid c.outer ≡ Some outer → place_named c.whole ≡ From (alone p) c.factor) → is_within_limits at_shift ≡ true → IsRight c.whole at_shift
          right_shifted placed limited =
              let none = pure c m shifts in record {
                inside = λ early. shift_inside;
                seated = seated_shift placed;
                within = λ update. absurd (omega (arith, update, none));
                kept = limited;
              }

    -- ---- what a variable's name stands for

    module _ (y : List ℕ) (f : Form) (u : WholeHere y f) where
      abbrev c : Split
      c = u.split

      abbrev m : In c cuts
      m = u.there

      right_whole : IsRight c.whole f
      right_whole = inner_of u.by_inner
        where
          outer_is : (s : ℕ) × (u.outer ≡ alone s) × (slice_get scope s ≡ Some (Bound (blocks_span c m))) × OuterAt c m s
          outer_is = outer_told c m u.outer u.by_outer

          begins_so : combined (number (low c.whole)) (pos c.factor) (alone outer_is.0) ≡ Some u.first
          begins_so = ap (combined (number (low c.whole)) (pos c.factor)) (sym outer_is.1) ∙ u.begins

          first_so : u.first ≡ one_of (low c.whole) (pos c.factor) outer_is.0
          first_so = (combined-means (number (low c.whole)) (pos c.factor) (alone outer_is.0) u.first begins_so).is ∙ start_is (low c.whole) c.factor outer_is.0 (fits c m).some

          inner_of : LeafHere c.inner u.inner → IsRight c.whole f
          inner_of (inl over) = (let clash : Some u.inner ≡ None = sym over ∙ inners c m in absurd (cc clash))
          inner_of (inr (i, e, there_e, loop, name, inner_form)) = begun_of u.begun
            where
              sum_so : combined u.start (pos 1) (alone (n + i)) ≡ Some u.form
              sum_so = ap (combined u.start (pos 1)) (sym inner_form) ∙ u.sum

              begun_of : IsBegun cuts others once rs grid base head n es c u.first u.start → IsRight c.whole f
              begun_of (inl (plain, start_so)) = kept_of u.kept
                where
                  form_so : (u.form ≡ at_pair c m i e there_e loop name outer_is.0) × (is_within_limits (at_pair c m i e there_e loop name outer_is.0) ≡ true)
                  form_so = pair_made c m i e there_e loop name outer_is.0 outer_is.3 u.first u.form begins_so (ap (λ (g : Form). combined g (pos 1) (alone (n + i))) (sym start_so) ∙ sum_so)

                  kept_of : Kept cuts others once rs grid base head n es c u.form f → IsRight c.whole f
                  kept_of (inl (free, is)) =
                      let bare : is_tailed rs c ≡ false = sym (kept_or_shifted rs c plain) ∙ free in
                      let none : e.limits ≡ [] = elim (limited_by i e there_e loop) [
                        | inl none ↦ none
                        | inr (c', m', keeps, named, g, limit, is_limit) ↦
                            (let same_split : c' ≡ c = by_inner cuts others c' c m' m (sym named ∙ name) in
                            let clash : true ≡ false = sym keeps ∙ ap (keeps_rest rs) same_split ∙ free in
                            absurd (cc clash))
                      ] in
                      subst (IsRight c.whole) (sym (is ∙ form_so.0)) (right_bare c m i e there_e loop name outer_is.0 outer_is.3 outer_is.2 form_so.1 bare none plain)
                  kept_of (inr (inl l)) = by l.is_limit.by_outer
                    where
                      guarded : is_tailed rs c ≡ true
                      guarded = sym (kept_or_shifted rs c plain) ∙ l.keeps

                      limits_here : EntryHere l.place l.entry → is_loop l.entry.line ≡ true
                      limits_here (inl t) = t.loop
                      limits_here (inr t) = (let clash : l.limit ∷ [] ≡ [] = sym l.limits ∙ t.bare in absurd (cc clash))

                      same_place : l.place ≡ i
                      same_place = unique l.place i l.entry e l.there there_e (limits_here (entries l.place l.entry l.there)) loop (l.name ∙ sym name)

                      same_entry : l.entry ≡ e
                      same_entry = (let some : Some l.entry ≡ Some e = sym l.there ∙ ap (slice_get es) same_place ∙ there_e in cc some)

                      -- the same outer loop, which stands before
                      ready : l.is_limit.outer ≡ alone outer_is.0 → outer_is.0 < n + i → IsRight c.whole f
                      ready outer_so less =
                          let size : ℕ = c.factor - 1 in
                          let some = (fits c m).some in
                          let factor_so : c.factor ≡ suc size = omega (arith, some) in
                          let begins_limit = ap (combined (number (low c.whole)) (pos c.factor)) (sym outer_so) ∙ l.is_limit.begins in
                          let sum_limit : combined l.is_limit.start (pos 1) (alone (n + i)) ≡ Some l.is_limit.form =
                          ap (λ (j : ℕ). combined l.is_limit.start (pos 1) (alone (n + j))) (sym same_place) ∙ l.is_limit.sum in
                          let form_limit = pair_made c m i e there_e loop name outer_is.0 outer_is.3 l.is_limit.start l.is_limit.form begins_limit sum_limit in
                          let two = form_limit.0 ∙ pair_two c m i e there_e loop name outer_is.0 less in
                          let left = left_is (last c.whole) (low c.whole) size outer_is.0 (n + i) less l.limit
                          (ap (λ (v : Form). combined (number (last c.whole)) (negsuc 0) (without v (n + i))) (sym two)
                          ∙ ap (λ (j : ℕ). combined (number (last c.whole)) (negsuc 0) (without l.is_limit.form (n + j))) (sym same_place) ∙ l.is_limit.less) in
                          let left_so : l.limit ≡ left_over (last c.whole) (low c.whole) (pos c.factor) outer_is.0 =
                          left ∙ ap (λ (w : ℕ). left_over (last c.whole) (low c.whole) (pos w) outer_is.0) (sym factor_so) in
                          let limits_so : e.limits ≡ left_over (last c.whole) (low c.whole) (pos c.factor) outer_is.0 ∷ [] =
                          ap (λ (x : Entry). x.limits) (sym same_entry) ∙ l.limits ∙ ap (λ (g : Form). g ∷ []) left_so in
                          subst (IsRight c.whole) (sym (l.is ∙ form_so.0))
                          (right_guarded c m i e there_e loop name outer_is.0 outer_is.3 outer_is.2 form_so.1 guarded plain less limits_so)

                      by : LeafBefore cuts others once rs grid base head n es l.place c.outer l.is_limit.outer → IsRight c.whole f
                      by (inl over) = at_outer outer_is.3
                        where
                          at_outer : OuterAt c m outer_is.0 → IsRight c.whole f
                          at_outer (inl told) =
                              let some : Some l.is_limit.outer ≡ Some (alone outer_is.0) = sym over ∙ told.0 in
                              let less = told.2 in
                              ready (cc some) (omega (arith, less))
                          at_outer (inr (o, v, at_v, v_loop, v_name, is)) = over_apart c m l.is_limit.outer over o v at_v v_loop v_name
                      by (inr (j, x, at_x, x_loop, x_name, form_is, less)) = at_outer outer_is.3
                        where
                          at_outer : OuterAt c m outer_is.0 → IsRight c.whole f
                          at_outer (inl told) = over_apart c m (alone outer_is.0) told.0 j x at_x x_loop x_name
                          at_outer (inr (o, v, at_v, v_loop, v_name, is)) =
                              let same_outer : j ≡ o = unique j o x v at_x at_v x_loop v_loop (x_name ∙ sym v_name) in
                              let place = same_place in
                              let symbol : n + j ≡ outer_is.0 = (let one = is in omega (arith, same_outer, one)) in
                              ready (form_is ∙ ap alone symbol) (omega (arith, less, place, symbol))
                  kept_of (inr (inr p)) = right_paired c m i e there_e loop name u.form f p
              begun_of (inr (shifts, s, at, start_so)) = kept_of u.kept
                where
                  begins_block : combined (number (pos 0)) (pos 1) (alone s) ≡ Some (alone s)
                  begins_block = refl

                  sum_block : combined (alone s) (pos 1) (alone (n + i)) ≡ Some u.form
                  sum_block = ap (λ (g : Form). combined g (pos 1) (alone (n + i))) (sym start_so) ∙ sum_so

                  placed : (outer : Form) → form_named grid c.outer ≡ Some outer → place_named c.whole ≡ From (alone s) c.factor
                  placed outer over = dim_shift y f u shifts outer over ∙ ap (λ (g : Form). From g c.factor) start_so

                  -- where the let stands
                  ready : f ≡ u.form → (s == n + i) ≡ false → outer_is.0 < s → slice_get scope s ≡ Some (LetMin (u.first ∷ number (room (numbers_named rs c.whole) c.factor) ∷ [])) → IsRight c.whole f
                  ready is apart before there_let =
                      let form_block = pair_is (pos 0) 1 s (omega arith) (n + i) (alone s) u.form apart begins_block sum_block in
                      let there_p = there_let ∙ ap (λ (g : Form). Some (LetMin (g ∷ number (room (numbers_named rs c.whole) c.factor) ∷ []))) first_so in
                      subst (IsRight c.whole) (sym (is ∙ form_block.0))
                      (right_shifted c m i e there_e loop name shifts outer_is.0 s outer_is.3 outer_is.2 apart before there_p placed form_block.1)

                  at_let : f ≡ u.form → LetAt cuts others once rs grid base head n es c u.first s → IsRight c.whole f
                  at_let is (inl (j, at_j, symbol)) =
                      let over = head_over y f u j (base + j) (room (numbers_named rs c.whole) c.factor) at_j in
                      let there_let = ap (slice_get scope) symbol ∙ head_there j (base + j) (u.first ∷ number (room (numbers_named rs c.whole) c.factor) ∷ []) at_j in
                      let short = slice_get_within head j _ at_j in
                      by outer_is.3 over (omega (arith, short, symbol, behind)) (omega (arith, symbol)) there_let
                    where
                      by : OuterAt c m outer_is.0 → (g : Form) × (form_named grid c.outer ≡ Some g) → s < n → base ≤ s →
                          slice_get scope s ≡ Some (LetMin (u.first ∷ number (room (numbers_named rs c.whole) c.factor) ∷ [])) → IsRight c.whole f
                      by (inl told) over less least there_let =
                          let low_symbol = told.1 in
                          ready is (grind (arith, nat_tests, less)) (omega (arith, low_symbol, least)) there_let
                      by (inr (o, v, at_v, v_loop, v_name, so)) over less least there_let = over_apart c m over.0 over.1 o v at_v v_loop v_name
                  at_let is (inr (j, at_j, symbol)) = by (entries j _ at_j)
                    where
                      there_let : slice_get scope s ≡ Some (LetMin (u.first ∷ number (room (numbers_named rs c.whole) c.factor) ∷ []))
                      there_let = ap (slice_get scope) symbol ∙ entry_there j _ at_j

                      here : Entry
                      here = record { turning = let_of rs c; line = Block u.first (room (numbers_named rs c.whole) c.factor); limits = [] }

                      not_inner : (j == i) ≡ false
                      not_inner = of (j == i) refl
                        where
                          of : (b : Bool) → (j == i) ≡ b → (j == i) ≡ false
                          of false w = w
                          of true w =
                              let place = eq_true j i w in
                              let some : Some here ≡ Some e = sym at_j ∙ ap (slice_get es) place ∙ there_e in
                              let same_entry : here ≡ e = cc some in
                              let clash : true ≡ false = sym loop ∙ ap (λ (x : Entry). is_loop x.line) (sym same_entry) in
                              absurd (cc clash)

                      block_at : IsBlock cuts others once rs grid base head n es ts j here c → IsRight c.whole f
                      block_at b = at_outer outer_is.3
                        where
                          apart : (s == n + i) ≡ false
                          apart = (let differ = not_inner in grind (arith, nat_tests, differ, symbol))

                          at_outer : OuterAt c m outer_is.0 → IsRight c.whole f
                          at_outer (inl told) = (let less = told.2 in ready is apart (omega (arith, less, symbol)) there_let)
                          at_outer (inr (o, v, at_v, v_loop, v_name, so)) =
                              let same_outer : o ≡ b.outer_at = unique o b.outer_at v b.outer at_v b.outer_there v_loop b.outer_loop (v_name ∙ sym b.outer_name) in
                              let after = b.behind in
                              ready is apart (omega (arith, so, symbol, same_outer, after)) there_let

                      by : EntryHere j here → IsRight c.whole f
                      by (inl t) = (let clash : false ≡ true = t.loop in absurd (cc clash))
                      by (inr t) = kind_of t.kind
                        where
                          same_split : t.split ≡ c
                          same_split = by_whole cuts others t.split c t.among m (sym (ap (λ (x : Turning). x.name) t.turning))

                          kind_of : IsBlock cuts others once rs grid base head n es ts j here t.split
                              ⊎ ((keeps_rest rs t.split ≡ true) × (form : Form) × (p : IsPair cuts others once rs grid base head n es t.split form) × (j ≡ p.outer_at + 1)
                              × (here.line ≡ Pair form (last_number (numbers_named rs t.split.whole)))) → IsRight c.whole f
                          kind_of (inl b) = block_at (subst (IsBlock cuts others once rs grid base head n es ts j here) same_split b)
                          kind_of (inr w) =
                              let clash : true ≡ false = sym shifts ∙ ap is_shifted (sym same_split) ∙ not_shifted rs t.split w.0 in
                              absurd (cc clash)

                  kept_of : Kept cuts others once rs grid base head n es c u.form f → IsRight c.whole f
                  kept_of (inl (free, is)) = at_let is at
                  kept_of (inr (inl l)) = (let clash : true ≡ false = sym shifts ∙ not_shifted rs c l.keeps in absurd (cc clash))
                  kept_of (inr (inr p)) = (let clash : true ≡ false = sym shifts ∙ not_shifted rs c p.keeps in absurd (cc clash))

    -- of a variable's name
    pub right_of : (x : List ℕ) → In x xs → (f : Form) → Right cuts others once rs grid base head n es x f → IsRight x f
    right_of x m f (inl (inl over)) = right_grid x m f over
    right_of x m f (inl (inr (j, e, at_e, loop, name, is))) = subst (IsRight x) (sym is) (right_loop x m j e at_e loop name)
    right_of x m f (inr u) = subst (λ (y : List ℕ). IsRight y f) u.is (right_whole x f u)

    -- and of a reduction variable's: the symbol of its loop
    pub over_of : (x : List ℕ) → ((y : List ℕ) → LeafName y → x ≡ y → ⊥) → ((f : Form) → form_named grid x ≡ Some f → ⊥) →
        ((j : ℕ) (e : Entry) → slice_get es j ≡ Some e → is_loop e.line ≡ true → e.turning.name ≡ x → (unsigned_abs e.turning.low ≤ 2 ^ 20) × (unsigned_abs e.turning.last ≤ 2 ^ 20)) →
        (f : Form) → Right cuts others once rs grid base head n es x f → is_index_span scope (exactly f) ≡ true
    over_of x apart off few f (inl (inl over)) = absurd (off f over)
    over_of x apart off few f (inl (inr (j, e, at_e, loop, name, is))) =
        let t : Turning = e.turning in
        let none = unlimited j e at_e loop (λ c k q. apart c.inner (inr (c, k, inr refl)) (sym name ∙ q)) in
        let there = plain_there j e at_e loop none in
        let less = slice_get_within scope (n + j) (Bound (span t.low t.last [])) there in
        let box = few j e at_e loop name in
        let one = box.0 in
        let two = box.1 in
        ap (λ (y : Form). is_index_span scope (exactly y)) is
        ∙ symbol_inside scope (n + j) (span t.low t.last []) t.low t.last less there refl refl (omega (arith, ints, one)) (omega (arith, ints, one)) (omega (arith, ints, two)) (omega (arith, two))
    over_of x apart off few f (inr u) = absurd (apart u.split.whole (inl (wholes u.split u.there)) (sym u.is))
