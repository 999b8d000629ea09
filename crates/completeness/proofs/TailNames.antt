-- Of a nest over loops, lets and guards: which variable each is of, how often it counts, and that each variable's coordinate is as the tests ask.
use Rattle.std.proofs.Common.{◌≡◌, ℕ, suc, ◌+◌, ◌-◌, ◌*◌, ◌<◌, ◌≤◌, ◌^◌, Bool, true, false, ◌&&◌, ◌||◌, not, List, [], ◌∷◌, ◌++◌, length, Option, Some, None}
use Rattle.std.proofs.Common.{refl, sym, ap, ◌∙◌, subst, inl, inr, ◌⊎◌, arith}
use Rattle.std.specs.Prelude.{ℤ, pos, negsuc, ◌+ℤ◌, ◌-ℤ◌, ◌*ℤ◌, ◌≤ℤ◌, ◌==◌, nat_lt, if◌then◌else◌, slice_get}
use Rattle.std.specs.List.{AllByRecursion, list_any, list_all}
use Rattle.std.specs.Ordering.{int_eq}
use Rattle.std.specs.Int.RustNames.{unsigned_abs}
use Rattle.std.proofs.lemmas.Bool.Decides.{nat_tests}
use Rattle.std.proofs.lemmas.Int.{ints}
use Rattle.std.proofs.Math.Nat.{mul-suc}
use Rattle.lin.specs.declared.scope.Binding.TheVariants.{Loop as Bound}
use Rattle.bounds.specs.Spans.{numbers}
use Rattle.lin.specs.Forms.{Form, number, is_within_limits, without, combined, same_form}
use Rattle.lin.specs.declared.span.Span1.{Span1}
use Rattle.plan.specs.declared.stmt.Places.{Places}
use Rattle.plan.specs.declared.stmt.Places.TheVariants.{From}
use Rattle.meaning.specs.Names.{same_name}
use Rattle.soundness.specs.Claims.{In}
use Rattle.soundness.specs.Obligations.{Binder, Rules, exactly, form_has}
use Rattle.soundness.specs.Shown.{is_within, is_seated}
use Rattle.soundness.specs.Binders.View.{grid_from}
use Rattle.soundness.proofs.Refines.{eq_refl, eq_true, name_refl, number_true}
use Rattle.rules.specs.Bounding.Scopes.{most_symbols, binding_of, symbol_count, scope_of, shown_at_most}
use Rattle.sched.specs.declared.schedule.Split.{Split}
use Rattle.sched.specs.declared.schedule.Tail.{Tail}
use Rattle.sched.specs.declared.schedule.Tail.TheVariants.{Guard, Roundup, Shift}
use Rattle.sched.specs.declared.placing.Loop.{Loop as NestLoop}
use Rattle.sched.specs.declared.numbers.Numbers.{Numbers}
use Rattle.sched.specs.declared.skeleton.Known.{Known}
use Rattle.sched.specs.declared.nest.Turning.{Turning}
use Rattle.sched.specs.Numbers.{numbers_named}
use Rattle.sched.specs.Standing.{form_named, counted_from, alone, has_rest, room}
use Rattle.tails.specs.Steps.{along}
use Rattle.tails.specs.Maps.{spelled_out}
use Rattle.tails.specs.Apart.{is_steady}
use Rattle.lower.proofs.Blocking.{IsSmall, CutFits}
use Rattle.completeness.specs.Blocked.{is_tailed}
use Rattle.completeness.proofs.GridScope.{number_limited, grid_tells}
use Rattle.completeness.proofs.GridCounts.{IsShort}
use Rattle.completeness.proofs.SelfBounds.{form_self, number_below}
use Rattle.completeness.proofs.Searched.{one_of, up_limited}
use Rattle.completeness.proofs.Halves.{AreOthers, by_whole, by_inner, inner_outer}
use Rattle.completeness.proofs.Lanes.{AreOnce}
use Rattle.completeness.proofs.PlainTurns.{hits, itself}
use Rattle.completeness.proofs.LoopMoves.{false_end, other_way, Item, is_left}
use Rattle.completeness.proofs.SplitTests.{IsBelow, item_of}
use Rattle.completeness.proofs.BlockMoves.{Sums, now, is_gone, begins_so, SumFits}
use Rattle.completeness.proofs.BlockKept.{kept_back}
use Rattle.completeness.proofs.BlockCaps.{capped, HaveNot}
use Rattle.completeness.proofs.BlockLimits.{caps}
use Rattle.completeness.proofs.GuardSums.{left_over}
use Rattle.completeness.proofs.BlockSums.{multiple, pair, has_pair, factor_one, factor_two, sum_none, sum_one, sum_two, one_limited}
use Rattle.completeness.proofs.BlockDims.{top, apart_name}
use Rattle.completeness.proofs.TailSteps.{Line, Loop, Block, Pair, is_loop}
use Rattle.completeness.proofs.TailTurns.{is_shifted, keeps_rest, wide_rest, not_shifted}
use Rattle.completeness.proofs.TailLines.{lines_of, IsLowLine}
use Rattle.completeness.proofs.TailSums.{IsSum, course, IsLimitAt, LinesFit}
use Rattle.completeness.proofs.TailTests.{IsClaimed, IsPlaced, AreLow}
use Rattle.completeness.proofs.TailBounds.{seat_self, seat_loop, seat_block, seat_split, seat_kept_block, seat_kept_split, seat_pair, steady_one}
use Rattle.completeness.proofs.TailDims.{full_last, last_of, end_of_all, all_of, kept_cap, reaches, outer_low, outer_last, inner_low, inner_last, few_numbers}
use Rattle.completeness.proofs.Courses.{line_has, span_at, begin_of}
use Rattle.completeness.proofs.CourseSums.{number_made, pair_made, pair_limited, alone_fits, pair_caps, block_shifted, block_caps, start_fits, block_order}
use Rattle.completeness.proofs.ShiftSeats.{seat_shift}
use Rattle.completeness.proofs.HeadSeats.{HeadLet, around_from, around_spells, grid_kept, at_inside, block_claimed, seat_head, head_reached}
use Rattle.completeness.proofs.BlockNames.{kept_first, kept_neither, no_more, without_pair, left_comes}
use Rattle.completeness.proofs.BlockNames as named

loop_is : (l : Line) → is_loop l ≡ true → l ≡ Loop
loop_is Loop e = refl
loop_is (Block f z) e = absurd (cc e)
loop_is (Pair f z) e = absurd (cc e)

not_both : {b : Bool} → b ≡ true → b ≡ false → ⊥
not_both e q = (let clash : true ≡ false = sym e ∙ q in cc clash)

module _ (xs : List (List ℕ)) (ls : List NestLoop) (cuts : List Split) (rs : List Numbers) (others : AreOthers cuts) (once : AreOnce cuts)
    (halves : (c : Split) → In c cuts → (x : List ℕ) → In x xs → (x ≡ c.outer → ⊥) × (x ≡ c.inner → ⊥)) (outers : (c d : Split) → In c cuts → In d cuts → c.outer ≡ d.outer → c ≡ d)
    (gone : (c : Split) → In c cuts → (l : NestLoop) → In l ls → c.whole ≡ l.name → ⊥) where
  abbrev pub owner_named : List ℕ → List ℕ
  owner_named = named.owner_named xs ls cuts rs others once halves outers gone

  abbrev factor_named : List ℕ → ℤ
  factor_named = named.factor_named xs ls cuts rs others once halves outers gone

  abbrev owner_half : (c : Split) → In c cuts → (y : List ℕ) → (y ≡ c.outer) ⊎ (y ≡ c.inner) → owner_named y ≡ c.whole
  owner_half = named.owner_half xs ls cuts rs others once halves outers gone

  abbrev owner_self : (y : List ℕ) → In y xs → owner_named y ≡ y
  owner_self = named.owner_self xs ls cuts rs others once halves outers gone

  abbrev factor_outer : (c : Split) → In c cuts → factor_named c.outer ≡ pos c.factor
  factor_outer = named.factor_outer xs ls cuts rs others once halves outers gone

  abbrev factor_inner : (c : Split) → In c cuts → factor_named c.inner ≡ pos 1
  factor_inner = named.factor_inner xs ls cuts rs others once halves outers gone

  abbrev factor_self : (y : List ℕ) → In y xs → factor_named y ≡ pos 1
  factor_self = named.factor_self xs ls cuts rs others once halves outers gone

  abbrev LeafOf : List ℕ → Type 0
  LeafOf = named.LeafOf xs ls cuts rs others once halves outers gone

  abbrev low : List ℕ → ℤ
  low = named.low xs ls cuts rs others once halves outers gone

  abbrev last : List ℕ → ℤ
  last = named.last xs ls cuts rs others once halves outers gone

  abbrev count : List ℕ → ℕ
  count = named.count xs ls cuts rs others once halves outers gone

  abbrev IsTurnOf : List Known → Turning → Type 0
  IsTurnOf = named.IsTurnOf xs ls cuts rs others once halves outers gone

  abbrev IsForeign : List Known → Turning → Type 0
  IsForeign = named.IsForeign xs ls cuts rs others once halves outers gone

  abbrev IsNestTurn : List Known → Turning → Type 0
  IsNestTurn = named.IsNestTurn xs ls cuts rs others once halves outers gone

  abbrev owner_foreign : (grid : List Known) (t : Turning) → IsForeign grid t → owner_named t.name ≡ t.name
  owner_foreign = named.owner_foreign xs ls cuts rs others once halves outers gone

  abbrev nest_own : (grid : List Known) (t : Turning) → IsNestTurn grid t → form_named grid t.name ≡ None
  nest_own = named.nest_own xs ls cuts rs others once halves outers gone

  abbrev turn_of : (grid : List Known) (t : Turning) (x : List ℕ) → In x xs → t.name ≡ x → IsNestTurn grid t → IsTurnOf grid t
  turn_of = named.turn_of xs ls cuts rs others once halves outers gone

  abbrev half_of : (grid : List Known) (t : Turning) (c : Split) → In c cuts → (t.name ≡ c.outer) ⊎ (t.name ≡ c.inner) → IsNestTurn grid t → IsTurnOf grid t
  half_of = named.half_of xs ls cuts rs others once halves outers gone

  -- what is left up to the last number of a split loop, over the symbol of the outer loop, which stands before
  pub record IsKeptBy (n : ℕ) (ts : List Turning) (line : ℕ → Line) (c : Split) (m : ℕ) (f : Form) : Type 0 where
    pub symbol : ℕ
    pub before : symbol < m
    pub is : f ≡ left_over (last c.whole) (low c.whole) (pos c.factor) symbol
    pub nest : symbol < n → (o : ℕ) (v : Turning) → slice_get ts o ≡ Some v → v.name ≡ c.outer → ⊥
    pub whose : (symbol < n) ⊎ ((o : ℕ) × (v : Turning) × (slice_get ts o ≡ Some v) × (is_loop (line (n + o)) ≡ true) × (v.name ≡ c.outer) × (symbol ≡ n + o))

  -- the let of a split, behind its outer loop
  pub record IsLetOf (n : ℕ) (ts : List Turning) (line : ℕ → Line) (j : ℕ) (t : Turning) : Type 0 where
    pub split : Split
    pub among : In split cuts
    pub name : t.name ≡ split.whole
    pub from : t.low ≡ low split.whole
    pub to : t.last ≡ last split.whole
    pub outer_at : ℕ
    pub outer : Turning
    pub outer_there : slice_get ts outer_at ≡ Some outer
    pub outer_loop : is_loop (line (n + outer_at)) ≡ true
    pub outer_name : outer.name ≡ split.outer
    pub behind : outer_at < j

  -- behind a guard, where the outer loop stands inside of the inner one
  pub record IsPairLet (n : ℕ) (ts : List Turning) (line : ℕ → Line) (j : ℕ) (t : Turning) (k : IsLetOf n ts line j t) : Type 0 where
    pub rests : keeps_rest rs k.split ≡ true
    pub inner_at : ℕ
    pub inner : Turning
    pub inner_there : slice_get ts inner_at ≡ Some inner
    pub inner_loop : is_loop (line (n + inner_at)) ≡ true
    pub inner_name : inner.name ≡ k.split.inner
    pub before : inner_at < k.outer_at
    pub is : line (n + j) ≡ Pair (pair (low k.split.whole) (n + k.outer_at) (pos k.split.factor) (n + inner_at)) (last k.split.whole)

  -- or of a shifted block
  pub record IsBlockLet (n : ℕ) (ts : List Turning) (line : ℕ → Line) (j : ℕ) (t : Turning) (k : IsLetOf n ts line j t) : Type 0 where
    pub shifted : is_shifted k.split ≡ true
    pub is : line (n + j) ≡ Block (one_of (low k.split.whole) (pos k.split.factor) (n + k.outer_at)) (room (numbers_named rs k.split.whole) k.split.factor)

  module _ (grid : List Known) (n : ℕ) (ts : List Turning) (line : ℕ → Line) (lim : ℕ → List Form) (keep : ℕ → Bool)
      (turns : (j : ℕ) (t : Turning) → slice_get ts j ≡ Some t → is_loop (line (n + j)) ≡ true → IsNestTurn grid t)
      (lets : (j : ℕ) (t : Turning) → slice_get ts j ≡ Some t → is_loop (line (n + j)) ≡ false →
      (k : IsLetOf n ts line j t) × (IsPairLet n ts line j t k ⊎ IsBlockLet n ts line j t k) × (lim (n + j) ≡ []) × (keep (n + j) ≡ true))
      (keeps : (j : ℕ) (t : Turning) → slice_get ts j ≡ Some t → is_loop (line (n + j)) ≡ true → IsTurnOf grid t → keep (n + j) ≡ true)
      (places : (i j : ℕ) (t u : Turning) → slice_get ts i ≡ Some t → slice_get ts j ≡ Some u → t.name ≡ u.name → i ≡ j)
      (grids : (y : List ℕ) (f : Form) → form_named grid y ≡ Some f → (s : ℕ) × (f ≡ counted_from (low y) s) × (s < n) × ((l : NestLoop) × In l ls × (l.name ≡ y)))
      (inners : (c : Split) → In c cuts → form_named grid c.inner ≡ None) (fits : (c : Split) → In c cuts → CutFits rs c)
      (sized : (c : Split) → In c cuts → IsSmall (numbers_named rs c.whole) × (0 < (numbers_named rs c.whole).count))
      (bounded : (j : ℕ) (t : Turning) → slice_get ts j ≡ Some t → (lim (n + j) ≡ [])
      ⊎ ((c : Split) × In c cuts × (keeps_rest rs c ≡ true) × (t.name ≡ c.inner) × (is_loop (line (n + j)) ≡ true) × (f : Form) × IsKeptBy n ts line c (n + j) f × (is_within_limits f ≡ true)
      × (lim (n + j) ≡ f ∷ []))) where
    abbrev pub factor : ℕ → ℤ
    factor s = elim (slice_get ts (s - n)) [ Some t ↦ factor_named t.name | None ↦ pos 1 ]

    abbrev pub owner : ℕ → List ℕ
    owner j = elim (slice_get ts j) [ Some t ↦ owner_named t.name | None ↦ [] ]

    abbrev pub topped : List Form → ℤ → List Form
    topped [] z = []
    topped (f ∷ fs) z = number z ∷ []

    -- what further upper forms keep a coordinate at: the last number of its variable
    abbrev pub tops : ℕ → List Form
    tops s = topped (lim s) (last (owner (s - n)))

    pub tops_bare : (s i : ℕ) → HaveNot i (tops s)
    tops_bare s i = of (lim s)
      where
        of : (fs : List Form) → HaveNot i (topped fs (last (owner (s - n))))
        of [] = tt
        of (f ∷ fs) = (refl, tt)

    factor_there : (j : ℕ) (t : Turning) → slice_get ts j ≡ Some t → factor (n + j) ≡ factor_named t.name
    factor_there j t at =
        let place : (n + j) - n ≡ j = omega arith in
        ap (λ (i : ℕ). elim (slice_get ts i) [ Some t ↦ factor_named t.name | None ↦ pos 1 ]) place ∙ ap (λ (o : Option Turning). elim o [ Some t ↦ factor_named t.name | None ↦ pos 1 ]) at

    pub owner_there : (j : ℕ) (t : Turning) → slice_get ts j ≡ Some t → owner j ≡ owner_named t.name
    owner_there j t at = ap (λ (o : Option Turning). elim o [ Some t ↦ owner_named t.name | None ↦ [] ]) at

    other_owner : (x : List ℕ) (j : ℕ) (t : Turning) → slice_get ts j ≡ Some t → is_loop (line (n + j)) ≡ true → (t.name ≡ x → ⊥) →
        ((c : Split) → In c cuts → c.whole ≡ x → (t.name ≡ c.outer) ⊎ (t.name ≡ c.inner) → ⊥) → same_name x (owner j) ≡ false
    other_owner x j t at loop one two = elim (turns j t at loop) [
      | inl o ↦ of o.leaf
      | inr o ↦ ap (same_name x) (owner_there j t at ∙ owner_foreign grid t o) ∙ apart_name x t.name (λ e. one (sym e))
    ]
      where
        of : LeafOf t.name → same_name x (owner j) ≡ false
        of (inl m) = ap (same_name x) (owner_there j t at ∙ owner_self t.name m) ∙ apart_name x t.name (λ e. one (sym e))
        of (inr (c, m, h)) = ap (same_name x) (owner_there j t at ∙ owner_half c m t.name h) ∙ apart_name x c.whole (λ e. two c m (sym e) h)

    same_place : (i j : ℕ) → (n + i == n + j) ≡ true → i ≡ j
    same_place i j e = (let sum = eq_true (n + i) (n + j) e in omega (arith, sum))

    same_turn : (i j : ℕ) (t u : Turning) → slice_get ts i ≡ Some t → slice_get ts j ≡ Some u → i ≡ j → t ≡ u
    same_turn i j t u at there e = (let some : Some t ≡ Some u = sym at ∙ ap (slice_get ts) e ∙ there in cc some)

    apart_place : (i j : ℕ) (t u : Turning) → slice_get ts i ≡ Some t → slice_get ts j ≡ Some u → (n + i == n + j) ≡ false → t.name ≡ u.name → ⊥
    apart_place i j t u at there e same =
        let clash : true ≡ false = sym (ap (λ (k : ℕ). n + i == n + k) (sym (places i j t u at there same)) ∙ eq_refl (n + i)) ∙ e in
        cc clash

    one_only : (b : Bool) → (b || false) ≡ b
    one_only true = refl
    one_only false = refl

    tops_there : (j : ℕ) (t : Turning) → slice_get ts j ≡ Some t → tops (n + j) ≡ topped (lim (n + j)) (last (owner_named t.name))
    tops_there j t at =
        let place : (n + j) - n ≡ j = omega arith in
        ap (λ (i : ℕ). topped (lim (n + j)) (last (owner i))) place ∙ ap (λ (y : List ℕ). topped (lim (n + j)) (last y)) (owner_there j t at)

    -- ---- further upper forms, and lets

    near_whole : (c : Split) → In c cuts → (unsigned_abs (low c.whole) ≤ 2 ^ 36) × (unsigned_abs (last c.whole) ≤ 2 ^ 36)
    near_whole c m =
        let fit = sized c m in
        let from = fit.0.from in
        let to = fit.0.to in
        let few = fit.0.few in
        let some = fit.1 in
        (omega (arith, ints, from, to), omega (arith, ints, from, to, few, some))

    -- a split that is not shifted is kept at its last number where it keeps a rest
    tailed_is : (c : Split) → is_shifted c ≡ false → is_tailed rs c ≡ keeps_rest rs c
    tailed_is c plain = of c.tail plain
      where
        of : (t : Tail) → (elim t [ Guard ↦ false | Roundup ↦ false | Shift ↦ true ]) ≡ false →
            ◌≡◌ {A = Bool} (elim t [ Guard ↦ has_rest c (numbers_named rs c.whole).count | Roundup ↦ false | Shift ↦ true ]) (elim t [
              | Guard ↦ has_rest c (numbers_named rs c.whole).count
              | Roundup ↦ false
              | Shift ↦ false
            ])
        of Guard e = refl
        of Roundup e = refl
        of Shift e = absurd (cc e)

    -- and a shifted one always, by no guard
    tailed_shift : (c : Split) → is_shifted c ≡ true → (is_tailed rs c ≡ true) × (keeps_rest rs c ≡ false)
    tailed_shift c shifted = of c.tail shifted
      where
        of : (t : Tail) → (elim t [ Guard ↦ false | Roundup ↦ false | Shift ↦ true ]) ≡ true →
            (◌≡◌ {A = Bool} (elim t [ Guard ↦ has_rest c (numbers_named rs c.whole).count | Roundup ↦ false | Shift ↦ true ]) true)
            × (◌≡◌ {A = Bool} (elim t [ Guard ↦ has_rest c (numbers_named rs c.whole).count | Roundup ↦ false | Shift ↦ false ]) false)
        of Guard e = absurd (cc e)
        of Roundup e = absurd (cc e)
        of Shift e = (refl, refl)

    pub limits_fit : (j : ℕ) (t : Turning) → slice_get ts j ≡ Some t → ((lim (n + j) ≡ []) × (tops (n + j) ≡ [])) ⊎ ((g : Form) × IsLimitAt factor n ts owner line lim tops keep j t g)
    limits_fit j t at = of (bounded j t at)
      where
        of : (lim (n + j) ≡ []) ⊎ ((c : Split) × In c cuts × (keeps_rest rs c ≡ true) × (t.name ≡ c.inner) × (is_loop (line (n + j)) ≡ true) × (f : Form) × IsKeptBy n ts line c (n + j) f
            × (is_within_limits f ≡ true) × (lim (n + j) ≡ f ∷ [])) → ((lim (n + j) ≡ []) × (tops (n + j) ≡ [])) ⊎ ((g : Form) × IsLimitAt factor n ts owner line lim tops keep j t g)
        of (inl e) = inl (e, tops_there j t at ∙ ap (λ (fs : List Form). topped fs (last (owner_named t.name))) e)
        of (inr (c, m, rests, name, loop, f, k, limited, e)) = inr (
          f,
          record {
            is = e;
            top = last c.whole;
            tops_are = tops_there j t at ∙ ap (λ (fs : List Form). topped fs (last (owner_named t.name))) e ∙ ap (λ (y : List ℕ). number (last y) ∷ []) (owner_half c m t.name (inr name));
            once = factor_there j t at ∙ ap factor_named name ∙ factor_inner c m;
            turns = ap (λ (b : Bool). b && true) not_lone;
            own = ap (λ (g : Form). form_has (n + j) g) k.is ∙ ap (λ (b : Bool). b || false) away;
            unlike = ap (λ (g : Form). same_form g (number t.low)) k.is ∙ false_end (int_eq (last c.whole +ℤ negsuc 0 *ℤ low c.whole) t.low);
            wide = λ i u at_i has. wide_at i u at_i has;
            below = subst (IsBelow (n + j)) (sym k.is) (before, tt);
          },
        )
          where
            before : k.symbol < n + j
            before = k.before

            away : (k.symbol == n + j) ≡ false
            away = (let less = before in grind (arith, nat_tests, less))

            own_turn : IsTurnOf grid t
            own_turn = half_of grid t c m (inr name) (turns j t at loop)

            t_low : t.low ≡ pos 0
            t_low = own_turn.from ∙ ap low name ∙ inner_low rs c (fits c m) (sized c m).0 (sized c m).1

            t_last : t.last ≡ pos c.factor -ℤ pos 1
            t_last = own_turn.to ∙ ap last name ∙ inner_last rs c (fits c m) (sized c m).0 (sized c m).1

            not_lone : int_eq t.low t.last ≡ false
            not_lone = (λ i. int_eq (t_low i) (t_last i)) ∙ by c.factor (wide_rest rs c (fits c m).some rests)
              where
                by : (q : ℕ) → 2 ≤ q → int_eq (pos 0) (pos q -ℤ pos 1) ≡ false
                by q h = which (int_eq (pos 0) (pos q -ℤ pos 1)) refl
                  where
                    which : (b : Bool) → int_eq (pos 0) (pos q -ℤ pos 1) ≡ b → int_eq (pos 0) (pos q -ℤ pos 1) ≡ false
                    which true e = (let is = number_true (pos 0) (pos q -ℤ pos 1) e in absurd (omega (arith, ints, is, h)))
                    which false e = e

            wide_at : (i : ℕ) (u : Turning) → slice_get ts i ≡ Some u → form_has (n + i) f ≡ true → pos 2 ≤ℤ factor (n + i)
            wide_at i u at_i has = by k.whose
              where
                same : k.symbol ≡ n + i
                same = eq_true k.symbol (n + i) (sym (one_only (k.symbol == n + i)) ∙ sym (ap (λ (g : Form). form_has (n + i) g) k.is) ∙ has)

                by : (k.symbol < n) ⊎ ((o : ℕ) × (v : Turning) × (slice_get ts o ≡ Some v) × (is_loop (line (n + o)) ≡ true) × (v.name ≡ c.outer) × (k.symbol ≡ n + o)) → pos 2 ≤ℤ factor (n + i)
                by (inl less) = (let is = same in absurd (omega (arith, less, is)))
                by (inr (o, v, at_o, looping, outer, is)) =
                    let sums = sym is ∙ same in
                    let place : o ≡ i = omega (arith, sums) in
                    let turn : v ≡ u = same_turn o i v u at_o at_i place in
                    let times : factor (n + i) ≡ pos c.factor =
                    factor_there i u at_i ∙ ap (λ (w : Turning). factor_named w.name) (sym turn) ∙ ap factor_named outer ∙ factor_outer c m in
                    let wide = wide_rest rs c (fits c m).some rests in
                    omega (arith, ints, times, wide)

    pub limits_within : (j : ℕ) (t : Turning) → slice_get ts j ≡ Some t → list_all is_within_limits (lim (n + j)) ≡ true
    limits_within j t at = of (bounded j t at)
      where
        of : (lim (n + j) ≡ []) ⊎ ((c : Split) × In c cuts × (keeps_rest rs c ≡ true) × (t.name ≡ c.inner) × (is_loop (line (n + j)) ≡ true) × (f : Form) × IsKeptBy n ts line c (n + j) f
            × (is_within_limits f ≡ true) × (lim (n + j) ≡ f ∷ [])) → list_all is_within_limits (lim (n + j)) ≡ true
        of (inl e) = ap (list_all is_within_limits) e
        of (inr (c, m, rests, name, loop, f, k, limited, e)) = ap (list_all is_within_limits) e ∙ ap (λ (b : Bool). b && true) limited

    bare_by : (i : ℕ) (t : Turning) → slice_get ts i ≡ Some t → ((c : Split) → In c cuts → keeps_rest rs c ≡ true → t.name ≡ c.inner → ⊥) → lim (n + i) ≡ []
    bare_by i t at never = of (bounded i t at)
      where
        of : (lim (n + i) ≡ []) ⊎ ((c : Split) × In c cuts × (keeps_rest rs c ≡ true) × (t.name ≡ c.inner) × (is_loop (line (n + i)) ≡ true) × (f : Form) × IsKeptBy n ts line c (n + i) f
            × (is_within_limits f ≡ true) × (lim (n + i) ≡ f ∷ [])) → lim (n + i) ≡ []
        of (inl e) = e
        of (inr (c, m, rests, name, loop, f, k, limited, e)) = absurd (never c m rests name)

    own_bare : (x : List ℕ) → In x xs → (i : ℕ) (t : Turning) → slice_get ts i ≡ Some t → t.name ≡ x → lim (n + i) ≡ []
    own_bare x mx i t at name = bare_by i t at (λ c m rests inner. (halves c m x mx).1 (sym name ∙ inner))

    outer_bare : (c : Split) → In c cuts → (i : ℕ) (t : Turning) → slice_get ts i ≡ Some t → t.name ≡ c.outer → lim (n + i) ≡ []
    outer_bare c m i t at name = bare_by i t at (λ d md rests inner. inner_outer cuts others d c md m (sym inner ∙ name))

    inner_bare : (c : Split) → In c cuts → keeps_rest rs c ≡ false → (i : ℕ) (t : Turning) → slice_get ts i ≡ Some t → t.name ≡ c.inner → lim (n + i) ≡ []
    inner_bare c m free i t at name =
        bare_by i t at (λ d md rests inner. not_both rests (ap (keeps_rest rs) (by_inner cuts others d c md m (sym inner ∙ name)) ∙ free))

    -- the inner loop of a split whose outer loop stands inside of it has none
    pair_bare : (c : Split) → In c cuts → (o i : ℕ) (v t : Turning) → slice_get ts o ≡ Some v → v.name ≡ c.outer → slice_get ts i ≡ Some t → t.name ≡ c.inner → i < o → lim (n + i) ≡ []
    pair_bare c m o i v t at_o outer at_i inner before = of (bounded i t at_i)
      where
        of : (lim (n + i) ≡ []) ⊎ ((d : Split) × In d cuts × (keeps_rest rs d ≡ true) × (t.name ≡ d.inner) × (is_loop (line (n + i)) ≡ true) × (f : Form) × IsKeptBy n ts line d (n + i) f
            × (is_within_limits f ≡ true) × (lim (n + i) ≡ f ∷ [])) → lim (n + i) ≡ []
        of (inl e) = e
        of (inr (d, md, rests, name, loop, f, k, limited, e)) = absurd (by k.whose)
          where
            same : d ≡ c
            same = by_inner cuts others d c md m (sym name ∙ inner)

            by : (k.symbol < n) ⊎ ((p : ℕ) × (w : Turning) × (slice_get ts p ≡ Some w) × (is_loop (line (n + p)) ≡ true) × (w.name ≡ d.outer) × (k.symbol ≡ n + p)) → ⊥
            by (inl less) = k.nest less o v at_o (outer ∙ ap (λ (x : Split). x.outer) (sym same))
            by (inr (p, w, at_p, looping, q, is)) =
                let place : p ≡ o = places p o w v at_p at_o (q ∙ ap (λ (x : Split). x.outer) same ∙ sym outer) in
                let less = k.before in
                omega (arith, place, less, is, before)

    let_place : (j : ℕ) (t : Turning) (at : slice_get ts j ≡ Some t) → is_loop (line (n + j)) ≡ false → IsLetOf n ts line j t
    let_place j t at e = (lets j t at e).0

    or_false : (a b : Bool) → (a || b) ≡ true → (a ≡ true) ⊎ (b ≡ true)
    or_false true b e = inl refl
    or_false false b e = inr e

    -- a let's form has the symbols of the split's loops
    let_names : (p : ℕ) (t : Turning) → slice_get ts p ≡ Some t → (j : ℕ) (u : Turning) → slice_get ts j ≡ Some u → line_has (n + j) (line (n + p)) ≡ true →
        (is_loop (line (n + j)) ≡ true) × (owner j ≡ t.name)
    let_names p t there j u at has = of (lets p t there (not_loop (line (n + p)) has))
      where
        not_loop : (l : Line) → line_has (n + j) l ≡ true → is_loop l ≡ false
        not_loop Loop e = absurd (cc e)
        not_loop (Block f z) e = refl
        not_loop (Pair f z) e = refl

        named_so : (k : IsLetOf n ts line p t) (i : ℕ) (v : Turning) → slice_get ts i ≡ Some v → is_loop (line (n + i)) ≡ true → (v.name ≡ k.split.outer) ⊎ (v.name ≡ k.split.inner) →
            (n + i == n + j) ≡ true → (is_loop (line (n + j)) ≡ true) × (owner j ≡ t.name)
        named_so k i v there loop half e =
            let place : i ≡ j = same_place i j e in
            (subst (λ (q : ℕ). is_loop (line (n + q)) ≡ true) place loop, ap owner (sym place) ∙ owner_there i v there ∙ owner_half k.split k.among v.name half ∙ sym k.name)

        of : (k : IsLetOf n ts line p t) × (IsPairLet n ts line p t k ⊎ IsBlockLet n ts line p t k) × (lim (n + p) ≡ []) × (keep (n + p) ≡ true) → (is_loop (line (n + j)) ≡ true) × (owner j ≡ t.name)
        of (k, inl r, bare, kept) =
            by (or_false (n + k.outer_at == n + j) (n + r.inner_at == n + j)
            (sym (has_pair (low k.split.whole) (n + k.outer_at) (pos k.split.factor) (n + r.inner_at) (n + j)) ∙ sym (ap (line_has (n + j)) r.is) ∙ has))
          where
            by : ((n + k.outer_at == n + j) ≡ true) ⊎ ((n + r.inner_at == n + j) ≡ true) → (is_loop (line (n + j)) ≡ true) × (owner j ≡ t.name)
            by (inl e) = named_so k k.outer_at k.outer k.outer_there k.outer_loop (inl k.outer_name) e
            by (inr e) = named_so k r.inner_at r.inner r.inner_there r.inner_loop (inr r.inner_name) e
        of (k, inr r, bare, kept) =
            named_so k k.outer_at k.outer k.outer_there k.outer_loop (inl k.outer_name) (sym (one_only (n + k.outer_at == n + j)) ∙ sym (ap (line_has (n + j)) r.is) ∙ has)

    limit_names : (p : ℕ) (t : Turning) → slice_get ts p ≡ Some t → (j : ℕ) (u : Turning) → slice_get ts j ≡ Some u → list_any (form_has (n + j)) (lim (n + p)) ≡ true → is_loop (line (n + j)) ≡ true
    limit_names p t there j u at has = of (bounded p t there)
      where
        of : (lim (n + p) ≡ []) ⊎ ((c : Split) × In c cuts × (keeps_rest rs c ≡ true) × (t.name ≡ c.inner) × (is_loop (line (n + p)) ≡ true) × (f : Form) × IsKeptBy n ts line c (n + p) f
            × (is_within_limits f ≡ true) × (lim (n + p) ≡ f ∷ [])) → is_loop (line (n + j)) ≡ true
        of (inl e) = (let clash : true ≡ false = sym has ∙ ap (list_any (form_has (n + j))) e in absurd (cc clash))
        of (inr (c, m, rests, name, loop, f, k, limited, e)) = by k.whose
          where
            same : k.symbol ≡ n + j
            same =
                eq_true k.symbol (n + j) (sym (one_only (k.symbol == n + j)) ∙ sym (ap (λ (g : Form). form_has (n + j) g) k.is) ∙ sym (one_only (form_has (n + j) f))
                ∙ sym (ap (list_any (form_has (n + j))) e) ∙ has)

            by : (k.symbol < n) ⊎ ((o : ℕ) × (v : Turning) × (slice_get ts o ≡ Some v) × (is_loop (line (n + o)) ≡ true) × (v.name ≡ c.outer) × (k.symbol ≡ n + o)) → is_loop (line (n + j)) ≡ true
            by (inl less) = (let is = same in absurd (omega (arith, less, is)))
            by (inr (o, v, at_o, looping, outer, is)) =
                let sums = sym is ∙ same in
                subst (λ (q : ℕ). is_loop (line q) ≡ true) sums looping

    -- all that is asked of loops and lets, where these variables are the coordinates
    pub lines_fit : (ys : List (List ℕ)) → ((j : ℕ) (t : Turning) → slice_get ts j ≡ Some t → keep (n + j) ≡ true → is_loop (line (n + j)) ≡ true → hits itself (owner j) ys ≡ 1) →
        ((j : ℕ) (t : Turning) → slice_get ts j ≡ Some t → is_loop (line (n + j)) ≡ false → hits itself t.name ys ≡ 1) →
        ((j : ℕ) (t : Turning) → slice_get ts j ≡ Some t → (unsigned_abs t.low ≤ 2 ^ 40) × (unsigned_abs t.last ≤ 2 ^ 40)) → LinesFit factor n ts owner line lim tops keep ys
    lines_fit ys loops_once lets_once near = record {
      limits = limits_fit;
      bare = tops_bare;
      let_names = let_names;
      limit_names = limit_names;
      loops_once = loops_once;
      lets_once = lets_once;
      near = near;
    }

    -- each form is over lower symbols
    pub are_low : AreLow factor n ts owner line lim tops keep
    are_low j t at = (of (bounded j t at), own (line (n + j)) refl)
      where
        of : (lim (n + j) ≡ []) ⊎ ((c : Split) × In c cuts × (keeps_rest rs c ≡ true) × (t.name ≡ c.inner) × (is_loop (line (n + j)) ≡ true) × (f : Form) × IsKeptBy n ts line c (n + j) f
            × (is_within_limits f ≡ true) × (lim (n + j) ≡ f ∷ [])) → AllByRecursion (IsBelow (n + j)) (lim (n + j))
        of (inl e) = subst (AllByRecursion (IsBelow (n + j))) (sym e) tt
        of (inr (c, m, rests, name, loop, f, k, limited, e)) =
            let before = k.before in
            subst (AllByRecursion (IsBelow (n + j))) (sym e) (subst (IsBelow (n + j)) (sym k.is) (before, tt), tt)

        below : (z : ℤ) (o i : ℕ) (c : ℤ) → o < n + j → i < n + j → IsBelow (n + j) (pair z o c i)
        below z o i c one two = which (nat_lt o i)
          where
            which : (b : Bool) → AllByRecursion (λ t. t.symbol < n + j) (if b then multiple o c ∷ multiple i (pos 1) ∷ [] else multiple i (pos 1) ∷ multiple o c ∷ [])
            which true = (one, (two, tt))
            which false = (two, (one, tt))

        own : (l : Line) → line (n + j) ≡ l → IsLowLine line lim keep l (n + j)
        own Loop e = tt
        own (Block f z) e = by (lets j t at (ap is_loop e))
          where
            by : (k : IsLetOf n ts line j t) × (IsPairLet n ts line j t k ⊎ IsBlockLet n ts line j t k) × (lim (n + j) ≡ []) × (keep (n + j) ≡ true) → IsBelow (n + j) f
            by (k, inl r, bare, kept) =
                let clash : Pair (pair (low k.split.whole) (n + k.outer_at) (pos k.split.factor) (n + r.inner_at)) (last k.split.whole) ≡ Block f z = sym r.is ∙ e in
                absurd (cc clash)
            by (k, inr r, bare, kept) =
                let same : Block (one_of (low k.split.whole) (pos k.split.factor) (n + k.outer_at)) (room (numbers_named rs k.split.whole) k.split.factor) ≡ Block f z = sym r.is ∙ e in
                let form : one_of (low k.split.whole) (pos k.split.factor) (n + k.outer_at) ≡ f = cc same in
                let outer = k.behind in
                subst (IsBelow (n + j)) form (omega (arith, outer), tt)
        own (Pair f z) e = by (lets j t at (ap is_loop e))
          where
            by : (k : IsLetOf n ts line j t) × (IsPairLet n ts line j t k ⊎ IsBlockLet n ts line j t k) × (lim (n + j) ≡ []) × (keep (n + j) ≡ true) → IsBelow (n + j) f
            by (k, inr r, bare, kept) =
                let clash : Block (one_of (low k.split.whole) (pos k.split.factor) (n + k.outer_at)) (room (numbers_named rs k.split.whole) k.split.factor) ≡ Pair f z = sym r.is ∙ e in
                absurd (cc clash)
            by (k, inl r, bare, kept) =
                let same : Pair (pair (low k.split.whole) (n + k.outer_at) (pos k.split.factor) (n + r.inner_at)) (last k.split.whole) ≡ Pair f z = sym r.is ∙ e in
                let form : pair (low k.split.whole) (n + k.outer_at) (pos k.split.factor) (n + r.inner_at) ≡ f = cc same in
                let inner = r.before in
                let outer = k.behind in
                subst (IsBelow (n + j)) form (below (low k.split.whole) (n + k.outer_at) (n + r.inner_at) (pos k.split.factor) (omega (arith, outer)) (omega (arith, inner, outer)))

    module _ (rules : Rules) (bound : rules.at_most ≡ shown_at_most) (counts : List ℕ) (heads : List HeadLet) (few : length counts + length heads ≤ n)
        (short_heads : length counts + length heads ≤ most_symbols) (shorts : AllByRecursion IsShort counts)
        (near : (j : ℕ) (t : Turning) → slice_get ts j ≡ Some t → (unsigned_abs t.low ≤ 2 ^ 36) × (unsigned_abs t.last ≤ 2 ^ 36))
        (tells : (y : Span1) → spelled_out (grid_from 0 counts) y ≡ y) (claim : List ℕ → Span1) (place : List ℕ → Places) where
      abbrev bs : List Binder
      bs = around_from (length counts) heads (grid_from 0 counts)

      -- the form has no let of the group's head
      abbrev IsFree : Form → Type 0
      IsFree u = (j : ℕ) → form_has (length counts + j) u ≡ false

      free_grid : (z c : ℤ) (s : ℕ) → s < length counts → IsFree (one_of z c s)
      free_grid z c s less j = (let away : (s == length counts + j) ≡ false = grind (arith, nat_tests, less) in ap (λ (b : Bool). b || false) away)

      spells : (l u : Form) (cs : List Form) → IsFree u → ((j : ℕ) → list_any (form_has (length counts + j)) cs ≡ false) →
          spelled_out bs (record { lower = l ∷ []; upper = u ∷ cs }) ≡ record { lower = l ∷ []; upper = u ∷ cs }
      spells l u cs free none =
          around_spells (length counts) heads (grid_from 0 counts) (record { lower = l ∷ []; upper = u ∷ cs }) (λ j. let one = free j in let two = none j in λ i. one i || two i)
          ∙ tells (record { lower = l ∷ []; upper = u ∷ cs })

      -- a coordinate of this form is as the tests ask, where the nest has few symbols
      pub record HasPlain (x : List ℕ) (f : Form) : Type 0 where
        pub sum : IsSum factor n ts owner line lim tops keep x
        pub is : begin_of (course factor n ts owner line lim tops keep x sum) ≡ f
        pub claimed : IsClaimed factor n ts owner line lim tops keep rules bs claim x sum
        pub placed : n + length ts ≤ most_symbols → IsPlaced factor n ts owner line lim tops rules bs place x f

      shown : (f g : Form) → (f ≡ g) → is_within_limits f ≡ true → rules.at_most bs f g ≡ true
      shown f g e limited = (λ j. bound j bs f (sym e j)) ∙ form_self (scope_of bs) f limited

      -- what is kept, as the claim has it
      abbrev IsCap : List Form → Type 0
      IsCap cs = (cs ≡ []) ⊎ ((z : ℤ) × (cs ≡ number z ∷ []) × (unsigned_abs z ≤ 2 ^ 40))

      or_true : (b : Bool) → (b || true) ≡ true
      or_true true = refl
      or_true false = refl

      within_caps : (x : List ℕ) (k : IsSum factor n ts owner line lim tops keep x) (l u : Form) (cs : List Form) → IsFree u → span_at line lim tops factor [] (course factor n ts owner line lim
          tops keep x k) ≡ record { lower = l ∷ []; upper = u ∷ cs } → IsCap cs →
          (claim_low claim_high : Form) → claim x ≡ record { lower = claim_low ∷ []; upper = claim_high ∷ cs } → rules.at_most bs l claim_low ≡ true → rules.at_most bs claim_high u ≡ true →
          IsClaimed factor n ts owner line lim tops keep rules bs claim x k
      within_caps x k l u cs free reach cap cl ch of_claim one two =
          let reached : spelled_out bs (span_at line lim tops factor [] (course factor n ts owner line lim tops keep x k)) ≡ record { lower = l ∷ []; upper = u ∷ cs } =
          ap (spelled_out bs) reach ∙ spells l u cs free (none cs cap) in
          (λ j. is_within rules bs (of_claim j) (reached j)) ∙ (λ j. ((one j || false) && true) && of cs cap j)
        where
          none : (cs : List Form) → IsCap cs → (j : ℕ) → list_any (form_has (length counts + j)) cs ≡ false
          none cs (inl e) j = ap (list_any (form_has (length counts + j))) e
          none cs (inr (z, e, near_z)) j = ap (list_any (form_has (length counts + j))) e

          of : (cs : List Form) → IsCap cs → list_all (λ m. list_any (λ v. rules.at_most bs v m) (ch ∷ cs)) (u ∷ cs) ≡ true
          of cs (inl e) = (λ j. list_all (λ m. list_any (λ v. rules.at_most bs v m) (ch ∷ e j)) (u ∷ e j)) ∙ (λ j. (two j || false) && true)
          of cs (inr (z, e, near_z)) =
              let self = shown (number z) (number z) refl (number_limited z near_z) in
              let last_one = or_true (rules.at_most bs ch (number z)) in
              (λ j. list_all (λ m. list_any (λ v. rules.at_most bs v m) (ch ∷ e j)) (u ∷ e j))
              ∙ (λ j. (two j || (rules.at_most bs (number z) u || false)) && ((rules.at_most bs ch (number z) || (self j || false)) && true)) ∙ (λ j. last_one j && true)

      within_same : (x : List ℕ) (k : IsSum factor n ts owner line lim tops keep x) (l u : Form) → IsFree u → span_at line lim tops factor [] (course factor n ts owner line lim tops keep x k)
          ≡ record { lower = l ∷ []; upper = u ∷ [] } → (claim_low claim_high : Form) →
          claim x ≡ record { lower = claim_low ∷ []; upper = claim_high ∷ [] } → rules.at_most bs l claim_low ≡ true → rules.at_most bs claim_high u ≡ true → IsClaimed factor n ts owner
          line lim tops keep rules bs claim x k
      within_same x k l u free reach cl ch of_claim one two = within_caps x k l u [] free reach (inl refl) cl ch of_claim one two

      -- all numbers up to one that is kept
      within_last : (x : List ℕ) (k : IsSum factor n ts owner line lim tops keep x) (l u : Form) (z : ℤ) → IsFree u → span_at line lim tops factor [] (course factor n ts owner line lim tops keep x k)
          ≡ record { lower = l ∷ []; upper = u ∷ number z ∷ [] } →
          unsigned_abs z ≤ 2 ^ 40 → (claim_low : Form) → claim x ≡ record { lower = claim_low ∷ []; upper = number z ∷ [] } → rules.at_most bs l claim_low ≡ true → rules.at_most bs (number
          z) u ≡ true →
          IsClaimed factor n ts owner line lim tops keep rules bs claim x k
      within_last x k l u z free reach near_z cl of_claim one two =
          let self = shown (number z) (number z) refl (number_limited z near_z) in
          let reached : spelled_out bs (span_at line lim tops factor [] (course factor n ts owner line lim tops keep x k)) ≡ record { lower = l ∷ []; upper = u ∷ number z ∷ [] } =
          ap (spelled_out bs) reach ∙ spells l u (number z ∷ []) free (λ j. refl) in
          (λ j. is_within rules bs (of_claim j) (reached j)) ∙ (λ j. ((one j || false) && true) && ((two j || false) && ((self j || false) && true)))

      -- what a loop without a further upper form keeps at
      no_cap : (i : ℕ) (t : Turning) → slice_get ts i ≡ Some t → lim (n + i) ≡ [] → tops (n + i) ≡ []
      no_cap i t at none = tops_there i t at ∙ ap (λ (fs : List Form). topped fs (last (owner_named t.name))) none

      -- where no let is of this variable, none opens it
      no_opens : (x : List ℕ) → ((c : Split) → In c cuts → c.whole ≡ x → (p : ℕ) (t : Turning) → slice_get ts p ≡ Some t → IsLetOf n ts line p t → t.name ≡ x → ⊥) → (j : ℕ) (t : Turning) →
          slice_get ts j ≡ Some t → is_loop (line (n + j)) ≡ false → false ≡ same_name x t.name
      no_opens x none j t at e = sym (apart_name x t.name (λ q. (let k = let_place j t at e in none k.split k.among (sym k.name ∙ sym q) j t at k (sym q))))

      keep_of : (j : ℕ) (t : Turning) (at : slice_get ts j ≡ Some t) → (loop : is_loop (line (n + j)) ≡ true) → IsTurnOf grid t → keep (n + j) ≡ true
      keep_of j t at loop o = keeps j t at loop o

      -- ---- a form over the grid

      pub plain_grid : (x : List ℕ) → (f : Form) → form_named grid x ≡ Some f → (s : ℕ) → f ≡ counted_from (low x) s → s < n → s < length counts → ((l : NestLoop) × In l ls × (l.name ≡ x))
          → unsigned_abs (low
          x) ≤ 2 ^ 36 →
          claim x ≡ exactly (counted_from (low x) s) → place x ≡ From (counted_from (low x) s) 1 → HasPlain x f
      plain_grid x f named s is less inside loop low_near claim_is place_is = record {
        sum = k;
        is = sym is;
        claimed = within_same x k form form (free_grid (low x) (pos 1) s inside) (ap (λ (y : Span1). capped y []) (sym (begins_so factor [] form [] tt))) form form claim_is (shown form form
            refl limited) (shown form form refl limited);
        placed = λ short. subst (λ (g : Form). IsPlaced factor n ts owner line lim tops rules bs place x g) (sym is) (record {
          steady = ap (is_steady false (along (lines_of line lim n ts))) place_is ∙ steady_one line lim n ts short rules bound bs near limits_within (low x) (pos 1) s 1 less;
          seated = ap (is_seated rules (along (lines_of line lim n ts) ++ bs) (exactly form)) place_is ∙ seat_self line lim n ts short rules bound bs near limits_within form limited;
        });
      }
        where
          form : Form
          form = counted_from (low x) s

          limited : is_within_limits (counted_from (low x) s) ≡ true
          limited = up_limited (low x) s (omega (arith, low_near))

          k : IsSum factor n ts owner line lim tops keep x
          k = record {
            form = counted_from (low x) s;
            parts = [];
            fits = sum_none factor (counted_from (low x) s) limited (omega (arith, low_near));
            own = λ u m. absurd m;
            outer = λ j e. (let differ : (s == n + j) ≡ false = grind (arith, nat_tests, less) in ap (λ (b : Bool). b || false) differ);
            mine = λ j t at looping. sym (other_owner x j t at looping
                (λ e. (let clash : Some f ≡ None = sym named ∙ ap (form_named grid) (sym e) ∙ nest_own grid t (turns j t at looping) in cc clash))
                (λ c m e h. gone c m loop.0 loop.1 (e ∙ sym loop.2)));
            topped = λ j t g top at is tops_are left. absurd (cc left);
            opening = inl tt;
            opens = no_opens x (λ c m e p t at k q. gone c m loop.0 loop.1 (e ∙ sym loop.2));
          }

      -- ---- a loop's symbol

      pub plain_loop : (x : List ℕ) → In x xs → (i : ℕ) (t : Turning) → slice_get ts i ≡ Some t → is_loop (line (n + i)) ≡ true → t.name ≡ x → claim x ≡ numbers (low x) (last x) → place x ≡
          From (number (low x)) (count x) →
          HasPlain x (alone (n + i))
      plain_loop x mx i t at looping name claim_is place_is = record {
        sum = k;
        is = refl;
        claimed = within_same x k (number (low x)) (number (last x)) (λ j. refl) (λ j. capped (reached j) (no_caps j)) (number (low x)) (number (last x)) claim_is
            (shown (number (low x)) (number (low x)) refl (number_limited (low x) (omega (arith, low_near))))
            (shown (number (last x)) (number (last x)) refl (number_limited (last x) (omega (arith, last_near))));
        placed = λ short. record {
          steady = ap (is_steady false (along (lines_of line lim n ts))) place_is;
          seated = ap (is_seated rules (along (lines_of line lim n ts) ++ bs) (exactly (alone (n + i)))) place_is
              ∙ seat_loop line lim n ts short rules bound bs near limits_within i t at (loop_is (line (n + i)) looping) bare (low x) (count x) from (to ∙ last_is);
        };
      }
        where
          o : IsTurnOf grid t
          o = turn_of grid t x mx name (turns i t at looping)

          bare : lim (n + i) ≡ []
          bare = own_bare x mx i t at name

          no_caps : caps lim tops [] (item_of (n + i) t ∷ []) ≡ []
          no_caps = (let none = no_cap i t at bare in λ j. none j ++ [])

          from : t.low ≡ low x
          from = o.from ∙ ap low name

          to : t.last ≡ last x
          to = o.to ∙ ap last name

          last_is : last x ≡ low x +ℤ (pos (count x) -ℤ pos 1)
          last_is = omega (arith, ints)

          low_near : unsigned_abs (low x) ≤ 2 ^ 36
          low_near = subst (λ (z : ℤ). unsigned_abs z ≤ 2 ^ 36) from (near i t at).0

          last_near : unsigned_abs (last x) ≤ 2 ^ 36
          last_near = subst (λ (z : ℤ). unsigned_abs z ≤ 2 ^ 36) to (near i t at).1

          u : Item
          u = item_of (n + i) t

          parts : List Item
          parts = u ∷ []

          once_so : factor (n + i) ≡ pos 1
          once_so = factor_there i t at ∙ ap factor_named name ∙ factor_self x mx

          named : form_has (n + i) (alone (n + i)) ≡ true
          named = ap (λ (b : Bool). b || false) (eq_refl (n + i))

          mine : (j : ℕ) (v : Turning) → slice_get ts j ≡ Some v → is_loop (line (n + j)) ≡ true → is_left (n + j) parts ≡ same_name x (owner j)
          mine j v there loop_j = one_only (n + i == n + j) ∙ of (n + i == n + j) refl
            where
              of : (b : Bool) → (n + i == n + j) ≡ b → (n + i == n + j) ≡ same_name x (owner j)
              of true e =
                  let is : t ≡ v = same_turn i j t v at there (same_place i j e) in
                  let names : v.name ≡ x = ap (λ (w : Turning). w.name) (sym is) ∙ name in
                  let own : owner j ≡ x = owner_there j v there ∙ ap owner_named names ∙ owner_self x mx in
                  e ∙ sym (ap (same_name x) own ∙ name_refl x)
              of false e =
                  e ∙ sym (other_owner x j v there loop_j (λ q. apart_place i j t v at there e (name ∙ sym q)) (λ c m q h. gone c m o.loop o.there (q ∙ sym name ∙ sym o.name)))

          k : IsSum factor n ts owner line lim tops keep x
          k = record {
            form = alone (n + i);
            parts = parts;
            fits = sum_one factor (alone (n + i)) (up_limited (pos 0) (n + i) (omega arith)) u once_so named (ap (λ (b : Bool). (if b then pos 1 else pos 0) +ℤ pos 0) (eq_refl (n + i))) (omega arith)
                (near i t at).0 (near i t at).1;
            own = λ v m. own_one v m;
            outer = λ j e. e;
            mine = mine;
            topped = λ j v g top there is tops_are left. absurd (never j g is (sym (one_only (n + i == n + j)) ∙ left));
            opening = inl tt;
            opens = no_opens x (λ c m e p v there q s. gone c m o.loop o.there (e ∙ sym name ∙ sym o.name));
          }
            where
              never : (j : ℕ) (g : Form) → lim (n + j) ≡ g ∷ [] → (n + i == n + j) ≡ true → ⊥
              never j g is e = (let clash : [] ≡ g ∷ [] = sym (own_bare x mx i t at name) ∙ ap lim (eq_true (n + i) (n + j) e) ∙ is in cc clash)

              own_one : (v : Item) → In v (item_of (n + i) t ∷ []) → (j : ℕ) × (w : Turning) × (slice_get ts j ≡ Some w) × (keep (n + j) ≡ true) × (is_loop (line (n + j)) ≡ true) × (v ≡
                  item_of (n + j) w)
              own_one v (inl e) = (i, t, at, keep_of i t at looping o, looping, e)
              own_one v (inr m) = absurd m

          reached : now factor [] (Sums (alone (n + i)) parts) ≡ record { lower = number (low x) ∷ []; upper = number (last x) ∷ [] }
          reached =
              let here = eq_refl (n + i) in
              let lows : pos 0 +ℤ (factor (n + i) *ℤ t.low +ℤ pos 0) ≡ low x = (λ j. pos 0 +ℤ (once_so j *ℤ from j +ℤ pos 0)) ∙ one_time (low x) in
              let lasts : pos 0 +ℤ (factor (n + i) *ℤ t.last +ℤ pos 0) ≡ last x = (λ j. pos 0 +ℤ (once_so j *ℤ to j +ℤ pos 0)) ∙ one_time (last x) in
              (λ j. record {
                lower = record { constant = lows j; terms = if not ((here j || false) && true) then multiple (n + i) (pos 1) ∷ [] else [] } ∷ [];
                upper = record { constant = lasts j; terms = if not ((here j || false) && true) then multiple (n + i) (pos 1) ∷ [] else [] } ∷ [];
              })
            where
              one_time : (z : ℤ) → (pos 0 +ℤ (pos 1 *ℤ z +ℤ pos 0)) ≡ z
              one_time z = omega (arith, ints)

      -- ---- splits

      module _ (c : Split) (m : In c cuts) (mx : In c.whole xs) (small : IsSmall (numbers_named rs c.whole)) (some : 0 < (numbers_named rs c.whole).count) (i : ℕ) (t : Turning)
          (at : slice_get ts i ≡ Some t) (looping : is_loop (line (n + i)) ≡ true) (name : t.name ≡ c.inner) where
        abbrev fit : CutFits rs c
        fit = fits c m

        o_inner : IsTurnOf grid t
        o_inner = half_of grid t c m (inr name) (turns i t at looping)

        t_low : t.low ≡ pos 0
        t_low = o_inner.from ∙ ap low name ∙ inner_low rs c fit small some

        t_last : t.last ≡ pos c.factor -ℤ pos 1
        t_last = o_inner.to ∙ ap last name ∙ inner_last rs c fit small some

        once_inner : factor (n + i) ≡ pos 1
        once_inner = factor_there i t at ∙ ap factor_named name ∙ factor_inner c m

        low_here : unsigned_abs (low c.whole) ≤ 2 ^ 36
        low_here = (let from = small.from in let to = small.to in omega (arith, ints, from, to))

        abbrev size : ℕ
        size = c.factor - 1

        size_is : c.factor ≡ suc size
        size_is = (let wide = fit.some in omega (arith, wide))

        size_few : suc size ≤ 1024
        size_few = (let wide = fit.few in let is = size_is in omega (arith, wide, is))

        t_last_so : t.last ≡ pos size
        t_last_so = t_last ∙ (let is = size_is in omega (arith, ints, is))

        -- the variable's own name is that of no loop of the nest
        not_whole : (j : ℕ) (v : Turning) → slice_get ts j ≡ Some v → is_loop (line (n + j)) ≡ true → v.name ≡ c.whole → ⊥
        not_whole j v there loop_j e = elim (turns j v there loop_j) [ inl o ↦ gone c m o.loop o.there (sym e ∙ sym o.name) | inr o ↦ o.whole c m e ]

        whose_inner : (j : ℕ) (v : Turning) → slice_get ts j ≡ Some v → (n + i == n + j) ≡ true → same_name c.whole (owner j) ≡ true
        whose_inner j v there e =
            let is : t ≡ v = same_turn i j t v at there (same_place i j e) in
            let names : v.name ≡ c.inner = ap (λ (w : Turning). w.name) (sym is) ∙ name in
            ap (same_name c.whole) (owner_there j v there ∙ owner_half c m v.name (inr names)) ∙ name_refl c.whole

        abbrev cap : List Form
        cap = kept_cap rs c fit small some

        -- the inner loop keeps at the last number, where the split is guarded
        cap_here : is_shifted c ≡ false → (f : Form) → (keeps_rest rs c ≡ true → lim (n + i) ≡ f ∷ []) → tops (n + i) ≡ cap
        cap_here plain_c f limit = of (keeps_rest rs c) refl
          where
            of : (b : Bool) → keeps_rest rs c ≡ b → tops (n + i) ≡ cap
            of true e =
                tops_there i t at ∙ ap (λ (fs : List Form). topped fs (last (owner_named t.name))) (limit e) ∙ ap (λ (y : List ℕ). number (last y) ∷ []) (owner_half c m t.name (inr name))
                ∙ sym (ap (λ (b : Bool). if b then number (last c.whole) ∷ [] else []) (tailed_is c plain_c ∙ e))
            of false e = no_cap i t at (inner_bare c m e i t at name) ∙ sym (ap (λ (b : Bool). if b then number (last c.whole) ∷ [] else []) (tailed_is c plain_c ∙ e))

        cap_is : IsCap cap
        cap_is = of (is_tailed rs c)
          where
            of : (b : Bool) → IsCap (if b then number (last c.whole) ∷ [] else [])
            of true = (let near_last = (near_whole c m).1 in inr (last c.whole, refl, omega (arith, near_last)))
            of false = inl refl

        -- with it the coordinate comes to the last number
        comes_here : is_shifted c ≡ false → (s : ℕ) → (s == n + i) ≡ false → (f g : Form) (top : ℤ) → (keeps_rest rs c ≡ true → lim (n + i) ≡ left_over (last c.whole) (low c.whole) (pos
            c.factor) s ∷ []) →
            lim (n + i) ≡ g ∷ [] → tops (n + i) ≡ number top ∷ [] → combined (without (pair (low c.whole) s (pos c.factor) (n + i)) (n + i)) (pos 1) g ≡ Some (number top)
        comes_here plain_c s differ f g top limit is tops_are = of (keeps_rest rs c) refl
          where
            of : (b : Bool) → keeps_rest rs c ≡ b → combined (without (pair (low c.whole) s (pos c.factor) (n + i)) (n + i)) (pos 1) g ≡ Some (number top)
            of false e = (let clash : [] ≡ g ∷ [] = sym (inner_bare c m e i t at name) ∙ is in absurd (cc clash))
            of true e =
                let forms : g ∷ [] ≡ left_over (last c.whole) (low c.whole) (pos c.factor) s ∷ [] = sym is ∙ limit e in
                let form : g ≡ left_over (last c.whole) (low c.whole) (pos c.factor) s = cc forms in
                let capped_so : number top ∷ [] ≡ number (last c.whole) ∷ [] =
                sym tops_are ∙ cap_here plain_c (left_over (last c.whole) (low c.whole) (pos c.factor) s) limit ∙ ap (λ (b : Bool). if b then number (last c.whole) ∷ [] else []) (tailed_is
                c plain_c ∙ e) in
                let top_is : number top ≡ number (last c.whole) = cc capped_so in
                let near_ends = near_whole c m in
                (λ j. combined (without_pair (low c.whole) s (pos c.factor) (n + i) differ j) (pos 1) (form j))
                ∙ left_comes (last c.whole) (low c.whole) (pos c.factor) s near_ends.1 near_ends.0 fit.few ∙ (λ j. Some (sym top_is j))

        -- ---- the grid tells the block

        pub plain_block : is_shifted c ≡ false → (s : ℕ) → s < length counts → s < n → form_named grid c.outer ≡ Some (counted_from (pos 0) s) → (f : Form) → f ≡ pair (low c.whole) s (pos
            c.factor) (n + i) →
            is_within_limits (pair (low c.whole) s (pos c.factor) (n + i)) ≡ true →
            (keeps_rest rs c ≡ true → lim (n + i) ≡ left_over (last c.whole) (low c.whole) (pos c.factor) s ∷ []) →
            claim c.whole ≡ record { lower = one_of (low c.whole) (pos c.factor) s ∷ []; upper = one_of ((pos c.factor -ℤ pos 1) +ℤ low c.whole) (pos c.factor) s ∷ cap } →
            place c.whole ≡ From (one_of (low c.whole) (pos c.factor) s) c.factor → HasPlain c.whole f
        plain_block plain_c s inside less over f is limited limit claim_is place_is = record {
          sum = k;
          is = sym is;
          claimed = within_caps c.whole k (one_of (low c.whole) (pos c.factor) s) (one_of ((pos c.factor -ℤ pos 1) +ℤ low c.whole) (pos c.factor) s) cap
              (free_grid ((pos c.factor -ℤ pos 1) +ℤ low c.whole) (pos c.factor) s inside) (λ j. capped (reached j) (caps_are j)) cap_is
              (one_of (low c.whole) (pos c.factor) s) (one_of ((pos c.factor -ℤ pos 1) +ℤ low c.whole) (pos c.factor) s) claim_is
              (shown (one_of (low c.whole) (pos c.factor) s) (one_of (low c.whole) (pos c.factor) s) refl (one_limited (low c.whole) (pos c.factor) s (omega (arith, near_low)) (omega (arith, wide))))
              (shown (one_of ((pos c.factor -ℤ pos 1) +ℤ low c.whole) (pos c.factor) s) (one_of ((pos c.factor -ℤ pos 1) +ℤ low c.whole) (pos c.factor) s) refl
              (one_limited ((pos c.factor -ℤ pos 1) +ℤ low c.whole) (pos c.factor) s (high_near c.factor (low c.whole) wide near_low) (omega (arith, wide))));
          placed = λ short. subst (λ (g : Form). IsPlaced factor n ts owner line lim tops rules bs place c.whole g) (sym is) (record {
            steady = ap (is_steady false (along (lines_of line lim n ts))) place_is ∙ steady_one line lim n ts short rules bound bs near limits_within (low c.whole) (pos c.factor) s c.factor less;
            seated = ap (is_seated rules (along (lines_of line lim n ts) ++ bs) (exactly form)) place_is
                ∙ (λ j. is_seated rules (along (lines_of line lim n ts) ++ bs) (exactly (pair (low c.whole) s (pos (size_is j)) (n + i))) (From (one_of (low c.whole) (pos (size_is j)) s) (size_is j)))
                ∙ seat_by short (keeps_rest rs c) refl;
          });
        }
          where
            seat_by : n + length ts ≤ most_symbols → (b : Bool) → keeps_rest rs c ≡ b →
                is_seated rules (along (lines_of line lim n ts) ++ bs) (exactly (pair (low c.whole) s (pos (suc size)) (n + i))) (From (one_of (low c.whole) (pos (suc size)) s) (suc size)) ≡ true
            seat_by short false e =
                seat_block line lim n ts short rules bound bs near limits_within s i size t at (loop_is (line (n + i)) looping) (inner_bare c m e i t at name) less t_low t_last_so size_few
                (low c.whole) low_here
            seat_by short true e =
                let there = grid_kept line lim n ts short counts heads shorts few s inside in
                seat_kept_block line lim n ts short rules bound bs near limits_within s i size t at (loop_is (line (n + i)) looping) less (numbers (pos 0) (pos there.0 -ℤ pos 1)) there.1
                refl t_low t_last_so size_few (low c.whole)
                (last c.whole) low_here (near_whole c m).1 (limit e ∙ (λ j. left_over (last c.whole) (low c.whole) (pos (size_is j)) s ∷ []))

            caps_are : caps lim tops [] (item_of (n + i) t ∷ []) ≡ cap
            caps_are = (let here = cap_here plain_c (left_over (last c.whole) (low c.whole) (pos c.factor) s) limit in λ j. here j ++ []) ∙ no_more cap

            wide : c.factor ≤ 1024
            wide = fit.few

            near_low : unsigned_abs (low c.whole) ≤ 2 ^ 36
            near_low = low_here

            high_near : (p : ℕ) (z : ℤ) → p ≤ 1024 → unsigned_abs z ≤ 2 ^ 36 → unsigned_abs ((pos p -ℤ pos 1) +ℤ z) ≤ 2 ^ 40
            high_near p z le h = omega (arith, ints, le, h)

            form : Form
            form = pair (low c.whole) s (pos c.factor) (n + i)

            parts : List Item
            parts = item_of (n + i) t ∷ []

            differ : (s == n + i) ≡ false
            differ = grind (arith, nat_tests, less)

            mine : (j : ℕ) (v : Turning) → slice_get ts j ≡ Some v → is_loop (line (n + j)) ≡ true → is_left (n + j) parts ≡ same_name c.whole (owner j)
            mine j v there loop_j = one_only (n + i == n + j) ∙ of (n + i == n + j) refl
              where
                of : (b : Bool) → (n + i == n + j) ≡ b → (n + i == n + j) ≡ same_name c.whole (owner j)
                of true e = e ∙ sym (whose_inner j v there e)
                of false e = e ∙ sym (other_owner c.whole j v there loop_j (not_whole j v there loop_j) half)
                  where
                    half : (d : Split) → In d cuts → d.whole ≡ c.whole → (v.name ≡ d.outer) ⊎ (v.name ≡ d.inner) → ⊥
                    half d md q h = by (subst (λ (e : Split). (v.name ≡ e.outer) ⊎ (v.name ≡ e.inner)) (by_whole cuts others d c md m q) h)
                      where
                        by : (v.name ≡ c.outer) ⊎ (v.name ≡ c.inner) → ⊥
                        by (inl p) = (let clash : Some (counted_from (pos 0) s) ≡ None = sym over ∙ ap (form_named grid) (sym p) ∙ nest_own grid v (turns j v there loop_j) in cc clash)
                        by (inr p) = apart_place i j t v at there e (name ∙ sym p)

            k : IsSum factor n ts owner line lim tops keep c.whole
            k = record {
              form = form;
              parts = parts;
              fits = sum_one factor form limited (item_of (n + i) t) once_inner (has_pair (low c.whole) s (pos c.factor) (n + i) (n + i) ∙ true_behind (s == n + i) (n + i == n + i) (eq_refl (n + i)))
                  (factor_two (low c.whole) s (pos c.factor) (n + i) differ) near_low (near i t at).0 (near i t at).1;
              own = own_one;
              outer = outer_one;
              mine = mine;
              topped = topped_one;
              opening = inl tt;
              opens = no_opens c.whole no_let;
            }
              where
                topped_one : (j : ℕ) (v : Turning) (g : Form) (top : ℤ) → slice_get ts j ≡ Some v → lim (n + j) ≡ g ∷ [] → tops (n + j) ≡ number top ∷ [] →
                    is_left (n + j) (item_of (n + i) t ∷ []) ≡ true → combined (without (pair (low c.whole) s (pos c.factor) (n + i)) (n + j)) (pos 1) g ≡ Some (number top)
                topped_one j v g top there is tops_are left =
                    let same : n + i ≡ n + j = eq_true (n + i) (n + j) (sym (one_only (n + i == n + j)) ∙ left) in
                    ap (λ (q : ℕ). combined (without (pair (low c.whole) s (pos c.factor) (n + i)) q) (pos 1) g) (sym same)
                    ∙ comes_here plain_c s differ g g top limit (ap lim same ∙ is) (ap tops same ∙ tops_are)

                true_behind : (b d : Bool) → d ≡ true → (b || d) ≡ true
                true_behind true d e = refl
                true_behind false d e = e

                no_let : (d : Split) → In d cuts → d.whole ≡ c.whole → (p : ℕ) (u : Turning) → slice_get ts p ≡ Some u → IsLetOf n ts line p u → u.name ≡ c.whole → ⊥
                no_let d md e p u there k q =
                    let same : k.split ≡ c = by_whole cuts others k.split c k.among m (sym k.name ∙ q) in
                    let clash : Some (counted_from (pos 0) s) ≡ None =
                    sym over ∙ ap (form_named grid) (ap (λ (x : Split). x.outer) (sym same) ∙ sym k.outer_name) ∙ nest_own grid k.outer (turns k.outer_at k.outer k.outer_there k.outer_loop) in
                    cc clash

                own_one : (v : Item) → In v (item_of (n + i) t ∷ []) → (j : ℕ) × (w : Turning) × (slice_get ts j ≡ Some w) × (keep (n + j) ≡ true) × (is_loop (line (n + j)) ≡ true) × (v ≡
                    item_of (n + j) w)
                own_one v (inl e) = (i, t, at, keep_of i t at looping o_inner, looping, e)
                own_one v (inr q) = absurd q

                outer_one : (j : ℕ) → is_left (n + j) (item_of (n + i) t ∷ []) ≡ false → form_has (n + j) (pair (low c.whole) s (pos c.factor) (n + i)) ≡ false
                outer_one j e =
                    let grid_apart : (s == n + j) ≡ false = grind (arith, nat_tests, less) in
                    let away : (n + i == n + j) ≡ false = sym (one_only (n + i == n + j)) ∙ e in
                    has_pair (low c.whole) s (pos c.factor) (n + i) (n + j) ∙ (λ q. grid_apart q || away q)

            stays : ℕ → Bool
            stays q = not (is_gone [] (item_of (n + i) t ∷ []) q)

            kept_s : stays s ≡ true
            kept_s = (let away = other_way s (n + i) differ in λ j. not ((away j || false) && true))

            gone_i : stays (n + i) ≡ false
            gone_i = (let here = eq_refl (n + i) in λ j. not ((here j || false) && true))

            reached : now factor [] (Sums form parts)
                ≡ record { lower = one_of (low c.whole) (pos c.factor) s ∷ []; upper = one_of ((pos c.factor -ℤ pos 1) +ℤ low c.whole) (pos c.factor) s ∷ [] }
            reached =
                let terms = kept_first stays s (pos c.factor) (n + i) kept_s gone_i in
                let lows : low c.whole +ℤ (factor (n + i) *ℤ t.low +ℤ pos 0) ≡ low c.whole = (λ j. low c.whole +ℤ (once_inner j *ℤ t_low j +ℤ pos 0)) ∙ nothing (low c.whole) in
                let lasts : low c.whole +ℤ (factor (n + i) *ℤ t.last +ℤ pos 0) ≡ (pos c.factor -ℤ pos 1) +ℤ low c.whole =
                (λ j. low c.whole +ℤ (once_inner j *ℤ t_last j +ℤ pos 0)) ∙ turned (low c.whole) (pos c.factor -ℤ pos 1) in
                λ j. record { lower = record { constant = lows j; terms = terms j } ∷ []; upper = record { constant = lasts j; terms = terms j } ∷ [] }
              where
                nothing : (z : ℤ) → (z +ℤ (pos 1 *ℤ pos 0 +ℤ pos 0)) ≡ z
                nothing z = omega (arith, ints)

                turned : (z y : ℤ) → (z +ℤ (pos 1 *ℤ y +ℤ pos 0)) ≡ y +ℤ z
                turned z y = omega (arith, ints)

        -- ---- a let of the group's head tells the block

        -- where a block that is shifted begins is over the grid, in a let around the nest
        pub plain_head : is_shifted c ≡ true → (g : ℕ) → g < length counts → g < n → form_named grid c.outer ≡ Some (counted_from (pos 0) g) →
            slice_get counts g ≡ Some (numbers_named rs c.outer).count → (j : ℕ) →
            slice_get heads j ≡ Some (record { form = one_of (low c.whole) (pos c.factor) g; room = room (numbers_named rs c.whole) c.factor }) → (f : Form) →
            f ≡ pair (pos 0) (length counts + j) (pos 1) (n + i) → claim c.whole ≡ record {
              lower = one_of (low c.whole) (pos c.factor) g ∷ [];
              upper = one_of ((pos c.factor -ℤ pos 1) +ℤ low c.whole) (pos c.factor) g ∷ (if has_rest c (count c.whole) then number (last c.whole) ∷ [] else []);
            } → place c.whole ≡ From (alone (length counts + j)) c.factor → HasPlain c.whole f
        plain_head shifted g inside less over counted_g b head f is claim_is place_is = record {
          sum = k;
          is = sym is;
          claimed = (λ j. is_within rules bs (claim_so j) (spelled_out bs (capped (reached j) (no_caps j)))) ∙ within;
          placed = λ short. subst (λ (q : Form). IsPlaced factor n ts owner line lim tops rules bs place c.whole q) (sym is) (record {
            steady = ap (is_steady false (along (lines_of line lim n ts))) place_is ∙ steady_one line lim n ts short rules bound bs near limits_within (pos 0) (pos 1) let_symbol c.factor let_less;
            seated = ap (is_seated rules (along (lines_of line lim n ts) ++ bs) (exactly form)) place_is
                ∙ ap (λ (q : ℕ). is_seated rules (along (lines_of line lim n ts) ++ bs) (exactly form) (From (alone let_symbol) q)) size_is
                ∙ seat_head line lim n ts short rules bound bs near limits_within let_symbol i size t at (loop_is (line (n + i)) looping) bare let_less t_low t_last_so size_few;
          });
        }
          where
            let_symbol : ℕ
            let_symbol = length counts + b

            let_less : let_symbol < n
            let_less = (let in_heads = at_inside heads b (record { form = one_of (low c.whole) (pos c.factor) g; room = room (numbers_named rs c.whole) c.factor }) head in omega (
              arith,
              in_heads,
              few,
            ))

            bare : lim (n + i) ≡ []
            bare = inner_bare c m (tailed_shift c shifted).1 i t at name

            form : Form
            form = pair (pos 0) let_symbol (pos 1) (n + i)

            parts : List Item
            parts = item_of (n + i) t ∷ []

            no_caps : caps lim tops [] (item_of (n + i) t ∷ []) ≡ []
            no_caps = (let none = no_cap i t at bare in λ j. none j ++ [])

            differ : (let_symbol == n + i) ≡ false
            differ = (let before = let_less in grind (arith, nat_tests, before))

            limited : is_within_limits form ≡ true
            limited = pair_limited (pos 0) let_symbol (pos 1) (n + i) (omega arith) (omega arith)

            reached : now factor [] (Sums form parts) ≡ record { lower = one_of (pos 0) (pos 1) let_symbol ∷ []; upper = one_of (pos size) (pos 1) let_symbol ∷ [] }
            reached = head_reached factor let_symbol size (item_of (n + i) t) differ once_inner t_low t_last_so

            last_turn : ℕ
            last_turn = top (count c.whole) c.factor

            times_few : last_turn * suc size ≤ 2 ^ 32
            times_few = subst (λ (q : ℕ). last_turn * q ≤ 2 ^ 32) size_is (few_numbers rs c fit small some)

            times_is : (a q : ℕ) → pos (suc q) *ℤ pos a ≡ pos (a * suc q)
            times_is a q = omega (arith, ints)

            turns_few : last_turn ≤ 2 ^ 32
            turns_few = by last_turn size times_few
              where
                by : (a q : ℕ) → a * suc q ≤ 2 ^ 32 → a ≤ 2 ^ 32
                by a q h = (let product = mul-suc a q in omega (arith, h, product))

            grid_is : binding_of (grid_from 0 counts) g ≡ Bound (record { lower = number (pos 0) ∷ []; upper = number (pos last_turn) ∷ [] })
            grid_is =
                (grid_tells counts shorts).tells g (numbers_named rs c.outer).count counted_g
                ∙ (let end = outer_last rs c fit small some in let begin = outer_low rs c fit small some in
                ap (λ (z : ℤ). Bound (record { lower = number (pos 0) ∷ []; upper = number z ∷ [] })) (by (low c.outer) (count c.outer) (pos last_turn) begin end))
              where
                by : (z : ℤ) (q : ℕ) (e : ℤ) → z ≡ pos 0 → (z +ℤ pos q) -ℤ pos 1 ≡ e → pos q -ℤ pos 1 ≡ e
                by z q e zero_low end = omega (arith, ints, zero_low, end)

            grid_known : g < symbol_count (grid_from 0 counts)
            grid_known = (let many = (grid_tells counts shorts).many in omega (arith, many, inside))

            room_is : room (numbers_named rs c.whole) c.factor ≡ last c.whole -ℤ pos size
            room_is = by (last c.whole) c.factor size size_is
              where
                by : (z : ℤ) (p q : ℕ) → p ≡ suc q → (z -ℤ pos p) +ℤ pos 1 ≡ z -ℤ pos q
                by z p q e = omega (arith, ints, e)

            head_so : slice_get heads b ≡ Some (record { form = one_of (low c.whole) (pos (suc size)) g; room = room (numbers_named rs c.whole) c.factor })
            head_so = head ∙ (λ j. Some (record { form = one_of (low c.whole) (pos (size_is j)) g; room = room (numbers_named rs c.whole) c.factor }))

            one_less : pos c.factor -ℤ pos 1 ≡ pos size
            one_less = (let are = size_is in omega (arith, ints, are))

            claim_so : claim c.whole ≡ record {
              lower = one_of (low c.whole) (pos (suc size)) g ∷ [];
              upper = one_of (pos size +ℤ low c.whole) (pos (suc size)) g ∷ (if has_rest c (count c.whole) then number (last c.whole) ∷ [] else []);
            }
            claim_so = claim_is ∙ (λ j. record {
              lower = one_of (low c.whole) (pos (size_is j)) g ∷ [];
              upper = one_of (one_less j +ℤ low c.whole) (pos (size_is j)) g ∷ (if has_rest c (count c.whole) then number (last c.whole) ∷ [] else []);
            })

            full : has_rest c (count c.whole) ≡ false → ((pos size +ℤ low c.whole) +ℤ pos (suc size) *ℤ pos last_turn) ≤ℤ last c.whole
            full e = (let end = full_last rs c fit small some e in by (low c.whole) (last c.whole) last_turn c.factor size size_is end)
              where
                by : (z e : ℤ) (a p q : ℕ) → p ≡ suc q → e ≡ z +ℤ (pos (a * p) +ℤ (pos p -ℤ pos 1)) → ((pos q +ℤ z) +ℤ pos (suc q) *ℤ pos a) ≤ℤ e
                by z e a p q is end =
                    let product = times_is a q in
                    let same : a * p ≡ a * suc q = ap (λ (w : ℕ). a * w) is in
                    subst (λ (w : ℤ). ((pos q +ℤ z) +ℤ w) ≤ℤ e) (sym product) (sums (a * p) (a * suc q) same end)
                  where
                    sums : (x y : ℕ) → x ≡ y → e ≡ z +ℤ (pos x +ℤ (pos p -ℤ pos 1)) → ((pos q +ℤ z) +ℤ pos y) ≤ℤ e
                    sums x y same ends = omega (arith, ints, is, same, ends)

            within : is_within rules bs (record {
              lower = one_of (low c.whole) (pos (suc size)) g ∷ [];
              upper = one_of (pos size +ℤ low c.whole) (pos (suc size)) g ∷ (if has_rest c (count c.whole) then number (last c.whole) ∷ [] else []);
            }) (spelled_out bs (record { lower = one_of (pos 0) (pos 1) let_symbol ∷ []; upper = one_of (pos size) (pos 1) let_symbol ∷ [] })) ≡ true
            within =
                block_claimed rules bound (length counts) heads (grid_from 0 counts) tells short_heads g last_turn inside grid_known grid_is (low c.whole) size size_few (last c.whole) low_here
                (near_whole c m).1 (let few_turns = turns_few in omega (arith, few_turns)) (subst (λ (z : ℤ). unsigned_abs z ≤ 2 ^ 37) (sym (times_is last_turn size)) (let few_all = times_few in
                omega (arith, few_all)))
                (room (numbers_named rs c.whole) c.factor) room_is b head_so (has_rest c (count c.whole)) full

            mine : (j : ℕ) (v : Turning) → slice_get ts j ≡ Some v → is_loop (line (n + j)) ≡ true → is_left (n + j) parts ≡ same_name c.whole (owner j)
            mine j v there loop_j = one_only (n + i == n + j) ∙ of (n + i == n + j) refl
              where
                of : (b : Bool) → (n + i == n + j) ≡ b → (n + i == n + j) ≡ same_name c.whole (owner j)
                of true e = e ∙ sym (whose_inner j v there e)
                of false e = e ∙ sym (other_owner c.whole j v there loop_j (not_whole j v there loop_j) half)
                  where
                    half : (d : Split) → In d cuts → d.whole ≡ c.whole → (v.name ≡ d.outer) ⊎ (v.name ≡ d.inner) → ⊥
                    half d md q h = by (subst (λ (e : Split). (v.name ≡ e.outer) ⊎ (v.name ≡ e.inner)) (by_whole cuts others d c md m q) h)
                      where
                        by : (v.name ≡ c.outer) ⊎ (v.name ≡ c.inner) → ⊥
                        by (inl p) = (let clash : Some (counted_from (pos 0) g) ≡ None = sym over ∙ ap (form_named grid) (sym p) ∙ nest_own grid v (turns j v there loop_j) in cc clash)
                        by (inr p) = apart_place i j t v at there e (name ∙ sym p)

            k : IsSum factor n ts owner line lim tops keep c.whole
            k = record {
              form = form;
              parts = parts;
              fits = sum_one factor form limited (item_of (n + i) t) once_inner (has_pair (pos 0) let_symbol (pos 1) (n + i) (n + i) ∙ true_behind (let_symbol == n + i) (n + i == n + i) (eq_refl (n
                  + i)))
                  (factor_two (pos 0) let_symbol (pos 1) (n + i) differ) (omega arith) (near i t at).0 (near i t at).1;
              own = own_one;
              outer = outer_one;
              mine = mine;
              topped = λ j v q top there is tops_are left. absurd (never j q is (sym (one_only (n + i == n + j)) ∙ left));
              opening = inl tt;
              opens = no_opens c.whole no_let;
            }
              where
                never : (j : ℕ) (q : Form) → lim (n + j) ≡ q ∷ [] → (n + i == n + j) ≡ true → ⊥
                never j q is e = (let clash : [] ≡ q ∷ [] = sym bare ∙ ap lim (eq_true (n + i) (n + j) e) ∙ is in cc clash)

                true_behind : (b d : Bool) → d ≡ true → (b || d) ≡ true
                true_behind true d e = refl
                true_behind false d e = e

                no_let : (d : Split) → In d cuts → d.whole ≡ c.whole → (p : ℕ) (u : Turning) → slice_get ts p ≡ Some u → IsLetOf n ts line p u → u.name ≡ c.whole → ⊥
                no_let d md e p u there k q =
                    let same : k.split ≡ c = by_whole cuts others k.split c k.among m (sym k.name ∙ q) in
                    let clash : Some (counted_from (pos 0) g) ≡ None =
                    sym over ∙ ap (form_named grid) (ap (λ (x : Split). x.outer) (sym same) ∙ sym k.outer_name) ∙ nest_own grid k.outer (turns k.outer_at k.outer k.outer_there k.outer_loop) in
                    cc clash

                own_one : (v : Item) → In v (item_of (n + i) t ∷ []) → (j : ℕ) × (w : Turning) × (slice_get ts j ≡ Some w) × (keep (n + j) ≡ true) × (is_loop (line (n + j)) ≡ true) × (v ≡
                    item_of (n + j) w)
                own_one v (inl e) = (i, t, at, keep_of i t at looping o_inner, looping, e)
                own_one v (inr q) = absurd q

                outer_one : (j : ℕ) → is_left (n + j) (item_of (n + i) t ∷ []) ≡ false → form_has (n + j) (pair (pos 0) let_symbol (pos 1) (n + i)) ≡ false
                outer_one j e =
                    let before = let_less in
                    let grid_apart : (let_symbol == n + j) ≡ false = grind (arith, nat_tests, before) in
                    let away : (n + i == n + j) ≡ false = sym (one_only (n + i == n + j)) ∙ e in
                    has_pair (pos 0) let_symbol (pos 1) (n + i) (n + j) ∙ (λ q. grid_apart q || away q)

        -- ---- both loops in the nest

        module _ (p : ℕ) (v : Turning) (at_p : slice_get ts p ≡ Some v) (loop_p : is_loop (line (n + p)) ≡ true) (name_p : v.name ≡ c.outer) where
          abbrev all : ℕ
          all = top (count c.whole) c.factor * c.factor + c.factor

          abbrev end : ℤ
          end = last_of rs c fit small some

          near_low : unsigned_abs (low c.whole) ≤ 2 ^ 36
          near_low = low_here

          few_all : top (count c.whole) c.factor * c.factor ≤ 2 ^ 32
          few_all = few_numbers rs c fit small some

          wide : c.factor ≤ 1024
          wide = fit.few

          all_few : all ≤ 2 ^ 36
          all_few = (let few_here = few_all in let short_size = wide in omega (arith, few_here, short_size))

          end_near : unsigned_abs end ≤ 2 ^ 40
          end_near = by (low c.whole) (top (count c.whole) c.factor * c.factor) c.factor near_low few_all wide
            where
              by : (z : ℤ) (a b : ℕ) → unsigned_abs z ≤ 2 ^ 36 → a ≤ 2 ^ 32 → b ≤ 1024 → unsigned_abs (z +ℤ (pos a +ℤ (pos b -ℤ pos 1))) ≤ 2 ^ 40
              by z a b h g q = omega (arith, ints, h, g, q)

          o_outer : IsTurnOf grid v
          o_outer = half_of grid v c m (inl name_p) (turns p v at_p loop_p)

          v_low : v.low ≡ pos 0
          v_low = o_outer.from ∙ ap low name_p ∙ outer_low rs c fit small some

          v_last : v.last ≡ pos (top (count c.whole) c.factor)
          v_last = o_outer.to ∙ ap last name_p ∙ outer_last rs c fit small some

          counted : pos (top (count c.whole) c.factor) *ℤ pos (suc size) +ℤ pos size ≡ pos all -ℤ pos 1
          counted = by (top (count c.whole) c.factor) c.factor size size_is
            where
              by : (a b q : ℕ) → b ≡ suc q → pos a *ℤ pos (suc q) +ℤ pos q ≡ pos (a * b + b) -ℤ pos 1
              by a b q e = ap (λ (w : ℤ). w +ℤ pos q) (times a (suc q)) ∙ (let prod = ap (λ (w : ℕ). a * w) e in sums (a * suc q) (a * b) b q prod e)
                where
                  times : (a b : ℕ) → pos a *ℤ pos b ≡ pos (a * b)
                  times a b = omega (arith, ints)

                  sums : (x y b q : ℕ) → y ≡ x → b ≡ suc q → pos x +ℤ pos q ≡ pos (y + b) -ℤ pos 1
                  sums x y b q e k = omega (arith, ints, e, k)

          blocks_so : factor (n + p) ≡ pos c.factor
          blocks_so = factor_there p v at_p ∙ ap factor_named name_p ∙ factor_outer c m

          names_differ : c.outer ≡ c.inner → ⊥
          names_differ e = inner_outer cuts others c c m m (sym e)

          places_apart : (p == i) ≡ false
          places_apart = of (p == i) refl
            where
              of : (b : Bool) → (p == i) ≡ b → (p == i) ≡ false
              of true e =
                  let is_turn : v ≡ t = same_turn p i v t at_p at (eq_true p i e) in
                  absurd (names_differ (sym name_p ∙ ap (λ (w : Turning). w.name) is_turn ∙ name))
              of false e = e

          differ : (n + p == n + i) ≡ false
          differ = (let places_so = places_apart in grind (arith, nat_tests, places_so))

          abbrev form : Form
          form = pair (low c.whole) (n + p) (pos c.factor) (n + i)

          abbrev parts : List Item
          parts = item_of (n + p) v ∷ item_of (n + i) t ∷ []

          true_left : (b d : Bool) → b ≡ true → (b || d) ≡ true
          true_left true d e = refl
          true_left false d e = absurd (cc e)

          true_right : (b d : Bool) → d ≡ true → (b || d) ≡ true
          true_right true d e = refl
          true_right false d e = e

          mine : (j : ℕ) (w : Turning) → slice_get ts j ≡ Some w → is_loop (line (n + j)) ≡ true → is_left (n + j) parts ≡ same_name c.whole (owner j)
          mine j w there loop_j = of (n + p == n + j) refl (n + i == n + j) refl
            where
              of : (a : Bool) → (n + p == n + j) ≡ a → (b : Bool) → (n + i == n + j) ≡ b → is_left (n + j) parts ≡ same_name c.whole (owner j)
              of true e b q =
                  let is_turn : v ≡ w = same_turn p j v w at_p there (same_place p j e) in
                  let names : w.name ≡ c.outer = ap (λ (y : Turning). y.name) (sym is_turn) ∙ name_p in
                  true_left (n + p == n + j) ((n + i == n + j) || false) e ∙ sym (ap (same_name c.whole) (owner_there j w there ∙ owner_half c m w.name (inl names)) ∙ name_refl c.whole)
              of false e true q = true_right (n + p == n + j) ((n + i == n + j) || false) (ap (λ (b : Bool). b || false) q) ∙ sym (whose_inner j w there q)
              of false e false q = (λ z. e z || (q z || false)) ∙ sym (other_owner c.whole j w there loop_j (not_whole j w there loop_j) half)
                where
                  half : (d : Split) → In d cuts → d.whole ≡ c.whole → (w.name ≡ d.outer) ⊎ (w.name ≡ d.inner) → ⊥
                  half d md r h = by (subst (λ (e : Split). (w.name ≡ e.outer) ⊎ (w.name ≡ e.inner)) (by_whole cuts others d c md m r) h)
                    where
                      by : (w.name ≡ c.outer) ⊎ (w.name ≡ c.inner) → ⊥
                      by (inl g) = apart_place p j v w at_p there e (name_p ∙ sym g)
                      by (inr g) = apart_place i j t w at there q (name ∙ sym g)

          abbrev stays : ℕ → Bool
          stays q = not (is_gone [] (item_of (n + p) v ∷ item_of (n + i) t ∷ []) q)

          gone_p : stays (n + p) ≡ false
          gone_p = (let here = eq_refl (n + p) in λ j. not ((here j || ((n + i == n + p) || false)) && true))

          gone_i : stays (n + i) ≡ false
          gone_i = (let here = true_right (n + p == n + i) ((n + i == n + i) || false) (ap (λ (b : Bool). b || false) (eq_refl (n + i))) in λ j. not (here j && true))

          reached : now factor [] (Sums form parts) ≡ record { lower = number (low c.whole) ∷ []; upper = number end ∷ [] }
          reached =
              let terms = kept_neither stays (n + p) (pos c.factor) (n + i) gone_p gone_i in
              let lows : low c.whole +ℤ (factor (n + p) *ℤ v.low +ℤ (factor (n + i) *ℤ t.low +ℤ pos 0)) ≡ low c.whole =
              (λ j. low c.whole +ℤ (blocks_so j *ℤ v_low j +ℤ (once_inner j *ℤ t_low j +ℤ pos 0))) ∙ nothing (low c.whole) (pos c.factor) in
              let lasts : low c.whole +ℤ (factor (n + p) *ℤ v.last +ℤ (factor (n + i) *ℤ t.last +ℤ pos 0)) ≡ end =
              (λ j. low c.whole +ℤ (blocks_so j *ℤ v_last j +ℤ (once_inner j *ℤ t_last j +ℤ pos 0))) ∙ turned (low c.whole) c.factor (top (count c.whole) c.factor) in
              λ j. record { lower = record { constant = lows j; terms = terms j } ∷ []; upper = record { constant = lasts j; terms = terms j } ∷ [] }
            where
              nothing : (z y : ℤ) → (z +ℤ (y *ℤ pos 0 +ℤ (pos 1 *ℤ pos 0 +ℤ pos 0))) ≡ z
              nothing z y = omega (arith, ints)

              turned : (z : ℤ) (a b : ℕ) → (z +ℤ (pos a *ℤ pos b +ℤ (pos 1 *ℤ (pos a -ℤ pos 1) +ℤ pos 0))) ≡ z +ℤ (pos (b * a) +ℤ (pos a -ℤ pos 1))
              turned z a b = ap (λ (w : ℤ). z +ℤ (w +ℤ (pos 1 *ℤ (pos a -ℤ pos 1) +ℤ pos 0))) (times a b) ∙ same z (pos (b * a)) (pos a -ℤ pos 1)
                where
                  times : (a b : ℕ) → pos a *ℤ pos b ≡ pos (b * a)
                  times a b = omega (arith, ints)

                  same : (z x y : ℤ) → (z +ℤ (x +ℤ (pos 1 *ℤ y +ℤ pos 0))) ≡ z +ℤ (x +ℤ y)
                  same z x y = omega (arith, ints)

          end_few : unsigned_abs (last_of rs c fit small some) ≤ 2 ^ 39
          end_few = by (low c.whole) (top (count c.whole) c.factor * c.factor) c.factor low_here few_all fit.few
            where
              by : (z : ℤ) (a b : ℕ) → unsigned_abs z ≤ 2 ^ 36 → a ≤ 2 ^ 32 → b ≤ 1024 → unsigned_abs (z +ℤ (pos a +ℤ (pos b -ℤ pos 1))) ≤ 2 ^ 39
              by z a b h g q = omega (arith, ints, h, g, q)

          own_two : (u : Item) → In u parts → (j : ℕ) × (w : Turning) × (slice_get ts j ≡ Some w) × (keep (n + j) ≡ true) × (is_loop (line (n + j)) ≡ true) × (u ≡ item_of (n + j) w)
          own_two u (inl e) = (p, v, at_p, keep_of p v at_p loop_p o_outer, loop_p, e)
          own_two u (inr (inl e)) = (i, t, at, keep_of i t at looping o_inner, looping, e)
          own_two u (inr (inr q)) = absurd q

          split_false : (a b : Bool) → (a || (b || false)) ≡ false → (a || b) ≡ false
          split_false true b e = e
          split_false false b e = sym (one_only b) ∙ e

          outer_two : (j : ℕ) → is_left (n + j) parts ≡ false → form_has (n + j) form ≡ false
          outer_two j e = has_pair (low c.whole) (n + p) (pos c.factor) (n + i) (n + j) ∙ split_false (n + p == n + j) (n + i == n + j) e

          fits_two : is_within_limits form ≡ true → SumFits factor form parts
          fits_two limited =
              sum_two factor form limited (item_of (n + p) v) (item_of (n + i) t) c.factor (top (count c.whole) c.factor) fit.some fit.few blocks_so once_inner
              (has_pair (low c.whole) (n + p) (pos c.factor) (n + i) (n + p) ∙ true_left (n + p == n + p) (n + i == n + p) (eq_refl (n + p)))
              (has_pair (low c.whole) (n + p) (pos c.factor) (n + i) (n + i) ∙ true_right (n + p == n + i) (n + i == n + i) (eq_refl (n + i)))
              (factor_one (low c.whole) (n + p) (pos c.factor) (n + i) differ) (factor_two (low c.whole) (n + p) (pos c.factor) (n + i) differ) v_low v_last t_low t_last differ near_low
              (omega (arith, few_all))

          -- a let of the split that is not shifted is that behind the guard
          own_let : is_shifted c ≡ false → (q : ℕ) (w : Turning) → slice_get ts q ≡ Some w → IsLetOf n ts line q w → w.name ≡ c.whole → (keeps_rest rs c ≡ true) × (i < p)
          own_let plain_c q w at_q k0 e = of (is_loop (line (n + q))) refl
            where
              by : (k : IsLetOf n ts line q w) × (IsPairLet n ts line q w k ⊎ IsBlockLet n ts line q w k) × (lim (n + q) ≡ []) × (keep (n + q) ≡ true) → (keeps_rest rs c ≡ true) × (i < p)
              by (k, inl r, bare, kept) =
                  let same : k.split ≡ c = by_whole cuts others k.split c k.among m (sym k.name ∙ e) in
                  let outer : k.outer_at ≡ p = places k.outer_at p k.outer v k.outer_there at_p (k.outer_name ∙ ap (λ (x : Split). x.outer) same ∙ sym name_p) in
                  let inner : r.inner_at ≡ i = places r.inner_at i r.inner t r.inner_there at (r.inner_name ∙ ap (λ (x : Split). x.inner) same ∙ sym name) in
                  let less = r.before in
                  (sym (ap (keeps_rest rs) same) ∙ r.rests, omega (arith, outer, inner, less))
              by (k, inr r, bare, kept) =
                  let same : k.split ≡ c = by_whole cuts others k.split c k.among m (sym k.name ∙ e) in
                  absurd (not_both r.shifted (ap is_shifted same ∙ plain_c))

              of : (b : Bool) → is_loop (line (n + q)) ≡ b → (keeps_rest rs c ≡ true) × (i < p)
              of true l = absurd (not_whole q w at_q l e)
              of false l = by (lets q w at_q l)

          pub plain_split : is_shifted c ≡ false → (f : Form) → f ≡ pair (low c.whole) (n + p) (pos c.factor) (n + i) →
              is_within_limits (pair (low c.whole) (n + p) (pos c.factor) (n + i)) ≡ true → (keeps_rest rs c ≡ true → (p < i)
              × (lim (n + i) ≡ left_over (last c.whole) (low c.whole) (pos c.factor) (n + p) ∷ [])) → claim c.whole ≡ numbers (low c.whole) (end_of_all rs c fit small some) →
              place c.whole ≡ From (number (low c.whole)) (all_of rs c fit small some) → HasPlain c.whole f
          plain_split plain_c f is limited limit claim_is place_is = record {
            sum = k;
            is = sym is;
            claimed = claimed_by (keeps_rest rs c) refl;
            placed = λ short. subst (λ (g : Form). IsPlaced factor n ts owner line lim tops rules bs place c.whole g) (sym is) (record {
              steady = ap (is_steady false (along (lines_of line lim n ts))) place_is;
              seated = ap (is_seated rules (along (lines_of line lim n ts) ++ bs) (exactly form)) place_is
                  ∙ ap (λ (q : ℕ). is_seated rules (along (lines_of line lim n ts) ++ bs) (exactly (pair (low c.whole) (n + p) (pos q) (n + i)))
                  (From (number (low c.whole)) (all_of rs c fit small some))) size_is ∙ seat_by short (keeps_rest rs c) refl;
            });
          }
            where
              limit_so : keeps_rest rs c ≡ true → lim (n + i) ≡ left_over (last c.whole) (low c.whole) (pos c.factor) (n + p) ∷ []
              limit_so e = (limit e).1

              k : IsSum factor n ts owner line lim tops keep c.whole
              k = record {
                form = form;
                parts = parts;
                fits = fits_two limited;
                own = own_two;
                outer = outer_two;
                mine = mine;
                topped = topped_two;
                opening = inl tt;
                opens = no_opens c.whole no_let;
              }
                where
                  topped_two : (j : ℕ) (w : Turning) (g : Form) (top : ℤ) → slice_get ts j ≡ Some w → lim (n + j) ≡ g ∷ [] → tops (n + j) ≡ number top ∷ [] →
                      is_left (n + j) (item_of (n + p) v ∷ item_of (n + i) t ∷ []) ≡ true → combined (without (pair (low c.whole) (n + p) (pos c.factor) (n + i)) (n + j)) (pos 1) g ≡ Some (number top)
                  topped_two j w g top there is tops_are left = of (n + p == n + j) refl left
                    where
                      of : (b : Bool) → (n + p == n + j) ≡ b → (b || ((n + i == n + j) || false)) ≡ true →
                          combined (without (pair (low c.whole) (n + p) (pos c.factor) (n + i)) (n + j)) (pos 1) g ≡ Some (number top)
                      of true e q = (let clash : [] ≡ g ∷ [] = sym (outer_bare c m p v at_p name_p) ∙ ap lim (eq_true (n + p) (n + j) e) ∙ is in absurd (cc clash))
                      of false e q =
                          let same : n + i ≡ n + j = eq_true (n + i) (n + j) (sym (one_only (n + i == n + j)) ∙ q) in
                          ap (λ (q : ℕ). combined (without (pair (low c.whole) (n + p) (pos c.factor) (n + i)) q) (pos 1) g) (sym same)
                          ∙ comes_here plain_c (n + p) differ g g top limit_so (ap lim same ∙ is) (ap tops same ∙ tops_are)

                  no_let : (d : Split) → In d cuts → d.whole ≡ c.whole → (q : ℕ) (u : Turning) → slice_get ts q ≡ Some u → IsLetOf n ts line q u → u.name ≡ c.whole → ⊥
                  no_let d md e q u there k r =
                      let l = own_let plain_c q u there k r in
                      let first = (limit l.0).0 in
                      let second = l.1 in
                      omega (arith, first, second)

              caps_are : caps lim tops [] (item_of (n + p) v ∷ item_of (n + i) t ∷ []) ≡ cap
              caps_are =
                  let none = no_cap p v at_p (outer_bare c m p v at_p name_p) in
                  let here = cap_here plain_c (left_over (last c.whole) (low c.whole) (pos c.factor) (n + p)) limit_so in
                  (λ j. none j ++ (here j ++ [])) ∙ no_more cap

              seat_by : n + length ts ≤ most_symbols → (b : Bool) → keeps_rest rs c ≡ b →
                  is_seated rules (along (lines_of line lim n ts) ++ bs) (exactly (pair (low c.whole) (n + p) (pos (suc size)) (n + i)))
                  (From (number (low c.whole)) (if is_tailed rs c then count c.whole else top (count c.whole) c.factor * c.factor + c.factor)) ≡ true
              seat_by short false e =
                  ap (λ (b : Bool). is_seated rules (along (lines_of line lim n ts) ++ bs) (exactly (pair (low c.whole) (n + p) (pos (suc size)) (n + i)))
                  (From (number (low c.whole)) (if b then count c.whole else top (count c.whole) c.factor * c.factor + c.factor))) (tailed_is c plain_c ∙ e)
                  ∙ seat_split line lim n ts short rules bound bs near limits_within p i size (top (count c.whole) c.factor) v t at_p at (loop_is (line (n + p)) loop_p) (loop_is (line (n +
                  i)) looping) (outer_bare c m p v at_p name_p) (inner_bare c m e i t at name)
                  places_apart v_low v_last t_low t_last_so size_few (low c.whole) all near_low counted all_few
              seat_by short true e =
                  let k = limit e in
                  let last_is : (pos (count c.whole) -ℤ pos 1) +ℤ low c.whole ≡ last c.whole = ends (low c.whole) (count c.whole) in
                  let few_count = small.few in
                  ap (λ (b : Bool). is_seated rules (along (lines_of line lim n ts) ++ bs) (exactly (pair (low c.whole) (n + p) (pos (suc size)) (n + i)))
                  (From (number (low c.whole)) (if b then count c.whole else top (count c.whole) c.factor * c.factor + c.factor))) (tailed_is c plain_c ∙ e)
                  ∙ seat_kept_split line lim n ts short rules bound bs near limits_within p i size (top (count c.whole) c.factor) v t at_p at (loop_is (line (n + p)) loop_p) (loop_is (line
                  (n + i)) looping) k.0 (outer_bare c m p v at_p name_p) v_low v_last t_low
                  t_last_so size_few (low c.whole) (count c.whole) near_low (omega (arith, few_count)) (subst (λ (q : ℕ). top (count c.whole) c.factor * q ≤ 2 ^ 36) size_is (omega (arith, few_all)))
                  (subst (λ (z : ℤ). unsigned_abs z ≤ 2 ^ 36) (sym last_is) (near_whole c m).1)
                  (k.1 ∙ (λ j. left_over (sym last_is j) (low c.whole) (pos (size_is j)) (n + p) ∷ []))
                where
                  ends : (z : ℤ) (q : ℕ) → (pos q -ℤ pos 1) +ℤ z ≡ z +ℤ pos q -ℤ pos 1
                  ends z q = omega (arith, ints)

              claimed_by : (b : Bool) → keeps_rest rs c ≡ b → IsClaimed factor n ts owner line lim tops keep rules bs claim c.whole k
              claimed_by false e =
                  within_same c.whole k (number (low c.whole)) (number end) (λ j. refl)
                  (λ j. capped (reached j) ((caps_are ∙ ap (λ (b : Bool). if b then number (last c.whole) ∷ [] else []) (tailed_is c plain_c ∙ e)) j)) (number (low c.whole)) (number end)
                  (claim_is ∙ ap (λ (b : Bool). numbers (low c.whole) (if b then last c.whole else end)) (tailed_is c plain_c ∙ e))
                  (shown (number (low c.whole)) (number (low c.whole)) refl (number_limited (low c.whole) (omega (arith, near_low))))
                  (shown (number end) (number end) refl (number_limited end end_near))
              claimed_by true e =
                  let near_last = (near_whole c m).1 in
                  let le = reaches rs c fit small some in
                  within_last c.whole k (number (low c.whole)) (number end) (last c.whole) (λ j. refl)
                  (λ j. capped (reached j) ((caps_are ∙ ap (λ (b : Bool). if b then number (last c.whole) ∷ [] else []) (tailed_is c plain_c ∙ e)) j)) (omega (arith, near_last)) (number (low c.whole))
                  (claim_is ∙ ap (λ (b : Bool). numbers (low c.whole) (if b then last c.whole else end)) (tailed_is c plain_c ∙ e))
                  (shown (number (low c.whole)) (number (low c.whole)) refl (number_limited (low c.whole) (omega (arith, near_low))))
                  ((λ j. bound j bs (number (last c.whole)) (number end)) ∙ number_below (scope_of bs) (last c.whole) end le (omega (arith, near_last)) end_few)

          -- the let behind a guard that keeps the position within the loop
          pub plain_pair : keeps_rest rs c ≡ true → i < p → (q : ℕ) (w : Turning) → slice_get ts q ≡ Some w → w.name ≡ c.whole → p < q → line (n + q) ≡ Pair form (last c.whole) →
              is_within_limits form ≡ true → claim c.whole ≡ numbers (low c.whole) (end_of_all rs c fit small some) → place c.whole ≡ From (number (low c.whole)) (all_of rs c fit small some) →
              HasPlain c.whole (alone (n + q))
          plain_pair rests before q w at_q name_q behind is_pair limited claim_is place_is = record {
            sum = k;
            is = refl;
            claimed = within_last c.whole k (number (low c.whole)) (number end) (last c.whole) (λ j. refl) (λ j. capped (reached j) (number (last c.whole) ∷ [])) (omega (arith, near_last))
                (number (low c.whole))
                (claim_is ∙ ap (λ (b : Bool). numbers (low c.whole) (if b then last c.whole else end)) tailed)
                (shown (number (low c.whole)) (number (low c.whole)) refl (number_limited (low c.whole) (omega (arith, near_low))))
                ((λ j. bound j bs (number (last c.whole)) (number end)) ∙ number_below (scope_of bs) (last c.whole) end (reaches rs c fit small some) (omega (arith, near_last)) end_few);
            placed = λ short. record {
              steady = ap (is_steady false (along (lines_of line lim n ts))) place_is;
              seated = ap (is_seated rules (along (lines_of line lim n ts) ++ bs) (exactly (alone (n + q)))) place_is
                  ∙ ap (λ (b : Bool). is_seated rules (along (lines_of line lim n ts) ++ bs) (exactly (alone (n + q)))
                  (From (number (low c.whole)) (if b then count c.whole else top (count c.whole) c.factor * c.factor + c.factor))) tailed
                  ∙ seat_pair line lim n ts short rules bound bs near limits_within q p i size (top (count c.whole) c.factor) w v t at_q at_p at before behind (loop_is (line (n + p)) loop_p)
                  (loop_is (line (n + i)) looping) (outer_bare c m p v at_p name_p) bare_inner v_low v_last t_low t_last_so size_few (low c.whole) (count c.whole) near_low some
                  (omega (arith, few_count)) (subst (λ (q : ℕ). top (count c.whole) c.factor * q ≤ 2 ^ 36) size_is (omega (arith, few_all)))
                  (subst (λ (z : ℤ). unsigned_abs z ≤ 2 ^ 36) (sym last_is) (near_whole c m).1)
                  (is_pair ∙ (λ j. Pair (pair (low c.whole) (n + p) (pos (size_is j)) (n + i)) (sym last_is j)));
            };
          }
            where
              tailed : is_tailed rs c ≡ true
              tailed = tailed_is c (not_shifted rs c rests) ∙ rests

              near_last : unsigned_abs (last c.whole) ≤ 2 ^ 36
              near_last = (near_whole c m).1

              few_count : (numbers_named rs c.whole).count < 4294967296
              few_count = small.few

              last_is : (pos (count c.whole) -ℤ pos 1) +ℤ low c.whole ≡ last c.whole
              last_is = ends (low c.whole) (count c.whole)
                where
                  ends : (z : ℤ) (q : ℕ) → (pos q -ℤ pos 1) +ℤ z ≡ z +ℤ pos q -ℤ pos 1
                  ends z q = omega (arith, ints)

              bare_inner : lim (n + i) ≡ []
              bare_inner = pair_bare c m p i v t at_p name_p at name before

              bare_parts : (j : ℕ) → is_left (n + j) (item_of (n + p) v ∷ item_of (n + i) t ∷ []) ≡ true → lim (n + j) ≡ []
              bare_parts j left = of (n + p == n + j) refl left
                where
                  of : (b : Bool) → (n + p == n + j) ≡ b → (b || ((n + i == n + j) || false)) ≡ true → lim (n + j) ≡ []
                  of true e r = ap lim (sym (eq_true (n + p) (n + j) e)) ∙ outer_bare c m p v at_p name_p
                  of false e r = ap lim (sym (eq_true (n + i) (n + j) (sym (one_only (n + i == n + j)) ∙ r))) ∙ bare_inner

              k : IsSum factor n ts owner line lim tops keep c.whole
              k = record {
                form = form;
                parts = parts;
                fits = fits_two limited;
                own = own_two;
                outer = outer_two;
                mine = mine;
                topped = λ j w g top there is tops_are left. (let clash : [] ≡ g ∷ [] = sym (bare_parts j left) ∙ is in absurd (cc clash));
                opening = inr (inl (record {
                  place = q;
                  turning = w;
                  there = at_q;
                  last = last c.whole;
                  line_is = is_pair;
                  made = pair_made (low c.whole) (n + p) c.factor (n + i) fit.some differ limited;
                  last_made = number_made (last c.whole) (omega (arith, near_last));
                  bare = bare_parts;
                  caps_fit = λ cs. pair_caps line lim tops factor cs (kept_back lim keep n ts) (last c.whole);
                  fits_start = alone_fits line lim tops factor [] (kept_back lim keep n ts) (n + q);
                }));
                opens = opens_so;
              }
                where
                  opens_so : (j : ℕ) (u : Turning) → slice_get ts j ≡ Some u → is_loop (line (n + j)) ≡ false → (q == j) ≡ same_name c.whole u.name
                  opens_so j u there e = of (q == j) refl
                    where
                      of : (b : Bool) → (q == j) ≡ b → (q == j) ≡ same_name c.whole u.name
                      of true r =
                          let place : q ≡ j = eq_true q j r in
                          let some_same : Some w ≡ Some u = sym at_q ∙ ap (slice_get ts) place ∙ there in
                          let same_turning : w ≡ u = cc some_same in
                          r ∙ sym (ap (same_name c.whole) (ap (λ (x : Turning). x.name) (sym same_turning) ∙ name_q) ∙ name_refl c.whole)
                      of false r =
                          r ∙ sym (apart_name c.whole u.name (λ s. not_both (ap (λ (x : ℕ). q == x) (sym (places q j w u at_q there (name_q ∙ s))) ∙ eq_refl q) r))

          -- the let of a shifted block
          pub plain_shift : is_shifted c ≡ true → c.factor ≤ (numbers_named rs c.whole).count → (q : ℕ) (w : Turning) → slice_get ts q ≡ Some w → is_loop (line (n + q)) ≡ false → w.name ≡ c.whole →
              p < q → line (n + q) ≡ Block (one_of (low c.whole) (pos c.factor) (n + p)) (room (numbers_named rs c.whole) c.factor) → (f : Form) → f ≡ pair (pos 0) (n + q) (pos 1) (n + i) →
              claim c.whole ≡ numbers (low c.whole) (end_of_all rs c fit small some) → place c.whole ≡ From (number (low c.whole)) (all_of rs c fit small some) → HasPlain c.whole f
          plain_shift shifted long q w at_q let_q name_q behind is_block f is claim_is place_is = record {
            sum = k;
            is = sym is;
            claimed = within_last c.whole k (number (low c.whole)) (number end) (last c.whole) (λ j. refl) (λ j. capped (reached j) (number (last c.whole) ∷ [])) (omega (arith, near_last))
                (number (low c.whole))
                (claim_is ∙ ap (λ (b : Bool). numbers (low c.whole) (if b then last c.whole else end)) tailed)
                (shown (number (low c.whole)) (number (low c.whole)) refl (number_limited (low c.whole) (omega (arith, near_low))))
                ((λ j. bound j bs (number (last c.whole)) (number end)) ∙ number_below (scope_of bs) (last c.whole) end (reaches rs c fit small some) (omega (arith, near_last)) end_few);
            placed = λ short. subst (λ (g : Form). IsPlaced factor n ts owner line lim tops rules bs place c.whole g) (sym is) (record {
              steady = ap (is_steady false (along (lines_of line lim n ts))) place_is;
              seated = ap (is_seated rules (along (lines_of line lim n ts) ++ bs) (exactly (pair (pos 0) (n + q) (pos 1) (n + i)))) place_is
                  ∙ ap (λ (b : Bool). is_seated rules (along (lines_of line lim n ts) ++ bs) (exactly (pair (pos 0) (n + q) (pos 1) (n + i)))
                  (From (number (low c.whole)) (if b then count c.whole else top (count c.whole) c.factor * c.factor + c.factor))) tailed
                  ∙ seat_shift line lim n ts short rules bound bs near limits_within q p i size (top (count c.whole) c.factor) w v t at_q at_p at behind (loop_is (line (n + p)) loop_p)
                  (loop_is (line (n + i)) looping) (outer_bare c m p v at_p name_p) bare_inner inner_apart places_apart v_low v_last t_low t_last_so size_few (low c.whole)
                  (room (numbers_named rs c.whole) c.factor) (count c.whole) near_low (let is_size = size_is in omega (arith, is_size, long)) (omega (arith, few_count))
                  (subst (λ (q : ℕ). top (count c.whole) c.factor * q ≤ 2 ^ 36) size_is (omega (arith, few_all))) (room_so (low c.whole) (count c.whole) c.factor size size_is)
                  (is_block ∙ (λ j. Block (one_of (low c.whole) (pos (size_is j)) (n + p)) (room (numbers_named rs c.whole) c.factor)));
            });
          }
            where
              tailed : is_tailed rs c ≡ true
              tailed = (tailed_shift c shifted).0

              near_last : unsigned_abs (last c.whole) ≤ 2 ^ 36
              near_last = (near_whole c m).1

              few_count : (numbers_named rs c.whole).count < 4294967296
              few_count = small.few

              room_so : (z : ℤ) (q f k : ℕ) → f ≡ suc k → ((z +ℤ pos q -ℤ pos 1) -ℤ pos f +ℤ pos 1) ≡ ((pos q -ℤ pos 1) +ℤ z) -ℤ pos k
              room_so z q f k e = omega (arith, ints, e)

              bare_inner : lim (n + i) ≡ []
              bare_inner = inner_bare c m (tailed_shift c shifted).1 i t at name

              bare_parts : (j : ℕ) → is_left (n + j) (item_of (n + p) v ∷ item_of (n + i) t ∷ []) ≡ true → lim (n + j) ≡ []
              bare_parts j left = of (n + p == n + j) refl left
                where
                  of : (b : Bool) → (n + p == n + j) ≡ b → (b || ((n + i == n + j) || false)) ≡ true → lim (n + j) ≡ []
                  of true e r = ap lim (sym (eq_true (n + p) (n + j) e)) ∙ outer_bare c m p v at_p name_p
                  of false e r = ap lim (sym (eq_true (n + i) (n + j) (sym (one_only (n + i == n + j)) ∙ r))) ∙ bare_inner

              let_apart : (j : ℕ) → is_loop (line (n + j)) ≡ true → (q == j) ≡ false
              let_apart j loop = of (q == j) refl
                where
                  of : (b : Bool) → (q == j) ≡ b → (q == j) ≡ false
                  of false e = e
                  of true e = absurd (not_both (subst (λ (x : ℕ). is_loop (line (n + x)) ≡ true) (sym (eq_true q j e)) loop) let_q)

              inner_apart : (q == i) ≡ false
              inner_apart = let_apart i looping

              symbols_apart : (j : ℕ) → (q == j) ≡ false → (n + q == n + j) ≡ false
              symbols_apart j e = grind (arith, nat_tests, e)

              k : IsSum factor n ts owner line lim tops keep c.whole
              k = record {
                form = form;
                parts = parts;
                fits = fits_two (pair_limited (low c.whole) (n + p) (pos c.factor) (n + i) (omega (arith, near_low)) (omega (arith, wide)));
                own = own_two;
                outer = outer_two;
                mine = mine;
                topped = λ j w g top there is tops_are left. (let clash : [] ≡ g ∷ [] = sym (bare_parts j left) ∙ is in absurd (cc clash));
                opening = inr (inr (record {
                  place = q;
                  turning = w;
                  there = at_q;
                  first = one_of (low c.whole) (pos c.factor) (n + p);
                  room = room (numbers_named rs c.whole) c.factor;
                  last = last c.whole;
                  line_is = is_block;
                  outer = item_of (n + p) v;
                  inner = item_of (n + i) t;
                  parts_are = refl;
                  apart = differ;
                  start = pair (pos 0) (n + q) (pos 1) (n + i);
                  caps = λ us. (if is_left (n + i) us then one_of (room (numbers_named rs c.whole) c.factor) (pos 1) (n + i) else number (last c.whole)) ∷ [];
                  caps_end = refl;
                  shifted = λ cs. block_shifted line lim tops factor cs (kept_back lim keep n ts) (n + q) (item_of (n + p) v) (item_of (n + i) t) (low c.whole) (last c.whole) c.factor
                      (top (count c.whole) c.factor) fit.some fit.few once_inner blocks_so t_low t_last differ (symbols_apart p (let_apart p loop_p)) (symbols_apart i inner_apart) near_low near_last;
                  caps_fit = λ cs. block_caps line lim tops factor cs (kept_back lim keep n ts) (n + q) (item_of (n + p) v) (item_of (n + i) t) (low c.whole) (last c.whole) c.factor
                      (top (count c.whole) c.factor) fit.some fit.few once_inner blocks_so t_low t_last differ (symbols_apart p (let_apart p loop_p)) (symbols_apart i inner_apart) near_low near_last;
                  fits_start = start_fits line lim tops factor [] (kept_back lim keep n ts) (n + q) (item_of (n + p) v) (item_of (n + i) t) (low c.whole) (last c.whole) c.factor
                      (top (count c.whole) c.factor) fit.some fit.few once_inner blocks_so t_low t_last differ (symbols_apart p (let_apart p loop_p)) (symbols_apart i inner_apart) near_low near_last;
                  in_order = block_order line lim tops factor [] (kept_back lim keep n ts) (n + q) (item_of (n + p) v) (item_of (n + i) t) (low c.whole) (last c.whole) c.factor
                      (top (count c.whole) c.factor) fit.some fit.few once_inner blocks_so t_low t_last differ (symbols_apart p (let_apart p loop_p)) (symbols_apart i inner_apart) near_low near_last;
                  has_start = λ s. has_pair (pos 0) (n + q) (pos 1) (n + i) s;
                  has_first = λ s. one_only (n + p == s);
                  bare = bare_parts;
                }));
                opens = opens_so;
              }
                where
                  opens_so : (j : ℕ) (u : Turning) → slice_get ts j ≡ Some u → is_loop (line (n + j)) ≡ false → (q == j) ≡ same_name c.whole u.name
                  opens_so j u there e = of (q == j) refl
                    where
                      of : (b : Bool) → (q == j) ≡ b → (q == j) ≡ same_name c.whole u.name
                      of true r =
                          let place : q ≡ j = eq_true q j r in
                          let some_same : Some w ≡ Some u = sym at_q ∙ ap (slice_get ts) place ∙ there in
                          let same_turning : w ≡ u = cc some_same in
                          r ∙ sym (ap (same_name c.whole) (ap (λ (x : Turning). x.name) (sym same_turning) ∙ name_q) ∙ name_refl c.whole)
                      of false r =
                          r ∙ sym (apart_name c.whole u.name (λ s. not_both (ap (λ (x : ℕ). q == x) (sym (places q j w u at_q there (name_q ∙ s))) ∙ eq_refl q) r))
