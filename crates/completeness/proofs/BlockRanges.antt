-- The loops of an update's nest of a function whose loops are split once: those of the variables that the update keeps, and of its reduction variables among them.
use Rattle.std.proofs.Common.{◌≡◌, ℕ, zero, suc, ◌+◌, ◌≤◌, Bool, true, false, ◌&&◌, not, List, [], ◌∷◌, ◌++◌, map, Option, Some, None, refl, sym, ap, ◌∙◌, subst, inl, inr, ◌⊎◌, arith}
use Rattle.std.specs.Prelude.{if◌then◌else◌, filter, reverse, slice_get}
use Rattle.std.specs.List.{AllByRecursion}
use Rattle.bounds.proofs.ListSound.{all-append}
use Rattle.lin.proofs.TermLemmas.{all_weaker}
use Rattle.meaning.specs.Algorithm.{Range, Change}
use Rattle.meaning.specs.Names.{same_name}
use Rattle.soundness.specs.Claims.{In}
use Rattle.soundness.proofs.Refines.{name_refl, name_true}
use Rattle.headline.proofs.Regions.{at_in}
use Rattle.sched.specs.Subjects.{reductions_of}
use Rattle.sched.specs.declared.schedule.Split.{Split}
use Rattle.sched.specs.declared.placing.Loop.{Loop}
use Rattle.sched.specs.declared.numbers.Numbers.{Numbers}
use Rattle.sched.specs.declared.nest.Turning.{Turning}
use Rattle.sched.specs.Placing.{is_parallel, is_vectorized}
use Rattle.sched.specs.Skeleton.{BodyText, loop_turning, range_turning, is_missing, is_same, is_in_nest, nest_turns, nest_loops, kept_from}
use Rattle.sched.proofs.Leading.{in_left, in_right}
use Rattle.sched.proofs.Visiting.{in_reverse}
use Rattle.sched.specs.Around.{range_names, ranges_of}
use Rattle.lower.proofs.Directed.{IsEnd, BothBy}
use Rattle.completeness.proofs.Lanes.{AreOnce}
use Rattle.completeness.proofs.PlainTurns.{one_if, hits, hits_append, hits_reverse, itself, turn_name}
use Rattle.completeness.proofs.PureNests.{all_back, all_get, all_from, loop_name, hits_turned}
use Rattle.completeness.proofs.UpdateTurns.{all_filtered, all_mapped}
use Rattle.completeness.proofs.GridTurns.{hits_back, two_parts}

-- ---- the variables that the update keeps

kept_fewer : (b : BodyText) (y : List ℕ) (i : ℕ) (xs : List (List ℕ)) → hits itself y (kept_from b i xs) ≤ hits itself y xs
kept_fewer b y i [] = omega arith
kept_fewer b y i (x ∷ xs) = of (is_missing b i) (kept_fewer b y (i + 1) xs)
  where
    of : (t : Bool) → hits itself y (kept_from b (i + 1) xs) ≤ hits itself y xs →
        hits itself y (if t then kept_from b (i + 1) xs else x ∷ kept_from b (i + 1) xs) ≤ one_if (same_name x y) + hits itself y xs
    of true h = omega (arith, h)
    of false h = omega (arith, h)

kept_some : (b : BodyText) (i : ℕ) (xs : List (List ℕ)) (j : ℕ) (x : List ℕ) → slice_get xs j ≡ Some x → is_missing b (i + j) ≡ false → 1 ≤ hits itself x (kept_from b i xs)
kept_some b i [] j x at has = absurd (cc at)
kept_some b i (y ∷ xs) zero x at has =
    let is : y ≡ x = cc at in
    let none : i + 0 ≡ i = omega arith in
    let here : is_missing b i ≡ false = ap (is_missing b) (sym none) ∙ has in
    let counts : one_if (same_name y x) ≡ 1 = ap one_if (ap (same_name y) (sym is) ∙ name_refl y) in
    let some : 1 ≤ one_if (same_name y x) + hits itself x (kept_from b (i + 1) xs) = omega (arith, counts) in
    subst (λ (t : Bool). 1 ≤ hits itself x (if t then kept_from b (i + 1) xs else y ∷ kept_from b (i + 1) xs)) (sym here) some
kept_some b i (y ∷ xs) (suc j) x at has =
    let next : (i + 1) + j ≡ i + suc j = omega arith in
    of (is_missing b i) (kept_some b (i + 1) xs j x at (ap (is_missing b) next ∙ has))
  where
    of : (t : Bool) → 1 ≤ hits itself x (kept_from b (i + 1) xs) → 1 ≤ hits itself x (if t then kept_from b (i + 1) xs else y ∷ kept_from b (i + 1) xs)
    of true h = h
    of false h = omega (arith, h)

pub kept_once : (b : BodyText) (xs : List (List ℕ)) (j : ℕ) (x : List ℕ) → slice_get xs j ≡ Some x → is_missing b j ≡ false → hits itself x xs ≤ 1 → hits itself x (kept_from b 0 xs) ≡ 1
kept_once b xs j x at has once =
    let none : 0 + j ≡ j = omega arith in
    let one = kept_some b 0 xs j x at (ap (is_missing b) none ∙ has) in
    let two = kept_fewer b x 0 xs in
    omega (arith, one, two, once)

-- each is one of the variables, at a place that is not missing
pub kept_index : (b : BodyText) (i : ℕ) (xs : List (List ℕ)) (x : List ℕ) → In x (kept_from b i xs) → (j : ℕ) × (slice_get xs j ≡ Some x) × (is_missing b (i + j) ≡ false)
kept_index b i [] x m = absurd m
kept_index b i (y ∷ xs) x m = of (is_missing b i) refl m (λ k. kept_index b (i + 1) xs x k)
  where
    later : ((j : ℕ) × (slice_get xs j ≡ Some x) × (is_missing b ((i + 1) + j) ≡ false)) → (j : ℕ) × (slice_get (y ∷ xs) j ≡ Some x) × (is_missing b (i + j) ≡ false)
    later r = (let next : i + suc r.0 ≡ (i + 1) + r.0 = omega arith in (suc r.0, r.1, ap (is_missing b) next ∙ r.2))

    of : (t : Bool) → is_missing b i ≡ t → In x (if t then kept_from b (i + 1) xs else y ∷ kept_from b (i + 1) xs) →
        (In x (kept_from b (i + 1) xs) → (j : ℕ) × (slice_get xs j ≡ Some x) × (is_missing b ((i + 1) + j) ≡ false)) →
        (j : ℕ) × (slice_get (y ∷ xs) j ≡ Some x) × (is_missing b (i + j) ≡ false)
    of true e k rest = later (rest k)
    of false e (inl q) rest = (let none : i + 0 ≡ i = omega arith in (0, ap (λ (z : List ℕ). Some z) (sym q), ap (is_missing b) none ∙ e))
    of false e (inr k) rest = later (rest k)

pub kept_among : (b : BodyText) (i : ℕ) (xs : List (List ℕ)) (x : List ℕ) → In x (kept_from b i xs) → In x xs
kept_among b i xs x m = (let r = kept_index b i xs x m in at_in xs r.0 x r.1)

-- ---- the variable of a loop

module _ (cuts : List Split) (once : AreOnce cuts) where
  end_at : (cs : List Split) (x y : List ℕ) → ((d : Split) → In d cs → d.whole ≡ x → ⊥) → IsEnd cs x y → x ≡ y
  end_at [] x y none h = h
  end_at (c ∷ cs) x y none h = of (same_name c.whole x) refl h (λ k. end_at cs x y (λ d m. none d (inr m)) k)
    where
      of : (b : Bool) → same_name c.whole x ≡ b → BothBy b (IsEnd cs c.outer y ⊎ IsEnd cs c.inner y) (IsEnd cs x y) → (IsEnd cs x y → x ≡ y) → x ≡ y
      of true e k rest = absurd (none c (inl refl) (name_true c.whole x e))
      of false e k rest = rest k

  pub end_whole : (cs : List Split) → ((d : Split) → In d cs → In d cuts) → (x y : List ℕ) → IsEnd cs x y → (x ≡ y) ⊎ ((c : Split) × In c cuts × (c.whole ≡ x) × ((y ≡ c.outer) ⊎ (y ≡ c.inner)))
  end_whole [] sub x y h = inl h
  end_whole (c ∷ cs) sub x y h = of (same_name c.whole x) refl h (λ k. end_whole cs (λ d q. sub d (inr q)) x y k)
    where
      mine : In c cuts
      mine = sub c (inl refl)

      of : (b : Bool) → same_name c.whole x ≡ b → BothBy b (IsEnd cs c.outer y ⊎ IsEnd cs c.inner y) (IsEnd cs x y) →
          (IsEnd cs x y → (x ≡ y) ⊎ ((c : Split) × In c cuts × (c.whole ≡ x) × ((y ≡ c.outer) ⊎ (y ≡ c.inner)))) →
          (x ≡ y) ⊎ ((c : Split) × In c cuts × (c.whole ≡ x) × ((y ≡ c.outer) ⊎ (y ≡ c.inner)))
      of true e (inl k) rest = inr (c, mine, name_true c.whole x e, inl (sym (end_at cs c.outer y (λ d q s. (once d c (sub d (inr q)) mine).0 s) k)))
      of true e (inr k) rest = inr (c, mine, name_true c.whole x e, inr (sym (end_at cs c.inner y (λ d q s. (once d c (sub d (inr q)) mine).1 s) k)))
      of false e k rest = rest k

-- ---- reduction variables

in_names : (ds : List Range) (e : Range) → In e ds → In e.variable (range_names ds)
in_names [] e m = absurd m
in_names (d ∷ ds) e (inl q) = inl (ap (λ (r : Range). r.variable) q)
in_names (d ∷ ds) e (inr m) = inr (in_names ds e m)

in_more : (us : List Change) (i : ℕ) (u : Change) (y : List ℕ) → slice_get us i ≡ Some u → In y (range_names u.ranges) → In y (reductions_of us)
in_more [] i u y at m = absurd (cc at)
in_more (v ∷ us) zero u y at m =
    (let is : v ≡ u = cc at in in_left y (range_names v.ranges) (reductions_of us) (subst (λ (w : Change). In y (range_names w.ranges)) (sym is) m))
in_more (v ∷ us) (suc i) u y at m = in_right y (range_names v.ranges) (reductions_of us) (in_more us i u y at m)

pub reduced_in : (us : List Change) (i : ℕ) (e : Range) → In e (ranges_of us (suc i)) → In e.variable (reductions_of us)
reduced_in us i e m = of (slice_get us i) refl m
  where
    of : (o : Option Change) → slice_get us i ≡ o → In e (elim o [ Some u ↦ u.ranges | None ↦ [] ]) → In e.variable (reductions_of us)
    of (Some u) q k = in_more us i u e.variable q (in_names u.ranges e k)
    of None q k = absurd k

-- ---- the loops of the nest

module _ (b : BodyText) (rs : List Numbers) (ls : List Loop) (ds : List Range) (ranged : b.ranges ≡ map range_turning ds) where
  abbrev pub IsLoopTurn : Turning → Type 0
  IsLoopTurn t = (l : Loop) × In l ls × (is_parallel l ≡ false) × (is_missing b l.dimension ≡ false) × (t ≡ loop_turning rs l)

  abbrev pub IsRangeTurn : Turning → Type 0
  IsRangeTurn t = (e : Range) × In e ds × (t ≡ range_turning e)

  abbrev IsPart : Turning → Type 0
  IsPart t = IsLoopTurn t ⊎ IsRangeTurn t

  abbrev pub first : List Turning
  first = nest_loops b false rs ls

  abbrev pub last : List Turning
  last = nest_loops b true rs ls

  abbrev pub between : List Turning
  between = reverse (map range_turning ds)

  pub turned : nest_turns b rs ls ≡ first ++ between ++ last
  turned = ap (λ (ts : List Turning). first ++ reverse ts ++ last) ranged

  not_true : (v : Bool) → not v ≡ true → v ≡ false
  not_true true e = absurd (cc e)
  not_true false e = refl

  and_true : (x y : Bool) → (x && y) ≡ true → (x ≡ true) × (y ≡ true)
  and_true true y e = (refl, e)
  and_true false y e = absurd (cc e)

  pub loop_parts : (v : Bool) → AllByRecursion IsLoopTurn (nest_loops b v rs ls)
  loop_parts v =
      all_mapped (loop_turning rs) IsLoopTurn (filter (is_in_nest b v) (reverse ls))
      (all_filtered (is_in_nest b v) (λ l. In l ls) (λ l. IsLoopTurn (loop_turning rs l)) one (reverse ls) (all_back (λ l. In l ls) ls (all_from (λ l. In l ls) ls (λ l m. m))))
    where
      one : (l : Loop) → is_in_nest b v l ≡ true → In l ls → IsLoopTurn (loop_turning rs l)
      one l e m =
          let parts = and_true (not (is_parallel l) && not (is_missing b l.dimension)) (is_same (is_vectorized l) v) e in
          let both = and_true (not (is_parallel l)) (not (is_missing b l.dimension)) parts.0 in
          (l, m, not_true (is_parallel l) both.0, not_true (is_missing b l.dimension) both.1, refl)

  pub range_parts : AllByRecursion IsRangeTurn between
  range_parts = all_back IsRangeTurn (map range_turning ds) (all_mapped range_turning IsRangeTurn ds (all_from (λ e. IsRangeTurn (range_turning e)) ds (λ e m. (e, m, refl))))

  pub parts : (j : ℕ) (t : Turning) → slice_get (nest_turns b rs ls) j ≡ Some t → IsPart t
  parts j t at =
      all_get IsPart (first ++ between ++ last) j t
      (all-append IsPart (first ++ between) last (all-append IsPart first between (all_weaker IsLoopTurn IsPart (λ t h. inl h) first (loop_parts false))
      (all_weaker IsRangeTurn IsPart (λ t h. inr h) between range_parts)) (all_weaker IsLoopTurn IsPart (λ t h. inl h) last (loop_parts true)))
      (ap (λ (ts : List Turning). slice_get ts j) (sym turned) ∙ at)

  -- and each is there
  in_filtered : (f : Loop → Bool) (l : Loop) (ms : List Loop) → In l ms → f l ≡ true → In l (filter f ms)
  in_filtered f l [] m e = absurd m
  in_filtered f l (o ∷ ms) m e = of (f o) refl m (λ k. in_filtered f l ms k e)
    where
      of : (v : Bool) → f o ≡ v → In l (o ∷ ms) → (In l ms → In l (filter f ms)) → In l (if v then o ∷ filter f ms else filter f ms)
      of true q (inl s) rest = inl s
      of true q (inr k) rest = inr (rest k)
      of false q (inl s) rest = (let clash : true ≡ false = sym e ∙ ap f s ∙ q in absurd (cc clash))
      of false q (inr k) rest = rest k

  in_mapped : {A : Type 0} (f : A → Turning) (x : A) (ms : List A) → In x ms → In (f x) (map f ms)
  in_mapped f x [] m = absurd m
  in_mapped f x (o ∷ ms) (inl e) = inl (ap f e)
  in_mapped f x (o ∷ ms) (inr k) = inr (in_mapped f x ms k)

  pub loop_there : (l : Loop) → In l ls → is_parallel l ≡ false → is_missing b l.dimension ≡ false → In (loop_turning rs l) (nest_turns b rs ls)
  loop_there l m p has = subst (In (loop_turning rs l)) (sym turned) (of (is_vectorized l) refl)
    where
      of : (v : Bool) → is_vectorized l ≡ v → In (loop_turning rs l) (first ++ between ++ last)
      of false q =
          in_left (loop_turning rs l) (first ++ between) last
          (in_left (loop_turning rs l) first between (in_mapped (loop_turning rs) l (filter (is_in_nest b false) (reverse ls))
          (in_filtered (is_in_nest b false) l (reverse ls) (in_reverse l ls m) (λ j. not (p j) && not (has j) && is_same (q j) false))))
      of true q =
          in_right (loop_turning rs l) (first ++ between) last
          (in_mapped (loop_turning rs) l (filter (is_in_nest b true) (reverse ls))
          (in_filtered (is_in_nest b true) l (reverse ls) (in_reverse l ls m) (λ j. not (p j) && not (has j) && is_same (q j) true)))

  pub range_there : (e : Range) → In e ds → In (range_turning e) (nest_turns b rs ls)
  range_there e m =
      subst (In (range_turning e)) (sym turned)
      (in_left (range_turning e) (first ++ between) last (in_right (range_turning e) first between
      (in_reverse (range_turning e) (map range_turning ds) (in_mapped range_turning e ds m))))

  -- each name stands once
  range_hits : (y : List ℕ) (es : List Range) → hits turn_name y (map range_turning es) ≡ hits itself y (range_names es)
  range_hits y [] = refl
  range_hits y (e ∷ es) = (let rest = range_hits y es in omega (arith, rest))

  pub turns_once : ((y : List ℕ) → hits loop_name y ls ≤ 1) → ((y : List ℕ) → hits itself y (range_names ds) ≤ 1) →
      ((y : List ℕ) → 1 ≤ hits itself y (range_names ds) → hits loop_name y ls ≡ 0) → (y : List ℕ) → hits turn_name y (nest_turns b rs ls) ≤ 1
  turns_once single alone away y =
      let one = ap (hits turn_name y) turned in
      let two = hits_append turn_name y (first ++ between) last in
      let three = hits_append turn_name y first between in
      let four = hits_turned rs y (filter (is_in_nest b false) (reverse ls)) in
      let five = hits_turned rs y (filter (is_in_nest b true) (reverse ls)) in
      let six = hits_back (is_in_nest b false) y ls in
      let seven = hits_back (is_in_nest b true) y ls in
      let eight = two_parts (is_in_nest b false) (is_in_nest b true) apart y ls in
      let nine = hits_reverse turn_name y (map range_turning ds) in
      let ten = range_hits y ds in
      let loops = single y in
      let ranges = alone y in
      of (hits itself y (range_names ds)) refl (omega (arith, four, five, six, seven, eight, loops)) (omega (arith, one, two, three)) (omega (arith, nine, ten)) ranges
    where
      differ : (a v : Bool) → (a && is_same v false) ≡ true → (a && is_same v true) ≡ false
      differ true true e = absurd (cc e)
      differ true false e = refl
      differ false v e = refl

      apart : (l : Loop) → is_in_nest b false l ≡ true → is_in_nest b true l ≡ false
      apart l e = differ (not (is_parallel l) && not (is_missing b l.dimension)) (is_vectorized l) e

      of : (m : ℕ) → hits itself y (range_names ds) ≡ m → hits turn_name y first + hits turn_name y last ≤ hits loop_name y ls →
          hits turn_name y (nest_turns b rs ls) ≡ hits turn_name y first + hits turn_name y between + hits turn_name y last → hits turn_name y between ≡ hits itself y (range_names ds) →
          hits itself y (range_names ds) ≤ 1 → hits turn_name y (nest_turns b rs ls) ≤ 1
      of zero e few sum is most = (let loops = single y in omega (arith, e, few, sum, is, loops))
      of (suc m) e few sum is most = (let none = away y (omega (arith, e)) in omega (arith, e, few, sum, is, most, none))
