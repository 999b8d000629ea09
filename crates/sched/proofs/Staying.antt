-- Where no split of a dimension is rounded up, whatever a skeleton's loops come to is a number of the region.
use Rattle.std.proofs.Common.{◌≡◌, ℕ, suc, ◌+◌, ◌*◌, ◌%◌, ◌<◌, ◌≤◌, Bool, true, false, not, ◌&&◌, ◌||◌, nat_lt, List, [], ◌∷◌, ◌++◌, length, map, slice_get, Option, Some, None, refl, sym, ap, ◌∙◌, subst, inl, inr, arith}
use Rattle.std.specs.Prelude.{ℤ, pos, ◌+ℤ◌, ◌*ℤ◌, ◌≤ℤ◌, ◌<ℤ◌, ◌==◌, if◌then◌else◌, filter, reverse, Contains}
use Rattle.std.specs.List.{AllByRecursion}
use Rattle.std.specs.Int.{int_min}
use Rattle.std.proofs.lemmas.Int.{ints}
use Rattle.std.proofs.lemmas.Bool.Decides.{nat_tests}
use Rattle.lin.specs.Forms.{Form}
use Rattle.lin.proofs.TermLemmas.{all_weaker}
use Rattle.plan.specs.Symbols.{Symbols, clipped}
use Rattle.plan.specs.Certificate.Cells.{grid_value, grid_symbols}
use Rattle.meaning.specs.Names.{same_name, is_among, bound}
use Rattle.meaning.proofs.Cases.{name_same, name_differs}
use Rattle.sched.specs.declared.schedule.Split.{Split}
use Rattle.sched.specs.declared.schedule.Tail.{Tail}
use Rattle.sched.specs.declared.schedule.Tail.TheVariants as tails
use Rattle.sched.specs.declared.placing.Loop.{Loop}
use Rattle.sched.specs.declared.numbers.Extent.{Extent}
use Rattle.sched.specs.declared.numbers.Numbers.{Numbers}
use Rattle.sched.specs.declared.skeleton.Step.{Step}
use Rattle.sched.specs.declared.skeleton.Known.{Known}
use Rattle.sched.specs.declared.skeleton.Within.TheVariants as within
use Rattle.sched.specs.declared.nest.Turning.{Turning}
use Rattle.sched.specs.Placing.{PlacedText, has_double, start}
use Rattle.sched.specs.Subjects.{subject_said, reductions_of}
use Rattle.sched.specs.Numbers.{blocks, numbers_found, numbers_named, last_number, whole_numbers, halves, cut_numbers, loop_numbers, parallel_loops, grid_counts, or_one, is_too_short, has_short_shift}
use Rattle.sched.specs.Standing.{form_named, room, has_rest, is_overrun, is_guarded, cuts_by_variable, overruns}
use Rattle.sched.specs.Skeleton.{BodyText, NestText, SkeletonText, is_missing, kept_from, is_in_nest, loop_turning, nest_loops, nest_turns, variables_at, ranges_at, begun, nest_of, grid_forms, over_grid, bodies_of, skeleton_in}
use Rattle.sched.specs.Visits.{IsInExtents, IsInGrid, arrivals}
use Rattle.sched.specs.Stays.{IsInside, is_kept, AreInside, SchedulesStayInsideRegions}
use Rattle.sched.proofs.Leading.{In, min_least, min_says, Leads, leads_apart, arrived}
use Rattle.sched.proofs.Told.{told_counted}
use Rattle.sched.proofs.Standings.{found_all, first_number}
use Rattle.sched.proofs.Closing.{IsApart, AreOrdered, closes, settle_rises}
use Rattle.sched.proofs.Rooting.{all_both, all_two, all_at, all_reverse, among_right, IsAlong, AreApart, ordered_by_variable, HaveDimensions, kept_rise}
use Rattle.sched.proofs.Visiting.{IsNestOf, nest_of_body, IsSkeletonOf, skeleton_parts}
use Rattle.sched.proofs.Numbering.{found_more, pos_clipped, times_is, whole_blocks}
use Rattle.sched.proofs.Arranging.{SplitFits}
use Rattle.sched.proofs.Directing.{or_parts, directives_keep}
use Rattle.sched.proofs.Starting.{differ_all, gives_bound, start_arranged, body_fits}
use Rattle.sched.proofs.Scheduling.{get_map, starts_placed, all_placed}
use Rattle.sched.proofs.Overrunning.{by_variable_in, overrun_nowhere}
use Rattle.sched.proofs.Keeping.{IsSuch, such_all, CutKeeps, kept_on, settle_grows}
use Rattle.sched.proofs.Bounding.{HoldsGround, ground_keeps, HoldsNest, IsSaid, turns_grow, turns_keep}

-- ---- what is so of the numbers of loops and of blocks

-- not before the loop of this name, if there are any numbers of it; and not behind it
abbrev NotBefore : List Numbers → List ℕ → ℤ → Type 0
NotBefore rs x z = (r : Numbers) → numbers_found rs x ≡ Some r → r.low ≤ℤ z

abbrev NotBehind : List Numbers → List ℕ → ℤ → Type 0
NotBehind rs x z = (r : Numbers) → numbers_found rs x ≡ Some r → z ≤ℤ last_number r

-- a number of a loop is not before it, nor behind it where its numbers are kept
abbrev Fits : List Numbers → List Split → List ℕ → ℤ → Type 0
Fits rs cs x z = NotBefore rs x z × (is_kept rs cs cs x ≡ true → NotBehind rs x z)

-- the block ends in its loop, where the split has no guard
abbrev Ends : List Numbers → Split → ℤ → Type 0
Ends rs c y = (z : ℤ) → z <ℤ pos c.factor → (c.tail ≡ tails.Guard → has_rest c (numbers_named rs c.whole).count ≡ false) → (y +ℤ z) ≤ℤ last_number (numbers_named rs c.whole)

-- a block does not begin before its loop; and ends in it, where the split is exact and the numbers of blocks are kept
abbrev BlockFits : List Numbers → List Split → List ℕ → ℤ → Type 0
BlockFits rs cs x y = (c : Split) → In c cs → c.whole ≡ x → ((numbers_named rs c.whole).low ≤ℤ y) × (overruns rs c ≡ false → is_kept rs cs cs c.outer ≡ true → Ends rs c y)

-- what is known of a split
record CutFacts (rs : List Numbers) (c : Split) : Type 0 where
  some : 0 < c.factor
  outer : numbers_found rs c.outer ≡ Some (record { name = c.outer; low = pos 0; count = blocks (numbers_named rs c.whole).count c.factor })
  inner : numbers_found rs c.inner ≡ Some (record { name = c.inner; low = pos 0; count = c.factor })
  long : is_too_short rs c ≡ false

numbers_are : (rs : List Numbers) (x : List ℕ) (r : Numbers) → numbers_found rs x ≡ Some r → numbers_named rs x ≡ r
numbers_are rs x r e = ap (λ (o : Option Numbers). elim o [ Some q ↦ q | None ↦ record { name = x; low = pos 0; count = 0 } ]) e

-- a loop is split once
same_cut : (cs : List Split) (c d : Split) → AreApart cs → In c cs → In d cs → c.whole ≡ d.whole → c ≡ d
same_cut [] c d a m n e = absurd m
same_cut (x ∷ cs) c d a (inl same) (inl other) e = same ∙ sym other
same_cut (x ∷ cs) c d a (inl same) (inr n) e = absurd ((all_at (λ y. IsApart y x) cs d a.2 n).whole (ap (λ (y : Split). y.whole) (sym same) ∙ e))
same_cut (x ∷ cs) c d a (inr m) (inl other) e = absurd ((all_at (λ y. IsApart y x) cs c a.2 m).whole (ap (λ (y : Split). y.whole) (sym other) ∙ sym e))
same_cut (x ∷ cs) c d a (inr m) (inr n) e = same_cut cs c d a.3 m n e

-- ---- loops whose numbers are kept

module _ (rs : List Numbers) (all : List Split) where
  abbrev kept_by : Split → List Split → List ℕ → Bool → Bool
  kept_by c cs x v = if v then is_guarded rs all c || (not (overruns rs c) && (is_kept rs all cs c.outer && is_kept rs all cs c.inner)) else is_kept rs all cs x

  kept_past : (c : Split) (cs : List Split) (x : List ℕ) → (c.whole ≡ x → ⊥) → is_kept rs all (c ∷ cs) x ≡ is_kept rs all cs x
  kept_past c cs x ne = ap (kept_by c cs x) (name_differs c.whole x ne)

  kept_at : (cs : List Split) (c : Split) → AreApart cs → In c cs →
      is_kept rs all cs c.whole ≡ (is_guarded rs all c || (not (overruns rs c) && (is_kept rs all cs c.outer && is_kept rs all cs c.inner)))
  kept_at [] c a m = absurd m
  kept_at (x ∷ cs) c a (inl same) =
      subst (λ d. is_kept rs all (x ∷ cs) d.whole ≡ (is_guarded rs all d || (not (overruns rs d) && (is_kept rs all (x ∷ cs) d.outer && is_kept rs all (x ∷ cs) d.inner)))) (sym same)
      (ap (kept_by x cs x.whole) (name_same x.whole x.whole refl)
      ∙ ap (λ v. is_guarded rs all x || (not (overruns rs x) && (v && is_kept rs all cs x.inner))) (sym (kept_past x cs x.outer a.0))
      ∙ ap (λ v. is_guarded rs all x || (not (overruns rs x) && (is_kept rs all (x ∷ cs) x.outer && v))) (sym (kept_past x cs x.inner a.1)))
  kept_at (x ∷ cs) c a (inr m) =
      let k = all_at (λ y. IsApart y x) cs c a.2 m in
      kept_past x cs c.whole k.whole ∙ kept_at cs c a.3 m
      ∙ ap (λ v. is_guarded rs all c || (not (overruns rs c) && (v && is_kept rs all cs c.inner))) (sym (kept_past x cs c.outer k.outer))
      ∙ ap (λ v. is_guarded rs all c || (not (overruns rs c) && (is_kept rs all (x ∷ cs) c.outer && v))) (sym (kept_past x cs c.inner k.inner))

  four : (g a b c : Bool) → g ≡ false → (g || (not a && (b && c))) ≡ true → (a ≡ false) × (b ≡ true) × (c ≡ true)
  four true a b c free e = absurd (cc free)
  four false false true true free e = (refl, refl, refl)
  four false true b c free e = absurd (cc e)
  four false false false c free e = absurd (cc e)
  four false false true false free e = absurd (cc e)

  kept_parts : (cs : List Split) (c : Split) → AreApart cs → In c cs → is_guarded rs all c ≡ false → is_kept rs all cs c.whole ≡ true →
      (overruns rs c ≡ false) × (is_kept rs all cs c.outer ≡ true) × (is_kept rs all cs c.inner ≡ true)
  kept_parts cs c a m free e = four (is_guarded rs all c) (overruns rs c) (is_kept rs all cs c.outer) (is_kept rs all cs c.inner) free (sym (kept_at cs c a m) ∙ e)

-- ---- blocks

module _ (rs : List Numbers) (c : Split) (facts : CutFacts rs c) (o : ℤ) (low_outer : NotBefore rs c.outer o) where
  abbrev outer_numbers : Numbers
  outer_numbers = record { name = c.outer; low = pos 0; count = blocks (numbers_named rs c.whole).count c.factor }

  least : pos 0 ≤ℤ o
  least = low_outer outer_numbers facts.outer

  product : (pos c.factor *ℤ o) ≡ pos (clipped o * c.factor)
  product = ap (λ z. pos c.factor *ℤ z) (sym (pos_clipped o least)) ∙ times_is c.factor (clipped o)

  many : c.tail ≡ tails.Shift → c.factor ≤ (numbers_named rs c.whole).count
  many e =
      of (nat_lt (numbers_named rs c.whole).count c.factor) refl
      (sym (ap (λ (t : Tail). elim t [ tails.Shift ↦ true | tails.Guard ↦ false | tails.Roundup ↦ false ] && nat_lt (numbers_named rs c.whole).count c.factor) e) ∙ facts.long)
    where
      of : (v : Bool) → nat_lt (numbers_named rs c.whole).count c.factor ≡ v → (true && v) ≡ false → c.factor ≤ (numbers_named rs c.whole).count
      of true h k = absurd (cc k)
      of false h k = grind (arith, nat_tests)

  low_by : (t : Tail) → c.tail ≡ t → (numbers_named rs c.whole).low ≤ℤ first_number t (numbers_named rs c.whole) c.factor o
  low_by tails.Guard e = let p = product in omega (arith, ints, p)
  low_by tails.Roundup e = let p = product in omega (arith, ints, p)
  low_by tails.Shift e =
      let p = product in
      let enough = many e in
      min_least ((numbers_named rs c.whole).low +ℤ pos c.factor *ℤ o) (room (numbers_named rs c.whole) c.factor) (numbers_named rs c.whole).low (omega (arith, ints, p)) (omega (arith, ints, enough))

  module _ (high_outer : NotBehind rs c.outer o) (exact : overruns rs c ≡ false) where
    below : clipped o < blocks (numbers_named rs c.whole).count c.factor
    below = let last = high_outer outer_numbers facts.outer in let is = pos_clipped o least in omega (arith, ints, last, is)

    no_rest : has_rest c (numbers_named rs c.whole).count ≡ false → (numbers_named rs c.whole).count % c.factor ≡ 0
    no_rest e =
        let k = (or_parts (c.factor == 0) (not ((numbers_named rs c.whole).count % c.factor == 0)) e).1 in
        of ((numbers_named rs c.whole).count % c.factor == 0) refl k
      where
        of : (v : Bool) → ((numbers_named rs c.whole).count % c.factor == 0) ≡ v → not v ≡ false → (numbers_named rs c.whole).count % c.factor ≡ 0
        of true h k = grind (arith, nat_tests)
        of false h k = absurd (cc k)

    full : (z : ℤ) → z <ℤ pos c.factor → has_rest c (numbers_named rs c.whole).count ≡ false → ((numbers_named rs c.whole).low +ℤ pos c.factor *ℤ o +ℤ z) ≤ℤ last_number (numbers_named rs c.whole)
    full z lt rest =
        let p = product in
        let fits = whole_blocks (numbers_named rs c.whole).count c.factor (clipped o) facts.some below (no_rest rest) in
        omega (arith, ints, p, fits, lt)

    ends_by : (t : Tail) → c.tail ≡ t → Ends rs c (first_number t (numbers_named rs c.whole) c.factor o)
    ends_by tails.Guard e z lt rest = full z lt (rest e)
    ends_by tails.Roundup e z lt rest = full z lt (sym (ap (λ (t : Tail). elim t [ tails.Roundup ↦ has_rest c (numbers_named rs c.whole).count | tails.Guard ↦ false | tails.Shift ↦ false ]) e)
        ∙ exact)
    ends_by tails.Shift e z lt rest =
        let first = (numbers_named rs c.whole).low +ℤ pos c.factor *ℤ o in
        let y = int_min first (room (numbers_named rs c.whole) c.factor) in
        let most = (min_says first (room (numbers_named rs c.whole) c.factor) y (omega (arith, ints))).1 in
        omega (arith, ints, most, lt)

module _ (rs : List Numbers) (cs : List Split) (apart : AreApart cs) (xs : List (List ℕ)) where
  abbrev all : List Split
  all = cuts_by_variable cs xs

  unguarded : (c : Split) → is_guarded rs all c ≡ false → c.tail ≡ tails.Guard → has_rest c (numbers_named rs c.whole).count ≡ false
  unguarded c e g =
      (or_parts (has_rest c (numbers_named rs c.whole).count) (is_overrun rs all c)
      (sym (ap (λ (t : Tail). elim t [ tails.Guard ↦ has_rest c (numbers_named rs c.whole).count || is_overrun rs all c | tails.Roundup ↦ false | tails.Shift ↦ false ]) g) ∙ e)).0

  -- a split that has no guard in its nest has none
  unguarded_anywhere : (c : Split) → In c all → is_guarded rs all c ≡ false → is_guarded rs cs c ≡ false
  unguarded_anywhere c m e = of c.tail refl
    where
      of : (t : Tail) → c.tail ≡ t → is_guarded rs cs c ≡ false
      of tails.Roundup h = ap (λ (t : Tail). elim t [ tails.Guard ↦ has_rest c (numbers_named rs c.whole).count || is_overrun rs cs c | tails.Roundup ↦ false | tails.Shift ↦ false ]) h
      of tails.Shift h = ap (λ (t : Tail). elim t [ tails.Guard ↦ has_rest c (numbers_named rs c.whole).count || is_overrun rs cs c | tails.Roundup ↦ false | tails.Shift ↦ false ]) h
      of tails.Guard h =
          let here = or_parts (has_rest c (numbers_named rs c.whole).count) (is_overrun rs all c)
          (sym (ap (λ (t : Tail). elim t [ tails.Guard ↦ has_rest c (numbers_named rs c.whole).count || is_overrun rs all c | tails.Roundup ↦ false | tails.Shift ↦ false ]) h) ∙ e) in
          ap (λ (t : Tail). elim t [ tails.Guard ↦ has_rest c (numbers_named rs c.whole).count || is_overrun rs cs c | tails.Roundup ↦ false | tails.Shift ↦ false ]) h
          ∙ ap (λ v. v || is_overrun rs cs c) here.0 ∙ overrun_nowhere rs cs xs c apart m here.1

  -- a position in the loop that was split
  not_before : (c : Split) → CutFacts rs c → (y z : ℤ) → (numbers_named rs c.whole).low ≤ℤ y → NotBefore rs c.inner z → NotBefore rs c.whole (y +ℤ z)
  not_before c facts y z low inside r e =
      let some = inside (record { name = c.inner; low = pos 0; count = c.factor }) facts.inner in
      subst (λ (q : Numbers). q.low ≤ℤ (y +ℤ z)) (numbers_are rs c.whole r e) (omega (arith, ints, low, some))

  not_behind : (c : Split) (y z : ℤ) → (y +ℤ z) ≤ℤ last_number (numbers_named rs c.whole) → NotBehind rs c.whole (y +ℤ z)
  not_behind c y z last r e = subst (λ (q : Numbers). (y +ℤ z) ≤ℤ last_number q) (numbers_are rs c.whole r e) last

  cut_keeps : (c : Split) → In c all → In c cs → CutFacts rs c → CutKeeps rs all (Fits rs cs) (BlockFits rs cs) c
  cut_keeps c there m facts = record {
    some = facts.some;
    start = (λ o h d n e.
        subst (λ g. ((numbers_named rs g.whole).low ≤ℤ first_number c.tail (numbers_named rs c.whole) c.factor o) ×
        (overruns rs g ≡ false → is_kept rs cs cs g.outer ≡ true → Ends rs g (first_number c.tail (numbers_named rs c.whole) c.factor o)))
        (same_cut cs c d apart m n (sym e)) (low_by rs c facts o h.0 c.tail refl, λ exact kept. ends_by rs c facts o h.0 (h.1 kept) exact c.tail refl));
    free = (λ y z e h k. (
      not_before c facts y z (h c m refl).0 k.0,
      λ kept.
          let parts = kept_parts rs cs cs c apart m (unguarded_anywhere c there e) kept in
          let inside = k.1 parts.2 (record { name = c.inner; low = pos 0; count = c.factor }) facts.inner in
          not_behind c y z ((h c m refl).1 parts.0 parts.1 z (omega (arith, ints, inside)) (unguarded c e)),
    ));
    tested = (λ y z last h k. (not_before c facts y z (h c m refl).0 k.0, λ kept. not_behind c y z last));
  }

  cuts_keep : (ds : List Split) → ((c : Split) → In c ds → In c all) → ((c : Split) → In c ds → CutFacts rs c) → AllByRecursion (CutKeeps rs all (Fits rs cs) (BlockFits rs cs)) ds
  cuts_keep [] f a = tt
  cuts_keep (d ∷ ds) f a = (cut_keeps d (f d (inl refl)) (by_variable_in cs xs d (f d (inl refl))) (a d (inl refl)), cuts_keep ds (λ c m. f c (inr m)) (λ c m. a c (inr m)))

-- ---- the grid

module _ (rs : List Numbers) (all : List Split) (Q : List ℕ → ℤ → Type 0) where
  loop_said : (l : Loop) → IsSaid (Fits rs all) (loop_turning rs l)
  loop_said l z low last = (
    λ r e. subst (λ (q : Numbers). q.low ≤ℤ z) (numbers_are rs l.name r e) low,
    λ kept r e. subst (λ (q : Numbers). z ≤ℤ last_number q) (numbers_are rs l.name r e) last,
  )

  grid_from : (g : List ℕ) (n s : ℕ) (ls : List Loop) (gs : List ℕ) → IsInGrid (grid_counts rs ls) gs → ((i : ℕ) → grid_value g (s + i) ≡ grid_value gs i) → s + length ls ≤ n →
      AllByRecursion (λ k. IsSuch n (grid_symbols g) (Fits rs all k.name) k.form) (grid_forms rs s ls)
  grid_from g n s [] gs a h le = tt
  grid_from g n s (l ∷ ls) [] a h le = absurd a
  grid_from g n s (l ∷ ls) (x ∷ xs) a h le =
      let here : s ≡ s + 0 = omega arith in
      let value : grid_value g s ≡ pos x = ap (grid_value g) here ∙ h 0 in
      let z = (numbers_named rs l.name).low +ℤ pos x in
      let lt = a.0 in (
        record {
          number = z;
          told = told_counted n s (grid_symbols g) (numbers_named rs l.name).low z (omega (arith, le)) (omega (arith, ints, value));
          is = loop_said l z (omega (arith, ints))
              (omega (arith, ints, lt));
        },
        grid_from g n (s + 1) ls xs a.1 (λ i. let next : s + 1 + i ≡ s + suc i = omega arith in ap (grid_value g) next ∙ h (suc i)) (omega (arith, le)),
      )

  counts_long : (ls : List Loop) → length (grid_counts rs ls) ≡ length ls
  counts_long [] = refl
  counts_long (l ∷ ls) = ap suc (counts_long ls)

  some_count : (ns : List ℕ) → 0 < length (or_one ns)
  some_count [] = omega arith
  some_count (n ∷ ns) = omega arith

  grid_all : (ls : List Loop) (g : List ℕ) → IsInGrid (or_one (grid_counts rs ls)) g →
      AllByRecursion (λ k. IsSuch (length (or_one (grid_counts rs ls))) (grid_symbols g) (Fits rs all k.name) k.form) (grid_forms rs 0 ls)
  grid_all [] g a = tt
  grid_all (l ∷ ls) g a =
      grid_from g (length (or_one (grid_counts rs (l ∷ ls)))) 0 (l ∷ ls) g a (λ i. let same : 0 + i ≡ i = omega arith in ap (grid_value g) same) (let k = counts_long ls in omega (arith, k))

  grid_holds : (p : PlacedText) (g : List ℕ) → IsInGrid (or_one (grid_counts rs (parallel_loops p.loops))) g → HoldsGround (Fits rs all) Q (over_grid rs p) (grid_symbols g)
  grid_holds p g a = record { known = grid_all (parallel_loops p.loops) g a; starts = tt; bound = refl; some = some_count (grid_counts rs (parallel_loops p.loops)) }

-- ---- coordinates

-- the variables' numbers are the region's
abbrev NumbersAre : List Numbers → List (List ℕ) → List Extent → Type 0
NumbersAre rs [] es = Unit {0}
NumbersAre rs (x ∷ xs) [] = Unit {0}
NumbersAre rs (x ∷ xs) (e ∷ es) = (numbers_found rs x ≡ Some (record { name = x; low = e.low; count = e.count })) × NumbersAre rs xs es

numbers_on : (r : Numbers) (rs : List Numbers) (xs : List (List ℕ)) (es : List Extent) → AllByRecursion (λ y. same_name r.name y ≡ false) xs → NumbersAre rs xs es → NumbersAre (r ∷ rs) xs es
numbers_on r rs [] es a h = tt
numbers_on r rs (x ∷ xs) [] a h = tt
numbers_on r rs (x ∷ xs) (e ∷ es) a h = (ap (λ (v : Bool). if v then Some r else numbers_found rs x) a.0 ∙ h.0, numbers_on r rs xs es a.1 h.1)

first_numbers : (xs : List (List ℕ)) (es : List Extent) → has_double xs ≡ false → NumbersAre (whole_numbers xs es) xs es
first_numbers [] es d = tt
first_numbers (x ∷ xs) [] d = tt
first_numbers (x ∷ xs) (e ∷ es) d =
    let k = or_parts (is_among xs x) (has_double xs) d in
    let r : Numbers = record { name = x; low = e.low; count = e.count } in
    (ap (λ (v : Bool). if v then Some r else numbers_found (whole_numbers xs es) x) (name_same x x refl), numbers_on r (whole_numbers xs es) xs es (differ_all x xs k.0) (first_numbers xs es k.1))

found_cut : (cs : List Split) (rs : List Numbers) (x : List ℕ) (r : Numbers) → numbers_found rs x ≡ Some r → numbers_found (cut_numbers cs rs) x ≡ Some r
found_cut [] rs x r e = e
found_cut (c ∷ cs) rs x r e = found_cut cs (rs ++ halves c (numbers_named rs c.whole).count) x r (found_more rs (halves c (numbers_named rs c.whole).count) x r e)

last_numbers : (cs : List Split) (rs : List Numbers) (xs : List (List ℕ)) (es : List Extent) → NumbersAre rs xs es → NumbersAre (cut_numbers cs rs) xs es
last_numbers cs rs [] es h = tt
last_numbers cs rs (x ∷ xs) [] h = tt
last_numbers cs rs (x ∷ xs) (e ∷ es) h = (found_cut cs rs x (record { name = x; low = e.low; count = e.count }) h.0, last_numbers cs rs xs es h.1)

module _ (rs : List Numbers) (all : List Split) (ks : List Known) (n : ℕ) (s : Symbols) (such : AllByRecursion (λ k. IsSuch n s (Fits rs all k.name) k.form) ks) (b : BodyText)
    (rest : List (Option Form)) where
  inside_by : (x : List ℕ) (e : Extent) → numbers_found rs x ≡ Some (record { name = x; low = e.low; count = e.count }) → (o : Option Form) → form_named ks x ≡ o → is_kept rs all all x ≡ true →
      IsInside e o s
  inside_by x e is None h ex = tt
  inside_by x e is (Some f) h ex =
      let k = found_all (λ y g. IsSuch n s (Fits rs all y) g) ks x f such h in
      let value = k.told.value in
      let r : Numbers = record { name = x; low = e.low; count = e.count } in
      let low = k.is.0 r is in
      let last = k.is.1 ex r is in
      (omega (arith, ints, value, low), omega (arith, ints, value, last))

  inside_all : (d : ℕ) (xs : List (List ℕ)) (es : List Extent) → length es ≡ length xs → NumbersAre rs xs es → AreInside (is_kept rs all all) xs es (variables_at b d xs ks ++ rest) s
  inside_all d [] es l h = tt
  inside_all d (x ∷ xs) [] l h = absurd (omega (arith, l))
  inside_all d (x ∷ xs) (e ∷ es) l h = (of (is_missing b d), inside_all (d + 1) xs es (omega (arith, l)) h.1)
    where
      of : (v : Bool) → is_kept rs all all x ≡ true → IsInside e (if v then None else form_named ks x) s
      of true ex = tt
      of false ex = inside_by x e h.0 (form_named ks x) refl ex

-- ---- the skeleton

some_nest : (a b : NestText) → Some a ≡ Some b → a ≡ b
some_nest a b e = cc

module _
    (xs : List (List ℕ)) (bs : List BodyText) (p : PlacedText) (region : List Extent) (k : SkeletonText) (single : has_double xs ≡ false) (long : length region ≡ length xs)
    (made : skeleton_in xs bs p region ≡ Some k)
    (dim : List ℕ → ℕ) (dimensions : HaveDimensions dim 0 xs) (apart : AreApart p.cuts) (along : AllByRecursion (IsAlong dim) p.cuts)
    (facts : AllByRecursion (CutFacts (loop_numbers xs p.cuts region)) p.cuts)
    (number : ℕ) (body : BodyText) (n : NestText) (at : slice_get bs number ≡ Some body) (is : slice_get k.nests number ≡ Some n)
    (others : AllByRecursion (λ t. numbers_found (loop_numbers xs p.cuts region) t.name ≡ None) body.ranges) where
  abbrev rs : List Numbers
  rs = loop_numbers xs p.cuts region

  abbrev P : List ℕ → ℤ → Type 0
  P = Fits (loop_numbers xs p.cuts region) p.cuts

  abbrev Q : List ℕ → ℤ → Type 0
  Q = BlockFits (loop_numbers xs p.cuts region) p.cuts

  whole : IsSkeletonOf xs bs p (loop_numbers xs p.cuts region) k
  whole = skeleton_parts xs bs p region k made

  nest : IsNestOf xs p (loop_numbers xs p.cuts region) whole.head k.nests number body
  nest = nest_of_body xs p (loop_numbers xs p.cuts region) whole.head bs whole.head.next k.nests number body whole.nests at (omega arith)

  keep : (ys : List (List ℕ)) → AllByRecursion (CutKeeps (loop_numbers xs p.cuts region) (cuts_by_variable p.cuts ys) (Fits (loop_numbers xs p.cuts region) p.cuts)
      (BlockFits (loop_numbers xs p.cuts region) p.cuts)) (cuts_by_variable p.cuts ys)
  keep ys =
      cuts_keep (loop_numbers xs p.cuts region) p.cuts apart ys (cuts_by_variable p.cuts ys) (λ c m. m)
      (λ c m. all_at (CutFacts (loop_numbers xs p.cuts region)) p.cuts c facts (by_variable_in p.cuts ys c m))

  abbrev over : List Split
  over = cuts_by_variable p.cuts xs

  abbrev cs : List Split
  cs = cuts_by_variable p.cuts (kept_from body 0 xs)

  order : AreOrdered (cuts_by_variable p.cuts (kept_from body 0 xs))
  order = ordered_by_variable dim p.cuts along (kept_from body 0 xs) (kept_rise dim body 0 xs dimensions) apart

  said : (v : Bool) → AllByRecursion (IsSaid (Fits (loop_numbers xs p.cuts region) p.cuts)) (nest_loops body v (loop_numbers xs p.cuts region) p.loops)
  said v = all_loops (filter (is_in_nest body v) (reverse p.loops))
    where
      all_loops : (ls : List Loop) → AllByRecursion (IsSaid (Fits (loop_numbers xs p.cuts region) p.cuts)) (map (loop_turning (loop_numbers xs p.cuts region)) ls)
      all_loops [] = tt
      all_loops (l ∷ ls) = (loop_said (loop_numbers xs p.cuts region) p.cuts (BlockFits (loop_numbers xs p.cuts region) p.cuts) l, all_loops ls)

  range_said : (t : Turning) → numbers_found (loop_numbers xs p.cuts region) t.name ≡ None → IsSaid (Fits (loop_numbers xs p.cuts region) p.cuts) t
  range_said t none z low last = (
    λ r e. absurd (let clash : None ≡ Some r = sym none ∙ e in cc clash),
    λ kept r e. absurd (let clash : None ≡ Some r = sym none ∙ e in cc clash),
  )

  turns_said : AllByRecursion (IsSaid (Fits (loop_numbers xs p.cuts region) p.cuts)) (nest_turns body (loop_numbers xs p.cuts region) p.loops)
  turns_said =
      let S = IsSaid (Fits (loop_numbers xs p.cuts region) p.cuts) in
      let loops = loop_numbers xs p.cuts region in
      all_both S (nest_loops body false loops p.loops ++ reverse body.ranges) (nest_loops body true loops p.loops)
      (all_both S (nest_loops body false loops p.loops) (reverse body.ranges) (said false)
      (all_reverse S body.ranges (all_weaker (λ t. numbers_found loops t.name ≡ None) S range_said body.ranges others))) (said true)

  on_from : (s : Symbols) → HoldsGround P Q whole.head s → HoldsGround P Q (begun nest.from whole.head) s
  on_from s h =
      let some = h.some in
      let le = nest.later in
      record {
        known = such_all P whole.head.next nest.from s s whole.head.known (λ i lt. refl) nest.later h.known;
        starts = such_all Q whole.head.next nest.from s s whole.head.starts (λ i lt. refl) nest.later h.starts;
        bound = h.bound;
        some = omega (arith, some, le);
      }

  in_nest : (s : Symbols) → HoldsGround P Q nest.mid s → HoldsNest cs P Q nest.mid s
  in_nest s h = record {
    known = h.known;
    starts = h.starts;
    bound = subst (λ (l : List ℕ). AllByRecursion (λ j. j < nest.mid.next) l) (sym h.bound) tt;
    closed = closes within.Nest rs cs (λ e. cc e) cs (begun nest.from whole.head) nest.mid nest.settled order;
  }

  stays_inside : (piece : List ℕ) (s : Symbols) → IsInGrid k.grid piece → Contains (arrivals (k.head ++ n.steps) (grid_symbols piece)) s →
      AreInside (is_kept (loop_numbers xs p.cuts region) p.cuts p.cuts) xs region n.at s
  stays_inside piece s in_grid there =
      let same : n ≡ nest_of xs body nest.end = some_nest n (nest_of xs body nest.end) (sym is ∙ nest.is) in
      let way = arrived (k.head ++ n.steps) (grid_symbols piece) s there in
      let parts = leads_apart k.head n.steps (grid_symbols piece) s way in
      let grid = grid_holds rs p.cuts Q p piece (subst (λ (ns : List ℕ). IsInGrid ns piece) whole.grid in_grid) in
      let first = ground_keeps rs over over P Q (keep xs) within.Grid (over_grid rs p) whole.head (grid_symbols piece) grid whole.settled
      whole.head.steps parts.0 refl (subst (λ (l : List Step). Leads l (grid_symbols piece) parts.0) whole.first parts.1) in
      let cuts = keep (kept_from body 0 xs) in
      let before = begun nest.from whole.head in
      let held = kept_on before nest.mid nest.end parts.0 (HoldsGround P Q nest.mid) (HoldsNest cs P Q nest.end)
      (settle_grows within.Nest rs cs cs before nest.mid nest.settled) (turns_grow rs cs P Q cuts order (nest_turns body rs p.loops) nest.mid nest.end nest.turned)
      (settle_rises within.Nest rs cs cs before nest.mid nest.settled)
      (ground_keeps rs cs cs P Q cuts within.Nest before nest.mid parts.0 (on_from parts.0 first.1) nest.settled)
      (λ t h. turns_keep rs cs P Q cuts order (nest_turns body rs p.loops) nest.mid nest.end t (in_nest t h) turns_said nest.turned) in
      let end = held nest.end.steps s refl (subst (λ (m : NestText). Leads m.steps parts.0 s) same parts.2) in
      subst (λ (m : NestText). AreInside (is_kept (loop_numbers xs p.cuts region) p.cuts p.cuts) xs region m.at s) (sym same)
      (inside_all rs p.cuts nest.end.known nest.end.next s end.1.known body (ranges_at body.ranges nest.end.known) 0 xs region long
      (last_numbers p.cuts (whole_numbers xs region) xs region (first_numbers xs region single)))

-- ---- the law

lows : List Extent → List ℤ
lows [] = []
lows (e ∷ es) = e.low ∷ lows es

lows_inside : (es : List Extent) → AllByRecursion (λ e. 0 < e.count) es → IsInExtents es (lows es)
unfolding lows
lows_inside [] a = tt
lows_inside (e ∷ es) a = (omega (arith, ints), let some = a.0 in omega (arith, ints, some), lows_inside es a.1)

lows_long : (es : List Extent) → length es ≡ length (lows es)
unfolding lows
lows_long [] = refl
lows_long (e ∷ es) = ap suc (lows_long es)

none_short : (ns : List Numbers) (cs : List Split) → has_short_shift ns cs ≡ false → AllByRecursion (λ c. is_too_short ns c ≡ false) cs
none_short ns [] e = tt
none_short ns (c ∷ cs) e = let k = or_parts (is_too_short ns c) (has_short_shift ns cs) e in (k.0, none_short ns cs k.1)

not_among : (xs ys : List (List ℕ)) → has_double (xs ++ ys) ≡ false → AllByRecursion (λ y. is_among xs y ≡ false) ys
not_among [] ys e = all_none ys
  where
    all_none : (zs : List (List ℕ)) → AllByRecursion (λ y. is_among [] y ≡ false) zs
    all_none [] = tt
    all_none (z ∷ zs) = (refl, all_none zs)
not_among (x ∷ xs) ys e =
    let k = or_parts (is_among (xs ++ ys) x) (has_double (xs ++ ys)) e in
    all_two (λ y. same_name x y ≡ false) (λ y. is_among xs y ≡ false) (λ y. is_among (x ∷ xs) y ≡ false) (λ y a b. ap (λ v. v || is_among xs y) a ∙ b) ys
    (right xs ys (differ_all x (xs ++ ys) k.0)) (not_among xs ys k.1)
  where
    right : (zs us : List (List ℕ)) → AllByRecursion (λ y. same_name x y ≡ false) (zs ++ us) → AllByRecursion (λ y. same_name x y ≡ false) us
    right [] us a = a
    right (z ∷ zs) us a = right zs us a.1

names_all : (P : List ℕ → Type 0) (ts : List Turning) → AllByRecursion P (map (λ t. t.name) ts) → AllByRecursion (λ t. P t.name) ts
names_all P [] a = tt
names_all P (t ∷ ts) a = (a.0, names_all P ts a.1)

cut_facts : (ns : List Numbers) (w b : List ℕ → ℤ) (dim : List ℕ → ℕ) (used : List (List ℕ)) (cs : List Split) → AllByRecursion (SplitFits ns w b dim used) cs →
    AllByRecursion (λ c. is_too_short ns c ≡ false) cs → AllByRecursion (CutFacts ns) cs
cut_facts ns w b dim used [] a l = tt
cut_facts ns w b dim used (c ∷ cs) a l = (record { some = a.0.cut.some; outer = a.0.outer_numbers; inner = a.0.inner_numbers; long = l.0 }, cut_facts ns w b dim used cs a.1 l.1)

pub stay_inside_regions : SchedulesStayInsideRegions
stay_inside_regions a s ps i f p region k placed at is names long some full made number b n there nest_is =
    let fs = map (subject_said a s) a.functions in
    let sub = subject_said a s f in
    let m = all_placed fs s (map start fs) ps (starts_placed fs) placed i sub p (get_map (subject_said a s) a.functions i f at) is in
    let xs = f.variables in
    let first = xs ++ reductions_of f.changes in
    let q = lows region in
    let given = bound xs q in
    let h = directives_keep sub first region given m.0 (start sub) p m.1
    (start_arranged xs (reductions_of f.changes) region q given names.variables (lows_inside region some) (gives_bound xs q names.variables (sym long ∙ lows_long region))) in
    let rs = loop_numbers xs p.cuts region in
    let fit = body_fits f names number b there in
    let apart_names = not_among xs (map (λ t. t.name) b.ranges) fit.own in
    let others = all_two (λ y. is_among (reductions_of f.changes) y ≡ true) (λ y. is_among xs y ≡ false) (λ y. numbers_found h.rs y ≡ None)
    (λ y taken other. h.others y (among_right xs (reductions_of f.changes) y taken) other) (map (λ t. t.name) b.ranges) fit.among apart_names in
    let facts = cut_facts h.rs h.w h.b h.dim p.used p.cuts h.cuts (subst (λ (r : List Numbers). AllByRecursion (λ c. is_too_short r c ≡ false) p.cuts) (sym h.numbers) (none_short rs p.cuts full)) in
    stays_inside xs (bodies_of f) p region k names.variables long made h.dim h.dimensions h.apart (all_weaker (SplitFits h.rs h.w h.b h.dim p.used) (IsAlong h.dim) (λ c g. g.along) p.cuts h.cuts)
    (subst (λ (r : List Numbers). AllByRecursion (CutFacts r) p.cuts) h.numbers facts) number b n there nest_is
    (subst (λ (r : List Numbers). AllByRecursion (λ t. numbers_found r t.name ≡ None) b.ranges) h.numbers (names_all (λ y. numbers_found h.rs y ≡ None) b.ranges others))
