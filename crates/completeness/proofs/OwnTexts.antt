-- What pieces own, and what their claims speak of, has a text, and so have the places of their buffers.
use Rattle.std.proofs.Common.{◌≡◌, ℕ, ◌+◌, ◌<◌, ◌≤◌, ◌^◌, Bool, true, false, List, [], ◌∷◌, length, map, Option, Some, None, refl, sym, ap, ◌∙◌, subst, arith}
use Rattle.std.proofs.Common.{inl, inr, ◌⊎◌}
use Rattle.std.specs.Prelude.{ℤ, negsuc, ◌≤ℤ◌, pos, ◌+ℤ◌, ◌-ℤ◌, if◌then◌else◌}
use Rattle.std.specs.List.{AllByRecursion}
use Rattle.std.specs.Int.RustNames.{unsigned_abs}
use Rattle.std.specs.Option.{option_map}
use Rattle.std.specs.Ordering.{int_eq}
use Rattle.std.proofs.lemmas.Int.{ints}
use Rattle.lin.proofs.TermLemmas.{all_weaker}
use Rattle.lin.specs.Forms.{Form, number}
use Rattle.lin.specs.declared.span.Span1.{Span1}
use Rattle.bounds.specs.Spans.{numbers}
use Rattle.soundness.specs.Obligations.{exactly}
use Rattle.sched.specs.declared.schedule.Split.{Split}
use Rattle.sched.specs.declared.schedule.Tail.{Tail}
use Rattle.sched.specs.declared.schedule.Tail.TheVariants.{Guard, Roundup, Shift}
use Rattle.sched.specs.declared.numbers.Extent.{Extent}
use Rattle.sched.specs.declared.numbers.Numbers.{Numbers}
use Rattle.sched.specs.Numbers.{numbers_named, last_number, loop_numbers, parallel_loops}
use Rattle.sched.specs.Standing.{form_named, counted_from, has_rest}
use Rattle.sched.specs.Skeleton.{SkeletonText, grid_forms}
use Rattle.sched.proofs.Standings.{found_all}
use Rattle.sched.specs.Stored.{StoredText}
use Rattle.lower.specs.Owning.{IsLaidBy, IsExtent}
use Rattle.blocks.specs.Blocks.{LayText, Whole, is_parallel_named, alone_by, lay_over, dimension_by, dimension_of, dimensions_of, owned_region, claimed_region, PartText}
use Rattle.sched.specs.Blocks.{difference}
use Rattle.blocks.specs.Blocks.{BlockText, uncut, joined, blocks_by, Run, block_span, own_last, with_last, part_of, claim_end_of, sum, own_places, end_of, multiple_from, places_by}
use Rattle.sched.specs.Blocks.{factor_of}
use Rattle.blocks.specs.Blocks.{reach_over}
use Rattle.lower.proofs.Dividing.{nearest_of_small}
use Rattle.completeness.proofs.PlainTurns.{hits}
use Rattle.soundness.specs.Claims.{In}
use Rattle.sched.specs.declared.placing.Loop.{Loop}
use Rattle.sched.specs.declared.skeleton.Known.{Known}
use Rattle.sched.specs.Placing.{is_parallel}
use Rattle.sched.specs.Regions.{count_of}
use Rattle.lower.proofs.Blocking.{IsSmall, CutFits}
use Rattle.lower.proofs.Covering.{NumbersAre}
use Rattle.lower.proofs.Grids.{parallel_named}
use Rattle.lower.proofs.Owners as owners
use Rattle.completeness.specs.Laws.{AreSplitOnce}
use Rattle.completeness.specs.Parted.{KeepsInner}
use Rattle.completeness.proofs.Halves.{AreOthers}
use Rattle.completeness.proofs.Lanes.{AreOnce}
use Rattle.completeness.proofs.VectorLines.{split_once}
use Rattle.completeness.proofs.PureNests.{all_in, loop_name}
use Rattle.completeness.proofs.Searched.{one_of}
use Rattle.completeness.proofs.BlockFacts.{inners_serial}
use Rattle.completeness.proofs.BlockDims.{IsCutOnce, cut_once, part_uncut, end_uncut}
use Rattle.completeness.proofs.TailEnds.{end_near, reach_near, block_first, block_is}
use Rattle.completeness.proofs.FewLoops.{is_named, few_loops, filter_few}
use Rattle.plan.specs.declared.stmt.Places.{Places}
use Rattle.plan.specs.declared.stmt.Places.TheVariants.{From, Folded}
use Rattle.completeness.proofs.Rising.{Rises}
use Rattle.completeness.proofs.RisingSpans.{IsTextSpan}
use Rattle.completeness.proofs.TextForms.{AreBelow, AreOver}
use Rattle.completeness.proofs.NearClaims.{no_loop, up_counted, split_or}

abbrev pub IsGoodForm : Form → Type 0
IsGoodForm f = Rises f × AreBelow 1000 f.terms

-- canonical forms of few symbols, one to four of each
abbrev pub IsGood : Span1 → Type 0
IsGood s = IsTextSpan s × AreOver s.lower × AreOver s.upper

abbrev pub IsGoodPlace : Places → Type 0
IsGoodPlace (From f n) = IsGoodForm f × (n < 2 ^ 62)
IsGoodPlace (Folded n) = ⊥

good_one : (f h : Form) → IsGoodForm f → IsGoodForm h → IsGood (record { lower = f ∷ []; upper = h ∷ [] })
good_one f h a b = (record { rises = ((a.0, tt), (b.0, tt)); lower_some = omega arith; lower_few = omega arith; upper_some = omega arith; upper_few = omega arith }, (a.1, tt), (b.1, tt))

-- a last number, or none, besides
good_ends : (f h : Form) (limits : List Form) → IsGoodForm f → IsGoodForm h → length limits ≤ 1 → AllByRecursion IsGoodForm limits → IsGood (record { lower = f ∷ []; upper = h ∷ limits })
good_ends f h limits a b few good = (
  record {
    rises = ((a.0, tt), (b.0, all_weaker IsGoodForm Rises (λ l g. g.0) limits good));
    lower_some = omega arith;
    lower_few = omega arith;
    upper_some = omega arith;
    upper_few = omega (arith, few);
  },
  (a.1, tt),
  (b.1, all_weaker IsGoodForm (λ l. AreBelow 1000 l.terms) (λ l g. g.1) limits good),
)

good_number : (z : ℤ) → IsGoodForm (number z)
good_number z = (tt, tt)

good_counted : (z : ℤ) (i : ℕ) → i < 1000 → IsGoodForm (counted_from z i)
good_counted z i h = (((λ e. omega (arith, ints, e)), tt, tt), (h, tt))

good_times : (z : ℤ) (n i : ℕ) → 0 < n → i < 1000 → IsGoodForm (one_of z (pos n) i)
good_times z n i some h = (((λ e. omega (arith, ints, e, some)), tt, tt), (h, tt))

good_numbers : (low last : ℤ) → IsGood (numbers low last)
good_numbers low last = good_one (number low) (number last) (good_number low) (good_number last)

few_numbers : (z : ℤ) → z ≤ℤ pos (2 ^ 40) → count_of z < 2 ^ 62
few_numbers (pos n) le = omega (arith, ints, le)
few_numbers (negsuc n) le = omega arith

few_places : (z : ℤ) → unsigned_abs z ≤ 2 ^ 36 → count_of z < 2 ^ 62
few_places z h = few_numbers z (omega (arith, ints, h))

-- how many places there are from a first to a last number
many : (e low : ℤ) → unsigned_abs e ≤ 2 ^ 36 → unsigned_abs low ≤ 2 ^ 32 → count_of (sum (difference e low) (pos 1)) < 2 ^ 62
many e low h k =
    let one : difference e low ≡ e -ℤ low = nearest_of_small (e -ℤ low) (omega (arith, ints, h, k)) (omega (arith, ints, h, k)) in
    let two : sum (difference e low) (pos 1) ≡ (e -ℤ low) +ℤ pos 1 =
    ap (λ (z : ℤ). sum z (pos 1)) one ∙ nearest_of_small ((e -ℤ low) +ℤ pos 1) (omega (arith, ints, h, k)) (omega (arith, ints, h, k)) in
    subst (λ (z : ℤ). count_of z < 2 ^ 62) (sym two) (few_numbers ((e -ℤ low) +ℤ pos 1) (omega (arith, ints, h, k)))

-- the forms over the grid count from the first number of their loop
counted_over : (rs : List Numbers) (s : ℕ) (ms : List Loop) → s + length ms ≤ 1000 →
    AllByRecursion (λ u. (i : ℕ) × (i < 1000) × (u.form ≡ counted_from (numbers_named rs u.name).low i)) (grid_forms rs s ms)
counted_over rs s [] le = tt
counted_over rs s (m ∷ ms) le = ((s, omega (arith, le), refl), counted_over rs (s + 1) ms (omega (arith, le)))

module _ (g : StoredText) (region : List Extent) (k : SkeletonText) (laid : IsLaidBy g region k) (narrow : length g.subject.variables ≤ 3) (alone : AreSplitOnce g.placed.cuts)
    (keeps : KeepsInner g.placed.loops g.placed.cuts)
    (starts : AllByRecursion (λ u. IsGoodForm u.form) k.starts) (known : k.known ≡ grid_forms (loop_numbers g.subject.variables g.placed.cuts region) 0 (parallel_loops g.placed.loops)) where
  abbrev xs : List (List ℕ)
  xs = g.subject.variables

  abbrev ls : List Loop
  ls = g.placed.loops

  abbrev cuts : List Split
  cuts = g.placed.cuts

  abbrev rs : List Numbers
  rs = loop_numbers xs cuts region

  abbrev lay : LayText
  lay = lay_over g region k

  abbrev num : List ℕ → Numbers
  num x = numbers_named rs x

  -- what a piece owns of a dimension, and what its claims speak of, by what of the loop belongs to it
  abbrev IsSaid : List ℕ → PartText → Type 0
  IsSaid x q = IsGood (dimension_by lay x cuts q).claim × IsGood (dimension_by lay x cuts q).own × IsGoodPlace (dimension_by lay x cuts q).places

  abbrev others : AreOthers cuts
  others = (is_named g region k laid narrow alone).apart

  abbrev once : AreOnce cuts
  once = split_once cuts alone

  abbrev fits : (c : Split) → In c cuts → CutFits rs c
  fits c m = all_in (CutFits rs) cuts c (owners.cuts g region k laid) m

  abbrev NumbersFit : List ℕ → Type 0
  NumbersFit x = IsSmall (num x) × (0 < (num x).count)

  numbers_fit : AllByRecursion NumbersFit xs
  numbers_fit = of xs region (owners.numbers g region k laid) laid.extents
    where
      of : (ys : List (List ℕ)) (es : List Extent) → NumbersAre rs ys es → AllByRecursion IsExtent es → AllByRecursion NumbersFit ys
      of [] es q r = tt
      of (y ∷ ys) [] q r = absurd q
      of (y ∷ ys) (e ∷ es) q r = (
        subst (λ (z : Numbers). IsSmall z × (0 < z.count)) (sym q.0) (record { from = r.0.from; to = r.0.to; few = r.0.few }, r.0.some),
        of ys es q.1 r.1,
      )

  -- a form over the grid counts from the loop's first number
  counted : (x : List ℕ) (f : Form) → form_named k.known x ≡ Some f → (i : ℕ) × (i < 1000) × (f ≡ counted_from (num x).low i)
  counted x f e =
      let loops = few_loops g region k laid narrow alone in
      let fewer = filter_few is_parallel ls in
      found_all (λ (y : List ℕ) (h : Form). (i : ℕ) × (i < 1000) × (h ≡ counted_from (numbers_named rs y).low i)) k.known x f
      (subst (λ (us : List Known). AllByRecursion (λ u. (i : ℕ) × (i < 1000) × (u.form ≡ counted_from (numbers_named rs u.name).low i)) us) (sym known)
      (counted_over rs 0 (parallel_loops ls) (omega (arith, loops, fewer)))) e

  near_low : (x : List ℕ) → NumbersFit x → unsigned_abs (num x).low ≤ 2 ^ 32
  near_low x h = (let from = h.0.from in let to = h.0.to in omega (arith, ints, from, to))

  near_last : (x : List ℕ) → NumbersFit x → unsigned_abs (last_number (num x)) ≤ 2 ^ 36
  near_last x h = (let from = h.0.from in let to = h.0.to in let few = h.0.few in let some = h.1 in omega (arith, ints, from, to, few, some))

  -- all numbers of a loop
  whole_near : (x : List ℕ) → NumbersFit x → unsigned_abs (end_of rs x cuts) ≤ 2 ^ 36 → IsSaid x Whole
  whole_near x h end =
      let low = near_low x h in
      (good_numbers (num x).low (claim_end_of rs x cuts), good_numbers (num x).low (last_number (num x)), (good_number (num x).low, many (end_of rs x cuts) (num x).low end low))

  -- of a loop that is not split
  unsplit_near : (x : List ℕ) → NumbersFit x → ((c : Split) → In c cuts → c.whole ≡ x → ⊥) → IsSaid x (part_of lay x cuts)
  unsplit_near x h none = subst (λ (q : PartText). IsSaid x q) (sym (part_uncut lay cuts x none)) (of (is_parallel_named lay x))
    where
      whole : IsSaid x Whole
      whole = whole_near x h (subst (λ (z : ℤ). unsigned_abs z ≤ 2 ^ 36) (sym (end_uncut lay cuts x none)) (near_last x h))

      by : (o : Option Form) → form_named k.known x ≡ o → IsSaid x (alone_by o)
      by None e = whole
      by (Some f) e =
          let is = counted x f e in
          let z = (num x).low in
          let form : IsGoodForm (counted_from z is.0) = good_counted z is.0 is.1 in
          let span : block_span (counted_from z is.0) (pos 1) [] ≡ exactly (counted_from z is.0) =
          (let up = up_counted z is.0 in λ j. record { lower = counted_from z is.0 ∷ []; upper = up j ∷ [] }) in
          let turn : IsGood (block_span (counted_from z is.0) (pos 1) []) = subst IsGood (sym span) (good_one (counted_from z is.0) (counted_from z is.0) form form) in
          subst (λ (f : Form). IsSaid x (alone_by (Some f))) (sym is.2) (turn, turn, (form, omega arith))

      of : (v : Bool) → IsSaid x (if v then alone_by (form_named k.known x) else Whole)
      of true = by (form_named k.known x) refl
      of false = whole

  module _ (c : Split) (m : In c cuts) (h : NumbersFit c.whole) where
    abbrev part : IsCutOnce lay cuts c
    part = cut_once lay cuts others once c m

    abbrev low : ℤ
    low = (num c.whole).low

    abbrev size : ℕ
    size = c.factor

    all_whole : IsSaid c.whole Whole
    all_whole = whole_near c.whole h (subst (λ (z : ℤ). unsigned_abs z ≤ 2 ^ 36) (sym part.end) (end_near rs c (fits c m) h.0 h.1))

    -- a block, where the outer loop is parallel
    abbrev outer : ℕ → BlockText
    outer s = record { start = counted_from (pos 0) s; length = pos 1; own_limits = []; claim_limits = []; origin = Some (counted_from (pos 0) s); reach = pos 1 }

    block_near : (s : ℕ) → s < 1000 → IsSaid c.whole (Run (blocks_by lay c part.rest (outer s) (num c.whole)))
    block_near s below =
        let one : IsGoodForm (one_of low (pos size) s) = good_times low size s (fits c m).some below in
        let two : IsGoodForm (one_of ((pos size -ℤ pos 1) +ℤ low) (pos size) s) = good_times ((pos size -ℤ pos 1) +ℤ low) size s (fits c m).some below in
        let ends : (limits : List Form) → length limits ≤ 1 → AllByRecursion IsGoodForm limits → IsGood (block_span b.start b.length limits) =
        λ limits few good. subst IsGood (sym (block_is rs c (fits c m) h.0 h.1 s limits)) (good_ends _ _ limits one two few good) in
        (ends b.claim_limits (claimed c.tail).0 (claimed c.tail).1, ends b.own_limits (limited (has_rest c (num c.whole).count)).0 (limited (has_rest c (num c.whole).count)).1, seats)
      where
        b : BlockText
        b = blocks_by lay c part.rest (outer s) (num c.whole)

        limited : (v : Bool) → let limits = with_last [] (if v then Some (last_number (num c.whole)) else None) in (length limits ≤ 1) × AllByRecursion IsGoodForm limits
        limited true = (omega arith, (good_number (last_number (num c.whole)), tt))
        limited false = (omega arith, tt)

        claimed : (tail : Tail) → let limits = with_last [] (elim tail [ Guard ↦ own_last c (num c.whole) | Roundup ↦ None | Shift ↦ own_last c (num c.whole) ]) in
            (length limits ≤ 1) × AllByRecursion IsGoodForm limits
        claimed Guard = limited (has_rest c (num c.whole).count)
        claimed Roundup = (omega arith, tt)
        claimed Shift = limited (has_rest c (num c.whole).count)

        plain : (f : Form) → Some (multiple_from low (factor_of c) (counted_from (pos 0) s)) ≡ Some f → IsGoodForm f
        plain f e =
            let is : multiple_from low (factor_of c) (counted_from (pos 0) s) ≡ f = cc e in
            subst IsGoodForm (sym (block_first rs c (fits c m) h.0 h.1 s []) ∙ is) (good_times low size s (fits c m).some below)

        -- where the piece begins to visit: the first number of the block, or the let of a shifted one
        begins : (tail : Tail) (f : Form) → (elim tail [
          | Guard ↦ option_map (multiple_from low (factor_of c)) (outer s).origin
          | Roundup ↦ option_map (multiple_from low (factor_of c)) (outer s).origin
          | Shift ↦ if int_eq (outer s).length (pos 1) then form_named k.starts c.whole else None
        ]) ≡ Some f → IsGoodForm f
        begins Guard f e = plain f e
        begins Roundup f e = plain f e
        begins Shift f e = found_all (λ (y : List ℕ) (h : Form). IsGoodForm h) k.starts c.whole f starts e

        by_origin : (o : Option Form) → b.origin ≡ o → IsGoodPlace (places_by lay c.whole cuts b.reach o)
        by_origin None e = all_whole.2
        by_origin (Some f) e =
            let end : reach_over c (outer s) (end_of rs c.inner part.rest) ≡ reach_over c (outer s) (last_number (num c.inner)) = ap (reach_over c (outer s)) part.inner_end in
            let near = subst (λ (z : ℤ). unsigned_abs z ≤ 2 ^ 36) (sym end) (reach_near rs c (fits c m) h.0 h.1 (outer s) refl) in
            (begins c.tail f e, few_places b.reach near)

        seats : IsGoodPlace (dimension_by lay c.whole cuts (Run b)).places
        seats = by_origin b.origin refl

    split_near : IsSaid c.whole (part_of lay c.whole cuts)
    split_near =
        let inner = uncut_serial c.inner (inners_serial ls cuts keeps c m) in
        subst (λ (q : PartText). IsSaid c.whole q) (sym (part.part ∙ ap (joined lay c part.rest (uncut lay c.outer)) inner)) (of (is_parallel_named lay c.outer))
      where
        by : (o : Option Form) → form_named k.known c.outer ≡ o → IsSaid c.whole (joined lay c part.rest (alone_by o) Whole)
        by None e = all_whole
        by (Some f) e =
            let is = counted c.outer f e in
            let none : (num c.outer).low ≡ pos 0 = ap (λ (r : Numbers). r.low) (fits c m).outer in
            let form : f ≡ counted_from (pos 0) is.0 = is.2 ∙ ap (λ (z : ℤ). counted_from z is.0) none in
            subst (λ (f : Form). IsSaid c.whole (joined lay c part.rest (alone_by (Some f)) Whole)) (sym form) (block_near is.0 is.1)

        of : (v : Bool) → IsSaid c.whole (joined lay c part.rest (if v then alone_by (form_named k.known c.outer) else Whole) Whole)
        of true = by (form_named k.known c.outer) refl
        of false = all_whole

        uncut_serial : (x : List ℕ) → hits loop_name x (parallel_loops ls) ≡ 0 → uncut lay x ≡ Whole
        uncut_serial x none = ap (λ (b : Bool). if b then alone_by (form_named k.known x) else Whole) (parallel_named ls x ∙ no_loop (parallel_loops ls) x none)

  dimension_near : (x : List ℕ) → In x xs → IsSaid x (part_of lay x cuts)
  dimension_near x m = of (split_or cuts x)
    where
      fit : NumbersFit x
      fit = all_in NumbersFit xs x numbers_fit m

      of : ((c : Split) × In c cuts × (c.whole ≡ x)) ⊎ ((c : Split) → In c cuts → c.whole ≡ x → ⊥) → IsSaid x (part_of lay x cuts)
      of (inl (c, q, e)) = subst (λ (y : List ℕ). IsSaid y (part_of lay y cuts)) e (split_near c q (subst NumbersFit (sym e) fit))
      of (inr none) = unsplit_near x fit none

  pub own_said : AllByRecursion IsGood (claimed_region (dimensions_of g region k))
  own_said = each xs (λ x m. m)
    where
      each : (ys : List (List ℕ)) → ((x : List ℕ) → In x ys → In x xs) → AllByRecursion IsGood (claimed_region (map (dimension_of lay cuts) ys))
      each [] sub = tt
      each (y ∷ ys) sub = ((dimension_near y (sub y (inl refl))).0, each ys (λ x q. sub x (inr q)))

  pub region_said : AllByRecursion IsGood (owned_region (dimensions_of g region k))
  region_said = each xs (λ x m. m)
    where
      each : (ys : List (List ℕ)) → ((x : List ℕ) → In x ys → In x xs) → AllByRecursion IsGood (owned_region (map (dimension_of lay cuts) ys))
      each [] sub = tt
      each (y ∷ ys) sub = ((dimension_near y (sub y (inl refl))).1, each ys (λ x q. sub x (inr q)))

  pub places_said : AllByRecursion IsGoodPlace (own_places (dimensions_of g region k))
  places_said = each xs (λ x m. m)
    where
      each : (ys : List (List ℕ)) → ((x : List ℕ) → In x ys → In x xs) → AllByRecursion IsGoodPlace (own_places (map (dimension_of lay cuts) ys))
      each [] sub = tt
      each (y ∷ ys) sub = ((dimension_near y (sub y (inl refl))).2, each ys (λ x q. sub x (inr q)))
