-- Where loops are split once, by whatever tails, the regions of claims are within the limits of forms, and those of pieces' own buffers near.
use Rattle.std.proofs.Common.{◌≡◌, ℕ, zero, suc, ◌+◌, ◌*◌, ◌<◌, ◌≤◌, ◌^◌, Bool, true, false, List, [], ◌∷◌, ◌++◌, length, map, Option, Some, None, refl, sym, ap, ◌∙◌, subst, arith, ◌||◌}
use Rattle.std.proofs.Common.{inl, inr, ◌⊎◌}
use Rattle.std.specs.Prelude.{ℤ, pos, ◌+ℤ◌, ◌-ℤ◌, ◌*ℤ◌, if◌then◌else◌, slice_get}
use Rattle.std.specs.List.{AllByRecursion}
use Rattle.std.specs.Int.RustNames.{unsigned_abs}
use Rattle.std.proofs.lemmas.Bool.{le-leb}
use Rattle.std.proofs.lemmas.Int.{ints}
use Rattle.lin.specs.Forms.{Form, number, is_within_limits}
use Rattle.lin.specs.declared.scope.Binding.{Binding}
use Rattle.lin.specs.declared.span.Span1.{Span1}
use Rattle.lin.proofs.TermLemmas.{all_weaker}
use Rattle.bounds.specs.Spans.{numbers}
use Rattle.bounds.proofs.ListSound.{all-append}
use Rattle.meaning.specs.Algorithm.{Algorithm}
use Rattle.meaning.specs.Conditions.{IsAlgorithm}
use Rattle.plan.specs.declared.plan.Group.{Group as CodeGroup}
use Rattle.plan.specs.declared.certificate.cert.Claim.{Claim as CodeClaim}
use Rattle.plan.specs.declared.certificate.cert.Need.{Need}
use Rattle.plan.specs.Plan.{Statement, block}
use Rattle.plan.specs.Lines.{block_lines}
use Rattle.plan.specs.Certificate.Certificate.{Claim, certificate_of, claim_of}
use Rattle.soundness.specs.Obligations.{exactly}
use Rattle.headline.proofs.Lists.{from_map}
use Rattle.sched.specs.Schedule.{Schedule}
use Rattle.sched.specs.Legal.{IsLegal}
use Rattle.sched.specs.declared.schedule.Split.{Split}
use Rattle.sched.specs.declared.schedule.Tail.{Tail}
use Rattle.sched.specs.declared.schedule.Tail.TheVariants.{Guard, Roundup, Shift}
use Rattle.sched.specs.declared.numbers.Extent.{Extent}
use Rattle.sched.specs.declared.numbers.Numbers.{Numbers}
use Rattle.sched.specs.Numbers.{numbers_named, last_number, loop_numbers, parallel_loops}
use Rattle.sched.specs.Standing.{form_named, counted_from, has_rest}
use Rattle.sched.specs.Skeleton.{NestText, SkeletonText, grid_forms}
use Rattle.sched.proofs.Standings.{found_all}
use Rattle.lower.specs.declared.lowering.Lowered.{Lowered}
use Rattle.sched.specs.Stored.{FormulaText, StoredText}
use Rattle.lower.specs.Stored.{stored_functions, has_large}
use Rattle.sched.specs.Around.{grid_scope}
use Rattle.regions.specs.Faults.{are_whole}
use Rattle.lower.specs.Faults.{region_fault}
use Rattle.lower.specs.Owning.{IsLaidBy, IsExtent}
use Rattle.sched.specs.Loading.{Loads}
use Rattle.blocks.specs.Blocks.{LayText, Whole, is_parallel_named, alone_by, lay_over, dimension_by, dimension_of, dimensions_of, owned_region, claimed_region, PartText}
use Rattle.sched.specs.Blocks.{difference}
use Rattle.blocks.specs.Blocks.{BlockText, raised, uncut, joined, blocks_by, Run, block_span, own_last, with_last, part_of, claim_end_of}
use Rattle.blocks.specs.Bodies.{AreNests, first_lines}
use Rattle.regions.specs.Taken.{sites_of, taken_region}
use Rattle.sched.specs.Fetches.{Entry}
use Rattle.blocks.specs.Fetches.{FetchText}
use Rattle.lower.specs.Fetches.{IsPart, AreFetched, fetched_groups, loads_from}
use Rattle.lower.specs.Groups.{HasBody, line_behind, HaveBodies, HasGroups}
use Rattle.lower.proofs.Dividing.{nearest_of_small}
use Rattle.completeness.specs.Owed.{IsNearForm, IsNearSpan, IsWithinSpan, AreClaimsNear}
use Rattle.completeness.proofs.Bodies.{other_at}
use Rattle.completeness.proofs.Bounding.{SpanLimited}
use Rattle.completeness.proofs.FetchForms.{entry_extents}
use Rattle.completeness.proofs.Needed.{taken_limited}
use Rattle.completeness.proofs.Owned.{some_same, same_extents, same_skeleton}
use Rattle.completeness.proofs.GridScope.{number_limited}
use Rattle.completeness.proofs.Served.{roots, made_at}
use Rattle.completeness.proofs.PlainTurns.{hits, one_if}
use Rattle.meaning.specs.Names.{same_name}
use Rattle.soundness.specs.Claims.{In}
use Rattle.soundness.proofs.Refines.{name_refl, name_true}
use Rattle.sched.specs.declared.placing.Loop.{Loop}
use Rattle.sched.specs.declared.skeleton.Known.{Known}
use Rattle.sched.specs.Placing.{has_loop}
use Rattle.lower.proofs.Blocking.{IsSmall, CutFits}
use Rattle.lower.proofs.Covering.{NumbersAre}
use Rattle.lower.proofs.Grids.{parallel_named}
use Rattle.lower.proofs.Owners as owners
use Rattle.completeness.specs.Laws.{AreSplitOnce}
use Rattle.completeness.specs.Parted.{KeepsInner}
use Rattle.completeness.specs.Fitting.{IsSplitOnce}
use Rattle.completeness.proofs.Halves.{AreOthers}
use Rattle.completeness.proofs.Lanes.{AreOnce}
use Rattle.completeness.proofs.VectorLines.{split_once}
use Rattle.completeness.proofs.PureNests.{all_in, loop_name}
use Rattle.completeness.proofs.Searched.{one_of}
use Rattle.completeness.proofs.BlockFacts.{inners_serial}
use Rattle.completeness.proofs.BlockSums.{one_limited}
use Rattle.completeness.proofs.BlockDims.{IsCutOnce, cut_once, part_uncut, claim_uncut}
use Rattle.completeness.proofs.TailEnds.{claim_end_near, block_is}
use Rattle.completeness.proofs.FewLoops.{is_named}
use Rattle.completeness.proofs.FewLines.{stood}

-- ---- own claims

near_number : (z : ℤ) → unsigned_abs z ≤ 2 ^ 39 → IsNearForm (number z)
near_number z h = (number_limited z (omega (arith, h)), h)

near_counted : (z : ℤ) (s : ℕ) → unsigned_abs z ≤ 2 ^ 39 → IsNearForm (counted_from z s)
near_counted z s h = (le-leb (unsigned_abs z) (2 ^ 40) (omega (arith, h)), h)

near_numbers : (low last : ℤ) → unsigned_abs low ≤ 2 ^ 39 → unsigned_abs last ≤ 2 ^ 39 → IsNearSpan (numbers low last)
near_numbers low last h k = ((near_number low h, tt), (near_number last k, tt))

exactly_near : (f : Form) → IsNearForm f → IsNearSpan (exactly f)
exactly_near f h = ((h, tt), (h, tt))

pub no_loop : (ms : List Loop) (x : List ℕ) → hits loop_name x ms ≡ 0 → has_loop ms x ≡ false
no_loop [] x q = refl
no_loop (o ∷ ms) x q = of (same_name o.name x) q (λ r. no_loop ms x r)
  where
    of : (b : Bool) → one_if b + hits loop_name x ms ≡ 0 → (hits loop_name x ms ≡ 0 → has_loop ms x ≡ false) → (b || has_loop ms x) ≡ false
    of true r rest = absurd (omega (arith, r))
    of false r rest = rest (omega (arith, r))

-- one turn of a loop over the grid
pub up_counted : (z : ℤ) (s : ℕ) → raised (counted_from z s) (difference (pos 1) (pos 1)) ≡ counted_from z s
up_counted z s =
    let none : difference (pos 1) (pos 1) ≡ pos 0 = nearest_of_small (pos 1 -ℤ pos 1) (omega (arith, ints)) (omega (arith, ints)) in
    let same_low : pos 0 +ℤ pos 1 *ℤ z ≡ z = omega (arith, ints) in
    ap (raised (counted_from z s)) none ∙ (λ j. counted_from (same_low j) s)

near_one : (z c : ℤ) (s : ℕ) → unsigned_abs z ≤ 2 ^ 39 → unsigned_abs c ≤ 2 ^ 20 → IsNearForm (one_of z c s)
near_one z c s h k = (one_limited z c s (omega (arith, h)) k, h)

-- the forms over the grid count from the first number of their loop
counted_over : (rs : List Numbers) (s : ℕ) (ms : List Loop) → AllByRecursion (λ u. (i : ℕ) × (u.form ≡ counted_from (numbers_named rs u.name).low i)) (grid_forms rs s ms)
counted_over rs s [] = tt
counted_over rs s (m ∷ ms) = ((s, refl), counted_over rs (s + 1) ms)

-- the loop is split by one of these, or by none
pub split_or : (cs : List Split) (x : List ℕ) → ((c : Split) × In c cs × (c.whole ≡ x)) ⊎ ((c : Split) → In c cs → c.whole ≡ x → ⊥)
split_or [] x = inr (λ c m e. absurd m)
split_or (d ∷ cs) x = of (same_name d.whole x) refl (split_or cs x)
  where
    of : (b : Bool) → same_name d.whole x ≡ b → ((c : Split) × In c cs × (c.whole ≡ x)) ⊎ ((c : Split) → In c cs → c.whole ≡ x → ⊥) →
        ((c : Split) × In c (d ∷ cs) × (c.whole ≡ x)) ⊎ ((c : Split) → In c (d ∷ cs) → c.whole ≡ x → ⊥)
    of true e rest = inl (d, inl refl, name_true d.whole x e)
    of false e (inl (c, m, k)) = inl (c, inr m, k)
    of false e (inr none) = inr (λ c m k. by c m k)
      where
        by : (c : Split) → In c (d ∷ cs) → c.whole ≡ x → ⊥
        by c (inl q) k = (let clash : true ≡ false = sym (name_refl d.whole) ∙ ap (same_name d.whole) (ap (λ (y : Split). y.whole) (sym q) ∙ k) ∙ e in cc clash)
        by c (inr q) k = none c q k

module _ (g : StoredText) (region : List Extent) (k : SkeletonText) (laid : IsLaidBy g region k) (narrow : length g.subject.variables ≤ 3) (alone : AreSplitOnce g.placed.cuts)
    (keeps : KeepsInner g.placed.loops g.placed.cuts)
    (known : k.known ≡ grid_forms (loop_numbers g.subject.variables g.placed.cuts region) 0 (parallel_loops g.placed.loops)) where
  abbrev xs : List (List ℕ)
  xs = g.subject.variables

  abbrev ls : List Loop
  ls = g.placed.loops

  abbrev cuts : List Split
  cuts = g.placed.cuts

  abbrev rs : List Numbers
  rs = loop_numbers xs cuts region

  abbrev lay : LayText
  lay = lay_over g region k

  abbrev num : List ℕ → Numbers
  num x = numbers_named rs x

  -- what a piece owns of a dimension, and what its claims speak of, by what of the loop belongs to it
  abbrev IsNear : List ℕ → PartText → Type 0
  IsNear x q = IsNearSpan (dimension_by lay x cuts q).claim × IsNearSpan (dimension_by lay x cuts q).own

  abbrev others : AreOthers cuts
  others = (is_named g region k laid narrow alone).apart

  abbrev once : AreOnce cuts
  once = split_once cuts alone

  abbrev fits : (c : Split) → In c cuts → CutFits rs c
  fits c m = all_in (CutFits rs) cuts c (owners.cuts g region k laid) m

  abbrev NumbersFit : List ℕ → Type 0
  NumbersFit x = IsSmall (num x) × (0 < (num x).count)

  numbers_fit : AllByRecursion NumbersFit xs
  numbers_fit = of xs region (owners.numbers g region k laid) laid.extents
    where
      of : (ys : List (List ℕ)) (es : List Extent) → NumbersAre rs ys es → AllByRecursion IsExtent es → AllByRecursion NumbersFit ys
      of [] es q r = tt
      of (y ∷ ys) [] q r = absurd q
      of (y ∷ ys) (e ∷ es) q r = (
        subst (λ (z : Numbers). IsSmall z × (0 < z.count)) (sym q.0) (record { from = r.0.from; to = r.0.to; few = r.0.few }, r.0.some),
        of ys es q.1 r.1,
      )

  -- a form over the grid counts from the loop's first number
  counted : (x : List ℕ) (f : Form) → form_named k.known x ≡ Some f → (i : ℕ) × (f ≡ counted_from (num x).low i)
  counted x f e = found_all (λ (y : List ℕ) (h : Form). (i : ℕ) × (h ≡ counted_from (numbers_named rs y).low i)) k.known x f
      (subst (λ (us : List Known). AllByRecursion (λ u. (i : ℕ) × (u.form ≡ counted_from (numbers_named rs u.name).low i)) us) (sym known) (counted_over rs 0 (parallel_loops ls))) e

  near_low : (x : List ℕ) → NumbersFit x → unsigned_abs (num x).low ≤ 2 ^ 32
  near_low x h = (let from = h.0.from in let to = h.0.to in omega (arith, ints, from, to))

  near_last : (x : List ℕ) → NumbersFit x → unsigned_abs (last_number (num x)) ≤ 2 ^ 36
  near_last x h = (let from = h.0.from in let to = h.0.to in let few = h.0.few in let some = h.1 in omega (arith, ints, from, to, few, some))

  -- all numbers of a loop
  whole_near : (x : List ℕ) → NumbersFit x → unsigned_abs (claim_end_of rs x cuts) ≤ 2 ^ 36 → IsNear x Whole
  whole_near x h end =
      let low = near_low x h in
      let last = near_last x h in
      (near_numbers (num x).low (claim_end_of rs x cuts) (omega (arith, low)) (omega (arith, end)), near_numbers (num x).low (last_number (num x)) (omega (arith, low)) (omega (arith, last)))

  -- of a loop that is not split
  unsplit_near : (x : List ℕ) → NumbersFit x → ((c : Split) → In c cuts → c.whole ≡ x → ⊥) → IsNear x (part_of lay x cuts)
  unsplit_near x h none = subst (λ (q : PartText). IsNear x q) (sym (part_uncut lay cuts x none)) (of (is_parallel_named lay x))
    where
      whole : IsNear x Whole
      whole = whole_near x h (subst (λ (z : ℤ). unsigned_abs z ≤ 2 ^ 36) (sym (claim_uncut lay cuts x none)) (near_last x h))

      by : (o : Option Form) → form_named k.known x ≡ o → IsNear x (alone_by o)
      by None e = whole
      by (Some f) e =
          let is = counted x f e in
          let z = (num x).low in
          let near = near_counted z is.0 (let low = near_low x h in omega (arith, low)) in
          let span : block_span (counted_from z is.0) (pos 1) [] ≡ exactly (counted_from z is.0) =
          (let up = up_counted z is.0 in λ j. record { lower = counted_from z is.0 ∷ []; upper = up j ∷ [] }) in
          let turn : IsNearSpan (block_span (counted_from z is.0) (pos 1) []) = subst IsNearSpan (sym span) (exactly_near (counted_from z is.0) near) in
          subst (λ (f : Form). IsNear x (alone_by (Some f))) (sym is.1) (turn, turn)

      of : (v : Bool) → IsNear x ((if v then alone_by (form_named k.known x) else Whole))
      of true = by (form_named k.known x) refl
      of false = whole

  module _ (c : Split) (m : In c cuts) (h : NumbersFit c.whole) where
    abbrev part : IsCutOnce lay cuts c
    part = cut_once lay cuts others once c m

    abbrev low : ℤ
    low = (num c.whole).low

    abbrev size : ℕ
    size = c.factor

    all_whole : IsNear c.whole Whole
    all_whole = whole_near c.whole h (subst (λ (z : ℤ). unsigned_abs z ≤ 2 ^ 36) (sym part.claim) (claim_end_near rs c (fits c m) h.0 h.1))

    -- a block, where the outer loop is parallel
    abbrev outer : ℕ → BlockText
    outer s = record { start = counted_from (pos 0) s; length = pos 1; own_limits = []; claim_limits = []; origin = Some (counted_from (pos 0) s); reach = pos 1 }

    block_near : (s : ℕ) → IsNear c.whole (Run (blocks_by lay c part.rest (outer s) (num c.whole)))
    block_near s =
        let b : BlockText = blocks_by lay c part.rest (outer s) (num c.whole) in
        let wide = (fits c m).few in
        let near = near_low c.whole h in
        let small : unsigned_abs (pos size) ≤ 2 ^ 20 = omega (arith, ints, wide) in
        let one : IsNearForm (one_of low (pos size) s) = near_one low (pos size) s (omega (arith, near)) small in
        let two : IsNearForm (one_of ((pos size -ℤ pos 1) +ℤ low) (pos size) s) = near_one ((pos size -ℤ pos 1) +ℤ low) (pos size) s (far low size near wide) small in
        let ends : (limits : List Form) → AllByRecursion IsNearForm limits → IsNearSpan (block_span b.start b.length limits) =
        λ limits k. subst IsNearSpan (sym (block_is rs c (fits c m) h.0 h.1 s limits)) ((one, tt), (two, k)) in
        (ends b.claim_limits (claimed c.tail), ends b.own_limits (limited (has_rest c (num c.whole).count)))
      where
        far : (z : ℤ) (q : ℕ) → unsigned_abs z ≤ 2 ^ 32 → q ≤ 1024 → unsigned_abs ((pos q -ℤ pos 1) +ℤ z) ≤ 2 ^ 39
        far z q one two = omega (arith, ints, one, two)

        limited : (v : Bool) → AllByRecursion IsNearForm (with_last [] (if v then Some (last_number (num c.whole)) else None))
        limited true = (let last = near_last c.whole h in (near_number (last_number (num c.whole)) (omega (arith, last)), tt))
        limited false = tt

        claimed : (tail : Tail) → AllByRecursion IsNearForm (with_last [] (elim tail [ Guard ↦ own_last c (num c.whole) | Roundup ↦ None | Shift ↦ own_last c (num c.whole) ]))
        claimed Guard = limited (has_rest c (num c.whole).count)
        claimed Roundup = tt
        claimed Shift = limited (has_rest c (num c.whole).count)

    split_near : IsNear c.whole (part_of lay c.whole cuts)
    split_near =
        let inner = uncut_serial c.inner (inners_serial ls cuts keeps c m) in
        subst (λ (q : PartText). IsNear c.whole q) (sym (part.part ∙ ap (joined lay c part.rest (uncut lay c.outer)) inner)) (of (is_parallel_named lay c.outer))
      where
        by : (o : Option Form) → form_named k.known c.outer ≡ o → IsNear c.whole (joined lay c part.rest (alone_by o) Whole)
        by None e = all_whole
        by (Some f) e =
            let is = counted c.outer f e in
            let none : (num c.outer).low ≡ pos 0 = ap (λ (r : Numbers). r.low) (fits c m).outer in
            let form : f ≡ counted_from (pos 0) is.0 = is.1 ∙ ap (λ (z : ℤ). counted_from z is.0) none in
            subst (λ (f : Form). IsNear c.whole (joined lay c part.rest (alone_by (Some f)) Whole)) (sym form) (block_near is.0)

        of : (v : Bool) → IsNear c.whole (joined lay c part.rest (if v then alone_by (form_named k.known c.outer) else Whole) Whole)
        of true = by (form_named k.known c.outer) refl
        of false = all_whole

        uncut_serial : (x : List ℕ) → hits loop_name x (parallel_loops ls) ≡ 0 → uncut lay x ≡ Whole
        uncut_serial x none = ap (λ (b : Bool). if b then alone_by (form_named k.known x) else Whole) (parallel_named ls x ∙ no_loop (parallel_loops ls) x none)

  dimension_near : (x : List ℕ) → In x xs → IsNear x (part_of lay x cuts)
  dimension_near x m = of (split_or cuts x)
    where
      fit : NumbersFit x
      fit = all_in NumbersFit xs x numbers_fit m

      of : ((c : Split) × In c cuts × (c.whole ≡ x)) ⊎ ((c : Split) → In c cuts → c.whole ≡ x → ⊥) → IsNear x (part_of lay x cuts)
      of (inl (c, q, e)) = subst (λ (y : List ℕ). IsNear y (part_of lay y cuts)) e (split_near c q (subst NumbersFit (sym e) fit))
      of (inr none) = unsplit_near x fit none

  pub own_near : AllByRecursion IsNearSpan (claimed_region (dimensions_of g region k))
  own_near = each xs (λ x m. m)
    where
      each : (ys : List (List ℕ)) → ((x : List ℕ) → In x ys → In x xs) → AllByRecursion IsNearSpan (claimed_region (map (dimension_of lay cuts) ys))
      each [] sub = tt
      each (y ∷ ys) sub = ((dimension_near y (sub y (inl refl))).0, each ys (λ x q. sub x (inr q)))

  pub region_near : AllByRecursion IsNearSpan (owned_region (dimensions_of g region k))
  region_near = each xs (λ x m. m)
    where
      each : (ys : List (List ℕ)) → ((x : List ℕ) → In x ys → In x xs) → AllByRecursion IsNearSpan (owned_region (map (dimension_of lay cuts) ys))
      each [] sub = tt
      each (y ∷ ys) sub = ((dimension_near y (sub y (inl refl))).1, each ys (λ x q. sub x (inr q)))

-- ---- all claims

pub span_within : (x : Span1) → IsNearSpan x → IsWithinSpan x
span_within x h =
    (all_weaker IsNearForm (λ f. is_within_limits f ≡ true) (λ f k. k.0) x.lower h.0, all_weaker IsNearForm (λ f. is_within_limits f ≡ true) (λ f k. k.0) x.upper h.1)

-- what is asked of a claim
abbrev IsGood : CodeClaim → Type 0
IsGood v = AllByRecursion IsWithinSpan v.region × (v.buffer ≡ 0 → AllByRecursion IsNearSpan v.region)

own_good : (g : StoredText) (fs : List FormulaText) (r : List Span1) (ms : Loads) (c line d : ℕ) (ns : List NestText) (ys : List Statement) (cs : List CodeClaim) → AllByRecursion IsNearSpan r →
    AreNests g fs r ms c line d ns ys cs → AllByRecursion IsGood cs
own_good g fs r ms c line d [] ys cs near h = subst (AllByRecursion IsGood) (sym h.1) tt
own_good g fs r ms c line d (n ∷ ns) ys [] near h = absurd h
own_good g fs r ms c line d (n ∷ ns) ys (w ∷ cs) near h =
    let over : r ≡ w.region = sym h.here.claims.over in
    let here : AllByRecursion IsNearSpan w.region = subst (AllByRecursion IsNearSpan) over near in (
      (all_weaker IsNearSpan IsWithinSpan span_within w.region here, (λ zero_buffer. here)),
      own_good g fs r (ms ++ (g.subject.name, c) ∷ []) (c + 1) (line + block_lines (block h.first)) (d + 1) ns h.others cs near h.behind,
    )

module _ (a : Algorithm) (sch : Schedule) (l : Lowered) (well : IsAlgorithm a) (legal : IsLegal a sch) (small : has_large (stored_functions a sch) ≡ false)
    (kept : region_fault a (stored_functions a sch) ≡ None) (all : are_whole (stored_functions a sch) ≡ true) (groups : HasGroups a (stored_functions a sch) l)
    (once : (n : ℕ) (u : StoredText) → slice_get (stored_functions a sch) n ≡ Some u → IsSplitOnce u) where
  abbrev gs : List StoredText
  gs = stored_functions a sch

  abbrev ps : List CodeGroup
  ps = l.plan.groups.items

  abbrev entries : List Entry
  entries = roots a sch l well legal small kept all groups

  module _ (n first line : ℕ) (g : StoredText) (q : CodeGroup) (claims : List CodeClaim) (needs : List Need) (h : HasBody a entries n first line g q claims needs) where
    abbrev grid : List Binding
    grid = grid_scope h.skeleton.grid

    abbrev listed : List (ℕ × Entry)
    listed = fetched_groups h.formulas n 0 entries

    part_within : (j : ℕ) (x : ℕ × Entry) → slice_get listed j ≡ Some x → (f : FetchText) → IsPart (sites_of a g h.formulas h.skeleton) grid x.1 f → AllByRecursion IsWithinSpan f.region
    part_within j x there f part =
        let other = other_at h.formulas n 0 entries j x there in
        let extents = entry_extents a sch l well legal small kept all groups other.place x.1 other.at in
        let limited : AllByRecursion SpanLimited (taken_region grid part.taken.sites 0 x.1.1.region) =
        taken_limited a g h.formulas h.skeleton x.1.0.subject.name part.taken.sites part.taken.called grid 0 x.1.1.region extents in
        subst (AllByRecursion IsWithinSpan) (sym part.taken.region) (all_weaker SpanLimited IsWithinSpan (λ s k. k) (taken_region grid part.taken.sites 0 x.1.1.region) limited)

    fetched_good : (d b own_line : ℕ) (xs : List (ℕ × Entry)) (ts : List FetchText) (ws : List Need) (cs : List CodeClaim) → 1 ≤ b →
        AreFetched (sites_of a g h.formulas h.skeleton) grid n b own_line xs ts ws cs → ((j : ℕ) (x : ℕ × Entry) → slice_get xs j ≡ Some x → slice_get listed (d + j) ≡ Some x) →
        AllByRecursion IsGood cs
    fetched_good d b own_line [] [] [] [] some is there = tt
    fetched_good d b own_line [] [] [] (w ∷ cs) some is there = absurd is
    fetched_good d b own_line [] [] (w ∷ ws) cs some is there = absurd is
    fetched_good d b own_line [] (f ∷ ts) ws cs some is there = absurd is
    fetched_good d b own_line (x ∷ xs) [] ws cs some is there = absurd is
    fetched_good d b own_line (x ∷ xs) (f ∷ ts) [] cs some is there = absurd is
    fetched_good d b own_line (x ∷ xs) (f ∷ ts) (w ∷ ws) [] some is there = absurd is
    fetched_good d b own_line (x ∷ xs) (f ∷ ts) (w ∷ ws) (v ∷ cs) some is there =
        let claimed = is.0.claimed in
        let buffered = claimed.buffered in
        let within = subst (AllByRecursion IsWithinSpan) (sym claimed.over) (part_within (d + 0) x (there 0 x refl) f is.1) in (
          (within, (λ own. absurd (omega (arith, some, buffered, own)))),
          fetched_good (d + 1) (b + 1) (own_line + 2) xs ts ws cs (omega (arith, some)) is.2
              (λ j y e. let next : d + suc j ≡ (d + 1) + j = omega arith in ap (slice_get listed) (sym next) ∙ there (suc j) y e),
        )

    body_good : AllByRecursion IsNearSpan (claimed_region (dimensions_of g h.extents h.skeleton)) → AllByRecursion IsGood claims
    body_good own =
        let b = h.body in
        let k = h.skeleton in
        let one = fetched_good 0 1 (line + first_lines k) listed b.fetches needs b.fetched (omega arith) b.fetching (λ j x e. let none : 0 + j ≡ j = omega arith in ap (slice_get listed) none ∙ e) in
        let two = own_good g h.formulas (claimed_region (dimensions_of g h.extents k)) (loads_from first b.fetches) (first + length b.fetches) (line + first_lines k + 2 * length b.fetches) 0 k.nests
        b.nests b.own own b.nested in
        subst (AllByRecursion IsGood) (sym b.claimed) (all-append IsGood b.fetched b.own one two)

  -- what a piece of the group owns, and its own claims
  pub group_near : (n : ℕ) (q : CodeGroup) (there : slice_get ps n ≡ Some q) → let me = made_at a sch l well legal small kept all groups n q there in
      AllByRecursion IsNearSpan (claimed_region (dimensions_of me.stored me.laid.region me.laid.skeleton))
      × AllByRecursion IsNearSpan (owned_region (dimensions_of me.stored me.laid.region me.laid.skeleton))
  group_near n q there =
      let me = made_at a sch l well legal small kept all groups n q there in
      let mine = once n me.stored me.is in
      let r = stood a sch l well legal small kept all groups once n q there in (
        own_near me.stored me.laid.region me.laid.skeleton me.laid_by r.narrow mine.once mine.inners r.short.known,
        region_near me.stored me.laid.region me.laid.skeleton me.laid_by r.narrow mine.once mine.inners r.short.known,
      )

  body_near : (i : ℕ) (g : StoredText) (p : CodeGroup) → slice_get gs i ≡ Some g → slice_get ps i ≡ Some p → (n first line : ℕ) (claims : List CodeClaim) (needs : List Need) →
      (h : HasBody a entries n first line g p claims needs) → AllByRecursion IsNearSpan (claimed_region (dimensions_of g h.extents h.skeleton))
  body_near i g p at theirs n first line claims needs h =
      let me = made_at a sch l well legal small kept all groups i p theirs in
      let stored : me.stored ≡ g = some_same me.stored g (sym me.is ∙ at) in
      let extents : me.laid.region ≡ h.extents = same_extents a sch l well legal small kept all groups i p me.laid h.extents theirs me.found h.region in
      let skeleton : me.laid.skeleton ≡ h.skeleton =
      same_skeleton a sch l well legal small kept all groups i g me.laid h.formulas h.extents h.skeleton at me.found h.defined extents h.laid in
      subst (λ (y : SkeletonText). AllByRecursion IsNearSpan (claimed_region (dimensions_of g h.extents y))) skeleton
      (subst (λ (es : List Extent). AllByRecursion IsNearSpan (claimed_region (dimensions_of g es me.laid.skeleton))) extents
      (subst (λ (y : StoredText). AllByRecursion IsNearSpan (claimed_region (dimensions_of y me.laid.region me.laid.skeleton))) stored (group_near i p theirs).0))

  bodies_good : (n c line : ℕ) (hs : List StoredText) (qs : List CodeGroup) (claims : List CodeClaim) (needs : List Need) → HaveBodies a entries n c line hs qs claims needs →
      ((i : ℕ) (g : StoredText) (p : CodeGroup) → slice_get hs i ≡ Some g → slice_get qs i ≡ Some p → (m first at_line : ℕ) (own : List CodeClaim) (theirs : List Need) →
      (h : HasBody a entries m first at_line g p own theirs) → AllByRecursion IsNearSpan (claimed_region (dimensions_of g h.extents h.skeleton))) → AllByRecursion IsGood claims
  bodies_good n c line [] [] claims needs h every = subst (AllByRecursion IsGood) (sym h.0) tt
  bodies_good n c line [] (p ∷ qs) claims needs h every = absurd h
  bodies_good n c line (g ∷ hs) [] claims needs h every = absurd h
  bodies_good n c line (g ∷ hs) (p ∷ qs) claims needs h every =
      let one = body_good n c line g p h.own_claims h.own_needs h.here (every 0 g p refl refl n c line h.own_claims h.own_needs h.here) in
      let rest = bodies_good (n + 1) (c + length h.own_claims) (line_behind line p) hs qs h.other_claims h.other_needs h.behind (λ i u q at there. every (suc i) u q at there) in
      subst (AllByRecursion IsGood) (sym h.claimed) (all-append IsGood h.own_claims h.other_claims one rest)

  at_each : {A : Type 0} (P : A → Type 0) (ys : List A) (i : ℕ) (x : A) → AllByRecursion P ys → slice_get ys i ≡ Some x → P x
  at_each P [] i x h e = absurd (cc e)
  at_each P (y ∷ ys) zero x h e = subst P (some_same y x e) h.0
  at_each P (y ∷ ys) (suc i) x h e = at_each P ys i x h.1 e

  pub claims_near : AreClaimsNear (certificate_of l.certificate)
  claims_near i k at =
      let x = from_map claim_of l.certificate.claims.items i k at in
      let every = bodies_good 0 0 4 gs ps l.certificate.claims.items l.certificate.needs.items (groups.bodies all)
      (λ j g p there theirs m first line claims needs h. body_near j g p there theirs m first line claims needs h) in
      let good : IsGood x.0 = at_each IsGood l.certificate.claims.items i x.0 every x.1 in
      subst (λ (c : Claim). AllByRecursion IsWithinSpan c.region × (c.buffer ≡ 0 → AllByRecursion IsNearSpan c.region)) (sym x.2) good
