-- A dimension of which no loop is parallel belongs to each piece whole: its buffer and the claims on it have all its numbers, and those behind them that its blocks reach.
use Rattle.std.proofs.Common.{◌≡◌, ℕ, zero, suc, ◌+◌, ◌*◌, ◌<◌, ◌≤◌, Bool, true, false, List, [], ◌∷◌, Some, None, refl, sym, ap, ◌∙◌, subst, inl, inr, arith}
use Rattle.std.specs.Prelude.{ℤ, ◌-◌, ◌≤ℤ◌, pos, ◌+ℤ◌, ◌-ℤ◌, if◌then◌else◌, slice_get}
use Rattle.std.specs.List.{AllByRecursion}
use Rattle.std.proofs.lemmas.Int.{ints}
use Rattle.lin.specs.Forms.{number}
use Rattle.lin.specs.declared.span.Span1.{Span1}
use Rattle.bounds.specs.Spans.{numbers}
use Rattle.plan.specs.declared.plan.Group.{Group as CodeGroup}
use Rattle.plan.specs.declared.stmt.Places.{Places}
use Rattle.plan.specs.declared.stmt.Places.TheVariants.{From}
use Rattle.plan.specs.declared.certificate.cert.Claim.{Claim as CodeClaim}
use Rattle.plan.specs.declared.certificate.cert.Need.{Need}
use Rattle.plan.specs.Plan.{Plan}
use Rattle.plan.specs.View.{plan_of, statement_of}
use Rattle.plan.specs.Lines.{lines, body_line}
use Rattle.meaning.specs.Algorithm.{Algorithm}
use Rattle.meaning.specs.Names.{same_name}
use Rattle.meaning.specs.Conditions.{IsAlgorithm}
use Rattle.soundness.specs.Claims.{In}
use Rattle.soundness.proofs.Refines.{name_true}
use Rattle.headline.proofs.Regions.{at_in}
use Rattle.sched.specs.Schedule.{Schedule}
use Rattle.sched.specs.Legal.{IsLegal}
use Rattle.sched.specs.declared.schedule.Split.{Split}
use Rattle.sched.specs.declared.placing.Loop.{Loop}
use Rattle.sched.specs.declared.numbers.Extent.{Extent}
use Rattle.sched.specs.declared.numbers.Numbers.{Numbers}
use Rattle.sched.specs.Placing.{is_parallel}
use Rattle.sched.specs.Numbers.{numbers_named, last_number, loop_numbers, parallel_loops}
use Rattle.sched.proofs.Rooting.{HaveDimensions, IsHeld}
use Rattle.sched.proofs.Arranging.{LoopFits, SplitFits}
use Rattle.lower.specs.declared.lowering.Lowered.{Lowered}
use Rattle.sched.specs.Stored.{StoredText}
use Rattle.lower.specs.Stored.{stored_functions, has_large}
use Rattle.regions.specs.Faults.{are_whole}
use Rattle.lower.specs.Faults.{region_fault}
use Rattle.sched.specs.Bounded.{whole}
use Rattle.blocks.specs.Blocks.{dimension_of, lay_over}
use Rattle.lower.specs.Owning.{IsLaidBy}
use Rattle.lower.specs.Groups.{HasBody, HasGroups}
use Rattle.lower.proofs.Blocking.{IsSmall, CutFits}
use Rattle.lower.proofs.Owners as owners
use Rattle.completeness.specs.Laws.{AreSplitOnce}
use Rattle.completeness.specs.Parted.{KeepsInner}
use Rattle.completeness.specs.Blocked.{is_tailed}
use Rattle.completeness.specs.Placed.{GoesOn}
use Rattle.completeness.proofs.RegionBounds.{IsEnded}
use Rattle.completeness.proofs.Served.{roots}
use Rattle.completeness.proofs.PureNests.{all_in, all_get, loop_name}
use Rattle.completeness.proofs.PlainTurns.{one_if, hits}
use Rattle.completeness.proofs.StoreLists.{numbers_at}
use Rattle.completeness.proofs.BlockDims.{top, top_low, top_high}
use Rattle.completeness.proofs.TailDims.{end_of_all, all_of}
use Rattle.completeness.proofs.StoreShapes as nests_of

-- no parallel loop of this name
none_hit : (ls : List Loop) (x : List ℕ) → ((o : Loop) → In o ls → is_parallel o ≡ true → o.name ≡ x → ⊥) → hits loop_name x (parallel_loops ls) ≡ 0
none_hit [] x none = refl
none_hit (l ∷ ls) x none = of (is_parallel l) refl (none_hit ls x (λ o m. none o (inr m)))
  where
    by : (v : Bool) → same_name l.name x ≡ v → is_parallel l ≡ true → hits loop_name x (parallel_loops ls) ≡ 0 → one_if v + hits loop_name x (parallel_loops ls) ≡ 0
    by true e p rest = absurd (none l (inl refl) p (name_true l.name x e))
    by false e p rest = (let zero_so = rest in omega (arith, zero_so))

    of : (v : Bool) → is_parallel l ≡ v → hits loop_name x (parallel_loops ls) ≡ 0 → hits loop_name x (if v then l ∷ parallel_loops ls else parallel_loops ls) ≡ 0
    of true p rest = by (same_name l.name x) refl p rest
    of false p rest = rest

dimension_at : (dim : List ℕ → ℕ) (d : ℕ) (xs : List (List ℕ)) → HaveDimensions dim d xs → (j : ℕ) (x : List ℕ) → slice_get xs j ≡ Some x → dim x ≡ d + j
dimension_at dim d [] h j x at = absurd (cc at)
dimension_at dim d (y ∷ xs) h zero x at =
    let none : d ≡ d + 0 = omega arith in
    let is : y ≡ x = cc at in
    ap dim (sym is) ∙ h.0 ∙ none
dimension_at dim d (y ∷ xs) h (suc j) x at = (let next : (d + 1) + j ≡ d + suc j = omega arith in dimension_at dim (d + 1) xs h.1 j x at ∙ next)

-- ---- groups

module _ (a : Algorithm) (sch : Schedule) (l : Lowered) (well : IsAlgorithm a) (legal : IsLegal a sch) (small : has_large (stored_functions a sch) ≡ false)
    (kept : region_fault a (stored_functions a sch) ≡ None) (all : are_whole (stored_functions a sch) ≡ true) (groups : HasGroups a (stored_functions a sch) l) where
  abbrev gs : List StoredText
  gs = stored_functions a sch

  abbrev items : List CodeClaim
  items = l.certificate.claims.items

  abbrev plan : Plan
  plan = plan_of l.plan

  module _ (n first line : ℕ) (g : StoredText) (p : CodeGroup) (claims : List CodeClaim) (needs : List Need) (at : slice_get gs n ≡ Some g) (there : slice_get l.plan.groups.items n ≡ Some p)
      (h : HasBody a (roots a sch l well legal small kept all groups) n first line g p claims needs) (lined : body_line plan n ≡ line + 1)
      (placed : (j : ℕ) (v : CodeClaim) → slice_get claims j ≡ Some v → slice_get items (first + j) ≡ Some v)
      (alone_here : (j : ℕ) (w : CodeClaim) → slice_get items j ≡ Some w → line < w.line → w.line < line + (lines (statement_of p.body) + 1) → In w claims)
      (laid : IsLaidBy g h.extents h.skeleton) (split_alone : AreSplitOnce g.placed.cuts) (keeps : KeepsInner g.placed.loops g.placed.cuts) where
    abbrev xs : List (List ℕ)
    xs = g.subject.variables

    abbrev ls : List Loop
    ls = g.placed.loops

    abbrev cuts : List Split
    cuts = g.placed.cuts

    abbrev rs : List Numbers
    rs = loop_numbers xs cuts h.extents

    abbrev place_named : List ℕ → Places
    place_named x = (dimension_of (lay_over g h.extents h.skeleton) cuts x).places

    abbrev claim_named : List ℕ → Span1
    claim_named x = (dimension_of (lay_over g h.extents h.skeleton) cuts x).claim

    module _ (j : ℕ) (x : List ℕ) (at_x : slice_get xs j ≡ Some x) (apart : (o : Loop) → In o ls → is_parallel o ≡ true → o.dimension ≡ j → ⊥)
        (ended : AllByRecursion IsEnded h.extents) where
      abbrev dim : List ℕ → ℕ
      dim = (owners.arranged g h.extents h.skeleton laid).dim

      -- no loop of a name of this dimension is parallel
      none_of : (y : List ℕ) → dim y ≡ j → hits loop_name y (parallel_loops ls) ≡ 0
      none_of y same_dimension =
          let r = owners.arranged g h.extents h.skeleton laid in
          none_hit ls y (λ o m parallel name. apart o m parallel ((all_in (LoopFits r.rs r.w r.dim g.placed.used) ls o r.loops m).is.dimension ∙ ap dim name ∙ same_dimension))

      here : dim x ≡ j
      here = (let none : 0 + j ≡ j = omega arith in dimension_at dim 0 xs (owners.arranged g h.extents h.skeleton laid).dimensions j x at_x ∙ none)

      -- the dimension has these numbers, and perhaps more behind them
      abbrev IsReached : List ℕ → Extent → Type 0
      IsReached y e =
          (e.low ≡ (numbers_named rs y).low) × ((numbers_named rs y).count ≤ e.count) × ((e.low +ℤ pos e.count -ℤ pos 1) ≤ℤ pos 4294967296) × (place_named y ≡ From (number e.low) e.count)
          × (claim_named y ≡ whole e)

      last_here : last_number (numbers_named rs x) ≤ℤ pos 2147483647
      last_here =
          let e = numbers_at rs xs h.extents (owners.numbers g h.extents h.skeleton laid) j x at_x in
          subst (λ (r : Numbers). last_number r ≤ℤ pos 2147483647) (sym e.2) (all_get IsEnded h.extents j e.0 ended e.1)

      cut_dims : (c : Split) → In c cuts → c.whole ≡ x → (e : Extent) × IsReached c.whole e
      cut_dims c m is =
          let r = owners.arranged g h.extents h.skeleton laid in
          let none = none_of c.outer ((all_in (SplitFits r.rs r.w r.b r.dim g.placed.used) cuts c r.cuts m).along.outer ∙ ap dim is ∙ here) in
          let d = nests_of.dim_split a sch l well legal small kept all groups n first line g p claims needs at there h lined placed alone_here laid split_alone keeps c m none in
          let fits = nests_of.fits a sch l well legal small kept all groups n first line g p claims needs at there h lined placed alone_here laid split_alone keeps c m in
          let fit = nests_of.fit_of a sch l well legal small kept all groups n first line g p claims needs at there h lined placed alone_here laid split_alone keeps c.whole
          (nests_of.wholes a sch l well legal small kept all groups n first line g p claims needs at there h lined placed alone_here laid split_alone keeps c m) in
          let last_so : last_number (numbers_named rs c.whole) ≤ℤ pos 2147483647 = subst (λ (y : List ℕ). last_number (numbers_named rs y) ≤ℤ pos 2147483647) (sym is) last_here in
          let w = whole_split c fits fit.0 fit.1 last_so in
          let e : Extent = record { low = (numbers_named rs c.whole).low; count = all_of rs c fits fit.0 fit.1 } in
          (e, (refl, w.0, w.2, d.1, d.0 ∙ ap (numbers (numbers_named rs c.whole).low) (sym w.1)))
        where
          -- all blocks together have the loop's numbers
          whole_split : (c : Split) (fits : CutFits rs c) (fit : IsSmall (numbers_named rs c.whole)) (some : 0 < (numbers_named rs c.whole).count) →
              last_number (numbers_named rs c.whole) ≤ℤ pos 2147483647 →
              ((numbers_named rs c.whole).count ≤ all_of rs c fits fit some)
              × ((numbers_named rs c.whole).low +ℤ pos (all_of rs c fits fit some) -ℤ pos 1 ≡ end_of_all rs c fits fit some)
              × (((numbers_named rs c.whole).low +ℤ pos (all_of rs c fits fit some) -ℤ pos 1) ≤ℤ pos 4294967296)
          whole_split c fits fit some last_so = of (is_tailed rs c) refl
            where
              own : Numbers
              own = numbers_named rs c.whole

              t : ℕ
              t = top own.count c.factor

              farther : (z : ℤ) → z ≤ℤ pos 2147483647 → z ≤ℤ pos 4294967296
              farther z le = omega (arith, ints, le)

              regrouped : (z : ℤ) (p w : ℕ) → z +ℤ pos (p + w) -ℤ pos 1 ≡ z +ℤ (pos p +ℤ (pos w -ℤ pos 1))
              regrouped z p w = omega (arith, ints)

              short : (z : ℤ) (n p w : ℕ) → 0 < n → p ≤ n - 1 → w ≤ 1024 → (z +ℤ pos n -ℤ pos 1) ≤ℤ pos 2147483647 → (z +ℤ pos (p + w) -ℤ pos 1) ≤ℤ pos 4294967296
              short z n p w more le wide few = omega (arith, ints, more, le, wide, few)

              bare_last : (own.low +ℤ pos (t * c.factor + c.factor) -ℤ pos 1) ≤ℤ pos 4294967296
              bare_last = short own.low own.count (t * c.factor) c.factor some (top_low own.count c.factor some fits.some) fits.few last_so

              of : (v : Bool) → is_tailed rs c ≡ v →
                  (own.count ≤ (if v then own.count else t * c.factor + c.factor))
                  × (own.low +ℤ pos (if v then own.count else t * c.factor + c.factor) -ℤ pos 1 ≡ (if v then last_number own else (own.low +ℤ (pos (t * c.factor) +ℤ (pos c.factor -ℤ pos 1)))))
                  × ((own.low +ℤ pos (if v then own.count else t * c.factor + c.factor) -ℤ pos 1) ≤ℤ pos 4294967296)
              of true e = (omega arith, refl, farther (last_number own) last_so)
              of false e = (top_high own.count c.factor some fits.some, regrouped own.low (t * c.factor) c.factor, bare_last)

      farther : (z : ℤ) → z ≤ℤ pos 2147483647 → z ≤ℤ pos 4294967296
      farther z le = omega (arith, ints, le)

      reached : (e : Extent) × IsReached x e
      reached = elim (all_in (IsHeld ls cuts) xs x (owners.arranged g h.extents h.skeleton laid).variables (at_in xs j x at_x)) [
        | inl o ↦
            (let d = nests_of.dim_loop a sch l well legal small kept all groups n first line g p claims needs at there h lined placed alone_here laid split_alone keeps x (at_in xs j x at_x)
            (none_of x here) (o.0, o.1, o.2) in
            (record { low = (numbers_named rs x).low; count = (numbers_named rs x).count }, (refl, omega arith, farther (last_number (numbers_named rs x)) last_here, d.1, d.0)))
        | inr c ↦ subst (λ (y : List ℕ). (e : Extent) × IsReached y e) c.2 (cut_dims c.0 c.1 c.2)
      ]

      -- as the buffer and the claims have it
      pub whole_dimension : (z : Extent) → slice_get h.extents j ≡ Some z → (y : Extent) × GoesOn z y × (place_named x ≡ From (number y.low) y.count) × (claim_named x ≡ whole y)
      whole_dimension z at_z =
          let e = numbers_at rs xs h.extents (owners.numbers g h.extents h.skeleton laid) j x at_x in
          let same_z : e.0 ≡ z = (let some : Some e.0 ≡ Some z = sym e.1 ∙ at_z in cc some) in
          let r = reached in
          let low : r.0.low ≡ z.low = r.1.0 ∙ ap (λ (q : Numbers). q.low) e.2 ∙ ap (λ (w : Extent). w.low) same_z in
          let count : z.count ≤ r.0.count = subst (λ (w : ℕ). w ≤ r.0.count) (ap (λ (q : Numbers). q.count) e.2 ∙ ap (λ (w : Extent). w.count) same_z) r.1.1 in
          (r.0, record { low = low; count = count; last = r.1.2 }, r.1.3, r.1.4)
