-- The tests of an update's nest, with any tail, in any order: the loops of its reduction are left out, and the others are those of the variables that it keeps.
use Rattle.std.proofs.Common.{◌≡◌, ℕ, zero, suc, ◌+◌, ◌-◌, ◌<◌, ◌≤◌, Bool, true, false, ◌&&◌, List, [], ◌∷◌, ◌++◌, length, map, take, drop}
use Rattle.std.proofs.Common.{Option, Some, None, refl, sym, ap, ◌∙◌, subst, inl, inr, ◌⊎◌, arith}
use Rattle.std.specs.Prelude.{ℤ, pos, ◌==◌, if◌then◌else◌, slice_get}
use Rattle.std.specs.List.{AllByRecursion, list_any, list_all}
use Rattle.std.proofs.lemmas.List.{length-map}
use Rattle.tree.specs.Term.{Term}
use Rattle.lin.specs.Forms.{Form}
use Rattle.lin.specs.declared.span.Span1.{Span1}
use Rattle.plan.specs.declared.plan.Group.{Group as CodeGroup}
use Rattle.plan.specs.declared.stmt.Places.{Places}
use Rattle.plan.specs.declared.certificate.cert.Claim.{Claim as CodeClaim}
use Rattle.plan.specs.declared.certificate.cert.Need.{Need}
use Rattle.plan.specs.Plan.{Coordinate, Store, Plan}
use Rattle.plan.specs.View.{group_of, plan_of, statement_of}
use Rattle.plan.specs.Lines.{lines, body_line}
use Rattle.plan.specs.Certificate.Certificate.{Claim, Certificate, certificate_of}
use Rattle.meaning.specs.Algorithm.{Algorithm}
use Rattle.meaning.specs.Conditions.{IsAlgorithm}
use Rattle.meaning.specs.Names.{same_name}
use Rattle.soundness.specs.Claims.{In}
use Rattle.soundness.specs.Origins.{Outline}
use Rattle.soundness.specs.Given.{outline_of}
use Rattle.soundness.specs.Obligations.{Binder, Rules}
use Rattle.soundness.specs.Nests.Laws.{domains_of}
use Rattle.soundness.specs.Nests.Tests.{left_of, over_of}
use Rattle.soundness.proofs.Refines.{name_true}
use Rattle.rules.specs.Bounding.Rules.{rules_of}
use Rattle.sched.specs.Schedule.{Schedule}
use Rattle.sched.specs.Legal.{IsLegal}
use Rattle.sched.specs.declared.schedule.Split.{Split}
use Rattle.sched.specs.declared.placing.Loop.{Loop as NestLoop}
use Rattle.sched.specs.declared.numbers.Numbers.{Numbers}
use Rattle.sched.specs.declared.skeleton.Known.{Known}
use Rattle.sched.specs.declared.nest.Turning.{Turning}
use Rattle.sched.specs.Numbers.{numbers_named, last_number, loop_numbers, parallel_loops, piece_counts}
use Rattle.sched.specs.Skeleton.{BodyText, NestText, SkeletonText, nest_turns, variables_at, ranges_at, grid_forms, kept_from}
use Rattle.tails.specs.Maps.{covers}
use Rattle.lower.specs.declared.lowering.Lowered.{Lowered}
use Rattle.sched.specs.Stored.{FormulaText, StoredText}
use Rattle.lower.specs.Stored.{stored_functions, has_large}
use Rattle.regions.specs.Faults.{are_whole}
use Rattle.lower.specs.Faults.{region_fault}
use Rattle.regions.specs.Regions.{bodies_from}
use Rattle.sched.specs.Around.{names_with}
use Rattle.lower.specs.Owning.{IsLaidBy}
use Rattle.sched.specs.Loading.{Loads}
use Rattle.blocks.specs.Blocks.{LayText, lay_over, dimension_of}
use Rattle.blocks.specs.Blocks.{dimensions_of, claimed_region}
use Rattle.blocks.specs.Bodies.{AreCoordinates, IsStore}
use Rattle.sched.specs.Fetches.{Entry as Fetched}
use Rattle.lower.specs.Groups.{HasBody, HasGroups}
use Rattle.completeness.specs.Laws.{AreSplitOnce}
use Rattle.completeness.specs.Parted.{KeepsInner}
use Rattle.completeness.proofs.Halves.{AreOthers}
use Rattle.completeness.proofs.Lanes.{AreOnce}
use Rattle.completeness.proofs.PlainTurns.{hits, itself, turn_name, one_if, hits_some}
use Rattle.completeness.proofs.PureNests.{all_in, loop_name}
use Rattle.completeness.proofs.GuardSums.{left_over}
use Rattle.std.specs.Prelude.{not}
use Rattle.meaning.specs.Algorithm.{Range}
use Rattle.meaning.specs.Conditions.{AreDistinct, IsRange}
use Rattle.soundness.specs.Nests.Tests.{is_reduced}
use Rattle.sched.specs.Skeleton.{range_turning}
use Rattle.tails.specs.Steps.{binder, binds}
use Rattle.tails.specs.Maps.{is_beyond, is_once}
use Rattle.tails.specs.Moves.{is_outer}
use Rattle.tails.specs.Apart.{is_apart}
use Rattle.tails.specs.Updates.{loops_in, pure_steps, forms_in, at_forms, is_parted, is_spread, is_stepped}
use Rattle.sched.specs.Around.{range_names}
use Rattle.soundness.proofs.Refines.{eq_refl}
use Rattle.completeness.proofs.Written.{variables_long}
use Rattle.completeness.proofs.UpdateTurns.{range_name, ranges_hits}
use Rattle.completeness.proofs.BlockRanges.{kept_among, IsLoopTurn, IsRangeTurn, first as first_loops}
use Rattle.completeness.proofs.BlockRanges.{last as last_loops, between, turned, loop_parts, range_parts}
use Rattle.completeness.proofs.PureNests.{all_get}
use Rattle.completeness.proofs.BlockNests.{stored_there, length_append}
use Rattle.completeness.proofs.TailGroups as group
use Rattle.std.specs.Prelude.{nat_lt}
use Rattle.lin.specs.Forms.{is_within_limits}
use Rattle.headline.proofs.Lists.{at_map}
use Rattle.sched.specs.Placing.{is_shifted}
use Rattle.sched.specs.Numbers.{is_too_short}
use Rattle.completeness.proofs.BlockSums.{multiple, pair}
use Rattle.completeness.proofs.TailSteps.{Line, Loop, Block, Pair, is_loop}
use Rattle.completeness.proofs.TailTurns.{keeps_rest, Entry}
use Rattle.completeness.proofs.TailSkeletons.{IsTailNest, AreTails}
use Rattle.completeness.proofs.TailNames.{IsKeptBy, IsLetOf, IsPairLet, IsBlockLet}
use Rattle.completeness.proofs.Served.{roots}
use Rattle.completeness.proofs.TailShapes as shape_of
use Rattle.completeness.proofs.TailTurns.{Woven}
use Rattle.soundness.specs.Nests.Nest.{is_symbol}
use Rattle.soundness.specs.Obligations.{Binder}
use Rattle.completeness.proofs.TailLines.{always}
use Rattle.std.specs.Prelude.{take}
use Rattle.completeness.proofs.UpdateTests.{ReadsIf}
use Rattle.completeness.proofs.BlockNames as old
use Rattle.completeness.proofs.TailNests as nest_of
use Rattle.completeness.proofs.TailSums.{AreSums, sum_forms, LinesFit}
use Rattle.completeness.proofs.TailLines.{lines_of, scoped_kept}
use Rattle.completeness.proofs.TailTests.{covered, once as met_once, kept_outer, pure_are, reducing_are, out_apart, AreOutside, IsOutside, AreGone}
use Rattle.completeness.proofs.BlockKept.{is_kept, left_out, out_beyond, out_free, out_none, AreBare}
use Rattle.completeness.proofs.UpdateTests.{none_if, some_if, near_ranges, parted_coordinates, coordinates_long, take_long}
use Rattle.completeness.proofs.TailRanges.{middle_of, reduced as reduced_loops, IsMiddle, IsFrom}

hits_absent : {A : Type 0} (f : A → List ℕ) (y : List ℕ) (xs : List A) → ((x : A) → In x xs → f x ≡ y → ⊥) → hits f y xs ≡ 0
hits_absent f y [] h = refl
hits_absent f y (x ∷ xs) h = of (same_name (f x) y) refl (hits_absent f y xs (λ z m. h z (inr m)))
  where
    of : (b : Bool) → same_name (f x) y ≡ b → hits f y xs ≡ 0 → one_if b + hits f y xs ≡ 0
    of true e rest = absurd (h x (inl refl) (name_true (f x) y e))
    of false e rest = omega (arith, rest)

-- ---- groups

module _ (a : Algorithm) (sch : Schedule) (l : Lowered) (well : IsAlgorithm a) (legal : IsLegal a sch) (small : has_large (stored_functions a sch) ≡ false)
    (kept : region_fault a (stored_functions a sch) ≡ None) (all : are_whole (stored_functions a sch) ≡ true) (groups : HasGroups a (stored_functions a sch) l) where
  abbrev pub entries : List Fetched
  entries = roots a sch l well legal small kept all groups

  abbrev pub stored : List StoredText
  stored = stored_functions a sch

  abbrev pub made_groups : List CodeGroup
  made_groups = l.plan.groups.items

  abbrev pub items : List CodeClaim
  items = l.certificate.claims.items

  abbrev pub plan : Plan
  plan = plan_of l.plan

  abbrev pub cert : Certificate
  cert = certificate_of l.certificate

  module _ (n first line : ℕ) (g : StoredText) (p : CodeGroup) (claims : List CodeClaim) (needs : List Need) (at : slice_get stored n ≡ Some g) (there : slice_get made_groups n ≡ Some p)
      (h : HasBody a entries n first line g p claims needs) (lined : body_line plan n ≡ line + 1)
      (placed : (j : ℕ) (v : CodeClaim) → slice_get claims j ≡ Some v → slice_get items (first + j) ≡ Some v)
      (alone_here : (j : ℕ) (w : CodeClaim) → slice_get items j ≡ Some w → line < w.line → w.line < line + (lines (statement_of p.body) + 1) → In w claims)
      (laid : IsLaidBy g h.extents h.skeleton) (split_alone : AreSplitOnce g.placed.cuts) (keeps : KeepsInner g.placed.loops g.placed.cuts)
      (long : AllByRecursion (λ c. is_too_short (loop_numbers g.subject.variables g.placed.cuts h.extents) c ≡ false) g.placed.cuts) where
    abbrev pub k : SkeletonText
    k = h.skeleton

    abbrev pub fs : List FormulaText
    fs = h.formulas

    abbrev pub xs : List (List ℕ)
    xs = g.subject.variables

    abbrev pub ls : List NestLoop
    ls = g.placed.loops

    abbrev pub cuts : List Split
    cuts = g.placed.cuts

    abbrev pub rs : List Numbers
    rs = loop_numbers g.subject.variables g.placed.cuts h.extents

    abbrev pub bs : List BodyText
    bs = bodies_from g.changes 0 g.subject.reductions fs

    abbrev pub O : Outline
    O = outline_of plan cert n (group_of p)

    abbrev pub R : Rules
    R = rules_of a plan cert n

    abbrev pub region : List Span1
    region = claimed_region (dimensions_of g h.extents k)

    abbrev pub low : List ℕ → ℤ
    low x = (numbers_named rs x).low

    abbrev pub last : List ℕ → ℤ
    last x = last_number (numbers_named rs x)

    abbrev pub lay : LayText
    lay = lay_over g h.extents k

    abbrev pub grid : List Known
    grid = grid_forms rs 0 (parallel_loops ls)

    abbrev pub claim : List ℕ → Span1
    claim x = (dimension_of lay cuts x).claim

    abbrev pub place : List ℕ → Places
    place x = (dimension_of lay cuts x).places

    abbrev pub others : AreOthers cuts
    others = shape_of.others a sch l well legal small kept all groups n first line g p claims needs at there h lined placed alone_here laid split_alone keeps long

    abbrev pub once : AreOnce cuts
    once = shape_of.once a sch l well legal small kept all groups n first line g p claims needs at there h lined placed alone_here laid split_alone keeps long

    abbrev pub halves : (c : Split) → In c cuts → (x : List ℕ) → In x xs → (x ≡ c.outer → ⊥) × (x ≡ c.inner → ⊥)
    halves = shape_of.halves a sch l well legal small kept all groups n first line g p claims needs at there h lined placed alone_here laid split_alone keeps long

    abbrev pub outers : (c d : Split) → In c cuts → In d cuts → c.outer ≡ d.outer → c ≡ d
    outers = shape_of.outers a sch l well legal small kept all groups n first line g p claims needs at there h lined placed alone_here laid split_alone keeps long

    abbrev pub gone : (c : Split) → In c cuts → (o : NestLoop) → In o ls → c.whole ≡ o.name → ⊥
    gone = shape_of.gone a sch l well legal small kept all groups n first line g p claims needs at there h lined placed alone_here laid split_alone keeps long

    abbrev pub wholes : (c : Split) → In c cuts → In c.whole xs
    wholes = shape_of.wholes a sch l well legal small kept all groups n first line g p claims needs at there h lined placed alone_here laid split_alone keeps long

    abbrev pub shape : AreTails xs bs g.placed others once rs k
    shape = shape_of.shape a sch l well legal small kept all groups n first line g p claims needs at there h lined placed alone_here laid split_alone keeps long

    -- what is bound around a nest
    abbrev around : List Binder
    around = shape_of.around a sch l well legal small kept all groups n first line g p claims needs at there h lined placed alone_here laid split_alone keeps long

    -- ---- an update's nest

    module _ (i : ℕ) (w : NestText) (stands : slice_get k.nests (suc i) ≡ Some w) (ds : List Range) (reduced : (e : Range) → In e ds → In e.variable g.subject.reductions)
        (distinct : AreDistinct (xs ++ range_names ds)) (within : AllByRecursion IsRange ds) (ranged : (shape.nests (suc i) w stands).body.ranges ≡ map range_turning ds)
        (unshifted : AllByRecursion (λ c. is_shifted c ≡ false) cuts) where
      abbrev q : IsTailNest xs bs g.placed others once rs grid (length (piece_counts rs ls)) k.head (suc i) w
      q = shape.nests (suc i) w stands

      abbrev b : BodyText
      b = q.body

      abbrev m0 : ℕ
      m0 = q.next

      abbrev es : List Entry
      es = q.entries

      abbrev us : List Turning
      us = nest_turns b rs ls

      abbrev ts : List Turning
      ts = nest_of.ts a sch l well legal small kept all groups n first line g p claims needs at there h lined placed alone_here laid split_alone keeps long (suc i) w stands ds
          reduced distinct within ranged always (λ j e at_j k. refl)

      abbrev kinds : ℕ → Line
      kinds = nest_of.kinds a sch l well legal small kept all groups n first line g p claims needs at there h lined placed alone_here laid split_alone keeps long (suc i) w stands ds
          reduced distinct within ranged always (λ j e at_j k. refl)

      abbrev lim : ℕ → List Form
      lim = nest_of.lim a sch l well legal small kept all groups n first line g p claims needs at there h lined placed alone_here laid split_alone keeps long (suc i) w stands ds
          reduced distinct within ranged always (λ j e at_j k. refl)

      abbrev kept_names : List (List ℕ)
      kept_names = kept_from b 0 xs

      turns_alone : (y : List ℕ) → hits turn_name y ts ≤ 1
      turns_alone = nest_of.turns_alone a sch l well legal small kept all groups n first line g p claims needs at there h lined placed alone_here laid split_alone keeps long (suc i)
          w stands ds reduced distinct within ranged always (λ j e at_j k. refl)

      part : (j : ℕ) (t : Turning) → slice_get ts j ≡ Some t → is_loop (kinds (m0 + j)) ≡ true → IsLoopTurn b rs ls ds ranged t ⊎ IsRangeTurn b rs ls ds ranged t
      part j t at_j loop = (let r = nest_of.turn_at a sch l well legal small kept all groups n first line g p claims needs at there h lined placed alone_here laid split_alone keeps long
          (suc i) w stands ds reduced distinct within ranged always (λ j e at_j k. refl) j t at_j loop in shape_of.part a sch l well legal small kept all groups n first line g p
          claims needs at there h lined placed alone_here laid split_alone keeps long b ds reduced distinct within ranged r.0 t r.1)

      only : (v : Line) → is_loop v ≡ true → v ≡ Loop
      only Loop e = refl
      only (Block f z) e = absurd (cc e)
      only (Pair f z) e = absurd (cc e)

      is_not_both : {v : Bool} → v ≡ true → v ≡ false → ⊥
      is_not_both e r = (let clash : true ≡ false = sym e ∙ r in cc clash)

      -- no block is shifted
      no_blocks : (j : ℕ) (f : Form) (z : ℤ) → kinds (m0 + j) ≡ Block f z → true ≡ false
      no_blocks j f z e = of (slice_get es j) refl
        where
          of : (o : Option Entry) → slice_get es j ≡ o → true ≡ false
          of None none =
              let place : (m0 + j) - m0 ≡ j = omega arith in
              let loop : kinds (m0 + j) ≡ Loop = ap (λ (o : Option Entry). elim o [ Some v ↦ v.line | None ↦ Loop ]) (ap (slice_get es) place ∙ none) in
              let clash : Loop ≡ Block f z = sym loop ∙ e in
              cc clash
          of (Some v) there_v = by (nest_of.lets a sch l well legal small kept all groups n first line g p claims needs at there h lined placed alone_here laid split_alone keeps long
              (suc i) w stands ds reduced distinct within ranged always (λ j e at_j k. refl) j v.turning (at_map (λ (e : Entry). e.turning) es j v there_v) (ap is_loop e))
            where
              by : (r : IsLetOf xs ls cuts rs others once halves outers gone m0 ts kinds j v.turning)
                  × (IsPairLet xs ls cuts rs others once halves outers gone m0 ts kinds j v.turning r ⊎ IsBlockLet xs ls cuts rs others once halves outers gone m0 ts kinds j v.turning r)
                  × (lim (m0 + j) ≡ []) × (always (m0 + j) ≡ true) → true ≡ false
              by (r, inl p, bare, more) = (let clash = sym p.is ∙ e in cc clash)
              by (r, inr block, bare, more) = sym block.shifted ∙ all_in (λ c. is_shifted c ≡ false) cuts r.split unshifted r.among

      -- ---- the loops of the reduction

      module _ (ms : Loads) (cs : List Coordinate) (e : Term) (stores : IsStore g fs ms (suc i) w (Store 0 (suc i) cs e)) where
        abbrev left : List Coordinate
        left = take (length xs) cs

        abbrev over : List Coordinate
        over = drop (length xs) cs

        abbrev vs : List (Option Form)
        vs = variables_at b 0 xs q.known

        abbrev tail : List (Option Form)
        tail = ranges_at b.ranges q.known

        abbrev names : List (List ℕ)
        names = names_with g.variables g.changes (suc i)

        formula : (f : FormulaText) × (slice_get fs (suc i) ≡ Some f) × AreCoordinates ms names (vs ++ tail) f.at cs
        formula =
            let f = stored_there (slice_get fs (suc i)) stores.2 in
            (f.0, f.1, subst (λ (os : List (Option Form)). AreCoordinates ms names os f.0.at cs) q.forms f.2.at)

        here_vs : length vs ≡ length xs
        here_vs = variables_long b 0 xs q.known

        left_long : length left ≡ length xs
        left_long =
            let many = coordinates_long ms names (vs ++ tail) formula.0.at cs formula.2 in
            let both : length (vs ++ tail) ≡ length vs + length tail = length_append vs tail in
            let one = here_vs in
            take_long (length xs) cs (omega (arith, many, one, both))

        over_reads : ReadsIf m0 ts over (map range_name ds)
        over_reads =
            let rest = parted_coordinates ms vs tail names formula.0.at cs formula.2 in
            let are : AreCoordinates ms rest.0 (ranges_at (map range_turning ds) q.known) rest.1 over =
            subst (λ (m : ℕ). AreCoordinates ms rest.0 (ranges_at (map range_turning ds) q.known) rest.1 (drop m cs)) here_vs
            (subst (λ (rs' : List Turning). AreCoordinates ms rest.0 (ranges_at rs' q.known) rest.1 (drop (length vs) cs)) ranged rest.2) in
            nest_of.reads_over a sch l well legal small kept all groups n first line g p claims needs at there h lined placed alone_here laid split_alone keeps long (suc i) w stands
            ds reduced distinct within ranged always (λ j e at_j k. refl) ms ds (λ e m. m) rest.0 rest.1 over are

        abbrev keep : ℕ → Bool
        keep = is_kept over

        free : (j : ℕ) (t : Turning) → slice_get ts j ≡ Some t → hits itself t.name (range_names ds) ≡ 0 → list_any (is_symbol (m0 + j)) over ≡ false
        free j t at_j none = none_if m0 ts turns_alone j t at_j over (map range_name ds) over_reads (ranges_hits t.name ds ∙ none)

        loop_named : (y : List ℕ) (o : NestLoop) → In o ls → o.name ≡ y → hits itself y (range_names ds) ≡ 0
        loop_named y o mo name = of (hits itself y (range_names ds)) refl
          where
            of : (m : ℕ) → hits itself y (range_names ds) ≡ m → hits itself y (range_names ds) ≡ 0
            of zero r = r
            of (suc m) r =
                let none = shape_of.ranges_away a sch l well legal small kept all groups n first line g p claims needs at there h lined placed alone_here laid split_alone keeps long
                b ds reduced distinct within ranged y (omega (arith, r)) in
                let some : 1 ≤ hits loop_name y ls = subst (λ (y : List ℕ). 1 ≤ hits loop_name y ls) name (hits_some loop_name o ls mo) in
                absurd (omega (arith, none, some))

        let_named : (y : List ℕ) (c : Split) → In c cuts → y ≡ c.whole → hits itself y (range_names ds) ≡ 0
        let_named y c mc name =
            let both = shape_of.both_once a sch l well legal small kept all groups n first line g p claims needs at there h lined placed alone_here laid split_alone keeps long b ds
            reduced distinct within ranged y in
            let some : 1 ≤ hits itself y xs = subst (λ (y : List ℕ). 1 ≤ hits itself y xs) (sym name) (hits_some itself c.whole xs (wholes c mc)) in
            omega (arith, both, some)

        loop_free : (j : ℕ) (t : Turning) → slice_get ts j ≡ Some t → IsLoopTurn b rs ls ds ranged t → list_any (is_symbol (m0 + j)) over ≡ false
        loop_free j t at_j (o, mo, serial, has, is) = free j t at_j (loop_named t.name o mo (ap (λ (v : Turning). v.name) (sym is)))

        range_met : (j : ℕ) (t : Turning) → slice_get ts j ≡ Some t → IsRangeTurn b rs ls ds ranged t → list_any (is_symbol (m0 + j)) over ≡ true
        range_met j t at_j (d, m, is) =
            let name : d.variable ≡ t.name = ap (λ (v : Turning). v.name) (sym is) in
            let some : 1 ≤ hits itself t.name (range_names ds) = subst (λ (y : List ℕ). 1 ≤ hits itself y (range_names ds)) name (shape_of.range_some a sch l well legal small kept all
            groups n first line g p claims needs at there h lined placed alone_here laid split_alone keeps long b ds reduced distinct within ranged ds d m) in
            let same_hits = ranges_hits t.name ds in
            some_if m0 ts turns_alone j t at_j over (map range_name ds) over_reads (omega (arith, some, same_hits))

        kept_turns : (j : ℕ) (e : Entry) → slice_get es j ≡ Some e → ((o : NestLoop) × In o ls × (o.name ≡ e.turning.name)) ⊎ (is_loop e.line ≡ false) → keep (m0 + j) ≡ true
        kept_turns j e at_j = by
          where
            t_at : slice_get ts j ≡ Some e.turning
            t_at = at_map (λ (e : Entry). e.turning) es j e at_j

            by : ((o : NestLoop) × In o ls × (o.name ≡ e.turning.name)) ⊎ (is_loop e.line ≡ false) → keep (m0 + j) ≡ true
            by (inl (o, mo, name)) = ap not (free j e.turning t_at (loop_named e.turning.name o mo name))
            by (inr not_loop) =
                let r = (nest_of.lets a sch l well legal small kept all groups n first line g p claims needs at there h lined placed alone_here laid split_alone keeps long (suc i) w
                stands ds reduced distinct within ranged always (λ j e at_j k. refl) j e.turning t_at (ap is_loop (nest_of.line_at a sch l well legal small kept all groups n first line
                g p claims needs at there h lined placed alone_here laid split_alone keeps long (suc i) w stands ds reduced distinct within ranged always (λ j e at_j k. refl)
                j e at_j) ∙ not_loop)).0 in
                ap not (free j e.turning t_at (let_named e.turning.name r.split r.among r.name))

        abbrev factor_at : ℕ → ℤ
        factor_at = nest_of.factor_at a sch l well legal small kept all groups n first line g p claims needs at there h lined placed alone_here laid split_alone keeps long (suc i) w
            stands ds reduced distinct within ranged keep kept_turns

        abbrev tops_at : ℕ → List Form
        tops_at = nest_of.tops_at a sch l well legal small kept all groups n first line g p claims needs at there h lined placed alone_here laid split_alone keeps long (suc i) w
            stands ds reduced distinct within ranged keep kept_turns

        abbrev owner_at : ℕ → List ℕ
        owner_at = nest_of.owner_at a sch l well legal small kept all groups n first line g p claims needs at there h lined placed alone_here laid split_alone keeps long (suc i) w
            stands ds reduced distinct within ranged keep kept_turns

        abbrev Bounded : ℕ → Turning → Type 0
        Bounded j t = (lim (m0 + j) ≡ []) ⊎ ((c : Split) × In c cuts × (keeps_rest rs c ≡ true) × (t.name ≡ c.inner) × (is_loop (kinds (m0 + j)) ≡ true) × (f : Form)
            × IsKeptBy xs ls cuts rs others once halves outers gone m0 ts kinds c (m0 + j) f × (is_within_limits f ≡ true) × (lim (m0 + j) ≡ f ∷ []))

        bounded : (j : ℕ) (t : Turning) → slice_get ts j ≡ Some t → Bounded j t
        bounded = nest_of.bounded a sch l well legal small kept all groups n first line g p claims needs at there h lined placed alone_here laid split_alone keeps long (suc i) w
            stands ds reduced distinct within ranged keep kept_turns

        lets_kept : (j : ℕ) (t : Turning) → slice_get ts j ≡ Some t → is_loop (kinds (m0 + j)) ≡ false → keep (m0 + j) ≡ true
        lets_kept j t at_j e = (nest_of.lets a sch l well legal small kept all groups n first line g p claims needs at there h lined placed alone_here laid split_alone keeps long
            (suc i) w stands ds reduced distinct within ranged keep kept_turns j t at_j e).3

        ranges_out : (j : ℕ) (t : Turning) → slice_get ts j ≡ Some t → is_loop (kinds (m0 + j)) ≡ true → (i : ℕ) → IsRangeTurn b rs ls ds ranged t → keep (m0 + j) ≡ false
        ranges_out j t at_j loop i r = ap not (range_met j t at_j r)

        gone_kept : AreGone factor_at m0 ts owner_at kinds lim tops_at keep lets_kept kept_names
        gone_kept j t at_j out = of (is_loop (kinds (m0 + j))) refl
          where
            of : (v : Bool) → is_loop (kinds (m0 + j)) ≡ v → hits itself (owner_at j) kept_names ≡ 0
            of false e = absurd (is_not_both (lets_kept j t at_j e) out)
            of true loop = by (part j t at_j loop)
              where
                by : IsLoopTurn b rs ls ds ranged t ⊎ IsRangeTurn b rs ls ds ranged t → hits itself (owner_at j) kept_names ≡ 0
                by (inl o) = absurd (is_not_both (ap not (loop_free j t at_j o)) out)
                by (inr (d, m, is)) =
                    let owner_so : owner_at j ≡ d.variable =
                    ap (λ (o : Option Turning). elim o [ Some t ↦ old.owner_named xs ls cuts rs others once halves outers gone t.name | None ↦ [] ]) at_j
                    ∙ old.owner_foreign xs ls cuts rs others once halves outers gone grid t (shape_of.range_turn a sch l well legal small kept all groups n first line g p claims needs at
                    there h lined placed alone_here laid split_alone keeps long b ds reduced distinct within ranged t (d, m, is)) ∙ ap (λ (v : Turning). v.name) is in
                    ap (λ (y : List ℕ). hits itself y kept_names) owner_so
                    ∙ hits_absent itself d.variable kept_names (λ x mx s. shape_of.range_apart a sch l well legal small kept all groups n first line g p claims needs at there h lined placed
                    alone_here laid split_alone keeps long b ds reduced distinct within ranged d m x (kept_among b 0 xs x mx) (sym s))

        -- its loop has no further upper form, and the forms of the others name other symbols
        range_bare : (j : ℕ) (t : Turning) → slice_get ts j ≡ Some t → IsRangeTurn b rs ls ds ranged t → lim (m0 + j) ≡ []
        range_bare j t at_j (d, m, is) = of (bounded j t at_j)
          where
            of : Bounded j t → lim (m0 + j) ≡ []
            of (inl e) = e
            of (inr (c, mc, rests, name, loop, f, limited, near_f, more)) = absurd (shape_of.range_half a sch l well legal small kept all groups n first line g p claims needs at there h
                lined placed alone_here laid split_alone keeps long b ds reduced distinct within ranged d m c mc (inr (ap (λ (v : Turning). v.name) (sym is) ∙ name)))

        bare_out : AreBare lim keep m0 ts
        bare_out j t at_j out = of (is_loop (kinds (m0 + j))) refl
          where
            of : (v : Bool) → is_loop (kinds (m0 + j)) ≡ v → lim (m0 + j) ≡ []
            of false e = absurd (is_not_both (lets_kept j t at_j e) out)
            of true loop = by (part j t at_j loop)
              where
                by : IsLoopTurn b rs ls ds ranged t ⊎ IsRangeTurn b rs ls ds ranged t → lim (m0 + j) ≡ []
                by (inl o) = absurd (is_not_both (ap not (loop_free j t at_j o)) out)
                by (inr r) = range_bare j t at_j r

        abbrev outs : List Binder
        outs = map binder (left_out lim keep m0 ts)

        -- a loop that is the half of a split is kept
        half_kept : (o : ℕ) (v : Turning) → slice_get ts o ≡ Some v → is_loop (kinds (m0 + o)) ≡ true → (c : Split) → In c cuts → (v.name ≡ c.outer) ⊎ (v.name ≡ c.inner) → keep (m0 + o) ≡ true
        half_kept o v at_o loop c mc half = by (part o v at_o loop)
          where
            by : IsLoopTurn b rs ls ds ranged v ⊎ IsRangeTurn b rs ls ds ranged v → keep (m0 + o) ≡ true
            by (inl r) = ap not (loop_free o v at_o r)
            by (inr (d, m, is)) = absurd (shape_of.range_half a sch l well legal small kept all groups n first line g p claims needs at there h lined placed alone_here laid split_alone
                keeps long b ds reduced distinct within ranged d m c mc (elim half [
                  | inl s ↦ inl (ap (λ (w : Turning). w.name) (sym is) ∙ s)
                  | inr s ↦ inr (ap (λ (w : Turning). w.name) (sym is) ∙ s)
                ]))

        outside : AreOutside kinds lim keep outs m0 ts
        outside j t at_j = (limits_out (bounded j t at_j), line_out (is_loop (kinds (m0 + j))) refl)
          where
            Outer : Form → Type 0
            Outer f = is_outer outs f ≡ true

            limits_out : Bounded j t → AllByRecursion Outer (lim (m0 + j))
            limits_out (inl e) = subst (AllByRecursion Outer) (sym e) tt
            limits_out (inr (c, mc, rests, name, loop, f, limit, near_f, e)) = subst (AllByRecursion Outer) (sym e) (subst Outer (sym limit.is) (by limit.whose), tt)
              where
                not_bound : list_any (binds limit.symbol) outs ≡ false → Outer (left_over (last c.whole) (low c.whole) (pos c.factor) limit.symbol)
                not_bound none = λ i. not (none i) && true

                by : (limit.symbol < m0) ⊎ ((o : ℕ) × (v : Turning) × (slice_get ts o ≡ Some v) × (is_loop (kinds (m0 + o)) ≡ true) × (v.name ≡ c.outer) × (limit.symbol ≡ m0 + o)) →
                    Outer (left_over (last c.whole) (low c.whole) (pos c.factor) limit.symbol)
                by (inl less) = not_bound (out_none lim keep limit.symbol m0 ts less)
                by (inr (o, v, at_o, looping, outer, symbol)) =
                    not_bound (ap (λ (i : ℕ). list_any (binds i) outs) symbol ∙ out_free lim keep (m0 + o) (half_kept o v at_o looping c mc (inl outer)) m0 ts)

            pair_out : (z : ℤ) (s : ℕ) (f : ℤ) (m : ℕ) → list_any (binds s) outs ≡ false → list_any (binds m) outs ≡ false → Outer (pair z s f m)
            pair_out z s f m one two = of (nat_lt s m)
              where
                of : (v : Bool) → list_all (λ t. not (list_any (binds t.symbol) outs)) (if v then multiple s f ∷ multiple m (pos 1) ∷ [] else multiple m (pos 1) ∷ multiple s f ∷ []) ≡ true
                of true = λ i. not (one i) && (not (two i) && true)
                of false = λ i. not (two i) && (not (one i) && true)

            line_out : (v : Bool) → is_loop (kinds (m0 + j)) ≡ v → IsOutside kinds lim keep outs (kinds (m0 + j))
            line_out true loop = subst (IsOutside kinds lim keep outs) (sym (only (kinds (m0 + j)) loop)) tt
            line_out false e = by (nest_of.lets a sch l well legal small kept all groups n first line g p claims needs at there h lined placed alone_here laid split_alone keeps long
                (suc i) w stands ds reduced distinct within ranged keep kept_turns j t at_j e)
              where
                by : (r : IsLetOf xs ls cuts rs others once halves outers gone m0 ts kinds j t)
                    × (IsPairLet xs ls cuts rs others once halves outers gone m0 ts kinds j t r ⊎ IsBlockLet xs ls cuts rs others once halves outers gone m0 ts kinds j t r)
                    × (lim (m0 + j) ≡ []) × (keep (m0 + j) ≡ true) → IsOutside kinds lim keep outs (kinds (m0 + j))
                by (r, inr block, bare, more) = absurd (is_not_both block.shifted (all_in (λ c. is_shifted c ≡ false) cuts r.split unshifted r.among))
                by (r, inl two, bare, more) =
                    let first_out = out_free lim keep (m0 + r.outer_at) (half_kept r.outer_at r.outer r.outer_there r.outer_loop r.split r.among (inl r.outer_name)) m0 ts in
                    let second_out = out_free lim keep (m0 + two.inner_at) (half_kept two.inner_at two.inner two.inner_there two.inner_loop r.split r.among (inr two.inner_name)) m0 ts in
                    subst (IsOutside kinds lim keep outs) (sym two.is) (pair_out (low r.split.whole) (m0 + r.outer_at) (pos r.split.factor) (m0 + two.inner_at) first_out second_out)

        -- each reduction variable's loop runs over its range, in order
        abbrev firsts : List Turning
        firsts = first_loops b rs ls ds ranged

        abbrev lasts : List Turning
        lasts = last_loops b rs ls ds ranged

        abbrev middle : List Turning
        middle = between b rs ls ds ranged

        three : us ≡ firsts ++ (middle ++ lasts)
        three = turned b rs ls ds ranged ∙ joined_twice firsts middle lasts
          where
            joined_twice : (us qs ws : List Turning) → (us ++ qs) ++ ws ≡ us ++ (qs ++ ws)
            joined_twice [] qs ws = refl
            joined_twice (u ∷ us) qs ws = (let rest = joined_twice us qs ws in ap (λ (r : List Turning). u ∷ r) rest)

        middle_range : (j : ℕ) (t : Turning) → slice_get middle j ≡ Some t → IsRangeTurn b rs ls ds ranged t
        middle_range j t at_j = all_get (IsRangeTurn b rs ls ds ranged) middle j t (range_parts b rs ls ds ranged) at_j

        parted : IsMiddle cuts others once rs grid (length (piece_counts rs ls)) firsts middle lasts es
        parted =
            middle_of cuts others once rs grid (length (piece_counts rs ls)) firsts middle lasts es
            (λ j t at_j d md name. (let r = middle_range j t at_j in shape_of.range_half a sch l well legal small kept all groups n first line g p claims needs at there h lined placed
            alone_here laid split_alone keeps long b ds reduced distinct within ranged r.0 r.1 d md (inl (ap (λ (v : Turning). v.name) (sym r.2) ∙ name))))
            (subst (λ (vs : List Turning). Woven cuts others once rs grid (length (piece_counts rs ls)) vs es) three q.woven)

        there_of : (j : ℕ) (t : Turning) → ((e : Entry) × (slice_get es j ≡ Some e) × (e.turning ≡ t)) → slice_get ts j ≡ Some t
        there_of j t (e, at_e, is) = at_map (λ (e : Entry). e.turning) es j e at_e ∙ ap (λ (v : Turning). Some v) is

        from_free : (us' : List Turning) → AllByRecursion (IsLoopTurn b rs ls ds ranged) us' → (j : ℕ) (t : Turning) → slice_get ts j ≡ Some t →
            IsFrom cuts others once rs grid (length (piece_counts rs ls)) us' t → list_any (is_symbol (m0 + j)) over ≡ false
        from_free us' every j t at_j (inl m) = loop_free j t at_j (all_in (IsLoopTurn b rs ls ds ranged) us' t every m)
        from_free us' every j t at_j (inr (d, md, is)) = free j t at_j (let_named t.name d md (ap (λ (v : Turning). v.name) is))

        order : is_reduced R around (Some ds) over (loops_in (lines_of kinds lim m0 ts)) ≡ true
        order =
            reduced_loops kinds lim m0 ts parted.before parted.behind ds over R refl around turns_alone parted.are over_reads meant
            (λ j t at_j loop. (let r = parted.earlier j t at_j in from_free firsts (loop_parts b rs ls ds ranged false) j t (there_of j t (r.0, r.1, r.2)) r.3))
            (λ j t at_j loop. (let r = parted.later j t at_j in
            from_free lasts (loop_parts b rs ls ds ranged true) (length parted.before + (length middle + j)) t
            (there_of (length parted.before + (length middle + j)) t (r.0, r.1, r.2)) r.3)) (near_ranges ds within)
          where
            meant : (j : ℕ) (t : Turning) → slice_get middle j ≡ Some t → (kinds (m0 + (length parted.before + j)) ≡ Loop) × (lim (m0 + (length parted.before + j)) ≡ [])
                × (list_any (is_symbol (m0 + (length parted.before + j))) over ≡ true)
            meant j t at_j =
                let place = length parted.before + j in
                let at_place = there_of place t (parted.entries j t at_j) in
                let range = middle_range j t at_j in
                (loop_so place at_place range, range_bare place t at_place range, range_met place t at_place range)
              where
                loop_so : (place : ℕ) → slice_get ts place ≡ Some t → IsRangeTurn b rs ls ds ranged t → kinds (m0 + place) ≡ Loop
                loop_so place at_place (d, m, is) = of (is_loop (kinds (m0 + place))) refl
                  where
                    of : (v : Bool) → is_loop (kinds (m0 + place)) ≡ v → kinds (m0 + place) ≡ Loop
                    of true loop = only (kinds (m0 + place)) loop
                    of false e =
                        let r = (nest_of.lets a sch l well legal small kept all groups n first line g p claims needs at there h lined placed alone_here laid split_alone keeps long
                        (suc i) w stands ds reduced distinct within ranged always (λ j e at_j k. refl) place t at_place e).0 in
                        absurd (shape_of.range_apart a sch l well legal small kept all groups n first line g p claims needs at there h lined placed alone_here laid split_alone keeps long b
                        ds reduced distinct within ranged d m r.split.whole (wholes r.split r.among) (ap (λ (v : Turning). v.name) (sym is) ∙ r.name))

        -- ---- the tests

        abbrev kept_sums : AreSums factor_at m0 ts owner_at kinds lim tops_at keep kept_names
        kept_sums = nest_of.sums a sch l well legal small kept all groups n first line g p claims needs at there h lined placed alone_here laid split_alone keeps long (suc i) w
            stands ds reduced distinct within ranged keep kept_turns kept_names (λ x m. m)

        facts : LinesFit factor_at m0 ts owner_at kinds lim tops_at keep kept_names
        facts = nest_of.fit_lines a sch l well legal small kept all groups n first line g p claims needs at there h lined placed alone_here laid split_alone keeps long (suc i) w
            stands ds reduced distinct within ranged keep kept_turns ranges_out

        left_reads : (forms_in left ≡ sum_forms factor_at m0 ts owner_at kinds lim tops_at keep kept_names kept_sums) × (at_forms left (map claim xs) ≡ map claim kept_names)
        left_reads = nest_of.reads a sch l well legal small kept all groups n first line g p claims needs at there h lined placed alone_here laid split_alone keeps long (suc i) w
            stands ds reduced distinct within ranged keep kept_turns ms 0 xs (λ x m. m) tail names formula.0.at cs formula.2

        parted_here : is_parted over (lines_of kinds lim m0 ts) (forms_in left) ≡ true
        parted_here =
            let one = out_beyond lim keep (map binder (lines_of kinds lim m0 ts)) m0 ts bare_out in
            let two = out_apart kinds lim keep m0 m0 ts ts outside in
            let three = kept_outer factor_at m0 ts owner_at kinds lim tops_at keep lets_kept kept_names kept_sums gone_kept in
            let r = reducing_are kinds lim over m0 ts lets_kept in
            let v = pure_are kinds lim over m0 ts lets_kept in
            let f = left_reads.0 in
            (λ j. list_all (is_beyond (map binder (lines_of kinds lim m0 ts))) (map binder (r j)) && (list_all (is_apart (map binder (r j))) (map binder (v j)) && list_all (is_outer
            (map binder (r j))) (f j)))
            ∙ (λ j. one j && (two j && three j))

        once_here : is_once (pure_steps over (lines_of kinds lim m0 ts)) (forms_in left) ≡ true
        once_here =
            let v = pure_are kinds lim over m0 ts lets_kept in
            let f = left_reads.0 in
            (λ j. is_once (v j) (f j)) ∙ met_once factor_at m0 ts owner_at kinds lim tops_at keep kept_names facts lets_kept kept_sums (nest_of.low_lines a sch l well legal small kept all
            groups n first line g p claims needs at there h lined placed alone_here laid split_alone keeps long (suc i) w stands ds reduced distinct within ranged keep kept_turns) no_blocks

        covers_here : covers R around (pure_steps over (lines_of kinds lim m0 ts)) (forms_in left) (at_forms left (map claim xs)) ≡ true
        covers_here =
            let v = pure_are kinds lim over m0 ts lets_kept in
            let f = left_reads.0 in
            let c = left_reads.1 in
            (λ j. covers R around (v j) (f j) (c j))
            ∙ covered factor_at m0 ts owner_at kinds lim tops_at keep kept_names facts lets_kept kept_sums (nest_of.low_lines a sch l well legal small kept all groups n first line g p
            claims needs at there h lined placed alone_here laid split_alone keeps long (suc i) w stands ds reduced distinct within ranged keep kept_turns) R around claim
            (nest_of.claimed_all a sch l well legal small kept all groups n first line g p claims needs at there h lined placed alone_here laid split_alone keeps long (suc i) w
            stands ds reduced distinct within ranged keep kept_turns kept_names (λ x m. m))

        module _ (domain : domains_of a g.subject.name (suc i) ≡ Some ds) (c : Claim) (defined : c.definition ≡ suc i) (named_so : same_name (O.setting.buffer_function 0) c.function ≡ true)
            (name : c.function ≡ g.subject.name) (over_region : c.region ≡ region) where
          left_taken : left_of O.setting 0 cs ≡ left
          left_taken = ap (λ (m : ℕ). take m cs) (group.dims a sch l well legal small kept all groups n first line g p claims needs at there h lined placed alone_here laid split_alone keeps
              long)

          over_taken : over_of O.setting 0 cs ≡ over
          over_taken = ap (λ (m : ℕ). drop m cs) (group.dims a sch l well legal small kept all groups n first line g p claims needs at there h lined placed alone_here laid split_alone keeps
              long)

          pub stepped : is_stepped O.setting R (domains_of a) around c (lines_of kinds lim m0 ts) (Store 0 (suc i) cs e) ≡ true
          stepped =
              let one : (c.definition == suc i) ≡ true = ap (λ (m : ℕ). m == suc i) defined ∙ eq_refl (suc i) in
              let left_at = left_taken in
              let over_at = over_taken in
              let domain_is : domains_of a c.function (suc i) ≡ Some ds = ap (λ (x : List ℕ). domains_of a x (suc i)) name ∙ domain in
              let turn : is_reduced R around (domains_of a c.function (suc i)) (over_of O.setting 0 cs) (loops_in (lines_of kinds lim m0 ts)) ≡ true =
              (λ j. is_reduced R around (domain_is j) (over_at j) (loops_in (lines_of kinds lim m0 ts))) ∙ order in
              let scope = scoped_kept kinds lim always m0 ts (nest_of.low_lines a sch l well legal small kept all groups n first line g p claims needs at there h lined placed alone_here
              laid split_alone keeps long (suc i) w stands ds reduced distinct within ranged always (λ j e at_j k. refl)) in
              let parts_so : is_parted (over_of O.setting 0 cs) (lines_of kinds lim m0 ts) (forms_in (left_of O.setting 0 cs)) ≡ true =
              (λ j. is_parted (over_at j) (lines_of kinds lim m0 ts) (forms_in (left_at j))) ∙ parted_here in
              let once_so : is_once (pure_steps (over_of O.setting 0 cs) (lines_of kinds lim m0 ts)) (forms_in (left_of O.setting 0 cs)) ≡ true =
              (λ j. is_once (pure_steps (over_at j) (lines_of kinds lim m0 ts)) (forms_in (left_at j))) ∙ once_here in
              λ j. one j && (named_so j && (turn j && (scope j && (parts_so j && once_so j))))

          pub spread : is_spread O.setting R around c (lines_of kinds lim m0 ts) (Store 0 (suc i) cs e) ≡ true
          spread =
              let left_at = left_taken in
              let over_at = over_taken in
              let whole_region : c.region ≡ map claim xs = over_region ∙ group.own_claim_is a sch l well legal small kept all groups n first line g p claims needs at there h lined placed
              alone_here laid split_alone keeps long in
              let long_so : length (left_of O.setting 0 cs) ≡ length xs = ap length left_at ∙ left_long in
              let wide : length c.region ≡ length xs = ap length whole_region ∙ length-map xs claim in
              let many : (length (left_of O.setting 0 cs) == length c.region) ≡ true = (λ j. long_so j == wide j) ∙ eq_refl (length xs) in
              let all_covered : covers R around (pure_steps (over_of O.setting 0 cs) (lines_of kinds lim m0 ts)) (forms_in (left_of O.setting 0 cs))
              (at_forms (left_of O.setting 0 cs) c.region) ≡ true =
              (λ j. covers R around (pure_steps (over_at j) (lines_of kinds lim m0 ts)) (forms_in (left_at j)) (at_forms (left_at j) (whole_region j))) ∙ covers_here in
              λ j. many j && all_covered j
