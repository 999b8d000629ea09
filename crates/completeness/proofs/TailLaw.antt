-- What the claims of nests owe, of functions whose loops are split once, with any tail, in any order, is shown.
use Rattle.std.proofs.Common.{◌≡◌, ℕ, suc, ◌+◌, ◌-◌, ◌<◌, ◌≤◌, Bool, true, false, ◌&&◌, ◌||◌, List, [], ◌∷◌, ◌++◌, length, map, take, drop}
use Rattle.std.proofs.Common.{Option, Some, None, refl, sym, ap, ◌∙◌, subst, inl, inr, arith}
use Rattle.std.specs.Prelude.{ℤ, ◌==◌, if◌then◌else◌, slice_get}
use Rattle.std.specs.List.{AllByRecursion, list_any, list_all}
use Rattle.tree.specs.Term.{Term}
use Rattle.lin.specs.Forms.{Form}
use Rattle.lin.specs.declared.span.Span1.{Span1}
use Rattle.plan.specs.declared.plan.Group.{Group as CodeGroup}
use Rattle.plan.specs.declared.stmt.Places.{Places}
use Rattle.plan.specs.declared.certificate.cert.Claim.{Claim as CodeClaim}
use Rattle.plan.specs.declared.certificate.cert.Need.{Need}
use Rattle.plan.specs.Plan.{At, Coordinate, Statement, Store, Empty, Then, Plan}
use Rattle.plan.specs.View.{group_of, plan_of, statement_of}
use Rattle.plan.specs.Lines.{lines, body_line}
use Rattle.plan.specs.Certificate.Certificate.{Claim, Certificate, certificate_of}
use Rattle.meaning.specs.Algorithm.{Algorithm}
use Rattle.meaning.specs.Conditions.{IsAlgorithm}
use Rattle.meaning.specs.Names.{same_name}
use Rattle.soundness.specs.Claims.{In, updates}
use Rattle.soundness.specs.Origins.{Outline}
use Rattle.soundness.specs.Given.{outline_of}
use Rattle.soundness.specs.Obligations.{Binder, Known as KnownHere, Rules, has_form, is_form, goes_on}
use Rattle.soundness.specs.Shown.{Nests}
use Rattle.soundness.specs.Nests.Laws.{domains_of}
use Rattle.soundness.specs.Nests.Tests.{left_of, over_of, plain_nests}
use Rattle.soundness.proofs.Refines.{name_refl}
use Rattle.rules.specs.Bounding.Rules.{rules_of}
use Rattle.sched.specs.Schedule.{Schedule}
use Rattle.sched.specs.Legal.{IsLegal}
use Rattle.sched.specs.declared.schedule.Split.{Split}
use Rattle.sched.specs.declared.placing.Loop.{Loop as NestLoop}
use Rattle.sched.specs.declared.numbers.Numbers.{Numbers}
use Rattle.sched.specs.declared.skeleton.Known.{Known}
use Rattle.sched.specs.declared.skeleton.Step.{Step}
use Rattle.sched.specs.declared.nest.Turning.{Turning}
use Rattle.sched.specs.Numbers.{loop_numbers, parallel_loops, piece_counts}
use Rattle.sched.specs.Standing.{form_named}
use Rattle.sched.specs.Skeleton.{BodyText, NestText, SkeletonText, is_missing, variables_at, ranges_at, grid_forms, kept_from}
use Rattle.tails.specs.Steps.{spine_of}
use Rattle.tails.specs.Maps.{covers}
use Rattle.tails.specs.Apart.{index_form, form_of}
use Rattle.tails.specs.Nests.{makes_by}
use Rattle.lower.specs.declared.lowering.Lowered.{Lowered}
use Rattle.sched.specs.Stored.{FormulaText, StoredText}
use Rattle.lower.specs.Stored.{stored_functions, has_large}
use Rattle.regions.specs.Faults.{are_whole}
use Rattle.lower.specs.Faults.{region_fault}
use Rattle.regions.specs.Regions.{bodies_from}
use Rattle.sched.specs.Around.{names_with}
use Rattle.lower.specs.Owning.{IsLaidBy}
use Rattle.sched.specs.Loading.{Loads}
use Rattle.blocks.specs.Blocks.{LayText, lay_over, dimension_of}
use Rattle.blocks.specs.Blocks.{dimensions_of, claimed_region, own_places}
use Rattle.sched.specs.Bodies.{first_left, other_lefts}
use Rattle.blocks.specs.Bodies.{AreCoordinates, IsStore}
use Rattle.sched.specs.Fetches.{Entry as Fetched}
use Rattle.blocks.specs.Fetches.{Claims}
use Rattle.lower.specs.Groups.{HasBody, HasGroups}
use Rattle.completeness.specs.Laws.{AreSplitOnce}
use Rattle.completeness.specs.Parted.{KeepsInner}
use Rattle.completeness.specs.Nested.{SayYes, TakeSplit}
use Rattle.completeness.proofs.Halves.{AreOthers}
use Rattle.completeness.proofs.Lanes.{AreOnce}
use Rattle.completeness.proofs.Owned.{some_same}
use Rattle.completeness.proofs.PureNests.{index_at}
use Rattle.meaning.specs.Conditions.{AreDistinct}
use Rattle.sched.specs.Skeleton.{range_turning}
use Rattle.sched.specs.Around.{range_names}
use Rattle.completeness.proofs.BlockNests.{stored_there}
use Rattle.completeness.proofs.TailGroups as group
use Rattle.sched.specs.Numbers.{is_too_short}
use Rattle.rules.specs.Bounding.Scopes.{most_symbols}
use Rattle.completeness.proofs.BlockNames.{LeafOf}
use Rattle.completeness.proofs.TailSteps.{Line, is_loop, steps_of}
use Rattle.completeness.proofs.TailSkeletons.{IsTailNest, AreTails}
use Rattle.completeness.proofs.Served.{roots}
use Rattle.completeness.proofs.TailShapes as shape_of
use Rattle.completeness.proofs.TailLines.{always}
use Rattle.std.specs.Prelude.{take}
use Rattle.completeness.proofs.PureNests.{all_slices}
use Rattle.completeness.proofs.TailNests as nest_of
use Rattle.completeness.proofs.Courses.{begin_of}
use Rattle.completeness.proofs.TailSums.{course, AreSums, Each, sum_forms, LinesFit}
use Rattle.tails.specs.Stored.{is_pure, stored_by}
use Rattle.tails.specs.Nests.{makes_split}
use Rattle.lin.specs.Search.{is_empty}
use Rattle.std.specs.Option.{option_map}
use Rattle.soundness.specs.Obligations.{places_of}
use Rattle.completeness.proofs.NestWalk.{down, IsRest, Holds}
use Rattle.completeness.proofs.ClaimedNests.{claim_is, own_buffer, updating}
use Rattle.completeness.proofs.BlockNests.{take_all}
use Rattle.completeness.proofs.BlockFacts.{all_kept}
use Rattle.completeness.proofs.LoopMoves.{true_end}
use Rattle.completeness.proofs.TailLines.{lines_of, spine_is, first_steps}
use Rattle.completeness.proofs.TailTests.{IsPlaced, IsPlacedSum, places_there, around_apart, covered}
use Rattle.tails.specs.Apart.{is_apart}
use Rattle.tails.specs.Steps.{along}

-- ---- groups

module _ (a : Algorithm) (sch : Schedule) (l : Lowered) (well : IsAlgorithm a) (legal : IsLegal a sch) (small : has_large (stored_functions a sch) ≡ false)
    (kept : region_fault a (stored_functions a sch) ≡ None) (all : are_whole (stored_functions a sch) ≡ true) (groups : HasGroups a (stored_functions a sch) l) where
  abbrev pub entries : List Fetched
  entries = roots a sch l well legal small kept all groups

  abbrev pub stored : List StoredText
  stored = stored_functions a sch

  abbrev pub made_groups : List CodeGroup
  made_groups = l.plan.groups.items

  abbrev pub items : List CodeClaim
  items = l.certificate.claims.items

  abbrev pub plan : Plan
  plan = plan_of l.plan

  abbrev pub cert : Certificate
  cert = certificate_of l.certificate

  module _ (n first line : ℕ) (g : StoredText) (p : CodeGroup) (claims : List CodeClaim) (needs : List Need) (at : slice_get stored n ≡ Some g) (there : slice_get made_groups n ≡ Some p)
      (h : HasBody a entries n first line g p claims needs) (lined : body_line plan n ≡ line + 1)
      (placed : (j : ℕ) (v : CodeClaim) → slice_get claims j ≡ Some v → slice_get items (first + j) ≡ Some v)
      (alone_here : (j : ℕ) (w : CodeClaim) → slice_get items j ≡ Some w → line < w.line → w.line < line + (lines (statement_of p.body) + 1) → In w claims)
      (laid : IsLaidBy g h.extents h.skeleton) (split_alone : AreSplitOnce g.placed.cuts) (keeps : KeepsInner g.placed.loops g.placed.cuts)
      (long : AllByRecursion (λ c. is_too_short (loop_numbers g.subject.variables g.placed.cuts h.extents) c ≡ false) g.placed.cuts) where
    abbrev pub k : SkeletonText
    k = h.skeleton

    abbrev pub fs : List FormulaText
    fs = h.formulas

    abbrev pub xs : List (List ℕ)
    xs = g.subject.variables

    abbrev pub ls : List NestLoop
    ls = g.placed.loops

    abbrev pub cuts : List Split
    cuts = g.placed.cuts

    abbrev pub rs : List Numbers
    rs = loop_numbers g.subject.variables g.placed.cuts h.extents

    abbrev pub bs : List BodyText
    bs = bodies_from g.changes 0 g.subject.reductions fs

    abbrev pub O : Outline
    O = outline_of plan cert n (group_of p)

    abbrev pub R : Rules
    R = rules_of a plan cert n

    abbrev pub places : List Places
    places = own_places (dimensions_of g h.extents k)

    abbrev pub region : List Span1
    region = claimed_region (dimensions_of g h.extents k)

    abbrev pub lay : LayText
    lay = lay_over g h.extents k

    abbrev pub grid : List Known
    grid = grid_forms rs 0 (parallel_loops ls)

    abbrev pub claim : List ℕ → Span1
    claim x = (dimension_of lay cuts x).claim

    abbrev pub place : List ℕ → Places
    place x = (dimension_of lay cuts x).places

    abbrev pub others : AreOthers cuts
    others = shape_of.others a sch l well legal small kept all groups n first line g p claims needs at there h lined placed alone_here laid split_alone keeps long

    abbrev pub once : AreOnce cuts
    once = shape_of.once a sch l well legal small kept all groups n first line g p claims needs at there h lined placed alone_here laid split_alone keeps long

    abbrev pub halves : (c : Split) → In c cuts → (x : List ℕ) → In x xs → (x ≡ c.outer → ⊥) × (x ≡ c.inner → ⊥)
    halves = shape_of.halves a sch l well legal small kept all groups n first line g p claims needs at there h lined placed alone_here laid split_alone keeps long

    abbrev pub outers : (c d : Split) → In c cuts → In d cuts → c.outer ≡ d.outer → c ≡ d
    outers = shape_of.outers a sch l well legal small kept all groups n first line g p claims needs at there h lined placed alone_here laid split_alone keeps long

    abbrev pub gone : (c : Split) → In c cuts → (o : NestLoop) → In o ls → c.whole ≡ o.name → ⊥
    gone = shape_of.gone a sch l well legal small kept all groups n first line g p claims needs at there h lined placed alone_here laid split_alone keeps long

    abbrev pub wholes : (c : Split) → In c cuts → In c.whole xs
    wholes = shape_of.wholes a sch l well legal small kept all groups n first line g p claims needs at there h lined placed alone_here laid split_alone keeps long

    abbrev pub shape : AreTails xs bs g.placed others once rs k
    shape = shape_of.shape a sch l well legal small kept all groups n first line g p claims needs at there h lined placed alone_here laid split_alone keeps long

    -- what is bound around a nest
    abbrev around : List Binder
    around = shape_of.around a sch l well legal small kept all groups n first line g p claims needs at there h lined placed alone_here laid split_alone keeps long

    distinct_xs : AreDistinct (xs ++ range_names [])
    distinct_xs = subst AreDistinct (no_more xs) (shape_of.distinct_here a sch l well legal small kept all groups n first line g p claims needs at there h lined placed alone_here laid
        split_alone keeps long)
      where
        no_more : (ys : List (List ℕ)) → ys ≡ ys ++ []
        no_more [] = refl
        no_more (y ∷ ys) = ap (λ (zs : List (List ℕ)). y ∷ zs) (no_more ys)

    ranged_first : (w : NestText) (stands : slice_get k.nests 0 ≡ Some w) → (shape.nests 0 w stands).body.ranges ≡ map range_turning []
    ranged_first w stands = group.bare_ranges a sch l well legal small kept all groups n first line g p claims needs at there h lined placed alone_here laid split_alone keeps long
        (shape.nests 0 w stands).body (shape.nests 0 w stands).at

    -- ---- the pure definition's nest

    module _ (w : NestText) (stands : slice_get k.nests 0 ≡ Some w) where
      abbrev q : IsTailNest xs bs g.placed others once rs grid (length (piece_counts rs ls)) k.head 0 w
      q = shape.nests 0 w stands

      abbrev b : BodyText
      b = q.body

      abbrev m0 : ℕ
      m0 = q.next

      abbrev ts : List Turning
      ts = nest_of.ts a sch l well legal small kept all groups n first line g p claims needs at there h lined placed alone_here laid split_alone keeps long 0 w stands [] (λ e m.
          absurd m) distinct_xs tt (ranged_first w stands) always (λ j e at_j k. refl)

      abbrev kinds : ℕ → Line
      kinds = nest_of.kinds a sch l well legal small kept all groups n first line g p claims needs at there h lined placed alone_here laid split_alone keeps long 0 w stands [] (λ e
          m. absurd m) distinct_xs tt (ranged_first w stands) always (λ j e at_j k. refl)

      abbrev lim : ℕ → List Form
      lim = nest_of.lim a sch l well legal small kept all groups n first line g p claims needs at there h lined placed alone_here laid split_alone keeps long 0 w stands [] (λ e m.
          absurd m) distinct_xs tt (ranged_first w stands) always (λ j e at_j k. refl)

      abbrev factor_at : ℕ → ℤ
      factor_at = nest_of.factor_at a sch l well legal small kept all groups n first line g p claims needs at there h lined placed alone_here laid split_alone keeps long 0 w stands
          [] (λ e m. absurd m) distinct_xs tt (ranged_first w stands) always (λ j e at_j k. refl)

      abbrev tops_at : ℕ → List Form
      tops_at = nest_of.tops_at a sch l well legal small kept all groups n first line g p claims needs at there h lined placed alone_here laid split_alone keeps long 0 w stands [] (λ
          e m. absurd m) distinct_xs tt (ranged_first w stands) always (λ j e at_j k. refl)

      abbrev owner_at : ℕ → List ℕ
      owner_at = nest_of.owner_at a sch l well legal small kept all groups n first line g p claims needs at there h lined placed alone_here laid split_alone keeps long 0 w stands []
          (λ e m. absurd m) distinct_xs tt (ranged_first w stands) always (λ j e at_j k. refl)

      none_b : b.missing ≡ []
      none_b = group.none_missing_first a sch l well legal small kept all groups n first line g p claims needs at there h lined placed alone_here laid split_alone keeps long b q.at

      kept_all_names : kept_from b 0 xs ≡ xs
      kept_all_names = all_kept b none_b 0 xs

      among : (x : List ℕ) → In x xs → In x (kept_from b 0 xs)
      among x m = subst (In x) (sym kept_all_names) m

      few_heads : length k.grid + length (shape_of.head_lets a sch l well legal small kept all groups n first line g p claims needs at there h lined placed alone_here laid split_alone keeps
          long).lets ≤ m0
      few_heads = nest_of.few_heads a sch l well legal small kept all groups n first line g p claims needs at there h lined placed alone_here laid split_alone keeps long 0 w stands [] (λ e
          m. absurd m) distinct_xs tt (ranged_first w stands) always (λ j e at_j k. refl)

      apart : list_all (is_apart (along (lines_of kinds lim m0 ts))) around ≡ true
      apart =
          let is = ap length shape.grid in
          let least = q.low in
          around_apart kinds lim m0 ts k.grid (shape_of.head_lets a sch l well legal small kept all groups n first line g p claims needs at there h lined placed alone_here laid split_alone
          keeps long).lets few_heads (shape_of.head_below a sch l well legal small kept all groups n first line g p claims needs at there h lined placed alone_here laid split_alone
          keeps long m0 (omega (arith, least)))

      -- few symbols
      short : m0 + length ts ≤ most_symbols
      short =
          let one = group.few_loops a sch l well legal small kept all groups n first line g p claims needs at there h lined placed alone_here laid split_alone keeps long ts
          (all_slices (λ t. In t.name (group.leaf_names a sch l well legal small kept all groups n first line g p claims needs at there h lined placed alone_here laid split_alone keeps
          long)) ts named_so) (nest_of.turns_alone a sch l well legal small kept all groups n first line g p claims needs at there h lined placed alone_here laid split_alone
          keeps long 0 w stands [] (λ e m. absurd m) distinct_xs tt (ranged_first w stands) always (λ j e at_j k. refl)) in
          let two = q.first refl in
          let three = group.few_pieces a sch l well legal small kept all groups n first line g p claims needs at there h lined placed alone_here laid split_alone keeps long in
          let four = shape_of.few_head a sch l well legal small kept all groups n first line g p claims needs at there h lined placed alone_here laid split_alone keeps long in
          omega (arith, one, two, three, four)
        where
          named_so : (j : ℕ) (t : Turning) → slice_get ts j ≡ Some t → In t.name (group.leaf_names a sch l well legal small kept all groups n first line g p claims needs at there h lined
              placed alone_here laid split_alone keeps long)
          named_so j t at_j = of (is_loop (kinds (m0 + j))) refl
            where
              leaf_in : (y : List ℕ) → LeafOf xs ls cuts rs others once halves outers gone y → In y (group.leaf_names a sch l well legal small kept all groups n first line g p claims needs
                  at there h lined placed alone_here laid split_alone keeps long)
              leaf_in y leaf = group.leaf_among a sch l well legal small kept all groups n first line g p claims needs at there h lined placed alone_here laid split_alone keeps long y leaf

              of : (v : Bool) → is_loop (kinds (m0 + j)) ≡ v → In t.name (group.leaf_names a sch l well legal small kept all groups n first line g p claims needs at there h lined placed
                  alone_here laid split_alone keeps long)
              of true loop =
                  let r = nest_of.turn_at a sch l well legal small kept all groups n first line g p claims needs at there h lined placed alone_here laid split_alone keeps long 0 w
                  stands [] (λ e m. absurd m) distinct_xs tt (ranged_first w stands) always (λ j e at_j k. refl) j t at_j loop in
                  elim (shape_of.part a sch l well legal small kept all groups n first line g p claims needs at there h lined placed alone_here laid split_alone keeps long b [] (λ e
                  m. absurd m) distinct_xs tt (ranged_first w stands) r.0 t r.1) [
                    | inl o ↦ leaf_in t.name (shape_of.loop_turn a sch l well legal small kept all groups n first line g p claims needs at there h lined placed alone_here laid split_alone
                        keeps long b [] (λ e m. absurd m) distinct_xs tt (ranged_first w stands) t o).leaf
                    | inr o ↦ absurd o.1
                  ]
              of false e =
                  let r = (nest_of.lets a sch l well legal small kept all groups n first line g p claims needs at there h lined placed alone_here laid split_alone keeps long 0 w
                  stands [] (λ e m. absurd m) distinct_xs tt (ranged_first w stands) always (λ j e at_j k. refl) j t at_j e).0 in
                  leaf_in t.name (inl (subst (λ (y : List ℕ). In y xs) (sym r.name) (wholes r.split r.among)))

      abbrev kept_sums : AreSums factor_at m0 ts owner_at kinds lim tops_at always xs
      kept_sums = nest_of.sums a sch l well legal small kept all groups n first line g p claims needs at there h lined placed alone_here laid split_alone keeps long 0 w stands [] (λ
          e m. absurd m) distinct_xs tt (ranged_first w stands) always (λ j e at_j k. refl) xs among

      placed_all : (ys : List (List ℕ)) (sub : (x : List ℕ) → In x ys → In x (kept_from b 0 xs)) → Each factor_at m0 ts owner_at kinds lim tops_at always
          (IsPlacedSum factor_at m0 ts owner_at kinds lim tops_at R around place) ys (nest_of.sums a sch l well legal small kept all groups n first line g p claims needs at there h
          lined placed alone_here laid split_alone keeps long 0 w stands [] (λ e m. absurd m) distinct_xs tt (ranged_first w stands) always (λ j e at_j k. refl) ys sub)
      placed_all [] sub = tt
      placed_all (y ∷ ys) sub =
          let f = nest_of.found_kept a sch l well legal small kept all groups n first line g p claims needs at there h lined placed alone_here laid split_alone keeps long 0 w stands
          [] (λ e m. absurd m) distinct_xs tt (ranged_first w stands) always (λ j e at_j k. refl) y (sub y (inl refl)) in
          (subst (IsPlaced factor_at m0 ts owner_at kinds lim tops_at R around place y) (sym f.plain.is) (f.plain.placed short), placed_all ys (λ x m. sub x (inr m)))

      -- the coordinates of the store are these forms
      record Reads (ys : List (List ℕ)) (sub : (x : List ℕ) → In x ys → In x (kept_from b 0 xs)) (cs : List Coordinate) : Type 0 where
        forms : list_all is_form cs ≡ true
        are : map form_of cs ≡ sum_forms factor_at m0 ts owner_at kinds lim tops_at always ys (nest_of.sums a sch l well legal small kept all groups n first line g p claims needs at there h
            lined placed alone_here laid split_alone keeps long 0 w stands [] (λ e m. absurd m) distinct_xs tt (ranged_first w stands) always (λ j e at_j k. refl) ys sub)
        size : length cs ≡ length ys

      reads : (ms : Loads) (d : ℕ) (ys : List (List ℕ)) (sub : (x : List ℕ) → In x ys → In x (kept_from b 0 xs)) (names : List (List ℕ)) (lefts : List (Option Term)) (cs : List Coordinate) →
          AreCoordinates ms names (variables_at b d ys q.known ++ []) lefts cs → Reads ys sub cs
      reads ms d [] sub names lefts [] are = record { forms = refl; are = refl; size = refl }
      reads ms d [] sub names lefts (c ∷ cs) are = absurd are
      reads ms d (y ∷ ys) sub [] lefts cs are = absurd are
      reads ms d (y ∷ ys) sub (z ∷ names) lefts [] are = absurd are
      reads ms d (y ∷ ys) sub (z ∷ names) lefts (c ∷ cs) are =
          let f = nest_of.found_kept a sch l well legal small kept all groups n first line g p claims needs at there h lined placed alone_here laid split_alone keeps long 0 w stands
          [] (λ e m. absurd m) distinct_xs tt (ranged_first w stands) always (λ j e at_j k. refl) y (sub y (inl refl)) in
          let has : is_missing b d ≡ false = ap (λ (es : List ℕ). list_any (λ e. e == d) es) none_b in
          let named_so : (if is_missing b d then None else form_named q.known y) ≡ Some f.form = ap (λ (v : Bool). if v then None else form_named q.known y) has ∙ f.is in
          let index : c.index ≡ At f.form = index_at ms (if is_missing b d then None else form_named q.known y) (first_left lefts) c.index f.form named_so are.1 in
          let here : form_of c ≡ begin_of (course factor_at m0 ts owner_at kinds lim tops_at always y f.plain.sum) = ap index_form index ∙ sym f.plain.is in
          let rest = reads ms (d + 1) ys (λ x m. sub x (inr m)) names (other_lefts lefts) cs are.2 in
          let is = ap has_form index in
          let others_are = rest.forms in
          let more = rest.are in
          record { forms = λ j. is j && others_are j; are = λ j. here j ∷ more j; size = ap suc rest.size }

      module _ (ms : Loads) (cs : List Coordinate) (e : Term) (stores : IsStore g fs ms 0 w (Store 0 0 cs e)) (c : Claim) (defined : c.definition ≡ 0)
          (named_so : same_name (O.setting.buffer_function 0) c.function ≡ true) (over_region : c.region ≡ region) where
        coordinates : Reads xs among cs
        coordinates =
            let f = stored_there (slice_get fs 0) stores.2 in
            let bare_at : ranges_at b.ranges q.known ≡ [] = ap (λ (rs' : List Turning). ranges_at rs' q.known) (ranged_first w stands) in
            let os : w.at ≡ variables_at b 0 xs q.known ++ [] = q.forms ∙ ap (λ (os : List (Option Form)). variables_at b 0 xs q.known ++ os) bare_at in
            reads ms 0 xs among (names_with g.variables g.changes 0) f.0.at cs
            (subst (λ (os : List (Option Form)). AreCoordinates ms (names_with g.variables g.changes 0) os f.0.at cs) os f.2.at)

        pure_made : makes_split R around c (map place xs) (stored_by O.setting c (Some (record { steps = lines_of kinds lim m0 ts; line = Store 0 0 cs e }))) ≡ true
        pure_made =
            let r = coordinates in
            let parts = take_all (length xs) cs r.size in
            let dims = group.dims a sch l well legal small kept all groups n first line g p claims needs at there h lined placed alone_here laid split_alone keeps long in
            let left_at : left_of O.setting 0 cs ≡ cs = ap (λ (m : ℕ). take m cs) dims ∙ parts.0 in
            let over_at : over_of O.setting 0 cs ≡ [] = ap (λ (m : ℕ). drop m cs) dims ∙ parts.1 in
            let one : (c.definition == 0) ≡ true = ap (λ (m : ℕ). m == 0) defined in
            let forms : list_all is_form (left_of O.setting 0 cs) ≡ true = ap (list_all is_form) left_at ∙ r.forms in
            let bare : is_empty (over_of O.setting 0 cs) ≡ true = ap is_empty over_at in
            let pure : is_pure O.setting c 0 cs ≡ true = λ j. one j && (named_so j && (forms j && bare j)) in
            let same_forms = ap (map form_of) left_at ∙ r.are in
            let stored_so : stored_by O.setting c (Some (record { steps = lines_of kinds lim m0 ts; line = Store 0 0 cs e }))
            ≡ Some (record { steps = lines_of kinds lim m0 ts; forms = sum_forms factor_at m0 ts owner_at kinds lim tops_at always xs kept_sums }) =
            (λ j. option_map (λ fs'. record { steps = lines_of kinds lim m0 ts; forms = fs' }) (if pure j then Some (same_forms j) else None)) in
            let has = places_there factor_at m0 ts owner_at kinds lim tops_at R around place apart xs kept_sums (placed_all xs among) in
            let over_all : c.region ≡ map claim xs = over_region ∙ group.own_claim_is a sch l well legal small kept all groups n first line g p claims needs at there h lined placed
            alone_here laid split_alone keeps long in
            let facts = subst (LinesFit factor_at m0 ts owner_at kinds lim tops_at always) kept_all_names (nest_of.fit_lines a sch l well legal small kept all groups n first line g p claims
            needs at there h lined placed alone_here laid split_alone keeps long 0 w stands [] (λ e m. absurd m) distinct_xs tt (ranged_first w stands) always (λ j e at_j k.
            refl) (λ j t at_j loop i r. absurd r.1)) in
            let cover = covered factor_at m0 ts owner_at kinds lim tops_at always xs facts (λ j t at_j loop. refl) kept_sums (nest_of.low_lines a sch l well legal small kept all groups n
            first line g p claims needs at there h lined placed alone_here laid split_alone keeps long 0 w stands [] (λ e m. absurd m) distinct_xs tt (ranged_first w stands)
            always (λ j e at_j k. refl)) R around claim
            (nest_of.claimed_all a sch l well legal small kept all groups n first line g p claims needs at there h lined placed alone_here laid split_alone keeps long 0 w stands []
            (λ e m. absurd m) distinct_xs tt (ranged_first w stands) always (λ j e at_j k. refl) xs among) in
            let all_covered : covers R around (lines_of kinds lim m0 ts) (sum_forms factor_at m0 ts owner_at kinds lim tops_at always xs kept_sums) c.region ≡ true =
            ap (covers R around (lines_of kinds lim m0 ts) (sum_forms factor_at m0 ts owner_at kinds lim tops_at always xs kept_sums)) over_all ∙ cover in
            ap (makes_split R around c (map place xs)) stored_so ∙ (λ j. has j && all_covered j)

    -- ---- the law

    abbrev OverGrids : List Binder → Type 0
    OverGrids bs = bs ≡ around

    pub yes_first : (ms : Loads) (w : NestText) (v : CodeClaim) (at_line : ℕ) → slice_get k.nests 0 ≡ Some w → Claims at_line 0 g.subject.name 0 region v → (cs : List Coordinate) (e : Term) →
        IsStore g fs ms 0 w (Store 0 0 cs e) → (part : List Step) → IsRest w.steps part → (s : Statement) → Then s Empty ≡ down 0 0 cs e part → (known : KnownHere) →
        OverGrids known.binders → Holds places known → (c : ℕ) → slice_get items c ≡ Some v → (nests : Nests) → TakeSplit a plan cert n (group_of p) nests → SayYes O R nests known s c
    yes_first ms w v at_line stands says cs e stores part rest s comes known binders holds c found_at_c nests takes =
        let lead = nest_of.first_loop a sch l well legal small kept all groups n first line g p claims needs at there h lined placed alone_here laid split_alone keeps long 0 w stands
        [] (λ e m. absurd m) distinct_xs tt (ranged_first w stands) always (λ j e at_j k. refl) 0 cs e in
        let all_steps = nest_of.steps_so a sch l well legal small kept all groups n first line g p claims needs at there h lined placed alone_here laid split_alone keeps long 0 w
        stands [] (λ e m. absurd m) distinct_xs tt (ranged_first w stands) always (λ j e at_j k. refl) in
        let code : Then s Empty ≡ down 0 0 cs e (steps_of (kinds w stands) (lim w stands) (m0 w stands) (ts w stands)) =
        comes ∙ ap (down 0 0 cs e) (first_steps (kinds w stands) (lim w stands) 0 cs e (m0 w stands) (ts w stands) lead w.steps part all_steps rest) in
        let is = claim_is a sch l well legal small kept all groups n first line g p claims needs at there h lined placed alone_here c v found_at_c in
        let buffered : (O.claim c).buffer ≡ 0 = ap (λ (x : Claim). x.buffer) is ∙ says.buffered in
        let name : (O.claim c).function ≡ g.subject.name = ap (λ (x : Claim). x.function) is ∙ says.named in
        let defined : (O.claim c).definition ≡ 0 = ap (λ (x : Claim). x.definition) is ∙ says.defined in
        let over : (O.claim c).region ≡ region = ap (λ (x : Claim). x.region) is ∙ says.over in
        let buffer = own_buffer a sch l well legal small kept all groups n first line g p claims needs at there h lined placed alone_here in
        let named_so : same_name (O.setting.buffer_function 0) (O.claim c).function ≡ true = (λ j. same_name (buffer j) (name j)) ∙ name_refl g.subject.name in
        let none : updates O.setting s (O.claim c).buffer (O.claim c).function ≡ false = updating O R nests 0 c cs e buffered defined named_so part s comes in
        let goes : goes_on O R s c ≡ None = ap (λ (b : Bool). if b then Some ((O.claim c).definition - 1) else None) none in
        let spine : spine_of s (O.claim c).buffer ≡ Some (record { steps = lines_of (kinds w stands) (lim w stands) (m0 w stands) (ts w stands); line = Store 0 0 cs e }) =
        ap (spine_of s) buffered ∙ spine_is (kinds w stands) (lim w stands) 0 cs e (m0 w stands) (ts w stands) lead s code in
        let test = pure_made w stands ms cs e stores (O.claim c) defined named_so over in (
          (λ seats held.
              let one : Some seats ≡ Some (map place xs) = sym held ∙ ap (places_of known.buffers) buffered ∙ holds ∙ ap (λ (us : List Places). Some us) (group.own_places_are a sch l well
              legal small kept all groups n first line g p claims needs at there h lined placed alone_here laid split_alone keeps long) in
              let same_seats : seats ≡ map place xs = some_same seats (map place xs) one in
              let made_by : makes_by O.setting R (domains_of a) known.binders (O.claim c) (goes_on O R s c) seats (spine_of s (O.claim c).buffer) ≡ true =
              (λ j. makes_by O.setting R (domains_of a) (binders j) (O.claim c) (goes j) (same_seats j) (spine j)) ∙ test in
              takes.0 known.binders c (goes_on O R s c) seats s
              (ap (λ (b : Bool). (plain_nests O R (domains_of a)).is_made known.binders c (goes_on O R s c) seats s || b) made_by
              ∙ true_end ((plain_nests O R (domains_of a)).is_made known.binders c (goes_on O R s c) seats s))),
          (λ m. let clash : true ≡ false = sym m ∙ none in absurd (cc clash)),
        )
