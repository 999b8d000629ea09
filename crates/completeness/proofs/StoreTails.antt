-- At the stores of functions whose loops are split once, with any tail, in any order, each coordinate is a number of 32 bits, has a place and, of updates, lies in the claims' region.
use Rattle.std.proofs.Common.{◌≡◌, ℕ, zero, suc, ◌+◌, ◌<◌, ◌≤◌, ◌^◌, Bool, true, false, ◌&&◌, List, [], ◌∷◌, ◌++◌, length, map, Option, Some, None, refl, sym, ap, ◌∙◌, subst, inl, inr, arith}
use Rattle.std.specs.Prelude.{ℤ, pos, ◌+ℤ◌, ◌≤ℤ◌, nat_lt, if◌then◌else◌, slice_get, Any}
use Rattle.std.specs.List.{AllByRecursion}
use Rattle.std.specs.Int.RustNames.{unsigned_abs}
use Rattle.std.proofs.lemmas.Bool.Decides.{nat_tests}
use Rattle.std.proofs.lemmas.Int.{ints}
use Rattle.std.proofs.lemmas.List.{length-map}
use Rattle.std.proofs.lemmas.Option.{slice_get_within}
use Rattle.lin.specs.Forms.{Form, number, combined}
use Rattle.lin.specs.declared.scope.Binding.{Binding}
use Rattle.lin.specs.declared.scope.Binding.TheVariants.{LetMin}
use Rattle.lin.specs.declared.span.Span1.{Span1}
use Rattle.plan.specs.declared.plan.Group.{Group as CodeGroup}
use Rattle.plan.specs.declared.certificate.cert.Claim.{Claim as CodeClaim}
use Rattle.plan.specs.declared.certificate.cert.Need.{Need}
use Rattle.plan.specs.declared.stmt.Pick.TheVariants.{Min}
use Rattle.plan.specs.declared.stmt.Places.{Places}
use Rattle.plan.specs.Plan.{Plan}
use Rattle.plan.specs.View.{plan_of, statement_of}
use Rattle.plan.specs.Lines.{lines, body_line}
use Rattle.plan.specs.Certificate.Certificate.{Certificate, certificate_of}
use Rattle.meaning.specs.Algorithm.{Algorithm, Range}
use Rattle.meaning.specs.Conditions.{IsAlgorithm, IsRange}
use Rattle.soundness.specs.Claims.{In}
use Rattle.soundness.specs.Obligations.{Known as KnownHere, Rules, exactly}
use Rattle.rules.specs.Bounding.Rules.{is_index_span, rules_of}
use Rattle.rules.specs.Bounding.Scopes.{scope_of}
use Rattle.headline.proofs.Lists.{at_map}
use Rattle.meaning.specs.Names.{same_name}
use Rattle.soundness.proofs.Refines.{name_true}
use Rattle.std.specs.List.{find}
use Rattle.std.specs.Option.{option_map}
use Rattle.lin.specs.declared.form.Multiple.{Multiple}
use Rattle.lin.proofs.Limits.{combined-means}
use Rattle.completeness.proofs.Searched.{one_of}
use Rattle.completeness.proofs.BlockSums.{start_is}
use Rattle.completeness.proofs.Halves.{by_whole}
use Rattle.plan.specs.declared.stmt.Places.TheVariants.{From}
use Rattle.sched.specs.Schedule.{Schedule}
use Rattle.sched.specs.Legal.{IsLegal, said, loops_after}
use Rattle.sched.specs.declared.error.Rule.TheVariants as rule
use Rattle.sched.specs.declared.schedule.Split.{Split}
use Rattle.sched.specs.declared.schedule.Tail.{Tail}
use Rattle.sched.specs.declared.schedule.Tail.TheVariants.{Guard, Roundup, Shift}
use Rattle.sched.specs.declared.placing.Loop.{Loop}
use Rattle.sched.specs.declared.numbers.Extent.{Extent}
use Rattle.sched.specs.declared.numbers.Numbers.{Numbers}
use Rattle.sched.specs.declared.skeleton.Known.{Known}
use Rattle.sched.specs.declared.skeleton.Step.{Step}
use Rattle.sched.specs.declared.skeleton.Step.TheVariants.{Turns, Named, Tested}
use Rattle.sched.specs.declared.nest.Turning.{Turning}
use Rattle.sched.specs.Numbers.{numbers_named, loop_numbers, parallel_loops, grid_counts, piece_counts, last_number, or_one, is_too_short}
use Rattle.sched.specs.Standing.{form_named, alone, counted_from, has_rest, room}
use Rattle.sched.specs.Skeleton.{BodyText, NestText, SkeletonText, nest_turns, ranges_at, variables_at, grid_forms, range_turning}
use Rattle.sched.proofs.Standings.{found_all}
use Rattle.lower.specs.declared.lowering.Lowered.{Lowered}
use Rattle.sched.specs.Stored.{FormulaText, StoredText}
use Rattle.blocks.specs.Stored.{flags}
use Rattle.lower.specs.Stored.{stored_functions, has_large}
use Rattle.regions.specs.Faults.{are_whole}
use Rattle.lower.specs.Faults.{region_fault}
use Rattle.sched.specs.Around.{bind_steps, grid_scope, head_scope, range_names, ranges_of, grid_symbol}
use Rattle.lower.specs.Owning.{IsLaidBy}
use Rattle.regions.specs.Regions.{bodies_from, missing_from}
use Rattle.lower.specs.Groups.{HasBody, HasGroups}
use Rattle.lower.proofs.Blocking.{IsSmall}
use Rattle.lower.proofs.Covering.{NumbersAre}
use Rattle.blocks.specs.Blocks.{dimension_of, lay_over}
use Rattle.lower.proofs.Owners as owners
use Rattle.completeness.specs.Laws.{AreSplitOnce}
use Rattle.completeness.specs.Parted.{KeepsInner}
use Rattle.completeness.specs.Blocked.{is_tailed}
use Rattle.completeness.specs.Filled.{AreEndsShort}
use Rattle.completeness.proofs.Laid.{subjects, found}
use Rattle.completeness.proofs.Defined.{other_put}
use Rattle.completeness.proofs.Owned.{some_same}
use Rattle.completeness.proofs.Served.{roots}
use Rattle.completeness.proofs.Standing.{AreLets, Rises, names_own}
use Rattle.completeness.proofs.PureNests.{all_in}
use Rattle.completeness.proofs.PlainNests.{grid_place}
use Rattle.completeness.proofs.RegionBounds.{IsEnded}
use Rattle.completeness.proofs.StoreBounds.{steps_keep}
use Rattle.completeness.proofs.PlacedStores.{IsRightForm, IsReadyNest}
use Rattle.completeness.proofs.TailDims.{full_last}
use Rattle.completeness.proofs.StepsThere.{let_tells, step_there, steps_long, entries_rise, entry_tells, entry_told}
use Rattle.completeness.proofs.TailSteps.{Line, Block, is_loop}
use Rattle.completeness.proofs.TailTurns.{Entry, entry_steps, let_of, Leaf, IsBegun, IsWhole, Right, IsTurn, IsLet, IsEntry}
use Rattle.sched.specs.Placing.{is_shifted}
use Rattle.completeness.proofs.TailSkeletons.{IsTailNest, AreTails}
use Rattle.completeness.proofs.TailReady.{blocks_ended, blocks_end, right_of, over_of}
use Rattle.completeness.proofs.StoreShapes as shapes_of

map_names : (ks : List Known) (ds : List Range) → ranges_at (map range_turning ds) ks ≡ map (form_named ks) (range_names ds)
map_names ks [] = refl
map_names ks (d ∷ ds) = (let rest = map_names ks ds in λ j. form_named ks d.variable ∷ rest j)

-- lets bind a symbol each
pub lets_count : (n m : ℕ) (ss : List Step) → AreLets ss → Rises n ss m → m ≡ n + length ss
lets_count n m [] h r = omega (arith, r)
lets_count n m (Turns i x kind ∷ ss) h r = absurd h
lets_count n m (Named i pick fs ∷ ss) h r = (let rest = lets_count (n + 1) m ss h r.1 in omega (arith, rest))
lets_count n m (Tested low high ∷ ss) h r = absurd h

-- two ways to say that a split is shifted
shift_alike : (c : Split) → is_shifted c ≡ true → (elim c.tail [ Shift ↦ true | Guard ↦ false | Roundup ↦ false ]) ≡ true
shift_alike c e = of c.tail e
  where
    of : (t : Tail) → (elim t [ Guard ↦ false | Roundup ↦ false | Shift ↦ true ]) ≡ true → (elim t [ Shift ↦ true | Guard ↦ false | Roundup ↦ false ]) ≡ true
    of Guard q = absurd (cc q)
    of Roundup q = absurd (cc q)
    of Shift q = refl

shift_tail : (c : Split) → is_shifted c ≡ true → c.tail ≡ Shift
shift_tail c e = of c.tail refl e
  where
    of : (t : Tail) → c.tail ≡ t → (elim t [ Guard ↦ false | Roundup ↦ false | Shift ↦ true ]) ≡ true → c.tail ≡ Shift
    of Guard r q = absurd (cc q)
    of Roundup r q = absurd (cc q)
    of Shift r q = r

-- a full block of a shifted split has room
pub room_for : (rs : List Numbers) (c : Split) → is_shifted c ≡ true → is_too_short rs c ≡ false → c.factor ≤ (numbers_named rs c.whole).count
room_for rs c e long = of (nat_lt (numbers_named rs c.whole).count c.factor) refl
  where
    of : (b : Bool) → nat_lt (numbers_named rs c.whole).count c.factor ≡ b → c.factor ≤ (numbers_named rs c.whole).count
    of true q =
        let one = shift_alike c e in
        let clash : true ≡ false = sym (λ j. one j && q j) ∙ long in
        absurd (cc clash)
    of false q = grind (arith, nat_tests, q)

abbrev first_symbol : List Multiple → ℕ
first_symbol [] = 0
first_symbol (t ∷ more) = t.symbol

abbrev symbol_of : Form → ℕ
symbol_of f = first_symbol f.terms

abbrev step_symbol : Step → ℕ
step_symbol (Named s pick (f ∷ more)) = symbol_of f
step_symbol _ = 0

-- a symbol of the grid is that of one loop
module _ (rs : List Numbers) where
  grid_at : (s : ℕ) (os : List Loop) (x : List ℕ) (f : Form) → form_named (grid_forms rs s os) x ≡ Some f →
      (j : ℕ) × (o : Loop) × (slice_get os j ≡ Some o) × (o.name ≡ x) × (symbol_of f ≡ s + j)
  grid_at s [] x f e = absurd (cc e)
  grid_at s (o ∷ os) x f e = of (same_name o.name x) refl e (grid_at (s + 1) os x f)
    where
      of : (b : Bool) → same_name o.name x ≡ b →
          option_map (λ (k : Known). k.form) (if b then Some (record { name = o.name; form = counted_from (numbers_named rs o.name).low s })
          else find (λ (k : Known). same_name k.name x) (grid_forms rs (s + 1) os)) ≡ Some f →
          (form_named (grid_forms rs (s + 1) os) x ≡ Some f → (j : ℕ) × (v : Loop) × (slice_get os j ≡ Some v) × (v.name ≡ x) × (symbol_of f ≡ (s + 1) + j)) →
          (j : ℕ) × (v : Loop) × (slice_get (o ∷ os) j ≡ Some v) × (v.name ≡ x) × (symbol_of f ≡ s + j)
      of true name q rest =
          let form : counted_from (numbers_named rs o.name).low s ≡ f = cc q in
          (0, o, refl, name_true o.name x name, ap symbol_of (sym form) ∙ omega arith)
      of false name q rest = (let r = rest q in let place = r.4 in (suc r.0, r.1, r.2, r.3, omega (arith, place)))

  same_over : (os : List Loop) (x y : List ℕ) (f : Form) → form_named (grid_forms rs 0 os) x ≡ Some f → form_named (grid_forms rs 0 os) y ≡ Some f → x ≡ y
  same_over os x y f e d =
      let a = grid_at 0 os x f e in
      let b = grid_at 0 os y f d in
      let first_place = a.4 in
      let second_place = b.4 in
      let place : a.0 ≡ b.0 = omega (arith, first_place, second_place) in
      let both : Some a.1 ≡ Some b.1 = sym a.2 ∙ ap (slice_get os) place ∙ b.2 in
      let loops : a.1 ≡ b.1 = cc both in
      sym a.3 ∙ ap (λ (o : Loop). o.name) loops ∙ b.3

abbrev is_block : Line → Bool
is_block (Block f z) = true
is_block _ = false

shifted_in : (cs : List Split) (c : Split) → In c cs → c.tail ≡ Shift → Any (λ c. c.tail ≡ Shift) cs
shifted_in [] c m e = absurd m
shifted_in (d ∷ cs) c (inl q) e = (0, d, omega arith, refl, subst (λ (y : Split). y.tail ≡ Shift) q e)
shifted_in (d ∷ cs) c (inr q) e = (let r = shifted_in cs c q e in let less = r.2 in (suc r.0, r.1, omega (arith, less), r.3, r.4))

-- ---- groups

module _ (a : Algorithm) (sch : Schedule) (l : Lowered) (well : IsAlgorithm a) (legal : IsLegal a sch) (small : has_large (stored_functions a sch) ≡ false)
    (kept : region_fault a (stored_functions a sch) ≡ None) (all : are_whole (stored_functions a sch) ≡ true) (groups : HasGroups a (stored_functions a sch) l) where
  abbrev gs : List StoredText
  gs = stored_functions a sch

  abbrev items : List CodeClaim
  items = l.certificate.claims.items

  abbrev cert : Certificate
  cert = certificate_of l.certificate

  abbrev plan : Plan
  plan = plan_of l.plan

  module _ (n first line : ℕ) (g : StoredText) (p : CodeGroup) (claims : List CodeClaim) (needs : List Need) (at : slice_get gs n ≡ Some g) (there : slice_get l.plan.groups.items n ≡ Some p)
      (h : HasBody a (roots a sch l well legal small kept all groups) n first line g p claims needs) (lined : body_line plan n ≡ line + 1)
      (placed : (j : ℕ) (v : CodeClaim) → slice_get claims j ≡ Some v → slice_get items (first + j) ≡ Some v)
      (alone_here : (j : ℕ) (w : CodeClaim) → slice_get items j ≡ Some w → line < w.line → w.line < line + (lines (statement_of p.body) + 1) → In w claims)
      (laid : IsLaidBy g h.extents h.skeleton) (split_alone : AreSplitOnce g.placed.cuts) (keeps : KeepsInner g.placed.loops g.placed.cuts)
      (roomy_all : AllByRecursion (λ c. is_too_short (loop_numbers g.subject.variables g.placed.cuts h.extents) c ≡ false) g.placed.cuts) (ended : AllByRecursion IsEnded h.extents) where
    abbrev k : SkeletonText
    k = h.skeleton

    abbrev fs : List FormulaText
    fs = h.formulas

    abbrev xs : List (List ℕ)
    xs = g.subject.variables

    abbrev ls : List Loop
    ls = g.placed.loops

    abbrev cuts : List Split
    cuts = g.placed.cuts

    abbrev rs : List Numbers
    rs = loop_numbers xs cuts h.extents

    abbrev bs : List BodyText
    bs = bodies_from g.changes 0 g.subject.reductions fs

    abbrev grid : List Known
    grid = grid_forms rs 0 (parallel_loops ls)

    abbrev base : ℕ
    base = length (piece_counts rs ls)

    abbrev low : List ℕ → ℤ
    low x = (numbers_named rs x).low

    abbrev count : List ℕ → ℕ
    count x = (numbers_named rs x).count

    abbrev R : Rules
    R = rules_of a plan cert n

    abbrev place_named : List ℕ → Places
    place_named x = (dimension_of (lay_over g h.extents k) cuts x).places

    abbrev claim_named : List ℕ → Span1
    claim_named x = (dimension_of (lay_over g h.extents k) cuts x).claim

    abbrev shape_here : AreTails xs bs g.placed (shapes_of.others a sch l well legal small kept all groups n first line g p claims needs at there h lined placed alone_here laid split_alone
        keeps) (shapes_of.once a sch l well legal small kept all groups n first line g p claims needs at there h lined placed alone_here laid split_alone keeps) rs k
    shape_here = shapes_of.shape a sch l well legal small kept all groups n first line g p claims needs at there h lined placed alone_here laid split_alone keeps

    -- the numbers of each variable end within 32 bits
    ended_all : AllByRecursion (λ x. last_number (numbers_named rs x) ≤ℤ pos 2147483647) xs
    ended_all = of xs h.extents (owners.numbers g h.extents k laid) ended
      where
        of : (ys : List (List ℕ)) (es : List Extent) → NumbersAre rs ys es → AllByRecursion IsEnded es → AllByRecursion (λ x. last_number (numbers_named rs x) ≤ℤ pos 2147483647) ys
        of [] es q r = tt
        of (y ∷ ys) [] q r = absurd q
        of (y ∷ ys) (e ∷ es) q r = (subst (λ (z : Numbers). last_number z ≤ℤ pos 2147483647) (sym q.0) r.0, of ys es q.1 r.1)

    ended_named : (x : List ℕ) → In x xs → last_number (numbers_named rs x) ≤ℤ pos 2147483647
    ended_named x m = all_in (λ x. last_number (numbers_named rs x) ≤ℤ pos 2147483647) xs x ended_all m

    fit_whole : (c : Split) → In c cuts → IsSmall (numbers_named rs c.whole) × (0 < (numbers_named rs c.whole).count)
    fit_whole c m = shapes_of.fit_of a sch l well legal small kept all groups n first line g p claims needs at there h lined placed alone_here laid split_alone keeps c.whole
        (shapes_of.wholes a sch l well legal small kept all groups n first line g p claims needs at there h lined placed alone_here laid split_alone keeps c m)

    -- all blocks end within 32 bits
    abbrev pub Early : Type 0
    Early = AreEndsShort rs cuts

    -- so do the numbers of a split's blocks, where nothing keeps them
    blocks_kept : Early → (c : Split) (m : In c cuts) → is_tailed rs c ≡ false → blocks_end rs c (shapes_of.fits a sch l well legal small kept all groups n first line g p claims needs at there h
        lined placed alone_here laid split_alone keeps c m) (fit_whole c m) ≤ℤ pos 2147483647
    blocks_kept early c m bare =
        let fits = shapes_of.fits a sch l well legal small kept all groups n first line g p claims needs at there h lined placed alone_here laid split_alone keeps c m in
        let fit = fit_whole c m in
        let near = all_in (λ c. is_tailed rs c ≡ false → has_rest c (numbers_named rs c.whole).count ≡ true → (last_number (numbers_named rs c.whole) +ℤ pos c.factor) ≤ℤ pos 2147483647) cuts c early m
        bare in
        blocks_ended rs c fits fit (ended_named c.whole (shapes_of.wholes a sch l well legal small kept all groups n first line g p claims needs at there h lined placed alone_here laid
        split_alone keeps c m)) near (full_last rs c fits fit.0 fit.1)

    -- a full block has room
    roomy : (c : Split) → In c cuts → is_shifted c ≡ true → c.factor ≤ (numbers_named rs c.whole).count
    roomy c m e = room_for rs c e (all_in (λ c. is_too_short rs c ≡ false) cuts c roomy_all m)

    outers_here : (c : Split) → In c cuts → (f : Form) → form_named grid c.outer ≡ Some f → (s : ℕ) × (f ≡ counted_from (pos 0) s) × (s < base)
    outers_here c m f e = shapes_of.outers_there a sch l well legal small kept all groups n first line g p claims needs at there h lined placed alone_here laid split_alone keeps c m f e

    -- where a block begins that is the turn of a loop with this symbol
    begins_at : (c : Split) → In c cuts → (s : ℕ) (outer f : Form) → outer ≡ counted_from (pos 0) s → combined (number (low c.whole)) (pos c.factor) outer ≡ Some f →
        f ≡ one_of (low c.whole) (pos c.factor) s
    begins_at c m s outer f is begins =
        (combined-means (number (low c.whole)) (pos c.factor) (alone s) f (ap (combined (number (low c.whole)) (pos c.factor)) (sym is) ∙ begins)).is
        ∙ start_is (low c.whole) c.factor s (shapes_of.fits a sch l well legal small kept all groups n first line g p claims needs at there h lined placed alone_here laid split_alone keeps c m).some

    -- the let of a split over the grid is where its blocks begin
    start_named : (c : Split) → In c cuts → (outer first_here : Form) → form_named grid c.outer ≡ Some outer → combined (number (low c.whole)) (pos c.factor) outer ≡ Some first_here → (j :
        ℕ) (z : ℤ) →
        slice_get k.head j ≡ Some (Named (base + j) Min (first_here ∷ number z ∷ [])) → form_named k.starts c.whole ≡ Some (alone (base + j))
    start_named c m outer first_here over begins j z at_j =
        let both = shape_here.firsts j (Named (base + j) Min (first_here ∷ number z ∷ [])) at_j in
        let r = both.0 in
        let o = outers_here c m outer over in
        let b = outers_here r.split r.among r.outer r.by_outer in
        let symbols : o.0 ≡ b.0 = sym (ap symbol_of (begins_at c m o.0 outer first_here o.1 begins)) ∙ ap step_symbol r.is ∙ ap symbol_of (begins_at r.split r.among b.0 r.outer r.form b.1 r.begins) in
        let names : r.split.outer ≡ c.outer =
        same_over rs (parallel_loops ls) r.split.outer c.outer (counted_from (pos 0) b.0) (r.by_outer ∙ ap (λ (f : Form). Some f) b.1)
        (over ∙ ap (λ (f : Form). Some f) (o.1 ∙ ap (counted_from (pos 0)) symbols)) in
        let same_split : r.split ≡ c = shapes_of.outers a sch l well legal small kept all groups n first line g p claims needs at there h lined placed alone_here laid split_alone keeps
        r.split c r.among m names in
        subst (λ (d : Split). form_named k.starts d.whole ≡ Some (alone (base + j))) same_split both.1

    -- no update is shifted
    pure_here : (d : ℕ) (u : FormulaText) → slice_get fs d ≡ Some u → (c : Split) → In c cuts → is_shifted c ≡ true → d ≡ 0
    pure_here zero u e c m s = refl
    pure_here (suc i) u e c m s =
        let w = found a sch (flags (subjects a sch)) g a.functions n at in
        let f = w.function in
        let o = other_put a (flags (subjects a sch)) f.variables f.value f.changes fs i u (ap (λ (v : StoredText). v.formulas) (sym w.is) ∙ h.defined) e in
        let some = slice_get_within f.changes i o.change o.at in
        let among : In c (loops_after (said sch) f).cuts = subst (λ (v : StoredText). In c v.placed.cuts) w.is m in
        absurd (legal.whole w.place f rule.BadShift w.at (omega (arith, some), shifted_in (loops_after (said sch) f).cuts c among (shift_tail c s)))

    -- ---- a nest

    module _ (d : ℕ) (w : NestText) (stands : slice_get k.nests d ≡ Some w) where
      abbrev q : IsTailNest xs bs g.placed (shapes_of.others a sch l well legal small kept all groups n first line g p claims needs at there h lined placed alone_here laid split_alone
          keeps) (shapes_of.once a sch l well legal small kept all groups n first line g p claims needs at there h lined placed alone_here laid split_alone keeps) rs grid base k.head d w
      q = shape_here.nests d w stands

      abbrev ts : List Turning
      ts = nest_turns q.body rs ls

      abbrev es : List Entry
      es = q.entries

      abbrev ranges : List Range
      ranges = ranges_of g.changes d

      abbrev rn : List (List ℕ)
      rn = range_names ranges

      turn_of : (j : ℕ) (e : Entry) → slice_get es j ≡ Some e → is_loop e.line ≡ true →
          IsTurn cuts (shapes_of.others a sch l well legal small kept all groups n first line g p claims needs at there h lined placed alone_here laid split_alone keeps) (shapes_of.once a
          sch l well legal small kept all groups n first line g p claims needs at there h lined placed alone_here laid split_alone keeps) rs grid base k.head q.next es ts j e
      turn_of j e at_e loop = of (q.each j e at_e)
        where
          no_let : IsLet cuts (shapes_of.others a sch l well legal small kept all groups n first line g p claims needs at there h lined placed alone_here laid split_alone keeps)
              (shapes_of.once a sch l well legal small kept all groups n first line g p claims needs at there h lined placed alone_here laid split_alone keeps) rs grid base k.head q.next es ts j e → ⊥
          no_let t = elim t.kind [
            | inl b ↦ (let clash : true ≡ false = sym loop ∙ ap is_loop b.line in cc clash)
            | inr r ↦ (let clash : true ≡ false = sym loop ∙ ap is_loop r.4 in cc clash)
          ]

          of : IsEntry cuts (shapes_of.others a sch l well legal small kept all groups n first line g p claims needs at there h lined placed alone_here laid split_alone keeps)
              (shapes_of.once a sch l well legal small kept all groups n first line g p claims needs at there h lined placed alone_here laid split_alone keeps) rs grid base k.head q.next es ts j e →
              IsTurn cuts (shapes_of.others a sch l well legal small kept all groups n first line g p claims needs at there h lined placed alone_here laid split_alone keeps) (shapes_of.once
              a sch l well legal small kept all groups n first line g p claims needs at there h lined placed alone_here laid split_alone keeps) rs grid base k.head q.next es ts j e
          of (inl t) = t
          of (inr t) = absurd (no_let t)

      -- ---- at its store

      module _ (known : KnownHere) (scoped : scope_of known.binders ≡ bind_steps (head_scope k) w.steps) where
        abbrev scope : List Binding
        scope = scope_of known.binders

        rises_head : Rises (length k.grid) k.head (names_own xs bs g.placed h.extents k h.laid).next
        rises_head = (names_own xs bs g.placed h.extents k h.laid).rises

        many : length k.grid ≡ base
        many = ap length shape_here.grid

        head_end : (names_own xs bs g.placed h.extents k h.laid).next ≡ base + length k.head
        head_end = (let count = lets_count (length k.grid) _ k.head (names_own xs bs g.placed h.extents k h.laid).lets rises_head in let same_base = many in omega (arith, count, same_base))

        grid_long : length (grid_scope k.grid) ≡ length k.grid
        grid_long = length-map k.grid grid_symbol

        head_long : length (head_scope k) ≤ q.next
        head_long =
            let long = grid_long in
            let most = steps_long (length k.grid) (names_own xs bs g.placed h.extents k h.laid).next k.head rises_head (grid_scope k.grid) (omega (arith, long)) in
            let end = head_end in
            let least = q.low in
            omega (arith, most, end, least)

        -- what stands around the nest stands at its store
        around_there : (i : ℕ) (b : Binding) → slice_get (head_scope k) i ≡ Some b → slice_get scope i ≡ Some b
        around_there i b e =
            let less = slice_get_within (head_scope k) i b e in
            ap (λ (sc : List Binding). slice_get sc i) scoped ∙ steps_keep (head_scope k) w.steps i less ∙ e

        head_there : (j i : ℕ) (gs : List Form) → slice_get k.head j ≡ Some (Named i Min gs) → slice_get scope i ≡ Some (LetMin gs)
        head_there j i gs e =
            let long = grid_long in
            around_there i (LetMin gs)
            (step_there (length k.grid) (names_own xs bs g.placed h.extents k h.laid).next k.head rises_head (grid_scope k.grid) (omega (arith, long)) i (LetMin gs) (let_tells k.head j i gs e))

        entry_there : (j : ℕ) (e : Entry) → slice_get es j ≡ Some e → slice_get scope (q.next + j) ≡ Some (entry_told e)
        entry_there j e at_e =
            ap (λ (sc : List Binding). slice_get sc (q.next + j)) scoped ∙ ap (λ (ss : List Step). slice_get (bind_steps (head_scope k) ss) (q.next + j)) q.steps
            ∙ step_there q.next (q.next + length es) (entry_steps q.next es) (entries_rise q.next es) (head_scope k) head_long (q.next + j) (entry_told e) (entry_tells q.next es j e at_e)

        grid_there : (y : List ℕ) (c : Form) → form_named grid y ≡ Some c →
            (s : ℕ) × (c ≡ counted_from (low y) s) × (slice_get scope s ≡ Some (grid_symbol (count y))) × (s < base) × (s < q.next)
        grid_there y c named =
            let r = grid_place rs y 0 (parallel_loops ls) c named in
            let j = r.0 in
            let none : 0 + j ≡ j = omega arith in
            let in_grid : slice_get k.grid j ≡ Some (count y) =
            ap (λ (ns : List ℕ). slice_get ns j) shape_here.grid ∙ or_one_at (grid_counts rs (parallel_loops ls)) j (count y) r.2 in
            let in_scope : slice_get (grid_scope k.grid) j ≡ Some (grid_symbol (count y)) = at_map grid_symbol k.grid j (count y) in_grid in
            let within : j < length (grid_scope k.grid) = slice_get_within (grid_scope k.grid) j (grid_symbol (count y)) in_scope in
            let less = slice_get_within k.grid j (count y) in_grid in
            let same_base = many in
            let least = q.low in (
              j,
              r.1 ∙ ap (counted_from (low y)) none,
              around_there j (grid_symbol (count y)) (steps_keep (grid_scope k.grid) k.head j within ∙ in_scope),
              omega (arith, less, same_base),
              omega (arith, less, same_base, least),
            )
          where
            or_one_at : (ns : List ℕ) (j m : ℕ) → slice_get ns j ≡ Some m → slice_get (or_one ns) j ≡ Some m
            or_one_at [] j m e = absurd (cc e)
            or_one_at (n ∷ ns) j m e = e

        -- a shifted split over the grid has its places where its let is
        shift_over : (y : List ℕ) (f : Form) (u : IsWhole cuts (shapes_of.others a sch l well legal small kept all groups n first line g p claims needs at there h lined placed alone_here
            laid split_alone keeps) (shapes_of.once a sch l well legal small kept all groups n first line g p claims needs at there h lined placed alone_here laid split_alone keeps) rs grid
            base k.head q.next es y f) → is_shifted u.split ≡ true → (outer : Form) → form_named grid u.split.outer ≡ Some outer →
            place_named u.split.whole ≡ From u.start u.split.factor
        shift_over y f u shifted outer over = of u.begun
          where
            c : Split
            c = u.split

            o : (s : ℕ) × (outer ≡ counted_from (pos 0) s) × (s < base)
            o = outers_here c u.there outer over

            -- the outer loop stands over the grid, not in the nest
            off : (i : ℕ) (e : Entry) → slice_get es i ≡ Some e → is_loop e.line ≡ true → e.turning.name ≡ c.outer → ⊥
            off i e at_e loop name =
                let t = turn_of i e at_e loop in
                let none = (shapes_of.named_here a sch l well legal small kept all groups n first line g p claims needs at there h lined placed alone_here laid split_alone keeps d q.body
                q.at).off_grid t.place e.turning t.there in
                let clash : Some outer ≡ None = sym over ∙ ap (form_named grid) (sym name) ∙ none in
                cc clash

            outer_is : Leaf cuts (shapes_of.others a sch l well legal small kept all groups n first line g p claims needs at there h lined placed alone_here laid split_alone keeps)
                (shapes_of.once a sch l well legal small kept all groups n first line g p claims needs at there h lined placed alone_here laid split_alone keeps) rs grid base k.head q.next
                es c.outer u.outer → u.outer ≡ outer
            outer_is (inl there_too) = (let some : Some u.outer ≡ Some outer = sym there_too ∙ over in cc some)
            outer_is (inr (i, e, at_e, loop, name, is)) = absurd (off i e at_e loop name)

            begins_so : combined (number (low c.whole)) (pos c.factor) outer ≡ Some u.first
            begins_so = ap (combined (number (low c.whole)) (pos c.factor)) (sym (outer_is u.by_outer)) ∙ u.begins

            placed_at : (j : ℕ) → slice_get k.head j ≡ Some (Named (base + j) Min (u.first ∷ number (room (numbers_named rs c.whole) c.factor) ∷ [])) →
                place_named c.whole ≡ From (alone (base + j)) c.factor
            placed_at j at_j =
                shapes_of.dim_shift a sch l well legal small kept all groups n first line g p claims needs at there h lined placed alone_here laid split_alone keeps c u.there o.0 (over ∙ ap
                (λ (g : Form). Some g) o.1) shifted (alone (base + j))
                (start_named c u.there outer u.first over begins_so j (room (numbers_named rs c.whole) c.factor) at_j)

            -- no let of the nest is such a one
            no_block : (i : ℕ) (e : Entry) → slice_get es i ≡ Some e → e.turning ≡ let_of rs c → e.line ≡ Block u.first (room (numbers_named rs c.whole) c.factor) → ⊥
            no_block i e at_e turning line_is = by (q.each i e at_e)
              where
                by : IsEntry cuts (shapes_of.others a sch l well legal small kept all groups n first line g p claims needs at there h lined placed alone_here laid split_alone keeps)
                    (shapes_of.once a sch l well legal small kept all groups n first line g p claims needs at there h lined placed alone_here laid split_alone keeps) rs grid base k.head
                    q.next es ts i e → ⊥
                by (inl t) = (let clash : true ≡ false = sym t.loop ∙ ap is_loop line_is in cc clash)
                by (inr t) = elim t.kind [
                  | inl b ↦
                      (let wholes_same : t.split.whole ≡ c.whole = ap (λ (z : Turning). z.name) (sym t.turning ∙ turning) in
                      let same_split : t.split ≡ c = by_whole cuts (shapes_of.others a sch l well legal small kept all groups n first line g p claims needs at there h lined placed
                      alone_here laid split_alone keeps) t.split c t.among u.there wholes_same in
                      off b.outer_at b.outer b.outer_there b.outer_loop (b.outer_name ∙ ap (λ (z : Split). z.outer) same_split))
                  | inr r ↦ (let clash : true ≡ false = ap is_block (sym line_is ∙ r.4) in cc clash)
                ]

            of : IsBegun cuts (shapes_of.others a sch l well legal small kept all groups n first line g p claims needs at there h lined placed alone_here laid split_alone keeps)
                (shapes_of.once a sch l well legal small kept all groups n first line g p claims needs at there h lined placed alone_here laid split_alone keeps) rs grid base k.head q.next
                es c u.first u.start → place_named c.whole ≡ From u.start c.factor
            of (inl plain) = (let clash : true ≡ false = sym shifted ∙ plain.0 in absurd (cc clash))
            of (inr (told, s, inl (j, at_j, place), is)) = placed_at j at_j ∙ ap (λ (m : ℕ). From (alone m) c.factor) (sym place) ∙ ap (λ (g : Form). From g c.factor) (sym is)
            of (inr (told, s, inr (i, at_e, place), is)) = absurd (no_block i _ at_e refl refl)

        -- a let of the head is over the form of a loop of the grid
        head_over : (y : List ℕ) (f : Form) (u : IsWhole cuts (shapes_of.others a sch l well legal small kept all groups n first line g p claims needs at there h lined placed alone_here
            laid split_alone keeps) (shapes_of.once a sch l well legal small kept all groups n first line g p claims needs at there h lined placed alone_here laid split_alone keeps) rs grid
            base k.head q.next es y f) (j i : ℕ) (z : ℤ) → slice_get k.head j ≡ Some (Named i Min (u.first ∷ number z ∷ [])) →
            (c : Form) × (form_named grid u.split.outer ≡ Some c)
        head_over y f u j i z at_j = of u.by_outer
          where
            of : Leaf cuts (shapes_of.others a sch l well legal small kept all groups n first line g p claims needs at there h lined placed alone_here laid split_alone keeps)
                (shapes_of.once a sch l well legal small kept all groups n first line g p claims needs at there h lined placed alone_here laid split_alone keeps) rs grid base k.head q.next
                es u.split.outer u.outer → (c : Form) × (form_named grid u.split.outer ≡ Some c)
            of (inl over) = (u.outer, over)
            of (inr (o, e, at_e, loop, name, is)) =
                let r = shape_here.heads j (Named i Min (u.first ∷ number z ∷ [])) at_j in
                let b = outers_here r.split r.among r.outer r.by_outer in
                let symbols : q.next + o ≡ b.0 =
                sym (ap symbol_of (begins_at u.split u.there (q.next + o) u.outer u.first is u.begins)) ∙ ap step_symbol r.is ∙ ap symbol_of (begins_at r.split r.among b.0 r.outer r.form
                b.1 r.begins) in
                let less = b.2 in
                let least = q.low in
                absurd (omega (arith, symbols, less, least))

        pure_in : (c : Split) → In c cuts → is_shifted c ≡ true → d ≡ 0
        pure_in = (let f = shapes_of.formula_here a sch l well legal small kept all groups n first line g p claims needs at there h lined placed alone_here laid split_alone keeps d q.body
            q.at in pure_here d f.formula f.at)

        right_at : (x : List ℕ) → In x xs → (f : Form) → form_named q.known x ≡ Some f → IsRightForm Early R known place_named claim_named d x f
        right_at x m f named =
            right_of cuts (shapes_of.others a sch l well legal small kept all groups n first line g p claims needs at there h lined placed alone_here laid split_alone keeps) (shapes_of.once
            a sch l well legal small kept all groups n first line g p claims needs at there h lined placed alone_here laid split_alone keeps) rs grid base xs ls
            (λ c m. shapes_of.fits a sch l well legal small kept all groups n first line g p claims needs at there h lined placed alone_here laid split_alone keeps c m) (shapes_of.wholes a
            sch l well legal small kept all groups n first line g p claims needs at there h lined placed alone_here laid split_alone keeps) (shapes_of.fit_of a sch l well legal small
            kept all groups n first line g p claims needs at there h lined placed alone_here laid split_alone keeps) ended_named Early blocks_kept roomy a plan cert n place_named claim_named
            (λ c m. shapes_of.inners a sch l well legal small kept all groups n first line g p claims needs at there h lined placed alone_here laid split_alone keeps c m) (λ c m x q e.
            (shapes_of.halves a sch l well legal small kept all groups n first line g p claims needs at there h lined placed alone_here laid split_alone keeps c m x q).1 e)
            k.head q.next es ts q.each (λ j i e f at_e at_f le lf name. q.once_each j i e f at_e at_f name)
            (λ j e at_e loop. let t = turn_of j e at_e loop in (shapes_of.named_here a sch l well legal small kept all groups n first line g p claims needs at there h lined placed
            alone_here laid split_alone keeps d q.body q.at).off_grid t.place e.turning t.there)
            (λ j e at_e loop y name leaf. let t = turn_of j e at_e loop in shapes_of.leaf_turn a sch l well legal small kept all groups n first line g p claims needs at there h lined placed
            alone_here laid split_alone keeps d q.body q.at t.place e.turning t.there y name leaf)
            (shapes_of.near_named a sch l well legal small kept all groups n first line g p claims needs at there h lined placed alone_here laid split_alone keeps)
            (λ x s e. shapes_of.dim_grid a sch l well legal small kept all groups n first line g p claims needs at there h lined placed alone_here laid split_alone keeps x s e
            (shapes_of.grids a sch l well legal small kept all groups n first line g p claims needs at there h lined placed alone_here laid split_alone keeps x (counted_from (low x) s) e).3)
            (shapes_of.dim_loop a sch l well legal small kept all groups n first line g p claims needs at there h lined placed alone_here laid split_alone keeps) (shapes_of.dim_block a sch
            l well legal small kept all groups n first line g p claims needs at there h lined placed alone_here laid split_alone keeps)
            shift_over (shapes_of.dim_split a sch l well legal small kept all groups n first line g p claims needs at there h lined
            placed alone_here laid split_alone keeps)
            head_over d pure_in known grid_there head_there q.low entry_there
            x m f (found_all (Right cuts (shapes_of.others a sch l well legal small kept all groups n first line g p claims needs at there h lined placed alone_here laid split_alone keeps)
            (shapes_of.once a sch l well legal small kept all groups n first line g p claims needs at there h lined placed alone_here laid split_alone keeps) rs grid base k.head q.next
            es) q.known x f q.right named)

        over_at : (x : List ℕ) → In x rn → (f : Form) → form_named q.known x ≡ Some f → is_index_span scope (exactly f) ≡ true
        over_at x m f named =
            over_of cuts (shapes_of.others a sch l well legal small kept all groups n first line g p claims needs at there h lined placed alone_here laid split_alone keeps) (shapes_of.once
            a sch l well legal small kept all groups n first line g p claims needs at there h lined placed alone_here laid split_alone keeps) rs grid base xs ls
            (λ c m. shapes_of.fits a sch l well legal small kept all groups n first line g p claims needs at there h lined placed alone_here laid split_alone keeps c m) (shapes_of.wholes a
            sch l well legal small kept all groups n first line g p claims needs at there h lined placed alone_here laid split_alone keeps) (shapes_of.fit_of a sch l well legal small
            kept all groups n first line g p claims needs at there h lined placed alone_here laid split_alone keeps) ended_named Early blocks_kept roomy a plan cert n place_named claim_named
            (λ c m. shapes_of.inners a sch l well legal small kept all groups n first line g p claims needs at there h lined placed alone_here laid split_alone keeps c m) (λ c m x q e.
            (shapes_of.halves a sch l well legal small kept all groups n first line g p claims needs at there h lined placed alone_here laid split_alone keeps c m x q).1 e)
            k.head q.next es ts q.each (λ j i e f at_e at_f le lf name. q.once_each j i e f at_e at_f name)
            (λ j e at_e loop. let t = turn_of j e at_e loop in (shapes_of.named_here a sch l well legal small kept all groups n first line g p claims needs at there h lined placed
            alone_here laid split_alone keeps d q.body q.at).off_grid t.place e.turning t.there)
            (λ j e at_e loop y name leaf. let t = turn_of j e at_e loop in shapes_of.leaf_turn a sch l well legal small kept all groups n first line g p claims needs at there h lined placed
            alone_here laid split_alone keeps d q.body q.at t.place e.turning t.there y name leaf)
            (shapes_of.near_named a sch l well legal small kept all groups n first line g p claims needs at there h lined placed alone_here laid split_alone keeps)
            (λ x s e. shapes_of.dim_grid a sch l well legal small kept all groups n first line g p claims needs at there h lined placed alone_here laid split_alone keeps x s e
            (shapes_of.grids a sch l well legal small kept all groups n first line g p claims needs at there h lined placed alone_here laid split_alone keeps x (counted_from (low x) s) e).3)
            (shapes_of.dim_loop a sch l well legal small kept all groups n first line g p claims needs at there h lined placed alone_here laid split_alone keeps) (shapes_of.dim_block a sch
            l well legal small kept all groups n first line g p claims needs at there h lined placed alone_here laid split_alone keeps)
            shift_over (shapes_of.dim_split a sch l well legal small kept all groups n first line g p claims needs at there h lined
            placed alone_here laid split_alone keeps)
            head_over d pure_in known grid_there head_there q.low entry_there
            x (λ y leaf e. shapes_of.reduction_apart a sch l well legal small kept all groups n first line g p claims needs at there h lined placed alone_here laid split_alone keeps d
            q.body q.at x y m leaf e) off few_at f
            (found_all (Right cuts (shapes_of.others a sch l well legal small kept all groups n first line g p claims needs at there h lined placed alone_here laid split_alone keeps)
            (shapes_of.once a sch l well legal small kept all groups n first line g p claims needs at there h lined placed alone_here laid split_alone keeps) rs grid base k.head q.next
            es) q.known x f q.right named)
          where
            off : (f : Form) → form_named grid x ≡ Some f → ⊥
            off f e =
                let o = (shapes_of.grids a sch l well legal small kept all groups n first line g p claims needs at there h lined placed alone_here laid split_alone keeps x f e).3 in
                shapes_of.reduction_apart a sch l well legal small kept all groups n first line g p claims needs at there h lined placed alone_here laid split_alone keeps d q.body q.at x
                o.0.name m (shapes_of.leaf_of a sch l well legal small kept all groups n first line g p claims needs at there h lined placed alone_here laid split_alone keeps o.0 o.1) (sym o.2)

            few_at : (j : ℕ) (e : Entry) → slice_get es j ≡ Some e → is_loop e.line ≡ true → e.turning.name ≡ x → (unsigned_abs e.turning.low ≤ 2 ^ 20) × (unsigned_abs e.turning.last ≤ 2 ^ 20)
            few_at j e at_e loop name =
                let t = turn_of j e at_e loop in
                elim (shapes_of.part_of_turn a sch l well legal small kept all groups n first line g p claims needs at there h lined placed alone_here laid split_alone keeps d q.body q.at
                t.place e.turning t.there) [
                  | inl (o, r, serial, has, is) ↦
                      absurd (shapes_of.reduction_apart a sch l well legal small kept all groups n first line g p claims needs at there h lined placed alone_here laid split_alone keeps d
                      q.body q.at x o.name m (shapes_of.leaf_of a sch l well legal small kept all groups n first line g p claims needs at there h lined placed alone_here laid
                      split_alone keeps o r) (sym name ∙ ap (λ (z : Turning). z.name) is))
                  | inr (r, mr, is) ↦
                      subst (λ (z : Turning). (unsigned_abs z.low ≤ 2 ^ 20) × (unsigned_abs z.last ≤ 2 ^ 20)) (sym is)
                      (range_few r (all_in IsRange ranges r (shapes_of.within_here a sch l well legal small kept all groups n first line g p claims needs at there h lined placed alone_here
                      laid split_alone keeps d q.body q.at) mr))
                ]
              where
                range_few : (r : Range) → IsRange r → (unsigned_abs r.low ≤ 2 ^ 20) × (unsigned_abs r.high ≤ 2 ^ 20)
                range_few r is = (let from = is.from in let rises = is.rises in let to = is.to in (omega (arith, ints, from, rises, to), omega (arith, ints, from, rises, to)))

        pub ready_here : IsReadyNest Early R fs place_named claim_named xs rn d w known
        ready_here = record {
          names = q.known;
          body = q.body;
          missing = λ u defined.
              (let f = shapes_of.formula_here a sch l well legal small kept all groups n first line g p claims needs at there h lined placed alone_here laid split_alone keeps d q.body q.at
              in f.missing ∙ ap (λ (y : FormulaText). missing_from 0 y.at) (some_same f.formula u (sym f.at ∙ defined)));
          forms = q.forms ∙ ap (λ (ds : List Turning). variables_at q.body 0 xs q.known ++ ranges_at ds q.known) (shapes_of.ranges_are a sch l well legal small kept all groups n first line
              g p claims needs at there h lined placed alone_here laid split_alone keeps d q.body q.at)
              ∙ ap (λ (os : List (Option Form)). variables_at q.body 0 xs q.known ++ os) (map_names q.known ranges);
          each = right_at;
          over = over_at;
        }
