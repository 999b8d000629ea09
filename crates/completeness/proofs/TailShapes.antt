-- The loops of each definition's nest, and that the skeleton's nests are of these loops, of lets and of guards.
use Rattle.std.proofs.Common.{◌≡◌, ℕ, zero, suc, ◌+◌, ◌<◌, ◌≤◌, ◌^◌, Bool, true, false, List, [], ◌∷◌, ◌++◌, length, map}
use Rattle.std.proofs.Common.{Option, Some, None, refl, sym, ap, ◌∙◌, subst, inl, inr, ◌⊎◌, arith}
use Rattle.std.specs.Prelude.{ℤ, slice_get}
use Rattle.std.specs.List.{AllByRecursion}
use Rattle.std.specs.Int.RustNames.{unsigned_abs}
use Rattle.std.proofs.lemmas.Int.{ints}
use Rattle.plan.specs.declared.plan.Group.{Group as CodeGroup}
use Rattle.plan.specs.declared.stmt.Places.{Places}
use Rattle.plan.specs.declared.certificate.cert.Claim.{Claim as CodeClaim}
use Rattle.plan.specs.declared.certificate.cert.Need.{Need}
use Rattle.plan.specs.Plan.{Plan}
use Rattle.plan.specs.View.{plan_of, statement_of}
use Rattle.plan.specs.Lines.{lines, body_line}
use Rattle.meaning.specs.Algorithm.{Algorithm}
use Rattle.meaning.specs.Conditions.{IsAlgorithm}
use Rattle.meaning.specs.Names.{same_name}
use Rattle.soundness.specs.Claims.{In}
use Rattle.soundness.proofs.Refines.{name_refl, name_true}
use Rattle.headline.proofs.Regions.{at_in}
use Rattle.sched.specs.Schedule.{Schedule}
use Rattle.sched.specs.Legal.{IsLegal}
use Rattle.sched.specs.declared.schedule.Split.{Split}
use Rattle.sched.specs.declared.placing.Loop.{Loop as NestLoop}
use Rattle.sched.specs.declared.numbers.Numbers.{Numbers}
use Rattle.sched.specs.declared.skeleton.Known.{Known}
use Rattle.sched.specs.declared.skeleton.Step.{Step}
use Rattle.sched.specs.declared.nest.Turning.{Turning}
use Rattle.sched.specs.Numbers.{numbers_named, last_number, loop_numbers, parallel_loops, piece_counts}
use Rattle.sched.specs.Placing.{is_parallel}
use Rattle.sched.specs.Standing.{form_named}
use Rattle.sched.specs.Skeleton.{BodyText, SkeletonText, nest_turns, grid_forms}
use Rattle.lower.specs.declared.lowering.Lowered.{Lowered}
use Rattle.sched.specs.Stored.{FormulaText, StoredText}
use Rattle.lower.specs.Stored.{stored_functions, has_large}
use Rattle.regions.specs.Faults.{are_whole}
use Rattle.lower.specs.Faults.{region_fault}
use Rattle.regions.specs.Regions.{bodies_from}
use Rattle.lower.specs.Owning.{IsLaidBy}
use Rattle.blocks.specs.Blocks.{LayText, lay_over, dimension_of}
use Rattle.sched.specs.Fetches.{Entry as Fetched}
use Rattle.lower.specs.Groups.{HasBody, HasGroups}
use Rattle.lower.proofs.Blocking.{IsSmall, CutFits}
use Rattle.lower.proofs.Directed.{IsLeaf}
use Rattle.lower.proofs.Owners as owners
use Rattle.completeness.specs.Laws.{AreSplitOnce}
use Rattle.completeness.specs.Parted.{KeepsInner}
use Rattle.completeness.proofs.Halves.{AreOthers}
use Rattle.completeness.proofs.Lanes.{AreOnce}
use Rattle.completeness.proofs.PlainTurns.{hits, hits_once, itself, turn_name, one_if, hits_some}
use Rattle.completeness.proofs.PureNests.{all_slices, all_in, loop_name}
use Rattle.completeness.proofs.UpdateTurns.{hits_fewer}
use Rattle.completeness.proofs.GridTurns.{grid_none}
use Rattle.completeness.proofs.GridCounts.{IsShort}
use Rattle.completeness.proofs.BlockFacts.{serial_none}
use Rattle.meaning.specs.Algorithm.{Range}
use Rattle.meaning.specs.Conditions.{AreDistinct, IsRange}
use Rattle.sched.specs.Skeleton.{range_turning}
use Rattle.sched.specs.Around.{range_names}
use Rattle.completeness.proofs.Laid.{none_twice}
use Rattle.completeness.proofs.PlainTurns.{hits_append, found_some, found_there}
use Rattle.completeness.proofs.UpdateTurns.{known_update, ranges_turned}
use Rattle.completeness.proofs.BlockFacts.{made_new, among_end, names_in}
use Rattle.completeness.proofs.BlockRanges.{end_whole, reduced_in, IsLoopTurn, IsRangeTurn}
use Rattle.completeness.proofs.BlockRanges.{parts, turns_once as nest_once}
use Rattle.completeness.proofs.TailGroups as group
use Rattle.plan.specs.declared.stmt.Kind.TheVariants.{Serial, Vector}
use Rattle.sched.specs.declared.placing.Mark.{Mark}
use Rattle.sched.specs.declared.placing.Mark.TheVariants as mark
use Rattle.sched.specs.Placing.{is_shifted}
use Rattle.sched.specs.Skeleton.{kind_of}
use Rattle.sched.specs.Numbers.{is_too_short}
use Rattle.completeness.proofs.Halves.{IsInner, lanes_inner}
use Rattle.completeness.proofs.BlockNames.{LeafOf, IsTurnOf, IsForeign, IsNestTurn}
use Rattle.std.proofs.Common.{Option, None}
use Rattle.std.specs.Prelude.{pos, if◌then◌else◌, find}
use Rattle.std.specs.Option.{option_map}
use Rattle.lin.specs.declared.form.Multiple.{Multiple}
use Rattle.lin.specs.Forms.{Form, number, combined}
use Rattle.lin.proofs.Limits.{combined-means}
use Rattle.plan.specs.declared.stmt.Pick.TheVariants.{Min}
use Rattle.sched.specs.declared.skeleton.Step.{Step}
use Rattle.sched.specs.declared.skeleton.Step.TheVariants.{Named}
use Rattle.sched.specs.Standing.{counted_from, alone, room}
use Rattle.completeness.proofs.Searched.{one_of}
use Rattle.completeness.proofs.BlockSums.{start_is}
use Rattle.completeness.proofs.RisingSteps.{binders, few_steps}
use Rattle.headline.proofs.Lists.{at_map}
use Rattle.sched.specs.Numbers.{or_one, grid_counts}
use Rattle.soundness.specs.Binders.View.{grid_binders}
use Rattle.soundness.specs.Obligations.{Binder}
use Rattle.completeness.proofs.NestWalk.{lets_around}
use Rattle.completeness.proofs.HeadSeats.{HeadLet, HeadIs, head_is, around_from}
use Rattle.completeness.proofs.SplitTests.{IsBelow}
use Rattle.completeness.proofs.TailSkeletons.{AreNamed, AreTails, skeleton_tails}
use Rattle.completeness.proofs.Served.{roots}

pub hits_absent : {A : Type 0} (f : A → List ℕ) (y : List ℕ) (xs : List A) → ((x : A) → In x xs → f x ≡ y → ⊥) → hits f y xs ≡ 0
hits_absent f y [] h = refl
hits_absent f y (x ∷ xs) h = of (same_name (f x) y) refl (hits_absent f y xs (λ z m. h z (inr m)))
  where
    of : (b : Bool) → same_name (f x) y ≡ b → hits f y xs ≡ 0 → one_if b + hits f y xs ≡ 0
    of true e rest = absurd (h x (inl refl) (name_true (f x) y e))
    of false e rest = omega (arith, rest)

-- a name that stands at most once stands at one place
distinct_of : (xs : List (List ℕ)) → ((y : List ℕ) → hits itself y xs ≤ 1) → AreDistinct xs
distinct_of [] h i j x e f = absurd (cc e)
distinct_of (y ∷ ys) h zero zero x e f = refl
distinct_of (y ∷ ys) h zero (suc j) x e f =
    let is : y ≡ x = cc e in
    let here : one_if (same_name y x) ≡ 1 = ap one_if (ap (λ (z : List ℕ). same_name z x) is ∙ name_refl x) in
    let some = hits_some itself x ys (at_in ys j x f) in
    let few = h x in
    absurd (omega (arith, here, some, few))
distinct_of (y ∷ ys) h (suc i) zero x e f =
    let is : y ≡ x = cc f in
    let here : one_if (same_name y x) ≡ 1 = ap one_if (ap (λ (z : List ℕ). same_name z x) is ∙ name_refl x) in
    let some = hits_some itself x ys (at_in ys i x e) in
    let few = h x in
    absurd (omega (arith, here, some, few))
distinct_of (y ∷ ys) h (suc i) (suc j) x e f = ap suc (distinct_of ys (λ z. let few = h z in omega (arith, few)) i j x e f)

-- ---- groups

module _ (a : Algorithm) (sch : Schedule) (l : Lowered) (well : IsAlgorithm a) (legal : IsLegal a sch) (small : has_large (stored_functions a sch) ≡ false)
    (kept : region_fault a (stored_functions a sch) ≡ None) (all : are_whole (stored_functions a sch) ≡ true) (groups : HasGroups a (stored_functions a sch) l) where
  abbrev pub entries : List Fetched
  entries = roots a sch l well legal small kept all groups

  abbrev pub stored : List StoredText
  stored = stored_functions a sch

  abbrev pub made_groups : List CodeGroup
  made_groups = l.plan.groups.items

  abbrev pub items : List CodeClaim
  items = l.certificate.claims.items

  abbrev pub plan : Plan
  plan = plan_of l.plan

  module _ (n first line : ℕ) (g : StoredText) (p : CodeGroup) (claims : List CodeClaim) (needs : List Need) (at : slice_get stored n ≡ Some g) (there : slice_get made_groups n ≡ Some p)
      (h : HasBody a entries n first line g p claims needs) (lined : body_line plan n ≡ line + 1)
      (placed : (j : ℕ) (v : CodeClaim) → slice_get claims j ≡ Some v → slice_get items (first + j) ≡ Some v)
      (alone_here : (j : ℕ) (w : CodeClaim) → slice_get items j ≡ Some w → line < w.line → w.line < line + (lines (statement_of p.body) + 1) → In w claims)
      (laid : IsLaidBy g h.extents h.skeleton) (split_alone : AreSplitOnce g.placed.cuts) (keeps : KeepsInner g.placed.loops g.placed.cuts)
      (long : AllByRecursion (λ c. is_too_short (loop_numbers g.subject.variables g.placed.cuts h.extents) c ≡ false) g.placed.cuts) where
    abbrev pub k : SkeletonText
    k = h.skeleton

    abbrev pub fs : List FormulaText
    fs = h.formulas

    abbrev pub xs : List (List ℕ)
    xs = g.subject.variables

    abbrev pub ls : List NestLoop
    ls = g.placed.loops

    abbrev pub cuts : List Split
    cuts = g.placed.cuts

    abbrev pub rs : List Numbers
    rs = loop_numbers g.subject.variables g.placed.cuts h.extents

    abbrev pub bs : List BodyText
    bs = bodies_from g.changes 0 g.subject.reductions fs

    abbrev pub low : List ℕ → ℤ
    low x = (numbers_named rs x).low

    abbrev pub last : List ℕ → ℤ
    last x = last_number (numbers_named rs x)

    abbrev pub num : List ℕ → Numbers
    num x = numbers_named rs x

    abbrev pub lay : LayText
    lay = lay_over g h.extents k

    abbrev pub grid : List Known
    grid = grid_forms rs 0 (parallel_loops ls)

    abbrev pub place : List ℕ → Places
    place x = (dimension_of lay cuts x).places

    -- ---- what is so of the function

    abbrev pub others : AreOthers cuts
    others = group.others a sch l well legal small kept all groups n first line g p claims needs at there h lined placed alone_here laid split_alone keeps long

    abbrev pub once : AreOnce cuts
    once = group.once a sch l well legal small kept all groups n first line g p claims needs at there h lined placed alone_here laid split_alone keeps long

    abbrev pub halves : (c : Split) → In c cuts → (x : List ℕ) → In x xs → (x ≡ c.outer → ⊥) × (x ≡ c.inner → ⊥)
    halves = group.halves a sch l well legal small kept all groups n first line g p claims needs at there h lined placed alone_here laid split_alone keeps long

    abbrev pub outers : (c d : Split) → In c cuts → In d cuts → c.outer ≡ d.outer → c ≡ d
    outers = group.outers a sch l well legal small kept all groups n first line g p claims needs at there h lined placed alone_here laid split_alone keeps long

    abbrev pub gone : (c : Split) → In c cuts → (o : NestLoop) → In o ls → c.whole ≡ o.name → ⊥
    gone = group.gone a sch l well legal small kept all groups n first line g p claims needs at there h lined placed alone_here laid split_alone keeps long

    pub wholes : (c : Split) → In c cuts → In c.whole xs
    wholes = group.wholes a sch l well legal small kept all groups n first line g p claims needs at there h lined placed alone_here laid split_alone keeps long

    abbrev pub fits : (c : Split) → In c cuts → CutFits rs c
    fits = group.fits a sch l well legal small kept all groups n first line g p claims needs at there h lined placed alone_here laid split_alone keeps long

    pub single : (y : List ℕ) → hits loop_name y ls ≤ 1
    single = group.single a sch l well legal small kept all groups n first line g p claims needs at there h lined placed alone_here laid split_alone keeps long

    abbrev pub inners : (c : Split) → In c cuts → form_named grid c.inner ≡ None
    inners = group.inners a sch l well legal small kept all groups n first line g p claims needs at there h lined placed alone_here laid split_alone keeps long

    pub leaf_of : (o : NestLoop) → In o ls → LeafOf xs ls cuts rs others once halves outers gone o.name
    leaf_of = group.leaf_of a sch l well legal small kept all groups n first line g p claims needs at there h lined placed alone_here laid split_alone keeps long

    abbrev pub NumbersFit : List ℕ → Type 0
    NumbersFit x = IsSmall (num x) × (0 < (num x).count)

    pub fit_of : (x : List ℕ) → In x xs → NumbersFit x
    fit_of = group.fit_of a sch l well legal small kept all groups n first line g p claims needs at there h lined placed alone_here laid split_alone keeps long

    abbrev pub sized : (c : Split) → In c cuts → IsSmall (num c.whole) × (0 < (num c.whole).count)
    sized = group.sized a sch l well legal small kept all groups n first line g p claims needs at there h lined placed alone_here laid split_alone keeps long

    pub shorts : AllByRecursion IsShort k.grid
    shorts = group.shorts a sch l well legal small kept all groups n first line g p claims needs at there h lined placed alone_here laid split_alone keeps long

    pub near_named : (y : List ℕ) → LeafOf xs ls cuts rs others once halves outers gone y → (unsigned_abs (low y) ≤ 2 ^ 36) × (unsigned_abs (last y) ≤ 2 ^ 36)
    near_named = group.near_named a sch l well legal small kept all groups n first line g p claims needs at there h lined placed alone_here laid split_alone keeps long

    -- the loop's variable, by its dimension
    pub loop_leaf : (o : NestLoop) → In o ls → (x : List ℕ) × (slice_get xs o.dimension ≡ Some x) × ((x ≡ o.name) ⊎ ((c : Split) × In c cuts × (c.whole ≡ x) × ((o.name ≡ c.outer) ⊎ (o.name
        ≡ c.inner))))
    loop_leaf o m =
        let leaf : IsLeaf xs cuts o = all_in (IsLeaf xs cuts) ls o (owners.directed g h.extents k laid).leaves m in
        (leaf.variable, leaf.of, end_whole cuts once cuts (λ d q. q) leaf.variable o.name leaf.end)

    -- ---- a definition's loops

    module _ (b : BodyText) (ds : List Range) (reduced : (e : Range) → In e ds → In e.variable g.subject.reductions) (distinct : AreDistinct (xs ++ range_names ds)) (within : AllByRecursion
        IsRange ds)
        (ranged : b.ranges ≡ map range_turning ds) where
      abbrev pub ts : List Turning
      ts = nest_turns b rs ls

      -- ---- names

      pub both_once : (y : List ℕ) → hits itself y xs + hits itself y (range_names ds) ≤ 1
      both_once y =
          let one = hits_once (xs ++ range_names ds) y (none_twice (xs ++ range_names ds) distinct) in
          let two = hits_append itself y xs (range_names ds) in
          omega (arith, one, two)

      pub range_some : (es : List Range) (e : Range) → In e es → 1 ≤ hits itself e.variable (range_names es)
      range_some [] e m = absurd m
      range_some (d ∷ es) e (inl s) =
          let named : one_if (same_name d.variable e.variable) ≡ 1 = ap one_if (ap (λ (r : Range). same_name r.variable e.variable) (sym s) ∙ name_refl e.variable) in
          omega (arith, named)
      range_some (d ∷ es) e (inr m) = (let rest = range_some es e m in omega (arith, rest))

      pub range_apart : (e : Range) → In e ds → (x : List ℕ) → In x xs → e.variable ≡ x → ⊥
      range_apart e m x mx s =
          let one = range_some ds e m in
          let two : 1 ≤ hits itself e.variable xs = subst (λ (y : List ℕ). 1 ≤ hits itself y xs) (sym s) (hits_some itself x xs mx) in
          let three = both_once e.variable in
          absurd (omega (arith, one, two, three))

      pub range_half : (e : Range) → In e ds → (c : Split) → In c cuts → (e.variable ≡ c.outer) ⊎ (e.variable ≡ c.inner) → ⊥
      range_half e m c mc s =
          let used = among_end xs g.subject.reductions e.variable (names_in g.subject.reductions e.variable (reduced e m)) in
          let new = made_new cuts xs (xs ++ g.subject.reductions)
          (group.made_so a sch l well legal small kept all groups n first line g p claims needs at there h lined placed alone_here laid split_alone keeps long) e.variable used c mc in
          elim s [ inl r ↦ new.0 r | inr r ↦ new.1 r ]

      pub range_loop : (e : Range) → In e ds → (o : NestLoop) → In o ls → o.name ≡ e.variable → ⊥
      range_loop e m o mo s = of (leaf_of o mo)
        where
          of : LeafOf xs ls cuts rs others once halves outers gone o.name → ⊥
          of (inl mx) = range_apart e m o.name mx (sym s)
          of (inr (c, mc, inl r)) = range_half e m c mc (inl (sym s ∙ r))
          of (inr (c, mc, inr r)) = range_half e m c mc (inr (sym s ∙ r))

      pub range_absent : (e : Range) → In e ds → hits loop_name e.variable ls ≡ 0
      range_absent e m = hits_absent loop_name e.variable ls (λ o mo s. range_loop e m o mo s)

      pub range_own : (e : Range) → In e ds → form_named grid e.variable ≡ None
      range_own e m =
          let one = hits_fewer is_parallel e.variable ls in
          let two = range_absent e m in
          grid_none rs e.variable 0 (parallel_loops ls) (omega (arith, one, two))

      -- ---- loops

      abbrev pub part : (j : ℕ) (t : Turning) → slice_get ts j ≡ Some t → IsLoopTurn b rs ls ds ranged t ⊎ IsRangeTurn b rs ls ds ranged t
      part j t e = parts b rs ls ds ranged j t e

      pub loop_turn : (t : Turning) → IsLoopTurn b rs ls ds ranged t → IsTurnOf xs ls cuts rs others once halves outers gone grid t
      loop_turn t (o, mo, serial, has, is) =
          let name : o.name ≡ t.name = ap (λ (v : Turning). v.name) (sym is) in
          record {
            from = ap (λ (v : Turning). v.low) is ∙ ap low name;
            to = ap (λ (v : Turning). v.last) is ∙ ap last name;
            loop = o;
            there = mo;
            name = name;
            leaf = subst (LeafOf xs ls cuts rs others once halves outers gone) name (leaf_of o mo);
            own = ap (form_named grid) (sym name) ∙ grid_none rs o.name 0 (parallel_loops ls) (serial_none o ls mo serial (single o.name));
          }

      pub range_turn : (t : Turning) → IsRangeTurn b rs ls ds ranged t → IsForeign xs ls cuts rs others once halves outers gone grid t
      range_turn t (e, m, is) =
          let name : e.variable ≡ t.name = ap (λ (v : Turning). v.name) (sym is) in
          record {
            own = ap (form_named grid) (sym name) ∙ range_own e m;
            apart = λ x mx s. range_apart e m x mx (name ∙ s);
            whole = λ c mc s. range_apart e m c.whole (wholes c mc) (name ∙ s);
            half = λ c mc s. range_half e m c mc (subst (λ (y : List ℕ). (y ≡ c.outer) ⊎ (y ≡ c.inner)) (sym name) s);
          }

      abbrev pub turns : (j : ℕ) (t : Turning) → slice_get ts j ≡ Some t → IsNestTurn xs ls cuts rs others once halves outers gone grid t
      turns j t e = elim (part j t e) [ inl o ↦ inl (loop_turn t o) | inr o ↦ inr (range_turn t o) ]

      pub ranges_alone : (y : List ℕ) → hits itself y (range_names ds) ≤ 1
      ranges_alone y = (let one = both_once y in omega (arith, one))

      pub ranges_away : (y : List ℕ) → 1 ≤ hits itself y (range_names ds) → hits loop_name y ls ≡ 0
      ranges_away y some = (let r = range_of ds (λ e m. m) some in subst (λ (z : List ℕ). hits loop_name z ls ≡ 0) r.2 (range_absent r.0 r.1))
        where
          range_of : (es : List Range) → ((e : Range) → In e es → In e ds) → 1 ≤ hits itself y (range_names es) → (e : Range) × In e ds × (e.variable ≡ y)
          range_of [] sub some = absurd (omega (arith, some))
          range_of (e ∷ es) sub some = of (same_name e.variable y) refl some (λ k. range_of es (λ d m. sub d (inr m)) k)
            where
              of : (v : Bool) → same_name e.variable y ≡ v → 1 ≤ one_if v + hits itself y (range_names es) → (1 ≤ hits itself y (range_names es) → (e : Range) × In e ds × (e.variable ≡ y)) →
                  (e : Range) × In e ds × (e.variable ≡ y)
              of true s k rest = (e, sub e (inl refl), name_true e.variable y s)
              of false s k rest = rest (omega (arith, k))

      pub turns_alone : (y : List ℕ) → hits turn_name y ts ≤ 1
      turns_alone y = nest_once b rs ls ds ranged single ranges_alone ranges_away y

      abbrev pub same_places : (j j' : ℕ) (t u : Turning) → slice_get ts j ≡ Some t → slice_get ts j' ≡ Some u → t.name ≡ u.name → j ≡ j'
      same_places j j' t u e d s =
          let r = found_some ts t.name (hits_some turn_name t ts (at_in ts j t e)) in
          let one = found_there ts t.name r.0 j t (turns_alone t.name) r.1 e (name_refl t.name) in
          let two = found_there ts t.name r.0 j' u (turns_alone t.name) r.1 d (ap (λ (y : List ℕ). same_name y t.name) (sym s) ∙ name_refl t.name) in
          sym one ∙ two

      pub near : (j : ℕ) (t : Turning) → slice_get ts j ≡ Some t → (unsigned_abs t.low ≤ 2 ^ 36) × (unsigned_abs t.last ≤ 2 ^ 36)
      near j t e = of (part j t e)
        where
          of : IsLoopTurn b rs ls ds ranged t ⊎ IsRangeTurn b rs ls ds ranged t → (unsigned_abs t.low ≤ 2 ^ 36) × (unsigned_abs t.last ≤ 2 ^ 36)
          of (inl r) =
              let o = loop_turn t r in
              let ends = near_named t.name o.leaf in
              (subst (λ (z : ℤ). unsigned_abs z ≤ 2 ^ 36) (sym o.from) ends.0, subst (λ (z : ℤ). unsigned_abs z ≤ 2 ^ 36) (sym o.to) ends.1)
          of (inr (d, m, is)) =
              let r : IsRange d = all_in IsRange ds d within m in
              let from = r.from in
              let rises = r.rises in
              let to = r.to in
              let ends : (unsigned_abs d.low ≤ 2 ^ 36) × (unsigned_abs d.high ≤ 2 ^ 36) = (omega (arith, ints, from, rises, to), omega (arith, ints, from, rises, to)) in
              (subst (λ (v : Turning). unsigned_abs v.low ≤ 2 ^ 36) (sym is) ends.0, subst (λ (v : Turning). unsigned_abs v.last ≤ 2 ^ 36) (sym is) ends.1)

      -- a vectorised loop is the inner one of a split
      pub lanes : (j : ℕ) (t : Turning) → slice_get ts j ≡ Some t → t.kind ≡ Vector → IsInner cuts t.name
      lanes j t e v = of (part j t e)
        where
          marked : (m : Option Mark) → kind_of m ≡ Vector → m ≡ Some mark.Vectorized
          marked (Some mark.Vectorized) q = refl
          marked (Some mark.Unrolled) q = absurd (cc q)
          marked (Some mark.Parallel) q = absurd (cc q)
          marked None q = absurd (cc q)

          of : IsLoopTurn b rs ls ds ranged t ⊎ IsRangeTurn b rs ls ds ranged t → IsInner cuts t.name
          of (inl (o, mo, serial, has, is)) =
              let kind : kind_of o.mark ≡ Vector = sym (ap (λ (u : Turning). u.kind) is) ∙ v in
              subst (IsInner cuts) (sym (ap (λ (u : Turning). u.name) is)) (lanes_inner g.placed (group.is_named a sch l well legal small kept all groups n first line g p claims needs at
              there h lined placed alone_here laid split_alone keeps long) o mo (ap (λ (m : Option Mark). elim m [ Some mark.Vectorized ↦ true | _ ↦ false ]) (marked o.mark kind)))
          of (inr (d, m, is)) = (let clash : Serial ≡ Vector = sym (ap (λ (u : Turning). u.kind) is) ∙ v in absurd (cc clash))

      pub named_here : AreNamed cuts grid ts
      named_here = record {
        unique = same_places;
        apart = λ j t e c m q. elim (turns j t e) [ inl o ↦ gone c m o.loop o.there (sym q ∙ sym o.name) | inr o ↦ o.whole c m q ];
        off_grid = λ j t e. elim (turns j t e) [ inl o ↦ o.own | inr o ↦ o.own ];
        lanes = lanes;
      }

    formula_at : (us : List _) (d : ℕ) (names : List (List ℕ)) (forms : List FormulaText) (j : ℕ) (b : BodyText) → slice_get (bodies_from us d names forms) j ≡ Some b →
        (f : FormulaText) × (slice_get forms j ≡ Some f)
    formula_at us d names [] j b e = absurd (cc e)
    formula_at us d names (f ∷ forms) zero b e = (f, refl)
    formula_at us d names (f ∷ forms) (suc j) b e = formula_at us (d + 1) _ forms j b e

    -- so it is of all
    named_all : (d : ℕ) (b : BodyText) → slice_get bs d ≡ Some b → AreNamed cuts grid (nest_turns b rs ls)
    named_all zero b e =
        let none : b.ranges ≡ [] = group.bare_ranges a sch l well legal small kept all groups n first line g p claims needs at there h lined placed alone_here laid split_alone keeps long b e in
        named_here b [] (λ e m. absurd m) (subst AreDistinct (no_more xs) (distinct_of xs (group.names_apart a sch l well legal small kept all groups n first line g p claims needs at there
        h lined placed alone_here laid split_alone keeps long))) tt none
      where
        no_more : (ys : List (List ℕ)) → ys ≡ ys ++ []
        no_more [] = refl
        no_more (y ∷ ys) = ap (λ (zs : List (List ℕ)). y ∷ zs) (no_more ys)
    named_all (suc i) b e =
        let f = formula_at g.changes 0 g.subject.reductions fs (suc i) b e in
        let u = known_update a sch well n g at fs h.defined i f.0 f.1 in
        named_here b u.change.ranges (λ r m. subst (In r.variable) (sym u.reductions) (reduced_in g.changes i r (subst (In r) (sym u.ranges) m))) u.names u.within
        (ranges_turned g.changes fs (suc i) b (ap (λ (names : List (List ℕ)). slice_get (bodies_from g.changes 0 names fs) (suc i)) (sym u.reductions) ∙ e) ∙ ap (map range_turning) u.ranges)

    pub shape : AreTails xs bs g.placed others once rs k
    shape =
        skeleton_tails xs bs g.placed h.extents k others once (group.single_over a sch l well legal small kept all groups n first line g p claims needs at there h lined placed alone_here
        laid split_alone keeps long) inners (λ c m. (fits c m).some) outers (group.outers_there a sch l well legal small kept all groups n first line g p claims needs at there h
        lined placed alone_here laid split_alone keeps long) named_all h.laid

    -- ---- lets over the grid

    abbrev pub first_symbol : List Multiple → ℕ
    first_symbol [] = 0
    first_symbol (t ∷ more) = t.symbol

    abbrev pub symbol_of : Form → ℕ
    symbol_of f = first_symbol f.terms

    abbrev pub step_symbol : Step → ℕ
    step_symbol (Named s pick (f ∷ more)) = symbol_of f
    step_symbol _ = 0

    abbrev pub base : ℕ
    base = length (piece_counts rs ls)

    -- a let is over the form of a loop of the grid
    head_form : (c : Split) → In c cuts → (s : ℕ) (f : Form) → combined (number (low c.whole)) (pos c.factor) (counted_from (pos 0) s) ≡ Some f → f ≡ one_of (low c.whole) (pos c.factor) s
    head_form c m s f e = (combined-means (number (low c.whole)) (pos c.factor) (alone s) f e).is ∙ start_is (low c.whole) c.factor s (fits c m).some

    -- each is the lesser of where a shifted split's block began and of where the last one has room; and its symbol is the first number of the block
    pub record IsHeadLet (j : ℕ) (step : Step) : Type 0 where
      pub split : Split
      pub among : In split cuts
      pub shifted : is_shifted split ≡ true
      pub symbol : ℕ
      pub less : symbol < base
      pub over : form_named grid split.outer ≡ Some (counted_from (pos 0) symbol)
      pub is : step ≡ Named (base + j) Min (one_of (low split.whole) (pos split.factor) symbol ∷ number (room (num split.whole) split.factor) ∷ [])
      pub start : form_named k.starts split.whole ≡ Some (alone (base + j))

    pub head_there : (j : ℕ) (step : Step) → slice_get k.head j ≡ Some step → IsHeadLet j step
    head_there j step e =
        let both = shape.firsts j step e in
        let r = both.0 in
        let o = group.outers_there a sch l well legal small kept all groups n first line g p claims needs at there h lined placed alone_here laid split_alone keeps long r.split r.among
        r.outer r.by_outer in
        let form = head_form r.split r.among o.0 r.form (ap (combined (number (low r.split.whole)) (pos r.split.factor)) (sym o.1) ∙ r.begins) in
        record {
          split = r.split;
          among = r.among;
          shifted = r.shifted;
          symbol = o.0;
          less = o.2;
          over = r.by_outer ∙ ap (λ (f : Form). Some f) o.1;
          is = r.is ∙ ap (λ (f : Form). Named (base + j) Min (f ∷ number (room (num r.split.whole) r.split.factor) ∷ [])) form;
          start = both.1;
        }

    -- a symbol of the grid is that of one loop
    grid_at : (s : ℕ) (os : List NestLoop) (x : List ℕ) (f : Form) → form_named (grid_forms rs s os) x ≡ Some f →
        (j : ℕ) × (o : NestLoop) × (slice_get os j ≡ Some o) × (o.name ≡ x) × (symbol_of f ≡ s + j)
    grid_at s [] x f e = absurd (cc e)
    grid_at s (o ∷ os) x f e = of (same_name o.name x) refl e (grid_at (s + 1) os x f)
      where
        of : (b : Bool) → same_name o.name x ≡ b →
            option_map (λ (k : Known). k.form) (if b then Some (record { name = o.name; form = counted_from (low o.name) s }) else find (λ (k : Known). same_name k.name x) (grid_forms rs (s + 1) os))
            ≡ Some f → (form_named (grid_forms rs (s + 1) os) x ≡ Some f → (j : ℕ) × (v : NestLoop) × (slice_get os j ≡ Some v) × (v.name ≡ x) × (symbol_of f ≡ (s + 1) + j)) →
            (j : ℕ) × (v : NestLoop) × (slice_get (o ∷ os) j ≡ Some v) × (v.name ≡ x) × (symbol_of f ≡ s + j)
        of true name q rest =
            let form : counted_from (low o.name) s ≡ f = cc q in
            (0, o, refl, name_true o.name x name, ap symbol_of (sym form) ∙ omega arith)
        of false name q rest = (let r = rest q in let place = r.4 in (suc r.0, r.1, r.2, r.3, omega (arith, place)))

    same_over : (x y : List ℕ) (s : ℕ) → form_named grid x ≡ Some (counted_from (pos 0) s) → form_named grid y ≡ Some (counted_from (pos 0) s) → x ≡ y
    same_over x y s e d =
        let a = grid_at 0 (parallel_loops ls) x (counted_from (pos 0) s) e in
        let b = grid_at 0 (parallel_loops ls) y (counted_from (pos 0) s) d in
        let first_place = a.4 in
        let second_place = b.4 in
        let place : a.0 ≡ b.0 = omega (arith, first_place, second_place) in
        let both : Some a.1 ≡ Some b.1 = sym a.2 ∙ ap (slice_get (parallel_loops ls)) place ∙ b.2 in
        let loops : a.1 ≡ b.1 = cc both in
        sym a.3 ∙ ap (λ (o : NestLoop). o.name) loops ∙ b.3

    -- and the piece has as many turns as that loop
    pub counted_at : (x : List ℕ) (s : ℕ) → form_named grid x ≡ Some (counted_from (pos 0) s) → slice_get k.grid s ≡ Some (num x).count
    counted_at x s e =
        let a = grid_at 0 (parallel_loops ls) x (counted_from (pos 0) s) e in
        let first_place = a.4 in
        let place : a.0 ≡ s = omega (arith, first_place) in
        ap (λ (ns : List ℕ). slice_get ns s) shape.grid ∙ ap (slice_get (piece_counts rs ls)) (sym place) ∙ of (parallel_loops ls) a.0 a.1 a.2 ∙ ap (λ (y : List ℕ). Some (num y).count) a.3
      where
        of : (os : List NestLoop) (j : ℕ) (o : NestLoop) → slice_get os j ≡ Some o → slice_get (or_one (grid_counts rs os)) j ≡ Some (num o.name).count
        of [] j o e = absurd (cc e)
        of (v ∷ os) j o e = at_map (λ (o : NestLoop). (numbers_named rs o.name).count) (v ∷ os) j o e

    -- the let of a split over the symbol of its outer loop is where its block begins
    pub head_start : (c : Split) → In c cuts → (s : ℕ) → form_named grid c.outer ≡ Some (counted_from (pos 0) s) → (j : ℕ) (z : ℤ) →
        slice_get k.head j ≡ Some (Named (base + j) Min (one_of (low c.whole) (pos c.factor) s ∷ number z ∷ [])) → form_named k.starts c.whole ≡ Some (alone (base + j))
    head_start c m s over j z e =
        let r = head_there j (Named (base + j) Min (one_of (low c.whole) (pos c.factor) s ∷ number z ∷ [])) e in
        let symbols : s ≡ r.symbol = ap step_symbol r.is in
        let outer : r.split.outer ≡ c.outer = same_over r.split.outer c.outer s (r.over ∙ ap (λ (i : ℕ). Some (counted_from (pos 0) i)) (sym symbols)) over in
        let same_split : r.split ≡ c = outers r.split c r.among m outer in
        subst (λ (d : Split). form_named k.starts d.whole ≡ Some (alone (base + j))) same_split r.start

    pub head_lets : HeadIs base k.head
    head_lets = head_is base k.head (λ j step e. (let r = head_there j step e in (
      record { form = one_of (low r.split.whole) (pos r.split.factor) r.symbol; room = room (num r.split.whole) r.split.factor },
      r.is,
    )))

    -- what is bound around a nest
    abbrev pub around : List Binder
    around = around_from (length k.grid) head_lets.lets (grid_binders k.grid)

    pub around_is : lets_around k.head (grid_binders k.grid) ≡ around
    around_is = head_lets.around (grid_binders k.grid) ∙ ap (λ (m : ℕ). around_from m head_lets.lets (grid_binders k.grid)) (sym (ap length shape.grid))

    -- each is over symbols of the grid alone
    pub head_below : (m : ℕ) → base ≤ m → AllByRecursion (λ l. IsBelow m l.form) head_lets.lets
    head_below m most = all_slices (λ l. IsBelow m l.form) head_lets.lets (λ j l at_j. of j l at_j (step_at k.head j (fewer head_lets.lets j l at_j)))
      where
        fewer : (us : List HeadLet) (j : ℕ) (l : HeadLet) → slice_get us j ≡ Some l → j < length us
        fewer [] j l e = absurd (cc e)
        fewer (u ∷ us) zero l e = omega arith
        fewer (u ∷ us) (suc j) l e = (let rest = fewer us j l e in omega (arith, rest))

        step_at : (ss : List Step) (j : ℕ) → j < length head_lets.lets → (length head_lets.lets ≡ length ss) → (step : Step) × (slice_get ss j ≡ Some step)
        step_at ss j less long = get ss j (omega (arith, less, long))
          where
            get : (ss : List Step) (j : ℕ) → j < length ss → (step : Step) × (slice_get ss j ≡ Some step)
            get [] j less = absurd (omega (arith, less))
            get (s ∷ ss) zero less = (s, refl)
            get (s ∷ ss) (suc j) less = get ss j (omega (arith, less))

        of : (j : ℕ) (l : HeadLet) → slice_get head_lets.lets j ≡ Some l → ((length head_lets.lets ≡ length k.head) → (step : Step) × (slice_get k.head j ≡ Some step)) → IsBelow m l.form
        of j l at_j step =
            let s = step head_lets.long in
            let r = head_there j s.0 s.1 in
            let less = r.less in
            let made : HeadLet = record { form = one_of (low r.split.whole) (pos r.split.factor) r.symbol; room = room (num r.split.whole) r.split.factor } in
            let there_too : slice_get head_lets.lets j ≡ Some made = head_lets.there j made (s.1 ∙ ap (λ (q : Step). Some q) r.is) in
            let both : Some made ≡ Some l = sym there_too ∙ at_j in
            let same_let : made ≡ l = cc both in
            subst (λ (q : HeadLet). IsBelow m q.form) same_let (omega (arith, less, most), tt)

    -- they are few
    pub few_head : length k.head ≤ 6
    few_head =
        let few = (few_steps xs bs g.placed h.extents k h.laid).few_symbols in
        let splits = group.few_cuts a sch l well legal small kept all groups n first line g p claims needs at there h lined placed alone_here laid split_alone keeps long in
        let each = all_named 0 k.head (λ j step e. (let r = head_there j step e in (
          base + j,
          one_of (low r.split.whole) (pos r.split.factor) r.symbol ∷ number (room (num r.split.whole) r.split.factor) ∷ [],
          r.is,
        ))) in
        omega (arith, few, splits, each)
      where
        all_named : (i : ℕ) (ss : List Step) → ((j : ℕ) (step : Step) → slice_get ss j ≡ Some step → (s : ℕ) × (forms : List Form) × (step ≡ Named s Min forms)) → length ss ≤ binders ss
        all_named i [] every = omega arith
        all_named i (s ∷ ss) every =
            let one = every 0 s refl in
            let rest = all_named (i + 1) ss (λ j step e. every (suc j) step e) in
            subst (λ (q : Step). length (q ∷ ss) ≤ binders (q ∷ ss)) (sym one.2) (omega (arith, rest))

    -- the variables have names of their own
    pub distinct_here : AreDistinct xs
    distinct_here = distinct_of xs (group.names_apart a sch l well legal small kept all groups n first line g p claims needs at there h lined placed alone_here laid split_alone keeps long)
