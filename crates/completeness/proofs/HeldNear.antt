-- Whatever a function fetches, all numbers of each dimension hold its calls, where each of its definitions sets each variable at its own place, and around each store all symbols are of loops
-- over some numbers near 0.
use Rattle.std.proofs.Common.{◌≡◌, ℕ, zero, suc, ◌+◌, Bool, true, false, not, List, [], ◌∷◌, ◌++◌, length, map, Option, Some, None, IsSome, refl, sym, ap, ◌∙◌, subst, inr, append-nil, arith}
use Rattle.std.specs.Prelude.{◌==◌, ◌≤ℤ◌, slice_get, ℤ}
use Rattle.std.specs.List.{AllByRecursion, flat_map}
use Rattle.std.proofs.lemmas.List.{length-map, length-append}
use Rattle.numeric.specs.declared.ty.Ty.{Ty}
use Rattle.numeric.specs.declared.ty.Ty.TheVariants.{I32}
use Rattle.tree.specs.Term.{Term, Terms}
use Rattle.tree.specs.Typing.{type_of}
use Rattle.lin.specs.declared.span.Span1.{Span1}
use Rattle.lin.specs.Spans.{IsInSpan}
use Rattle.bounds.proofs.ListSound.{all-append}
use Rattle.tree.specs.Names.{IsIndex}
use Rattle.lin.proofs.TermLemmas.{all_weaker}
use Rattle.meaning.specs.Algorithm.{Range, Function, Algorithm}
use Rattle.meaning.specs.Names.{is_among}
use Rattle.meaning.specs.Conditions.{AreDistinct, IsRange, IsAlgorithm, callable}
use Rattle.soundness.proofs.Refines.{and_parts, eq_refl}
use Rattle.algo.specs.Scoping.Standing.{Written, calls_of}
use Rattle.sched.specs.Schedule.{Schedule}
use Rattle.sched.specs.Legal.{IsLegal}
use Rattle.sched.specs.Subjects.{reductions_of}
use Rattle.sched.specs.declared.nest.Turning.{Turning}
use Rattle.sched.specs.declared.skeleton.Known.{Known}
use Rattle.sched.specs.Skeleton.{BodyText, NestText, SkeletonText, range_turning, variables_at, ranges_at}
use Rattle.sched.specs.Standing.{form_named}
use Rattle.sched.proofs.Arriving.{skeletal}
use Rattle.lower.specs.declared.lowering.Lowered.{Lowered}
use Rattle.sched.specs.Called.{called}
use Rattle.sched.specs.Stored.{FormulaText, StoredText, left_at, calls_left, calls_in}
use Rattle.regions.specs.Stored.{some_calls}
use Rattle.blocks.specs.Stored.{flags, formulas_put}
use Rattle.lower.specs.Stored.{stored_functions, has_large}
use Rattle.sched.specs.Around.{AroundText, interval_in, range_names, ranges_of, names_with, head_scope, bind_steps, left_around, around, coordinates_behind}
use Rattle.regions.specs.Faults.{are_whole}
use Rattle.lower.specs.Faults.{region_fault}
use Rattle.sched.specs.Regions.{LaidText}
use Rattle.regions.specs.Regions.{ends_of, are_within, bodies_from, skeleton_of, laid_functions}
use Rattle.lower.specs.Groups.{HasGroups}
use Rattle.lower.proofs.Extents.{region_is}
use Rattle.completeness.specs.Stores.{AreHeld}
use Rattle.completeness.proofs.Standing.{names_own}
use Rattle.completeness.proofs.Laid.{IsStoredOf, subjects, found}
use Rattle.completeness.proofs.Owned.{some_same}
use Rattle.completeness.proofs.Served.{ls as regions_found, ready as all_ready}
use Rattle.completeness.proofs.Bodies.{entry_at}
use Rattle.completeness.proofs.Earlier.{called_before}
use Rattle.completeness.proofs.ClaimLines.{known_stored}
use Rattle.completeness.proofs.StoreLines.{named_callable}
use Rattle.completeness.proofs.Written.{IsWritten, LeftIsOver, written, variables_long}
use Rattle.completeness.proofs.RangedLefts.{left_got, left_typed}
use Rattle.completeness.proofs.LeftNumbers.{ordered, spans_in, around_ordered, around_value}
use Rattle.completeness.proofs.Standing.{Taken}
use Rattle.blocks.proofs.Laying.{bound, same}
use Rattle.completeness.proofs.UpdateTurns.{known_update, ranges_turned, all_mapped}
use Rattle.completeness.proofs.LoadedTerms.{IsTypedCall, calls_typed}
use Rattle.completeness.proofs.StoreBounds.{called_is}
use Rattle.completeness.proofs.RegionBounds.{region_ends}
use Rattle.completeness.proofs.Sited.{sites_only}
use Rattle.completeness.proofs.CallEnds.{calls_ended}
use Rattle.completeness.proofs.NearBoxes.{IsBoxTurn}
use Rattle.completeness.proofs.RangedBoxes.{range_box}
use Rattle.completeness.proofs.HeldWhole.{AreCallsLight, all_calls}
use Rattle.completeness.proofs.HeldAll.{IsNearNest, sites_held}
use Rattle.completeness.proofs.Boxes.{AreBoxes, IsLightSpan}
use Rattle.completeness.proofs.FirstNumbers.{firsts, number_at}

-- the coordinates of a nest are what names stand for there
pub record IsFormed (xs : List (List ℕ)) (bs : List BodyText) (d : ℕ) (w : NestText) : Type 0 where
  pub body : BodyText
  pub at : slice_get bs d ≡ Some body
  pub known : List Known
  pub forms : w.at ≡ variables_at body 0 xs known ++ ranges_at body.ranges known

abbrev pub Ends : Type 0
Ends = Taken _ _ are_within

-- what stands around a store: boxes; each coordinate is a number of 32 bits at their first numbers; and what the indices of this definition's calls, and its left indices, stay within is light
pub record IsIndexed (a : Algorithm) (u : StoredText) (fs : List FormulaText) (k : SkeletonText) (d : ℕ) (w : NestText) : Type 0 where
  pub boxes : AreBoxes (bind_steps (head_scope k) w.steps)
  pub indices : AllByRecursion IsIndex (map (number_at (firsts (bind_steps (head_scope k) w.steps))) w.at)
  pub light : (f : FormulaText) → slice_get fs d ≡ Some f → (r : AroundText) → around a u (head_scope k) w f d ≡ Some r → AreCallsLight a r (calls_in f)
  pub lefts : (f : FormulaText) → slice_get fs d ≡ Some f → (j : ℕ) (e : Term) → left_at f j ≡ Some e → (s : Span1) → interval_in a (left_around u (head_scope k) w d) e ≡ Some s →
      IsLightSpan (bind_steps (head_scope k) w.steps) s

not_same : (b : Bool) → b ≡ true → not b ≡ true → ⊥
not_same true e q = cc q
not_same false e q = cc e

module _ (a : Algorithm) (sch : Schedule) (l : Lowered) (well : IsAlgorithm a) (legal : IsLegal a sch) (small : has_large (stored_functions a sch) ≡ false)
    (kept : region_fault a (stored_functions a sch) ≡ None) (all : are_whole (stored_functions a sch) ≡ true) (groups : HasGroups a (stored_functions a sch) l) where
  abbrev pub gs : List StoredText
  gs = stored_functions a sch

  abbrev pub st : List Bool
  st = flags (subjects a sch)

  module _ (n : ℕ) (u : StoredText) (at : slice_get gs n ≡ Some u) (fs : List FormulaText) (defined : u.formulas ≡ Some fs) (m : LaidText)
      (laid : slice_get (laid_functions a gs) n ≡ Some (Some m)) (over : skeleton_of u fs m.region ≡ Some m.skeleton)
      (formed : (d : ℕ) (w : NestText) → slice_get m.skeleton.nests d ≡ Some w → IsFormed u.subject.variables (bodies_from u.changes 0 u.subject.reductions fs) d w)
      (boxed : (d : ℕ) (w : NestText) → slice_get m.skeleton.nests d ≡ Some w →
      ((b : BodyText) → slice_get (bodies_from u.changes 0 u.subject.reductions fs) d ≡ Some b → AllByRecursion IsBoxTurn b.ranges) → IsIndexed a u fs m.skeleton d w) where
    abbrev pub k : SkeletonText
    k = m.skeleton

    abbrev pub bs : List BodyText
    bs = bodies_from u.changes 0 u.subject.reductions fs

    abbrev pub xs : List (List ℕ)
    xs = u.subject.variables

    abbrev pub names : ℕ → List (List ℕ)
    names d = names_with u.variables u.changes d

    abbrev pub w : IsStoredOf a sch st a.functions u
    w = found a sch st u a.functions n at

    abbrev pub f : Function
    f = w.function

    pub put_there : formulas_put a st f.variables f.value f.changes ≡ Some fs
    put_there = ap (λ (y : StoredText). y.formulas) (sym w.is) ∙ defined

    reductions : u.subject.reductions ≡ reductions_of u.changes
    reductions = ap (λ (y : StoredText). y.subject.reductions) w.is ∙ sym (ap (λ (y : StoredText). reductions_of y.changes) w.is)

    pub variables_are : u.variables ≡ xs
    variables_are = ap (λ (y : StoredText). y.variables) w.is ∙ sym (ap (λ (y : StoredText). y.subject.variables) w.is)

    -- ---- reduction variables

    ranges_within : (d : ℕ) (v : FormulaText) → slice_get fs d ≡ Some v → AllByRecursion IsRange (ranges_of u.changes d)
    ranges_within zero v there = tt
    ranges_within (suc i) v there =
        let y = known_update a sch well n u at fs defined i v there in
        subst (AllByRecursion IsRange) (sym y.ranges) y.within

    pub apart : (d : ℕ) (v : FormulaText) → slice_get fs d ≡ Some v → AreDistinct (names d)
    apart zero v there =
        subst (λ (y : StoredText). AreDistinct (names_with y.variables y.changes 0)) (sym w.is) (subst AreDistinct (sym (append-nil f.variables)) (well.functions w.place f w.at).names)
    apart (suc i) v there =
        let y = known_update a sch well n u at fs defined i v there in
        let are : names (suc i) ≡ xs ++ range_names y.change.ranges = λ j. variables_are j ++ range_names (y.ranges j) in
        subst AreDistinct (sym are) y.names

    -- ---- a definition and its nest

    abbrev pub Typed : List (List ℕ) → (List ℕ → Option (Ty × ℕ)) → List Written → Type 0
    Typed ns functions cs = AllByRecursion (λ (c : Written). IsTypedCall (is_among ns) functions c.name c.at) cs

    module _ (d : ℕ) (formula : FormulaText) (nest : NestText) (there : slice_get fs d ≡ Some formula) (stands : slice_get k.nests d ≡ Some nest) where
      pub ranges_are : (b : BodyText) → slice_get bs d ≡ Some b → b.ranges ≡ map range_turning (ranges_of u.changes d)
      ranges_are b e = ranges_turned u.changes fs d b (ap (λ (rs : List (List ℕ)). slice_get (bodies_from u.changes 0 rs fs) d) (sym reductions) ∙ e)

      pub ranges_box : (b : BodyText) → slice_get bs d ≡ Some b → AllByRecursion IsBoxTurn b.ranges
      ranges_box b e =
          let each = all_weaker IsRange (λ r. IsBoxTurn (range_turning r)) range_box (ranges_of u.changes d) (ranges_within d formula there) in
          subst (AllByRecursion IsBoxTurn) (sym (ranges_are b e)) (all_mapped range_turning IsBoxTurn (ranges_of u.changes d) each)

      pub boxes : IsIndexed a u fs k d nest
      boxes = boxed d nest stands ranges_box

      pub long : length (names d) ≡ length nest.at
      long =
          let p = formed d nest stands in
          let forms = ap length p.forms in
          let parts = length-append (variables_at p.body 0 xs p.known) (ranges_at p.body.ranges p.known) in
          let first = variables_long p.body 0 xs p.known in
          let second = length-map p.body.ranges (λ (t : Turning). form_named p.known t.name) in
          let turned = ap length (ranges_are p.body p.at) in
          let many = length-map (ranges_of u.changes d) range_turning in
          let all_names = length-append u.variables (range_names (ranges_of u.changes d)) in
          let range_many = length-map (ranges_of u.changes d) (λ (r : Range). r.variable) in
          let variables = ap length variables_are in
          omega (arith, forms, parts, first, second, turned, many, all_names, range_many, variables)

      -- a left index is an i32
      lefts_typed : (j : ℕ) (e : Term) → left_at formula j ≡ Some e → type_of (is_among (names d)) (called a) e ≡ Some I32
      lefts_typed j e at_j =
          let wide = (left_typed a well w.place f w.at st fs put_there d formula there j e (left_got formula j e at_j)).1 in
          let here : type_of (is_among (names_with f.variables f.changes d)) (called a) e ≡ Some I32 = ap (λ (g : List ℕ → Option (Ty × ℕ)). type_of (is_among (names_with f.variables
          f.changes d)) g e)
          (called_is a) ∙ wide in
          subst (λ (ns : List (List ℕ)). type_of (is_among ns) (called a) e ≡ Some I32) (ap (λ (z : StoredText). names_with z.variables z.changes d) (sym w.is)) here

      pub typed : Typed (names d) (called a) (calls_in formula)
      typed =
          let y : IsWritten a well st w.place f w.at d formula = written a well st w.place f w.at fs put_there d formula there in
          let P : List ℕ → Terms → Type 0 = IsTypedCall (is_among y.names) (callable a a.functions) in
          let value : Typed y.names (callable a a.functions) (calls_of formula.value) =
          all_calls P formula.value (calls_typed (is_among y.names) (callable a a.functions) formula.value y.value.ty y.value.typed) in
          let listed : Typed y.names (callable a a.functions) (calls_in formula) =
          all-append (λ (c : Written). P c.name c.at) (flat_map calls_left formula.at) (calls_of formula.value) (lefts y.names formula.at y.lefts) value in
          let here : Typed y.names (called a) (calls_in formula) = subst (λ (g : List ℕ → Option (Ty × ℕ)). Typed y.names g (calls_in formula)) (sym (called_is a)) listed in
          subst (λ (ns : List (List ℕ)). Typed ns (called a) (calls_in formula)) (sym y.are ∙ ap (λ (z : StoredText). names_with z.variables z.changes d) (sym w.is)) here
        where
          lefts : (ns : List (List ℕ)) (os : List (Option Term)) → AllByRecursion (LeftIsOver a well st w.place f w.at ns d) os → Typed ns (callable a a.functions) (flat_map calls_left os)
          lefts ns [] h = tt
          lefts ns (None ∷ os) h = lefts ns os h.1
          lefts ns (Some e ∷ os) h =
              let P : List ℕ → Terms → Type 0 = IsTypedCall (is_among ns) (callable a a.functions) in
              all-append (λ (c : Written). P c.name c.at) (calls_of e) (flat_map calls_left os) (all_calls P e (calls_typed (is_among ns) (callable a a.functions) e h.0.ty h.0.typed))
              (lefts ns os h.1)

      abbrev left : AroundText
      left = left_around u (head_scope k) nest d

      -- the ends of an index around the store are in their order
      pub in_order : (r : AroundText) → around a u (head_scope k) nest formula d ≡ Some r → (e : Term) (span : Span1) (ends : Ends) → interval_in a r e ≡ Some span →
          IsSome (type_of (is_among (names d)) (called a) e) → ends_of r.scope span ≡ Some ends → ends.low ≤ℤ ends.high
      in_order r stands_r =
          let z = bound (coordinates_behind a left formula [] 0 nest.at) (λ cs. Some (record left { coordinates = cs })) r stands_r in
          let is : record left { coordinates = z.value } ≡ r = same (record left { coordinates = z.value }) r z.comes in
          around_ordered a left r formula nest.at z.value refl z.is is boxes.boxes boxes.indices (apart d formula there) long lefts_typed

      -- there is a number of what it stays within
      pub value_there : (r : AroundText) → around a u (head_scope k) nest formula d ≡ Some r → (e : Term) (span : Span1) → interval_in a r e ≡ Some span →
          IsSome (type_of (is_among (names d)) (called a) e) → (z : ℤ) × IsInSpan span (firsts r.scope) z
      value_there r stands_r =
          let z = bound (coordinates_behind a left formula [] 0 nest.at) (λ cs. Some (record left { coordinates = cs })) r stands_r in
          let is : record left { coordinates = z.value } ≡ r = same (record left { coordinates = z.value }) r z.comes in
          around_value a left r formula nest.at z.value refl z.is is boxes.boxes boxes.indices (apart d formula there) long lefts_typed

      -- and those of a left index
      pub left_in_order : (e : Term) (span : Span1) (ends : Ends) → interval_in a left e ≡ Some span → IsSome (type_of (is_among (names d)) (called a) e) → ends_of left.scope span ≡ Some ends →
          ends.low ≤ℤ ends.high
      left_in_order e span ends bounds typed_e freed =
          ordered a left boxes.boxes (map (number_at (firsts left.scope)) nest.at) boxes.indices (apart d formula there) (long ∙ sym (length-map nest.at (number_at (firsts left.scope))))
          (spans_in (firsts left.scope) nest.at) e span ends bounds typed_e freed

      near_nest : IsNearNest a u m fs defined d formula nest
      near_nest = record { is = there; nested = stands; boxes = boxes.boxes; order = in_order; light = boxes.light formula there; typed = typed }

    -- ---- what it fetches

    pub held_near : AreHeld a gs n u fs k
    held_near h e there_e fetched ss sites d x at_x =
        let entry = entry_at gs (regions_found a sch l well legal small kept all groups) all (all_ready a sch l well legal small kept all groups) h e there_e in
        let tests = and_parts (not (h == n)) (some_calls e.0.subject.name fs) fetched in
        let differs : (h ≡ n → ⊥) = λ is. not_same (h == n) (ap (λ (i : ℕ). i == n) is ∙ eq_refl n) tests.0 in
        let less = called_before a sch well h n e.0 u fs entry.is at defined tests.1 differs in
        let function = known_stored a sch well h e.0 entry.is in
        let region = region_is a gs h e.0 e.1 entry.is entry.laid in
        let takes : (t : Ty × ℕ) → called a e.0.subject.name ≡ Some t → t.1 ≡ length e.1.region =
        λ t q.
        (let is : (function.function.ty, length function.function.variables) ≡ t =
        some_same (function.function.ty, length function.function.variables) t
        (sym (ap (λ (g : List ℕ → Option (Ty × ℕ)). g e.0.subject.name) (called_is a) ∙ named_callable a a.functions e.0.subject.name function.function function.named) ∙ q) in
        ap (λ (y : Ty × ℕ). y.1) (sym is) ∙ sym function.variables ∙ sym region.long) in
        let only = sites_only a u fs k e.0.subject.name ss (skeletal xs bs u.placed m.region k over) (names_own xs bs u.placed m.region k over) sites in
        inr (sites_held a u m fs defined e.0.subject.name e.1.region region.extents (region_ends a gs h e.0 e.1 entry.is entry.laid) takes
        (λ c count. calls_ended a gs h n e.0 u e.1 m entry.is entry.laid at laid less c count) d x at_x 0 fs k.nests [] ss sites only
        (λ j v y at_v at_y. let none : j ≡ 0 + j = omega arith in subst (λ (i : ℕ). IsNearNest a u m fs defined i v y) none (near_nest j v y at_v at_y)) refl)
