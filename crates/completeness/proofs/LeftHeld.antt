-- A left index that is no variable is shown to lie in its dimension, and to be a number of 32 bits, where all symbols around the store are of loops over some numbers near 0; so is each index of
-- a call of the function itself there, where the region is what the function's updates widen some reach to.
use Rattle.std.proofs.Common.{◌≡◌, ℕ, zero, suc, ◌+◌, ◌<◌, ◌≤◌, ◌^◌, Bool, true, false, List, [], ◌∷◌, ◌++◌, length, map, drop, Option, Some, None, IsSome, refl, sym, ap, ◌∙◌, subst}
use Rattle.std.proofs.Common.{length-append, arith, inl, inr}
use Rattle.std.specs.Prelude.{◌⊎◌, pos, negsuc, ◌+ℤ◌, ◌-ℤ◌, ◌≤ℤ◌, ◌==◌, if◌then◌else◌, slice_get}
use Rattle.std.specs.List.{AllByRecursion, list_any}
use Rattle.std.specs.Int.RustNames.{unsigned_abs}
use Rattle.std.proofs.lemmas.Int.{ints}
use Rattle.std.proofs.lemmas.Option.{slice_get_within}
use Rattle.numeric.specs.declared.ty.Ty.{Ty}
use Rattle.numeric.specs.declared.ty.Ty.TheVariants.{I32}
use Rattle.tree.specs.Term.{Term, Terms, End, More}
use Rattle.tree.specs.Typing.{type_of}
use Rattle.lin.specs.Forms.{Form, number}
use Rattle.lin.specs.Regions.{span_inside}
use Rattle.lin.specs.declared.scope.Binding.{Binding}
use Rattle.lin.specs.declared.span.Span1.{Span1}
use Rattle.lin.proofs.TermLemmas.{all_weaker}
use Rattle.bounds.specs.Spans.{numbers, range_of}
use Rattle.bounds.specs.Interval.{span_named}
use Rattle.bounds.specs.Projection.Elimination.{is_inner}
use Rattle.bounds.specs.Projection.Projection.{negated}
use Rattle.meaning.specs.Algorithm.{Algorithm}
use Rattle.meaning.specs.Names.{same_name, is_among}
use Rattle.meaning.specs.Conditions.{IsAlgorithm}
use Rattle.headline.proofs.Members.{got}
use Rattle.headline.proofs.Lists.{at_left}
use Rattle.sched.specs.Schedule.{Schedule}
use Rattle.sched.specs.Legal.{IsLegal}
use Rattle.sched.specs.declared.numbers.Extent.{Extent}
use Rattle.sched.specs.declared.skeleton.Known.{Known}
use Rattle.sched.specs.Skeleton.{BodyText, NestText, SkeletonText, is_missing, variables_at}
use Rattle.sched.specs.Standing.{form_named}
use Rattle.sched.proofs.Arriving.{skeletal}
use Rattle.lower.specs.declared.lowering.Lowered.{Lowered}
use Rattle.sched.specs.Called.{called}
use Rattle.sched.specs.Stored.{FormulaText, StoredText, left_at, calls_in}
use Rattle.blocks.specs.Stored.{formulas_put}
use Rattle.lower.specs.Stored.{stored_functions, has_large}
use Rattle.sched.specs.Around.{AroundText, interval_in, form_span, coordinate_span, range_names, ranges_of, names_with, head_scope, left_around, around, coordinates_behind}
use Rattle.regions.specs.Faults.{are_whole}
use Rattle.lower.specs.Faults.{region_fault}
use Rattle.sched.specs.Regions.{LaidText, counts, symbols_from}
use Rattle.regions.specs.Regions.{ends_of, missing_from, bodies_from, skeleton_of, laid_functions}
use Rattle.sched.specs.Bounded.{whole}
use Rattle.lower.specs.Groups.{HasGroups}
use Rattle.lower.specs.Owning.{IsExtent}
use Rattle.lower.proofs.Extents.{region_is}
use Rattle.blocks.proofs.Laying.{bound, same}
use Rattle.completeness.specs.Placed.{IsSettled, ArePlaced, GoesOn, AreLeftsHeld, index_at, AreOwnHeld, IsOverRanges}
use Rattle.completeness.proofs.HeldWhole.{HasIndex}
use Rattle.completeness.proofs.LoadedTerms.{IsTypedCall}
use Rattle.completeness.proofs.PureNests.{all_slices}
use Rattle.algo.specs.Scoping.Standing.{Written}
use Rattle.soundness.proofs.Refines.{name_refl}
use Rattle.completeness.proofs.Defined.{missing_at, body_missing}
use Rattle.completeness.proofs.Standing.{names_own}
use Rattle.completeness.proofs.Laid.{IsStoredOf}
use Rattle.completeness.proofs.Owned.{some_same}
use Rattle.completeness.proofs.Only.{SpanOnly, Only, interval_only, only_combined}
use Rattle.completeness.proofs.Sited.{Below, coordinates_below, around_below}
use Rattle.completeness.proofs.RegionBounds.{IsEnded, region_ends}
use Rattle.completeness.proofs.StoreBounds.{called_is}
use Rattle.completeness.proofs.StoreLists.{last_alone, span_behind, typed_nth}
use Rattle.completeness.proofs.RangedLefts.{interval_agrees, left_typed, lefts_few}
use Rattle.completeness.proofs.Boxes.{IsLightSpan}
use Rattle.completeness.proofs.NearBoxes.{IsBoxTurn}
use Rattle.completeness.proofs.FreedEnds.{AreOver, inside_all, whole_inside}
use Rattle.completeness.proofs.CallEnds.{IsIndexEnded}
use Rattle.meaning.proofs.Calls.{none_is_input}
use Rattle.meaning.proofs.Cases.{name_differs}
use Rattle.headline.proofs.Lists.{at_map}
use Rattle.blocks.specs.Bounded.{is_on_input, is_in_region, is_call_bounded}
use Rattle.lower.specs.Faults.{no_totals, calls_of_large}
use Rattle.completeness.proofs.Boxes.{AreBoxes}
use Rattle.completeness.proofs.RegionBounds.{root_bounded, calls_bounded}
use Rattle.completeness.proofs.SitesAt.{bounded_at}
use Rattle.completeness.proofs.StoreLists.{region_nth}
use Rattle.completeness.proofs.MoreNumbers.{IsFewSpan, more_numbers}
use Rattle.completeness.proofs.LeftEnds.{own_ended, IsFirst, first_left, first_own, laid_from}
use Rattle.completeness.proofs.LeftAlike.{beyond, formed_behind, ends_alike}
use Rattle.completeness.proofs.RangeLoops.{AreOtherNames, AreNewNames, other_names, skeleton_ranges}
use Rattle.completeness.proofs.Halves.{AreOthers}
use Rattle.completeness.proofs.Lanes.{AreOnce}
use Rattle.sched.specs.Standing.{◌>>=◌}
use Rattle.completeness.proofs.HeldNear as near
use Rattle.completeness.proofs.HeldNear.{IsFormed, IsIndexed}

-- ---- coordinates that are found alike with and without left indices

module _ (a : Algorithm) (r : AroundText) (f : FormulaText) where
  -- the span of the coordinate at a place
  coordinate_got : (before cs : List Span1) (d : ℕ) (os : List (Option Form)) → coordinates_behind a r f before d os ≡ Some cs → (j : ℕ) (o : Option Form) → slice_get os j ≡ Some o →
      (s : Span1) × (slice_get cs (length before + j) ≡ Some s) × (coordinate_span a r o (left_at f (d + j)) ≡ Some s)
  coordinate_got before cs d [] e j o at = absurd (cc at)
  coordinate_got before cs d (u ∷ os) e zero o at =
      let b = bound (coordinate_span a r u (left_at f d)) (λ s. coordinates_behind a r f (before ++ s ∷ []) (d + 1) os) cs e in
      let zero_on : d ≡ d + 0 = omega arith in
      let none : length before ≡ length before + 0 = omega arith in (
        b.value,
        ap (slice_get cs) (sym none) ∙ kept (before ++ b.value ∷ []) (d + 1) os b.comes (length before) b.value (last_got before b.value),
        ap (λ (w : Option Form). coordinate_span a r w (left_at f (d + 0))) (sym (same u o at)) ∙ ap (λ (i : ℕ). coordinate_span a r u (left_at f i)) (sym zero_on) ∙ b.is,
      )
    where
      last_got : (ss : List Span1) (s : Span1) → slice_get (ss ++ s ∷ []) (length ss) ≡ Some s
      last_got [] s = refl
      last_got (t ∷ ss) s = last_got ss s

      kept : (ss : List Span1) (n : ℕ) (us : List (Option Form)) → coordinates_behind a r f ss n us ≡ Some cs → (i : ℕ) (s : Span1) → slice_get ss i ≡ Some s → slice_get cs i ≡ Some s
      kept ss n [] q i s k = ap (λ (ts : List Span1). slice_get ts i) (sym (same ss cs q)) ∙ k
      kept ss n (v ∷ us) q i s k =
          let c = bound (coordinate_span a r v (left_at f n)) (λ t. coordinates_behind a r f (ss ++ t ∷ []) (n + 1) us) cs q in
          kept (ss ++ c.value ∷ []) (n + 1) us c.comes i s (at_left ss (c.value ∷ []) i s k)
  coordinate_got before cs d (u ∷ os) e (suc j) o at =
      let b = bound (coordinate_span a r u (left_at f d)) (λ s. coordinates_behind a r f (before ++ s ∷ []) (d + 1) os) cs e in
      let rest = coordinate_got (before ++ b.value ∷ []) cs (d + 1) os b.comes j o at in
      let many = length-append before (b.value ∷ []) in
      let place : length before + suc j ≡ length (before ++ b.value ∷ []) + j = omega (arith, many) in
      let next : d + suc j ≡ (d + 1) + j = omega arith in
      (rest.0, ap (slice_get cs) place ∙ rest.1, ap (λ (i : ℕ). coordinate_span a r o (left_at f i)) next ∙ rest.2)

-- a variable that the definition lacks has no form
missing_got : (b : BodyText) (d : ℕ) (xs : List (List ℕ)) (ks : List Known) (j : ℕ) → j < length xs → is_missing b (d + j) ≡ true → slice_get (variables_at b d xs ks) j ≡ Some None
missing_got b d [] ks j less gone = absurd (omega (arith, less))
missing_got b d (x ∷ xs) ks zero less gone =
    let none : d ≡ d + 0 = omega arith in
    ap (λ (v : Bool). Some (if v then None else form_named ks x)) (ap (is_missing b) none ∙ gone)
missing_got b d (x ∷ xs) ks (suc j) less gone =
    let next : (d + 1) + j ≡ d + suc j = omega arith in
    missing_got b (d + 1) xs ks j (omega (arith, less)) (ap (is_missing b) next ∙ gone)

split_spans : (n : ℕ) (os : List (Option Form)) → n ≤ length os → (qs : List Span1) × (map form_span os ≡ qs ++ map form_span (drop n os)) × (length qs ≡ n)
split_spans zero [] few = ([], refl, refl)
split_spans zero (o ∷ os) few = ([], refl, refl)
split_spans (suc n) [] few = absurd (omega (arith, few))
split_spans (suc n) (o ∷ os) few =
    let rest = split_spans n os (omega (arith, few)) in
    let long = rest.2 in
    (form_span o ∷ rest.0, ap (λ (ss : List Span1). form_span o ∷ ss) rest.1, omega (arith, long))

-- an index of a call is one of its indices
has_index : (es : Terms) (j : ℕ) (t : Term) → index_at es j ≡ Some t → HasIndex t es
has_index End j t e = absurd (cc e)
has_index (More u es) zero t e = inl (sym (same u t e))
has_index (More u es) (suc j) t e = inr (has_index es j t e)

-- the forms of what each index of these calls stays within go not far
abbrev pub AreCallsFew : Algorithm → AroundText → List Written → Type 0
AreCallsFew a r cs =
    (i : ℕ) (c : Written) → slice_get cs i ≡ Some c → (e : Term) → HasIndex e c.at → (s : Span1) → interval_in a r e ≡ Some s → IsFewSpan r.scope s

-- ---- the law

module _ (a : Algorithm) (sch : Schedule) (l : Lowered) (well : IsAlgorithm a) (legal : IsLegal a sch) (small : has_large (stored_functions a sch) ≡ false)
    (kept : region_fault a (stored_functions a sch) ≡ None) (all : are_whole (stored_functions a sch) ≡ true) (groups : HasGroups a (stored_functions a sch) l) where
  abbrev gs : List StoredText
  gs = stored_functions a sch

  module _ (n : ℕ) (u : StoredText) (at : slice_get gs n ≡ Some u) (fs : List FormulaText) (defined : u.formulas ≡ Some fs) (m : LaidText)
      (laid : slice_get (laid_functions a gs) n ≡ Some (Some m)) (over : skeleton_of u fs m.region ≡ Some m.skeleton)
      (formed : (d : ℕ) (w : NestText) → slice_get m.skeleton.nests d ≡ Some w → IsFormed u.subject.variables (bodies_from u.changes 0 u.subject.reductions fs) d w)
      (boxed : (d : ℕ) (w : NestText) → slice_get m.skeleton.nests d ≡ Some w →
      ((b : BodyText) → slice_get (bodies_from u.changes 0 u.subject.reductions fs) d ≡ Some b → AllByRecursion IsBoxTurn b.ranges) → IsIndexed a u fs m.skeleton d w)
      (others : AreOthers u.placed.cuts) (once : AreOnce u.placed.cuts)
      (new_names : (d : ℕ) (w : NestText) → slice_get m.skeleton.nests d ≡ Some w → AreNewNames u.placed (range_names (ranges_of u.changes d))) where
    abbrev k : SkeletonText
    k = m.skeleton

    abbrev xs : List (List ℕ)
    xs = u.subject.variables

    abbrev bs : List BodyText
    bs = bodies_from u.changes 0 u.subject.reductions fs

    module _ (d : ℕ) (f : FormulaText) (w : NestText) (r : AroundText) (at_f : slice_get fs d ≡ Some f) (at_w : slice_get k.nests d ≡ Some w) (stands : around a u (head_scope k) w f d ≡ Some r)
        (j : ℕ) (e : Term) (at_j : slice_get f.at j ≡ Some (Some e)) where
      abbrev left : AroundText
      left = left_around u (head_scope k) w d

      abbrev scope : List Binding
      scope = left.scope

      abbrev rn : List (List ℕ)
      rn = range_names (ranges_of u.changes d)

      abbrev st : List Bool
      st = near.st a sch l well legal small kept all groups

      abbrev w' : IsStoredOf a sch st a.functions u
      w' = near.w a sch l well legal small kept all groups n u at fs defined m laid over formed boxed

      put_there : formulas_put a st w'.function.variables w'.function.value w'.function.changes ≡ Some fs
      put_there = near.put_there a sch l well legal small kept all groups n u at fs defined m laid over formed boxed

      few : length f.at ≤ length u.variables
      few =
          let here = lefts_few a well w'.place w'.function w'.at st fs put_there d f at_f in
          let same_many = ap (λ (y : StoredText). length y.variables) w'.is in
          omega (arith, here, same_many)

      index : IsIndexed a u fs k d w
      index = near.boxes a sch l well legal small kept all groups n u at fs defined m laid over formed boxed d f w at_f at_w

      spans : (cs : List Span1) × (coordinates_behind a left f [] 0 w.at ≡ Some cs) × (record left { coordinates = cs } ≡ r)
      spans =
          let c = bound (coordinates_behind a left f [] 0 w.at) (λ cs. Some (record left { coordinates = cs })) r stands in
          (c.value, c.is, same (record left { coordinates = c.value }) r c.comes)

      left_j : left_at f j ≡ Some e
      left_j = ap (λ (o : Option (Option Term)). elim o [ Some i ↦ i | None ↦ None ]) at_j

      none_at : slice_get w.at j ≡ Some None
      none_at =
          let p = formed d w at_w in
          let y = body_missing u.changes 0 u.subject.reductions fs d p.body p.at in
          let missing : p.body.missing ≡ missing_from 0 f.at = y.missing ∙ ap (λ (z : FormulaText). missing_from 0 z.at) (some_same y.formula f (sym y.at ∙ at_f)) in
          let gone : is_missing p.body (0 + j) ≡ true = ap (λ (es : List ℕ). list_any (λ x. x == 0 + j) es) missing ∙ missing_at f.at 0 j e at_j in
          let within = slice_get_within f.at j (Some e) at_j in
          let few_here = few in
          let variables = ap length (near.variables_are a sch l well legal small kept all groups n u at fs defined m laid over formed boxed) in
          ap (λ (os : List (Option Form)). slice_get os j) p.forms
          ∙ at_left (variables_at p.body 0 xs p.known) _ j None (missing_got p.body 0 xs p.known j (omega (arith, within, few_here, variables)) gone)

      -- what the left index stays within
      left_span : (s : Span1) × (slice_get spans.0 j ≡ Some s) × (interval_in a left e ≡ Some s)
      left_span =
          let y = coordinate_got a left f [] spans.0 0 w.at spans.1 j None none_at in
          let zero_on : 0 + j ≡ j = omega arith in
          (y.0, ap (slice_get spans.0) (sym zero_on) ∙ y.1, ap (coordinate_span a left None) (sym (ap (left_at f) zero_on ∙ left_j)) ∙ y.2)

      narrow : type_of (is_among rn) (called a) e ≡ Some I32
      narrow =
          let here = (left_typed a well w'.place w'.function w'.at st fs put_there d f at_f j e at_j).0 in
          let there = ap (λ (g : List ℕ → Option (Ty × ℕ)). type_of (is_among (range_names (ranges_of w'.function.changes d))) g e) (called_is a) ∙ here in
          subst (λ (ns : List (List ℕ)). type_of (is_among ns) (called a) e ≡ Some I32) (ap (λ (z : StoredText). range_names (ranges_of z.changes d)) (sym w'.is)) there

      wide : type_of (is_among (names_with u.variables u.changes d)) (called a) e ≡ Some I32
      wide =
          let here = (left_typed a well w'.place w'.function w'.at st fs put_there d f at_f j e at_j).1 in
          let there = ap (λ (g : List ℕ → Option (Ty × ℕ)). type_of (is_among (names_with w'.function.variables w'.function.changes d)) g e) (called_is a) ∙ here in
          subst (λ (ns : List (List ℕ)). type_of (is_among ns) (called a) e ≡ Some I32) (ap (λ (z : StoredText). names_with z.variables z.changes d) (sym w'.is)) there

      -- around the store it stays within the same
      agree : interval_in a r e ≡ interval_in a left e
      agree =
          let N = length u.variables in
          let apart = near.apart a sch l well legal small kept all groups n u at fs defined m laid over formed boxed d f at_f in
          let long = near.long a sch l well legal small kept all groups n u at fs defined m laid over formed boxed d f w at_f at_w in
          let parts = length-append u.variables rn in
          let few_here = few in
          let many : N ≤ length w.at = omega (arith, long, parts) in
          let y = formed_behind a left f N [] spans.0 0 w.at (λ i le. let zero_on : 0 + i ≡ i = omega arith in
          ap (left_at f) zero_on ∙ ap (λ (o : Option (Option Term)). elim o [ Some t ↦ t | None ↦ None ]) (beyond f.at i (omega (arith, few_here, le)))) spans.1 many in
          let z = split_spans N w.at many in
          let each : (x : List ℕ) → is_among rn x ≡ true → span_named (u.variables ++ rn) spans.0 x ≡ span_named (u.variables ++ rn) left.coordinates x =
          λ x among. let none = last_alone u.variables rn apart x among in
          ap (λ (ss : List Span1). span_named (u.variables ++ rn) ss x) y.1 ∙ span_behind u.variables rn y.0 (map form_span (drop N w.at)) x (sym y.2) none
          ∙ sym (ap (λ (ss : List Span1). span_named (u.variables ++ rn) ss x) z.1 ∙ span_behind u.variables rn z.0 (map form_span (drop N w.at)) x (sym z.2) none) in
          ap (λ (t : AroundText). interval_in a t e) (sym spans.2) ∙ interval_agrees scope (called a) (u.variables ++ rn) (u.variables ++ rn) spans.0 left.coordinates (is_among rn) each e I32 narrow

      over_all : SpanOnly (Below (length scope)) left_span.0
      over_all =
          interval_only (Below (length scope)) scope (called a) left.variables left.coordinates
          (coordinates_below k (skeletal xs bs u.placed m.region k over) (names_own xs bs u.placed m.region k over) d w at_w) e left_span.0 left_span.2

      forms_over : (gs : List Form) → AllByRecursion (Only (Below (length scope))) gs → AllByRecursion (λ (g : Form). AreOver scope index.boxes g.terms) gs
      forms_over gs h =
          all_weaker (Only (Below (length scope))) (λ g. AreOver scope index.boxes g.terms)
          (λ g q. all_weaker (λ t. t.symbol < length scope) (λ t. is_inner (symbols_from 0 (length scope)) t.symbol ≡ true) (λ t less. inside_all scope index.boxes t.symbol less) g.terms q) gs h

      negation_over : (g h : Form) → negated g ≡ Some h → AreOver scope index.boxes g.terms → AreOver scope index.boxes h.terms
      negation_over g h e q = only_combined (λ i. is_inner (symbols_from 0 (length scope)) i ≡ true) (number (pos 0)) (negsuc 0) g tt q h e

      -- the names of its reduction variables
      names_apart : (p : BodyText) → slice_get bs d ≡ Some p → AreOtherNames u.placed p.ranges
      names_apart p at_p =
          let turned = near.ranges_are a sch l well legal small kept all groups n u at fs defined m laid over formed boxed d f w at_f at_w p at_p in
          let apart = near.apart a sch l well legal small kept all groups n u at fs defined m laid over formed boxed d f at_f in
          subst (AreOtherNames u.placed) (sym turned) (other_names u.placed u.variables (ranges_of u.changes d) apart (new_names d w at_w))

      module _ (x : Extent) (at_x : slice_get m.region j ≡ Some x) where
        -- an index over reduction variables that has ends over the first region has them around the store
        ended_alike : (t : Term) → type_of (is_among rn) (called a) t ≡ Some I32 → IsFirst a u fs m d f j t → IsIndexEnded a r t m.region j
        ended_alike t typed first =
            let few_here = few in
            let variables = near.variables_are a sch l well legal small kept all groups n u at fs defined m laid over formed boxed in
            let p = formed d w at_w in
            let names = names_apart p.body p.at in
            let apart = near.apart a sch l well legal small kept all groups n u at fs defined m laid over formed boxed d f at_f in
            let mine = skeleton_ranges xs bs u.placed m.region k others once over d p.body w p.at at_w names in
            let theirs = skeleton_ranges xs bs u.placed first.region first.skeleton others once first.over d p.body first.nest p.at first.nested names in
            let one = ends_alike a u k p.body d f w r mine stands variables few_here apart t typed in
            let two = ends_alike a u first.skeleton p.body d f first.nest first.standing theirs first.stands variables few_here apart t typed in
            let end = first.ended in
            let found : (interval_in a first.standing t >>= λ s. ends_of first.standing.scope s) ≡ Some end.ends =
            ap (λ (o : Option Span1). o >>= λ s. ends_of first.standing.scope s) end.bounds ∙ end.freed in
            let b = bound (interval_in a r t) (λ s. ends_of r.scope s) end.ends (one ∙ sym two ∙ found) in
            record { span = b.value; bounds = b.is; ends = end.ends; freed = b.comes; inside = end.inside }

        -- as many dimensions as left indices, at least
        enough : length f.at ≤ length m.region
        enough =
            let region = region_is a gs n u m at laid in
            let long = region.long in
            let few_here = few in
            let many = ap length (near.variables_are a sch l well legal small kept all groups n u at fs defined m laid over formed boxed) in
            omega (arith, few_here, long, many)

        ended_left : IsIndexEnded a r e m.region j
        ended_left =
            let reach = laid_from a gs n u fs m at defined laid in
            ended_alike e narrow (first_left a u fs reach.0 m reach.1 d f j e at_f at_j (slice_get_within m.region j x at_x) enough)

        named_own : (c : Written) → c.name ≡ u.subject.name → same_name c.name u.subject.name ≡ true
        named_own c name = ap (λ (z : List ℕ). same_name z u.subject.name) name ∙ name_refl u.subject.name

        counted_here : counts (Some f) j ≡ true
        counted_here = ap (λ (o : Option Term). elim o [ Some e ↦ true | None ↦ false ]) left_j

        ended_own : (i : ℕ) (c : Written) → slice_get (calls_in f) i ≡ Some c → c.name ≡ u.subject.name → (t : Term) → index_at c.at j ≡ Some t → IsOverRanges a u d t ⊎ IsSettled a u fs m →
            IsIndexEnded a r t m.region j
        ended_own i c at_c name t at_t (inl typed) =
            let reach = laid_from a gs n u fs m at defined laid in
            ended_alike t typed (first_own a u fs reach.0 m reach.1 d f j t at_f i c at_c (named_own c name) at_t counted_here (slice_get_within m.region j x at_x) enough)
        ended_own i c at_c name t at_t (inr settled) =
            own_ended a u (head_scope k) f w r j t i c at_c (named_own c name) at_t counted_here u.subject.is_root d fs k.nests settled.0 settled.1 m.region settled.2 settled.3 at_f at_w stands
            (slice_get_within m.region j x at_x) enough

        -- an index that ends so, and whose ends are in their order, lies in the dimension, and in one that goes on behind it
        lies : (t : Term) (s : Span1) (end : IsIndexEnded a r t m.region j) → end.span ≡ s → end.ends.low ≤ℤ end.ends.high → SpanOnly (Below (length scope)) s → IsLightSpan scope s → (y : Extent) →
            GoesOn x y → (span_inside scope s (whole y) ≡ true) × (span_inside scope s (range_of I32) ≡ true)
        lies t s end span_is le only light y goes =
            let ends = end.ends in
            let freed : ends_of scope s ≡ Some ends = ap (ends_of scope) (sym span_is) ∙ ap (λ (t : AroundText). ends_of t.scope end.span) spans.2 ∙ end.freed in
            let low = end.inside ends.low (omega (arith, ints)) le x at_x in
            let high = end.inside ends.high le (omega (arith, ints)) x at_x in
            let extent : IsExtent x = got IsExtent m.region j x (region_is a gs n u m at laid).extents at_x in
            let last : IsEnded x = got IsEnded m.region j x (region_ends a gs n u m at laid) at_x in
            let from = extent.from in
            let some = extent.some in
            let low_from = low.0 in
            let low_to = low.1 in
            let high_from = high.0 in
            let high_to = high.1 in
            let begins = goes.low in
            let more = goes.count in
            let ends_there = goes.last in
            let lowers = forms_over s.lower only.0 in
            let uppers = forms_over s.upper only.1 in
            let low_near : unsigned_abs ends.low ≤ 2 ^ 31 = omega (arith, ints, from, last, some, low_from, low_to) in
            let high_near : unsigned_abs ends.high ≤ 2 ^ 31 = omega (arith, ints, from, last, some, high_from, high_to) in
            let all_numbers : Extent = record { low = negsuc 2147483647; count = 4294967296 } in
            let last_is : (negsuc 2147483647 +ℤ pos 4294967296 -ℤ pos 1) ≡ pos 2147483647 = omega (arith, ints) in (
              whole_inside scope index.boxes s ends y freed lowers uppers negation_over light (omega (arith, ints, begins, low_from)) (omega (arith, ints, begins, more, high_to))
                  (omega (arith, ints, begins, from, last, some)) (omega (arith, ints, begins, from, more, some, ends_there)) low_near high_near,
              ap (λ (z : _). span_inside scope s (numbers (negsuc 2147483647) z)) (sym last_is)
                  ∙ whole_inside scope index.boxes s ends all_numbers freed lowers uppers negation_over light (omega (arith, ints, low_near)) (omega (arith, ints, high_near, last_is))
                  (omega (arith, ints))
                  (omega (arith, ints, last_is)) low_near high_near,
            )

        held : (y : Extent) → GoesOn x y → (span_inside scope left_span.0 (whole y) ≡ true) × (span_inside scope left_span.0 (range_of I32) ≡ true)
        held y goes =
            let s = left_span.0 in
            let end = ended_left in
            let span_is : end.span ≡ s = same end.span s (sym end.bounds ∙ agree ∙ left_span.2) in
            let freed : ends_of scope s ≡ Some end.ends = ap (ends_of scope) (sym span_is) ∙ ap (λ (t : AroundText). ends_of t.scope end.span) spans.2 ∙ end.freed in
            let le : end.ends.low ≤ℤ end.ends.high =
            near.left_in_order a sch l well legal small kept all groups n u at fs defined m laid over formed boxed d f w at_f at_w e s end.ends left_span.2 (subst IsSome (sym wide) refl) freed in
            lies e s end span_is le over_all (index.lefts f at_f j e left_j s left_span.2) y goes

        -- an index of a call of the function itself there
        own_held : (i : ℕ) (c : Written) → slice_get (calls_in f) i ≡ Some c → c.name ≡ u.subject.name → (t : Term) → index_at c.at j ≡ Some t → IsOverRanges a u d t ⊎ IsSettled a u fs m →
            (s : Span1) → interval_in a r t ≡ Some s → (y : Extent) → GoesOn x y → span_inside scope s (whole y) ≡ true
        own_held i c at_c name t at_t settled s found y goes =
            let end = ended_own i c at_c name t at_t settled in
            let span_is : end.span ≡ s = same end.span s (sym end.bounds ∙ found) in
            let names = names_with u.variables u.changes d in
            let typed_call = got (λ (c : Written). IsTypedCall (is_among names) (called a) c.name c.at) (calls_in f) i c
            (near.typed a sch l well legal small kept all groups n u at fs defined m laid over formed boxed d f w at_f at_w) at_c in
            let typed : type_of (is_among names) (called a) t ≡ Some I32 = typed_nth (is_among names) (called a) c.at j t typed_call.0 at_t in
            let le : end.ends.low ≤ℤ end.ends.high =
            near.in_order a sch l well legal small kept all groups n u at fs defined m laid over formed boxed d f w at_f at_w r stands t end.span end.ends end.bounds (subst IsSome (sym typed) refl)
            end.freed in
            let here : interval_in a (record left { coordinates = spans.0 }) t ≡ Some s = ap (λ (z : AroundText). interval_in a z t) spans.2 ∙ found in
            let only : SpanOnly (Below (length scope)) s =
            interval_only (Below (length scope)) scope (called a) left.variables spans.0
            (around_below a u k (skeletal xs bs u.placed m.region k over) (names_own xs bs u.placed m.region k over) d w at_w f spans.0 spans.1) t s here in
            let light : IsLightSpan scope s = subst (λ (z : AroundText). IsLightSpan z.scope s) (sym spans.2) (index.light f at_f r stands i c at_c t (has_index c.at j t at_t) s found) in
            (lies t s end span_is le only light y goes).0

        -- an index of a call of the function itself there is shown to lie in the dimension, as `lower` tests it
        own_shown : (i : ℕ) (c : Written) → slice_get (calls_in f) i ≡ Some c → c.name ≡ u.subject.name → (t : Term) → index_at c.at j ≡ Some t → (s : Span1) → interval_in a r t ≡ Some s →
            span_inside r.scope s (whole x) ≡ true
        own_shown i c at_c name t at_t s found =
            let spans_here = map whole m.region in
            let root = root_bounded a (calls_of_large a gs) no_totals gs (laid_functions a gs) kept n u fs m at defined laid in
            let b = bounded_at a u (head_scope k) spans_here 0 fs k.nests root d f w at_f at_w in
            let none : 0 + d ≡ d = omega arith in
            let known : b.known ≡ r = some_same b.known r (sym b.is ∙ ap (around a u (head_scope k) w f) none ∙ stands) in
            let all = calls_bounded a b.known f spans_here u.subject.name (calls_in f) b.bounded in
            let one = got (λ c. is_call_bounded a b.known f spans_here u.subject.name c ≡ Some true) (calls_in f) i c all at_c in
            let function_name : u.subject.name ≡ w'.function.name = ap (λ (y : StoredText). y.subject.name) w'.is in
            let no_input : same_name c.name a.input ≡ false =
            ap (λ (y : List ℕ). same_name y a.input) (name ∙ function_name) ∙ name_differs w'.function.name a.input (none_is_input a well.names w'.place w'.function w'.at) in
            let in_region : is_in_region a b.known f 0 c.at spans_here ≡ Some true =
            sym ((λ v. if no_input v then is_on_input a b.known c.at a.input_extents else (if named_own c name v then is_in_region a b.known f 0 c.at spans_here else Some true))) ∙ one in
            let zero_on : 0 + j ≡ j = omega arith in
            let told = region_nth a b.known f 0 c.at spans_here in_region j t (whole x) e at_t (at_map whole m.region j x at_x) (ap (left_at f) zero_on ∙ left_j) in
            let is : told.0 ≡ s = some_same told.0 s (sym told.1 ∙ ap (λ (z : AroundText). interval_in a z t) known ∙ found) in
            (λ v. span_inside (sym (ap (λ (z : AroundText). z.scope) known) v) (sym is v) (whole x)) ∙ told.2

        -- so it does in one that goes on behind it, where its forms go not far
        own_few : (i : ℕ) (c : Written) → slice_get (calls_in f) i ≡ Some c → c.name ≡ u.subject.name → (t : Term) → index_at c.at j ≡ Some t → (s : Span1) →
            interval_in a r t ≡ Some s → IsFewSpan r.scope s → (y : Extent) → GoesOn x y → span_inside r.scope s (whole y) ≡ true
        own_few i c at_c name t at_t s found few_here y goes =
            let extent : IsExtent x = got IsExtent m.region j x (region_is a gs n u m at laid).extents at_x in
            let last : IsEnded x = got IsEnded m.region j x (region_ends a gs n u m at laid) at_x in
            let boxes_r : AreBoxes r.scope = subst (λ (z : AroundText). AreBoxes z.scope) spans.2 index.boxes in
            let names = names_with u.variables u.changes d in
            let typed_call = got (λ (c : Written). IsTypedCall (is_among names) (called a) c.name c.at) (calls_in f) i c
            (near.typed a sch l well legal small kept all groups n u at fs defined m laid over formed boxed d f w at_f at_w) at_c in
            let typed : type_of (is_among names) (called a) t ≡ Some I32 = typed_nth (is_among names) (called a) c.at j t typed_call.0 at_t in
            let value = near.value_there a sch l well legal small kept all groups n u at fs defined m laid over formed boxed d f w at_f at_w r stands t s found (subst IsSome (sym typed) refl) in
            more_numbers r.scope boxes_r s few_here value.0 value.1 x y extent last goes (own_shown i c at_c name t at_t s found)

    -- so it is of all of them
    pub lefts_held : AreLeftsHeld a u fs m.region k
    lefts_held d f w r at_f at_w stands j e x y s at_j at_x goes at_s =
        let z = left_span d f w r at_f at_w stands j e at_j in
        let h = held d f w r at_f at_w stands j e at_j x at_x y goes in
        let here : slice_get r.coordinates j ≡ Some z.0 = ap (λ (t : AroundText). slice_get t.coordinates j) (sym (spans d f w r at_f at_w stands j e at_j).2) ∙ z.1 in
        let span_is : z.0 ≡ s = some_same z.0 s (sym here ∙ at_s) in
        let scope_is = ap (λ (t : AroundText). t.scope) (spans d f w r at_f at_w stands j e at_j).2 in
        ((λ i. span_inside (sym scope_is i) (sym span_is i) (whole y)) ∙ h.0, (λ i. span_inside (sym scope_is i) (sym span_is i) (range_of I32)) ∙ h.1)

    pub owns_held : ArePlaced a u fs m → AreOwnHeld a u fs m.region k
    owns_held settled d f w r at_f at_w stands =
        all_slices (λ (c : Written). c.name ≡ u.subject.name → (j : ℕ) (e t : Term) (x y : Extent) (s : Span1) → slice_get f.at j ≡ Some (Some e) → slice_get m.region j ≡ Some x → GoesOn x y →
        index_at c.at j ≡ Some t → interval_in a r t ≡ Some s → span_inside r.scope s (whole y) ≡ true) (calls_in f)
        (λ i c at_c name j e t x y s at_j at_x goes at_t found.
        let h = own_held d f w r at_f at_w stands j e at_j x at_x i c at_c name t at_t (settled d j i f e t c at_f at_j at_c name at_t) s found y goes in
        let scope_is = ap (λ (z : AroundText). z.scope) (spans d f w r at_f at_w stands j e at_j).2 in
        ap (λ (sc : List Binding). span_inside sc s (whole y)) (sym scope_is) ∙ h)

    -- whatever asking for the region came to, where the forms of all its calls' indices go not far
    pub owns_few : ((d : ℕ) (f : FormulaText) (w : NestText) (r : AroundText) → slice_get fs d ≡ Some f → slice_get k.nests d ≡ Some w → around a u (head_scope k) w f d ≡ Some r →
        AreCallsFew a r (calls_in f)) → AreOwnHeld a u fs m.region k
    owns_few few d f w r at_f at_w stands =
        all_slices (λ (c : Written). c.name ≡ u.subject.name → (j : ℕ) (e t : Term) (x y : Extent) (s : Span1) → slice_get f.at j ≡ Some (Some e) → slice_get m.region j ≡ Some x → GoesOn x y →
        index_at c.at j ≡ Some t → interval_in a r t ≡ Some s → span_inside r.scope s (whole y) ≡ true) (calls_in f)
        (λ i c at_c name j e t x y s at_j at_x goes at_t found.
        own_few d f w r at_f at_w stands j e at_j x at_x i c at_c name t at_t s found (few d f w r at_f at_w stands i c at_c t (has_index c.at j t at_t) s found) y goes)
