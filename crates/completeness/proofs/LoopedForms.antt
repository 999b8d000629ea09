-- Where functions are computed inside loops, the forms of lines `group`, and of loops, lets, guards and stores, are within the limits of forms.
use Rattle.std.proofs.Common.{◌≡◌, ℕ, zero, suc, ◌+◌, ◌-◌, ◌≤◌, Bool, true, false, ◌&&◌, List, [], ◌∷◌, ◌++◌, length, Option, Some, None, refl, sym, subst, inl, inr, ◌⊎◌}
use Rattle.std.specs.Prelude.{◌^◌, nat_le, slice_get}
use Rattle.std.specs.List.{AllByRecursion, list_all}
use Rattle.std.specs.Int.RustNames.{unsigned_abs}
use Rattle.std.proofs.lemmas.List.Elements.{recursion_from_All}
use Rattle.tree.specs.Term.{Term}
use Rattle.tree.specs.Substitution.{with_calls}
use Rattle.lin.specs.Forms.{Form, number, combined}
use Rattle.lin.specs.declared.form.Multiple.{Multiple}
use Rattle.lin.specs.declared.span.Span1.{Span1}
use Rattle.bounds.proofs.ListSound.{all-append}
use Rattle.headline.proofs.Lists.{from_map}
use Rattle.plan.specs.declared.plan.Group.{Group as CodeGroup}
use Rattle.plan.specs.declared.stmt.Places.{Places}
use Rattle.plan.specs.Plan.{Index, At, Found, Coordinate, Statement, Seq, First, Guard, Alloc, Store, Publish, Group, block}
use Rattle.plan.specs.View.{group_of, plan_of, statement_of}
use Rattle.plan.specs.Lines.{group_line}
use Rattle.meaning.specs.Algorithm.{Change, Function, Algorithm}
use Rattle.meaning.specs.Conditions.{IsRange, IsAlgorithm}
use Rattle.meaning.proofs.Back.{update_is}
use Rattle.soundness.specs.Outline.Flaws.{line_told}
use Rattle.sched.specs.declared.skeleton.Step.{Step}
use Rattle.sched.specs.declared.skeleton.Step.TheVariants.{Turns, Named, Tested}
use Rattle.sched.specs.Schedule.{Schedule}
use Rattle.sched.specs.Legal.{IsLegal}
use Rattle.sched.specs.Skeleton.{NestText}
use Rattle.sched.specs.Standing.{◌>>=◌}
use Rattle.validation.specs.Wide.{RegionIsWide}
use Rattle.validation.specs.Groups.Lines.{Here, start}
use Rattle.validation.specs.Groups.Inside.{Inside, Begins}
use Rattle.validation.specs.Groups.Wrong.{IndexIsWide}
use Rattle.lower.specs.declared.lowering.Lowered.{Lowered}
use Rattle.sched.specs.Stored.{FormulaText, StoredText}
use Rattle.lower.specs.Stored.{stored_functions}
use Rattle.blocks.specs.Stored.{flags}
use Rattle.sched.specs.Regions.{LaidText}
use Rattle.regions.specs.Regions.{bodies_from}
use Rattle.sched.specs.Around.{ranges_of}
use Rattle.sched.specs.Loading.{Loads, as_load}
use Rattle.blocks.specs.Blocks.{dimensions_of, claimed_region, own_places}
use Rattle.sched.specs.Bodies.{first_left, other_lefts}
use Rattle.lower.specs.Bodies.{last_claim, IsBody}
use Rattle.sched.specs.Renamed.{Pairs, value_in, symbol, terms_renamed, form_renamed, behind, forms_renamed, span_renamed, at_renamed, coordinates_renamed, step_renamed}
use Rattle.blocks.specs.Renamed.{places_renamed}
use Rattle.sched.specs.Fetches.{Entry}
use Rattle.blocks.specs.Fetches.{with_fetches}
use Rattle.sched.specs.Placed.{PlacedText, index_by, coordinates_by, around}
use Rattle.blocks.specs.Placed.{group_owner, names_over, begun}
use Rattle.lower.specs.Placed.{with_fetched, IsMixedBody}
use Rattle.lower.specs.Computed.{IsComputed}
use Rattle.lower.specs.Groups.{rooted, IsBodyBy, HasGroups}
use Rattle.blocks.proofs.Laying.{bound, same}
use Rattle.completeness.specs.Laws.{IsNestLine, IsWideInside}
use Rattle.completeness.specs.Looped.{AreRegions, NestLinesAreWithin, GroupLinesAreWithin}
use Rattle.completeness.proofs.Laid.{subjects, found, arranged}
use Rattle.completeness.proofs.Halves.{named}
use Rattle.completeness.proofs.Limited.{Limited, AreLimited, LimitedIf, IsBodySmall, StepIs, IsNestLimited, IsLimited, bodies_small, combined_limited, skeleton_limited}
use Rattle.completeness.proofs.Bounding.{SpanLimited}
use Rattle.completeness.proofs.Unlike.{Clear, ClearAll, none_inside, joined_clear}
use Rattle.completeness.proofs.Scoped.{any_none}
use Rattle.completeness.proofs.LimitedLines.{P, not_wide, none_wide, span_not_wide, region_not_wide, steps_clear, fetches_clear}
use Rattle.completeness.proofs.LimitedLines.{nests_clear as plain_clear}
use Rattle.completeness.proofs.LoopedAsked.{all_regions}
use Rattle.completeness.proofs.LoopedOwned.{IsRooted, rooted_at, laid_by, skeleton_at, group_at}
use Rattle.completeness.proofs.LoopedWalk.{NestIs, InnerIs, group_clear}
use Rattle.completeness.proofs.LoopedLimited.{StepFits}
use Rattle.completeness.proofs.LoopedInners.{AnyPlace, inner_is}
use Rattle.completeness.proofs.LoopedTold.{inner_within}
use Rattle.completeness.proofs.LoopedNests.{found_all, found_at, body_at}

-- ---- under other names

third : (a b c : Bool) → (a && b && c) ≡ true → c ≡ true
third true true c h = h
third true false c h = absurd (cc h)
third false b c h = absurd (cc h)

constant_limited : (f : Form) → Limited f → Limited (number f.constant)
constant_limited f h = third (nat_le (length f.terms) 8) (list_all (λ t. nat_le (unsigned_abs t.factor) (2 ^ 20)) f.terms) (nat_le (unsigned_abs f.constant) (2 ^ 40)) h

terms_limited : (m : Pairs) (ts : List Multiple) (made f : Form) → Limited made → terms_renamed m ts made ≡ Some f → Limited f
terms_limited m [] made f h e = subst Limited (same made f e) h
terms_limited m (t ∷ ts) made f h e =
    let s = bound (value_in m t.symbol) (λ s. combined made t.factor (symbol s) >>= λ one. terms_renamed m ts one) f e in
    let one = bound (combined made t.factor (symbol s.value)) (λ one. terms_renamed m ts one) f s.comes in
    terms_limited m ts one.value f (combined_limited made t.factor (symbol s.value) one.value one.is) one.comes

form_limited : (m : Pairs) (f g : Form) → Limited f → form_renamed m f ≡ Some g → Limited g
form_limited m f g h e = terms_limited m f.terms (number f.constant) g (constant_limited f h) e

all_behind : {A : Type 0} (Q R : A → Type 0) (r : A → Option A) → ((x y : A) → Q x → r x ≡ Some y → R y) → (made xs ys : List A) → AllByRecursion R made → AllByRecursion Q xs →
    behind r made xs ≡ Some ys → AllByRecursion R ys
all_behind Q R r one made [] ys h k e = subst (AllByRecursion R) (same made ys e) h
all_behind Q R r one made (x ∷ xs) ys h k e =
    let y = bound (r x) (λ y. behind r (made ++ y ∷ []) xs) ys e in
    all_behind Q R r one (made ++ y.value ∷ []) xs ys (all-append R made (y.value ∷ []) h (one x y.value k.0 y.is, tt)) k.1 y.comes

module _ (m : Pairs) where
  forms_limited : (fs gs : List Form) → AreLimited fs → forms_renamed m fs ≡ Some gs → AreLimited gs
  forms_limited fs gs h e = all_behind Limited Limited (form_renamed m) (form_limited m) [] fs gs tt h e

  span_limited : (x y : Span1) → SpanLimited x → span_renamed m x ≡ Some y → SpanLimited y
  span_limited x y h e =
      let low = bound (forms_renamed m x.lower) (λ low. forms_renamed m x.upper >>= λ high. Some (record { lower = low; upper = high })) y e in
      let high = bound (forms_renamed m x.upper) (λ high. Some (record { lower = low.value; upper = high })) y low.comes in
      subst SpanLimited (same (record { lower = low.value; upper = high.value }) y high.comes) (forms_limited x.lower low.value h.0 low.is, forms_limited x.upper high.value h.1 high.is)

  at_limited : (o p : Option Form) → LimitedIf o → at_renamed m o ≡ Some p → LimitedIf p
  at_limited None p h e = subst LimitedIf (same None p e) tt
  at_limited (Some f) p h e = (let g = bound (form_renamed m f) (λ g. Some (Some g)) p e in subst LimitedIf (same (Some g.value) p g.comes) (form_limited m f g.value h g.is))

  coordinates_limited : (os ps : List (Option Form)) → AllByRecursion LimitedIf os → coordinates_renamed m os ≡ Some ps → AllByRecursion LimitedIf ps
  coordinates_limited os ps h e = all_behind LimitedIf LimitedIf (at_renamed m) at_limited [] os ps tt h e

-- ---- lines

step_clear : (m : Pairs) (s t : Step) (xs : List Statement) → StepFits s → step_renamed m s ≡ Some t → ClearAll P (block xs) → ClearAll P (block (around t xs))
step_clear m (Turns i x kind) t xs h e k =
    let s = bound (value_in m i) (λ s. span_renamed m x >>= λ y. Some (Turns s y kind)) t e in
    let y = bound (span_renamed m x) (λ y. Some (Turns s.value y kind)) t s.comes in
    let limited = span_limited m x y.value h y.is in
    subst (λ (u : Step). ClearAll P (block (around u xs))) (same (Turns s.value y.value kind) t y.comes) (((λ w. span_not_wide y.value limited.0 limited.1 w.1), k), tt)
step_clear m (Named i pick fs) t xs h e k =
    let s = bound (value_in m i) (λ s. forms_renamed m fs >>= λ gs. Some (Named s pick gs)) t e in
    let gs = bound (forms_renamed m fs) (λ gs. Some (Named s.value pick gs)) t s.comes in
    subst (λ (u : Step). ClearAll P (block (around u xs))) (same (Named s.value pick gs.value) t gs.comes) ((λ w. none_wide gs.value (forms_limited m fs gs.value h gs.is) w.1), k)
step_clear m (Tested low high) t xs h e k =
    let a = bound (form_renamed m low) (λ l. form_renamed m high >>= λ h. Some (Tested l h)) t e in
    let b = bound (form_renamed m high) (λ h. Some (Tested a.value h)) t a.comes in
    subst (λ (u : Step). ClearAll P (block (around u xs))) (same (Tested a.value b.value) t b.comes)
    ((wide a.value b.value (form_limited m low a.value h.0 a.is) (form_limited m high b.value h.1 b.is), k), tt)
  where
    wide : (a b : Form) → Limited a → Limited b → P (Guard a b (Seq (block xs))) → ⊥
    wide a b one two (is, inl w) = not_wide a one w
    wide a b one two (is, inr w) = not_wide b two w

index_not_wide : (ls : Loads) (o : Option Form) (left : Option Term) (i : Index) → LimitedIf o → index_by ls o left ≡ Some i → IndexIsWide i → ⊥
index_not_wide ls (Some f) left i h e w = (let is : i ≡ At f = sym (same (At f) i e) in not_wide f h (subst IndexIsWide is w))
index_not_wide ls None (Some t) i h e w = (let is : i ≡ Found (with_calls (as_load ls) t) = sym (same (Found (with_calls (as_load ls) t)) i e) in subst IndexIsWide is w)
index_not_wide ls None None i h e w = absurd (cc e)

abbrev NotWide : Coordinate → Type 0
NotWide c = IndexIsWide c.index → ⊥

indices_not_wide : (ls : Loads) (xs : List (List ℕ)) (os : List (Option Form)) (lefts : List (Option Term)) (cs : List Coordinate) → AllByRecursion LimitedIf os →
    coordinates_by ls xs os lefts ≡ Some cs → AllByRecursion NotWide cs
indices_not_wide ls xs [] lefts cs h e = subst (AllByRecursion NotWide) (same [] cs e) tt
indices_not_wide ls [] (o ∷ os) lefts cs h e = absurd (cc e)
indices_not_wide ls (x ∷ xs) (o ∷ os) lefts cs h e =
    let i = bound (index_by ls o (first_left lefts)) (λ i. coordinates_by ls xs os (other_lefts lefts) >>= λ cs. Some (record { variable = x; index = i } ∷ cs)) cs e in
    let rest = bound (coordinates_by ls xs os (other_lefts lefts)) (λ cs. Some (record { variable = x; index = i.value } ∷ cs)) cs i.comes in
    subst (AllByRecursion NotWide) (same (record { variable = x; index = i.value } ∷ rest.value) cs rest.comes)
    (index_not_wide ls o (first_left lefts) i.value h.0 i.is, indices_not_wide ls xs os (other_lefts lefts) rest.value h.1 rest.is)

store_clear : (ls : Loads) (xs : List (List ℕ)) (m : Pairs) (os at : List (Option Form)) (lefts : List (Option Term)) (cs : List Coordinate) (b d : ℕ) (e : Term) → AllByRecursion LimitedIf os →
    coordinates_renamed m os ≡ Some at → coordinates_by ls xs at lefts ≡ Some cs → P (Store b d cs e) → ⊥
store_clear ls xs m os at lefts cs b d e h renamed is w =
    any_none NotWide (λ x. IndexIsWide x.index) (λ x p r. p r) cs (indices_not_wide ls xs at lefts cs (coordinates_limited m os at h renamed) is) w.1

neither : ⊥ ⊎ ⊥ → ⊥
neither (inl x) = x
neither (inr x) = x

alloc_clear : (m : Pairs) (os ps : List Places) (b : ℕ) (f : List ℕ) → AllByRecursion AnyPlace os → places_renamed m os ≡ Some ps → P (Alloc b f ps) → ⊥
alloc_clear m os ps b f h e w = neither w.0

first_clear : (s : ℕ) (a b : Statement) → P (First s a b) → ⊥
first_clear s a b w = w.1

-- ---- groups

own_nests : (ns : List NestText) → AllByRecursion IsNestLimited ns → AllByRecursion (NestIs StepFits LimitedIf AnyPlace) ns
own_nests [] h = tt
own_nests (n ∷ ns) h = (record { steps = steps n.steps h.0.steps; at = h.0.at }, own_nests ns h.1)
  where
    steps : (ss : List Step) → AllByRecursion StepIs ss → AllByRecursion StepFits ss
    steps [] k = tt
    steps (Turns i x kind ∷ ss) k = (k.0, steps ss k.1)
    steps (Named i pick fs ∷ ss) k = (k.0.0, steps ss k.1)
    steps (Tested low high ∷ ss) k = (k.0, steps ss k.1)

module _ (a : Algorithm) (s : Schedule) (l : Lowered) (well : IsAlgorithm a) (legal : IsLegal a s) (groups : HasGroups a (stored_functions a s) l)
    (within : AreRegions (stored_functions a s) groups.placed.regions) where
  abbrev gs : List StoredText
  gs = stored_functions a s

  abbrev ls : List (Option LaidText)
  ls = groups.placed.regions

  -- its reduction variables have ranges, and its splits small factors
  ranges : (n : ℕ) (g : StoredText) → slice_get gs n ≡ Some g → (k : ℕ) → AllByRecursion IsRange (ranges_of g.changes k)
  ranges n g at =
      let w = found a s (flags (subjects a s)) g a.functions n at in
      subst (λ (u : StoredText). (k : ℕ) → AllByRecursion IsRange (ranges_of u.changes k)) (sym w.is) (of w.place w.function w.at)
    where
      of : (place : ℕ) (f : Function) → slice_get a.functions place ≡ Some f → (k : ℕ) → AllByRecursion IsRange (ranges_of f.changes k)
      of place f there zero = tt
      of place f there (suc i) = one (slice_get f.changes i) refl
        where
          one : (o : Option Change) → slice_get f.changes i ≡ o → AllByRecursion IsRange (elim o [ Some u ↦ u.ranges | None ↦ [] ])
          one None e = tt
          one (Some u) e = recursion_from_All IsRange u.ranges (update_is a place f well there i u e).domain.ranges

  small : (n : ℕ) (g : StoredText) (fs : List FormulaText) → slice_get gs n ≡ Some g → AllByRecursion IsBodySmall (bodies_from g.changes 0 g.subject.reductions fs)
  small n g fs at = bodies_small g.changes (ranges n g at) 0 g.subject.reductions fs

  factors : (n : ℕ) (g : StoredText) → slice_get gs n ≡ Some g → AllByRecursion (λ c. c.factor ≤ 1024) g.placed.cuts
  factors n g at = (let r = arranged a s well legal n g at in (named g.subject r.directives g.placed r.placed).factors)

  limited : (e : Entry) → IsRooted true gs ls e → IsLimited e.1.skeleton
  limited e h =
      let laid = laid_by a s l well legal groups within true e h in
      skeleton_limited e.0.subject.variables (bodies_from e.0.changes 0 e.0.subject.reductions e.2) e.0.placed e.1.region e.1.skeleton (factors h.place e.0 h.stored) laid.extents
      (small h.place e.0 e.2 h.stored) (skeleton_at gs ls groups.placed.around h.place e.0 e.1 e.2 h.stored h.laid h.defined)

  begins_clear : (line : ℕ) → Begins (plan_of l.plan) (λ n g. RegionIsWide g.region) line → ⊥
  begins_clear line h =
      let x = from_map group_of l.plan.groups.items h.number h.group h.there in
      let w = group_at a s l well legal groups within h.number x.0 x.1 in
      let entry = rooted_at true gs ls h.number w.entry w.is in
      let laid = laid_by a s l well legal groups within true w.entry entry in
      let so : RegionIsWide x.0.region = subst (λ (u : Group). RegionIsWide u.region) x.2 h.so in
      region_not_wide w.entry.1.region laid.extents (subst RegionIsWide w.region so)

  abbrev es : List Entry
  es = rooted false gs ls

  one_inner : (e : Entry) (is : List PlacedText) (k : ℕ) (c : Entry) → slice_get es k ≡ Some c → (i : PlacedText) → IsComputed a e es is c i → InnerIs StepFits LimitedIf AnyPlace i
  one_inner e is k c at i h =
      let r = rooted_at false gs ls k c at in
      let laid = laid_by a s l well legal groups within false c r in
      inner_is a e es is c i (factors r.place c.0 r.stored) (small r.place c.0 c.2 r.stored) (inner_within a e es is c i laid.extents h) h

  inners_are : (n : ℕ) (e : Entry) (is : List PlacedText) → slice_get (rooted true gs ls) n ≡ Some e → slice_get groups.placed.inside.placed n ≡ Some is →
      AllByRecursion (InnerIs StepFits LimitedIf AnyPlace) is
  inners_are n e is at there =
      let f = found_at a (length es) (rooted true gs ls) es groups.placed.inside.placed groups.placed.inside.stand.found n e is at there in
      found_all a e es (InnerIs StepFits LimitedIf AnyPlace) (λ js k c place i h. one_inner e js k c place i h) (length es) [] is tt f

  -- a group inside whose loops none is computed
  bare_clear : (n c line : ℕ) (e : Entry) (body : Statement) (claims : _) (needs : _) → IsRooted true gs ls e →
      IsBody a (rooted true gs ls) n c line e.0 e.2 e.1.skeleton (dimensions_of e.0 e.1.region e.1.skeleton) claims needs body → Clear P body
  bare_clear n c line e body claims needs h b =
      let k = e.1.skeleton in
      let lim = limited e h in
      let publish : List Statement = Publish (last_claim c b.fetches k) ∷ [] in
      let places = own_places (dimensions_of e.0 e.1.region k) in
      let nests = plain_clear e.0 e.2 _ _ _ _ 0 k.nests b.nests b.own b.nested lim.nests in
      let inner = fetches_clear b.fetches (b.nests ++ publish) (joined_clear P b.nests publish nests ((λ w. neither w.0), tt)) in
      subst (Clear P) (sym b.with.is) (steps_clear k.head (block (Alloc 0 e.0.subject.name places ∷ with_fetches b.fetches (b.nests ++ publish))) lim.head ((λ w. neither w.0), inner))

  -- and one inside whose loops some are
  mixed_clear : (n c line next : ℕ) (is : List PlacedText) (e : Entry) (body : Statement) (claims : _) (needs : _) (windows : _) → IsRooted true gs ls e →
      AllByRecursion (InnerIs StepFits LimitedIf AnyPlace) is → IsMixedBody (rooted true gs ls) n c line next is e claims needs windows body → Clear P body
  mixed_clear n c line next is e body claims needs windows h inners b =
      let k = e.1.skeleton in
      let lim = limited e h in
      let ds = dimensions_of e.0 e.1.region k in
      let publish : List Statement = Publish (b.done.claim - 1) ∷ [] in
      let nests = group_clear P StepFits LimitedIf AnyPlace step_clear store_clear alloc_clear first_clear is inners (length is) (group_owner e (claimed_region ds)) k.nests (own_nests
      k.nests lim.nests)
      (names_over k) (with_fetched b.fetches b.lines_of b.fetched (begun c line k)) (b.nests, b.done) b.made in
      let inner = fetches_clear b.fetches (b.nests ++ publish) (joined_clear P b.nests publish nests ((λ w. neither w.0), tt)) in
      subst (Clear P) (sym b.with.is) (steps_clear k.head (block (Alloc 0 e.0.subject.name (own_places ds) ∷ with_fetches b.fetches (b.nests ++ publish))) lim.head ((λ w. neither w.0), inner))

  body_clear : (n c line next : ℕ) (is : List PlacedText) (e : Entry) (p : CodeGroup) (claims : _) (needs : _) (windows : _) → IsRooted true gs ls e →
      AllByRecursion (InnerIs StepFits LimitedIf AnyPlace) is → IsBodyBy a (rooted true gs ls) n c line next is e p claims needs windows → Clear P (statement_of p.body)
  body_clear n c line next [] e p claims needs windows h inners b = bare_clear n c line e (statement_of p.body) claims needs h b.0
  body_clear n c line next (i ∷ is) e p claims needs windows h inners b = mixed_clear n c line next (i ∷ is) e (statement_of p.body) claims needs windows h inners b

  none_at : (line : ℕ) → IsWideInside IsNestLine (plan_of l.plan) line → ⊥
  none_at line h =
      let x = from_map group_of l.plan.groups.items h.number h.group h.there in
      let c = l.certificate in
      let b = body_at a (rooted true gs ls) 0 0 4 groups.placed.inside.placed (rooted true gs ls) l.plan.groups.items c.claims.items c.needs.items c.windows.items groups.placed.inside.bodies
      h.number x.0 x.1 in
      let entry = rooted_at true gs ls h.number b.entry b.is in
      let inners = inners_are h.number b.entry b.inners b.is b.inside in
      let clear = body_clear b.number b.first b.line b.next b.inners b.entry x.0 b.claims b.needs b.windows entry inners b.body in
      let begun : Group → Here = λ u. start (line_told (group_line (plan_of l.plan) h.number)) u in
      let stands = subst (λ (u : Group). Inside (λ s here. (line_told here.line ≡ line) × P s) u.body (begun u)) x.2 h.stands in
      none_inside P line (statement_of x.0.body) clear (begun (group_of x.0)) stands

pub nests_within : NestLinesAreWithin
nests_within a s l well legal groups line h = none_at a s l well legal groups (all_regions a s l groups) line h

pub groups_within : GroupLinesAreWithin
groups_within a s l well legal groups line h = begins_clear a s l well legal groups (all_regions a s l groups) line h
