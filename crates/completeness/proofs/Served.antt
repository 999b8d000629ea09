-- Each piece fetches cells that earlier pieces own which it needs.
use Rattle.std.proofs.Common.{◌≡◌, ℕ, zero, suc, ◌+◌, ◌-◌, ◌<◌, ◌≤◌, Bool, true, false, ◌&&◌, ◌||◌, not, List, [], ◌∷◌, ◌++◌, length, map, Option, Some, None, refl, sym, ap, ◌∙◌}
use Rattle.std.proofs.Common.{subst, inl, inr, ◌⊎◌, arith}
use Rattle.std.specs.Prelude.{MatchOption, ℤ, pos, ◌==◌, Contains, IsTrue, if◌then◌else◌, slice_get, flat_map}
use Rattle.std.specs.List.{AllByRecursion, list_any}
use Rattle.std.proofs.lemmas.List.{length-map}
use Rattle.std.proofs.lemmas.Option.{get_or_from_slice_get}
use Rattle.lin.specs.Spans.{IsInRegion}
use Rattle.lin.specs.declared.span.Span1.{Span1}
use Rattle.lin.proofs.TermLemmas.{all_weaker}
use Rattle.plan.specs.declared.plan.Group.{Group as CodeGroup}
use Rattle.plan.specs.declared.certificate.cert.Need.{Need}
use Rattle.plan.specs.Plan.{Statement, Alloc, Publish, Group, Plan, block}
use Rattle.plan.specs.View.{group_of, plan_of, statement_of}
use Rattle.plan.specs.Symbols.{Symbols, points}
use Rattle.plan.specs.Certificate.Certificate.{Certificate, certificate_of}
use Rattle.plan.specs.Certificate.Cells.{Cell, cell, Piece, piece, pieces, first_piece, group_pieces, grid_point, grid_symbols, grid_value, no_symbols, is_in_region, needed}
use Rattle.meaning.specs.Algorithm.{Algorithm}
use Rattle.meaning.specs.Names.{same_point}
use Rattle.meaning.specs.Conditions.{IsAlgorithm}
use Rattle.soundness.specs.Claims.{In}
use Rattle.soundness.proofs.Refines.{and_parts, eq_refl, eq_true}
use Rattle.soundness.proofs.Learned.{point_refl}
use Rattle.orders.specs.Work.{NeedsIsEarlier, FetchedIsNeeded}
use Rattle.sched.specs.Schedule.{Schedule}
use Rattle.sched.specs.declared.numbers.Extent.{Extent}
use Rattle.sched.specs.Legal.{IsLegal}
use Rattle.sched.specs.Skeleton.{SkeletonText}
use Rattle.sched.specs.Visits.{IsInGrid}
use Rattle.sched.specs.Order.{Ordered}
use Rattle.sched.proofs.Arriving.{skeletal}
use Rattle.headline.specs.Numbers.{HaveEnds, cell_number, has_point, is_cell}
use Rattle.headline.specs.Fetched.{fetched_cells}
use Rattle.headline.specs.Work.{cells_fetched, needed_pieces, needs_piece, needs_this, of_piece, group_fetched}
use Rattle.headline.specs.Parts.{IsNeeded}
use Rattle.headline.proofs.Lists.{at_below, at_map, from_map}
use Rattle.headline.proofs.Regions.{at_in, point_stands, point_number}
use Rattle.headline.proofs.Places.{piece_stands, pieces_numbered}
use Rattle.headline.proofs.Parts.{needs_one}
use Rattle.shares.specs.Layout.{own_list, fetched_list, needs_list, FetchesCells, PieceFetchesCells}
use Rattle.shares.specs.Needed.{need_grid, need_points, NeedIsInside, NeedsAreInside}
use Rattle.shares.specs.Boxes.{grid_sides, is_in_box}
use Rattle.shares.specs.Has.{NeedsPieces}
use Rattle.lower.specs.declared.lowering.Lowered.{Lowered}
use Rattle.sched.specs.Stored.{FormulaText, StoredText}
use Rattle.regions.specs.Stored.{is_large, some_calls}
use Rattle.lower.specs.Stored.{stored_functions, has_large}
use Rattle.sched.specs.Regions.{LaidText, symbols_from}
use Rattle.regions.specs.Regions.{laid_functions, bodies_from}
use Rattle.sched.specs.Around.{grid_scope, grid_symbol, head_scope}
use Rattle.sched.specs.Bounded.{whole}
use Rattle.blocks.specs.Blocks.{dimensions_of, owned_region}
use Rattle.regions.specs.Faults.{are_whole}
use Rattle.lower.specs.Faults.{region_fault}
use Rattle.regions.specs.Taken.{sites_of, taken_region}
use Rattle.regions.specs.Needs.{pieces_needed}
use Rattle.sched.specs.Fetches.{Entry}
use Rattle.blocks.specs.Fetches.{FetchText, with_fetches}
use Rattle.lower.specs.Fetches.{LieIn, fetched_groups}
use Rattle.lower.specs.Groups.{HasGroups, roots_over}
use Rattle.lower.specs.Owning.{IsOwned}
use Rattle.lower.proofs.Extents.{regions_there}
use Rattle.lower.proofs.Gridded.{OuterSpan, taken_outer, AreBetween, taken_between, head_long, sites_long}
use Rattle.lower.proofs.Needed.{needs_name}
use Rattle.completeness.specs.Parted.{AreServed, PartsGroup, InnersAreKept}
use Rattle.completeness.proofs.Points.{in_region, tests_region, tests_extents, in_extents, grid_within}
use Rattle.completeness.proofs.Earlier.{called_before}
use Rattle.completeness.proofs.Boxed.{tests_box, needs_boxed}
use Rattle.completeness.proofs.Fetching.{arrived, ordered_rises, arrival_agrees, same_region, both_blocks, nests_fetch, by_fetches}
use Rattle.completeness.proofs.Bodies.{IsFetchAt, fetch_at, need_at, other_at, body_at, need_of, AreReady, entry_at}
use Rattle.completeness.proofs.Owned.{IsGroupMade, group_made, blocked_at, parts_at, parted, each}
use Rattle.completeness.proofs.Output.{group_at}
use Rattle.completeness.proofs.Listed.{all_at, in_list}
use Rattle.completeness.proofs.NeedEnds.{needs_end}

some_same : {A : Type 0} (x y : A) → Some x ≡ Some y → x ≡ y
some_same x y e = cc e

-- ---- members

place_in : {A : Type 0} (xs : List A) (x : A) → In x xs → (k : ℕ) × (slice_get xs k ≡ Some x)
place_in [] x m = absurd m
place_in (y ∷ xs) x (inl e) = (0, ap (λ z. Some z) (sym e))
place_in (y ∷ xs) x (inr m) = let r = place_in xs x m in (suc r.0, r.1)

any_in : {A : Type 0} (test : A → Bool) (xs : List A) (x : A) → In x xs → test x ≡ true → list_any test xs ≡ true
any_in test [] x m e = absurd m
any_in test (y ∷ xs) x (inl s) e = of (test y) (ap test (sym s) ∙ e)
  where
    of : (b : Bool) → b ≡ true → (b || list_any test xs) ≡ true
    of true q = refl
    of false q = absurd (cc q)
any_in test (y ∷ xs) x (inr m) e = of (test y) (any_in test xs x m e)
  where
    of : (b : Bool) → list_any test xs ≡ true → (b || list_any test xs) ≡ true
    of true q = refl
    of false q = q

in_any : {A : Type 0} (test : A → Bool) (xs : List A) → list_any test xs ≡ true → (x : A) × In x xs × (test x ≡ true)
in_any test [] e = absurd (cc e)
in_any test (y ∷ xs) e = of (test y) refl e (in_any test xs)
  where
    of : (b : Bool) → test y ≡ b → (b || list_any test xs) ≡ true → (list_any test xs ≡ true → (x : _) × In x xs × (test x ≡ true)) → (x : _) × In x (y ∷ xs) × (test x ≡ true)
    of true t q rest = (y, inl refl, t)
    of false t q rest = let r = rest q in (r.0, inr r.1, r.2)

in_map : (h : ℕ) (qs : List (List ℤ)) (q : List ℤ) → In q qs → In (cell h q) (map (cell h) qs)
in_map h [] q m = absurd m
in_map h (x ∷ qs) q (inl e) = inl (ap (cell h) e)
in_map h (x ∷ qs) q (inr m) = inr (in_map h qs q m)

map_in : (h : ℕ) (qs : List (List ℤ)) (x : Cell) → In x (map (cell h) qs) → (q : List ℤ) × In q qs × (x ≡ cell h q)
map_in h [] x m = absurd m
map_in h (q ∷ qs) x (inl e) = (q, inl refl, e)
map_in h (q ∷ qs) x (inr m) = let r = map_in h qs x m in (r.0, inr r.1, r.2)

in_first : {A : Type 0} (x : A) (xs ys : List A) → In x xs → In x (xs ++ ys)
in_first x [] ys h = absurd h
in_first x (y ∷ xs) ys (inl e) = inl e
in_first x (y ∷ xs) ys (inr h) = inr (in_first x xs ys h)

in_second : {A : Type 0} (x : A) (xs ys : List A) → In x ys → In x (xs ++ ys)
in_second x [] ys h = h
in_second x (y ∷ xs) ys h = inr (in_second x xs ys h)

in_either : {A : Type 0} (x : A) (xs ys : List A) → In x (xs ++ ys) → In x xs ⊎ In x ys
in_either x [] ys h = inr h
in_either x (y ∷ xs) ys (inl e) = inl (inl e)
in_either x (y ∷ xs) ys (inr h) = elim (in_either x xs ys h) [ inl k ↦ inl (inr k) | inr k ↦ inr k ]

-- what a piece needs, need line by need line
abbrev named_by : ℕ → Symbols → Need → List Cell
named_by n s w = if w.group == n then map (cell w.needed) (points s w.region) else []

in_needed : (n : ℕ) (s : Symbols) (ws : List Need) (w : Need) (q : List ℤ) → In w ws → w.group ≡ n → In q (points s w.region) → In (cell w.needed q) (flat_map (named_by n s) ws)
in_needed n s [] w q m e h = absurd m
in_needed n s (v ∷ ws) w q (inl same) e h =
    let test : (v.group == n) ≡ true = ap (λ (u : Need). u.group == n) (sym same) ∙ ap (λ (k : ℕ). k == n) e ∙ eq_refl n in
    let there : In (cell w.needed q) (map (cell v.needed) (points s v.region)) = subst (λ (u : Need). In (cell w.needed q) (map (cell u.needed) (points s u.region))) same
    (in_map w.needed (points s w.region) q h) in
    in_first (cell w.needed q) (named_by n s v) (flat_map (named_by n s) ws)
    (subst (λ (b : Bool). In (cell w.needed q) (if b then map (cell v.needed) (points s v.region) else [])) (sym test) there)
in_needed n s (v ∷ ws) w q (inr m) e h = in_second (cell w.needed q) (named_by n s v) (flat_map (named_by n s) ws) (in_needed n s ws w q m e h)

needed_in : (n : ℕ) (s : Symbols) (ws : List Need) (y : Cell) → In y (flat_map (named_by n s) ws) → (w : Need) × In w ws × (w.group ≡ n) × (y.group ≡ w.needed)
needed_in n s [] y m = absurd m
needed_in n s (v ∷ ws) y m = of (in_either y (named_by n s v) (flat_map (named_by n s) ws) m) (needed_in n s ws y)
  where
    here : (b : Bool) → (v.group == n) ≡ b → In y (if b then map (cell v.needed) (points s v.region) else []) → (w : Need) × In w (v ∷ ws) × (w.group ≡ n) × (y.group ≡ w.needed)
    here true e k = let r = map_in v.needed (points s v.region) y k in (v, inl refl, eq_true v.group n e, ap (λ (z : Cell). z.group) r.2)
    here false e k = absurd k

    of : In y (named_by n s v) ⊎ In y (flat_map (named_by n s) ws) → (In y (flat_map (named_by n s) ws) → (w : Need) × In w ws × (w.group ≡ n) × (y.group ≡ w.needed)) →
        (w : Need) × In w (v ∷ ws) × (w.group ≡ n) × (y.group ≡ w.needed)
    of (inl k) rest = here (v.group == n) refl k
    of (inr k) rest = let r = rest k in (r.0, inr r.1, r.2, r.3)

-- ---- pieces of earlier groups

pieces_before : (gs : List Group) (m n : ℕ) (g : Group) → slice_get gs m ≡ Some g → m < n → first_piece gs m + group_pieces g ≤ first_piece gs n
pieces_before [] m n g e less = absurd (cc e)
pieces_before (x ∷ gs) zero zero g e less = absurd (omega (arith, less))
pieces_before (x ∷ gs) zero (suc n) g e less = let same : x ≡ g = cc e in let count = ap group_pieces same in omega (arith, count)
pieces_before (x ∷ gs) (suc m) zero g e less = absurd (omega (arith, less))
pieces_before (x ∷ gs) (suc m) (suc n) g e less = let h = pieces_before gs m n g e (omega (arith, less)) in omega (arith, h)

-- ---- regions

lie_in : (xs : List Span1) (es : List Extent) (v : ℕ → ℤ) (q : List ℤ) → LieIn xs es → IsInRegion xs v q → IsInRegion (map whole es) v q
lie_in [] [] v [] h k = tt
lie_in [] [] v (z ∷ q) h k = absurd k
lie_in [] (e ∷ es) v q h k = absurd h
lie_in (x ∷ xs) [] v q h k = absurd h
lie_in (x ∷ xs) (e ∷ es) v [] h k = absurd k
lie_in (x ∷ xs) (e ∷ es) v (z ∷ q) h k = (h.0 v z k.0, lie_in xs es v q h.1 k.1)

some_formulas : (gs : List StoredText) → has_large gs ≡ false → (i : ℕ) (g : StoredText) → slice_get gs i ≡ Some g → (fs : List FormulaText) × (g.formulas ≡ Some fs)
some_formulas [] small i g e = absurd (cc e)
some_formulas (u ∷ gs) small zero g e = of g.formulas refl
  where
    same : u ≡ g
    same = cc e

    first : is_large g ≡ false
    first = ap is_large (sym same) ∙ neither (is_large u) (has_large gs) small
      where
        neither : (a b : Bool) → (a || b) ≡ false → a ≡ false
        neither true b h = h
        neither false b h = refl

    of : (o : Option (List FormulaText)) → g.formulas ≡ o → (fs : List FormulaText) × (g.formulas ≡ Some fs)
    of (Some fs) q = (fs, q)
    of None q = absurd (let large : is_large g ≡ true = ap (λ (o : Option (List FormulaText)). elim o [ Some fs ↦ false | None ↦ true ]) q in cc (large, first))
some_formulas (u ∷ gs) small (suc i) g e = some_formulas gs (second (is_large u) (has_large gs) small) i g e
  where
    second : (a b : Bool) → (a || b) ≡ false → b ≡ false
    second true b h = absurd (cc h)
    second false b h = h

module _ (a : Algorithm) (sch : Schedule) (l : Lowered) (well : IsAlgorithm a) (legal : IsLegal a sch) (small : has_large (stored_functions a sch) ≡ false)
    (kept : region_fault a (stored_functions a sch) ≡ None) (all : are_whole (stored_functions a sch) ≡ true) (groups : HasGroups a (stored_functions a sch) l) where
  abbrev pub gs : List StoredText
  gs = stored_functions a sch

  abbrev pub ls : List (Option LaidText)
  ls = laid_functions a gs

  abbrev pub ps : List CodeGroup
  ps = l.plan.groups.items

  abbrev pub p : Plan
  p = plan_of l.plan

  abbrev pub c : Certificate
  c = certificate_of l.certificate

  abbrev pub roots : List Entry
  roots = roots_over a gs

  abbrev pub Made : ℕ → CodeGroup → Type 0
  Made n q = IsGroupMade a sch l well legal small kept all groups n q

  pub made_at : (n : ℕ) (q : CodeGroup) → slice_get ps n ≡ Some q → Made n q
  made_at n q at = group_made a sch l well legal small kept all groups n q at

  pub ready : AreReady gs ls
  ready i g at =
      let f = some_formulas gs small i g at in
      let r = regions_there a gs small kept i g f.0 at f.1 in
      (f.0, r.0, f.1, r.1)

  -- ---- a group that another one needs

  pub record IsNeeding (n : ℕ) (w : Need) : Type 0 where
    pub h : ℕ
    pub group : CodeGroup
    pub at_h : slice_get ps h ≡ Some group
    pub made : Made h group
    pub taken : List Span1
    pub by : w.group ≡ n
    pub of : w.needed ≡ h
    pub earlier : h < n
    pub between : AreBetween made.laid.region taken
    pub region : w.region ≡ pieces_needed made.stored made.laid.region made.laid.skeleton.grid taken
    pub inside : LieIn taken made.laid.region

  -- what a fetch of a group, and its need line, say
  module _ (n : ℕ) (g : StoredText) (at : slice_get gs n ≡ Some g) (fs : List FormulaText) (k : SkeletonText) (defined : g.formulas ≡ Some fs) where
    pub needing : (ws : List Need) (f : FetchText) (r : IsFetchAt (sites_of a g fs k) (grid_scope k.grid) n (fetched_groups fs n 0 roots) ws f) →
        (x : IsNeeding n r.need) × (x.h ≡ f.group) × (x.taken ≡ f.region)
    needing ws f r =
        let e = r.group.1 in
        let other = other_at fs n 0 roots r.place r.group r.listed in
        let entry = entry_at gs ls all ready other.place e other.at in
        let h = other.place in
        let h_is : r.group.0 ≡ h = (let m = other.numbered in omega (arith, m)) in
        let tests = and_parts (not (r.group.0 == n)) (some_calls e.0.subject.name fs) other.fetched in
        let differs : (h ≡ n → ⊥) = λ same. none (r.group.0 == n) (ap (λ (m : ℕ). m == n) (h_is ∙ same) ∙ eq_refl n) tests.0 in
        let less = called_before a sch well h n e.0 g fs entry.is at defined tests.1 differs in
        let there = group_at gs ps (each a sch l well legal small kept all groups) h e.0 entry.is in
        let w = made_at h there.group there.at in
        let stored : w.stored ≡ e.0 = some_same w.stored e.0 (sym w.is ∙ entry.is) in
        let laid : w.laid ≡ e.1 = some_same w.laid e.1 (some_same (Some w.laid) (Some e.1) (sym w.found ∙ entry.laid)) in
        let region : f.region ≡ taken_region (grid_scope k.grid) r.part.taken.sites 0 e.1.region = r.part.taken.region in
        let between : AreBetween e.1.region f.region = subst (λ (xs : List Span1). AreBetween e.1.region xs) (sym region) (taken_between (grid_scope k.grid) r.part.taken.sites 0 e.1.region) in (
          record {
            h = h;
            group = there.group;
            at_h = there.at;
            made = w;
            taken = f.region;
            by = r.fetched.needing;
            of = r.fetched.needed ∙ h_is;
            earlier = less;
            between = subst (λ (m : LaidText). AreBetween m.region f.region) (sym laid) between;
            region = r.fetched.pieces ∙ sym (λ i. pieces_needed (stored i) (laid i).region (laid i).skeleton.grid f.region);
            inside = subst (λ (m : LaidText). LieIn f.region m.region) (sym laid) r.part.inside;
          },
          sym h_is ∙ sym r.grouped,
          refl,
        )
      where
        none : (b : Bool) → b ≡ true → not b ≡ true → ⊥
        none true x y = absurd (cc y)
        none false x y = absurd (cc x)

  -- ---- need lines

  need_is : (w : Need) → In w c.needs → (n : ℕ) × IsNeeding n w
  need_is w m =
      let o = need_of a roots 0 0 4 gs ps l.certificate.claims.items l.certificate.needs.items (groups.bodies all) w m in
      let n = 0 + o.place in
      let counted : 0 + o.place ≡ o.place = omega arith in
      let body = o.body.body in
      let r = need_at (sites_of a o.stored o.body.formulas o.body.skeleton) (grid_scope o.body.skeleton.grid) n 1 _
      (fetched_groups o.body.formulas n 0 roots) body.fetches o.own_needs body.fetched body.fetching w o.among in
      let x = needing n o.stored (ap (slice_get gs) counted ∙ o.at) o.body.formulas o.body.skeleton o.body.defined o.own_needs r.0 r.1 in
      (n, subst (IsNeeding n) r.2 x.0)

  -- the pieces that a need line names
  named_pieces : (j : Piece) (w : Need) → In w c.needs → NeedIsInside p j w
  named_pieces j w m same =
      let x = (need_is w m).1 in
      let grid : need_grid p w ≡ grid_sides x.made.laid.skeleton.grid =
      ap (λ (o : Option Group). grid_sides (elim o [ None ↦ [] | Some g ↦ g.grid ])) (ap (slice_get p.groups) x.of ∙ at_map group_of ps x.h x.group x.at_h) ∙ ap grid_sides x.made.grid in
      all_at (λ (q : List ℤ). IsTrue (is_in_box (need_grid p w) q)) (need_points j w) (λ i q at.
      let has = (point_number (grid_symbols j.at) w.region i q at).1 in
      let lies = in_region (grid_symbols j.at) w.region q has in
      let there : IsInRegion (pieces_needed x.made.stored x.made.laid.region x.made.laid.skeleton.grid x.taken) (grid_value j.at) q = subst
      (λ (xs : List Span1). IsInRegion xs (grid_value j.at) q) x.region lies in
      let boxed = needs_boxed x.made.stored x.made.laid.region x.made.laid.skeleton x.made.laid_by x.taken x.between (grid_value j.at) q there in
      ap (λ (sides : _). is_in_box sides q) grid ∙ tests_box x.made.laid.skeleton.grid q boxed)

  grids : (i : ℕ) → NeedsPieces p c i
  grids i = of (slice_get (pieces p) i)
    where
      of : (o : Option Piece) → MatchOption o (Unit {0}) (λ j. NeedsAreInside p j c.needs)
      of None = tt
      of (Some j) = all_at (NeedIsInside p j) c.needs (λ k w at. named_pieces j w (at_in c.needs k w at))

  -- ---- fetched cells

  record IsFetchedCell (n : ℕ) (s : Symbols) (x : Cell) : Type 0 where
    need : Need
    among : In need c.needs
    needs : IsNeeding n need
    point : List ℤ
    is : x ≡ cell needs.h point
    lies : IsInRegion needs.taken s.value point

  fetched_cell : (n : ℕ) (q : CodeGroup) (at : slice_get ps n ≡ Some q) (s : Symbols) (x : Cell) → In x (fetched_cells (statement_of q.body) s) → IsFetchedCell (0 + n) s x
  fetched_cell n q at s x m =
      let me = made_at n q at in
      let g = me.stored in
      let o = body_at a roots 0 0 4 gs ps l.certificate.claims.items l.certificate.needs.items (groups.bodies all) n g q me.is at in
      let i = 0 + n in
      let counted : 0 + n ≡ n = omega arith in
      let body = o.body.body in
      let k = o.body.skeleton in
      let fs = o.body.formulas in
      let rest = body.nests ++ Publish _ ∷ [] in
      let here = subst (λ (st : Statement). In x (fetched_cells st s)) body.with.is m in
      let r = arrived k.head (block (Alloc 0 g.subject.name _ ∷ with_fetches body.fetches rest)) s x here in
      let none = both_blocks body.nests (Publish _ ∷ []) (nests_fetch g fs _ _ _ _ 0 k.nests body.nests body.own body.nested) refl in
      let f = by_fetches body.fetches rest r.symbols x none r.fetched in
      let fa = fetch_at (sites_of a g fs k) (grid_scope k.grid) i 1 _ (fetched_groups fs i 0 roots) body.fetches o.own_needs body.fetched body.fetching f.place f.fetch f.at in
      let y = needing i g (ap (slice_get gs) counted ∙ me.is) fs k o.body.defined o.own_needs f.fetch fa in
      let order = skeletal g.subject.variables (bodies_from g.changes 0 g.subject.reductions fs) g.placed o.body.extents k o.body.laid in
      let first = length k.grid in
      let rises = ordered_rises k.head first order.next order.head in
      let many = order.next - first in
      let whole_count : first + many ≡ order.next = omega (arith, rises) in
      let agree = arrival_agrees first many k.head s r.symbols (subst (λ (e : ℕ). Ordered first k.head e) (sym whole_count) order.head) r.arrives in
      let sites = fa.part.taken.sites in
      let head = head_long k order.next order.head in
      let long = sites_long a g fs k fa.group.1.0.subject.name sites fa.part.taken.called in
      let stand : AllByRecursion (λ t. first + many ≤ length t.scope) sites =
      all_weaker (λ t. length (head_scope k) ≤ length t.scope) (λ t. first + many ≤ length t.scope) (λ t h. omega (arith, h, head, whole_count)) sites long in
      let outer = taken_outer first many (grid_scope k.grid) sites (length-map k.grid grid_symbol) stand 0 fa.group.1.1.region in
      let outer_here = subst (λ (xs : List Span1). AllByRecursion (OuterSpan (symbols_from first many)) xs) (sym fa.part.taken.region) outer in
      let point = place_in (points r.symbols f.fetch.region) f.point f.within in
      let has = (point_number r.symbols f.fetch.region point.0 f.point point.1).1 in
      let lies = same_region (symbols_from first many) r.symbols.value s.value agree f.fetch.region f.point outer_here (in_region r.symbols f.fetch.region f.point has) in
      record {
        need = fa.need;
        among = o.among fa.need (at_in o.own_needs fa.place fa.need fa.needed);
        needs = y.0;
        point = f.point;
        is = f.is ∙ ap (λ (h : ℕ). cell h f.point) (sym y.1);
        lies = subst (λ (xs : List Span1). IsInRegion xs s.value f.point) (sym y.2) lies;
      }

  -- such a cell is one of the plan, and an earlier piece that the line names owns it
  inside_needed : (n : ℕ) (s : Symbols) (x : Cell) (f : IsFetchedCell n s x) → is_in_region no_symbols f.needs.group.region f.point ≡ true
  inside_needed n s x f =
      let y = f.needs in
      let lies = lie_in y.taken y.made.laid.region s.value f.point y.inside f.lies in
      let extents = in_extents s y.made.laid.region f.point (tests_region s (map whole y.made.laid.region) f.point lies) in
      ap (λ (xs : List Span1). is_in_region no_symbols xs f.point) y.made.region ∙ tests_extents no_symbols y.made.laid.region f.point extents

  is_plan_cell : (n : ℕ) (s : Symbols) (x : Cell) → IsFetchedCell n s x → is_cell p x ≡ true
  is_plan_cell n s x f =
      let y = f.needs in
      ap (is_cell p) f.is ∙ ap (λ (o : Option Group). has_point o f.point) (at_map group_of ps y.h y.group y.at_h) ∙ inside_needed n s x f

  record IsPieceHere (i : ℕ) (j : Piece) : Type 0 where
    group : CodeGroup
    k : ℕ
    at : slice_get ps j.group ≡ Some group
    less : k < group_pieces (group_of group)
    is : j ≡ piece (group_of group) j.group k
    number : i ≡ first_piece p.groups j.group + k

  piece_here : (i : ℕ) (j : Piece) → slice_get (pieces p) i ≡ Some j → IsPieceHere i j
  piece_here i j e =
      let x = pieces_numbered.number p i j e in
      let w = from_map group_of ps j.group x.0 x.2 in
      let same : x.0 ≡ group_of w.0 = w.2 in
      record {
        group = w.0;
        k = x.1;
        at = w.1;
        less = subst (λ (g : Group). x.1 < group_pieces g) same x.3;
        is = x.4 ∙ ap (λ (g : Group). piece g j.group x.1) same;
        number = x.5;
      }

  fetched_here : (i : ℕ) (j : Piece) → slice_get (pieces p) i ≡ Some j → (x : Cell) → In x (cells_fetched p j) → IsFetchedCell (0 + j.group) (grid_symbols j.at) x
  fetched_here i j e x m =
      let w = piece_here i j e in
      let body : group_fetched (slice_get p.groups j.group) j ≡ fetched_cells (statement_of w.group.body) (grid_symbols j.at) =
      ap (λ (o : Option Group). group_fetched o j) (at_map group_of ps j.group w.group w.at) in
      fetched_cell j.group w.group w.at (grid_symbols j.at) x (subst (In x) body m)

  cells_are : (i : ℕ) → FetchesCells p i
  cells_are i = of (slice_get (pieces p) i) refl
    where
      of : (o : Option Piece) → slice_get (pieces p) i ≡ o → PieceFetchesCells p o
      of None e = tt
      of (Some j) e = all_at (λ (x : Cell). IsTrue (is_cell p x)) (cells_fetched p j) (λ k x at. is_plan_cell (0 + j.group) (grid_symbols j.at) x
          (fetched_here i j e x (at_in (cells_fetched p j) k x at)))

  -- ---- earlier pieces

  earlier_pieces : NeedsIsEarlier (length (pieces p)) (needs_list p c)
  earlier_pieces i m less h = of (slice_get (pieces p) i) refl h
    where
      of : (o : Option Piece) → slice_get (pieces p) i ≡ o → Contains (of_piece o [] (needed_pieces p c)) m → m < i
      of None e k = absurd (let le = k.1 in omega (arith, le))
      of (Some j) e k = other (slice_get (pieces p) m) refl ((needs_one.members p c j m).0 k)
        where
          other : (u : Option Piece) → slice_get (pieces p) m ≡ u → needs_this c j u ≡ true → m < i
          other None f t = absurd (cc t)
          other (Some y) f t =
              let z = in_any (λ (v : Cell). (v.group == y.group) && same_point v.point (map pos y.at)) (needed c j.group (grid_symbols j.at)) t in
              let same = eq_true z.0.group y.group (and_parts (z.0.group == y.group) (same_point z.0.point (map pos y.at)) z.2).0 in
              let w = needed_in j.group (grid_symbols j.at) c.needs z.0 z.1 in
              let x = need_is w.0 w.1 in
              let less_group = x.1.earlier in
              let by = x.1.by in
              let of_h = x.1.of in
              let here = piece_here i j e in
              let there = piece_here m y f in
              let w2 = w.2 in
              let w3 = w.3 in
              let order : y.group < j.group = omega (arith, same, w3, of_h, less_group, by, w2) in
              let most = pieces_before p.groups y.group j.group (group_of there.group) (at_map group_of ps y.group there.group there.at) order in
              let number_y = there.number in
              let number_j = here.number in
              let below = there.less in
              omega (arith, most, number_y, number_j, below)

  -- ---- owners

  module _ (kept_inner : InnersAreKept a sch) where
    owned_needed : FetchedIsNeeded (length (pieces p)) (own_list p c) (fetched_list p) (needs_list p c)
    owned_needed i x less h = of (slice_get (pieces p) i) refl h
      where
        of : (o : Option Piece) → slice_get (pieces p) i ≡ o → Contains (of_piece o [] (λ j. map (cell_number p) (cells_fetched p j))) x →
            (m : ℕ) × Contains (needs_list p c i) m × Contains (own_list p c m) x
        of None e k = absurd (let le = k.1 in omega (arith, le))
        of (Some j) e k =
            let xs = map (cell_number p) (cells_fetched p j) in
            let u = at_below xs k.0 k.1 in
            let u_is : u.0 ≡ x = sym (get_or_from_slice_get xs k.0 u.0 x u.1) ∙ k.2 in
            let y = from_map (cell_number p) (cells_fetched p j) k.0 u.0 u.1 in
            let f = fetched_here i j e y.0 (at_in (cells_fetched p j) k.0 y.0 y.1) in
            let w = f.needs in
            let parts = parts_at a sch l well legal small kept all groups kept_inner w.h w.group w.made in
            let o = parts.owner f.point (inside_needed (0 + j.group) (grid_symbols j.at) y.0 f) in
            let grid_here = grid_point w.group.grid.items o.0 in
            let number = first_piece p.groups w.h + o.0 in
            let stands = piece_stands p w.h (group_of w.group) o.0 (at_map group_of ps w.h w.group w.at_h) o.1 in
            let in_grid : IsInGrid w.made.laid.skeleton.grid grid_here = subst (λ (ms : List ℕ). IsInGrid ms grid_here) w.made.grid (grid_within w.group.grid.items o.0 o.1) in
            let owned : IsOwned w.made.stored w.made.laid.region w.made.laid.skeleton grid_here f.point =
            in_region (grid_symbols grid_here) (owned_region (dimensions_of w.made.stored w.made.laid.region w.made.laid.skeleton)) f.point o.2 in
            let named = needs_name w.made.stored w.made.laid.region w.made.laid.skeleton w.made.laid_by (blocked_at a sch l well legal small kept all groups kept_inner w.h w.group w.made)
            w.taken (grid_value j.at) f.point grid_here f.lies in_grid owned in
            let there : IsInRegion f.need.region (grid_value j.at) (map pos grid_here) = subst (λ (rs : List Span1). IsInRegion rs (grid_value j.at) (map pos grid_here)) (sym w.region) named in
            let ends : HaveEnds f.need.region = subst HaveEnds (sym w.region) (needs_end w.made.stored w.made.laid.region w.taken w.between w.made.laid.skeleton.grid) in
            let test = tests_region (grid_symbols j.at) f.need.region (map pos grid_here) there in
            let point_at = at_in (points (grid_symbols j.at) f.need.region) _ (map pos grid_here) (point_stands (grid_symbols j.at) f.need.region (map pos grid_here) ends test) in
            let counted : 0 + j.group ≡ j.group = omega arith in
            let listed : In (cell f.need.needed (map pos grid_here)) (needed c j.group (grid_symbols j.at)) = in_needed j.group (grid_symbols j.at) c.needs f.need (map pos grid_here) f.among
            (w.by ∙ counted) point_at in
            let y_test : ((f.need.needed == w.h) && same_point (map pos grid_here) (map pos grid_here)) ≡ true =
            rw (ap (λ (h : ℕ). h == w.h) w.of ∙ eq_refl w.h) (point_refl (map pos grid_here)) in
            let needs_it : needs_piece c j (piece (group_of w.group) w.h o.0) ≡ true =
            any_in (λ (v : Cell). (v.group == w.h) && same_point v.point (map pos grid_here)) (needed c j.group (grid_symbols j.at)) (cell f.need.needed (map pos grid_here)) listed y_test in
            let is_needed : IsNeeded p c j number = ap (needs_this c j) stands ∙ needs_it in
            let contained : Contains (needed_pieces p c j) number = (needs_one.members p c j number).1 is_needed in
            let own_there = in_list p c (parted a sch l well legal small kept all groups kept_inner) w.h (group_of w.group) o.0 w.made.own.region (at_map group_of ps w.h w.group w.at_h) w.made.told
            (subst (PartsGroup (group_of w.group)) (sym w.made.owned) parts) o.1 f.point (ap (λ (r : List Span1). is_in_region (grid_symbols grid_here) r f.point) w.made.owned ∙ o.2) in
            let x_is : cell_number p (cell w.h f.point) ≡ x = ap (cell_number p) (sym f.is) ∙ sym y.2 ∙ u_is in (
              number,
              subst (λ (o : Option Piece). Contains (of_piece o [] (needed_pieces p c)) number) (sym e) contained,
              subst (Contains (own_list p c number)) x_is own_there,
            )

    pub served : AreServed p c
    served = record { cells = cells_are; grid = grids; earlier = earlier_pieces; needed = owned_needed }
