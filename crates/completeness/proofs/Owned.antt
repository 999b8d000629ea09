-- The pieces of each group that is made of a schedule of whole functions part its region.
use Rattle.std.proofs.Common.{◌≡◌, ℕ, zero, suc, ◌+◌, ◌<◌, Bool, true, false, List, [], ◌∷◌, map, Option, Some, None, refl, sym, ap, ◌∙◌, subst, arith}
use Rattle.std.specs.Prelude.{ℤ, pos, ◌+ℤ◌, ◌-ℤ◌, ◌==◌, slice_get, string_bytes, if◌then◌else◌}
use Rattle.std.proofs.lemmas.Int.{ints}
use Rattle.std.proofs.lemmas.Bool.Decides.{nat_tests}
use Rattle.lin.specs.Forms.{Form}
use Rattle.lin.specs.declared.span.Span1.{Span1}
use Rattle.plan.specs.declared.plan.Group.{Group as CodeGroup}
use Rattle.plan.specs.declared.certificate.cert.Own.{Own}
use Rattle.plan.specs.Plan.{Group}
use Rattle.plan.specs.View.{group_of, plan_of}
use Rattle.plan.specs.Certificate.Certificate.{certificate_of}
use Rattle.plan.specs.Certificate.Cells.{own_region, grid_point, grid_symbols, grid_rank, group_pieces, no_symbols, is_in_region}
use Rattle.meaning.specs.Algorithm.{Algorithm}
use Rattle.meaning.specs.Conditions.{IsAlgorithm}
use Rattle.soundness.proofs.Refines.{and_parts, eq_refl}
use Rattle.sched.specs.Schedule.{Schedule}
use Rattle.sched.specs.declared.schedule.Split.{Split}
use Rattle.sched.specs.declared.numbers.Extent.{Extent}
use Rattle.sched.specs.Legal.{IsLegal}
use Rattle.sched.specs.Numbers.{loop_numbers, piece_counts}
use Rattle.sched.specs.Skeleton.{SkeletonText}
use Rattle.sched.specs.Visits.{IsInGrid}
use Rattle.headline.specs.Numbers.{HasEnds, HaveEnds}
use Rattle.headline.proofs.Lists.{from_map, at_map}
use Rattle.headline.proofs.Members.{got}
use Rattle.lower.specs.declared.lowering.Lowered.{Lowered}
use Rattle.sched.specs.Stored.{FormulaText, StoredText}
use Rattle.lower.specs.Stored.{stored_functions, has_large}
use Rattle.sched.specs.Regions.{LaidText}
use Rattle.regions.specs.Regions.{laid_functions, skeleton_of, bodies_from}
use Rattle.blocks.specs.Blocks.{PartText, Whole, Run, Scattered, LayText, dimension_by, dimension_of, lay_over, dimensions_of, owned_region, part_of}
use Rattle.sched.specs.Bounded.{whole}
use Rattle.regions.specs.Faults.{is_whole, is_homeless, are_whole}
use Rattle.lower.specs.Faults.{region_fault}
use Rattle.lower.specs.Groups.{IsGroupOf, AreGroupsOf, AreOwned, HasBlock, HaveBlocks, root_functions, region_of, HasGroups}
use Rattle.lower.specs.Owning.{has_scattered, IsOwned, IsLaidBy, MakeUp}
use Rattle.lower.proofs.Grids.{head_of}
use Rattle.lower.proofs.Owners.{make_up}
use Rattle.completeness.specs.Parted.{HasPoint, PartsGroup, IsPartedGroup, ArePartedGroups, KeepsInner, InnersAreKept}
use Rattle.lower.proofs.Extents.{region_is, regions_there, skeleton_is}
use Rattle.completeness.proofs.Laid.{arranged}
use Rattle.completeness.proofs.Unscattered.{none_scattered}
use Rattle.completeness.proofs.Points.{in_region, tests_region, in_extents, tests_extents, grid_within, grid_ranked, grid_piece}

pub some_same : {A : Type 0} (x y : A) → Some x ≡ Some y → x ≡ y
some_same x y e = cc e

-- ---- ends

whole_ends : (es : List Extent) → HaveEnds (map whole es)
whole_ends [] = tt
whole_ends (e ∷ es) = (record { lower = omega arith; upper = omega arith }, whole_ends es)

module _ (l : LayText) where
  part_ends : (x : List ℕ) (cs : List Split) (p : PartText) → HasEnds (dimension_by l x cs p).own
  part_ends x cs Whole = record { lower = omega arith; upper = omega arith }
  part_ends x cs (Run b) = record { lower = omega arith; upper = omega arith }
  part_ends x cs Scattered = record { lower = omega arith; upper = omega arith }

  own_ends : (cs : List Split) (xs : List (List ℕ)) → HaveEnds (owned_region (map (dimension_of l cs) xs))
  own_ends cs [] = tt
  own_ends cs (x ∷ xs) = (part_ends x cs (part_of l x cs), own_ends cs xs)

-- ---- extents by their spans

one_extent : (x y : Extent) → whole x ≡ whole y → x ≡ y
one_extent x y h =
    let low : x.low ≡ y.low = ap (λ (s : Span1). first_constant s.lower) h in
    let high : x.low +ℤ pos x.count -ℤ pos 1 ≡ y.low +ℤ pos y.count -ℤ pos 1 = ap (λ (s : Span1). first_constant s.upper) h in
    let count : x.count ≡ y.count = omega (arith, ints, low, high) in
    λ i. record { low = low i; count = count i }
  where
    first_constant : List Form → ℤ
    first_constant [] = pos 0
    first_constant (f ∷ fs) = f.constant

all_extents : (xs ys : List Extent) → map whole xs ≡ map whole ys → xs ≡ ys
all_extents [] [] h = refl
all_extents [] (y ∷ ys) h = absurd (cc h)
all_extents (x ∷ xs) [] h = absurd (cc h)
all_extents (x ∷ xs) (y ∷ ys) h =
    let first : whole x ≡ whole y = cc h in
    let rest : map whole xs ≡ map whole ys = cc h in
    λ i. one_extent x y first i ∷ all_extents xs ys rest i

-- ---- the groups, one by one

pub record BlockAt (gs : List StoredText) (os : List Own) (n : ℕ) (p : CodeGroup) : Type 0 where
  pub stored : StoredText
  pub own : Own
  pub is : slice_get gs n ≡ Some stored
  pub owned : slice_get os n ≡ Some own
  pub block : HasBlock stored p own
  pub group : IsGroupOf stored p

next_block : (g : StoredText) (gs : List StoredText) (o : Own) (os : List Own) (n : ℕ) (p : CodeGroup) → BlockAt gs os n p → BlockAt (g ∷ gs) (o ∷ os) (suc n) p
next_block g gs o os n p b = record { stored = b.stored; own = b.own; is = b.is; owned = b.owned; block = b.block; group = b.group }

pub all_roots : (gs : List StoredText) → are_whole gs ≡ true → root_functions gs ≡ gs
all_roots [] w = refl
all_roots (g ∷ gs) w =
    let parts = and_parts (is_whole g) (are_whole gs) w in
    let root = (and_parts g.subject.is_root (is_homeless g.placed.homes) parts.0).0 in
    ap (λ (b : Bool). if b then g ∷ root_functions gs else root_functions gs) root ∙ ap (λ (xs : List StoredText). g ∷ xs) (all_roots gs parts.1)

pub block_at : (gs : List StoredText) (ps : List CodeGroup) (os : List Own) → AreGroupsOf gs ps → HaveBlocks gs ps os → (n : ℕ) (p : CodeGroup) → slice_get ps n ≡ Some p → BlockAt gs os n p
block_at [] [] os each blocks n p at = absurd (cc at)
block_at [] (q ∷ ps) os each blocks n p at = absurd each
block_at (g ∷ gs) [] os each blocks n p at = absurd each
block_at (g ∷ gs) (q ∷ ps) [] each blocks n p at = absurd blocks
block_at (g ∷ gs) (q ∷ ps) (o ∷ os) each blocks zero p at =
    let same : q ≡ p = cc at in
    subst (λ (y : CodeGroup). BlockAt (g ∷ gs) (o ∷ os) 0 y) same (record { stored = g; own = o; is = refl; owned = refl; block = blocks.0; group = each.0 })
block_at (g ∷ gs) (q ∷ ps) (o ∷ os) each blocks (suc n) p at = next_block g gs o os n p (block_at gs ps os each.1 blocks.1 n p at)

pub own_found : (ps : List CodeGroup) (os : List Own) (m : ℕ) → AreOwned m ps os → (n : ℕ) (o : Own) → slice_get os n ≡ Some o → own_region os (m + n) ≡ Some o.region
own_found ps [] m h n o at = absurd (cc at)
own_found [] (w ∷ os) m h n o at = absurd h
own_found (p ∷ ps) (w ∷ os) m h zero o at =
    let same : w ≡ o = cc at in
    let is : w.group ≡ m = h.0.numbered in
    let here : w.group ≡ m + 0 = omega (arith, is) in
    let test : (w.group == m + 0) ≡ true = ap (λ (x : ℕ). w.group == x) (sym here) ∙ eq_refl w.group in
    ap (λ (b : Bool). if b then Some w.region else own_region os (m + 0)) test ∙ ap (λ (x : Own). Some x.region) same
own_found (p ∷ ps) (w ∷ os) m h (suc n) o at =
    let is : w.group ≡ m = h.0.numbered in
    let differs : (w.group ≡ m + suc n → ⊥) = λ e. omega (arith, is, e) in
    let test : (w.group == m + suc n) ≡ false = grind (arith, nat_tests) in
    let next : m + suc n ≡ (m + 1) + n = omega arith in
    ap (λ (b : Bool). if b then Some w.region else own_region os (m + suc n)) test ∙ ap (own_region os) next ∙ own_found ps os (m + 1) h.1 n o at

-- ---- what a group's pieces own

module _ (g : StoredText) (p : Group) (extents : List Extent) (k : SkeletonText) (laid : IsLaidBy g extents k) (blocked : has_scattered g extents k ≡ false)
    (region : p.region ≡ map whole extents) (grid : p.grid ≡ k.grid) where
  abbrev r : List Span1
  r = owned_region (dimensions_of g extents k)

  made : MakeUp g extents k
  made = make_up g extents k laid

  in_grid : (j : ℕ) → j < group_pieces p → IsInGrid k.grid (grid_point p.grid j)
  in_grid j less = subst (λ (ms : List ℕ). IsInGrid ms (grid_point p.grid j)) grid (grid_within p.grid j less)

  owns : (j : ℕ) (q : List ℤ) → HasPoint p r j q → IsOwned g extents k (grid_point p.grid j) q
  owns j q has = in_region (grid_symbols (grid_point p.grid j)) r q has

  here_inside : (j : ℕ) (q : List ℤ) → j < group_pieces p → HasPoint p r j q → is_in_region no_symbols p.region q ≡ true
  here_inside j q less has =
      ap (λ (xs : List Span1). is_in_region no_symbols xs q) region ∙ tests_extents no_symbols extents q (made.inside (grid_point p.grid j) q (in_grid j less) (owns j q has))

  here_owner : (q : List ℤ) → is_in_region no_symbols p.region q ≡ true → (j : ℕ) × (j < group_pieces p) × HasPoint p r j q
  here_owner q h =
      let inside = in_extents no_symbols extents q (ap (λ (xs : List Span1). is_in_region no_symbols xs q) (sym region) ∙ h) in
      let o = made.owner q inside in
      let there : IsInGrid p.grid o.0 = subst (λ (ms : List ℕ). IsInGrid ms o.0) (sym grid) o.1 in
      let w = grid_piece p.grid o.0 there in
      let has : is_in_region (grid_symbols o.0) r q ≡ true = tests_region (grid_symbols o.0) r q o.2 in
      (grid_rank p.grid o.0, w.below, subst (λ (at : List ℕ). is_in_region (grid_symbols at) r q ≡ true) (sym w.is) has)

  here_once : (q : List ℤ) (i j : ℕ) → i < group_pieces p → j < group_pieces p → HasPoint p r i q → HasPoint p r j q → i ≡ j
  here_once q i j less below one two =
      let same = made.once blocked q (grid_point p.grid i) (grid_point p.grid j) (in_grid i less) (in_grid j below) (owns i q one) (owns j q two) in
      sym (grid_ranked p.grid i less) ∙ ap (grid_rank p.grid) same ∙ grid_ranked p.grid j below

  pub parts : PartsGroup p r
  parts = record {
    group_ends = subst HaveEnds (sym region) (whole_ends extents);
    own_ends = own_ends (lay_over g extents k) g.placed.cuts g.subject.variables;
    inside = here_inside;
    owner = here_owner;
    once = here_once;
  }

-- ---- all groups

module _ (a : Algorithm) (s : Schedule) (l : Lowered) (well : IsAlgorithm a) (legal : IsLegal a s) (small : has_large (stored_functions a s) ≡ false)
    (kept : region_fault a (stored_functions a s) ≡ None) (all : are_whole (stored_functions a s) ≡ true) (groups : HasGroups a (stored_functions a s) l) where
  abbrev pub gs : List StoredText
  gs = stored_functions a s

  abbrev pub ps : List CodeGroup
  ps = l.plan.groups.items

  pub each : AreGroupsOf gs ps
  each = subst (λ (xs : List StoredText). AreGroupsOf xs ps) (all_roots gs all) groups.each

  -- the region of the group of this number is the one that is needed
  pub needed_at : (n : ℕ) (p : CodeGroup) (o : Option LaidText) → slice_get ps n ≡ Some p → slice_get (laid_functions a gs) n ≡ Some o → p.region ≡ region_of o
  needed_at n p o at there =
      let one : slice_get (map (λ (q : CodeGroup). q.region) ps) n ≡ Some p.region = at_map (λ (q : CodeGroup). q.region) ps n p at in
      let two : slice_get (map region_of (laid_functions a gs)) n ≡ Some (region_of o) = at_map region_of (laid_functions a gs) n o there in
      some_same p.region (region_of o) (sym one ∙ ap (λ (xs : List (List Span1)). slice_get xs n) (groups.needed all) ∙ two)

  -- what is so of the group of this number
  pub record IsGroupMade (n : ℕ) (p : CodeGroup) : Type 0 where
    pub stored : StoredText
    pub laid : LaidText
    pub formulas : List FormulaText
    pub own : Own
    pub is : slice_get gs n ≡ Some stored
    pub found : slice_get (laid_functions a gs) n ≡ Some (Some laid)
    pub defined : stored.formulas ≡ Some formulas
    pub over : skeleton_of stored formulas laid.region ≡ Some laid.skeleton
    pub laid_by : IsLaidBy stored laid.region laid.skeleton
    pub named : string_bytes p.function ≡ stored.subject.name
    pub region : p.region ≡ map whole laid.region
    pub grid : p.grid.items ≡ laid.skeleton.grid
    pub told : own_region l.certificate.own.items n ≡ Some own.region
    pub owned : own.region ≡ owned_region (dimensions_of stored laid.region laid.skeleton)

  -- the region and the skeleton over it are those that are needed, whatever the clause calls them
  pub same_extents : (n : ℕ) (p : CodeGroup) (m : LaidText) (es : List Extent) → slice_get ps n ≡ Some p → slice_get (laid_functions a gs) n ≡ Some (Some m) → p.region ≡ map whole es → m.region ≡ es
  same_extents n p m es at found region = all_extents m.region es (sym (needed_at n p (Some m) at found) ∙ region)

  pub same_skeleton : (n : ℕ) (g : StoredText) (m : LaidText) (fs : List FormulaText) (es : List Extent) (k : SkeletonText) → slice_get gs n ≡ Some g →
      slice_get (laid_functions a gs) n ≡ Some (Some m) →
      g.formulas ≡ Some fs → m.region ≡ es → skeleton_of g fs es ≡ Some k → m.skeleton ≡ k
  same_skeleton n g m fs es k is found defined same over =
      some_same m.skeleton k (sym (skeleton_is a gs n g m fs is found defined) ∙ ap (skeleton_of g fs) same ∙ over)

  pub group_made : (n : ℕ) (p : CodeGroup) → slice_get ps n ≡ Some p → IsGroupMade n p
  group_made n p at =
      let b = block_at gs ps l.certificate.own.items each (groups.blocks all) n p at in
      let g = b.stored in
      let h = b.block in
      let there = regions_there a gs small kept n g h.formulas b.is h.defined in
      let m = there.0 in
      let same : m.region ≡ h.extents = same_extents n p m h.extents at there.1 h.region in
      let over = skeleton_is a gs n g m h.formulas b.is there.1 h.defined in
      let skeletons : m.skeleton ≡ h.skeleton = same_skeleton n g m h.formulas h.extents h.skeleton b.is there.1 h.defined same h.laid in
      let counts : b.group.extents ≡ m.region = sym (same_extents n p m b.group.extents at there.1 b.group.region) in
      let laid_region = region_is a gs n g m b.is there.1 in
      let placing = arranged a s well legal n g b.is in
      let head = head_of g.subject.variables (bodies_from g.changes 0 g.subject.reductions h.formulas) g.placed m.region m.skeleton over in
      record {
        stored = g;
        laid = m;
        formulas = h.formulas;
        own = b.own;
        is = b.is;
        found = there.1;
        defined = h.defined;
        over = over;
        laid_by = record {
          formulas = h.formulas;
          directives = placing.directives;
          variables = placing.variables;
          placed = placing.placed;
          long = laid_region.long;
          extents = laid_region.extents;
          laid = over;
        };
        named = b.group.named;
        region = needed_at n p (Some m) at there.1;
        grid = b.group.grid ∙ ap (λ (es : List Extent). piece_counts (loop_numbers g.subject.variables g.placed.cuts es) g.placed.loops) counts ∙ sym head.grid;
        told = (let counted : 0 + n ≡ n = omega arith in ap (own_region l.certificate.own.items) (sym counted)) ∙ own_found ps l.certificate.own.items 0 groups.owned n b.own b.owned;
        owned = h.owned ∙ sym (λ i. owned_region (dimensions_of g (same i) (skeletons i)));
      }

  pub blocked_at : InnersAreKept a s → (n : ℕ) (p : CodeGroup) (w : IsGroupMade n p) → has_scattered w.stored w.laid.region w.laid.skeleton ≡ false
  blocked_at kept_inner n p w =
      none_scattered w.stored w.formulas w.laid.region w.laid.skeleton w.over (got (λ (u : StoredText). KeepsInner u.placed.loops u.placed.cuts) gs n w.stored kept_inner w.is)

  pub parts_at : InnersAreKept a s → (n : ℕ) (p : CodeGroup) (w : IsGroupMade n p) → PartsGroup (group_of p) (owned_region (dimensions_of w.stored w.laid.region w.laid.skeleton))
  parts_at kept_inner n p w = parts w.stored (group_of p) w.laid.region w.laid.skeleton w.laid_by (blocked_at kept_inner n p w) w.region w.grid

  pub parted : InnersAreKept a s → ArePartedGroups (plan_of l.plan) (certificate_of l.certificate)
  parted kept_inner n g at =
      let x = from_map group_of ps n g at in
      let w = group_made n x.0 x.1 in
      subst (IsPartedGroup (certificate_of l.certificate) n) (sym x.2) (record {
        region = w.own.region;
        told = w.told;
        parts = subst (PartsGroup (group_of x.0)) (sym w.owned)
            (parts_at kept_inner n x.0 w);
      })
