-- The cells of a plan's groups, by their numbers.
use Rattle.std.proofs.Common.{◌≡◌, ℕ, zero, suc, ◌+◌, ◌-◌, ◌*◌, ◌<◌, ◌≤◌, ◌^◌, min, Bool, true, false, List, [], ◌∷◌, length, map, drop, get_or, Option, Some, None, arith, nat_lt, ltb-true, ap, refl, sym, subst, ◌∙◌}
use Rattle.std.specs.Prelude.{ℤ, slice_get, if◌then◌else◌}
use Rattle.std.specs.List.{AllByRecursion, range_with_len}
use Rattle.std.specs.Option.{option_map}
use Rattle.std.proofs.lemmas.List.{drop_more, length-map, length-append}
use Rattle.std.proofs.lemmas.List.FromFn.{length-map-range_with_len}
use Rattle.std.proofs.lemmas.Option.{slice_get-map, slice_get-get_or, slice_get_within, same_Some}
use Rattle.meaning.specs.Algorithm.{Algorithm}
use Rattle.meaning.specs.Names.{same_name}
use Rattle.meaning.specs.Value.{calls_of}
use Rattle.lin.specs.declared.span.Span1.{Span1}
use Rattle.plan.specs.Plan.{Group, Plan}
use Rattle.plan.specs.View.{group_of}
use Rattle.plan.specs.declared.plan.Group.{Group as CodeGroup}
use Rattle.meaning.specs.Image.Raster.{is_within}
use Rattle.plan.specs.Certificate.Certificate.{Certificate}
use Rattle.plan.specs.Certificate.Cells.{cell, cells, cells_from, first_cell, group_points, no_symbols}
use Rattle.plan.specs.Semantics.Setting.{group_name}
use Rattle.soundness.proofs.Refines.{name_true}
use Rattle.headline.specs.Numbers.{cell_number, group_region, has_point, is_cell, point_rank}
use Rattle.headline.specs.Parts.{point_count as region_count}
use Rattle.headline.specs.Work.{value_or_zero}
use Rattle.headline.proofs.Parts.{points_counted}
use Rattle.headline.proofs.Places.{cell_stands}
use Rattle.checked_plan.specs.Ready.Ready.{place_of_group, Ready}
use Rattle.checked_plan.specs.Output.Axes.{IsNear, IsOn, axes_of, is_on, point_count, rank_of}
use Rattle.checked_plan.specs.View.{algorithm_checked, plan_checked, certificate_checked}
use Rattle.std.proofs.Math.Logic.{∥∥₁_elim}
use Rattle.checked_plan.specs.declared.output.plan_cells.GroupCells.{GroupCells}
use Rattle.checked_plan.specs.declared.output.plan_cells.PlanCells.{PlanCells}
use Rattle.checked_plan.specs.Output.Cells.{Counted, counted, HoldsOutput, cells_of_group, number_in}
use Rattle.checked_plan.specs.declared.output.axis.Axis.{Axis}
use Rattle.checked_plan.proofs.Regions.{on_region, axes_near, on_axes, rank_same}

-- ---- how many cells a group has

counts_same : (xs : List Span1) → region_count no_symbols xs ≡ point_count (axes_of xs)
counts_same [] = refl
counts_same (x ∷ xs) = (λ i. sym (points_counted.turns no_symbols x) i * counts_same xs i)

pub group_count : (g : Group) → length (group_points g) ≡ point_count (axes_of g.region)
group_count g = points_counted.points no_symbols g.region ∙ counts_same g.region

none_before : (gs : List Group) → first_cell gs 0 ≡ 0
none_before [] = refl
none_before (x ∷ xs) = refl

pub first_none : (gs : List Group) (m : ℕ) → 0 ≡ min (first_cell gs 0) m
first_none gs m = let none = none_before gs in omega (arith, none)

first_next : (gs : List Group) (i : ℕ) (g : Group) → slice_get gs i ≡ Some g → first_cell gs (i + 1) ≡ first_cell gs i + length (group_points g)
first_next [] i g e = absurd (cc e)
first_next (x ∷ xs) zero g e =
    let same : x ≡ g = cc in
    let none = none_before xs in
    let size : length (group_points x) ≡ length (group_points g) = ap (λ (h : Group). length (group_points h)) same in
    omega (arith, none, size)
first_next (x ∷ xs) (suc i) g e =
    let later : suc i + 1 ≡ suc (i + 1) = omega arith in
    let rest = first_next xs i g e in
    let sums : length (group_points x) + first_cell xs (i + 1) ≡ (length (group_points x) + first_cell xs i) + length (group_points g) = omega (arith, rest) in
    ap (first_cell (x ∷ xs)) later ∙ sums

sums_saturated : (a b m : ℕ) → min (min a m + min b m) m ≡ min (a + b) m
sums_saturated a b m = omega arith

-- the cells before the next group
pub first_more : (gs : List Group) (i : ℕ) (g : Group) (first count m : ℕ) → slice_get gs i ≡ Some g → first ≡ min (first_cell gs i) m → count ≡ min (point_count (axes_of g.region)) m →
    min (first + count) m ≡ min (first_cell gs (i + 1)) m
first_more gs i g first count m e is size =
    (λ j. min (is j + size j) m)
    ∙ sums_saturated (first_cell gs i) (point_count (axes_of g.region)) m
    ∙ ap (λ (n : ℕ). min (first_cell gs i + n) m) (sym (group_count g))
    ∙ ap (λ (n : ℕ). min n m) (sym (first_next gs i g e))

-- the group that stands at a place of the code's list
pub group_at : (gs : List CodeGroup) (i : ℕ) (x : CodeGroup) → i < length gs → x ≡ get_or gs i x → slice_get (map group_of gs) i ≡ Some (group_of x)
group_at gs i x l is = slice_get-map group_of gs i ∙ ap (option_map group_of) (at gs i x l) ∙ ap (λ (y : CodeGroup). Some (group_of y)) (sym is)
  where
    at : (gs : List CodeGroup) (i : ℕ) (d : CodeGroup) → i < length gs → slice_get gs i ≡ Some (get_or gs i d)
    at [] i d h = absurd (omega (arith, h))
    at (x ∷ xs) zero d h = refl
    at (x ∷ xs) (suc i) d h = at xs i d (omega (arith, h))

-- each of a list that has it
pub at_place : {A : Type 0} (P : A → Type 0) (xs : List A) (i : ℕ) (x : A) → AllByRecursion P xs → slice_get xs i ≡ Some x → P x
at_place P [] i x h e = absurd (cc e)
at_place P (y ∷ ys) zero x h e = let same : y ≡ x = cc in subst P same h.0
at_place P (y ∷ ys) (suc i) x h e = at_place P ys i x h.1 e

pub all_places : {A : Type 0} (P : A → Type 0) (xs : List A) → ((i : ℕ) (x : A) → slice_get xs i ≡ Some x → P x) → AllByRecursion P xs
all_places P [] h = tt
all_places P (x ∷ xs) h = (h 0 x refl, all_places P xs (λ i y e. h (suc i) y e))

-- ---- the place of a function's group

pub place_here : (gs : List CodeGroup) (name : List ℕ) (k all : ℕ) (x : CodeGroup) → k < length gs → x ≡ get_or gs k x → all ≡ k + place_of_group (map group_of (drop k gs)) name →
    same_name (group_of x).function name ≡ true → k ≡ all
place_here gs name k all x l is e same =
    let first : place_of_group (map group_of (drop k gs)) name ≡ 0 =
    ap (λ (ys : List CodeGroup). place_of_group (map group_of ys) name) (drop_more gs k x l)
    ∙ ap (λ (y : CodeGroup). place_of_group (group_of y ∷ map group_of (drop (k + 1) gs)) name) (sym is)
    ∙ ap (λ (b : Bool). elim b [ true ↦ 0 | false ↦ 1 + place_of_group (map group_of (drop (k + 1) gs)) name ]) same in
    omega (arith, first, e)

pub place_later : (gs : List CodeGroup) (name : List ℕ) (k all : ℕ) (x : CodeGroup) → k < length gs → x ≡ get_or gs k x → all ≡ k + place_of_group (map group_of (drop k gs)) name →
    same_name (group_of x).function name ≡ false → all ≡ (k + 1) + place_of_group (map group_of (drop (k + 1) gs)) name
place_later gs name k all x l is e same =
    let next : place_of_group (map group_of (drop k gs)) name ≡ 1 + place_of_group (map group_of (drop (k + 1) gs)) name =
    ap (λ (ys : List CodeGroup). place_of_group (map group_of ys) name) (drop_more gs k x l)
    ∙ ap (λ (y : CodeGroup). place_of_group (group_of y ∷ map group_of (drop (k + 1) gs)) name) (sym is)
    ∙ ap (λ (b : Bool). elim b [ true ↦ 0 | false ↦ 1 + place_of_group (map group_of (drop (k + 1) gs)) name ]) same in
    omega (arith, next, e)

-- the function of the group that stands there
pub place_named : (gs : List Group) (name : List ℕ) (at : List ℤ) → has_point (slice_get gs (place_of_group gs name)) at ≡ true → group_name (slice_get gs (place_of_group gs name)) ≡ name
place_named [] name at h = absurd (cc h)
place_named (g ∷ gs) name at h = of (same_name g.function name) refl h (place_named gs name at)
  where
    of : (b : Bool) → same_name g.function name ≡ b → has_point (slice_get (g ∷ gs) (elim b [ true ↦ 0 | false ↦ 1 + place_of_group gs name ])) at ≡ true →
        (has_point (slice_get gs (place_of_group gs name)) at ≡ true → group_name (slice_get gs (place_of_group gs name)) ≡ name) →
        group_name (slice_get (g ∷ gs) (elim b [ true ↦ 0 | false ↦ 1 + place_of_group gs name ])) ≡ name
    of true e k rest = name_true g.function name e
    of false e k rest = (
        let one : 1 + place_of_group gs name ≡ suc (place_of_group gs name) = omega arith in
        ap (λ (n : ℕ). group_name (slice_get (g ∷ gs) n)) one ∙ rest (ap (λ (n : ℕ). has_point (slice_get (g ∷ gs) n) at) (sym one) ∙ k))

-- ---- the number of a cell

range_at : (a n i : ℕ) → i < n → slice_get (range_with_len a n) i ≡ Some (a + i)
range_at a zero i h = absurd (omega (arith, h))
range_at a (suc n) zero h = let e : a ≡ a + 0 = omega arith in ap Some e
range_at a (suc n) (suc i) h = let e : (a + 1) + i ≡ a + suc i = omega arith in range_at (a + 1) n i (omega (arith, h)) ∙ ap Some e

-- what stands at a place of what is counted
pub counted_at : (gs : List Group) (xs : List Counted) (i : ℕ) (x : Counted) → xs ≡ map (cells_of_group gs) (range_with_len 0 (length gs)) → slice_get xs i ≡ Some x → (i < length gs) × (x ≡ cells_of_group gs i)
counted_at gs xs i x e at =
    let here : slice_get (map (cells_of_group gs) (range_with_len 0 (length gs))) i ≡ Some x = ap (λ (ys : List Counted). slice_get ys i) (sym e) ∙ at in
    let less : i < length gs = (let w = slice_get_within (map (cells_of_group gs) (range_with_len 0 (length gs))) i x here in let n = length-map-range_with_len (cells_of_group gs) 0 (length gs) in omega (arith, w, n)) in
    let there = slice_get-map (cells_of_group gs) (range_with_len 0 (length gs)) i ∙ ap (option_map (cells_of_group gs)) (range_at 0 (length gs) i less) in
    (less, same_Some x (cells_of_group gs (0 + i)) (sym here ∙ there) ∙ (let z : 0 + i ≡ i = omega arith in ap (cells_of_group gs) z))

some_group : (gs : List Group) (i : ℕ) → i < length gs → (g : Group) × (slice_get gs i ≡ Some g)
some_group [] i h = absurd (omega (arith, h))
some_group (g ∷ gs) zero h = (g, refl)
some_group (g ∷ gs) (suc i) h = some_group gs i (omega (arith, h))

below : (k : ℕ) (gs : List Group) (n : ℕ) (g : Group) → slice_get gs n ≡ Some g → first_cell gs n + length (group_points g) ≤ length (cells_from k gs)
below k [] n g e = absurd (cc e)
below k (x ∷ xs) zero g e =
    let same : x ≡ g = cc in
    let size : length (group_points x) ≡ length (group_points g) = ap (λ (h : Group). length (group_points h)) same in
    let all : length (cells_from k (x ∷ xs)) ≡ length (group_points x) + length (cells_from (k + 1) xs) = whole k x xs in
    omega (arith, size, all)
  where
    whole : (k : ℕ) (x : Group) (xs : List Group) → length (cells_from k (x ∷ xs)) ≡ length (group_points x) + length (cells_from (k + 1) xs)
    whole k x xs = length-append (map (cell k) (group_points x)) (cells_from (k + 1) xs) ∙ ap (λ n. n + length (cells_from (k + 1) xs)) (length-map (group_points x) (cell k))
below k (x ∷ xs) (suc n) g e =
    let all : length (cells_from k (x ∷ xs)) ≡ length (group_points x) + length (cells_from (k + 1) xs) =
    length-append (map (cell k) (group_points x)) (cells_from (k + 1) xs) ∙ ap (λ n. n + length (cells_from (k + 1) xs)) (length-map (group_points x) (cell k)) in
    let rest = below (k + 1) xs n g e in
    omega (arith, all, rest)

-- what is known of a group's coordinates
pub record AreOf (p : Plan) (n : ℕ) (at : List ℤ) (x : Counted) : Type 0 where
  pub near : AllByRecursion IsNear x.axes
  pub few : point_count x.axes ≤ 2 ^ 24
  pub test : is_on x.axes at ≡ is_cell p (cell n at)
  pub on : is_on x.axes at ≡ true → IsOn x.axes at
  pub number : is_on x.axes at ≡ true → x.first + rank_of x.axes at ≡ cell_number p (cell n at)
  pub small : is_on x.axes at ≡ true → x.first + rank_of x.axes at < 2 ^ 24

module _ (a : Algorithm) (p : Plan) (c : Certificate) (ready : Ready a p c) where
  of_group : (n : ℕ) (at : List ℤ) (g : Group) → slice_get p.groups n ≡ Some g → AreOf p n at (cells_of_group p.groups n)
  of_group n at g e =
      let axes : List Axis = (cells_of_group p.groups n).axes in
      let same : axes ≡ axes_of g.region = ap (λ (o : Option Group). axes_of (group_region o)) e in
      let small = ready.regions n g e in
      let near : AllByRecursion IsNear axes = subst (λ (xs : List Axis). AllByRecursion IsNear xs) (sym same) (axes_near g.region small) in
      let under = below 0 p.groups n g e in
      let few = ready.few_cells in
      let size : length (group_points g) ≡ point_count axes = group_count g ∙ ap point_count (sym same) in
      let whole : min (first_cell p.groups n) (2 ^ 32 - 1) ≡ first_cell p.groups n = omega (arith, under, few) in
      let test : is_on axes at ≡ is_cell p (cell n at) =
      ap (λ (xs : List Axis). is_on xs at) same ∙ on_region g.region at (ready.ends n g e) small ∙ ap (λ (o : Option Group). has_point o at) (sym e) in
      let number : min (first_cell p.groups n) (2 ^ 32 - 1) + rank_of axes at ≡ cell_number p (cell n at) =
      (λ i. whole i + rank_of (same i) at) ∙ ap (λ (r : ℕ). first_cell p.groups n + r) (sym (rank_same g.region at))
      ∙ ap (λ (o : Option Group). first_cell p.groups n + point_rank no_symbols (group_region o) at) (sym e) in
      record {
        near = near;
        few = omega (arith, under, few, size);
        test = test;
        on = λ h. on_axes axes at near h;
        number = λ h. number;
        small = λ h.
            let w = slice_get_within (cells p) (cell_number p (cell n at)) (cell n at) (cell_stands p (cell n at) ready.ends (sym test ∙ h)) in
            omega (arith, number, w, few);
      }

  -- of what is held for the group of this number
  pub are_of : (n : ℕ) (at : List ℤ) (xs : List Counted) (x : Counted) → xs ≡ map (cells_of_group p.groups) (range_with_len 0 (length p.groups)) → slice_get xs n ≡ Some x → AreOf p n at x
  are_of n at xs x e is =
      let there = counted_at p.groups xs n x e is in
      let g = some_group p.groups n there.0 in
      subst (AreOf p n at) (sym there.1) (of_group n at g.0 g.1)

  -- the cell of a point of the output
  pub holds_output : (at : List ℤ) → is_within a.output_extents at ≡ true → HoldsOutput a p at
  holds_output at on =
      let n = place_of_group p.groups a.output in
      let is = ready.output at on in
      let stands = cell_stands p (cell n at) ready.ends is in
      record {
        inside = slice_get_within (cells p) (cell_number p (cell n at)) (cell n at) stands;
        right = λ samples given. ap (value_or_zero a p samples) stands ∙ ap (λ (name : List ℕ). (calls_of a samples name at).number) (place_named p.groups a.output at is);
      }

-- the number told by the coordinates, and none where the point is not on them
pub number_some : (p : Plan) (n : ℕ) (at : List ℤ) (x : Counted) → AreOf p n at x → is_on x.axes at ≡ true → ◌≡◌ {A = Option ℕ} (Some (x.first + rank_of x.axes at)) (number_in p n at)
number_some p n at x of h = ap Some (of.number h) ∙ ap (λ (b : Bool). if b then Some (cell_number p (cell n at)) else None) (sym h ∙ of.test)

pub number_none : (p : Plan) (n : ℕ) (at : List ℤ) (x : Counted) → AreOf p n at x → is_on x.axes at ≡ false → None ≡ number_in p n at
number_none p n at x of h = ap (λ (b : Bool). if b then Some (cell_number p (cell n at)) else None) (sym h ∙ of.test)

-- behind all groups there is no cell
pub number_past : (p : Plan) (n : ℕ) (at : List ℤ) → slice_get p.groups n ≡ None → None ≡ number_in p n at
number_past p n at e = ap (λ (o : Option Group). if has_point o at then Some (cell_number p (cell n at)) else None) (sym e)

pub counted_past : (gs : List Group) (xs : List Counted) (i : ℕ) → xs ≡ map (cells_of_group gs) (range_with_len 0 (length gs)) → slice_get xs i ≡ None → slice_get gs i ≡ None
counted_past gs xs i e at = of (slice_get gs i) refl
  where
    of : (o : Option Group) → slice_get gs i ≡ o → slice_get gs i ≡ None
    of None k = k
    of (Some g) k =
        let less = slice_get_within gs i g k in
        let there = slice_get-map (cells_of_group gs) (range_with_len 0 (length gs)) i ∙ ap (option_map (cells_of_group gs)) (range_at 0 (length gs) i less) in
        let clash : None ≡ Some (cells_of_group gs (0 + i)) = sym at ∙ ap (λ (ys : List Counted). slice_get ys i) e ∙ there in
        absurd (cc clash)

-- ---- what is held of a plan

past : {A : Type 0} (xs : List A) (n : ℕ) → (n < length xs → ⊥) → slice_get xs n ≡ None
past [] n out = refl
past (x ∷ xs) zero out = absurd (out (omega arith))
past (x ∷ xs) (suc n) out = past xs n (λ h. out (omega (arith, h)))

lt_no : (n m : ℕ) → nat_lt n m ≡ false → n < m → ⊥
lt_no n m h l = grind arith

-- what holds of the coordinates that are held for a group
pub held : {G : Type 0} → IsProp G → (x : PlanCells) (n : ℕ) (at : List ℤ) (gs : List GroupCells) (y : GroupCells) → gs ≡ x.groups.items → nat_lt n (length gs) ≡ true → y ≡ get_or gs n y →
    (AreOf (plan_checked x.checked.now) n at (counted y) → G) → G
held prop x n at gs y same less is go =
    let k = x.checked.now in
    let there : slice_get (map counted gs) n ≡ Some (counted y) =
    slice_get-map counted gs n ∙ ap (option_map counted) (slice_get-get_or gs n y (ltb-true n (length gs) less)) ∙ ap (λ (z : GroupCells). Some (counted z)) (sym is) in
    let all = ap (map counted) same ∙ x.groups_are in
    ∥∥₁_elim k.ready prop (λ ready.
    go (are_of (algorithm_checked k) (plan_checked k) (certificate_checked k) ready n at (map counted gs) (counted y) all there))

-- and where no group has the number
pub held_past : (x : PlanCells) (n : ℕ) (at : List ℤ) (gs : List GroupCells) → gs ≡ x.groups.items → nat_lt n (length gs) ≡ false → None ≡ number_in (plan_checked x.checked.now) n at
held_past x n at gs same out =
    let p = plan_checked x.checked.now in
    let none : slice_get (map counted gs) n ≡ None = past (map counted gs) n (λ h. let e = length-map gs counted in lt_no n (length gs) out (omega (arith, h, e))) in
    number_past p n at (counted_past p.groups (map counted gs) n (ap (map counted) same ∙ x.groups_are) none)
