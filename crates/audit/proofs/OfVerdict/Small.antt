-- Regions, cells and pieces of a plan whose groups' lines have no flaw.
use Rattle.std.proofs.Common.{◌≡◌, ℕ, zero, suc, ◌+◌, ◌*◌, ◌^◌, ◌≤◌, List, [], ◌∷◌, take, map, length, length-append, Bool, true, false, Some, refl, sym, ap, ◌∙◌, arith, subst}
use Rattle.std.specs.Prelude.{◌&&◌, not, nat_le, slice_get, ℤ, pos, ◌+ℤ◌, fold, int_lt, if◌then◌else◌}
use Rattle.std.specs.Int.{int_max, int_min}
use Rattle.std.specs.List.{list_all, list_any, range_with_len, AllByRecursion}
use Rattle.std.proofs.lemmas.Int.{ints}
use Rattle.std.proofs.Math.IntN.{*ℤ-zero}
use Rattle.std.proofs.lemmas.List.{length-map}
use Rattle.std.proofs.lemmas.List.FromFn.{length-map-range_with_len}
use Rattle.lin.specs.Forms.{Form, sum_of, is_within_limits, IsWithin}
use Rattle.lin.specs.declared.form.Multiple.{Multiple}
use Rattle.lin.specs.declared.span.Span1.{Span1}
use Rattle.lin.proofs.Limits.{within_limits-constant}
use Rattle.meaning.specs.Algorithm.{Algorithm}
use Rattle.meaning.specs.Names.{same_name}
use Rattle.plan.specs.Plan.{Group, Plan}
use Rattle.plan.specs.Lines.{group_line}
use Rattle.plan.specs.Symbols.{form_value, largest, smallest, turns}
use Rattle.plan.specs.Certificate.Certificate.{Certificate}
use Rattle.plan.specs.Certificate.Cells.{cell, piece, cells_from, pieces_from, grid_value, group_pieces, group_points, piece_count, no_symbols}
use Rattle.soundness.specs.Given.{outline_of}
use Rattle.soundness.proofs.Refines.{and_parts}
use Rattle.headline.specs.Parts.{span_count, point_count}
use Rattle.headline.specs.Sound.{publishes}
use Rattle.headline.proofs.Parts.{points_counted}
use Rattle.soundness.specs.Outline.Flaws.{line_told}
use Rattle.soundness.specs.Outline.Forms.{are_within_limits, is_listed, spans_are_within_limits, spans_are_over}
use Rattle.checked_plan.specs.Ready.Ready.{IsSmallSpan}
use Rattle.validation.specs.Stored.Sizes.{counted}
use Rattle.validation.specs.Groups.Sizes.{more, product, extent_of, cell_count, is_extent}
use Rattle.validation.specs.Stored.Definitions.{parts_named, has_variables}
use Rattle.validation.specs.Groups.Lines.{group_line_flaws, group_flaws, groups_flaws, flaws_of_groups, flaws, start}
use Rattle.validation.proofs.Flawless.{fine, none_in, GroupIsFine, group_fine}
use Rattle.audit.specs.Verdict.Clear.{RegionsAreSmall, PlansAreSmall}
use Rattle.audit.proofs.OfVerdict.Lists.{le_true}

-- ---- spans

sum_zero : (ts : List Multiple) → sum_of ts (grid_value []) ≡ pos 0
sum_zero [] = refl
sum_zero (t ∷ ts) = ap (λ (z : ℤ). z +ℤ sum_of ts (grid_value [])) (*ℤ-zero t.factor) ∙ ap (λ (z : ℤ). pos 0 +ℤ z) (sum_zero ts)

plus_none : (z : ℤ) → z +ℤ pos 0 ≡ z
plus_none z = omega (arith, ints)

form_constant : (f : Form) → form_value f no_symbols ≡ f.constant
form_constant f = ap (λ (z : ℤ). f.constant +ℤ z) (sum_zero f.terms) ∙ plus_none f.constant

-- ---- ends of constants

value_within : (f : Form) → is_within_limits f ≡ true → IsWithin (2 ^ 40) (form_value f no_symbols)
value_within f h = subst (IsWithin (2 ^ 40)) (sym (form_constant f)) (within_limits-constant f h)

max_within : (y z : ℤ) → IsWithin (2 ^ 40) y → IsWithin (2 ^ 40) z → IsWithin (2 ^ 40) (int_max y z)
max_within y z h k = elim (int_lt z y) as (λ (b : Bool). IsWithin (2 ^ 40) (if b then y else z)) [ true ↦ h | false ↦ k ]

min_within : (y z : ℤ) → IsWithin (2 ^ 40) y → IsWithin (2 ^ 40) z → IsWithin (2 ^ 40) (int_min y z)
min_within y z h k = elim (int_lt z y) as (λ (b : Bool). IsWithin (2 ^ 40) (if b then z else y)) [ true ↦ k | false ↦ h ]

all_max : (v : ℤ) (ls : List Form) → IsWithin (2 ^ 40) v → are_within_limits ls ≡ true → IsWithin (2 ^ 40) (fold int_max v (map (λ m. form_value m no_symbols) ls))
all_max v [] h k = h
all_max v (l ∷ ls) h k =
    let parts = and_parts (is_within_limits l) (are_within_limits ls) k in
    all_max (int_max v (form_value l no_symbols)) ls (max_within v (form_value l no_symbols) h (value_within l parts.0)) parts.1

all_min : (v : ℤ) (ls : List Form) → IsWithin (2 ^ 40) v → are_within_limits ls ≡ true → IsWithin (2 ^ 40) (fold int_min v (map (λ m. form_value m no_symbols) ls))
all_min v [] h k = h
all_min v (l ∷ ls) h k =
    let parts = and_parts (is_within_limits l) (are_within_limits ls) k in
    all_min (int_min v (form_value l no_symbols)) ls (min_within v (form_value l no_symbols) h (value_within l parts.0)) parts.1

low_within : (ls : List Form) → are_within_limits ls ≡ true → IsWithin (2 ^ 40) (largest no_symbols ls)
low_within [] h = let least : 0 ≤ 2 ^ 40 = omega arith in least
low_within (l ∷ ls) h = let parts = and_parts (is_within_limits l) (are_within_limits ls) h in all_max (form_value l no_symbols) ls (value_within l parts.0) parts.1

high_within : (ls : List Form) → are_within_limits ls ≡ true → IsWithin (2 ^ 40) (smallest no_symbols ls)
high_within [] h = let least : 0 ≤ 2 ^ 40 = omega arith in least
high_within (l ∷ ls) h = let parts = and_parts (is_within_limits l) (are_within_limits ls) h in all_min (form_value l no_symbols) ls (value_within l parts.0) parts.1

-- what is known of a span of a group's region
pub record IsExtent (x : Span1) : Type 0 where
  pub lower : is_listed x.lower ≡ true
  pub upper : is_listed x.upper ≡ true
  pub some : 1 ≤ extent_of x
  pub few : extent_of x ≤ 8192

pub extent : (x : Span1) → is_extent x ≡ true → IsExtent x
extent x h =
    let few = nat_le 1 (counted (extent_of x)) && nat_le (counted (extent_of x)) 8192 in
    let k = and_parts (is_listed x.lower) (is_listed x.upper && few) h in
    let l = and_parts (is_listed x.upper) few k.1 in
    let m = and_parts (nat_le 1 (counted (extent_of x))) (nat_le (counted (extent_of x)) 8192) l.1 in
    let low = le_true 1 (counted (extent_of x)) m.0 in
    let high = le_true (counted (extent_of x)) 8192 m.1 in
    record { lower = k.0; upper = l.0; some = omega (arith, low); few = omega (arith, high) }

pub count_is : (x : Span1) → span_count no_symbols x ≡ extent_of x
count_is x = refl

span_small : (x : Span1) → is_extent x ≡ true → (are_within_limits x.lower && are_within_limits x.upper) ≡ true → IsSmallSpan x
span_small x h w =
    let e = extent x h in
    let k = and_parts (are_within_limits x.lower) (are_within_limits x.upper) w in
    let long : length (turns no_symbols x) ≡ extent_of x = points_counted.turns no_symbols x ∙ count_is x in
    let some = e.some in
    let few = e.few in
    record { low = low_within x.lower k.0; high = high_within x.upper k.1; some = omega (arith, long, some); few = omega (arith, long, few) }

pub region_small : (xs : List Span1) → list_all is_extent xs ≡ true → spans_are_within_limits xs ≡ true → AllByRecursion IsSmallSpan xs
region_small [] h w = tt
region_small (x ∷ xs) h w =
    let k = and_parts (is_extent x) (list_all is_extent xs) h in
    let l = and_parts (are_within_limits x.lower && are_within_limits x.upper) (spans_are_within_limits xs) w in
    (span_small x k.0 l.0, region_small xs k.1 l.1)

-- ---- a group's line

module _ (a : Algorithm) (p : Plan) (c : Certificate) where
  -- what the line of a group without flaws has
  pub record GroupLineIsFine (n : ℕ) (g : Group) (cells pieces : ℕ) : Type 0 where
    pub new : not (list_any (λ h. same_name h.function g.function) (take n p.groups)) ≡ true
    pub variables : has_variables (parts_named a g.function) (length g.region) ≡ true
    pub symbols : spans_are_over [] g.region ≡ true
    pub limits : spans_are_within_limits g.region ≡ true
    pub extents : list_all is_extent g.region ≡ true
    pub cells_few : cells ≤ 2 ^ 24
    pub pieces_few : pieces ≤ 2 ^ 20

  pub group_line_fine : (line n : ℕ) (g : Group) (cells pieces : ℕ) → group_flaws a p c line n g cells pieces ≡ [] → GroupLineIsFine n g cells pieces
  group_line_fine line n g cells pieces h =
      let earlier = take n p.groups in
      let k = none_in (group_line_flaws a line earlier g cells pieces) (flaws a p c g (outline_of p c n g) g.body (start line g)) h in
      let last = publishes g.body && nat_le (length g.grid) 256 in
      let few = nat_le cells (2 ^ 24) && (nat_le pieces (2 ^ 20) && last) in
      let new = not (list_any (λ h. same_name h.function g.function) earlier) in
      let vars = has_variables (parts_named a g.function) (length g.region) in
      let f = fine line (new && (vars && spans_are_over [] g.region)) (spans_are_within_limits g.region) true (list_all is_extent g.region && few) k.0 in
      let names = and_parts new (vars && spans_are_over [] g.region) f.names in
      let over = and_parts vars (spans_are_over [] g.region) names.1 in
      let one = and_parts (list_all is_extent g.region) few f.limits in
      let two = and_parts (nat_le cells (2 ^ 24)) (nat_le pieces (2 ^ 20) && last) one.1 in
      let three = and_parts (nat_le pieces (2 ^ 20)) last two.1 in
      record {
        new = names.0;
        variables = over.0;
        symbols = over.1;
        limits = f.forms;
        extents = one.0;
        cells_few = le_true cells (2 ^ 24) two.0;
        pieces_few = le_true pieces (2 ^ 20) three.0;
      }

  pub line_fine : (n : ℕ) (g : Group) (f : GroupIsFine a p c n g) → GroupLineIsFine n g f.cells f.pieces
  line_fine n g f = group_line_fine f.line n g f.cells f.pieces f.none

pub regions_small : RegionsAreSmall
regions_small a p c h n g at =
    let f = group_fine a p c h n g at in
    let l = line_fine a p c n g f in
    region_small g.region l.extents l.limits

-- ---- cells and pieces

count_all : (xs : List Span1) → list_all is_extent xs ≡ true → point_count no_symbols xs ≡ product (map extent_of xs)
count_all [] h = refl
count_all (x ∷ xs) h =
    let k = and_parts (is_extent x) (list_all is_extent xs) h in
    let first = count_is x in
    let rest = count_all xs k.1 in
    λ i. first i * rest i

pieces_of : (g : Group) (n : ℕ) → length (map (piece g n) (range_with_len 0 (group_pieces g))) ≡ group_pieces g
pieces_of g n = length-map-range_with_len (piece g n) 0 (group_pieces g)

-- so many before, and those of these groups
pub record AreFew (gs : List Group) (n cells pieces : ℕ) : Type 0 where
  pub few_cells : cells + length (cells_from n gs) ≤ 2 ^ 24
  pub few_pieces : pieces + length (pieces_from n gs) ≤ 2 ^ 20

module _ (a : Algorithm) (p : Plan) (c : Certificate) where
  few : (gs : List Group) (n cells pieces : ℕ) → groups_flaws a p c gs n cells pieces ≡ [] → cells ≤ 2 ^ 24 → pieces ≤ 2 ^ 20 → AreFew gs n cells pieces
  few [] n cells pieces h u v = record { few_cells = omega (arith, u); few_pieces = omega (arith, v) }
  few (x ∷ xs) n cells pieces h u v =
      let k = more cells (cell_count x.region) in
      let j = more pieces (counted (piece_count x.grid)) in
      let l = line_told (group_line p n) in
      let split = none_in (group_flaws a p c l n x k j) (groups_flaws a p c xs (n + 1) k j) h in
      let f = group_line_fine a p c l n x k j split.0 in
      let cells_few = f.cells_few in
      let pieces_few = f.pieces_few in
      let rest = few xs (n + 1) k j split.1 cells_few pieces_few in
      let cells_rest = rest.few_cells in
      let pieces_rest = rest.few_pieces in
      let points : length (group_points x) ≡ product (map extent_of x.region) = points_counted.points no_symbols x.region ∙ count_all x.region f.extents in
      let named : length (map (cell n) (group_points x)) ≡ length (group_points x) = length-map (group_points x) (cell n) in
      let here : length (map (piece x n) (range_with_len 0 (group_pieces x))) ≡ piece_count x.grid = pieces_of x n in
      let all_cells = length-append (map (cell n) (group_points x)) (cells_from (n + 1) xs) in
      let all_pieces = length-append (map (piece x n) (range_with_len 0 (group_pieces x))) (pieces_from (n + 1) xs) in
      record {
        few_cells = omega (arith, cells_few, cells_rest, points, named, all_cells);
        few_pieces = omega (arith, pieces_few, pieces_rest, here, all_pieces);
      }

pub plans_small : PlansAreSmall
plans_small a p c h =
    let f = few a p c p.groups 0 0 0 h (omega arith) (omega arith) in
    let cells = f.few_cells in
    let pieces = f.few_pieces in
    record { cells = omega (arith, cells); pieces = omega (arith, pieces) }

-- a group's pieces are among those of all
part : (gs : List Group) (m n : ℕ) (g : Group) → slice_get gs n ≡ Some g → group_pieces g ≤ length (pieces_from m gs)
part [] m n g at = absurd (cc)
part (x ∷ xs) m zero g at =
    let same : x ≡ g = cc in
    let here = pieces_of x m in
    let all = length-append (map (piece x m) (range_with_len 0 (group_pieces x))) (pieces_from (m + 1) xs) in
    let most : group_pieces x ≤ length (pieces_from m (x ∷ xs)) = omega (arith, here, all) in
    subst (λ (y : Group). group_pieces y ≤ length (pieces_from m (x ∷ xs))) same most
part (x ∷ xs) m (suc n) g at =
    let rest = part xs (m + 1) n g at in
    let all = length-append (map (piece x m) (range_with_len 0 (group_pieces x))) (pieces_from (m + 1) xs) in
    omega (arith, rest, all)

pub pieces_few : (a : Algorithm) (p : Plan) (c : Certificate) → flaws_of_groups a p c ≡ [] → (n : ℕ) (g : Group) → slice_get p.groups n ≡ Some g → group_pieces g ≤ 2 ^ 20
pieces_few a p c h n g at =
    let most = part p.groups 0 n g at in
    let all = (plans_small a p c h).pieces in
    omega (arith, most, all)
