-- What is known of the groups of a plan whose shares can be told.
use Rattle.std.proofs.Common.{◌≡◌, ℕ, ◌+◌, ◌≤◌, ◌-◌, ◌^◌, List, [], ◌∷◌, ◌++◌, min, length-append, length, arith, ap, refl, sym, ◌∙◌, subst, Option, Some, None}
use Rattle.std.specs.Prelude.{All, MatchOption, slice_get}
use Rattle.lin.specs.declared.span.Span1.{Span1}
use Rattle.plan.specs.Plan.{Group, Plan}
use Rattle.plan.specs.Certificate.Certificate.{Certificate}
use Rattle.plan.specs.Certificate.Cells.{no_symbols, own_region, first_cell, first_piece, group_points, group_pieces, pieces}
use Rattle.shares.specs.declared.boxes.Side.{Side}
use Rattle.shares.specs.declared.spaces.Space.{Space}
use Rattle.shares.specs.Boxes.{sides, grid_sides, point_count}
use Rattle.shares.specs.Walked.{IsNear, IsExtent}
use Rattle.shares.specs.Spaces.{IsSpace}
use Rattle.shares.specs.Shared.{AreShared, GroupIsShared, IsLike}
use Rattle.shares.specs.declared.grounds.Ground.{Ground}
use Rattle.shares.specs.Grounds.{IsGroundOf, AreGrounds, HaveGrids}
use Rattle.shares.proofs.Shared.{points_counted}
use Rattle.shares.proofs.Grids.{grid_count, grid_extents, grid_some}
use Rattle.shares.proofs.Groups.{cells_most, pieces_most, get_within, push_each}

pub like_some : (o : Option (List Span1)) (P : List Span1 → Type 0) → MatchOption o ⊥ P → (xs : List Span1) × (o ≡ Some xs) × P xs
like_some None P h = absurd h
like_some (Some xs) P h = (xs, refl, h)

module _ (p : Plan) (c : Certificate) (shared : AreShared p c) (n : ℕ) (g : Group) (at : slice_get p.groups n ≡ Some g) where
  abbrev known : GroupIsShared p c n g
  known = shared.groups n g at

  pub cells_space : (x : Space) → x.first ≡ first_cell p.groups n → x.sides.items ≡ sides no_symbols g.region → All IsNear x.sides.items → IsSpace x
  cells_space x first is near =
      let Small : List Side → Type 0 = λ ss. All (λ s. s.count ≤ 8192) ss in
      let small : Small x.sides.items = subst Small (sym is) known.extents in
      let most = cells_most 0 p.groups n g at in
      let counted = points_counted no_symbols g.region in
      let same = ap point_count is in
      let all = shared.cells in
      record {
        sides = λ some k d less. ((near k d less).0, (let few = small k d less in omega (arith, few)));
        few = omega (arith, first, most, counted, same, all);
      }

  pub pieces_space : (x : Space) → x.first ≡ first_piece p.groups n → x.sides.items ≡ grid_sides g.grid → IsSpace x
  pieces_space x first is =
      let most = pieces_most 0 p.groups n g at in
      let counted = grid_count g.grid in
      let same = ap point_count is in
      let all = shared.pieces in
      record {
        sides = λ some. subst (All IsExtent) (sym is) (grid_extents g.grid (known.grid (grid_some g.grid (subst (All (λ (s : Side). 1 ≤ s.count)) is some))));
        few = omega (arith, first, most, counted, same, all);
      }

  pub own_given : (xs : List Span1) × (own_region c.own n ≡ Some xs) × IsLike xs (length g.region)
  own_given = like_some (own_region c.own n) (λ xs. IsLike xs (length g.region)) known.own

module _ (p : Plan) (c : Certificate) (n : ℕ) (g : Group) (x : Ground) (ground : IsGroundOf p c n g x) where
  pub cells_counted : (now : List Side) (most : ℕ) → now ≡ x.cells.sides.items → most ≡ min (point_count now) (2 ^ 64 - 1) → (most ≡ length (group_points g)) × (first_cell p.groups n + most ≤ 2 ^ 24)
  cells_counted now most is m =
      let same = ap point_count (is ∙ ground.cell_sides) in
      let counted = points_counted no_symbols g.region in
      let here = ap point_count is in
      let first = ground.first_cell in
      let few = ground.cells.few in
      (omega (arith, same, counted, here, few, m), omega (arith, first, here, few, m))

  pub pieces_counted : (now : List Side) (most : ℕ) → now ≡ x.pieces.sides.items → most ≡ min (point_count now) (2 ^ 64 - 1) → (most ≡ group_pieces g) × (first_piece p.groups n + most ≤ 2 ^ 24)
  pieces_counted now most is m =
      let same = ap point_count (is ∙ ground.piece_sides) in
      let counted = grid_count g.grid in
      let here = ap point_count is in
      let first = ground.first_piece in
      let few = ground.pieces.few in
      (omega (arith, same, counted, here, few, m), omega (arith, first, here, few, m))

pub grounds_none : (p : Plan) (c : Certificate) (xs : List Ground) → xs ≡ [] → AreGrounds p c 0 xs
grounds_none p c xs e = record {
  count = ap length e;
  each = λ n g x at this. let none = get_within xs n x this in let long = ap length e in absurd (omega (arith, none, long));
}

pub grounds_more : (p : Plan) (c : Certificate) (n : ℕ) (xs : List Ground) (x : Ground) → AreGrounds p c n xs → ((g : Group) → slice_get p.groups n ≡ Some g → IsGroundOf p c n g x) → AreGrounds p c (n + 1) (xs ++ x ∷ [])
grounds_more p c n xs x before this = record {
  count = length-append xs (x ∷ []) ∙ ap (λ (m : ℕ). m + 1) before.count;
  each = λ m g y at found. push_each (λ k z. (h : Group) → slice_get p.groups k ≡ Some h → IsGroundOf p c k h z) xs x (λ k z e h f. before.each k h z f e)
      (subst (λ (k : ℕ). (h : Group) → slice_get p.groups k ≡ Some h → IsGroundOf p c k h x) (sym before.count) this) m y found g at;
}

-- the pieces of a group are as many as its grid's points
pub seats_counted : (p : Plan) (grounds : List Ground) (n : ℕ) (g : Group) (x : Ground) (now : List Side) (count : ℕ) → length (pieces p) ≤ 2 ^ 20 → slice_get p.groups n ≡ Some g → slice_get grounds n ≡ Some x → HaveGrids p grounds →
    now ≡ x.pieces.sides.items → count ≡ min (point_count now) (2 ^ 64 - 1) → (count ≡ group_pieces g) × (count ≤ 2 ^ 20)
seats_counted p grounds n g x now count few at this grids is m =
    let same = ap point_count (is ∙ grids n g x at this) in
    let counted = grid_count g.grid in
    let most = pieces_most 0 p.groups n g at in
    (omega (arith, same, counted, most, few, m), omega (arith, same, counted, most, few, m))
