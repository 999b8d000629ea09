-- Cells and pieces stand at their numbers.
use Rattle.std.proofs.Common.{◌≡◌, ℕ, zero, suc, ◌+◌, ◌*◌, ◌/◌, ◌<◌, true, List, [], ◌∷◌, ◌++◌, length, map, Option, Some, None, refl, sym, ap, ◌∙◌, subst, arith}
use Rattle.std.specs.Prelude.{slice_get}
use Rattle.std.specs.List.{range_with_len}
use Rattle.std.proofs.Math.Nat.{div-lt_iff_lt-mul, div-add-mod}
use Rattle.std.proofs.lemmas.List.{length-map}
use Rattle.std.proofs.lemmas.List.FromFn.{length-map-range_with_len}
use Rattle.plan.specs.Plan.{Group, Plan}
use Rattle.plan.specs.Certificate.Cells.{no_symbols, group_points, group_pieces, piece_count, grid_point, grid_rank, first_piece, first_cell, Cell, cell, cells, cells_from, Piece, piece, pieces, pieces_from}
use Rattle.headline.specs.Numbers.{point_rank, group_region, cell_number, has_point, is_cell, group_grid, piece_number, GroupsHaveEnds, CellsAreNumbered, PiecesAreNumbered}
use Rattle.headline.proofs.Lists.{at_map, from_map, blocks, offset, at_blocks, in_blocks}
use Rattle.headline.proofs.Regions.{point_stands, point_number}

-- ---- cells

abbrev point_count : Group → ℕ
point_count g = length (group_points g)

abbrev of_group : ℕ → Group → List Cell
of_group k g = map (cell k) (group_points g)

cells_blocks : (k : ℕ) (gs : List Group) → cells_from k gs ≡ blocks point_count of_group k gs
cells_blocks k [] = refl
cells_blocks k (g ∷ gs) = ap (λ r. map (cell k) (group_points g) ++ r) (cells_blocks (k + 1) gs)

first_cells : (gs : List Group) (m : ℕ) → first_cell gs m ≡ offset point_count of_group gs m
first_cells [] m = refl
first_cells (g ∷ gs) zero = refl
first_cells (g ∷ gs) (suc m) = ap (λ r. length (group_points g) + r) (first_cells gs m)

cells_long : (k : ℕ) (g : Group) → length (of_group k g) ≡ point_count g
cells_long k g = length-map (group_points g) (cell k)

cell_at_option : (p : Plan) (x : Cell) (o : Option Group) → GroupsHaveEnds p → slice_get p.groups x.group ≡ o → has_point o x.point ≡ true →
    slice_get (cells p) (first_cell p.groups x.group + point_rank no_symbols (group_region o) x.point) ≡ Some x
cell_at_option p x None ends e h = absurd (cc)
cell_at_option p x (Some g) ends e h =
    let r = point_rank no_symbols g.region x.point in
    let at = point_stands no_symbols g.region x.point (ends x.group g e) h in
    ap (λ (xs : List Cell). slice_get xs (first_cell p.groups x.group + r)) (cells_blocks 0 p.groups)
    ∙ at_blocks point_count of_group cells_long p.groups 0 x.group r (first_cell p.groups x.group + r) x.group g x e (omega arith) (at_map (cell x.group) (group_points g) r x.point at)
    (ap (λ n. n + r) (first_cells p.groups x.group))

pub cell_stands : (p : Plan) (x : Cell) → GroupsHaveEnds p → is_cell p x ≡ true → slice_get (cells p) (cell_number p x) ≡ Some x
cell_stands p x ends h = cell_at_option p x (slice_get p.groups x.group) ends refl h

abbrev IsNumber : Plan → ℕ → Cell → Type 0
IsNumber p n x = (cell_number p x ≡ n) × (is_cell p x ≡ true)

pub cell_counted : (p : Plan) (n : ℕ) (x : Cell) → slice_get (cells p) n ≡ Some x → IsNumber p n x
cell_counted p n x e =
    let a = in_blocks point_count of_group cells_long p.groups 0 n x (ap (λ (xs : List Cell). slice_get xs n) (sym (cells_blocks 0 p.groups)) ∙ e) in
    let b = from_map (cell (0 + a.m)) (group_points a.g) a.r x a.place in
    let nth = point_number no_symbols a.g.region a.r b.0 b.1 in
    let same : x ≡ cell a.m b.0 = b.2 ∙ (let m : 0 + a.m ≡ a.m = omega arith in ap (λ k. cell k b.0) m) in
    let number : cell_number p (cell a.m b.0) ≡ n =
    ap (λ (o : Option Group). first_cell p.groups a.m + point_rank no_symbols (group_region o) b.0) a.block
    ∙ (λ i. first_cells p.groups a.m i + nth.0 i) ∙ sym a.number in
    let is : is_cell p (cell a.m b.0) ≡ true = ap (λ (o : Option Group). has_point o b.0) a.block ∙ nth.1 in
    subst (IsNumber p n) (sym same) (number, is)

pub cells_numbered : CellsAreNumbered
cells_numbered = record { stands = cell_stands; number = cell_counted }

-- ---- pieces

abbrev pieces_in : ℕ → Group → List Piece
pieces_in k g = map (piece g k) (range_with_len 0 (group_pieces g))

pieces_blocks : (k : ℕ) (gs : List Group) → pieces_from k gs ≡ blocks group_pieces pieces_in k gs
pieces_blocks k [] = refl
pieces_blocks k (g ∷ gs) = ap (λ r. map (piece g k) (range_with_len 0 (group_pieces g)) ++ r) (pieces_blocks (k + 1) gs)

first_pieces : (gs : List Group) (m : ℕ) → first_piece gs m ≡ offset group_pieces pieces_in gs m
first_pieces [] m = refl
first_pieces (g ∷ gs) zero = refl
first_pieces (g ∷ gs) (suc m) = ap (λ r. group_pieces g + r) (first_pieces gs m)

pieces_long : (k : ℕ) (g : Group) → length (pieces_in k g) ≡ group_pieces g
pieces_long k g = length-map-range_with_len (piece g k) 0 (group_pieces g)

range_at : (a n i : ℕ) → i < n → slice_get (range_with_len a n) i ≡ Some (a + i)
range_at a zero i h = absurd (omega arith)
range_at a (suc n) zero h = let e : a ≡ a + 0 = omega arith in ap Some e
range_at a (suc n) (suc i) h = let e : (a + 1) + i ≡ a + suc i = omega arith in range_at (a + 1) n i (omega arith) ∙ ap Some e

range_is : (a n i k : ℕ) → slice_get (range_with_len a n) i ≡ Some k → (i < n) × (k ≡ a + i)
range_is a zero i k e = absurd (cc)
range_is a (suc n) zero k e = let same : a ≡ k = cc in (omega arith, omega arith)
range_is a (suc n) (suc i) k e = let r = range_is (a + 1) n i k e in let less : i < n = r.0 in let same : k ≡ (a + 1) + i = r.1 in (omega arith, omega arith)

pub piece_stands : (p : Plan) (n : ℕ) (g : Group) (k : ℕ) → slice_get p.groups n ≡ Some g → k < group_pieces g → slice_get (pieces p) (first_piece p.groups n + k) ≡ Some (piece g n k)
piece_stands p n g k e h =
    ap (λ (xs : List Piece). slice_get xs (first_piece p.groups n + k)) (pieces_blocks 0 p.groups)
    ∙ at_blocks group_pieces pieces_in pieces_long p.groups 0 n k (first_piece p.groups n + k) n g (piece g n k) e (omega arith)
    (at_map (piece g n) (range_with_len 0 (group_pieces g)) k k (range_at 0 (group_pieces g) k h ∙ (let same : 0 + k ≡ k = omega arith in ap Some same)))
    (ap (λ m. m + k) (first_pieces p.groups n))

quotient_below : (n w m : ℕ) → 0 < w → n < w * m → n / w < m
quotient_below n w m some h = (div-lt_iff_lt-mul {k = w} {x = n} {y = m} some).1 (omega arith)

some_width : (n w m : ℕ) → n < w * m → 0 < w
some_width n zero m h = absurd (omega arith)
some_width n (suc w) m h = omega arith

grid_counted : (ms : List ℕ) (n : ℕ) → n < piece_count ms → grid_rank ms (grid_point ms n) ≡ n
grid_counted [] n h = omega arith
grid_counted (m ∷ ms) n h =
    let some : 0 < m = some_width n m (piece_count ms) h in
    let rest = grid_counted ms (n / m) (quotient_below n m (piece_count ms) some h) in
    let whole = div-add-mod n m in
    let inner = ap (λ x. m * x) rest in
    omega arith

-- where a piece stands
pub record Stands (p : Plan) (j : ℕ) (x : Piece) : Type 0 where
  pub g : Group
  pub k : ℕ
  pub group : slice_get p.groups x.group ≡ Some g
  pub inside : k < group_pieces g
  pub is : x ≡ piece g x.group k
  pub number : j ≡ first_piece p.groups x.group + k

pub piece_from : (p : Plan) (j : ℕ) (x : Piece) → slice_get (pieces p) j ≡ Some x → Stands p j x
piece_from p j x e =
    let a = in_blocks group_pieces pieces_in pieces_long p.groups 0 j x (ap (λ (xs : List Piece). slice_get xs j) (sym (pieces_blocks 0 p.groups)) ∙ e) in
    let b = from_map (piece a.g (0 + a.m)) (range_with_len 0 (group_pieces a.g)) a.r x a.place in
    let r = range_is 0 (group_pieces a.g) a.r b.0 b.1 in
    let rank : b.0 ≡ a.r = (let same : b.0 ≡ 0 + a.r = r.1 in omega arith) in
    let group : x.group ≡ a.m = ap (λ (y : Piece). y.group) b.2 ∙ (omega arith) in
    let at : x.at ≡ grid_point a.g.grid a.r = ap (λ (y : Piece). y.at) b.2 ∙ ap (grid_point a.g.grid) rank in
    record {
      g = a.g;
      k = a.r;
      group = ap (slice_get p.groups) group ∙ a.block;
      inside = r.0;
      is = λ i. record { group = x.group; at = at i };
      number = a.number ∙ ap (λ n. n + a.r) (sym (first_pieces p.groups a.m)) ∙ ap (λ n. first_piece p.groups n + a.r) (sym group);
    }

piece_counted : (p : Plan) (j : ℕ) (x : Piece) → Stands p j x → piece_number p x ≡ j
piece_counted p j x s =
    ap (λ (o : Option Group). first_piece p.groups x.group + grid_rank (group_grid o) x.at) s.group
    ∙ ap (λ (y : Piece). first_piece p.groups x.group + grid_rank s.g.grid y.at) s.is
    ∙ ap (λ k. first_piece p.groups x.group + k) (grid_counted s.g.grid s.k s.inside)
    ∙ sym s.number

pub pieces_numbered : PiecesAreNumbered
pieces_numbered = record {
  stands = piece_stands;
  number = λ p j x e. let s = piece_from p j x e in (s.g, s.k, s.group, s.inside, s.is, s.number, piece_counted p j x s);
}
