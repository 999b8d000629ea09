-- Where the pieces of each group part its region, all pieces part the cells.
use Rattle.std.proofs.Common.{◌≡◌, ℕ, suc, ◌+◌, ◌<◌, Bool, true, List, [], ◌∷◌, length, map, Option, Some, None, refl, sym, ap, ◌∙◌, subst, arith}
use Rattle.std.specs.Prelude.{ℤ, Contains, IsTrue, All, filter, slice_get, if◌then◌else◌}
use Rattle.std.proofs.lemmas.Option.{get_or_from_slice_get, slice_get_within}
use Rattle.numeric.specs.declared.ty.Ty.TheVariants.{U8}
use Rattle.lin.specs.declared.span.Span1.{Span1}
use Rattle.meaning.specs.Algorithm.{Algorithm}
use Rattle.plan.specs.Plan.{Group, Plan}
use Rattle.plan.specs.Symbols.{Symbols, points}
use Rattle.plan.specs.Certificate.Certificate.{Certificate}
use Rattle.plan.specs.Certificate.Cells.{Cell, cell, cells, Piece, piece, pieces, first_piece}
use Rattle.plan.specs.Certificate.Cells.{own_region, own_points, points_within, is_in_region, no_symbols, grid_point, grid_symbols, group_pieces}
use Rattle.orders.specs.Work.{OwnIsInTable, OwnIsApart, OwnIsWhole}
use Rattle.headline.specs.Numbers.{GroupsHaveEnds, cell_number, has_point, is_cell, point_rank}
use Rattle.headline.specs.Parts.{number_of_piece}
use Rattle.headline.proofs.Lists.{at_below, at_map, from_map}
use Rattle.headline.proofs.Regions.{point_stands, point_number}
use Rattle.headline.proofs.Places.{cell_stands, cells_numbered, pieces_numbered}
use Rattle.headline.proofs.Apart.{cells_apart}
use Rattle.headline.proofs.Parts.{parts_are}
use Rattle.shares.specs.Layout.{own_list, OwnIsInside, PieceIsInside, region_points}
use Rattle.completeness.specs.Parted.{ArePartedCells, HasPoint, PartsGroup, ArePartedGroups}

-- any algorithm, since own lists don't depend on it
nothing : Algorithm
nothing = record { name = []; input = []; input_ty = U8; input_extents = []; functions = []; output = []; output_extents = [] }

all_kept : {A : Type 0} (test : A → Bool) (xs : List A) → ((n : ℕ) (x : A) → slice_get xs n ≡ Some x → test x ≡ true) → filter test xs ≡ xs
all_kept test [] h = refl
all_kept {A = A} test (x ∷ xs) h =
    ap (λ (b : Bool). if b then x ∷ filter test xs else filter test xs) (h 0 x refl) ∙ ap (λ (ys : List A). x ∷ ys) (all_kept test xs (λ n y e. h (suc n) y e))

pub all_at : {A : Type 0} (P : A → Type 0) (xs : List A) → ((n : ℕ) (x : A) → slice_get xs n ≡ Some x → P x) → All P xs
all_at P xs h k d less =
    let x = at_below xs k less in
    subst P (sym (get_or_from_slice_get xs k x.0 d x.1)) (h k x.0 x.1)

pub contains_at : (xs : List ℕ) (k x : ℕ) → slice_get xs k ≡ Some x → Contains xs x
contains_at xs k x e = (k, slice_get_within xs k x e, get_or_from_slice_get xs k x x e)

some_same : {A : Type 0} (x y : A) → Some x ≡ Some y → x ≡ y
some_same x y e = cc e

-- the group of a cell
record HasGroup (p : Plan) (x : Cell) : Type 0 where
  pub group : Group
  pub stands : slice_get p.groups x.group ≡ Some group
  pub has : is_in_region no_symbols group.region x.point ≡ true

group_of_cell : (p : Plan) (x : Cell) → is_cell p x ≡ true → HasGroup p x
group_of_cell p x h = of (slice_get p.groups x.group) refl h
  where
    of : (o : Option Group) → slice_get p.groups x.group ≡ o → has_point o x.point ≡ true → HasGroup p x
    of None e k = absurd (cc k)
    of (Some g) e k = record { group = g; stands = e; has = k }

module _ (p : Plan) (c : Certificate) (parted : ArePartedGroups p c) where
  ends : GroupsHaveEnds p
  ends n g e = (parted n g e).parts.group_ends

  -- the a-th own cell of a piece
  record IsOwnAt (i a x : ℕ) : Type 0 where
    pub n : ℕ
    pub g : Group
    pub k : ℕ
    pub r : List Span1
    pub q : List ℤ
    pub stands : slice_get p.groups n ≡ Some g
    pub told : own_region c.own n ≡ Some r
    pub parts : PartsGroup g r
    pub less : k < group_pieces g
    pub number : i ≡ number_of_piece p n g k
    pub at : slice_get (points (grid_symbols (grid_point g.grid k)) r) a ≡ Some q
    pub is : x ≡ cell_number p (cell n q)

  module _ (n : ℕ) (g : Group) (k : ℕ) (r : List Span1) (stands : slice_get p.groups n ≡ Some g) (told : own_region c.own n ≡ Some r) (parts : PartsGroup g r) (less : k < group_pieces g) where
    abbrev s : Symbols
    s = grid_symbols (grid_point g.grid k)

    own_are : own_points g c n s ≡ points s r
    own_are =
        ap (λ (o : Option (List Span1)). points_within g o s) told
        ∙ all_kept (is_in_region no_symbols g.region) (points s r) (λ m q at. parts.inside k q less (point_number s r m q at).1)

    list_is : own_list p c (number_of_piece p n g k) ≡ map (cell_number p) (map (cell n) (points s r))
    list_is = (parts_are.part nothing p c [] n g k stands less).own ∙ ap (λ (qs : List (List ℤ)). map (cell_number p) (map (cell n) qs)) own_are

    pub in_list : (q : List ℤ) → HasPoint g r k q → Contains (own_list p c (number_of_piece p n g k)) (cell_number p (cell n q))
    in_list q has =
        let m = point_rank s r q in
        let there = at_map (cell_number p) (map (cell n) (points s r)) m (cell n q) (at_map (cell n) (points s r) m q (point_stands s r q parts.own_ends has)) in
        contains_at (own_list p c (number_of_piece p n g k)) m (cell_number p (cell n q)) (ap (λ (xs : List ℕ). slice_get xs m) list_is ∙ there)

    is_there : number_of_piece p n g k < length (pieces p)
    is_there = (parts_are.part nothing p c [] n g k stands less).inside

  own_at : (i a x : ℕ) → i < length (pieces p) → slice_get (own_list p c i) a ≡ Some x → IsOwnAt i a x
  own_at i a x less e =
      let o = parts_are.each nothing p c [] i less in
      let d = parted o.n o.g o.group in
      let here = ap (λ (m : ℕ). slice_get (own_list p c m) a) (sym o.number) ∙ e in
      let list = ap (λ (xs : List ℕ). slice_get xs a) (sym (list_is o.n o.g o.k d.region o.group d.told d.parts o.inside)) ∙ here in
      let y = from_map (cell_number p) (map (cell o.n) (points (grid_symbols (grid_point o.g.grid o.k)) d.region)) a x list in
      let z = from_map (cell o.n) (points (grid_symbols (grid_point o.g.grid o.k)) d.region) a y.0 y.1 in
      record {
        n = o.n;
        g = o.g;
        k = o.k;
        r = d.region;
        q = z.0;
        stands = o.group;
        told = d.told;
        parts = d.parts;
        less = o.inside;
        number = o.number;
        at = z.1;
        is = y.2 ∙ ap (cell_number p) z.2;
      }

  has_own : (i a x : ℕ) (o : IsOwnAt i a x) → HasPoint o.g o.r o.k o.q
  has_own i a x o = (point_number (grid_symbols (grid_point o.g.grid o.k)) o.r a o.q o.at).1

  own_is_cell : (i a x : ℕ) (o : IsOwnAt i a x) → is_cell p (cell o.n o.q) ≡ true
  own_is_cell i a x o = ap (λ (g : Option Group). has_point g o.q) o.stands ∙ o.parts.inside o.k o.q o.less (has_own i a x o)

  in_table : OwnIsInTable (length (pieces p)) (length (cells p)) (own_list p c)
  in_table i x less m =
      let y = at_below (own_list p c i) m.0 m.1 in
      let same : y.0 ≡ x = sym (get_or_from_slice_get (own_list p c i) m.0 y.0 x y.1) ∙ m.2 in
      let o = own_at i m.0 x less (y.1 ∙ ap (λ (z : ℕ). Some z) same) in
      let there = cell_stands p (cell o.n o.q) ends (own_is_cell i m.0 x o) in
      let below = slice_get_within (cells p) (cell_number p (cell o.n o.q)) (cell o.n o.q) there in
      subst (λ (z : ℕ). z < length (cells p)) (sym o.is) below

  -- one cell of two pieces is one place of one piece
  one_place : (i j a b x y : ℕ) (o : IsOwnAt i a x) (u : IsOwnAt j b y) → x ≡ y → (i ≡ j) × (a ≡ b)
  one_place i j a b x y o u e =
      let one = cells_apart.by_number p (cell o.n o.q) (cell u.n u.q) ends (own_is_cell i a x o) (own_is_cell j b y u) (sym o.is ∙ e ∙ u.is) in
      let ns : o.n ≡ u.n = ap (λ (z : Cell). z.group) one in
      let qs : o.q ≡ u.q = ap (λ (z : Cell). z.point) one in
      let gs : o.g ≡ u.g = some_same o.g u.g (sym o.stands ∙ ap (slice_get p.groups) ns ∙ u.stands) in
      let rs : o.r ≡ u.r = some_same o.r u.r (sym o.told ∙ ap (own_region c.own) ns ∙ u.told) in
      let less : u.k < group_pieces o.g = subst (λ (g : Group). u.k < group_pieces g) (sym gs) u.less in
      let has : HasPoint o.g o.r u.k o.q = (λ t. is_in_region (grid_symbols (grid_point (gs t).grid u.k)) (rs t) (qs t)) ∙ has_own j b y u in
      let ks : o.k ≡ u.k = o.parts.once o.q o.k u.k o.less less (has_own i a x o) has in
      let first = (point_number (grid_symbols (grid_point o.g.grid o.k)) o.r a o.q o.at).0 in
      let second = (point_number (grid_symbols (grid_point u.g.grid u.k)) u.r b u.q u.at).0 in (
        o.number ∙ (λ t. first_piece p.groups (ns t) + ks t) ∙ sym u.number,
        sym first ∙ (λ t. point_rank (grid_symbols (grid_point (gs t).grid (ks t))) (rs t) (qs t)) ∙ second,
      )

  apart : OwnIsApart (length (pieces p)) (own_list p c)
  apart i j a b less_i less_j at_a at_b same =
      let x = at_below (own_list p c i) a at_a in
      let y = at_below (own_list p c j) b at_b in
      let e : x.0 ≡ y.0 = sym (get_or_from_slice_get (own_list p c i) a x.0 0 x.1) ∙ same ∙ get_or_from_slice_get (own_list p c j) b y.0 0 y.1 in
      one_place i j a b x.0 y.0 (own_at i a x.0 less_i x.1) (own_at j b y.0 less_j y.1) e

  whole : OwnIsWhole (length (pieces p)) (length (cells p)) (own_list p c)
  whole x less =
      let y = at_below (cells p) x less in
      let e = cells_numbered.number p x y.0 y.1 in
      let h = group_of_cell p y.0 e.1 in
      let d = parted y.0.group h.group h.stands in
      let k = d.parts.owner y.0.point h.has in
      let there = in_list y.0.group h.group k.0 d.region h.stands d.told d.parts k.1 y.0.point k.2 in (
        number_of_piece p y.0.group h.group k.0,
        is_there y.0.group h.group k.0 d.region h.stands d.told d.parts k.1,
        subst (Contains (own_list p c (number_of_piece p y.0.group h.group k.0))) e.0 there,
      )

  piece_inside : (j : Piece) (o : Option (List Span1)) (g : Group) (k : ℕ) → slice_get p.groups j.group ≡ Some g → own_region c.own j.group ≡ o → k < group_pieces g → j ≡ piece g j.group k →
      All (λ q. IsTrue (has_point (slice_get p.groups j.group) q)) (region_points o j)
  piece_inside j None g k stands told less is = λ m d below. absurd (omega (arith, below))
  piece_inside j (Some r) g k stands told less is =
      let d = parted j.group g stands in
      let same : d.region ≡ r = some_same d.region r (sym d.told ∙ told) in
      let at : j.at ≡ grid_point g.grid k = ap (λ (z : Piece). z.at) is in
      all_at (λ (q : List ℤ). IsTrue (has_point (slice_get p.groups j.group) q)) (points (grid_symbols j.at) r) (λ m q there.
      let has = (point_number (grid_symbols j.at) r m q there).1 in
      ap (λ (z : Option Group). has_point z q) stands ∙ d.parts.inside k q less ((λ t. is_in_region (grid_symbols (sym at t)) (same t) q) ∙ has))

  all_inside : (i : ℕ) → OwnIsInside p c i
  all_inside i = of (slice_get (pieces p) i) refl
    where
      of : (o : Option Piece) → slice_get (pieces p) i ≡ o → PieceIsInside p c o
      of None e = tt
      of (Some j) e =
          let x = pieces_numbered.number p i j e in
          piece_inside j (own_region c.own j.group) x.0 x.1 x.2 refl x.3 x.4

  pub parted_cells : ArePartedCells p c
  parted_cells = record { inside = all_inside; in_table = in_table; apart = apart; whole = whole }
