-- What is known of a piece of a plan whose shares can be told.
use Rattle.std.proofs.Common.{◌≡◌, ℕ, suc, ◌+◌, ◌/◌, ◌<◌, ◌≤◌, List, [], ◌∷◌, length, map, arith, ap, refl, sym, ◌∙◌, subst, Option, Some, None, get_or, Bool, cond, Vec, Bor, Global}
use Rattle.std.specs.Prelude.{All, IsTrue, ◌↔◌, slice_get, filter, ℤ, MatchOption}
use Rattle.std.specs.List.{AllByRecursion}
use Rattle.std.proofs.lemmas.List.{length-map}
use Rattle.std.proofs.lemmas.List.Elements.{recursion_from_All, All-from_recursion}
use Rattle.lin.specs.declared.span.Span1.{Span1}
use Rattle.plan.specs.Plan.{Group, Plan}
use Rattle.plan.specs.Symbols.{Symbols, points}
use Rattle.plan.specs.View.{plan_of, group_of}
use Rattle.plan.specs.Certificate.Certificate.{Certificate, certificate_of}
use Rattle.plan.specs.Certificate.Cells.{Piece, Cell, cell, cells, pieces, no_symbols, grid_point, grid_symbols, own_region, own_points, points_within, is_in_region}
use Rattle.headline.specs.Numbers.{cell_number, has_point, is_cell, group_region, point_rank, HaveEnds}
use Rattle.headline.specs.Work.{of_piece, own_cells, group_own}
use Rattle.headline.proofs.Places.{piece_from}
use Rattle.shares.specs.declared.grounds.Ground.{Ground}
use Rattle.shares.specs.declared.layout.Layout.{Layout}
use Rattle.shares.specs.declared.seats.Seat.{Seat}
use Rattle.shares.specs.Boxes.{IsSmall, is_in_box, rank, point_count}
use Rattle.shares.specs.Seats.{piece_of}
use Rattle.shares.specs.Spaces.{numbers_in, HasAll}
use Rattle.shares.specs.Grounds.{IsGroundOf}
use Rattle.shares.specs.Layout.{IsLayout, own_list, OwnIsInside, PieceIsInside, region_points, AllCells}
use Rattle.plan.specs.declared.certificate.cert.Need.{Need}
use Rattle.shares.specs.Filed.{needs_in, AreFiled}
use Rattle.shares.proofs.Filing.{row}
use Rattle.shares.proofs.Groups.{get_mapped, get_some, get_within, cells_most}
use Rattle.shares.proofs.Shared.{box_is, rank_is, points_counted}

pub filter_same : (f h : List ℤ → Bool) → ((q : List ℤ) → f q ≡ h q) → (qs : List (List ℤ)) → filter f qs ≡ filter h qs
filter_same f h e [] = refl
filter_same f h e (q ∷ qs) = (λ i. cond (e q i) (q ∷ filter f qs) (filter f qs)) ∙ ap (λ (rest : List (List ℤ)). cond (h q) (q ∷ rest) rest) (filter_same f h e qs)

-- ---- a group's cells

module _ (p : Plan) (c : Certificate) (n : ℕ) (g : Group) (at : slice_get p.groups n ≡ Some g) (x : Ground) (ground : IsGroundOf p c n g x) (ends : HaveEnds g.region) where
  number_is : (q : List ℤ) → x.cells.first + rank x.cells.sides.items q ≡ cell_number p (cell n q)
  number_is q =
      (λ i. ground.first_cell i + rank (ground.cell_sides i) q)
      ∙ ap (λ (k : ℕ). Rattle.plan.specs.Certificate.Cells.first_cell p.groups n + k) (rank_is no_symbols g.region q ∙ ap (λ (o : Option Group). point_rank no_symbols (group_region o) q) (sym at))

  pub cells_are : (qs : List (List ℤ)) → numbers_in x.cells qs ≡ map (cell_number p) (map (cell n) qs)
  cells_are [] = refl
  cells_are (q ∷ qs) = λ i. number_is q i ∷ cells_are qs i

  pub test_is : (q : List ℤ) → is_in_box x.cells.sides.items q ≡ is_in_region no_symbols g.region q
  test_is q = ap (λ (ss : _). is_in_box ss q) ground.cell_sides ∙ box_is no_symbols g.region q ends

  pub point_is : (q : List ℤ) → is_in_box x.cells.sides.items q ≡ has_point (slice_get p.groups n) q
  point_is q = test_is q ∙ ap (λ (o : Option Group). has_point o q) (sym at)

  pub all_points : (qs : List (List ℤ)) → HasAll x.cells qs ↔ All (λ q. IsTrue (has_point (slice_get p.groups n) q)) qs
  all_points qs = (
    (λ h k d less. subst IsTrue (point_is (get_or qs k d)) (h k d less)),
    (λ h k d less. subst IsTrue (sym (point_is (get_or qs k d))) (h k d less)),
  )

  -- the numbers are cells'
  pub below_cells : x.cells.first + point_count x.cells.sides.items ≤ length (cells p)
  below_cells =
      let most = cells_most 0 p.groups n g at in
      let counted = points_counted no_symbols g.region in
      let same = ap point_count ground.cell_sides in
      let first = ground.first_cell in
      omega (arith, most, counted, same, first)

-- ---- a piece

point_long : (ms : List ℕ) (n : ℕ) → length (grid_point ms n) ≡ length ms
point_long [] n = refl
point_long (m ∷ ms) n = ap suc (point_long ms (n / m))

module _ (x : Layout) (ready : IsLayout x) (n : ℕ) (s : Seat) (less : n < length x.seats.items) (is : s ≡ get_or x.seats.items n s) where
  abbrev P : Plan
  P = plan_of x.plan.now

  abbrev C : Certificate
  C = certificate_of x.cert.now

  pub piece_is : slice_get (pieces P) n ≡ Some (piece_of s)
  piece_is = ap (λ (ps : List Piece). slice_get ps n) (sym ready.seats) ∙ get_mapped piece_of x.seats.items n s less ∙ ap (λ (y : Seat). Some (piece_of y)) (sym is)

  pub group_at : (g : Group) × (slice_get P.groups s.group ≡ Some g)
  group_at = let k = piece_from P n (piece_of s) piece_is in (k.g, k.group)

  -- a coordinate for each of the grid's counts
  pub at_long : length s.at.items ≡ length group_at.0.grid
  unfolding group_at
  at_long = let k = piece_from P n (piece_of s) piece_is in ap (λ (j : Piece). length j.at) k.is ∙ point_long k.g.grid k.k

  pub group_within : s.group < length x.grounds.items
  group_within =
      let k = get_within P.groups s.group group_at.0 group_at.1 in
      let long = length-map x.plan.now.groups.items group_of in
      let all = ready.grounds.count in
      omega (arith, k, long, all)

  pub group_listed : s.group < length x.plan.now.groups.items
  group_listed =
      let k = get_within P.groups s.group group_at.0 group_at.1 in
      let long = length-map x.plan.now.groups.items group_of in
      omega (arith, k, long)

  pub seat_small : IsSmall s.at.items
  seat_small = subst (λ (y : Seat). IsSmall y.at.items) (sym is) (ready.small n s less)

  module _ (y : Ground) (this : y ≡ get_or x.grounds.items s.group y) where
    pub ground_is : IsGroundOf P C s.group group_at.0 y
    ground_is = ready.grounds.each s.group group_at.0 y group_at.1 (get_some x.grounds.items s.group y group_within ∙ ap (λ (z : Ground). Some z) (sym this))

    pub region_ends : HaveEnds group_at.0.region
    region_ends = (ready.shared.groups s.group group_at.0 group_at.1).ends

    abbrev S : Symbols
    S = grid_symbols s.at.items

    pub own_is : numbers_in y.cells (filter (is_in_box y.cells.sides.items) (points S y.own.now)) ≡ own_list P C n
    own_is =
        let g = group_at.0 in
        ap (numbers_in y.cells) (filter_same (is_in_box y.cells.sides.items) (is_in_region no_symbols g.region) (test_is P C s.group g group_at.1 y ground_is region_ends) (points S y.own.now))
        ∙ cells_are P C s.group g group_at.1 y ground_is region_ends (filter (is_in_region no_symbols g.region) (points S y.own.now))
        ∙ ap (λ (o : Option (List Span1)). map (cell_number P) (map (cell s.group) (points_within g o S))) (sym ground_is.own)
        ∙ ap (λ (o : Option Group). map (cell_number P) (group_own o C (piece_of s))) (sym group_at.1)
        ∙ ap (λ (o : Option Piece). of_piece o [] (λ j. map (cell_number P) (own_cells P C j))) (sym piece_is)

    pub inside_is : HasAll y.cells (points S y.own.now) ↔ OwnIsInside P C n
    inside_is =
        let both = all_points P C s.group group_at.0 group_at.1 y ground_is region_ends (points S y.own.now) in
        let Inside : Option (List Span1) → Type 0 = λ o. All (λ q. IsTrue (has_point (slice_get P.groups s.group) q)) (region_points o (piece_of s)) in (
          (λ h. subst (PieceIsInside P C) (sym piece_is) (subst Inside (sym ground_is.own) (both.0 h))),
          (λ h. both.1 (subst Inside ground_is.own (subst (PieceIsInside P C) piece_is h))),
        )

-- ---- a group that is named

pub named_group : (o : Option Group) (Q : Group → Type 0) → MatchOption o ⊥ Q → (g : Group) × (o ≡ Some g) × Q g
named_group None Q h = absurd h
named_group (Some g) Q h = (g, refl, h)

mapped_to : (p : Plan) (n : ℕ) (qs : List (List ℤ)) → AllByRecursion (λ q. IsTrue (has_point (slice_get p.groups n) q)) qs → AllByRecursion (λ x. IsTrue (is_cell p x)) (map (cell n) qs)
mapped_to p n [] h = tt
mapped_to p n (q ∷ qs) h = (h.0, mapped_to p n qs h.1)

mapped_from : (p : Plan) (n : ℕ) (qs : List (List ℤ)) → AllByRecursion (λ x. IsTrue (is_cell p x)) (map (cell n) qs) → AllByRecursion (λ q. IsTrue (has_point (slice_get p.groups n) q)) qs
mapped_from p n [] h = tt
mapped_from p n (q ∷ qs) h = (h.0, mapped_from p n qs h.1)

module _ (x : Layout) (ready : IsLayout x) (h : ℕ) (g : Group) (at : slice_get (plan_of x.plan.now).groups h ≡ Some g) where
  pub ground_within : h < length x.grounds.items
  ground_within =
      let k = get_within (plan_of x.plan.now).groups h g at in
      let long = length-map x.plan.now.groups.items group_of in
      let all = ready.grounds.count in
      omega (arith, k, long, all)

  module _ (y : Ground) (this : y ≡ get_or x.grounds.items h y) where
    pub ground_at : IsGroundOf (plan_of x.plan.now) (certificate_of x.cert.now) h g y
    ground_at = ready.grounds.each h g y at (get_some x.grounds.items h y ground_within ∙ ap (λ (z : Ground). Some z) (sym this))

    pub cells_at : (qs : List (List ℤ)) → numbers_in y.cells qs ≡ map (cell_number (plan_of x.plan.now)) (map (cell h) qs)
    cells_at qs = cells_are (plan_of x.plan.now) (certificate_of x.cert.now) h g at y ground_at (ready.shared.groups h g at).ends qs

    pub all_at : (qs : List (List ℤ)) → HasAll y.cells qs ↔ AllCells (plan_of x.plan.now) (map (cell h) qs)
    all_at qs =
        let p = plan_of x.plan.now in
        let both = all_points p (certificate_of x.cert.now) h g at y ground_at (ready.shared.groups h g at).ends qs in
        let Q : List ℤ → Type 0 = λ q. IsTrue (has_point (slice_get p.groups h) q) in
        let R : Cell → Type 0 = λ z. IsTrue (is_cell p z) in (
          (λ k. All-from_recursion R (map (cell h) qs) (mapped_to p h qs (recursion_from_All Q qs (both.0 k)))),
          (λ k. both.1 (All-from_recursion Q qs (mapped_from p h qs (recursion_from_All R (map (cell h) qs) k)))),
        )

-- ---- the need lines of a group

module _ (ns : List Need) (groups : ℕ) (lists : List (Vec (Bor Need) Global)) (filed : AreFiled ns groups (map row lists)) (g : ℕ) (listed : g < groups) where
  pub lines_within : g < length lists
  lines_within =
      let all = filed.count in
      let long = length-map lists row in
      omega (arith, listed, all, long)

  pub lines_at : (v : Vec (Bor Need) Global) → v ≡ get_or lists g v → (now : List (Bor Need)) → now ≡ v.items → map (λ (n : Bor Need). n.now) now ≡ needs_in ns g
  lines_at v this now is =
      let at = get_mapped row lists g v lines_within ∙ ap (λ (u : Vec (Bor Need) Global). Some (row u)) (sym this) in
      ap (map (λ (n : Bor Need). n.now)) is ∙ filed.each g (row v) at
