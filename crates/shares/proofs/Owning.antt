-- The own cells of a group's pieces.
use Rattle.std.proofs.Common.{◌≡◌, ℕ, zero, suc, ◌+◌, ◌-◌, ◌<◌, ◌≤◌, List, [], ◌∷◌, ◌++◌, length, map, get_or, Bool, true, false, cond, arith, ap, refl, sym, ◌∙◌, subst, Option, Some, None, inl, inr}
use Rattle.std.specs.Prelude.{All, IsTrue, IsFalse, IsSome, ◌&&◌, Contains, filter, slice_get, ◌==◌, ◌⊎◌, ℤ, MatchOption, if◌then◌else◌}
use Rattle.std.specs.List.{AllByRecursion}
use Rattle.std.proofs.lemmas.Bool.{cases_lt, cases_eq, false≢true}
use Rattle.std.proofs.lemmas.Bool.Decides.{nat_tests}
use Rattle.std.proofs.lemmas.List.Elements.{All-contains, All-from_recursion, Contains-get_or}
use Rattle.lin.specs.declared.span.Span1.{Span1}
use Rattle.plan.specs.Plan.{Group, Plan}
use Rattle.plan.specs.Symbols.{points}
use Rattle.plan.specs.Certificate.Certificate.{Certificate}
use Rattle.plan.specs.Certificate.Cells.{Piece, Cell, cell, cells, cells_from, pieces, no_symbols, grid_symbols, group_points, own_region, own_points, points_within, is_in_region, first_cell}
use Rattle.orders.specs.Claimed.{IsBefore, IsClaimed, IsClaimedBy}
use Rattle.orders.specs.Work.{OwnIsParted}
use Rattle.orders.proofs.Claiming.{claimed_next, claimed_parted, unowned}
use Rattle.headline.specs.Numbers.{cell_number, has_point, is_cell, GroupsHaveEnds}
use Rattle.headline.specs.Work.{of_piece, own_cells, group_own}
use Rattle.headline.proofs.Places.{cell_stands, piece_from}
use Rattle.plan.specs.View.{plan_of}
use Rattle.shares.specs.declared.layout.Layout.{Layout}
use Rattle.shares.specs.declared.seats.Seat.{Seat}
use Rattle.shares.specs.Layout.{own_list, IsLayout, OwnIsInside}
use Rattle.shares.specs.Shared.{AreShared}
use Rattle.shares.specs.Faults.{IsApart}
use Rattle.shares.specs.Made.{IsPieceOf, HasGap, Overlaps}
use Rattle.shares.specs.Owned.{own_in, GroupIsInside}
use Rattle.shares.proofs.Apart.{IsApartIn, parted_next}
use Rattle.shares.proofs.Groups.{get_some, get_within, no_cells, some_same}
use Rattle.shares.proofs.Seated.{piece_is}

none_some : {A : Type 0} {x : A} → ◌≡◌ {A = Option A} None (Some x) → ⊥
none_some e = cc e

same_number : (m n : ℕ) → m ≡ n → (m == n) ≡ true
same_number m n e = grind (arith, nat_tests)

other_number : (m n : ℕ) → (m ≡ n → ⊥) → (m == n) ≡ false
other_number m n e = grind (arith, nat_tests)

-- ---- whose piece it is

pub is_or_not : (p : Plan) (n i : ℕ) → IsPieceOf p n i ⊎ (IsPieceOf p n i → ⊥)
is_or_not p n i = of (slice_get (pieces p) i)
  where
    of : (o : Option Piece) → MatchOption o ⊥ (λ j. j.group ≡ n) ⊎ (MatchOption o ⊥ (λ j. j.group ≡ n) → ⊥)
    of None = inr (λ h. h)
    of (Some j) = cases_eq j.group n

in_same : (p : Plan) (c : Certificate) (n : ℕ) (o : Option Piece) → MatchOption o ⊥ (λ j. j.group ≡ n) →
    of_piece o [] (λ j. if j.group == n then map (cell_number p) (own_cells p c j) else []) ≡ of_piece o [] (λ j. map (cell_number p) (own_cells p c j))
in_same p c n None h = absurd h
in_same p c n (Some j) h = let e = same_number j.group n h in rw e refl

in_none : (p : Plan) (c : Certificate) (n : ℕ) (o : Option Piece) → (MatchOption o ⊥ (λ j. j.group ≡ n) → ⊥) →
    of_piece o [] (λ j. if j.group == n then map (cell_number p) (own_cells p c j) else []) ≡ []
in_none p c n None h = refl
in_none p c n (Some j) h = let e = other_number j.group n h in rw e refl

pub own_same : (p : Plan) (c : Certificate) (n i : ℕ) → IsPieceOf p n i → own_in p c n i ≡ own_list p c i
own_same p c n i h = in_same p c n (slice_get (pieces p) i) h

pub own_none : (p : Plan) (c : Certificate) (n i : ℕ) → (IsPieceOf p n i → ⊥) → own_in p c n i ≡ []
own_none p c n i h = in_none p c n (slice_get (pieces p) i) h

past : (xs : List Piece) (k : ℕ) → k < length xs → slice_get xs k ≡ None → ⊥
past [] k less at = omega (arith, less)
past (x ∷ xs) zero less at = cc at
past (x ∷ xs) (suc k) less at = past xs k (omega (arith, less)) at

group_from : (p : Plan) (k : ℕ) (o : Option Piece) → slice_get (pieces p) k ≡ o → k < length (pieces p) → (m : ℕ) × MatchOption o ⊥ (λ x. x.group ≡ m)
group_from p k None at less = absurd (past (pieces p) k less at)
group_from p k (Some x) at less = (x.group, refl)

-- each piece is some group's
pub piece_at : (p : Plan) (k : ℕ) → k < length (pieces p) → (m : ℕ) × IsPieceOf p m k
piece_at p k less = group_from p k (slice_get (pieces p) k) refl less

below_by : (p : Plan) (n i : ℕ) (o : Option Piece) → slice_get (pieces p) i ≡ o → MatchOption o ⊥ (λ j. j.group ≡ n) → i < length (pieces p)
below_by p n i None at h = absurd h
below_by p n i (Some j) at h = get_within (pieces p) i j at

pub piece_below : (p : Plan) (n i : ℕ) → IsPieceOf p n i → i < length (pieces p)
piece_below p n i h = below_by p n i (slice_get (pieces p) i) refl h

-- ---- the groups of own cells

passed : (f : List ℤ → Bool) (qs : List (List ℤ)) → AllByRecursion (λ q. f q ≡ true) (filter f qs)
passed f [] = tt
passed f (q ∷ qs) = of (f q) refl (passed f qs)
  where
    of : (b : Bool) → f q ≡ b → AllByRecursion (λ r. f r ≡ true) (filter f qs) → AllByRecursion (λ r. f r ≡ true) (cond b (q ∷ filter f qs) (filter f qs))
    of true e rest = (e, rest)
    of false e rest = rest

pub ends_of : (p : Plan) (c : Certificate) → AreShared p c → GroupsHaveEnds p
ends_of p c shared n g at = (shared.groups n g at).ends

module _ (p : Plan) (c : Certificate) (ends : GroupsHaveEnds p) where
  -- the cell of this number is of the group
  abbrev pub IsOf : ℕ → ℕ → Type 0
  IsOf n x = (y : Cell) × (slice_get (cells p) x ≡ Some y) × (y.group ≡ n)

  numbers_of : (n : ℕ) (g : Group) → slice_get p.groups n ≡ Some g → (qs : List (List ℤ)) → AllByRecursion (λ q. is_in_region no_symbols g.region q ≡ true) qs → AllByRecursion (IsOf n) (map (cell_number p) (map (cell n) qs))
  numbers_of n g at [] h = tt
  numbers_of n g at (q ∷ qs) h =
      let inside : is_cell p (cell n q) ≡ true = ap (λ (o : Option Group). has_point o q) at ∙ h.0 in
      ((cell n q, cell_stands p (cell n q) ends inside, refl), numbers_of n g at qs h.1)

  within_of : (n : ℕ) (g : Group) → slice_get p.groups n ≡ Some g → (o : Option (List Span1)) (j : Piece) → AllByRecursion (IsOf n) (map (cell_number p) (map (cell n) (points_within g o (grid_symbols j.at))))
  within_of n g at None j = tt
  within_of n g at (Some xs) j = numbers_of n g at (filter (is_in_region no_symbols g.region) (points (grid_symbols j.at) xs)) (passed (is_in_region no_symbols g.region) (points (grid_symbols j.at) xs))

  piece_own : (i : ℕ) (j : Piece) → slice_get (pieces p) i ≡ Some j → AllByRecursion (IsOf j.group) (own_list p c i)
  piece_own i j at =
      let k = piece_from p i j at in
      let row : own_list p c i ≡ map (cell_number p) (map (cell j.group) (own_points k.g c j.group (grid_symbols j.at))) =
      ap (λ (o : Option Piece). of_piece o [] (λ x. map (cell_number p) (own_cells p c x))) at ∙ ap (λ (o : Option Group). map (cell_number p) (group_own o c j)) k.group in
      subst (AllByRecursion (IsOf j.group)) (sym row) (within_of j.group k.g k.group (own_region c.own j.group) j)

  own_of : (n i x : ℕ) (o : Option Piece) → slice_get (pieces p) i ≡ o → MatchOption o ⊥ (λ j. j.group ≡ n) → Contains (own_list p c i) x → IsOf n x
  own_of n i x None at h has = absurd h
  own_of n i x (Some j) at h has = subst (λ (m : ℕ). IsOf m x) h (All-contains (IsOf j.group) (own_list p c i) x (All-from_recursion (IsOf j.group) (own_list p c i) (piece_own i j at)) has)

  -- an own cell of a group's piece is the group's
  pub own_cell : (n i x : ℕ) → IsPieceOf p n i → Contains (own_list p c i) x → IsOf n x
  own_cell n i x h has = own_of n i x (slice_get (pieces p) i) refl h has

  pub group_same : (n m x : ℕ) → IsOf n x → IsOf m x → n ≡ m
  group_same n m x a b = sym a.2 ∙ ap (λ (y : Cell). y.group) (some_same a.0 b.0 (sym a.1 ∙ b.1)) ∙ b.2

  -- ---- apart

  -- own cells of the group's pieces that are claimed are apart from those of all pieces
  pub all_apart : (n : ℕ) (owners : List (Option ℕ)) → IsClaimedBy (own_in p c n) owners (length (pieces p)) → (i : ℕ) → i < length (pieces p) → IsPieceOf p n i → IsApart p c i
  all_apart n owners claimed i within is j a b less a_in b_in same = elim (is_or_not p n j) [
    | inl this ↦
        let one = own_same p c n i is in
        let two = own_same p c n j this in
        let at_a : a < length (own_in p c n i) = (let e = ap length one in omega (arith, e, a_in)) in
        let at_b : b < length (own_in p c n j) = (let e = ap length two in omega (arith, e, b_in)) in
        claimed.apart i a j b at_a at_b (inl within) (inl less) (ap (λ (xs : List ℕ). get_or xs a 0) one ∙ same ∙ ap (λ (xs : List ℕ). get_or xs b 0) (sym two))
    | inr other ↦
        let mine = own_cell n i (get_or (own_list p c i) a 0) is (Contains-get_or (own_list p c i) a 0 a_in) in
        let theirs = piece_at p j less in
        let found = own_cell theirs.0 j (get_or (own_list p c j) b 0) theirs.1 (Contains-get_or (own_list p c j) b 0 b_in) in
        let e = group_same n theirs.0 (get_or (own_list p c j) b 0) (subst (IsOf n) same mine) found in
        absurd (other (subst (λ (m : ℕ). IsPieceOf p m j) (sym e) theirs.1))
  ]

  -- ---- gaps

  -- the cell of this number is in the group's row
  left_group : (k : ℕ) (qs : List (List ℤ)) (rest : List Cell) (x : ℕ) (y : Cell) → x < length qs → slice_get (map (cell k) qs ++ rest) x ≡ Some y → y.group ≡ k
  left_group k [] rest x y less at = absurd (omega (arith, less))
  left_group k (q ∷ qs) rest zero y less at = sym (ap (λ (z : Cell). z.group) (some_same (cell k q) y at))
  left_group k (q ∷ qs) rest (suc x) y less at = left_group k qs rest x y (omega (arith, less)) at

  right_get : (k : ℕ) (qs : List (List ℤ)) (rest : List Cell) (x : ℕ) (y : Cell) → slice_get (map (cell k) qs ++ rest) (length qs + x) ≡ Some y → slice_get rest x ≡ Some y
  right_get k [] rest x y at = let e : 0 + x ≡ x = omega arith in subst (λ (n : ℕ). slice_get rest n ≡ Some y) e at
  right_get k (q ∷ qs) rest x y at =
      let e : suc (length qs) + x ≡ suc (length qs + x) = omega arith in
      right_get k qs rest x y (subst (λ (n : ℕ). slice_get (cell k q ∷ (map (cell k) qs ++ rest)) n ≡ Some y) e at)

  row_group : (k : ℕ) (gs : List Group) (n x : ℕ) (y : Cell) → first_cell gs n ≤ x → x < first_cell gs (suc n) → slice_get (cells_from k gs) x ≡ Some y → y.group ≡ k + n
  row_group k [] n x y low high at = absurd (cc at)
  row_group k (g ∷ gs) zero x y low high at =
      let none = no_cells gs in
      let e : k + 0 ≡ k = omega arith in
      left_group k (group_points g) (cells_from (k + 1) gs) x y (omega (arith, high, none)) at ∙ sym e
  row_group k (g ∷ gs) (suc n) x y low high at =
      let long = length (group_points g) in
      let from : long + (x - long) ≡ x = omega (arith, low) in
      let later = right_get k (group_points g) (cells_from (k + 1) gs) (x - long) y (subst (λ (m : ℕ). slice_get (cells_from k (g ∷ gs)) m ≡ Some y) (sym from) at) in
      let rest = row_group (k + 1) gs n (x - long) y (omega (arith, low)) (omega (arith, low, high)) later in
      omega (arith, rest)

  pub cell_group : (n x : ℕ) (y : Cell) → first_cell p.groups n ≤ x → x < first_cell p.groups (n + 1) → slice_get (cells p) x ≡ Some y → y.group ≡ n
  cell_group n x y low high at =
      let one : n + 1 ≡ suc n = omega arith in
      let next = ap (first_cell p.groups) one in
      let here = row_group 0 p.groups n x y low (omega (arith, high, next)) at in
      omega (arith, here)

  -- a cell of the group that its pieces leave without an owner is a gap
  pub gap_found : (n x : ℕ) (owners : List (Option ℕ)) → IsClaimedBy (own_in p c n) owners (length (pieces p)) → slice_get owners x ≡ Some None → first_cell p.groups n ≤ x → x < first_cell p.groups (n + 1) → HasGap p c n
  gap_found n x owners claimed free low high = (
    x,
    low,
    high,
    λ k less has. elim (is_or_not p n k) [
      | inl this ↦ unowned (own_in p c n) owners (length (pieces p)) x k claimed free less (subst (λ (xs : List ℕ). Contains xs x) (sym (own_same p c n k this)) has)
      | inr other ↦
          let theirs = piece_at p k less in
          let found = own_cell theirs.0 k x theirs.1 has in
          let e : theirs.0 ≡ n = sym found.2 ∙ cell_group n x found.0 low high found.1 in
          other (subst (λ (m : ℕ). IsPieceOf p m k) e theirs.1)
    ],
  )

  owner_of : (n x : ℕ) (owners : List (Option ℕ)) (o : Option ℕ) → IsClaimedBy (own_in p c n) owners (length (pieces p)) → get_or owners x None ≡ o → IsSome o → (k : ℕ) × (k < length (pieces p)) × Contains (own_list p c k) x
  owner_of n x owners None claimed at some = absurd (false≢true some)
  owner_of n x owners (Some k) claimed at some =
      let known = claimed.only x k at in
      let less : k < length (pieces p) = elim known.2 [ inl low ↦ low | inr same ↦ absurd (let none : known.0 < 0 = same.1 in omega (arith, none)) ] in
      let has : Contains (own_in p c n k) x = subst (λ (y : ℕ). Contains (own_in p c n k) y) known.3 (Contains-get_or (own_in p c n k) known.0 0 known.1) in (
        k,
        less,
        elim (is_or_not p n k) [
          | inl this ↦ subst (λ (xs : List ℕ). Contains xs x) (own_same p c n k this) has
          | inr other ↦ absurd (let long = ap length (own_none p c n k other) in let in_own = known.1 in omega (arith, long, in_own))
        ],
      )

  held : (owners : List (Option ℕ)) (x : ℕ) → x < length owners → ¬ (slice_get owners x ≡ Some None) → (o : Option ℕ) → get_or owners x None ≡ o → IsSome o
  held owners x less taken None at = absurd (taken (get_some owners x None less ∙ ap (λ (o : Option ℕ). Some o) at))
  held owners x less taken (Some k) at = refl

  -- where all its cells have owners the group has no gap
  pub gap_none : (n : ℕ) (owners : List (Option ℕ)) → IsClaimedBy (own_in p c n) owners (length (pieces p)) → first_cell p.groups (n + 1) ≤ length owners →
      ((x : ℕ) → first_cell p.groups n ≤ x → x < first_cell p.groups (n + 1) → ¬ (slice_get owners x ≡ Some None)) → ¬ HasGap p c n
  gap_none n owners claimed long all gap =
      let below = gap.2 in
      let some = held owners gap.0 (omega (arith, below, long)) (all gap.0 gap.1 gap.2) (get_or owners gap.0 None) refl in
      let owner = owner_of n gap.0 owners (get_or owners gap.0 None) claimed refl some in
      gap.3 owner.0 owner.1 owner.2

-- ---- the table, piece after piece

module _ (p : Plan) (c : Certificate) (n : ℕ) where
  -- a piece of another group claims nothing
  pub claimed_skip : (owners : List (Option ℕ)) (i : ℕ) → IsClaimed (own_in p c n) owners i 0 → ¬ IsPieceOf p n i → IsClaimed (own_in p c n) owners (i + 1) 0
  claimed_skip owners i claimed other = claimed_next (own_in p c n) owners i 0 claimed (sym (ap length (own_none p c n i other)))

  -- a piece that is apart from all is apart from the earlier ones of its group
  pub apart_in : (i : ℕ) → i < length (pieces p) → IsPieceOf p n i → IsApart p c i → IsApartIn (own_in p c n) i
  apart_in i within is apart j a b less a_in b_in same = elim (is_or_not p n j) [
    | inl this ↦
        let one = own_same p c n i is in
        let two = own_same p c n j this in
        let at_a : a < length (own_list p c i) = (let e = ap length one in omega (arith, e, a_in)) in
        let at_b : b < length (own_list p c j) = (let e = ap length two in omega (arith, e, b_in)) in
        apart j a b (omega (arith, less, within)) at_a at_b (ap (λ (xs : List ℕ). get_or xs a 0) (sym one) ∙ same ∙ ap (λ (xs : List ℕ). get_or xs b 0) two)
    | inr other ↦ absurd (let long = ap length (own_none p c n j other) in omega (arith, long, b_in))
  ]

  pub overlaps : (owners : List (Option ℕ)) (i count : ℕ) → i < length (pieces p) → IsPieceOf p n i → IsClaimed (own_in p c n) owners i 0 → length owners ≡ count → All (λ k. k < count) (own_list p c i) →
      (OwnIsParted (i + 1) count (own_in p c n) → ⊥) → Overlaps p c n
  overlaps owners i count within is claimed long below clash = (
    i,
    is,
    λ apart. clash (parted_next (own_in p c n) i count (claimed_parted (own_in p c n) owners i count claimed long)
        (subst (λ (xs : List ℕ). All (λ k. k < count) xs) (sym (own_same p c n i is)) below) (apart_in i within is apart)),
  )

  -- own regions inside so far, and with one more piece
  abbrev pub InsideBefore : ℕ → Type 0
  InsideBefore i = (k : ℕ) → k < i → IsPieceOf p n k → OwnIsInside p c k

  pub inside_next : (i : ℕ) → InsideBefore i → (IsPieceOf p n i → OwnIsInside p c i) → InsideBefore (i + 1)
  inside_next i before here k less is = elim (cases_lt k i) [
    | inl low ↦ before k low is
    | inr from ↦ (let same : k ≡ i = omega (arith, less, from) in subst (OwnIsInside p c) (sym same) (here (subst (IsPieceOf p n) same is)))
  ]

  pub inside_whole : InsideBefore (length (pieces p)) → GroupIsInside p c n
  inside_whole all i is = all i (piece_below p n i is) is

pub both_true : (a b : Bool) → IsTrue (a && b) → IsTrue a × IsTrue b
both_true true b h = (refl, h)
both_true false b h = absurd (false≢true h)

pub either_false : (a b : Bool) → IsFalse (a && b) → IsFalse a ⊎ IsFalse b
either_false true b h = inr h
either_false false b h = inl refl

-- ---- the group of a piece in memory

module _ (x : Layout) (ready : IsLayout x) (n : ℕ) (s : Seat) (less : n < length x.seats.items) (is : s ≡ get_or x.seats.items n s) where
  pub of_group : (g : ℕ) → s.group ≡ g → IsPieceOf (plan_of x.plan.now) g n
  of_group g e = subst (λ (o : Option Piece). MatchOption o ⊥ (λ j. j.group ≡ g)) (sym (piece_is x ready n s less is)) e

  pub not_of_group : (g : ℕ) → (s.group ≡ g → ⊥) → ¬ IsPieceOf (plan_of x.plan.now) g n
  not_of_group g e h = e (subst (λ (o : Option Piece). MatchOption o ⊥ (λ j. j.group ≡ g)) (piece_is x ready n s less is) h)
