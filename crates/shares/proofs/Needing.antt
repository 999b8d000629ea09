-- The pieces that a piece needs are those that its need lines name.
use Rattle.std.proofs.Common.{◌≡◌, ℕ, zero, suc, ◌+◌, ◌*◌, ◌/◌, ◌%◌, ◌<◌, ◌≤◌, List, [], ◌∷◌, ◌++◌, length, map, arith, ap, refl, sym, ◌∙◌, subst, Option, Some, None, get_or, Bool, true, false, inl, inr, drop, drop-cons, Bor}
use Rattle.std.specs.Prelude.{ℤ, pos, negsuc, ◌-ℤ◌, ◌+ℤ◌, ◌==◌, ◌&&◌, ◌||◌, int_le, flat_map, All, IsTrue, ◌↔◌, ◌⊎◌, Contains, MatchOption, slice_get, if◌then◌else◌}
use Rattle.std.specs.List.{AllByRecursion, list_any}
use Rattle.std.proofs.lemmas.Bool.{false≢true}
use Rattle.std.proofs.lemmas.Bool.Decides.{nat_tests}
use Rattle.std.proofs.lemmas.Int.{ints}
use Rattle.std.proofs.lemmas.List.Elements.{recursion_from_All, All-from_recursion, All-cons, Contains-append_left, Contains-append_right, Contains-append_cases}
use Rattle.std.proofs.Math.Nat.{mul-le-mul_left, mul-add, mul-one, mul_comm, mod-eq_of_lt, add-mul-mod_self_left}
use Rattle.std.proofs.lemmas.Nat.{div-mul-add}
use Rattle.plan.specs.Plan.{Group, Plan}
use Rattle.plan.specs.Symbols.{clipped, points}
use Rattle.meaning.specs.Names.{same_point}
use Rattle.meaning.proofs.Cases.{point_same}
use Rattle.plan.specs.declared.certificate.cert.Need.{Need}
use Rattle.plan.specs.Certificate.Certificate.{Certificate}
use Rattle.plan.specs.Certificate.Cells.{Piece, Cell, piece, cell, pieces, first_piece, grid_point, grid_rank, piece_count, grid_symbols}
use Rattle.soundness.proofs.Refines.{eq_refl, and_parts}
use Rattle.soundness.proofs.Learned.{point_true}
use Rattle.headline.specs.Numbers.{group_grid}
use Rattle.headline.specs.Parts.{IsNeeded}
use Rattle.headline.specs.Work.{needs_this}
use Rattle.headline.proofs.Places.{pieces_numbered}
use Rattle.shares.specs.Boxes.{grid_sides, is_in_box, rank}
use Rattle.shares.specs.Needed.{need_grid, need_points, need_numbers, all_numbers, NeedIsInside, NeedsAreInside}
use Rattle.shares.specs.Shared.{NeedIsShared, IsLike}
use Rattle.shares.proofs.Groups.{some_same}

-- ---- grid points by their ranks

clipped_zero : (x : ℕ) → clipped (pos x -ℤ pos 0) ≡ x
clipped_zero x = let e : pos x -ℤ pos 0 ≡ pos x = omega (arith, ints) in ap clipped e

pub rank_grid : (grid at : List ℕ) → rank (grid_sides grid) (map pos at) ≡ grid_rank grid at
rank_grid [] at = refl
rank_grid (m ∷ ms) [] = refl
rank_grid (m ∷ ms) (x ∷ xs) = λ i. clipped_zero x i + m * rank_grid ms xs i

abbrev InGrid : List ℕ → List ℤ → Type 0
InGrid grid q = (rank (grid_sides grid) q < piece_count grid) × (map pos (grid_point grid (rank (grid_sides grid) q)) ≡ q)

below_pos : (a m : ℕ) → int_le (pos a +ℤ pos 1) (pos 0 +ℤ pos m) ≡ true → a < m
below_pos a m e = grind (arith, nat_tests, ints)

not_negative : (a : ℕ) → int_le (pos 0) (negsuc a) ≡ true → ⊥
not_negative a e = false≢true e

digits : (a m r : ℕ) → a < m → ((a + m * r) % m ≡ a) × ((a + m * r) / m ≡ r)
digits a m r h =
    let turned : a + m * r ≡ r * m + a = (let k = mul_comm m r in omega (arith, k)) in
    (add-mul-mod_self_left a m r ∙ mod-eq_of_lt h, ap (λ (n : ℕ). n / m) turned ∙ div-mul-add r m a h)

count_below : (a m r k : ℕ) → a < m → r < k → a + m * r < m * k
count_below a m r k h l =
    let product : m * (r + 1) ≤ m * k = mul-le-mul_left m (let le : r + 1 ≤ k = omega (arith, l) in le) in
    let split : m * (r + 1) ≡ m * r + m = mul-add m r 1 ∙ ap (λ (x : ℕ). m * r + x) (mul-one m) in
    omega (arith, h, product, split)

one_more : (m : ℕ) (ms : List ℕ) (a : ℕ) (q : List ℤ) → a < m → InGrid ms q → InGrid (m ∷ ms) (pos a ∷ q)
one_more m ms a q h rest =
    let r = rank (grid_sides ms) q in
    let whole : rank (grid_sides (m ∷ ms)) (pos a ∷ q) ≡ a + m * r = ap (λ (x : ℕ). x + m * r) (clipped_zero a) in
    let both = digits a m r h in (
      subst (λ (n : ℕ). n < m * piece_count ms) (sym whole) (count_below a m r (piece_count ms) h rest.0),
      ap (λ (n : ℕ). map pos (grid_point (m ∷ ms) n)) whole ∙ (λ i. pos (both.0 i) ∷ map pos (grid_point ms (both.1 i))) ∙ ap (λ (zs : List ℤ). pos a ∷ zs) rest.1,
    )

in_grid : (grid : List ℕ) (q : List ℤ) → is_in_box (grid_sides grid) q ≡ true → InGrid grid q
in_grid [] [] e = (omega arith, refl)
in_grid [] (z ∷ zs) e = absurd (false≢true e)
in_grid (m ∷ ms) [] e = absurd (false≢true e)
in_grid (m ∷ ms) (pos a ∷ zs) e =
    let both = and_parts (int_le (pos 0) (pos a) && int_le (pos a +ℤ pos 1) (pos 0 +ℤ pos m)) (is_in_box (grid_sides ms) zs) e in
    let first = and_parts (int_le (pos 0) (pos a)) (int_le (pos a +ℤ pos 1) (pos 0 +ℤ pos m)) both.0 in
    one_more m ms a zs (below_pos a m first.1) (in_grid ms zs both.1)
in_grid (m ∷ ms) (negsuc a ∷ zs) e =
    let both = and_parts (int_le (pos 0) (negsuc a) && int_le (negsuc a +ℤ pos 1) (pos 0 +ℤ pos m)) (is_in_box (grid_sides ms) zs) e in
    let first = and_parts (int_le (pos 0) (negsuc a)) (int_le (negsuc a +ℤ pos 1) (pos 0 +ℤ pos m)) both.0 in
    absurd (not_negative a first.0)

-- ---- tests and members

none_some : {A : Type 0} {x : A} → ◌≡◌ {A = Option A} None (Some x) → ⊥
none_some e = cc e

or_cases : (a b : Bool) → (a || b) ≡ true → (a ≡ true) ⊎ (b ≡ true)
or_cases true b e = inl refl
or_cases false b e = inr e

or_left : (a b : Bool) → a ≡ true → (a || b) ≡ true
or_left a b e = rw e refl

or_right : (a b : Bool) → b ≡ true → (a || b) ≡ true
or_right true b e = refl
or_right false b e = e

or_assoc : (a b c : Bool) → (a || (b || c)) ≡ ((a || b) || c)
or_assoc true b c = refl
or_assoc false b c = refl

any_append : (f : Cell → Bool) (xs ys : List Cell) → list_any f (xs ++ ys) ≡ (list_any f xs || list_any f ys)
any_append f [] ys = refl
any_append f (x ∷ xs) ys = ap (λ (b : Bool). f x || b) (any_append f xs ys) ∙ or_assoc (f x) (list_any f xs) (list_any f ys)

never : (xs : List Cell) → list_any (λ y. false) xs ≡ true → ⊥
never [] e = false≢true e
never (x ∷ xs) e = never xs e

nothing : (i : ℕ) → Contains [] i → ⊥
nothing i m = let less : m.0 < 0 = m.1 in omega (arith, less)

contains_here : (y : ℕ) (ys : List ℕ) (x : ℕ) → y ≡ x → Contains (y ∷ ys) x
contains_here y ys x e = (0, omega arith, e)

contains_later : (y : ℕ) (ys : List ℕ) (x : ℕ) → Contains ys x → Contains (y ∷ ys) x
contains_later y ys x m = Contains-append_right (y ∷ []) ys x m

single : (y x k : ℕ) → k < length (y ∷ []) → get_or (y ∷ []) k x ≡ x → y ≡ x
single y x zero less e = e
single y x (suc k) less e = absurd (omega (arith, less))

contains_cases : (y : ℕ) (ys : List ℕ) (x : ℕ) → Contains (y ∷ ys) x → (y ≡ x) ⊎ Contains ys x
contains_cases y ys x m = elim (Contains-append_cases (y ∷ []) ys x m) [ inl here ↦ inl (single y x here.0 here.1 here.2) | inr later ↦ inr later ]

named : (o : Option Group) (Q : Group → Type 0) → MatchOption o ⊥ Q → (g : Group) × (o ≡ Some g)
named None Q h = absurd h
named (Some g) Q h = (g, refl)

-- ---- a point and a piece

module _ (p : Plan) (i : ℕ) where
  abbrev number : ℕ → List ℤ → ℕ
  number h q = first_piece p.groups h + rank (grid_sides (group_grid (slice_get p.groups h))) q

  abbrev is_this : Piece → ℕ → List ℤ → Bool
  is_this x h q = (h == x.group) && same_point q (map pos x.at)

  eq_true : (m n : ℕ) → (m == n) ≡ true → m ≡ n
  eq_true m n e = grind (arith, nat_tests)

  point_to : (x : Piece) (h : ℕ) (q : List ℤ) → slice_get (pieces p) i ≡ Some x → is_this x h q ≡ true → number h q ≡ i
  point_to x h q at e =
      let both = and_parts (h == x.group) (same_point q (map pos x.at)) e in
      let known = pieces_numbered.number p i x at in
      (λ k. number (eq_true h x.group both.0 k) (point_true q (map pos x.at) both.1 k))
      ∙ ap (λ (n : ℕ). first_piece p.groups x.group + n) (rank_grid (group_grid (slice_get p.groups x.group)) x.at) ∙ known.6

  stands_at : (h : ℕ) (g : Group) (q : List ℤ) → slice_get p.groups h ≡ Some g → is_in_box (grid_sides (group_grid (slice_get p.groups h))) q ≡ true → number h q ≡ i → slice_get (pieces p) i ≡ Some (piece g h (rank (grid_sides g.grid) q))
  stands_at h g q at inside e =
      let here = in_grid g.grid q (subst (λ (o : Option Group). is_in_box (grid_sides (group_grid o)) q ≡ true) at inside) in
      let same : first_piece p.groups h + rank (grid_sides g.grid) q ≡ i = ap (λ (o : Option Group). first_piece p.groups h + rank (grid_sides (group_grid o)) q) (sym at) ∙ e in
      ap (slice_get (pieces p)) (sym same) ∙ pieces_numbered.stands p h g (rank (grid_sides g.grid) q) at here.0

  point_from : (x : Piece) (h : ℕ) (g : Group) (q : List ℤ) → slice_get (pieces p) i ≡ Some x → slice_get p.groups h ≡ Some g → is_in_box (grid_sides (group_grid (slice_get p.groups h))) q ≡ true → number h q ≡ i → is_this x h q ≡ true
  point_from x h g q at group inside e =
      let here = in_grid g.grid q (subst (λ (o : Option Group). is_in_box (grid_sides (group_grid o)) q ≡ true) group inside) in
      let is : piece g h (rank (grid_sides g.grid) q) ≡ x = some_same (piece g h (rank (grid_sides g.grid) q)) x (sym (stands_at h g q group inside e) ∙ at) in
      subst (λ (y : Piece). is_this y h q ≡ true) is (λ k. eq_refl h k && point_same q (map pos (grid_point g.grid (rank (grid_sides g.grid) q))) (sym here.1) k)

  -- ---- lines

  abbrev hits : Option Piece → Cell → Bool
  hits None y = false
  hits (Some x) y = (y.group == x.group) && same_point y.point (map pos x.at)

  point_hits : (o : Option Piece) (h : ℕ) (g : Group) (q : List ℤ) → slice_get (pieces p) i ≡ o → slice_get p.groups h ≡ Some g → is_in_box (grid_sides (group_grid (slice_get p.groups h))) q ≡ true → number h q ≡ i → hits o (cell h q) ≡ true
  point_hits None h g q at group inside e = absurd (none_some (sym at ∙ stands_at h g q group inside e))
  point_hits (Some x) h g q at group inside e = point_from x h g q at group inside e

  point_hit : (o : Option Piece) (h : ℕ) (q : List ℤ) → slice_get (pieces p) i ≡ o → hits o (cell h q) ≡ true → number h q ≡ i
  point_hit None h q at e = absurd (false≢true e)
  point_hit (Some x) h q at e = point_to x h q at e

  row_to : (o : Option Piece) (h : ℕ) (qs : List (List ℤ)) → slice_get (pieces p) i ≡ o → list_any (hits o) (map (cell h) qs) ≡ true → Contains (map (number h) qs) i
  row_to o h [] at e = absurd (false≢true e)
  row_to o h (q ∷ qs) at e = elim (or_cases (hits o (cell h q)) (list_any (hits o) (map (cell h) qs)) e) [
    | inl here ↦ contains_here (number h q) (map (number h) qs) i (point_hit o h q at here)
    | inr later ↦ contains_later (number h q) (map (number h) qs) i (row_to o h qs at later)
  ]

  row_from : (o : Option Piece) (h : ℕ) (g : Group) (qs : List (List ℤ)) → slice_get (pieces p) i ≡ o → slice_get p.groups h ≡ Some g → AllByRecursion (λ q. IsTrue (is_in_box (grid_sides (group_grid (slice_get p.groups h))) q)) qs → Contains (map (number h) qs) i → list_any (hits o) (map (cell h) qs) ≡ true
  row_from o h g [] at group inside m = absurd (nothing i m)
  row_from o h g (q ∷ qs) at group inside m = elim (contains_cases (number h q) (map (number h) qs) i m) [
    | inl here ↦ or_left (hits o (cell h q)) (list_any (hits o) (map (cell h) qs)) (point_hits o h g q at group inside.0 here)
    | inr later ↦ or_right (hits o (cell h q)) (list_any (hits o) (map (cell h) qs)) (row_from o h g qs at group inside.1 later)
  ]

  module _ (c : Certificate) (j : Piece) (o : Option Piece) (at : slice_get (pieces p) i ≡ o) where
    abbrev line_cells : Bool → Need → List Cell
    line_cells b n = if b then map (cell n.needed) (need_points j n) else []

    abbrev line_numbers : Bool → Need → List ℕ
    line_numbers b n = if b then map (number n.needed) (need_points j n) else []

    line_to : (b : Bool) (n : Need) → list_any (hits o) (line_cells b n) ≡ true → Contains (line_numbers b n) i
    line_to true n e = row_to o n.needed (need_points j n) at e
    line_to false n e = absurd (false≢true e)

    line_from : (b : Bool) (n : Need) → (n.group == j.group) ≡ b → NeedIsInside p j n → NeedIsShared p n → Contains (line_numbers b n) i → list_any (hits o) (line_cells b n) ≡ true
    line_from true n same inside shared m =
        let g = named (slice_get p.groups n.needed) (λ g. IsLike n.region (length g.grid)) shared in
        row_from o n.needed g.0 (need_points j n) at g.1 (recursion_from_All (λ (q : List ℤ). IsTrue (is_in_box (need_grid p n) q)) (need_points j n) (inside (eq_true n.group j.group same))) m
    line_from false n same inside shared m = absurd (nothing i m)

    abbrev cells_of : List Need → List Cell
    cells_of ns = flat_map (λ n. if n.group == j.group then map (cell n.needed) (points (grid_symbols j.at) n.region) else []) ns

    lines_to : (ns : List Need) → list_any (hits o) (cells_of ns) ≡ true → Contains (all_numbers p j ns) i
    lines_to [] e = absurd (false≢true e)
    lines_to (n ∷ ns) e = elim (or_cases (list_any (hits o) (line_cells (n.group == j.group) n)) (list_any (hits o) (cells_of ns)) (sym (any_append (hits o) (line_cells (n.group == j.group) n) (cells_of ns)) ∙ e)) [
      | inl here ↦ Contains-append_left (need_numbers p j n) (all_numbers p j ns) i (line_to (n.group == j.group) n here)
      | inr later ↦ Contains-append_right (need_numbers p j n) (all_numbers p j ns) i (lines_to ns later)
    ]

    lines_from : (ns : List Need) → AllByRecursion (NeedIsInside p j) ns → AllByRecursion (NeedIsShared p) ns → Contains (all_numbers p j ns) i → list_any (hits o) (cells_of ns) ≡ true
    lines_from [] inside shared m = absurd (nothing i m)
    lines_from (n ∷ ns) inside shared m = any_append (hits o) (line_cells (n.group == j.group) n) (cells_of ns) ∙ elim (Contains-append_cases (need_numbers p j n) (all_numbers p j ns) i m) [
      | inl here ↦ or_left (list_any (hits o) (line_cells (n.group == j.group) n)) (list_any (hits o) (cells_of ns)) (line_from (n.group == j.group) n refl inside.0 shared.0 here)
      | inr later ↦ or_right (list_any (hits o) (line_cells (n.group == j.group) n)) (list_any (hits o) (cells_of ns)) (lines_from ns inside.1 shared.1 later)
    ]

needed_is : (o : Option Piece) (p : Plan) (c : Certificate) (j : Piece) (i : ℕ) → slice_get (pieces p) i ≡ o → NeedsAreInside p j c.needs → All (NeedIsShared p) c.needs → Contains (all_numbers p j c.needs) i ↔ (needs_this c j o ≡ true)
needed_is None p c j i at inside shared = (
  (λ m. absurd (never (cells_of p i c j None at c.needs) (lines_from p i c j None at c.needs (recursion_from_All (NeedIsInside p j) c.needs inside) (recursion_from_All (NeedIsShared p) c.needs shared) m))),
  (λ e. absurd (false≢true e)),
)
needed_is (Some x) p c j i at inside shared = (
  (λ m. lines_from p i c j (Some x) at c.needs (recursion_from_All (NeedIsInside p j) c.needs inside) (recursion_from_All (NeedIsShared p) c.needs shared) m),
  (λ e. lines_to p i c j (Some x) at c.needs e),
)

-- the numbers that the need lines name are those of the needed pieces
pub needed_members : (p : Plan) (c : Certificate) (j : Piece) → NeedsAreInside p j c.needs → All (NeedIsShared p) c.needs → (i : ℕ) → Contains (all_numbers p j c.needs) i ↔ IsNeeded p c j i
needed_members p c j inside shared i = needed_is (slice_get (pieces p) i) p c j i refl inside shared

-- ---- one line

pub numbers_none : (p : Plan) (j : Piece) (n : Need) → (n.group ≡ j.group → ⊥) → need_numbers p j n ≡ []
numbers_none p j n differs = let e : (n.group == j.group) ≡ false = grind (arith, nat_tests) in rw e refl

pub numbers_some : (p : Plan) (j : Piece) (n : Need) → n.group ≡ j.group → map (λ q. first_piece p.groups n.needed + rank (need_grid p n) q) (need_points j n) ≡ need_numbers p j n
numbers_some p j n same = let e : (n.group == j.group) ≡ true = grind (arith, nat_tests) in rw e refl

pub same_front : (A B L : List ℕ) → ((i : ℕ) → Contains A i ↔ Contains B i) → (i : ℕ) → Contains (A ++ L) i ↔ Contains (B ++ L) i
same_front A B L h i = (turn A B (λ m. (h i).0 m), turn B A (λ m. (h i).1 m))
  where
    turn : (X Y : List ℕ) → (Contains X i → Contains Y i) → Contains (X ++ L) i → Contains (Y ++ L) i
    turn X Y k m = elim (Contains-append_cases X L i m) [ inl here ↦ Contains-append_left Y L i (k here) | inr later ↦ Contains-append_right Y L i later ]

pub next_needs : (p : Plan) (j : Piece) (ns : List Need) (k : ℕ) (d : Need) → k < length ns → all_numbers p j (drop k ns) ≡ need_numbers p j (get_or ns k d) ++ all_numbers p j (drop (k + 1) ns)
next_needs p j ns k d less =
    let one : suc k ≡ k + 1 = omega arith in
    ap (all_numbers p j) (drop-cons ns k d less) ∙ ap (λ (m : ℕ). need_numbers p j (get_or ns k d) ++ all_numbers p j (drop m ns)) one

pub next_inside : (p : Plan) (j : Piece) (ns : List Need) (k : ℕ) (d : Need) → k < length ns → NeedIsInside p j (get_or ns k d) → NeedsAreInside p j (drop (k + 1) ns) → NeedsAreInside p j (drop k ns)
next_inside p j ns k d less here later =
    let one : k + 1 ≡ suc k = omega arith in
    subst (NeedsAreInside p j) (sym (drop-cons ns k d less)) (All-cons (NeedIsInside p j) (get_or ns k d) (drop (suc k) ns) here (subst (λ (m : ℕ). NeedsAreInside p j (drop m ns)) one later))

pub no_needs : (ns : List Need) (k : ℕ) → length ns ≡ k → drop k ns ≡ []
no_needs [] k e = rw (sym e) refl
no_needs (x ∷ xs) k e = rw (sym e) (no_needs xs (length xs) refl)

pub inside_split : (p : Plan) (j : Piece) (ns : List Need) (k : ℕ) (d : Need) → k < length ns → NeedsAreInside p j (drop k ns) → NeedIsInside p j (get_or ns k d) × NeedsAreInside p j (drop (k + 1) ns)
inside_split p j ns k d less all =
    let one : suc k ≡ k + 1 = omega arith in
    let both = recursion_from_All (NeedIsInside p j) (get_or ns k d ∷ drop (suc k) ns) (subst (NeedsAreInside p j) (drop-cons ns k d less) all) in
    (both.0, subst (λ (m : ℕ). NeedsAreInside p j (drop m ns)) one (All-from_recursion (NeedIsInside p j) (drop (suc k) ns) both.1))

-- the line at a place of a list of lines that are lent
pub lent_at : (xs : List (Bor Need)) (k : ℕ) (d : Bor Need) → get_or (map (λ n. n.now) xs) k d.now ≡ (get_or xs k d).now
lent_at [] k d = refl
lent_at (x ∷ xs) zero d = refl
lent_at (x ∷ xs) (suc k) d = lent_at xs k d
