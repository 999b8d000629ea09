-- The lists of a plan's work.
use Rattle.std.proofs.Common.{◌≡◌, ℕ, zero, suc, ◌+◌, ◌*◌, ◌<◌, ◌≤◌, Bool, true, false, List, [], ◌∷◌, ◌++◌, length, map, Option, Some, None, get_or, refl, sym, ap, ◌∙◌, subst, inl, inr, arith}
use Rattle.std.specs.Prelude.{ℤ, pos, ◌+ℤ◌, ◌==◌, Contains, slice_get, slice_index_or, filter, flat_map, if◌then◌else◌, int_le}
use Rattle.std.specs.List.{range_with_len}
use Rattle.std.specs.List.Sorted.{IsStrictlyIncreasing}
use Rattle.std.proofs.Math.Nat.{suc-mul, mul_comm}
use Rattle.std.proofs.lemmas.Bool.Decides.{nat_tests}
use Rattle.std.proofs.lemmas.List.{length-map, length-append}
use Rattle.std.proofs.lemmas.List.FromFn.{length-range_with_len, get_or-range_with_len}
use Rattle.std.proofs.lemmas.List.Kept.{IsStrictlyIncreasing-filter}
use Rattle.std.proofs.lemmas.Option.{slice_get_within}
use Rattle.lin.specs.declared.span.Span1.{Span1}
use Rattle.meaning.specs.Algorithm.{Algorithm}
use Rattle.plan.specs.Plan.{Statement, Seq, For, Let, First, Guard, Alloc, Fetch, Store, Publish, Statements, Empty, Then, Group, Plan}
use Rattle.plan.specs.Symbols.{Symbols, bind, form_value, largest, rising, turns, points}
use Rattle.plan.specs.Certificate.Certificate.{Certificate}
use Rattle.plan.specs.Certificate.Cells.{Cell, Piece, piece, pieces}
use Rattle.plan.specs.Semantics.Actions.{after}
use Rattle.soundness.specs.Claims.{In}
use Rattle.soundness.proofs.Sound.{or_left, or_right}
use Rattle.headline.specs.Fetched.{fetched_cells, block_fetched_cells, fetches, block_fetches}
use Rattle.headline.specs.Numbers.{cell_number}
use Rattle.headline.specs.Work.{group_own, own_cells, group_fetched, cells_fetched, needs_this, needed_pieces, looked_value, group_run, run_on, of_piece}
use Rattle.headline.specs.Parts.{number_of_piece, IsPart, IsOfGroup, PartsAreTheWork, IsNeeded, NeedsAreOneList, span_count, point_count, PointsAreCounted}
use Rattle.headline.proofs.Lists.{at_below, row, rows}
use Rattle.headline.proofs.Places.{piece_stands, piece_from}

-- ---- by groups

part_is : (a : Algorithm) (p : Plan) (c : Certificate) (samples : List ℕ) (n : ℕ) (g : Group) (k : ℕ) → slice_get p.groups n ≡ Some g → slice_get (pieces p) (number_of_piece p n g k) ≡ Some (piece g n k) → IsPart a p c samples n g k
part_is a p c samples n g k e at = record {
  inside = slice_get_within (pieces p) (number_of_piece p n g k) (piece g n k) at;
  own = ap (λ (o : Option Piece). of_piece o [] (λ j. map (cell_number p) (own_cells p c j))) at
      ∙ ap (λ (o : Option Group). map (cell_number p) (group_own o c (piece g n k))) e;
  fetched = ap (λ (o : Option Piece). of_piece o [] (λ j. map (cell_number p) (cells_fetched p j))) at
      ∙ ap (λ (o : Option Group). map (cell_number p) (group_fetched o (piece g n k))) e;
  needs = ap (λ (o : Option Piece). of_piece o [] (needed_pieces p c)) at;
  run = λ looked.
      ap (λ (o : Option Piece). of_piece o None (λ j. run_on a p c samples j looked)) at
      ∙ ap (λ (o : Option Group). group_run a p c samples (looked_value a p (group_fetched o (piece g n k)) looked) (piece g n k) o) e;
}

of_group : (p : Plan) (j : ℕ) → j < length (pieces p) → IsOfGroup p j
of_group p j h =
    let x = at_below (pieces p) j h in
    let s = piece_from p j x.0 x.1 in
    record { n = x.0.group; g = s.g; k = s.k; group = s.group; inside = s.inside; number = s.number }

pub parts_are : PartsAreTheWork
parts_are = record {
  part = λ a p c samples n g k e h. part_is a p c samples n g k e (piece_stands p n g k e h);
  each = λ a p c samples j h. of_group p j h;
}

-- ---- rising lists

-- each number is at least this and greater than those before it
abbrev RisesFrom : ℕ → List ℕ → Type 0
RisesFrom a [] = Unit {0}
RisesFrom a (x ∷ xs) = (a ≤ x) × RisesFrom (x + 1) xs

rises_from : (a : ℕ) (xs : List ℕ) → (0 < length xs → a ≤ get_or xs 0 0) → IsStrictlyIncreasing xs → RisesFrom a xs
rises_from a [] first h = tt
rises_from a (x ∷ xs) first h =
    (first (omega arith), rises_from (x + 1) xs (λ some. let less : x < get_or xs 0 0 = h 0 (omega arith) in omega arith) (λ k more. let e : suc k + 1 ≡ suc (k + 1) = omega arith in subst (λ m. get_or (x ∷ xs) (suc k) 0 < get_or (x ∷ xs) m 0) e (h (suc k) (omega arith))))

beyond : (a : ℕ) (xs : List ℕ) (x : ℕ) → RisesFrom a xs → In x xs → a ≤ x
beyond a [] x h m = absurd m
beyond a (y ∷ ys) x h (inl e) = let least : a ≤ y = h.0 in omega arith
beyond a (y ∷ ys) x h (inr m) = let least : a ≤ y = h.0 in let more : y + 1 ≤ x = beyond (y + 1) ys x h.1 m in omega arith

in_contained : (xs : List ℕ) (x : ℕ) → In x xs → Contains xs x
in_contained [] x m = absurd m
in_contained (y ∷ ys) x (inl e) = (0, omega arith, sym e)
in_contained (y ∷ ys) x (inr m) = let r = in_contained ys x m in let less : r.0 < length ys = r.1 in (suc r.0, omega arith, r.2)

contained_at : (xs : List ℕ) (x k : ℕ) → k < length xs → slice_index_or xs k x ≡ x → In x xs
contained_at [] x k h e = absurd (omega arith)
contained_at (y ∷ ys) x zero h e = inl (sym e)
contained_at (y ∷ ys) x (suc k) h e = inr (contained_at ys x k (omega arith) e)

contained_in : (xs : List ℕ) (x : ℕ) → Contains xs x → In x xs
contained_in xs x m = contained_at xs x m.0 m.1 m.2

-- a member that is not the first is one of the rest
not_first : (x y : ℕ) (ys : List ℕ) → y < x → In x (y ∷ ys) → In x ys
not_first x y ys less (inl e) = absurd (omega arith)
not_first x y ys less (inr m) = m

first_least : (x y : ℕ) (ys : List ℕ) → RisesFrom (y + 1) ys → In x (y ∷ ys) → y ≤ x
first_least x y ys h (inl e) = omega arith
first_least x y ys h (inr m) = let more : y + 1 ≤ x = beyond (y + 1) ys x h m in omega arith

one_list : (a b : ℕ) (xs ys : List ℕ) → RisesFrom a xs → RisesFrom b ys → ((i : ℕ) → In i xs → In i ys) → ((i : ℕ) → In i ys → In i xs) → xs ≡ ys
one_list a b [] [] h k to from = refl
one_list a b [] (y ∷ ys) h k to from = absurd (from y (inl refl))
one_list a b (x ∷ xs) [] h k to from = absurd (to x (inl refl))
one_list a b (x ∷ xs) (y ∷ ys) h k to from =
    let lower : y ≤ x = first_least x y ys k.1 (to x (inl refl)) in
    let upper : x ≤ y = first_least y x xs h.1 (from y (inl refl)) in
    let same : x ≡ y = omega arith in
    let rest = one_list (x + 1) (y + 1) xs ys h.1 k.1
    (λ i m. let more : x + 1 ≤ i = beyond (x + 1) xs i h.1 m in not_first i y ys (omega arith) (to i (inr m)))
    (λ i m. let more : y + 1 ≤ i = beyond (y + 1) ys i k.1 m in not_first i x xs (omega arith) (from i (inr m))) in
    λ i. same i ∷ rest i

-- ---- needed pieces

range_rises : (n : ℕ) → IsStrictlyIncreasing (range_with_len 0 n)
range_rises n k h =
    let long : length (range_with_len 0 n) ≡ n = length-range_with_len 0 n in
    let here : get_or (range_with_len 0 n) k 0 ≡ 0 + k = get_or-range_with_len 0 n k 0 (omega arith) in
    let next : get_or (range_with_len 0 n) (k + 1) 0 ≡ 0 + (k + 1) = get_or-range_with_len 0 n (k + 1) 0 (omega arith) in
    omega arith

in_range : (a n i : ℕ) → a ≤ i → i < a + n → In i (range_with_len a n)
in_range a zero i h k = absurd (omega arith)
in_range a (suc n) i h k = of (i == a) refl (λ less more. in_range (a + 1) n i less more)
  where
    of : (v : Bool) → (i == a) ≡ v → (a + 1 ≤ i → i < (a + 1) + n → In i (range_with_len (a + 1) n)) → In i (range_with_len a (suc n))
    of true e rest = inl (grind (arith, nat_tests))
    of false e rest = let differs : (i ≡ a → ⊥) = grind (arith, nat_tests) in inr (rest (omega arith) (omega arith))

filter_in : (test : ℕ → Bool) (xs : List ℕ) (i : ℕ) → In i (filter test xs) → test i ≡ true
filter_in test [] i m = absurd m
filter_in test (x ∷ xs) i m = of (test x) refl m (filter_in test xs i)
  where
    of : (v : Bool) → test x ≡ v → In i (if v then x ∷ filter test xs else filter test xs) → (In i (filter test xs) → test i ≡ true) → test i ≡ true
    of true e (inl same) rest = ap test same ∙ e
    of true e (inr k) rest = rest k
    of false e k rest = rest k

in_filter : (test : ℕ → Bool) (xs : List ℕ) (i : ℕ) → test i ≡ true → In i xs → In i (filter test xs)
in_filter test [] i h m = absurd m
in_filter test (x ∷ xs) i h m = of (test x) refl m (in_filter test xs i h)
  where
    of : (v : Bool) → test x ≡ v → In i (x ∷ xs) → (In i xs → In i (filter test xs)) → In i (if v then x ∷ filter test xs else filter test xs)
    of true e (inl same) rest = inl same
    of true e (inr k) rest = inr (rest k)
    of false e (inl same) rest = let hit : test i ≡ test x = ap test same in absurd (cc (hit, h, e))
    of false e (inr k) rest = rest k

needed_inside : (p : Plan) (c : Certificate) (j : Piece) (i : ℕ) → IsNeeded p c j i → i < length (pieces p)
needed_inside p c j i h = of (slice_get (pieces p) i) refl h
  where
    of : (o : Option Piece) → slice_get (pieces p) i ≡ o → needs_this c j o ≡ true → i < length (pieces p)
    of None e k = absurd (cc k)
    of (Some x) e k = slice_get_within (pieces p) i x e

is_needed : (p : Plan) (c : Certificate) (j : Piece) (i : ℕ) → In i (needed_pieces p c j) → IsNeeded p c j i
is_needed p c j i m = filter_in (λ i. needs_this c j (slice_get (pieces p) i)) (range_with_len 0 (length (pieces p))) i m

needed_is : (p : Plan) (c : Certificate) (j : Piece) (i : ℕ) → IsNeeded p c j i → In i (needed_pieces p c j)
needed_is p c j i h =
    let less : i < length (pieces p) = needed_inside p c j i h in
    in_filter (λ i. needs_this c j (slice_get (pieces p) i)) (range_with_len 0 (length (pieces p))) i h (in_range 0 (length (pieces p)) i (omega arith) (omega arith))

needs_rise : (p : Plan) (c : Certificate) (j : Piece) → IsStrictlyIncreasing (needed_pieces p c j)
needs_rise p c j = IsStrictlyIncreasing-filter (λ i. needs_this c j (slice_get (pieces p) i)) (range_with_len 0 (length (pieces p))) (range_rises (length (pieces p)))

pub needs_one : NeedsAreOneList
needs_one = record {
  rises = needs_rise;
  members = λ p c j i. (λ m. is_needed p c j i (contained_in (needed_pieces p c j) i m), λ h. in_contained (needed_pieces p c j) i (needed_is p c j i h));
  only = λ p c j ns h members.
      one_list 0 0 ns (needed_pieces p c j) (rises_from 0 ns (λ some. omega arith) h) (rises_from 0 (needed_pieces p c j) (λ some. omega arith) (needs_rise p c j))
      (λ i m. needed_is p c j i ((members i).0 (in_contained ns i m)))
      (λ i m. contained_in ns i ((members i).1 (is_needed p c j i m)));
}

-- ---- fetches

none_of_two : (xs ys : List Cell) → xs ≡ [] → ys ≡ [] → xs ++ ys ≡ []
none_of_two xs ys h k = λ i. h i ++ k i

none_of_each : (f : ℤ → List Cell) (zs : List ℤ) → ((z : ℤ) → f z ≡ []) → flat_map f zs ≡ []
none_of_each f [] h = refl
none_of_each f (z ∷ zs) h = none_of_two (f z) (flat_map f zs) (h z) (none_of_each f zs h)

none_of_either : (v : Bool) (xs ys : List Cell) → xs ≡ [] → ys ≡ [] → (if v then xs else ys) ≡ []
none_of_either true xs ys h k = h
none_of_either false xs ys h k = k

mutual
  pub none_fetched : (a : Statement) (s : Symbols) → fetches a ≡ false → fetched_cells a s ≡ []
  none_fetched (Seq all) s h = block_none_fetched all s h
  none_fetched (For i x kind body) s h =
      none_of_each (λ z. fetched_cells body (bind s i z (int_le z (largest s x.lower)))) (turns s x) (λ z. none_fetched body (bind s i z (int_le z (largest s x.lower))) h)
  none_fetched (Let i pick forms) s h = refl
  none_fetched (First i a b) s h =
      none_of_either (s.first i) (fetched_cells a s) (fetched_cells b s) (none_fetched a s (or_left (fetches a) (fetches b) h)) (none_fetched b s (or_right (fetches a) (fetches b) h))
  none_fetched (Guard low high body) s h = none_of_either (int_le (form_value low s) (form_value high s)) (fetched_cells body s) [] (none_fetched body s h) refl
  none_fetched (Alloc b f places) s h = refl
  none_fetched (Fetch b g region) s h = absurd (cc h)
  none_fetched (Store b k at e) s h = refl
  none_fetched (Publish c) s h = refl

  block_none_fetched : (all : Statements) (s : Symbols) → block_fetches all ≡ false → block_fetched_cells all s ≡ []
  block_none_fetched Empty s h = refl
  block_none_fetched (Then a rest) s h =
      none_of_two (fetched_cells a s) (block_fetched_cells rest (after a s)) (none_fetched a s (or_left (fetches a) (block_fetches rest) h))
      (block_none_fetched rest (after a s) (or_right (fetches a) (block_fetches rest) h))

-- ---- how many points

rising_long : (low : ℤ) (n : ℕ) → length (rising low n) ≡ n
rising_long low zero = refl
rising_long low (suc n) = ap suc (rising_long (low +ℤ pos 1) n)

turns_long : (s : Symbols) (x : Span1) → length (turns s x) ≡ span_count s x
turns_long s x = rising_long (largest s x.lower) (span_count s x)

rows_long : (ts : List ℤ) (ps : List (List ℤ)) → length (rows ts ps) ≡ length ps * length ts
rows_long ts [] = omega arith
rows_long ts (q ∷ ps) =
    let both : length (row ts q ++ rows ts ps) ≡ length (row ts q) + length (rows ts ps) = length-append (row ts q) (rows ts ps) in
    let first : length (row ts q) ≡ length ts = length-map ts (λ z. z ∷ q) in
    let rest : length (rows ts ps) ≡ length ps * length ts = rows_long ts ps in
    let more : suc (length ps) * length ts ≡ length ps * length ts + length ts = suc-mul (length ps) (length ts) in
    omega arith

points_long : (s : Symbols) (xs : List Span1) → length (points s xs) ≡ point_count s xs
points_long s [] = refl
points_long s (x ∷ xs) =
    let all : length (points s (x ∷ xs)) ≡ length (points s xs) * length (turns s x) = rows_long (turns s x) (points s xs) in
    let first : length (turns s x) ≡ span_count s x = turns_long s x in
    let rest : length (points s xs) ≡ point_count s xs = points_long s xs in
    all ∙ (λ i. rest i * first i) ∙ mul_comm (point_count s xs) (span_count s x)

pub points_counted : PointsAreCounted
points_counted = record { turns = turns_long; points = points_long }
