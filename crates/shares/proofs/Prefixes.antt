-- What the first need lines alone name.
use Rattle.std.proofs.Common.{◌≡◌, ℕ, zero, suc, ◌+◌, ◌<◌, ◌≤◌, ◌^◌, List, [], ◌∷◌, ◌++◌, length, take, drop, get_or, Bool, true, false, cond, arith, ap, refl, sym, ◌∙◌, subst, Option, Some, None}
use Rattle.std.specs.Prelude.{slice_get, filter, All, ◌==◌, ◌||◌, flat_map, map, pos, ◌&&◌, if◌then◌else◌, MatchOption}
use Rattle.std.specs.List.{list_any, range_with_len, AllByRecursion}
use Rattle.std.proofs.lemmas.Bool.{false≢true}
use Rattle.std.proofs.lemmas.List.Elements.{recursion_from_All, All-from_recursion}
use Rattle.plan.specs.Plan.{Plan}
use Rattle.plan.specs.Symbols.{points}
use Rattle.plan.specs.declared.certificate.cert.Need.{Need}
use Rattle.plan.specs.Certificate.Certificate.{Certificate}
use Rattle.plan.specs.Certificate.Cells.{Piece, Cell, cell, pieces, needed, grid_symbols}
use Rattle.meaning.specs.Names.{same_point}
use Rattle.headline.specs.Work.{of_piece, needs_this, needs_piece, needed_pieces}
use Rattle.shares.specs.Counts.{PassesNeeded, with_lines, with_needs}
use Rattle.shares.specs.Has.{needed_before, AreFew, NeedsPieces, IsServed}
use Rattle.shares.specs.Layout.{needs_list}
use Rattle.shares.specs.Needed.{NeedIsInside, NeedsAreInside}
use Rattle.shares.specs.Shared.{NeedIsShared}

none_some : {A : Type 0} {x : A} → ◌≡◌ {A = Option A} None (Some x) → ⊥
none_some e = cc e

-- ---- members of the first lines

taken : (P : Need → Type 0) (k : ℕ) (ns : List Need) → AllByRecursion P ns → AllByRecursion P (take k ns)
taken P zero ns h = tt
taken P (suc k) [] h = tt
taken P (suc k) (n ∷ ns) h = (h.0, taken P k ns h.1)

pub all_taken : (P : Need → Type 0) (k : ℕ) (ns : List Need) → All P ns → All P (take k ns)
all_taken P k ns h = All-from_recursion P (take k ns) (taken P k ns (recursion_from_All P ns h))

-- a grid point that a first line names and that is no piece is one of all lines
pub pieces_taken : (p : Plan) (c : Certificate) (k n : ℕ) → NeedsPieces p c n → NeedsPieces p (with_needs c k) n
pieces_taken p c k n h = of (slice_get (pieces p) n) h
  where
    of : (o : Option Piece) → MatchOption o (Unit {0}) (λ j. NeedsAreInside p j c.needs) → MatchOption o (Unit {0}) (λ j. NeedsAreInside p j (take k c.needs))
    of None h = tt
    of (Some j) h = all_taken (NeedIsInside p j) k c.needs h

pub unserved_taken : (p : Plan) (c : Certificate) (k n : ℕ) → ¬ NeedsPieces p (with_needs c k) n → ¬ IsServed p c n
unserved_taken p c k n h served = h (pieces_taken p c k n served.pieces)

-- ---- counts

any_either : (f : Cell → Bool) (xs ys zs : List Cell) → (list_any f ys ≡ true → list_any f zs ≡ true) → list_any f (xs ++ ys) ≡ true → list_any f (xs ++ zs) ≡ true
any_either f [] ys zs h e = h e
any_either f (x ∷ xs) ys zs h e = of (f x) (any_either f xs ys zs h) e
  where
    of : (b : Bool) → (list_any f (xs ++ ys) ≡ true → list_any f (xs ++ zs) ≡ true) → (b || list_any f (xs ++ ys)) ≡ true → (b || list_any f (xs ++ zs)) ≡ true
    of true rest k = refl
    of false rest k = rest k

module _ (j : Piece) where
  abbrev line : Need → List Cell
  line n = if n.group == j.group then map (cell n.needed) (points (grid_symbols j.at) n.region) else []

  any_taken : (f : Cell → Bool) (k : ℕ) (ns : List Need) → list_any f (flat_map line (take k ns)) ≡ true → list_any f (flat_map line ns) ≡ true
  any_taken f zero ns e = absurd (false≢true e)
  any_taken f (suc k) [] e = absurd (false≢true e)
  any_taken f (suc k) (n ∷ ns) e = any_either f (line n) (flat_map line (take k ns)) (flat_map line ns) (any_taken f k ns) e

needed_more : (c : Certificate) (k : ℕ) (j : Piece) (o : Option Piece) → needs_this (with_needs c k) j o ≡ true → needs_this c j o ≡ true
needed_more c k j None e = e
needed_more c k j (Some x) e = any_taken j (λ y. (y.group == x.group) && same_point y.point (map pos x.at)) k c.needs e

fewer : (f g : ℕ → Bool) → ((i : ℕ) → f i ≡ true → g i ≡ true) → (xs : List ℕ) → length (filter f xs) ≤ length (filter g xs)
fewer f g h [] = omega arith
fewer f g h (x ∷ xs) = of (f x) (g x) (h x) (fewer f g h xs)
  where
    of : (a b : Bool) → (a ≡ true → b ≡ true) → length (filter f xs) ≤ length (filter g xs) → length (cond a (x ∷ filter f xs) (filter f xs)) ≤ length (cond b (x ∷ filter g xs) (filter g xs))
    of true true k rest = omega (arith, rest)
    of true false k rest = absurd (false≢true (k refl))
    of false true k rest = omega (arith, rest)
    of false false k rest = rest

list_less : (p : Plan) (c : Certificate) (k : ℕ) (o : Option Piece) → length (of_piece o [] (needed_pieces p (with_needs c k))) ≤ length (of_piece o [] (needed_pieces p c))
list_less p c k None = omega arith
list_less p c k (Some j) = fewer (λ i. needs_this (with_needs c k) j (slice_get (pieces p) i)) (λ i. needs_this c j (slice_get (pieces p) i)) (λ i. needed_more c k j (slice_get (pieces p) i)) (range_with_len 0 (length (pieces p)))

needed_less : (p : Plan) (c : Certificate) (k n : ℕ) → needed_before p (with_needs c k) n ≤ needed_before p c n
needed_less p c k zero = omega arith
needed_less p c k (suc n) =
    let before = needed_less p c k n in
    let here = list_less p c k (slice_get (pieces p) n) in
    omega (arith, before, here)

-- where the limit of needed pieces is passed there are not few
pub needed_past : (p : Plan) (c : Certificate) (i : ℕ) → PassesNeeded p c i → ¬ AreFew p c
needed_past p c i h few =
    let less = needed_less p c (i + 1) (length (pieces p)) in
    let past = h.passed in
    let fits = few.needed in
    omega (arith, less, past, fits)

-- ---- no lines

pub none_kept : (f : ℕ → Bool) → ((i : ℕ) → f i ≡ false) → (xs : List ℕ) → filter f xs ≡ []
none_kept f h [] = refl
none_kept f h (x ∷ xs) = rw (h x) (none_kept f h xs)

none_this : (c : Certificate) (j : Piece) (o : Option Piece) → needs_this (with_lines c []) j o ≡ false
none_this c j None = refl
none_this c j (Some x) = refl

no_list : (p : Plan) (c : Certificate) (o : Option Piece) → of_piece o [] (needed_pieces p (with_lines c [])) ≡ []
no_list p c None = refl
no_list p c (Some j) = none_kept (λ i. needs_this (with_lines c []) j (slice_get (pieces p) i)) (λ i. none_this c j (slice_get (pieces p) i)) (range_with_len 0 (length (pieces p)))

-- without need lines nothing is needed
pub needed_none : (p : Plan) (c : Certificate) (n : ℕ) → needed_before p (with_lines c []) n ≡ 0
needed_none p c zero = refl
needed_none p c (suc n) =
    let before = needed_none p c n in
    let here = ap length (no_list p c (slice_get (pieces p) n)) in
    omega (arith, before, here)
