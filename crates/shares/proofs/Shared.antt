-- The numbers of the points that a region shares with a box.
use Rattle.std.proofs.Common.{◌≡◌, ℕ, zero, suc, ◌+◌, ◌*◌, ◌<◌, ◌≤◌, List, [], ◌∷◌, ◌++◌, length, true, false, Bool, arith, ap, refl, sym, ◌∙◌, cond, length-append, min, ◌-◌, ◌^◌}
use Rattle.std.specs.Prelude.{ℤ, pos, negsuc, ◌+ℤ◌, ◌-ℤ◌, ◌≤ℤ◌, ◌<ℤ◌, ◌&&◌, flat_map, map, filter, int_le, IsTrue, All, ◌↔◌}
use Rattle.std.specs.List.{range_with_len, AllByRecursion, list_all}
use Rattle.std.specs.Int.{int_max, int_min}
use Rattle.std.proofs.lemmas.Bool.{false≢true}
use Rattle.std.proofs.lemmas.Int.{ints, clamps, by_lt_z}
use Rattle.std.proofs.lemmas.Bool.Decides.{nat_tests}
use Rattle.std.proofs.lemmas.List.Elements.{filter-append, recursion_from_All, All-from_recursion}
use Rattle.std.proofs.lemmas.List.{map-append}
use Rattle.std.proofs.Math.Nat.{mul-add, mul-one}
use Rattle.lin.specs.declared.span.Span1.{Span1}
use Rattle.plan.specs.Symbols.{Symbols, form_value, largest, smallest, clipped, rising, turns, points}
use Rattle.plan.specs.Certificate.Cells.{is_in_span, is_in_region}
use Rattle.soundness.proofs.Forms.{turn_lies}
use Rattle.soundness.proofs.Refines.{and_parts}
use Rattle.headline.specs.Numbers.{point_rank, HasEnds, HaveEnds}
use Rattle.headline.proofs.Regions.{at_in, turn_stands, largest_below, smallest_above, lies_test}
use Rattle.shares.specs.declared.boxes.Side.{Side}
use Rattle.shares.specs.Boxes.{side, sides, is_in_side, is_in_box, rank, point_count}
use Rattle.shares.specs.Walked.{common, shared_cells}
use Rattle.shares.proofs.Values.{clipped_none}
use Rattle.shares.proofs.Rows.{shared_few}
use lib.Dec.{eqb}

-- the test is true of the numbers from `low` on and below `end`
pub record Tests (P : ℤ → Bool) (low end : ℤ) : Type 0 where
  pub inside : (z : ℤ) → low ≤ℤ z → z <ℤ end → P z ≡ true
  pub below : (z : ℤ) → z <ℤ low → P z ≡ false
  pub above : (z : ℤ) → end ≤ℤ z → P z ≡ false

no_numbers : (z : ℤ) (n : ℕ) → 0 ≡ n → [] ≡ rising z n
no_numbers z n e = ap (rising z) e

clipped_suc : (z : ℤ) → pos 1 ≤ℤ z → clipped z ≡ suc (clipped (z -ℤ pos 1))
clipped_suc (pos zero) h = absurd (omega (arith, ints))
clipped_suc (pos (suc n)) h = ap suc (let e : pos n ≡ pos (suc n) -ℤ pos 1 = omega (arith, ints) in ap clipped e)
clipped_suc (negsuc n) h = absurd (omega (arith, ints))

same_run : (a b : ℤ) (x y : ℤ) → a ≡ b → x ≡ y → rising a (clipped x) ≡ rising b (clipped y)
same_run a b x y e f = ap (λ (z : ℤ). rising z (clipped x)) e ∙ ap (λ (z : ℤ). rising b (clipped z)) f

filter_yes : (P : ℤ → Bool) (z : ℤ) (zs : List ℤ) → P z ≡ true → filter P (z ∷ zs) ≡ z ∷ filter P zs
filter_yes P z zs e = rw e refl

filter_no : (P : ℤ → Bool) (z : ℤ) (zs : List ℤ) → P z ≡ false → filter P (z ∷ zs) ≡ filter P zs
filter_no P z zs e = rw e refl

pub filter_rising : (P : ℤ → Bool) (low end : ℤ) → Tests P low end → (a : ℤ) (n : ℕ) →
    filter P (rising a n) ≡ rising (int_max a low) (clipped (int_min (a +ℤ pos n) end -ℤ int_max a low))
filter_rising P low end t a zero = no_numbers (int_max a low) (clipped (int_min (a +ℤ pos 0) end -ℤ int_max a low)) (clipped_none (int_min (a +ℤ pos 0) end -ℤ int_max a low) (omega (arith, ints, clamps)))
filter_rising P low end t a (suc n) =
    let later = filter_rising P low end t (a +ℤ pos 1) n in
    by_lt_z a low
    (λ less. filter_no P a (rising (a +ℤ pos 1) n) (t.below a less) ∙ later
    ∙ same_run (int_max (a +ℤ pos 1) low) (int_max a low) (int_min (a +ℤ pos 1 +ℤ pos n) end -ℤ int_max (a +ℤ pos 1) low) (int_min (a +ℤ pos (suc n)) end -ℤ int_max a low) (omega (arith, ints, clamps)) (omega (arith, ints, clamps)))
    (λ from. by_lt_z a end
    (λ less. filter_yes P a (rising (a +ℤ pos 1) n) (t.inside a from less)
    ∙ (let z = int_min (a +ℤ pos (suc n)) end -ℤ int_max a low in
    ap (λ (zs : List ℤ). a ∷ zs) (later ∙ same_run (int_max (a +ℤ pos 1) low) (a +ℤ pos 1) (int_min (a +ℤ pos 1 +ℤ pos n) end -ℤ int_max (a +ℤ pos 1) low) (z -ℤ pos 1) (omega (arith, ints, clamps)) (omega (arith, ints, clamps)))
    ∙ ap (λ (m : ℕ). rising a m) (sym (clipped_suc z (omega (arith, ints, clamps))))
    ∙ ap (λ (b : ℤ). rising b (clipped z)) (let e : a ≡ int_max a low = omega (arith, ints, clamps) in e)))
    (λ past. filter_no P a (rising (a +ℤ pos 1) n) (t.above a past) ∙ later
    ∙ sym (no_numbers (int_max (a +ℤ pos 1) low) (clipped (int_min (a +ℤ pos 1 +ℤ pos n) end -ℤ int_max (a +ℤ pos 1) low)) (clipped_none (int_min (a +ℤ pos 1 +ℤ pos n) end -ℤ int_max (a +ℤ pos 1) low) (omega (arith, ints, clamps))))
    ∙ no_numbers (int_max a low) (clipped (int_min (a +ℤ pos (suc n)) end -ℤ int_max a low)) (clipped_none (int_min (a +ℤ pos (suc n)) end -ℤ int_max a low) (omega (arith, ints, clamps)))))

-- ---- points

row_kept : (b : Bool) (z : ℤ) (p ns : List ℤ) (rest : List (List ℤ)) → rest ≡ map (λ z. z ∷ p) ns → cond (b && true) ((z ∷ p) ∷ rest) rest ≡ map (λ z. z ∷ p) (cond b (z ∷ ns) ns)
row_kept true z p ns rest e = ap (λ (r : List (List ℤ)). (z ∷ p) ∷ r) e
row_kept false z p ns rest e = e

row_left : (b : Bool) (some rest : List (List ℤ)) → rest ≡ [] → cond (b && false) some rest ≡ []
row_left true some rest e = e
row_left false some rest e = e

points_kept : (b : Bool) (f : List ℤ → List (List ℤ)) (p : List ℤ) (ps rest : List (List ℤ)) (row : List (List ℤ)) → row ≡ cond b (f p) [] → rest ≡ flat_map f ps → row ++ rest ≡ flat_map f (cond b (p ∷ ps) ps)
points_kept true f p ps rest row e g = ap (λ (r : List (List ℤ)). r ++ rest) e ∙ ap (λ (r : List (List ℤ)). f p ++ r) g
points_kept false f p ps rest row e g = ap (λ (r : List (List ℤ)). r ++ rest) e ∙ g

filter_row : (x : Side) (xs : List Side) (p : List ℤ) (zs : List ℤ) (b : Bool) → is_in_box xs p ≡ b →
    filter (is_in_box (x ∷ xs)) (map (λ z. z ∷ p) zs) ≡ cond b (map (λ z. z ∷ p) (filter (is_in_side x) zs)) []
filter_row x xs p [] true e = refl
filter_row x xs p [] false e = refl
filter_row x xs p (z ∷ zs) true e = rw e (row_kept (is_in_side x z) z p (filter (is_in_side x) zs) _ (filter_row x xs p zs true e))
filter_row x xs p (z ∷ zs) false e = rw e (row_left (is_in_side x z) ((z ∷ p) ∷ filter (is_in_box (x ∷ xs)) (map (λ z. z ∷ p) zs)) _ (filter_row x xs p zs false e))

filter_points : (x : Side) (xs : List Side) (ps : List (List ℤ)) (zs : List ℤ) →
    filter (is_in_box (x ∷ xs)) (flat_map (λ p. map (λ z. z ∷ p) zs) ps) ≡ flat_map (λ p. map (λ z. z ∷ p) (filter (is_in_side x) zs)) (filter (is_in_box xs) ps)
filter_points x xs [] zs = refl
filter_points x xs (p ∷ ps) zs =
    filter-append (is_in_box (x ∷ xs)) (map (λ z. z ∷ p) zs) (flat_map (λ p. map (λ z. z ∷ p) zs) ps)
    ∙ points_kept (is_in_box xs p) (λ p. map (λ z. z ∷ p) (filter (is_in_side x) zs)) p (filter (is_in_box xs) ps) _ _ (filter_row x xs p zs (is_in_box xs p) refl) (filter_points x xs ps zs)

rank_row : (R : Side) (Rs : List Side) (p : List ℤ) (zs : List ℤ) → map (rank (R ∷ Rs)) (map (λ z. z ∷ p) zs) ≡ map (λ z. clipped (z -ℤ R.low) + R.count * rank Rs p) zs
rank_row R Rs p [] = refl
rank_row R Rs p (z ∷ zs) = ap (λ (ns : List ℕ). (clipped (z -ℤ R.low) + R.count * rank Rs p) ∷ ns) (rank_row R Rs p zs)

rank_points : (R : Side) (Rs : List Side) (ps : List (List ℤ)) (zs : List ℤ) →
    map (rank (R ∷ Rs)) (flat_map (λ p. map (λ z. z ∷ p) zs) ps) ≡ flat_map (λ m. map (λ z. clipped (z -ℤ R.low) + R.count * m) zs) (map (rank Rs) ps)
rank_points R Rs [] zs = refl
rank_points R Rs (p ∷ ps) zs = map-append (rank (R ∷ Rs)) (map (λ z. z ∷ p) zs) (flat_map (λ p. map (λ z. z ∷ p) zs) ps)
    ∙ ap (λ (ns : List ℕ). ns ++ map (rank (R ∷ Rs)) (flat_map (λ p. map (λ z. z ∷ p) zs) ps)) (rank_row R Rs p zs)
    ∙ ap (λ (ns : List ℕ). map (λ z. clipped (z -ℤ R.low) + R.count * rank Rs p) zs ++ ns) (rank_points R Rs ps zs)

clipped_next : (z : ℤ) → pos 0 ≤ℤ z → clipped (z +ℤ pos 1) ≡ clipped z + 1
clipped_next (pos n) h = refl
clipped_next (negsuc n) h = absurd (omega (arith, ints))

row_numbers : (low a : ℤ) (k n : ℕ) → low ≤ℤ a → map (λ z. clipped (z -ℤ low) + k) (rising a n) ≡ range_with_len (clipped (a -ℤ low) + k) n
row_numbers low a k zero h = refl
row_numbers low a k (suc n) h =
    let e : clipped (a +ℤ pos 1 -ℤ low) ≡ clipped (a -ℤ low) + 1 = ap clipped (let f : a +ℤ pos 1 -ℤ low ≡ a -ℤ low +ℤ pos 1 = omega (arith, ints) in f) ∙ clipped_next (a -ℤ low) (omega (arith, ints)) in
    ap (λ (ns : List ℕ). (clipped (a -ℤ low) + k) ∷ ns) (row_numbers low (a +ℤ pos 1) k n (omega (arith, ints)) ∙ ap (λ (m : ℕ). range_with_len m n) (let g : clipped (a +ℤ pos 1 -ℤ low) + k ≡ clipped (a -ℤ low) + k + 1 = omega (arith, e) in g))

rows_are : (low a : ℤ) (c n : ℕ) (ms : List ℕ) → low ≤ℤ a → flat_map (λ m. map (λ z. clipped (z -ℤ low) + c * m) (rising a n)) ms ≡ flat_map (λ m. range_with_len (clipped (a -ℤ low) + c * m) n) ms
rows_are low a c n [] h = refl
rows_are low a c n (m ∷ ms) h = ap (λ (ns : List ℕ). ns ++ flat_map (λ m. map (λ z. clipped (z -ℤ low) + c * m) (rising a n)) ms) (row_numbers low a (c * m) n h)
    ∙ ap (λ (ns : List ℕ). range_with_len (clipped (a -ℤ low) + c * m) n ++ ns) (rows_are low a c n ms h)

-- ---- sides

first_false : (x y : Bool) → x ≡ false → (x && y) ≡ false
first_false x y e = rw e refl

second_false : (x y : Bool) → y ≡ false → (x && y) ≡ false
second_false true y e = rw e refl
second_false false y e = refl

both_hold : (x y : Bool) → x ≡ true → y ≡ true → (x && y) ≡ true
both_hold x y e f = λ i. e i && f i

le_yes : (a z : ℤ) → a ≤ℤ z → int_le a z ≡ true
le_yes a z h = grind (arith, ints)

le_no : (a z : ℤ) → z <ℤ a → int_le a z ≡ false
le_no a z h = grind (arith, ints)

pub side_tests : (r : Side) → Tests (is_in_side r) r.low (r.low +ℤ pos r.count)
side_tests r = record {
  inside = λ z h k. both_hold (int_le r.low z) (int_le (z +ℤ pos 1) (r.low +ℤ pos r.count)) (le_yes r.low z h) (le_yes (z +ℤ pos 1) (r.low +ℤ pos r.count) (omega (arith, ints)));
  below = λ z h. first_false (int_le r.low z) (int_le (z +ℤ pos 1) (r.low +ℤ pos r.count)) (le_no r.low z h);
  above = λ z h. second_false (int_le r.low z) (int_le (z +ℤ pos 1) (r.low +ℤ pos r.count)) (le_no (z +ℤ pos 1) (r.low +ℤ pos r.count) (omega (arith, ints)));
}

pub length-rising : (z : ℤ) (n : ℕ) → length (rising z n) ≡ n
length-rising z zero = refl
length-rising z (suc n) = ap suc (length-rising (z +ℤ pos 1) n)

-- a region's points that lie in a box have these ranks there
pub shared_is : (s : Symbols) (own : List Span1) (R : List Side) → length own ≡ length R →
    shared_cells (sides s own) R ≡ map (rank R) (filter (is_in_box R) (points s own))
shared_is s [] [] e = refl
shared_is s [] (r ∷ rs) e = absurd (omega arith)
shared_is s (o ∷ os) [] e = absurd (omega arith)
shared_is s (o ∷ os) (r ∷ rs) e =
    let C = common (side s o) r in
    let ps = points s os in
    let later = shared_is s os rs (omega arith) in
    sym (
    ap (map (rank (r ∷ rs))) (filter_points r rs ps (turns s o))
    ∙ rank_points r rs (filter (is_in_box rs) ps) (filter (is_in_side r) (turns s o))
    ∙ ap (λ (zs : List ℤ). flat_map (λ m. map (λ z. clipped (z -ℤ r.low) + r.count * m) zs) (map (rank rs) (filter (is_in_box rs) ps))) (filter_rising (is_in_side r) r.low (r.low +ℤ pos r.count) (side_tests r) (side s o).low (side s o).count)
    ∙ rows_are r.low C.low r.count C.count (map (rank rs) (filter (is_in_box rs) ps)) (omega (arith, ints, clamps))
    ∙ ap (λ (ms : List ℕ). flat_map (λ m. range_with_len (clipped (C.low -ℤ r.low) + r.count * m) C.count) ms) (sym later))

-- ---- counts

mapped_length : {A B : Type 0} (f : A → B) (xs : List A) → length (map f xs) ≡ length xs
mapped_length f [] = refl
mapped_length f (x ∷ xs) = ap suc (mapped_length f xs)

product_length : (zs : List ℤ) (ps : List (List ℤ)) → length (flat_map (λ p. map (λ z. z ∷ p) zs) ps) ≡ length zs * length ps
product_length zs [] = omega arith
product_length zs (p ∷ ps) =
    let rest = product_length zs ps in
    let row : length (map (λ z. z ∷ p) zs) ≡ length zs = mapped_length (λ (z : ℤ). z ∷ p) zs in
    let both = length-append (map (λ z. z ∷ p) zs) (flat_map (λ p. map (λ z. z ∷ p) zs) ps) in
    let split : length zs * (length ps + 1) ≡ length zs * length ps + length zs = mul-add (length zs) (length ps) 1 ∙ ap (λ (x : ℕ). length zs * length ps + x) (mul-one (length zs)) in
    both ∙ (let e : length (map (λ z. z ∷ p) zs) + length (flat_map (λ p. map (λ z. z ∷ p) zs) ps) ≡ length zs * (length ps + 1) = omega arith in e)
    ∙ ap (λ (x : ℕ). length zs * x) (let one : length ps + 1 ≡ suc (length ps) = omega arith in one)

-- how many points a region has
pub points_counted : (s : Symbols) (xs : List Span1) → length (points s xs) ≡ point_count (sides s xs)
points_counted s [] = refl
points_counted s (x ∷ xs) =
    product_length (turns s x) (points s xs)
    ∙ ap (λ (n : ℕ). n * length (points s xs)) (length-rising (largest s x.lower) (side s x).count)
    ∙ ap (λ (n : ℕ). (side s x).count * n) (points_counted s xs)

short_step : (b : Bool) (x : List ℤ) (ys xs : List (List ℤ)) → length ys ≤ length xs → length (cond b (x ∷ ys) ys) ≤ suc (length xs)
short_step true x ys xs h = omega arith
short_step false x ys xs h = omega arith

filter_short : (f : List ℤ → Bool) (xs : List (List ℤ)) → length (filter f xs) ≤ length xs
filter_short f [] = omega arith
filter_short f (x ∷ xs) = short_step (f x) x (filter f xs) xs (filter_short f xs)

kept_step : (b : Bool) (x : List ℤ) (ys xs : List (List ℤ)) → length ys ≤ length xs → length (cond b (x ∷ ys) ys) ≡ suc (length xs) → IsTrue b × (length ys ≡ length xs)
kept_step true x ys xs h e = (refl, omega arith)
kept_step false x ys xs h e = absurd (omega arith)

kept_all : (f : List ℤ → Bool) (xs : List (List ℤ)) → length (filter f xs) ≡ length xs → AllByRecursion (λ x. IsTrue (f x)) xs
kept_all f [] e = tt
kept_all f (x ∷ xs) e = let step = kept_step (f x) x (filter f xs) xs (filter_short f xs) e in (step.0, kept_all f xs step.1)

all_step : (b : Bool) (x : List ℤ) (ys xs : List (List ℤ)) → IsTrue b → length ys ≡ length xs → length (cond b (x ∷ ys) ys) ≡ suc (length xs)
all_step true x ys xs h e = ap suc e
all_step false x ys xs h e = absurd (false≢true h)

all_kept : (f : List ℤ → Bool) (xs : List (List ℤ)) → AllByRecursion (λ x. IsTrue (f x)) xs → length (filter f xs) ≡ length xs
all_kept f [] h = refl
all_kept f (x ∷ xs) h = all_step (f x) x (filter f xs) xs h.0 (all_kept f xs h.1)

pub all_filtered : (f : List ℤ → Bool) (xs : List (List ℤ)) → AllByRecursion (λ x. IsTrue (f x)) xs → filter f xs ≡ xs
all_filtered f [] h = refl
all_filtered f (x ∷ xs) h = filtered (f x) x (filter f xs) xs h.0 (all_filtered f xs h.1)
  where
    filtered : (b : Bool) (x : List ℤ) (ys xs : List (List ℤ)) → IsTrue b → ys ≡ xs → cond b (x ∷ ys) ys ≡ x ∷ xs
    filtered true x ys xs h e = ap (λ (zs : List (List ℤ)). x ∷ zs) e
    filtered false x ys xs h e = absurd (false≢true h)

pub shared_length : (s : Symbols) (own : List Span1) (R : List Side) → length own ≡ length R → length (shared_cells (sides s own) R) ≡ length (filter (is_in_box R) (points s own))
shared_length s own R e = ap length (shared_is s own R e) ∙ mapped_length (rank R) (filter (is_in_box R) (points s own))

pub whole_from : (s : Symbols) (own : List Span1) (R : List Side) → length own ≡ length R → length (shared_cells (sides s own) R) ≡ point_count (sides s own) → AllByRecursion (λ q. IsTrue (is_in_box R q)) (points s own)
whole_from s own R e k = kept_all (is_in_box R) (points s own) (sym (shared_length s own R e) ∙ k ∙ sym (points_counted s own))

pub whole_to : (s : Symbols) (own : List Span1) (R : List Side) → length own ≡ length R → AllByRecursion (λ q. IsTrue (is_in_box R q)) (points s own) → length (shared_cells (sides s own) R) ≡ point_count (sides s own)
whole_to s own R e h = shared_length s own R e ∙ all_kept (is_in_box R) (points s own) h ∙ points_counted s own

-- ---- spans with ends

not_true : (b : Bool) → (b ≡ true → ⊥) → b ≡ false
not_true true h = absurd (h refl)
not_true false h = refl

clipped_up : (z : ℤ) → z ≤ℤ pos (clipped z)
clipped_up (pos n) = omega (arith, ints)
clipped_up (negsuc n) = omega (arith, ints)

below_end : (g z : ℤ) → pos 0 ≤ℤ z → z <ℤ pos (clipped g) → z <ℤ g
below_end (pos n) z a b = b
below_end (negsuc n) z a b = absurd (omega (arith, ints))

tests_of : (s : Symbols) (x : Span1) → HasEnds x → Tests (is_in_span s x) (largest s x.lower) (largest s x.lower +ℤ pos (clipped ((smallest s x.upper +ℤ pos 1) -ℤ largest s x.lower)))
tests_of s x ends =
    let a = largest s x.lower in let b = smallest s x.upper in let g = (b +ℤ pos 1) -ℤ a in
    let up : g ≤ℤ pos (clipped g) = clipped_up g in
    record {
      inside = λ z h k.
          let m : (z -ℤ a) <ℤ g = below_end g (z -ℤ a) (omega (arith, ints)) (omega (arith, ints)) in
          let n : z ≤ℤ b = omega (arith, ints) in
          lies_test s x z (turn_lies s x z (at_in (turns s x) (clipped (z -ℤ a)) z (turn_stands s x z h n)));
      below = λ z h. not_true (is_in_span s x z) (λ e.
          let low : a ≤ℤ z = largest_below s z x.lower ends.lower (and_parts (list_all (λ l. int_le (form_value l s) z) x.lower) (list_all (λ u. int_le z (form_value u s)) x.upper) e).0 in
          omega (arith, ints));
      above = λ z h. not_true (is_in_span s x z) (λ e.
          let high : z ≤ℤ b = smallest_above s z x.upper ends.upper (and_parts (list_all (λ l. int_le (form_value l s) z) x.lower) (list_all (λ u. int_le z (form_value u s)) x.upper) e).1 in
          omega (arith, ints));
    }

same_tests : (P Q : ℤ → Bool) (low end : ℤ) → Tests P low end → Tests Q low end → (z : ℤ) → P z ≡ Q z
same_tests P Q low end p q z =
    by_lt_z z low (λ less. p.below z less ∙ sym (q.below z less))
    (λ from. by_lt_z z end (λ less. p.inside z from less ∙ sym (q.inside z from less)) (λ past. p.above z past ∙ sym (q.above z past)))

span_test : (s : Symbols) (x : Span1) (z : ℤ) → HasEnds x → is_in_side (side s x) z ≡ is_in_span s x z
span_test s x z ends =
    same_tests (is_in_side (side s x)) (is_in_span s x) (largest s x.lower) (largest s x.lower +ℤ pos (clipped ((smallest s x.upper +ℤ pos 1) -ℤ largest s x.lower))) (side_tests (side s x)) (tests_of s x ends) z

-- a region with ends is its box
pub box_is : (s : Symbols) (xs : List Span1) (p : List ℤ) → HaveEnds xs → is_in_box (sides s xs) p ≡ is_in_region s xs p
box_is s [] [] h = refl
box_is s [] (z ∷ zs) h = refl
box_is s (x ∷ xs) [] h = refl
box_is s (x ∷ xs) (z ∷ zs) h = λ i. span_test s x z h.0 i && box_is s xs zs h.1 i

pub rank_is : (s : Symbols) (xs : List Span1) (p : List ℤ) → rank (sides s xs) p ≡ point_rank s xs p
rank_is s [] p = refl
rank_is s (x ∷ xs) [] = refl
rank_is s (x ∷ xs) (z ∷ zs) =
    ap (λ (n : ℕ). clipped (z -ℤ largest s x.lower) + (side s x).count * n) (rank_is s xs zs)
    ∙ ap (λ (n : ℕ). clipped (z -ℤ largest s x.lower) + n * point_rank s xs zs) (sym (length-rising (largest s x.lower) (side s x).count))

pub raised_ranks : (first : ℕ) (R : List Side) (qs : List (List ℤ)) → map (λ n. first + n) (map (rank R) qs) ≡ map (λ q. first + rank R q) qs
raised_ranks first R [] = refl
raised_ranks first R (q ∷ qs) = ap (λ (ns : List ℕ). (first + rank R q) ∷ ns) (raised_ranks first R qs)

-- numbers raised by none
pub raised_by_none : (first : ℕ) (xs : List ℕ) → first ≡ 0 → xs ≡ map (λ n. first + n) xs
raised_by_none first [] e = refl
raised_by_none first (x ∷ xs) e =
    let head : x ≡ first + x = omega (arith, e) in
    let rest = raised_by_none first xs e in λ i. head i ∷ rest i

pub whole_test : (s : Symbols) (own : List Span1) (R : List Side) (len most : ℕ) → length own ≡ length R → point_count R ≤ 2 ^ 24 → len ≡ length (shared_cells (sides s own) R) → most ≡ min (point_count (sides s own)) (2 ^ 64 - 1) →
    IsTrue (eqb len most) ↔ All (λ q. IsTrue (is_in_box R q)) (points s own)
whole_test s own R len most e few l m =
    let short : length (shared_cells (sides s own) R) ≤ point_count R = shared_few (sides s own) R in (
      (λ yes. let same : len ≡ most = grind (arith, nat_tests) in
          All-from_recursion (λ (q : List ℤ). IsTrue (is_in_box R q)) (points s own) (whole_from s own R e (let k : length (shared_cells (sides s own) R) ≡ point_count (sides s own) = omega (arith, same, few, l, m, short) in k))),
      (λ all. let k = whole_to s own R e (recursion_from_All (λ (q : List ℤ). IsTrue (is_in_box R q)) (points s own) all) in
          let same : len ≡ most = omega (arith, k, few, l, m, short) in grind (arith, nat_tests)),
    )

below_each : (first count : ℕ) (xs : List ℕ) → AllByRecursion (λ n. n < count) xs → AllByRecursion (λ n. n < first + count) (map (λ n. first + n) xs)
below_each first count [] h = tt
below_each first count (x ∷ xs) h = ((let less = h.0 in omega (arith, less)), below_each first count xs h.1)

pub raised_below : (first count : ℕ) (xs : List ℕ) → All (λ n. n < count) xs → All (λ n. n < first + count) (map (λ n. first + n) xs)
raised_below first count xs h = All-from_recursion (λ n. n < first + count) (map (λ n. first + n) xs) (below_each first count xs (recursion_from_All (λ n. n < count) xs h))
