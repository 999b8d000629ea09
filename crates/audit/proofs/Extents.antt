-- When the points of the output's extents are points of a region with constant ends.
use Rattle.std.proofs.Common.{◌≡◌, ℕ, zero, suc, ◌-◌, ◌<◌, ◌≤◌, List, [], ◌∷◌, length, get_or, true, Bool, arith, ap, refl, sym, subst}
use Rattle.std.specs.Prelude.{ℤ, pos, negsuc, ◌+ℤ◌, ◌≤ℤ◌, ◌&&◌, All, fold, map, int_le, nat_lt}
use Rattle.std.specs.Int.{int_max, int_min}
use Rattle.std.specs.List.{AllByRecursion, list_all}
use Rattle.std.proofs.lemmas.Bool.Decides.{nat_tests}
use Rattle.std.proofs.lemmas.Int.{ints, clamps}
use Rattle.std.proofs.lemmas.List.Elements.{All-from_recursion, recursion_from_All}
use Rattle.lin.specs.Forms.{Form}
use Rattle.lin.specs.declared.span.Span1.{Span1}
use Rattle.meaning.specs.Image.Raster.{is_within}
use Rattle.meaning.specs.Image.View.{AreExtents}
use Rattle.plan.specs.Symbols.{form_value, largest, smallest}
use Rattle.plan.specs.Certificate.Cells.{no_symbols, is_in_span, is_in_region}
use Rattle.soundness.proofs.Refines.{and_parts}
use Rattle.headline.specs.Numbers.{HasEnds, HaveEnds}
use Rattle.checked_plan.specs.Ready.Ready.{high_end, low_end, IsSmallSpan}
use Rattle.audit.specs.Stand.{HasExtent}

-- ---- the ends of a span

is_le : (x y : ℤ) → x ≤ℤ y → int_le x y ≡ true
is_le x y h = grind (arith, nat_tests, ints)

le_is : (x y : ℤ) → int_le x y ≡ true → x ≤ℤ y
le_is x y e = grind (arith, nat_tests, ints)

-- what is at least the largest of some numbers is at least each of them
each_below : (f : Form → ℤ) (m z : ℤ) (ls : List Form) → fold int_max m (map f ls) ≤ℤ z → (m ≤ℤ z) × (list_all (λ l. int_le (f l) z) ls ≡ true)
each_below f m z [] h = (h, refl)
each_below f m z (l ∷ ls) h =
    let k = each_below f (int_max m (f l)) z ls h in
    let top = k.0 in
    let own : f l ≤ℤ z = omega (arith, ints, clamps, top) in
    (omega (arith, ints, clamps, top), λ i. is_le (f l) z own i && k.1 i)

below_each : (f : Form → ℤ) (m z : ℤ) (ls : List Form) → m ≤ℤ z → list_all (λ l. int_le (f l) z) ls ≡ true → fold int_max m (map f ls) ≤ℤ z
below_each f m z [] h e = h
below_each f m z (l ∷ ls) h e =
    let k = and_parts (int_le (f l) z) (list_all (λ x. int_le (f x) z) ls) e in
    let own = le_is (f l) z k.0 in
    below_each f (int_max m (f l)) z ls (omega (arith, ints, clamps, h, own)) k.1

each_above : (f : Form → ℤ) (m z : ℤ) (ls : List Form) → z ≤ℤ fold int_min m (map f ls) → (z ≤ℤ m) × (list_all (λ l. int_le z (f l)) ls ≡ true)
each_above f m z [] h = (h, refl)
each_above f m z (l ∷ ls) h =
    let k = each_above f (int_min m (f l)) z ls h in
    let top = k.0 in
    let own : z ≤ℤ f l = omega (arith, ints, clamps, top) in
    (omega (arith, ints, clamps, top), λ i. is_le z (f l) own i && k.1 i)

above_each : (f : Form → ℤ) (m z : ℤ) (ls : List Form) → z ≤ℤ m → list_all (λ l. int_le z (f l)) ls ≡ true → z ≤ℤ fold int_min m (map f ls)
above_each f m z [] h e = h
above_each f m z (l ∷ ls) h e =
    let k = and_parts (int_le z (f l)) (list_all (λ x. int_le z (f x)) ls) e in
    let own = le_is z (f l) k.0 in
    above_each f (int_min m (f l)) z ls (omega (arith, ints, clamps, h, own)) k.1

lower_has : (ls : List Form) (z : ℤ) → 1 ≤ length ls → largest no_symbols ls ≤ℤ z → list_all (λ l. int_le (form_value l no_symbols) z) ls ≡ true
lower_has [] z some h = refl
lower_has (l ∷ ls) z some h =
    let k = each_below (λ m. form_value m no_symbols) (form_value l no_symbols) z ls h in
    λ i. is_le (form_value l no_symbols) z k.0 i && k.1 i

has_lower : (ls : List Form) (z : ℤ) → 1 ≤ length ls → list_all (λ l. int_le (form_value l no_symbols) z) ls ≡ true → largest no_symbols ls ≤ℤ z
has_lower [] z some e = absurd (omega (arith, some))
has_lower (l ∷ ls) z some e =
    let k = and_parts (int_le (form_value l no_symbols) z) (list_all (λ m. int_le (form_value m no_symbols) z) ls) e in
    below_each (λ m. form_value m no_symbols) (form_value l no_symbols) z ls (le_is (form_value l no_symbols) z k.0) k.1

upper_has : (ls : List Form) (z : ℤ) → 1 ≤ length ls → z ≤ℤ smallest no_symbols ls → list_all (λ l. int_le z (form_value l no_symbols)) ls ≡ true
upper_has [] z some h = refl
upper_has (l ∷ ls) z some h =
    let k = each_above (λ m. form_value m no_symbols) (form_value l no_symbols) z ls h in
    λ i. is_le z (form_value l no_symbols) k.0 i && k.1 i

has_upper : (ls : List Form) (z : ℤ) → 1 ≤ length ls → list_all (λ l. int_le z (form_value l no_symbols)) ls ≡ true → z ≤ℤ smallest no_symbols ls
has_upper [] z some e = absurd (omega (arith, some))
has_upper (l ∷ ls) z some e =
    let k = and_parts (int_le z (form_value l no_symbols)) (list_all (λ m. int_le z (form_value m no_symbols)) ls) e in
    above_each (λ m. form_value m no_symbols) (form_value l no_symbols) z ls (le_is z (form_value l no_symbols) k.0) k.1

-- a number between the constants is one of the span, and the other way round
span_has : (x : Span1) (z : ℤ) → HasEnds x → IsSmallSpan x → low_end x ≤ℤ z → z ≤ℤ high_end x → is_in_span no_symbols x z ≡ true
span_has x z ends small low high =
    let a = lower_has x.lower z ends.lower low in
    let b = upper_has x.upper z ends.upper high in
    λ i. a i && b i

has_span : (x : Span1) (z : ℤ) → HasEnds x → IsSmallSpan x → is_in_span no_symbols x z ≡ true → (low_end x ≤ℤ z) × (z ≤ℤ high_end x)
has_span x z ends small e =
    let k = and_parts (list_all (λ l. int_le (form_value l no_symbols) z) x.lower) (list_all (λ u. int_le z (form_value u no_symbols)) x.upper) e in
    (has_lower x.lower z ends.lower k.0, has_upper x.upper z ends.upper k.1)

-- ---- coordinate by coordinate

abbrev pub HaveExtents : List ℕ → List Span1 → Type 0
HaveExtents [] [] = Unit {0}
HaveExtents (n ∷ ns) (x ∷ xs) = HasExtent n x × HaveExtents ns xs
HaveExtents _ _ = ⊥

pub extents_from : (ns : List ℕ) (xs : List Span1) → length xs ≡ length ns → ((k : ℕ) (d : Span1) → k < length ns → HasExtent (get_or ns k 0) (get_or xs k d)) → HaveExtents ns xs
extents_from [] [] e h = tt
extents_from [] (x ∷ xs) e h = absurd (omega (arith, e))
extents_from (n ∷ ns) [] e h = absurd (omega (arith, e))
extents_from (n ∷ ns) (x ∷ xs) e h = (h 0 x (omega arith), extents_from ns xs (omega (arith, e)) (λ k d less. h (suc k) d (omega (arith, less))))

pub extent_at : (ns : List ℕ) (xs : List Span1) (k : ℕ) (d : Span1) → HaveExtents ns xs → k < length ns → HasExtent (get_or ns k 0) (get_or xs k d)
extent_at [] xs k d h less = absurd (omega (arith, less))
extent_at (n ∷ ns) [] k d h less = absurd h
extent_at (n ∷ ns) (x ∷ xs) zero d h less = h.0
extent_at (n ∷ ns) (x ∷ xs) (suc k) d h less = extent_at ns xs k d h.1 (omega (arith, less))

pub extents_long : (ns : List ℕ) (xs : List Span1) → HaveExtents ns xs → length xs ≡ length ns
extents_long [] [] h = refl
extents_long [] (x ∷ xs) h = absurd h
extents_long (n ∷ ns) [] h = absurd h
extents_long (n ∷ ns) (x ∷ xs) h = ap suc (extents_long ns xs h.1)

-- ---- all points

pub all_inside : (ns : List ℕ) (xs : List Span1) → HaveEnds xs → AllByRecursion IsSmallSpan xs → HaveExtents ns xs → (p : List ℤ) → is_within ns p ≡ true → is_in_region no_symbols xs p ≡ true
all_inside [] [] ends small h [] w = refl
all_inside [] [] ends small h (z ∷ zs) w = absurd (cc w)
all_inside [] (x ∷ xs) ends small h p w = absurd h
all_inside (n ∷ ns) [] ends small h p w = absurd h
all_inside (n ∷ ns) (x ∷ xs) ends small h [] w = absurd (cc w)
all_inside (n ∷ ns) (x ∷ xs) ends small h (negsuc z ∷ zs) w = absurd (cc w)
all_inside (n ∷ ns) (x ∷ xs) ends small h (pos z ∷ zs) w =
    let k = and_parts (nat_lt z n) (is_within ns zs) w in
    let yes = k.0 in
    let less : z < n = grind (arith, nat_tests) in
    let low = h.0.0 in
    let high = h.0.1 in
    let a = span_has x (pos z) ends.0 small.0 (omega (arith, ints, low)) (omega (arith, ints, high, less)) in
    let rest = all_inside ns xs ends.1 small.1 h.1 zs k.1 in
    λ i. a i && rest i

-- ---- two corners

abbrev first_corner : List ℕ → List ℤ
first_corner ns = map (λ n. pos 0) ns

abbrev last_corner : List ℕ → List ℤ
last_corner ns = map (λ n. pos (n - 1)) ns

both_true : (b c : Bool) → b ≡ true → c ≡ true → (b && c) ≡ true
both_true b c e f = λ i. e i && f i

first_within : (ns : List ℕ) → AllByRecursion (λ n. 1 ≤ n) ns → is_within ns (first_corner ns) ≡ true
first_within [] h = refl
first_within (n ∷ ns) h =
    let some : 1 ≤ n = h.0 in
    let a : nat_lt 0 n ≡ true = grind (arith, nat_tests) in
    both_true (nat_lt 0 n) (is_within ns (first_corner ns)) a (first_within ns h.1)

last_within : (ns : List ℕ) → AllByRecursion (λ n. 1 ≤ n) ns → is_within ns (last_corner ns) ≡ true
last_within [] h = refl
last_within (n ∷ ns) h =
    let some : 1 ≤ n = h.0 in
    let less : n - 1 < n = omega (arith, some) in
    let a : nat_lt (n - 1) n ≡ true = grind (arith, nat_tests) in
    both_true (nat_lt (n - 1) n) (is_within ns (last_corner ns)) a (last_within ns h.1)

high_from : (n : ℕ) (high : ℤ) → 1 ≤ n → pos (n - 1) ≤ℤ high → pos n ≤ℤ (high +ℤ pos 1)
high_from n high some h = omega (arith, ints, some, h)

corners : (ns : List ℕ) (xs : List Span1) → HaveEnds xs → AllByRecursion IsSmallSpan xs → AllByRecursion (λ n. 1 ≤ n) ns
    → is_in_region no_symbols xs (first_corner ns) ≡ true → is_in_region no_symbols xs (last_corner ns) ≡ true → HaveExtents ns xs
corners [] [] ends small some e f = tt
corners [] (x ∷ xs) ends small some e f = absurd (cc e)
corners (n ∷ ns) [] ends small some e f = absurd (cc e)
corners (n ∷ ns) (x ∷ xs) ends small some e f =
    let first = and_parts (is_in_span no_symbols x (pos 0)) (is_in_region no_symbols xs (first_corner ns)) e in
    let last = and_parts (is_in_span no_symbols x (pos (n - 1))) (is_in_region no_symbols xs (last_corner ns)) f in
    let a = has_span x (pos 0) ends.0 small.0 first.0 in
    let b = has_span x (pos (n - 1)) ends.0 small.0 last.0 in
    ((a.0, high_from n (high_end x) some.0 b.1), corners ns xs ends.1 small.1 some.1 first.1 last.1)

pub extents_needed : (ns : List ℕ) (xs : List Span1) → HaveEnds xs → AllByRecursion IsSmallSpan xs → All (λ n. 1 ≤ n) ns
    → ((p : List ℤ) → is_within ns p ≡ true → is_in_region no_symbols xs p ≡ true) → HaveExtents ns xs
extents_needed ns xs ends small all h =
    let some = recursion_from_All (λ (n : ℕ). 1 ≤ n) ns all in
    corners ns xs ends small some (h (first_corner ns) (first_within ns some)) (h (last_corner ns) (last_within ns some))

-- ---- what a well-formed algorithm says

-- extents are from 1 up
pub each_positive : (es : List ℕ) → AreExtents es → All (λ n. 1 ≤ n) es
each_positive (w ∷ []) h = All-from_recursion (λ n. 1 ≤ n) (w ∷ []) (h.0, tt)
each_positive (w ∷ h ∷ []) x = All-from_recursion (λ n. 1 ≤ n) (w ∷ h ∷ []) (x.0.0, (x.1.0, tt))
each_positive (w ∷ h ∷ c ∷ []) x = let three = x.2 in All-from_recursion (λ n. 1 ≤ n) (w ∷ h ∷ c ∷ []) (x.0.0, (x.1.0, (omega (arith, three), tt)))
each_positive [] x = absurd x
each_positive (w ∷ h ∷ c ∷ d ∷ es) x = absurd x
