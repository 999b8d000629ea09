-- The rank of a point of a region is its place among the region's points.
use Rattle.std.proofs.Common.{◌≡◌, ℕ, zero, suc, ◌+◌, ◌*◌, ◌<◌, ◌≤◌, Bool, true, false, List, [], ◌∷◌, length, map, Some, refl, sym, ap, ◌∙◌, subst, inl, inr, arith}
use Rattle.std.specs.Prelude.{ℤ, pos, negsuc, ◌+ℤ◌, ◌-ℤ◌, ◌≤ℤ◌, int_le, int_lt, slice_get, fold, if◌then◌else◌}
use Rattle.std.specs.Int.{int_max, int_min}
use Rattle.std.specs.List.{AllByRecursion, list_all}
use Rattle.std.proofs.lemmas.Int.{ints}
use Rattle.lin.specs.Forms.{Form}
use Rattle.lin.specs.declared.span.Span1.{Span1}
use Rattle.plan.specs.Symbols.{Symbols, form_value, rising, clipped, turns, points, largest, smallest}
use Rattle.plan.specs.Certificate.Cells.{is_in_span, is_in_region}
use Rattle.soundness.specs.Claims.{In}
use Rattle.soundness.specs.Obligations.{Lies}
use Rattle.soundness.proofs.Refines.{and_parts}
use Rattle.soundness.proofs.Forms.{turn_lies}
use Rattle.headline.specs.Numbers.{point_rank, HaveEnds}
use Rattle.headline.proofs.Lists.{at_rows, in_rows}

pub at_in : {A : Type 0} (xs : List A) (n : ℕ) (x : A) → slice_get xs n ≡ Some x → In x xs
at_in [] n x e = absurd (cc)
at_in (y ∷ xs) zero x e = inl (cc)
at_in (y ∷ xs) (suc n) x e = inr (at_in xs n x e)

-- ---- the numbers of a span

rising_at : (n : ℕ) (low : ℤ) (i : ℕ) → i < n → slice_get (rising low n) i ≡ Some (low +ℤ pos i)
rising_at zero low i h = absurd (omega arith)
rising_at (suc n) low zero h = let e : low ≡ low +ℤ pos 0 = omega (arith, ints) in ap Some e
rising_at (suc n) low (suc i) h =
    let e : (low +ℤ pos 1) +ℤ pos i ≡ low +ℤ pos (suc i) = omega (arith, ints) in
    rising_at n (low +ℤ pos 1) i (omega arith) ∙ ap Some e

rising_is : (n : ℕ) (low : ℤ) (i : ℕ) (z : ℤ) → slice_get (rising low n) i ≡ Some z → z ≡ low +ℤ pos i
rising_is zero low i z e = absurd (cc)
rising_is (suc n) low zero z e = let same : low ≡ z = cc in omega (arith, ints)
rising_is (suc n) low (suc i) z e = let same = rising_is n (low +ℤ pos 1) i z e in omega (arith, ints)

clipped_is : (w : ℤ) → pos 0 ≤ℤ w → w ≡ pos (clipped w)
clipped_is (pos n) h = refl
clipped_is (negsuc n) h = absurd (omega (arith, ints))

clipped_of : (i : ℕ) (low z : ℤ) → z ≡ low +ℤ pos i → clipped (z -ℤ low) ≡ i
clipped_of i low z e = let k : z -ℤ low ≡ pos i = omega (arith, ints) in ap clipped k

pub turn_stands : (s : Symbols) (x : Span1) (z : ℤ) → largest s x.lower ≤ℤ z → z ≤ℤ smallest s x.upper → slice_get (turns s x) (clipped (z -ℤ largest s x.lower)) ≡ Some z
turn_stands s x z h k =
    let low = largest s x.lower in
    let width = (smallest s x.upper +ℤ pos 1) -ℤ low in
    let i = clipped (z -ℤ low) in
    let n = clipped width in
    let a : z -ℤ low ≡ pos i = clipped_is (z -ℤ low) (omega (arith, ints)) in
    let b : width ≡ pos n = clipped_is width (omega (arith, ints)) in
    let e : low +ℤ pos i ≡ z = omega (arith, ints) in
    rising_at n low i (omega (arith, ints)) ∙ ap Some e

turn_number : (s : Symbols) (x : Span1) (i : ℕ) (z : ℤ) → slice_get (turns s x) i ≡ Some z → clipped (z -ℤ largest s x.lower) ≡ i
turn_number s x i z e = clipped_of i (largest s x.lower) z (rising_is (clipped ((smallest s x.upper +ℤ pos 1) -ℤ largest s x.lower)) (largest s x.lower) i z e)

-- ---- the ends of a span

le_is : (y z : ℤ) → int_le y z ≡ true → y ≤ℤ z
le_is y z h = grind (arith, ints)

is_le : (y z : ℤ) → y ≤ℤ z → int_le y z ≡ true
is_le y z h = grind (arith, ints)

most : (y z w : ℤ) → y ≤ℤ w → z ≤ℤ w → int_max y z ≤ℤ w
most y z w h k = elim (int_lt z y) as (λ (b : Bool). (if b then y else z) ≤ℤ w) [ true ↦ h | false ↦ k ]

least : (y z w : ℤ) → w ≤ℤ y → w ≤ℤ z → w ≤ℤ int_min y z
least y z w h k = elim (int_lt z y) as (λ (b : Bool). w ≤ℤ (if b then z else y)) [ true ↦ k | false ↦ h ]

below_all : (s : Symbols) (z : ℤ) (v : ℤ) (ls : List Form) → v ≤ℤ z → list_all (λ l. int_le (form_value l s) z) ls ≡ true → fold int_max v (map (λ m. form_value m s) ls) ≤ℤ z
below_all s z v [] h k = h
below_all s z v (l ∷ ls) h k =
    let parts = and_parts (int_le (form_value l s) z) (list_all (λ l. int_le (form_value l s) z) ls) k in
    below_all s z (int_max v (form_value l s)) ls (most v (form_value l s) z h (le_is (form_value l s) z parts.0)) parts.1

above_all : (s : Symbols) (z : ℤ) (v : ℤ) (us : List Form) → z ≤ℤ v → list_all (λ u. int_le z (form_value u s)) us ≡ true → z ≤ℤ fold int_min v (map (λ m. form_value m s) us)
above_all s z v [] h k = h
above_all s z v (u ∷ us) h k =
    let parts = and_parts (int_le z (form_value u s)) (list_all (λ u. int_le z (form_value u s)) us) k in
    above_all s z (int_min v (form_value u s)) us (least v (form_value u s) z h (le_is z (form_value u s) parts.0)) parts.1

pub largest_below : (s : Symbols) (z : ℤ) (ls : List Form) → 1 ≤ length ls → list_all (λ l. int_le (form_value l s) z) ls ≡ true → largest s ls ≤ℤ z
largest_below s z [] some k = absurd (omega arith)
largest_below s z (l ∷ ls) some k =
    let parts = and_parts (int_le (form_value l s) z) (list_all (λ l. int_le (form_value l s) z) ls) k in
    below_all s z (form_value l s) ls (le_is (form_value l s) z parts.0) parts.1

pub smallest_above : (s : Symbols) (z : ℤ) (us : List Form) → 1 ≤ length us → list_all (λ u. int_le z (form_value u s)) us ≡ true → z ≤ℤ smallest s us
smallest_above s z [] some k = absurd (omega arith)
smallest_above s z (u ∷ us) some k =
    let parts = and_parts (int_le z (form_value u s)) (list_all (λ u. int_le z (form_value u s)) us) k in
    above_all s z (form_value u s) us (le_is z (form_value u s) parts.0) parts.1

all_lower : (s : Symbols) (z : ℤ) (ls : List Form) → AllByRecursion (λ l. form_value l s ≤ℤ z) ls → list_all (λ l. int_le (form_value l s) z) ls ≡ true
all_lower s z [] h = refl
all_lower s z (l ∷ ls) h = rw (is_le (form_value l s) z h.0) (all_lower s z ls h.1)

all_upper : (s : Symbols) (z : ℤ) (us : List Form) → AllByRecursion (λ u. z ≤ℤ form_value u s) us → list_all (λ u. int_le z (form_value u s)) us ≡ true
all_upper s z [] h = refl
all_upper s z (u ∷ us) h = rw (is_le z (form_value u s) h.0) (all_upper s z us h.1)

pub lies_test : (s : Symbols) (x : Span1) (z : ℤ) → Lies s x z → is_in_span s x z ≡ true
lies_test s x z h = rw (all_lower s z x.lower h.0) (all_upper s z x.upper h.1)

-- ---- the points of a region

pub point_stands : (s : Symbols) (xs : List Span1) (q : List ℤ) → HaveEnds xs → is_in_region s xs q ≡ true → slice_get (points s xs) (point_rank s xs q) ≡ Some q
point_stands s [] [] ends h = refl
point_stands s [] (z ∷ zs) ends h = absurd (cc)
point_stands s (x ∷ xs) [] ends h = absurd (cc)
point_stands s (x ∷ xs) (z ∷ zs) ends h =
    let parts = and_parts (is_in_span s x z) (is_in_region s xs zs) h in
    let sides = and_parts (list_all (λ l. int_le (form_value l s) z) x.lower) (list_all (λ u. int_le z (form_value u s)) x.upper) parts.0 in
    at_rows (turns s x) (points s xs) (clipped (z -ℤ largest s x.lower)) (point_rank s xs zs) _ z zs
    (turn_stands s x z (largest_below s z x.lower ends.0.lower sides.0) (smallest_above s z x.upper ends.0.upper sides.1))
    (point_stands s xs zs ends.1 parts.1) refl

-- the rank of the n-th point, which lies in the region
abbrev pub IsNth : Symbols → List Span1 → ℕ → List ℤ → Type 0
IsNth s xs n q = (point_rank s xs q ≡ n) × (is_in_region s xs q ≡ true)

pub point_number : (s : Symbols) (xs : List Span1) (n : ℕ) (q : List ℤ) → slice_get (points s xs) n ≡ Some q → IsNth s xs n q
point_number s [] zero q e = let none : [] ≡ q = cc in subst (IsNth s [] 0) none (refl, refl)
point_number s [] (suc n) q e = absurd (cc)
point_number s (x ∷ xs) n q e =
    let a = in_rows (turns s x) (points s xs) n q e in
    let rest = point_number s xs a.j a.q a.rest in
    let first = turn_number s x a.i a.z a.first in
    let inside = lies_test s x a.z (turn_lies s x a.z (at_in (turns s x) a.i a.z a.first)) in
    let whole : point_rank s (x ∷ xs) (a.z ∷ a.q) ≡ n = (λ i. first i + length (turns s x) * rest.0 i) ∙ sym a.number in
    let both : is_in_region s (x ∷ xs) (a.z ∷ a.q) ≡ true = rw inside rest.1 in
    subst (IsNth s (x ∷ xs) n) (sym a.is) (whole, both)
