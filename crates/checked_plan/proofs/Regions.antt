-- Points of a region of small spans, by its coordinates.
use Rattle.std.proofs.Common.{◌≡◌, ℕ, ◌+◌, ◌*◌, ◌<◌, ◌≤◌, ◌^◌, Bool, true, false, List, [], ◌∷◌, length, map, arith, ap, refl, sym, subst, ◌∙◌}
use Rattle.std.specs.Prelude.{ℤ, pos, negsuc, ◌+ℤ◌, ◌-ℤ◌, ◌≤ℤ◌, ◌&&◌, int_le, int_lt, fold, if◌then◌else◌}
use Rattle.std.specs.Int.{int_max, int_min}
use Rattle.std.specs.List.{AllByRecursion, list_all}
use Rattle.std.proofs.lemmas.Int.{ints, fold-int_max_bounds, fold-int_min_bounds}
use Rattle.std.proofs.lemmas.List.Elements.{recursion_from_All}
use Rattle.lin.specs.Forms.{Form}
use Rattle.lin.specs.declared.span.Span1.{Span1}
use Rattle.plan.specs.Symbols.{Symbols, form_value, clipped, largest, smallest, turns}
use Rattle.plan.specs.Certificate.Cells.{no_symbols, is_in_span, is_in_region}
use Rattle.soundness.proofs.Forms.{map_rec, rec_weaker}
use Rattle.soundness.proofs.Refines.{and_parts}
use Rattle.headline.specs.Numbers.{point_rank, HaveEnds}
use Rattle.checked_plan.specs.Ready.Ready.{IsSmallSpan}
use Rattle.checked_plan.specs.Output.Axes.{IsNear, IsOn, axes_of, axis_of, is_on, rank_of}
use Rattle.checked_plan.specs.declared.output.axis.Axis.{Axis}
use Rattle.checked_plan.proofs.Spans.{length-rising}

-- ---- tests of numbers

le_is : (y z : ℤ) → int_le y z ≡ true → y ≤ℤ z
le_is y z h = grind (arith, ints)

pub is_le : (y z : ℤ) → y ≤ℤ z → int_le y z ≡ true
is_le y z h = grind (arith, ints)

alike : (v w : Bool) → (v ≡ true → w ≡ true) → (w ≡ true → v ≡ true) → v ≡ w
alike true w to from = sym (to refl)
alike false true to from = from refl
alike false false to from = refl

-- ---- the ends of a span

most : (y z w : ℤ) → y ≤ℤ w → z ≤ℤ w → int_max y z ≤ℤ w
most y z w h k = elim (int_lt z y) as (λ (b : Bool). (if b then y else z) ≤ℤ w) [ true ↦ h | false ↦ k ]

least : (y z w : ℤ) → w ≤ℤ y → w ≤ℤ z → w ≤ℤ int_min y z
least y z w h k = elim (int_lt z y) as (λ (b : Bool). w ≤ℤ (if b then z else y)) [ true ↦ k | false ↦ h ]

below_all : (s : Symbols) (z : ℤ) (v : ℤ) (ls : List Form) → v ≤ℤ z → list_all (λ l. int_le (form_value l s) z) ls ≡ true → fold int_max v (map (λ m. form_value m s) ls) ≤ℤ z
below_all s z v [] h k = h
below_all s z v (l ∷ ls) h k =
    let parts = and_parts (int_le (form_value l s) z) (list_all (λ l. int_le (form_value l s) z) ls) k in
    below_all s z (int_max v (form_value l s)) ls (most v (form_value l s) z h (le_is (form_value l s) z parts.0)) parts.1

above_all : (s : Symbols) (z : ℤ) (v : ℤ) (us : List Form) → z ≤ℤ v → list_all (λ u. int_le z (form_value u s)) us ≡ true → z ≤ℤ fold int_min v (map (λ m. form_value m s) us)
above_all s z v [] h k = h
above_all s z v (u ∷ us) h k =
    let parts = and_parts (int_le z (form_value u s)) (list_all (λ u. int_le z (form_value u s)) us) k in
    above_all s z (int_min v (form_value u s)) us (least v (form_value u s) z h (le_is z (form_value u s) parts.0)) parts.1

largest_below : (s : Symbols) (z : ℤ) (ls : List Form) → 1 ≤ length ls → list_all (λ l. int_le (form_value l s) z) ls ≡ true → largest s ls ≤ℤ z
largest_below s z [] some k = absurd (omega arith)
largest_below s z (l ∷ ls) some k =
    let parts = and_parts (int_le (form_value l s) z) (list_all (λ l. int_le (form_value l s) z) ls) k in
    below_all s z (form_value l s) ls (le_is (form_value l s) z parts.0) parts.1

smallest_above : (s : Symbols) (z : ℤ) (us : List Form) → 1 ≤ length us → list_all (λ u. int_le z (form_value u s)) us ≡ true → z ≤ℤ smallest s us
smallest_above s z [] some k = absurd (omega arith)
smallest_above s z (u ∷ us) some k =
    let parts = and_parts (int_le z (form_value u s)) (list_all (λ u. int_le z (form_value u s)) us) k in
    above_all s z (form_value u s) us (le_is z (form_value u s) parts.0) parts.1

lower_all : (s : Symbols) (ls : List Form) (z : ℤ) → largest s ls ≤ℤ z → AllByRecursion (λ l. form_value l s ≤ℤ z) ls
lower_all s [] z h = tt
lower_all s (l ∷ ls) z h =
    let k = fold-int_max_bounds (form_value l s) (map (λ m. form_value m s) ls) _ refl in
    let first = k.0 in (
      omega (arith, ints, first, h),
      rec_weaker (λ m. form_value m s ≤ℤ largest s (l ∷ ls)) (λ m. form_value m s ≤ℤ z) (λ m g. omega (arith, ints, g, h)) ls
          (map_rec (λ m. form_value m s) (λ v. v ≤ℤ largest s (l ∷ ls)) ls (recursion_from_All (λ v. v ≤ℤ largest s (l ∷ ls)) (map (λ m. form_value m s) ls) k.1)),
    )

upper_all : (s : Symbols) (us : List Form) (z : ℤ) → z ≤ℤ smallest s us → AllByRecursion (λ u. z ≤ℤ form_value u s) us
upper_all s [] z h = tt
upper_all s (u ∷ us) z h =
    let k = fold-int_min_bounds (form_value u s) (map (λ m. form_value m s) us) _ refl in
    let first = k.0 in (
      omega (arith, ints, first, h),
      rec_weaker (λ m. smallest s (u ∷ us) ≤ℤ form_value m s) (λ m. z ≤ℤ form_value m s) (λ m g. omega (arith, ints, g, h)) us
          (map_rec (λ m. form_value m s) (λ v. smallest s (u ∷ us) ≤ℤ v) us (recursion_from_All (λ v. smallest s (u ∷ us) ≤ℤ v) (map (λ m. form_value m s) us) k.1)),
    )

test_lower : (s : Symbols) (z : ℤ) (ls : List Form) → AllByRecursion (λ l. form_value l s ≤ℤ z) ls → list_all (λ l. int_le (form_value l s) z) ls ≡ true
test_lower s z [] h = refl
test_lower s z (l ∷ ls) h = rw (is_le (form_value l s) z h.0) (test_lower s z ls h.1)

test_upper : (s : Symbols) (z : ℤ) (us : List Form) → AllByRecursion (λ u. z ≤ℤ form_value u s) us → list_all (λ u. int_le z (form_value u s)) us ≡ true
test_upper s z [] h = refl
test_upper s z (u ∷ us) h = rw (is_le z (form_value u s) h.0) (test_upper s z us h.1)

-- ---- one coordinate

-- the test of a coordinate
abbrev on_axis : Axis → ℤ → Bool
on_axis x z = int_le x.low z && int_lt z (x.low +ℤ pos x.count)

width_is : (low high : ℤ) → 1 ≤ clipped ((high +ℤ pos 1) -ℤ low) → high +ℤ pos 1 ≡ low +ℤ pos (clipped ((high +ℤ pos 1) -ℤ low))
width_is low high some = of ((high +ℤ pos 1) -ℤ low) refl some
  where
    of : (w : ℤ) → (high +ℤ pos 1) -ℤ low ≡ w → 1 ≤ clipped w → high +ℤ pos 1 ≡ low +ℤ pos (clipped w)
    of (pos n) e h = omega (arith, ints, e)
    of (negsuc n) e h = absurd (omega (arith, h))

count_is : (x : Span1) → length (turns no_symbols x) ≡ clipped ((smallest no_symbols x.upper +ℤ pos 1) -ℤ largest no_symbols x.lower)
count_is x = length-rising (largest no_symbols x.lower) (clipped ((smallest no_symbols x.upper +ℤ pos 1) -ℤ largest no_symbols x.lower))

-- the numbers of an axis end where those of its span do
end_is : (x : Span1) → IsSmallSpan x → smallest no_symbols x.upper +ℤ pos 1 ≡ largest no_symbols x.lower +ℤ pos (length (turns no_symbols x))
end_is x h =
    let n = count_is x in
    width_is (largest no_symbols x.lower) (smallest no_symbols x.upper) (subst (λ (k : ℕ). 1 ≤ k) n h.some) ∙ ap (λ (k : ℕ). largest no_symbols x.lower +ℤ pos k) (sym n)

both : (v w : Bool) → v ≡ true → w ≡ true → (v && w) ≡ true
both v w h k = rw (h, k) refl

lt_is : (y z : ℤ) → int_lt y z ≡ true → (y +ℤ pos 1) ≤ℤ z
lt_is y z h = grind (arith, ints)

pub is_lt : (y z : ℤ) → (y +ℤ pos 1) ≤ℤ z → int_lt y z ≡ true
is_lt y z h = grind (arith, ints)

-- it tells whether the span has the number
one_axis : (x : Span1) (z : ℤ) → IsSmallSpan x → 1 ≤ length x.lower → 1 ≤ length x.upper → on_axis (axis_of x) z ≡ is_in_span no_symbols x z
one_axis x z h lower upper =
    let low = largest no_symbols x.lower in
    let high = smallest no_symbols x.upper in
    let end = low +ℤ pos (length (turns no_symbols x)) in
    let e : high +ℤ pos 1 ≡ end = end_is x h in
    alike (on_axis (axis_of x) z) (is_in_span no_symbols x z)
    (λ v.
    let parts = and_parts (int_le low z) (int_lt z end) v in
    let under = lt_is z end parts.1 in
    let top : z ≤ℤ high = omega (arith, ints, e, under) in
    both (list_all (λ l. int_le (form_value l no_symbols) z) x.lower) (list_all (λ u. int_le z (form_value u no_symbols)) x.upper)
    (test_lower no_symbols z x.lower (lower_all no_symbols x.lower z (le_is low z parts.0)))
    (test_upper no_symbols z x.upper (upper_all no_symbols x.upper z top)))
    (λ w.
    let sides = and_parts (list_all (λ l. int_le (form_value l no_symbols) z) x.lower) (list_all (λ u. int_le z (form_value u no_symbols)) x.upper) w in
    let from = largest_below no_symbols z x.lower lower sides.0 in
    let to = smallest_above no_symbols z x.upper upper sides.1 in
    let under : (z +ℤ pos 1) ≤ℤ end = omega (arith, ints, e, to) in
    both (int_le low z) (int_lt z end) (is_le low z from) (is_lt z end under))

near_axis : (x : Span1) → IsSmallSpan x → IsNear (axis_of x)
near_axis x h = record { low = h.low; short = h.few }

-- ---- all coordinates

and_more : (u v w : Bool) → (u && v && w) ≡ ((u && v) && w)
and_more true v w = refl
and_more false v w = refl

-- a point is on the coordinates of a region exactly where it lies in it
pub on_region : (xs : List Span1) (zs : List ℤ) → HaveEnds xs → AllByRecursion IsSmallSpan xs → is_on (axes_of xs) zs ≡ is_in_region no_symbols xs zs
on_region [] [] ends small = refl
on_region [] (z ∷ zs) ends small = refl
on_region (x ∷ xs) [] ends small = refl
on_region (x ∷ xs) (z ∷ zs) ends small =
    let low = largest no_symbols x.lower in
    let end = low +ℤ pos (length (turns no_symbols x)) in
    and_more (int_le low z) (int_lt z end) (is_on (axes_of xs) zs)
    ∙ ap (λ (b : Bool). b && is_on (axes_of xs) zs) (one_axis x z small.0 ends.0.lower ends.0.upper)
    ∙ ap (λ (b : Bool). is_in_span no_symbols x z && b) (on_region xs zs ends.1 small.1)

pub axes_near : (xs : List Span1) → AllByRecursion IsSmallSpan xs → AllByRecursion IsNear (axes_of xs)
axes_near [] small = tt
axes_near (x ∷ xs) small = (near_axis x small.0, axes_near xs small.1)

clipped_pos : (w : ℤ) (n : ℕ) → pos 0 ≤ℤ w → (w +ℤ pos 1) ≤ℤ pos n → clipped w < n
clipped_pos (pos k) n h l = omega (arith, ints, l)
clipped_pos (negsuc k) n h l = absurd (omega (arith, ints, h))

-- a point that is on coordinates has a number of each
pub on_axes : (xs : List Axis) (zs : List ℤ) → AllByRecursion IsNear xs → is_on xs zs ≡ true → IsOn xs zs
on_axes [] [] near h = tt
on_axes [] (z ∷ zs) near h = absurd (cc h)
on_axes (x ∷ xs) [] near h = absurd (cc h)
on_axes (x ∷ xs) (z ∷ zs) near h =
    let end = x.low +ℤ pos x.count in
    let one = and_parts (int_le x.low z && int_lt z end) (is_on xs zs) (sym (and_more (int_le x.low z) (int_lt z end) (is_on xs zs)) ∙ h) in
    let sides = and_parts (int_le x.low z) (int_lt z end) one.0 in
    let from = le_is x.low z sides.0 in
    let under = lt_is z end sides.1 in (
      record {
        low = from;
        below = clipped_pos (z -ℤ x.low) x.count (omega (arith, ints, from)) (omega (arith, ints, under));
        near = near.0.low;
        short = near.0.short;
      },
      on_axes xs zs near.1 one.1,
    )

-- the point's rank in a region is that by its coordinates
pub rank_same : (xs : List Span1) (zs : List ℤ) → point_rank no_symbols xs zs ≡ rank_of (axes_of xs) zs
rank_same [] zs = refl
rank_same (x ∷ xs) [] = refl
rank_same (x ∷ xs) (z ∷ zs) = ap (λ (n : ℕ). clipped (z -ℤ largest no_symbols x.lower) + length (turns no_symbols x) * n) (rank_same xs zs)
