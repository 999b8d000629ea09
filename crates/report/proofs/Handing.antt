-- Weights that a loop's numbers have by those of an outer symbol, and what blocks and loops count by them.
use Rattle.std.proofs.Common.{◌≡◌, ℕ, zero, suc, ◌+◌, ◌*◌, ◌^◌, ◌-◌, ◌<◌, ◌≤◌, min, Bool, true, false, not, List, [], ◌∷◌, ◌++◌, length, map, take, drop, flat_map, get_or, refl, sym, ap}
use Rattle.std.proofs.Common.{◌∙◌, subst, arith, ℤ, pos, ◌+ℤ◌, ◌-ℤ◌, ◌≤ℤ◌, ◌<ℤ◌, negsuc, w64, SFits, to_z, of_z}
use lib.IntN.{nat_abs}
use Rattle.std.proofs.Math.ListN.{set}
use Rattle.std.specs.Prelude.{◌==◌, ◌||◌, if◌then◌else◌, int_le, int_lt, sum_by, Contains, slice_get, IfSome, Option, Some}
use Rattle.std.specs.List.{AllByRecursion}
use Rattle.std.specs.Ordering.{int_eq}
use Rattle.std.proofs.lemmas.Bool.Decides.{Decides-int_eq}
use Rattle.std.proofs.lemmas.Int.{ints, to_z-of_z}
use Rattle.std.proofs.lemmas.List.{length-set, take_more}
use Rattle.std.proofs.lemmas.List.Sums.{sum_by-cons}
use Rattle.lin.specs.Forms.{Form}
use Rattle.lin.specs.declared.span.Span1.{Span1}
use Rattle.plan.specs.declared.stmt.Kind.{Kind}
use Rattle.plan.specs.declared.stmt.Pick.{Pick}
use Rattle.plan.specs.declared.stmt.Pick.TheVariants.{Min, Max}
use Rattle.plan.specs.Plan.{Statement, Seq, For, Let, First, Guard, Fetch, Statements, Empty, Then}
use Rattle.plan.specs.Symbols.{Symbols, bind, clipped, form_value, largest, points, rising, smallest, turns}
use Rattle.plan.specs.Semantics.Actions.{after}
use Rattle.interpreter.specs.Narrow.{FormIsNarrow, IsNumber, SpanIsNarrow}
use Rattle.interpreter.proofs.Counting.{between_has}
use Rattle.report.specs.declared.counting.Turns.{Turns}
use Rattle.report.specs.declared.known.Binding.{Binding}
use Rattle.report.specs.declared.ranges.Range.{Range}
use Rattle.report.specs.Costs.{capped, up_to}
use Rattle.report.specs.Counting.{in_turn, BlockFits, Fits, IsPointCount, IsTurnsTally}
use Rattle.report.specs.Known.{known_of, Allows, AllowsAll}
use Rattle.report.specs.Ranges.{numbers, Holds, HoldsEnds}
use Rattle.report.specs.Tally.{block_tally, tally, Counted}
use Rattle.report.specs.declared.weighing.Weighing.{Weighing}
use Rattle.report.specs.Weighing.{all_weighed, all_weights, weighed_of, is_weighed, values_of, weight_of, weighted, weighted_all, AreWeighed, ArePassed, IsWeighedTally, IsWeighedTurns, Weighed}
use Rattle.report.proofs.Lines.{first_branch, later_branch, not_first, not_later, over, same_sum, turn_fits}
use Rattle.report.proofs.Bindings.{equal as equal_symbols}
use Rattle.report.proofs.Tallies.{is_le}
use Rattle.report.proofs.Sums.{added, both_up_to, enough_is, lower_limit, none_left}
use Rattle.report.proofs.Weights.{all_both, all_flat, all_map, all_passed, sum_add, sum_flat, sum_map, sum_same, weighted_push}
use Rattle.report.proofs.Passing.{all_there, each_weighed, none_weighed, value_at, values_same, values_set}
use Rattle.report.proofs.Turns.{length-rising, lt_false}

-- ---- numbers

rising_hold : (n : ℕ) (low : ℤ) (r : Range) → r.low ≤ℤ low → (low +ℤ pos n) ≤ℤ (r.high +ℤ pos 1) → AllByRecursion (Holds r) (rising low n)
rising_hold zero low r from to = tt
rising_hold (suc n) low r from to =
    let h : low ≤ℤ r.high = omega (arith, ints, to) in
    (record { low = from; high = h }, rising_hold n (low +ℤ pos 1) r (omega (arith, ints, from)) (omega (arith, ints, to)))

pub numbers_hold : (r : Range) → AllByRecursion (Holds r) (numbers r)
numbers_hold r = by ((r.high +ℤ pos 1) -ℤ r.low) refl
  where
    by : (d : ℤ) → d ≡ (r.high +ℤ pos 1) -ℤ r.low → AllByRecursion (Holds r) (rising r.low (clipped d))
    by (pos n) e = rising_hold n r.low r (omega (arith, ints)) (omega (arith, ints, e))
    by (negsuc n) e = tt

pub number_of : (z : ℤ) → SFits w64 z → IsNumber z
number_of (pos n) f = record { from = omega (arith, ints); to = omega (arith, ints, f.sfits) }
number_of (negsuc n) f = record { from = omega (arith, ints, f.sfits); to = omega (arith, ints) }

between_numbers : (low z high : ℤ) → IsNumber low → IsNumber high → low ≤ℤ z → z ≤ℤ high → IsNumber z
between_numbers low z high f g from to = record { from = omega (arith, ints, f.from, from); to = omega (arith, ints, g.to, to) }

pub numbers_inside : (r : Range) → SFits w64 r.low → SFits w64 r.high → AllByRecursion IsNumber (numbers r)
numbers_inside r f g =
    all_both (numbers r) (λ z h k. between_numbers r.low z r.high (number_of r.low f) (number_of r.high g) h.low h.high) (numbers_hold r) (numbers_hold r)

pub turns_numbers : (s : Symbols) (span : Span1) (r : Range) → HoldsEnds s span r → turns s span ≡ numbers r
turns_numbers s span r ends = (λ j. rising (ends.low j) (clipped ((ends.high j +ℤ pos 1) -ℤ ends.low j)))

-- numbers that were written and read back
pub read_not_lt : (x y : ℤ) → SFits w64 x → SFits w64 y → int_lt (to_z w64 (of_z w64 x)) (to_z w64 (of_z w64 y)) ≡ false → y ≤ℤ x
read_not_lt x y f g h = lt_false x y (sym (λ j. int_lt (to_z-of_z w64 x f j) (to_z-of_z w64 y g j)) ∙ h)

-- the numbers of a range by the places that they have
pub numbers_from : (low first : ℤ) (ends : Range) (from count to : ℕ) → first ≡ ends.low → low ≤ℤ first → from ≡ nat_abs (first -ℤ low)
    → count ≡ capped (length (numbers ends)) → count ≤ 8192 → to ≡ from + count →
    rising (low +ℤ pos from) (to - from) ≡ numbers ends
numbers_from low first ends from count to same le is counted few e =
    let n : ℕ = clipped ((ends.high +ℤ pos 1) -ℤ ends.low) in
    let long : length (numbers ends) ≡ n = length-rising n ends.low in
    let k : count ≡ capped n = counted ∙ ap capped long in
    let whole : count ≡ n = omega (arith, k, few) in
    let a : low +ℤ pos from ≡ ends.low = omega (arith, ints, le, is, same) in
    let b : to - from ≡ n = omega (arith, e, whole) in
    (λ j. rising (a j) (b j))

-- a `let` of another symbol
pub renamed : (ws : List Weighed) (i : ℕ) (k : Pick) (ls : List Form) (s : Symbols) → is_weighed ws i ≡ false → values_of ws (after (Let i k ls) s) ≡ values_of ws s
renamed ws i Min ls s h = values_same ws s i (smallest s ls) true h
renamed ws i Max ls s h = values_same ws s i (largest s ls) true h

pub few_is : (n c : ℕ) → c ≡ capped n → c ≤ 8192 → c ≡ n
few_is n c e few = omega (arith, e, few)

pub numbers_long : (r : Range) → numbers r ≡ rising r.low (length (numbers r))
numbers_long r = ap (rising r.low) (sym (length-rising (clipped ((r.high +ℤ pos 1) -ℤ r.low)) r.low))

pub weighed_push : (xs : List Weighing) (y : Weighing) → all_weighed (xs ++ y ∷ []) ≡ all_weighed xs ++ weighed_of y ∷ []
weighed_push [] y = refl
weighed_push (x ∷ xs) y = ap (λ (l : List Weighed). weighed_of x ∷ l) (weighed_push xs y)

-- ---- weights, made value by value

differ : (t : Bool) (a b : List ℤ) → t ≡ false → (if t then a else b) ≡ b
differ true a b h = absurd (cc)
differ false a b h = refl

equal : (t : Bool) (a b : List ℤ) → t ≡ true → (if t then a else b) ≡ a
equal true a b h = refl
equal false a b h = absurd (cc)

abbrev of : Bool → ℕ
of t = if t then 1 else 0

never : (t : Bool) → t ≡ false → of t ≡ 0
never true h = absurd (cc)
never false h = refl

apart : (y z : ℤ) → (y ≡ z → ⊥) → int_eq y z ≡ false
apart y z h = by (int_eq y z) refl
  where
    by : (t : Bool) → int_eq y z ≡ t → int_eq y z ≡ false
    by true e = absurd (h ((Decides-int_eq y z).0 e))
    by false e = e

unlike : (y z : ℤ) → int_eq y z ≡ false → y ≡ z → ⊥
unlike y z h e = let k : int_eq y z ≡ true = (Decides-int_eq y z).1 e in absurd (cc)

-- terms that are the same for the numbers that are weighed
weighted_within : (f h : ℤ → ℕ) (low : ℤ) (ws : List ℕ) → ((z : ℤ) → z <ℤ (low +ℤ pos (length ws)) → f z ≡ h z) → weighted f low ws ≡ weighted h low ws
weighted_within f h low [] same = refl
weighted_within f h low (w ∷ ws) same =
    (λ j. w * same low (omega (arith, ints)) j + weighted_within f h (low +ℤ pos 1) ws (λ z lt. same z (omega (arith, ints))) j)

-- before the first value
pub passed_begun : (m : ℕ) (known : List Binding) (span : Span1) (symbol : ℕ) (low first : ℤ) (made : List ℕ) → ((g : ℤ → ℕ) → weighted g first made ≡ 0)
    → ArePassed m known span symbol low [] first made
passed_begun m known span symbol low first made none = record {
  turns_at = λ y. [];
  inside = λ y. tt;
  turns_are = λ s allows narrow some. absurd (omega (arith, some));
  sums = λ g. ap (up_to m) (none g);
}

-- a value that weighs nothing
pub passed_none : (m : ℕ) (known : List Binding) (span : Span1) (symbol : ℕ) (low first : ℤ) (ws made : List ℕ) (w : ℕ) → w ≡ 0 → ArePassed m known span symbol low ws first made →
    ArePassed m known span symbol low (ws ++ w ∷ []) first made
passed_none m known span symbol low first ws made w e h = record {
  turns_at = h.turns_at;
  inside = h.inside;
  turns_are = λ s allows narrow some. h.turns_are s allows narrow (subst (λ (n : ℕ). 1 ≤ n) (same (λ z. if int_eq z (s.value symbol) then 1 else 0)) some);
  sums = λ g. h.sums g ∙ ap (up_to m) (sym (same (λ y. sum_by g (h.turns_at y))));
}
  where
    same : (f : ℤ → ℕ) → weighted f low (ws ++ w ∷ []) ≡ weighted f low ws
    same f =
        let k : 0 * f (low +ℤ pos (length ws)) ≡ 0 = omega arith in
        weighted_push f low ws w ∙ ap (λ (n : ℕ). weighted f low ws + n) (ap (λ (n : ℕ). n * f (low +ℤ pos (length ws))) e ∙ k) ∙ added_none (weighted f low ws)
      where
        added_none : (n : ℕ) → n + 0 ≡ n
        added_none n = omega arith

abbrev one_more : ℤ → List ℤ → (ℤ → List ℤ) → ℤ → List ℤ
one_more value ends turns_at y = if int_eq y value then ends else turns_at y

-- a value more
pub passed_more : (m : ℕ) (known : List Binding) (span : Span1) (symbol : ℕ) (low first : ℤ) (ws made more : List ℕ) (w : ℕ) (value : ℤ) (ends : List ℤ) → value ≡ low +ℤ pos (length ws)
    → AllByRecursion IsNumber ends → ((s : Symbols) → AllowsAll known s → s.value symbol ≡ value → SpanIsNarrow s span → turns s span ≡ ends)
    → ((g : ℤ → ℕ) → up_to m (weighted g first more) ≡ up_to m (weighted g first made + w * sum_by g ends))
    → ArePassed m known span symbol low ws first made → ArePassed m known span symbol low (ws ++ w ∷ []) first more
passed_more m known span symbol low first ws made more w value ends at inside are grown h = record {
  turns_at = one_more value ends h.turns_at;
  inside = λ y. all_inside y (int_eq y value) refl;
  turns_are = λ s allows narrow some. all_turns s allows narrow some (int_eq (s.value symbol) value) refl;
  sums = λ g.
      grown g
      ∙ both_up_to m (weighted g first made) (w * sum_by g ends) (weighted (λ y. sum_by g (h.turns_at y)) low ws) (w * sum_by g ends) (h.sums g) refl
      ∙ ap (up_to m) (λ j. before g j + w * sum_by g (last j))
      ∙ ap (up_to m) (sym (weighted_push (λ y. sum_by g (one_more value ends h.turns_at y)) low ws w));
}
  where
    last : ends ≡ one_more value ends h.turns_at (low +ℤ pos (length ws))
    last = sym (equal (int_eq (low +ℤ pos (length ws)) value) ends (h.turns_at (low +ℤ pos (length ws))) ((Decides-int_eq (low +ℤ pos (length ws)) value).1 (sym at)))

    before : (g : ℤ → ℕ) → weighted (λ y. sum_by g (h.turns_at y)) low ws ≡ weighted (λ y. sum_by g (one_more value ends h.turns_at y)) low ws
    before g = weighted_within (λ y. sum_by g (h.turns_at y)) (λ y. sum_by g (one_more value ends h.turns_at y)) low ws (λ z lt.
        ap (sum_by g) (sym (differ (int_eq z value) ends (h.turns_at z) (apart z value (λ e. absurd (omega (arith, ints, lt, e, at)))))))

    all_inside : (y : ℤ) (t : Bool) → int_eq y value ≡ t → AllByRecursion IsNumber (one_more value ends h.turns_at y)
    all_inside y true e = subst (AllByRecursion IsNumber) (sym (equal (int_eq y value) ends (h.turns_at y) e)) inside
    all_inside y false e = subst (AllByRecursion IsNumber) (sym (differ (int_eq y value) ends (h.turns_at y) e)) (h.inside y)

    fewer : (y : ℤ) → int_eq y value ≡ false → weight_of y low (ws ++ w ∷ []) ≡ weight_of y low ws
    fewer y e =
        let k : int_eq (low +ℤ pos (length ws)) y ≡ false = apart (low +ℤ pos (length ws)) y (λ f. unlike y value e (sym f ∙ sym at)) in
        let z : w * 0 ≡ 0 = omega arith in
        weighted_push (λ z. if int_eq z y then 1 else 0) low ws w
        ∙ ap (λ (n : ℕ). weight_of y low ws + n) (ap (λ (n : ℕ). w * n) (never (int_eq (low +ℤ pos (length ws)) y) k) ∙ z)
        ∙ added_none (weight_of y low ws)
      where
        added_none : (n : ℕ) → n + 0 ≡ n
        added_none n = omega arith

    all_turns : (s : Symbols) → AllowsAll known s → SpanIsNarrow s span → 1 ≤ weight_of (s.value symbol) low (ws ++ w ∷ [])
        → (t : Bool) → int_eq (s.value symbol) value ≡ t → turns s span ≡ one_more value ends h.turns_at (s.value symbol)
    all_turns s allows narrow some true e =
        are s allows ((Decides-int_eq (s.value symbol) value).0 e) narrow ∙ sym (equal (int_eq (s.value symbol) value) ends (h.turns_at (s.value symbol)) e)
    all_turns s allows narrow some false e =
        h.turns_are s allows narrow (subst (λ (n : ℕ). 1 ≤ n) (fewer (s.value symbol) e) some) ∙ sym (differ (int_eq (s.value symbol) value) ends (h.turns_at (s.value symbol)) e)

-- ---- a loop whose ends name one of the symbols

here_is : (z : ℤ) (zs : List ℤ) → Contains (z ∷ zs) z
here_is z zs = let lt : 0 < length (z ∷ zs) = omega arith in (0, lt, refl)

later_is : (z : ℤ) (zs : List ℤ) (y : ℤ) → Contains zs y → Contains (z ∷ zs) y
later_is z zs y (k, lt, at) = let less : suc k < length (z ∷ zs) = omega (arith, lt) in (suc k, less, at)

abbrev in_it : ℕ → Span1 → Symbols → ℤ → Symbols
in_it j span s z = bind s j z (int_le z (largest s span.lower))

-- each of them in each turn
abbrev in_all : ℕ → Span1 → List Symbols → List Symbols
in_all j span ss = flat_map (λ s. map (in_it j span s) (turns s span)) ss

-- nothing is counted where nothing is enough
trivial : (m a b : ℕ) → m ≡ 0 → up_to m a ≡ up_to m b
trivial m a b e = omega (arith, e)

pub inner_weighed : (x : Counted) (known more : List Binding) (ws : List Weighed) (i : ℕ) (d made : Weighed) (j : ℕ) (span : Span1) (kind : Kind) (body : Statement) (n : ℕ) → i < length ws →
    made.symbol ≡ j → is_weighed ws j ≡ false
    → ArePassed x.enough known span (get_or ws i d).symbol (get_or ws i d).low (get_or ws i d).weights made.low made.weights
    → ((s : Symbols) (z : ℤ) (f : Bool) → AllowsAll known s → IsNumber z → AllowsAll more (bind s j z f)) → IsWeighedTally x more (set ws i made) body n
    → IsWeighedTally x known ws (For j span kind body) n
inner_weighed x known more ws i d made j span kind body n lt ej free passed allows one = record { is = λ ss weighed allowed fits. by ss weighed allowed fits x.enough refl }
  where
    same_turns : (ss : List Symbols) → AllByRecursion (AllowsAll known) ss → AllByRecursion (Fits (For j span kind body)) ss
        → AllByRecursion (λ s. 1 ≤ weight_of (s.value (get_or ws i d).symbol) (get_or ws i d).low (get_or ws i d).weights) ss
        → AllByRecursion (λ s. turns s span ≡ passed.turns_at (s.value (get_or ws i d).symbol)) ss
    same_turns [] allowed fits there = tt
    same_turns (s ∷ ss) allowed fits there = (passed.turns_are s allowed.0 fits.0.0 there.0, same_turns ss allowed.1 fits.1 there.1)

    placed : (s : Symbols) (z : ℤ) → values_of (set ws i made) (in_it j span s z) ≡ set (values_of ws s) i z
    placed s z =
        ap (λ (k : ℕ). values_of (set ws i made) (bind s k z (int_le z (largest s span.lower)))) (sym ej)
        ∙ values_set ws i made s z (int_le z (largest s span.lower)) lt (ap (is_weighed ws) ej ∙ free)

    one_sum : (g : List ℤ → ℕ) (s : Symbols) → turns s span ≡ passed.turns_at (s.value (get_or ws i d).symbol) →
        sum_by (λ z. g (set (values_of ws s) i z)) (passed.turns_at (get_or (values_of ws s) i (pos 0))) ≡ sum_by (λ u. g (values_of (set ws i made) u)) (map (in_it j span s) (turns s span))
    one_sum g s are =
        ap (λ (y : ℤ). sum_by (λ z. g (set (values_of ws s) i z)) (passed.turns_at y)) (value_at ws i d s lt)
        ∙ ap (sum_by (λ z. g (set (values_of ws s) i z))) (sym are)
        ∙ (λ k. sum_by (λ z. g (sym (placed s z) k)) (turns s span))
        ∙ sym (sum_map (λ u. g (values_of (set ws i made) u)) (in_it j span s) (turns s span))

    all_sums : (g : List ℤ → ℕ) (ss : List Symbols) → AllByRecursion (λ s. turns s span ≡ passed.turns_at (s.value (get_or ws i d).symbol)) ss →
        AllByRecursion (λ s. sum_by (λ z. g (set (values_of ws s) i z)) (passed.turns_at (get_or (values_of ws s) i (pos 0)))
        ≡ sum_by (λ u. g (values_of (set ws i made) u)) (map (in_it j span s) (turns s span))) ss
    all_sums g [] are = tt
    all_sums g (s ∷ ss) are = (one_sum g s are.0, all_sums g ss are.1)

    heavy : (ss : List Symbols) → AreWeighed x.enough ws ss → AllByRecursion (λ s. turns s span ≡ passed.turns_at (s.value (get_or ws i d).symbol)) ss → (g : List ℤ → ℕ)
        → up_to x.enough (weighted_all g (set ws i made)) ≡ up_to x.enough (sum_by (λ u. g (values_of (set ws i made) u)) (in_all j span ss))
    heavy ss weighed are g =
        all_passed x.enough passed.turns_at made ws i d lt passed.sums g
        ∙ weighed.is (λ zs. sum_by (λ z. g (set zs i z)) (passed.turns_at (get_or zs i (pos 0))))
        ∙ ap (up_to x.enough) (sum_same (λ s. sum_by (λ z. g (set (values_of ws s) i z)) (passed.turns_at (get_or (values_of ws s) i (pos 0))))
        (λ s. sum_by (λ u. g (values_of (set ws i made) u)) (map (in_it j span s) (turns s span))) ss (all_sums g ss are))
        ∙ ap (up_to x.enough) (sym (sum_flat (λ u. g (values_of (set ws i made) u)) (λ s. map (in_it j span s) (turns s span)) ss))

    some_allowed : (s : Symbols) → AllowsAll known s → (zs : List ℤ) → AllByRecursion IsNumber zs → AllByRecursion (λ z. AllowsAll more (in_it j span s z)) zs
    some_allowed s h [] k = tt
    some_allowed s h (z ∷ zs) k = (allows s z (int_le z (largest s span.lower)) h k.0, some_allowed s h zs k.1)

    each_allowed : (ss : List Symbols) → AllByRecursion (AllowsAll known) ss → AllByRecursion (λ s. turns s span ≡ passed.turns_at (s.value (get_or ws i d).symbol)) ss
        → AllByRecursion (λ s. AllByRecursion (AllowsAll more) (map (in_it j span s) (turns s span))) ss
    each_allowed [] h are = tt
    each_allowed (s ∷ ss) h are = (
      all_map (AllowsAll more) (in_it j span s) (turns s span) (some_allowed s h.0 (turns s span) (subst (AllByRecursion IsNumber) (sym are.0) (passed.inside (s.value (get_or ws i d).symbol)))),
      each_allowed ss h.1 are.1,
    )

    some_fit : (s : Symbols) (zs : List ℤ) → ((z : ℤ) → Contains zs z → Fits body (in_it j span s z)) → AllByRecursion (λ z. Fits body (in_it j span s z)) zs
    some_fit s [] h = tt
    some_fit s (z ∷ zs) h = (h z (here_is z zs), some_fit s zs (λ y k. h y (later_is z zs y k)))

    each_fits : (ss : List Symbols) → AllByRecursion (Fits (For j span kind body)) ss → AllByRecursion (λ s. AllByRecursion (Fits body) (map (in_it j span s) (turns s span))) ss
    each_fits [] h = tt
    each_fits (s ∷ ss) h = (all_map (Fits body) (in_it j span s) (turns s span) (some_fit s (turns s span) h.0.1), each_fits ss h.1)

    by : (ss : List Symbols) → AreWeighed x.enough ws ss → AllByRecursion (AllowsAll known) ss → AllByRecursion (Fits (For j span kind body)) ss → (m : ℕ) → x.enough ≡ m →
        up_to x.enough n ≡ up_to x.enough (sum_by (tally x (For j span kind body)) ss)
    by ss weighed allowed fits zero e = trivial x.enough n (sum_by (tally x (For j span kind body)) ss) e
    by ss weighed allowed fits (suc m) e =
        let are = same_turns ss allowed fits (all_there x.enough ws i d ss (omega (arith, e)) lt weighed) in
        one.is (in_all j span ss) (record { is = λ g. heavy ss weighed are g })
        (all_flat (AllowsAll more) (λ s. map (in_it j span s) (turns s span)) ss (each_allowed ss allowed are))
        (all_flat (Fits body) (λ s. map (in_it j span s) (turns s span)) ss (each_fits ss fits))
        ∙ ap (up_to x.enough) (sum_flat (tally x body) (λ s. map (in_it j span s) (turns s span)) ss ∙ (λ k. sum_by (λ s. sum_map (tally x body) (in_it j span s) (turns s span) k) ss))

-- ---- blocks

-- what is left of a block, and the lists of symbols before it
pub record LeftWeighed (x : Counted) (here : List Binding) (ws : List Weighed) (rest : Statements) (total whole : ℕ) : Type 0 where
  pub ss : List Symbols
  pub weighed : AreWeighed x.enough ws ss
  pub allowed : AllByRecursion (AllowsAll here) ss
  pub fits : AllByRecursion (BlockFits rest) ss
  pub sum : up_to x.enough (total + sum_by (block_tally x rest) ss) ≡ up_to x.enough whole

pub record IsWeighedSum (x : Counted) (known : List Binding) (ws : List Weighed) (all : Statements) (here : List Binding) (rest : Statements) (total : ℕ) : Type 0 where
  pub is : (ss : List Symbols) → AreWeighed x.enough ws ss → AllByRecursion (AllowsAll known) ss → AllByRecursion (BlockFits all) ss → LeftWeighed x here ws rest total (sum_by (block_tally x all) ss)

pub sum_begun : (x : Counted) (known here : List Binding) (ws : List Weighed) (all : Statements) → here ≡ known → IsWeighedSum x known ws all here all 0
sum_begun x known here ws all e = record {
  is = λ ss weighed allowed fits.
      let none : 0 + sum_by (block_tally x all) ss ≡ sum_by (block_tally x all) ss = omega arith in
      record { ss = ss; weighed = weighed; allowed = subst (λ (l : List Binding). AllByRecursion (AllowsAll l) ss) (sym e) allowed; fits = fits; sum = ap (up_to x.enough) none };
}

left_weighed : (x : Counted) (here next : List Binding) (ws : List Weighed) (a : Statement) (rest : Statements) (total more n whole : ℕ)
    → x.enough < 2 ^ 64 → LeftWeighed x here ws (Then a rest) total whole →
    IsWeighedTally x here ws a more → n ≡ min (total + more) (2 ^ 64 - 1) → ((s : Symbols) → AllowsAll here s → Fits a s → AllowsAll next (after a s))
    → ((s : Symbols) → values_of ws (after a s) ≡ values_of ws s) → LeftWeighed x next ws rest n whole
left_weighed x here next ws a rest total more n whole small l one e goes same = record {
  ss = map (after a) l.ss;
  weighed = record { is = λ g. l.weighed.is g ∙ (λ j. up_to x.enough (sum_by (λ s. g (sym (same s) j)) l.ss)) ∙ ap (up_to x.enough) (sym (sum_map (λ s. g (values_of ws s)) (after a) l.ss)) };
  allowed = all_map (AllowsAll next) (after a) l.ss (all_both l.ss goes l.allowed heads);
  fits = all_map (BlockFits rest) (after a) l.ss tails;
  sum = added x.enough total more (sum_by (tally x a) l.ss) (sum_by (block_tally x rest) (map (after a) l.ss)) whole n small (one.is l.ss l.weighed l.allowed heads) e
      (ap (λ (k : ℕ). up_to x.enough (total + k)) (sym parts) ∙ l.sum);
}
  where
    firsts : (ss : List Symbols) → AllByRecursion (BlockFits (Then a rest)) ss → AllByRecursion (Fits a) ss
    firsts [] h = tt
    firsts (s ∷ ss) h = (h.0.0, firsts ss h.1)

    others : (ss : List Symbols) → AllByRecursion (BlockFits (Then a rest)) ss → AllByRecursion (λ s. BlockFits rest (after a s)) ss
    others [] h = tt
    others (s ∷ ss) h = (h.0.1, others ss h.1)

    heads : AllByRecursion (Fits a) l.ss
    heads = firsts l.ss l.fits

    tails : AllByRecursion (λ s. BlockFits rest (after a s)) l.ss
    tails = others l.ss l.fits

    parts : sum_by (block_tally x (Then a rest)) l.ss ≡ sum_by (tally x a) l.ss + sum_by (block_tally x rest) (map (after a) l.ss)
    parts = sum_add (tally x a) (λ s. block_tally x rest (after a s)) l.ss ∙ ap (λ (k : ℕ). sum_by (tally x a) l.ss + k) (sym (sum_map (block_tally x rest) (after a) l.ss))

pub sum_more : (x : Counted) (known here next : List Binding) (ws : List Weighed) (all rest from : Statements) (a : Statement) (total more n : ℕ) → x.enough < 2 ^ 64 → from ≡ Then a rest →
    IsWeighedSum x known ws all here from total → IsWeighedTally x here ws a more → n ≡ min (total + more) (2 ^ 64 - 1)
    → ((s : Symbols) → AllowsAll here s → Fits a s → AllowsAll next (after a s)) → ((s : Symbols) → values_of ws (after a s) ≡ values_of ws s) → IsWeighedSum x known ws all next rest n
sum_more x known here next ws all rest from a total more n small is sum one e goes same = record {
  is = λ ss weighed allowed fits.
      left_weighed x here next ws a rest total more n (sum_by (block_tally x all) ss) small
      (subst (λ (l : Statements). LeftWeighed x here ws l total (sum_by (block_tally x all) ss)) is (sum.is ss weighed allowed fits)) one e goes same;
}

pub sum_done : (x : Counted) (known here : List Binding) (ws : List Weighed) (all rest : Statements) (total : ℕ)
    → rest ≡ Empty → IsWeighedSum x known ws all here rest total → IsWeighedTally x known ws (Seq all) total
sum_done x known here ws all rest total none sum = record {
  is = λ ss weighed allowed fits.
      let l : LeftWeighed x here ws Empty total (sum_by (block_tally x all) ss) =
      subst (λ (r : Statements). LeftWeighed x here ws r total (sum_by (block_tally x all) ss)) none (sum.is ss weighed allowed fits) in
      none_left x.enough total (sum_by (block_tally x Empty) l.ss) (sum_by (block_tally x all) ss) (zeros l.ss) l.sum;
}
  where
    zeros : (ss : List Symbols) → sum_by (block_tally x Empty) ss ≡ 0
    zeros [] = refl
    zeros (s ∷ ss) = sum_by-cons (block_tally x Empty) s ss ∙ (λ j. 0 + zeros ss j)

pub sum_enough : (x : Counted) (known here : List Binding) (ws : List Weighed) (all rest : Statements) (total : ℕ)
    → x.enough ≤ total → IsWeighedSum x known ws all here rest total → IsWeighedTally x known ws (Seq all) total
sum_enough x known here ws all rest total most sum = record {
  is = λ ss weighed allowed fits.
      let l : LeftWeighed x here ws rest total (sum_by (block_tally x all) ss) = sum.is ss weighed allowed fits in
      enough_is x.enough total (sum_by (block_tally x rest) l.ss) (sum_by (block_tally x all) ss) most l.sum;
}

-- ---- a statement that counts as another does

pub as_other : (x : Counted) (known : List Binding) (ws : List Weighed) (a b : Statement) (n : ℕ) → ((s : Symbols) → AllowsAll known s → Fits a s → Fits b s × (tally x b s ≡ tally x a s)) →
    IsWeighedTally x known ws b n → IsWeighedTally x known ws a n
as_other x known ws a b n alike one = record {
  is = λ ss weighed allowed fits. one.is ss weighed allowed (fit ss allowed fits) ∙ ap (up_to x.enough) (sum_same (tally x b) (tally x a) ss (same ss allowed fits));
}
  where
    fit : (ss : List Symbols) → AllByRecursion (AllowsAll known) ss → AllByRecursion (Fits a) ss → AllByRecursion (Fits b) ss
    fit [] h k = tt
    fit (s ∷ ss) h k = ((alike s h.0 k.0).0, fit ss h.1 k.1)

    same : (ss : List Symbols) → AllByRecursion (AllowsAll known) ss → AllByRecursion (Fits a) ss → AllByRecursion (λ s. tally x b s ≡ tally x a s) ss
    same [] h k = tt
    same (s ∷ ss) h k = ((alike s h.0 k.0).1, same ss h.1 k.1)

-- ---- the turns of a loop, alone

pub turns_alone : (x : Counted) (known : List Binding) (a : Statement) (t : Turns) (n : ℕ) → IsWeighedTurns x known [] a t n → IsTurnsTally x known a t n
turns_alone x known a t n h = record {
  is = λ s allows fits.
      h.is (s ∷ []) (record { is = λ g. ap (up_to x.enough) (sym (single (λ u. g []) s)) }) (allows, tt) (fits, tt)
      ∙ ap (up_to x.enough) (single (λ u. sum_by (λ z. tally x a (in_turn u t z)) (numbers t.range)) s);
}
  where
    single : (f : Symbols → ℕ) (s : Symbols) → sum_by f (s ∷ []) ≡ f s
    single f s = let e : f s + 0 ≡ f s = omega arith in sum_by-cons f s [] ∙ e

-- a loop whose ends can have but one value
pub loop_weighed : (x : Counted) (known : List Binding) (ws : List Weighed) (i : ℕ) (span : Span1) (kind : Kind) (body : Statement) (r : Range) (t : Turns) (n : ℕ) →
    t ≡ record { symbol = i; start = r.low; range = r } → ((s : Symbols) → AllowsAll known s → SpanIsNarrow s span → HoldsEnds s span r)
    → IsWeighedTurns x known ws body t n → IsWeighedTally x known ws (For i span kind body) n
loop_weighed x known ws i span kind body r t n is ends h = record {
  is = λ ss weighed allowed fits.
      let one : IsWeighedTurns x known ws body (record { symbol = i; start = r.low; range = r }) n = subst (λ (u : Turns). IsWeighedTurns x known ws body u n) is h in
      one.is ss weighed allowed (each_fits ss allowed fits)
      ∙ ap (up_to x.enough) (sum_same (λ s. sum_by (λ z. tally x body (bind s i z (int_le z r.low))) (numbers r)) (tally x (For i span kind body)) ss (each_same ss allowed fits));
}
  where
    each_fits : (ss : List Symbols) → AllByRecursion (AllowsAll known) ss → AllByRecursion (Fits (For i span kind body)) ss
        → AllByRecursion (λ s. (z : ℤ) → Holds r z → Fits body (bind s i z (int_le z r.low))) ss
    each_fits [] a f = tt
    each_fits (s ∷ ss) a f =
        let e : HoldsEnds s span r = ends s a.0 f.0.0 in
        (turn_fits i span body s r e (λ z from to. f.0.1 z (between_has (largest s span.lower) (smallest s span.upper) z from to)), each_fits ss a.1 f.1)

    each_same : (ss : List Symbols) → AllByRecursion (AllowsAll known) ss → AllByRecursion (Fits (For i span kind body)) ss
        → AllByRecursion (λ s. sum_by (λ z. tally x body (bind s i z (int_le z r.low))) (numbers r) ≡ tally x (For i span kind body) s) ss
    each_same [] a f = tt
    each_same (s ∷ ss) a f =
        let e : HoldsEnds s span r = ends s a.0 f.0.0 in
        (same_sum x i body s (largest s span.lower) r.low (smallest s span.upper) r.high e.low e.high, each_same ss a.1 f.1)

-- ---- lines that ask which turn it is, or a guard

pub first_weighed : (x : Counted) (known : List Binding) (ws : List Weighed) (i : ℕ) (b : Binding) (one other : Statement) (n : ℕ)
    → b ≡ known_of known i → b.later ≡ false → IsWeighedTally x known ws one n →
    IsWeighedTally x known ws (First i one other) n
first_weighed x known ws i b one other n is later h = as_other x known ws (First i one other) one n (λ s allows fits.
    let turn : s.first i ≡ true = not_later b (s.value i) (s.first i) later (subst (λ (c : Binding). Allows c (s.value i) (s.first i)) (sym is) (allows i)) in
    (fits.0 turn, sym (first_branch (s.first i) (tally x one s) (tally x other s) turn))) h

pub later_weighed : (x : Counted) (known : List Binding) (ws : List Weighed) (i : ℕ) (b : Binding) (one other : Statement) (n : ℕ)
    → b ≡ known_of known i → b.first ≡ false → IsWeighedTally x known ws other n →
    IsWeighedTally x known ws (First i one other) n
later_weighed x known ws i b one other n is first h = as_other x known ws (First i one other) other n (λ s allows fits.
    let turn : s.first i ≡ false = not_first b (s.value i) (s.first i) first (subst (λ (c : Binding). Allows c (s.value i) (s.first i)) (sym is) (allows i)) in
    (fits.1 turn, sym (later_branch (s.first i) (tally x one s) (tally x other s) turn))) h

pub guard_weighed : (x : Counted) (known : List Binding) (ws : List Weighed) (low high : Form) (l h : Range) (body : Statement) (n : ℕ) →
    ((s : Symbols) → AllowsAll known s → FormIsNarrow s low → Holds l (form_value low s)) → ((s : Symbols) → AllowsAll known s → FormIsNarrow s high → Holds h (form_value high s)) →
    l.high ≤ℤ h.low → IsWeighedTally x known ws body n → IsWeighedTally x known ws (Guard low high body) n
guard_weighed x known ws low high l h body n lows highs le one = as_other x known ws (Guard low high body) body n (λ s allows fits.
    let a : Holds l (form_value low s) = lows s allows fits.0 in
    let b : Holds h (form_value high s) = highs s allows fits.1 in
    let t : int_le (form_value low s) (form_value high s) ≡ true = is_le (form_value low s) (form_value high s) (omega (arith, ints, a.high, b.low, le)) in
    (fits.2 t, sym (first_branch (int_le (form_value low s) (form_value high s)) (tally x body s) 0 t))) one

pub guarded_none : (x : Counted) (known : List Binding) (ws : List Weighed) (low high : Form) (l h : Range) (body : Statement) →
    ((s : Symbols) → AllowsAll known s → FormIsNarrow s low → Holds l (form_value low s)) → ((s : Symbols) → AllowsAll known s → FormIsNarrow s high → Holds h (form_value high s)) →
    h.high <ℤ l.low → IsWeighedTally x known ws (Guard low high body) 0
guarded_none x known ws low high l h body lows highs lt = record {
  is = λ ss weighed allowed fits. ap (up_to x.enough) (sym (zeros ss allowed fits));
}
  where
    zeros : (ss : List Symbols) → AllByRecursion (AllowsAll known) ss → AllByRecursion (Fits (Guard low high body)) ss → sum_by (tally x (Guard low high body)) ss ≡ 0
    zeros [] p q = refl
    zeros (s ∷ ss) p q =
        let a : Holds l (form_value low s) = lows s p.0 q.0.0 in
        let b : Holds h (form_value high s) = highs s p.0 q.0.1 in
        let t : int_le (form_value low s) (form_value high s) ≡ false = over (form_value low s) (form_value high s) (omega (arith, ints, a.low, b.high, lt)) in
        sum_by-cons (tally x (Guard low high body)) s ss ∙ (λ j. later_branch (int_le (form_value low s) (form_value high s)) (tally x body s) 0 t j + zeros ss p.1 q.1 j)

-- ---- lines that fetch

pub fetched_none : (x : Counted) (known : List Binding) (ws : List Weighed) (b g : ℕ) (region : List Span1) → x.group g ≡ false → IsWeighedTally x known ws (Fetch b g region) 0
fetched_none x known ws b g region is = none_weighed x known ws (Fetch b g region) (λ s. later_branch (x.group g) (length (points s region)) 0 is)

pub fetch_weighed : (x : Counted) (known : List Binding) (ws : List Weighed) (b g : ℕ) (region : List Span1) (each all total : ℕ)
    → x.enough < 2 ^ 64 → x.group g ≡ true → IsPointCount known region each
    → all ≡ capped (all_weights ws) → total ≡ min (each * all) (2 ^ 64 - 1) → IsWeighedTally x known ws (Fetch b g region) total
fetch_weighed x known ws b g region each all total small is points_are whole e = each_weighed x known ws (Fetch b g region) each all total small (λ s allows fits.
    lower_limit x.enough each (length (points s region)) small (points_are s allows fits) ∙ ap (up_to x.enough) (sym (first_branch (x.group g) (length (points s region)) 0 is))) whole e

-- ---- lines that store

pub store_weighed : (x : Counted) (known : List Binding) (ws : List Weighed) (a : Statement) (all : ℕ)
    → x.enough < 2 ^ 64 → ((s : Symbols) → tally x a s ≡ 1) → all ≡ capped (all_weights ws) → IsWeighedTally x known ws a all
store_weighed x known ws a all small one whole = each_weighed x known ws a 1 all all small (λ s allows fits. ap (up_to x.enough) (sym (one s))) whole (once all (all_weights ws) whole)
  where
    once : (n w : ℕ) → n ≡ capped w → n ≡ min (1 * n) (2 ^ 64 - 1)
    once n w e = omega (arith, e)

pub one_of : {X : Type 0} (P : X → Type 0) (o : Option X) (x : X) → o ≡ Some x → IfSome o P → P x
one_of P o x e h = subst (λ p. IfSome p P) e h

pub not_so : (t : Bool) → not t ≡ true → t ≡ false
not_so true h = absurd (cc)
not_so false h = refl

pub passed_at : (ws : List Weighing) (k : ℕ) (d : Weighed) (P : Weighed → Type 0) → k < length ws → IfSome (slice_get ws k) (λ w. P (weighed_of w)) → P (get_or (all_weighed ws) k d)
passed_at [] k d P lt h = absurd (omega arith)
passed_at (w ∷ ws) zero d P lt h = h
passed_at (w ∷ ws) (suc k) d P lt h = passed_at ws k d P (omega arith) h

refill : (new old : List ℕ) → length old ≡ length new → take (length new) (new ++ drop (length new) old) ≡ new
refill [] [] e = refl
refill [] (y ∷ old) e = absurd (omega (arith, e))
refill (x ∷ new) [] e = absurd (omega (arith, e))
refill (x ∷ new) (y ∷ old) e = ap (λ (l : List ℕ). x ∷ l) (refill new old (omega (arith, e)))

pub refilled : (new old : List ℕ) (len : ℕ) → length new ≡ len → length old ≡ len → take len (new ++ drop (length new) old) ≡ new
refilled new old len a b = ap (λ (k : ℕ). take k (new ++ drop (length new) old)) (sym a) ∙ refill new old (b ∙ sym a)

-- ---- lists of weights, copied

pub few_taken : (ws : List ℕ) (k : ℕ) → k ≤ length ws → length (take k ws) ≡ k
few_taken ws zero le = refl
few_taken [] (suc k) le = absurd (omega arith)
few_taken (w ∷ ws) (suc k) le = ap suc (few_taken ws k (omega arith))

or_true : (t u : Bool) → u ≡ true → true ≡ (t || u)
or_true true u e = refl
or_true false u e = sym e

pub here_weighed : (ws : List Weighing) (k : ℕ) (w : Weighing) (i : ℕ) → k < length ws → w ≡ get_or ws k w → w.symbol ≡ i → true ≡ is_weighed (all_weighed ws) i
here_weighed [] k w i lt is e = absurd (omega arith)
here_weighed (x ∷ xs) zero w i lt is e = sym (ap (λ (t : Bool). t || is_weighed (all_weighed xs) i) (equal_symbols x.symbol i (sym (ap (λ (v : Weighing). v.symbol) is) ∙ e)))
here_weighed (x ∷ xs) (suc k) w i lt is e = or_true (x.symbol == i) (is_weighed (all_weighed xs) i) (sym (here_weighed xs k w i (omega arith) is e))

pub long_weighed : (ws : List Weighing) → length (all_weighed ws) ≡ length ws
long_weighed [] = refl
long_weighed (w ∷ ws) = ap suc (long_weighed ws)

pub weighed_at : (ws : List Weighing) (k : ℕ) (d : Weighing) (e : Weighed) → k < length ws → get_or (all_weighed ws) k e ≡ weighed_of (get_or ws k d)
weighed_at [] k d e lt = absurd (omega arith)
weighed_at (w ∷ ws) zero d e lt = refl
weighed_at (w ∷ ws) (suc k) d e lt = weighed_at ws k d e (omega arith)

pub replaced_more : (ws more items : List Weighing) (n place : ℕ) (new : Weighed) (made : Weighing)
    → n < length ws → items ≡ more ++ made ∷ [] → all_weighed more ≡ take n (set (all_weighed ws) place new)
    → weighed_of made ≡ get_or (set (all_weighed ws) place new) n new → all_weighed items ≡ take (n + 1) (set (all_weighed ws) place new)
replaced_more ws more items n place new made lt is so here =
    let long : length (set (all_weighed ws) place new) ≡ length ws = length-set (all_weighed ws) place new ∙ long_weighed ws in
    let less : n < length (set (all_weighed ws) place new) = omega (arith, long, lt) in
    ap all_weighed is
    ∙ weighed_push more made
    ∙ (λ j. so j ++ here j ∷ [])
    ∙ sym (take_more (set (all_weighed ws) place new) n new less)

pub replaced_all : (ws more : List Weighing) (n place : ℕ) (new : Weighed)
    → length ws ≡ n → all_weighed more ≡ take n (set (all_weighed ws) place new) → all_weighed more ≡ set (all_weighed ws) place new
replaced_all ws more n place new e so =
    so ∙ ap (λ (k : ℕ). take k (set (all_weighed ws) place new)) (sym e ∙ sym (long_weighed ws) ∙ sym (length-set (all_weighed ws) place new)) ∙ whole (set (all_weighed ws) place new)
  where
    whole : (l : List Weighed) → take (length l) l ≡ l
    whole [] = refl
    whole (w ∷ l) = ap (λ (k : List Weighed). w ∷ k) (whole l)
