-- Lists of symbols, how often they have their values, and what statements count over them.
use Rattle.std.proofs.Common.{◌≡◌, ℕ, zero, suc, ◌+◌, ◌*◌, ◌^◌, ◌-◌, ◌<◌, ◌≤◌, min, Bool, true, false, List, [], ◌∷◌, ◌++◌, length, map, flat_map, get_or, replicate, refl, sym, ap, ◌∙◌, arith, ℤ, pos}
use Rattle.std.proofs.Math.ListN.{set}
use Rattle.std.proofs.Math.Nat.{mul_comm}
use Rattle.std.specs.Prelude.{◌==◌, ◌||◌, if◌then◌else◌, int_le, sum_by}
use Rattle.std.specs.List.{AllByRecursion}
use Rattle.std.specs.Ordering.{int_eq}
use Rattle.std.proofs.lemmas.Bool.Decides.{nat_tests, Decides-int_eq}
use Rattle.std.proofs.lemmas.List.Sums.{sum_by-cons}
use Rattle.plan.specs.Plan.{Statement}
use Rattle.plan.specs.Symbols.{Symbols, bind, rising}
use Rattle.report.specs.declared.counting.Turns.{Turns}
use Rattle.report.specs.declared.known.Binding.{Binding}
use Rattle.report.specs.Costs.{capped, up_to}
use Rattle.report.specs.Counting.{in_turn, Fits}
use Rattle.report.specs.Known.{AllowsAll}
use Rattle.report.specs.Ranges.{numbers, Holds}
use Rattle.report.specs.Tally.{tally, Counted}
use Rattle.report.specs.Weighing.{all_weights, is_weighed, values_of, weight_of, weighted, weighted_all, AreWeighed, IsWeighedTally, IsWeighedTurns, Weighed}
use Rattle.report.proofs.Weights.{all_both, all_flat, all_map, all_push, all_same, capped_times, none_there, sum_alike, sum_flat, sum_map, weighted_ones}

-- ---- the values of symbols

left_is : (a b : Bool) → (a || b) ≡ false → a ≡ false
left_is true b h = absurd (cc)
left_is false b h = refl

right_is : (a b : Bool) → (a || b) ≡ false → b ≡ false
right_is true b h = absurd (cc)
right_is false b h = h

other : (t : Bool) (a b : ℤ) → t ≡ false → (if t then a else b) ≡ b
other true a b h = absurd (cc)
other false a b h = refl

here : (t : Bool) (a b : ℤ) → t ≡ true → (if t then a else b) ≡ a
here true a b h = refl
here false a b h = absurd (cc)

itself : (i : ℕ) → (i == i) ≡ true
itself i = grind (arith, nat_tests)

-- a symbol that is not weighed has another value
pub values_same : (ws : List Weighed) (s : Symbols) (i : ℕ) (z : ℤ) (f : Bool) → is_weighed ws i ≡ false → values_of ws (bind s i z f) ≡ values_of ws s
values_same [] s i z f h = refl
values_same (w ∷ ws) s i z f h =
    let a : (w.symbol == i) ≡ false = left_is (w.symbol == i) (is_weighed ws i) h in
    let b : is_weighed ws i ≡ false = right_is (w.symbol == i) (is_weighed ws i) h in
    (λ j. other (w.symbol == i) z (s.value w.symbol) a j ∷ values_same ws s i z f b j)

-- the last of the symbols has it
pub values_push : (ws : List Weighed) (w : Weighed) (s : Symbols) (z : ℤ) (f : Bool) → is_weighed ws w.symbol ≡ false → values_of (ws ++ w ∷ []) (bind s w.symbol z f) ≡ values_of ws s ++ z ∷ []
values_push [] w s z f h = ap (λ (y : ℤ). y ∷ []) (here (w.symbol == w.symbol) z (s.value w.symbol) (itself w.symbol))
values_push (v ∷ ws) w s z f h =
    let a : (v.symbol == w.symbol) ≡ false = left_is (v.symbol == w.symbol) (is_weighed ws w.symbol) h in
    let b : is_weighed ws w.symbol ≡ false = right_is (v.symbol == w.symbol) (is_weighed ws w.symbol) h in
    (λ j. other (v.symbol == w.symbol) z (s.value v.symbol) a j ∷ values_push ws w s z f b j)

-- a symbol in the place of another has it
pub values_set : (ws : List Weighed) (i : ℕ) (w : Weighed) (s : Symbols) (z : ℤ) (f : Bool)
    → i < length ws → is_weighed ws w.symbol ≡ false → values_of (set ws i w) (bind s w.symbol z f) ≡ set (values_of ws s) i z
values_set [] i w s z f lt h = absurd (omega arith)
values_set (v ∷ ws) zero w s z f lt h =
    let b : is_weighed ws w.symbol ≡ false = right_is (v.symbol == w.symbol) (is_weighed ws w.symbol) h in
    (λ j. here (w.symbol == w.symbol) z (s.value w.symbol) (itself w.symbol) j ∷ values_same ws s w.symbol z f b j)
values_set (v ∷ ws) (suc i) w s z f lt h =
    let a : (v.symbol == w.symbol) ≡ false = left_is (v.symbol == w.symbol) (is_weighed ws w.symbol) h in
    let b : is_weighed ws w.symbol ≡ false = right_is (v.symbol == w.symbol) (is_weighed ws w.symbol) h in
    (λ j. other (v.symbol == w.symbol) z (s.value v.symbol) a j ∷ values_set ws i w s z f (omega arith) b j)

pub value_at : (ws : List Weighed) (i : ℕ) (d : Weighed) (s : Symbols) → i < length ws → get_or (values_of ws s) i (pos 0) ≡ s.value (get_or ws i d).symbol
value_at [] i d s lt = absurd (omega arith)
value_at (w ∷ ws) zero d s lt = refl
value_at (w ∷ ws) (suc i) d s lt = value_at ws i d s (omega arith)

-- ---- what weighs nothing is not there

some_there : (f : Symbols → ℕ) (ss : List Symbols) → AllByRecursion (λ s. f s ≤ sum_by f ss) ss
some_there f [] = tt
some_there f (s ∷ ss) =
    let e : sum_by f (s ∷ ss) ≡ f s + sum_by f ss = sum_by-cons f s ss in
    let later : (n : ℕ) → n ≤ sum_by f ss → n ≤ sum_by f (s ∷ ss) = λ n h. omega (arith, e, h) in
    (omega (arith, e), all_both ss (λ t h k. later (f t) h) (some_there f ss) (some_there f ss))

abbrev of : Bool → ℕ
of t = if t then 1 else 0

equal_one : (y : ℤ) → of (int_eq y y) ≡ 1
equal_one y = by (int_eq y y) ((Decides-int_eq y y).1 refl)
  where
    by : (t : Bool) → t ≡ true → of t ≡ 1
    by true e = refl
    by false e = absurd (cc)

-- of how many of the list a symbol has this value
abbrev count_of : ℕ → ℤ → List Symbols → ℕ
count_of i y ss = sum_by (λ s. if int_eq (s.value i) y then 1 else 0) ss

none_counted : (m : ℕ) (ws : List Weighed) (i : ℕ) (d : Weighed) (ss : List Symbols) (y : ℤ)
    → 1 ≤ m → i < length ws → AreWeighed m ws ss → weight_of y (get_or ws i d).low (get_or ws i d).weights ≡ 0 →
    count_of (get_or ws i d).symbol y ss ≡ 0
none_counted m ws i d ss y some lt weighed none =
    let e : up_to m (weighted_all (λ zs. if int_eq (get_or zs i (pos 0)) y then 1 else 0) ws) ≡ up_to m (sum_by (λ s. if int_eq (get_or (values_of ws s) i (pos 0)) y then 1 else 0) ss) =
    weighed.is (λ zs. if int_eq (get_or zs i (pos 0)) y then 1 else 0) in
    let k : weighted_all (λ zs. if int_eq (get_or zs i (pos 0)) y then 1 else 0) ws ≡ 0 = none_there y ws i d lt none in
    let l : sum_by (λ s. if int_eq (get_or (values_of ws s) i (pos 0)) y then 1 else 0) ss ≡ count_of (get_or ws i d).symbol y ss =
    (λ j. sum_by (λ s. if int_eq (value_at ws i d s lt j) y then 1 else 0) ss) in
    none_left m (weighted_all (λ zs. if int_eq (get_or zs i (pos 0)) y then 1 else 0) ws) (count_of (get_or ws i d).symbol y ss) some k (e ∙ ap (up_to m) l)
  where
    none_left : (m a b : ℕ) → 1 ≤ m → a ≡ 0 → up_to m a ≡ up_to m b → b ≡ 0
    none_left m a b some h e = omega arith

some_weight : (v c n : ℕ) → (v ≡ 0 → c ≡ 0) → 1 ≤ n → n ≤ c → 1 ≤ v
some_weight zero c n h some most = absurd (let e : c ≡ 0 = h refl in omega arith)
some_weight (suc v) c n h some most = omega arith

each_there : (i : ℕ) (low : ℤ) (ws : List ℕ) (ss ts : List Symbols) → ((y : ℤ) → weight_of y low ws ≡ 0 → count_of i y ss ≡ 0) →
    ((y : ℤ) → AllByRecursion (λ s. (if int_eq (s.value i) y then 1 else 0) ≤ count_of i y ss) ts) → AllByRecursion (λ s. 1 ≤ weight_of (s.value i) low ws) ts
each_there i low ws ss [] none h = tt
each_there i low ws ss (t ∷ ts) none h =
    let e : of (int_eq (t.value i) (t.value i)) ≡ 1 = equal_one (t.value i) in
    let k : 1 ≤ of (int_eq (t.value i) (t.value i)) = omega (arith, e) in
    (some_weight (weight_of (t.value i) low ws) (count_of i (t.value i) ss) (of (int_eq (t.value i) (t.value i))) (none (t.value i)) k (h (t.value i)).0, each_there i low ws ss ts none (λ y. (h y).1))

-- each value that a symbol of the list has weighs something
pub all_there : (m : ℕ) (ws : List Weighed) (i : ℕ) (d : Weighed) (ss : List Symbols) → 1 ≤ m → i < length ws → AreWeighed m ws ss
    → AllByRecursion (λ s. 1 ≤ weight_of (s.value (get_or ws i d).symbol) (get_or ws i d).low (get_or ws i d).weights) ss
all_there m ws i d ss some lt weighed =
    each_there (get_or ws i d).symbol (get_or ws i d).low (get_or ws i d).weights ss ss (λ y none. none_counted m ws i d ss y some lt weighed none)
    (λ y. some_there (λ s. if int_eq (s.value (get_or ws i d).symbol) y then 1 else 0) ss)

-- ---- lines

-- a statement that counts the same whatever values the symbols have
pub each_weighed : (x : Counted) (known : List Binding) (ws : List Weighed) (a : Statement) (each all total : ℕ) → x.enough < 2 ^ 64
    → ((s : Symbols) → AllowsAll known s → Fits a s → up_to x.enough each ≡ up_to x.enough (tally x a s)) → all ≡ capped (all_weights ws) → total ≡ min (each * all) (2 ^ 64 - 1)
    → IsWeighedTally x known ws a total
each_weighed x known ws a each all total small one whole is = record {
  is = λ ss weighed allowed fits.
      product x.enough each all total (all_weights ws) small whole is
      ∙ ap (up_to x.enough) (sym (all_same each ws))
      ∙ weighed.is (λ zs. each)
      ∙ sum_alike x.enough (λ s. each) (tally x a) ss (all_both ss one allowed fits);
}
  where
    product : (m each all total whole : ℕ) → m < 2 ^ 64 → all ≡ capped whole → total ≡ min (each * all) (2 ^ 64 - 1) → up_to m total ≡ up_to m (whole * each)
    product m each all total whole small e f =
        let k : up_to m (capped whole * each) ≡ up_to m (whole * each) = capped_times m whole each small in
        let l : each * all ≡ capped whole * each = ap (λ (n : ℕ). each * n) e ∙ mul_comm each (capped whole) in
        let n : total ≡ min (capped whole * each) (2 ^ 64 - 1) = f ∙ ap (λ (p : ℕ). min p (2 ^ 64 - 1)) l in
        lower m total (capped whole * each) small n ∙ k
      where
        lower : (m t p : ℕ) → m < 2 ^ 64 → t ≡ min p (2 ^ 64 - 1) → up_to m t ≡ up_to m p
        lower m t p h e = omega arith

-- a statement of which no line counts
pub none_weighed : (x : Counted) (known : List Binding) (ws : List Weighed) (a : Statement) → ((s : Symbols) → tally x a s ≡ 0) → IsWeighedTally x known ws a 0
none_weighed x known ws a none = record {
  is = λ ss weighed allowed fits. ap (up_to x.enough) (sym (zeros ss));
}
  where
    zeros : (ss : List Symbols) → sum_by (tally x a) ss ≡ 0
    zeros [] = refl
    zeros (s ∷ ss) = sum_by-cons (tally x a) s ss ∙ (λ j. none s j + zeros ss j)

-- ---- loops whose ends can have but one value

-- each of them in each turn
abbrev in_turns : Turns → List Symbols → List Symbols
in_turns t ss = flat_map (λ s. map (in_turn s t) (numbers t.range)) ss

pub turns_weighed : (x : Counted) (known more : List Binding) (ws : List Weighed) (w : Weighed) (a : Statement) (t : Turns) (n : ℕ) →
    w.symbol ≡ t.symbol → w.low ≡ t.range.low → w.weights ≡ replicate (length (numbers t.range)) 1 → numbers t.range ≡ rising t.range.low (length (numbers t.range)) → is_weighed ws t.symbol ≡ false
    → ((s : Symbols) (z : ℤ) → AllowsAll known s → Holds t.range z → AllowsAll more (in_turn s t z)) → AllByRecursion (Holds t.range) (numbers t.range)
    → IsWeighedTally x more (ws ++ w ∷ []) a n → IsWeighedTurns x known ws a t n
turns_weighed x known more ws w a t n es el ew er free allows within one = record {
  is = λ ss weighed allowed fits.
      one.is (in_turns t ss) (record { is = λ g. heavy ss weighed g })
      (all_flat (AllowsAll more) (λ s. map (in_turn s t) (numbers t.range)) ss (each_allowed ss allowed))
      (all_flat (Fits a) (λ s. map (in_turn s t) (numbers t.range)) ss (each_fits ss fits))
      ∙ ap (up_to x.enough) (sum_flat (tally x a) (λ s. map (in_turn s t) (numbers t.range)) ss ∙ (λ j. sum_by (λ s. sum_map (tally x a) (in_turn s t) (numbers t.range) j) ss));
}
  where
    last : (s : Symbols) (z : ℤ) → values_of (ws ++ w ∷ []) (in_turn s t z) ≡ values_of ws s ++ z ∷ []
    last s z = ap (λ (i : ℕ). values_of (ws ++ w ∷ []) (bind s i z (int_le z t.start))) (sym es) ∙ values_push ws w s z (int_le z t.start) (ap (is_weighed ws) es ∙ free)

    each_turn : (g : List ℤ → ℕ) (zs : List ℤ) → weighted (λ z. g (zs ++ z ∷ [])) w.low w.weights ≡ sum_by (λ z. g (zs ++ z ∷ [])) (numbers t.range)
    each_turn g zs =
        (λ j. weighted (λ z. g (zs ++ z ∷ [])) (el j) (ew j))
        ∙ weighted_ones (λ z. g (zs ++ z ∷ [])) t.range.low (length (numbers t.range))
        ∙ ap (sum_by (λ z. g (zs ++ z ∷ []))) (sym er)

    heavy : (ss : List Symbols) → AreWeighed x.enough ws ss → (g : List ℤ → ℕ)
        → up_to x.enough (weighted_all g (ws ++ w ∷ [])) ≡ up_to x.enough (sum_by (λ s. g (values_of (ws ++ w ∷ []) s)) (in_turns t ss))
    heavy ss weighed g =
        ap (up_to x.enough) (all_push g ws w)
        ∙ weighed.is (λ zs. weighted (λ z. g (zs ++ z ∷ [])) w.low w.weights)
        ∙ (λ j. up_to x.enough (sum_by (λ s. each_turn g (values_of ws s) j) ss))
        ∙ (λ j. up_to x.enough (sum_by (λ s. sum_by (λ z. g (sym (last s z) j)) (numbers t.range)) ss))
        ∙ (λ j. up_to x.enough (sum_by (λ s. sym (sum_map (λ u. g (values_of (ws ++ w ∷ []) u)) (in_turn s t) (numbers t.range)) j) ss))
        ∙ ap (up_to x.enough) (sym (sum_flat (λ u. g (values_of (ws ++ w ∷ []) u)) (λ s. map (in_turn s t) (numbers t.range)) ss))

    some_allowed : (s : Symbols) → AllowsAll known s → (zs : List ℤ) → AllByRecursion (Holds t.range) zs → AllByRecursion (λ z. AllowsAll more (in_turn s t z)) zs
    some_allowed s h [] k = tt
    some_allowed s h (z ∷ zs) k = (allows s z h k.0, some_allowed s h zs k.1)

    each_allowed : (ss : List Symbols) → AllByRecursion (AllowsAll known) ss → AllByRecursion (λ s. AllByRecursion (AllowsAll more) (map (in_turn s t) (numbers t.range))) ss
    each_allowed [] h = tt
    each_allowed (s ∷ ss) h = (all_map (AllowsAll more) (in_turn s t) (numbers t.range) (some_allowed s h.0 (numbers t.range) within), each_allowed ss h.1)

    some_fit : (s : Symbols) → ((z : ℤ) → Holds t.range z → Fits a (in_turn s t z)) → (zs : List ℤ) → AllByRecursion (Holds t.range) zs → AllByRecursion (λ z. Fits a (in_turn s t z)) zs
    some_fit s h [] k = tt
    some_fit s h (z ∷ zs) k = (h z k.0, some_fit s h zs k.1)

    each_fits : (ss : List Symbols) → AllByRecursion (λ s. (z : ℤ) → Holds t.range z → Fits a (in_turn s t z)) ss
        → AllByRecursion (λ s. AllByRecursion (Fits a) (map (in_turn s t) (numbers t.range))) ss
    each_fits [] h = tt
    each_fits (s ∷ ss) h = (all_map (Fits a) (in_turn s t) (numbers t.range) (some_fit s h.0 (numbers t.range) within), each_fits ss h.1)
