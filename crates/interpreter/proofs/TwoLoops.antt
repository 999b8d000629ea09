-- Two loops over a store, one in the other: what they do is what the inner one alone does, where it goes on behind its last turn.
use Rattle.std.proofs.Common.{◌≡◌, ◌≢◌, ℕ, zero, suc, ◌+◌, ◌*◌, ◌/◌, ◌%◌, ◌<◌, ◌≤◌, List, [], ◌∷◌, ◌++◌, map, take, drop, length, suc-mul, true≢false, Bool, true, false, refl, sym, ap, subst, ◌∙◌, arith, ℤ, pos, negsuc, ◌+ℤ◌, ◌-ℤ◌, ◌≤ℤ◌, ◌<ℤ◌, Option, None, Some}
use Rattle.std.specs.Prelude.{◌==◌, if◌then◌else◌, ◌*ℤ◌, All, Contains, flat_map, int_le, string_bytes}
use Rattle.std.specs.Borrow.{Bor}
use Rattle.std.specs.Int.{int_min}
use Rattle.std.proofs.Math.IntN.{pos-*ℤ-pos, zero-*ℤ}
use Rattle.std.proofs.Math.Nat.{mul_comm, mod-lt, mod-add-div', div-lt_iff_lt-mul}
use Rattle.std.proofs.lemmas.Bool.Decides.{nat_tests}
use Rattle.std.proofs.lemmas.Int.{ints, int_min_is}
use Rattle.std.proofs.lemmas.List.{take-map, drop-map, length-map}
use Rattle.std.proofs.lemmas.List.Elements.{All-from_recursion, recursion_from_All}
use Rattle.std.specs.List.{AllByRecursion}
use Rattle.std.proofs.lemmas.Grind.{flat_map-append}
use Rattle.numeric.proofs.Ints.{distribute, distribute_right, multiple_assoc}
use Rattle.tree.specs.Term.{Term, term_of}
use Rattle.lin.specs.Forms.{Form, factor_of, number, value_of}
use Rattle.plan.specs.declared.stmt.Coordinate.{Coordinate}
use Rattle.plan.specs.Plan.{Coordinate as PlanCoordinate, Index, At, Found, Statement}
use Rattle.plan.specs.View.{coordinate_of}
use Rattle.plan.specs.Symbols.{Symbols, bind, form_value, largest, smallest, rising, clipped, turns}
use Rattle.plan.specs.Semantics.Actions.{Setting, Action, Fixed, fixed, target, index_target, store_action, stored, actions}
use Rattle.lin.specs.declared.span.Span1.{Span1}
use Rattle.interpreter.specs.declared.joining.StoreLoop.{StoreLoop}
use Rattle.interpreter.specs.declared.joining.Joined.{Joined}
use Rattle.interpreter.specs.declared.piece.Piece.{Piece}
use Rattle.interpreter.specs.declared.turns.Turns.{Turns}
use Rattle.interpreter.specs.Evaluation.Indices.{indices_in}
use Rattle.interpreter.specs.Joining.{end_in, in_first, AreEnds, AreJoined, AreTurns, IndexJoins, CoordinatesJoin, EndFalls, EndIsNarrow, IsStoreLoop}
use Rattle.interpreter.specs.Narrow.{IsNumber, FormIsNarrow, FormsAreNarrow, IndexIsNarrow, StatementIsNarrow}
use Rattle.interpreter.specs.LineCodes.{IsCoded}
use Rattle.interpreter.specs.Needs.{Kept, Space, StatementFits}
use Rattle.interpreter.specs.Pieces.{setting}
use Rattle.interpreter.specs.Runs.{store_at}
use Rattle.interpreter.specs.Targets.{indices_of_all, CoordinateIsNarrow}
use Rattle.interpreter.specs.Visits.{between}
use Rattle.interpreter.proofs.Counting.{between_has, between_more, between_none, in_rising, rising_has}
use Rattle.interpreter.proofs.Fitting.{indices_mapped}
use Rattle.interpreter.proofs.Moving.{form_moved}
use Rattle.interpreter.proofs.OneLines.{line_actions, line_narrow, line_fits}
use Rattle.interpreter.proofs.Shorts.{all_unmapped}
use Rattle.interpreter.proofs.StoreRuns.{rising_append}
use Rattle.interpreter.proofs.Storing.{map_twice, names_is}

-- ---- forms

both_ways : (a b : Bool) (x y v : ℤ) → (a ≡ true → b ≡ true → ⊥) → (if a then x else (if b then y else v)) ≡ (if b then y else (if a then x else v))
both_ways true true x y v h = absurd (h refl refl)
both_ways true false x y v h = refl
both_ways false true x y v h = refl
both_ways false false x y v h = refl

-- two symbols may be bound in either order
pub swapped : (s : Symbols) (i j : ℕ) (z w : ℤ) (f g : Bool) → i ≢ j → (bind (bind s i z f) j w g).value ≡ (bind (bind s j w g) i z f).value
swapped s i j z w f g h = λ x k. each k x
  where
    each : (k : ℕ) → (bind (bind s i z f) j w g).value k ≡ (bind (bind s j w g) i z f).value k
    each k = both_ways (k == j) (k == i) w z (s.value k) (λ p q. let e : i ≡ j = grind (arith, nat_tests) in h e)

-- so many turns of the outer loop are as many times the inner loop's turns
pub risen : (f g : ℤ) (n p q : ℕ) → f ≡ g *ℤ pos n → f *ℤ pos p +ℤ g *ℤ pos q ≡ g *ℤ pos (p * n + q)
risen f g n p q h =
    let outer : f *ℤ pos p ≡ g *ℤ pos (p * n) = ap (λ (z : ℤ). z *ℤ pos p) h ∙ sym (multiple_assoc g (pos n) (pos p)) ∙ ap (λ (z : ℤ). g *ℤ z) (pos-*ℤ-pos n p ∙ ap pos (mul_comm n p)) in
    let both : g *ℤ pos (p * n + q) ≡ g *ℤ pos (p * n) +ℤ g *ℤ pos q = distribute g (pos (p * n)) (pos q) in
    ap (λ (z : ℤ). z +ℤ g *ℤ pos q) outer ∙ sym both

form_turn : (l : Form) (s : Symbols) (i j : ℕ) (a c : ℤ) (p q n : ℕ) (f g d e : Bool) → i ≢ j → factor_of l.terms i ≡ factor_of l.terms j *ℤ pos n →
    form_value l (bind (bind s i (a +ℤ pos p) f) j (c +ℤ pos q) g) ≡ form_value l (bind (bind s i a d) j (c +ℤ pos (p * n + q)) e)
form_turn l s i j a c p q n f g d e other rises =
    let here = form_moved l (bind s i (a +ℤ pos p) f) j c (pos q) g g in
    let there = form_moved l (bind s i a d) j c (pos (p * n + q)) e g in
    let outer = form_moved l (bind s j c g) i a (pos p) f d in
    let before = ap (value_of l) (swapped s i j (a +ℤ pos p) c f g other) in
    let after = ap (value_of l) (swapped s i j a c d g other) in
    omega (arith, ints, here, there, outer, before, after, risen (factor_of l.terms i) (factor_of l.terms j) n p q rises)

index_turn : (x : Index) (s : Symbols) (i j : ℕ) (a c : ℤ) (p q n : ℕ) (f g d e : Bool) → i ≢ j → IndexJoins i j (pos n) x →
    index_target (bind (bind s i (a +ℤ pos p) f) j (c +ℤ pos q) g) x ≡ index_target (bind (bind s i a d) j (c +ℤ pos (p * n + q)) e) x
index_turn (At l) s i j a c p q n f g d e other h = ap Fixed (form_turn l s i j a c p q n f g d e other h)
index_turn (Found t) s i j a c p q n f g d e other h = refl

index_narrow : (x : Index) (s : Symbols) (i j : ℕ) (a c : ℤ) (p q n : ℕ) (f g d e : Bool) → i ≢ j → IndexJoins i j (pos n) x →
    IndexIsNarrow (bind (bind s i (a +ℤ pos p) f) j (c +ℤ pos q) g) x → IndexIsNarrow (bind (bind s i a d) j (c +ℤ pos (p * n + q)) e) x
index_narrow (At l) s i j a c p q n f g d e other h narrow = record { limits = narrow.limits; value = subst IsNumber (form_turn l s i j a c p q n f g d e other h) narrow.value }
index_narrow (Found t) s i j a c p q n f g d e other h narrow = tt

-- ---- stores

targets_turn : (cs : List Coordinate) (s : Symbols) (i j : ℕ) (a c : ℤ) (p q n : ℕ) (f g d e : Bool) → i ≢ j → CoordinatesJoin i j (pos n) cs →
    map (target (bind (bind s i (a +ℤ pos p) f) j (c +ℤ pos q) g)) (map coordinate_of cs) ≡ map (target (bind (bind s i a d) j (c +ℤ pos (p * n + q)) e)) (map coordinate_of cs)
targets_turn [] s i j a c p q n f g d e other h = refl
targets_turn (x ∷ cs) s i j a c p q n f g d e other h = λ k. index_turn (coordinate_of x).index s i j a c p q n f g d e other h.0 k ∷ targets_turn cs s i j a c p q n f g d e other h.1 k

each_narrow : (cs : List Coordinate) (s : Symbols) (i j : ℕ) (a c : ℤ) (p q n : ℕ) (f g d e : Bool) → i ≢ j → CoordinatesJoin i j (pos n) cs →
    AllByRecursion (CoordinateIsNarrow (bind (bind s i (a +ℤ pos p) f) j (c +ℤ pos q) g)) cs → AllByRecursion (CoordinateIsNarrow (bind (bind s i a d) j (c +ℤ pos (p * n + q)) e)) cs
each_narrow [] s i j a c p q n f g d e other h narrow = tt
each_narrow (x ∷ cs) s i j a c p q n f g d e other h narrow =
    (index_narrow (coordinate_of x).index s i j a c p q n f g d e other h.0 narrow.0, each_narrow cs s i j a c p q n f g d e other h.1 narrow.1)

all_narrow : (cs : List Coordinate) (s : Symbols) (i j : ℕ) (a c : ℤ) (p q n : ℕ) (f g d e : Bool) → i ≢ j → CoordinatesJoin i j (pos n) cs →
    All (CoordinateIsNarrow (bind (bind s i (a +ℤ pos p) f) j (c +ℤ pos q) g)) cs → All (CoordinateIsNarrow (bind (bind s i a d) j (c +ℤ pos (p * n + q)) e)) cs
all_narrow cs s i j a c p q n f g d e other h narrow =
    let before = bind (bind s i (a +ℤ pos p) f) j (c +ℤ pos q) g in
    let after = bind (bind s i a d) j (c +ℤ pos (p * n + q)) e in
    All-from_recursion (CoordinateIsNarrow after) cs (each_narrow cs s i j a c p q n f g d e other h (recursion_from_All (CoordinateIsNarrow before) cs narrow))

-- a store depends on what its coordinates come to
pub stored_same : (S : Setting) (b k : ℕ) (at : List PlanCoordinate) (e : Term) (x y : Symbols) → map (target x) at ≡ map (target y) at → stored S b k at e x ≡ stored S b k at e y
stored_same S b k at e x y h =
    let n = S.dimensions b in
    let first : map (target x) (take n at) ≡ map (target y) (take n at) = sym (take-map (target x) n at) ∙ ap (take n) h ∙ take-map (target y) n at in
    let last : map (target x) (drop n at) ≡ map (target y) (drop n at) = sym (drop-map (target x) n at) ∙ ap (drop n) h ∙ drop-map (target y) n at in
    let over : map (λ c. fixed (target x c)) (drop n at) ≡ map (λ c. fixed (target y c)) (drop n at) =
    sym (map_twice fixed (target x) (drop n at)) ∙ ap (map fixed) last ∙ map_twice fixed (target y) (drop n at) in
    λ i. store_action b (S.buffer_function b) k (map (λ c. c.variable) at) (first i) (over i) e

-- ---- lists

row_begun : (f g : ℤ → List Action) (c d : ℤ) (n : ℕ) → ((q : ℕ) → f (c +ℤ pos q) ≡ g (d +ℤ pos q)) → flat_map f (rising c n) ≡ flat_map g (rising d n)
row_begun f g c d zero h = refl
row_begun f g c d (suc n) h =
    let here : f c ≡ g d = (let x : c ≡ c +ℤ pos 0 = omega (arith, ints) in ap f x) ∙ h 0 ∙ (let y : d +ℤ pos 0 ≡ d = omega (arith, ints) in ap g y) in
    let later : (q : ℕ) → f (c +ℤ pos 1 +ℤ pos q) ≡ g (d +ℤ pos 1 +ℤ pos q) = λ q.
    (let x : c +ℤ pos 1 +ℤ pos q ≡ c +ℤ pos (suc q) = omega (arith, ints) in ap f x) ∙ h (suc q) ∙ (let y : d +ℤ pos (suc q) ≡ d +ℤ pos 1 +ℤ pos q = omega (arith, ints) in ap g y) in
    λ i. here i ++ row_begun f g (c +ℤ pos 1) (d +ℤ pos 1) n later i

-- rows of n turns each, from the p-th on
rows_from : (f : ℤ → ℤ → List Action) (g : ℤ → List Action) (a c : ℤ) (n p m : ℕ) → ((p q : ℕ) → f (a +ℤ pos p) (c +ℤ pos q) ≡ g (c +ℤ pos (p * n + q))) →
    flat_map (λ z. flat_map (f z) (rising c n)) (rising (a +ℤ pos p) m) ≡ flat_map g (rising (c +ℤ pos (p * n)) (m * n))
rows_from f g a c n p zero h =
    let none : 0 * n ≡ 0 = omega arith in
    ap (λ (k : ℕ). flat_map g (rising (c +ℤ pos (p * n)) k)) (sym none)
rows_from f g a c n p (suc m) h =
    let row : flat_map (f (a +ℤ pos p)) (rising c n) ≡ flat_map g (rising (c +ℤ pos (p * n)) n) = row_begun (f (a +ℤ pos p)) g c (c +ℤ pos (p * n)) n
    (λ q. h p q ∙ (let y : c +ℤ pos (p * n + q) ≡ c +ℤ pos (p * n) +ℤ pos q = omega (arith, ints) in ap g y)) in
    let next : a +ℤ pos p +ℤ pos 1 ≡ a +ℤ pos (suc p) = omega (arith, ints) in
    let start : c +ℤ pos (suc p * n) ≡ c +ℤ pos (p * n) +ℤ pos n = omega (arith, ints, suc-mul p n) in
    let size : n + m * n ≡ suc m * n = omega (arith, suc-mul m n) in
    let rest = rows_from f g a c n (suc p) m h in
    (λ i. row i ++ flat_map (λ z. flat_map (f z) (rising c n)) (rising (next i) m))
    ∙ ap (λ (l : List Action). flat_map g (rising (c +ℤ pos (p * n)) n) ++ l) (rest ∙ ap (λ (z : ℤ). flat_map g (rising z (m * n))) start)
    ∙ sym (flat_map-append g (rising (c +ℤ pos (p * n)) n) (rising (c +ℤ pos (p * n) +ℤ pos n) (m * n)))
    ∙ ap (flat_map g) (sym (rising_append (c +ℤ pos (p * n)) n (m * n)))
    ∙ ap (λ (k : ℕ). flat_map g (rising (c +ℤ pos (p * n)) k)) size

pub rows : (f : ℤ → ℤ → List Action) (g : ℤ → List Action) (a c : ℤ) (n m : ℕ) → ((p q : ℕ) → f (a +ℤ pos p) (c +ℤ pos q) ≡ g (c +ℤ pos (p * n + q))) →
    flat_map (λ z. flat_map (f z) (rising c n)) (rising a m) ≡ flat_map g (rising c (m * n))
rows f g a c n m h =
    let x : a ≡ a +ℤ pos 0 = omega (arith, ints) in
    let y : c +ℤ pos (0 * n) ≡ c = omega (arith, ints) in
    ap (λ (z : ℤ). flat_map (λ z. flat_map (f z) (rising c n)) (rising z m)) x ∙ rows_from f g a c n 0 m h ∙ ap (λ (z : ℤ). flat_map g (rising z (m * n))) y

-- so many numbers are so many rows, and some of one more
pub in_rows : (m n k : ℕ) (P : Type 0) → k < m * n → ((p q : ℕ) → p < m → q < n → k ≡ p * n + q → P) → P
in_rows m zero k P lt f = absurd (omega arith)
in_rows m (suc n) k P lt f =
    let some : zero < suc n = omega arith in
    let split : k % suc n + k / suc n * suc n ≡ k = mod-add-div' k (suc n) in
    f (k / suc n) (k % suc n) ((div-lt_iff_lt-mul some).1 lt) (mod-lt k some) (omega (arith, split))

-- ---- numbers

is_le : (x y : ℤ) → x ≤ℤ y → int_le x y ≡ true
is_le x y h = grind (arith, nat_tests, ints)

le_is : (x y : ℤ) → int_le x y ≡ true → x ≤ℤ y
le_is x y e = grind (arith, nat_tests, ints)

not_le : (x y : ℤ) → int_le x y ≡ false → y <ℤ x
not_le x y e = grind (arith, nat_tests, ints)

same_le : (x : ℤ) → x ≤ℤ x
same_le x = omega (arith, ints)

le_risen : (x y k : ℤ) → int_le x y ≡ int_le (x +ℤ k) (y +ℤ k)
le_risen x y k = by_test (int_le x y) refl
  where
    is_not_le : (v w : ℤ) → w <ℤ v → int_le v w ≡ false
    is_not_le v w h = grind (arith, nat_tests, ints)

    by_test : (b : Bool) → b ≡ int_le x y → int_le x y ≡ int_le (x +ℤ k) (y +ℤ k)
    by_test true e = let le = le_is x y (sym e) in sym e ∙ sym (is_le (x +ℤ k) (y +ℤ k) (omega (arith, ints, le)))
    by_test false e = let below = not_le x y (sym e) in sym e ∙ sym (is_not_le (x +ℤ k) (y +ℤ k) (omega (arith, ints, below)))

min_left : (x y z : ℤ) → z ≤ℤ int_min x y → z ≤ℤ x
min_left x y z h = omega (arith, ints, h, int_min_is x y)

min_right : (x y z : ℤ) → z ≤ℤ int_min x y → z ≤ℤ y
min_right x y z h = omega (arith, ints, h, int_min_is x y)

min_both : (x y z : ℤ) → z ≤ℤ x → z ≤ℤ y → z ≤ℤ int_min x y
min_both x y z h k = omega (arith, ints, h, k, int_min_is x y)

falling : (k : ℤ) (n p : ℕ) → k +ℤ pos n ≡ pos 0 → k *ℤ pos p +ℤ pos (p * n) ≡ pos 0
falling k n p h =
    let product : pos n *ℤ pos p ≡ pos (p * n) = pos-*ℤ-pos n p ∙ ap pos (mul_comm n p) in
    ap (λ (z : ℤ). k *ℤ pos p +ℤ z) (sym product) ∙ sym (distribute_right k (pos n) (pos p)) ∙ ap (λ (z : ℤ). z *ℤ pos p) h ∙ zero-*ℤ (pos p)

below_clipped : (d : ℤ) (k : ℕ) → k < clipped d → pos k <ℤ d
below_clipped (pos n) k h = omega (arith, ints, h)
below_clipped (negsuc n) k h = absurd (omega (arith, h))

in_between : (low high z : ℤ) → Contains (between low high) z → (low ≤ℤ z) × (z ≤ℤ high)
in_between low high z inside = in_rising (clipped ((high +ℤ pos 1) -ℤ low)) low z ((low ≤ℤ z) × (z ≤ℤ high)) inside
    (λ k less is.
    let below = below_clipped ((high +ℤ pos 1) -ℤ low) k less in
    (omega (arith, ints, is), omega (arith, ints, is, below)))

-- ---- statements

number_largest : (s : Symbols) (ls : List Form) (z : ℤ) → ls ≡ number z ∷ [] → largest s ls ≡ z
number_largest s ls z h = ap (largest s) h ∙ omega (arith, ints)

pub counted : (low high : ℤ) (n : ℕ) → AreTurns low high n → between low high ≡ rising low n
counted low high n h =
    let d : (high +ℤ pos 1) -ℤ low ≡ pos n = omega (arith, ints, h.to) in
    ap (λ (e : ℤ). rising low (clipped e)) d

ends_smallest : (s : Symbols) (ls : List Form) (z : ℤ) (e : Option (Bor Form)) → AreEnds z e ls → smallest s ls ≡ end_in s z e
ends_smallest s ls z None h = ap (smallest s) h ∙ omega (arith, ints)
ends_smallest s ls z (Some l) h =
    let same : form_value (number z) s ≡ z = omega (arith, ints) in
    ap (smallest s) h ∙ ap (λ (x : ℤ). int_min x (form_value l.now s)) same

pub span_turns : (s : Symbols) (x : Span1) (low z : ℤ) (e : Option (Bor Form)) → x.lower ≡ number low ∷ [] → AreEnds z e x.upper → turns s x ≡ between low (end_in s z e)
span_turns s x low z e lower upper =
    let first = number_largest s x.lower low lower in
    let last = ends_smallest s x.upper z e upper in
    λ k. between (first k) (last k)

end_narrow : (s : Symbols) (ls : List Form) (z : ℤ) (e : Option (Bor Form)) → AreEnds z e ls → FormsAreNarrow s ls → EndIsNarrow s e
end_narrow s ls z None h narrow = tt
end_narrow s ls z (Some l) h narrow =
    let both = recursion_from_All (FormIsNarrow s) (number z ∷ l.now ∷ []) (subst (λ (xs : List Form). All (FormIsNarrow s) xs) h narrow) in
    both.1.0

-- whether a form that may end a loop lets it go to this number
abbrev within : Symbols → Option (Bor Form) → ℤ → Bool
within s None w = true
within s (Some l) w = int_le w (form_value l.now s)

before_end : (s : Symbols) (h w : ℤ) (e : Option (Bor Form)) → w ≤ℤ end_in s h e → w ≤ℤ h
before_end s h w None le = le
before_end s h w (Some l) le = min_left h (form_value l.now s) w le

within_end : (s : Symbols) (h w : ℤ) (e : Option (Bor Form)) → w ≤ℤ end_in s h e → within s e w ≡ true
within_end s h w None le = refl
within_end s h w (Some l) le = is_le w (form_value l.now s) (min_right h (form_value l.now s) w le)

end_has : (s : Symbols) (h w : ℤ) (e : Option (Bor Form)) → w ≤ℤ h → within s e w ≡ true → w ≤ℤ end_in s h e
end_has s h w None le is = le
end_has s h w (Some l) le is = min_both h (form_value l.now s) w le (le_is w (form_value l.now s) is)

-- with each turn of the outer loop a form that falls by the inner loop's turns lets so many fewer of them be
within_turn : (e : Option (Bor Form)) (s : Symbols) (i : ℕ) (a c : ℤ) (p q n : ℕ) (f d : Bool) → EndFalls i (pos n) e →
    within (bind s i (a +ℤ pos p) f) e (c +ℤ pos q) ≡ within (bind s i a d) e (c +ℤ pos (p * n + q))
within_turn None s i a c p q n f d falls = refl
within_turn (Some l) s i a c p q n f d falls =
    let k = factor_of l.now.terms i in
    let x = form_value l.now (bind s i (a +ℤ pos p) f) in
    let y = form_value l.now (bind s i a d) in
    let moved : x ≡ y +ℤ k *ℤ pos p = form_moved l.now s i a (pos p) f d in
    let less : k *ℤ pos p +ℤ pos (p * n) ≡ pos 0 = falling k n p falls in
    let same : x +ℤ pos (p * n) ≡ y = omega (arith, ints, moved, less) in
    let w : c +ℤ pos q +ℤ pos (p * n) ≡ c +ℤ pos (p * n + q) = omega (arith, ints) in
    le_risen (c +ℤ pos q) x (pos (p * n)) ∙ (λ m. int_le (w m) (same m))

-- a loop that a form may end before is the whole one, where nothing is done behind the form's number
cut_more : (f : ℤ → List Action) (y c h : ℤ) (n : ℕ) → h +ℤ pos 1 ≡ c +ℤ pos (suc n) →
    flat_map f (between (c +ℤ pos 1) (int_min h y)) ≡ flat_map (λ w. if int_le w y then f w else []) (rising (c +ℤ pos 1) n) → (b : Bool) → b ≡ int_le c y →
    flat_map f (between c (int_min h y)) ≡ flat_map (λ w. if int_le w y then f w else []) (rising c (suc n))
cut_more f y c h n to rest true e =
    let low : c ≤ℤ h = omega (arith, ints, to) in
    let more = between_more c (int_min h y) (min_both h y c low (le_is c y (sym e))) in
    ap (flat_map f) more ∙ (λ k. (if e k then f c else []) ++ rest k)
cut_more f y c h n to rest false e =
    let below : y <ℤ c = not_le c y (sym e) in
    let le = min_right h y (int_min h y) (same_le (int_min h y)) in
    let here : int_min h y <ℤ c = omega (arith, ints, le, below) in
    let next : int_min h y <ℤ (c +ℤ pos 1) = omega (arith, ints, here) in
    ap (flat_map f) (between_none c (int_min h y) here ∙ sym (between_none (c +ℤ pos 1) (int_min h y) next)) ∙ (λ k. (if e k then f c else []) ++ rest k)

cut : (f : ℤ → List Action) (y c h : ℤ) (n : ℕ) → h +ℤ pos 1 ≡ c +ℤ pos n → flat_map f (between c (int_min h y)) ≡ flat_map (λ w. if int_le w y then f w else []) (rising c n)
cut f y c h zero to =
    let le = min_left h y (int_min h y) (same_le (int_min h y)) in
    let none : int_min h y <ℤ c = omega (arith, ints, le, to) in
    ap (flat_map f) (between_none c (int_min h y) none)
cut f y c h (suc n) to =
    let next : h +ℤ pos 1 ≡ c +ℤ pos 1 +ℤ pos n = omega (arith, ints, to) in
    cut_more f y c h n to (cut f y (c +ℤ pos 1) h n next) (int_le c y) refl

guarded : (f : ℤ → List Action) (s : Symbols) (e : Option (Bor Form)) (c h : ℤ) (n : ℕ) → AreTurns c h n →
    flat_map f (between c (end_in s h e)) ≡ flat_map (λ w. if within s e w then f w else []) (rising c n)
guarded f s None c h n t = ap (flat_map f) (counted c h n t)
guarded f s (Some l) c h n t = cut f (form_value l.now s) c h n t.to

-- the inner loop alone
pub inner_actions : (S : Setting) (s : Symbols) (body : Statement) (x : StoreLoop) (h : IsStoreLoop body x) (low high : ℤ) (e : Option (Bor Form)) (n : ℕ) →
    x.span.now.lower ≡ number low ∷ [] → AreEnds high e x.span.now.upper → AreTurns low high n →
    actions S body s
    ≡ flat_map (λ w. if within s e w then stored S x.line.buffer x.line.definition (map coordinate_of x.line.coordinates.now) (term_of x.line.value.now)
    (bind s x.symbol w (int_le w low)) ∷ [] else []) (rising low n)
inner_actions S s body x h low high e n lower upper t =
    let l = h.is in
    let f : ℤ → ℤ → List Action = λ begin w. actions S l.body (bind s x.symbol w (int_le w begin)) in
    let g : ℤ → List Action = λ w. stored S x.line.buffer x.line.definition (map coordinate_of x.line.coordinates.now) (term_of x.line.value.now) (bind s x.symbol w (int_le w low)) ∷ [] in
    let first = number_largest s x.span.now.lower low lower in
    let all = span_turns s x.span.now low high e lower upper in
    let each : (w : ℤ) → f low w ≡ g w = λ w.
    let now = bind s x.symbol w (int_le w low) in
    line_actions S now l.body l.line.line l.line.one ∙ ap (λ (b : Statement). actions S b now) l.line.store.is in
    line_actions S s body h.loop h.one ∙ ap (λ (b : Statement). actions S b s) l.is ∙ (λ k. flat_map (f (first k)) (all k)) ∙ (λ k. flat_map (λ w. each w k) (between low (end_in s high e))) ∙ guarded g s e low high n t

-- what both loops do is what the inner one does at all their turns, while the outer one is in its first
pub loops_run : (x : Piece) (s : Symbols) (outer : Turns) (body : Statement) (y : Joined) (h : AreJoined outer body y) →
    flat_map (λ z. actions (setting x) body (bind s outer.symbol z (int_le z outer.low))) (between outer.low outer.high)
    ≡ flat_map (store_at x y.inner.line.buffer y.inner.line.coordinates.now (term_of y.inner.line.value.now) (in_first outer s) y.turns.symbol y.turns.low y.inner.line.definition)
    (between y.turns.low (end_in (in_first outer s) y.turns.high y.ends.form))
loops_run x s outer body y h =
    let S = setting x in
    let j = h.joins in
    let i = outer.symbol in
    let a = outer.low in
    let c = y.turns.low in
    let line = y.inner.line in
    let cs = line.coordinates.now in
    let d = y.inner.line.definition in
    let at : Symbols → ℕ → ℤ → List Action = λ t k. store_at x line.buffer cs (term_of line.value.now) t k c d in
    let e = y.ends.form in
    let f : ℤ → ℤ → List Action = λ z w. if within (bind s i z (int_le z a)) e w then at (bind s i z (int_le z a)) y.inner.symbol w else [] in
    let g : ℤ → List Action = λ w. if within (in_first outer s) e w then at (in_first outer s) y.inner.symbol w else [] in
    let each : (z : ℤ) → actions S body (bind s i z (int_le z a)) ≡ flat_map (f z) (rising c j.count) = λ z.
    inner_actions S (bind s i z (int_le z a)) body y.inner h.loop c y.ends.high e j.count j.lower h.upper j.inner_turns in
    let turn : (p q : ℕ) → f (a +ℤ pos p) (c +ℤ pos q) ≡ g (c +ℤ pos (p * j.count + q)) = λ p q.
    let w = c +ℤ pos q in
    let v = c +ℤ pos (p * j.count + q) in
    let before = bind (bind s i (a +ℤ pos p) (int_le (a +ℤ pos p) a)) y.inner.symbol w (int_le w c) in
    let after = bind (in_first outer s) y.inner.symbol v (int_le v c) in
    let same = targets_turn cs s i y.inner.symbol a c p q j.count (int_le (a +ℤ pos p) a) (int_le w c) (int_le a a) (int_le v c) j.other j.coordinates in
    let store = stored_same S line.buffer d (map coordinate_of cs) (term_of line.value.now) before after same in
    let there = within_turn e s i a c p q j.count (int_le (a +ℤ pos p) a) (int_le a a) j.falls in
    λ k. if there k then store k ∷ [] else [] in
    (λ k. flat_map (λ z. each z k) (counted a outer.high j.turns j.outer_turns k))
    ∙ rows f g a c j.count j.turns turn
    ∙ sym (guarded (at (in_first outer s) y.inner.symbol) (in_first outer s) e c y.turns.high (j.turns * j.count) j.all_turns)
    ∙ (λ k. flat_map (at (in_first outer s) (sym j.symbol k)) (between c (end_in (in_first outer s) y.turns.high e)))

-- the forms of the inner loop's store are narrow at all these turns
pub loops_narrow : (Own : Symbols → Type 0) (s : Symbols) (outer : Turns) (body : Statement) (y : Joined) (h : AreJoined outer body y) →
    ((z : ℤ) → Contains (between outer.low outer.high) z → StatementIsNarrow Own body (bind s outer.symbol z (int_le z outer.low))) →
    (z : ℤ) → Contains (between y.turns.low (end_in (in_first outer s) y.turns.high y.ends.form)) z → All (CoordinateIsNarrow (bind (in_first outer s) y.turns.symbol z (int_le z y.turns.low))) y.inner.line.coordinates.now
loops_narrow Own s outer body y h narrow z inside =
    let j = h.joins in
    let i = outer.symbol in
    let a = outer.low in
    let c = y.turns.low in
    let l = h.loop.is in
    let cs = y.inner.line.coordinates.now in
    let Narrow : ℕ → ℤ → Type 0 = λ k w. All (CoordinateIsNarrow (bind (in_first outer s) k w (int_le z c))) cs in
    let e = y.ends.form in
    let last = in_between c (end_in (in_first outer s) y.turns.high e) z inside in
    let listed : Contains (rising c (j.turns * j.count)) z =
    subst (λ (zs : List ℤ). Contains zs z) (counted c y.turns.high (j.turns * j.count) j.all_turns) (between_has c y.turns.high z last.0 (before_end (in_first outer s) y.turns.high z e last.1)) in
    let inner : within (in_first outer s) e z ≡ true = within_end (in_first outer s) y.turns.high z e last.1 in
    let at : (p q : ℕ) → p < j.turns → q < j.count → z ≡ c +ℤ pos (p * j.count + q) → Narrow y.inner.symbol (c +ℤ pos (p * j.count + q)) = λ p q few less same.
    let w = c +ℤ pos q in
    let b = a +ℤ pos p in
    let t = bind s i b (int_le b a) in
    let has = subst (λ (zs : List ℤ). Contains zs b) (sym (counted a outer.high j.turns j.outer_turns)) (rising_has j.turns p a b few refl) in
    let loop = subst (λ (b : Statement). StatementIsNarrow Own b t) l.is (line_narrow Own t body h.loop.loop h.loop.one (narrow b has)) in
    let there : within t e w ≡ true = within_turn e s i a c p q j.count (int_le b a) (int_le a a) j.falls ∙ ap (within (in_first outer s) e) (sym same) ∙ inner in
    let top : w ≤ℤ y.ends.high = omega (arith, ints, j.inner_turns.to, less) in
    let from : c ≤ℤ w = omega (arith, ints) in
    let also = subst (λ (zs : List ℤ). Contains zs w) (sym (span_turns t y.inner.span.now c y.ends.high e j.lower h.upper)) (between_has c (end_in t y.ends.high e) w from (end_has t y.ends.high w e top there)) in
    let begun = int_le w (largest t y.inner.span.now.lower) in
    let now = bind t y.inner.symbol w begun in
    let here = subst (λ (b : Statement). StatementIsNarrow Own b now) l.line.store.is (line_narrow Own now l.body l.line.line l.line.one (loop.1 w also)) in
    all_narrow cs s i y.inner.symbol a c p q j.count (int_le b a) begun (int_le a a) (int_le z c) j.other j.coordinates
    (all_unmapped (λ (x : PlanCoordinate). IndexIsNarrow now x.index) coordinate_of cs here) in
    in_rising (j.turns * j.count) c z (Narrow y.turns.symbol z) listed
    (λ k less is. in_rows j.turns j.count k (Narrow y.turns.symbol z) less
    (λ p q few low same.
    let there : z ≡ c +ℤ pos (p * j.count + q) = is ∙ ap (λ (m : ℕ). c +ℤ pos m) same in
    subst (λ (m : ℕ). Narrow m z) (sym j.symbol) (subst (Narrow y.inner.symbol) (sym there) (at p q few low there))))

-- and the form that may end them
pub loops_end : (Own : Symbols → Type 0) (s : Symbols) (outer : Turns) (body : Statement) (y : Joined) (h : AreJoined outer body y) →
    ((z : ℤ) → Contains (between outer.low outer.high) z → StatementIsNarrow Own body (bind s outer.symbol z (int_le z outer.low))) →
    EndIsNarrow (in_first outer s) y.ends.form
loops_end Own s outer body y h narrow =
    let j = h.joins in
    let t = in_first outer s in
    let same : outer.low ≡ outer.low +ℤ pos 0 = omega (arith, ints) in
    let has = subst (λ (zs : List ℤ). Contains zs outer.low) (sym (counted outer.low outer.high j.turns j.outer_turns)) (rising_has j.turns 0 outer.low outer.low j.some same) in
    let loop = subst (λ (b : Statement). StatementIsNarrow Own b t) h.loop.is.is (line_narrow Own t body h.loop.loop h.loop.one (narrow outer.low has)) in
    end_narrow t y.inner.span.now.upper y.ends.high y.ends.form h.upper loop.0.upper

-- and it has room
pub record LineFits (own : Kept) (space : Space) (room n : ℕ) (x : StoreLoop) : Type 0 where
  pub symbols : n < room
  pub numbers : length x.line.coordinates.now ≤ space.numbers
  pub point : length x.line.coordinates.now ≤ space.point
  pub stack : indices_of_all x.line.coordinates.now + indices_in (term_of x.line.value.now) ≤ space.stack
  pub code : IsCoded own.codes x.line.buffer x.line.definition (map (λ c. string_bytes c.variable) x.line.coordinates.now) (term_of x.line.value.now)

pub loops_fit : (own : Kept) (space : Space) (room n : ℕ) (body : Statement) (x : StoreLoop) → IsStoreLoop body x → StatementFits own space room body n → LineFits own space room n x
loops_fit own space room n body x h fits =
    let l = h.is in
    let cs = x.line.coordinates.now in
    let loop = subst (λ (b : Statement). StatementFits own space room b n) l.is (line_fits own space room n body h.loop h.one fits) in
    let here = subst (λ (b : Statement). StatementFits own space room b (n + 1)) l.line.store.is (line_fits own space room (n + 1) l.body l.line.line l.line.one loop.1) in
    let count = length-map cs coordinate_of in
    record {
      symbols = loop.0;
      numbers = subst (λ (m : ℕ). m ≤ space.numbers) count here.0;
      point = subst (λ (m : ℕ). m ≤ space.point) count here.1;
      stack = subst (λ (m : ℕ). m + indices_in (term_of x.line.value.now) ≤ space.stack) (sym (indices_mapped cs)) here.2;
      code = subst (λ (names : List (List ℕ)). IsCoded own.codes x.line.buffer x.line.definition names (term_of x.line.value.now)) (names_is cs) here.3;
    }

pub apart : (m n : ℕ) → (m == n) ≡ false → m ≢ n
apart m n h e = let same : (m == n) ≡ true = grind (arith, nat_tests) in true≢false (sym same ∙ h)
