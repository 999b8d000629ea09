-- An update's nest does each step in its turn.
use Rattle.std.proofs.Common.{◌≡◌, ℕ, suc, ◌+◌, ◌*◌, Bool, true, false, List, [], ◌∷◌, ◌++◌, map, length, refl, sym, ap, ◌∙◌, subst, inl, inr, append_assoc, arith}
use Rattle.std.specs.Prelude.{ℤ, pos, negsuc, ◌+ℤ◌, ◌-ℤ◌, ◌≤ℤ◌, ◌<ℤ◌, ◌==◌, ◌||◌, ◌&&◌, not, if◌then◌else◌, ◌⊎◌, IsTrue, int_le, filter, reverse, flat_map, unsigned_abs}
use Rattle.std.specs.List.{list_any, list_all}
use Rattle.std.specs.Ordering.{int_eq}
use Rattle.std.proofs.lemmas.Int.{ints, by_lt_z}
use Rattle.std.proofs.lemmas.List.{reverse-reverse, reverse-append, append-nil}
use Rattle.tree.specs.Term.{Term}
use Rattle.meaning.specs.Algorithm.{Range}
use Rattle.meaning.specs.Points.{AreRanges, IsIn}
use Rattle.meaning.specs.Reduction.{width, size, rank}
use Rattle.plan.specs.Plan.{Index, At, Found, Coordinate}
use Rattle.plan.specs.Symbols.{Symbols, bind, rising, clipped, largest, smallest}
use Rattle.plan.specs.Semantics.Actions.{Action, Change, Target, Fixed, Open, fixed, index_target, target}
use Rattle.soundness.specs.Origins.{Given, matches}
use Rattle.soundness.specs.Claims.{In}
use Rattle.soundness.specs.Obligations.{Lies, Binder, Respects, Rules, Suited, is_form, has_form}
use Rattle.soundness.proofs.Forms.{is_not, turn_lies}
use Rattle.soundness.proofs.Refines.{eq_refl, eq_true, and_parts, number_refl, number_true}
use Rattle.soundness.proofs.Sound.{or_left, or_right}
use Rattle.soundness.proofs.Turns.{turns_have}
use Rattle.soundness.specs.Nests.Nest.{Loop, is_symbol}
use Rattle.soundness.specs.Nests.Tests.{is_once, is_given, are_apart, has_ends, range_span, is_among, is_whole, are_whole}
use Rattle.soundness.specs.Shown.{is_within}
use Rattle.soundness.proofs.Coordinates.{never, any_in, none_in, coordinate, Pairs, front_paired, symbol_at, ends_hold, one_inside}
use Rattle.soundness.proofs.Filled.{Matched}
use Rattle.soundness.proofs.Steps.{Takes, Passes, takes_turns, passes_turns, takes_one}
use Rattle.soundness.proofs.Visits.{Spin, spin_of, visits, now_bound, is_bound}

-- ---- symbols of coordinates

abbrev any : ℕ → List Coordinate → Bool
any i cs = list_any (is_symbol i) cs

once_any : (i : ℕ) (cs : List Coordinate) → is_once i cs ≡ true → any i cs ≡ true
once_any i [] h = never h
once_any i (c ∷ cs) h = of (is_symbol i c) h (once_any i cs)
  where
    of : (v : Bool) → (if v then not (any i cs) else is_once i cs) ≡ true → (is_once i cs ≡ true → any i cs ≡ true) → (v || any i cs) ≡ true
    of true k rest = refl
    of false k rest = rest k

any_back : (i : ℕ) (cs ds : List Coordinate) → any i (cs ++ ds) ≡ false → any i ds ≡ false
any_back i [] ds h = h
any_back i (c ∷ cs) ds h = any_back i cs ds (or_right (is_symbol i c) (any i (cs ++ ds)) h)

-- a symbol of one coordinate is among the first or among the others
once_parts : (i : ℕ) (cs ds : List Coordinate) → is_once i (cs ++ ds) ≡ true → ((any i cs ≡ true) × (any i ds ≡ false)) ⊎ ((any i cs ≡ false) × (any i ds ≡ true))
once_parts i [] ds h = inr (refl, once_any i ds h)
once_parts i (c ∷ cs) ds h = of (is_symbol i c) h (once_parts i cs ds)
  where
    of : (v : Bool) → (if v then not (any i (cs ++ ds)) else is_once i (cs ++ ds)) ≡ true → (is_once i (cs ++ ds) ≡ true → ((any i cs ≡ true) × (any i ds ≡ false)) ⊎ ((any i cs ≡ false) × (any i ds ≡ true))) →
        (((v || any i cs) ≡ true) × (any i ds ≡ false)) ⊎ (((v || any i cs) ≡ false) × (any i ds ≡ true))
    of true k rest = inl (refl, any_back i cs ds (is_not (any i (cs ++ ds)) k))
    of false k rest = rest k

all_front : {A : Type 0} (test : A → Bool) (xs ys : List A) → list_all test (xs ++ ys) ≡ true → list_all test xs ≡ true
all_front test [] ys h = refl
all_front test (x ∷ xs) ys h = let k = and_parts (test x) (list_all test (xs ++ ys)) h in both (test x) (list_all test xs) k.0 (all_front test xs ys k.1)
  where
    both : (a b : Bool) → a ≡ true → b ≡ true → (a && b) ≡ true
    both true b h k = k
    both false b h k = never h

differs : (y z : ℤ) → (y ≡ z → ⊥) → int_eq y z ≡ false
differs y z h = of (int_eq y z) refl
  where
    of : (v : Bool) → int_eq y z ≡ v → v ≡ false
    of true e = absurd (h (number_true y z e))
    of false e = refl

match_rest : (x : Target) (ts : List Target) (z : ℤ) (zs : List ℤ) → matches ts zs ≡ false → matches (x ∷ ts) (z ∷ zs) ≡ false
match_rest (Fixed y) ts z zs h = ap (λ v. int_eq y z && v) h ∙ of (int_eq y z)
  where
    of : (v : Bool) → (v && false) ≡ false
    of true = refl
    of false = refl
match_rest (Open e) ts z zs h = h

-- where a coordinate's symbol is not the point's, the point is not met
misses : (t : Symbols) (i : ℕ) (cs : List Coordinate) (p : List ℤ) → any i cs ≡ true → (t.value i ≡ coordinate i cs p → ⊥) → matches (map (target t) cs) p ≡ false
misses t i [] p h k = never h
misses t i (c ∷ cs) [] h k = refl
misses t i (c ∷ cs) (z ∷ zs) h k = of (is_symbol i c) refl h k (misses t i cs zs)
  where
    of : (v : Bool) → is_symbol i c ≡ v → (v || any i cs) ≡ true → (t.value i ≡ (if v then z else coordinate i cs zs) → ⊥) → (any i cs ≡ true → (t.value i ≡ coordinate i cs zs → ⊥) → matches (map (target t) cs) zs ≡ false) →
        matches (map (target t) (c ∷ cs)) (z ∷ zs) ≡ false
    of true e a b rest = ap (λ x. matches (x ∷ map (target t) cs) (z ∷ zs)) (symbol_at t i c e).1 ∙ ap (λ w. w && matches (map (target t) cs) zs) (differs (t.value i) z b)
    of false e a b rest = match_rest (target t c) (map (target t) cs) z zs (rest a b)

mismatched : (t : Symbols) (cs : List Coordinate) (p : List ℤ) → (length cs ≡ length p → ⊥) → matches (map (target t) cs) p ≡ false
mismatched t [] [] h = absurd (h refl)
mismatched t [] (z ∷ zs) h = refl
mismatched t (c ∷ cs) [] h = refl
mismatched t (c ∷ cs) (z ∷ zs) h = match_rest (target t c) (map (target t) cs) z zs (mismatched t cs zs (λ e. h (ap suc e)))

index_open : (t : Symbols) (x : Index) (ts : List Target) (z : ℤ) (zs : List ℤ) → has_form x ≡ false → matches ts zs ≡ true → matches (index_target t x ∷ ts) (z ∷ zs) ≡ true
index_open t (At l) ts z zs h k = never (sym h)
index_open t (Found e) ts z zs h k = k

pub given_any : (ls : List Loop) (c : Coordinate) → is_form c ≡ true → is_given ls c ≡ true → list_any (λ l. is_symbol l.symbol c) ls ≡ true
given_any ls c f h = of (is_form c) (list_any (λ l. is_symbol l.symbol c) ls) f h
  where
    of : (v w : Bool) → v ≡ true → (not v || w) ≡ true → w ≡ true
    of true w e k = k
    of false w e k = never e

-- where each loop's symbol is what the point says, the point is met
meets : (t : Symbols) (ls : List Loop) (v : ℕ → ℤ) (cs : List Coordinate) (p : List ℤ) → length cs ≡ length p → list_all (is_given ls) cs ≡ true → ((l : Loop) → In l ls → Pairs l.symbol (v l.symbol) cs p) →
    ((l : Loop) → In l ls → (t.value l.symbol ≡ v l.symbol) ⊎ (any l.symbol cs ≡ false)) → matches (map (target t) cs) p ≡ true
meets t ls v [] [] many all pairs values = refl
meets t ls v [] (z ∷ zs) many all pairs values = absurd (omega (arith, many))
meets t ls v (c ∷ cs) [] many all pairs values = absurd (omega (arith, many))
meets t ls v (c ∷ cs) (z ∷ zs) many all pairs values =
    let a = and_parts (is_given ls c) (list_all (is_given ls) cs) all in
    of (is_form c) refl a.0 (meets t ls v cs zs (omega (arith, many)) a.1 (λ l m. (pairs l m).1) (λ l m. later l (values l m)))
  where
    later : (l : Loop) → (t.value l.symbol ≡ v l.symbol) ⊎ ((is_symbol l.symbol c || any l.symbol cs) ≡ false) → (t.value l.symbol ≡ v l.symbol) ⊎ (any l.symbol cs ≡ false)
    later l (inl e) = inl e
    later l (inr e) = inr (or_right (is_symbol l.symbol c) (any l.symbol cs) e)

    here : (l : Loop) → In l ls → is_symbol l.symbol c ≡ true → (t.value l.symbol ≡ v l.symbol) ⊎ ((is_symbol l.symbol c || any l.symbol cs) ≡ false) → target t c ≡ Fixed z
    here l m e (inl same) = (symbol_at t l.symbol c e).1 ∙ ap Fixed (same ∙ sym ((pairs l m).0 e))
    here l m e (inr none) = absurd (cc (e, or_left (is_symbol l.symbol c) (any l.symbol cs) none))

    of : (w : Bool) → is_form c ≡ w → is_given ls c ≡ true → matches (map (target t) cs) zs ≡ true → matches (map (target t) (c ∷ cs)) (z ∷ zs) ≡ true
    of false e g rest = index_open t c.index (map (target t) cs) z zs e rest
    of true e g rest =
        let l = any_in (λ (l : Loop). is_symbol l.symbol c) ls (given_any ls c e g) in
        ap (λ x. matches (x ∷ map (target t) cs) (z ∷ zs)) (here l.0 l.1 l.2 (values l.0 l.1)) ∙ ap (λ w. w && matches (map (target t) cs) zs) (number_refl z) ∙ rest

-- ---- reversed lists

in_ranges : (xs ys : List Range) → AreRanges xs → AreRanges ys → AreRanges (xs ++ ys)
in_ranges [] ys h k = k
in_ranges (x ∷ xs) ys h k = (h.0, in_ranges xs ys h.1 k)

-- the first of a list is the last of the list reversed
reverse_next : {A : Type 0} (x : A) (xs : List A) → reverse (x ∷ xs) ≡ reverse xs ++ x ∷ []
reverse_next x xs = reverse-append (x ∷ []) xs

ranges_reverse : (ds : List Range) → AreRanges ds → AreRanges (reverse ds)
ranges_reverse [] h = h
ranges_reverse (d ∷ ds) h = subst AreRanges (sym (reverse_next d ds)) (in_ranges (reverse ds) (d ∷ []) (ranges_reverse ds h.1) (h.0, tt))

product_one : (a w : ℕ) → a * (w * 1) ≡ w * a
product_one a w = omega arith

product_next : (w a b : ℕ) → w * (a * b) ≡ (w * a) * b
product_next w a b = omega arith

size_append : (ds es : List Range) → size (ds ++ es) ≡ size ds * size es
size_append [] es = omega arith
size_append (d ∷ ds) es = ap (λ n. width d * n) (size_append ds es) ∙ product_next (width d) (size ds) (size es)

size_reverse : (ds : List Range) → size (reverse ds) ≡ size ds
size_reverse [] = refl
size_reverse (d ∷ ds) = ap size (reverse_next d ds) ∙ size_append (reverse ds) (d ∷ []) ∙ ap (λ n. n * (width d * 1)) (size_reverse ds) ∙ product_one (size ds) (width d)

-- ---- turns

clip_below : (w low high z : ℤ) → w ≡ (high +ℤ pos 1) -ℤ low → low ≤ℤ z → z ≤ℤ high → z <ℤ (low +ℤ pos (clipped w))
clip_below (pos n) low high z e h k = omega (arith, ints)
clip_below (negsuc n) low high z e h k = absurd (omega (arith, ints))

-- the loop has a turn for the number
abbrev pub Fits : Symbols → (ℕ → ℤ) → Loop → Type 0
Fits s v l = (largest s l.span.lower ≤ℤ v l.symbol) × (v l.symbol <ℤ (largest s l.span.lower +ℤ pos (spin_of s l).count))

pub fits_span : (s : Symbols) (v : ℕ → ℤ) (l : Loop) → has_ends l.span ≡ true → Lies s l.span (v l.symbol) → Fits s v l
fits_span s v l h k =
    let e = ends_hold s l.span (v l.symbol) h k in
    (e.0, clip_below ((smallest s l.span.upper +ℤ pos 1) -ℤ largest s l.span.lower) (largest s l.span.lower) (smallest s l.span.upper) (v l.symbol) refl e.0 e.1)

-- or none
abbrev Lacks : Symbols → (ℕ → ℤ) → Loop → Type 0
Lacks s v l = (z : ℤ) → largest s l.span.lower ≤ℤ z → z <ℤ (largest s l.span.lower +ℤ pos (spin_of s l).count) → z ≡ v l.symbol → ⊥

fits_or : (s : Symbols) (v : ℕ → ℤ) (l : Loop) → Fits s v l ⊎ Lacks s v l
fits_or s v l =
    let low = largest s l.span.lower in
    let n = (spin_of s l).count in
    by_lt_z (v l.symbol) low
    (λ under. inr (λ z a b e. absurd (omega (arith, ints, under, a, e))))
    (λ from. by_lt_z (v l.symbol) (low +ℤ pos n) (λ below. inl (from, below)) (λ above. inr (λ z a b e. absurd (omega (arith, ints, above, b, e)))))

all_fit_or : (s : Symbols) (v : ℕ → ℤ) (test : Loop → Bool) (ls : List Loop) → ((l : Loop) → In l ls → test l ≡ false → Fits s v l) ⊎ ((l : Loop) × In l ls × (test l ≡ false) × Lacks s v l)
all_fit_or s v test [] = inl (λ l m. absurd m)
all_fit_or s v test (l ∷ ls) = of (test l) refl (fits_or s v l) (all_fit_or s v test ls)
  where
    of : (w : Bool) → test l ≡ w → Fits s v l ⊎ Lacks s v l → ((m : Loop) → In m ls → test m ≡ false → Fits s v m) ⊎ ((m : Loop) × In m ls × (test m ≡ false) × Lacks s v m) →
        ((m : Loop) → In m (l ∷ ls) → test m ≡ false → Fits s v m) ⊎ ((m : Loop) × In m (l ∷ ls) × (test m ≡ false) × Lacks s v m)
    of w e h (inr r) = inr (r.0, inr r.1, r.2, r.3)
    of false e (inr k) (inl r) = inr (l, inl refl, e, k)
    of false e (inl k) (inl r) = inl (λ m n f. elim n [ inl same ↦ subst (Fits s v) (sym same) k | inr i ↦ r m i f ])
    of true e h (inl r) = inl (λ m n f. elim n [ inl same ↦ never (sym f ∙ ap test same ∙ e) | inr i ↦ r m i f ])

-- ---- the loops of the reduction

last_of : (low high : ℤ) (d : Range) → d.low ≤ℤ d.high → low ≡ d.low → high ≡ d.high → clipped ((high +ℤ pos 1) -ℤ low) ≡ width d
last_of low high d h e f = of ((high +ℤ pos 1) -ℤ low) refl
  where
    of : (w : ℤ) → w ≡ (high +ℤ pos 1) -ℤ low → clipped w ≡ width d
    of (pos n) g = omega (arith, ints, e, f, g, h)
    of (negsuc n) g = absurd (omega (arith, ints, e, f, g, h))

-- a loop over a whole range
whole_spin : (given : Given) (rules : Rules) → Suited given rules → (bs : List Binder) (s : Symbols) → Respects bs s → (l : Loop) (d : Range) → has_ends l.span ≡ true → is_whole rules bs l.span d ≡ true → d.low ≤ℤ d.high →
    ((spin_of s l).low ≡ d.low) × ((spin_of s l).count ≡ width d)
whole_spin given rules suited bs s r l d ends h rises =
    let k = and_parts (is_within rules bs l.span (range_span d)) (is_within rules bs (range_span d) l.span) h in
    let low = largest s l.span.lower in
    let high = smallest s l.span.upper in
    let first = ends_hold s l.span d.low ends (one_inside given rules suited bs s r (range_span d) l.span k.1 d.low ((omega (arith, ints), tt), (omega (arith, ints, rises), tt))) in
    let last = ends_hold s l.span d.high ends (one_inside given rules suited bs s r (range_span d) l.span k.1 d.high ((omega (arith, ints, rises), tt), (omega (arith, ints), tt))) in
    let a = first.0 in
    let b = last.1 in
    let some : low ≤ℤ high = omega (arith, ints, a, b, rises) in
    let at_low = one_inside given rules suited bs s r l.span (range_span d) k.0 low (turn_lies s l.span low (turns_have s l.span low high low refl refl (omega (arith, ints)) some)) in
    let at_high = one_inside given rules suited bs s r l.span (range_span d) k.0 high (turn_lies s l.span high (turns_have s l.span low high high refl refl some (omega (arith, ints)))) in
    let c = at_low.0.0 in
    let e = at_high.1.0 in
    let low_is : low ≡ d.low = omega (arith, ints, a, c) in
    let high_is : high ≡ d.high = omega (arith, ints, b, e) in
    (low_is, last_of low high d rises low_is high_is)

-- ---- the nest

dec_eq : (m n : ℕ) → (m ≡ n) ⊎ (m ≡ n → ⊥)
dec_eq m n = of (m == n) refl
  where
    of : (v : Bool) → (m == n) ≡ v → (m ≡ n) ⊎ (m ≡ n → ⊥)
    of true e = inl (eq_true m n e)
    of false e = inr (λ same. never (sym e ∙ ap (λ j. m == j) (sym same) ∙ eq_refl m))

-- passed coordinates of the reduction, with their numbers: no loop to come has their symbols
abbrev Passed : List Loop → Symbols → List Coordinate → List ℤ → Type 0
Passed ls s [] [] = Unit {0}
Passed ls s (c ∷ cs) (z ∷ zs) = ((i : ℕ) × (is_symbol i c ≡ true) × (s.value i ≡ z) × ((l : Loop) → In l ls → (i == l.symbol) ≡ false)) × Passed ls s cs zs
Passed ls s _ _ = ⊥

other_bound : (s : Symbols) (i j : ℕ) (z : ℤ) (c : Bool) → (i == j) ≡ false → (bind s j z c).value i ≡ s.value i
other_bound s i j z c h = ap (λ w. if w then z else s.value i) h

passed_on : (l : Loop) (ls : List Loop) (s : Symbols) (z : ℤ) (b : Bool) (cs : List Coordinate) (zs : List ℤ) → Passed (l ∷ ls) s cs zs → Passed ls (bind s l.symbol z b) cs zs
passed_on l ls s z b [] [] h = tt
passed_on l ls s z b [] (y ∷ ys) h = absurd h
passed_on l ls s z b (c ∷ cs) [] h = absurd h
passed_on l ls s z b (c ∷ cs) (y ∷ ys) h =
    ((h.0.0, h.0.1, other_bound s h.0.0 l.symbol z b (h.0.3 l (inl refl)) ∙ h.0.2, λ m n. h.0.3 m (inr n)), passed_on l ls s z b cs ys h.1)

passed_values : (ls : List Loop) (s : Symbols) (cs : List Coordinate) (zs : List ℤ) → Passed ls s cs zs → map (λ c. fixed (target s c)) cs ≡ zs
passed_values ls s [] [] h = refl
passed_values ls s [] (z ∷ zs) h = absurd h
passed_values ls s (c ∷ cs) [] h = absurd h
passed_values ls s (c ∷ cs) (z ∷ zs) h =
    let head : fixed (target s c) ≡ z = ap fixed (symbol_at s h.0.0 c h.0.1).1 ∙ h.0.2 in
    λ j. head j ∷ passed_values ls s cs zs h.1 j

-- numbers of steps
next_rank : (z low : ℤ) (more : ℕ) → low ≤ℤ z → unsigned_abs ((z +ℤ pos 1) -ℤ low) + more ≡ (unsigned_abs (z -ℤ low) + more) + 1
next_rank z low more h = let e : unsigned_abs ((z +ℤ pos 1) -ℤ low) ≡ unsigned_abs (z -ℤ low) + 1 = omega (arith, ints, h) in omega (arith, e)

no_way : (low : ℤ) → unsigned_abs (low -ℤ low) ≡ 0
no_way low = omega (arith, ints)

whole_way : (low : ℤ) (n : ℕ) → unsigned_abs ((low +ℤ pos n) -ℤ low) ≡ n
whole_way low n = let e : (low +ℤ pos n) -ℤ low ≡ pos n = omega (arith, ints) in ap unsigned_abs e

steps_first : (base w rk m : ℕ) → base + (0 + w * rk) * m ≡ base + rk * (w * m)
steps_first base w rk m = omega arith

steps_last : (base w rk m : ℕ) → base + (w + w * rk) * m ≡ base + (rk + 1) * (w * m)
steps_last base w rk m = omega arith

module _ (given : Given) (rules : Rules) (suited : Suited given rules) (bs : List Binder) (t : Symbols) (r : Respects bs t) where
  module _ (b c : ℕ) (f : List ℕ) (k : ℕ) (ds : List Range) (names : List (List ℕ)) (left over : List Coordinate) (e : Term) (act : Symbols → List Action) where
    -- the store at each visit, and what is counted
    pub record IsUpdate : Type 0 where
      pub own : c ≡ b
      pub visit : (s : Symbols) → act s ≡ Change c f (suc k) names (map (target s) left) (map (λ c. fixed (target s c)) over) e ∷ []
      pub ranges : AreRanges ds
      pub inside : (z : List ℤ) → IsIn ds z → IsTrue (given.in_domain f (suc k) z)
      pub step : (z : List ℤ) → IsIn ds z → given.step_at f (suc k) z ≡ given.steps f k + rank ds z

    module _ (is : IsUpdate) (all : List Loop) (matched : Matched all (left ++ over)) (p : List ℤ) where
      abbrev v : ℕ → ℤ
      v i = coordinate i left p

      abbrev T : ℕ → List Action → ℕ → Type 0
      T = Takes given b f (suc k) p

      abbrev base : ℕ
      base = given.steps f k

      abbrev nest : List Loop → Symbols → List Action
      nest ls s = visits act (map (spin_of t) ls) s

      abbrev turn : Loop → List Loop → Symbols → ℤ → List Action
      turn l ls s z = nest ls (bind s l.symbol z (int_le z (spin_of t l).low))

      missed : (s : Symbols) → matches (map (target s) left) p ≡ false → Passes given b f (suc k) p (act s)
      missed s h n = subst (λ xs. T n xs n) (sym (is.visit s)) (is.own, inr (h, refl))

      -- a point of another number of coordinates is not met
      strange : (ks : List Spin) (s : Symbols) → (length left ≡ length p → ⊥) → Passes given b f (suc k) p (visits act ks s)
      strange [] s h = missed s (mismatched s left p h)
      strange (j ∷ ks) s h = passes_turns given b f (suc k) p (λ z. visits act ks (bind s j.symbol z (int_le z j.low))) j.count j.low (λ z m n. strange ks (bind s j.symbol z (int_le z j.low)) h)

      -- nor is one of which a symbol says otherwise
      passing : (i : ℕ) → any i left ≡ true → (ls : List Loop) (s : Symbols) → ((l : Loop) → In l ls → (i == l.symbol) ≡ false) → (s.value i ≡ v i → ⊥) → Passes given b f (suc k) p (nest ls s)
      passing i among [] s apart h = missed s (misses s i left p among h)
      passing i among (l ∷ ls) s apart h =
          passes_turns given b f (suc k) p (turn l ls s) (spin_of t l).count (spin_of t l).low
          (λ z m n. passing i among ls (bind s l.symbol z (int_le z (spin_of t l).low)) (λ j o. apart j (inr o)) (λ same. h (sym (other_bound s i l.symbol z (int_le z (spin_of t l).low) (apart l (inl refl))) ∙ same)))

      apart_from : (l : Loop) (ls : List Loop) → are_apart (l ∷ ls) ≡ true → (m : Loop) → In m ls → (l.symbol == m.symbol) ≡ false
      apart_from l ls h =
          none_in (λ (m : Loop). l.symbol == m.symbol) ls (is_not (list_any (λ (m : Loop). l.symbol == m.symbol) ls) (and_parts (not (list_any (λ (m : Loop). l.symbol == m.symbol) ls)) (are_apart ls) h).0)

      apart_rest : (l : Loop) (ls : List Loop) → are_apart (l ∷ ls) ≡ true → are_apart ls ≡ true
      apart_rest l ls h = (and_parts (not (list_any (λ (m : Loop). l.symbol == m.symbol) ls)) (are_apart ls) h).1

      -- nor is one for which a loop has no turn
      lacking : (ls : List Loop) (s : Symbols) (l : Loop) → are_apart ls ≡ true → In l ls → any l.symbol left ≡ true → Lacks t v l → Passes given b f (suc k) p (nest ls s)
      lacking [] s l apart m among h = absurd m
      lacking (x ∷ ls) s l apart (inr m) among h =
          passes_turns given b f (suc k) p (turn x ls s) (spin_of t x).count (spin_of t x).low
          (λ z n o. lacking ls (bind s x.symbol z (int_le z (spin_of t x).low)) l (apart_rest x ls apart) m among h)
      lacking (x ∷ ls) s l apart (inl same) among h =
          let among' : any x.symbol left ≡ true = subst (λ (y : Loop). any y.symbol left ≡ true) same among in
          let h' : Lacks t v x = subst (Lacks t v) same h in
          passes_turns given b f (suc k) p (turn x ls s) (spin_of t x).count (spin_of t x).low
          (λ z n o. passing x.symbol among' ls (bind s x.symbol z (int_le z (spin_of t x).low)) (apart_from x ls apart)
          (λ is_same. h' z n o (sym (now_bound s x.symbol z (int_le z (spin_of t x).low)) ∙ is_same)))

      -- where the loops stand: those to come, and what is passed
      record Way (ls : List Loop) (rcs : List Coordinate) (rds : List Range) (pcs : List Coordinate) (pds : List Range) (vs : List ℤ) (s : Symbols) : Type 0 where
        pub sub : (l : Loop) → In l ls → In l all
        pub apart : are_apart ls ≡ true
        pub whole : are_whole rules bs (filter (is_among over) ls) rcs rds ≡ true
        pub ranges : AreRanges rds
        pub is_in : IsIn pds vs
        pub passed : Passed ls s pcs vs
        pub coordinates : reverse rcs ++ pcs ≡ over
        pub domain : reverse rds ++ pds ≡ ds
        pub bound : (l : Loop) → In l all → In l ls ⊎ ((s.value l.symbol ≡ v l.symbol) ⊎ (any l.symbol left ≡ false))

      abbrev NestTakes : List Loop → Type 0
      NestTakes ls = (rcs : List Coordinate) (rds : List Range) (pcs : List Coordinate) (pds : List Range) (vs : List ℤ) (s : Symbols) → Way ls rcs rds pcs pds vs s →
          T (base + rank pds vs * size rds) (nest ls s) (base + (rank pds vs + 1) * size rds)

      module _ (many : length left ≡ length p) (fit : (l : Loop) → In l all → is_among over l ≡ false → Fits t v l) where
        takes_store : NestTakes []
        takes_store [] [] pcs pds vs s w =
            let cs : pcs ≡ over = w.coordinates in
            let qs : pds ≡ ds = w.domain in
            let values : map (λ c. fixed (target s c)) over ≡ vs = subst (λ xs. map (λ c. fixed (target s c)) xs ≡ vs) cs (passed_values [] s pcs vs w.passed) in
            let inside : IsIn ds vs = subst (λ xs. IsIn xs vs) qs w.is_in in
            let met = meets s all v left p many (all_front (is_given all) left over matched.all) (λ l m. front_paired l.symbol left over p (matched.once l m)) (λ l m. elim (w.bound l m) [ inl n ↦ absurd n | inr n ↦ n ]) in
            let step : given.step_at f (suc k) vs ≡ base + rank pds vs * 1 = is.step vs inside ∙ ap (λ xs. base + rank xs vs) (sym qs) ∙ (let one : base + rank pds vs ≡ base + rank pds vs * 1 = omega arith in one) in
            let more : (base + rank pds vs * 1) + 1 ≡ base + (rank pds vs + 1) * 1 = omega arith in
            subst (λ xs. T (base + rank pds vs * 1) xs (base + (rank pds vs + 1) * 1)) (sym (is.visit s)) (
              is.own,
              inl (
                met,
                subst (λ zs. IsTrue (given.in_domain f (suc k) zs)) (sym values) (is.inside vs inside),
                ap (given.step_at f (suc k)) values ∙ step,
                more,
              ),
            )
        takes_store [] (d ∷ rds) pcs pds vs s w = never w.whole
        takes_store (x ∷ rcs) rds pcs pds vs s w = never w.whole

        takes_reduced : (l : Loop) (ls : List Loop) → is_among over l ≡ true → NestTakes ls → (rcs : List Coordinate) (rds : List Range) (pcs : List Coordinate) (pds : List Range) (vs : List ℤ) (s : Symbols) →
            are_whole rules bs (l ∷ filter (is_among over) ls) rcs rds ≡ true → Way (l ∷ ls) rcs rds pcs pds vs s →
            T (base + rank pds vs * size rds) (nest (l ∷ ls) s) (base + (rank pds vs + 1) * size rds)
        takes_reduced l ls among rest [] rds pcs pds vs s whole w = never whole
        takes_reduced l ls among rest (x ∷ rcs) [] pcs pds vs s whole w = never whole
        takes_reduced l ls among rest (x ∷ rcs) (d ∷ rds) pcs pds vs s whole w =
            let h = and_parts (is_symbol l.symbol x) (is_whole rules bs l.span d && are_whole rules bs (filter (is_among over) ls) rcs rds) whole in
            let g = and_parts (is_whole rules bs l.span d) (are_whole rules bs (filter (is_among over) ls) rcs rds) h.1 in
            let rises : d.low ≤ℤ d.high = w.ranges.0 in
            let spin = whole_spin given rules suited bs t r l d (matched.ends l (w.sub l (inl refl))) g.0 rises in
            let rk = rank pds vs in
            let m = size rds in
            let n = width d in
            let begin : ℤ → ℕ = λ z. base + (unsigned_abs (z -ℤ d.low) + n * rk) * m in
            let not_left : any l.symbol left ≡ false = elim (once_parts l.symbol left over (matched.once l (w.sub l (inl refl)))) [ inl both ↦ absurd (cc (among, both.1)) | inr both ↦ both.0 ] in
            let one : (z : ℤ) → d.low ≤ℤ z → z <ℤ (d.low +ℤ pos n) → T (begin z) (turn l ls s z) (begin (z +ℤ pos 1)) =
            λ z low high.
            let flag = int_le z (spin_of t l).low in
            let way : Way ls rcs rds (x ∷ pcs) (d ∷ pds) (z ∷ vs) (bind s l.symbol z flag) = record {
              sub = λ j o. w.sub j (inr o);
              apart = apart_rest l ls w.apart;
              whole = g.1;
              ranges = w.ranges.1;
              is_in = (low, omega (arith, ints, low, high, rises), w.is_in);
              passed = ((l.symbol, h.0, now_bound s l.symbol z flag, apart_from l ls w.apart), passed_on l ls s z flag pcs vs w.passed);
              coordinates = sym (append_assoc (reverse rcs) (x ∷ []) pcs) ∙ ap (λ xs. xs ++ pcs) (sym (reverse_next x rcs)) ∙ w.coordinates;
              domain = sym (append_assoc (reverse rds) (d ∷ []) pds) ∙ ap (λ xs. xs ++ pds) (sym (reverse_next d rds)) ∙ w.domain;
              bound = λ j o. bound_other l ls s z flag j not_left (w.bound j o);
            } in
            subst (T (begin z) (turn l ls s z)) (ap (λ i. base + i * m) (sym (next_rank z d.low (n * rk) low))) (rest rcs rds (x ∷ pcs) (d ∷ pds) (z ∷ vs) (bind s l.symbol z flag) way) in
            let turns = takes_turns given b f (suc k) p begin (turn l ls s) n d.low one in
            let first : begin d.low ≡ base + rk * (n * m) = ap (λ i. base + (i + n * rk) * m) (no_way d.low) ∙ steps_first base n rk m in
            let last : begin (d.low +ℤ pos n) ≡ base + (rk + 1) * (n * m) = ap (λ i. base + (i + n * rk) * m) (whole_way d.low n) ∙ steps_last base n rk m in
            subst (λ i. T i (nest (l ∷ ls) s) (base + (rk + 1) * (n * m))) first (subst (λ j. T (begin d.low) (nest (l ∷ ls) s) j) last
            (subst (λ (z : ℤ). T (begin d.low) (flat_map (turn l ls s) (rising z (spin_of t l).count)) (begin (d.low +ℤ pos n))) (sym spin.0)
            (subst (λ (i : ℕ). T (begin d.low) (flat_map (turn l ls s) (rising d.low i)) (begin (d.low +ℤ pos n))) (sym spin.1) turns)))
          where
            bound_other : (l : Loop) (ls : List Loop) (s : Symbols) (z : ℤ) (flag : Bool) (j : Loop) → any l.symbol left ≡ false → In j (l ∷ ls) ⊎ ((s.value j.symbol ≡ v j.symbol) ⊎ (any j.symbol left ≡ false)) →
                In j ls ⊎ (((bind s l.symbol z flag).value j.symbol ≡ v j.symbol) ⊎ (any j.symbol left ≡ false))
            bound_other l ls s z flag j none (inl (inl same)) = inr (inr (ap (λ (y : Loop). any y.symbol left) same ∙ none))
            bound_other l ls s z flag j none (inl (inr o)) = inl o
            bound_other l ls s z flag j none (inr (inr o)) = inr (inr o)
            bound_other l ls s z flag j none (inr (inl o)) = of (j.symbol == l.symbol) refl
              where
                of : (u : Bool) → (j.symbol == l.symbol) ≡ u → In j ls ⊎ (((bind s l.symbol z flag).value j.symbol ≡ v j.symbol) ⊎ (any j.symbol left ≡ false))
                of true q = inr (inr (ap (λ i. any i left) (eq_true j.symbol l.symbol q) ∙ none))
                of false q = inr (inl (other_bound s j.symbol l.symbol z flag q ∙ o))

        takes_pure : (l : Loop) (ls : List Loop) → is_among over l ≡ false → NestTakes ls → (rcs : List Coordinate) (rds : List Range) (pcs : List Coordinate) (pds : List Range) (vs : List ℤ) (s : Symbols) →
            are_whole rules bs (filter (is_among over) ls) rcs rds ≡ true → Way (l ∷ ls) rcs rds pcs pds vs s →
            T (base + rank pds vs * size rds) (nest (l ∷ ls) s) (base + (rank pds vs + 1) * size rds)
        takes_pure l ls among rest rcs rds pcs pds vs s whole w =
            let here : any l.symbol left ≡ true = elim (once_parts l.symbol left over (matched.once l (w.sub l (inl refl)))) [ inl both ↦ both.0 | inr both ↦ absurd (cc (among, both.1)) ] in
            let has = fit l (w.sub l (inl refl)) among in
            let z = v l.symbol in
            let flag = int_le z (spin_of t l).low in
            let way : Way ls rcs rds pcs pds vs (bind s l.symbol z flag) = record {
              sub = λ j o. w.sub j (inr o);
              apart = apart_rest l ls w.apart;
              whole = whole;
              ranges = w.ranges;
              is_in = w.is_in;
              passed = passed_on l ls s z flag pcs vs w.passed;
              coordinates = w.coordinates;
              domain = w.domain;
              bound = λ j o. bound_here l ls s flag j (w.bound j o);
            } in
            takes_one given b f (suc k) p (turn l ls s) z (base + rank pds vs * size rds) (base + (rank pds vs + 1) * size rds) (spin_of t l).count (spin_of t l).low has.0 has.1
            (rest rcs rds pcs pds vs (bind s l.symbol z flag) way)
            (λ y other. passing l.symbol here ls (bind s l.symbol y (int_le y (spin_of t l).low)) (apart_from l ls w.apart)
            (λ same. other (sym (now_bound s l.symbol y (int_le y (spin_of t l).low)) ∙ same)))
          where
            bound_here : (l : Loop) (ls : List Loop) (s : Symbols) (flag : Bool) (j : Loop) → In j (l ∷ ls) ⊎ ((s.value j.symbol ≡ v j.symbol) ⊎ (any j.symbol left ≡ false)) →
                In j ls ⊎ (((bind s l.symbol (v l.symbol) flag).value j.symbol ≡ v j.symbol) ⊎ (any j.symbol left ≡ false))
            bound_here l ls s flag j (inl (inl same)) = inr (inl (subst (λ (y : Loop). (bind s l.symbol (v l.symbol) flag).value y.symbol ≡ v y.symbol) (sym same) (now_bound s l.symbol (v l.symbol) flag)))
            bound_here l ls s flag j (inl (inr o)) = inl o
            bound_here l ls s flag j (inr (inr o)) = inr (inr o)
            bound_here l ls s flag j (inr (inl o)) = inr (inl (is_bound s j.symbol l.symbol v flag o))

        takes_loop : (l : Loop) (ls : List Loop) (u : Bool) → is_among over l ≡ u → NestTakes ls → (rcs : List Coordinate) (rds : List Range) (pcs : List Coordinate) (pds : List Range) (vs : List ℤ) (s : Symbols) →
            are_whole rules bs (if u then l ∷ filter (is_among over) ls else filter (is_among over) ls) rcs rds ≡ true → Way (l ∷ ls) rcs rds pcs pds vs s →
            T (base + rank pds vs * size rds) (nest (l ∷ ls) s) (base + (rank pds vs + 1) * size rds)
        takes_loop l ls true e rest = takes_reduced l ls e rest
        takes_loop l ls false e rest = takes_pure l ls e rest

        takes_nest : (ls : List Loop) → NestTakes ls
        takes_nest [] = takes_store
        takes_nest (l ∷ ls) = λ rcs rds pcs pds vs s w. takes_loop l ls (is_among over l) refl (takes_nest ls) rcs rds pcs pds vs s w.whole w

        -- the point takes all steps of the definition
        pub takes_all : are_whole rules bs (filter (is_among over) all) (reverse over) (reverse ds) ≡ true → T base (nest all t) (base + size ds)
        takes_all whole =
            let way : Way all (reverse over) (reverse ds) [] [] [] t = record {
              sub = λ l m. m;
              apart = matched.apart;
              whole = whole;
              ranges = ranges_reverse ds is.ranges;
              is_in = tt;
              passed = tt;
              coordinates = append-nil (reverse (reverse over)) ∙ reverse-reverse over;
              domain = append-nil (reverse (reverse ds)) ∙ reverse-reverse ds;
              bound = λ l m. inl m;
            } in
            let first : base + 0 * size (reverse ds) ≡ base = omega arith in
            let last : base + (0 + 1) * size (reverse ds) ≡ base + size ds = (let one : base + (0 + 1) * size (reverse ds) ≡ base + size (reverse ds) = omega arith in one) ∙ ap (λ n. base + n) (size_reverse ds) in
            subst (λ n. T n (nest all t) (base + size ds)) first (subst (λ n. T (base + 0 * size (reverse ds)) (nest all t) n) last (takes_nest all (reverse over) (reverse ds) [] [] [] t way))

      -- each point takes all steps or none
      pub takes_some : are_whole rules bs (filter (is_among over) all) (reverse over) (reverse ds) ≡ true → (n : ℕ) × T base (nest all t) n
      takes_some whole = of (dec_eq (length left) (length p)) (all_fit_or t v (is_among over) all)
        where
          of : (length left ≡ length p) ⊎ (length left ≡ length p → ⊥) → ((l : Loop) → In l all → is_among over l ≡ false → Fits t v l) ⊎ ((l : Loop) × In l all × (is_among over l ≡ false) × Lacks t v l) → (n : ℕ) × T base (nest all t) n
          of (inr other) h = (base, strange (map (spin_of t) all) t other base)
          of (inl many) (inl fit) = (base + size ds, takes_all many fit whole)
          of (inl many) (inr out) =
              (base, lacking all t out.0 matched.apart out.1 (elim (once_parts out.0.symbol left over (matched.once out.0 out.1)) [ inl both ↦ both.0 | inr both ↦ absurd (cc (out.2, both.1)) ]) out.3 base)
