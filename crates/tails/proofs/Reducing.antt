-- The loops of a reduction: the coordinates that are their symbols, the ranges that they run over, and the steps that have nothing to
-- do with them.
use Rattle.std.proofs.Common.{◌≡◌, ℕ, zero, suc, ◌+◌, ◌*◌, Bool, true, false, List, [], ◌∷◌, ◌++◌, map, length, Some, None, refl, sym, ap, ◌∙◌, subst, arith}
use Rattle.std.specs.Prelude.{ℤ, pos, negsuc, ◌+ℤ◌, ◌-ℤ◌, ◌*ℤ◌, ◌≤ℤ◌, ◌==◌, ◌&&◌, not, if◌then◌else◌, int_le, reverse, flat_map, unsigned_abs}
use Rattle.std.specs.List.{list_any, list_all}
use Rattle.std.specs.Ordering.{int_eq}
use Rattle.std.proofs.lemmas.Int.{ints}
use Rattle.std.proofs.lemmas.List.{reverse-append}
use Rattle.lin.specs.Forms.{Form, is_zero, sum_of}
use Rattle.lin.specs.Search.{is_empty}
use Rattle.lin.specs.declared.form.Multiple.{Multiple}
use Rattle.lin.specs.declared.span.Span1.{Span1}
use Rattle.meaning.specs.Algorithm.{Range}
use Rattle.meaning.specs.Points.{AreRanges}
use Rattle.meaning.specs.Reduction.{width, size}
use Rattle.plan.specs.declared.stmt.Pick.TheVariants.{Min, Max}
use Rattle.plan.specs.Plan.{Index, At, Found, Coordinate}
use Rattle.plan.specs.Symbols.{Symbols, bind, form_value, rising, clipped, largest, smallest, turns}
use Rattle.plan.specs.Semantics.Actions.{fixed, index_target, target}
use Rattle.soundness.specs.Origins.{matches}
use Rattle.soundness.specs.Obligations.{Binder, Ranged, Picked, Passed, Lies, LieIn, Rules, picked, has_form}
use Rattle.soundness.specs.Shown.{is_within}
use Rattle.soundness.specs.Nests.Nest.{one_term, is_number, index_is, is_symbol}
use Rattle.soundness.specs.Nests.Tests.{has_ends, range_span, is_whole}
use Rattle.soundness.proofs.Forms.{is_not, turn_lies}
use Rattle.soundness.proofs.Refines.{and_parts, eq_true, number_refl, number_true}
use Rattle.soundness.proofs.Turns.{turns_have}
use Rattle.tails.specs.Steps.{Step, Turns, Named, Tested, binder, binds, Keeps}
use Rattle.tails.specs.Moves.{is_outer}
use Rattle.tails.specs.Maps.{visited}
use Rattle.tails.specs.Laws.{point_at}
use Rattle.tails.specs.Apart.{index_form, is_apart}
use Rattle.tails.specs.Updates.{forms_in, at_forms}
use Rattle.tails.proofs.Covering.{all_within}
use Rattle.tails.proofs.Lets.{outer_value, picked_holds}
use Rattle.tails.proofs.Walk.{forms_same, outer_picked}

pub never : {A : Type 0} → false ≡ true → A
never e = absurd (cc e)

heads : {A : Type 0} (x y : A) (xs ys : List A) → x ∷ xs ≡ y ∷ ys → (x ≡ y) × (xs ≡ ys)
heads x y xs ys e = (cc, cc)

-- ---- coordinates that are symbols

term_value : (c : ℤ) (t : Multiple) (i : ℕ) (v : ℕ → ℤ) (w : Bool) → c ≡ pos 0 → int_eq t.factor (pos 1) ≡ w → is_number i (if w then Some t.symbol else None) ≡ true → c +ℤ (t.factor *ℤ v t.symbol +ℤ pos 0) ≡ v i
term_value c t i v true z e h =
    let one : t.factor ≡ pos 1 = number_true t.factor (pos 1) e in
    ap (λ d. d +ℤ (t.factor *ℤ v t.symbol +ℤ pos 0)) z ∙ ap (λ k. pos 0 +ℤ (k *ℤ v t.symbol +ℤ pos 0)) one ∙ ap (λ j. pos 0 +ℤ (pos 1 *ℤ v j +ℤ pos 0)) (eq_true t.symbol i h) ∙ omega (arith, ints)
term_value c t i v false z e h = never h

terms_value : (c : ℤ) (ts : List Multiple) (i : ℕ) (v : ℕ → ℤ) → c ≡ pos 0 → is_number i (one_term ts) ≡ true → c +ℤ sum_of ts v ≡ v i
terms_value c [] i v z h = never h
terms_value c (t ∷ []) i v z h = term_value c t i v (int_eq t.factor (pos 1)) z refl h
terms_value c (t ∷ u ∷ ts) i v z h = never h

zero_value : (c : ℤ) (ts : List Multiple) (i : ℕ) (v : ℕ → ℤ) → is_number i (if is_zero c then one_term ts else None) ≡ true → c +ℤ sum_of ts v ≡ v i
zero_value (pos zero) ts i v h = terms_value (pos zero) ts i v refl h
zero_value (pos (suc n)) ts i v h = never h
zero_value (negsuc n) ts i v h = never h

pub symbol_value : (s : Symbols) (i : ℕ) (c : Coordinate) → is_symbol i c ≡ true → fixed (target s c) ≡ s.value i
symbol_value s i c h = of c.index h
  where
    of : (x : Index) → index_is i x ≡ true → fixed (index_target s x) ≡ s.value i
    of (At l) k = zero_value l.constant l.terms i s.value k
    of (Found e) k = never k

-- ---- points that are met

-- a point is met where its numbers are what the forms come to
pub meets : (s : Symbols) (cs : List Coordinate) (p : List ℤ) → length cs ≡ length p → point_at (forms_in cs) s ≡ at_forms cs p → matches (map (target s) cs) p ≡ true
meets s [] [] many same = refl
meets s [] (z ∷ zs) many same = absurd (omega (arith, many))
meets s (c ∷ cs) [] many same = absurd (omega (arith, many))
meets s (c ∷ cs) (z ∷ zs) many same = of c.index same (meets s cs zs (omega (arith, many)))
  where
    of : (x : Index) → point_at (if has_form x then index_form x ∷ forms_in cs else forms_in cs) s ≡ (if has_form x then z ∷ at_forms cs zs else at_forms cs zs) → (point_at (forms_in cs) s ≡ at_forms cs zs → matches (map (target s) cs) zs ≡ true) →
        matches (index_target s x ∷ map (target s) cs) (z ∷ zs) ≡ true
    of (At l) e rest =
        let k = heads (form_value l s) z (point_at (forms_in cs) s) (at_forms cs zs) e in
        ap (λ y. int_eq y z && matches (map (target s) cs) zs) k.0 ∙ ap (λ v. v && matches (map (target s) cs) zs) (number_refl z) ∙ rest k.1
    of (Found e) k rest = rest k

met_same : (s : Symbols) (cs : List Coordinate) (p : List ℤ) → matches (map (target s) cs) p ≡ true → (length cs ≡ length p) × (point_at (forms_in cs) s ≡ at_forms cs p)
met_same s [] [] h = (refl, refl)
met_same s [] (z ∷ zs) h = never h
met_same s (c ∷ cs) [] h = never h
met_same s (c ∷ cs) (z ∷ zs) h = of c.index h (met_same s cs zs)
  where
    of : (x : Index) → matches (index_target s x ∷ map (target s) cs) (z ∷ zs) ≡ true → (matches (map (target s) cs) zs ≡ true → (length cs ≡ length zs) × (point_at (forms_in cs) s ≡ at_forms cs zs)) →
        (suc (length cs) ≡ suc (length zs)) × (point_at (if has_form x then index_form x ∷ forms_in cs else forms_in cs) s ≡ (if has_form x then z ∷ at_forms cs zs else at_forms cs zs))
    of (At l) k rest =
        let a = and_parts (int_eq (form_value l s) z) (matches (map (target s) cs) zs) k in
        let r = rest a.1 in
        (ap suc r.0, λ j. number_true (form_value l s) z a.0 j ∷ r.1 j)
    of (Found e) k rest = let r = rest k in (ap suc r.0, r.1)

-- and else is not
pub unmet : (s : Symbols) (cs : List Coordinate) (p : List ℤ) → ((length cs ≡ length p) × (point_at (forms_in cs) s ≡ at_forms cs p) → ⊥) → matches (map (target s) cs) p ≡ false
unmet s cs p h = of (matches (map (target s) cs) p) refl
  where
    of : (v : Bool) → matches (map (target s) cs) p ≡ v → v ≡ false
    of true e = absurd (h (met_same s cs p e))
    of false e = refl

-- the numbers of a point that lies in a region
pub lie_at : (s : Symbols) (cs : List Coordinate) (region : List Span1) (p : List ℤ) → LieIn s region p → LieIn s (at_forms cs region) (at_forms cs p)
lie_at s [] region p h = tt
lie_at s (c ∷ cs) [] [] h = tt
lie_at s (c ∷ cs) [] (z ∷ zs) h = absurd h
lie_at s (c ∷ cs) (x ∷ xs) [] h = absurd h
lie_at s (c ∷ cs) (x ∷ xs) (z ∷ zs) h = of c.index (lie_at s cs xs zs h.1)
  where
    of : (y : Index) → LieIn s (at_forms cs xs) (at_forms cs zs) → LieIn s (if has_form y then x ∷ at_forms cs xs else at_forms cs xs) (if has_form y then z ∷ at_forms cs zs else at_forms cs zs)
    of (At l) rest = (h.0, rest)
    of (Found e) rest = rest

pub lie_length : (s : Symbols) (xs : List Span1) (p : List ℤ) → LieIn s xs p → length xs ≡ length p
lie_length s [] [] l = refl
lie_length s [] (z ∷ zs) l = absurd l
lie_length s (x ∷ xs) [] l = absurd l
lie_length s (x ∷ xs) (z ∷ zs) l = ap suc (lie_length s xs zs l.1)

-- ---- turns

pub turns_same : (cs : List Binder) (s t : Symbols) → Keeps cs s t → (x : Span1) → list_all (is_outer cs) x.lower ≡ true → list_all (is_outer cs) x.upper ≡ true → turns t x ≡ turns s x
turns_same cs s t k x low high =
    let l : largest t x.lower ≡ largest s x.lower = outer_picked cs s t k Max x.lower low in
    let u : smallest t x.upper ≡ smallest s x.upper = outer_picked cs s t k Min x.upper high in
    λ j. rising (l j) (clipped ((u j +ℤ pos 1) -ℤ l j))

keeps_bound : (cs : List Binder) (s t : Symbols) (i : ℕ) (z : ℤ) (a b : Bool) → Keeps cs s t → Keeps cs (bind s i z a) (bind t i z b)
keeps_bound cs s t i z a b k j h = of (j == i) (k j h)
  where
    of : (v : Bool) → t.value j ≡ s.value j → (if v then z else t.value j) ≡ (if v then z else s.value j)
    of true e = refl
    of false e = e

-- steps that have nothing to do with some symbols visit the same points whatever these are
pub visited_same : (cs : List Binder) (steps : List Step) (fs : List Form) (s t : Symbols) → Keeps cs s t → list_all (is_apart cs) (map binder steps) ≡ true → list_all (is_outer cs) fs ≡ true → visited steps fs t ≡ visited steps fs s
visited_same cs [] fs s t k apart outer = ap (λ p. p ∷ []) (forms_same cs s t k fs outer)
visited_same cs (Turns i x kind ∷ steps) fs s t k apart outer =
    let a = and_parts (is_apart cs (Ranged i x)) (list_all (is_apart cs) (map binder steps)) apart in
    let b = and_parts (not (list_any (binds i) cs)) (list_all (is_outer cs) x.lower && list_all (is_outer cs) x.upper) a.0 in
    let c = and_parts (list_all (is_outer cs) x.lower) (list_all (is_outer cs) x.upper) b.1 in
    let same = turns_same cs s t k x c.0 c.1 in
    λ j. flat_map (λ z. visited_same cs steps fs (bind s i z (int_le z (largest s x.lower))) (bind t i z (int_le z (largest t x.lower))) (keeps_bound cs s t i z (int_le z (largest s x.lower)) (int_le z (largest t x.lower)) k) a.1 outer j) (same j)
visited_same cs (Named i pick ls ∷ steps) fs s t k apart outer =
    let a = and_parts (is_apart cs (Picked i pick ls)) (list_all (is_apart cs) (map binder steps)) apart in
    let b = and_parts (not (list_any (binds i) cs)) (list_all (is_outer cs) ls) a.0 in
    ap (λ z. visited steps fs (bind t i z true)) (outer_picked cs s t k pick ls b.1)
    ∙ visited_same cs steps fs (bind s i (picked pick ls s) true) (bind t i (picked pick ls s) true) (keeps_bound cs s t i (picked pick ls s) true true k) a.1 outer
visited_same cs (Tested low high ∷ steps) fs s t k apart outer =
    let a = and_parts (is_apart cs (Passed low high)) (list_all (is_apart cs) (map binder steps)) apart in
    let b = and_parts (is_outer cs low) (is_outer cs high) a.0 in
    let first = outer_value cs s t k low b.0 in
    let second = outer_value cs s t k high b.1 in
    let rest = visited_same cs steps fs s t k a.1 outer in
    λ j. if int_le (first j) (second j) then rest j else []

-- ---- ranges

ends_hold : (s : Symbols) (x : Span1) (z : ℤ) → has_ends x ≡ true → Lies s x z → (largest s x.lower ≤ℤ z) × (z ≤ℤ smallest s x.upper)
ends_hold s x z ends lie =
    let a = and_parts (not (is_empty x.lower)) (not (is_empty x.upper)) ends in
    (picked_holds (λ v. v ≤ℤ z) s Max x.lower (is_not (is_empty x.lower) a.0) lie.0, picked_holds (λ v. z ≤ℤ v) s Min x.upper (is_not (is_empty x.upper) a.1) lie.1)

last_of : (low high : ℤ) (d : Range) → d.low ≤ℤ d.high → low ≡ d.low → high ≡ d.high → clipped ((high +ℤ pos 1) -ℤ low) ≡ width d
last_of low high d h e f = of ((high +ℤ pos 1) -ℤ low) refl
  where
    of : (w : ℤ) → w ≡ (high +ℤ pos 1) -ℤ low → clipped w ≡ width d
    of (pos n) g = omega (arith, ints, e, f, g, h)
    of (negsuc n) g = absurd (omega (arith, ints, e, f, g, h))

module _ (rules : Rules) (bs : List Binder) (s : Symbols) (ordered : (a b : Form) → rules.at_most bs a b ≡ true → form_value a s ≤ℤ form_value b s) where
  one_within : (x y : Span1) → is_within rules bs x y ≡ true → (z : ℤ) → Lies s x z → Lies s y z
  one_within x y h z l = (all_within rules bs s ordered (x ∷ []) (y ∷ []) (ap (λ v. v && true) h) (z ∷ []) (l, tt)).0

  -- a loop over a whole range has a turn for each of its numbers, and no more
  pub whole_turns : (x : Span1) (d : Range) → has_ends x ≡ true → is_whole rules bs x d ≡ true → d.low ≤ℤ d.high → turns s x ≡ rising d.low (width d)
  whole_turns x d ends h rises =
      let k = and_parts (is_within rules bs x (range_span d)) (is_within rules bs (range_span d) x) h in
      let low = largest s x.lower in
      let high = smallest s x.upper in
      let first = ends_hold s x d.low ends (one_within (range_span d) x k.1 d.low ((omega (arith, ints), tt), (omega (arith, ints, rises), tt))) in
      let last = ends_hold s x d.high ends (one_within (range_span d) x k.1 d.high ((omega (arith, ints, rises), tt), (omega (arith, ints), tt))) in
      let a = first.0 in
      let b = last.1 in
      let some : low ≤ℤ high = omega (arith, ints, a, b, rises) in
      let at_low = one_within x (range_span d) k.0 low (turn_lies s x low (turns_have s x low high low refl refl (omega (arith, ints)) some)) in
      let at_high = one_within x (range_span d) k.0 high (turn_lies s x high (turns_have s x low high high refl refl some (omega (arith, ints)))) in
      let c = at_low.0.0 in
      let e = at_high.1.0 in
      let low_is : low ≡ d.low = omega (arith, ints, a, c) in
      let high_is : high ≡ d.high = omega (arith, ints, b, e) in
      let many : clipped ((high +ℤ pos 1) -ℤ low) ≡ width d = last_of low high d rises low_is high_is in
      λ j. rising (low_is j) (many j)

-- ---- reversed lists

in_ranges : (xs ys : List Range) → AreRanges xs → AreRanges ys → AreRanges (xs ++ ys)
in_ranges [] ys h k = k
in_ranges (x ∷ xs) ys h k = (h.0, in_ranges xs ys h.1 k)

pub reverse_next : {A : Type 0} (x : A) (xs : List A) → reverse (x ∷ xs) ≡ reverse xs ++ x ∷ []
reverse_next x xs = reverse-append (x ∷ []) xs

pub ranges_reverse : (ds : List Range) → AreRanges ds → AreRanges (reverse ds)
ranges_reverse [] h = h
ranges_reverse (d ∷ ds) h = subst AreRanges (sym (reverse_next d ds)) (in_ranges (reverse ds) (d ∷ []) (ranges_reverse ds h.1) (h.0, tt))

product_one : (a w : ℕ) → a * (w * 1) ≡ w * a
product_one a w = omega arith

product_next : (w a b : ℕ) → w * (a * b) ≡ (w * a) * b
product_next w a b = omega arith

size_append : (ds es : List Range) → size (ds ++ es) ≡ size ds * size es
size_append [] es = omega arith
size_append (d ∷ ds) es = ap (λ n. width d * n) (size_append ds es) ∙ product_next (width d) (size ds) (size es)

pub size_reverse : (ds : List Range) → size (reverse ds) ≡ size ds
size_reverse [] = refl
size_reverse (d ∷ ds) = ap size (reverse_next d ds) ∙ size_append (reverse ds) (d ∷ []) ∙ ap (λ n. n * (width d * 1)) (size_reverse ds) ∙ product_one (size ds) (width d)

-- ---- numbers of steps

pub next_rank : (z low : ℤ) (more : ℕ) → low ≤ℤ z → unsigned_abs ((z +ℤ pos 1) -ℤ low) + more ≡ (unsigned_abs (z -ℤ low) + more) + 1
next_rank z low more h = let e : unsigned_abs ((z +ℤ pos 1) -ℤ low) ≡ unsigned_abs (z -ℤ low) + 1 = omega (arith, ints, h) in omega (arith, e)

pub no_way : (low : ℤ) → unsigned_abs (low -ℤ low) ≡ 0
no_way low = omega (arith, ints)

pub whole_way : (low : ℤ) (n : ℕ) → unsigned_abs ((low +ℤ pos n) -ℤ low) ≡ n
whole_way low n = let e : (low +ℤ pos n) -ℤ low ≡ pos n = omega (arith, ints) in ap unsigned_abs e

pub steps_first : (base w rk m : ℕ) → base + (0 + w * rk) * m ≡ base + rk * (w * m)
steps_first base w rk m = omega arith

pub steps_last : (base w rk m : ℕ) → base + (w + w * rk) * m ≡ base + (rk + 1) * (w * m)
steps_last base w rk m = omega arith
