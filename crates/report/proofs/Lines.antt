-- How often the lines of each kind of statement count.
use Rattle.std.proofs.Common.{◌≡◌, ℕ, zero, suc, ◌+◌, ◌-◌, ◌*◌, ◌^◌, ◌<◌, ◌≤◌, take, drop, get_or, Bool, true, false, not, List, [], ◌∷◌, length, refl, sym, ap, ◌∙◌, subst, arith, ℤ, pos}
use Rattle.std.proofs.Common.{negsuc, ◌+ℤ◌, ◌-ℤ◌, ◌≤ℤ◌, ◌<ℤ◌, Option, Some, None, Result, w64, SFits, to_z, of_z}
use Rattle.std.specs.Prelude.{if◌then◌else◌, int_le, int_lt, ◌/◌, sum_by, IfOk, IfSome}
use Rattle.std.proofs.lemmas.Result.{IfOk-weaker}
use lib.IntN.{nat_abs}
use lib.Signed.{quot_z}
use Rattle.interpreter.proofs.Summing.{rest_of}
use Rattle.plan.specs.declared.stmt.Stmt.{Stmt}
use Rattle.report.proofs.Places.{from}
use Rattle.std.proofs.lemmas.Int.{ints, to_z-of_z, of_z-to_z}
use Rattle.lin.specs.Forms.{Form}
use Rattle.lin.specs.declared.span.Span1.{Span1}
use Rattle.plan.specs.declared.stmt.Kind.{Kind}
use Rattle.plan.specs.Plan.{Statement, Seq, For, First, Guard, Fetch, Statements, Empty}
use Rattle.plan.specs.Symbols.{Symbols, bind, form_value, largest, smallest, points}
use Rattle.interpreter.specs.Narrow.{FormIsNarrow, RegionIsNarrow, SpanIsNarrow}
use Rattle.interpreter.specs.Visits.{between}
use Rattle.interpreter.proofs.Counting.{between_has}
use Rattle.report.specs.declared.known.Binding.{Binding}
use Rattle.report.specs.declared.counting.Turns.{Turns}
use Rattle.report.specs.declared.ranges.Range.{Range}
use Rattle.report.specs.Costs.{up_to}
use Rattle.report.specs.Counting.{Fits, IsPointCount, IsTally, IsBlockTally, IsTurnsTally}
use Rattle.report.specs.Known.{known_of, Allows, AllowsAll, IsSettled, AllSettled}
use Rattle.report.specs.Ranges.{Holds, HoldsEnds}
use Rattle.report.specs.Tally.{tally, Counted}
use Rattle.report.proofs.Sums.{lower_limit}
use Rattle.report.proofs.Tallies.{is_le, le_true, le_false, lt_true}

-- what is known of a name
abbrev pub named_binding : ℕ → ℤ → ℤ → Binding
named_binding i low high = record { symbol = i; low = low; high = high; first = true; later = false }

-- the same, where the numbers were written and read back
pub read_back : (i : ℕ) (r : Range) → SFits w64 r.low → SFits w64 r.high →
    named_binding i (to_z w64 (of_z w64 r.low)) (to_z w64 (of_z w64 r.high)) ≡ named_binding i r.low r.high
read_back i r f g = (λ j. record { symbol = i; low = to_z-of_z w64 r.low f j; high = to_z-of_z w64 r.high g j; first = true; later = false })

-- ---- loops

pub same_sum : (x : Counted) (i : ℕ) (body : Statement) (s : Symbols) (l low h high : ℤ) → l ≡ low → h ≡ high →
    sum_by (λ z. tally x body (bind s i z (int_le z low))) (between low high) ≡ sum_by (λ z. tally x body (bind s i z (int_le z l))) (between l h)
same_sum x i body s l low h high e f = (λ j. sum_by (λ z. tally x body (bind s i z (int_le z (sym e j)))) (between (sym e j) (sym f j)))

pub turn_fits : (i : ℕ) (span : Span1) (body : Statement) (s : Symbols) (r : Range) → HoldsEnds s span r →
    ((z : ℤ) → largest s span.lower ≤ℤ z → z ≤ℤ smallest s span.upper → Fits body (bind s i z (int_le z (largest s span.lower)))) → (z : ℤ) → Holds r z → Fits body (bind s i z (int_le z r.low))
turn_fits i span body s r ends fits z h =
    subst (λ (l : ℤ). Fits body (bind s i z (int_le z l))) ends.low
    (fits z (subst (λ (l : ℤ). l ≤ℤ z) (sym ends.low) h.low) (subst (λ (u : ℤ). z ≤ℤ u) (sym ends.high) h.high))

pub loop_tally : (x : Counted) (known : List Binding) (i : ℕ) (span : Span1) (kind : Kind) (body : Statement) (r : Range) (t : Turns) (n : ℕ) →
    t ≡ record { symbol = i; start = r.low; range = r } → ((s : Symbols) → AllowsAll known s → SpanIsNarrow s span → HoldsEnds s span r)
    → IsTurnsTally x known body t n → IsTally x known (For i span kind body) n
loop_tally x known i span kind body r t n is ends tally_is = record {
  is = λ s allows fits.
      let e : HoldsEnds s span r = ends s allows fits.0 in
      let one : IsTurnsTally x known body (record { symbol = i; start = r.low; range = r }) n = subst (λ (u : Turns). IsTurnsTally x known body u n) is tally_is in
      one.is s allows (turn_fits i span body s r e (λ z from to. fits.1 z (between_has (largest s span.lower) (smallest s span.upper) z from to)))
      ∙ ap (up_to x.enough) (same_sum x i body s (largest s span.lower) r.low (smallest s span.upper) r.high e.low e.high);
}

-- ---- lines that ask which turn it is

never : (t : Bool) → (t ≡ false → false ≡ true) → t ≡ true
never true h = refl
never false h = absurd (let e : false ≡ true = h refl in cc)

pub first_branch : (t : Bool) (a b : ℕ) → t ≡ true → (if t then a else b) ≡ a
first_branch true a b h = refl
first_branch false a b h = absurd (cc)

pub later_branch : (t : Bool) (a b : ℕ) → t ≡ false → (if t then a else b) ≡ b
later_branch false a b h = refl
later_branch true a b h = absurd (cc)

pub not_later : (b : Binding) (z : ℤ) (f : Bool) → b.later ≡ false → Allows b z f → f ≡ true
not_later b z f e h = never f (λ g. sym e ∙ h.later g)

pub not_first : (b : Binding) (z : ℤ) (f : Bool) → b.first ≡ false → Allows b z f → f ≡ false
not_first b z true e h = absurd (let g : b.first ≡ true = h.first refl in cc)
not_first b z false e h = refl

pub first_tally : (x : Counted) (known : List Binding) (i : ℕ) (b : Binding) (one other : Statement) (n : ℕ) → b ≡ known_of known i → b.later ≡ false → IsTally x known one n →
    IsTally x known (First i one other) n
first_tally x known i b one other n is later sum = record {
  is = λ s allows fits.
      let turn : s.first i ≡ true = not_later b (s.value i) (s.first i) later (subst (λ (c : Binding). Allows c (s.value i) (s.first i)) (sym is) (allows i)) in
      sum.is s allows (fits.0 turn) ∙ ap (up_to x.enough) (sym (first_branch (s.first i) (tally x one s) (tally x other s) turn));
}

pub later_tally : (x : Counted) (known : List Binding) (i : ℕ) (b : Binding) (one other : Statement) (n : ℕ) → b ≡ known_of known i → b.first ≡ false → IsTally x known other n →
    IsTally x known (First i one other) n
later_tally x known i b one other n is first sum = record {
  is = λ s allows fits.
      let turn : s.first i ≡ false = not_first b (s.value i) (s.first i) first (subst (λ (c : Binding). Allows c (s.value i) (s.first i)) (sym is) (allows i)) in
      sum.is s allows (fits.1 turn) ∙ ap (up_to x.enough) (sym (later_branch (s.first i) (tally x one s) (tally x other s) turn));
}

both_turns : {P : Type 0} (b : Binding) → IsSettled b → b.later ≡ true → b.first ≡ true → P
both_turns b h later first = absurd (let e : true ≡ false = sym later ∙ h.turn ∙ ap not first in cc)

-- no settled symbol may be in a first turn and in a later one
pub one_turn : {P : Type 0} (known : List Binding) (i : ℕ) (b : Binding) → b ≡ known_of known i → b.later ≡ true → b.first ≡ true → AllSettled known → P
one_turn known i b is later first all = both_turns b (subst IsSettled (sym is) (all i)) later first

-- ---- guards

pub over : (x y : ℤ) → y <ℤ x → int_le x y ≡ false
over x y h = by (int_le x y) refl
  where
    by : (b : Bool) → int_le x y ≡ b → int_le x y ≡ false
    by true e = absurd (let l : x ≤ℤ y = le_true x y e in omega (arith, ints))
    by false e = e

pub guard_tally : (x : Counted) (known : List Binding) (low high : Form) (l h : Range) (body : Statement) (n : ℕ) →
    ((s : Symbols) → AllowsAll known s → FormIsNarrow s low → Holds l (form_value low s)) → ((s : Symbols) → AllowsAll known s → FormIsNarrow s high → Holds h (form_value high s)) →
    l.high ≤ℤ h.low → IsTally x known body n → IsTally x known (Guard low high body) n
guard_tally x known low high l h body n lows highs lt sum = record {
  is = λ s allows fits.
      let a : Holds l (form_value low s) = lows s allows fits.0 in
      let b : Holds h (form_value high s) = highs s allows fits.1 in
      let t : int_le (form_value low s) (form_value high s) ≡ true = is_le (form_value low s) (form_value high s) (omega (arith, ints, a.high, b.low)) in
      sum.is s allows (fits.2 t) ∙ ap (up_to x.enough) (sym (first_branch (int_le (form_value low s) (form_value high s)) (tally x body s) 0 t));
}

pub guard_none : (x : Counted) (known : List Binding) (low high : Form) (l h : Range) (body : Statement) →
    ((s : Symbols) → AllowsAll known s → FormIsNarrow s low → Holds l (form_value low s)) → ((s : Symbols) → AllowsAll known s → FormIsNarrow s high → Holds h (form_value high s)) →
    h.high <ℤ l.low → IsTally x known (Guard low high body) 0
guard_none x known low high l h body lows highs lt = record {
  is = λ s allows fits.
      let a : Holds l (form_value low s) = lows s allows fits.0 in
      let b : Holds h (form_value high s) = highs s allows fits.1 in
      let t : int_le (form_value low s) (form_value high s) ≡ false = over (form_value low s) (form_value high s) (omega (arith, ints, a.low, b.high)) in
      ap (up_to x.enough) (sym (later_branch (int_le (form_value low s) (form_value high s)) (tally x body s) 0 t));
}

-- ---- lines that fetch or store

pub fetch_tally : (x : Counted) (known : List Binding) (b g : ℕ) (region : List Span1) (n : ℕ) → x.enough < 2 ^ 64 → x.group g ≡ true → IsPointCount known region n →
    IsTally x known (Fetch b g region) n
fetch_tally x known b g region n small is points_are = record {
  is = λ s allows fits. lower_limit x.enough n (length (points s region)) small (points_are s allows fits) ∙ ap (up_to x.enough) (sym (first_branch (x.group g) (length (points s region)) 0 is));
}

pub fetch_none : (x : Counted) (known : List Binding) (b g : ℕ) (region : List Span1) → x.group g ≡ false → IsTally x known (Fetch b g region) 0
fetch_none x known b g region is = record {
  is = λ s allows fits. ap (up_to x.enough) (sym (later_branch (x.group g) (length (points s region)) 0 is));
}

pub store_tally : (x : Counted) (known : List Binding) (a : Statement) (t : Bool) (n : ℕ) → ((s : Symbols) → tally x a s ≡ (if t then 1 else 0)) → n ≡ (if t then 1 else 0) → IsTally x known a n
store_tally x known a t n is e = record { is = λ s allows fits. ap (up_to x.enough) (e ∙ sym (is s)) }

pub none_tally : (x : Counted) (known : List Binding) (a : Statement) → ((s : Symbols) → tally x a s ≡ 0) → IsTally x known a 0
none_tally x known a is = record { is = λ s allows fits. ap (up_to x.enough) (sym (is s)) }

-- ---- what a call found

pub some_weaker : {P Q : ℕ → Type 0} (o : Option ℕ) → ((n : ℕ) → P n → Q n) → IfSome o P → IfSome o Q
some_weaker None f h = tt
some_weaker (Some n) f h = f n h

pub found_weaker : {E : Type 0} {P Q : ℕ → Type 0} (r : Result (Option ℕ) E) → ((n : ℕ) → P n → Q n) → IfOk r (λ o. IfSome o P) → IfOk r (λ o. IfSome o Q)
found_weaker r f h = IfOk-weaker r _ _ (λ o g. some_weaker o f g) h

-- ---- blocks and regions

pub block_is : (x : Counted) (known : List Binding) (all : Statements) (n : ℕ) → IsBlockTally x known all n → IsTally x known (Seq all) n
block_is x known all n h = record { is = λ s allows fits. h.is s allows fits }

pub from_end : (all : List Stmt) (i : ℕ) → length all ≤ i → from all i ≡ Empty
from_end [] zero h = refl
from_end [] (suc i) h = refl
from_end (x ∷ xs) zero h = absurd (omega arith)
from_end (x ∷ xs) (suc i) h = from_end xs i (omega arith)

pub span_narrow : (s : Symbols) (region : List Span1) (x : Span1) → 1 ≤ length region → x ≡ get_or region 0 x → RegionIsNarrow s region → SpanIsNarrow s x
span_narrow s region x some is narrow = subst (SpanIsNarrow s) (sym is) (narrow 0 x (omega (arith, some)))

pub rest_narrow : (s : Symbols) (region : List Span1) → 1 ≤ length region → RegionIsNarrow s region → RegionIsNarrow s (take (length region - 1) (drop 1 region))
rest_narrow s [] some narrow = absurd (omega arith)
rest_narrow s (y ∷ ys) some narrow = subst (RegionIsNarrow s) (sym (rest_of y ys)) (λ k z lt. narrow (suc k) z (omega arith))

-- ---- how far turns are tried

fits_between : (low z high : ℤ) → SFits w64 low → SFits w64 high → low ≤ℤ z → z ≤ℤ high → SFits w64 z
fits_between low (pos n) (pos m) f g a b = record { sfits = omega (arith, ints, b, g.sfits) }
fits_between low (pos n) (negsuc m) f g a b = absurd (omega (arith, ints, b))
fits_between (negsuc k) (negsuc n) high f g a b = record { sfits = omega (arith, ints, a, f.sfits) }
fits_between (pos k) (negsuc n) high f g a b = absurd (omega (arith, ints, a))

-- the number behind one that is not the last
pub next_read : (high last : ℤ) → SFits w64 high → SFits w64 last → high <ℤ last → to_z w64 (of_z w64 (to_z w64 (of_z w64 high) +ℤ pos 1)) ≡ high +ℤ pos 1
next_read high last f g lt =
    let fits : SFits w64 (high +ℤ pos 1) = fits_between high (high +ℤ pos 1) last f g (omega (arith, ints)) (omega (arith, ints, lt)) in
    ap (λ (z : ℤ). to_z w64 (of_z w64 (z +ℤ pos 1))) (to_z-of_z w64 high f) ∙ to_z-of_z w64 (high +ℤ pos 1) fits

fewer : (a b f r : ℕ) → a < b → f < 2 ^ 64 → a * 2 ^ 64 + f < b * 2 ^ 64 + r
fewer a b f r h k = omega arith

-- fewer turns are left
pub fewer_turns : (last low high reach next farther : ℤ) → low ≤ℤ high → high ≤ℤ last → next ≡ high +ℤ pos 1 → SFits w64 farther →
    nat_abs ((last +ℤ pos 1) -ℤ next) * 2 ^ 64 + nat_abs farther < nat_abs ((last +ℤ pos 1) -ℤ low) * 2 ^ 64 + nat_abs reach
fewer_turns last low high reach next farther from to is fits =
    fewer (nat_abs ((last +ℤ pos 1) -ℤ next)) (nat_abs ((last +ℤ pos 1) -ℤ low)) (nat_abs farther) (nat_abs reach) (omega (arith, ints, from, to, is)) (small farther fits)
  where
    small : (z : ℤ) → SFits w64 z → nat_abs z < 2 ^ 64
    small (pos n) f = omega (arith, ints, f.sfits)
    small (negsuc n) f = omega (arith, ints, f.sfits)

-- as many are left, and fewer are tried
pub nearer : (a : ℕ) (reach next : ℤ) → pos 0 ≤ℤ next → next <ℤ reach → a * 2 ^ 64 + nat_abs next < a * 2 ^ 64 + nat_abs reach
nearer a reach next h k = let e : nat_abs next < nat_abs reach = omega (arith, ints, h, k) in omega (arith, e)

-- numbers that were written and read back
pub read_le : (x y : ℤ) → SFits w64 x → SFits w64 y → int_le (to_z w64 (of_z w64 x)) (to_z w64 (of_z w64 y)) ≡ true → x ≤ℤ y
read_le x y f g h = le_true x y (sym (λ j. int_le (to_z-of_z w64 x f j) (to_z-of_z w64 y g j)) ∙ h)

pub read_lt : (x y : ℤ) → SFits w64 x → SFits w64 y → int_lt (to_z w64 (of_z w64 x)) (to_z w64 (of_z w64 y)) ≡ true → x <ℤ y
read_lt x y f g h = lt_true x y (sym (λ j. int_lt (to_z-of_z w64 x f j) (to_z-of_z w64 y g j)) ∙ h)

pub read_over : (x y : ℤ) → SFits w64 y → int_le x (to_z w64 (of_z w64 y)) ≡ false → y <ℤ x
read_over x y g h = le_false x y (sym (λ j. int_le x (to_z-of_z w64 y g j)) ∙ h)

pub same_read : (x y : ℤ) → SFits w64 x → SFits w64 y → of_z w64 x ≡ of_z w64 y → x ≡ y
same_read x y f g h = sym (to_z-of_z w64 x f) ∙ ap (to_z w64) h ∙ to_z-of_z w64 y g

pub less_read : (x y : ℤ) → x ≤ℤ y → (x ≡ y → ⊥) → x <ℤ y
less_read x y h differ = by (int_le y x) refl
  where
    by : (b : Bool) → int_le y x ≡ b → x <ℤ y
    by true e = absurd (differ (let l : y ≤ℤ x = le_true y x e in omega (arith, ints)))
    by false e = le_false y x e

half_is : (d : ℕ) → d < 2 ^ 63 → to_z w64 (of_z w64 (quot_z (to_z w64 (of_z w64 (pos d))) (pos 2))) ≡ pos (d / 2)
half_is d h =
    let f : SFits w64 (pos d) = record { sfits = h } in
    let g : SFits w64 (pos (d / 2)) = record { sfits = omega arith } in
    ap (λ (z : ℤ). to_z w64 (of_z w64 (quot_z z (pos 2)))) (to_z-of_z w64 (pos d) f) ∙ to_z-of_z w64 (pos (d / 2)) g

small_gap : (d : ℕ) (reach : ℤ) → SFits w64 reach → pos d ≤ℤ reach → d < 2 ^ 63
small_gap d (pos n) f h = omega (arith, ints, h, f.sfits)
small_gap d (negsuc n) f h = absurd (omega (arith, ints, h))

-- half as far
pub record IsNearer (half reach : ℤ) : Type 0 where
  pub from : pos 0 ≤ℤ half
  pub to : half <ℤ reach

half_nearer : (d : ℕ) (reach : ℤ) → 1 ≤ d → pos d ≤ℤ reach → IsNearer (pos (d / 2)) reach
half_nearer d reach some h = let e : d / 2 < d = omega arith in record { from = omega (arith, ints); to = omega (arith, ints, e, h) }

pub half_read : (low high reach : ℤ) → SFits w64 high → SFits w64 reach → low <ℤ high → high ≤ℤ (low +ℤ reach) →
    IsNearer (to_z w64 (of_z w64 (quot_z (to_z w64 (of_z w64 (to_z w64 (of_z w64 high) -ℤ low))) (pos 2)))) reach
half_read low high reach f g lt near =
    let d : ℕ = nat_abs (high -ℤ low) in
    let e : high -ℤ low ≡ pos d = omega (arith, ints, lt) in
    let within : pos d ≤ℤ reach = omega (arith, ints, e, near) in
    let some : 1 ≤ d = omega (arith, ints, e, lt) in
    let is : to_z w64 (of_z w64 (quot_z (to_z w64 (of_z w64 (to_z w64 (of_z w64 high) -ℤ low))) (pos 2))) ≡ pos (d / 2) =
    ap (λ (z : ℤ). to_z w64 (of_z w64 (quot_z (to_z w64 (of_z w64 z)) (pos 2)))) (ap (λ (z : ℤ). z -ℤ low) (to_z-of_z w64 high f) ∙ e) ∙ half_is d (small_gap d reach g within) in
    subst (λ (z : ℤ). IsNearer z reach) (sym is) (half_nearer d reach some within)

-- the bits of a number that was read
pub low_bits : (bits : ℕ) (low high : ℤ) → bits < 2 ^ 64 → to_z w64 bits ≡ low → low ≡ high → bits ≡ of_z w64 high
low_bits bits low high small is e = sym (of_z-to_z w64 bits small) ∙ ap (of_z w64) (is ∙ e)
