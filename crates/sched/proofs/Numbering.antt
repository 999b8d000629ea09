-- The numbers of loops that are split, and the block and the place in it of each number.
use Rattle.std.proofs.Common.{◌≡◌, ℕ, suc, ◌+◌, ◌-◌, ◌*◌, ◌/◌, ◌%◌, ◌<◌, ◌≤◌, Bool, true, false, List, [], ◌∷◌, ◌++◌, Option, Some, None, refl, sym, ap, ◌∙◌, inl, inr, arith, div-add-mod', mul_comm, mul-le-mul_right, lt_of_mul-lt-mul_right, suc-mul, ⊎_elim}
use Rattle.std.specs.Prelude.{ℤ, pos, negsuc, ◌+ℤ◌, ◌-ℤ◌, ◌*ℤ◌, ◌≤ℤ◌, ◌<ℤ◌, ◌==◌, ◌⊎◌, if◌then◌else◌, int_lt, cond}
use Rattle.std.specs.List.{AllByRecursion}
use Rattle.std.specs.Int.{int_min}
use Rattle.std.proofs.lemmas.Int.{ints}
use Rattle.std.proofs.lemmas.Nat.{mod_below, le-div}
use Rattle.std.proofs.lemmas.Bool.{cases_lt}
use Rattle.std.proofs.lemmas.Bool.Decides.{nat_tests}
use Rattle.plan.specs.Symbols.{clipped}
use Rattle.meaning.specs.Names.{same_name, is_among}
use Rattle.meaning.proofs.Cases.{name_same, name_differs}
use Rattle.sched.specs.declared.schedule.Split.{Split}
use Rattle.sched.specs.declared.schedule.Tail.{Tail}
use Rattle.sched.specs.declared.schedule.Tail.TheVariants as tails
use Rattle.sched.specs.declared.numbers.Numbers.{Numbers}
use Rattle.sched.specs.Numbers.{blocks, numbers_found, numbers_named, last_number, halves, cut_numbers}
use Rattle.sched.specs.Standing.{room}
use Rattle.sched.proofs.Standings.{first_number}

-- ---- names

pub apart_names : (used : List (List ℕ)) (x y : List ℕ) → is_among used x ≡ true → is_among used y ≡ false → x ≡ y → ⊥
apart_names used x y taken free e = let clash : true ≡ false = sym taken ∙ ap (is_among used) e ∙ free in cc clash

-- ---- functions that are changed at two names

abbrev pub with_two : {A : Type 0} → List ℕ → A → List ℕ → A → (List ℕ → A) → List ℕ → A
with_two x a y b f z = if same_name z x then a else (if same_name z y then b else f z)

pub with_first : {A : Type 0} (x : List ℕ) (a : A) (y : List ℕ) (b : A) (f : List ℕ → A) → with_two x a y b f x ≡ a
with_first x a y b f = let same = name_same x x refl in rw same refl

pub with_second : {A : Type 0} (x : List ℕ) (a : A) (y : List ℕ) (b : A) (f : List ℕ → A) → (y ≡ x → ⊥) → with_two x a y b f y ≡ b
with_second x a y b f ne = let other = name_differs y x ne in let same = name_same y y refl in rw (other, same) refl

pub with_other : {A : Type 0} (x : List ℕ) (a : A) (y : List ℕ) (b : A) (f : List ℕ → A) (z : List ℕ) → (z ≡ x → ⊥) → (z ≡ y → ⊥) → with_two x a y b f z ≡ f z
with_other x a y b f z one two = let first = name_differs z x one in let second = name_differs z y two in rw (first, second) refl

-- ---- numbers by their names

-- some numbers have the name
abbrev pub Found : List Numbers → List ℕ → Type 0
Found rs x = (r : Numbers) × (numbers_found rs x ≡ Some r)

abbrev numbers_or : List ℕ → Option Numbers → Numbers
numbers_or x o = elim o [ Some r ↦ r | None ↦ record { name = x; low = pos 0; count = 0 } ]

pub found_more : (rs ts : List Numbers) (x : List ℕ) (r : Numbers) → numbers_found rs x ≡ Some r → numbers_found (rs ++ ts) x ≡ Some r
found_more [] ts x r e = absurd (cc e)
found_more (a ∷ rs) ts x r e = of (same_name a.name x) e (λ k. found_more rs ts x r k)
  where
    of : (v : Bool) → (if v then Some a else numbers_found rs x) ≡ Some r → (numbers_found rs x ≡ Some r → numbers_found (rs ++ ts) x ≡ Some r) →
        (if v then Some a else numbers_found (rs ++ ts) x) ≡ Some r
    of true k rest = k
    of false k rest = rest k

pub found_later : (rs ts : List Numbers) (x : List ℕ) → numbers_found rs x ≡ None → numbers_found (rs ++ ts) x ≡ numbers_found ts x
found_later [] ts x e = refl
found_later (a ∷ rs) ts x e = of (same_name a.name x) e (λ k. found_later rs ts x k)
  where
    of : (v : Bool) → (if v then Some a else numbers_found rs x) ≡ None → (numbers_found rs x ≡ None → numbers_found (rs ++ ts) x ≡ numbers_found ts x) →
        (if v then Some a else numbers_found (rs ++ ts) x) ≡ numbers_found ts x
    of true k rest = absurd (cc k)
    of false k rest = rest k

pub named_more : (rs ts : List Numbers) (x : List ℕ) → Found rs x → numbers_named (rs ++ ts) x ≡ numbers_named rs x
named_more rs ts x h = ap (numbers_or x) (found_more rs ts x h.0 h.1 ∙ sym h.1)

pub named_later : (rs ts : List Numbers) (x : List ℕ) → numbers_found rs x ≡ None → numbers_named (rs ++ ts) x ≡ numbers_named ts x
named_later rs ts x e = ap (numbers_or x) (found_later rs ts x e)

pub none_found : (used : List (List ℕ)) (x : List ℕ) → is_among used x ≡ false → (rs : List Numbers) → AllByRecursion (λ r. is_among used r.name ≡ true) rs → numbers_found rs x ≡ None
none_found used x free [] a = refl
none_found used x free (r ∷ rs) a = ap (λ (v : Bool). if v then Some r else numbers_found rs x) (name_differs r.name x (apart_names used r.name x a.0 free)) ∙ none_found used x free rs a.1

-- the numbers of one split more
pub cut_last : (cs : List Split) (s : Split) (rs : List Numbers) → cut_numbers (cs ++ s ∷ []) rs ≡ cut_numbers cs rs ++ halves s (numbers_named (cut_numbers cs rs) s.whole).count
cut_last [] s rs = refl
cut_last (c ∷ cs) s rs = cut_last cs s (rs ++ halves c (numbers_named rs c.whole).count)

abbrev outer_numbers : Split → ℕ → Numbers
outer_numbers c n = record { name = c.outer; low = pos 0; count = blocks n c.factor }

abbrev inner_numbers : Split → ℕ → Numbers
inner_numbers c n = record { name = c.inner; low = pos 0; count = c.factor }

pub outer_found : (c : Split) (n : ℕ) → numbers_found (halves c n) c.outer ≡ Some (record { name = c.outer; low = pos 0; count = blocks n c.factor })
outer_found c n = ap (λ (v : Bool). if v then Some (outer_numbers c n) else (if same_name c.inner c.outer then Some (inner_numbers c n) else None)) (name_same c.outer c.outer refl)

pub inner_found : (c : Split) (n : ℕ) → (c.outer ≡ c.inner → ⊥) → numbers_found (halves c n) c.inner ≡ Some (record { name = c.inner; low = pos 0; count = c.factor })
inner_found c n ne =
    ap (λ (v : Bool). if v then Some (outer_numbers c n) else (if same_name c.inner c.inner then Some (inner_numbers c n) else None)) (name_differs c.outer c.inner ne)
    ∙ ap (λ (v : Bool). if v then Some (inner_numbers c n) else None) (name_same c.inner c.inner refl)

pub half_none : (c : Split) (n : ℕ) (y : List ℕ) → (c.outer ≡ y → ⊥) → (c.inner ≡ y → ⊥) → numbers_found (halves c n) y ≡ None
half_none c n y one two =
    ap (λ (v : Bool). if v then Some (outer_numbers c n) else (if same_name c.inner y then Some (inner_numbers c n) else None)) (name_differs c.outer y one)
    ∙ ap (λ (v : Bool). if v then Some (inner_numbers c n) else None) (name_differs c.inner y two)

pub half_outer : (c : Split) (n : ℕ) → numbers_named (halves c n) c.outer ≡ record { name = c.outer; low = pos 0; count = blocks n c.factor }
half_outer c n = ap (numbers_or c.outer) (outer_found c n)

pub half_inner : (c : Split) (n : ℕ) → (c.outer ≡ c.inner → ⊥) → numbers_named (halves c n) c.inner ≡ record { name = c.inner; low = pos 0; count = c.factor }
half_inner c n ne = ap (numbers_or c.inner) (inner_found c n ne)

-- ---- blocks

pub pos_clipped : (z : ℤ) → pos 0 ≤ℤ z → pos (clipped z) ≡ z
pos_clipped (pos n) h = refl
pos_clipped (negsuc n) h = absurd (omega (arith, ints, h))

blocks_are : (count n : ℕ) → 0 < count → 0 < n → blocks count n ≡ (count - 1) / n + 1
blocks_are count n h k =
    let one : (count == 0) ≡ false = grind (arith, nat_tests) in
    let two : (n == 0) ≡ false = grind (arith, nat_tests) in
    rw (one, two) refl

-- a number of a loop that is split lies in one of its blocks
pub record IsInBlock (r : Numbers) (tail : Tail) (n : ℕ) (y : ℤ) : Type 0 where
  pub block : ℕ
  pub below : block < blocks r.count n
  pub low : first_number tail r n (pos block) ≤ℤ y
  pub high : y <ℤ (first_number tail r n (pos block) +ℤ pos n)

min_parts : (a b : ℤ) → ((int_min a b ≡ a) ⊎ (int_min a b ≡ b)) × (int_min a b ≤ℤ a)
min_parts a b = of (int_lt b a) refl
  where
    of : (v : Bool) → int_lt b a ≡ v → ((cond v b a ≡ a) ⊎ (cond v b a ≡ b)) × (cond v b a ≤ℤ a)
    of true e = (inr refl, let k : b <ℤ a = grind (ints, arith) in omega (arith, ints, k))
    of false e = (inl refl, omega (arith, ints))

pub times_is : (n k : ℕ) → pos n *ℤ pos k ≡ pos (k * n)
times_is n k = ap pos (mul_comm n k)

module _ (r : Numbers) (n : ℕ) (some : 0 < n) (y : ℤ) (low : r.low ≤ℤ y) (last : y ≤ℤ last_number r) where
  at_block : (k : ℕ) → pos k ≡ y -ℤ r.low → (k / n < blocks r.count n) × ((r.low +ℤ pos n *ℤ pos (k / n)) ≤ℤ y) × (y <ℤ (r.low +ℤ pos n *ℤ pos (k / n) +ℤ pos n))
  at_block k is =
      let parts = div-add-mod' k n in
      let rest = mod_below k n some in
      let product = times_is n (k / n) in
      let few : k < r.count = omega (arith, ints, is, last) in
      let count = blocks_are r.count n (omega (arith, few)) some in
      let most = le-div (k / n) (r.count - 1) n some (omega (arith, parts, few)) in
      (omega (arith, count, most), omega (arith, ints, is, parts, product), omega (arith, ints, is, parts, rest, product))

  by_tail : (tail : Tail) → (k : ℕ) → pos k ≡ y -ℤ r.low → IsInBlock r tail n y
  by_tail tails.Guard k is = let a = at_block k is in record { block = k / n; below = a.0; low = a.1; high = a.2 }
  by_tail tails.Roundup k is = let a = at_block k is in record { block = k / n; below = a.0; low = a.1; high = a.2 }
  by_tail tails.Shift k is =
      let a = at_block k is in
      let start = r.low +ℤ pos n *ℤ pos (k / n) in
      let m = min_parts start (room r n) in
      let first = a.1 in
      let end = a.2 in
      let least = m.1 in
      record { block = k / n; below = a.0; low = omega (arith, ints, first, least); high = of start end m.0 }
    where
      of : (start : ℤ) → y <ℤ (start +ℤ pos n) → (int_min start (room r n) ≡ start) ⊎ (int_min start (room r n) ≡ room r n) → y <ℤ (int_min start (room r n) +ℤ pos n)
      of start end (inl e) = omega (arith, ints, end, e)
      of start end (inr e) = omega (arith, ints, last, e)

  pub in_block : (tail : Tail) → IsInBlock r tail n y
  in_block tail = by_tail tail (clipped (y -ℤ r.low)) (pos_clipped (y -ℤ r.low) (omega (arith, ints, low)))

-- ---- blocks within their loop

pub whole_blocks : (count n k : ℕ) → 0 < n → k < blocks count n → count % n ≡ 0 → k * n + n ≤ count
whole_blocks count n k some lt none = ⊎_elim (λ empty. absurd (few empty)) (λ many. by many) (cases_lt count 1)
  where
    few : count < 1 → ⊥
    few empty = let e : (count == 0) ≡ true = grind (arith, nat_tests) in let nothing : blocks count n ≡ 0 = rw e refl in omega (arith, nothing, lt)

    by : 1 ≤ count → k * n + n ≤ count
    by many =
        let are = blocks_are count n (omega (arith, many)) some in
        let most : k ≤ (count - 1) / n = omega (arith, are, lt) in
        let parts = div-add-mod' (count - 1) n in
        let scaled : k * n ≤ (count - 1) / n * n = mul-le-mul_right n most in
        let whole = div-add-mod' count n in
        let less : k * n < count / n * n = omega (arith, parts, scaled, whole, none, many) in
        let fewer : k < count / n = lt_of_mul-lt-mul_right n less in
        let next : suc k * n ≤ count / n * n = mul-le-mul_right n fewer in
        let more : suc k * n ≡ k * n + n = suc-mul k n in
        omega (arith, next, more, whole, none)
