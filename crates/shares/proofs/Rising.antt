-- Pieces that stand by rising groups, and those of one group among them.
use Rattle.std.proofs.Common.{◌≡◌, ℕ, zero, suc, ◌+◌, ◌-◌, ◌<◌, ◌≤◌, List, [], ◌∷◌, ◌++◌, length, map, take, drop, get_or, true, false, cond, leb, ltb, arith, ap, refl, sym, ◌∙◌, subst, inl, inr}
use Rattle.std.specs.Prelude.{◌==◌, sum_by}
use Rattle.std.specs.List.{AllByRecursion, range_with_len}
use Rattle.std.specs.List.Sorted.{IsPartitionPoint}
use Rattle.std.proofs.lemmas.Bool.{cases_eq, cases_lt, leb-false, leb-true, ltb-false, ltb-true}
use Rattle.std.proofs.lemmas.Bool.Decides.{nat_tests}
use Rattle.std.proofs.lemmas.List.Sums.{sum_by-cons}
use Rattle.plan.specs.Plan.{Group}
use Rattle.plan.specs.Certificate.Cells.{Piece, group_pieces, piece, pieces_from}
use Rattle.shares.specs.declared.seats.Seat.{Seat}
use Rattle.shares.specs.Seats.{AreRising, of_group, piece_of, pieces_of}

-- ---- the pieces of a plan stand by rising groups

abbrev RiseFrom : ℕ → List Piece → Type 0
RiseFrom k [] = Unit {0}
RiseFrom k (j ∷ js) = (k ≤ j.group) × RiseFrom j.group js

rise_lower : (k m : ℕ) (js : List Piece) → k ≤ m → RiseFrom m js → RiseFrom k js
rise_lower k m [] le h = tt
rise_lower k m (j ∷ js) le h = ((let a = h.0 in omega (arith, le, a)), h.1)

row_rises : (m : ℕ) (f : ℕ → Piece) → ((n : ℕ) → (f n).group ≡ m) → (k : ℕ) (ns : List ℕ) (js : List Piece) → k ≤ m → RiseFrom m js → RiseFrom k (map f ns ++ js)
row_rises m f is k [] js le h = rise_lower k m js le h
row_rises m f is k (n ∷ ns) js le h = ((let e = is n in omega (arith, le, e)), row_rises m f is (f n).group ns js (let e = is n in omega (arith, e)) h)

pieces_rise : (k : ℕ) (gs : List Group) → RiseFrom k (pieces_from k gs)
pieces_rise k [] = tt
pieces_rise k (g ∷ gs) =
    row_rises k (piece g k) (λ n. refl) k (range_with_len 0 (group_pieces g)) (pieces_from (k + 1) gs) (omega arith)
    (rise_lower k (k + 1) (pieces_from (k + 1) gs) (omega arith) (pieces_rise (k + 1) gs))

least_group : (k : ℕ) (xs : List Seat) → RiseFrom k (pieces_of xs) → (j : ℕ) (d : Seat) → j < length xs → k ≤ (get_or xs j d).group
least_group k [] h j d less = absurd (omega (arith, less))
least_group k (x ∷ xs) h zero d less = h.0
least_group k (x ∷ xs) h (suc j) d less = let a = h.0 in let b = least_group x.group xs h.1 j d (omega (arith, less)) in omega (arith, a, b)

groups_rise : (k : ℕ) (xs : List Seat) → RiseFrom k (pieces_of xs) → AreRising xs
groups_rise k [] h i j d le less = absurd (omega (arith, less))
groups_rise k (x ∷ xs) h zero zero d le less = omega arith
groups_rise k (x ∷ xs) h zero (suc j) d le less = least_group x.group xs h.1 j d (omega (arith, less))
groups_rise k (x ∷ xs) h (suc i) zero d le less = absurd (omega (arith, le))
groups_rise k (x ∷ xs) h (suc i) (suc j) d le less = groups_rise x.group xs h.1 i j d (omega (arith, le)) (omega (arith, less))

pub seats_rise : (k : ℕ) (gs : List Group) (xs : List Seat) → pieces_of xs ≡ pieces_from k gs → AreRising xs
seats_rise k gs xs same = groups_rise k xs (subst (RiseFrom k) (sym same) (pieces_rise k gs))

-- ---- one piece more

is_same : (m n : ℕ) → m ≡ n → (m == n) ≡ true
is_same m n e = grind (arith, nat_tests)

is_other : (m n : ℕ) → (m ≡ n → ⊥) → (m == n) ≡ false
is_other m n e = grind (arith, nat_tests)

one_in : (g : ℕ) (x : Seat) (xs : List Seat) → x.group ≡ g → of_group g (x ∷ xs) ≡ x ∷ of_group g xs
one_in g x xs same = λ i. cond (is_same x.group g same i) (x ∷ of_group g xs) (of_group g xs)

one_out : (g : ℕ) (x : Seat) (xs : List Seat) → (x.group ≡ g → ⊥) → of_group g (x ∷ xs) ≡ of_group g xs
one_out g x xs other = λ i. cond (is_other x.group g other i) (x ∷ of_group g xs) (of_group g xs)

-- ---- the pieces of a group stand together

pub stretch : (g : ℕ) (xs : List Seat) (b m : ℕ)
    → ((k : ℕ) (d : Seat) → k < b → (get_or xs k d).group < g)
    → ((k : ℕ) (d : Seat) → b ≤ k → k < b + m → (get_or xs k d).group ≡ g)
    → ((k : ℕ) (d : Seat) → b + m ≤ k → k < length xs → g < (get_or xs k d).group)
    → take m (drop b xs) ≡ of_group g xs
stretch g [] zero zero low here high = refl
stretch g [] zero (suc m) low here high = refl
stretch g [] (suc b) zero low here high = refl
stretch g [] (suc b) (suc m) low here high = refl
stretch g (x ∷ xs) (suc b) m low here high =
    stretch g xs b m (λ k d less. low (suc k) d (omega (arith, less)))
    (λ k d from to. here (suc k) d (omega (arith, from)) (omega (arith, to)))
    (λ k d from to. high (suc k) d (omega (arith, from)) (omega (arith, to)))
    ∙ sym (one_out g x xs (λ e. let less = low 0 x (omega arith) in omega (arith, e, less)))
stretch g (x ∷ xs) zero (suc m) low here high =
    ap (λ (ys : List Seat). x ∷ ys)
    (stretch g xs 0 m (λ k d less. absurd (omega (arith, less)))
    (λ k d from to. here (suc k) d (omega arith) (omega (arith, to)))
    (λ k d from to. high (suc k) d (omega (arith, from)) (omega (arith, to))))
    ∙ sym (one_in g x xs (here 0 x (omega arith) (omega arith)))
stretch g (x ∷ xs) zero zero low here high =
    stretch g xs 0 0 (λ k d less. absurd (omega (arith, less))) (λ k d from to. absurd (omega (arith, to))) (λ k d from to. high (suc k) d (omega arith) (omega (arith, to)))
    ∙ sym (one_out g x xs (λ e. let more = high 0 x (omega arith) (omega arith) in omega (arith, e, more)))

some_of : (xs : List Seat) (n : ℕ) → n < length xs → Seat
some_of [] n h = absurd (omega (arith, h))
some_of (x ∷ xs) n h = x

-- so many are of lower groups than this, and so many of no higher ones
abbrev pub AreBelow : ℕ → List Seat → ℕ → Type 0
AreBelow g xs count = IsPartitionPoint (λ (y : Seat). ltb y.group g ≡ true) (λ (y : Seat). ltb y.group g ≡ false) xs count

abbrev pub AreUpTo : ℕ → List Seat → ℕ → Type 0
AreUpTo g xs count = IsPartitionPoint (λ (y : Seat). leb y.group g ≡ true) (λ (y : Seat). leb y.group g ≡ false) xs count

module _ (g : ℕ) (xs : List Seat) (first end : ℕ) (some : first ≤ length xs) (most : end ≤ length xs) (low : AreBelow g xs first) (high : AreUpTo g xs end) where
  pub in_order : first ≤ end
  in_order =
      elim (cases_lt end first) [
        | inl less ↦
            let within : end < length xs = omega (arith, less, some) in
            let d = some_of xs end within in
            let below = ltb-true (get_or xs end d).group g (low.0 end d (omega arith) less) in
            let above = leb-false (get_or xs end d).group g (high.1 end d (omega arith) within) in
            absurd (omega (arith, below, above))
        | inr from ↦ from
      ]

  pub is_stretch : take (end - first) (drop first xs) ≡ of_group g xs
  is_stretch =
      let up = in_order in
      stretch g xs first (end - first)
      (λ k d less. ltb-true (get_or xs k d).group g (low.0 k d (omega arith) less))
      (λ k d from to.
      let at_most = leb-true (get_or xs k d).group g (high.0 k d (omega arith) (omega (arith, up, to))) in
      let at_least = ltb-false (get_or xs k d).group g (low.1 k d from (omega (arith, up, to, most))) in
      omega (arith, at_most, at_least))
      (λ k d from to. leb-false (get_or xs k d).group g (high.1 k d (omega (arith, up, from)) to))

-- ---- what is counted of all, and what holds of all

pub sum_of_group : (f : Piece → ℕ) (g : ℕ) → ((j : Piece) → (j.group ≡ g → ⊥) → f j ≡ 0) → (xs : List Seat) → sum_by f (pieces_of (of_group g xs)) ≡ sum_by f (pieces_of xs)
sum_of_group f g none [] = refl
sum_of_group f g none (x ∷ xs) =
    let rest = sum_of_group f g none xs in
    let whole = sum_by-cons f (piece_of x) (pieces_of xs) in
    elim (cases_eq x.group g) [
      | inl same ↦
          let in_it = ap (λ (ys : List Seat). sum_by f (pieces_of ys)) (one_in g x xs same) in
          let more = sum_by-cons f (piece_of x) (pieces_of (of_group g xs)) in
          omega (arith, rest, whole, in_it, more)
      | inr other ↦
          let out = ap (λ (ys : List Seat). sum_by f (pieces_of ys)) (one_out g x xs other) in
          let nothing = none (piece_of x) other in
          omega (arith, rest, whole, out, nothing)
    ]

-- what holds of those of the group
pub holds_of_group : (P : Piece → Type 0) (g : ℕ) (xs : List Seat) → AllByRecursion P (pieces_of xs) → AllByRecursion P (pieces_of (of_group g xs))
holds_of_group P g [] h = tt
holds_of_group P g (x ∷ xs) h =
    elim (cases_eq x.group g) [
      | inl same ↦ subst (λ (ys : List Seat). AllByRecursion P (pieces_of ys)) (sym (one_in g x xs same)) (h.0, holds_of_group P g xs h.1)
      | inr other ↦ subst (λ (ys : List Seat). AllByRecursion P (pieces_of ys)) (sym (one_out g x xs other)) (holds_of_group P g xs h.1)
    ]

pub holds_of_all : (P : Piece → Type 0) (g : ℕ) → ((j : Piece) → (j.group ≡ g → ⊥) → P j) → (xs : List Seat) → AllByRecursion P (pieces_of (of_group g xs)) → AllByRecursion P (pieces_of xs)
holds_of_all P g others [] h = tt
holds_of_all P g others (x ∷ xs) h =
    elim (cases_eq x.group g) [
      | inl same ↦
          let k = subst (λ (ys : List Seat). AllByRecursion P (pieces_of ys)) (one_in g x xs same) h in
          (k.0, holds_of_all P g others xs k.1)
      | inr other ↦
          let k = subst (λ (ys : List Seat). AllByRecursion P (pieces_of ys)) (one_out g x xs other) h in
          (others (piece_of x) other, holds_of_all P g others xs k)
    ]
