-- Rising lists of numbers, and what holds of pieces whose own cells rise.
use Rattle.std.proofs.Common.{◌≡◌, ℕ, zero, suc, ◌+◌, ◌<◌, ◌≤◌, List, [], ◌∷◌, ◌++◌, length, Bool, true, false, Option, Some, None, refl, sym, ap, ◌∙◌, subst, inl, inr, arith}
use Rattle.std.specs.Prelude.{◌&&◌, ◌||◌, ◌==◌, not, nat_le, flat_map, IsTrue, All, slice_get, slice_index}
use Rattle.std.specs.List.{list_all, list_any, range_with_len}
use Rattle.std.proofs.lemmas.Bool.{cases_lt}
use Rattle.std.proofs.lemmas.List.Elements.{All-from_recursion}
use Rattle.soundness.specs.Claims.{In}
use Rattle.soundness.specs.Obligations.{is_member}
use Rattle.soundness.proofs.Refines.{and_parts, eq_refl, eq_true}
use Rattle.soundness.proofs.Turns.{in_flat}
use Rattle.orders.specs.Work.{OwnIsInTable, OwnIsApart, OwnIsWhole}
use Rattle.headline.proofs.Members.{in_of, contains_of}
use Rattle.audit.proofs.OfVerdict.Lists.{each, le_true}

-- ---- rising lists

-- each number is greater than those before it, and none is less than this
abbrev pub is_rising : ℕ → List ℕ → Bool
is_rising least [] = true
is_rising least (x ∷ xs) = nat_le least x && is_rising (suc x) xs

abbrev pub IsRising : ℕ → List ℕ → Type 0
IsRising least [] = Unit {0}
IsRising least (x ∷ xs) = (least ≤ x) × IsRising (suc x) xs

pub rising_of : (least : ℕ) (xs : List ℕ) → is_rising least xs ≡ true → IsRising least xs
rising_of least [] h = tt
rising_of least (x ∷ xs) h = let k = and_parts (nat_le least x) (is_rising (suc x) xs) h in (le_true least x k.0, rising_of (suc x) xs k.1)

pub rising_range : (a n : ℕ) → IsRising a (range_with_len a n)
rising_range a zero = tt
rising_range a (suc n) = let one : a + 1 ≡ suc a = omega arith in (omega arith, subst (λ k. IsRising k (range_with_len (a + 1) n)) one (rising_range (a + 1) n))

-- what comes behind a rising list is not less than this
abbrev behind : ℕ → List ℕ → ℕ
behind least [] = least
behind least (x ∷ xs) = behind (suc x) xs

behind_from : (least : ℕ) (xs : List ℕ) → IsRising least xs → least ≤ behind least xs
behind_from least [] h = omega arith
behind_from least (x ∷ xs) h = let k = behind_from (suc x) xs h.1 in let low = h.0 in omega (arith, k, low)

rising_parts : (least : ℕ) (xs ys : List ℕ) → IsRising least (xs ++ ys) → IsRising least xs × IsRising (behind least xs) ys
rising_parts least [] ys h = (tt, h)
rising_parts least (x ∷ xs) ys h = let k = rising_parts (suc x) xs ys h.1 in ((h.0, k.0), k.1)

from : (least : ℕ) (xs : List ℕ) (i : ℕ) → IsRising least xs → i < length xs → least ≤ slice_index xs i
from least [] i h l = absurd (omega (arith, l))
from least (x ∷ xs) zero h l = h.0
from least (x ∷ xs) (suc i) h l = let k = from (suc x) xs i h.1 (omega (arith, l)) in let low = h.0 in omega (arith, k, low)

below : (least : ℕ) (xs : List ℕ) (i : ℕ) → IsRising least xs → i < length xs → slice_index xs i < behind least xs
below least [] i h l = absurd (omega (arith, l))
below least (x ∷ xs) zero h l = let k = behind_from (suc x) xs h.1 in omega (arith, k)
below least (x ∷ xs) (suc i) h l = below (suc x) xs i h.1 (omega (arith, l))

one_place : (least : ℕ) (xs : List ℕ) (i j : ℕ) → IsRising least xs → i < length xs → j < length xs → slice_index xs i ≡ slice_index xs j → i ≡ j
one_place least [] i j h l m e = absurd (omega (arith, l))
one_place least (x ∷ xs) zero zero h l m e = refl
one_place least (x ∷ xs) zero (suc j) h l m e =
    let k = from (suc x) xs j h.1 (omega (arith, m)) in let same : x ≡ slice_index xs j = e in absurd (omega (arith, k, same))
one_place least (x ∷ xs) (suc i) zero h l m e =
    let k = from (suc x) xs i h.1 (omega (arith, l)) in let same : slice_index xs i ≡ x = e in absurd (omega (arith, k, same))
one_place least (x ∷ xs) (suc i) (suc j) h l m e = ap suc (one_place (suc x) xs i j h.1 (omega (arith, l)) (omega (arith, m)) e)

-- ---- members

member_in : (x : ℕ) (xs : List ℕ) → is_member x xs ≡ true → In x xs
member_in x [] h = absurd (cc h)
member_in x (y ∷ ys) h = of (y == x) refl h (member_in x ys)
  where
    of : (v : Bool) → (y == x) ≡ v → (v || is_member x ys) ≡ true → (is_member x ys ≡ true → In x ys) → In x (y ∷ ys)
    of true e k rest = inl (sym (eq_true y x e))
    of false e k rest = inr (rest k)

pub in_member : (x : ℕ) (xs : List ℕ) → In x xs → is_member x xs ≡ true
in_member x [] m = absurd m
in_member x (y ∷ ys) (inl e) = ap (λ n. (n == x) || is_member x ys) (sym e) ∙ ap (λ b. b || is_member x ys) (eq_refl x)
in_member x (y ∷ ys) (inr m) = or_more (y == x) (is_member x ys) (in_member x ys m)
  where
    or_more : (v w : Bool) → w ≡ true → (v || w) ≡ true
    or_more true w h = refl
    or_more false w h = h

in_range : (x a n : ℕ) → In x (range_with_len a n) → (a ≤ x) × (x < a + n)
in_range x a zero m = absurd m
in_range x a (suc n) (inl e) = (omega (arith, e), omega (arith, e))
in_range x a (suc n) (inr m) = let k = in_range x (a + 1) n m in let low = k.0 in let high = k.1 in (omega (arith, low), omega (arith, high))

pub range_in : (x a n : ℕ) → a ≤ x → x < a + n → In x (range_with_len a n)
range_in x a zero low high = absurd (omega (arith, low, high))
range_in x a (suc n) low high = elim (cases_lt a x) [
  | inl less ↦ inr (range_in x (a + 1) n (omega (arith, less)) (omega (arith, high)))
  | inr not ↦ inl (omega (arith, low, not))
]

flat_in : {A B : Type 0} (f : A → List B) (y : B) (x : A) (xs : List A) → In x xs → In y (f x) → In y (flat_map f xs)
flat_in f y x [] m h = absurd m
flat_in f y x (z ∷ zs) (inl e) h = left (f z) (flat_map f zs) (subst (λ w. In y (f w)) e h)
  where
    left : (us vs : List _) → In y us → In y (us ++ vs)
    left [] vs k = absurd k
    left (u ∷ us) vs (inl e) = inl e
    left (u ∷ us) vs (inr k) = inr (left us vs k)
flat_in f y x (z ∷ zs) (inr m) h = right (f z) (flat_map f zs) (flat_in f y x zs m h)
  where
    right : (us vs : List _) → In y vs → In y (us ++ vs)
    right [] vs k = k
    right (u ∷ us) vs k = inr (right us vs k)

-- ---- the own cells of all pieces, one piece behind the other

module _ (own : ℕ → List ℕ) where
  abbrev pub all_own : ℕ → ℕ → List ℕ
  all_own s n = flat_map own (range_with_len s n)

  at_first : (least s p a : ℕ) → IsRising least (own s) → p ≡ s → a < length (own p) → slice_index (own p) a < behind least (own s)
  at_first least s p a h e l =
      subst (λ q. a < length (own q) → slice_index (own q) a < behind least (own s)) (sym e) (λ m. below least (own s) a h m) l

  later : (least s n p a : ℕ) → IsRising least (all_own s n) → s ≤ p → p < s + n → a < length (own p) → least ≤ slice_index (own p) a
  later least s zero p a h low high l = absurd (omega (arith, low, high))
  later least s (suc n) p a h low high l =
      let parts = rising_parts least (own s) (all_own (s + 1) n) h in
      elim (cases_lt s p) [
        | inl less ↦ (
            let k = later (behind least (own s)) (s + 1) n p a parts.1 (omega (arith, less)) (omega (arith, high)) l in
            let m = behind_from least (own s) parts.0 in omega (arith, k, m))
        | inr not ↦ (
            let e : p ≡ s = omega (arith, low, not) in
            subst (λ q. a < length (own q) → least ≤ slice_index (own q) a) (sym e) (λ m. from least (own s) a parts.0 m) l)
      ]

  apart_from : (least s n p q a b : ℕ) → IsRising least (all_own s n) → s ≤ p → p < s + n → s ≤ q → q < s + n → a < length (own p) → b < length (own q) →
      slice_index (own p) a ≡ slice_index (own q) b → (p ≡ q) × (a ≡ b)
  apart_from least s zero p q a b h lp hp lq hq la lb e = absurd (omega (arith, lp, hp))
  apart_from least s (suc n) p q a b h lp hp lq hq la lb e =
      let parts = rising_parts least (own s) (all_own (s + 1) n) h in
      let next = behind least (own s) in
      elim (cases_lt s p) [
        | inl p_on ↦ elim (cases_lt s q) [
          | inl q_on ↦ apart_from next (s + 1) n p q a b parts.1 (omega (arith, p_on)) (omega (arith, hp)) (omega (arith, q_on)) (omega (arith, hq)) la lb e
          | inr q_is ↦ (
              let k = later next (s + 1) n p a parts.1 (omega (arith, p_on)) (omega (arith, hp)) la in
              let m = at_first least s q b parts.0 (omega (arith, lq, q_is)) lb in absurd (omega (arith, k, m, e)))
        ]
        | inr p_is ↦ elim (cases_lt s q) [
          | inl q_on ↦ (
              let k = later next (s + 1) n q b parts.1 (omega (arith, q_on)) (omega (arith, hq)) lb in
              let m = at_first least s p a parts.0 (omega (arith, lp, p_is)) la in absurd (omega (arith, k, m, e)))
          | inr q_is ↦ (
              let p_s : p ≡ s = omega (arith, lp, p_is) in
              let q_s : q ≡ s = omega (arith, lq, q_is) in
              let in_p : a < length (own s) = subst (λ r. a < length (own r)) p_s la in
              let in_q : b < length (own s) = subst (λ r. b < length (own r)) q_s lb in
              let same : slice_index (own s) a ≡ slice_index (own s) b = ap (λ r. slice_index (own r) a) (sym p_s) ∙ e ∙ ap (λ r. slice_index (own r) b) q_s in
              (p_s ∙ sym q_s, one_place least (own s) a b parts.0 in_p in_q same))
        ]
      ]

  pub apart_of : (n : ℕ) → IsRising 0 (all_own 0 n) → OwnIsApart n own
  apart_of n h p q a b lp lq la lb e = apart_from 0 0 n p q a b h (omega arith) (omega (arith, lp)) (omega arith) (omega (arith, lq)) la lb e

  -- where the pieces have all cells in their order each cell is some piece's
  module _ (n count : ℕ) (is : all_own 0 n ≡ range_with_len 0 count) where
    pub all_rising : IsRising 0 (all_own 0 n)
    all_rising = subst (IsRising 0) (sym is) (rising_range 0 count)

    pub in_table_of : OwnIsInTable n count own
    in_table_of p c less has =
        let m : In c (all_own 0 n) = flat_in own c p (range_with_len 0 n) (range_in p 0 n (omega arith) (omega (arith, less))) (in_of (own p) c has) in
        let k = in_range c 0 count (subst (In c) is m) in let high = k.1 in omega (arith, high)

    pub whole_of : OwnIsWhole n count own
    whole_of c less =
        let m : In c (all_own 0 n) = subst (In c) (sym is) (range_in c 0 count (omega arith) (omega (arith, less))) in
        let k = in_flat own c (range_with_len 0 n) m in
        let piece = in_range k.0 0 n k.1 in let high = piece.1 in
        (k.0, omega (arith, high), contains_of (own k.0) c k.2)

-- ---- what is fetched and needed

-- some of these pieces owns the cell
abbrev pub is_owned : (ℕ → List ℕ) → List ℕ → ℕ → Bool
is_owned own needs x = list_any (λ k. is_member x (own k)) needs

pub owner_of : (own : ℕ → List ℕ) (needs : List ℕ) (x : ℕ) → is_owned own needs x ≡ true → (k : ℕ) × In k needs × In x (own k)
owner_of own [] x h = absurd (cc h)
owner_of own (k ∷ ks) x h = of (is_member x (own k)) refl h (owner_of own ks x)
  where
    of : (v : Bool) → is_member x (own k) ≡ v → (v || is_owned own ks x) ≡ true → (is_owned own ks x ≡ true → (j : ℕ) × In j ks × In x (own j)) → (j : ℕ) × In j (k ∷ ks) × In x (own j)
    of true e m rest = (k, inl refl, member_in x (own k) e)
    of false e m rest = let r = rest m in (r.0, inr r.1, r.2)

pub owned_of : (own : ℕ → List ℕ) (needs : List ℕ) (x k : ℕ) → In k needs → In x (own k) → is_owned own needs x ≡ true
owned_of own [] x k m h = absurd m
owned_of own (j ∷ js) x k (inl e) h = ap (λ b. b || is_owned own js x) (in_member x (own j) (subst (λ i. In x (own i)) e h))
owned_of own (j ∷ js) x k (inr m) h = or_more (is_member x (own j)) (is_owned own js x) (owned_of own js x k m h)
  where
    or_more : (v w : Bool) → w ≡ true → (v || w) ≡ true
    or_more true w h = refl
    or_more false w h = h

pub each_in : {A : Type 0} (test : A → Bool) (xs : List A) (x : A) → list_all test xs ≡ true → In x xs → test x ≡ true
each_in test [] x h m = absurd m
each_in test (y ∷ ys) x h (inl e) = ap test e ∙ (and_parts (test y) (list_all test ys) h).0
each_in test (y ∷ ys) x h (inr m) = each_in test ys x (and_parts (test y) (list_all test ys) h).1 m

pub all_of : {A : Type 0} (test : A → Bool) (xs : List A) → list_all test xs ≡ true → All (λ x. IsTrue (test x)) xs
all_of test xs h = All-from_recursion (λ x. IsTrue (test x)) xs (each test (λ x. IsTrue (test x)) (λ x e. e) xs h)

-- what holds of each element holds of the one of a number, if there is one
pub at_each : {A : Type 0} (P : Option A → Type 0) (test : A → Bool) → P None → ((x : A) → test x ≡ true → P (Some x)) → (xs : List A) → list_all test xs ≡ true → (n : ℕ) → P (slice_get xs n)
at_each P test none some [] h n = none
at_each P test none some (x ∷ xs) h zero = some x (and_parts (test x) (list_all test xs) h).0
at_each P test none some (x ∷ xs) h (suc n) = at_each P test none some xs (and_parts (test x) (list_all test xs) h).1 n
