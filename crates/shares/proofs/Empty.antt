-- Boxes without points.
use Rattle.std.proofs.Common.{◌≡◌, ℕ, zero, suc, ◌*◌, ◌≤◌, List, [], ◌∷◌, length, true, false, Bool, arith, ap, refl, sym, ◌∙◌, cond, inl, inr, min, ◌-◌, ◌^◌}
use Rattle.std.specs.Prelude.{ℤ, pos, ◌&&◌, ◌⊎◌, filter, IsTrue, All, ◌↔◌}
use Rattle.std.specs.List.{AllByRecursion}
use Rattle.std.proofs.lemmas.Bool.{false≢true}
use Rattle.std.proofs.lemmas.Bool.Decides.{nat_tests}
use Rattle.std.proofs.lemmas.Int.{ints, by_lt_z}
use Rattle.std.proofs.lemmas.List.Elements.{recursion_from_All, All-from_recursion}
use Rattle.std.proofs.Math.Nat.{mul-zero, zero-mul, suc-mul}
use Rattle.shares.specs.declared.boxes.Side.{Side}
use Rattle.shares.specs.declared.spaces.Space.{Space}
use Rattle.shares.specs.Boxes.{is_in_side, is_in_box, point_count}
use Rattle.shares.specs.Spaces.{numbers_in, HasAll}
use Rattle.shares.proofs.Shared.{side_tests}
use lib.Dec.{eqb}

times_none : (m n : ℕ) → n ≡ 0 → m * n ≡ 0
times_none m n e = ap (λ (k : ℕ). m * k) e ∙ mul-zero m

either_none : (m n : ℕ) → m * n ≡ 0 → (m ≡ 0) ⊎ (n ≡ 0)
either_none zero n e = inl refl
either_none (suc m) n e = inr (let split = suc-mul m n in omega (arith, e, split))

one_most : (m n : ℕ) → (m * n ≡ 0 → ⊥) → 1 ≤ m
one_most zero n h = absurd (h (zero-mul n))
one_most (suc m) n h = omega arith

counts_each : (rs : List Side) → (point_count rs ≡ 0 → ⊥) → AllByRecursion (λ r. 1 ≤ r.count) rs
counts_each [] h = tt
counts_each (r ∷ rs) h = (one_most r.count (point_count rs) h, counts_each rs (λ e. h (times_none r.count (point_count rs) e)))

-- a box with points has some on each side
pub counts_some : (rs : List Side) → (point_count rs ≡ 0 → ⊥) → All (λ r. 1 ≤ r.count) rs
counts_some rs h = All-from_recursion (λ (r : Side). 1 ≤ r.count) rs (counts_each rs h)

left_false : (x y : Bool) → x ≡ false → (x && y) ≡ false
left_false x y e = rw e refl

right_false : (x y : Bool) → y ≡ false → (x && y) ≡ false
right_false true y e = e
right_false false y e = refl

side_none : (r : Side) (z : ℤ) → r.count ≡ 0 → is_in_side r z ≡ false
side_none r z none =
    by_lt_z z r.low (λ less. (side_tests r).below z less)
    (λ from. (side_tests r).above z (let e : pos r.count ≡ pos 0 = ap pos none in omega (arith, ints, e)))

in_none : (rs : List Side) (q : List ℤ) → point_count rs ≡ 0 → is_in_box rs q ≡ false
in_none [] q e = absurd (omega (arith, e))
in_none (r ∷ rs) [] e = refl
in_none (r ∷ rs) (z ∷ zs) e = elim (either_none r.count (point_count rs) e) [
  | inl none ↦ left_false (is_in_side r z) (is_in_box rs zs) (side_none r z none)
  | inr none ↦ right_false (is_in_side r z) (is_in_box rs zs) (in_none rs zs none)
]

filter_none : (f : List ℤ → Bool) → ((q : List ℤ) → f q ≡ false) → (qs : List (List ℤ)) → filter f qs ≡ []
filter_none f h [] = refl
filter_none f h (q ∷ qs) = (λ i. cond (h q i) (q ∷ filter f qs) (filter f qs)) ∙ filter_none f h qs

-- in a space without points nothing is found
pub none_numbers : (x : Space) (qs : List (List ℤ)) → point_count x.sides.items ≡ 0 → [] ≡ numbers_in x (filter (is_in_box x.sides.items) qs)
none_numbers x qs e = sym (ap (numbers_in x) (filter_none (is_in_box x.sides.items) (λ q. in_none x.sides.items q e) qs))

no_points : (f : List ℤ → Bool) → ((q : List ℤ) → f q ≡ false) → (qs : List (List ℤ)) → AllByRecursion (λ q. IsTrue (f q)) qs → length qs ≡ 0
no_points f h [] all = refl
no_points f h (q ∷ qs) all = absurd (false≢true (sym (h q) ∙ all.0))

-- and it has all points of none
pub none_whole : (x : Space) (qs : List (List ℤ)) → point_count x.sides.items ≡ 0 → (length qs ≡ 0) ↔ HasAll x qs
none_whole x qs e =
    let R = x.sides.items in (
      (λ none k d less. absurd (omega (arith, none, less))),
      (λ all. no_points (is_in_box R) (λ q. in_none R q e) qs (recursion_from_All (λ (q : List ℤ). IsTrue (is_in_box R q)) qs all)),
    )

pub none_most : (most count long : ℕ) → most ≡ min count (2 ^ 64 - 1) → long ≡ count → IsTrue (eqb most 0) ↔ (long ≡ 0)
none_most most count long m l = (
  (λ yes. let none : most ≡ 0 = grind (arith, nat_tests) in omega (arith, none, m, l)),
  (λ none. let zero : most ≡ 0 = omega (arith, none, m, l) in grind (arith, nat_tests)),
)
