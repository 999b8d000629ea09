-- The value after some points of an update, case by case.
use Rattle.std.proofs.Common.{◌≡◌, ◌≢◌, ℕ, ◌+◌, Bool, true, false, List, ℤ, refl, sym, ap, ◌∙◌, add-one, arith}
use Rattle.std.specs.Ordering.{int_eq}
use Rattle.std.proofs.lemmas.Bool.Decides.{Decides-int_eq, nat_tests}
use Rattle.std.specs.Prelude.{nat_eq}
use Rattle.std.proofs.lemmas.Cmp.{int_eq_equiv}
use lib.Pointwise.{pointwise_decides}
use Rattle.meaning.specs.Algorithm.{Change, Function}
use Rattle.meaning.specs.Reduction.{point}
use Rattle.meaning.specs.Names.{same_name, same_point}
use Rattle.meaning.specs.Value.{Calls, left_side, right_side, value_after}

number_decides : (x y : ℤ) → (int_eq x y ≡ true → x ≡ y) × (x ≡ y → int_eq x y ≡ true)
number_decides x y = (λ e. grind (arith, nat_tests, Decides-int_eq x y), λ e. ap (int_eq x) (sym e) ∙ int_eq_equiv.refl x)

byte_decides : (x y : ℕ) → (nat_eq x y ≡ true → x ≡ y) × (x ≡ y → nat_eq x y ≡ true)
byte_decides x y = (λ e. grind (arith, nat_tests), λ e. grind (arith, nat_tests))

false_where_not : {P : Type 0} (b : Bool) → (b ≡ true → P) → (P → ⊥) → b ≡ false
false_where_not true f d = absurd (d (f refl))
false_where_not false f d = refl

-- a test of two points
pub point_same : (p q : List ℤ) → p ≡ q → same_point p q ≡ true
point_same p q e = (pointwise_decides number_decides p q).1 e

pub point_differs : (p q : List ℤ) → p ≢ q → same_point p q ≡ false
point_differs p q d = false_where_not (same_point p q) (pointwise_decides number_decides p q).0 d

-- a test of two names
pub name_same : (p q : List ℕ) → p ≡ q → same_name p q ≡ true
name_same p q e = (pointwise_decides byte_decides p q).1 e

pub same_name_is : (p q : List ℕ) → same_name p q ≡ true → p ≡ q
same_name_is p q e = (pointwise_decides byte_decides p q).0 e

pub name_differs : (p q : List ℕ) → p ≢ q → same_name p q ≡ false
name_differs p q d = false_where_not (same_name p q) (pointwise_decides byte_decides p q).0 d

module _ (calls : Calls) (f : Function) (before : List ℤ → ℤ) (u : Change) (n : ℕ) (p : List ℤ) where
  choose : Bool → ℤ
  choose b = elim b [ true ↦ right_side calls f (value_after calls f before u n) u p (point u.ranges n) | false ↦ value_after calls f before u n p ]

  pub value_set : left_side calls f u p (point u.ranges n) ≡ p → value_after calls f before u (n + 1) p ≡ right_side calls f (value_after calls f before u n) u p (point u.ranges n)
  unfolding choose
  value_set e = let test = point_same (left_side calls f u p (point u.ranges n)) p e in rw add-one (ap choose test)

  pub value_kept : left_side calls f u p (point u.ranges n) ≢ p → value_after calls f before u (n + 1) p ≡ value_after calls f before u n p
  unfolding choose
  value_kept d = let test = point_differs (left_side calls f u p (point u.ranges n)) p d in rw add-one (ap choose test)
