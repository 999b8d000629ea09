-- Points and variables moved to an origin and back.
use Rattle.std.proofs.Common.{◌≡◌, ◌≢◌, ℕ, suc, List, [], ◌∷◌, ◌++◌, length, Bool, true, false, Some, ℤ, pos, neg_ℤ, ◌+ℤ◌, refl, sym, ap, ◌∙◌, arith, ◌⊎◌, inl, inr}
use Rattle.std.specs.Prelude.{map, slice_get}
use Rattle.std.specs.List.{AllByRecursion}
use Rattle.std.proofs.lemmas.Int.{ints}
use Rattle.numeric.specs.declared.ty.Ty.TheVariants.{I32}
use Rattle.numeric.specs.Wrap.{IsOf, wrap}
use Rattle.numeric.proofs.Wraps.{wrap_of_value, wraps_to}
use Rattle.std.specs.Ordering.{int_eq}
use Rattle.std.proofs.lemmas.Bool.Decides.{Decides-int_eq, nat_tests}
use Rattle.std.proofs.lemmas.Cmp.{int_eq_equiv}
use lib.Pointwise.{pointwise_decides}
use Rattle.meaning.specs.Algorithm.{Range}
use Rattle.meaning.specs.Points.{IsIn}
use Rattle.meaning.specs.Names.{same_name, same_point, bound}
use Rattle.meaning.specs.Conditions.{AreDistinct}
use Rattle.meaning.proofs.Cases.{point_same, point_differs, name_same, name_differs}
use Rattle.meaning.proofs.Types.{zero_is_of}
use Rattle.lin.specs.declared.span.Span1.{Span1}
use Rattle.lin.specs.Spans.{IsInRegion}
use Rattle.bounds.specs.Spans.{numbers}
use Rattle.bounds.proofs.SpanSound.{numbers-lies}
use Rattle.bounds.proofs.IntervalSound.{lies_span}
use Rattle.crop.specs.Moving.{shifted, against, moved_point}
use Rattle.crop.proofs.Rings.{same, wrapped, sum, through, wraps_alike}

abbrev pub Coordinates : List ℤ → Type 0
Coordinates = AllByRecursion (IsOf I32)

abbrev pub unmoved : List ℤ → List ℤ → List ℤ
unmoved os p = moved_point (map against os) p

pub still : (z : ℤ) → IsOf I32 z → z ≡ shifted (pos 0) z
still z h = let e : z ≡ z +ℤ pos 0 = omega (arith, ints) in sym (wrap_of_value I32 z h) ∙ ap (wrap I32) e

pub there_and_back : (o z : ℤ) → IsOf I32 z → z ≡ shifted o (shifted (against o) z)
there_and_back o z h =
    sym (wrap_of_value I32 z h)
    ∙ wraps_alike z (shifted (against o) z +ℤ o) z (z +ℤ neg_ℤ o +ℤ o) (same z)
    (sum (shifted (against o) z) (z +ℤ neg_ℤ o) o o (through (shifted (against o) z) (z +ℤ against o) (z +ℤ neg_ℤ o) (wrapped (z +ℤ against o)) (sum z z (against o) (neg_ℤ o) (same z)
    (wrapped (neg_ℤ o)))) (same o))
    (omega (arith, ints))

pub back_point : (os p : List ℤ) → Coordinates p → moved_point os (unmoved os p) ≡ p
back_point [] p h = refl
back_point (o ∷ os) [] h = refl
back_point (o ∷ os) (z ∷ zs) h = λ i. sym (there_and_back o z h.0) i ∷ back_point os zs h.1 i

pub unmoved_point : (os p : List ℤ) → Coordinates p → Coordinates (unmoved os p)
unmoved_point [] p h = h
unmoved_point (o ∷ os) [] h = tt
unmoved_point (o ∷ os) (z ∷ zs) h = ((wraps_to I32 (z +ℤ against o)).within, unmoved_point os zs h.1)

-- the same as for the cases of an update's value
number_decides : (x y : ℤ) → (int_eq x y ≡ true → x ≡ y) × (x ≡ y → int_eq x y ≡ true)
number_decides x y = (λ e. grind (arith, nat_tests, Decides-int_eq x y), λ e. ap (int_eq x) (sym e) ∙ int_eq_equiv.refl x)

pub some_bool : (b : Bool) → (b ≡ true) ⊎ (b ≡ false)
some_bool true = inl refl
some_bool false = inr refl

-- moving is one to one
pub same_unmoved : (os p q : List ℤ) → Coordinates p → Coordinates q → same_point (unmoved os p) (unmoved os q) ≡ same_point p q
same_unmoved os p q hp hq = elim (some_bool (same_point p q)) [
  | inl e ↦ point_same (unmoved os p) (unmoved os q) (ap (unmoved os) (same_is p q e)) ∙ sym e
  | inr e ↦ point_differs (unmoved os p) (unmoved os q) (λ d. differs p q e (sym (back_point os p hp) ∙ ap (moved_point os) d ∙ back_point os q hq)) ∙ sym e
]
  where
    differs : (x y : List ℤ) → same_point x y ≡ false → x ≡ y → ⊥
    differs x y e d = let t = point_same x y d in let c : true ≡ false = sym t ∙ e in cc

    same_is : (x y : List ℤ) → same_point x y ≡ true → x ≡ y
    same_is x y e = (pointwise_decides number_decides x y).0 e

-- ---- variables
pub bound_within : (xs : List (List ℕ)) (p : List ℤ) → Coordinates p → (name : List ℕ) → IsOf I32 (bound xs p name)
bound_within [] [] h name = zero_is_of I32
bound_within [] (z ∷ zs) h name = zero_is_of I32
bound_within (x ∷ xs) [] h name = zero_is_of I32
bound_within (x ∷ xs) (z ∷ zs) h name = elim (same_name x name) as (λ (b : Bool). IsOf I32 (elim b [ true ↦ z | false ↦ bound xs zs name ])) [ true ↦ h.0 | false ↦ bound_within xs zs h.1 name ]

pub both_points : (p r : List ℤ) → Coordinates p → Coordinates r → Coordinates (p ++ r)
both_points [] r h k = k
both_points (z ∷ zs) r h k = (h.0, both_points zs r h.1 k)

pub moves_pure : (xs : List (List ℕ)) (os p : List ℤ) → length p ≡ length xs → Coordinates p → (name : List ℕ) → bound xs p name ≡ shifted (bound xs os name) (bound xs (unmoved os p) name)
moves_pure [] os p l h name = refl
moves_pure (x ∷ xs) os [] l h name = absurd (omega (arith, l))
moves_pure (x ∷ xs) [] (z ∷ zs) l h name = still (bound (x ∷ xs) (z ∷ zs) name) (bound_within (x ∷ xs) (z ∷ zs) h name)
moves_pure (x ∷ xs) (o ∷ os) (z ∷ zs) l h name = elim (same_name x name) as
    (λ (b : Bool). elim b [ true ↦ z | false ↦ bound xs zs name ] ≡ shifted (elim b [ true ↦ o | false ↦ bound xs os name ])
    (elim b [ true ↦ shifted (against o) z | false ↦ bound xs (unmoved os zs) name ])) [
      | true ↦ there_and_back o z h.0
      | false ↦ moves_pure xs os zs (omega (arith, l)) h.1 name
    ]

pub moves_update : (xs ys : List (List ℕ)) (os p r : List ℤ) → length p ≡ length xs → Coordinates p → Coordinates r → (name : List ℕ)
    → bound (xs ++ ys) (p ++ r) name ≡ shifted (bound xs os name) (bound (xs ++ ys) (unmoved os p ++ r) name)
moves_update [] ys os [] r l h k name = moves_none os
  where
    moves_none : (os : List ℤ) → bound ys r name ≡ shifted (pos 0) (bound ys (unmoved os [] ++ r) name)
    moves_none [] = still (bound ys r name) (bound_within ys r k name)
    moves_none (o ∷ os) = still (bound ys r name) (bound_within ys r k name)
moves_update [] ys os (z ∷ zs) r l h k name = absurd (omega (arith, l))
moves_update (x ∷ xs) ys os [] r l h k name = absurd (omega (arith, l))
moves_update (x ∷ xs) ys [] (z ∷ zs) r l h k name = still (bound (x ∷ xs ++ ys) (z ∷ zs ++ r) name) (bound_within (x ∷ xs ++ ys) (z ∷ zs ++ r) (both_points (z ∷ zs) r h k) name)
moves_update (x ∷ xs) ys (o ∷ os) (z ∷ zs) r l h k name = elim (same_name x name) as
    (λ (b : Bool). elim b [ true ↦ z | false ↦ bound (xs ++ ys) (zs ++ r) name ] ≡ shifted (elim b [ true ↦ o | false ↦ bound xs os name ])
    (elim b [ true ↦ shifted (against o) z | false ↦ bound (xs ++ ys) (unmoved os zs ++ r) name ])) [
      | true ↦ there_and_back o z h.0
      | false ↦ moves_update xs ys os zs r (omega (arith, l)) h.1 k name
    ]

-- ---- names that are distinct stand for their numbers
abbrev NotIn : List ℕ → List (List ℕ) → Type 0
NotIn x ys = (j : ℕ) (y : List ℕ) → slice_get ys j ≡ Some y → x ≢ y

past : (x : List ℕ) (xs ys : List (List ℕ)) (z : ℤ) (zs : List ℤ) → NotIn x ys → map (bound (x ∷ xs) (z ∷ zs)) ys ≡ map (bound xs zs) ys
past x xs [] z zs h = refl
past x xs (y ∷ ys) z zs h =
    let d = name_differs x y (h 0 y refl) in
    λ i. elim (d i) [ true ↦ z | false ↦ bound xs zs y ] ∷ past x xs ys z zs (λ j w e. h (suc j) w e) i

pub bound_all : (xs : List (List ℕ)) (p : List ℤ) → AreDistinct xs → length p ≡ length xs → map (bound xs p) xs ≡ p
bound_all [] [] d l = refl
bound_all [] (z ∷ zs) d l = absurd (omega (arith, l))
bound_all (x ∷ xs) [] d l = absurd (omega (arith, l))
bound_all (x ∷ xs) (z ∷ zs) d l =
    let first : NotIn x xs = λ j y e same. let r = d 0 (suc j) x refl (e ∙ ap Some (sym same)) in absurd (omega (arith, r)) in
    let rest : AreDistinct xs = λ i j y e g. let r = d (suc i) (suc j) y e g in omega (arith, r) in
    let here = name_same x x refl in
    λ i. elim (here i) [ true ↦ z | false ↦ bound xs zs x ] ∷ (past x xs xs z zs first ∙ bound_all xs zs rest (omega (arith, l))) i

-- ---- regions
pub append_region : (r s : List Span1) (v : ℕ → ℤ) (p q : List ℤ) → IsInRegion r v p → IsInRegion s v q → IsInRegion (r ++ s) v (p ++ q)
append_region [] s v [] q h k = k
append_region [] s v (z ∷ zs) q h k = absurd h
append_region (x ∷ xs) s v [] q h k = absurd h
append_region (x ∷ xs) s v (z ∷ zs) q h k = (h.0, append_region xs s v zs q h.1 k)

pub domain_region : (ds : List Range) (v : ℕ → ℤ) (r : List ℤ) → IsIn ds r → IsInRegion (map (λ d. numbers d.low d.high) ds) v r
domain_region [] v [] h = tt
domain_region [] v (z ∷ zs) h = absurd h
domain_region (d ∷ ds) v [] h = absurd h
domain_region (d ∷ ds) v (z ∷ zs) h = (lies_span (numbers d.low d.high) v z (numbers-lies d.low d.high v z h.0 h.1), domain_region ds v zs h.2)
