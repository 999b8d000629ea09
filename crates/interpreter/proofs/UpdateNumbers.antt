-- The numbers of an update's coordinates: those that forms tell, and those that registers have.
use Rattle.std.proofs.Common.{◌≡◌, ℕ, zero, suc, ◌-◌, List, [], ◌∷◌, Option, Some, None, length, take, refl, sym, ap, ◌∙◌, arith, subst, ℤ}
use Rattle.tree.specs.declared.value.Value.{Value}
use Rattle.tree.specs.Term.{Term}
use Rattle.plan.specs.declared.stmt.Coordinate.{Coordinate}
use Rattle.plan.specs.Plan.{Index, At, Found}
use Rattle.plan.specs.View.{coordinate_of}
use Rattle.plan.specs.Semantics.Found.{found, with}
use Rattle.interpreter.specs.Updates.{place_number, place_numbers, update_number, update_numbers}
use Rattle.interpreter.proofs.Updating.{cons_front}

-- the first of some numbers is that of a coordinate, and the later ones are those of the others
record Front (p : ℕ) (x : Index) (cs : List Coordinate) (z : ℤ) (zs ys : List ℤ) : Type 0 where
  y : ℤ
  rest : List ℤ
  is : y ∷ rest ≡ ys
  first : y ≡ update_number p x z y
  later : rest ≡ update_numbers (p - 1) cs zs rest

module _ (V : List ℕ → ℤ) (L : List ℕ → List ℤ → Option Value) (cs : List Coordinate) (z : ℤ) (zs ys : List ℤ) where
  front_of : (p : ℕ) (x : Index) (y : ℤ) → y ≡ update_number p x z y → ((l : List ℤ) → place_numbers V L (p - 1) cs zs ≡ Some l → l ≡ update_numbers (p - 1) cs zs l) →
      with (place_numbers V L (p - 1) cs zs) (λ l. Some (y ∷ l)) ≡ Some ys → Front p x cs z zs ys
  front_of p x y first all e =
      cons_front y (place_numbers V L (p - 1) cs zs) ys (Front p x cs z zs ys) e (λ l there front. record { y = y; rest = l; is = front; first = first; later = all l there })

  by_value : (p : ℕ) (t : Term) (o : Option Value) → ((l : List ℤ) → place_numbers V L (suc p - 1) cs zs ≡ Some l → l ≡ update_numbers (suc p - 1) cs zs l) →
      with (with o (λ v. Some v.number)) (λ y. with (place_numbers V L (suc p - 1) cs zs) (λ l. Some (y ∷ l))) ≡ Some ys → Front (suc p) (Found t) cs z zs ys
  by_value p t None all e = absurd (cc)
  by_value p t (Some v) all e = front_of (suc p) (Found t) v.number refl all e

  by_index : (p : ℕ) (x : Index) → ((l : List ℤ) → place_numbers V L (p - 1) cs zs ≡ Some l → l ≡ update_numbers (p - 1) cs zs l) →
      with (place_number V L p x z) (λ y. with (place_numbers V L (p - 1) cs zs) (λ l. Some (y ∷ l))) ≡ Some ys → Front p x cs z zs ys
  by_index zero (At l) all e = front_of zero (At l) z refl all e
  by_index (suc p) (At l) all e = front_of (suc p) (At l) z refl all e
  by_index zero (Found t) all e = front_of zero (Found t) z refl all e
  by_index (suc p) (Found t) all e = by_value p t (found V L t) all e

-- the numbers of all coordinates are those that forms tell, but where expressions find them
pub numbers_found : (V : List ℕ → ℤ) (L : List ℕ → List ℤ → Option Value) (cs : List Coordinate) (p : ℕ) (zs ys : List ℤ) → place_numbers V L p cs zs ≡ Some ys → ys ≡ update_numbers p cs zs ys
numbers_found V L [] p zs ys h = let is : [] ≡ ys = cc in sym is
numbers_found V L (c ∷ cs) p [] ys h = absurd (cc)
numbers_found V L (c ∷ cs) p (z ∷ zs) ys h =
    let f = by_index V L cs z zs ys p (coordinate_of c).index (λ l there. numbers_found V L cs (p - 1) zs l there) h in
    subst (λ (t : List ℤ). t ≡ update_numbers p (c ∷ cs) (z ∷ zs) t) f.is (λ i. f.first i ∷ f.later i)

-- those that expressions find are among the first so many
pub update_front : (p : ℕ) (cs : List Coordinate) (zs ys us : List ℤ) → take p ys ≡ take p us → length ys ≡ length us → update_numbers p cs zs ys ≡ update_numbers p cs zs us
update_front p [] zs ys us e l = refl
update_front p (c ∷ cs) [] ys us e l = refl
update_front p (c ∷ cs) (z ∷ zs) [] [] e l = refl
update_front p (c ∷ cs) (z ∷ zs) [] (u ∷ us) e l = absurd (omega (arith, l))
update_front p (c ∷ cs) (z ∷ zs) (y ∷ ys) [] e l = absurd (omega (arith, l))
update_front zero (c ∷ cs) (z ∷ zs) (y ∷ ys) (u ∷ us) e l =
    λ i. first (coordinate_of c).index i ∷ update_front zero cs zs ys us refl (omega (arith, l)) i
  where
    first : (x : Index) → update_number zero x z y ≡ update_number zero x z u
    first (At f) = refl
    first (Found t) = refl
update_front (suc p) (c ∷ cs) (z ∷ zs) (y ∷ ys) (u ∷ us) e l =
    let less : suc p - 1 ≡ p = omega arith in
    let same : y ≡ u = cc in
    let others : take p ys ≡ take p us = cc in
    let later = update_front (suc p - 1) cs zs ys us (ap (λ (q : ℕ). take q ys) less ∙ others ∙ sym (ap (λ (q : ℕ). take q us) less)) (omega (arith, l)) in
    λ i. update_number (suc p) (coordinate_of c).index z (same i) ∷ later i
