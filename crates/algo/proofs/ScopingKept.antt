-- When the left indices of an update keep the places of its function's variables.
use Rattle.std.proofs.Common.{◌≡◌, ◌<◌, ◌≤◌, ◌+◌, ℕ, suc, List, length, map, get_or, Bool, true, false, not, ◌||◌, Some, IsTrue, All, refl, ap, sym, ◌∙◌, subst, below_more, arith}
use Rattle.std.specs.Prelude.{◌↔◌, slice_get, min}
use Rattle.std.specs.Option.{option_map}
use Rattle.std.proofs.lemmas.Bool.{false≢true}
use Rattle.std.proofs.lemmas.List.{get_or_default}
use Rattle.std.proofs.Math.Nat.{min-le_left, min-le_right, le-min}
use Rattle.std.proofs.lemmas.Option.{slice_get-map, slice_get_within, slice_get-get_or}
use Rattle.tree.specs.Term.{Term, Terms}
use Rattle.tree.specs.Uses.{variables_of, EachCall}
use Rattle.tree.proofs.Uses.{each_call-weaker}
use Rattle.meaning.specs.Names.{same_name, is_among}
use Rattle.meaning.specs.Conditions.{is_variable, has_variable}
use Rattle.algo.specs.Scoping.Keeping.{KeepsPlaceOf, KeepPlacesBelow, KeepPlaces}

implied : (a b : Bool) → (not a || b) ≡ true → a ≡ true → b ≡ true
implied true b h e = h
implied false b h e = absurd (false≢true e)

implies : (a b : Bool) → (a ≡ true → b ≡ true) → (not a || b) ≡ true
implies true b f = f refl
implies false b f = refl

pub not_false : (b : Bool) → not b ≡ false → b ≡ true
not_false true h = refl
not_false false h = absurd (false≢true (sym h))

module _ (name : List ℕ) (variables : List (List ℕ)) (value : Term) where
  -- the calls of the function, where the index is the variable
  abbrev CallsHold : ℕ → List ℕ → Type 0
  CallsHold k v = EachCall (λ n at. IsTrue (same_name name n) → IsTrue (has_variable v k at)) value

  abbrev NoneNamed : Term → Type 0
  NoneNamed e = All (λ n. is_among variables n ≡ false) (variables_of e)

  -- by the test of the index
  abbrev Chosen : ℕ → List ℕ → Term → Bool → Type 0
  Chosen k v e b = elim b [ true ↦ CallsHold k v | false ↦ NoneNamed e ]

  -- where the index is the variable, the calls decide
  pub keeps-alone : (k : ℕ) (v : List ℕ) (e : Term) (r : Bool) → is_variable v e ≡ true
      → (IsTrue r → EachCall (λ n at. IsTrue (not (same_name name n) || has_variable v k at)) value)
      → (EachCall (λ n at. IsTrue (not (same_name name n) || has_variable v k at)) value → IsTrue r)
      → IsTrue r ↔ KeepsPlaceOf name variables value k v e
  keeps-alone k v e r is to from =
      let Tested : List ℕ → Terms → Type 0 = λ n at. IsTrue (not (same_name name n) || has_variable v k at) in
      let Holds : List ℕ → Terms → Type 0 = λ n at. IsTrue (same_name name n) → IsTrue (has_variable v k at) in (
        λ h. subst (Chosen k v e) (sym is) (each_call-weaker Tested Holds (λ n at t. implied (same_name name n) (has_variable v k at) t) value (to h)),
        λ h. from (each_call-weaker Holds Tested (λ n at t. implies (same_name name n) (has_variable v k at) t) value (subst (Chosen k v e) is h)),
      )

  -- one more index
  pub keep_next : (at : List Term) (i : ℕ) (v : List ℕ) (e : Term) → slice_get variables i ≡ Some v → slice_get at i ≡ Some e → KeepsPlaceOf name variables value i v e
      → KeepPlacesBelow name variables value at i → KeepPlacesBelow name variables value at (i + 1)
  keep_next at i v e p q here before =
      below_more _ _ before (λ w u s t.
      let same : v ≡ w = cc in
      let other : e ≡ u = cc in
      subst (λ x. KeepsPlaceOf name variables value i x u) same (subst (λ y. KeepsPlaceOf name variables value i v y) other here))

  -- all indices that have a variable
  pub keep_all : (at : List Term) (n : ℕ) → ((k : ℕ) → k < length at → k < length variables → k < n) → KeepPlacesBelow name variables value at n → KeepPlaces name variables value at
  keep_all at n within h k v e p q = h k (within k (slice_get_within at k e q) (slice_get_within variables k v p)) v e p q

-- what stands in a list of names or of terms
pub stands_of : {Z Y : Type 0} (f : Z → Y) (zs : List Z) (i : ℕ) (z : Z) → i < length zs → z ≡ get_or zs i z → slice_get (map f zs) i ≡ Some (f z)
stands_of f zs i z lt is = slice_get-map f zs i ∙ ap (λ o. option_map f o) (slice_get-get_or zs i z lt ∙ ap Some (sym is))

-- two reads of a list at one place
pub same_read : {X : Type 0} (xs : List X) (i : ℕ) (x y : X) → i < length xs → x ≡ get_or xs i x → y ≡ get_or xs i y → x ≡ y
same_read xs i x y lt p q = p ∙ get_or_default xs i x y lt ∙ sym q

pub below_left : (k a b : ℕ) → k < min a b → k < a
below_left k a b h = omega (arith, h, min-le_left a b)

pub below_right : (k a b : ℕ) → k < min a b → k < b
below_right k a b h = omega (arith, h, min-le_right a b)

pub below_both : (i n a b : ℕ) → min a b ≤ n → i < a → i < b → i < n
below_both i n a b h p q =
    let both : suc i ≤ min a b = le-min (omega (arith, p)) (omega (arith, q)) in
    omega (arith, h, both)
