-- The union of regions holds the points of each of them.
use Rattle.std.proofs.Common.{◌≡◌, ℕ, suc, zero, List, [], ◌∷◌, length, Option, Some, None, refl, subst, arith, inl, inr}
use Rattle.std.specs.Prelude.{ℤ, fold, ◌⊎◌}
use Rattle.std.specs.List.{AllByRecursion}
use Rattle.std.proofs.lemmas.List.Elements.{recursion_from_All}
use Rattle.numeric.specs.Wrap.{IsOf}
use Rattle.numeric.specs.declared.ty.Ty.TheVariants.{I32}
use Rattle.lin.specs.Spans.{HoldsIn, IsInSpan, IsInRegion}
use Rattle.lin.specs.declared.scope.Binding.{Binding}
use Rattle.lin.specs.declared.span.Span1.{Span1}
use Rattle.bounds.proofs.SpanSound.{Low, High, Lies, either-lies}
use Rattle.bounds.proofs.IntervalSound.{lies_span}
use Rattle.bounds.specs.Projection.Unions.{in_front, union_of, with_region}

-- the point lies in the region that is there, if any
abbrev pub HoldsIf : (ℕ → ℤ) → List ℤ → Option (List Span1) → Type 0
HoldsIf v q found = (r : List Span1) → found ≡ Some r → IsInRegion r v q

-- the region that is there has so many coordinates
abbrev pub HasLength : ℕ → Option (List Span1) → Type 0
HasLength n found = (r : List Span1) → found ≡ Some r → length r ≡ n

-- or none at all
abbrev pub Fits : ℕ → Option (List Span1) → Type 0
Fits n found = (r : List Span1) → found ≡ Some r → (r ≡ []) ⊎ (length r ≡ n)

-- each coordinate is an i32 value
abbrev pub AreIndices : List ℤ → Type 0
AreIndices q = AllByRecursion (λ z. IsOf I32 z) q

some_region : (x y : List Span1) → Some x ≡ Some y → x ≡ y
some_region x y e = cc

pub holds_some : (r : List Span1) (v : ℕ → ℤ) (q : List ℤ) → IsInRegion r v q → HoldsIf v q (Some r)
holds_some r v q h = λ s e. let P : List Span1 → Type 0 = λ u. IsInRegion u v q in subst P (some_region r s e) h

pub length_some : (r : List Span1) (n : ℕ) → length r ≡ n → HasLength n (Some r)
length_some r n h = λ s e. let P : List Span1 → Type 0 = λ u. length u ≡ n in subst P (some_region r s e) h

pub in_front-holds : (s : Option Span1) (ss : Option (List Span1)) (v : ℕ → ℤ) (z : ℤ) (zs : List ℤ) → ((t : Span1) → s ≡ Some t → IsInSpan t v z) → HoldsIf v zs ss → HoldsIf v (z ∷ zs) (in_front s ss)
in_front-holds None ss v z zs h g = λ r e. cc
in_front-holds (Some t) None v z zs h g = λ r e. cc
in_front-holds (Some t) (Some ts) v z zs h g = holds_some (t ∷ ts) v (z ∷ zs) (h t refl, g ts refl)

pub in_front-length : (s : Option Span1) (ss : Option (List Span1)) (n m : ℕ) → m ≡ suc n → HasLength n ss → HasLength m (in_front s ss)
in_front-length None ss n m e g = λ r e. cc
in_front-length (Some t) None n m e g = λ r e. cc
in_front-length (Some t) (Some ts) n m e g = let p = g ts refl in length_some (t ∷ ts) m (omega (arith, p, e))

span_lies : (s : Span1) (v : ℕ → ℤ) (z : ℤ) → IsInSpan s v z → Lies s v z
span_lies s v z h = (recursion_from_All (Low v z) s.lower h.0, recursion_from_All (High v z) s.upper h.1)

empty_region : (r : List Span1) (v : ℕ → ℤ) → length r ≡ 0 → IsInRegion r v []
empty_region [] v e = tt
empty_region (s ∷ ss) v e = absurd (omega (arith, e))

some_length : (a : Span1) (as' : List Span1) (n : ℕ) → ((a ∷ as') ≡ []) ⊎ (length (a ∷ as') ≡ n) → length (a ∷ as') ≡ n
some_length a as' n (inl e) = absurd (cc)
some_length a as' n (inr e) = e

pub union-length : (scope : List Binding) (as' bs : List Span1) (n : ℕ) → length as' ≡ n → length bs ≡ n → HasLength n (union_of scope as' bs)
union-length scope [] bs n la lb = length_some [] n la
union-length scope (a ∷ as') [] n la lb = length_some [] n lb
union-length scope (a ∷ as') (b ∷ bs) zero la lb = absurd (omega (arith, la))
union-length scope (a ∷ as') (b ∷ bs) (suc n) la lb = in_front-length _ _ n (suc n) refl (union-length scope as' bs n (omega (arith, la)) (omega (arith, lb)))

module _ (scope : List Binding) (v : ℕ → ℤ) (r : HoldsIn scope v) where
  union-holds : (as' bs : List Span1) (q : List ℤ) → AreIndices q → length as' ≡ length q → length bs ≡ length q → IsInRegion as' v q ⊎ IsInRegion bs v q → HoldsIf v q (union_of scope as' bs)
  union-holds [] bs [] i la lb h = holds_some [] v [] tt
  union-holds [] bs (z ∷ zs) i la lb h = absurd (omega (arith, la))
  union-holds (a ∷ as') [] [] i la lb h = absurd (omega (arith, la))
  union-holds (a ∷ as') [] (z ∷ zs) i la lb h = absurd (omega (arith, lb))
  union-holds (a ∷ as') (b ∷ bs) [] i la lb h = absurd (omega (arith, la))
  union-holds (a ∷ as') (b ∷ bs) (z ∷ zs) i la lb (inl h) =
      in_front-holds _ _ v z zs (λ t e. lies_span t v z (either-lies scope v r I32 a b z i.0 (inl (span_lies a v z h.0)) t e))
      (union-holds as' bs zs i.1 (omega (arith, la)) (omega (arith, lb)) (inl h.1))
  union-holds (a ∷ as') (b ∷ bs) (z ∷ zs) i la lb (inr h) =
      in_front-holds _ _ v z zs (λ t e. lies_span t v z (either-lies scope v r I32 a b z i.0 (inr (span_lies b v z h.0)) t e))
      (union-holds as' bs zs i.1 (omega (arith, la)) (omega (arith, lb)) (inr h.1))

  module _ (n : ℕ) where
    with_region-fits : (k s : Option (List Span1)) → Fits n k → HasLength n s → Fits n (with_region scope k s)
    with_region-fits None s f h = λ u e. cc
    with_region-fits (Some []) s f h = λ u e. inr (h u e)
    with_region-fits (Some (a ∷ as')) None f h = λ u e. cc
    with_region-fits (Some (a ∷ as')) (Some bs) f h = λ u e. inr (union-length scope (a ∷ as') bs n (some_length a as' n (f (a ∷ as') refl)) (h bs refl) u e)

    module _ (q : List ℤ) (i : AreIndices q) (l : length q ≡ n) where
      none_holds : (s : Option (List Span1)) (p : List ℤ) → p ≡ q → HasLength n s → HoldsIf v p (Some []) → HoldsIf v p s
      none_holds s [] e h k = λ u d. empty_region u v (omega (arith, h u d, l, ap_length e))
        where
          ap_length : [] ≡ q → length q ≡ 0
          ap_length e = let P : List ℤ → Type 0 = λ x. length x ≡ 0 in subst P e refl
      none_holds s (z ∷ zs) e h k = absurd (k [] refl)

      keeps : (k s : Option (List Span1)) → Fits n k → HasLength n s → HoldsIf v q k → HoldsIf v q (with_region scope k s)
      keeps None s f h g = λ u e. cc
      keeps (Some []) s f h g = none_holds s q refl h g
      keeps (Some (a ∷ as')) None f h g = λ u e. cc
      keeps (Some (a ∷ as')) (Some bs) f h g =
          let la = some_length a as' n (f (a ∷ as') refl) in
          let lb = h bs refl in
          union-holds (a ∷ as') bs q i (omega (arith, la, l)) (omega (arith, lb, l)) (inl (g (a ∷ as') refl))

      adds : (k s : Option (List Span1)) → Fits n k → HasLength n s → HoldsIf v q s → HoldsIf v q (with_region scope k s)
      adds None s f h g = λ u e. cc
      adds (Some []) s f h g = g
      adds (Some (a ∷ as')) None f h g = λ u e. cc
      adds (Some (a ∷ as')) (Some bs) f h g =
          let la = some_length a as' n (f (a ∷ as') refl) in
          let lb = h bs refl in
          union-holds (a ∷ as') bs q i (omega (arith, la, l)) (omega (arith, lb, l)) (inr (g bs refl))

      fold-keeps : (k : Option (List Span1)) (ss : List (Option (List Span1))) → AllByRecursion (HasLength n) ss → Fits n k → HoldsIf v q k → HoldsIf v q (fold (with_region scope) k ss)
      fold-keeps k [] a f g = g
      fold-keeps k (s ∷ ss) a f g = fold-keeps (with_region scope k s) ss a.1 (with_region-fits k s f a.0) (keeps k s f a.0 g)

    -- what lies in a region lies in what is found
    abbrev pub Reaches : Option (List Span1) → Option (List Span1) → Type 0
    Reaches found s = (q : List ℤ) → AreIndices q → length q ≡ n → HoldsIf v q s → HoldsIf v q found

    pub fold-holds : (k : Option (List Span1)) (ss : List (Option (List Span1))) → AllByRecursion (HasLength n) ss → Fits n k → AllByRecursion (Reaches (fold (with_region scope) k ss)) ss
    fold-holds k [] a f = tt
    fold-holds k (s ∷ ss) a f = (
      λ q i l g. fold-keeps q i l (with_region scope k s) ss a.1 (with_region-fits k s f a.0) (adds q i l k s f a.0 g),
      fold-holds (with_region scope k s) ss a.1 (with_region-fits k s f a.0),
    )
