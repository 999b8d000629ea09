-- Where no point is visited twice each point's part is done once.
use Rattle.std.proofs.Common.{◌≡◌, Bool, true, false, List, [], ◌∷◌, ◌++◌, refl, ap, ◌∙◌, subst, inl, inr}
use Rattle.std.specs.Prelude.{ℤ, ◌⊎◌, if◌then◌else◌, flat_map}
use Rattle.std.specs.Ordering.{int_eq}
use Rattle.plan.specs.Semantics.Actions.{Action}
use Rattle.soundness.specs.Claims.{In}
use Rattle.soundness.proofs.Refines.{number_true, number_refl}
use Rattle.soundness.proofs.Turns.{in_append}
use Rattle.tails.specs.Laws.{AreDistinct}
use Rattle.tails.specs.Turns.{PassOrTake}
use Rattle.tails.proofs.Walk.{in_left, in_right}

distinct_left : (xs ys : List (List ℤ)) → AreDistinct (xs ++ ys) → AreDistinct xs
distinct_left [] ys h = tt
distinct_left (x ∷ xs) ys h = ((λ m. h.0 (in_left x xs ys m)), distinct_left xs ys h.1)

distinct_right : (xs ys : List (List ℤ)) → AreDistinct (xs ++ ys) → AreDistinct ys
distinct_right [] ys h = h
distinct_right (x ∷ xs) ys h = distinct_right xs ys h.1

distinct_apart : (xs ys : List (List ℤ)) → AreDistinct (xs ++ ys) → (p : List ℤ) → In p xs → In p ys → ⊥
distinct_apart [] ys h p m k = m
distinct_apart (x ∷ xs) ys h p (inl e) k = h.0 (in_right x xs ys (subst (λ q. In q ys) e k))
distinct_apart (x ∷ xs) ys h p (inr m) k = distinct_apart xs ys h.1 p m k

module _ (passes takes : List Action → Type 0) (c : PassOrTake passes takes) (p : List ℤ) where
  -- a list in which the point stands
  abbrev pub Sure : List (List ℤ) → List Action → Type 0
  Sure ps todo = (In p ps → takes todo) × ((In p ps → ⊥) → passes todo)

  sure_append : (ps qs : List (List ℤ)) (xs ys : List Action) → AreDistinct (ps ++ qs) → (In p ps ⊎ (In p ps → ⊥)) → (In p qs ⊎ (In p qs → ⊥)) → Sure ps xs → Sure qs ys → Sure (ps ++ qs) (xs ++ ys)
  sure_append ps qs xs ys d (inl m) (inl k) a b = absurd (distinct_apart ps qs d p m k)
  sure_append ps qs xs ys d (inl m) (inr k) a b = ((λ n. c.before xs ys (a.0 m) (b.1 k)), λ n. absurd (n (in_left p ps qs m)))
  sure_append ps qs xs ys d (inr m) (inl k) a b = ((λ n. c.later xs ys (a.1 m) (b.0 k)), λ n. absurd (n (in_right p ps qs k)))
  sure_append ps qs xs ys d (inr m) (inr k) a b = ((λ n. elim (in_append p ps qs n) [ inl i ↦ absurd (m i) | inr i ↦ absurd (k i) ]), λ n. c.both xs ys (a.1 m) (b.1 k))

-- whether a point is another, and stands in a list
same_or : (p q : List ℤ) → (p ≡ q) ⊎ (p ≡ q → ⊥)
same_or [] [] = inl refl
same_or [] (z ∷ zs) = inr (λ e. cc e)
same_or (y ∷ ys) [] = inr (λ e. cc e)
same_or (y ∷ ys) (z ∷ zs) = of (int_eq y z) refl (same_or ys zs)
  where
    heads : y ∷ ys ≡ z ∷ zs → (y ≡ z) × (ys ≡ zs)
    heads e = (cc, cc)

    of : (v : Bool) → int_eq y z ≡ v → (ys ≡ zs) ⊎ (ys ≡ zs → ⊥) → (y ∷ ys ≡ z ∷ zs) ⊎ (y ∷ ys ≡ z ∷ zs → ⊥)
    of true e (inl k) = inl (ap (λ x. x ∷ ys) (number_true y z e) ∙ ap (λ l. z ∷ l) k)
    of true e (inr k) = inr (λ same. k (heads same).1)
    of false e k = inr (λ same. let one : int_eq y z ≡ true = ap (λ x. int_eq x z) (heads same).0 ∙ number_refl z in absurd (cc (one, e)))

pub in_or : (p : List ℤ) (ps : List (List ℤ)) → In p ps ⊎ (In p ps → ⊥)
in_or p [] = inr (λ m. m)
in_or p (q ∷ qs) = of (same_or p q) (in_or p qs)
  where
    of : (p ≡ q) ⊎ (p ≡ q → ⊥) → In p qs ⊎ (In p qs → ⊥) → In p (q ∷ qs) ⊎ (In p (q ∷ qs) → ⊥)
    of (inl e) k = inl (inl e)
    of (inr e) (inl m) = inl (inr m)
    of (inr e) (inr m) = inr (λ n. elim n [ inl i ↦ e i | inr i ↦ m i ])

module _ (passes takes : List Action → Type 0) (c : PassOrTake passes takes) (p : List ℤ) where
  pub sure_turns : (g : ℤ → List (List ℤ)) (h : ℤ → List Action) (zs : List ℤ) → AreDistinct (flat_map g zs) → ((z : ℤ) → In z zs → AreDistinct (g z) → Sure passes takes c p (g z) (h z)) → Sure passes takes c p (flat_map g zs) (flat_map h zs)
  sure_turns g h [] d each = ((λ m. absurd m), λ m. c.none)
  sure_turns g h (z ∷ zs) d each =
      sure_append passes takes c p (g z) (flat_map g zs) (h z) (flat_map h zs) d (in_or p (g z)) (in_or p (flat_map g zs)) (each z (inl refl) (distinct_left (g z) (flat_map g zs) d))
      (sure_turns g h zs (distinct_right (g z) (flat_map g zs) d) (λ y m. each y (inr m)))

  pub sure_if : (v : Bool) (ps : List (List ℤ)) (xs : List Action) → (v ≡ true → AreDistinct ps → Sure passes takes c p ps xs) → AreDistinct (if v then ps else []) → Sure passes takes c p (if v then ps else []) (if v then xs else [])
  sure_if true ps xs h d = h refl d
  sure_if false ps xs h d = ((λ m. absurd m), λ m. c.none)
