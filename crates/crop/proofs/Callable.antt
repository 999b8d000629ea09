-- What can be called by a name, looked for from the front.
use Rattle.std.proofs.Common.{◌≡◌, ◌<◌, ◌≤◌, ◌+◌, ℕ, zero, suc, List, [], ◌∷◌, length, drop, take, true, false, Some, refl, ap, ◌∙◌, arith}
use Rattle.std.specs.Prelude.{slice_get}
use Rattle.meaning.specs.Algorithm.{Function, Algorithm}
use Rattle.meaning.specs.Names.{same_name}
use Rattle.meaning.specs.Conditions.{callable}
use Rattle.meaning.proofs.Calls.{callable_hit, callable_miss}

left_of : (fs : List Function) (k i : ℕ) (f : Function) → slice_get fs i ≡ Some f → i < k → drop i (take k fs) ≡ f ∷ drop (suc i) (take k fs)
left_of [] k i f e h = absurd (cc)
left_of (x ∷ xs) zero i f e h = absurd (omega arith)
left_of (x ∷ xs) (suc k) zero f e h = let same : x ≡ f = cc in ap (λ y. y ∷ take k xs) same
left_of (x ∷ xs) (suc k) (suc i) f e h = left_of xs k i f e (omega arith)

none_left : (fs : List Function) (k i : ℕ) → k ≤ i → drop i (take k fs) ≡ []
none_left [] zero zero h = refl
none_left [] zero (suc i) h = refl
none_left [] (suc k) zero h = refl
none_left [] (suc k) (suc i) h = refl
none_left (x ∷ xs) zero zero h = refl
none_left (x ∷ xs) zero (suc i) h = refl
none_left (x ∷ xs) (suc k) zero h = absurd (omega arith)
none_left (x ∷ xs) (suc k) (suc i) h = none_left xs k i (omega arith)

module _ (a : Algorithm) (k i : ℕ) (name : List ℕ) where
  -- the next function has the name
  pub found_at : (f : Function) → slice_get a.functions i ≡ Some f → i < k → same_name f.name name ≡ true → callable a (drop i (take k a.functions)) name ≡ Some (f.ty, length f.variables)
  found_at f e h t = ap (λ fs. callable a fs name) (left_of a.functions k i f e h) ∙ callable_hit a f (drop (suc i) (take k a.functions)) name t

  -- or it does not count
  pub passed_at : (f : Function) → slice_get a.functions i ≡ Some f → i < k → same_name f.name name ≡ false
      → callable a (drop i (take k a.functions)) name ≡ callable a (drop (i + 1) (take k a.functions)) name
  passed_at f e h t =
      let next : suc i ≡ i + 1 = omega arith in
      ap (λ fs. callable a fs name) (left_of a.functions k i f e h) ∙ callable_miss a f (drop (suc i) (take k a.functions)) name t
      ∙ ap (λ j. callable a (drop j (take k a.functions)) name) next

  -- past the last it is the input
  pub past : k ≤ i → callable a (drop i (take k a.functions)) name ≡ callable a [] name
  past h = ap (λ fs. callable a fs name) (none_left a.functions k i h)
