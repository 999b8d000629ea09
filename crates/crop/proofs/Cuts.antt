-- Functions that are cut, one after the other, and what a cut definition is made of.
use Rattle.std.proofs.Common.{◌≡◌, ◌<◌, ◌≤◌, ◌+◌, ℕ, zero, suc, ℤ, pos, List, [], ◌∷◌, ◌++◌, length, map, take, drop, get_or, add-one, Option, Some, None, refl, sym, ap, ◌∙◌, arith}
use Rattle.std.proofs.lemmas.List.{append_assoc, append-nil, drop_all}
use Rattle.std.specs.Prelude.{slice_get}
use Rattle.tree.specs.Term.{Term}
use Rattle.lin.specs.declared.span.Span1.{Span1}
use Rattle.meaning.specs.Algorithm.{Range, Change, Function, Algorithm}
use Rattle.meaning.specs.Conditions.{callable}
use Rattle.crop.specs.Inference.Needed.{callable_before, with_domain, names_beside}
use Rattle.crop.specs.Moving.{moved}
use Rattle.crop.specs.Cutting.{Kept, Cut, spans_of, move_over, lefts_moved, change_cut, function_cut, with_kept, functions_cut}

same_some : {A : Type 0} {x y : A} → Some x ≡ Some y → x ≡ y
same_some e = cc

none_some : {A : Type 0} (x : A) → None ≡ Some x → ⊥
none_some x e = cc

module _ {A : Type 0} (g : A → Option Kept) (a : Algorithm) (cut : Cut) where
  abbrev Rest : List Function → List A → ℕ → List Function
  Rest fs ks n = functions_cut a cut n (drop n fs) (map g (drop n ks))

  step : (j : ℕ) (fs : List Function) (ks : List A) (n : ℕ) (f : Function) (x : A) → slice_get fs n ≡ Some f → n < length ks → x ≡ get_or ks n x
      → functions_cut a cut j (drop n fs) (map g (drop n ks)) ≡ with_kept a cut j f (g x) (functions_cut a cut (suc j) (drop (suc n) fs) (map g (drop (suc n) ks)))
  step j [] ks n f x e lt is = absurd (none_some f e)
  step j (h ∷ fs) [] n f x e lt is = absurd (omega arith)
  step j (h ∷ fs) (k ∷ ks) zero f x e lt is = λ i. with_kept a cut j (same_some e i) (g (sym is i)) (functions_cut a cut (suc j) fs (map g ks))
  step j (h ∷ fs) (k ∷ ks) (suc n) f x e lt is = step j fs ks n f x e (omega arith) is

  left_step : (j : ℕ) (fs : List Function) (ks : List A) (n : ℕ) (x : A) → n < length ks → x ≡ get_or ks n x → g x ≡ None
      → functions_cut a cut (suc j) (drop (suc n) fs) (map g (drop (suc n) ks)) ≡ functions_cut a cut j (drop n fs) (map g (drop n ks))
  left_step j fs [] n x lt is none = absurd (omega arith)
  left_step j [] (k ∷ ks) zero x lt is none = refl
  left_step j [] (k ∷ ks) (suc n) x lt is none = refl
  left_step j (h ∷ fs) (k ∷ ks) zero x lt is none =
      ap (λ o. with_kept a cut j h o (functions_cut a cut (suc j) fs (map g ks))) (sym (ap g (sym is) ∙ none))
  left_step j (h ∷ fs) (k ∷ ks) (suc n) x lt is none = left_step j fs ks n x (omega arith) is none

  -- the next function is left out
  pub left_out : (fs : List Function) (ks : List A) (n : ℕ) (x : A) → n < length ks → x ≡ get_or ks n x → g x ≡ None → Rest fs ks (n + 1) ≡ Rest fs ks n
  left_out fs ks n x lt is none = ap (Rest fs ks) (add-one n) ∙ left_step n fs ks n x lt is none

  -- or it is kept
  pub kept_next : (made : List Function) (fs : List Function) (ks : List A) (n : ℕ) (f cut_f : Function) (x : A) (kept : Kept)
      → slice_get fs n ≡ Some f → n < length ks → x ≡ get_or ks n x → g x ≡ Some kept
      → cut_f ≡ function_cut a cut n f kept → (made ++ cut_f ∷ []) ++ Rest fs ks (n + 1) ≡ made ++ Rest fs ks n
  kept_next made fs ks n f cut_f x kept e lt is some same =
      append_assoc made (cut_f ∷ []) (Rest fs ks (n + 1))
      ∙ ap (λ l. made ++ l) ((λ i. same i ∷ Rest fs ks (add-one n i)) ∙ sym (step n fs ks n f x e lt is ∙ ap (λ o. with_kept a cut n f o (Rest fs ks (suc n))) some))

  none : (j : ℕ) (fs : List Function) → functions_cut a cut j fs [] ≡ []
  none j [] = refl
  none j (f ∷ fs) = refl

  -- past the last nothing is left
  pub past : (made : List Function) (fs : List Function) (ks : List A) (n : ℕ) → length ks ≤ n → made ++ Rest fs ks n ≡ made
  past made fs ks n h = ap (λ l. made ++ functions_cut a cut n (drop n fs) (map g l)) (drop_all n ks h) ∙ ap (λ l. made ++ l) (none n (drop n fs)) ∙ append-nil made

module _ (a : Algorithm) (cut : Cut) (k : ℕ) (f : Function) (kept : Kept) where
  -- an update that is made of moved parts
  pub change_made : (u : Change) (ranges : List Range) (at : List Term) (value : Term) (names others : List (List ℕ)) (region domain : List Span1)
      (origin : List ℤ) (places : List Term) (right : Term) (count : ℕ)
      → names ≡ names_beside f.variables u.ranges → others ≡ names_beside f.variables u.ranges → region ≡ with_domain (spans_of kept.region) u.ranges
      → domain ≡ with_domain (spans_of kept.region) u.ranges
      → origin ≡ kept.origin → places ≡ u.at → right ≡ u.value → count ≡ suc k → ranges ≡ u.ranges
      → at ≡ lefts_moved a cut (move_over a cut (callable_before a k) f.variables kept.origin names region) origin places
      → value ≡ moved (move_over a cut (callable a (take count a.functions)) f.variables kept.origin others domain) (pos 0) right
      → ◌≡◌ {A = Change} (record { ranges = ranges; at = at; value = value }) (change_cut a cut k f kept u)
  change_made u ranges at value names others region domain origin places right count n o r d q p v next rs t w =
      λ i. record {
        ranges = rs i;
        at = (t ∙ λ j. lefts_moved a cut (move_over a cut (callable_before a k) f.variables kept.origin (n j) (r j)) (q j) (p j)) i;
        value = (w ∙ λ j. moved (move_over a cut (callable a (take (next j) a.functions)) f.variables kept.origin (o j) (d j)) (pos 0) (v j)) i;
      }
