-- What symbols stand for fits the scope that the binders around a line make.
use Rattle.std.proofs.Common.{◌≡◌, ℕ, zero, suc, ◌+◌, Bool, true, false, List, [], ◌∷◌, map, Some, refl, sym, ap, ◌∙◌, subst, arith, ◌⊎◌, inl, inr}
use Rattle.std.specs.Prelude.{ℤ, ◌≤ℤ◌, ◌==◌, if◌then◌else◌, Any, fold, slice_get, min}
use Rattle.std.specs.Int.{int_max, int_min}
use Rattle.std.specs.List.{range_with_len}
use Rattle.std.proofs.lemmas.Int.{ints, clamps, fold-int_max_bounds, fold-int_min_bounds}
use Rattle.std.proofs.lemmas.List.Elements.{All-nil, All-from_recursion, recursion_from_All}
use Rattle.lin.specs.Forms.{Form, value_of}
use Rattle.lin.specs.Spans.{IsInSpan, Holds, HoldsIn}
use Rattle.lin.specs.declared.scope.Binding.{Binding}
use Rattle.lin.specs.declared.scope.Binding.TheVariants.{Loop, LetMin, LetMax}
use Rattle.lin.specs.declared.span.Span1.{Span1}
use Rattle.lin.proofs.Soundness.{at_most-holds}
use Rattle.plan.specs.declared.stmt.Pick.{Pick}
use Rattle.plan.specs.declared.stmt.Pick.TheVariants.{Min, Max}
use Rattle.plan.specs.Symbols.{Symbols, form_value}
use Rattle.soundness.specs.Obligations.{Lies, Binder, Ranged, Picked, Passed, Respects, picked, anything}
use Rattle.soundness.proofs.Forms.{range_lies, map_rec}
use Rattle.soundness.proofs.Refines.{eq_true}
use Rattle.rules.specs.Bounding.Scopes.{most_symbols, is_limited, limited, picked_binding, binding_of, symbol_count, scope_of, shown_at_most}

pub nowhere : (v : ℕ → ℤ) (z : ℤ) → IsInSpan anything v z
nowhere v z = (All-nil (λ f. value_of f v ≤ℤ z), All-nil (λ f. z ≤ℤ value_of f v))

limited_lies : (x : Span1) (s : Symbols) (z : ℤ) → Lies s x z → IsInSpan (limited x) s.value z
limited_lies x s z h = of (is_limited x)
  where
    of : (v : Bool) → IsInSpan (if v then x else anything) s.value z
    of true = range_lies s x z h
    of false = nowhere s.value z

-- ---- the smallest and the largest

-- a number that one of the forms has
abbrev Reached : (Form → ℤ) → List Form → ℤ → Type 0
Reached f ls z = Any (λ g. f g ≡ z) ls

reached_first : (f : Form → ℤ) (l : Form) (ls : List Form) (z : ℤ) → f l ≡ z → Reached f (l ∷ ls) z
reached_first f l ls z e = (0, l, omega arith, refl, e)

reached_later : (f : Form → ℤ) (l : Form) (ls : List Form) (z : ℤ) → Reached f ls z → Reached f (l ∷ ls) z
reached_later f l ls z (k, x, i, e, h) = (suc k, x, omega (arith, i), e, h)

one_smaller : (x y : ℤ) → (int_min x y ≡ x) ⊎ (int_min x y ≡ y)
one_smaller x y = grind (arith, ints, clamps)

one_larger : (x y : ℤ) → (int_max x y ≡ x) ⊎ (int_max x y ≡ y)
one_larger x y = grind (arith, ints, clamps)

smallest_reached : (f : Form → ℤ) (z : ℤ) (ls : List Form) → (fold int_min z (map f ls) ≡ z) ⊎ Reached f ls (fold int_min z (map f ls))
smallest_reached f z [] = inl refl
smallest_reached f z (l ∷ ls) = elim (smallest_reached f (int_min z (f l)) ls) [
  | inl e ↦ elim (one_smaller z (f l)) [ inl a ↦ inl (e ∙ a) | inr b ↦ inr (reached_first f l ls _ (sym (e ∙ b))) ]
  | inr h ↦ inr (reached_later f l ls _ h)
]

largest_reached : (f : Form → ℤ) (z : ℤ) (ls : List Form) → (fold int_max z (map f ls) ≡ z) ⊎ Reached f ls (fold int_max z (map f ls))
largest_reached f z [] = inl refl
largest_reached f z (l ∷ ls) = elim (largest_reached f (int_max z (f l)) ls) [
  | inl e ↦ elim (one_larger z (f l)) [ inl a ↦ inl (e ∙ a) | inr b ↦ inr (reached_first f l ls _ (sym (e ∙ b))) ]
  | inr h ↦ inr (reached_later f l ls _ h)
]

picked_holds : (pick : Pick) (ls : List Form) (s : Symbols) (z : ℤ) → z ≡ picked pick ls s → Holds (picked_binding pick ls) z s.value
picked_holds Min [] s z e = nowhere s.value z
picked_holds Max [] s z e = nowhere s.value z
picked_holds Min (l ∷ ls) s z e =
    let f : Form → ℤ = λ m. form_value m s in
    let k = fold-int_min_bounds (f l) (map f ls) (picked Min (l ∷ ls) s) refl in
    let first = k.0 in
    let rest = map_rec f (λ v. picked Min (l ∷ ls) s ≤ℤ v) ls (recursion_from_All (λ v. picked Min (l ∷ ls) s ≤ℤ v) (map f ls) k.1) in
    subst (λ y. Holds (LetMin (l ∷ ls)) y s.value) (sym e) (
      All-from_recursion (λ m. picked Min (l ∷ ls) s ≤ℤ f m) (l ∷ ls) (first, rest),
      elim (smallest_reached f (f l) ls) [ inl r ↦ reached_first f l ls _ (sym r) | inr r ↦ reached_later f l ls _ r ],
    )
picked_holds Max (l ∷ ls) s z e =
    let f : Form → ℤ = λ m. form_value m s in
    let k = fold-int_max_bounds (f l) (map f ls) (picked Max (l ∷ ls) s) refl in
    let first = k.0 in
    let rest = map_rec f (λ v. v ≤ℤ picked Max (l ∷ ls) s) ls (recursion_from_All (λ v. v ≤ℤ picked Max (l ∷ ls) s) (map f ls) k.1) in
    subst (λ y. Holds (LetMax (l ∷ ls)) y s.value) (sym e) (
      All-from_recursion (λ m. f m ≤ℤ picked Max (l ∷ ls) s) (l ∷ ls) (first, rest),
      elim (largest_reached f (f l) ls) [ inl r ↦ reached_first f l ls _ (sym r) | inr r ↦ reached_later f l ls _ r ],
    )

-- ---- the scope

here : (s : Symbols) (b : Binding) (bs : List Binder) (i j : ℕ) (v : Bool) → (j == i) ≡ v → Holds b (s.value j) s.value → Holds (binding_of bs i) (s.value i) s.value →
    Holds (if v then b else binding_of bs i) (s.value i) s.value
here s b bs i j true e own rest = subst (λ k. Holds b (s.value k) s.value) (eq_true j i e) own
here s b bs i j false e own rest = rest

binding_holds : (bs : List Binder) (s : Symbols) (i : ℕ) → Respects bs s → Holds (binding_of bs i) (s.value i) s.value
binding_holds [] s i r = nowhere s.value (s.value i)
binding_holds (Ranged j x ∷ bs) s i r = here s (Loop (limited x)) bs i j (j == i) refl (limited_lies x s (s.value j) r.0) (binding_holds bs s i r.1)
binding_holds (Picked j pick ls ∷ bs) s i r = here s (picked_binding pick ls) bs i j (j == i) refl (picked_holds pick ls s (s.value j) r.0) (binding_holds bs s i r.1)
binding_holds (Passed low high ∷ bs) s i r = binding_holds bs s i r.1

at_place : (f : ℕ → Binding) (a k n : ℕ) (b : Binding) → slice_get (map f (range_with_len a k)) n ≡ Some b → f (a + n) ≡ b
at_place f a zero n b e = absurd (cc e)
at_place f a (suc k) zero b e =
    let first : Some (f a) ≡ Some b = e in
    let is : f a ≡ b = cc in
    ap f (omega arith) ∙ is
at_place f a (suc k) (suc n) b e = ap f (omega arith) ∙ at_place f (a + 1) k n b e

pub scope_holds : (bs : List Binder) (s : Symbols) → Respects bs s → HoldsIn (scope_of bs) s.value
scope_holds bs s r = λ n b e. subst (λ x. Holds x (s.value n) s.value) (ap (binding_of bs) (omega arith) ∙ at_place (binding_of bs) 0 (min (symbol_count bs) most_symbols) n b e) (binding_holds bs s n r)

pub ordered : (bs : List Binder) (a b : Form) (s : Symbols) → shown_at_most bs a b ≡ true → Respects bs s → form_value a s ≤ℤ form_value b s
ordered bs a b s h r = at_most-holds (scope_of bs) s.value (scope_holds bs s r) a b h
