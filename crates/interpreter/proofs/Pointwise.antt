-- What is done at each point of a region, by its last coordinate and by the others.
use Rattle.std.proofs.Common.{◌≡◌, zero, suc, ◌+◌, length, drop, add-one, List, [], ◌∷◌, ◌++◌, map, Bool, true, false, refl, sym, ap, ◌∙◌, append_assoc, ℕ, ℤ}
use Rattle.std.specs.Prelude.{flat_map, filter, if◌then◌else◌}
use Rattle.std.proofs.lemmas.List.{append-nil}
use Rattle.lin.specs.declared.span.Span1.{Span1}
use Rattle.plan.specs.Symbols.{Symbols, turns, points}
use Rattle.plan.specs.Semantics.Actions.{Action, Take, Give}
use Rattle.interpreter.specs.Rows.{Listed}
use Rattle.interpreter.specs.Visits.{extended, KeepsFrom}

flat_map-append : {X A : Type 0} (f : X → List A) (xs ys : List X) → flat_map f (xs ++ ys) ≡ flat_map f xs ++ flat_map f ys
flat_map-append f [] ys = refl
flat_map-append f (x ∷ xs) ys = ap (λ l. f x ++ l) (flat_map-append f xs ys) ∙ sym (append_assoc (f x) (flat_map f xs) (flat_map f ys))

pub flat_map-twice : {X Y A : Type 0} (f : Y → List A) (g : X → List Y) (xs : List X) → flat_map f (flat_map g xs) ≡ flat_map (λ x. flat_map f (g x)) xs
flat_map-twice f g [] = refl
flat_map-twice f g (x ∷ xs) = flat_map-append f (g x) (flat_map g xs) ∙ ap (λ l. flat_map f (g x) ++ l) (flat_map-twice f g xs)

pub flat_map-single : {X A : Type 0} (f : X → A) (xs : List X) → flat_map (λ x. f x ∷ []) xs ≡ map f xs
flat_map-single f [] = refl
flat_map-single f (x ∷ xs) = ap (λ l. f x ∷ l) (flat_map-single f xs)

flat_map-filter : {X A : Type 0} (f : X → A) (test : X → Bool) (xs : List X) → flat_map (λ x. if test x then f x ∷ [] else []) xs ≡ map f (filter test xs)
flat_map-filter f test [] = refl
flat_map-filter {X} {A} f test (x ∷ xs) = by (test x) (flat_map-filter f test xs)
  where
    by : (b : Bool) → flat_map (λ y. if test y then f y ∷ [] else []) xs ≡ map f (filter test xs) →
        (if b then f x ∷ [] else []) ++ flat_map (λ y. if test y then f y ∷ [] else []) xs ≡ map f (if b then x ∷ filter test xs else filter test xs)
    by true h = ap (λ (l : List A). f x ∷ l) h
    by false h = h

module _ (s : Symbols) where
  pub points-extended : (xs : List Span1) → points s xs ≡ extended s xs []
  points-extended [] = refl
  points-extended (x ∷ xs) = ap (λ (ps : List (List ℤ)). flat_map (λ p. map (λ z. z ∷ p) (turns s x)) ps) (points-extended xs)

  -- the last span is the slowest
  pub extended-last : (xs : List Span1) (x : Span1) (p : List ℤ) → extended s (xs ++ x ∷ []) p ≡ flat_map (λ z. extended s xs (z ∷ p)) (turns s x)
  extended-last [] x p = append-nil (map (λ z. z ∷ p) (turns s x)) ∙ sym (flat_map-single (λ (z : ℤ). z ∷ p) (turns s x))
  extended-last (y ∷ ys) x p =
      ap (λ (ps : List (List ℤ)). flat_map (λ q. map (λ z. z ∷ q) (turns s y)) ps) (extended-last ys x p)
      ∙ flat_map-twice (λ (q : List ℤ). map (λ z. z ∷ q) (turns s y)) (λ (z : ℤ). extended s ys (z ∷ p)) (turns s x)

  -- the actions at the points of a region, by its last coordinate
  pub actions-last : (act : List ℤ → List Action) (xs : List Span1) (x : Span1) (p : List ℤ) →
      flat_map act (extended s (xs ++ x ∷ []) p) ≡ flat_map (λ z. flat_map act (extended s xs (z ∷ p))) (turns s x)
  actions-last act xs x p = ap (flat_map act) (extended-last xs x p) ∙ flat_map-twice act (λ (z : ℤ). extended s xs (z ∷ p)) (turns s x)

  pub fetched : (b : ℕ) (f : List ℕ) (xs : List Span1) → map (Take b f) (points s xs) ≡ flat_map (λ p. Take b f p ∷ []) (extended s xs [])
  fetched b f xs = ap (map (Take b f)) (points-extended xs) ∙ sym (flat_map-single (Take b f) (extended s xs []))

  pub published : (c : ℕ) (test : List ℤ → Bool) (xs : List Span1) → map (Give c) (filter test (points s xs)) ≡ flat_map (λ p. if test p then Give c p ∷ [] else []) (extended s xs [])
  published c test xs = ap (λ (ps : List (List ℤ)). map (Give c) (filter test ps)) (points-extended xs) ∙ sym (flat_map-filter (Give c) test (extended s xs []))

-- ---- the coordinates of a point behind the n-th

drop-suc : {A : Type 0} (n : ℕ) (xs : List A) → drop (suc n) xs ≡ drop 1 (drop n xs)
drop-suc zero xs = refl
drop-suc (suc n) [] = refl
drop-suc (suc n) (x ∷ xs) = drop-suc n xs

drop-next : {A : Type 0} (n : ℕ) (xs : List A) → drop (n + 1) xs ≡ drop 1 (drop n xs)
drop-next n xs = ap (λ m. drop m xs) (add-one n) ∙ drop-suc n xs

-- one was put in front of them, and what stands in front of it was changed
pub keeps_more : (n : ℕ) (old now put new : Listed) (z : ℤ) → KeepsFrom (n + 1) old now → drop n put.items ≡ z ∷ drop (n + 1) now.items → length put.items ≡ length now.items → KeepsFrom n put new → KeepsFrom (n + 1) old new
keeps_more n old now put new z before is count after = record {
  from = drop-next n new.items ∙ ap (drop 1) (after.from ∙ is) ∙ before.from;
  count = after.count ∙ count ∙ before.count;
}
