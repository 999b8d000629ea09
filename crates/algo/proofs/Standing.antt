-- The first of what stands at places that a test refuses.
use Rattle.std.proofs.Common.{◌≡◌, ◌<◌, ◌+◌, ℕ, suc, List, [], ◌∷◌, ◌++◌, length, map, drop, drop-cons, get_or, Bool, true, false, not, cond, Option, Some, None, IsTrue, All, refl, ap, sym, ◌∙◌, subst, arith}
use Rattle.std.specs.Prelude.{is_some, IfSome, Contains}
use Rattle.std.specs.Option.{option_or, option_map}
use Rattle.std.proofs.lemmas.Bool.{false≢true}
use Rattle.std.proofs.lemmas.List.Folds.{find-append}
use Rattle.std.proofs.lemmas.List.Elements.{All-nil, All-cons, All-head, All-tail, Contains-append_left, Contains-append_right, Contains-push}
use Rattle.tree.specs.declared.token.span.Span.{Span}
use Rattle.tree.specs.declared.expr.Expr.{Expr}
use Rattle.algo.specs.Scoping.Standing.{first_refused}

option_map-or : {X Y : Type 0} (f : X → Y) (o p : Option X) → option_map f (option_or o p) ≡ option_or (option_map f o) (option_map f p)
option_map-or f None p = refl
option_map-or f (Some x) p = refl

option_or-some : {X : Type 0} (o p : Option X) → is_some o ≡ true → option_or o p ≡ o
option_or-some None p h = absurd (false≢true h)
option_or-some (Some x) p h = refl

option_or-none : {X : Type 0} (o p : Option X) → is_some o ≡ false → option_or o p ≡ p
option_or-none None p h = refl
option_or-none (Some x) p h = absurd (false≢true (sym h))

module _ {X Y : Type 0} (f : X × Span → Y) (accepted : X → Bool) where
  abbrev pub answer : List (X × Span) → Option Y
  answer xs = option_map f (first_refused accepted xs)

  -- of two lists
  pub refused_in_two : (xs ys : List (X × Span))
      → option_map f (first_refused accepted (xs ++ ys)) ≡ option_or (option_map f (first_refused accepted xs)) (option_map f (first_refused accepted ys))
  refused_in_two xs ys = ap (option_map f) (find-append (λ p. not (accepted p.0)) xs ys) ∙ option_map-or f (first_refused accepted xs) (first_refused accepted ys)

  -- of three lists
  pub refused_in_three : (xs ys zs : List (X × Span))
      → option_map f (first_refused accepted (xs ++ ys ++ zs))
      ≡ option_or (option_or (option_map f (first_refused accepted xs)) (option_map f (first_refused accepted ys))) (option_map f (first_refused accepted zs))
  refused_in_three xs ys zs = refused_in_two (xs ++ ys) zs ∙ ap (λ o. option_or o (option_map f (first_refused accepted zs))) (refused_in_two xs ys)

  -- what stands in several expressions, one after the other
  module _ (parts : Expr → List (X × Span)) (all : List Expr → List (X × Span)) (more : (a : Expr) (rest : List Expr) → all (a ∷ rest) ≡ parts a ++ all rest) where
    split : (at : List Expr) (i : ℕ) (x : Expr) → i < length at → x ≡ get_or at i x → answer (all (drop i at)) ≡ option_or (answer (parts x)) (answer (all (drop (i + 1) at)))
    split at i x lt is =
        ap (λ l. answer (all l)) (drop-cons at i x lt)
        ∙ ap answer (more (get_or at i x) (drop (suc i) at))
        ∙ refused_in_two (parts (get_or at i x)) (all (drop (suc i) at))
        ∙ ap (λ e. option_or (answer (parts e)) (answer (all (drop (suc i) at)))) (sym is)
        ∙ ap (λ j. option_or (answer (parts x)) (answer (all (drop j at)))) {x = suc i} (let e : suc i ≡ i + 1 = omega arith in e)

    -- the answer for one of the expressions is that for all, where those before had none
    pub found_at : (at : List Expr) (i : ℕ) (x : Expr) (r : Option Y) → i < length at → x ≡ get_or at i x → r ≡ answer (parts x) → is_some r ≡ true
        → answer (all (drop i at)) ≡ answer (all at) → r ≡ answer (all at)
    found_at at i x r lt is here some rest =
        here ∙ sym (option_or-some (answer (parts x)) (answer (all (drop (i + 1) at))) (subst (λ o. is_some o ≡ true) here some)) ∙ sym (split at i x lt is) ∙ rest

    -- and without an answer for it the rest decides
    pub passed_at : (at : List Expr) (i : ℕ) (x : Expr) (r : Option Y) → i < length at → x ≡ get_or at i x → r ≡ answer (parts x) → is_some r ≡ false
        → answer (all (drop i at)) ≡ answer (all at) → answer (all (drop (i + 1) at)) ≡ answer (all at)
    passed_at at i x r lt is here none rest =
        sym (option_or-none (answer (parts x)) (answer (all (drop (i + 1) at))) (subst (λ o. is_some o ≡ false) here none)) ∙ sym (split at i x lt is) ∙ rest

pub is_some-option_map : {X Y : Type 0} (f : X → Y) (o : Option X) → is_some (option_map f o) ≡ is_some o
is_some-option_map f None = refl
is_some-option_map f (Some x) = refl

module _ {X : Type 0} (accepted : X → Bool) where
  abbrev Passes : X → Type 0
  Passes x = IsTrue (accepted x)

  passes_more : (p : X × Span) (xs : List (X × Span)) (o : Option (X × Span)) (b : Bool) → accepted p.0 ≡ b → is_some (cond (not b) (Some p) o) ≡ false
      → (is_some o ≡ false → All Passes (map (λ q. q.0) xs)) → All Passes (map (λ q. q.0) (p ∷ xs))
  passes_more p xs o true e h rest = All-cons Passes p.0 (map (λ q. q.0) xs) e (rest h)
  passes_more p xs o false e h rest = absurd (false≢true (sym h))

  -- where nothing is refused each passes
  pub each_passes : (xs : List (X × Span)) → is_some (first_refused accepted xs) ≡ false → All Passes (map (λ q. q.0) xs)
  each_passes [] h = All-nil Passes
  each_passes (p ∷ xs) h = passes_more p xs (first_refused accepted xs) (accepted p.0) refl h (each_passes xs)

  -- where each passes nothing is refused
  pub none_refused : (xs : List (X × Span)) → All Passes (map (λ q. q.0) xs) → is_some (first_refused accepted xs) ≡ false
  none_refused [] h = refl
  none_refused (p ∷ xs) h =
      let rest = map (λ (q : X × Span). q.0) xs in
      ap (λ b. is_some (cond (not b) (Some p) (first_refused accepted xs))) (All-head Passes p.0 rest h) ∙ none_refused xs (All-tail Passes p.0 rest h)

  -- it stands there, and is refused
  abbrev pub IsRefusedIn : List (X × Span) → X × Span → Type 0
  IsRefusedIn xs p = Contains xs p × (accepted p.0 ≡ false)

  refused_later : (p : X × Span) (xs : List (X × Span)) (o : Option (X × Span)) → IfSome o (IsRefusedIn xs) → IfSome o (IsRefusedIn (p ∷ xs))
  refused_later p xs None h = h
  refused_later p xs (Some q) h = (Contains-append_right (p ∷ []) xs q h.0, h.1)

  refused_here : (p : X × Span) (xs : List (X × Span)) (o : Option (X × Span)) (b : Bool) → accepted p.0 ≡ b
      → IfSome o (IsRefusedIn (p ∷ xs)) → IfSome (cond (not b) (Some p) o) (IsRefusedIn (p ∷ xs))
  refused_here p xs o true e h = h
  refused_here p xs o false e h = (Contains-append_left (p ∷ []) xs p (Contains-push [] p), e)

  pub first_is_refused : (xs : List (X × Span)) → IfSome (first_refused accepted xs) (IsRefusedIn xs)
  first_is_refused [] = tt
  first_is_refused (p ∷ xs) = refused_here p xs (first_refused accepted xs) (accepted p.0) refl (refused_later p xs (first_refused accepted xs) (first_is_refused xs))

-- a fact of what is found, as a fact of its answer
pub answer_is : {X Y : Type 0} (f : X → Y) (P : X → Type 0) (Q : Y → Type 0) (from : (x : X) → P x → Q (f x)) (o : Option X) → IfSome o P → IfSome (option_map f o) Q
answer_is f P Q from None h = tt
answer_is f P Q from (Some x) h = from x h
