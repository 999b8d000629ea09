-- Which symbols are inner.
use Rattle.std.proofs.Common.{◌≡◌, ℕ, zero, suc, ◌+◌, ◌-◌, ◌<◌, List, [], ◌∷◌, ◌++◌, length, get_or, Bool, true, false, ◌||◌, arith, add-one, refl, sym, subst, inl, inr}
use Rattle.std.specs.Prelude.{◌==◌, ◌⊎◌, Option, Some, None, IsTrue, MatchOption, slice_get}
use Rattle.std.specs.List.{list_any}
use Rattle.std.proofs.lemmas.Bool.Decides.{nat_tests}
use Rattle.lin.specs.Forms.{Form}
use Rattle.lin.specs.declared.form.Multiple.{Multiple}
use Rattle.lin.specs.declared.scope.Binding.{Binding}
use Rattle.lin.proofs.TermLemmas.{either_way}
use Rattle.lin.proofs.SearchLemmas.{slice_get-is}
use Rattle.bounds.specs.Projection.Elimination.{is_inner, names_inner}
use Rattle.bounds.specs.Projection.Lets.{let_forms, is_let_over, with_let, with_lets_below, with_lets}
use Rattle.bounds.specs.Projection.Sound.{AreInner}

-- ---- lists of symbols
first_true : (a b : Bool) → a ≡ true → (a || b) ≡ true
first_true true b h = refl
first_true false b h = cc

second_true : (a b : Bool) → b ≡ true → (a || b) ≡ true
second_true true b h = refl
second_true false b h = h

one_true : (a b : Bool) → (a || b) ≡ true → (a ≡ true) ⊎ (b ≡ true)
one_true true b h = inl refl
one_true false b h = inr h

is_same : (n : ℕ) → (n == n) ≡ true
is_same n = grind (arith, nat_tests)

same_is : (m n : ℕ) → (m == n) ≡ true → m ≡ n
same_is m n h = grind (arith, nat_tests)

inner-more : (symbols : List ℕ) (n s : ℕ) → is_inner symbols s ≡ true → is_inner (symbols ++ n ∷ []) s ≡ true
inner-more [] n s h = cc
inner-more (x ∷ xs) n s h = elim (one_true (x == s) (is_inner xs s) h)
    [ inl here ↦ first_true (x == s) (is_inner (xs ++ n ∷ []) s) here | inr later ↦ second_true (x == s) (is_inner (xs ++ n ∷ []) s) (inner-more xs n s later) ]

inner-last : (symbols : List ℕ) (n : ℕ) → is_inner (symbols ++ n ∷ []) n ≡ true
inner-last [] n = first_true (n == n) false (is_same n)
inner-last (x ∷ xs) n = second_true (x == n) (is_inner (xs ++ n ∷ []) n) (inner-last xs n)

inner-before : (symbols : List ℕ) (n s : ℕ) → is_inner (symbols ++ n ∷ []) s ≡ true → (is_inner symbols s ≡ true) ⊎ (s ≡ n)
inner-before [] n s h = elim (one_true (n == s) false h) [ inl here ↦ inr (sym (same_is n s here)) | inr later ↦ inl later ]
inner-before (x ∷ xs) n s h = elim (one_true (x == s) (is_inner (xs ++ n ∷ []) s) h) [
  | inl here ↦ inl (first_true (x == s) (is_inner xs s) here)
  | inr later ↦ elim (inner-before xs n s later) [ inl before ↦ inl (second_true (x == s) (is_inner xs s) before) | inr last ↦ inr last ]
]

-- each of the first is one of the second
abbrev Among : List ℕ → List ℕ → Type 0
Among xs ys = (s : ℕ) → is_inner xs s ≡ true → is_inner ys s ≡ true

any-weaker : {X : Type 0} (p q : X → Bool) → ((x : X) → p x ≡ true → q x ≡ true) → (xs : List X) → list_any p xs ≡ true → list_any q xs ≡ true
any-weaker p q f [] h = h
any-weaker p q f (x ∷ xs) h = elim (one_true (p x) (list_any p xs) h)
    [ inl here ↦ first_true (q x) (list_any q xs) (f x here) | inr later ↦ second_true (q x) (list_any q xs) (any-weaker p q f xs later) ]

over-more : (xs ys : List ℕ) → Among xs ys → (binding : Binding) → is_let_over xs binding ≡ true → is_let_over ys binding ≡ true
over-more xs ys f binding h = any-weaker (λ (g : Form). names_inner xs g) (λ (g : Form). names_inner ys g)
    (λ g named. any-weaker (λ (t : Multiple). is_inner xs t.symbol) (λ (t : Multiple). is_inner ys t.symbol) (λ t is. f t.symbol is) g.terms named) (let_forms binding) h

-- ---- one symbol more
-- a binding that is there is a let over one of these
abbrev IsOver : List ℕ → Option Binding → Type 0
IsOver symbols found = MatchOption found ⊥ (λ binding. IsTrue (is_let_over symbols binding))

over-weaker : (xs ys : List ℕ) → Among xs ys → (found : Option Binding) → IsOver xs found → IsOver ys found
over-weaker xs ys f None h = h
over-weaker xs ys f (Some binding) h = over-more xs ys f binding h

let-keeps : (symbols : List ℕ) (n : ℕ) (found : Option Binding) → Among symbols (with_let symbols n found)
let-keeps symbols n None s h = h
let-keeps symbols n (Some binding) s h = either_way (λ (xs : List ℕ). is_inner xs s ≡ true) (is_let_over symbols binding) (symbols ++ n ∷ []) symbols (λ over. inner-more symbols n s h) (λ other. h)

let-adds : (symbols : List ℕ) (n : ℕ) (binding : Binding) → is_let_over symbols binding ≡ true → is_inner (with_let symbols n (Some binding)) n ≡ true
let-adds symbols n binding h = either_way (λ (xs : List ℕ). is_inner xs n ≡ true) (is_let_over symbols binding) (symbols ++ n ∷ []) symbols (λ over. inner-last symbols n) (λ other. cc)

let-only : (symbols : List ℕ) (n : ℕ) (found : Option Binding) (s : ℕ) → is_inner (with_let symbols n found) s ≡ true → (is_inner symbols s ≡ true) ⊎ ((s ≡ n) × IsOver symbols found)
let-only symbols n None s h = inl h
let-only symbols n (Some binding) s h =
    either_way (λ (xs : List ℕ). is_inner xs s ≡ true → (is_inner symbols s ≡ true) ⊎ ((s ≡ n) × IsTrue (is_let_over symbols binding))) (is_let_over symbols binding) (symbols ++ n ∷ []) symbols
    (λ over more. elim (inner-before symbols n s more) [ inl before ↦ inl before | inr last ↦ inr (last, over) ]) (λ other same. inl same) h

get-below : {X : Type 0} (xs : List X) (n : ℕ) (x : X) → slice_get xs n ≡ Some x → n < length xs
get-below [] n x h = cc
get-below (y ∷ ys) zero x h = omega arith
get-below (y ∷ ys) (suc n) x h = let rest = get-below ys n x h in omega (arith, rest)

-- ---- all symbols
module _ (scope : List Binding) (loops : List ℕ) where
  abbrev below : ℕ → List ℕ
  below n = with_lets_below scope loops n

  -- in the terms of the code
  pub lets_below-next : (n : ℕ) (binding : Binding) → n < length scope → binding ≡ get_or scope n binding → with_lets_below scope loops (n + 1) ≡ with_let (with_lets_below scope loops n) n (Some binding)
  lets_below-next n binding h e = rw (add-one, slice_get-is scope n binding h e) refl

  -- k is j above n
  stays : (n j k : ℕ) → k ≡ j + n → Among (below n) (below k)
  stays n zero k e s h = let same : n ≡ k = omega (arith, e) in let P : ℕ → Type 0 = λ x. is_inner (below x) s ≡ true in subst P same h
  stays n (suc j) zero e s h = absurd (omega (arith, e))
  stays n (suc j) (suc k) e s h = let-keeps (below k) k (slice_get scope k) s (stays n j k (omega (arith, e)) s h)

  early : (n j k s : ℕ) → k ≡ j + n → s < n → is_inner (below k) s ≡ true → is_inner (below n) s ≡ true
  early n zero k s e l h = let same : k ≡ n = omega (arith, e) in let P : ℕ → Type 0 = λ x. is_inner (below x) s ≡ true in subst P same h
  early n (suc j) zero s e l h = absurd (omega (arith, e))
  early n (suc j) (suc k) s e l h = elim (let-only (below k) k (slice_get scope k) s h)
      [ inl before ↦ early n j k s (omega (arith, e)) l before | inr last ↦ absurd (let is : s ≡ k = last.0 in omega (arith, is, e, l)) ]

  only_below : (k s : ℕ) → is_inner (below k) s ≡ true → (is_inner loops s ≡ true) ⊎ IsOver (below k) (slice_get scope s)
  only_below zero s h = inl h
  only_below (suc k) s h = elim (let-only (below k) k (slice_get scope k) s h) [
    | inl before ↦ elim (only_below k s before)
        [ inl loop ↦ inl loop | inr over ↦ inr (over-weaker (below k) (below (suc k)) (let-keeps (below k) k (slice_get scope k)) (slice_get scope s) over) ]
    | inr last ↦ inr (let P : ℕ → Type 0 = λ n. IsOver (below (suc k)) (slice_get scope n) in
        subst P (sym last.0) (over-weaker (below k) (below (suc k)) (let-keeps (below k) k (slice_get scope k)) (slice_get scope k) last.1))
  ]

  single : (n m : ℕ) → is_inner (below n) m ≡ true → Among (m ∷ []) (below n)
  single n m h s e = elim (one_true (m == s) false e)
      [ inl here ↦ (let P : ℕ → Type 0 = λ x. is_inner (below n) x ≡ true in subst P (same_is m s here) h) | inr later ↦ absurd (cc) ]

  let_below : (n j k m : ℕ) (binding : Binding) → k ≡ j + suc n → slice_get scope n ≡ Some binding → is_let_over (m ∷ []) binding ≡ true → m < n → is_inner (below k) m ≡ true → is_inner (below k) n ≡ true
  let_below n j k m binding total e over l h =
      let at_suc : is_inner (below (suc n)) m ≡ true = early (suc n) j k m total (omega arith) h in
      let here : is_inner (below n) m ≡ true = early n 1 (suc n) m (omega arith) l at_suc in
      let P : Option Binding → Type 0 = λ found. is_inner (with_let (below n) n found) n ≡ true in
      stays (suc n) j k total n (subst P (sym e) (let-adds (below n) n binding (over-more (m ∷ []) (below n) (single n m here) binding over)))

  at_whole : (n m : ℕ) (binding : Binding) → slice_get scope n ≡ Some binding → is_let_over (m ∷ []) binding ≡ true → m < n → n < length scope → is_inner (with_lets scope loops) m ≡ true → is_inner (with_lets scope loops) n ≡ true
  at_whole n m binding e over l lt h = let_below n (length scope - suc n) (length scope) m binding (omega arith) e over l h

  pub lets-sound : AreInner scope loops (with_lets scope loops)
  lets-sound = record {
    given = λ n h. stays 0 (length scope) (length scope) (omega arith) n h;
    lets = λ n m binding e over l h. at_whole n m binding e over l (get-below scope n binding e) h;
    only = λ n h. only_below (length scope) n h;
  }
