-- Buffers are numbered in the order of the lines that allocate them, so that each number tells the function of its one line.
use Rattle.std.proofs.Common.{◌≡◌, ℕ, ◌+◌, ◌<◌, ◌≤◌, Bool, true, false, List, [], ◌∷◌, ◌++◌, Option, Some, None, refl, sym, ap, ◌∙◌, subst, inl, inr, ◌⊎◌, arith}
use Rattle.std.specs.Prelude.{◌==◌, ◌||◌, if◌then◌else◌}
use Rattle.std.proofs.lemmas.Bool.Decides.{nat_tests}
use Rattle.soundness.proofs.Refines.{eq_refl, name_true}
use Rattle.validation.specs.Stored.Definitions.{allots, block_allots}
use Rattle.plan.specs.Plan.{Statement, Seq, For, Let, First, Guard, Alloc, Fetch, Store, Publish, Statements, Empty, Then, block}
use Rattle.plan.specs.Semantics.Setting.{Buffer, or_else, allocated, block_allocated, function_in}

-- the lines allocate the buffers from the one number to before the other, each once, in their order, and of functions of which this is so
module _ (P : List ℕ → Type 0) where
  abbrev mutual
    pub Allots : ℕ → Statement → ℕ → Type 0
    Allots n (Seq all) m = AllotAll n all m
    Allots n (For i x kind body) m = Allots n body m
    Allots n (Let i pick forms) m = n ≡ m
    Allots n (First i a b) m = (k : ℕ) × Allots n a k × Allots k b m
    Allots n (Guard low high body) m = Allots n body m
    Allots n (Alloc b f places) m = (b ≡ n) × (m ≡ n + 1) × P f
    Allots n (Fetch b g region) m = n ≡ m
    Allots n (Store b k at e) m = n ≡ m
    Allots n (Publish c) m = n ≡ m

    pub AllotAll : ℕ → Statements → ℕ → Type 0
    AllotAll n Empty m = n ≡ m
    AllotAll n (Then a rest) m = (k : ℕ) × Allots n a k × AllotAll k rest m

  mutual
    allots_rise : (n : ℕ) (s : Statement) (m : ℕ) → Allots n s m → n ≤ m
    allots_rise n (Seq all) m h = all_rise n all m h
    allots_rise n (For i x kind body) m h = allots_rise n body m h
    allots_rise n (Let i pick forms) m h = omega (arith, h)
    allots_rise n (First i a b) m h = let one = allots_rise n a h.0 h.1 in let two = allots_rise h.0 b m h.2 in omega (arith, one, two)
    allots_rise n (Guard low high body) m h = allots_rise n body m h
    allots_rise n (Alloc b f places) m h = let e = h.1 in omega (arith, e)
    allots_rise n (Fetch b g region) m h = omega (arith, h)
    allots_rise n (Store b k at e) m h = omega (arith, h)
    allots_rise n (Publish c) m h = omega (arith, h)

    all_rise : (n : ℕ) (s : Statements) (m : ℕ) → AllotAll n s m → n ≤ m
    all_rise n Empty m h = omega (arith, h)
    all_rise n (Then a rest) m h = let one = allots_rise n a h.0 h.1 in let two = all_rise h.0 rest m h.2 in omega (arith, one, two)

  -- no other number is allocated
  abbrev Other : ℕ → ℕ → ℕ → Type 0
  Other n m b = (b < n) ⊎ (m ≤ b)

  sooner : (n k m b : ℕ) → k ≤ m → Other n m b → Other n k b
  sooner n k m b le (inl h) = inl h
  sooner n k m b le (inr h) = inr (omega (arith, le, h))

  later : (n k m b : ℕ) → n ≤ k → Other n m b → Other k m b
  later n k m b le (inl h) = inl (omega (arith, le, h))
  later n k m b le (inr h) = inr h

  neither : (x y : Option Buffer) → x ≡ None → y ≡ None → or_else x y ≡ None
  neither None y e f = f
  neither (Some z) y e f = absurd (cc e)

  mutual
    none_allots : (n : ℕ) (s : Statement) (m b : ℕ) → Allots n s m → Other n m b → allocated s b ≡ None
    none_allots n (Seq all) m b h o = none_allot n all m b h o
    none_allots n (For i x kind body) m b h o = none_allots n body m b h o
    none_allots n (Let i pick forms) m b h o = refl
    none_allots n (First i a c) m b h o =
        let one = allots_rise n a h.0 h.1 in
        let two = allots_rise h.0 c m h.2 in
        neither (allocated a b) (allocated c b) (none_allots n a h.0 b h.1 (sooner n h.0 m b two o)) (none_allots h.0 c m b h.2 (later n h.0 m b one o))
    none_allots n (Guard low high body) m b h o = none_allots n body m b h o
    none_allots n (Alloc c f places) m b h o =
        let is = h.0 in
        let next = h.1 in
        let differs : (c ≡ b → ⊥) = λ e. elim o [ inl less ↦ omega (arith, less, is, e) | inr more ↦ omega (arith, more, is, next, e) ] in
        let test : (c == b) ≡ false = grind (arith, nat_tests) in
        ap (λ (t : Bool). if t then Some (record { function = f; places = places }) else None) test
    none_allots n (Fetch c g region) m b h o = refl
    none_allots n (Store c k at e) m b h o = refl
    none_allots n (Publish c) m b h o = refl

    none_allot : (n : ℕ) (s : Statements) (m b : ℕ) → AllotAll n s m → Other n m b → block_allocated s b ≡ None
    none_allot n Empty m b h o = refl
    none_allot n (Then a rest) m b h o =
        let one = allots_rise n a h.0 h.1 in
        let two = all_rise h.0 rest m h.2 in
        neither (allocated a b) (block_allocated rest b) (none_allots n a h.0 b h.1 (sooner n h.0 m b two o)) (none_allot h.0 rest m b h.2 (later n h.0 m b one o))

  -- behind others
  pub allots_joined : (xs ys : List Statement) (n k m : ℕ) → AllotAll n (block xs) k → AllotAll k (block ys) m → AllotAll n (block (xs ++ ys)) m
  allots_joined [] ys n k m h g = subst (λ (j : ℕ). AllotAll j (block ys) m) (sym h) g
  allots_joined (x ∷ xs) ys n k m h g = (h.0, h.1, allots_joined xs ys h.0 k m h.2 g)

-- by these functions of buffers each line that allocates one has that of its buffer
module _ (T : ℕ → List ℕ) where
  abbrev mutual
    pub Agrees : Statement → Type 0
    Agrees (Seq all) = AgreeAll all
    Agrees (For i x kind body) = Agrees body
    Agrees (Let i pick forms) = Unit {0}
    Agrees (First i a b) = Agrees a × Agrees b
    Agrees (Guard low high body) = Agrees body
    Agrees (Alloc b f places) = T b ≡ f
    Agrees (Fetch b g region) = Unit {0}
    Agrees (Store b k at e) = Unit {0}
    Agrees (Publish c) = Unit {0}

    pub AgreeAll : Statements → Type 0
    AgreeAll Empty = Unit {0}
    AgreeAll (Then a rest) = Agrees a × AgreeAll rest

  pub agree_first : (xs ys : List Statement) → AgreeAll (block (xs ++ ys)) → AgreeAll (block xs)
  agree_first [] ys h = tt
  agree_first (x ∷ xs) ys h = (h.0, agree_first xs ys h.1)

  pub agree_second : (xs ys : List Statement) → AgreeAll (block (xs ++ ys)) → AgreeAll (block ys)
  agree_second [] ys h = h
  agree_second (x ∷ xs) ys h = agree_second xs ys h.1

module _ (P : List ℕ → Type 0) (T : ℕ → List ℕ) where
  -- between these numbers the statement tells them
  abbrev Tells : ℕ → ℕ → (ℕ → Option Buffer) → Type 0
  Tells n m f = (b : ℕ) → n ≤ b → b < m → T b ≡ function_in (f b)

  none_first : (x y : Option Buffer) → x ≡ None → or_else x y ≡ y
  none_first None y e = refl
  none_first (Some z) y e = absurd (cc e)

  none_second : (x y : Option Buffer) → y ≡ None → or_else x y ≡ x
  none_second None y e = e
  none_second (Some z) y e = refl

  first_tells : (n k m : ℕ) (f g : ℕ → Option Buffer) → k ≤ m → ((b : ℕ) → b < k → g b ≡ None) → Tells n m (λ b. or_else (f b) (g b)) → Tells n k f
  first_tells n k m f g le none h b low high = h b low (omega (arith, le, high)) ∙ ap function_in (none_second (f b) (g b) (none b high))

  second_tells : (n k m : ℕ) (f g : ℕ → Option Buffer) → n ≤ k → ((b : ℕ) → k ≤ b → f b ≡ None) → Tells n m (λ b. or_else (f b) (g b)) → Tells k m g
  second_tells n k m f g le none h b low high = h b (omega (arith, le, low)) high ∙ ap function_in (none_first (f b) (g b) (none b low))

  mutual
    pub agrees_told : (n : ℕ) (s : Statement) (m : ℕ) → Allots P n s m → Tells n m (allocated s) → Agrees T s
    agrees_told n (Seq all) m h t = all_told n all m h t
    agrees_told n (For i x kind body) m h t = agrees_told n body m h t
    agrees_told n (Let i pick forms) m h t = tt
    agrees_told n (First i a b) m h t =
        let one = allots_rise P n a h.0 h.1 in
        let two = allots_rise P h.0 b m h.2 in (
          agrees_told n a h.0 h.1 (first_tells n h.0 m (allocated a) (allocated b) two (λ c less. none_allots P h.0 b m c h.2 (inl less)) t),
          agrees_told h.0 b m h.2 (second_tells n h.0 m (allocated a) (allocated b) one (λ c less. none_allots P n a h.0 c h.1 (inr less)) t),
        )
    agrees_told n (Guard low high body) m h t = agrees_told n body m h t
    agrees_told n (Alloc b f places) m h t =
        let is = h.0 in
        let next = h.1 in
        t b (omega (arith, is)) (omega (arith, is, next)) ∙ ap (λ (v : Bool). function_in (if v then Some (record { function = f; places = places }) else None)) (eq_refl b)
    agrees_told n (Fetch b g region) m h t = tt
    agrees_told n (Store b k at e) m h t = tt
    agrees_told n (Publish c) m h t = tt

    all_told : (n : ℕ) (s : Statements) (m : ℕ) → AllotAll P n s m → Tells n m (block_allocated s) → AgreeAll T s
    all_told n Empty m h t = tt
    all_told n (Then a rest) m h t =
        let one = allots_rise P n a h.0 h.1 in
        let two = all_rise P h.0 rest m h.2 in (
          agrees_told n a h.0 h.1 (first_tells n h.0 m (allocated a) (block_allocated rest) two (λ c less. none_allot P h.0 rest m c h.2 (inl less)) t),
          all_told h.0 rest m h.2 (second_tells n h.0 m (allocated a) (block_allocated rest) one (λ c less. none_allots P n a h.0 c h.1 (inr less)) t),
        )

-- the body's own table of buffers
pub body_agrees : (P : List ℕ → Type 0) (n : ℕ) (s : Statement) (m : ℕ) → Allots P n s m → Agrees (λ b. function_in (allocated s b)) s
body_agrees P n s m h = agrees_told P (λ b. function_in (allocated s b)) n s m h (λ b low high. refl)

-- a line that allocates a buffer of a function of this name is one of those
module _ (P : List ℕ → Type 0) (x : List ℕ) where
  either_of : (b c : Bool) → (b || c) ≡ true → (b ≡ true → P x) → (c ≡ true → P x) → P x
  either_of true c e f g = f refl
  either_of false c e f g = g e

  mutual
    pub allots_of : (n : ℕ) (s : Statement) (m : ℕ) → Allots P n s m → allots x s ≡ true → P x
    allots_of n (Seq all) m h e = all_of n all m h e
    allots_of n (For i y kind body) m h e = allots_of n body m h e
    allots_of n (Let i pick forms) m h e = absurd (cc e)
    allots_of n (First i a b) m h e = either_of (allots x a) (allots x b) e (λ q. allots_of n a h.0 h.1 q) (λ q. allots_of h.0 b m h.2 q)
    allots_of n (Guard low high body) m h e = allots_of n body m h e
    allots_of n (Alloc b f places) m h e = subst P (name_true f x e) h.2
    allots_of n (Fetch b g region) m h e = absurd (cc e)
    allots_of n (Store b k at d) m h e = absurd (cc e)
    allots_of n (Publish c) m h e = absurd (cc e)

    all_of : (n : ℕ) (s : Statements) (m : ℕ) → AllotAll P n s m → block_allots x s ≡ true → P x
    all_of n Empty m h e = absurd (cc e)
    all_of n (Then a rest) m h e = either_of (allots x a) (block_allots x rest) e (λ q. allots_of n a h.0 h.1 q) (λ q. all_of h.0 rest m h.2 q)
