-- Terms that are within the limits, and terms that are not.
use Rattle.std.proofs.Common.{◌≡◌, ℕ, suc, ◌≤◌, Bool, true, false, cond, leb, ◌&&◌, List, [], ◌∷◌, length, Result, Ok, Err, refl, ap, ◌⊎◌, inl, inr, arith}
use Rattle.std.proofs.lemmas.Bool.{leb-true, le-leb}
use Rattle.tree.specs.declared.token.token.Token.{Token}
use Rattle.tree.specs.Term.{Term, Number, Name, Call, Minus, Binary, Clamp, Cast, Choice, Test, Compares, Fails, Both, Either, indices}
use Rattle.tree.specs.Tree.{node_count, node_counts, cond_count, depth, depths, test_depth}
use Rattle.expr.specs.declared.error.Refusal.{Refusal}
use Rattle.expr.specs.declared.error.Refusal.TheVariants.{TooLarge}
use Rattle.expr.specs.Parsing.{◌>>=◌, fitted, made, cond_fitted, cond_made}
use Rattle.expr.specs.Grammar.{Fits, CondFits}

-- ---- every term has a node and a level

pub some : (t : Term) → 1 ≤ node_count t
some (Number t n) = omega arith
some (Name x) = omega arith
some (Call f xs) = omega arith
some (Minus a) = omega arith
some (Binary o a b) = omega arith
some (Clamp a l h) = omega arith
some (Cast t a) = omega arith
some (Choice c a b) = omega arith

pub deep : (t : Term) → 1 ≤ depth t
deep (Number t n) = omega arith
deep (Name x) = omega arith
deep (Call f xs) = omega arith
deep (Minus a) = omega arith
deep (Binary o a b) = omega arith
deep (Clamp a l h) = omega arith
deep (Cast t a) = omega arith
deep (Choice c a b) = omega arith

pub cond_deep : (c : Test) → 1 ≤ test_depth c
cond_deep (Compares o a b) = omega arith
cond_deep (Fails c) = omega arith
cond_deep (Both c d) = omega arith
cond_deep (Either c d) = omega arith

-- ---- what is made of a value that is within two limits, or not

pub small : (m n most levels : ℕ) → Bool
small m n most levels = leb m most && leb n levels

small_yes : (m n most levels : ℕ) → m ≤ most → n ≤ levels → small m n most levels ≡ true
unfolding small
small_yes m n most levels few shallow = rw (le-leb m most few, le-leb n levels shallow) refl

small_at : (m n most levels : ℕ) (a b : Bool) → leb m most ≡ a → leb n levels ≡ b → (a && b) ≡ true → (m ≤ most) × (n ≤ levels)
small_at m n most levels true true p q h = (leb-true m most p, leb-true n levels q)
small_at m n most levels true false p q h = absurd cc
small_at m n most levels false b p q h = absurd cc

small_is : (m n most levels : ℕ) → small m n most levels ≡ true → (m ≤ most) × (n ≤ levels)
unfolding small
small_is m n most levels h = small_at m n most levels (leb m most) (leb n levels) refl refl h

or_false : (b : Bool) → (b ≡ true) ⊎ (b ≡ false)
or_false true = inl refl
or_false false = inr refl

-- the value with the tokens after it, unless it is too large
pub sized : {A : Type 0} → Bool → A → List Token → Result (A × List Token) Refusal
sized b x ts = cond b (Ok (x, ts)) (Err TooLarge)

sized_by : {A : Type 0} (b : Bool) (x : A) (ts : List Token) → (cond b (Ok x) (Err TooLarge) >>= λ y. Ok (y, ts)) ≡ sized b x ts
unfolding sized
sized_by true x ts = refl
sized_by false x ts = refl

pub sized_take : {A B : Type 0} (b : Bool) (x : A) (ts : List Token) (f : A × List Token → Result B Refusal) (r : Result B Refusal) → (b ≡ true → f (x, ts) ≡ r) → (b ≡ false → Err TooLarge ≡ r) → (sized b x ts >>= f) ≡ r
unfolding sized
sized_take true x ts f r fit unfit = fit refl
sized_take false x ts f r fit unfit = unfit refl

abbrev pub answered : {A : Type 0} → (A × List Token) → Result (A × List Token) Refusal
answered p = Ok p

answered_is : {A : Type 0} (p q : A × List Token) → answered p ≡ answered q → p ≡ q
answered_is p q h = cc

pub answer_is : {A : Type 0} (x y : A) (ts us : List Token) → answered (x, ts) ≡ answered (y, us) → (x ≡ y) × (ts ≡ us)
answer_is x y ts us h = let p = answered_is (x, ts) (y, us) h in (ap (λ q. q.0) p, ap (λ q. q.1) p)

sized_ok : {A : Type 0} (b : Bool) (x y : A) (ts us : List Token) → sized b x ts ≡ Ok (y, us) → (b ≡ true) × (x ≡ y) × (ts ≡ us)
unfolding sized
sized_ok true x y ts us h = let p = answer_is x y ts us h in (refl, p.0, p.1)
sized_ok false x y ts us h = absurd cc

module _ (most levels : ℕ) where
  -- a term of so many levels at most
  pub part_made : Term → List Token → Result (Term × List Token) Refusal
  part_made t ts = sized (small (node_count t) (depth t) most levels) t ts

  pub cond_part_made : Test → List Token → Result (Test × List Token) Refusal
  cond_part_made c ts = sized (small (cond_count c) (test_depth c) most levels) c ts

  fits_if : (t : Term) → small (node_count t) (depth t) most levels ≡ true → Fits most levels t
  fits_if t h = let p = small_is (node_count t) (depth t) most levels h in record { few = p.0; shallow = p.1 }

  fits_not : (t : Term) → small (node_count t) (depth t) most levels ≡ false → Fits most levels t → ⊥
  fits_not t h f = let k = small_yes (node_count t) (depth t) most levels f.few f.shallow in absurd cc

  cond_fits_if : (c : Test) → small (cond_count c) (test_depth c) most levels ≡ true → CondFits most levels c
  cond_fits_if c h = let p = small_is (cond_count c) (test_depth c) most levels h in record { few = p.0; shallow = p.1 }

  cond_fits_not : (c : Test) → small (cond_count c) (test_depth c) most levels ≡ false → CondFits most levels c → ⊥
  cond_fits_not c h f = let k = small_yes (cond_count c) (test_depth c) most levels f.few f.shallow in absurd cc

  -- going on after a part
  pub take : {B : Type 0} (t : Term) (ts : List Token) (f : Term × List Token → Result B Refusal) (r : Result B Refusal) → (Fits most levels t → f (t, ts) ≡ r) → ((Fits most levels t → ⊥) → Err TooLarge ≡ r) → (part_made t ts >>= f) ≡ r
  unfolding part_made
  take t ts f r fit unfit = sized_take (small (node_count t) (depth t) most levels) t ts f r (λ h. fit (fits_if t h)) (λ h. unfit (fits_not t h))

  pub cond_take : {B : Type 0} (c : Test) (ts : List Token) (f : Test × List Token → Result B Refusal) (r : Result B Refusal) → (CondFits most levels c → f (c, ts) ≡ r) → ((CondFits most levels c → ⊥) → Err TooLarge ≡ r) → (cond_part_made c ts >>= f) ≡ r
  unfolding cond_part_made
  cond_take c ts f r fit unfit = sized_take (small (cond_count c) (test_depth c) most levels) c ts f r (λ h. fit (cond_fits_if c h)) (λ h. unfit (cond_fits_not c h))

  pub fitting : (t : Term) (ts : List Token) → Fits most levels t → part_made t ts ≡ Ok (t, ts)
  unfolding part_made sized
  fitting t ts f = ap (λ b. cond b (Ok (t, ts)) (Err TooLarge)) (small_yes (node_count t) (depth t) most levels f.few f.shallow)

  refused_at : {A : Type 0} (b : Bool) (x : A) (ts : List Token) → (b ≡ true → ⊥) → Err TooLarge ≡ sized b x ts
  unfolding sized
  refused_at true x ts h = absurd (h refl)
  refused_at false x ts h = refl

  pub too_large : (t : Term) (ts : List Token) → (Fits most levels t → ⊥) → Err TooLarge ≡ part_made t ts
  unfolding part_made
  too_large t ts unfit = refused_at (small (node_count t) (depth t) most levels) t ts (λ h. unfit (fits_if t h))

  pub cond_too_large : (c : Test) (ts : List Token) → (CondFits most levels c → ⊥) → Err TooLarge ≡ cond_part_made c ts
  unfolding cond_part_made
  cond_too_large c ts unfit = refused_at (small (cond_count c) (test_depth c) most levels) c ts (λ h. unfit (cond_fits_if c h))

  -- what was made fits
  pub part_made_ok : (t u : Term) (ts us : List Token) → part_made t ts ≡ Ok (u, us) → (t ≡ u) × (ts ≡ us) × Fits most levels t
  unfolding part_made
  part_made_ok t u ts us h = let p = sized_ok (small (node_count t) (depth t) most levels) t u ts us h in (p.1, p.2, fits_if t p.0)

  pub cond_part_made_ok : (c d : Test) (ts us : List Token) → cond_part_made c ts ≡ Ok (d, us) → (c ≡ d) × (ts ≡ us) × CondFits most levels c
  unfolding cond_part_made
  cond_part_made_ok c d ts us h = let p = sized_ok (small (cond_count c) (test_depth c) most levels) c d ts us h in (p.1, p.2, cond_fits_if c p.0)

pub made_is : (most below : ℕ) (t : Term) (ts : List Token) → made most below t ts ≡ part_made most (suc below) t ts
unfolding made fitted part_made small
made_is most below t ts = sized_by (leb (node_count t) most && leb (depth t) (suc below)) t ts

pub cond_made_is : (most below : ℕ) (c : Test) (ts : List Token) → cond_made most below c ts ≡ cond_part_made most (suc below) c ts
unfolding cond_made cond_fitted cond_part_made small
cond_made_is most below c ts = sized_by (leb (cond_count c) most && leb (test_depth c) (suc below)) c ts

-- ---- the indices of a call

abbrev pub AllFit : ℕ → ℕ → List Term → Type 0
AllFit most levels [] = Unit {0}
AllFit most levels (x ∷ xs) = Fits most levels x × AllFit most levels xs

pub record ListFits (most levels k : ℕ) (xs : List Term) : Type 0 where
  pub few : length xs ≤ k
  pub all : AllFit most levels xs

list_few : (xs : List Term) → length xs ≤ node_counts (indices xs)
list_few [] = omega arith
list_few (x ∷ xs) = omega (arith, list_few xs, some x)

list_all : (most levels : ℕ) (xs : List Term) → node_counts (indices xs) ≤ most → depths (indices xs) ≤ levels → AllFit most levels xs
list_all most levels [] few shallow = tt
list_all most levels (x ∷ xs) few shallow = (record { few = omega (arith, few); shallow = omega (arith, shallow) }, list_all most levels xs (omega (arith, few)) (omega (arith, shallow)))

-- the indices of a call that fits
pub call_fits : (most levels : ℕ) (f : List ℕ) (xs : List Term) → Fits most (suc levels) (Call f (indices xs)) → ListFits most levels most xs
call_fits most levels f xs h = record { few = omega (arith, h.few, list_few xs); all = list_all most levels xs (omega (arith, h.few)) (omega (arith, h.shallow)) }
