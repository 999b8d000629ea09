-- How often the actions of a statement count is its tally.
use Rattle.std.proofs.Common.{◌≡◌, ℕ, suc, ◌+◌, Bool, true, false, List, [], ◌∷◌, ◌++◌, length, map, refl, sym, ap, ◌∙◌, arith, ℤ, count_by, flat_map, sum_by, cond}
use Rattle.std.specs.Prelude.{if◌then◌else◌, int_le}
use Rattle.std.proofs.lemmas.List.Sums.{sum_by-append, sum_by-cons}
use Rattle.tree.specs.Term.{Term}
use Rattle.plan.specs.Plan.{Statement, Seq, For, Let, First, Guard, Alloc, Fetch, Store, Publish, Statements, Empty, Then, Coordinate}
use Rattle.plan.specs.Rooms.{Room}
use Rattle.plan.specs.Symbols.{Symbols, bind, form_value, largest, points, turns}
use Rattle.plan.specs.Semantics.Actions.{Action, Allot, Take, Give, Setting, actions, after, block_actions, stored}
use Rattle.report.specs.Tally.{block_tally, tally, Counted}

-- the test is of buffers and groups alone
pub record Tests (S : Setting) (test : Action → Bool) (x : Counted) : Type 0 where
  pub allots : (b : ℕ) (rooms : List Room) → test (Allot b rooms) ≡ false
  pub takes : (b g : ℕ) (p : List ℤ) → test (Take b (S.group_function g) p) ≡ x.group g
  pub stores : (b k : ℕ) (at : List Coordinate) (e : Term) (s : Symbols) → test (stored S b k at e s) ≡ x.buffer b
  pub gives : (k : ℕ) (p : List ℤ) → test (Give k p) ≡ false

count-append : (test : Action → Bool) (xs ys : List Action) → count_by test (xs ++ ys) ≡ count_by test xs + count_by test ys
count-append test xs ys = sum_by-append (λ a. cond (test a) 1 0) xs ys

pub count-flat_map : {A : Type 0} (test : Action → Bool) (f : A → List Action) (xs : List A) → count_by test (flat_map f xs) ≡ sum_by (λ x. count_by test (f x)) xs
count-flat_map test f [] = refl
count-flat_map test f (x ∷ xs) =
    count-append test (f x) (flat_map f xs) ∙ ap (λ (n : ℕ). count_by test (f x) + n) (count-flat_map test f xs)
    ∙ sym (sum_by-cons (λ y. count_by test (f y)) x xs)

sum_alike : {A : Type 0} (f g : A → ℕ) (xs : List A) → ((x : A) → f x ≡ g x) → sum_by f xs ≡ sum_by g xs
sum_alike f g [] h = refl
sum_alike f g (x ∷ xs) h = sum_by-cons f x xs ∙ (λ j. h x j + sum_alike f g xs h j) ∙ sym (sum_by-cons g x xs)

-- actions of one kind count all or none
count-map : (test : Action → Bool) (b : Bool) (f : List ℤ → Action) (ps : List (List ℤ)) → ((p : List ℤ) → test (f p) ≡ b) → count_by test (map f ps) ≡ (if b then length ps else 0)
count-map test true f [] h = refl
count-map test false f [] h = refl
count-map test true f (p ∷ ps) h =
    let e : 1 + length ps ≡ suc (length ps) = omega arith in
    sum_by-cons (λ a. cond (test a) 1 0) (f p) (map f ps) ∙ (λ j. cond (h p j) 1 0 + count-map test true f ps h j) ∙ e
count-map test false f (p ∷ ps) h =
    sum_by-cons (λ a. cond (test a) 1 0) (f p) (map f ps) ∙ (λ j. cond (h p j) 1 0 + count-map test false f ps h j)

chosen : (t : Bool) (test : Action → Bool) (xs ys : List Action) (m n : ℕ) → count_by test xs ≡ m → count_by test ys ≡ n → count_by test (if t then xs else ys) ≡ (if t then m else n)
chosen true test xs ys m n h k = h
chosen false test xs ys m n h k = k

one : (test : Action → Bool) (b : Bool) (a : Action) → test a ≡ b → count_by test (a ∷ []) ≡ (if b then 1 else 0)
one test true a h = ap (λ (t : Bool). 0 + cond t 1 0) h
one test false a h = ap (λ (t : Bool). 0 + cond t 1 0) h

module _ (S : Setting) (test : Action → Bool) (x : Counted) (h : Tests S test x) where
  mutual
    pub counted : (a : Statement) (s : Symbols) → count_by test (actions S a s) ≡ tally x a s
    counted (Seq all) s = block_counted all s
    counted (For i span kind body) s =
        count-flat_map test (λ z. actions S body (bind s i z (int_le z (largest s span.lower)))) (turns s span)
        ∙ sum_alike (λ z. count_by test (actions S body (bind s i z (int_le z (largest s span.lower))))) (λ z. tally x body (bind s i z (int_le z (largest s span.lower)))) (turns s span)
        (λ z. counted body (bind s i z (int_le z (largest s span.lower))))
    counted (Let i pick forms) s = refl
    counted (First i a b) s = chosen (s.first i) test (actions S a s) (actions S b s) (tally x a s) (tally x b s) (counted a s) (counted b s)
    counted (Guard low high body) s = chosen (int_le (form_value low s) (form_value high s)) test (actions S body s) [] (tally x body s) 0 (counted body s) refl
    counted (Alloc b f places) s = one test false (Allot b _) (h.allots b _)
    counted (Fetch b g region) s = count-map test (x.group g) (Take b (S.group_function g)) (points s region) (h.takes b g)
    counted (Store b k at e) s = one test (x.buffer b) (stored S b k at e s) (h.stores b k at e s)
    counted (Publish c) s = count-map test false (Give c) (S.own s) (h.gives c)

    pub block_counted : (all : Statements) (s : Symbols) → count_by test (block_actions S all s) ≡ block_tally x all s
    block_counted Empty s = refl
    block_counted (Then a rest) s =
        count-append test (actions S a s) (block_actions S rest (after a s))
        ∙ (λ j. counted a s j + block_counted rest (after a s) j)
