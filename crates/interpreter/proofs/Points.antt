-- Points of two coordinates, of three and of four.
use Rattle.std.proofs.Common.{◌≡◌, ℕ, ◌<◌, ◌≤◌, List, [], ◌∷◌, length, drop, get_or, Option, Some, None, refl, sym, ap, ◌∙◌, arith, ℤ}
use Rattle.std.specs.Prelude.{IfSome}
use Rattle.interpreter.specs.declared.evaluation.lanes.Lanes.{Lanes}
use Rattle.interpreter.specs.Evaluation.Lanes.{lane_number, lanes_at}

-- a list of three elements

pub only_three : {A : Type 0} (xs : List A) (d : A) → 3 ≤ length xs → length xs < 4 → xs ≡ get_or xs 0 d ∷ get_or xs 1 d ∷ get_or xs 2 d ∷ []
only_three [] d from to = absurd (omega arith)
only_three (x ∷ []) d from to = absurd (omega arith)
only_three (x ∷ y ∷ []) d from to = absurd (omega arith)
only_three (x ∷ y ∷ z ∷ []) d from to = refl
only_three (x ∷ y ∷ z ∷ w ∷ ws) d from to = absurd (omega arith)

-- the numbers of two indices at a turn, of three, and of four
pub two_at : (n k : ℕ) (xs : List Lanes) (d : Lanes) (zs ys : List ℕ) (a b : ℤ) → 2 ≤ length xs → length xs < 3 → ys ≡ drop n zs →
    a ≡ lane_number (get_or xs 0 d) zs k → b ≡ lane_number (get_or xs 1 d) ys k → (a ∷ b ∷ []) ≡ lanes_at n xs zs k
two_at n k [] d zs ys a b from to y e f = absurd (omega arith)
two_at n k (p ∷ []) d zs ys a b from to y e f = absurd (omega arith)
two_at n k (p ∷ q ∷ []) d zs ys a b from to y e f = (λ i. e i ∷ f i ∷ []) ∙ (λ i. lane_number p zs k ∷ lane_number q (y i) k ∷ [])
two_at n k (p ∷ q ∷ r ∷ rs) d zs ys a b from to y e f = absurd (omega arith)

pub three_at : (n k : ℕ) (xs : List Lanes) (d : Lanes) (zs ys ws : List ℕ) (a b c : ℤ) → 3 ≤ length xs → length xs < 4 → ys ≡ drop n zs → ws ≡ drop n ys →
    a ≡ lane_number (get_or xs 0 d) zs k → b ≡ lane_number (get_or xs 1 d) ys k → c ≡ lane_number (get_or xs 2 d) ws k → (a ∷ b ∷ c ∷ []) ≡ lanes_at n xs zs k
three_at n k [] d zs ys ws a b c from to y w e f g = absurd (omega arith)
three_at n k (p ∷ []) d zs ys ws a b c from to y w e f g = absurd (omega arith)
three_at n k (p ∷ q ∷ []) d zs ys ws a b c from to y w e f g = absurd (omega arith)
three_at n k (p ∷ q ∷ r ∷ []) d zs ys ws a b c from to y w e f g =
    (λ i. e i ∷ f i ∷ g i ∷ []) ∙ (λ i. lane_number p zs k ∷ lane_number q (y i) k ∷ lane_number r ((w ∙ ap (drop n) y) i) k ∷ [])
three_at n k (p ∷ q ∷ r ∷ s ∷ ss) d zs ys ws a b c from to y w e f g = absurd (omega arith)

pub four_at : (n k : ℕ) (xs : List Lanes) (d : Lanes) (zs ys ws vs : List ℕ) (a b c h : ℤ) → 4 ≤ length xs → length xs < 5 → ys ≡ drop n zs → ws ≡ drop n ys → vs ≡ drop n ws →
    a ≡ lane_number (get_or xs 0 d) zs k → b ≡ lane_number (get_or xs 1 d) ys k → c ≡ lane_number (get_or xs 2 d) ws k → h ≡ lane_number (get_or xs 3 d) vs k → (a ∷ b ∷ c ∷ h ∷ []) ≡ lanes_at n xs zs k
four_at n k [] d zs ys ws vs a b c h from to y w v e f g l = absurd (omega arith)
four_at n k (p ∷ []) d zs ys ws vs a b c h from to y w v e f g l = absurd (omega arith)
four_at n k (p ∷ q ∷ []) d zs ys ws vs a b c h from to y w v e f g l = absurd (omega arith)
four_at n k (p ∷ q ∷ r ∷ []) d zs ys ws vs a b c h from to y w v e f g l = absurd (omega arith)
four_at n k (p ∷ q ∷ r ∷ s ∷ []) d zs ys ws vs a b c h from to y w v e f g l =
    let second = w ∙ ap (drop n) y in
    (λ i. e i ∷ f i ∷ g i ∷ l i ∷ [])
    ∙ (λ i. lane_number p zs k ∷ lane_number q (y i) k ∷ lane_number r (second i) k ∷ lane_number s ((v ∙ ap (drop n) second) i) k ∷ [])
four_at n k (p ∷ q ∷ r ∷ s ∷ o ∷ os) d zs ys ws vs a b c h from to y w v e f g l = absurd (omega arith)

-- what is the same as something else is there where that is
pub is_found : {A B : Type 0} (f : A → Option B) (o : Option B) (p q : A) → o ≡ f p → p ≡ q → IfSome o (λ v. f q ≡ Some v)
is_found f o p q is same = by o (is ∙ ap f same)
  where
    by : (x : Option _) → x ≡ f q → IfSome x (λ v. f q ≡ Some v)
    by None h = tt
    by (Some v) h = sym h
