-- Lines of groups.
use Rattle.std.proofs.Common.{◌≡◌, ℕ, zero, suc, ◌+◌, ◌-◌, ◌<◌, ◌≤◌, List, [], ◌∷◌, take, Bool, true, false, Option, Some, None, refl, ap, ◌∙◌, arith}
use Rattle.std.specs.Prelude.{slice_get, nat_lt, if◌then◌else◌}
use Rattle.std.proofs.lemmas.Bool.Decides.{nat_tests}
use Rattle.plan.specs.Plan.{Group, Plan}
use Rattle.plan.specs.Lines.{group_line, group_lines, groups_lines}
use Rattle.validation.specs.Certificate.Placing.{Place, place_in, place_at, place_with, group_spot_at}

none_is : (x : Group) (e : None ≡ Some x) → ⊥
none_is x e = cc

the_same : (x y : Group) → Some x ≡ Some y → x ≡ y
the_same x y e = ap or_x e
  where
    or_x : Option Group → Group
    or_x None = x
    or_x (Some z) = z

test_true : {A : Type 0} (t : Bool) (a b : A) → t ≡ true → (if t then a else b) ≡ a
test_true true a b e = refl
test_true false a b e = absurd (cc)

test_false : {A : Type 0} (t : Bool) (a b : A) → t ≡ false → (if t then a else b) ≡ b
test_false true a b e = absurd (cc)
test_false false a b e = refl

lt_true : (m n : ℕ) → m < n → nat_lt m n ≡ true
lt_true m n h = grind (arith, nat_tests)

lt_false : (m n : ℕ) → n ≤ m → nat_lt m n ≡ false
lt_false m n h = grind (arith, nat_tests)

abbrev the_place : Group → ℕ → Option Place
the_place g k = place_with g (group_spot_at g k)

here : (g : Group) (gs : List Group) (k : ℕ) → k < group_lines g → place_in (g ∷ gs) k ≡ the_place g k
here g gs k lt = test_true (nat_lt k (group_lines g)) (the_place g k) (place_in gs (k - group_lines g)) (lt_true k (group_lines g) lt)

there : (g : Group) (gs : List Group) (j k : ℕ) → j ≡ group_lines g + k → place_in (g ∷ gs) j ≡ place_in gs k
there g gs j k e =
    let later : group_lines g ≤ j = omega (arith, e) in
    let rest : j - group_lines g ≡ k = omega (arith, e) in
    test_false (nat_lt j (group_lines g)) (the_place g j) (place_in gs (j - group_lines g)) (lt_false j (group_lines g) later) ∙ ap (place_in gs) rest

in_group : (gs : List Group) (n j k : ℕ) (g : Group) → slice_get gs n ≡ Some g → k < group_lines g → j ≡ groups_lines (take n gs) + k → place_in gs j ≡ the_place g k
in_group [] n j k g is lt e = absurd (none_is g is)
in_group (x ∷ xs) zero j k g is lt e =
    let same : x ≡ g = the_same x g is in
    let at : j ≡ k = omega (arith, e) in
    ap (λ (y : Group). place_in (y ∷ xs) j) same ∙ ap (place_in (g ∷ xs)) at ∙ here g xs k lt
in_group (x ∷ xs) (suc n) j k g is lt e =
    there x xs j (groups_lines (take n xs) + k) (omega (arith, e)) ∙ in_group xs n (groups_lines (take n xs) + k) k g is lt refl

pub placed : (p : Plan) (n k : ℕ) (g : Group) → slice_get p.groups n ≡ Some g → k < group_lines g → place_at p.groups (group_line p n + k) ≡ the_place g k
placed p n k g is lt =
    let line = group_line p n + k in
    let behind : line - 4 ≡ groups_lines (take n p.groups) + k = omega arith in
    test_false (nat_lt line 4) None (place_in p.groups (line - 4)) (lt_false line 4 (omega arith)) ∙ in_group p.groups n (line - 4) k g is lt behind
