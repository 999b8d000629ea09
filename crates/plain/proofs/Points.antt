-- Reduction variables bound to their values.
use Rattle.std.proofs.Common.{◌≡◌, ◌<◌, ◌≤◌, ℕ, ◌+◌, ◌/◌, ◌%◌, List, [], ◌∷◌, ◌++◌, map, length, drop, get_or, ℤ, pos, ◌+ℤ◌, refl, sym, ap, ◌∙◌, subst, arith, add-one, append_assoc, drop-cons, FitsSigned, w32, w64, to_z, of_z, negsuc}
use Rattle.numeric.specs.Wrap.{IsOf}
use Rattle.numeric.specs.declared.ty.Ty.TheVariants.{I32}
use Rattle.std.proofs.lemmas.Int.{ints, to_z-of_z, to_z_pos}
use Rattle.std.proofs.lemmas.List.{map-append}
use Rattle.meaning.specs.Algorithm.{Range}
use Rattle.meaning.specs.Reduction.{width, point}
use Rattle.meaning.specs.Conditions.{IsRange}

-- the first of what is left
pub left_at : {A : Type 0} (xs : List A) (i : ℕ) (x : A) → x ≡ get_or xs i x → i < length xs → drop i xs ≡ x ∷ drop (i + 1) xs
left_at xs i x is lt = drop-cons xs i x lt ∙ (λ j. sym is j ∷ drop (sym (add-one i) j) xs)

pub map_twice : {A B C : Type 0} (g : B → C) (f : A → B) (xs : List A) → map g (map f xs) ≡ map (λ x. g (f x)) xs
map_twice g f [] = refl
map_twice g f (x ∷ xs) = ap (λ l. g (f x) ∷ l) (map_twice g f xs)

-- one more of the names
pub names_more : {A B C : Type 0} (f : A → B) (g : C → B) (all : List B) (bs cs : List A) (b : A) (xs : List C) (i : ℕ) (x : C) → x ≡ get_or xs i x → i < length xs → cs ≡ bs ++ b ∷ [] → f b ≡ g x →
    map f bs ++ map g (drop i xs) ≡ all → map f cs ++ map g (drop (i + 1) xs) ≡ all
names_more {A} {B} {C} f g all bs cs b xs i x is lt e same h =
    ap (λ (l : List A). map f l ++ map g (drop (i + 1) xs)) e
    ∙ ap (λ (l : List B). l ++ map g (drop (i + 1) xs)) (map-append f bs (b ∷ []))
    ∙ append_assoc (map f bs) (f b ∷ []) (map g (drop (i + 1) xs))
    ∙ ap (λ (z : B). map f bs ++ z ∷ map g (drop (i + 1) xs)) same
    ∙ ap (λ (l : List C). map f bs ++ map g l) (sym (left_at xs i x is lt))
    ∙ h

-- one more of the coordinates
pub point_more : {A C : Type 0} (r : C → Range) (f : A → ℤ) (all : List ℤ) (bs cs : List A) (b : A) (xs : List C) (i : ℕ) (x : C) (n w : ℕ) → x ≡ get_or xs i x → i < length xs → cs ≡ bs ++ b ∷ [] → w ≡ width (r x) →
    f b ≡ (r x).low +ℤ pos (n % width (r x)) → map f bs ++ point (map r (drop i xs)) n ≡ all → map f cs ++ point (map r (drop (i + 1) xs)) (n / w) ≡ all
point_more {A} {C} r f all bs cs b xs i x n w is lt e wide same h =
    ap (λ (l : List A). map f l ++ point (map r (drop (i + 1) xs)) (n / w)) e
    ∙ ap (λ (l : List ℤ). l ++ point (map r (drop (i + 1) xs)) (n / w)) (map-append f bs (b ∷ []))
    ∙ append_assoc (map f bs) (f b ∷ []) (point (map r (drop (i + 1) xs)) (n / w))
    ∙ ap (λ (m : ℕ). map f bs ++ f b ∷ point (map r (drop (i + 1) xs)) (n / m)) wide
    ∙ ap (λ (z : ℤ). map f bs ++ z ∷ point (map r (drop (i + 1) xs)) (n / width (r x))) same
    ∙ ap (λ (l : List C). map f bs ++ point (map r l) n) (sym (left_at xs i x is lt))
    ∙ h

-- a width within the limits
pub width_few : (d : Range) → IsRange d → width d ≤ 20000
width_few d h = omega (arith, ints, h.from, h.rises, h.to)

pub width_some : (d : Range) → 1 ≤ width d
width_some d = omega arith

-- a remainder by a width is small
remainder_few : (d : Range) → IsRange d → (n w : ℕ) → w ≡ width d → n % w ≤ 20000
remainder_few d h n w e =
    let few = width_few d h in
    let some = width_some d in
    let positive : 0 < w = omega (arith, e, some) in
    omega (arith, e, few, positive)

pub small_fits : (d : Range) → IsRange d → (n w : ℕ) → w ≡ width d → FitsSigned w64 (pos (n % w))
small_fits d h n w e = let few = remainder_few d h n w e in omega (arith, ints, few)

pub sum_fits : (d : Range) → IsRange d → (n w : ℕ) → w ≡ width d → FitsSigned w64 (d.low +ℤ pos (n % w))
sum_fits d h n w e = let few = remainder_few d h n w e in omega (arith, ints, few, h.from, h.rises, h.to)

low_fits : (d : Range) → IsRange d → FitsSigned w64 d.low
low_fits d h = omega (arith, ints, h.from, h.rises, h.to)

pub low_fits_32 : (d : Range) → IsRange d → FitsSigned w32 d.low
low_fits_32 d h = omega (arith, ints, h.from, h.rises, h.to)

-- the coordinate as the code computes it
pub coordinate_sum : (d : Range) → IsRange d → (n w : ℕ) → w ≡ width d → (low : ℤ) → low ≡ d.low → (to_z w64 (of_z w64 low) +ℤ to_z w64 (n % w)) ≡ d.low +ℤ pos (n % w)
coordinate_sum d h n w e low same =
    let few = remainder_few d h n w e in
    let a : to_z w64 (of_z w64 low) ≡ d.low = ap (λ z. to_z w64 (of_z w64 z)) same ∙ to_z-of_z w64 d.low (low_fits d h) in
    let b : to_z w64 (n % w) ≡ pos (n % w) = to_z_pos w64 (n % w) (omega (arith, few)) in
    (λ i. a i +ℤ b i)

pub coordinate_fits : (d : Range) → IsRange d → (n w : ℕ) → w ≡ width d → (low : ℤ) → low ≡ d.low → FitsSigned w64 (to_z w64 (of_z w64 low) +ℤ to_z w64 (n % w))
coordinate_fits d h n w e low same = subst (FitsSigned w64) (sym (coordinate_sum d h n w e low same)) (sum_fits d h n w e)

pub coordinate_is : (d : Range) → IsRange d → (n w : ℕ) → w ≡ width d → (low : ℤ) → low ≡ d.low → to_z w64 (of_z w64 (to_z w64 (of_z w64 low) +ℤ to_z w64 (n % w))) ≡ d.low +ℤ pos (n % width d)
coordinate_is d h n w e low same =
    to_z-of_z w64 _ (coordinate_fits d h n w e low same) ∙ coordinate_sum d h n w e low same ∙ ap (λ m. d.low +ℤ pos (n % m)) e

-- a number of 32 bits is an index
pub index_fits : (z : ℤ) → FitsSigned w32 z → IsOf I32 z
index_fits (pos n) h = record { from = omega (arith, ints, h.sfits); to = omega (arith, ints, h.sfits) }
index_fits (negsuc n) h = record { from = omega (arith, ints, h.sfits); to = omega (arith, ints, h.sfits) }
