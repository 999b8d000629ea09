-- Ends of spans of constants, form by form.
use Rattle.std.proofs.Common.{◌≡◌, ℕ, zero, suc, ◌+◌, ◌-◌, ◌<◌, ◌≤◌, List, [], ◌∷◌, map, length, take, drop, get_or, drop-cons, add-one, sym, ap, ◌∙◌, arith, refl}
use Rattle.std.specs.Prelude.{ℤ, pos, ◌+ℤ◌, fold}
use Rattle.std.specs.Int.{int_max, int_min}
use Rattle.std.proofs.lemmas.Int.{ints}
use Rattle.std.proofs.Math.IntN.{*ℤ-zero}
use Rattle.lin.specs.Forms.{Form, sum_of}
use Rattle.lin.specs.declared.form.Multiple.{Multiple}
use Rattle.plan.specs.Symbols.{form_value, largest, smallest}
use Rattle.plan.specs.Certificate.Cells.{grid_value, no_symbols}

sum_zero : (ts : List Multiple) → sum_of ts (grid_value []) ≡ pos 0
sum_zero [] = refl
sum_zero (t ∷ ts) = ap (λ (z : ℤ). z +ℤ sum_of ts (grid_value [])) (*ℤ-zero t.factor) ∙ ap (λ (z : ℤ). pos 0 +ℤ z) (sum_zero ts)

plus_none : (z : ℤ) → z +ℤ pos 0 ≡ z
plus_none z = omega (arith, ints)

-- a form is its constant, where no symbol has a value but 0
pub form_constant : (f : Form) → form_value f no_symbols ≡ f.constant
form_constant f = ap (λ (z : ℤ). f.constant +ℤ z) (sum_zero f.terms) ∙ plus_none f.constant

-- the numbers of forms
abbrev pub constants : List Form → List ℤ
constants fs = map (λ m. form_value m no_symbols) fs

-- one form more is taken in
pub folded_more : (op : ℤ → ℤ → ℤ) (fs : List Form) (i : ℕ) (f : Form) (v w : ℤ) → i < length fs → f ≡ get_or fs i f → w ≡ op v f.constant
    → fold op w (constants (drop (i + 1) fs)) ≡ fold op v (constants (drop i fs))
folded_more op fs i f v w h is e =
    let cut : drop i fs ≡ f ∷ drop (suc i) fs = drop-cons fs i f h ∙ ap (λ (x : Form). x ∷ drop (suc i) fs) (sym is) in
    (λ j. fold op ((e ∙ ap (op v) (sym (form_constant f))) j) (constants (drop (add-one i j) fs)))
    ∙ sym (ap (λ (xs : List Form). fold op v (constants xs)) cut)

-- nothing is left behind the last
drop_all : (fs : List Form) (i : ℕ) → length fs ≤ i → drop i fs ≡ []
drop_all [] zero h = refl
drop_all [] (suc i) h = refl
drop_all (f ∷ fs) zero h = absurd (omega (arith, h))
drop_all (f ∷ fs) (suc i) h = drop_all fs i (omega (arith, h))

-- all forms are taken in at the end
pub folded_all : (op : ℤ → ℤ → ℤ) (fs : List Form) (i : ℕ) (v : ℤ) → length fs ≤ i → v ≡ fold op v (constants (drop i fs))
folded_all op fs i v h = sym (ap (λ (xs : List Form). fold op v (constants xs)) (drop_all fs i h))

take_whole : (fs : List Form) (n : ℕ) → n ≡ length fs → take n fs ≡ fs
take_whole [] zero e = refl
take_whole [] (suc n) e = refl
take_whole (f ∷ fs) zero e = absurd (omega (arith, e))
take_whole (f ∷ fs) (suc n) e = ap (λ (gs : List Form). f ∷ gs) (take_whole fs n (omega (arith, e)))

-- the forms behind the first
abbrev pub others : List Form → List Form
others fs = take (length fs - 1) (drop 1 fs)

-- the first form and the others
pub largest_is : (fs gs : List Form) (f : Form) → 1 ≤ length fs → f ≡ get_or fs 0 f → fs ≡ gs → fold int_max f.constant (constants (others fs)) ≡ largest no_symbols gs
largest_is [] gs f h is e = absurd (omega (arith, h))
largest_is (x ∷ fs) gs f h is e =
    ap (λ (ys : List Form). fold int_max f.constant (constants ys)) (take_whole fs (length (x ∷ fs) - 1) (omega arith))
    ∙ ap (λ (y : Form). fold int_max y.constant (constants fs)) is ∙ ap (λ (z : ℤ). fold int_max z (constants fs)) (sym (form_constant x)) ∙ ap (largest no_symbols) e

pub smallest_is : (fs gs : List Form) (f : Form) → 1 ≤ length fs → f ≡ get_or fs 0 f → fs ≡ gs → fold int_min f.constant (constants (others fs)) ≡ smallest no_symbols gs
smallest_is [] gs f h is e = absurd (omega (arith, h))
smallest_is (x ∷ fs) gs f h is e =
    ap (λ (ys : List Form). fold int_min f.constant (constants ys)) (take_whole fs (length (x ∷ fs) - 1) (omega arith))
    ∙ ap (λ (y : Form). fold int_min y.constant (constants fs)) is ∙ ap (λ (z : ℤ). fold int_min z (constants fs)) (sym (form_constant x)) ∙ ap (smallest no_symbols) e
