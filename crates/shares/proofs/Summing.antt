-- Values of forms, computed modulo 2^64.
use Rattle.std.proofs.Common.{◌≡◌, ℕ, ◌+◌, ◌-◌, ◌*◌, ◌%◌, ◌<◌, ◌≤◌, List, [], ◌∷◌, ◌++◌, length, take, drop, map, fold, get_or, sym, ap, ◌∙◌, arith, ℤ, ◌+ℤ◌, ◌*ℤ◌, w64, SFits, to_z, of_z}
use Rattle.std.specs.Int.{int_wrap, int_max, int_min}
use Rattle.plan.specs.Symbols.{Symbols, form_value, largest, smallest}
use Rattle.std.proofs.lemmas.Grind.{common_steps}
use Rattle.std.proofs.lemmas.List.{take_more, map-append}
use Rattle.std.proofs.lemmas.List.Sums.{fold_push}
use Rattle.std.proofs.lemmas.Int.{wrapping_add_is, wrapping_add_onto, wrapping_mul_is, int_wrap-add_left, int_wrap-add_right, int_wrap_fits}
use Rattle.lin.specs.Forms.{Form, sum_of}
use Rattle.lin.specs.declared.form.Multiple.{Multiple}

pub rest_of : {A : Type 0} (x : A) (xs : List A) → take (length (x ∷ xs) - 1) (drop 1 (x ∷ xs)) ≡ xs
rest_of x xs = grind (arith, common_steps)

-- a number and a sum modulo 2^64
pub wrapped_sum : (a r t : ℤ) → SFits w64 a → SFits w64 r → r ≡ int_wrap w64 t → SFits w64 (a +ℤ t) → to_z w64 ((of_z w64 a + of_z w64 r) % 18446744073709551616) ≡ a +ℤ t
wrapped_sum a r t f g e h = wrapping_add_is w64 a r f g ∙ ap (λ (z : ℤ). int_wrap w64 (a +ℤ z)) e ∙ int_wrap-add_right w64 a t ∙ int_wrap_fits w64 (a +ℤ t) h

-- one multiple more
pub wrapped_step : (f v r t : ℤ) → SFits w64 f → SFits w64 v → SFits w64 r → r ≡ int_wrap w64 t →
    to_z w64 ((of_z w64 f * of_z w64 v % 18446744073709551616 + of_z w64 r) % 18446744073709551616) ≡ int_wrap w64 (f *ℤ v +ℤ t)
wrapped_step f v r t p q s e =
    let m : ℕ = of_z w64 f * of_z w64 v % 18446744073709551616 in
    let below : m < 18446744073709551616 = omega arith in
    wrapping_add_onto w64 m r below s
    ∙ (λ j. int_wrap w64 (wrapping_mul_is w64 f v p q j +ℤ e j))
    ∙ int_wrap-add_left w64 (f *ℤ v) (int_wrap w64 t) ∙ int_wrap-add_right w64 (f *ℤ v) t

pub sum_first : (ts : List Multiple) (v : ℕ → ℤ) (d : Multiple) → 1 ≤ length ts →
    sum_of ts v ≡ (get_or ts 0 d).factor *ℤ v (get_or ts 0 d).symbol +ℤ sum_of (take (length ts - 1) (drop 1 ts)) v
sum_first [] v d h = absurd (omega arith)
sum_first (t ∷ ts) v d h = ap (λ (us : List Multiple). t.factor *ℤ v t.symbol +ℤ sum_of us v) (sym (rest_of t ts))

-- one form more
pub fold_next : (m : ℤ → ℤ → ℤ) (f : Form → ℤ) (a : ℤ) (xs : List Form) (i : ℕ) (d : Form) (r u w : ℤ) → i < length xs → d ≡ get_or xs i d → r ≡ m u w → u ≡ fold m a (map f (take i xs)) → w ≡ f d
    → r ≡ fold m a (map f (take (i + 1) xs))
fold_next m f a xs i d r u w lt is e g h =
    e ∙ (λ j. m (g j) (h j)) ∙ sym (fold_push m a (map f (take i xs)) (f d))
    ∙ ap (fold m a) (sym (ap (map f) (take_more xs i d lt ∙ ap (λ (y : Form). take i xs ++ y ∷ []) (sym is)) ∙ map-append f (take i xs) (d ∷ [])))

pub largest_first : (s : Symbols) (fs : List Form) (d : Form) → 1 ≤ length fs → fold int_max (form_value (get_or fs 0 d) s) (map (λ m. form_value m s) (take (length fs - 1) (drop 1 fs))) ≡ largest s fs
largest_first s [] d h = absurd (omega arith)
largest_first s (f ∷ fs) d h = ap (λ (gs : List Form). fold int_max (form_value f s) (map (λ m. form_value m s) gs)) (rest_of f fs)

pub smallest_first : (s : Symbols) (fs : List Form) (d : Form) → 1 ≤ length fs → fold int_min (form_value (get_or fs 0 d) s) (map (λ m. form_value m s) (take (length fs - 1) (drop 1 fs))) ≡ smallest s fs
smallest_first s [] d h = absurd (omega arith)
smallest_first s (f ∷ fs) d h = ap (λ (gs : List Form). fold int_min (form_value f s) (map (λ m. form_value m s) gs)) (rest_of f fs)
