-- The value of one operator, moved.
use Rattle.std.proofs.Common.{◌≡◌, ℕ, zero, suc, List, Bool, true, false, Option, Some, None, ℤ, pos, negsuc, neg_ℤ, ◌+ℤ◌, ◌-ℤ◌, ◌*ℤ◌, ◌≤ℤ◌, refl, sym, ap, ◌∙◌, subst, arith, ◌&&◌, if◌then◌else◌, IsTrue}
use Rattle.std.specs.Prelude.{int_le}
use Rattle.std.specs.Int.{int_max, int_min}
use Rattle.std.specs.Ordering.{int_eq}
use Rattle.std.proofs.lemmas.Bool.Decides.{Decides-int_eq, nat_tests}
use Rattle.std.proofs.lemmas.Int.{ints, clamps}
use Rattle.numeric.specs.declared.ty.Ty.TheVariants.{I32}
use Rattle.numeric.specs.declared.op.Op.{Op}
use Rattle.numeric.specs.declared.op.Op.TheVariants.{Add, Sub, Mul, Div, Rem, Min, Max}
use Rattle.numeric.specs.Wrap.{IsOf, wrap}
use Rattle.numeric.specs.Apply.{exact, quotient, remainder, Divides}
use Rattle.numeric.proofs.Wraps.{wrap_of_value, wraps_to}
use Rattle.numeric.proofs.Quotients.{divides, divides_only}
use Rattle.numeric.proofs.Ints.{distribute, distribute_right}
use Rattle.std.proofs.Math.IntN.{*ℤ_comm}
use Rattle.tree.specs.declared.value.Value.{Value}
use Rattle.tree.specs.Term.{Term, Number, Minus, Binary, Clamp}
use Rattle.tree.specs.Meaning.{value_of, typed, applied, clamped}
use Rattle.tree.specs.Typing.{is_of}
use Rattle.tree.proofs.Typed.{both_true, is_of-true}
use Rattle.crop.specs.declared.cut.Stretch.{Stretch}
use Rattle.crop.specs.Moving.{against, least, is_least, literal, number_in, multiple_in, plus, both_fit, clamp_to, Moving, plain_moved, sum_moved, difference_moved, product_moved, quotient_moved, remainder_moved, least_of, least_moved, greatest_of, greatest_moved, operator_moved, clamp_of, clamp_plain, clamp_moved}
use Rattle.crop.proofs.Rings.{Same, same, wrapped, sum, difference, product, through, wraps_alike, add_left}

some_number : (x y : ℤ) → Some x ≡ Some y → x ≡ y
some_number x y e = cc

guarded : (b : Bool) (m n : ℤ) → (if b then Some m else None) ≡ Some n → Some m ≡ Some n
guarded true m n h = h
guarded false m n h = cc

pub either : {A : Type 0} (P : A → Type 0) (b : Bool) (x y : A) → (b ≡ true → P x) → (b ≡ false → P y) → P (if b then x else y)
either P true x y h k = h refl
either P false x y h k = k refl

same_number : (x y : ℤ) → int_eq x y ≡ true → x ≡ y
same_number x y e = grind (arith, nat_tests, Decides-int_eq x y)

-- the least number of i32 is told by its test
pub least_told : (z : ℤ) → is_least z ≡ true → negsuc 2147483647 ≡ z
least_told z e = sym (same_number z (negsuc 2147483647) e)

-- the value lies between ends, if there are any
abbrev pub Within : Option Stretch → ℤ → Type 0
Within o z = (r : Stretch) → o ≡ Some r → (r.low ≤ℤ z) × (z ≤ℤ r.high)

-- a side that is a literal is its number
abbrev pub IsIf : Option ℤ → ℤ → Type 0
IsIf o z = (n : ℤ) → o ≡ Some n → z ≡ n

between_fits : (low z high : ℤ) → low ≤ℤ z → z ≤ℤ high → IsOf I32 low → IsOf I32 high → IsOf I32 z
between_fits low z high a b h k = record { from = omega (arith, ints, a, h.from); to = omega (arith, ints, b, k.to) }

fits_between : (c low high z : ℤ) → IsTrue (both_fit c low high) → low ≤ℤ z → z ≤ℤ high → IsOf I32 (z +ℤ c)
fits_between c low high z h a b =
    let t = both_true (is_of I32 (low +ℤ c)) (is_of I32 (high +ℤ c)) h in
    between_fits (low +ℤ c) (z +ℤ c) (high +ℤ c) (omega (arith, ints, a)) (omega (arith, ints, b)) (is_of-true I32 (low +ℤ c) t.0) (is_of-true I32 (high +ℤ c) t.1)

none_left : (i y : ℤ) → neg_ℤ i +ℤ i ≡ pos 0
none_left i y = omega (arith, ints)

cancelled : (i y : ℤ) → neg_ℤ i *ℤ y +ℤ i *ℤ y ≡ pos 0
cancelled i y =
    let nothing : pos 0 *ℤ y ≡ pos 0 = *ℤ_comm (pos 0) y ∙ omega (arith, ints) in
    sym (distribute_right (neg_ℤ i) i y) ∙ ap (λ z. z *ℤ y) (none_left i y) ∙ nothing

product_negated : (n q : ℤ) → n *ℤ neg_ℤ q +ℤ n *ℤ q ≡ pos 0
product_negated n q = (λ m. *ℤ_comm n (neg_ℤ q) m +ℤ *ℤ_comm n q m) ∙ cancelled q n

clamped_is : (x l u : ℤ) → IsOf I32 x → IsOf I32 l → IsOf I32 u → IsOf I32 (int_max (int_min x u) l)
clamped_is x l u ix il iu =
    let a = ix.from in let b = ix.to in let d = il.from in let e = il.to in let g = iu.from in let h = iu.to in
    record { from = omega (arith, ints, clamps, a, b, d, e, g, h); to = omega (arith, ints, clamps, a, b, d, e, g, h) }

module _ (v : List ℕ → ℤ) (k : List ℕ → List ℤ → Value) where
  -- an expression to which numbers are added
  abbrev pub Adds : Moving → ℤ → Type 0
  Adds f x = (c : ℤ) → value_of v k (f c) ≡ typed I32 (wrap I32 (x +ℤ c))

  pub at_none : (f : Moving) (x : ℤ) → IsOf I32 x → Adds f x → value_of v k (f (pos 0)) ≡ typed I32 x
  at_none f x i h = let e : x +ℤ pos 0 ≡ x = omega (arith, ints) in h (pos 0) ∙ ap (λ z. typed I32 (wrap I32 z)) e ∙ ap (typed I32) (wrap_of_value I32 x i)

  -- a number from 1 up taken away
  taken : (e : Term) (x : ℤ) (n : ℕ) → value_of v k e ≡ typed I32 (wrap I32 x) → value_of v k (Binary Sub e (Number I32 (pos (suc n)))) ≡ typed I32 (wrap I32 (x +ℤ negsuc n))
  taken e x n h =
      let q : wrap I32 x -ℤ pos (suc n) ≡ wrap I32 x +ℤ negsuc n = omega (arith, ints) in
      ap (λ u. applied Sub u (typed I32 (pos (suc n)))) h ∙ ap (λ z. typed I32 (wrap I32 z)) q ∙ ap (typed I32) (add_left x (negsuc n))

  -- the least number of i32, as it is written
  least_number-is : value_of v k least ≡ typed I32 (negsuc 2147483647)
  least_number-is = refl

  pub plus-is : (e : Term) (x c : ℤ) → value_of v k e ≡ typed I32 (wrap I32 x) → value_of v k (plus e c) ≡ typed I32 (wrap I32 (x +ℤ c))
  plus-is e x (pos zero) h = let q : x ≡ x +ℤ pos 0 = omega (arith, ints) in h ∙ ap (λ z. typed I32 (wrap I32 z)) q
  plus-is e x (pos (suc n)) h = ap (λ u. applied Add u (typed I32 (pos (suc n)))) h ∙ ap (typed I32) (add_left x (pos (suc n)))
  plus-is e x (negsuc n) h =
      let most = Binary Sub e (Number I32 (pos 2147483647)) in
      let q : (y : ℤ) → y +ℤ negsuc 2147483646 +ℤ negsuc 0 ≡ y +ℤ negsuc 2147483647 = λ y. omega (arith, ints) in
      either (λ t. value_of v k t ≡ typed I32 (wrap I32 (x +ℤ negsuc n))) (is_least (negsuc n)) (Binary Sub most (Number I32 (pos 1))) (Binary Sub e (Number I32 (pos (suc n))))
      (λ t. taken most (x +ℤ negsuc 2147483646) 0 (taken e x 2147483646 h) ∙ ap (λ z. typed I32 (wrap I32 z)) (q x ∙ ap (λ y. x +ℤ y) (least_told (negsuc n) t)))
      (λ t. taken e x n h)

  pub literal-is : (z : ℤ) → IsOf I32 z → value_of v k (literal z) ≡ typed I32 z
  literal-is (pos n) h = refl
  literal-is (negsuc n) h =
      either (λ t. value_of v k t ≡ typed I32 (negsuc n)) (is_least (negsuc n)) least (Minus (Number I32 (pos (suc n))))
      (λ t. least_number-is ∙ ap (typed I32) (least_told (negsuc n) t)) (λ t. ap (typed I32) (wrap_of_value I32 (negsuc n) h))

  pub number-is : (e : Term) (n : ℤ) → number_in e ≡ Some n → value_of v k e ≡ typed I32 n
  number-is (Number I32 m) n h = ap (typed I32) (some_number m n (guarded (is_of I32 m) m n h))
  number-is (Minus (Number I32 m)) n h = ap (typed I32) (some_number (against m) n (guarded (is_of I32 m) (against m) n h))
  number-is e n h = cc

  wrapped_is : (x c : ℤ) → IsOf I32 (x +ℤ c) → typed I32 (wrap I32 (x +ℤ c)) ≡ typed I32 (x +ℤ c)
  wrapped_is x c h = ap (typed I32) (wrap_of_value I32 (x +ℤ c) h)

  -- the number of the result, c added
  abbrev pub Gives : Term → ℤ → ℤ → Type 0
  Gives e z c = value_of v k e ≡ typed I32 (wrap I32 (z +ℤ c))

  -- a side that is a literal has its value
  abbrev pub Literally : Term → Option ℤ → Type 0
  Literally e o = (n : ℤ) → o ≡ Some n → value_of v k e ≡ typed I32 n

  literally : (e : Term) (o : Option ℤ) (z : ℤ) → Literally e o → IsIf o z → (n : ℤ) → o ≡ Some n → value_of v k e ≡ typed I32 z
  literally e o z h i n d = h n d ∙ ap (typed I32) (sym (i n d))

  module _ (c : ℤ) (f g : Moving) (x y : ℤ) (ix : IsOf I32 x) (iy : IsOf I32 y) (hf : Adds f x) (hg : Adds g y) where
    plain-is : (op : Op) → Gives (plain_moved op c f g) (exact op x y) c
    plain-is op = plus-is (Binary op (f (pos 0)) (g (pos 0))) (exact op x y) c (λ i. applied op (at_none f x ix hf i) (at_none g y iy hg i))

    away : (z i : ℤ) → Same (wrap I32 (z +ℤ against i)) (z +ℤ neg_ℤ i)
    away z i = through (wrap I32 (z +ℤ against i)) (z +ℤ against i) (z +ℤ neg_ℤ i) (wrapped (z +ℤ against i)) (sum z z (against i) (neg_ℤ i) (same z) (wrapped (neg_ℤ i)))

    pub sum-is : (p q : Option ℤ) (i j : ℤ) → IsIf p y → IsIf q x → Gives (sum_moved c p q i j f g) (x +ℤ y) c
    sum-is (Some n) q i j hp hq =
        let e = hp n refl in
        hf (wrap I32 (c +ℤ n)) ∙ ap (typed I32) (wraps_alike (x +ℤ wrap I32 (c +ℤ n)) (x +ℤ y +ℤ c) (x +ℤ (c +ℤ n)) (x +ℤ y +ℤ c)
        (sum x x (wrap I32 (c +ℤ n)) (c +ℤ n) (same x) (wrapped (c +ℤ n))) (same (x +ℤ y +ℤ c)) (omega (arith, ints, e)))
    sum-is None (Some n) i j hp hq =
        let e = hq n refl in
        hg (wrap I32 (c +ℤ n)) ∙ ap (typed I32) (wraps_alike (y +ℤ wrap I32 (c +ℤ n)) (x +ℤ y +ℤ c) (y +ℤ (c +ℤ n)) (x +ℤ y +ℤ c)
        (sum y y (wrap I32 (c +ℤ n)) (c +ℤ n) (same y) (wrapped (c +ℤ n))) (same (x +ℤ y +ℤ c)) (omega (arith, ints, e)))
    sum-is None None i j hp hq =
        let s = wrap I32 (x +ℤ against i) in
        let t = wrap I32 (y +ℤ against j) in
        let whole = plus-is (Binary Add (f (against i)) (g (against j))) (s +ℤ t) (wrap I32 (c +ℤ (i +ℤ j))) (λ n. applied Add (hf (against i) n) (hg (against j) n)) in
        whole ∙ ap (typed I32) (wraps_alike (s +ℤ t +ℤ wrap I32 (c +ℤ (i +ℤ j))) (x +ℤ y +ℤ c) ((x +ℤ neg_ℤ i) +ℤ (y +ℤ neg_ℤ j) +ℤ (c +ℤ (i +ℤ j))) (x +ℤ y +ℤ c)
        (sum (s +ℤ t) ((x +ℤ neg_ℤ i) +ℤ (y +ℤ neg_ℤ j)) (wrap I32 (c +ℤ (i +ℤ j))) (c +ℤ (i +ℤ j)) (sum s (x +ℤ neg_ℤ i) t (y +ℤ neg_ℤ j) (away x i) (away y j)) (wrapped (c +ℤ (i +ℤ j))))
        (same (x +ℤ y +ℤ c)) (omega (arith, ints)))

    difference-is : (p q : Option ℤ) (i j : ℤ) → IsIf p y → IsIf q x → Gives (difference_moved c p q i j f g) (x -ℤ y) c
    difference-is (Some n) q i j hp hq =
        let e = hp n refl in
        hf (wrap I32 (c -ℤ n)) ∙ ap (typed I32) (wraps_alike (x +ℤ wrap I32 (c -ℤ n)) (x -ℤ y +ℤ c) (x +ℤ (c -ℤ n)) (x -ℤ y +ℤ c)
        (sum x x (wrap I32 (c -ℤ n)) (c -ℤ n) (same x) (wrapped (c -ℤ n))) (same (x -ℤ y +ℤ c)) (omega (arith, ints, e)))
    difference-is None (Some n) i j hp hq =
        let e = hq n refl in
        let s = wrap I32 (c +ℤ (n -ℤ j)) in
        let t = wrap I32 (y +ℤ against j) in
        (λ m. applied Sub (literal-is s (wraps_to I32 (c +ℤ (n -ℤ j))).within m) (hg (against j) m))
        ∙ ap (typed I32) (wraps_alike (s -ℤ t) (x -ℤ y +ℤ c) ((c +ℤ (n -ℤ j)) -ℤ (y +ℤ neg_ℤ j)) (x -ℤ y +ℤ c)
        (difference s (c +ℤ (n -ℤ j)) t (y +ℤ neg_ℤ j) (wrapped (c +ℤ (n -ℤ j))) (away y j)) (same (x -ℤ y +ℤ c)) (omega (arith, ints, e)))
    difference-is None None i j hp hq =
        let s = wrap I32 (x +ℤ against i) in
        let t = wrap I32 (y +ℤ against j) in
        let whole = plus-is (Binary Sub (f (against i)) (g (against j))) (s -ℤ t) (wrap I32 (c +ℤ (i -ℤ j))) (λ n. applied Sub (hf (against i) n) (hg (against j) n)) in
        whole ∙ ap (typed I32) (wraps_alike (s -ℤ t +ℤ wrap I32 (c +ℤ (i -ℤ j))) (x -ℤ y +ℤ c) ((x +ℤ neg_ℤ i) -ℤ (y +ℤ neg_ℤ j) +ℤ (c +ℤ (i -ℤ j))) (x -ℤ y +ℤ c)
        (sum (s -ℤ t) ((x +ℤ neg_ℤ i) -ℤ (y +ℤ neg_ℤ j)) (wrap I32 (c +ℤ (i -ℤ j))) (c +ℤ (i -ℤ j)) (difference s (x +ℤ neg_ℤ i) t (y +ℤ neg_ℤ j) (away x i) (away y j)) (wrapped (c +ℤ (i -ℤ j))))
        (same (x -ℤ y +ℤ c)) (omega (arith, ints)))

    -- a sum and a product, each wrapped
    sum_of_product : (c i n : ℤ) → Same (wrap I32 (c +ℤ wrap I32 (i *ℤ n))) (c +ℤ i *ℤ n)
    sum_of_product c i n = through (wrap I32 (c +ℤ wrap I32 (i *ℤ n))) (c +ℤ wrap I32 (i *ℤ n)) (c +ℤ i *ℤ n) (wrapped (c +ℤ wrap I32 (i *ℤ n))) (sum c c (wrap I32 (i *ℤ n)) (i *ℤ n) (same c)
        (wrapped (i *ℤ n)))

    product-is : (a b : Term) (p q : Option ℤ) (i j : ℤ) → IsIf p y → IsIf q x → Literally a q → Literally b p → Gives (product_moved c p q i j a b f g) (x *ℤ y) c
    product-is a b (Some n) q i j hp hq ha hb =
        let e = hp n refl in
        let s = wrap I32 (x +ℤ against i) in
        let whole = plus-is (Binary Mul (f (against i)) b) (s *ℤ y) (wrap I32 (c +ℤ wrap I32 (i *ℤ n))) (λ m. applied Mul (hf (against i) m) (literally b (Some n) y hb hp n refl m)) in
        let spread = distribute_right x (neg_ℤ i) y in
        let cancels = cancelled i y in
        let same_factor : i *ℤ n ≡ i *ℤ y = ap (λ z. i *ℤ z) (sym e) in
        whole ∙ ap (typed I32) (wraps_alike (s *ℤ y +ℤ wrap I32 (c +ℤ wrap I32 (i *ℤ n))) (x *ℤ y +ℤ c) ((x +ℤ neg_ℤ i) *ℤ y +ℤ (c +ℤ i *ℤ n)) (x *ℤ y +ℤ c)
        (sum (s *ℤ y) ((x +ℤ neg_ℤ i) *ℤ y) (wrap I32 (c +ℤ wrap I32 (i *ℤ n))) (c +ℤ i *ℤ n) (product s (x +ℤ neg_ℤ i) y (away x i)) (sum_of_product c i n))
        (same (x *ℤ y +ℤ c)) (omega (arith, ints, spread, cancels, same_factor)))
    product-is a b None (Some n) i j hp hq ha hb =
        let e = hq n refl in
        let s = wrap I32 (y +ℤ against j) in
        let whole = plus-is (Binary Mul a (g (against j))) (x *ℤ s) (wrap I32 (c +ℤ wrap I32 (n *ℤ j))) (λ m. applied Mul (literally a (Some n) x ha hq n refl m) (hg (against j) m)) in
        let spread = distribute_right y (neg_ℤ j) x in
        let cancels = cancelled j x in
        let same_factor : n *ℤ j ≡ j *ℤ x = *ℤ_comm n j ∙ ap (λ z. j *ℤ z) (sym e) in
        let turned : x *ℤ s ≡ s *ℤ x = *ℤ_comm x s in
        let other : x *ℤ y ≡ y *ℤ x = *ℤ_comm x y in
        whole ∙ ap (λ z. typed I32 (wrap I32 (z +ℤ wrap I32 (c +ℤ wrap I32 (n *ℤ j))))) turned
        ∙ ap (typed I32) (wraps_alike (s *ℤ x +ℤ wrap I32 (c +ℤ wrap I32 (n *ℤ j))) (x *ℤ y +ℤ c) ((y +ℤ neg_ℤ j) *ℤ x +ℤ (c +ℤ n *ℤ j)) (x *ℤ y +ℤ c)
        (sum (s *ℤ x) ((y +ℤ neg_ℤ j) *ℤ x) (wrap I32 (c +ℤ wrap I32 (n *ℤ j))) (c +ℤ n *ℤ j) (product s (y +ℤ neg_ℤ j) x (away y j)) (sum_of_product c n j))
        (same (x *ℤ y +ℤ c)) (omega (arith, ints, spread, cancels, same_factor, other)))
    product-is a b None None i j hp hq ha hb = plain-is Mul

    -- ---- quotients
    is_multiple : (n : ℕ) (i : ℤ) → multiple_in (pos (suc n)) i ≡ pos (suc n) *ℤ quotient i (pos (suc n))
    is_multiple n i = let w = (divides i (pos (suc n)) (λ e. cc)).whole in omega (arith, ints, w)

    reduced_by : (n : ℕ) (q : ℤ) → Divides (x +ℤ neg_ℤ (pos (suc n) *ℤ q)) (pos (suc n)) (quotient x (pos (suc n)) +ℤ neg_ℤ q) (remainder x (pos (suc n)))
    reduced_by n q =
        let d = divides x (pos (suc n)) (λ e. cc) in
        let spread = distribute (pos (suc n)) (quotient x (pos (suc n))) (neg_ℤ q) in
        let turned = product_negated (pos (suc n)) q in
        let w = d.whole in
        record { whole = omega (arith, ints, spread, turned, w); from = d.from; below = d.below }

    reduced : (n : ℕ) (i : ℤ) → Divides (x +ℤ neg_ℤ (multiple_in (pos (suc n)) i)) (pos (suc n)) (quotient x (pos (suc n)) +ℤ neg_ℤ (quotient i (pos (suc n)))) (remainder x (pos (suc n)))
    reduced n i = subst (λ s. Divides (x +ℤ neg_ℤ s) (pos (suc n)) (quotient x (pos (suc n)) +ℤ neg_ℤ (quotient i (pos (suc n)))) (remainder x (pos (suc n)))) (sym (is_multiple n i))
        (reduced_by n (quotient i (pos (suc n))))

    quotient-is : (b : Term) (p : Option ℤ) (r : Option Stretch) (i : ℤ) → IsIf p y → Within r x → Literally b p → Gives (quotient_moved c p r i b f g) (quotient x y) c
    quotient-is b (Some (pos (suc n))) (Some r) i hp hr hb =
        let N = pos (suc n) in
        let q = quotient i N in
        let s = multiple_in N i in
        let inside = hr r refl in
        either (λ e. Gives e (quotient x y) c) (both_fit (neg_ℤ s) r.low r.high) (plus (Binary Div (f (against s)) b) (wrap I32 (c +ℤ q))) (plain_moved Div c f g)
        (λ fit.
        let small = fits_between (neg_ℤ s) r.low r.high x fit inside.0 inside.1 in
        let first : value_of v k (f (against s)) ≡ typed I32 (x +ℤ neg_ℤ s) = hf (against s)
        ∙ ap (typed I32) (wraps_alike (x +ℤ against s) (x +ℤ neg_ℤ s) (x +ℤ neg_ℤ s) (x +ℤ neg_ℤ s) (sum x x (against s) (neg_ℤ s) (same x) (wrapped (neg_ℤ s)))
        (same (x +ℤ neg_ℤ s)) refl) ∙ wrapped_is x (neg_ℤ s) small in
        let divided : quotient (x +ℤ neg_ℤ s) y ≡ quotient x y +ℤ neg_ℤ q = ap (quotient (x +ℤ neg_ℤ s)) (hp N refl)
        ∙ sym (divides_only (x +ℤ neg_ℤ s) N (quotient x N +ℤ neg_ℤ q) (remainder x N) (λ e. cc) (reduced n i)).0 ∙ ap (λ z. quotient x z +ℤ neg_ℤ q) (sym (hp N refl)) in
        let whole = plus-is (Binary Div (f (against s)) b) (quotient (x +ℤ neg_ℤ s) y) (wrap I32 (c +ℤ q)) (λ m. applied Div (first m) (literally b (Some N) y hb hp N refl m)) in
        whole ∙ ap (typed I32) (wraps_alike (quotient (x +ℤ neg_ℤ s) y +ℤ wrap I32 (c +ℤ q)) (quotient x y +ℤ c) (quotient (x +ℤ neg_ℤ s) y +ℤ (c +ℤ q)) (quotient x y +ℤ c)
        (sum (quotient (x +ℤ neg_ℤ s) y) (quotient (x +ℤ neg_ℤ s) y) (wrap I32 (c +ℤ q)) (c +ℤ q) (same (quotient (x +ℤ neg_ℤ s) y)) (wrapped (c +ℤ q))) (same (quotient x y +ℤ c))
        (omega (arith, ints, divided))))
        (λ none. plain-is Div)
    quotient-is b None r i hp hr hb = plain-is Div
    quotient-is b (Some (pos zero)) r i hp hr hb = plain-is Div
    quotient-is b (Some (negsuc n)) r i hp hr hb = plain-is Div
    quotient-is b (Some (pos (suc n))) None i hp hr hb = plain-is Div

    remainder-is : (b : Term) (p : Option ℤ) (r : Option Stretch) (i : ℤ) → IsIf p y → Within r x → Literally b p → Gives (remainder_moved c p r i b f g) (remainder x y) c
    remainder-is b (Some (pos (suc n))) (Some r) i hp hr hb =
        let N = pos (suc n) in
        let q = quotient i N in
        let s = multiple_in N i in
        let inside = hr r refl in
        either (λ e. Gives e (remainder x y) c) (both_fit (neg_ℤ s) r.low r.high) (plus (Binary Rem (f (against s)) b) c) (plain_moved Rem c f g)
        (λ fit.
        let small = fits_between (neg_ℤ s) r.low r.high x fit inside.0 inside.1 in
        let first : value_of v k (f (against s)) ≡ typed I32 (x +ℤ neg_ℤ s) = hf (against s)
        ∙ ap (typed I32) (wraps_alike (x +ℤ against s) (x +ℤ neg_ℤ s) (x +ℤ neg_ℤ s) (x +ℤ neg_ℤ s) (sum x x (against s) (neg_ℤ s) (same x) (wrapped (neg_ℤ s)))
        (same (x +ℤ neg_ℤ s)) refl) ∙ wrapped_is x (neg_ℤ s) small in
        let left : remainder (x +ℤ neg_ℤ s) y ≡ remainder x y = ap (remainder (x +ℤ neg_ℤ s)) (hp N refl)
        ∙ sym (divides_only (x +ℤ neg_ℤ s) N (quotient x N +ℤ neg_ℤ q) (remainder x N) (λ e. cc) (reduced n i)).1 ∙ ap (remainder x) (sym (hp N refl)) in
        plus-is (Binary Rem (f (against s)) b) (remainder x y) c ((λ m. applied Rem (first m) (literally b (Some N) y hb hp N refl m)) ∙ ap (λ z. typed I32 (wrap I32 z)) left))
        (λ none. plain-is Rem)
    remainder-is b None r i hp hr hb = plain-is Rem
    remainder-is b (Some (pos zero)) r i hp hr hb = plain-is Rem
    remainder-is b (Some (negsuc n)) r i hp hr hb = plain-is Rem
    remainder-is b (Some (pos (suc n))) None i hp hr hb = plain-is Rem

    -- ---- least and greatest
    least_of-is : (n : ℤ) (r : Stretch) → r.low ≤ℤ x → x ≤ℤ r.high → IsOf I32 n → int_min x n ≡ int_min x y → Gives (least_of c n r f) (int_min x y) c
    least_of-is n r below above i e =
        either (λ t. Gives t (int_min x y) c) (both_fit c r.low r.high && is_of I32 (n +ℤ c)) (Binary Min (f c) (literal (n +ℤ c))) (plus (Binary Min (f (pos 0)) (literal n)) c)
        (λ fit.
        let t = both_true (both_fit c r.low r.high) (is_of I32 (n +ℤ c)) fit in
        let first = hf c ∙ wrapped_is x c (fits_between c r.low r.high x t.0 below above) in
        let taken : int_min (x +ℤ c) (n +ℤ c) ≡ int_min x y +ℤ c = omega (arith, ints, clamps, e) in
        (λ m. applied Min (first m) (literal-is (n +ℤ c) (is_of-true I32 (n +ℤ c) t.1) m)) ∙ ap (λ z. typed I32 (wrap I32 z)) taken)
        (λ none. plus-is (Binary Min (f (pos 0)) (literal n)) (int_min x y) c ((λ m. applied Min (at_none f x ix hf m) (literal-is n i m)) ∙ ap (λ z. typed I32 (wrap I32 z)) e))

    least-is : (p : Option ℤ) (r : Option Stretch) → IsIf p y → Within r x → Gives (least_moved c p r f g) (int_min x y) c
    least-is (Some n) (Some r) hp hr =
        let e = hp n refl in
        let inside = hr r refl in
        let above = inside.1 in
        let ix1 = ix.from in let ix2 = ix.to in let iy1 = iy.from in let iy2 = iy.to in
        least_of-is (int_min n r.high) r inside.0 inside.1 (record { from = omega (arith, ints, clamps, e, above, ix1, iy1); to = omega (arith, ints, clamps, e, above, iy2) })
        (omega (arith, ints, clamps, e, above))
    least-is None r hp hr = plain-is Min
    least-is (Some n) None hp hr = plain-is Min

    greatest_of-is : (n : ℤ) (r : Stretch) → r.low ≤ℤ x → x ≤ℤ r.high → IsOf I32 n → int_max x n ≡ int_max x y → Gives (greatest_of c n r f) (int_max x y) c
    greatest_of-is n r below above i e =
        either (λ t. Gives t (int_max x y) c) (both_fit c r.low r.high && is_of I32 (n +ℤ c)) (Binary Max (f c) (literal (n +ℤ c))) (plus (Binary Max (f (pos 0)) (literal n)) c)
        (λ fit.
        let t = both_true (both_fit c r.low r.high) (is_of I32 (n +ℤ c)) fit in
        let first = hf c ∙ wrapped_is x c (fits_between c r.low r.high x t.0 below above) in
        let taken : int_max (x +ℤ c) (n +ℤ c) ≡ int_max x y +ℤ c = omega (arith, ints, clamps, e) in
        (λ m. applied Max (first m) (literal-is (n +ℤ c) (is_of-true I32 (n +ℤ c) t.1) m)) ∙ ap (λ z. typed I32 (wrap I32 z)) taken)
        (λ none. plus-is (Binary Max (f (pos 0)) (literal n)) (int_max x y) c ((λ m. applied Max (at_none f x ix hf m) (literal-is n i m)) ∙ ap (λ z. typed I32 (wrap I32 z)) e))

    greatest-is : (p : Option ℤ) (r : Option Stretch) → IsIf p y → Within r x → Gives (greatest_moved c p r f g) (int_max x y) c
    greatest-is (Some n) (Some r) hp hr =
        let e = hp n refl in
        let inside = hr r refl in
        let below = inside.0 in
        let ix1 = ix.from in let ix2 = ix.to in let iy1 = iy.from in let iy2 = iy.to in
        greatest_of-is (int_max n r.low) r inside.0 inside.1 (record { from = omega (arith, ints, clamps, e, below, iy1); to = omega (arith, ints, clamps, e, below, ix2, iy2) })
        (omega (arith, ints, clamps, e, below))
    greatest-is None r hp hr = plain-is Max
    greatest-is (Some n) None hp hr = plain-is Max

    pub operator-is : (op : Op) (a b : Term) (p q : Option ℤ) (r : Option Stretch) (i j : ℤ) → IsIf p x → IsIf q y → Within r x → Literally a p → Literally b q
        → Gives (operator_moved op c p q r i j a b f g) (exact op x y) c
    operator-is Add a b p q r i j hp hq hr ha hb = sum-is q p i j hq hp
    operator-is Sub a b p q r i j hp hq hr ha hb = difference-is q p i j hq hp
    operator-is Mul a b p q r i j hp hq hr ha hb = product-is a b q p i j hq hp ha hb
    operator-is Div a b p q r i j hp hq hr ha hb = quotient-is b q r i hq hr hb
    operator-is Rem a b p q r i j hp hq hr ha hb = remainder-is b q r i hq hr hb
    operator-is Min a b p q r i j hp hq hr ha hb = least-is q r hq hr
    operator-is Max a b p q r i j hp hq hr ha hb = greatest-is q r hq hr

  -- ---- clamps
  clamped-is : (c : ℤ) (f g h : Moving) (x l u : ℤ) → IsOf I32 x → IsOf I32 l → IsOf I32 u → Adds f x → Adds g l → Adds h u → Gives (clamp_plain c f g h) (int_max (int_min x u) l) c
  clamped-is c f g h x l u ix il iu hf hg hh =
      let z = int_max (int_min x u) l in
      let iz : IsOf I32 z = clamped_is x l u ix il iu in
      plus-is (Clamp (f (pos 0)) (g (pos 0)) (h (pos 0))) z c ((λ m. clamped (at_none f x ix hf m) (at_none g l il hg m) (at_none h u iu hh m)) ∙ ap (typed I32) (sym (wrap_of_value I32 z iz)))

  clamp_of-is : (c : ℤ) (f : Moving) (x l u l' u' : ℤ) (r : Stretch) → IsOf I32 x → IsOf I32 l → IsOf I32 u → Adds f x → r.low ≤ℤ x → x ≤ℤ r.high
      → int_max (int_min x u) l ≡ int_max (int_min x u') l'
      → Gives (clamp_of c l u r f) (int_max (int_min x u') l') c
  clamp_of-is c f x l u l' u' r ix il iu hf below above e =
      either (λ t. Gives t (int_max (int_min x u') l') c) (both_fit c r.low r.high && both_fit c l u) (Clamp (f c) (literal (l +ℤ c)) (literal (u +ℤ c))) (plus (Clamp (f (pos 0)) (literal l)
      (literal u)) c)
      (λ fit.
      let t = both_true (both_fit c r.low r.high) (both_fit c l u) fit in
      let s = both_true (is_of I32 (l +ℤ c)) (is_of I32 (u +ℤ c)) t.1 in
      let fx = fits_between c r.low r.high x t.0 below above in
      let fl = is_of-true I32 (l +ℤ c) s.0 in
      let fu = is_of-true I32 (u +ℤ c) s.1 in
      let first = hf c ∙ wrapped_is x c fx in
      let taken : int_max (int_min (x +ℤ c) (u +ℤ c)) (l +ℤ c) ≡ int_max (int_min x u') l' +ℤ c = omega (arith, ints, clamps, e) in
      let whole = clamped_is (x +ℤ c) (l +ℤ c) (u +ℤ c) fx fl fu in
      (λ m. clamped (first m) (literal-is (l +ℤ c) fl m) (literal-is (u +ℤ c) fu m)) ∙ ap (typed I32) (sym (wrap_of_value I32 (int_max (int_min (x +ℤ c) (u +ℤ c)) (l +ℤ c)) whole))
      ∙ ap (λ z. typed I32 (wrap I32 z)) taken)
      (λ none.
      let z = int_max (int_min x u) l in
      plus-is (Clamp (f (pos 0)) (literal l) (literal u)) (int_max (int_min x u') l') c
      ((λ m. clamped (at_none f x ix hf m) (literal-is l il m) (literal-is u iu m)) ∙ ap (typed I32) (sym (wrap_of_value I32 z (clamped_is x l u ix il iu))) ∙ ap (λ z. typed I32 (wrap I32 z)) e))

  pub clamp-is : (c : ℤ) (f g h : Moving) (x l u : ℤ) (p q : Option ℤ) (r : Option Stretch) → IsOf I32 x → IsOf I32 l → IsOf I32 u → Adds f x → Adds g l → Adds h u → IsIf p l → IsIf q u
      → Within r x
      → Gives (clamp_moved c p q r f g h) (int_max (int_min x u) l) c
  clamp-is c f g h x l u (Some m) (Some n) (Some r) ix il iu hf hg hh hp hq hr =
      let inside = hr r refl in
      either (λ t. Gives t (int_max (int_min x u) l) c) (int_le m n) (clamp_of c (clamp_to m n r.low) (clamp_to m n r.high) r f) (clamp_plain c f g h)
      (λ order.
      let a = hp m refl in let b = hq n refl in
      let low = inside.0 in let high = inside.1 in
      let l1 = il.from in let l2 = il.to in let u1 = iu.from in let u2 = iu.to in
      clamp_of-is c f x (clamp_to m n r.low) (clamp_to m n r.high) l u r ix
      (record { from = omega (arith, ints, clamps, a, b, order, l1, l2, u1, u2); to = omega (arith, ints, clamps, a, b, order, l1, l2, u1, u2) })
      (record { from = omega (arith, ints, clamps, a, b, order, l1, l2, u1, u2); to = omega (arith, ints, clamps, a, b, order, l1, l2, u1, u2) })
      hf inside.0 inside.1 (omega (arith, ints, clamps, a, b, order, low, high)))
      (λ none. clamped-is c f g h x l u ix il iu hf hg hh)
  clamp-is c f g h x l u None q r ix il iu hf hg hh hp hq hr = clamped-is c f g h x l u ix il iu hf hg hh
  clamp-is c f g h x l u (Some m) None r ix il iu hf hg hh hp hq hr = clamped-is c f g h x l u ix il iu hf hg hh
  clamp-is c f g h x l u (Some m) (Some n) None ix il iu hf hg hh hp hq hr = clamped-is c f g h x l u ix il iu hf hg hh
