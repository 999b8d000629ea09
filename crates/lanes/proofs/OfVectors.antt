-- What lanes hold, place by place, and what a store of them leaves.
use Rattle.std.proofs.Common.{◌≡◌, ℕ, ◌+◌, ◌-◌, ◌*◌, ◌%◌, ◌^◌, ◌<◌, ◌≤◌, List, ℤ, pos, length, get_or, inl, inr, sym, ap, subst, ◌∙◌, arith, rules, Fits, w8, w16, w32}
use Rattle.std.specs.Int.{Width}
use Rattle.std.specs.Simd.Lanes.{chunk, put_chunk, zip2, Each1}
use Rattle.std.proofs.lemmas.Bool.{cases_lt}
use Rattle.std.proofs.lemmas.Grind.{common_steps}
use Rattle.std.proofs.lemmas.Int.{ints}
use Rattle.std.proofs.lemmas.Simd.{get_or-zip2, length-zip2, Each1-get_or, get_or-chunk, get_or-put_chunk_below, get_or-put_chunk_at, length-chunk, chunk-fits}
use native.Mathlib.Nat.{mod-eq_of_lt}
use Rattle.numeric.specs.declared.ty.Ty.TheVariants.{U8, U16, U32}
use Rattle.numeric.specs.declared.op.Op.TheVariants.{Add, Sub, Mul}
use Rattle.numeric.specs.Wrap.{wrap, lowered}
use Rattle.numeric.specs.Apply.{apply}
use Rattle.numeric.proofs.Wraps.{wrap_of_value}
use Rattle.lanes.specs.Applied.{AppliesBelow}

-- each of n lanes holds the operator of the lanes of `a` and `b` there, as numbers
record Lanes {A : Type 0} (n : ℕ) (value : A → ℤ) (op : ℤ → ℤ → ℤ) (a b out : List A) : Type 0 where
  long : length out ≡ n
  each : AppliesBelow n value op a b out

-- one more vector
stored : {A : Type 0} (value : A → ℤ) (op : ℤ → ℤ → ℤ) (at n : ℕ) (a b out v : List A) → at + n ≤ length out
    → AppliesBelow at value op a b out → Lanes n value op (chunk at n a) (chunk at n b) v → AppliesBelow (at + n) value op a b (put_chunk at out v)
stored {A = A} value op at n a b out v room done lanes k d lt = elim (cases_lt k at) [ inl h ↦ below h | inr h ↦ above h ]
  where
    below : k < at → value (get_or (put_chunk at out v) k d) ≡ op (value (get_or a k d)) (value (get_or b k d))
    below h = ap value (get_or-put_chunk_below at out v k d h) ∙ done k d h

    above : at ≤ k → value (get_or (put_chunk at out v) k d) ≡ op (value (get_or a k d)) (value (get_or b k d))
    above h =
        let j = k - at in
        let is : at + j ≡ k = omega arith in
        let small : j < n = omega arith in
        let long = lanes.long in
        let put = get_or-put_chunk_at at out v j d (omega arith) (omega arith) in
        let left = get_or-chunk at n a j d small in
        let right = get_or-chunk at n b j d small in
        subst (λ m. value (get_or (put_chunk at out v) m d) ≡ op (value (get_or a m d)) (value (get_or b m d))) is
        (ap value put ∙ lanes.each j d small ∙ (λ i. op (value (left i)) (value (right i))))

-- what a vector of values without a sign holds, where each lane is computed from two
lanes_of : (w : Width) (op : ℤ → ℤ → ℤ) (f : ℕ → ℕ → ℕ) (n : ℕ) (xs ys : List ℕ) → (length xs ≡ n) × Each1 (Fits w) xs → (length ys ≡ n) × Each1 (Fits w) ys
    → ((x y : ℕ) → Fits w x → Fits w y → pos (f x y) ≡ op (pos x) (pos y)) → Lanes n pos op xs ys (zip2 f xs ys)
lanes_of w op f n xs ys p q is =
    let l = p.0 in
    let m = q.0 in
    record {
      long = length-zip2 f xs ys (l ∙ sym m) ∙ l;
      each = λ k d lt.
          let in_xs : k < length xs = omega arith in
          let in_ys : k < length ys = omega arith in
          ap pos (get_or-zip2 f xs ys k d d d in_xs in_ys)
          ∙ is (get_or xs k d) (get_or ys k d) (Each1-get_or (Fits w) xs k d in_xs p.1) (Each1-get_or (Fits w) ys k d in_ys q.1);
    }

-- a number without a sign wraps to its remainder
rest_u8 : (m : ℕ) → pos (m % 2 ^ 8) ≡ wrap U8 (pos m)
rest_u8 m =
    let r = m % 2 ^ 8 in
    let small : r < 2 ^ 8 = omega arith in
    sym (wrap_of_value U8 (pos r) (record { from = omega (arith, ints); to = omega (arith, ints) })) ∙ ap (λ x. lowered U8 (pos x)) (mod-eq_of_lt small)

rest_u16 : (m : ℕ) → pos (m % 2 ^ 16) ≡ wrap U16 (pos m)
rest_u16 m =
    let r = m % 2 ^ 16 in
    let small : r < 2 ^ 16 = omega arith in
    sym (wrap_of_value U16 (pos r) (record { from = omega (arith, ints); to = omega (arith, ints) })) ∙ ap (λ x. lowered U16 (pos x)) (mod-eq_of_lt small)

rest_u32 : (m : ℕ) → pos (m % 2 ^ 32) ≡ wrap U32 (pos m)
rest_u32 m =
    let r = m % 2 ^ 32 in
    let small : r < 2 ^ 32 = omega arith in
    sym (wrap_of_value U32 (pos r) (record { from = omega (arith, ints); to = omega (arith, ints) })) ∙ ap (λ x. lowered U32 (pos x)) (mod-eq_of_lt small)

-- what a load of n places from a list of values without a sign holds
loaded : (w : Width) (at n : ℕ) (xs : List ℕ) → at + n ≤ length xs → ((k : ℕ) → Fits w (get_or xs k 0)) → (length (chunk at n xs) ≡ n) × Each1 (Fits w) (chunk at n xs)
loaded w at n xs room fits = (length-chunk at n xs room, chunk-fits w at n xs fits)

-- a vector of lanes that are computed from two, and stored
whole : (w : Width) (op : ℤ → ℤ → ℤ) (f : ℕ → ℕ → ℕ) (n : ℕ) → ((x y : ℕ) → Fits w x → Fits w y → pos (f x y) ≡ op (pos x) (pos y))
    → (at : ℕ) (a b out : List ℕ) → at + n ≤ length a → at + n ≤ length b → at + n ≤ length out → ((k : ℕ) → Fits w (get_or a k 0)) → ((k : ℕ) → Fits w (get_or b k 0))
    → AppliesBelow at pos op a b out → AppliesBelow (at + n) pos op a b (put_chunk at out (zip2 f (chunk at n a) (chunk at n b)))
whole w op f n is at a b out in_a in_b in_out fit_a fit_b done =
    stored pos op at n a b out (zip2 f (chunk at n a) (chunk at n b)) in_out done
    (lanes_of w op f n (chunk at n a) (chunk at n b) (loaded w at n a in_a fit_a) (loaded w at n b in_b fit_b) is)

difference_u8 : (x y : ℕ) → Fits w8 x → Fits w8 y → pos ((x + (256 - y)) % 256) ≡ apply Sub U8 (pos x) (pos y)
difference_u8 x y f g = first_of (search rules, grind (arith, common_steps))

difference_u16 : (x y : ℕ) → Fits w16 x → Fits w16 y → pos ((x + (65536 - y)) % 65536) ≡ apply Sub U16 (pos x) (pos y)
difference_u16 x y f g = first_of (search rules, grind (arith, common_steps))

difference_u32 : (x y : ℕ) → Fits w32 x → Fits w32 y → pos ((x + (4294967296 - y)) % 4294967296) ≡ apply Sub U32 (pos x) (pos y)
difference_u32 x y f g = first_of (search rules, grind (arith, common_steps))

pub sums_u8 : (at : ℕ) (a b out : List ℕ) → at + 32 ≤ length a → at + 32 ≤ length b → at + 32 ≤ length out
    → ((k : ℕ) → Fits w8 (get_or a k 0)) → ((k : ℕ) → Fits w8 (get_or b k 0)) → AppliesBelow at pos (apply Add U8) a b out
    → AppliesBelow (at + 32) pos (apply Add U8) a b (put_chunk at out (zip2 (λ x y. (x + y) % 256) (chunk at 32 a) (chunk at 32 b)))
sums_u8 = whole w8 (apply Add U8) (λ x y. (x + y) % 256) 32 (λ x y f g. rest_u8 (x + y))

pub sums_u16 : (at : ℕ) (a b out : List ℕ) → at + 16 ≤ length a → at + 16 ≤ length b → at + 16 ≤ length out
    → ((k : ℕ) → Fits w16 (get_or a k 0)) → ((k : ℕ) → Fits w16 (get_or b k 0)) → AppliesBelow at pos (apply Add U16) a b out
    → AppliesBelow (at + 16) pos (apply Add U16) a b (put_chunk at out (zip2 (λ x y. (x + y) % 65536) (chunk at 16 a) (chunk at 16 b)))
sums_u16 = whole w16 (apply Add U16) (λ x y. (x + y) % 65536) 16 (λ x y f g. rest_u16 (x + y))

pub sums_u32 : (at : ℕ) (a b out : List ℕ) → at + 8 ≤ length a → at + 8 ≤ length b → at + 8 ≤ length out
    → ((k : ℕ) → Fits w32 (get_or a k 0)) → ((k : ℕ) → Fits w32 (get_or b k 0)) → AppliesBelow at pos (apply Add U32) a b out
    → AppliesBelow (at + 8) pos (apply Add U32) a b (put_chunk at out (zip2 (λ x y. (x + y) % 4294967296) (chunk at 8 a) (chunk at 8 b)))
sums_u32 = whole w32 (apply Add U32) (λ x y. (x + y) % 4294967296) 8 (λ x y f g. rest_u32 (x + y))

pub differences_u8 : (at : ℕ) (a b out : List ℕ) → at + 32 ≤ length a → at + 32 ≤ length b → at + 32 ≤ length out
    → ((k : ℕ) → Fits w8 (get_or a k 0)) → ((k : ℕ) → Fits w8 (get_or b k 0)) → AppliesBelow at pos (apply Sub U8) a b out
    → AppliesBelow (at + 32) pos (apply Sub U8) a b (put_chunk at out (zip2 (λ x y. (x + (256 - y)) % 256) (chunk at 32 a) (chunk at 32 b)))
differences_u8 = whole w8 (apply Sub U8) (λ x y. (x + (256 - y)) % 256) 32 difference_u8

pub differences_u16 : (at : ℕ) (a b out : List ℕ) → at + 16 ≤ length a → at + 16 ≤ length b → at + 16 ≤ length out
    → ((k : ℕ) → Fits w16 (get_or a k 0)) → ((k : ℕ) → Fits w16 (get_or b k 0)) → AppliesBelow at pos (apply Sub U16) a b out
    → AppliesBelow (at + 16) pos (apply Sub U16) a b (put_chunk at out (zip2 (λ x y. (x + (65536 - y)) % 65536) (chunk at 16 a) (chunk at 16 b)))
differences_u16 = whole w16 (apply Sub U16) (λ x y. (x + (65536 - y)) % 65536) 16 difference_u16

pub differences_u32 : (at : ℕ) (a b out : List ℕ) → at + 8 ≤ length a → at + 8 ≤ length b → at + 8 ≤ length out
    → ((k : ℕ) → Fits w32 (get_or a k 0)) → ((k : ℕ) → Fits w32 (get_or b k 0)) → AppliesBelow at pos (apply Sub U32) a b out
    → AppliesBelow (at + 8) pos (apply Sub U32) a b (put_chunk at out (zip2 (λ x y. (x + (4294967296 - y)) % 4294967296) (chunk at 8 a) (chunk at 8 b)))
differences_u32 = whole w32 (apply Sub U32) (λ x y. (x + (4294967296 - y)) % 4294967296) 8 difference_u32

pub products_u8 : (at : ℕ) (a b out : List ℕ) → at + 32 ≤ length a → at + 32 ≤ length b → at + 32 ≤ length out
    → ((k : ℕ) → Fits w8 (get_or a k 0)) → ((k : ℕ) → Fits w8 (get_or b k 0)) → AppliesBelow at pos (apply Mul U8) a b out
    → AppliesBelow (at + 32) pos (apply Mul U8) a b (put_chunk at out (zip2 (λ x y. (x * y) % 256) (chunk at 32 a) (chunk at 32 b)))
products_u8 = whole w8 (apply Mul U8) (λ x y. (x * y) % 256) 32 (λ x y f g. rest_u8 (x * y))

pub products_u16 : (at : ℕ) (a b out : List ℕ) → at + 16 ≤ length a → at + 16 ≤ length b → at + 16 ≤ length out
    → ((k : ℕ) → Fits w16 (get_or a k 0)) → ((k : ℕ) → Fits w16 (get_or b k 0)) → AppliesBelow at pos (apply Mul U16) a b out
    → AppliesBelow (at + 16) pos (apply Mul U16) a b (put_chunk at out (zip2 (λ x y. (x * y) % 65536) (chunk at 16 a) (chunk at 16 b)))
products_u16 = whole w16 (apply Mul U16) (λ x y. (x * y) % 65536) 16 (λ x y f g. rest_u16 (x * y))

pub products_u32 : (at : ℕ) (a b out : List ℕ) → at + 8 ≤ length a → at + 8 ≤ length b → at + 8 ≤ length out
    → ((k : ℕ) → Fits w32 (get_or a k 0)) → ((k : ℕ) → Fits w32 (get_or b k 0)) → AppliesBelow at pos (apply Mul U32) a b out
    → AppliesBelow (at + 8) pos (apply Mul U32) a b (put_chunk at out (zip2 (λ x y. (x * y) % 4294967296) (chunk at 8 a) (chunk at 8 b)))
products_u32 = whole w32 (apply Mul U32) (λ x y. (x * y) % 4294967296) 8 (λ x y f g. rest_u32 (x * y))
