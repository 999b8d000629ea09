-- Samples whose colours stand side by side.
use Rattle.std.proofs.Common.{◌≡◌, ◌≢◌, ℕ, zero, suc, ◌+◌, ◌*◌, ◌/◌, ◌%◌, ◌<◌, ◌≤◌, List, length, get_or, set, inl, inr, sym, ap, subst, ◌∙◌, arith, get_or-set_same, get_or-set_other}
use Rattle.std.proofs.Math.Nat.{div-lt_iff_lt-mul, mod-lt, mul-le-mul_right, mul_comm}
use Rattle.std.proofs.lemmas.Bool.{cases_lt}
use Rattle.std.proofs.lemmas.Nat.{div-add-mod', div-mul-add, mod-mul-add}

-- a colour of a pixel is one of the samples
pub place_below : (k c pixels colours : ℕ) → k < pixels → c < colours → k * colours + c < pixels * colours
place_below k c n m h g = let far : suc k * m ≤ n * m = mul-le-mul_right m (omega arith) in omega arith

-- the plane of a colour ends where the next begins
pub plane_within : (c pixels colours : ℕ) → c < colours → c * pixels ≤ pixels * colours
plane_within c n m g =
    let far : c * n ≤ m * n = mul-le-mul_right n (omega arith) in
    let turned : m * n ≡ n * m = mul_comm m n in
    omega (arith, far, turned)

-- at one place one pixel and one colour stand
pub same_pixel : (k l c d m : ℕ) → c < m → d < m → k * m + c ≡ l * m + d → k ≡ l
same_pixel k l c d m g h e = sym (div-mul-add k m c g) ∙ ap (λ n. n / m) e ∙ div-mul-add l m d h

pub same_colour : (k l c d m : ℕ) → c < m → d < m → k * m + c ≡ l * m + d → c ≡ d
same_colour k l c d m g h e = sym (mod-mul-add k m c g) ∙ ap (λ n. n % m) e ∙ mod-mul-add l m d h

module _ (samples : List ℕ) (m colour pixel v : ℕ) (below : colour < m) where
  -- once one more sample of a colour is written
  pub one_more : (word : ℕ → ℕ) → pixel * m + colour < length samples → v + 1 ≡ word pixel → ((k : ℕ) → k < pixel → get_or samples (k * m + colour) 0 + 1 ≡ word k)
      → (k : ℕ) → k < pixel + 1 → get_or (set samples (pixel * m + colour) v) (k * m + colour) 0 + 1 ≡ word k
  one_more word room is had k lt = elim (cases_lt k pixel) [
    | inl before ↦
        let other = get_or-set_other samples (pixel * m + colour) (k * m + colour) v 0 (λ e. let one = same_pixel k pixel colour colour m below below e in omega (arith, before, one)) in
        ap (λ (n : ℕ). n + 1) other ∙ had k before
    | inr past ↦
        let same : k ≡ pixel = omega (arith, past, lt) in
        ap (λ (n : ℕ). get_or (set samples (pixel * m + colour) v) (n * m + colour) 0 + 1) same
        ∙ ap (λ (n : ℕ). n + 1) (get_or-set_same samples (pixel * m + colour) v 0 room) ∙ is ∙ ap word (sym same)
  ]

  -- the samples of the other colours stay
  pub others_stay : (k c : ℕ) → c < m → c ≢ colour → get_or (set samples (pixel * m + colour) v) (k * m + c) 0 ≡ get_or samples (k * m + c) 0
  others_stay k c g apart = get_or-set_other samples (pixel * m + colour) (k * m + c) v 0 (λ e. apart (same_colour k pixel c colour m g below e))

-- where each colour of each pixel is what it shall be, each sample is
pub by_colours : (P : ℕ → Type 0) (pixels colours n : ℕ) → ((k c : ℕ) → k < pixels → c < colours → P (k * colours + c)) → n < pixels * colours → P n
by_colours P n m i each lt =
    let some : 0 < m = positive m lt in
    subst P (div-add-mod' i m) (each (i / m) (i % m) ((div-lt_iff_lt-mul some).1 lt) (mod-lt i some))
  where
    positive : (m : ℕ) → i < n * m → 0 < m
    positive zero h = absurd (omega arith)
    positive (suc m) h = omega arith
